use Rattle.std.proofs.lemmas.Grind.{common_steps}
use Rattle.std.proofs.Common.{◌+◌, length, ap, arith}
use Rattle.node.specs.Meanings.{row_of}
use Rattle.node.proofs.Tables.{few-rows}
use Rattle.serialization.specs.Formats.{row_bytes}
use Rattle.serialization.specs.Fitting.{FitsRow}
use Rattle.serialization.proofs.Writing.{puts_then}
use Rattle.serialization.proofs.Listed.{rooms, kept_more}
use Rattle.serialization.proofs.lists.TableRowPiece.put.Goals as goal

pub put-requires-in-loop-row : goal.put-requires-in-loop-row
put-requires-in-loop-row g c =
    let l = c.loop-row in
    let few = few-rows c.args.self.now in
    let n = ap length c.as_slice-row-items.ensures in
    let h = rooms l.row-index g.row.N (25 + g.V.Piece.most) (omega arith) in
    omega (arith, l.invariant.few, l.invariant.puts.ends, l.invariant.puts.room, c.put.ensures.puts.ends, c.put.ensures.puts.room, c.put.ensures.bound)

pub loop-row-preserved : goal.loop-row-preserved
loop-row-preserved g c =
    let v = g.V.Piece in
    let l = c.loop-row in
    let few = few-rows c.args.self.now in
    let n = ap length c.as_slice-row-items.ensures in
    let h = rooms l.row-index g.row.N (25 + g.V.Piece.most) (omega arith) in
    let p = c.put-in-loop-row.ensures in
    kept_more (row_of v.meaning) (row_bytes v.bytes) (FitsRow v.Fits) (25 + v.most) c.as_slice-row-items.result.now l.row-index c.put.new.to l.to c.put-in-loop-row.new.to c.row-item.result c.loop-row-test.true c.row-item.is l.invariant (omega (arith, c.put.ensures.puts.ends, c.put.ensures.puts.room, c.put.ensures.bound)) p.puts p.bound p.fits

pub returns-clause-puts : goal.returns-clause-puts
returns-clause-puts g c = grind (arith, common_steps, puts_then)
