use Rattle.std.proofs.Common.{[], ◌∷◌, map, length, ap, ◌∙◌, arith, length-append}
use Rattle.std.proofs.lemmas.List.{map-append}
use Rattle.bounded.specs.Rows.{rows_of}
use Rattle.node.specs.Meanings.{row_of}
use Rattle.serialization.specs.Parsing.{times}
use Rattle.serialization.specs.Formats.{parse_row}
use Rattle.serialization.proofs.Reading.{rows_again, rows_stop, rows_end}
use Rattle.serialization.proofs.lists.TableRowPiece.take.Goals as goal

pub returns-in_err-row : goal.returns-in_err-row
returns-in_err-row g c = grind (arith, rows_stop)

pub loop-preserved : goal.loop-preserved
loop-preserved g c =
    let v = g.V.Piece in
    let parse = parse_row v.parse in
    let l = c.loop in
    let m = row_of v.meaning in
    let n = l.invariant.0 in
    let pushed = (rw c.unwrap.ensures at c.push.ensures).1 in (
      ap length pushed ∙ length-append (rows_of l.rows) (c.in_ok-row.row ∷ []) ∙ omega arith,
      rows_again parse c.in_ok-count.count l.counter (map m (rows_of l.rows)) l.buf.now (times parse c.in_ok-count.count c.take.new.buf.now) l.invariant.1 (map m (rows_of c.push.new.self)) (m c.in_ok-row.row) c.take-in-loop.new.buf.now c.loop-test.true c.in_ok-row.ensures (ap (map m) pushed ∙ map-append m (rows_of l.rows) (c.in_ok-row.row ∷ [])),
    )

pub returns : goal.returns
returns g c = grind (arith, rows_end)
