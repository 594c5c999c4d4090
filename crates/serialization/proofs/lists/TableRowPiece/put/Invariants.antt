use Rattle.std.proofs.Common.{◌+◌}
use Rattle.node.specs.Meanings.{row_of}
use Rattle.serialization.specs.Formats.{row_bytes}
use Rattle.serialization.specs.Fitting.{FitsRow}
use Rattle.serialization.proofs.Listed.{Kept}
use Rattle.serialization.proofs.lists.TableRowPiece.put.Given as goal

-- the rows so far stand behind the count, and fit
abbrev pub invariant-loop-row : goal.invariant-loop-row
invariant-loop-row g l =
    let v = g.V.Piece in
    Kept (row_of v.meaning) (row_bytes v.bytes) (FitsRow v.Fits) (25 + v.most) l.row-items l.row-index l.initial.to l.to
