use Rattle.std.proofs.Common.{◌≡◌, ◌-◌, map, length}
use Rattle.bounded.specs.Rows.{rows_of}
use Rattle.node.specs.Meanings.{row_of}
use Rattle.serialization.specs.Parsing.{times}
use Rattle.serialization.specs.Formats.{parse_row}
use Rattle.serialization.proofs.Reading.{behind}
use Rattle.serialization.proofs.lists.TableRowPiece.take.Given as goal

-- the rows so far, and those that are still to be read, are all rows
abbrev pub invariant-loop : goal.invariant-loop
invariant-loop g l =
    let parse = parse_row g.V.Piece.parse in
    (length (rows_of l.rows) ≡ l.counter)
    × (behind parse (map (row_of g.V.Piece.meaning) (rows_of l.rows)) (l.count - l.counter) l.buf.now ≡ times parse l.count l.initial.buf.now)
