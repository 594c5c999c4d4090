-- The rows so far are those that were asked for.
use Rattle.std.proofs.Common.{◌≡◌, map, take}
use Rattle.bounded.specs.Rows.{rows_of}
use Rattle.node.specs.Meanings.{row_of}
use Rattle.payload.specs.Asked.{row_asked}
use Rattle.payload.proofs.making.table_of.Given as goal

abbrev pub invariant-loop-row : goal.invariant-loop-row
invariant-loop-row g l = map (row_of g.A.Asked.made) (rows_of l.table) ≡ map (row_asked g.A.Asked.asked) (take l.row-index l.rows)
