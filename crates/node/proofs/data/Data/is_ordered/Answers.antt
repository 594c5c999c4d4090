use Rattle.std.proofs.Common.{sym, ap, ◌∙◌}
use Rattle.bounded.specs.Rows.{rows_of}
use Rattle.keyed.specs.Rows.{rising}
use Rattle.keyed.proofs.Meanings.{map-rising}
use Rattle.node.specs.Nodes.{by_key, ordered_rows}
use Rattle.node.specs.Meanings.{leaf_row, index_row, data_of}
use Rattle.node.proofs.data.Data.is_ordered.Goals as goal

pub returns-in-Index : goal.returns-in-Index
returns-in-Index c =
    c.is_rising.ensures ∙ ap (rising (λ x y. by_key (index_row x) (index_row y))) c.as_slice.ensures ∙ map-rising index_row by_key (rows_of c.in-Index.rows) ∙ ap (λ d. ordered_rows (data_of d)) (sym c.in-Index.is)

pub returns-in-Leaf : goal.returns-in-Leaf
returns-in-Leaf c =
    c.is_rising-in-Leaf.ensures ∙ ap (rising (λ x y. by_key (leaf_row x) (leaf_row y))) c.as_slice-in-Leaf.ensures ∙ map-rising leaf_row by_key (rows_of c.in-Leaf.rows) ∙ ap (λ d. ordered_rows (data_of d)) (sym c.in-Leaf.is)
