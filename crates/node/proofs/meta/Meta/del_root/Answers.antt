use Rattle.std.proofs.Common.{◌≡◌, ap, ◌∙◌, rules}
use Rattle.std.specs.Option.{option_map}
use Rattle.bounded.specs.Bytes.{bytes_of}
use Rattle.bounded.specs.Rows.{rows_of}
use Rattle.node.specs.Links.{page_of}
use Rattle.node.specs.Meanings.{index_row}
use Rattle.node.proofs.Tables.{cut_done, page-is}
use Rattle.node.proofs.meta.Meta.del_root.Goals as goal

pub invariant_of-self : goal.invariant_of-self
invariant_of-self c =
    let m = c.args.self.now in
    record { ruled = (cut_done index_row _ (rows_of m.roots) (rows_of c.remove_row.new.table) c.remove_row.result m.ruled c.remove_row.ensures).1 }

pub returns : goal.returns
returns c =
    let m = c.args.self.now in
    let h = cut_done index_row (bytes_of c.args.name.now) (rows_of m.roots) (rows_of c.remove_row.new.table) c.remove_row.result m.ruled c.remove_row.ensures in
    let v : c.map.result ≡ option_map (λ r. r.value) c.remove_row.result = search rules in
    record { after = h.0; value = page-is c.remove_row.result c.map.result v ∙ ap page_of h.2 }
