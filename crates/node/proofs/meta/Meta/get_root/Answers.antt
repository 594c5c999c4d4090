use Rattle.std.proofs.Common.{◌≡◌, ap, ◌∙◌, rules}
use Rattle.std.specs.Option.{option_map}
use Rattle.bounded.specs.Bytes.{bytes_of}
use Rattle.bounded.specs.Rows.{rows_of}
use Rattle.node.specs.Links.{page_of}
use Rattle.node.specs.Meanings.{index_row}
use Rattle.node.proofs.Tables.{page-is, looked_up}
use Rattle.node.proofs.meta.Meta.get_root.Goals as goal

pub returns : goal.returns
returns c =
    let m = c.args.self.now in
    let o = option_map (λ x. x.now) c.find_row.result in
    let v : c.map.result ≡ option_map (λ r. r.value) o = search rules in
    page-is o c.map.result v ∙ ap page_of (looked_up index_row (bytes_of c.args.table.now) (rows_of m.roots) c.as_slice.result.now o c.as_slice.ensures m.ruled c.find_row.ensures)
