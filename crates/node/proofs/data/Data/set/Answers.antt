use Rattle.std.proofs.Common.{◌≡◌, Err, sym, rules}
use Rattle.fault.specs.declared.node_fault.NodeFault.TheVariants.{Full}
use Rattle.node.proofs.Changing.{set_ok, set_err}
use Rattle.node.proofs.data.Data.set.Goals as goal

pub returns : goal.returns
returns c =
    let h = set_ok c.args.self.now c.in-Leaf.rows c.set_row.new.table c.in-Leaf.is c.requires _ c.set_row.result (sym c.in_ok-map_err.ensures.variant) c.set_row.ensures in
    record { does = h.0; ordered = h.1 }

pub returns-in_err-map_err : goal.returns-in_err-map_err
returns-in_err-map_err c =
    let r : c.from_residual.result ≡ Err Full = search rules in
    let h = set_err c.args.self.now c.in-Leaf.rows c.set_row.new.table c.in-Leaf.is c.requires _ c.set_row.result (sym c.in_err-map_err.ensures.variant) c.set_row.ensures in
    record { does = rw r (h.0, h.1); ordered = h.2 }
