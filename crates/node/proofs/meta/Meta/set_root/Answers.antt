use Rattle.std.proofs.Common.{◌≡◌, Ok, Err, sym, rules}
use Rattle.std.specs.Option.{option_map}
use Rattle.fault.specs.declared.node_fault.NodeFault.TheVariants.{TooManyRoots}
use Rattle.node.proofs.Tables.{root_ordered, root_ok, root_err}
use Rattle.node.proofs.meta.Meta.set_root.Goals as goal

pub invariant_of-self : goal.invariant_of-self
invariant_of-self c = record { ruled = root_ordered _ c.args.self.now c.set_row.new.table c.set_row.result c.set_row.ensures }

pub returns-in_err-former : goal.returns-in_err-former
returns-in_err-former c =
    let r : c.from_residual.result ≡ Err TooManyRoots = search rules in
    rw r (root_err _ c.args.self.now c.set_row.new.table c.set_row.result (sym c.in_err-former.ensures.variant) c.set_row.ensures)

pub returns : goal.returns
returns c =
    let u : c.set_row.result ≡ Ok c.in_ok-former.former = search rules in
    let v : c.map.result ≡ option_map (λ r. r.value) c.in_ok-former.former = search rules in
    root_ok _ c.args.self.now c.set_row.new.table c.set_row.result c.in_ok-former.former c.map.result u v c.set_row.ensures
