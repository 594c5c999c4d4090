use Rattle.std.proofs.Common.{◌≡◌, Some, rules, arith}
use Rattle.std.proofs.lemmas.Grind.{common_steps}
use Rattle.node.proofs.Changing.{confirm_done, confirm_refused}
use Rattle.node.proofs.data.Data.parent_merge_confirm.Goals as goal

pub returns : goal.returns
returns c =
    let p : c.place_of.result ≡ Some c.in_ok-i.i = search rules in
    let h = confirm_done c.args.self.now c.in-Index.rows c.in-Index.is c.args.merged_child_pid c.as_slice.result.now c.as_slice.ensures c.remove.new.self c.in_ok-i.i c.remove.result (rw p at c.place_of.ensures) c.remove.ensures in
    record { does = h.0; ordered = h.1 }

pub returns-in_err-i-clause-does : goal.returns-in_err-i-clause-does
returns-in_err-i-clause-does c = grind (arith, common_steps, confirm_refused)
