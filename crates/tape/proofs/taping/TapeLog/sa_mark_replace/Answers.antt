use Rattle.std.proofs.Common.{rules}
use Rattle.tape.proofs.Tapes.{kin_keeps}
use Rattle.tape.proofs.taping.TapeLog.sa_mark_replace.Goals as goal

pub invariant_of-self : goal.invariant_of-self
invariant_of-self c = search (rules, kin_keeps)
