use Rattle.std.proofs.Common.{rules}
use Rattle.book.proofs.Logs.{settle-kin}
use Rattle.tape.proofs.Tapes.{kin_keeps}
use Rattle.tape.proofs.taping.TapeLog.complete.Goals as goal

pub invariant_of-self : goal.invariant_of-self
invariant_of-self c = search (rules, settle-kin, kin_keeps)
