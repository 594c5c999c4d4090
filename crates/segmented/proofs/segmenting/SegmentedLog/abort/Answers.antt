use Rattle.std.proofs.Common.{rules}
use Rattle.book.proofs.Logs.{settle-kin}
use Rattle.segmented.proofs.Kept.{kin_keeps}
use Rattle.segmented.proofs.segmenting.SegmentedLog.abort.Goals as goal

pub invariant_of-self : goal.invariant_of-self
invariant_of-self c = search (rules, settle-kin, kin_keeps)
