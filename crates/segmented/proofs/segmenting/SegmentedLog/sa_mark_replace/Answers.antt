use Rattle.std.proofs.Common.{rules}
use Rattle.segmented.proofs.Kept.{kin_keeps}
use Rattle.segmented.proofs.segmenting.SegmentedLog.sa_mark_replace.Goals as goal

pub invariant_of-self : goal.invariant_of-self
invariant_of-self c = search (rules, kin_keeps)
