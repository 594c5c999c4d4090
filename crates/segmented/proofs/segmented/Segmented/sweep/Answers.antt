use Rattle.std.proofs.Common.{rules}
use Rattle.segmented.proofs.Kept.{lives_keeps}
use Rattle.segmented.proofs.segmented.Segmented.sweep.Goals as goal

pub invariant_of-self : goal.invariant_of-self
invariant_of-self c = search (rules, lives_keeps)
