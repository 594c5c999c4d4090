use Rattle.std.proofs.Common.{◌-◌, ◌≤◌, arith}
use Rattle.serialization.specs.Numbers.{limit}
use Rattle.serialization.specs.Numbering.{limit_le}
use Rattle.serialization.proofs.groups.+take_groups.Goals as goal

pub returns-then-low-lt128-clause-below : goal.returns-then-low-lt128-clause-below
returns-then-low-lt128-clause-below t c = let l : 256 ≤ limit c.args.more = limit_le 1 c.args.more (omega arith) in omega arith

pub overflow_mul-result : goal.overflow_mul-result
overflow_mul-result t c = omega (arith, limit_le (c.args.more - 1) 8 (omega arith), c.in_ok-high.ensures.below)

pub overflow_add-result : goal.overflow_add-result
overflow_add-result t c = omega (arith, limit_le (c.args.more - 1) 8 (omega arith), c.in_ok-high.ensures.below)
