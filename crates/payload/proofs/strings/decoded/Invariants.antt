-- What has been read stands in front of what is left.
use Rattle.std.proofs.Common.{◌≡◌, length, vec_items}
use Rattle.payload.specs.Spelling.{spelled}
use Rattle.payload.proofs.Spelled.{behind}
use Rattle.payload.proofs.strings.decoded.Given as goal

abbrev pub invariant-loop-rest : goal.invariant-loop-rest
invariant-loop-rest l = spelled l.text ≡ behind (vec_items l.bytes) (spelled l.rest)

abbrev pub decreases-loop-rest : goal.decreases-loop-rest
decreases-loop-rest l = length l.rest
