use Rattle.std.proofs.Common.{arith}
use Rattle.std.proofs.lemmas.Grind.{common_steps}
use Rattle.serialization.specs.Numbers.{parse_number}
use Rattle.serialization.proofs.piece.U64Piece.take.Goals as goal

pub returns : goal.returns
unfolding parse_number
returns c = grind (arith, common_steps)
