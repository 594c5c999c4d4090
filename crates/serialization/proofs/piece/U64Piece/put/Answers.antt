use Rattle.std.proofs.Common.{arith}
use Rattle.std.proofs.lemmas.Grind.{common_steps}
use Rattle.serialization.specs.Numbers.{number}
use Rattle.serialization.specs.Numbering.{length-number}
use Rattle.serialization.proofs.piece.U64Piece.put.Goals as goal

pub returns-clause-puts : goal.returns-clause-puts
unfolding number
returns-clause-puts c = grind (arith, common_steps)

pub returns-clause-bound : goal.returns-clause-bound
returns-clause-bound c = grind (arith, length-number)
