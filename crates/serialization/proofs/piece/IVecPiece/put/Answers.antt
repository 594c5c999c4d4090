use Rattle.std.proofs.lemmas.Grind.{common_steps}
use Rattle.std.proofs.Common.{arith}
use Rattle.serialization.specs.Numbers.{number}
use Rattle.serialization.specs.Formats.{str_bytes}
use Rattle.serialization.proofs.Sizes.{length_within}
use Rattle.serialization.proofs.Writing.{puts_then}
use Rattle.serialization.proofs.piece.IVecPiece.put.Goals as goal

pub put_groups-requires : goal.put_groups-requires
unfolding number
put_groups-requires g c = grind (arith, length_within)

pub returns : goal.returns
unfolding str_bytes number
returns g c = grind (arith, common_steps, length_within, puts_then)
