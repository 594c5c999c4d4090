use Rattle.std.proofs.Common.{arith}
use Rattle.serialization.proofs.Writing.{puts_then}
use Rattle.serialization.proofs.piece.RowPiece.put.Goals as goal

pub returns-clause-puts : goal.returns-clause-puts
returns-clause-puts g c = grind (arith, puts_then)
