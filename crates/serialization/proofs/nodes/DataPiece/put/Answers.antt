use Rattle.std.proofs.Common.{sym, ap, arith}
use Rattle.node.specs.Meanings.{data_of}
use Rattle.serialization.specs.Formats.{data_bytes}
use Rattle.serialization.proofs.Writing.{puts_then, puts_as}
use Rattle.serialization.proofs.nodes.DataPiece.put.Goals as goal

pub returns-in-Index-clause-puts : goal.returns-in-Index-clause-puts
returns-in-Index-clause-puts c = puts_as (ap (λ d. data_bytes (data_of d)) (sym c.in-Index.is)) (puts_then c.push.ensures.puts (omega arith) c.put.ensures.puts)

pub returns-in-Leaf-clause-puts : goal.returns-in-Leaf-clause-puts
returns-in-Leaf-clause-puts c = puts_as (ap (λ d. data_bytes (data_of d)) (sym c.in-Leaf.is)) (puts_then c.push-in-Leaf.ensures.puts (omega arith) c.put-in-Leaf.ensures.puts)
