use Rattle.std.proofs.Common.{sym, ap, arith}
use Rattle.node.specs.Meanings.{link_of}
use Rattle.serialization.specs.Formats.{link_bytes}
use Rattle.serialization.proofs.Writing.{puts_then, puts_as}
use Rattle.serialization.proofs.links.LinkPiece.put.Goals as goal

pub returns-in-Set-clause-puts : goal.returns-in-Set-clause-puts
returns-in-Set-clause-puts c = puts_as (ap (λ l. link_bytes (link_of l)) (sym c.in-Set.is)) (puts_then c.push.ensures.puts (omega arith) c.put.ensures.puts)

pub returns-in-Del-clause-puts : goal.returns-in-Del-clause-puts
returns-in-Del-clause-puts c = puts_as (ap (λ l. link_bytes (link_of l)) (sym c.in-Del.is)) (puts_then c.push-in-Del.ensures.puts (omega arith) c.put-in-Del.ensures.puts)

pub returns-in-ParentMergeIntention-clause-puts : goal.returns-in-ParentMergeIntention-clause-puts
returns-in-ParentMergeIntention-clause-puts c = puts_as (ap (λ l. link_bytes (link_of l)) (sym c.in-ParentMergeIntention.is)) (puts_then c.push-in-ParentMergeIntention.ensures.puts (omega arith) c.put-in-ParentMergeIntention.ensures.puts)
