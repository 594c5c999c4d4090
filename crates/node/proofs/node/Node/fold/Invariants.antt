use Rattle.std.proofs.Common.{◌≡◌, map, drop}
use Rattle.node.specs.Links.{folded}
use Rattle.node.specs.Meanings.{link_of}
use Rattle.node.specs.Outcomes.{node_of}
use Rattle.node.proofs.node.Node.fold.Given as goal

abbrev pub invariant-loop-link : goal.invariant-loop-link
invariant-loop-link l = folded (node_of l.node) (map link_of (drop l.link-index l.links)) ≡ folded (node_of l.initial.node) (map link_of l.links)
