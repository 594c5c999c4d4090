-- What the program holds. Assumes nothing.
use Rattle.std.specs.Prelude.{◌≡◌, Ok, Err}
use Rattle.node.specs.Links.{Changed}
use Rattle.node.specs.Outcomes.{node_of, meta_of}
use Rattle.payload.specs.declared.session.Session.{Session}

-- the same node and the same roots
pub record Same (a b : Session) : Type 0 where
  pub node : node_of b.node ≡ node_of a.node
  pub roots : meta_of b.meta ≡ meta_of a.meta

-- what a change leaves: what it makes, or what there was where it is refused
abbrev pub or_else : {M : Type 0} → Changed M → M → M
or_else (Ok x) before = x
or_else (Err e) before = before
