-- How a call's answer and what it leaves meet a definition: done as the definition says, or refused and nothing changed.
-- Assumes nothing.
use Rattle.std.specs.Prelude.{◌≡◌, ℕ, List, Ok, Err, Option, Result}
use Rattle.fault.specs.declared.node_fault.NodeFault.{NodeFault}
use Rattle.node.specs.declared.node.Node.{Node}
use Rattle.node.specs.declared.meta.Meta.{Meta}
use Rattle.node.specs.Nodes.{Str, Contents, Row}
use Rattle.node.specs.Links.{Changed, root_for}
use Rattle.node.specs.Meanings.{parts_of, roots_of}
use Rattle.bounded.specs.Rows.{rows_of}

-- what a node means
abbrev pub node_of : Node → Contents
node_of n = parts_of n.parts

-- what a Meta means
abbrev pub meta_of : Meta → List (Row ℕ)
meta_of m = roots_of (rows_of m.roots)

module _ {V M A : Type 0} (meaning : V → M) where
  abbrev pub Does : V → V → Changed M → Result A NodeFault → Type 0
  Does before after wanted (Ok x) = wanted ≡ Ok (meaning after)
  Does before after wanted (Err e) = (wanted ≡ Err e) × (meaning after ≡ meaning before)

  -- the same for a change that also answers something
  abbrev pub Answers : V → V → Changed (A × M) → Result A NodeFault → Type 0
  Answers before after wanted (Ok x) = wanted ≡ Ok (x, meaning after)
  Answers before after wanted (Err e) = (wanted ≡ Err e) × (meaning after ≡ meaning before)

-- what folding answers
abbrev pub Folds : Changed Contents → Result Node NodeFault → Type 0
Folds wanted (Ok node) = wanted ≡ Ok (node_of node)
Folds wanted (Err e) = wanted ≡ Err e

-- what setting a root leaves and answers: the page that the name had
abbrev pub Roots : Str → Changed (List (Row ℕ)) → Meta → Meta → Result (Option ℕ) NodeFault → Type 0
Roots name wanted before after (Ok former) = (wanted ≡ Ok (meta_of after)) × (former ≡ root_for name (meta_of before))
Roots name wanted before after (Err e) = (wanted ≡ Err e) × (meta_of after ≡ meta_of before)
