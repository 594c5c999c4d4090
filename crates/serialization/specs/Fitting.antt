-- Which values there are, by their sizes, and the law of a format: what is written reads back as that value with any rest
-- left over, and no other bytes read as it. Assumes nothing.
use Rattle.std.specs.Prelude.{◌≡◌, ℕ, ◌^◌, ◌<◌, ◌≤◌, true, List, [], ◌∷◌, ◌++◌, length, Some, None, Option}
use Rattle.node.specs.Nodes.{Str, Row, Rows, index, leaf, Contents, lawful, ordered}
use Rattle.node.specs.Links.{Step, set, del, intend, confirm, cap}
use Rattle.serialization.specs.Parsing.{Parsed, read}

module _ {V : Type 0} where
  -- what is written reads back as that value, with any rest left over
  abbrev pub ReadsBack : (V → List ℕ) → (List ℕ → Parsed V) → (V → Type 0) → Type 0
  ReadsBack bytes parse Fits = (v : V) (rest : List ℕ) → Fits v → parse (bytes v ++ rest) ≡ read v rest

  -- no other bytes read as it
  abbrev pub ReadsOnly : (V → List ℕ) → (List ℕ → Parsed V) → Type 0
  ReadsOnly bytes parse = (v : V) (bs rest : List ℕ) → parse bs ≡ read v rest → bs ≡ bytes v ++ rest

  abbrev pub Every : (V → Type 0) → List V → Type 0
  Every P [] = Unit {0}
  Every P (x ∷ xs) = P x × Every P xs

abbrev pub FitsNumber : ℕ → Type 0
FitsNumber n = n < 2 ^ 64

abbrev pub FitsString : ℕ → Str → Type 0
FitsString most s = length s ≤ most

-- a row whose value fits
abbrev pub FitsRow : {V : Type 0} → (V → Type 0) → Row V → Type 0
FitsRow P r = FitsString 24 r.0 × P r.1

abbrev pub FitsLeaf : Row Str → Type 0
FitsLeaf = FitsRow (FitsString 40)

abbrev pub FitsIndex : Row ℕ → Type 0
FitsIndex = FitsRow FitsNumber

abbrev pub FitsList : {V : Type 0} → ℕ → (V → Type 0) → List V → Type 0
FitsList most P xs = (length xs ≤ most) × Every P xs

abbrev pub FitsLink : Step → Type 0
FitsLink (set k v) = FitsLeaf (k, v)
FitsLink (del k) = FitsString 24 k
FitsLink (intend p) = FitsNumber p
FitsLink confirm = Unit {0}
FitsLink cap = Unit {0}

abbrev pub FitsRows : Rows → Type 0
FitsRows (index rows) = FitsList 16 FitsIndex rows
FitsRows (leaf rows) = FitsList 16 FitsLeaf rows

-- a page, which is never 0
abbrev pub FitsPage : Option ℕ → Type 0
FitsPage None = Unit {0}
FitsPage (Some p) = (0 < p) × FitsNumber p

-- the parts of a node, lawful or not
pub record FitsParts (c : Contents) : Type 0 where
  pub next : FitsPage c.next
  pub child : FitsPage c.child
  pub lo : FitsString 24 c.lo
  pub hi : FitsString 24 c.hi
  pub rows : FitsRows c.rows

pub record FitsNode (c : Contents) : Type 0 where
  pub next : FitsPage c.next
  pub child : FitsPage c.child
  pub lo : FitsString 24 c.lo
  pub hi : FitsString 24 c.hi
  pub rows : FitsRows c.rows
  pub ruled : lawful c ≡ true

abbrev pub FitsMeta : List (Row ℕ) → Type 0
FitsMeta roots = FitsList 8 FitsIndex roots × (ordered roots ≡ true)
