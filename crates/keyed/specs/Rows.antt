-- Rows in the order of their keys, as lists. Assumes nothing.
use Rattle.std.specs.Prelude.{◌≡◌, ℕ, ◌<◌, ◌≤◌, Bool, true, false, cond, List, [], ◌∷◌, length, Some, None, Ok, Err, Option, Result, slice_index_or}
use Rattle.std.specs.declared.cmp.Ordering.TheVariants.{Less, Equal, Greater}
use Rattle.std.specs.declared.cmp.Ordering.{Ordering}
use Rattle.std.specs.Ordering.{is_lt}

-- how two rows stand to each other, and how what is sought stands to a row
abbrev pub between : {R K : Type 0} → (K → K → Ordering) → (R → K) → R → R → Ordering
between o key x y = o (key x) (key y)

abbrev pub probe : {R K : Type 0} → (K → K → Ordering) → (R → K) → K → R → Ordering
probe o key q x = o q (key x)

abbrev pub by : {A : Type 0} → Ordering → A → A → A → A
by Less a b c = a
by Equal a b c = b
by Greater a b c = c

module _ {R : Type 0} where
  -- each row is below the next
  abbrev pub rising : (R → R → Ordering) → List R → Bool
  rising o [] = true
  rising o (x ∷ []) = true
  rising o (x ∷ y ∷ rows) = cond (is_lt (o x y)) (rising o (y ∷ rows)) false

  -- the row that is sought
  abbrev pub lookup : (R → Ordering) → List R → Option R
  lookup p [] = None
  lookup p (x ∷ xs) = by (p x) None (Some x) (lookup p xs)

  -- the row r, which stands to others as p says, in the place of the one that it equals, or else between those below and above
  abbrev pub put : (R → Ordering) → R → List R → List R
  put p r [] = r ∷ []
  put p r (x ∷ xs) = by (p x) (r ∷ x ∷ xs) (r ∷ xs) (x ∷ put p r xs)

  -- the rows without the one that is sought
  abbrev pub without : (R → Ordering) → List R → List R
  without p [] = []
  without p (x ∷ xs) = by (p x) (x ∷ xs) xs (x ∷ without p xs)

  -- what is sought stands after the rows before the place i
  abbrev pub Passed : (R → Ordering) → List R → ℕ → Type 0
  Passed p xs i = (j : ℕ) (d : R) → j < i → p (slice_index_or xs j d) ≡ Greater

  -- and before those from the place i on
  abbrev pub Ahead : (R → Ordering) → List R → ℕ → Type 0
  Ahead p xs i = (j : ℕ) (d : R) → i ≤ j → j < length xs → p (slice_index_or xs j d) ≡ Less

  -- what a seek answers: the place where it is, or where it would stand
  abbrev pub Searched : (R → Ordering) → List R → Result ℕ ℕ → Type 0
  Searched p xs (Ok i) = (i < length xs) × Passed p xs i × ((d : R) → p (slice_index_or xs i d) ≡ Equal)
  Searched p xs (Err i) = (i ≤ length xs) × Passed p xs i × Ahead p xs i

  -- what putting the row r into a table of n places leaves and answers: the row that it replaced, or a refusal where a new
  -- row finds no room, and then nothing changed
  abbrev pub Put : {E : Type 0} → (R → R → Ordering) → R → ℕ → List R → List R → Result (Option R) E → Type 0
  Put o r n before after (Ok former) = (former ≡ lookup (o r) before) × (after ≡ put (o r) r before) × (rising o after ≡ true)
  Put o r n before after (Err e) = (lookup (o r) before ≡ None) × (n ≤ length before) × (after ≡ before)

  -- what removing leaves and answers: the row that was there
  abbrev pub Removed : (R → R → Ordering) → (R → Ordering) → List R → List R → Option R → Type 0
  Removed o p before after former = (former ≡ lookup p before) × (after ≡ without p before) × (rising o after ≡ true)
