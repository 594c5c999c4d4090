-- The rows of a table, as a list, and what the calls that change it leave and answer. Assumes nothing.
use Rattle.std.specs.Prelude.{◌≡◌, ℕ, ◌<◌, ◌≤◌, List, ◌∷◌, [], ◌++◌, length, take, Some, None, Ok, Err, Option, Result, slice_index_or, slice_set}
use Rattle.std.specs.List.{insert, remove}
use Rattle.bounded.specs.declared.table.Table.{Table}

module _ {T : Type 0} where
  abbrev pub rows_of : {N : ℕ} → Table T N → List T
  rows_of t = take t.len t.rows

  -- a row is added at the end of a table of n places, or handed back where there is no room
  abbrev pub Pushed : ℕ → T → List T → List T → Result Unit T → Type 0
  Pushed n x before after (Ok u) = (length before < n) × (after ≡ before ++ x ∷ [])
  Pushed n x before after (Err y) = (n ≤ length before) × (y ≡ x) × (after ≡ before)

  -- a row is added at the place i, or handed back where there is no room or no such place
  abbrev pub Inserted : ℕ → ℕ → T → List T → List T → Result Unit T → Type 0
  Inserted n i x before after (Ok u) = (length before < n) × (i ≤ length before) × (after ≡ insert before i x)
  Inserted n i x before after (Err y) = (length before < n → i ≤ length before → ⊥) × (y ≡ x) × (after ≡ before)

  -- the row at the place i is taken away and answered, if there is one
  abbrev pub Removed : ℕ → List T → List T → Option T → Type 0
  Removed i before after None = (length before ≤ i) × (after ≡ before)
  Removed i before after (Some y) = (i < length before) × (y ≡ slice_index_or before i y) × (after ≡ remove before i)

  -- the row at the place i is written over, and the former answered, if there is one
  abbrev pub Replaced : ℕ → T → List T → List T → Option T → Type 0
  Replaced i x before after None = (length before ≤ i) × (after ≡ before)
  Replaced i x before after (Some y) = (i < length before) × (y ≡ slice_index_or before i y) × (after ≡ slice_set before i x)
