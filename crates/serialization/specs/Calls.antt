-- What writing and reading leave and answer. Assumes nothing.
use Rattle.std.specs.Prelude.{◌≡◌, ℕ, ◌<◌, ◌≤◌, List, [], ◌∷◌, ◌++◌, length, drop, Ok, Err, Result}
use Rattle.fault.specs.declared.bytes_fault.BytesFault.{BytesFault}
use Rattle.fault.specs.declared.bytes_fault.BytesFault.TheVariants.{TooLong, Unlawful, EndsEarly, BadNumber, OutOfRange, LeftOver, ScratchTooSmall}
use Rattle.serialization.specs.Parsing.{Parsed, read, unlawful, fault}

-- a payload's bytes at the front of the scratch, and how many; or the scratch is too small, and nothing changed
abbrev pub Writes : List ℕ → List ℕ → List ℕ → Result ℕ BytesFault → Type 0
Writes bs before after (Ok n) = (n ≡ length bs) × (n ≤ 1152) × (1152 ≤ length before) × (after ≡ bs ++ drop n before)
Writes bs before after (Err e) = (e ≡ ScratchTooSmall) × (length before < 1152) × (after ≡ before)

-- ---- reading

-- no value stands at the front, and this is why
abbrev pub Stops : {M : Type 0} → Parsed M → BytesFault → Type 0
Stops p EndsEarly = p ≡ fault EndsEarly
Stops p BadNumber = p ≡ fault BadNumber
Stops p OutOfRange = p ≡ fault OutOfRange
Stops p TooLong = ⊥
Stops p Unlawful = ⊥
Stops p LeftOver = ⊥
Stops p ScratchTooSmall = ⊥

-- no value that keeps the rules stands at the front: one that breaks them has been passed, and otherwise nothing has
abbrev pub Refuses : {M : Type 0} → Parsed M → List ℕ → List ℕ → BytesFault → Type 0
Refuses p before after EndsEarly = Stops p EndsEarly × (after ≡ before)
Refuses p before after BadNumber = Stops p BadNumber × (after ≡ before)
Refuses p before after OutOfRange = Stops p OutOfRange × (after ≡ before)
Refuses p before after Unlawful = p ≡ unlawful after
Refuses p before after TooLong = ⊥
Refuses p before after LeftOver = ⊥
Refuses p before after ScratchTooSmall = ⊥

module _ {V M : Type 0} (meaning : V → M) where
  -- a reader that goes on through the bytes, and is given up at a fault
  abbrev pub Takes : Parsed M → List ℕ → Result V BytesFault → Type 0
  Takes p after (Ok x) = p ≡ read (meaning x) after
  Takes p after (Err e) = Stops p e

  -- a value, and the rest is left
  abbrev pub Reads : Parsed M → List ℕ → List ℕ → Result V BytesFault → Type 0
  Reads p before after (Ok x) = p ≡ read (meaning x) after
  Reads p before after (Err e) = Refuses p before after e

  -- the value that is wanted
  abbrev pub Decodes : Result M BytesFault → Result V BytesFault → Type 0
  Decodes wanted (Ok x) = wanted ≡ Ok (meaning x)
  Decodes wanted (Err e) = wanted ≡ Err e

-- what is made of a whole payload: bytes left over are told before a broken rule
abbrev pub whole : {M : Type 0} → Parsed M → Result M BytesFault
whole (read x []) = Ok x
whole (read x (b ∷ rest)) = Err LeftOver
whole (unlawful []) = Err Unlawful
whole (unlawful (b ∷ rest)) = Err LeftOver
whole (fault e) = Err e
