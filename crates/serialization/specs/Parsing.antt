-- What a reader makes of bytes, from the front: the first thing that is wrong decides. Assumes nothing.
use Rattle.std.specs.Prelude.{ℕ, zero, suc, Bool, true, false, cond, List, [], ◌∷◌, ◌==◌}
use Rattle.fault.specs.declared.bytes_fault.BytesFault.{BytesFault}
use Rattle.fault.specs.declared.bytes_fault.BytesFault.TheVariants.{EndsEarly, OutOfRange}

pub data Parsed (V : Type 0) : Type 0 where
  -- the value at the front, and the rest
  read : V → List ℕ → Parsed V
  -- a value that breaks the rules of its kind, and the rest
  unlawful : List ℕ → Parsed V
  -- no value
  fault : BytesFault → Parsed V

abbrev pub and_then : {A B : Type 0} → Parsed A → (A → List ℕ → Parsed B) → Parsed B
and_then (read x rest) f = f x rest
and_then (unlawful rest) f = unlawful rest
and_then (fault e) f = fault e

abbrev pub parse_byte : List ℕ → Parsed ℕ
parse_byte [] = fault EndsEarly
parse_byte (b ∷ rest) = read b rest

-- a byte that is 0 or 1, and what it says
abbrev pub parse_flag : List ℕ → Parsed Bool
parse_flag bs = and_then (parse_byte bs) (λ b rest. cond (b == 0) (read false rest) (cond (b == 1) (read true rest) (fault OutOfRange)))

-- n values, one after the other
abbrev pub times : {V : Type 0} → (List ℕ → Parsed V) → ℕ → List ℕ → Parsed (List V)
times p zero bs = read [] bs
times p (suc n) bs = and_then (p bs) (λ x rest. and_then (times p n rest) (λ xs after. read (x ∷ xs) after))

-- a value that has to keep the rules of its kind
abbrev pub keeping : {V : Type 0} → (V → Bool) → Parsed V → Parsed V
keeping lawful p = and_then p (λ x rest. cond (lawful x) (read x rest) (unlawful rest))
