-- A number below 2 ^ 64 in groups of seven bits, lowest first: every byte but the last has its top bit set, and only the
-- shortest form is read. Assumes nothing.
use Rattle.std.specs.Prelude.{ℕ, zero, suc, ◌+◌, ◌-◌, ◌*◌, ◌/◌, ◌%◌, cond, List, [], ◌∷◌, ◌==◌, nat_lt}
use Rattle.fault.specs.declared.bytes_fault.BytesFault.TheVariants.{EndsEarly, BadNumber}
use Rattle.serialization.specs.Parsing.{Parsed, read, fault, and_then}

-- the groups of n, where at most f come after the first
abbrev pub groups : ℕ → ℕ → List ℕ
groups zero n = n ∷ []
groups (suc f) n = cond (nat_lt n 128) (n ∷ []) ((128 + n % 128) ∷ groups f (n / 128))

-- ten groups hold 64 bits, with one bit in the tenth
unfoldable pub number : ℕ → List ℕ
number n = groups 9 n

-- what f groups after the first may add to a group of seven bits; a last group of 0 is not the shortest form
abbrev pub join_groups : ℕ → Parsed ℕ → Parsed ℕ
join_groups low high = and_then high (λ n rest. cond (n == 0) (fault BadNumber) (read (low + 128 * n) rest))

-- what is 256 or more is no byte
abbrev pub parse_groups : ℕ → List ℕ → Parsed ℕ
parse_groups f [] = fault EndsEarly
parse_groups zero (b ∷ rest) = cond (nat_lt b 2) (read b rest) (fault BadNumber)
parse_groups (suc f) (b ∷ rest) = cond (nat_lt b 128) (read b rest) (cond (nat_lt b 256) (join_groups (b - 128) (parse_groups f rest)) (fault BadNumber))

unfoldable pub parse_number : List ℕ → Parsed ℕ
parse_number bs = parse_groups 9 bs

-- the numbers that f groups after the first may hold, of 64 bits in all: limit 9 is 2 ^ 64
abbrev pub limit : ℕ → ℕ
limit zero = 2
limit (suc f) = 128 * limit f
