-- Bytes and strings as the lines write them. Assumes nothing.
use Rattle.std.specs.Prelude.{ℕ, ◌+◌, ◌-◌, ◌*◌, ◌/◌, ◌%◌, ◌≡◌, ◌<◌, Bool, true, false, cond, List, [], ◌∷◌, map, Some, None, Option, ◌==◌, nat_lt}
use Rattle.std.proofs.Common.{rules}
use Rattle.std.specs.Borrow.{Bor}
use Rattle.std.specs.Option.{option_map}
use Rattle.std.specs.Int.{is_in_range}
use Rattle.std.specs.Char.{is_ascii_graphic}

-- ---- bytes as digits

-- the value of a digit of base sixteen: 0 to 9, A to F or a to f
abbrev pub hex_value : ℕ → Option ℕ
hex_value d = cond (is_in_range 48 57 d) (Some (d - 48)) (cond (is_in_range 65 70 d) (Some (d - 55)) (cond (is_in_range 97 102 d) (Some (d - 87)) None))

abbrev pub paired : Option ℕ → Option ℕ → Option ℕ
paired None low = None
paired (Some high) None = None
paired (Some high) (Some low) = Some (16 * high + low)

-- the byte of two digits
abbrev pub hex_byte : ℕ → ℕ → Option ℕ
hex_byte high low = paired (hex_value high) (hex_value low)

-- the digit of a value below sixteen
abbrev pub hex_digit : ℕ → ℕ
hex_digit v = cond (nat_lt v 10) (48 + v) (55 + v)

-- the two digits of a byte
abbrev pub hex_digits : ℕ → List ℕ
hex_digits b = hex_digit (b / 16) ∷ hex_digit (b % 16) ∷ []

-- the byte of a word of two digits
abbrev pub hex_word : List ℕ → Option ℕ
hex_word [] = None
hex_word (high ∷ []) = None
hex_word (high ∷ low ∷ []) = hex_byte high low
hex_word (high ∷ low ∷ more ∷ rest) = None

-- the two digits of a byte make it again
pub digits_again : (b : ℕ) → b < 256 → hex_word (hex_digits b) ≡ Some b
digits_again b h = search rules

-- a byte before bytes, where there are both
abbrev pub before : Option ℕ → Option (List ℕ) → Option (List ℕ)
before None bytes = None
before (Some byte) bytes = option_map (λ bs. byte ∷ bs) bytes

-- what words hold
abbrev pub texts : List (Bor (List ℕ)) → List (List ℕ)
texts words = map (λ w. w.now) words

abbrev pub hex_words : List (List ℕ) → Option (List ℕ)
hex_words [] = Some []
hex_words (word ∷ words) = before (hex_word word) (hex_words words)

-- ---- strings

-- whether a byte stands for itself
abbrev pub is_plain : ℕ → Bool
is_plain b = cond (is_ascii_graphic b) (cond (b == 37) false (cond (b == 61) false true)) false

abbrev pub plain : ℕ → Option ℕ
plain b = cond (is_plain b) (Some b) None

-- the bytes that a text stands for: % and two digits for a byte, and a plain byte for itself
abbrev pub spelled : List ℕ → Option (List ℕ)
spelled [] = Some []
spelled (b ∷ []) = before (plain b) (Some [])
spelled (b ∷ high ∷ []) = before (plain b) (spelled (high ∷ []))
spelled (b ∷ high ∷ low ∷ rest) = cond (b == 37) (before (hex_byte high low) (spelled rest)) (before (plain b) (spelled (high ∷ low ∷ rest)))

-- the string of a word: a lone % is the empty one
abbrev pub string_of : List ℕ → Option (List ℕ)
string_of [] = None
string_of (b ∷ []) = cond (b == 37) (Some []) (spelled (b ∷ []))
string_of (b ∷ c ∷ rest) = spelled (b ∷ c ∷ rest)
