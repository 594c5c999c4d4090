-- What a reader makes of bytes, step by step. Assumes nothing.
use Rattle.std.proofs.Common.{◌≡◌, ℕ, zero, suc, ◌+◌, ◌-◌, ◌<◌, ◌≤◌, cond, ltb, min, Ok, Err, Result, List, [], ◌∷◌, ◌++◌, length, take, drop, sym, refl, ap, ◌∙◌, subst, append_assoc, append-nil, arith}
use Rattle.std.proofs.lemmas.Bool.{lt-ltb, le-ltb}
use Rattle.fault.specs.declared.bytes_fault.BytesFault.{BytesFault}
use Rattle.fault.specs.declared.bytes_fault.BytesFault.TheVariants.{TooLong, Unlawful, EndsEarly, BadNumber, OutOfRange, LeftOver, ScratchTooSmall}
use Rattle.serialization.specs.Parsing.{Parsed, read, unlawful, fault, and_then, times}
use Rattle.serialization.specs.Numbers.{parse_number}
use Rattle.serialization.specs.Formats.{parse_string}
use Rattle.serialization.specs.Calls.{Stops, Takes}
use Rattle.std.specs.Result.{MatchResult}
use Rattle.std.proofs.lemmas.List.{length-take-le}
use Rattle.bounded.specs.Bytes.{bytes_of}
use Rattle.bounded.specs.declared.ivec.IVec.{IVec}

-- where the first part stops, the whole does
pub stops_then : {A B : Type 0} (p : Parsed A) (f : A → List ℕ → Parsed B) (e : BytesFault) → Stops p e → Stops (and_then p f) e
stops_then p f EndsEarly h = ap (λ q. and_then q f) h
stops_then p f BadNumber h = ap (λ q. and_then q f) h
stops_then p f OutOfRange h = ap (λ q. and_then q f) h
stops_then p f TooLong h = absurd h
stops_then p f Unlawful h = absurd h
stops_then p f LeftOver h = absurd h
stops_then p f ScratchTooSmall h = absurd h

-- ---- strings

module _ (most n : ℕ) (bs rest : List ℕ) (e : parse_number bs ≡ read n rest) where
  -- what the length says
  sized : parse_string most bs ≡ cond (ltb most n) (fault OutOfRange) (cond (ltb (length rest) n) (fault EndsEarly) (read (take n rest) (drop n rest)))
  unfolding parse_string
  sized = ap (λ q. and_then q (λ n rest. cond (ltb most n) (fault OutOfRange) (cond (ltb (length rest) n) (fault EndsEarly) (read (take n rest) (drop n rest))))) e

  pub string_long : most < n → parse_string most bs ≡ fault OutOfRange
  string_long h = sized ∙ ap (λ t. cond t (fault OutOfRange) (cond (ltb (length rest) n) (fault EndsEarly) (read (take n rest) (drop n rest)))) (lt-ltb most n h)

  within : n ≤ most → parse_string most bs ≡ cond (ltb (length rest) n) (fault EndsEarly) (read (take n rest) (drop n rest))
  within h = sized ∙ ap (λ t. cond t (fault OutOfRange) (cond (ltb (length rest) n) (fault EndsEarly) (read (take n rest) (drop n rest)))) (le-ltb most n h)

  pub string_short : n ≤ most → length rest < n → parse_string most bs ≡ fault EndsEarly
  string_short h l = within h ∙ ap (λ t. cond t (fault EndsEarly) (read (take n rest) (drop n rest))) (lt-ltb (length rest) n l)

  pub string_read : n ≤ most → n ≤ length rest → parse_string most bs ≡ read (take n rest) (drop n rest)
  string_read h l = within h ∙ ap (λ t. cond t (fault EndsEarly) (read (take n rest) (drop n rest))) (le-ltb (length rest) n l)

-- the body of a string, taken as one
pub string_taken : (N n : ℕ) (bs rest body after : List ℕ) (r : Result (IVec N) BytesFault) → parse_number bs ≡ read n rest → n ≤ min N 255 → n ≤ length rest → body ≡ take n rest → after ≡ drop n rest → MatchResult r (λ v. (bytes_of v ≡ body) × (length body ≤ min N 255)) (λ e. (e ≡ TooLong) × (min N 255 < length body)) → Takes bytes_of (parse_string (min N 255) bs) after r
string_taken N n bs rest body after (Ok v) e h l front back made = string_read (min N 255) n bs rest e h l ∙ (λ i. read ((sym front ∙ sym made.0) i) (sym back i))
string_taken N n bs rest body after (Err x) e h l front back made =
    let k = ap length front in
    let t = length-take-le n rest l in
    absurd (omega (arith, made.1))

pub string_stops : (most : ℕ) (bs : List ℕ) (e : BytesFault) → Stops (parse_number bs) e → Stops (parse_string most bs) e
unfolding parse_string
string_stops most bs e h = stops_then (parse_number bs) _ e h

-- ---- lists: the count, and then one row after the other, of which those so far are kept

module _ {M : Type 0} (p : List ℕ → Parsed M) where
  -- what is still to be read, behind the rows so far
  abbrev pub behind : List M → ℕ → List ℕ → Parsed (List M)
  behind rows n bs = and_then (times p n bs) (λ xs after. read (rows ++ xs) after)

  times_more : (n : ℕ) (bs : List ℕ) → 0 < n → times p n bs ≡ and_then (p bs) (λ x rest. and_then (times p (n - 1) rest) (λ xs after. read (x ∷ xs) after))
  times_more zero bs h = absurd (omega arith)
  times_more (suc n) bs h = let e : suc n - 1 ≡ n = omega arith in ap (λ k. and_then (p bs) (λ x rest. and_then (times p k rest) (λ xs after. read (x ∷ xs) after))) (sym e)

  all_read : (q : Parsed (List M)) → and_then q (λ xs after. read xs after) ≡ q
  all_read (read xs after) = refl
  all_read (unlawful rest) = refl
  all_read (fault e) = refl

  one_more : (q : Parsed (List M)) (rows : List M) (m : M) → and_then (and_then q (λ xs after. read (m ∷ xs) after)) (λ xs after. read (rows ++ xs) after) ≡ and_then q (λ xs after. read ((rows ++ m ∷ []) ++ xs) after)
  one_more (read xs after) rows m = ap (λ l. read l after) (sym (append_assoc rows (m ∷ []) xs))
  one_more (unlawful rest) rows m = refl
  one_more (fault e) rows m = refl

  module _ (n i : ℕ) (rows : List M) (bs : List ℕ) (all : Parsed (List M)) (so : behind rows (n - i) bs ≡ all) where
    next : 0 < n - i → and_then (and_then (p bs) (λ x rest. and_then (times p (n - i - 1) rest) (λ xs after. read (x ∷ xs) after))) (λ xs after. read (rows ++ xs) after) ≡ all
    next h = ap (λ q. and_then q (λ xs after. read (rows ++ xs) after)) (sym (times_more (n - i) bs h)) ∙ so

    pub rows_again : (more : List M) (m : M) (after : List ℕ) → i < n → p bs ≡ read m after → more ≡ rows ++ m ∷ [] → behind more (n - (i + 1)) after ≡ all
    rows_again more m after h e r =
        let k : n - (i + 1) ≡ n - i - 1 = omega arith in
        (λ j. behind (r j) (k j) after) ∙ sym (one_more (times p (n - i - 1) after) rows m) ∙ ap (λ q. and_then (and_then q (λ x rest. and_then (times p (n - i - 1) rest) (λ xs after. read (x ∷ xs) after))) (λ xs after. read (rows ++ xs) after)) (sym e) ∙ next (omega arith)

    pub rows_stop : (e : BytesFault) → i < n → Stops (p bs) e → Stops all e
    rows_stop e h s = subst (λ (q : Parsed (List M)). Stops q e) (next (omega arith)) (stops_then _ (λ xs after. read (rows ++ xs) after) e (stops_then (p bs) _ e s))

    pub rows_end : n ≤ i → all ≡ read rows bs
    rows_end h = let k : n - i ≡ 0 = omega arith in sym so ∙ ap (λ j. behind rows j bs) k ∙ ap (λ l. read l bs) (append-nil rows)
