-- The groups of a number read back as it, and no others do. Assumes nothing.
use Rattle.std.specs.Prelude.{◌≡◌, ℕ, zero, suc, ◌+◌, ◌-◌, ◌*◌, ◌/◌, ◌%◌, ◌^◌, ◌<◌, ◌≤◌, true, false, cond, List, [], ◌∷◌, ◌++◌, length, ◌==◌, nat_lt, refl}
use Rattle.std.proofs.Common.{sym, ap, subst, ◌∙◌, ⊎_elim, arith}
use Rattle.std.proofs.Math.Arith.{digits_div, digits_mod}
use Rattle.std.proofs.lemmas.Bool.{ltb-true, ltb-false, eqb-false, lt-ltb, le-ltb, ne_eqb, cases_lt, cond-true, cond-false}
use Rattle.fault.specs.declared.bytes_fault.BytesFault.TheVariants.{BadNumber}
use Rattle.serialization.specs.Parsing.{read, fault}
use Rattle.serialization.specs.Numbers.{groups, number, join_groups, parse_groups, parse_number, limit}
use Rattle.serialization.specs.Fitting.{ReadsBack, ReadsOnly, FitsNumber}
use Rattle.serialization.specs.Parts.{ways, no_fault, passed, met, then_read, parted}

-- ---- the groups as they are written

pub groups-last : (f n : ℕ) → n < 128 → groups f n ≡ n ∷ []
groups-last zero n h = refl
groups-last (suc f) n h = cond-true (nat_lt n 128) _ _ (lt-ltb n 128 h)

pub groups-first : (f n : ℕ) → 128 ≤ n → groups (suc f) n ≡ (128 + n % 128) ∷ groups f (n / 128)
groups-first f n h = cond-false (nat_lt n 128) _ _ (le-ltb n 128 h)

groups-more : (f b v : ℕ) → b < 128 → 0 < v → groups (suc f) (b + 128 * v) ≡ (128 + b) ∷ groups f v
groups-more f b v h k =
    let e : b + 128 * v ≡ v * 128 + b = omega arith in
    let m : (b + 128 * v) % 128 ≡ b = ap (λ n. n % 128) e ∙ digits_mod v h in
    let d : (b + 128 * v) / 128 ≡ v = ap (λ n. n / 128) e ∙ digits_div v h in
    groups-first f (b + 128 * v) (omega arith) ∙ (λ i. (128 + m i) ∷ groups f (d i))

pub limit_pos : (f : ℕ) → 0 < limit f
limit_pos zero = omega arith
limit_pos (suc f) = let h = limit_pos f in omega arith

pub limit_le : (f g : ℕ) → f ≤ g → limit f ≤ limit g
limit_le zero zero h = omega arith
limit_le zero (suc g) h = let k = limit_le zero g (omega arith) in omega arith
limit_le (suc f) zero h = absurd (omega arith)
limit_le (suc f) (suc g) h = let k = limit_le f g (omega arith) in omega arith

-- a number that has more than one group
pub tail-limit : (m n : ℕ) → 128 ≤ n → n < limit m → (0 < m) × (n / 128 < limit (m - 1)) × (groups m n ≡ (128 + n % 128) ∷ groups (m - 1) (n / 128))
tail-limit zero n h l = absurd (omega arith)
tail-limit (suc f) n h l =
    let e : suc f - 1 ≡ f = omega arith in
    (omega arith, subst (λ (k : ℕ). n / 128 < limit k) (sym e) (omega arith), groups-first f n h ∙ ap (λ k. (128 + n % 128) ∷ groups k (n / 128)) (sym e))

length-groups : (f n : ℕ) → length (groups f n) ≤ suc f
length-groups zero n = omega arith
length-groups (suc f) n =
    ⊎_elim
    (λ (p : n < 128). rw (groups-last (suc f) n p) (omega arith))
    (λ (p : 128 ≤ n). let h = length-groups f (n / 128) in rw (groups-first f n p) (omega arith))
    (cases_lt n 128)

-- ---- and as they are read

-- a group with its top bit set, and the groups after it
pub parse-more : (f b : ℕ) (rest : List ℕ) → 128 ≤ b → b < 256 → parse_groups (suc f) (b ∷ rest) ≡ join_groups (b - 128) (parse_groups f rest)
parse-more f b rest h k = cond-false (nat_lt b 128) _ _ (le-ltb b 128 h) ∙ cond-true (nat_lt b 256) _ _ (lt-ltb b 256 k)

pub groups-back : (f : ℕ) → ReadsBack (groups f) (parse_groups f) (λ n. n < limit f)
groups-back zero n rest h = cond-true (nat_lt n 2) _ _ (lt-ltb n 2 h)
groups-back (suc f) n rest h =
    ⊎_elim
    (λ (p : n < 128). rw (groups-last (suc f) n p) (cond-true (nat_lt n 128) _ _ (lt-ltb n 128 p)))
    (λ (p : 128 ≤ n).
    rw (groups-first f n p) (parse-more f (128 + n % 128) (groups f (n / 128) ++ rest) (omega arith) (omega arith)
    ∙ then_read _ (groups-back f (n / 128) rest (omega arith))
    (cond-false (n / 128 == 0) _ _ (ne_eqb (n / 128) 0 (λ z. omega arith)) ∙ ap (λ m. read m rest) (omega arith))))
    (cases_lt n 128)

pub groups-only : (f n : ℕ) (bs rest : List ℕ) → parse_groups f bs ≡ read n rest → (n < limit f) × (bs ≡ groups f n ++ rest)
groups-only f n [] rest e = no_fault e
groups-only zero n (b ∷ bs) rest e =
    let w = met (nat_lt b 2) (read b bs) BadNumber e in
    let r : read b bs ≡ read n rest = w.1 in
    let q : b ≡ n = cc in
    (omega (arith, ltb-true b 2 w.0), cc)
groups-only (suc f) n (b ∷ bs) rest e =
    ⊎_elim
    (λ (w : (nat_lt b 128 ≡ true) × (read b bs ≡ read n rest)).
    let r : read b bs ≡ read n rest = w.1 in
    let q : b ≡ n = cc in
    let l : n < 128 = omega (arith, ltb-true b 128 w.0) in
    let p = limit_pos f in
    (omega arith, cc (groups-last (suc f) n l)))
    (λ (w : (nat_lt b 128 ≡ false) × (cond (nat_lt b 256) (join_groups (b - 128) (parse_groups f bs)) (fault BadNumber) ≡ read n rest)).
    let u = met (nat_lt b 256) (join_groups (b - 128) (parse_groups f bs)) BadNumber w.1 in
    parted (parse_groups f bs) _ u.1 (λ v mid first more.
    let x = passed (v == 0) BadNumber (read (b - 128 + 128 * v) mid) more in
    let i = groups-only f v bs mid first in
    let h : 128 ≤ b = ltb-false b 128 w.0 in
    let k : b < 256 = ltb-true b 256 u.0 in
    let p : 0 < v = omega (arith, eqb-false v 0 x.0) in
    let t : b ≡ 128 + (b - 128) = omega arith in
    let q : b - 128 + 128 * v ≡ n = cc x.1 in
    let s : mid ≡ rest = cc x.1 in
    (omega arith, (λ j. t j ∷ i.1 j) ∙ ap (λ l. l ++ mid) (sym (groups-more f (b - 128) v (omega arith) p)) ∙ (λ j. groups (suc f) (q j) ++ s j))))
    (ways (nat_lt b 128) _ _ e)

-- ---- whole numbers

pub number-back : ReadsBack number parse_number FitsNumber
unfolding number parse_number
number-back n rest h = groups-back 9 n rest h

pub number-only : ReadsOnly number parse_number
unfolding number parse_number
number-only n bs rest e = (groups-only 9 n bs rest e).1

pub number_fits : (n : ℕ) (bs rest : List ℕ) → parse_number bs ≡ read n rest → n < 2 ^ 64
unfolding parse_number
number_fits n bs rest e = (groups-only 9 n bs rest e).0

pub number_small : (n : ℕ) → n < 128 → number n ≡ n ∷ []
unfolding number
number_small n h = groups-last 9 n h

pub length-number : (n : ℕ) → length (number n) ≤ 10
unfolding number
length-number n = length-groups 9 n

pub length-number-small : (n : ℕ) → n < 128 → length (number n) ≡ 1
length-number-small n h = ap length (number_small n h)

pub limit-more : (m : ℕ) → 0 < m → limit m ≡ 128 * limit (m - 1)
limit-more zero h = absurd (omega arith)
limit-more (suc m) h = let e : suc m - 1 ≡ m = omega arith in ap (λ k. 128 * limit k) (sym e)
