-- What moving rows up and down by one leaves of the first ones. Assumes nothing.
use Rattle.std.proofs.Common.{◌≡◌, ℕ, zero, suc, add-one, ◌+◌, ◌-◌, ◌<◌, ◌≤◌, List, [], ◌∷◌, ◌++◌, length, get_or, take, drop, set, sym, refl, ap, ◌∙◌, le_of_suc-le-suc, arith}
use lib.Seq.{paste, take-set-lt}
use Rattle.std.specs.List.{insert, remove}
use Rattle.std.proofs.lemmas.List.{take-take, drop-take, length-drop, get_or-take, get_or_default}
use Rattle.std.proofs.lemmas.List.Edits.{take-paste}

module _ {X : Type 0} where
  -- the last of the first i + 1 is written over, with others behind it
  written : (d t : List X) (i : ℕ) (x : X) → i < length d → set (take (suc i) d ++ t) i x ≡ take i d ++ x ∷ t
  written (y ∷ d) t zero x h = refl
  written (y ∷ d) t (suc i) x h = ap (λ l. y ∷ l) (written d t i x (omega arith))
  written [] t i x h = absurd (omega arith)

  -- a place is opened at i among the first n, and x put there
  pub opened : (d a : List X) (n i : ℕ) (x : X) → i ≤ n → n < length d → a ≡ paste d (i + 1) (drop i d) (n - i) → take (n + 1) (set a i x) ≡ insert (take n d) i x
  opened d a n i x h k q =
      let m : ℕ = n - i in
      let r = length-drop i d in
      let p : take (i + 1 + m) (paste d (i + 1) (drop i d) m) ≡ take (i + 1) d ++ take m (drop i d) = take-paste d (i + 1) (drop i d) m (omega arith) (omega arith) in
      let e : i + 1 + m ≡ n + 1 = omega arith in
      let f : i + m ≡ n = omega arith in
      ap (λ l. take (n + 1) (set l i x)) q
      ∙ take-set-lt (n + 1) (paste d (i + 1) (drop i d) m) i x (omega arith)
      ∙ ap (λ l. set l i x) (ap (λ j. take j (paste d (i + 1) (drop i d) m)) (sym e) ∙ p ∙ ap (λ j. take j d ++ take m (drop i d)) (add-one i))
      ∙ written d (take m (drop i d)) i x (omega arith)
      ∙ (λ j. sym (take-take i n d h) j ++ x ∷ (sym (drop-take i m d) ∙ ap (λ z. drop i (take z d)) f) j)

  -- the place i among the first n is closed
  pub closed : (d a : List X) (n i : ℕ) → i < n → n ≤ length d → a ≡ paste d i (drop (i + 1) d) (n - (i + 1)) → take (n - 1) a ≡ remove (take n d) i
  closed d a n i h k q =
      let m : ℕ = n - (i + 1) in
      let r = length-drop (i + 1) d in
      let p : take (i + m) (paste d i (drop (i + 1) d) m) ≡ take i d ++ take m (drop (i + 1) d) = take-paste d i (drop (i + 1) d) m (omega arith) (omega arith) in
      let e : i + m ≡ n - 1 = omega arith in
      let f : i + 1 + m ≡ n = omega arith in
      ap (take (n - 1)) q
      ∙ ap (λ j. take j (paste d i (drop (i + 1) d) m)) (sym e)
      ∙ p
      ∙ (λ j. sym (take-take i n d (omega arith)) j ++ (sym (drop-take (i + 1) m d) ∙ ap (λ z. drop (i + 1) (take z d)) f) j)
      ∙ ap (λ z. take i (take n d) ++ drop z (take n d)) (add-one i)

  -- the element at i, whatever is asked for past the end, is that of the first n
  pub among : (d : List X) (n i : ℕ) (z : X) → i < n → n ≤ length d → get_or d i z ≡ get_or (take n d) i (get_or d i z)
  among d n i z h k = get_or_default d i z (get_or d i z) (omega arith) ∙ sym (get_or-take n d i (get_or d i z) h)

  -- what is put among the first rows, or taken from them, is the same before and after those behind them are left out
  pub take-insert : (e : List X) (n i : ℕ) (x : X) → i ≤ n → n ≤ length e → take (suc n) (insert e i x) ≡ insert (take n e) i x
  take-insert e n zero x h k = refl
  take-insert e zero (suc i) x h k = absurd (omega arith)
  take-insert [] (suc n) (suc i) x h k = absurd (omega arith)
  take-insert (y ∷ e) (suc n) (suc i) x h k = ap (λ l. y ∷ l) (take-insert e n i x (le_of_suc-le-suc h) (le_of_suc-le-suc k))

  pub take-remove : (e : List X) (n i : ℕ) → i ≤ n → n < length e → take n (remove e i) ≡ remove (take (suc n) e) i
  take-remove [] n i h k = absurd (omega arith)
  take-remove (y ∷ e) n zero h k = refl
  take-remove (y ∷ e) zero (suc i) h k = absurd (omega arith)
  take-remove (y ∷ e) (suc n) (suc i) h k = ap (λ l. y ∷ l) (take-remove e n i (le_of_suc-le-suc h) (le_of_suc-le-suc k))
