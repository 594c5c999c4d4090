-- A list reads back as it was if its elements do, and no other bytes read as it. Assumes nothing.
use Rattle.std.specs.Prelude.{◌≡◌, ℕ, zero, suc, ◌^◌, ◌<◌, ◌≤◌, List, [], ◌∷◌, ◌++◌, length, nat_lt, refl}
use Rattle.std.proofs.Common.{ap, ◌∙◌, arith}
use Rattle.std.proofs.lemmas.Bool.{le-ltb, cond-false}
use Rattle.fault.specs.declared.bytes_fault.BytesFault.TheVariants.{OutOfRange}
use Rattle.serialization.specs.Parsing.{Parsed, read, times}
use Rattle.serialization.specs.Numbers.{number, parse_number}
use Rattle.serialization.specs.Formats.{each, list_bytes, parse_list}
use Rattle.serialization.specs.Fitting.{ReadsBack, ReadsOnly, Every, FitsList}
use Rattle.serialization.specs.Parts.{passed, joined, then_read, parted, then_back}
use Rattle.serialization.specs.Numbering.{number-back, number-only}

module _ {V : Type 0} (f : V → List ℕ) (p : List ℕ → Parsed V) where
  times-back : {P : V → Type 0} → ReadsBack f p P → (xs : List V) (rest : List ℕ) → Every P xs → times p (length xs) (each f xs ++ rest) ≡ read xs rest
  times-back back [] rest h = refl
  times-back back (x ∷ xs) rest h = then_back f p back _ x (each f xs) rest h.0 (then_read _ (times-back back xs rest h.1) refl)

  times-only : ReadsOnly f p → (n : ℕ) (xs : List V) (bs rest : List ℕ) → times p n bs ≡ read xs rest → (n ≡ length xs) × (bs ≡ each f xs ++ rest)
  times-only only zero [] bs rest e = (refl, cc)
  times-only only zero (x ∷ xs) bs rest e = let z : ◌≡◌ {A = ℕ} 0 1 = cc in absurd (omega arith)
  times-only only (suc n) xs bs rest e =
      parted (p bs) _ e (λ y mid h e. parted (times p n mid) _ e (λ ys after k e.
      let same : y ∷ ys ≡ xs = cc in
      let left : after ≡ rest = cc in
      let i = times-only only n ys mid after k in
      (ap suc i.0 ∙ ap length same, joined (f y) (each f ys) after (only y bs mid h) i.1 ∙ (λ j. each f (same j) ++ left j))))

  pub list_back : {P : V → Type 0} (most : ℕ) → most < 2 ^ 64 → ReadsBack f p P → ReadsBack (list_bytes f) (parse_list most p) (FitsList most P)
  list_back most l back xs rest h =
      let n = length xs in
      let k : n ≤ most = h.0 in
      then_back number parse_number number-back _ n (each f xs) rest (omega arith)
      (cond-false (nat_lt most n) _ _ (le-ltb most n k) ∙ times-back back xs rest h.1)

  pub list_only : (most : ℕ) → ReadsOnly f p → ReadsOnly (list_bytes f) (parse_list most p)
  list_only most only xs bs rest e =
      parted (parse_number bs) _ e (λ n mid h e.
      let i = times-only only n xs mid rest (passed (nat_lt most n) OutOfRange (times p n mid) e).1 in
      joined (number (length xs)) (each f xs) rest (number-only n bs mid h ∙ ap (λ m. number m ++ mid) i.0) i.1)
