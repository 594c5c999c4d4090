-- What the rows that were written so far leave. Assumes nothing.
use Rattle.std.proofs.Common.{◌≡◌, ℕ, add-one, ◌+◌, ◌*◌, ◌<◌, ◌≤◌, List, [], ◌∷◌, ◌++◌, map, length, get_or, take, sym, ap, ◌∙◌, subst, arith, length-append}
use native.Mathlib.Nat.{mul-le-mul_right, suc-mul}
use Rattle.std.proofs.lemmas.List.{take_more, map-append}
use Rattle.serialization.specs.Formats.{each}
use Rattle.serialization.specs.Fitting.{Every}
use Rattle.serialization.specs.Writing.{Puts}
use Rattle.serialization.specs.declared.writer.Writer.{Writer}
use Rattle.serialization.proofs.Writing.{puts_then, puts_as, each_push}

one-more : (i m : ℕ) → (i + 1) * m ≡ i * m + m
one-more i m = ap (λ k. k * m) (add-one i) ∙ suc-mul i m

-- another of n parts of at most m has room
pub rooms : (i n m : ℕ) → i < n → i * m + m ≤ n * m
rooms i n m h =
    let l = mul-le-mul_right {m = i + 1} {n = n} m (omega arith) in
    let s = one-more i m in
    omega arith

module _ {V : Type 0} (P : V → Type 0) where
  every-push : (xs : List V) (x : V) → Every P xs → P x → Every P (xs ++ x ∷ [])
  every-push [] x h k = (k, tt)
  every-push (y ∷ ys) x h k = (h.0, every-push ys x h.1 k)

module _ {R V : Type 0} (f : R → V) (bytes : V → List ℕ) (Fits : V → Type 0) (most : ℕ) (rows : List R) where
  abbrev so-far : ℕ → List V
  so-far i = map f (take i rows)

  -- the first i rows stand behind what stood there, are as long as they may be, and fit
  pub record Kept (i : ℕ) (before after : Writer) : Type 0 where
    pub puts : Puts (each bytes (so-far i)) before after
    pub few : length (each bytes (so-far i)) ≤ i * most
    pub fit : Every Fits (so-far i)

  pub kept_more : (i : ℕ) (u v w : Writer) (x : R) → i < length rows → x ≡ get_or rows i x → Kept i u v → u.at + i * most ≤ length u.out.now → Puts (bytes (f x)) v w → length (bytes (f x)) ≤ most → Fits (f x) → Kept (i + 1) u w
  kept_more i u v w x h is k room p few fit =
      let more : so-far (i + 1) ≡ so-far i ++ f x ∷ [] = ap (map f) (take_more rows i x h ∙ ap (λ y. take i rows ++ y ∷ []) (sym is)) ∙ map-append f (take i rows) (x ∷ []) in
      let e : each bytes (so-far (i + 1)) ≡ each bytes (so-far i) ++ bytes (f x) = ap (each bytes) more ∙ each_push bytes (so-far i) (f x) in
      let l : length (each bytes (so-far (i + 1))) ≡ length (each bytes (so-far i)) + length (bytes (f x)) = ap length e ∙ length-append (each bytes (so-far i)) (bytes (f x)) in
      let s : (i + 1) * most ≡ i * most + most = one-more i most in
      record {
        puts = puts_as (sym e) (puts_then k.puts (omega (arith, k.few)) p);
        few = omega (arith, k.few);
        fit = subst (λ (xs : List V). Every Fits xs) (sym more) (every-push Fits (so-far i) (f x) k.fit fit);
      }
