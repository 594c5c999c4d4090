-- The search for the segment with the fewest live messages. Assumes nothing.
use Rattle.std.proofs.Common.{◌≡◌, ℕ, zero, suc, ◌+◌, ◌<◌, ◌≤◌, Bool, false, ◌⊎◌, List, [], ◌∷◌, ◌++◌, length, get_or, take, Some, None, Option, sym, refl, ap, ◌∙◌, subst, inl, inr, arith}
use Rattle.std.proofs.lemmas.Bool.{cases_lt, or_parts}
use Rattle.std.proofs.lemmas.List.{take_more}
use Rattle.book.specs.declared.head.Head.{Head}
use Rattle.book.specs.Heads.{live_head}
use Rattle.segmented.specs.Layout.{in_seg, live_in, one_if, count_live, Rival, Sparse, Lowest}
use Rattle.std.specs.Prelude.{◌&&◌}
use Rattle.std.specs.List.{list_any}

count_push : (q : ℕ) (hs : List Head) (x : Head) → count_live q (hs ++ (x ∷ [])) ≡ count_live q hs + one_if (live_head x && in_seg q x)
count_push q [] x = omega arith
count_push q (h ∷ hs) x = let e = count_push q hs x in omega arith

pub count_more : (q : ℕ) (hs : List Head) (i : ℕ) (d : Head) (b : Bool) → i < length hs → (live_head (get_or hs i d) && in_seg q (get_or hs i d)) ≡ b → count_live q (take (i + 1) hs) ≡ count_live q (take i hs) + one_if b
count_more q hs i d b h e = ap (count_live q) (take_more hs i d h) ∙ count_push q (take i hs) (get_or hs i d) ∙ ap (λ (x : Bool). count_live q (take i hs) + one_if x) e

pub count_take : (q i : ℕ) (hs : List Head) → count_live q (take i hs) ≤ count_live q hs
count_take q zero hs = omega arith
count_take q (suc i) [] = omega arith
count_take q (suc i) (h ∷ hs) = let e = count_take q i hs in omega arith

Rival-more : (hs : List Head) (a n m : ℕ) → Rival hs a n m → ((n ≡ a → ⊥) → (count_live n hs ≡ 0) ⊎ (m ≤ count_live n hs)) → Rival hs a (n + 1) m
Rival-more hs a n m r here k h g = at (cases_lt k n)
  where
    at : (k < n) ⊎ (n ≤ k) → (count_live k hs ≡ 0) ⊎ (m ≤ count_live k hs)
    at (inl l) = r k l g
    at (inr l) =
        let e : n ≡ k = omega arith in
        let P : ℕ → Type 0 = λ x. (count_live x hs ≡ 0) ⊎ (m ≤ count_live x hs) in
        subst P e (here (λ z. g (sym e ∙ z)))

-- one segment more that is not better
pub Sparse_pass : (hs : List Head) (a n m : ℕ) (b : Option ℕ) → Sparse hs a n m b → ((n ≡ a → ⊥) → (count_live n hs ≡ 0) ⊎ (m ≤ count_live n hs)) → Sparse hs a (n + 1) m b
Sparse_pass hs a n m None s h = (s.0, Rival-more hs a n 4 s.1 (λ g. at (h g)))
  where
    at : (count_live n hs ≡ 0) ⊎ (m ≤ count_live n hs) → (count_live n hs ≡ 0) ⊎ (4 ≤ count_live n hs)
    at (inl e) = inl e
    at (inr e) = inr (omega (arith, s.0))
Sparse_pass hs a n m (Some b) s h = (omega (arith, s.0), s.1, s.2, s.3, s.4, Rival-more hs a n m s.5 h, s.6)

-- a segment with a live message has a lowest page
none_counted : (q : ℕ) (hs : List Head) → list_any (live_in q) hs ≡ false → count_live q hs ≡ 0
none_counted q [] v = refl
none_counted q (h ∷ hs) v =
    let e = none_counted q hs (or_parts (live_in q h) (list_any (live_in q) hs) v).1 in
    let d : one_if (live_in q h) ≡ 0 = ap one_if (or_parts (live_in q h) (list_any (live_in q) hs) v).0 in
    omega arith

pub Sparse_paged : (hs gs : List Head) (a n m q : ℕ) (r l : Option ℕ) → gs ≡ hs → Sparse hs a n m r → r ≡ Some q → Lowest q gs l → l ≡ None → ⊥
Sparse_paged hs gs a n m q r l same s e w z =
    let P : Option ℕ → Type 0 = λ y. Sparse hs a n m y in
    let Q : Option ℕ → Type 0 = λ y. Lowest q gs y in
    let t = subst P e s in
    let v : list_any (live_in q) hs ≡ false = ap (list_any (live_in q)) (sym same) ∙ subst Q z w in
    omega (arith, none_counted q hs v, t.2, t.3)
