-- The lowest page of the live messages in a segment. Assumes nothing.
use Rattle.std.proofs.Common.{◌≡◌, ℕ, ◌≤◌, Bool, true, false, cond, min, ◌&&◌, ◌||◌, eqb, ltb, ◌⊎◌, List, [], ◌∷◌, map, filter, fold, Some, None, Option, refl, ap, ◌∙◌, inl, inr, arith, eq-eqb}
use Rattle.std.specs.List.{list_any, reduce}
use Rattle.std.proofs.lemmas.Bool.{cases_eq, le-ltb, and_from, and_right, or_from, or_left, or_right}
use Rattle.book.specs.declared.head.Head.{Head}
use Rattle.segmented.specs.Layout.{live_in, Lowest}

module _ (q : ℕ) where
  abbrev pub pages : List Head → List ℕ
  pages hs = map (λ (h : Head). h.page) (filter (live_in q) hs)

  abbrev has : ℕ → List Head → Bool
  has m hs = list_any (λ h. live_in q h && eqb h.page m) hs

  abbrev under : ℕ → List Head → Bool
  under m hs = list_any (λ h. live_in q h && ltb h.page m) hs

  -- m is p or a page, and none is below it
  abbrev Least : ℕ → ℕ → List Head → Type 0
  Least p m hs = (m ≤ p) × ((m ≡ p) ⊎ (has m hs ≡ true)) × (under m hs ≡ false)

  -- what is not live there does not count
  has_skip : (m : ℕ) (x : Head) (hs : List Head) → live_in q x ≡ false → has m (x ∷ hs) ≡ has m hs
  has_skip m x hs e = ap (λ (b : Bool). (b && eqb x.page m) || has m hs) e

  under_skip : (m : ℕ) (x : Head) (hs : List Head) → live_in q x ≡ false → under m (x ∷ hs) ≡ under m hs
  under_skip m x hs e = ap (λ (b : Bool). (b && ltb x.page m) || under m hs) e

  skip : (p m : ℕ) (x : Head) (hs : List Head) → live_in q x ≡ false → Least p m hs → Least p m (x ∷ hs)
  skip p m x hs e h = (h.0, at h.1, under_skip m x hs e ∙ h.2)
    where
      at : (m ≡ p) ⊎ (has m hs ≡ true) → (m ≡ p) ⊎ (has m (x ∷ hs) ≡ true)
      at (inl y) = inl y
      at (inr y) = inr (has_skip m x hs e ∙ y)

  here : (m : ℕ) (x : Head) (hs : List Head) → live_in q x ≡ true → x.page ≡ m → has m (x ∷ hs) ≡ true
  here m x hs e w = or_left (live_in q x && eqb x.page m) (has m hs) (and_from (live_in q x) (eqb x.page m) e (eq-eqb x.page m w))

  none_under : (m : ℕ) (x : Head) (hs : List Head) → m ≤ x.page → under m hs ≡ false → under m (x ∷ hs) ≡ false
  none_under m x hs l h = or_from (live_in q x && ltb x.page m) (under m hs) (and_right (live_in q x) (ltb x.page m) (le-ltb x.page m l)) h

  take : (p m : ℕ) (x : Head) (hs : List Head) → live_in q x ≡ true → Least (min p x.page) m hs → Least p m (x ∷ hs)
  take p m x hs e h = (omega (arith, h.0), at h.1 (cases_eq m p), none_under m x hs (omega (arith, h.0)) h.2)
    where
      at : (m ≡ min p x.page) ⊎ (has m hs ≡ true) → (m ≡ p) ⊎ (m ≡ p → ⊥) → (m ≡ p) ⊎ (has m (x ∷ hs) ≡ true)
      at (inl y) (inl z) = inl z
      at (inl y) (inr n) = inr (here m x hs e (omega arith))
      at (inr y) z = inr (or_right (live_in q x && eqb x.page m) (has m hs) y)

  least : (p : ℕ) (hs : List Head) → Least p (fold min p (pages hs)) hs
  least p [] = (omega arith, inl refl, refl)
  least p (x ∷ hs) = at (λ n. least n hs) (live_in q x) refl
    where
      at : ((n : ℕ) → Least n (fold min n (pages hs)) hs) → (b : Bool) → live_in q x ≡ b → Least p (fold min p (map (λ (h : Head). h.page) (cond b (x ∷ filter (live_in q) hs) (filter (live_in q) hs)))) (x ∷ hs)
      at rest true e = take p (fold min (min p x.page) (pages hs)) x hs e (rest (min p x.page))
      at rest false e = skip p (fold min p (pages hs)) x hs e (rest p)

  pub lowest : (hs : List Head) → Lowest q hs (reduce min (pages hs))
  lowest [] = refl
  lowest (x ∷ hs) = at (lowest hs) (live_in q x) refl
    where
      past : (o : Option ℕ) → live_in q x ≡ false → Lowest q hs o → Lowest q (x ∷ hs) o
      past None e h = ap (λ (b : Bool). b || list_any (live_in q) hs) e ∙ h
      past (Some p) e h = (has_skip p x hs e ∙ h.0, under_skip p x hs e ∙ h.1)

      first : (m : ℕ) → live_in q x ≡ true → Least x.page m hs → Lowest q (x ∷ hs) (Some m)
      first m e h = (found h.1, none_under m x hs h.0 h.2)
        where
          found : (m ≡ x.page) ⊎ (has m hs ≡ true) → has m (x ∷ hs) ≡ true
          found (inl y) = here m x hs e (omega arith)
          found (inr y) = or_right (live_in q x && eqb x.page m) (has m hs) y

      at : Lowest q hs (reduce min (pages hs)) → (b : Bool) → live_in q x ≡ b → Lowest q (x ∷ hs) (reduce min (map (λ (h : Head). h.page) (cond b (x ∷ filter (live_in q) hs) (filter (live_in q) hs))))
      at rest true e = first (fold min x.page (pages hs)) e (least x.page hs)
      at rest false e = past (reduce min (pages hs)) e rest
