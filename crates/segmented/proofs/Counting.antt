-- A segment has room for 128 messages at most, so headers never run out. Assumes nothing.
use Rattle.std.proofs.Common.{◌≡◌, ℕ, zero, suc, ◌+◌, ◌*◌, ◌/◌, ◌<◌, ◌≤◌, Bool, true, false, cond, eqb, ◌⊎◌, List, [], ◌∷◌, ◌++◌, length, sym, refl, ap, ◌∙◌, inl, inr, arith, eq-eqb, ne_eqb}
use Rattle.std.proofs.lemmas.Bool.{cases_lt, cases_eq, and_parts, or_parts}
use Rattle.book.specs.declared.head.Head.{Head}
use Rattle.book.specs.Heads.{bare, lives, live_head}
use Rattle.fault.specs.Pointers.{lid_of}
use Rattle.segmented.specs.Layout.{in_seg, one_if, count_seg, share, placed, laid}
use Rattle.segmented.proofs.Laying.{in_segs}
use Rattle.std.specs.List.{list_any}

abbrev sum_below : (ℕ → ℕ) → ℕ → ℕ
sum_below F zero = 0
sum_below F (suc k) = sum_below F k + F k

sum_add : (F G : ℕ → ℕ) (n : ℕ) → sum_below (λ q. F q + G q) n ≡ sum_below F n + sum_below G n
sum_add F G zero = refl
sum_add F G (suc n) = let e = sum_add F G n in omega arith

sum-zero : (n : ℕ) → sum_below (λ _. 0) n ≡ 0
sum-zero zero = refl
sum-zero (suc n) = let e = sum-zero n in omega arith

sum_past : (x n : ℕ) → n ≤ x → sum_below (λ q. one_if (eqb x q)) n ≡ 0
sum_past x zero h = refl
sum_past x (suc n) h =
    let e = sum_past x n (omega arith) in
    let d : one_if (eqb x n) ≡ 0 = rw (ne_eqb x n (λ q. omega arith)) refl in
    omega arith

sum_one : (x n : ℕ) → x < n → sum_below (λ q. one_if (eqb x q)) n ≡ 1
sum_one x zero h = absurd (omega arith)
sum_one x (suc n) h = at (λ g. sum_one x n g) (cases_lt x n)
  where
    at : (x < n → sum_below (λ q. one_if (eqb x q)) n ≡ 1) → (x < n) ⊎ (n ≤ x) → sum_below (λ q. one_if (eqb x q)) n + one_if (eqb x n) ≡ 1
    at rest (inl a) =
        let e = rest a in
        let d : one_if (eqb x n) ≡ 0 = rw (ne_eqb x n (λ q. omega arith)) refl in
        omega arith
    at rest (inr a) =
        let e = sum_past x n a in
        let d : one_if (eqb x n) ≡ 1 = rw (eq-eqb x n (omega arith)) refl in
        omega arith

total : (segs slots a f : ℕ) (hs : List Head) → laid segs slots a f hs ≡ true → sum_below (λ q. count_seg q hs) segs ≡ length hs
total segs slots a f [] t = sum-zero segs
total segs slots a f (h ∷ hs) t =
    let e = total segs slots a f hs (and_parts (placed segs slots a f h) _ t).1 in
    let d = sum_one (lid_of h.pointer / 4096) segs (in_segs segs slots a f h (and_parts (placed segs slots a f h) _ t).0) in
    sum_add (λ q. one_if (in_seg q h)) (λ q. count_seg q hs) segs ∙ omega arith

most : (F : ℕ → ℕ) → ((q : ℕ) → F q ≤ 128) → (n : ℕ) → sum_below F n ≤ n * 128
most F h zero = omega arith
most F h (suc n) = let e = most F h n in omega (arith, h n)

less : (F : ℕ → ℕ) → ((q : ℕ) → F q ≤ 128) → (a n : ℕ) → a < n → F a < 128 → sum_below F n < n * 128
less F h a zero i l = absurd (omega arith)
less F h a (suc n) i l = at (λ g. less F h a n g l) (cases_lt a n)
  where
    at : (a < n → sum_below F n < n * 128) → (a < n) ⊎ (n ≤ a) → sum_below F n + F n < suc n * 128
    at rest (inl g) = let e = rest g in omega (arith, h n)
    at rest (inr g) =
        let e = most F h n in
        let d : a ≡ n = omega arith in
        let m : F n < 128 = rw d at l in
        omega arith

share-here : (a f : ℕ) → share a f a ≡ f
share-here a f = rw (eq-eqb a a refl) refl

share-there : (a f q : ℕ) → (q ≡ a → ⊥) → share a f q ≡ 4096
share-there a f q n = rw (ne_eqb q a n) refl

pub share-most : (a f q : ℕ) → f ≤ 4096 → share a f q ≤ 4096
share-most a f q h = at (eqb q a)
  where
    at : (b : Bool) → cond b f 4096 ≤ 4096
    at true = h
    at false = omega arith

-- with 32 bytes left in the active segment there is a header left
pub header_left : (segs slots a f : ℕ) (hs : List Head) → laid segs slots a f hs ≡ true → ((q : ℕ) → count_seg q hs * 32 ≤ share a f q) → a < segs → f + 32 ≤ 4096 → length hs < segs * 128
header_left segs slots a f hs t p i l =
    let e = total segs slots a f hs t in
    let most-each : (q : ℕ) → count_seg q hs ≤ 128 = λ q. omega (arith, p q, share-most a f q (omega arith)) in
    let here : count_seg a hs < 128 = omega (arith, p a, share-here a f) in
    let s = less (λ q. count_seg q hs) most-each a segs i here in
    omega arith

count_lives : (q : ℕ) (hs : List Head) → count_seg q (lives hs) ≤ count_seg q hs
count_lives q [] = omega arith
count_lives q (h ∷ hs) = at (count_lives q hs) (live_head h)
  where
    at : count_seg q (lives hs) ≤ count_seg q hs → (b : Bool) → count_seg q (cond b (h ∷ lives hs) (lives hs)) ≤ one_if (in_seg q h) + count_seg q hs
    at k true = omega arith
    at k false = omega arith

pub packed-lives : (a f : ℕ) (hs gs : List Head) → gs ≡ lives hs → ((q : ℕ) → count_seg q hs * 32 ≤ share a f q) → (q : ℕ) → count_seg q gs * 32 ≤ share a f q
packed-lives a f hs gs e p q = rw e (omega (arith, count_lives q hs, p q))

count_none : (q : ℕ) (hs : List Head) → list_any (in_seg q) hs ≡ false → count_seg q hs ≡ 0
count_none q [] v = refl
count_none q (h ∷ hs) v =
    let e = count_none q hs (or_parts (in_seg q h) (list_any (in_seg q) hs) v).1 in
    let d : one_if (in_seg q h) ≡ 0 = ap one_if (or_parts (in_seg q h) (list_any (in_seg q) hs) v).0 in
    omega arith

pub packed_open : (a f b : ℕ) (hs : List Head) → f ≤ 4096 → list_any (in_seg b) hs ≡ false → ((q : ℕ) → count_seg q hs * 32 ≤ share a f q) → (q : ℕ) → count_seg q hs * 32 ≤ share b 0 q
packed_open a f b hs l v p q = at (cases_eq q b)
  where
    at : (q ≡ b) ⊎ (q ≡ b → ⊥) → count_seg q hs * 32 ≤ share b 0 q
    at (inl e) = let d : count_seg q hs ≡ 0 = rw e (count_none b hs v) in omega arith
    at (inr n) = omega (arith, share-there b 0 q n, share-most a f q l, p q)

count_push : (q : ℕ) (hs : List Head) (x : Head) → count_seg q (hs ++ (x ∷ [])) ≡ count_seg q hs + one_if (in_seg q x)
count_push q [] x = omega arith
count_push q (h ∷ hs) x = let e = count_push q hs x in omega arith

pub packed_push : (a f g : ℕ) (hs gs : List Head) (x : Head) → gs ≡ hs ++ (x ∷ []) → lid_of x.pointer / 4096 ≡ a → f + 32 ≤ g → ((q : ℕ) → count_seg q hs * 32 ≤ share a f q) → (q : ℕ) → count_seg q gs * 32 ≤ share a g q
packed_push a f g hs gs x e w l p q = rw (e, count_push q hs x) (at (cases_eq q a))
  where
    at : (q ≡ a) ⊎ (q ≡ a → ⊥) → (count_seg q hs + one_if (in_seg q x)) * 32 ≤ share a g q
    at (inl d) =
        let one : one_if (in_seg q x) ≡ 1 = ap one_if (eq-eqb (lid_of x.pointer / 4096) q (w ∙ sym d)) in
        let u : share a f q ≡ f = rw d (share-here a f) in
        let v : share a g q ≡ g = rw d (share-here a g) in
        omega (arith, p q)
    at (inr n) =
        let none : one_if (in_seg q x) ≡ 0 = ap one_if (ne_eqb (lid_of x.pointer / 4096) q (λ z. n (sym z ∙ w))) in
        omega (arith, p q, share-there a f q n, share-there a g q n)

count_bare : (q : ℕ) (hs : List Head) → count_seg q (bare hs) ≡ count_seg q hs
count_bare q [] = refl
count_bare q (h ∷ hs) = rw (count_bare q hs)

pub packed-kin : (a f : ℕ) (hs gs : List Head) → bare gs ≡ bare hs → ((q : ℕ) → count_seg q hs * 32 ≤ share a f q) → (q : ℕ) → count_seg q gs * 32 ≤ share a f q
packed-kin a f hs gs e p q =
    let d : count_seg q gs ≡ count_seg q hs = sym (count_bare q gs) ∙ ap (count_seg q) e ∙ count_bare q hs in
    omega (arith, p q)
