-- Where messages lie, and that a new one lies apart. Assumes nothing.
use Rattle.std.proofs.Common.{Some, None, Option, MatchOption, ◌≡◌, ℕ, zero, suc, ◌+◌, ◌-◌, ◌*◌, ◌/◌, ◌<◌, ◌≤◌, Bool, true, false, cond, not, eqb, ltb, leb, ◌⊎◌, List, [], ◌∷◌, ◌++◌, length, take, drop, sym, refl, ap, ◌∙◌, inl, inr, arith, ltb-true, lt-ltb, eq-eqb, ne_eqb, eqb-true, le-leb, leb-true}
use borrow.Rule.Slice.PartMut.{put_mid}
use Rattle.std.specs.Prelude.{pos, negsuc, ◌&&◌, ◌||◌}
use Rattle.std.proofs.lemmas.Bool.{false≢true, eqb-false, or_from, or_left, or_right, cases_lt, cases_eq, and_from, and_parts, or_parts}
use Rattle.std.proofs.lemmas.List.{drop-take}
use Rattle.std.proofs.lemmas.Slice.{take-put_mid_below, drop-put_mid, between-put_mid}
use Rattle.fault.specs.declared.disk_pointer.DiskPtr.{DiskPtr}
use Rattle.fault.specs.declared.disk_pointer.DiskPtr.TheVariants.{Inline, Blob}
use Rattle.logs.specs.Meaning.{is_done, is_live, is_pending, any_pending, Sheds, none, kept, shed}
use Rattle.book.specs.declared.head.Head.{Head}
use Rattle.book.specs.Heads.{messages, bare, lives, live_head}
use Rattle.fault.specs.Pointers.{lid_of}
use Rattle.segmented.specs.Layout.{foot_of, limit, homed, placed, laid, busy_head, in_seg, in_slot, slot_is, some_below, Picked}
use Rattle.logs.specs.declared.messages.Status.TheVariants.{Pending, Live, Dead, Cancelled}
use Rattle.logs.specs.declared.messages.Status.{Status}
use Rattle.std.specs.List.{list_any}

-- a search below n, by what it says of each number
none-below : (P : ℕ → Bool) (n : ℕ) → ((k : ℕ) → k < n → P k ≡ false) → some_below P n ≡ false
none-below P zero f = refl
none-below P (suc n) f = or_from (some_below P n) (P n) (none-below P n (λ k h. f k (omega arith))) (f n (omega arith))

one-below : (P : ℕ → Bool) (n i : ℕ) → i < n → P i ≡ true → some_below P n ≡ true
one-below P zero i h p = absurd (omega arith)
one-below P (suc n) i h p = at (λ g. one-below P n i g p) (cases_lt i n)
  where
    at : (i < n → some_below P n ≡ true) → (i < n) ⊎ (n ≤ i) → (some_below P n || P n) ≡ true
    at rest (inl a) = or_left (some_below P n) (P n) (rest a)
    at rest (inr a) = let e : i ≡ n = omega arith in or_right (some_below P n) (P n) (rw e at p)

pub picked : (P : ℕ → Bool) (n : ℕ) (r : Option ℕ) → MatchOption r ((k : ℕ) → 0 ≤ k → k < n → P k ≡ false) (λ i. (0 ≤ i) × (i < n) × (P i ≡ true) × ((k : ℕ) → 0 ≤ k → k < i → P k ≡ false)) → Picked P n r
picked P n None h = none-below P n (λ k l. h k (omega arith) l)
picked P n (Some i) h = (h.1, h.2, one-below P n i h.1 h.2)

-- the end of a segment
pub limit-here : (a f q : ℕ) → q ≡ a → limit a f q ≡ q * 4096 + f
limit-here a f q e = rw (eq-eqb q a e)

limit-there : (a f q : ℕ) → (q ≡ a → ⊥) → limit a f q ≡ q * 4096 + 4096
limit-there a f q n = rw (ne_eqb q a n)

limit-most : (a f q : ℕ) → f ≤ 4096 → limit a f q ≤ q * 4096 + 4096
limit-most a f q h = at (cases_eq q a)
  where
    at : (q ≡ a) ⊎ (q ≡ a → ⊥) → limit a f q ≤ q * 4096 + 4096
    at (inl e) = omega (arith, limit-here a f q e)
    at (inr n) = omega (arith, limit-there a f q n)

-- the facts of a place
module _ (segs slots a f : ℕ) (h : Head) (t : placed segs slots a f h ≡ true) where
  pub in_segs : lid_of h.pointer / 4096 < segs
  in_segs = ltb-true (lid_of h.pointer / 4096) segs (and_parts (ltb (lid_of h.pointer / 4096) segs) _ t).0

  rest : ((leb (lid_of h.pointer + foot_of h.pointer h.place.len) (limit a f (lid_of h.pointer / 4096))) && homed segs slots h.pointer h.place.at h.place.len) ≡ true
  rest = (and_parts (ltb (lid_of h.pointer / 4096) segs) _ t).1

  pub under : lid_of h.pointer + foot_of h.pointer h.place.len ≤ limit a f (lid_of h.pointer / 4096)
  under = leb-true (lid_of h.pointer + foot_of h.pointer h.place.len) (limit a f (lid_of h.pointer / 4096)) (and_parts (leb (lid_of h.pointer + foot_of h.pointer h.place.len) (limit a f (lid_of h.pointer / 4096))) _ rest).0

  pub home : homed segs slots h.pointer h.place.at h.place.len ≡ true
  home = (and_parts (leb (lid_of h.pointer + foot_of h.pointer h.place.len) (limit a f (lid_of h.pointer / 4096))) _ rest).1

pub to_placed : (segs slots a f : ℕ) (h : Head) → lid_of h.pointer / 4096 < segs → lid_of h.pointer + foot_of h.pointer h.place.len ≤ limit a f (lid_of h.pointer / 4096) → homed segs slots h.pointer h.place.at h.place.len ≡ true → placed segs slots a f h ≡ true
to_placed segs slots a f h p q r = rw (lt-ltb (lid_of h.pointer / 4096) segs p, le-leb (lid_of h.pointer + foot_of h.pointer h.place.len) (limit a f (lid_of h.pointer / 4096)) q) r

-- a place is kept where the limits only rise
pub placed_on : (segs slots a f b g : ℕ) (h : Head) → limit a f (lid_of h.pointer / 4096) ≤ limit b g (lid_of h.pointer / 4096) → placed segs slots a f h ≡ true → placed segs slots b g h ≡ true
placed_on segs slots a f b g h l t =
    let u = under segs slots a f h t in
    to_placed segs slots b g h (in_segs segs slots a f h t) (omega arith) (home segs slots a f h t)

pub laid-lives : (segs slots a f : ℕ) (hs : List Head) → laid segs slots a f hs ≡ true → laid segs slots a f (lives hs) ≡ true
laid-lives segs slots a f [] t = refl
laid-lives segs slots a f (h ∷ hs) t = at (laid-lives segs slots a f hs (and_parts (placed segs slots a f h) _ t).1) (live_head h)
  where
    at : laid segs slots a f (lives hs) ≡ true → (b : Bool) → laid segs slots a f (cond b (h ∷ lives hs) (lives hs)) ≡ true
    at k true = and_from (placed segs slots a f h) _ (and_parts (placed segs slots a f h) _ t).0 k
    at k false = k

pub laid-bare : (segs slots a f : ℕ) (hs : List Head) → laid segs slots a f (bare hs) ≡ laid segs slots a f hs
laid-bare segs slots a f [] = refl
laid-bare segs slots a f (h ∷ hs) = rw (laid-bare segs slots a f hs)

limit_open : (a f q x : ℕ) → f ≤ 4096 → (x ≡ q → ⊥) → limit a f x ≤ limit q 0 x
limit_open a f q x h n = let m = limit-most a f x h in omega (arith, limit-there q 0 x n)

-- another segment is active, where none lies
pub laid_open : (segs slots a f q : ℕ) (hs : List Head) → f ≤ 4096 → list_any (in_seg q) hs ≡ false → laid segs slots a f hs ≡ true → laid segs slots q 0 hs ≡ true
laid_open segs slots a f q [] h v t = refl
laid_open segs slots a f q (x ∷ hs) h v t =
    and_from (placed segs slots q 0 x) _
    (placed_on segs slots a f q 0 x (limit_open a f q (lid_of x.pointer / 4096) h (eqb-false (lid_of x.pointer / 4096) q (or_parts (in_seg q x) (list_any (in_seg q) hs) v).0)) (and_parts (placed segs slots a f x) _ t).0)
    (laid_open segs slots a f q hs h (or_parts (in_seg q x) (list_any (in_seg q) hs) v).1 (and_parts (placed segs slots a f x) _ t).1)

limit_rise : (a f g q : ℕ) → f ≤ g → limit a f q ≤ limit a g q
limit_rise a f g q h = at (cases_eq q a)
  where
    at : (q ≡ a) ⊎ (q ≡ a → ⊥) → limit a f q ≤ limit a g q
    at (inl e) = omega (arith, limit-here a f q e, limit-here a g q e)
    at (inr n) = omega (arith, limit-there a f q n, limit-there a g q n)

-- one more in the active segment
pub laid_push : (segs slots a f g : ℕ) (hs : List Head) (x : Head) → f ≤ g → placed segs slots a g x ≡ true → laid segs slots a f hs ≡ true → laid segs slots a g (hs ++ (x ∷ [])) ≡ true
laid_push segs slots a f g [] x h p t = and_from (placed segs slots a g x) _ p refl
laid_push segs slots a f g (y ∷ hs) x h p t =
    and_from (placed segs slots a g y) _ (placed_on segs slots a f a g y (limit_rise a f g (lid_of y.pointer / 4096) h) (and_parts (placed segs slots a f y) _ t).0)
    (laid_push segs slots a f g hs x h p (and_parts (placed segs slots a f y) _ t).1)

-- what is not busy is not among the live
live_busy : (s : Status) → is_live s ≡ true → not (is_done s) ≡ true
live_busy Pending h = refl
live_busy Live h = refl
live_busy Dead h = h
live_busy Cancelled h = h

pub vacant_lives : (T : Head → Bool) (hs : List Head) → list_any (λ h. busy_head h && T h) hs ≡ false → list_any T (lives hs) ≡ false
vacant_lives T [] v = refl
vacant_lives T (h ∷ hs) v = at (vacant_lives T hs (or_parts (busy_head h && T h) _ v).1) (live_head h) refl
  where
    here : (busy_head h && T h) ≡ false
    here = (or_parts (busy_head h && T h) _ v).0

    at : list_any T (lives hs) ≡ false → (b : Bool) → live_head h ≡ b → list_any T (cond b (h ∷ lives hs) (lives hs)) ≡ false
    at k true e = let n : T h ≡ false = rw (live_busy h.status e) at here in rw (n, k) refl
    at k false e = k

done_from : (s : Status) → is_live s ≡ false → is_pending s ≡ false → is_done s ≡ true
done_from Pending a b = sym b
done_from Live a b = sym a
done_from Dead a b = refl
done_from Cancelled a b = refl

pub sheds-lives : (mem : List ℕ) (hs : List Head) → any_pending (messages mem hs) ≡ false → Sheds (messages mem hs) (messages mem (lives hs))
sheds-lives mem [] q = none
sheds-lives mem (h ∷ hs) q = at (sheds-lives mem hs (or_parts (is_pending h.status) _ q).1) (live_head h) refl
  where
    at : Sheds (messages mem hs) (messages mem (lives hs)) → (b : Bool) → live_head h ≡ b → Sheds (messages mem (h ∷ hs)) (messages mem (cond b (h ∷ lives hs) (lives hs)))
    at k true e = kept k
    at k false e = shed (done_from h.status e (or_parts (is_pending h.status) _ q).0) k

-- apart from what is written
abbrev pub Apart : ℕ → ℕ → List Head → Type 0
Apart A n [] = Unit {0}
Apart A n (h ∷ hs) = ((h.place.at + h.place.len ≤ A) ⊎ (A + n ≤ h.place.at)) × Apart A n hs

Apart_inline : (segs slots a f n : ℕ) (o : DiskPtr) (at len : ℕ) → a < segs → f + (32 + n) ≤ 4096 → lid_of o / 4096 < segs → lid_of o + foot_of o len ≤ limit a f (lid_of o / 4096) → homed segs slots o at len ≡ true → (at + len ≤ a * 4096 + f + 32) ⊎ (a * 4096 + f + 32 + n ≤ at)
Apart_inline segs slots a f n (Inline x) at len i r s u t = go (cases_eq (x / 4096) a) (cases_lt (x / 4096) a)
  where
    e : at ≡ x + 32
    e = eqb-true at (x + 32) t

    go : (x / 4096 ≡ a) ⊎ (x / 4096 ≡ a → ⊥) → (x / 4096 < a) ⊎ (a ≤ x / 4096) → (at + len ≤ a * 4096 + f + 32) ⊎ (a * 4096 + f + 32 + n ≤ at)
    go (inl q) z = inl (omega (arith, e, limit-here a f (x / 4096) q))
    go (inr q) (inl z) = inl (omega (arith, e, limit-there a f (x / 4096) q))
    go (inr q) (inr z) = inr (omega (arith, e, q))
Apart_inline segs slots a f n (Blob x (negsuc j)) at len i r s u t = absurd (false≢true t)
Apart_inline segs slots a f n (Blob x (pos j)) at len i r s u t =
    let b = (and_parts (ltb j slots) _ t).1 in
    let e : at ≡ segs * 4096 + j * 1152 = eqb-true at (segs * 4096 + j * 1152) (and_parts (eqb at (segs * 4096 + j * 1152)) _ b).0 in
    inr (omega arith)

pub Apart_inlines : (segs slots a f n : ℕ) (hs : List Head) → a < segs → f + (32 + n) ≤ 4096 → laid segs slots a f hs ≡ true → Apart (a * 4096 + f + 32) n hs
Apart_inlines segs slots a f n [] i r t = tt
Apart_inlines segs slots a f n (h ∷ hs) i r t =
    let p = (and_parts (placed segs slots a f h) _ t).0 in
    (Apart_inline segs slots a f n h.pointer h.place.at h.place.len i r (in_segs segs slots a f h p) (under segs slots a f h p) (home segs slots a f h p), Apart_inlines segs slots a f n hs i r (and_parts (placed segs slots a f h) _ t).1)

Apart-blob : (segs slots a f n i : ℕ) (o : DiskPtr) (at len : ℕ) → f ≤ 4096 → n ≤ 1152 → slot_is i o ≡ false → lid_of o / 4096 < segs → lid_of o + foot_of o len ≤ limit a f (lid_of o / 4096) → homed segs slots o at len ≡ true → (at + len ≤ segs * 4096 + i * 1152) ⊎ (segs * 4096 + i * 1152 + n ≤ at)
Apart-blob segs slots a f n i (Inline x) at len l m v s u t =
    let e : at ≡ x + 32 = eqb-true at (x + 32) t in
    let w = limit-most a f (x / 4096) l in
    inl (omega arith)
Apart-blob segs slots a f n i (Blob x (negsuc j)) at len l m v s u t = absurd (false≢true t)
Apart-blob segs slots a f n i (Blob x (pos j)) at len l m v s u t = go (cases_lt j i)
  where
    b : ((eqb at (segs * 4096 + j * 1152)) && leb len 1152) ≡ true
    b = (and_parts (ltb j slots) _ t).1

    e : at ≡ segs * 4096 + j * 1152
    e = eqb-true at (segs * 4096 + j * 1152) (and_parts (eqb at (segs * 4096 + j * 1152)) _ b).0

    k : len ≤ 1152
    k = leb-true len 1152 (and_parts (eqb at (segs * 4096 + j * 1152)) _ b).1

    go : (j < i) ⊎ (i ≤ j) → (at + len ≤ segs * 4096 + i * 1152) ⊎ (segs * 4096 + i * 1152 + n ≤ at)
    go (inl z) = inl (omega (arith, e, k))
    go (inr z) = let d : j ≡ i → ⊥ = eqb-false j i v in inr (omega (arith, e))

pub Apart_blobs : (segs slots a f n i : ℕ) (hs : List Head) → f ≤ 4096 → n ≤ 1152 → list_any (in_slot i) hs ≡ false → laid segs slots a f hs ≡ true → Apart (segs * 4096 + i * 1152) n hs
Apart_blobs segs slots a f n i [] l m v t = tt
Apart_blobs segs slots a f n i (h ∷ hs) l m v t =
    let p = (and_parts (placed segs slots a f h) _ t).0 in
    (Apart-blob segs slots a f n i h.pointer h.place.at h.place.len l m (or_parts (in_slot i h) (list_any (in_slot i) hs) v).0 (in_segs segs slots a f h p) (under segs slots a f h p) (home segs slots a f h p), Apart_blobs segs slots a f n i hs l m (or_parts (in_slot i h) (list_any (in_slot i) hs) v).1 (and_parts (placed segs slots a f h) _ t).1)

-- a write apart leaves the payloads
part_left : (A n at len : ℕ) (xs ys : List ℕ) → at + len ≤ A → A ≤ length xs → take len (drop at (put_mid A n xs ys)) ≡ take len (drop at xs)
part_left A n at len xs ys h l = sym (drop-take at len (put_mid A n xs ys)) ∙ ap (drop at) (take-put_mid_below A n xs ys (at + len) h l) ∙ drop-take at len xs

pub messages_apart : (A n : ℕ) (xs ys : List ℕ) (hs : List Head) → A ≤ length xs → length ys ≡ n → Apart A n hs → messages (put_mid A n xs ys) hs ≡ messages xs hs
messages_apart A n xs ys [] l e t = refl
messages_apart A n xs ys (h ∷ hs) l e t = rw (at t.0, messages_apart A n xs ys hs l e t.1)
  where
    at : (h.place.at + h.place.len ≤ A) ⊎ (A + n ≤ h.place.at) → take h.place.len (drop h.place.at (put_mid A n xs ys)) ≡ take h.place.len (drop h.place.at xs)
    at (inl z) = part_left A n h.place.at h.place.len xs ys z l
    at (inr z) = ap (take h.place.len) (drop-put_mid A n xs ys h.place.at z l e)

pub part_new : (A n : ℕ) (xs ys : List ℕ) → A ≤ length xs → length ys ≡ n → take n (drop A (put_mid A n xs ys)) ≡ ys
part_new A n xs ys l e =
    let d : A + n - A ≡ n = omega arith in
    ap (λ (z : ℕ). take z (drop A (put_mid A n xs ys))) (sym d) ∙ between-put_mid A n xs ys (A + n) l (e ∙ sym d)
