-- Headers by index. Assumes nothing.
use Rattle.std.proofs.Common.{Bor, MatchOption, eqb, ◌≡◌, ℕ, zero, suc, ◌+◌, ◌-◌, ◌<◌, ◌≤◌, Bool, true, false, cond, not, ltb, leb, ◌⊎◌, List, [], ◌∷◌, ◌++◌, length, get_or, set, Some, None, refl, ap, ◌∙◌, inl, inr, arith, ltb-true, lt-ltb, eq-eqb, ne_eqb, le-leb, leb-true, Ok, Err, Result, Option, sym, subst, eqb-true, tests}
use Rattle.std.proofs.lemmas.Bool.{cases_lt, not-true, and_from, and_parts, or_parts, false_from_ne_true, cases_order, false≢true}
use Rattle.std.proofs.lemmas.List.{get_or_read, length-append, nil_from_length}
use Rattle.fault.specs.declared.disk_pointer.DiskPtr.{DiskPtr}
use Rattle.logs.specs.Meaning.{Message, is_pending, is_live, is_at, same_ptr, sweep, any_pending, pending_at, live_at, Sheds, none, kept, Below}
use Rattle.logs.specs.declared.messages.Status.{Status}
use Rattle.logs.specs.contracts.messages.Status.{the_type}
use denote.Enum.Bare.{sameb}
use Rattle.logs.specs.declared.messages.Status.TheVariants.{Pending, Live, Dead, Cancelled}
use Rattle.book.specs.declared.head.Head.{Head}
use Rattle.book.specs.declared.head.Place.{Place}
use Rattle.book.specs.Heads.{calm, message, messages, with_status, bare, Ranked, ranked, lives, live_head, At, AtStatus}
use Rattle.std.specs.List.{list_any, HoldsAt}
use Rattle.std.specs.Prelude.{find, ◌&&◌, ◌||◌}
use Rattle.std.specs.Bool.{then_some}
use Rattle.std.specs.Result.{result_ok}
use Rattle.std.specs.Ordering.{nat_cmp, ordering_index, MatchOrdering}
use Rattle.std.specs.declared.cmp.Ordering.{Ordering}
use Rattle.std.specs.declared.cmp.Ordering.TheVariants.{Less, Greater}
use Rattle.std.specs.List.Sorted.{IsBinarySearchResult, IsSearchInRange, IsPartitionPoint}
use Rattle.std.proofs.lemmas.Cmp.{ranked as by-cmp}
use Rattle.std.proofs.lemmas.Bool.Decides.{Decides-int_eq}
use Rattle.fault.specs.declared.disk_pointer.DiskPtr.TheVariants.{Inline, Blob}
use Rattle.logs.specs.declared.messages.Kind.TheVariants.{Free}
use Rattle.logs.proofs.Laws.{same_self}
use Rattle.book.specs.Books.{LiveIndex, PendingIndex}
use Rattle.std.proofs.Math.Bool.{and-false, or-false}

-- so many bytes from an offset on
abbrev pub span : ℕ → ℕ → Place
span at len = record { at = at; len = len }

-- tests and facts
pub is-ranked : (lo next room : ℕ) (hs : List Head) → ranked lo next room hs ≡ true → Ranked lo next room hs
is-ranked lo next room [] t = tt
is-ranked lo next room (h ∷ hs) t =
    let a = (and_parts (ltb lo h.lsn) _ t).1 in
    let b = (and_parts (ltb h.lsn next) _ a).1 in
    let d = (and_parts (leb (h.place.at + h.place.len) room) _ b).1 in
    (ltb-true lo h.lsn (and_parts (ltb lo h.lsn) _ t).0, ltb-true h.lsn next (and_parts (ltb h.lsn next) _ a).0, leb-true (h.place.at + h.place.len) room (and_parts (leb (h.place.at + h.place.len) room) _ b).0, leb-true h.place.len 1152 (and_parts (leb h.place.len 1152) _ d).0, is-ranked h.lsn next room hs (and_parts (leb h.place.len 1152) _ d).1)

pub to_ranked : (lo next room : ℕ) (hs : List Head) → Ranked lo next room hs → ranked lo next room hs ≡ true
to_ranked lo next room [] t = refl
to_ranked lo next room (h ∷ hs) t =
    rw (lt-ltb lo h.lsn t.0, lt-ltb h.lsn next t.1, le-leb (h.place.at + h.place.len) room t.2, le-leb h.place.len 1152 t.3) (to_ranked h.lsn next room hs t.4)

-- by index
pub ranked_above : (lo next room : ℕ) (hs : List Head) → Ranked lo next room hs → (k : ℕ) (d : Head) → k < length hs → lo < (get_or hs k d).lsn
ranked_above lo next room [] t k d h = absurd (omega arith)
ranked_above lo next room (x ∷ hs) t zero d h = t.0
ranked_above lo next room (x ∷ hs) t (suc k) d h = let a = ranked_above x.lsn next room hs t.4 k d (omega arith) in omega (arith, t.0)

pub ranked_rise : (lo next room : ℕ) (hs : List Head) → Ranked lo next room hs → (i j : ℕ) (d : Head) → i < j → j < length hs → (get_or hs i d).lsn < (get_or hs j d).lsn
ranked_rise lo next room [] t i j d g h = absurd (omega arith)
ranked_rise lo next room (x ∷ hs) t zero zero d g h = absurd (omega arith)
ranked_rise lo next room (x ∷ hs) t zero (suc j) d g h = ranked_above x.lsn next room hs t.4 j d (omega arith)
ranked_rise lo next room (x ∷ hs) t (suc i) zero d g h = absurd (omega arith)
ranked_rise lo next room (x ∷ hs) t (suc i) (suc j) d g h = ranked_rise x.lsn next room hs t.4 i j d (omega arith) (omega arith)

pub ranked-within : (lo next room : ℕ) (hs : List Head) → Ranked lo next room hs → (k : ℕ) (d : Head) → k < length hs → (get_or hs k d).place.at + (get_or hs k d).place.len ≤ room
ranked-within lo next room [] t k d h = absurd (omega arith)
ranked-within lo next room (x ∷ hs) t zero d h = t.2
ranked-within lo next room (x ∷ hs) t (suc k) d h = ranked-within x.lsn next room hs t.4 k d (omega arith)

pub ranked-small : (lo next room : ℕ) (hs : List Head) → Ranked lo next room hs → (k : ℕ) (d : Head) → k < length hs → (get_or hs k d).place.len ≤ 1152
ranked-small lo next room [] t k d h = absurd (omega arith)
ranked-small lo next room (x ∷ hs) t zero d h = t.3
ranked-small lo next room (x ∷ hs) t (suc k) d h = ranked-small x.lsn next room hs t.4 k d (omega arith)

-- a status does not count
pub ranked-set : (lo next room : ℕ) (hs : List Head) → Ranked lo next room hs → (k : ℕ) (d : Head) (s : Status) → Ranked lo next room (set hs k (with_status s (get_or hs k d)))
ranked-set lo next room [] t k d s = tt
ranked-set lo next room (x ∷ hs) t zero d s = (t.0, t.1, t.2, t.3, t.4)
ranked-set lo next room (x ∷ hs) t (suc k) d s = (t.0, t.1, t.2, t.3, ranked-set x.lsn next room hs t.4 k d s)

pub bare_set : (hs : List Head) (k : ℕ) (d : Head) (s : Status) → bare (set hs k (with_status s (get_or hs k d))) ≡ bare hs
bare_set [] k d s = refl
bare_set (x ∷ hs) zero d s = refl
bare_set (x ∷ hs) (suc k) d s = rw (bare_set hs k d s)

-- one pointer
pub same-is : (a b : DiskPtr) → same_ptr a b ≡ true → a ≡ b
same-is (Inline x) (Inline y) h = ap Inline (eqb-true x y h)
same-is (Inline x) (Blob y j) h = absurd (false≢true h)
same-is (Blob x i) (Inline y) h = absurd (false≢true h)
same-is (Blob x i) (Blob y j) h =
    let p = and_parts (eqb x y) _ h in
    ap (λ (z : ℕ). Blob z i) (eqb-true x y p.0) ∙ ap (Blob y) ((Decides-int_eq i j).0 p.1)

pub not_here : (l : ℕ) (o : DiskPtr) (m : Message) → (m.lsn ≡ l → ⊥) → is_at l o m ≡ false
not_here l o m n = rw (ne_eqb m.lsn l n)

-- what a test finds at position l, and nowhere else
module _ (mem : List ℕ) (test : Message → Bool) (l : ℕ) (only : (m : Message) → (m.lsn ≡ l → ⊥) → test m ≡ false) where
  pub sweep_past : (s : Status) (lo next room : ℕ) (hs : List Head) → Ranked lo next room hs → l ≤ lo → sweep test s (messages mem hs) ≡ messages mem hs
  sweep_past s lo next room [] t h = refl
  sweep_past s lo next room (x ∷ hs) t h = rw (only (message mem x) (λ e. omega (arith, t.0)), sweep_past s x.lsn next room hs t.4 (omega (arith, t.0)))

  pub sweep-one : (st : Status) (lo next room : ℕ) (hs : List Head) → Ranked lo next room hs → (k : ℕ) (d : Head) → k < length hs → (get_or hs k d).lsn ≡ l → test (message mem (get_or hs k d)) ≡ true → sweep test st (messages mem hs) ≡ messages mem (set hs k (with_status st (get_or hs k d)))
  sweep-one st lo next room [] r k d h e t = absurd (omega arith)
  sweep-one st lo next room (x ∷ hs) r zero d h e t = rw (t, sweep_past st x.lsn next room hs r.4 (omega arith))
  sweep-one st lo next room (x ∷ hs) r (suc k) d h e t =
      let a = ranked_above x.lsn next room hs r.4 k d (omega arith) in
      rw (only (message mem x) (λ q. omega arith), sweep-one st x.lsn next room hs r.4 k d (omega arith) e t)

  pub sweep_not : (s : Status) (lo next room : ℕ) (hs : List Head) → Ranked lo next room hs → (k : ℕ) (d : Head) → k < length hs → (get_or hs k d).lsn ≡ l → test (message mem (get_or hs k d)) ≡ false → sweep test s (messages mem hs) ≡ messages mem hs
  sweep_not s lo next room [] r k d h e t = refl
  sweep_not s lo next room (x ∷ hs) r zero d h e t = rw (t, sweep_past s x.lsn next room hs r.4 (omega arith))
  sweep_not s lo next room (x ∷ hs) r (suc k) d h e t =
      let a = ranked_above x.lsn next room hs r.4 k d (omega arith) in
      rw (only (message mem x) (λ q. omega arith), sweep_not s x.lsn next room hs r.4 k d (omega arith) e t)

module _ (mem : List ℕ) (l : ℕ) (o : DiskPtr) where
  live_past : (lo next room : ℕ) (hs : List Head) → Ranked lo next room hs → l ≤ lo → live_at (messages mem hs) l o ≡ None
  live_past lo next room [] t h = refl
  live_past lo next room (x ∷ hs) t h = rw (not_here l o (message mem x) (λ e. omega (arith, t.0)), and-false (is_live x.status)) (live_past x.lsn next room hs t.4 (omega (arith, t.0)))

  pub live-is : (lo next room : ℕ) (hs : List Head) → Ranked lo next room hs → (k : ℕ) (d : Head) → k < length hs → (get_or hs k d).lsn ≡ l → live_at (messages mem hs) l o ≡ (cond (is_live (get_or hs k d).status && same_ptr (get_or hs k d).pointer o) (Some (message mem (get_or hs k d))) None)
  live-is lo next room [] r k d h e = absurd (omega arith)
  live-is lo next room (x ∷ hs) r zero d h e = rw (eq-eqb x.lsn l e, live_past x.lsn next room hs r.4 (omega arith)) refl
  live-is lo next room (x ∷ hs) r (suc k) d h e =
      let a = ranked_above x.lsn next room hs r.4 k d (omega arith) in
      rw (not_here l o (message mem x) (λ q. omega arith), and-false (is_live x.status)) (live-is x.lsn next room hs r.4 k d (omega arith) e)

  pending_past : (lo next room : ℕ) (hs : List Head) → Ranked lo next room hs → l ≤ lo → pending_at (messages mem hs) l o ≡ false
  pending_past lo next room [] t h = refl
  pending_past lo next room (x ∷ hs) t h = rw (not_here l o (message mem x) (λ e. omega (arith, t.0)), and-false (is_pending x.status)) (pending_past x.lsn next room hs t.4 (omega (arith, t.0)))

  pub pending-is : (lo next room : ℕ) (hs : List Head) → Ranked lo next room hs → (k : ℕ) (d : Head) → k < length hs → (get_or hs k d).lsn ≡ l → pending_at (messages mem hs) l o ≡ (is_pending (get_or hs k d).status && same_ptr (get_or hs k d).pointer o)
  pending-is lo next room [] r k d h e = absurd (omega arith)
  pending-is lo next room (x ∷ hs) r zero d h e = rw (eq-eqb x.lsn l e, pending_past x.lsn next room hs r.4 (omega arith)) (or-false (is_pending x.status && same_ptr x.pointer o))
  pending-is lo next room (x ∷ hs) r (suc k) d h e =
      let a = ranked_above x.lsn next room hs r.4 k d (omega arith) in
      rw (not_here l o (message mem x) (λ q. omega arith), and-false (is_pending x.status)) (pending-is x.lsn next room hs r.4 k d (omega arith) e)

-- what the derived `==` says of a state
pub is_live-eq : (s : Status) → sameb the_type s Live ≡ is_live s
is_live-eq Pending = refl
is_live-eq Live = refl
is_live-eq Dead = refl
is_live-eq Cancelled = refl

pub is_pending-eq : (s : Status) → sameb the_type s Pending ≡ is_pending s
is_pending-eq Pending = refl
is_pending-eq Live = refl
is_pending-eq Dead = refl
is_pending-eq Cancelled = refl

-- what has no position, pointer and status is found by no test of them
module _ (mem : List ℕ) (l : ℕ) (o : DiskPtr) (s : Status) (T : Status → Bool) (only : (t : Status) → T t ≡ true → t ≡ s) where
  abbrev sought : Message → Bool
  sought m = T m.state && is_at l o m

  dull : (m : Message) → ((m.lsn ≡ l) × (m.pointer ≡ o) × (m.state ≡ s) → ⊥) → sought m ≡ false
  dull m n = false_from_ne_true (sought m) (λ t. let a = and_parts (T m.state) _ t in let b = and_parts (eqb m.lsn l) _ a.1 in n (eqb-true m.lsn l b.0, same-is m.pointer o b.1, only m.state a.0))

  pub none-found : (hs : List Head) → AtStatus hs l o s None → find sought (messages mem hs) ≡ None
  none-found [] n = refl
  none-found (x ∷ hs) n = rw (dull (message mem x) (λ f. n 0 x (omega arith) f)) (none-found hs (λ k d h f. n (suc k) d (omega arith) f))

  pub none-sought : (hs : List Head) → AtStatus hs l o s None → list_any sought (messages mem hs) ≡ false
  none-sought [] n = refl
  none-sought (x ∷ hs) n = rw (dull (message mem x) (λ f. n 0 x (omega arith) f)) (none-sought hs (λ k d h f. n (suc k) d (omega arith) f))

pub only-live : (t : Status) → is_live t ≡ true → t ≡ Live
only-live Live h = refl
only-live Pending h = absurd (false≢true h)
only-live Dead h = absurd (false≢true h)
only-live Cancelled h = absurd (false≢true h)

pub only-pending : (t : Status) → is_pending t ≡ true → t ≡ Pending
only-pending Pending h = refl
only-pending Live h = absurd (false≢true h)
only-pending Dead h = absurd (false≢true h)
only-pending Cancelled h = absurd (false≢true h)

-- what a search by status gives
module _ (mem : List ℕ) (l : ℕ) (o : DiskPtr) (next room : ℕ) (hs : List Head) (t : ranked 0 next room hs ≡ true) where
  pub live-at : (r : Option ℕ) → AtStatus hs l o Live r → LiveIndex mem hs l o r
  live-at None n = none-found mem l o Live is_live only-live hs n
  live-at (Some i) h = (
    h.0,
    λ d. let e = h.1 d in
        let p : is_live (get_or hs i d).status ≡ true = rw e.2 refl in
        let q : same_ptr (get_or hs i d).pointer o ≡ true = rw e.1 (same_self o) in
        (p, e.0, q, live-is mem l o 0 next room hs (is-ranked 0 next room hs t) i d h.0 e.0 ∙ rw (p, q) refl),
  )

  pub pending-at : (r : Option ℕ) → AtStatus hs l o Pending r → PendingIndex mem hs l o r
  pending-at None n = none-sought mem l o Pending is_pending only-pending hs n
  pending-at (Some i) h =
      let p = λ (d : Head). let p : is_pending (get_or hs i d).status ≡ true = rw (h.1 d).2 refl in p in
      let q = λ (d : Head). let q : same_ptr (get_or hs i d).pointer o ≡ true = rw (h.1 d).1 (same_self o) in q in
      let none : Head = record { lsn = 0; pointer = o; page = 0; kind = Free; place = span 0 0; status = Dead } in
      (h.0, pending-is mem l o 0 next room hs (is-ranked 0 next room hs t) i none h.0 (h.1 none).0 ∙ rw (p none, q none) refl, λ d. (p d, (h.1 d).0, q d))

-- one position stands at one index
pub one-index : (next room : ℕ) (hs : List Head) (i k : ℕ) (d : Head) → ranked 0 next room hs ≡ true → i < length hs → k < length hs → (get_or hs i d).lsn ≡ (get_or hs k d).lsn → k ≡ i
one-index next room hs i k d t h g e = at (cases_order k i)
  where
    at : (k ≡ i) ⊎ ((k < i) ⊎ (i < k)) → k ≡ i
    at (inl a) = a
    at (inr (inl a)) = let z = ranked_rise 0 next room hs (is-ranked 0 next room hs t) k i d a h in absurd (omega arith)
    at (inr (inr a)) = let z = ranked_rise 0 next room hs (is-ranked 0 next room hs t) i k d a g in absurd (omega arith)

-- the message at a position is tested for its status and pointer
pub tested : (next room : ℕ) (hs : List Head) (l : ℕ) (o : DiskPtr) (s : Status) (i : ℕ) (x : Head) (b : Bool) → ranked 0 next room hs ≡ true → At hs l (Some i) → x ≡ get_or hs i x → (b ≡ true → (x.status ≡ s) × (x.pointer ≡ o)) → (b ≡ false → x.status ≡ s → x.pointer ≡ o → ⊥) → AtStatus hs l o s (then_some b i)
tested next room hs l o s i x true t h at p q =
    let is = λ (d : Head). get_or_read hs i x h.0 at d in
    (h.0, λ d. (h.1 d, ap (λ (y : Head). y.pointer) (sym (is d)) ∙ (p refl).1, ap (λ (y : Head). y.status) (sym (is d)) ∙ (p refl).0))
tested next room hs l o s i x false t h at p q = λ k d g f.
    let e : k ≡ i = one-index next room hs i k d t h.0 g (h.1 d ∙ sym f.0) in
    let is : get_or hs k d ≡ x = ap (λ (j : ℕ). get_or hs j d) e ∙ sym (get_or_read hs i x h.0 at d) in
    q refl (ap (λ (y : Head). y.status) (sym is) ∙ f.2) (ap (λ (y : Head). y.pointer) (sym is) ∙ f.1)

pub ranked_restated : (next room : ℕ) (hs : List Head) (k : ℕ) (x : Head) (s : Status) → x ≡ get_or hs k x → ranked 0 next room hs ≡ true → ranked 0 next room (set hs k (with_status s x)) ≡ true
ranked_restated next room hs k x s at t =
    rw at (to_ranked 0 next room (set hs k (with_status s (get_or hs k x))) (ranked-set 0 next room hs (is-ranked 0 next room hs t) k x s))

-- what a search by position finds
pub searched-heads : (next room : ℕ) (hs : List Head) (l : ℕ) (r : Result ℕ ℕ) → ranked 0 next room hs ≡ true → IsSearchInRange r (length hs) → IsBinarySearchResult (λ (h : Head). nat_cmp h.lsn l) hs r → At hs l (result_ok r)
searched-heads next room hs l (Ok i) t n h = (n, λ d. subst (λ o. MatchOrdering o ((get_or hs i d).lsn < l) ((get_or hs i d).lsn ≡ l) (l < (get_or hs i d).lsn)) (h d) (by-cmp (get_or hs i d).lsn l (nat_cmp (get_or hs i d).lsn l) refl))
searched-heads next room hs l (Err i) t n h = λ k d g e. apart k d g e (cases_lt k i)
  where
    higher : (a b : ℕ) → a ≤ b → ordering_index (nat_cmp a l) ≤ ordering_index (nat_cmp b l)
    higher a b le = grind (arith, tests)

    up : (a b : ℕ) (d : Head) → a ≤ b → b < length hs → (get_or hs a d).lsn ≤ (get_or hs b d).lsn
    up a b d le g = at (cases_lt a b)
      where
        at : (a < b) ⊎ (b ≤ a) → (get_or hs a d).lsn ≤ (get_or hs b d).lsn
        at (inl z) = let y = ranked_rise 0 next room hs (is-ranked 0 next room hs t) a b d z g in omega arith
        at (inr z) = let y : a ≡ b = omega arith in rw y (omega arith)

    parted : IsPartitionPoint (λ (h : Head). nat_cmp h.lsn l ≡ Less) (λ (h : Head). nat_cmp h.lsn l ≡ Greater) hs i
    parted = h (λ a b d le g. higher (get_or hs a d).lsn (get_or hs b d).lsn (up a b d le g))

    told : (k : ℕ) (d : Head) (o : Ordering) → nat_cmp (get_or hs k d).lsn l ≡ o → MatchOrdering o ((get_or hs k d).lsn < l) ((get_or hs k d).lsn ≡ l) (l < (get_or hs k d).lsn)
    told k d o e = subst (λ o. MatchOrdering o ((get_or hs k d).lsn < l) ((get_or hs k d).lsn ≡ l) (l < (get_or hs k d).lsn)) e (by-cmp (get_or hs k d).lsn l (nat_cmp (get_or hs k d).lsn l) refl)

    apart : (k : ℕ) (d : Head) → k < length hs → (get_or hs k d).lsn ≡ l → (k < i) ⊎ (i ≤ k) → ⊥
    apart k d g e (inl z) = let y = told k d Less (parted.0 k d (omega arith) z) in absurd (omega arith)
    apart k d g e (inr z) = let y = told k d Greater (parted.1 k d z g) in absurd (omega arith)

-- more room
pub ranked-room : (lo next room more : ℕ) (hs : List Head) → room ≤ more → Ranked lo next room hs → Ranked lo next more hs
ranked-room lo next room more [] h t = tt
ranked-room lo next room more (x ∷ hs) h t = (t.0, t.1, omega (arith, t.2), t.3, ranked-room x.lsn next room more hs h t.4)

-- one more
pub ranked_push : (lo next room : ℕ) (hs : List Head) (x : Head) → lo < next → x.lsn ≡ next → x.place.at + x.place.len ≤ room → x.place.len ≤ 1152 → Ranked lo next room hs → Ranked lo (next + 1) room (hs ++ (x ∷ []))
ranked_push lo next room [] x h e f g t = (omega arith, omega arith, f, g, tt)
ranked_push lo next room (y ∷ hs) x h e f g t = (t.0, omega (arith, t.1), t.2, t.3, ranked_push y.lsn next room hs x t.1 e f g t.4)

pub messages_push : (mem : List ℕ) (hs : List Head) (x : Head) → messages mem (hs ++ (x ∷ [])) ≡ messages mem hs ++ (message mem x ∷ [])
messages_push mem [] x = refl
messages_push mem (h ∷ hs) x = rw (messages_push mem hs x)

pub messages_below : (lo next room : ℕ) (mem : List ℕ) (hs : List Head) → Ranked lo next room hs → Below next (messages mem hs)
messages_below lo next room mem [] t = tt
messages_below lo next room mem (h ∷ hs) t = (t.1, messages_below h.lsn next room mem hs t.4)

pub sheds-none : (ms : List Message) → Sheds ms ms
sheds-none [] = none
sheds-none (m ∷ ms) = kept (sheds-none ms)

-- ---- no message but the last is pending

-- whether any is pending is told by the last
calm-last : (mem : List ℕ) (hs : List Head) (d : Head) → calm hs ≡ true → 0 < length hs → any_pending (messages mem hs) ≡ is_pending (get_or hs (length hs - 1) d).status
calm-last mem [] d c h = absurd (omega arith)
calm-last mem (x ∷ []) d c h = or-false (is_pending x.status)
calm-last mem (x ∷ y ∷ hs) d c h =
    let quiet = not-true (is_pending x.status) (and_parts (not (is_pending x.status)) _ c).0 in
    ap (λ (b : Bool). (b || (any_pending (messages mem (y ∷ hs))))) quiet ∙ calm-last mem (y ∷ hs) d (and_parts (not (is_pending x.status)) _ c).1 (omega arith) ∙ ap (λ (g : Head). is_pending g.status) (later hs)
  where
    later : (zs : List Head) → get_or (y ∷ zs) (suc (length zs) - 1) d ≡ get_or (x ∷ y ∷ zs) (suc (suc (length zs)) - 1) d
    later zs = let e : suc (length zs) - 1 ≡ length zs = omega arith in let f : suc (suc (length zs)) - 1 ≡ suc (length zs) = omega arith in rw (e, f) refl

pub last-told : (mem : List ℕ) (hs : List Head) (o : Option (Bor Head)) (r : Bool) → calm hs ≡ true → MatchOption o (length hs ≤ 0) (λ x. (0 < length hs) × HoldsAt (λ y. x.now ≡ y) hs (length hs - 1)) → MatchOption o (r ≡ false) (λ x. r ≡ sameb the_type x.now.status Pending) → r ≡ any_pending (messages mem hs)
last-told mem hs None r c e m = m ∙ sym (ap (λ (gs : List Head). any_pending (messages mem gs)) (nil_from_length hs (omega arith)))
last-told mem hs (Some x) r c e m = m ∙ is_pending-eq x.now.status ∙ ap (λ (y : Head). is_pending y.status) (e.1 x.now) ∙ sym (calm-last mem hs x.now c e.0)

-- a quiet list is calm, and one more behind it leaves it so
pub calm_push : (mem : List ℕ) (hs : List Head) (x : Head) → any_pending (messages mem hs) ≡ false → calm (hs ++ (x ∷ [])) ≡ true
calm_push mem [] x q = refl
calm_push mem (y ∷ []) x q = rw (or_parts (is_pending y.status) false q).0 refl
calm_push mem (y ∷ z ∷ hs) x q = rw (or_parts (is_pending y.status) _ q).0 (calm_push mem (z ∷ hs) x (or_parts (is_pending y.status) _ q).1)

calm-quiet : (mem : List ℕ) (hs : List Head) → any_pending (messages mem hs) ≡ false → calm hs ≡ true
calm-quiet mem [] q = refl
calm-quiet mem (y ∷ []) q = refl
calm-quiet mem (y ∷ z ∷ hs) q = rw (or_parts (is_pending y.status) _ q).0 (calm-quiet mem (z ∷ hs) (or_parts (is_pending y.status) _ q).1)

live-quiet : (s : Status) → is_live s ≡ true → is_pending s ≡ false
live-quiet s h = ap is_pending (only-live s h)

pub quiet-lives : (mem : List ℕ) (hs : List Head) → any_pending (messages mem (lives hs)) ≡ false
quiet-lives mem [] = refl
quiet-lives mem (x ∷ hs) = at (quiet-lives mem hs) (live_head x) refl
  where
    at : any_pending (messages mem (lives hs)) ≡ false → (b : Bool) → live_head x ≡ b → any_pending (messages mem (cond b (x ∷ lives hs) (lives hs))) ≡ false
    at k true e = rw (live-quiet x.status e) k
    at k false e = k

pub lives-calm : (hs gs : List Head) → gs ≡ lives hs → calm gs ≡ true
lives-calm hs gs e = rw e (calm-quiet [] (lives hs) (quiet-lives [] hs))

stays-calm : (a b c : Bool) → (a ≡ false → b ≡ false) → (not a && c) ≡ true → (not b && c) ≡ true
stays-calm true b c f h = absurd (false≢true h)
stays-calm false b c f h = rw (f refl) h

pub calm_set : (hs : List Head) (k : ℕ) (d : Head) (s : Status) → (is_pending (get_or hs k d).status ≡ false → is_pending s ≡ false) → calm hs ≡ true → calm (set hs k (with_status s (get_or hs k d))) ≡ true
calm_set [] k d s f c = refl
calm_set (x ∷ []) zero d s f c = refl
calm_set (x ∷ []) (suc k) d s f c = refl
calm_set (x ∷ y ∷ hs) zero d s f c = stays-calm (is_pending x.status) (is_pending s) (calm (y ∷ hs)) f c
calm_set (x ∷ y ∷ hs) (suc zero) d s f c = and_from (not (is_pending x.status)) _ (and_parts (not (is_pending x.status)) _ c).0 (calm_set (y ∷ hs) zero d s f (and_parts (not (is_pending x.status)) _ c).1)
calm_set (x ∷ y ∷ hs) (suc (suc k)) d s f c = and_from (not (is_pending x.status)) _ (and_parts (not (is_pending x.status)) _ c).0 (calm_set (y ∷ hs) (suc k) d s f (and_parts (not (is_pending x.status)) _ c).1)

pub calm_restated : (hs : List Head) (k : ℕ) (x : Head) (s : Status) → x ≡ get_or hs k x → (is_pending x.status ≡ false → is_pending s ≡ false) → calm hs ≡ true → calm (set hs k (with_status s x)) ≡ true
calm_restated hs k x s at f c = rw at (calm_set hs k x s (λ h. f (rw at h)) c)

pub pushed_ranked : (next room : ℕ) (hs gs : List Head) (x : Head) → gs ≡ hs ++ (x ∷ []) → 0 < next → x.lsn ≡ next → x.place.at + x.place.len ≤ room → x.place.len ≤ 1152 → ranked 0 next room hs ≡ true → ranked 0 (next + 1) room gs ≡ true
pushed_ranked next room hs gs x g h e f k t = rw g (to_ranked 0 (next + 1) room (hs ++ (x ∷ [])) (ranked_push 0 next room hs x h e f k (is-ranked 0 next room hs t)))

pub grown : (b : Bool) (xs ys now : List ℕ) → b ≡ true → now ≡ cond b (xs ++ ys) xs → now ≡ xs ++ ys
grown b xs ys now e h = let h' : now ≡ cond true (xs ++ ys) xs = rw e at h in h'

pub grown-ranked : (next : ℕ) (xs ys now : List ℕ) (hs : List Head) → now ≡ xs ++ ys → ranked 0 next (length xs) hs ≡ true → ranked 0 next (length now) hs ≡ true
grown-ranked next xs ys now hs e t =
    let l : length now ≡ length xs + length ys = ap length e ∙ length-append xs ys in
    to_ranked 0 next (length now) hs (ranked-room 0 next (length xs) (length now) hs (omega arith) (is-ranked 0 next (length xs) hs t))

-- what is left of ranked headers is ranked
ranked_lower : (lo more next room : ℕ) (hs : List Head) → more ≤ lo → Ranked lo next room hs → Ranked more next room hs
ranked_lower lo more next room [] h t = tt
ranked_lower lo more next room (x ∷ hs) h t = (omega (arith, t.0), t.1, t.2, t.3, t.4)

pub ranked-lives : (lo next room : ℕ) (hs : List Head) → Ranked lo next room hs → Ranked lo next room (lives hs)
ranked-lives lo next room [] t = tt
ranked-lives lo next room (x ∷ hs) t = at (ranked-lives x.lsn next room hs t.4) (live_head x)
  where
    at : Ranked x.lsn next room (lives hs) → (b : Bool) → Ranked lo next room (cond b (x ∷ lives hs) (lives hs))
    at k true = (t.0, t.1, t.2, t.3, k)
    at k false = ranked_lower x.lsn lo next room (lives hs) (omega (arith, t.0)) k

pub lives-ranked : (next room : ℕ) (hs gs : List Head) → gs ≡ lives hs → ranked 0 next room hs ≡ true → ranked 0 next room gs ≡ true
lives-ranked next room hs gs e t = rw e (to_ranked 0 next room (lives hs) (ranked-lives 0 next room hs (is-ranked 0 next room hs t)))
