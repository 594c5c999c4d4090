-- What one more message does. Assumes nothing.
use Rattle.std.proofs.Common.{◌≡◌, ℕ, zero, suc, ◌+◌, ◌*◌, ◌/◌, ◌^◌, ◌<◌, ◌≤◌, Bool, true, false, cond, eqb, ltb, leb, ◌⊎◌, List, [], ◌∷◌, ◌++◌, length, get_or, take, drop, is_some, Some, None, vec_items, vec_len, sym, refl, ap, ◌∙◌, subst, inl, inr, arith, ltb-true, lt-ltb, eq-eqb, eqb-true, le-leb, leb-true}
use Rattle.std.specs.Prelude.{pos, negsuc}
use Rattle.std.proofs.lemmas.Bool.Decides.{Decides-int_eq}
use Rattle.std.proofs.lemmas.List.{length-take}
use Rattle.logs.specs.declared.messages.Kind.{Kind}
use Rattle.fault.specs.declared.disk_pointer.DiskPtr.{DiskPtr}
use Rattle.fault.specs.declared.disk_pointer.DiskPtr.TheVariants.{Inline, Blob}
use Rattle.logs.specs.declared.reservation.Reservation.{Reservation}
use Rattle.logs.specs.Meaning.{Message, any_pending, is_live, Sheds, same_blob, same_ptr, live_at}
use Rattle.logs.specs.Clauses.{fresh, Reserved, Moved, blob_there}
use Rattle.book.specs.declared.head.Head.{Head}
use Rattle.book.specs.declared.book.Book.{Book}
use Rattle.book.specs.Heads.{message, messages, lives, live_head, payload_of}
use Rattle.book.specs.Books.{heads_of, mem_of, told, new_head, Ready, Appended, Overwritten, Compacted, LiveIndex}
use Rattle.book.proofs.Pages.{found-there, no_head}
use Rattle.std.proofs.lemmas.Bool.{false≢true, true≢false, lt-leb, not-true, and_from, and_parts}
use Rattle.book.proofs.Headers.{quiet-lives, span, is-ranked, messages_push, messages_below, sheds-none}
use Rattle.segmented.specs.declared.segmented.Segmented.{Segmented}
use Rattle.segmented.specs.Layout.{homed, placed, laid, in_slot, free_seg, free_slot, slot_busy, some_below, slot_is}
use Rattle.segmented.proofs.Counting.{header_left}
use Rattle.segmented.specs.Segments.{seg_means, seg_fits, ready, Able, Prepared, Swept, Put}
use Rattle.segmented.proofs.Laying.{limit-here, home, to_placed, vacant_lives, sheds-lives, Apart_inlines, Apart_blobs, messages_apart, part_new, Apart}
use Rattle.std.proofs.Math.Bool.{and-false, or-true}
use Rattle.logs.specs.declared.messages.Status.TheVariants.{Pending}
use Rattle.fault.specs.Pointers.{is_blob}
use Rattle.std.specs.List.{list_any}

appended_told : (c d : Book) (p : ℕ) (k : Kind) (o : DiskPtr) (at n : ℕ) (r : Reservation) → Appended c d p k o (span at n) r → told d ≡ told c ++ (message (mem_of c) (new_head c.next p k o (span at n)) ∷ [])
appended_told c d p k o at n r a =
    let x = new_head c.next p k o (span at n) in
    ap (λ v. messages (vec_items v) (heads_of d)) a.mem ∙ ap (messages (mem_of c)) a.heads ∙ messages_push (mem_of c) (heads_of c) x

-- the message that a header stands for
new_message : (c d : Book) (p : ℕ) (k : Kind) (bytes : List ℕ) (o : DiskPtr) (at n : ℕ) (r : Reservation) → Appended c d p k o (span at n) r → take n (drop at (mem_of c)) ≡ bytes → n ≡ length bytes → message (mem_of c) (new_head c.next p k o (span at n)) ≡ fresh p k bytes (length bytes + 32) r Pending
new_message c d p k bytes o at n r a pay e = rw (pay, a.lsn, a.pointer, sym e) refl

over-told : (b c : Book) (at : ℕ) (bytes : List ℕ) → Overwritten b c at bytes → at ≤ length (mem_of b) → Apart at (length bytes) (heads_of b) → told c ≡ told b
over-told b c at bytes o l t =
    ap (λ v. messages (mem_of c) (vec_items v)) o.heads ∙ ap (λ (m : List ℕ). messages m (heads_of b)) o.mem ∙ messages_apart at (length bytes) (mem_of b) bytes (heads_of b) l refl t

-- the memory that a new payload takes lies within
pub inline_room : (s : Segmented) (n : ℕ) → Able s (32 + n) → s.active * 4096 + s.fill + 32 + n ≤ length (mem_of s.book)
inline_room s n h = omega (arith, s.kept.sized, s.kept.inside, h.there)

pub blob-room : (s : Segmented) (i n : ℕ) → i < s.slots → n ≤ 1152 → s.segs * 4096 + i * 1152 + n ≤ length (mem_of s.book)
blob-room s i n h m = omega (arith, s.kept.sized)

pub inline_apart : (s : Segmented) (n : ℕ) → Able s (32 + n) → Apart (s.active * 4096 + s.fill + 32) n (heads_of s.book)
inline_apart s n h = Apart_inlines s.segs s.slots s.active s.fill n (heads_of s.book) s.kept.inside h.there s.kept.lay

pub blob_apart : (s : Segmented) (i n : ℕ) → n ≤ 1152 → list_any (in_slot i) (heads_of s.book) ≡ false → Apart (s.segs * 4096 + i * 1152) n (heads_of s.book)
blob_apart s i n m v = Apart_blobs s.segs s.slots s.active s.fill n i (heads_of s.book) s.kept.filled m v s.kept.lay

-- a payload that lies apart changes no message, so that one more may be added
pub over-ready : (s : Segmented) (c : Book) (at : ℕ) (bytes : List ℕ) (need : ℕ) → Overwritten s.book c at bytes → at + length bytes ≤ length (mem_of s.book) → Apart at (length bytes) (heads_of s.book) → Able s need → length bytes ≤ 1152 → Ready c (span at (length bytes))
over-ready s c at bytes need w l t h m = record {
  quiet = ap any_pending (over-told s.book c at bytes w (omega arith) t) ∙ h.quiet;
  room = rw w.heads h.room;
  within = omega (arith, w.long);
  small = m;
  low = rw w.next h.low;
}

module _ (s : Segmented) (c d : Book) (p : ℕ) (k : Kind) (bytes : List ℕ) (o : DiskPtr) (at : ℕ) (r : Reservation)
    (w : Overwritten s.book c at bytes) (a : Appended c d p k o (span at (length bytes)) r) (l : at + length bytes ≤ length (mem_of s.book)) (t : Apart at (length bytes) (heads_of s.book)) where
  over-after : told d ≡ told s.book ++ (fresh p k bytes (length bytes + 32) r Pending ∷ [])
  over-after =
      let within : at ≤ length (mem_of s.book) = omega arith in
      let pay : take (length bytes) (drop at (mem_of c)) ≡ bytes = ap (λ (m : List ℕ). take (length bytes) (drop at m)) w.mem ∙ part_new at (length bytes) (mem_of s.book) bytes within refl in
      appended_told c d p k o at (length bytes) r a
      ∙ ap (λ (m : Message). told c ++ (m ∷ [])) (new_message c d p k bytes o at (length bytes) r a pay refl)
      ∙ ap (λ (ms : List Message). ms ++ (fresh p k bytes (length bytes + 32) r Pending ∷ [])) (over-told s.book c at bytes w within t)

  pub over-put : (u : Segmented) → u.book ≡ d → Put s u p k bytes r
  over-put u e = record {
    number = ap (λ (b : Book). b.number) e ∙ a.number ∙ w.number;
    stable = ap (λ (b : Book). b.stable) e ∙ a.stable ∙ w.stable;
    mine = a.mine ∙ w.number;
    lsn = a.lsn ∙ w.next;
    after = ap told e ∙ over-after;
  }

-- with the payload in its place there is room for the message as before, and its pointer gives the payload
pub over-able : (s t : Segmented) (at : ℕ) (bytes : List ℕ) (need : ℕ) → Overwritten s.book t.book at bytes → t.fill ≡ s.fill → at + length bytes ≤ length (mem_of s.book) → Apart at (length bytes) (heads_of s.book) → Able s need → Able t need
over-able s t at bytes need w f l p h = record {
  quiet = ap any_pending (over-told s.book t.book at bytes w (omega arith) p) ∙ h.quiet;
  room = rw w.heads h.room;
  low = rw w.next h.low;
  there = rw f h.there;
}

pub over-put_on : (s t u : Segmented) (p : ℕ) (k : Kind) (bytes : List ℕ) (at : ℕ) (r : Reservation) → Overwritten s.book t.book at bytes → at + length bytes ≤ length (mem_of s.book) → Apart at (length bytes) (heads_of s.book) → Put t u p k (take (length bytes) (drop at (mem_of t.book))) r → Put s u p k bytes r
over-put_on s t u p k bytes at r w l a h =
    let within : at ≤ length (mem_of s.book) = omega arith in
    let pay : take (length bytes) (drop at (mem_of t.book)) ≡ bytes = ap (λ (m : List ℕ). take (length bytes) (drop at m)) w.mem ∙ part_new at (length bytes) (mem_of s.book) bytes within refl in
    let P : List ℕ → Type 0 = λ y. Put t u p k y r in
    let z : Put t u p k bytes r = subst P pay h in
    record {
      number = z.number ∙ w.number;
      stable = z.stable ∙ w.stable;
      mine = z.mine ∙ w.number;
      lsn = z.lsn ∙ w.next;
      after = z.after ∙ ap (λ (ms : List Message). ms ++ (fresh p k bytes (length bytes + 32) r Pending ∷ [])) (over-told s.book t.book at bytes w within a);
    }

-- the new header lies where it should
pub new_inline : (segs slots a f l p : ℕ) (k : Kind) (n : ℕ) → a < segs → f + (32 + n) ≤ 4096 → placed segs slots a (f + (32 + n)) (new_head l p k (Inline (a * 4096 + f)) (span (a * 4096 + f + 32) n)) ≡ true
new_inline segs slots a f l p k n i h =
    let q : (a * 4096 + f) / 4096 ≡ a = omega arith in
    let x = new_head l p k (Inline (a * 4096 + f)) (span (a * 4096 + f + 32) n) in
    to_placed segs slots a (f + (32 + n)) x (rw q i) (omega (arith, limit-here a (f + (32 + n)) ((a * 4096 + f) / 4096) q)) (eq-eqb (a * 4096 + f + 32) (a * 4096 + f + 32) refl)

-- headers never run out
able-by : (t : Segmented) (need : ℕ) → any_pending (told t.book) ≡ false → t.book.next < 2 ^ 62 → 32 ≤ need → t.fill + need ≤ 4096 → Able t need
able-by t need quiet low n l =
    let h = header_left t.segs t.slots t.active t.fill (heads_of t.book) t.kept.lay t.kept.packed t.kept.inside (omega arith) in
    let e : vec_len t.book.heads ≡ length (heads_of t.book) = t.book.heads.ok.0 in
    record { quiet = quiet; room = omega (arith, t.kept.roomy); low = low; there = l }

-- what was kept of the messages
kept-sheds : (s t : Segmented) (need : ℕ) → any_pending (told s.book) ≡ false → Prepared s t need → Sheds (told s.book) (told t.book)
kept-sheds s t need quiet a = at a.heads
  where
    mem_is : told t.book ≡ messages (mem_of s.book) (heads_of t.book)
    mem_is = ap (λ v. messages (vec_items v) (heads_of t.book)) a.mem

    on : (ms : List Message) → told t.book ≡ ms → Sheds (told s.book) ms → Sheds (told s.book) (told t.book)
    on ms e h = let P : List Message → Type 0 = λ y. Sheds (told s.book) y in subst P (sym e) h

    at : (heads_of t.book ≡ heads_of s.book) ⊎ (heads_of t.book ≡ lives (heads_of s.book)) → Sheds (told s.book) (told t.book)
    at (inl e) = on (told s.book) (mem_is ∙ ap (messages (mem_of s.book)) e) (sheds-none (told s.book))
    at (inr e) = on (messages (mem_of s.book) (lives (heads_of s.book))) (mem_is ∙ ap (messages (mem_of s.book)) e) (sheds-lives (mem_of s.book) (heads_of s.book) quiet)

-- the reservation of a log
pub reserved : (s t u : Segmented) (p : ℕ) (k : Kind) (bytes : List ℕ) (need : ℕ) (fit : Bool) (r : Reservation) → any_pending (told s.book) ≡ false → fit ≡ true → length bytes ≤ 1152 → Prepared s t need → Put t u p k bytes r → Reserved (seg_means s) (seg_means u) p k bytes fit r
reserved s t u p k bytes need fit r quiet fits small a b =
    let l : r.lsn ≡ s.book.next = b.lsn ∙ a.next in
    record {
      quiet = quiet;
      fitted = fits;
      number = b.number ∙ a.number;
      stable = b.stable ∙ a.stable;
      mine = b.mine ∙ a.number;
      first = omega (arith, l, s.book.first);
      last = omega (arith, b.lsn, a.able.low);
      small = small;
      size = length bytes + 32;
      holds = omega arith;
      slim = omega arith;
      kept = told t.book;
      sheds = kept-sheds s t need quiet a;
      after = b.after;
      newer = rw l (messages_below 0 s.book.next (length (mem_of s.book)) (mem_of s.book) (heads_of s.book) (is-ranked 0 s.book.next (length (mem_of s.book)) (heads_of s.book) s.book.ranks));
    }

-- what fits
pub fits_inline : (segs slots a f : ℕ) (b : Book) (n : ℕ) (v : Bool) → n ≤ 512 → ready segs a f b (32 + n) ≡ v → seg_fits segs slots a f b n ≡ v
fits_inline segs slots a f b n v h e = rw (le-leb n 512 h) e

pub fits-blob : (segs slots a f : ℕ) (b : Book) (n : ℕ) (v : Bool) → 512 < n → n ≤ 1152 → some_below (free_slot (heads_of b)) slots ≡ true → ready segs a f b 32 ≡ v → seg_fits segs slots a f b n ≡ v
fits-blob segs slots a f b n v g h e k = rw (lt-leb n 512 g, le-leb n 1152 h, e) k

-- swept, it is still prepared, and none points to a free slot
lives_twice : (hs : List Head) → lives (lives hs) ≡ lives hs
lives_twice [] = refl
lives_twice (h ∷ hs) = at (lives_twice hs) (live_head h) refl
  where
    at : lives (lives hs) ≡ lives hs → (b : Bool) → live_head h ≡ b → lives (cond b (h ∷ lives hs) (lives hs)) ≡ cond b (h ∷ lives hs) (lives hs)
    at k true e = rw (e, k) refl
    at k false e = k

swept-heads : (s t u : Segmented) (need : ℕ) → Prepared s t need → Swept t u → heads_of u.book ≡ lives (heads_of s.book)
swept-heads s t u need a b = b.book.heads ∙ at a.heads
  where
    at : (heads_of t.book ≡ heads_of s.book) ⊎ (heads_of t.book ≡ lives (heads_of s.book)) → lives (heads_of t.book) ≡ lives (heads_of s.book)
    at (inl e) = ap lives e
    at (inr e) = ap lives e ∙ lives_twice (heads_of s.book)

pub swept : (s t u : Segmented) (need : ℕ) → 32 ≤ need → Prepared s t need → Swept t u → Prepared s u need
swept s t u need n a b =
    let e = swept-heads s t u need a b in
    let mem_is : u.book.mem ≡ s.book.mem = b.book.mem ∙ a.mem in
    let low : u.book.next < 2 ^ 62 = rw b.book.next a.able.low in
    let there : u.fill + need ≤ 4096 = rw b.fill a.able.there in
    let calm : any_pending (told u.book) ≡ false = ap (λ v. any_pending (messages (vec_items v) (heads_of u.book))) mem_is ∙ ap (λ (hs : List Head). any_pending (messages (mem_of s.book) hs)) e ∙ quiet-lives (mem_of s.book) (heads_of s.book) in
    record {
      number = b.book.number ∙ a.number;
      stable = b.book.stable ∙ a.stable;
      next = b.book.next ∙ a.next;
      mem = mem_is;
      heads = inr e;
      segs = b.segs ∙ a.segs;
      slots = b.slots ∙ a.slots;
      able = able-by u need calm low n there;
    }

pub slot_vacant : (s t u : Segmented) (need i : ℕ) → Prepared s t need → Swept t u → free_slot (heads_of s.book) i ≡ true → list_any (in_slot i) (heads_of u.book) ≡ false
slot_vacant s t u need i a b f = rw (swept-heads s t u need a b) (vacant_lives (in_slot i) (heads_of s.book) (not-true (slot_busy i (heads_of s.book)) f))

-- a live blob
pub laid-at : (segs slots a f : ℕ) (hs : List Head) → laid segs slots a f hs ≡ true → (i : ℕ) (d : Head) → i < length hs → placed segs slots a f (get_or hs i d) ≡ true
laid-at segs slots a f [] t i d h = absurd (omega arith)
laid-at segs slots a f (x ∷ hs) t zero d h = (and_parts (placed segs slots a f x) _ t).0
laid-at segs slots a f (x ∷ hs) t (suc i) d h = laid-at segs slots a f hs (and_parts (placed segs slots a f x) _ t).1 i d (omega arith)

pub same_slot : (i : ℕ) (o u : DiskPtr) → same_ptr o u ≡ true → slot_is i u ≡ true → slot_is i o ≡ true
same_slot i (Inline x) (Inline y) h k = k
same_slot i (Inline x) (Blob y j) h k = h
same_slot i (Blob x l) (Inline y) h k = absurd (false≢true h)
same_slot i (Blob x l) (Blob y j) h k =
    let a : l ≡ j = (Decides-int_eq l j).0 (and_parts (eqb x y) _ h).1 in
    rw a k

pub home_slot : (segs slots i : ℕ) (o : DiskPtr) (at n : ℕ) → slot_is i o ≡ true → homed segs slots o at n ≡ true → (i < slots) × (at ≡ segs * 4096 + i * 1152) × (n ≤ 1152)
home_slot segs slots i (Inline x) at n k t = absurd (false≢true k)
home_slot segs slots i (Blob x (negsuc j)) at n k t = absurd (false≢true k)
home_slot segs slots i (Blob x (pos j)) at n k t =
    let e : j ≡ i = eqb-true j i k in
    let b = (and_parts (ltb j slots) _ t).1 in
    let l = ltb-true j slots (and_parts (ltb j slots) _ t).0 in
    let w = eqb-true at (segs * 4096 + j * 1152) (and_parts (eqb at (segs * 4096 + j * 1152)) _ b).0 in
    (omega arith, omega arith, leb-true n 1152 (and_parts (eqb at (segs * 4096 + j * 1152)) _ b).1)

pub same-blob-at : (i : ℕ) (r o : DiskPtr) → slot_is i o ≡ true → ((x : ℕ) → same_blob r (Blob x (pos i)) ≡ true) → same_blob r o ≡ true
same-blob-at i r (Inline x) k f = absurd (false≢true k)
same-blob-at i r (Blob x (negsuc j)) k f = absurd (false≢true k)
same-blob-at i r (Blob x (pos j)) k f = let e : j ≡ i = eqb-true j i k in rw e (f x)

pub blob-home : (s : Segmented) (l : ℕ) (o : DiskPtr) (i j : ℕ) (x : Head) → LiveIndex (mem_of s.book) (heads_of s.book) l o (Some j) → x ≡ get_or (heads_of s.book) j x → slot_is i o ≡ true → (i < s.slots) × (x.place.at ≡ s.segs * 4096 + i * 1152) × (x.place.len ≤ 1152)
blob-home s l o i j x h at k =
    let p : placed s.segs s.slots s.active s.fill x ≡ true = ap (placed s.segs s.slots s.active s.fill) at ∙ laid-at s.segs s.slots s.active s.fill (heads_of s.book) s.kept.lay j x h.0 in
    let q : same_ptr x.pointer o ≡ true = ap (λ (y : Head). same_ptr y.pointer o) at ∙ (h.1 x).2 in
    home_slot s.segs s.slots i x.pointer x.place.at x.place.len (same_slot i x.pointer o q k) (home s.segs s.slots s.active s.fill x p)

pub moved : (s t u : Segmented) (p l : ℕ) (o : DiskPtr) (i j : ℕ) (x : Head) (r : Reservation) → LiveIndex (mem_of s.book) (heads_of s.book) l o (Some j) → x ≡ get_or (heads_of s.book) j x → is_blob o ≡ true → slot_is i o ≡ true
    → any_pending (told s.book) ≡ false → Prepared s t 32 → ready s.segs s.active s.fill s.book 32 ≡ true
    → Put t u p x.kind (take x.place.len (drop (t.segs * 4096 + i * 1152) (mem_of t.book))) r → ((y : ℕ) → same_blob r.pointer (Blob y (pos i)) ≡ true) → Moved (seg_means s) (seg_means u) p l o r
moved s t u p l o i j x r h at bl sl quiet a fits put same =
    let w = blob-home s l o i j x h at sl in
    let e : take x.place.len (drop (t.segs * 4096 + i * 1152) (mem_of t.book)) ≡ payload_of (mem_of s.book) x =
    ap (λ (n : ℕ). take x.place.len (drop (n * 4096 + i * 1152) (mem_of t.book))) a.segs ∙ ap (λ v. take x.place.len (drop (s.segs * 4096 + i * 1152) (vec_items v))) a.mem ∙ ap (λ (n : ℕ). take x.place.len (drop n (mem_of s.book))) (sym w.1) in
    let P : List ℕ → Type 0 = λ y. Put t u p x.kind y r in
    let small : length (payload_of (mem_of s.book) x) ≤ 1152 = simp length-take (omega (arith, w.2)) in
    record {
      source = message (mem_of s.book) x;
      there = found-there s.book l o j x h at;
      blob = bl;
      same = same-blob-at i r.pointer o sl same;
      reserved = reserved s t u p x.kind (payload_of (mem_of s.book) x) 32 (ready s.segs s.active s.fill s.book 32) r quiet fits small a (subst P e put);
    }

-- no message has a slot below 0
live-below : (segs slots a f : ℕ) (mem : List ℕ) (hs : List Head) (l x i : ℕ) → laid segs slots a f hs ≡ true → live_at (messages mem hs) l (Blob x (negsuc i)) ≡ None
live-below segs slots a f mem [] l x i t = refl
live-below segs slots a f mem (h ∷ hs) l x i t = at (live-below segs slots a f mem hs l x i (and_parts (placed segs slots a f h) _ t).1) h.pointer refl
  where
    here : homed segs slots h.pointer h.place.at h.place.len ≡ true
    here = home segs slots a f h (and_parts (placed segs slots a f h) _ t).0

    at : live_at (messages mem hs) l (Blob x (negsuc i)) ≡ None → (o : DiskPtr) → h.pointer ≡ o → live_at (messages mem (h ∷ hs)) l (Blob x (negsuc i)) ≡ None
    at rest (Inline y) e = rw (e, and-false (eqb h.lsn l), and-false (is_live h.status)) rest
    at rest (Blob y (pos j)) e = rw (e, and-false (eqb y x), and-false (eqb h.lsn l), and-false (is_live h.status)) rest
    at rest (Blob y (negsuc j)) e =
        let q : homed segs slots (Blob y (negsuc j)) h.place.at h.place.len ≡ true = rw e at here in
        absurd (false≢true q)

-- a pointer without a slot is no live blob's
pub no_slot : (s : Segmented) (l : ℕ) (o : DiskPtr) → ((i : ℕ) → slot_is i o ≡ false) → blob_there (told s.book) l o ≡ false
no_slot s l (Inline x) n = refl
no_slot s l (Blob x (pos i)) n = absurd (true≢false (sym (eq-eqb i i refl) ∙ n i))
no_slot s l (Blob x (negsuc i)) n = ap is_some (live-below s.segs s.slots s.active s.fill (mem_of s.book) (heads_of s.book) l x i s.kept.lay)

pub there-blob : (b : Book) (l : ℕ) (o : DiskPtr) (j : ℕ) → LiveIndex (mem_of b) (heads_of b) l o (Some j) → is_blob o ≡ true → blob_there (told b) l o ≡ true
there-blob b l o j h k = and_from (is_blob o) _ k (ap is_some (h.1 no_head).3)

pub seg_of : (a f : ℕ) → f + 32 ≤ 4096 → (a * 4096 + f) / 4096 ≡ a
seg_of a f h = omega arith

-- ready with nothing done, and with a free segment opened
pub prepared_here : (s : Segmented) (need : ℕ) → any_pending (told s.book) ≡ false → s.book.next < 2 ^ 62 → 32 ≤ need → s.fill + need ≤ 4096 → Prepared s s need
prepared_here s need quiet low n l = record { number = refl; stable = refl; next = refl; mem = refl; heads = inl refl; segs = refl; slots = refl; able = able-by s need quiet low n l }

pub prepared_open : (s t : Segmented) (need : ℕ) → Compacted s.book t.book → t.segs ≡ s.segs → t.slots ≡ s.slots → s.book.next < 2 ^ 62 → 32 ≤ need → t.fill + need ≤ 4096 → Prepared s t need
prepared_open s t need c es eo low n l =
    let calm : any_pending (told t.book) ≡ false = ap (λ v. any_pending (messages (vec_items v) (heads_of t.book))) c.mem ∙ ap (λ (hs : List Head). any_pending (messages (mem_of s.book) hs)) c.heads ∙ quiet-lives (mem_of s.book) (heads_of s.book) in
    let near : t.book.next < 2 ^ 62 = rw c.next low in
    record {
      number = c.number;
      stable = c.stable;
      next = c.next;
      mem = c.mem;
      heads = inr c.heads;
      segs = es;
      slots = eo;
      able = able-by t need calm near n l;
    }

pub ready-here : (segs a f : ℕ) (b : Book) (need : ℕ) → b.next < 2 ^ 62 → f + need ≤ 4096 → ready segs a f b need ≡ true
ready-here segs a f b need l h = rw (lt-ltb b.next (2 ^ 62) l, le-leb (f + need) 4096 h) refl

pub ready_open : (segs a f : ℕ) (b : Book) (need : ℕ) → b.next < 2 ^ 62 → some_below (free_seg a (heads_of b)) segs ≡ true → ready segs a f b need ≡ true
ready_open segs a f b need l h = rw (lt-ltb b.next (2 ^ 62) l, h) (or-true (leb (f + need) 4096))
