-- From a book's calls to a log's. Assumes nothing.
use Rattle.std.proofs.Common.{◌≡◌, ℕ, ℤ, ◌+◌, ◌^◌, ◌<◌, ◌≤◌, Bool, true, false, not, eqb, List, [], ◌∷◌, ◌++◌, length, take, drop, is_some, None, Ok, Err, vec_items, Result, sym, refl, ap, ◌∙◌, subst, arith}
use Rattle.std.proofs.lemmas.List.{take-append-le, drop-append-le, drop_at, take_all, length-drop, length_push}
use Rattle.logs.specs.declared.messages.Kind.{Kind}
use Rattle.fault.specs.declared.disk_pointer.DiskPtr.{DiskPtr}
use Rattle.fault.specs.declared.disk_pointer.DiskPtr.TheVariants.{Inline, Blob}
use Rattle.logs.specs.declared.reservation.Reservation.{Reservation}
use Rattle.logs.specs.declared.reservation.Returned.{Returned}
use Rattle.logs.specs.Meaning.{Message, is_live, live_at, any_pending}
use Rattle.logs.specs.Clauses.{fresh, Reserved, blob_there}
use Rattle.logs.specs.declared.messages.Event.{Event}
use Rattle.book.specs.declared.head.Head.{Head}
use Rattle.book.specs.declared.book.Book.{Book}
use Rattle.book.specs.Heads.{message, messages, bare, Ranked, inlined}
use Rattle.book.specs.Books.{heads_of, mem_of, told, book_means, Kin, BookSettle, new_head, Appended, Extended}
use Rattle.book.proofs.Headers.{span, is-ranked, messages_push, messages_below, sheds-none}
use Rattle.book.proofs.Pages.{kin_self}
use Rattle.std.proofs.lemmas.Bool.{false≢true, and_from, and_parts}
use Rattle.std.proofs.Math.Bool.{and-false}
use Rattle.logs.specs.declared.messages.Status.TheVariants.{Pending}
use Rattle.fault.specs.Pointers.{is_blob}

-- what does not depend on states
pub length-bare : (hs : List Head) → length (bare hs) ≡ length hs
length-bare [] = refl
length-bare (h ∷ hs) = rw (length-bare hs)

pub inlined-bare : (hs : List Head) → inlined (bare hs) ≡ inlined hs
inlined-bare [] = refl
inlined-bare (h ∷ hs) = rw (inlined-bare hs)

pub kin-length : {b c : Book} → Kin b c → length (heads_of c) ≡ length (heads_of b)
kin-length {b = b} {c = c} k = sym (length-bare (heads_of c)) ∙ ap length k.heads ∙ length-bare (heads_of b)

pub kin-inlined : {b c : Book} → Kin b c → inlined (heads_of b) ≡ true → inlined (heads_of c) ≡ true
kin-inlined {b = b} {c = c} k t = sym (inlined-bare (heads_of c)) ∙ ap inlined k.heads ∙ inlined-bare (heads_of b) ∙ t

-- as many positions are given as there are messages, on a log that lets none leave
pub kin_counted : {b c : Book} → Kin b c → b.next ≡ length (heads_of b) + 1 → c.next ≡ length (heads_of c) + 1
kin_counted {b = b} {c = c} k e = let l = kin-length k in omega (arith, k.next, l)

pub settle-kin : (b c : Book) (r : Reservation) (s : Event) (x : Result Unit Returned) → BookSettle b c r s x → Kin b c
settle-kin b c r s (Ok u) h = h.kin
settle-kin b c r s (Err e) h = let P : Book → Type 0 = λ y. Kin b y in subst P (sym h.0) (kin_self b)

-- no message is a blob
live-inlined : (mem : List ℕ) (hs : List Head) (l x : ℕ) (i : ℤ) → inlined hs ≡ true → live_at (messages mem hs) l (Blob x i) ≡ None
live-inlined mem [] l x i t = refl
live-inlined mem (h ∷ hs) l x i t = at (live-inlined mem hs l x i (and_parts (not (is_blob h.pointer)) _ t).1) h.pointer refl
  where
    plain : not (is_blob h.pointer) ≡ true
    plain = (and_parts (not (is_blob h.pointer)) _ t).0

    at : live_at (messages mem hs) l (Blob x i) ≡ None → (o : DiskPtr) → h.pointer ≡ o → live_at (messages mem (h ∷ hs)) l (Blob x i) ≡ None
    at rest (Inline y) e = rw (e, and-false (eqb h.lsn l), and-false (is_live h.status)) rest
    at rest (Blob y j) e =
        let q : not (is_blob (Blob y j)) ≡ true = rw e at plain in
        absurd (false≢true q)

pub no_blob : (mem : List ℕ) (hs : List Head) (l : ℕ) (o : DiskPtr) → inlined hs ≡ true → blob_there (messages mem hs) l o ≡ false
no_blob mem hs l (Inline x) t = refl
no_blob mem hs l (Blob x i) t = ap is_some (live-inlined mem hs l x i t)

-- more memory leaves the payloads
take-drop-grown : (at len : ℕ) (xs ys : List ℕ) → at + len ≤ length xs → take len (drop at (xs ++ ys)) ≡ take len (drop at xs)
take-drop-grown at len xs ys h =
    let a : at ≤ length xs = omega arith in
    let b : len ≤ length (drop at xs) = simp length-drop (omega arith) in
    ap (take len) (drop-append-le at xs ys a) ∙ take-append-le len (drop at xs) ys b

pub messages-grown : (lo next : ℕ) (xs ys : List ℕ) (hs : List Head) → Ranked lo next (length xs) hs → messages (xs ++ ys) hs ≡ messages xs hs
messages-grown lo next xs ys [] t = refl
messages-grown lo next xs ys (h ∷ hs) t = rw (take-drop-grown h.place.at h.place.len xs ys t.2, messages-grown h.lsn next xs ys hs t.4)

pub inlined_push : (hs : List Head) (x : Head) → is_blob x.pointer ≡ false → inlined hs ≡ true → inlined (hs ++ (x ∷ [])) ≡ true
inlined_push [] x e t = rw e refl
inlined_push (h ∷ hs) x e t = and_from (not (is_blob h.pointer)) _ (and_parts (not (is_blob h.pointer)) _ t).0 (inlined_push hs x e (and_parts (not (is_blob h.pointer)) _ t).1)

module _ (F : Book → ℕ → Bool) (G : Book → Bool) (b c d : Book) (p : ℕ) (k : Kind) (bytes : List ℕ) (o : DiskPtr) (r : Reservation)
    (at : ℕ) (w : at ≡ length (mem_of b)) (e : Extended b c bytes) (a : Appended c d p k o (span at (length bytes)) r) where
  new_told : told d ≡ told b ++ (fresh p k bytes (length bytes + 32) r Pending ∷ [])
  new_told =
      let x = new_head c.next p k o (span at (length bytes)) in
      let q : mem_of d ≡ mem_of b ++ bytes = ap vec_items a.mem ∙ e.mem in
      let g : heads_of d ≡ heads_of b ++ (x ∷ []) = a.heads ∙ ap (λ v. vec_items v ++ (x ∷ [])) e.heads in
      let pay : take (length bytes) (drop at (mem_of b ++ bytes)) ≡ bytes = ap (take (length bytes)) (drop_at (mem_of b) bytes at (sym w)) ∙ take_all (length bytes) bytes (omega arith) in
      let same : message (mem_of b ++ bytes) x ≡ fresh p k bytes (length bytes + 32) r Pending = rw (pay, a.lsn, a.pointer) refl in
      ap (λ (m : List ℕ). messages m (heads_of d)) q ∙ ap (messages (mem_of b ++ bytes)) g ∙ messages_push (mem_of b ++ bytes) (heads_of b) x
      ∙ ap (λ (ms : List Message). ms ++ (message (mem_of b ++ bytes) x ∷ [])) (messages-grown 0 b.next (mem_of b) bytes (heads_of b) (is-ranked 0 b.next (length (mem_of b)) (heads_of b) b.ranks))
      ∙ ap (λ (m : Message). told b ++ (m ∷ [])) same

  pub tape_reserved : (fit : Bool) → any_pending (told b) ≡ false → fit ≡ true → b.next < 2 ^ 62 → length bytes ≤ 1152 → Reserved (book_means F G b) (book_means F G d) p k bytes fit r
  tape_reserved fit quiet fits low small =
      let l : r.lsn ≡ b.next = a.lsn ∙ e.next in
      record {
        quiet = quiet;
        fitted = fits;
        number = a.number ∙ e.number;
        stable = a.stable ∙ e.stable;
        mine = a.mine ∙ e.number;
        first = omega (arith, l, b.first);
        last = rw l low;
        small = small;
        size = length bytes + 32;
        holds = omega arith;
        slim = omega arith;
        kept = told b;
        sheds = sheds-none (told b);
        after = new_told;
        newer = rw l (messages_below 0 b.next (length (mem_of b)) (mem_of b) (heads_of b) (is-ranked 0 b.next (length (mem_of b)) (heads_of b) b.ranks));
      }

  pub tape_counted : b.next ≡ length (heads_of b) + 1 → d.next ≡ length (heads_of d) + 1
  tape_counted f =
      let x = new_head c.next p k o (span at (length bytes)) in
      let g : heads_of d ≡ heads_of b ++ (x ∷ []) = a.heads ∙ ap (λ v. vec_items v ++ (x ∷ [])) e.heads in
      let l : length (heads_of d) ≡ length (heads_of b) + 1 = ap length g ∙ length_push (heads_of b) x in
      omega (arith, a.next, e.next)
