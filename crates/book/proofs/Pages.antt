-- What the calls of a book do to its messages. Assumes nothing.
use Rattle.std.proofs.Common.{Option, ◌≡◌, ℕ, ◌+◌, ◌<◌, ◌≤◌, true, false, eqb, List, [], ◌∷◌, ◌++◌, length, get_or, set, Some, None, sym, refl, ap, ◌∙◌, subst, arith, eq-eqb, ne_eqb}
use Rattle.std.proofs.lemmas.List.{length-take, length-drop}
use Rattle.fault.specs.declared.disk_pointer.DiskPtr.{DiskPtr}
use Rattle.fault.specs.declared.disk_pointer.DiskPtr.TheVariants.{Inline}
use Rattle.logs.specs.declared.messages.Kind.TheVariants.{Free}
use Rattle.logs.specs.declared.messages.CacheInfo.{CacheInfo}
use Rattle.logs.specs.declared.reservation.Reservation.{Reservation}
use Rattle.logs.specs.Meaning.{met, Message, is_pending, is_live, is_at, settle, mark, named, live_at}
use Rattle.logs.proofs.Laws.{mark-none, mark_push, mark_empty}
use Rattle.logs.specs.declared.messages.Status.{Status}
use Rattle.logs.specs.declared.messages.Status.TheVariants.{Pending, Dead}
use Rattle.logs.specs.declared.messages.Event.{Event}
use Rattle.logs.specs.declared.messages.Event.TheVariants.{Mark}
use Rattle.book.specs.declared.head.Head.{Head}
use Rattle.book.specs.declared.book.Book.{Book}
use Rattle.book.specs.Heads.{message, messages, with_status, bare, payload_of}
use Rattle.book.specs.Books.{heads_of, mem_of, told, LiveIndex, PendingIndex, Kin, Restated, Met, Settles, Marks}
use Rattle.book.proofs.Headers.{only-live, only-pending, not_here, is-ranked, sweep-one, sweep_not, bare_set, ranked-within, ranked-small}
use Rattle.std.proofs.Math.Bool.{and-false}
use Rattle.std.specs.Prelude.{◌&&◌}

pub no_head : Head
no_head = record { lsn = 0; pointer = Inline 0; page = 0; kind = Free; place = record { at = 0; len = 0 }; status = Dead }

pub kin_self : (b : Book) → Kin b b
kin_self b = record { number = refl; stable = refl; next = refl; mem = refl; heads = refl; cap = refl }

pub kin-on : {b c d : Book} → Kin b c → Kin c d → Kin b d
kin-on p q = record { number = q.number ∙ p.number; stable = q.stable ∙ p.stable; next = q.next ∙ p.next; mem = q.mem ∙ p.mem; heads = q.heads ∙ p.heads; cap = q.cap ∙ p.cap }

pub restated_kin : {b c : Book} {i : ℕ} {s : Status} → Restated b c i s → Kin b c
restated_kin {b = b} {i = i} {s = s} h = record { number = h.number; stable = h.stable; next = h.next; mem = h.mem; heads = ap bare (h.items no_head) ∙ bare_set (heads_of b) i no_head s; cap = h.cap }

restated_told : {b c : Book} {i : ℕ} {s : Status} → Restated b c i s → (d : Head) → told c ≡ messages (mem_of b) (set (heads_of b) i (with_status s (get_or (heads_of b) i d)))
restated_told {b = b} {c = c} {i = i} {s = s} h d = rw (h.mem, h.items d) refl

-- a pending message meets complete or abort as the meaning says
met-pending : (s : Status) (e : Event) → is_pending s ≡ true → (met s e) ≡ met Pending e
met-pending s e h = ap (λ (t : Status). met t e) (only-pending s h)

-- and a live one is dead where it is marked
met-live : (s : Status) → is_live s ≡ true → met s Mark ≡ Dead
met-live s h = ap (λ (t : Status). met t Mark) (only-live s h)

pub settles : (b c : Book) (r : Reservation) (i : ℕ) (e : Event) → r.log ≡ b.number → PendingIndex (mem_of b) (heads_of b) r.lsn r.pointer (Some i) → Met b c i e → Settles b c r e
settles b c r i e mine p m =
    let q = p.2 no_head in
    let s = met (get_or (heads_of b) i no_head).status e in
    let h = m no_head in
    let is : s ≡ met Pending e = met-pending (get_or (heads_of b) i no_head).status e q.0 in
    record {
      kin = restated_kin h;
      mine = mine;
      there = p.1;
      after = restated_told h no_head ∙ sym (sweep-one (mem_of b) (λ m. is_pending m.state && is_at r.lsn r.pointer m) r.lsn (λ m n. rw (not_here r.lsn r.pointer m n, and-false (is_pending m.state))) s 0 b.next (length (mem_of b)) (heads_of b) (is-ranked 0 b.next (length (mem_of b)) (heads_of b) b.ranks) i no_head p.0 q.1 (rw (q.0, eq-eqb (get_or (heads_of b) i no_head).lsn r.lsn q.1, q.2) refl)) ∙ ap (λ (t : Status). settle t r.lsn r.pointer (told b)) is;
    }

only_at : (p : ℕ) (e : CacheInfo) (m : Message) → (m.lsn ≡ e.lsn → ⊥) → (is_live m.state && (eqb m.page p && (named (e ∷ []) m))) ≡ false
only_at p e m n = rw (not_here e.lsn e.pointer m n, and-false (eqb m.page p), and-false (is_live m.state))

module _ (b : Book) (p : ℕ) (e : CacheInfo) (i : ℕ) (x : Head) (h : LiveIndex (mem_of b) (heads_of b) e.lsn e.pointer (Some i)) (at : x ≡ get_or (heads_of b) i x) where
  pub killed : (c : Book) → x.page ≡ p → Met b c i Mark → Marks b c p (e ∷ [])
  killed c g m =
      let r : Restated b c i Dead = subst (λ (s : Status). Restated b c i s) (met-live (get_or (heads_of b) i x).status (h.1 x).0) (m x) in
      let q = h.1 x in
      let g' : (get_or (heads_of b) i x).page ≡ p = ap (λ (y : Head). y.page) (sym at) ∙ g in
      record {
        kin = restated_kin r;
        after = restated_told r x ∙ sym (sweep-one (mem_of b) (λ m. is_live m.state && (eqb m.page p && (named (e ∷ []) m))) e.lsn (only_at p e) Dead 0 b.next (length (mem_of b)) (heads_of b) (is-ranked 0 b.next (length (mem_of b)) (heads_of b) b.ranks) i x h.0 q.1
            (rw (q.0, eq-eqb (get_or (heads_of b) i x).page p g', eq-eqb (get_or (heads_of b) i x).lsn e.lsn q.1, q.2) refl));
      }

  pub spared : (x.page ≡ p → ⊥) → Marks b b p (e ∷ [])
  spared n =
      let q = h.1 x in
      let n' : (get_or (heads_of b) i x).page ≡ p → ⊥ = λ z. n (ap (λ (y : Head). y.page) at ∙ z) in
      record {
        kin = kin_self b;
        after = sym (sweep_not (mem_of b) (λ m. is_live m.state && (eqb m.page p && (named (e ∷ []) m))) e.lsn (only_at p e) Dead 0 b.next (length (mem_of b)) (heads_of b) (is-ranked 0 b.next (length (mem_of b)) (heads_of b) b.ranks) i x h.0 q.1
            (rw (ne_eqb (get_or (heads_of b) i x).page p n', and-false (is_live (get_or (heads_of b) i x).status)) refl));
      }

pub missed : (b : Book) (p : ℕ) (e : CacheInfo) → LiveIndex (mem_of b) (heads_of b) e.lsn e.pointer None → Marks b b p (e ∷ [])
missed b p e h = record { kin = kin_self b; after = sym (mark-none p e (told b) h) }

pub marks_none : (b : Book) (p : ℕ) → Marks b b p []
marks_none b p = record { kin = kin_self b; after = sym (mark_empty p (told b)) }

pub marks_more : (b c d : Book) (p : ℕ) (es fs : List CacheInfo) (e : CacheInfo) → fs ≡ es ++ (e ∷ []) → Marks b c p es → Marks c d p (e ∷ []) → Marks b d p fs
marks_more b c d p es fs e w h k = rw w (record { kin = kin-on h.kin k.kin; after = k.after ∙ ap (mark p (e ∷ [])) h.after ∙ sym (mark_push p es e (told b)) })

pub marks_all : (b c : Book) (p : ℕ) (es fs : List CacheInfo) → fs ≡ es → Marks b c p fs → Marks b c p es
marks_all b c p es fs w h = record { kin = h.kin; after = h.after ∙ ap (λ (x : List CacheInfo). mark p x (told b)) w }

-- the payload of the message at an index
pub payload-long : (b : Book) (i : ℕ) (x : Head) → i < length (heads_of b) → x ≡ get_or (heads_of b) i x → (x.place.at + x.place.len ≤ length (mem_of b)) × (length (payload_of (mem_of b) x) ≡ x.place.len)
payload-long b i x h at =
    let w = ranked-within 0 b.next (length (mem_of b)) (heads_of b) (is-ranked 0 b.next (length (mem_of b)) (heads_of b) b.ranks) i x h in
    let e : x.place.at ≡ (get_or (heads_of b) i x).place.at = ap (λ (y : Head). y.place.at) at in
    let f : x.place.len ≡ (get_or (heads_of b) i x).place.len = ap (λ (y : Head). y.place.len) at in
    let v : x.place.at + x.place.len ≤ length (mem_of b) = omega arith in
    (v, simp (length-take, length-drop) (omega arith))

pub payload-small : (b : Book) (i : ℕ) (x : Head) → i < length (heads_of b) → x ≡ get_or (heads_of b) i x → x.place.len ≤ 1152
payload-small b i x h at =
    let w = ranked-small 0 b.next (length (mem_of b)) (heads_of b) (is-ranked 0 b.next (length (mem_of b)) (heads_of b) b.ranks) i x h in
    let f : x.place.len ≡ (get_or (heads_of b) i x).place.len = ap (λ (y : Head). y.place.len) at in
    omega arith

pub found-there : (b : Book) (l : ℕ) (o : DiskPtr) (i : ℕ) (x : Head) → LiveIndex (mem_of b) (heads_of b) l o (Some i) → x ≡ get_or (heads_of b) i x → live_at (told b) l o ≡ Some (message (mem_of b) x)
found-there b l o i x h at = (h.1 x).3 ∙ ap (λ (y : Head). Some (message (mem_of b) y)) (sym at)

-- what was found is at its index
pub found-index : (b : Book) (l : ℕ) (o : DiskPtr) (r : Option ℕ) (i : ℕ) → r ≡ Some i → LiveIndex (mem_of b) (heads_of b) l o r → LiveIndex (mem_of b) (heads_of b) l o (Some i)
found-index b l o r i e h = let P : Option ℕ → Type 0 = λ x. LiveIndex (mem_of b) (heads_of b) l o x in subst P e h
