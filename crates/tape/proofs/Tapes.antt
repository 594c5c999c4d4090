-- What a tape keeps, and what fits it. Assumes nothing.
use Rattle.std.proofs.Common.{◌≡◌, ℕ, ◌+◌, ◌^◌, ◌<◌, ◌≤◌, true, false, leb, List, [], ◌∷◌, ◌++◌, length, vec_items, vec_capacity, ap, ◌∙◌, arith, ltb-true, leb-true}
use Rattle.std.proofs.lemmas.List.{length-append, length_push}
use Rattle.fault.specs.declared.disk_pointer.DiskPtr.{DiskPtr}
use Rattle.logs.specs.declared.messages.Kind.{Kind}
use Rattle.logs.specs.declared.reservation.Reservation.{Reservation}
use Rattle.logs.specs.Meaning.{any_pending}
use Rattle.book.specs.declared.book.Book.{Book}
use Rattle.book.specs.Heads.{messages}
use Rattle.book.specs.Books.{heads_of, mem_of, told, Kin, Ready, Extended, Appended, new_head}
use Rattle.book.proofs.Headers.{span, is-ranked}
use Rattle.book.proofs.Logs.{kin-length, kin-inlined, inlined_push, messages-grown}
use Rattle.tape.specs.Keeping.{Keeps}
use Rattle.tape.specs.Tapes.{used_by, tape_fits}
use Rattle.std.proofs.lemmas.Bool.{and_parts}
use Rattle.fault.specs.Pointers.{is_blob}

-- a change of states keeps it
pub kin_keeps : {b c : Book} (room : ℕ) → Kin b c → Keeps room b → Keeps room c
kin_keeps {b = b} {c = c} room k h =
    let l = kin-length k in
    let m = ap (λ v. length (vec_items v)) k.mem in
    let v = ap vec_capacity k.mem in
    let u = k.cap in
    let used = h.used in
    let wide = h.wide in
    let deep = h.deep in
    record { plain = kin-inlined k h.plain; short = h.short; used = omega arith; wide = omega arith; deep = omega arith }

-- what fits
pub record Room (room : ℕ) (b : Book) (n : ℕ) : Type 0 where
  pub small : n ≤ 1152
  pub behind : used_by (length (heads_of b)) (length (mem_of b)) + 32 + n ≤ room
  pub next : b.next < 2 ^ 62

pub fitting : (room : ℕ) (b : Book) (n : ℕ) → tape_fits room b n ≡ true → Room room b n
fitting room b n t =
    let used = used_by (length (heads_of b)) (length (mem_of b)) in
    let u = (and_parts (leb n 1152) _ t).1 in
    record {
      small = leb-true n 1152 (and_parts (leb n 1152) _ t).0;
      behind = leb-true (used + 32 + n) room (and_parts (leb (used + 32 + n) room) _ u).0;
      next = ltb-true b.next (2 ^ 62) (and_parts (leb (used + 32 + n) room) _ u).1;
    }

module _ (room : ℕ) (b c : Book) (bytes : List ℕ) (f : Room room b (length bytes)) (h : Keeps room b) where
  module _ (e : Extended b c bytes) (quiet : any_pending (told b) ≡ false) (at : ℕ) (w : at ≡ length (mem_of b)) where
    -- more memory changes no message
    still : told c ≡ told b
    still =
        (λ i. messages (e.mem i) (vec_items (e.heads i))) ∙ messages-grown 0 b.next (mem_of b) bytes (heads_of b) (is-ranked 0 b.next (length (mem_of b)) (heads_of b) b.ranks)

    pub ready : Ready c (span at (length bytes))
    ready =
        let l : length (mem_of c) ≡ length (mem_of b) + length bytes = ap length e.mem ∙ length-append (mem_of b) bytes in
        let n = b.heads.ok.0 in
        let wide = h.wide in
        record {
          quiet = ap any_pending still ∙ quiet;
          room = rw e.heads (omega (arith, f.behind));
          within = omega arith;
          small = f.small;
          low = rw e.next f.next;
        }

    pub keeps_on : (d : Book) (p : ℕ) (k : Kind) (o : DiskPtr) (r : Reservation) → is_blob o ≡ false → Appended c d p k o (span at (length bytes)) r → Keeps room d
    keeps_on d p k o r plain a =
        let x = new_head c.next p k o (span at (length bytes)) in
        let g : heads_of d ≡ heads_of b ++ (x ∷ []) = a.heads ∙ ap (λ v. vec_items v ++ (x ∷ [])) e.heads in
        let l : length (heads_of d) ≡ length (heads_of b) + 1 = ap length g ∙ length_push (heads_of b) x in
        let m : length (mem_of d) ≡ length (mem_of b) + length bytes = ap (λ v. length (vec_items v)) a.mem ∙ ap length e.mem ∙ length-append (mem_of b) bytes in
        let u : vec_capacity d.heads ≡ vec_capacity b.heads = a.cap ∙ ap vec_capacity e.heads in
        let v : vec_capacity d.mem ≡ vec_capacity c.mem = ap vec_capacity a.mem in
        let grown = e.cap in
        let wide = h.wide in
        let deep = h.deep in
        record {
          plain = rw g (inlined_push (heads_of b) x plain h.plain);
          short = h.short;
          used = let used = h.used in omega (arith, f.behind);
          wide = omega arith;
          deep = omega arith;
        }
