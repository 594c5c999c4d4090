-- What a segmented log keeps of its book, and that each call keeps it. Assumes nothing.
use Rattle.std.proofs.Common.{◌≡◌, ℕ, ◌+◌, ◌*◌, ◌/◌, ◌<◌, ◌≤◌, true, not, eqb, [], ◌∷◌, ◌++◌, length, vec_items, vec_capacity, sym, refl, ap, ◌∙◌, arith}
use Rattle.book.specs.declared.head.Head.{Head}
use Rattle.book.specs.declared.book.Book.{Book}
use Rattle.book.specs.Heads.{lives}
use Rattle.book.specs.Books.{heads_of, mem_of, Kin, Compacted}
use Rattle.segmented.specs.declared.segmented.Segmented.{Segmented}
use Rattle.fault.specs.Pointers.{lid_of}
use Rattle.segmented.specs.Keeping.{Keeps}
use Rattle.segmented.specs.Layout.{placed, laid, in_seg, free_seg, seg_busy, count_seg, share}
use Rattle.segmented.proofs.Counting.{packed-lives, packed_open, packed_push, packed-kin}
use Rattle.segmented.proofs.Laying.{laid_push, laid-bare, laid-lives, laid_open, vacant_lives}
use Rattle.std.proofs.lemmas.Bool.{and_parts, not-true}

module _ (s : Segmented) (c : Book) where
  -- only states have changed
  pub kin_keeps : Kin s.book c → Keeps s.segs s.slots s.active s.fill c
  kin_keeps k =
      let sized = ap (λ v. length (vec_items v)) k.mem ∙ s.kept.sized in
      let lay = sym (laid-bare s.segs s.slots s.active s.fill (heads_of c)) ∙ ap (laid s.segs s.slots s.active s.fill) k.heads ∙ laid-bare s.segs s.slots s.active s.fill (heads_of s.book) ∙ s.kept.lay in
      record {
        few = s.kept.few;
        slim = s.kept.slim;
        sized = sized;
        inside = s.kept.inside;
        filled = s.kept.filled;
        roomy = rw k.cap s.kept.roomy;
        packed = packed-kin s.active s.fill (heads_of s.book) (heads_of c) k.heads s.kept.packed;
        lay = lay;
      }

  -- dead and cancelled messages have left
  pub lives_keeps : Compacted s.book c → Keeps s.segs s.slots s.active s.fill c
  lives_keeps e =
      let sized = ap (λ v. length (vec_items v)) e.mem ∙ s.kept.sized in
      let lay : laid s.segs s.slots s.active s.fill (heads_of c) ≡ true = rw e.heads (laid-lives s.segs s.slots s.active s.fill (heads_of s.book) s.kept.lay) in
      record {
        few = s.kept.few;
        slim = s.kept.slim;
        sized = sized;
        inside = s.kept.inside;
        filled = s.kept.filled;
        roomy = rw e.cap s.kept.roomy;
        packed = packed-lives s.active s.fill _ _ e.heads s.kept.packed;
        lay = lay;
      }

  -- they have left, and a free segment is active
  pub open_keeps : Compacted s.book c → (b : ℕ) → b < s.segs → free_seg s.active (heads_of s.book) b ≡ true → Keeps s.segs s.slots b 0 c
  open_keeps e b i f =
      let hs = heads_of s.book in
      let v = vacant_lives (in_seg b) hs (not-true (seg_busy b hs) (and_parts (not (eqb b s.active)) _ f).1) in
      let sized = ap (λ v. length (vec_items v)) e.mem ∙ s.kept.sized in
      let lay : laid s.segs s.slots b 0 (heads_of c) ≡ true = rw e.heads (laid_open s.segs s.slots s.active s.fill b (lives hs) s.kept.filled v (laid-lives s.segs s.slots s.active s.fill hs s.kept.lay)) in
      let packed : (q : ℕ) → count_seg q (heads_of c) * 32 ≤ share b 0 q =
      λ q. rw e.heads (packed_open s.active s.fill b (lives hs) s.kept.filled v (packed-lives s.active s.fill hs (lives hs) refl s.kept.packed) q) in
      record {
        few = s.kept.few;
        slim = s.kept.slim;
        sized = sized;
        inside = i;
        filled = omega arith;
        roomy = rw e.cap s.kept.roomy;
        packed = packed;
        lay = lay;
      }

  -- one more message lies in the active segment
  pub push_keeps : (x : Head) (g : ℕ) → heads_of c ≡ heads_of s.book ++ (x ∷ []) → length (mem_of c) ≡ length (mem_of s.book) → vec_capacity c.heads ≡ vec_capacity s.book.heads
      → lid_of x.pointer / 4096 ≡ s.active → s.fill + 32 ≤ g → g ≤ 4096 → placed s.segs s.slots s.active g x ≡ true → Keeps s.segs s.slots s.active g c
  push_keeps x g e m k at l n p =
      let lay : laid s.segs s.slots s.active g (heads_of c) ≡ true = rw e (laid_push s.segs s.slots s.active s.fill g (heads_of s.book) x (omega arith) p s.kept.lay) in
      record {
        few = s.kept.few;
        slim = s.kept.slim;
        sized = m ∙ s.kept.sized;
        inside = s.kept.inside;
        filled = n;
        roomy = rw k s.kept.roomy;
        packed = packed_push s.active s.fill g (heads_of s.book) (heads_of c) x e at l s.kept.packed;
        lay = lay;
      }
