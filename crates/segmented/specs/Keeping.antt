-- What a segmented log keeps of its book. Assumes nothing.
use Rattle.std.specs.Prelude.{◌≡◌, ℕ, ◌+◌, ◌*◌, ◌<◌, ◌≤◌, true, length, vec_capacity}
use Rattle.book.specs.declared.book.Book.{Book}
use Rattle.book.specs.Books.{heads_of, mem_of}
use Rattle.segmented.specs.Layout.{laid, count_seg, share}

-- so many segments and slots lie in the memory, one segment is active and filled so far, headers never run out, and every message
-- lies where it should
pub record Keeps (segs slots active fill : ℕ) (b : Book) : Type 0 where
  pub few : segs ≤ 65536
  pub slim : slots ≤ 65536
  pub sized : length (mem_of b) ≡ segs * 4096 + slots * 1152
  pub inside : active < segs
  pub filled : fill ≤ 4096
  pub roomy : segs * 128 ≤ vec_capacity b.heads
  pub packed : (q : ℕ) → count_seg q (heads_of b) * 32 ≤ share active fill q
  pub lay : laid segs slots active fill (heads_of b) ≡ true
