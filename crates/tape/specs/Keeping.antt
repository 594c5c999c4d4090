-- What a tape keeps of its book. Assumes nothing.
use Rattle.std.specs.Prelude.{◌≡◌, ℕ, ◌+◌, ◌*◌, ◌^◌, ◌≤◌, true, length, vec_capacity}
use Rattle.book.specs.declared.book.Book.{Book}
use Rattle.book.specs.Heads.{inlined}
use Rattle.book.specs.Books.{heads_of, mem_of}

-- no message is a blob, what is used is within its room, and there is memory for all of the room
pub record Keeps (room : ℕ) (b : Book) : Type 0 where
  pub plain : inlined (heads_of b) ≡ true
  pub short : room ≤ 2 ^ 32
  pub used : 32 * length (heads_of b) + length (mem_of b) ≤ room
  pub wide : room ≤ 32 * vec_capacity b.heads
  pub deep : room ≤ vec_capacity b.mem
