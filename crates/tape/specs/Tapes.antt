-- What a tape means. Assumes nothing.
use Rattle.std.specs.Prelude.{ℕ, ◌+◌, ◌*◌, ◌^◌, Bool, false, [], length, nat_le, nat_lt, ◌&&◌}
use Rattle.logs.specs.Meaning.{Meaning}
use Rattle.book.specs.declared.book.Book.{Book}
use Rattle.book.specs.Books.{heads_of, mem_of, book_means}
use Rattle.tape.specs.declared.tape.Tape.{Tape}

-- so many messages and payload bytes, 32 bytes beside each payload
abbrev pub used_by : ℕ → ℕ → ℕ
used_by count bytes = 32 * count + bytes

-- a payload of n bytes fits a tape of so many bytes: it is short enough, there is room behind what is used, and a position is left
abbrev pub room_for : ℕ → ℕ → ℕ → ℕ → Bool
room_for room used next n = nat_le n 1152 && ((nat_le (used + 32 + n) room) && nat_lt next (2 ^ 62))

abbrev pub tape_fits : ℕ → Book → ℕ → Bool
tape_fits room b n = room_for room (used_by (length (heads_of b)) (length (mem_of b))) b.next n

abbrev pub tape_means : Tape → Meaning
tape_means t = book_means (tape_fits t.room) (λ _. false) t.book

-- a tape that was just made
abbrev pub empty_tape : ℕ → ℕ → Meaning
empty_tape number room = record { number = number; messages = []; fits = room_for room 0 1; fits_pointer = false; stable = 0 }
