-- What is written behind what stands in a scratch. Assumes nothing.
use Rattle.std.specs.Prelude.{◌≡◌, ℕ, ◌+◌, ◌≤◌, List, ◌++◌, length, take, drop}
use Rattle.serialization.specs.declared.writer.Writer.{Writer}

-- out with the bytes written over it from the place `at` on
abbrev pub written : ℕ → List ℕ → List ℕ → List ℕ
written at bs out = take at out ++ (bs ++ drop (at + length bs) out)

-- so many bytes more find room
abbrev pub Room : ℕ → Writer → Type 0
Room n w = w.at + n ≤ length w.out.now

-- the bytes stand behind those that stood there before, in the same scratch
pub record Puts (bs : List ℕ) (before after : Writer) : Type 0 where
  pub lent : after.out.ghost_name ≡ before.out.ghost_name
  pub ends : after.at ≡ before.at + length bs
  pub room : length after.out.now ≡ length before.out.now
  pub bytes : after.out.now ≡ written before.at bs before.out.now
