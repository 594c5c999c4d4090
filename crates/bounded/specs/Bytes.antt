-- The bytes of a bounded string, as a list, and the order and equality of strings. Assumes nothing.
use Rattle.std.specs.Prelude.{ℕ, Bool, List, take, ◌==◌}
use Rattle.std.specs.declared.cmp.Ordering.{Ordering}
use Rattle.std.specs.Ordering.{nat_cmp}
use Rattle.std.specs.Cmp.Lexicographic.{pointwise, slice_cmp}
use Rattle.bounded.specs.declared.ivec.IVec.{IVec}

module _ {N : ℕ} where
  abbrev pub bytes_of : IVec N → List ℕ
  bytes_of v = take v.len v.bytes

  -- byte by byte, first to last: a string comes before what it begins
  abbrev pub by_bytes : IVec N → IVec N → Ordering
  by_bytes v w = slice_cmp nat_cmp (bytes_of v) (bytes_of w)

  abbrev pub same_bytes : IVec N → IVec N → Bool
  same_bytes v w = pointwise ◌==◌ (bytes_of v) (bytes_of w)
