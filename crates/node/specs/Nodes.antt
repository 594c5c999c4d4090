-- What a node is: its bounds and neighbours, and rows of keys with values or pages. Assumes nothing.
use Rattle.std.specs.Prelude.{ℕ, Bool, true, false, cond, List, [], length, drop, None, Option, ◌==◌, nat_le}
use Rattle.std.specs.declared.cmp.Ordering.{Ordering}
use Rattle.std.specs.Cmp.Lexicographic.{slice_cmp}
use Rattle.std.specs.Ordering.{is_lt, nat_cmp}
use Rattle.keyed.specs.Rows.{rising}

-- a string of bytes
abbrev pub Str : Type 0
Str = List ℕ

-- a key and what it leads to
abbrev pub Row : Type 0 → Type 0
Row V = Str × V

pub data Rows : Type 0 where
  index : List (Row ℕ) → Rows
  leaf : List (Row Str) → Rows

pub record Contents : Type 0 where
  pub prefix_len : ℕ
  pub next : Option ℕ
  pub child : Option ℕ
  pub merging : Bool
  pub lo : Str
  pub hi : Str
  pub rows : Rows

-- keys stand in the order of their bytes, a string before what it begins
abbrev pub by_key : {V : Type 0} → Row V → Row V → Ordering
by_key a b = slice_cmp nat_cmp a.0 b.0

-- how a key stands to a row
abbrev pub sought : {V : Type 0} → Str → Row V → Ordering
sought k b = slice_cmp nat_cmp k b.0

-- the keys strictly rise
abbrev pub ordered : {V : Type 0} → List (Row V) → Bool
ordered rows = rising by_key rows

abbrev pub ordered_rows : Rows → Bool
ordered_rows (index rows) = ordered rows
ordered_rows (leaf rows) = ordered rows

abbrev pub row_count : Rows → ℕ
row_count (index rows) = length rows
row_count (leaf rows) = length rows

-- the prefix is within the upper bound, if there is one
abbrev pub prefixed : ℕ → Str → Bool
prefixed n hi = cond (length hi == 0) true (nat_le n (length hi))

-- a node that keeps the rules
abbrev pub lawful : Contents → Bool
lawful c = cond (prefixed c.prefix_len c.hi) (ordered_rows c.rows) false

-- a key is below the upper bound, if there is one, both without the prefix
abbrev pub inside : Str → Contents → Bool
inside k c = cond (length c.hi == 0) true (is_lt (slice_cmp nat_cmp k (drop c.prefix_len c.hi)))

abbrev pub empty_leaf : Contents
empty_leaf = record { prefix_len = 0; next = None; child = None; merging = false; lo = []; hi = []; rows = leaf [] }

-- ---- a node with one part changed

abbrev pub with_rows : Contents → Rows → Contents
with_rows c rows = record { prefix_len = c.prefix_len; next = c.next; child = c.child; merging = c.merging; lo = c.lo; hi = c.hi; rows = rows }

abbrev pub with_child : Contents → Option ℕ → Contents
with_child c child = record { prefix_len = c.prefix_len; next = c.next; child = child; merging = c.merging; lo = c.lo; hi = c.hi; rows = c.rows }

abbrev pub with_merging : Contents → Bool → Contents
with_merging c merging = record { prefix_len = c.prefix_len; next = c.next; child = c.child; merging = merging; lo = c.lo; hi = c.hi; rows = c.rows }
