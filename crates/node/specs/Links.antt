-- What a link does to a node, and what a page holds: a base with its links applied in order. Assumes nothing.
use Rattle.std.specs.Prelude.{ℕ, Bool, true, false, cond, List, [], ◌∷◌, length, drop, is_some, Some, None, Ok, Err, Option, Result, ◌==◌, nat_lt}
use Rattle.std.specs.declared.cmp.Ordering.TheVariants.{Equal, Greater}
use Rattle.std.specs.declared.cmp.Ordering.{Ordering}
use Rattle.fault.specs.declared.node_fault.NodeFault.{NodeFault}
use Rattle.fault.specs.declared.node_fault.NodeFault.TheVariants.{Unlawful, Merging, NotBelowHi, WrongKind, Full, BadChild, NoPointer, TooManyRoots}
use Rattle.keyed.specs.Rows.{lookup, put, without}
use Rattle.node.specs.Nodes.{Str, Row, Rows, index, leaf, Contents, sought, inside, with_rows, with_child, with_merging}

pub data Step : Type 0 where
  set : Str → Str → Step
  del : Str → Step
  intend : ℕ → Step
  confirm : Step
  cap : Step

-- a change that may be refused, and what is done with its result
abbrev pub Changed : Type 0 → Type 0
Changed A = Result A NodeFault

abbrev pub and_then : {A B : Type 0} → Changed A → (A → Changed B) → Changed B
and_then (Ok x) f = f x
and_then (Err e) f = Err e

-- ---- rows

-- there is room for the key: it is there, or there are fewer rows than n
abbrev pub room_for : {V : Type 0} → ℕ → Str → List (Row V) → Bool
room_for n k rows = cond (is_some (lookup (sought k) rows)) true (nat_lt (length rows) n)

abbrev pub set_rows : Str → Str → Rows → Changed Rows
set_rows k v (index rows) = Err WrongKind
set_rows k v (leaf rows) = cond (room_for 16 k rows) (Ok (leaf (put (sought k) (k, v) rows))) (Err Full)

abbrev pub del_rows : Str → Rows → Changed Rows
del_rows k (index rows) = Err WrongKind
del_rows k (leaf rows) = Ok (leaf (without (sought k) rows))

-- the first row that points to the page is the one sought, and those before it are passed
abbrev pub pointing : ℕ → Row ℕ → Ordering
pointing p r = cond (r.1 == p) Equal Greater

abbrev pub confirm_rows : ℕ → Rows → Changed Rows
confirm_rows p (leaf rows) = Err WrongKind
confirm_rows p (index rows) = cond (is_some (lookup (pointing p) rows)) (Ok (index (without (pointing p) rows))) (Err NoPointer)

-- a new row for the key, unless it is there; and whether it is new
abbrev pub split_rows : Str → ℕ → Rows → Changed (Bool × Rows)
split_rows k to (leaf rows) = Err WrongKind
split_rows k to (index rows) =
    cond (is_some (lookup (sought k) rows)) (Ok (false, index rows)) (cond (nat_lt (length rows) 16) (Ok (true, index (put (sought k) (k, to) rows))) (Err Full))

-- ---- nodes

abbrev pub set_leaf : Str → Str → Contents → Changed Contents
set_leaf k v c = cond (inside k c) (and_then (set_rows k v c.rows) (λ rows. Ok (with_rows c rows))) (Err NotBelowHi)

abbrev pub del_leaf : Str → Contents → Changed Contents
del_leaf k c = and_then (del_rows k c.rows) (λ rows. Ok (with_rows c rows))

abbrev pub intend_child : ℕ → Contents → Changed Contents
intend_child p c = cond (p == 0) (Err BadChild) (cond (is_some c.child) (Err BadChild) (Ok (with_child c (Some p))))

abbrev pub confirm_in : Contents → Option ℕ → Changed Contents
confirm_in c None = Err BadChild
confirm_in c (Some p) = and_then (confirm_rows p c.rows) (λ rows. Ok (with_rows (with_child c None) rows))

abbrev pub taken : Step → Contents → Changed Contents
taken (set k v) c = set_leaf k v c
taken (del k) c = del_leaf k c
taken (intend p) c = intend_child p c
taken confirm c = confirm_in c c.child
taken cap c = Ok (with_merging c true)

-- what applying a link gives: a node that is being merged away takes none
abbrev pub applied : Step → Contents → Changed Contents
applied s c = cond c.merging (Err Merging) (taken s c)

-- what splitting a child at a separator gives, and whether the separator is new
abbrev pub parent_split : Str → ℕ → Contents → Changed (Bool × Contents)
parent_split at to c =
    cond (nat_lt (length at) c.prefix_len) (Err Unlawful) (and_then (split_rows (drop c.prefix_len at) to c.rows) (λ done. Ok (done.0, with_rows c done.1)))

-- a page: a base, and the links since in order, each applied to what those before it left
abbrev pub folded : Contents → List Step → Changed Contents
folded c [] = Ok c
folded c (s ∷ steps) = and_then (applied s c) (λ d. folded d steps)

-- ---- roots

-- the roots with a page for the name; a new name finds no room among eight
abbrev pub set_root : Str → ℕ → List (Row ℕ) → Changed (List (Row ℕ))
set_root name page roots = cond (room_for 8 name roots) (Ok (put (sought name) (name, page) roots)) (Err TooManyRoots)

-- the page of a name
abbrev pub page_of : Option (Row ℕ) → Option ℕ
page_of None = None
page_of (Some r) = Some r.1

abbrev pub root_for : Str → List (Row ℕ) → Option ℕ
root_for name roots = page_of (lookup (sought name) roots)
