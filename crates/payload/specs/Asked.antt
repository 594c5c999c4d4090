-- What the words of a line ask for. Assumes nothing.
use Rattle.std.specs.Prelude.{ℕ, Bool, true, false, cond, List, map, Some, None, vec_items, codes, Option, Vec, ◌==◌}
use Rattle.std.specs.declared.alloc.Global.{Global}
use Rattle.std.specs.NonZero.{non_zero_u64_get}
use Rattle.std.specs.Option.{option_map}
use Rattle.node.specs.Links.{Step, set, del, intend, confirm, cap}
use Rattle.node.specs.Nodes.{Str, Contents, index, leaf}
use Rattle.node.specs.Nodes as nodes
use Rattle.payload.specs.declared.command.Change.{Change}
use Rattle.payload.specs.declared.command.Change.TheVariants.{Set, Del, Intend, Confirm, Cap}
use Rattle.payload.specs.declared.command.Row.{Row}
use Rattle.payload.specs.declared.command.Rows.{Rows}
use Rattle.payload.specs.declared.command.Rows.TheVariants.{Leaf, Index}
use Rattle.payload.specs.declared.command.Shape.{Shape}
use Rattle.payload.specs.declared.command.Kind.{Kind}
use Rattle.payload.specs.declared.command.Kind.TheVariants.{Counter, Free, Meta, Link, Node}

-- the word of a flag
abbrev pub flag_word : Bool → List ℕ
flag_word true = codes "1"
flag_word false = codes "0"

-- the word of a kind of payload
abbrev pub kind_word : Kind → List ℕ
kind_word Counter = codes "counter"
kind_word Free = codes "free"
kind_word Meta = codes "meta"
kind_word Link = codes "link"
kind_word Node = codes "node"

-- the link that a change is
abbrev pub step_of : Change → Step
step_of (Set k v) = set (vec_items k) (vec_items v)
step_of (Del k) = del (vec_items k)
step_of (Intend page) = intend page
step_of Confirm = confirm
step_of Cap = cap

-- ---- the node that a shape is

-- a row, by what its value asks for
abbrev pub row_asked : {V M : Type 0} → (V → M) → Row V → nodes.Row M
row_asked asked row = (vec_items row.key, asked row.value)

abbrev pub leaf_asked : Row (Vec ℕ Global) → nodes.Row Str
leaf_asked = row_asked vec_items

abbrev pub index_asked : Row ℕ → nodes.Row ℕ
index_asked = row_asked (λ p. p)

abbrev pub rows_asked : Rows → nodes.Rows
rows_asked (Leaf rows) = leaf (map leaf_asked (vec_items rows))
rows_asked (Index rows) = index (map index_asked (vec_items rows))

-- the page of a number, where 0 is none
abbrev pub page_asked : ℕ → Option ℕ
page_asked page = cond (page == 0) None (Some page)

abbrev pub contents_of : Shape → Contents
contents_of shape = record {
  prefix_len = shape.prefix_len;
  next = option_map non_zero_u64_get shape.next;
  child = option_map non_zero_u64_get shape.child;
  merging = shape.merging;
  lo = vec_items shape.lo;
  hi = vec_items shape.hi;
  rows = rows_asked shape.rows;
}
