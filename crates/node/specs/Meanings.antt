-- What the values of this crate mean: lists of bytes and numbers. Assumes nothing.
use Rattle.std.specs.Prelude.{ℕ, List, map, length, Some, None, Ok, Err, Option}
use Rattle.std.specs.NonZero.{non_zero_u64_get}
use Rattle.std.specs.Option.{option_map}
use Rattle.keyed.specs.Rows.{Searched}
use Rattle.bounded.specs.Bytes.{bytes_of}
use Rattle.bounded.specs.Rows.{rows_of}
use Rattle.bounded.specs.declared.ivec.IVec.{IVec}
use Rattle.node.specs.declared.rows.Row.{Row as Kept}
use Rattle.node.specs.declared.rows.Held.{Ghosts as HeldOf}
use Rattle.node.specs.contracts.rows.PageIdHeld.TheImpl as page
use Rattle.node.specs.contracts.rows.ValueHeld.TheImpl as value
use Rattle.node.specs.declared.data.Data.{Data}
use Rattle.node.specs.declared.data.Data.TheVariants.{Index, Leaf}
use Rattle.node.specs.declared.link.Link.{Link}
use Rattle.node.specs.declared.link.Link.TheVariants.{Set, Del, ParentMergeIntention, ParentMergeConfirm, ChildMergeCap}
use Rattle.node.specs.declared.parts.NodeParts.{NodeParts}
use Rattle.node.specs.Nodes.{Str, Row, Rows, index, leaf, Contents}
use Rattle.node.specs.Links.{Step, set, del, intend, confirm, cap, pointing}

-- the rows of a leaf, and those of an index and of a Meta
abbrev pub LeafRow : Type 0
LeafRow = Kept (IVec 40) value.ghosts

abbrev pub IndexRow : Type 0
IndexRow = Kept ℕ page.ghosts

-- a row, by what its value means
abbrev pub row_of : {V M : Type 0} {held : HeldOf V} → (V → M) → Kept V held → Row M
row_of meaning r = (bytes_of r.key, meaning r.value)

abbrev pub leaf_row : LeafRow → Row Str
leaf_row = row_of bytes_of

abbrev pub index_row : IndexRow → Row ℕ
index_row = row_of (λ p. p)

abbrev pub data_of : Data → Rows
data_of (Index t) = index (map index_row (rows_of t))
data_of (Leaf t) = leaf (map leaf_row (rows_of t))

-- the place of the first row that points to the page, if there is one
abbrev pub Pointed : ℕ → List IndexRow → Option ℕ → Type 0
Pointed p rows (Some i) = Searched (λ r. pointing p (index_row r)) rows (Ok i)
Pointed p rows None = Searched (λ r. pointing p (index_row r)) rows (Err (length rows))

abbrev pub roots_of : List IndexRow → List (Row ℕ)
roots_of roots = map index_row roots

abbrev pub parts_of : NodeParts → Contents
parts_of p = record {
  prefix_len = p.prefix_len;
  next = option_map non_zero_u64_get p.next;
  child = option_map non_zero_u64_get p.merging_child;
  merging = p.merging;
  lo = bytes_of p.lo;
  hi = bytes_of p.hi;
  rows = data_of p.«data»;
}

abbrev pub link_of : Link → Step
link_of (Set k v) = set (bytes_of k) (bytes_of v)
link_of (Del k) = del (bytes_of k)
link_of (ParentMergeIntention p) = intend p
link_of ParentMergeConfirm = confirm
link_of ChildMergeCap = cap
