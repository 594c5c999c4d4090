-- How many bytes the length of a string has, and that every value of the types is within the sizes. Assumes nothing.
use Rattle.std.proofs.Common.{◌≡◌, ℕ, ◌≤◌, Bool, true, false, cond, ltb, ltb-true, List, [], ◌∷◌, map, length, refl, arith}
use Rattle.std.proofs.lemmas.List.{length-map}
use Rattle.bounded.specs.Bytes.{bytes_of}
use Rattle.bounded.specs.Rows.{rows_of}
use Rattle.bounded.specs.declared.ivec.IVec.{IVec}
use Rattle.bounded.specs.declared.table.Table.{Table}
use Rattle.bounded.proofs.Same.{len_bytes}
use Rattle.node.specs.declared.data.Data.{Data}
use Rattle.node.specs.declared.data.Data.TheVariants.{Index, Leaf}
use Rattle.node.specs.declared.node.Node.{Node}
use Rattle.node.specs.declared.meta.Meta.{Meta}
use Rattle.node.specs.Meanings.{LeafRow, IndexRow, leaf_row, index_row, data_of}
use Rattle.node.specs.Outcomes.{node_of, meta_of}
use Rattle.node.proofs.Tables.{few-rows}
use Rattle.serialization.specs.Fitting.{Every, FitsString, FitsLeaf, FitsIndex, FitsList, FitsRows, FitsPage, FitsNode, FitsMeta}
use Rattle.serialization.specs.Numbers.{number}
use Rattle.serialization.specs.Numbering.{length-number, length-number-small}

-- a length of at most N: a byte where N is small, and never more than ten
pub length_within : (n N : ℕ) → n ≤ N → length (number n) ≤ cond (ltb N 128) 1 10
length_within n N h = at (ltb N 128) refl
  where
    at : (t : Bool) → ltb N 128 ≡ t → length (number n) ≤ cond t 1 10
    at true e = let k = ltb-true N 128 e in let s = length-number-small n (omega arith) in omega arith
    at false e = length-number n

-- ---- every value of the types

pub string_fits : {N : ℕ} (v : IVec N) → FitsString N (bytes_of v)
string_fits v = let l = len_bytes v in let f = v.few in omega arith

leaf-fits : (r : LeafRow) → FitsLeaf (leaf_row r)
leaf-fits r = (string_fits r.key, string_fits r.value)

-- the row of an index, and a root
index-fits : (r : IndexRow) → FitsIndex (index_row r)
index-fits r = (string_fits r.key, r.fits)

root_fits : (r : IndexRow) → FitsIndex (index_row r)
root_fits = index-fits

module _ {R V : Type 0} (f : R → V) (P : V → Type 0) (each : (r : R) → P (f r)) where
  every : (rows : List R) → Every P (map f rows)
  every [] = tt
  every (r ∷ rows) = (each r, every rows)

  table_fits : {n : ℕ} (t : Table R n) → FitsList n P (map f (rows_of t))
  table_fits t = let l = length-map (rows_of t) f in let few = few-rows t in (omega arith, every (rows_of t))

pub data_fits : (d : Data) → FitsRows (data_of d)
data_fits (Index t) = table_fits index_row FitsIndex index-fits t
data_fits (Leaf t) = table_fits leaf_row FitsLeaf leaf-fits t

pub node-fits : (n : Node) → FitsPage (node_of n).next → FitsPage (node_of n).child → FitsNode (node_of n)
node-fits n next child =
    let p = n.parts in
    record { next = next; child = child; lo = string_fits p.lo; hi = string_fits p.hi; rows = data_fits p.«data»; ruled = n.ruled }

pub meta_fits : (m : Meta) → FitsMeta (meta_of m)
meta_fits m = (table_fits index_row FitsIndex root_fits m.roots, m.ruled)
