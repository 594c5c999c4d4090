-- The bytes of strings, rows, links, nodes and roots, and what is read of them. Assumes nothing.
use Rattle.std.specs.Prelude.{ℕ, Bool, true, false, cond, List, [], ◌∷◌, ◌++◌, length, take, drop, Some, None, Option, ◌==◌, nat_lt}
use Rattle.fault.specs.declared.bytes_fault.BytesFault.TheVariants.{EndsEarly, OutOfRange}
use Rattle.node.specs.Nodes.{Str, Row, Rows, index, leaf, Contents, lawful, ordered}
use Rattle.node.specs.Links.{Step, set, del, intend, confirm, cap}
use Rattle.serialization.specs.Parsing.{Parsed, read, fault, and_then, parse_byte, parse_flag, times, keeping}
use Rattle.serialization.specs.Numbers.{number, parse_number}

-- ---- strings: the length, then the bytes

unfoldable pub str_bytes : Str → List ℕ
str_bytes s = number (length s) ++ s

-- a length above the limit is outside its values
unfoldable pub parse_string : ℕ → List ℕ → Parsed Str
parse_string most bs =
    and_then (parse_number bs) (λ n rest. cond (nat_lt most n) (fault OutOfRange) (cond (nat_lt (length rest) n) (fault EndsEarly) (read (take n rest) (drop n rest))))

-- ---- rows: a key, and then what it leads to

abbrev pub row_bytes : {V : Type 0} → (V → List ℕ) → Row V → List ℕ
row_bytes bytes r = str_bytes r.0 ++ bytes r.1

abbrev pub parse_row : {V : Type 0} → (List ℕ → Parsed V) → List ℕ → Parsed (Row V)
parse_row parse bs = and_then (parse_string 24 bs) (λ k rest. and_then (parse rest) (λ v after. read (k, v) after))

abbrev pub leaf_bytes : Row Str → List ℕ
leaf_bytes = row_bytes str_bytes

abbrev pub parse_leaf : List ℕ → Parsed (Row Str)
parse_leaf = parse_row (parse_string 40)

abbrev pub index_bytes : Row ℕ → List ℕ
index_bytes = row_bytes number

abbrev pub parse_index : List ℕ → Parsed (Row ℕ)
parse_index = parse_row parse_number

-- ---- lists: the count, then each

abbrev pub each : {V : Type 0} → (V → List ℕ) → List V → List ℕ
each f [] = []
each f (x ∷ xs) = f x ++ each f xs

abbrev pub list_bytes : {V : Type 0} → (V → List ℕ) → List V → List ℕ
list_bytes f xs = number (length xs) ++ each f xs

-- a count above the limit is outside its values
abbrev pub parse_list : {V : Type 0} → ℕ → (List ℕ → Parsed V) → List ℕ → Parsed (List V)
parse_list most p bs = and_then (parse_number bs) (λ n rest. cond (nat_lt most n) (fault OutOfRange) (times p n rest))

-- ---- links: a tag, then the rest

abbrev pub link_bytes : Step → List ℕ
link_bytes (set k v) = 0 ∷ leaf_bytes (k, v)
link_bytes (del k) = 1 ∷ str_bytes k
link_bytes (intend p) = 2 ∷ number p
link_bytes confirm = 3 ∷ []
link_bytes cap = 4 ∷ []

abbrev pub parse_tagged : ℕ → List ℕ → Parsed Step
parse_tagged tag rest =
    cond (tag == 0) (and_then (parse_leaf rest) (λ r after. read (set r.0 r.1) after))
    (cond (tag == 1) (and_then (parse_string 24 rest) (λ k after. read (del k) after))
    (cond (tag == 2) (and_then (parse_number rest) (λ p after. read (intend p) after))
    (cond (tag == 3) (read confirm rest)
    (cond (tag == 4) (read cap rest)
    (fault OutOfRange)))))

abbrev pub parse_link : List ℕ → Parsed Step
parse_link bs = and_then (parse_byte bs) parse_tagged

-- ---- nodes

-- no page is written as 0
abbrev pub or_zero : Option ℕ → ℕ
or_zero None = 0
or_zero (Some p) = p

abbrev pub page_at : ℕ → Option ℕ
page_at n = cond (n == 0) None (Some n)

abbrev pub flag_byte : Bool → ℕ
flag_byte false = 0
flag_byte true = 1

-- the kind, then the rows
abbrev pub data_bytes : Rows → List ℕ
data_bytes (index rows) = 0 ∷ list_bytes index_bytes rows
data_bytes (leaf rows) = 1 ∷ list_bytes leaf_bytes rows

abbrev pub parse_data : List ℕ → Parsed Rows
parse_data bs = and_then (parse_byte bs) (λ kind rest.
    cond (kind == 0) (and_then (parse_list 16 parse_index rest) (λ rows after. read (index rows) after))
    (cond (kind == 1) (and_then (parse_list 16 parse_leaf rest) (λ rows after. read (leaf rows) after))
    (fault OutOfRange)))

abbrev pub node_bytes : Contents → List ℕ
node_bytes c =
    c.prefix_len ∷ (number (or_zero c.next) ++ (number (or_zero c.child) ++ (flag_byte c.merging ∷ (str_bytes c.lo ++ (str_bytes c.hi ++ data_bytes c.rows)))))

-- the parts of a node, lawful or not
abbrev pub parse_parts : List ℕ → Parsed Contents
parse_parts bs =
    and_then (parse_byte bs) (λ prefix bs. and_then (parse_number bs) (λ next bs. and_then (parse_number bs) (λ child bs. and_then (parse_flag bs) (λ merging bs.
    and_then (parse_string 24 bs) (λ lo bs. and_then (parse_string 24 bs) (λ hi bs. and_then (parse_data bs) (λ rows bs.
    read (record { prefix_len = prefix; next = page_at next; child = page_at child; merging = merging; lo = lo; hi = hi; rows = rows }) bs)))))))

abbrev pub parse_node : List ℕ → Parsed Contents
parse_node bs = keeping lawful (parse_parts bs)

-- ---- roots, names rising

abbrev pub meta_bytes : List (Row ℕ) → List ℕ
meta_bytes roots = list_bytes index_bytes roots

abbrev pub parse_meta : List ℕ → Parsed (List (Row ℕ))
parse_meta bs = keeping ordered (parse_list 8 parse_index bs)
