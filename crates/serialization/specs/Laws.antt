-- Links, nodes and roots read back as they were, and no other bytes read as them. Assumes nothing.
use Rattle.std.specs.Prelude.{◌≡◌, ℕ, ◌^◌, ◌<◌, Bool, true, false, List, [], ◌∷◌, ◌++◌, Some, None, Option, ◌==◌, refl}
use Rattle.std.proofs.Common.{sym, ap, ◌∙◌, arith}
use Rattle.std.proofs.lemmas.Bool.{eqb-true, ne_eqb, cond-false, cond_both}
use Rattle.node.specs.Nodes.{index, leaf, Contents, lawful, ordered}
use Rattle.node.specs.Links.{set, del, intend, confirm, cap}
use Rattle.serialization.specs.Parsing.{Parsed, read, parse_flag}
use Rattle.serialization.specs.Numbers.{number, parse_number}
use Rattle.serialization.specs.Formats.{str_bytes, parse_string, leaf_bytes, parse_leaf, index_bytes, parse_index, list_bytes, parse_list, link_bytes, parse_link, or_zero, page_at, flag_byte, data_bytes, parse_data, node_bytes, parse_parts, parse_node, meta_bytes, parse_meta}
use Rattle.serialization.specs.Fitting.{ReadsBack, ReadsOnly, FitsLink, FitsRows, FitsPage, FitsNode, FitsMeta}
use Rattle.serialization.specs.Parts.{no_fault, joined, then_read, parted, then_back, choose, tagged_only, keeping-back, keeping-only}
use Rattle.serialization.specs.Numbering.{number-back, number-only}
use Rattle.serialization.specs.Texts.{string_back, string_only, leaf-back, leaf-only, index_back, index-only}
use Rattle.serialization.specs.Listing.{list_back, list_only}

-- ---- nothing

abbrev no_bytes : Unit {0} → List ℕ
no_bytes _ = []

abbrev parse_nothing : List ℕ → Parsed (Unit {0})
parse_nothing bs = read tt bs

pub free_back : ReadsBack no_bytes parse_nothing (λ _. Unit {0})
free_back _ rest h = refl

pub free_only : ReadsOnly no_bytes parse_nothing
free_only _ bs rest e = cc

-- ---- links

pub link_back : ReadsBack link_bytes parse_link FitsLink
link_back (set k v) rest h = then_read _ (leaf-back (k, v) rest h) refl
link_back (del k) rest h = then_read _ (string_back 24 (omega arith) k rest h) refl
link_back (intend p) rest h = then_read _ (number-back p rest h) refl
link_back confirm rest h = refl
link_back cap rest h = refl

pub link_only : ReadsOnly link_bytes parse_link
link_only v [] rest e = no_fault e
link_only v (tag ∷ bs) rest e =
    choose tag 0 _ _ e (tagged_only leaf_bytes parse_leaf (λ r. set r.0 r.1) link_bytes 0 (λ r. refl) leaf-only tag v bs rest)
    (λ e. choose tag 1 _ _ e (tagged_only str_bytes (parse_string 24) del link_bytes 1 (λ k. refl) (string_only 24) tag v bs rest)
    (λ e. choose tag 2 _ _ e (tagged_only number parse_number intend link_bytes 2 (λ p. refl) number-only tag v bs rest)
    (λ e. choose tag 3 _ _ e (tagged_only no_bytes parse_nothing (λ _. confirm) link_bytes 3 (λ _. refl) free_only tag v bs rest)
    (λ e. choose tag 4 _ _ e (tagged_only no_bytes parse_nothing (λ _. cap) link_bytes 4 (λ _. refl) free_only tag v bs rest)
    no_fault))))

-- ---- the parts of a node

page-fits : (o : Option ℕ) → FitsPage o → or_zero o < 2 ^ 64
page-fits None h = omega arith
page-fits (Some p) h = h.1

page-back : (o : Option ℕ) → FitsPage o → page_at (or_zero o) ≡ o
page-back None h = refl
page-back (Some p) h = let k : 0 < p = h.0 in cond-false (p == 0) _ _ (ne_eqb p 0 (λ z. omega arith))

page-only : (n : ℕ) (bs rest : List ℕ) → parse_number bs ≡ read n rest → bs ≡ number (or_zero (page_at n)) ++ rest
page-only n bs rest e =
    let k : or_zero (page_at n) ≡ n = cond_both (n == 0) None (Some n) (λ o. or_zero o ≡ n) (λ z. sym (eqb-true n 0 z)) (λ _. refl) in
    number-only n bs rest e ∙ ap (λ m. number m ++ rest) (sym k)

flag_back : (b : Bool) (rest : List ℕ) → parse_flag (flag_byte b ∷ rest) ≡ read b rest
flag_back true rest = refl
flag_back false rest = refl

flag_only : (b : Bool) (bs rest : List ℕ) → parse_flag bs ≡ read b rest → bs ≡ flag_byte b ∷ rest
flag_only b [] rest e = no_fault e
flag_only b (n ∷ bs) rest e =
    choose n 0 _ _ e (tagged_only no_bytes parse_nothing (λ _. false) (λ b. flag_byte b ∷ []) 0 (λ _. refl) free_only n b bs rest)
    (λ e. choose n 1 _ _ e (tagged_only no_bytes parse_nothing (λ _. true) (λ b. flag_byte b ∷ []) 1 (λ _. refl) free_only n b bs rest)
    no_fault)

data_back : ReadsBack data_bytes parse_data FitsRows
data_back (index rows) rest h = then_read _ (list_back index_bytes parse_index 16 (omega arith) index_back rows rest h) refl
data_back (leaf rows) rest h = then_read _ (list_back leaf_bytes parse_leaf 16 (omega arith) leaf-back rows rest h) refl

data_only : ReadsOnly data_bytes parse_data
data_only v [] rest e = no_fault e
data_only v (kind ∷ bs) rest e =
    choose kind 0 _ _ e (tagged_only (list_bytes index_bytes) (parse_list 16 parse_index) index data_bytes 0 (λ _. refl) (list_only index_bytes parse_index 16 index-only) kind v bs rest)
    (λ e. choose kind 1 _ _ e (tagged_only (list_bytes leaf_bytes) (parse_list 16 parse_leaf) leaf data_bytes 1 (λ _. refl) (list_only leaf_bytes parse_leaf 16 leaf-only) kind v bs rest)
    no_fault)

-- ---- nodes

parts_back : (c : Contents) (rest : List ℕ) → FitsNode c → parse_parts (node_bytes c ++ rest) ≡ read c rest
parts_back c rest h =
    then_back number parse_number number-back _ (or_zero c.next) _ rest (page-fits c.next h.next)
    (then_back number parse_number number-back _ (or_zero c.child) _ rest (page-fits c.child h.child)
    (then_read _ (flag_back c.merging _)
    (then_back str_bytes (parse_string 24) (string_back 24 (omega arith)) _ c.lo _ rest h.lo
    (then_back str_bytes (parse_string 24) (string_back 24 (omega arith)) _ c.hi _ rest h.hi
    (then_read _ (data_back c.rows rest h.rows)
    (λ i. read (record { prefix_len = c.prefix_len; next = page-back c.next h.next i; child = page-back c.child h.child i; merging = c.merging; lo = c.lo; hi = c.hi; rows = c.rows }) rest))))))

parts_only : ReadsOnly node_bytes parse_parts
parts_only c [] rest e = no_fault e
parts_only c (prefix ∷ b0) rest e =
    parted (parse_number b0) _ e (λ next b1 h1 e. parted (parse_number b1) _ e (λ child b2 h2 e. parted (parse_flag b2) _ e (λ merging b3 h3 e.
    parted (parse_string 24 b3) _ e (λ lo b4 h4 e. parted (parse_string 24 b4) _ e (λ hi b5 h5 e. parted (parse_data b5) _ e (λ rows b6 h6 e.
    let same : record { prefix_len = prefix; next = page_at next; child = page_at child; merging = merging; lo = lo; hi = hi; rows = rows } ≡ c = cc in
    let left : b6 ≡ rest = cc in
    ap (λ l. prefix ∷ l)
    (joined _ _ b6 (page-only next b0 b1 h1)
    (joined _ _ b6 (page-only child b1 b2 h2)
    (flag_only merging b2 b3 h3 ∙ ap (λ l. flag_byte merging ∷ l)
    (joined _ _ b6 (string_only 24 lo b3 b4 h4)
    (joined _ _ b6 (string_only 24 hi b4 b5 h5)
    (data_only rows b5 b6 h6))))))
    ∙ (λ i. node_bytes (same i) ++ left i)))))))

pub node-back : ReadsBack node_bytes parse_node FitsNode
node-back c rest h = keeping-back node_bytes parse_parts lawful parts_back c rest (h, h.ruled)

pub node-only : ReadsOnly node_bytes parse_node
node-only = keeping-only node_bytes parse_parts lawful parts_only

-- ---- roots

pub meta_back : ReadsBack meta_bytes parse_meta FitsMeta
meta_back = keeping-back meta_bytes (parse_list 8 parse_index) ordered (list_back index_bytes parse_index 8 (omega arith) index_back)

pub meta_only : ReadsOnly meta_bytes parse_meta
meta_only = keeping-only meta_bytes (parse_list 8 parse_index) ordered (list_only index_bytes parse_index 8 index-only)
