-- Strings and rows read back as they were, and no other bytes read as them. Assumes nothing.
use Rattle.std.specs.Prelude.{◌≡◌, ℕ, ◌^◌, ◌<◌, ◌≤◌, cond, ◌++◌, length, take, drop, nat_lt, refl}
use Rattle.std.proofs.Common.{sym, ap, ◌∙◌, arith, length-append, take-append-drop}
use Rattle.std.proofs.lemmas.List.{take_at, drop_at, length-take-le}
use Rattle.std.proofs.lemmas.Bool.{ltb-false, le-ltb, cond-false}
use Rattle.fault.specs.declared.bytes_fault.BytesFault.TheVariants.{EndsEarly, OutOfRange}
use Rattle.serialization.specs.Parsing.{read, fault}
use Rattle.serialization.specs.Numbers.{number, parse_number}
use Rattle.serialization.specs.Formats.{str_bytes, parse_string, leaf_bytes, parse_leaf, index_bytes, parse_index}
use Rattle.serialization.specs.Fitting.{ReadsBack, ReadsOnly, FitsString, FitsLeaf, FitsIndex}
use Rattle.serialization.specs.Parts.{passed, joined, parted, then_back, both-back, both-only}
use Rattle.serialization.specs.Numbering.{number-back, number-only}

pub string_back : (most : ℕ) → most < 2 ^ 64 → ReadsBack str_bytes (parse_string most) (FitsString most)
unfolding str_bytes parse_string
string_back most l s rest h =
    let n = length s in
    let k : n ≤ length (s ++ rest) = simp length-append (omega arith) in
    then_back number parse_number number-back _ n s rest (omega arith)
    (cond-false (nat_lt most n) _ _ (le-ltb most n h)
    ∙ cond-false (nat_lt (length (s ++ rest)) n) _ _ (le-ltb (length (s ++ rest)) n k)
    ∙ (λ i. read (take_at s rest n refl i) (drop_at s rest n refl i)))

pub string_only : (most : ℕ) → ReadsOnly str_bytes (parse_string most)
unfolding str_bytes parse_string
string_only most s bs rest e =
    parted (parse_number bs) _ e (λ n mid h e.
    let w = passed (nat_lt most n) OutOfRange (cond (nat_lt (length mid) n) (fault EndsEarly) (read (take n mid) (drop n mid))) e in
    let u = passed (nat_lt (length mid) n) EndsEarly (read (take n mid) (drop n mid)) w.1 in
    let t : take n mid ≡ s = cc u.1 in
    let d : drop n mid ≡ rest = cc u.1 in
    let k : n ≡ length s = sym (length-take-le n mid (ltb-false (length mid) n u.0)) ∙ ap length t in
    joined (number (length s)) s rest (number-only n bs mid h ∙ ap (λ m. number m ++ mid) k) (sym (take-append-drop n mid) ∙ (λ i. t i ++ d i)))

-- ---- rows

pub leaf-back : ReadsBack leaf_bytes parse_leaf FitsLeaf
leaf-back = both-back str_bytes (parse_string 24) str_bytes (parse_string 40) (string_back 24 (omega arith)) (string_back 40 (omega arith))

pub leaf-only : ReadsOnly leaf_bytes parse_leaf
leaf-only = both-only str_bytes (parse_string 24) str_bytes (parse_string 40) (string_only 24) (string_only 40)

pub index_back : ReadsBack index_bytes parse_index FitsIndex
index_back = both-back str_bytes (parse_string 24) number parse_number (string_back 24 (omega arith)) number-back

pub index-only : ReadsOnly index_bytes parse_index
index-only = both-only str_bytes (parse_string 24) number parse_number (string_only 24) number-only
