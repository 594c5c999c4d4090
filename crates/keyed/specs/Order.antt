-- What an order of keys is, and that the order of byte strings is one. Assumes nothing.
use Rattle.std.specs.Prelude.{◌≡◌, ℕ, ◌<◌, List, [], ◌∷◌, refl}
use Rattle.std.specs.declared.cmp.Ordering.TheVariants.{Less, Equal, Greater}
use Rattle.std.specs.declared.cmp.Ordering.{Ordering}
use Rattle.std.proofs.Common.{ap, true≢false}
use Rattle.std.specs.Ordering.{is_lt, is_gt, ordering_reverse, ordering_then, MatchOrdering, nat_cmp}
use Rattle.std.specs.Cmp.{IsTotalOrder, nat_cmp_total, ranks}
use Rattle.std.specs.Cmp.Lexicographic.{slice_cmp, lists_total}
use Rattle.bounded.specs.Bytes.{bytes_of, by_bytes}
use Rattle.bounded.proofs.Same.{only_bytes}

-- only a key itself is equal to a key
abbrev pub OnlyItself : {K : Type 0} → (K → K → Ordering) → Type 0
OnlyItself {K} o = (x y : K) → o x y ≡ Equal → x ≡ y

-- only a key itself is equal to a key, and the order is total
pub record Lawful {K : Type 0} (o : K → K → Ordering) : Type 0 where
  pub same : (x y : K) → o x y ≡ Equal → x ≡ y
  pub flip : (x y : K) → o x y ≡ ordering_reverse (o y x)
  pub trans : (x y z : K) → o x y ≡ Less → o y z ≡ Less → o x z ≡ Less

pub lawful : {K : Type 0} {o : K → K → Ordering} → IsTotalOrder o → OnlyItself o → Lawful o
lawful t s = record { same = s; flip = t.antisymm; trans = t.trans }

first-same : (x y : ℕ) (r t : Ordering) → MatchOrdering r (x < y) (x ≡ y) (y < x) → ordering_then r t ≡ Equal → (x ≡ y) × (t ≡ Equal)
first-same x y Less t h e = absurd (true≢false (ap is_lt e))
first-same x y Equal t h e = (h, e)
first-same x y Greater t h e = absurd (true≢false (ap is_gt e))

lex_same : (xs ys : List ℕ) → slice_cmp nat_cmp xs ys ≡ Equal → xs ≡ ys
lex_same [] [] e = refl
lex_same [] (y ∷ ys) e = absurd (true≢false (ap is_lt e))
lex_same (x ∷ xs) [] e = absurd (true≢false (ap is_gt e))
lex_same (x ∷ xs) (y ∷ ys) e =
    let p = first-same x y (nat_cmp x y) (slice_cmp nat_cmp xs ys) (ranks x y) e in
    λ i. p.0 i ∷ lex_same xs ys p.1 i

pub bytes_only : {N : ℕ} → OnlyItself (by_bytes {N = N})
bytes_only v w e = only_bytes v w (lex_same (bytes_of v) (bytes_of w) e)

pub bytes-lawful : {N : ℕ} → Lawful (by_bytes {N = N})
bytes-lawful = record {
  same = bytes_only;
  flip = λ v w. (lists_total nat_cmp_total).antisymm (bytes_of v) (bytes_of w);
  trans = λ u v w. (lists_total nat_cmp_total).trans (bytes_of u) (bytes_of v) (bytes_of w);
}
