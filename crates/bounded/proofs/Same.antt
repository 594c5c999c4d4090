-- Two bounded strings of the same bytes are one value. Assumes nothing.
use Rattle.std.proofs.Common.{◌≡◌, ℕ, ◌-◌, ◌≤◌, List, ◌++◌, length, drop, replicate, sym, refl, ap, ◌∙◌, arith, length-append, take-append-drop}
use mathlib.Core.HLevel.{is_prop→PathP}
use mathlib.Core.List.{is_set}
use native.Mathlib.Nat.{ℕ_set}
use native.Mathlib.Bridge.{le_prop}
use lib.ListN.{length-replicate}
use Rattle.std.proofs.lemmas.List.{length-take-le, drop_at, drop-replicate}
use Rattle.bounded.specs.Bytes.{bytes_of}
use Rattle.bounded.specs.declared.ivec.IVec.{IVec}

module _ {N : ℕ} where
  pub len_bytes : (v : IVec N) → length (bytes_of v) ≡ v.len
  len_bytes v = let r = v.room in let f = v.few in length-take-le v.len v.bytes (omega arith)

  whole : (v : IVec N) → v.bytes ≡ bytes_of v ++ replicate (N - v.len) 0
  whole v = sym (take-append-drop v.len v.bytes) ∙ ap (λ l. bytes_of v ++ l) v.clean

  pub only_bytes : (v w : IVec N) → bytes_of v ≡ bytes_of w → v ≡ w
  only_bytes v w e =
      let pl : v.len ≡ w.len = sym (len_bytes v) ∙ ap length e ∙ len_bytes w in
      let pb : v.bytes ≡ w.bytes = whole v ∙ (λ i. e i ++ replicate (N - pl i) 0) ∙ sym (whole w) in
      λ i. record {
        bytes = pb i;
        len = pl i;
        room = is_prop→PathP (λ j. length (pb j) ≡ N) (λ j. ℕ_set (length (pb j)) N) v.room w.room i;
        few = is_prop→PathP (λ j. pl j ≤ N) (λ j. le_prop) v.few w.few i;
        clean = is_prop→PathP (λ j. drop (pl j) (pb j) ≡ replicate (N - pl j) 0) (λ j. is_set ℕ_set (drop (pl j) (pb j)) (replicate (N - pl j) 0)) v.clean w.clean i;
      }

-- a string's bytes, written over the front of N zeros
pub padded : (s h : List ℕ) (N : ℕ) → length s ≤ N → h ≡ s → (length (h ++ drop (length s) (replicate N 0)) ≡ N) × (drop (length s) (h ++ drop (length s) (replicate N 0)) ≡ replicate (N - length s) 0)
padded s h N l p =
    let rest : List ℕ = replicate (N - length s) 0 in
    let e : h ++ drop (length s) (replicate N 0) ≡ s ++ rest = (λ i. p i ++ drop-replicate (length s) N 0 i) in
    let z = length-replicate {A = ℕ} (N - length s) 0 in
    (ap length e ∙ length-append s rest ∙ omega arith, ap (drop (length s)) e ∙ drop_at s rest (length s) refl)
