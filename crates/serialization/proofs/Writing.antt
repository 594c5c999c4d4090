-- One write after another. Assumes nothing.
use Rattle.std.proofs.Common.{◌≡◌, ℕ, ◌+◌, ◌≤◌, List, [], ◌∷◌, ◌++◌, length, take, drop, sym, ap, ◌∙◌, subst, append_assoc, append-nil, add_assoc, arith, length-append}
use Rattle.std.proofs.lemmas.List.{take_at, drop_at, drop-drop, length-take-le}
use Rattle.serialization.specs.Formats.{each}
use Rattle.serialization.specs.Writing.{written, Puts}
use Rattle.serialization.specs.declared.writer.Writer.{Writer}

-- what is written next stands behind
written_then : (at : ℕ) (xs bs out : List ℕ) → at + length xs ≤ length out → written (at + length xs) bs (written at xs out) ≡ written at (xs ++ bs) out
written_then at xs bs out h =
    let t = length-take-le at out (omega arith) in
    let P : List ℕ = take at out ++ xs in
    let D : List ℕ = drop (at + length xs) out in
    let w : written at xs out ≡ P ++ D = sym (append_assoc (take at out) xs D) in
    let n : length P ≡ at + length xs = length-append (take at out) xs ∙ ap (λ k. k + length xs) t in
    let m : at + length xs + length bs ≡ at + length (xs ++ bs) = add_assoc at (length xs) (length bs) ∙ ap (λ k. at + k) (sym (length-append xs bs)) in
    let back : drop (at + length xs + length bs) (P ++ D) ≡ drop (at + length (xs ++ bs)) out =
    sym (drop-drop (length bs) (at + length xs) (P ++ D)) ∙ ap (drop (length bs)) (drop_at P D _ n) ∙ drop-drop (length bs) (at + length xs) out ∙ ap (λ k. drop k out) m in
    ap (λ l. take (at + length xs) l ++ (bs ++ drop (at + length xs + length bs) l)) w ∙ (λ i. take_at P D _ n i ++ (bs ++ back i)) ∙ append_assoc (take at out) xs (bs ++ drop (at + length (xs ++ bs)) out) ∙ ap (λ l. take at out ++ l) (sym (append_assoc xs bs (drop (at + length (xs ++ bs)) out)))

-- two writes in a row are one of both
pub puts_then : {xs ys : List ℕ} {u v w : Writer} → Puts xs u v → u.at + length xs ≤ length u.out.now → Puts ys v w → Puts (xs ++ ys) u w
puts_then {xs} {ys} {u} {v} {w} p h q =
    record {
      lent = q.lent ∙ p.lent;
      ends = q.ends ∙ ap (λ n. n + length ys) p.ends ∙ add_assoc u.at (length xs) (length ys) ∙ ap (λ n. u.at + n) (sym (length-append xs ys));
      room = q.room ∙ p.room;
      bytes = q.bytes ∙ (λ i. written (p.ends i) ys (p.bytes i)) ∙ written_then u.at xs ys u.out.now h;
    }

-- the same bytes under another name
pub puts_as : {xs ys : List ℕ} {u v : Writer} → xs ≡ ys → Puts xs u v → Puts ys u v
puts_as {xs} {ys} {u} {v} e p = subst (λ (bs : List ℕ). Puts bs u v) e p

-- one row more
pub each_push : {V : Type 0} (f : V → List ℕ) (xs : List V) (x : V) → each f (xs ++ x ∷ []) ≡ each f xs ++ f x
each_push f [] x = append-nil (f x)
each_push f (y ∷ ys) x = ap (λ l. f y ++ l) (each_push f ys x) ∙ sym (append_assoc (f y) (each f ys) (f x))
