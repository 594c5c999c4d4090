-- How the bytes of a text come one after the other. Assumes nothing.
use Rattle.std.proofs.Common.{◌≡◌, ℕ, List, [], ◌∷◌, ◌++◌, Some, None, Option, sym, ap, ◌∙◌, append_assoc}
use Rattle.std.specs.Option.{option_map}
use Rattle.payload.specs.Spelling.{before}

-- bytes in front of what there is
abbrev pub behind : List ℕ → Option (List ℕ) → Option (List ℕ)
behind front o = option_map (λ bs. front ++ bs) o

-- one more byte has been read
pub behind_more : (front more : List ℕ) (b : ℕ) (all o : Option (List ℕ)) → all ≡ behind front (before (Some b) o) → more ≡ front ++ b ∷ [] → all ≡ behind more o
behind_more front more b all None h e = h
behind_more front more b all (Some bs) h e = h ∙ ap Some (sym (append_assoc front (b ∷ []) bs)) ∙ ap (λ l. Some (l ++ bs)) (sym e)
