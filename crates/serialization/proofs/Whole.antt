-- What is made of a whole payload, and what the law of a format then says. Assumes nothing.
use Rattle.std.proofs.Common.{◌≡◌, ℕ, List, [], ◌∷◌, Ok, Result, sym, ap, ◌∙◌, subst, append-nil}
use Rattle.fault.specs.declared.bytes_fault.BytesFault.{BytesFault}
use Rattle.serialization.specs.Parsing.{Parsed, read, unlawful, fault}
use Rattle.serialization.specs.Fitting.{ReadsBack, ReadsOnly}
use Rattle.serialization.specs.Calls.{Decodes, whole}

module _ {V : Type 0} where
  whole_ok : (p : Parsed V) (v : V) → whole p ≡ Ok v → p ≡ read v []
  whole_ok (read x []) v h = cc
  whole_ok (read x (b ∷ rest)) v h = cc
  whole_ok (unlawful []) v h = cc
  whole_ok (unlawful (b ∷ rest)) v h = cc
  whole_ok (fault e) v h = cc

module _ {S V : Type 0} (value : S → V) (bytes : V → List ℕ) (parse : List ℕ → Parsed V) (bs : List ℕ) (r : Result S BytesFault) (reads : Decodes value (whole (parse bs)) r) where
  pub decode_back : (Fits : V → Type 0) → ReadsBack bytes parse Fits → (v : V) → Fits v → bs ≡ bytes v → Decodes value (Ok v) r
  decode_back Fits back v f e = subst (λ (w : Result V BytesFault). Decodes value w r) (ap (λ l. whole (parse l)) (e ∙ sym (append-nil (bytes v))) ∙ ap whole (back v [] f)) reads

  pub decode_only : ReadsOnly bytes parse → (x : S) → r ≡ Ok x → bs ≡ bytes (value x)
  decode_only only x e =
      let h : whole (parse bs) ≡ Ok (value x) = subst (λ (q : Result S BytesFault). Decodes value (whole (parse bs)) q) e reads in
      only (value x) bs [] (whole_ok (parse bs) (value x) h) ∙ append-nil (bytes (value x))
