-- One part after another: what is read of the whole is read of its parts. Assumes nothing.
use Rattle.std.specs.Prelude.{◌≡◌, ℕ, Bool, true, false, cond, ◌⊎◌, List, ◌∷◌, ◌++◌, ◌==◌, refl}
use Rattle.std.proofs.Common.{sym, ap, ◌∙◌, inl, inr, ⊎_elim, append_assoc, arith}
use Rattle.std.proofs.lemmas.Bool.{cond-true, eqb-true}
use Rattle.fault.specs.declared.bytes_fault.BytesFault.{BytesFault}
use Rattle.serialization.specs.Parsing.{Parsed, read, unlawful, fault, and_then, keeping}
use Rattle.serialization.specs.Fitting.{ReadsBack, ReadsOnly}

-- ---- tests

pub ways : {X : Type 0} {r : X} (b : Bool) (p q : X) → cond b p q ≡ r → ((b ≡ true) × (p ≡ r)) ⊎ ((b ≡ false) × (q ≡ r))
ways true p q e = inl (refl, e)
ways false p q e = inr (refl, e)

module _ {V : Type 0} {v : V} {rest : List ℕ} where
  pub no_fault : {e : BytesFault} {X : Type 0} → ◌≡◌ {A = Parsed V} (fault e) (read v rest) → X
  no_fault q = let z : ◌≡◌ {A = ℕ} 0 1 = cc in absurd (omega arith)

  -- what a test lets through
  pub passed : (b : Bool) (e : BytesFault) (p : Parsed V) → cond b (fault e) p ≡ read v rest → (b ≡ false) × (p ≡ read v rest)
  passed true e p q = no_fault q
  passed false e p q = (refl, q)

  pub met : (b : Bool) (p : Parsed V) (e : BytesFault) → cond b p (fault e) ≡ read v rest → (b ≡ true) × (p ≡ read v rest)
  met true p e q = (refl, q)
  met false p e q = no_fault q

-- ---- a part, then what comes after it

pub joined : {bs mid : List ℕ} (front more rest : List ℕ) → bs ≡ front ++ mid → mid ≡ more ++ rest → bs ≡ (front ++ more) ++ rest
joined front more rest p q = p ∙ ap (λ l. front ++ l) q ∙ sym (append_assoc front more rest)

module _ {A B : Type 0} where
  pub then_read : {x : A} {mid : List ℕ} {p : Parsed A} {r : Parsed B} (k : A → List ℕ → Parsed B) → p ≡ read x mid → k x mid ≡ r → and_then p k ≡ r
  then_read k e h = ap (λ q. and_then q k) e ∙ h

  pub parted : {C : Type 0} {y : B} {rest : List ℕ} (p : Parsed A) (k : A → List ℕ → Parsed B) → and_then p k ≡ read y rest → ((x : A) (mid : List ℕ) → p ≡ read x mid → k x mid ≡ read y rest → C) → C
  parted (read x mid) k e f = f x mid refl e
  parted (unlawful mid) k e f = let z : ◌≡◌ {A = ℕ} 0 1 = cc in absurd (omega arith)
  parted (fault _) k e f = no_fault e

module _ {A B : Type 0} (f : A → List ℕ) (p : List ℕ → Parsed A) where
  pub then_back : {P : A → Type 0} {r : Parsed B} → ReadsBack f p P → (k : A → List ℕ → Parsed B) (x : A) (more rest : List ℕ) → P x → k x (more ++ rest) ≡ r → and_then (p ((f x ++ more) ++ rest)) k ≡ r
  then_back back k x more rest h e = rw append_assoc (then_read k (back x (more ++ rest) h) e)

-- ---- two parts

module _ {A B : Type 0} (f : A → List ℕ) (p : List ℕ → Parsed A) (g : B → List ℕ) (q : List ℕ → Parsed B) where
  abbrev bytes : A × B → List ℕ
  bytes r = f r.0 ++ g r.1

  abbrev parse : List ℕ → Parsed (A × B)
  parse bs = and_then (p bs) (λ x rest. and_then (q rest) (λ y after. read (x, y) after))

  pub both-back : {P : A → Type 0} {Q : B → Type 0} → ReadsBack f p P → ReadsBack g q Q → ReadsBack bytes parse (λ r. P r.0 × Q r.1)
  both-back back back' r rest h = then_back f p back _ r.0 (g r.1) rest h.0 (then_read _ (back' r.1 rest h.1) refl)

  pub both-only : ReadsOnly f p → ReadsOnly g q → ReadsOnly bytes parse
  both-only only only' r bs rest e =
      parted (p bs) _ e (λ x mid h e. parted (q mid) _ e (λ y after k e.
      let same : (x, y) ≡ r = cc in
      let left : after ≡ rest = cc in
      joined (f x) (g y) after (only x bs mid h) (only' y mid after k) ∙ (λ i. bytes (same i) ++ left i)))

-- ---- a tag, then a part

-- one case of a tag
pub choose : {X C : Type 0} {r : X} (m n : ℕ) (p q : X) → cond (m == n) p q ≡ r → (m ≡ n → p ≡ r → C) → (q ≡ r → C) → C
choose m n p q e f g =
    ⊎_elim
    (λ (w : ((m == n) ≡ true) × (p ≡ _)). f (eqb-true m n w.0) w.1)
    (λ (w : ((m == n) ≡ false) × (q ≡ _)). g w.1)
    (ways (m == n) p q e)

module _ {A B : Type 0} (f : A → List ℕ) (p : List ℕ → Parsed A) (make : A → B) (bytes : B → List ℕ) (k : ℕ) where
  pub tagged_only : ((x : A) → k ∷ f x ≡ bytes (make x)) → ReadsOnly f p → (tag : ℕ) (v : B) (bs rest : List ℕ) → tag ≡ k → and_then (p bs) (λ x after. read (make x) after) ≡ read v rest → tag ∷ bs ≡ bytes v ++ rest
  tagged_only shape only tag v bs rest t e =
      parted (p bs) _ e (λ x mid h e.
      let same : make x ≡ v = cc in
      let left : mid ≡ rest = cc in
      (λ i. t i ∷ only x bs mid h i) ∙ (λ i. shape x i ++ mid) ∙ (λ i. bytes (same i) ++ left i))

-- ---- a value that keeps the rules

module _ {V : Type 0} (f : V → List ℕ) (p : List ℕ → Parsed V) (rule : V → Bool) where
  pub keeping-back : {P : V → Type 0} → ReadsBack f p P → ReadsBack f (λ bs. keeping rule (p bs)) (λ v. P v × (rule v ≡ true))
  keeping-back back v rest h = then_read _ (back v rest h.0) (cond-true (rule v) (read v rest) (unlawful rest) h.1)

  pub keeping-only : ReadsOnly f p → ReadsOnly f (λ bs. keeping rule (p bs))
  keeping-only only v bs rest e =
      parted (p bs) _ e (λ x mid h e.
      ⊎_elim
      (λ (w : (rule x ≡ true) × (read x mid ≡ read v rest)). only v bs rest (h ∙ w.1))
      (λ (w : (rule x ≡ false) × (unlawful mid ≡ read v rest)). let u : unlawful mid ≡ read v rest = w.1 in let z : ◌≡◌ {A = ℕ} 0 1 = cc in absurd (omega arith))
      (ways (rule x) (read x mid) (unlawful mid) e))
