-- Rows in order by their places: what a search that ends at a place says of lookup, put and without, what one comparison says
-- of the rows before and after, and what std's test of neighbours says. Assumes nothing.
use Rattle.std.proofs.Common.{◌≡◌, ℕ, zero, suc, ◌+◌, ◌<◌, Bool, true, false, cond, List, [], ◌∷◌, length, get_or, set, Some, None, Ok, Err, Ordering, Less, Equal, Greater, sym, refl, ap, ◌∙◌, subst, add-one, ⊎_elim, le_of_suc-le-suc, arith}
use Rattle.std.specs.List.{insert, remove, IsAllAdjacentAnswer}
use Rattle.std.specs.Ordering.{is_lt, ordering_reverse}
use Rattle.std.proofs.lemmas.List.{get_or_read}
use Rattle.std.proofs.lemmas.Bool.{cases_eq, false≢true}
use Rattle.keyed.specs.Order.{Lawful}
use Rattle.keyed.specs.Rows.{between, probe, rising, lookup, put, without, Passed, Ahead, Searched}

-- what is sought stands at the place i, or would stand there
pub data Found {R : Type 0} (p : R → Ordering) : List R → ℕ → Type 0 where
  here : {x : R} {xs : List R} → p x ≡ Equal → Found p (x ∷ xs) zero
  later : {x : R} {xs : List R} {i : ℕ} → p x ≡ Greater → Found p xs i → Found p (x ∷ xs) (suc i)

pub data Missing {R : Type 0} (p : R → Ordering) : List R → ℕ → Type 0 where
  end : Missing p [] zero
  before : {x : R} {xs : List R} → p x ≡ Less → Missing p (x ∷ xs) zero
  after : {x : R} {xs : List R} {i : ℕ} → p x ≡ Greater → Missing p xs i → Missing p (x ∷ xs) (suc i)

module _ {R : Type 0} (p : R → Ordering) where
  pub found : (xs : List R) (i : ℕ) → Searched p xs (Ok i) → Found p xs i
  found [] i s = absurd (omega arith)
  found (x ∷ xs) zero s = here (s.2 x)
  found (x ∷ xs) (suc i) s = later (s.1 0 x (omega arith)) (found xs i (le_of_suc-le-suc s.0, λ j d h. s.1 (suc j) d (omega arith), s.2))

  pub missing : (xs : List R) (i : ℕ) → Searched p xs (Err i) → Missing p xs i
  missing [] zero s = end
  missing [] (suc i) s = absurd (omega arith)
  missing (x ∷ xs) zero s = before (s.2 0 x (omega arith) (omega arith))
  missing (x ∷ xs) (suc i) s =
      after (s.1 0 x (omega arith))
      (missing xs i (le_of_suc-le-suc s.0, λ j d h. s.1 (suc j) d (omega arith), λ j d h k. s.2 (suc j) d (omega arith) (omega arith)))

  lookup-at : {xs : List R} {i : ℕ} (d : R) → Found p xs i → lookup p xs ≡ Some (get_or xs i d)
  lookup-at d (here e) = rw e
  lookup-at d (later e s) = rw e (lookup-at d s)

  pub lookup-found : {xs : List R} {i : ℕ} (x : R) → x ≡ get_or xs i x → Found p xs i → Some x ≡ lookup p xs
  lookup-found x e s = ap Some e ∙ sym (lookup-at x s)

  pub lookup-missing : {xs : List R} {i : ℕ} → Missing p xs i → lookup p xs ≡ None
  lookup-missing end = refl
  lookup-missing (before e) = rw e
  lookup-missing (after e s) = rw e (lookup-missing s)

  pub put-found : (r : R) {xs : List R} {i : ℕ} → Found p xs i → put p r xs ≡ set xs i r
  put-found r (here e) = rw e
  put-found r (later {x = x} e s) = rw e (ap (λ l. x ∷ l) (put-found r s))

  pub put-missing : (r : R) {xs : List R} {i : ℕ} → Missing p xs i → put p r xs ≡ insert xs i r
  put-missing r end = refl
  put-missing r (before e) = rw e
  put-missing r (after {x = x} e s) = rw e (ap (λ l. x ∷ l) (put-missing r s))

  pub without-found : {xs : List R} {i : ℕ} → Found p xs i → without p xs ≡ remove xs i
  without-found (here e) = rw e
  without-found (later {x = x} e s) = rw e (ap (λ l. x ∷ l) (without-found s))

  pub without-missing : {xs : List R} {i : ℕ} → Missing p xs i → without p xs ≡ xs
  without-missing end = refl
  without-missing (before e) = rw e
  without-missing (after {x = x} e s) = rw e (ap (λ l. x ∷ l) (without-missing s))

-- one comparison of neighbours
next-less : (t : Ordering) (b : Bool) → cond (is_lt t) b false ≡ true → (t ≡ Less) × (b ≡ true)
next-less Less b e = (refl, e)
next-less Equal b e = absurd (false≢true e)
next-less Greater b e = absurd (false≢true e)

-- a test of the first neighbours and then of the others, where these fail
neither : (b c : Bool) → false ≡ c → false ≡ cond b c false
neither true c e = e
neither false c e = refl

module _ {R : Type 0} where
  -- what is sought stands before each row
  abbrev pub Above : (R → Ordering) → List R → Type 0
  Above p [] = Unit {0}
  Above p (x ∷ xs) = (p x ≡ Less) × Above p xs

  -- each row is below all that follow
  abbrev pub Rising : (R → R → Ordering) → List R → Type 0
  Rising o [] = Unit {0}
  Rising o (x ∷ xs) = Above (o x) xs × Rising o xs

  -- what a comparison with the row at m says of where to search on
  abbrev pub Tells : (R → Ordering) → List R → ℕ → Ordering → Type 0
  Tells p xs m Less = Ahead p xs m
  Tells p xs m Equal = Searched p xs (Ok m)
  Tells p xs m Greater = Passed p xs (m + 1)

module _ {R : Type 0} (o : R → R → Ordering) where
  pub rising_tested : (xs : List R) → Rising o xs → rising o xs ≡ true
  rising_tested [] h = refl
  rising_tested (x ∷ []) h = refl
  rising_tested (x ∷ y ∷ xs) h = rw h.0.0 (rising_tested (y ∷ xs) h.1)

  above_at : (p : R → Ordering) (xs : List R) (j : ℕ) (d : R) → Above p xs → j < length xs → p (get_or xs j d) ≡ Less
  above_at p [] j d h l = absurd (omega arith)
  above_at p (x ∷ xs) zero d h l = h.0
  above_at p (x ∷ xs) (suc j) d h l = above_at p xs j d h.1 (le_of_suc-le-suc l)

  places_rise : (xs : List R) (i j : ℕ) (d : R) → Rising o xs → i < j → j < length xs → o (get_or xs i d) (get_or xs j d) ≡ Less
  places_rise [] i j d h k l = absurd (omega arith)
  places_rise (x ∷ xs) i zero d h k l = absurd (omega arith)
  places_rise (x ∷ xs) zero (suc j) d h k l = above_at (o x) xs j d h.0 (le_of_suc-le-suc l)
  places_rise (x ∷ xs) (suc i) (suc j) d h k l = places_rise xs i j d h.1 (le_of_suc-le-suc k) (le_of_suc-le-suc l)

  -- what a test of all neighbours answers
  all_next : (xs : List R) → ((k : ℕ) (d : R) → suc k < length xs → true ≡ is_lt (o (get_or xs k d) (get_or xs (suc k) d))) → true ≡ rising o xs
  all_next [] h = refl
  all_next (x ∷ []) h = refl
  all_next (x ∷ y ∷ xs) h = rw (sym (h 0 x (omega arith))) (all_next (y ∷ xs) (λ k d l. h (suc k) d (omega arith)))

  not_next : (xs : List R) (k : ℕ) → suc k < length xs → ((d : R) → false ≡ is_lt (o (get_or xs k d) (get_or xs (suc k) d))) → false ≡ rising o xs
  not_next [] k l h = absurd (omega arith)
  not_next (x ∷ []) k l h = absurd (omega arith)
  not_next (x ∷ y ∷ xs) zero l h = rw (sym (h x)) refl
  not_next (x ∷ y ∷ xs) (suc k) l h = neither (is_lt (o x y)) (rising o (y ∷ xs)) (not_next (y ∷ xs) k (le_of_suc-le-suc l) h)

  pub rising_answer : (xs : List R) (r : Bool) → IsAllAdjacentAnswer (λ x y b. b ≡ is_lt (o x y)) xs r → r ≡ rising o xs
  rising_answer xs true h = all_next xs (λ k d l. rw (← add-one k) (h k d (omega arith)))
  rising_answer xs false h = not_next xs h.0 (omega (arith, h.1)) (λ d. rw (← add-one h.0) (h.2 d))

module _ {R K : Type 0} (ord : K → K → Ordering) (key : R → K) where
  -- what a comparison of a key with that of the row at m says of the row, at any default
  told : (q k : K) (xs : List R) (m : ℕ) (x : R) (t : Ordering) → k ≡ key x → x ≡ get_or xs m x → m < length xs → t ≡ ord q k → (d : R) → probe ord key q (get_or xs m d) ≡ t
  told q k xs m x t of-x at-m l says d = sym (says ∙ ap (λ y. ord q y) (of-x ∙ ap key (get_or_read xs m x l at-m d)))

module _ {R K : Type 0} (ord : K → K → Ordering) (key : R → K) (laws : Lawful ord) where
  pub Above_weaker : (p q : K) (xs : List R) → ord p q ≡ Less → Above (probe ord key q) xs → Above (probe ord key p) xs
  Above_weaker p q [] e h = tt
  Above_weaker p q (x ∷ xs) e h = (laws.trans p q (key x) e h.0, Above_weaker p q xs e h.1)

  pub rising_all : (xs : List R) → rising (between ord key) xs ≡ true → Rising (between ord key) xs
  rising_all [] e = tt
  rising_all (x ∷ []) e = (tt, tt)
  rising_all (x ∷ y ∷ xs) e =
      let n = next-less (ord (key x) (key y)) (rising (between ord key) (y ∷ xs)) e in
      let h = rising_all (y ∷ xs) n.1 in
      ((n.0, Above_weaker (key x) (key y) xs n.0 h.0), h)

  module _ (xs : List R) (up : rising (between ord key) xs ≡ true) where
    pub rising-at : (i j : ℕ) (d : R) → i < j → j < length xs → between ord key (get_or xs i d) (get_or xs j d) ≡ Less
    rising-at i j d = places_rise (between ord key) xs i j d (rising_all xs up)

    turned : (x y : K) (t : Ordering) → ord y x ≡ t → ord x y ≡ ordering_reverse t
    turned x y t e = laws.flip x y ∙ ap ordering_reverse e

    tells : (q : K) (m : ℕ) (t : Ordering) → m < length xs → ((d : R) → probe ord key q (get_or xs m d) ≡ t) → Tells (probe ord key q) xs m t
    tells q m Less l e = λ j d h k.
        ⊎_elim
        (λ (p : j ≡ m). ap (λ n. ord q (key (get_or xs n d))) p ∙ e d)
        (λ (p : j ≡ m → ⊥). laws.trans _ _ _ (e d) (rising-at m j d (omega arith) k))
        (cases_eq j m)
    tells q m Equal l e =
        (l, λ j d h. turned q (key (get_or xs j d)) Less (subst (λ (k : K). ord (key (get_or xs j d)) k ≡ Less) (sym (laws.same q (key (get_or xs m d)) (e d))) (rising-at j m d h l)), e)
    tells q m Greater l e = λ j d h.
        ⊎_elim
        (λ (p : j ≡ m). ap (λ n. ord q (key (get_or xs n d))) p ∙ e d)
        (λ (p : j ≡ m → ⊥). turned q (key (get_or xs j d)) Less (laws.trans _ _ _ (rising-at j m d (omega arith) l) (turned (key (get_or xs m d)) q Greater (e d))))
        (cases_eq j m)

    -- what the comparison of q with k, the key of the row x at m, says
    pub compared : (q k : K) (m : ℕ) (x : R) (t : Ordering) → k ≡ key x → x ≡ get_or xs m x → m < length xs → t ≡ ord q k → Tells (probe ord key q) xs m t
    compared q k m x t of-x at-m l says = tells q m t l (told ord key q k xs m x t of-x at-m l says)
