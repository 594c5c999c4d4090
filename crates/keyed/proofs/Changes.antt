-- What put and without leave rises, and what a search and one edit of a table come to. Assumes nothing.
use Rattle.std.proofs.Common.{◌≡◌, ℕ, true, false, List, [], ◌∷◌, length, get_or, Some, None, Ok, Err, Option, Result, is_ok, Ordering, Less, Equal, Greater, sym, refl, ap, ◌∙◌, subst, ⊎_elim, arith}
use Rattle.std.specs.Result.{IsErr}
use Rattle.std.specs.Ordering.{ordering_reverse}
use Rattle.std.proofs.lemmas.Bool.{cases_lt, false≢true, true≢false}
use Rattle.keyed.specs.Order.{Lawful}
use Rattle.keyed.specs.Rows.{between, probe, by, rising, lookup, put, without, Searched, Put, Removed}
use Rattle.bounded.specs.Rows as rows
use Rattle.bounded.specs.Rows.{Replaced, Inserted}
use Rattle.keyed.proofs.Places.{Missing, Above, Rising, rising_tested, rising_all, Above_weaker, found, missing, lookup-found, lookup-missing, put-found, put-missing, without-found, without-missing}

module _ {R : Type 0} (q : R → Ordering) where
  Above-by : (p : R → Ordering) (r x : R) (xs : List R) (t : Ordering) → q r ≡ Less → Above q (x ∷ xs) → Above q (put p r xs) → Above q (by t (r ∷ x ∷ xs) (r ∷ xs) (x ∷ put p r xs))
  Above-by p r x xs Less e h k = (e, h)
  Above-by p r x xs Equal e h k = (e, h.1)
  Above-by p r x xs Greater e h k = (h.0, k)

  Above-put : (p : R → Ordering) (r : R) (xs : List R) → q r ≡ Less → Above q xs → Above q (put p r xs)
  Above-put p r [] e h = (e, tt)
  Above-put p r (x ∷ xs) e h = Above-by p r x xs (p x) e h (Above-put p r xs e h.1)

  Above_cut : (p : R → Ordering) (x : R) (xs : List R) (t : Ordering) → Above q (x ∷ xs) → Above q (without p xs) → Above q (by t (x ∷ xs) xs (x ∷ without p xs))
  Above_cut p x xs Less h k = h
  Above_cut p x xs Equal h k = h.1
  Above_cut p x xs Greater h k = (h.0, k)

  Above-without : (p : R → Ordering) (xs : List R) → Above q xs → Above q (without p xs)
  Above-without p [] h = tt
  Above-without p (x ∷ xs) h = Above_cut p x xs (p x) h (Above-without p xs h.1)

module _ {R : Type 0} (o : R → R → Ordering) (p : R → Ordering) where
  rises_cut : (x : R) (xs : List R) (t : Ordering) → Rising o (x ∷ xs) → Rising o (without p xs) → Rising o (by t (x ∷ xs) xs (x ∷ without p xs))
  rises_cut x xs Less h k = h
  rises_cut x xs Equal h k = h.1
  rises_cut x xs Greater h k = (Above-without (o x) p xs h.0, k)

  rises-without : (xs : List R) → Rising o xs → Rising o (without p xs)
  rises-without [] h = tt
  rises-without (x ∷ xs) h = rises_cut x xs (p x) h (rises-without xs h.1)

module _ {R K : Type 0} (ord : K → K → Ordering) (key : R → K) (laws : Lawful ord) where
  rises_by : (r x : R) (xs : List R) (t : Ordering) → ord (key r) (key x) ≡ t → Rising (between ord key) (x ∷ xs) → Rising (between ord key) (put (between ord key r) r xs) → Rising (between ord key) (by t (r ∷ x ∷ xs) (r ∷ xs) (x ∷ put (between ord key r) r xs))
  rises_by r x xs Less e h k = ((e, Above_weaker ord key laws (key r) (key x) xs e h.0), h)
  rises_by r x xs Equal e h k = (subst (λ (q : K). Above (probe ord key q) xs) (sym (laws.same (key r) (key x) e)) h.0, h.1)
  rises_by r x xs Greater e h k = (Above-put (between ord key x) (between ord key r) r xs (laws.flip (key x) (key r) ∙ ap ordering_reverse e) h.0, k)

  rises-put : (r : R) (xs : List R) → Rising (between ord key) xs → Rising (between ord key) (put (between ord key r) r xs)
  rises-put r [] h = (tt, tt)
  rises-put r (x ∷ xs) h = rises_by r x xs (ord (key r) (key x)) refl h (rises-put r xs h.1)

  pub put-rising : (r : R) (xs : List R) → rising (between ord key) xs ≡ true → rising (between ord key) (put (between ord key r) r xs) ≡ true
  put-rising r xs up = rising_tested (between ord key) (put (between ord key r) r xs) (rises-put r xs (rising_all ord key laws xs up))

  pub without-rising : (p : R → Ordering) (xs : List R) → rising (between ord key) xs ≡ true → rising (between ord key) (without p xs) ≡ true
  without-rising p xs up = rising_tested (between ord key) (without p xs) (rises-without (between ord key) p xs (rising_all ord key laws xs up))

  -- where a search for the key of r ended, in rows that were lent
  pub sought : (xs ys : List R) (q : K) (r : R) (t : Result ℕ ℕ) → ys ≡ xs → q ≡ key r → rising (between ord key) xs ≡ true → (rising (between ord key) ys ≡ true → Searched (probe ord key q) ys t) → Searched (between ord key r) xs t
  sought xs ys q r t same mine up s = subst (λ (p : K). Searched (probe ord key p) xs t) mine (subst (λ (l : List R). rising (between ord key) l ≡ true → Searched (probe ord key q) l t) same s up)

  -- ---- an edit of rising rows xs, at the place where a search ended

  module _ (xs : List R) (up : rising (between ord key) xs ≡ true) where
    pub former : (p : R → Ordering) (i : ℕ) → Searched p xs (Ok i) → (x : R) → x ≡ get_or xs i x → Some x ≡ lookup p xs
    former p i s x h = lookup-found p x h (found p xs i s)

    module _ (r : R) (i n : ℕ) (after : List R) where
      still-rising : after ≡ put (between ord key r) r xs → rising (between ord key) after ≡ true
      still-rising e = ap (rising (between ord key)) e ∙ put-rising r xs up

      pub set_found : (E : Type 0) (t : Option R) → Searched (between ord key r) xs (Ok i) → Replaced i r xs after t → Put {E = E} (between ord key) r n xs after (Ok t)
      set_found E None s w = absurd (omega (arith, s.0, w.0))
      set_found E (Some x) s w =
          let made = w.2 ∙ sym (put-found (between ord key r) r (found (between ord key r) xs i s)) in
          (former (between ord key r) i s x w.1, made, still-rising made)

      module _ (s : Searched (between ord key r) xs (Err i)) (E : Type 0) where
        at : Missing (between ord key r) xs i
        at = missing (between ord key r) xs i s

        pub set_new : (t : Result Unit R) → is_ok t ≡ true → Inserted n i r xs after t → Put {E = E} (between ord key) r n xs after (Ok None)
        set_new (Ok u) h w =
            let made = w.2 ∙ sym (put-missing (between ord key r) r at) in
            (sym (lookup-missing (between ord key r) at), made, still-rising made)
        set_new (Err y) h w = absurd (false≢true h)

        pub set_full : (u : Result (Option R) E) (t : Result Unit R) → IsErr u → is_ok t ≡ false → Inserted n i r xs after t → Put (between ord key) r n xs after u
        set_full (Ok x) t k h w = absurd (false≢true k)
        set_full (Err e) (Ok u) k h w = absurd (true≢false h)
        set_full (Err e) (Err y) k h w = (lookup-missing (between ord key r) at, ⊎_elim (λ l. absurd (w.0 l s.0)) (λ l. l) (cases_lt (length xs) n), w.2)

    module _ (q : K) (i : ℕ) where
      pub cut_found : (after : List R) (t : Option R) → Searched (probe ord key q) xs (Ok i) → rows.Removed i xs after t → Removed (between ord key) (probe ord key q) xs after t
      cut_found after None s w = absurd (omega (arith, s.0, w.0))
      cut_found after (Some x) s w =
          let made : after ≡ without (probe ord key q) xs = w.2 ∙ sym (without-found (probe ord key q) (found (probe ord key q) xs i s)) in
          (former (probe ord key q) i s x w.1, made, ap (rising (between ord key)) made ∙ without-rising (probe ord key q) xs up)

      pub cut_none : Searched (probe ord key q) xs (Err i) → Removed (between ord key) (probe ord key q) xs xs None
      cut_none s =
          let at = missing (probe ord key q) xs i s in
          (sym (lookup-missing (probe ord key q) at), sym (without-missing (probe ord key q) at), up)
