-- Rows and what they mean: lookup, put, without and rising of the rows are those of their meanings; and what lookup finds is
-- what was sought. Assumes nothing.
use Rattle.std.proofs.Common.{◌≡◌, false, cond, List, [], ◌∷◌, map, is_some, Some, None, Option, Ordering, Less, Equal, Greater, sym, refl, ap}
use Rattle.std.specs.Option.{option_map}
use Rattle.std.specs.Ordering.{is_lt}
use Rattle.std.proofs.lemmas.Bool.{false≢true}
use Rattle.keyed.specs.Order.{Lawful}
use Rattle.keyed.specs.Rows.{probe, by, rising, lookup, put, without}

module _ {R S : Type 0} (f : R → S) where
  map-by : (t : Ordering) (a b c : List R) → map f (by t a b c) ≡ by t (map f a) (map f b) (map f c)
  map-by Less a b c = refl
  map-by Equal a b c = refl
  map-by Greater a b c = refl

  mapped_by : (t : Ordering) (a b c : Option R) → option_map f (by t a b c) ≡ by t (option_map f a) (option_map f b) (option_map f c)
  mapped_by Less a b c = refl
  mapped_by Equal a b c = refl
  mapped_by Greater a b c = refl

  module _ (p : S → Ordering) where
    pub mapped_lookup : (xs : List R) → option_map f (lookup (λ x. p (f x)) xs) ≡ lookup p (map f xs)
    mapped_lookup [] = refl
    mapped_lookup (x ∷ xs) = rw (mapped_by, mapped_lookup xs)

    pub map-put : (r : R) (xs : List R) → map f (put (λ x. p (f x)) r xs) ≡ put p (f r) (map f xs)
    map-put r [] = refl
    map-put r (x ∷ xs) = rw (map-by, map-put r xs)

    pub map-without : (xs : List R) → map f (without (λ x. p (f x)) xs) ≡ without p (map f xs)
    map-without [] = refl
    map-without (x ∷ xs) = rw (map-by, map-without xs)

  pub map-rising : (o : S → S → Ordering) (xs : List R) → rising (λ x y. o (f x) (f y)) xs ≡ rising o (map f xs)
  map-rising o [] = refl
  map-rising o (x ∷ []) = refl
  map-rising o (x ∷ y ∷ xs) = ap (λ b. cond (is_lt (o (f x) (f y))) b false) (map-rising o (y ∷ xs))

module _ {R : Type 0} (p : R → Ordering) where
  found-by : (x y : R) (t : Ordering) (rest : Option R) → p y ≡ t → (rest ≡ Some x → p x ≡ Equal) → by t None (Some y) rest ≡ Some x → p x ≡ Equal
  found-by x y Less rest e more h = absurd (false≢true (ap is_some h))
  found-by x y Equal rest e more h = cc
  found-by x y Greater rest e more h = more h

  -- what lookup finds is what was sought
  pub lookup_equal : (xs : List R) (x : R) → lookup p xs ≡ Some x → p x ≡ Equal
  lookup_equal [] x h = absurd (false≢true (ap is_some h))
  lookup_equal (y ∷ ys) x h = found-by x y (p y) (lookup p ys) refl (lookup_equal ys x) h

-- and has the key
pub lookup_key : {R K : Type 0} (ord : K → K → Ordering) (key : R → K) → Lawful ord → (q : K) (xs : List R) (x : R) → lookup (probe ord key q) xs ≡ Some x → key x ≡ q
lookup_key ord key laws q xs x h = sym (laws.same q (key x) (lookup_equal (probe ord key q) xs x h))
