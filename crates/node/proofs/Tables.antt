-- What an edit of a table of rows comes to, as the lists that the rows mean. Assumes nothing.
use Rattle.std.proofs.Common.{◌≡◌, ℕ, suc, ◌≤◌, Bool, true, false, cond, ltb, List, [], ◌∷◌, map, length, is_some, Some, None, Ok, Err, Option, Result, is_ok, Ordering, Less, Equal, Greater, sym, refl, ap, ◌∙◌, subst, arith}
use Rattle.std.specs.Option.{option_map}
use Rattle.std.proofs.lemmas.List.{length-map, length-take-le}
use Rattle.std.proofs.lemmas.Bool.{lt-ltb, le-ltb, true≢false}
use Rattle.bounded.specs.Rows.{rows_of}
use Rattle.bounded.specs.declared.table.Table.{Table}
use Rattle.keyed.specs.Rows.{by, rising, lookup, put, without, Put, Removed}
use Rattle.keyed.proofs.Places.{Found, here, later}
use Rattle.keyed.proofs.Meanings.{mapped_lookup, map-put, map-without, map-rising}
use Rattle.node.specs.Nodes.{Str, Row, by_key, sought, ordered}
use Rattle.node.specs.Links.{Changed, room_for, set_root, page_of, root_for}
use Rattle.node.specs.Meanings.{IndexRow, index_row, roots_of}
use Rattle.node.specs.Outcomes.{meta_of}
use Rattle.node.specs.declared.meta.Meta.{Meta}
use Rattle.fault.specs.declared.node_fault.NodeFault.TheVariants.{TooManyRoots}
use Rattle.keyed.specs.declared.edits.TableFull.{TableFull}
use Rattle.bounded.specs.Bytes.{bytes_of}

-- ---- how many rows a put leaves

module _ {R : Type 0} (p : R → Ordering) (r : R) where
  put-by : (x : R) (xs : List R) (t : Ordering) → length (put p r xs) ≡ cond (is_some (lookup p xs)) (length xs) (suc (length xs)) → length (by t (r ∷ x ∷ xs) (r ∷ xs) (x ∷ put p r xs)) ≡ cond (is_some (by t None (Some x) (lookup p xs))) (suc (length xs)) (suc (suc (length xs)))
  put-by x xs Less e = refl
  put-by x xs Equal e = refl
  put-by x xs Greater e = ap suc e ∙ lifted (is_some (lookup p xs)) where
    lifted : (b : Bool) → suc (cond b (length xs) (suc (length xs))) ≡ cond b (suc (length xs)) (suc (suc (length xs)))
    lifted true = refl
    lifted false = refl

  pub length-put : (xs : List R) → length (put p r xs) ≡ cond (is_some (lookup p xs)) (length xs) (suc (length xs))
  length-put [] = refl
  length-put (x ∷ xs) = put-by x xs (p x) (length-put xs)

-- where the row has been put, there was room
pub had_room : {V : Type 0} (n : ℕ) (k : Str) (r : Row V) (rows : List (Row V)) → length (put (sought k) r rows) ≤ n → room_for n k rows ≡ true
had_room n k r rows h = at (is_some (lookup (sought k) rows)) (subst (λ (m : ℕ). m ≤ n) (length-put (sought k) r rows) h) where
  at : (b : Bool) → cond b (length rows) (suc (length rows)) ≤ n → cond b true (ltb (length rows) n) ≡ true
  at true l = refl
  at false l = lt-ltb (length rows) n l

-- a new key in a full table has none
pub no_room : {V : Type 0} (n : ℕ) (k : Str) (rows : List (Row V)) → lookup (sought k) rows ≡ None → n ≤ length rows → room_for n k rows ≡ false
no_room n k rows e h = ap (λ o. cond (is_some o) true (ltb (length rows) n)) e ∙ le-ltb (length rows) n h

-- what is found is there
pub found_some : {R : Type 0} (p : R → Ordering) {xs : List R} {i : ℕ} → Found p xs i → is_some (lookup p xs) ≡ true
found_some p (here e) = rw e
found_some p (later e s) = rw e (found_some p s)

pub some_mapped : {R S : Type 0} (f : R → S) (o : Option R) → is_some o ≡ true → is_some (option_map f o) ≡ true
some_mapped f None e = e
some_mapped f (Some x) e = refl

pub mapped_some : {R S : Type 0} (f : R → S) (o : Option R) → is_some (option_map f o) ≡ is_some o
mapped_some f None = refl
mapped_some f (Some x) = refl

-- ---- rows of any kind that means rows by keys

module _ {R V : Type 0} (f : R → Row V) where
  -- how two rows stand to each other
  abbrev pub row_order : R → R → Ordering
  row_order x y = by_key (f x) (f y)

  pub rises : (xs : List R) → ordered (map f xs) ≡ true → rising row_order xs ≡ true
  rises xs up = map-rising f by_key xs ∙ up

  module _ (E : Type 0) (n : ℕ) (r : R) (before after : List R) (up : ordered (map f before) ≡ true) where
    pub put_done : (former : Option R) → (rising row_order before ≡ true → Put {E = E} row_order r n before after (Ok former)) → length after ≤ n → (room_for n (f r).0 (map f before) ≡ true) × (map f after ≡ put (sought (f r).0) (f r) (map f before)) × (ordered (map f after) ≡ true) × (option_map f former ≡ lookup (sought (f r).0) (map f before))
    put_done former done few =
        let h = done (rises before up) in
        let e : map f after ≡ put (sought (f r).0) (f r) (map f before) = ap (map f) h.1 ∙ map-put f (sought (f r).0) r before in
        let l : length (put (sought (f r).0) (f r) (map f before)) ≤ n = subst (λ (m : ℕ). m ≤ n) (sym (length-map after f) ∙ ap length e) few in
        (had_room n (f r).0 (f r) (map f before) l, e, sym (map-rising f by_key after) ∙ h.2, ap (option_map f) h.0 ∙ mapped_lookup f (sought (f r).0) before)

    pub put_refused : (x : E) → (rising row_order before ≡ true → Put {E = E} row_order r n before after (Err x)) → room_for n (f r).0 (map f before) ≡ false
    put_refused x done =
        let h = done (rises before up) in
        no_room n (f r).0 (map f before) (sym (mapped_lookup f (sought (f r).0) before) ∙ ap (option_map f) h.0) (subst (λ (m : ℕ). n ≤ m) (sym (length-map before f)) h.1)

  pub cut_done : (k : Str) (before after : List R) (former : Option R) → ordered (map f before) ≡ true → (rising row_order before ≡ true → Removed row_order (λ x. sought k (f x)) before after former) → (map f after ≡ without (sought k) (map f before)) × (ordered (map f after) ≡ true) × (option_map f former ≡ lookup (sought k) (map f before))
  cut_done k before after former up done =
      let h = done (rises before up) in
      (ap (map f) h.1 ∙ map-without f (sought k) before, sym (map-rising f by_key after) ∙ h.2, ap (option_map f) h.0 ∙ mapped_lookup f (sought k) before)

  -- what a look-up in the same rows finds
  pub looked_up : (k : Str) (xs ys : List R) (o : Option R) → ys ≡ xs → ordered (map f xs) ≡ true → (rising row_order ys ≡ true → o ≡ lookup (λ x. sought k (f x)) ys) → option_map f o ≡ lookup (sought k) (map f xs)
  looked_up k xs ys o same up finds =
      let h = subst (λ (l : List R). rising row_order l ≡ true → o ≡ lookup (λ x. sought k (f x)) l) same finds (rises xs up) in
      ap (option_map f) h ∙ mapped_lookup f (sought k) xs

-- the rows of a table of n places are at most n
pub few-rows : {R : Type 0} {n : ℕ} (t : Table R n) → length (rows_of t) ≤ n
few-rows t = let few = t.few in let room = t.room in let l = length-take-le t.len t.rows (omega arith) in omega arith

-- ---- roots

-- the page of a root that was found
pub page-is : (o : Option IndexRow) (p : Option ℕ) → p ≡ option_map (λ r. r.value) o → p ≡ page_of (option_map index_row o)
page-is None p e = e
page-is (Some r) p e = e

module _ (r : IndexRow) (m : Meta) (t : Table IndexRow 8) where
  wanted : Bool → Changed (List (Row ℕ))
  wanted b = cond b (Ok (put (sought (bytes_of r.key)) (index_row r) (meta_of m))) (Err TooManyRoots)

  -- what putting the root leaves and answers
  abbrev pub Puts : Result (Option IndexRow) TableFull → Type 0
  Puts u = rising (row_order index_row) (rows_of m.roots) ≡ true → Put {E = TableFull} (row_order index_row) r 8 (rows_of m.roots) (rows_of t) u

  pub root_ordered : (u : Result (Option IndexRow) TableFull) → Puts u → ordered (roots_of (rows_of t)) ≡ true
  root_ordered (Ok former) done = (put_done index_row TableFull 8 r (rows_of m.roots) (rows_of t) m.ruled former done (few-rows t)).2
  root_ordered (Err x) done = ap ordered (ap roots_of (done (rises index_row (rows_of m.roots) m.ruled)).2) ∙ m.ruled

  pub root_ok : (u : Result (Option IndexRow) TableFull) (former : Option IndexRow) (p : Option ℕ) → u ≡ Ok former → p ≡ option_map (λ r. r.value) former → Puts u → (set_root (bytes_of r.key) r.value (meta_of m) ≡ Ok (roots_of (rows_of t))) × (p ≡ root_for (bytes_of r.key) (meta_of m))
  unfolding wanted
  root_ok u former p is value done =
      let h = put_done index_row TableFull 8 r (rows_of m.roots) (rows_of t) m.ruled former (subst Puts is done) (few-rows t) in
      (ap wanted h.0 ∙ ap Ok (sym h.1), page-is former p value ∙ ap page_of h.3)

  pub root_err : (u : Result (Option IndexRow) TableFull) → is_ok u ≡ false → Puts u → (set_root (bytes_of r.key) r.value (meta_of m) ≡ Err TooManyRoots) × (roots_of (rows_of t) ≡ meta_of m)
  unfolding wanted
  root_err (Ok former) h done = absurd (true≢false h)
  root_err (Err x) h done = (ap wanted (put_refused index_row TableFull 8 r (rows_of m.roots) (rows_of t) m.ruled x done), ap roots_of (done (rises index_row (rows_of m.roots) m.ruled)).2)
