-- The rows of a node after one edit of its table, call by call. Assumes nothing.
use Rattle.std.proofs.Common.{◌≡◌, ℕ, ◌^◌, ◌<◌, Bool, true, false, cond, ltb, List, map, length, is_some, Some, None, Ok, Err, Option, Result, is_ok, Ordering, sym, refl, ap, ◌∙◌, subst, arith}
use Rattle.std.specs.Option.{option_map}
use Rattle.std.proofs.lemmas.Bool.{false≢true, true≢false}
use Rattle.fault.specs.declared.node_fault.NodeFault.TheVariants.{Full, NoPointer}
use Rattle.bounded.specs.Rows as table
use Rattle.bounded.specs.Rows.{rows_of}
use Rattle.bounded.specs.declared.ivec.IVec.{IVec}
use Rattle.bounded.specs.declared.table.Table.{Table}
use Rattle.bounded.specs.Bytes.{bytes_of, by_bytes}
use Rattle.keyed.specs.Order.{bytes-lawful}
use Rattle.keyed.specs.Rows.{rising, lookup, put, without, Searched, Put, Removed}
use Rattle.keyed.specs.declared.edits.TableFull.{TableFull}
use Rattle.keyed.proofs.Places.{found, missing, lookup-missing, without-found}
use Rattle.keyed.proofs.Changes.{without-rising}
use Rattle.keyed.proofs.Meanings.{mapped_lookup, map-without, map-rising}
use Rattle.node.specs.declared.data.Data.{Data}
use Rattle.node.specs.declared.data.Data.TheVariants.{Index, Leaf}
use Rattle.node.specs.Nodes.{Rows, index, leaf, by_key, sought, ordered, ordered_rows}
use Rattle.node.specs.Links.{Changed, room_for, set_rows, del_rows, pointing, confirm_rows, split_rows}
use Rattle.node.specs.Meanings.{LeafRow, IndexRow, leaf_row, index_row, data_of, Pointed}
use Rattle.node.proofs.Tables.{row_order, rises, put_done, put_refused, cut_done, looked_up, few-rows, found_some, some_mapped, mapped_some}

module _ (d : Data) (t t' : Table LeafRow 16) (is : d ≡ Leaf t) (up : ordered_rows (data_of d) ≡ true) where
  leaf_up : ordered (map leaf_row (rows_of t)) ≡ true
  leaf_up = subst (λ (x : Data). ordered_rows (data_of x) ≡ true) is up

  module _ (r : LeafRow) where
    set_done : (former : Option LeafRow) → (rising (row_order leaf_row) (rows_of t) ≡ true → Put {E = TableFull} (row_order leaf_row) r 16 (rows_of t) (rows_of t') (Ok former)) → (set_rows (bytes_of r.key) (bytes_of r.value) (data_of d) ≡ Ok (data_of (Leaf t'))) × (ordered (map leaf_row (rows_of t')) ≡ true)
    set_done former done =
        let h = put_done leaf_row TableFull 16 r (rows_of t) (rows_of t') leaf_up former done (few-rows t') in
        (ap (λ x. set_rows (bytes_of r.key) (bytes_of r.value) (data_of x)) is ∙ ap (λ b. cond b (Ok (leaf (put (sought (bytes_of r.key)) (leaf_row r) (map leaf_row (rows_of t))))) (Err Full)) h.0 ∙ ap (λ l. Ok (leaf l)) (sym h.1), h.2)

    set_refused : (x : TableFull) → (rising (row_order leaf_row) (rows_of t) ≡ true → Put {E = TableFull} (row_order leaf_row) r 16 (rows_of t) (rows_of t') (Err x)) → set_rows (bytes_of r.key) (bytes_of r.value) (data_of d) ≡ Err Full
    set_refused x done =
        let h = put_refused leaf_row TableFull 16 r (rows_of t) (rows_of t') leaf_up x done in
        ap (λ x. set_rows (bytes_of r.key) (bytes_of r.value) (data_of x)) is ∙ ap (λ b. cond b (Ok (leaf (put (sought (bytes_of r.key)) (leaf_row r) (map leaf_row (rows_of t))))) (Err Full)) h

    pub set_ok : (u : Result (Option LeafRow) TableFull) → is_ok u ≡ true → (rising (row_order leaf_row) (rows_of t) ≡ true → Put {E = TableFull} (row_order leaf_row) r 16 (rows_of t) (rows_of t') u) → (set_rows (bytes_of r.key) (bytes_of r.value) (data_of d) ≡ Ok (data_of (Leaf t'))) × (ordered (map leaf_row (rows_of t')) ≡ true)
    set_ok (Ok former) h done = set_done former done
    set_ok (Err x) h done = absurd (false≢true h)

    pub set_err : (u : Result (Option LeafRow) TableFull) → is_ok u ≡ false → (rising (row_order leaf_row) (rows_of t) ≡ true → Put {E = TableFull} (row_order leaf_row) r 16 (rows_of t) (rows_of t') u) → (set_rows (bytes_of r.key) (bytes_of r.value) (data_of d) ≡ Err Full) × (data_of (Leaf t') ≡ data_of d) × (ordered (map leaf_row (rows_of t')) ≡ true)
    set_err (Ok former) h done = absurd (true≢false h)
    set_err (Err x) h done =
        let same = (done (rises leaf_row (rows_of t) leaf_up)).2 in
        (set_refused x done, ap (λ l. leaf (map leaf_row l)) same ∙ ap data_of (sym is), ap (λ l. ordered (map leaf_row l)) same ∙ leaf_up)

  pub del_done : (k : IVec 24) (former : Option LeafRow) → (rising (row_order leaf_row) (rows_of t) ≡ true → Removed (row_order leaf_row) (λ x. sought (bytes_of k) (leaf_row x)) (rows_of t) (rows_of t') former) → (del_rows (bytes_of k) (data_of d) ≡ Ok (data_of (Leaf t'))) × (ordered (map leaf_row (rows_of t')) ≡ true)
  del_done k former done =
      let h = cut_done leaf_row (bytes_of k) (rows_of t) (rows_of t') former leaf_up done in
      (ap (λ x. del_rows (bytes_of k) (data_of x)) is ∙ ap (λ l. Ok (leaf l)) (sym h.0), h.1)

module _ (d : Data) (t : Table IndexRow 16) (is : d ≡ Index t) where
  module _ (up : ordered_rows (data_of d) ≡ true) (k : IVec 24) (to : ℕ) (rows : List IndexRow) (same : rows ≡ rows_of t) where
    index_up : ordered (map index_row (rows_of t)) ≡ true
    index_up = subst (λ (x : Data). ordered_rows (data_of x) ≡ true) is up

    -- what was found for the separator
    looked : (o : Option IndexRow) → (rising (row_order index_row) rows ≡ true → o ≡ lookup (λ x. sought (bytes_of k) (index_row x)) rows) → lookup (sought (bytes_of k)) (map index_row (rows_of t)) ≡ option_map index_row o
    looked o finds = sym (looked_up index_row (bytes_of k) (rows_of t) rows o same index_up finds)

    splits : Bool → Bool → Changed (Bool × Rows)
    splits there room = cond there (Ok (false, index (map index_row (rows_of t)))) (cond room (Ok (true, index (put (sought (bytes_of k)) (bytes_of k, to) (map index_row (rows_of t))))) (Err Full))

    split_by : (there room : Bool) → is_some (lookup (sought (bytes_of k)) (map index_row (rows_of t))) ≡ there → ltb (length (map index_row (rows_of t))) 16 ≡ room → split_rows (bytes_of k) to (data_of d) ≡ splits there room
    unfolding splits
    split_by there room e r = ap (λ x. split_rows (bytes_of k) to (data_of x)) is ∙ (λ i. cond (e i) (Ok (false, index (map index_row (rows_of t)))) (cond (r i) (Ok (true, index (put (sought (bytes_of k)) (bytes_of k, to) (map index_row (rows_of t))))) (Err Full)))

    -- the separator was there
    pub split_there : (o : Option IndexRow) → is_some o ≡ true → (rising (row_order index_row) rows ≡ true → o ≡ lookup (λ y. sought (bytes_of k) (index_row y)) rows) → split_rows (bytes_of k) to (data_of d) ≡ Ok (false, data_of d)
    unfolding splits
    split_there o some finds = split_by true (ltb (length (map index_row (rows_of t))) 16) (ap is_some (looked o finds) ∙ mapped_some index_row o ∙ some) refl ∙ ap (λ y. Ok (false, data_of y)) (sym is)

    module _ (t' : Table IndexRow 16) (fits : to < 2 ^ 64) (o : Option IndexRow) (none : is_some o ≡ false) (finds : rising (row_order index_row) rows ≡ true → o ≡ lookup (λ y. sought (bytes_of k) (index_row y)) rows) where
      abbrev row : IndexRow
      row = record { key = k; value = to; fits = fits }

      absent : is_some (lookup (sought (bytes_of k)) (map index_row (rows_of t))) ≡ false
      absent = ap is_some (looked o finds) ∙ mapped_some index_row o ∙ none

      -- with no such row, there is room only by the count
      room-is : (b : Bool) → room_for 16 (bytes_of k) (map index_row (rows_of t)) ≡ b → ltb (length (map index_row (rows_of t))) 16 ≡ b
      room-is b e = sym (ap (λ x. cond x true (ltb (length (map index_row (rows_of t))) 16)) absent) ∙ e

      split_done : (former : Option IndexRow) → (rising (row_order index_row) (rows_of t) ≡ true → Put {E = TableFull} (row_order index_row) row 16 (rows_of t) (rows_of t') (Ok former)) → (split_rows (bytes_of k) to (data_of d) ≡ Ok (true, data_of (Index t'))) × (ordered (map index_row (rows_of t')) ≡ true)
      unfolding splits
      split_done former done =
          let h = put_done index_row TableFull 16 row (rows_of t) (rows_of t') index_up former done (few-rows t') in
          (split_by false true absent (room-is true h.0) ∙ ap (λ l. Ok (true, index l)) (sym h.1), h.2)

      split_refused : (x : TableFull) → (rising (row_order index_row) (rows_of t) ≡ true → Put {E = TableFull} (row_order index_row) row 16 (rows_of t) (rows_of t') (Err x)) → split_rows (bytes_of k) to (data_of d) ≡ Err Full
      unfolding splits
      split_refused x done =
          split_by false false absent (room-is false (put_refused index_row TableFull 16 row (rows_of t) (rows_of t') index_up x done))

      pub split_ok : (u : Result (Option IndexRow) TableFull) → is_ok u ≡ true → (rising (row_order index_row) (rows_of t) ≡ true → Put {E = TableFull} (row_order index_row) row 16 (rows_of t) (rows_of t') u) → (split_rows (bytes_of k) to (data_of d) ≡ Ok (true, data_of (Index t'))) × (ordered (map index_row (rows_of t')) ≡ true)
      split_ok (Ok former) h done = split_done former done
      split_ok (Err x) h done = absurd (false≢true h)

      pub split_err : (u : Result (Option IndexRow) TableFull) → is_ok u ≡ false → (rising (row_order index_row) (rows_of t) ≡ true → Put {E = TableFull} (row_order index_row) row 16 (rows_of t) (rows_of t') u) → (split_rows (bytes_of k) to (data_of d) ≡ Err Full) × (data_of (Index t') ≡ data_of d) × (ordered (map index_row (rows_of t')) ≡ true)
      split_err (Ok former) h done = absurd (true≢false h)
      split_err (Err x) h done =
          let same = (done (rises index_row (rows_of t) index_up)).2 in
          (split_refused x done, ap (λ l. index (map index_row l)) same ∙ ap data_of (sym is), ap (λ l. ordered (map index_row l)) same ∙ index_up)

  -- the first row that points to a page
  module _ (p : ℕ) (rows : List IndexRow) (same : rows ≡ rows_of t) where
    abbrev at : IndexRow → Ordering
    at r = pointing p (index_row r)

    pub confirm_done : (t' : Table IndexRow 16) (i : ℕ) (u : Option IndexRow) → Pointed p rows (Some i) → table.Removed i (rows_of t) (rows_of t') u → (confirm_rows p (data_of d) ≡ Ok (data_of (Index t'))) × (ordered_rows (data_of d) ≡ true → ordered (map index_row (rows_of t')) ≡ true)
    confirm_done t' i None pointed w = let s = subst (λ (l : List IndexRow). Searched at l (Ok i)) same pointed in absurd (omega (arith, s.0, w.0))
    confirm_done t' i (Some x) pointed w =
        let s = subst (λ (l : List IndexRow). Searched at l (Ok i)) same pointed in
        let f = found at (rows_of t) i s in
        let made : rows_of t' ≡ without at (rows_of t) = w.2 ∙ sym (without-found at f) in
        let some : is_some (lookup (pointing p) (map index_row (rows_of t))) ≡ true = ap is_some (sym (mapped_lookup index_row (pointing p) (rows_of t))) ∙ some_mapped index_row (lookup at (rows_of t)) (found_some at f) in (
          ap (λ x. confirm_rows p (data_of x)) is ∙ ap (λ y. cond y (Ok (index (without (pointing p) (map index_row (rows_of t))))) (Err NoPointer)) some ∙ ap (λ l. Ok (index l)) (sym (ap (map index_row) made ∙ map-without index_row (pointing p) (rows_of t))),
          λ up. sym (map-rising index_row by_key (rows_of t')) ∙ ap (rising (row_order index_row)) made ∙ without-rising by_bytes (λ r. r.key) bytes-lawful at (rows_of t) (rises index_row (rows_of t) (subst (λ (x : Data). ordered_rows (data_of x) ≡ true) is up)),
        )

    pub confirm_refused : Pointed p rows None → confirm_rows p (data_of d) ≡ Err NoPointer
    confirm_refused pointed =
        let s = subst (λ (l : List IndexRow). Searched at l (Err (length l))) same pointed in
        let none : lookup (pointing p) (map index_row (rows_of t)) ≡ None = sym (mapped_lookup index_row (pointing p) (rows_of t)) ∙ ap (option_map index_row) (lookup-missing at (missing at (rows_of t) (length (rows_of t)) s)) in
        ap (λ x. confirm_rows p (data_of x)) is ∙ ap (λ o. cond (is_some o) (Ok (index (without (pointing p) (map index_row (rows_of t))))) (Err NoPointer)) none
