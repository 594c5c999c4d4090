-- What the calls of a log leave of the live messages. Assumes nothing.
use Rattle.std.proofs.lemmas.Option.{none-some}
use Rattle.std.proofs.lemmas.Bool.{true≢false, false≢true, or_from, or_parts}
use Rattle.std.proofs.Common.{◌≡◌, ℕ, ◌<◌, Bool, true, false, eqb, List, [], ◌∷◌, ◌++◌, Some, None, Option, sym, refl, ap, ◌∙◌, arith, eq-eqb, ne_eqb, eqb-true}
use Rattle.std.proofs.lemmas.Cmp.{int_eq_equiv}
use Rattle.logs.specs.declared.messages.Kind.{Kind}
use Rattle.logs.specs.declared.messages.CacheInfo.{CacheInfo}
use Rattle.fault.specs.declared.disk_pointer.DiskPtr.{DiskPtr}
use Rattle.fault.specs.declared.disk_pointer.DiskPtr.TheVariants.{Inline, Blob}
use Rattle.logs.specs.declared.log_fault.LogFault.{LogFault}
use Rattle.logs.specs.declared.log_fault.LogFault.TheVariants.{Bytes, Full, Pending, NotPending, NoMessage, OtherPage}
use Rattle.logs.specs.declared.messages.Event.{Event}
use Rattle.logs.specs.declared.messages.Event.TheVariants.{Complete, Abort}
use Rattle.logs.specs.declared.reservation.Reservation.{Reservation}
use Rattle.logs.specs.Meaning.{Meaning, Message, is_pending, is_live, is_done, same_ptr, lives_of, unnamed, is_at, becomes, with_state, any_pending, live_at, pending_at, settle, named, mark, Sheds, none, kept, shed, Below, met}
use Rattle.logs.specs.Clauses.{fresh, Reserved, Settled, NotTaken, Written, Same}
use Rattle.std.proofs.lemmas.List.{append-nil}
use Rattle.std.proofs.lemmas.List.Elements.{filter-append}
use Rattle.std.proofs.lemmas.List.Folds.{list_any-append}
use Rattle.std.proofs.Math.Bool.{and-false, or-true}
use Rattle.std.specs.Prelude.{◌&&◌, ◌||◌, cond}
use Rattle.logs.specs.declared.messages.Status.TheVariants as status
use Rattle.logs.specs.declared.messages.Status.{Status}

pub eqb_refl : (n : ℕ) → eqb n n ≡ true
eqb_refl n = eq-eqb n n refl

pub done_dull : (s : Status) → is_done s ≡ true → is_live s ≡ false
done_dull status.Pending h = refl
done_dull status.Live h = absurd (false≢true h)
done_dull status.Dead h = refl
done_dull status.Cancelled h = refl

pub sheds-live : {ms ks : List Message} → Sheds ms ks → (l : ℕ) (o : DiskPtr) → live_at ks l o ≡ live_at ms l o
sheds-live none l o = refl
sheds-live (kept s) l o = rw (sheds-live s l o)
sheds-live (shed {m = m} h s) l o = rw (done_dull m.state h) (sheds-live s l o)

sheds-quiet : {ms ks : List Message} → Sheds ms ks → any_pending ms ≡ false → any_pending ks ≡ false
sheds-quiet none q = q
sheds-quiet (kept s) q = or_from _ _ (or_parts _ _ q).0 (sheds-quiet s (or_parts _ _ q).1)
sheds-quiet (shed h s) q = sheds-quiet s (or_parts _ _ q).1

sheds_below : {ms ks : List Message} (l : ℕ) → Sheds ms ks → Below l ms → Below l ks
sheds_below l none b = b
sheds_below l (kept s) b = (b.0, sheds_below l s b.1)
sheds_below l (shed h s) b = sheds_below l s b.1

not_at : (l : ℕ) (o : DiskPtr) (m : Message) → m.lsn < l → is_at l o m ≡ false
not_at l o m h = rw (ne_eqb m.lsn l (λ e. omega arith))

pub same_self : (o : DiskPtr) → same_ptr o o ≡ true
same_self (Inline x) = eqb_refl x
same_self (Blob x i) = rw (eqb_refl x) (int_eq_equiv.refl i)

pub at_self : (m : Message) → is_at m.lsn m.pointer m ≡ true
at_self m = rw (eqb_refl m.lsn) (same_self m.pointer)

or_step : (b : Bool) (m : Message) (r s : Option Message) (x : Message) → (r ≡ Some x → s ≡ Some x) → (cond b (Some m) r) ≡ Some x → (cond b (Some m) s) ≡ Some x
or_step true m r s x f h = h
or_step false m r s x f h = f h

live-append : (ms ys : List Message) (l : ℕ) (o : DiskPtr) (x : Message) → live_at ms l o ≡ Some x → live_at (ms ++ ys) l o ≡ Some x
live-append [] ys l o x h = absurd (none-some x h)
live-append (m ∷ ms) ys l o x h = or_step _ m _ _ x (live-append ms ys l o x) h

live-fresh : (ks : List Message) (m : Message) → m.state ≡ status.Live → Below m.lsn ks → live_at (ks ++ (m ∷ [])) m.lsn m.pointer ≡ Some m
live-fresh [] m h b = rw (h, at_self m)
live-fresh (k ∷ ks) m h b = rw (not_at m.lsn m.pointer k b.0, and-false (is_live k.state)) (live-fresh ks m h b.1)

live-dull : (ks : List Message) (m : Message) (l : ℕ) (o : DiskPtr) → is_live m.state ≡ false → live_at (ks ++ (m ∷ [])) l o ≡ live_at ks l o
live-dull [] m l o h = rw h
live-dull (k ∷ ks) m l o h = rw (live-dull ks m l o h)

quiet-append : (ks : List Message) (m : Message) → any_pending ks ≡ false → is_pending m.state ≡ false → any_pending (ks ++ (m ∷ [])) ≡ false
quiet-append [] m q h = or_from _ _ h refl
quiet-append (k ∷ ks) m q h = or_from _ _ (or_parts _ _ q).0 (quiet-append ks m (or_parts _ _ q).1 h)

settle-append : (s : Status) (ks : List Message) (m : Message) → any_pending ks ≡ false → m.state ≡ status.Pending → settle s m.lsn m.pointer (ks ++ (m ∷ [])) ≡ ks ++ (with_state s m ∷ [])
settle-append s [] m q h = rw (h, at_self m)
settle-append s (k ∷ ks) m q h = rw ((or_parts (is_pending k.state) (any_pending ks) q).0, settle-append s ks m (or_parts (is_pending k.state) (any_pending ks) q).1 h)

pending-there : (ks : List Message) (m : Message) → m.state ≡ status.Pending → pending_at (ks ++ (m ∷ [])) m.lsn m.pointer ≡ true
pending-there [] m h = rw (h, at_self m)
pending-there (k ∷ ks) m h = rw (pending-there ks m h, or-true (is_pending k.state && is_at m.lsn m.pointer k))

-- a live message is older than what is above all
pub live_below : (ms : List Message) (l : ℕ) (o : DiskPtr) (n : ℕ) (x : Message) → Below n ms → live_at ms l o ≡ Some x → l < n
live_below [] l o n x b h = absurd (none-some x h)
live_below (m ∷ ms) l o n x b h = at (live_below ms l o n x b.1) (is_live m.state) (eqb m.lsn l) refl (same_ptr m.pointer o) h
  where
    at : (live_at ms l o ≡ Some x → l < n) → (a : Bool) (e : Bool) → eqb m.lsn l ≡ e → (f : Bool) → (cond (a && (e && f)) (Some m) (live_at ms l o)) ≡ Some x → l < n
    at tail true true q true k = omega (arith, eqb-true m.lsn l q, b.0)
    at tail true true q false k = tail k
    at tail true false q f k = tail k
    at tail false e q f k = tail k

module _ {M N O : Meaning} {p : ℕ} {k : Kind} {bytes : List ℕ} {fit : Bool} {r : Reservation} (a : Reserved M N p k bytes fit r) where
  after-settle : (e : Event) → Settled N O r e → O.messages ≡ a.kept ++ (fresh p k bytes a.size r (met status.Pending e) ∷ [])
  after-settle e b = b.after ∙ ap (settle (met status.Pending e) r.lsn r.pointer) a.after ∙ settle-append (met status.Pending e) a.kept (fresh p k bytes a.size r status.Pending) (sheds-quiet a.sheds a.quiet) refl

  pub written : Settled N O r Complete → Written M O p k bytes r
  written b =
      let e = after-settle Complete b in
      record {
        size = a.size;
        grows = λ l o m h. rw e (live-append a.kept _ l o m (sheds-live a.sheds l o ∙ h));
        there = rw e (live-fresh a.kept (fresh p k bytes a.size r status.Live) refl (sheds_below r.lsn a.sheds a.newer));
        newer = λ l o m h. live_below M.messages l o r.lsn m a.newer h;
        quiet = rw e (quiet-append a.kept (fresh p k bytes a.size r status.Live) (sheds-quiet a.sheds a.quiet) refl);
      }

  pub undone : Settled N O r Abort → Same M O
  undone b =
      let e = after-settle Abort b in
      record {
        live_same = λ l o. rw e (live-dull a.kept (fresh p k bytes a.size r status.Cancelled) l o refl ∙ sheds-live a.sheds l o);
        quiet = λ q. rw e (quiet-append a.kept (fresh p k bytes a.size r status.Cancelled) (sheds-quiet a.sheds a.quiet) refl);
      }

module _ {M N : Meaning} {p : ℕ} {k : Kind} {bytes : List ℕ} {fit : Bool} {r : Reservation} (a : Reserved M N p k bytes fit r) where
  pub there : pending_at N.messages r.lsn r.pointer ≡ true
  there = rw a.after (pending-there a.kept (fresh p k bytes a.size r status.Pending) refl)

  pub mine : r.log ≡ N.number
  mine = a.mine ∙ sym a.number

-- a reservation is taken by the log that gave it
pub taken : (N : Meaning) (r : Reservation) → pending_at N.messages r.lsn r.pointer ≡ true → r.log ≡ N.number → (f : LogFault) → NotTaken N.number N.messages r f → ⊥
taken N r t m (NotPending o) h = true≢false (sym t ∙ h.1 m)
taken N r t m (Bytes e) h = h
taken N r t m (Full q) h = h
taken N r t m (Pending q) h = h
taken N r t m (NoMessage q o) h = h
taken N r t m (OtherPage q o) h = h

-- what is not named, or is another page's, stays
pub mark_keeps : (p : ℕ) (es : List CacheInfo) (ms : List Message) (l : ℕ) (o : DiskPtr) (x : Message) → live_at ms l o ≡ Some x → (eqb x.page p && named es x) ≡ false → live_at (mark p es ms) l o ≡ Some x
mark_keeps p es [] l o x h n = h
mark_keeps p es (m ∷ ms) l o x h n = at (λ k. mark_keeps p es ms l o x k n) (is_live m.state) refl (is_at l o m) refl h
  where
    dull : is_live m.state ≡ true → is_at l o m ≡ false → live_at (mark p es ms) l o ≡ Some x → (c : Bool) → live_at (becomes c status.Dead m ∷ mark p es ms) l o ≡ Some x
    dull e f k true = k
    dull e f k false = rw (e, f) k

    at : (live_at ms l o ≡ Some x → live_at (mark p es ms) l o ≡ Some x) → (a : Bool) → is_live m.state ≡ a → (b : Bool) → is_at l o m ≡ b → (cond (a && b) (Some m) (live_at ms l o)) ≡ Some x → live_at (mark p es (m ∷ ms)) l o ≡ Some x
    at tail true e true f k =
        let same : m ≡ x = cc in
        let still : (eqb m.page p && named es m) ≡ false = rw same n in
        rw (e, still) (rw (e, f) (ap Some same))
    at tail true e false f k = rw e (dull e f (tail k) (eqb m.page p && named es m))
    at tail false e b f k = rw e (rw e (tail k))

pub same_refl : (M N : Meaning) → N ≡ M → Same M N
same_refl M N e = record { live_same = λ l o. rw e; quiet = λ q. rw e q }

-- marking leaves none pending where none was
quiet-mark-one : (b : Bool) (m : Message) → is_pending m.state ≡ false → is_pending (becomes b status.Dead m).state ≡ false
quiet-mark-one true m h = refl
quiet-mark-one false m h = h

pub mark-quiet : (p : ℕ) (es : List CacheInfo) (ms : List Message) → any_pending ms ≡ false → any_pending (mark p es ms) ≡ false
mark-quiet p es [] q = q
mark-quiet p es (m ∷ ms) q = or_from _ _ (quiet-mark-one _ m (or_parts _ _ q).0) (mark-quiet p es ms (or_parts _ _ q).1)

-- The live messages of a page.
pub sheds-lives : {ms ks : List Message} → Sheds ms ks → (q : ℕ) → lives_of q ks ≡ lives_of q ms
sheds-lives none q = refl
sheds-lives (kept s) q = rw (sheds-lives s q)
sheds-lives (shed {m = m} h s) q = rw (done_dull m.state h) (sheds-lives s q)

pub lives-append : (q : ℕ) (ms ns : List Message) → lives_of q (ms ++ ns) ≡ lives_of q ms ++ lives_of q ns
lives-append q = filter-append (λ m. is_live m.state && eqb m.page q)

module _ {M N : Meaning} {p : ℕ} {k : Kind} {bytes : List ℕ} {fit : Bool} {r : Reservation} (a : Reserved M N p k bytes fit r) where
  -- while it is pending, every page has the live messages that it had
  pub lives-reserved : (q : ℕ) → lives_of q N.messages ≡ lives_of q M.messages
  lives-reserved q = rw a.after (lives-append q a.kept (fresh p k bytes a.size r status.Pending ∷ []) ∙ append-nil (lives_of q a.kept) ∙ sheds-lives a.sheds q)

  pub live-reserved : (l : ℕ) (o : DiskPtr) → live_at N.messages l o ≡ live_at M.messages l o
  live-reserved l o = rw a.after (live-dull a.kept (fresh p k bytes a.size r status.Pending) l o refl ∙ sheds-live a.sheds l o)

module _ {M N O : Meaning} {p : ℕ} {k : Kind} {bytes : List ℕ} {fit : Bool} {r : Reservation} (a : Reserved M N p k bytes fit r) where
  -- completed, it is its page's last
  pub lives-written : Settled N O r Complete → lives_of p O.messages ≡ lives_of p M.messages ++ (fresh p k bytes a.size r status.Live ∷ [])
  lives-written b = rw (after-settle a Complete b, lives-append p a.kept (fresh p k bytes a.size r status.Live ∷ []), sheds-lives a.sheds p, eqb_refl p) refl

  -- and no other page's
  pub lives_beside : Settled N O r Complete → (q : ℕ) → (p ≡ q → ⊥) → lives_of q O.messages ≡ lives_of q M.messages
  lives_beside b q n = rw (after-settle a Complete b, lives-append q a.kept (fresh p k bytes a.size r status.Live ∷ []), sheds-lives a.sheds q, ne_eqb p q n) (append-nil (lives_of q M.messages))

  pub lives-undone : Settled N O r Abort → (q : ℕ) → lives_of q O.messages ≡ lives_of q M.messages
  lives-undone b q = rw (after-settle a Abort b, lives-append q a.kept (fresh p k bytes a.size r status.Cancelled ∷ []), sheds-lives a.sheds q) (append-nil (lives_of q M.messages))

-- marking takes the named ones of its page
pub lives-mark : (p : ℕ) (es : List CacheInfo) (ms : List Message) → lives_of p (mark p es ms) ≡ unnamed es (lives_of p ms)
lives-mark p es [] = refl
lives-mark p es (m ∷ ms) = at (lives-mark p es ms) (is_live m.state) refl (eqb m.page p) refl (named es m) refl
  where
    at : lives_of p (mark p es ms) ≡ unnamed es (lives_of p ms) → (a : Bool) → is_live m.state ≡ a → (b : Bool) → eqb m.page p ≡ b → (c : Bool) → named es m ≡ c → lives_of p (mark p es (m ∷ ms)) ≡ unnamed es (lives_of p (m ∷ ms))
    at t false x b y c z = rw x (rw x t)
    at t true x false y c z = rw (x, y) (rw (x, y) t)
    at t true x true y true z = rw (x, y, z) t
    at t true x true y false z = rw (x, y, z) (rw (x, y) (rw t refl))

-- and none of another
pub lives-mark_beside : (p : ℕ) (es : List CacheInfo) (ms : List Message) (q : ℕ) → (p ≡ q → ⊥) → lives_of q (mark p es ms) ≡ lives_of q ms
lives-mark_beside p es [] q n = refl
lives-mark_beside p es (m ∷ ms) q n = at (lives-mark_beside p es ms q n) (is_live m.state) refl (eqb m.page p) refl (named es m) refl
  where
    at : lives_of q (mark p es ms) ≡ lives_of q ms → (a : Bool) → is_live m.state ≡ a → (b : Bool) → eqb m.page p ≡ b → (c : Bool) → named es m ≡ c → lives_of q (mark p es (m ∷ ms)) ≡ lives_of q (m ∷ ms)
    at t false x b y c z = rw x (rw x t)
    at t true x false y c z = rw (x, y) (rw x (rw t refl))
    at t true x true y true z = let e : m.page ≡ p = eqb-true m.page p y in rw (x, y, z) (rw (e, ne_eqb p q n) t)
    at t true x true y false z = rw (x, y, z) (rw x (rw t refl))

-- what is not live is not marked
pub mark-none : (p : ℕ) (e : CacheInfo) (ms : List Message) → live_at ms e.lsn e.pointer ≡ None → mark p (e ∷ []) ms ≡ ms
mark-none p e [] h = refl
mark-none p e (m ∷ ms) h = at (mark-none p e ms) (is_live m.state) refl (is_at e.lsn e.pointer m) refl h
  where
    at : (live_at ms e.lsn e.pointer ≡ None → mark p (e ∷ []) ms ≡ ms) → (a : Bool) → is_live m.state ≡ a → (b : Bool) → is_at e.lsn e.pointer m ≡ b → (cond (a && b) (Some m) (live_at ms e.lsn e.pointer)) ≡ None → mark p (e ∷ []) (m ∷ ms) ≡ m ∷ ms
    at rest true x true y k = absurd (none-some m (sym k))
    at rest true x false y k = rw (x, y, and-false (eqb m.page p), rest k)
    at rest false x b y k = rw (x, rest k)

-- entry by entry
named_push : (es : List CacheInfo) (e : CacheInfo) (m : Message) → named (es ++ (e ∷ [])) m ≡ (named es m || (named (e ∷ []) m))
named_push es e m = list_any-append (λ x. is_at x.lsn x.pointer m) es (e ∷ [])

abbrev hit : ℕ → List CacheInfo → Message → Bool
hit p es m = is_live m.state && (eqb m.page p && named es m)

mark_head : (p : ℕ) (es : List CacheInfo) (e : CacheInfo) (m : Message) → becomes (hit p (es ++ (e ∷ [])) m) status.Dead m ≡ becomes (hit p (e ∷ []) (becomes (hit p es m) status.Dead m)) status.Dead (becomes (hit p es m) status.Dead m)
mark_head p es e m = rw (named_push es e m) (at (is_live m.state) refl (eqb m.page p) refl (named es m) refl)
  where
    at : (a : Bool) → is_live m.state ≡ a → (b : Bool) → eqb m.page p ≡ b → (c : Bool) → named es m ≡ c → becomes (is_live m.state && (eqb m.page p && (named es m || (named (e ∷ []) m)))) status.Dead m ≡ becomes (hit p (e ∷ []) (becomes (hit p es m) status.Dead m)) status.Dead (becomes (hit p es m) status.Dead m)
    at false x b y c z = rw x (rw x refl)
    at true x false y c z = rw (x, y) (rw (x, y) refl)
    at true x true y true z = rw (x, y, z) refl
    at true x true y false z = rw (x, y, z) (rw (x, y) refl)

pub mark_push : (p : ℕ) (es : List CacheInfo) (e : CacheInfo) (ms : List Message) → mark p (es ++ (e ∷ [])) ms ≡ mark p (e ∷ []) (mark p es ms)
mark_push p es e [] = refl
mark_push p es e (m ∷ ms) = rw (mark_head p es e m, mark_push p es e ms)

pub mark_empty : (p : ℕ) (ms : List Message) → mark p [] ms ≡ ms
mark_empty p [] = refl
mark_empty p (m ∷ ms) = rw (and-false (eqb m.page p), and-false (is_live m.state), mark_empty p ms)
