-- What every log keeps: the live message at a position and pointer, and the live messages of a page, after each call. Assumes nothing.
use Rattle.std.specs.Prelude.{◌≡◌, ℕ, Bool, false, List, [], ◌∷◌, ◌++◌, Some, ◌==◌, ◌≢◌, ◌&&◌}
use Rattle.logs.specs.declared.messages.Kind.{Kind}
use Rattle.fault.specs.declared.disk_pointer.DiskPtr.{DiskPtr}
use Rattle.logs.specs.declared.messages.CacheInfo.{CacheInfo}
use Rattle.logs.specs.declared.log_fault.LogFault.{LogFault}
use Rattle.logs.specs.declared.reservation.Reservation.{Reservation}
use Rattle.logs.specs.declared.messages.Event.TheVariants.{Complete, Abort}
use Rattle.logs.specs.declared.messages.Status.TheVariants.{Live}
use Rattle.logs.specs.Meaning.{Meaning, Message, live_at, lives_of, unnamed, named, mark}
use Rattle.logs.specs.Clauses.{fresh, Reserved, Settled, NotTaken, Written, Same}

pub record Standing : Type 0 where
  -- while it is pending, nothing that a reader sees has changed
  pub live-reserved : (M N : Meaning) (p : ℕ) (k : Kind) (bytes : List ℕ) (fit : Bool) (r : Reservation) → Reserved M N p k bytes fit r → (l : ℕ) (o : DiskPtr) → live_at N.messages l o ≡ live_at M.messages l o
  pub lives-reserved : (M N : Meaning) (p : ℕ) (k : Kind) (bytes : List ℕ) (fit : Bool) (r : Reservation) → Reserved M N p k bytes fit r → (q : ℕ) → lives_of q N.messages ≡ lives_of q M.messages
  -- it can be completed or aborted on its own log
  pub taken : (M N : Meaning) (p : ℕ) (k : Kind) (bytes : List ℕ) (fit : Bool) (r : Reservation) → Reserved M N p k bytes fit r → (f : LogFault) → NotTaken N.number N.messages r f → ⊥
  -- completed, it is live, and its page's last
  pub written : (M N O : Meaning) (p : ℕ) (k : Kind) (bytes : List ℕ) (fit : Bool) (r : Reservation) → Reserved M N p k bytes fit r → Settled N O r Complete → Written M O p k bytes r
  pub lives-written : (M N O : Meaning) (p : ℕ) (k : Kind) (bytes : List ℕ) (fit : Bool) (r : Reservation) (a : Reserved M N p k bytes fit r) → Settled N O r Complete → lives_of p O.messages ≡ lives_of p M.messages ++ (fresh p k bytes a.size r Live ∷ [])
  pub lives_beside : (M N O : Meaning) (p : ℕ) (k : Kind) (bytes : List ℕ) (fit : Bool) (r : Reservation) → Reserved M N p k bytes fit r → Settled N O r Complete → (q : ℕ) → (p ≢ q) → lives_of q O.messages ≡ lives_of q M.messages
  -- aborted, it leaves no trace
  pub undone : (M N O : Meaning) (p : ℕ) (k : Kind) (bytes : List ℕ) (fit : Bool) (r : Reservation) → Reserved M N p k bytes fit r → Settled N O r Abort → Same M O
  pub lives-undone : (M N O : Meaning) (p : ℕ) (k : Kind) (bytes : List ℕ) (fit : Bool) (r : Reservation) → Reserved M N p k bytes fit r → Settled N O r Abort → (q : ℕ) → lives_of q O.messages ≡ lives_of q M.messages
  -- marking takes what is named of its page, and nothing else
  pub mark_keeps : (p : ℕ) (es : List CacheInfo) (ms : List Message) (l : ℕ) (o : DiskPtr) (x : Message) → live_at ms l o ≡ Some x → ((x.page == p) && named es x) ≡ false → live_at (mark p es ms) l o ≡ Some x
  pub lives-mark : (p : ℕ) (es : List CacheInfo) (ms : List Message) → lives_of p (mark p es ms) ≡ unnamed es (lives_of p ms)
  pub lives-mark_beside : (p : ℕ) (es : List CacheInfo) (ms : List Message) (q : ℕ) → (p ≢ q) → lives_of q (mark p es ms) ≡ lives_of q ms
