-- What a log means: its messages in order of reserving, and what the calls do to them. Assumes nothing.
use Rattle.std.specs.Prelude.{◌≡◌, ℕ, ◌<◌, Bool, true, false, cond, not, ◌&&◌, List, [], ◌∷◌, map, filter, find, Ok, Err, Option, Result, ◌==◌}
use Rattle.std.specs.List.{list_any}
use Rattle.std.specs.Ordering.{int_eq}
use Rattle.logs.specs.declared.messages.Kind.{Kind}
use Rattle.logs.specs.declared.messages.Status.{Status}
use Rattle.logs.specs.declared.messages.Status.TheVariants.{Pending, Live, Dead, Cancelled}
use Rattle.logs.specs.declared.messages.Event.{Event}
use Rattle.logs.specs.declared.messages.Event.TheVariants.{Complete, Abort, Mark}
use Rattle.logs.specs.declared.reservation.Reservation.{Reservation}
use Rattle.fault.specs.declared.disk_pointer.DiskPtr.{DiskPtr}
use Rattle.fault.specs.declared.disk_pointer.DiskPtr.TheVariants.{Inline, Blob}
use Rattle.logs.specs.declared.messages.CacheInfo.{CacheInfo}

pub record Message : Type 0 where
  pub lsn : ℕ
  pub pointer : DiskPtr
  pub page : ℕ
  pub kind : Kind
  pub payload : List ℕ
  pub size : ℕ
  pub state : Status

pub record Meaning : Type 0 where
  pub number : ℕ
  pub messages : List Message
  pub fits : ℕ → Bool
  pub fits_pointer : Bool
  pub stable : ℕ

-- what an event makes of a message: complete and abort settle a pending one, a mark kills a live one
abbrev pub met : Status → Event → Status
met Pending Complete = Live
met Pending Abort = Cancelled
met Pending Mark = Pending
met Live Complete = Live
met Live Abort = Live
met Live Mark = Dead
met Dead e = Dead
met Cancelled e = Cancelled

-- the entry that names the message of a reservation, with no stamp and no size yet
abbrev pub entry_of : Reservation → CacheInfo
entry_of r = record { ts = 0; lsn = r.lsn; pointer = r.pointer; log_size = 0 }

-- a reservation ends where all three agree, and is given back else
abbrev pub Spent : Reservation → ℕ → ℕ → DiskPtr → Result Unit Reservation → Type 0
Spent r n l o (Ok u) = (r.log ≡ n) × (r.lsn ≡ l) × (r.pointer ≡ o)
Spent r n l o (Err q) = (q ≡ r) × ((r.log ≡ n) → (r.lsn ≡ l) → (r.pointer ≡ o) → ⊥)

abbrev pub is_pending : Status → Bool
is_pending Pending = true
is_pending Live = false
is_pending Dead = false
is_pending Cancelled = false

abbrev pub is_live : Status → Bool
is_live Pending = false
is_live Live = true
is_live Dead = false
is_live Cancelled = false

abbrev pub same_ptr : DiskPtr → DiskPtr → Bool
same_ptr (Inline x) (Inline y) = x == y
same_ptr (Inline x) (Blob y j) = false
same_ptr (Blob x i) (Inline y) = false
same_ptr (Blob x i) (Blob y j) = (x == y) && int_eq i j

-- both point to one blob
abbrev pub same_blob : DiskPtr → DiskPtr → Bool
same_blob (Inline x) (Inline y) = false
same_blob (Inline x) (Blob y j) = false
same_blob (Blob x i) (Inline y) = false
same_blob (Blob x i) (Blob y j) = int_eq i j

abbrev pub any_pending : List Message → Bool
any_pending ms = list_any (λ m. is_pending m.state) ms

-- the message m has this position and pointer
abbrev pub is_at : ℕ → DiskPtr → Message → Bool
is_at l o m = (m.lsn == l) && same_ptr m.pointer o

-- the live message at a position and pointer
abbrev pub live_at : List Message → ℕ → DiskPtr → Option Message
live_at ms l o = find (λ m. is_live m.state && is_at l o m) ms

-- a message is pending at a position and pointer
abbrev pub pending_at : List Message → ℕ → DiskPtr → Bool
pending_at ms l o = list_any (λ m. is_pending m.state && is_at l o m) ms

-- the live messages of a page, in order
abbrev pub lives_of : ℕ → List Message → List Message
lives_of p ms = filter (λ m. is_live m.state && (m.page == p)) ms

abbrev pub with_state : Status → Message → Message
with_state s m = record { lsn = m.lsn; pointer = m.pointer; page = m.page; kind = m.kind; payload = m.payload; size = m.size; state = s }

abbrev pub becomes : Bool → Status → Message → Message
becomes b s m = cond b (with_state s m) m

-- each message that passes the test takes the state s
abbrev pub sweep : (Message → Bool) → Status → List Message → List Message
sweep test s ms = map (λ m. becomes (test m) s m) ms

-- the pending message at a position and pointer takes the state s
abbrev pub settle : Status → ℕ → DiskPtr → List Message → List Message
settle s l o ms = sweep (λ m. is_pending m.state && is_at l o m) s ms

abbrev pub named : List CacheInfo → Message → Bool
named es m = list_any (λ e. is_at e.lsn e.pointer m) es

-- the named live messages of a page are dead
abbrev pub mark : ℕ → List CacheInfo → List Message → List Message
mark p es ms = sweep (λ m. is_live m.state && ((m.page == p) && named es m)) Dead ms

-- those that no entry names
abbrev pub unnamed : List CacheInfo → List Message → List Message
unnamed es ms = filter (λ m. not (named es m)) ms

-- some that are dead or cancelled may have left
abbrev pub is_done : Status → Bool
is_done Pending = false
is_done Live = false
is_done Dead = true
is_done Cancelled = true

pub data Sheds : List Message → List Message → Type 0 where
  none : Sheds [] []
  kept : {m : Message} {ms ks : List Message} → Sheds ms ks → Sheds (m ∷ ms) (m ∷ ks)
  shed : {m : Message} {ms ks : List Message} → is_done m.state ≡ true → Sheds ms ks → Sheds (m ∷ ms) ks

-- each lsn is below l
abbrev pub Below : ℕ → List Message → Type 0
Below l [] = Unit {0}
Below l (m ∷ ms) = (m.lsn < l) × Below l ms
