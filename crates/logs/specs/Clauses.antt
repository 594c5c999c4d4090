-- What each call of a log promises. Assumes nothing.
use Rattle.std.specs.Prelude.{◌≡◌, ℕ, ◌+◌, ◌^◌, ◌<◌, ◌≤◌, Bool, true, false, List, [], ◌∷◌, ◌++◌, length, drop, is_some, Some, None, Ok, Err, Result, ◌≢◌, ◌&&◌}
use Rattle.logs.specs.declared.messages.Kind.{Kind}
use Rattle.fault.specs.declared.disk_pointer.DiskPtr.{DiskPtr}
use Rattle.logs.specs.declared.messages.CacheInfo.{CacheInfo}
use Rattle.logs.specs.declared.log_fault.LogFault.{LogFault}
use Rattle.logs.specs.declared.log_fault.LogFault.TheVariants.{Bytes, Full, Pending, NotPending, NoMessage, OtherPage}
use Rattle.logs.specs.declared.reservation.Reservation.{Reservation}
use Rattle.logs.specs.declared.reservation.Returned.{Returned}
use Rattle.fault.specs.declared.bytes_fault.BytesFault.TheVariants.{ScratchTooSmall}
use Rattle.logs.specs.declared.messages.Event.{Event}
use Rattle.logs.specs.Meaning.{Meaning, Message, same_blob, any_pending, live_at, pending_at, settle, mark, Sheds, Below, met}
use Rattle.logs.specs.declared.messages.Status.TheVariants as status
use Rattle.logs.specs.declared.messages.Status.{Status}
use Rattle.fault.specs.Pointers.{is_blob}

abbrev pub fresh : ℕ → Kind → List ℕ → ℕ → Reservation → Status → Message
fresh p k bytes z r s = record { lsn = r.lsn; pointer = r.pointer; page = p; kind = k; payload = bytes; size = z; state = s }

-- a pending message was added, where it fitted
pub record Reserved (M N : Meaning) (p : ℕ) (k : Kind) (bytes : List ℕ) (fit : Bool) (r : Reservation) : Type 0 where
  pub quiet : any_pending M.messages ≡ false
  pub fitted : fit ≡ true
  pub number : N.number ≡ M.number
  pub stable : N.stable ≡ M.stable
  pub mine : r.log ≡ M.number
  pub first : 1 ≤ r.lsn
  pub last : r.lsn < 2 ^ 62
  pub small : length bytes ≤ 1152
  pub size : ℕ
  pub holds : length bytes ≤ size
  pub slim : size ≤ length bytes + 64
  pub kept : List Message
  pub sheds : Sheds M.messages kept
  pub after : N.messages ≡ kept ++ (fresh p k bytes size r status.Pending ∷ [])
  pub newer : Below r.lsn M.messages

-- why a reservation for the page is refused: 30 while one is pending, else 29 exactly where it does not fit
abbrev pub Refused : List Message → Bool → ℕ → LogFault → Type 0
Refused ms fit p (Full q) = (q ≡ p) × (any_pending ms ≡ false) × (fit ≡ false)
Refused ms fit p (Pending q) = (q ≡ p) × (any_pending ms ≡ true)
Refused ms fit p (Bytes e) = ⊥
Refused ms fit p (NotPending o) = ⊥
Refused ms fit p (NoMessage q o) = ⊥
Refused ms fit p (OtherPage q o) = ⊥

abbrev pub OnReserve : Meaning → Meaning → ℕ → Kind → List ℕ → Result Reservation LogFault → Type 0
OnReserve M N p k bytes (Ok r) = Reserved M N p k bytes (M.fits (length bytes)) r
OnReserve M N p k bytes (Err f) = (N ≡ M) × Refused M.messages (M.fits (length bytes)) p f

-- a live blob is there
abbrev pub blob_there : List Message → ℕ → DiskPtr → Bool
blob_there ms l o = is_blob o && is_some (live_at ms l o)

pub record Moved (M N : Meaning) (p l : ℕ) (o : DiskPtr) (r : Reservation) : Type 0 where
  pub source : Message
  pub there : live_at M.messages l o ≡ Some source
  pub blob : is_blob o ≡ true
  pub same : same_blob r.pointer o ≡ true
  pub reserved : Reserved M N p source.kind source.payload M.fits_pointer r

-- why a pointer is not moved: 32 without a live blob there, then as for a reservation
abbrev pub NotMoved : List Message → Bool → ℕ → ℕ → DiskPtr → LogFault → Type 0
NotMoved ms fit p l o (NoMessage q x) = (q ≡ p) × (x ≡ o) × (blob_there ms l o ≡ false)
NotMoved ms fit p l o (Pending q) = (q ≡ p) × (blob_there ms l o ≡ true) × (any_pending ms ≡ true)
NotMoved ms fit p l o (Full q) = (q ≡ p) × (blob_there ms l o ≡ true) × (any_pending ms ≡ false) × (fit ≡ false)
NotMoved ms fit p l o (Bytes e) = ⊥
NotMoved ms fit p l o (NotPending x) = ⊥
NotMoved ms fit p l o (OtherPage q x) = ⊥

abbrev pub OnMove : Meaning → Meaning → ℕ → ℕ → DiskPtr → Result Reservation LogFault → Type 0
OnMove M N p l o (Ok r) = Moved M N p l o r
OnMove M N p l o (Err f) = (N ≡ M) × NotMoved M.messages M.fits_pointer p l o f

-- the pending message of the reservation has met the event
pub record Settled (M N : Meaning) (r : Reservation) (e : Event) : Type 0 where
  pub mine : r.log ≡ M.number
  pub there : pending_at M.messages r.lsn r.pointer ≡ true
  pub number : N.number ≡ M.number
  pub stable : N.stable ≡ M.stable
  pub after : N.messages ≡ settle (met status.Pending e) r.lsn r.pointer M.messages

-- why a reservation is not taken: it is another log's, or no such message is pending
abbrev pub NotTaken : ℕ → List Message → Reservation → LogFault → Type 0
NotTaken n ms r (NotPending o) = (o ≡ r.pointer) × (r.log ≡ n → pending_at ms r.lsn r.pointer ≡ false)
NotTaken n ms r (Bytes e) = ⊥
NotTaken n ms r (Full q) = ⊥
NotTaken n ms r (Pending q) = ⊥
NotTaken n ms r (NoMessage q o) = ⊥
NotTaken n ms r (OtherPage q o) = ⊥

abbrev pub OnSettle : Meaning → Meaning → Reservation → Event → Result Unit Returned → Type 0
OnSettle M N r e (Ok u) = Settled M N r e
OnSettle M N r e (Err x) = (N ≡ M) × (x.reservation ≡ r) × NotTaken M.number M.messages r x.fault

pub record Marked (M N : Meaning) (p : ℕ) (es : List CacheInfo) : Type 0 where
  pub number : N.number ≡ M.number
  pub stable : N.stable ≡ M.stable
  pub after : N.messages ≡ mark p es M.messages

-- the told stable position is at least l, and stays where it was already
pub record Durable (M N : Meaning) (l : ℕ) : Type 0 where
  pub number : N.number ≡ M.number
  pub messages : N.messages ≡ M.messages
  pub fits : N.fits ≡ M.fits
  pub fits-pointer : N.fits_pointer ≡ M.fits_pointer
  pub reached : l ≤ N.stable
  pub stays : l ≤ M.stable → N.stable ≡ M.stable
  pub rises : M.stable ≤ N.stable

pub record Found (ms : List Message) (p l : ℕ) (o : DiskPtr) (before after : List ℕ) (k : Kind) (n : ℕ) : Type 0 where
  pub message : Message
  pub there : live_at ms l o ≡ Some message
  pub page : message.page ≡ p
  pub kind : message.kind ≡ k
  pub size : length message.payload ≡ n
  pub small : n ≤ 1152
  pub room : 1152 ≤ length before
  pub out : after ≡ message.payload ++ drop n before

-- why nothing is read: 12 where the scratch is too small, then 32, then 33
abbrev pub NotFound : List Message → ℕ → ℕ → DiskPtr → List ℕ → LogFault → Type 0
NotFound ms p l o out (Bytes e) = (e ≡ ScratchTooSmall) × (length out < 1152)
NotFound ms p l o out (NoMessage q x) = (q ≡ p) × (x ≡ o) × (1152 ≤ length out) × (live_at ms l o ≡ None)
NotFound ms p l o out (OtherPage q x) = (q ≡ p) × (x ≡ o) × (1152 ≤ length out) × ((m : Message) × (live_at ms l o ≡ Some m) × (m.page ≢ p))
NotFound ms p l o out (Full q) = ⊥
NotFound ms p l o out (Pending q) = ⊥
NotFound ms p l o out (NotPending x) = ⊥

abbrev pub OnRead : List Message → ℕ → ℕ → DiskPtr → List ℕ → List ℕ → Result (Kind × ℕ) LogFault → Type 0
OnRead ms p l o before after (Ok x) = Found ms p l o before after x.0 x.1
OnRead ms p l o before after (Err f) = (after ≡ before) × NotFound ms p l o before f

-- a message was written: what was live is live, the new one is there, and nothing else of any page has changed
pub record Written (M N : Meaning) (p : ℕ) (k : Kind) (bytes : List ℕ) (e : Reservation) : Type 0 where
  pub size : ℕ
  pub grows : (l : ℕ) (o : DiskPtr) (m : Message) → live_at M.messages l o ≡ Some m → live_at N.messages l o ≡ Some m
  pub there : live_at N.messages e.lsn e.pointer ≡ Some (record { lsn = e.lsn; pointer = e.pointer; page = p; kind = k; payload = bytes; size = size; state = status.Live })
  pub newer : (l : ℕ) (o : DiskPtr) (m : Message) → live_at M.messages l o ≡ Some m → l < e.lsn
  pub quiet : any_pending N.messages ≡ false

-- nothing that a reader sees has changed
pub record Same (M N : Meaning) : Type 0 where
  pub live_same : (l : ℕ) (o : DiskPtr) → live_at N.messages l o ≡ live_at M.messages l o
  pub quiet : any_pending M.messages ≡ false → any_pending N.messages ≡ false
