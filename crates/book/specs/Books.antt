-- What the calls of a book promise. Assumes nothing.
use Rattle.std.specs.Prelude.{◌≡◌, ℕ, ◌+◌, ◌^◌, ◌<◌, ◌≤◌, max, Bool, true, false, List, [], ◌∷◌, ◌++◌, length, get_or, Some, None, Ok, Err, vec_items, vec_len, vec_capacity, Vec, Option, Result, slice_index_or, slice_set}
use Rattle.std.specs.declared.alloc.Global.{Global}
use Rattle.fault.specs.declared.disk_pointer.DiskPtr.{DiskPtr}
use Rattle.logs.specs.declared.messages.CacheInfo.{CacheInfo}
use Rattle.logs.specs.declared.reservation.Reservation.{Reservation}
use Rattle.logs.specs.declared.reservation.Returned.{Returned}
use Rattle.logs.specs.Meaning.{Message, Meaning, met, any_pending, is_live, is_pending, same_ptr, live_at, pending_at, settle, mark}
use Rattle.logs.specs.Clauses.{NotTaken}
use Rattle.logs.specs.declared.messages.Status.{Status}
use Rattle.logs.specs.declared.messages.Status.TheVariants.{Pending}
use Rattle.book.specs.declared.head.Head.{Head}
use Rattle.book.specs.declared.head.Place.{Place}
use Rattle.logs.specs.declared.messages.Kind.{Kind}
use Rattle.book.specs.declared.book.Book.{Book}
use Rattle.logs.specs.declared.messages.Event.{Event}
use Rattle.book.specs.Heads.{message, messages, with_status, bare, lives}
use borrow.Rule.Slice.PartMut.{put_mid}

abbrev pub heads_of : Book → List Head
heads_of b = vec_items b.heads

abbrev pub mem_of : Book → List ℕ
mem_of b = vec_items b.mem

abbrev pub told : Book → List Message
told b = messages (mem_of b) (heads_of b)

-- what a log with this book means, whatever it says of what fits
abbrev pub book_means : (Book → ℕ → Bool) → (Book → Bool) → Book → Meaning
book_means F G b = record { number = b.number; messages = told b; fits = F b; fits_pointer = G b; stable = b.stable }

abbrev pub LiveIndex : List ℕ → List Head → ℕ → DiskPtr → Option ℕ → Type 0
LiveIndex mem hs l o None = live_at (messages mem hs) l o ≡ None
LiveIndex mem hs l o (Some i) = (i < length hs) × ((d : Head) → (is_live (get_or hs i d).status ≡ true) × ((get_or hs i d).lsn ≡ l) × (same_ptr (get_or hs i d).pointer o ≡ true) × (live_at (messages mem hs) l o ≡ Some (message mem (slice_index_or hs i d))))

abbrev pub PendingIndex : List ℕ → List Head → ℕ → DiskPtr → Option ℕ → Type 0
PendingIndex mem hs l o None = pending_at (messages mem hs) l o ≡ false
PendingIndex mem hs l o (Some i) = (i < length hs) × (pending_at (messages mem hs) l o ≡ true) × ((d : Head) → (is_pending (get_or hs i d).status ≡ true) × ((get_or hs i d).lsn ≡ l) × (same_ptr (get_or hs i d).pointer o ≡ true))

-- only the states of messages may differ
pub record Kin (b c : Book) : Type 0 where
  pub number : c.number ≡ b.number
  pub stable : c.stable ≡ b.stable
  pub next : c.next ≡ b.next
  pub mem : c.mem ≡ b.mem
  pub heads : bare (heads_of c) ≡ bare (heads_of b)
  pub cap : vec_capacity c.heads ≡ vec_capacity b.heads

pub record Restated (b c : Book) (i : ℕ) (s : Status) : Type 0 where
  pub number : c.number ≡ b.number
  pub stable : c.stable ≡ b.stable
  pub next : c.next ≡ b.next
  pub mem : c.mem ≡ b.mem
  pub cap : vec_capacity c.heads ≡ vec_capacity b.heads
  pub items : (d : Head) → heads_of c ≡ slice_set (heads_of b) i (with_status s (slice_index_or (heads_of b) i d))

-- the event has met the message at an index
abbrev pub Met : Book → Book → ℕ → Event → Type 0
Met b c i e = (d : Head) → Restated b c i (met (get_or (heads_of b) i d).status e)

pub record Settles (b c : Book) (r : Reservation) (e : Event) : Type 0 where
  pub kin : Kin b c
  pub mine : r.log ≡ b.number
  pub there : pending_at (told b) r.lsn r.pointer ≡ true
  pub after : told c ≡ settle (met Pending e) r.lsn r.pointer (told b)

abbrev pub BookSettle : Book → Book → Reservation → Event → Result Unit Returned → Type 0
BookSettle b c r e (Ok u) = Settles b c r e
BookSettle b c r e (Err x) = (c ≡ b) × (x.reservation ≡ r) × NotTaken b.number (told b) r x.fault

pub record Marks (b c : Book) (p : ℕ) (es : List CacheInfo) : Type 0 where
  pub kin : Kin b c
  pub after : told c ≡ mark p es (told b)

pub record Raised (b c : Book) (l : ℕ) : Type 0 where
  pub number : c.number ≡ b.number
  pub stable : c.stable ≡ max b.stable l
  pub next : c.next ≡ b.next
  pub heads : c.heads ≡ b.heads
  pub mem : c.mem ≡ b.mem

-- one more message may be added, whose payload lies there
pub record Ready (b : Book) (place : Place) : Type 0 where
  pub quiet : any_pending (told b) ≡ false
  pub room : vec_len b.heads < vec_capacity b.heads
  pub within : place.at + place.len ≤ length (mem_of b)
  pub small : place.len ≤ 1152
  pub low : b.next < 2 ^ 62

abbrev pub new_head : ℕ → ℕ → Kind → DiskPtr → Place → Head
new_head l p k o place = record { lsn = l; pointer = o; page = p; kind = k; place = place; status = Pending }

pub record Appended (b c : Book) (p : ℕ) (k : Kind) (o : DiskPtr) (place : Place) (r : Reservation) : Type 0 where
  pub number : c.number ≡ b.number
  pub stable : c.stable ≡ b.stable
  pub next : c.next ≡ b.next + 1
  pub mem : c.mem ≡ b.mem
  pub heads : heads_of c ≡ heads_of b ++ (new_head b.next p k o place ∷ [])
  pub cap : vec_capacity c.heads ≡ vec_capacity b.heads
  pub mine : r.log ≡ b.number
  pub lsn : r.lsn ≡ b.next
  pub pointer : r.pointer ≡ o

pub record Extended (b c : Book) (bytes : List ℕ) : Type 0 where
  pub number : c.number ≡ b.number
  pub stable : c.stable ≡ b.stable
  pub next : c.next ≡ b.next
  pub heads : c.heads ≡ b.heads
  pub mem : mem_of c ≡ mem_of b ++ bytes
  pub cap : vec_capacity b.mem ≤ vec_capacity c.mem

-- a book of no messages, with this number, in this room for headers and over this memory
pub record Begun (n : ℕ) (room : Vec Head Global) (m : Vec ℕ Global) (b : Book) : Type 0 where
  pub number : b.number ≡ n
  pub stable : b.stable ≡ 0
  pub next : b.next ≡ 1
  pub heads : heads_of b ≡ []
  pub cap : vec_capacity b.heads ≡ vec_capacity room
  pub mem : b.mem ≡ m

pub record Compacted (b c : Book) : Type 0 where
  pub number : c.number ≡ b.number
  pub stable : c.stable ≡ b.stable
  pub next : c.next ≡ b.next
  pub mem : c.mem ≡ b.mem
  pub heads : heads_of c ≡ lives (heads_of b)
  pub cap : vec_capacity c.heads ≡ vec_capacity b.heads

pub record Overwritten (b c : Book) (at : ℕ) (bytes : List ℕ) : Type 0 where
  pub number : c.number ≡ b.number
  pub stable : c.stable ≡ b.stable
  pub next : c.next ≡ b.next
  pub heads : c.heads ≡ b.heads
  pub mem : mem_of c ≡ put_mid at (length bytes) (mem_of b) bytes
  pub long : length (mem_of c) ≡ length (mem_of b)
