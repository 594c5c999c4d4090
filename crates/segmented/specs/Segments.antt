-- What a segmented log means. Assumes nothing.
use Rattle.std.specs.Prelude.{Ok, Err, Result, ◌/◌, ◌≡◌, ℕ, ◌+◌, ◌*◌, ◌^◌, ◌<◌, ◌≤◌, Bool, true, false, cond, ◌⊎◌, List, [], ◌∷◌, ◌++◌, length, Some, None, vec_len, vec_capacity, Option, nat_le, nat_lt, ◌&&◌, ◌||◌}
use Rattle.logs.specs.declared.messages.Kind.{Kind}
use Rattle.logs.specs.declared.reservation.Reservation.{Reservation}
use Rattle.logs.specs.Meaning.{Meaning, any_pending}
use Rattle.logs.specs.Clauses.{fresh}
use Rattle.book.specs.declared.book.Book.{Book}
use Rattle.book.specs.declared.head.Head.{Head}
use Rattle.book.specs.declared.head.Place.{Place}
use Rattle.fault.specs.declared.disk_pointer.DiskPtr.{DiskPtr}
use Rattle.fault.specs.Pointers.{lid_of}
use Rattle.logs.specs.declared.log_fault.LogFault.{LogFault}
use Rattle.logs.specs.declared.log_fault.LogFault.TheVariants.{Full}
use Rattle.book.specs.Heads.{lives}
use Rattle.book.specs.Books.{heads_of, told, book_means, new_head, Ready, Compacted}
use Rattle.segmented.specs.declared.segmented.Segmented.{Segmented}
use Rattle.segmented.specs.Layout.{free_seg, free_slot, some_below, placed, Rival, Sparse, Lowest}
use Rattle.logs.specs.declared.messages.Status.TheVariants.{Pending}

-- there is a position, and so many bytes in the active segment or a free one
abbrev pub room_among : ℕ → ℕ → ℕ → ℕ → List Head → ℕ → Bool
room_among segs a f next hs need = nat_lt next (2 ^ 62) && ((nat_le (f + need) 4096) || some_below (free_seg a hs) segs)

-- a payload of n bytes fits: up to 512 in a segment, up to 1,152 in a free slot
abbrev pub fits_among : ℕ → ℕ → ℕ → ℕ → ℕ → List Head → ℕ → Bool
fits_among segs slots a f next hs n = cond (nat_le n 512) (room_among segs a f next hs (32 + n)) (nat_le n 1152 && (some_below (free_slot hs) slots && room_among segs a f next hs 32))

-- the same of a book
abbrev pub ready : ℕ → ℕ → ℕ → Book → ℕ → Bool
ready segs a f b need = room_among segs a f b.next (heads_of b) need

abbrev pub seg_fits : ℕ → ℕ → ℕ → ℕ → Book → ℕ → Bool
seg_fits segs slots a f b n = fits_among segs slots a f b.next (heads_of b) n

abbrev pub seg_means : Segmented → Meaning
seg_means s = book_means (seg_fits s.segs s.slots s.active s.fill) (λ b. ready s.segs s.active s.fill b 32) s.book

-- a log that was just made
abbrev pub empty_segmented : ℕ → ℕ → ℕ → Meaning
empty_segmented number segs slots = record { number = number; messages = []; fits = fits_among segs slots 0 0 1 []; fits_pointer = room_among segs 0 0 1 [] 32; stable = 0 }

-- there is room for one more message of so many bytes
pub record Able (s : Segmented) (need : ℕ) : Type 0 where
  pub quiet : any_pending (told s.book) ≡ false
  pub room : vec_len s.book.heads < vec_capacity s.book.heads
  pub low : s.book.next < 2 ^ 62
  pub there : s.fill + need ≤ 4096

-- so many bytes are there, and no message has left but dead and cancelled ones
pub record Prepared (s t : Segmented) (need : ℕ) : Type 0 where
  pub number : t.book.number ≡ s.book.number
  pub stable : t.book.stable ≡ s.book.stable
  pub next : t.book.next ≡ s.book.next
  pub mem : t.book.mem ≡ s.book.mem
  pub heads : (heads_of t.book ≡ heads_of s.book) ⊎ (heads_of t.book ≡ lives (heads_of s.book))
  pub segs : t.segs ≡ s.segs
  pub slots : t.slots ≡ s.slots
  pub able : Able t need

abbrev pub OnReady : Segmented → Segmented → ℕ → ℕ → Result Unit LogFault → Type 0
OnReady s t p need (Ok u) = Prepared s t need × (ready s.segs s.active s.fill s.book need ≡ true)
OnReady s t p need (Err f) = (t ≡ s) × (f ≡ Full p) × (ready s.segs s.active s.fill s.book need ≡ false)

-- dead and cancelled messages have left
pub record Swept (s t : Segmented) : Type 0 where
  pub book : Compacted s.book t.book
  pub segs : t.segs ≡ s.segs
  pub slots : t.slots ≡ s.slots
  pub fill : t.fill ≡ s.fill

-- one more message may be added, whose header lies next in the active segment and takes so many bytes of it
pub record Next (s : Segmented) (p : ℕ) (k : Kind) (o : DiskPtr) (place : Place) (taken : ℕ) : Type 0 where
  pub ready : Ready s.book place
  pub here : lid_of o / 4096 ≡ s.active
  pub least : 32 ≤ taken
  pub there : s.fill + taken ≤ 4096
  pub placed : placed s.segs s.slots s.active (s.fill + taken) (new_head s.book.next p k o place) ≡ true

-- one more message, pending
pub record Put (s t : Segmented) (p : ℕ) (k : Kind) (bytes : List ℕ) (r : Reservation) : Type 0 where
  pub number : t.book.number ≡ s.book.number
  pub stable : t.book.stable ≡ s.book.stable
  pub mine : r.log ≡ s.book.number
  pub lsn : r.lsn ≡ s.book.next
  pub after : told t.book ≡ told s.book ++ (fresh p k bytes (length bytes + 32) r Pending ∷ [])

-- of the closed segments, the lowest of those with the fewest live messages, 1 to 3: its lowest page, and where it starts
abbrev pub Proposes : Segmented → Option (ℕ × ℕ) → Type 0
Proposes s None = Rival (heads_of s.book) s.active s.segs 4
Proposes s (Some x) = (q : ℕ) × (m : ℕ) × (x.1 ≡ q * 4096) × Sparse (heads_of s.book) s.active s.segs m (Some q) × Lowest q (heads_of s.book) (Some x.0)
