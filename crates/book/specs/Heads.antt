-- What a header means over a memory. Assumes nothing.
use Rattle.std.specs.Prelude.{◌≡◌, ℕ, ◌+◌, ◌<◌, ◌≤◌, Bool, true, not, List, [], ◌∷◌, length, take, drop, Some, None, Option, ◌≢◌, nat_le, nat_lt, slice_index_or, ◌&&◌, map}
use Rattle.logs.specs.declared.messages.Status.{Status}
use Rattle.logs.specs.declared.messages.Status.TheVariants as status
use Rattle.fault.specs.declared.disk_pointer.DiskPtr.{DiskPtr}
use Rattle.book.specs.declared.head.Head.{Head}
use Rattle.logs.specs.Meaning.{Message, is_live, is_pending}
use Rattle.std.specs.List.{filter}
use Rattle.fault.specs.Pointers.{is_blob}

-- the bytes that a header stands for
abbrev pub payload_of : List ℕ → Head → List ℕ
payload_of mem h = take h.place.len (drop h.place.at mem)

abbrev pub message : List ℕ → Head → Message
message mem h = record { lsn = h.lsn; pointer = h.pointer; page = h.page; kind = h.kind; payload = payload_of mem h; size = h.place.len + 32; state = h.status }

abbrev pub messages : List ℕ → List Head → List Message
messages mem hs = map (message mem) hs

abbrev pub with_status : Status → Head → Head
with_status s h = record { lsn = h.lsn; pointer = h.pointer; page = h.page; kind = h.kind; place = h.place; status = s }

-- the headers but for what may change of them
abbrev pub bare : List Head → List Head
bare hs = map (with_status status.Dead) hs

-- positions rise, from above lo to below next, and every payload lies within the memory and is short enough
abbrev pub Ranked : ℕ → ℕ → ℕ → List Head → Type 0
Ranked lo next room [] = Unit {0}
Ranked lo next room (h ∷ hs) = (lo < h.lsn) × (h.lsn < next) × (h.place.at + h.place.len ≤ room) × (h.place.len ≤ 1152) × Ranked h.lsn next room hs

-- the same as a test
abbrev pub ranked : ℕ → ℕ → ℕ → List Head → Bool
ranked lo next room [] = true
ranked lo next room (h ∷ hs) = nat_lt lo h.lsn && (nat_lt h.lsn next && ((nat_le (h.place.at + h.place.len) room) && (nat_le h.place.len 1152 && ranked h.lsn next room hs)))

-- no message but the last is pending
abbrev pub calm : List Head → Bool
calm [] = true
calm (h ∷ []) = true
calm (h ∷ g ∷ hs) = not (is_pending h.status) && (calm (g ∷ hs))

-- the index of a position
abbrev pub At : List Head → ℕ → Option ℕ → Type 0
At hs l None = (k : ℕ) (d : Head) → k < length hs → (slice_index_or hs k d).lsn ≢ l
At hs l (Some i) = (i < length hs) × ((d : Head) → (slice_index_or hs i d).lsn ≡ l)

-- the index of the message at a position and pointer that has a status
abbrev pub AtStatus : List Head → ℕ → DiskPtr → Status → Option ℕ → Type 0
AtStatus hs l o s None = (k : ℕ) (d : Head) → k < length hs → ((slice_index_or hs k d).lsn ≡ l) × ((slice_index_or hs k d).pointer ≡ o) × ((slice_index_or hs k d).status ≡ s) → ⊥
AtStatus hs l o s (Some i) = (i < length hs) × ((d : Head) → ((slice_index_or hs i d).lsn ≡ l) × ((slice_index_or hs i d).pointer ≡ o) × ((slice_index_or hs i d).status ≡ s))

-- no message is a blob
abbrev pub inlined : List Head → Bool
inlined [] = true
inlined (h ∷ hs) = not (is_blob h.pointer) && inlined hs

abbrev pub live_head : Head → Bool
live_head h = is_live h.status

-- the headers of the live messages
abbrev pub lives : List Head → List Head
lives hs = filter live_head hs
