-- Where the messages of a segmented log lie. Assumes nothing.
use Rattle.std.specs.Prelude.{◌≡◌, ℕ, pos, negsuc, zero, suc, ◌+◌, ◌*◌, ◌/◌, ◌<◌, ◌≤◌, Bool, true, false, cond, not, ◌⊎◌, List, [], ◌∷◌, Some, None, Option, ◌==◌, ◌≢◌, nat_le, nat_lt, ◌&&◌, ◌||◌}
use Rattle.fault.specs.declared.disk_pointer.DiskPtr.{DiskPtr}
use Rattle.fault.specs.declared.disk_pointer.DiskPtr.TheVariants.{Inline, Blob}
use Rattle.fault.specs.Pointers.{lid_of, is_blob}
use Rattle.logs.specs.Meaning.{is_done}
use Rattle.book.specs.declared.head.Head.{Head}
use Rattle.book.specs.Heads.{live_head}
use Rattle.std.specs.List.{list_any}

-- how many bytes of its segment the message takes
abbrev pub foot_of : DiskPtr → ℕ → ℕ
foot_of (Inline x) n = 32 + n
foot_of (Blob x i) n = 32

-- where the messages of segment q end: a is active, filled to f
abbrev pub limit : ℕ → ℕ → ℕ → ℕ
limit a f q = q * 4096 + cond (q == a) f 4096

-- the payload of an inline message follows its header, and a blob's is in its slot, which is never negative
abbrev pub homed : ℕ → ℕ → DiskPtr → ℕ → ℕ → Bool
homed segs slots (Inline x) at n = at == x + 32
homed segs slots (Blob x (negsuc i)) at n = false
homed segs slots (Blob x (pos i)) at n = nat_lt i slots && ((at == segs * 4096 + i * 1152) && nat_le n 1152)

abbrev pub placed : ℕ → ℕ → ℕ → ℕ → Head → Bool
placed segs slots a f h = (nat_lt (lid_of h.pointer / 4096) segs) && ((nat_le (lid_of h.pointer + foot_of h.pointer h.place.len) (limit a f (lid_of h.pointer / 4096))) && homed segs slots h.pointer h.place.at h.place.len)

abbrev pub laid : ℕ → ℕ → ℕ → ℕ → List Head → Bool
laid segs slots a f [] = true
laid segs slots a f (h ∷ hs) = placed segs slots a f h && laid segs slots a f hs

-- the message is live or pending
abbrev pub busy_head : Head → Bool
busy_head h = not (is_done h.status)

abbrev pub in_seg : ℕ → Head → Bool
in_seg q h = lid_of h.pointer / 4096 == q

abbrev pub slot_is : ℕ → DiskPtr → Bool
slot_is i (Inline x) = false
slot_is i (Blob x (negsuc j)) = false
slot_is i (Blob x (pos j)) = j == i

abbrev pub in_slot : ℕ → Head → Bool
in_slot i h = slot_is i h.pointer

abbrev pub seg_busy : ℕ → List Head → Bool
seg_busy q hs = list_any (λ h. busy_head h && in_seg q h) hs

abbrev pub slot_busy : ℕ → List Head → Bool
slot_busy i hs = list_any (λ h. busy_head h && in_slot i h) hs

abbrev pub free_seg : ℕ → List Head → ℕ → Bool
free_seg a hs q = (not (q == a)) && not (seg_busy q hs)

abbrev pub free_slot : List Head → ℕ → Bool
free_slot hs i = not (slot_busy i hs)

-- some number below n passes
abbrev pub some_below : (ℕ → Bool) → ℕ → Bool
some_below P zero = false
some_below P (suc k) = some_below P k || P k

-- a number below n that passes, if there is one
abbrev pub Picked : (ℕ → Bool) → ℕ → Option ℕ → Type 0
Picked P n None = some_below P n ≡ false
Picked P n (Some i) = (i < n) × (P i ≡ true) × (some_below P n ≡ true)

-- the slot of a pointer: a blob's, where that is a number from 0 on
abbrev pub SlotOf : DiskPtr → Option ℕ → Type 0
SlotOf o None = (i : ℕ) → slot_is i o ≡ false
SlotOf o (Some i) = (is_blob o ≡ true) × (slot_is i o ≡ true)

abbrev pub one_if : Bool → ℕ
one_if true = 1
one_if false = 0

-- how many messages lie in a segment, and how many of its bytes they may take
abbrev pub count_seg : ℕ → List Head → ℕ
count_seg q [] = 0
count_seg q (h ∷ hs) = one_if (in_seg q h) + count_seg q hs

abbrev pub share : ℕ → ℕ → ℕ → ℕ
share a f q = cond (q == a) f 4096

-- how many live messages lie in a segment
abbrev pub count_live : ℕ → List Head → ℕ
count_live q [] = 0
count_live q (h ∷ hs) = one_if (live_head h && in_seg q h) + count_live q hs

-- every closed segment below n has no live message, or m or more
abbrev pub Rival : List Head → ℕ → ℕ → ℕ → Type 0
Rival hs a n m = (k : ℕ) → k < n → (k ≢ a) → (count_live k hs ≡ 0) ⊎ (m ≤ count_live k hs)

-- of the closed segments below n, the lowest of those with the fewest live messages, m, 1 to 3
abbrev pub Sparse : List Head → ℕ → ℕ → ℕ → Option ℕ → Type 0
Sparse hs a n m None = (m ≡ 4) × Rival hs a n 4
Sparse hs a n m (Some b) = (b < n) × (b ≢ a) × (count_live b hs ≡ m) × (0 < m) × (m < 4) × Rival hs a n m × Rival hs a b (m + 1)

abbrev pub live_in : ℕ → Head → Bool
live_in q h = live_head h && in_seg q h

-- the lowest page of the live messages in a segment
abbrev pub Lowest : ℕ → List Head → Option ℕ → Type 0
Lowest q hs None = list_any (live_in q) hs ≡ false
Lowest q hs (Some p) = (list_any (λ h. live_in q h && (h.page == p)) hs ≡ true) × (list_any (λ h. live_in q h && nat_lt h.page p) hs ≡ false)
