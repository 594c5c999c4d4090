-- Where a message lies. Assumes nothing.
use Rattle.std.specs.Prelude.{ℕ, Bool, true, false}
use Rattle.fault.specs.declared.disk_pointer.DiskPtr.{DiskPtr}
use Rattle.fault.specs.declared.disk_pointer.DiskPtr.TheVariants.{Inline, Blob}

abbrev pub is_blob : DiskPtr → Bool
is_blob (Inline lid) = false
is_blob (Blob lid ptr) = true

-- the place in the log
abbrev pub lid_of : DiskPtr → ℕ
lid_of (Inline lid) = lid
lid_of (Blob lid ptr) = lid
