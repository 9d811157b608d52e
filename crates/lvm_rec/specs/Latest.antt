-- The newest record of a disk, and the slot that has it.
use Rattle.std.specs.Prelude.{◌≡◌, ℕ, ◌≤◌, Option, Some, None, if◌then◌else◌}
use Rattle.lvm_num.specs.declared.record.Stamp.{Stamp}
use Rattle.lvm_num.specs.Record.{Stamped, stamp_lt}
use Rattle.lvm_rec.specs.declared.latest.Found.{Found}

-- a value that was found, under its stamp
abbrev pub under : {X : Type 0} → Option X → Stamp → Option (Stamped X)
under None stamp = None
under (Some x) stamp = Some (record { stamp = stamp; value = x })

-- a record that was found, under its stamp
abbrev pub stamped_found : {X : Type 0} → Option (Found X) → Option (Stamped X)
stamped_found None = None
stamped_found (Some found) = Some (record { stamp = found.stamp; value = found.value })

-- the slot with the newer of two records, 2 where there is none
abbrev pub home_of : {X : Type 0} → Option (Stamped X) → Option (Stamped X) → ℕ
home_of None None = 2
home_of None (Some b) = 1
home_of (Some a) None = 0
home_of (Some a) (Some b) = if stamp_lt a.stamp b.stamp then 1 else 0

-- the stamp of a record that was found and the slot that has it, which without one are (0, 0) and 2
abbrev pub IsHome : {X : Type 0} → Option X → Stamp → ℕ → Type 0
IsHome None stamp home = (stamp ≡ record { epoch = 0; seq = 0 }) × (home ≡ 2)
IsHome (Some x) stamp home = home ≤ 1
