-- What a driver tells those who share it.
use Rattle.std.specs.Prelude.{ℕ, Bool, true, false, List, [], ◌∷◌, Option, length, map, slice_index_or}
use Rattle.std.specs.List.{flat_map, range_with_len}
use Rattle.std.specs.Option.{option_map}
use Rattle.lvm_num.specs.Buffer.{Sector}
use Rattle.lvm_num.specs.declared.descriptor.LvRow.{LvRow}
use Rattle.lvm_num.specs.Geometry.{volume_blocks}
use Rattle.lvm_disk.specs.Counts.{Counts}
use Rattle.lvm_disk.specs.Device.{Device, Media}
use Rattle.lvm_vol.specs.Fronts.{Told}
use Rattle.lvm_session.specs.declared.open.Power.{Power}
use Rattle.lvm_session.specs.declared.open.Power.TheVariants as power
use Rattle.lvm_session.specs.State.{Core, State}
use Rattle.lvm_session.specs.Sound.{count_if, is_dark}

-- the sectors of each disk of a shelf, where it tells them
abbrev pub image_of : Device → Option (List (List Sector))
image_of device = option_map (λ (media : Media). map (λ (d : ℕ). map (media d) (range_with_len 0 (slice_index_or device.sizes d 0))) (range_with_len 0 (length device.sizes))) device.media

-- each volume's number and its blocks
abbrev pub volumes_of : Core → List ℕ
volumes_of core = flat_map (λ (row : LvRow). row.number ∷ volume_blocks core.descriptor.mib row.lps ∷ []) core.descriptor.lvs

-- what never changes while it is lent: the run, the rooms, the orders that its shelf was given, and its volumes
abbrev pub fixed_by : State → List ℕ
fixed_by s = s.core.history.run ∷ s.core.history.room ∷ s.core.history.bytes ∷ s.core.most ∷ length s.core.pool ∷ s.device.orders.made ∷ volumes_of s.core

-- the session went off
abbrev pub is_off : Power → Bool
is_off power.On = false
is_off power.Off = true
is_off power.Dark = false
is_off power.Stuck = false

-- the counts of a shelf for each of its first disks
abbrev pub counts_of : Counts → ℕ → List ℕ
counts_of counts disks = flat_map (λ (d : ℕ). counts.starts d ∷ counts.misses d ∷ counts.faults d ∷ []) (range_with_len 0 disks)

-- what never falls: whether it is off, whether it is dark, the last sequence number, and the counts of its shelf
abbrev pub counts_by : State → List ℕ
counts_by s = count_if (is_off s.core.power) ∷ count_if (is_dark s.core.power) ∷ s.core.status.stamp.seq ∷ s.device.counts.cuts ∷ s.device.counts.waits ∷ counts_of s.device.counts (length s.device.sizes)

-- what it tells
abbrev pub told_by : State → Told
told_by s = record { entries = s.core.history.facts; fixed = fixed_by s; counts = counts_by s }
