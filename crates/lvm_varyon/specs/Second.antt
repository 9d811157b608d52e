-- The status with which a group goes on once the copies of its dirty volumes are equal.
use Rattle.std.specs.Prelude.{◌≡◌, ℕ, Option, Some, None}
use Rattle.lvm_num.specs.declared.record.Stamp.{Stamp}
use Rattle.lvm_num.specs.declared.descriptor.Descriptor.{Descriptor}
use Rattle.lvm_num.specs.declared.status.Status.{Status}
use Rattle.lvm_num.specs.Disks.{Disks}
use Rattle.lvm_num.specs.Record.{Stamped}
use Rattle.lvm_varyon.specs.passed.Tidying.{IsCleaned}

-- the first status of a varyon, under sequence 2 of its moment
abbrev pub first_stated : ℕ → Status → Stamped Status
first_stated moment next = record { stamp = record { epoch = moment; seq = 2 }; value = next }

-- Where marks go, a second one: just those volumes stay dirty that have a logical partition without a usable copy. Where there is none, these are dirty already.
abbrev pub IsSecond : Descriptor → Disks → Stamped Status → Option Status → Type 0
IsSecond group there stands None = IsCleaned group there stands stands.value
IsSecond group there stands (Some clean) = IsCleaned group there stands clean × (clean ≡ stands.value → ⊥)

-- the one of the two that stands at last
abbrev pub status_after : Status → Option Status → Status
status_after next None = next
status_after next (Some clean) = clean

-- and its sequence
abbrev pub last_seq : {X : Type 0} → Option X → ℕ
last_seq None = 2
last_seq (Some second) = 3

-- the stamp of the last record that a varyon writes
abbrev pub last_stamp : ℕ → Option Status → Stamp
last_stamp moment clean = record { epoch = moment; seq = last_seq clean }

-- it under its stamp
abbrev pub last_status : ℕ → Status → Option Status → Stamped Status
last_status moment next clean = record { stamp = last_stamp moment clean; value = status_after next clean }
