-- How many rows, and how many partitions, are read by how one is.
use Rattle.std.proofs.Common.{ℕ, List, refl}
use Rattle.lvm_num.specs.declared.place.Pp.{Pp}
use Rattle.lvm_num.specs.declared.descriptor.PvRow.{PvRow}
use Rattle.lvm_num.specs.declared.descriptor.LvRow.{LvRow}
use Rattle.lvm_num.specs.DescriptorBytes.{member_at, members_at, volume_at, volumes_at, partition_at, partitions_at}
use Rattle.lvm_fields.proofs.ReadingLemmas.{Repeats}

pub members_repeat : Repeats PvRow member_at members_at
unfolding members_at
members_repeat = record { none = λ items rest. refl; next = λ n items rest. refl }

pub volumes_repeat : (big : _) → Repeats LvRow (volume_at big) (volumes_at big)
unfolding volumes_at
volumes_repeat big = record { none = λ items rest. refl; next = λ n items rest. refl }

pub partitions_repeat : (members : List PvRow) (used : List Pp) (copies : ℕ) → Repeats Pp (partition_at members used copies) (partitions_at members used copies)
unfolding partitions_at
partitions_repeat members used copies = record { none = λ items rest. refl; next = λ n items rest. refl }
