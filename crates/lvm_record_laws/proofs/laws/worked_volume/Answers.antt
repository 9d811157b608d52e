use Rattle.std.proofs.Common.{refl}
use Rattle.lvm_num.specs.Name.{is_name}
use Rattle.lvm_num.specs.DescriptorBytes.{version_at, member_at, members_at, volume_at, volumes_at, partition_at, partitions_at, maps_at, member_count_at, descriptor_of}
use Rattle.lvm_record_laws.proofs.laws.worked_volume.Goals as goal

pub returns : goal.returns
unfolding is_name version_at member_at members_at volume_at volumes_at partition_at partitions_at maps_at member_count_at descriptor_of
returns c = record { read = refl; strict = refl; twice = refl; even = refl }
