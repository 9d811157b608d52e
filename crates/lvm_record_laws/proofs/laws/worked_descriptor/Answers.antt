use Rattle.std.proofs.Common.{refl}
use Rattle.lvm_num.specs.Name.{is_name}
use Rattle.lvm_num.specs.DescriptorBytes.{version_at, member_at, members_at, volumes_at, maps_at, member_count_at, descriptor_of}
use Rattle.lvm_record_laws.proofs.laws.worked_descriptor.Goals as goal

pub returns : goal.returns
unfolding is_name version_at member_at members_at volumes_at maps_at member_count_at descriptor_of
returns c = record { spelled = refl; read = refl; flag = refl; short = refl; long = refl }
