-- What is read of the slots of the two disks that are worked by hand.
use Rattle.std.proofs.Common.{◌≡◌, ℕ, ◌<◌, true, List, take, get_or, Option, Some, None, Ok, refl, ap, arith}
use Rattle.std.proofs.lemmas.Bool.Decides.{nat_tests}
use Rattle.lvm_num.specs.declared.descriptor.Mode.{Mode}
use Rattle.lvm_num.specs.declared.descriptor.Mode.TheVariants.{Active, Passive, Off}
use Rattle.lvm_num.specs.declared.record.Kind.{Kind}
use Rattle.lvm_num.specs.declared.record.Kind.TheVariants as kind
use Rattle.lvm_num.specs.Name.{is_name}
use Rattle.lvm_num.specs.Buffer.{zero_sector}
use Rattle.lvm_num.specs.DescriptorBytes.{version_at, member_at, members_at, volume_at, volumes_at, partition_at, partitions_at, maps_at, member_count_at, descriptor_of, descriptor_bytes}
use Rattle.lvm_num.specs.Record.{kind_magic, stamp_lt}
use Rattle.lvm_kept.specs.Examples.{two}

pub first_partition : (lp : ℕ) → lp < 1 → lp ≡ 0
first_partition lp low = omega arith

pub group_read : (mode : Mode) → descriptor_of (descriptor_bytes (two mode)) ≡ Ok (two mode)
unfolding is_name version_at member_at members_at volume_at volumes_at partition_at partitions_at maps_at member_count_at descriptor_of
group_read Active = refl
group_read Passive = refl
group_read Off = refl

pub no-magic : (kind : Kind) → take 2 zero_sector ≡ kind_magic kind → ⊥
no-magic kind.Descriptor e = absurd (omega (arith, ap (λ (l : List ℕ). get_or l 0 0) e))
no-magic kind.Status e = absurd (omega (arith, ap (λ (l : List ℕ). get_or l 0 0) e))

pub never_before : (epoch seq : ℕ) → stamp_lt (record { epoch = epoch; seq = seq }) (record { epoch = 0; seq = 0 }) ≡ true → ⊥
never_before epoch seq h = grind (arith, nat_tests)

pub none_or : {X : Type 0} (o : Option X) → ((x : X) → o ≡ Some x → ⊥) → o ≡ None
none_or None h = refl
none_or (Some x) h = absurd (h x refl)
