-- How a group comes to stand.
use Rattle.std.proofs.Common.{◌≡◌, ℕ, Some}
use Rattle.lvm_num.specs.declared.descriptor.Descriptor.{Descriptor}
use Rattle.lvm_num.specs.Disks.{Disks}
use Rattle.lvm_num.specs.Record.{Stamped}
use Rattle.lvm_num.proofs.RecordLemmas.Newest.{is_one}
use Rattle.std.proofs.lemmas.Bool.{eqb-true}
use Rattle.lvm_kept.specs.Contents.{Contents}
use Rattle.lvm_kept.specs.Group.{is_of, descriptor_among, Finds}
use Rattle.lvm_kept.proofs.CommittedLemmas.Finding.{is_offered, offered}

-- what is found, some disk shows
pub record Shown (c : Contents) (id : ℕ) (g : Descriptor) : Type 0 where
  pub disk : ℕ
  pub newest : Stamped Descriptor
  pub there : c.descriptor disk ≡ Some newest
  pub of : newest.value.id ≡ id
  pub is : newest.value ≡ g

pub shown : (c : Contents) (disks : Disks) (id : ℕ) (g : Descriptor) → Finds c disks id g → Shown c id g
unfolding descriptor_among
shown c disks id g f =
    let one = is_one Descriptor (offered (is_of id) c.descriptor disks) c.disks f.newest f.found in
    let at = is_offered (is_of id) c.descriptor disks one.0 f.newest one.2 in
    record { disk = one.0; newest = f.newest; there = at.0; of = eqb-true f.newest.value.id id at.1; is = f.is }
