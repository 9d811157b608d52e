-- What the disks show of a group whose records are restated: it is found as before, with the next status.
use Rattle.std.specs.Prelude.{◌≡◌, ℕ, Some, option_map}
use Rattle.lvm_num.specs.declared.descriptor.Descriptor.{Descriptor}
use Rattle.lvm_num.specs.declared.status.Status.{Status}
use Rattle.lvm_num.specs.Disks.{Disks}
use Rattle.lvm_num.specs.Record.{Stamped}
use Rattle.lvm_kept.specs.Contents.{Contents}
use Rattle.lvm_kept.specs.Group.{Finds, descriptor_among, is_voter, status_among}
use Rattle.lvm_write.specs.Next.{IsNextStatus}

-- The group is found as before, and the next status of it.
pub record Restated (old new : Contents) (disks : Disks) (group : Descriptor) : Type 0 where
  pub found : Finds old disks group.id group
  pub same_disks : new.disks ≡ old.disks
  pub same_sizes : new.size ≡ old.size
  pub descriptor : option_map (λ r. r.value) (descriptor_among new disks group.id) ≡ Some group
  pub was : Stamped Status
  pub was_found : status_among old disks group.id ≡ Some was
  pub status : Stamped Status
  pub status_found : status_among new disks group.id ≡ Some status
  pub next : IsNextStatus group (is_voter old disks group.id) was status.value
