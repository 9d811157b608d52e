-- All that a new group takes memory for.
use Rattle.std.specs.Prelude.{◌≡◌, ◌≢◌, ◌⊎◌, ◌≤◌, ℕ, List, length, None, IsTrue, AllPairs}
use Rattle.lvm_num.specs.Descriptor.{IsValid, is_size}
use Rattle.lvm_num.specs.Status.{IsValidStatus}
use Rattle.lvm_num.specs.DescriptorBytes.{descriptor_bytes}
use Rattle.lvm_num.specs.StatusBytes.{status_bytes}
use Rattle.lvm_num.specs.Disks.{has}
use Rattle.lvm_core.specs.passed.Quorum.{Choice}
use Rattle.lvm_core.specs.passed.SessionStart.{IsOneGroup}
use Rattle.lvm_core.specs.declared.parts.Room.{Room}
use Rattle.lvm_core.specs.declared.refused.Cause.{Cause}
use Rattle.lvm_core.specs.declared.refused.Cause.TheVariants as cause
use Rattle.lvm_core.specs.Starting.{IsReservedFor}
use Rattle.lvm_group.specs.declared.plan.Plan.{Plan}
use Rattle.lvm_group.specs.NewGroup.{NewGroup, among, size_for, descriptor_for, status_for, first_absent, first_too_small, MayMakeGroup, RefusesFirst}

-- A group can be made of these disks with partitions of so many MiB: there are some, at most 32 and none twice, each is there, and a partition fits on each.
pub record CanBeMade (sizes : List ℕ) (mib : ℕ) (disks : List ℕ) (moment : ℕ) : Type 0 where
  pub there : first_absent sizes disks ≡ None
  pub some : 1 ≤ length disks
  pub few : length disks ≤ 32
  pub differ : AllPairs (λ a b. a ≢ b) disks
  pub size : IsTrue (is_size mib)
  pub fit : first_too_small sizes mib disks ≡ None
  pub some_moment : moment ≢ 0

-- The descriptor and the status of the new group, which are valid, and the disks named.
pub record IsChoiceFor (sizes : List ℕ) (name : List ℕ) (mib : ℕ) (disks : List ℕ) (moment : ℕ) (choice : Choice) : Type 0 where
  pub descriptor : choice.descriptor ≡ descriptor_for sizes name mib disks moment
  pub status : choice.status ≡ status_for disks moment
  pub targets : (d : ℕ) → has choice.answering d ≡ among disks d
  pub valid : IsValid choice.descriptor
  pub stated : IsValidStatus choice.status
  pub group : IsOneGroup choice.descriptor choice.status

-- The bytes of the descriptor and of the status that were chosen, the disks that answer, and the parts of the session.
pub record IsPlanOf (choice : Choice) (room : Room) (plan : Plan) : Type 0 where
  pub descriptor : plan.descriptor ≡ descriptor_bytes choice.descriptor
  pub status : plan.status ≡ status_bytes choice.status
  pub targets : plan.targets ≡ choice.answering
  pub parts : IsReservedFor choice.descriptor choice.status room plan.parts

-- The bytes of its descriptor and of its status, which are valid, its disks, and the parts of its session.
pub record IsPlanned (sizes : List ℕ) (name : List ℕ) (mib : ℕ) (disks : List ℕ) (moment : ℕ) (room : Room) (plan : Plan) : Type 0 where
  pub valid : IsValid (descriptor_for sizes name mib disks moment)
  pub stated : IsValidStatus (status_for disks moment)
  pub descriptor : plan.descriptor ≡ descriptor_bytes (descriptor_for sizes name mib disks moment)
  pub status : plan.status ≡ status_bytes (status_for disks moment)
  pub targets : (d : ℕ) → has plan.targets d ≡ among disks d
  pub parts : IsReservedFor (descriptor_for sizes name mib disks moment) (status_for disks moment) room plan.parts

-- The plan is one of this group, which may begin with so many entries to spare on disks of these sizes.
pub record IsPlannedFor (w : NewGroup) (room : Room) (spare : ℕ) (sizes : List ℕ) (plan : Plan) : Type 0 where
  pub may : MayMakeGroup sizes spare w.disks w.mib
  pub size : 1 ≤ size_for sizes w.disks w.mib
  pub planned : IsPlanned sizes w.name (size_for sizes w.disks w.mib) w.disks w.moment room plan

-- Why there is none: something stands against the group before any disk is read, or nothing does and memory is wanting.
abbrev pub RefusesPlan : NewGroup → ℕ → List ℕ → Cause → Type 0
RefusesPlan w spare sizes why = ((why ≡ cause.Memory) × MayMakeGroup sizes spare w.disks w.mib) ⊎ RefusesFirst sizes spare w.disks w.mib why
