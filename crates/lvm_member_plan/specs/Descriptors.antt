-- The descriptors of a group on the way to one with fewer members.
use Rattle.std.specs.Prelude.{◌≡◌, ◌⊎◌, ℕ, Bool, true, false, not, ◌==◌, List, [], ◌∷◌, Option, IsTrue}
use Rattle.std.specs.List.{list_any, list_all, find}
use Rattle.lvm_num.specs.declared.place.Pp.{Pp}
use Rattle.lvm_num.specs.declared.descriptor.PvRow.{PvRow}
use Rattle.lvm_num.specs.declared.descriptor.LvRow.{LvRow}
use Rattle.lvm_num.specs.declared.descriptor.Descriptor.{Descriptor}
use Rattle.lvm_num.specs.Disks.{Disks}
use Rattle.lvm_num.specs.Descriptor.{IsValid, is_member}
use Rattle.lvm_core.specs.Committing.{is_in}
use Rattle.lvm_change_laws.specs.Rule.{staying}

-- ---- members

-- the group without its members on these disks, even or not
abbrev pub without_members : List ℕ → Bool → Descriptor → Descriptor
without_members disks even d = record d { pvs = staying (is_in disks) d.pvs; even = even }

abbrev pub with_even : Bool → Descriptor → Descriptor
with_even even d = record d { even = even }

-- what it comes to: two members are even no more
abbrev pub reduced : List ℕ → Descriptor → Descriptor
reduced disks d = without_members disks false d

-- a descriptor on the way there, without some of them, even or not
pub record IsReducedBy (disks : List ℕ) (d k : Descriptor) : Type 0 where
  pub gone : Disks
  pub among : (x : ℕ) → IsTrue (gone x) → IsTrue (is_in disks x)
  pub is : k ≡ record d { pvs = staying gone d.pvs; even = k.even }
  pub valid : IsValid k

-- it is the group's, or one on the way
abbrev pub IsOnTheWay : List ℕ → Descriptor → Descriptor → Type 0
IsOnTheWay disks d k = (k ≡ d) ⊎ IsReducedBy disks d k

-- ---- what stands against it

-- the disk is that of the first member
abbrev pub is_head : List PvRow → ℕ → Bool
is_head [] disk = false
is_head (row ∷ rows) disk = row.disk == disk

abbrev pub is_first : Descriptor → ℕ → Bool
is_first d disk = is_head d.pvs disk

-- a volume has a partition on the disk
abbrev pub is_used : Descriptor → ℕ → Bool
is_used d disk = list_any (λ (row : LvRow). list_any (λ (pp : Pp). pp.disk == disk) row.map) d.lvs

-- the first of the disks that is no member, and the first on which a volume has a partition
abbrev pub first_stranger : Descriptor → List ℕ → Option ℕ
first_stranger d disks = find (λ (x : ℕ). not (is_member d x)) disks

abbrev pub first_used : Descriptor → List ℕ → Option ℕ
first_used d disks = find (is_used d) disks

-- each member is on one of the disks
abbrev pub are_all_named : Descriptor → List ℕ → Bool
are_all_named d disks = list_all (λ (row : PvRow). is_in disks row.disk) d.pvs
