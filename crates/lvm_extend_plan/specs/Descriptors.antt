-- The descriptors of a group on the way to one with more members.
use Rattle.std.specs.Prelude.{ℕ, false, List, [], ◌∷◌, ◌++◌, map, Option, find}
use Rattle.lvm_num.specs.declared.descriptor.PvRow.{PvRow}
use Rattle.lvm_num.specs.declared.descriptor.Descriptor.{Descriptor}
use Rattle.lvm_num.specs.Descriptor.{is_member}
use Rattle.lvm_group.specs.NewGroup.{member_for}

-- the group with a member more, which comes last; two are even no more
abbrev pub with_member : PvRow → Descriptor → Descriptor
with_member row d = record d { pvs = d.pvs ++ row ∷ []; even = false }

-- what it comes to: these disks, of a shelf with these sizes, are its last members
abbrev pub extended : List ℕ → List ℕ → Descriptor → Descriptor
extended sizes disks d = record d { pvs = d.pvs ++ map (member_for sizes d.mib) disks; even = false }

-- the first of the disks that is a member
abbrev pub first_member : Descriptor → List ℕ → Option ℕ
first_member d disks = find (is_member d) disks
