-- A table that is marked with the copies that are left behind, as the next status of a session.
use Rattle.std.specs.Prelude.{◌≡◌, ℕ, Some, IsTrue}
use Rattle.lvm_num.specs.declared.descriptor.Descriptor.{Descriptor}
use Rattle.lvm_num.specs.declared.status.Status.{Status}
use Rattle.lvm_num.specs.Disks.{Disks}
use Rattle.lvm_num.specs.Descriptor.{IsValid}
use Rattle.lvm_num.specs.Record.{Stamped}
use Rattle.lvm_kept.specs.Contents.{Contents}
use Rattle.lvm_status.specs.Marking.{MarksLost, IsLeftIn}
use Rattle.lvm_status.specs.Update.{Stored}
use Rattle.lvm_commit.specs.Committed.{MayMark}
use Rattle.lvm_commit.specs.Settling.{there as not_missing, NoneIsLeft}
use Rattle.lvm_even.specs.Members.{members_showing}
use Rattle.lvm_even.specs.Even.{MissingAreStale}

-- It may follow, whoever has become missing, and leaves no fresh copy behind.
abbrev pub MarkedMayFollow : Type 0
MarkedMayFollow = (c : Contents) (group : Descriptor) (there : Disks) (was next : Status)
    → IsValid group → ((d : ℕ) → IsTrue (there d) → IsTrue (members_showing c group d)) → MarksLost there (IsLeftIn there was group.lvs) was next → MayMark c group was next

abbrev pub MarkedLeavesNone : Type 0
MarkedLeavesNone = (c : Contents) (group : Descriptor) (there : Disks) (was : Status) (next : Stamped Status)
    → IsValid group → MarksLost there (IsLeftIn there was group.lvs) was next.value → MissingAreStale c group (Some next) there

-- Where nothing of what a session wants of its status leaves a copy behind, none is behind by that status.
abbrev pub NoneIsLeftBehind : Type 0
NoneIsLeftBehind = (c : Contents) (group : Descriptor) (u : Stored) (status : Stamped Status) → status.value ≡ u.wanted → NoneIsLeft group u → MissingAreStale c group (Some status) (not_missing u)
