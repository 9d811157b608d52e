-- How many votes the disks of a set have, and when they are enough.
use Rattle.std.specs.Prelude.{◌≤◌, ℕ, ◌*◌, Bool, true, nat_lt, nat_le, ◌==◌, if◌then◌else◌, List, [], ◌∷◌, length, sum_by, IsTrue}
use Rattle.std.specs.List.{list_any}
use Rattle.lvm_num.specs.declared.descriptor.PvRow.{PvRow}
use Rattle.lvm_num.specs.declared.descriptor.Descriptor.{Descriptor}
use Rattle.lvm_num.specs.Descriptor.{is_member}
use Rattle.lvm_num.specs.Disks.{Disks}

-- The votes of a disk: two of a single member; of two members two of the first, or one where they are even, and one
-- of the second; else one of each member. A disk that is no member has none.
unfoldable pub votes_by : Bool → List PvRow → ℕ → ℕ
votes_by even (only ∷ []) disk = if only.disk == disk then 2 else 0
votes_by even (first ∷ second ∷ []) disk = if first.disk == disk then (if even then 1 else 2) else if second.disk == disk then 1 else 0
votes_by even rows disk = if list_any (λ row. row.disk == disk) rows then 1 else 0

abbrev pub votes_of : Descriptor → ℕ → ℕ
votes_of d disk = votes_by d.even d.pvs disk

-- the votes of the members in a set
abbrev pub votes_in : Descriptor → Disks → ℕ
votes_in d set = sum_by (λ row. if set row.disk then votes_of d row.disk else 0) d.pvs

abbrev pub all_disks : Disks
all_disks disk = true

abbrev pub total_votes : Descriptor → ℕ
total_votes d = votes_in d all_disks

-- Votes with which a group varies on: more than half, or all of them where quorum checking is off.
abbrev pub is_enough_to_read : Descriptor → ℕ → Bool
is_enough_to_read d have = if d.quorum then nat_lt (total_votes d) (2 * have) else nat_le (total_votes d) have

-- Votes with which a record counts as written, and a session stays on: more than half, or any where quorum checking is off.
abbrev pub is_enough_to_write : Descriptor → ℕ → Bool
is_enough_to_write d have = if d.quorum then nat_lt (total_votes d) (2 * have) else nat_lt 0 have

-- ---- laws

-- whether the members in the set can bring a group on, and whether a record that they have counts as written
abbrev pub CanRead : Descriptor → Disks → Type 0
CanRead d set = IsTrue (is_enough_to_read d (votes_in d set))

abbrev pub CanWrite : Descriptor → Disks → Type 0
CanWrite d set = IsTrue (is_enough_to_write d (votes_in d set))

-- some member is in both sets
abbrev pub ShareMember : Descriptor → Disks → Disks → Type 0
ShareMember d a b = (disk : ℕ) × IsTrue (is_member d disk) × IsTrue (a disk) × IsTrue (b disk)

-- Each set of members that can read meets each that can write.
abbrev pub ReadMeetsWrite : Type 0
ReadMeetsWrite = (d : Descriptor) (a b : Disks) → CanRead d a → CanWrite d b → ShareMember d a b

-- Two sets of members that can read meet, whether quorum checking is on or off.
abbrev pub ReadMeetsRead : Type 0
ReadMeetsRead = (d : Descriptor) (a b : Disks) → 1 ≤ length d.pvs → CanRead d a → CanRead d b → ShareMember d a b

-- With quorum checking on, two sets of members that can write meet.
abbrev pub WriteMeetsWrite : Type 0
WriteMeetsWrite = (d : Descriptor) (a b : Disks) → IsTrue d.quorum → CanWrite d a → CanWrite d b → ShareMember d a b

-- Votes that are enough to read are enough to write.
abbrev pub ReadIsWrite : Type 0
ReadIsWrite = (d : Descriptor) (have : ℕ) → 1 ≤ length d.pvs → IsTrue (is_enough_to_read d have) → IsTrue (is_enough_to_write d have)

-- A set that has each member of another has no fewer votes.
abbrev pub MoreHaveMore : Type 0
MoreHaveMore = (d : Descriptor) (a b : Disks) → ((disk : ℕ) → IsTrue (is_member d disk) → IsTrue (a disk) → IsTrue (b disk)) → votes_in d a ≤ votes_in d b

-- More votes are enough where fewer are.
pub record MoreIsEnough : Type 0 where
  pub read : (d : Descriptor) (fewer more : ℕ) → fewer ≤ more → IsTrue (is_enough_to_read d fewer) → IsTrue (is_enough_to_read d more)
  pub write : (d : Descriptor) (fewer more : ℕ) → fewer ≤ more → IsTrue (is_enough_to_write d fewer) → IsTrue (is_enough_to_write d more)
