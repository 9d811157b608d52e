-- What a quorum finds while a record of a group is being written, and after.
use Rattle.std.specs.Prelude.{◌≡◌, ◌⊎◌, ℕ, ◌<◌, ◌≤◌, Bool, true, length, Option, Some, IsTrue}
use Rattle.lvm_disk.specs.passed.Num.{Descriptor, Status, Disks, Stamped, stamp_lt, all_disks, CanWrite}
use Rattle.lvm_disk.specs.Device.{Image}
use Rattle.lvm_kept.specs.Contents.{Contents, contents_of}
use Rattle.lvm_kept.specs.Group.{is_of, is_status_of, is_voter, status_among, Finds, IsFound, IsOneFound, IsOnlyGroup}

-- the two give each set of disks the same votes
pub record SameVotes (a b : Descriptor) : Type 0 where
  pub members : a.pvs ≡ b.pvs
  pub even : a.even ≡ b.even
  pub quorum : a.quorum ≡ b.quorum

-- The disks of a set have this record of the group or the next one, and no disk has another one that isn't earlier.
pub record StandsOnSet {X : Type 0} (of : X → Bool) (on : ℕ → Option (Stamped X)) (set : Disks) (now next : Stamped X) : Type 0 where
  pub own : IsTrue (of now.value)
  pub next_own : IsTrue (of next.value)
  pub later : (next ≡ now) ⊎ (stamp_lt now.stamp next.stamp ≡ true)
  pub have : (d : ℕ) → IsTrue (set d) → (on d ≡ Some now) ⊎ (on d ≡ Some next)
  pub newest : (d : ℕ) (r : Stamped X) → on d ≡ Some r → IsTrue (of r.value) → (stamp_lt r.stamp now.stamp ≡ true) ⊎ (r ≡ now) ⊎ (r ≡ next)

abbrev pub StatusStands : Contents → ℕ → Disks → Stamped Status → Stamped Status → Type 0
StatusStands c id set now next = StandsOnSet (is_status_of id) c.status set now next

abbrev pub DescriptorStands : Contents → ℕ → Disks → Stamped Descriptor → Stamped Descriptor → Type 0
DescriptorStands c id set now next = StandsOnSet (is_of id) c.descriptor set now next

-- some voter of the quorum is in the set
abbrev pub Meets : Contents → Disks → ℕ → Disks → Type 0
Meets c disks id set = (d : ℕ) × IsTrue (is_voter c disks id d) × IsTrue (set d)

-- records stand on disks that are there
pub record IsWithinDisks (c : Contents) : Type 0 where
  pub descriptors : (d : ℕ) (r : Stamped Descriptor) → c.descriptor d ≡ Some r → d < c.disks
  pub statuses : (d : ℕ) (r : Stamped Status) → c.status d ≡ Some r → d < c.disks

-- records of an image do
abbrev pub ImagesAreWithin : Type 0
ImagesAreWithin = (image : Image) → IsWithinDisks (contents_of image)

-- A quorum meets each set whose votes are enough to write.
abbrev pub QuorumMeetsWriters : Type 0
QuorumMeetsWriters = (c : Contents) (disks : Disks) (id : ℕ) (g group : Descriptor) (set : Disks) → Finds c disks id g → SameVotes g group → CanWrite group set → Meets c disks id set

-- Two quorums of one group meet: they have a common voter.
abbrev pub QuorumsMeet : Type 0
QuorumsMeet = (c : Contents) (a b : Disks) (id : ℕ) (g h : Descriptor) → Finds c a id g → Finds c b id h → SameVotes g h → 1 ≤ length g.pvs → Meets c a id (is_voter c b id)

-- One that meets the disks that have a status or the next finds one of the two.
abbrev pub QuorumFindsStatus : Type 0
QuorumFindsStatus =
    (c : Contents) (id : ℕ) (set : Disks) (now next : Stamped Status) → IsWithinDisks c → StatusStands c id set now next
    → (disks : Disks) (g : Descriptor) → Finds c disks id g → Meets c disks id set → (status_among c disks id ≡ Some now) ⊎ (status_among c disks id ≡ Some next)

-- So with descriptors.
abbrev pub QuorumFindsDescriptor : Type 0
QuorumFindsDescriptor =
    (c : Contents) (id : ℕ) (set : Disks) (now next : Stamped Descriptor) → IsWithinDisks c → DescriptorStands c id set now next
    → (disks : Disks) (g : Descriptor) → Finds c disks id g → Meets c disks id set → (g ≡ now.value) ⊎ (g ≡ next.value)

-- Where a later record is being written to some disks, it is the next one,
abbrev pub NextIsWritten : Type 0 → Type 0
NextIsWritten X =
    (of : X → Bool) (old new : ℕ → Option (Stamped X)) (set targets : Disks) (now next : Stamped X)
    → StandsOnSet of old set now now → ((d : ℕ) → (new d ≡ old d) ⊎ (IsTrue (targets d) × (new d ≡ Some next))) → IsTrue (of next.value) → stamp_lt now.stamp next.stamp ≡ true
    → StandsOnSet of new set now next

-- and it alone stands on the disks that have it.
abbrev pub NextIsCommitted : Type 0 → Type 0
NextIsCommitted X =
    (of : X → Bool) (on : ℕ → Option (Stamped X)) (set reached : Disks) (now next : Stamped X)
    → StandsOnSet of on set now next → stamp_lt now.stamp next.stamp ≡ true → ((d : ℕ) → IsTrue (reached d) → on d ≡ Some next) → StandsOnSet of on reached next next

-- ---- descriptors of one group

-- Where what is found is of one group, no set of disks finds another one than that which one finds.
abbrev pub OneFoundIsOnly : Type 0
OneFoundIsOnly = (c : Contents) (g : Descriptor) → IsOneFound c → IsFound c g.id g → IsOnlyGroup c g.id

-- It is so where all that disks show is of one group.
abbrev pub OneShownIsOne : Type 0
OneShownIsOne = (c : Contents) → ((d e : ℕ) (r s : Stamped Descriptor) → c.descriptor d ≡ Some r → c.descriptor e ≡ Some s → r.value.id ≡ s.value.id) → IsOneFound c
