-- Small groups, worked by hand: what the definitions say of them.
use Rattle.std.specs.Prelude.{◌≡◌, ℕ, Bool, true, false, not, ◌==◌, if◌then◌else◌, List, [], ◌∷◌, replicate, Option, Some, None}
use Rattle.lvm_disk.specs.passed.Num.{Mode, PvRow, LvRow, Descriptor, StatusRow, Status, Sector, zero_sector, Disks, all_disks, Stamped, Noted}
use Rattle.lvm_disk.specs.passed.NumDescriptorMode as mode
use Rattle.lvm_disk.specs.passed.NumDescriptorPolicy as policy
use Rattle.lvm_vol.specs.Standing.{Absent, Open, Settled}
use Rattle.lvm_vol.specs.May.{Known}
use Rattle.lvm_kept.specs.Contents.{Contents}
use Rattle.lvm_kept.specs.Group.{descriptor_among, is_voter, has_quorum, fresh, is_named}
use Rattle.lvm_kept.specs.Kept.{StandsAs, MayDiffer, IsBlockKept}

-- ---- the disks

-- a member of 6 partitions of 1 MiB
abbrev pub member : ℕ → PvRow
member d = record { disk = d; pps = 6; spare = false }

-- group 50 of these members, without a volume or with these
abbrev pub group_of : List PvRow → List LvRow → Descriptor
group_of pvs lvs = record { id = 50; name = 100 ∷ []; mib = 1; quorum = true; even = false; big = false; pvs = pvs; lvs = lvs }

abbrev pub stamped : {X : Type 0} → ℕ → X → Stamped X
stamped seq value = record { stamp = record { epoch = 50; seq = seq }; value = value }

-- a row on which partition 0 is stale, or nothing is
abbrev pub row_of : ℕ → Bool → StatusRow
row_of d stale = record { disk = d; missing = false; stale = (if stale then 1 else 0) ∷ replicate 126 0 }

abbrev pub status_of_rows : List StatusRow → Status
status_of_rows rows = record { id = 50; big = false; dirty = []; rows = rows }

-- disks of 8 MiB, the first n of which have this descriptor and this status
abbrev pub disks_with : ℕ → (ℕ → Bool) → Descriptor → Status → (ℕ → Option Noted) → (ℕ → ℕ → Sector) → Contents
disks_with n have g s note block = record {
  disks = n;
  size = λ d. 16384;
  descriptor = λ d. if have d then Some (stamped 2 g) else None;
  status = λ d. if have d then Some (stamped 1 s) else None;
  note = note;
  block = block;
}

abbrev pub no_note : ℕ → Option Noted
no_note d = None

abbrev pub zeros : ℕ → ℕ → Sector
zeros d s = zero_sector

abbrev pub only : ℕ → Disks
only n d = d == n

abbrev pub either_of : ℕ → ℕ → Disks
either_of a b d = if d == a then true else d == b

-- ---- a fresh group of three

abbrev pub three : Descriptor
three = group_of (member 0 ∷ member 1 ∷ member 2 ∷ []) []

abbrev pub of_three : Contents
of_three = disks_with 4 (λ d. not (d == 3)) three (status_of_rows (row_of 0 false ∷ row_of 1 false ∷ row_of 2 false ∷ [])) no_note zeros

-- Any two of the three hold a quorum, one doesn't; the fourth disk is no voter, and no other group is there.
pub record FreshThree : Type 0 where
  pub all : has_quorum of_three all_disks 50 ≡ true
  pub two : has_quorum of_three (either_of 0 2) 50 ≡ true
  pub one : has_quorum of_three (only 1) 50 ≡ false
  pub found : descriptor_among of_three (either_of 0 2) 50 ≡ Some (stamped 2 three)
  pub voter : is_voter of_three (either_of 0 2) 50 2 ≡ true
  pub away : is_voter of_three (either_of 0 2) 50 1 ≡ false
  pub stranger : is_voter of_three all_disks 50 3 ≡ false
  pub other : has_quorum of_three all_disks 51 ≡ false

-- ---- a group of two with a disk away

-- volume 1 of one logical partition, whose two copies are the first partitions of two disks
abbrev pub mirror : Mode → LvRow
mirror m = record { number = 1; name = 108 ∷ []; copies = 2; mode = m; policy = policy.Parallel; lps = 1; map = record { disk = 0; pp = 0 } ∷ record { disk = 1; pp = 0 } ∷ [] }

abbrev pub two : Mode → Descriptor
two m = group_of (member 0 ∷ member 1 ∷ []) (mirror m ∷ [])

abbrev pub of_two : Mode → Bool → (ℕ → Option Noted) → (ℕ → ℕ → Sector) → Contents
of_two m stale note block = disks_with 2 (either_of 0 1) (two m) (status_of_rows (row_of 0 false ∷ row_of 1 stale ∷ [])) note block

-- The first of two members has two votes of three: it is a quorum alone, the second isn't. What answers has the one copy.
pub record SecondAway : Type 0 where
  pub first : has_quorum (of_two mode.Active false no_note zeros) (only 0) 50 ≡ true
  pub second : has_quorum (of_two mode.Active false no_note zeros) (only 1) 50 ≡ false
  pub copies : fresh (of_two mode.Active false no_note zeros) (only 0) 50 (mirror mode.Active) 0 ≡ record { disk = 0; pp = 0 } ∷ []
  pub all : fresh (of_two mode.Active false no_note zeros) all_disks 50 (mirror mode.Active) 0 ≡ record { disk = 0; pp = 0 } ∷ record { disk = 1; pp = 0 } ∷ []

-- ---- a stale copy

-- A copy that the newest status calls stale isn't fresh, whoever answers.
pub record StaleCopy : Type 0 where
  pub all : fresh (of_two mode.Active true no_note zeros) all_disks 50 (mirror mode.Active) 0 ≡ record { disk = 0; pp = 0 } ∷ []

-- ---- two copies that differ

-- a note that names track group 0 of volume 1
abbrev pub names_first : ℕ → Option Noted
names_first d = Some (record { stamp = 7; entries = record { lv = 1; group = 0 } ∷ [] })

abbrev pub ones : Sector
ones = replicate 512 1

-- the first block of the copy on disk 1 is ones, all else is zeros
abbrev pub torn_mirror : ℕ → ℕ → Sector
torn_mirror d s = if d == 1 then (if s == 4096 then ones else zero_sector) else zero_sector

-- both values are allowed
abbrev pub open_block : Known
open_block = record { values = Some (zero_sector ∷ ones ∷ []); open_writes = []; loose = false; mode = mode.Active }

-- Two copies that differ in a named track group are kept; a track group that no note names is no excuse.
pub record NamedDifference : Type 0 where
  pub kept : IsBlockKept (of_two mode.Active false names_first torn_mirror) 1 None (mirror mode.Active) (record { disk = 0; pp = 0 } ∷ record { disk = 1; pp = 0 } ∷ []) open_block 0
  pub named : is_named (of_two mode.Active false names_first torn_mirror) 1 1 0 ≡ true
  pub next : is_named (of_two mode.Active false names_first torn_mirror) 1 1 1 ≡ false
  pub unnamed : MayDiffer (of_two mode.Active false no_note torn_mirror) None 1 mode.Active (record { disk = 0; pp = 0 } ∷ []) open_block 0 → ⊥

-- ---- a volume half made

-- An open volume may be in the descriptor or not, with the shape that it was made with; a settled one must be, an absent one mustn't.
pub record HalfMade : Type 0 where
  pub there : StandsAs 1 Open (Some (record { blocks = 2048; mode = mode.Active })) (Some (mirror mode.Active))
  pub away : StandsAs 1 Open (Some (record { blocks = 2048; mode = mode.Active })) None
  pub settled : StandsAs 1 Settled (Some (record { blocks = 2048; mode = mode.Active })) None → ⊥
  pub absent : StandsAs 1 Absent None (Some (mirror mode.Active)) → ⊥
  pub larger : StandsAs 1 Open (Some (record { blocks = 4096; mode = mode.Active })) (Some (mirror mode.Active)) → ⊥
