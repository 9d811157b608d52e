-- Which copies are planned, by what notes name.
use Rattle.std.specs.Prelude.{◌≡◌, ◌⊎◌, ◌↔◌, ℕ, ◌*◌, ◌<◌, ◌&&◌, ◌++◌, Bool, not, nat_lt, if◌then◌else◌, List, [], ◌∷◌, Option, Some, None, map, filter, flat_map, AllPairs}
use Rattle.std.specs.List.{range_with_len}
use Rattle.lvm_num.specs.declared.place.Pp.{Pp}
use Rattle.lvm_num.specs.declared.record.NoteEntry.{NoteEntry}
use Rattle.lvm_num.specs.declared.descriptor.LvRow.{LvRow}
use Rattle.lvm_num.specs.declared.descriptor.Descriptor.{Descriptor}
use Rattle.lvm_num.specs.declared.status.Status.{Status}
use Rattle.lvm_num.specs.Disks.{Disks}
use Rattle.lvm_num.specs.Geometry.{partition_of}
use Rattle.lvm_num.specs.Descriptor.{IsValid, copies_of, volume_of}
use Rattle.lvm_num.specs.Record.{Stamped}
use Rattle.lvm_num.specs.Status.{calls_dirty, calls_stale}
use Rattle.lvm_kept.specs.Contents.{Contents}
use Rattle.lvm_kept.specs.Group.{IsOneOf}
use Rattle.lvm_num.specs.Modes.{is_active, is_passive}
use Rattle.lvm_recovery.specs.declared.copying.Recopy.{Recopy}
use Rattle.lvm_recovery.specs.declared.plan.TrackGroup.{TrackGroup}
use Rattle.lvm_recovery.specs.Planned.{IsNamedByOne, ArePlanned}
-- where a block of a volume stands on a copy
use Rattle.lvm_map.specs.Places.{place_on}

-- what an entry names
abbrev pub group_of : NoteEntry → TrackGroup
group_of e = record { volume = e.lv; group = e.group }

-- the first is of a lower volume, or of the same and before the other in it
abbrev pub IsBefore : TrackGroup → TrackGroup → Type 0
IsBefore a b = (a.volume < b.volume) ⊎ ((a.volume ≡ b.volume) × (a.group < b.group))

-- by volumes and places in them, each once
abbrev pub AreRising : List TrackGroup → Type 0
AreRising groups = AllPairs IsBefore groups

-- just the track groups that a note of these disks names
pub record AreNamed (c : Contents) (disks : Disks) (groups : List TrackGroup) : Type 0 where
  pub exactly : (one : TrackGroup) → IsOneOf groups one ↔ IsNamedByOne c disks one.volume one.group

-- the copy stands on one of the disks and isn't stale
abbrev pub usable_by : Status → Disks → Pp → Bool
usable_by status disks p = disks p.disk && not (calls_stale status p)

-- from the first of these copies to each further one
abbrev pub copies_from : ℕ → ℕ → List Pp → List Recopy
copies_from mib block [] = []
copies_from mib block (first ∷ others) = map (λ p. record { from = place_on mib first block; into = place_on mib p block }) others

-- those of a track group, where it lies in the volume and this is in mode active
abbrev pub copies_of_group : ℕ → Status → Disks → LvRow → ℕ → List Recopy
copies_of_group mib status disks row g =
    if is_active row.mode && nat_lt (partition_of mib (g * 256)) row.lps then copies_from mib (g * 256) (filter (usable_by status disks) (copies_of row (partition_of mib (g * 256)))) else []

abbrev pub copies_of_found : ℕ → Status → Disks → ℕ → Option LvRow → List Recopy
copies_of_found mib status disks g None = []
copies_of_found mib status disks g (Some row) = copies_of_group mib status disks row g

-- those of a track group of a group's volume of that number, if it has one
abbrev pub copies_named : Descriptor → Status → Disks → TrackGroup → List Recopy
copies_named group status disks one = copies_of_found group.mib status disks one.group (volume_of group one.volume)

-- ---- those of dirty volumes

-- those of a track group of a volume, from the first usable copy to the further ones
abbrev pub copies_at : ℕ → Status → Disks → LvRow → ℕ → List Recopy
copies_at mib status disks row g = copies_from mib (g * 256) (filter (usable_by status disks) (copies_of row (partition_of mib (g * 256))))

-- those of all its track groups
abbrev pub copies_whole : ℕ → Status → Disks → LvRow → List Recopy
copies_whole mib status disks row = flat_map (copies_at mib status disks row) (range_with_len 0 (8 * mib * row.lps))

-- those of the volume, where it is dirty
abbrev pub copies_if_dirty : ℕ → Status → Disks → LvRow → List Recopy
copies_if_dirty mib status disks row = if is_passive row.mode && calls_dirty status row.number then copies_whole mib status disks row else []

-- those of all dirty volumes in mode passive, in the order of their numbers
abbrev pub copies_dirty : Descriptor → Status → Disks → List Recopy
copies_dirty group status disks = flat_map (copies_if_dirty group.mib status disks) group.lvs

-- ---- all of them

-- What the notes of these disks name is planned volume by volume, in each by places, each once, and of each from its first usable copy to the further ones in their order;
-- behind that the dirty volumes are, in the order of their numbers, each whole and by places.
pub record ArePlannedInOrder (c : Contents) (group : Descriptor) (status : Status) (there : Disks) (copies : List Recopy) : Type 0 where
  pub named : List TrackGroup
  pub exactly : AreNamed c there named
  pub rising : AreRising named
  pub are : copies ≡ flat_map (copies_named group status there) named ++ copies_dirty group status there

-- ---- law

-- The copies of all that is named, and then those of dirty volumes, are exactly the planned ones.
abbrev pub NamedArePlanned : Type 0
NamedArePlanned = (c : Contents) (group : Descriptor) (status : Stamped Status) (there : Disks) (named : List TrackGroup)
    → IsValid group → AreNamed c there named → ArePlanned c group (Some status) there (flat_map (copies_named group status.value there) named ++ copies_dirty group status.value there)
