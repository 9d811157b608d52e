-- Groups at rest, worked by hand: two disks that mirror a volume of one logical partition, sector by sector.
use Rattle.std.specs.Prelude.{◌≡◌, ℕ, Bool, true, false, ◌==◌, nat_lt, if◌then◌else◌, List, [], ◌∷◌, ◌++◌, Some, None, slice_index_or}
use Rattle.lvm_num.specs.declared.descriptor.Mode.{Mode}
use Rattle.lvm_num.specs.declared.descriptor.Mode.TheVariants.{Off}
use Rattle.lvm_num.specs.declared.status.Status.{Status}
use Rattle.lvm_num.specs.declared.record.Framed.{Framed}
use Rattle.lvm_num.specs.declared.record.Kind.TheVariants as kind
use Rattle.lvm_num.specs.Buffer.{Sector, zero_sector}
use Rattle.lvm_num.specs.DescriptorBytes.{descriptor_bytes}
use Rattle.lvm_num.specs.Disks.{Disks}
use Rattle.lvm_num.specs.Descriptor.{IsValid}
use Rattle.lvm_num.specs.Geometry.{data_start}
use Rattle.lvm_num.specs.Note.{Noted, note_bytes, note_in}
use Rattle.lvm_num.specs.Record.{Stamped, frame, slot_start}
use Rattle.lvm_num.specs.StatusBytes.{status_bytes}
use Rattle.lvm_num.specs.Votes.{CanWrite}
use Rattle.lvm_vol.specs.declared.entry.Vol.TheVariants.{Lv}
use Rattle.lvm_vol.specs.Facts.{Request, Fact, Making, Made, Begun, Cut, On}
use Rattle.lvm_disk.specs.Device.{Media, Device, image_of}
use Rattle.lvm_kept.specs.Contents.{note_sector, Contents, contents_of}
use Rattle.lvm_kept.specs.Examples.{stamped, row_of, status_of_rows, zeros, only, either_of, two, ones, torn_mirror}
use Rattle.lvm_commit.specs.Committed.{ShowsCommitted}
use Rattle.lvm_even.specs.Even.{AreClosed, HoldsAtRest}

-- ---- the disks

-- The volume's mode; whether the status calls it dirty; whether the second member is lost, and its copy stale; what stands in the note's sector of both
-- disks, and in their data.
pub record Pair : Type 0 where
  pub mode : Mode
  pub dirty : Bool
  pub lost : Bool
  pub note : Sector
  pub stands : ℕ → ℕ → Sector

-- the two disks are of 8 MiB
abbrev pub pair_sizes : List ℕ
pair_sizes = 16384 ∷ 16384 ∷ []

-- both have a row
abbrev pub status_of : Pair → Stamped Status
status_of pair = stamped 1 (record (status_of_rows (row_of 0 false ∷ record (row_of 1 pair.lost) { missing = pair.lost } ∷ [])) { dirty = if pair.dirty then 1 ∷ [] else [] })

-- the two records, each of one sector
abbrev pub framed_group : Pair → Framed
framed_group pair = record { stamp = record { epoch = 50; seq = 2 }; content = descriptor_bytes (two pair.mode) }

abbrev pub framed_status : Pair → Framed
framed_status pair = record { stamp = (status_of pair).stamp; content = status_bytes (status_of pair).value }

-- Each disk has the records in its first slots, its note, and its data.
abbrev pub media_of : Pair → Media
media_of pair d s =
    if s == slot_start kind.Descriptor 0 then frame kind.Descriptor (framed_group pair).stamp (framed_group pair).content 0
    else if s == slot_start kind.Status 0 then frame kind.Status (framed_status pair).stamp (framed_status pair).content 0
    else if s == note_sector then pair.note
    else pair.stands d s

-- nothing is out
abbrev pub device_of : Pair → Device
device_of pair = record {
  sizes = pair_sizes;
  media = Some (media_of pair);
  flights = [];
  freed = [];
  power = true;
  counts = record { starts = λ d. 0; misses = λ d. 0; faults = λ d. 0; cuts = 0; waits = 0 };
  arranges = true;
  orders = record { made = 0; last = None; alone = None };
  wrote = None;
}

-- sectors below the data are none of it
abbrev pub in_data : (ℕ → ℕ → Sector) → ℕ → ℕ → Sector
in_data stands d s = if nat_lt s data_start then [] else stands d s

-- what the disks show
abbrev pub shown_by : Pair → Contents
shown_by pair = record {
  disks = 2;
  size = λ d. slice_index_or pair_sizes d 0;
  descriptor = λ d. if either_of 0 1 d then Some (stamped 2 (two pair.mode)) else None;
  status = λ d. if either_of 0 1 d then Some (status_of pair) else None;
  note = λ d. if either_of 0 1 d then note_in pair.note else None;
  block = in_data pair.stands;
}

-- the members that are there
abbrev pub there_by : Pair → Disks
there_by pair = if pair.lost then only 0 else either_of 0 1

-- ---- its history

-- a write of the first block
abbrev pub first_write : Request
first_write = record { run = 1; id = 1; client = 0; vol = Lv 1; at = 0; count = 1; write = true; blocks = ones ∷ [] }

-- the volume was made, and in an earlier run the power was cut, perhaps while its first block was written
abbrev pub past_of : Mode → Bool → List Fact
past_of mode false = Making 1 2048 mode ∷ Made 1 ∷ Cut ∷ []
past_of mode true = Making 1 2048 mode ∷ Made 1 ∷ Begun first_write ∷ Cut ∷ []

-- now the group has come on
abbrev pub now_on : List Fact
now_on = On 50 ∷ []

abbrev pub history_of : Mode → Bool → List Fact
history_of mode cut = past_of mode cut ++ now_on

-- ---- the groups

-- all zeros, in any mode, whatever stands in the note's sector
abbrev pub even_pair : Mode → Bool → Bool → Sector → Pair
even_pair mode dirty lost note = record { mode = mode; dirty = dirty; lost = lost; note = note; stands = zeros }

-- the first block differs: on the second copy it is that of the write
abbrev pub torn_pair : Mode → Bool → Sector → Pair
torn_pair mode dirty note = record { mode = mode; dirty = dirty; lost = false; note = note; stands = torn_mirror }

-- a note that names the first track group of the volume
abbrev pub naming_note : Noted
naming_note = record { stamp = 7; entries = record { lv = 1; group = 0 } ∷ [] }

abbrev pub naming : Sector
naming = note_bytes naming_note

-- All that is asked of a group's disks at rest: sector by sector they show this, and it is at rest.
pub record IsRestingPair (pair : Pair) (facts : List Fact) : Type 0 where
  pub told : contents_of (image_of pair_sizes (media_of pair)) ≡ shown_by pair
  pub valid : IsValid (two pair.mode)
  pub enough : CanWrite (two pair.mode) (there_by pair)
  pub shows : ShowsCommitted (shown_by pair) (two pair.mode) (status_of pair).value (there_by pair)
  pub closed : AreClosed facts (two pair.mode)
  pub at_rest : HoldsAtRest (shown_by pair) facts (two pair.mode) (Some shows.stands) (there_by pair)

-- So it is in each mode: active with a note at home and without, passive and clean or dirty, and off; also where a member is lost, and after a cut while
-- its first block was written; and in mode off also where the copies differ there.
pub record PairsRest : Type 0 where
  pub even : (mode : Mode) (dirty lost cut : Bool) (note : Sector) → IsRestingPair (even_pair mode dirty lost note) (history_of mode cut)
  pub off : IsRestingPair (torn_pair Off false zero_sector) (history_of Off true)
