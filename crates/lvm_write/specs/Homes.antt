-- To which slot of each disk its next record goes after what was found.
use Rattle.std.specs.Prelude.{◌≡◌, ℕ, ◌==◌, false, true, Some, slice_get, slice_index}
use Rattle.std.specs.Option.{option_map_or}
use Rattle.lvm_num.specs.declared.record.Kind.{Kind}
use Rattle.lvm_num.specs.declared.record.Kind.TheVariants as kind
use Rattle.lvm_num.specs.Disks.{Disks}
use Rattle.lvm_num.specs.DescriptorBytes.{descriptor_of}
use Rattle.lvm_num.specs.StatusBytes.{status_of}
use Rattle.lvm_quorum.specs.passed.Transfer.{slot_for, has_records, Homes, next_slot}
use Rattle.lvm_disk.specs.Device.{Image}
use Rattle.lvm_quorum.specs.declared.row.SurveyRow.{SurveyRow}
use Rattle.lvm_quorum.specs.declared.row.Survey.{Survey}
use Rattle.lvm_quorum.specs.Surveyed.{IsRead}

-- the slot with the newest record of a kind by a row, 2 where there is none
abbrev pub home_by : Kind → SurveyRow → ℕ
home_by kind.Descriptor row = slice_index row.homes 0
home_by kind.Status row = slice_index row.homes 1

-- the disks whose newest record of a kind stands in slot 0
abbrev pub in_first_slot : Kind → Survey → Disks
in_first_slot kind survey d = option_map_or (λ row. home_by kind row == 0) (slice_get survey.rows d) false

-- where a disk's records were all read, the next write of each kind goes to the slot that doesn't hold the newest
pub record SparesNewest (homes : Homes) (image : Image) (d : ℕ) : Type 0 where
  pub descriptor : next_slot kind.Descriptor homes d ≡ slot_for descriptor_of kind.Descriptor (image.sector d)
  pub status : next_slot kind.Status homes d ≡ slot_for status_of kind.Status (image.sector d)

abbrev pub SpareNewest : Survey → Homes → Type 0
SpareNewest survey homes =
    (image : Image) (d : ℕ) (row : SurveyRow) → slice_get survey.rows d ≡ Some row → IsRead image d row → has_records image d ≡ true → SparesNewest homes image d
