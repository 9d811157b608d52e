-- What a survey says of the disks.
use Rattle.std.specs.Prelude.{◌≡◌, ℕ, if◌then◌else◌, List, [], ◌∷◌, length, Some, None, Result, option_map, option_and_then, slice_get, unwrap_or, IfSome}
use Rattle.lvm_num.specs.declared.record.Kind.{Kind}
use Rattle.lvm_num.specs.declared.record.Kind.TheVariants as kind
use Rattle.lvm_num.specs.Descriptor.{IsValid}
use Rattle.lvm_num.specs.Status.{IsValidStatus}
use Rattle.lvm_num.specs.DescriptorBytes.{descriptor_of}
use Rattle.lvm_num.specs.StatusBytes.{status_of}
use Rattle.lvm_quorum.specs.passed.Transfer.{noted_of, held, slot_of, Image, Contents, has_records, contents_of}
use Rattle.lvm_quorum.specs.declared.row.SurveyRow.{SurveyRow}
use Rattle.lvm_quorum.specs.declared.row.Survey.{Survey}
use Rattle.lvm_quorum.specs.Reading.{under, home_of}

-- what the survey says that the disks show, of their records alone; of a disk whose read failed it says that it shows none
abbrev pub surveyed : Survey → Contents
surveyed s = record {
  disks = length s.rows;
  size = λ d. unwrap_or (option_map (λ row. row.sectors) (slice_get s.rows d)) 0;
  descriptor = λ d. option_and_then (λ row. under row.descriptor row.descriptor_stamp) (slice_get s.rows d);
  status = λ d. option_and_then (λ row. under row.status row.status_stamp) (slice_get s.rows d);
  note = λ d. option_and_then (λ row. option_map noted_of row.note) (slice_get s.rows d);
  block = λ d s. [];
}

-- the slot of a disk with its newest record of a kind, 2 where there is none
abbrev pub home_on : {X : Type 0} → (List ℕ → Result X ℕ) → Kind → Image → ℕ → ℕ
home_on content_of kind image d =
    if has_records image d then home_of (held content_of kind (slot_of kind 0 (image.sector d))) (held content_of kind (slot_of kind 1 (image.sector d))) else 2

-- the row is that of a disk of the image whose records were all read
pub record IsRead (image : Image) (d : ℕ) (row : SurveyRow) : Type 0 where
  pub descriptor : under row.descriptor row.descriptor_stamp ≡ (contents_of image).descriptor d
  pub status : under row.status row.status_stamp ≡ (contents_of image).status d
  pub note : option_map noted_of row.note ≡ (contents_of image).note d
  pub homes : row.homes ≡ home_on descriptor_of kind.Descriptor image d ∷ home_on status_of kind.Status image d ∷ []

-- nothing was found
pub record IsEmpty (row : SurveyRow) : Type 0 where
  pub descriptor : row.descriptor ≡ None
  pub status : row.status ≡ None
  pub note : row.note ≡ None
  pub homes : row.homes ≡ 2 ∷ 2 ∷ []

-- what was found is valid
pub record IsRowValid (row : SurveyRow) : Type 0 where
  pub descriptor : IfSome row.descriptor IsValid
  pub status : IfSome row.status IsValidStatus

abbrev pub IsSurveyValid : Survey → Type 0
IsSurveyValid s = (d : ℕ) (row : SurveyRow) → slice_get s.rows d ≡ Some row → IsRowValid row
