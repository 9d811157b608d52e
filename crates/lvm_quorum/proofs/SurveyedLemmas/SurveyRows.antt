-- What the rows of a survey say that the disks show.
use Rattle.std.proofs.Common.{◌≡◌, ℕ, ◌<◌, ◌≤◌, List, length, get_or, Option, Some, None, refl, ap, subst}
use Rattle.std.specs.Prelude.{slice_get, option_and_then, option_map, unwrap_or}
use Rattle.std.proofs.lemmas.Option.{slice_get_read, slice_get_past}
use Rattle.lvm_quorum.specs.declared.row.SurveyRow.{SurveyRow}
use Rattle.lvm_quorum.specs.declared.row.Survey.{Survey}
use Rattle.lvm_quorum.specs.Surveyed.{surveyed}
use Rattle.lvm_quorum.specs.Reading.{under}

-- the row that a loop reads
pub row_read : (s : Survey) (items : List SurveyRow) (i : ℕ) (row : SurveyRow) → items ≡ s.rows → i < length items → row ≡ get_or items i row → slice_get s.rows i ≡ Some row
row_read s items i row same lt is = subst (λ (rows : List SurveyRow). slice_get rows i ≡ Some row) same (slice_get_read items (length items) i row refl lt is)

pub descriptor_shown : (s : Survey) (d : ℕ) (row : SurveyRow) → slice_get s.rows d ≡ Some row → (surveyed s).descriptor d ≡ under row.descriptor row.descriptor_stamp
descriptor_shown s d row e = ap (option_and_then (λ (r : SurveyRow). under r.descriptor r.descriptor_stamp)) e

pub status_shown : (s : Survey) (d : ℕ) (row : SurveyRow) → slice_get s.rows d ≡ Some row → (surveyed s).status d ≡ under row.status row.status_stamp
status_shown s d row e = ap (option_and_then (λ (r : SurveyRow). under r.status r.status_stamp)) e

pub size_shown : (s : Survey) (d : ℕ) (row : SurveyRow) → slice_get s.rows d ≡ Some row → (surveyed s).size d ≡ row.sectors
size_shown s d row e = ap (λ (o : Option SurveyRow). unwrap_or (option_map (λ (r : SurveyRow). r.sectors) o) 0) e

-- there is nothing behind the last row
pub descriptor_past : (s : Survey) (d : ℕ) → length s.rows ≤ d → (surveyed s).descriptor d ≡ None
descriptor_past s d past = ap (option_and_then (λ (r : SurveyRow). under r.descriptor r.descriptor_stamp)) (slice_get_past s.rows d past)

pub status_past : (s : Survey) (d : ℕ) → length s.rows ≤ d → (surveyed s).status d ≡ None
status_past s d past = ap (option_and_then (λ (r : SurveyRow). under r.status r.status_stamp)) (slice_get_past s.rows d past)
