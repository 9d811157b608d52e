-- What a survey finds on the disks that answered.
use Rattle.std.proofs.Common.{◌≡◌, ◌⊎◌, inl, inr, List, ◌∷◌, zero, suc, ℕ, ◌<◌, ◌≤◌, Bool, true, false, ◌&&◌, [], length, Option, Some, None, refl, sym, ap, subst, ◌∙◌, arith}
use Rattle.std.specs.Prelude.{IsTrue, IsFalse, not, nat_lt, nat_le, if◌then◌else◌, option_and_then, option_map, unwrap_or, slice_get, slice_index_or, IfSome}
use Rattle.std.proofs.lemmas.Bool.{cases_lt, and_parts, not-true}
use Rattle.std.proofs.lemmas.Bool.Decides.{nat_tests}
use Rattle.std.proofs.lemmas.Option.{slice_get_past, get_or_from_slice_get, same_Some, none-some}
use Rattle.lvm_num.specs.Disks.{Disks}
use Rattle.lvm_num.specs.Geometry.{data_start}
use Rattle.lvm_rec.specs.Note.{noted_of}
use Rattle.lvm_disk.specs.Counts.{Rose}
use Rattle.lvm_disk.specs.Device.{Media, Image, Device, image_of}
use Rattle.lvm_num.specs.declared.record.Kind.TheVariants as kind
use Rattle.lvm_num.specs.declared.descriptor.Descriptor.{Descriptor}
use Rattle.lvm_num.specs.declared.status.Status.{Status}
use Rattle.lvm_num.specs.DescriptorBytes.{descriptor_of}
use Rattle.lvm_num.specs.StatusBytes.{status_of}
use Rattle.lvm_num.specs.Note.{note_in}
use Rattle.lvm_rec.specs.Slots.{newest_on}
use Rattle.lvm_kept.specs.Contents.{contents_of, has_records, note_sector, descriptor_on, status_on, note_on}
use Rattle.lvm_write.specs.Written.{HasRoom}
use Rattle.lvm_write.proofs.WrittenLemmas.Writing.{if_told}
use Rattle.lvm_quorum.specs.declared.row.SurveyRow.{SurveyRow}
use Rattle.lvm_quorum.specs.declared.row.Survey.{Survey}
use Rattle.lvm_quorum.specs.Surveyed.{surveyed, IsEmpty, IsRead}
use Rattle.lvm_quorum.specs.Reading.{under}
use Rattle.lvm_varyon.specs.Found.{HaveAnswered, records_on, Found}
use Rattle.lvm_varyon.specs.Parts.{IsSurveyOf}

-- whether a row is that of a disk that answered
answers : Option SurveyRow → Bool
answers None = false
answers (Some row) = not row.failed && nat_le data_start row.sectors

pub answered_by : Survey → Disks
answered_by survey d = answers (slice_get survey.rows d)

-- the disk of a row that was read, with room for records, answered
pub row_answers : (survey : Survey) (d : ℕ) (row : SurveyRow) → slice_get survey.rows d ≡ Some row → row.failed ≡ false → data_start ≤ row.sectors → IsTrue (answered_by survey d)
unfolding answered_by answers
row_answers survey d row at well room = ap answers at ∙ join (not row.failed) (nat_le data_start row.sectors) (ap not well) (large row.sectors room)
  where
    join : (a b : Bool) → a ≡ true → b ≡ true → a && b ≡ true
    join true b e f = f
    join false b e f = absurd cc

    large : (n : ℕ) → data_start ≤ n → nat_le data_start n ≡ true
    large n le = grind (arith, nat_tests)

enough : (n : ℕ) → nat_le data_start n ≡ true → data_start ≤ n
enough n e = grind (arith, nat_tests)

few : (n : ℕ) → nat_le data_start n ≡ false → n < data_start
few n e = grind (arith, nat_tests)

pub enough_is : (n : ℕ) → data_start ≤ n → nat_le data_start n ≡ true
enough_is n le = grind (arith, nat_tests)

none_at : {X : Type 0} (xs : List X) (d : ℕ) → d < length xs → slice_get xs d ≡ None → ⊥
none_at [] d lt e = absurd (omega (arith, lt))
none_at (x ∷ xs) zero lt e = cc
none_at (x ∷ xs) (suc d) lt e = none_at xs d (omega (arith, lt)) e

module _ (old new : Device) (survey : Survey) (is : IsSurveyOf old new survey) where
  size_of : (d : ℕ) (row : SurveyRow) → slice_get survey.rows d ≡ Some row → slice_index_or old.sizes d 0 ≡ row.sectors
  size_of d row at = get_or_from_slice_get old.sizes d row.sectors 0 (is.each d row at).sectors

  -- a disk of the shelf has a row
  has_row : (d size : ℕ) → slice_get old.sizes d ≡ Some size → slice_get survey.rows d ≡ None → ⊥
  has_row d size there none = by_place (cases_lt d (length survey.rows))
    where
      by_place : (d < length survey.rows) ⊎ (length survey.rows ≤ d) → ⊥
      by_place (inl lt) = none_at survey.rows d lt none
      by_place (inr ge) = none-some size (sym (slice_get_past old.sizes d (let all = is.all in omega (arith, ge, all))) ∙ there)

  pub answered_row : (d : ℕ) → IsTrue (answered_by survey d) → (row : SurveyRow) × (slice_get survey.rows d ≡ Some row) × (row.failed ≡ false) × (data_start ≤ row.sectors)
  unfolding answered_by answers
  answered_row d it = by_row (slice_get survey.rows d) refl it
    where
      by_row : (o : Option SurveyRow) → slice_get survey.rows d ≡ o → IsTrue (answers o) → (row : SurveyRow) × (slice_get survey.rows d ≡ Some row) × (row.failed ≡ false) × (data_start ≤ row.sectors)
      by_row None at it = absurd cc
      by_row (Some row) at it = let two = and_parts (not row.failed) (nat_le data_start row.sectors) it in (row, at, not-true row.failed two.0, enough row.sectors two.1)

  pub have_answered : (later : Device) → later.counts.misses ≡ new.counts.misses → HaveAnswered old later (answered_by survey)
  unfolding answered_by answers
  have_answered later same = record {
    room = λ d it. let r = answered_row d it in (r.0.sectors, (is.each d r.0 r.1).sectors, r.3);
    well = λ d it. let r = answered_row d it in ap (λ (m : ℕ → ℕ). m d) same ∙ (is.each d r.0 r.1).answered r.2;
    badly = λ d room off. by_row d room (slice_get survey.rows d) refl off;
  }
    where
      by_row : (d : ℕ) → HasRoom old d → (o : Option SurveyRow) → slice_get survey.rows d ≡ o → IsFalse (answers o) → Rose (old.counts.misses d) (later.counts.misses d)
      by_row d room None at off = absurd (has_row d room.0 room.1 at)
      by_row d room (Some row) at off = subst (λ (m : ℕ → ℕ). Rose (old.counts.misses d) (m d)) (sym same) ((is.each d row at).failed (by_test row.failed off))
        where
          large : nat_le data_start row.sectors ≡ true
          large = enough_is row.sectors (subst (λ (n : ℕ). data_start ≤ n) (same_Some room.0 row.sectors (sym room.1 ∙ (is.each d row at).sectors)) room.2)

          by_test : (t : Bool) → not t && nat_le data_start row.sectors ≡ false → t ≡ true
          by_test true e = refl
          by_test false e = absurd (let l = large in cc)

  -- ---- what they show

  module _ {X : Type 0} (tells : SurveyRow → Option X) (shows : ℕ → Option X) (empty : (row : SurveyRow) → IsEmpty row → tells row ≡ None) where
    shown : (media : Media) → ((d : ℕ) (row : SurveyRow) → slice_get survey.rows d ≡ Some row → row.failed ≡ false → tells row ≡ shows d)
        → ((d : ℕ) → has_records (image_of old.sizes media) d ≡ false → shows d ≡ None) → (d : ℕ) → option_and_then tells (slice_get survey.rows d) ≡ (if answered_by survey d then shows d else None)
    unfolding answered_by answers
    shown media read small d = by_row (slice_get survey.rows d) refl
      where
        no_records : (row : SurveyRow) → slice_get survey.rows d ≡ Some row → nat_le data_start row.sectors ≡ false → has_records (image_of old.sizes media) d ≡ false
        no_records row at e = neither (nat_lt d (length old.sizes)) (nat_le data_start (slice_index_or old.sizes d 0)) (ap (nat_le data_start) (size_of d row at) ∙ e)
          where
            neither : (a b : Bool) → b ≡ false → a && b ≡ false
            neither true b e = e
            neither false b e = refl

        by_tests : (row : SurveyRow) → slice_get survey.rows d ≡ Some row → (f s : Bool) → row.failed ≡ f → nat_le data_start row.sectors ≡ s → tells row ≡ (if not f && s then shows d else None)
        by_tests row at true s f_is s_is = empty row ((is.each d row at).empty f_is)
        by_tests row at false true f_is s_is = read d row at f_is
        by_tests row at false false f_is s_is = read d row at f_is ∙ small d (no_records row at s_is)

        by_row : (o : Option SurveyRow) → slice_get survey.rows d ≡ o → option_and_then tells o ≡ (if answers o then shows d else None)
        by_row None at = refl
        by_row (Some row) at = by_tests row at row.failed (nat_le data_start row.sectors) refl refl

  pub sizes_same : (d : ℕ) → unwrap_or (option_map (λ (row : SurveyRow). row.sectors) (slice_get survey.rows d)) 0 ≡ slice_index_or old.sizes d 0
  sizes_same d = by_row (slice_get survey.rows d) refl
    where
      by_row : (o : Option SurveyRow) → slice_get survey.rows d ≡ o → unwrap_or (option_map (λ (row : SurveyRow). row.sectors) o) 0 ≡ slice_index_or old.sizes d 0
      by_row None at = no_size (slice_get old.sizes d) refl
        where
          no_size : (o : Option ℕ) → slice_get old.sizes d ≡ o → 0 ≡ slice_index_or old.sizes d 0
          no_size None e = sym (past old.sizes d e)
            where
              past : (xs : List ℕ) (d : ℕ) → slice_get xs d ≡ None → slice_index_or xs d 0 ≡ 0
              past [] d e = refl
              past (x ∷ xs) zero e = absurd cc
              past (x ∷ xs) (suc d) e = past xs d e
          no_size (Some size) e = absurd (has_row d size e at)
      by_row (Some row) at = sym (size_of d row at)

  -- where the media is told, it is what the records of the disks that answered show
  module _ (media : Media) (told : old.media ≡ Some media) where
    image : Image
    image = image_of old.sizes media

    pub read_row : (d : ℕ) (row : SurveyRow) → slice_get survey.rows d ≡ Some row → row.failed ≡ false → IsRead (image_of old.sizes media) d row
    read_row d row at well = subst (λ (o : Option Media). IfSome o (λ m. IsRead (image_of old.sizes m) d row)) told ((is.each d row at).read well)

    none_there : {X : Type 0} (t : Bool) (o : Option X) → t ≡ false → (if t then o else None) ≡ None
    none_there true o e = absurd cc
    none_there false o e = refl

    pub shows_records : surveyed survey ≡ records_on (answered_by survey) (contents_of (image_of old.sizes media))
    unfolding descriptor_on status_on note_on
    shows_records =
        let descriptors = shown (λ (row : SurveyRow). under row.descriptor row.descriptor_stamp) (descriptor_on (image_of old.sizes media)) (λ row empty. ap (λ (o : Option Descriptor). under o row.descriptor_stamp) empty.descriptor) media
        (λ d row at well. (read_row d row at well).descriptor) (λ d small. none_there (has_records (image_of old.sizes media) d) (newest_on descriptor_of kind.Descriptor (media d)) small) in
        let statuses = shown (λ (row : SurveyRow). under row.status row.status_stamp) (status_on (image_of old.sizes media)) (λ row empty. ap (λ (o : Option Status). under o row.status_stamp) empty.status) media
        (λ d row at well. (read_row d row at well).status) (λ d small. none_there (has_records (image_of old.sizes media) d) (newest_on status_of kind.Status (media d)) small) in
        let notes = shown (λ (row : SurveyRow). option_map noted_of row.note) (note_on (image_of old.sizes media)) (λ row empty. ap (option_map noted_of) empty.note) media
        (λ d row at well. (read_row d row at well).note) (λ d small. none_there (has_records (image_of old.sizes media) d) (note_in (media d note_sector)) small) in
        λ i. record {
          disks = is.all i;
          size = λ d. sizes_same d i;
          descriptor = λ d. descriptors d i;
          status = λ d. statuses d i;
          note = λ d. notes d i;
          block = λ d s. [];
        }

  -- so it is at a later moment, where no read of records has failed since
  abbrev pub found_at : (later : Device) → later.counts.misses ≡ new.counts.misses → Found old later
  found_at later same = record {
    answered = answered_by survey;
    have = have_answered later same;
    shown = surveyed survey;
    disks = is.all;
    size = λ i d. sizes_same d i;
    told = if_told old.media (λ media. surveyed survey ≡ records_on (answered_by survey) (contents_of (image_of old.sizes media))) shows_records;
  }
