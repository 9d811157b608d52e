-- A survey of which no read failed says what the disks show.
use Rattle.std.proofs.Common.{◌≡◌, inl, inr, ⊎_elim, ℕ, suc, zero, ◌+◌, ◌<◌, ◌≤◌, Bool, true, false, List, [], ◌∷◌, length, get_or, Option, Some, None, refl, sym, ap, subst, ◌∙◌, arith}
use Rattle.lvm_num.specs.Record.{last_moment}
use Rattle.std.specs.Prelude.{nat_lt, nat_le, slice_get, slice_index_or, IfSome, ◌&&◌, if◌then◌else◌}
use Rattle.std.proofs.lemmas.Option.{slice_get_within, slice_get_cases}
use Rattle.std.proofs.lemmas.Bool.{cases_lt, le-ltb, ltb-true}
use Rattle.lvm_num.specs.declared.record.Kind.TheVariants as kind
use Rattle.lvm_num.specs.DescriptorBytes.{descriptor_of}
use Rattle.lvm_num.specs.StatusBytes.{status_of}
use Rattle.lvm_num.specs.Geometry.{data_start}
use Rattle.lvm_rec.specs.Slots.{newest_on}
use Rattle.lvm_disk.specs.Counts.{Rose}
use Rattle.lvm_disk.specs.Device.{Media, Image, Device, image_of}
use Rattle.lvm_steps.proofs.RecordLemmas.{split}
use Rattle.lvm_kept.specs.Contents.{Contents, contents_of, has_records, descriptor_on, status_on}
use Rattle.lvm_quorum.specs.declared.row.SurveyRow.{SurveyRow}
use Rattle.lvm_quorum.specs.declared.row.Survey.{Survey}
use Rattle.lvm_quorum.specs.Surveyed.{surveyed, IsRead as IsRowRead}
use Rattle.lvm_quorum.specs.Surveying.{IsSmall, AreSurveyed}
use Rattle.lvm_transfer.specs.Reading.{IsUntouched}
use Rattle.lvm_rec.specs.declared.homes.Homes.{Homes}
use Rattle.lvm_write.specs.Homes.{SparesNewest, SpareNewest}
use Rattle.lvm_quorum.proofs.SurveyedLemmas.SurveyRows.{descriptor_shown, status_shown, descriptor_past, status_past}
use Rattle.lvm_group.specs.passed.Core.{Cause}
use Rattle.lvm_group.specs.passed.CoreRefusedCause as cause
use Rattle.lvm_group.specs.Shown.{IfShown, HasGroup, ShowsMoment, ShowsEarlier, IsLastShown, IsUnread, AllRead, SparesTold}
use Rattle.lvm_group.specs.Judged.{IsFirstFailed, NoneFailed, LetsBegin, RefusesShown}
use Rattle.lvm_group.specs.Steps.{HasOnlyRead, LetsMake, RefusesFound}
use Rattle.lvm_group.specs.declared.look.Free.{Free}

-- what a survey that was made says of the disks
pub record IsSurvey (old new : Device) (s : Survey) : Type 0 where
  pub all : length s.rows ≡ length old.sizes
  pub failed : (d : ℕ) (row : SurveyRow) → slice_get s.rows d ≡ Some row → row.failed ≡ true → Rose (old.counts.misses d) (new.counts.misses d)
  pub answered : (d : ℕ) (row : SurveyRow) → slice_get s.rows d ≡ Some row → row.failed ≡ false → new.counts.misses d ≡ old.counts.misses d
  pub read : (d : ℕ) (row : SurveyRow) → slice_get s.rows d ≡ Some row → row.failed ≡ false → IfSome old.media (λ media. IsRowRead (image_of old.sizes media) d row)
  pub small : (d : ℕ) → IsSmall old d → IsUntouched d old new

pub survey_of : (old new : Device) (s : Survey) → AreSurveyed old new s.rows → ((d : ℕ) → IsSmall old d → IsUntouched d old new) → IsSurvey old new s
survey_of old new s is small = record {
  all = is.all;
  failed = λ d row at. (is.each d row at).failed;
  answered = λ d row at. (is.each d row at).answered;
  read = λ d row at. (is.each d row at).read;
  small = small;
}

-- ---- what is told

pub told_by : (o : Option Media) (P : Media → Type 0) (media : Media) → o ≡ Some media → IfSome o P → P media
told_by None P media is p = absurd cc
told_by (Some m) P media is p = subst P (ap_some m media is) p
  where
    ap_some : (a b : Media) → Some a ≡ Some b → a ≡ b
    ap_some a b e = cc

pub if_told : (o : Option Media) (P : Media → Type 0) → ((media : Media) → o ≡ Some media → P media) → IfSome o P
if_told None P by = tt
if_told (Some media) P by = by media refl

-- ---- disks that aren't there

no_descriptor : (image : Image) (d : ℕ) → image.disks ≤ d → descriptor_on image d ≡ None
unfolding descriptor_on
no_descriptor image d past = ap (λ b. if b && nat_le data_start (image.size d) then newest_on descriptor_of kind.Descriptor (image.sector d) else None) (le-ltb d image.disks past)

no_status : (image : Image) (d : ℕ) → image.disks ≤ d → status_on image d ≡ None
unfolding status_on
no_status image d past = ap (λ b. if b && nat_le data_start (image.size d) then newest_on status_of kind.Status (image.sector d) else None) (le-ltb d image.disks past)

-- ---- the rows and the disks

-- the row of a disk that is there
pub row_there : (s : Survey) (d : ℕ) → d < length s.rows → (row : SurveyRow) × (slice_get s.rows d ≡ Some row)
row_there s d lt = ⊎_elim
    (λ (found : (row : SurveyRow) × (d < length s.rows) × (slice_get s.rows d ≡ Some row) × (get_or s.rows d row ≡ row)). (found.0, found.2))
    (λ (past : (length s.rows ≤ d) × (slice_get s.rows d ≡ None)). absurd (let le = past.0 in omega (arith, le, lt)))
    (slice_get_cases s.rows d).1

none_past : (sizes : List ℕ) (d : ℕ) → length sizes ≤ d → slice_index_or sizes d 0 ≡ 0
none_past [] d past = refl
none_past (x ∷ sizes) zero past = absurd (omega (arith, past))
none_past (x ∷ sizes) (suc d) past = none_past sizes d (omega (arith, past))

module _ (old new : Device) (s : Survey) (its : IsSurvey old new s) (none : NoneFailed s) (media : Media) (told : old.media ≡ Some media) where
  pub row_read : (d : ℕ) (row : SurveyRow) → slice_get s.rows d ≡ Some row → IsRowRead (image_of old.sizes media) d row
  row_read d row at = told_by old.media (λ m. IsRowRead (image_of old.sizes m) d row) media told (its.read d row at (none d row at))

  pub same_descriptor : (d : ℕ) → (surveyed s).descriptor d ≡ (contents_of (image_of old.sizes media)).descriptor d
  same_descriptor d = ⊎_elim
      (λ (lt : d < length s.rows). let row = row_there s d lt in descriptor_shown s d row.0 row.1 ∙ (row_read d row.0 row.1).descriptor)
      (λ (past : length s.rows ≤ d). descriptor_past s d past ∙ sym (no_descriptor (image_of old.sizes media) d (let all = its.all in omega (arith, past, all))))
      (cases_lt d (length s.rows))

  pub same_status : (d : ℕ) → (surveyed s).status d ≡ (contents_of (image_of old.sizes media)).status d
  same_status d = ⊎_elim
      (λ (lt : d < length s.rows). let row = row_there s d lt in status_shown s d row.0 row.1 ∙ (row_read d row.0 row.1).status)
      (λ (past : length s.rows ≤ d). status_past s d past ∙ sym (no_status (image_of old.sizes media) d (let all = its.all in omega (arith, past, all))))
      (cases_lt d (length s.rows))

-- ---- what is shown alike

pub record ShowsSame (a b : Contents) : Type 0 where
  pub descriptor : (d : ℕ) → a.descriptor d ≡ b.descriptor d
  pub status : (d : ℕ) → a.status d ≡ b.status d

pub same_group : (a b : Contents) (force : Bool) → ShowsSame a b → HasGroup a force → HasGroup b force
same_group a b force same has = record { disk = has.disk; newest = has.newest; on = sym (same.descriptor has.disk) ∙ has.on; with_force = has.with_force }

pub same_moment : (a b : Contents) (m : ℕ) → ShowsSame a b → ShowsMoment a m → ShowsMoment b m
same_moment a b m same (inl epoch) = inl (epoch.0, epoch.1, sym (same.descriptor epoch.0) ∙ epoch.2, epoch.3)
same_moment a b m same (inr (inl id)) = inr (inl (id.0, id.1, sym (same.descriptor id.0) ∙ id.2, id.3))
same_moment a b m same (inr (inr status)) = inr (inr (status.0, status.1, sym (same.status status.0) ∙ status.2, status.3))

pub same_back : (a b : Contents) → ShowsSame a b → ShowsSame b a
same_back a b same = record { descriptor = λ d. sym (same.descriptor d); status = λ d. sym (same.status d) }

pub same_before : (a b : Contents) (m : ℕ) → ShowsSame a b → ShowsEarlier a m → ShowsEarlier b m
same_before a b m same before shown shows = before shown (same_moment b a shown (same_back a b same) shows)

pub same_last : (a b : Contents) (m : ℕ) → ShowsSame a b → IsLastShown a m → IsLastShown b m
same_last a b m same last = (same_moment a b m same last.0, same_before a b (m + 1) same last.1)

module _ (old new : Device) (s : Survey) (its : IsSurvey old new s) where
  -- what is found is what the disks show, where that is told
  pub to_shown : NoneFailed s → (P : Contents → Type 0) → ((a b : Contents) → ShowsSame a b → P a → P b) → P (surveyed s) → IfShown old P
  to_shown none P carries p = if_told old.media (λ media. P (contents_of (image_of old.sizes media)))
      (λ media told. carries (surveyed s) (contents_of (image_of old.sizes media)) (record { descriptor = same_descriptor old new s its none media told; status = same_status old new s its none media told }) p)

  pub no_group_shown : NoneFailed s → (force : Bool) → (HasGroup (surveyed s) force → ⊥) → IfShown old (λ c. HasGroup c force → ⊥)
  no_group_shown none force free = to_shown none (λ c. HasGroup c force → ⊥) (λ a b same not_a has_b. not_a (same_group b a force (same_back a b same) has_b)) free

  pub group_shown : NoneFailed s → (force : Bool) → HasGroup (surveyed s) force → IfShown old (λ c. HasGroup c force)
  group_shown none force has = to_shown none (λ c. HasGroup c force) (λ a b same has_a. same_group a b force same has_a) has

  pub before_shown : NoneFailed s → (moment : ℕ) → ShowsEarlier (surveyed s) moment → IfShown old (λ c. ShowsEarlier c moment)
  before_shown none moment before = to_shown none (λ c. ShowsEarlier c moment) (λ a b same before_a. same_before a b moment same before_a) before

  pub last_is_shown : NoneFailed s → (seen : ℕ) → IsLastShown (surveyed s) seen → IfShown old (λ c. IsLastShown c seen)
  last_is_shown none seen last = to_shown none (λ c. IsLastShown c seen) (λ a b same last_a. same_last a b seen same last_a) last

  -- no read failed
  pub all_read : NoneFailed s → AllRead old new
  all_read none d = ⊎_elim
      (λ (lt : d < length s.rows). let row = row_there s d lt in its.answered d row.0 row.1 (none d row.0 row.1))
      (λ (past : length s.rows ≤ d). (its.small d (no_sectors d past)).misses)
      (cases_lt d (length s.rows))
    where
      no_sectors : (d : ℕ) → length s.rows ≤ d → slice_index_or old.sizes d 0 < data_start
      no_sectors d past = let none = none_past old.sizes d (let all = its.all in omega (arith, past, all)) in omega (arith, none)

  pub unread : (disk : ℕ) → IsFirstFailed s disk → IsUnread old new disk
  unread disk first = record {
    there = let lt = slice_get_within s.rows disk first.row first.on in let all = its.all in omega (arith, lt, all);
    rose = its.failed disk first.row first.on first.failed;
    lowest = λ d lt.
        let on = slice_get_within s.rows disk first.row first.on in
        let row = row_there s d (omega (arith, lt, on)) in
        its.answered d row.0 row.1 (first.before d row.0 row.1 lt);
  }

  pub spares_told : NoneFailed s → (homes : Homes) → SpareNewest s homes → SparesTold homes old
  spares_told none homes spare = if_told old.media (λ media. (d : ℕ) → has_records (image_of old.sizes media) d ≡ true → SparesNewest homes (image_of old.sizes media) d)
      (λ media told d has.
      let row = row_there s d (let lt = there d (length old.sizes) (nat_le data_start (slice_index_or old.sizes d 0)) has in let all = its.all in omega (arith, lt, all)) in
      spare (image_of old.sizes media) d row.0 row.1 (row_read old new s its none media told d row.0 row.1) has)
    where
      there : (d n : ℕ) (b : Bool) → (nat_lt d n && b) ≡ true → d < n
      there d n b has = ltb-true d n (split (nat_lt d n) b has).0

  pub lets_begin : (force : Bool) (moment : ℕ) (free : Free) → HasOnlyRead old new → SpareNewest s free.homes → free.buf.number ≡ 0 → LetsBegin s force moment → LetsMake force moment old new free
  lets_begin force moment free reads spare number lets = record {
    reads = reads;
    read = all_read lets.read;
    no_group = no_group_shown lets.read force lets.free;
    first = lets.first;
    later = before_shown lets.read moment lets.later;
    spares = spares_told lets.read free.homes spare;
    buffer = number;
  }

  pub refuses_found : (force : Bool) (moment patience : ℕ) → HasOnlyRead old new → (why : Cause) → RefusesShown s force moment why → RefusesFound force moment patience old new why
  refuses_found force moment patience reads (cause.DiskFailed disk) refuses = (reads, unread disk refuses)
  refuses_found force moment patience reads cause.GroupExists refuses = (reads, all_read refuses.0, group_shown refuses.0 force refuses.1)
  refuses_found force moment patience reads (cause.ClockBack seen) refuses = (
    reads,
    all_read refuses.0,
    no_group_shown refuses.0 force refuses.1,
    ⊎_elim (λ (end : (moment ≡ last_moment) × (seen ≡ last_moment)). inl end)
        (λ (back : (moment < last_moment) × (moment ≤ seen) × IsLastShown (surveyed s) seen). inr (back.0, back.1, last_is_shown refuses.0 seen back.2)) refuses.2,
  )
  refuses_found force moment patience reads _ refuses = absurd refuses
