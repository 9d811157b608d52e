-- The two disks that are worked by hand, sector by sector.
use Rattle.std.proofs.Common.{◌≡◌, ℕ, ◌+◌, ◌<◌, Bool, true, false, ◌&&◌, ◌==◌, [], length, take, Option, Some, None, Ok, refl, sym, ap, subst, ◌∙◌, arith, eqb-true}
use Rattle.std.specs.Prelude.{if◌then◌else◌, nat_lt, nat_le, option_and_then}
use Rattle.std.proofs.lemmas.Bool.{ne_eqb}
use Rattle.std.proofs.lemmas.Bool.Decides.{nat_tests}
use Rattle.lvm_num.specs.declared.record.Framed.{Framed}
use Rattle.lvm_num.specs.declared.record.Kind.{Kind}
use Rattle.lvm_num.specs.declared.record.Kind.TheVariants as kind
use Rattle.lvm_num.specs.Buffer.{Sector, zero_sector, IsSector}
use Rattle.lvm_num.specs.DescriptorBytes.{descriptor_of}
use Rattle.lvm_num.specs.StatusBytes.{status_version_at, rows_and_size_at, status_row_at, status_rows_at, numbers_at, dirty_at, status_of as read_status, status_bytes}
use Rattle.lvm_num.specs.Geometry.{data_start}
use Rattle.lvm_num.specs.Note.{note_in}
use Rattle.lvm_num.specs.Record.{Frames, frame, record_in, record_sectors, slot_start, slot_size, newer}
use Rattle.lvm_num.specs.Torn.{slot_at}
use Rattle.lvm_num.proofs.TornLemmas.Torn.{whole_is_read}
use Rattle.lvm_num.proofs.TornLemmas.Fresh.{before_is_older}
use Rattle.lvm_rec.specs.Slots.{held, slot_of, newest_on, read_under}
use Rattle.lvm_disk.specs.Device.{Image, image_of}
use Rattle.lvm_kept.specs.Contents.{has_records, descriptor_on, status_on, note_on, data_at, contents_of}
use Rattle.lvm_kept.specs.Examples.{stamped, either_of, two}
use Rattle.lvm_kept.proofs.TornLemmas.Standing.{zeros-sector}
use Rattle.lvm_even.proofs.ExamplesLemmas.Slots.{group_read, no-magic, never_before, none_or, first_partition}
use Rattle.lvm_even.specs.Examples.{Pair, status_of, framed_group, framed_status, media_of, pair_sizes, in_data, shown_by}

-- ---- the records are read

pub status_read : (x : Pair) (dirty lost : Bool) → read_status (status_bytes (status_of (record x { dirty = dirty; lost = lost })).value) ≡ Ok (status_of (record x { dirty = dirty; lost = lost })).value
unfolding status_version_at rows_and_size_at status_row_at status_rows_at numbers_at dirty_at read_status
status_read x true true = refl
status_read x true false = refl
status_read x false true = refl
status_read x false false = refl

-- ---- slots

status_frames : (x : Pair) (dirty : Bool) → Frames kind.Status (framed_status (record x { dirty = dirty }))
status_frames x true = record { some_epoch = λ e. omega (arith, e); epoch = omega arith; some_seq = λ e. omega (arith, e); seq = omega arith; content = omega arith }
status_frames x false = record { some_epoch = λ e. omega (arith, e); epoch = omega arith; some_seq = λ e. omega (arith, e); seq = omega arith; content = omega arith }

group_frames : (x : Pair) → Frames kind.Descriptor (framed_group x)
group_frames x = record { some_epoch = λ e. omega (arith, e); epoch = omega arith; some_seq = λ e. omega (arith, e); seq = omega arith; content = omega arith }

status_sectors : (x : Pair) (dirty : Bool) (k : ℕ) → k < record_sectors (length (framed_status (record x { dirty = dirty })).content) → k ≡ 0
status_sectors x true k low = first_partition k low
status_sectors x false k low = first_partition k low

-- the first slots hold the records
pub group_first : (x : Pair) (d : ℕ) → record_in kind.Descriptor (slot_at kind.Descriptor (slot_start kind.Descriptor 0) (media_of x d)) ≡ Some (framed_group x)
group_first x d = whole_is_read kind.Descriptor (framed_group x) (slot_start kind.Descriptor 0) (media_of x d) (group_frames x)
    (λ k low. subst (λ (n : ℕ). media_of x d (512 + n) ≡ frame kind.Descriptor (framed_group x).stamp (framed_group x).content n) (sym (first_partition k low)) refl)

pub status_first : (x : Pair) (d : ℕ) → record_in kind.Status (slot_at kind.Status (slot_start kind.Status 0) (media_of x d)) ≡ Some (framed_status x)
status_first x d = whole_is_read kind.Status (framed_status x) (slot_start kind.Status 0) (media_of x d) (status_frames x x.dirty)
    (λ k low. subst (λ (n : ℕ). media_of x d (64 + n) ≡ frame kind.Status (framed_status x).stamp (framed_status x).content n) (sym (status_sectors x x.dirty k low)) refl)

module _ (x : Pair) (zeros_below : (d s : ℕ) → s < 4096 → x.stands d s ≡ zero_sector) where
  abbrev pub image : Image
  image = image_of pair_sizes (media_of x)

  -- past the first slots and the note stands what stands there
  pub stands_else : (d s : ℕ) → (s ≡ 512 → ⊥) → (s ≡ 64 → ⊥) → (s ≡ 8 → ⊥) → media_of x d s ≡ x.stands d s
  stands_else d s a b n =
      ap (λ (t : Bool). if t then frame kind.Descriptor (framed_group x).stamp (framed_group x).content 0 else if s == slot_start kind.Status 0 then frame kind.Status (framed_status x).stamp (framed_status x).content 0 else if s == 8 then x.note else x.stands d s) (ne_eqb s 512 a)
      ∙ ap (λ (t : Bool). if t then frame kind.Status (framed_status x).stamp (framed_status x).content 0 else if s == 8 then x.note else x.stands d s) (ne_eqb s 64 b)
      ∙ ap (λ (t : Bool). if t then x.note else x.stands d s) (ne_eqb s 8 n)

  pub second_zero : (kind : Kind) (d k : ℕ) → k < slot_size kind → media_of x d (slot_start kind 1 + k) ≡ zero_sector
  second_zero kind.Descriptor d k low = stands_else d (slot_start kind.Descriptor 1 + k) (λ e. omega (arith, e)) (λ e. omega (arith, e)) (λ e. omega (arith, e)) ∙ zeros_below d (slot_start kind.Descriptor 1 + k) (omega (arith, low))
  second_zero kind.Status d k low = stands_else d (slot_start kind.Status 1 + k) (λ e. omega (arith, e, low)) (λ e. omega (arith, e, low)) (λ e. omega (arith, e, low)) ∙ zeros_below d (slot_start kind.Status 1 + k) (omega (arith, low))

  -- the second slots hold nothing
  pub second_none : (kind : Kind) (d : ℕ) → record_in kind (slot_at kind (slot_start kind 1) (media_of x d)) ≡ None
  second_none kind d = none_or (record_in kind (slot_at kind (slot_start kind 1) (media_of x d))) (λ r is. never_before r.stamp.epoch r.stamp.seq
      (before_is_older kind (record { epoch = 0; seq = 0 }) (slot_start kind 1) (media_of x d)
      (λ k low. subst (λ (y : Sector). IsSector y) (sym (second_zero kind d k low)) zeros-sector)
      (λ k low magic. absurd (no-magic kind (ap (take 2) (sym (second_zero kind d k low)) ∙ magic)))
      r is))

  newest_group : (d : ℕ) → newest_on descriptor_of kind.Descriptor (media_of x d) ≡ Some (stamped 2 (two x.mode))
  newest_group d =
      let first : held descriptor_of kind.Descriptor (slot_of kind.Descriptor 0 (media_of x d)) ≡ Some (stamped 2 (two x.mode)) =
      ap (λ (o : Option Framed). option_and_then (λ r. read_under r.stamp (descriptor_of r.content)) o) (group_first x d) ∙ ap (read_under (framed_group x).stamp) (group_read x.mode) in
      let second : held descriptor_of kind.Descriptor (slot_of kind.Descriptor 1 (media_of x d)) ≡ None =
      ap (λ (o : Option Framed). option_and_then (λ r. read_under r.stamp (descriptor_of r.content)) o) (second_none kind.Descriptor d) in
      λ t. newer (first t) (second t)

  newest_status : (d : ℕ) → newest_on read_status kind.Status (media_of x d) ≡ Some (status_of x)
  newest_status d =
      let first : held read_status kind.Status (slot_of kind.Status 0 (media_of x d)) ≡ Some (status_of x) =
      ap (λ (o : Option Framed). option_and_then (λ r. read_under r.stamp (read_status r.content)) o) (status_first x d) ∙ ap (read_under (framed_status x).stamp) (status_read x x.dirty x.lost) in
      let second : held read_status kind.Status (slot_of kind.Status 1 (media_of x d)) ≡ None =
      ap (λ (o : Option Framed). option_and_then (λ r. read_under r.stamp (read_status r.content)) o) (second_none kind.Status d) in
      λ t. newer (first t) (second t)

  -- only the two disks have room
  pub room : (d : ℕ) → has_records image d ≡ either_of 0 1 d
  room d = by_first (d == 0) refl
    where
      by_second : (t : Bool) → (d == 1) ≡ t → (d == 0) ≡ false → has_records image d ≡ either_of 0 1 d
      by_second true is other = let e : 1 ≡ d = sym (eqb-true d 1 is) in subst (λ (n : ℕ). has_records image n ≡ either_of 0 1 n) e refl
      by_second false is other =
          let high : nat_lt d 2 ≡ false = grind (arith, nat_tests) in
          ap (λ (t : Bool). t && nat_le data_start (image.size d)) high ∙ sym (ap (λ (t : Bool). if t then true else d == 1) other ∙ is)

      by_first : (t : Bool) → (d == 0) ≡ t → has_records image d ≡ either_of 0 1 d
      by_first true is = let e : 0 ≡ d = sym (eqb-true d 0 is) in subst (λ (n : ℕ). has_records image n ≡ either_of 0 1 n) e refl
      by_first false is = by_second (d == 1) refl is

  descriptors : (d : ℕ) → descriptor_on image d ≡ (shown_by x).descriptor d
  unfolding descriptor_on
  descriptors d = let here : has_records image d ≡ either_of 0 1 d = room d in let newest : newest_on descriptor_of kind.Descriptor (media_of x d) ≡ Some (stamped 2 (two x.mode)) = newest_group d in λ t. if here t then newest t else None

  statuses : (d : ℕ) → status_on image d ≡ (shown_by x).status d
  unfolding status_on
  statuses d = let here : has_records image d ≡ either_of 0 1 d = room d in let newest : newest_on read_status kind.Status (media_of x d) ≡ Some (status_of x) = newest_status d in λ t. if here t then newest t else None

  notes : (d : ℕ) → note_on image d ≡ (shown_by x).note d
  unfolding note_on
  notes d = ap (λ (t : Bool). if t then note_in x.note else None) (room d)

  data_is : (d s : ℕ) → data_at image d s ≡ in_data x.stands d s
  data_is d s = by (nat_lt s data_start) refl
    where
      by : (t : Bool) → nat_lt s data_start ≡ t → (if t then [] else media_of x d s) ≡ (if t then [] else x.stands d s)
      by true e = refl
      by false e = stands_else d s (λ is. absurd (grind (arith, nat_tests))) (λ is. absurd (grind (arith, nat_tests))) (λ is. absurd (grind (arith, nat_tests)))

  pub told : contents_of image ≡ shown_by x
  told =
      let descriptor : (d : ℕ) → descriptor_on image d ≡ (shown_by x).descriptor d = descriptors in
      let status : (d : ℕ) → status_on image d ≡ (shown_by x).status d = statuses in
      let note : (d : ℕ) → note_on image d ≡ (shown_by x).note d = notes in
      let block : (d s : ℕ) → data_at image d s ≡ in_data x.stands d s = data_is in
      λ t. record { disks = 2; size = image.size; descriptor = λ d. descriptor d t; status = λ d. status d t; note = λ d. note d t; block = λ d s. block d s t }
