-- The shelf of a worked session: what its records say.
use Rattle.std.proofs.Common.{◌≡◌, ℕ, ◌+◌, ◌<◌, Bool, true, false, ◌&&◌, ◌||◌, ◌==◌, List, [], length, take, Option, Some, None, Ok, refl, sym, ap, subst, ◌∙◌, arith, eqb-true}
use Rattle.std.specs.Prelude.{if◌then◌else◌, nat_lt, nat_le, option_and_then}
use Rattle.std.proofs.lemmas.Bool.{ne_eqb}
use Rattle.std.proofs.lemmas.Bool.Decides.{nat_tests}
use Rattle.std.proofs.lemmas.List.Elements.{All-cons, All-nil}
use Rattle.lvm_num.specs.declared.place.Pp.{Pp}
use Rattle.lvm_num.specs.declared.descriptor.Mode.{Mode}
use Rattle.lvm_num.specs.declared.descriptor.Mode.TheVariants.{Active, Passive, Off}
use Rattle.lvm_num.specs.declared.status.Status.{Status}
use Rattle.lvm_num.specs.declared.record.Framed.{Framed}
use Rattle.lvm_num.specs.declared.record.Kind.{Kind}
use Rattle.lvm_num.specs.declared.record.Kind.TheVariants as kind
use Rattle.lvm_num.specs.Buffer.{Sector, zero_sector, IsSector}
use Rattle.lvm_num.specs.DescriptorBytes.{descriptor_of}
use Rattle.lvm_num.specs.StatusBytes.{status_version_at, rows_and_size_at, status_row_at, status_rows_at, numbers_at, dirty_at, status_of, status_bytes}
use Rattle.lvm_num.specs.Geometry.{data_start, sector_of}
use Rattle.lvm_num.specs.Note.{IsEntry, IsNote, note_bytes, note_in, entries_below}
use Rattle.lvm_num.specs.Record.{Stamped, Frames, frame, record_in, record_sectors, slot_start, slot_size, newer}
use Rattle.lvm_num.specs.Torn.{slot_at}
use Rattle.lvm_num.proofs.NoteLemmas.{written_is_read}
use Rattle.lvm_num.proofs.TornLemmas.Torn.{whole_is_read}
use Rattle.lvm_num.proofs.TornLemmas.Fresh.{before_is_older}
use Rattle.lvm_kept.specs.passed.Rec.{held, slot_of, newest_on, read_under}
use Rattle.lvm_kept.specs.passed.Disk.{Image, image_of}
use Rattle.lvm_vol.specs.Facts.{Fact}
use Rattle.lvm_kept.specs.Contents.{note_sector, has_records, descriptor_on, status_on, note_on, data_at, contents_of}
use Rattle.lvm_kept.specs.Examples.{stamped, either_of, two}
use Rattle.lvm_kept.specs.Group.{names_if, is_named, block_at}
use Rattle.lvm_kept.proofs.PlacesLemmas.{blocks_are_sectors}
use Rattle.lvm_kept.proofs.TornLemmas.Standing.{zeros-sector}
use Rattle.lvm_invariant.specs.State.{Marks, Beside, ModelState}
use Rattle.lvm_invariant.specs.First.{two_disks, marks_with, on_both, at_rest}
use Rattle.lvm_invariant.specs.Worked.{first_group}
use Rattle.lvm_crash.specs.Session.{marks_shown, HasVolumes, HasStatuses, Shows, Describes}
use Rattle.lvm_even.specs.Members.{members_showing}
use Rattle.lvm_crash.specs.Worked.{Shown, sizes, status_shown, note_shown, framed_group, framed_status, media_of}
use Rattle.lvm_crash.proofs.WorkedLemmas.Worked.{base, stands, volumes, its_marks}
use Rattle.lvm_even.proofs.ExamplesLemmas.Slots.{first_partition, group_read, no-magic, never_before, none_or}
use Rattle.lvm_crash.proofs.LastingLemmas.Lasting.{group_stands}
use Rattle.lvm_num.specs.Disks.{Disks}
use Rattle.lvm_num.specs.declared.descriptor.Descriptor.{Descriptor}
use Rattle.lvm_num.proofs.Booleans.{and_false, some_if}

-- ---- the records are read

pub status_read : (w : Shown) (stale dirty : Bool) → w.stale ≡ stale → w.dirty ≡ dirty → status_of (status_bytes (status_shown w).value) ≡ Ok (status_shown w).value
unfolding status_version_at rows_and_size_at status_row_at status_rows_at numbers_at dirty_at status_of
status_read w stale dirty e f = subst (λ (v : Shown). status_of (status_bytes (status_shown v).value) ≡ Ok (status_shown v).value) back (by stale dirty)
  where
    by : (stale dirty : Bool) → status_of (status_bytes (status_shown (record w { stale = stale; dirty = dirty })).value) ≡ Ok (status_shown (record w { stale = stale; dirty = dirty })).value
    by true true = refl
    by true false = refl
    by false true = refl
    by false false = refl

    back : record w { stale = stale; dirty = dirty } ≡ w
    back = λ t. record w { stale = sym e t; dirty = sym f t }

-- ---- slots

-- only the two disks have room
pub room : (w : Shown) (d : ℕ) → has_records (image_of sizes (media_of w)) d ≡ either_of 0 1 d
room w d = by_first (d == 0) refl
  where
    by_second : (t : Bool) → (d == 1) ≡ t → (d == 0) ≡ false → has_records (image_of sizes (media_of w)) d ≡ either_of 0 1 d
    by_second true is other = let e : 1 ≡ d = sym (eqb-true d 1 is) in subst (λ (n : ℕ). has_records (image_of sizes (media_of w)) n ≡ either_of 0 1 n) e refl
    by_second false is other =
        let high : nat_lt d 2 ≡ false = grind (arith, nat_tests) in
        ap (λ (t : Bool). t && nat_le data_start ((image_of sizes (media_of w)).size d)) high ∙ sym (ap (λ (t : Bool). if t then true else d == 1) other ∙ is)

    by_first : (t : Bool) → (d == 0) ≡ t → has_records (image_of sizes (media_of w)) d ≡ either_of 0 1 d
    by_first true is = let e : 0 ≡ d = sym (eqb-true d 0 is) in subst (λ (n : ℕ). has_records (image_of sizes (media_of w)) n ≡ either_of 0 1 n) e refl
    by_first false is = by_second (d == 1) refl is

-- with what the group's volumes are told by as it was
abbrev pub keeping_volumes : ModelState → ModelState → ModelState
keeping_volumes old new = record new { is_copy = old.is_copy; is_active = old.is_active; is_passive = old.is_passive; beside = old.beside }

pub same_volumes : (old new : ModelState) → keeping_volumes old new ≡ new → (facts : List Fact) (group : Descriptor) (members : Disks) → HasVolumes old facts group members → HasVolumes new facts group members
same_volumes old new same facts group members v = subst (λ (s : ModelState). HasVolumes s facts group members) same
    (record { copies = v.copies; free = v.free; inside = v.inside; some = v.some; notes = v.notes; mark = v.mark; modes = v.modes; history = v.history })

module _ (w : Shown) where
  abbrev pub image : Image
  image = image_of sizes (media_of w)

  zero_else : (d s : ℕ) → (s ≡ 512 → ⊥) → (s ≡ 64 → ⊥) → (s ≡ 8 → ⊥) → media_of w d s ≡ zero_sector
  zero_else d s a b c =
      ap (λ (t : Bool). if t then frame kind.Descriptor (framed_group w.mode).stamp (framed_group w.mode).content 0 else if s == slot_start kind.Status 0 then frame kind.Status (framed_status w).stamp (framed_status w).content 0 else if w.named && s == note_sector then note_bytes note_shown else zero_sector) (ne_eqb s 512 a)
      ∙ ap (λ (t : Bool). if t then frame kind.Status (framed_status w).stamp (framed_status w).content 0 else if w.named && s == note_sector then note_bytes note_shown else zero_sector) (ne_eqb s 64 b)
      ∙ ap (λ (t : Bool). if w.named && t then note_bytes note_shown else zero_sector) (ne_eqb s 8 c)
      ∙ ap (λ (t : Bool). if t then note_bytes note_shown else zero_sector) (and_false w.named)

  pub second_zero : (kind : Kind) (d k : ℕ) → k < slot_size kind → media_of w d (slot_start kind 1 + k) ≡ zero_sector
  second_zero kind.Descriptor d k low = zero_else d (slot_start kind.Descriptor 1 + k) (λ e. omega (arith, e)) (λ e. omega (arith, e)) (λ e. omega (arith, e))
  second_zero kind.Status d k low = zero_else d (slot_start kind.Status 1 + k) (λ e. omega (arith, e, low)) (λ e. omega (arith, e, low)) (λ e. omega (arith, e))

  -- the second slots hold nothing
  second_none : (kind : Kind) (d : ℕ) → record_in kind (slot_at kind (slot_start kind 1) (media_of w d)) ≡ None
  second_none kind d = none_or (record_in kind (slot_at kind (slot_start kind 1) (media_of w d))) (λ r is. never_before r.stamp.epoch r.stamp.seq
      (before_is_older kind (record { epoch = 0; seq = 0 }) (slot_start kind 1) (media_of w d)
      (λ k low. subst (λ (x : Sector). IsSector x) (sym (second_zero kind d k low)) zeros-sector)
      (λ k low magic. absurd (no-magic kind (ap (take 2) (sym (second_zero kind d k low)) ∙ magic)))
      r is))

  group_frames : (mode : Mode) → Frames kind.Descriptor (framed_group mode)
  group_frames Active = record { some_epoch = λ e. omega (arith, e); epoch = omega arith; some_seq = λ e. omega (arith, e); seq = omega arith; content = omega arith }
  group_frames Passive = record { some_epoch = λ e. omega (arith, e); epoch = omega arith; some_seq = λ e. omega (arith, e); seq = omega arith; content = omega arith }
  group_frames Off = record { some_epoch = λ e. omega (arith, e); epoch = omega arith; some_seq = λ e. omega (arith, e); seq = omega arith; content = omega arith }

  status_frames : (stale dirty : Bool) → Frames kind.Status (framed_status (record w { stale = stale; dirty = dirty }))
  status_frames true true = record { some_epoch = λ e. omega (arith, e); epoch = omega arith; some_seq = λ e. omega (arith, e); seq = omega arith; content = omega arith }
  status_frames true false = record { some_epoch = λ e. omega (arith, e); epoch = omega arith; some_seq = λ e. omega (arith, e); seq = omega arith; content = omega arith }
  status_frames false true = record { some_epoch = λ e. omega (arith, e); epoch = omega arith; some_seq = λ e. omega (arith, e); seq = omega arith; content = omega arith }
  status_frames false false = record { some_epoch = λ e. omega (arith, e); epoch = omega arith; some_seq = λ e. omega (arith, e); seq = omega arith; content = omega arith }

  group_first : (d : ℕ) → record_in kind.Descriptor (slot_at kind.Descriptor (slot_start kind.Descriptor 0) (media_of w d)) ≡ Some (framed_group w.mode)
  group_first d = whole_is_read kind.Descriptor (framed_group w.mode) (slot_start kind.Descriptor 0) (media_of w d) (group_frames w.mode) (λ k low. whole k (one_sector w.mode k low))
    where
      one_sector : (mode : Mode) (k : ℕ) → k < record_sectors (length (framed_group mode).content) → k ≡ 0
      one_sector Active k low = first_partition k low
      one_sector Passive k low = first_partition k low
      one_sector Off k low = first_partition k low

      whole : (k : ℕ) → k ≡ 0 → media_of w d (512 + k) ≡ frame kind.Descriptor (framed_group w.mode).stamp (framed_group w.mode).content k
      whole k is = subst (λ (n : ℕ). media_of w d (512 + n) ≡ frame kind.Descriptor (framed_group w.mode).stamp (framed_group w.mode).content n) (sym is) refl

  status_first : (d : ℕ) → record_in kind.Status (slot_at kind.Status (slot_start kind.Status 0) (media_of w d)) ≡ Some (framed_status w)
  status_first d = whole_is_read kind.Status (framed_status w) (slot_start kind.Status 0) (media_of w d) (status_frames w.stale w.dirty) (λ k low. whole k (one_sector w.stale w.dirty k low))
    where
      one_sector : (stale dirty : Bool) (k : ℕ) → k < record_sectors (length (framed_status (record w { stale = stale; dirty = dirty })).content) → k ≡ 0
      one_sector true true k low = first_partition k low
      one_sector true false k low = first_partition k low
      one_sector false true k low = first_partition k low
      one_sector false false k low = first_partition k low

      whole : (k : ℕ) → k ≡ 0 → media_of w d (64 + k) ≡ frame kind.Status (framed_status w).stamp (framed_status w).content k
      whole k is = subst (λ (n : ℕ). media_of w d (64 + n) ≡ frame kind.Status (framed_status w).stamp (framed_status w).content n) (sym is) refl

  newest_group : (d : ℕ) → newest_on descriptor_of kind.Descriptor (media_of w d) ≡ Some (stamped 2 (two w.mode))
  newest_group d =
      let first : held descriptor_of kind.Descriptor (slot_of kind.Descriptor 0 (media_of w d)) ≡ Some (stamped 2 (two w.mode)) =
      ap (λ (o : Option Framed). option_and_then (λ r. read_under r.stamp (descriptor_of r.content)) o) (group_first d) ∙ ap (read_under (framed_group w.mode).stamp) (group_read w.mode) in
      let second : held descriptor_of kind.Descriptor (slot_of kind.Descriptor 1 (media_of w d)) ≡ None =
      ap (λ (o : Option Framed). option_and_then (λ r. read_under r.stamp (descriptor_of r.content)) o) (second_none kind.Descriptor d) in
      λ t. newer (first t) (second t)

  pub status_held : (d : ℕ) → held status_of kind.Status (slot_of kind.Status 0 (media_of w d)) ≡ Some (status_shown w)
  status_held d = ap (λ (o : Option Framed). option_and_then (λ r. read_under r.stamp (status_of r.content)) o) (status_first d) ∙ ap (read_under (framed_status w).stamp) (status_read w w.stale w.dirty refl refl)

  pub status_none : (d : ℕ) → held status_of kind.Status (slot_of kind.Status 1 (media_of w d)) ≡ None
  status_none d = ap (λ (o : Option Framed). option_and_then (λ r. read_under r.stamp (status_of r.content)) o) (second_none kind.Status d)

  pub newest_status : (d : ℕ) → newest_on status_of kind.Status (media_of w d) ≡ Some (status_shown w)
  newest_status d =
      let first = status_held d in
      let second = status_none d in
      λ t. newer (first t) (second t)

  -- ---- what the image shows

  pub descriptors : (d : ℕ) → descriptor_on image d ≡ (base w.mode).descriptor d
  unfolding descriptor_on
  descriptors d = let here : has_records image d ≡ either_of 0 1 d = room w d in let newest : newest_on descriptor_of kind.Descriptor (media_of w d) ≡ Some (stamped 2 (two w.mode)) = newest_group d in λ t. if here t then newest t else None

  pub statuses_on : (d : ℕ) → status_on image d ≡ (if either_of 0 1 d then Some (status_shown w) else None)
  unfolding status_on
  statuses_on d = let here : has_records image d ≡ either_of 0 1 d = room w d in let newest : newest_on status_of kind.Status (media_of w d) ≡ Some (status_shown w) = newest_status d in λ t. if here t then newest t else None

  rest : contents_of image ≡ record (base w.mode) { status = status_on image; note = note_on image; block = data_at image }
  rest =
      let descriptor : (d : ℕ) → descriptor_on image d ≡ (base w.mode).descriptor d = descriptors in
      λ t. record { disks = 2; size = image.size; descriptor = λ d. descriptor d t; status = status_on image; note = note_on image; block = data_at image }

  pub the_status : (d : ℕ) (r : Stamped Status) → status_on image d ≡ Some r → r ≡ status_shown w
  the_status d r is = some_if (either_of 0 1 d) (status_shown w) r (sym (statuses_on d) ∙ is)

  -- names of the notes

  nothing_named : (t : Bool) (lv g : ℕ) → names_if (if t then note_in zero_sector else None) lv g ≡ false
  unfolding entries_below
  nothing_named true lv g = refl
  nothing_named false lv g = refl

  is_note : IsNote note_shown
  is_note = record { stamp = omega arith; count = omega arith; entries = All-cons IsEntry (record { lv = 1; group = 0 }) [] (record { some_lv = λ e. omega (arith, e); lv = omega arith; group = omega arith }) (All-nil IsEntry) }

  swapped : (n m : ℕ) → (n == m) ≡ (m == n)
  swapped n m = grind (arith, nat_tests)

  or_false : (a : Bool) → a || false ≡ a
  or_false true = refl
  or_false false = refl

  pub its_names : (lv g : ℕ) → names_if (note_in (note_bytes note_shown)) lv g ≡ first_group lv g
  its_names lv g =
      ap (λ o. names_if o lv g) (written_is_read note_shown is_note)
      ∙ or_false ((1 == lv) && (0 == g)) ∙ ap (λ (t : Bool). t && (0 == g)) (swapped 1 lv) ∙ ap (λ (t : Bool). (lv == 1) && t) (swapped 0 g)

  on_disk : (t : Bool) (lv g : ℕ) → names_if (if t then note_in (note_bytes note_shown) else None) lv g ≡ (t && first_group lv g)
  on_disk true lv g = its_names lv g
  on_disk false lv g = refl

  pub if_or : (a b : Bool) → (if a then true else b) ≡ (a || b)
  if_or true b = refl
  if_or false b = refl

  names : (d lv g : ℕ) → is_named (contents_of image) d lv g ≡ (w.named && (two_disks d && first_group lv g))
  unfolding note_on
  names d lv g = by w.named
    where
      by : (named : Bool) → names_if (if has_records image d then note_in (if named && true then note_bytes note_shown else zero_sector) else None) lv g ≡ (named && (two_disks d && first_group lv g))
      by true = on_disk (has_records image d) lv g ∙ ap (λ (t : Bool). t && first_group lv g) (room w d ∙ if_or (d == 0) (d == 1))
      by false = nothing_named (has_records image d) lv g

  zeros : (lv b : ℕ) (p : Pp) → zero_sector ≡ block_at (contents_of image) (two w.mode).mib p b
  zeros lv b p = sym (blocks_are_sectors image (two w.mode).mib b p ∙ zero_else p.disk (sector_of (two w.mode).mib p.pp b) (λ e. omega (arith, e)) (λ e. omega (arith, e)) (λ e. omega (arith, e)))

  -- statuses as a session sees them
  shown_status : (d : ℕ) → on_both (record { stamp = (status_shown w).stamp; value = marks_with w.stale w.dirty }) d ≡ marks_shown None 50 (status_on image d)
  shown_status d = by (d == 0) (d == 1) ∙ ap (marks_shown None 50) (sym (statuses_on d))
    where
      by : (a b : Bool) → (if a || b then Some (record { stamp = (status_shown w).stamp; value = marks_with w.stale w.dirty }) else None) ≡ marks_shown None 50 (if (if a then true else b) then Some (status_shown w) else None)
      by true b = sym (ap (λ (m : Stamped Marks). Some m) (its_marks w))
      by false true = sym (ap (λ (m : Stamped Marks). Some m) (its_marks w))
      by false false = refl

  -- ---- a session of it

  -- no update is under way
  pub no_update : (s : ModelState) → s.in_flight ≡ None → HasStatuses s (two w.mode) None (contents_of image)
  no_update s none = record {
    same = none;
    own = λ u e. absurd cc;
    once = λ d e r u is also ids stamps. the_status d r is ∙ sym (the_status e u also);
    new = λ u d r e is ids stamps. absurd cc;
  }

  -- what stands on the disks is what such a state says
  pub record Fits (s : ModelState) (in_flight : Option (Stamped Status)) : Type 0 where
    pub block : (lv b : ℕ) (p : Pp) → s.media.block lv b p ≡ zero_sector
    pub names : (d lv g : ℕ) → s.media.names d lv g ≡ (w.named && (two_disks d && first_group lv g))
    pub status : (d : ℕ) → s.media.status d ≡ on_both (record { stamp = (status_shown w).stamp; value = marks_with w.stale w.dirty }) d
    pub statuses : HasStatuses s (two w.mode) in_flight (contents_of image)
    pub beside : s.beside ≡ None
    pub volumes : (facts : List Fact) → HasVolumes (at_rest w.mode w.stale) facts (two w.mode) (members_showing (base w.mode) (two w.mode)) → HasVolumes s facts (two w.mode) (members_showing (base w.mode) (two w.mode))

  -- one that shows no written block, with no status out and the volumes at rest
  pub fits_still : (s : ModelState) → ((lv b : ℕ) (p : Pp) → s.media.block lv b p ≡ zero_sector) → ((d lv g : ℕ) → s.media.names d lv g ≡ (w.named && (two_disks d && first_group lv g)))
      → ((d : ℕ) → s.media.status d ≡ on_both (record { stamp = (status_shown w).stamp; value = marks_with w.stale w.dirty }) d) → s.in_flight ≡ None → keeping_volumes (at_rest w.mode w.stale) s ≡ s → Fits s None
  fits_still s block names status none same = record { block = block; names = names; status = status; statuses = no_update s none; beside = ap (λ (x : ModelState). x.beside) (sym same); volumes = λ facts v. same_volumes (at_rest w.mode w.stale) s same facts (two w.mode) _ v }

  shows : (s : ModelState) (in_flight : Option (Stamped Status)) → Fits s in_flight → Shows s (two w.mode) in_flight (contents_of image)
  shows s in_flight fits = record {
    blocks = λ lv b p copy. fits.block lv b p ∙ zeros lv b p;
    names = λ d lv g. fits.names d lv g ∙ sym (names d lv g);
    status = λ d. fits.status d ∙ shown_status d ∙ ap (λ (o : Option Beside). marks_shown o (two w.mode).id ((contents_of image).status d)) (sym fits.beside);
    statuses = fits.statuses;
  }

  -- such a state describes the image, with the history of its beginning
  pub describes : (s : ModelState) (in_flight : Option (Stamped Status)) → Fits s in_flight → Describes s (at_rest w.mode w.stale).facts (two w.mode) in_flight (contents_of image)
  describes s in_flight fits = subst (λ c. Describes s (at_rest w.mode w.stale).facts (two w.mode) in_flight c) (sym rest) (record {
    stands = group_stands (base w.mode) (status_on image) (note_on image) (data_at image) (two w.mode) (stands w.mode);
    volumes = fits.volumes (at_rest w.mode w.stale).facts (volumes w.mode w.stale);
    shown = subst (λ c. Shows s (two w.mode) in_flight c) rest (shows s in_flight fits);
    raw = λ d b low none from to. tt;
  })
