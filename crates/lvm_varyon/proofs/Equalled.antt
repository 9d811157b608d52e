-- What the disks show once the copies of a varyon are made and its notes emptied.
use Rattle.std.proofs.Common.{◌≡◌, inl, inr, ℕ, ◌<◌, ◌^◌, Bool, true, false, List, [], Option, Some, None, refl, sym, ap, subst, ◌∙◌, arith}
use Rattle.std.specs.Prelude.{◌≢◌, IsTrue, IsFalse, IfSome, option_map, if◌then◌else◌}
use Rattle.std.proofs.lemmas.List.Elements.{All-nil}
use Rattle.lvm_num.specs.declared.record.Framed.{Framed}
use Rattle.lvm_num.specs.declared.status.Status.{Status}
use Rattle.lvm_num.specs.Buffer.{Sector}
use Rattle.lvm_num.specs.Disks.{Disks}
use Rattle.lvm_num.specs.Descriptor.{IsValid}
use Rattle.lvm_num.specs.Note.{Noted, note_in, IsEntry}
use Rattle.lvm_num.specs.Record.{Stamped, stamp_lt}
use Rattle.lvm_num.specs.Status.{IsValidStatus}
use Rattle.lvm_num.specs.StatusBytes.{status_of, status_bytes}
use Rattle.lvm_vgsa.proofs.StatusBytesLemmas.RoundTrip.{is_read_again}
use Rattle.lvm_num.specs.Votes.{all_disks, votes_in, CanRead, CanWrite}
use Rattle.lvm_num.proofs.NoteLemmas.{written_is_read}
use Rattle.lvm_num.proofs.VotesLemmas.{read_is_write}
use Rattle.lvm_disk.specs.Device.{Media, Image, Device, IsWholeImage, image_of}
use Rattle.lvm_disk.specs.Steps.{BothTold}
use Rattle.lvm_vol.specs.Facts.{Fact}
use Rattle.lvm_kept.specs.Contents.{Contents, contents_of, has_records, note_on, note_sector}
use Rattle.lvm_kept.specs.Group.{is_named, names_if, ReadsBy}
use Rattle.lvm_kept.specs.Plans.{ChangesBy}
use Rattle.lvm_kept.specs.Kept.{Kept}
use Rattle.lvm_kept.specs.Torn.{written as as_read, IsOfNote, IsOfRecord, MayWriteAll, StandsOn}
use Rattle.lvm_kept.proofs.PlacesLemmas.{room-same}
use Rattle.lvm_kept.proofs.TornLemmas.Records.{status_shows}
use Rattle.lvm_commit.proofs.LawsOfWritesLemmas.Writes.{status_is_held}
use Rattle.lvm_kept.proofs.CommittedLemmas.Finding.{finding_reads}
use Rattle.lvm_steps.specs.Behind.{StampsBefore, StampsAreEarlier}
use Rattle.lvm_steps.specs.Moments.{ImagesKept}
use Rattle.lvm_steps.proofs.LawsLemmas.Writes.{changes_widen}
use Rattle.lvm_steps.proofs.MakingLemmas.Making.{media_may}
use Rattle.lvm_rec.specs.declared.homes.Homes.{Homes}
use Rattle.lvm_write.specs.Homes.{SparesNewest}
use Rattle.lvm_write.specs.Beginning.{states}
use Rattle.lvm_write.specs.Notes.{empty_note_sector}
use Rattle.lvm_write.proofs.WrittenLemmas.Writing.{told_at}
use Rattle.lvm_varyon.specs.passed.Commit.{HoldsCommitted}
use Rattle.lvm_varyon.specs.passed.Recovery.{IsOfCopies, ShowsCopied, MayEqualise, MayEqualiseBy, MayStateSecond, ArePlanned, second_write}
use Rattle.lvm_varyon.specs.passed.Tidying.{IsCleaned, WasCleaned}
use Rattle.lvm_varyon.specs.passed.Recover.{OnlyNotesOf}
use Rattle.lvm_varyon.proofs.passed.Recovery.{copied_ends, emptied_ends, next_same_plan, same_notes_same_plan, status_stands}
use Rattle.lvm_varyon.proofs.passed.Recover.{next_leaves_none}
use Rattle.lvm_varyon.specs.Chosen.{answering}
use Rattle.lvm_varyon.specs.Equal.{IsPut, IsStated, MakesEqual}
use Rattle.lvm_varyon.specs.Second.{IsSecond, status_after, last_stamp, last_status}
use Rattle.lvm_varyon.specs.Writing.{beginning}
use Rattle.lvm_varyon.proofs.Beside.{IsBesideSlots, beside_holds, beside_keeps_before, beside_spares, copies_beside, notes_beside}
use Rattle.lvm_varyon.proofs.SecondLemmas.{may_state, stated_later, same_is_no_later}
use Rattle.lvm_varyon.proofs.After.{HasRecords, MayHaveRecords, records_there, same_names, shown_is, shows, spares, stamps_before}

-- an empty note names nothing
names_none : (sector : Sector) (epoch lv group : ℕ) (room : Bool) → epoch < 2 ^ 64 → sector ≡ empty_note_sector epoch → names_if (if room then note_in sector else None) lv group ≡ false
names_none sector epoch lv group true small is =
    ap (λ (s : Sector). names_if (note_in s) lv group) is
    ∙ ap (λ (n : Option Noted). names_if n lv group) (written_is_read (record { stamp = epoch; entries = [] }) (record { stamp = small; count = omega arith; entries = All-nil IsEntry }))
names_none sector epoch lv group false small is = refl

-- what holds of the media that are told
pub both_told : (a b : Option Media) (R : Media → Media → Type 0) (m n : Media) → a ≡ Some m → b ≡ Some n → BothTold a b R → R m n
both_told None b R m n e f told = absurd cc
both_told (Some x) None R m n e f told = absurd cc
both_told (Some x) (Some y) R m n e f told =
    let first : x ≡ m = cc in
    let last : y ≡ n = cc in
    subst (λ (z : Media). R z n) first (subst (λ (z : Media). R x z) last told)

-- ---- the records stand

module _ (old new : Device) (name : List ℕ) (moment : ℕ) (homes : Homes) (w : HasRecords old new name moment homes) (was now : Media) (told : old.media ≡ Some was) (told_now : new.media ≡ Some now) (may : MayHaveRecords old new name moment homes w was)
    (valid : IsValid w.group) where
  abbrev targets : Disks
  targets = answering w.found.shown w.group

  abbrev before : Contents
  before = contents_of (image_of old.sizes was)

  abbrev after : Contents
  after = contents_of (image_of new.sizes now)

  abbrev stands : Stamped Status
  stands = as_read (states (beginning moment w.group w.next targets w.writes.homes)) w.next

  pub enough : CanWrite w.group targets
  enough =
      let holds = w.chosen.holds in
      let reads : ReadsBy w.found.shown all_disks w.group.id w.group = finding_reads w.found.shown all_disks w.group.id w.group (record { quorum = holds.quorum; newest = holds.newest; found = holds.only.newest; is = holds.is }) in
      let can : CanRead w.group targets = subst (λ (v : Disks). CanRead w.group v) (sym reads.voters) reads.reads.enough in
      read_is_write w.group (votes_in w.group targets) valid.head.a_member can

  -- the notes of the targets are those that were found
  pub names_as_found : (d lv track_group : ℕ) → IsTrue (targets d) → is_named w.found.shown d lv track_group ≡ is_named after d lv track_group
  names_as_found d lv track_group target =
      ap (λ (c : Contents). is_named c d lv track_group) (shown_is old new name moment homes w was now told told_now may)
      ∙ ap (λ (t : Bool). names_if (if t then before.note d else None) lv track_group) (w.answered d target)
      ∙ sym (same_names old new name moment homes w was now told told_now may d lv track_group)

  -- the copies that were planned are planned by what stands now
  planned_now : ArePlanned after w.group (Some stands) targets w.copies
  planned_now = same_notes_same_plan w.found.shown after w.group (Some stands) targets w.copies names_as_found (next_same_plan w.found.shown w.group targets w.was stands w.copies valid w.next_is w.planned)

  some : moment ≢ 0
  some e = let later = w.chosen.later in omega (arith, later, e)

  low : moment < 2 ^ 64
  low = let early = w.chosen.early in omega (arith, early)

  -- the disks hold what a session of them says
  restated_holds : (facts : List Fact) → Kept after facts → StampsAreEarlier moment old → HoldsCommitted (image_of new.sizes now) w.group w.next targets (record { epoch = moment; seq = 2 }) homes
  restated_holds facts kept behind = record {
    shows = shows old new name moment homes w was now told told_now may facts kept;
    stamps = stamps_before old new name moment homes w was now told told_now may behind;
    there = λ d target. records_there old new name moment homes w was now told told_now may d target;
    homes = λ d target. spares old new name moment homes w was now told told_now may d target;
  }

  -- ---- whatever the copies have brought

  module _ (copied : Image) (by : ChangesBy (IsOfCopies new w.copies) (image_of new.sizes now) copied) where
    copied_beside : ChangesBy IsBesideSlots (image_of new.sizes now) copied
    copied_beside = changes_widen (IsOfCopies new w.copies) IsBesideSlots (image_of new.sizes now) copied (copies_beside after w.group (Some stands) targets w.copies planned_now new) by

    copied_there : (d : ℕ) → IsTrue (targets d) → has_records copied d ≡ true
    copied_there d target = room-same (image_of new.sizes now) copied by.same d ∙ records_there old new name moment homes w was now told told_now may d target

    copied_spares : (d : ℕ) → IsTrue (targets d) → SparesNewest homes copied d
    copied_spares d target = beside_spares (image_of new.sizes now) copied copied_beside homes d (spares old new name moment homes w was now told told_now may d target)

    module _ (whole : IsWholeImage copied) (behind : StampsAreEarlier moment old) where
      copied_before : StampsBefore (record { epoch = moment; seq = 3 }) copied
      copied_before = beside_keeps_before (image_of new.sizes now) copied copied_beside (record { epoch = moment; seq = 3 }) (stamps_before old new name moment homes w was now told told_now may behind)

      -- a second status may be written
      pub second_may : (clean : Status) → IsValidStatus clean → MayWriteAll Status status_of (second_write moment (status_bytes clean) targets homes) clean copied
      second_may clean good = may_state moment some low clean good targets homes copied whole copied_before copied_there copied_spares

      pub second_later : (d : ℕ) (r : Stamped Status) → (contents_of copied).status d ≡ Some r → stamp_lt r.stamp (record { epoch = moment; seq = 3 }) ≡ true
      second_later d r shown = stated_later moment some low w.next w.next_is.valid targets homes copied whole copied_before copied_there copied_spares d r shown

  -- the copies may be made
  abbrev may_equalise : (facts : List Fact) → ImagesKept new facts → MayEqualise w.copies targets w.group w.next targets new
  may_equalise facts kept = record {
    may = record {
      media = now;
      told = told_now;
      valid = valid;
      enough = enough;
      shows = shows old new name moment homes w was now told told_now may facts (kept (image_of new.sizes now) (media_may new now told_now));
      none_behind = next_leaves_none after w.group targets w.was stands valid w.next_is;
    };
    planned = planned_now;
    targets_there = λ d target. target;
  }

  -- and then the second status be written, if there is one
  pub may_equalise_by : StampsAreEarlier moment old → (facts : List Fact) → ImagesKept new facts → MayEqualiseBy w.copies (option_map status_bytes w.clean) moment targets homes w.group w.next targets new
  may_equalise_by behind facts kept = (may_equalise facts kept, second w.clean w.clean_is w.clean_valid)
    where
      second : (clean : Option Status) → IsSecond w.group targets stands clean → IfSome clean IsValidStatus → MayStateSecond w.copies (option_map status_bytes clean) moment targets homes w.group w.next targets new (may_equalise facts kept).may
      second None is good = tt
      second (Some clean) is good = record {
        clean = clean;
        all = λ d target. target;
        by = λ copied whole by. record {
          cleaned = is.0;
          own = ap (λ (s : Status). s.id) is.0.rest ∙ w.next_is.id;
          is_status = refl;
          targets = λ d target. target;
          write = second_may copied by whole behind clean good;
          later = λ d r shown its. second_later copied by whole behind d r shown;
        };
      }

  -- ---- and then all of it is done

  module _ (last : Device) (after_homes : Homes) (equal : MakesEqual w.copies (option_map status_bytes w.clean) moment targets homes after_homes new last) (behind : StampsAreEarlier moment old)
      (between mid is : Media) (told_between : equal.copied.media ≡ Some between) (told_mid : equal.stated.media ≡ Some mid) (told_last : last.media ≡ Some is) where
    abbrev pub copied_image : Image
    copied_image = image_of equal.copied.sizes between

    abbrev pub stated_image : Image
    stated_image = image_of equal.stated.sizes mid

    abbrev final : Contents
    final = contents_of (image_of last.sizes is)

    whole : IsWholeImage copied_image
    whole = told_at equal.copied.media (λ m. IsWholeImage (image_of equal.copied.sizes m)) between told_between equal.whole

    copies_by : ChangesBy (IsOfCopies new w.copies) (image_of new.sizes now) copied_image
    copies_by = both_told new.media equal.copied.media (λ m n. ChangesBy (IsOfCopies new w.copies) (image_of new.sizes m) (image_of equal.copied.sizes n)) now between told_now told_between equal.made.keeps.media

    notes_by : ChangesBy (IsOfNote targets (empty_note_sector moment)) stated_image (image_of last.sizes is)
    notes_by = both_told equal.stated.media last.media (λ m n. ChangesBy (IsOfNote targets (empty_note_sector moment)) (image_of equal.stated.sizes m) (image_of last.sizes n)) mid is told_mid told_last equal.only.media

    pub shows_copied : ShowsCopied w.group (Some stands) targets after (contents_of copied_image)
    shows_copied = copied_ends w.copies new equal.copied w.group (Some stands) targets now between valid told_now told_between planned_now copies_by equal.made.copied

    pub emptied : OnlyNotesOf targets (contents_of stated_image) final
    emptied = emptied_ends targets targets (empty_note_sector moment) stated_image (image_of last.sizes is) (λ d target. target) notes_by

    -- the status that stands then

    same_media : equal.stated ≡ equal.copied → mid ≡ between
    same_media e = let it : Some mid ≡ Some between = sym told_mid ∙ ap (λ (d : Device). d.media) e ∙ told_between in cc

    same_image : equal.stated ≡ equal.copied → stated_image ≡ copied_image
    same_image e = let m = same_media e in λ t. image_of (e t).sizes (m t)

    second_by : (clean : Status) → IsPut (second_write moment (status_bytes clean) targets homes) homes after_homes equal.copied equal.stated → ChangesBy (IsOfRecord (second_write moment (status_bytes clean) targets homes)) copied_image stated_image
    second_by clean put = both_told equal.copied.media equal.stated.media (λ m n. ChangesBy (IsOfRecord (second_write moment (status_bytes clean) targets homes)) (image_of equal.copied.sizes m) (image_of equal.stated.sizes n)) between mid told_between told_mid put.keeps.media

    second_on : (clean : Status) → IsPut (second_write moment (status_bytes clean) targets homes) homes after_homes equal.copied equal.stated → (d : ℕ) → IsTrue (targets d) → StandsOn (second_write moment (status_bytes clean) targets homes) stated_image d
    second_on clean put d target = told_at equal.stated.media (λ m. StandsOn (second_write moment (status_bytes clean) targets homes) (image_of equal.stated.sizes m) d) mid told_mid (put.stands d target)

    cleaned : (clean : Option Status) → IsSecond w.group targets stands clean → IfSome clean IsValidStatus → IsStated (option_map status_bytes clean) moment targets homes after_homes equal.copied equal.stated
        → IsCleaned w.group targets stands (status_after w.next clean) × WasCleaned targets w.group stands (last_status moment w.next clean) (contents_of copied_image) (contents_of stated_image)
    cleaned None second good stated = (second, inl (refl, ap contents_of (same_image stated.0)))
    cleaned (Some clean) second good put = (
      second.0,
      inr (record {
        changes = status_shows (second_write moment (status_bytes clean) targets homes) clean copied_image stated_image refl (second_may copied_image copies_by whole behind clean good) (second_by clean put);
        stands = λ d target. status_stands (second_write moment (status_bytes clean) targets homes) clean copied_image stated_image refl (second_may copied_image copies_by whole behind clean good) (second_by clean put) d target (second_on clean put d target);
        later = λ d r shown its. second_later copied_image copies_by whole behind d r shown;
      }),
    )

    pub is_cleaned : IsCleaned w.group targets stands (status_after w.next w.clean) × WasCleaned targets w.group stands (last_status moment w.next w.clean) (contents_of copied_image) (contents_of stated_image)
    is_cleaned = cleaned w.clean w.clean_is w.clean_valid equal.states

    -- what the session holds

    module _ (facts : List Fact) (kept : Kept after facts) where
      copied_holds : HoldsCommitted copied_image w.group w.next targets (record { epoch = moment; seq = 2 }) homes
      copied_holds = beside_holds (image_of new.sizes now) copied_image (copied_beside copied_image copies_by) w.group w.next targets (record { epoch = moment; seq = 2 }) homes (restated_holds facts kept behind)

      stated_holds : (clean : Option Status) → IsSecond w.group targets stands clean → IfSome clean IsValidStatus → IsStated (option_map status_bytes clean) moment targets homes after_homes equal.copied equal.stated
          → HoldsCommitted stated_image w.group (status_after w.next clean) targets (last_stamp moment clean) after_homes
      stated_holds None second good stated = subst (λ (h : Homes). HoldsCommitted stated_image w.group w.next targets (record { epoch = moment; seq = 2 }) h) (sym stated.1)
          (subst (λ (i : Image). HoldsCommitted i w.group w.next targets (record { epoch = moment; seq = 2 }) homes) (sym (same_image stated.0)) copied_holds)
      stated_holds (Some clean) second good put =
          let framed : Framed = record { stamp = record { epoch = moment; seq = 3 }; content = status_bytes clean } in
          status_is_held w.group w.next clean targets targets (record { epoch = moment; seq = 2 }) homes after_homes framed copied_image stated_image whole copied_holds
          (second_may copied_image copies_by whole behind clean good).frames (is_read_again clean good) (ap (λ (s : Status). s.id) second.0.rest ∙ w.next_is.id) (same_is_no_later (record { epoch = moment; seq = 3 }))
          (record { changes = second_by clean put; targets = λ d target. target; stands = second_on clean put; flips = put.flips })

      pub last_holds : HoldsCommitted (image_of last.sizes is) w.group (status_after w.next w.clean) targets (last_stamp moment w.clean) after_homes
      last_holds = beside_holds stated_image (image_of last.sizes is) (changes_widen (IsOfNote targets (empty_note_sector moment)) IsBesideSlots stated_image (image_of last.sizes is) (notes_beside targets (empty_note_sector moment)) notes_by)
          w.group (status_after w.next w.clean) targets (last_stamp moment w.clean) after_homes (stated_holds w.clean w.clean_is w.clean_valid equal.states)

    pub none_named : (d lv track_group : ℕ) → IsTrue (targets d) → IsFalse (is_named final d lv track_group)
    unfolding note_on
    none_named d lv track_group target = names_none (is d note_sector) moment lv track_group (has_records (image_of last.sizes is) d) low
        (told_at last.media (λ m. m d note_sector ≡ empty_note_sector moment) is told_last (equal.forgotten d target))
