-- A group that came on is recovered.
use Rattle.std.proofs.Common.{◌≡◌, ◌⊎◌, inl, inr, ℕ, ◌+◌, ◌-◌, List, [], ◌++◌, Option, Some, refl, sym, ap, subst, ◌∙◌, arith}
use Rattle.std.specs.Prelude.{IsTrue, option_map}
use Rattle.std.specs.List.{AllByRecursion}
use Rattle.std.proofs.lemmas.List.Elements.{recursion_from_All}
use Rattle.lvm_num.specs.declared.status.Status.{Status}
use Rattle.lvm_num.specs.Disks.{Disks}
use Rattle.lvm_num.specs.Descriptor.{IsValid}
use Rattle.lvm_num.specs.Record.{Stamped}
use Rattle.lvm_num.specs.StatusBytes.{status_bytes}
use Rattle.lvm_num.specs.Votes.{CanWrite}
use Rattle.lvm_disk.specs.Device.{Media, Range, Device, image_of}
use Rattle.lvm_vol.specs.Facts.{Fact}
use Rattle.lvm_kept.specs.Contents.{Contents, contents_of}
use Rattle.lvm_kept.specs.Group.{is_voter}
use Rattle.lvm_kept.specs.Kept.{Kept}
use Rattle.lvm_kept.specs.Recovered.{IsRecordRange, IsCopyRange, Recovered}
use Rattle.lvm_kept.specs.Torn.{IsOfNote}
use Rattle.lvm_kept.proofs.CommittedLemmas.Finding.{images_within}
use Rattle.lvm_steps.specs.Behind.{StampsAreEarlier}
use Rattle.lvm_rec.specs.declared.homes.Homes.{Homes}
use Rattle.lvm_write.specs.Notes.{empty_note_sector}
use Rattle.lvm_write.specs.Written.{IsInPlan}
use Rattle.lvm_varyon.specs.passed.Commit.{ShowsCommitted}
use Rattle.lvm_varyon.specs.passed.Recovery.{ShowsCopied, IsInOneRun, LogsOnly, ArePlanned}
use Rattle.lvm_varyon.specs.passed.Tidying.{IsCleaned, WasCleaned}
use Rattle.lvm_varyon.specs.passed.Recover.{OnlyNotesOf}
use Rattle.lvm_varyon.proofs.passed.Tidying.{recovered_by_cleaning}
use Rattle.lvm_varyon.proofs.passed.Recovery.{same_notes_same_plan, only_planned, only_then, only_told, only_wider, runs_are_of_copies}
use Rattle.lvm_varyon.specs.Chosen.{answering}
use Rattle.lvm_varyon.specs.Equal.{MakesEqual}
use Rattle.lvm_varyon.specs.Second.{last_status}
use Rattle.lvm_varyon.proofs.SecondLemmas.{IsOfSecond, second_fits, second_ranges, stated_keeps}
use Rattle.lvm_varyon.proofs.After.{HasRecords, MayHaveRecords, found, record_ranges, records_keep, restated, same_data, same_names, shows, stated_last, stated_on, voters}
use Rattle.lvm_varyon.proofs.Equalled.{emptied, enough, is_cleaned, names_as_found, none_named, shows_copied}

-- what is written of notes are records
note_range : (targets : Disks) (epoch : ℕ) (r : Range) → IsInPlan (IsOfNote targets (empty_note_sector epoch)) r → IsTrue (targets r.disk) × IsRecordRange r
note_range targets epoch r inside =
    let some = inside.0 in
    let first = inside.1 r.first (omega arith) (omega (arith, some)) in
    let last = inside.1 (r.first + r.count - 1) (omega (arith, some)) (omega (arith, some)) in
    let at_first = first.1.place in
    let at_last = last.1.place in
    (first.1.target, inl (omega (arith, at_first), omega (arith, at_last, some)))

module _ (old new : Device) (name : List ℕ) (moment : ℕ) (homes : Homes) (w : HasRecords old new name moment homes) (was now : Media) (told : old.media ≡ Some was) (told_now : new.media ≡ Some now) (may : MayHaveRecords old new name moment homes w was)
    (valid : IsValid w.group) (last : Device) (after_homes : Homes) (equal : MakesEqual w.copies (option_map status_bytes w.clean) moment (answering w.found.shown w.group) homes after_homes new last) (behind : StampsAreEarlier moment old)
    (between mid is : Media) (told_between : equal.copied.media ≡ Some between) (told_mid : equal.stated.media ≡ Some mid) (told_last : last.media ≡ Some is) where
  abbrev targets : Disks
  targets = answering w.found.shown w.group

  abbrev before : Contents
  before = contents_of (image_of old.sizes was)

  abbrev after : Contents
  after = contents_of (image_of new.sizes now)

  abbrev copied : Contents
  copied = contents_of (image_of equal.copied.sizes between)

  abbrev stated : Contents
  stated = contents_of (image_of equal.stated.sizes mid)

  abbrev final : Contents
  final = contents_of (image_of last.sizes is)

  abbrev there : Disks
  there = is_voter before w.found.answered w.group.id

  abbrev next : Stamped Status
  next = (restated old new name moment homes w was now told told_now may).status

  abbrev clean : Stamped Status
  clean = last_status moment w.next w.clean

  voters_are : targets ≡ there
  voters_are = voters old new name moment homes w was now told told_now may

  on_target : (d : ℕ) → IsTrue (there d) → IsTrue (targets d)
  on_target d voter = ap (λ (v : Disks). v d) voters_are ∙ voter

  on_voter : (d : ℕ) → IsTrue (targets d) → IsTrue (there d)
  on_voter d target = sym (ap (λ (v : Disks). v d) voters_are) ∙ target

  -- ---- ranges

  abbrev Counts : Range → Type 0
  Counts r = IsTrue (there r.disk) × (IsRecordRange r ⊎ IsCopyRange before w.found.answered w.group.id w.group r)

  planned_first : ArePlanned before w.group (Some w.was) there w.copies
  planned_first = subst (λ (v : Disks). ArePlanned before w.group (Some w.was) v w.copies) voters_are
      (same_notes_same_plan w.found.shown before w.group (Some w.was) targets w.copies
      (λ d lv g target. names_as_found old new name moment homes w was now told told_now may valid d lv g target ∙ same_names old new name moment homes w was now told told_now may d lv g) w.planned)

  logs : LogsOnly Counts old.wrote last.wrote
  logs =
      let records : LogsOnly Counts old.wrote new.wrote = subst (λ (o : Option (List Range)). LogsOnly Counts o new.wrote) w.writes.unwritten.wrote
      (only_wider (λ (r : Range). IsTrue (targets r.disk) × IsRecordRange r) Counts w.writes.read.wrote new.wrote (λ r one. (on_voter r.disk one.0, inl one.1)) (record_ranges old new name moment homes w was now told told_now may)) in
      let copies : LogsOnly Counts new.wrote equal.copied.wrote = only_wider (IsInOneRun w.copies) Counts new.wrote equal.copied.wrote
      (λ r one. let its = runs_are_of_copies before w.found.answered w.group w.was w.copies r valid may.was_found planned_first one in (its.0, inr its.1)) equal.made.ranges in
      let second : LogsOnly Counts equal.copied.wrote equal.stated.wrote = only_planned (IsOfSecond (option_map status_bytes w.clean) moment targets homes) Counts equal.copied.wrote equal.stated.wrote
      (λ r inside. let its = second_ranges (option_map status_bytes w.clean) moment targets homes (second_fits w.clean w.clean_valid) r inside in (on_voter r.disk its.0, inl its.1))
      (stated_keeps (option_map status_bytes w.clean) moment targets homes after_homes equal.copied equal.stated equal.states).wrote in
      let notes : LogsOnly Counts equal.stated.wrote last.wrote = only_planned (IsOfNote targets (empty_note_sector moment)) Counts equal.stated.wrote last.wrote
      (λ r inside. let its = note_range targets moment r inside in (on_voter r.disk its.0, inl its.1)) equal.only.wrote in
      only_then Counts old.wrote new.wrote last.wrote records
      (only_then Counts new.wrote equal.copied.wrote last.wrote copies (only_then Counts equal.copied.wrote equal.stated.wrote last.wrote second notes))

  -- ---- what was done, by the voters

  -- by the targets
  abbrev IsDone : Disks → Type 0
  IsDone v = ((facts : List Fact) → Kept after facts → (shown : ShowsCommitted after w.group w.next v) × (shown.stands ≡ next)) × ShowsCopied w.group (Some next) v after copied
      × (IsCleaned w.group v next clean.value × WasCleaned v w.group next clean copied stated) × OnlyNotesOf v stated final × CanWrite w.group v

  done : IsDone there
  done = subst IsDone voters_are (
    (λ facts kept. (shows old new name moment homes w was now told told_now may facts kept, refl)),
    shows_copied old new name moment homes w was now told told_now may valid last after_homes equal behind between mid is told_between told_mid told_last,
    is_cleaned old new name moment homes w was now told told_now may valid last after_homes equal behind between mid is told_between told_mid told_last,
    emptied old new name moment homes w was now told told_now may valid last after_homes equal behind between mid is told_between told_mid told_last,
    enough old new name moment homes w was now told told_now may valid,
  )

  -- whatever ranges of this kind are said to be written
  recovered_with : (more : List Range) → AllByRecursion Counts more → Recovered before more final w.found.answered w.group.id w.group
  recovered_with more count = recovered_by_cleaning before after copied stated final clean more w.found.answered w.group (record {
    valid = valid;
    within = images_within (image_of new.sizes now);
    restated = restated old new name moment homes w was now told told_now may;
    same_data = same_data old new name moment homes w was now told told_now may;
    same_voters = λ d. ap (λ (v : Disks). v d) (found old new name moment homes w was now told told_now may).1;
    same_notes = λ d lv g voter. same_names old new name moment homes w was now told told_now may d lv g;
    enough = done.4;
    stated = λ d voter. stated_on old new name moment homes w was now told told_now may d (on_target d voter);
    last = λ d r shown its. stated_last old new name moment homes w was now told told_now may d r shown its;
    shows = done.0;
    copied_so = done.1.recopied;
    equalled = done.1.equalled;
    cleaned_so = done.2.0;
    cleaned_is = done.2.1;
    emptied = done.3;
    empty = λ d lv g voter. none_named old new name moment homes w was now told told_now may valid last after_homes equal behind between mid is told_between told_mid told_last d lv g (on_target d voter);
    ranges_are = count;
    keeps = records_keep old new name moment homes w was now told told_now may;
  })

  pub recovered : (first more : List Range) → old.wrote ≡ Some first → last.wrote ≡ Some (first ++ more) → Recovered before more final w.found.answered w.group.id w.group
  recovered first more wrote wrote_last = recovered_with more (recursion_from_All Counts more (only_told Counts old.wrote last.wrote first more wrote wrote_last logs))

  -- where they aren't told
  pub shown_recovered : Recovered before [] final w.found.answered w.group.id w.group
  shown_recovered = recovered_with [] tt
