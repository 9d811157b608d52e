-- The reading, the plan and the writes together.
use Rattle.std.proofs.Common.{◌≡◌, ◌≢◌, inl, inr, ℕ, ◌+◌, ◌-◌, ◌<◌, ◌≤◌, List, Option, Some, None, Result, Ok, Err, refl, sym, ap, subst, ◌∙◌, arith}
use Rattle.std.proofs.lemmas.Bool.{cases_lt}
use Rattle.std.specs.Prelude.{IsTrue, false, ◌^◌, IfSome}
use Rattle.lvm_num.specs.Disks.{Disks, has}
use Rattle.lvm_num.specs.declared.record.Kind.TheVariants as kind
use Rattle.lvm_num.specs.Record.{Frames, last_moment}
use Rattle.lvm_disk.specs.Counts.{RoseBy, Rose}
use Rattle.lvm_disk.specs.Device.{Media, Device, image_of, HasSectors}
use Rattle.lvm_disk.specs.Steps.{BothTold}
use Rattle.lvm_kept.specs.Contents.{Contents}
use Rattle.lvm_kept.specs.Plans.{ChangesBy}
use Rattle.lvm_kept.specs.Torn.{IsOfNote}
use Rattle.lvm_write.specs.Notes.{empty_note_sector}
use Rattle.lvm_steps.specs.Behind.{StampsBefore, beginning_at, StampsAreEarlier}
use Rattle.lvm_steps.proofs.LawsLemmas.Stamps.{later_is_ahead_too, before_is_behind}
use Rattle.lvm_steps.proofs.LawsLemmas.Shelves.{unwritten_stays_behind}
use Rattle.lvm_steps.proofs.LawsLemmas.Records.{all_is_behind_end}
use Rattle.lvm_write.specs.Written.{KeepsShelf}
use Rattle.lvm_rec.specs.declared.homes.Homes.{Homes}
use Rattle.lvm_write.specs.Homes.{SparesNewest}
use Rattle.lvm_write.proofs.WrittenLemmas.Writing.{if_told}
use Rattle.lvm_write.proofs.PartsLemmas.Transfers.{rose_then}
use Rattle.lvm_quorum.specs.declared.row.Survey.{Survey}
use Rattle.lvm_quorum.specs.Surveyed.{surveyed}
use Rattle.lvm_transfer.specs.Reading.{IsUnwritten, IsCutOff}
use Rattle.lvm_varyon.specs.passed.Core.{Room, Cause}
use Rattle.lvm_varyon.specs.passed.Recovery.{Recopy, IsOfCopies, sources_and_targets, ArePlannedInOrder, ArePlanned}
use Rattle.lvm_varyon.specs.passed.CoreRefusedCause as cause
use Rattle.lvm_write.specs.Beginning.{Beginning, Part, again_beginning, IsOfParts, MayBeginAgain}
use Rattle.lvm_write.proofs.ShownLemmas.Following.{stamps_are_of_beginning}
use Rattle.lvm_write.specs.Next.{IsNextStatus}
use Rattle.lvm_varyon.specs.declared.plan.Plan.{Plan}
use Rattle.lvm_varyon.specs.Copied.{all_copies}
use Rattle.lvm_varyon.specs.Second.{first_stated, IsSecond, last_seq}
use Rattle.lvm_varyon.specs.Chosen.{answering}
use Rattle.lvm_varyon.specs.Equal.{AllWritesGive, BrokeOff, IsEqualled, OneFailed}
use Rattle.lvm_varyon.specs.Writing.{beginning, IsStillOut}
use Rattle.lvm_varyon.specs.Varied.{HasWritten, AtChoice, WasStopped, VaryonStops, IsAheadOfDisks, IsBrought, BringGives, brought_of}
use Rattle.lvm_varyon.specs.Planned.{NotChosen, IsPlan}
use Rattle.lvm_varyon.specs.Parts.{IsSurveyOf, StopsReading}
use Rattle.lvm_varyon.proofs.FoundLemmas.Seeing.{answered_by, found_at}
use Rattle.lvm_varyon.proofs.Beginning.{spared, may_begin, target_answers}
use Rattle.lvm_varyon.proofs.Beside.{beside_stays_behind, copies_beside, earlier_stays_behind, notes_beside}
use Rattle.lvm_varyon.proofs.SecondLemmas.{IsOfSecond, SecondFits, second_earlier, second_fits, seq_as_bytes}
use Rattle.lvm_varyon.proofs.EndingLemmas.{placed}
use Rattle.lvm_varyon.proofs.EqualLemmas.Wrote.{HasWrote, same_misses, same_sizes, wrote}

-- ---- it stopped before the first write

pub stops_reading : (old new : Device) (name : List ℕ) (moment patience : ℕ) (why : Cause) → StopsReading patience old new why → VaryonStops old new name moment patience why
stops_reading old new name moment patience cause.Dark is = record { how = is.1; when = inl is.0 }
stops_reading old new name moment patience cause.Stuck is = record { how = is.1; when = inl is.0 }
stops_reading old new name moment patience cause.Memory is = is
stops_reading old new name moment patience cause.HistoryFull is = is
stops_reading old new name moment patience (cause.NoDisk disk) is = is
stops_reading old new name moment patience (cause.TooMany limit) is = is
stops_reading old new name moment patience (cause.TooSmall disk) is = is
stops_reading old new name moment patience cause.GroupExists is = is
stops_reading old new name moment patience _ is = absurd is

at_choice : (old new : Device) (survey : Survey) → IsSurveyOf old new survey → (Why : Contents → Type 0) → Why (surveyed survey) → AtChoice old new Why
at_choice old new survey is Why why = record {
  unwritten = is.unwritten;
  rested = is.rested;
  found = found_at old new survey is new refl;
  why = why;
}

pub stops_choosing : (old new : Device) (name : List ℕ) (moment patience : ℕ) (survey : Survey) → IsSurveyOf old new survey → (why : Cause) → NotChosen (surveyed survey) name moment why → VaryonStops old new name moment patience why
stops_choosing old new name moment patience survey is cause.NoRecord why = at_choice old new survey is _ why
stops_choosing old new name moment patience survey is cause.Ambiguous why = at_choice old new survey is _ why
stops_choosing old new name moment patience survey is (cause.NoQuorum have total) why = at_choice old new survey is _ why
stops_choosing old new name moment patience survey is (cause.ClockBack seen) why = at_choice old new survey is _ why
stops_choosing old new name moment patience survey is cause.Memory why = (is.unwritten, is.rested)
stops_choosing old new name moment patience survey is cause.HistoryFull why = why
stops_choosing old new name moment patience survey is (cause.NoDisk disk) why = why
stops_choosing old new name moment patience survey is (cause.TooMany limit) why = why
stops_choosing old new name moment patience survey is (cause.TooSmall disk) why = why
stops_choosing old new name moment patience survey is cause.GroupExists why = why
stops_choosing old new name moment patience survey is _ why = absurd why

-- ---- the writes

module _ (old read : Device) (survey : Survey) (is : IsSurveyOf old read survey) (name : List ℕ) (moment : ℕ) (some : moment ≢ 0) (room : Room) (plan : Plan) (by : IsPlan survey name moment room plan) where
  pub targets_are : has plan.targets ≡ answering (surveyed survey) by.group
  targets_are = λ i d. by.targets d i

  pub beginning_is : again_beginning moment plan.descriptor plan.status (has plan.targets) plan.homes ≡ beginning moment by.group by.next (answering (surveyed survey) by.group) plan.homes
  beginning_is = λ i. again_beginning moment (by.descriptor i) (by.status i) (targets_are i) plan.homes

  -- what was written, of the group that may come on
  abbrev pub has_written : (new : Device) → new.counts.misses ≡ read.counts.misses → (How : Beginning → Option (List ℕ) → List Recopy → Device → Type 0)
      → How (again_beginning moment plan.descriptor plan.status (has plan.targets) plan.homes) plan.second (all_copies plan) read → HasWritten old new name moment How
  has_written new same How how = record {
    found = found_at old read survey is new same;
    group = by.group;
    was = by.was;
    next = by.next;
    chosen = by.chosen;
    answered = λ d target. target_answers old read survey is name moment some room plan by d (by.targets d ∙ target);
    next_is = subst (λ (t : Disks). IsNextStatus by.group t by.was by.next) targets_are by.next_is;
    clean = by.clean;
    clean_is = subst (λ (t : Disks). IsSecond by.group t (first_stated moment by.next) by.clean) targets_are by.clean_is;
    clean_valid = by.clean_valid;
    copies = all_copies plan;
    planned = subst (λ (t : Disks). ArePlanned (surveyed survey) by.group (Some by.was) t (all_copies plan)) targets_are by.copies;
    order = subst (λ (t : Disks). ArePlannedInOrder (surveyed survey) by.group by.was.value t (all_copies plan)) targets_are by.order;
    writes = record {
      read = read;
      unwritten = is.unwritten;
      rested = is.rested;
      homes = plan.homes;
      spared = if_told old.media (λ media. (d : ℕ) → IsTrue (answering (surveyed survey) by.group d) → SparesNewest plan.homes (image_of old.sizes media) d)
          (λ media told d target. spared old read survey is name moment some room plan by media told d (by.targets d ∙ target));
      how = subst (λ (o : Option (List ℕ)). How (beginning moment by.group by.next (answering (surveyed survey) by.group) plan.homes) o (all_copies plan) read) by.second
          (subst (λ (b : Beginning). How b plan.second (all_copies plan) read) beginning_is how);
    };
  }

  -- the records may be written, of the members that answer
  pub may_have : HasSectors old → IsAheadOfDisks moment old → (media : Media) → old.media ≡ Some media
      → MayBeginAgain (beginning moment by.group by.next (answering (surveyed survey) by.group) plan.homes) false by.group by.next (answered_by survey) by.was (image_of old.sizes media)
  may_have whole ahead media told = subst (λ (t : Disks). MayBeginAgain (beginning moment by.group by.next t plan.homes) false by.group by.next (answered_by survey) by.was (image_of old.sizes media)) targets_are
      (may_begin old read survey is name moment some room plan by media told whole (ahead by.chosen.early))

  module _ (new : Device) (before between : ℕ) (falls : between ≤ before) (waited : RoseBy (before - between) old.counts.waits read.counts.waits) where
    abbrev b : Beginning
    b = again_beginning moment plan.descriptor plan.status (has plan.targets) plan.homes

    left_out : IsStillOut between read new → IsStillOut before old new
    left_out out = record {
      flight = out.flight;
      out = out.out;
      freed = out.freed;
      power = out.power;
      cuts = out.cuts ∙ is.rested.cuts;
      waited = subst (λ (n : ℕ). RoseBy n old.counts.waits new.counts.waits) (let e : (before - between) + between ≡ before = omega arith in e)
          (rose_then (before - between) between old.counts.waits read.counts.waits new.counts.waits waited out.waited);
    }

    cut_off : IsCutOff read new → IsCutOff old new
    cut_off cut = record { power = cut.power; flights = cut.flights; cuts = subst (λ (n : ℕ). Rose n new.counts.cuts) is.rested.cuts cut.cuts }

    broken : (How : Type 0) → How → HasWrote b plan.second (all_copies plan) read new → BrokeOff b plan.second (all_copies plan) read new → WasStopped old new name moment How
    broken How how it off = record { how = how; when = inr (has_written new (same_misses b plan.second (all_copies plan) read new it) (λ b second copies r. BrokeOff b second copies r new) off) }

    stops_writing : (why : Cause) → AllWritesGive between b (all_copies plan) plan.second read new (Err why) → HasWrote b plan.second (all_copies plan) read new → VaryonStops old new name moment before why
    stops_writing (cause.DiskFailed disk) bad it = has_written new (same_misses b plan.second (all_copies plan) read new it) (λ b second copies r. OneFailed b second copies disk r new) bad
    stops_writing cause.Dark off it = broken (IsCutOff old new) (cut_off off.0) it off.1
    stops_writing cause.Stuck off it = broken (IsStillOut before old new) (left_out off.0) it off.1
    stops_writing cause.HistoryFull off it = off
    stops_writing (cause.NoDisk disk) off it = off
    stops_writing (cause.TooMany limit) off it = off
    stops_writing (cause.TooSmall disk) off it = off
    stops_writing cause.GroupExists off it = off
    stops_writing _ off it = absurd off

    brought : HasSectors old → (homes : Homes) → IsEqualled b plan.second homes (all_copies plan) read new → HasWrote b plan.second (all_copies plan) read new → IsBrought old new name moment room plan.parts (last_seq plan.second) homes
    brought whole homes well it = record {
      written = has_written new (same_misses b plan.second (all_copies plan) read new it) (λ b second copies r. IsEqualled b second homes copies r new) well;
      valid = by.valid;
      seq_is = ap last_seq by.second ∙ seq_as_bytes by.clean;
      reserved = by.parts;
      placed = placed old read survey is name moment some room plan by new (same_sizes b plan.second (all_copies plan) read new it ∙ is.unwritten.sizes);
      may = λ ahead media told. may_have whole ahead media told;
    }

    -- whatever they answer
    pub brings : HasSectors old → (r : Result Homes Cause) → AllWritesGive between (again_beginning moment plan.descriptor plan.status (has plan.targets) plan.homes) (all_copies plan) plan.second read new r
        → BringGives old new name moment before room (brought_of (plan.parts, last_seq plan.second) r)
    brings whole (Ok homes) well = brought whole homes well (wrote b plan.second (all_copies plan) read new between (Ok homes) well)
    brings whole (Err why) off = stops_writing why off (wrote b plan.second (all_copies plan) read new between (Err why) off)

-- ---- what stands on the disks

pub unwritten_behind : (moment : ℕ) (old new : Device) → HasSectors new → IsUnwritten old new → moment < 2 ^ 64 → IsAheadOfDisks moment old → StampsAreEarlier (moment + 1) new
unwritten_behind moment old new whole same fits ahead = elim (cases_lt moment last_moment) [
  | inl early ↦ later_is_ahead_too moment (moment + 1) new (omega arith) (unwritten_stays_behind moment old new same.sizes same.media (ahead early))
  | inr last ↦ later_is_ahead_too (2 ^ 64) (moment + 1) new (omega (arith, last)) (all_is_behind_end new whole)
]

module _ (old read : Device) (survey : Survey) (is : IsSurveyOf old read survey) (name : List ℕ) (moment : ℕ) (some : moment ≢ 0) (room : Room) (plan : Plan) (by : IsPlan survey name moment room plan) where
  -- whatever became of the records
  written_behind : (new : Device) (parts : List Part) → HasSectors old → IsAheadOfDisks moment old
      → KeepsShelf (has plan.targets) (IsOfParts (again_beginning moment plan.descriptor plan.status (has plan.targets) plan.homes) parts) read new → StampsAreEarlier (moment + 1) new
  written_behind new parts whole ahead keeps = before_is_behind (record { epoch = moment; seq = 3 }) (moment + 1) new (omega arith)
      (if_told new.media (λ media. StampsBefore (record { epoch = moment; seq = 3 }) (image_of new.sizes media)) (λ is_media told.
      let both = told_before read.media new.media (λ was now. ChangesBy (IsOfParts (again_beginning moment plan.descriptor plan.status (has plan.targets) plan.homes) parts) (image_of read.sizes was) (image_of new.sizes now)) is_media told keeps.media in
      let told_old : old.media ≡ Some both.0 = sym is.unwritten.media ∙ both.1 in
      let may = may_begin old read survey is name moment some room plan by both.0 told_old whole (ahead by.chosen.early) in
      let behind : StampsBefore (beginning_at moment) (image_of read.sizes both.0) =
      subst (λ (sizes : List ℕ). StampsBefore (beginning_at moment) (image_of sizes both.0)) (sym is.unwritten.sizes)
      (subst (λ (o : Option Media). IfSome o (λ m. StampsBefore (beginning_at moment) (image_of old.sizes m))) told_old (ahead by.chosen.early)) in
      stamps_are_of_beginning (again_beginning moment plan.descriptor plan.status (has plan.targets) plan.homes) parts (image_of read.sizes both.0) (image_of new.sizes is_media)
      (subst (λ (bytes : List ℕ). Frames kind.Descriptor (record { stamp = record { epoch = moment; seq = 1 }; content = bytes })) (sym by.descriptor) may.describe.frames)
      (subst (λ (bytes : List ℕ). Frames kind.Status (record { stamp = record { epoch = moment; seq = 2 }; content = bytes })) (sym by.status) may.state.frames)
      (refl, omega arith) (refl, omega arith) both.2 behind))
    where
      told_before : (a b : Option Media) (R : Media → Media → Type 0) (is_media : Media) → b ≡ Some is_media → BothTold a b R → (was : Media) × (a ≡ Some was) × R was is_media
      told_before None None R m e both = absurd cc
      told_before None (Some n) R m e both = absurd both
      told_before (Some w) None R m e both = absurd cc
      told_before (Some w) (Some n) R m e both = let same : n ≡ m = cc in (w, refl, subst (R w) same both)

  -- and of all writes
  pub all_behind : (new : Device) → HasSectors old → IsAheadOfDisks moment old → HasWrote (again_beginning moment plan.descriptor plan.status (has plan.targets) plan.homes) plan.second (all_copies plan) read new → StampsAreEarlier (moment + 1) new
  all_behind new whole ahead it =
      beside_stays_behind (moment + 1) (has plan.targets) (IsOfNote (has plan.targets) (empty_note_sector moment)) it.stated new (notes_beside (has plan.targets) (empty_note_sector moment)) it.forgets
      (earlier_stays_behind (moment + 1) (has plan.targets) (IsOfSecond plan.second moment (has plan.targets) it.homes) it.copied it.stated
      (second_earlier plan.second moment (has plan.targets) it.homes some (let early = by.chosen.early in omega (arith, early)) (subst SecondFits (sym by.second) (second_fits by.clean by.clean_valid))) it.states
      (beside_stays_behind (moment + 1) (sources_and_targets (all_copies plan)) (IsOfCopies it.restated (all_copies plan)) it.restated it.copied
      (copies_beside (surveyed survey) by.group (Some by.was) (has plan.targets) (all_copies plan) by.copies it.restated) it.made
      (written_behind it.restated it.parts whole ahead it.records)))
