-- What a varyon has written, whatever became of it: records, then copies, then notes.
use Rattle.std.proofs.Common.{◌≡◌, inl, inr, ℕ, ◌++◌, [], ◌∷◌, false, List, Option, None, Some, Result, Ok, Err, sym, ap, subst, ◌∙◌}
use Rattle.lvm_num.specs.declared.descriptor.Descriptor.{Descriptor}
use Rattle.lvm_num.specs.declared.status.Status.{Status}
use Rattle.lvm_num.specs.Disks.{Disks}
use Rattle.lvm_num.specs.Record.{Stamped}
use Rattle.lvm_disk.specs.Counts.{Rose}
use Rattle.lvm_disk.specs.Device.{Device}
use Rattle.lvm_kept.specs.Contents.{Contents}
use Rattle.lvm_varyon.specs.passed.Core.{MayBeFound, Cause}
use Rattle.lvm_varyon.specs.passed.Recovery.{ArePlanned, Recopy, IsOfCopies, sources_and_targets}
use Rattle.lvm_varyon.proofs.Beside.{beside_both, beside_found, beside_then, copies_beside, notes_beside, wider_told}
use Rattle.lvm_varyon.proofs.SecondLemmas.{IsOfSecond, SecondFits, second_outside, stated_keeps}
use Rattle.lvm_kept.specs.Torn.{RecordWrite, IsOfNote}
use Rattle.lvm_rec.specs.declared.homes.Homes.{Homes}
use Rattle.lvm_write.specs.Notes.{empty_note_sector}
use Rattle.lvm_write.specs.Written.{KeepsShelf}
use Rattle.lvm_write.proofs.PartsLemmas.Transfers.{keeps_here}
use Rattle.lvm_write.specs.Beginning.{Beginning, Part, again_order, IsOfParts}
use Rattle.lvm_varyon.specs.passed.CoreRefusedCause as cause
use Rattle.lvm_varyon.specs.Equal.{AllWritesGive, BrokeOff, IsEqualled, IsStated, OneFailed, OnlyForgets, StopsEqualling, StopsStating}
use Rattle.lvm_varyon.specs.Writing.{AllWritten}

pub record HasWrote (b : Beginning) (second : Option (List ℕ)) (copies : List Recopy) (read new : Device) : Type 0 where
  pub parts : List Part
  pub restated : Device
  pub records : KeepsShelf b.targets (IsOfParts b parts) read restated
  pub copied : Device
  pub made : KeepsShelf (sources_and_targets copies) (IsOfCopies restated copies) restated copied
  pub homes : Homes
  pub stated : Device
  pub states : KeepsShelf b.targets (IsOfSecond second b.epoch b.targets homes) copied stated
  pub forgets : OnlyForgets b.targets b.epoch stated new
  pub rested : new.flights ≡ [] → restated.flights ≡ []

module _ (b : Beginning) (second : Option (List ℕ)) (copies : List Recopy) (read new : Device) where
  states_none : (homes : Homes) (d : Device) → KeepsShelf b.targets (IsOfSecond second b.epoch b.targets homes) d d
  states_none homes d = keeps_here b.targets (IsOfSecond second b.epoch b.targets homes) d

  forgets_none : (d : Device) → OnlyForgets b.targets b.epoch d d
  forgets_none d = keeps_here b.targets (IsOfNote b.targets (empty_note_sector b.epoch)) d

  records_alone : (parts : List Part) → KeepsShelf b.targets (IsOfParts b parts) read new → HasWrote b second copies read new
  records_alone parts keeps = record {
    parts = parts;
    restated = new;
    records = keeps;
    copied = new;
    made = keeps_here (sources_and_targets copies) (IsOfCopies new copies) new;
    homes = b.homes;
    stated = new;
    states = states_none b.homes new;
    forgets = forgets_none new;
    rested = λ still. still;
  }

  module _ (homes : Homes) (restated : Device) (written : AllWritten b (again_order false) homes read restated) where
    some_second : (AtStatus : RecordWrite → Device → Type 0) (s : StopsStating copies second b.epoch b.targets homes restated new AtStatus) → KeepsShelf b.targets (IsOfSecond second b.epoch b.targets homes) s.copied new
    some_second AtStatus s = subst (λ (o : Option (List ℕ)). KeepsShelf b.targets (IsOfSecond o b.epoch b.targets homes) s.copied new) (sym s.is) s.only

    stopped : (AtCopy : Type 0) (AtStatus : RecordWrite → Device → Type 0) (AtNotes : Device → Type 0) → StopsEqualling copies second b.epoch b.targets homes restated new AtCopy AtStatus AtNotes → HasWrote b second copies read new
    stopped AtCopy AtStatus AtNotes stops = elim stops.when [
      | inl at ↦ record {
        parts = again_order false;
        restated = restated;
        records = written.keeps;
        copied = new;
        made = at.0;
        homes = homes;
        stated = new;
        states = states_none homes new;
        forgets = forgets_none new;
        rested = λ still. written.rested.ready.flights;
      }
      | inr (inl at) ↦ record {
        parts = again_order false;
        restated = restated;
        records = written.keeps;
        copied = at.copied;
        made = at.made.keeps;
        homes = homes;
        stated = new;
        states = some_second AtStatus at;
        forgets = forgets_none new;
        rested = λ still. written.rested.ready.flights;
      }
      | inr (inr at) ↦ record {
        parts = again_order false;
        restated = restated;
        records = written.keeps;
        copied = at.copied;
        made = at.made.keeps;
        homes = homes;
        stated = at.stated;
        states = stated_keeps second b.epoch b.targets homes at.homes at.copied at.stated at.states;
        forgets = at.only;
        rested = λ still. written.rested.ready.flights;
      }
    ]

  pub wrote_broken : BrokeOff b second copies read new → HasWrote b second copies read new
  wrote_broken (inl off) = records_alone (off.before ++ off.hand ∷ []) off.only
  wrote_broken (inr s) = stopped s.homes s.restated s.written _ _ _ s.stops

  pub wrote_failed : (disk : ℕ) → OneFailed b second copies disk read new → HasWrote b second copies read new
  wrote_failed disk (inl failed) = records_alone (failed.stops.before ++ failed.stops.hand ∷ []) failed.stops.only
  wrote_failed disk (inr s) = stopped s.homes s.restated s.written _ _ _ s.stops

  -- nothing is out then
  pub failed_rests : (disk : ℕ) → OneFailed b second copies disk read new → new.flights ≡ []
  failed_rests disk (inl failed) = failed.rested.ready.flights
  failed_rests disk (inr s) = elim s.stops.when [
    | inl at ↦ at.1.rested.ready.flights
    | inr (inl at) ↦ at.how.rested.ready.flights
    | inr (inr at) ↦ at.how.rested.ready.flights
  ]

  -- no transfer failed up to there
  stated_well : (s : Option (List ℕ)) (first homes : Homes) (copied stated : Device) → IsStated s b.epoch b.targets first homes copied stated → (d : ℕ) → stated.counts.faults d ≡ copied.counts.faults d
  stated_well None first homes copied stated is d = ap (λ (x : Device). x.counts.faults d) is.0
  stated_well (Some bytes) first homes copied stated is d = is.well d

  -- and more of its transfers have failed than when the shelf had been read
  pub failed_rose : (disk : ℕ) → OneFailed b second copies disk read new → Rose (read.counts.faults disk) (new.counts.faults disk)
  failed_rose disk (inl failed) = failed.first.rose
  failed_rose disk (inr s) = elim s.stops.when [
    | inl at ↦ subst (λ (n : ℕ). Rose n (new.counts.faults disk)) (s.written.well disk) at.1.rose
    | inr (inl at) ↦ subst (λ (n : ℕ). Rose n (new.counts.faults disk)) (at.made.well disk ∙ s.written.well disk) at.how.first.rose
    | inr (inr at) ↦ subst (λ (n : ℕ). Rose n (new.counts.faults disk)) (stated_well second s.homes at.homes at.copied at.stated at.states disk ∙ at.made.well disk ∙ s.written.well disk) at.how.first.rose
  ]

  pub wrote_equalled : (homes : Homes) → IsEqualled b second homes copies read new → HasWrote b second copies read new
  wrote_equalled homes e = record {
    parts = again_order false;
    restated = e.restated;
    records = e.written.keeps;
    copied = e.equal.copied;
    made = e.equal.made.keeps;
    homes = e.first;
    stated = e.equal.stated;
    states = stated_keeps second b.epoch b.targets e.first homes e.equal.copied e.equal.stated e.equal.states;
    forgets = e.equal.only;
    rested = λ still. e.written.rested.ready.flights;
  }

  pub wrote : (patience : ℕ) (r : Result Homes Cause) → AllWritesGive patience b copies second read new r → HasWrote b second copies read new
  wrote patience (Ok homes) e = wrote_equalled homes e
  wrote patience (Err (cause.DiskFailed disk)) failed = wrote_failed disk failed
  wrote patience (Err cause.Dark) off = wrote_broken off.1
  wrote patience (Err cause.Stuck) off = wrote_broken off.1
  wrote patience (Err _) off = absurd off

  pub same_misses : HasWrote b second copies read new → new.counts.misses ≡ read.counts.misses
  same_misses it = it.forgets.misses ∙ it.states.misses ∙ it.made.misses ∙ it.records.misses

  pub same_orders : HasWrote b second copies read new → new.orders ≡ read.orders
  same_orders it = it.forgets.orders ∙ it.states.orders ∙ it.made.orders ∙ it.records.orders

  pub same_sizes : HasWrote b second copies read new → new.sizes ≡ read.sizes
  same_sizes it = it.forgets.sizes ∙ it.states.sizes ∙ it.made.sizes ∙ it.records.sizes

  -- what may be found behind all of it may be found once the records stand
  pub found_restated : (c : Contents) (group : Descriptor) (status : Option (Stamped Status)) (there : Disks) → ArePlanned c group status there copies → SecondFits second → (it : HasWrote b second copies read new) → new.flights ≡ []
      → (id : ℕ) (k : Descriptor) → MayBeFound new id k → MayBeFound it.restated id k
  found_restated c group status there planned fits it still id k found = beside_found it.restated new
      (beside_then it.restated it.copied new
      (wider_told it.restated it.copied (sources_and_targets copies) (IsOfCopies it.restated copies) (λ d s value of. beside_both d s value (copies_beside c group status there copies planned it.restated d s value of)) it.made)
      (beside_then it.copied it.stated new
      (wider_told it.copied it.stated b.targets (IsOfSecond second b.epoch b.targets it.homes) (second_outside second b.epoch b.targets it.homes fits) it.states)
      (wider_told it.stated new b.targets (IsOfNote b.targets (empty_note_sector b.epoch)) (λ d s value of. beside_both d s value (notes_beside b.targets (empty_note_sector b.epoch) d s value of)) it.forgets)))
      still id k found
