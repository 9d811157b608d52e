-- What stays of a session in each event but a landing: its group, what it began with, its history and power, and its requests but for one that learns.
use Rattle.std.proofs.Common.{◌≡◌, ℕ, Bool, true, false, List, Option, Some, None, refl, ◌∙◌, ap}
use Rattle.std.specs.Prelude.{slice_set}
use Rattle.std.specs.Option.{option_map_or}
use Rattle.lvm_num.specs.Buffer.{Buffer}
use Rattle.lvm_num.specs.declared.descriptor.Descriptor.{Descriptor}
use Rattle.lvm_vol.specs.Facts.{Fact}
use Rattle.lvm_session.specs.declared.bringing.CopyEnd.{CopyEnd}
use Rattle.lvm_session.specs.declared.bringing.CopyEnd.TheVariants as ending
use Rattle.lvm_session.specs.declared.bringing.OpenCopy.{OpenCopy}
use Rattle.lvm_session.specs.declared.bringing.Step.{Step}
use Rattle.lvm_session.specs.declared.bringing.Step.TheVariants as step
use Rattle.lvm_session.specs.declared.flown.Owner.{Owner}
use Rattle.lvm_session.specs.declared.flown.Owner.TheVariants as owner
use Rattle.lvm_session.specs.declared.open.Open.{Open}
use Rattle.lvm_session.specs.declared.open.Power.{Power}
use Rattle.lvm_session.specs.declared.origin.Origin.{Origin}
use Rattle.lvm_session.specs.Bringing.{after_copy_end, copy_ends, is_whole, with_end}
use Rattle.lvm_session.specs.Judging.{is_running}
use Rattle.lvm_session.specs.State.{Core}
use Rattle.lvm_session.specs.Ends.{CopyStepsOn, Learns, NoteLearns, learned, StepLearns, StepLeaves, with_copy, with_return, without_step}
use Rattle.lvm_session.specs.Marks.{Reviews}

abbrev pub Ground : Type 0
Ground = Descriptor × Origin × List Fact × Power × List Open

-- with these requests
abbrev pub ground_with : Core → List Open → Ground
ground_with core requests = (core.descriptor, core.origin, core.history.facts, core.power, requests)

abbrev pub ground : Core → Ground
ground core = ground_with core core.requests

-- ---- the end of the copy

ended_same : (core : Core) (how : Option CopyEnd) → ground (with_end core how) ≡ ground core
ended_same core None = refl
ended_same core (Some how) = by core.copy
  where
    by : (m : Option OpenCopy) → ground (option_map_or (λ (c : OpenCopy). after_copy_end core c how) m core) ≡ ground core
    by None = refl
    by (Some c) = refl

-- with another status
marked_same : (old new : Core) (how : Option CopyEnd) → new ≡ record (with_end old how) { status = new.status } → ground new ≡ ground old
marked_same old new how is = ap ground is ∙ ended_same old how

reviewed_same : (old new : Core) → Reviews old new → ground new ≡ ground old
reviewed_same old new it = marked_same old new (copy_ends old) it.is

-- ---- the ends of transfers

note_same : (old new : Core) (at disk : ℕ) (ok : Bool) (buf : Buffer) → NoteLearns old at disk ok buf new → ground new ≡ ground old
note_same old new at disk true buf it = ap ground it
note_same old new at disk false buf it = reviewed_same _ new it.2

goes_same : (whole : Bool) (core next : Core) (c : OpenCopy) → CopyStepsOn whole core c next → ground next ≡ ground core
goes_same false core next c is = ap ground is
goes_same true core next c it = ap ground it.1

step_same : (at_step : Step) (ok : Bool) (old new : Core) (at : ℕ) (c : OpenCopy) (buf : Buffer) → StepLeaves at_step ok old at c buf new → ground new ≡ ground old
step_same step.Idle ok old new at c buf it = absurd it
step_same (step.Read hand) ok old new at c buf it = absurd it
step_same (step.Reading source) true old new at c buf is = ap ground is
step_same (step.Reading source) false old new at c buf it = reviewed_same _ new it.reviews
step_same step.Writing true old new at c buf it = reviewed_same it.on new it.reviews ∙ goes_same (is_whole old it.next) (without_step (with_return old at buf) c) it.on it.next it.goes
step_same step.Writing false old new at c buf it = marked_same (with_copy (with_return old at buf) (record c { step = step.Idle })) new (Some ending.SyncFailed) it.is

copy_same : (runs ok : Bool) (old new : Core) (at : ℕ) (c : OpenCopy) (buf : Buffer) → StepLearns runs old at c ok buf new → ground new ≡ ground old
copy_same true ok old new at c buf it = step_same c.step ok old new at c buf it
copy_same false ok old new at c buf is = ap ground is

-- the requests once the owner has learned it
abbrev pub requests_then : (whose : Owner) (ok : Bool) (old new : Core) (at : ℕ) (buf : Buffer) → Learns whose old at ok buf new → List Open
requests_then (owner.Data id target) ok old new at buf it = slice_set old.requests it.place (learned it.its.request target ok buf)
requests_then (owner.Status disk) ok old new at buf it = old.requests
requests_then (owner.Note disk) ok old new at buf it = old.requests
requests_then owner.Copy ok old new at buf it = old.requests

pub learned_same : (whose : Owner) (ok : Bool) (old new : Core) (at : ℕ) (buf : Buffer) (it : Learns whose old at ok buf new) → ground new ≡ ground_with old (requests_then whose ok old new at buf it)
learned_same (owner.Data id target) ok old new at buf it = marked_same _ new _ it.entails.is
learned_same (owner.Status disk) ok old new at buf it = reviewed_same _ new it.reviews
learned_same (owner.Note disk) ok old new at buf it = note_same old new at disk ok buf it
learned_same owner.Copy ok old new at buf it = copy_same (is_running it.copy) ok old new at it.copy buf it.learns
