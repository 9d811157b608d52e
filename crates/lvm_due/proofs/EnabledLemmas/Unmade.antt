-- What a request doesn't make that it may not by itself.
use Rattle.std.proofs.Common.{◌≡◌, ℕ, Bool, true, false, ◌&&◌, not, if◌then◌else◌, Option, Some, None, refl, ap}
use Rattle.std.specs.Prelude.{find}
use Rattle.std.specs.Option.{option_map}
use Rattle.std.proofs.lemmas.Bool.{and_left}
use Rattle.lvm_path.specs.declared.request.Phase.{Phase}
use Rattle.lvm_path.specs.declared.request.Phase.TheVariants as phase
use Rattle.lvm_path.specs.declared.request.Request.{Request}
use Rattle.lvm_path.specs.declared.target.Target.{Target}
use Rattle.lvm_path.specs.Asks.{is_write}
use Rattle.lvm_session.specs.declared.event.Event.TheVariants as event
use Rattle.lvm_session.specs.declared.open.Open.{Open}
use Rattle.lvm_session.specs.State.{Core}
use Rattle.lvm_session.specs.Judging.{facts_of}
use Rattle.lvm_session.specs.Enabled.{admission_at, can_pin, data_at, is_unnamed, landing_at, note_at, pinning_at}
use Rattle.lvm_due.specs.Might.{are_at_rest, is_unbegun, might_admit_in, might_land_in, might_pin, might_start_in}
use Rattle.lvm_due.proofs.NotNextLemmas.{admits_not, lands_not, pins_not, starts_not}
use Rattle.lvm_due.specs.Making.{might_make_admission, might_make_admission_in, might_make_data, might_make_data_in, might_make_landing, might_make_landing_in, might_make_note}

lands_by : (r : Request) (p : Phase) → might_make_landing_in p r ≡ false → might_land_in p r false ≡ false
lands_by r phase.Held is = absurd (cc is)
lands_by r phase.WantEntry is = absurd (cc is)
lands_by r phase.WantRecord is = absurd (cc is)
lands_by r phase.Data is = by (is_write r.ask) (is_unbegun r) (are_at_rest r.targets.items) is
  where
    by : (w u a : Bool) → (if w then u else a) ≡ false → (if w then u && not false else a) ≡ false
    by true u a is = and_left u true is
    by false u a is = is
lands_by r phase.WantStatus is = absurd (cc is)
lands_by r phase.Landed is = refl

pub land_none : (core : Core) (k : ℕ) (o : Open) → might_make_landing o.request ≡ false → landing_at core k o ≡ None
land_none core k o is = ap (option_map (event.Land k)) (lands_not (facts_of core o.request) o.request false (λ e. absurd (cc e)) o.request.phase (lands_by o.request o.request.phase is))

admits_by : (r : Request) (changed : Bool) (p : Phase) → might_make_admission_in p r ≡ false → might_admit_in p r changed ≡ false
admits_by r changed phase.Held is = is
admits_by r changed phase.WantEntry is = absurd (cc is)
admits_by r changed phase.WantRecord is = absurd (cc is)
admits_by r changed phase.Data is = and_left (is_unbegun r) changed is
admits_by r changed phase.WantStatus is = refl
admits_by r changed phase.Landed is = refl

pub admit_none : (core : Core) (k : ℕ) (o : Open) → might_make_admission o.request ≡ false → admission_at core k o ≡ None
admit_none core k o is =
    ap (λ (b : Bool). if b then Some (event.Admit k) else None)
    (admits_not (facts_of core o.request) o.request o.request.phase (admits_by o.request (facts_of core o.request).changed o.request.phase is))

pub pin_none : (core : Core) (k : ℕ) (o : Open) → might_pin o.request ≡ false → pinning_at core k o ≡ None
pin_none core k o is = ap (λ (b : Bool). if b && can_pin core.cache o.request.ask then Some (event.Pin k) else None) (pins_not (facts_of core o.request) o.request o.request.phase is)

pub note_none : (core : Core) (k : ℕ) (o : Open) → might_make_note o.request ≡ false → note_at core k o ≡ None
note_none core k o is =
    ap (λ (b : Bool). option_map (event.StartNote k) (if b then option_map (λ (t : Target). t.pp.disk) (find (is_unnamed core o.request.ask) o.request.targets.items) else None)) is

starts_by : (r : Request) (named : Bool) (p : Phase) → might_make_data_in p r ≡ false → might_start_in p r named ≡ false
starts_by r named phase.Held is = refl
starts_by r named phase.WantEntry is = refl
starts_by r named phase.WantRecord is = absurd (cc is)
starts_by r named phase.Data is = is
starts_by r named phase.WantStatus is = refl
starts_by r named phase.Landed is = refl

pub start_none : (core : Core) (k : ℕ) (o : Open) → might_make_data o.request ≡ false → data_at core k o ≡ None
start_none core k o is = ap (option_map (event.StartData k)) (starts_not (facts_of core o.request) o.request o.request.phase (starts_by o.request (facts_of core o.request).named o.request.phase is))
