-- Orders of a client to the shelf of a session.
use Rattle.std.proofs.Common.{◌≡◌, ℕ, Bool, true, false, if◌then◌else◌, List, [], ◌∷◌, ◌++◌, refl, sym, ap, subst, ◌∙◌}
use Rattle.std.proofs.lemmas.List.{append-nil}
use Rattle.std.specs.List.{AllByRecursion}
use Rattle.lvm_disk.specs.declared.shelf.Arrange.{Arrange}
use Rattle.lvm_disk.specs.declared.shelf.Arrange.TheVariants as arrange
use Rattle.lvm_disk.specs.Device.{Device}
use Rattle.lvm_disk.specs.Images.{LeavesNoMore}
use Rattle.lvm_disk.specs.Steps.{ArrangeGives, with_order}
use Rattle.lvm_disk.proofs.StepsLemmas.{arrange_step, arrange_leaves}
use Rattle.lvm_vol.specs.declared.entry.Outcome.{Outcome}
use Rattle.lvm_vol.specs.declared.entry.Outcome.TheVariants as outcome
use Rattle.lvm_vol.specs.Facts.{Fact, Cut}
use Rattle.lvm_vol.specs.Log.{Log, is_uncut, cut_log, with_fact, landed_fact}
use Rattle.lvm_kept.specs.Moments.{Moment}
use Rattle.lvm_steps.specs.Moments.{Keeps}
use Rattle.lvm_steps.specs.Requests.{at}
use Rattle.lvm_steps.proofs.EnteringLemmas.{quiet_goes_on}
use Rattle.lvm_path.specs.Targets.{is_begun}
use Rattle.lvm_session.specs.declared.open.Open.{Open}
use Rattle.lvm_session.specs.declared.open.Power.{Power}
use Rattle.lvm_session.specs.declared.open.Power.TheVariants as power
use Rattle.lvm_session.specs.State.{Core, State, state}
use Rattle.lvm_session.specs.Dark.{landings as all_landings, after_arrange, all_dark}
use Rattle.lvm_session.specs.Requests.{IsLanded}
use Rattle.lvm_session.specs.Sound.{IsSound}
use Rattle.lvm_tie.specs.Tied.{IsTied, IsGood}
use Rattle.lvm_tie.specs.Over.{OrderGoesOn, OrderTies}
use Rattle.lvm_tie.proofs.OverLemmas.Dark.{shelf_goes_on, darkness_goes_on}
use Rattle.lvm_tie.proofs.GoingOnLemmas.Spanning.{shelf_noted}

-- ---- where the session is over

none_lands : (how : Outcome) (base : List Fact) (os : List Open) → AllByRecursion IsLanded os → all_landings how base os ≡ []
none_lands how base [] over = refl
none_lands how base (o ∷ os) over = ap (λ b. if b then landed_fact base o.request.id how (is_begun o.request.targets.items) ∷ all_landings how base os else all_landings how base os) over.0.landed ∙ none_lands how base os over.1

-- a cut may follow in any case
quiet_cut : (run : ℕ) (first : Moment) (device : Device) (log : Log) (os : List Open) → AllByRecursion IsLanded os → Keeps run first (at device log.facts)
    → Keeps run first (at device ((cut_log log).facts ++ all_landings outcome.Dark (cut_log log).facts os))
quiet_cut run first device log os over span =
    let none : (cut_log log).facts ++ all_landings outcome.Dark (cut_log log).facts os ≡ (cut_log log).facts =
    ap (λ (l : List Fact). (cut_log log).facts ++ l) (none_lands outcome.Dark (cut_log log).facts os over) ∙ append-nil (cut_log log).facts in
    subst (λ (l : List Fact). Keeps run first (at device l)) (sym none) (by (is_uncut log.facts))
  where
    by : (b : Bool) → Keeps run first (at device (if b then with_fact log Cut else log).facts)
    by true = quiet_goes_on run first device log.facts Cut span tt (λ past begins holds. tt)
    by false = span

all_landed : (s : State) (p : Power) → s.core.power ≡ p → (p ≡ power.On → ⊥) → (p ≡ power.Stuck → ⊥) → IsSound s → AllByRecursion IsLanded s.core.requests
all_landed s power.On is not_on unstuck sound = absurd (not_on refl)
all_landed s power.Off is not_on unstuck sound = (sound.over (ap Rattle.lvm_session.specs.Causes.is_over is)).landed
all_landed s power.Dark is not_on unstuck sound = (sound.over (ap Rattle.lvm_session.specs.Causes.is_over is)).landed
all_landed s power.Stuck is not_on unstuck sound = absurd (unstuck refl)

-- ---- spans

cut_follows : (run : ℕ) (first : Moment) (old : State) (device : Device) (p : Power) → old.core.power ≡ p → (p ≡ power.Stuck → ⊥) → IsSound old → IsGood run first old → LeavesNoMore old.device device → Keeps run first (at device old.core.history.facts)
    → Keeps run first (at device (all_dark old.core).history.facts)
cut_follows run first old device power.On is unstuck sound good leaves span = darkness_goes_on run first old device is good leaves span
cut_follows run first old device power.Off is unstuck sound good leaves span = quiet_cut run first device old.core.history old.core.requests (all_landed old power.Off is (λ e. cc e) unstuck sound) span
cut_follows run first old device power.Dark is unstuck sound good leaves span = quiet_cut run first device old.core.history old.core.requests (all_landed old power.Dark is (λ e. cc e) unstuck sound) span
cut_follows run first old device power.Stuck is unstuck sound good leaves span = absurd (unstuck refl)

gives_leaves : (old new : Device) (what : Arrange) (done : Bool) → ArrangeGives old new what done → LeavesNoMore old new
gives_leaves old new what true gives = arrange_leaves old new what gives.1
gives_leaves old new what false gives = λ image may. subst (λ (d : Device). Rattle.lvm_disk.specs.Device.MayLeave d image) gives.1 may

pub order_goes_on : OrderGoesOn
order_goes_on run first old new what done unstuck sound good order span =
    let leaves : LeavesNoMore old.device new.device = gives_leaves old.device new.device what done order.device in
    let moved : Keeps run first (at new.device old.core.history.facts) =
    shelf_goes_on run first old.device new.device old.core.history.facts leaves (arrange_step old.device new.device what done order.device) span in
    subst (λ (c : Core). Keeps run first (at new.device c.history.facts)) (sym order.is) (by done what leaves moved)
  where
    by : (done : Bool) (what : Arrange) → LeavesNoMore old.device new.device → Keeps run first (at new.device old.core.history.facts) → Keeps run first (at new.device (after_arrange what done old.core).history.facts)
    by false what leaves moved = moved
    by true (arrange.Fail disk) leaves moved = moved
    by true (arrange.Heal disk) leaves moved = moved
    by true (arrange.Cut word) leaves moved = cut_follows run first old new.device old.core.power refl unstuck sound good leaves moved

-- ---- the tie

-- an order that is noted changes nothing that the tie is about
ordered : (past : List Fact) (s : State) (what : Arrange) → IsTied past s → IsSound (state (with_order s.device what) s.core) → IsTied past (state (with_order s.device what) s.core)
ordered past s what = shelf_noted past s s.device.counts (with_order s.device what).orders

pub order_ties : OrderTies
order_ties run first old new what done good sound order on past begins = by done what order.device order.is
  where
    noted : (what : Arrange) → new.device ≡ with_order old.device what → new.core ≡ old.core → IsTied past new
    noted what device core =
        let now : new ≡ state (with_order old.device what) old.core = λ t. record { device = device t; core = core t } in
        let was_on : old.core.power ≡ power.On = sym (ap (λ (c : Core). c.power) core) ∙ on in
        subst (IsTied past) (sym now) (ordered past old what (good was_on past begins) (subst IsSound now sound))

    by : (done : Bool) (what : Arrange) → ArrangeGives old.device new.device what done → new.core ≡ after_arrange what done old.core → IsTied past new
    by false what gives core =
        let now : new ≡ old = λ t. record { device = gives.1 t; core = core t } in
        subst (IsTied past) (sym now) (good (sym (ap (λ (c : Core). c.power) core) ∙ on) past begins)
    by true (arrange.Fail disk) gives core = noted (arrange.Fail disk) gives.1 core
    by true (arrange.Heal disk) gives core = noted (arrange.Heal disk) gives.1 core
    by true (arrange.Cut word) gives core = absurd (let e : power.Dark ≡ power.On = sym (ap (λ (c : Core). c.power) core) ∙ on in cc)
