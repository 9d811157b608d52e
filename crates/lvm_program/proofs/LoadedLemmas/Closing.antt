-- A load's session is closed, whether a copy is open in it or not.
use Rattle.std.proofs.Common.{◌≡◌, ◌≢◌, ◌⊎◌, inl, inr, ℕ, [], Option, Some, sym, ◌∙◌, subst}
use Rattle.lvm_kept.specs.Moments.{Moment}
use Rattle.lvm_session.specs.declared.open.Power.TheVariants as power
use Rattle.lvm_session.specs.Sound.{IsSound}
use Rattle.lvm_session.specs.State.{Core, State, state}
use Rattle.lvm_top.specs.passed.Tie.{LeavesSession}
use Rattle.lvm_top.specs.passed.GroupLines.{IsBetween, IsClosed, ScriptState}
use Rattle.lvm_top.proofs.passed.Tie.{path_shape}
use Rattle.lvm_top.proofs.ScriptLemmas.Concluding.{Concluded, closed_concluded}

-- what goes on isn't stuck that was on
pub leaves_unstuck : (old new : State) → LeavesSession old new → old.core.power ≡ power.On → new.core.power ≡ power.Stuck → ⊥
leaves_unstuck old new leaves on stuck = by (path_shape leaves).power
  where
    by : (new.core.power ≡ old.core.power) ⊎ (new.core.power ≡ power.Dark) ⊎ ((old.core.power ≡ power.On) × (new.core.power ≡ power.Off)) → ⊥
    by (inl same) = let e = sym on ∙ sym same ∙ stuck in cc e
    by (inr (inl dark)) = let e = sym dark ∙ stuck in cc e
    by (inr (inr off)) = let e = sym off.1 ∙ stuck in cc e

-- the session of a script has gone on to last, and is closed
pub leaving_concluded : (run : ℕ) (end : ScriptState) (exit : Moment) → IsBetween end.moment end.session end.posts → (core : Core) → end.session ≡ Some core → core.descriptor.lvs ≢ [] → end.moment.facts ≡ core.history.facts → core.history.run ≡ run
    → (last : State) → LeavesSession (state end.moment.device core) last → IsSound last → IsClosed last.core.power last.device exit.device → exit.facts ≡ last.core.history.facts → Concluded run end exit
leaving_concluded run end exit between core some vols facts named last leaves sound closed entries =
    let on : core.power ≡ power.On = (subst (λ (o : Option Core). IsBetween end.moment o end.posts) some between).session.power in
    closed_concluded run end exit between core some vols facts named last (leaves_unstuck (state end.moment.device core) last leaves on) leaves sound closed entries
