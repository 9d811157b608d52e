-- What has happened where a line of requests is refused, by the session that it leaves.
use Rattle.std.proofs.Common.{◌≡◌, inl, inr, ◌*◌, ◌-◌, ◌≤◌, ℕ, Bool, true, false, List, Option, IfSome, Some, sym, ap, subst}
use Rattle.std.specs.Prelude.{slice_index_or}
use Rattle.lvm_disk.specs.Counts.{Counts, Rose, RoseBy}
use Rattle.lvm_disk.specs.Device.{Device}
use Rattle.lvm_posts.specs.declared.posts.Post.{Post}
use Rattle.lvm_session.specs.declared.origin.Origin.{Origin}
use Rattle.lvm_session.specs.declared.open.Power.{Power}
use Rattle.lvm_session.specs.declared.open.Power.TheVariants as power
use Rattle.lvm_session.specs.Causes.{AnyFailedSince}
use Rattle.lvm_session.specs.Sound.{IsSound, is_dark}
use Rattle.lvm_session.specs.State.{Core, State, state}
use Rattle.lvm_volume_lines.specs.passed.KeepsEvents.{LostForFaults}
use Rattle.lvm_volume_lines.specs.passed.Ranges.{AnyFailed}
use Rattle.lvm_volume_lines.specs.passed.RangeLines.{FailsIf, IsOverWith, CarriesBy}
use Rattle.lvm_volume_lines.specs.passed.Tie.{LeavesMoving, LeavesSession, MovesOn}
use Rattle.lvm_volume_lines.specs.passed.GroupLines.{IsBetween, IsClosed, IsOnBetween, ScriptState, patience_of_line}
use Rattle.lvm_volume_lines.proofs.passed.Tie.{going_moves_on, path_shape}
use Rattle.lvm_line.specs.Causes.{HasFailedInSession}

-- ---- what is left has the counts of the shelf

closed_counts : (p : Power) (old new : Device) → IsClosed p old new → new.counts ≡ old.counts
closed_counts power.On old new is = ap (λ (d : Device). d.counts) is
closed_counts _ old new is = ap (λ (d : Device). d.counts) is

module _ (end : State) (posts : List Post) (last : ℕ) (new : ScriptState) where
  pub over_counts : IsOverWith end posts last new → new.moment.device.counts ≡ end.device.counts
  over_counts over = closed_counts end.core.power end.device new.moment.device over.shelf

  left_counts : (p : Power) → CarriesBy p end posts last new → new.moment.device.counts ≡ end.device.counts
  left_counts power.On is = ap (λ (s : ScriptState). s.moment.device.counts) is
  left_counts power.Off over = over_counts over
  left_counts power.Dark over = over_counts over
  left_counts power.Stuck over = over_counts over

  pub leaves_counts : CarriesBy end.core.power end posts last new → new.moment.device.counts ≡ end.device.counts
  leaves_counts left = left_counts end.core.power left

  pub fails_counts : (b : Bool) → FailsIf b end posts last new → new.moment.device.counts ≡ end.device.counts
  fails_counts true over = over_counts over
  fails_counts false left = leaves_counts left

-- ---- what has happened

-- the power went off by a cut alone, and the counts of faults of the session's beginning stayed
pub record WentWithin (old : ScriptState) (core : Core) (end : State) : Type 0 where
  pub cut : old.moment.device.power ≡ true → end.device.power ≡ false → Rose old.moment.device.counts.cuts end.device.counts.cuts
  pub faults : end.core.origin.faults ≡ core.origin.faults

pub by_leaves : (old : ScriptState) (core : Core) (end : State) → LeavesSession (state old.moment.device core) end → WentWithin old core end
by_leaves old core end leaves = record { cut = (path_shape leaves).cut; faults = ap (λ (o : Origin). o.faults) (path_shape leaves).origin }

pub by_moves : (old : ScriptState) (core : Core) (end : State) → MovesOn (state old.moment.device core) end → WentWithin old core end
by_moves old core end moves = record { cut = moves.keeps.cut; faults = moves.keeps.origin.faults }

pub moves_on : (old new : ScriptState) (between : IsBetween old.moment old.session old.posts) (core : Core) (end : State) → old.session ≡ Some core → LeavesMoving (state old.moment.device core) end → MovesOn (state old.moment.device core) end
moves_on old new between core end on leaves = (going_moves_on (state old.moment.device core) end (subst (λ (o : Option Core). IfSome o (IsOnBetween old.moment.device)) on between.session).sound leaves).1

module _ (old new : ScriptState) (core : Core) (end : State) (between : IsBetween old.moment old.session old.posts) (went : WentWithin old core end) (sound : IsSound end)
    (counts : new.moment.device.counts ≡ end.device.counts) where
  -- the power was on
  pub went_dark : end.core.power ≡ power.Dark → Rose old.moment.device.counts.cuts new.moment.device.counts.cuts
  went_dark dark = subst (λ (n : Counts). Rose old.moment.device.counts.cuts n.cuts) (sym counts) (went.cut between.lit.power (sound.dark (ap is_dark dark)).power)

  pub went_waiting : RoseBy patience_of_line old.moment.device.counts.waits end.device.counts.waits → RoseBy patience_of_line old.moment.device.counts.waits new.moment.device.counts.waits
  went_waiting waited = subst (λ (n : Counts). RoseBy patience_of_line old.moment.device.counts.waits n.waits) (sym counts) waited

  pub went_stuck : (left : ℕ) → left ≡ 0 → RoseBy (patience_of_line - left) old.moment.device.counts.waits end.device.counts.waits → RoseBy patience_of_line old.moment.device.counts.waits new.moment.device.counts.waits
  went_stuck left none waited = went_waiting (subst (λ (n : ℕ). RoseBy (patience_of_line - n) old.moment.device.counts.waits end.device.counts.waits) none waited)

  pub went_failed : AnyFailed old.moment.device end.device → AnyFailed old.moment.device new.moment.device
  went_failed failed = (failed.0, subst (λ (n : Counts). Rose (old.moment.device.counts.faults failed.0) (n.faults failed.0)) (sym counts) failed.1)

  went_lost : LostForFaults (state old.moment.device core) end → LostForFaults (state old.moment.device core) (state new.moment.device core)
  went_lost (inl was) = inl was
  went_lost (inr failed) = inr (went_failed failed)

  pub went_off : (have total : ℕ) → old.session ≡ Some core → (2 * have ≤ total) × AnyFailedSince end → LostForFaults (state old.moment.device core) end → (2 * have ≤ total) × HasFailedInSession old new
  went_off have total some is lost = (
    is.0,
    record {
      core = core;
      on = some;
      failed = (
        is.1.0,
        subst (λ (n : Counts). Rose (slice_index_or core.origin.faults is.1.0 0) (n.faults is.1.0)) (sym counts)
            (subst (λ (faults : List ℕ). Rose (slice_index_or faults is.1.0 0) (end.device.counts.faults is.1.0)) went.faults is.1.1),
      );
      lost = went_lost lost;
    },
  )

module _ (old new : ScriptState) (core : Core) (end : State) (between : IsBetween old.moment old.session old.posts) (leaves : LeavesSession (state old.moment.device core) end) (sound : IsSound end)
    (counts : new.moment.device.counts ≡ end.device.counts) where
  pub dark_cause : end.core.power ≡ power.Dark → Rose old.moment.device.counts.cuts new.moment.device.counts.cuts
  dark_cause = went_dark old new core end between (by_leaves old core end leaves) sound counts

  pub stuck_cause : (left : ℕ) → left ≡ 0 → RoseBy (patience_of_line - left) old.moment.device.counts.waits end.device.counts.waits → RoseBy patience_of_line old.moment.device.counts.waits new.moment.device.counts.waits
  stuck_cause = went_stuck old new core end between (by_leaves old core end leaves) sound counts

  pub failed_cause : AnyFailed old.moment.device end.device → AnyFailed old.moment.device new.moment.device
  failed_cause = went_failed old new core end between (by_leaves old core end leaves) sound counts

  pub off_cause : (have total : ℕ) → old.session ≡ Some core → (2 * have ≤ total) × AnyFailedSince end → LostForFaults (state old.moment.device core) end → (2 * have ≤ total) × HasFailedInSession old new
  off_cause = went_off old new core end between (by_leaves old core end leaves) sound counts
