-- What a line leaves by which copies have moved in a session that is on.
use Rattle.std.proofs.Common.{◌≡◌, ◌≤◌, ◌+◌, ℕ, Bool, true, false, Some, None, Result, Ok, Err, if◌then◌else◌, length, refl, sym, ap, ◌∙◌, arith}
use Rattle.std.specs.Prelude.{IfOk}
use Rattle.std.specs.Global.{Vec}
use Rattle.lvm_num.specs.Status.{calls_missing}
use Rattle.lvm_disk.specs.Device.{Device}
use Rattle.lvm_vol.specs.Log.{Log}
use Rattle.lvm_session.specs.declared.open.Power.{Power}
use Rattle.lvm_session.specs.declared.open.Power.TheVariants as power
use Rattle.lvm_session.specs.Calls.{has_numbers}
use Rattle.lvm_session.specs.Causes.{is_over}
use Rattle.lvm_session.specs.Sound.{IsSound, is_dark}
use Rattle.lvm_session.specs.State.{Core, state_of}
use Rattle.lvm_migrate.specs.declared.fault.MoveFault.{MoveFault}
use Rattle.lvm_migrate.specs.declared.fault.MoveFault.TheVariants as fault
use Rattle.lvm_migrate.specs.Migrating.{GoesBesideMoving, IsLeftShut}
use Rattle.lvm_range_lines.specs.Leaving.{FailsIf, serving}
use Rattle.lvm_range_lines.specs.passed.Posts.{Post}
use Rattle.lvm_range_lines.specs.passed.HolderVariants as holder
use Rattle.lvm_range_lines.specs.passed.GroupLines.{ArePosted, ComesTo, EndsUnasked, HaveRooms, IsBetweenStage, IsCarriedOn, IsFittingStage, OfRequests, Reply, ScriptState, SessionIsClosed, Stage, is_unheard, most_refusals, patience_of_line, state_in, without_facts}
use Rattle.lvm_range_lines.specs.passed.RefusalVariants as refusal
use Rattle.lvm_range_lines.specs.passed.ReplyVariants as reply
use Rattle.lvm_range_lines.proofs.LeavingLemmas.Ending.{RunsTo, carried_ends, carried_leaves, ended_is_over, over_ends, stuck_ends, unheard_ends}
use Rattle.lvm_range_lines.proofs.LeavingLemmas.Posting.{table_posts}
use Rattle.lvm_range_lines.proofs.passed.Tie.{going_moves_on}
use Rattle.lvm_move_lines.specs.Moving.{empty_reply, move_reply}

-- ---- the reply

pub move_few : (result : Result ℕ MoveFault) → most_refusals (move_reply result) ≤ 1
move_few (Ok moved) = omega arith
move_few (Err why) = omega arith

-- so it is in a group without volumes, where something is heard of it
pub empty_few : (core : Core) (to : ℕ) → most_refusals (empty_reply core to) ≤ 1
empty_few core to = by (calls_missing core.status.committed to) (has_numbers core)
  where
    by : (missing numbers : Bool) → most_refusals (if missing then reply.Refused (refusal.Missing to) else if numbers then reply.Migrated 0 else reply.Refused refusal.HistoryFull) ≤ 1
    by true numbers = omega arith
    by false true = omega arith
    by false false = omega arith

pub empty_heard : (core : Core) (to : ℕ) → is_unheard (empty_reply core to) ≡ false
empty_heard core to = by (calls_missing core.status.committed to) (has_numbers core)
  where
    by : (missing numbers : Bool) → is_unheard (if missing then reply.Refused (refusal.Missing to) else if numbers then reply.Migrated 0 else reply.Refused refusal.HistoryFull) ≡ false
    by true numbers = refl
    by false true = refl
    by false false = refl

-- nothing was heard of it only where the moves ended for that
stuck_says : (result : Result ℕ MoveFault) → is_unheard (move_reply result) ≡ true → result ≡ Err fault.Stuck
stuck_says (Ok moved) e = absurd (cc e)
stuck_says (Err fault.Stuck) e = refl
stuck_says (Err fault.Dark) e = absurd (cc e)
stuck_says (Err (fault.WentOff have total)) e = absurd (cc e)
stuck_says (Err fault.Busy) e = absurd (cc e)
stuck_says (Err (fault.Missing disk)) e = absurd (cc e)
stuck_says (Err (fault.Strict lp)) e = absurd (cc e)
stuck_says (Err (fault.NoRoom free)) e = absurd (cc e)
stuck_says (Err fault.HistoryFull) e = absurd (cc e)
stuck_says (Err (fault.SyncFailed disk)) e = absurd (cc e)
stuck_says (Err (fault.NoFresh lp)) e = absurd (cc e)
stuck_says (Err fault.Memory) e = absurd (cc e)

-- no copy is open where the session goes on
shut_so : (core : Core) (result : Result ℕ MoveFault) → IsLeftShut core result → is_unheard (move_reply result) ≡ false → (core.power ≡ power.On → core.copy ≡ None) × (core.power ≡ power.Stuck → ⊥)
shut_so core (Ok moved) left heard = (λ on. left.1, λ stuck. let e : power.On ≡ power.Stuck = sym left.0 ∙ stuck in cc e)
shut_so core (Err fault.Stuck) left heard = absurd (cc heard)
shut_so core (Err fault.Dark) left heard = left
shut_so core (Err (fault.WentOff have total)) left heard = left
shut_so core (Err fault.Busy) left heard = left
shut_so core (Err (fault.Missing disk)) left heard = left
shut_so core (Err (fault.Strict lp)) left heard = left
shut_so core (Err (fault.NoRoom free)) left heard = left
shut_so core (Err fault.HistoryFull) left heard = left
shut_so core (Err (fault.SyncFailed disk)) left heard = left
shut_so core (Err (fault.NoFresh lp)) left heard = left
shut_so core (Err fault.Memory) left heard = left

-- the session goes on where all have moved
pub on_of : (core : Core) (result : Result ℕ MoveFault) → IsLeftShut core result → IfOk result (λ moved. core.power ≡ power.On)
on_of core (Ok moved) left = left.0
on_of core (Err why) left = tt

-- ---- the states

pub fails_if : {S : Type 0} (device : S → Device) (end : S × Core) (posts : Vec Post) (bytes : Vec ℕ) (stage : Stage S) (last : ℕ) (b : Bool) → ArePosted end.1.history.facts (Some end.1) posts.items → ComesTo device b (holder.Serving end) posts bytes stage
    → FailsIf b (state_of device end) posts.items last (state_in device stage last)
fails_if device end posts bytes stage last false stood carried = carried_leaves device end posts bytes stage last stood carried
fails_if device end posts bytes stage last true stood ended = ended_is_over device end posts.items stage last stood ended

-- ---- the line

module _ {S : Type 0} (device : S → Device) (first : S × Core) (posts : Vec Post) (bytes : Vec ℕ) (fits : IsFittingStage (serving first posts bytes)) (between : IsBetweenStage device (serving first posts bytes))
    (end : S × Core) (left : ℕ) (beside : GoesBesideMoving (state_of device first) (state_of device end) patience_of_line left) (sound : IsSound (state_of device end))
    (Does : Log → ScriptState → ScriptState → Reply → Type 0) (stage : Stage S) (answer : Reply) (few : most_refusals answer ≤ 1) (rooms : HaveRooms first.1.history.room stage.posts stage.bytes)
    (does : (last : ℕ) → Does (without_facts first.1.history) (state_in device (serving first posts bytes) last) (state_in device stage last) answer) where
  abbrev Ends : Type 0
  Ends = EndsUnasked device Does ⊥ OfRequests (serving first posts bytes) stage answer

  to : RunsTo device first end
  to = record { went = λ sound. (going_moves_on (state_of device first) (state_of device end) sound beside.leaves).1; orders = beside.orders; sound = sound }

  posted : ArePosted end.1.history.facts (Some end.1) posts.items
  posted = table_posts first.1 end.1 beside.table posts.items between.posted

  few_then : most_refusals answer + length posts.items ≤ length posts.items + 1
  few_then = omega (arith, few)

  goes : (end.1.power ≡ power.On → end.1.copy ≡ None) → (end.1.power ≡ power.Stuck → ⊥) → IsCarriedOn device end posts bytes end.1.power stage → Ends
  goes shut heard carried = carried_ends device first posts bytes fits between end to Does posts bytes fits.rooms stage answer few_then does posted rooms shut heard carried

  closes : answer ≡ reply.Refused refusal.Stuck → SessionIsClosed device end posts.items stage → Ends
  closes says ended = by end.1.power refl
    where
      by : (p : Power) → end.1.power ≡ p → Ends
      by power.On is = stuck_ends device first posts bytes fits between end to Does posts bytes fits.rooms stage answer few_then does ended rooms is says
      by power.Off is = over_ends device first posts bytes fits between end to Does posts bytes fits.rooms stage answer few_then does ended rooms (ap is_over is) posted
      by power.Dark is = over_ends device first posts bytes fits between end to Does posts bytes fits.rooms stage answer few_then does ended rooms (ap is_over is) posted
      by power.Stuck is = unheard_ends device first posts bytes fits between end to Does posts bytes fits.rooms stage answer few_then does ended rooms (ap is_dark is) says

  pub moved_ends : (result : Result ℕ MoveFault) → IsLeftShut end.1 result → answer ≡ move_reply result → ComesTo device (is_unheard answer) (holder.Serving end) posts bytes stage → Ends
  moved_ends result shut says it = by (is_unheard answer) refl it
    where
      by : (b : Bool) → is_unheard answer ≡ b → ComesTo device b (holder.Serving end) posts bytes stage → Ends
      by false heard carried = let so = shut_so end.1 result shut (sym (ap is_unheard says) ∙ heard) in goes so.0 so.1 carried
      by true stuck ended = closes (says ∙ ap move_reply (stuck_says result (sym (ap is_unheard says) ∙ stuck))) ended
