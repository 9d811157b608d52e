-- A line whose session ends, or isn't heard of, before its command.
use Rattle.std.proofs.Common.{◌≡◌, ◌⊎◌, inl, inr, ◌<◌, ◌≤◌, ◌^◌, ◌+◌, ℕ, Bool, true, false, [], List, Option, Some, None, IfSome, length, refl, sym, ◌∙◌, ap, subst, arith}
use Rattle.std.proofs.lemmas.List.{length-map}
use Rattle.lvm_num.specs.Votes.{total_votes}
use Rattle.lvm_disk.specs.Device.{Device}
use Rattle.lvm_vol.specs.Facts.{Fact}
use Rattle.lvm_vol.specs.Log.{Log}
use Rattle.lvm_transfer.specs.Transfer.{Relights}
use Rattle.lvm_session.specs.Causes.{is_over}
use Rattle.lvm_session.specs.Sound.{is_dark}
use Rattle.lvm_session.specs.declared.open.Power.{Power}
use Rattle.lvm_session.specs.declared.open.Power.TheVariants as power
use Rattle.lvm_session.specs.State.{Core, State, votes_there}
use Rattle.lvm_range_lines.proofs.passed.KeepsEvents.{votes_go}
use Rattle.lvm_core.specs.declared.fault.CommitFault.{CommitFault}
use Rattle.lvm_core.specs.declared.fault.CommitFault.TheVariants as commit
use Rattle.lvm_core.specs.Settled.{IsSettled as IsSettledCore}
use Rattle.lvm_core.specs.Sound.{HaveAllLanded}
use Rattle.lvm_core.specs.State.{state_of}
use Rattle.lvm_range_lines.specs.passed.Driver.{FailsSo}
use Rattle.lvm_range_lines.specs.passed.Posts.{AreAnswered, ended_with}
use Rattle.lvm_range_lines.specs.passed.Tie.{LeavesSession}
use Rattle.lvm_range_lines.proofs.passed.Tie.{goes_any, leaves_move_on, path_frames, path_shape, stays_unstuck}
use Rattle.lvm_range_lines.specs.passed.GroupLines.{EndsUnasked, patience_of_line, LineGoesOn, Role, IsStuck, most_refusals, HaveRooms, IsBetweenStage, IsClosed, SessionIsClosed, IsFittingStage, history_in, open_in, posts_ended, session_in, shelf_in, state_in, ArePosted, IsAtRest, ScriptState, without_facts, Reply, Stage}
use Rattle.lvm_range_lines.specs.passed.ReplyVariants as reply
use Rattle.lvm_range_lines.proofs.passed.GroupLines.{one_refused, LeavesAnswers, end_posts, none_held, IsRun, over_goes, over_landed}
use Rattle.lvm_range_lines.proofs.LeavingLemmas.Ending.{off_kind}
use Rattle.lvm_volume_lines.specs.Commands.{HasBrokenOff}
use Rattle.lvm_volume_lines.specs.Volumes.{IsUndrained, drain_refusal}
use Rattle.lvm_volume_lines.proofs.Commanding.{Acts}
use Rattle.lvm_volume_lines.proofs.Carrying.{first_at, its_history, no_requests, still_first, was_on}
use Rattle.lvm_volume_lines.proofs.Resting.{TurnsKeep, dark_or_still, turns_keep}

module _ {S : Type 0} (role : Role) (acts : Acts role) (device : S → Device) (stage : Stage S) (fits : IsFittingStage stage) (between : IsBetweenStage device stage) (none : open_in (session_in stage) ≡ 0) (patience : ℕ) (driver : S × Core) (why : CommitFault)
    (broken : HasBrokenOff device stage.holder patience_of_line patience driver why) (it : Stage S) (answer : Reply) (ended : SessionIsClosed device driver stage.posts.items it)
    (rooms : (entries : ℕ) → HaveRooms entries stage.posts stage.bytes → HaveRooms entries it.posts it.bytes) (says : answer ≡ reply.Refused (drain_refusal why)) where
  abbrev core : Core
  core = broken.turned.core

  abbrev end : State
  end = state_of device driver

  abbrev leaves : LeavesSession (first_at device stage core) end
  leaves = goes_any broken.turned.runs

  its : session_in stage ≡ Some core
  its = broken.turned.its

  turned : TurnsKeep (first_at device stage core) end
  turned = turns_keep (first_at device stage core) end (was_on device stage fits between none core its).sound broken.turned.turns

  run : (last : ℕ) → IsRun role (state_in device stage last) core end
  run last = record {
    alone = λ new alone. acts (state_in device stage last) new alone;
    session = its;
    facts = ap (λ (l : Log). l.facts) (its_history device stage fits between none core its);
    volumes = broken.volumes;
    between = between;
    went = leaves_move_on (first_at device stage core) end (was_on device stage fits between none core its).sound leaves;
    sound = broken.turned.sound;
  }

  answers : LeavesAnswers (history_in stage).facts driver.1.history.facts
  answers range was k less = turned.table.answered 1 (range.first + k)
      (subst (λ (l : Log). AreAnswered l.facts range) (its_history device stage fits between none core its) was k less)

  facts : (history_in it).facts ≡ driver.1.history.facts
  facts = ap (λ (l : Log). l.facts) ended.history

  posted : ArePosted (history_in it).facts None it.posts.items
  posted = subst (λ ps. ArePosted (history_in it).facts None ps) (sym ended.posted) (subst (λ (fs : List Fact). ArePosted fs None (posts_ended (Some driver.1) stage.posts.items)) (sym facts)
      (end_posts (history_in stage).facts driver.1.history.facts answers core (votes_there driver.1) (total_votes driver.1.descriptor) (none_held core driver.1.history.facts (no_requests device stage fits between none core its)) stage.posts.items
      (subst (λ (o : Option Core). ArePosted (history_in stage).facts o stage.posts.items) its between.posted)))

  unstuck : end.core.power ≡ power.Stuck → ⊥
  unstuck = stays_unstuck core end.core (path_shape leaves).power (λ stuck. let e : power.On ≡ power.Stuck = sym (was_on device stage fits between none core its).power ∙ stuck in cc e)

  over : (IsStuck answer → ⊥) → is_over end.core.power ≡ true
  over heard = by why broken.fails says
    where
      by : (w : CommitFault) → FailsSo patience end w → answer ≡ reply.Refused (drain_refusal w) → is_over end.core.power ≡ true
      by commit.Dark fails is = ap is_over fails
      by (commit.WentOff have total) fails is = ap is_over fails.power_is
      by commit.Stuck fails is = absurd (heard is)
      by (commit.DiskFailed disk) fails is = absurd fails

  -- ---- how it is closed

  lit : Relights (device driver.0) (device (shelf_in it))
  lit = by driver.1.power refl ended.shelf
    where
      stays : (p : Power) → driver.1.power ≡ p → is_dark p ≡ false → device (shelf_in it) ≡ record (device driver.0) { freed = [] } → Relights (device driver.0) (device (shelf_in it))
      stays p is light same = same ∙ ap (λ (b : Bool). record (device driver.0) { freed = []; power = b }) (broken.turned.sound.lit (ap is_dark is ∙ light)).power

      by : (p : Power) → driver.1.power ≡ p → IsClosed p (device driver.0) (device (shelf_in it)) → Relights (device driver.0) (device (shelf_in it))
      by power.On is same = stays power.On is refl same
      by power.Off is same = stays power.Off is refl same
      by power.Stuck is same = stays power.Stuck is refl same
      by power.Dark is relit = relit

  orders : (device (shelf_in it)).orders ≡ (device (shelf_in stage)).orders
  orders = ap (λ (d : Device). d.orders) lit ∙ (path_frames broken.turned.runs).orders

  log_same : without_facts (history_in it) ≡ without_facts (history_in stage)
  log_same = ap without_facts ended.history ∙ (path_shape leaves).log ∙ sym (ap without_facts (its_history device stage fits between none core its))

  -- ---- from rest

  rests : (last : ℕ) → IsAtRest (state_in device stage last) → IsAtRest (state_in device it last)
  rests last rest = by (dark_or_still (first_at device stage core) end (still_first device stage fits between none core its last rest) broken.turned.turns)
    where
      closed_rests : end.device.flights ≡ [] → HaveAllLanded end.core.history.facts → IsAtRest (state_in device it last)
      closed_rests idle landed = record {
        ready = record {
          power = ap (λ (d : Device). d.power) lit;
          flights = ap (λ (d : Device). d.flights) lit ∙ idle;
          freed = ap (λ (d : Device). d.freed) lit;
        };
        landed = subst HaveAllLanded (sym facts) landed;
        session = subst (λ (o : Option Core). IfSome o IsSettledCore) (sym ended.session) tt;
        posts = ended.posted ∙ ap (posts_ended (Some driver.1)) rest.posts;
      }

      by : (end ≡ (first_at device stage core)) ⊎ (end.core.power ≡ power.Dark) → IsAtRest (state_in device it last)
      by (inl same) = closed_rests (ap (λ (s : State). s.device.flights) same ∙ rest.ready.flights)
          (subst (λ (s : State). HaveAllLanded s.core.history.facts) (sym same) (subst (λ (l : Log). HaveAllLanded l.facts) (its_history device stage fits between none core its) rest.landed))
      by (inr dark) = closed_rests (broken.turned.sound.dark (ap is_dark dark)).flights (over_landed end broken.turned.sound (ap is_over dark))

  -- ---- so the line ends

  goes : (last : ℕ) → LineGoesOn (history_in stage).run role answer (state_in device stage last) (state_in device it last)
  goes last = subst (λ (n : ℕ). LineGoesOn n role answer (state_in device stage last) (state_in device it last)) (sym (ap (λ (l : Log). l.run) (its_history device stage fits between none core its)))
      (over_goes role (state_in device stage last) core end (run last) answer (state_in device it last) ended.shelf facts ended.session refl unstuck over posted (λ others. rests last) few)
    where
      few : most_refusals answer + length it.posts.items ≤ length stage.posts.items + 1
      few =
          let one = one_refused answer (drain_refusal why) says in
          let same = ap (λ ps. length ps) ended.posted ∙ length-map stage.posts.items (ended_with (votes_there driver.1) (total_votes driver.1.descriptor)) in
          omega (arith, one, same)

  undrained : (last : ℕ) → IsUndrained core (state_in device stage last) (state_in device it last) why answer
  undrained last = record {
    none = no_requests device stage fits between none core its;
    end = end;
    turns = broken.turned.turns;
    runs = broken.turned.runs;
    votes = votes_go (first_at device stage core) end (path_shape leaves).descriptor turned.loses;
    sound = broken.turned.sound;
    left = patience;
    fails = broken.fails;
    few = broken.turned.few;
    waited = broken.turned.waited;
    over = record { lit = lit; facts = facts; session = ended.session; posts = ended.posted };
    clock = refl;
    says = says;
  }

  pub undrained_ends : (Does : Log → ScriptState → ScriptState → Reply → Type 0)
      → ((last : ℕ) → IsUndrained core (state_in device stage last) (state_in device it last) why answer → Does (without_facts (history_in stage)) (state_in device stage last) (state_in device it last) answer)
      → EndsUnasked device Does ⊥ role stage it answer
  undrained_ends Does does = λ last. record {
    does = does last (undrained last);
    goes = goes last;
    rooms = log_same;
    fits = record {
      kind = off_kind it.holder ended.session;
      few = subst (λ (l : Log). l.room < 2 ^ 32) (sym log_same) fits.few;
      rooms = subst (λ (l : Log). HaveRooms l.room it.posts it.bytes) (sym log_same) (rooms (history_in stage).room fits.rooms);
    };
    orders = λ nothing. orders;
  }
