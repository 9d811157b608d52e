-- `wait` where no session is on, or one without volumes.
use Rattle.std.proofs.Common.{◌≡◌, ◌<◌, ◌≤◌, ◌+◌, ◌^◌, ℕ, List, [], ◌∷◌, Option, Some, None, length, refl, sym, ◌∙◌, ap, subst, arith}
use Rattle.std.specs.Global.{Vec}
use Rattle.lvm_disk.specs.Device.{Device}
use Rattle.lvm_vol.specs.Facts.{Fact, Begun, Landed, Taken, Making, Made, Split, Removing, Removed, Cut, On, begun}
use Rattle.lvm_vol.specs.Log.{Log}
use Rattle.lvm_vol.specs.Order.{Ordered}
use Rattle.lvm_steps.specs.Requests.{at}
use Rattle.lvm_session.specs.State.{Core, State, state, state_of}
use Rattle.lvm_session.specs.Sound.{IsSound}
use Rattle.lvm_group_lines.specs.passed.Core.{IsSettled as IsSettledCore}
use Rattle.lvm_group_lines.specs.passed.Tie.{RunsOn}
use Rattle.lvm_posts.specs.declared.posts.Post.{Post}
use Rattle.lvm_group_lines.specs.passed.TieCommands.{StandsAfter}
use Rattle.lvm_group_lines.specs.declared.reply.Reply.{Reply}
use Rattle.lvm_group_lines.specs.declared.stage.Stage.{Stage}
use Rattle.lvm_group_lines.specs.Ends.{EndsUnasked}
use Rattle.lvm_group_lines.specs.Moments.{LineGoesOn, OfRequests}
use Rattle.lvm_group_lines.specs.Stages.{HaveRooms, IsBetweenStage, IsFittingStage, history_in, session_in, shelf_in, state_in}
use Rattle.lvm_group_lines.specs.State.{ArePosted, IsOnBetween, ScriptState, without_facts}
use Rattle.lvm_group_lines.specs.declared.reply.Reply.TheVariants as reply
use Rattle.lvm_group_lines.proofs.MomentsLemmas.Going.{still_goes}
use Rattle.lvm_group_lines.proofs.StateLemmas.{IsToldOf, posts_few}
use Rattle.lvm_range_lines.specs.Answers.{Tells}
use Rattle.lvm_range_lines.specs.Leaving.{resting}
use Rattle.lvm_range_lines.specs.Refusals.{Ending}
use Rattle.lvm_range_lines.specs.Taking.{Enters, WaitsBehind, with_entries}
use Rattle.lvm_range_lines.specs.Waiting.{AtRest, TakesPosts, WaitDoes, WhileOff}
use Rattle.lvm_range_lines.proofs.WaitingLemmas.Behind.{behind_goes, posts_few as refused_few, waits_off}
use Rattle.lvm_range_lines.proofs.WaitingLemmas.Waits.{heard_ok, none_posted}

-- ---- how many posts there are

begun_short : (facts : List Fact) → length (begun facts) ≤ length facts
begun_short [] = omega arith
begun_short (f ∷ facts) = by f (begun_short facts)
  where
    by : (g : Fact) → length (begun facts) ≤ length facts → length (begun (g ∷ facts)) ≤ length (g ∷ facts)
    by (Begun r) rest = omega (arith, rest)
    by (Landed r how started got) rest = omega (arith, rest)
    by (Taken r) rest = omega (arith, rest)
    by (Making lv blocks m) rest = omega (arith, rest)
    by (Made lv) rest = omega (arith, rest)
    by (Split from lv) rest = omega (arith, rest)
    by (Removing vol) rest = omega (arith, rest)
    by (Removed vol) rest = omega (arith, rest)
    by Cut rest = omega (arith, rest)
    by (On moment) rest = omega (arith, rest)

pub few_posts : (log : Log) (on : Option Core) (posts : List Post) → Ordered log.run [] log.facts → length log.facts < 2 ^ 32 → IsToldOf log.facts on → ArePosted log.facts on posts → length posts < 2 ^ 32
few_posts log on posts ordered few told posted =
    let most = posts_few log.run log.facts on ordered told posts posted in let short = begun_short log.facts in omega (arith, few, most, short)

-- ---- while no session is on

module _ {S : Type 0} (device : S → Device) (old stage : Stage S) (answer : Reply) (off : session_in old ≡ None) (between : IsBetweenStage device old) (waits : WaitsBehind device old stage answer) (fits : IsFittingStage stage) where
  pub off_ends : EndsUnasked device (λ log. WaitDoes) ⊥ OfRequests old stage answer
  off_ends last = record {
    does = WhileOff (waits_off device old stage answer waits off last);
    goes = behind_goes device (history_in old).run (state_in device old last) old stage last answer waits off refl reply.Ok heard_ok
        (still_goes (history_in old).run OfRequests reply.Ok (state_in device old last) between (omega arith)) (omega arith);
    rooms = ap without_facts waits.rooms;
    fits = fits;
    orders = λ none. ap (λ (d : Device). d.orders) waits.shelf;
  }

-- ---- a session without volumes

module _ {S : Type 0} (device : S → Device) (first : S × Core) (posts : Vec Post) (bytes : Vec ℕ) (fits : IsFittingStage (resting first posts bytes)) (between : IsBetweenStage device (resting first posts bytes))
    (end : S × Core) (enters : Enters (state_of device first) (state_of device end)) (endings : List Ending) (takes : TakesPosts (state_of device first) posts.items (state_of device end) endings)
    (runs : RunsOn (state_of device first) (state_of device end)) (sound : IsSound (state_of device end)) (none : Vec Post) (empty : none.items ≡ []) (rooms : HaveRooms first.1.history.room none bytes)
    (stage : Stage S) (is : stage ≡ resting end none bytes) (answer : Reply) (tells : Tells endings answer) where
  abbrev old : Stage S
  old = resting first posts bytes

  -- what it has become
  abbrev facts : List Fact
  facts = end.1.history.facts

  abbrev core : Core
  core = with_entries first.1 facts

  on_first : IsOnBetween (device first.0) first.1
  on_first = between.session

  no_volume : first.1.descriptor.lvs ≡ []
  no_volume = fits.kind

  settled : IsSettledCore core
  settled =
      let s = on_first.empty no_volume in
      record { power = s.power; quiet = record { requests = s.quiet.requests; copy = s.quiet.copy; status = s.quiet.status; notes = s.quiet.notes; buffers = s.quiet.buffers }; committed = s.committed; epoch = s.epoch; votes = s.votes }

  sound_then : IsSound (state (device first.0) core)
  sound_then = subst IsSound enters.is sound

  log_is : end.1.history ≡ record first.1.history { facts = facts }
  log_is = ap (λ (s : State). s.core.history) enters.is

  abbrev behind : State → ℕ → ScriptState
  behind s last = record { moment = at s.device s.core.history.facts; session = Some s.core; posts = []; last = last }

  goes_as : (last : ℕ) → state_in device stage last ≡ behind (state_of device end) last
  goes_as last = ap (λ (s : Stage S). state_in device s last) is ∙ ap (λ (ps : List Post). record { moment = at (device end.0) end.1.history.facts; session = Some end.1; posts = ps; last = last }) empty

  after_is : (last : ℕ) → state_in device stage last ≡ behind (state (device first.0) core) last
  after_is last = goes_as last ∙ ap (λ (s : State). behind s last) enters.is

  still_stands : (past : List Fact) → StandsAfter past (device first.0) first.1 → StandsAfter past (device first.0) core
  still_stands past stands = record {
    empty = λ none. let h = stands.empty no_volume in record { held = h.held; notes = h.notes };
    tied = λ some. absurd (some no_volume);
    spares = λ some. absurd (some no_volume);
  }

  goes_there : (last : ℕ) → LineGoesOn first.1.history.run OfRequests answer (state_in device old last) (behind (state (device first.0) core) last)
  goes_there last = record {
    keeps = λ timely alone began span stands. (enters.keeps began (device first.0) span, λ heard past begins alone_then. still_stands past (stands past begins alone_then));
    timely = λ heard timely. record { ahead = record { run_is = timely.ahead.run_is; later = enters.later.later (last + 1) timely.ahead.later; behind = timely.ahead.behind }; session = timely.session };
    left = λ timely. let t = still.left timely in record { run_is = t.run_is; later = enters.later.later (last + 1) t.later; behind = t.behind };
    between = λ heard. record {
      lit = between.lit;
      descriptors = between.descriptors;
      landed = tt;
      session = record { power = on_first.power; sound = sound_then; stamped = record { some_epoch = on_first.stamped.some_epoch; epoch = on_first.stamped.epoch; begun = on_first.stamped.begun }; rows = on_first.rows; copy = on_first.copy; empty = λ none. settled };
      posted = none_posted facts (Some core) [] refl;
    };
    rests = λ not_asking. absurd (not_asking tt);
    begins = λ timely facts kept. tt;
    power = between.lit.power;
    waits = omega arith;
    clock = omega arith;
    few = let some = refused_few takes answer tells in omega (arith, some);
  }
    where
      still : LineGoesOn first.1.history.run OfRequests reply.Ok (state_in device old last) (state_in device old last)
      still = still_goes first.1.history.run OfRequests reply.Ok (state_in device old last) between (omega arith)

  pub rest_ends : EndsUnasked device (λ log. WaitDoes) ⊥ OfRequests old stage answer
  rest_ends last = record {
    does = AtRest first.1 refl no_volume (record { answers = endings; end = state_of device end; takes = takes; runs = runs; sound = sound; goes = goes_as last; tells = tells });
    goes = subst (LineGoesOn first.1.history.run OfRequests answer (state_in device old last)) (sym (after_is last)) (goes_there last);
    rooms = ap (λ (s : Stage S). without_facts (history_in s)) is ∙ ap without_facts log_is;
    fits = subst IsFittingStage (sym is) (record {
      kind = ap (λ (s : State). s.core.descriptor.lvs) enters.is ∙ no_volume;
      few = subst (λ n. n < 2 ^ 32) (sym (ap (λ (log : Log). log.room) log_is)) fits.few;
      rooms = subst (λ n. HaveRooms n none bytes) (sym (ap (λ (log : Log). log.room) log_is)) rooms;
    });
    orders = λ none. ap (λ (s : Stage S). (device (shelf_in s)).orders) is ∙ ap (λ (s : State). s.device.orders) enters.is;
  }
