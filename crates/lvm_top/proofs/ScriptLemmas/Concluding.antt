-- What a run does behind its last line, and what it upholds to its end.
use Rattle.std.proofs.Common.{◌≡◌, ◌≢◌, ◌⊎◌, inl, inr, ⊎_elim, ◌+◌, ◌++◌, ℕ, Bool, true, false, List, [], Option, Some, None, IfSome, refl, sym, ◌∙◌, ap, subst, arith}
use Rattle.std.specs.List.{list_any}
use Rattle.lvm_num.specs.Buffer.{Buffer}
use Rattle.lvm_disk.specs.Device.{Device, Flight, IsInFlight, IsReady}
use Rattle.lvm_vol.specs.Facts.{Fact}
use Rattle.lvm_vol.specs.Log.{Log}
use Rattle.lvm_parse.specs.Grammar.{line_of}
use Rattle.lvm_kept.specs.Moments.{Moment}
use Rattle.lvm_steps.specs.Moments.{Keeps, IsUpheld}
use Rattle.lvm_steps.proofs.MomentsLemmas.Spans.{keeps_still, span_upholds}
use Rattle.lvm_steps.specs.Behind.{StampsAreEarlier, IsAhead}
use Rattle.lvm_core.specs.declared.parts.Room.{Room}
use Rattle.lvm_core.specs.Settled.{IsSettled as IsSettledCore}
use Rattle.lvm_session.specs.declared.answers.Turned.{Turned}
use Rattle.lvm_session.specs.declared.open.Power.TheVariants as power
use Rattle.lvm_session.specs.State.{Core, State, state}
use Rattle.lvm_session.specs.Sound.{IsSound}
use Rattle.lvm_line.specs.passed.KeepsEvents.{power_by}
use Rattle.lvm_session.specs.declared.answers.Turned.TheVariants as turned
use Rattle.lvm_session.specs.declared.open.Power.{Power}
use Rattle.lvm_line.specs.passed.Quiesce.{IsAheadEach}
use Rattle.lvm_line.specs.passed.Tie.{LeavesDescriptors, LeavesSession, MovesOn}
use Rattle.lvm_line.specs.Lines.{role_of}
use Rattle.lvm_line.specs.passed.GroupLines.{LineGoesOn, IsAlone, OfRequests, IsClosed, ArePosted, ScriptState, IsAtRest, IsBetween, IsOnBetween, IsTimely, StandsBy, Reply}
use Rattle.lvm_line.specs.passed.RefusalVariants as refusal
use Rattle.lvm_line.specs.passed.ReplyVariants as reply
use Rattle.lvm_line.proofs.passed.GroupLines.{closed_ahead, over_goes}
use Rattle.lvm_line.proofs.passed.Quiesce.{each_is_behind}
use Rattle.lvm_line.proofs.passed.Tie.{goes_any, leaves_move_on}
use Rattle.lvm_top.specs.declared.status.ExitStatus.{ExitStatus}
use Rattle.lvm_top.specs.declared.status.ExitStatus.TheVariants as ended
use Rattle.lvm_top.specs.Ending.{Concludes, NoneIsOn, NoneIsServed, IsServed, NothingIsLeft, TurnsAreMade, HasNothingLeftOrOut}
use Rattle.lvm_top.specs.Run.{Run, IsRun, RanAlone, WhereAlone}
use Rattle.lvm_top.specs.Script.{Script, NoLine, NextLine, Ends, AtLine, InLine, StaysAlone, EndsAlone, EndsHeard, EndsStuck, MakeRequests, is_requesting, empty_log, entry_state, facts_of}
use Rattle.lvm_top.proofs.TurnLemmas.{stuck_is_off}
use Rattle.lvm_top.proofs.ScriptLemmas.Scripting.{Ended, begins_timely, lines_ended}

-- no post is left
none_posted : (facts : List Fact) (on : Option Core) → ArePosted facts on []
none_posted facts on = record { each = λ k d less. absurd (omega (arith, less)); rise = λ i j d before less. absurd (omega (arith, less)) }

-- ---- where no session is on, or nothing is under way in it

pub off_still : (run : ℕ) (end exit : Moment) (on : Option Core) → Concludes run end exit on → on ≡ None → exit ≡ end
off_still run end exit on (NoneIsOn none same) off = same
off_still run end exit on (NoneIsServed core some empty same) off = same
off_still run end exit on (IsServed core some vols named facts out) off = absurd (let e = sym some ∙ off in cc e)

-- where nothing was heard of a transfer no group is on
pub stuck_ends : {log : Log} {room : Room} {mid last : ScriptState} {done : List (List ℕ)} {said : List Reply} {front : List ℕ} (ends : Ends log room mid last done said front) → EndsStuck ends → last.session ≡ None
stuck_ends (AtLine same) stuck = absurd stuck
stuck_ends {log = log} {room = room} {mid = mid} {last = last} (InLine line answer said front rest says split it) stuck = stuck_is_off log room line mid last answer it stuck

-- a settled session rests
settled_rests : (device : Device) (core : Core) → IsReady device → IsSettledCore core → HasNothingLeftOrOut (state device core)
settled_rests device core ready settled = record { quiet = record { requests = settled.quiet.requests; in_flight = settled.quiet.status; committed = settled.committed }; flights = ready.flights }

same_device : (device exit : Device) → IsReady device → exit ≡ record device { freed = [] } → exit ≡ device
same_device device exit ready is = is ∙ ap (λ (l : List Buffer). record device { freed = l }) (sym ready.freed)

rests_still : (run : ℕ) (end exit : Moment) (on : Option Core) → Concludes run end exit on → IsReady end.device → IfSome on IsSettledCore → exit ≡ end
rests_still run end exit on (NoneIsOn none same) ready settled = same
rests_still run end exit on (NoneIsServed core some empty same) ready settled = same
rests_still run end exit on (IsServed core some vols named facts (NothingIsLeft rests device entries)) ready settled =
    ap (λ (d : Device). record { device = d; facts = exit.facts }) (same_device end.device exit.device ready device) ∙ ap (λ (fs : List Fact). record { device = end.device; facts = fs }) (entries ∙ sym facts)
rests_still run end exit on (IsServed core some vols named facts (TurnsAreMade last moving turns runs sound closed entries)) ready settled =
    absurd (moving (settled_rests end.device core ready (subst (λ (o : Option Core). IfSome o IsSettledCore) some settled)))

pub at_rest_still : (run : ℕ) (end : ScriptState) (exit : Moment) → Concludes run end.moment exit end.session → IsAtRest end → exit ≡ end.moment
at_rest_still run end exit concludes rest = rests_still run end.moment exit end.session concludes rest.ready rest.session

-- ---- turns behind the last line

-- the session behind turns isn't stuck
unstuck : (answer : Turned) (p : Power) → p ≡ power_by answer → p ≡ power.Stuck → ⊥
unstuck turned.Moved p is stuck = let e = sym is ∙ stuck in cc e
unstuck _ p is stuck = let e = sym is ∙ stuck in cc e

module _ (end : ScriptState) (exit : Moment) (between : IsBetween end.moment end.session end.posts) (core : Core) (some : end.session ≡ Some core) (vols : core.descriptor.lvs ≢ []) (facts : end.moment.facts ≡ core.history.facts) where
  abbrev behind : ScriptState
  behind = record { moment = exit; session = None; posts = []; last = end.last }

  -- it has gone on, and is closed
  module _ (last : State) (heard : last.core.power ≡ power.Stuck → ⊥) (leaves : LeavesSession (state end.moment.device core) last) (sound : IsSound last) (closed : IsClosed last.core.power last.device exit.device) (entries : exit.facts ≡ last.core.history.facts) where
    gone_on : MovesOn (state end.moment.device core) last
    gone_on = leaves_move_on (state end.moment.device core) last (subst (λ (o : Option Core). IfSome o (IsOnBetween end.moment.device)) some between.session).sound leaves

    closed_goes : LineGoesOn core.history.run OfRequests (reply.Refused refusal.Stuck) end behind
    closed_goes =
        over_goes OfRequests end core last (record { alone = λ new alone. alone.acts tt; session = some; facts = facts; volumes = vols; between = between; went = gone_on; sound = sound }) (reply.Refused refusal.Stuck) behind closed entries refl refl heard (λ heard. absurd (heard refl)) (none_posted _ _)
        (λ not_asking. absurd (not_asking tt)) (omega arith)

    closed_each : IsTimely core.history.run end → IsAheadEach core.history.run (end.last + 1) exit.device exit.facts
    closed_each = closed_ahead OfRequests end core last (record { alone = λ new alone. alone.acts tt; session = some; facts = facts; volumes = vols; between = between; went = gone_on; sound = sound }) behind closed entries refl heard

-- what is ahead of each crash image is ahead of the disks
pub each_is_ahead : (run moment : ℕ) (device : Device) (facts : List Fact) → IsAheadEach run moment device facts → IsAhead run moment device facts
each_is_ahead run moment device facts ahead = record { run_is = ahead.run_is; later = ahead.later; behind = each_is_behind moment device ahead.behind }

-- the span, and the clock
pub record Concluded (run : ℕ) (end : ScriptState) (exit : Moment) : Type 0 where
  pub keeps : IsTimely run end → IsAlone OfRequests end (record { moment = exit; session = None; posts = []; last = end.last }) → (first : Moment) → Keeps run first end.moment → StandsBy run first end → Keeps run first exit
  pub left : IsTimely run end → IsAheadEach run (end.last + 1) exit.device exit.facts
  pub power : exit.device.power ≡ true

-- so where a session with volumes has gone on, and is closed
pub closed_concluded : (run : ℕ) (end : ScriptState) (exit : Moment) → IsBetween end.moment end.session end.posts → (core : Core) → end.session ≡ Some core → core.descriptor.lvs ≢ [] → end.moment.facts ≡ core.history.facts → core.history.run ≡ run
    → (last : State) → (last.core.power ≡ power.Stuck → ⊥) → LeavesSession (state end.moment.device core) last → IsSound last → IsClosed last.core.power last.device exit.device → exit.facts ≡ last.core.history.facts → Concluded run end exit
closed_concluded run end exit between core some vols facts named last heard leaves sound closed entries =
    let goes : LineGoesOn run OfRequests (reply.Refused refusal.Stuck) end (behind end exit between core some vols facts) =
    subst (λ (n : ℕ). LineGoesOn n OfRequests (reply.Refused refusal.Stuck) end (behind end exit between core some vols facts)) named (closed_goes end exit between core some vols facts last heard leaves sound closed entries) in
    record {
      keeps = λ timely alone first span stands. (goes.keeps timely alone first span stands).0;
      left = subst (λ (n : ℕ). IsTimely n end → IsAheadEach n (end.last + 1) exit.device exit.facts) named (closed_each end exit between core some vols facts last heard leaves sound closed entries);
      power = goes.power;
    }

same_concluded : (run : ℕ) (end : ScriptState) (exit : Moment) → end.moment.device.power ≡ true → exit ≡ end.moment → Concluded run end exit
same_concluded run end exit power same = record {
  keeps = λ timely alone first span stands. subst (Keeps run first) (sym same) span;
  left = λ timely. subst (λ (m : Moment). IsAheadEach run (end.last + 1) m.device m.facts) (sym same) timely.ahead;
  power = subst (λ (m : Moment). m.device.power ≡ true) (sym same) power;
}

-- no buffer was given up
freed_none : (device : Device) → device.freed ≡ [] → record device { freed = [] } ≡ device
freed_none device none = ap (λ (l : List Buffer). record device { freed = l }) (sym none)

pub concluded : (run : ℕ) (end : ScriptState) (exit : Moment) → Concludes run end.moment exit end.session → IsBetween end.moment end.session end.posts → Concluded run end exit
concluded run end exit (NoneIsOn none same) between = same_concluded run end exit between.lit.power same
concluded run end exit (NoneIsServed core some empty same) between = same_concluded run end exit between.lit.power same
concluded run end exit (IsServed core some vols named facts (NothingIsLeft rests device entries)) between =
    same_concluded run end exit between.lit.power
    (ap (λ (d : Device). record { device = d; facts = exit.facts }) (device ∙ freed_none end.moment.device between.lit.freed) ∙ ap (λ (fs : List Fact). record { device = end.moment.device; facts = fs }) (entries ∙ sym facts))
concluded run end exit (IsServed core some vols named facts (TurnsAreMade last moving turns runs sound closed entries)) between =
    closed_concluded run end exit between core some vols facts named last (unstuck turns.answer last.core.power turns.tells.power_is) (goes_any runs) sound closed entries

-- ---- a run

-- whether nothing was heard of a transfer
pub how_ended : (s : ExitStatus) → (s ≡ ended.Stuck) ⊎ (s ≡ ended.Stuck → ⊥)
how_ended ended.Stuck = inl refl
how_ended _ = inr (λ e. cc (e))

-- a state from which lines may be done, and the one behind them
script_between : (log : Log) (room : Room) (first : ScriptState) {lines : List (List ℕ)} {replies : List Reply} {last : ScriptState} → Script log room first lines replies last → IsBetween first.moment first.session first.posts → IsBetween last.moment last.session last.posts
script_between log room first NoLine between = between
script_between log room first (NextLine line answer said heard says script it) between = it.goes.between heard

ends_between : {log : Log} {room : Room} {mid last : ScriptState} {done : List (List ℕ)} {said : List Reply} {front : List ℕ} (ends : Ends log room mid last done said front) → EndsHeard ends → IsBetween mid.moment mid.session mid.posts → IsBetween last.moment last.session last.posts
ends_between (AtLine same) heard between = subst (λ (s : ScriptState). IsBetween s.moment s.session s.posts) (sym same) between
ends_between (InLine line answer said front rest says split it) heard between = it.goes.between heard

-- no transfer is out, so none goes to a slot of descriptors
pub none_flies : (device : Device) → device.flights ≡ [] → LeavesDescriptors device
none_flies device none d at value flies = absurd (subst (λ (l : List Flight). IsInFlight l d at value) none flies)

pub entry_between : (device : Device) (run : ℕ) → IsReady device → IsBetween (record { device = device; facts = [] }) None []
entry_between device run ready = record {
  lit = record { power = ready.power; freed = ready.freed };
  descriptors = none_flies device ready.flights;
  landed = λ id. refl;
  session = tt;
  posted = none_posted [] None;
}

module _ (r : Run) (ran : IsRun r) where
  abbrev first : ScriptState
  first = entry_state r.entry r.named

  abbrev exit : Moment
  exit = record { device = r.exit; facts = facts_of r.history }

  went : Ended r.named (StaysAlone ran.lines.script × EndsAlone ran.lines.ends) (MakeRequests (ran.lines.lines ++ ran.lines.done)) (EndsHeard ran.lines.ends) (entry_state r.entry r.named) ran.end
  went = lines_ended (empty_log r.named r.room) r.room (entry_state r.entry r.named) ran.end r.input r.output r.refused ran.lines

  pub ran_between : (r.status ≡ ended.Stuck → ⊥) → IsBetween ran.end.moment ran.end.session ran.end.posts
  ran_between heard = ends_between ran.lines.ends (ran.heard heard) (script_between (empty_log r.named r.room) r.room (entry_state r.entry r.named) ran.lines.script (entry_between r.entry r.named ran.ready))

  its : (r.status ≡ ended.Stuck → ⊥) → Concluded r.named ran.end (record { device = r.exit; facts = facts_of r.history })
  its heard = concluded r.named ran.end (record { device = r.exit; facts = facts_of r.history }) ran.concluded.concludes (ran_between heard)

  pub stuck_still : r.status ≡ ended.Stuck → record { device = r.exit; facts = facts_of r.history } ≡ ran.end.moment
  stuck_still stuck = off_still r.named ran.end.moment (record { device = r.exit; facts = facts_of r.history }) ran.end.session ran.concluded.concludes (stuck_ends ran.lines.ends (ran.stuck stuck))

  timely : StampsAreEarlier r.named r.entry → IsTimely r.named (entry_state r.entry r.named)
  timely clock = begins_timely r.named r.entry ran.ready.flights clock

  -- a span leads from the entry to the exit
  pub spanned : StampsAreEarlier r.named r.entry → RanAlone ran → Keeps r.named (record { device = r.entry; facts = [] }) (record { device = r.exit; facts = facts_of r.history })
  spanned clock alone =
      let kept = went.keeps (timely clock) (alone.0, alone.1) (record { device = r.entry; facts = [] }) (keeps_still r.named (record { device = r.entry; facts = [] })) (λ past begins. tt) in
      ⊎_elim
      (λ stuck. subst (Keeps r.named (record { device = r.entry; facts = [] })) (sym (stuck_still stuck)) kept.0)
      (λ heard. by_requests heard kept.0 (kept.1 (ran.heard heard)) (list_any (λ line. is_requesting (role_of (line_of line))) (ran.lines.lines ++ ran.lines.done)) refl)
      (how_ended r.status)
    where
      by_requests : (r.status ≡ ended.Stuck → ⊥) → Keeps r.named (record { device = r.entry; facts = [] }) ran.end.moment → StandsBy r.named (record { device = r.entry; facts = [] }) ran.end
          → (t : Bool) → list_any (λ line. is_requesting (role_of (line_of line))) (ran.lines.lines ++ ran.lines.done) ≡ t → Keeps r.named (record { device = r.entry; facts = [] }) (record { device = r.exit; facts = facts_of r.history })
      by_requests heard span stands true some = (its heard).keeps (went.timely (ran.heard heard) (timely clock)) (alone.2 some) (record { device = r.entry; facts = [] }) span stands
      by_requests heard span stands false none = subst (Keeps r.named (record { device = r.entry; facts = [] })) (sym (ran.concluded.still (λ some. let e = sym none ∙ some in cc e))) span

  -- the clock stays ahead of the disks
  pub ran_ahead : ran.end.last ≡ r.last → StampsAreEarlier r.named r.entry → IsAhead r.named (r.last + 1) r.exit (facts_of r.history)
  ran_ahead last clock = subst (λ (n : ℕ). IsAhead r.named (n + 1) r.exit (facts_of r.history)) last (⊎_elim
      (λ stuck. subst (λ (m : Moment). IsAhead r.named (ran.end.last + 1) m.device m.facts) (sym (stuck_still stuck)) (went.left (timely clock)))
      (λ heard. each_is_ahead r.named (ran.end.last + 1) r.exit (facts_of r.history) ((its heard).left (went.timely (ran.heard heard) (timely clock))))
      (how_ended r.status))

  -- and unless nothing was heard of a transfer, of each crash image
  pub ran_ahead_each : ran.end.last ≡ r.last → StampsAreEarlier r.named r.entry → (r.status ≡ ended.Stuck → ⊥) → IsAheadEach r.named (r.last + 1) r.exit (facts_of r.history)
  ran_ahead_each last clock heard = subst (λ (n : ℕ). IsAheadEach r.named (n + 1) r.exit (facts_of r.history)) last ((its heard).left (went.timely (ran.heard heard) (timely clock)))

-- A run whose lines find no other group where they ask for that upholds what was told before it.
pub run_upheld : (r : Run) → WhereAlone r (StampsAreEarlier r.named r.entry → IsUpheld r.named r.entry r.exit (facts_of r.history))
run_upheld r = λ ran alone clock. span_upholds r.named r.entry r.exit (facts_of r.history) (spanned r ran clock alone)
