-- How a group comes on, or doesn't.
use Rattle.std.proofs.Common.{◌≡◌, ◌+◌, ◌<◌, ◌≤◌, [], ◌∷◌, ◌++◌, ℕ, List, Option, Some, None, Result, Ok, Err, IfOk, IfErr, false, refl, sym, ◌∙◌, ap, subst, arith}
use Rattle.std.specs.Prelude.{◌^◌, IfNone}
use Rattle.std.specs.Global.{Vec}
use Rattle.lvm_disk.specs.Device.{Device, IsReady}
use Rattle.lvm_disk.proofs.PathsLemmas.{last-path}
use Rattle.lvm_io.specs.Count.{Rose}
use Rattle.lvm_vol.specs.Facts.{Fact, On}
use Rattle.lvm_vol.specs.Legal.{IsLater}
use Rattle.lvm_vol.specs.Log.{Log, is_open}
use Rattle.lvm_vol.specs.Order.{Ordered}
use Rattle.lvm_kept.specs.Moments.{Moment}
use Rattle.lvm_steps.specs.Moments.{RunBegins, ImagesKept, Keeps, Upholds}
use Rattle.lvm_steps.specs.Requests.{at}
use Rattle.lvm_steps.specs.Behind.{StampsAreEarlier}
use Rattle.lvm_steps.proofs.LawsLemmas.Clock.{later_joins}
use Rattle.lvm_core.specs.declared.refused.Cause.{Cause}
use Rattle.lvm_core.specs.declared.refused.Cause.TheVariants as cause
use Rattle.lvm_core.specs.declared.refused.Refused.{Refused}
use Rattle.lvm_core.specs.Coming.{shelf_left, history_left}
use Rattle.lvm_core.specs.Held.{StartsHeld}
use Rattle.lvm_core.specs.Settled.{IsSettled as IsSettledCore}
use Rattle.lvm_core.specs.Sound.{HaveAllLanded}
use Rattle.lvm_core.specs.State.{state_of}
use Rattle.lvm_session.specs.State.{Core, state}
use Rattle.lvm_group_lines.specs.passed.Handover.{Serves}
use Rattle.lvm_group_lines.specs.passed.TieCommands.{StandsAfter}
use Rattle.lvm_group_lines.proofs.passed.TieCommands.{spans_follow}
use Rattle.lvm_group_lines.specs.passed.Posts.{Post, AreAnswered}
use Rattle.lvm_group_lines.specs.passed.Quiesce.{ClockIsAheadEach, IsAheadEach, BringsOnEach, IsStartedEach}
use Rattle.lvm_group_lines.proofs.passed.Quiesce.{still_is_behind_each}
use Rattle.lvm_group_lines.specs.Groups.{IsHeldBy, IsLeftBy}
use Rattle.lvm_group_lines.specs.Ends.{CommandEnds}
use Rattle.lvm_group_lines.specs.Lighting.{IsRelit, refusal_of}
use Rattle.lvm_group_lines.specs.Moments.{Aside, LineGoesOn, HasBegunHeld}
use Rattle.lvm_group_lines.specs.Stages.{HaveRooms, IsBetweenStage, IsFittingStage, IsOfKind, history_of, session_of, shelf_of, state_in}
use Rattle.lvm_group_lines.specs.State.{ArePosted, IsBetween, StandsAlone, ScriptState, without_facts}
use Rattle.lvm_group_lines.specs.declared.holder.Holder.{Holder}
use Rattle.lvm_group_lines.specs.declared.reply.Reply.{Reply}
use Rattle.lvm_group_lines.specs.declared.stage.Stage.{Stage}
use Rattle.lvm_group_lines.specs.declared.holder.Holder.TheVariants as holder
use Rattle.lvm_group_lines.specs.declared.reply.Reply.TheVariants as reply
use Rattle.lvm_group_lines.proofs.MomentsLemmas.Going.{ahead_later}
use Rattle.lvm_group_lines.proofs.LightingLemmas.{RefusalLeaves, Rests, lit_up, ready_is_lit, still_leaves_descriptors}
use Rattle.lvm_group_lines.proofs.FactsLemmas.{Bears, landed_bears, later_bears, open_more}
use Rattle.lvm_group_lines.proofs.StateLemmas.{LeavesAnswers, answered_bears, answered_on, off_posts, on_posts}

-- ---- the clock

-- A clock that has risen since then answers a moment that is ahead of what was ahead of the next one.
pub clock_is_ahead : (run last moment : ℕ) (device : Device) (facts : List Fact) → Rose last moment → IsAheadEach run (last + 1) device facts → ClockIsAheadEach run moment device facts
clock_is_ahead run last moment device facts rose ahead = λ early. ahead_later run (last + 1) moment device facts (let r = rose.risen in omega (arith, r, early)) ahead

-- ---- what the call leaves

-- entries follow that are later than nothing else, open no request, and take none of the answers of posts
pub record Stays (old new : List Fact) : Type 0 where
  pub later : (m : ℕ) → IsLater old m → IsLater new m
  pub landed : HaveAllLanded old → HaveAllLanded new
  pub answers : LeavesAnswers old new

-- as where they leave true what cuts and contents that are given up do
pub stays : (old new : List Fact) → ((P : List Fact → Type 0) → Bears P → P old → P new) → Stays old new
stays old new bears = record {
  later = λ m. bears (λ facts. IsLater facts m) (later_bears m);
  landed = bears HaveAllLanded landed_bears;
  answers = λ range. bears (λ facts. AreAnswered facts range) (answered_bears range);
}

-- a group has come on: what its session and its shelf have
pub record CameOn (moment : ℕ) (old new : Device) (log : Log) (core : Core) : Type 0 where
  pub entered : List Fact
  pub facts : core.history.facts ≡ entered ++ On moment ∷ []
  pub stays : Stays log.facts entered
  pub ready : IsReady new
  pub epoch : core.status.stamp.epoch ≡ moment
  pub orders : new.orders ≡ old.orders
  pub rooms : without_facts core.history ≡ without_facts log

-- none has, for this
pub record StayedOff (why : Cause) (old left : Device) (log is : Log) : Type 0 where
  pub leaves : RefusalLeaves why old left
  pub stays : Stays log.facts is.facts
  pub rooms : without_facts is ≡ without_facts log

-- where the power was cut nothing is out
pub dark_still : {S : Type 0} (device : S → Device) (shelf : S) (log : Log) (outcome : Result (S × Core) (Refused S)) → IfErr outcome (λ refused. StayedOff refused.cause (device shelf) (device refused.shelf) log refused.history)
    → IfErr outcome (λ refused. refused.cause ≡ cause.Dark → (device refused.shelf).flights ≡ [])
dark_still device shelf log (Ok driver) stayed = tt
dark_still device shelf log (Err refused) stayed = λ dark. subst (λ (why : Cause). Rests why (device shelf) (device refused.shelf)) dark stayed.leaves.rests

-- ---- how the states go on

-- what the call promises whatever the answer
pub record Promises (run moment : ℕ) (old left : Moment) : Type 0 where
  pub keeps : ClockIsAheadEach run moment old.device old.facts → Keeps run old left
  pub behind : ClockIsAheadEach run moment old.device old.facts → StampsAreEarlier (moment + 1) left.device
  pub waits : old.device.counts.waits ≤ left.device.counts.waits

module _ (run : ℕ) (old : ScriptState) (off : old.session ≡ None) (between : IsBetween old.moment old.session old.posts) (ordered : Ordered run [] old.moment.facts) (moment : ℕ) (rose : Rose old.last moment) where
  landed : HaveAllLanded old.moment.facts
  landed = subst (λ (s : Option Core). IfNone s (HaveAllLanded old.moment.facts)) off between.landed

  posted : ArePosted old.moment.facts None old.posts
  posted = subst (λ (s : Option Core). ArePosted old.moment.facts s old.posts) off between.posted

  clock : IsAheadEach run (old.last + 1) old.moment.device old.moment.facts → ClockIsAheadEach run moment old.moment.device old.moment.facts
  clock = clock_is_ahead run old.last moment old.moment.device old.moment.facts rose

  earlier : (m : ℕ) → old.last + 1 ≤ m → IsAheadEach run (old.last + 1) old.moment.device old.moment.facts → IsAheadEach run m old.moment.device old.moment.facts
  earlier m le = ahead_later run (old.last + 1) m old.moment.device old.moment.facts le

  next : IsAheadEach run (old.last + 1) old.moment.device old.moment.facts → IsAheadEach run (moment + 1) old.moment.device old.moment.facts
  next = earlier (moment + 1) (let e = rose.later in omega (arith, e))

  -- it was refused
  pub left_off : (why : Cause) (left : Moment) (new : Device) → Promises run moment old.moment left → RefusalLeaves why old.moment.device left.device → IsRelit why left.device new
      → Stays old.moment.facts left.facts → LineGoesOn run Aside (reply.Refused (refusal_of why)) old (record { moment = at new left.facts; session = None; posts = old.posts; last = moment })
  left_off why left new promises leaves lit more =
      let up = lit_up why old.moment.device left.device new (record { lit = between.lit; descriptors = between.descriptors }) leaves.rests lit in
      record {
        keeps = λ timely alone first span stands. (up.keeps run first left.facts (spans_follow run first old.moment left span ordered landed (promises.keeps (clock timely.ahead))), λ goes past begins. tt);
        timely = λ goes timely. record {
          ahead = record {
            run_is = (next timely.ahead).run_is;
            later = more.later (moment + 1) (next timely.ahead).later;
            behind = up.each goes (moment + 1) (next timely.ahead).behind (promises.behind (clock timely.ahead));
          };
          session = tt;
        };
        left = λ timely. record {
          run_is = (next timely.ahead).run_is;
          later = more.later (moment + 1) (next timely.ahead).later;
          behind = up.behind (moment + 1) (promises.behind (clock timely.ahead));
        };
        between = λ goes. record {
          lit = (up.opens goes).lit;
          descriptors = (up.opens goes).descriptors;
          landed = more.landed landed;
          session = tt;
          posted = off_posts old.moment.facts left.facts more.answers old.posts posted;
        };
        rests = λ others goes rests. record { ready = up.ready goes rests.ready; landed = more.landed landed; session = tt; posts = rests.posts };
        begins = λ timely facts kept. subst (λ (s : Option Core). IfNone s (Unit {0})) (sym off) tt;
        power = up.power;
        waits = let e = up.waits in let w = promises.waits in omega (arith, e, w);
        clock = rose.later;
        few = omega arith;
      }

  -- the group is on
  module _ (core : Core) (new : Device) (promises : Promises run moment old.moment (at new core.history.facts)) (serves : Serves (state new core))
      (entered : List Fact) (facts : core.history.facts ≡ entered ++ On moment ∷ []) (more : Stays old.moment.facts entered)
      (ready : IsReady new) (epoch : core.status.stamp.epoch ≡ moment) (settled : IsSettledCore core) (starts : (kept : List Fact) → ClockIsAheadEach run moment old.moment.device old.moment.facts → ImagesKept old.moment.device kept → StartsHeld new core)
      (stands : (first : Moment) → Keeps run first (at new core.history.facts) → (past : List Fact) → RunBegins run past first → ClockIsAheadEach run moment old.moment.device old.moment.facts → StartsHeld new core → StandsAlone new core → StandsAfter past new core) where
    later_then : IsAheadEach run (old.last + 1) old.moment.device old.moment.facts → IsLater core.history.facts (moment + 1)
    later_then ahead = subst (λ (l : List Fact). IsLater l (moment + 1)) (sym facts)
        (later_joins (moment + 1) entered (On moment ∷ []) (more.later (moment + 1) (next ahead).later) (omega arith, tt))

    landed_then : HaveAllLanded core.history.facts
    landed_then id = subst (λ (l : List Fact). is_open l id ≡ false) (sym facts) (open_more entered (On moment) id refl refl ∙ more.landed landed id)

    leaves_answers : LeavesAnswers old.moment.facts core.history.facts
    leaves_answers range answered = subst (λ (l : List Fact). AreAnswered l range) (sym facts)
        (answered_on entered (On moment) range (λ id. refl) (more.answers range answered))

    pub left_on : LineGoesOn run Aside reply.Ok old (record { moment = at new core.history.facts; session = Some core; posts = old.posts; last = moment })
    left_on = record {
      keeps = λ timely alone first span before. let keeps = spans_follow run first old.moment (at new core.history.facts) span ordered landed (promises.keeps (clock timely.ahead)) in
          (keeps, λ goes past begins. stands first keeps past begins (clock timely.ahead) (starts (past ++ old.moment.facts) (clock timely.ahead) (let upholds : Upholds run first old.moment = last-path span in (upholds past begins).kept)));
      timely = λ goes timely. record {
        ahead = record { run_is = (next timely.ahead).run_is; later = later_then timely.ahead; behind = still_is_behind_each (moment + 1) new ready.flights (promises.behind (clock timely.ahead)) };
        session = omega (arith, epoch);
      };
      left = λ timely. record { run_is = (next timely.ahead).run_is; later = later_then timely.ahead; behind = promises.behind (clock timely.ahead) };
      between = λ goes. record {
        lit = ready_is_lit new ready;
        descriptors = still_leaves_descriptors new ready.flights;
        landed = tt;
        session = record { power = settled.power; sound = serves.sound; stamped = serves.stamped; rows = serves.rows; copy = settled.quiet.copy; empty = λ none. settled };
        posted = on_posts old.moment.facts core.history.facts leaves_answers core settled.quiet.requests old.posts posted;
      };
      rests = λ others goes rests. record { ready = ready; landed = landed_then; session = settled; posts = rests.posts };
      begins = λ timely facts_kept kept. subst (λ (s : Option Core). IfNone s (HasBegunHeld new core)) (sym off) (record { ready = ready; settled = settled; held = (starts facts_kept (clock timely.ahead) kept).held });
      power = ready.power;
      waits = promises.waits;
      clock = rose.later;
      few = omega arith;
    }

-- ---- the stage then

-- the stage with this holder
abbrev pub held : {S : Type 0} → Holder S → Vec Post → Vec ℕ → Stage S
held by posts bytes = record { holder = by; posts = posts; bytes = bytes }

-- who holds the shelf and the history then, and the answer
pub record Left {S : Type 0} (device : S → Device) (outcome : Result (S × Core) (Refused S)) (by : Holder S) (answer : Reply) : Type 0 where
  pub on : IfOk outcome (IsHeldBy device by answer)
  pub off : IfErr outcome (IsLeftBy device by answer)

-- the outcome, by what the call says of it
pub record Outcome {S : Type 0} (device : S → Device) (shelf : S) (log : Log) (moment before after : ℕ) (by : Holder S) (answer : Reply) (outcome : Result (S × Core) (Refused S)) : Type 0 where
  pub starts : IfOk outcome (λ driver. IsStartedEach log.run moment (device shelf) log (state_of device driver))
  pub brings : BringsOnEach log.run moment before after (device shelf) (device (shelf_left outcome)) log (history_left outcome)
  pub came : IfOk outcome (λ driver. CameOn moment (device shelf) (device driver.0) log driver.1)
  pub serves : IfOk outcome (λ driver. Serves (state_of device driver))
  pub stands : IfOk outcome (λ driver. (first : Moment) → Keeps log.run first (at (device driver.0) driver.1.history.facts) → (past : List Fact) → RunBegins log.run past first
      → ClockIsAheadEach log.run moment (device shelf) log.facts → StartsHeld (device driver.0) driver.1 → StandsAlone (device driver.0) driver.1 → StandsAfter past (device driver.0) driver.1)
  pub stayed : IfErr outcome (λ refused. StayedOff refused.cause (device shelf) (device refused.shelf) log refused.history)
  pub left : Left device outcome by answer

module _ {S : Type 0} (device : S → Device) (shelf : S) (log : Log) (posts : Vec Post) (bytes : Vec ℕ) (moment last before after : ℕ) (by : Holder S) (answer : Reply) (rose : Rose last moment)
    (fits : IsFittingStage (held (holder.Off shelf log) posts bytes)) (between : IsBetweenStage device (held (holder.Off shelf log) posts bytes)) (ordered : Ordered log.run [] log.facts) where
  abbrev first_state : ScriptState
  first_state = state_in device (held (holder.Off shelf log) posts bytes) last

  abbrev Ended : Result (S × Core) (Refused S) → Type 0
  Ended = Outcome device shelf log moment before after by answer

  promises : (outcome : Result (S × Core) (Refused S)) → BringsOnEach log.run moment before after (device shelf) (device (shelf_left outcome)) log (history_left outcome)
      → Promises log.run moment (at (device shelf) log.facts) (at (device (shelf_left outcome)) (history_left outcome).facts)
  promises outcome brings = record { keeps = brings.keeps; behind = brings.behind; waits = brings.spends.waits.later }

  -- the state of a stage that is held by a session, and of one that isn't
  on_is : (driver : S × Core) → shelf_of by ≡ driver.0 → history_of by ≡ driver.1.history → session_of by ≡ Some driver.1
      → state_in device (held by posts bytes) moment ≡ record { moment = at (device driver.0) driver.1.history.facts; session = Some driver.1; posts = posts.items; last = moment }
  on_is driver same history session =
      ap (λ (x : S). record { moment = at (device x) (history_of by).facts; session = session_of by; posts = posts.items; last = moment }) same
      ∙ ap (λ (l : Log). record { moment = at (device driver.0) l.facts; session = session_of by; posts = posts.items; last = moment }) history
      ∙ ap (λ (s : Option Core). record { moment = at (device driver.0) driver.1.history.facts; session = s; posts = posts.items; last = moment }) session

  off_is : (is : Log) → history_of by ≡ is → session_of by ≡ None → state_in device (held by posts bytes) moment ≡ record { moment = at (device (shelf_of by)) is.facts; session = None; posts = posts.items; last = moment }
  off_is is history session =
      ap (λ (l : Log). record { moment = at (device (shelf_of by)) l.facts; session = session_of by; posts = posts.items; last = moment }) history
      ∙ ap (λ (s : Option Core). record { moment = at (device (shelf_of by)) is.facts; session = s; posts = posts.items; last = moment }) session

  goes : (outcome : Result (S × Core) (Refused S)) → Ended outcome → LineGoesOn log.run Aside answer first_state (state_in device (held by posts bytes) moment)
  goes (Ok driver) ended =
      let on = ended.left.on in
      subst (λ (s : ScriptState). LineGoesOn log.run Aside answer first_state s) (sym (on_is driver on.shelf on.history on.session))
      (subst (λ (a : Reply). LineGoesOn log.run Aside a first_state (record { moment = at (device driver.0) driver.1.history.facts; session = Some driver.1; posts = posts.items; last = moment })) (sym on.answered)
      (left_on log.run first_state refl between ordered moment rose driver.1 (device driver.0) (promises (Ok driver) ended.brings) ended.serves
      ended.came.entered ended.came.facts ended.came.stays ended.came.ready ended.came.epoch ended.starts.settled ended.starts.held ended.stands))
  goes (Err refused) ended =
      let off = ended.left.off in
      subst (λ (s : ScriptState). LineGoesOn log.run Aside answer first_state s) (sym (off_is refused.history off.history off.session))
      (subst (λ (a : Reply). LineGoesOn log.run Aside a first_state (record { moment = at (device (shelf_of by)) refused.history.facts; session = None; posts = posts.items; last = moment })) (sym off.answered)
      (left_off log.run first_state refl between ordered moment rose refused.cause (at (device refused.shelf) refused.history.facts) (device (shelf_of by)) (promises (Err refused) ended.brings) ended.stayed.leaves off.lit ended.stayed.stays))

  orders : (outcome : Result (S × Core) (Refused S)) → Ended outcome → (device (shelf_of by)).orders ≡ (device shelf).orders
  orders (Ok driver) ended = ap (λ (x : S). (device x).orders) ended.left.on.shelf ∙ ended.came.orders
  orders (Err refused) ended =
      let leaves = ended.stayed.leaves in
      (lit_up refused.cause (device shelf) (device refused.shelf) (device (shelf_of by)) (record { lit = between.lit; descriptors = between.descriptors }) leaves.rests ended.left.off.lit).orders ∙ leaves.orders

  rooms : (outcome : Result (S × Core) (Refused S)) → Ended outcome → without_facts (history_of by) ≡ without_facts log
  rooms (Ok driver) ended = ap without_facts ended.left.on.history ∙ ended.came.rooms
  rooms (Err refused) ended = ap without_facts ended.left.off.history ∙ ended.stayed.rooms

  kind : (outcome : Result (S × Core) (Refused S)) → Ended outcome → IsOfKind by
  kind (Ok driver) ended = ended.left.on.kind
  kind (Err refused) ended = ended.left.off.kind

  fits_then : (outcome : Result (S × Core) (Refused S)) → Ended outcome → IsFittingStage (held by posts bytes)
  fits_then outcome ended =
      let room = ap (λ (l : Log). l.room) (rooms outcome ended) in
      record { kind = kind outcome ended; few = subst (λ (n : ℕ). n < 2 ^ 32) (sym room) fits.few; rooms = subst (λ (n : ℕ). HaveRooms n posts bytes) (sym room) fits.rooms }

  pub outcome_ends : (Does : Log → ScriptState → ScriptState → Reply → Type 0) (outcome : Result (S × Core) (Refused S)) → Ended outcome → Does (without_facts log) first_state (state_in device (held by posts bytes) moment) answer
      → CommandEnds device Does ⊥ Aside (held (holder.Off shelf log) posts bytes) (held by posts bytes) answer last moment
  outcome_ends Does outcome ended does = record { does = does; goes = goes outcome ended; rooms = rooms outcome ended; fits = fits_then outcome ended; orders = λ none. orders outcome ended }
