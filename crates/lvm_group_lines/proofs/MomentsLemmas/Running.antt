-- Where turns and calls of a session lead from one state to the next: it goes on, or is closed.
use Rattle.std.proofs.Common.{◌≡◌, ◌≢◌, ◌==◌, ◌&&◌, ◌||◌, ◌≤◌, ◌+◌, ℕ, Bool, true, false, List, [], ◌∷◌, Option, Some, None, IfSome, IfNone, length, refl, sym, ◌∙◌, ap, subst, arith}
use Rattle.std.specs.List.{AllByRecursion}
use Rattle.lvm_num.specs.Buffer.{Buffer}
use Rattle.lvm_num.specs.declared.descriptor.Descriptor.{Descriptor}
use Rattle.lvm_num.specs.Descriptor.{is_member}
use Rattle.lvm_disk.specs.Device.{Device, Flight, IsInFlight}
use Rattle.lvm_disk.specs.Images.{LeavesNoMore}
use Rattle.lvm_disk.specs.Paths.{DeviceStep, Path, Here}
use Rattle.lvm_disk.proofs.PathsLemmas.{last-path}
use Rattle.lvm_vol.specs.Facts.{Fact}
use Rattle.lvm_vol.specs.Legal.{IsLater}
use Rattle.lvm_kept.specs.Moments.{Moment}
use Rattle.lvm_steps.specs.Moments.{RunBegins, Keeps}
use Rattle.lvm_steps.specs.Requests.{at}
use Rattle.lvm_steps.proofs.MomentsLemmas.Spans.{keeps_steps}
use Rattle.lvm_steps.specs.Behind.{beginning_at}
use Rattle.lvm_steps.specs.Laws.{LeavesBefore}
use Rattle.lvm_steps.proofs.LawsLemmas.Shelves.{left_is_before, still_keeps_before}
use Rattle.lvm_session.specs.declared.open.Open.{Open}
use Rattle.lvm_session.specs.declared.open.Power.{Power}
use Rattle.lvm_session.specs.declared.open.Power.TheVariants as power
use Rattle.lvm_session.specs.Causes.{is_over}
use Rattle.lvm_session.specs.Judging.{is_waiting}
use Rattle.lvm_session.specs.Requests.{IsLanded}
use Rattle.lvm_session.specs.Sound.{HasPower, IsSound, is_dark, waits}
use Rattle.lvm_session.specs.State.{Core, State, state}
use Rattle.lvm_status.specs.Members.{HasItsRows}
use Rattle.lvm_quiesce.specs.passed.Core.{HaveAllLanded}
use Rattle.lvm_tie_commands.specs.passed.Tie.{moment_of, IsBefore}
use Rattle.lvm_group_lines.specs.passed.Tie.{IsGoodSparing, IsLeftBefore, MovesOn}
use Rattle.lvm_quiesce.specs.Behind.{IsAheadEach}
use Rattle.lvm_tie_commands.specs.Standing.{StandsAfter}
use Rattle.lvm_group_lines.proofs.passed.Tie.{is_stamped, moved_stamped}
use Rattle.lvm_group_lines.specs.Moments.{LineGoesOn, HasBegunHeld, IsAlone, IsRequesting, Role}
use Rattle.lvm_group_lines.specs.Replies.{IsStuck, most_refusals}
use Rattle.lvm_group_lines.specs.Stages.{IsClosed}
use Rattle.lvm_group_lines.specs.State.{ArePosted, IsAtRest, IsBetween, IsOnBetween, IsTimely, StandsAlone, StandsBy, ScriptState}
use Rattle.lvm_group_lines.specs.declared.reply.Reply.{Reply}
use Rattle.lvm_group_lines.proofs.MomentsLemmas.Going.{relit_path, was_session}

-- ---- a session that is over

-- no request waits that has landed
none_waits : (os : List Open) (id : ℕ) → AllByRecursion IsLanded os → waits os id ≡ false
none_waits [] id all = refl
none_waits (o ∷ os) id all = by (is_waiting o) all.0.landed (none_waits os id all.1)
  where
    by : (a : Bool) → a ≡ false → waits os id ≡ false → (a && o.request.id == id) || waits os id ≡ false
    by true is rest = absurd (let e : true ≡ false = is in cc e)
    by false is rest = rest

pub over_landed : (s : State) → IsSound s → is_over s.core.power ≡ true → HaveAllLanded s.core.history.facts
over_landed s sound over id = sound.told.each id ∙ none_waits s.core.requests id (sound.over over).landed

-- how its shelf is closed: by steps that add no crash image; then the power is on, and the transfers that are out stay
record Closes (old new : Device) : Type 0 where
  path : Path DeviceStep (LeavesNoMore old) old new
  flights : new.flights ≡ old.flights
  lit : HasPower new
  waited : new.counts.waits ≡ old.counts.waits

closes_lit : (old new : Device) → HasPower old → new ≡ record old { freed = [] } → Closes old new
closes_lit old new lit is = subst (Closes old) (sym same) (record { path = Here (λ image may. may); flights = refl; lit = lit; waited = refl })
  where
    same : new ≡ old
    same = is ∙ ap (λ (freed : List Buffer). record old { freed = freed }) (sym lit.freed)

closes_dark : (old new : Device) → old.flights ≡ [] → new ≡ record old { freed = []; power = true } → Closes old new
closes_dark old new none is = record {
  path = relit_path old new none is;
  flights = ap (λ (d : Device). d.flights) is;
  lit = record { power = ap (λ (d : Device). d.power) is; freed = ap (λ (d : Device). d.freed) is };
  waited = ap (λ (d : Device). d.counts.waits) is;
}

closes : (s : State) (new : Device) → IsSound s → IsClosed s.core.power s.device new → (s.core.power ≡ power.Stuck → ⊥) → Closes s.device new
closes s new sound = by s.core.power refl
  where
    by : (p : Power) → s.core.power ≡ p → IsClosed p s.device new → (p ≡ power.Stuck → ⊥) → Closes s.device new
    by power.On e is heard = closes_lit s.device new (sound.lit (ap is_dark e)) is
    by power.Off e is heard = closes_lit s.device new (sound.lit (ap is_dark e)) is
    by power.Dark e is heard = closes_dark s.device new (sound.dark (ap is_dark e)).flights is
    by power.Stuck e is heard = absurd (heard refl)

-- ---- from one state to the next

-- What leads from a session of a group with volumes to this one.
pub record IsRun (role : Role) (old : ScriptState) (core : Core) (end : State) : Type 0 where
  pub alone : (new : ScriptState) → IsAlone role old new → IfSome old.session (StandsAlone old.moment.device)
  pub session : old.session ≡ Some core
  pub facts : old.moment.facts ≡ core.history.facts
  pub volumes : core.descriptor.lvs ≢ []
  pub between : IsBetween old.moment old.session old.posts
  pub went : MovesOn (state old.moment.device core) end
  pub sound : IsSound end

module _ (role : Role) (old : ScriptState) (core : Core) (end : State) (its : IsRun role old core end) where
  abbrev first_session : State
  first_session = state old.moment.device core

  on_first : IsOnBetween old.moment.device core
  on_first = subst (λ (o : Option Core). IfSome o (IsOnBetween old.moment.device)) its.session its.between.session

  -- what leads to it
  stays_good : MovesOn first_session end
  stays_good = its.went

  -- the group has its volumes, and a row of the first status for each member
  has_volumes : end.core.descriptor.lvs ≢ []
  has_volumes none = its.volumes (its.went.keeps.volumes none)

  has_rows : HasItsRows core.descriptor core.origin.table → HasItsRows end.core.descriptor end.core.origin.table
  has_rows rows disk = its.went.keeps.rows disk ∙ rows disk ∙ sym (ap (λ (d : Descriptor). is_member d disk) its.went.keeps.alike)

  moment_is : old.moment ≡ moment_of first_session
  moment_is = ap (λ (fs : List Fact). at old.moment.device fs) its.facts

  module _ (new : ScriptState) (alone : IsAlone role old new) (first : Moment) (stands : StandsBy core.history.run first old) where
    stands_first : (past : List Fact) → RunBegins core.history.run past first → StandsAfter past old.moment.device core
    stands_first past begins =
        subst (λ (o : Option Core). IfSome o (λ (c : Core). StandsAlone old.moment.device c → StandsAfter past old.moment.device c)) its.session (stands past begins)
        (subst (λ (o : Option Core). IfSome o (StandsAlone old.moment.device)) its.session (its.alone new alone))

    good_first : IsGoodSparing core.history.run first first_session
    good_first on past begins = let stood = stands_first past begins in (stood.tied its.volumes, stood.spares its.volumes)

    pub good_end : IsGoodSparing core.history.run first end
    good_end = (stays_good.good first good_first).0

    pub spanned : Keeps core.history.run first old.moment → Keeps core.history.run first (moment_of end)
    spanned span = (stays_good.good first good_first).1 (subst (Keeps core.history.run first) moment_is span)

    pub stands_then : end.core.power ≡ power.On → (past : List Fact) → RunBegins core.history.run past first → StandsAfter past end.device end.core
    stands_then on past begins = record {
      empty = λ none. absurd (has_volumes none);
      tied = λ some. (good_end on past begins).0;
      spares = λ some. (good_end on past begins).1;
    }

  -- ---- its moment

  module _ (timely : IsTimely core.history.run old) where
    before_first : IsBefore (old.last + 1) first_session
    before_first = record {
      leaves = timely.ahead.behind;
      session = λ lit. (is_stamped core.status on_first.stamped, let e = subst (λ (o : Option Core). IfSome o (λ (c : Core). c.status.stamp.epoch ≤ old.last)) its.session timely.session in omega (arith, e));
    }

    pub before_end : IsLeftBefore (old.last + 1) end
    before_end = stays_good.before (old.last + 1) (record { stands = left_is_before (beginning_at (old.last + 1)) old.moment.device timely.ahead.behind; on = λ on. before_first })

    -- where it is heard of, each crash image is
    left_end : (end.core.power ≡ power.Stuck → ⊥) → LeavesBefore (beginning_at (old.last + 1)) end.device
    left_end heard = by end.core.power refl
      where
        over : is_over end.core.power ≡ true → LeavesBefore (beginning_at (old.last + 1)) end.device
        over is = still_keeps_before (beginning_at (old.last + 1)) end.device (its.sound.over is).flights before_end.stands

        by : (p : Power) → end.core.power ≡ p → LeavesBefore (beginning_at (old.last + 1)) end.device
        by power.On is = (before_end.on is).leaves
        by power.Off is = over (ap is_over is)
        by power.Dark is = over (ap is_over is)
        by power.Stuck is = absurd (heard is)

    pub later_end : IsLater end.core.history.facts (old.last + 1)
    later_end = stays_good.later (old.last + 1) (subst (λ (fs : List Fact). IsLater fs (old.last + 1)) its.facts timely.ahead.later)

  -- ---- it goes on

  -- the state once it goes on with these posts
  module _ (answer : Reply) (new : ScriptState) (is : new ≡ record { moment = moment_of end; session = Some end.core; posts = new.posts; last = old.last })
      (on : end.core.power ≡ power.On) (copy : end.core.copy ≡ None) (posted : ArePosted end.core.history.facts (Some end.core) new.posts)
      (rests : (IsRequesting role → ⊥) → IsAtRest old → IsAtRest new) (few : most_refusals answer + length new.posts ≤ length old.posts + 1) where
    abbrev next : ScriptState
    next = record { moment = moment_of end; session = Some end.core; posts = new.posts; last = old.last }

    not_dark : end.core.power ≡ power.Dark → ⊥
    not_dark dark = let e : power.On ≡ power.Dark = sym on ∙ dark in cc e

    lit : HasPower end.device
    lit = its.sound.lit (ap is_dark on)

    goes : LineGoesOn core.history.run role answer old next
    goes = record {
      keeps = λ timely alone first span stands. (spanned next alone first stands span, λ heard past begins only. stands_then next alone first stands on past begins);
      timely = λ heard timely. let before = (before_end timely).on on in record {
        ahead = record { run_is = timely.ahead.run_is; later = later_end timely; behind = before.leaves };
        session = let e = (before.session not_dark).1 in omega (arith, e);
      };
      left = λ timely. record { run_is = timely.ahead.run_is; later = later_end timely; behind = (before_end timely).stands };
      between = λ heard. record {
        lit = lit;
        descriptors = stays_good.descriptors its.between.descriptors (λ stuck. let e : power.On ≡ power.Stuck = sym on ∙ stuck in cc e);
        landed = tt;
        session = record {
          power = on;
          sound = its.sound;
          stamped = moved_stamped first_session end stays_good on on_first.stamped;
          rows = has_rows on_first.rows;
          copy = copy;
          empty = λ none. absurd (has_volumes none);
        };
        posted = posted;
      };
      rests = λ not_asking heard rest. subst IsAtRest is (rests not_asking rest);
      begins = λ timely facts kept. was_session old.session core (IfSome (Some end.core) (HasBegunHeld end.device)) its.session;
      power = lit.power;
      waits = its.went.keeps.counts.waits;
      clock = omega arith;
      few = few;
    }

    pub run_goes : LineGoesOn core.history.run role answer old new
    run_goes = subst (LineGoesOn core.history.run role answer old) (sym is) goes

  -- ---- it is closed

  -- the clock stays ahead of each crash image
  module _ (new : ScriptState) (closed : IsClosed end.core.power end.device new.moment.device) (facts : new.moment.facts ≡ end.core.history.facts) (clock : new.last ≡ old.last) (heard_of : end.core.power ≡ power.Stuck → ⊥) where
    behind_closed : (moment : ℕ) → LeavesBefore (beginning_at moment) end.device → LeavesBefore (beginning_at moment) new.moment.device
    behind_closed moment before image may = before image (last-path (closes end new.moment.device its.sound closed heard_of).path image may)

    pub closed_ahead : IsTimely core.history.run old → IsAheadEach core.history.run (new.last + 1) new.moment.device new.moment.facts
    closed_ahead timely = subst (λ (n : ℕ). IsAheadEach core.history.run (n + 1) new.moment.device new.moment.facts) (sym clock) (record {
      run_is = timely.ahead.run_is;
      later = subst (λ (fs : List Fact). IsLater fs (old.last + 1)) (sym facts) (later_end timely);
      behind = behind_closed (old.last + 1) (left_end timely heard_of);
    })

  module _ (answer : Reply) (new : ScriptState) (closed : IsClosed end.core.power end.device new.moment.device) (facts : new.moment.facts ≡ end.core.history.facts) (none : new.session ≡ None)
      (clock : new.last ≡ old.last) (heard_of : end.core.power ≡ power.Stuck → ⊥) (over : (IsStuck answer → ⊥) → is_over end.core.power ≡ true) (posted : ArePosted new.moment.facts None new.posts)
      (rests : (IsRequesting role → ⊥) → IsAtRest old → IsAtRest new) (few : most_refusals answer + length new.posts ≤ length old.posts + 1) where
    it : Closes end.device new.moment.device
    it = closes end new.moment.device its.sound closed heard_of

    new_moment : at new.moment.device end.core.history.facts ≡ new.moment
    new_moment = sym (ap (λ (fs : List Fact). at new.moment.device fs) facts)

    pub over_goes : LineGoesOn core.history.run role answer old new
    over_goes = record {
      keeps = λ timely alone first span stands. (
        subst (Keeps core.history.run first) new_moment (keeps_steps core.history.run first end.device new.moment.device end.core.history.facts (spanned new alone first stands span) it.path),
        λ heard past begins. subst (λ (o : Option Core). IfSome o (λ (c : Core). StandsAlone new.moment.device c → StandsAfter past new.moment.device c)) (sym none) tt,
      );
      timely = λ heard timely. record {
        ahead = closed_ahead new closed facts clock heard_of timely;
        session = subst (λ (o : Option Core). IfSome o (λ (c : Core). c.status.stamp.epoch ≤ new.last)) (sym none) tt;
      };
      left = λ timely. let ahead = closed_ahead new closed facts clock heard_of timely in record { run_is = ahead.run_is; later = ahead.later; behind = left_is_before (beginning_at (new.last + 1)) new.moment.device ahead.behind };
      between = λ heard. record {
        lit = it.lit;
        descriptors = λ d at value flies. stays_good.descriptors its.between.descriptors heard_of d at value (subst (λ (fs : List Flight). IsInFlight fs d at value) it.flights flies);
        landed = subst (λ (o : Option Core). IfNone o (HaveAllLanded new.moment.facts)) (sym none) (subst HaveAllLanded (sym facts) (over_landed end its.sound (over heard)));
        session = subst (λ (o : Option Core). IfSome o (IsOnBetween new.moment.device)) (sym none) tt;
        posted = subst (λ (o : Option Core). ArePosted new.moment.facts o new.posts) (sym none) posted;
      };
      rests = λ not_asking heard rest. rests not_asking rest;
      begins = λ timely facts kept. was_session old.session core (IfSome new.session (HasBegunHeld new.moment.device)) its.session;
      power = it.lit.power;
      waits = let w = its.went.keeps.counts.waits in let same = it.waited in omega (arith, w, same);
      clock = let same = clock in omega (arith, same);
      few = few;
    }
