-- Each call of a client runs a session on, and an order to the shelf leaves the rest of it.
use Rattle.std.proofs.Common.{◌≡◌, inl, inr, ℕ, Bool, true, false, ◌&&◌, List, length, Option, Some, None, refl, sym, ap, subst, ◌∙◌, ◌⊎◌, ◌||◌}
use Rattle.std.specs.Prelude.{◌<◌, Err, MatchOption, Ok, Result, if◌then◌else◌, position}
use Rattle.lvm_num.specs.declared.place.Pp.{Pp}
use Rattle.lvm_num.specs.Descriptor.{is_pp}
use Rattle.lvm_num.specs.Status.{calls_stale}
use Rattle.lvm_disk.specs.declared.shelf.Arrange.{Arrange}
use Rattle.lvm_disk.specs.declared.shelf.Arrange.TheVariants as arrange
use Rattle.lvm_disk.specs.Counts.{Counts, NoneFalls}
use Rattle.lvm_disk.specs.Device.{Device, IsInFlight, MayLeave}
use Rattle.lvm_disk.specs.Paths.{Arranged}
use Rattle.lvm_disk.specs.Steps.{ArrangeGives, Arranges as OrderMakes}
use Rattle.lvm_disk.proofs.CountingLemmas.{none_falls_at_once}
use Rattle.lvm_disk.proofs.StepsLemmas.{arrange_leaves, step_counts, step_same}
use Rattle.lvm_vol.specs.declared.entry.Outcome.{Outcome}
use Rattle.lvm_vol.specs.Log.{next_id}
use Rattle.lvm_steps.specs.Behind.{beginning_at}
use Rattle.lvm_status.specs.Update.{Stored}
use Rattle.lvm_path.specs.declared.ask.Ask.{Ask}
use Rattle.lvm_session.specs.declared.answers.AskFault.{AskFault}
use Rattle.lvm_session.specs.declared.answers.CopyFault.{CopyFault}
use Rattle.lvm_session.specs.declared.answers.OpenFault.{OpenFault}
use Rattle.lvm_session.specs.declared.answers.OpenFault.TheVariants as denial
use Rattle.lvm_session.specs.declared.answers.Taken.{Taken}
use Rattle.lvm_session.specs.declared.answers.Taken.TheVariants as answered
use Rattle.lvm_session.specs.declared.bringing.OpenCopy.{OpenCopy}
use Rattle.lvm_session.specs.declared.open.Open.{Open}
use Rattle.lvm_session.specs.declared.open.Power.{Power}
use Rattle.lvm_session.specs.Bringing.{with_back}
use Rattle.lvm_session.specs.Calls.{OpenGives, OpenMoveGives, Opens, OpensMove, move_fault, SubmitGives, TakeAt, TakeGives, TakesLanded, ask_fault, copy_fault, is_asked, submitted}
use Rattle.lvm_session.specs.Dark.{all_dark, hand_of_copy, is_cut}
use Rattle.lvm_session.specs.declared.open.Power.TheVariants as power
use Rattle.lvm_session.specs.State.{Core, State, state}
use Rattle.lvm_session.specs.Sound.{IsSound}
use Rattle.lvm_session.specs.Turns.{ArrangesSession}
use Rattle.lvm_keeps_events.proofs.passed.Keeps.{back_long, hands_long}
use Rattle.lvm_tie.specs.GoingOn.{SessionGoesOn}
use Rattle.lvm_tie.specs.Landings.{HasCausesSince}
use Rattle.lvm_tie.specs.Spares.{LeavesDescriptors, SparesDescriptors}
use Rattle.lvm_tie.specs.Stamps.{IsStamped, KeepsEpoch, StaysOf}
use Rattle.lvm_tie.proofs.LandingsLemmas.Calls.{calls_keep_causes}
use Rattle.lvm_tie.proofs.GoingOnLemmas.CallsTurn.{answer_goes_on, arrange_goes_on, close_goes_on, open_goes_on, open_move_goes_on, submit_goes_on}
use Rattle.lvm_tie.proofs.SparesLemmas.{calls_spare_descriptors}
use Rattle.lvm_tie.proofs.StampsLemmas.{arrange_leaves_before, calls_stay}
use Rattle.lvm_vol.specs.Facts.{Fact}
use Rattle.lvm_tie.specs.Laws.{CallsRunOn}
use Rattle.lvm_tie.specs.Running.{GoesOffByCut, GoesOnOrEnds, KeepsOrigin, KeepsShape, LeavesSession, MayFindNoMore}
use Rattle.lvm_tie.proofs.LawsLemmas.Running.{keeps_power, origin_same, was_lit}
use Rattle.lvm_tie.proofs.RunningLemmas.Shapes.{Given, dark_given, given}
use Rattle.lvm_tie.proofs.RunningLemmas.Shelves.{fewer_leaves}

-- ---- the calls of a client

-- what it was given, the room that it has, and whether it goes on
abbrev Shape : Type 0
Shape = Given × ℕ × ℕ × Power

abbrev shape : Core → Shape
shape core = (given core, core.most, length core.pool, core.power)

-- and the copy that is open
abbrev Frame : Type 0
Frame = Shape × Option OpenCopy

abbrev frame : Core → Frame
frame core = (shape core, core.copy)

frame_none : (old new : Core) → frame new ≡ frame old → old.copy ≡ None → new.copy ≡ None
frame_none old new same none = ap (λ (f : Frame). f.1) same ∙ none

module _ (s : State) (new : Core) where
  abbrev after : State
  after = state s.device new

  keeps_of : KeepsOrigin s.core.origin new.origin → shape (record new { origin = s.core.origin }) ≡ shape s.core → KeepsShape s after
  keeps_of origin same = record {
    sizes = refl;
    counts = none_falls_at_once s.device.counts;
    cut = keeps_power s.device s.device refl;
    log = ap (λ (x : Shape). x.0.2) same;
    room = record { most = ap (λ (x : Shape). x.1) same; long = ap (λ (x : Shape). x.2) same };
    descriptor = ap (λ (x : Shape). x.0.0) same;
    origin = origin;
    power = inl (ap (λ (x : Shape). x.3) same);
  }

  -- the shelf is as it was, and the status
  call_leaves_but : SessionGoesOn s.core.history.run s after → (SparesDescriptors s → SparesDescriptors after) → StaysOf s.core new → ((first : List Fact) → HasCausesSince first s → HasCausesSince first after)
      → KeepsOrigin s.core.origin new.origin → shape (record new { origin = s.core.origin }) ≡ shape s.core → LeavesSession s after
  call_leaves_but good spares stays causes origin same = record {
    good = good;
    descriptors = λ leaves. record { leaves = leaves; spares = spares; finds = λ id k image may found. (image, may, found) };
    before = λ moment was. record {
      leaves = was.leaves;
      session = λ lit. subst (λ (status : Stored). IsStamped status × (status.stamp.epoch < moment)) (sym stays.status) (was.session (was_lit s.core new (keeps_of origin same).power lit));
    };
    epoch = λ lit. subst (KeepsEpoch s.core.status) (sym stays.status) (record { epoch = refl; stamped = λ is. is });
    later = stays.later;
    causes = causes;
    keeps = keeps_of origin same;
  }

  -- so where its origin is as it was
  call_leaves : SessionGoesOn s.core.history.run s after → (SparesDescriptors s → SparesDescriptors after) → StaysOf s.core new → ((first : List Fact) → HasCausesSince first s → HasCausesSince first after)
      → shape new ≡ shape s.core → LeavesSession s after
  call_leaves good spares stays causes same = call_leaves_but good spares stays causes (origin_same (ap (λ (x : Shape). x.0.1) same))
      (ap (λ (x : Shape). let y : Shape = ((x.0.0, s.core.origin, x.0.2), x.1, x.2, x.3) in y) same)

submit_frame : (old new : Core) (client : ℕ) (ask : Ask) (bytes : Option (List ℕ)) (answer : Result ℕ AskFault) → SubmitGives old new client ask bytes answer → frame new ≡ frame old
submit_frame old new client ask bytes answer = by (ask_fault old ask)
  where
    by : (m : Option AskFault) → MatchOption m ((answer ≡ Ok (next_id old.history)) × (new ≡ submitted old client ask bytes)) (λ (why : AskFault). (answer ≡ Err why) × (new ≡ old)) → frame new ≡ frame old
    by None it = ap frame it.1
    by (Some why) it = ap frame it.1

take_frame : (old new : Core) (client id : ℕ) (answer : Taken) → TakeGives old new client id answer → frame new ≡ frame old
take_frame old new client id answer = by (position (is_asked client id) old.requests)
  where
    landed : (place : ℕ) (o : Open) (how : Option Outcome) → TakesLanded old new place o answer how → frame new ≡ frame old
    landed place o None it = ap frame it.1
    landed place o (Some how) it = ap frame it.1

    by : (m : Option ℕ) → MatchOption m ((answer ≡ answered.Unknown) × (new ≡ old)) (λ (place : ℕ). TakeAt old new place answer) → frame new ≡ frame old
    by None it = ap frame it.1
    by (Some place) it = landed place it.0 it.0.landed it.2

open_shape : (counts : Counts) (old new : Core) (lv lp number : ℕ) (answer : Result (Unit {0}) CopyFault) → OpenGives counts old new lv lp number answer → shape new ≡ shape old
open_shape counts old new lv lp number answer = by (copy_fault old lv lp number)
  where
    by : (m : Option CopyFault) → MatchOption m ((answer ≡ Ok tt) × Opens counts old new lv lp number) (λ (why : CopyFault). (answer ≡ Err why) × (new ≡ old)) → shape new ≡ shape old
    by None it = ap shape it.1.is
    by (Some why) it = ap shape it.1

-- what the opening of a move leaves of it, but for its origin
record MoveLeaves (old new : Core) : Type 0 where
  origin : KeepsOrigin old.origin new.origin
  rest : shape (record new { origin = old.origin }) ≡ shape old

move_leaves : (counts : Counts) (old new : Core) (lv lp number : ℕ) (to : Pp) (answered : Result (Unit {0}) OpenFault) → OpenMoveGives counts old new lv lp number to answered → MoveLeaves old new
move_leaves counts old new lv lp number to answered = by (move_fault old lv lp number to)
  where
    same_left : new ≡ old → MoveLeaves old new
    same_left same = record { origin = origin_same (ap (λ (c : Core). c.origin) same); rest = ap (λ (c : Core). shape (record c { origin = old.origin })) same }

    or_so : (a b : Bool) → a ≡ true → a || b ≡ true
    or_so true b h = refl
    or_so false b h = absurd (cc h)

    by : (m : Option OpenFault) → MatchOption m (((answered ≡ Ok tt) × OpensMove counts old new lv lp number to) ⊎ ((answered ≡ Err denial.Memory) × (new ≡ old))) (λ (why : OpenFault). (answered ≡ Err why) × (new ≡ old)) → MoveLeaves old new
    by None (inl it) = record {
      origin = record { faults = it.1.called.faults; missing = it.1.called.table.missing; stale = λ p was. it.1.called.table.stale p ∙ or_so (calls_stale old.origin.table p) (is_pp p to) was };
      rest = ap (λ (c : Core). shape (record c { origin = old.origin })) it.1.is;
    }
    by None (inr it) = same_left it.1
    by (Some why) it = same_left it.1

-- ---- an order to the shelf

module _ (old new : State) (what : Arrange) (done : Bool) (it : ArrangesSession old new what done) where
  order_counts : NoneFalls old.device.counts new.device.counts
  order_counts = by done it.device
    where
      by : (b : Bool) → ArrangeGives old.device new.device what b → NoneFalls old.device.counts new.device.counts
      by true made = step_counts old.device new.device (Arranged what made.1)
      by false made = subst (λ (d : Device). NoneFalls old.device.counts d.counts) (sym made.1) (none_falls_at_once old.device.counts)

  -- where it puts the power off it cuts it
  order_cuts : GoesOffByCut old.device new.device
  order_cuts = by done it.device
    where
      made_cuts : (w : Arrange) → OrderMakes old.device new.device w → GoesOffByCut old.device new.device
      made_cuts (arrange.Fail disk) is = keeps_power old.device new.device (ap (λ (d : Device). d.power) is)
      made_cuts (arrange.Heal disk) is = keeps_power old.device new.device (ap (λ (d : Device). d.power) is)
      made_cuts (arrange.Cut word) (off, inl was) = λ lit went. absurd (let e : true ≡ false = sym lit ∙ was.0 in cc e)
      made_cuts (arrange.Cut word) (off, inr cuts) = λ lit went. cuts.cuts

      by : (b : Bool) → ArrangeGives old.device new.device what b → GoesOffByCut old.device new.device
      by true made = made_cuts what made.1
      by false made = keeps_power old.device new.device (ap (λ (d : Device). d.power) made.1)

  order_sizes : new.device.sizes ≡ old.device.sizes
  order_sizes = by done it.device
    where
      by : (b : Bool) → ArrangeGives old.device new.device what b → new.device.sizes ≡ old.device.sizes
      by true made = (step_same old.device new.device (Arranged what made.1)).sizes
      by false made = ap (λ (d : Device). d.sizes) made.1

  order_descriptors : LeavesDescriptors old.device → LeavesDescriptors new.device × MayFindNoMore old.device new.device
  order_descriptors = by done it.device
    where
      -- what is out was out
      still : (w : Arrange) → OrderMakes old.device new.device w → (d s : ℕ) (value : List ℕ) → IsInFlight new.device.flights d s value → IsInFlight old.device.flights d s value
      still (arrange.Fail disk) is d s value flies = subst (λ (x : Device). IsInFlight x.flights d s value) is flies
      still (arrange.Heal disk) is d s value flies = subst (λ (x : Device). IsInFlight x.flights d s value) is flies
      still (arrange.Cut word) (off, inl same) d s value flies = subst (λ (x : Device). IsInFlight x.flights d s value) same.1 flies
      still (arrange.Cut word) (off, inr cuts) d s value flies = absurd (subst (λ (x : Device). IsInFlight x.flights d s value) cuts.new_is flies)

      by : (b : Bool) → ArrangeGives old.device new.device what b → LeavesDescriptors old.device → LeavesDescriptors new.device × MayFindNoMore old.device new.device
      by true made = fewer_leaves old.device new.device (still what made.1) (arrange_leaves old.device new.device what made.1)
      by false made = fewer_leaves old.device new.device (λ d s value flies. subst (λ (x : Device). IsInFlight x.flights d s value) made.1 flies) (λ image may. subst (λ (x : Device). MayLeave x image) made.1 may)

  -- what an order leaves of the session
  record OrderLeaves : Type 0 where
    given_is : given new.core ≡ given old.core
    most : new.core.most ≡ old.core.most
    long : length new.core.pool ≡ length old.core.pool
    power : GoesOnOrEnds old.core new.core

  order_core : OrderLeaves
  order_core = by (done && is_cut what) it.is
    where
      by : (b : Bool) → new.core ≡ (if b then all_dark old.core else old.core) → OrderLeaves
      by true is = record {
        given_is = ap given is ∙ dark_given old.core;
        most = ap (λ (c : Core). c.most) is;
        long = ap (λ (c : Core). length c.pool) is ∙ hands_long old.core.requests (with_back old.core.pool (hand_of_copy old.core.copy)) ∙ back_long old.core.pool (hand_of_copy old.core.copy);
        power = inr (inl (ap (λ (c : Core). c.power) is));
      }
      by false is = record { given_is = ap given is; most = ap (λ (c : Core). c.most) is; long = ap (λ (c : Core). length c.pool) is; power = inl (ap (λ (c : Core). c.power) is) }

  stays : StaysOf old.core new.core
  stays = calls_stay.arrange old new what done it

  order_leaves : (old.core.power ≡ power.Stuck → ⊥) → IsSound old → IsSound new → LeavesSession old new
  order_leaves unstuck was_sound sound = record {
    good = arrange_goes_on old.core.history.run old new what done unstuck was_sound sound it;
    descriptors = λ outside.
        let both = order_descriptors outside in
        record { leaves = both.0; spares = calls_spare_descriptors.arrange old new what done outside it; finds = both.1 };
    before = λ moment was. record {
      leaves = arrange_leaves_before (beginning_at moment) old new what done it was.leaves;
      session = λ lit. subst (λ (status : Stored). IsStamped status × (status.stamp.epoch < moment)) (sym stays.status) (was.session (was_lit old.core new.core order_core.power lit));
    };
    epoch = λ lit. subst (KeepsEpoch old.core.status) (sym stays.status) (record { epoch = refl; stamped = λ is. is });
    later = stays.later;
    causes = λ first has. calls_keep_causes.arrange first old new what done it has;
    keeps = record {
      sizes = order_sizes;
      counts = order_counts;
      cut = order_cuts;
      log = ap (λ (g : Given). g.2) order_core.given_is;
      room = record { most = order_core.most; long = order_core.long };
      descriptor = ap (λ (g : Given). g.0) order_core.given_is;
      origin = origin_same (ap (λ (g : Given). g.1) order_core.given_is);
      power = order_core.power;
    };
  }

-- ---- all of them

pub calls_run_on : CallsRunOn
calls_run_on = record {
  submit = λ s new client ask bytes answer unstuck sound asks gives. record {
    leaves = call_leaves s new (submit_goes_on s.core.history.run s new client ask bytes answer unstuck sound asks gives) (calls_spare_descriptors.submit client ask bytes answer s new gives)
        (calls_stay.submit client ask bytes answer s.core new gives) (λ first has. calls_keep_causes.submit client ask bytes answer first s new gives has)
        (ap (λ (f : Frame). f.0) (submit_frame s.core new client ask bytes answer gives));
    origin = ap (λ (f : Frame). f.0.0.1) (submit_frame s.core new client ask bytes answer gives);
    orders = refl;
    copy = frame_none s.core new (submit_frame s.core new client ask bytes answer gives);
  };
  take = λ s new client id answer was_sound sound gives. record {
    leaves = call_leaves s new (answer_goes_on s new client id answer was_sound sound gives) (calls_spare_descriptors.take client id answer s new gives)
        (calls_stay.take client id answer s.core new gives) (λ first has. calls_keep_causes.take client id answer first s new gives has)
        (ap (λ (f : Frame). f.0) (take_frame s.core new client id answer gives));
    origin = ap (λ (f : Frame). f.0.0.1) (take_frame s.core new client id answer gives);
    orders = refl;
    copy = frame_none s.core new (take_frame s.core new client id answer gives);
  };
  close_copy = λ s new sound closes. record {
    leaves = call_leaves s new (close_goes_on s.core.history.run s new sound closes) (calls_spare_descriptors.close_copy s new closes)
        (calls_stay.close_copy s.core new closes) (λ first has. calls_keep_causes.close_copy first s new closes has) (ap shape closes.is);
    origin = ap (λ (c : Core). c.origin) closes.is;
    orders = refl;
    copy = λ none. ap (λ (c : Core). c.copy) closes.is;
  };
  open_copy = λ s new counts lv lp number answer sound gives.
      call_leaves s new (open_goes_on s.core.history.run s new counts lv lp number answer sound gives) (calls_spare_descriptors.open_copy counts lv lp number answer s new gives)
      (calls_stay.open_copy counts lv lp number answer s.core new gives) (λ first has. calls_keep_causes.open_copy counts lv lp number answer first s new gives has)
      (open_shape counts s.core new lv lp number answer gives);
  open_move = λ s new counts lv lp number to answer sound gives.
      let left = move_leaves counts s.core new lv lp number to answer gives in
      call_leaves_but s new (open_move_goes_on s.core.history.run s new counts lv lp number to answer sound gives) (calls_spare_descriptors.open_move counts lv lp number to answer s new gives)
      (calls_stay.open_move counts lv lp number to answer s.core new gives) (λ first has. calls_keep_causes.open_move counts lv lp number to answer first s new gives has) left.origin left.rest;
  arrange = λ old new what done unstuck was_sound sound it. order_leaves old new what done it unstuck was_sound sound;
}
