-- A group that is varied off once marks that aren't needed have gone.
use Rattle.std.proofs.Common.{◌≡◌, inl, inr, ◌≤◌, ◌<◌, ◌^◌, [], ℕ, Bool, List, true, false, Ok, Err, Result, refl, sym, ◌∙◌, ap, subst, arith}
use Rattle.std.specs.Prelude.{IsTrue, IsFalse}
use Rattle.lvm_disk.specs.Device.{Device, IsReady}
use Rattle.lvm_disk.proofs.PathsLemmas.{last-path}
use Rattle.lvm_vol.specs.Facts.{Fact}
use Rattle.lvm_vol.specs.Log.{Log}
use Rattle.lvm_core.specs.declared.fault.CommitFault.{CommitFault}
use Rattle.lvm_core.specs.declared.fault.CommitFault.TheVariants as commit
use Rattle.lvm_core.specs.Committing.{HasStated, MarkEnds}
use Rattle.lvm_core.specs.Settled.{IsSettled}
use Rattle.lvm_core.specs.Sound.{HaveAllLanded}
use Rattle.lvm_core.specs.State.{state_of}
use Rattle.lvm_session.specs.State.{Core, State}
use Rattle.lvm_volumes.specs.Tidying.{TidyGives, to_tidy}
use Rattle.lvm_volumes.specs.Stages.{CommandBroke}
use Rattle.lvm_volumes.proofs.StagesLemmas.Breaking.{broken}
use Rattle.lvm_range_lines.proofs.passed.TieCommands.{tidy_goes_on}
use Rattle.lvm_range_lines.specs.passed.GroupLines.{VaryoffDoes as ClosesDoes, NoVaryoff as NoneToClose, BusyVaryoff as BusyToClose, VariesOff as Closes, Aside, CommandEnds, EndsUnasked, patience_of_line, LineGoesOn, HaveRooms, IsBetweenStage, IsFittingStage, IsOn, OfGroup, history_in, most_refusals, open_in, session_in, shelf_in, state_in, ScriptState, without_facts, Reply, Stage}
use Rattle.lvm_range_lines.specs.passed.Posts.{AreAnswered}
use Rattle.lvm_range_lines.specs.passed.VolumePlan.{ends_session, fault_of, is_over}
use Rattle.lvm_range_lines.specs.passed.VolumePlanFaultGroupFault as fault
use Rattle.lvm_range_lines.specs.passed.ReplyVariants as reply
use Rattle.lvm_range_lines.proofs.passed.GroupLines.{Bears, LeavesAnswers, answered_bears, bears_cut, landed_bears}
use Rattle.lvm_range_lines.proofs.passed.Tie.{goes_any, path_frames, path_shape}
use Rattle.lvm_volume_lines.specs.Closing.{BusyVaryoff, IsTidiedOff, NoVaryoff, TidiesOff, VariesOff, VaryoffDoes, VaryoffFails, is_dirty_on, tidy_reply}
use Rattle.lvm_volume_lines.specs.Commands.{HasRested}
use Rattle.lvm_volume_lines.specs.Volumes.{IsDone, IsLeftEither}
use Rattle.lvm_volume_lines.proofs.Commanding.{ClosesWell, Promised, closes_lit, goes_off, promised_by, ready_mid}
use Rattle.lvm_volume_lines.proofs.Ending.{FaultFacts, closes_after}
use Rattle.lvm_volume_lines.proofs.Carrying.{at_mid, drains, its_history}

-- ---- a line that acts on nothing

-- what it keeps it keeps as one of a group
beside : (run : ℕ) (answer : Reply) (old new : ScriptState) → LineGoesOn run Aside answer old new → LineGoesOn run OfGroup answer old new
beside run answer old new goes = record {
  keeps = λ timely alone. goes.keeps timely (record { enters = alone.enters; acts = λ none. absurd none });
  timely = goes.timely;
  left = goes.left;
  between = goes.between;
  rests = λ others. goes.rests (λ none. none);
  begins = goes.begins;
  power = goes.power;
  waits = goes.waits;
  clock = goes.clock;
  few = goes.few;
}

-- a session that isn't dirty is closed as it is
pub closes_clean : {S : Type 0} (device : S → Device) (stage it : Stage S) (name : List ℕ) (answer : Reply) → IsFalse (is_dirty_on (session_in stage)) → EndsUnasked device (λ log. ClosesDoes name) ⊥ Aside stage it answer
    → EndsUnasked device (λ log. VaryoffDoes name) ⊥ OfGroup stage it answer
closes_clean device stage it name answer clean ends = λ last.
    let e = ends last in
    record {
      does = by last e.does;
      goes = beside (history_in stage).run answer (state_in device stage last) (state_in device it last) e.goes;
      rooms = e.rooms;
      fits = e.fits;
      orders = e.orders;
    }
  where
    by : (last : ℕ) → ClosesDoes name (state_in device stage last) (state_in device it last) answer → VaryoffDoes name (state_in device stage last) (state_in device it last) answer
    by last (NoneToClose none is) = NoVaryoff none is
    by last (BusyToClose on busy is) = BusyVaryoff on busy is
    by last (Closes core some on none ends is) = VariesOff core some on none clean ends is

-- ---- what is known once marks were to go

module _ (patience : ℕ) (old new : State) where
  pub tidied_ready : IsReady old.device → TidyGives patience old new (Ok tt) → IsReady new.device
  tidied_ready ready (inl none) = subst (λ (s : State). IsReady s.device) (sym none.2) ready
  tidied_ready ready (inr it) = it.ends.ready

  -- the status was tried
  was_tried : (why : CommitFault) → TidyGives patience old new (Err why) → MarkEnds patience old new (Err why)
  was_tried why (inl none) = absurd (let e = none.1 in cc (e))
  was_tried why (inr it) = it.ends

  failed : (why : CommitFault) → MarkEnds patience old new (Err why) → FaultFacts (fault_of why) patience old new
  failed commit.Dark ends = (ends.cut.flights, ends.cut.cuts)
  failed (commit.WentOff have total) ends = (ends.lost, ends.ready)
  failed commit.Stuck ends = ends.out
  failed (commit.DiskFailed disk) ends = absurd ends

  over : (why : CommitFault) → MarkEnds patience old new (Err why) → is_over {A = Unit {0}} (Err (fault_of why)) ≡ true
  over commit.Dark ends = refl
  over (commit.WentOff have total) ends = refl
  over commit.Stuck ends = refl
  over (commit.DiskFailed disk) ends = absurd ends

  -- so it is known why the session is over
  pub tidy_failed : (why : CommitFault) → TidyGives patience old new (Err why) → FaultFacts (fault_of why) patience old new × ((was is : ScriptState) → IsLeftEither true new was is → IsLeftEither (ends_session (fault_of why)) new was is)
  tidy_failed why gives = let ends = was_tried why gives in (failed why ends, λ was is left. subst (λ (b : Bool). IsLeftEither b new was is) (sym (over why ends)) left)

  pub closes_dark_still : (why : CommitFault) → IsReady old.device → TidyGives patience old new (Err why) → fault_of why ≡ fault.Dark → new.device.flights ≡ []
  closes_dark_still why ready gives dark = by why (was_tried why gives) dark
    where
      by : (w : CommitFault) → MarkEnds patience old new (Err w) → fault_of w ≡ fault.Dark → new.device.flights ≡ []
      by commit.Dark ends is = ends.cut.flights
      by (commit.WentOff have total) ends is = absurd (cc (is))
      by commit.Stuck ends is = absurd (cc (is))
      by (commit.DiskFailed disk) ends is = absurd ends

  pub closes_lit_still : (why : CommitFault) → IsReady old.device → TidyGives patience old new (Err why) → (fault_of why ≡ fault.Dark → ⊥) → (new.device.power ≡ true) × (new.device.freed ≡ [])
  closes_lit_still why ready gives other = by why (was_tried why gives) other
    where
      by : (w : CommitFault) → MarkEnds patience old new (Err w) → (fault_of w ≡ fault.Dark → ⊥) → (new.device.power ≡ true) × (new.device.freed ≡ [])
      by commit.Dark ends lit = absurd (lit refl)
      by (commit.WentOff have total) ends lit = (ends.ready.power, ends.ready.freed)
      by commit.Stuck ends lit = (ends.out.power, ends.out.freed)
      by (commit.DiskFailed disk) ends lit = absurd ends

  -- nothing is entered but a cut
  module _ (P : List Fact → Type 0) (bears : Bears P) (settled : IsSettled old.core) (holds : P old.core.history.facts) where
    broke_bears : (why : CommitFault) → CommandBroke old.core.history patience old new why → P new.core.history.facts
    broke_bears commit.Dark off = subst (λ (l : Log). P l.facts) (sym off.history) (bears_cut P bears old.core.history holds)
    broke_bears (commit.WentOff have total) off = subst (λ (l : Log). P l.facts) (sym off.history) holds
    broke_bears commit.Stuck off = subst (λ (l : Log). P l.facts) (sym off.history) holds
    broke_bears (commit.DiskFailed disk) off = absurd off

    pub tidy_bears : (given : Result (Unit {0}) CommitFault) → TidyGives patience old new given → P new.core.history.facts
    tidy_bears given (inl none) = subst (λ (s : State). P s.core.history.facts) (sym none.2) holds
    tidy_bears (Ok done) (inr it) = subst (λ (c : Core). P c.history.facts) (sym it.ends.is) holds
    tidy_bears (Err why) (inr it) = broke_bears why (broken (HasStated old.core.descriptor old new) patience old new settled why it.ends)

few_so : (given : Result (Unit {0}) CommitFault) → most_refusals (tidy_reply given) ≤ 1
few_so (Ok done) = omega arith
few_so (Err why) = omega arith

-- ---- the line, from the session that has come to rest

module _ {S : Type 0} (device : S → Device) (stage : Stage S) (fits : IsFittingStage stage) (between : IsBetweenStage device stage) (none : open_in (session_in stage) ≡ 0) (patience : ℕ) (driver : S × Core)
    (rested : HasRested device stage.holder patience_of_line patience driver) (it : Stage S) (answer : Reply) (done : IsTidiedOff device patience driver stage.posts stage.bytes it answer) where
  abbrev core : Core
  core = rested.turned.core

  abbrev mid : State
  mid = state_of device driver

  abbrev left : State
  left = state_of device done.left

  ready : IsReady mid.device
  ready = ready_mid (state_in device stage 0) core mid (at_mid device stage fits between none patience driver rested 0)

  promised : Promised mid left
  promised = promised_by (to_tidy driver.1) patience done.after mid left done.leaves

  landed : HaveAllLanded left.core.history.facts
  landed = tidy_bears patience mid left HaveAllLanded landed_bears rested.settled rested.between.landed done.given done.gives

  answers : LeavesAnswers mid.core.history.facts left.core.history.facts
  answers range was = tidy_bears patience mid left (λ facts. AreAnswered facts range) (answered_bears range) rested.settled was done.given done.gives

  closed : ClosesWell (tidy_reply done.given) left.device (device (shelf_in it))
  closed = by done.given done.gives
    where
      by : (given : Result (Unit {0}) CommitFault) → TidyGives patience mid left given → ClosesWell (tidy_reply given) left.device (device (shelf_in it))
      by (Ok _) gives = let now = tidied_ready patience mid left ready gives in closes_lit reply.Ok left.device (device (shelf_in it)) now.power now.freed (λ heard. now) done.is.lit
      by (Err why) gives =
          let ends = was_tried patience mid left why gives in
          closes_after {X = Unit {0}} patience mid left (Err (fault_of why)) (device (shelf_in it)) (failed patience mid left why ends) (over patience mid left why ends) done.is.lit

  history_is : history_in stage ≡ core.history
  history_is = its_history device stage fits between none core rested.turned.its

  rooms : without_facts (history_in it) ≡ without_facts (history_in stage)
  rooms = ap without_facts done.is.history ∙ promised.history.room ∙ (path_shape (goes_any rested.turned.runs)).log ∙ sym (ap without_facts history_is)

  orders : (device (shelf_in it)).orders ≡ (device (shelf_in stage)).orders
  orders = closed.orders ∙ promised.orders ∙ (path_frames rested.turned.runs).orders

  fits_then : IsFittingStage it
  fits_then = record {
    kind = done.is.kind;
    few = subst (λ (l : Log). l.room < 2 ^ 32) (sym rooms) fits.few;
    rooms = subst (λ (l : Log). HaveRooms l.room it.posts it.bytes) (sym rooms) (done.is.rooms (history_in stage).room fits.rooms);
  }

  is_done : (last : ℕ) → IsDone (λ was is. TidyGives patience was is done.given) to_tidy true mid (state_in device stage last) (state_in device it last)
  is_done last = record {
    left = left;
    gives = done.gives;
    leaves = record { lit = done.is.lit; facts = ap (λ (l : Log). l.facts) done.is.history; session = done.is.session; posts = done.is.posted };
    finds = λ was id k may. done.leaves.finds was id k (may.0, last-path closed.path may.0 may.1, may.2);
    status = done.leaves.status;
    writes = done.leaves.writes;
    held = λ goes. absurd (let e : true ≡ false = goes in cc (e));
    rests = λ goes. absurd (let e : true ≡ false = goes in cc (e));
    clock = refl;
  }

  goes : (last : ℕ) → LineGoesOn core.history.run OfGroup (tidy_reply done.given) (state_in device stage last) (state_in device it last)
  goes last = goes_off OfGroup (λ old new alone. alone.acts tt) (state_in device stage last) core mid left (at_mid device stage fits between none patience driver rested last) promised answers (tidy_reply done.given) (state_in device it last)
      (ap (λ (l : Log). l.facts) done.is.history) refl (few_so done.given) (λ m may alone. tidy_goes_on core.history.run m patience done.after mid left may rested.settled done.leaves) closed done.is.session landed done.is.posted

  pub varyoff_ends : (name : List ℕ) → IsOn name core → IsTrue (is_dirty_on (session_in stage)) → EndsUnasked device (λ log. VaryoffDoes name) ⊥ OfGroup stage it answer
  varyoff_ends name on dirty = λ last. subst (λ (a : Reply). CommandEnds device (λ log. VaryoffDoes name) ⊥ OfGroup stage it a last last) (sym done.says) (record {
    does = does last done.given (is_done last);
    goes = subst (λ (n : ℕ). LineGoesOn n OfGroup (tidy_reply done.given) (state_in device stage last) (state_in device it last)) (sym (ap (λ (l : Log). l.run) history_is)) (goes last);
    rooms = rooms;
    fits = fits_then;
    orders = λ nothing. orders;
  })
    where
      does : (last : ℕ) (given : Result (Unit {0}) CommitFault) → IsDone (λ was is. TidyGives patience was is given) to_tidy true mid (state_in device stage last) (state_in device it last)
          → VaryoffDoes name (state_in device stage last) (state_in device it last) (tidy_reply given)
      does last (Ok _) ends = TidiesOff core patience mid rested.turned.its on dirty (drains device stage fits between none patience driver rested last) ends refl
      does last (Err why) ends = VaryoffFails core patience mid why rested.turned.its on dirty (drains device stage fits between none patience driver rested last) ends refl
