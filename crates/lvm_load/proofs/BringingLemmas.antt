-- What is done behind the workers of a load for the copies of their volume.
use Rattle.std.proofs.Common.{◌≡◌, ◌⊎◌, inl, inr, ℕ, Bool, true, false, List, Option, Some, None, Result, Ok, Err, sym, ap, subst}
use Rattle.lvm_vol.specs.Facts.{Fact}
use Rattle.lvm_session.specs.declared.answers.CopyFault.{CopyFault}
use Rattle.lvm_session.specs.declared.answers.CopyState.{CopyState}
use Rattle.lvm_session.specs.declared.answers.Turned.{Turned}
use Rattle.lvm_session.specs.declared.answers.Turned.TheVariants as turned
use Rattle.lvm_session.specs.State.{Core, State}
use Rattle.lvm_driver.specs.Drains.{LastTurn, NoTurn, ThenMoves, ThenWaits, TurnsWhile}
use Rattle.lvm_ranges.specs.declared.copies.Passed.{Passed}
use Rattle.lvm_ranges.specs.declared.copies.Passed.TheVariants as passed
use Rattle.lvm_ranges.specs.declared.fault.SyncFault.{SyncFault}
use Rattle.lvm_ranges.specs.declared.fault.SyncFault.TheVariants as fault
use Rattle.lvm_ranges.specs.declared.tally.Tally.{Tally}
use Rattle.lvm_ranges.specs.Passing.{BreaksOff, Copy, EachTurnWhile, EndsTurning, FailedFor, IsBroken, IsBroughtUp, HasEndedFor, IsOpened, IsNotOpened, IsUnsettled, PassesCopy, RefusedFor, Runs}
use Rattle.lvm_ranges.specs.Syncing.{NonePassed, OnePassed, PassesCopies, SyncGives, no_tally}
use Rattle.lvm_load.specs.declared.serve.Synced.{Synced}
use Rattle.lvm_load.specs.Bringing.{ClosesEnded, EndsBehind, IsClosed, SettlesUnless, StillRuns, is_unheard}
use Rattle.lvm_load.proofs.FactsLemmas.{Gains, gains_none, gains_then, turn_gains}
use Rattle.lvm_load.proofs.PathsLemmas.{path_gains}

-- ---- no request begins while copies are brought up

abbrev GainsNone : State → State → Type 0
GainsNone old new = Gains 0 old.core.history.facts new.core.history.facts

none_then : (old mid new : State) → GainsNone old mid → GainsNone mid new → GainsNone old new
none_then old mid new one two = gains_then 0 0 old.core.history.facts mid.core.history.facts new.core.history.facts one two

none_same : (old new : State) → new.core.history.facts ≡ old.core.history.facts → GainsNone old new
none_same old new same = subst (λ (l : List Fact). Gains 0 old.core.history.facts l) (sym same) (gains_none old.core.history.facts)

turns_gain : (May : State → Type 0) {patience : ℕ} {first : State} {left : ℕ} {now : State} → TurnsWhile May patience first left now → GainsNone first now
turns_gain May {patience} {first} NoTurn = gains_none first.core.history.facts
turns_gain May {patience} {first} (ThenMoves {left} {old} {new} rest may some makes) = none_then first old new (turns_gain May rest) (turn_gains old new turned.Moved makes)
turns_gain May {patience} {first} (ThenWaits {left} {less} {old} {new} rest may is makes finds) = none_then first old new (turns_gain May rest) (turn_gains old new turned.Idle makes)

last_gains : (May : State → Type 0) (patience left : ℕ) (first now : State) (answer : Turned) → LastTurn May patience left first now answer → GainsNone first now
last_gains May patience left first now answer it = none_then first it.old now (turns_gain May it.turns) (turn_gains it.old now answer it.makes)

module _ (Is : Core → Type 0) (patience left : ℕ) (old new : State) where
  each_gains : EachTurnWhile Is patience left old new → GainsNone old new
  each_gains turns = turns_gain (λ (s : State). Is s.core) turns

  ends_gain : (why : SyncFault) → EndsTurning Is patience left old new why → GainsNone old new
  ends_gain fault.Dark (inl each) = each_gains each
  ends_gain fault.Dark (inr last) = last_gains (λ (s : State). Is s.core) patience left old new turned.Dark last
  ends_gain fault.Off (inl each) = each_gains each
  ends_gain fault.Off (inr last) = last_gains (λ (s : State). Is s.core) patience left old new turned.Off last
  ends_gain fault.Stuck ends = each_gains ends.0
  ends_gain fault.Busy ends = each_gains ends.0
  ends_gain fault.NoVolume ends = each_gains ends.0
  ends_gain fault.OutOfRange ends = each_gains ends.0
  ends_gain fault.HistoryFull ends = each_gains ends.0
  ends_gain (fault.SyncFailed disk) ends = each_gains ends.0
  ends_gain (fault.NoFresh lp) ends = each_gains ends.0
  ends_gain (fault.Missing disk) ends = each_gains ends.0

module _ (c : Copy) (patience left : ℕ) (old new : State) where
  opened_gains : IsOpened c patience left old new → GainsNone old new
  opened_gains it =
      none_then old it.judged new (each_gains (IsUnsettled c) patience left old it.judged it.settles)
      (none_same it.judged new (ap (λ (k : Core). k.history.facts) it.opens.is))

  refused_gains : (why : CopyFault) → IsNotOpened c patience left old new why → GainsNone old new
  refused_gains why it = each_gains (IsUnsettled c) patience left old new it.settles

  refused_for_gains : (why : SyncFault) → RefusedFor c patience left old new why → GainsNone old new
  refused_for_gains (fault.NoFresh lp) it = refused_gains _ it.1
  refused_for_gains (fault.Missing disk) it = refused_gains _ it
  refused_for_gains fault.Dark it = absurd it
  refused_for_gains fault.Off it = absurd it
  refused_for_gains fault.Stuck it = absurd it
  refused_for_gains fault.Busy it = absurd it
  refused_for_gains fault.NoVolume it = absurd it
  refused_for_gains fault.OutOfRange it = absurd it
  refused_for_gains fault.HistoryFull it = absurd it
  refused_for_gains (fault.SyncFailed disk) it = absurd it

ended_gains : (patience left : ℕ) (old new : State) (how : CopyState) → HasEndedFor patience left old new how → GainsNone old new
ended_gains patience left old new how it = none_then old it.ended new (each_gains Runs patience left old it.ended it.turns) (none_same it.ended new (ap (λ (s : State). s.core.history.facts) it.is))

module _ (c : Copy) (patience left : ℕ) (old new : State) where
  brought_gains : (how : CopyState) → IsBroughtUp c patience left old new how → GainsNone old new
  brought_gains how it = none_then old it.opened new (opened_gains c patience it.before old it.opened it.opens) (ended_gains it.before left it.opened new how it.ends)

  failed_gains : (why : SyncFault) → FailedFor c patience left old new why → GainsNone old new
  failed_gains (fault.SyncFailed disk) it = brought_gains _ it
  failed_gains (fault.NoFresh lp) it = brought_gains _ it.1
  failed_gains fault.Dark it = absurd it
  failed_gains fault.Off it = absurd it
  failed_gains fault.Stuck it = absurd it
  failed_gains fault.Busy it = absurd it
  failed_gains fault.NoVolume it = absurd it
  failed_gains fault.OutOfRange it = absurd it
  failed_gains fault.HistoryFull it = absurd it
  failed_gains (fault.Missing disk) it = absurd it

  passed_gains : (how : Passed) → PassesCopy c patience left old new how → GainsNone old new
  passed_gains passed.Fresh it = each_gains (IsUnsettled c) patience left old new it.settles
  passed_gains passed.Made it = brought_gains _ it.brings
  passed_gains (passed.Failed why) (inl it) = refused_for_gains c patience left old new why it
  passed_gains (passed.Failed why) (inr it) = failed_gains why it

  broken_gains : (why : SyncFault) → IsBroken c patience left old new why → GainsNone old new
  broken_gains why it = none_then old it.opened new (opened_gains c patience it.before old it.opened it.opens) (ends_gain Runs it.before left it.opened new why it.turns)

  either_gains : (why : SyncFault) → EndsTurning (IsUnsettled c) patience left old new why ⊎ IsBroken c patience left old new why → GainsNone old new
  either_gains why (inl it) = ends_gain (IsUnsettled c) patience left old new why it
  either_gains why (inr it) = broken_gains why it

  breaks_gain : (why : SyncFault) → BreaksOff c patience left old new why → GainsNone old new
  breaks_gain fault.HistoryFull it = refused_gains c patience left old new _ it
  breaks_gain fault.Dark it = either_gains _ it
  breaks_gain fault.Off it = either_gains _ it
  breaks_gain fault.Stuck it = either_gains _ it
  breaks_gain fault.Busy it = either_gains _ it
  breaks_gain fault.NoVolume it = either_gains _ it
  breaks_gain fault.OutOfRange it = either_gains _ it
  breaks_gain (fault.SyncFailed disk) it = either_gains _ it
  breaks_gain (fault.NoFresh lp) it = either_gains _ it
  breaks_gain (fault.Missing disk) it = either_gains _ it

passes_gain : (first : State) (from : Tally) (patience : ℕ) (copies : List Copy) (now : State) (tally : Tally) (left : ℕ) → PassesCopies first from patience copies now tally left → GainsNone first now
passes_gain first from patience all now total last NonePassed = gains_none first.core.history.facts
passes_gain first from patience all now total last (OnePassed {copies} {old} {new} {tally} {before} {left} c how rest it) =
    none_then first old new (passes_gain first from patience copies old tally before rest) (passed_gains c before left old new how it)

sync_gains : (refused : Option SyncFault) (copies : List Copy) (patience left : ℕ) (old new : State) (answer : Result ℕ SyncFault) → SyncGives refused copies patience left old new answer → GainsNone old new
sync_gains (Some why) copies patience left old new answer gives = none_same old new (ap (λ (s : State). s.core.history.facts) gives.1)
sync_gains None copies patience left old new (Ok made) ends = passes_gain old no_tally patience copies new _ left ends.0.passes
sync_gains None copies patience left old new (Err why) (inl syncs) = passes_gain old no_tally patience copies new _ left syncs.1.passes
sync_gains None copies patience left old new (Err why) (inr stops) =
    none_then old stops.mid new (passes_gain old no_tally patience stops.passed stops.mid stops.tally stops.before stops.passes) (breaks_gain stops.one stops.before left stops.mid new why stops.stops.1)

-- ---- nor behind the workers

closes_gain : (old new : State) → ClosesEnded old new → GainsNone old new
closes_gain old new (StillRuns cursor runs same) = none_same old new (ap (λ (s : State). s.core.history.facts) same)
closes_gain old new (IsClosed not is) = none_same old new (ap (λ (s : State). s.core.history.facts) is)

settles_gain : (unless : Bool) (old new : State) (waits : Bool) → SettlesUnless unless old new waits → GainsNone old new
settles_gain true old new waits it = none_same old new (ap (λ (s : State). s.core.history.facts) it.0)
settles_gain false old new waits it = path_gains old new it.turns

pub behind_gains : (sync : Bool) (lv : ℕ) (old : State) (waiting : Bool) (new : State) (synced : Option Synced) (waits : Bool) → EndsBehind sync lv old waiting new synced waits → GainsNone old new
behind_gains sync lv old waiting new None waits it = none_same old new (ap (λ (s : State). s.core.history.facts) it.1)
behind_gains sync lv old waiting new (Some synced) waits it =
    let syncs = it.1 in
    none_then old syncs.shut new (closes_gain old syncs.shut syncs.closes)
    (none_then syncs.shut syncs.behind new (sync_gains _ _ _ _ syncs.shut syncs.behind synced.result syncs.syncs.gives) (settles_gain (is_unheard synced.result) syncs.behind new waits syncs.settles))
