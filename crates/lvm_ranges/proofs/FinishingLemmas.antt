-- Why a range that was asked for, and waited for, ended otherwise than well.
use Rattle.std.proofs.Common.{◌≡◌, ◌⊎◌, inl, inr, ◌≤◌, ◌<◌, ◌+◌, ◌-◌, ◌*◌, ◌/◌, ◌||◌, ◌&&◌, ◌==◌, not, ℕ, zero, suc, Bool, true, false, List, [], ◌∷◌, Option, Some, None, Result, Ok, Err, position, if◌then◌else◌, refl, sym, ◌∙◌, ap, subst, arith}
use Rattle.std.specs.Prelude.{IfSome, MatchOption, is_some, nat_lt, slice_index_or}
use Rattle.std.specs.List.{list_any, AllByRecursion}
use Rattle.std.proofs.lemmas.Bool.{eqb-true, ltb-false}
use Rattle.lvm_num.specs.declared.descriptor.Descriptor.{Descriptor}
use Rattle.lvm_num.specs.declared.place.Pp.{Pp}
use Rattle.lvm_num.specs.Geometry.{partition_of}
use Rattle.lvm_num.specs.Status.{calls_missing, calls_stale}
use Rattle.lvm_num.specs.Votes.{is_enough_to_write, total_votes}
use Rattle.lvm_num.proofs.MarksLemmas.Maps.{find-Some}
use Rattle.lvm_num.proofs.Booleans.{not_so}
use Rattle.lvm_num.proofs.Lists.{all_weaker, all_push}
use Rattle.lvm_disk.specs.Counts.{NoneFalls, Rose}
use Rattle.lvm_disk.specs.Device.{Device}
use Rattle.lvm_disk.specs.Paths.{Here, Path, Then}
use Rattle.lvm_disk.proofs.CountingLemmas.{none_falls_at_once, none_falls_on, rose_before}
use Rattle.lvm_vol.specs.declared.entry.Outcome.{Outcome}
use Rattle.lvm_vol.specs.declared.entry.Outcome.TheVariants as outcome
use Rattle.lvm_vol.specs.Log.{next_id}
use Rattle.lvm_path.specs.declared.ask.Ask.{Ask}
use Rattle.lvm_path.specs.declared.target.Target.{Target}
use Rattle.lvm_path.specs.Asks.{at_of, lv_of}
use Rattle.lvm_path.specs.Targets.{is_failed}
use Rattle.lvm_session.specs.declared.answers.Taken.{Taken}
use Rattle.lvm_session.specs.declared.answers.Taken.TheVariants as answered
use Rattle.lvm_session.specs.declared.open.Open.{Open}
use Rattle.lvm_session.specs.declared.open.Power.TheVariants as power
use Rattle.lvm_session.specs.Calls.{TakeAt, TakeGives, TakesLanded, is_asked}
use Rattle.lvm_session.specs.declared.origin.Origin.{Origin}
use Rattle.lvm_session.specs.Causes.{AnyFailedSince, AreCounted, TargetHasFailed, IsCounted, IsLandedFor, faults_at_first, is_over, was_usable}
use Rattle.lvm_session.specs.Enabled.{is_lost}
use Rattle.lvm_session.specs.Judging.{copies_for, copies_in}
use Rattle.lvm_session.specs.Sound.{IsAsked, IsSound, IsTold}
use Rattle.lvm_session.specs.State.{Core, State, state, votes_there}
use Rattle.lvm_keeps.proofs.Lists.{all_removed}
use Rattle.lvm_keeps.proofs.KeepsLemmas.Losing.{loss_is_caused}
use Rattle.lvm_keeps.proofs.Small.{both, is_false}
use Rattle.lvm_driver.proofs.passed.KeepsEvents.{turn_counts}
use Rattle.lvm_driver.proofs.passed.Going.{Given, turn_goes}
use Rattle.lvm_keeps_events.specs.Losing.{LosesVotesByFaults, LostForFaults}
use Rattle.lvm_driver.specs.Drains.{IsAny}
use Rattle.lvm_posts.specs.declared.asked.Asked.{Asked}
use Rattle.lvm_posts.specs.declared.fault.RangeFault.{RangeFault}
use Rattle.lvm_posts.specs.declared.fault.RangeFault.TheVariants as fault
use Rattle.lvm_posts.specs.Deciding.{AllWell, FirstFails, RangeEnds, fault_by}
use Rattle.lvm_posts.specs.Pieces.{piece_lp, piece_start}
use Rattle.lvm_posts.specs.passed.Raw.{piece_end}
use Rattle.lvm_ranges.specs.declared.refusal.AskRangeFault.{AskRangeFault}
use Rattle.lvm_ranges.specs.Asking.{AskRangeGives, Asks, range_fault}
use Rattle.lvm_ranges.specs.Choosing.{AreAllSince, AreSince}
use Rattle.lvm_ranges.specs.Finishing.{AnyFailed, FinishGives, Finished, GoingCause, HasLandedSo, LacksSource, RangeCause, TakesRange, WasStuck}
use Rattle.lvm_ranges.specs.Landing.{TurnsFor}
use Rattle.lvm_ranges.specs.Pieces.{NoPiece, OnePiece, Submits, piece_ask}
use Rattle.lvm_ranges.specs.Taking.{NoTake, OneTake, TakesAnswers}
use Rattle.lvm_ranges.proofs.TakingLemmas.{found_holds}
use Rattle.lvm_ranges.proofs.AskingLemmas.{earlier}
use Rattle.lvm_ranges.proofs.PiecesLemmas.{next_ids}
use Rattle.lvm_ranges.proofs.ChoosingLemmas.{turn_chooses, turn_keeps_asks}

-- ---- no target of it is chosen before it is asked for

-- what was asked for before has an earlier number
none_earlier : (core : Core) (faults : ℕ → ℕ) → IsTold core → AreAllSince faults (next_id core.history) core
none_earlier core faults told = all_weaker (IsAsked core.history.facts) (λ (o : Open). next_id core.history ≤ o.request.id → AreSince faults o) (λ o its above. absurd (below o its above)) core.requests told.requests
  where
    below : (o : Open) → IsAsked core.history.facts o → next_id core.history ≤ o.request.id → ⊥
    below o its above = let less = earlier core.history told.ordered o.request.id (ap is_some its.told) in absurd (omega (arith, less, above))

none_chosen : {write : Option ℕ} {lv at end : ℕ} {first : Core} {from n : ℕ} {core : Core} → Submits write lv at end first from n core → (faults : ℕ → ℕ) (since : ℕ) → AreAllSince faults since first → AreAllSince faults since core
none_chosen NoPiece faults since all = all
none_chosen (OnePiece {core = core} before less) faults since all = all_push (λ (o : Open). since ≤ o.request.id → AreSince faults o) core.requests _ (none_chosen before faults since all) (λ above. tt)

begun_since : (write : Option ℕ) (lv at count : ℕ) (old new : Core) (asked : Asked) → IsTold old → Asks write lv at count old new asked → (faults : ℕ → ℕ) → AreAllSince faults asked.first new
begun_since write lv at count old new asked told asks faults = none_chosen asks.submits faults asked.first (subst (λ n. AreAllSince faults n old) (sym asks.first) (none_earlier old faults told))

-- nor are the votes lost by that, and its group and its beginning stay
begun_votes : {write : Option ℕ} {lv at end : ℕ} {first : Core} {from n : ℕ} {core : Core} → Submits write lv at end first from n core → is_lost core ≡ is_lost first
begun_votes NoPiece = refl
begun_votes (OnePiece before less) = begun_votes before

begun_group : {write : Option ℕ} {lv at end : ℕ} {first : Core} {from n : ℕ} {core : Core} → Submits write lv at end first from n core → (core.descriptor ≡ first.descriptor) × (core.origin ≡ first.origin)
begun_group NoPiece = (refl, refl)
begun_group (OnePiece before less) = begun_group before

-- ---- which piece it is

start_block : (at k : ℕ) → piece_start at k / 256 ≡ at / 256 + k
start_block at zero = omega arith
start_block at (suc k) = omega arith

-- each piece begins where it should
begins_at : {write : Option ℕ} {lv at end : ℕ} {first : Core} {from n : ℕ} {core : Core} → Submits write lv at end first from n core → from < end → from ≡ piece_start at n
begins_at NoPiece further = refl
begins_at {write} {lv} {at} {end} (OnePiece {from = from} {n = n} before less) further =
    let here : from / 256 ≡ at / 256 + n = ap (λ x. x / 256) (begins_at before less) ∙ start_block at n in
    let to : piece_end from end ≡ 256 * (at / 256 + suc n) = omega (arith, further, here) in
    let one : suc n ≡ n + 1 = omega arith in
    to ∙ ap (piece_start at) one

-- the requests from this number on are those of the pieces, each of the volume and from its place on
abbrev IsPiece : ℕ → ℕ → ℕ → ℕ → Ask → Type 0
IsPiece lv at since id ask = (k : ℕ) → id ≡ since + k → (lv_of ask ≡ lv) × (at_of ask ≡ piece_start at k)

ask_is : (write : Option ℕ) (lv from count : ℕ) → (lv_of (piece_ask write lv from count) ≡ lv) × (at_of (piece_ask write lv from count) ≡ from)
ask_is None lv from count = (refl, refl)
ask_is (Some word) lv from count = (refl, refl)

abbrev AreAllPieces : ℕ → ℕ → ℕ → Core → Type 0
AreAllPieces lv at since core = AllByRecursion (λ (o : Open). IsPiece lv at since o.request.id o.request.ask) core.requests

pieces_asked : {write : Option ℕ} {lv at end : ℕ} {first : Core} {from n : ℕ} {core : Core} → Submits write lv at end first from n core → AreAllPieces lv at (next_id first.history) first → AreAllPieces lv at (next_id first.history) core
pieces_asked NoPiece all = all
pieces_asked {write} {lv} {at} {end} {first} (OnePiece {from = from} {n = n} {core = core} before less) all =
    all_push (λ (o : Open). IsPiece lv at (next_id first.history) o.request.id o.request.ask) core.requests _ (pieces_asked before all) its
  where
    its : IsPiece lv at (next_id first.history) (next_id core.history) (piece_ask write lv from (piece_end from end - from))
    its k is =
        let ids = next_ids before in
        let same : n ≡ k = omega (arith, ids, is) in
        let own = ask_is write lv from (piece_end from end - from) in
        (own.0, own.1 ∙ begins_at before less ∙ ap (piece_start at) same)

-- what was asked for before is none of them
none_yet_asked : (lv at : ℕ) (core : Core) → IsTold core → AreAllPieces lv at (next_id core.history) core
none_yet_asked lv at core told = all_weaker (IsAsked core.history.facts) (λ (o : Open). IsPiece lv at (next_id core.history) o.request.id o.request.ask)
    (λ o its k is. absurd (let less = earlier core.history told.ordered o.request.id (ap is_some its.told) in omega (arith, less, is))) core.requests told.requests

-- ---- nor while it is waited for

record Turned (first now : State) : Type 0 where
  pub counts : NoneFalls first.device.counts now.device.counts
  pub chooses : (faults : ℕ → ℕ) (from : ℕ) → ((disk : ℕ) → faults disk ≤ first.device.counts.faults disk) → AreAllSince faults from first.core → AreAllSince faults from now.core
  pub asks : (lv at since : ℕ) → AreAllPieces lv at since first.core → AreAllPieces lv at since now.core
  pub descriptor : now.core.descriptor ≡ first.core.descriptor
  pub origin : now.core.origin ≡ first.core.origin

turned : (asked : Asked) (first now : State) → Path (TurnsFor asked) IsAny first now → Turned first now
turned asked first now (Here any) = record { counts = none_falls_at_once first.device.counts; chooses = λ faults from low all. all; asks = λ lv at since all. all; descriptor = refl; origin = refl }
turned asked first now (Then {m} {n} before step any) =
    let so_far = turned asked first m before in
    let answer = step.1.0 in
    let made = step.1.1 in
    let goes = turn_goes m n answer made in
    record {
      counts = none_falls_on so_far.counts (turn_counts m n answer made);
      chooses = λ faults from low all. turn_chooses m n answer made faults from (λ d. let a = low d in let b = so_far.counts.faults d in omega (arith, a, b)) (so_far.chooses faults from low all);
      asks = λ lv at since all. turn_keeps_asks m n answer made (IsPiece lv at since) (so_far.asks lv at since all);
      descriptor = ap (λ (g : Given). g.0) goes.given_is ∙ so_far.descriptor;
      origin = ap (λ (g : Given). g.1) goes.given_is ∙ so_far.origin;
    }

-- ---- a piece that has landed so

-- a target that could be used has failed
some_failed : (faults : ℕ → ℕ) (last : Device) (ts : List Target) → list_any (λ (t : Target). t.usable) ts ≡ true → AllByRecursion (λ (t : Target). t.usable ≡ true → TargetHasFailed last t) ts
    → AllByRecursion (λ (t : Target). faults t.pp.disk ≤ t.faults) ts → (disk : ℕ) × Rose (faults disk) (last.counts.faults disk)
some_failed faults last [] some failed since = not_so some
some_failed faults last (t ∷ ts) some failed since = by t.usable refl (λ rest. some_failed faults last ts rest failed.1 since.1) some
  where
    by : (b : Bool) → t.usable ≡ b → (list_any (λ (t : Target). t.usable) ts ≡ true → (disk : ℕ) × Rose (faults disk) (last.counts.faults disk)) → b || list_any (λ (t : Target). t.usable) ts ≡ true
        → (disk : ℕ) × Rose (faults disk) (last.counts.faults disk)
    by true is others e = (t.pp.disk, rose_before since.0 (failed.0 is))
    by false is others e = others e

-- votes that are too few are at most half
few_votes : (core : Core) → is_lost core ≡ true → 2 * votes_there core ≤ total_votes core.descriptor
few_votes core lost = go core.descriptor.quorum (is_false (is_enough_to_write core.descriptor (votes_there core)) lost)
  where
    go : (quorum : Bool) → (if quorum then nat_lt (total_votes core.descriptor) (2 * votes_there core) else nat_lt 0 (votes_there core)) ≡ false → 2 * votes_there core ≤ total_votes core.descriptor
    go true is = ltb-false (total_votes core.descriptor) (2 * votes_there core) is
    go false is = let none = ltb-false 0 (votes_there core) is in omega (arith, none)

-- once it is off, a transfer has failed since it began
pub off_votes : (s : State) → IsSound s → s.core.power ≡ power.Off → (2 * votes_there s.core ≤ total_votes s.core.descriptor) × AnyFailedSince s
off_votes s sound off = let lost = sound.off off in (few_votes s.core lost, loss_is_caused s sound lost)

-- answers that are taken leave the votes
lost_still : (core new : Core) (client id : ℕ) (answer : Taken) → TakeGives core new client id answer → is_lost new ≡ is_lost core
lost_still core new client id answer gives = by (position (is_asked client id) core.requests) gives
  where
    by : (m : Option ℕ) → MatchOption m ((answer ≡ answered.Unknown) × (new ≡ core)) (λ (place : ℕ). TakeAt core new place answer) → is_lost new ≡ is_lost core
    by None at_once = ap is_lost at_once.1
    by (Some place) took = of took.0.landed took.2
      where
        of : (m : Option Outcome) → TakesLanded core new place took.0 answer m → is_lost new ≡ is_lost core
        of None takes = ap is_lost takes.1
        of (Some how) takes = ap is_lost takes.1

still_lost : {id : ℕ} {first : Core} {n : ℕ} {new : Core} → TakesAnswers id first n new → is_lost new ≡ is_lost first
still_lost NoTake = refl
still_lost (OneTake {n = n} {core = core} {new = new} before answer gives landed) = lost_still core new 1 _ answer gives ∙ still_lost before

module _ (asked : Asked) (s : State) (k : ℕ) (how : Outcome) (it : HasLandedSo s (asked.first + k) how) where
  row_id : it.request.request.id ≡ asked.first + k
  row_id = eqb-true it.request.request.id (asked.first + k) (both (it.request.request.client == 1) (it.request.request.id == asked.first + k) (find-Some (is_asked 1 (asked.first + k)) s.core.requests it.request it.found).0).1

  -- what holds of each request holds of the one that is found
  row_holds : (Holds : Open → Type 0) → AllByRecursion Holds s.core.requests → Holds it.request
  row_holds Holds all = subst (λ (m : Option Open). IfSome m Holds) it.found (found_holds Holds (is_asked 1 (asked.first + k)) s.core.requests all)

row_since : (faults : ℕ → ℕ) (asked : Asked) (s : State) (k : ℕ) (how : Outcome) (it : HasLandedSo s (asked.first + k) how) → AreAllSince faults asked.first s.core → AreSince faults it.request
row_since faults asked s k how it all = row_holds asked s k how it (λ (o : Open). asked.first ≤ o.request.id → AreSince faults o) all (let is = row_id asked s k how it in omega (arith, is))

-- what has become of its requests, of the votes and of the group since it was asked for
record AskedSince (lv : ℕ) (asked : Asked) (first now : State) : Type 0 where
  pub since : AreAllSince first.device.counts.faults asked.first now.core
  pub votes : LosesVotesByFaults first now
  pub pieces : AreAllPieces lv asked.at asked.first now.core
  pub mib : asked.mib ≡ first.core.descriptor.mib
  pub descriptor : now.core.descriptor ≡ first.core.descriptor
  pub origin : now.core.origin ≡ first.core.origin

module _ (lv : ℕ) (first mid end : State) (asked : Asked) (left : ℕ) (answer : Result (Unit {0}) RangeFault) (takes : TakesRange asked mid end answer) (sound : IsSound end) (so_far : AskedSince lv asked first mid) where
  own_since : (k : ℕ) (how : Outcome) (it : HasLandedSo mid (asked.first + k) how) → AreSince first.device.counts.faults it.request
  own_since k how it = row_since first.device.counts.faults asked mid k how it so_far.since

  own_piece : (k : ℕ) (how : Outcome) (it : HasLandedSo mid (asked.first + k) how) → (lv_of it.request.request.ask ≡ lv) × (at_of it.request.request.ask ≡ piece_start asked.at k)
  own_piece k how it = row_holds asked mid k how it (λ (o : Open). IsPiece lv asked.at asked.first o.request.id o.request.ask) so_far.pieces k (row_id asked mid k how it)

  failed_at_end : AnyFailed first.device mid.device → AnyFailed first.device end.device
  failed_at_end = subst (λ (d : Device). AnyFailed first.device d) (sym takes.shelf)

  lost_at_end : LostForFaults first mid → LostForFaults first end
  lost_at_end (inl was) = inl was
  lost_at_end (inr failed) = inr (failed_at_end failed)

  off_at_end : is_lost mid.core ≡ true → (2 * votes_there mid.core ≤ total_votes mid.core.descriptor) × AnyFailedSince end × LostForFaults first end
  off_at_end lost = (few_votes mid.core lost, loss_is_caused end sound (still_lost takes.takes ∙ lost), lost_at_end (so_far.votes lost))

  -- why one had no source
  sources : (ask : Ask) (k : ℕ) → lv_of ask ≡ lv → at_of ask ≡ piece_start asked.at k
      → list_any (was_usable mid.core) (copies_for mid.core ask) ≡ list_any (was_usable first.core) (copies_in first.core.descriptor lv (piece_lp asked k))
  sources ask k its_lv its_at =
      let group : Descriptor = first.core.descriptor in
      let any = λ (copies : List Pp). list_any (was_usable first.core) copies in
      ap (λ (o : Origin). list_any (λ (p : Pp). not (calls_stale o.table p) && not (calls_missing o.table p.disk)) (copies_for mid.core ask)) so_far.origin
      ∙ ap (λ (d : Descriptor). any (copies_in d (lv_of ask) (partition_of d.mib (at_of ask)))) so_far.descriptor
      ∙ ap (λ (n : ℕ). any (copies_in group n (partition_of group.mib (at_of ask)))) its_lv
      ∙ ap (λ (n : ℕ). any (copies_in group lv (partition_of group.mib n))) its_at
      ∙ ap (λ (n : ℕ). any (copies_in group lv (partition_of n (piece_start asked.at k)))) (sym so_far.mib)

  lacks : (k : ℕ) (it : HasLandedSo mid (asked.first + k) outcome.NoFresh) → LacksSource first.core end.device lv (piece_lp asked k)
  lacks k it = by it.cause
    where
      by : IsLandedFor mid it.request outcome.NoFresh → LacksSource first.core end.device lv (piece_lp asked k)
      by (inl failed) = inl (
        failed.0,
        subst (λ (d : Device). Rose (slice_index_or first.core.origin.faults failed.0 0) (d.counts.faults failed.0)) (sym takes.shelf)
            (subst (λ (o : Origin). Rose (slice_index_or o.faults failed.0 0) (mid.device.counts.faults failed.0)) so_far.origin failed.1),
      )
      by (inr none) = let own = own_piece k outcome.NoFresh it in inr (sym (sources it.request.request.ask k own.0 own.1) ∙ none)

  abbrev so : ℕ → Outcome → RangeFault → Type 0
  so k how why = fault_by (piece_lp asked k) (votes_there mid.core) (total_votes mid.core.descriptor) how ≡ Some why

  piece_cause : (k : ℕ) (how : Outcome) (why : RangeFault) → so k how why → HasLandedSo mid (asked.first + k) how → RangeCause lv left first end why
  piece_cause k outcome.Done why is it = absurd (cc is)
  piece_cause k outcome.Got why is it = absurd (cc is)
  piece_cause k outcome.Lost why is it =
      let same : fault.Lost ≡ why = cc is in
      subst (RangeCause lv left first end) same (failed_at_end (some_failed first.device.counts.faults mid.device it.request.request.targets.items it.cause.0 it.cause.1 (own_since k outcome.Lost it)))
  piece_cause k outcome.ReadFailed why is it =
      let same : fault.ReadFailed ≡ why = cc is in
      subst (RangeCause lv left first end) same (failed_at_end (some_failed first.device.counts.faults mid.device it.request.request.targets.items it.cause.0
      (all_weaker (λ (t : Target). (is_failed t.state ≡ true) × TargetHasFailed mid.device t) (λ (t : Target). t.usable ≡ true → TargetHasFailed mid.device t) (λ t its usable. its.1) it.request.request.targets.items it.cause.1)
      (own_since k outcome.ReadFailed it)))
  piece_cause k outcome.NoFresh why is it = let same : fault.NoFresh (piece_lp asked k) ≡ why = cc is in subst (RangeCause lv left first end) same (lacks k it)
  piece_cause k outcome.Off why is it =
      let same : fault.WentOff (votes_there mid.core) (total_votes mid.core.descriptor) ≡ why = cc is in
      subst (RangeCause lv left first end) same (off_at_end it.cause.1)
  piece_cause k outcome.Dark why is it = let same : fault.Dark ≡ why = cc is in subst (RangeCause lv left first end) same (takes.power_is ∙ it.cause)

-- ---- while the session goes on

-- since it began the targets of its requests were chosen
pub counted_since : (s : State) → IsSound s → AllByRecursion (AreSince (faults_at_first s.core)) s.core.requests
counted_since s sound = all_weaker (AreCounted s) (AreSince (faults_at_first s.core))
    (λ o its. all_weaker (IsCounted s) (λ (t : Target). faults_at_first s.core t.pp.disk ≤ t.faults) (λ t is. is.began) o.request.targets.items its) s.core.requests sound.counted

module _ (faults : ℕ → ℕ) (asked : Asked) (old new : State) (why : RangeFault) (on : old.core.power ≡ power.On) (since : AreAllSince faults asked.first old.core) (takes : TakesRange asked old new (Err why)) where
  rose_at_end : (disk : ℕ) × Rose (faults disk) (old.device.counts.faults disk) → (disk : ℕ) × Rose (faults disk) (new.device.counts.faults disk)
  rose_at_end rose = (rose.0, subst (λ (d : Device). Rose (faults rose.0) (d.counts.faults rose.0)) (sym takes.shelf) rose.1)

  lacks_at_end : (o : Open) → IsLandedFor old o outcome.NoFresh → AnyFailedSince (state new.device old.core) ⊎ (list_any (was_usable old.core) (copies_for old.core o.request.ask) ≡ false)
  lacks_at_end o (inl failed) = inl (failed.0, subst (λ (d : Device). Rose (faults_at_first old.core failed.0) (d.counts.faults failed.0)) (sym takes.shelf) failed.1)
  lacks_at_end o (inr none) = inr none

  piece_going : (k : ℕ) (how : Outcome) (w : RangeFault) → k < asked.pieces → fault_by (piece_lp asked k) (votes_there old.core) (total_votes old.core.descriptor) how ≡ Some w → HasLandedSo old (asked.first + k) how → GoingCause faults asked old.core new.device w
  piece_going k outcome.Done w less is it = absurd (cc is)
  piece_going k outcome.Got w less is it = absurd (cc is)
  piece_going k outcome.Lost w less is it =
      let same : fault.Lost ≡ w = cc is in
      subst (GoingCause faults asked old.core new.device) same (rose_at_end (some_failed faults old.device it.request.request.targets.items it.cause.0 it.cause.1 (row_since faults asked old k outcome.Lost it since)))
  piece_going k outcome.ReadFailed w less is it =
      let same : fault.ReadFailed ≡ w = cc is in
      subst (GoingCause faults asked old.core new.device) same (rose_at_end (some_failed faults old.device it.request.request.targets.items it.cause.0
      (all_weaker (λ (t : Target). (is_failed t.state ≡ true) × TargetHasFailed old.device t) (λ (t : Target). t.usable ≡ true → TargetHasFailed old.device t) (λ t its usable. its.1) it.request.request.targets.items it.cause.1)
      (row_since faults asked old k outcome.ReadFailed it since)))
  piece_going k outcome.NoFresh w less is it =
      let same : fault.NoFresh (piece_lp asked k) ≡ w = cc is in
      subst (GoingCause faults asked old.core new.device) same
      (record { piece = k; below = less; lp_is = refl; request = it.request; found = it.found; landed = it.landed; lacks = lacks_at_end it.request it.cause })
  piece_going k outcome.Off w less is it = not_so (sym (ap is_over on) ∙ it.cause.0)
  piece_going k outcome.Dark w less is it = absurd (let e : power.On ≡ power.Dark = sym on ∙ it.cause in cc e)

  pub going_cause : GoingCause faults asked old.core new.device why
  going_cause = by takes.ends
    where
      by : RangeEnds new.core.history.facts asked (votes_there old.core) (total_votes old.core.descriptor) (Err why) → GoingCause faults asked old.core new.device why
      by (AllWell well is) = absurd (cc is)
      by (FirstFails k failed less before fails is) =
          let same : failed ≡ why = cc is in
          subst (GoingCause faults asked old.core new.device) same (piece_going k fails.how failed less fails.fault (takes.caused k fails.how less fails.landed))

-- the other requests stay what they are
rows_left : (Holds : Open → Type 0) (core new : Core) (client id : ℕ) (answer : Taken) → TakeGives core new client id answer → AllByRecursion Holds core.requests → AllByRecursion Holds new.requests
rows_left Holds core new client id answer gives all = by (position (is_asked client id) core.requests) gives
  where
    by : (m : Option ℕ) → MatchOption m ((answer ≡ answered.Unknown) × (new ≡ core)) (λ (place : ℕ). TakeAt core new place answer) → AllByRecursion Holds new.requests
    by None at_once = subst (λ (c : Core). AllByRecursion Holds c.requests) (sym at_once.1) all
    by (Some place) took = of took.0.landed took.2
      where
        of : (m : Option Outcome) → TakesLanded core new place took.0 answer m → AllByRecursion Holds new.requests
        of None takes = subst (λ (c : Core). AllByRecursion Holds c.requests) (sym takes.1) all
        of (Some how) takes = subst (λ (c : Core). AllByRecursion Holds c.requests) (sym takes.1) (all_removed Holds core.requests place all)

pub rows_stay : (Holds : Open → Type 0) {id : ℕ} {first : Core} {n : ℕ} {new : Core} → TakesAnswers id first n new → AllByRecursion Holds first.requests → AllByRecursion Holds new.requests
rows_stay Holds NoTake all = all
rows_stay Holds (OneTake {n = n} {core = core} {new = new} before answer gives landed) all = rows_left Holds core new 1 _ answer gives (rows_stay Holds before all)

-- ---- the range

asks_so : (write : Option ℕ) (lv at count : ℕ) (old new : Core) (asked : Asked) → AskRangeGives write lv at count old new (Ok asked) → Asks write lv at count old new asked
asks_so write lv at count old new asked gives = by (range_fault old lv at count) gives
  where
    by : (m : Option AskRangeFault) → MatchOption m ((it : Asked) × (◌≡◌ {A = Result Asked AskRangeFault} (Ok asked) (Ok it)) × Asks write lv at count old new it) (λ (why : AskRangeFault). (◌≡◌ {A = Result Asked AskRangeFault} (Ok asked) (Err why)) × (new ≡ old))
        → Asks write lv at count old new asked
    by None it = let same : it.0 ≡ asked = (let e = it.1 in cc e) in subst (Asks write lv at count old new) same it.2
    by (Some why) it = absurd (let e = it.0 in cc e)

pub range_cause : (write : Option ℕ) (lv at count : ℕ) (device : Device) (old begun : Core) (asked : Asked) (left : ℕ) (end : State) (why : RangeFault)
    → IsTold old → AskRangeGives write lv at count old begun (Ok asked) → FinishGives asked left (state device begun) end (Err why) → IsSound end → RangeCause lv left (state device old) end why
range_cause write lv at count device old begun asked left end why told gives (WasStuck path table unfinished none is) sound = let same : fault.Stuck ≡ why = cc is in subst (RangeCause lv left (state device old) end) same none
range_cause write lv at count device old begun asked left end why told gives (Finished mid path table votes takes) sound = by takes.ends
  where
    asks : Asks write lv at count old begun asked
    asks = asks_so write lv at count old begun asked gives

    begins : AreAllSince device.counts.faults asked.first begun
    begins = begun_since write lv at count old begun asked told asks device.counts.faults

    lost_since : LostForFaults (state device begun) mid → LostForFaults (state device old) mid
    lost_since (inl was) = inl (sym (begun_votes asks.submits) ∙ was)
    lost_since (inr failed) = inr failed

    turns : Turned (state device begun) mid
    turns = turned asked (state device begun) mid path

    pieces : AreAllPieces lv at (next_id old.history) mid.core
    pieces = turns.asks lv at (next_id old.history) (pieces_asked asks.submits (none_yet_asked lv at old told))

    so_far : AskedSince lv asked (state device old) mid
    so_far = record {
      since = turns.chooses device.counts.faults asked.first (λ d. omega arith) begins;
      votes = λ lost. lost_since (votes lost);
      pieces = subst (λ (n : ℕ). AreAllPieces lv n asked.first mid.core) (sym asks.at_is) (subst (λ (n : ℕ). AreAllPieces lv at n mid.core) (sym asks.first) pieces);
      mib = asks.mib_is;
      descriptor = turns.descriptor ∙ (begun_group asks.submits).0;
      origin = turns.origin ∙ (begun_group asks.submits).1;
    }

    by : RangeEnds end.core.history.facts asked (votes_there mid.core) (total_votes mid.core.descriptor) (Err why) → RangeCause lv left (state device old) end why
    by (AllWell well is) = absurd (cc is)
    by (FirstFails k failed less before fails is) =
        let same : failed ≡ why = cc is in
        subst (RangeCause lv left (state device old) end) same
        (piece_cause lv (state device old) mid end asked left (Err why) takes sound so_far k fails.how failed fails.fault (takes.caused k fails.how less fails.landed))
