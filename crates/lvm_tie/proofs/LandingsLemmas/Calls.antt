-- The calls of a client enter no landing, but where the power is cut.
use Rattle.std.proofs.Common.{◌≡◌, ℕ, Bool, true, false, ◌&&◌, List, [], ◌∷◌, Option, Some, None, refl, sym, ap, subst, ◌∙◌, ◌⊎◌, inl, inr, ◌||◌, append-nil}
use Rattle.std.specs.Prelude.{MatchOption, map, position, if◌then◌else◌, Result, Ok, Err}
use Rattle.std.specs.List.{AllByRecursion}
use Rattle.lvm_num.specs.Descriptor.{is_pp}
use Rattle.lvm_num.specs.Status.{calls_stale}
use Rattle.lvm_num.specs.declared.place.Pp.{Pp}
use Rattle.lvm_num.proofs.Lists.{all_push}
use Rattle.lvm_disk.specs.declared.shelf.Arrange.{Arrange}
use Rattle.lvm_disk.specs.Counts.{NoneFalls, Counts}
use Rattle.lvm_disk.specs.Paths.{Arranged}
use Rattle.lvm_disk.specs.Steps.{ArrangeGives}
use Rattle.lvm_disk.proofs.CountingLemmas.{none_falls_at_once}
use Rattle.lvm_disk.proofs.StepsLemmas.{step_counts}
use Rattle.lvm_vol.specs.declared.entry.Outcome.{Outcome}
use Rattle.lvm_vol.specs.declared.entry.Vol.TheVariants.{Lv}
use Rattle.lvm_vol.specs.Facts.{Begun, Fact, Taken}
use Rattle.lvm_vol.specs.Log.{blocks_begun, next_id, next_request, request_of}
use Rattle.lvm_path.specs.declared.ask.Ask.{Ask}
use Rattle.lvm_path.specs.Asks.{at_of, count_of, lv_of}
use Rattle.lvm_session.specs.declared.open.Open.{Open}
use Rattle.lvm_session.specs.State.{Core, State, state}
use Rattle.lvm_session.specs.declared.answers.AskFault.{AskFault}
use Rattle.lvm_session.specs.declared.answers.CopyFault.{CopyFault}
use Rattle.lvm_session.specs.declared.answers.OpenFault.{OpenFault}
use Rattle.lvm_session.specs.declared.answers.OpenFault.TheVariants as denial
use Rattle.lvm_session.specs.declared.answers.Taken.{Taken as Answer}
use Rattle.lvm_session.specs.Calls.{OpenGives, OpenMoveGives, Opens, OpensMove, move_fault, SubmitGives, TakeAt, TakeGives, TakesLanded, after_take, aged, ask_fault, copy_fault, is_asked, new_open, submitted, CallsStale}
use Rattle.lvm_session.specs.Dark.{all_dark, is_cut}
use Rattle.lvm_session.specs.Turns.{ArrangesSession}
use Rattle.lvm_keeps_events.proofs.passed.Keeps.{all_mapped, all_removed}
use Rattle.lvm_tie.specs.Landings.{CallsKeepCauses, FailuresAreCaused, HasCausesSince}
use Rattle.lvm_tie.proofs.SessionEndsLemmas.Grounds.{ground}
use Rattle.lvm_tie.specs.Running.{KeepsOrigin}
use Rattle.lvm_tie.proofs.LandingsLemmas.Causes.{dark_caused, goes_on, goes_on_from, stays_caused, stays_with}

module _ (first : List Fact) (s : State) (new : Core) (was : HasCausesSince first s) where
  -- nothing of it changes
  same_caused : ground new ≡ ground s.core → HasCausesSince first (state s.device new)
  same_caused same = stays_caused first s (state s.device new) (none_falls_at_once s.device.counts) same was

  submit_caused : (client : ℕ) (ask : Ask) (bytes : Option (List ℕ)) → new ≡ submitted s.core client ask bytes → HasCausesSince first (state s.device new)
  submit_caused client ask bytes is =
      goes_on s (state s.device new) (none_falls_at_once s.device.counts) (ap (λ (c : Core). c.descriptor) is) (ap (λ (c : Core). c.origin) is) first
      (Begun (next_request s.core.history client (Lv (lv_of ask)) (at_of ask) (count_of ask) bytes) ∷ []) (ap (λ (c : Core). c.history.facts) is) (tt, tt)
      (λ on. subst (λ (os : List Open). AllByRecursion (FailuresAreCaused s.device) os) (sym (ap (λ (c : Core). c.requests) is))
      (all_push (FailuresAreCaused s.device) s.core.requests (new_open (next_id s.core.history) client ask (blocks_begun s.core.history.facts)) (was.failed (sym (ap (λ (c : Core). c.power) is) ∙ on))
      (λ over. absurd (let e : true ≡ false = over in cc))))
      was

  submits : (client : ℕ) (ask : Ask) (bytes : Option (List ℕ)) (answer : Result ℕ AskFault) → SubmitGives s.core new client ask bytes answer → HasCausesSince first (state s.device new)
  submits client ask bytes answer = by (ask_fault s.core ask)
    where
      by : (m : Option AskFault) → MatchOption m ((answer ≡ Ok (next_id s.core.history)) × (new ≡ submitted s.core client ask bytes)) (λ (why : AskFault). (answer ≡ Err why) × (new ≡ s.core)) → HasCausesSince first (state s.device new)
      by None it = submit_caused client ask bytes it.1
      by (Some why) it = same_caused (ap ground it.1)

  take_caused : (place id : ℕ) → new ≡ after_take s.core place id → HasCausesSince first (state s.device new)
  take_caused place id is =
      goes_on s (state s.device new) (none_falls_at_once s.device.counts) (ap (λ (c : Core). c.descriptor) is) (ap (λ (c : Core). c.origin) is) first
      (Taken (request_of s.core.history.facts id) ∷ []) (ap (λ (c : Core). c.history.facts) is) (tt, tt)
      (λ on. subst (λ (os : List Open). AllByRecursion (FailuresAreCaused s.device) os) (sym (ap (λ (c : Core). c.requests) is))
      (all_removed (FailuresAreCaused s.device) s.core.requests place (was.failed (sym (ap (λ (c : Core). c.power) is) ∙ on))))
      was

  takes_landed : (place : ℕ) (o : Open) (answer : Answer) (how : Option Outcome) → TakesLanded s.core new place o answer how → HasCausesSince first (state s.device new)
  takes_landed place o answer None it = same_caused (ap ground it.1)
  takes_landed place o answer (Some how) it = take_caused place o.request.id it.1

  takes : (client id : ℕ) (answer : Answer) → TakeGives s.core new client id answer → HasCausesSince first (state s.device new)
  takes client id answer = by (position (is_asked client id) s.core.requests)
    where
      by : (m : Option ℕ) → MatchOption m ((answer ≡ Rattle.lvm_session.specs.declared.answers.Taken.TheVariants.Unknown) × (new ≡ s.core)) (λ (place : ℕ). TakeAt s.core new place answer) → HasCausesSince first (state s.device new)
      by None it = same_caused (ap ground it.1)
      by (Some place) it = takes_landed place it.0 answer it.0.landed it.2

  opens : (counts : Counts) (lv lp number : ℕ) (answer : Result (Unit {0}) CopyFault) → OpenGives counts s.core new lv lp number answer → HasCausesSince first (state s.device new)
  opens counts lv lp number answer = by (copy_fault s.core lv lp number)
    where
      by : (m : Option CopyFault) → MatchOption m ((answer ≡ Ok tt) × Opens counts s.core new lv lp number) (λ (why : CopyFault). (answer ≡ Err why) × (new ≡ s.core)) → HasCausesSince first (state s.device new)
      by None it = stays_with first s (state s.device new) (none_falls_at_once s.device.counts) (map aged s.core.requests) (ap ground it.1.is)
          (λ on. all_mapped (FailuresAreCaused s.device) (FailuresAreCaused s.device) aged (λ o failed. failed) s.core.requests (was.failed on)) was
      by (Some why) it = same_caused (ap ground it.1)

  -- the destination of a move counts as stale since the session began
  origin_kept : (to : Pp) → CallsStale to s.core.origin new.origin → KeepsOrigin s.core.origin new.origin
  origin_kept to called = record { faults = called.faults; missing = called.table.missing; stale = λ p was. called.table.stale p ∙ or_so (calls_stale s.core.origin.table p) (is_pp p to) was }
    where
      or_so : (a b : Bool) → a ≡ true → a || b ≡ true
      or_so true b h = refl
      or_so false b h = absurd (cc h)

  move_caused : (counts : Counts) (lv lp number : ℕ) (to : Pp) → OpensMove counts s.core new lv lp number to → HasCausesSince first (state s.device new)
  move_caused counts lv lp number to it =
      goes_on_from s (state s.device new) (none_falls_at_once s.device.counts) (ap (λ (c : Core). c.descriptor) it.is) (origin_kept to it.called) first []
      (ap (λ (c : Core). c.history.facts) it.is ∙ sym (append-nil s.core.history.facts)) tt
      (λ on. subst (λ (os : List Open). AllByRecursion (FailuresAreCaused s.device) os) (sym (ap (λ (c : Core). c.requests) it.is))
      (all_mapped (FailuresAreCaused s.device) (FailuresAreCaused s.device) aged (λ o failed. failed) s.core.requests (was.failed (sym (ap (λ (c : Core). c.power) it.is) ∙ on)))) was

  opens_move : (counts : Counts) (lv lp number : ℕ) (to : Pp) (answered : Result (Unit {0}) OpenFault) → OpenMoveGives counts s.core new lv lp number to answered → HasCausesSince first (state s.device new)
  opens_move counts lv lp number to answered = by (move_fault s.core lv lp number to)
    where
      by : (m : Option OpenFault) → MatchOption m (((answered ≡ Ok tt) × OpensMove counts s.core new lv lp number to) ⊎ ((answered ≡ Err denial.Memory) × (new ≡ s.core))) (λ (why : OpenFault). (answered ≡ Err why) × (new ≡ s.core)) → HasCausesSince first (state s.device new)
      by None (inl it) = move_caused counts lv lp number to it.1
      by None (inr it) = same_caused (ap ground it.1)
      by (Some why) it = same_caused (ap ground it.1)

-- ---- orders

arrange_counts : (old new : State) (what : Arrange) (done : Bool) → ArrangeGives old.device new.device what done → NoneFalls old.device.counts new.device.counts
arrange_counts old new what true made = step_counts old.device new.device (Arranged what made.1)
arrange_counts old new what false made = subst (λ (d : Rattle.lvm_disk.specs.Device.Device). NoneFalls old.device.counts d.counts) (sym made.1) (none_falls_at_once old.device.counts)

arrange_caused : (first : List Fact) (old new : State) (what : Arrange) (done : Bool) → ArrangesSession old new what done → HasCausesSince first old → HasCausesSince first new
arrange_caused first old new what done it was = by (done && is_cut what) it.is
  where
    by : (b : Bool) → new.core ≡ (if b then all_dark old.core else old.core) → HasCausesSince first new
    by true is = dark_caused first old new old.core (arrange_counts old new what done it.device) refl is was
    by false is = stays_caused first old new (arrange_counts old new what done it.device) (ap ground is) was

pub calls_keep_causes : CallsKeepCauses
calls_keep_causes = record {
  submit = λ client ask bytes answer first s new gives was. submits first s new was client ask bytes answer gives;
  take = λ client id answer first s new gives was. takes first s new was client id answer gives;
  open_copy = λ counts lv lp number answer first s new gives was. opens first s new was counts lv lp number answer gives;
  open_move = λ counts lv lp number to answer first s new gives was. opens_move first s new was counts lv lp number to answer gives;
  close_copy = λ first s new closes was. same_caused first s new was (ap ground closes.is);
  arrange = arrange_caused;
}
