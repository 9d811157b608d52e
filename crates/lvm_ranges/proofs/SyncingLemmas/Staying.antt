-- Which copies are stale once those that were asked for are passed.
use Rattle.std.proofs.Common.{◌≡◌, ◌⊎◌, inl, inr, ◌≤◌, ◌++◌, ℕ, zero, suc, Bool, true, false, ◌&&◌, ◌||◌, not, List, [], ◌∷◌, Option, Some, None, Result, Ok, Err, if◌then◌else◌, slice_get, map, refl, sym, ap, subst, ◌∙◌, arith}
use Rattle.std.specs.Prelude.{IfSome, MatchOption, is_none, unwrap_or}
use Rattle.std.specs.List.{AllByRecursion, list_any}
use Rattle.std.specs.Option.{option_map_or}
use Rattle.std.proofs.lemmas.Bool.{or_right}
use Rattle.lvm_num.specs.declared.place.Pp.{Pp}
use Rattle.lvm_num.specs.Status.{calls_stale}
use Rattle.lvm_num.specs.Descriptor.{is_pp}
use Rattle.lvm_disk.specs.Counts.{Rose}
use Rattle.lvm_disk.specs.Device.{Device}
use Rattle.lvm_disk.specs.Paths.{Here, Then}
use Rattle.lvm_disk.proofs.CountingLemmas.{rose_after, rose_before}
use Rattle.lvm_session.specs.declared.answers.CopyFault.{CopyFault}
use Rattle.lvm_session.specs.declared.answers.CopyState.TheVariants as copy
use Rattle.lvm_session.specs.declared.bringing.CopyEnd.{CopyEnd}
use Rattle.lvm_session.specs.declared.bringing.CopyEnd.TheVariants as ending
use Rattle.lvm_session.specs.declared.bringing.OpenCopy.{OpenCopy}
use Rattle.lvm_session.specs.declared.bringing.Step.TheVariants as step
use Rattle.lvm_session.specs.declared.open.Open.{Open}
use Rattle.lvm_session.specs.declared.open.Power.{Power}
use Rattle.lvm_session.specs.declared.open.Power.TheVariants as power
use Rattle.lvm_session.specs.Bringing.{is_out, is_whole}
use Rattle.lvm_session.specs.Calls.{Opens, aged, closed, copy_fault, state_at_end, state_of_copy}
use Rattle.lvm_session.specs.Causes.{fails_on, is_held_stale, is_over}
use Rattle.lvm_session.specs.Requests.{IsLanded}
use Rattle.lvm_session.specs.Judging.{is_missing, is_destination, is_running, is_settled, is_stale, is_waiting, is_wanted_stale}
use Rattle.lvm_session.specs.Sound.{IsSound}
use Rattle.lvm_session.specs.State.{Core, State, state}
use Rattle.lvm_ranges.specs.passed.Calls.{counts_seen}
use Rattle.lvm_ranges.specs.passed.KeepsEvents.{MarksFor, has_failed_on, is_lasting, is_marked, is_open_at}
use Rattle.lvm_ranges.specs.passed.Driver.{IsTurn}
use Rattle.lvm_keeps.proofs.KeepsLemmas.Close.{close_keeps}
use Rattle.lvm_ranges.proofs.passed.KeepsEvents.{own_pp, pp_same, seen_open_keeps, turn_keeps, turn_counts, turn_marks}
use Rattle.lvm_ranges.proofs.passed.Going.{stays_unstuck, turn_goes}
use Rattle.lvm_ranges.specs.declared.copies.Passed.TheVariants as passed
use Rattle.lvm_ranges.specs.declared.fault.SyncFault.{SyncFault}
use Rattle.lvm_ranges.specs.declared.tally.Tally.{Tally}
use Rattle.lvm_ranges.specs.Passing.{Copy, HasEndedFor, WasFresh, IsMadeFresh, IsOpened, IsUnsettled, Runs}
use Rattle.lvm_ranges.specs.Syncing.{IsStaleFor, LeavesFresh, NonePassed, OnePassed, PassesCopies, is_made_among, no_tally, or_first}
use Rattle.lvm_ranges.proofs.PassingLemmas.Making.{as_opened, its_pp}
use Rattle.lvm_keeps.proofs.StateLemmas.{state_ended}
use Rattle.lvm_ranges.proofs.PassingLemmas.Open.{IsOpenStill, just_opened, turn_open}
use Rattle.lvm_ranges.proofs.TurningLemmas.{TurnsIn, turns_in}

-- ---- why something is stale

still_for : (first old new : State) (p : Pp) → old.device.counts.faults p.disk ≤ new.device.counts.faults p.disk → (is_missing old.core p.disk ≡ true → is_missing new.core p.disk ≡ true) → IsStaleFor first old p → IsStaleFor first new p
still_for first old new p more gone (inl missing) = inl (gone missing)
still_for first old new p more gone (inr (inl rose)) = inr (inl (rose_after rose more))
still_for first old new p more gone (inr (inr before)) = inr (inr before)

-- Since the first moment a copy is stale for a cause alone, or was settled so and isn't made fresh; and what was settled so and isn't made fresh is stale by
-- all three, but for what is free to be brought up.
pub record Stays (first now : State) (made free : Pp → Bool) : Type 0 where
  pub sound : IsSound now
  pub unstuck : now.core.power ≡ power.Stuck → ⊥
  pub later : (d : ℕ) → first.device.counts.faults d ≤ now.device.counts.faults d
  pub marked : (p : Pp) → is_marked now.core p ≡ true → IsStaleFor first now p ⊎ ((is_settled first.core p ≡ true) × (made p ≡ false))
  pub failed : (p : Pp) → has_failed_on now.core p ≡ true → (has_failed_on first.core p ≡ true) ⊎ Rose (first.device.counts.faults p.disk) (now.device.counts.faults p.disk)
  pub lasting : (p : Pp) → is_settled first.core p ≡ true → made p ≡ false → free p ≡ false → is_lasting now.core p ≡ true

abbrev pub nothing : Pp → Bool
nothing p = false

-- ---- a turn

module _ (first old new : State) (made free : Pp → Bool) (so_far : Stays first old made free) (turn : IsTurn old new) (shut : (p : Pp) → free p ≡ false → is_open_at old.core p ≡ false) (unmoved : (p : Pp) → is_destination old.core p ≡ false) where
  marks : MarksFor old new
  marks = turn_marks old new so_far.sound turn.0 turn.1

  more : (d : ℕ) → old.device.counts.faults d ≤ new.device.counts.faults d
  more = (turn_counts old new turn.0 turn.1).faults

  since : (p : Pp) → (has_failed_on old.core p ≡ true) ⊎ Rose (old.device.counts.faults p.disk) (new.device.counts.faults p.disk) → (has_failed_on first.core p ≡ true) ⊎ Rose (first.device.counts.faults p.disk) (new.device.counts.faults p.disk)
  since p (inl before) = by (so_far.failed p before)
    where
      by : (has_failed_on first.core p ≡ true) ⊎ Rose (first.device.counts.faults p.disk) (old.device.counts.faults p.disk) → (has_failed_on first.core p ≡ true) ⊎ Rose (first.device.counts.faults p.disk) (new.device.counts.faults p.disk)
      by (inl had) = inl had
      by (inr rose) = inr (rose_after rose (more p.disk))
  since p (inr rose) = inr (rose_before (so_far.later p.disk) rose)

  pub turn_stays : Stays first new made free
  turn_stays = record {
    sound = turn_keeps old new turn.0 so_far.sound turn.1;
    unstuck = stays_unstuck old.core new.core (turn_goes old new turn.0 turn.1).power so_far.unstuck;
    later = λ d. let a = so_far.later d in let b = more d in omega (arith, a, b);
    marked = λ p e. by p (marks.marked p (unmoved p) e);
    failed = λ p e. since p (marks.failed p e);
    lasting = λ p settled unmade fixed. marks.lasting p (so_far.lasting p settled unmade fixed) (shut p fixed);
  }
    where
      of_failed : (p : Pp) → (has_failed_on first.core p ≡ true) ⊎ Rose (first.device.counts.faults p.disk) (new.device.counts.faults p.disk) → IsStaleFor first new p
      of_failed p (inl had) = inr (inr (inr had))
      of_failed p (inr rose) = inr (inl rose)

      of_old : (p : Pp) → IsStaleFor first old p ⊎ ((is_settled first.core p ≡ true) × (made p ≡ false)) → IsStaleFor first new p ⊎ ((is_settled first.core p ≡ true) × (made p ≡ false))
      of_old p (inl why) = inl (still_for first old new p (more p.disk) (marks.missing p.disk) why)
      of_old p (inr was) = inr was

      by : (p : Pp) → (is_marked old.core p ≡ true) ⊎ (is_missing new.core p.disk ≡ true) ⊎ (has_failed_on new.core p ≡ true) → IsStaleFor first new p ⊎ ((is_settled first.core p ≡ true) × (made p ≡ false))
      by p (inl was) = of_old p (so_far.marked p was)
      by p (inr (inl gone)) = inl (inl gone)
      by p (inr (inr failed)) = inl (of_failed p (since p (marks.failed p failed)))

-- ---- turns while no copy is open

shut_none : (core : Core) → core.copy ≡ None → (p : Pp) → is_open_at core p ≡ false
shut_none core none p = ap (λ m. option_map_or (λ (c : OpenCopy). is_pp p c.pp) m false) none

unmoved_none : (core : Core) → core.copy ≡ None → (p : Pp) → is_destination core p ≡ false
unmoved_none core none p = ap (λ m. option_map_or (λ (c : OpenCopy). c.moves && is_pp p c.pp) m false) none

settle_stays : (c : Copy) (first old new : State) (made : Pp → Bool) → Stays first old made nothing → old.core.copy ≡ None → TurnsIn (IsUnsettled c) old new → Stays first new made nothing × (new.core.copy ≡ None)
settle_stays c first old new made so_far none (Here any) = (so_far, none)
settle_stays c first old new made so_far none (Then {m} path step any) =
    let before = settle_stays c first old m made so_far none path in
    (turn_stays first m new made nothing before.0 step.1 (λ p fixed. shut_none m.core before.1 p) (unmoved_none m.core before.1), (turn_goes m new step.1.0 step.1.1).copy before.1)

-- ---- a copy is opened

any_aged : (t : Open → Bool) → ((o : Open) → t (aged o) ≡ t o) → (os : List Open) → list_any t (map aged os) ≡ list_any t os
any_aged t same [] = refl
any_aged t same (o ∷ os) = ap (λ b. b || list_any t (map aged os)) (same o) ∙ ap (λ b. t o || b) (any_aged t same os)

module _ (c : Copy) (first judged new : State) (made : Pp → Bool) (so_far : Stays first judged made nothing) (none : judged.core.copy ≡ None) (may : copy_fault judged.core c.lv c.lp c.number ≡ None)
    (opens : Opens (counts_seen judged.device judged.core) judged.core new.core c.lv c.lp c.number) (same : new.device ≡ judged.device) (p : Pp) (its : opens.pp ≡ p) where
  abbrev free : Pp → Bool
  free q = is_pp q p

  failed_is : (q : Pp) → has_failed_on new.core q ≡ has_failed_on judged.core q
  failed_is q = ap (λ (k : Core). has_failed_on k q) opens.is ∙ any_aged (fails_on q) (λ o. refl) judged.core.requests

  new_is : new ≡ state judged.device new.core
  new_is = ap (λ (d : Device). state d new.core) same

  abbrev well : Result (Unit {0}) CopyFault
  well = Ok tt

  gives : (m : Option CopyFault) → m ≡ None → MatchOption m ((well ≡ Ok tt) × Opens (counts_seen judged.device judged.core) judged.core new.core c.lv c.lp c.number) (λ (why : CopyFault). (well ≡ Err why) × (new.core ≡ judged.core))
  gives None is = (refl, opens)
  gives (Some why) is = absurd (cc is)

  pub open_stays : Stays first new made free
  open_stays = record {
    sound = subst IsSound (sym new_is) (seen_open_keeps judged new.core c.lv c.lp c.number (Ok tt) so_far.sound (record { fitting = so_far.sound.fitting; going = λ on. (so_far.sound.on on).going; unstuck = so_far.unstuck }) (gives (copy_fault judged.core c.lv c.lp c.number) may));
    unstuck = λ stuck. so_far.unstuck (sym (ap (λ (k : Core). k.power) opens.is) ∙ stuck);
    later = λ d. subst (λ (x : Device). first.device.counts.faults d ≤ x.counts.faults d) (sym same) (so_far.later d);
    marked = λ q e. by q (so_far.marked q (sym (ap (λ (k : Core). is_marked k q) opens.is) ∙ e));
    failed = λ q e. of q (so_far.failed q (sym (failed_is q) ∙ e));
    lasting = λ q settled unmade fixed. ap (λ (k : Core). is_lasting k q) opens.is ∙ so_far.lasting q settled unmade refl;
  }
    where
      of : (q : Pp) → (has_failed_on first.core q ≡ true) ⊎ Rose (first.device.counts.faults q.disk) (judged.device.counts.faults q.disk) → (has_failed_on first.core q ≡ true) ⊎ Rose (first.device.counts.faults q.disk) (new.device.counts.faults q.disk)
      of q (inl had) = inl had
      of q (inr rose) = inr (subst (λ (x : Device). Rose (first.device.counts.faults q.disk) (x.counts.faults q.disk)) (sym same) rose)

      more : (q : Pp) → judged.device.counts.faults q.disk ≤ new.device.counts.faults q.disk
      more q = subst (λ (x : Device). judged.device.counts.faults q.disk ≤ x.counts.faults q.disk) (sym same) (omega arith)

      by : (q : Pp) → IsStaleFor first judged q ⊎ ((is_settled first.core q ≡ true) × (made q ≡ false)) → IsStaleFor first new q ⊎ ((is_settled first.core q ≡ true) × (made q ≡ false))
      by q (inl why) = inl (still_for first judged new q (more q) (λ gone. ap (λ (k : Core). is_missing k q.disk) opens.is ∙ gone) why)
      by q (inr was) = inr was

  abbrev its_copy : OpenCopy
  its_copy = as_opened (counts_seen judged.device judged.core) judged.core new.core c.lv c.lp c.number opens

  pub opened_still : IsOpenStill its_copy new.core
  opened_still = just_opened new.core its_copy (ap (λ (k : Core). k.copy) opens.is) refl refl

-- ---- it is brought up

end_not_running : (c : OpenCopy) (how : CopyEnd) (n : ℕ) → state_at_end c how ≡ copy.Running n → ⊥
end_not_running c ending.Done n e = cc e
end_not_running c ending.SyncFailed n e = cc e
end_not_running c ending.NoFresh n e = cc e
end_not_running c ending.Ended n e = cc e

none_wait : (os : List Open) → AllByRecursion IsLanded os → list_any is_waiting os ≡ false
none_wait [] all = refl
none_wait (o ∷ os) all = ap (λ b. b || list_any is_waiting os) all.0.landed ∙ none_wait os all.1

-- a session of which a copy runs goes on
goes_on : (s : State) → IsSound s → (s.core.power ≡ power.Stuck → ⊥) → Runs s.core → s.core.power ≡ power.On
goes_on s sound unstuck runs = by s.core.power refl
  where
    none_open : s.core.copy ≡ None → ⊥
    none_open is = let e : copy.Closed ≡ copy.Running runs.0 = sym (ap (λ m. option_map_or (state_of_copy s.core) m copy.Closed) is) ∙ runs.1 in cc e

    of : (m : Option OpenCopy) → s.core.copy ≡ m → AllByRecursion IsLanded s.core.requests → IfSome m (λ (c : OpenCopy). (is_running c ≡ false) × (c.step ≡ step.Idle)) → ⊥
    of None is landed ended = none_open is
    of (Some c) is landed ended = by_end c.end refl
      where
        by_end : (m : Option CopyEnd) → c.end ≡ m → ⊥
        by_end None e = let f : true ≡ false = sym (ap is_none e) ∙ ended.0 in cc f
        by_end (Some how) e = end_not_running c how runs.0
            (sym (state_ended s.core c ended.0 (ap is_out ended.1) (none_wait s.core.requests landed) ∙ ap (λ m. option_map_or (state_at_end c) m (copy.Running c.cursor)) e)
            ∙ sym (ap (λ m. option_map_or (state_of_copy s.core) m copy.Closed) is) ∙ runs.1)

    by : (x : Power) → s.core.power ≡ x → s.core.power ≡ power.On
    by power.On is = is
    by power.Off is = let over = sound.over (ap is_over is) in absurd (of s.core.copy refl over.landed over.copy)
    by power.Dark is = let over = sound.over (ap is_over is) in absurd (of s.core.copy refl over.landed over.copy)
    by power.Stuck is = absurd (unstuck is)

-- other partitions than that of the copy aren't open
shut_beside : (core : Core) (begun : OpenCopy) → IsOpenStill begun core → (q : Pp) → is_pp q begun.pp ≡ false → is_open_at core q ≡ false
shut_beside core begun it q other = ap (λ m. option_map_or (λ (c : OpenCopy). is_pp q c.pp) m false) it.is_open ∙ ap (is_pp q) it.its.0 ∙ other

-- it doesn't move
unmoved_beside : (core : Core) (begun : OpenCopy) → IsOpenStill begun core → (p : Pp) → is_destination core p ≡ false
unmoved_beside core begun it p = ap (λ m. option_map_or (λ (c : OpenCopy). c.moves && is_pp p c.pp) m false) it.is_open ∙ ap (λ b. b && is_pp p it.copy.pp) (it.its.5 ∙ it.brings)

bring_stays : (first opened ended : State) (made : Pp → Bool) (begun : OpenCopy) → Stays first opened made (λ q. is_pp q begun.pp) → IsOpenStill begun opened.core → TurnsIn Runs opened ended
    → Stays first ended made (λ q. is_pp q begun.pp) × (Runs ended.core → IsOpenStill begun ended.core)
bring_stays first opened ended made begun so_far is_open (Here any) = (so_far, λ runs. is_open)
bring_stays first opened ended made begun so_far is_open (Then {m} path turn any) =
    let before = bring_stays first opened m made begun so_far is_open path in
    let still = before.1 turn.0 in
    let after = turn_stays first m ended made (λ q. is_pp q begun.pp) before.0 turn.1 (λ q other. shut_beside m.core begun still q other) (unmoved_beside m.core begun still) in
    (after, λ runs. turn_open begun m ended before.0.sound still turn.0 turn.1.0 turn.1.1 (goes_on ended after.sound after.unstuck runs))

-- ---- it is made fresh

pp_turned : (p q : Pp) → is_pp q p ≡ false → is_pp p q ≡ false
pp_turned p q other = by (is_pp p q) refl
  where
    by : (b : Bool) → is_pp p q ≡ b → b ≡ false
    by false e = refl
    by true e = absurd (let f : true ≡ false = sym (own_pp q) ∙ sym (ap (is_pp q) (pp_same p q e)) ∙ other in cc f)

module _ (c : Copy) (first old new : State) (made : Pp → Bool) (so_far : Stays first old made nothing) (none : old.core.copy ≡ None) (patience left : ℕ) (it : IsMadeFresh c patience left old new) where
  abbrev opened : State
  opened = it.brings.opened

  opens : IsOpened c patience it.brings.before old opened
  opens = it.brings.opens

  ends : HasEndedFor it.brings.before left opened new copy.Done
  ends = it.brings.ends

  abbrev q : Pp
  q = opens.opens.pp

  judged_stays : Stays first opens.judged made nothing × (opens.judged.core.copy ≡ None)
  judged_stays = settle_stays c first old opens.judged made so_far none (turns_in (IsUnsettled c) opens.settles)

  begun : Stays first opened made (λ x. is_pp x q)
  begun = open_stays c first opens.judged opened made judged_stays.0 judged_stays.1 opens.may opens.opens opens.device q refl

  abbrev begun_copy : OpenCopy
  begun_copy = as_opened (counts_seen opens.judged.device opens.judged.core) opens.judged.core opened.core c.lv c.lp c.number opens.opens

  brought : Stays first ends.ended made (λ x. is_pp x q) × (Runs ends.ended.core → IsOpenStill begun_copy ends.ended.core)
  brought = bring_stays first opened ends.ended made begun_copy begun (opened_still c first opens.judged opened made judged_stays.0 judged_stays.1 opens.may opens.opens opens.device q refl) (turns_in Runs ends.turns)

  -- on the partition that was asked for
  its : q ≡ c.pp
  its = its_pp c patience it.brings.before old opened opens

  abbrev pub made_too : Pp → Bool
  made_too p = is_pp c.pp p || made p

  pub made_stays : Stays first new made_too nothing
  made_stays = record {
    sound = subst IsSound (sym ends.is) (close_keeps ends.ended (closed ends.ended.core) brought.0.sound (record { ended = λ cursor e. (let f : copy.Done ≡ copy.Running cursor = sym ends.how_is ∙ e in cc f); is = refl }));
    unstuck = λ stuck. brought.0.unstuck (sym (ap (λ (s : State). s.core.power) ends.is) ∙ stuck);
    later = λ d. subst (λ (s : State). first.device.counts.faults d ≤ s.device.counts.faults d) (sym ends.is) (brought.0.later d);
    marked = λ p e. by p e (brought.0.marked p (sym (ap (λ (s : State). is_marked s.core p) ends.is) ∙ e));
    failed = λ p e. subst (λ (s : State). (has_failed_on first.core p ≡ true) ⊎ Rose (first.device.counts.faults p.disk) (s.device.counts.faults p.disk)) (sym ends.is) (brought.0.failed p (sym (ap (λ (s : State). has_failed_on s.core p) ends.is) ∙ e));
    lasting = λ p was unmade fixed. let parts = neither (is_pp c.pp p) (made p) unmade in
        ap (λ (s : State). is_lasting s.core p) ends.is ∙ brought.0.lasting p was parts.1 (ap (is_pp p) its ∙ pp_turned p c.pp parts.0);
  }
    where
      neither : (a b : Bool) → a || b ≡ false → (a ≡ false) × (b ≡ false)
      neither true b e = absurd (cc e)
      neither false b e = (refl, e)

      -- it isn't the partition itself
      beside : (p : Pp) → is_marked new.core p ≡ true → is_pp c.pp p ≡ false
      beside p e = of (is_pp c.pp p) refl
        where
          of : (b : Bool) → is_pp c.pp p ≡ b → b ≡ false
          of false i = refl
          of true i = absurd (let f : true ≡ false = sym e ∙ ap (is_marked new.core) (sym (pp_same c.pp p i)) ∙ it.fresh in cc f)

      by : (p : Pp) → is_marked new.core p ≡ true → IsStaleFor first ends.ended p ⊎ ((is_settled first.core p ≡ true) × (made p ≡ false)) → IsStaleFor first new p ⊎ ((is_settled first.core p ≡ true) × (made_too p ≡ false))
      by p e (inl why) = inl (subst (λ (s : State). IsStaleFor first s p) (sym ends.is) why)
      by p e (inr was) = inr (was.0, ap (λ b. b || made p) (beside p e) ∙ was.1)

  pub made_none : new.core.copy ≡ None
  made_none = ap (λ (s : State). s.core.copy) ends.is

-- ---- all of them

at_behind : (copies : List Copy) (c d : Copy) (place : ℕ) → slice_get (copies ++ c ∷ []) place ≡ Some d → (slice_get copies place ≡ Some d) ⊎ (d ≡ c)
at_behind [] c d zero e = inr (let f : c ≡ d = cc e in sym f)
at_behind [] c d (suc place) e = absurd (cc e)
at_behind (x ∷ copies) c d zero e = inl e
at_behind (x ∷ copies) c d (suc place) e = at_behind copies c d place e

-- What is left behind them, where none stays stale.
pub record Left (first now : State) (copies : List Copy) (made : Pp → Bool) : Type 0 where
  pub stays : Stays first now made nothing
  pub none : now.core.copy ≡ None
  pub made_is : (place : ℕ) (c : Copy) → slice_get copies place ≡ Some c → is_settled first.core c.pp ≡ true → made c.pp ≡ true

module _ (first : State) (sound : IsSound first) (on : first.core.power ≡ power.On) (shut : first.core.copy ≡ None) where
  -- what is settled or held as stale is wanted so while no copy is open
  wanted : (p : Pp) → is_held_stale first.core p ≡ true → is_wanted_stale first.core p ≡ true
  wanted p held = by (is_wanted_stale first.core p) refl
    where
      by : (b : Bool) → is_wanted_stale first.core p ≡ b → b ≡ true
      by true e = refl
      by false e = absurd (let f : false ≡ true = sym (ap (λ m. option_map_or (λ (c : OpenCopy). is_running c && is_whole first.core c && is_pp p c.pp) m false) shut) ∙ (sound.on on).going.clearings p held e in cc f)

  held_of : (p : Pp) → is_settled first.core p ≡ true → is_held_stale first.core p ≡ true
  held_of p e = by (is_stale first.core p) (calls_stale (unwrap_or first.core.status.in_flight first.core.status.committed) p) e
    where
      by : (a f : Bool) → a && f ≡ true → a || f ≡ true
      by true f i = refl
      by false f i = absurd (cc i)

  begins_so : Stays first first nothing nothing
  begins_so = record {
    sound = sound;
    unstuck = λ stuck. (let e : power.On ≡ power.Stuck = sym on ∙ stuck in cc e);
    later = λ d. omega arith;
    marked = λ p e. by p (is_settled first.core p) (is_wanted_stale first.core p) refl refl e;
    failed = λ p e. inl e;
    lasting = λ p settled unmade fixed. both_of (is_settled first.core p) (is_wanted_stale first.core p) settled (wanted p (held_of p settled));
  }
    where
      both_of : (a b : Bool) → a ≡ true → b ≡ true → a && b ≡ true
      both_of true b i j = j
      both_of false b i j = absurd (cc i)

      first_of : (h w : Bool) → h || w ≡ true → w ≡ false → h ≡ true
      first_of true w i j = refl
      first_of false w i j = absurd (let f : true ≡ false = sym i ∙ j in cc f)

      by : (p : Pp) (s w : Bool) → is_settled first.core p ≡ s → is_wanted_stale first.core p ≡ w → is_marked first.core p ≡ true → IsStaleFor first first p ⊎ ((is_settled first.core p ≡ true) × (nothing p ≡ false))
      by p true w i j e = inr (i, refl)
      by p false true i j e = inl (inr (inr (inl (ap (λ b. b && not (is_settled first.core p)) j ∙ ap not i))))
      by p false false i j e = absurd (let f : true ≡ false = sym (wanted p (first_of (is_held_stale first.core p) (is_wanted_stale first.core p) e j)) ∙ j in cc f)

  -- one more is passed
  module _ (copies : List Copy) (old new : State) (made : Pp → Bool) (c : Copy) (left : Left first old copies made) where
    fresh_left : (patience after : ℕ) → WasFresh c patience after old new → Left first new (copies ++ c ∷ []) made
    fresh_left patience spare it = record { stays = after.0; none = after.1; made_is = λ place d at settled. by place d settled (at_behind copies c d place at) }
      where
        after : Stays first new made nothing × (new.core.copy ≡ None)
        after = settle_stays c first old new made left.stays left.none (turns_in (IsUnsettled c) it.settles)

        of : (b : Bool) → made c.pp ≡ b → is_settled first.core c.pp ≡ true → b ≡ true
        of true e settled = refl
        of false e settled = absurd (let f : true ≡ false = sym (first_part (is_stale new.core c.pp) (calls_stale (unwrap_or new.core.status.in_flight new.core.status.committed) c.pp) (is_wanted_stale new.core c.pp) (after.0.lasting c.pp settled e refl)) ∙ it.fresh in cc f)
          where
            first_part : (a f w : Bool) → (a && f) && w ≡ true → a ≡ true
            first_part true f w i = refl
            first_part false f w i = absurd (cc i)

        by : (place : ℕ) (d : Copy) → is_settled first.core d.pp ≡ true → (slice_get copies place ≡ Some d) ⊎ (d ≡ c) → made d.pp ≡ true
        by place d settled (inl before) = left.made_is place d before settled
        by place d settled (inr same) = ap (λ (x : Copy). made x.pp) same ∙ of (made c.pp) refl (sym (ap (λ (x : Copy). is_settled first.core x.pp) same) ∙ settled)

    made_left : (patience after : ℕ) → IsMadeFresh c patience after old new → Left first new (copies ++ c ∷ []) (λ p. is_pp c.pp p || made p)
    made_left patience after it = record {
      stays = made_stays c first old new made left.stays left.none patience after it;
      none = made_none c first old new made left.stays left.none patience after it;
      made_is = λ place d at settled. by place d settled (at_behind copies c d place at);
    }
      where
        by : (place : ℕ) (d : Copy) → is_settled first.core d.pp ≡ true → (slice_get copies place ≡ Some d) ⊎ (d ≡ c) → is_pp c.pp d.pp || made d.pp ≡ true
        by place d settled (inl before) = or_right (is_pp c.pp d.pp) (made d.pp) (left.made_is place d before settled)
        by place d settled (inr same) = ap (λ b. b || made d.pp) (ap (λ (x : Copy). is_pp c.pp x.pp) same ∙ own_pp c.pp)

  passes_left : (patience rest : ℕ) (copies : List Copy) (now : State) (tally : Tally) (passes : PassesCopies first no_tally patience copies now tally rest) → tally.fault ≡ None → Left first now copies (λ p. is_made_among p passes)
  passes_left patience spare all now total NonePassed well = record { stays = begins_so; none = shut; made_is = λ place c at settled. absurd (cc at) }
  passes_left patience spare all now total (OnePassed {copies} {old} {new} {tally} {before} c passed.Fresh rest it) well = fresh_left copies old new (λ p. is_made_among p rest) c (passes_left patience before copies old tally rest well) before spare it
  passes_left patience spare all now total (OnePassed {copies} {old} {new} {tally} {before} c passed.Made rest it) well = made_left copies old new (λ p. is_made_among p rest) c (passes_left patience before copies old tally rest well) before spare it
  passes_left patience spare all now total (OnePassed {copies} {old} {new} {tally} c (passed.Failed why) rest it) well = absurd (none tally.fault well)
    where
      none : (m : Option SyncFault) → or_first m why ≡ None → ⊥
      none None e = cc e
      none (Some first_one) e = cc e

  pub leaves_fresh : (patience left : ℕ) (copies : List Copy) (new : State) (tally : Tally) (passes : PassesCopies first no_tally patience copies new tally left) → tally.fault ≡ None → LeavesFresh copies patience left first new tally passes
  leaves_fresh patience rest copies new tally passes well = record {
    made = left.made_is;
    others = λ p settled unmade. left.stays.lasting p settled unmade refl;
    stale = λ place c at stale. by place c at (left.stays.marked c.pp (marked (is_stale new.core c.pp) (calls_stale (unwrap_or new.core.status.in_flight new.core.status.committed) c.pp) (is_wanted_stale new.core c.pp) stale));
  }
    where
      left : Left first new copies (λ p. is_made_among p passes)
      left = passes_left patience rest copies new tally passes well

      marked : (a f w : Bool) → a ≡ true → (a || f) || w ≡ true
      marked true f w e = refl
      marked false f w e = absurd (cc e)

      by : (place : ℕ) (c : Copy) → slice_get copies place ≡ Some c → IsStaleFor first new c.pp ⊎ ((is_settled first.core c.pp ≡ true) × (is_made_among c.pp passes ≡ false)) → IsStaleFor first new c.pp
      by place c at (inl why) = why
      by place c at (inr was) = absurd (let e : true ≡ false = sym (left.made_is place c at was.0) ∙ was.1 in cc e)
