-- The answers of a range of an earlier session, one after the other, beside a session that runs on.
use Rattle.std.proofs.Common.{◌≡◌, ◌≤◌, ◌<◌, ◌+◌, ◌==◌, ◌&&◌, ℕ, zero, suc, true, false, List, [], ◌∷◌, ◌++◌, Some, refl, sym, ◌∙◌, ap, subst, append_assoc, arith}
use Rattle.std.specs.Prelude.{is_some}
use Rattle.std.specs.List.{list_any}
use Rattle.std.proofs.lemmas.Bool.{ne_eqb}
use Rattle.std.proofs.lemmas.List.{append-nil}
use Rattle.lvm_vol.specs.Facts.{Fact, Taken}
use Rattle.lvm_vol.specs.Log.{asked, is_answered, lands_id, request_of, takes_id, taken_fact, with_fact}
use Rattle.lvm_vol.proofs.LogLemmas.{and_left, follows_taken, found_of}
use Rattle.lvm_history.proofs.LogLemmas.Staying.{answered_stays, request_stays}
use Rattle.lvm_session.specs.declared.open.Power.TheVariants as power
use Rattle.lvm_session.specs.Calls.{is_asked}
use Rattle.lvm_session.specs.Sound.{IsSound}
use Rattle.lvm_session.specs.State.{State, state}
use Rattle.lvm_going.specs.Going.{TakesEarlier}
use Rattle.lvm_going.proofs.EarlierLemmas.{one_keeps}
use Rattle.lvm_ranges.specs.passed.Posts.{Asked, AreAnswered, takings}
use Rattle.lvm_ranges.specs.passed.Tie.{RunsOn}
use Rattle.lvm_ranges.proofs.passed.Tie.{runs_both, runs_none}
use Rattle.lvm_handover.proofs.passed.Going.{runs_one}
use Rattle.lvm_handover.specs.Earlier.{AreGone, EarlierStaysBeside, StaysBeside, with_taken}

-- ---- one answer

module _ (s : State) (id : ℕ) (its : is_answered s.core.history.facts 1 id ≡ true) (gone : list_any (is_asked 1 id) s.core.requests ≡ false) where
  abbrev pub after : State
  after = state s.device (record s.core { history = with_fact s.core.history (taken_fact s.core.history.facts id) })

  pub runs_after : s.core.power ≡ power.On → RunsOn s after
  runs_after on = runs_one (TakesEarlier id (record { on = on; answered = its; gone = gone; is = refl }) refl)

-- ---- all of a range

-- a request that is answered was asked for
its_found : (facts : List Fact) (id : ℕ) → is_answered facts 1 id ≡ true → asked facts id ≡ Some (request_of facts id)
its_found facts id answered =
    let front = and_left (is_some (asked facts id) && (request_of facts id).client == 1 && list_any (lands_id id) facts) _ answered in
    let front2 = and_left (is_some (asked facts id) && (request_of facts id).client == 1) (list_any (lands_id id) facts) front in
    (found_of facts id (and_left (is_some (asked facts id)) ((request_of facts id).client == 1) front2)).found

module _ (s : State) (range : Asked) (sound : IsSound s) (answered : AreAnswered s.core.history.facts range) (gone : AreGone s.core range) where
  abbrev facts : List Fact
  facts = s.core.history.facts

  -- with these entries more
  abbrev with_more : List Fact → State
  with_more more = state s.device (record s.core { history = record s.core.history { facts = facts ++ more } })

  -- once so many answers are taken
  record Beside (n : ℕ) : Type 0 where
    sound_then : IsSound (with_more (takings facts range.first n))
    runs : s.core.power ≡ power.On → RunsOn s (with_more (takings facts range.first n))
    left : (k : ℕ) → n ≤ k → k < range.pieces → is_answered (facts ++ takings facts range.first n) 1 (range.first + k) ≡ true

  none_taken : s ≡ with_more []
  none_taken = sym (ap (λ (fs : List Fact). state s.device (record s.core { history = record s.core.history { facts = fs } })) (append-nil facts))

  at_first : Beside 0
  at_first = record {
    sound_then = subst IsSound none_taken sound;
    runs = λ on. subst (RunsOn s) none_taken (runs_none s);
    left = λ k low less. subst (λ (fs : List Fact). is_answered fs 1 (range.first + k) ≡ true) (sym (append-nil facts)) (answered k less);
  }

  one_more : (n : ℕ) → n < range.pieces → Beside n → Beside (suc n)
  one_more n less so_far = record {
    sound_then = subst IsSound then_is (one_keeps mid so_far.sound_then id its gone_now);
    runs = λ on. subst (RunsOn s) then_is (runs_both s mid (after mid id its gone_now) (so_far.runs on) (runs_after mid id its gone_now on));
    left = λ k low below. subst (λ (fs : List Fact). is_answered fs 1 (range.first + k) ≡ true) facts_then
        (answered_stays mid.core.history.facts (taken_fact mid.core.history.facts id) 1 (range.first + k) (so_far.left k (omega (arith, low)) below) (other k low));
  }
    where
      mid : State
      mid = with_more (takings facts range.first n)

      id : ℕ
      id = range.first + n

      its : is_answered mid.core.history.facts 1 id ≡ true
      its = so_far.left n (omega arith) less

      gone_now : list_any (is_asked 1 id) mid.core.requests ≡ false
      gone_now = gone n less

      same_entry : taken_fact mid.core.history.facts id ≡ taken_fact facts id
      same_entry = ap Taken (request_stays facts (takings facts range.first n) id (request_of facts id) (its_found facts id (answered n less)))

      facts_then : mid.core.history.facts ++ taken_fact mid.core.history.facts id ∷ [] ≡ facts ++ takings facts range.first (suc n)
      facts_then = append_assoc facts (takings facts range.first n) _ ∙ ap (λ (f : Fact). facts ++ (takings facts range.first n ++ f ∷ [])) same_entry

      then_is : after mid id its gone_now ≡ with_more (takings facts range.first (suc n))
      then_is = ap (λ (fs : List Fact). state s.device (record s.core { history = record s.core.history { facts = fs } })) facts_then

      other : (k : ℕ) → suc n ≤ k → takes_id (range.first + k) (taken_fact mid.core.history.facts id) ≡ false
      other k low =
          let own = (follows_taken mid.core.history.facts mid.core.history.run 1 id its).2 in
          ne_eqb (request_of mid.core.history.facts id).id (range.first + k) (λ e. absurd (omega (arith, own, e, low)))

  beside : (n : ℕ) → n ≤ range.pieces → Beside n
  beside zero low = at_first
  beside (suc n) low = one_more n (omega (arith, low)) (beside n (omega (arith, low)))

  pub stays : StaysBeside s (state s.device (with_taken range s.core))
  stays = let it = beside range.pieces (omega arith) in record { sound = it.sound_then; runs = it.runs }

pub stays_beside : EarlierStaysBeside
stays_beside s range sound answered gone = stays s range sound answered gone
