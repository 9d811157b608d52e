-- Landings of reads, tied.
use Rattle.std.proofs.Common.{◌≡◌, ℕ, zero, suc, ◌+◌, ◌-◌, ◌<◌, ◌≤◌, Bool, true, false, ◌||◌, not, List, [], ◌∷◌, ◌++◌, length, take, Option, Some, None, refl, sym, ap, subst, ◌∙◌, arith}
use Rattle.std.specs.Prelude.{IsTrue, if◌then◌else◌, slice_index_or, position, nat_lt, cond}
use Rattle.std.specs.List.{position_or_len, list_any}
use Rattle.std.proofs.lemmas.Bool.Decides.{nat_tests}
use Rattle.std.specs.Option.{option_map_or}
use Rattle.std.proofs.lemmas.List.{length-take}
use Rattle.lvm_num.specs.Buffer.{Buffer, Sector}
use Rattle.lvm_vol.specs.declared.entry.Outcome.{Outcome}
use Rattle.lvm_vol.specs.declared.entry.Outcome.TheVariants as outcome
use Rattle.lvm_vol.specs.Facts.{Request as Asked, Fact, Landed}
use Rattle.lvm_vol.specs.Log.{request_of}
use Rattle.lvm_sched.specs.declared.writes.TargetState.{TargetState}
use Rattle.lvm_sched.specs.declared.writes.TargetState.TheVariants as target
use Rattle.lvm_sched.specs.Writes.{is_flying, is_waiting as target_waits}
use Rattle.lvm_path.specs.declared.facts.Next.TheVariants as next
use Rattle.lvm_path.specs.declared.request.Phase.TheVariants as phase
use Rattle.lvm_path.specs.declared.target.Target.{Target}
use Rattle.lvm_path.specs.Asks.{at_of, count_of, is_write}
use Rattle.lvm_path.specs.Targets.{is_begun, is_done}
use Rattle.lvm_path.specs.Next.{next_in, next_data, next_read}
use Rattle.lvm_session.specs.declared.open.Open.{Open}
use Rattle.lvm_session.specs.State.{Core, State}
use Rattle.lvm_session.specs.Judging.{is_waiting, place_of, facts_of}
use Rattle.lvm_session.specs.Events.{Lands, got_blocks}
use Rattle.lvm_invariant.specs.State.{Badly, Queued, ModelState, is_past}
use Rattle.lvm_invariant.specs.Updates.{landed}
use Rattle.lvm_invariant.specs.LandGot.{LandsGot}
use Rattle.lvm_invariant.specs.LandReadFailed.{ReadFails}
use Rattle.lvm_invariant.specs.Events.{LandGot, LandReadFailed, ModelStep}
use Rattle.lvm_crash.proofs.OwnedLemmas.{covered}
use Rattle.lvm_tie.proofs.AmongLemmas.{any_none}
use Rattle.lvm_tie.specs.Seen.{stage_seen, phase_seen, SeesRequest}
use Rattle.lvm_tie.proofs.TiedLemmas.Orderly.{HasTargets, numbers_of, targets_of}
use Rattle.lvm_tie.specs.Tied.{IsOrderly, IsTied}
use Rattle.lvm_tie.proofs.LandsLemmas.LandTies.{lands_tied}
use Rattle.lvm_tie.proofs.LandsLemmas.MarkedTies.{stage_in}

-- one of those that are taken
taken : (xs : List Sector) (n k : ℕ) → k < n → slice_index_or (take n xs) k [] ≡ slice_index_or xs k []
taken xs zero k lt = absurd (omega arith)
taken [] (suc n) k lt = refl
taken (x ∷ xs) (suc n) zero lt = refl
taken (x ∷ xs) (suc n) (suc k) lt = taken xs n k (omega arith)

-- where none waits
past_all : (ts : List Target) → length ts ≤ position_or_len (λ (t : Target). target_waits t.state) ts → list_any (λ (t : Target). target_waits t.state) ts ≡ false
past_all [] h = refl
past_all (t ∷ ts) h = by (target_waits t.state) h (past_all ts)
  where
    by : (b : Bool) → suc (length ts) ≤ cond (not b) (1 + position_or_len (λ (u : Target). target_waits u.state) ts) 0
        → (length ts ≤ position_or_len (λ (u : Target). target_waits u.state) ts → list_any (λ (u : Target). target_waits u.state) ts ≡ false) → (b || list_any (λ (u : Target). target_waits u.state) ts) ≡ false
    by true h rest = absurd (omega arith)
    by false h rest = rest (omega arith)

pub no_place : (ts : List Target) → position (λ (t : Target). target_waits t.state) ts ≡ None → list_any (λ (t : Target). target_waits t.state) ts ≡ false
no_place ts h = by (nat_lt (position_or_len (λ (t : Target). target_waits t.state) ts) (length ts)) refl h
  where
    by : (b : Bool) → nat_lt (position_or_len (λ (t : Target). target_waits t.state) ts) (length ts) ≡ b → cond b (Some (position_or_len (λ (t : Target). target_waits t.state) ts)) None ≡ None → list_any (λ (t : Target). target_waits t.state) ts ≡ false
    by true is h2 = absurd cc
    by false is h2 = past_all ts (let k : nat_lt (position_or_len (λ (t : Target). target_waits t.state) ts) (length ts) ≡ false = is in grind (arith, nat_tests))

-- A read that has succeeded has all its blocks in hand, and the history has as many; another has nothing in hand.
pub record HasGot (core : Core) (o : Open) : Type 0 where
  pub buf : Buffer
  pub in_hand : o.got ≡ Some buf
  pub long : count_of o.request.ask ≤ length buf.sectors
  pub count : (request_of core.history.facts o.request.id).count ≡ count_of o.request.ask

abbrev pub GotsAre : Core → Open → Bool → Type 0
GotsAre core o true = HasGot core o
GotsAre core o false = o.got ≡ None

-- how a read lands
pub data How (how : Outcome) (done : Bool) (ts : List Target) : Type 0 where
  Got : how ≡ outcome.Got → done ≡ true → How how done ts
  Failed : how ≡ outcome.ReadFailed → done ≡ false → list_any (λ (t : Target). is_flying t.state) ts ≡ false → list_any (λ (t : Target). target_waits t.state) ts ≡ false → How how done ts

how_read : (ts : List Target) (how : Outcome) → next_read ts ≡ next.Land how → How how (list_any (λ (t : Target). is_done t.state) ts) ts
how_read ts how = by (list_any (λ (t : Target). is_done t.state) ts) (list_any (λ (t : Target). is_flying t.state) ts) refl (position (λ (t : Target). target_waits t.state) ts) refl
  where
    by : (a b : Bool) → list_any (λ (t : Target). is_flying t.state) ts ≡ b → (o : Option ℕ) → position (λ (t : Target). target_waits t.state) ts ≡ o
        → (if a then next.Land outcome.Got else if b then next.Wait else option_map_or next.Start o (next.Land outcome.ReadFailed)) ≡ next.Land how → How how a ts
    by true b flies o place h = Got (let e : how ≡ outcome.Got = cc in e) refl
    by false true flies o place h = absurd cc
    by false false flies None place h = Failed (let e : how ≡ outcome.ReadFailed = cc in e) refl flies (no_place ts place)
    by false false flies (Some k) place h = absurd cc

failed_by : (s : TargetState) → is_done s ≡ false → is_flying s ≡ false → target_waits s ≡ false → stage_seen s ≡ Badly
failed_by target.Waiting d f w = absurd cc
failed_by target.Flying d f w = absurd cc
failed_by target.Done d f w = absurd cc
failed_by target.Failed d f w = refl

module _ (past : List Fact) (old new : State) (place : ℕ) (result : Outcome) (lands : Lands old new place result) (tied : IsTied past old) (waits : is_waiting lands.request ≡ true)
    (moving : lands.request.request.phase ≡ phase.Data) (reads : is_write lands.request.request.ask ≡ false) (begun : is_begun lands.request.request.targets.items ≡ true) where
  abbrev o : Open
  o = lands.request

  abbrev ts : List Target
  ts = o.request.targets.items

  abbrev v : ModelState
  v = tied.view

  abbrev i : ℕ
  i = place_of o.request.id

  abbrev q : Queued
  q = (tied.sees.queue.requests place o lands.there).0

  at : v.queue i ≡ Some q
  at = (tied.sees.queue.requests place o lands.there).1

  sees : SeesRequest o q
  sees = (tied.sees.queue.requests place o lands.there).2

  its : HasTargets old.core o
  its = targets_of old tied.write tied.orderly place o lands.there waits

  is_on : IsTrue (is_past q.phase)
  is_on = ap is_past (sees.phase ∙ (λ k. phase_seen (moving k) (begun k)))

  how : How result (list_any (λ (t : Target). is_done t.state) ts) ts
  how = how_read ts result (sym ((λ k. next_in (moving k) (facts_of old.core o.request) o.request) ∙ (λ k. if reads k then next_data (facts_of old.core o.request) o.request else next_read ts)) ∙ lands.lands)

  pub lands_got : HasGot old.core o → LandsGot v i q (got_blocks (count_of o.request.ask) o.got)
  lands_got has =
      let seen = sees.got has.buf has.in_hand in
      let got : got_blocks (count_of o.request.ask) o.got ≡ take (count_of o.request.ask) has.buf.sectors = ap (got_blocks (count_of o.request.ask)) has.in_hand in
      let name : v.name i ≡ request_of old.core.history.facts o.request.id = tied.sees.queue.names place o lands.there in
      record {
        there = at;
        request = sees.step;
        read = sees.write ∙ reads;
        past = is_on;
        value = seen.0;
        has = seen.1;
        whole =
            let long : count_of o.request.ask ≤ length has.buf.sectors = has.long in
            let n : length (take (count_of o.request.ask) has.buf.sectors) ≡ count_of o.request.ask = let e = length-take (count_of o.request.ask) has.buf.sectors in omega (arith, e, long) in
            ap length got ∙ n ∙ sym (ap (λ (r : Asked). r.count) name ∙ has.count);
        blocks = λ lv b over.
            let c = covered q lv b over in
            let low : q.first ≤ b = c.1 in
            let high : b < q.first + q.count = c.2 in
            let first : q.first ≡ at_of o.request.ask = sees.first in
            let count : q.count ≡ count_of o.request.ask = sees.count in
            let first_is : (v.name i).at ≡ q.first = ap (λ (r : Asked). r.at) name ∙ its.first ∙ sym sees.first in
            let within : b - q.first < count_of o.request.ask = omega arith in
            (λ k. slice_index_or (got k) (b - first_is k) []) ∙ taken has.buf.sectors (count_of o.request.ask) (b - q.first) within ∙ sym (seen.2 b);
      }

  pub read_fails : list_any (λ (t : Target). is_done t.state) ts ≡ false → list_any (λ (t : Target). is_flying t.state) ts ≡ false → list_any (λ (t : Target). target_waits t.state) ts ≡ false → ReadFails v i q
  read_fails done flies waits = record {
    there = at;
    request = sees.step;
    read = sees.write ∙ reads;
    past = is_on;
    failed = λ c stage is.
        let x = stage_in ts c stage (sym (sees.targets c) ∙ is) in
        x.is ∙ failed_by x.aim.state (any_none (λ (t : Target). is_done t.state) ts x.aim done x.one) (any_none (λ (t : Target). is_flying t.state) ts x.aim flies x.one) (any_none (λ (t : Target). target_waits t.state) ts x.aim waits x.one);
  }

  pub tied_after : GotsAre old.core o (list_any (λ (t : Target). is_done t.state) ts) → IsOrderly new tied.write → IsTied past new
  tied_after gots orderly = by how
    where
      by : How result (list_any (λ (t : Target). is_done t.state) ts) ts → IsTied past new
      by (Got got done) =
          let has : HasGot old.core o = subst (GotsAre old.core o) done gots in
          let step : ModelStep tied.votes (LandGot i q (got_blocks (count_of o.request.ask) o.got)) v (landed v i q (v.facts ++ Landed (v.name i) result (is_begun ts) (got_blocks (count_of o.request.ask) o.got) ∷ [])) = (lands_got has, λ k. landed v i q (v.facts ++ Landed (v.name i) (got k) (begun k) (got_blocks (count_of o.request.ask) o.got) ∷ [])) in
          lands_tied past old new place result lands tied q (LandGot i q (got_blocks (count_of o.request.ask) o.got)) (numbers_of old tied.write tied.orderly) at sees step tt orderly
      by (Failed failed done flies waits) =
          let empty : o.got ≡ None = subst (GotsAre old.core o) done gots in
          let none : got_blocks (count_of o.request.ask) o.got ≡ [] = ap (got_blocks (count_of o.request.ask)) empty in
          let step : ModelStep tied.votes (LandReadFailed i q) v (landed v i q (v.facts ++ Landed (v.name i) result (is_begun ts) (got_blocks (count_of o.request.ask) o.got) ∷ [])) = (read_fails done flies waits, λ k. landed v i q (v.facts ++ Landed (v.name i) (failed k) (begun k) (none k) ∷ [])) in
          lands_tied past old new place result lands tied q (LandReadFailed i q) (numbers_of old tied.write tied.orderly) at sees step tt orderly
