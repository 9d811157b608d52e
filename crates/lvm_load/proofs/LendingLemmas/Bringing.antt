-- A session that is lent goes on serving, whatever is done for one of its copies.
use Rattle.std.proofs.Common.{◌≡◌, ◌||◌, ℕ, cond, Bool, true, false, List, [], ◌∷◌, Option, refl, sym, ap, ◌∙◌, subst}
use Rattle.std.specs.Prelude.{Result, Ok, Err, map, nat_lt}
use Rattle.std.specs.List.{list_any}
use Rattle.std.proofs.lemmas.List.{append-nil}
use Rattle.lvm_num.specs.Buffer.{Sector}
use Rattle.lvm_disk.specs.Counts.{Counts}
use Rattle.lvm_disk.specs.Device.{Device}
use Rattle.lvm_vol.specs.Fronts.{own}
use Rattle.lvm_vol.specs.Log.{Log}
use Rattle.lvm_session.specs.declared.answers.CopyFault.{CopyFault}
use Rattle.lvm_session.specs.declared.answers.CopyFault.TheVariants as refusal
use Rattle.lvm_session.specs.declared.answers.CopyState.{CopyState}
use Rattle.lvm_session.specs.declared.answers.CopyState.TheVariants as stage
use Rattle.lvm_session.specs.declared.answers.Turned.{Turned}
use Rattle.lvm_session.specs.declared.answers.Turned.TheVariants as turned
use Rattle.lvm_session.specs.declared.open.Open.{Open}
use Rattle.lvm_session.specs.Calls.{OpenGives, aged, closed, copy_state, is_asked}
use Rattle.lvm_session.specs.Sound.{IsSound}
use Rattle.lvm_session.specs.State.{Core, State}
use Rattle.lvm_session.specs.Turns.{TurnMakes}
use Rattle.lvm_keeps_events.specs.Telling.{TurnTells}
use Rattle.lvm_driver.specs.passed.Going.{LeavesSession, RunsOn}
use Rattle.lvm_driver.proofs.passed.Going.{goes_any, path_frames}
use Rattle.lvm_ranges.specs.Passing.{Runs}
use Rattle.lvm_ranges.proofs.CallsLemmas.{opened_so, refused_for}
use Rattle.lvm_ranges.proofs.PassingLemmas.Bringing.{runs_under_way}
use Rattle.lvm_ranges.proofs.TurningLemmas.{finds_of}
use Rattle.lvm_workers.specs.declared.bring.Brought.{Brought}
use Rattle.lvm_workers.specs.declared.bring.Brought.TheVariants as brought
use Rattle.lvm_workers.specs.Bringing.{BringGives}
use Rattle.lvm_load.specs.Bringing.{BringsIf, BringsOn, ByClosing, ByOpening, ByTurn, EntersNone, OneTurn, behind_opening, behind_turn, number_of}
use Rattle.lvm_load.specs.Lending.{HoldsOpen, IsServing, KeepsServing, Plan, told_in}
use Rattle.lvm_load.specs.Waits.{waits_in}
use Rattle.lvm_load.proofs.LendingLemmas.Keeping.{keeps_brought, keeps_none, keeps_runs}
use Rattle.lvm_load.proofs.LendingLemmas.Owning.{none_same, turn_adds}
use Rattle.lvm_load.proofs.LendingLemmas.Serving.{adds_none, grows, serves_on, turn_holds}

-- ---- a copy is opened or closed

-- requests whose targets were chosen before are asked for as they were
aged_asked : (client id : ℕ) (os : List Open) → list_any (is_asked client id) (map aged os) ≡ list_any (is_asked client id) os
aged_asked client id [] = refl
aged_asked client id (o ∷ os) = ap (λ b. is_asked client id o || b) (aged_asked client id os)

-- one that is opened, or isn't
pub opening_enters : (counts : Counts) (old new : State) (lv lp number : ℕ) (answer : Result (Unit {0}) CopyFault) → OpenGives counts old.core new.core lv lp number answer → new.device ≡ old.device → LeavesSession old new → EntersNone old new
opening_enters counts old new lv lp number (Ok done) gives same leaves =
    let is = (opened_so counts old.core new.core lv lp number gives).1.is in
    record {
      leaves = leaves;
      orders = ap (λ (d : Device). d.orders) same;
      history = ap (λ (c : Core). c.history) is;
      asked = λ client id. ap (λ (c : Core). list_any (is_asked client id) c.requests) is ∙ aged_asked client id old.core.requests;
    }
opening_enters counts old new lv lp number (Err why) gives same leaves =
    let is = (refused_for counts old.core new.core lv lp number why gives).1 in
    record {
      leaves = leaves;
      orders = ap (λ (d : Device). d.orders) same;
      history = ap (λ (c : Core). c.history) is;
      asked = λ client id. ap (λ (c : Core). list_any (is_asked client id) c.requests) is;
    }

pub closing_enters : (old new : State) → new.core ≡ closed old.core → RunsOn old new → EntersNone old new
closing_enters old new is runs = record {
  leaves = goes_any runs;
  orders = (path_frames runs).orders;
  history = ap (λ (c : Core). c.history) is;
  asked = λ client id. ap (λ (c : Core). list_any (is_asked client id) c.requests) is;
}

-- ---- what is answered

next_isnt : brought.Next ≡ brought.Idle → ⊥
next_isnt e = cc e

over_isnt : brought.Over ≡ brought.Idle → ⊥
over_isnt e = cc e

either_isnt : (more : Bool) → cond more brought.Next brought.Over ≡ brought.Idle → ⊥
either_isnt true e = next_isnt e
either_isnt false e = over_isnt e

never_idle : (given : Result (Unit {0}) CopyFault) (number : ℕ) → behind_opening given number ≡ brought.Idle → ⊥
never_idle (Ok done) number e = cc e
never_idle (Err refusal.OutOfRange) number e = either_isnt (nat_lt 1 number) e
never_idle (Err refusal.Busy) number e = next_isnt e
never_idle (Err refusal.AlreadyFresh) number e = next_isnt e
never_idle (Err (refusal.Missing disk)) number e = next_isnt e
never_idle (Err refusal.NoFresh) number e = next_isnt e
never_idle (Err refusal.Dark) number e = over_isnt e
never_idle (Err refusal.Off) number e = over_isnt e
never_idle (Err refusal.NoVolume) number e = over_isnt e
never_idle (Err refusal.HistoryFull) number e = over_isnt e

-- nothing is heard behind a turn that found nothing to do
pub idle_behind : (said : Turned) → behind_turn said ≡ brought.Idle → said ≡ turned.Idle
idle_behind turned.Idle e = refl
idle_behind turned.Moved e = absurd (cc e)
idle_behind turned.Dark e = absurd (cc e)
idle_behind turned.Off e = absurd (cc e)

-- something was done, behind one that found something
pub moved_turn : (said : Turned) → (said ≡ turned.Idle → ⊥) → brought.Moved ≡ behind_turn said
moved_turn turned.Idle not = absurd (not refl)
moved_turn turned.Moved not = refl
moved_turn turned.Dark not = refl
moved_turn turned.Off not = refl

-- what a copy that isn't open, or is running, can't be
pub not_closed : (s : CopyState) (c : Core) → copy_state c ≡ s → (s ≡ stage.Closed → ⊥) → copy_state c ≡ stage.Closed → ⊥
not_closed s c is not closed_so = not (sym is ∙ closed_so)

pub not_running : (s : CopyState) (c : Core) → copy_state c ≡ s → ((cursor : ℕ) → s ≡ stage.Running cursor → ⊥) → (cursor : ℕ) → copy_state c ≡ stage.Running cursor → ⊥
not_running s c is not cursor runs = not cursor (sym is ∙ runs)

-- ---- what is given to the one that brings up copies

module _ {V : Type 0} (plan : Plan) (s_of : V → State) (always : V → Type 0) (past : V → Option (List (List Sector))) (pasts : (v w : V) → past v ≡ past w) (x y : V) (was : IsServing plan (s_of x)) (at : ℕ) where
  abbrev Brings : V → Brought → V → Type 0
  Brings v said w = BringsIf plan.sync plan.lv at (s_of v) (s_of w) said

  abbrev Gives : Brought → Type 0
  Gives answer = BringGives (λ v. told_in (s_of v)) past always waits_in Brings x answer y

  -- nothing is done
  pub nothing_brings : plan.sync ≡ false → s_of y ≡ s_of x → always y → Gives brought.Over
  nothing_brings off same holds = record {
    more = [];
    grows = grows plan s_of always past pasts x y [] (ap (λ (s : State). s.core.history.facts) same ∙ sym (append-nil (s_of x).core.history.facts))
        (subst (λ (s : State). KeepsServing plan.sync (s_of x) s) (sym same) (keeps_none plan.sync (s_of x))) holds;
    others = λ c. refl;
    idle = λ e. absurd (cc e);
    makes = subst (λ (b : Bool). BringsIf b plan.lv at (s_of x) (s_of y) brought.Over) (sym off) (same, refl);
  }

  -- a copy is opened or closed
  enters_holds : EntersNone (s_of x) (s_of y) → HoldsOpen (s_of y).core
  enters_holds none c before r ends = none.asked c r.id ∙ was.holds c before r (sym (ap (λ (l : Log). own c l.facts) none.history) ∙ ends)

  pub enters_serves : plan.sync ≡ true → EntersNone (s_of x) (s_of y) → IsSound (s_of y) → IsServing plan (s_of y)
  enters_serves on none sound =
      serves_on plan 0 (s_of x) (s_of y) was sound (keeps_brought plan.sync (s_of x) (s_of y) on none.leaves none.orders)
      (adds_none plan.clients 0 (s_of x).core.history.facts (s_of y).core.history.facts (none_same (s_of x).core.history.facts (s_of y).core.history.facts (ap (λ (l : Log). l.facts) none.history)))
      (enters_holds none)

  enters_brings : (answer : Brought) → (answer ≡ brought.Idle → ⊥) → plan.sync ≡ true → BringsOn plan.lv at (s_of x) (s_of y) answer → EntersNone (s_of x) (s_of y) → always y → Gives answer
  enters_brings answer not on brings none holds = record {
    more = [];
    grows = grows plan s_of always past pasts x y [] (ap (λ (l : Log). l.facts) none.history ∙ sym (append-nil (s_of x).core.history.facts)) (keeps_brought plan.sync (s_of x) (s_of y) on none.leaves none.orders) holds;
    others = λ c. refl;
    idle = λ e. absurd (not e);
    makes = subst (λ (b : Bool). BringsIf b plan.lv at (s_of x) (s_of y) answer) (sym on) brings;
  }

  -- a turn is made
  pub turn_serves_all : (said : Turned) → TurnMakes (s_of x) (s_of y) said → RunsOn (s_of x) (s_of y) → IsSound (s_of y) → IsServing plan (s_of y)
  turn_serves_all said made runs sound =
      serves_on plan 0 (s_of x) (s_of y) was sound (keeps_runs plan.sync (s_of x) (s_of y) runs)
      (adds_none plan.clients 0 (s_of x).core.history.facts (s_of y).core.history.facts (turn_adds (s_of x) (s_of y) said made))
      (turn_holds (s_of x) (s_of y) said made was.holds)

  turn_brings : (said : Turned) (answer : Brought) → (answer ≡ brought.Idle → said ≡ turned.Idle) → plan.sync ≡ true → BringsOn plan.lv at (s_of x) (s_of y) answer → Runs (s_of x).core → TurnMakes (s_of x) (s_of y) said → TurnTells (s_of x) (s_of y) said
      → RunsOn (s_of x) (s_of y) → always y → Gives answer
  turn_brings said answer idle on brings running made tells runs holds =
      let adds = turn_adds (s_of x) (s_of y) said made in
      record {
        more = adds.more;
        grows = grows plan s_of always past pasts x y adds.more adds.is (keeps_runs plan.sync (s_of x) (s_of y) runs) holds;
        others = λ c. adds.nobodys c;
        idle = λ e. (finds_of (s_of x) (s_of y) (runs_under_way (s_of x) was.sound running) (subst (λ (t : Turned). TurnTells (s_of x) (s_of y) t) (idle e) tells)).waits.waits;
        makes = subst (λ (b : Bool). BringsIf b plan.lv at (s_of x) (s_of y) answer) (sym on) brings;
      }

  -- either
  pub brought_serves : (answer : Brought) → plan.sync ≡ true → BringsOn plan.lv at (s_of x) (s_of y) answer → IsSound (s_of y) → IsServing plan (s_of y)
  brought_serves answer on (ByOpening none_open none given gives says) sound = enters_serves on none sound
  brought_serves answer on (ByTurn cursor is (OneTurn said running made tells runs says)) sound = turn_serves_all said made runs sound
  brought_serves answer on (ByClosing still ended none is says) sound = enters_serves on none sound

  pub brought_gives : (answer : Brought) → plan.sync ≡ true → BringsOn plan.lv at (s_of x) (s_of y) answer → always y → Gives answer
  brought_gives answer on (ByOpening none_open none given gives says) holds =
      enters_brings answer (λ (idle : answer ≡ brought.Idle). never_idle given (number_of at) (sym says ∙ idle)) on (ByOpening none_open none given gives says) none holds
  brought_gives answer on (ByTurn cursor is (OneTurn said running made tells runs says)) holds =
      turn_brings said answer (λ (idle : answer ≡ brought.Idle). idle_behind said (sym says ∙ idle)) on (ByTurn cursor is (OneTurn said running made tells runs says)) running made tells runs holds
  brought_gives answer on (ByClosing still ended none is says) holds =
      enters_brings answer (λ (idle : answer ≡ brought.Idle). next_isnt (sym says ∙ idle)) on (ByClosing still ended none is says) none holds
