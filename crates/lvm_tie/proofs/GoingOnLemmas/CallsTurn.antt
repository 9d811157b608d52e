-- A good session goes on over the calls of its clients.
use Rattle.std.proofs.Common.{◌≡◌, ℕ, List, Option, Some, None, Result, Ok, Err, refl, sym, ap, subst, ◌∙◌, ◌⊎◌, inl, inr}
use Rattle.std.specs.Prelude.{MatchOption, position}
use Rattle.lvm_vol.specs.declared.entry.Outcome.{Outcome}
use Rattle.lvm_vol.specs.declared.entry.Vol.TheVariants.{Lv}
use Rattle.lvm_vol.specs.Facts.{Begun}
use Rattle.lvm_vol.specs.Log.{next_id, next_request}
use Rattle.lvm_path.specs.declared.ask.Ask.{Ask}
use Rattle.lvm_path.specs.Asks.{lv_of, at_of, count_of}
use Rattle.lvm_session.specs.declared.open.Open.{Open}
use Rattle.lvm_session.specs.declared.open.Power.{Power}
use Rattle.lvm_session.specs.declared.open.Power.TheVariants as power
use Rattle.lvm_session.specs.State.{Core, state}
use Rattle.lvm_session.specs.declared.answers.AskFault.{AskFault}
use Rattle.lvm_session.specs.declared.answers.AskFault.TheVariants as fault
use Rattle.lvm_session.specs.declared.answers.CopyFault.{CopyFault}
use Rattle.lvm_session.specs.declared.answers.OpenFault.{OpenFault}
use Rattle.lvm_session.specs.declared.answers.OpenFault.TheVariants as denial
use Rattle.lvm_session.specs.declared.answers.Taken.{Taken}
use Rattle.lvm_session.specs.declared.answers.Taken.TheVariants as answered
use Rattle.lvm_session.specs.Calls.{submitted, Opens, TakeAt, TakesLanded, TakeGives, ask_fault, copy_fault, fault_by, fault_on, is_asked, OpensMove, move_fault}
use Rattle.lvm_tie.proofs.LandsLemmas.TakeTies.{take_ties}
use Rattle.lvm_tie.proofs.RequestsLemmas.SubmitTies.{submit_ties}
use Rattle.lvm_tie.proofs.CallsLemmas.CloseTies.{close_ties}
use Rattle.lvm_tie.proofs.CallsLemmas.OpenTies.{open_ties}
use Rattle.lvm_tie.proofs.CallsLemmas.OpenMoveTies.{open_move_ties}
use Rattle.lvm_tie.proofs.OverLemmas.Orders.{order_goes_on, order_ties}
use Rattle.lvm_tie.proofs.OverLemmas.Taking.{take_goes_on}
use Rattle.lvm_tie.specs.GoingOn.{SessionGoesOn, SubmitGoesOn, AnswerGoesOn, OpenGoesOn, OpenMoveGoesOn, CloseGoesOn, ArrangeGoesOn}
use Rattle.lvm_tie.proofs.GoingOnLemmas.Spanning.{goes_same, goes_still, goes_entry}

-- ---- requests

-- what a submission gives where the fault is this one
abbrev Submitted : Core → Core → ℕ → Ask → Option (List ℕ) → Result ℕ AskFault → Option AskFault → Type 0
Submitted old new client ask bytes answer fault = MatchOption fault ((answer ≡ Ok (next_id old.history)) × (new ≡ submitted old client ask bytes)) (λ (why : AskFault). (answer ≡ Err why) × (new ≡ old))

pub submit_goes_on : SubmitGoesOn
submit_goes_on run s new client ask bytes answer unstuck sound asks gives = by s.core.power refl
  where
    refused : (why : AskFault) → ask_fault s.core ask ≡ Some why → SessionGoesOn run s (state s.device new)
    refused why is = goes_same run s (state s.device new) (ap (λ (c : Core). state s.device c) (subst (Submitted s.core new client ask bytes answer) is gives).1)

    taken : s.core.power ≡ power.On → (m : Option AskFault) → ask_fault s.core ask ≡ m → SessionGoesOn run s (state s.device new)
    taken on (Some why) is = refused why is
    taken on None is = goes_entry run s (state s.device new) (λ past tied. submit_ties past s new client ask bytes answer tied sound asks gives) on
        (Begun (next_request s.core.history client (Lv (lv_of ask)) (at_of ask) (count_of ask) bytes)) refl (ap (λ (c : Core). c.history.facts) (subst (Submitted s.core new client ask bytes answer) is gives).1)

    by : (p : Power) → s.core.power ≡ p → SessionGoesOn run s (state s.device new)
    by power.On is = taken is (ask_fault s.core ask) refl
    by power.Off is = refused fault.Off (ap (λ (p : Power). fault_by p (fault_on s.core ask)) is)
    by power.Dark is = refused fault.Dark (ap (λ (p : Power). fault_by p (fault_on s.core ask)) is)
    by power.Stuck is = absurd (unstuck is)

-- ---- answers

-- the power stays
taken_power : (old new : Core) (client id : ℕ) (answer : Taken) → TakeGives old new client id answer → new.power ≡ old.power
taken_power old new client id answer gives = by (position (is_asked client id) old.requests) gives
  where
    landed : (place : ℕ) (o : Open) (m : Option Outcome) → TakesLanded old new place o answer m → new.power ≡ old.power
    landed place o None gives = ap (λ (c : Core). c.power) gives.1
    landed place o (Some how) gives = ap (λ (c : Core). c.power) gives.1

    by : (m : Option ℕ) → MatchOption m ((answer ≡ answered.Unknown) × (new ≡ old)) (λ (place : ℕ). TakeAt old new place answer) → new.power ≡ old.power
    by None gives = ap (λ (c : Core). c.power) gives.1
    by (Some place) gives = landed place gives.0 gives.0.landed gives.2

pub answer_goes_on : AnswerGoesOn
answer_goes_on s new client id answer was_sound sound gives first good = (
  λ on past begins. take_ties past s new client id answer (good (sym (taken_power s.core new client id answer gives) ∙ on) past begins) sound gives,
  take_goes_on first s (state s.device new) client id answer was_sound (record { device = refl; takes = gives }),
)

-- ---- copies

pub open_goes_on : OpenGoesOn
open_goes_on run s new counts lv lp number answer sound gives = by (copy_fault s.core lv lp number) gives
  where
    by : (m : Option CopyFault) → MatchOption m ((answer ≡ Ok tt) × Opens counts s.core new lv lp number) (λ (why : CopyFault). (answer ≡ Err why) × (new ≡ s.core)) → SessionGoesOn run s (state s.device new)
    by None given = goes_still run s (state s.device new) (λ past tied. open_ties past s new counts lv lp number answer tied sound gives)
        (λ on. sym (ap (λ (c : Core). c.power) given.1.is) ∙ on) refl (ap (λ (c : Core). c.history.facts) given.1.is)
    by (Some why) given = goes_same run s (state s.device new) (ap (λ (c : Core). state s.device c) given.1)

pub open_move_goes_on : OpenMoveGoesOn
open_move_goes_on run s new counts lv lp number to answered sound gives = by (move_fault s.core lv lp number to) gives
  where
    by : (m : Option OpenFault) → MatchOption m (((answered ≡ Ok tt) × OpensMove counts s.core new lv lp number to) ⊎ ((answered ≡ Err denial.Memory) × (new ≡ s.core))) (λ (why : OpenFault). (answered ≡ Err why) × (new ≡ s.core)) → SessionGoesOn run s (state s.device new)
    by None (inl given) = goes_still run s (state s.device new) (λ past tied. open_move_ties past s new counts lv lp number to answered tied sound gives)
        (λ on. sym (ap (λ (c : Core). c.power) given.1.is) ∙ on) refl (ap (λ (c : Core). c.history.facts) given.1.is)
    by None (inr given) = goes_same run s (state s.device new) (ap (λ (c : Core). state s.device c) given.1)
    by (Some why) given = goes_same run s (state s.device new) (ap (λ (c : Core). state s.device c) given.1)

pub close_goes_on : CloseGoesOn
close_goes_on run s new sound closes = goes_still run s (state s.device new) (λ past tied. close_ties past s new tied sound closes)
    (λ on. sym (ap (λ (c : Core). c.power) closes.is) ∙ on) refl (ap (λ (c : Core). c.history.facts) closes.is)

-- ---- orders

pub arrange_goes_on : ArrangeGoesOn
arrange_goes_on run old new what done unstuck was_sound sound order first good = (order_ties run first old new what done good sound order, order_goes_on run first old new what done unstuck was_sound good order)
