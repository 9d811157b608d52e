-- Answers that are taken.
use Rattle.std.proofs.Common.{◌≡◌, ℕ, List, [], ◌∷◌, ◌++◌, Option, Some, None, position, slice_get, refl, sym, ap, subst}
use Rattle.std.specs.Prelude.{MatchOption, is_none}
use Rattle.lvm_num.proofs.Lists.{all_at}
use Rattle.lvm_vol.specs.declared.entry.Outcome.{Outcome}
use Rattle.lvm_vol.specs.Facts.{Fact, Taken}
use Rattle.lvm_vol.specs.Log.{request_of}
use Rattle.lvm_vol.proofs.LawsLemmas.Legality.{fits_taken, legal_prefix}
use Rattle.lvm_vol.proofs.LegalLemmas.{unjoined}
use Rattle.lvm_kept.specs.Moments.{Moment}
use Rattle.lvm_steps.specs.Moments.{Keeps}
use Rattle.lvm_steps.specs.Requests.{at}
use Rattle.lvm_steps.proofs.EnteringLemmas.{quiet_goes_on}
use Rattle.lvm_session.specs.declared.answers.Taken.{Taken as Answer}
use Rattle.lvm_session.specs.declared.answers.Taken.TheVariants as answer
use Rattle.lvm_session.specs.Calls.{is_asked, TakeAt, TakesLanded}
use Rattle.lvm_session.specs.declared.open.Open.{Open}
use Rattle.lvm_session.specs.State.{Core, State}
use Rattle.lvm_session.specs.Sound.{IsAsked, IsSound}
use Rattle.lvm_tie.specs.Over.{TakeGoesOn}

module _ (first : Moment) (old : State) (sound : IsSound old) (span : Keeps old.core.history.run first (at old.device old.core.history.facts)) where
  abbrev facts : List Fact
  facts = old.core.history.facts

  taken : (place : ℕ) (o : Open) (how : Outcome) → slice_get old.core.requests place ≡ Some o → o.landed ≡ Some how → Keeps old.core.history.run first (at old.device (facts ++ Taken (request_of facts o.request.id) ∷ []))
  taken place o how there landed =
      let asked = all_at (IsAsked facts) old.core.requests place o sound.told.requests there in
      quiet_goes_on old.core.history.run first old.device facts (Taken (request_of facts o.request.id)) span tt (λ past begins holds.
      unjoined past facts (request_of facts o.request.id)
      (fits_taken past old.core.history o.request.client o.request.id (legal_prefix past facts holds.legal) begins.own sound.told.ordered (asked.answered (ap (λ (m : Option Outcome). is_none m) landed))))

  by_landed : (new : Core) (place : ℕ) (o : Open) (answered : Answer) (m : Option Outcome) → slice_get old.core.requests place ≡ Some o → o.landed ≡ m → TakesLanded old.core new place o answered m
      → Keeps old.core.history.run first (at old.device new.history.facts)
  by_landed new place o answered None there is gives = subst (λ (c : Core). Keeps old.core.history.run first (at old.device c.history.facts)) (sym gives.1) span
  by_landed new place o answered (Some how) there is gives = subst (λ (c : Core). Keeps old.core.history.run first (at old.device c.history.facts)) (sym gives.1) (taken place o how there is)

  by_place : (new : Core) (answered : Answer) (m : Option ℕ) → MatchOption m ((answered ≡ answer.Unknown) × (new ≡ old.core)) (λ (place : ℕ). TakeAt old.core new place answered) → Keeps old.core.history.run first (at old.device new.history.facts)
  by_place new answered None gives = subst (λ (c : Core). Keeps old.core.history.run first (at old.device c.history.facts)) (sym gives.1) span
  by_place new answered (Some place) gives = by_landed new place gives.0 answered gives.0.landed gives.1 refl gives.2

pub take_goes_on : TakeGoesOn
take_goes_on first old new client id answered sound gives span =
    subst (λ d. Keeps old.core.history.run first (at d new.core.history.facts)) (sym gives.device) (by_place first old sound span new.core answered (position (is_asked client id) old.core.requests) gives.takes)
