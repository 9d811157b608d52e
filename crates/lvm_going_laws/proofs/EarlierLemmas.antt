-- The answer of a request of an earlier session leaves a tied session tied, and runs it on.
use Rattle.std.proofs.Common.{◌≡◌, inl, inr, ⊎_elim, ℕ, Bool, true, false, ◌||◌, ◌==◌, List, [], ◌∷◌, ◌++◌, Some, refl, sym, ◌∙◌, ap, subst}
use Rattle.std.specs.Prelude.{IsFalse, is_some}
use Rattle.std.specs.List.{list_any}
use Rattle.std.proofs.lemmas.Bool.{ne_eqb, and_right}
use Rattle.std.proofs.lemmas.List.Folds.{list_any-append}
use Rattle.lvm_disk.specs.Device.{Flight, image_of}
use Rattle.lvm_disk.proofs.CountingLemmas.{none_falls_at_once}
use Rattle.lvm_disk.proofs.passed.Num.{all_at}
use Rattle.lvm_kept.specs.Contents.{contents_of}
use Rattle.lvm_vol.specs.Facts.{Request, Fact, Begun, Taken, Cut, IsInList, joined, same_request}
use Rattle.lvm_vol.specs.Legal.{Fits, Legal, TakenOnce, lands, takes}
use Rattle.lvm_vol.specs.Log.{asked, is_answered, request_of, taken_fact, with_fact}
use Rattle.lvm_vol.proofs.LogLemmas.{follows_taken, found_of}
use Rattle.lvm_vol.proofs.LawsLemmas.Legality.{fits_taken, legal_prefix}
use Rattle.lvm_steps.proofs.LawsLemmas.Clock.{later_joins}
use Rattle.lvm_session.specs.declared.flown.Flown.{Flown}
use Rattle.lvm_session.specs.declared.flown.Owner.{Owner}
use Rattle.lvm_session.specs.declared.flown.Owner.TheVariants as owner
use Rattle.lvm_session.specs.declared.open.Power.TheVariants as power
use Rattle.lvm_session.specs.State.{Core, State, state}
use Rattle.lvm_session.specs.Calls.{is_asked}
use Rattle.lvm_session.specs.Sound.{IsAsked, IsSound}
use Rattle.lvm_invariant.specs.Events.{TakeEarlier}
use Rattle.lvm_invariant.specs.State.{Queued, ModelState}
use Rattle.lvm_invariant.specs.TakeEarlier.{TakesEarlier}
use Rattle.lvm_invariant.proofs.EventsLemmas.Each.{each_keeps}
use Rattle.lvm_crash.proofs.RecordsLemmas.Quiet.{quiet_lasts}
use Rattle.lvm_going.specs.Going.{EntersEarlier}
use Rattle.lvm_going.proofs.EarlierLemmas.{apart_at, one_keeps}
use Rattle.lvm_tie.specs.Out.{CarriesStep, CarryTheirs}
use Rattle.lvm_tie.specs.Seen.{IsRequestAt, IsStepAt, Sees, update_of}
use Rattle.lvm_tie.specs.Tied.{IsTied}
use Rattle.lvm_tie.proofs.GoingOnLemmas.Spanning.{goes_entry}
use Rattle.lvm_tie.proofs.LandingsLemmas.Causes.{goes_on}
use Rattle.lvm_tie.proofs.LawsLemmas.Running.{origin_same}
use Rattle.lvm_tie.proofs.SeenLemmas.Entered.{sees_entered}
use Rattle.lvm_going_laws.specs.Laws.{RunsGood}

-- ---- without the cut between an earlier history and this one

stands_unjoined : (past facts : List Fact) (r : Request) → IsInList (Begun r) (joined past facts) → IsInList (Begun r) (past ++ facts)
stands_unjoined [] facts r (inl here) = absurd (cc here)
stands_unjoined [] facts r (inr there) = there
stands_unjoined (f ∷ past) facts r (inl here) = inl here
stands_unjoined (f ∷ past) facts r (inr there) = inr (stands_unjoined past facts r there)

any_unjoined : (t : Fact → Bool) (past facts : List Fact) → t Cut ≡ false → list_any t (past ++ facts) ≡ list_any t (joined past facts)
any_unjoined t past facts none = list_any-append t past facts ∙ sym (list_any-append t past (Cut ∷ facts) ∙ ap (λ b. list_any t past || (b || list_any t facts)) none)

pub unjoined : (past facts : List Fact) (r : Request) → Fits (joined past facts) (Taken r) → TakenOnce (past ++ facts) r
unjoined past facts r fits = record {
  began = stands_unjoined past facts r fits.began;
  answered = any_unjoined (lands r) past facts refl ∙ fits.answered;
  first = any_unjoined (takes r) past facts refl ∙ fits.first;
}

-- a request that was asked for has its own number
own_number : (facts : List Fact) (id : ℕ) (r : Request) → asked facts id ≡ Some r → (request_of facts id).id ≡ id
own_number facts id r is = (found_of facts id (ap is_some is)).own

module _ (past : List Fact) (s : State) (tied : IsTied past s) (id : ℕ) (its : is_answered s.core.history.facts 1 id ≡ true) (gone : list_any (is_asked 1 id) s.core.requests ≡ false) where
  abbrev core : Core
  core = s.core

  abbrev v : ModelState
  v = tied.view

  abbrev q : Request
  q = request_of core.history.facts id

  abbrev entered : Core
  entered = record core { history = with_fact core.history (taken_fact core.history.facts id) }

  sound : IsSound s
  sound = tied.orderly.sound

  own : q.id ≡ id
  own = (follows_taken core.history.facts core.history.run 1 id its).2

  once : TakenOnce v.facts q
  once = subst (λ (fs : List Fact). TakenOnce fs q) (sym tied.sees.facts) (unjoined past core.history.facts q
      (fits_taken past core.history 1 id (legal_prefix past core.history.facts (subst Legal tied.sees.facts tied.good.told.legal)) tied.setting.own sound.told.ordered its))

  other_request : (i : ℕ) (r : Queued) → IsRequestAt core i → IsFalse (same_request (v.name i) q)
  other_request i r at =
      let asked = all_at (IsAsked core.history.facts) core.requests at.place at.request sound.told.requests at.there in
      let named : v.name i ≡ request_of core.history.facts at.request.request.id = ap v.name (sym at.its) ∙ tied.sees.queue.names at.place at.request at.there in
      let its_id : (request_of core.history.facts at.request.request.id).id ≡ at.request.request.id = own_number core.history.facts at.request.request.id asked.request asked.told in
      let differs : (v.name i).id == q.id ≡ false = ne_eqb (v.name i).id q.id (λ e. apart_at s sound id its gone at.place at.request at.there (sym its_id ∙ sym (ap (λ (r : Request). r.id) named) ∙ e ∙ own)) in
      and_right ((v.name i).run == q.run) ((v.name i).id == q.id) differs

  takes_it : TakesEarlier v q
  takes_it = record {
    once = once;
    other = λ i r at no_step. ⊎_elim
        (λ (it : IsRequestAt core i). other_request i r it)
        (λ (it : IsStepAt core i). absurd (step_of i r at no_step it))
        (tied.sees.queue.only i r at);
  }
    where
      some_of : (a b : Queued) → Some a ≡ Some b → a ≡ b
      some_of a b e = cc

      step_of : (i : ℕ) (r : Queued) → v.queue i ≡ Some r → IsFalse r.step → IsStepAt core i → ⊥
      step_of i r at no_step it =
          let a = tied.sees.queue.a_step it.copy it.is_open it.row in
          let same : a.0 ≡ r = some_of a.0 r (sym a.1 ∙ ap v.queue it.its ∙ at) in
          absurd (let e : ◌≡◌ {A = Bool} true false = sym a.2.step ∙ ap (λ (x : Queued). x.step) same ∙ no_step in cc e)

  abbrev w : ModelState
  w = record v { facts = v.facts ++ Taken q ∷ [] }

  sees : Sees past entered w
  sees = sees_entered past core v (Taken q) refl tied.sees

  carries : (g : Flight) (who : Owner) → CarriesStep core v g who → CarriesStep entered w g who
  carries g (owner.Data n k) carry = tt
  carries g (owner.Status disk) carry = tt
  carries g (owner.Note disk) carry = tt
  carries g owner.Copy carry = carry

  carry_so : (fs : List Flight) (them : List Flown) → CarryTheirs core v fs them → CarryTheirs entered w fs them
  carry_so [] them carry = tt
  carry_so (f ∷ fs) [] carry = tt
  carry_so (f ∷ fs) (r ∷ rs) carry = (carries f r.owner carry.0, carry_so fs rs carry.1)

  pub tied_beside : IsTied past (state s.device entered)
  tied_beside = record {
    votes = tied.votes;
    media = tied.media;
    setting = tied.setting;
    view = w;
    sees = sees;
    good = each_keeps tied.votes (TakeEarlier q) v w (takes_it, refl) tied.good;
    describes = quiet_lasts tied.votes (TakeEarlier q) v w core.descriptor (update_of core.status) (contents_of (image_of s.device.sizes tied.media)) (takes_it, refl) tied.good tt tied.describes refl refl refl;
    write = tied.write;
    since = tied.since;
    recorded = tied.recorded;
    orderly = record { sound = one_keeps s sound id its gone; on = tied.orderly.on; update = tied.orderly.update };
    copy_aimed = tied.copy_aimed;
    carry = carry_so s.device.flights core.flying tied.carry;
    notes = tied.notes;
  }

-- ---- what it leaves

module _ (s : State) (id : ℕ) (its : is_answered s.core.history.facts 1 id ≡ true) (gone : list_any (is_asked 1 id) s.core.requests ≡ false) (on : s.core.power ≡ power.On) where
  abbrev fact : Fact
  fact = taken_fact s.core.history.facts id

  abbrev after : Core
  after = record s.core { history = with_fact s.core.history fact }

  runs_after : RunsGood s (state s.device after)
  runs_after = record {
    leaves = record {
      good = goes_entry s.core.history.run s (state s.device after) (λ past tied. tied_beside past s tied id its gone) on fact refl refl;
      descriptors = λ leaves. record { leaves = leaves; spares = λ spares. spares; finds = λ group k image may found. (image, may, found) };
      before = λ moment before. record { leaves = before.leaves; session = before.session };
      epoch = λ lit. record { epoch = refl; stamped = λ stamped. stamped };
      later = λ moment later. later_joins moment s.core.history.facts (fact ∷ []) later tt;
      causes = λ first was. goes_on s (state s.device after) (none_falls_at_once s.device.counts) refl refl first (fact ∷ []) refl (tt, tt) was.failed was;
      keeps = record { sizes = refl; counts = none_falls_at_once s.device.counts; cut = λ lit dark. absurd (let e : true ≡ false = sym lit ∙ dark in cc e); log = refl; room = record { most = refl; long = refl }; descriptor = refl; origin = origin_same refl; power = inl refl };
    };
    origin = refl;
    orders = refl;
    copy = λ none. none;
  }

pub earlier_runs_on : (s : State) (new : Core) (id : ℕ) → EntersEarlier s.core new id → RunsGood s (state s.device new)
earlier_runs_on s new id it = subst (λ (core : Core). RunsGood s (state s.device core)) (sym it.is) (runs_after s id it.answered it.gone it.on)
