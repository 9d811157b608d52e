-- The landings of open requests, one after the other.
use Rattle.std.proofs.Common.{◌≡◌, ℕ, suc, ◌<◌, ◌+◌, Bool, true, false, ◌&&◌, ◌||◌, not, List, [], ◌∷◌, ◌++◌, length, drop, get_or, refl, sym, ◌∙◌, ap, subst, arith, append_assoc, add-one}
use Rattle.std.specs.Prelude.{◌==◌, is_some, cond, unwrap_or}
use Rattle.std.specs.List.{list_any, AllByRecursion}
use Rattle.std.proofs.Math.Seq.{drop-cons}
use Rattle.std.proofs.lemmas.List.{append-nil}
use Rattle.std.proofs.lemmas.Bool.{ne_eqb}
use Rattle.lvm_vol.specs.declared.entry.Outcome.{Outcome}
use Rattle.lvm_vol.specs.Facts.{Fact, Landed, begun}
use Rattle.lvm_vol.specs.Log.{Log, asked, is_open, lands_id, with_fact, landed_fact, no_request, request_of, cut_log, got_without_bytes}
use Rattle.lvm_vol.proofs.LogLemmas.{found_of, and_left}
use Rattle.lvm_session.specs.passed.Path.{is_begun}
use Rattle.lvm_session.specs.declared.open.Open.{Open}
use Rattle.lvm_session.specs.Judging.{is_waiting}
use Rattle.lvm_session.specs.Dark.{landings, AreOpen, AreTold}
use Rattle.lvm_session.proofs.LogLemmas.{asked_still, open_still, open_cut}

-- the request of an open number has this number
own_id : (facts : List Fact) (id : ℕ) → is_open facts id ≡ true → (request_of facts id).id ≡ id
own_id facts id is = (found_of facts id (and_left (is_some (asked facts id)) (not (list_any (lands_id id) facts)) is)).own

-- what is open before a Cut is so behind it
cut_open : (log : Log) (os : List Open) → AreOpen log.facts os → AreOpen (cut_log log).facts os
cut_open log [] still = tt
cut_open log (o ∷ os) still = (λ waiting. open_cut log o.request.id ∙ still.0 waiting, cut_open log os still.1)

pub cut_told : (log : Log) (os : List Open) → AreTold log.facts os → AreTold (cut_log log).facts os
cut_told log os told = record { ascending = told.ascending; still = cut_open log os told.still }

-- ---- one landing after the other

-- The history so far, while these are left to land.
pub record IsLanding (how : Outcome) (first now : Log) (all rest : List Open) : Type 0 where
  pub same : now ≡ record first { facts = now.facts }
  pub known : (id : ℕ) → asked now.facts id ≡ asked first.facts id
  pub facts : now.facts ++ landings how first.facts rest ≡ first.facts ++ landings how first.facts all
  pub told : AreTold now.facts rest

pub landing_first : (how : Outcome) (log : Log) (os : List Open) → AreTold log.facts os → IsLanding how log log os os
landing_first how log os told = record { same = refl; known = λ id. refl; facts = refl; told = told }

module _ (how : Outcome) (first now new : Log) (all rest : List Open) (o : Open) where
  -- one that has landed already is passed over
  pub landing_passes : IsLanding how first now all (o ∷ rest) → is_waiting o ≡ false → IsLanding how first now all rest
  landing_passes so_far is = record {
    same = so_far.same;
    known = so_far.known;
    facts = sym (ap (λ t. now.facts ++ cond t (landed_fact first.facts o.request.id how (is_begun o.request.targets.items) ∷ landings how first.facts rest) (landings how first.facts rest)) is) ∙ so_far.facts;
    told = record { ascending = so_far.told.ascending.1; still = so_far.told.still.1 };
  }

  others_open : (fact : Fact) → begun (fact ∷ []) ≡ [] → ((id : ℕ) → lands_id id fact ≡ (o.request.id == id)) → (os : List Open)
      → AllByRecursion (λ (later : Open). o.request.id < later.request.id) os → AreOpen now.facts os → AreOpen (now.facts ++ fact ∷ []) os
  others_open fact none its [] below still = tt
  others_open fact none its (later ∷ os) below still = (
    λ waiting.
        open_still now.facts (fact ∷ []) later.request.id none
        ∙ ap (λ t. is_open now.facts later.request.id && not (t || false)) (its later.request.id ∙ ne_eqb o.request.id later.request.id (λ e. let less = below.0 in omega (arith, e, less)))
        ∙ ap (λ t. t && true) (still.0 waiting),
    others_open fact none its os below.1 still.1,
  )

  -- one that waits lands
  pub landing_lands : IsLanding how first now all (o ∷ rest) → is_waiting o ≡ true → new ≡ with_fact now (landed_fact now.facts o.request.id how (is_begun o.request.targets.items)) → IsLanding how first new all rest
  landing_lands so_far is enters =
      let fact = landed_fact now.facts o.request.id how (is_begun o.request.targets.items) in
      let now_facts : new.facts ≡ now.facts ++ fact ∷ [] = ap (λ (l : Log). l.facts) enters in
      let request : request_of now.facts o.request.id ≡ request_of first.facts o.request.id = ap (λ r. unwrap_or r no_request) (so_far.known o.request.id) in
      let its : fact ≡ landed_fact first.facts o.request.id how (is_begun o.request.targets.items) = ap (λ r. Landed r how (is_begun o.request.targets.items) (got_without_bytes r how)) request in
      record {
        same = enters ∙ ap (λ (l : Log). record l { facts = now.facts ++ fact ∷ [] }) so_far.same ∙ sym (ap (λ fs. record first { facts = fs }) now_facts);
        known = λ id. ap (λ fs. asked fs id) now_facts ∙ asked_still now.facts (fact ∷ []) id refl ∙ so_far.known id;
        facts =
            ap (λ fs. fs ++ landings how first.facts rest) now_facts
            ∙ append_assoc now.facts (fact ∷ []) (landings how first.facts rest)
            ∙ ap (λ f. now.facts ++ f ∷ landings how first.facts rest) its
            ∙ sym (ap (λ t. now.facts ++ cond t (landed_fact first.facts o.request.id how (is_begun o.request.targets.items) ∷ landings how first.facts rest) (landings how first.facts rest)) is)
            ∙ so_far.facts;
        told = record {
          ascending = so_far.told.ascending.1;
          still = subst (λ fs. AreOpen fs rest) (sym now_facts)
              (others_open fact refl (λ id. ap (λ n. n == id) (own_id now.facts o.request.id (so_far.told.still.0 is))) rest so_far.told.ascending.0 so_far.told.still.1);
        };
      }

-- the one at a place, and those behind it
pub rest_is : (os : List Open) (i : ℕ) (o : Open) → i < length os → o ≡ get_or os i o → drop i os ≡ o ∷ drop (i + 1) os
rest_is os i o within is = drop-cons os i o within ∙ ap (λ x. x ∷ drop (suc i) os) (sym is) ∙ ap (λ n. o ∷ drop n os) (sym (add-one i))

module _ (how : Outcome) (first now : Log) (all : List Open) (i : ℕ) (o : Open) (waiting : Bool) (rest : drop i all ≡ o ∷ drop (i + 1) all) (so_far : IsLanding how first now all (drop i all)) (is : waiting ≡ is_waiting o) where
  here : IsLanding how first now all (o ∷ drop (i + 1) all)
  here = subst (λ (os : List Open). IsLanding how first now all os) rest so_far

  pub next_passes : waiting ≡ false → IsLanding how first now all (drop (i + 1) all)
  next_passes has = landing_passes how first now now all (drop (i + 1) all) o here (sym is ∙ has)

  pub next_lands : (new : Log) → waiting ≡ true → new ≡ with_fact now (landed_fact now.facts o.request.id how (is_begun o.request.targets.items)) → IsLanding how first new all (drop (i + 1) all)
  next_lands new still enters = landing_lands how first now new all (drop (i + 1) all) o here (sym is ∙ still) enters

-- all have landed
pub landing_ends : (how : Outcome) (first now : Log) (all : List Open) → IsLanding how first now all [] → now ≡ record first { facts = first.facts ++ landings how first.facts all }
landing_ends how first now all done = done.same ∙ ap (λ fs. record first { facts = fs }) (sym (append-nil now.facts) ∙ done.facts)
