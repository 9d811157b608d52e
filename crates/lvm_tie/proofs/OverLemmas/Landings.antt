-- A span goes on over the landings of open requests, one after another.
use Rattle.std.proofs.Common.{◌≡◌, ℕ, Bool, true, false, if◌then◌else◌, List, [], ◌∷◌, ◌++◌, refl, sym, ap, subst, ◌∙◌, append_assoc}
use Rattle.std.proofs.lemmas.List.{append-nil}
use Rattle.lvm_disk.specs.Device.{Device}
use Rattle.lvm_disk.specs.Paths.{Then}
use Rattle.lvm_vol.specs.declared.entry.Outcome.{Outcome}
use Rattle.lvm_vol.specs.Facts.{Fact}
use Rattle.lvm_vol.specs.Log.{landed_fact}
use Rattle.lvm_kept.specs.Moments.{Moment, Enters}
use Rattle.lvm_steps.specs.Moments.{Upholds, Keeps}
use Rattle.lvm_steps.specs.Requests.{at}
use Rattle.lvm_path.specs.Targets.{is_begun}
use Rattle.lvm_session.specs.declared.open.Open.{Open}
use Rattle.lvm_session.specs.Judging.{is_waiting}
use Rattle.lvm_session.specs.Dark.{landings}

module _ (how : Outcome) (base : List Fact) where
  -- what one adds
  abbrev pub added : Open → List Fact
  added o = if is_waiting o then landed_fact base o.request.id how (is_begun o.request.targets.items) ∷ [] else []

  pub one_more : (done : List Open) (o : Open) → landings how base (done ++ o ∷ []) ≡ landings how base done ++ added o
  one_more [] o = by (is_waiting o)
    where
      by : (b : Bool) → (if b then landed_fact base o.request.id how (is_begun o.request.targets.items) ∷ [] else []) ≡ (if b then landed_fact base o.request.id how (is_begun o.request.targets.items) ∷ [] else [])
      by b = refl
  one_more (x ∷ done) o = by (is_waiting x) (one_more done o)
    where
      by : (b : Bool) → landings how base (done ++ o ∷ []) ≡ landings how base done ++ added o
          → (if b then landed_fact base x.request.id how (is_begun x.request.targets.items) ∷ landings how base (done ++ o ∷ []) else landings how base (done ++ o ∷ []))
          ≡ (if b then landed_fact base x.request.id how (is_begun x.request.targets.items) ∷ landings how base done else landings how base done) ++ added o
      by true rest = ap (λ (l : List Fact). landed_fact base x.request.id how (is_begun x.request.targets.items) ∷ l) rest
      by false rest = rest

module _ (run : ℕ) (first : Moment) (device : Device) (facts base : List Fact) (how : Outcome) where
  -- when these have landed
  abbrev pub after : List Open → Moment
  after os = at device (facts ++ landings how base os)

  pub land_on : (done rest : List Open) → ((xs ys : List Open) → done ++ rest ≡ xs ++ ys → Upholds run first (after xs)) → Keeps run first (after done) → Keeps run first (after (done ++ rest))
  land_on done [] each span = subst (λ (l : List Open). Keeps run first (after l)) (sym (append-nil done)) span
  land_on done (o ∷ rest) each span =
      subst (λ (l : List Open). Keeps run first (after l)) whole (land_on (done ++ o ∷ []) rest (λ xs ys same. each xs ys (sym whole ∙ same)) (one (is_waiting o) refl))
    where
      whole : (done ++ o ∷ []) ++ rest ≡ done ++ o ∷ rest
      whole = append_assoc done (o ∷ []) rest

      now : (b : Bool) → is_waiting o ≡ b → facts ++ landings how base (done ++ o ∷ []) ≡ (facts ++ landings how base done) ++ (if b then landed_fact base o.request.id how (is_begun o.request.targets.items) ∷ [] else [])
      now b is = ap (λ (l : List Fact). facts ++ l) (one_more how base done o)
          ∙ sym (append_assoc facts (landings how base done) (added how base o))
          ∙ ap (λ c. (facts ++ landings how base done) ++ (if c then landed_fact base o.request.id how (is_begun o.request.targets.items) ∷ [] else [])) is

      one : (b : Bool) → is_waiting o ≡ b → Keeps run first (after (done ++ o ∷ []))
      one true is = Then span (Enters (landed_fact base o.request.id how (is_begun o.request.targets.items)) refl (now true is)) (each (done ++ o ∷ []) rest (sym whole))
      one false is = subst (λ (l : List Fact). Keeps run first (at device l)) (sym (now false is ∙ append-nil (facts ++ landings how base done))) span

  -- from where none has landed
  pub land_all : (os : List Open) → ((xs ys : List Open) → os ≡ xs ++ ys → Upholds run first (after xs)) → Keeps run first (at device facts) → Keeps run first (after os)
  land_all os each span = land_on [] os each (subst (λ (l : List Fact). Keeps run first (at device l)) (sym (append-nil facts)) span)
