-- Where a request began, and a cut would end nothing that has begun since, no write is open.
use Rattle.std.proofs.Common.{◌≡◌, inl, inr, Bool, true, false, List, [], ◌∷◌, ◌++◌, sym, ap, subst, ◌∙◌, append_assoc}
use Rattle.std.proofs.lemmas.List.{append-nil}
use Rattle.lvm_disk.specs.Device.{Device}
use Rattle.lvm_vol.specs.Facts.{Request, Fact, Making, Made, Split, Removing, Removed, Begun, Landed, Taken, Cut, On, IsInList}
use Rattle.lvm_vol.specs.Log.{is_uncut_after, is_uncut_from}
use Rattle.lvm_kept.specs.Moments.{Calm}
use Rattle.lvm_kept.proofs.RawLemmas.Keeping.{cut_calm}
use Rattle.lvm_kept.proofs.MomentsLemmas.Spans.{regroup}
use Rattle.lvm_steps.specs.Entering.{OpensNone}
use Rattle.lvm_steps.specs.Requests.{at}
use Rattle.lvm_steps.proofs.EnteringLemmas.{calm_goes_on}

module _ (device : Device) (past : List Fact) where
  no_true : {X : Type 0} → ◌≡◌ {A = Bool} true false → X
  no_true e = absurd (cc e)

  one_more : (done : List Fact) (f : Fact) → OpensNone f → Calm (past ++ done) → Calm (past ++ (done ++ f ∷ []))
  one_more done f opens calm = calm_goes_on (at device done) device done f (λ p c. c) opens past calm

  after : (b : Bool) (done : List Fact) (f : Fact) → (b ≡ false → Calm (past ++ done)) → is_uncut_after b f ≡ false → Calm (past ++ (done ++ f ∷ []))
  after b done (Begun r) calm is = no_true is
  after b done (Making lv blocks mode) calm is = no_true is
  after b done (Removing vol) calm is = no_true is
  after b done (On moment) calm is = no_true is
  after b done Cut calm is = regroup Calm past done Cut (cut_calm (past ++ done))
  after b done (Made lv) calm is = one_more done (Made lv) tt (calm is)
  after b done (Split from lv) calm is = one_more done (Split from lv) tt (calm is)
  after b done (Removed vol) calm is = one_more done (Removed vol) tt (calm is)
  after b done (Landed r how started got) calm is = one_more done (Landed r how started got) tt (calm is)
  after b done (Taken r) calm is = one_more done (Taken r) tt (calm is)

  calm_from : (b : Bool) (done rest : List Fact) → is_uncut_from b rest ≡ false → (b ≡ false → Calm (past ++ done)) → Calm (past ++ (done ++ rest))
  calm_from b done [] is calm = subst (λ (l : List Fact). Calm (past ++ l)) (sym (append-nil done)) (calm is)
  calm_from b done (f ∷ rest) is calm =
      subst (λ (l : List Fact). Calm (past ++ l)) (append_assoc done (f ∷ []) rest) (calm_from (is_uncut_after b f) (done ++ f ∷ []) rest is (after b done f calm))

  calm_since : (b : Bool) (done facts : List Fact) (r : Request) → IsInList (Begun r) facts → is_uncut_from b facts ≡ false → Calm (past ++ (done ++ facts))
  calm_since b done [] r there is = absurd there
  calm_since b done (f ∷ rest) r (inl here) is =
      subst (λ (l : List Fact). Calm (past ++ l)) (append_assoc done (f ∷ []) rest)
      (calm_from true (done ++ f ∷ []) rest (ap (λ c. is_uncut_from c rest) (sym (ap (is_uncut_after b) here)) ∙ is) (λ e. no_true e))
  calm_since b done (f ∷ rest) r (inr later) is =
      subst (λ (l : List Fact). Calm (past ++ l)) (append_assoc done (f ∷ []) rest) (calm_since (is_uncut_after b f) (done ++ f ∷ []) rest r later is)

  pub calm_if_uncut : (facts : List Fact) (r : Request) → IsInList (Begun r) facts → is_uncut_from false facts ≡ false → Calm (past ++ facts)
  calm_if_uncut facts r there is = calm_since false [] facts r there is
