-- What happened stays the cause of what came of it.
use Rattle.std.proofs.Common.{◌≡◌, ◌⊎◌, inl, inr, ℕ, List, Option, refl, sym, ◌∙◌, ap, subst}
use Rattle.std.specs.Prelude.{IfSome}
use Rattle.lvm_num.specs.declared.descriptor.Descriptor.{Descriptor}
use Rattle.lvm_num.specs.declared.place.Pp.{Pp}
use Rattle.lvm_num.specs.declared.status.Status.{Status}
use Rattle.lvm_num.proofs.Booleans.{not_so}
use Rattle.lvm_num.proofs.Lists.{all_weaker}
use Rattle.lvm_vol.specs.declared.entry.Outcome.{Outcome}
use Rattle.lvm_vol.specs.declared.entry.Outcome.TheVariants as outcome
use Rattle.arrayvec.specs.ArrayVec.{ArrayVec}
use Rattle.lvm_path.specs.declared.ask.Ask.{Ask}
use Rattle.lvm_path.specs.declared.target.Target.{Target}
use Rattle.lvm_session.specs.declared.bringing.OpenCopy.{OpenCopy}
use Rattle.lvm_session.specs.declared.bringing.Step.{Step}
use Rattle.lvm_session.specs.declared.open.Open.{Open}
use Rattle.lvm_session.specs.declared.open.Power.{Power}
use Rattle.lvm_session.specs.declared.open.Power.TheVariants as power
use Rattle.lvm_session.specs.declared.origin.Origin.{Origin}
use Rattle.lvm_session.specs.Judging.{copies_in}
use Rattle.lvm_session.specs.State.{State, state}
use Rattle.lvm_session.specs.Causes.{AreCounted, HaveSourcesFailed, IsAnswered, IsCausedAmong, IsCounted, IsLandedFor, IsTrueToOrigin, is_over}
use Rattle.lvm_keeps.proofs.RequestsLemmas.{if_on}

-- what causes are read off: the counts of faults, the group, what the session began with, its power, and the statuses that are committed and wanted
abbrev pub Grounds : Type 0
Grounds = (ℕ → ℕ) × Descriptor × Origin × Power × Status × Status

abbrev pub grounds : State → Grounds
grounds s = (s.device.counts.faults, s.core.descriptor, s.core.origin, s.core.power, s.core.status.committed, s.core.status.wanted)

-- the session on such grounds
abbrev on : State → Grounds → State
on s g = state (record s.device { counts = record s.device.counts { faults = g.0 } }) (record s.core { descriptor = g.1; origin = g.2; power = g.3; status = record s.core.status { committed = g.4; wanted = g.5 } })

-- and off the aims of the request, which are what it asks for and its targets
abbrev pub Aims : Type 0
Aims = Ask × ArrayVec Target

abbrev pub aims : Open → Aims
aims o = (o.request.ask, o.request.targets)

abbrev of_aims : Open → Aims → Open
of_aims o a = record o { request = record o.request { ask = a.0; targets = a.1 } }

module _ (s now : State) (same : grounds s ≡ grounds now) where
  landed_on : (o x : Open) (how : Outcome) → IsLandedFor s o how → IsLandedFor (on now (grounds s)) (of_aims x (aims o)) how
  landed_on o x outcome.Done why = why
  landed_on o x outcome.Got why = why
  landed_on o x outcome.Lost why = why
  landed_on o x outcome.ReadFailed why = why
  landed_on o x outcome.NoFresh why = why
  landed_on o x outcome.Off why = why
  landed_on o x outcome.Dark why = why

  pub landed_still : (o x : Open) → aims o ≡ aims x → (how : Outcome) → IsLandedFor s o how → IsLandedFor now x how
  landed_still o x alike how why = subst (λ (g : Grounds). IsLandedFor (on now g) x how) same (subst (λ (a : Aims). IsLandedFor (on now (grounds s)) (of_aims x a) how) alike (landed_on o x how why))

  pub answered_still : (o : Open) → IsAnswered s o → IsAnswered now o
  answered_still o why = if_on (IsLandedFor s o) (IsLandedFor now o) (landed_still o o refl) o.landed why

  pub counted_still : (o : Open) → AreCounted s o → AreCounted now o
  counted_still o all = subst (λ (g : Grounds). AreCounted (on now g) o) same (all_weaker (IsCounted s) (IsCounted (on now (grounds s))) (λ t its. record { began = its.began; since = its.since }) o.request.targets.items all)

  -- a step of the copy changes nothing of it
  pub copy_still : (copies : List Pp) (c : OpenCopy) (at : Step) → IsCausedAmong s copies c → IsCausedAmong now copies (record c { step = at })
  copy_still copies c at its = subst (λ (g : Grounds). IsCausedAmong (on now g) copies (record c { step = at })) same (record { began = its.began; since = its.since; tried = its.tried; own_began = its.own_began; own_since = its.own_since; failed = λ e. sources_on (its.failed e) })
    where
      sources_on : {own : Type 0} → own ⊎ HaveSourcesFailed s copies c → own ⊎ HaveSourcesFailed (on now (grounds s)) copies (record c { step = at })
      sources_on (inl own) = inl own
      sources_on (inr all) = inr (record { each = all.each; number = all.number; source = all.source; source_is = all.source_is; other = all.other; one = all.one })

  pub copies_still : (m : Option OpenCopy) → IfSome m (λ (c : OpenCopy). IsCausedAmong s (copies_in s.core.descriptor c.lv c.lp) c) → IfSome m (λ (c : OpenCopy). IsCausedAmong now (copies_in now.core.descriptor c.lv c.lp) c)
  copies_still m its = subst (λ (g : Grounds). IfSome m (λ (c : OpenCopy). IsCausedAmong now (copies_in g.1 c.lv c.lp) c)) same
      (if_on (λ (c : OpenCopy). IsCausedAmong s (copies_in s.core.descriptor c.lv c.lp) c) (λ (c : OpenCopy). IsCausedAmong now (copies_in s.core.descriptor c.lv c.lp) c) (λ c. copy_still (copies_in s.core.descriptor c.lv c.lp) c c.step) m its)

  -- where the update in flight stays as well
  pub origin_still : s.core.status.in_flight ≡ now.core.status.in_flight → IsTrueToOrigin s → IsTrueToOrigin now
  origin_still flies its = subst (λ (g : Grounds). IsTrueToOrigin (on now g)) same
      (subst (λ (m : Option Status). IsTrueToOrigin (with_flight m)) flies (record { since = its.since; votes = its.votes; rows = its.rows; still_missing = its.still_missing; missing = its.missing; stale = its.stale }))
    where
      with_flight : Option Status → State
      with_flight m = state (on now (grounds s)).device (record (on now (grounds s)).core { status = record (on now (grounds s)).core.status { in_flight = m } })

-- ---- whatever becomes of the statuses

-- what causes are read off but for them
abbrev pub Basis : Type 0
Basis = (ℕ → ℕ) × Descriptor × Origin × Power

abbrev pub basis_of : State → Basis
basis_of s = (s.device.counts.faults, s.core.descriptor, s.core.origin, s.core.power)

abbrev on_basis : State → Basis → State
on_basis s b = state (record s.device { counts = record s.device.counts { faults = b.0 } }) (record s.core { descriptor = b.1; origin = b.2; power = b.3 })

module _ (s now : State) (same : basis_of s ≡ basis_of now) where
  -- a request that landed keeps its cause while the session is on
  pub landed_when_on : s.core.power ≡ power.On → (o : Open) (how : Outcome) → IsLandedFor s o how → IsLandedFor now o how
  landed_when_on on o how why = subst (λ (b : Basis). IsLandedFor (on_basis now b) o how) same (by how why)
    where
      by : (x : Outcome) → IsLandedFor s o x → IsLandedFor (on_basis now (basis_of s)) o x
      by outcome.Done its = its
      by outcome.Got its = its
      by outcome.Lost its = its
      by outcome.ReadFailed its = its
      by outcome.NoFresh its = its
      by outcome.Off its = not_so (sym (ap is_over on) ∙ its.0)
      by outcome.Dark its = its

  pub answered_when_on : s.core.power ≡ power.On → (o : Open) → IsAnswered s o → IsAnswered now o
  answered_when_on on o why = if_on (IsLandedFor s o) (IsLandedFor now o) (landed_when_on on o) o.landed why

  pub counted_when_on : (o : Open) → AreCounted s o → AreCounted now o
  counted_when_on o all = subst (λ (b : Basis). AreCounted (on_basis now b) o) same (all_weaker (IsCounted s) (IsCounted (on_basis now (basis_of s))) (λ t its. record { began = its.began; since = its.since }) o.request.targets.items all)
