-- What the first event of a part is.
use Rattle.std.proofs.Common.{◌≡◌, ◌<◌, ◌+◌, ℕ, zero, suc, Bool, true, false, List, [], ◌∷◌, Option, Some, None, length, length-set, slice_get, if◌then◌else◌, refl, sym, ◌∙◌, ap, arith}
use Rattle.std.specs.Option.{option_map, option_map_or}
use Rattle.std.proofs.lemmas.Option.{slice_get_within}
use Rattle.lvm_disk.specs.Device.{Device}
use Rattle.lvm_vol.specs.declared.entry.Outcome.{Outcome}
use Rattle.lvm_path.specs.declared.facts.Next.{Next}
use Rattle.lvm_path.specs.declared.facts.Next.TheVariants as next
use Rattle.lvm_session.specs.declared.event.Event.{Event}
use Rattle.lvm_session.specs.declared.event.Event.TheVariants as event
use Rattle.lvm_session.specs.declared.open.Open.{Open}
use Rattle.lvm_session.specs.State.{Core, State}
use Rattle.lvm_session.specs.Judging.{mode_of, next_for, policy_of}
use Rattle.lvm_session.specs.Enabled.{admission, admission_at, first_from, first_of, is_admit, landing, landing_at, or_next, outcome_next, parts_to_settle, pinning}
use Rattle.lvm_session.specs.Events.{Admits, Lands, admitted_as, landed_as}
use Rattle.lvm_moves.specs.Pinning.{PinGives}
use Rattle.lvm_moves.specs.Moving.{FirstGives}

-- of some request it is made
pub record IsMade (make : ℕ → Open → Option Event) (from : ℕ) (os : List Open) (it : Event) : Type 0 where
  pub place : ℕ
  pub request : Open
  pub there : slice_get os place ≡ Some request
  pub made : make (from + place) request ≡ Some it

first_made : (make : ℕ → Open → Option Event) (k : ℕ) (os : List Open) (it : Event) → first_from make k os ≡ Some it → IsMade make k os it
first_made make k [] it is = absurd (cc is)
first_made make k (o ∷ os) it is = by_made (make k o) refl is (first_made make (k + 1) os it)
  where
    by_made : (m : Option Event) → make k o ≡ m → or_next m (first_from make (k + 1) os) ≡ Some it → (first_from make (k + 1) os ≡ Some it → IsMade make (k + 1) os it) → IsMade make k (o ∷ os) it
    by_made (Some e) made is rest = record { place = zero; request = o; there = refl; made = (let same : k + 0 ≡ k = omega arith in ap (λ n. make n o) same) ∙ made ∙ is }
    by_made None made is rest =
        let later = rest is in
        record { place = suc later.place; request = later.request; there = later.there; made = (let same : k + suc later.place ≡ k + 1 + later.place = omega arith in ap (λ n. make n later.request) same) ∙ later.made }

-- ---- landings

pub record IsLanding (core : Core) (it : Event) : Type 0 where
  pub place : ℕ
  pub how : Outcome
  pub request : Open
  pub is : it ≡ event.Land place how
  pub there : slice_get core.requests place ≡ Some request
  pub lands : next_for core request ≡ next.Land how

pub landing_found : (core : Core) (it : Event) → landing core ≡ Some it → IsLanding core it
landing_found core it is = by_next (next_for core found.request) refl found.made
  where
    found : IsMade (landing_at core) 0 core.requests it
    found = first_made (landing_at core) 0 core.requests it is

    by_next : (n : Next) → next_for core found.request ≡ n → option_map (event.Land (0 + found.place)) (outcome_next n) ≡ Some it → IsLanding core it
    by_next (next.Land how) lands made = record { place = found.place; how = how; request = found.request; is = (let same : 0 + found.place ≡ found.place = omega arith in let e : event.Land (0 + found.place) how ≡ it = cc made in sym e ∙ ap (λ n. event.Land n how) same); there = found.there; lands = lands }
    by_next next.Wait lands made = absurd (cc made)
    by_next next.Admit lands made = absurd (cc made)
    by_next next.Pin lands made = absurd (cc made)
    by_next (next.Start target) lands made = absurd (cc made)

-- ---- admissions

pub record IsAdmission (core : Core) (it : Event) : Type 0 where
  pub place : ℕ
  pub request : Open
  pub is : it ≡ event.Admit place
  pub there : slice_get core.requests place ≡ Some request
  pub admits : next_for core request ≡ next.Admit

pub admission_found : (core : Core) (it : Event) → admission core ≡ Some it → IsAdmission core it
admission_found core it is = by_next (next_for core found.request) refl found.made
  where
    found : IsMade (admission_at core) 0 core.requests it
    found = first_made (admission_at core) 0 core.requests it is

    by_next : (n : Next) → next_for core found.request ≡ n → (if is_admit n then Some (event.Admit (0 + found.place)) else None) ≡ Some it → IsAdmission core it
    by_next next.Admit admits made = record { place = found.place; request = found.request; is = (let same : 0 + found.place ≡ found.place = omega arith in let e : event.Admit (0 + found.place) ≡ it = cc made in sym e ∙ ap event.Admit same); there = found.there; admits = admits }
    by_next next.Wait admits made = absurd (cc made)
    by_next next.Pin admits made = absurd (cc made)
    by_next (next.Start target) admits made = absurd (cc made)
    by_next (next.Land how) admits made = absurd (cc made)

-- ---- one part after the other

module _ (device : Device) (old new : Core) where
  pub land_gives : FirstGives landing device old new true → FirstGives (first_of parts_to_settle) device old new true
  land_gives it = (it.0, ap (λ (o : Option Event). or_next o (first_of (admission ∷ pinning ∷ []) old)) it.1, it.2)

  pub admit_gives : landing old ≡ None → FirstGives admission device old new true → FirstGives (first_of parts_to_settle) device old new true
  admit_gives none it = (it.0, ap (λ (o : Option Event). or_next o (first_of (admission ∷ pinning ∷ []) old)) none ∙ ap (λ (o : Option Event). or_next o (first_of (pinning ∷ []) old)) it.1, it.2)

  pub pin_gives : landing old ≡ None → admission old ≡ None → (answer : Bool) → PinGives old new answer → FirstGives (first_of parts_to_settle) device old new answer
  pin_gives landed admitted true pins = (event.Pin pins.0, rw (landed, admitted, pins.1) refl, pins.2 device)
  pin_gives landed admitted false pins = (rw (landed, admitted, pins.0) refl, pins.1)

-- ---- what the code finds of them

-- the request at a place lands so next, and is the first that lands
pub record IsFirstToLand (core : Core) (place : ℕ) (how : Outcome) : Type 0 where
  pub first : landing core ≡ Some (event.Land place how)
  pub request : Open
  pub there : slice_get core.requests place ≡ Some request
  pub lands : next_for core request ≡ next.Land how

module _ (core : Core) (found : Option Event) (result : Option (ℕ × Outcome)) (is : found ≡ landing core) (some : (p : ℕ) (h : Outcome) → found ≡ Some (event.Land p h) → ◌≡◌ {A = Option (ℕ × Outcome)} result (Some (p, h)))
    (none : found ≡ None → ◌≡◌ {A = Option (ℕ × Outcome)} result None) where
  pub due_landing : (place : ℕ) (how : Outcome) → ◌≡◌ {A = Option (ℕ × Outcome)} result (Some (place, how)) → IsFirstToLand core place how
  due_landing place how got = by_found found refl
    where
      by_found : (f : Option Event) → found ≡ f → IsFirstToLand core place how
      by_found None at = absurd (let e : ◌≡◌ {A = Option (ℕ × Outcome)} None (Some (place, how)) = sym (none at) ∙ got in cc e)
      by_found (Some it) at =
          let l = landing_found core it (sym is ∙ at) in
          let e : ◌≡◌ {A = Option (ℕ × Outcome)} (Some (l.place, l.how)) (Some (place, how)) = sym (some l.place l.how (at ∙ ap Some l.is)) ∙ got in
          let p : l.place ≡ place = ap (λ (o : Option (ℕ × Outcome)). option_map_or (λ (q : ℕ × Outcome). q.0) o l.place) e in
          let h : l.how ≡ how = ap (λ (o : Option (ℕ × Outcome)). option_map_or (λ (q : ℕ × Outcome). q.1) o l.how) e in
          record {
            first = sym is ∙ at ∙ ap Some l.is ∙ ap (λ n. Some (event.Land n l.how)) p ∙ ap (λ (x : Outcome). Some (event.Land place x)) h;
            request = l.request;
            there = ap (slice_get core.requests) (sym p) ∙ l.there;
            lands = l.lands ∙ ap next.Land h;
          }

  pub no_landing : ◌≡◌ {A = Option (ℕ × Outcome)} result None → landing core ≡ None
  no_landing got = by_found found refl
    where
      by_found : (f : Option Event) → found ≡ f → landing core ≡ None
      by_found None at = sym is ∙ at
      by_found (Some it) at =
          let l = landing_found core it (sym is ∙ at) in
          absurd (let e : ◌≡◌ {A = Option (ℕ × Outcome)} (Some (l.place, l.how)) None = sym (some l.place l.how (at ∙ ap Some l.is)) ∙ got in cc e)

-- the request at a place is admitted next, and is the first that is
pub record IsFirstToBeAdmitted (core : Core) (place : ℕ) : Type 0 where
  pub first : admission core ≡ Some (event.Admit place)
  pub request : Open
  pub there : slice_get core.requests place ≡ Some request
  pub admits : next_for core request ≡ next.Admit

module _ (core : Core) (found : Option Event) (result : Option ℕ) (is : found ≡ admission core) (some : (p : ℕ) → found ≡ Some (event.Admit p) → result ≡ Some p) (none : found ≡ None → result ≡ None) where
  pub next_admission : (place : ℕ) → result ≡ Some place → IsFirstToBeAdmitted core place
  next_admission place got = by_found found refl
    where
      by_found : (f : Option Event) → found ≡ f → IsFirstToBeAdmitted core place
      by_found None at = absurd (let e : ◌≡◌ {A = Option ℕ} None (Some place) = sym (none at) ∙ got in cc e)
      by_found (Some it) at =
          let l = admission_found core it (sym is ∙ at) in
          let e : ◌≡◌ {A = Option ℕ} (Some l.place) (Some place) = sym (some l.place (at ∙ ap Some l.is)) ∙ got in
          let p : l.place ≡ place = cc e in
          record { first = sym is ∙ at ∙ ap Some l.is ∙ ap (λ n. Some (event.Admit n)) p; request = l.request; there = ap (slice_get core.requests) (sym p) ∙ l.there; admits = l.admits }

  pub no_admission : result ≡ None → admission core ≡ None
  no_admission got = by_found found refl
    where
      by_found : (f : Option Event) → found ≡ f → admission core ≡ None
      by_found None at = sym is ∙ at
      by_found (Some it) at =
          let l = admission_found core it (sym is ∙ at) in
          absurd (let e : ◌≡◌ {A = Option ℕ} (Some l.place) None = sym (some l.place (at ∙ ap Some l.is)) ∙ got in cc e)

-- ---- the table is as long as it was

pub landed_there : (old new : State) (place : ℕ) (how : Outcome) → Lands old new place how → place < length new.core.requests
landed_there old new place how lands =
    let os = old.core.requests in
    let within : place < length os = slice_get_within os place lands.request lands.there in
    let is : length new.core.requests ≡ length os = ap (λ (s : State). length s.core.requests) lands.is ∙ length-set os place (landed_as how lands.request) in
    omega (arith, within, is)

pub admitted_there : (old new : State) (place : ℕ) → Admits old new place → place < length new.core.requests
admitted_there old new place admits =
    let os = old.core.requests in
    let within : place < length os = slice_get_within os place admits.request admits.there in
    let is : length new.core.requests ≡ length os = ap (λ (s : State). length s.core.requests) admits.is ∙ length-set os place (admitted_as (policy_of old.core admits.request.request.ask) (mode_of old.core admits.request.request.ask) admits.targets admits.request) in
    omega (arith, within, is)
