-- A request that is told the same makes the same events.
use Rattle.std.proofs.Common.{◌≡◌, ◌&&◌, ℕ, Bool, true, false, Option, Some, None, refl, ◌∙◌, ap}
use Rattle.std.specs.Prelude.{if◌then◌else◌}
use Rattle.std.specs.Option.{option_map}
use Rattle.lvm_path.specs.declared.facts.Facts.{Facts}
use Rattle.lvm_path.specs.declared.facts.Next.{Next}
use Rattle.lvm_path.specs.Next.{next_in}
use Rattle.lvm_session.specs.declared.event.Event.{Event}
use Rattle.lvm_session.specs.declared.event.Event.TheVariants as event
use Rattle.lvm_session.specs.declared.open.Open.{Open}
use Rattle.lvm_session.specs.State.{Core}
use Rattle.lvm_session.specs.Judging.{facts_of, next_for}
use Rattle.lvm_session.specs.Enabled.{admission_at, can_pin, data_at, is_admit, is_pin, landing_at, note_at, note_due, outcome_next, pinning_at, target_next}

none_by : {A : Type 0} (f : A → Event) (x : Option A) → option_map f x ≡ None → x ≡ None
none_by f None is = refl
none_by f (Some a) is = absurd (cc is)

pub none_mapped : {A : Type 0} (f g : A → Event) (x y : Option A) → (x ≡ None → y ≡ None) → option_map f x ≡ None → option_map g y ≡ None
none_mapped f g x y same is = ap (option_map g) (same (none_by f x is))

pub none_chosen : (e f : Event) (b c : Bool) → c ≡ b → (if b then Some e else None) ≡ None → (if c then Some f else None) ≡ None
none_chosen e f true c same is = absurd (cc is)
none_chosen e f false c same is = ap (λ (d : Bool). if d then Some f else None) same

module _ (old new : Core) (o : Open) (facts : facts_of new o.request ≡ facts_of old o.request) (j k : ℕ) where
  next_alike : next_for new o ≡ next_for old o
  next_alike = ap (λ (l : Facts). next_in o.request.phase l o.request) facts

  pub landing_alike : landing_at old j o ≡ None → landing_at new k o ≡ None
  landing_alike = none_mapped (event.Land j) (event.Land k) (outcome_next (next_for old o)) (outcome_next (next_for new o)) (λ is. ap outcome_next next_alike ∙ is)

  pub admission_alike : admission_at old j o ≡ None → admission_at new k o ≡ None
  admission_alike = none_chosen (event.Admit j) (event.Admit k) (is_admit (next_for old o)) (is_admit (next_for new o)) (ap is_admit next_alike)

  pub pinning_alike : can_pin new.cache o.request.ask ≡ can_pin old.cache o.request.ask → pinning_at old j o ≡ None → pinning_at new k o ≡ None
  pinning_alike can =
      none_chosen (event.Pin j) (event.Pin k) (is_pin (next_for old o) && can_pin old.cache o.request.ask) (is_pin (next_for new o) && can_pin new.cache o.request.ask)
      (ap (λ (n : Next). is_pin n && can_pin new.cache o.request.ask) next_alike ∙ ap (λ (b : Bool). is_pin (next_for old o) && b) can)

  pub note_alike : note_due new o ≡ note_due old o → note_at old j o ≡ None → note_at new k o ≡ None
  note_alike same = none_mapped (event.StartNote j) (event.StartNote k) (note_due old o) (note_due new o) (λ is. same ∙ is)

  pub data_alike : data_at old j o ≡ None → data_at new k o ≡ None
  data_alike = none_mapped (event.StartData j) (event.StartData k) (target_next (next_for old o)) (target_next (next_for new o)) (λ is. ap target_next next_alike ∙ is)
