-- A request lands as Got exactly where it is a read that has its blocks.
use Rattle.std.proofs.Common.{◌≡◌, ℕ, Bool, true, false, List, [], ◌∷◌, Option, Some, None, position, refl, sym, ◌∙◌, ap}
use Rattle.std.specs.Prelude.{◌&&◌, ◌||◌, not, if◌then◌else◌}
use Rattle.std.specs.List.{list_any}
use Rattle.std.specs.Option.{option_map_or}
use Rattle.lvm_num.specs.declared.descriptor.Policy.{Policy}
use Rattle.lvm_vol.specs.declared.entry.Outcome.{Outcome}
use Rattle.lvm_vol.specs.declared.entry.Outcome.TheVariants as outcome
use Rattle.lvm_vol.specs.Log.{is_got}
use Rattle.lvm_sched.specs.declared.writes.TargetState.{TargetState}
use Rattle.lvm_sched.specs.declared.writes.TargetState.TheVariants as stage
use Rattle.lvm_sched.specs.Writes.{is_flying, is_waiting, next_target}
use Rattle.lvm_path.specs.declared.facts.Facts.{Facts}
use Rattle.lvm_path.specs.declared.facts.Next.{Next}
use Rattle.lvm_path.specs.declared.facts.Next.TheVariants as next
use Rattle.lvm_path.specs.declared.request.Phase.{Phase}
use Rattle.lvm_path.specs.declared.request.Phase.TheVariants as phase
use Rattle.lvm_path.specs.declared.request.Request.{Request}
use Rattle.lvm_path.specs.declared.target.Target.{Target}
use Rattle.lvm_path.specs.Asks.{is_write}
use Rattle.lvm_path.specs.Targets.{is_begun, is_done, states_of}
use Rattle.lvm_path.specs.Next.{next_chosen, next_data, next_in, next_marked, next_of, next_read, next_write, start_or_wait}
use Rattle.lvm_session.specs.declared.open.Open.{Open}
use Rattle.lvm_session.specs.Enabled.{outcome_next}
use Rattle.lvm_session.specs.Requests.{IsPhase}

-- a transfer of one of them has ended well
abbrev pub has_done : List Target → Bool
has_done targets = list_any (λ (t : Target). is_done t.state) targets

-- it lands as Got next
abbrev lands_got : Next → Bool
lands_got n = option_map_or is_got (outcome_next n) false

chosen : (k : Facts) (on : Next) → lands_got on ≡ false → lands_got (next_chosen k on) ≡ false
chosen k on other = by_tests k.pending k.usable k.changed
  where
    by_tests : (a b c : Bool) → lands_got (if a then on else if not b then next.Land outcome.NoFresh else if c then next.Admit else on) ≡ false
    by_tests true b c = other
    by_tests false false c = refl
    by_tests false true true = refl
    by_tests false true false = other

starts : (p : Policy) (ts : List Target) → lands_got (next_write p ts) ≡ false
starts p ts = by_place (next_target p (states_of ts))
  where
    by_place : (o : Option ℕ) → lands_got (start_or_wait o) ≡ false
    by_place None = refl
    by_place (Some place) = refl

picks : (b : Bool) (x y : Next) → lands_got x ≡ false → lands_got y ≡ false → lands_got (if b then x else y) ≡ false
picks true x y one two = one
picks false x y one two = two

reads : (ts : List Target) → lands_got (next_read ts) ≡ has_done ts
reads ts = by_tests (has_done ts) (list_any (λ (t : Target). is_flying t.state) ts) (position (λ (t : Target). is_waiting t.state) ts)
  where
    by_tests : (a b : Bool) (o : Option ℕ) → lands_got (if a then next.Land outcome.Got else if b then next.Wait else option_map_or next.Start o (next.Land outcome.ReadFailed)) ≡ a
    by_tests true b o = refl
    by_tests false true o = refl
    by_tests false false None = refl
    by_tests false false (Some place) = refl

marks : (k : Facts) → lands_got (next_marked k) ≡ false
marks k = by_tests k.marked k.kept
  where
    by_tests : (a b : Bool) → lands_got (if a then next.Land (if b then outcome.Done else outcome.Lost) else next.Wait) ≡ false
    by_tests true true = refl
    by_tests true false = refl
    by_tests false b = refl

writes : (k : Facts) (r : Request) → lands_got (next_data k r) ≡ false
writes k r = picks (is_begun r.targets.items) (next_write r.policy r.targets.items) (next_chosen k (if k.pending then next.Wait else next_write r.policy r.targets.items)) (starts r.policy r.targets.items)
    (chosen k (if k.pending then next.Wait else next_write r.policy r.targets.items) (picks k.pending next.Wait (next_write r.policy r.targets.items) refl (starts r.policy r.targets.items)))

-- the hand of one that waits, by its phase
module _ (o : Open) (k : Facts) (got : Bool) (hand : got ≡ (not (is_write o.request.ask) && has_done o.request.targets.items)) where
  written : is_write o.request.ask ≡ true → got ≡ false
  written is = hand ∙ ap (λ b. not b && has_done o.request.targets.items) is

  in_phase : (p : Phase) → IsPhase p o → lands_got (next_in p k o.request) ≡ got
  in_phase phase.Held shape = held (k.blocked || k.pending) k.usable ∙ sym (hand ∙ ap (λ (ts : List Target). not (is_write o.request.ask) && has_done ts) shape.0 ∙ neither (not (is_write o.request.ask)))
    where
      held : (a b : Bool) → lands_got (if a then next.Wait else if b then next.Admit else next.Land outcome.NoFresh) ≡ false
      held true b = refl
      held false true = refl
      held false false = refl

      neither : (a : Bool) → (a && false) ≡ false
      neither true = refl
      neither false = refl
  in_phase phase.WantEntry shape = chosen k (if k.pinned then next.Wait else next.Pin) (picks k.pinned next.Wait next.Pin refl refl) ∙ sym (written shape.2)
  in_phase phase.WantRecord shape =
      chosen k (if k.named && k.dirty && not k.pending then next_write o.request.policy o.request.targets.items else next.Wait) (picks (k.named && k.dirty && not k.pending) (next_write o.request.policy o.request.targets.items) next.Wait (starts o.request.policy o.request.targets.items) refl)
      ∙ sym (written shape.1)
  in_phase phase.Data shape = by_kind (is_write o.request.ask) refl
    where
      by_kind : (b : Bool) → is_write o.request.ask ≡ b → lands_got (if b then next_data k o.request else next_read o.request.targets.items) ≡ got
      by_kind true is = writes k o.request ∙ sym (written is)
      by_kind false is = reads o.request.targets.items ∙ sym (hand ∙ ap (λ b. not b && has_done o.request.targets.items) is)
  in_phase phase.WantStatus shape = marks k ∙ sym (written shape.0)
  in_phase phase.Landed shape = absurd shape

  pub got_is : (how : Outcome) → IsPhase o.request.phase o → next_of o.request k ≡ next.Land how → is_got how ≡ got
  got_is how shape lands = sym (ap lands_got lands) ∙ in_phase o.request.phase shape

pub is_the_got : (how : Outcome) → is_got how ≡ true → how ≡ outcome.Got
is_the_got outcome.Done is = absurd cc
is_the_got outcome.Got is = refl
is_the_got outcome.Lost is = absurd cc
is_the_got outcome.ReadFailed is = absurd cc
is_the_got outcome.NoFresh is = absurd cc
is_the_got outcome.Off is = absurd cc
is_the_got outcome.Dark is = absurd cc

-- what has ended well was started
begun_one : (s : TargetState) → is_done s ≡ true → not (is_waiting s) ≡ true
begun_one stage.Waiting is = absurd cc
begun_one stage.Flying is = absurd cc
begun_one stage.Done is = refl
begun_one stage.Failed is = absurd cc

pub done_begun : (ts : List Target) → has_done ts ≡ true → is_begun ts ≡ true
done_begun [] is = absurd cc
done_begun (t ∷ ts) is = by_test (is_done t.state) refl (done_begun ts)
  where
    either : (a b : Bool) → b ≡ true → (a || b) ≡ true
    either true b is = refl
    either false b is = is

    by_test : (b : Bool) → is_done t.state ≡ b → (has_done ts ≡ true → is_begun ts ≡ true) → is_begun (t ∷ ts) ≡ true
    by_test true done rest = ap (λ b. b || is_begun ts) (begun_one t.state done)
    by_test false none rest = either (not (is_waiting t.state)) (is_begun ts) (rest (sym (ap (λ b. b || has_done ts) none) ∙ is))
