-- The start of each transfer of a request of a sound session, tied.
use Rattle.std.proofs.Common.{◌≡◌, ◌⊎◌, inl, inr, ℕ, Bool, true, false, ◌||◌, if◌then◌else◌, List, Some, None, refl, sym, ap, ◌∙◌}
use Rattle.lvm_vol.specs.Facts.{Fact}
use Rattle.lvm_vol.specs.declared.entry.Outcome.TheVariants as outcome
use Rattle.lvm_path.specs.declared.facts.Facts.{Facts}
use Rattle.lvm_path.specs.declared.facts.Next.TheVariants as next
use Rattle.lvm_path.specs.declared.request.Phase.{Phase}
use Rattle.lvm_path.specs.declared.request.Phase.TheVariants as phase
use Rattle.lvm_path.specs.Asks.{is_write}
use Rattle.lvm_path.specs.Targets.{is_begun}
use Rattle.lvm_path.specs.Next.{next_in}
use Rattle.lvm_session.specs.declared.open.Open.{Open}
use Rattle.lvm_session.specs.State.{Core, State}
use Rattle.lvm_session.specs.Judging.{facts_of, is_waiting}
use Rattle.lvm_session.specs.Enabled.{target_next}
use Rattle.lvm_session.specs.Events.{StartsData}
use Rattle.lvm_session.specs.Requests.{IsPhase, IsRequest}
use Rattle.lvm_session.specs.Sound.{IsSound}
use Rattle.lvm_tie.specs.Tied.{IsOrderly, IsTied}
use Rattle.lvm_tie.proofs.TiedLemmas.Orderly.{open_one, orderly_same, waiting_one}
use Rattle.lvm_tie.specs.Starts.{DataStartTies}
use Rattle.lvm_tie.proofs.StartsLemmas.LaterTies.{first_start_ties, later_start_ties, read_start_ties}

not_held : (a b : Bool) (number : ℕ) → target_next (if a then next.Wait else if b then next.Admit else next.Land outcome.NoFresh) ≡ Some number → ⊥
not_held true b number h = cc h
not_held false true number h = cc h
not_held false false number h = cc h

not_marked : (m k : Bool) (number : ℕ) → target_next (if m then next.Land (if k then outcome.Done else outcome.Lost) else next.Wait) ≡ Some number → ⊥
not_marked true k number h = cc h
not_marked false k number h = cc h

-- a write that has begun, or a read, of which a transfer is due moves its data
moving : (k : Facts) (o : Open) (number : ℕ) (p : Phase) → IsPhase p o → (is_begun o.request.targets.items ≡ true) ⊎ (is_write o.request.ask ≡ false) → target_next (next_in p k o.request) ≡ Some number → p ≡ phase.Data
moving k o number phase.Held its which due = absurd (not_held (k.blocked || k.pending) k.usable number due)
moving k o number phase.WantEntry its (inl begun) due = absurd (let e : false ≡ true = sym its.0 ∙ begun in cc)
moving k o number phase.WantEntry its (inr reads) due = absurd (let e : false ≡ true = sym reads ∙ its.2 in cc)
moving k o number phase.WantRecord its (inl begun) due = absurd (let e : false ≡ true = sym its.0 ∙ begun in cc)
moving k o number phase.WantRecord its (inr reads) due = absurd (let e : false ≡ true = sym reads ∙ its.1 in cc)
moving k o number phase.Data its which due = refl
moving k o number phase.WantStatus its which due = absurd (not_marked k.marked k.kept number due)
moving k o number phase.Landed its which due = absurd its

module _ (past : List Fact) (old new : State) (place number : ℕ) (tied : IsTied past old) (sound : IsSound new) (starts : StartsData old new place number) where
  abbrev core : Core
  core = old.core

  abbrev o : Open
  o = starts.its.request

  abbrev k : Facts
  k = facts_of core o.request

  orderly : IsOrderly new tied.write
  orderly = orderly_same old new tied.write tied.orderly sound (ap (λ (s : State). s.core.power) starts.is) (ap (λ (s : State). s.core.status) starts.is) (ap (λ (s : State). s.core.homes) starts.is)

  waits : is_waiting o ≡ true
  waits = by (is_waiting o) refl
    where
      by : (b : Bool) → is_waiting o ≡ b → is_waiting o ≡ true
      by true is = is
      by false is = absurd (let at = ((open_one old tied.write tied.orderly place o starts.its.there).over is).phase_is in let e : None ≡ Some number = sym (ap (λ (p : Phase). target_next (next_in p k o.request)) at) ∙ starts.its.due in cc)

  its : IsRequest core o
  its = waiting_one old tied.write tied.orderly place o starts.its.there waits

  in_data : (is_begun o.request.targets.items ≡ true) ⊎ (is_write o.request.ask ≡ false) → o.request.phase ≡ phase.Data
  in_data which = moving k o number o.request.phase its.shape.phase_is which starts.its.due

  pub starts_tied : IsTied past new
  starts_tied = by (is_write o.request.ask) refl (is_begun o.request.targets.items) refl
    where
      by : (w : Bool) → is_write o.request.ask ≡ w → (b : Bool) → is_begun o.request.targets.items ≡ b → IsTied past new
      by true writes false early = first_start_ties past old new place number starts tied waits writes early orderly
      by true writes true begun = later_start_ties past old new place number starts tied waits writes (in_data (inl begun)) begun orderly
      by false reads b begun = read_start_ties past old new place number starts tied waits reads (in_data (inr reads)) orderly

pub data_start_ties : DataStartTies
data_start_ties place number past old new tied sound starts = starts_tied past old new place number tied sound starts
