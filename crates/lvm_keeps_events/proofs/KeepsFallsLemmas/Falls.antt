-- Each event of a turn leaves less work.
use Rattle.std.proofs.Common.{◌≡◌, ◌+◌, ℕ, Bool, true, false, List, [], ◌∷◌, Option, Some, None, if◌then◌else◌, refl, sym, ◌∙◌, ap, subst}
use Rattle.std.specs.Option.{option_map}
use Rattle.lvm_vol.specs.declared.entry.Outcome.{Outcome}
use Rattle.lvm_session.specs.declared.event.Event.{Event}
use Rattle.lvm_session.specs.declared.event.Event.TheVariants as event
use Rattle.lvm_session.specs.declared.open.Open.{Open}
use Rattle.lvm_session.specs.State.{Core, State}
use Rattle.lvm_session.specs.Enabled.{first_event, first_from, first_of, is_lost, landing, landing_at, landing_due, or_next, parts_to_settle, parts_to_start}
use Rattle.lvm_keeps.specs.Falls.{EventsFall}
use Rattle.lvm_keeps.proofs.FallsLemmas.CopyRead.{copy_read_falls}
use Rattle.lvm_keeps.proofs.FallsLemmas.Landing.{landing_falls}
use Rattle.lvm_keeps.proofs.FallsLemmas.NoteStart.{note_start_falls}
use Rattle.lvm_keeps.proofs.FallsLemmas.Pin.{pin_falls}
use Rattle.lvm_keeps_events.proofs.FallsLemmas.CopyWrite.{copy_write_falls}
use Rattle.lvm_keeps_events.proofs.FallsLemmas.DataStart.{data_start_falls}
use Rattle.lvm_keeps_events.proofs.FallsLemmas.StatusStart.{status_start_falls}
use Rattle.lvm_keeps_events.proofs.MoveFallsLemmas.{admission_falls}

-- a request lands by it
abbrev IsLanding : Event → Type 0
IsLanding (event.Land place how) = Unit {0}
IsLanding (event.Admit place) = ⊥
IsLanding (event.Pin place) = ⊥
IsLanding event.StartStatus = ⊥
IsLanding (event.StartNote place disk) = ⊥
IsLanding (event.StartData place target) = ⊥
IsLanding event.ReadCopy = ⊥
IsLanding event.WriteCopy = ⊥

landings_land : (core : Core) (it : Event) (k : ℕ) (os : List Open) → first_from (landing_at core) k os ≡ Some it → IsLanding it
landings_land core it k [] is = absurd (cc is)
landings_land core it k (o ∷ os) is = by (landing_due core o) (λ e. landings_land core it (k + 1) os e) is
  where
    by : (m : Option Outcome) → (first_from (landing_at core) (k + 1) os ≡ Some it → IsLanding it) → or_next (option_map (event.Land k) m) (first_from (landing_at core) (k + 1) os) ≡ Some it → IsLanding it
    by None rest e = rest e
    by (Some how) rest e = let same : event.Land k how ≡ it = cc e in subst IsLanding same tt

-- while the votes are lost only a landing is made
votes_there : (core : Core) (it : Event) → first_event core ≡ Some it → (IsLanding it → ⊥) → is_lost core ≡ false
votes_there core it is other = by (is_lost core) is
  where
    by : (b : Bool) → (if b then landing core else or_next (first_of parts_to_settle core) (first_of parts_to_start core)) ≡ Some it → b ≡ false
    by false e = refl
    by true e = absurd (other (landings_land core it 0 core.requests e))

pub events_fall : EventsFall
events_fall (event.Land place how) old new sound on is made = landing_falls place how old new sound on made
events_fall (event.Admit place) old new sound on is made = admission_falls place old new sound on (votes_there old.core (event.Admit place) is (λ none. none)) made
events_fall (event.Pin place) old new sound on is made = pin_falls place old new sound on (votes_there old.core (event.Pin place) is (λ none. none)) made
events_fall event.StartStatus old new sound on is made = status_start_falls old new sound on (votes_there old.core event.StartStatus is (λ none. none)) made
events_fall (event.StartNote place disk) old new sound on is made = note_start_falls place disk old new sound on (votes_there old.core (event.StartNote place disk) is (λ none. none)) made
events_fall (event.StartData place target) old new sound on is made = data_start_falls place target old new sound on (votes_there old.core (event.StartData place target) is (λ none. none)) made
events_fall event.ReadCopy old new sound on is made = copy_read_falls old new sound on (votes_there old.core event.ReadCopy is (λ none. none)) made
events_fall event.WriteCopy old new sound on is made = copy_write_falls old new sound on (votes_there old.core event.WriteCopy is (λ none. none)) made
