-- An admission leaves less work.
use Rattle.std.specs.Prelude.{ℕ}
use Rattle.lvm_session.specs.Events.{Admits}
use Rattle.lvm_keeps_events.specs.Falls.{Falls}

abbrev pub AdmissionFalls : Type 0
AdmissionFalls = (place : ℕ) → Falls (λ old new. Admits old new place)
