-- A write that is kept back.
use Rattle.std.specs.Prelude.{◌≡◌, ◌<◌, ℕ, nat_le, if◌then◌else◌, List, Some, slice_get, slice_index_or}
use Rattle.lvm_disk.specs.Device.{Flight}
use Rattle.lvm_disk.specs.declared.shelf.Started.{Started}
use Rattle.lvm_disk.specs.declared.shelf.Started.TheVariants as started
use Rattle.lvm_disk.specs.declared.shelf.Reaped.{Reaped}
use Rattle.lvm_disk.specs.declared.shelf.Reaped.TheVariants as reaped
use Rattle.lvm_memory.specs.Bench.{Bench}
use Rattle.lvm_memory.specs.declared.gate.Gate.{Gate}
use Rattle.lvm_memory.specs.declared.gate.Gate.TheVariants as gate

-- each flight with this ticket is passed over by the next reap
abbrev pub IsPassedOver : ℕ → List Flight → List ℕ → Type 0
IsPassedOver ticket flights delays = (i : ℕ) (f : Flight) → slice_get flights i ≡ Some f → f.ticket ≡ ticket → 0 < slice_index_or delays i 0

-- the answer is that a flight has failed, or that the power is off
abbrev pub IsFailing : Reaped → Type 0
IsFailing (reaped.Failed t buf) = Unit {0}
IsFailing (reaped.Dark freed) = Unit {0}
IsFailing _ = ⊥

-- What is kept back doesn't end as done, nor as failed while answers are left.
abbrev pub KeepsBack : Gate → ℕ → Reaped → Type 0
KeepsBack (gate.Held ticket) left (reaped.Done t buf) = t ≡ ticket → ⊥
KeepsBack (gate.Held ticket) left (reaped.Failed t buf) = 0 < left → t ≡ ticket → ⊥
KeepsBack _ left _ = Unit {0}

-- so the bench stands by it
abbrev pub IsKeptBack : Gate → Bench → Type 0
IsKeptBack (gate.Held ticket) bench = IsPassedOver ticket bench.device.flights bench.delays
IsKeptBack _ bench = Unit {0}

-- Behind a reap it is kept back on, unless the power is off, or it may have failed.
abbrev pub HoldsOn : Gate → ℕ → Gate → Reaped → Type 0
HoldsOn old left new (reaped.Dark freed) = Unit {0}
HoldsOn old left new (reaped.Failed t buf) = 0 < left → new ≡ old
HoldsOn old left new _ = new ≡ old

-- the first write of data is kept back, and the second lets it go
abbrev pub after_data : Gate → ℕ → Gate
after_data gate.Before ticket = gate.Held ticket
after_data (gate.Held first) ticket = gate.Behind
after_data gate.Behind ticket = gate.Behind

-- so it is behind the start of a write, of data or of records
abbrev pub LetsBy : Gate → ℕ → Started → Gate → Type 0
LetsBy old first (started.Ticket ticket) new = new ≡ (if nat_le 4096 first then after_data old ticket else old)
LetsBy old first (started.Dark back) new = Unit {0}
