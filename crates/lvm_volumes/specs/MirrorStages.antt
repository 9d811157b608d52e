-- The stages in which copies are added.
use Rattle.std.specs.Prelude.{◌≡◌, ℕ, List, Result, Ok, Err, IsTrue, All, Contains}
use Rattle.lvm_num.specs.declared.place.Pp.{Pp}
use Rattle.lvm_num.specs.declared.descriptor.Descriptor.{Descriptor}
use Rattle.lvm_num.specs.Status.{calls_stale}
use Rattle.lvm_disk.specs.Device.{IsReady}
use Rattle.lvm_session.specs.State.{Core, State}
use Rattle.lvm_volume_plan.specs.passed.Core.{CommitFault, IsSettled, Scope, NoPartition, NoVolume, Always}
use Rattle.lvm_volumes.specs.Stages.{CommandBroke}
use Rattle.lvm_volume_plan.specs.PlannedCopies.{ArePlanned}

-- nothing stands against these copies and this descriptor
abbrev pub MayAdd : Core → List Pp → Descriptor → Type 0
MayAdd core added next = (lv : ℕ) × ((copies : ℕ) × ArePlanned lv copies core added next)

-- these become stale, and the descriptor is committed
abbrev pub adding : List Pp → Descriptor → ℕ → Scope
adding added next numbers = record { next = λ d. d ≡ next; zeros = NoPartition; stale = Contains added; fresh = NoPartition; marks = NoVolume; numbers = numbers; lets = Always }

-- The descriptor is committed, and the copies are stale.
pub record AreNamed (added : List Pp) (next : Descriptor) (old new : State) : Type 0 where
  pub settled : IsSettled new.core
  pub is : new.core ≡ record old.core { descriptor = next; status = new.core.status; homes = new.core.homes }
  pub stale : All (λ (pp : Pp). IsTrue (calls_stale new.core.status.committed pp)) added
  pub ready : IsReady new.device
  pub cuts : new.device.counts.cuts ≡ old.device.counts.cuts

abbrev pub AddEnds : List Pp → Descriptor → ℕ → State → State → Result (Unit {0}) CommitFault → Type 0
AddEnds added next patience old new (Ok done) = AreNamed added next old new
AddEnds added next patience old new (Err why) = CommandBroke old.core.history patience old new why
