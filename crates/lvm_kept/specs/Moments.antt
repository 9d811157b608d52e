-- Moments of a run: the shelf, and what the history has so far.
use Rattle.std.specs.Prelude.{◌≡◌, ℕ, ◌++◌, List, [], ◌∷◌}
use Rattle.lvm_disk.specs.Device.{Device}
use Rattle.lvm_disk.specs.Paths.{DeviceStep}
use Rattle.lvm_vol.specs.declared.entry.Vol.{Vol}
use Rattle.lvm_vol.specs.Facts.{Fact}
use Rattle.lvm_vol.specs.May.{known}

pub record Moment : Type 0 where
  pub device : Device
  pub facts : List Fact

-- one step of the shelf, or one entry
pub data Step (old new : Moment) : Type 0 where
  Moves : DeviceStep old.device new.device → new.facts ≡ old.facts → Step old new
  Enters : (f : Fact) → new.device ≡ old.device → new.facts ≡ old.facts ++ f ∷ [] → Step old new

-- no write of a block of any volume is open
abbrev pub Calm : List Fact → Type 0
Calm facts = (vol : Vol) (b : ℕ) → (known facts vol b).open_writes ≡ []

-- what is open is closed again
abbrev pub StaysCalm : Moment → Moment → Type 0
StaysCalm first last = (past : List Fact) → Calm (past ++ first.facts) → Calm (past ++ last.facts)
