-- What one request on a disk in no group does to the history and to the shelf.
use Rattle.std.specs.Prelude.{◌≡◌, ◌≤◌, length, ℕ, ◌++◌, [], ◌∷◌, List, Bool, true, take}
use Rattle.lvm_disk.specs.Device.{Flight, Device}
use Rattle.lvm_vol.specs.declared.entry.Outcome.TheVariants as outcome
use Rattle.lvm_vol.specs.Facts.{Request, Fact, Landed, Taken, Cut}
use Rattle.lvm_transfer.specs.Transfer.{TransferGives, Relights}
use Rattle.lvm_transfer.specs.declared.moves.Moved.{Moved}
use Rattle.lvm_transfer.specs.declared.moves.Moved.TheVariants as moved

-- the request lands, and its answer is taken
abbrev pub landing_ends : List Fact → Request → Fact → List Fact
landing_ends facts r landing = (facts ++ landing ∷ []) ++ Taken r ∷ []

-- the power was cut before it landed
abbrev pub cut_ends : List Fact → Request → Bool → List Fact
cut_ends facts r started = landing_ends (facts ++ Cut ∷ []) r (Landed r outcome.Dark started [])

-- the history once a write that began has ended, by how its transfer ended
abbrev pub write_ends : List Fact → Request → Moved → List Fact
write_ends facts r (moved.Done back) = landing_ends facts r (Landed r outcome.Done true [])
write_ends facts r (moved.Failed back) = landing_ends facts r (Landed r outcome.Lost true [])
write_ends facts r (moved.Dark started) = cut_ends facts r started
write_ends facts r moved.Stuck = facts

-- the history once a read that began has ended; it has got the blocks at the front of the buffer
abbrev pub read_ends : List Fact → Request → Moved → List Fact
read_ends facts r (moved.Done back) = landing_ends facts r (Landed r outcome.Got true (take r.count back.sectors))
read_ends facts r (moved.Failed back) = landing_ends facts r (Landed r outcome.ReadFailed true [])
read_ends facts r (moved.Dark started) = cut_ends facts r started
read_ends facts r moved.Stuck = facts

-- the power is on again where a transfer found it off, and else nothing changes
abbrev pub RelightsAfter : Device → Device → Moved → Type 0
RelightsAfter old new (moved.Done back) = new ≡ old
RelightsAfter old new (moved.Failed back) = new ≡ old
RelightsAfter old new (moved.Dark started) = Relights old new
RelightsAfter old new moved.Stuck = new ≡ old

-- the shelf after a transfer that ended so; after a cut the power is on again
pub record ShelfAfter (patience : ℕ) (old new : Device) (f : Flight) (how : Moved) : Type 0 where
  pub moved : Device
  pub gives : TransferGives patience old moved f how
  pub lit : RelightsAfter moved new how

-- something was heard of the transfer
abbrev pub IsHeard : Moved → Type 0
IsHeard (moved.Done back) = Unit {0}
IsHeard (moved.Failed back) = Unit {0}
IsHeard (moved.Dark started) = Unit {0}
IsHeard moved.Stuck = ⊥

-- the disk answered, well or not
abbrev pub WasAnswered : Moved → Type 0
WasAnswered (moved.Done back) = Unit {0}
WasAnswered (moved.Failed back) = Unit {0}
WasAnswered (moved.Dark started) = ⊥
WasAnswered moved.Stuck = ⊥

-- what was read stands at the front of the buffer that came back
abbrev pub HasFront : ℕ → Moved → Type 0
HasFront count (moved.Done back) = count ≤ length back.sectors
HasFront count (moved.Failed back) = Unit {0}
HasFront count (moved.Dark started) = Unit {0}
HasFront count moved.Stuck = Unit {0}
