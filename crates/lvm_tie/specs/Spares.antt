-- Where the next descriptors of a session go: on each member that isn't missing to the slot that doesn't hold the newest one.
use Rattle.std.specs.Prelude.{◌≡◌, IfSome, ℕ, Bool, true, List, Option, Result, IsTrue}
use Rattle.lvm_num.specs.declared.place.Pp.{Pp}
use Rattle.lvm_num.specs.declared.record.Kind.TheVariants as kind
use Rattle.lvm_num.specs.Buffer.{Sector}
use Rattle.lvm_num.specs.DescriptorBytes.{descriptor_of}
use Rattle.lvm_vol.specs.Facts.{Fact}
use Rattle.lvm_rec.specs.Slots.{slot_for}
use Rattle.lvm_disk.specs.declared.shelf.Arrange.{Arrange}
use Rattle.lvm_disk.specs.Counts.{Counts}
use Rattle.lvm_disk.specs.Device.{Device, IsInFlight, Media}
use Rattle.lvm_kept.specs.Torn.{IsOutsideSlots}
use Rattle.lvm_rec.specs.Homes.{next_slot}
use Rattle.lvm_path.specs.declared.ask.Ask.{Ask}
use Rattle.lvm_session.specs.State.{Core, State, is_there, state}
use Rattle.lvm_session.specs.declared.answers.AskFault.{AskFault}
use Rattle.lvm_session.specs.declared.answers.CopyFault.{CopyFault}
use Rattle.lvm_session.specs.declared.answers.OpenFault.{OpenFault}
use Rattle.lvm_session.specs.declared.answers.Taken.{Taken}
use Rattle.lvm_session.specs.declared.answers.Turned.{Turned}
use Rattle.lvm_session.specs.Calls.{Closes, OpenGives, OpenMoveGives, SubmitGives, TakeGives}
use Rattle.lvm_session.specs.Causes.{is_over}
use Rattle.lvm_session.specs.Turns.{ArrangesSession, TurnMakes}
use Rattle.lvm_session.specs.Sound.{IsSound}
use Rattle.lvm_tie.specs.Tied.{IsTied}

-- on these media the next descriptor of each member that isn't missing spares the newest one
abbrev pub SparesOn : Core → Media → Type 0
SparesOn core media = (d : ℕ) → IsTrue (is_there core d) → next_slot kind.Descriptor core.homes d ≡ slot_for descriptor_of kind.Descriptor (media d)

-- So it is on those of its shelf, where it tells them.
abbrev pub SparesDescriptors : State → Type 0
SparesDescriptors s = IfSome s.device.media (SparesOn s.core)

-- no transfer that is out goes to a slot of descriptors
abbrev pub LeavesDescriptors : Device → Type 0
LeavesDescriptors device = (d at : ℕ) (value : Sector) → IsInFlight device.flights d at value → IsOutsideSlots kind.Descriptor d at value

-- ---- laws

-- No transfer of a tied session does, nor of one that is over.
abbrev pub TiedLeavesDescriptors : Type 0
TiedLeavesDescriptors = (past : List Fact) (s : State) → IsTied past s → LeavesDescriptors s.device

abbrev pub OverLeavesDescriptors : Type 0
OverLeavesDescriptors = (s : State) → IsSound s → is_over s.core.power ≡ true → LeavesDescriptors s.device

-- So the newest descriptors go on to be spared over each turn,
abbrev pub TurnSparesDescriptors : Type 0
TurnSparesDescriptors = (old new : State) (answer : Turned) → LeavesDescriptors old.device → TurnMakes old new answer
    → SparesDescriptors old → SparesDescriptors new

-- what a call of a client leaves of a session spares them too
abbrev pub GoesOnSparing : (State → Core → Type 0) → Type 0
GoesOnSparing Call = (s : State) (new : Core) → Call s new → SparesDescriptors s → SparesDescriptors (state s.device new)

-- and over each call of a client.
pub record CallsSpareDescriptors : Type 0 where
  pub submit : (client : ℕ) (ask : Ask) (bytes : Option (List ℕ)) (answer : Result ℕ AskFault) → GoesOnSparing (λ s new. SubmitGives s.core new client ask bytes answer)
  pub take : (client id : ℕ) (answer : Taken) → GoesOnSparing (λ s new. TakeGives s.core new client id answer)
  pub open_copy : (counts : Counts) (lv lp number : ℕ) (answer : Result (Unit {0}) CopyFault)
      → GoesOnSparing (λ s new. OpenGives counts s.core new lv lp number answer)
  pub open_move : (counts : Counts) (lv lp number : ℕ) (to : Pp) (answer : Result (Unit {0}) OpenFault)
      → GoesOnSparing (λ s new. OpenMoveGives counts s.core new lv lp number to answer)
  pub close_copy : GoesOnSparing (λ s new. Closes s.core new)
  pub arrange : (old new : State) (what : Arrange) (done : Bool) → LeavesDescriptors old.device → ArrangesSession old new what done
      → SparesDescriptors old → SparesDescriptors new
