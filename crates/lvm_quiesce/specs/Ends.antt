-- How the transfers end that are out, while nothing is started.
use Rattle.std.specs.Prelude.{◌≡◌, ◌⊎◌, ◌+◌, ◌<◌, ◌≤◌, ℕ, Bool, true, false, length}
use Rattle.lvm_num.specs.Buffer.{Buffer}
use Rattle.lvm_disk.specs.Counts.{RoseBy, NoneFalls}
use Rattle.lvm_disk.specs.Device.{Device, HasSectors, IsReady}
use Rattle.lvm_disk.specs.Paths.{Path}
use Rattle.lvm_disk.specs.Steps.{BothTold, Cuts, EndsDone, EndsFailed, Waits}
use Rattle.lvm_session.specs.Sound.{HasPower}
use Rattle.lvm_write.specs.Parts.{Spends}
use Rattle.lvm_quiesce.specs.declared.ends.Quiesced.{Quiesced}
use Rattle.lvm_quiesce.specs.declared.ends.Quiesced.TheVariants as quiesced

-- one of the transfers that are out ends, well or not, or none has come to its end
pub data EndStep (old new : Device) : Type 0 where
  EndsWell : (ticket : ℕ) (buf : Buffer) → EndsDone old new ticket buf → EndStep old new
  EndsBadly : (ticket : ℕ) (buf : Buffer) → EndsFailed old new ticket buf → EndStep old new
  NoneEnds : Waits old new → EndStep old new

-- some of the transfers that were out have ended, one after the other, and nothing else has happened
abbrev pub TransfersEnd : Device → Device → Type 0
TransfersEnd old new = Path EndStep (λ device. Unit {0}) old new

-- all of them have, and the shelf is at rest, with whole sectors
pub record Quiesces (old new : Device) : Type 0 where
  pub ends : TransfersEnd old new
  pub ready : IsReady new
  pub whole : HasSectors new

-- the power was cut while one was out
pub record IsCutEnding (old new : Device) : Type 0 where
  pub now : Device
  pub ends : TransfersEnd old now
  pub out : 0 < length now.flights
  pub cuts : Cuts now new

-- nothing was heard of those that are still out until so many answers had been borne that nothing has ended
pub record IsStuckEnding (patience : ℕ) (old new : Device) : Type 0 where
  pub ends : TransfersEnd old new
  pub out : 0 < length new.flights
  pub lit : HasPower new
  pub waited : RoseBy patience old.counts.waits new.counts.waits

-- how the transfers that were out ended
abbrev pub QuiesceGives : ℕ → Device → Device → Quiesced → Type 0
QuiesceGives patience old new quiesced.Ended = Quiesces old new
QuiesceGives patience old new quiesced.Dark = IsCutEnding old new
QuiesceGives patience old new quiesced.Stuck = IsStuckEnding patience old new

-- ---- what it costs

-- one that ends costs nothing, and an answer that none has ended one of the patience
pub data EndCosts (before after : ℕ) (old new : Device) : Type 0 where
  CostsNothing : (ticket : ℕ) (buf : Buffer) → EndsDone old new ticket buf ⊎ EndsFailed old new ticket buf → before ≡ after → EndCosts before after old new
  CostsOne : Waits old new → before ≡ after + 1 → EndCosts before after old new

-- Transfers end by so much patience, of which so much is left: nothing is heard of once it has run out.
pub data EndsWhile (patience : ℕ) (first : Device) : ℕ → Device → Type 0 where
  NoneYet : EndsWhile patience first patience first
  OneMore : {left less : ℕ} {old new : Device} → EndsWhile patience first left old → 1 ≤ left → EndCosts left less old new → EndsWhile patience first less new

-- before the power was cut, so much patience was left
pub record CutCosts (patience left : ℕ) (old new : Device) : Type 0 where
  pub now : Device
  pub ends : EndsWhile patience old left now
  pub some : 1 ≤ left
  pub cuts : Cuts now new

-- what their ending has cost
abbrev pub QuiesceCosts : ℕ → ℕ → Device → Device → Quiesced → Type 0
QuiesceCosts patience left old new quiesced.Ended = EndsWhile patience old left new
QuiesceCosts patience left old new quiesced.Dark = CutCosts patience left old new
QuiesceCosts patience left old new quiesced.Stuck = EndsWhile patience old left new × (left ≡ 0)

-- ---- one of them

-- A transfer has ended, or patience was lost.
pub record OneEnds (before after : ℕ) (old new : Device) : Type 0 where
  pub step : EndStep old new
  pub lit : HasPower new
  pub less : length new.flights + after < length old.flights + before
  pub costs : EndCosts before after old new
  pub spends : Spends before after old new

-- the power was cut, and no patience was lost
pub record OneIsCut (before after : ℕ) (old new : Device) : Type 0 where
  pub cuts : Cuts old new
  pub same : after ≡ before
  pub spends : Spends before after old new

-- how one of them ended
abbrev pub OneGives : ℕ → ℕ → Device → Device → Bool → Type 0
OneGives before after old new true = OneEnds before after old new
OneGives before after old new false = OneIsCut before after old new

-- ---- what stays

-- Nothing is started, written or arranged, the disks are as large as before and told where they were, and no count falls.
pub record StartsNothing (old new : Device) : Type 0 where
  pub sizes : new.sizes ≡ old.sizes
  pub media : BothTold old.media new.media (λ was is. Unit {0})
  pub starts : new.counts.starts ≡ old.counts.starts
  pub wrote : new.wrote ≡ old.wrote
  pub arranges : new.arranges ≡ old.arranges
  pub orders : new.orders ≡ old.orders
  pub counts : NoneFalls old.counts new.counts
