-- What the answer of all parts says.
use Rattle.std.proofs.Common.{◌≡◌, ℕ, List, refl}
use Rattle.lvm_num.specs.Buffer.{Buffer}
use Rattle.lvm_disk.specs.Device.{Device}
use Rattle.lvm_rec.specs.declared.homes.Homes.{Homes}
use Rattle.lvm_write.specs.declared.begin.Begun.{Begun}
use Rattle.lvm_write.specs.declared.begin.Begun.TheVariants as begun
use Rattle.lvm_write.specs.Beginning.{Beginning, Part}
use Rattle.lvm_write.specs.Ends.{IfBegun, BothFlip, BeginEnds}
use Rattle.lvm_write.specs.Runs.{HowMany}

-- how all parts ended, with the slots that come next where all went well
pub begin_ends :
    (b : Beginning) (order : List Part) (number before : ℕ) (next : Homes) (old new : Device) (r : Begun) → HowMany b order number before old new r → IfBegun r (λ back. BothFlip b.targets b.homes next)
    → BeginEnds b order number before next old new r
begin_ends b order number before next old new (begun.Ended buf) how flips = record { back = how.back; stand = how.stand; well = how.well; flips = flips }
begin_ends b order number before next old new (begun.DiskFailed disk buf) how flips = how
begin_ends b order number before next old new begun.Dark how flips = how
begin_ends b order number before next old new begun.Stuck how flips = how

-- it didn't end well
pub not_ended : (r : Begun) (P : Buffer → Type 0) → ((buf : Buffer) → r ≡ begun.Ended buf → ⊥) → IfBegun r P
not_ended (begun.Ended buf) P never = absurd (never buf refl)
not_ended (begun.DiskFailed disk buf) P never = tt
not_ended begun.Dark P never = tt
not_ended begun.Stuck P never = tt
