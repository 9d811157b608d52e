-- What comes back of the transfers that are out.
use Rattle.std.specs.Prelude.{◌≡◌, ℕ, Bool, false, List, Some, slice_get}
use Rattle.lvm_num.specs.Buffer.{Buffer}
use Rattle.lvm_disk.specs.Device.{Device}
use Rattle.lvm_disk.specs.Steps.{GoesDark, Waits}
use Rattle.lvm_session.specs.declared.flown.Flown.{Flown}
use Rattle.lvm_session.specs.State.{Core, state}
use Rattle.lvm_session.specs.Ends.{Returns}
use Rattle.lvm_session_turn.specs.declared.rows.Back.{Back}
use Rattle.lvm_session_turn.specs.declared.rows.Back.TheVariants as back

-- the transfer with this ticket has ended so, and the row is its own
abbrev pub IsReapedSo : List Flown → ℕ → Bool → Buffer → Back → Type 0
IsReapedSo flying ticket ok buf back.Empty = ⊥
IsReapedSo flying ticket ok buf (back.Ended at row how its) = (slice_get flying at ≡ Some row) × (row.ticket ≡ ticket) × (how ≡ ok) × (its ≡ buf)
IsReapedSo flying ticket ok buf back.Dark = ⊥

-- None of them has ended; the one of a row has; or the power is off.
abbrev pub ReapsTo : Core → Device → Device → Back → Type 0
ReapsTo core old new back.Empty = Waits old new
ReapsTo core old new (back.Ended at row ok buf) = Returns (state old core) (state new core) at row ok buf
ReapsTo core old new back.Dark = GoesDark old new × (new.power ≡ false)
