-- Sectors of a disk that are read piece by piece.
use Rattle.std.proofs.Common.{◌≡◌, ◌+◌, ◌*◌, ℕ, subst, arith}
use Rattle.lvm_disk.specs.Device.{Device}
use Rattle.lvm_transfer.specs.Reading.{OneWasRead, ReadSoFar, NoneYet, OneMore, SectorsRead}

-- a piece begins where it is said to
pub read_at : {disk piece : ℕ} {old new : Device} (from to : ℕ) → from ≡ to → OneWasRead disk from piece old new → OneWasRead disk to piece old new
read_at {disk} {piece} {old} {new} from to same one = subst (λ (n : ℕ). OneWasRead disk n piece old new) same one

-- where all pieces have 256 sectors, so have those that were read so far
pieces_fill : {disk first : ℕ} {old : Device} (k : ℕ) {done : ℕ} {now : Device} → ReadSoFar disk first (256 * k) old done now → (j : ℕ) × (done ≡ 256 * j)
pieces_fill k NoneYet = (0, omega arith)
pieces_fill k (OneMore done piece so_far less is one) = let before = pieces_fill k so_far in let same = before.1 in (before.0 + 1, omega (arith, same, less, is))

-- then they are the first pieces of more sectors
pieces_widen : {disk first : ℕ} {old : Device} (k more : ℕ) {done : ℕ} {now : Device} → ReadSoFar disk first (256 * k) old done now → ReadSoFar disk first (256 * k + more) old done now
pieces_widen k more NoneYet = NoneYet
pieces_widen k more (OneMore done piece so_far less is one) =
    let fill = pieces_fill k so_far in let same = fill.1 in OneMore done piece (pieces_widen k more so_far) (omega (arith, less)) (omega (arith, same, less, is)) one

-- and those behind them follow
pieces_then : {disk first : ℕ} {old mid : Device} (some more : ℕ) {done : ℕ} {new : Device} → ReadSoFar disk first (some + more) old some mid → ReadSoFar disk (first + some) more mid done new → ReadSoFar disk first (some + more) old (some + done) new
pieces_then {disk} {first} {old} {mid} some more front NoneYet = subst (λ (n : ℕ). ReadSoFar disk first (some + more) old n mid) (omega arith) front
pieces_then {disk} {first} {old} {mid} some more {new} front (OneMore done piece so_far less is one) =
    subst (λ (n : ℕ). ReadSoFar disk first (some + more) old n new) (omega arith)
    (OneMore (some + done) piece (pieces_then some more front so_far) (omega (arith, less)) (omega (arith, is)) (read_at (first + some + done) (first + (some + done)) (omega arith) one))

-- the front of a slot of descriptors, and the rest of it
pub slot_read : (disk first : ℕ) (old mid new : Device) → SectorsRead disk first 256 old mid → SectorsRead disk (first + 256) 896 mid new → SectorsRead disk first 1152 old new
slot_read disk first old mid new front rest = pieces_then 256 896 (pieces_widen 1 896 front) rest
