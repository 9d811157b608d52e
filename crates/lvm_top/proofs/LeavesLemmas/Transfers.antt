-- What the reading and the writing of a range of a disk makes found: nothing new.
use Rattle.std.proofs.Common.{◌≤◌, ◌<◌, ◌-◌, ◌+◌, ℕ, true, false, [], Result, Ok, refl, ap, subst, arith}
use Rattle.lvm_num.specs.Geometry.{data_start}
use Rattle.lvm_disk.specs.Device.{Flight, Device, MayLeave}
use Rattle.lvm_disk.specs.Images.{LeavesNoMore}
use Rattle.lvm_disk.proofs.DeviceLemmas.{done_leaves, failed_leaves, cut_leaves, start_leaves}
use Rattle.lvm_disk.proofs.PathsLemmas.{last-path}
use Rattle.lvm_vol.specs.Log.{Log}
use Rattle.lvm_kept.specs.Moments.{Moment}
use Rattle.lvm_transfer.specs.declared.moves.Moved.{Moved}
use Rattle.lvm_transfer.specs.declared.moves.Moved.TheVariants as moved
use Rattle.lvm_transfer.specs.Transfer.{WaitsOnly, IsOut, TransferGives, Relights, flight_of}
use Rattle.lvm_raw.specs.declared.fault.RawFault.{RawFault}
use Rattle.lvm_raw.specs.declared.fault.RawFault.TheVariants as fault
use Rattle.lvm_raw.specs.Looking.{LookFails}
use Rattle.lvm_raw.specs.OnePiece.{WritesPiece, ReadsPiece}
use Rattle.lvm_raw.specs.Pieces.{piece_end, PiecesGo, NoPiece, OnePiece, RangeGoes, WentThrough, WasBroken}
use Rattle.lvm_raw.specs.Raw.{Rejected, Unasked, Asked, WriteGives, ReadGives}
use Rattle.lvm_raw.specs.Requests.{RelightsAfter, ShelfAfter}
use Rattle.lvm_raw.proofs.OnePieceKeepingLemmas.{brings_data}
use Rattle.lvm_top.proofs.Devices.{NothingNew, then_nothing, same_nothing, fewer_nothing, data_nothing}

-- ---- one transfer

waits_fewer : (old now : Device) → WaitsOnly old now → LeavesNoMore old now
waits_fewer old now waits image may = subst (λ (d : Device). MayLeave d image) waits.now_is may

relit_fewer : (old new : Device) → Relights old new → LeavesNoMore old new
relit_fewer old new lit image may = subst (λ (d : Device). MayLeave d image) lit may

pub relit_nothing : (old new : Device) → Relights old new → NothingNew old new
relit_nothing old new lit = fewer_nothing old new (relit_fewer old new lit)

out_nothing : (f : Flight) (old now : Device) → data_start ≤ f.first → IsOut old now f → NothingNew old now
out_nothing f old now low out =
    then_nothing old out.begun now (data_nothing f old out.begun (brings_data f low) (start_leaves old out.begun f out.starts)) (fewer_nothing out.begun now (waits_fewer out.begun now out.waits))

module _ (patience : ℕ) (f : Flight) (low : data_start ≤ f.first) (old : Device) where
  moved_nothing : (new : Device) (how : Moved) → TransferGives patience old new f how → NothingNew old new
  moved_nothing new (moved.Done back) (now, out, ends) = then_nothing old now new (out_nothing f old now low out) (fewer_nothing now new (done_leaves now new f.ticket back ends))
  moved_nothing new (moved.Failed back) (now, out, ends) = then_nothing old now new (out_nothing f old now low out) (fewer_nothing now new (failed_leaves now new f.ticket back ends))
  moved_nothing new (moved.Dark true) (now, out, cuts) = then_nothing old now new (out_nothing f old now low out) (fewer_nothing now new (cut_leaves now new cuts))
  moved_nothing new (moved.Dark false) cuts = fewer_nothing old new (cut_leaves old new cuts)
  moved_nothing new moved.Stuck (out, rose) = out_nothing f old new low out

  after_moved : (left new : Device) (how : Moved) → RelightsAfter left new how → NothingNew left new
  after_moved left new (moved.Done back) lit = same_nothing left new lit
  after_moved left new (moved.Failed back) lit = same_nothing left new lit
  after_moved left new (moved.Dark started) lit = relit_nothing left new lit
  after_moved left new moved.Stuck lit = same_nothing left new lit

  shelf_nothing : (new : Device) (how : Moved) → ShelfAfter patience old new f how → NothingNew old new
  shelf_nothing new how after = then_nothing old after.moved new (moved_nothing after.moved how after.gives) (after_moved after.moved new how after.lit)

-- ---- one after the other

-- a piece of a range of data, whatever comes of it
abbrev AddsNothing : (ℕ → ℕ → ℕ → Moment → Moment → Moved → Type 0) → Type 0
AddsNothing Piece = (from count patience : ℕ) (old new : Moment) (how : Moved) → data_start ≤ from → Piece from count patience old new how → NothingNew old.device new.device

module _ {X : Type 0} (Piece : ℕ → ℕ → ℕ → Moment → Moment → Moved → Type 0) (answer : ℕ → Moved → X → X) (at end : ℕ) (first : Moment) (none : X) (adds : AddsNothing Piece) (low : data_start ≤ at) where
  past : (from : ℕ) → data_start ≤ from → from < end → data_start ≤ piece_end from end
  past from above lt = grind (arith)

  pieces_low : (from : ℕ) (now : Moment) (x : X) → PiecesGo Piece answer at end first none from now x → data_start ≤ from
  pieces_low from now x NoPiece = low
  pieces_low to now y (OnePiece {from} {patience} {old} {new} {x} {how} so_far within piece ended) = past from (pieces_low from old x so_far) within

  pieces_nothing : (from : ℕ) (now : Moment) (x : X) → PiecesGo Piece answer at end first none from now x → NothingNew first.device now.device
  pieces_nothing from now x NoPiece = same_nothing first.device first.device refl
  pieces_nothing to now y (OnePiece {from} {patience} {old} {new} {x} {how} so_far within piece ended) =
      then_nothing first.device old.device now.device (pieces_nothing from old x so_far) (adds from (piece_end from end - from) patience old now how (pieces_low from old x so_far) piece)

  range_nothing : (last : Moment) (given : X) → RangeGoes Piece answer at end first none last given → NothingNew first.device last.device
  range_nothing last given (WentThrough so_far) = pieces_nothing end last given so_far
  range_nothing last given (WasBroken {from} {patience} {old} {x} {how} so_far within piece broken is) =
      then_nothing first.device old.device last.device (pieces_nothing from old x so_far) (adds from (piece_end from end - from) patience old last how (pieces_low from old x so_far) piece)

-- ---- whether the disk is in a group

look_nothing : (patience disk : ℕ) (old new : Device) (why : RawFault) → LookFails patience disk old new why → NothingNew old new
look_nothing patience disk old new fault.Dark dark =
    then_nothing old dark.dark new (fewer_nothing old dark.dark (last-path dark.reads.only.moments)) (relit_nothing dark.dark new dark.lit)
look_nothing patience disk old new fault.Stuck looked = fewer_nothing old new (last-path looked.0.only.moments)
look_nothing patience disk old new (fault.DiskFailed d) looked = fewer_nothing old new (last-path looked.1.only.moments)
look_nothing patience disk old new (fault.InGroup d) looked = fewer_nothing old new (last-path looked.1.only.moments)
look_nothing patience disk old new fault.Memory looked = fewer_nothing old new (last-path looked.0.only.moments)
look_nothing patience disk old new (fault.NoDisk d) none = absurd none
look_nothing patience disk old new (fault.OutOfRange size) none = absurd none
look_nothing patience disk old new fault.HistoryFull none = absurd none
look_nothing patience disk old new fault.Lost none = absurd none
look_nothing patience disk old new fault.ReadFailed none = absurd none

-- ---- a range

pub write_nothing : (log : Log) (disk at count word patience : ℕ) (old new : Moment) (given : Result (Unit {0}) RawFault) → WriteGives log disk at count word patience old new given → NothingNew old.device new.device
write_nothing log disk at count word patience old new given (Rejected why is rejected same) = same_nothing old.device new.device (ap (λ (m : Moment). m.device) same)
write_nothing log disk at count word patience old new given (Unasked why is may fails logged) = look_nothing patience disk old.device new.device why fails
write_nothing log disk at count word patience old new given (Asked may mid finds goes) =
    then_nothing old.device mid new.device (fewer_nothing old.device mid (last-path finds.reads.only.moments))
    (range_nothing (λ from n. WritesPiece log.run disk (word + (from - at)) from n) _ at (at + count) (record { device = mid; facts = old.facts }) (Ok tt)
    (λ from n left was is how above piece. shelf_nothing left (flight_of piece.shelf.0 true disk from n piece.sent) above was.device is.device how piece.shelf.1)
    may.inside.low new given goes)

pub read_nothing : (log : Log) (disk at count patience : ℕ) (old new : Moment) (given : _) → ReadGives log disk at count patience old new given → NothingNew old.device new.device
read_nothing log disk at count patience old new given (Rejected why is rejected same) = same_nothing old.device new.device (ap (λ (m : Moment). m.device) same)
read_nothing log disk at count patience old new given (Unasked why is may fails logged) = look_nothing patience disk old.device new.device why fails
read_nothing log disk at count patience old new given (Asked may mid finds goes) =
    then_nothing old.device mid new.device (fewer_nothing old.device mid (last-path finds.reads.only.moments))
    (range_nothing (λ from n. ReadsPiece log.run disk from n) _ at (at + count) (record { device = mid; facts = old.facts }) (Ok [])
    (λ from n left was is how above piece. shelf_nothing left (flight_of piece.shelf.0 false disk from n piece.sent) above was.device is.device how piece.shelf.1)
    may.inside.low new given goes)
