-- What the disks show depends on the sectors of the records alone, and blocks on the others.
use Rattle.std.proofs.Common.{◌≡◌, ℕ, ◌+◌, ◌<◌, ◌≤◌, ◌&&◌, Bool, true, false, List, [], None, Result, refl, ap, arith}
use Rattle.std.proofs.lemmas.Bool.Decides.{nat_tests}
use Rattle.std.specs.Prelude.{nat_le, nat_lt, if◌then◌else◌}
use Rattle.lvm_disk.specs.passed.Num.{Kind, data_start, sector_of, slot_start, slot_size, newer, Sectors, descriptor_of, status_of, note_in}
use Rattle.lvm_disk.specs.passed.NumRecordKind as kind
use Rattle.lvm_rec.specs.Slots.{held, slot_of, newest_on}
use Rattle.lvm_disk.proofs.passed.Num.{joined-same}
use Rattle.lvm_disk.specs.Device.{Image, SameDisks}
use Rattle.lvm_kept.specs.Contents.{has_records, newest_at, descriptor_on, status_on, note_on, note_sector, data_at}
use Rattle.lvm_kept.specs.Places.{SameRecords, DataWritesKeepRecords, RecordWritesKeepData, BlocksAreSectors}

-- as many disks, as large, have room for records where they had
pub room-same : (old new : Image) → SameDisks old new → (d : ℕ) → has_records new d ≡ has_records old d
room-same old new same d =
    let size : new.size d ≡ old.size d = same.size d in
    let count : new.disks ≡ old.disks = same.disks in
    λ t. nat_lt d (count t) && nat_le data_start (size t)

-- where both slots of a kind are the same, the newest record is
pub newest-same : {X : Type 0} (content_of : List ℕ → Result X ℕ) (kind : Kind) (old new : Sectors)
    → ((slot s : ℕ) → slot < 2 → slot_start kind slot ≤ s → s < slot_start kind slot + slot_size kind → new s ≡ old s) → newest_on content_of kind new ≡ newest_on content_of kind old
newest-same content_of kind old new same =
    let first : slot_of kind 0 new ≡ slot_of kind 0 old = joined-same new old (slot_start kind 0) (slot_size kind) (λ s from to. same 0 s (omega arith) from to) in
    let second : slot_of kind 1 new ≡ slot_of kind 1 old = joined-same new old (slot_start kind 1) (slot_size kind) (λ s from to. same 1 s (omega arith) from to) in
    λ t. newer (held content_of kind (first t)) (held content_of kind (second t))

pub at-same : {X : Type 0} (content_of : List ℕ → Result X ℕ) (kind : Kind) (old new : Image) (d : ℕ) → SameDisks old new
    → newest_on content_of kind (new.sector d) ≡ newest_on content_of kind (old.sector d) → newest_at content_of kind new d ≡ newest_at content_of kind old d
at-same content_of kind old new d same newest =
    let room : has_records new d ≡ has_records old d = room-same old new same d in
    λ t. if room t then newest t else None

slot-low : (kind : Kind) (slot k : ℕ) → slot < 2 → k < slot_start kind slot + slot_size kind → k < data_start
slot-low kind.Descriptor slot k two lt = omega arith
slot-low kind.Status slot k two lt = omega arith

pub note-same : (old new : Image) (d : ℕ) → SameDisks old new → new.sector d note_sector ≡ old.sector d note_sector → note_on new d ≡ note_on old d
unfolding note_on
note-same old new d same sector = let room : has_records new d ≡ has_records old d = room-same old new same d in λ t. if room t then note_in (sector t) else None

module _ (old new : Image) (same : SameRecords old new) where
  newest : {X : Type 0} (content_of : List ℕ → Result X ℕ) (kind : Kind) (d : ℕ) → newest_at content_of kind new d ≡ newest_at content_of kind old d
  newest content_of kind d = at-same content_of kind old new d same.same (newest-same content_of kind (old.sector d) (new.sector d) (λ slot s two from to. same.sectors d s (slot-low kind slot s two to)))

  pub descriptor-same : (d : ℕ) → descriptor_on new d ≡ descriptor_on old d
  unfolding descriptor_on
  descriptor-same d = newest descriptor_of kind.Descriptor d

  pub status-same : (d : ℕ) → status_on new d ≡ status_on old d
  unfolding status_on
  status-same d = newest status_of kind.Status d

-- the data is the same where its sectors are
pub data-same : (old new : Image) → ((d s : ℕ) → data_start ≤ s → new.sector d s ≡ old.sector d s) → (d s : ℕ) → data_at new d s ≡ data_at old d s
data-same old new same d s = by_test (nat_lt s data_start) refl
  where
    by_test : (t : Bool) → nat_lt s data_start ≡ t → (if t then [] else new.sector d s) ≡ (if t then [] else old.sector d s)
    by_test true is = refl
    by_test false is = same d s (let above : nat_lt s data_start ≡ false = is in grind (arith, nat_tests))

pub data_writes : DataWritesKeepRecords
data_writes old new same =
    let disks : new.disks ≡ old.disks = same.same.disks in
    let size : (d : ℕ) → new.size d ≡ old.size d = same.same.size in
    let descriptor : (d : ℕ) → descriptor_on new d ≡ descriptor_on old d = descriptor-same old new same in
    let status : (d : ℕ) → status_on new d ≡ status_on old d = status-same old new same in
    let note : (d : ℕ) → note_on new d ≡ note_on old d = λ d. note-same old new d same.same (same.sectors d note_sector (omega arith)) in
    λ t. record { disks = disks t; size = λ d. size d t; descriptor = λ d. descriptor d t; status = λ d. status d t; note = λ d. note d t; block = data_at new }

pub record_writes : RecordWritesKeepData
record_writes old new same = let is : (d s : ℕ) → data_at new d s ≡ data_at old d s = data-same old new same in λ t d s. is d s t

pub blocks_are_sectors : BlocksAreSectors
blocks_are_sectors image mib b p = ap (λ t. if t then [] else image.sector p.disk (sector_of mib p.pp b)) (high (sector_of mib p.pp b) (omega arith))
  where
    high : (s : ℕ) → data_start ≤ s → nat_lt s data_start ≡ false
    high s le = grind (arith, nat_tests)
