-- The two slots of a kind on a disk, and what a write of a record to one of them may leave.
use Rattle.std.specs.Prelude.{◌≡◌, ◌⊎◌, ℕ, ◌+◌, ◌<◌, ◌≤◌, true, if◌then◌else◌, List, ◌++◌, length, Option, Some, None, Result, Ok, Err, option_and_then}
use Rattle.lvm_num.specs.declared.record.Stamp.{Stamp}
use Rattle.lvm_num.specs.declared.record.Kind.{Kind}
use Rattle.lvm_num.specs.declared.record.Framed.{Framed}
use Rattle.lvm_num.specs.Record.{Frames, IsRecord, Stamped, frame, record_bytes, record_in, record_sectors, slot_start, stamp_lt, newer}
use Rattle.lvm_num.specs.Note.{Noted, IsNote, note_bytes, note_in}
use Rattle.lvm_num.specs.Torn.{Sectors, slot_at, AreSectors, OwnSectorsStand, HasAllSectors, AllBefore}

-- A slot holds at most one record,
abbrev pub SlotHoldsOne : Type 0
SlotHoldsOne = (kind : Kind) (slot : List ℕ) (r s : Framed) → IsRecord kind slot r → IsRecord kind slot s → r ≡ s

-- and the sectors of a record are read as it, whatever follows them.
abbrev pub FramesAreRead : Type 0
FramesAreRead = (kind : Kind) (r : Framed) (rest : List ℕ) → Frames kind r → record_in kind (record_bytes kind r ++ rest) ≡ Some r

-- ---- the newest record of a disk

-- a content that reads well, under its stamp
abbrev pub read_under : {X : Type 0} → Stamp → Result X ℕ → Option (Stamped X)
read_under stamp (Ok x) = Some (record { stamp = stamp; value = x })
read_under stamp (Err place) = None

-- what a slot holds, by a reading of contents: a record whose content doesn't read counts as none
abbrev pub held : {X : Type 0} → (List ℕ → Result X ℕ) → Kind → List ℕ → Option (Stamped X)
held content_of kind slot = option_and_then (λ r. read_under r.stamp (content_of r.content)) (record_in kind slot)

-- the bytes of slot 0 or 1 of a kind
abbrev pub slot_of : Kind → ℕ → Sectors → List ℕ
slot_of kind slot sectors = slot_at kind (slot_start kind slot) sectors

-- the newest record of a kind on a disk, that of slot 0 where both have one stamp
abbrev pub newest_on : {X : Type 0} → (List ℕ → Result X ℕ) → Kind → Sectors → Option (Stamped X)
newest_on content_of kind sectors = newer (held content_of kind (slot_of kind 0 sectors)) (held content_of kind (slot_of kind 1 sectors))

-- the slot that doesn't hold the newest of two records, and slot 0 where neither does
abbrev pub slot_to_write : {X : Type 0} → Option (Stamped X) → Option (Stamped X) → ℕ
slot_to_write None b = 0
slot_to_write (Some a) None = 1
slot_to_write (Some a) (Some b) = if stamp_lt a.stamp b.stamp then 0 else 1

abbrev pub slot_for : {X : Type 0} → (List ℕ → Result X ℕ) → Kind → Sectors → ℕ
slot_for content_of kind sectors = slot_to_write (held content_of kind (slot_of kind 0 sectors)) (held content_of kind (slot_of kind 1 sectors))

-- ---- a write of a record

-- one record, and the slot of the disk that it goes to
pub record SlotWrite : Type 0 where
  pub kind : Kind
  pub framed : Framed
  pub slot : ℕ

-- this is the value of one of the record's sectors, at that sector's place in the slot
pub record IsOfSlot (w : SlotWrite) (s : ℕ) (value : List ℕ) : Type 0 where
  pub part : ℕ
  pub inside : part < record_sectors (length w.framed.content)
  pub place : s ≡ slot_start w.kind w.slot + part
  pub is : value ≡ frame w.kind w.framed.stamp w.framed.content part

-- Each sector of the disk is the old one, or the record's.
abbrev pub IsTornWrite : SlotWrite → Sectors → Sectors → Type 0
IsTornWrite w old new = (s : ℕ) → (new s ≡ old s) ⊎ IsOfSlot w s (new s)

-- all of the record stands on the disk
abbrev pub StandsIn : SlotWrite → Sectors → Type 0
StandsIn w sectors = HasAllSectors w.kind w.framed (slot_start w.kind w.slot) sectors

-- Where a write of a record may go: the content reads as x, the slot is that which doesn't hold the newest record,
-- the stamp is new in that slot, and later than the newest record's.
pub record MayWrite (X : Type 0) (content_of : List ℕ → Result X ℕ) (w : SlotWrite) (x : X) (sectors : Sectors) : Type 0 where
  pub frames : Frames w.kind w.framed
  pub reads : content_of w.framed.content ≡ Ok x
  pub slot : w.slot ≡ slot_for content_of w.kind sectors
  pub whole : AreSectors w.kind (slot_start w.kind w.slot) sectors
  pub fresh : OwnSectorsStand w.kind w.framed (slot_start w.kind w.slot) sectors
  pub later : (y : Stamped X) → newest_on content_of w.kind sectors ≡ Some y → stamp_lt y.stamp w.framed.stamp ≡ true

-- the record as it is read
abbrev pub written_as : {X : Type 0} → SlotWrite → X → Stamped X
written_as w x = record { stamp = w.framed.stamp; value = x }

-- After any part of the write the newest record is what it was, or the new one, and the new one only where all of it stands there.
abbrev pub NewestStaysOrIsNew : Type 0 → Type 0
NewestStaysOrIsNew X =
    (content_of : List ℕ → Result X ℕ) (w : SlotWrite) (x : X) (old new : Sectors) → MayWrite X content_of w x old → IsTornWrite w old new
    → (newest_on content_of w.kind new ≡ newest_on content_of w.kind old)
    ⊎ ((newest_on content_of w.kind new ≡ Some (written_as w x)) × StandsIn w new)

-- Where all of it stands there, it is the new one.
abbrev pub WholeIsNewest : Type 0 → Type 0
WholeIsNewest X =
    (content_of : List ℕ → Result X ℕ) (w : SlotWrite) (x : X) (old new : Sectors) → MayWrite X content_of w x old → IsTornWrite w old new → StandsIn w new
    → newest_on content_of w.kind new ≡ Some (written_as w x)

-- The records of the other kind, the note and the data are what they were.
pub record OthersKept (X : Type 0) (w : SlotWrite) (old new : Sectors) : Type 0 where
  pub kinds : (content_of : List ℕ → Result X ℕ) (kind : Kind) → (kind ≡ w.kind → ⊥) → newest_on content_of kind new ≡ newest_on content_of kind old
  pub note : new 8 ≡ old 8
  pub blocks : (s : ℕ) → 4096 ≤ s → new s ≡ old s

abbrev pub TornKeepsOthers : Type 0 → Type 0
TornKeepsOthers X = (w : SlotWrite) (old new : Sectors) → Frames w.kind w.framed → w.slot < 2 → IsTornWrite w old new → OthersKept X w old new

-- ---- when a record may be written

-- all sectors of both slots of the kind have stamps before the record's
pub record BothBefore (w : SlotWrite) (sectors : Sectors) : Type 0 where
  pub whole : (slot : ℕ) → slot < 2 → AreSectors w.kind (slot_start w.kind slot) sectors
  pub before : (slot : ℕ) → slot < 2 → AllBefore w.kind w.framed.stamp (slot_start w.kind slot) sectors

abbrev pub BeforeMayWrite : Type 0 → Type 0
BeforeMayWrite X =
    (content_of : List ℕ → Result X ℕ) (w : SlotWrite) (x : X) (sectors : Sectors)
    → Frames w.kind w.framed → content_of w.framed.content ≡ Ok x → w.slot ≡ slot_for content_of w.kind sectors → BothBefore w sectors
    → MayWrite X content_of w x sectors

-- a write under an earlier stamp leaves all of them before this one
abbrev pub TornKeepsBefore : Type 0
TornKeepsBefore =
    (w : SlotWrite) (stamp : Stamp) (old new : Sectors) → Frames w.kind w.framed → IsTornWrite w old new → stamp_lt w.framed.stamp stamp ≡ true
    → (kind : Kind) (slot : ℕ) → AllBefore kind stamp (slot_start kind slot) old → AllBefore kind stamp (slot_start kind slot) new

-- ---- the note

-- A disk's note after a write of one is the old one or the new one.
abbrev pub NoteStaysOrIsNew : Type 0
NoteStaysOrIsNew = (note : Noted) (old new : List ℕ) → IsNote note → (new ≡ old) ⊎ (new ≡ note_bytes note) → (note_in new ≡ note_in old) ⊎ (note_in new ≡ Some note)
