-- What a write of a record may leave in its slot, whatever of it has landed.
use Rattle.std.specs.Prelude.{◌≡◌, ◌⊎◌, ℕ, zero, suc, [], ◌∷◌, ◌++◌, replicate, ◌+◌, ◌<◌, ◌≤◌, List, length, take, drop, Some, None, true}
use Rattle.std.specs.Int.{w32, w64, to_be_bytes, from_be_bytes}
use Rattle.lvm_num.specs.Buffer.{IsSector}
use Rattle.lvm_num.specs.declared.record.Stamp.{Stamp}
use Rattle.lvm_num.specs.declared.record.Kind.{Kind}
use Rattle.lvm_num.specs.declared.record.Kind.TheVariants.{Status}
use Rattle.lvm_num.specs.declared.record.Framed.{Framed}
use Rattle.lvm_num.specs.Record.{kind_magic, slot_size, record_sectors, frame, joined, Frames, record_in, stamp_lt}

-- The sectors of a disk, by their numbers.
abbrev pub Sectors : Type 0
Sectors = ℕ → List ℕ

-- the sector has the kind's magic and this stamp at their places
pub record CarriesStamp (kind : Kind) (stamp : Stamp) (sector : List ℕ) : Type 0 where
  pub magic : take 2 sector ≡ kind_magic kind
  pub seq : take 4 (drop 4 sector) ≡ to_be_bytes w32 stamp.seq
  pub epoch : take 8 (drop 8 sector) ≡ to_be_bytes w64 stamp.epoch

-- the slot that begins at a sector, as bytes
abbrev pub slot_at : Kind → ℕ → Sectors → List ℕ
slot_at kind first sectors = joined sectors first (slot_size kind)

-- the slot's sectors are 512 bytes each
abbrev pub AreSectors : Kind → ℕ → Sectors → Type 0
AreSectors kind first sectors = (k : ℕ) → k < slot_size kind → IsSector (sectors (first + k))

-- where a sector of the slot has the record's stamp already, it is the record's own sector
abbrev pub OwnSectorsStand : Kind → Framed → ℕ → Sectors → Type 0
OwnSectorsStand kind r first sectors = (k : ℕ) → k < record_sectors (length r.content) → CarriesStamp kind r.stamp (sectors (first + k)) → sectors (first + k) ≡ frame kind r.stamp r.content k

-- Each of the record's sectors is the old one or the record's, and the others of the slot are the old ones.
pub record IsTorn (kind : Kind) (r : Framed) (first : ℕ) (old new : Sectors) : Type 0 where
  pub within : (k : ℕ) → k < record_sectors (length r.content) → (new (first + k) ≡ old (first + k)) ⊎ (new (first + k) ≡ frame kind r.stamp r.content k)
  pub behind : (k : ℕ) → record_sectors (length r.content) ≤ k → k < slot_size kind → new (first + k) ≡ old (first + k)

-- all of the record's sectors are there
abbrev pub HasAllSectors : Kind → Framed → ℕ → Sectors → Type 0
HasAllSectors kind r first sectors = (k : ℕ) → k < record_sectors (length r.content) → sectors (first + k) ≡ frame kind r.stamp r.content k

-- A torn write leaves the slot's old record, none, or the new one; the new one only where all of it is there.
abbrev pub TornIsOldOrNoneOrNew : Type 0
TornIsOldOrNoneOrNew =
    (kind : Kind) (r : Framed) (first : ℕ) (old new : Sectors)
    → Frames kind r → AreSectors kind first old → OwnSectorsStand kind r first old → IsTorn kind r first old new
    → (record_in kind (slot_at kind first new) ≡ record_in kind (slot_at kind first old))
    ⊎ (record_in kind (slot_at kind first new) ≡ None)
    ⊎ ((record_in kind (slot_at kind first new) ≡ Some r) × HasAllSectors kind r first new)

-- Where all of it is there, it is read.
abbrev pub WholeIsRead : Type 0
WholeIsRead = (kind : Kind) (r : Framed) (first : ℕ) (new : Sectors) → Frames kind r → HasAllSectors kind r first new → record_in kind (slot_at kind first new) ≡ Some r

-- ---- when a stamp is new

-- the stamp that stands in a sector
abbrev pub stamp_of : List ℕ → Stamp
stamp_of sector = record { epoch = from_be_bytes w64 (take 8 (drop 8 sector)); seq = from_be_bytes w32 (take 4 (drop 4 sector)) }

-- each sector of the slot that has the kind's magic has a stamp before this one
abbrev pub AllBefore : Kind → Stamp → ℕ → Sectors → Type 0
AllBefore kind stamp first sectors = (k : ℕ) → k < slot_size kind → take 2 (sectors (first + k)) ≡ kind_magic kind → stamp_lt (stamp_of (sectors (first + k))) stamp ≡ true

-- then the stamp is new in the slot,
abbrev pub BeforeIsFresh : Type 0
BeforeIsFresh = (kind : Kind) (r : Framed) (first : ℕ) (sectors : Sectors) → Frames kind r → AllBefore kind r.stamp first sectors → OwnSectorsStand kind r first sectors

-- the slot's record is older,
abbrev pub BeforeIsOlder : Type 0
BeforeIsOlder =
    (kind : Kind) (stamp : Stamp) (first : ℕ) (sectors : Sectors) → AreSectors kind first sectors → AllBefore kind stamp first sectors
    → (s : Framed) → record_in kind (slot_at kind first sectors) ≡ Some s → stamp_lt s.stamp stamp ≡ true

-- and a torn write under an earlier stamp leaves it so.
abbrev pub BeforeIsKept : Type 0
BeforeIsKept =
    (kind : Kind) (r : Framed) (stamp : Stamp) (first : ℕ) (old new : Sectors) → Frames kind r → stamp_lt r.stamp stamp ≡ true
    → AllBefore kind stamp first old → IsTorn kind r first old new → AllBefore kind stamp first new

-- ---- why the stamp must be new

-- two contents that begin alike, under one stamp
abbrev pub two_records : ℕ → Framed
two_records last = record { stamp = record { epoch = 1; seq = 1 }; content = replicate 599 0 ++ last ∷ [] }

-- a slot with a stale second sector of the one record
abbrev pub stale_slot : Sectors
stale_slot zero = replicate 512 0
stale_slot (suc zero) = frame Status (two_records 1).stamp (two_records 1).content 1
stale_slot (suc (suc k)) = replicate 512 0

-- and the first sector of the other
abbrev pub torn_slot : Sectors
torn_slot zero = frame Status (two_records 0).stamp (two_records 0).content 0
torn_slot (suc k) = stale_slot (suc k)

-- A write of the other record, of which its first sector alone lands, then leaves the one record, which nobody wrote whole.
pub record FreshIsNeeded : Type 0 where
  pub torn : IsTorn Status (two_records 0) 0 stale_slot torn_slot
  pub was : record_in Status (slot_at Status 0 stale_slot) ≡ None
  pub read : record_in Status (slot_at Status 0 torn_slot) ≡ Some (two_records 1)
