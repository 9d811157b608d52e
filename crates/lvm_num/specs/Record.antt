-- Framed records: a content under one stamp, in sectors that each carry a magic, their index and the stamp.
use Rattle.std.specs.Prelude.{◌≡◌, ◌≢◌, ℕ, false, slice_index, zero, suc, ◌+◌, ◌-◌, ◌*◌, ◌/◌, ◌^◌, ◌<◌, ◌≤◌, Bool, ◌&&◌, ◌||◌, not, nat_le, nat_lt, ◌==◌, if◌then◌else◌, List, [], ◌∷◌, ◌++◌, length, take, drop, replicate, Option, Some, None, bytes_eq}
use Rattle.std.specs.Int.{w16, w32, w64, to_be_bytes, from_be_bytes}
use Rattle.std.specs.Bool.{then_some}
use Rattle.lvm_num.specs.declared.record.Stamp.{Stamp}
use Rattle.lvm_num.specs.declared.record.Framed.{Framed}
use Rattle.lvm_num.specs.declared.record.Kind.{Kind}
use Rattle.lvm_num.specs.declared.record.Kind.TheVariants.{Descriptor, Status}

abbrev pub kind_magic : Kind → List ℕ
kind_magic Descriptor = 0x56 ∷ 0x44 ∷ []
kind_magic Status = 0x56 ∷ 0x53 ∷ []

-- the sectors of a slot, and the sector of a disk at which slot 0 or 1 begins
abbrev pub slot_size : Kind → ℕ
slot_size Descriptor = 1152
slot_size Status = 64

abbrev pub slot_start : Kind → ℕ → ℕ
slot_start Descriptor slot = 512 + 1152 * slot
slot_start Status slot = 64 + 64 * slot

-- the sectors of a record whose content has so many bytes
abbrev pub record_sectors : ℕ → ℕ
record_sectors len = (len + 4 + 495) / 496

-- the longest content of a kind
abbrev pub longest_content : Kind → ℕ
longest_content kind = 496 * slot_size kind - 4

-- the length, the content, and zeros up to whole sectors
abbrev pub payload : List ℕ → List ℕ
payload content = to_be_bytes w32 (length content) ++ content ++ replicate (496 * record_sectors (length content) - 4 - length content) 0

-- sector k of a record
abbrev pub frame : Kind → Stamp → List ℕ → ℕ → List ℕ
frame kind stamp content k =
    kind_magic kind ++ to_be_bytes w16 k ++ to_be_bytes w32 stamp.seq ++ to_be_bytes w64 stamp.epoch ++ take 496 (drop (496 * k) (payload content))

-- f at each number from i on, n of them, one list after another
unfoldable pub joined : (ℕ → List ℕ) → ℕ → ℕ → List ℕ
joined f i zero = []
joined f i (suc n) = f i ++ joined f (suc i) n

-- the sectors of a record
abbrev pub record_bytes : Kind → Framed → List ℕ
record_bytes kind r = joined (frame kind r.stamp r.content) 0 (record_sectors (length r.content))

-- a stamp and a content that a record of the kind may have
pub record Frames (kind : Kind) (r : Framed) : Type 0 where
  pub some_epoch : r.stamp.epoch ≢ 0
  pub epoch : r.stamp.epoch < 2 ^ 64
  pub some_seq : r.stamp.seq ≢ 0
  pub seq : r.stamp.seq < 2 ^ 32
  pub content : length r.content ≤ longest_content kind

-- A slot holds this record: it begins with the record's sectors. What stands behind them isn't looked at.
pub record IsRecord (kind : Kind) (slot : List ℕ) (r : Framed) : Type 0 where
  pub frames : Frames kind r
  pub front : take (512 * record_sectors (length r.content)) slot ≡ record_bytes kind r

-- ---- the record of a slot

-- the payload of the first n sectors, without their heads
abbrev pub payload_of : List ℕ → ℕ → List ℕ
payload_of slot n = joined (λ k. take 496 (drop (512 * k + 16) slot)) 0 n

-- the record that the first sector announces
abbrev pub announced : List ℕ → Framed
announced slot =
    let len = from_be_bytes w32 (take 4 (drop 16 slot)) in record {
      stamp = record { epoch = from_be_bytes w64 (take 8 (drop 8 slot)); seq = from_be_bytes w32 (take 4 (drop 4 slot)) };
      content = take len (drop 4 (payload_of slot (record_sectors len)));
    }

abbrev pub may_be : Kind → List ℕ → Framed → Bool
may_be kind slot r =
    not (r.stamp.epoch == 0) && not (r.stamp.seq == 0) && nat_le (length r.content) (longest_content kind)
    && bytes_eq (take (512 * record_sectors (length r.content)) slot) (record_bytes kind r)

-- the record that the slot holds, if it holds one: what its first sector announces, if the slot begins with that record's sectors
unfoldable pub record_in : Kind → List ℕ → Option Framed
record_in kind slot = then_some (may_be kind slot (announced slot)) (announced slot)

-- ---- the newer of two records

abbrev pub stamp_lt : Stamp → Stamp → Bool
stamp_lt a b = nat_lt a.epoch b.epoch || (a.epoch == b.epoch && nat_lt a.seq b.seq)

-- a value under the stamp of its record
pub record Stamped (X : Type 0) : Type 0 where
  pub stamp : Stamp
  pub value : X

-- the newer one; of two with one stamp the first
abbrev pub newer : {X : Type 0} → Option (Stamped X) → Option (Stamped X) → Option (Stamped X)
newer None b = b
newer (Some a) None = Some a
newer (Some a) (Some b) = if stamp_lt a.stamp b.stamp then Some b else Some a

-- the newest of those at the numbers below n; of several with one stamp that at the lowest number
unfoldable pub newest_below : {X : Type 0} → (ℕ → Option (Stamped X)) → ℕ → Option (Stamped X)
newest_below at zero = None
newest_below at (suc n) = newer (newest_below at n) (at n)

-- the newest is one of them
abbrev pub NewestIsOne : Type 0 → Type 0
NewestIsOne X = (at : ℕ → Option (Stamped X)) (n : ℕ) (r : Stamped X) → newest_below at n ≡ Some r → (d : ℕ) × (d < n) × (at d ≡ Some r)

-- and none is newer
abbrev pub NewestIsLast : Type 0 → Type 0
NewestIsLast X = (at : ℕ → Option (Stamped X)) (n d : ℕ) (r : Stamped X) → d < n → at d ≡ Some r → (newest : Stamped X) × (newest_below at n ≡ Some newest) × (stamp_lt newest.stamp r.stamp ≡ false)

-- ---- laws

-- A record that a slot holds is read.
abbrev pub HeldIsRead : Type 0
HeldIsRead = (kind : Kind) (slot : List ℕ) (r : Framed) → IsRecord kind slot r → record_in kind slot ≡ Some r

-- A record that is read is one that the slot holds, if the slot is bytes.
abbrev pub ReadIsHeld : Type 0
ReadIsHeld = (kind : Kind) (slot : List ℕ) (r : Framed) → ((i : ℕ) → slice_index slot i < 256) → record_in kind slot ≡ Some r → IsRecord kind slot r

-- the last moment that a clock may answer
abbrev pub last_moment : ℕ
last_moment = 2 ^ 64 - 1
