-- A range of a volume is asked for, all of its pieces or none.
use Rattle.std.specs.Prelude.{◌≡◌, ◌≤◌, ◌<◌, ℕ, ◌+◌, ◌*◌, Bool, true, ◌&&◌, nat_lt, nat_le, is_some, if◌then◌else◌, Option, Some, None, MatchOption, Result, Ok, Err, length}
use Rattle.std.specs.Option.{option_map_or}
use Rattle.lvm_num.specs.declared.descriptor.LvRow.{LvRow}
use Rattle.lvm_num.specs.Descriptor.{volume_of}
use Rattle.lvm_num.specs.Geometry.{volume_blocks}
use Rattle.lvm_disk.specs.Device.{Device}
use Rattle.lvm_vol.specs.Log.{asked as told, blocks_begun, next_id, spare_bytes, spare_entries}
use Rattle.lvm_posts.specs.passed.Raw.{piece_count}
use Rattle.lvm_session.specs.declared.open.Power.TheVariants as power
use Rattle.lvm_session.specs.Calls.{has_numbers}
use Rattle.lvm_session.specs.State.{Core, state_of}
use Rattle.lvm_driver.specs.passed.Going.{RunsOn}
use Rattle.lvm_posts.specs.declared.asked.Asked.{Asked}
use Rattle.lvm_posts.specs.Pieces.{IsLaidOut}
use Rattle.lvm_posts.specs.Posts.{AreHeld}
use Rattle.lvm_ranges.specs.declared.refusal.AskRangeFault.{AskRangeFault}
use Rattle.lvm_ranges.specs.declared.refusal.AskRangeFault.TheVariants as fault
use Rattle.lvm_ranges.specs.Keeping.{KeepsEarlier}
use Rattle.lvm_ranges.specs.Pieces.{Submits}
use Rattle.lvm_ranges.specs.Reading.{IsRead}

-- the history has room for the entries of each piece and for the blocks, and numbers are left for the stamps of records
abbrev pub has_room : Core → ℕ → ℕ → Bool
has_room core at count = nat_le (3 * piece_count at count) (spare_entries core.history) && nat_le (512 * count) (spare_bytes core.history) && has_numbers core

-- why a range of a volume of so many blocks isn't asked for
abbrev pub fault_in : Core → ℕ → ℕ → ℕ → Option AskRangeFault
fault_in core at count blocks =
    if nat_lt blocks (at + count) then Some (fault.OutOfRange blocks)
    else if nat_lt core.most (length core.requests + piece_count at count) then Some (fault.TableFull (length core.requests))
    else if has_room core at count then None else Some fault.HistoryFull

-- why a range isn't asked for, if it isn't
abbrev pub range_fault : Core → ℕ → ℕ → ℕ → Option AskRangeFault
range_fault core lv at count = option_map_or (λ (row : LvRow). fault_in core at count (volume_blocks core.descriptor.mib row.lps)) (volume_of core.descriptor lv) (Some fault.NoVolume)

-- all pieces are submitted under consecutive numbers, and their blocks stand in the history from this place on
pub record Asks (write : Option ℕ) (lv at count : ℕ) (old new : Core) (asked : Asked) : Type 0 where
  pub first : asked.first ≡ next_id old.history
  pub pieces : asked.pieces ≡ piece_count at count
  pub at_is : asked.at ≡ at
  pub mib_is : asked.mib ≡ old.descriptor.mib
  pub place : asked.place ≡ blocks_begun old.history.facts
  pub submits : Submits write lv at (at + count) old (at + count) asked.pieces new

-- What else is so of a range that was asked for: the table has it, behind all that was asked for before, and its pieces are reads unless they are writes.
pub record IsAskedFor (write : Option ℕ) (count : ℕ) (old new : Core) (asked : Asked) : Type 0 where
  pub held : AreHeld new asked
  pub laid : IsLaidOut asked
  pub some : 1 ≤ asked.pieces
  pub more : length new.requests ≡ length old.requests + asked.pieces
  pub behind : (id : ℕ) → is_some (told old.history.facts id) ≡ true → id < asked.first
  pub read : write ≡ None → IsRead new.history.facts asked count

-- the session stays on and keeps what was asked for before, and the shelf is as it was
pub record StaysServing {S : Type 0} (device : S → Device) (old new : S × Core) : Type 0 where
  pub shelf : new.0 ≡ old.0
  pub on : new.1.power ≡ power.On
  pub others : KeepsEarlier old.1 new.1
  pub runs : RunsOn (state_of device old) (state_of device new)

-- A range is asked for whole, or isn't, and then nothing changes.
abbrev pub AskRangeGives : Option ℕ → ℕ → ℕ → ℕ → Core → Core → Result Asked AskRangeFault → Type 0
AskRangeGives write lv at count old new answer =
    MatchOption (range_fault old lv at count) ((asked : Asked) × (answer ≡ Ok asked) × Asks write lv at count old new asked) (λ (why : AskRangeFault). (answer ≡ Err why) × (new ≡ old))
