-- Calls of a cache one after the other, and what may stand on a disk after them.
use Rattle.std.specs.Prelude.{◌≡◌, ◌+◌, ◌<◌, ◌^◌, ◌==◌, ◌&&◌, ℕ, Bool, not, List, [], ◌∷◌, ◌++◌, Option, Some, None, IsNone, IsSome, IsTrue, option_map, option_to_list, if◌then◌else◌}
use Rattle.std.specs.List.{list_all}
use Rattle.std.specs.Option.{option_map_or}
use Rattle.lvm_num.specs.declared.record.NoteEntry.{NoteEntry}
use Rattle.lvm_num.specs.Note.{IsEntry}
use Rattle.arrayvec.specs.ArrayVec.{ArrayVec}
use Rattle.lvm_mwc.specs.declared.notes.DiskNotes.{DiskNotes}
use Rattle.lvm_mwc.specs.Entries.{pins_of, are_all_pinned, note_of}
use Rattle.lvm_mwc.specs.Notes.{names_group}
use Rattle.lvm_mwc.specs.Cache.{Cached, notes_on, has_disk, flight_on, is_named, after_pin, after_unpin, after_start, after_end}

-- a call of a cache
pub data Call : Type 0 where
  Pins : (lv group : ℕ) → Call
  Unpins : (lv group : ℕ) → Call
  StartsNote : (disk : ℕ) → Call
  NoteEnds : (disk : ℕ) (ok : Bool) → Call

-- its conditions
abbrev pub IsAllowed : Cached → Call → Type 0
IsAllowed c (Pins lv group) = IsEntry (record { lv = lv; group = group }) × (pins_of c.entries lv group + 1 < 2 ^ 32)
IsAllowed c (Unpins lv group) = 0 < pins_of c.entries lv group
IsAllowed c (StartsNote disk) = IsTrue (has_disk c disk) × IsNone (flight_on c disk)
IsAllowed c (NoteEnds disk ok) = IsSome (flight_on c disk)

-- the cache after it
abbrev pub after : Cached → Call → Cached
after c (Pins lv group) = after_pin c lv group
after c (Unpins lv group) = after_unpin c lv group
after c (StartsNote disk) = after_start c disk
after c (NoteEnds disk ok) = after_end c disk ok

-- after a list of calls
abbrev pub after_all : Cached → List Call → Cached
after_all c [] = c
after_all c (call ∷ calls) = after_all (after c call) calls

-- each is made under its conditions
abbrev pub AreAllowed : Cached → List Call → Type 0
AreAllowed c [] = Unit {0}
AreAllowed c (call ∷ calls) = IsAllowed c call × AreAllowed (after c call) calls

-- ---- pins

-- the pins that a call gives a track group
abbrev pub pins_in : Cached → Call → ℕ → ℕ → ℕ
pins_in c (Pins l g) lv group = if l == lv && g == group && not (are_all_pinned c.entries l g) then 1 else 0
pins_in c (Unpins l g) lv group = 0
pins_in c (StartsNote disk) lv group = 0
pins_in c (NoteEnds disk ok) lv group = 0

-- the pins that it takes from it
abbrev pub unpins_in : Call → ℕ → ℕ → ℕ
unpins_in (Pins l g) lv group = 0
unpins_in (Unpins l g) lv group = if l == lv && g == group then 1 else 0
unpins_in (StartsNote disk) lv group = 0
unpins_in (NoteEnds disk ok) lv group = 0

-- those that calls give it
abbrev pub pins_given : Cached → List Call → ℕ → ℕ → ℕ
pins_given c [] lv group = 0
pins_given c (call ∷ calls) lv group = pins_in c call lv group + pins_given (after c call) calls lv group

-- those that they take from it
abbrev pub pins_taken : List Call → ℕ → ℕ → ℕ
pins_taken [] lv group = 0
pins_taken (call ∷ calls) lv group = unpins_in call lv group + pins_taken calls lv group

-- the track group has a pin before each of the calls
abbrev pub IsPinnedBefore : Cached → List Call → ℕ → ℕ → Type 0
IsPinnedBefore c [] lv group = Unit {0}
IsPinnedBefore c (call ∷ calls) lv group = (0 < pins_of c.entries lv group) × IsPinnedBefore (after c call) calls lv group

-- ---- what may stand on a disk

-- The note that ended well last, those that failed since, in their order, and the one in flight. A sector is
-- written whole or not at all, and which of the two a fault leaves isn't known.
pub record Sectors : Type 0 where
  pub last : List NoteEntry
  pub failed : List (List NoteEntry)
  pub flight : Option (List NoteEntry)

-- each sector that may stand there now
abbrev pub possible : Sectors → List (List NoteEntry)
possible s = (s.last ∷ s.failed) ++ option_to_list s.flight

-- those of a disk whose note names nothing
abbrev pub no_sectors : Sectors
no_sectors = record { last = []; failed = []; flight = None }

-- the one in flight ends
abbrev pub sectors_ended : Bool → Sectors → Sectors
sectors_ended ok s = option_map_or (λ (f : List NoteEntry). if ok then record { last = f; failed = []; flight = None } else record { last = s.last; failed = s.failed ++ f ∷ []; flight = None }) s.flight s

-- what a call makes of the sectors of a disk
abbrev pub sectors_in : Cached → ℕ → Sectors → Call → Sectors
sectors_in c disk s (Pins l g) = s
sectors_in c disk s (Unpins l g) = s
sectors_in c disk s (StartsNote d) = if d == disk then record s { flight = Some (note_of c.entries) } else s
sectors_in c disk s (NoteEnds d ok) = if d == disk then sectors_ended ok s else s

-- what a list of calls makes of them
abbrev pub sectors_after : Cached → ℕ → Sectors → List Call → Sectors
sectors_after c disk s [] = s
sectors_after c disk s (call ∷ calls) = sectors_after (after c call) disk (sectors_in c disk s call) calls

-- What a cache says of a disk is what these sectors say: a track group is named there where each sector that may
-- stand there has it, and what is known to be written is the last note where none failed since.
pub record Knows (c : Cached) (disk : ℕ) (s : Sectors) : Type 0 where
  pub named : (lv group : ℕ) → is_named c disk lv group ≡ list_all (λ (sector : List NoteEntry). names_group sector lv group) (possible s)
  pub written : s.failed ≡ [] → option_map (λ (n : DiskNotes). n.written.items) (notes_on c disk) ≡ Some s.last
  pub flight : option_map (λ (note : ArrayVec NoteEntry). note.items) (flight_on c disk) ≡ s.flight
