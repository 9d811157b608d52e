-- The texts of refusals.
use Rattle.std.specs.Prelude.{ℕ, ◌+◌, ◌-◌, ◌==◌, Bool, true, false, if◌then◌else◌, List, [], ◌∷◌, ◌++◌, slice_get, Option, Some, None, codes}
use Rattle.std.specs.Fmt.{decimal}
use Rattle.lvm_show.specs.declared.refusal.Carried.{Carried}
use Rattle.lvm_show.specs.declared.refusal.Carried.TheVariants as carried
use Rattle.lvm_show.specs.declared.refusal.Refusal.{Refusal}
use Rattle.lvm_show.specs.Texts.{disk_name}

-- what a refusal carries
pub data Kind : Type 0 where
  Nothing : Kind
  Number : Kind
  Votes : Kind
  Disk : Kind
  Lp : Kind

-- a kind of refusal: its name, and what it carries
pub record Row : Type 0 where
  pub name : List ℕ
  pub carries : Kind

abbrev pub row : List ℕ → Kind → Row
row name carries = record { name = name; carries = carries }

-- the refusals in the order of their numbers, of which the first is 1; no line is answered by 33 or 34 yet
abbrev pub rows : List Row
rows =
    row (codes "BadLine") Number ∷ row (codes "NoGroup") Nothing ∷ row (codes "GroupOn") Nothing ∷ row (codes "GroupExists") Nothing
    ∷ row (codes "NoDisk") Disk ∷ row (codes "TooSmall") Disk ∷ row (codes "NoQuorum") Votes ∷ row (codes "ClockBack") Number
    ∷ row (codes "DiskFailed") Disk ∷ row (codes "Ambiguous") Nothing ∷ row (codes "NoRecord") Nothing ∷ row (codes "NoVolume") Nothing
    ∷ row (codes "VolumeExists") Nothing ∷ row (codes "TooMany") Number ∷ row (codes "NoRoom") Number ∷ row (codes "CopyLimit") Number
    ∷ row (codes "LastFresh") Lp ∷ row (codes "OutOfRange") Number ∷ row (codes "Lost") Nothing ∷ row (codes "ReadFailed") Nothing
    ∷ row (codes "NoFresh") Lp ∷ row (codes "WentOff") Votes ∷ row (codes "Dark") Nothing ∷ row (codes "Stuck") Nothing
    ∷ row (codes "HistoryFull") Nothing ∷ row (codes "InGroup") Disk ∷ row (codes "NoPlan") Nothing ∷ row (codes "SyncFailed") Disk
    ∷ row (codes "Memory") Nothing ∷ row (codes "Busy") Nothing ∷ row (codes "Missing") Disk ∷ row (codes "TableFull") Number
    ∷ row (codes "DiskInUse") Disk ∷ row (codes "LastDisk") Nothing ∷ row (codes "Strict") Lp ∷ row (codes "StaleCopy") Lp ∷ []

abbrev pub is_of : Carried → Kind → Bool
is_of carried.Nothing Nothing = true
is_of (carried.Number n) Number = true
is_of (carried.Votes have total) Votes = true
is_of (carried.Disk disk) Disk = true
is_of (carried.Lp lp) Lp = true
is_of c kind = false

abbrev pub is_in_row : Carried → Option Row → Bool
is_in_row c None = false
is_in_row c (Some r) = is_of c r.carries

-- the row of a number
abbrev pub row_of : ℕ → Option Row
row_of number = if number == 0 then None else slice_get rows (number - 1)

-- its number is that of a row, and it carries what the row says
abbrev pub is_refusal : Refusal → Bool
is_refusal r = is_in_row r.carried (row_of r.number)

-- ---- texts

abbrev pub name_in : Option Row → List ℕ
name_in None = []
name_in (Some r) = r.name

abbrev pub name_of : ℕ → List ℕ
name_of number = name_in (row_of number)

-- a blank in front of each value; logical partitions are counted from 0 and printed from 1
abbrev pub carried_text : Carried → List ℕ
carried_text carried.Nothing = []
carried_text (carried.Number n) = codes " " ++ decimal n
carried_text (carried.Votes have total) = codes " " ++ decimal have ++ codes " " ++ decimal total
carried_text (carried.Disk disk) = codes " " ++ disk_name disk
carried_text (carried.Lp lp) = codes " " ++ decimal (lp + 1)

-- the number, the name and what is carried
abbrev pub refusal_text : Refusal → List ℕ
refusal_text r = codes "refused " ++ decimal r.number ++ codes " " ++ name_of r.number ++ carried_text r.carried ++ codes "\n"
