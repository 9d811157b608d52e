-- The pieces that texts are made of, and the lines of turns and of copies.
use Rattle.std.specs.Prelude.{ℕ, ◌-◌, List, ◌++◌, length, replicate, codes}
use Rattle.std.specs.Fmt.{decimal}

-- the name of a disk
abbrev pub disk_name : ℕ → List ℕ
disk_name disk = codes "hdisk" ++ decimal disk

-- a line of a listing: what is counted, and how many there are
unfoldable pub counted : List ℕ → ℕ → List ℕ
counted label n = label ++ codes " " ++ decimal n ++ codes "\n"

-- a number in at least four digits, with zeros in front
abbrev pub four_digits : ℕ → List ℕ
four_digits n = replicate (4 - length (decimal n)) 48 ++ decimal n

-- how many turns did something
abbrev pub stepped_text : ℕ → List ℕ
stepped_text turns = codes "stepped " ++ decimal turns ++ codes "\n"

-- how many copies were made fresh
abbrev pub synced_text : ℕ → List ℕ
synced_text made = codes "synced " ++ decimal made ++ codes "\n"

-- how many copies have moved
abbrev pub migrated_text : ℕ → List ℕ
migrated_text moved = codes "migrated " ++ decimal moved ++ codes "\n"
