-- Where the blocks of a volume and the partitions of a disk lie. A block and a sector are 512 bytes.
use Rattle.std.specs.Prelude.{ℕ, ◌+◌, ◌-◌, ◌*◌, ◌/◌, ◌%◌, min}

-- the data of a disk begins here; below stand the records
abbrev pub data_start : ℕ
data_start = 4096

-- the blocks of a track group
abbrev pub track_group_blocks : ℕ
track_group_blocks = 256

-- the blocks of a partition of so many MiB
abbrev pub partition_blocks : ℕ → ℕ
partition_blocks mib = 2048 * mib

-- the blocks of a volume of so many logical partitions, and its track groups
abbrev pub volume_blocks : ℕ → ℕ → ℕ
volume_blocks mib lps = partition_blocks mib * lps

abbrev pub volume_track_groups : ℕ → ℕ → ℕ
volume_track_groups mib lps = volume_blocks mib lps / track_group_blocks

-- the logical partition and the track group of a block of a volume, both from 0
abbrev pub partition_of : ℕ → ℕ → ℕ
partition_of mib block = block / partition_blocks mib

abbrev pub track_group_of : ℕ → ℕ
track_group_of block = block / track_group_blocks

-- how many partitions a disk of so many sectors has
abbrev pub partition_count : ℕ → ℕ → ℕ
partition_count sectors mib = min 1016 ((sectors - data_start) / partition_blocks mib)

-- the sector at which a block of a volume stands on the copy at this partition of a disk
abbrev pub sector_of : ℕ → ℕ → ℕ → ℕ
sector_of mib pp block = data_start + partition_blocks mib * pp + block % partition_blocks mib

-- the sectors that a disk with so many partitions needs
abbrev pub sectors_needed : ℕ → ℕ → ℕ
sectors_needed mib pps = data_start + partition_blocks mib * pps
