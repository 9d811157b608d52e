-- The bounds of the language: of the fields of commands, and of the columns of refusals.
use Rattle.std.specs.Prelude.{◌≡◌, ◌≢◌, ℕ, ◌+◌, ◌≤◌, List, length, AllPairs, IsTrue, Some, Ok}
use Rattle.std.specs.Option.{ForSome}
use Rattle.lvm_num.specs.Descriptor.{is_size}
use Rattle.lvm_num.specs.Name.{is_name}
use Rattle.lvm_parse.specs.Reading.{misfit}
use Rattle.lvm_parse.specs.declared.command.Command.{Command}
use Rattle.lvm_parse.specs.declared.command.Command.TheVariants as command
use Rattle.lvm_parse.specs.Grammar.{line_of}

-- the numbers and the disks of a command
abbrev pub IsWithinLimits : Command → Type 0
IsWithinLimits (command.Mkvg force name mib disks) = (1 ≤ length disks) × AllPairs (λ a b. a ≢ b) disks × ForSome mib (λ given. IsTrue (is_size given)) × IsTrue (is_name name)
IsWithinLimits (command.Reducevg name disks) = (1 ≤ length disks) × AllPairs (λ a b. a ≢ b) disks
IsWithinLimits (command.Mklv name copies mode policy group lps) = 1 ≤ lps
IsWithinLimits (command.RawRd disk at count) = (1 ≤ count) × (count ≤ 4096)
IsWithinLimits (command.RawWr disk at count word) = (1 ≤ count) × (count ≤ 4096)
IsWithinLimits (command.Rd name at count) = (1 ≤ count) × (count ≤ 4096)
IsWithinLimits (command.Wr name at count word) = (1 ≤ count) × (count ≤ 4096)
IsWithinLimits (command.Post name at count word) = (1 ≤ count) × (count ≤ 4096)
IsWithinLimits (command.Step turns) = (1 ≤ turns) × (turns ≤ 1000000)
IsWithinLimits (command.Mklvcopy name copies) = copies ≤ 9
IsWithinLimits (command.Rmlvcopy name copies) = copies ≤ 9
IsWithinLimits (command.Splitlvcopy new name copies) = copies ≤ 9
IsWithinLimits (command.Migratepv volume from to) = from ≢ to
IsWithinLimits other = Unit {0}

-- at one of its columns, counted from 1, or behind its last byte
abbrev pub IsRefusedWithin : List ℕ → Type 0
IsRefusedWithin line = (column : ℕ) → line_of line ≡ misfit column → (1 ≤ column) × (column ≤ length line + 1)

-- a command that the line spells
abbrev pub SpellsWithin : List ℕ → Type 0
SpellsWithin line = (c : Command) → line_of line ≡ Ok (Some c) → IsWithinLimits c
