-- What a line has that makes a group over another one.
use Rattle.std.specs.Prelude.{◌≡◌, ◌++◌, ℕ, List, Option, Some, Ok, true, codes}
use Rattle.lvm_parse.specs.declared.command.Command.TheVariants as command
use Rattle.lvm_parse.specs.Grammar.{line_of}

-- these bytes stand nowhere in those, one after another
abbrev pub HasNowhere : List ℕ → List ℕ → Type 0
HasNowhere part bytes = (before after : List ℕ) → bytes ≡ before ++ (part ++ after) → ⊥

-- a line without the bytes `-f` is no `mkvg -f`
abbrev pub SpellsForce : List ℕ → Type 0
SpellsForce line = HasNowhere (codes "-f") line → (name : List ℕ) (mib : Option ℕ) (disks : List ℕ) → line_of line ≡ Ok (Some (command.Mkvg true name mib disks)) → ⊥
