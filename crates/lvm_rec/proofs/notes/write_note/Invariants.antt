use Rattle.std.proofs.Common.{◌≡◌, ◌-◌, ◌*◌, ◌++◌, take, replicate}
use Rattle.std.specs.Prelude.{flat_map}
use Rattle.std.specs.Int.{w64, to_be_bytes}
use Rattle.lvm_num.specs.Note.{entry_bytes}
use Rattle.lvm_rec.proofs.notes.write_note.Given as goal

abbrev pub invariant-loop-k : goal.invariant-loop-k
invariant-loop-k l = l.sector ≡ to_be_bytes w64 l.stamp ++ flat_map entry_bytes (take l.k l.entries) ++ replicate (504 - 8 * l.k) 0
