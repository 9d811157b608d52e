-- Lines that don't ask the clock.
use Rattle.std.proofs.Common.{◌≡◌, ℕ, List, Option, Some, Result, Ok, refl, arith}
use Rattle.lvm_disk.specs.Device.{Device}
use Rattle.lvm_io.specs.Count.{Rose}
use Rattle.lvm_vol.specs.Log.{Log}
use Rattle.lvm_parse.specs.declared.command.Command.{Command}
use Rattle.lvm_parse.specs.declared.command.Command.TheVariants as command
use Rattle.lvm_parse.specs.declared.rest.Misfit.{Misfit}
use Rattle.lvm_parse.specs.Grammar.{line_of}
use Rattle.lvm_core.specs.declared.parts.Room.{Room}
use Rattle.lvm_volume_lines.specs.passed.GroupLines.{Makes, NoMemoryForLine, NoMkvgWhileOn, NoVaryonWhileOn, Reply, ScriptState, Stage, Varies, history_in, state_in, without_facts}
use Rattle.lvm_line.specs.Lines.{IsFinished, LineDoes, asked_after}

module _ (log : Log) (room : Room) (old new : ScriptState) (answer : Reply) (first : old.last ≡ 0) (still : new.last ≡ 0) where
  -- the clock's last moment has stayed
  unasked : Rose old.last new.last → ⊥
  unasked rose = let risen = rose.risen in omega (arith, first, still, risen)

  read_unasked : (read : Result (Option Command) Misfit) → LineDoes log room read old new answer → (n : ℕ) → asked_after read n ≡ n
  read_unasked (Ok (Some (command.Mkvg force name mib disks))) (NoMemoryForLine off says asked) n = absurd (unasked asked.asks)
  read_unasked (Ok (Some (command.Mkvg force name mib disks))) (NoMkvgWhileOn some says asked) n = absurd (unasked asked.asks)
  read_unasked (Ok (Some (command.Mkvg force name mib disks))) (Makes brings) n = absurd (unasked brings.asks)
  read_unasked (Ok (Some (command.Varyon name))) (NoVaryonWhileOn some says asked) n = absurd (unasked asked.asks)
  read_unasked (Ok (Some (command.Varyon name))) (Varies brings) n = absurd (unasked brings.asks)
  read_unasked read does n = refl

-- A line that is done so at a moment that doesn't rise asks for none.
pub line_unasked : {S : Type 0} (device : S → Device) (room : Room) (line : List ℕ) (old new : Stage S) (answer : Reply) → IsFinished device room line old new answer 0 0 → (n : ℕ) → asked_after (line_of line) n ≡ n
line_unasked device room line old new answer it n = read_unasked (without_facts (history_in old)) room (state_in device old 0) (state_in device new 0) answer refl refl (line_of line) it.is_line.does n
