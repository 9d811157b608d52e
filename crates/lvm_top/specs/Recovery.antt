-- What each `varyonvg` of a script brings back.
use Rattle.std.specs.Prelude.{◌≡◌, ℕ, List, Option, Some, Result, Ok}
use Rattle.lvm_disk.specs.Device.{Device}
use Rattle.lvm_vol.specs.Log.{Log}
use Rattle.lvm_parse.specs.declared.command.Command.{Command}
use Rattle.lvm_parse.specs.declared.command.Command.TheVariants as command
use Rattle.lvm_parse.specs.declared.rest.Misfit.{Misfit}
use Rattle.lvm_parse.specs.Grammar.{line_of}
use Rattle.lvm_core.specs.declared.parts.Room.{Room}
use Rattle.lvm_session.specs.State.{Core}
use Rattle.lvm_line.specs.passed.Varyon.{IsRecovered}
use Rattle.lvm_line.specs.passed.Quiesce.{Quiesces}
use Rattle.lvm_line.specs.passed.GroupLines.{Reply, ScriptState}
use Rattle.lvm_line.specs.passed.RefusalVariants as refusal
use Rattle.lvm_line.specs.passed.ReplyVariants as reply
use Rattle.lvm_top.specs.Script.{AtLine, Ends, InLine, NextLine, NoLine, Script}

-- a group is on, brought back from the shelf on which what was out has ended
pub record ComesBack (old new : ScriptState) : Type 0 where
  pub core : Core
  pub on : new.session ≡ Some core
  pub quiet : Device
  pub quiesces : Quiesces old.moment.device quiet
  pub back : IsRecovered quiet new.moment.device core.descriptor

-- so does a `varyonvg` that is answered `ok`; one that is refused for want of a quorum has written nothing
abbrev pub RecoversBy : Reply → ScriptState → ScriptState → Type 0
RecoversBy reply.Ok old new = ComesBack old new
RecoversBy (reply.Refused (refusal.NoQuorum have total)) old new = new.moment.device.wrote ≡ old.moment.device.wrote
RecoversBy other old new = Unit {0}

abbrev pub RecoversAs : Result (Option Command) Misfit → Reply → ScriptState → ScriptState → Type 0
RecoversAs (Ok (Some (command.Varyon name))) answer old new = RecoversBy answer old new
RecoversAs other answer old new = Unit {0}

-- so do all lines of a script,
abbrev pub AreRecovered : {log : Log} {room : Room} {first : ScriptState} {lines : List (List ℕ)} {replies : List Reply} {last : ScriptState} → Script log room first lines replies last → Type 0
AreRecovered NoLine = Unit {0}
AreRecovered (NextLine {mid = mid} {new = new} line answer said goes says before does) = AreRecovered before × RecoversAs (line_of line) answer mid new

-- and the one after which no more were done
abbrev pub EndsRecovered : {log : Log} {room : Room} {mid last : ScriptState} {done : List (List ℕ)} {said : List Reply} {front : List ℕ} → Ends log room mid last done said front → Type 0
EndsRecovered (AtLine same) = Unit {0}
EndsRecovered {mid = mid} {last = last} (InLine line answer said front rest says split does) = RecoversAs (line_of line) answer mid last
