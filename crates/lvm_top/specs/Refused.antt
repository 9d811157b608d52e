-- Why the lines of a script are refused, and the posts that they tell of ended.
use Rattle.std.specs.Prelude.{ℕ, List}
use Rattle.lvm_disk.specs.Counts.{RoseBy}
use Rattle.lvm_vol.specs.Log.{Log}
use Rattle.lvm_core.specs.declared.parts.Room.{Room}
use Rattle.lvm_parse.specs.Grammar.{line_of}
use Rattle.lvm_line.specs.Causes.{HasCause}
use Rattle.lvm_line.specs.Complete.{IsOwn, NothingFailed}
use Rattle.lvm_line.specs.Told.{IsWellTold, NothingSince, ToldCause}
use Rattle.lvm_line.specs.passed.GroupLines.{Reply, ScriptState, patience_of_line}
use Rattle.lvm_line.specs.passed.ReplyVariants as reply
use Rattle.lvm_top.specs.Script.{AtLine, Ends, InLine, NextLine, NoLine, Script}

-- a line that is refused has its cause,
abbrev pub IsRefusedFor : List ℕ → Reply → ScriptState → ScriptState → Type 0
IsRefusedFor line (reply.Refused why) old new = HasCause (line_of line) why old new
IsRefusedFor line other old new = Unit {0}

-- and so has each post that it tells of, or whose session it ends
abbrev pub IsForCause : List ℕ → Reply → ScriptState → ScriptState → Type 0
IsForCause line answer old new = IsRefusedFor line answer old new × ToldCause (line_of line) answer old new

-- so has each of the lines of a script
abbrev pub AreForCause : {log : Log} {room : Room} {first : ScriptState} {lines : List (List ℕ)} {replies : List Reply} {last : ScriptState}
    → Script log room first lines replies last → Type 0
AreForCause NoLine = Unit {0}
AreForCause (NextLine {mid = mid} {new = new} line answer said goes says before does) = AreForCause before × IsForCause line answer mid new

-- and the one after which no more were done
abbrev pub EndsForCause : {log : Log} {room : Room} {mid last : ScriptState} {done : List (List ℕ)} {said : List Reply} {front : List ℕ}
    → Ends log room mid last done said front → Type 0
EndsForCause (AtLine same) = Unit {0}
EndsForCause {mid = mid} {last = last} (InLine line answer said front rest says split does) = IsForCause line answer mid last

-- in the line after which no more were done, if there is one, the shelf didn't wait a million times
abbrev pub EndsInTime : {log : Log} {room : Room} {mid last : ScriptState} {done : List (List ℕ)} {said : List Reply} {front : List ℕ}
    → Ends log room mid last done said front → Type 0
EndsInTime (AtLine same) = Unit {0}
EndsInTime {mid = mid} {last = last} (InLine line answer said front rest says split does) = RoseBy patience_of_line mid.moment.device.counts.waits last.moment.device.counts.waits → ⊥

-- a line is refused for nothing that the shelf did in it, if it is
abbrev pub IsWell : List ℕ → ScriptState → Reply → Type 0
IsWell line old (reply.Refused why) = IsOwn (line_of line) old why
IsWell line old other = Unit {0}

-- So is each of the lines of a script in which nothing failed; and each post that a `wait` tells of a session on which nothing failed is done, or had no copy.
abbrev pub AreComplete : {log : Log} {room : Room} {first : ScriptState} {lines : List (List ℕ)} {replies : List Reply} {last : ScriptState}
    → Script log room first lines replies last → Type 0
AreComplete NoLine = Unit {0}
AreComplete (NextLine {mid = mid} {new = new} line answer said goes says before does) = AreComplete before × (NothingFailed (line_of line) mid new → IsWell line mid answer) × (NothingSince mid new → IsWellTold (line_of line) answer mid new)

-- In whatever script that is so.
abbrev pub ScriptsAreComplete : Type 0
ScriptsAreComplete = (log : Log) (room : Room) (first : ScriptState) (lines : List (List ℕ)) (replies : List Reply) (last : ScriptState)
    (script : Script log room first lines replies last) → AreComplete script
