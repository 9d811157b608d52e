-- What each `splitlvcopy` of a script leaves of the content of both volumes.
use Rattle.std.specs.Prelude.{◌≡◌, ℕ, List, [], ◌∷◌, ◌++◌, Option, Some, Result, Ok, IsSomeAnd}
use Rattle.lvm_vol.specs.declared.entry.Vol.TheVariants.{Lv}
use Rattle.lvm_vol.specs.Facts.{Begun, Fact, Landed}
use Rattle.lvm_vol.specs.Log.{Log}
use Rattle.lvm_vol.specs.May.{known}
use Rattle.lvm_parse.specs.declared.command.Command.{Command}
use Rattle.lvm_parse.specs.declared.command.Command.TheVariants as command
use Rattle.lvm_parse.specs.declared.rest.Misfit.{Misfit}
use Rattle.lvm_parse.specs.Grammar.{line_of}
use Rattle.lvm_core.specs.declared.parts.Room.{Room}
use Rattle.lvm_session.specs.State.{Core}
use Rattle.lvm_line.specs.passed.VolumeLines.{SharesSession}
use Rattle.lvm_line.specs.passed.GroupLines.{Reply, ScriptState}
use Rattle.lvm_line.specs.passed.ReplyVariants as reply
use Rattle.lvm_top.specs.Script.{AtLine, Ends, InLine, NextLine, NoLine, Script}

-- The session that is on has the volume under its name and the other under the new one, and both hold the same at each block that wasn't loose before, by the
-- history so far.
pub record SharesByName (past : List Fact) (name made : List ℕ) (s : ScriptState) (core : Core) : Type 0 where
  pub facts : s.moment.facts ≡ core.history.facts
  pub both : SharesSession past s.moment.device core
  pub keeps : both.shares.stays.name ≡ name
  pub has : both.shares.new.name ≡ made

-- so does a `splitlvcopy` that is answered `ok`
abbrev pub SharesBy : List Fact → List ℕ → List ℕ → Reply → ScriptState → Type 0
SharesBy past name made reply.Ok new = IsSomeAnd new.session (SharesByName past name made new)
SharesBy past name made other new = Unit {0}

abbrev pub SharesAs : List Fact → Result (Option Command) Misfit → Reply → ScriptState → Type 0
SharesAs past (Ok (Some (command.Splitlvcopy made name copies))) answer new = SharesBy past name made answer new
SharesAs past other answer new = Unit {0}

-- so do all lines of a script, after this earlier history,
abbrev pub AreShared : {log : Log} {room : Room} {first : ScriptState} {lines : List (List ℕ)} {replies : List Reply} {last : ScriptState} → List Fact → Script log room first lines replies last → Type 0
AreShared past NoLine = Unit {0}
AreShared past (NextLine {new = new} line answer said goes says before does) = AreShared past before × SharesAs past (line_of line) answer new

-- and the one after which no more were done
abbrev pub EndsShared : {log : Log} {room : Room} {mid last : ScriptState} {done : List (List ℕ)} {said : List Reply} {front : List ℕ} → List Fact → Ends log room mid last done said front → Type 0
EndsShared past (AtLine same) = Unit {0}
EndsShared {last = last} past (InLine line answer said front rest says split does) = SharesAs past (line_of line) answer last

-- ---- a write on one volume

-- a request on the volume is asked, or has landed
abbrev pub IsAskedOf : Fact → ℕ → Type 0
IsAskedOf (Begun r) lv = r.vol ≡ Lv lv
IsAskedOf (Landed r how started got) lv = r.vol ≡ Lv lv
IsAskedOf other lv = ⊥

-- Such an entry leaves what is known of each block of another volume: the values that a read of it may get, and that crash images keep.
abbrev pub StayApart : List Fact → Type 0
StayApart history = (before rest : List Fact) (f : Fact) (lv other b : ℕ) → history ≡ before ++ f ∷ rest → IsAskedOf f lv → (lv ≡ other → ⊥) → known (before ++ f ∷ []) (Lv other) b ≡ known before (Lv other) b
