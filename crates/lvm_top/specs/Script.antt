-- A script line by line, and what it is answered.
use Rattle.std.specs.Prelude.{◌≡◌, ◌⊎◌, ◌≤◌, ◌++◌, ℕ, [], ◌∷◌, List, Option, Some, None, Bool, true, false, IsTrue, sum_by, length}
use Rattle.std.specs.List.{flat_map, list_any}
use Rattle.lvm_disk.specs.Device.{Device}
use Rattle.lvm_io.specs.Count.{Rose}
use Rattle.lvm_io.specs.Stream.{WhereTold}
use Rattle.lvm_io.specs.Lines.{LacksLast, has_feed, joined, lines_of}
use Rattle.lvm_vol.specs.Facts.{Fact}
use Rattle.lvm_vol.specs.Log.{Log}
use Rattle.lvm_core.specs.declared.parts.Room.{Room}
use Rattle.lvm_parse.specs.Grammar.{line_of}
use Rattle.lvm_line.specs.Lines.{IsLine, role_of}
use Rattle.lvm_line.specs.passed.GroupLines.{IsAlone, Role, Aside, OfGroup, OfRequests, reply_text, refusals_of, IsStuck, ScriptState, Reply}
use Rattle.lvm_line.specs.passed.RefusalVariants as refusal
use Rattle.lvm_line.specs.passed.ReplyVariants as reply

-- its text is made as it is written, for which no memory may be found
abbrev pub is_made_late : Reply → Bool
is_made_late (reply.Refused why) = true
is_made_late (reply.Stepped turns) = true
is_made_late (reply.Synced made) = true
is_made_late (reply.Migrated moved) = true
is_made_late _ = false

-- the reply that is written: the answer, or where the line of a refusal or of turns found no memory that it didn't
abbrev pub Says : Reply → Reply → Type 0
Says answer said = (said ≡ answer) ⊎ (IsTrue (is_made_late answer) × (said ≡ reply.Refused refusal.Memory))

-- these lines have these replies, one after another
pub data Script (log : Log) (room : Room) (first : ScriptState) : List (List ℕ) → List Reply → ScriptState → Type 0 where
  NoLine : Script log room first [] [] first
  NextLine : {lines : List (List ℕ)} {replies : List Reply} {mid new : ScriptState} (line : List ℕ) (answer said : Reply) → (IsStuck answer → ⊥) → Says answer said
      → Script log room first lines replies mid → IsLine log room line answer mid new → Script log room first (lines ++ line ∷ []) (replies ++ said ∷ []) new

-- In each of the lines that enters a volume's making or removal, or acts on the session of a group with volumes, whatever any disks find is of one group.
abbrev pub StaysAlone : {log : Log} {room : Room} {first : ScriptState} {lines : List (List ℕ)} {replies : List Reply} {last : ScriptState} → Script log room first lines replies last → Type 0
StaysAlone NoLine = Unit {0}
StaysAlone (NextLine {mid = mid} {new = new} line answer said goes says before does) = StaysAlone before × IsAlone (role_of (line_of line)) mid new

-- the texts of the replies
abbrev pub texts_of : List Reply → List ℕ
texts_of replies = flat_map reply_text replies

-- how many refusals they have
abbrev pub refusals_in : List Reply → ℕ
refusals_in replies = sum_by refusals_of replies

-- ---- requests

abbrev pub is_requesting : Role → Bool
is_requesting Aside = false
is_requesting OfGroup = false
is_requesting OfRequests = true

-- one of the lines makes requests of volumes, or turns
abbrev pub MakeRequests : List (List ℕ) → Type 0
MakeRequests lines = IsTrue (list_any (λ line. is_requesting (role_of (line_of line))) lines)

-- ---- the end of the lines

-- what follows the lines that were answered whole: nothing, or one line more whose reply was written in part, or after which nothing was heard
pub data Ends (log : Log) (room : Room) (mid last : ScriptState) : List (List ℕ) → List Reply → List ℕ → Type 0 where
  AtLine : last ≡ mid → Ends log room mid last [] [] []
  InLine : (line : List ℕ) (answer said : Reply) (front rest : List ℕ) → Says answer said → reply_text said ≡ front ++ rest → IsLine log room line answer mid last → Ends log room mid last (line ∷ []) (said ∷ []) front

abbrev pub EndsAlone : {log : Log} {room : Room} {mid last : ScriptState} {done : List (List ℕ)} {said : List Reply} {front : List ℕ} → Ends log room mid last done said front → Type 0
EndsAlone (AtLine same) = Unit {0}
EndsAlone {mid = mid} {last = last} (InLine line answer said front rest says split does) = IsAlone (role_of (line_of line)) mid last

-- nothing was heard of a transfer in the line after which no more were done
abbrev pub EndsStuck : {log : Log} {room : Room} {mid last : ScriptState} {done : List (List ℕ)} {said : List Reply} {front : List ℕ} → Ends log room mid last done said front → Type 0
EndsStuck (AtLine same) = ⊥
EndsStuck (InLine line answer said front rest says split does) = IsStuck answer

-- something was heard of each in the line after which no more were done
abbrev pub EndsHeard : {log : Log} {room : Room} {mid last : ScriptState} {done : List (List ℕ)} {said : List Reply} {front : List ℕ} → Ends log room mid last done said front → Type 0
EndsHeard (AtLine same) = Unit {0}
EndsHeard (InLine line answer said front rest says split does) = IsStuck answer → ⊥

-- what is told of a source or a sink, and how often it has failed
pub record Stream : Type 0 where
  pub content : Option (List ℕ)
  pub faults : ℕ

-- a source or a sink before and after
pub record Passage : Type 0 where
  pub before : Stream
  pub after : Stream

-- one of them, by its content and by how often it has failed
abbrev pub stream : Option (List ℕ) → ℕ → Stream
stream content faults = record { content = content; faults = faults }

abbrev pub passage : {S : Type 0} → (S → Option (List ℕ)) → (S → ℕ) → S → S → Passage
passage content faults old new = record { before = stream (content old) (faults old); after = stream (content new) (faults new) }

-- The lines that were done are the first of the source's, and what was written is their replies: each whole, but that of the last a front where the sink
-- failed.
pub record AreDone (log : Log) (room : Room) (first last : ScriptState) (input output : Passage) (refused : ℕ) : Type 0 where
  pub lines : List (List ℕ)
  pub replies : List Reply
  pub mid : ScriptState
  pub script : Script log room first lines replies mid
  pub done : List (List ℕ)
  pub said : List Reply
  pub front : List ℕ
  pub ends : Ends log room mid last done said front
  pub read : (bytes : List ℕ) → input.before.content ≡ Some bytes → (rest : List (List ℕ)) × (lines_of bytes ≡ (lines ++ done) ++ rest)
  pub written : WhereTold output.before.content output.after.content (λ a b. b ≡ (a ++ texts_of replies) ++ front)
  pub in_full : (front ≡ texts_of said) ⊎ Rose output.before.faults output.after.faults
  pub counted : refused ≡ refusals_in (replies ++ said)

-- All that the source had was read, at most 16 MiB, and done.
abbrev pub AreAllRead : {log : Log} {room : Room} {first last : ScriptState} {input output : Passage} {refused : ℕ} → AreDone log room first last input output refused → Passage → Type 0
AreAllRead lines input = (lines.done ≡ []) × WhereTold input.before.content input.after.content (λ a b. (lines_of a ≡ lines.lines) × (b ≡ []) × (length a ≤ 16777216))

-- A line of the source was left, where its lines are told.
abbrev pub IsLineLeft : {log : Log} {room : Room} {first last : ScriptState} {input output : Passage} {refused : ℕ} → AreDone log room first last input output refused → Passage → Type 0
IsLineLeft lines input = WhereTold input.before.content input.after.content (λ a b. lines_of a ≡ lines.lines → ⊥)

-- The bytes are these lines, each with its line feed, and the rest behind them; or the last of the lines has none, and nothing is behind it.
abbrev pub AreBefore : List (List ℕ) → List ℕ → List ℕ → Type 0
AreBefore lines bytes rest = (bytes ≡ joined lines ++ rest) ⊎ (LacksLast bytes lines × (rest ≡ []))

-- Behind these lines come, of all bytes, the front of a line and at most so many bytes more, then what is left.
pub record ComesBehind (lines : List (List ℕ)) (most : ℕ) (bytes left : List ℕ) : Type 0 where
  pub front : List ℕ
  pub block : List ℕ
  pub clean : has_feed front ≡ false
  pub few : length block ≤ most
  pub whole : AreBefore lines bytes (front ++ (block ++ left))

-- Each line of what was read was done, but for those that end in at most so many of its last bytes, where its lines are told.
abbrev pub AreDoneBut : {log : Log} {room : Room} {first last : ScriptState} {input output : Passage} {refused : ℕ} → ℕ → AreDone log room first last input output refused → Passage → Type 0
AreDoneBut most lines input = WhereTold input.before.content input.after.content (λ a b. ComesBehind lines.lines most a b)

-- the entries of a history, if there is one
abbrev pub facts_of : Option Log → List Fact
facts_of None = []
facts_of (Some log) = log.facts

-- the history of a run that has done nothing yet
abbrev pub empty_log : ℕ → Room → Log
empty_log run room = record { run = run; facts = []; room = room.entries; bytes = room.bytes }

-- the run's moment, which names it in its history
abbrev pub run_of : Option Log → ℕ
run_of None = 0
run_of (Some log) = log.run

-- a run's first state: its shelf at entry and the moment that the clock has just answered
abbrev pub entry_state : Device → ℕ → ScriptState
entry_state device run = record { moment = record { device = device; facts = [] }; session = None; posts = []; last = run }
