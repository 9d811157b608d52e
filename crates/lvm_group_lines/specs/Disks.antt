-- What a line does that reads or writes a range of a disk.
use Rattle.std.specs.Prelude.{◌≡◌, ◌∷◌, ◌++◌, ◌+◌, ℕ, [], List, None, IsSome, Result, Ok, Err}
use Rattle.lvm_num.specs.Buffer.{Sector}
use Rattle.lvm_kept.specs.Moments.{Moment}
use Rattle.lvm_group_lines.specs.passed.Quiesce.{ReadOnceQuiet, WriteOnceQuiet}
use Rattle.lvm_vol.specs.Log.{Log}
use Rattle.lvm_show.specs.Blocks.{block_text}
use Rattle.lvm_raw.specs.declared.fault.RawFault.{RawFault}
use Rattle.lvm_raw.specs.declared.fault.RawFault.TheVariants as fault
use Rattle.lvm_raw.specs.Keeping.{AnswerHasCause}
use Rattle.lvm_group_lines.specs.State.{ScriptState}
use Rattle.lvm_group_lines.specs.Replies.{IsRefused, Shows}
use Rattle.lvm_group_lines.specs.declared.reply.Refusal.{Refusal}
use Rattle.lvm_group_lines.specs.declared.reply.Refusal.TheVariants as refusal
use Rattle.lvm_group_lines.specs.declared.reply.Reply.{Reply}
use Rattle.lvm_group_lines.specs.declared.reply.Reply.TheVariants as reply
use Rattle.lvm_group_lines.specs.Ends.{patience_of_line}

-- a fault of a range, as the refusal of its line
abbrev pub refusal_by : RawFault → Refusal
refusal_by (fault.NoDisk disk) = refusal.NoDisk disk
refusal_by (fault.OutOfRange blocks) = refusal.OutOfRange blocks
refusal_by fault.HistoryFull = refusal.HistoryFull
refusal_by fault.Dark = refusal.Dark
refusal_by fault.Stuck = refusal.Stuck
refusal_by (fault.DiskFailed disk) = refusal.DiskFailed disk
refusal_by (fault.InGroup disk) = refusal.InGroup disk
refusal_by fault.Lost = refusal.Lost
refusal_by fault.ReadFailed = refusal.ReadFailed
refusal_by fault.Memory = refusal.Memory

-- the reply to a write
abbrev pub write_reply : Result (Unit {0}) RawFault → Reply
write_reply (Ok done) = reply.Ok
write_reply (Err why) = reply.Refused (refusal_by why)

-- a line for each block, the first of this number
abbrev pub blocks_text : ℕ → List Sector → List ℕ
blocks_text at [] = []
blocks_text at (block ∷ blocks) = block_text at block ++ blocks_text (at + 1) blocks

-- a line for each block that was read, if there was memory for them, or why it wasn't
abbrev pub ShowsRead : ℕ → Result (List Sector) RawFault → Reply → Type 0
ShowsRead at (Ok blocks) answer = Shows (blocks_text at blocks) answer
ShowsRead at (Err why) answer = answer ≡ reply.Refused (refusal_by why)

-- what has risen of the line's disk where the range has a fault
abbrev pub HasRisen : {X : Type 0} → ℕ → Moment → Moment → Result X RawFault → Type 0
HasRisen disk old new given = AnswerHasCause disk patience_of_line old.device.counts new.device.counts given

-- no group is on, nor afterwards, the posts stay, and the clock wasn't asked
pub record StaysOff (old new : ScriptState) : Type 0 where
  pub before : old.session ≡ None
  pub after : new.session ≡ None
  pub posts : new.posts ≡ old.posts
  pub clock : new.last ≡ old.last

-- `wr` on a disk, while no group is on
pub data WriteDoes (log : Log) (disk at count word : ℕ) (old new : ScriptState) (answer : Reply) : Type 0 where
  NoWriteWhileOn : IsSome old.session → IsRefused refusal.GroupOn answer old new → WriteDoes log disk at count word old new answer
  WriteGoes : (given : Result (Unit {0}) RawFault) → StaysOff old new → WriteOnceQuiet log disk at count word patience_of_line old.moment new.moment given → HasRisen disk old.moment new.moment given → answer ≡ write_reply given → WriteDoes log disk at count word old new answer

-- `rd` on a disk
pub data ReadDoes (log : Log) (disk at count : ℕ) (old new : ScriptState) (answer : Reply) : Type 0 where
  NoReadWhileOn : IsSome old.session → IsRefused refusal.GroupOn answer old new → ReadDoes log disk at count old new answer
  ReadGoes : (given : Result (List Sector) RawFault) → StaysOff old new → ReadOnceQuiet log disk at count patience_of_line old.moment new.moment given → HasRisen disk old.moment new.moment given → ShowsRead at given answer → ReadDoes log disk at count old new answer
