-- The texts of replies.
use Rattle.std.specs.Prelude.{◌≡◌, ℕ, Bool, true, false, List, [], codes}
use Rattle.lvm_show.specs.Refusals.{refusal_text}
use Rattle.lvm_show.specs.Texts.{migrated_text, stepped_text, synced_text}
use Rattle.lvm_group_lines.specs.Refusals.{shown}
use Rattle.lvm_group_lines.specs.State.{ScriptState}
use Rattle.lvm_group_lines.specs.declared.reply.Refusal.{Refusal}
use Rattle.lvm_group_lines.specs.declared.reply.Refusal.TheVariants as refusal
use Rattle.lvm_group_lines.specs.declared.reply.Reply.{Reply}
use Rattle.lvm_group_lines.specs.declared.reply.Reply.TheVariants as reply

-- what answers, with a line feed at the end of each line
abbrev pub reply_text : Reply → List ℕ
reply_text reply.Silent = []
reply_text reply.Ok = codes "ok\n"
reply_text reply.Posted = codes "posted\n"
reply_text (reply.Stepped turns) = stepped_text turns
reply_text (reply.Synced made) = synced_text made
reply_text (reply.Migrated moved) = migrated_text moved
reply_text (reply.Lines text) = text
reply_text (reply.Answers text refused) = text
reply_text (reply.Refused why) = refusal_text (shown why)

-- how many refusals it answers: that of each post of a `wait`, and one else
abbrev pub refusals_of : Reply → ℕ
refusals_of (reply.Answers text refused) = refused
refusals_of (reply.Refused why) = 1
refusals_of _ = 0

-- how many it may answer, since the line of turns, or of copies, may find no memory
abbrev pub most_refusals : Reply → ℕ
most_refusals (reply.Stepped turns) = 1
most_refusals (reply.Synced made) = 1
most_refusals (reply.Migrated moved) = 1
most_refusals other = refusals_of other

-- nothing was heard of a transfer, and the run ends
abbrev pub IsStuck : Reply → Type 0
IsStuck answer = answer ≡ reply.Refused refusal.Stuck

-- so as a truth value
abbrev pub is_unheard : Reply → Bool
is_unheard (reply.Refused refusal.Stuck) = true
is_unheard other = false

-- it is refused, and nothing changes
abbrev pub IsRefused : Refusal → Reply → ScriptState → ScriptState → Type 0
IsRefused why answer old new = (answer ≡ reply.Refused why) × (new ≡ old)

-- where no memory is found for the lines that answer, the reply says so
pub data Shows (text : List ℕ) (answer : Reply) : Type 0 where
  InFull : answer ≡ reply.Lines text → Shows text answer
  WithoutMemory : answer ≡ reply.Refused refusal.Memory → Shows text answer
