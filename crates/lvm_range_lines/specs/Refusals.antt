-- Faults of ranges, as refusals and replies.
use Rattle.std.specs.Prelude.{ℕ, ◌+◌, Bool, true, false, List, [], ◌∷◌, ◌++◌, codes, Result, Ok, Err}
use Rattle.lvm_posts.specs.declared.fault.RangeFault.{RangeFault}
use Rattle.lvm_posts.specs.declared.fault.RangeFault.TheVariants as fault
use Rattle.lvm_group_lines.specs.passed.Ranges.{AskRangeFault}
use Rattle.lvm_group_lines.specs.passed.AskRangeFaultVariants as ask
use Rattle.lvm_group_lines.specs.declared.reply.Refusal.{Refusal}
use Rattle.lvm_group_lines.specs.declared.reply.Reply.{Reply}
use Rattle.lvm_group_lines.specs.Replies.{reply_text}
use Rattle.lvm_group_lines.specs.declared.reply.Refusal.TheVariants as refusal
use Rattle.lvm_group_lines.specs.declared.reply.Reply.TheVariants as reply

-- why a range isn't asked for, as the refusal of its line
abbrev pub ask_refusal : AskRangeFault → Refusal
ask_refusal ask.NoVolume = refusal.NoVolume
ask_refusal (ask.OutOfRange blocks) = refusal.OutOfRange blocks
ask_refusal (ask.TableFull held) = refusal.TableFull held
ask_refusal ask.HistoryFull = refusal.HistoryFull

-- why one that was asked for ended otherwise than well
abbrev pub range_refusal : RangeFault → Refusal
range_refusal fault.Dark = refusal.Dark
range_refusal fault.Stuck = refusal.Stuck
range_refusal (fault.WentOff have total) = refusal.WentOff have total
range_refusal fault.Lost = refusal.Lost
range_refusal fault.ReadFailed = refusal.ReadFailed
range_refusal (fault.NoFresh lp) = refusal.NoFresh lp

-- nothing was heard of its transfers
abbrev pub is_stuck : RangeFault → Bool
is_stuck fault.Dark = false
is_stuck fault.Stuck = true
is_stuck (fault.WentOff have total) = false
is_stuck fault.Lost = false
is_stuck fault.ReadFailed = false
is_stuck (fault.NoFresh lp) = false

-- ---- texts

-- how a range ended: whether all is well, or the fault that decides
abbrev pub Ending : Type 0
Ending = Result (Unit {0}) RangeFault

-- what one that answers this has ended as
abbrev pub ending_of : {A : Type 0} → Result A RangeFault → Ending
ending_of (Ok reply) = Ok tt
ending_of (Err why) = Err why

-- its reply, or its refusal
abbrev pub reply_of : Result Reply RangeFault → Reply
reply_of (Ok answer) = answer
reply_of (Err why) = reply.Refused (range_refusal why)

-- the line of a post that ended so
abbrev pub answer_text : Ending → List ℕ
answer_text (Ok done) = codes "ok\n"
answer_text (Err why) = reply_text (reply.Refused (range_refusal why))

-- the lines of posts
abbrev pub answers_text : List Ending → List ℕ
answers_text [] = []
answers_text (answer ∷ answers) = answer_text answer ++ answers_text answers

-- one, where it is a refusal
abbrev pub refusal_in : Ending → ℕ
refusal_in (Ok done) = 0
refusal_in (Err why) = 1

-- how many of them are refusals
abbrev pub refusals_in : List Ending → ℕ
refusals_in [] = 0
refusals_in (answer ∷ answers) = refusal_in answer + refusals_in answers
