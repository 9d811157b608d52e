-- The lines of posts, while they are gathered.
use Rattle.std.specs.Prelude.{◌≡◌, ◌++◌, List, Option, IfSome, String, codes}
use Rattle.std.specs.Global.{Global}
use Rattle.std.specs.String.{string_bytes}
use Rattle.lvm_group_lines.specs.declared.reply.Refusal.TheVariants as refusal
use Rattle.lvm_group_lines.specs.declared.reply.Reply.{Reply}
use Rattle.lvm_group_lines.specs.declared.reply.Reply.TheVariants as reply
use Rattle.lvm_range_lines.specs.declared.answers.Answers.{Answers}
use Rattle.lvm_range_lines.specs.Refusals.{Ending, answers_text, refusals_in}

-- these lines, unless no memory was found
abbrev pub IsOf : List Ending → Option (String Global) → Type 0
IsOf endings text = IfSome text (λ t. string_bytes t ≡ answers_text endings)

-- and as many refusals
pub record Gathers (endings : List Ending) (a : Answers) : Type 0 where
  pub text : IsOf endings a.text
  pub refused : a.refused ≡ refusals_in endings

-- a line for each answer, and `ok`; where no memory is found for them, the reply says so
pub data Tells (endings : List Ending) (answer : Reply) : Type 0 where
  TellsAll : answer ≡ reply.Answers (answers_text endings ++ codes "ok\n") (refusals_in endings) → Tells endings answer
  TellsNone : answer ≡ reply.Refused refusal.Memory → Tells endings answer
