use Rattle.std.proofs.Common.{◌≡◌, ◌++◌, ℕ, List, refl, ◌∙◌, ap, subst}
use Rattle.std.specs.Prelude.{codes}
use Rattle.std.specs.String.{string_bytes}
use Rattle.lvm_group_lines.specs.declared.reply.Reply.TheVariants as reply
use Rattle.lvm_range_lines.specs.Answers.{IsOf, TellsAll, TellsNone}
use Rattle.lvm_range_lines.specs.Refusals.{answers_text}
use Rattle.lvm_range_lines.proofs.answers.finish.Goals as goal

pub returns-in-None : goal.returns-in-None
returns-in-None c = λ endings is same. TellsNone refl

pub returns-in-Ok : goal.returns-in-Ok
returns-in-Ok c = λ endings is same.
    let before : string_bytes c.in-Some.text ≡ answers_text endings = subst (IsOf endings) c.in-Some.is is in
    TellsAll (ap (λ (text : List ℕ). reply.Answers text c.args.refused) (c.new.ensures ∙ c.in-Ok.ensures ∙ ap (λ (text : List ℕ). text ++ codes "ok\n") before)
    ∙ ap (λ (n : ℕ). reply.Answers (answers_text endings ++ codes "ok\n") n) same)

pub returns-in-Err : goal.returns-in-Err
returns-in-Err c = λ endings is same. TellsNone refl
