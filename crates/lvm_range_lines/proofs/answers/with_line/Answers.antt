use Rattle.std.proofs.Common.{◌≡◌, ◌++◌, ℕ, List, sym, ◌∙◌, ap, subst}
use Rattle.std.specs.String.{string_bytes}
use Rattle.lvm_range_lines.specs.Answers.{IsOf}
use Rattle.lvm_range_lines.specs.Refusals.{answer_text, answers_text}
use Rattle.lvm_range_lines.proofs.RefusalsLemmas.{answers_push}
use Rattle.lvm_range_lines.proofs.answers.with_line.Goals as goal

pub returns-in-Ok : goal.returns-in-Ok
returns-in-Ok c = λ endings is.
    let before : string_bytes c.in-Some.text ≡ answers_text endings = subst (IsOf endings) c.in-Some.is is in
    c.in-Ok.ensures ∙ ap (λ (text : List ℕ). text ++ answer_text c.args.answer) before ∙ sym (answers_push endings c.args.answer)
