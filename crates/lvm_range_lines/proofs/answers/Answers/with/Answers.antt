use Rattle.std.proofs.Common.{◌+◌, sym, ◌∙◌, ap}
use Rattle.lvm_range_lines.specs.Refusals.{refusal_in}
use Rattle.lvm_range_lines.proofs.RefusalsLemmas.{refusals_push}
use Rattle.lvm_range_lines.proofs.answers.Answers.with.Goals as goal

pub returns : goal.returns
returns c = λ endings is. record {
  text = c.with_line.ensures endings is.text;
  refused = c.count.ensures ∙ ap (λ n. n + refusal_in c.args.answer) is.refused ∙ sym (refusals_push endings c.args.answer);
}
