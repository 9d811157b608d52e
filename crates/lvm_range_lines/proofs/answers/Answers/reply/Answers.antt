use Rattle.lvm_range_lines.proofs.answers.Answers.reply.Goals as goal

pub returns : goal.returns
returns c = λ endings is. c.finish.ensures endings is.text is.refused
