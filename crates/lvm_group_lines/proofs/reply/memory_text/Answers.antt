use Rattle.lvm_group_lines.proofs.RepliesLemmas.{memory_is}
use Rattle.lvm_group_lines.proofs.reply.memory_text.Goals as goal

pub returns : goal.returns
returns c = memory_is
