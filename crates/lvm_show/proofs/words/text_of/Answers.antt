use Rattle.std.proofs.Common.{subst, sym}
use Rattle.std.specs.Str.{IsUtf8}
use Rattle.lvm_show.proofs.NameLemmas.{name_is_text}
use Rattle.lvm_show.proofs.words.text_of.Goals as goal

pub unreachable-requires : goal.unreachable-requires
unreachable-requires c = c.in-Err.ensures.cases.0 (subst IsUtf8 (sym c.as_bytes.ensures.bytes) (name_is_text c.args.name.now c.as_bytes.ensures.name))
