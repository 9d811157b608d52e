use Rattle.std.proofs.Common.{arith, sym}
use Rattle.lvm_parse.proofs.WordsLemmas.{no_overflow}
use Rattle.lvm_parse.proofs.words.hex_word.Goals as goal

pub returns-in_default-checked_mul : goal.returns-in_default-checked_mul
returns-in_default-checked_mul c = sym (no_overflow c.args.word.now c.loop-byte.byte-index c.loop-byte.value (omega arith) (omega arith) c.loop-byte.invariant.0 (omega (arith, c.in_default-checked_mul.ensures)))
