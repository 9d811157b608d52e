use Rattle.std.proofs.Common.{◌∙◌, ap, arith, codes, option_and_then}
use Rattle.std.specs.Str.Parse.{ParsesUnsigned, ExplainsUnsignedError, HasUnsignedDigitsIfOk}
use Rattle.clap.specs.Words.{found_of}
use Rattle.clap.proofs.WalkLemmas.{one_text-rows}
use Rattle.lvm_words.specs.Matched.{unsigned_in}
use Rattle.lvm_words.proofs.MatchedLemmas.{reads_at}
use Rattle.lvm_words.proofs.matched.seed.Goals as goal

pub returns : goal.returns
returns c =
    reads_at _ (λ bs r. ParsesUnsigned 64 10 bs r × ExplainsUnsignedError 10 bs r × HasUnsignedDigitsIfOk bs r) 64 (omega arith) (omega arith) (λ u x g. g.0) _ c.get_one.result c.get_one.ensures.none c.get_one.ensures.value
    ∙ ap (option_and_then (unsigned_in 64)) (one_text-rows (found_of c.args.found.now) (codes "SEED"))
