use Rattle.std.proofs.Common.{◌-◌, ◌*◌, ◌++◌, List, ℕ, take, replicate, ap, ◌∙◌, arith}
use Rattle.std.proofs.lemmas.List.{take_rest}
use Rattle.lvm_rec.proofs.RecordLemmas.Frame.{later_is}
use Rattle.lvm_rec.proofs.frames.part.Goals as goal

pub returns-else-index-eq0 : goal.returns-else-index-eq0
returns-else-index-eq0 c =
    c.later_part.ensures
    ∙ ap (λ (rest : List ℕ). take 496 (rest ++ replicate 496 0)) (take_rest c.args.content.now (496 * c.args.index - 4))
    ∙ later_is c.args.content.now c.args.index (omega arith) c.requires.within
