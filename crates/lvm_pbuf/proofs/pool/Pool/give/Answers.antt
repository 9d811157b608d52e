use Rattle.std.proofs.Common.{◌∙◌, ap, Some, is_none, false, List, Bool, set}
use Rattle.std.proofs.lemmas.List.{map-set}
use Rattle.lvm_pbuf.proofs.pool.Pool.give.Goals as goal

pub returns : goal.returns
returns c =
    map-set is_none c.self.inside.places.items c.number-number.result (Some c.args.buf)
    ∙ ap (λ (l : List Bool). set l c.number-number.result false) c.self.view_is
    ∙ ap (λ n. set c.args.self.now n false) c.number-number.ensures
