use Rattle.std.proofs.Common.{◌≡◌, Bool, true, false, not, refl, sym, ◌∙◌, ap}
use Rattle.std.proofs.lemmas.List.Folds.{list_any_none}
use Rattle.lvm_moves.proofs.launch.take_free.Goals as goal

pub unreachable-requires : goal.unreachable-requires
unreachable-requires c =
    let none = list_any_none not c.args.pool.now (λ k d within. ap not (c.in-None.ensures.none.0 refl k d within)) in
    let e : ◌≡◌ {A = Bool} true false = sym c.requires ∙ none in
    absurd (cc e)
