use Rattle.std.proofs.Common.{◌≡◌, ◌-◌, ℕ, Some, slice_get, sym, ◌∙◌, ap, subst}
use Rattle.std.proofs.lemmas.Option.{slice_get-get_or}
use Rattle.lvm_driver.proofs.MovesLemmas.{apart_by}
use Rattle.lvm_driver.proofs.moves.are_apart_from.Goals as goal

pub returns-in-Some : goal.returns-in-Some
returns-in-Some c =
    let looked = c.in-Some.ensures.lookup.3 in
    let copies = c.args.copies.now in
    let from = c.in-Some.from.now in
    apart_by copies c.args.number c.args.disk from c.is_other_on.result c.if-number-eq0.false
    (subst (λ (n : ℕ). slice_get copies (n - 1) ≡ Some from) c.from.ensures (slice_get-get_or copies (c.from.result - 1) from looked.0 ∙ ap Some (sym (looked.1 from)))) c.is_other_on.ensures
