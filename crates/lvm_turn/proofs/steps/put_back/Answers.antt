use Rattle.std.proofs.Common.{arith, ℕ, ◌+◌, Option, Some, List, ◌∷◌, refl, sym, ap, ◌∙◌}
use Rattle.atomic_table.specs.Table.{rest, Me}
use Rattle.lvm_turn.specs.Views.{View}
use Rattle.lvm_turn.proofs.StepsLemmas.{tells_length, releases}
use Rattle.lvm_turn.proofs.steps.put_back.Goals as goal

pub compare_exchange_with-requires : goal.compare_exchange_with-requires
compare_exchange_with-requires g c =
    let words = c.requires.at.1 in
    let i = c.requires.inside in
    let may = c.requires.may in (
      c.requires.at.0,
      omega arith,
      tells_length g.V.Shown.tells g.V.Past.past g.V.Shown.always _ _ _ _ _ c.args.count c.shown-told.result c.args.value
          i.0.0 i.0.1 i.1 may.front may.none_fell may.own_only c.requires.count c.shown-told.ensures,
    )

pub store-requires : goal.store-requires
store-requires g c =
    let words = c.requires.at.1 in
    let i = c.requires.inside in
    let may = c.requires.may in
    let Cargo : Type 0 = List (ℕ × Option g.row.V.Denot) in
    let tell = c.compare_exchange_with.ensures in
    let told = tell.2 c.args.value refl in
    let put = c.exchange-emptied.ensures in
    let me = put.3 ∙ ap (λ (m : Me (Option g.row.V.Denot) View). (m.0, (0, Some c.args.value) ∷ rest m.1)) told in (
      put.0 ∙ tell.0 ∙ c.requires.at.0,
      omega arith,
      releases g.V.Shown.tells g.V.Past.past g.V.Shown.always _ _ _ _ _ (c.args.number + 1) c.args.value
          (ap (λ (m : Me (Option g.row.V.Denot) View). m.1) me)
          (ap (λ (m : Me (Option g.row.V.Denot) View). m.0.inside) me ∙ i.0.0)
          (ap (λ k. k + 1) (c.requires.number.0 ∙ sym (ap (λ (m : Me (Option g.row.V.Denot) View). m.0.number) me)))
          (sym (ap (λ (m : Me (Option g.row.V.Denot) View). m.0.front) me))
          (sym (ap (λ (m : Me (Option g.row.V.Denot) View). m.0.counts) me))
          (may.fixed_same ∙ sym (ap (λ (m : Me (Option g.row.V.Denot) View). m.0.fixed) me))
          (ap (λ (m : Me (Option g.row.V.Denot) View). m.0.spent) me ∙ i.0.2)
          may.always_holds,
    )
