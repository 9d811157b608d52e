use Rattle.std.proofs.Common.{arith, ◌≡◌, ℕ, Option, Some, None, List, [], ◌∷◌, sym, ap, ◌∙◌}
use Rattle.atomic_table.specs.Table.{rest, Me}
use Rattle.lvm_turn.specs.Views.{View}
use Rattle.lvm_turn.proofs.StepsLemmas.{looks, tries, stows}
use Rattle.lvm_turn.proofs.steps.try_at.Goals as goal

pub load-requires : goal.load-requires
load-requires g c =
    let a = c.requires.at in
    let words = a.1 in
    (a.0, omega arith, looks g.V.Shown.tells g.V.Past.past g.V.Shown.always _ _ _ _ _ c.requires.outside.0)

pub compare_exchange-found-requires : goal.compare_exchange-found-requires
compare_exchange-found-requires g c =
    let a = c.requires.at in
    let words = a.1 in
    let even = c.requires.even in
    let fits = c.ranges.even.fits in
    let not_last = c.if-even-eq-LAST.false in
    (a.0, omega arith, tries g.V.Shown.tells g.V.Past.past g.V.Shown.always _ _ _ _ _ c.args.even c.requires.outside.0 even (omega arith))

pub exchange-value-requires : goal.exchange-value-requires
exchange-value-requires g c =
    let e = c.compare_exchange-found.ensures in
    let won = e.2.2 c.if-found-even.false in
    let cargo : c.compare_exchange-found.new.seat.me.1 ≡ (0, Some won.0) ∷ [] = ap (λ (m : Me (Option g.row.V.Denot) View). m.1) won.1 ∙ ap (λ (l : List (ℕ × Option g.row.V.Denot)). (0, Some won.0) ∷ l) c.requires.outside.1 in
    (e.0 ∙ c.requires.at.0, (Some won.0, cargo ∙ ap (λ (l : List (ℕ × Option g.row.V.Denot)). (0, Some won.0) ∷ rest l) (sym cargo)))

pub load-requires-2 : goal.load-requires-2
load-requires-2 g c =
    let a = c.requires.at in
    let words = a.1 in
    let e = c.compare_exchange-found.ensures in
    let won = e.2.2 c.if-found-even.false in
    let x = c.exchange-value.ensures in
    let cargo : c.compare_exchange-found.new.seat.me.1 ≡ (0, Some won.0) ∷ [] = ap (λ (m : Me (Option g.row.V.Denot) View). m.1) won.1 ∙ ap (λ (l : List (ℕ × Option g.row.V.Denot)). (0, Some won.0) ∷ l) c.requires.outside.1 in (
      x.0 ∙ e.0 ∙ a.0,
      omega arith,
      stows g.V.Shown.tells g.V.Past.past g.V.Shown.always _ _ _ _ _
          (ap (λ (m : Me (Option g.row.V.Denot) View). m.0.inside) x.3 ∙ ap (λ (m : Me (Option g.row.V.Denot) View). m.0.inside) won.1)
          (ap (λ (m : Me (Option g.row.V.Denot) View). m.1) x.3 ∙ ap (λ (l : List (ℕ × Option g.row.V.Denot)). (0, None) ∷ rest l) cargo),
    )
