use Rattle.std.proofs.Common.{arith, ◌≡◌, sym, ap, ◌∙◌}
use Rattle.atomic_table.specs.declared.badge.Badge.{Badge}
use Rattle.lvm_turn.specs.Views.{View, Standing}
use Rattle.lvm_turn.specs.Turns.{Opened}
use Rattle.lvm_turn.specs.Passes.{view_of}
use Rattle.lvm_turn.proofs.ViewsLemmas.Parting.{joins}
use Rattle.lvm_turn.proofs.StepsLemmas.{compares}
use Rattle.lvm_turn.proofs.turn.Turn.join.Goals as goal

pub join_seat-requires : goal.join_seat-requires
join_seat-requires g c =
    let seat = c.into_seat-seat.ensures in
    let other = c.into_seat.ensures in
    let badge = c.replace.ensures.value in
    let words = c.self.invariant.0 in
    let one : c.into_seat-seat.result.me.0 ≡ view_of c.pass.inside.badge.views = sym (ap view_of seat.2) ∙ ap (λ (b : Badge View). view_of b.views) badge in
    let two : c.into_seat.result.me.0 ≡ view_of c.other.inside.badge.views = sym (ap view_of other.2) in (
      seat.0 ∙ ap (λ (b : Badge View). b.table_id) badge ∙ ap (λ (s : Standing). s.table) c.pass.view_is ∙ c.requires.at ∙ sym (ap (λ (o : Opened). o.table) c.self.view_is),
      other.0 ∙ ap (λ (s : Standing). s.table) c.other.view_is ∙ c.requires.other_at ∙ sym (ap (λ (o : Opened). o.table) c.self.view_is),
      other.3,
      omega arith,
      joins g.V.Shown.tells g.V.Past.past g.V.Shown.always _ _ _ c.into_seat-seat.result.me.0 _ c.into_seat.result.me.0
          (ap (λ (v : View). v.spent) one ∙ c.pass.invariant.live)
          (ap (λ (v : View). v.spent) two ∙ c.other.invariant.live)
          (ap (λ (v : View). v.inside) two ∙ ap (λ (s : Standing). s.knows.inside) c.other.view_is ∙ c.requires.outside),
    )

pub load-pass-inside-requires : goal.load-pass-inside-requires
load-pass-inside-requires g c =
    let words = c.self.invariant.0 in
    let badge = c.replace.ensures.value in (
      c.join_seat.ensures.0 ∙ c.into_seat-seat.ensures.0 ∙ ap (λ (b : Badge View). b.table_id) badge ∙ ap (λ (s : Standing). s.table) c.pass.view_is ∙ c.requires.at ∙ sym (ap (λ (o : Opened). o.table) c.self.view_is),
      omega arith,
      compares g.V.Shown.tells g.V.Past.past g.V.Shown.always _ _ _ _ _,
    )
