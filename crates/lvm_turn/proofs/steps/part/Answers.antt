use Rattle.std.proofs.Common.{arith, subst}
use Rattle.atomic_table.specs.Table.{Splits}
use Rattle.lvm_turn.specs.Rules.{fixed_of, TurnRule}
use Rattle.lvm_turn.specs.Views.{without_client, with_client_alone}
use Rattle.lvm_turn.proofs.ViewsLemmas.Parting.{splits}
use Rattle.lvm_turn.proofs.steps.part.Goals as goal

pub split_seat-requires : goal.split_seat-requires
split_seat-requires g c =
    let words = c.requires.at.1 in
    let o = c.requires.outside in
    let key = c.args.shared.now.key in (
      c.requires.at.0,
      omega arith,
      subst (λ k. Splits (TurnRule g.V.Shown.tells g.V.Past.past g.V.Shown.always key.clients (fixed_of g.V.Shown.tells g.V.Past.past key.value.value)) c.args.seat.now.id c.args.seat.now.me.0 (without_client k c.args.seat.now.me.0) (with_client_alone k c.args.seat.now.me.0)) c.requires.chosen
          (splits g.V.Shown.tells g.V.Past.past g.V.Shown.always _ _ _ _ c.args.client o.0 c.requires.holds),
    )
