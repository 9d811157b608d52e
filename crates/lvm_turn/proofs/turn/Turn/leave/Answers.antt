use Rattle.std.proofs.Common.{◌≡◌, sym, ap, ◌∙◌, subst}
use Rattle.atomic_table.specs.declared.badge.Badge.{Badge}
use Rattle.lvm_turn.specs.Views.{View, Standing}
use Rattle.lvm_turn.specs.Passes.{view_of}
use Rattle.lvm_turn.specs.Calls.{MayPut}
use Rattle.lvm_turn.proofs.turn.Turn.leave.Goals as goal

pub put_back-requires-clause-may : goal.put_back-requires-clause-may
put_back-requires-clause-may g c =
    let may = c.requires.may in
    let known : c.into_seat-seat.result.me.0 ≡ c.args.pass.now.knows =
    sym (ap view_of c.into_seat-seat.ensures.2) ∙ ap (λ (b : Badge View). view_of b.views) c.replace.ensures.value ∙ ap (λ (s : Standing). s.knows) c.pass.view_is in
    subst (λ (v : View). MayPut g.V.Shown.tells g.V.Past.past g.V.Shown.always c.self.inside.table.shared.key.clients v c.args.value) (sym known) record {
      front = may.front;
      own_only = λ k low high absent. may.own_only k absent;
      fixed_same = may.fixed_same;
      none_fell = may.none_fell;
      always_holds = may.always_holds;
    }
