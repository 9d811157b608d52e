use Rattle.std.proofs.Common.{refl, subst}
use Rattle.lvm_num.specs.declared.descriptor.Descriptor.{Descriptor}
use Rattle.lvm_move_lines.specs.Asking.{IsAsked, IsNotAsked}
use Rattle.lvm_move_lines.specs.Moving.{MovesNone, RefusesToMove}
use Rattle.lvm_move_lines.proofs.moving.move_none.Goals as goal

pub returns-in-Err : goal.returns-in-Err
returns-in-Err g c =
    RefusesToMove c.in-Err.why (subst (λ (d : Descriptor). IsNotAsked d c.args.volume c.args.from c.args.to c.in-Err.why) c.descriptor.ensures.same c.in-Err.ensures) refl

pub returns-in-Ok : goal.returns-in-Ok
returns-in-Ok g c =
    MovesNone c.in-Ok.field-0 (subst (λ (d : Descriptor). IsAsked d c.args.volume c.args.from c.args.to c.in-Ok.field-0) c.descriptor.ensures.same c.in-Ok.ensures) c.empty_reply.ensures
