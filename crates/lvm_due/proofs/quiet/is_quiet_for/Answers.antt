use Rattle.std.proofs.Common.{sym, subst, ◌∙◌}
use Rattle.lvm_session.specs.Fields.{core_of}
use Rattle.lvm_due.specs.Due.{NoneFailsFor}
use Rattle.lvm_due.proofs.quiet.is_quiet_for.Goals as goal

pub is_quiet_at-requires : goal.is_quiet_at-requires
is_quiet_at-requires c = c.place_of.ensures.within

pub returns-in-Data : goal.returns-in-Data
returns-in-Data c going is =
    subst (NoneFailsFor (core_of c.args.session.now)) (sym c.in-Data.is) (λ k found. c.is_quiet_at.ensures is k (c.place_of.ensures.place going.told.table.ascending ∙ found))
