use Rattle.std.proofs.Common.{◌≤◌, length, sym, subst}
use Rattle.lvm_num.specs.declared.place.Pp.{Pp}
use Rattle.std.specs.Prelude.{List}
use Rattle.lvm_path.specs.Asks.{lv_of}
use Rattle.lvm_session.specs.Fields.{core_of}
use Rattle.lvm_session.specs.Judging.{lp_of}
use Rattle.lvm_due.proofs.DescriptorLemmas.Members.{few_in}
use Rattle.lvm_due.proofs.writes.unbegun_left.Goals as goal

pub all_turns-requires : goal.all_turns-requires
all_turns-requires c =
    subst (λ (ps : List Pp). length ps ≤ 3) (sym c.copies_for.ensures)
    (few_in c.args.session.now.descriptor (lv_of c.args.request.now.ask) (lp_of (core_of c.args.session.now) c.args.request.now.ask) c.requires.valid)
