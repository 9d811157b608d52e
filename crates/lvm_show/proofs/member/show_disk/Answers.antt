use Rattle.std.proofs.Common.{List, subst, sym}
use Rattle.std.specs.Prelude.{◌==◌, Contains}
use Rattle.lvm_num.specs.declared.descriptor.PvRow.{PvRow}
use Rattle.lvm_show.proofs.Found.{found_is_there}
use Rattle.lvm_show.proofs.member.show_disk.Goals as goal

pub member_line-requires-clause-member : goal.member_line-requires-clause-member
member_line-requires-clause-member c =
    subst (λ (rows : List PvRow). Contains rows c.in-Some.row.now) c.as_slice.ensures
    (found_is_there (λ (row : PvRow). row.disk == c.args.disk) c.as_slice.result.now c.in-Some.row.now (sym c.in-Some.ensures))
