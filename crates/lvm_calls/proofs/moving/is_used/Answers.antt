use Rattle.std.proofs.Common.{List, ◌∙◌, ap}
use Rattle.std.specs.List.{list_any}
use Rattle.lvm_num.specs.declared.descriptor.LvRow.{LvRow}
use Rattle.lvm_session.specs.Marks.{is_among}
use Rattle.lvm_calls.proofs.MovingLemmas.{any_used}
use Rattle.lvm_calls.proofs.moving.is_used.Goals as goal

pub returns : goal.returns
returns c = c.any_has.ensures ∙ ap (λ (rows : List LvRow). list_any (λ (row : LvRow). is_among row.map c.args.pp) rows) c.as_slice.ensures ∙ any_used c.args.pp c.args.d.now.lvs
