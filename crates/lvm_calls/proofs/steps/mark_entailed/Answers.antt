use Rattle.std.proofs.Common.{List, sym, subst}
use Rattle.std.specs.Prelude.{All}
use Rattle.lvm_num.specs.declared.descriptor.LvRow.{LvRow}
use Rattle.lvm_num.specs.Descriptor.{IsLaidOut, partitions_in}
use Rattle.lvm_status.specs.Calls.{IsMarkable}
use Rattle.lvm_session.specs.Marks.{WantsStale}
use Rattle.lvm_calls.specs.Left.{is_left_of}
use Rattle.lvm_calls.proofs.BringingLemmas.{markable}
use Rattle.lvm_calls.proofs.steps.mark_entailed.Goals as goal

pub mark_left-requires-clause-sound : goal.mark_left-requires-clause-sound
mark_left-requires-clause-sound c = c.requires.copy.sound

pub mark_left-requires-clause-laid_out : goal.mark_left-requires-clause-laid_out
mark_left-requires-clause-laid_out c = subst (All IsLaidOut) (sym c.as_slice.ensures) c.requires.valid.maps.laid_out

pub mark_left-requires-clause-markable : goal.mark_left-requires-clause-markable
mark_left-requires-clause-markable c =
    let d = c.args.session.now.descriptor in
    subst (λ (rows : List LvRow). All (IsMarkable c.args.session.now.updater.wanted) (partitions_in rows)) (sym c.as_slice.ensures)
    (λ k e less. markable d c.args.session.now.updater.wanted _ c.requires.valid c.requires.rows (c.requires.valid.maps.places k e less))

pub returns-clause-marks : goal.returns-clause-marks
returns-clause-marks c = subst (λ (rows : List LvRow). WantsStale (is_left_of c.args.session.now.updater rows) c.args.session.now.updater c.mark_left.new.updater) c.as_slice.ensures c.mark_left.ensures
