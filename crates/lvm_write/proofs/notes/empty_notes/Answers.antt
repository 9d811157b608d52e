use Rattle.std.proofs.Common.{◌+◌, arith, sym, subst, ◌∙◌}
use Rattle.lvm_num.specs.Buffer.{Sector}
use Rattle.lvm_num.specs.Disks.{Disks, has}
use Rattle.lvm_quorum.specs.passed.Transfer.{IsOfNote}
use Rattle.lvm_quorum.specs.passed.TransferMovesMoved as moved
use Rattle.lvm_write.specs.Notes.{empty_note_sector, NoteTold}
use Rattle.lvm_write.proofs.WritesLemmas.{nothing_tried, none_here, well_here, badly_here, leaves_here, dark_here, stuck_here, tried_ends, as_tried}
use Rattle.lvm_write.proofs.NotesLemmas.{note_stays, note_part, note_alone}
use Rattle.lvm_write.proofs.notes.empty_notes.Goals as goal
use Rattle.lvm_write.proofs.notes.empty_notes.Goals.{in-Done, in-Failed}

pub loop-disk-init : goal.loop-disk-init
loop-disk-init g c = nothing_tried (has c.args.targets) (IsOfNote (has c.args.targets) (empty_note_sector c.args.stamp)) (NoteTold (empty_note_sector c.args.stamp)) (note_stays (has c.args.targets) (empty_note_sector c.args.stamp)) c.args.patience.now.left (g.S.Shelf.device c.args.shelf.now) c.empty-failed.result c.args.buf c.requires.ready c.empty-failed.ensures

pub loop-disk-preserved-then-not-has : goal.loop-disk-preserved-then-not-has
loop-disk-preserved-then-not-has g c =
    let old = g.S.Shelf.device c.args.shelf.now in
    let now = g.S.Shelf.device c.loop-disk.shelf in
    none_here (has c.args.targets) (IsOfNote (has c.args.targets) (empty_note_sector c.args.stamp)) (NoteTold (empty_note_sector c.args.stamp)) (note_stays (has c.args.targets) (empty_note_sector c.args.stamp)) c.args.buf.number c.args.patience.now.left c.loop-disk.patience.left old now c.loop-disk.failed c.loop-disk.buf c.loop-disk.disk c.loop-disk.invariant (sym c.has.ensures.member ∙ c.if-not-has.true)

pub returns-in-Dark : goal.returns-in-Dark
returns-in-Dark g c =
    let old = g.S.Shelf.device c.args.shelf.now in
    let now = g.S.Shelf.device c.loop-disk.shelf in
    let new = g.S.Shelf.device c.write_sector.new.shelf in
    let target = sym c.has.ensures.member ∙ c.if-not-has.false in
    let part = note_part c.write_note-note.result (empty_note_sector c.args.stamp) c.loop-disk.disk c.loop-disk.buf.number c.loop-disk.patience.left c.write_sector.new.patience.left now new (moved.Dark c.in-Dark.started) c.write_note-note.ensures c.in-Dark.ensures.part (has c.args.targets) target in
    let alone = note_alone c.write_note-note.result (empty_note_sector c.args.stamp) c.loop-disk.disk c.loop-disk.buf.number c.loop-disk.patience.left c.write_sector.new.patience.left now new (moved.Dark c.in-Dark.started) c.write_note-note.ensures c.in-Dark.ensures.part in
    record {
      ends = dark_here (has c.args.targets) (IsOfNote (has c.args.targets) (empty_note_sector c.args.stamp)) (NoteTold (empty_note_sector c.args.stamp)) (note_stays (has c.args.targets) (empty_note_sector c.args.stamp)) c.args.buf.number c.args.patience.now.left c.loop-disk.patience.left old now c.loop-disk.failed c.loop-disk.buf c.loop-disk.disk c.loop-disk.invariant c.write_sector.new.patience.left new (λ (written : Disks). Unit {0}) target alone c.in-Dark.started part tt;
      leaves = leaves_here (has c.args.targets) (IsOfNote (has c.args.targets) (empty_note_sector c.args.stamp)) (NoteTold (empty_note_sector c.args.stamp)) (note_stays (has c.args.targets) (empty_note_sector c.args.stamp)) c.args.buf.number c.args.patience.now.left c.loop-disk.patience.left old now c.loop-disk.failed c.loop-disk.buf c.loop-disk.disk c.loop-disk.invariant c.write_sector.new.patience.left new (λ (written : Disks). Unit {0}) target alone (moved.Dark c.in-Dark.started) part;
    }

pub returns-in-Stuck : goal.returns-in-Stuck
returns-in-Stuck g c =
    let old = g.S.Shelf.device c.args.shelf.now in
    let now = g.S.Shelf.device c.loop-disk.shelf in
    let new = g.S.Shelf.device c.write_sector.new.shelf in
    let target = sym c.has.ensures.member ∙ c.if-not-has.false in
    let part = note_part c.write_note-note.result (empty_note_sector c.args.stamp) c.loop-disk.disk c.loop-disk.buf.number c.loop-disk.patience.left c.write_sector.new.patience.left now new moved.Stuck c.write_note-note.ensures c.in-Stuck.ensures.part (has c.args.targets) target in
    let alone = note_alone c.write_note-note.result (empty_note_sector c.args.stamp) c.loop-disk.disk c.loop-disk.buf.number c.loop-disk.patience.left c.write_sector.new.patience.left now new moved.Stuck c.write_note-note.ensures c.in-Stuck.ensures.part in
    record {
      ends = stuck_here (has c.args.targets) (IsOfNote (has c.args.targets) (empty_note_sector c.args.stamp)) (NoteTold (empty_note_sector c.args.stamp)) (note_stays (has c.args.targets) (empty_note_sector c.args.stamp)) c.args.buf.number c.args.patience.now.left c.loop-disk.patience.left old now c.loop-disk.failed c.loop-disk.buf c.loop-disk.disk c.loop-disk.invariant c.write_sector.new.patience.left new (λ (written : Disks). Unit {0}) target alone part tt;
      leaves = leaves_here (has c.args.targets) (IsOfNote (has c.args.targets) (empty_note_sector c.args.stamp)) (NoteTold (empty_note_sector c.args.stamp)) (note_stays (has c.args.targets) (empty_note_sector c.args.stamp)) c.args.buf.number c.args.patience.now.left c.loop-disk.patience.left old now c.loop-disk.failed c.loop-disk.buf c.loop-disk.disk c.loop-disk.invariant c.write_sector.new.patience.left new (λ (written : Disks). Unit {0}) target alone moved.Stuck part;
    }

pub loop-disk-preserved : goal.loop-disk-preserved
loop-disk-preserved g c =
    let old = g.S.Shelf.device c.args.shelf.now in
    let now = g.S.Shelf.device c.loop-disk.shelf in
    let new = g.S.Shelf.device c.write_sector.new.shelf in
    let target = sym c.has.ensures.member ∙ c.if-not-has.false in
    elim c.match-write_sector.branch [
      | in-Done v ↦
          as_tried (has c.args.targets) (IsOfNote (has c.args.targets) (empty_note_sector c.args.stamp)) (NoteTold (empty_note_sector c.args.stamp)) c.args.buf.number c.args.patience.now.left c.write_sector.new.patience.left old new c.loop-disk.failed c.match-write_sector.failed v.in-Done.back c.match-write_sector.buf (c.loop-disk.disk + 1) v.failed-is v.buf-is
          (well_here (has c.args.targets) (IsOfNote (has c.args.targets) (empty_note_sector c.args.stamp)) (NoteTold (empty_note_sector c.args.stamp)) (note_stays (has c.args.targets) (empty_note_sector c.args.stamp)) c.args.buf.number c.args.patience.now.left c.loop-disk.patience.left old now c.loop-disk.failed c.loop-disk.buf c.loop-disk.disk c.loop-disk.invariant c.write_sector.new.patience.left new v.in-Done.back target
          (note_alone c.write_note-note.result (empty_note_sector c.args.stamp) c.loop-disk.disk c.loop-disk.buf.number c.loop-disk.patience.left c.write_sector.new.patience.left now new (moved.Done v.in-Done.back) c.write_note-note.ensures v.in-Done.ensures.part)
          (note_part c.write_note-note.result (empty_note_sector c.args.stamp) c.loop-disk.disk c.loop-disk.buf.number c.loop-disk.patience.left c.write_sector.new.patience.left now new (moved.Done v.in-Done.back) c.write_note-note.ensures v.in-Done.ensures.part (has c.args.targets) target)
          (subst (λ (s : Sector). NoteTold s new c.loop-disk.disk) c.write_note-note.ensures v.in-Done.ensures.stands))
      | in-Failed v ↦
          as_tried (has c.args.targets) (IsOfNote (has c.args.targets) (empty_note_sector c.args.stamp)) (NoteTold (empty_note_sector c.args.stamp)) c.args.buf.number c.args.patience.now.left c.write_sector.new.patience.left old new v.with-failed.result c.match-write_sector.failed v.in-Failed.back c.match-write_sector.buf (c.loop-disk.disk + 1) v.failed-is v.buf-is
          (badly_here (has c.args.targets) (IsOfNote (has c.args.targets) (empty_note_sector c.args.stamp)) (NoteTold (empty_note_sector c.args.stamp)) (note_stays (has c.args.targets) (empty_note_sector c.args.stamp)) c.args.buf.number c.args.patience.now.left c.loop-disk.patience.left old now c.loop-disk.failed c.loop-disk.buf c.loop-disk.disk c.loop-disk.invariant c.write_sector.new.patience.left new v.in-Failed.back target
          (note_alone c.write_note-note.result (empty_note_sector c.args.stamp) c.loop-disk.disk c.loop-disk.buf.number c.loop-disk.patience.left c.write_sector.new.patience.left now new (moved.Failed v.in-Failed.back) c.write_note-note.ensures v.in-Failed.ensures.part) v.with-failed.result
          (note_part c.write_note-note.result (empty_note_sector c.args.stamp) c.loop-disk.disk c.loop-disk.buf.number c.loop-disk.patience.left c.write_sector.new.patience.left now new (moved.Failed v.in-Failed.back) c.write_note-note.ensures v.in-Failed.ensures.part (has c.args.targets) target)
          v.with-failed.ensures)
    ]

pub returns : goal.returns
returns g c = record {
  ends = tried_ends (has c.args.targets) (IsOfNote (has c.args.targets) (empty_note_sector c.args.stamp)) (NoteTold (empty_note_sector c.args.stamp)) (λ (written : Disks). Unit {0}) c.args.buf.number c.args.patience.now.left c.loop-disk.patience.left (g.S.Shelf.device c.args.shelf.now) (g.S.Shelf.device c.loop-disk.shelf) c.loop-disk.failed c.loop-disk.buf c.loop-disk.disk c.loop-disk.invariant c.requires.targets (omega arith) tt;
  leaves = c.loop-disk.invariant.leaves;
}
