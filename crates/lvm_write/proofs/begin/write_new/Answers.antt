use Rattle.std.proofs.Common.{◌≤◌, [], ◌∷◌, length}
use Rattle.lvm_num.specs.declared.record.Kind.TheVariants as kind
use Rattle.lvm_num.specs.Buffer.{Buffer}
use Rattle.lvm_num.specs.Disks.{has}
use Rattle.lvm_write.specs.declared.begin.Begun.TheVariants as begun
use Rattle.lvm_write.specs.Beginning.{Beginning, TheDescriptor, TheStatus, TheNotes, new_beginning, new_order, brought, PartIsWritten}
use Rattle.lvm_write.specs.Ends.{BothFlip}
use Rattle.lvm_write.specs.Runs.{OneGives, ManyGives}
use Rattle.lvm_write.proofs.RunsLemmas.Answering.{same_gives}
use Rattle.lvm_write.proofs.RunsLemmas.Chain.{first_gives, more_gives, stopped_gives}
use Rattle.lvm_write.proofs.BeginningLemmas.{still_stands}
use Rattle.lvm_write.proofs.EndsLemmas.{not_ended}
use Rattle.lvm_write.proofs.begin.write_new.Goals as goal

pub returns-in_default : goal.returns-in_default
returns-in_default g c =
    let b : Beginning = new_beginning c.args.epoch c.args.descriptor.now c.args.status.now (has c.args.targets) c.args.homes.now in
    let gives : ManyGives b new_order c.args.buf.number c.args.patience.now.left c.forget_notes.new.patience.left (g.S.Shelf.device c.args.shelf.now) (g.S.Shelf.device c.forget_notes.new.shelf) c.forget_notes.result =
    stopped_gives b (TheNotes ∷ []) (TheStatus ∷ TheDescriptor ∷ []) c.args.buf.number c.args.patience.now.left c.forget_notes.new.patience.left (g.S.Shelf.device c.args.shelf.now) (g.S.Shelf.device c.forget_notes.new.shelf) c.forget_notes.result c.in_default.not-Ended
    (first_gives b TheNotes c.args.buf.number c.args.patience.now.left c.forget_notes.new.patience.left (g.S.Shelf.device c.args.shelf.now) (g.S.Shelf.device c.forget_notes.new.shelf) c.forget_notes.result c.forget_notes.ensures.gives) in
    record { gives = gives; homes = not_ended c.forget_notes.result (λ (back : Buffer). BothFlip (has c.args.targets) c.args.homes.now c.args.homes.now) c.in_default.not-Ended }

pub returns-in_default-put_record : goal.returns-in_default-put_record
returns-in_default-put_record g c =
    let b : Beginning = new_beginning c.args.epoch c.args.descriptor.now c.args.status.now (has c.args.targets) c.args.homes.now in
    let fits : length c.args.status.now ≤ 31740 = c.requires.status in
    let gives : ManyGives b new_order c.args.buf.number c.args.patience.now.left c.put_record.new.patience.left (g.S.Shelf.device c.args.shelf.now) (g.S.Shelf.device c.put_record.new.shelf) c.put_record.result =
    stopped_gives b (TheNotes ∷ TheStatus ∷ []) (TheDescriptor ∷ []) c.args.buf.number c.args.patience.now.left c.put_record.new.patience.left (g.S.Shelf.device c.args.shelf.now) (g.S.Shelf.device c.put_record.new.shelf) c.put_record.result c.in_default-put_record.not-Ended
    ((let many : ManyGives b (TheNotes ∷ []) c.args.buf.number c.args.patience.now.left c.forget_notes.new.patience.left (g.S.Shelf.device c.args.shelf.now) (g.S.Shelf.device c.forget_notes.new.shelf) (begun.Ended c.in-Ended.buf) = first_gives b TheNotes c.args.buf.number c.args.patience.now.left c.forget_notes.new.patience.left (g.S.Shelf.device c.args.shelf.now) (g.S.Shelf.device c.forget_notes.new.shelf) (begun.Ended c.in-Ended.buf) c.in-Ended.ensures.gives in
    let one : OneGives b.targets (brought b TheStatus) (PartIsWritten b TheStatus) c.in-Ended.buf.number c.forget_notes.new.patience.left c.put_record.new.patience.left (g.S.Shelf.device c.forget_notes.new.shelf) (g.S.Shelf.device c.put_record.new.shelf) c.put_record.result = c.put_record.ensures.gives in
    let keeps = one.does.keeps in
    more_gives b (TheNotes ∷ []) TheStatus c.args.buf.number c.args.patience.now.left c.forget_notes.new.patience.left c.put_record.new.patience.left (g.S.Shelf.device c.args.shelf.now) (g.S.Shelf.device c.forget_notes.new.shelf) (g.S.Shelf.device c.put_record.new.shelf) c.in-Ended.buf c.put_record.result many one
    ((λ d target. still_stands b fits TheNotes TheStatus (g.S.Shelf.device c.forget_notes.new.shelf) (g.S.Shelf.device c.put_record.new.shelf) d (λ e. absurd (cc (e))) keeps (many.how.stand.0 d target)), tt))) in
    record { gives = gives; homes = not_ended c.put_record.result (λ (back : Buffer). BothFlip (has c.args.targets) c.args.homes.now c.put_record.new.homes) c.in_default-put_record.not-Ended }

pub returns-clause-gives : goal.returns-clause-gives
returns-clause-gives g c =
    let b : Beginning = new_beginning c.args.epoch c.args.descriptor.now c.args.status.now (has c.args.targets) c.args.homes.now in
    let fits : length c.args.status.now ≤ 31740 = c.requires.status in
    let gives : ManyGives b new_order c.args.buf.number c.args.patience.now.left c.put_record-2.new.patience.left (g.S.Shelf.device c.args.shelf.now) (g.S.Shelf.device c.put_record-2.new.shelf) c.put_record-2.result =
    (let many : ManyGives b (TheNotes ∷ TheStatus ∷ []) c.args.buf.number c.args.patience.now.left c.put_record.new.patience.left (g.S.Shelf.device c.args.shelf.now) (g.S.Shelf.device c.put_record.new.shelf) (begun.Ended c.in-Ended-put_record.buf) = (let many : ManyGives b (TheNotes ∷ []) c.args.buf.number c.args.patience.now.left c.forget_notes.new.patience.left (g.S.Shelf.device c.args.shelf.now) (g.S.Shelf.device c.forget_notes.new.shelf) (begun.Ended c.in-Ended.buf) = first_gives b TheNotes c.args.buf.number c.args.patience.now.left c.forget_notes.new.patience.left (g.S.Shelf.device c.args.shelf.now) (g.S.Shelf.device c.forget_notes.new.shelf) (begun.Ended c.in-Ended.buf) c.in-Ended.ensures.gives in
    let one : OneGives b.targets (brought b TheStatus) (PartIsWritten b TheStatus) c.in-Ended.buf.number c.forget_notes.new.patience.left c.put_record.new.patience.left (g.S.Shelf.device c.forget_notes.new.shelf) (g.S.Shelf.device c.put_record.new.shelf) (begun.Ended c.in-Ended-put_record.buf) = c.in-Ended-put_record.ensures.gives in
    let keeps = one.does.keeps in
    more_gives b (TheNotes ∷ []) TheStatus c.args.buf.number c.args.patience.now.left c.forget_notes.new.patience.left c.put_record.new.patience.left (g.S.Shelf.device c.args.shelf.now) (g.S.Shelf.device c.forget_notes.new.shelf) (g.S.Shelf.device c.put_record.new.shelf) c.in-Ended.buf (begun.Ended c.in-Ended-put_record.buf) many one
    ((λ d target. still_stands b fits TheNotes TheStatus (g.S.Shelf.device c.forget_notes.new.shelf) (g.S.Shelf.device c.put_record.new.shelf) d (λ e. absurd (cc (e))) keeps (many.how.stand.0 d target)), tt)) in
    let one : OneGives b.targets (brought b TheDescriptor) (PartIsWritten b TheDescriptor) c.in-Ended-put_record.buf.number c.put_record.new.patience.left c.put_record-2.new.patience.left (g.S.Shelf.device c.put_record.new.shelf) (g.S.Shelf.device c.put_record-2.new.shelf) c.put_record-2.result = (same_gives kind.Descriptor kind.Status (has c.args.targets) c.args.homes.now c.put_record.new.homes b.descriptor (has c.args.targets) c.in-Ended-put_record.buf.number c.put_record.new.patience.left c.put_record-2.new.patience.left (g.S.Shelf.device c.put_record.new.shelf) (g.S.Shelf.device c.put_record-2.new.shelf) c.put_record-2.result (λ e. absurd (cc (e))) c.in-Ended-put_record.ensures.homes (c.put_record-2.ensures.gives)) in
    let keeps = one.does.keeps in
    more_gives b (TheNotes ∷ TheStatus ∷ []) TheDescriptor c.args.buf.number c.args.patience.now.left c.put_record.new.patience.left c.put_record-2.new.patience.left (g.S.Shelf.device c.args.shelf.now) (g.S.Shelf.device c.put_record.new.shelf) (g.S.Shelf.device c.put_record-2.new.shelf) c.in-Ended-put_record.buf c.put_record-2.result many one
    ((λ d target. still_stands b fits TheNotes TheDescriptor (g.S.Shelf.device c.put_record.new.shelf) (g.S.Shelf.device c.put_record-2.new.shelf) d (λ e. absurd (cc (e))) keeps (many.how.stand.0 d target)), ((λ d target. still_stands b fits TheStatus TheDescriptor (g.S.Shelf.device c.put_record.new.shelf) (g.S.Shelf.device c.put_record-2.new.shelf) d (λ e. absurd (cc (e))) keeps (many.how.stand.1.0 d target)), tt))) in
    gives
