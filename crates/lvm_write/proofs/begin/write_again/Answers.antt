use Rattle.std.proofs.Common.{◌≤◌, ℕ, Bool, List, [], ◌∷◌, length, sym, subst}
use Rattle.std.specs.Prelude.{if◌then◌else◌}
use Rattle.lvm_num.specs.declared.record.Kind.TheVariants as kind
use Rattle.lvm_num.specs.Buffer.{Buffer}
use Rattle.lvm_num.specs.Disks.{has}
use Rattle.lvm_disk.specs.Device.{Device}
use Rattle.lvm_kept.specs.Torn.{IsOfRecord}
use Rattle.lvm_rec.specs.declared.homes.Homes.{Homes}
use Rattle.lvm_rec.specs.Homes.{Flips}
use Rattle.lvm_write.specs.Written.{write_of, StandsTold}
use Rattle.lvm_write.specs.declared.begin.Begun.{Begun}
use Rattle.lvm_write.specs.declared.begin.Begun.TheVariants as begun
use Rattle.lvm_write.specs.Beginning.{Beginning, Part, TheDescriptor, TheStatus, TheNotes, again_beginning, again_order, brought, PartIsWritten}
use Rattle.lvm_write.specs.Ends.{BothFlip}
use Rattle.lvm_write.specs.Runs.{OneGives, ManyGives}
use Rattle.lvm_write.proofs.RunsLemmas.Answering.{same_gives}
use Rattle.lvm_write.proofs.RunsLemmas.Chain.{first_gives, more_gives, stopped_gives}
use Rattle.lvm_write.proofs.BeginningLemmas.{still_stands}
use Rattle.lvm_write.proofs.EndsLemmas.{not_ended}
use Rattle.lvm_write.proofs.begin.write_again.Goals as goal

abbrev last_part : Bool → List Part
last_part forget = if forget then TheNotes ∷ [] else []

-- the descriptor was written, and then the status, whose slots the write of the descriptor left
records_give :
    (b : Beginning) (next : Homes) (number before between after : ℕ) (old mid new : Device) (buf : Buffer) (result : Begun) → length b.status.content ≤ 31740
    → OneGives b.targets (brought b TheDescriptor) (PartIsWritten b TheDescriptor) number before between old mid (begun.Ended buf) → Flips kind.Descriptor b.targets b.homes next
    → OneGives b.targets (IsOfRecord (write_of kind.Status b.status b.targets next)) (StandsTold (write_of kind.Status b.status b.targets next)) buf.number between after mid new result
    → ManyGives b (TheDescriptor ∷ TheStatus ∷ []) number before after old new result
records_give b next number before between after old mid new buf result fits described flips stated =
    let many : ManyGives b (TheDescriptor ∷ []) number before between old mid (begun.Ended buf) = first_gives b TheDescriptor number before between old mid (begun.Ended buf) described in
    let one : OneGives b.targets (brought b TheStatus) (PartIsWritten b TheStatus) buf.number between after mid new result =
    same_gives kind.Status kind.Descriptor b.targets b.homes next b.status b.targets buf.number between after mid new result (λ e. absurd (cc (e))) flips stated in
    more_gives b (TheDescriptor ∷ []) TheStatus number before between after old mid new buf result many one
    ((λ d target. still_stands b fits TheDescriptor TheStatus mid new d (λ e. absurd (cc (e))) one.does.keeps (many.how.stand.0 d target)), tt)

pub returns-in_default : goal.returns-in_default
returns-in_default g c =
    let b : Beginning = again_beginning c.args.epoch c.args.descriptor.now c.args.status.now (has c.args.targets) c.args.homes.now in
    let gives : ManyGives b (again_order c.args.forget) c.args.buf.number c.args.patience.now.left c.put_record.new.patience.left (g.S.Shelf.device c.args.shelf.now) (g.S.Shelf.device c.put_record.new.shelf) c.put_record.result =
    stopped_gives b (TheDescriptor ∷ []) (TheStatus ∷ last_part c.args.forget) c.args.buf.number c.args.patience.now.left c.put_record.new.patience.left (g.S.Shelf.device c.args.shelf.now) (g.S.Shelf.device c.put_record.new.shelf) c.put_record.result c.in_default.not-Ended
    (first_gives b TheDescriptor c.args.buf.number c.args.patience.now.left c.put_record.new.patience.left (g.S.Shelf.device c.args.shelf.now) (g.S.Shelf.device c.put_record.new.shelf) c.put_record.result c.put_record.ensures.gives) in
    record { gives = gives; homes = not_ended c.put_record.result (λ (back : Buffer). BothFlip (has c.args.targets) c.args.homes.now c.put_record.new.homes) c.in_default.not-Ended }

pub returns-in_default-put_record : goal.returns-in_default-put_record
returns-in_default-put_record g c =
    let b : Beginning = again_beginning c.args.epoch c.args.descriptor.now c.args.status.now (has c.args.targets) c.args.homes.now in
    let gives : ManyGives b (again_order c.args.forget) c.args.buf.number c.args.patience.now.left c.put_record-2.new.patience.left (g.S.Shelf.device c.args.shelf.now) (g.S.Shelf.device c.put_record-2.new.shelf) c.put_record-2.result =
    stopped_gives b (TheDescriptor ∷ TheStatus ∷ []) (last_part c.args.forget) c.args.buf.number c.args.patience.now.left c.put_record-2.new.patience.left (g.S.Shelf.device c.args.shelf.now) (g.S.Shelf.device c.put_record-2.new.shelf) c.put_record-2.result c.in_default-put_record.not-Ended
    (records_give b c.put_record.new.homes c.args.buf.number c.args.patience.now.left c.put_record.new.patience.left c.put_record-2.new.patience.left (g.S.Shelf.device c.args.shelf.now) (g.S.Shelf.device c.put_record.new.shelf) (g.S.Shelf.device c.put_record-2.new.shelf) c.in-Ended.buf c.put_record-2.result
    c.requires.status c.in-Ended.ensures.gives c.in-Ended.ensures.homes c.put_record-2.ensures.gives) in
    record { gives = gives; homes = not_ended c.put_record-2.result (λ (back : Buffer). BothFlip (has c.args.targets) c.args.homes.now c.put_record-2.new.homes) c.in_default-put_record.not-Ended }

pub returns-then-forget-clause-gives : goal.returns-then-forget-clause-gives
returns-then-forget-clause-gives g c =
    let b : Beginning = again_beginning c.args.epoch c.args.descriptor.now c.args.status.now (has c.args.targets) c.args.homes.now in
    let many : ManyGives b (TheDescriptor ∷ TheStatus ∷ []) c.args.buf.number c.args.patience.now.left c.put_record-2.new.patience.left (g.S.Shelf.device c.args.shelf.now) (g.S.Shelf.device c.put_record-2.new.shelf) (begun.Ended c.in-Ended-put_record.buf) =
    records_give b c.put_record.new.homes c.args.buf.number c.args.patience.now.left c.put_record.new.patience.left c.put_record-2.new.patience.left (g.S.Shelf.device c.args.shelf.now) (g.S.Shelf.device c.put_record.new.shelf) (g.S.Shelf.device c.put_record-2.new.shelf) c.in-Ended.buf (begun.Ended c.in-Ended-put_record.buf)
    c.requires.status c.in-Ended.ensures.gives c.in-Ended.ensures.homes c.in-Ended-put_record.ensures.gives in
    let one : OneGives b.targets (brought b TheNotes) (PartIsWritten b TheNotes) c.in-Ended-put_record.buf.number c.put_record-2.new.patience.left c.forget_notes.new.patience.left (g.S.Shelf.device c.put_record-2.new.shelf) (g.S.Shelf.device c.forget_notes.new.shelf) c.forget_notes.result = c.forget_notes.ensures.gives in
    let fits : length c.args.status.now ≤ 31740 = c.requires.status in
    let keeps = one.does.keeps in
    subst (λ (forget : Bool). ManyGives b (again_order forget) c.args.buf.number c.args.patience.now.left c.forget_notes.new.patience.left (g.S.Shelf.device c.args.shelf.now) (g.S.Shelf.device c.forget_notes.new.shelf) c.forget_notes.result) (sym c.if-forget.true)
    (more_gives b (TheDescriptor ∷ TheStatus ∷ []) TheNotes c.args.buf.number c.args.patience.now.left c.put_record-2.new.patience.left c.forget_notes.new.patience.left (g.S.Shelf.device c.args.shelf.now) (g.S.Shelf.device c.put_record-2.new.shelf) (g.S.Shelf.device c.forget_notes.new.shelf) c.in-Ended-put_record.buf c.forget_notes.result many one
    ((λ d target. still_stands b fits TheDescriptor TheNotes (g.S.Shelf.device c.put_record-2.new.shelf) (g.S.Shelf.device c.forget_notes.new.shelf) d (λ e. absurd (cc (e))) keeps (many.how.stand.0 d target)), ((λ d target. still_stands b fits TheStatus TheNotes (g.S.Shelf.device c.put_record-2.new.shelf) (g.S.Shelf.device c.forget_notes.new.shelf) d (λ e. absurd (cc (e))) keeps (many.how.stand.1.0 d target)), tt)))

pub returns-else-forget-clause-gives : goal.returns-else-forget-clause-gives
returns-else-forget-clause-gives g c =
    let b : Beginning = again_beginning c.args.epoch c.args.descriptor.now c.args.status.now (has c.args.targets) c.args.homes.now in
    subst (λ (forget : Bool). ManyGives b (again_order forget) c.args.buf.number c.args.patience.now.left c.put_record-2.new.patience.left (g.S.Shelf.device c.args.shelf.now) (g.S.Shelf.device c.put_record-2.new.shelf) (begun.Ended c.in-Ended-put_record.buf)) (sym c.if-forget.false)
    (records_give b c.put_record.new.homes c.args.buf.number c.args.patience.now.left c.put_record.new.patience.left c.put_record-2.new.patience.left (g.S.Shelf.device c.args.shelf.now) (g.S.Shelf.device c.put_record.new.shelf) (g.S.Shelf.device c.put_record-2.new.shelf) c.in-Ended.buf (begun.Ended c.in-Ended-put_record.buf)
    c.requires.status c.in-Ended.ensures.gives c.in-Ended.ensures.homes c.in-Ended-put_record.ensures.gives)
