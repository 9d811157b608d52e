use Rattle.std.proofs.Common.{◌≡◌, ◌*◌, length, take, drop, sym, ◌∙◌, arith}
use Rattle.std.proofs.lemmas.Bool.{false≢true}
use Rattle.lvm_num.specs.Record.{record_sectors, frame}
use Rattle.lvm_num.proofs.RecordLemmas.Records.{length-frame}
use Rattle.lvm_rec.proofs.RecordLemmas.Slot.{joined-none, front-more, front-piece}
use Rattle.lvm_rec.proofs.frames.begins_with.Goals as goal

pub loop-k-init : goal.loop-k-init
loop-k-init c = sym (joined-none (frame c.args.kind c.args.stamp c.args.content.now) 0)

pub returns-then-not-stands_at : goal.returns-then-not-stands_at
returns-then-not-stands_at c = (
  λ e. absurd (false≢true e),
  λ all.
      let kind = c.args.kind in
      let stamp = c.args.stamp in
      let content = c.args.content.now in
      let bytes = c.args.bytes.now in
      let k = c.loop-k.k in
      let here : take 512 (drop (512 * k) bytes) ≡ frame kind stamp content k =
      front-piece (frame kind stamp content) bytes (record_sectors (length content)) k (length-frame kind stamp content) (omega arith) all in
      sym c.if-not-stands_at.true ∙ c.stands_at.ensures.1 (here ∙ sym c.frame.ensures),
)

pub loop-k-preserved : goal.loop-k-preserved
loop-k-preserved c =
    front-more (frame c.args.kind c.args.stamp c.args.content.now) c.args.bytes.now c.loop-k.k c.loop-k.invariant
    (c.stands_at.ensures.0 c.if-not-stands_at.false ∙ c.frame.ensures)
