use Rattle.std.proofs.Common.{length, sym, ap, ◌∙◌, arith}
use Rattle.lvm_num.specs.Record.{record_sectors}
use Rattle.lvm_num.proofs.RecordLemmas.Records.{enough, epoch-is, seq-is, len-is}
use Rattle.lvm_rec.proofs.RecordLemmas.Slot.{slot_is_long}
use Rattle.lvm_rec.proofs.frames.announced.Goals as goal
use Rattle.lvm_rec.proofs.frames.announced.Goals.{then-epoch-eq0-via-then-epoch-eq0, then-epoch-eq0-via-else-epoch-eq0+then-seq-eq0, then-epoch-eq0-via-else-epoch-eq0+else-seq-eq0+then-len-longest}

pub returns-then-bytes-lt-BLOCK_BYTES-clause-none : goal.returns-then-bytes-lt-BLOCK_BYTES-clause-none
returns-then-bytes-lt-BLOCK_BYTES-clause-none c = λ r is.
    let long = slot_is_long c.args.kind c.args.bytes.now r is in
    absurd (omega (arith, long, enough (length r.content)))

pub returns-then-epoch-eq0-clause-none : goal.returns-then-epoch-eq0-clause-none
returns-then-epoch-eq0-clause-none c = λ r is.
    let epoch = c.u64_at-epoch.ensures ∙ epoch-is c.args.kind c.args.bytes.now r is in
    let seq = c.u32_at-seq.ensures ∙ seq-is c.args.kind c.args.bytes.now r is in
    elim c.then-epoch-eq0.branch [
      | then-epoch-eq0-via-then-epoch-eq0 w ↦ is.frames.some_epoch (sym epoch ∙ w.if-epoch-eq0.true)
      | then-epoch-eq0-via-else-epoch-eq0+then-seq-eq0 w ↦ is.frames.some_seq (sym seq ∙ w.if-seq-eq0.true)
      | then-epoch-eq0-via-else-epoch-eq0+else-seq-eq0+then-len-longest w ↦
          let len = c.u32_at-len.ensures ∙ len-is c.args.kind c.args.bytes.now r is in
          absurd (omega (arith, len, w.longest.ensures, w.if-len-longest.true, is.frames.content))
    ]

pub returns-then-bytes-slot_sectors-clause-none : goal.returns-then-bytes-slot_sectors-clause-none
returns-then-bytes-slot_sectors-clause-none c = λ r is.
    let len = c.u32_at-len.ensures ∙ len-is c.args.kind c.args.bytes.now r is in
    let sectors = c.slot_sectors.ensures ∙ ap record_sectors len in
    absurd (omega (arith, sectors, c.if-bytes-slot_sectors.true, slot_is_long c.args.kind c.args.bytes.now r is))
