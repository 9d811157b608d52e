use Rattle.std.proofs.Common.{◌≡◌, length, subst, ◌∙◌, arith}
use Rattle.lvm_num.specs.declared.record.NoteEntry.{NoteEntry}
use Rattle.lvm_rec.proofs.NumNoteLemmas.{begun, one_more, ended}
use Rattle.lvm_rec.proofs.notes.write_note.Goals as goal

abbrev no_entry : NoteEntry
no_entry = record { lv = 0; group = 0 }

pub loop-k-preserved : goal.loop-k-preserved
loop-k-preserved c =
    c.put_entry.ensures ∙ one_more c.args.stamp c.args.entries.now c.loop-k.k no_entry c.loop-k.sector (omega arith) (omega arith) c.loop-k.invariant

pub returns : goal.returns
returns c =
    let entries = c.args.entries.now in
    let all : c.loop-k.k ≡ length c.args.entries.now = omega arith in
    let is : c.loop-k.sector ≡ begun c.args.stamp entries (length entries) = subst (λ n. c.loop-k.sector ≡ begun c.args.stamp entries n) all c.loop-k.invariant in
    ended c.args.stamp entries c.loop-k.sector c.write_u64.new.buf c.requires is c.write_u64.ensures
