use Rattle.std.proofs.Common.{◌≡◌, ◌∷◌, [], ◌++◌, List, length, sym, ap, ◌∙◌, append-nil, length-append, arith}
use Rattle.arrayvec.specs.ArrayVec.{ArrayVec}
use Rattle.lvm_num.specs.declared.record.NoteEntry.{NoteEntry}
use Rattle.lvm_num.specs.Note.{entry_at, entries_below}
use Rattle.lvm_num.proofs.NoteLemmas.{entries_below-more, entries_below-none}
use Rattle.lvm_rec.proofs.notes.read_note.Goals as goal
use Rattle.lvm_rec.proofs.notes.read_note.Goals.{in-Some, in_default}

pub loop-k-init : goal.loop-k-init
loop-k-init c = (c.new-entries.ensures ∙ sym (entries_below-none c.args.sector.now), omega (arith, ap (length {A = NoteEntry}) c.new-entries.ensures))

pub loop-k-preserved : goal.loop-k-preserved
loop-k-preserved c =
    let sector = c.args.sector.now in
    let k = c.loop-k.k in
    let more = entries_below-more sector k in
    elim c.match-entry_at.branch [
      | in-Some w ↦
          let items = ap (λ (v : ArrayVec NoteEntry). v.items) w.entries-is ∙ w.push.ensures.items in
          let here : w.in-Some.entry ∷ [] ≡ entry_at sector k = w.in-Some.ensures in
          let size = ap (length {A = NoteEntry}) items in (
            items ∙ ap (λ (l : List NoteEntry). l ++ w.in-Some.entry ∷ []) c.loop-k.invariant.0 ∙ ap (λ (l : List NoteEntry). entries_below sector k ++ l) here ∙ sym more,
            omega (arith, size, c.loop-k.invariant.1, length-append c.loop-k.entries.items (w.in-Some.entry ∷ [])),
          )
      | in_default w ↦
          let items = ap (λ (v : ArrayVec NoteEntry). v.items) w.entries-is in
          let here : [] ≡ entry_at sector k = w.in_default.ensures in
          let size = ap (length {A = NoteEntry}) items in (
            items ∙ c.loop-k.invariant.0 ∙ sym (append-nil (entries_below sector k)) ∙ ap (λ (l : List NoteEntry). entries_below sector k ++ l) here ∙ sym more,
            omega (arith, size, c.loop-k.invariant.1),
          )
    ]
