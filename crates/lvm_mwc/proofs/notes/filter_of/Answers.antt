use Rattle.std.proofs.Common.{List, arith, subst}
use Rattle.std.proofs.lemmas.List.{take_all}
use Rattle.lvm_num.specs.declared.record.NoteEntry.{NoteEntry}
use Rattle.lvm_mwc.specs.Filters.{PassesAll}
use Rattle.lvm_mwc.proofs.notes.filter_of.Goals as goal

pub returns : goal.returns
returns c = subst (λ (note : List NoteEntry). PassesAll c.loop-entry.filter note) (take_all c.loop-entry.entry-index c.args.note.now (omega arith)) c.loop-entry.invariant.pass
