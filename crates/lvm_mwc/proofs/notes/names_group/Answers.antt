use Rattle.std.proofs.Common.{◌==◌, ◌&&◌, ◌∙◌, rules, tests}
use Rattle.std.proofs.lemmas.Iterator.Adapters.{YieldsList-from_rev_slice}
use Rattle.std.proofs.lemmas.Iterator.Search.{any_from_yields_List}
use Rattle.lvm_num.specs.declared.record.NoteEntry.{NoteEntry}
use Rattle.lvm_mwc.proofs.CacheLemmas.{any_from_end}
use Rattle.lvm_mwc.proofs.notes.names_group.Goals as goal

pub returns : goal.returns
returns c =
    any_from_yields_List (λ (e : NoteEntry). e.lv == c.args.lv && e.group == c.args.group) _ _ c.any.result c.any.ensures.ran (YieldsList-from_rev_slice c.args.note.now cc) (λ x b q k. search (rules, tests))
    ∙ any_from_end (λ (e : NoteEntry). e.lv == c.args.lv && e.group == c.args.group) c.args.note.now
