use Rattle.std.proofs.Common.{List, sym, subst, drop, ◌*◌}
use Rattle.std.specs.Prelude.{All}
use Rattle.std.proofs.lemmas.List.Elements.{All-drop, All-take}
use Rattle.lvm_num.specs.declared.place.Pp.{Pp}
use Rattle.lvm_status.specs.Calls.{IsMarkable}
use Rattle.lvm_session.specs.Marks.{WantsStale}
use Rattle.lvm_calls.proofs.MarksLemmas.{markable_on, sound_after}
use Rattle.lvm_calls.specs.Left.{is_left_among}
use Rattle.lvm_calls.proofs.LeftLemmas.{below_more}
use Rattle.lvm_calls.proofs.behind.mark_volume.Goals as goal

pub mark_copies-requires-clause-sound : goal.mark_copies-requires-clause-sound
mark_copies-requires-clause-sound c = sound_after _ c.args.updater.now c.loop-lp.updater c.loop-lp.invariant c.requires.sound

pub mark_copies-requires-clause-markable : goal.mark_copies-requires-clause-markable
mark_copies-requires-clause-markable c =
    let row = c.args.volume.now in
    let old = c.args.updater.now.wanted in
    let all = All-take (IsMarkable old) row.copies (drop (c.loop-lp.lp * row.copies) row.map) (All-drop (IsMarkable old) (c.loop-lp.lp * row.copies) row.map c.requires.markable) in
    subst (All (IsMarkable c.loop-lp.updater.wanted)) (sym c.copies_of.ensures) (λ k d less. markable_on old c.loop-lp.updater.wanted _ c.loop-lp.invariant.rows (all k d less))

pub loop-lp-preserved : goal.loop-lp-preserved
loop-lp-preserved c =
    below_more c.args.updater.now c.loop-lp.updater c.mark_copies.new.updater c.args.volume.now c.loop-lp.lp c.loop-lp.invariant
    (subst (λ (ps : List Pp). WantsStale (is_left_among c.loop-lp.updater ps) c.loop-lp.updater c.mark_copies.new.updater) c.copies_of.ensures c.mark_copies.ensures)
