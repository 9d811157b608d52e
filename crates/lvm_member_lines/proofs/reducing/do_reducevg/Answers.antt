use Rattle.std.proofs.Common.{◌≡◌, ◌≤◌, ◌∙◌, ℕ, refl, sym, ap, subst, arith}
use Rattle.lvm_core.specs.State.{state_of}
use Rattle.lvm_member_laws.proofs.ReducingLemmas.Going.{reduce_goes_on}
use Rattle.lvm_volume_lines.specs.passed.GroupLines.{EndsUnasked, OfGroup, IsOn, open_in, session_in, Refusal, Reply, Stage}
use Rattle.lvm_volume_lines.specs.passed.RefusalVariants as refusal
use Rattle.lvm_volume_lines.specs.passed.ReplyVariants as reply
use Rattle.lvm_volume_lines.proofs.passed.GroupLines.{refused_ends}
use Rattle.lvm_volume_lines.specs.Commands.{HasBrokenOff, HasRested}
use Rattle.lvm_member_lines.specs.Reducing.{BusyReducevg, ReducevgDoes, NoGroupForReducevg, UndrainedReducevg}
use Rattle.lvm_volume_lines.specs.Volumes.{drain_refusal}
use Rattle.lvm_volume_lines.proofs.Carrying.{at_mid, drains}
use Rattle.lvm_member_lines.proofs.ReducingLemmas.Doing.{reducevg_does}
use Rattle.lvm_member_lines.proofs.ReducingLemmas.Ending.{reduce_ends_so}
use Rattle.lvm_member_lines.proofs.ReducingLemmas.Giving.{reduce_known}
use Rattle.lvm_volume_lines.proofs.Commanding.{rows_mid}
use Rattle.lvm_volume_lines.proofs.EndsLemmas.{undrained_ends}
use Rattle.lvm_volume_lines.proofs.VolumesLemmas.{on_some}
use Rattle.lvm_member_lines.proofs.reducing.do_reducevg.Goals as goal

pub returns-then-not-is_on : goal.returns-then-not-is_on
returns-then-not-is_on g c =
    refused_ends g.S.Shelf.device (λ log. ReducevgDoes c.args.name c.args.disks.now) ⊥ OfGroup c.args.stage c.refused.result.stage c.refused.result.reply
    c.requires.fits c.requires.between c.refused.ensures.stage refusal.NoGroup c.refused.ensures.reply (λ last is. NoGroupForReducevg (c.if-not-is_on.ensures.off refl) is)

pub returns-then-open-gt0 : goal.returns-then-open-gt0
returns-then-open-gt0 g c =
    let some : 1 ≤ open_in (session_in c.args.stage) = let many = c.if-open-gt0.true in let same = c.open.ensures in omega (arith, many, same) in
    refused_ends g.S.Shelf.device (λ log. ReducevgDoes c.args.name c.args.disks.now) ⊥ OfGroup c.args.stage c.refused-then-open-gt0.result.stage c.refused-then-open-gt0.result.reply
    c.requires.fits c.requires.between c.refused-then-open-gt0.ensures.stage refusal.Busy c.refused-then-open-gt0.ensures.reply (λ last is. BusyReducevg (c.if-not-is_on.ensures.on refl) some is)

pub reduce_group-requires-clause-rows : goal.reduce_group-requires-clause-rows
reduce_group-requires-clause-rows g c =
    let none : open_in (session_in c.args.stage) ≡ 0 = let few = c.if-open-gt0.false in let same = c.open.ensures in omega (arith, few, same) in
    let rested = subst (λ (n : ℕ). HasRested g.S.Shelf.device c.args.stage.holder n c.come_to_rest.new.patience.left c.in-Ok.driver) c.whole-patience.ensures c.in-Ok.ensures.rests in
    rows_mid _ _ _ (at_mid g.S.Shelf.device c.args.stage c.requires.fits c.requires.between none c.come_to_rest.new.patience.left c.in-Ok.driver rested 0)

pub returns-in-Ok : goal.returns-in-Ok
returns-in-Ok g c =
    let none : open_in (session_in c.args.stage) ≡ 0 = let few = c.if-open-gt0.false in let same = c.open.ensures in omega (arith, few, same) in
    let left = c.come_to_rest.new.patience.left in
    let driver = c.in-Ok.driver in
    let rested = subst (λ (n : ℕ). HasRested g.S.Shelf.device c.args.stage.holder n left driver) c.whole-patience.ensures c.in-Ok.ensures.rests in
    let done = c.reduce_group.ensures in
    let mid = state_of g.S.Shelf.device driver in
    let new = state_of g.S.Shelf.device done.left in
    reduce_ends_so g.S.Shelf.device c.args.stage c.requires.fits c.requires.between none left driver rested OfGroup (λ old new alone. alone.acts tt) c.args.disks.now
    c.reduce_group.result.stage c.reduce_group.result.reply done g.met.S.Shelf.sectors_are_whole
    (reduce_known c.args.disks.now left mid new rested.settled.power (record { requests = rested.settled.quiet.requests; copy = rested.settled.quiet.copy }) done.given done.reduced.gives)
    (λ m may. reduce_goes_on rested.turned.core.history.run m c.args.disks.now left done.after mid new done.given may done.reduced)
    (λ log. ReducevgDoes c.args.name c.args.disks.now)
    (λ last is. reducevg_does c.args.name c.args.disks.now rested.turned.core left mid done.given _ _ rested.turned.its (on_some (IsOn c.args.name) (session_in c.args.stage) rested.turned.core (c.if-not-is_on.ensures.on refl) rested.turned.its)
    (drains g.S.Shelf.device c.args.stage c.requires.fits c.requires.between none left driver rested last) is)

pub returns-in-Err : goal.returns-in-Err
returns-in-Err g c =
    let none : open_in (session_in c.args.stage) ≡ 0 = let few = c.if-open-gt0.false in let same = c.open.ensures in omega (arith, few, same) in
    let left = c.come_to_rest.new.patience.left in
    let broken = subst (λ (n : ℕ). HasBrokenOff g.S.Shelf.device c.args.stage.holder n left c.in-Err.driver c.in-Err.why) c.whole-patience.ensures c.in-Err.ensures.breaks_off in
    subst (λ (a : Reply). EndsUnasked g.S.Shelf.device (λ log. ReducevgDoes c.args.name c.args.disks.now) ⊥ OfGroup c.args.stage c.refused-in-Err.result.stage a)
    (sym (c.refused-in-Err.ensures.reply ∙ ap (λ (r : Refusal). reply.Refused r) c.drain_refusal.ensures))
    (subst (λ (s : Stage g.row.S.Denot). EndsUnasked g.S.Shelf.device (λ log. ReducevgDoes c.args.name c.args.disks.now) ⊥ OfGroup c.args.stage s (reply.Refused (drain_refusal c.in-Err.why)))
    (sym c.refused-in-Err.ensures.stage)
    (undrained_ends OfGroup (λ old new alone. alone.acts tt) g.S.Shelf.device c.args.stage c.requires.fits c.requires.between none left c.in-Err.driver c.in-Err.why broken c.ended.result (reply.Refused (drain_refusal c.in-Err.why)) c.ended.ensures.ended c.ended.ensures.rooms refl
    (λ log. ReducevgDoes c.args.name c.args.disks.now)
    (λ last is. UndrainedReducevg broken.turned.core c.in-Err.why broken.turned.its (on_some (IsOn c.args.name) (session_in c.args.stage) broken.turned.core (c.if-not-is_on.ensures.on refl) broken.turned.its) is)))
