use Rattle.std.proofs.Common.{◌≡◌, ◌≤◌, ◌∙◌, ℕ, refl, sym, ap, subst, arith}
use Rattle.lvm_range_lines.specs.passed.GroupLines.{EndsUnasked, OfGroup, IsOn, open_in, session_in, Refusal, Reply, Stage}
use Rattle.lvm_range_lines.specs.passed.RefusalVariants as refusal
use Rattle.lvm_range_lines.specs.passed.ReplyVariants as reply
use Rattle.lvm_range_lines.proofs.passed.GroupLines.{refused_ends}
use Rattle.lvm_volume_lines.specs.Closing.{BusyVaryoff, NoVaryoff, UndrainedVaryoff, VaryoffDoes}
use Rattle.lvm_volume_lines.specs.Commands.{HasBrokenOff, HasRested}
use Rattle.lvm_volume_lines.specs.Volumes.{drain_refusal}
use Rattle.lvm_volume_lines.proofs.ClosingLemmas.{closes_clean, varyoff_ends}
use Rattle.lvm_volume_lines.proofs.Commanding.{ready_mid}
use Rattle.lvm_volume_lines.proofs.Carrying.{at_mid}
use Rattle.lvm_volume_lines.proofs.VolumesLemmas.{on_some}
use Rattle.lvm_volume_lines.proofs.EndsLemmas.{undrained_ends}
use Rattle.lvm_volume_lines.proofs.closing.do_varyoff.Goals as goal

pub returns-then-not-is_dirty_on : goal.returns-then-not-is_dirty_on
returns-then-not-is_dirty_on g c =
    closes_clean g.S.Shelf.device c.args.stage c.do_varyoff.result.stage c.args.name c.do_varyoff.result.reply (sym c.is_dirty_on.ensures ∙ c.if-not-is_dirty_on.true) c.do_varyoff.ensures

pub returns-then-not-is_on : goal.returns-then-not-is_on
returns-then-not-is_on g c =
    refused_ends g.S.Shelf.device (λ log. VaryoffDoes c.args.name) ⊥ OfGroup c.args.stage c.refused.result.stage c.refused.result.reply
    c.requires.fits c.requires.between c.refused.ensures.stage refusal.NoGroup c.refused.ensures.reply (λ last is. NoVaryoff (c.if-not-is_on.ensures.off refl) is)

pub returns-then-open-gt0 : goal.returns-then-open-gt0
returns-then-open-gt0 g c =
    let some : 1 ≤ open_in (session_in c.args.stage) = let many = c.if-open-gt0.true in let same = c.open.ensures in omega (arith, many, same) in
    refused_ends g.S.Shelf.device (λ log. VaryoffDoes c.args.name) ⊥ OfGroup c.args.stage c.refused-then-open-gt0.result.stage c.refused-then-open-gt0.result.reply
    c.requires.fits c.requires.between c.refused-then-open-gt0.ensures.stage refusal.Busy c.refused-then-open-gt0.ensures.reply (λ last is. BusyVaryoff (c.if-not-is_on.ensures.on refl) some is)

pub tidy_away-requires-clause-ready : goal.tidy_away-requires-clause-ready
tidy_away-requires-clause-ready g c =
    let none : open_in (session_in c.args.stage) ≡ 0 = let few = c.if-open-gt0.false in let same = c.open.ensures in omega (arith, few, same) in
    let rested = subst (λ (n : ℕ). HasRested g.S.Shelf.device c.args.stage.holder n c.come_to_rest.new.patience.left c.in-Ok.driver) c.whole-patience.ensures c.in-Ok.ensures.rests in
    ready_mid _ _ _ (at_mid g.S.Shelf.device c.args.stage c.requires.fits c.requires.between none c.come_to_rest.new.patience.left c.in-Ok.driver rested 0)

pub returns-in-Ok : goal.returns-in-Ok
returns-in-Ok g c =
    let none : open_in (session_in c.args.stage) ≡ 0 = let few = c.if-open-gt0.false in let same = c.open.ensures in omega (arith, few, same) in
    let left = c.come_to_rest.new.patience.left in
    let rested = subst (λ (n : ℕ). HasRested g.S.Shelf.device c.args.stage.holder n left c.in-Ok.driver) c.whole-patience.ensures c.in-Ok.ensures.rests in
    varyoff_ends g.S.Shelf.device c.args.stage c.requires.fits c.requires.between none left c.in-Ok.driver rested c.tidy_away.result.stage c.tidy_away.result.reply c.tidy_away.ensures c.args.name
    (on_some (IsOn c.args.name) (session_in c.args.stage) rested.turned.core (c.if-not-is_on.ensures.on refl) rested.turned.its) (sym c.is_dirty_on.ensures ∙ c.if-not-is_dirty_on.false)

pub returns-in-Err : goal.returns-in-Err
returns-in-Err g c =
    let none : open_in (session_in c.args.stage) ≡ 0 = let few = c.if-open-gt0.false in let same = c.open.ensures in omega (arith, few, same) in
    let left = c.come_to_rest.new.patience.left in
    let broken = subst (λ (n : ℕ). HasBrokenOff g.S.Shelf.device c.args.stage.holder n left c.in-Err.driver c.in-Err.why) c.whole-patience.ensures c.in-Err.ensures.breaks_off in
    subst (λ (a : Reply). EndsUnasked g.S.Shelf.device (λ log. VaryoffDoes c.args.name) ⊥ OfGroup c.args.stage c.refused-in-Err.result.stage a)
    (sym (c.refused-in-Err.ensures.reply ∙ ap (λ (r : Refusal). reply.Refused r) c.drain_refusal.ensures))
    (subst (λ (s : Stage g.row.S.Denot). EndsUnasked g.S.Shelf.device (λ log. VaryoffDoes c.args.name) ⊥ OfGroup c.args.stage s (reply.Refused (drain_refusal c.in-Err.why))) (sym c.refused-in-Err.ensures.stage)
    (undrained_ends OfGroup (λ old new alone. alone.acts tt) g.S.Shelf.device c.args.stage c.requires.fits c.requires.between none left c.in-Err.driver c.in-Err.why broken c.ended.result (reply.Refused (drain_refusal c.in-Err.why)) c.ended.ensures.ended c.ended.ensures.rooms refl
    (λ log. VaryoffDoes c.args.name)
    (λ last is. UndrainedVaryoff broken.turned.core c.in-Err.why broken.turned.its (on_some (IsOn c.args.name) (session_in c.args.stage) broken.turned.core (c.if-not-is_on.ensures.on refl) broken.turned.its) (sym c.is_dirty_on.ensures ∙ c.if-not-is_dirty_on.false) is)))
