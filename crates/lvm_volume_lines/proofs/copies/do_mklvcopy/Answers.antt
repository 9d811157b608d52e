use Rattle.std.proofs.Common.{◌≡◌, ◌≤◌, ◌∙◌, ℕ, refl, sym, ap, subst, arith}
use Rattle.lvm_core.specs.State.{state_of}
use Rattle.lvm_core.specs.Sound.{HaveAllLanded}
use Rattle.lvm_volume_lines.specs.passed.Posts.{AreAnswered}
use Rattle.lvm_volume_lines.specs.passed.Volumes.{MklvcopyGives, to_add}
use Rattle.lvm_volume_lines.specs.passed.TieCommands.{added_by}
use Rattle.lvm_volume_lines.proofs.passed.TieCommands.{mklvcopy_goes_on}
use Rattle.lvm_volume_lines.specs.passed.GroupLines.{EndsUnasked, OfGroup, open_in, session_in, Refusal, Reply, Stage}
use Rattle.lvm_volume_lines.specs.passed.RefusalVariants as refusal
use Rattle.lvm_volume_lines.specs.passed.ReplyVariants as reply
use Rattle.lvm_volume_lines.proofs.passed.GroupLines.{refused_ends, landed_bears, answered_bears}
use Rattle.lvm_volume_lines.specs.Commands.{HasBrokenOff, HasRested}
use Rattle.lvm_volume_lines.specs.Volumes.{drain_refusal}
use Rattle.lvm_volume_lines.proofs.Commanding.{rows_mid}
use Rattle.lvm_volume_lines.proofs.Carrying.{at_mid, drains}
use Rattle.lvm_volume_lines.proofs.OfVolumes.{ends_so}
use Rattle.lvm_volume_lines.proofs.EndsLemmas.{undrained_ends}
use Rattle.lvm_volume_lines.proofs.ServingLemmas.{may_again, unnamed_ends}
use Rattle.lvm_volume_lines.specs.Copies.{BusyMklvcopy, MklvcopyDoes, NoGroupForMklvcopy, NoVolumeForMklvcopy, UndrainedMklvcopy}
use Rattle.lvm_volume_lines.proofs.Giving.{mklvcopy_bears, mklvcopy_facts, mklvcopy_shape}
use Rattle.lvm_volume_lines.proofs.CopiesLemmas.{mklvcopy_does}
use Rattle.lvm_volume_lines.proofs.copies.do_mklvcopy.Goals as goal

pub returns-then-is_off : goal.returns-then-is_off
returns-then-is_off g c =
    refused_ends g.S.Shelf.device (λ log. MklvcopyDoes c.args.name c.args.copies) ⊥ OfGroup c.args.stage c.refused.result.stage c.refused.result.reply
    c.requires.fits c.requires.between c.refused.ensures.stage refusal.NoGroup c.refused.ensures.reply (λ last is. NoGroupForMklvcopy (c.is_off.ensures.0 c.if-is_off.true) is)

pub returns-then-open-gt0 : goal.returns-then-open-gt0
returns-then-open-gt0 g c =
    let some : 1 ≤ open_in (session_in c.args.stage) = let many = c.if-open-gt0.true in let same = c.open.ensures in omega (arith, many, same) in
    refused_ends g.S.Shelf.device (λ log. MklvcopyDoes c.args.name c.args.copies) ⊥ OfGroup c.args.stage c.refused-then-open-gt0.result.stage c.refused-then-open-gt0.result.reply
    c.requires.fits c.requires.between c.refused-then-open-gt0.ensures.stage refusal.Busy c.refused-then-open-gt0.ensures.reply (λ last is. BusyMklvcopy some is)

pub go_on-requires-clause-rows : goal.go_on-requires-clause-rows
go_on-requires-clause-rows g c =
    let none : open_in (session_in c.args.stage) ≡ 0 = let few = c.if-open-gt0.false in let same = c.open.ensures in omega (arith, few, same) in
    let rested = subst (λ (n : ℕ). HasRested g.S.Shelf.device c.args.stage.holder n c.come_to_rest.new.patience.left c.in-Ok.driver) c.whole-patience.ensures c.in-Ok.ensures.rests in
    rows_mid _ _ _ (at_mid g.S.Shelf.device c.args.stage c.requires.fits c.requires.between none c.come_to_rest.new.patience.left c.in-Ok.driver rested 0)

pub go_on-requires-clause-may : goal.go_on-requires-clause-may
go_on-requires-clause-may g c =
    let none : open_in (session_in c.args.stage) ≡ 0 = let few = c.if-open-gt0.false in let same = c.open.ensures in omega (arith, few, same) in
    let rested = subst (λ (n : ℕ). HasRested g.S.Shelf.device c.args.stage.holder n c.come_to_rest.new.patience.left c.in-Ok.driver) c.whole-patience.ensures c.in-Ok.ensures.rests in
    may_again g.S.Shelf.device c.args.stage c.requires.fits c.requires.between none c.come_to_rest.new.patience.left c.in-Ok.driver rested c.args.name c.in-None.ensures.none

pub add_copies-requires-clause-rows : goal.add_copies-requires-clause-rows
add_copies-requires-clause-rows g c =
    let none : open_in (session_in c.args.stage) ≡ 0 = let few = c.if-open-gt0.false in let same = c.open.ensures in omega (arith, few, same) in
    let rested = subst (λ (n : ℕ). HasRested g.S.Shelf.device c.args.stage.holder n c.come_to_rest.new.patience.left c.in-Ok.driver) c.whole-patience.ensures c.in-Ok.ensures.rests in
    rows_mid _ _ _ (at_mid g.S.Shelf.device c.args.stage c.requires.fits c.requires.between none c.come_to_rest.new.patience.left c.in-Ok.driver rested 0)

pub returns-in-None : goal.returns-in-None
returns-in-None g c =
    let none : open_in (session_in c.args.stage) ≡ 0 = let few = c.if-open-gt0.false in let same = c.open.ensures in omega (arith, few, same) in
    let left = c.come_to_rest.new.patience.left in
    let driver = c.in-Ok.driver in
    let rested = subst (λ (n : ℕ). HasRested g.S.Shelf.device c.args.stage.holder n left driver) c.whole-patience.ensures c.in-Ok.ensures.rests in
    unnamed_ends g.S.Shelf.device c.args.stage c.requires.fits c.requires.between none left driver rested c.args.name c.in-None.ensures.none
    OfGroup (λ old new alone. alone.acts tt) c.go_on.ensures.by c.go_on.ensures.held c.refused-in-None.result.stage (c.refused-in-None.ensures.stage ∙ c.go_on.ensures.is) c.refused-in-None.result.reply c.refused-in-None.ensures.reply g.met.S.Shelf.sectors_are_whole
    (λ log. MklvcopyDoes c.args.name c.args.copies)
    (λ last drained stays. NoVolumeForMklvcopy rested.turned.core left (state_of g.S.Shelf.device driver) rested.turned.its drained c.in-None.ensures.none stays refl c.refused-in-None.ensures.reply)

pub returns-in-Some : goal.returns-in-Some
returns-in-Some g c =
    let none : open_in (session_in c.args.stage) ≡ 0 = let few = c.if-open-gt0.false in let same = c.open.ensures in omega (arith, few, same) in
    let left = c.come_to_rest.new.patience.left in
    let driver = c.in-Ok.driver in
    let rested = subst (λ (n : ℕ). HasRested g.S.Shelf.device c.args.stage.holder n left driver) c.whole-patience.ensures c.in-Ok.ensures.rests in
    let lv : ℕ = c.in-Some.lv in
    let copies : ℕ = c.args.copies in
    let done = c.add_copies.ensures in
    let mid = state_of g.S.Shelf.device driver in
    let new = state_of g.S.Shelf.device done.left in
    ends_so g.S.Shelf.device c.args.stage c.requires.fits c.requires.between none left driver rested OfGroup (λ old new alone. alone.acts tt) (λ was is given. MklvcopyGives lv copies left was is given) added_by (to_add lv copies)
    c.add_copies.result.stage c.add_copies.result.reply done g.met.S.Shelf.sectors_are_whole
    (λ last. record {
      facts = mklvcopy_facts lv copies left mid new rested.settled.power done.given done.gives;
      landed = mklvcopy_bears lv copies left mid new HaveAllLanded landed_bears rested.between.landed done.given done.gives;
      answers = λ range was. mklvcopy_bears lv copies left mid new (λ facts. AreAnswered facts range) (answered_bears range) was done.given done.gives;
      shape = mklvcopy_shape lv copies left mid new done.given done.gives;
      goes = λ m may alone. mklvcopy_goes_on rested.turned.core.history.run m lv copies left done.after mid new done.given may done.commanded done.gives;
    })
    (λ log. MklvcopyDoes c.args.name copies)
    (λ last is. mklvcopy_does c.args.name copies lv rested.turned.core left mid done.given _ _ rested.turned.its (drains g.S.Shelf.device c.args.stage c.requires.fits c.requires.between none left driver rested last) c.in-Some.ensures.some is)

pub returns-in-Err : goal.returns-in-Err
returns-in-Err g c =
    let none : open_in (session_in c.args.stage) ≡ 0 = let few = c.if-open-gt0.false in let same = c.open.ensures in omega (arith, few, same) in
    let left = c.come_to_rest.new.patience.left in
    let broken = subst (λ (n : ℕ). HasBrokenOff g.S.Shelf.device c.args.stage.holder n left c.in-Err.driver c.in-Err.why) c.whole-patience.ensures c.in-Err.ensures.breaks_off in
    subst (λ (a : Reply). EndsUnasked g.S.Shelf.device (λ log. MklvcopyDoes c.args.name c.args.copies) ⊥ OfGroup c.args.stage c.refused-in-Err.result.stage a)
    (sym (c.refused-in-Err.ensures.reply ∙ ap (λ (r : Refusal). reply.Refused r) c.drain_refusal.ensures))
    (subst (λ (s : Stage g.row.S.Denot). EndsUnasked g.S.Shelf.device (λ log. MklvcopyDoes c.args.name c.args.copies) ⊥ OfGroup c.args.stage s (reply.Refused (drain_refusal c.in-Err.why))) (sym c.refused-in-Err.ensures.stage)
    (undrained_ends OfGroup (λ old new alone. alone.acts tt) g.S.Shelf.device c.args.stage c.requires.fits c.requires.between none left c.in-Err.driver c.in-Err.why broken c.ended.result (reply.Refused (drain_refusal c.in-Err.why)) c.ended.ensures.ended c.ended.ensures.rooms refl
    (λ log. MklvcopyDoes c.args.name c.args.copies)
    (λ last is. UndrainedMklvcopy broken.turned.core c.in-Err.why broken.turned.its is)))
