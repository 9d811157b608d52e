use Rattle.std.proofs.Common.{◌≡◌, ◌≤◌, ◌∙◌, ℕ, refl, sym, ap, subst, arith}
use Rattle.lvm_core.specs.State.{state_of}
use Rattle.lvm_core.specs.Sound.{HaveAllLanded}
use Rattle.lvm_range_lines.proofs.passed.TieCommands.{mklv_goes_on}
use Rattle.lvm_range_lines.specs.passed.Posts.{AreAnswered}
use Rattle.lvm_range_lines.specs.passed.Volumes.{MklvGives, to_make}
use Rattle.lvm_range_lines.specs.passed.GroupLines.{EndsUnasked, OfGroup, IsOn, open_in, session_in, Refusal, Reply, Stage}
use Rattle.lvm_range_lines.specs.passed.RefusalVariants as refusal
use Rattle.lvm_range_lines.specs.passed.ReplyVariants as reply
use Rattle.lvm_range_lines.proofs.passed.GroupLines.{refused_ends}
use Rattle.lvm_volume_lines.specs.Commands.{HasBrokenOff, HasRested, none_added}
use Rattle.lvm_volume_lines.specs.Volumes.{MklvDoes, BusyMklv, NoGroupForMklv, UndrainedMklv, drain_refusal, wanted}
use Rattle.lvm_volume_lines.proofs.Commanding.{rows_mid}
use Rattle.lvm_volume_lines.proofs.Ending.{mklv_facts, mklv_shape}
use Rattle.lvm_volume_lines.proofs.FactsLemmas.{answers_stay, landed_stays, mklv_bears}
use Rattle.lvm_volume_lines.proofs.Carrying.{at_mid, drains}
use Rattle.lvm_volume_lines.proofs.OfVolumes.{ends_so}
use Rattle.lvm_volume_lines.proofs.VolumesLemmas.{mklv_does, on_some}
use Rattle.lvm_volume_lines.proofs.EndsLemmas.{undrained_ends}
use Rattle.lvm_volume_lines.proofs.volumes.do_mklv.Goals as goal

pub returns-then-not-is_on : goal.returns-then-not-is_on
returns-then-not-is_on g c =
    refused_ends g.S.Shelf.device (λ log. MklvDoes (wanted c.args.name c.args.copies c.args.mode c.args.policy c.args.lps) c.args.group) ⊥ OfGroup c.args.stage c.refused.result.stage c.refused.result.reply
    c.requires.fits c.requires.between c.refused.ensures.stage refusal.NoGroup c.refused.ensures.reply (λ last is. NoGroupForMklv (c.if-not-is_on.ensures.off refl) is)

pub returns-then-open-gt0 : goal.returns-then-open-gt0
returns-then-open-gt0 g c =
    let some : 1 ≤ open_in (session_in c.args.stage) = let many = c.if-open-gt0.true in let same = c.open.ensures in omega (arith, many, same) in
    refused_ends g.S.Shelf.device (λ log. MklvDoes (wanted c.args.name c.args.copies c.args.mode c.args.policy c.args.lps) c.args.group) ⊥ OfGroup c.args.stage c.refused-then-open-gt0.result.stage c.refused-then-open-gt0.result.reply
    c.requires.fits c.requires.between c.refused-then-open-gt0.ensures.stage refusal.Busy c.refused-then-open-gt0.ensures.reply (λ last is. BusyMklv (c.if-not-is_on.ensures.on refl) some is)

pub make_volume-requires-clause-rows : goal.make_volume-requires-clause-rows
make_volume-requires-clause-rows g c =
    let none : open_in (session_in c.args.stage) ≡ 0 = let few = c.if-open-gt0.false in let same = c.open.ensures in omega (arith, few, same) in
    let rested = subst (λ (n : ℕ). HasRested g.S.Shelf.device c.args.stage.holder n c.come_to_rest.new.patience.left c.in-Ok.driver) c.whole-patience.ensures c.in-Ok.ensures.rests in
    rows_mid _ _ _ (at_mid g.S.Shelf.device c.args.stage c.requires.fits c.requires.between none c.come_to_rest.new.patience.left c.in-Ok.driver rested 0)

pub returns-in-Ok : goal.returns-in-Ok
returns-in-Ok g c =
    let none : open_in (session_in c.args.stage) ≡ 0 = let few = c.if-open-gt0.false in let same = c.open.ensures in omega (arith, few, same) in
    let left = c.come_to_rest.new.patience.left in
    let driver = c.in-Ok.driver in
    let rested = subst (λ (n : ℕ). HasRested g.S.Shelf.device c.args.stage.holder n left driver) c.whole-patience.ensures c.in-Ok.ensures.rests in
    let w = wanted c.args.name c.args.copies c.args.mode c.args.policy c.args.lps in
    let done = c.make_volume.ensures in
    let mid = state_of g.S.Shelf.device driver in
    let new = state_of g.S.Shelf.device done.left in
    ends_so g.S.Shelf.device c.args.stage c.requires.fits c.requires.between none left driver rested OfGroup (λ old new alone. alone.acts tt) (λ was is given. MklvGives w left was is given) none_added (to_make w) c.make_volume.result.stage c.make_volume.result.reply done
    g.met.S.Shelf.sectors_are_whole
    (λ last. record {
      facts = mklv_facts w left mid new rested.settled.power done.given done.gives;
      landed = mklv_bears HaveAllLanded landed_stays w left mid new rested.between.landed done.given done.gives;
      answers = λ range was. mklv_bears (λ facts. AreAnswered facts range) (answers_stay range) w left mid new was done.given done.gives;
      shape = mklv_shape w left mid new done.given done.gives;
      goes = λ m may alone. mklv_goes_on rested.turned.core.history.run m w left done.after mid new done.given may alone done.commanded done.gives;
    })
    (λ log. MklvDoes w c.args.group)
    (λ last is. mklv_does w c.args.group rested.turned.core left mid done.given _ _ rested.turned.its (on_some (IsOn c.args.group) (session_in c.args.stage) rested.turned.core (c.if-not-is_on.ensures.on refl) rested.turned.its) (drains g.S.Shelf.device c.args.stage c.requires.fits c.requires.between none left driver rested last) is)

pub returns-in-Err : goal.returns-in-Err
returns-in-Err g c =
    let none : open_in (session_in c.args.stage) ≡ 0 = let few = c.if-open-gt0.false in let same = c.open.ensures in omega (arith, few, same) in
    let left = c.come_to_rest.new.patience.left in
    let broken = subst (λ (n : ℕ). HasBrokenOff g.S.Shelf.device c.args.stage.holder n left c.in-Err.driver c.in-Err.why) c.whole-patience.ensures c.in-Err.ensures.breaks_off in
    subst (λ (a : Reply). EndsUnasked g.S.Shelf.device (λ log. MklvDoes (wanted c.args.name c.args.copies c.args.mode c.args.policy c.args.lps) c.args.group) ⊥ OfGroup c.args.stage c.refused-in-Err.result.stage a)
    (sym (c.refused-in-Err.ensures.reply ∙ ap (λ (r : Refusal). reply.Refused r) c.drain_refusal.ensures))
    (subst (λ (s : Stage g.row.S.Denot). EndsUnasked g.S.Shelf.device (λ log. MklvDoes (wanted c.args.name c.args.copies c.args.mode c.args.policy c.args.lps) c.args.group) ⊥ OfGroup c.args.stage s (reply.Refused (drain_refusal c.in-Err.why)))
    (sym c.refused-in-Err.ensures.stage)
    (undrained_ends OfGroup (λ old new alone. alone.acts tt) g.S.Shelf.device c.args.stage c.requires.fits c.requires.between none left c.in-Err.driver c.in-Err.why broken c.ended.result (reply.Refused (drain_refusal c.in-Err.why)) c.ended.ensures.ended c.ended.ensures.rooms refl
    (λ log. MklvDoes (wanted c.args.name c.args.copies c.args.mode c.args.policy c.args.lps) c.args.group)
    (λ last is. UndrainedMklv broken.turned.core c.in-Err.why broken.turned.its (on_some (IsOn c.args.group) (session_in c.args.stage) broken.turned.core (c.if-not-is_on.ensures.on refl) broken.turned.its) is)))
