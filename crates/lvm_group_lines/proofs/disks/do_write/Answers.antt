use Rattle.std.proofs.Common.{◌∙◌, subst, refl, ℕ}
use Rattle.lvm_steps.specs.Requests.{at}
use Rattle.lvm_group_lines.specs.passed.Quiesce.{WriteOnceQuiet}
use Rattle.lvm_raw.specs.Keeping.{AnswerHasCause}
use Rattle.lvm_group_lines.specs.Disks.{WriteDoes, NoWriteWhileOn, WriteGoes, write_reply}
use Rattle.lvm_group_lines.specs.Moments.{Aside}
use Rattle.lvm_group_lines.specs.State.{without_facts}
use Rattle.lvm_group_lines.specs.declared.reply.Refusal.TheVariants as refusal
use Rattle.lvm_group_lines.proofs.EndsLemmas.{unasked_as, refused_ends}
use Rattle.lvm_group_lines.proofs.StagesLemmas.Staging.{between_as, fits_as}
use Rattle.lvm_group_lines.proofs.DisksLemmas.{off, range_ends, write_once, write_stuck}
use Rattle.lvm_group_lines.proofs.PostsLemmas.{write_leaves}
use Rattle.lvm_group_lines.proofs.disks.do_write.Goals as goal

pub returns-in-Err : goal.returns-in-Err
returns-in-Err g c =
    refused_ends g.S.Shelf.device (λ log. WriteDoes log c.args.disk c.args.at c.args.count c.args.word) ⊥ Aside c.args.stage c.refused.result.stage c.refused.result.reply c.requires.fits c.requires.between
    (c.refused.ensures.stage ∙ c.in-Err.ensures.kept) refusal.GroupOn c.refused.ensures.reply
    (λ last is. NoWriteWhileOn c.in-Err.ensures.on is)

pub returns-in-Ok : goal.returns-in-Ok
returns-in-Ok g c =
    let old = c.in-Ok.closed.shelf in
    let new = c.write_disk-done.new.shelf in
    let log = c.in-Ok.closed.history in
    let is = c.write_disk-done.new.history in
    let given = c.write_disk-done.result in
    let posts = c.in-Ok.posts in
    let bytes = c.in-Ok.bytes in
    let was = c.in-Ok.ensures.off in
    unasked_as g.S.Shelf.device (λ log. WriteDoes log c.args.disk c.args.at c.args.count c.args.word) ⊥ Aside c.args.stage (off old log posts bytes) c.answered.result.stage (off new is posts bytes) c.answered.result.reply (write_reply given)
    was (c.answered.ensures.stage ∙ c.off.ensures) (c.answered.ensures.reply ∙ c.write_reply.ensures)
    (range_ends g.S.Shelf.device old new log is posts bytes (fits_as c.args.stage (off old log posts bytes) was c.requires.fits) (between_as g.S.Shelf.device c.args.stage (off old log posts bytes) was c.requires.between)
    c.in-Ok.ensures.ordered c.args.disk _ _ given c.write_disk-done.ensures.keeps c.write_disk-done.ensures.rooms
    (write_leaves (without_facts log) c.args.disk c.args.at c.args.count c.args.word _ (at (g.S.Shelf.device old) log.facts) (at (g.S.Shelf.device new) is.facts) given c.in-Ok.ensures.ordered c.write_disk-done.ensures.does)
    (write_reply given) (write_stuck given (write_reply given) refl) (write_once given) (λ log. WriteDoes log c.args.disk c.args.at c.args.count c.args.word)
    (λ last. WriteGoes given (record { before = refl; after = refl; posts = refl; clock = refl })
    (subst (λ (n : ℕ). WriteOnceQuiet (without_facts log) c.args.disk c.args.at c.args.count c.args.word n (at (g.S.Shelf.device old) log.facts) (at (g.S.Shelf.device new) is.facts) given) c.whole-patience.ensures c.write_disk-done.ensures.does)
    (subst (λ (n : ℕ). AnswerHasCause c.args.disk n (g.S.Shelf.device old).counts (g.S.Shelf.device new).counts given) c.whole-patience.ensures c.write_disk-done.ensures.keeps.cause)
    refl))
