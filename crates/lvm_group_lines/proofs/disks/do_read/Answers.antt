use Rattle.std.proofs.Common.{◌∙◌, subst, refl, ℕ}
use Rattle.lvm_steps.specs.Requests.{at}
use Rattle.lvm_group_lines.specs.passed.Quiesce.{ReadOnceQuiet}
use Rattle.lvm_raw.specs.Keeping.{AnswerHasCause}
use Rattle.lvm_group_lines.specs.Disks.{ReadDoes, NoReadWhileOn, ReadGoes}
use Rattle.lvm_group_lines.specs.Moments.{Aside}
use Rattle.lvm_group_lines.specs.State.{without_facts}
use Rattle.lvm_group_lines.specs.declared.reply.Refusal.TheVariants as refusal
use Rattle.lvm_group_lines.proofs.EndsLemmas.{unasked_as, refused_ends}
use Rattle.lvm_group_lines.proofs.StagesLemmas.Staging.{between_as, fits_as}
use Rattle.lvm_group_lines.proofs.DisksLemmas.{off, range_ends, read_once, read_stuck, shows_read}
use Rattle.lvm_group_lines.proofs.PostsLemmas.{read_leaves}
use Rattle.lvm_group_lines.proofs.disks.do_read.Goals as goal

pub returns-in-Err : goal.returns-in-Err
returns-in-Err g c =
    refused_ends g.S.Shelf.device (λ log. ReadDoes log c.args.disk c.args.at c.args.count) ⊥ Aside c.args.stage c.refused.result.stage c.refused.result.reply c.requires.fits c.requires.between
    (c.refused.ensures.stage ∙ c.in-Err.ensures.kept) refusal.GroupOn c.refused.ensures.reply
    (λ last is. NoReadWhileOn c.in-Err.ensures.on is)

pub returns-in-Ok : goal.returns-in-Ok
returns-in-Ok g c =
    let old = c.in-Ok.closed.shelf in
    let new = c.read_disk-read.new.shelf in
    let log = c.in-Ok.closed.history in
    let is = c.read_disk-read.new.history in
    let given = c.read_disk-read.result in
    let posts = c.in-Ok.posts in
    let bytes = c.in-Ok.bytes in
    let was = c.in-Ok.ensures.off in
    let shows = shows_read c.args.at given c.read_reply.result c.read_reply.ensures.blocks c.read_reply.ensures.fault in
    unasked_as g.S.Shelf.device (λ log. ReadDoes log c.args.disk c.args.at c.args.count) ⊥ Aside c.args.stage (off old log posts bytes) c.answered.result.stage (off new is posts bytes) c.answered.result.reply c.read_reply.result
    was (c.answered.ensures.stage ∙ c.off.ensures) c.answered.ensures.reply
    (range_ends g.S.Shelf.device old new log is posts bytes (fits_as c.args.stage (off old log posts bytes) was c.requires.fits) (between_as g.S.Shelf.device c.args.stage (off old log posts bytes) was c.requires.between)
    c.in-Ok.ensures.ordered c.args.disk _ _ given c.read_disk-read.ensures.keeps c.read_disk-read.ensures.rooms
    (read_leaves (without_facts log) c.args.disk c.args.at c.args.count _ (at (g.S.Shelf.device old) log.facts) (at (g.S.Shelf.device new) is.facts) given c.in-Ok.ensures.ordered c.read_disk-read.ensures.does)
    c.read_reply.result (read_stuck given c.read_reply.result c.read_reply.ensures.fault) (read_once c.args.at given c.read_reply.result shows) (λ log. ReadDoes log c.args.disk c.args.at c.args.count)
    (λ last. ReadGoes given (record { before = refl; after = refl; posts = refl; clock = refl })
    (subst (λ (n : ℕ). ReadOnceQuiet (without_facts log) c.args.disk c.args.at c.args.count n (at (g.S.Shelf.device old) log.facts) (at (g.S.Shelf.device new) is.facts) given) c.whole-patience.ensures c.read_disk-read.ensures.does)
    (subst (λ (n : ℕ). AnswerHasCause c.args.disk n (g.S.Shelf.device old).counts (g.S.Shelf.device new).counts given) c.whole-patience.ensures c.read_disk-read.ensures.keeps.cause)
    shows))
