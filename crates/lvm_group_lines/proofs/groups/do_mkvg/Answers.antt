use Rattle.std.proofs.Common.{ℕ, IfErr, ◌∙◌, sym, subst, arith}
use Rattle.lvm_group_lines.specs.passed.Quiesce.{CauseRose, MkvgOnceQuiet}
use Rattle.lvm_group_lines.specs.Groups.{MkvgDoes, NoMkvgWhileOn, Makes, asked_for, itself}
use Rattle.lvm_group_lines.specs.Ends.{CommandEnds}
use Rattle.lvm_group_lines.specs.Moments.{Aside}
use Rattle.lvm_group_lines.specs.declared.holder.Holder.TheVariants as holder
use Rattle.lvm_group_lines.specs.declared.reply.Refusal.TheVariants as refusal
use Rattle.lvm_group_lines.proofs.EndsLemmas.{asked_ends, ends_as, one_refused}
use Rattle.lvm_group_lines.proofs.StagesLemmas.Staging.{asked_stays, between_as, fits_as}
use Rattle.lvm_group_lines.proofs.Coming.{Left, dark_still, held, outcome_ends}
use Rattle.lvm_group_lines.proofs.GroupsLemmas.Lines.{all_serve, brings, may_hold}
use Rattle.lvm_group_lines.proofs.QuiesceGroupsLemmas.Making.{came, itself_gives, serves, stands, stayed}
use Rattle.lvm_group_lines.proofs.QuiesceGroupsLemmas.Quieting.{device_outcome}
use Rattle.lvm_group_lines.proofs.groups.do_mkvg.Goals as goal

pub returns-in-Err-clause-ends : goal.returns-in-Err-clause-ends
returns-in-Err-clause-ends g c =
    let still = c.refused.ensures.stage ∙ c.in-Err.ensures.kept in
    let asked = asked_stays g.S.Shelf.device c.args.stage c.refused.result.stage (g.C.Clock.last c.args.clock.now) (g.C.Clock.last c.now-moment.new.self) c.now-moment.result c.now-moment.ensures.later c.now-moment.ensures.last still in
    asked_ends g.S.Shelf.device (λ log. MkvgDoes log c.args.room c.args.force c.args.name c.args.mib c.args.disks.now) ⊥ Aside c.args.stage c.refused.result.stage c.refused.result.reply c.requires.fits c.requires.between still
    (one_refused c.refused.result.reply refusal.GroupOn c.refused.ensures.reply) _ _ asked (NoMkvgWhileOn c.in-Err.ensures.on c.refused.ensures.reply asked)

pub mkvg-requires-clause-asked : goal.mkvg-requires-clause-asked
mkvg-requires-clause-asked g c =
    let some = c.now-moment.ensures.some in
    record { some = c.requires.a_disk; differ = c.requires.differ; size = c.requires.size; moment = λ none. omega (arith, some, none) }

pub left-holder-requires-clause-may : goal.left-holder-requires-clause-may
left-holder-requires-clause-may g c =
    let shelf = c.in-Ok.closed.shelf in
    let log = c.in-Ok.closed.history in
    let w = asked_for c.args.name c.args.mib c.args.disks.now c.args.force c.now-moment.result in
    may_hold g.S.Shelf.device log.run c.now-moment.result (g.S.Shelf.device shelf) log c.mkvg.result
    (serves g.S.Shelf.device shelf log w c.args.room _ c.mkvg.result c.mkvg.ensures.gives (record { ordered = c.in-Ok.ensures.ordered; few = (fits_as c.args.stage (held (holder.Off shelf log) c.in-Ok.posts c.in-Ok.bytes) c.in-Ok.ensures.off c.requires.fits).few }))
    c.mkvg.ensures.starts

pub left-holder-requires-clause-still : goal.left-holder-requires-clause-still
left-holder-requires-clause-still g c =
    let w = asked_for c.args.name c.args.mib c.args.disks.now c.args.force c.now-moment.result in
    dark_still g.S.Shelf.device c.in-Ok.closed.shelf c.in-Ok.closed.history c.mkvg.result (stayed g.S.Shelf.device c.in-Ok.closed.shelf c.in-Ok.closed.history w c.args.room _ c.mkvg.result c.mkvg.ensures.gives)

pub returns-in-Ok-clause-ends : goal.returns-in-Ok-clause-ends
returns-in-Ok-clause-ends g c =
    let device = g.S.Shelf.device in
    let shelf = c.in-Ok.closed.shelf in
    let log = c.in-Ok.closed.history in
    let posts = c.in-Ok.posts in
    let bytes = c.in-Ok.bytes in
    let moment = c.now-moment.result in
    let last = g.C.Clock.last c.args.clock.now in
    let outcome = c.mkvg.result in
    let by = c.left-holder.result.0 in
    let answer = c.left-holder.result.1 in
    let w = asked_for c.args.name c.args.mib c.args.disks.now c.args.force moment in
    let was = c.in-Ok.ensures.off in
    let fits = fits_as c.args.stage (held (holder.Off shelf log) posts bytes) was c.requires.fits in
    let left : Left device outcome by answer = record { on = c.left-holder.ensures.on; off = c.left-holder.ensures.off } in
    let may = serves device shelf log w c.args.room _ outcome c.mkvg.ensures.gives (record { ordered = c.in-Ok.ensures.ordered; few = fits.few }) in
    let gives = subst (λ (n : ℕ). MkvgOnceQuiet itself w c.args.room n log (device shelf) (device_outcome device outcome)) c.whole-patience.ensures (itself_gives device shelf log w c.args.room _ outcome c.mkvg.ensures.gives) in
    let causes = subst (λ (n : ℕ). IfErr outcome (λ refused. CauseRose n (device shelf).counts (device refused.shelf).counts refused.cause)) c.whole-patience.ensures c.mkvg.ensures.causes in
    ends_as device (λ log. MkvgDoes log c.args.room c.args.force c.args.name c.args.mib c.args.disks.now) ⊥ Aside c.args.stage (held (holder.Off shelf log) posts bytes) c.answered.result.stage (held by posts bytes) c.answered.result.reply answer _ _
    was c.answered.ensures.stage c.answered.ensures.reply
    (subst (λ (n : ℕ). CommandEnds device (λ log. MkvgDoes log c.args.room c.args.force c.args.name c.args.mib c.args.disks.now) ⊥ Aside (held (holder.Off shelf log) posts bytes) (held by posts bytes) answer last n) (sym c.now-moment.ensures.last)
    (outcome_ends device shelf log posts bytes moment last _ _ by answer c.now-moment.ensures.later fits (between_as device c.args.stage (held (holder.Off shelf log) posts bytes) was c.requires.between) c.in-Ok.ensures.ordered
    (λ log. MkvgDoes log c.args.room c.args.force c.args.name c.args.mib c.args.disks.now) outcome
    (record {
      starts = c.mkvg.ensures.starts;
      brings = c.mkvg.ensures.leaves;
      came = came device shelf log w c.args.room _ outcome c.mkvg.ensures.gives;
      serves = all_serve device log.run moment (device shelf) log outcome by answer may c.mkvg.ensures.starts left;
      stands = stands device shelf log w c.args.room _ outcome c.mkvg.ensures.gives;
      stayed = stayed device shelf log w c.args.room _ outcome c.mkvg.ensures.gives;
      left = left;
    })
    (Makes (brings device shelf log posts bytes moment last by answer c.now-moment.ensures.later _ outcome gives causes left))))
