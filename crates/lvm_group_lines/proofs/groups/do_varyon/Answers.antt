use Rattle.std.proofs.Common.{ℕ, IfErr, ◌∙◌, sym, subst}
use Rattle.lvm_group_lines.specs.passed.Quiesce.{CauseRose, VaryonOnceQuiet}
use Rattle.lvm_group_lines.specs.Groups.{VaryonDoes, NoVaryonWhileOn, Varies, itself}
use Rattle.lvm_group_lines.specs.Ends.{CommandEnds}
use Rattle.lvm_group_lines.specs.Moments.{Aside}
use Rattle.lvm_group_lines.specs.declared.holder.Holder.TheVariants as holder
use Rattle.lvm_group_lines.specs.declared.reply.Refusal.TheVariants as refusal
use Rattle.lvm_group_lines.proofs.EndsLemmas.{asked_ends, ends_as, one_refused}
use Rattle.lvm_group_lines.proofs.StagesLemmas.Staging.{asked_stays, between_as, fits_as}
use Rattle.lvm_group_lines.proofs.Coming.{Left, dark_still, held, outcome_ends}
use Rattle.lvm_group_lines.proofs.GroupsLemmas.Lines.{all_serve, all_stand, brings, may_hold}
use Rattle.lvm_group_lines.proofs.QuiesceGroupsLemmas.Varying.{came, itself_gives, serves, stands, stayed}
use Rattle.lvm_group_lines.proofs.QuiesceGroupsLemmas.Quieting.{device_outcome}
use Rattle.lvm_group_lines.proofs.groups.do_varyon.Goals as goal

pub returns-in-Err-clause-ends : goal.returns-in-Err-clause-ends
returns-in-Err-clause-ends g c =
    let still = c.refused.ensures.stage ∙ c.in-Err.ensures.kept in
    let asked = asked_stays g.S.Shelf.device c.args.stage c.refused.result.stage (g.C.Clock.last c.args.clock.now) (g.C.Clock.last c.now-moment.new.self) c.now-moment.result c.now-moment.ensures.later c.now-moment.ensures.last still in
    asked_ends g.S.Shelf.device (λ log. VaryonDoes log c.args.room c.args.name) ⊥ Aside c.args.stage c.refused.result.stage c.refused.result.reply c.requires.fits c.requires.between still
    (one_refused c.refused.result.reply refusal.GroupOn c.refused.ensures.reply) _ _ asked (NoVaryonWhileOn c.in-Err.ensures.on c.refused.ensures.reply asked)

pub left-holder-requires-clause-may : goal.left-holder-requires-clause-may
left-holder-requires-clause-may g c =
    let shelf = c.in-Ok.closed.shelf in
    let log = c.in-Ok.closed.history in
    may_hold g.S.Shelf.device log.run c.now-moment.result (g.S.Shelf.device shelf) log c.varyon.result
    (serves g.S.Shelf.device shelf log c.args.name c.now-moment.result _ c.args.room c.varyon.result c.varyon.ensures.gives (record { ordered = c.in-Ok.ensures.ordered; few = (fits_as c.args.stage (held (holder.Off shelf log) c.in-Ok.posts c.in-Ok.bytes) c.in-Ok.ensures.off c.requires.fits).few }))
    c.varyon.ensures.starts

pub left-holder-requires-clause-still : goal.left-holder-requires-clause-still
left-holder-requires-clause-still g c =
    dark_still g.S.Shelf.device c.in-Ok.closed.shelf c.in-Ok.closed.history c.varyon.result (stayed g.S.Shelf.device c.in-Ok.closed.shelf c.in-Ok.closed.history c.args.name c.now-moment.result _ c.args.room c.varyon.result c.varyon.ensures.gives)

pub returns-in-Ok-clause-ends : goal.returns-in-Ok-clause-ends
returns-in-Ok-clause-ends g c =
    let device = g.S.Shelf.device in
    let shelf = c.in-Ok.closed.shelf in
    let log = c.in-Ok.closed.history in
    let posts = c.in-Ok.posts in
    let bytes = c.in-Ok.bytes in
    let moment = c.now-moment.result in
    let last = g.C.Clock.last c.args.clock.now in
    let outcome = c.varyon.result in
    let by = c.left-holder.result.0 in
    let answer = c.left-holder.result.1 in
    let was = c.in-Ok.ensures.off in
    let fits = fits_as c.args.stage (held (holder.Off shelf log) posts bytes) was c.requires.fits in
    let left : Left device outcome by answer = record { on = c.left-holder.ensures.on; off = c.left-holder.ensures.off } in
    let may = serves device shelf log c.args.name c.now-moment.result _ c.args.room outcome c.varyon.ensures.gives (record { ordered = c.in-Ok.ensures.ordered; few = fits.few }) in
    let serving = all_serve device log.run moment (device shelf) log outcome by answer may c.varyon.ensures.starts left in
    let gives = subst (λ (n : ℕ). VaryonOnceQuiet itself log c.args.name moment c.args.room n (device shelf) (device_outcome device outcome)) c.whole-patience.ensures (itself_gives device shelf log c.args.name c.now-moment.result _ c.args.room outcome c.varyon.ensures.gives) in
    let causes = subst (λ (n : ℕ). IfErr outcome (λ refused. CauseRose n (device shelf).counts (device refused.shelf).counts refused.cause)) c.whole-patience.ensures c.varyon.ensures.causes in
    ends_as device (λ log. VaryonDoes log c.args.room c.args.name) ⊥ Aside c.args.stage (held (holder.Off shelf log) posts bytes) c.answered.result.stage (held by posts bytes) c.answered.result.reply answer _ _
    was c.answered.ensures.stage c.answered.ensures.reply
    (subst (λ (n : ℕ). CommandEnds device (λ log. VaryonDoes log c.args.room c.args.name) ⊥ Aside (held (holder.Off shelf log) posts bytes) (held by posts bytes) answer last n) (sym c.now-moment.ensures.last)
    (outcome_ends device shelf log posts bytes moment last _ _ by answer c.now-moment.ensures.later fits (between_as device c.args.stage (held (holder.Off shelf log) posts bytes) was c.requires.between) c.in-Ok.ensures.ordered
    (λ log. VaryonDoes log c.args.room c.args.name) outcome
    (record {
      starts = c.varyon.ensures.starts;
      brings = c.varyon.ensures.leaves;
      came = came device shelf log c.args.name c.now-moment.result _ c.args.room outcome c.varyon.ensures.gives;
      serves = serving;
      stands = all_stand device log.run moment (device shelf) log outcome _ (stands device shelf log c.args.name c.now-moment.result _ c.args.room outcome c.varyon.ensures.gives) g.met.S.Shelf.sectors_are_whole c.varyon.ensures.starts serving;
      stayed = stayed device shelf log c.args.name c.now-moment.result _ c.args.room outcome c.varyon.ensures.gives;
      left = left;
    })
    (Varies (brings device shelf log posts bytes moment last by answer c.now-moment.ensures.later _ outcome gives causes left))))
