use Rattle.std.proofs.Common.{Result, subst, sym, []}
use Rattle.std.specs.Prelude.{IfOk, IfErr}
use Rattle.std.proofs.lemmas.Result.{err_from_is_err_and}
use Rattle.lvm_vol.specs.Log.{Log}
use Rattle.lvm_steps.specs.Requests.{at}
use Rattle.lvm_steps.proofs.MomentsLemmas.Spans.{keeps_still}
use Rattle.lvm_steps.proofs.LawsLemmas.Clock.{all_is_behind_next}
use Rattle.lvm_write.proofs.PartsLemmas.Transfers.{spends_none}
use Rattle.lvm_group.specs.passed.Core.{Cause, StartsHeld}
use Rattle.lvm_group.specs.passed.SessionStart.{Parts, first_core}
use Rattle.lvm_group.specs.declared.make.Standing.{Standing}
use Rattle.lvm_group.specs.NewGroup.{NewGroup}
use Rattle.lvm_group.specs.Planned.{IsPlannedFor, RefusesPlan}
use Rattle.lvm_group.specs.Made.{MkvgRefuses}
use Rattle.lvm_group.specs.Steps.{asked_group, RecordsStand}
use Rattle.lvm_group.proofs.MadeLemmas.Composing.{refuses_plan}
use Rattle.lvm_group.proofs.StepsLemmas.{made_then, refused_then, held_then, leaves_then}
use Rattle.lvm_group.proofs.make.make.Goals as goal

-- ---- before the disks are read

pub returns-in_err-plan : goal.returns-in_err-plan
returns-in_err-plan g c =
    let w : NewGroup = asked_group c.args.asked.now c.args.disks.now c.args.moment in
    let was : Log = c.args.history.now in
    let old = g.S.Shelf.device c.args.shelf.now in
    let left = c.args.patience.now.left in
    let why : Cause = c.in_err-plan.field-0.0 in
    let p = err_from_is_err_and c.from_residual.result c.from_residual.ensures.1 in
    rw (p.1, p.2) (record {
      made = tt;
      refused = refuses_plan w left was old why c.requires.ready (subst (λ n. RefusesPlan w n old.sizes why) c.spare_entries.ensures.spare c.in_err-plan.ensures.refused);
      held = λ clock. tt;
      leaves = record {
        keeps = λ clock. keeps_still was.run (at old was.facts);
        behind = λ clock. all_is_behind_next was.run c.args.moment old was.facts (g.met.S.Shelf.sectors_are_whole c.args.shelf.now) c.ranges.moment.fits clock;
        calm = λ past calm. calm;
        spends = spends_none left old;
      };
    })

-- ---- where it is planned

pub bring-brought-requires-clause-planned : goal.bring-brought-requires-clause-planned
bring-brought-requires-clause-planned g c =
    let w : NewGroup = asked_group c.args.asked.now c.args.disks.now c.args.moment in
    subst (λ n. IsPlannedFor w c.args.asked.now.room n (g.S.Shelf.device c.args.shelf.now).sizes c.in_ok-plan.plan) c.spare_entries.ensures.spare c.in_ok-plan.ensures.planned

pub returns : goal.returns
returns g c =
    let w : NewGroup = asked_group c.args.asked.now c.args.disks.now c.args.moment in
    let room = c.args.asked.now.room in
    let was : Log = c.args.history.now in
    let mid : Log = c.bring-brought.new.history in
    let is : Log = c.enter_cut.new.history in
    let old = g.S.Shelf.device c.args.shelf.now in
    let new = g.S.Shelf.device c.bring-brought.new.shelf in
    let before = c.args.patience.now.left in
    let after = c.bring-brought.new.patience.left in
    let parts = c.in_ok-plan.plan.parts in
    let r = c.bring-brought.result in
    let says = c.bring-brought.ensures in
    let started = sym c.start_with.ensures in
    record {
      made = subst (λ (s : Result (Standing Parts) Cause). IfOk s (RecordsStand w room was is old new)) started (made_then w room before after was mid is old new parts r c.enter_cut.ensures says.made);
      refused = subst (λ (s : Result (Standing Parts) Cause). IfErr s (MkvgRefuses w before was is old new)) started (refused_then w room before after was mid is old new parts r c.enter_cut.ensures says.refused);
      held = λ clock.
          subst (λ (s : Result (Standing Parts) Cause). IfOk s (λ (standing : Standing Parts). StartsHeld new (first_core standing.parts is (record { epoch = c.args.moment; seq = 2 }) standing.homes []))) started
          (held_then w room before after was mid is old new parts (record { epoch = c.args.moment; seq = 2 }) r c.enter_cut.ensures (says.held clock));
      leaves = leaves_then w room before after was mid is old new parts was.run r c.enter_cut.ensures says.leaves;
    }
