use Rattle.std.proofs.Common.{sym, subst}
use Rattle.lvm_vol.specs.Log.{Log}
use Rattle.lvm_steps.specs.Requests.{at}
use Rattle.lvm_group.specs.passed.Session.{Core}
use Rattle.lvm_group.specs.passed.SessionStart.{AreFaults}
use Rattle.lvm_group.specs.passed.Core.{StartsHeld, BringsOn}
use Rattle.lvm_group.specs.NewGroup.{NewGroup}
use Rattle.lvm_group.specs.Made.{IsMade}
use Rattle.lvm_group.specs.Steps.{RecordsStand}
use Rattle.lvm_group.proofs.MadeLemmas.Starting.{spare_left, still_landed, placed, made, settles, keeps_on, calm_on, none_left}
use Rattle.lvm_group.proofs.making.mkvg.Goals as goal

pub start-requires-clause-spare : goal.start-requires-clause-spare
start-requires-clause-spare g c = spare_left _ c.args.room c.args.history c.make.new.history _ _ c.in-Ok.standing c.in-Ok.ensures.made

pub start-requires-clause-landed : goal.start-requires-clause-landed
start-requires-clause-landed g c = still_landed _ c.args.room c.args.history c.make.new.history _ _ c.in-Ok.standing c.in-Ok.ensures.made c.requires.landed

pub start-requires-clause-placed : goal.start-requires-clause-placed
start-requires-clause-placed g c = placed _ c.args.room c.args.history c.make.new.history _ _ c.in-Ok.standing c.in-Ok.ensures.made

pub returns-in-Ok : goal.returns-in-Ok
returns-in-Ok g c =
    let w : NewGroup = record { name = c.args.name; mib = c.args.mib; disks = c.args.disks.now; force = c.args.force; moment = c.args.moment } in
    let was : Log = c.args.history in
    let old = g.S.Shelf.device c.args.shelf in
    let new = g.S.Shelf.device c.make.new.shelf in
    let stands : RecordsStand w c.args.room was c.make.new.history old new c.in-Ok.standing = c.in-Ok.ensures.made in
    let two = settles w c.args.room was c.make.new.history old new c.in-Ok.standing stands c.requires.asked.moment c.start.result.1 c.start.ensures.core in
    let leaves = c.in-Ok.ensures.leaves in
    record {
      gives = subst (λ (s : g.row.S.Denot). IsMade w c.args.room was old (g.S.Shelf.device s) c.start.result.1) (sym c.start.ensures.shelf) (made w c.args.room was c.make.new.history old new c.in-Ok.standing stands c.start.result.1 c.start.ensures.core);
      starts = record {
        settled = two.0;
        numbers = two.1;
        left = none_left w c.args.room was c.make.new.history old new c.in-Ok.standing stands c.start.result.1 c.start.ensures.core;
        held = λ facts clock kept.
            subst (λ (s : g.row.S.Denot). StartsHeld (g.S.Shelf.device s) c.start.result.1) (sym c.start.ensures.shelf)
            (subst (λ (x : Core). StartsHeld new x) (sym c.start.ensures.core) (let held = c.in-Ok.ensures.held clock in record { held = held.held; notes = held.notes }));
      };
      faults = subst (λ (s : g.row.S.Denot). AreFaults (g.S.Shelf.device s) c.start.result.1.origin.faults) (sym c.start.ensures.shelf) c.start.ensures.faults;
      leaves = subst (λ (s : g.row.S.Denot). BringsOn was.run c.args.moment c.args.patience.now.left c.make.new.patience.left old (g.S.Shelf.device s) was c.start.result.1.history) (sym c.start.ensures.shelf) (record {
        keeps = λ clock. keeps_on w c.args.room was c.make.new.history old new c.in-Ok.standing stands (at old was.facts) c.start.result.1 c.start.ensures.core clock (leaves.keeps clock);
        behind = leaves.behind;
        calm = calm_on w c.args.room was c.make.new.history old new c.in-Ok.standing stands (at old was.facts) c.start.result.1 c.start.ensures.core leaves.calm;
        spends = leaves.spends;
      });
    }
