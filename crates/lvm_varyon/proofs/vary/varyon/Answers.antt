use Rattle.std.proofs.Common.{◌≡◌, sym, ap, subst, arith}
use Rattle.lvm_disk.specs.Device.{Device}
use Rattle.lvm_disk.specs.Paths.{Here}
use Rattle.lvm_vol.specs.Log.{Log, spare_entries}
use Rattle.lvm_steps.proofs.LawsLemmas.Clock.{all_is_behind_next}
use Rattle.lvm_write.proofs.PartsLemmas.Transfers.{spends_none}
use Rattle.lvm_varyon.specs.passed.SessionStart.{AreFaults}
use Rattle.lvm_varyon.specs.passed.Core.{BringsOn, StartsHeld}
use Rattle.lvm_varyon.specs.passed.CoreRefusedCause as cause
use Rattle.lvm_varyon.specs.Varied.{ComesOn, DirtyAreEqual, IsRecovered, VaryonRefuses}
use Rattle.lvm_varyon.proofs.VariedLemmas.Refusing.{refused_gives, refuses_so, some_spare}
use Rattle.lvm_varyon.proofs.VariedLemmas.Spanning.{ahead_of, refused_keeps, refused_calm, comes_on, starts_held, none_left, settles, is_recovered, dirty_are_equal, on_keeps, on_calm}
use Rattle.lvm_varyon.proofs.vary.varyon.Goals as goal

pub start-requires-clause-placed : goal.start-requires-clause-placed
start-requires-clause-placed g c = c.in-Ok.ensures.gives.placed

-- ---- the history is full

pub returns-then-spare_entries-eq0-clause-gives : goal.returns-then-spare_entries-eq0-clause-gives
returns-then-spare_entries-eq0-clause-gives g c =
    let is = c.spare_entries.ensures.spare in
    let none = c.if-spare_entries-eq0.true in
    let full : spare_entries c.args.history ≡ 0 = omega (arith, is, none) in
    refused_gives g.S.Shelf.device (g.S.Shelf.device c.args.shelf) c.args.history c.args.name c.args.moment c.args.room c.args.patience.now.left cause.HistoryFull c.refused.result
    c.refused.ensures.cause c.refused.ensures.history (full, ap g.S.Shelf.device c.refused.ensures.shelf)

pub returns-then-spare_entries-eq0-clause-leaves : goal.returns-then-spare_entries-eq0-clause-leaves
returns-then-spare_entries-eq0-clause-leaves g c =
    let old = g.S.Shelf.device c.args.shelf in
    let was : Log = c.args.history in
    let left = c.args.patience.now.left in
    subst (λ (d : Device). BringsOn was.run c.args.moment left left old d was c.refused.result.history) (sym (ap g.S.Shelf.device c.refused.ensures.shelf))
    (subst (λ (l : Log). BringsOn was.run c.args.moment left left old old was l) (sym c.refused.ensures.history) (record {
      keeps = λ clock. refused_keeps cause.HistoryFull was old old (Here (λ facts kept. kept));
      behind = all_is_behind_next was.run c.args.moment old was.facts (g.met.S.Shelf.sectors_are_whole c.args.shelf) c.ranges.moment.fits;
      calm = refused_calm cause.HistoryFull was old old;
      spends = spends_none left old;
    }))

-- ---- the group is on

pub returns-in-Ok-clause-gives : goal.returns-in-Ok-clause-gives
returns-in-Ok-clause-gives g c =
    let spare = some_spare c.spare_entries.result c.args.history c.spare_entries.ensures.spare c.if-spare_entries-eq0.false in
    let old = g.S.Shelf.device c.args.shelf in
    let same = sym (ap g.S.Shelf.device c.start.ensures.shelf) in
    record {
      gives = subst (λ (d : Device). ComesOn old d c.args.history c.args.name c.args.moment c.args.room c.start.result.1) same
          (comes_on _ _ c.args.history c.args.name c.args.moment c.args.room c.in-Ok.begun.0 c.in-Ok.begun.1 c.in-Ok.homes c.start.result.1 c.in-Ok.ensures.gives c.start.ensures.core spare);
      recovered = λ clock. subst (λ (d : Device). IsRecovered old d c.start.result.1.descriptor) same
          (is_recovered _ _ c.args.history c.args.name c.args.moment c.args.room c.in-Ok.begun.0 c.in-Ok.begun.1 c.in-Ok.homes c.start.result.1 c.in-Ok.ensures.gives c.start.ensures.core clock);
      equal = λ clock. subst (λ (d : Device). DirtyAreEqual d c.start.result.1) same
          (dirty_are_equal _ _ c.args.history c.args.name c.args.moment c.args.room c.in-Ok.begun.0 c.in-Ok.begun.1 c.in-Ok.homes c.start.result.1 c.in-Ok.ensures.gives c.start.ensures.core clock);
    }

pub returns-in-Ok-clause-starts : goal.returns-in-Ok-clause-starts
returns-in-Ok-clause-starts g c =
    let two = settles _ _ c.args.history c.args.name c.args.moment c.args.room c.in-Ok.begun.0 c.in-Ok.begun.1 c.in-Ok.homes c.start.result.1 c.in-Ok.ensures.gives c.start.ensures.core c.requires.moment in
    record {
      settled = two.0;
      numbers = two.1;
      left = none_left _ _ c.args.history c.args.name c.args.moment c.args.room c.in-Ok.begun.0 c.in-Ok.begun.1 c.in-Ok.homes c.start.result.1 c.in-Ok.ensures.gives c.start.ensures.core;
      held = λ facts clock kept. subst (λ (d : Device). StartsHeld d c.start.result.1) (sym (ap g.S.Shelf.device c.start.ensures.shelf)) (starts_held _ _ c.args.history c.args.name c.args.moment c.args.room c.in-Ok.begun.0 c.in-Ok.begun.1 c.in-Ok.homes c.start.result.1 c.in-Ok.ensures.gives c.start.ensures.core facts clock kept);
    }

pub returns-in-Ok-clause-faults : goal.returns-in-Ok-clause-faults
returns-in-Ok-clause-faults g c = subst (λ (d : Device). AreFaults d c.start.result.1.origin.faults) (sym (ap g.S.Shelf.device c.start.ensures.shelf)) c.start.ensures.faults

pub returns-in-Ok-clause-leaves : goal.returns-in-Ok-clause-leaves
returns-in-Ok-clause-leaves g c =
    let old = g.S.Shelf.device c.args.shelf in
    let new = g.S.Shelf.device c.bring.new.shelf in
    let was : Log = c.args.history in
    subst (λ (d : Device). BringsOn was.run c.args.moment c.args.patience.now.left c.bring.new.patience.left old d was c.start.result.1.history) (sym (ap g.S.Shelf.device c.start.ensures.shelf)) (record {
      keeps = λ clock. on_keeps _ _ c.args.history c.args.name c.args.moment c.args.room c.in-Ok.begun.0 c.in-Ok.begun.1 c.in-Ok.homes c.start.result.1 c.in-Ok.ensures.gives c.start.ensures.core (c.in-Ok.ensures.kept (ahead_of was.run c.args.moment old was.facts clock)) clock;
      behind = λ clock. c.in-Ok.ensures.behind (ahead_of was.run c.args.moment old was.facts clock);
      calm = on_calm old new was c.args.name c.args.moment c.args.room c.in-Ok.begun.0 c.in-Ok.begun.1 c.in-Ok.homes c.start.result.1 c.in-Ok.ensures.gives c.start.ensures.core;
      spends = c.in-Ok.ensures.spends;
    })

-- ---- it isn't

pub returns-in-Err-clause-gives : goal.returns-in-Err-clause-gives
returns-in-Err-clause-gives g c =
    let spare = some_spare c.spare_entries.result c.args.history c.spare_entries.ensures.spare c.if-spare_entries-eq0.false in
    let old = g.S.Shelf.device c.args.shelf in
    let left = c.args.patience.now.left in
    refused_gives g.S.Shelf.device old c.args.history c.args.name c.args.moment c.args.room left c.in-Err.cause c.refused-in-Err.result c.refused-in-Err.ensures.cause c.refused-in-Err.ensures.history
    (subst (λ (d : Device). VaryonRefuses old d c.args.name c.args.moment left c.args.history c.in-Err.cause) (sym (ap g.S.Shelf.device c.refused-in-Err.ensures.shelf))
    (refuses_so old (g.S.Shelf.device c.bring.new.shelf) c.args.name c.args.moment left c.args.history c.in-Err.cause spare c.in-Err.ensures.gives))

pub returns-in-Err-clause-leaves : goal.returns-in-Err-clause-leaves
returns-in-Err-clause-leaves g c =
    let old = g.S.Shelf.device c.args.shelf in
    let new = g.S.Shelf.device c.bring.new.shelf in
    let was : Log = c.args.history in
    subst (λ (d : Device). BringsOn was.run c.args.moment c.args.patience.now.left c.bring.new.patience.left old d was c.refused-in-Err.result.history) (sym (ap g.S.Shelf.device c.refused-in-Err.ensures.shelf))
    (subst (λ (l : Log). BringsOn was.run c.args.moment c.args.patience.now.left c.bring.new.patience.left old new was l) (sym c.refused-in-Err.ensures.history) (record {
      keeps = λ clock. refused_keeps c.in-Err.cause was old new (c.in-Err.ensures.kept (ahead_of was.run c.args.moment old was.facts clock));
      behind = λ clock. c.in-Err.ensures.behind (ahead_of was.run c.args.moment old was.facts clock);
      calm = refused_calm c.in-Err.cause was old new;
      spends = c.in-Err.ensures.spends;
    }))
