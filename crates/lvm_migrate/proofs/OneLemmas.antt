-- One copy moves, from its opening to its end.
use Rattle.std.proofs.Common.{◌≡◌, ◌≢◌, ◌≤◌, ◌-◌, ℕ, Option, Some, None, refl, sym, ap, subst, ◌∙◌}
use Rattle.std.specs.Prelude.{IfErr, Ok, Err, Result}
use Rattle.lvm_num.specs.declared.descriptor.Descriptor.{Descriptor}
use Rattle.lvm_disk.specs.Counts.{RoseBy}
use Rattle.lvm_disk.specs.Paths.{Path}
use Rattle.lvm_moved.specs.Moved.{MayStandOn}
use Rattle.lvm_num.specs.Descriptor.{copies_of}
use Rattle.lvm_core.specs.declared.fault.CommitFault.{CommitFault}
use Rattle.lvm_session.specs.declared.open.Power.TheVariants as power
use Rattle.lvm_session.specs.Sound.{IsSound}
use Rattle.lvm_session.specs.State.{Core, State}
use Rattle.lvm_keeps_events.specs.passed.Calls.{counts_seen}
use Rattle.lvm_going.specs.Going.{LeavesMoving, RunsOn}
use Rattle.lvm_going.specs.Moves.{next_of}
use Rattle.lvm_going.proofs.FramesLemmas.{moved_next}
use Rattle.lvm_driver.proofs.EndedLemmas.{path_keeps_move}
use Rattle.lvm_driver.specs.Drains.{DrainCosts, DrainEnds, IsAny, IsDrained, IsTurn}
use Rattle.lvm_move_plan.specs.declared.plan.PlannedMove.{PlannedMove}
use Rattle.lvm_migrate.specs.declared.fault.MoveFault.{MoveFault}
use Rattle.lvm_migrate.specs.Faults.{commit_fault_is}
use Rattle.lvm_move_plan.specs.Laws.{after_move}
use Rattle.lvm_migrate.specs.Committed.{GoesCommitting}
use Rattle.lvm_migrate.specs.Migrating.{GoesBesideMoving, IsLeftShut, MoveCause}
use Rattle.lvm_migrate.specs.Moving.{Concludes, MayConclude, MovesOne, Opens, StopsAt, TurnsEnd}
use Rattle.lvm_migrate.proofs.BesideLemmas.{beside_both, beside_none, beside_opened, beside_turns, opened_table}
use Rattle.lvm_migrate.proofs.CausesLemmas.{cause_concluded, cause_turns, cause_unopened, concluded_group, move_failed, turns_group}
use Rattle.lvm_migrate.proofs.MovingLemmas.{begun, broken_off, concluded, just, may_conclude, not_opened, opened_so, still, turns_end}
use Rattle.lvm_migrate.proofs.OpeningLemmas.{planned_apart, stands_against}
use Rattle.lvm_migrate.proofs.WayLemmas.{going_both, going_none, going_opened, going_some, going_turns, shut_err}

-- ---- it isn't opened

module _ (m : PlannedMove) (patience : ℕ) (old new : State) (sound : IsSound old) (shut : old.core.copy ≡ None) (stands : MayStandOn old.core.descriptor m.copy.lv m.copy.lp m.copy.number m.to) (why : MoveFault) (opens : Opens old new m (Err why)) where
  pub denied_stops : StopsAt m patience patience old new why
  denied_stops = not_opened m patience patience old new why refl opens

  pub denied_cause : MoveCause patience old new why
  denied_cause = cause_unopened patience m (copies_of stands.row m.copy.lp) old new why (stands_against old.core m sound.fitting.valid shut stands) opens

  pub denied_group : new.core.descriptor ≡ old.core.descriptor
  denied_group = ap (λ (s : State). s.core.descriptor) opens.0

  pub denied_shut : (old.core.power ≡ power.Stuck → ⊥) → IsLeftShut {A = Unit {0}} new.core (Err why)
  denied_shut unstuck = shut_err new.core (Unit {0}) why (λ on. ap (λ (s : State). s.core.copy) opens.0 ∙ shut) (λ stuck. unstuck (sym (ap (λ (s : State). s.core.power) opens.0) ∙ stuck))

  pub denied_way : (Is : Descriptor → Type 0) → GoesCommitting Is old new
  denied_way Is = subst (λ (s : State). GoesCommitting Is old s) (sym opens.0) (going_none Is old)

  pub denied_beside : GoesBesideMoving old new patience patience
  denied_beside = subst (λ (s : State). GoesBesideMoving old s patience patience) (sym opens.0) (beside_none old patience)

-- ---- it is opened, and turns are made

module _ (m : PlannedMove) (patience : ℕ) (old mid : State) (opens : Opens old mid m (Ok tt)) (leaves : LeavesMoving old mid) (sound_mid : IsSound mid) (between : ℕ) (ended : State) (turns : Path IsTurn IsAny mid ended) (runs : RunsOn mid ended)
    (fewer : between ≤ patience) (waited : RoseBy (patience - between) mid.device.counts.waits ended.device.counts.waits) where
  beside_mid : GoesBesideMoving old mid patience patience
  beside_mid = beside_opened old mid patience opens.2 (opened_table (counts_seen old.device old.core) old.core mid.core m.copy.lv m.copy.lp m.copy.number m.to (opened_so old mid m opens)) leaves

  beside_then : GoesBesideMoving mid ended patience between
  beside_then = beside_turns mid ended patience between sound_mid turns runs fewer waited

  pub beside_ended : GoesBesideMoving old ended patience between
  beside_ended = beside_both old mid ended patience patience between beside_mid beside_then

  -- nothing is committed so far
  pub way_ended : (Is : Descriptor → Type 0) → IsSound old → (old.core.power ≡ power.Stuck → ⊥) → MayStandOn old.core.descriptor m.copy.lv m.copy.lp m.copy.number m.to → GoesCommitting Is old ended
  way_ended Is sound unstuck stands =
      going_both Is old mid ended beside_mid.counts beside_then.counts (going_opened Is m old mid unstuck (planned_apart old.core.descriptor m sound.fitting.valid stands) opens) (going_turns Is mid ended sound_mid turns runs)

  next_ended : (k : Descriptor) → Some k ≡ next_of ended.core → k ≡ after_move old.core.descriptor m
  next_ended k is =
      let both : Some k ≡ Some (after_move old.core.descriptor m) =
      is ∙ path_keeps_move turns ∙ moved_next (counts_seen old.device old.core) old.core mid.core m.copy.lv m.copy.lp m.copy.number m.to (opened_so old mid m opens) in
      cc both

  group_ended : ended.core.descriptor ≡ old.core.descriptor
  group_ended = turns_group turns ∙ ap (λ (c : Core). c.descriptor) (opened_so old mid m opens).is

  -- they break off
  module _ (why : CommitFault) (ends : DrainEnds between ended (Err why)) (costs : DrainCosts patience between mid ended (Err why)) where
    pub broken_stops : StopsAt m patience between old ended (commit_fault_is why)
    broken_stops = broken_off m patience between old ended why (turns_end old mid m opens ended turns patience between (Err why) ends costs)

    pub broken_cause : MoveCause patience old ended (commit_fault_is why)
    broken_cause = cause_turns patience between old mid ended why beside_ended ends

  pub broken_group : ended.core.descriptor ≡ old.core.descriptor
  broken_group = group_ended

  -- they find nothing to do
  module _ (ends : IsDrained ended) (costs : DrainCosts patience between mid ended (Ok tt)) (sound : IsSound old) (sound_ended : IsSound ended) where
    pub may_end : old.core.status.stamp.epoch ≢ 0 → MayConclude ended
    may_end epoch = may_conclude old mid m opens ended turns sound_ended ends epoch

    module _ (left : ℕ) (new : State) (answer : Result (Unit {0}) MoveFault) (concludes : Concludes m.copy.lp between left ended new answer) where
      pub one_moves : MovesOne m patience left old new answer
      one_moves = concluded m patience between left old ended new (turns_end old mid m opens ended turns patience between (Ok tt) ends costs) answer concludes

      pub one_stays : IfErr answer (λ why. new.core.descriptor ≡ old.core.descriptor)
      one_stays = by answer concludes
        where
          by : (a : Result (Unit {0}) MoveFault) → Concludes m.copy.lp between left ended new a → IfErr a (λ why. new.core.descriptor ≡ old.core.descriptor)
          by (Ok done) it = tt
          by (Err why) it = concluded_group m.copy.lp between left ended new why it ∙ group_ended

      pub one_cause : IfErr answer (MoveCause patience old new)
      one_cause = by answer concludes
        where
          by : (a : Result (Unit {0}) MoveFault) → Concludes m.copy.lp between left ended new a → IfErr a (MoveCause patience old new)
          by (Ok done) it = tt
          by (Err why) it = cause_concluded patience between left old ended new sound_ended beside_ended m.copy.lp why
              (λ disk how cause. move_failed m old mid ended opens sound.fitting.valid turns (still old mid m opens ended turns sound_ended ends) disk how cause) it

      pub one_way : (old.core.power ≡ power.Stuck → ⊥) → MayStandOn old.core.descriptor m.copy.lv m.copy.lp m.copy.number m.to → GoesBesideMoving ended new between left
          → GoesCommitting (λ (k : Descriptor). Some k ≡ next_of ended.core) ended new → GoesCommitting (λ (k : Descriptor). k ≡ after_move old.core.descriptor m) old new
      one_way unstuck stands rest way =
          going_both (λ (k : Descriptor). k ≡ after_move old.core.descriptor m) old ended new beside_ended.counts rest.counts (way_ended (λ (k : Descriptor). k ≡ after_move old.core.descriptor m) sound unstuck stands)
          (going_some (λ (k : Descriptor). Some k ≡ next_of ended.core) (λ (k : Descriptor). k ≡ after_move old.core.descriptor m) next_ended ended new way)

      pub one_beside : GoesBesideMoving ended new between left → GoesBesideMoving old new patience left
      one_beside rest = beside_both old ended new patience between left beside_ended rest
