-- What is found after copies were to move: what was found before, or what was to be committed.
use Rattle.std.proofs.Common.{◌≡◌, ◌≢◌, ◌⊎◌, inl, inr, ⊎_elim, ℕ, [], ◌∷◌, ◌++◌, List, Bool, true, false, Option, Some, IfSome, Ok, refl, sym, ap, subst, ◌∙◌}
use Rattle.std.specs.Prelude.{IsSomeAnd}
use Rattle.lvm_num.specs.Among.{IsOneOf}
use Rattle.lvm_num.specs.declared.descriptor.Descriptor.{Descriptor}
use Rattle.lvm_vol.specs.Facts.{Fact}
use Rattle.lvm_parse.specs.declared.command.Command.TheVariants as command
use Rattle.lvm_steps.specs.Moments.{RunBegins}
use Rattle.lvm_core.specs.Leaves.{MayBeFound}
use Rattle.lvm_session.specs.declared.open.Power.{Power}
use Rattle.lvm_session.specs.declared.open.Power.TheVariants as power
use Rattle.lvm_session.specs.Sound.{IsSound}
use Rattle.lvm_session.specs.State.{Core, State, state}
use Rattle.lvm_line.specs.passed.Tie.{IsCommittedOn, IsGood, IsGoodSparing, MovesOn}
use Rattle.lvm_line.proofs.passed.MoveLines.{is_planned, tried_or_same}
use Rattle.lvm_line.proofs.passed.Tie.{going_moves_on, moves_find_theirs}
use Rattle.lvm_line.specs.passed.TieCommands.{StandsAfter}
use Rattle.lvm_line.specs.passed.GroupLines.{IsBetween, IsOnBetween, OfRequests, Reply, ScriptState, StandsAlone, is_unheard}
use Rattle.lvm_line.specs.passed.RangeLines.{CarriesBy, FailsIf}
use Rattle.lvm_line.specs.passed.MoveLines.{IsAsked, IsMigrated, MayHaveMoved, MigratepvDoes, MovesCopies, NoGroupForMoves, NotAskedForMoves, NothingMoves, PlannedMove, after_move, after_moves, planned_moves, stages}
use Rattle.lvm_top.specs.Standing.{HasMovedSome, MayHaveCommitted, StandsForMoves}
use Rattle.lvm_top.proofs.Devices.{NothingNew, same_nothing}
use Rattle.lvm_top.proofs.LeavesLemmas.Quiet.{closed_nothing}
use Rattle.lvm_top.proofs.StandingLemmas.Tied.{held_only, tied_found, tied_only}

-- ---- the plan

-- the group stays the same
moved_id : (d : Descriptor) (moves : List PlannedMove) → (after_moves d moves).id ≡ d.id
moved_id d [] = refl
moved_id d (m ∷ moves) = moved_id (after_move d m) moves

pub some_id : (d : Descriptor) (lv : Option ℕ) (from to : ℕ) (k : Descriptor) → HasMovedSome d lv from to k → k.id ≡ d.id
some_id d lv from to k some = ap (λ (g : Descriptor). g.id) some.is ∙ moved_id d (some.first ∷ some.moved)

-- each stage of the plan is the group once some of the moves have been made
record IsStage (d : Descriptor) (plan : List PlannedMove) (k : Descriptor) : Type 0 where
  first : PlannedMove
  moved : List PlannedMove
  rest : List PlannedMove
  all : plan ≡ (first ∷ moved) ++ rest
  is : k ≡ after_moves d (first ∷ moved)

stage_of : (d : Descriptor) (plan : List PlannedMove) (k : Descriptor) → IsOneOf (stages d plan) k → IsStage d plan k
stage_of d [] k it = absurd it
stage_of d (m ∷ plan) k it = ⊎_elim
    (λ (here : k ≡ after_move d m). record { first = m; moved = []; rest = plan; all = refl; is = here })
    (λ (there : IsOneOf (stages (after_move d m) plan) k).
    let on = stage_of (after_move d m) plan k there in
    record { first = m; moved = on.first ∷ on.moved; rest = on.rest; all = ap (λ (moves : List PlannedMove). m ∷ moves) on.all; is = on.is })
    it

module _ (run : ℕ) (old new : ScriptState) (between : IsBetween old.moment old.session old.posts) (named : IfSome old.session (λ core. core.history.run ≡ run)) (may : StandsForMoves run OfRequests old new) where
  of_session : (P : Core → Type 0) (core : Core) → old.session ≡ Some core → IfSome old.session P → P core
  of_session P core some holds = subst (λ (o : Option Core). IfSome o P) some holds

  module _ (core : Core) (some : old.session ≡ Some core) where
    abbrev first_session : State
    first_session = state old.moment.device core

    was_sound : IsSound first_session
    was_sound = (of_session (IsOnBetween old.moment.device) core some between.session).sound

    was_on : core.power ≡ power.On
    was_on = (of_session (IsOnBetween old.moment.device) core some between.session).power

    same_run : core.history.run ≡ run
    same_run = of_session (λ (c : Core). c.history.run ≡ run) core some named

    pub stands_first : (past : List Fact) → RunBegins run past may.first → StandsAfter past old.moment.device core
    stands_first past begins = of_session (λ (c : Core). StandsAlone old.moment.device c → StandsAfter past old.moment.device c) core some (may.stands past begins) (of_session (StandsAlone old.moment.device) core some (may.alone.acts tt))

    -- without volumes its disks hold it
    pub empty_only : core.descriptor.lvs ≡ [] → (k : Descriptor) → MayBeFound old.moment.device core.descriptor.id k → k ≡ core.descriptor
    empty_only none k it = held_only old.moment.device core between.descriptors ((stands_first may.past may.begins).empty none).held k it

    module _ (volumes : core.descriptor.lvs ≢ []) where
      good_first : IsGood core.history.run may.first first_session
      good_first on past begins = (stands_first past (subst (λ (n : ℕ). RunBegins n past may.first) same_run begins)).tied volumes

      good_sparing : IsGoodSparing core.history.run may.first first_session
      good_sparing on past begins = (good_first on past begins, (stands_first past (subst (λ (n : ℕ). RunBegins n past may.first) same_run begins)).spares volumes)

      begun : RunBegins core.history.run may.past may.first
      begun = subst (λ (n : ℕ). RunBegins n may.past may.first) (sym same_run) may.begins

      -- the group was found before
      pub found_first : MayBeFound old.moment.device core.descriptor.id core.descriptor
      found_first = tied_found may.past first_session (good_first was_on may.past begun)

      -- ---- the copies have moved, or some of them

      module _ (lv : Option ℕ) (from to : ℕ) (answer : Reply) (its : IsMigrated lv from to core old new answer) where
        abbrev end : State
        end = its.end

        moves : MovesOn first_session end
        moves = (going_moves_on first_session end was_sound its.session.way.leaves).1

        carried_nothing : (p : Power) → CarriesBy p end old.posts old.last new → NothingNew end.device new.moment.device
        carried_nothing power.On is = same_nothing end.device new.moment.device (ap (λ (s : ScriptState). s.moment.device) is)
        carried_nothing power.Off over = closed_nothing end.core.power end.device new.moment.device over.shelf
        carried_nothing power.Dark over = closed_nothing end.core.power end.device new.moment.device over.shelf
        carried_nothing power.Stuck over = closed_nothing end.core.power end.device new.moment.device over.shelf

        end_nothing : NothingNew end.device new.moment.device
        end_nothing = by (is_unheard answer) its.leaves
          where
            by : (b : Bool) → FailsIf b end old.posts old.last new → NothingNew end.device new.moment.device
            by true over = closed_nothing end.core.power end.device new.moment.device over.shelf
            by false left = carried_nothing end.core.power left

        -- while the session is on, its descriptor alone is found of its group
        pub only_end : end.core.power ≡ power.On → (k : Descriptor) → MayBeFound new.moment.device end.core.descriptor.id k → k ≡ end.core.descriptor
        only_end on k it =
            tied_only may.past end ((moves.good may.first good_sparing).0 on may.past begun).0 (moves.descriptors between.descriptors (λ stuck. let e : power.On ≡ power.Stuck = sym on ∙ stuck in cc)) k (end_nothing end.core.descriptor.id k it)

        -- the session that goes on
        pub session_on : end.core.power ≡ power.On → is_unheard answer ≡ false → new.session ≡ Some end.core
        session_on on heard =
            let left = subst (λ (b : Bool). FailsIf b end old.posts old.last new) heard its.leaves in
            ap (λ (s : ScriptState). s.session) (subst (λ (p : Power). CarriesBy p end old.posts old.last new) on left)

        -- which is of the same group
        pub end_id : end.core.descriptor.id ≡ core.descriptor.id
        end_id = ap (λ (d : Descriptor). d.id) moves.keeps.alike

        module _ (volume : Option (List ℕ)) (asked : IsAsked core.descriptor volume from to lv) (id : ℕ) (k : Descriptor) where
          abbrev Tried : Type 0
          Tried = MayHaveCommitted (Ok (Some (command.Migratepv volume from to))) answer old new id k

          -- one that was being committed is of the plan
          planned_tried : MayHaveMoved answer → (id ≡ core.descriptor.id) × IsCommittedOn its.session.way.leaves k → Tried
          planned_tried moved committed =
              let stage = stage_of core.descriptor (planned_moves core.descriptor lv from to) k (is_planned (planned_moves core.descriptor lv from to) first_session end its.session.way k committed.1) in
              let some_moved : HasMovedSome core.descriptor lv from to k = record { first = stage.first; moved = stage.moved; rest = stage.rest; all = stage.all; is = stage.is } in
              record {
                tried = moved;
                own = committed.0 ∙ sym (some_id core.descriptor lv from to k some_moved);
                is = subst (λ (o : Option Core). IsSomeAnd o (λ (c : Core). (n : Option ℕ) × IsAsked c.descriptor volume from to n × HasMovedSome c.descriptor n from to k)) (sym some) (lv, asked, some_moved);
              }

          moved_finds : MayHaveMoved answer → MayBeFound new.moment.device id k → MayBeFound old.moment.device id k ⊎ Tried
          moved_finds moved it = ⊎_elim
              (λ before. inl before)
              (λ committed. inr (planned_tried moved committed))
              (moves_find_theirs may.first may.past first_session end its.session.way.leaves was_sound between.descriptors good_first begun
              ((stands_first may.past may.begins).spares volumes) id k (end_nothing id k it))

          pub migrated_finds : MayBeFound new.moment.device id k → MayBeFound old.moment.device id k ⊎ Tried
          migrated_finds it = ⊎_elim
              (λ moved. moved_finds moved it)
              (λ same. inl (subst (λ (s : State). MayBeFound s.device id k) same (end_nothing id k it)))
              (tried_or_same lv from to core old new answer its)

  -- what the line was to commit is a descriptor of the group
  pub own_moved : (volume : Option (List ℕ)) (from to : ℕ) (core : Core) → old.session ≡ Some core → (k : Descriptor) → IsSomeAnd old.session (λ (c : Core). (lv : Option ℕ) × IsAsked c.descriptor volume from to lv × HasMovedSome c.descriptor lv from to k) → k.id ≡ core.descriptor.id
  own_moved volume from to core some k is =
      let its = subst (λ (o : Option Core). IsSomeAnd o (λ (c : Core). (lv : Option ℕ) × IsAsked c.descriptor volume from to lv × HasMovedSome c.descriptor lv from to k)) some is in
      some_id core.descriptor its.0 from to k its.2

  -- ---- the line

  pub migratepv_finds : (answer : Reply) (volume : Option (List ℕ)) (from to : ℕ) → MigratepvDoes volume from to old new answer
      → (id : ℕ) (k : Descriptor) → MayBeFound new.moment.device id k → MayBeFound old.moment.device id k ⊎ MayHaveCommitted (Ok (Some (command.Migratepv volume from to))) answer old new id k
  migratepv_finds answer volume from to (NoGroupForMoves none is) id k it = inl (same_nothing old.moment.device new.moment.device (ap (λ (s : ScriptState). s.moment.device) is.1) id k it)
  migratepv_finds answer volume from to (NotAskedForMoves core why some not_asked is) id k it = inl (same_nothing old.moment.device new.moment.device (ap (λ (s : ScriptState). s.moment.device) is.1) id k it)
  migratepv_finds answer volume from to (NothingMoves core lv some asked none says same) id k it = inl (same_nothing old.moment.device new.moment.device (ap (λ (s : ScriptState). s.moment.device) same) id k it)
  migratepv_finds answer volume from to (MovesCopies core lv some asked volumes its) id k it = migrated_finds core some volumes lv from to answer its volume asked id k it
