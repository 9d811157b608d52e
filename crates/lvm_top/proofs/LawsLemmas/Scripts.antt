-- What is found after the lines of a script.
use Rattle.std.proofs.Common.{◌≡◌, ◌⊎◌, inl, inr, ⊎_elim, ℕ, List, [], ◌∷◌, ◌++◌, Bool, true, false, Option, Some, None, Result, Ok, Err, refl, sym, ap, subst, ◌∙◌, ◌≤◌, length}
use Rattle.std.specs.Prelude.{IsSome, IsSomeAnd, IfSome}
use Rattle.lvm_num.specs.declared.descriptor.Descriptor.{Descriptor}
use Rattle.lvm_num.proofs.Lists.{some_told}
use Rattle.lvm_disk.specs.Device.{Device, Media}
use Rattle.lvm_disk.specs.Steps.{BothTold}
use Rattle.lvm_disk.proofs.PathsLemmas.{last-path}
use Rattle.lvm_vol.specs.Facts.{Fact, Cut}
use Rattle.lvm_vol.specs.Log.{Log}
use Rattle.lvm_parse.specs.declared.command.Command.{Command}
use Rattle.lvm_parse.specs.declared.command.Command.TheVariants as command
use Rattle.lvm_parse.specs.declared.rest.Misfit.{Misfit}
use Rattle.lvm_parse.specs.Grammar.{line_of}
use Rattle.lvm_kept.specs.Moments.{Moment}
use Rattle.lvm_kept.proofs.MomentsLemmas.Chaining.{span_told, span_sizes}
use Rattle.lvm_steps.specs.Moments.{ImagesKept, Keeps}
use Rattle.lvm_steps.proofs.MomentsLemmas.Spans.{keeps_still, begins_run}
use Rattle.lvm_posts.specs.declared.posts.Post.{Post}
use Rattle.lvm_core.specs.declared.parts.Room.{Room}
use Rattle.lvm_core.specs.declared.refused.Cause.{Cause}
use Rattle.lvm_session.specs.declared.open.Power.TheVariants as power
use Rattle.lvm_session.specs.State.{Core, state}
use Rattle.lvm_line.specs.passed.Tie.{LeavesDescriptors}
use Rattle.lvm_line.specs.passed.TieCommands.{StandsAfter as StandsAfterPast}
use Rattle.lvm_line.specs.passed.Quiesce.{RefusedAtOnce, StayedOut, VaryonOnceQuiet, WentQuiet}
use Rattle.lvm_line.proofs.passed.Quiesce.{ends_only}
use Rattle.lvm_core.specs.Leaves.{MayBeFound}
use Rattle.lvm_line.specs.passed.GroupLines.{IsBetween, IsLeftByCall, IsOnBetween, VaryonDoes, NoVaryonWhileOn, Varies, itself, outcome_of, patience_of_line, IsAlone, Role, IsStuck, StandsAlone, StandsBy, ScriptState, log_with, Reply}
use Rattle.lvm_line.specs.Lines.{LineDoes, IsLine, role_of}
use Rattle.lvm_line.specs.passed.ReplyVariants as reply
use Rattle.lvm_top.specs.Script.{Says, Script, NoLine, NextLine, StaysAlone, Ends, AtLine, InLine, EndsAlone, EndsHeard, entry_state, empty_log, facts_of}
use Rattle.lvm_top.specs.Ending.{Concludes, NoneIsOn, NoneIsServed, IsServed, NothingIsLeft, TurnsAreMade}
use Rattle.lvm_top.proofs.ScriptLemmas.Concluding.{none_flies, ran_between}
use Rattle.lvm_top.proofs.Devices.{NothingNew, then_nothing, same_nothing}
use Rattle.lvm_top.proofs.LeavesLemmas.Quiet.{closed_nothing, quiet_nothing, runs_nothing}
use Rattle.lvm_top.proofs.ScriptLemmas.Scripting.{script_went, begins_timely}
use Rattle.lvm_top.specs.Laws.{MayRun, ScriptFindsWhatStands, VaryonFindsWhatStands, RunMayStart, RunFindsWhatStands}
use Rattle.lvm_top.specs.Standing.{MayHaveCommitted, StoodBefore, StandsSince, is_acknowledged, StandsOf, StandsAfter, DescriptorMayStand, MayStandAtEnd, MayMoveCopies}
use Rattle.lvm_top.proofs.StandingLemmas.Acknowledged.{leaves_on, stands_of}
use Rattle.lvm_top.proofs.LawsLemmas.Lines.{line_finds_no_more}
use Rattle.lvm_top.proofs.LeavesLemmas.Varying.{was_found}

-- ---- the lines

-- no transfer goes to a slot of descriptors after lines where none did before them
pub script_leaves : (log : Log) (room : Room) (first : ScriptState) {lines : List (List ℕ)} {replies : List Reply} {last : ScriptState} → Script log room first lines replies last → LeavesDescriptors first.moment.device → LeavesDescriptors last.moment.device
script_leaves log room first script leaves = (script_went log room first script).leaves leaves

module _ (log : Log) (room : Room) (past : List Fact) (first : ScriptState) (begin : MayRun log.run past first) where
  -- no group is on at first, so no disks stand by a session
  pub first_stands : StandsBy log.run first.moment first
  first_stands before begins = subst (λ (s : Option Core). IfSome s (λ core. StandsAlone first.moment.device core → StandsAfterPast before first.moment.device core)) (sym begin.off) tt

  pub went_so : {lines : List (List ℕ)} {replies : List Reply} {last : ScriptState} (script : Script log room first lines replies last) → StaysAlone script → Keeps log.run first.moment last.moment × StandsBy log.run first.moment last
  went_so script alone = (script_went log room first script).keeps begin.timely alone first.moment (keeps_still log.run first.moment) first_stands

  -- each crash image is kept with the history
  pub images_kept : {lines : List (List ℕ)} {replies : List Reply} {last : ScriptState} (script : Script log room first lines replies last) → StaysAlone script → ImagesKept last.moment.device (past ++ last.moment.facts)
  images_kept script alone = (last-path (went_so script alone).0 past begin.begins).kept

  -- what stands before the next line
  pub stood : {lines : List (List ℕ)} {replies : List Reply} {mid : ScriptState} (script : Script log room first lines replies mid) → StaysAlone script → (role : Role) (new : ScriptState) → IsAlone role mid new → StoodBefore log.run role mid new
  stood script alone role new now = StandsSince past first.moment (went_so script alone).1 begin.begins now

  -- and before one on which copies move
  pub may_move : {lines : List (List ℕ)} {replies : List Reply} {mid : ScriptState} (script : Script log room first lines replies mid) → StaysAlone script → (read : Result (Option Command) Misfit) (new : ScriptState) → IsAlone (role_of read) mid new → MayMoveCopies log.run read mid new
  may_move script alone (Ok (Some (command.Migratepv volume from to))) new now = record { past = past; first = first.moment; stands = (went_so script alone).1; begins = begin.begins; alone = now }
  may_move script alone read new now = tt

  -- what an acknowledged group command leaves
  acknowledged : {lines : List (List ℕ)} {replies : List Reply} {mid new : ScriptState} (line : List ℕ) (answer said : Reply) (heard : IsStuck answer → ⊥) (says : Says answer said) (before : Script log room first lines replies mid) (it : IsLine log room line answer mid new)
      → StaysAlone (NextLine line answer said heard says before it) → is_acknowledged (line_of line) answer ≡ true
      → (id : ℕ) (k : Descriptor) → MayBeFound new.moment.device id k → DescriptorMayStand before id k ⊎ MayHaveCommitted (line_of line) answer mid new id k
      → IsSomeAnd new.session (λ core. StandsOf core (DescriptorMayStand before) id k)
  acknowledged {mid = mid} {new = new} line answer said heard says before it alone acked id k found which =
      let so_far = script_went log room first before in
      let on = leaves_on log room mid new it.between it.named (it.goes.begins (so_far.timely begin.timely) (past ++ mid.moment.facts) (images_kept before alone.0)) (line_of line) answer acked (stood before alone.0 (role_of (line_of line)) new alone.1) (may_move before alone.0 (line_of line) new alone.1) it.does in
      let kept = images_kept (NextLine line answer said heard says before it) alone in
      subst (λ (s : Option Core). IsSomeAnd s (λ core. StandsOf core (DescriptorMayStand before) id k)) (sym on.on)
      (stands_of on.core (DescriptorMayStand before) id k
      (λ same. on.only (past ++ new.moment.facts) kept k (subst (λ (i : ℕ). MayBeFound new.moment.device i k) same found))
      (⊎_elim (λ stood. inl stood) (λ committed. inr (committed.own, on.own k committed.is)) which))

  -- what a line leaves of which something was heard
  line_stands : {lines : List (List ℕ)} {replies : List Reply} {mid new : ScriptState} (line : List ℕ) (answer said : Reply) (says : Says answer said) (before : Script log room first lines replies mid) (it : IsLine log room line answer mid new)
      → (IsStuck answer → ⊥) → StaysAlone before × IsAlone (role_of (line_of line)) mid new → ((id : ℕ) (k : Descriptor) → MayBeFound mid.moment.device id k → DescriptorMayStand before id k)
      → (id : ℕ) (k : Descriptor) → MayBeFound new.moment.device id k → StandsAfter (is_acknowledged (line_of line) answer) (line_of line) answer mid new (DescriptorMayStand before) id k
  line_stands {mid = mid} {new = new} line answer said says before it heard alone stands_so id k found =
      let went = script_went log room first before in
      let few : length mid.moment.device.sizes ≤ 128 = subst (λ (sizes : List ℕ). length sizes ≤ 128) (sym (span_sizes (went_so before alone.0).0)) begin.few in
      by_answer (is_acknowledged (line_of line) answer) refl (⊎_elim
      (λ was. inl (stands_so id k was))
      (λ committed. inr committed)
      (line_finds_no_more log room line answer mid new it few (went.leaves begin.leaves) heard (went.timely begin.timely) (stood before alone.0 (role_of (line_of line)) new alone.1) (may_move before alone.0 (line_of line) new alone.1) id k found))
    where
      by_answer : (t : Bool) → is_acknowledged (line_of line) answer ≡ t → DescriptorMayStand before id k ⊎ MayHaveCommitted (line_of line) answer mid new id k
          → StandsAfter t (line_of line) answer mid new (DescriptorMayStand before) id k
      by_answer true acked which = acknowledged line answer said heard says before it alone acked id k found which
      by_answer false other which = which

  pub stands : {lines : List (List ℕ)} {replies : List Reply} {last : ScriptState} (script : Script log room first lines replies last) → StaysAlone script
      → (id : ℕ) (k : Descriptor) → MayBeFound last.moment.device id k → DescriptorMayStand script id k
  stands NoLine alone id k it = it
  stands (NextLine line answer said heard says before it) alone id k found =
      line_stands line answer said says before it heard alone (stands before alone.0) id k found

  -- what is told at first is told after the lines
  pub last_told : {lines : List (List ℕ)} {replies : List Reply} {last : ScriptState} (script : Script log room first lines replies last) → StaysAlone script → IsSome last.moment.device.media
  last_told script alone = span_told (went_so script alone).0 begin.begins.told

pub script_finds : ScriptFindsWhatStands
script_finds log room past first lines replies last script begin alone = stands log room past first begin script alone

-- ---- a varyon after them

-- what was told is told once the transfers of before have ended
still_told : (o n : Option Media) → BothTold o n (λ was is. Unit {0}) → IsSome o → IsSome n
still_told (Some x) (Some y) both some = refl
still_told None n both some = absurd (cc (some))
still_told (Some x) None both some = absurd both

-- the group that is varied on is found once they have ended
varied_found : (name : List ℕ) (moment : ℕ) (room : Room) (patience : ℕ) (log : Log) (old left : Device) (core : Core) → IsSome old.media → VaryonOnceQuiet itself log name moment room patience old (Ok (left, core)) → MayBeFound old core.descriptor.id core.descriptor
varied_found name moment room patience log old left core told (RefusedAtOnce refused is first shelf history) = absurd (cc (is))
varied_found name moment room patience log old left core told (StayedOut refused is may out) = absurd (cc (is))
varied_found name moment room patience log old left core told (WentQuiet may once) =
    let comes = once.goes.gives in
    let mid_told = some_told once.mid.media (still_told old.media once.mid.media (ends_only once.quiesces.ends).media told) in
    let same : core.descriptor ≡ comes.written.group = ap (λ (c : Core). c.descriptor) comes.first.is ∙ comes.first.reserved.descriptor in
    quiet_nothing old once.mid once.quiesces core.descriptor.id core.descriptor
    (subst (λ (d : Descriptor). MayBeFound once.mid d.id d) (sym same) (was_found once.mid left name moment _ comes.written mid_told.0 mid_told.1))

pub varyon_finds : VaryonFindsWhatStands
varyon_finds log room past first lines replies last script begin alone line name new is it =
    of_varyon (subst (λ (r : Result (Option Command) Misfit). LineDoes log room r last new reply.Ok) is it.does)
  where
    of_varyon : VaryonDoes log room name last new reply.Ok → IsSomeAnd new.session (λ core. DescriptorMayStand script core.descriptor.id core.descriptor)
    of_varyon (NoVaryonWhileOn on says asked) = absurd (cc (says))
    of_varyon (Varies brings) = by_given brings.given brings.gives brings.left
      where
        by_given : (given : Result Core Cause) → VaryonOnceQuiet itself (log_with log last.moment.facts) name new.last room patience_of_line last.moment.device (outcome_of brings.shelf brings.history given)
            → IsLeftByCall brings.shelf brings.history last new reply.Ok given → IsSomeAnd new.session (λ core. DescriptorMayStand script core.descriptor.id core.descriptor)
        by_given (Ok core) gives left =
            subst (λ (s : Option Core). IsSomeAnd s (λ c. DescriptorMayStand script c.descriptor.id c.descriptor)) (sym left.2.after)
            (stands log room past first begin script alone core.descriptor.id core.descriptor
            (varied_found name new.last room patience_of_line (log_with log last.moment.facts) last.moment.device brings.shelf core (last_told log room past first begin script alone) gives))
        by_given (Err why) gives left = absurd (let e = left.answered in cc (e))

-- ---- runs

pub run_may_start : RunMayStart
run_may_start run entry past few ready behind earlier = record { off = refl; few = few; leaves = none_flies entry ready.flights; timely = begins_timely run entry ready.flights behind; begins = begins_run run entry past earlier }

-- where it ends
module _ (log : Log) (room : Room) (past : List Fact) (first : ScriptState) (begin : MayRun log.run past first) {lines : List (List ℕ)} {replies : List Reply} {mid : ScriptState}
    (script : Script log room first lines replies mid) where
  end_stands : {last : ScriptState} {done : List (List ℕ)} {said : List Reply} {front : List ℕ} (ends : Ends log room mid last done said front) → EndsHeard ends → StaysAlone script × EndsAlone ends
      → (id : ℕ) (k : Descriptor) → MayBeFound last.moment.device id k → MayStandAtEnd ends (DescriptorMayStand script) id k
  end_stands (AtLine same) heard alone id k found = stands log room past first begin script alone.0 id k (subst (λ (s : ScriptState). MayBeFound s.moment.device id k) same found)
  end_stands (InLine line answer said front rest says split it) heard alone id k found =
      line_stands log room past first begin line answer said says script it heard alone (stands log room past first begin script alone.0) id k found

-- nothing is found by the turns behind the last line
pub concluded_nothing : (run : ℕ) (end exit : Moment) (on : Option Core) (posts : List Post) → IsBetween end on posts → Concludes run end exit on → NothingNew end.device exit.device
concluded_nothing run end exit on posts between (NoneIsOn none same) = same_nothing end.device exit.device (ap (λ (m : Moment). m.device) same)
concluded_nothing run end exit on posts between (NoneIsServed core some empty same) = same_nothing end.device exit.device (ap (λ (m : Moment). m.device) same)
concluded_nothing run end exit on posts between (IsServed core some vols named facts (NothingIsLeft rests device entries)) = closed_nothing power.On end.device exit.device device
concluded_nothing run end exit on posts between (IsServed core some vols named facts (TurnsAreMade last moving turns runs sound closed entries)) =
    then_nothing end.device last.device exit.device (runs_nothing (state end.device core) last (subst (λ (o : Option Core). IfSome o (IsOnBetween end.device)) some between.session).sound between.descriptors runs) (closed_nothing last.core.power last.device exit.device closed)

pub run_finds : RunFindsWhatStands
run_finds r ran past few ready behind earlier alone heard id k found =
    let begin = run_may_start r.named r.entry past few ready behind earlier in
    end_stands (empty_log r.named r.room) r.room (past ++ Cut ∷ []) (entry_state r.entry r.named) begin ran.lines.script ran.lines.ends (ran.heard heard) (alone.0, alone.1) id k
    (concluded_nothing r.named ran.end.moment (record { device = r.exit; facts = facts_of r.history }) ran.end.session ran.end.posts (ran_between r ran heard) ran.concluded.concludes id k found)
