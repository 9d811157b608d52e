-- Runs of a workload.
use Rattle.std.proofs.Common.{◌≡◌, ◌≢◌, ◌⊎◌, inl, inr, ⊎_elim, ◌≤◌, ◌+◌, ◌-◌, ◌*◌, ◌++◌, ℕ, List, [], ◌∷◌, Option, Some, None, IfSome, Result, length, Bool, true, false, refl, sym, ◌∙◌, ap, subst, append_assoc, arith}
use Rattle.std.specs.Prelude.{IsSomeAnd}
use Rattle.std.proofs.lemmas.List.{append-nil}
use Rattle.lvm_disk.specs.Device.{Device, IsReady}
use Rattle.lvm_disk.specs.Paths.{DeviceStep, Path}
use Rattle.lvm_order_laws.specs.Alone.{IsUnharmed, NothingCounted}
use Rattle.lvm_order_laws.proofs.AloneLemmas.{heeds_always, same_harmless, stays_unharmed}
use Rattle.lvm_io.specs.Count.{Rose, next_count}
use Rattle.lvm_io.specs.Stream.{WhereTold, WritesFront}
use Rattle.lvm_io.proofs.StreamLemmas.Told.{told_on}
use Rattle.lvm_vol.specs.Facts.{Cut, Fact, joined}
use Rattle.lvm_vol.specs.Legal.{Legal}
use Rattle.lvm_vol.specs.Log.{Log}
use Rattle.lvm_kept.specs.Moments.{Moment}
use Rattle.lvm_steps.specs.Moments.{ImagesKept, IsUpheld, Keeps}
use Rattle.lvm_steps.proofs.MomentsLemmas.Spans.{keeps_still, span_upholds}
use Rattle.lvm_steps.specs.Behind.{IsAhead, StampsAreEarlier}
use Rattle.lvm_parse.specs.Grammar.{line_of}
use Rattle.lvm_parse.specs.declared.command.Command.{Command}
use Rattle.lvm_parse.specs.declared.rest.Misfit.{Misfit}
use Rattle.lvm_core.specs.declared.parts.Room.{Room}
use Rattle.lvm_posts.specs.declared.posts.Post.{Post}
use Rattle.lvm_session.specs.declared.open.Power.TheVariants as power
use Rattle.lvm_session.specs.Judging.{is_moving}
use Rattle.lvm_session.specs.State.{Core, State, state}
use Rattle.lvm_top.proofs.passed.RangeLines.{none_moves}
use Rattle.lvm_load.specs.declared.totals.Totals.{Totals}
use Rattle.lvm_load.specs.declared.workload.Workload.{Workload}
use Rattle.lvm_load.specs.declared.workload.Woven.{Woven}
use Rattle.lvm_load.specs.Ends.{HasCauses}
use Rattle.lvm_load.specs.Totals.{entries_since, totals_of}
use Rattle.lvm_load.specs.Weaving.{Weaves, Weaving}
use Rattle.lvm_load.proofs.FactsLemmas.{Gains, begun_still, gains_none, gains_then, turn_gains, weave_gains}
use Rattle.lvm_top.specs.passed.HolderVariants as holder
use Rattle.lvm_top.specs.passed.Tie.{RunsOn}
use Rattle.lvm_top.specs.passed.RefusalVariants as refusal
use Rattle.lvm_top.specs.passed.ReplyVariants as reply
use Rattle.lvm_top.specs.passed.Lines.{IsLine, asked_after, role_of}
use Rattle.lvm_top.specs.passed.GroupLines.{Holder, IsBetween, IsBetweenStage, IsOfKind, IsAlone, IsStuck, IsTimely, OfRequests, Reply, Stage, StandsAlone, StandsBy, ScriptState, history_in, history_of, moment_in, most_refusals, session_in, session_of, shelf_of, state_in, without_facts}
use Rattle.lvm_top.specs.declared.run.Ended.{Ended}
use Rattle.lvm_top.specs.declared.status.ExitStatus.{ExitStatus}
use Rattle.lvm_top.specs.declared.status.ExitStatus.TheVariants as ended
use Rattle.lvm_top.proofs.passed.Tie.{path_frames, goes_any}
use Rattle.lvm_program.specs.Program.{PromisesWovenBlank}
use Rattle.lvm_top.specs.passed.Line.{IsOrder, LacksOnTheWay}
use Rattle.lvm_program.specs.Heeding.{IsNoOrder, IsShortOfVotes, IsTroubled}
use Rattle.lvm_program.proofs.HeedingLemmas.{closed_orders, concludes_orders, device_path, untroubled}
use Rattle.lvm_top.specs.Laws.{MayRun}
use Rattle.lvm_top.specs.Plain.{FindsOneGroup}
use Rattle.lvm_top.specs.OneGroup.{IsUnforced}
use Rattle.lvm_top.specs.Run.{Run, exit_state, ran}
use Rattle.lvm_top.specs.Standing.{HasFewDisks}
use Rattle.lvm_top.specs.Script.{NextLine, NoLine, Passage, Stream, empty_log, entry_state, facts_of}
use Rattle.lvm_top.specs.Blank.{IsToldBlank}
use Rattle.lvm_program.specs.Sim.{full_room, sim_device}
use Rattle.lvm_program.specs.Woven.{AreMadeAlone, Drawn, EndsWoven, Exit, GoesWoven, HasAsked, HasGroup, IsDrawn, IsMade, IsMadeForCause, HasServed, SessionIsServing, IsSized, IsWoven, IsWovenAlone, NoGroup, NotMade, PromisesWoven, TellsWoven, TurnsBehind, asked_woven, exit_from, exit_of, mklv_line, mkvg_line, refusal_text, status_woven, totals_text, untold, woven_text}
use Rattle.lvm_top.proofs.MomentsLemmas.{told_behind, told_earlier}
use Rattle.lvm_program.proofs.WovenLemmas.Landing.{ends_well}
use Rattle.lvm_program.proofs.WovenLemmas.Making.{group_reads, group_unforced, volume_reads, volume_unforced}
use Rattle.lvm_program.proofs.SimLemmas.{sim_few, sim_told, sim_unharmed}
use Rattle.lvm_top.proofs.ScriptLemmas.Concluding.{Concluded, closed_concluded, concluded, each_is_ahead, off_still}
use Rattle.lvm_top.proofs.TurnLemmas.{stuck_is_off}
use Rattle.lvm_top.proofs.OneGroupLemmas.{alone_so, blank_finds_one, not_more, script_one}
use Rattle.lvm_top.proofs.RefusedLemmas.{line_caused}
use Rattle.lvm_top.proofs.ScriptLemmas.Scripting.{begins_timely, through}
use Rattle.lvm_top.proofs.LawsLemmas.Scripts.{run_may_start}
use Rattle.lvm_top.proofs.RunLemmas.Stopping.{how_stopped}
use Rattle.lvm_top.proofs.EndingLemmas.{each_turn}
use Rattle.lvm_top.proofs.StandingLemmas.Volumes.{mklv_serves}

-- ---- the lines that make the volume

-- What they leave: while the clock is ahead, and no other group is found, a span goes on; the next line may begin unless nothing was heard of a transfer.
pub record MakesSo (run : ℕ) (Alone : Type 0) (answer : Reply) (first last : ScriptState) : Type 0 where
  pub keeps : IsTimely run first → Alone → (begun : Moment) → Keeps run begun first.moment → StandsBy run begun first → Keeps run begun last.moment × ((IsStuck answer → ⊥) → StandsBy run begun last)
  pub timely : (IsStuck answer → ⊥) → IsTimely run first → IsTimely run last
  pub left : IsTimely run first → IsAhead run (last.last + 1) last.moment.device last.moment.facts
  pub between : (IsStuck answer → ⊥) → IsBetween last.moment last.session last.posts
  pub stuck : IsStuck answer → last.session ≡ None
  pub power : last.moment.device.power ≡ true
  pub clock : first.last ≤ last.last

pub ok_heard : IsStuck reply.Ok → ⊥
ok_heard e = cc e

pub makes_so : (log : Log) (room : Room) (group volume : List ℕ) (first : ScriptState) (answer : Reply) (last : ScriptState) (made : IsMade log room group volume first answer last) → MakesSo log.run (AreMadeAlone made) answer first last
makes_so log room group volume first answer last (NoGroup not it) = record {
  keeps = λ timely alone begun span stands. it.goes.keeps timely alone begun span stands;
  timely = it.goes.timely;
  left = it.goes.left;
  between = it.goes.between;
  stuck = stuck_is_off log room group first last answer it;
  power = it.goes.power;
  clock = it.goes.clock;
}
makes_so log room group volume first answer last (HasGroup mid makes it) = record {
  keeps = λ timely alone begun span stands.
      let so_far = makes.goes.keeps timely alone.0 begun span stands in
      it.goes.keeps (makes.goes.timely ok_heard timely) alone.1 begun so_far.0 (so_far.1 ok_heard);
  timely = λ heard timely. it.goes.timely heard (makes.goes.timely ok_heard timely);
  left = λ timely. it.goes.left (makes.goes.timely ok_heard timely);
  between = it.goes.between;
  stuck = stuck_is_off log room volume mid last answer it;
  power = it.goes.power;
  clock = let a = makes.goes.clock in let b = it.goes.clock in omega (arith, a, b);
}

-- What holds of them where one group may be found at first: there is no other, and none comes.
pub record LinesAlone {log : Log} {room : Room} {group volume : List ℕ} {first : ScriptState} {answer : Reply} {last : ScriptState} (made : IsMade log room group volume first answer last) : Type 0 where
  pub alone : AreMadeAlone made
  pub finds : (IsStuck answer → ⊥) → FindsOneGroup last.moment.device

module _ (log : Log) (room : Room) (past : List Fact) (group volume : List ℕ) (first : ScriptState) (begin : MayRun log.run past first) (one : FindsOneGroup first.moment.device)
    (no_force : IsUnforced group) (nor_force : IsUnforced volume) where
  pub lines_alone : (answer : Reply) (last : ScriptState) (made : IsMade log room group volume first answer last) → LinesAlone made
  lines_alone answer last (NoGroup not it) = record {
    alone = alone_so (role_of (line_of group)) first last one;
    finds = λ heard. (script_one log room past first begin one (NextLine group answer answer heard (inl refl) NoLine it) (tt, no_force)).finds_one;
  }
  lines_alone answer last (HasGroup mid makes it) =
      let so_far = script_one log room past first begin one (NextLine group reply.Ok reply.Ok ok_heard (inl refl) NoLine makes) (tt, no_force) in
      record {
        alone = (so_far.alone.1, alone_so (role_of (line_of volume)) mid last so_far.finds_one);
        finds = λ heard.
            (script_one log room past first begin one (NextLine volume answer answer heard (inl refl) (NextLine group reply.Ok reply.Ok ok_heard (inl refl) NoLine makes) it) ((tt, no_force), nor_force)).finds_one;
      }

-- ---- the workload

-- turns and calls don't leave a session stuck that was on
pub runs_unstuck : (old new : State) → RunsOn old new → old.core.power ≡ power.On → new.core.power ≡ power.Stuck → ⊥
runs_unstuck old new runs on stuck = by (path_frames runs).keeps.power
  where
    by : (new.core.power ≡ old.core.power) ⊎ (new.core.power ≡ power.Dark) ⊎ ((old.core.power ≡ power.On) × (new.core.power ≡ power.Off)) → ⊥
    by (inl same) = let e = sym on ∙ sym same ∙ stuck in cc e
    by (inr (inl dark)) = let e = sym dark ∙ stuck in cc e
    by (inr (inr off)) = let e = sym off.1 ∙ stuck in cc e

pub drawn_concluded : (end : ScriptState) (exit : Moment) → IsBetween end.moment end.session end.posts → (core : Core) → end.session ≡ Some core → core.descriptor.lvs ≢ [] → end.moment.facts ≡ core.history.facts → (run : ℕ) → core.history.run ≡ run
    → (blocks : ℕ) (load : Workload) (woven : Woven) → IsDrawn blocks load (state end.moment.device core) exit woven → Concluded run end exit
drawn_concluded end exit between core some vols facts run named blocks load woven drawn =
    closed_concluded run end exit between core some vols facts named drawn.end (runs_unstuck (state end.moment.device core) drawn.end drawn.runs on) (goes_any drawn.runs) drawn.sound drawn.closed drawn.facts
  where
    on : core.power ≡ power.On
    on = (subst (λ (o : Option Core). IsBetween end.moment o end.posts) some between).session.power

-- the lines are those that are named
pub made_by : (log : Log) (room : Room) (group group1 volume volume1 : List ℕ) (first : ScriptState) (answer : Reply) (last : ScriptState) → group ≡ group1 → volume ≡ volume1 → IsMade log room group volume first answer last → IsMade log room group1 volume1 first answer last
made_by log room group group1 volume volume1 first answer last is_group is_volume made =
    subst (λ (l : List ℕ). IsMade log room l volume1 first answer last) is_group (subst (λ (l : List ℕ). IsMade log room group l first answer last) is_volume made)

-- where the last is answered `ok` a session is on that serves requests
pub made_serves : (log : Log) (room : Room) (disks mib : ℕ) → IsSized disks mib → (first : ScriptState) (answer : Reply) (last : ScriptState) → IsMade log room (mkvg_line disks) (mklv_line disks mib) first answer last → answer ≡ reply.Ok → SessionIsServing last.session
made_serves log room disks mib sized first answer last (NoGroup not it) ok = absurd (not ok)
made_serves log room disks mib sized first answer last (HasGroup mid makes it) ok =
    let on = mklv_serves log room (mklv_line disks mib) mid last _ _ _ _ _ _ (volume_reads disks mib sized) (subst (λ (a : Reply). IsLine log room (mklv_line disks mib) a mid last) ok it) in
    subst SessionIsServing (sym on.1) on.2

-- a refusal of them has its cause
pub made_caused : (log : Log) (room : Room) (group volume : List ℕ) (first : ScriptState) (answer : Reply) (last : ScriptState) (made : IsMade log room group volume first answer last) → IsMadeForCause made
made_caused log room group volume first answer last (NoGroup not it) = line_caused log room group answer first last it
made_caused log room group volume first answer last (HasGroup mid makes it) = line_caused log room volume answer mid last it

-- the lines answer at most two refusals
pub made_few : (log : Log) (room : Room) (group volume : List ℕ) (first : ScriptState) (answer : Reply) (last : ScriptState) → IsMade log room group volume first answer last → first.posts ≡ [] → most_refusals answer ≤ 2
made_few log room group volume first answer last (NoGroup not it) none =
    let few = it.goes.few in let zero : length first.posts ≡ 0 = ap (λ (l : List Post). length l) none in omega (arith, few, zero)
made_few log room group volume first answer last (HasGroup mid makes it) none =
    let first_few = makes.goes.few in let few = it.goes.few in let zero : length first.posts ≡ 0 = ap (λ (l : List Post). length l) none in omega (arith, first_few, few, zero)

-- ---- what is told

-- the front of a text that was written, and what is left of it
record Part (text : List ℕ) (before after : Option (List ℕ)) : Type 0 where
  pub front : List ℕ
  pub rest : List ℕ
  pub split : text ≡ front ++ rest
  pub written : WhereTold before after (λ a b. b ≡ a ++ front)

part_of : (text : List ℕ) (before after : Option (List ℕ)) → WhereTold before after (λ a b. WritesFront text a b) → Part text before after
part_of text None None part = record { front = []; rest = text; split = refl; written = tt }
part_of text (Some a) (Some b) part = record { front = part.front; rest = part.rest; split = part.split; written = part.written }
part_of text None (Some b) part = absurd part
part_of text (Some a) None part = absurd part

module _ (woven : Woven) (requests : ℕ) (status : ExitStatus) (before : Option (List ℕ)) (faults : ℕ) where
  abbrev Tells : Option (List ℕ) → ℕ → Type 0
  Tells after later = TellsWoven woven requests status (through before faults after later)

  -- the sink failed in the refusal
  pub told_none : (text : List ℕ) (after : Option (List ℕ)) (later : ℕ) → status ≡ status_woven woven requests (Some ended.SinkFault) → text ≡ refusal_text woven → WhereTold before after (λ a b. WritesFront text a b) → Rose faults later → Tells after later
  told_none text after later is same writes rose =
      let part = part_of (refusal_text woven) before after (subst (λ (t : List ℕ). WhereTold before after (λ a b. WritesFront t a b)) same writes) in
      record {
        failed = Some ended.SinkFault;
        only = inl refl;
        status_is = is;
        front = part.front;
        rest = part.rest ++ totals_text woven.totals;
        split = ap (λ (t : List ℕ). t ++ totals_text woven.totals) part.split ∙ append_assoc part.front part.rest (totals_text woven.totals);
        written = part.written;
        whole = λ e. absurd (cc e);
        memory = λ e. absurd (cc e);
        sink = λ e. rose;
        well = λ no. absurd (no refl);
      }

  -- it was written whole
  module _ (first : List ℕ) (mid : Option (List ℕ)) (counted : ℕ) (refused : first ≡ refusal_text woven) (whole : WhereTold before mid (λ a b. b ≡ a ++ first)) (well : counted ≡ faults) where
    told_refusal : WhereTold before mid (λ a b. b ≡ a ++ refusal_text woven)
    told_refusal = subst (λ (t : List ℕ). WhereTold before mid (λ a b. b ≡ a ++ t)) refused whole

    -- a text behind it
    behind : (text : List ℕ) (after : Option (List ℕ)) → WhereTold mid after (λ a b. b ≡ a ++ text) → WhereTold before after (λ a b. b ≡ a ++ (refusal_text woven ++ text))
    behind text after more = told_on before mid after (λ a b. b ≡ a ++ refusal_text woven) (λ a b. b ≡ a ++ text) (λ a b. b ≡ a ++ (refusal_text woven ++ text))
        (λ a b c one two. two ∙ ap (λ (t : List ℕ). t ++ text) one ∙ append_assoc a (refusal_text woven) text) told_refusal more

    -- and no memory was found for more
    pub told_first : status ≡ status_woven woven requests (Some ended.Memory) → Tells mid counted
    told_first is = record {
      failed = Some ended.Memory;
      only = inr refl;
      status_is = is;
      front = refusal_text woven;
      rest = totals_text woven.totals;
      split = refl;
      written = told_refusal;
      whole = λ e. absurd (cc e);
      memory = λ e. refl;
      sink = λ e. absurd (cc e);
      well = λ no. well;
    }

    module _ (text : List ℕ) (told : text ≡ totals_text woven.totals) (after : Option (List ℕ)) (later : ℕ) where
      -- and so were the lines behind it
      pub told_all : status ≡ status_woven woven requests None → WhereTold mid after (λ a b. b ≡ a ++ text) → later ≡ counted → Tells after later
      told_all is more stays = record {
        failed = None;
        only = tt;
        status_is = is;
        front = woven_text woven;
        rest = [];
        split = sym (append-nil (woven_text woven));
        written = behind (totals_text woven.totals) after (subst (λ (t : List ℕ). WhereTold mid after (λ a b. b ≡ a ++ t)) told more);
        whole = λ e. refl;
        memory = λ e. absurd (cc e);
        sink = λ e. absurd (cc e);
        well = λ no. stays ∙ well;
      }

      -- or the sink failed in them
      pub told_some : status ≡ status_woven woven requests (Some ended.SinkFault) → WhereTold mid after (λ a b. WritesFront text a b) → Rose counted later → Tells after later
      told_some is writes rose =
          let part = part_of (totals_text woven.totals) mid after (subst (λ (t : List ℕ). WhereTold mid after (λ a b. WritesFront t a b)) told writes) in
          record {
            failed = Some ended.SinkFault;
            only = inl refl;
            status_is = is;
            front = refusal_text woven ++ part.front;
            rest = part.rest;
            split = ap (λ (t : List ℕ). refusal_text woven ++ t) part.split ∙ sym (append_assoc (refusal_text woven) part.front part.rest);
            written = behind part.front after part.written;
            whole = λ e. absurd (cc e);
            memory = λ e. absurd (cc e);
            sink = λ e. subst (λ n. Rose n later) well rose;
            well = λ no. absurd (no refl);
          }

-- ---- the totals behind further turns

-- no request begins in them
turns_begin : (waiting : Bool) (last end : State) → TurnsBehind waiting last end → Gains 0 last.core.history.facts end.core.history.facts
turns_begin true last end same = subst (λ (s : State). Gains 0 last.core.history.facts s.core.history.facts) (sym same) (gains_none last.core.history.facts)
turns_begin false last end turns =
    each_turn (λ old new. Gains 0 old.core.history.facts new.core.history.facts) (λ s. gains_none s.core.history.facts)
    (λ a b c one two. gains_then 0 0 a.core.history.facts b.core.history.facts c.core.history.facts one two) turn_gains last end turns

-- so what isn't begun has its causes by the totals that are told there
pub causes_still : (lv blocks requests : ℕ) (start : Weaving) (last end : State) (woven : Woven) (totals : Totals) → Weaves lv blocks requests start last woven.waiting → HasCauses lv blocks requests start last woven
    → woven.totals ≡ totals_of requests (entries_since (length start.session.core.history.facts) last.core.history.facts) → TurnsBehind woven.waiting last end
    → totals ≡ totals_of requests (entries_since (length start.session.core.history.facts) end.core.history.facts) → HasCauses lv blocks requests start last (record { totals = totals; waiting = woven.waiting })
causes_still lv blocks requests start last end woven totals weaves causes told turns tells =
    let grown = weave_gains lv blocks requests start last woven.waiting weaves in
    let same = begun_still grown.0 start.session.core.history.facts last.core.history.facts end.core.history.facts grown.1 (turns_begin woven.waiting last end turns) in
    let begun : totals.begun ≡ woven.totals.begun = ap (λ (t : Totals). t.begun) tells ∙ same ∙ sym (ap (λ (t : Totals). t.begun) told) in
    let unbegun : totals.unbegun ≡ woven.totals.unbegun = ap (λ (t : Totals). t.unbegun) tells ∙ ap (λ n. requests - n) same ∙ sym (ap (λ (t : Totals). t.unbegun) told) in
    record {
      all = let all = causes.all in omega (arith, begun, unbegun, all);
      unbegun = λ some. causes.unbegun (omega (arith, unbegun, some));
      waiting = causes.waiting;
    }

-- ---- how often the clock is asked

module _ (disks mib : ℕ) (sized : IsSized disks mib) (group volume : List ℕ) (is_group : group ≡ mkvg_line disks) (is_volume : volume ≡ mklv_line disks mib) (asked begun now : ℕ) (once : begun ≡ next_count asked) where
  group_asks : asked_after (line_of group) begun ≡ next_count begun
  group_asks = ap (λ (l : List ℕ). asked_after (line_of l) begun) is_group ∙ ap (λ (read : Result (Option Command) Misfit). asked_after read begun) (group_reads disks sized.0 sized.1)

  volume_asks : (n : ℕ) → asked_after (line_of volume) n ≡ n
  volume_asks n = ap (λ (l : List ℕ). asked_after (line_of l) n) is_volume ∙ ap (λ (read : Result (Option Command) Misfit). asked_after read n) (volume_reads disks mib sized)

  twice : HasAsked group volume begun now → now ≡ next_count (next_count asked)
  twice (inl one) = one ∙ group_asks ∙ ap next_count once
  twice (inr both) = both ∙ volume_asks (asked_after (line_of group) begun) ∙ group_asks ∙ ap next_count once

  pub asks_so : (P : Log → Type 0) (h : Option Log) → IsSomeAnd h P → HasAsked group volume begun now → now ≡ asked_woven h asked
  asks_so P None some has = absurd some
  asks_so P (Some log) some has = twice has

-- ---- what holds the shelf

module _ {S : Type 0} (device : S → Device) (blocks : ℕ) (load : Workload) (answer : Reply) (exit : Exit) (ok : answer ≡ reply.Ok) where
  abbrev EndsAt : Holder S → Type 0
  EndsAt h = EndsWoven blocks load answer (history_of h).run (record { device = device (shelf_of h); facts = (history_of h).facts }) (session_of h) exit

  pub serving_ends : (driver : S × Core) (h : Holder S) → h ≡ holder.Serving driver → IsOfKind h → HasServed blocks load (state (device driver.0) driver.1) exit → EndsAt h
  serving_ends driver h is kind served = subst (λ (k : Holder S). IsOfKind k → EndsAt k) (sym is) (λ vols. Drawn ok driver.1 refl vols refl refl served) kind

-- what holds of the stage with its holder holds with what that is
module _ {S : Type 0} (device : S → Device) (old : Stage S) (h : Holder S) (is : old.holder ≡ h) where
  abbrev At : Holder S → Stage S
  At k = record { holder = k; posts = old.posts; bytes = old.bytes }

  pub between_at : IsBetweenStage device old → IsBetweenStage device (At h)
  between_at between = subst (λ (k : Holder S). IsBetweenStage device (At k)) is between

  pub rooms_at : (o : Option Log) → IsSomeAnd o (λ log. without_facts log ≡ without_facts (history_of h)) → IsSomeAnd o (λ log. without_facts log ≡ without_facts (history_in old))
  rooms_at o rooms = subst (λ (k : Holder S). IsSomeAnd o (λ log. without_facts log ≡ without_facts (history_of k))) (sym is) rooms

-- a session that serves requests is on between two lines
pub serving_on : {S : Type 0} (device : S → Device) (old : Stage S) (driver : S × Core) → old.holder ≡ holder.Serving driver → IsBetweenStage device old → driver.1.power ≡ power.On
serving_on device old driver is between = (between_at device old (holder.Serving driver) is between).session.power

pub serving_unmoved : {S : Type 0} (device : S → Device) (old : Stage S) (driver : S × Core) → old.holder ≡ holder.Serving driver → IsBetweenStage device old → is_moving driver.1 ≡ false
serving_unmoved device old driver is between = none_moves driver.1 (between_at device old (holder.Serving driver) is between).session.copy

-- ---- the end

-- What follows the lines: nothing, where nothing was heard of a transfer; or what keeps the span.
pub data ConcludesSo (run : ℕ) (answer : Reply) (end : ScriptState) (exit : Moment) : Type 0 where
  Unheard : IsStuck answer → exit ≡ end.moment → ConcludesSo run answer end exit
  Heard : (IsStuck answer → ⊥) → Concluded run end exit → ConcludesSo run answer end exit

pub concludes_so : (blocks : ℕ) (load : Workload) (answer : Reply) (run : ℕ) (end : ScriptState) (exit : Exit) → EndsWoven blocks load answer run end.moment end.session exit
    → (IsStuck answer → end.session ≡ None) → ((IsStuck answer → ⊥) → IsBetween end.moment end.session end.posts) → ConcludesSo run answer end exit.moment
concludes_so blocks load answer run end exit (NotMade not it) off between = ⊎_elim
    (λ stuck. let is = it.tells.stuck.0 stuck in Unheard is (off_still run end.moment exit.moment end.session it.concludes (off is)))
    (λ heard. let not_stuck : IsStuck answer → ⊥ = λ is. heard (it.tells.stuck.1 is) in Heard not_stuck (concluded run end exit.moment it.concludes (between not_stuck)))
    (how_stopped it.stop)
concludes_so blocks load answer run end exit (Drawn ok core some vols named facts served) off between =
    let heard : IsStuck answer → ⊥ = λ is. ok_heard (sym ok ∙ is) in
    Heard heard (drawn_concluded end exit.moment (between heard) core some vols facts run named blocks load served.woven served.drawn)

pub lit : (run : ℕ) (answer : Reply) (end : ScriptState) (exit : Moment) → ConcludesSo run answer end exit → end.moment.device.power ≡ true → exit.device.power ≡ true
lit run answer end exit (Unheard stuck same) on = subst (λ (m : Moment). m.device.power ≡ true) (sym same) on
lit run answer end exit (Heard heard its) on = its.power

-- ---- a run

module _ (disks mib : ℕ) (load : Workload) (r : Run) (ready : IsReady r.entry) (goes : GoesWoven disks mib load r) where
  abbrev start : Moment
  start = record { device = r.entry; facts = [] }

  made : MakesSo r.named (AreMadeAlone goes.made) goes.answer (entry_state r.entry r.named) goes.end
  made = makes_so (empty_log r.named r.room) r.room (mkvg_line disks) (mklv_line disks mib) (entry_state r.entry r.named) goes.answer goes.end goes.made

  pub its_end : ConcludesSo r.named goes.answer goes.end (exit_from r).moment
  its_end = concludes_so (2048 * (mib - 2)) load goes.answer r.named goes.end (exit_from r) goes.ends made.stuck made.between

  timely : StampsAreEarlier r.named r.entry → IsTimely r.named (entry_state r.entry r.named)
  timely clock = begins_timely r.named r.entry ready.flights clock

  -- a span leads from the entry to the exit
  pub spanned : StampsAreEarlier r.named r.entry → IsWovenAlone goes → Keeps r.named start (exit_from r).moment
  spanned clock alone = by its_end (made.keeps (timely clock) alone.0 start (keeps_still r.named start) (λ past begins. tt))
    where
      by : ConcludesSo r.named goes.answer goes.end (exit_from r).moment → Keeps r.named start goes.end.moment × ((IsStuck goes.answer → ⊥) → StandsBy r.named start goes.end) → Keeps r.named start (exit_from r).moment
      by (Unheard stuck same) kept = subst (Keeps r.named start) (sym same) kept.0
      by (Heard heard its) kept = its.keeps (made.timely heard (timely clock)) alone.1 start kept.0 (kept.1 heard)

  pub woven_ahead : StampsAreEarlier r.named r.entry → IsAhead r.named (r.last + 1) r.exit (facts_of r.history)
  woven_ahead clock = subst (λ n. IsAhead r.named (n + 1) r.exit (facts_of r.history)) goes.clock (by its_end)
    where
      by : ConcludesSo r.named goes.answer goes.end (exit_from r).moment → IsAhead r.named (goes.end.last + 1) r.exit (facts_of r.history)
      by (Unheard stuck same) = subst (λ (m : Moment). IsAhead r.named (goes.end.last + 1) m.device m.facts) (sym same) (made.left (timely clock))
      by (Heard heard its) = each_is_ahead r.named (goes.end.last + 1) r.exit (facts_of r.history) (its.left (made.timely heard (timely clock)))

  pub woven_upheld : IsWovenAlone goes → StampsAreEarlier r.named r.entry → IsUpheld r.named r.entry r.exit (facts_of r.history)
  woven_upheld alone clock = span_upholds r.named r.entry r.exit (facts_of r.history) (spanned clock alone)

  -- over disks of zeros no group is found but its own
  module _ (sized : IsSized disks mib) (few : HasFewDisks r.entry) (blank : IsToldBlank r.entry) where
    pub woven_alone : IsWovenAlone goes
    woven_alone =
        let begin = run_may_start r.named r.entry [] few ready (told_behind r.named r.entry blank) (told_earlier r.named r.entry blank) in
        let own = lines_alone (empty_log r.named r.room) r.room ([] ++ Cut ∷ []) (mkvg_line disks) (mklv_line disks mib) (entry_state r.entry r.named) begin (blank_finds_one r.entry blank)
        (group_unforced disks mib sized) (volume_unforced disks mib sized) goes.answer goes.end goes.made
        in
        (own.alone, by its_end own.finds)
      where
        by : ConcludesSo r.named goes.answer goes.end (exit_from r).moment → ((IsStuck goes.answer → ⊥) → FindsOneGroup goes.end.moment.device) → IsAlone OfRequests goes.end (exit_state r.exit r.history goes.end)
        by (Unheard stuck same) finds = record {
          enters = λ enters. absurd (not_more goes.end.moment.facts (facts_of r.history) (ap (λ (m : Moment). m.facts) same) enters);
          acts = λ acting. subst (λ (o : Option Core). IfSome o (StandsAlone goes.end.moment.device)) (sym (made.stuck stuck)) tt;
        }
        by (Heard heard its) finds = alone_so OfRequests goes.end (exit_state r.exit r.history goes.end) (finds heard)

    pub woven_first : Legal (joined [] (facts_of r.history)) × ImagesKept r.exit (joined [] (facts_of r.history))
    woven_first =
        let upheld = woven_upheld woven_alone (told_behind r.named r.entry blank) in
        let earlier = told_earlier r.named r.entry blank in
        (upheld.legal [] earlier, upheld.kept [] earlier)

-- ---- a shelf that heeds orders alone

-- the run orders nothing
-- a line that lacks no votes on its way isn't answered so
lacks_none : (read : Result (Option Command) Misfit) (answer : Reply) (old : ScriptState) → ((have total : ℕ) → LacksOnTheWay read have total old → ⊥) → IsShortOfVotes read answer old → ⊥
lacks_none read (reply.Refused (refusal.WentOff have total)) old has short = has have total short
lacks_none read other old has short = short

has_its_votes : {read parsed : Result (Option Command) Misfit} (answer : Reply) (old : ScriptState) → read ≡ parsed → ((have total : ℕ) → LacksOnTheWay parsed have total old → ⊥) → IsShortOfVotes read answer old → ⊥
has_its_votes {parsed = parsed} answer old is has short = lacks_none parsed answer old has (subst (λ (read : Result (Option Command) Misfit). IsShortOfVotes read answer old) is short)

module _ (log : Log) (room : Room) (disks mib : ℕ) (sized : IsSized disks mib) where
  no_group_order : IsNoOrder (mkvg_line disks)
  no_group_order order = subst IsOrder (group_reads disks sized.0 sized.1) order

  no_volume_order : IsNoOrder (mklv_line disks mib)
  no_volume_order order = subst IsOrder (volume_reads disks mib sized) order

  made_orders : (first : ScriptState) (answer : Reply) (last : ScriptState) → IsMade log room (mkvg_line disks) (mklv_line disks mib) first answer last → last.moment.device.orders ≡ first.moment.device.orders
  made_orders first answer last (NoGroup not it) = it.orders no_group_order
  made_orders first answer last (HasGroup mid makes it) = it.orders no_volume_order ∙ makes.orders no_group_order

  -- its lines aren't refused for what the shelf did
  made_untroubled : (first : ScriptState) (answer : Reply) (last : ScriptState) → NothingCounted last.moment.device.counts → IsMade log room (mkvg_line disks) (mklv_line disks mib) first answer last → IsTroubled answer → ⊥
  made_untroubled first answer last none (NoGroup not it) troubled = has_its_votes answer first (group_reads disks sized.0 sized.1) (λ have total it. it) (untroubled log room (mkvg_line disks) first last none answer it troubled)
  made_untroubled first answer last none (HasGroup mid makes it) troubled = has_its_votes answer mid (volume_reads disks mib sized) (λ have total it. it) (untroubled log room (mklv_line disks mib) mid last none answer it troubled)

ends_orders : (blocks : ℕ) (load : Workload) (answer : Reply) (run : ℕ) (end : Moment) (on : Option Core) (exit : Exit) → EndsWoven blocks load answer run end on exit → exit.moment.device.orders ≡ end.device.orders
ends_orders blocks load answer run end on exit (NotMade not it) = concludes_orders run end exit.moment on it.concludes
ends_orders blocks load answer run end on exit (Drawn ok core some vols named facts served) =
    closed_orders served.drawn.end.core.power served.drawn.end.device exit.moment.device served.drawn.closed ∙ (path_frames served.drawn.runs).orders

module _ (disks mib : ℕ) (load : Workload) (r : Run) (ready : IsReady r.entry) (goes : GoesWoven disks mib load r) (sized : IsSized disks mib) (few : HasFewDisks r.entry) (blank : IsToldBlank r.entry) where
  abbrev its_log : Log
  its_log = empty_log r.named r.room

  abbrev its_first : ScriptState
  its_first = entry_state r.entry r.named

  its_clock : StampsAreEarlier r.named r.entry
  its_clock = told_behind r.named r.entry blank

  pub woven_path : Path DeviceStep (λ d. Unit {0}) r.entry r.exit
  woven_path = device_path _ (record { device = r.entry; facts = [] }) (exit_from r).moment (spanned disks mib load r ready goes its_clock (woven_alone disks mib load r ready goes sized few blank))

  made_path : Path DeviceStep (λ d. Unit {0}) r.entry goes.end.moment.device
  made_path =
      let made = makes_so its_log r.room (mkvg_line disks) (mklv_line disks mib) its_first goes.answer goes.end goes.made in
      let kept = made.keeps (begins_timely r.named r.entry ready.flights its_clock) (woven_alone disks mib load r ready goes sized few blank).0 (record { device = r.entry; facts = [] }) (keeps_still r.named (record { device = r.entry; facts = [] })) (λ past begins. tt) in
      device_path _ (record { device = r.entry; facts = [] }) goes.end.moment kept.0

  module _ (unharmed : IsUnharmed r.entry) where
    made_is : goes.end.moment.device.orders ≡ r.entry.orders
    made_is = made_orders its_log r.room disks mib sized its_first goes.answer goes.end goes.made

    pub woven_unharmed : IsUnharmed r.exit
    woven_unharmed = stays_unharmed r.entry r.exit woven_path unharmed (same_harmless r.entry r.exit (ends_orders (2048 * (mib - 2)) load goes.answer r.named goes.end.moment goes.end.session (exit_from r) goes.ends ∙ made_is))

    pub woven_untroubled : IsTroubled goes.answer → ⊥
    woven_untroubled = made_untroubled its_log r.room disks mib sized its_first goes.answer goes.end (stays_unharmed r.entry goes.end.moment.device made_path unharmed (same_harmless r.entry goes.end.moment.device made_is)).counted goes.made

-- what is promised of a run, by what it does
pub woven_promises : (disks mib : ℕ) → IsSized disks mib → (load : Workload) (asked : ℕ) (r : Run) → IfSome r.history (λ log. Rose asked log.run × (log.run ≤ r.last)) → IsWoven disks mib load r → PromisesWoven disks mib load asked r
woven_promises disks mib sized load asked r clock does = record {
  clock = clock;
  does = does;
  causes = λ goes. made_caused (empty_log r.named r.room) r.room (mkvg_line disks) (mklv_line disks mib) (entry_state r.entry r.named) goes.answer goes.end goes.made;
  upheld = woven_upheld disks mib load r does.ready;
  first = λ goes few blank. woven_first disks mib load r does.ready goes sized few blank;
  ahead = woven_ahead disks mib load r does.ready;
}

-- no memory was found for it
pub unwoven : (disks mib : ℕ) → IsSized disks mib → (load : Workload) (asked last : ℕ) (room : Room) (device : Device) (output : Stream) → IsReady device
    → PromisesWoven disks mib load asked (ran room device device untold (record { before = output; after = output }) last None ended.Memory 0)
unwoven disks mib sized load asked last room device output ready =
    woven_promises disks mib sized load asked (ran room device device untold (record { before = output; after = output }) last None ended.Memory 0) tt
    (record { ready = ready; history_is = tt; none = (refl, refl, refl, refl); goes = tt; power = ready.power })

module _ {S : Type 0} (device : S → Device) (disks mib : ℕ) (sized : IsSized disks mib) (load : Workload) (entry : Device) (run begun last asked : ℕ) (room : Room) (start : Stage S) (first_is : state_in device start begun ≡ entry_state entry run)
    (fresh : without_facts (history_in start) ≡ empty_log run room) (it : Stage S) (answer : Reply) (lines : IsMade (without_facts (history_in start)) room (mkvg_line disks) (mklv_line disks mib) (state_in device start begun) answer (state_in device it last))
    (rooms : without_facts (history_in it) ≡ without_facts (history_in start)) (ready : IsReady entry) (rose : Rose asked run) where
  the_lines : IsMade (empty_log run room) room (mkvg_line disks) (mklv_line disks mib) (entry_state entry run) answer (state_in device it last)
  the_lines = subst (λ (s : ScriptState). IsMade (empty_log run room) room (mkvg_line disks) (mklv_line disks mib) s answer (state_in device it last)) first_is
      (subst (λ (l : Log). IsMade l room (mkvg_line disks) (mklv_line disks mib) (state_in device start begun) answer (state_in device it last)) fresh lines)

  so : MakesSo run (AreMadeAlone the_lines) answer (entry_state entry run) (state_in device it last)
  so = makes_so (empty_log run room) room (mkvg_line disks) (mklv_line disks mib) (entry_state entry run) answer (state_in device it last) the_lines

  of_run : (history_in it).run ≡ run
  of_run = ap (λ (l : Log). l.run) rooms ∙ ap (λ (l : Log). l.run) fresh

  pub their_clock : run ≤ last
  their_clock = so.clock

  module _ (closed : S) (kept : Log) (status : ExitStatus) (refused : ℕ) (out : Passage) where
    abbrev exit : Exit
    exit = record { moment = record { device = device closed; facts = kept.facts }; status = status; refused = refused; out = out }

    module _ (ends : EndsWoven (2048 * (mib - 2)) load answer (history_in it).run (moment_in device it) (session_in it) exit) (kept_is : without_facts kept ≡ without_facts (history_in it)) where
      named : kept.run ≡ run
      named = ap (λ (l : Log). l.run) kept_is ∙ of_run

      abbrev its : Run
      its = record (ran room entry (device closed) untold out last (Some kept) status refused) { named = run }

      the_ends : EndsWoven (2048 * (mib - 2)) load answer run (moment_in device it) (session_in it) exit
      the_ends = subst (λ n. EndsWoven (2048 * (mib - 2)) load answer n (moment_in device it) (session_in it) exit) of_run ends

      does : IsWoven disks mib load its
      does = record {
        ready = ready;
        history_is = ap (λ (l : Log). record l { facts = kept.facts }) (kept_is ∙ rooms ∙ fresh);
        none = tt;
        goes = record { answer = answer; end = state_in device it last; made = the_lines; ends = the_ends; clock = refl };
        power = lit run answer (state_in device it last) exit.moment (concludes_so (2048 * (mib - 2)) load answer run (state_in device it last) exit the_ends so.stuck so.between) so.power;
      }

      pub some_promises : PromisesWoven disks mib load asked (ran room entry (device closed) untold out last (Some kept) status refused)
      some_promises = subst (λ n. PromisesWoven disks mib load asked (record (ran room entry (device closed) untold out last (Some kept) status refused) { named = n })) (sym named)
          (woven_promises disks mib sized load asked its (subst (λ n. Rose asked n) (sym named) rose, (let is = named in let le = so.clock in omega (arith, is, le))) does)

  abbrev exit_with : S → Option Log → ExitStatus → ℕ → Passage → Exit
  exit_with closed h status refused out = record { moment = record { device = device closed; facts = facts_of h }; status = status; refused = refused; out = out }

  -- a run whose history is told
  pub the_promises_woven : (end : Ended S) (out : Passage) → IsSomeAnd end.history (λ log. without_facts log ≡ without_facts (history_in it))
      → EndsWoven (2048 * (mib - 2)) load answer (history_in it).run (moment_in device it) (session_in it) (exit_of device end out)
      → PromisesWoven disks mib load asked (ran room entry (device end.shelf) untold out last end.history end.status end.refused)
  the_promises_woven end out kept ends = by end.history kept ends
    where
      by : (h : Option Log) → IsSomeAnd h (λ log. without_facts log ≡ without_facts (history_in it)) → EndsWoven (2048 * (mib - 2)) load answer (history_in it).run (moment_in device it) (session_in it) (exit_with end.shelf h end.status end.refused out)
          → PromisesWoven disks mib load asked (ran room entry (device end.shelf) untold out last h end.status end.refused)
      by None kept ends = absurd kept
      by (Some log) kept ends = some_promises end.shelf log end.status end.refused out ends kept

-- over disks in memory
module _ (disks mib : ℕ) (sized : IsSized disks mib) (load : Workload) (asked : ℕ) (r : Run) (is : r.entry ≡ sim_device disks mib) (promises : PromisesWoven disks mib load asked r) where
  its_few : HasFewDisks r.entry
  its_few = subst HasFewDisks (sym is) (sim_few disks mib (let few = sized.1 in omega (arith, few)))

  its_blank : IsToldBlank r.entry
  its_blank = subst IsToldBlank (sym is) (sim_told disks mib)

  its_unharmed : IsUnharmed r.entry
  its_unharmed = subst IsUnharmed (sym is) (sim_unharmed disks mib)

  blank_promises : PromisesWovenBlank disks mib load asked r
  blank_promises = record {
    promises = promises;
    upheld = λ goes. promises.upheld goes (woven_alone disks mib load r promises.does.ready goes sized its_few its_blank) (told_behind r.named r.entry its_blank);
    first = λ goes. promises.first goes its_few its_blank;
    heeds = λ goes. heeds_always r.entry r.exit (woven_path disks mib load r promises.does.ready goes sized its_few its_blank) its_unharmed.well.heeds;
    unharmed = λ goes. woven_unharmed disks mib load r promises.does.ready goes sized its_few its_blank its_unharmed;
    untroubled = λ goes. woven_untroubled disks mib load r promises.does.ready goes sized its_few its_blank its_unharmed;
    lands = λ goes. ends_well disks mib load r sized promises.does.ready (woven_unharmed disks mib load r promises.does.ready goes sized its_few its_blank its_unharmed).counted goes;
  }

  pub sim_weaves : r.room ≡ full_room → PromisesWovenBlank disks mib load asked (record r { entry = sim_device disks mib; room = full_room })
  sim_weaves room_is =
      subst (λ (e : Device). PromisesWovenBlank disks mib load asked (record r { entry = e; room = full_room })) is
      (subst (λ (room : Room). PromisesWovenBlank disks mib load asked (record r { room = room })) room_is blank_promises)
