-- Why a run ended, by its status.
use Rattle.std.proofs.Common.{◌≡◌, ◌⊎◌, inl, inr, ⊎_elim, ◌++◌, ◌≤◌, ◌+◌, ◌==◌, if◌then◌else◌, ℕ, List, [], length, Option, Some, None, Bool, true, false, refl, sym, ◌∙◌, ap, subst, arith}
use Rattle.lvm_disk.specs.Device.{Device, IsReady}
use Rattle.lvm_io.specs.Count.{Rose, next_count}
use Rattle.lvm_io.proofs.StreamLemmas.Told.{told_same}
use Rattle.lvm_vol.specs.Facts.{Fact}
use Rattle.lvm_vol.specs.Log.{Log}
use Rattle.lvm_vol.specs.Order.{Ordered}
use Rattle.lvm_steps.specs.Behind.{StampsAreEarlier, IsAhead, beginning_at}
use Rattle.lvm_steps.specs.Laws.{LeavesBefore}
use Rattle.lvm_steps.proofs.LawsLemmas.Stamps.{later_is_ahead_too}
use Rattle.lvm_core.specs.declared.parts.Room.{Room}
use Rattle.lvm_line.specs.passed.GroupLines.{shelf_in, history_in, moment_in, session_in, state_in, IsBetweenStage, Stage, IsAtRest, IsBetween, ScriptState, without_facts}
use Rattle.std.specs.Global.{Vec}
use Rattle.lvm_posts.specs.declared.posts.Post.{Post}
use Rattle.lvm_line.specs.passed.HolderVariants as holder
use Rattle.lvm_kept.specs.Moments.{Moment}
use Rattle.lvm_line.proofs.passed.Quiesce.{still_is_behind_each}
use Rattle.lvm_top.specs.Clock.{Clocked, GoesAsking, asked_by}
use Rattle.lvm_top.specs.Ending.{Concludes, NoneIsOn}
use Rattle.lvm_top.specs.Run.{Run, IsConcluded, IsRun, Promises, ran}
use Rattle.lvm_top.specs.Script.{Stream, Passage, StaysAlone, EndsAlone, EndsHeard, MakeRequests, empty_log, entry_state}
use Rattle.lvm_top.proofs.RunLemmas.Firsts.{first_upheld}
use Rattle.lvm_top.proofs.PlainLemmas.{plainly}
use Rattle.lvm_top.proofs.ScriptLemmas.Concluding.{at_rest_still, concluded, entry_between, off_still, ran_ahead, ran_ahead_each, run_upheld}
use Rattle.lvm_top.proofs.LawsLemmas.Recovering.{run_recovers}
use Rattle.lvm_top.proofs.SharingLemmas.Apart.{stay_apart}
use Rattle.lvm_top.proofs.SharingLemmas.Splits.{run_shares}
use Rattle.lvm_top.proofs.RefusedLemmas.{run_causes}
use Rattle.lvm_top.proofs.ScriptLemmas.Scripting.{Ended, nothing_done, nothing_broken, nothing_heard, nothing_left, lines_ended}
use Rattle.lvm_top.specs.Statuses.{status_of, at_end, IsAtEnd, GoesUntil}
use Rattle.lvm_top.specs.declared.status.ExitStatus.{ExitStatus}
use Rattle.lvm_top.specs.declared.status.ExitStatus.TheVariants as ended
use Rattle.lvm_top.specs.declared.script.Stop.{Stop}
use Rattle.lvm_top.specs.declared.script.Stop.TheVariants as stop

-- by whether a line was refused
by_count : (P : ExitStatus → Type 0) → P ended.Well → P ended.Refusals → (b : Bool) → P (if b then ended.Well else ended.Refusals)
by_count P well refusals true = well
by_count P well refusals false = refusals

pub words_read : (why : Option Stop) (refused : ℕ) → status_of why refused ≡ ended.Usage → ⊥
words_read None refused is = by_count (λ (s : ExitStatus). s ≡ ended.Usage → ⊥) (λ e. cc (e)) (λ e. cc (e)) (refused == 0) is
words_read (Some stop.SourceFault) refused is = cc (is)
words_read (Some _) refused is = cc (is)

pub at_its_end : (why : Option Stop) (refused : ℕ) → IsAtEnd (status_of why refused) → why ≡ None
at_its_end None refused end = refl
at_its_end (Some stop.SourceFault) refused end = absurd end
at_its_end (Some _) refused end = absurd end

pub counted_at_end : (why : Option Stop) (refused : ℕ) → IsAtEnd (status_of why refused) → status_of why refused ≡ at_end refused
counted_at_end None refused end = refl
counted_at_end (Some stop.SourceFault) refused end = absurd end
counted_at_end (Some _) refused end = absurd end

-- each other status has one reason
abbrev reason : ExitStatus → Option Stop
reason ended.SourceFault = Some stop.SourceFault
reason ended.SinkFault = Some stop.SinkFault
reason ended.Memory = Some stop.Memory
reason ended.Stuck = Some stop.Stuck
reason ended.TooLong = Some stop.TooLong
reason other = None

reason_back : (why : Option Stop) (refused : ℕ) → reason (status_of why refused) ≡ why
reason_back None refused = by_count (λ (s : ExitStatus). reason s ≡ None) refl refl (refused == 0)
reason_back (Some stop.SourceFault) refused = refl
reason_back (Some _) refused = refl

pub why_at : (why : Option Stop) (refused : ℕ) (status : ExitStatus) → status_of why refused ≡ status → why ≡ reason status
why_at why refused status is = sym (reason_back why refused) ∙ ap reason is

-- ---- runs

-- no memory was found for a run, and nothing was done
pub nothing_ran : (last : ℕ) (room : Room) (device : Device) (input output : Stream) → IsReady device
    → IsRun (ran room device device (record { before = input; after = input }) (record { before = output; after = output }) last None ended.Memory 0)
nothing_ran last room device input output ready = record {
  ready = ready;
  history_is = tt;
  none = (refl, refl, refl, refl, refl);
  read_words = λ is. cc (is);
  counted = λ end. absurd end;
  end = entry_state device 0;
  lines = nothing_done (empty_log 0 room) room (entry_state device 0) input output refl;
  concluded = record { concludes = NoneIsOn refl refl; still = λ none. refl; rests = λ none heard. ready; clock = tt };
  whole = λ end. absurd end;
  between = λ no_sink no_stuck. nothing_broken (empty_log 0 room) room (entry_state device 0) input output refl;
  wanting = λ is. tt;
  behind = λ is. absurd (cc (is));
  beyond = λ cause. nothing_left (empty_log 0 room) room (entry_state device 0) input output refl 65536;
  source = λ is. absurd (cc (is));
  sink = λ is. absurd (cc (is));
  read_well = λ no. refl;
  written_well = λ no_sink no_stuck. refl;
  stuck = λ is. absurd (cc (is));
  heard = λ no. nothing_heard (empty_log 0 room) room (entry_state device 0) input output refl;
  long = λ is. absurd (cc (is));
  short = λ no. told_same input.content (λ a b. length a ≤ 16777216 + length b) (λ a. omega arith);
  power = ready.power;
}

module _ (run last : ℕ) (room : Room) (entry exit : Device) (input output : Passage) (log : Log) (made : log ≡ record (empty_log run room) { facts = log.facts }) (end : ScriptState) (why : Option Stop) (refused : ℕ) where
  -- a run of lines that ended so
  abbrev ran_so : ExitStatus → Run
  ran_so status = record { named = run; last = last; room = room; entry = entry; exit = exit; input = input; output = output; history = Some log; status = status; refused = refused }

  -- and the clock was asked for its lines alone
  abbrev RanAsking : ℕ → ℕ → ExitStatus → Type 0
  RanAsking asks asked status = (it : IsRun (ran_so status)) × (asked ≡ asked_by (it.lines.lines ++ it.lines.done) asks)

  -- lines were done, and the status says why no more were
  pub lines_ran :
      (asks asked : ℕ) (status : ExitStatus) → status ≡ status_of why refused → IsReady entry
      → (its : GoesAsking why (empty_log run room) room (entry_state entry run) end input output refused asks asked)
      → IsConcluded run exit (Some log) last end (MakeRequests (its.goes.lines.lines ++ its.goes.lines.done)) (why ≡ Some stop.Stuck) → exit.power ≡ true
      → RanAsking asks asked status
  lines_ran asks asked status says ready its concluded power = subst (RanAsking asks asked) (sym says) (
    record {
      ready = ready;
      history_is = made;
      none = tt;
      read_words = words_read why refused;
      counted = counted_at_end why refused;
      end = end;
      lines = its.goes.lines;
      concluded = record { concludes = concluded.concludes; still = concluded.still; rests = λ none no. concluded.rests none (λ is. no (says_so is)); clock = concluded.clock };
      whole = λ end. its.goes.whole (at_its_end why refused end);
      between = λ no_sink no_stuck. its.goes.between (λ is. no_sink (says_so is)) (λ is. no_stuck (says_so is));
      wanting = λ is. its.goes.wanting (why_at why refused ended.Memory is);
      behind = λ is. its.goes.behind (why_at why refused ended.SourceFault is);
      beyond = λ cause. its.goes.beyond (⊎_elim (λ is. inl (why_at why refused ended.TooLong is)) (λ is. inr (why_at why refused ended.Memory is)) cause);
      source = λ is. its.goes.source (why_at why refused ended.SourceFault is);
      sink = λ is. its.goes.sink (why_at why refused ended.SinkFault is);
      read_well = λ no. its.goes.read_well (λ is. no (says_so is));
      written_well = λ no_sink no_stuck. its.goes.written_well (λ is. no_sink (says_so is)) (λ is. no_stuck (says_so is));
      stuck = λ is. its.goes.stuck (why_at why refused ended.Stuck is);
      heard = λ no. its.goes.heard (λ is. no (says_so is));
      long = λ is. its.goes.long (why_at why refused ended.TooLong is);
      short = λ no. its.goes.short (λ is. no (says_so is));
      power = power;
    },
    its.asked,
  )
    where
      says_so : {w : Option Stop} → why ≡ w → status_of why refused ≡ status_of w refused
      says_so is = ap (λ (w : Option Stop). status_of w refused) is

-- no memory was found, so that the clock stays ahead of the disks
pub nothing_ahead : (run last : ℕ) (device : Device) (facts : List Fact) → facts ≡ [] → run ≤ last → StampsAreEarlier run device → IsAhead run (last + 1) device facts
nothing_ahead run last device facts none le behind = subst (λ (l : List Fact). IsAhead run (last + 1) device l) (sym none) (record { run_is = omega (arith, le); later = tt; behind = later_is_ahead_too run (last + 1) device (omega (arith, le)) behind })

nothing_ahead_each : (last : ℕ) (device : Device) → IsReady device → StampsAreEarlier 0 device → LeavesBefore (beginning_at (last + 1)) device
nothing_ahead_each last device ready behind = still_is_behind_each (last + 1) device ready.flights (later_is_ahead_too 0 (last + 1) device (omega arith) behind)

-- the history of a run at its beginning
pub first_is : (log : Log) (run : ℕ) (room : Room) → log ≡ empty_log run room → log ≡ record (empty_log log.run room) { facts = log.facts }
first_is log run room is = subst (λ (l : Log). l ≡ record (empty_log l.run room) { facts = l.facts }) (sym is) refl

-- ---- the end

-- whether a run stops since nothing was heard of a transfer
pub how_stopped : (why : Option Stop) → (why ≡ Some stop.Stuck) ⊎ (why ≡ Some stop.Stuck → ⊥)
how_stopped None = inr (λ e. cc (e))
how_stopped (Some stop.Stuck) = inl refl
how_stopped (Some stop.SourceFault) = inr (λ e. cc (e))
how_stopped (Some stop.SinkFault) = inr (λ e. cc (e))
how_stopped (Some stop.Memory) = inr (λ e. cc (e))
how_stopped (Some stop.TooLong) = inr (λ e. cc (e))

-- no line was done
first_rests : (device : Device) (run : ℕ) → IsReady device → IsAtRest (entry_state device run)
first_rests device run ready = record { ready = ready; landed = λ id. refl; session = tt; posts = refl }

-- the state of a run at its beginning
pub first_state : {S : Type 0} (device : S → Device) (shelf : S) (history : Log) (posts : Vec Post) (bytes : Vec ℕ) (begun run : ℕ) (room : Room) → history ≡ empty_log run room → posts.items ≡ [] → begun ≡ run
    → state_in device (record { holder = holder.Off shelf history; posts = posts; bytes = bytes }) begun ≡ entry_state (device shelf) run
first_state device shelf history posts bytes begun run room is none last =
    ap (λ (fs : List Fact). record { moment = record { device = device shelf; facts = fs }; session = None; posts = posts.items; last = begun }) (ap (λ (l : Log). l.facts) is)
    ∙ ap (λ (ps : List Post). record { moment = record { device = device shelf; facts = [] }; session = None; posts = ps; last = begun }) none
    ∙ ap (λ (n : ℕ). record { moment = record { device = device shelf; facts = [] }; session = None; posts = []; last = n }) last

-- the next line may begin then
pub first_between : {S : Type 0} (device : S → Device) (shelf : S) (history : Log) (posts : Vec Post) (bytes : Vec ℕ) (run : ℕ) (room : Room) → history ≡ empty_log run room → posts.items ≡ [] → IsReady (device shelf)
    → IsBetweenStage device (record { holder = holder.Off shelf history; posts = posts; bytes = bytes })
first_between device shelf history posts bytes run room is none ready =
    subst (λ (s : ScriptState). IsBetween s.moment s.session s.posts) (sym (first_state device shelf history posts bytes run run room is none refl)) (entry_between (device shelf) run ready)

module _ {S : Type 0} (device : S → Device) (entry : Device) (run begun last : ℕ) (room : Room) (start : Stage S) (first_is : state_in device start begun ≡ entry_state entry run) (made : without_facts (history_in start) ≡ empty_log run room)
    (it : Stage S) (closed : S) (kept : Log) (concludes : Concludes (history_in it).run (moment_in device it) (record { device = device closed; facts = kept.facts }) (session_in it)) (kept_is : without_facts kept ≡ without_facts (history_in it))
    (rooms : without_facts (history_in it) ≡ without_facts (history_in start)) (why : Option Stop) (between : (why ≡ Some stop.Stuck → ⊥) → IsBetweenStage device it) (stuck_off : why ≡ Some stop.Stuck → session_in it ≡ None) where
  abbrev exit : Moment
  exit = record { device = device closed; facts = kept.facts }

  pub named : kept.run ≡ run
  named = ap (λ (l : Log). l.run) kept_is ∙ ap (λ (l : Log). l.run) rooms ∙ ap (λ (l : Log). l.run) made

  of_run : (history_in it).run ≡ run
  of_run = ap (λ (l : Log). l.run) rooms ∙ ap (λ (l : Log). l.run) made

  concludes_run : Concludes run (moment_in device it) (record { device = device closed; facts = kept.facts }) (session_in it)
  concludes_run = subst (λ (n : ℕ). Concludes n (moment_in device it) (record { device = device closed; facts = kept.facts }) (session_in it)) of_run concludes

  pub kept_made : kept ≡ record (empty_log run room) { facts = kept.facts }
  kept_made = ap (λ (l : Log). record l { facts = kept.facts }) (kept_is ∙ rooms ∙ made)

  -- the power is on
  lit : (device (shelf_in it)).power ≡ true → (device closed).power ≡ true
  lit on = ⊎_elim
      (λ stuck. subst (λ (m : Moment). m.device.power ≡ true) (sym (off_still run (moment_in device it) (record { device = device closed; facts = kept.facts }) (session_in it) concludes_run (stuck_off stuck))) on)
      (λ heard. (concluded run (state_in device it last) (record { device = device closed; facts = kept.facts }) concludes_run (between heard)).power)
      (how_stopped why)

  module _ (input output : Passage) (refused asks asked : ℕ) (goes : GoesAsking why (without_facts (history_in start)) room (state_in device start begun) (state_in device it last) input output refused asks asked) (ready : IsReady entry) where
    the_asking : GoesAsking why (empty_log run room) room (entry_state entry run) (state_in device it last) input output refused asks asked
    the_asking = subst (λ (s : ScriptState). GoesAsking why (empty_log run room) room s (state_in device it last) input output refused asks asked) first_is
        (subst (λ (l : Log). GoesAsking why l room (state_in device start begun) (state_in device it last) input output refused asks asked) made goes)

    pub the_lines : GoesUntil why (empty_log run room) room (entry_state entry run) (state_in device it last) input output refused
    the_lines = the_asking.goes

    they_went : Ended run (StaysAlone the_lines.lines.script × EndsAlone the_lines.lines.ends) (MakeRequests (the_lines.lines.lines ++ the_lines.lines.done)) (EndsHeard the_lines.lines.ends) (entry_state entry run) (state_in device it last)
    they_went = lines_ended (empty_log run room) room (entry_state entry run) (state_in device it last) input output refused the_lines.lines

    pub later : run ≤ last
    later = they_went.clock

    -- without requests nothing is under way behind the lines
    rest : (MakeRequests (the_lines.lines.lines ++ the_lines.lines.done) → ⊥) → (why ≡ Some stop.Stuck → ⊥) → IsAtRest (state_in device it last)
    rest none heard = they_went.rests (the_lines.heard heard) none (first_rests entry run ready)

    still : (MakeRequests (the_lines.lines.lines ++ the_lines.lines.done) → ⊥) → record { device = device closed; facts = kept.facts } ≡ moment_in device it
    still none = ⊎_elim
        (λ stuck. off_still run (moment_in device it) (record { device = device closed; facts = kept.facts }) (session_in it) concludes_run (stuck_off stuck))
        (λ heard. at_rest_still run (state_in device it last) (record { device = device closed; facts = kept.facts }) concludes_run (rest none heard))
        (how_stopped why)

    the_end : IsConcluded run (device closed) (Some kept) last (state_in device it last) (MakeRequests (the_lines.lines.lines ++ the_lines.lines.done)) (why ≡ Some stop.Stuck)
    the_end = record {
      concludes = concludes_run;
      still = still;
      rests = λ none heard. subst (λ (m : Moment). IsReady m.device) (sym (still none)) (rest none heard).ready;
      clock = refl;
    }

    the_end_so : IsConcluded run (device closed) (Some kept) last (state_in device it last) (MakeRequests (the_asking.goes.lines.lines ++ the_asking.goes.lines.done)) (why ≡ Some stop.Stuck)
    unfolding the_lines
    the_end_so = the_end

    the_run : (status : ExitStatus) → status ≡ status_of why refused → RanAsking run last room entry (device closed) input output kept kept_made (state_in device it last) why refused asks asked status
    the_run status says = lines_ran run last room entry (device closed) input output kept kept_made (state_in device it last) why refused asks asked status says ready the_asking the_end_so (lit (they_went.power ready.power))

    -- all that is promised of it
    pub the_promises :
        (clock : Clocked) (status : ExitStatus) → status ≡ status_of why refused → Rose clock.last run → Ordered kept.run [] kept.facts → asks ≡ next_count clock.before → asked ≡ clock.behind
        → Promises clock (ran room entry (device closed) input output last (Some kept) status refused)
    unfolding the_run lines_ran
    the_promises clock status says rose ordered once behind = subst (λ (n : ℕ). Promises clock (record (ran room entry (device closed) input output last (Some kept) status refused) { named = n })) (sym named) (record {
      clock = (subst (λ (n : ℕ). Rose clock.last n) (sym named) rose, (let is = named in let le = later in omega (arith, is, le)));
      does = (the_run status says).0;
      asks = sym behind ∙ subst (λ (n : ℕ). asked ≡ asked_by ((the_run status says).0.lines.lines ++ (the_run status says).0.lines.done) n) once (the_run status says).1;
      causes = run_causes _ (the_run status says).0;
      upheld = run_upheld _;
      first = first_upheld _;
      plain = plainly _ (the_run status says).0;
      ahead = ran_ahead _ (the_run status says).0 refl;
      ahead_each = λ clock heard. (ran_ahead_each _ (the_run status says).0 refl clock heard).behind;
      tells = subst (λ (n : ℕ). Ordered n [] kept.facts) named ordered;
      recovers = run_recovers _ (the_run status says).0;
      shares = run_shares _ (the_run status says).0;
      apart = λ past. stay_apart _;
    })

-- and of one for which no memory was found
pub nothing_promised : (asked : Clocked) (last : ℕ) (room : Room) (device : Device) (input output : Stream) → IsReady device → (asked.behind ≡ asked.before) ⊎ (asked.behind ≡ next_count asked.before)
    → Promises asked (ran room device device (record { before = input; after = input }) (record { before = output; after = output }) last None ended.Memory 0)
nothing_promised asked last room device input output ready once = record {
  clock = tt;
  does = nothing_ran last room device input output ready;
  asks = once;
  causes = run_causes _ (nothing_ran last room device input output ready);
  upheld = run_upheld _;
  first = first_upheld _;
  plain = plainly _ (nothing_ran last room device input output ready);
  ahead = nothing_ahead 0 last device [] refl (omega arith);
  ahead_each = λ behind heard. nothing_ahead_each last device ready behind;
  tells = tt;
  recovers = run_recovers _ (nothing_ran last room device input output ready);
  shares = run_shares _ (nothing_ran last room device input output ready);
  apart = λ past. stay_apart _;
}
