-- A good session whose move is done goes on over its commit.
use Rattle.std.proofs.Common.{◌≡◌, ℕ, Bool, true, false, if◌then◌else◌, List, [], ◌∷◌, ◌++◌, Option, Some, None, Result, Ok, Err, refl, sym, ap, subst, ◌∙◌}
use Rattle.std.specs.Prelude.{◌≢◌, IfSome}
use Rattle.lvm_num.specs.declared.descriptor.Descriptor.{Descriptor}
use Rattle.lvm_num.specs.DescriptorBytes.{descriptor_bytes, descriptor_of}
use Rattle.lvm_vgda.proofs.DescriptorBytesLemmas.Whole.{spelled_is_read}
use Rattle.lvm_vol.specs.declared.entry.Outcome.TheVariants as outcome
use Rattle.lvm_vol.specs.Facts.{Fact, Cut}
use Rattle.lvm_vol.specs.Log.{Log, cut_log, is_uncut, with_fact}
use Rattle.lvm_disk.specs.Device.{Device, HasSectors}
use Rattle.lvm_disk.proofs.PathsLemmas.{last-path}
use Rattle.lvm_kept.specs.Moments.{Moment}
use Rattle.lvm_steps.specs.Moments.{Keeps, RunBegins}
use Rattle.lvm_steps.specs.Requests.{at}
use Rattle.lvm_steps.proofs.EnteringLemmas.{quiet_goes_on}
use Rattle.lvm_steps.proofs.MomentsLemmas.Spans.{keeps_path}
use Rattle.lvm_commit.specs.declared.commit.CommitEnd.{CommitEnd}
use Rattle.lvm_commit.specs.declared.commit.CommitEnd.TheVariants as commit_end
use Rattle.lvm_commit.specs.LawsOfFinding.{FindsNoMoreOn}
use Rattle.lvm_commit.specs.Settling.{DescriptorEnds}
use Rattle.lvm_core.specs.Committing.{with_one_out}
use Rattle.lvm_core.specs.declared.fault.CommitFault.{CommitFault}
use Rattle.lvm_core.specs.declared.fault.CommitFault.TheVariants as fault
use Rattle.lvm_session.specs.declared.bringing.OpenCopy.{OpenCopy}
use Rattle.lvm_session.specs.declared.open.Power.{Power}
use Rattle.lvm_session.specs.declared.open.Power.TheVariants as power
use Rattle.lvm_session.specs.State.{Core, State, moment_of, state}
use Rattle.lvm_session.specs.Calls.{closed}
use Rattle.lvm_session.specs.Dark.{all_dark, all_off, landings as all_landings}
use Rattle.lvm_session.specs.Marks.{Reviews}
use Rattle.lvm_session.specs.Sound.{IsCopy, IsSound}
use Rattle.lvm_move.specs.Moving.{CommitsMove, Misses, MoveEnds, Writes, WritesMove, missing_destination}
use Rattle.lvm_move_keeps.specs.Drained.{IsDrainedMoving}
use Rattle.lvm_move_keeps.specs.Keeping.{HasMovedTo}
use Rattle.lvm_move_keeps.proofs.DrainedLemmas.{done_may_commit}
use Rattle.lvm_move_keeps.proofs.IdleLemmas.{whole_move}
use Rattle.lvm_move_keeps.proofs.StandsLemmas.{move_has_moved}
use Rattle.lvm_going.specs.Going.{closed_after}
use Rattle.lvm_going.specs.Moves.{next_in, next_of}
use Rattle.lvm_tie.specs.Spares.{SparesDescriptors}
use Rattle.lvm_tie.specs.Tied.{IsTied}
use Rattle.lvm_tie.proofs.OverLemmas.Landings.{land_all}
use Rattle.lvm_move_tie.specs.Going.{CommitMoveFinds, CommitMoveGoesOn, IsGoodSparing}
use Rattle.lvm_move_tie.specs.Taking.{next_group}
use Rattle.lvm_move_tie.specs.Tying.{MoveTies}
use Rattle.lvm_move_tie.proofs.HeldLemmas.{of_group, session_held}
use Rattle.lvm_move_tie.proofs.OverLemmas.{KeepsAt, dark_holds, off_holds, on_kept, reads_hold_there}
use Rattle.lvm_move_tie.proofs.TyingLemmas.{IsCommittedTo, base, core2, spares2, tied2}

some_none : {X A : Type 0} (m : Option X) (x : X) → m ≡ None → m ≡ Some x → A
some_none m x none some = absurd cc

-- the history with a cut, where there is one
abbrev cut_if : Bool → Log → Log
cut_if b log = if b then with_fact log Cut else log

-- ---- what a sound session is asked for

module _ (s : State) (c : OpenCopy) (sound : IsSound s) (drained : IsDrainedMoving s c) (epoch : s.core.status.stamp.epoch ≢ 0) where
  abbrev next : Descriptor
  next = next_group s c

  copy : IsCopy s.core c
  copy = subst (λ (m : Option OpenCopy). IfSome m (IsCopy s.core)) drained.is_open (sound.on drained.on).going.copy

  pub moved : HasMovedTo c.lv c.lp c.pp s.core.descriptor next
  moved = move_has_moved s.core c sound.fitting.valid copy (whole_move s.core c drained.done).moves

  pub reads : descriptor_of (descriptor_bytes next) ≡ Ok next
  reads = spelled_is_read next moved.valid

  pub written : (content : List ℕ) (before after : ℕ) (new : State) (answer : Result (Unit {0}) CommitFault) → CommitsMove next content before after s new answer → WritesMove next content before after s new answer
  written content before after new answer (Misses disk missing is same stays) = some_none (missing_destination s.core) disk (done_may_commit s c next sound drained moved epoch).there missing
  written content before after new answer (Writes none writes) = writes

  -- the descriptor that is ready is the one with the copy on its destination
  pub ready_is : (d : Descriptor) → next_of s.core ≡ Some d → d ≡ next
  ready_is d ready = one d next (sym ready ∙ ap (λ (m : Option OpenCopy). next_in s.core.descriptor m) drained.is_open ∙ ap (λ (b : Bool). if b then Some next else None) (whole_move s.core c drained.done).moves)
    where
      one : (a b : Descriptor) → Some a ≡ Some b → a ≡ b
      one a b e = cc

-- ---- the tie

module _ (past : List Fact) (s new : State) (c : OpenCopy) (content : List ℕ) (before after : ℕ) (tied : IsTied past s) (drained : IsDrainedMoving s c) (spares : SparesDescriptors s) (reads_it : descriptor_of content ≡ Ok (next_group s c))
    (w : WritesMove (next_group s c) content before after s new (Ok tt)) (sound : IsSound new) (sectors : HasSectors new.device) where
  by_end : (how : CommitEnd) → MoveEnds (next_group s c) w.last w.homes s.core new.core how (Ok tt) → DescriptorEnds content 0 before s.core.status w.last s.core.homes w.homes s.device new.device how → IsTied past new × SparesDescriptors new
  by_end (commit_end.WentOff have total back) goes ends = absurd (cc goes.0)
  by_end commit_end.Dark goes ends = absurd (cc goes.0)
  by_end commit_end.Stuck goes ends = absurd (cc goes.0)
  by_end (commit_end.Done back) goes ends =
      let review = goes.1 in
      let is : IsCommittedTo s c content before after w.last w.homes new.device = record { reads = reads_it; number = 0; back = back; ends = ends; leaves = w.leaves; keeps = last-path w.kept } in
      let whole : new ≡ state new.device (core2 past s c tied drained spares content before after w.last w.homes new.device is new.core.status) = (λ t. state new.device (review.is t)) in
      let reviewed : Reviews (base past s c tied drained spares content before after w.last w.homes new.device is new.core.status) (core2 past s c tied drained spares content before after w.last w.homes new.device is new.core.status) = record { marks = review.marks; is = refl } in
      let sound2 = subst IsSound whole sound in (
        subst (IsTied past) (sym whole) (tied2 past s c tied drained spares content before after w.last w.homes new.device is new.core.status reviewed sound2 sectors),
        subst SparesDescriptors (sym whole) (spares2 past s c tied drained spares content before after w.last w.homes new.device is new.core.status reviewed sound2 sectors),
      )

pub move_ties : MoveTies
move_ties past s new c content before after tied drained spares reads_it commits sound sectors =
    let w = written s c tied.orderly.sound drained tied.recorded.next.some_epoch content before after new (Ok tt) commits in
    by_end past s new c content before after tied drained spares reads_it w sound sectors w.how w.goes w.ends

-- ---- what is found

pub commit_move_finds : CommitMoveFinds
commit_move_finds past s new c before after answer tied drained epoch spares commits =
    let d_is = ready_is s c tied.orderly.sound drained epoch commits.next commits.ready in
    let it = subst (λ (d : Descriptor). CommitsMove d (descriptor_bytes d) before after s commits.written answer) d_is commits.commits in
    let w = written s c tied.orderly.sound drained epoch (descriptor_bytes (next_group s c)) before after commits.written answer it in
    subst (λ (x : State). FindsNoMoreOn (next_group s c) s.device x.device) (sym commits.is)
    (w.finds s.core.descriptor (next_group s c) (reads s c tied.orderly.sound drained epoch) (of_group past s c tied drained) (moved s c tied.orderly.sound drained epoch).alike (session_held past s c tied drained spares))

-- ---- the span

module _ (run : ℕ) (s : State) (c : OpenCopy) (before after : ℕ) (answer : Result (Unit {0}) CommitFault) (written_ : State) (sound : IsSound s) (drained : IsDrainedMoving s c) (epoch : s.core.status.stamp.epoch ≢ 0)
    (w : WritesMove (next_group s c) (descriptor_bytes (next_group s c)) before after s written_ answer) (first : Moment) (good : IsGoodSparing run first s) where
  abbrev content : List ℕ
  content = descriptor_bytes (next_group s c)

  abbrev facts : List Fact
  facts = s.core.history.facts

  abbrev device : Device
  device = written_.device

  tied : (past : List Fact) → RunBegins run past first → IsTied past s
  tied past begins = (good drained.on past begins).0

  spares : (past : List Fact) → RunBegins run past first → SparesDescriptors s
  spares past begins = (good drained.on past begins).1

  keeps_last : KeepsAt content s device
  keeps_last = last-path w.kept

  -- over the steps of the shelf
  pub over_steps : Keeps run first (moment_of s) → Keeps run first (at device facts)
  over_steps span = keeps_path (KeepsAt content s) run first s.device device facts span
      (λ past begins holds d keeps. let t = tied past begins in on_kept past s c t drained content (reads s c sound drained epoch) (of_group past s c t drained) (session_held past s c t drained (spares past begins)) d keeps) w.kept

  -- and over the landings of the requests where it ends
  pub over_off : Keeps run first (moment_of s) → Keeps run first (at device (facts ++ all_landings outcome.Off facts s.core.requests))
  over_off span = land_all run first device facts facts outcome.Off s.core.requests
      (λ xs ys split past begins. let t = tied past begins in off_holds past s c t drained content (reads s c sound drained epoch) (of_group past s c t drained) (session_held past s c t drained (spares past begins)) device keeps_last xs ys split)
      (over_steps span)

  pub over_dark : Keeps run first (moment_of s) → Keeps run first (at device ((cut_log s.core.history).facts ++ all_landings outcome.Dark (cut_log s.core.history).facts s.core.requests))
  over_dark span = by (is_uncut facts) refl
    where
      by : (b : Bool) → is_uncut facts ≡ b → Keeps run first (at device ((cut_if b s.core.history).facts ++ all_landings outcome.Dark (cut_if b s.core.history).facts s.core.requests))
      by true is = land_all run first device (facts ++ Cut ∷ []) (facts ++ Cut ∷ []) outcome.Dark s.core.requests
          (λ xs ys split past begins. let t = tied past begins in dark_holds past s c t drained content (reads s c sound drained epoch) (of_group past s c t drained) (session_held past s c t drained (spares past begins)) device keeps_last xs ys split)
          (quiet_goes_on run first device facts Cut (over_steps span) tt (λ past begins holds. tt))
      by false is = land_all run first device facts facts outcome.Dark s.core.requests
          (λ xs ys split past begins. let t = tied past begins in reads_hold_there past s c t drained content (reads s c sound drained epoch) (of_group past s c t drained) (session_held past s c t drained (spares past begins)) device keeps_last is xs ys split)
          (over_steps span)

  -- a session that isn't on is good
  not_on : (x : State) (p : Power) → x.core.power ≡ p → (p ≡ power.On → ⊥) → IsGoodSparing run first x
  not_on x p is off on past begins = absurd (off (sym is ∙ on))

  module _ (new : State) (is : new ≡ state device (closed_after answer written_.core)) (sound_new : IsSound new) (sectors : HasSectors new.device)
      (commits : CommitsMove (next_group s c) content before after s written_ answer) where
    -- by the answer it is this
    new_is : (a : Result (Unit {0}) CommitFault) → answer ≡ a → new ≡ state device (closed_after a written_.core)
    new_is a same = is ∙ ap (λ (x : Result (Unit {0}) CommitFault). state device (closed_after x written_.core)) same

    pub goes_on : IsGoodSparing run first new × (Keeps run first (moment_of s) → Keeps run first (moment_of new))
    goes_on = by w.how w.goes
      where
        by : (how : CommitEnd) → MoveEnds (next_group s c) w.last w.homes s.core written_.core how answer → IsGoodSparing run first new × (Keeps run first (moment_of s) → Keeps run first (moment_of new))
        by (commit_end.Done back) goes =
            let core_is = goes.1.is in
            let none : closed written_.core ≡ written_.core = (λ t. closed (core_is t)) ∙ sym core_is in
            let same : new ≡ written_ = new_is (Ok tt) goes.0 ∙ ap (λ (x : Core). state device x) none in
            let ok : CommitsMove (next_group s c) content before after s new (Ok tt) = subst (λ (x : State). CommitsMove (next_group s c) content before after s x (Ok tt)) (sym same) (subst (λ (a : Result (Unit {0}) CommitFault). CommitsMove (next_group s c) content before after s written_ a) goes.0 commits) in (
              λ on past begins. move_ties past s new c content before after (tied past begins) drained (spares past begins) (reads s c sound drained epoch) ok sound_new sectors,
              λ span. subst (λ (x : State). Keeps run first (moment_of x)) (sym same) (subst (λ (l : List Fact). Keeps run first (at device l)) (sym (ap (λ (x : Core). x.history.facts) core_is)) (over_steps span)),
            )
        by (commit_end.WentOff have total back) goes =
            let same : new ≡ state device (closed (all_off (record s.core { status = w.last; homes = w.homes }))) = new_is (Err (fault.WentOff have total)) goes.0 ∙ ap (λ (x : Core). state device (closed x)) goes.1 in (
              not_on new power.Off (ap (λ (x : State). x.core.power) same) (λ e. cc e),
              λ span. subst (λ (x : State). Keeps run first (moment_of x)) (sym same) (over_off span),
            )
        by commit_end.Dark goes =
            let same : new ≡ state device (closed (all_dark (record s.core { pool = with_one_out s.core.pool; status = w.last; homes = w.homes }))) = new_is (Err fault.Dark) goes.0 ∙ ap (λ (x : Core). state device (closed x)) goes.1 in (
              not_on new power.Dark (ap (λ (x : State). x.core.power) same) (λ e. cc e),
              λ span. subst (λ (x : State). Keeps run first (moment_of x)) (sym same) (over_dark span),
            )
        by commit_end.Stuck goes =
            let same : new ≡ state device (record (closed (record s.core { pool = with_one_out s.core.pool; status = w.last; homes = w.homes })) { power = power.Stuck }) = new_is (Err fault.Stuck) goes.0 ∙ ap (λ (x : Core). state device (record (closed x) { power = power.Stuck })) goes.1 in (
              not_on new power.Stuck (ap (λ (x : State). x.core.power) same) (λ e. cc e),
              λ span. subst (λ (x : State). Keeps run first (moment_of x)) (sym same) (over_steps span),
            )

pub commit_move_goes_on : CommitMoveGoesOn
commit_move_goes_on run s new c before after answer sound sound_new drained epoch commits first good =
    let d_is = ready_is s c sound drained epoch commits.next commits.ready in
    let it = subst (λ (d : Descriptor). CommitsMove d (descriptor_bytes d) before after s commits.written answer) d_is commits.commits in
    let w = written s c sound drained epoch (descriptor_bytes (next_group s c)) before after commits.written answer it in
    goes_on run s c before after answer commits.written sound drained epoch w first good new commits.is sound_new commits.sectors it
