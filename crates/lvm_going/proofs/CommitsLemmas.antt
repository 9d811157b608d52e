-- A session stays sound where a move is committed.
use Rattle.std.proofs.Common.{◌≡◌, inl, ◌&&◌, ◌||◌, ℕ, true, false, List, [], ◌∷◌, Option, Some, None, if◌then◌else◌, refl, sym, ap, subst, ◌∙◌}
use Rattle.std.specs.Prelude.{IfSome, is_none, is_some, Ok, Err, Result}
use Rattle.std.specs.List.{list_any, AllByRecursion}
use Rattle.lvm_num.specs.declared.place.Pp.{Pp}
use Rattle.lvm_num.specs.DescriptorBytes.{descriptor_bytes}
use Rattle.lvm_num.proofs.Booleans.{and_false}
use Rattle.lvm_moved.specs.Moved.{moved_descriptor}
use Rattle.lvm_commit.specs.declared.commit.CommitEnd.{CommitEnd}
use Rattle.lvm_commit.specs.declared.commit.CommitEnd.TheVariants as commit_end
use Rattle.lvm_core.specs.declared.fault.CommitFault.{CommitFault}
use Rattle.lvm_core.specs.declared.fault.CommitFault.TheVariants as fault
use Rattle.lvm_session.specs.declared.bringing.OpenCopy.{OpenCopy}
use Rattle.lvm_session.specs.declared.bringing.Step.TheVariants as step
use Rattle.lvm_session.specs.declared.open.Open.{Open}
use Rattle.lvm_session.specs.Bringing.{hand_of, is_out}
use Rattle.lvm_session.specs.Calls.{closed}
use Rattle.lvm_session.specs.Causes.{is_over}
use Rattle.lvm_session.specs.Judging.{is_running, pps_of}
use Rattle.lvm_session.specs.Marks.{is_among}
use Rattle.lvm_session.specs.Requests.{IsLanded}
use Rattle.lvm_session.specs.Sound.{IsCopy, IsSound}
use Rattle.lvm_session.specs.State.{Core, State, state}
use Rattle.lvm_keeps.proofs.KeepsLemmas.Close.{IsStill, keeps as close_one}
use Rattle.lvm_move.specs.Moving.{CommitsMove, Misses, MoveEnds, Writes}
use Rattle.lvm_move_keeps.specs.Drained.{IsDrainedMoving}
use Rattle.lvm_move_keeps.specs.Keeping.{HasMovedTo, IsDoneMoving}
use Rattle.lvm_move_keeps.proofs.DrainedLemmas.{drained_is_done, missing_none}
use Rattle.lvm_move_keeps.proofs.IdleLemmas.{whole_move}
use Rattle.lvm_move_keeps.proofs.KeepingLemmas.{move_keeps_sound}
use Rattle.lvm_move_keeps.proofs.StandsLemmas.{move_has_moved}
use Rattle.lvm_move_keeps.proofs.StuckLemmas.{stuck_move_is_sound}
use Rattle.lvm_going.specs.Going.{CommitsOpenMove, closed_after}
use Rattle.lvm_going.specs.Moves.{next_in}

-- ---- a session that is over loses its copy

none_aimed : (p : Pp) (os : List Open) → AllByRecursion IsLanded os → list_any (λ (o : Open). is_none o.landed && is_among (pps_of o.request.targets.items) p) os ≡ false
none_aimed p [] all = refl
none_aimed p (o ∷ os) all = ap (λ b. (b && is_among (pps_of o.request.targets.items) p) || list_any (λ (x : Open). is_none x.landed && is_among (pps_of x.request.targets.items) p) os) all.0.landed ∙ none_aimed p os all.1

module _ (s : State) (sound : IsSound s) where
  -- no copy is open
  without : s.core.copy ≡ None → IsSound (state s.device (closed s.core))
  without none = subst IsSound (ap (λ (m : Option OpenCopy). state s.device (record s.core { copy = m })) none) sound

  ended : is_over s.core.power ≡ true → IsSound (state s.device (closed s.core))
  ended over = by s.core.copy refl (sound.over over).copy
    where
      by : (m : Option OpenCopy) → s.core.copy ≡ m → IfSome m (λ (c : OpenCopy). (is_running c ≡ false) × (c.step ≡ step.Idle)) → IsSound (state s.device (closed s.core))
      by None is its = without is
      by (Some c) is its = close_one s sound c is still (ap hand_of its.1)
        where
          still : IsStill s.core c
          still = record {
            out = ap is_out its.1;
            unaimed = ap (λ b. (c.moves && is_some c.end) && b) (none_aimed c.pp s.core.requests (sound.over over).landed) ∙ and_false (c.moves && is_some c.end);
            over = inl its.0;
          }

-- ---- a move is committed

module _ (before after : ℕ) (old new : State) (answer : Result (Unit {0}) CommitFault) (c : OpenCopy) (sound : IsSound old) (drained : IsDrainedMoving old c) (it : CommitsOpenMove before after old new answer) where
  done : IsDoneMoving old c
  done = drained_is_done old c sound drained

  its : IsCopy old.core c
  its = subst (λ m. IfSome m (IsCopy old.core)) drained.is_open (sound.on drained.on).going.copy

  moves : c.moves ≡ true
  moves = (whole_move old.core c drained.done).moves

  next_is : moved_descriptor old.core.descriptor c.lv c.lp c.copy c.pp ≡ it.next
  next_is = cc same
    where
      same : Some (moved_descriptor old.core.descriptor c.lv c.lp c.copy c.pp) ≡ Some it.next
      same = sym (ap (next_in old.core.descriptor) drained.is_open ∙ ap (λ b. if b then Some (moved_descriptor old.core.descriptor c.lv c.lp c.copy c.pp) else None) moves) ∙ it.ready

  pub has_moved : HasMovedTo c.lv c.lp c.pp old.core.descriptor it.next
  has_moved = subst (HasMovedTo c.lv c.lp c.pp old.core.descriptor) next_is (move_has_moved old.core c sound.fitting.valid its moves)

  -- as the records leave it
  written : (answer ≡ Err fault.Stuck → ⊥) → IsSound it.written
  written heard = move_keeps_sound old c it.next (descriptor_bytes it.next) before after it.written answer sound done has_moved it.commits heard

  abbrev Commits : Result (Unit {0}) CommitFault → Type 0
  Commits a = CommitsMove it.next (descriptor_bytes it.next) before after old it.written a

  abbrev Closed : Result (Unit {0}) CommitFault → Type 0
  Closed a = IsSound (state it.written.device (closed_after a it.written.core))

  committed : Commits (Ok tt) → (answer ≡ Ok tt) → it.written.core.copy ≡ None
  committed (Misses disk missing is same patience) so = absurd (cc is)
  committed (Writes there w) so = by w.how w.goes
    where
      by : (how : CommitEnd) → MoveEnds it.next w.last w.homes old.core it.written.core how (Ok tt) → it.written.core.copy ≡ None
      by (commit_end.Done back) goes = ap (λ (k : Core). k.copy) goes.1.is
      by (commit_end.WentOff have total back) goes = absurd (cc goes.0)
      by commit_end.Dark goes = absurd (cc goes.0)
      by commit_end.Stuck goes = absurd (cc goes.0)

  went_off : (have total : ℕ) → Commits (Err (fault.WentOff have total)) → is_over it.written.core.power ≡ true
  went_off have total (Misses disk missing is same patience) = absurd (let no : Err (fault.WentOff have total) ≡ Err (fault.DiskFailed disk) = is in cc no)
  went_off have total (Writes there w) = by w.how w.goes
    where
      by : (how : CommitEnd) → MoveEnds it.next w.last w.homes old.core it.written.core how (Err (fault.WentOff have total)) → is_over it.written.core.power ≡ true
      by (commit_end.Done back) goes = absurd (cc goes.0)
      by (commit_end.WentOff got all back) goes = ap (λ (k : Core). is_over k.power) goes.1
      by commit_end.Dark goes = ap (λ (k : Core). is_over k.power) goes.1
      by commit_end.Stuck goes = absurd (let no : Err (fault.WentOff have total) ≡ Err fault.Stuck = goes.0 in cc no)

  went_dark : Commits (Err fault.Dark) → is_over it.written.core.power ≡ true
  went_dark (Misses disk missing is same patience) = absurd (let no : Err fault.Dark ≡ Err (fault.DiskFailed disk) = is in cc no)
  went_dark (Writes there w) = by w.how w.goes
    where
      by : (how : CommitEnd) → MoveEnds it.next w.last w.homes old.core it.written.core how (Err fault.Dark) → is_over it.written.core.power ≡ true
      by (commit_end.Done back) goes = absurd (cc goes.0)
      by (commit_end.WentOff got all back) goes = ap (λ (k : Core). is_over k.power) goes.1
      by commit_end.Dark goes = ap (λ (k : Core). is_over k.power) goes.1
      by commit_end.Stuck goes = absurd (let no : Err fault.Dark ≡ Err fault.Stuck = goes.0 in cc no)

  -- the disk of its place isn't missing
  never_failed : {X : Type 0} (disk : ℕ) → Commits (Err (fault.DiskFailed disk)) → X
  never_failed disk (Misses gone missing is same patience) = absurd (let no : None ≡ Some gone = sym (missing_none old c sound drained) ∙ missing in cc no)
  never_failed disk (Writes there w) = by w.how w.goes
    where
      by : {X : Type 0} (how : CommitEnd) → MoveEnds it.next w.last w.homes old.core it.written.core how (Err (fault.DiskFailed disk)) → X
      by (commit_end.Done back) goes = absurd (cc goes.0)
      by (commit_end.WentOff got all back) goes = absurd (let no : Err (fault.DiskFailed disk) ≡ Err (fault.WentOff got all) = goes.0 in cc no)
      by commit_end.Dark goes = absurd (let no : Err (fault.DiskFailed disk) ≡ Err fault.Dark = goes.0 in cc no)
      by commit_end.Stuck goes = absurd (let no : Err (fault.DiskFailed disk) ≡ Err fault.Stuck = goes.0 in cc no)

  closed_keeps : (a : Result (Unit {0}) CommitFault) → answer ≡ a → Closed a
  closed_keeps (Ok done_so) is = without it.written (written (λ stuck. let no : Ok done_so ≡ Err fault.Stuck = sym is ∙ stuck in cc no)) (committed (subst Commits is it.commits) is)
  closed_keeps (Err fault.Stuck) is = stuck_move_is_sound old c it.next (descriptor_bytes it.next) before after it.written sound done has_moved (subst Commits is it.commits)
  closed_keeps (Err fault.Dark) is = ended it.written (written (λ stuck. let no : Err fault.Dark ≡ Err fault.Stuck = sym is ∙ stuck in cc no)) (went_dark (subst Commits is it.commits))
  closed_keeps (Err (fault.WentOff have total)) is = ended it.written (written (λ stuck. let no : Err (fault.WentOff have total) ≡ Err fault.Stuck = sym is ∙ stuck in cc no)) (went_off have total (subst Commits is it.commits))
  closed_keeps (Err (fault.DiskFailed disk)) is = never_failed disk (subst Commits is it.commits)

  pub commit_keeps : IsSound new
  commit_keeps = subst IsSound (sym it.is) (closed_keeps answer refl)
