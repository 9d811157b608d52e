-- Which copies that have moved are stale, and why.
use Rattle.std.proofs.Common.{◌≡◌, ◌≢◌, ◌⊎◌, inl, inr, ⊎_elim, ◌≤◌, ℕ, Bool, true, false, ◌&&◌, ◌||◌, not, List, [], ◌∷◌, Option, Some, None, if◌then◌else◌, refl, sym, ap, subst, ◌∙◌, arith, map}
use Rattle.std.specs.Prelude.{◌==◌, IfSome, IsFalse, Ok, unwrap_or}
use Rattle.std.specs.List.{AllByRecursion, list_any}
use Rattle.std.specs.Option.{option_map_or}
use Rattle.std.proofs.lemmas.Bool.{or_left, or_right}
use Rattle.lvm_num.specs.declared.place.Pp.{Pp}
use Rattle.lvm_num.specs.declared.descriptor.Descriptor.{Descriptor}
use Rattle.lvm_num.specs.Descriptor.{IsValid, is_member, is_pp}
use Rattle.lvm_num.specs.DescriptorBytes.{descriptor_bytes}
use Rattle.lvm_num.specs.Status.{calls_missing, calls_stale}
use Rattle.lvm_num.proofs.Booleans.{not_so, second_with_first}
use Rattle.lvm_num.proofs.DescriptorLemmas.Partitions.{one_partition}
use Rattle.lvm_disk.specs.Counts.{NoneFalls, Rose}
use Rattle.lvm_disk.specs.Device.{Device}
use Rattle.lvm_disk.specs.Paths.{Here, Path, Then}
use Rattle.lvm_disk.proofs.CountingLemmas.{rose_after, rose_before}
use Rattle.lvm_status.specs.Update.{Stored, members_there}
use Rattle.lvm_commit.specs.Settling.{IsPassedOver}
use Rattle.lvm_path.specs.declared.request.Phase.{Phase}
use Rattle.lvm_path.specs.declared.target.Target.{Target}
use Rattle.lvm_path.specs.Asks.{is_write}
use Rattle.lvm_path.specs.Targets.{is_failed}
use Rattle.lvm_session.specs.declared.answers.Turned.{Turned}
use Rattle.lvm_session.specs.declared.answers.CopyState.TheVariants as copy
use Rattle.lvm_session.specs.declared.bringing.OpenCopy.{OpenCopy}
use Rattle.lvm_session.specs.declared.open.Open.{Open}
use Rattle.lvm_session.specs.declared.open.Power.TheVariants as power
use Rattle.lvm_session.specs.Calls.{OpensMove, aged, copy_state}
use Rattle.lvm_session.specs.Causes.{fails_on, is_held_stale}
use Rattle.lvm_session.specs.Judging.{is_destination, is_missing, is_stale, is_waiting, is_wanted_stale, stays_fresh}
use Rattle.lvm_session.specs.Requests.{IsOpenOne, IsPhase}
use Rattle.lvm_session.specs.Sound.{IsCopy, IsSound}
use Rattle.lvm_session.specs.State.{Core, State}
use Rattle.lvm_session.specs.Turns.{TurnMakes}
use Rattle.lvm_keeps_events.specs.Losing.{HasFailedOn}
use Rattle.lvm_keeps_events.specs.Losses.{MarksFor, has_failed_on, is_marked}
use Rattle.lvm_keeps_events.specs.passed.Calls.{counts_seen}
use Rattle.lvm_keeps_events.proofs.CountsLemmas.{turn_counts}
use Rattle.lvm_keeps_events.proofs.LosingLemmas.Losing.{turn_loses}
use Rattle.lvm_keeps_events.proofs.LossesLemmas.Turning.{turn_marks}
use Rattle.lvm_keeps_events.proofs.TurningLemmas.{turn_keeps}
use Rattle.lvm_keeps_events.proofs.JudgingLemmas.Review.{left_behind}
use Rattle.lvm_core.proofs.CommittingLemmas.Spanning.{path_falls}
use Rattle.lvm_moved.specs.Moved.{moved_descriptor}
use Rattle.lvm_session.specs.Calls.{closed}
use Rattle.lvm_session.specs.Marks.{is_entailed}
use Rattle.lvm_move_keeps.specs.Drained.{IsDrainedMoving}
use Rattle.lvm_move_keeps.specs.Keeping.{HasMovedTo, IsDoneMoving}
use Rattle.lvm_move_keeps.specs.Waiting.{IsUnadmitted}
use Rattle.lvm_move_keeps.proofs.DrainedLemmas.{done_is_judged, drained_is_done}
use Rattle.lvm_move_keeps.proofs.IdleLemmas.{whole_move}
use Rattle.lvm_move_keeps.proofs.StandsLemmas.{move_has_moved}
use Rattle.lvm_move_keeps.proofs.StatusLemmas.{core, held_is, mid, wanted_by, wanted_on}
use Rattle.lvm_going.specs.Going.{CommitsOpenMove}
use Rattle.lvm_going.specs.Moves.{next_in}
use Rattle.lvm_driver.specs.Drains.{IsDrained, IsTurn}
use Rattle.lvm_migrate.proofs.CommittedLemmas.{IsWrittenWell, written_well}
use Rattle.lvm_migrate.proofs.TurnsLemmas.{IsOpenMove, turn_on, turns_open}

-- ---- a place since the first moment

-- its disk is missing only where a transfer of it has failed since, and as many have failed at least
pub record IsThereSince (first now : State) (disk : ℕ) : Type 0 where
  pub gone : is_missing now.core disk ≡ true → Rose (first.device.counts.faults disk) (now.device.counts.faults disk)
  pub later : first.device.counts.faults disk ≤ now.device.counts.faults disk

-- so it is where it is stale or wanted stale, or a write that is open has failed on it
pub record IsCleanSince (first now : State) (p : Pp) : Type 0 where
  pub there : IsThereSince first now p.disk
  pub marked : is_marked now.core p ≡ true → Rose (first.device.counts.faults p.disk) (now.device.counts.faults p.disk)
  pub failed : has_failed_on now.core p ≡ true → Rose (first.device.counts.faults p.disk) (now.device.counts.faults p.disk)

-- ---- a turn

module _ (first old new : State) (answer : Turned) (sound : IsSound old) (made : TurnMakes old new answer) where
  more : (d : ℕ) → old.device.counts.faults d ≤ new.device.counts.faults d
  more = (turn_counts old new answer made).faults

  turn_there : (disk : ℕ) → IsThereSince first old disk → IsThereSince first new disk
  turn_there disk it = record {
    gone = λ now. ⊎_elim (λ (was : is_missing old.core disk ≡ true). rose_after (it.gone was) (more disk)) (λ (rose : HasFailedOn old new disk). rose_before it.later rose) (turn_loses old new answer sound made disk now);
    later = let a = it.later in let b = more disk in omega (arith, a, b);
  }

  marks : MarksFor old new
  marks = turn_marks old new sound answer made

  turn_clean : (p : Pp) → is_destination old.core p ≡ false → IsCleanSince first old p → IsCleanSince first new p
  turn_clean p apart it = record { there = there; marked = λ now. by (marks.marked p apart now); failed = λ now. since (marks.failed p now) }
    where
      there : IsThereSince first new p.disk
      there = turn_there p.disk it.there

      since : (has_failed_on old.core p ≡ true) ⊎ Rose (old.device.counts.faults p.disk) (new.device.counts.faults p.disk) → Rose (first.device.counts.faults p.disk) (new.device.counts.faults p.disk)
      since (inl was) = rose_after (it.failed was) (more p.disk)
      since (inr rose) = rose_before it.there.later rose

      by : (is_marked old.core p ≡ true) ⊎ (is_missing new.core p.disk ≡ true) ⊎ (has_failed_on new.core p ≡ true) → Rose (first.device.counts.faults p.disk) (new.device.counts.faults p.disk)
      by (inl was) = rose_after (it.marked was) (more p.disk)
      by (inr (inl gone)) = there.gone gone
      by (inr (inr failed)) = since (marks.failed p failed)

-- ---- turns beside a move to another place

apart_of : (begun : OpenCopy) (core : Core) (p : Pp) → IsOpenMove begun core → p ≢ begun.pp → is_destination core p ≡ false
apart_of begun now p it other =
    ap (λ m. option_map_or (λ (c : OpenCopy). c.moves && is_pp p c.pp) m false) it.is_open ∙ ap (λ (q : Pp). it.copy.moves && is_pp p q) it.its.0 ∙ by it.copy.moves (is_pp p begun.pp) refl
  where
    by : (a b : Bool) → is_pp p begun.pp ≡ b → a && b ≡ false
    by true true is = absurd (other (one_partition p begun.pp is))
    by true false is = refl
    by false b is = refl

pub turns_there : {P : State → Type 0} (first : State) (disk : ℕ) {old last : State} → IsSound old → Path IsTurn P old last → IsThereSince first old disk → IsThereSince first last disk × IsSound last
turns_there first disk sound (Here here) it = (it, sound)
turns_there first disk {last = last} sound (Then {m = mid} path turn there) it =
    let before = turns_there first disk sound path it in
    (turn_there first mid last turn.0 before.1 turn.1 disk before.0, turn_keeps mid last turn.0 before.1 turn.1)

pub turns_clean : {P : State → Type 0} (first : State) (begun : OpenCopy) (p : Pp) {old last : State} → IsSound old → IsOpenMove begun old.core → p ≢ begun.pp → Path IsTurn P old last → last.core.power ≡ power.On
    → IsCleanSince first old p → IsCleanSince first last p × IsSound last
turns_clean first begun p sound opens other (Here here) on it = (it, sound)
turns_clean first begun p {last = last} sound opens other (Then {m = mid} path turn there) on it =
    let before_on = turn_on mid last turn.0 turn.1 on in
    let before = turns_clean first begun p sound opens other path before_on it in
    (turn_clean first mid last turn.0 before.1 turn.1 p (apart_of begun mid.core p (turns_open begun opens path before_on) other) before.0, turn_keeps mid last turn.0 before.1 turn.1)

-- ---- it is opened

any_aged : (p : Pp) (os : List Open) → list_any (fails_on p) (map aged os) ≡ list_any (fails_on p) os
any_aged p [] = refl
any_aged p (o ∷ os) = ap (λ b. fails_on p o || b) (any_aged p os)

module _ (first old new : State) (device : new.device ≡ old.device) {lv lp number : ℕ} {to : Pp} (it : OpensMove (counts_seen old.device old.core) old.core new.core lv lp number to) where
  pub opened_there : (disk : ℕ) → IsThereSince first old disk → IsThereSince first new disk
  opened_there disk was = record {
    gone = λ now. subst (λ (d : Device). Rose (first.device.counts.faults disk) (d.counts.faults disk)) (sym device) (was.gone (sym (ap (λ (c : Core). is_missing c disk) it.is) ∙ now));
    later = subst (λ (d : Device). first.device.counts.faults disk ≤ d.counts.faults disk) (sym device) was.later;
  }

  pub opened_clean : (p : Pp) → IsCleanSince first old p → IsCleanSince first new p
  opened_clean p was = record {
    there = opened_there p.disk was.there;
    marked = λ now. subst (λ (d : Device). Rose (first.device.counts.faults p.disk) (d.counts.faults p.disk)) (sym device) (was.marked (sym (ap (λ (c : Core). is_marked c p) it.is) ∙ now));
    failed = λ now. subst (λ (d : Device). Rose (first.device.counts.faults p.disk) (d.counts.faults p.disk)) (sym device) (was.failed (sym (ap (λ (c : Core). has_failed_on c p) it.is ∙ any_aged p old.core.requests) ∙ now));
  }

-- ---- once turns find nothing to do

-- a request that waits for admission has failed nowhere
none_fails : (core : Core) (p : Pp) (os : List Open) → AllByRecursion (IsOpenOne core) os → AllByRecursion IsUnadmitted os → list_any (fails_on p) os ≡ false
none_fails now p [] its held = refl
none_fails now p (o ∷ os) its held = ap (λ b. b || list_any (fails_on p) os) (by (is_waiting o) refl) ∙ none_fails now p os its.1 held.1
  where
    none : is_waiting o ≡ true → o.request.targets.items ≡ []
    none e = (subst (λ (f : Phase). IsPhase f o) (held.0 e) (its.0.waits e).shape.phase_is).0

    by_write : (w : Bool) → w && false ≡ false
    by_write true = refl
    by_write false = refl

    by : (b : Bool) → is_waiting o ≡ b → b && is_write o.request.ask && list_any (λ (t : Target). is_failed t.state && is_pp p t.pp) o.request.targets.items ≡ false
    by false e = refl
    by true e = ap (λ (ts : List Target). is_write o.request.ask && list_any (λ (t : Target). is_failed t.state && is_pp p t.pp) ts) (none e) ∙ by_write (is_write o.request.ask)

-- what is fresh by all isn't marked
fresh_unmarked : (core : Core) (p : Pp) → stays_fresh core p ≡ true → is_marked core p ≡ false
fresh_unmarked core p fresh = by (is_held_stale core p) (is_wanted_stale core p) fresh
  where
    by : (a b : Bool) → not a && not b ≡ true → a || b ≡ false
    by true b e = absurd (cc e)
    by false true e = absurd (cc e)
    by false false e = refl

-- ---- the destination of a move that is done

-- its place is clean, and so is the descriptor that is ready
module _ (s : State) (c : OpenCopy) (sound : IsSound s) (drained : IsDrained s) (is_open : s.core.copy ≡ Some c) (moves : c.moves ≡ true) (done : copy_state s.core ≡ copy.Done) where
  now : IsDrainedMoving s c
  now = record { on = drained.on; votes = drained.votes; none = drained.none; idle = drained.idle; is_open = is_open; done = done_is_judged s c sound drained.on is_open moves done }

  pub its_done : IsDoneMoving s c
  its_done = drained_is_done s c sound now

  its_copy : IsCopy s.core c
  its_copy = subst (λ m. IfSome m (IsCopy s.core)) is_open (sound.on drained.on).going.copy

  pub its_move : HasMovedTo c.lv c.lp c.pp s.core.descriptor (moved_descriptor s.core.descriptor c.lv c.lp c.copy c.pp)
  its_move = move_has_moved s.core c sound.fitting.valid its_copy moves

  pub place_clean : (first : State) → IsThereSince first s c.pp.disk → IsCleanSince first s c.pp
  place_clean first there = record {
    there = there;
    marked = λ marked. not_so (sym (fresh_unmarked s.core c.pp (whole_move s.core c now.done).fresh) ∙ marked);
    failed = λ failed. not_so (sym (none_fails s.core c.pp s.core.requests (sound.on drained.on).going.requests its_done.requests) ∙ failed);
  }

-- ---- the commit

module _ (first old new : State) (before after : ℕ) (it : CommitsOpenMove before after old new (Ok tt)) (c : OpenCopy) (sound : IsSound old) (drained : IsDrained old) (is_open : old.core.copy ≡ Some c) (moves : c.moves ≡ true) (done : copy_state old.core ≡ copy.Done) where
  well : IsWrittenWell before after old new it
  well = written_well before after old new it

  abbrev last : Stored
  last = well.w.last

  ready_is : it.next ≡ moved_descriptor old.core.descriptor c.lv c.lp c.copy c.pp
  ready_is = by c.moves moves (sym it.ready ∙ ap (next_in old.core.descriptor) is_open)
    where
      by : (b : Bool) → b ≡ true → Some it.next ≡ (if b then Some (moved_descriptor old.core.descriptor c.lv c.lp c.copy c.pp) else None) → it.next ≡ moved_descriptor old.core.descriptor c.lv c.lp c.copy c.pp
      by true is e = cc e
      by false is e = absurd (cc is)

  moved : HasMovedTo c.lv c.lp c.pp old.core.descriptor it.next
  moved = subst (HasMovedTo c.lv c.lp c.pp old.core.descriptor) (sym ready_is) (its_move old c sound drained is_open moves done)

  abbrev core_now : Core
  core_now = core old.core it.next c last it.written.core.status well.w.homes moved well.w.leaves.left well.ends.committed well.goes.marks

  core_is : new.core ≡ closed core_now
  core_is = ap (λ (s : State). s.core) it.is ∙ ap closed well.goes.is

  device_is : new.device ≡ it.written.device
  device_is = ap (λ (s : State). s.device) it.is

  faults_rise : (d : ℕ) → old.device.counts.faults d ≤ new.device.counts.faults d
  faults_rise d = subst (λ (x : Device). old.device.counts.faults d ≤ x.counts.faults d) (sym device_is) ((path_falls old.device it.written.device well.w.kept).faults d)

  gone_before : (disk : ℕ) → is_missing new.core disk ≡ true → calls_missing last.wanted disk ≡ true
  gone_before disk gone = sym (well.goes.marks.missing disk) ∙ sym (ap (λ (k : Core). is_missing k disk) core_is) ∙ gone

  pub commit_there : (disk : ℕ) → IsThereSince first old disk → IsThereSince first new disk
  commit_there disk was = record {
    gone = λ gone. by (is_missing old.core disk) refl (gone_before disk gone);
    later = let a = was.later in let b = faults_rise disk in omega (arith, a, b);
  }
    where
      by : (b : Bool) → is_missing old.core disk ≡ b → calls_missing last.wanted disk ≡ true → Rose (first.device.counts.faults disk) (new.device.counts.faults disk)
      by true is gone = rose_after (was.gone is) (faults_rise disk)
      by false is gone = rose_before was.later (subst (λ (x : Device). Rose (old.device.counts.faults disk) (x.counts.faults disk)) (sym device_is) (well.w.leaves.loses.lost disk gone is).1)

  pub commit_clean : (p : Pp) → is_member old.core.descriptor p.disk ≡ true → IsCleanSince first old p → IsCleanSince first new p
  commit_clean p member was = record {
    there = there;
    marked = λ marked. by (wanted_by old.core it.next c last it.written.core.status well.w.homes moved well.w.leaves.left well.ends.committed well.goes.marks p (wanted_now marked));
    failed = λ failed. rose_after (was.failed (sym (ap (λ (k : Core). has_failed_on k p) core_is) ∙ failed)) (faults_rise p.disk);
  }
    where
      there : IsThereSince first new p.disk
      there = commit_there p.disk was.there

      gone_now : calls_missing last.wanted p.disk ≡ true → Rose (first.device.counts.faults p.disk) (new.device.counts.faults p.disk)
      gone_now gone = there.gone (ap (λ (k : Core). is_missing k p.disk) core_is ∙ well.goes.marks.missing p.disk ∙ gone)

      wanted_now : is_marked new.core p ≡ true → is_wanted_stale core_now p ≡ true
      wanted_now marked = of (is_held_stale core_now p) refl (sym (ap (λ (k : Core). is_marked k p) core_is) ∙ marked)
        where
          of : (b : Bool) → is_held_stale core_now p ≡ b → is_held_stale core_now p || is_wanted_stale core_now p ≡ true → is_wanted_stale core_now p ≡ true
          of true held any = wanted_on old.core it.next c last it.written.core.status well.w.homes moved well.w.leaves.left well.ends.committed well.goes.marks p
              (sym (held_is old.core it.next c last it.written.core.status well.w.homes moved well.w.leaves.left well.ends.committed well.goes.marks p) ∙ held)
          of false held any = sym (ap (λ b. b || is_wanted_stale core_now p) held) ∙ any

      absent_gone : IsFalse (members_there last.group last.wanted p.disk) → calls_missing last.wanted p.disk ≡ true
      absent_gone absent = second_with_first (is_member old.core.descriptor p.disk) (calls_missing last.wanted p.disk) member (ap (λ b. b && not (calls_missing last.wanted p.disk)) (sym members_are) ∙ absent)
        where
          members_are : is_member last.group p.disk ≡ is_member old.core.descriptor p.disk
          members_are = ap (λ (g : Descriptor). is_member g p.disk) (well.w.leaves.loses.group ∙ sound.fitting.group)

      by : (calls_stale last.wanted p ≡ true) ⊎ (is_entailed (mid old.core it.next c last it.written.core.status well.w.homes moved well.w.leaves.left well.ends.committed) p ≡ true) → Rose (first.device.counts.faults p.disk) (new.device.counts.faults p.disk)
      by (inl stale) = ⊎_elim
          (λ (wanted : calls_stale old.core.status.wanted p ≡ true). rose_after (was.marked (or_right (is_held_stale old.core p) (is_wanted_stale old.core p) wanted)) (faults_rise p.disk))
          (λ (passed : IsPassedOver it.next old.core.status last p). gone_now (absent_gone passed.absent))
          (well.w.leaves.left.only p stale)
      by (inr entailed) = gone_now (left_behind (mid old.core it.next c last it.written.core.status well.w.homes moved well.w.leaves.left well.ends.committed) p entailed).gone
