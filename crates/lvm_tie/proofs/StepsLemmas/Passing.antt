-- The write by which a copy is brought up ends well: it passes one track group.
use Rattle.std.proofs.Common.{◌≡◌, ◌⊎◌, inl, inr, ℕ, ◌+◌, ◌*◌, ◌<◌, ◌≤◌, Bool, true, false, ◌&&◌, ◌||◌, ◌==◌, not, List, [], Option, Some, None, refl, sym, ap, subst, ◌∙◌, arith}
use Rattle.std.specs.Prelude.{IsTrue, nat_le, nat_lt}
use Rattle.std.proofs.lemmas.Bool.{and_parts, not-false}
use Rattle.std.proofs.lemmas.Bool.Decides.{nat_tests}
use Rattle.lvm_num.specs.declared.place.Pp.{Pp}
use Rattle.lvm_num.specs.Descriptor.{is_member}
use Rattle.lvm_num.specs.Geometry.{track_group_of}
use Rattle.lvm_vol.specs.Facts.{Fact}
use Rattle.lvm_disk.specs.Device.{HasSectors}
use Rattle.lvm_session.specs.declared.bringing.OpenCopy.{OpenCopy}
use Rattle.lvm_session.specs.declared.bringing.Step.TheVariants as step
use Rattle.lvm_session.specs.State.{Core, State}
use Rattle.lvm_session.specs.Judging.{is_missing}
use Rattle.lvm_session.specs.Bringing.{block_at, groups_of, is_idle, is_whole, step_place}
use Rattle.lvm_session.specs.Ends.{CopyStepsOn, with_return, without_step}
use Rattle.lvm_session.specs.Sound.{IsCopy}
use Rattle.lvm_keeps_events.specs.GroupEnds.{EndsGroup}
use Rattle.lvm_invariant.specs.State.{ModelCopy, Queued, ModelState, covers}
use Rattle.lvm_invariant.specs.CopyWrite.{copied}
use Rattle.lvm_crash.specs.Bringing.{PassesOver}
use Rattle.lvm_tie.specs.Seen.{SeesCopy, SeesOpen, SeesRunning, SeesStep, passed_by, update_of}
use Rattle.lvm_tie.specs.Tied.{IsTied}
use Rattle.lvm_tie.proofs.StateLemmas.{IsOfItsPartition, copy_is, its_member, missing_seen, of_its, part_stale}
use Rattle.lvm_tie.proofs.BringingLemmas.{groups_are}
use Rattle.lvm_tie.proofs.StepsLemmas.Leaving.{Stands, gone, step_left}
use Rattle.lvm_tie.proofs.StepsLemmas.Landed.{HasLanded, at_q, landed_write, now, q, sees}
use Rattle.lvm_tie.proofs.StepsLemmas.Stepped.{going}

-- ---- track groups that are passed

-- where one lies
pub within : (base n g : ℕ) (a : Bool) → (a && nat_le base g && nat_lt g (base + n)) ≡ true → (a ≡ true) × (base ≤ g) × (g < base + n)
within base n g a h =
    let outer = and_parts (a && nat_le base g) (nat_lt g (base + n)) h in
    let inner = and_parts a (nat_le base g) outer.0 in
    let low : nat_le base g ≡ true = inner.1 in
    let high : nat_lt g (base + n) ≡ true = outer.1 in
    (inner.0, grind (arith, nat_tests), grind (arith, nat_tests))

pub so_within : (base n g : ℕ) (a : Bool) → a ≡ true → base ≤ g → g < base + n → (a && nat_le base g && nat_lt g (base + n)) ≡ true
so_within base n g a is low high =
    let le : nat_le base g ≡ true = grind (arith, nat_tests) in
    let lt : nat_lt g (base + n) ≡ true = grind (arith, nat_tests) in
    λ t. is t && le t && lt t

module _ (past : List Fact) (old new : State) (at : ℕ) (tied : IsTied past old) (sectors : HasSectors new.device) (event : EndsGroup old new at) where
  abbrev core : Core
  core = old.core

  abbrev v : ModelState
  v = tied.view

  abbrev c : OpenCopy
  c = event.copy

  -- the copy, one track group on
  abbrev pub d : OpenCopy
  d = record event.copy { cursor = event.copy.cursor + 1; step = step.Idle; tried = event.passes.next.tried; place = step_place old.core }

  abbrev pub mid : Core
  mid = without_step (with_return old.core at event.buf) event.copy

  pub goes : CopyStepsOn (is_whole old.core d) mid d event.passes.on
  goes = subst (λ (k : OpenCopy). CopyStepsOn (is_whole core k) mid k event.passes.on) event.passes.moves.is event.passes.goes

  its_copy : IsCopy core c
  its_copy = copy_is past old tied c event.is_open

  pub part : is_whole old.core event.copy ≡ false
  part = its_copy.under_way event.runs (ap is_idle event.writes)

  pub less : event.copy.cursor < groups_of old.core
  less = let h : not (nat_lt c.cursor (groups_of core)) ≡ false = part in let k : nat_lt c.cursor (groups_of core) ≡ true = not-false (nat_lt c.cursor (groups_of core)) h in grind (arith, nat_tests)

  pub its : IsOfItsPartition old.core event.copy
  its = of_its past old tied c event.is_open

  pub seen_open : SeesOpen (groups_of old.core) event.copy tied.view.open_copy
  seen_open = subst (λ (b : Bool). SeesRunning b (groups_of core) c v.open_copy) event.runs (subst (λ (m : Option OpenCopy). SeesCopy (groups_of core) m v.open_copy) event.is_open tied.sees.open_copy)

  pub member : is_member old.core.descriptor event.copy.pp.disk ≡ true
  member = its_member past old tied c event.is_open

  -- it is on a disk that isn't missing, and counts as stale
  pub there : is_missing old.core event.copy.pp.disk ≡ false
  there = sym (missing_seen past old tied c.pp.disk member) ∙ subst (λ (p : Pp). v.missing p.disk ≡ false) seen_open.target (tied.good.sound.statuses.open_there seen_open.copy seen_open.is_open)

  pub stale : IsTrue (tied.view.committed.value.stale event.copy.pp)
  stale = (part_stale past old tied c event.is_open event.runs part).0

  -- ---- what it has passed

  abbrev pub o2 : ModelCopy
  o2 = record { target = event.copy.pp; passed = passed_by (groups_of old.core) d }

  abbrev step_q : Queued
  step_q = q past old new at event.row true event.buf tied event.returns event.own c event.is_open

  seen_step : SeesStep core c step_q
  seen_step = sees past old new at event.row true event.buf tied event.returns event.own c event.is_open

  abbrev base : ℕ
  base = groups_of old.core * event.copy.lp

  more : (lv g : ℕ) → passed_by (groups_of core) c lv g ≡ true → passed_by (groups_of core) d lv g ≡ true
  more lv g h = let w = within base c.cursor g (lv == c.lv) h in so_within base (c.cursor + 1) g (lv == c.lv) w.0 w.1 (let lt : g < base + c.cursor = w.2 in omega (arith, lt))

  last : (lv b : ℕ) → passed_by (groups_of core) d lv (track_group_of b) ≡ true → (passed_by (groups_of core) c lv (track_group_of b) ≡ true) ⊎ IsTrue (covers step_q lv b)
  last lv b h =
      let w = within base (c.cursor + 1) (track_group_of b) (lv == c.lv) h in
      by (nat_lt (track_group_of b) (base + c.cursor)) refl w.0 w.1 w.2
    where
      by : (t : Bool) → nat_lt (track_group_of b) (base + c.cursor) ≡ t → (lv == c.lv) ≡ true → base ≤ track_group_of b → track_group_of b < base + (c.cursor + 1)
          → (passed_by (groups_of core) c lv (track_group_of b) ≡ true) ⊎ IsTrue (covers step_q lv b)
      by true is same low high = inl (so_within base c.cursor (track_group_of b) (lv == c.lv) same low (grind (arith, nat_tests)))
      by false is same low high =
          let here : track_group_of b ≡ base + c.cursor = (let le : base + c.cursor ≤ track_group_of b = grind (arith, nat_tests) in omega (arith, le, high)) in
          let groups : groups_of core ≡ 8 * core.descriptor.mib = groups_are past old tied c its less in
          let product : base ≡ 8 * core.descriptor.mib * c.lp = ap (λ n. n * c.lp) groups in
          let first : step_q.first ≡ block_at core c = seen_step.first in
          let count : step_q.count ≡ 256 = seen_step.count in
          let from : step_q.first ≤ b = omega (arith, here, product, first) in
          let to : b < step_q.first + step_q.count = omega (arith, here, product, first, count) in
          let volume : lv ≡ c.lv = grind (arith, nat_tests) in
          let own : step_q.lv ≡ c.lv = seen_step.lv in
          let one : (step_q.lv == lv) ≡ true = grind (arith, nat_tests) in
          let two : nat_le step_q.first b ≡ true = grind (arith, nat_tests) in
          let three : nat_lt b (step_q.first + step_q.count) ≡ true = grind (arith, nat_tests) in
          inr (λ t. one t && two t && three t)

  passes_over : PassesOver v step_q c.pp (Some o2)
  passes_over = record {
    old = seen_open.copy;
    new = o2;
    is_open = seen_open.is_open;
    is_now = refl;
    own = seen_open.target;
    same_target = sym seen_open.target;
    still = λ lv g passed. more lv g (sym (seen_open.passed lv g) ∙ passed);
    passes = λ lv b passed. Rattle.std.proofs.Common.⊎_elim
        (λ (before : passed_by (groups_of core) c lv (track_group_of b) ≡ true). inl (seen_open.passed lv (track_group_of b) ∙ before))
        (λ (here : IsTrue (covers step_q lv b)). inr (λ copy. here))
        (last lv b passed);
  }

  pub landed : HasLanded past old new at event.row true event.buf tied event.returns event.own event.copy event.is_open (Some o2)
  landed = landed_write past old new at event.row true event.buf tied event.returns event.own c event.is_open event.writes sectors (Some o2) (inr (refl, passes_over))

  -- the state once its step has left the queue
  abbrev pub left : ModelState
  left = record (copied tied.view landed.block (Some o2) None) { queue = gone tied.view.queue event.copy.place (q past old new at event.row true event.buf tied event.returns event.own event.copy event.is_open) }

  pub stands_left : Stands tied.votes old.core.descriptor (update_of old.core.status) (now past old new at event.row true event.buf tied event.returns event.own event.copy event.is_open) left
  stands_left = step_left tied.votes core.descriptor (update_of core.status) (now past old new at event.row true event.buf tied event.returns event.own c event.is_open) (copied v landed.block (Some o2) None) c.place step_q
      (at_q past old new at event.row true event.buf tied event.returns event.own c event.is_open) seen_step.step (going past old new at event.row true event.buf tied event.returns event.own c event.is_open) landed.stands
