-- What stays true from call to call.
use Rattle.std.proofs.Common.{◌≡◌, ◌⊎◌, inl, inr, ℕ, ◌+◌, ◌<◌, ◌≤◌, Bool, true, false, ◌&&◌, not, List, [], ◌∷◌, Option, Some, None, refl, sym, ap, subst, ◌∙◌, arith}
use Rattle.std.specs.Prelude.{◌==◌, if◌then◌else◌, nat_lt, unwrap_or}
use Rattle.std.specs.List.{list_any}
use Rattle.std.proofs.lemmas.Bool.{eq-eqb, eqb-true, false≢true, cases_lt, cases_eq, lt-ltb, or_right, or_parts, false_from_ne_true}
use Rattle.lvm_status.specs.passed.Num.{Pp, Stamp, Status, is_member, is_pp, stamp_lt, calls_stale, calls_missing}
use Rattle.lvm_status.specs.declared.change.Change.{Change}
use Rattle.lvm_status.specs.declared.change.Change.TheVariants as change
use Rattle.lvm_status.specs.Update.{Updates, no_disks, is_held, is_owed, is_settled_stale}
use Rattle.lvm_status.specs.Calls.{Changes, WantsAtEnd, given_up, closed, comes_held, with_end, with_commit}
use Rattle.lvm_status.specs.Runs.{Call, Want, Start, NextWrite, Ended, SetStamp, Step, IsSoundStatus, SetsForward, RunsForward, StaysStale, wants_fresh, InFlightStays, CommitsAreHeld, WrittenHasEnded, StampsRise, SettledStays, MissingStays, MissingIsNotWritten}
use Rattle.lvm_status.proofs.RunsLemmas.Sound.{and_left, and_right, both, not_false, or_tells, or_left, flies, with_end_and_commit, end_nearly, gradual, runs_stay_sound, if_grows}

-- ---- an update that ends

abbrev pub without_update : Updates → Updates
without_update u = record u { in_flight = None; unstarted = no_disks; started = no_disks; written = no_disks; failed = no_disks }

-- what is true of both is true of what an update that may end leaves
pub closed_cases : (P : Updates → Type 0) (u : Updates) → (is_held u ≡ true → is_owed u ≡ false → P (without_update u)) → P u → P (closed u)
closed_cases P u ends stays = by_test (is_held u && not (is_owed u)) refl
  where
    by_test : (b : Bool) → is_held u && not (is_owed u) ≡ b → P (if b then without_update u else u)
    by_test true e = ends (and_left (is_held u) (not (is_owed u)) e) (not_false (is_owed u) (and_right (is_held u) (not (is_owed u)) e))
    by_test false e = stays

-- and what is true whether it is committed or not, of what may be committed then
pub commit_cases : (P : Updates → Type 0) (n : Updates) (b : Bool) → P (with_commit n) → P n → P (if b then with_commit n else n)
commit_cases P n true commits stays = commits
commit_cases P n false commits stays = stays

-- ---- one update at a time

abbrev StaysOrEnds : Status → Updates → Type 0
StaysOrEnds t u = (u.in_flight ≡ Some t) ⊎ ((u.in_flight ≡ None) × (u.committed ≡ t))

closed_stays : (u : Updates) (t : Status) → u.in_flight ≡ Some t → (is_held u ≡ true → u.in_flight ≡ Some u.committed) → StaysOrEnds t (closed u)
closed_stays u t is held =
    closed_cases (StaysOrEnds t) u
    (λ enough none. let all = held enough in let same : u.committed ≡ t = cc in inr (refl, same))
    (inl is)

-- the end of a write leaves what is in flight
end_in_flight : (u : Updates) (disk : ℕ) (ok : Bool) (wanted : Status) → (with_end_and_commit u disk ok wanted).in_flight ≡ u.in_flight
end_in_flight u disk true wanted = commit_cases (λ (v : Updates). v.in_flight ≡ u.in_flight) (with_end u disk true wanted) (comes_held u (with_end u disk true wanted)) refl refl
end_in_flight u disk false wanted = commit_cases (λ (v : Updates). v.in_flight ≡ u.in_flight) (with_end u disk false wanted) (comes_held u (with_end u disk false wanted)) refl refl

pub in_flight_stays : InFlightStays
in_flight_stays (Want c) old new t sound step is =
    subst (StaysOrEnds t) (sym step.1) (closed_stays (record old { wanted = new.wanted; unstarted = given_up c old.unstarted }) t is sound.held)
in_flight_stays Start old new t sound step is = let none = step.0.none in absurd (cc)
in_flight_stays (NextWrite disk) old new t sound step is = subst (StaysOrEnds t) (sym step.1) (inl is)
in_flight_stays (Ended disk ok) old new t sound step is =
    subst (StaysOrEnds t) (sym step.2)
    (closed_stays (with_end_and_commit old disk ok new.wanted) t (end_in_flight old disk ok new.wanted ∙ is) (end_nearly old disk ok new.wanted sound step.0 step.1).held)
in_flight_stays (SetStamp stamp) old new t sound step is = subst (StaysOrEnds t) (sym step.1) (inl is)

-- ---- what is committed

closed_committed : (u : Updates) → (closed u).committed ≡ u.committed
closed_committed u = closed_cases (λ (v : Updates). v.committed ≡ u.committed) u (λ enough none. refl) refl

well_committed : (u : Updates) (disk : ℕ) (wanted : Status) → IsSoundStatus u → u.started disk ≡ true
    → ((with_end_and_commit u disk true wanted).committed ≡ u.committed) ⊎ ((u.in_flight ≡ Some (with_end_and_commit u disk true wanted).committed) × (is_held (with_end u disk true wanted) ≡ true))
well_committed u disk wanted sound out = by_test (comes_held u (with_end u disk true wanted)) refl
  where
    by_test : (b : Bool) → comes_held u (with_end u disk true wanted) ≡ b
        → ((if b then with_commit (with_end u disk true wanted) else with_end u disk true wanted).committed ≡ u.committed)
        ⊎ ((u.in_flight ≡ Some (if b then with_commit (with_end u disk true wanted) else with_end u disk true wanted).committed) × (is_held (with_end u disk true wanted) ≡ true))
    by_test true e =
        let f = flies u disk sound out in
        inr (f.1 ∙ ap (λ (o : Option Status). Some (unwrap_or o u.committed)) (sym f.1), and_right (not (is_held u)) (is_held (with_end u disk true wanted)) e)
    by_test false e = inl refl

badly_committed : (u : Updates) (disk : ℕ) (wanted : Status) → (with_end_and_commit u disk false wanted).committed ≡ u.committed
badly_committed u disk wanted = by_test (is_held u)
  where
    by_test : (b : Bool) → (if not b && b then with_commit (with_end u disk false wanted) else with_end u disk false wanted).committed ≡ u.committed
    by_test true = refl
    by_test false = refl

pub commits_are_held : CommitsAreHeld
commits_are_held (Want c) old new sound step = inl (ap (λ (u : Updates). u.committed) step.1 ∙ closed_committed (record old { wanted = new.wanted; unstarted = given_up c old.unstarted }))
commits_are_held Start old new sound step = inl (ap (λ (u : Updates). u.committed) step.1)
commits_are_held (NextWrite disk) old new sound step = inl (ap (λ (u : Updates). u.committed) step.1)
commits_are_held (Ended disk true) old new sound step =
    let is : new.committed ≡ (with_end_and_commit old disk true new.wanted).committed = ap (λ (u : Updates). u.committed) step.2 ∙ closed_committed (with_end_and_commit old disk true new.wanted) in
    elim (well_committed old disk new.wanted sound step.0) [
      | inl same ↦ inl (is ∙ same)
      | inr now ↦ inr (record { disk = disk; ends = refl; flies = now.0 ∙ ap (λ (s : Status). Some s) (sym is); enough = now.1 })
    ]
commits_are_held (Ended disk false) old new sound step =
    inl (ap (λ (u : Updates). u.committed) step.2 ∙ closed_committed (with_end_and_commit old disk false new.wanted) ∙ badly_committed old disk new.wanted)
commits_are_held (SetStamp stamp) old new sound step = inl (ap (λ (u : Updates). u.committed) step.1)

-- ---- which disks have the update

closed_written : (u : Updates) (disk : ℕ) → (closed u).written disk ≡ true → u.written disk ≡ true
closed_written u disk = closed_cases (λ (v : Updates). v.written disk ≡ true → u.written disk ≡ true) u (λ enough none is. absurd (false≢true is)) (λ is. is)

end_written : (u : Updates) (disk : ℕ) (ok : Bool) (wanted : Status) (d : ℕ) → (with_end_and_commit u disk ok wanted).written d ≡ (with_end u disk ok wanted).written d
end_written u disk ok wanted d = let next = with_end u disk ok wanted in commit_cases (λ (v : Updates). v.written d ≡ next.written d) next (comes_held u next) refl refl

-- the disk has the update after a step only where it had it before
has_before : (old new next : Updates) (disk : ℕ) → new ≡ closed next → new.written disk ≡ true → next.written disk ≡ true
has_before old new next disk step is = closed_written next disk (sym (ap (λ (u : Updates). u.written disk) step) ∙ is)

pub written_has_ended : WrittenHasEnded
written_has_ended (Want c) old new step disk is = inl (has_before old new (record old { wanted = new.wanted; unstarted = given_up c old.unstarted }) disk step.1 is)
written_has_ended Start old new step disk is = absurd (false≢true (sym (ap (λ (u : Updates). u.written disk) step.1) ∙ is))
written_has_ended (NextWrite d) old new step disk is = inl (sym (ap (λ (u : Updates). u.written disk) step.1) ∙ is)
written_has_ended (Ended d true) old new step disk is =
    let now = sym (end_written old d true new.wanted disk) ∙ has_before old new (with_end_and_commit old d true new.wanted) disk step.2 is in
    elim (or_tells (old.written disk) (disk == d) now) [
      | inl before ↦ inl before
      | inr same ↦ inr (ap (λ n. Ended n true) (sym (eqb-true disk d same)))
    ]
written_has_ended (Ended d false) old new step disk is =
    inl (sym (end_written old d false new.wanted disk) ∙ has_before old new (with_end_and_commit old d false new.wanted) disk step.2 is)
written_has_ended (SetStamp stamp) old new step disk is = inl (sym (ap (λ (u : Updates). u.written disk) step.1) ∙ is)

-- ---- stamps

-- the second stamp isn't before the first
abbrev IsNotBefore : Stamp → Stamp → Type 0
IsNotBefore a b = (a.epoch < b.epoch) ⊎ ((a.epoch ≡ b.epoch) × (a.seq ≤ b.seq))

is_later : (a b : Stamp) → (a.epoch < b.epoch) ⊎ ((a.epoch ≡ b.epoch) × (a.seq < b.seq)) → stamp_lt a b ≡ true
is_later a b (inl less) = or_left (nat_lt a.epoch b.epoch) (a.epoch == b.epoch && nat_lt a.seq b.seq) (lt-ltb a.epoch b.epoch less)
is_later a b (inr same) =
    or_right (nat_lt a.epoch b.epoch) (a.epoch == b.epoch && nat_lt a.seq b.seq)
    (both (a.epoch == b.epoch) (nat_lt a.seq b.seq) (eq-eqb a.epoch b.epoch same.0) (lt-ltb a.seq b.seq same.1))

-- what a test that fails tells
not_earlier : (a b : Stamp) → stamp_lt b a ≡ false → IsNotBefore a b
not_earlier a b e = elim (cases_lt b.epoch a.epoch) [
  | inl less ↦ absurd (false≢true (sym e ∙ is_later b a (inl less)))
  | inr more ↦ elim (cases_eq a.epoch b.epoch) [
    | inl same ↦ elim (cases_lt b.seq a.seq) [
      | inl less ↦ absurd (false≢true (sym e ∙ is_later b a (inr (sym same, less))))
      | inr seq ↦ inr (same, seq)
    ]
    | inr apart ↦ inl (omega arith)
  ]
]

joins : (a b c : Stamp) → IsNotBefore a b → IsNotBefore b c → IsNotBefore a c
joins a b c (inl less) (inl more) = inl (omega (arith, less, more))
joins a b c (inl less) (inr same) = inl (omega (arith, less, same.0))
joins a b c (inr same) (inl more) = inl (omega (arith, same.0, more))
joins a b c (inr same) (inr also) = inr (same.0 ∙ also.0, omega (arith, same.1, also.1))

equal_stamps : (a b : Stamp) → b ≡ a → IsNotBefore a b
equal_stamps a b is = inr (sym (ap (λ (s : Stamp). s.epoch) is), omega (arith, ap (λ (s : Stamp). s.seq) is))

closed_stamp : (u : Updates) → (closed u).stamp ≡ u.stamp
closed_stamp u = closed_cases (λ (v : Updates). v.stamp ≡ u.stamp) u (λ enough none. refl) refl

end_stamp : (u : Updates) (disk : ℕ) (ok : Bool) (wanted : Status) → (with_end_and_commit u disk ok wanted).stamp ≡ u.stamp
end_stamp u disk true wanted = commit_cases (λ (v : Updates). v.stamp ≡ u.stamp) (with_end u disk true wanted) (comes_held u (with_end u disk true wanted)) refl refl
end_stamp u disk false wanted = commit_cases (λ (v : Updates). v.stamp ≡ u.stamp) (with_end u disk false wanted) (comes_held u (with_end u disk false wanted)) refl refl

step_forward : (call : Call) (old new : Updates) → Step call old new → SetsForward call old → IsNotBefore old.stamp new.stamp
step_forward (Want c) old new step forward = equal_stamps old.stamp new.stamp (ap (λ (u : Updates). u.stamp) step.1 ∙ closed_stamp (record old { wanted = new.wanted; unstarted = given_up c old.unstarted }))
step_forward Start old new step forward = inr (sym (ap (λ (u : Updates). u.stamp.epoch) step.1), omega (arith, ap (λ (u : Updates). u.stamp.seq) step.1))
step_forward (NextWrite disk) old new step forward = equal_stamps old.stamp new.stamp (ap (λ (u : Updates). u.stamp) step.1)
step_forward (Ended disk ok) old new step forward =
    equal_stamps old.stamp new.stamp (ap (λ (u : Updates). u.stamp) step.2 ∙ closed_stamp (with_end_and_commit old disk ok new.wanted) ∙ end_stamp old disk ok new.wanted)
step_forward (SetStamp stamp) old new step forward =
    subst (λ (s : Stamp). IsNotBefore old.stamp s) (sym (ap (λ (u : Updates). u.stamp) step.1)) (not_earlier old.stamp stamp forward)

run_forward : (calls : List Call) (old new : Updates) → RunsForward calls old new → IsNotBefore old.stamp new.stamp
run_forward [] old new run = equal_stamps old.stamp new.stamp (ap (λ (u : Updates). u.stamp) run)
run_forward (call ∷ calls) old new run =
    joins old.stamp run.0.stamp new.stamp (step_forward call old run.0 run.1 run.2) (run_forward calls run.0 new run.3)

next_later : (a b c : Stamp) → IsNotBefore a b → c.epoch ≡ b.epoch → c.seq ≡ b.seq + 1 → (a.epoch < c.epoch) ⊎ ((a.epoch ≡ c.epoch) × (a.seq < c.seq))
next_later a b c (inl less) epoch seq = inl (omega (arith, less, epoch))
next_later a b c (inr same) epoch seq = inr (same.0 ∙ sym epoch, omega (arith, same.1, seq))

pub stamps_rise : StampsRise
stamps_rise calls a b c d first run second =
    is_later b.stamp d.stamp
    (next_later b.stamp c.stamp d.stamp (run_forward calls b c run) (ap (λ (u : Updates). u.stamp.epoch) second.1) (ap (λ (u : Updates). u.stamp.seq) second.1))

-- ---- staleness

closed_settled : (u : Updates) (p : Pp) → is_settled_stale u p ≡ true → is_settled_stale (closed u) p ≡ true
closed_settled u p is =
    closed_cases (λ (v : Updates). is_settled_stale v p ≡ true) u
    (λ enough none. let here = and_left (calls_stale u.committed p) (calls_stale (unwrap_or u.in_flight u.committed) p) is in both (calls_stale u.committed p) (calls_stale u.committed p) here here)
    is

twice : (o : Option Status) (s : Status) → unwrap_or o (unwrap_or o s) ≡ unwrap_or o s
twice None s = refl
twice (Some t) s = refl

end_settled : (u : Updates) (disk : ℕ) (ok : Bool) (wanted : Status) (p : Pp) → is_settled_stale u p ≡ true → is_settled_stale (with_end_and_commit u disk ok wanted) p ≡ true
end_settled u disk true wanted p is = by_test (comes_held u (with_end u disk true wanted))
  where
    by_test : (b : Bool) → is_settled_stale (if b then with_commit (with_end u disk true wanted) else with_end u disk true wanted) p ≡ true
    by_test true =
        let here = and_right (calls_stale u.committed p) (calls_stale (unwrap_or u.in_flight u.committed) p) is in
        both (calls_stale (unwrap_or u.in_flight u.committed) p) (calls_stale (unwrap_or u.in_flight (unwrap_or u.in_flight u.committed)) p) here
        (ap (λ (s : Status). calls_stale s p) (twice u.in_flight u.committed) ∙ here)
    by_test false = is
end_settled u disk false wanted p is = by_test (is_held u)
  where
    by_test : (b : Bool) → is_settled_stale (if not b && b then with_commit (with_end u disk false wanted) else with_end u disk false wanted) p ≡ true
    by_test true = is
    by_test false = is

wanted_still : (c : Change) (old new : Status) (p : Pp) → Changes c old new → wants_fresh p (Want c) ≡ false → calls_stale old p ≡ true → calls_stale new p ≡ true
wanted_still (change.Stale pp) old new p made other is = made.stale p ∙ or_left (calls_stale old p) (is_pp p pp) is
wanted_still (change.Fresh pp) old new p made other is = made.stale p ∙ both (calls_stale old p) (not (is_pp p pp)) is (ap not other)
wanted_still (change.Missing disk) old new p made other is = made.stale p ∙ is
wanted_still (change.Dirty lv) old new p made other is = made.stale p ∙ is
wanted_still (change.Clean lv) old new p made other is = made.stale p ∙ is

wanted_at_end : (disk : ℕ) (ok : Bool) (old new : Status) (p : Pp) → WantsAtEnd disk ok old new → calls_stale old p ≡ true → calls_stale new p ≡ true
wanted_at_end disk true old new p wants is = ap (λ (s : Status). calls_stale s p) wants ∙ is
wanted_at_end disk false old new p wants is = wants.stale p ∙ is

step_stays : (call : Call) (old new : Updates) (p : Pp) → Step call old new → wants_fresh p call ≡ false → StaysStale old p → StaysStale new p
step_stays (Want c) old new p step other is = record {
  settled = ap (λ (u : Updates). is_settled_stale u p) step.1 ∙ closed_settled (record old { wanted = new.wanted; unstarted = given_up c old.unstarted }) p is.settled;
  wanted = wanted_still c old.wanted new.wanted p step.0 other is.wanted;
}
step_stays Start old new p step other is = record {
  settled = ap (λ (u : Updates). is_settled_stale u p) step.1
      ∙ both (calls_stale old.committed p) (calls_stale old.wanted p) (and_left (calls_stale old.committed p) (calls_stale (unwrap_or old.in_flight old.committed) p) is.settled) is.wanted;
  wanted = ap (λ (u : Updates). calls_stale u.wanted p) step.1 ∙ is.wanted;
}
step_stays (NextWrite disk) old new p step other is = record {
  settled = ap (λ (u : Updates). is_settled_stale u p) step.1 ∙ is.settled;
  wanted = ap (λ (u : Updates). calls_stale u.wanted p) step.1 ∙ is.wanted;
}
step_stays (Ended disk ok) old new p step other is = record {
  settled = ap (λ (u : Updates). is_settled_stale u p) step.2 ∙ closed_settled (with_end_and_commit old disk ok new.wanted) p (end_settled old disk ok new.wanted p is.settled);
  wanted = wanted_at_end disk ok old.wanted new.wanted p step.1 is.wanted;
}
step_stays (SetStamp stamp) old new p step other is = record {
  settled = ap (λ (u : Updates). is_settled_stale u p) step.1 ∙ is.settled;
  wanted = ap (λ (u : Updates). calls_stale u.wanted p) step.1 ∙ is.wanted;
}

pub settled_stays : SettledStays
settled_stays [] old new p run other is = subst (λ (u : Updates). StaysStale u p) (sym run) is
settled_stays (call ∷ calls) old new p run other is =
    let apart = or_parts (wants_fresh p call) (list_any (wants_fresh p) calls) other in
    settled_stays calls run.0 new p run.2 apart.1 (step_stays call old run.0 p run.1 apart.0 is)

-- ---- missing disks

missing_at_end : (disk : ℕ) (ok : Bool) (old new : Status) (d : ℕ) → WantsAtEnd disk ok old new → calls_missing old d ≡ true → calls_missing new d ≡ true
missing_at_end disk true old new d wants is = ap (λ (s : Status). calls_missing s d) wants ∙ is
missing_at_end disk false old new d wants is = wants.missing d ∙ if_grows (d == disk) (calls_missing old d) is

step_missing : (call : Call) (old new : Updates) (disk : ℕ) → Step call old new → calls_missing old.wanted disk ≡ true → calls_missing new.wanted disk ≡ true
step_missing (Want c) old new disk step is = (gradual c old.wanted new.wanted old.unstarted step.0).grows disk is
step_missing Start old new disk step is = ap (λ (u : Updates). calls_missing u.wanted disk) step.1 ∙ is
step_missing (NextWrite d) old new disk step is = ap (λ (u : Updates). calls_missing u.wanted disk) step.1 ∙ is
step_missing (Ended d ok) old new disk step is = missing_at_end d ok old.wanted new.wanted disk step.1 is
step_missing (SetStamp stamp) old new disk step is = ap (λ (u : Updates). calls_missing u.wanted disk) step.1 ∙ is

pub missing_stays : MissingStays
missing_stays [] old new disk run is = ap (λ (u : Updates). calls_missing u.wanted disk) run ∙ is
missing_stays (call ∷ calls) old new disk run is = missing_stays calls run.0 new disk run.2 (step_missing call old run.0 disk run.1 is)

pub missing_is_not_written : MissingIsNotWritten
missing_is_not_written calls old new disk sound run is =
    let now = missing_stays calls old new disk run is in
    false_from_ne_true (new.unstarted disk)
    (λ due.
    let there = ((runs_stay_sound calls old new sound run).unstarted disk due).0 in
    false≢true (sym (not_false (calls_missing new.wanted disk) (and_right (is_member new.group disk) (not (calls_missing new.wanted disk)) there)) ∙ now))
