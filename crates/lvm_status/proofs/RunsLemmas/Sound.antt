-- A session is sound at each moment.
use Rattle.std.proofs.Common.{◌≡◌, ◌⊎◌, inl, inr, ℕ, ◌*◌, Bool, true, false, ◌&&◌, ◌||◌, not, List, [], ◌∷◌, Option, Some, None, refl, sym, ap, subst, ◌∙◌, arith, get_or}
use Rattle.std.specs.Prelude.{◌==◌, if◌then◌else◌, nat_lt, sum_by, unwrap_or}
use Rattle.std.specs.List.{list_any}
use Rattle.std.proofs.lemmas.Bool.{eq-eqb, eqb-true, false≢true, false_from_ne_true, or_from}
use Rattle.std.proofs.lemmas.List.Folds.{Any-from_list_any, list_any_at}
use Rattle.std.proofs.lemmas.List.Sums.{sum_by-cons}
use Rattle.lvm_status.specs.passed.Num.{Stamp, PvRow, Descriptor, Status, is_member, Disks, calls_missing, votes_in, total_votes, is_enough_to_write}
use Rattle.lvm_status.specs.Table.{SameMissing}
use Rattle.lvm_status.specs.declared.change.Change.{Change}
use Rattle.lvm_status.specs.declared.change.Change.TheVariants as change
use Rattle.lvm_status.specs.Update.{Updates, no_disks, with_disk, without_disk, members_there, is_there, is_held, is_owed}
use Rattle.lvm_status.specs.Calls.{Changes, WantsAtEnd, given_up, closed, comes_held, with_wanted, with_update, with_start, with_end, with_commit}
use Rattle.lvm_status.specs.Runs.{Want, Start, NextWrite, Ended, SetStamp, IsSoundStatus, FirstIsSound, StepsStaySound, RunsStaySound}
pub use Rattle.std.proofs.lemmas.Bool.{and_from as both, not-true as not_false, or_cases as or_tells, or_left}
pub use Rattle.lvm_status.proofs.passed.Num.{first_holds as and_left, second_holds as and_right}
use Rattle.lvm_status.proofs.passed.Num.{first_with_second, none_below}

-- ---- tests

pub option_tells : (o : Option Status) → (o ≡ None) ⊎ ((t : Status) × (o ≡ Some t))
option_tells None = inl refl
option_tells (Some t) = inr (t, refl)

-- ---- no disks have no votes

no_sum : (rows : List PvRow) → sum_by (λ (row : PvRow). 0) rows ≡ 0
no_sum [] = refl
no_sum (row ∷ rows) = omega (arith, sum_by-cons (λ (r : PvRow). 0) row rows, no_sum rows)

pub none_held : (d : Descriptor) → is_enough_to_write d (votes_in d no_disks) ≡ false
none_held d = ap (is_enough_to_write d) (no_sum d.pvs) ∙ by_quorum d.quorum (total_votes d)
  where
    by_quorum : (quorum : Bool) (total : ℕ) → (if quorum then nat_lt total (2 * 0) else nat_lt 0 0) ≡ false
    by_quorum true total = none_below total
    by_quorum false total = refl

-- a member in a set is among the members in it
pub owed_at : (d : Descriptor) (f : Disks) (disk : ℕ) → is_member d disk ≡ true → f disk ≡ true → list_any (λ (row : PvRow). f row.disk) d.pvs ≡ true
owed_at d f disk member is =
    let found = Any-from_list_any (λ (row : PvRow). row.disk == disk) d.pvs member in
    let its : (get_or d.pvs found.0 found.1).disk ≡ disk = omega (arith, ap (λ (row : PvRow). row.disk) found.3, eqb-true found.1.disk disk found.4) in
    list_any_at (λ (row : PvRow). f row.disk) d.pvs found.0 found.1 found.2 (ap f its ∙ is)

-- ---- an update that ends

-- sound, but that the update in flight may have ended
pub record IsNearly (u : Updates) : Type 0 where
  pub unstarted : (disk : ℕ) → u.unstarted disk ≡ true → (is_there u disk ≡ true) × (u.started disk ≡ false) × (u.written disk ≡ false) × (u.failed disk ≡ false)
  pub started : (disk : ℕ) → u.started disk ≡ true → is_member u.group disk ≡ true
  pub failed : (disk : ℕ) → u.failed disk ≡ true → calls_missing u.wanted disk ≡ true
  pub each : (t : Status) → u.in_flight ≡ Some t → (disk : ℕ) → is_there u disk ≡ true → u.unstarted disk || (u.started disk || u.written disk) ≡ true
  pub idle : u.in_flight ≡ None → (disk : ℕ) → (u.unstarted disk ≡ false) × (u.started disk ≡ false) × (u.written disk ≡ false) × (u.failed disk ≡ false)
  pub held : is_held u ≡ true → u.in_flight ≡ Some u.committed
  pub committed_missing : (disk : ℕ) → calls_missing u.committed disk ≡ true → calls_missing u.wanted disk ≡ true
  pub in_flight_missing : (t : Status) → u.in_flight ≡ Some t → (disk : ℕ) → calls_missing t disk ≡ true → calls_missing u.wanted disk ≡ true

abbrev without_update : Updates → Updates
without_update u = record u { in_flight = None; unstarted = no_disks; started = no_disks; written = no_disks; failed = no_disks }

closed_sound : (u : Updates) → IsNearly u → IsSoundStatus (closed u)
closed_sound u near = by_test (is_held u && not (is_owed u)) refl
  where
    by_test : (b : Bool) → is_held u && not (is_owed u) ≡ b → IsSoundStatus (if b then without_update u else u)
    by_test true e = record {
      unstarted = λ disk is. absurd (false≢true is);
      started = λ disk is. absurd (false≢true is);
      failed = λ disk is. absurd (false≢true is);
      each = λ t is. absurd (cc);
      idle = λ is disk. (refl, refl, refl, refl);
      held = λ is. absurd (false≢true (sym (none_held u.group) ∙ is));
      open_still = λ t is. absurd (cc);
      committed_missing = near.committed_missing;
      in_flight_missing = λ t is. absurd (cc);
    }
    by_test false e = record {
      unstarted = near.unstarted;
      started = near.started;
      failed = near.failed;
      each = near.each;
      idle = near.idle;
      held = near.held;
      open_still = λ t is. owes (is_held u) (is_owed u) e;
      committed_missing = near.committed_missing;
      in_flight_missing = near.in_flight_missing;
    }
      where
        owes : (held owed : Bool) → held && not owed ≡ false → (owed ≡ true) ⊎ (held ≡ false)
        owes true true h = inl refl
        owes true false h = absurd (false≢true (sym h))
        owes false owed h = inr refl

-- ---- what is wanted

-- the disk isn't another one, or the test says so
if_tells : (b old : Bool) → (if b then true else old) ≡ false → (b ≡ false) × (old ≡ false)
if_tells true old e = absurd (false≢true (sym e))
if_tells false old e = (refl, e)

pub if_grows : (b old : Bool) → old ≡ true → (if b then true else old) ≡ true
if_grows true old e = refl
if_grows false old e = e

and_not : (a b : Bool) → b ≡ false → a && not b ≡ a
and_not true b e = ap not e
and_not false b e = refl

-- what a change makes of missing disks and of writes that aren't started
pub record IsGradual (change : Change) (old new : Status) (unstarted : Disks) : Type 0 where
  pub grows : (disk : ℕ) → calls_missing old disk ≡ true → calls_missing new disk ≡ true
  pub gives : (disk : ℕ) → given_up change unstarted disk ≡ true → (unstarted disk ≡ true) × (calls_missing new disk ≡ calls_missing old disk)
  pub keeps : (disk : ℕ) → calls_missing new disk ≡ false → (given_up change unstarted disk ≡ unstarted disk) × (calls_missing old disk ≡ false)

-- where it makes no disk missing
gradual_still : (c : Change) (old new : Status) (unstarted : Disks) → SameMissing old new → given_up c unstarted ≡ unstarted → IsGradual c old new unstarted
gradual_still c old new unstarted missing same = record {
  grows = λ disk is. missing disk ∙ is;
  gives = λ disk is. (sym (ap (λ (set : Disks). set disk) same) ∙ is, missing disk);
  keeps = λ disk is. (ap (λ (set : Disks). set disk) same, sym (missing disk) ∙ is);
}

pub gradual : (c : Change) (old new : Status) (unstarted : Disks) → Changes c old new → IsGradual c old new unstarted
gradual (change.Stale pp) old new unstarted made = gradual_still (change.Stale pp) old new unstarted made.missing refl
gradual (change.Fresh pp) old new unstarted made = gradual_still (change.Fresh pp) old new unstarted made.missing refl
gradual (change.Missing gone) old new unstarted made = record {
  grows = λ disk is. made.missing disk ∙ if_grows (disk == gone) (calls_missing old disk) is;
  gives = λ disk is.
      let apart = not_false (disk == gone) (and_right (unstarted disk) (not (disk == gone)) is) in
      (and_left (unstarted disk) (not (disk == gone)) is, made.missing disk ∙ ap (λ b. if b then true else calls_missing old disk) apart);
  keeps = λ disk is.
      let told = if_tells (disk == gone) (calls_missing old disk) (sym (made.missing disk) ∙ is) in
      (and_not (unstarted disk) (disk == gone) told.0, told.1);
}
gradual (change.Dirty lv) old new unstarted made = gradual_still (change.Dirty lv) old new unstarted made.missing refl
gradual (change.Clean lv) old new unstarted made = gradual_still (change.Clean lv) old new unstarted made.missing refl

-- a member that isn't missing wasn't
there_before : (d : Descriptor) (old new : Status) (disk : ℕ) → (calls_missing new disk ≡ false → calls_missing old disk ≡ false) → members_there d new disk ≡ true → members_there d old disk ≡ true
there_before d old new disk before is =
    both (is_member d disk) (not (calls_missing old disk)) (and_left (is_member d disk) (not (calls_missing new disk)) is)
    (ap not (before (not_false (calls_missing new disk) (and_right (is_member d disk) (not (calls_missing new disk)) is))))

want_sound : (c : Change) (u : Updates) (wanted : Status) → IsSoundStatus u → Changes c u.wanted wanted → IsSoundStatus (with_wanted u c wanted)
want_sound c u wanted sound made =
    let g = gradual c u.wanted wanted u.unstarted made in
    closed_sound (record u { wanted = wanted; unstarted = given_up c u.unstarted })
    (record {
      unstarted = λ disk is.
          let given = g.gives disk is in
          let old = sound.unstarted disk given.0 in
          (ap (λ b. is_member u.group disk && not b) given.1 ∙ old.0, old.1, old.2, old.3);
      started = sound.started;
      failed = λ disk is. g.grows disk (sound.failed disk is);
      each = λ t flies disk is.
          let here : calls_missing wanted disk ≡ false = not_false (calls_missing wanted disk) (and_right (is_member u.group disk) (not (calls_missing wanted disk)) is) in
          ap (λ b. b || (u.started disk || u.written disk)) (g.keeps disk here).0
          ∙ sound.each t flies disk (there_before u.group u.wanted wanted disk (λ now. (g.keeps disk now).1) is);
      idle = λ none disk.
          let old = sound.idle none disk in
          (false_from_ne_true (given_up c u.unstarted disk) (λ is. false≢true (sym old.0 ∙ (g.gives disk is).0)), old.1, old.2, old.3);
      held = sound.held;
      committed_missing = λ disk is. g.grows disk (sound.committed_missing disk is);
      in_flight_missing = λ t flies disk is. g.grows disk (sound.in_flight_missing t flies disk is);
    })

-- ---- a beginning

start_sound : (u : Updates) → IsSoundStatus u → IsSoundStatus (with_update u)
start_sound u sound = record {
  unstarted = λ disk is. (is, refl, refl, refl);
  started = λ disk is. absurd (false≢true is);
  failed = λ disk is. absurd (false≢true is);
  each = λ t flies disk is. or_left (is_there u disk) false is;
  idle = λ none. absurd (cc);
  held = λ is. absurd (false≢true (sym (none_held u.group) ∙ is));
  open_still = λ t flies. inr (none_held u.group);
  committed_missing = sound.committed_missing;
  in_flight_missing = λ t flies disk is. let same : u.wanted ≡ t = cc in ap (λ (s : Status). calls_missing s disk) same ∙ is;
}

-- ---- a write that starts

starts_there : (un st wr e : Bool) → un || (st || wr) ≡ true → (un && not e) || ((st || e) || wr) ≡ true
starts_there true st wr false h = refl
starts_there true true wr true h = refl
starts_there true false wr true h = refl
starts_there false true wr e h = refl
starts_there false false true true h = refl
starts_there false false true false h = refl
starts_there false false false e h = absurd (false≢true h)

next_sound : (u : Updates) (disk : ℕ) → IsSoundStatus u → u.unstarted disk ≡ true → IsSoundStatus (with_start u (Some disk))
next_sound u disk sound is_lowest =
    let its = sound.unstarted disk is_lowest in
    let member : is_member u.group disk ≡ true = and_left (is_member u.group disk) (not (calls_missing u.wanted disk)) its.0 in
    record {
      unstarted = λ d is.
          let old = sound.unstarted d (and_left (u.unstarted d) (not (d == disk)) is) in
          let apart = not_false (d == disk) (and_right (u.unstarted d) (not (d == disk)) is) in
          (old.0, or_from (u.started d) (d == disk) old.1 apart, old.2, old.3);
      started = λ d is. elim (or_tells (u.started d) (d == disk) is) [
        | inl before ↦ sound.started d before
        | inr same ↦ ap (is_member u.group) (eqb-true d disk same) ∙ member
      ];
      failed = sound.failed;
      each = λ t flies d is. starts_there (u.unstarted d) (u.started d) (u.written d) (d == disk) (sound.each t flies d is);
      idle = λ none d. absurd (false≢true (sym (sound.idle none disk).0 ∙ is_lowest));
      held = sound.held;
      open_still = λ t flies.
          inl (owed_at u.group (λ d. without_disk u.unstarted disk d || with_disk u.started disk d) disk member
          (or_right (without_disk u.unstarted disk disk) (with_disk u.started disk disk) (or_right (u.started disk) (disk == disk) (eq-eqb disk disk refl))));
      committed_missing = sound.committed_missing;
      in_flight_missing = sound.in_flight_missing;
    }
  where
    or_right : (a b : Bool) → b ≡ true → a || b ≡ true
    or_right true b e = refl
    or_right false b e = e

-- ---- a write that ends

ends_there : (un st wr e : Bool) → un || (st || wr) ≡ true → un || ((st && not e) || (wr || e)) ≡ true
ends_there true st wr e h = refl
ends_there false true true true h = refl
ends_there false true true false h = refl
ends_there false true false true h = refl
ends_there false true false false h = refl
ends_there false false true true h = refl
ends_there false false true false h = refl
ends_there false false false e h = absurd (false≢true h)

-- of the write that ends, and of the others that aren't started
apart_from : (u : Updates) (disk d : ℕ) → IsSoundStatus u → u.started disk ≡ true → u.unstarted d ≡ true → d == disk ≡ false
apart_from u disk d sound out is =
    false_from_ne_true (d == disk) (λ same. false≢true (sym (sound.unstarted d is).1 ∙ ap u.started (eqb-true d disk same) ∙ out))

-- the same, whatever is committed, but for what is held
ends_nearly : (u : Updates) (disk : ℕ) (ok : Bool) (wanted committed : Status) → IsSoundStatus u → u.started disk ≡ true → WantsAtEnd disk ok u.wanted wanted
    → (is_held (with_end u disk ok wanted) ≡ true → u.in_flight ≡ Some committed)
    → ((d : ℕ) → calls_missing committed d ≡ true → calls_missing u.wanted d ≡ true)
    → IsNearly (record (with_end u disk ok wanted) { committed = committed })
ends_nearly u disk true wanted committed sound out wants held missing =
    let same : (d : ℕ) → calls_missing wanted d ≡ calls_missing u.wanted d = λ d. ap (λ (s : Status). calls_missing s d) wants in
    record {
      unstarted = λ d is.
          let old = sound.unstarted d is in
          let apart = apart_from u disk d sound out is in
          (ap (λ b. is_member u.group d && not b) (same d) ∙ old.0, ap (λ b. b && not (d == disk)) old.1, or_from (u.written d) (d == disk) old.2 apart, old.3);
      started = λ d is. sound.started d (and_left (u.started d) (not (d == disk)) is);
      failed = λ d is. same d ∙ sound.failed d is;
      each = λ t flies d is.
          ends_there (u.unstarted d) (u.started d) (u.written d) (d == disk)
          (sound.each t flies d (there_before u.group u.wanted wanted d (λ now. sym (same d) ∙ now) is));
      idle = λ none d. absurd (false≢true (sym (sound.idle none disk).1 ∙ out));
      held = held;
      committed_missing = λ d is. same d ∙ missing d is;
      in_flight_missing = λ t flies d is. same d ∙ sound.in_flight_missing t flies d is;
    }
ends_nearly u disk false wanted committed sound out wants held missing = record {
  unstarted = λ d is.
      let old = sound.unstarted d is in
      let apart = apart_from u disk d sound out is in
      let same : calls_missing wanted d ≡ calls_missing u.wanted d = wants.missing d ∙ ap (λ b. if b then true else calls_missing u.wanted d) apart in
      (ap (λ b. is_member u.group d && not b) same ∙ old.0, ap (λ b. b && not (d == disk)) old.1, old.2, or_from (u.failed d) (d == disk) old.3 apart);
  started = λ d is. sound.started d (and_left (u.started d) (not (d == disk)) is);
  failed = λ d is. elim (or_tells (u.failed d) (d == disk) is) [
    | inl before ↦ wants.missing d ∙ if_grows (d == disk) (calls_missing u.wanted d) (sound.failed d before)
    | inr now ↦ wants.missing d ∙ ap (λ b. if b then true else calls_missing u.wanted d) now
  ];
  each = λ t flies d is.
      let here : calls_missing wanted d ≡ false = not_false (calls_missing wanted d) (and_right (is_member u.group d) (not (calls_missing wanted d)) is) in
      let told = if_tells (d == disk) (calls_missing u.wanted d) (sym (wants.missing d) ∙ here) in
      ap (λ b. u.unstarted d || (b || u.written d)) (and_not (u.started d) (d == disk) told.0)
      ∙ sound.each t flies d (there_before u.group u.wanted wanted d (λ now. told.1) is);
  idle = λ none d. absurd (false≢true (sym (sound.idle none disk).1 ∙ out));
  held = held;
  committed_missing = λ d is. wants.missing d ∙ if_grows (d == disk) (calls_missing u.wanted d) (missing d is);
  in_flight_missing = λ t flies d is. wants.missing d ∙ if_grows (d == disk) (calls_missing u.wanted d) (sound.in_flight_missing t flies d is);
}

never_both : (a : Bool) → not a && a ≡ false
never_both true = refl
never_both false = refl

-- an update is in flight while a write of it is out
pub flies : (u : Updates) (disk : ℕ) → IsSoundStatus u → u.started disk ≡ true → (t : Status) × (u.in_flight ≡ Some t)
flies u disk sound out = elim (option_tells u.in_flight) [
  | inl none ↦ absurd (false≢true (sym (sound.idle none disk).1 ∙ out))
  | inr some ↦ some
]

-- what the end of a write makes of the status, before the update may end
abbrev pub with_end_and_commit : Updates → ℕ → Bool → Status → Updates
with_end_and_commit u disk ok wanted = if comes_held u (with_end u disk ok wanted) then with_commit (with_end u disk ok wanted) else with_end u disk ok wanted

good_end : (u : Updates) (disk : ℕ) (wanted : Status) → IsSoundStatus u → u.started disk ≡ true → WantsAtEnd disk true u.wanted wanted → IsNearly (with_end_and_commit u disk true wanted)
good_end u disk wanted sound out wants = by_test (comes_held u (with_end u disk true wanted)) refl
  where
    by_test : (b : Bool) → comes_held u (with_end u disk true wanted) ≡ b → IsNearly (if b then with_commit (with_end u disk true wanted) else with_end u disk true wanted)
    by_test true e =
        let f = flies u disk sound out in
        ends_nearly u disk true wanted (unwrap_or u.in_flight u.committed) sound out wants
        (λ is. f.1 ∙ ap (λ (o : Option Status). Some (unwrap_or o u.committed)) (sym f.1))
        (λ d is. sound.in_flight_missing f.0 f.1 d (ap (λ (o : Option Status). calls_missing (unwrap_or o u.committed) d) (sym f.1) ∙ is))
    by_test false e =
        ends_nearly u disk true wanted u.committed sound out wants
        (λ is. sound.held (first_with_second (is_held u) (is_held (with_end u disk true wanted)) e is))
        sound.committed_missing

bad_end : (u : Updates) (disk : ℕ) (wanted : Status) → IsSoundStatus u → u.started disk ≡ true → WantsAtEnd disk false u.wanted wanted → IsNearly (with_end_and_commit u disk false wanted)
bad_end u disk wanted sound out wants =
    subst (λ b. IsNearly (if b then with_commit (with_end u disk false wanted) else with_end u disk false wanted)) (sym (never_both (is_held u)))
    (ends_nearly u disk false wanted u.committed sound out wants sound.held sound.committed_missing)

pub end_nearly : (u : Updates) (disk : ℕ) (ok : Bool) (wanted : Status) → IsSoundStatus u → u.started disk ≡ true → WantsAtEnd disk ok u.wanted wanted → IsNearly (with_end_and_commit u disk ok wanted)
end_nearly u disk true wanted sound out wants = good_end u disk wanted sound out wants
end_nearly u disk false wanted sound out wants = bad_end u disk wanted sound out wants

-- ---- each call

stamp_sound : (u : Updates) (stamp : Stamp) → IsSoundStatus u → IsSoundStatus (record u { stamp = stamp })
stamp_sound u stamp sound = record {
  unstarted = sound.unstarted;
  started = sound.started;
  failed = sound.failed;
  each = sound.each;
  idle = sound.idle;
  held = sound.held;
  open_still = sound.open_still;
  committed_missing = sound.committed_missing;
  in_flight_missing = sound.in_flight_missing;
}

pub first_is_sound : FirstIsSound
first_is_sound table d = record {
  unstarted = λ disk is. absurd (false≢true is);
  started = λ disk is. absurd (false≢true is);
  failed = λ disk is. absurd (false≢true is);
  each = λ t is. absurd (cc);
  idle = λ is disk. (refl, refl, refl, refl);
  held = λ is. absurd (false≢true (sym (none_held (record d { lvs = [] })) ∙ is));
  open_still = λ t is. absurd (cc);
  committed_missing = λ disk is. is;
  in_flight_missing = λ t is. absurd (cc);
}

pub steps_stay_sound : StepsStaySound
steps_stay_sound (Want c) u v sound made = subst IsSoundStatus (sym made.1) (want_sound c u v.wanted sound made.0)
steps_stay_sound Start u v sound made = subst IsSoundStatus (sym made.1) (start_sound u sound)
steps_stay_sound (NextWrite disk) u v sound made = subst IsSoundStatus (sym made.1) (next_sound u disk sound made.0.0)
steps_stay_sound (Ended disk ok) u v sound made = subst IsSoundStatus (sym made.2) (closed_sound (with_end_and_commit u disk ok v.wanted) (end_nearly u disk ok v.wanted sound made.0 made.1))
steps_stay_sound (SetStamp stamp) u v sound made = subst IsSoundStatus (sym made.1) (stamp_sound u stamp sound)

pub runs_stay_sound : RunsStaySound
runs_stay_sound [] u v sound made = subst IsSoundStatus (sym made) sound
runs_stay_sound (call ∷ calls) u v sound made = runs_stay_sound calls made.0 v (steps_stay_sound call u made.0 sound made.1) made.2
