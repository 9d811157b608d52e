-- How the writes of an update end, one after another.
use Rattle.std.proofs.Common.{◌≡◌, ◌⊎◌, inl, inr, ⊎_elim, ℕ, Bool, true, false, ◌&&◌, ◌||◌, not, Option, Some, None, refl, sym, ◌∙◌, ap, subst}
use Rattle.std.specs.Prelude.{◌==◌, if◌then◌else◌, unwrap_or}
use Rattle.std.proofs.lemmas.Bool.{eq-eqb, eqb-true, false≢true, false_from_ne_true, or_from}
use Rattle.std.proofs.lemmas.List.Folds.{Any-from_list_any}
use Rattle.lvm_num.specs.declared.descriptor.PvRow.{PvRow}
use Rattle.lvm_num.specs.declared.descriptor.Descriptor.{Descriptor}
use Rattle.lvm_num.specs.declared.status.Status.{Status}
use Rattle.lvm_num.specs.Descriptor.{is_member}
use Rattle.lvm_num.specs.Disks.{Disks, IsLowest}
use Rattle.lvm_num.specs.Status.{calls_missing}
use Rattle.lvm_num.specs.Votes.{votes_in, is_enough_to_write, CanWrite}
use Rattle.lvm_num.proofs.VotesLemmas.{more_is_enough, more_have_more}
use Rattle.lvm_num.proofs.Booleans.{first_with_second}
use Rattle.lvm_status.specs.Update.{Updates, no_disks, without_disk, is_there, is_held, is_owed}
use Rattle.lvm_status.specs.Calls.{WantsAtEnd, closed, comes_held, with_start, with_end, with_commit, after_end}
use Rattle.lvm_status.specs.Runs.{NextWrite, Ended, IsSoundStatus}
use Rattle.lvm_status.proofs.RunsLemmas.Sessions.{without_update, closed_cases, commit_cases}
use Rattle.lvm_status.proofs.RunsLemmas.Sound.{and_left, and_right, or_left, none_held, owed_at, steps_stay_sound}
use Rattle.lvm_commit.specs.Rounds.{Misses}
use Rattle.lvm_commit.proofs.RoundsLemmas.Losing.{misses_none, misses_same, misses_more}

-- the session with another committed status
abbrev committing : Status → Updates → Updates
committing t u = record u { committed = t }

-- ---- the end of one write

-- what it leaves, where this is in flight
record EndsAs (t : Status) (v : Updates) (disk : ℕ) (x : Updates) : Type 0 where
  group : x.group ≡ v.group
  stamp : x.stamp ≡ v.stamp
  unstarted : (d : ℕ) → x.unstarted d ≡ v.unstarted d
  started : (d : ℕ) → (x.started d ≡ without_disk v.started disk d) ⊎ (x.started d ≡ false)
  flown : (x.in_flight ≡ Some t) ⊎ ((x.in_flight ≡ None) × (x.committed ≡ t))
  held : is_held x ≡ true → x.in_flight ≡ Some x.committed

none_owed : (m : Updates) → is_owed m ≡ false → ((d : ℕ) → m.unstarted d ≡ true → is_member m.group d ≡ true) → (d : ℕ) → m.unstarted d ≡ false
none_owed m none members d =
    false_from_ne_true (m.unstarted d)
    (λ is. false≢true (sym none ∙ owed_at m.group (λ disk. m.unstarted disk || m.started disk) d (members d is) (ap (λ b. b || m.started d) is)))

-- the update ends, or doesn't
closes_as : (t : Status) (v m : Updates) (disk : ℕ) → ((d : ℕ) → m.unstarted d ≡ true → is_member m.group d ≡ true) → EndsAs t v disk m → m.in_flight ≡ Some t → EndsAs t v disk (closed m)
closes_as t v m disk members it flies =
    closed_cases (EndsAs t v disk) m
    (λ held none. record {
      group = it.group;
      stamp = it.stamp;
      unstarted = λ d. sym (none_owed m none members d) ∙ it.unstarted d;
      started = λ d. inr refl;
      flown = (let is = it.held held in let same : m.committed ≡ t = cc in inr (refl, same));
      held = λ is. absurd (false≢true (sym (none_held m.group) ∙ is));
    })
    it

-- it goes on in flight, all that isn't written beside it as it was
flies_on : (t : Status) (v x : Updates) (disk : ℕ) → x.group ≡ v.group → x.stamp ≡ v.stamp → x.unstarted ≡ v.unstarted → x.started ≡ without_disk v.started disk → x.in_flight ≡ Some t
    → (is_held x ≡ true → x.in_flight ≡ Some x.committed) → EndsAs t v disk x
flies_on t v x disk group stamp unstarted started flies held = record {
  group = group;
  stamp = stamp;
  unstarted = λ d. ap (λ (set : Disks). set d) unstarted;
  started = λ d. inl (ap (λ (set : Disks). set d) started);
  flown = inl flies;
  held = held;
}

-- it is committed by this write, or not
commits_as : (t : Status) (v n : Updates) (disk : ℕ) → n.group ≡ v.group → n.stamp ≡ v.stamp → n.unstarted ≡ v.unstarted → n.started ≡ without_disk v.started disk → n.in_flight ≡ Some t → n.committed ≡ v.committed
    → (is_held v ≡ true → v.committed ≡ t) → (b : Bool) → not (is_held v) && is_held n ≡ b → EndsAs t v disk (if b then with_commit n else n)
commits_as t v n disk group stamp unstarted started flies committed held true e =
    flies_on t v (with_commit n) disk group stamp unstarted started flies (λ is. flies ∙ ap (λ (o : Option Status). Some (unwrap_or o n.committed)) (sym flies))
commits_as t v n disk group stamp unstarted started flies committed held false e =
    flies_on t v n disk group stamp unstarted started flies (λ is. flies ∙ ap (λ (s : Status). Some s) (sym (held (first_with_second (is_held v) (is_held n) e is)) ∙ sym committed))

flies_still : (t : Status) (n : Updates) → n.in_flight ≡ Some t → (b : Bool) → (if b then with_commit n else n).in_flight ≡ Some t
flies_still t n flies b = commit_cases (λ m. m.in_flight ≡ Some t) n b flies flies

members_still : (n : Updates) → ((d : ℕ) → n.unstarted d ≡ true → is_member n.group d ≡ true) → (b : Bool) → (d : ℕ) → (if b then with_commit n else n).unstarted d ≡ true → is_member (if b then with_commit n else n).group d ≡ true
members_still n members b = commit_cases (λ m. (d : ℕ) → m.unstarted d ≡ true → is_member m.group d ≡ true) n b members members

end_is : (t : Status) (v : Updates) (disk : ℕ) (ok : Bool) (w : Status) → v.in_flight ≡ Some t → (is_held v ≡ true → v.committed ≡ t) → ((d : ℕ) → v.unstarted d ≡ true → is_member v.group d ≡ true) → EndsAs t v disk (after_end v disk ok w)
end_is t v disk true w flies held members =
    let n = with_end v disk true w in
    closes_as t v (if comes_held v n then with_commit n else n) disk (members_still n members (comes_held v n)) (commits_as t v n disk refl refl refl refl flies refl held (comes_held v n) refl) (flies_still t n flies (comes_held v n))
end_is t v disk false w flies held members =
    let n = with_end v disk false w in
    closes_as t v (if comes_held v n then with_commit n else n) disk (members_still n members (comes_held v n)) (commits_as t v n disk refl refl refl refl flies refl held (comes_held v n) refl) (flies_still t n flies (comes_held v n))

-- whichever status was committed before, where it is the one in flight that is committed
commits_committing : (t : Status) (n : Updates) → n.in_flight ≡ Some t → (b : Bool) → committing t (closed (if b then with_commit n else n)) ≡ closed (if b then with_commit (committing t n) else committing t n)
commits_committing t n flies = by_commit
  where
    by_close : (m : Updates) (b : Bool) → committing t (if b then without_update m else m) ≡ (if b then without_update (committing t m) else committing t m)
    by_close m true = refl
    by_close m false = refl

    by_commit : (b : Bool) → committing t (closed (if b then with_commit n else n)) ≡ closed (if b then with_commit (committing t n) else committing t n)
    by_commit true = by_close (with_commit n) (is_held n && not (is_owed n)) ∙ ap (λ (s : Status). closed (record n { committed = s })) (ap (λ (o : Option Status). unwrap_or o t) (sym flies))
    by_commit false = by_close n (is_held n && not (is_owed n))

end_committing : (t : Status) (v : Updates) (disk : ℕ) (ok : Bool) (w : Status) → v.in_flight ≡ Some t → committing t (after_end v disk ok w) ≡ after_end (committing t v) disk ok w
end_committing t v disk true w flies = commits_committing t (with_end v disk true w) flies (comes_held v (with_end v disk true w))
end_committing t v disk false w flies = commits_committing t (with_end v disk false w) flies (comes_held v (with_end v disk false w))

-- ---- which disks have it, and what is committed

-- a disk has the update only where it had it before this write ended
after_written : (v : Updates) (disk : ℕ) (ok : Bool) (w : Status) (d : ℕ) → (after_end v disk ok w).written d ≡ true → (with_end v disk ok w).written d ≡ true
after_written v disk ok w d = commit_cases (λ m. (closed m).written d ≡ true → n.written d ≡ true) n (comes_held v n) (once_closed (with_commit n)) (once_closed n)
  where
    n : Updates
    n = with_end v disk ok w

    once_closed : (m : Updates) → (closed m).written d ≡ true → m.written d ≡ true
    once_closed m = closed_cases (λ (x : Updates). x.written d ≡ true → m.written d ≡ true) m (λ held none is. absurd (false≢true is)) (λ is. is)

-- it had it, or this write ended well
end_written : (v : Updates) (disk : ℕ) (ok : Bool) (w : Status) (d : ℕ) → (with_end v disk ok w).written d ≡ true → (v.written d ≡ true) ⊎ ((ok ≡ true) × ((d == disk) ≡ true))
end_written v disk false w d is = inl is
end_written v disk true w d is = by_test (v.written d) (d == disk) is
  where
    by_test : (a b : Bool) → a || b ≡ true → (a ≡ true) ⊎ ((true ≡ true) × (b ≡ true))
    by_test true b is = inl refl
    by_test false b is = inr (refl, is)

-- what is committed stays, or the disks that have the update have votes enough
after_committed : (v : Updates) (disk : ℕ) (ok : Bool) (w : Status) → ((after_end v disk ok w).committed ≡ v.committed) ⊎ (is_held (with_end v disk ok w) ≡ true)
after_committed v disk ok w = by_commit (with_end v disk ok w) (same ok) (comes_held v (with_end v disk ok w)) refl
  where
    same : (b : Bool) → (with_end v disk b w).committed ≡ v.committed
    same true = refl
    same false = refl

    by_commit : (n : Updates) → n.committed ≡ v.committed → (b : Bool) → not (is_held v) && is_held n ≡ b → ((closed (if b then with_commit n else n)).committed ≡ v.committed) ⊎ (is_held n ≡ true)
    by_commit n is true e = inr (and_right (not (is_held v)) (is_held n) e)
    by_commit n is false e = inl (closed_cases (λ m. m.committed ≡ v.committed) n (λ held none. is) is)

-- disks among which are all that have the update have votes enough where those do
held_within : (n : Updates) (group : Descriptor) (disks : Disks) → n.group ≡ group → ((d : ℕ) → n.written d ≡ true → disks d ≡ true) → is_held n ≡ true → CanWrite group disks
held_within n group disks same within held = subst (λ (g : Descriptor). CanWrite g disks) same
    (more_is_enough.write n.group (votes_in n.group n.written) (votes_in n.group disks) (more_have_more n.group n.written disks (λ d member here. within d here)) held)

end_within : (v : Updates) (disk : ℕ) (ok : Bool) (w : Status) (group : Descriptor) (disks : Disks) → v.group ≡ group → ((d : ℕ) → (with_end v disk ok w).written d ≡ true → disks d ≡ true) → is_held (with_end v disk ok w) ≡ true
    → CanWrite group disks
end_within v disk true w group disks same within held = held_within (with_end v disk true w) group disks same within held
end_within v disk false w group disks same within held = held_within (with_end v disk false w) group disks same within held

-- ---- all of them

-- the members on which it doesn't fail
abbrev pub well_on : Updates → Disks → Disks
well_on first failed d = is_there first d && not (failed d)

-- Some of the writes have ended: those of disks that are still unstarted haven't.
pub record IsEnding (first : Updates) (failed : Disks) (u : Updates) : Type 0 where
  pub sound : IsSoundStatus (committing first.wanted u)
  pub group : u.group ≡ first.group
  pub stamp : u.stamp ≡ first.stamp
  pub started : (d : ℕ) → u.started d ≡ false
  pub within : (d : ℕ) → u.unstarted d ≡ true → is_there first d ≡ true
  pub flown : (u.in_flight ≡ Some first.wanted) ⊎ ((u.in_flight ≡ None) × (u.committed ≡ first.wanted))
  pub held : is_held u ≡ true → u.in_flight ≡ Some u.committed
  pub wanted : Misses (λ d. is_there first d && failed d && not (u.unstarted d)) first.wanted u.wanted
  pub wrote : (d : ℕ) → u.written d ≡ true → well_on first failed d ≡ true
  pub committed : (u.committed ≡ first.committed) ⊎ CanWrite first.group (well_on first failed)

module _ (first : Updates) (failed : Disks) where
  abbrev gone : Updates → Disks
  gone u d = is_there first d && failed d && not (u.unstarted d)

  pub ending_first : first.in_flight ≡ Some first.wanted → first.unstarted ≡ is_there first → first.started ≡ no_disks → first.written ≡ no_disks → first.failed ≡ no_disks → IsEnding first failed first
  ending_first flies unstarted started written fails =
      let none : is_held first ≡ false = ap (λ (set : Disks). is_enough_to_write first.group (votes_in first.group set)) written ∙ none_held first.group in
      record {
        sound = record {
          unstarted = λ d is. (sym (ap (λ (set : Disks). set d) unstarted) ∙ is, ap (λ (set : Disks). set d) started, ap (λ (set : Disks). set d) written, ap (λ (set : Disks). set d) fails);
          started = λ d is. absurd (false≢true (sym (ap (λ (set : Disks). set d) started) ∙ is));
          failed = λ d is. absurd (false≢true (sym (ap (λ (set : Disks). set d) fails) ∙ is));
          each = λ t is d here. or_left (first.unstarted d) (first.started d || first.written d) (ap (λ (set : Disks). set d) unstarted ∙ here);
          idle = λ is. absurd (cc);
          held = λ is. absurd (false≢true (sym none ∙ is));
          open_still = λ t is. inr none;
          committed_missing = λ d is. is;
          in_flight_missing = λ t is d missing. (let same : first.wanted ≡ t = cc in ap (λ (s : Status). calls_missing s d) same ∙ missing);
        };
        group = refl;
        stamp = refl;
        started = λ d. ap (λ (set : Disks). set d) started;
        within = λ d is. sym (ap (λ (set : Disks). set d) unstarted) ∙ is;
        flown = inl flies;
        held = λ is. absurd (false≢true (sym none ∙ is));
        wanted = misses_none (gone first) first.wanted (λ d. ap (λ (set : Disks). is_there first d && failed d && not (set d)) unstarted ∙ never (is_there first d) (failed d));
        wrote = λ d is. absurd (false≢true (sym (ap (λ (set : Disks). set d) written) ∙ is));
        committed = inl refl;
      }
    where
      never : (there fails : Bool) → there && fails && not there ≡ false
      never true true = refl
      never true false = refl
      never false fails = refl

  module _ (u : Updates) (disk : ℕ) (ending : IsEnding first failed u) (lowest : IsLowest u.unstarted (Some disk)) where
    abbrev ok : Bool
    ok = not (failed disk)

    abbrev v : Updates
    v = with_start u (Some disk)

    flies : u.in_flight ≡ Some first.wanted
    flies = ⊎_elim (λ is. is) (λ closed. absurd (false≢true (sym (ending.sound.idle closed.0 disk).0 ∙ lowest.0))) ending.flown

    ends_as : (x : Updates) → x ≡ after_end v disk ok x.wanted → EndsAs first.wanted v disk x
    ends_as x ends =
        subst (EndsAs first.wanted v disk) (sym ends)
        (end_is first.wanted v disk ok x.wanted flies
        (λ is. let held = ending.held is in let flying = flies in cc)
        (λ d is. and_left (is_member u.group d) (not (calls_missing u.wanted d)) (ending.sound.unstarted d (and_left (u.unstarted d) (not (d == disk)) is)).0))

    pub ending_fewer : (x : Updates) → x ≡ after_end v disk ok x.wanted → (d : ℕ) → x.unstarted d ≡ u.unstarted d && not (d == disk)
    ending_fewer x ends d = (ends_as x ends).unstarted d

    next_wanted : (x : Updates) → (b : Bool) → failed disk ≡ b → WantsAtEnd disk (not b) u.wanted x.wanted → ((d : ℕ) → x.unstarted d ≡ u.unstarted d && not (d == disk)) → Misses (gone x) first.wanted x.wanted
    next_wanted x false well wants fewer =
        misses_same (gone u) (gone x) first.wanted u.wanted x.wanted ending.wanted wants
        (λ d. same_part (is_there first d) (failed d) (u.unstarted d) (x.unstarted d) (d == disk) (fewer d) (λ e. ap failed (eqb-true d disk e) ∙ well))
      where
        same_part : (there fails un xun e : Bool) → xun ≡ un && not e → (e ≡ true → fails ≡ false) → there && fails && not xun ≡ there && fails && not un
        same_part false fails un xun e is well = refl
        same_part true false un xun e is well = refl
        same_part true true un xun true is well = absurd (false≢true (sym (well refl)))
        same_part true true true xun false is well = ap not is
        same_part true true false xun false is well = ap not is
    next_wanted x true badly wants fewer =
        misses_more (gone u) (gone x) disk first.wanted u.wanted x.wanted ending.wanted wants
        (λ d. grows (calls_missing first.wanted d) (is_there first d) (failed d) (u.unstarted d) (x.unstarted d) (d == disk) (fewer d)
        (λ e. let same = eqb-true d disk e in (ap (is_there first) same ∙ ending.within disk lowest.0, ap failed same ∙ badly)))
        (is_gone (is_there first disk) (failed disk) (u.unstarted disk) (x.unstarted disk) (disk == disk) (eq-eqb disk disk refl) (fewer disk) (ending.within disk lowest.0) badly)
      where
        grows : (m there fails un xun e : Bool) → xun ≡ un && not e → (e ≡ true → (there ≡ true) × (fails ≡ true)) → m || (there && fails && not xun) ≡ (if e then true else m || (there && fails && not un))
        grows m there fails true xun false is its = ap (λ b. m || (there && fails && not b)) is
        grows m there fails false xun false is its = ap (λ b. m || (there && fails && not b)) is
        grows true there fails un xun true is its = refl
        grows false true true true xun true is its = ap not is
        grows false true true false xun true is its = ap not is
        grows false true false un xun true is its = absurd (false≢true (its refl).1)
        grows false false fails un xun true is its = absurd (false≢true (its refl).0)

        is_gone : (there fails un xun e : Bool) → e ≡ true → xun ≡ un && not e → there ≡ true → fails ≡ true → there && fails && not xun ≡ true
        is_gone false fails un xun e same is here bad = absurd (false≢true here)
        is_gone true false un xun e same is here bad = absurd (false≢true bad)
        is_gone true true un xun false same is here bad = absurd (false≢true same)
        is_gone true true true xun true same is here bad = ap not is
        is_gone true true false xun true same is here bad = ap not is

    next_started : (x : Updates) → x ≡ after_end v disk ok x.wanted → (d : ℕ) → x.started d ≡ false
    next_started x ends d = ⊎_elim (λ is. is ∙ ap (λ b. (b || d == disk) && not (d == disk)) (ending.started d) ∙ never (d == disk)) (λ is. is) ((ends_as x ends).started d)
      where
        never : (e : Bool) → e && not e ≡ false
        never true = refl
        never false = refl

    wrote_end : (w : Status) (d : ℕ) → (with_end v disk ok w).written d ≡ true → well_on first failed d ≡ true
    wrote_end w d is = ⊎_elim
        (λ before. ending.wrote d before)
        (λ now. let same = eqb-true d disk now.1 in
        ap (λ b. b && not (failed d)) (ap (is_there first) same ∙ ending.within disk lowest.0) ∙ ap (λ n. not (failed n)) same ∙ now.0)
        (end_written v disk ok w d is)

    next_committed : (x : Updates) → x ≡ after_end v disk ok x.wanted → (x.committed ≡ first.committed) ⊎ CanWrite first.group (well_on first failed)
    next_committed x ends = ⊎_elim
        (λ same. ⊎_elim (λ was. inl (ap (λ (y : Updates). y.committed) ends ∙ same ∙ was)) (λ enough. inr enough) ending.committed)
        (λ held. inr (end_within v disk ok x.wanted first.group (well_on first failed) ending.group (wrote_end x.wanted) held))
        (after_committed v disk ok x.wanted)

    pub ending_next : (x : Updates) → WantsAtEnd disk ok v.wanted x.wanted → x ≡ after_end v disk ok x.wanted → IsEnding first failed x
    ending_next x wants ends =
        let it : EndsAs first.wanted v disk x = ends_as x ends in
        let started : IsSoundStatus (committing first.wanted v) = steps_stay_sound (NextWrite disk) (committing first.wanted u) (committing first.wanted v) ending.sound (lowest, refl) in
        let out : v.started disk ≡ true = ap (λ b. b || disk == disk) (ending.started disk) ∙ eq-eqb disk disk refl in
        record {
          sound = steps_stay_sound (Ended disk ok) (committing first.wanted v) (committing first.wanted x) started (out, wants, ap (committing first.wanted) ends ∙ end_committing first.wanted v disk ok x.wanted flies);
          group = it.group ∙ ending.group;
          stamp = it.stamp ∙ ending.stamp;
          started = next_started x ends;
          within = λ d is. ending.within d (and_left (u.unstarted d) (not (d == disk)) (sym (it.unstarted d) ∙ is));
          flown = it.flown;
          held = it.held;
          wanted = next_wanted x (failed disk) refl wants (ending_fewer x ends);
          wrote = λ d is. wrote_end x.wanted d (after_written v disk ok x.wanted d (sym (ap (λ (y : Updates). y.written d) ends) ∙ is));
          committed = next_committed x ends;
        }

  -- ---- afterwards

  module _ (u : Updates) (ending : IsEnding first failed u) (none : (d : ℕ) → u.unstarted d ≡ false) where
    no_owed : is_owed u ≡ true → ⊥
    no_owed is =
        let found = Any-from_list_any (λ (row : PvRow). u.unstarted row.disk || u.started row.disk) u.group.pvs is in
        false≢true (sym (or_from (u.unstarted found.1.disk) (u.started found.1.disk) (none found.1.disk) (ending.started found.1.disk)) ∙ found.4)

    all_written : u.in_flight ≡ Some first.wanted → (d : ℕ) → is_there u d ≡ true → u.written d ≡ true
    all_written is d here = sym (ap (λ b. b || (u.started d || u.written d)) (none d) ∙ ap (λ b. b || u.written d) (ending.started d)) ∙ ending.sound.each first.wanted is d here

    pub ending_committed : CanWrite u.group (is_there u) → (u.in_flight ≡ None) × (u.committed ≡ first.wanted)
    ending_committed enough = ⊎_elim
        (λ is.
        let more = more_have_more u.group (is_there u) u.written (λ d member here. all_written is d here) in
        let held : is_held u ≡ true = more_is_enough.write u.group (votes_in u.group (is_there u)) (votes_in u.group u.written) more enough in
        ⊎_elim (λ owed. absurd (no_owed owed)) (λ short. absurd (false≢true (sym short ∙ held))) (ending.sound.open_still first.wanted is))
        (λ closed. closed)
        ending.flown

    pub ending_wanted : Misses (λ d. is_there first d && failed d) first.wanted u.wanted
    ending_wanted = misses_same (gone u) (λ d. is_there first d && failed d) first.wanted u.wanted u.wanted ending.wanted refl (λ d. sym (ap (λ b. is_there first d && failed d && not b) (none d) ∙ always (is_there first d && failed d)))
      where
        always : (b : Bool) → b && true ≡ b
        always true = refl
        always false = refl

    -- where too few are left, what was committed still is
    pub ending_short : is_enough_to_write u.group (votes_in u.group (is_there u)) ≡ false → u.committed ≡ first.committed
    ending_short short = ⊎_elim (λ same. same)
        (λ (enough : CanWrite first.group (well_on first failed)). absurd (false≢true (sym short ∙ subst (λ (g : Descriptor). CanWrite g (is_there u)) (sym ending.group) (subst (CanWrite first.group) (sym there_then) enough))))
        ending.committed
      where
        parts : (member was fails : Bool) → member && not (was || ((member && not was) && fails)) ≡ (member && not was) && not fails
        parts true true fails = refl
        parts true false fails = refl
        parts false was fails = refl

        there_at : (d : ℕ) → is_there u d ≡ well_on first failed d
        there_at d = ap (λ (g : Descriptor). is_member g d && not (calls_missing u.wanted d)) ending.group ∙ ap (λ b. is_member first.group d && not b) (ending_wanted.missing d)
            ∙ parts (is_member first.group d) (calls_missing first.wanted d) (failed d)

        there_then : is_there u ≡ well_on first failed
        there_then = λ t d. there_at d t
