-- The end of a write and its review leave a session sound.
use Rattle.std.proofs.Common.{◌≡◌, ◌⊎◌, inl, inr, ◌==◌, ◌≤◌, ◌<◌, ◌+◌, ◌-◌, ◌^◌, ℕ, Bool, true, false, ◌&&◌, ◌||◌, not, if◌then◌else◌, List, [], ◌∷◌, Option, Some, None, length, map, slice_get, refl, sym, ◌∙◌, ap, subst, arith}
use Rattle.std.specs.Prelude.{IfSome, count_by, is_none, slice_index_or, unwrap_or}
use Rattle.std.specs.List.{list_any, AllByRecursion}
use Rattle.std.proofs.lemmas.Bool.{eqb-true}
use Rattle.lvm_num.specs.declared.descriptor.LvRow.{LvRow}
use Rattle.lvm_num.specs.declared.descriptor.PvRow.{PvRow}
use Rattle.lvm_num.specs.declared.place.Pp.{Pp}
use Rattle.lvm_num.specs.declared.record.Stamp.{Stamp}
use Rattle.lvm_num.specs.declared.status.Status.{Status}
use Rattle.lvm_num.specs.declared.status.StatusRow.{StatusRow}
use Rattle.lvm_num.specs.Descriptor.{is_member, is_pp}
use Rattle.lvm_num.specs.Disks.{has}
use Rattle.lvm_num.specs.Status.{calls_dirty, calls_missing, calls_stale}
use Rattle.lvm_status.specs.Table.{has_row}
use Rattle.lvm_disk.specs.Counts.{Counts, Rose}
use Rattle.lvm_disk.specs.Device.{Device, Flight, Media}
use Rattle.lvm_mwc.specs.Cache.{has_disk}
use Rattle.lvm_mwc.specs.declared.notes.DiskNotes.{DiskNotes}
use Rattle.lvm_status.specs.Update.{Stored, Updates, seen}
use Rattle.lvm_status.specs.Runs.{IsSoundStatus}
use Rattle.lvm_rec.specs.declared.homes.Homes.{Homes}
use Rattle.lvm_path.specs.declared.target.Target.{Target}
use Rattle.lvm_path.specs.Targets.{is_failed}
use Rattle.lvm_session.specs.declared.bringing.CopyEnd.{CopyEnd}
use Rattle.lvm_session.specs.declared.bringing.CopyEnd.TheVariants as ending
use Rattle.lvm_session.specs.declared.bringing.OpenCopy.{OpenCopy}
use Rattle.lvm_session.specs.declared.bringing.Step.{Step}
use Rattle.lvm_session.specs.declared.flown.Flown.{Flown}
use Rattle.lvm_session.specs.declared.open.Power.TheVariants as power
use Rattle.lvm_session.specs.State.{Core, State, is_there, state}
use Rattle.lvm_session.specs.Judging.{copies_in, is_missing, is_running, is_sure, is_usable, is_wanted_stale, is_stale}
use Rattle.lvm_session.specs.Bringing.{copy_ends, end_by_sources, end_of, ends_if, is_cleared, is_idle, is_whole, marked_by_end, next_source, sources_of}
use Rattle.lvm_session.specs.Enabled.{same_status}
use Rattle.lvm_session.specs.Calls.{copy_at}
use Rattle.lvm_num.specs.Modes.{is_passive}
use Rattle.lvm_num.proofs.Booleans.{not_so}
use Rattle.lvm_num.proofs.Lists.{all_weaker, all_two}
use Rattle.lvm_session.specs.Marks.{is_entailed}
use Rattle.lvm_session.specs.Causes.{AreCaused, AreCounted, FailedSince, FailedSinceOpening, TargetHasFailed, HaveSourcesFailed, IsAnswered, IsCaused, IsCausedAmong, IsCounted, IsTrueToOrigin, fails_on, faults_at_first, is_blamed, is_held_stale, OwnFailedSinceOpening, own_faults}
use Rattle.lvm_session.specs.Left.{clean_volumes, if_open, if_so, updates_left}
use Rattle.lvm_session.specs.Owners.{AreOwned, AreRows, HaveTickets}
use Rattle.lvm_session.specs.Sound.{IsCopy, IsFitting, IsGoing, IsOn, IsSound, IsTold, count_if, has_number, is_dark, out_with}
use Rattle.lvm_keeps.proofs.CausesLemmas.{answered_when_on, counted_when_on}
use Rattle.lvm_keeps.proofs.Small.{both, is_false}
use Rattle.lvm_keeps.proofs.SoundLemmas.Whole.{sound_when_on}
use Rattle.lvm_keeps.proofs.LeftLemmas.Updates.{one_if}
use Rattle.lvm_keeps_events.proofs.EndsLemmas.CopyReadFail.{all_tried, by_place, by_sources, none_found, of_place, usable_of}
use Rattle.lvm_keeps_events.proofs.EndsLemmas.Counts.{counts_keep, rose_since}
use Rattle.lvm_keeps_events.proofs.SoundLemmas.Copies.{Brings, Fewer, runs_of}
use Rattle.lvm_keeps_events.proofs.Finding.{count_alike, count_less, found, some_kept}
use Rattle.lvm_keeps_events.proofs.CallsLemmas.{Follows, Loses, in_flight_of}
use Rattle.lvm_keeps_events.proofs.JudgingLemmas.Requests.{NamesStay, requests_on}
use Rattle.lvm_keeps_events.proofs.JudgingLemmas.Review.{Clears, WriteEnd, Reviewed, and_of, behind_now, flies_is, fresh_now, held_by, here, its_copy, left_behind, mid, missing_is, missing_on, nothing_new, now, or_right, undone, sure_by, usable_is, wanted_by, was_there}

four : (a b c d : Bool) → a || b || c || d ≡ true → (a ≡ true) ⊎ ((b ≡ true) ⊎ ((c ≡ true) ⊎ (d ≡ true)))
four true b c d i = inl refl
four false true c d i = inr (inl refl)
four false false true d i = inr (inr (inl refl))
four false false false d i = inr (inr (inr i))

-- ---- how many updates may follow

module _ (e : WriteEnd) (r : Reviewed e) (brings : Brings e r) where
  abbrev core : Core
  core = e.core

  abbrev after : Core
  after = now e r

  pub dirty_same : (lv : ℕ) → calls_dirty r.status.wanted lv ≡ calls_dirty core.status.wanted lv
  dirty_same lv = ap (λ (ns : List ℕ). list_any (λ n. n == lv) ns) (r.marks.dirty ∙ e.follows.dirty)

  -- no member is missing that wasn't, or one is
  pub there_by : ((e.next.wanted ≡ core.status.wanted) × (count_by (λ (row : PvRow). is_there after row.disk) core.descriptor.pvs ≡ count_by (λ (row : PvRow). is_there core row.disk) core.descriptor.pvs))
      ⊎ (count_by (λ (row : PvRow). is_there after row.disk) core.descriptor.pvs + 1 ≤ count_by (λ (row : PvRow). is_there core row.disk) core.descriptor.pvs)
  there_by = by e.follows.lost
    where
      by : (e.next.wanted ≡ core.status.wanted) ⊎ Loses core e.disk e.next.wanted
          → ((e.next.wanted ≡ core.status.wanted) × (count_by (λ (row : PvRow). is_there after row.disk) core.descriptor.pvs ≡ count_by (λ (row : PvRow). is_there core row.disk) core.descriptor.pvs))
          ⊎ (count_by (λ (row : PvRow). is_there after row.disk) core.descriptor.pvs + 1 ≤ count_by (λ (row : PvRow). is_there core row.disk) core.descriptor.pvs)
      by (inl same) = inl (
        same,
        count_alike (λ (row : PvRow). is_there after row.disk) (λ (row : PvRow). is_there core row.disk)
            (λ row. ap (λ b. is_member core.descriptor row.disk && not b) (missing_is e r row.disk ∙ ap (λ (w : Status). calls_missing w row.disk) same)) core.descriptor.pvs,
      )
      by (inr loses) = inr (count_less (λ (row : PvRow). is_there core row.disk) (λ (row : PvRow). is_there after row.disk) (λ (row : PvRow). row.disk == e.disk) still_there gone core.descriptor.pvs loses.member)
        where
          still_there : (row : PvRow) → is_there after row.disk ≡ true → is_there core row.disk ≡ true
          still_there row is =
              let parts = both (is_member core.descriptor row.disk) (not (is_missing after row.disk)) is in
              and_of (is_member core.descriptor row.disk) (not (is_missing core row.disk)) parts.0 (ap not (was (is_missing core row.disk) refl (is_false (is_missing after row.disk) parts.1)))
            where
              was : (b : Bool) → is_missing core row.disk ≡ b → is_missing after row.disk ≡ false → is_missing core row.disk ≡ false
              was false i there = i
              was true i there = not_so (sym there ∙ missing_is e r row.disk ∙ missing_on e row.disk i)

          gone : (row : PvRow) → (row.disk == e.disk) ≡ true → (is_there core row.disk ≡ true) × (is_there after row.disk ≡ false)
          gone row is =
              let same = eqb-true row.disk e.disk is in (
                ap (is_there core) same ∙ and_of (is_member core.descriptor e.disk) (not (is_missing core e.disk)) loses.member (ap not loses.there),
                ap (λ d. is_there after d) same ∙ ap (λ b. is_member core.descriptor e.disk && not b) (missing_is e r e.disk ∙ loses.missing e.disk ∙ lost_so) ∙ none (is_member core.descriptor e.disk),
              )
            where
              none : (b : Bool) → b && false ≡ false
              none true = refl
              none false = refl

              lost_so : (if e.disk == e.disk then true else is_missing core e.disk) ≡ true
              lost_so = by_self (e.disk == e.disk) refl
                where
                  by_self : (b : Bool) → (e.disk == e.disk) ≡ b → (if b then true else is_missing core e.disk) ≡ true
                  by_self true i = refl
                  by_self false i = not_so (sym i ∙ sym (ap (λ d. d == e.disk) (eqb-true row.disk e.disk is)) ∙ is)

  differs_same : copy_ends (mid e) ≡ None → e.next.wanted ≡ core.status.wanted → if_so (not (same_status r.status.wanted (unwrap_or r.status.in_flight r.status.committed))) 1 ≡ if_so (not (same_status core.status.wanted (in_flight_of core))) 1
  differs_same still same = ap (λ (w : Status). if_so (not (same_status w (unwrap_or r.status.in_flight r.status.committed))) 1) (nothing_new e r still same) ∙ ap (λ (s : Status). if_so (not (same_status core.status.wanted s)) 1) (flies_is e r)

  numbers : r.status.stamp.seq + updates_left after < 2 ^ 32
  numbers = by there_by brings.fewer
    where
      clean : if_open core.requests (clean_volumes after) ≡ if_open core.requests (clean_volumes core)
      clean = ap (if_open core.requests) (count_alike (λ (row : LvRow). is_passive row.mode && not (calls_dirty r.status.wanted row.number)) (λ (row : LvRow). is_passive row.mode && not (calls_dirty core.status.wanted row.number))
          (λ row. ap (λ b. is_passive row.mode && not b) (dirty_same row.number)) core.descriptor.lvs)

      seq : r.status.stamp.seq ≡ core.status.stamp.seq
      seq = ap (λ (u : Updates). u.stamp.seq) r.marks.rest ∙ ap (λ (x : Stamp). x.seq) e.follows.stamp

      most : if_so (not (same_status r.status.wanted (unwrap_or r.status.in_flight r.status.committed))) 1 ≤ 1
      most = one_if (not (same_status r.status.wanted (unwrap_or r.status.in_flight r.status.committed)))

      by : ((e.next.wanted ≡ core.status.wanted) × (count_by (λ (row : PvRow). is_there after row.disk) core.descriptor.pvs ≡ count_by (λ (row : PvRow). is_there core row.disk) core.descriptor.pvs))
          ⊎ (count_by (λ (row : PvRow). is_there after row.disk) core.descriptor.pvs + 1 ≤ count_by (λ (row : PvRow). is_there core row.disk) core.descriptor.pvs)
          → Fewer e r → r.status.stamp.seq + updates_left after < 2 ^ 32
      by (inl there) (inl on) = let low = e.going.numbers in let a = clean in let b = seq in let c = there.1 in let d = differs_same on.0 there.0 in let f = on.1 in omega (arith, low, a, b, c, d, f)
      by (inl there) (inr over) = let low = e.going.numbers in let a = clean in let b = seq in let c = there.1 in let d = most in let f = over.0 in omega (arith, low, a, b, c, d, f)
      by (inr less) (inl on) = let low = e.going.numbers in let a = clean in let b = seq in let c = less in let d = most in let f = on.1 in omega (arith, low, a, b, c, d, f)
      by (inr less) (inr over) = let low = e.going.numbers in let a = clean in let b = seq in let c = less in let d = most in let f = over.0 in omega (arith, low, a, b, c, d, f)

-- ---- all of it

module _ (old : State) (sound : IsSound old) (on : old.core.power ≡ power.On) (disk : ℕ) (next : Stored) (follows : Follows old.core disk next) (flying : List Flown) (pool : List Bool) (notes : List DiskNotes) (homes : Homes) where
  abbrev pub e : WriteEnd
  e = record { core = old.core; going = (sound.on on).going; disk = disk; next = next; follows = follows; flying = flying; pool = pool; notes = notes; homes = homes }

  module _ (media : Option Media) (counts : Counts) (flights : List Flight) (more : (d : ℕ) → old.device.counts.faults d ≤ counts.faults d) (rise : (d : ℕ) → is_missing (mid e) d ≡ true → (is_missing old.core d ≡ true) ⊎ Rose (old.device.counts.faults d) (counts.faults d)) (r : Reviewed e) where
    abbrev first : Core
    first = old.core

    abbrev last : Core
    last = now e r

    abbrev pub device : Device
    device = record old.device { media = media; flights = flights; counts = counts }

    abbrev pub done : State
    done = state device last

    abbrev between : State
    between = state (record old.device { media = media; counts = counts }) old.core

    sound_between : IsSound between
    sound_between = counts_keep old media counts sound more

    -- ---- causes

    blamed_by : (p : Pp) → is_blamed last p ≡ true → (is_blamed first p ≡ true) ⊎ Rose (old.device.counts.faults p.disk) (counts.faults p.disk)
    blamed_by p is = by (four (is_missing last p.disk) (is_wanted_stale last p) (is_held_stale last p) (list_any (fails_on p) first.requests) is)
      where
        from_gone : is_missing (mid e) p.disk ≡ true → (is_blamed first p ≡ true) ⊎ Rose (old.device.counts.faults p.disk) (counts.faults p.disk)
        from_gone gone = of (rise p.disk gone)
          where
            of : (is_missing first p.disk ≡ true) ⊎ Rose (old.device.counts.faults p.disk) (counts.faults p.disk) → (is_blamed first p ≡ true) ⊎ Rose (old.device.counts.faults p.disk) (counts.faults p.disk)
            of (inl was) = inl (ap (λ b. b || is_wanted_stale first p || is_held_stale first p || list_any (fails_on p) first.requests) was)
            of (inr rose) = inr rose

        at_wanted : (m h f : Bool) → m || true || h || f ≡ true
        at_wanted true h f = refl
        at_wanted false h f = refl

        at_held : (m w f : Bool) → m || w || true || f ≡ true
        at_held true w f = refl
        at_held false true f = refl
        at_held false false f = refl

        at_failed : (m w h : Bool) → m || w || h || true ≡ true
        at_failed true w h = refl
        at_failed false true h = refl
        at_failed false false true = refl
        at_failed false false false = refl

        of_wanted : (is_wanted_stale first p ≡ true) ⊎ ((is_entailed (mid e) p ≡ true) ⊎ (marked_by_end (mid e) (copy_ends (mid e)) p ≡ true)) → (is_blamed first p ≡ true) ⊎ Rose (old.device.counts.faults p.disk) (counts.faults p.disk)
        of_wanted (inl was) = inl (ap (λ b. is_missing first p.disk || b || is_held_stale first p || list_any (fails_on p) first.requests) was ∙ at_wanted (is_missing first p.disk) (is_held_stale first p) (list_any (fails_on p) first.requests))
        of_wanted (inr (inl left)) = from_gone (left_behind (mid e) p left).gone
        of_wanted (inr (inr marked)) = from_gone (undone e p marked).1

        by : (is_missing last p.disk ≡ true) ⊎ ((is_wanted_stale last p ≡ true) ⊎ ((is_held_stale last p ≡ true) ⊎ (list_any (fails_on p) first.requests ≡ true))) → (is_blamed first p ≡ true) ⊎ Rose (old.device.counts.faults p.disk) (counts.faults p.disk)
        by (inl gone) = from_gone (sym (missing_is e r p.disk) ∙ gone)
        by (inr (inl wanted)) = of_wanted (wanted_by e r p wanted)
        by (inr (inr (inl held))) = inl (ap (λ b. is_missing first p.disk || is_wanted_stale first p || b || list_any (fails_on p) first.requests) (held_by e r p held) ∙ at_held (is_missing first p.disk) (is_wanted_stale first p) (list_any (fails_on p) first.requests))
        by (inr (inr (inr failed))) = inl (ap (λ b. is_missing first p.disk || is_wanted_stale first p || is_held_stale first p || b) failed ∙ at_failed (is_missing first p.disk) (is_wanted_stale first p) (is_held_stale first p))

    target_caused : (t : Target) → IsCounted old t → IsCaused between.device first t → IsCaused device last t
    target_caused t count why is = by (is_failed t.state) refl is
      where
        of : (is_blamed first t.pp ≡ true) ⊎ Rose (old.device.counts.faults t.pp.disk) (counts.faults t.pp.disk) → t.usable ≡ true → TargetHasFailed device t
        of (inl blamed) usable = why (or_right (is_failed t.state) (t.usable && is_blamed first t.pp) (and_of t.usable (is_blamed first t.pp) usable blamed))
        of (inr rose) usable = rose_since t.faults (old.device.counts.faults t.pp.disk) (counts.faults t.pp.disk) count.since rose

        by : (b : Bool) → is_failed t.state ≡ b → b || (t.usable && is_blamed last t.pp) ≡ true → TargetHasFailed device t
        by true failed i = why (ap (λ b. b || (t.usable && is_blamed first t.pp)) failed)
        by false failed i = let parts = both t.usable (is_blamed last t.pp) i in of (blamed_by t.pp parts.1) parts.0

    caused : AllByRecursion (AreCaused device last) first.requests
    caused = all_two (AreCounted old) (AreCaused between.device first) (AreCaused device last) (λ x counted why waiting. all_two (IsCounted old) (IsCaused between.device first) (IsCaused device last) target_caused x.request.targets.items counted (why waiting)) first.requests sound.counted (sound_between.on on).caused

    origin : IsTrueToOrigin done
    origin = let was = sound_between.origin in record {
      since = was.since;
      votes = was.votes;
      rows = was.rows;
      still_missing = λ d gone. missing_is e r d ∙ missing_on e d (was.still_missing d gone);
      missing = λ d gone. of_missing d (rise d (sym (missing_is e r d) ∙ gone));
      stale = λ p is. of_stale p (split (is_held_stale last p) (is_wanted_stale last p) is);
    }
      where
        split : (a b : Bool) → a || b ≡ true → (a ≡ true) ⊎ (b ≡ true)
        split true b i = inl refl
        split false b i = inr i

        of_missing : (d : ℕ) → (is_missing first d ≡ true) ⊎ Rose (old.device.counts.faults d) (counts.faults d) → (calls_missing first.origin.table d ≡ true) ⊎ FailedSince done d
        of_missing d (inl was) = sound_between.origin.missing d was
        of_missing d (inr rose) = inr (rose_since (faults_at_first first d) (old.device.counts.faults d) (counts.faults d) (sound.origin.since d) rose)

        from_old : (p : Pp) → is_held_stale first p || is_wanted_stale first p ≡ true → (calls_stale first.origin.table p ≡ true) ⊎ (is_missing last p.disk ≡ true) ⊎ FailedSince done p.disk
        from_old p was = of (sound_between.origin.stale p was)
          where
            of : (calls_stale first.origin.table p ≡ true) ⊎ (is_missing first p.disk ≡ true) ⊎ FailedSince between p.disk → (calls_stale first.origin.table p ≡ true) ⊎ (is_missing last p.disk ≡ true) ⊎ FailedSince done p.disk
            of (inl x) = inl x
            of (inr (inl gone)) = inr (inl (missing_is e r p.disk ∙ missing_on e p.disk gone))
            of (inr (inr rose)) = inr (inr rose)

        left_first : (a b : Bool) → a ≡ true → a || b ≡ true
        left_first true b i = refl
        left_first false b i = not_so i

        of_wanted : (p : Pp) → (is_wanted_stale first p ≡ true) ⊎ ((is_entailed (mid e) p ≡ true) ⊎ (marked_by_end (mid e) (copy_ends (mid e)) p ≡ true)) → (calls_stale first.origin.table p ≡ true) ⊎ (is_missing last p.disk ≡ true) ⊎ FailedSince done p.disk
        of_wanted p (inl was) = from_old p (or_right (is_held_stale first p) (is_wanted_stale first p) was)
        of_wanted p (inr (inl left)) = inr (inl (missing_is e r p.disk ∙ (left_behind (mid e) p left).gone))
        of_wanted p (inr (inr marked)) = inr (inl (missing_is e r p.disk ∙ (undone e p marked).1))

        of_stale : (p : Pp) → (is_held_stale last p ≡ true) ⊎ (is_wanted_stale last p ≡ true) → (calls_stale first.origin.table p ≡ true) ⊎ (is_missing last p.disk ≡ true) ⊎ FailedSince done p.disk
        of_stale p (inl held) = from_old p (left_first (is_held_stale first p) (is_wanted_stale first p) (held_by e r p held))
        of_stale p (inr wanted) = of_wanted p (wanted_by e r p wanted)

    -- ---- why the copy ended

    module _ (c : OpenCopy) (is : first.copy ≡ Some c) where
      abbrev copies : List Pp
      copies = copies_in first.descriptor c.lv c.lp

      was : IsCausedAmong between copies c
      was = subst (λ m. IfSome m (λ (k : OpenCopy). IsCausedAmong between (copies_in first.descriptor k.lv k.lp) k)) is sound_between.copy

      before : IsCausedAmong old copies c
      before = subst (λ m. IfSome m (λ (k : OpenCopy). IsCausedAmong old (copies_in first.descriptor k.lv k.lp) k)) is sound.copy

      one_still : IsCausedAmong done copies c
      one_still = record { began = was.began; since = was.since; tried = was.tried; own_began = was.own_began; own_since = was.own_since; failed = λ i. of (was.failed i) (ap is_none i) }
        where
          of : OwnFailedSinceOpening between.device c ⊎ HaveSourcesFailed between copies c → is_running c ≡ false → OwnFailedSinceOpening device c ⊎ HaveSourcesFailed done copies c
          of (inl own) over = inl own
          of (inr all) over = inr (record { each = each; number = all.number; source = all.source; source_is = all.source_is; other = all.other; one = all.one })
            where
              each : (number : ℕ) (p : Pp) → copy_at copies number ≡ Some p → not (is_pp p c.pp) && is_sure last p && not (is_missing last p.disk) ≡ true → FailedSinceOpening device c number p
              each number p at i = by (sure_by e r p sure.1)
                where
                  outer : (not (is_pp p c.pp) && is_sure last p ≡ true) × (not (is_missing last p.disk) ≡ true)
                  outer = both (not (is_pp p c.pp) && is_sure last p) (not (is_missing last p.disk)) i

                  sure : (not (is_pp p c.pp) ≡ true) × (is_sure last p ≡ true)
                  sure = both (not (is_pp p c.pp)) (is_sure last p) outer.0

                  by : (is_sure first p ≡ true) ⊎ Clears first p → FailedSinceOpening device c number p
                  by (inl was_sure) = all.each number p at (and_of (not (is_pp p c.pp) && is_sure first p) (not (is_missing first p.disk)) (and_of (not (is_pp p c.pp)) (is_sure first p) sure.0 was_sure)
                      (ap not (was_there e p.disk (sym (missing_is e r p.disk) ∙ is_false (is_missing last p.disk) outer.1))))
                  by (inr x) = let same : x.copy ≡ c = (let both_open : Some x.copy ≡ Some c = sym x.is_open ∙ is in cc both_open) in not_so (sym over ∙ sym (ap is_running same) ∙ x.runs)

      pub one_over : (how : CopyEnd) (at : Step) → end_of (mid e) c ≡ Some how → IsCausedAmong done copies (record c { step = at; end = Some how })
      one_over how at ends = record { began = was.began; since = was.since; tried = was.tried; own_began = was.own_began; own_since = was.own_since; failed = λ i. by_missing (is_missing (mid e) c.pp.disk) (is_whole first c) refl refl (ends ∙ i) }
        where
          runs : is_running c ≡ true
          runs = runs_of (mid e) c how ends

          its : IsCopy first c
          its = its_copy e c is

          by_missing : (a w : Bool) → is_missing (mid e) c.pp.disk ≡ a → is_whole first c ≡ w → end_of (mid e) c ≡ Some ending.SyncFailed
              → OwnFailedSinceOpening device c ⊎ HaveSourcesFailed done copies (record c { step = at; end = Some how })
          by_missing true w gone whole ends_so = inl (of (rise c.pp.disk gone))
            where
              of : (is_missing first c.pp.disk ≡ true) ⊎ Rose (old.device.counts.faults c.pp.disk) (counts.faults c.pp.disk) → OwnFailedSinceOpening device c
              of (inl was_gone) = not_so (sym (here e c is runs) ∙ was_gone)
              of (inr rose) = rose_since (own_faults c) (old.device.counts.faults c.pp.disk) (counts.faults c.pp.disk) before.own_since rose
          by_missing false true there whole ends_so = not_so (sym (undone_short (is_running c) (is_missing (mid e) c.pp.disk) (is_whole first c) (is_cleared (mid e) c) runs there whole ends_so))
            where
              undone_short : (a b w d : Bool) → a ≡ true → b ≡ false → w ≡ true → (if not a then None else if b then Some ending.SyncFailed else if w then ends_if d ending.Done else end_by_sources (mid e) c) ≡ Some ending.SyncFailed → true ≡ false
              undone_short false b w d i j k x = not_so i
              undone_short true true w d i j k x = j
              undone_short true false false d i j k x = not_so k
              undone_short true false true true i j k x = absurd (cc x)
              undone_short true false true false i j k x = absurd (cc x)
          by_missing false false there short ends_so = inr (record { each = each; number = one.1 + 1; source = one.0; source_is = of_place copies one.1 one.0 one.2; other = is_false (is_pp one.0 c.pp) parts.0; one = each_tried (one.1 + 1) one.0 (of_place copies one.1 one.0 one.2) one.3 })
            where
              sources : end_by_sources (mid e) c ≡ Some ending.SyncFailed
              sources = by_sources (mid e) c (Some ending.SyncFailed) runs there short ends_so

              some : (length (sources_of (mid e) c) == 0) ≡ false
              some = by (length (sources_of (mid e) c) == 0) sources
                where
                  by : (n : Bool) → (if n then Some ending.NoFresh else ends_if (is_idle c.step && is_none (next_source (mid e) c)) ending.SyncFailed) ≡ Some ending.SyncFailed → n ≡ false
                  by false i = refl
                  by true i = absurd (cc i)

              each_tried : (number : ℕ) (p : Pp) → copy_at copies number ≡ Some p → not (is_pp p c.pp) && is_usable (mid e) p ≡ true → FailedSinceOpening device c number p
              each_tried number p at_number can = was.tried number p at_number (of (has c.tried p.disk) (none_found (λ (q : Pp). not (has c.tried q.disk)) (λ (q : Pp). not (is_pp q c.pp) && is_usable (mid e) q) copies (number - 1) p (all_tried (mid e) c sources) (by_place copies number p at_number) can))
                where
                  of : (b : Bool) → not b ≡ false → b ≡ true
                  of true i = refl
                  of false i = not_so (sym i)

              one : (q : Pp) × (i : ℕ) × (slice_get copies i ≡ Some q) × (not (is_pp q c.pp) && is_usable (mid e) q ≡ true)
              one = found (λ (q : Pp). not (is_pp q c.pp) && is_usable (mid e) q) copies (some_kept (λ (q : Pp). not (is_pp q c.pp) && is_usable (mid e) q) copies some)

              parts : (not (is_pp one.0 c.pp) ≡ true) × (is_usable (mid e) one.0 ≡ true)
              parts = both (not (is_pp one.0 c.pp)) (is_usable (mid e) one.0) one.3

              each : (number : ℕ) (p : Pp) → copy_at copies number ≡ Some p → not (is_pp p c.pp) && is_sure last p && not (is_missing last p.disk) ≡ true → FailedSinceOpening device c number p
              each number p at_number i = each_tried number p at_number (sym (ap (λ b. not (is_pp p c.pp) && b) (usable_is e r p)) ∙ usable_of (not (is_pp p c.pp)) (is_stale last p) (is_wanted_stale last p) (is_missing last p.disk) i)

    pub still_caused : IfSome first.copy (λ (c : OpenCopy). IsCausedAmong done (copies_in first.descriptor c.lv c.lp) c)
    still_caused = by first.copy refl
      where
        by : (m : Option OpenCopy) → first.copy ≡ m → IfSome m (λ (c : OpenCopy). IsCausedAmong done (copies_in first.descriptor c.lv c.lp) c)
        by None is = tt
        by (Some c) is = one_still c is

    -- ---- all parts

    module _ (brings : Brings e r) (names : NamesStay e) (disks : (d : ℕ) → has_disk (mid e).cache d ≡ has_disk old.core.cache d) (owned : AreOwned last) (rows : AreRows last flying flights) (tickets : HaveTickets flying)
        (long : length pool ≡ length old.core.pool) (back : (n : ℕ) → (count_by (λ (f : Flight). has_number n f.buf) flights + count_if (slice_index_or old.core.pool n false) ≡ count_by (λ (f : Flight). has_number n f.buf) old.device.flights + count_if (slice_index_or pool n false)))
        (copy_caused : IfSome r.copy (λ (c : OpenCopy). IsCausedAmong done (copies_in first.descriptor c.lv c.lp) c)) where
      fitting : IsFitting last
      fitting = let f = sound.fitting in record {
        valid = f.valid;
        id = r.marks.rows.id ∙ follows.id ∙ f.id;
        rows = λ d. row_same d ∙ follows.rows d ∙ f.rows d;
        group = ap (λ (u : Updates). u.group) r.marks.rest ∙ follows.group ∙ f.group;
        entries = f.entries;
        notes = λ d. disks d ∙ f.notes d;
        table = f.table;
        most = f.most;
        queue = brings.room ∙ f.queue;
        a_buffer = subst (λ n. 1 ≤ n) (sym (brings.long ∙ long)) f.a_buffer;
        buffers = subst (λ n. n ≤ 1024) (sym (brings.long ∙ long)) f.buffers;
        last = f.last;
        room = f.room;
      }
        where
          row_same : (d : ℕ) → has_row r.status.wanted d ≡ has_row next.wanted d
          row_same d = sym (mapped r.status.wanted.rows) ∙ ap (λ (ns : List ℕ). list_any (λ n. n == d) ns) r.marks.rows.disks ∙ mapped next.wanted.rows
            where
              mapped : (zs : List StatusRow) → list_any (λ n. n == d) (map (λ (x : StatusRow). x.disk) zs) ≡ list_any (λ (x : StatusRow). x.disk == d) zs
              mapped [] = refl
              mapped (z ∷ zs) = ap (λ c. z.disk == d || c) (mapped zs)

      told : IsTold last
      told = let t = sound.told in record { ordered = t.ordered; table = t.table; each = t.each; requests = t.requests }

      -- what is missing counts for its writes, and no more is by the review
      status_sound : IsSoundStatus (seen r.status)
      status_sound = subst IsSoundStatus (sym r.marks.rest) (record {
        unstarted = λ d is. let was = s.unstarted d is in (ap (λ b. is_member next.group d && not b) (r.marks.missing d) ∙ was.0, was.1, was.2, was.3);
        started = s.started;
        failed = λ d is. r.marks.missing d ∙ s.failed d is;
        each = λ t is d there. s.each t is d (sym (ap (λ b. is_member next.group d && not b) (r.marks.missing d)) ∙ there);
        idle = s.idle;
        held = s.held;
        open_still = s.open_still;
        committed_missing = λ d is. r.marks.missing d ∙ s.committed_missing d is;
        in_flight_missing = λ t is d gone. r.marks.missing d ∙ s.in_flight_missing t is d gone;
      })
        where
          s : IsSoundStatus (seen next)
          s = follows.sound

      out : (n : ℕ) → out_with device last n ≡ count_if (slice_index_or r.pool n false)
      out n =
          let was = sound.none_lost (ap is_dark on) n in
          let one = back n in
          let hand = brings.hands n (omega (arith, was, one)) in
          omega (arith, was, one, hand)

      keeps_going : IsGoing last
      keeps_going = let going = (sound.on on).going in record {
        fitting = fitting;
        told = told;
        status = status_sound;
        owned = owned;
        tickets = tickets;
        queue = brings.queue;
        pinned = going.pinned;
        requests = requests_on e r names brings.caught brings.blocked brings.places;
        copy = brings.copy;
        hands = λ n. let all = out n in omega (arith, all);
        behind = behind_now e r;
        reviewed = brings.reviewed;
        fresh = fresh_now e r;
        clearings = brings.clearings;
        numbers = numbers e r brings;
      }

      keeps_on : IsOn done
      keeps_on = record { going = keeps_going; rows = rows; caused = caused; chosen = brings.chosen (sound.on on).chosen }

      pub keeps : IsSound done
      keeps = sound_when_on between done refl refl sound_between on fitting told keeps_on out (all_weaker (AreCounted between) (AreCounted done) (counted_when_on between done refl) first.requests sound_between.counted)
          (all_weaker (IsAnswered between) (IsAnswered done) (answered_when_on between done refl on) first.requests sound_between.answered) copy_caused origin
