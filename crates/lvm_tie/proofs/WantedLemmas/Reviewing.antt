-- What a change of what is missing entails, wanted of a tied session whose committed status stays.
use Rattle.std.proofs.Common.{◌≡◌, ◌⊎◌, inl, inr, ℕ, Bool, true, false, ◌&&◌, ◌||◌, not, List, Option, Some, None, refl, sym, ap, subst, ◌∙◌}
use Rattle.std.specs.Prelude.{IsTrue, IsFalse, ◌==◌, if◌then◌else◌, is_none, length, unwrap_or}
use Rattle.std.specs.Option.{option_map_or}
use Rattle.std.proofs.lemmas.Bool.{and_parts, not-false}
use Rattle.std.proofs.lemmas.Option.{same_Some}
use Rattle.lvm_num.specs.declared.place.Pp.{Pp}
use Rattle.lvm_num.specs.Disks.{Disks}
use Rattle.lvm_num.specs.Descriptor.{IsValid, is_member, is_pp}
use Rattle.lvm_num.specs.Status.{calls_stale}
use Rattle.lvm_num.proofs.Booleans.{clash_gives}
use Rattle.lvm_vol.specs.Facts.{Fact}
use Rattle.lvm_session.specs.declared.bringing.OpenCopy.{OpenCopy}
use Rattle.lvm_session.specs.declared.bringing.CopyEnd.{CopyEnd}
use Rattle.lvm_session.specs.declared.bringing.CopyEnd.TheVariants as ending
use Rattle.lvm_session.specs.State.{Core, State, is_there}
use Rattle.lvm_session.specs.Judging.{stays_fresh, is_missing, is_running, is_stale, is_wanted_stale}
use Rattle.lvm_session.specs.Bringing.{copy_ends, end_by_sources, end_of, ends_if, groups_of, is_held_stale, is_cleared, is_done_end, is_idle, is_whole, marked_by_end, next_source, sources_of}
use Rattle.lvm_session.specs.Marks.{Reviews, is_entailed}
use Rattle.lvm_invariant.specs.State.{Marks, ModelCopy, ModelState}
use Rattle.lvm_invariant.specs.Want.{Wants}
use Rattle.lvm_crash.specs.Session.{HasVolumes, is_beside, marks_of}
use Rattle.lvm_crash.proofs.WritingLemmas.{pp_same, same_pp}
use Rattle.lvm_tie.proofs.StateLemmas.{its_copy, of_its, part_stale, there_first, whole_stale}
use Rattle.lvm_tie.proofs.TiedLemmas.Orderly.{valid_of}
use Rattle.lvm_tie.proofs.AmongLemmas.{not_true, or_true}
use Rattle.lvm_tie.specs.Seen.{SeesCopy, SeesRunning}
use Rattle.lvm_tie.specs.Tied.{IsTied}
use Rattle.lvm_tie.specs.Near.{open_after}
use Rattle.lvm_tie.specs.Wanted.{HasOwners, IsBrought, KeepsFresh, ReviewIsWanted, SeesMarks}
use Rattle.lvm_tie.proofs.WantedLemmas.Behind.{IsMarked, first_block, review_wants}
use Rattle.lvm_tie.proofs.NearLemmas.{ends_running}
use Rattle.lvm_tie.proofs.SeenLemmas.Beside.{beside_stale, destination_beside, stale_apart, stale_so}

-- ---- how the copy ends

module _ (core : Core) (c : OpenCopy) (runs : is_running c ≡ true) where
  abbrev by_state : Option CopyEnd
  by_state = if is_missing core c.pp.disk then Some ending.SyncFailed else if is_whole core c then ends_if (is_cleared core c) ending.Done else end_by_sources core c

  end_is : end_of core c ≡ by_state
  end_is = ap (λ (b : Bool). if not b then None else by_state) runs

  -- one that is whole ends with its disk, or since it is cleared
  pub whole_ends : (how : CopyEnd) → is_whole core c ≡ true → end_of core c ≡ Some how → ((is_missing core c.pp.disk ≡ true) × (how ≡ ending.SyncFailed)) ⊎ ((is_cleared core c ≡ true) × (how ≡ ending.Done))
  whole_ends how whole is =
      by (is_missing core c.pp.disk) (is_cleared core c) refl refl
      (sym (ap (λ (b : Bool). if is_missing core c.pp.disk then Some ending.SyncFailed else if b then ends_if (is_cleared core c) ending.Done else end_by_sources core c) whole) ∙ sym end_is ∙ is)
    where
      by : (m d : Bool) → is_missing core c.pp.disk ≡ m → is_cleared core c ≡ d → (if m then Some ending.SyncFailed else ends_if d ending.Done) ≡ Some how
          → ((is_missing core c.pp.disk ≡ true) × (how ≡ ending.SyncFailed)) ⊎ ((is_cleared core c ≡ true) × (how ≡ ending.Done))
      by true d missing cleared h = inl (missing, sym (same_Some ending.SyncFailed how h))
      by false true missing cleared h = inr (cleared, sym (same_Some ending.Done how h))
      by false false missing cleared h = absurd (cc h)

  -- one that isn't whole doesn't end well
  pub part_ends : (how : CopyEnd) → is_whole core c ≡ false → end_of core c ≡ Some how → is_done_end how ≡ false
  part_ends how part is =
      by (is_missing core c.pp.disk) (length (sources_of core c) == 0) (is_idle c.step && is_none (next_source core c))
      (sym (ap (λ (b : Bool). if is_missing core c.pp.disk then Some ending.SyncFailed else if b then ends_if (is_cleared core c) ending.Done else end_by_sources core c) part) ∙ sym end_is ∙ is)
    where
      by : (m n i : Bool) → (if m then Some ending.SyncFailed else if n then Some ending.NoFresh else ends_if i ending.SyncFailed) ≡ Some how → is_done_end how ≡ false
      by true n i h = ap is_done_end (sym (same_Some ending.SyncFailed how h))
      by false true i h = ap is_done_end (sym (same_Some ending.NoFresh how h))
      by false false true h = ap is_done_end (sym (same_Some ending.SyncFailed how h))
      by false false false h = absurd (cc h)

  -- one that goes on has its disk, and isn't cleared
  pub goes_on : end_of core c ≡ None → (is_missing core c.pp.disk ≡ false) × (is_whole core c ≡ true → is_cleared core c ≡ false)
  goes_on is = by (is_missing core c.pp.disk) (is_whole core c) (is_cleared core c) (sym end_is ∙ is)
    where
      by : (m w d : Bool) → (if m then Some ending.SyncFailed else if w then ends_if d ending.Done else end_by_sources core c) ≡ None → (m ≡ false) × (w ≡ true → d ≡ false)
      by true w d h = absurd (cc h)
      by false true true h = absurd (cc h)
      by false true false h = (refl, λ e. refl)
      by false false d h = (refl, λ e. absurd (cc e))

-- ---- the copy that is open

-- so it is of a tied session
pub opened : (past : List Fact) (s : State) (tied : IsTied past s) (c : OpenCopy) → s.core.copy ≡ Some c → is_running c ≡ true → IsBrought s.core tied.view c × (is_missing s.core c.pp.disk ≡ false)
opened past s tied c is runs =
    let core : Core = s.core in
    let v : ModelState = tied.view in
    let sees = subst (λ (b : Bool). SeesRunning b (groups_of core) c v.open_copy) runs (subst (λ (x : Option OpenCopy). SeesCopy (groups_of core) x v.open_copy) is tied.sees.open_copy) in
    let its = of_its past s tied c is in
    let open_there : IsFalse (v.missing sees.copy.target.disk) = tied.good.sound.statuses.open_there sees.copy sees.is_open in
    let at : IsFalse (v.missing c.pp.disk) = ap (λ (p : Pp). v.missing p.disk) (sym sees.target) ∙ open_there in
    let there : is_there core c.pp.disk ≡ true = not-false (is_there core c.pp.disk) (sym (tied.sees.status.missing c.pp.disk) ∙ at) in
    let both = and_parts (is_member core.descriptor c.pp.disk) (not (is_missing core c.pp.disk)) there in
    let gone = not_true (is_missing core c.pp.disk) both.1 in
    let b = first_block core.descriptor (valid_of s tied.write tied.orderly) its.row c.lp its.lp in (
      record {
        target = λ o at_o. ap (λ (x : ModelCopy). x.target) (same_Some o sees.copy (sym at_o ∙ sees.is_open)) ∙ sees.target;
        member = both.0;
        there = (its.row.number, b.0, its_copy past s tied c is its (there_first past s tied c.pp.disk gone) b.0 b.1);
        part = λ less. (part_stale past s tied c is runs less).1;
        whole = λ all. whole_stale past s tied c is runs all;
        beside = λ moves. destination_beside core c v.beside tied.sees.beside is moves;
      },
      gone,
    )

-- and where none runs, none is open
pub none_opened : (past : List Fact) (s : State) (tied : IsTied past s) → ((c : OpenCopy) → s.core.copy ≡ Some c → is_running c ≡ true → ⊥) → tied.view.open_copy ≡ None
none_opened past s tied none = by s.core.copy refl tied.sees.open_copy
  where
    of : (c : OpenCopy) → s.core.copy ≡ Some c → (b : Bool) → is_running c ≡ b → SeesRunning b (groups_of s.core) c tied.view.open_copy → tied.view.open_copy ≡ None
    of c is true runs sees = absurd (none c is runs)
    of c is false over sees = sees

    by : (m : Option OpenCopy) → s.core.copy ≡ m → SeesCopy (groups_of s.core) m tied.view.open_copy → tied.view.open_copy ≡ None
    by None is sees = sees
    by (Some c) is sees = of c is (is_running c) refl sees

-- ---- what a review wants

module _ (core new : Core) (v : ModelState) (missing : ℕ → Bool) (facts : List Fact) (members : Disks) (valid : IsValid core.descriptor) (volumes : HasVolumes v facts core.descriptor members)
    (shows : (d : ℕ) → IsTrue (is_there core d) → IsTrue (members d)) (sees : SeesMarks core v missing) (keeps : KeepsFresh v) (owners : HasOwners v)
    (brought : (c : OpenCopy) → core.copy ≡ Some c → is_running c ≡ true → IsBrought core v c) (none : ((c : OpenCopy) → core.copy ≡ Some c → is_running c ≡ true → ⊥) → v.open_copy ≡ None) (review : Reviews core new) where
  abbrev how : Option CopyEnd
  how = copy_ends core

  end_at : (c : OpenCopy) → core.copy ≡ Some c → end_of core c ≡ how
  end_at c is = sym (ap (λ (m : Option OpenCopy). option_map_or (end_of core) m None) is)

  -- the copy runs that is marked by its end
  pub marks_its : (p : Pp) → marked_by_end core how p ≡ true → IsMarked v p
  marks_its p is = by how refl is
    where
      at : (e : CopyEnd) → how ≡ Some e → marked_by_end core (Some e) p ≡ true → IsMarked v p
      at e ends h =
          let its = ends_running core e ends in
          let b = brought its.copy its.is_open its.runs in
          let parts = and_parts (not (is_done_end e)) (is_whole core its.copy && is_pp p its.copy.pp && (not its.copy.moves || is_held_stale core its.copy.pp)) (sym (ap (λ (m : Option OpenCopy). not (is_done_end e) && option_map_or (λ (c : OpenCopy). is_whole core c && is_pp p c.pp && (not c.moves || is_held_stale core c.pp)) m false) its.is_open) ∙ h) in
          let both = and_parts (is_whole core its.copy) (is_pp p its.copy.pp) (and_parts (is_whole core its.copy && is_pp p its.copy.pp) (not its.copy.moves || is_held_stale core its.copy.pp) parts.1).0 in
          let same : p ≡ its.copy.pp = pp_same p its.copy.pp both.1 in
          (ap v.committed.value.stale same ∙ b.whole both.0, (b.there.0, b.there.1, ap (v.is_copy b.there.0 b.there.1) same ∙ b.there.2))

      by : (m : Option CopyEnd) → how ≡ m → marked_by_end core m p ≡ true → IsMarked v p
      by None ends h = absurd (cc h)
      by (Some e) ends h = at e ends h

  -- one that ends is wanted stale
  stale_then : (e : CopyEnd) → how ≡ Some e → (o : ModelCopy) → v.open_copy ≡ Some o → IsTrue ((marks_of v.beside new.status.wanted).stale o.target)
  stale_then e ends o at =
      let its = ends_running core e ends in
      let c : OpenCopy = its.copy in
      let b = brought c its.is_open its.runs in
      ap (marks_of v.beside new.status.wanted).stale (b.target o at) ∙ seen c its.is_open its.runs b (is_beside v.beside c.pp) refl
    where
      marked_whole : (c : OpenCopy) → core.copy ≡ Some c → c.moves ≡ false → is_whole core c ≡ true → e ≡ ending.SyncFailed → marked_by_end core how c.pp ≡ true
      marked_whole c is stays all failed =
          ap (λ (m : Option CopyEnd). marked_by_end core m c.pp) (ends ∙ ap (λ (x : CopyEnd). Some x) failed)
          ∙ ap (λ (m : Option OpenCopy). option_map_or (λ (x : OpenCopy). is_whole core x && is_pp c.pp x.pp && (not x.moves || is_held_stale core x.pp)) m false) is ∙ (let p = same_pp c.pp c.pp refl in λ t. all t && p t && (not (stays t) || is_held_stale core c.pp))

      cleared_not : (c : OpenCopy) → is_stale core c.pp ≡ true → is_cleared core c ≡ true → ⊥
      cleared_not c stale cleared =
          let a = and_parts (not (is_held_stale core c.pp)) (not (is_wanted_stale core c.pp)) (and_parts (not c.moves) (stays_fresh core c.pp) cleared).1 in
          clash_gives (is_held_stale core c.pp) (ap (λ b. b || calls_stale (unwrap_or core.status.in_flight core.status.committed) c.pp) stale) (not_true (is_held_stale core c.pp) a.0)

      -- one that isn't beside doesn't move
      stays_of : (c : OpenCopy) → IsBrought core v c → is_beside v.beside c.pp ≡ false → c.moves ≡ false
      stays_of c b off = by c.moves refl
        where
          by : (m : Bool) → c.moves ≡ m → m ≡ false
          by false is = refl
          by true is = clash_gives (is_beside v.beside c.pp) (b.beside is) off

      by : (c : OpenCopy) → core.copy ≡ Some c → is_running c ≡ true → IsBrought core v c → is_beside v.beside c.pp ≡ false → (w : Bool) → is_whole core c ≡ w
          → (is_wanted_stale core c.pp ≡ true) ⊎ ((is_entailed core c.pp || marked_by_end core how c.pp) ≡ true)
      by c is runs b off false part = inl (sym (ap (λ (m : Marks). m.stale c.pp) sees.wanted ∙ stale_apart v.beside core.status.wanted c.pp off) ∙ b.part part)
      by c is runs b off true all = of (whole_ends core c runs e all (end_at c is ∙ ends))
        where
          of : ((is_missing core c.pp.disk ≡ true) × (e ≡ ending.SyncFailed)) ⊎ ((is_cleared core c ≡ true) × (e ≡ ending.Done)) → (is_wanted_stale core c.pp ≡ true) ⊎ ((is_entailed core c.pp || marked_by_end core how c.pp) ≡ true)
          of (inl failed) = inr (or_true (is_entailed core c.pp) (marked_by_end core how c.pp) (inr (marked_whole c is (stays_of c b off) all failed.1)))
          of (inr cleared) = absurd (cleared_not c (sym (ap (λ (m : Marks). m.stale c.pp) sees.committed ∙ stale_apart v.beside core.status.committed c.pp off) ∙ b.whole all) cleared.0)

      seen : (c : OpenCopy) → core.copy ≡ Some c → is_running c ≡ true → IsBrought core v c → (t : Bool) → is_beside v.beside c.pp ≡ t → IsTrue ((marks_of v.beside new.status.wanted).stale c.pp)
      seen c is runs b true beside = beside_stale v.beside new.status.wanted c.pp beside
      seen c is runs b false off = stale_so v.beside new.status.wanted c.pp
          (review.marks.stale c.pp ∙ or_true (is_wanted_stale core c.pp) (is_entailed core c.pp || marked_by_end core how c.pp) (by c is runs b off (is_whole core c) refl))

  -- one that goes on is on a disk that isn't missing
  there_then : how ≡ None → (o : ModelCopy) → v.open_copy ≡ Some o → IsFalse (missing o.target.disk)
  there_then ends o at = by core.copy refl
    where
      found : (c : OpenCopy) → core.copy ≡ Some c → is_running c ≡ true → IsFalse (missing o.target.disk)
      found c is runs =
          let b = brought c is runs in
          let there = (goes_on core c runs (end_at c is ∙ ends)).0 in
          let member = b.member in
          ap (λ (p : Pp). missing p.disk) (b.target o at) ∙ sees.missing_is c.pp.disk ∙ (λ t. not (member t && not (there t)))

      of : (c : OpenCopy) → core.copy ≡ Some c → (b : Bool) → is_running c ≡ b → IsFalse (missing o.target.disk)
      of c is true runs = found c is runs
      of c is false over = absurd (let e : None ≡ Some o = sym (none (λ d there runs. clash_gives (is_running d) runs (ap is_running (same_Some d c (sym there ∙ is)) ∙ over))) ∙ at in cc)

      by : (m : Option OpenCopy) → core.copy ≡ m → IsFalse (missing o.target.disk)
      by None is = absurd (let e : None ≡ Some o = sym (none (λ d there runs. let e2 : None ≡ Some d = sym is ∙ there in cc)) ∙ at in cc)
      by (Some c) is = of c is (is_running c) refl

  -- What it entails is wanted, and the copy is open no more where it ends.
  pub wants_reviewed : Wants v (marks_of v.beside new.status.wanted) missing (open_after how v.open_copy)
  wants_reviewed = by how refl
    where
      all : (open_copy : Option ModelCopy) → ((open_copy ≡ v.open_copy) ⊎ ((open_copy ≡ None) × ((o : ModelCopy) → v.open_copy ≡ Some o → IsTrue ((marks_of v.beside new.status.wanted).stale o.target))))
          → ((o : ModelCopy) → open_copy ≡ Some o → IsFalse (missing o.target.disk)) → Wants v (marks_of v.beside new.status.wanted) missing open_copy
      all open_copy same there = review_wants core v missing how new.status facts members valid volumes shows sees keeps owners marks_its review.marks open_copy same there

      by : (m : Option CopyEnd) → how ≡ m → Wants v (marks_of v.beside new.status.wanted) missing (open_after m v.open_copy)
      by None ends = all v.open_copy (inl refl) (there_then ends)
      by (Some e) ends = all None (inr (refl, stale_then e ends)) (λ o none_now. absurd (cc none_now))

pub review_is_wanted : ReviewIsWanted
review_is_wanted core new v missing facts members valid volumes shows sees keeps owners brought none review = wants_reviewed core new v missing facts members valid volumes shows sees keeps owners brought none review
