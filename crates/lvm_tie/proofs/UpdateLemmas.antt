-- The status once a write of the update has ended, and the marks that it entails are wanted.
use Rattle.std.proofs.Common.{◌≡◌, ◌⊎◌, inl, inr, ℕ, Bool, true, false, ◌&&◌, ◌||◌, ◌==◌, not, eqb-true, List, [], Option, Some, None, refl, sym, ap, subst, ◌∙◌, arith}
use Rattle.std.specs.Prelude.{if◌then◌else◌, unwrap_or}
use Rattle.std.specs.List.{list_any}
use Rattle.std.proofs.lemmas.Bool.{and_parts}
use Rattle.std.proofs.lemmas.Bool.Decides.{nat_tests}
use Rattle.std.proofs.lemmas.Option.{same_Some}
use Rattle.lvm_num.specs.declared.descriptor.Descriptor.{Descriptor}
use Rattle.lvm_num.specs.declared.descriptor.PvRow.{PvRow}
use Rattle.lvm_num.specs.declared.status.Status.{Status}
use Rattle.lvm_num.specs.Descriptor.{is_member}
use Rattle.lvm_num.specs.Disks.{Disks, has}
use Rattle.lvm_num.specs.Status.{calls_missing}
use Rattle.lvm_num.specs.Votes.{is_enough_to_write, votes_in}
use Rattle.lvm_num.proofs.Booleans.{and_true, clash_gives}
use Rattle.lvm_status.specs.Update.{Stored, Updates, is_held, is_owed, no_disks, seen, with_disk, without_disk}
use Rattle.lvm_status.specs.Calls.{WantsAtEnd, after_end, comes_held, with_commit, with_end}
use Rattle.lvm_status.specs.Runs.{IsSoundStatus}
use Rattle.lvm_invariant.specs.State.{Beside}
use Rattle.lvm_crash.specs.Session.{is_beside, marks_of}
use Rattle.lvm_tie.proofs.AmongLemmas.{not_true, or_true}
use Rattle.lvm_tie.proofs.OutLemmas.Losing.{not_owed_by}
use Rattle.lvm_tie.specs.Out.{is_owed_on}
pub use Rattle.std.proofs.lemmas.Bool.{cases_Bool as decided}

-- ---- what the update learns

-- the update with this end, before it may be over
abbrev pub learned : Updates → ℕ → Bool → Status → Bool → Updates
learned u disk ok wanted commits = if commits then with_commit (with_end u disk ok wanted) else with_end u disk ok wanted

-- the disks that have it then
abbrev pub written_then : Updates → ℕ → Bool → Disks
written_then u disk true = with_disk u.written disk
written_then u disk false = u.written

-- what is committed then
abbrev pub committed_then : Updates → Bool → Status
committed_then u true = unwrap_or u.in_flight u.committed
committed_then u false = u.committed

-- nothing else of it changes but which of its writes are out and have failed
pub learned_is : (u : Updates) (disk : ℕ) (ok : Bool) (wanted : Status) (commits : Bool) → learned u disk ok wanted commits
    ≡ record u { committed = committed_then u commits; wanted = wanted; started = without_disk u.started disk; written = written_then u disk ok; failed = (learned u disk ok wanted commits).failed }
learned_is u disk true wanted true = refl
learned_is u disk true wanted false = refl
learned_is u disk false wanted true = refl
learned_is u disk false wanted false = refl

-- a write that fails commits nothing
never : (u : Updates) (disk : ℕ) (wanted : Status) → comes_held u (with_end u disk false wanted) ≡ false
never u disk wanted = by (is_held u)
  where
    by : (b : Bool) → not b && b ≡ false
    by true = refl
    by false = refl

pub commits_well : (u : Updates) (disk : ℕ) (ok : Bool) (wanted : Status) → comes_held u (with_end u disk ok wanted) ≡ true → ok ≡ true
commits_well u disk true wanted is = refl
commits_well u disk false wanted is = clash_gives (comes_held u (with_end u disk false wanted)) is (never u disk wanted)

pub held_before : (u : Updates) (disk : ℕ) (ok : Bool) (wanted : Status) → comes_held u (with_end u disk ok wanted) ≡ false → is_held (with_end u disk ok wanted) ≡ true → is_held u ≡ true
held_before u disk ok wanted none held = by (is_held u) (is_held (with_end u disk ok wanted)) none held
  where
    by : (a b : Bool) → not a && b ≡ false → b ≡ true → a ≡ true
    by true b h is = refl
    by false b h is = absurd (let e : ◌≡◌ {A = Bool} true false = sym is ∙ h in cc)

-- ---- what is wanted

-- a disk whose write ended badly is missing, and no other that wasn't
pub lost_then : (disk : ℕ) (ok : Bool) (old new : Status) → WantsAtEnd disk ok old new → ok ≡ false → calls_missing new disk ≡ true
lost_then disk true old new wants badly = absurd (cc badly)
lost_then disk false old new wants badly = let test : (disk == disk) ≡ true = grind (arith, nat_tests) in wants.missing disk ∙ ap (λ b. if b then true else calls_missing old disk) test

pub missing_then : (disk : ℕ) (ok : Bool) (old new : Status) → WantsAtEnd disk ok old new → (d : ℕ) → calls_missing new d ≡ false → calls_missing old d ≡ false
missing_then disk true old new wants d there = sym (ap (λ (s : Status). calls_missing s d) wants) ∙ there
missing_then disk false old new wants d there = by (d == disk) (sym (wants.missing d) ∙ there)
  where
    by : (b : Bool) → (if b then true else calls_missing old d) ≡ false → calls_missing old d ≡ false
    by true h = absurd (cc h)
    by false h = h

pub marks_then : (beside : Option Beside) (disk : ℕ) (ok : Bool) (old new : Status) → WantsAtEnd disk ok old new → marks_of beside new ≡ marks_of beside old
marks_then beside disk true old new wants = ap (marks_of beside) wants
marks_then beside disk false old new wants = λ t. record { stale = λ p. is_beside beside p || wants.stale p t; dirty = λ lv. list_any (λ n. n == lv) (wants.dirty t) }

-- ---- all of it

module _ (old status new : Stored) (group : Descriptor) (disk : ℕ) (ok : Bool) (value : Status) (group_is : old.group ≡ record group { lvs = [] }) (sound : IsSoundStatus (seen old)) (flies : old.in_flight ≡ Some value)
    (flew : has old.writes.started disk ≡ true) (wants : WantsAtEnd disk ok old.wanted status.wanted) (ended : seen status ≡ after_end (seen old) disk ok status.wanted) (rest : seen new ≡ record (seen status) { wanted = new.wanted }) where
  abbrev commits : Bool
  commits = comes_held (seen old) (with_end (seen old) disk ok status.wanted)

  abbrev mid : Updates
  mid = learned (seen old) disk ok status.wanted commits

  abbrev over : Bool
  over = is_held mid && not (is_owed mid)

  mid_is : mid ≡ record (seen old) { committed = committed_then (seen old) commits; wanted = status.wanted; started = without_disk (has old.writes.started) disk; written = written_then (seen old) disk ok; failed = mid.failed }
  mid_is = learned_is (seen old) disk ok status.wanted commits

  -- the update is over, or goes on
  abbrev ended_so : Bool → Updates
  ended_so b = if b then record mid { in_flight = None; unstarted = no_disks; started = no_disks; written = no_disks; failed = no_disks } else mid

  new_is : seen new ≡ record (ended_so over) { wanted = new.wanted }
  new_is = rest ∙ ap (λ (x : Updates). record x { wanted = new.wanted }) ended

  pub new_so : (b : Bool) → over ≡ b → seen new ≡ record (ended_so b) { wanted = new.wanted }
  new_so b is = new_is ∙ ap (λ (x : Bool). record (ended_so x) { wanted = new.wanted }) is

  -- what is committed
  committed_by : (b : Bool) → (ended_so b).committed ≡ mid.committed
  committed_by true = refl
  committed_by false = refl

  pub committed_status : status.committed ≡ committed_then (seen old) commits
  committed_status = ap (λ (x : Updates). x.committed) ended ∙ committed_by over ∙ ap (λ (x : Updates). x.committed) mid_is

  pub committed_new : new.committed ≡ status.committed
  committed_new = ap (λ (x : Updates). x.committed) rest

  -- the stamp stays
  stamp_by : (b : Bool) → (ended_so b).stamp ≡ mid.stamp
  stamp_by true = refl
  stamp_by false = refl

  pub stamp_then : new.stamp ≡ old.stamp
  stamp_then = ap (λ (x : Updates). x.stamp) new_is ∙ stamp_by over ∙ ap (λ (x : Updates). x.stamp) mid_is

  -- once committed, the one in flight is the committed one, or none is
  flies_by : (b : Bool) → commits ≡ true → unwrap_or (ended_so b).in_flight (ended_so b).committed ≡ value
  flies_by true now = ap (λ (x : Updates). x.committed) mid_is ∙ ap (committed_then (seen old)) now ∙ ap (λ (m : Option Status). unwrap_or m old.committed) flies
  flies_by false now = ap (λ (x : Updates). unwrap_or x.in_flight x.committed) mid_is ∙ ap (λ (m : Option Status). unwrap_or m (committed_then (seen old) commits)) flies

  pub flies_status : commits ≡ true → unwrap_or status.in_flight status.committed ≡ value
  flies_status now = ap (λ (x : Updates). unwrap_or x.in_flight x.committed) ended ∙ flies_by over now

  pub committed_value : commits ≡ true → status.committed ≡ value
  committed_value now = committed_status ∙ ap (committed_then (seen old)) now ∙ ap (λ (m : Option Status). unwrap_or m old.committed) flies

  -- the disks that have it
  pub written_mid : (d : ℕ) → mid.written d ≡ written_then (seen old) disk ok d
  written_mid d = ap (λ (x : Updates). x.written d) mid_is

  -- those that have it have votes enough
  pub enough : commits ≡ true → is_enough_to_write group (votes_in group (with_disk (has old.writes.written) disk)) ≡ true
  enough now =
      let well = commits_well (seen old) disk ok status.wanted now in
      let both = and_parts (not (is_held (seen old))) (is_held (with_end (seen old) disk ok status.wanted)) now in
      subst (λ (g : Descriptor). is_enough_to_write g (votes_in g (with_disk (has old.writes.written) disk)) ≡ true) group_is (subst (λ b. is_held (with_end (seen old) disk b status.wanted) ≡ true) well both.1)

  -- it was held before, where it isn't committed by this end
  pub held_mid : commits ≡ false → is_held mid ≡ true → is_held (seen old) ≡ true
  held_mid none held = held_before (seen old) disk ok status.wanted none (sym (ap (λ b. is_held (learned (seen old) disk ok status.wanted b)) none) ∙ held)

  -- ---- where it goes on

  pub goes_on : over ≡ false → seen new ≡ record mid { wanted = new.wanted }
  goes_on still = new_so false still

  pub flies_new : over ≡ false → new.in_flight ≡ Some value
  flies_new still = ap (λ (x : Updates). x.in_flight) (goes_on still) ∙ ap (λ (x : Updates). x.in_flight) mid_is ∙ flies

  pub held_new : over ≡ false → is_held (seen new) ≡ is_held mid
  held_new still = ap is_held (goes_on still)

  pub written_new : over ≡ false → (d : ℕ) → has new.writes.written d ≡ written_then (seen old) disk ok d
  written_new still d = ap (λ (x : Updates). x.written d) (goes_on still) ∙ written_mid d

  owed_new : over ≡ false → (d : ℕ) → is_owed_on new d ≡ (has old.writes.unstarted d || (has old.writes.started d && not (d == disk)))
  owed_new still d = ap (λ (x : Updates). x.unstarted d || x.started d) (goes_on still) ∙ ap (λ (x : Updates). x.unstarted d || x.started d) mid_is

  -- what is owed was, and not on this disk
  pub owed_before : over ≡ false → (d : ℕ) → is_owed_on new d ≡ true → is_owed_on old d ≡ true
  owed_before still d owed = by (has old.writes.unstarted d) (has old.writes.started d) (d == disk) (sym (owed_new still d) ∙ owed)
    where
      by : (a b e : Bool) → (a || (b && not e)) ≡ true → (a || b) ≡ true
      by true b e h = refl
      by false true e h = refl
      by false false e h = absurd (cc h)

  pub owed_beside : over ≡ false → (d : ℕ) → is_owed_on new d ≡ true → (d == disk) ≡ false
  owed_beside still d owed = by (d == disk) refl (sym (owed_new still d) ∙ owed)
    where
      out : (b : Bool) → has old.writes.unstarted disk ≡ b → b ≡ false
      out false is = refl
      out true is = clash_gives (has old.writes.started disk) flew (sound.unstarted disk is).1

      not_both : (a b : Bool) → (a || (b && not true)) ≡ true → a ≡ true
      not_both true b h = refl
      not_both false true h = absurd (cc h)
      not_both false false h = absurd (cc h)

      by : (e : Bool) → (d == disk) ≡ e → (has old.writes.unstarted d || (has old.writes.started d && not e)) ≡ true → e ≡ false
      by false at h = refl
      by true at h = clash_gives (has old.writes.unstarted d) (not_both (has old.writes.unstarted d) (has old.writes.started d) h) (ap (has old.writes.unstarted) (eqb-true d disk at) ∙ out (has old.writes.unstarted disk) refl)

  -- ---- where it is over

  pub over_new : over ≡ true → new.in_flight ≡ None
  over_new done = ap (λ (x : Updates). x.in_flight) (new_so true done)

  pub none_started : over ≡ true → (d : ℕ) → has new.writes.started d ≡ false
  none_started done d = ap (λ (x : Updates). x.started d) (new_so true done)

  pub none_written : over ≡ true → (d : ℕ) → has new.writes.written d ≡ false
  none_written done d = ap (λ (x : Updates). x.written d) (new_so true done)

  pub held_over : over ≡ true → is_held mid ≡ true
  held_over done = (and_parts (is_held mid) (not (is_owed mid)) done).0

  -- what is committed is the update
  pub over_committed : over ≡ true → new.committed ≡ value
  over_committed done = committed_new ∙ by (decided commits)
    where
      by : (commits ≡ true) ⊎ (commits ≡ false) → status.committed ≡ value
      by (inl commit) = committed_value commit
      by (inr none) = committed_status ∙ ap (committed_then (seen old)) none ∙ same_Some old.committed value (sym (sound.held (held_mid none (held_over done))) ∙ flies)

  none_left : over ≡ true → (d : ℕ) → is_member group d ≡ true → (has old.writes.unstarted d || (has old.writes.started d && not (d == disk))) ≡ false
  none_left done d member =
      let none : is_owed mid ≡ false = not_true (is_owed mid) (and_parts (is_held mid) (not (is_owed mid)) done).1 in
      let pvs : mid.group.pvs ≡ group.pvs = ap (λ (x : Updates). x.group.pvs) mid_is ∙ ap (λ (g : Descriptor). g.pvs) group_is in
      sym (ap (λ (x : Updates). x.unstarted d || x.started d) mid_is)
      ∙ not_owed_by (λ n. mid.unstarted n || mid.started n) group.pvs d member (subst (λ (rows : List PvRow). list_any (λ (r : PvRow). mid.unstarted r.disk || mid.started r.disk) rows ≡ false) pvs none)

  -- each member that isn't missing then has it
  pub all_written : over ≡ true → (d : ℕ) → is_member group d ≡ true → calls_missing status.wanted d ≡ false → written_then (seen old) disk ok d ≡ true
  all_written done d member present = by (d == disk) refl
    where
      here : d ≡ disk → (d == disk) ≡ true → (b : Bool) → ok ≡ b → written_then (seen old) disk b d ≡ true
      here same test true well = or_true (has old.writes.written d) (d == disk) (inr test)
      here same test false badly = clash_gives (calls_missing status.wanted disk) (lost_then disk ok old.wanted status.wanted wants badly) (ap (calls_missing status.wanted) (sym same) ∙ present)

      kept : (b : Bool) → has old.writes.written d ≡ true → written_then (seen old) disk b d ≡ true
      kept true had = or_true (has old.writes.written d) (d == disk) (inl had)
      kept false had = had

      of : (u s w : Bool) → u || (s || w) ≡ true → u || (s && true) ≡ false → w ≡ true
      of true s w h k = absurd (cc k)
      of false true w h k = absurd (cc k)
      of false false w h k = h

      elsewhere : (d == disk) ≡ false → has old.writes.written d ≡ true
      elsewhere other =
          let inside : is_member old.group d ≡ true = ap (λ (g : Descriptor). is_member g d) group_is ∙ member in
          let was : calls_missing old.wanted d ≡ false = missing_then disk ok old.wanted status.wanted wants d present in
          of (has old.writes.unstarted d) (has old.writes.started d) (has old.writes.written d) (sound.each value flies d (λ t. inside t && not (was t)))
          (sym (ap (λ b. has old.writes.unstarted d || (has old.writes.started d && not b)) other) ∙ none_left done d member)

      by : (b : Bool) → (d == disk) ≡ b → written_then (seen old) disk ok d ≡ true
      by true test = here (eqb-true d disk test) test ok refl
      by false other = kept ok (elsewhere other)

  -- ---- in both

  -- what is owed on no other member wasn't
  pub owed_still : (d : ℕ) → is_member group d ≡ true → (d == disk) ≡ false → is_owed_on new d ≡ false → is_owed_on old d ≡ false
  owed_still d member other owed = by (decided over)
    where
      as_before : (has old.writes.unstarted d || (has old.writes.started d && not (d == disk))) ≡ false → is_owed_on old d ≡ false
      as_before h = sym (ap (λ b. has old.writes.unstarted d || b) (ap (λ e. has old.writes.started d && not e) other ∙ and_true (has old.writes.started d))) ∙ h

      by : (over ≡ true) ⊎ (over ≡ false) → is_owed_on old d ≡ false
      by (inr still) = as_before (sym (owed_new still d) ∙ owed)
      by (inl done) = as_before (none_left done d member)
