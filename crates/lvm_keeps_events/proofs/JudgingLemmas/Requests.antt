-- What the requests of a session are judged by after the end of a write and its review.
use Rattle.std.proofs.Common.{◌≡◌, ◌⊎◌, inl, inr, ◌==◌, ◌≤◌, ◌<◌, ◌%◌, ℕ, Bool, true, false, ◌&&◌, ◌||◌, not, nat_lt, nat_le, if◌then◌else◌, List, [], ◌∷◌, Some, length, slice_get, refl, sym, ◌∙◌, ap, subst, arith}
use Rattle.std.specs.Prelude.{count_by}
use Rattle.std.specs.List.{list_any, AllByRecursion}
use Rattle.std.specs.Option.{option_map_or}
use Rattle.std.proofs.lemmas.Map.Keys.{any_passes_from_place}
use Rattle.std.proofs.lemmas.Bool.{lt-ltb, ltb-false}
use Rattle.std.proofs.lemmas.Bool.Decides.{nat_tests}
use Rattle.std.proofs.lemmas.Nat.{mod_below}
use Rattle.lvm_num.specs.declared.descriptor.Mode.{Mode}
use Rattle.lvm_num.specs.declared.descriptor.Mode.TheVariants as mode
use Rattle.lvm_num.specs.declared.place.Pp.{Pp}
use Rattle.lvm_num.specs.declared.status.Status.{Status}
use Rattle.lvm_num.specs.Geometry.{partition_blocks}
use Rattle.lvm_num.specs.Status.{calls_dirty}
use Rattle.lvm_num.specs.Descriptor.{is_pp}
use Rattle.lvm_num.proofs.Booleans.{not_so}
use Rattle.lvm_num.proofs.Lists.{all_at, all_weaker}
use Rattle.lvm_hold.specs.declared.queue.Held.{Held}
use Rattle.lvm_hold.specs.Waiting.{is_blocked}
use Rattle.lvm_mwc.specs.Cache.{is_named}
use Rattle.lvm_mwc.specs.Entries.{pins_of}
use Rattle.lvm_path.specs.declared.ask.Ask.{Ask}
use Rattle.lvm_path.specs.declared.request.Phase.{Phase}
use Rattle.lvm_path.specs.declared.request.Request.{Request}
use Rattle.lvm_path.specs.declared.target.Target.{Target}
use Rattle.lvm_path.specs.Asks.{at_of, lv_of}
use Rattle.lvm_path.specs.Targets.{are_over, is_done, is_failed}
use Rattle.lvm_session.specs.declared.bringing.OpenCopy.{OpenCopy}
use Rattle.lvm_session.specs.declared.open.Open.{Open}
use Rattle.lvm_session.specs.State.{Core}
use Rattle.lvm_session.specs.Judging.{group_in, group_of, has_dirty_mark, has_names, held_of, is_caught, is_kept, is_running, is_settled, is_sure, is_wanted_stale, place_of, pps_of, is_sure_at, destinations_for}
use Rattle.lvm_session.specs.Bringing.{groups_of}
use Rattle.lvm_session.specs.Marks.{is_among}
use Rattle.lvm_session.specs.Requests.{IsJudged, IsLaid, IsMarkedDestination, IsOpenOne, IsPhase, MayBeServed, IsRecorded, IsShaped, has_record, is_failed_and_sure, is_wanted_dirty, may_lack, mode_for, wants_status, will_be_kept}
use Rattle.lvm_session.specs.Sound.{pins}
use Rattle.lvm_keeps.proofs.KeepsLemmas.NoteStart.{each_counted}
use Rattle.lvm_keeps.proofs.Small.{and_on, both, is_false}
use Rattle.lvm_keeps.proofs.RequestsLemmas.{shape_still, SamePlaces}
use Rattle.lvm_keeps_events.proofs.EndsLemmas.NoteEnd.{all_true, pinned_by}
use Rattle.lvm_keeps_events.proofs.Finding.{any_on, count_with, found}
use Rattle.lvm_keeps_events.proofs.CallsLemmas.{in_flight_of}
use Rattle.lvm_keeps_events.proofs.JudgingLemmas.Review.{Clears, WriteEnd, Reviewed, and_of, flies_is, mid, now, of_now, or_right, settled_on, sure_by, wanted_on}
use Rattle.lvm_keeps_events.proofs.Groups.{some_blocks, groups_below}
use Rattle.lvm_keeps_events.proofs.JudgingLemmas.DuesMarks.{own_pp}
use Rattle.lvm_keeps_events.proofs.MissedLemmas.{ends_phase, missed_on, none_failed, not_failed}
use Rattle.lvm_session.proofs.MovesLemmas.{among_filter, among_filtered}

-- ---- tests

pub fewer_due : (n m : ℕ) (k l : Bool) → m ≤ n → (l ≡ true → k ≡ true) → nat_le n (if k then 0 else 1) ≡ true → nat_le m (if l then 0 else 1) ≡ true
fewer_due n m true true low on e = passes n m 0 low e
  where
    passes : (a b c : ℕ) → b ≤ a → nat_le a c ≡ true → nat_le b c ≡ true
    passes a b c less few = grind (arith, nat_tests, less, few)
fewer_due n m true false low on e = grows n m low e
  where
    grows : (a b : ℕ) → b ≤ a → nat_le a 0 ≡ true → nat_le b 1 ≡ true
    grows a b less few = grind (arith, nat_tests, less, few)
fewer_due n m false true low on e = not_so (on refl)
fewer_due n m false false low on e = passes n m 1 low e
  where
    passes : (a b c : ℕ) → b ≤ a → nat_le a c ≡ true → nat_le b c ≡ true
    passes a b c less few = grind (arith, nat_tests, less, few)

out_still : (a s w c t v d : Bool) → (s ≡ true → t ≡ true) → (w ≡ true → v ≡ true) → (c ≡ false → d ≡ false) → a || (s && w && not c) ≡ true → a || (t && v && not d) ≡ true
out_still true s w c t v d i j k e = refl
out_still false true true false t v d i j k e = and_of (t && v) (not d) (and_of t v (i refl) (j refl)) (ap not (k refl))
out_still false true true true t v d i j k e = not_so e
out_still false true false c t v d i j k e = not_so e
out_still false false w c t v d i j k e = not_so e

turned : (b c : Bool) → (b ≡ false → c ≡ false) → c ≡ true → b ≡ true
turned true c on e = refl
turned false c on e = not_so (sym (on refl) ∙ e)

-- ---- track groups

-- a copy that is to be cleared is caught up with
pub whole_caught : (core : Core) (r : Request) → IsLaid core r → (p : Pp) → Clears core p → is_caught core (group_in core r.ask) p ≡ true
whole_caught core r laid p c =
    ap (λ m. option_map_or (λ (k : OpenCopy). is_running k && is_pp p k.pp && nat_lt (group_in core r.ask) k.cursor) m false) c.is_open
    ∙ ap (λ b. b && is_pp p c.copy.pp && nat_lt (group_in core r.ask) c.copy.cursor) c.runs ∙ ap (λ b. b && nat_lt (group_in core r.ask) c.copy.cursor) (ap (is_pp p) c.its ∙ own_pp p)
    ∙ lt-ltb (group_in core r.ask) c.copy.cursor (past c.copy.cursor (is_false (nat_lt c.copy.cursor (groups_of core)) c.whole))
  where
    group_low : group_in core r.ask < groups_of core
    group_low =
        let some = laid.within.some in
        let within = laid.within.within in
        groups_below (at_of r.ask % partition_blocks core.descriptor.mib) core.descriptor.mib (mod_below (at_of r.ask) (partition_blocks core.descriptor.mib) (some_blocks core.descriptor.mib laid.within.row.lps (at_of r.ask) (omega (arith, some, within))))

    past : (cursor : ℕ) → nat_lt cursor (groups_of core) ≡ false → group_in core r.ask < cursor
    past cursor far = let low = group_low in let high = ltb-false cursor (groups_of core) far in omega (arith, low, high)

-- ---- each request

-- the notes name what is pinned still
abbrev pub NamesStay : WriteEnd → Type 0
NamesStay e = (disk lv group : ℕ) → 1 ≤ pins_of e.core.cache.entries lv group → is_named e.core.cache disk lv group ≡ true → is_named (mid e).cache disk lv group ≡ true

module _ (e : WriteEnd) (r : Reviewed e) (names : NamesStay e) (caught : (group : ℕ) (p : Pp) → is_caught e.core group p ≡ false → is_caught (now e r) group p ≡ false)
    (blocked : (place : ℕ) (ask : Held) → is_blocked e.core.queue.rows place ask ≡ false → is_blocked r.queue.rows place ask ≡ false) (places : SamePlaces e.core (now e r)) where
  abbrev core : Core
  core = e.core

  abbrev after : Core
  after = now e r

  -- ---- its records

  dirty_is : (lv : ℕ) → calls_dirty r.status.wanted lv ≡ calls_dirty core.status.wanted lv
  dirty_is lv = ap (λ (ns : List ℕ). list_any (λ n. n == lv) ns) (r.marks.dirty ∙ e.follows.dirty)

  wanted_dirty : (m : Mode) (ask : Ask) → is_wanted_dirty core m ask ≡ true → is_wanted_dirty after m ask ≡ true
  wanted_dirty mode.Active ask is = refl
  wanted_dirty mode.Passive ask is = dirty_is (lv_of ask) ∙ is
  wanted_dirty mode.Off ask is = refl

  mark_on : (m : Mode) (x : Request) → has_dirty_mark core m x ≡ true → has_dirty_mark after m x ≡ true
  mark_on mode.Active x is = refl
  mark_on mode.Passive x is =
      let parts = both (calls_dirty core.status.committed (lv_of x.ask)) (calls_dirty (in_flight_of core) (lv_of x.ask)) is in
      ap (λ (s : Status). calls_dirty r.status.committed (lv_of x.ask) && calls_dirty s (lv_of x.ask)) (flies_is e r)
      ∙ of_now e r (λ s. calls_dirty s (lv_of x.ask) && calls_dirty (in_flight_of core) (lv_of x.ask) ≡ true) is (and_of (calls_dirty (in_flight_of core) (lv_of x.ask)) (calls_dirty (in_flight_of core) (lv_of x.ask)) parts.1 parts.1)
  mark_on mode.Off x is = refl

  abbrev IsKept : Open → Type 0
  IsKept x = x.request.pinned ≡ true → 1 ≤ pins_of core.cache.entries (lv_of x.request.ask) (group_of x.request.ask)

  kept : AllByRecursion IsKept core.requests
  kept = all_weaker (λ (x : Open). x.request.pinned ≡ true → 1 ≤ count_by (pins (lv_of x.request.ask) (group_of x.request.ask)) core.requests) IsKept
      (λ x low is. let was = low is in let same = e.going.pinned (lv_of x.request.ask) (group_of x.request.ask) in omega (arith, was, same)) core.requests (each_counted core.requests)

  named_on : (x : Open) → IsKept x → (m : Mode) → IsRecorded m x.request.phase x.request → has_record x.request.phase ≡ true → 2 ≤ length x.request.targets.items → has_names core m x.request ≡ true → has_names after m x.request ≡ true
  named_on x keep mode.Active rec has two is = all_true (λ (t : Target). is_named core.cache t.pp.disk (lv_of x.request.ask) (group_of x.request.ask)) (λ (t : Target). is_named after.cache t.pp.disk (lv_of x.request.ask) (group_of x.request.ask))
      (λ t named. names t.pp.disk (lv_of x.request.ask) (group_of x.request.ask) (keep (pinned_by x.request.phase x.request has rec two)) named) x.request.targets.items is
  named_on x keep mode.Passive rec has two is = is
  named_on x keep mode.Off rec has two is = is

  -- ---- what is judged of it

  module _ (x : Open) (laid : IsLaid core x.request) where
    abbrev group : ℕ
    group = group_in core x.request.ask

    abbrev Uncaught : Target → Type 0
    Uncaught t = may_lack x t && is_caught core group t.pp ≡ false

    failed_by : (t : Target) → Uncaught t → is_failed_and_sure after t ≡ true → is_failed_and_sure core t ≡ true
    failed_by t uncaught is = by (sure_by e r t.pp more.1)
      where
        parts : (is_failed t.state ≡ true) × (is_sure_at after t ≡ true)
        parts = both (is_failed t.state) (is_sure_at after t) is

        more : (not t.moves ≡ true) × (is_sure after t.pp ≡ true)
        more = both (not t.moves) (is_sure after t.pp) parts.1

        by : (is_sure core t.pp ≡ true) ⊎ Clears core t.pp → is_failed_and_sure core t ≡ true
        by (inl sure) = and_of (is_failed t.state) (is_sure_at core t) parts.0 (and_of (not t.moves) (is_sure core t.pp) more.0 sure)
        by (inr c) = not_so (sym uncaught ∙ ap (λ b. (b || x.older) && is_caught core group t.pp) parts.0 ∙ whole_caught core x.request laid t.pp c)

    kept_by : is_kept after x.request || will_be_kept after x.request ≡ true → is_kept core x.request || will_be_kept core x.request ≡ true
    kept_by is = by (is_kept after x.request) refl is
      where
        carried : (t : Target) → is_done t.state && is_caught after group t.pp ≡ true → is_done t.state && is_caught core group t.pp ≡ true
        carried t e2 = let parts = both (is_done t.state) (is_caught after group t.pp) e2 in and_of (is_done t.state) (is_caught core group t.pp) parts.0 (turned (is_caught core group t.pp) (is_caught after group t.pp) (caught group t.pp) parts.1)

        by_sure : (t : Target) (i : ℕ) → slice_get x.request.targets.items i ≡ Some t → is_done t.state ≡ true → not t.moves ≡ true → (is_sure core t.pp ≡ true) ⊎ Clears core t.pp → is_kept core x.request || will_be_kept core x.request ≡ true
        by_sure t i at done stays (inl sure) =
            ap (λ b. b || will_be_kept core x.request) (any_passes_from_place (λ (u : Target). is_done u.state && is_sure_at core u) x.request.targets.items i t at (and_of (is_done t.state) (is_sure_at core t) done (and_of (not t.moves) (is_sure core t.pp) stays sure)))
        by_sure t i at done stays (inr c) = or_right (is_kept core x.request) (will_be_kept core x.request) (any_passes_from_place (λ (u : Target). is_done u.state && is_caught core group u.pp) x.request.targets.items i t at
            (and_of (is_done t.state) (is_caught core group t.pp) done (whole_caught core x.request laid t.pp c)))

        by : (b : Bool) → is_kept after x.request ≡ b → b || will_be_kept after x.request ≡ true → is_kept core x.request || will_be_kept core x.request ≡ true
        by true kept_so e2 =
            let one = found (λ (t : Target). is_done t.state && is_sure_at after t) x.request.targets.items kept_so in
            let parts = both (is_done one.0.state) (is_sure_at after one.0) one.3 in
            let more = both (not one.0.moves) (is_sure after one.0.pp) parts.1 in
            by_sure one.0 one.1 one.2 parts.0 more.0 (sure_by e r one.0.pp more.1)
        by false none e2 = or_right (is_kept core x.request) (will_be_kept core x.request) (any_on (λ (t : Target). is_done t.state && is_caught after group t.pp) (λ (t : Target). is_done t.state && is_caught core group t.pp) carried x.request.targets.items e2)

    -- nothing more is missed, and of a copy that is to be cleared nothing is
    missed_so : IsShaped core x → IsJudged core x → wants_status x.request.phase ≡ true → AllByRecursion (IsMarkedDestination after x.request) x.request.targets.items
    missed_so shape j status = missed_on core after x.request fewer (λ k t there sure. why k t there (sure_by e r t.pp sure)) (j.missed status)
      where
        over : are_over x.request.targets.items ≡ true
        over = (subst (λ (p : Phase). IsPhase p x) (ends_phase x.request.phase status) shape.phase_is).1

        fewer : list_any (is_failed_and_sure after) x.request.targets.items ≡ true → list_any (is_failed_and_sure core) x.request.targets.items ≡ true
        fewer some =
            let one = found (is_failed_and_sure after) x.request.targets.items some in
            any_passes_from_place (is_failed_and_sure core) x.request.targets.items one.1 one.0 one.2 (failed_by one.0 (all_at Uncaught x.request.targets.items one.1 one.0 j.uncaught one.2) one.3)

        why : (k : ℕ) (t : Target) → slice_get x.request.targets.items k ≡ Some t → (is_sure core t.pp ≡ true) ⊎ Clears core t.pp
            → (is_sure core t.pp ≡ true) ⊎ ((is_failed t.state ≡ false) × (list_any (is_failed_and_sure core) x.request.targets.items ≡ false))
        why k t there (inl sure) = inl sure
        why k t there (inr c) = let caught_it = whole_caught core x.request laid t.pp c in inr (not_failed core x j status over k t there caught_it, none_failed core x j status over k t there caught_it)

    judged_on : IsShaped core x → IsJudged core x → IsJudged after x
    judged_on shape j = record {
      uncaught = all_weaker Uncaught (λ (t : Target). may_lack x t && is_caught after group t.pp ≡ false) (λ t is. and_on (may_lack x t) (is_caught core group t.pp) (is_caught after group t.pp) (caught group t.pp) is) x.request.targets.items j.uncaught;
      due = λ status. fewer_due (count_by (is_failed_and_sure core) x.request.targets.items) (count_by (is_failed_and_sure after) x.request.targets.items) (is_kept core x.request || will_be_kept core x.request) (is_kept after x.request || will_be_kept after x.request)
          (count_with Uncaught (is_failed_and_sure core) (is_failed_and_sure after) failed_by x.request.targets.items j.uncaught) kept_by (j.due status);
      missed = missed_so shape j;
      all = λ begun p among. out_still (is_among (pps_of x.request.targets.items) p) (is_settled core p) (is_wanted_stale core p) (is_caught core group p) (is_settled after p) (is_wanted_stale after p) (is_caught after group p)
          (settled_on e r p) (wanted_on e r p) (caught group p) (j.all begun p among);
      place = λ begun p among.
          let its = among_filtered (is_caught after group) (destinations_for after x.request.ask) p among in
          j.place begun p (among_filter (is_caught core group) (destinations_for core x.request.ask) p (turned (is_caught core group p) (is_caught after group p) (caught group p) its.1) (ap (λ (ps : List Pp). is_among ps p) (places x.request.ask) ∙ its.0));
    }

  -- ---- all of it

  shape_on : (x : Open) → IsShaped core x → IsShaped after x
  shape_on x a = shape_still core after refl places x a

  ready_on : (x : Open) → IsKept x → MayBeServed core x.request → MayBeServed after x.request
  ready_on x keep b = record {
    free = λ past. blocked (place_of x.request.id) (held_of x.request.ask) (b.free past);
    recorded = b.recorded;
    wanted = λ past two. wanted_dirty (mode_for core x.request.ask) x.request.ask (b.wanted past two);
    named = λ has two. named_on x keep (mode_for core x.request.ask) b.recorded has two (b.named has two);
    dirty = λ has two. mark_on (mode_for core x.request.ask) x.request (b.dirty has two);
  }

  one_on : (x : Open) → IsKept x → IsOpenOne core x → IsOpenOne after x
  one_on x keep it = record {
    laid = let l = it.laid in record { within = l.within; blocks = l.blocks; most = l.most; id = l.id };
    waits = λ w. let a = it.waits w in record { shape = shape_on x a.shape; ready = ready_on x keep a.ready; judged = λ write. judged_on x it.laid a.shape (a.judged write) };
    over = it.over;
    still = it.still;
  }

  pub requests_on : AllByRecursion (IsOpenOne after) core.requests
  requests_on = both_on core.requests kept e.going.requests
    where
      both_on : (xs : List Open) → AllByRecursion IsKept xs → AllByRecursion (IsOpenOne core) xs → AllByRecursion (IsOpenOne after) xs
      both_on [] keep all = tt
      both_on (x ∷ xs) keep all = (one_on x keep.0 all.0, both_on xs keep.1 all.1)
