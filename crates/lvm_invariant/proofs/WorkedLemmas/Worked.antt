-- Events that may be made one after another lead from a good state to a good one; and what recurs in worked sessions.
use Rattle.std.proofs.Common.{◌≡◌, ◌⊎◌, inl, inr, ℕ, ◌+◌, ◌<◌, ◌≤◌, Bool, true, false, ◌&&◌, ◌||◌, List, [], ◌∷◌, ◌++◌, Option, Some, None, refl, sym, ap, ◌∙◌, arith, eqb-true}
use Rattle.std.specs.Prelude.{IsTrue, IsFalse, ◌==◌, nat_le, nat_lt, if◌then◌else◌}
use Rattle.std.proofs.lemmas.Bool.Decides.{nat_tests}
use Rattle.lvm_num.specs.declared.place.Pp.{Pp}
use Rattle.lvm_num.specs.declared.descriptor.Mode.{Mode}
use Rattle.lvm_num.specs.Geometry.{track_group_of}
use Rattle.lvm_num.specs.Record.{Stamped, stamp_lt}
use Rattle.lvm_invariant.specs.State.{Marks, Groups, Stage, Held, Queued, ModelCopy, ModelState}
use Rattle.lvm_invariant.specs.Updates.{put}
use Rattle.lvm_invariant.specs.Found.{Votes}
use Rattle.lvm_invariant.specs.Good.{Good}
use Rattle.lvm_invariant.specs.Submit.{IsPlaced}
use Rattle.lvm_invariant.specs.Events.{Event, Steps, AllowsAll, after_all, made}
use Rattle.lvm_invariant.specs.First.{two_disks, first_copy, is_either, stamped, on_both, at_rest}
use Rattle.lvm_invariant.specs.Worked.{Leads, update, named_on, first_group}
use Rattle.lvm_invariant.proofs.EventsLemmas.Each.{each_moment}
use Rattle.lvm_invariant.proofs.FirstLemmas.{nothing, left, right, both}
pub use Rattle.lvm_num.proofs.DescriptorLemmas.Partitions.{one_partition as pp_is}
use Rattle.lvm_num.proofs.Booleans.{clash_gives, not_so}

-- ---- runs of events

steps : (votes : Votes) (events : List Event) (s : ModelState) → AllowsAll votes events s → Steps votes events s (after_all events s)
steps votes [] s allowed = refl
steps votes (event ∷ events) s allowed = (made event s, (allowed.0, refl), steps votes events (made event s) allowed.1)

pub leads : (votes : Votes) (events : List Event) (s : ModelState) → Good votes s → AllowsAll votes events s → Leads votes events s
leads votes events s good allowed = record { good = good; allowed = allowed; reached = each_moment votes events s (after_all events s) good (steps votes events s allowed) }

pub allows_append : (votes : Votes) (events more : List Event) (s : ModelState) → AllowsAll votes events s → AllowsAll votes more (after_all events s) → AllowsAll votes (events ++ more) s
allows_append votes [] more s none rest = rest
allows_append votes (event ∷ events) more s allowed rest = (allowed.0, allows_append votes events more (made event s) allowed.1 rest)

-- ---- one request in the queue

pub first_put : (i : ℕ) (n : Queued) (j : ℕ) (e : Queued) → put (λ k. None) i n j ≡ Some e → (j ≡ i) × (e ≡ n)
first_put i n j e = by_test (j == i) refl
  where
    by_test : (t : Bool) → (j == i) ≡ t → (if t then Some n else None) ≡ Some e → (j ≡ i) × (e ≡ n)
    by_test true is h = (eqb-true j i is, cc)
    by_test false is h = nothing e h

-- no place is below the first
pub none_below : {X : Type 0} (j : ℕ) → j ≡ 1 → j < 1 → X
none_below j is low = absurd (omega (arith, is, low))

-- ---- the two copies

pub on_two : (e : Pp) → IsTrue (is_either e) → IsTrue (two_disks e.disk)
on_two e = by (e.disk == 0) (e.disk == 1) (e.pp == 0)
  where
    by : (a b c : Bool) → IsTrue ((a && c) || (b && c)) → IsTrue (a || b)
    by true b c h = refl
    by false true c h = refl
    by false false c h = not_so h

-- what stands at each of the two
pub at_either : (x : Stage) (t : Bool) (stage : Stage) → (if t then Some x else None) ≡ Some stage → IsTrue t × (stage ≡ x)
at_either x true stage h = (refl, same x stage h)
  where
    same : (x stage : Stage) → Some x ≡ Some stage → stage ≡ x
    same x stage h = cc
at_either x false stage h = nothing stage h

-- ---- where a request lies

within : (n lv b : ℕ) → n ≤ 256 → IsTrue (1 == lv && nat_le 0 b && nat_lt b (0 + n)) → IsTrue (1 == lv) × (b < 256)
within n lv b small over =
    let inside : IsTrue (nat_lt b (0 + n)) = right (1 == lv && nat_le 0 b) (nat_lt b (0 + n)) over in
    let low : b < 0 + n = grind (arith, nat_tests) in
    (left (1 == lv) (nat_le 0 b) (left (1 == lv && nat_le 0 b) (nat_lt b (0 + n)) over), omega (arith, low, small))

in_volume : (b : ℕ) → b < 256 → nat_lt b 2048 ≡ true
in_volume b low = grind (arith, nat_tests)

-- so many blocks from the first on
abbrev pub of_first : (n : ℕ) (write step : Bool) (value : ℕ → List ℕ) → Queued
of_first n write step value = record { lv = 1; first = 0; count = n; write = write; step = step; value = value; phase = Held; several = false; targets = λ c. None; got = None }

pub placed : (mode : Mode) (stale : Bool) (open_copy : Option ModelCopy) (n : ℕ) (write step : Bool) (value : ℕ → List ℕ) → n ≤ 256
    → IsPlaced (record (at_rest mode stale) { open_copy = open_copy }) (of_first n write step value)
placed mode stale open_copy n write step value small = record {
  place = λ lv b over. let at = within n lv b small over in (
    sym (eqb-true 1 lv at.0),
    group b at.1,
    ap {B = Pp → Bool} (λ (t : Bool). λ c. t && is_either c) (in_volume b at.1),
  );
  inside = λ lv b over. let at = within n lv b small over in (first_copy, both (1 == lv && nat_lt b 2048) true (both (1 == lv) (nat_lt b 2048) at.0 (in_volume b at.1)) refl);
}
  where
    group : (b : ℕ) → b < 256 → track_group_of b ≡ 0
    group b low = omega (arith, low)

-- ---- notes

pub note_ends : (old new : ℕ → Bool) (n : ℕ) → ((e : ℕ) → (e == n) ≡ true → new e ≡ true) → ((e : ℕ) → (e == n) ≡ false → new e ≡ old e)
    → (e : ℕ) → (named_on new e ≡ named_on old e) ⊎ ((e ≡ n) × (named_on new e ≡ first_group))
note_ends old new n now still e = by_test (e == n) refl
  where
    by_test : (t : Bool) → (e == n) ≡ t → (named_on new e ≡ named_on old e) ⊎ ((e ≡ n) × (named_on new e ≡ first_group))
    by_test true is = inr (eqb-true e n is, ap {B = Groups} (λ (t : Bool). λ lv g. t && first_group lv g) (now e is))
    by_test false is = inl (ap {B = Groups} (λ (t : Bool). λ lv g. t && first_group lv g) (still e is))

-- ---- an update of the status

shown : (u : Stamped Marks) (d : ℕ) → IsTrue (two_disks d) → on_both u d ≡ Some u
shown u d is = ap (λ (t : Bool). if t then Some u else None) is

pub update_allowed : (votes : Votes) (s : ModelState) (was : Stamped Marks) (seq : ℕ) (marks : Marks) → IsTrue (votes.writes two_disks)
    → s.in_flight ≡ None → s.wanted ≡ marks → stamp_lt s.committed.stamp (stamped seq marks).stamp ≡ true → s.media.status ≡ on_both was → ((d : ℕ) → IsFalse (s.missing d))
    → ((o : ModelCopy) → s.open_copy ≡ Some o → IsFalse (marks.stale o.target)) → AllowsAll votes (update was seq marks) s
update_allowed votes s was seq marks enough none wanted later status there cleared = (
  record { none = none; value = sym wanted; later = later },
  (
    record { flies = refl; each = λ d. inl (ap (λ (f : ℕ → Option (Stamped Marks)). f d) (sym status)) },
    (
      record { flies = refl; each = λ d. by_test (two_disks d) d },
      (
        record {
          commits = record { flies = refl; open_same = λ o is. nothing o is; open_done = λ o is. inr (cleared o is) };
          enough = enough;
          have = λ d h. shown (stamped seq marks) d h;
          marks = record {
            missing_still = λ d h. h;
            still = λ c h. sym (ap (λ (m : Marks). m.stale c) wanted) ∙ h;
            still_dirty = λ lv h. sym (ap (λ (m : Marks). m.dirty lv) wanted) ∙ h;
            added = λ c h. inl (ap (λ (m : Marks). m.stale c) wanted ∙ h);
            open_same = inl refl;
            open_there = λ o is. nothing o is;
            behind = λ lv b c e copy fresh gone other usable kept. absurd (clash_gives (s.missing c.disk) gone (there c.disk));
          };
        },
        (record { committed = refl; ended = λ d. refl }, tt),
      ),
    ),
  ),
)
  where
    by_test : (t : Bool) (d : ℕ) → ((if t then Some (stamped seq marks) else None) ≡ (if t then Some was else None)) ⊎ ((if t then Some (stamped seq marks) else None) ≡ Some (stamped seq marks))
    by_test true d = inr refl
    by_test false d = inl refl
