-- What becomes of a mark of staleness in a status.
use Rattle.std.proofs.Common.{◌≡◌, ◌⊎◌, inl, inr, ℕ, Bool, true, false, ◌&&◌, ◌||◌, ◌==◌, not, Option, Some, None, if◌then◌else◌, refl, sym, ap, subst, ◌∙◌}
use Rattle.std.specs.Prelude.{unwrap_or}
use Rattle.lvm_num.specs.declared.place.Pp.{Pp}
use Rattle.lvm_num.specs.declared.status.Status.{Status}
use Rattle.lvm_num.specs.Status.{calls_missing, calls_stale}
use Rattle.lvm_num.specs.Descriptor.{is_pp}
use Rattle.lvm_num.proofs.Booleans.{not_so}
use Rattle.lvm_status.specs.declared.change.Change.TheVariants as change
use Rattle.lvm_status.specs.Update.{Stored, Updates, is_held, is_owed, no_disks, seen}
use Rattle.lvm_status.specs.Calls.{BecomesMissing, WantsAtEnd, after_end, closed, comes_held, given_up, with_commit, with_end, with_start}
use Rattle.lvm_session.specs.Ends.{LosesDisk}
use Rattle.lvm_session.specs.Events.{PutsInFlight}
use Rattle.lvm_session.specs.Marks.{WantsDirty, WantsFresh, WantsStale}
use Rattle.lvm_session.specs.Turns.{SaysTheSame}
use Rattle.lvm_keeps_events.proofs.passed.Keeps.{both}

-- the status in flight, or else the committed one
abbrev pub flown : Stored → Status
flown s = unwrap_or s.in_flight s.committed

-- stale by one of the three, and by all
abbrev pub marks : Stored → Pp → Bool
marks s p = (calls_stale s.committed p || calls_stale (flown s) p) || calls_stale s.wanted p

abbrev pub lasts : Stored → Pp → Bool
lasts s p = (calls_stale s.committed p && calls_stale (flown s) p) && calls_stale s.wanted p

-- What is committed and in flight was one of the three; what is wanted is stale as it was, but for what comes to be due, and what comes to be free.
pub record Passes (due free : Pp → Bool) (old new : Stored) : Type 0 where
  pub committed : (new.committed ≡ old.committed) ⊎ (new.committed ≡ flown old)
  pub flown_is : (flown new ≡ old.committed) ⊎ (flown new ≡ flown old) ⊎ (flown new ≡ old.wanted)
  pub more : (p : Pp) → calls_stale new.wanted p ≡ true → (calls_stale old.wanted p ≡ true) ⊎ (due p ≡ true)
  pub less : (p : Pp) → free p ≡ false → calls_stale old.wanted p ≡ true → calls_stale new.wanted p ≡ true
  pub missing : (disk : ℕ) → calls_missing old.wanted disk ≡ true → calls_missing new.wanted disk ≡ true

abbrev pub none : Pp → Bool
none p = false

-- ---- what follows

or_three : (a b c : Bool) → (a || b) || c ≡ true → (a ≡ true) ⊎ (b ≡ true) ⊎ (c ≡ true)
or_three true b c e = inl refl
or_three false true c e = inr (inl refl)
or_three false false c e = inr (inr e)

first_of : (a b c : Bool) → a ≡ true → (a || b) || c ≡ true
first_of true b c e = refl
first_of false b c e = not_so e

second_of : (a b c : Bool) → b ≡ true → (a || b) || c ≡ true
second_of true b c e = refl
second_of false true c e = refl
second_of false false c e = not_so e

third_of : (a b c : Bool) → c ≡ true → (a || b) || c ≡ true
third_of true b c e = refl
third_of false true c e = refl
third_of false false c e = e

all_three : (a b c : Bool) → a ≡ true → b ≡ true → c ≡ true → (a && b) && c ≡ true
all_three true true c i j k = k
all_three true false c i j k = not_so j
all_three false b c i j k = not_so i

module _ (due free : Pp → Bool) (old new : Stored) (passes : Passes due free old new) (p : Pp) where
  abbrev a : Bool
  a = calls_stale old.committed p

  abbrev f : Bool
  f = calls_stale (flown old) p

  abbrev w : Bool
  w = calls_stale old.wanted p

  pub marked_by : marks new p ≡ true → (marks old p ≡ true) ⊎ (due p ≡ true)
  marked_by e = by (or_three (calls_stale new.committed p) (calls_stale (flown new) p) (calls_stale new.wanted p) e)
    where
      by_committed : (new.committed ≡ old.committed) ⊎ (new.committed ≡ flown old) → calls_stale new.committed p ≡ true → marks old p ≡ true
      by_committed (inl same) i = first_of a f w (sym (ap (λ (s : Status). calls_stale s p) same) ∙ i)
      by_committed (inr same) i = second_of a f w (sym (ap (λ (s : Status). calls_stale s p) same) ∙ i)

      by_flown : (flown new ≡ old.committed) ⊎ (flown new ≡ flown old) ⊎ (flown new ≡ old.wanted) → calls_stale (flown new) p ≡ true → marks old p ≡ true
      by_flown (inl same) i = first_of a f w (sym (ap (λ (s : Status). calls_stale s p) same) ∙ i)
      by_flown (inr (inl same)) i = second_of a f w (sym (ap (λ (s : Status). calls_stale s p) same) ∙ i)
      by_flown (inr (inr same)) i = third_of a f w (sym (ap (λ (s : Status). calls_stale s p) same) ∙ i)

      by_wanted : (calls_stale old.wanted p ≡ true) ⊎ (due p ≡ true) → (marks old p ≡ true) ⊎ (due p ≡ true)
      by_wanted (inl was) = inl (third_of a f w was)
      by_wanted (inr is) = inr is

      by : (calls_stale new.committed p ≡ true) ⊎ (calls_stale (flown new) p ≡ true) ⊎ (calls_stale new.wanted p ≡ true) → (marks old p ≡ true) ⊎ (due p ≡ true)
      by (inl i) = inl (by_committed passes.committed i)
      by (inr (inl i)) = inl (by_flown passes.flown_is i)
      by (inr (inr i)) = by_wanted (passes.more p i)

  pub lasts_on : free p ≡ false → lasts old p ≡ true → lasts new p ≡ true
  lasts_on kept e = all_three (calls_stale new.committed p) (calls_stale (flown new) p) (calls_stale new.wanted p) (by_committed passes.committed) (by_flown passes.flown_is) (passes.less p kept third)
    where
      parts : (a && f ≡ true) × (w ≡ true)
      parts = both (a && f) w e

      third : w ≡ true
      third = parts.1

      one_two : (a ≡ true) × (f ≡ true)
      one_two = both a f parts.0

      by_committed : (new.committed ≡ old.committed) ⊎ (new.committed ≡ flown old) → calls_stale new.committed p ≡ true
      by_committed (inl same) = ap (λ (s : Status). calls_stale s p) same ∙ one_two.0
      by_committed (inr same) = ap (λ (s : Status). calls_stale s p) same ∙ one_two.1

      by_flown : (flown new ≡ old.committed) ⊎ (flown new ≡ flown old) ⊎ (flown new ≡ old.wanted) → calls_stale (flown new) p ≡ true
      by_flown (inl same) = ap (λ (s : Status). calls_stale s p) same ∙ one_two.0
      by_flown (inr (inl same)) = ap (λ (s : Status). calls_stale s p) same ∙ one_two.1
      by_flown (inr (inr same)) = ap (λ (s : Status). calls_stale s p) same ∙ third

-- ---- nothing changes

pub same_passes : (due free : Pp → Bool) (old new : Stored) → new ≡ old → Passes due free old new
same_passes due free old new same = subst (λ (s : Stored). Passes due free old s) (sym same) (record { committed = inl refl; flown_is = inr (inl refl); more = λ p e. inl e; less = λ p kept e. e; missing = λ disk e. e })

-- ---- an update that may end

abbrev over : Updates → Updates
over x = record x { in_flight = None; unstarted = no_disks; started = no_disks; written = no_disks; failed = no_disks }

abbrev flight_of : Updates → Status
flight_of x = unwrap_or x.in_flight x.committed

closed_committed : (x : Updates) → (closed x).committed ≡ x.committed
closed_committed x = by (is_held x && not (is_owed x))
  where
    by : (b : Bool) → (if b then over x else x).committed ≡ x.committed
    by true = refl
    by false = refl

closed_flown : (x : Updates) → (flight_of (closed x) ≡ x.committed) ⊎ (flight_of (closed x) ≡ flight_of x)
closed_flown x = by (is_held x && not (is_owed x))
  where
    by : (b : Bool) → (flight_of (if b then over x else x) ≡ x.committed) ⊎ (flight_of (if b then over x else x) ≡ flight_of x)
    by true = inl refl
    by false = inr refl

-- an update as it was, with this wanted, that may end
module _ (due free : Pp → Bool) (old new : Stored) (x : Updates) (is : seen new ≡ closed x)
    (committed : (x.committed ≡ old.committed) ⊎ (x.committed ≡ flown old)) (flies : flight_of x ≡ flown old)
    (more : (p : Pp) → calls_stale new.wanted p ≡ true → (calls_stale old.wanted p ≡ true) ⊎ (due p ≡ true)) (less : (p : Pp) → free p ≡ false → calls_stale old.wanted p ≡ true → calls_stale new.wanted p ≡ true)
    (missing : (disk : ℕ) → calls_missing old.wanted disk ≡ true → calls_missing new.wanted disk ≡ true) where
  committed_is : new.committed ≡ x.committed
  committed_is = ap (λ (u : Updates). u.committed) is ∙ closed_committed x

  pub closed_passes : Passes due free old new
  closed_passes = record { committed = by committed; flown_is = of (closed_flown x) committed; more = more; less = less; missing = missing }
    where
      by : (x.committed ≡ old.committed) ⊎ (x.committed ≡ flown old) → (new.committed ≡ old.committed) ⊎ (new.committed ≡ flown old)
      by (inl same) = inl (committed_is ∙ same)
      by (inr same) = inr (committed_is ∙ same)

      here : flown new ≡ flight_of (closed x)
      here = ap flight_of is

      of : (flight_of (closed x) ≡ x.committed) ⊎ (flight_of (closed x) ≡ flight_of x) → (x.committed ≡ old.committed) ⊎ (x.committed ≡ flown old) → (flown new ≡ old.committed) ⊎ (flown new ≡ flown old) ⊎ (flown new ≡ old.wanted)
      of (inl ended) (inl same) = inl (here ∙ ended ∙ same)
      of (inl ended) (inr same) = inr (inl (here ∙ ended ∙ same))
      of (inr still) c = inr (inl (here ∙ still ∙ flies))

-- ---- something is wanted

pub dirty_passes : (due free : Pp → Bool) (lv : ℕ) (old new : Stored) → WantsDirty lv old new → Passes due free old new
dirty_passes due free lv old new wants = closed_passes due free old new (record (seen old) { wanted = new.wanted }) wants.rest (inl refl) refl
    (λ p e. inl (sym (wants.wants.stale p) ∙ e)) (λ p kept e. wants.wants.stale p ∙ e) (λ disk e. wants.wants.missing disk ∙ e)

pub missing_on : (gone : ℕ) (old new : Status) → BecomesMissing gone old new → (disk : ℕ) → calls_missing old disk ≡ true → calls_missing new disk ≡ true
missing_on gone old new becomes disk e = becomes.missing disk ∙ by (disk == gone)
  where
    by : (b : Bool) → (if b then true else calls_missing old disk) ≡ true
    by true = refl
    by false = e

pub lost_passes : (due free : Pp → Bool) (disk : ℕ) (old new : Stored) → LosesDisk disk old new → Passes due free old new
lost_passes due free disk old new loses = closed_passes due free old new (record (seen old) { wanted = new.wanted; unstarted = given_up (change.Missing disk) (seen old).unstarted }) loses.rest (inl refl) refl
    (λ p e. inl (sym (loses.wants.stale p) ∙ e)) (λ p kept e. loses.wants.stale p ∙ e) (missing_on disk old.wanted new.wanted loses.wants)

and_not : (a b : Bool) → b ≡ false → a ≡ true → a && not b ≡ true
and_not a true i j = not_so (sym i)
and_not true false i j = refl
and_not false false i j = not_so j

pub fresh_passes : (due : Pp → Bool) (q : Pp) (old new : Stored) → WantsFresh q old new → Passes due (λ p. is_pp p q) old new
fresh_passes due q old new wants = closed_passes due (λ p. is_pp p q) old new (record (seen old) { wanted = new.wanted }) wants.rest (inl refl) refl
    (λ p e. inl (both (calls_stale old.wanted p) (not (is_pp p q)) (sym (wants.wants.stale p) ∙ e)).0) (λ p kept e. wants.wants.stale p ∙ and_not (calls_stale old.wanted p) (is_pp p q) kept e) (λ disk e. wants.wants.missing disk ∙ e)

pub stale_passes : (due free : Pp → Bool) (old new : Stored) → WantsStale due old new → Passes due free old new
stale_passes due free old new wants = record {
  committed = inl (ap (λ (u : Updates). u.committed) wants.rest);
  flown_is = inr (inl (ap flight_of wants.rest));
  more = λ p e. by (calls_stale old.wanted p) (due p) (sym (wants.stale p) ∙ e);
  less = λ p kept e. wants.stale p ∙ ap (λ b. b || due p) e;
  missing = λ disk e. wants.missing disk ∙ e;
}
  where
    by : (a b : Bool) → a || b ≡ true → (a ≡ true) ⊎ (b ≡ true)
    by true b e = inl refl
    by false b e = inr e

-- ---- an update begins, and ends

pub begun_passes : (due free : Pp → Bool) (disk : ℕ) (old begun new : Stored) → PutsInFlight old begun → seen new ≡ with_start (seen begun) (Some disk) → Passes due free old new
begun_passes due free disk old begun new (inl same) starts = same_started old begun new same.1 starts
  where
    same_started : (old begun new : Stored) → begun ≡ old → seen new ≡ with_start (seen begun) (Some disk) → Passes due free old new
    same_started old begun new is starts = record {
      committed = inl (ap (λ (u : Updates). u.committed) starts ∙ ap (λ (s : Stored). s.committed) is);
      flown_is = inr (inl (ap flight_of starts ∙ ap flown is));
      more = λ p e. inl (sym (ap (λ (u : Updates). calls_stale u.wanted p) starts ∙ ap (λ (s : Stored). calls_stale s.wanted p) is) ∙ e);
      less = λ p kept e. ap (λ (u : Updates). calls_stale u.wanted p) starts ∙ ap (λ (s : Stored). calls_stale s.wanted p) is ∙ e;
      missing = λ d e. ap (λ (u : Updates). calls_missing u.wanted d) starts ∙ ap (λ (s : Stored). calls_missing s.wanted d) is ∙ e;
    }
begun_passes due free disk old begun new (inr more) starts = record {
  committed = inl (ap (λ (u : Updates). u.committed) starts ∙ ap (λ (u : Updates). u.committed) more.1);
  flown_is = inr (inr (ap flight_of starts ∙ ap flight_of more.1));
  more = λ p e. inl (sym (ap (λ (u : Updates). calls_stale u.wanted p) starts ∙ ap (λ (u : Updates). calls_stale u.wanted p) more.1) ∙ e);
  less = λ p kept e. ap (λ (u : Updates). calls_stale u.wanted p) starts ∙ ap (λ (u : Updates). calls_stale u.wanted p) more.1 ∙ e;
  missing = λ d e. ap (λ (u : Updates). calls_missing u.wanted d) starts ∙ ap (λ (u : Updates). calls_missing u.wanted d) more.1 ∙ e;
}

module _ (due free : Pp → Bool) (disk : ℕ) (old new : Stored) where
  abbrev ended : Bool → Bool → Updates
  ended ok commits = if commits then with_commit (with_end (seen old) disk ok new.wanted) else with_end (seen old) disk ok new.wanted

  twice : (m : Option Status) (c : Status) → unwrap_or m (unwrap_or m c) ≡ unwrap_or m c
  twice None c = refl
  twice (Some t) c = refl

  committed_so : (ok commits : Bool) → ((ended ok commits).committed ≡ old.committed) ⊎ ((ended ok commits).committed ≡ flown old)
  committed_so true true = inr refl
  committed_so true false = inl refl
  committed_so false true = inr refl
  committed_so false false = inl refl

  flies_so : (ok commits : Bool) → flight_of (ended ok commits) ≡ flown old
  flies_so true true = twice old.in_flight old.committed
  flies_so true false = refl
  flies_so false true = twice old.in_flight old.committed
  flies_so false false = refl

  pub ended_passes : (ok : Bool) → WantsAtEnd disk ok old.wanted new.wanted → seen new ≡ after_end (seen old) disk ok new.wanted → Passes due free old new
  ended_passes true same is = closed_passes due free old new (ended true commits) is (committed_so true commits) (flies_so true commits)
      (λ p e. inl (sym (ap (λ (s : Status). calls_stale s p) same) ∙ e)) (λ p kept e. ap (λ (s : Status). calls_stale s p) same ∙ e) (λ d e. ap (λ (s : Status). calls_missing s d) same ∙ e)
    where
      commits : Bool
      commits = comes_held (seen old) (with_end (seen old) disk true new.wanted)
  ended_passes false loses is = closed_passes due free old new (ended false commits) is (committed_so false commits) (flies_so false commits)
      (λ p e. inl (sym (loses.stale p) ∙ e)) (λ p kept e. loses.stale p ∙ e) (missing_on disk old.wanted new.wanted loses)
    where
      commits : Bool
      commits = comes_held (seen old) (with_end (seen old) disk false new.wanted)

-- ---- the power is off

pub dark_passes : (due free : Pp → Bool) (old new : Stored) → SaysTheSame old new → Passes due free old new
dark_passes due free old new says = record {
  committed = inl says.committed;
  flown_is = by says.in_flight;
  more = λ p e. inl (sym (ap (λ (s : Status). calls_stale s p) says.wanted) ∙ e);
  less = λ p kept e. ap (λ (s : Status). calls_stale s p) says.wanted ∙ e;
  missing = λ d e. ap (λ (s : Status). calls_missing s d) says.wanted ∙ e;
}
  where
    by : (new.in_flight ≡ old.in_flight) ⊎ ((old.in_flight ≡ None) × (new.in_flight ≡ Some old.wanted)) → (flown new ≡ old.committed) ⊎ (flown new ≡ flown old) ⊎ (flown new ≡ old.wanted)
    by (inl same) = inr (inl (ap (λ m. unwrap_or m new.committed) same ∙ ap (unwrap_or old.in_flight) says.committed))
    by (inr flies) = inr (inr (ap (λ m. unwrap_or m new.committed) flies.1))
