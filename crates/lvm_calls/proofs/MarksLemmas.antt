-- Marks one after another.
use Rattle.std.proofs.Common.{◌≡◌, ⊎_elim, ◌==◌, ◌<◌, ℕ, zero, suc, ◌+◌, ◌-◌, length, take, drop, get_or, IsTrue, Bool, true, false, ◌&&◌, ◌||◌, not, List, [], ◌∷◌, ◌++◌, Option, Some, None, if◌then◌else◌, filter, refl, sym, ◌∙◌, ap, subst, arith}
use Rattle.std.proofs.lemmas.Grind.{common_steps}
use Rattle.std.specs.List.{list_any}
use Rattle.lvm_num.specs.declared.place.Pp.{Pp}
use Rattle.lvm_num.specs.declared.status.Status.{Status}
use Rattle.lvm_num.specs.Descriptor.{is_member, is_pp}
use Rattle.lvm_num.specs.Status.{calls_stale, calls_missing}
use Rattle.lvm_status.specs.Table.{SameMissing}
use Rattle.lvm_status.proofs.MarkingLemmas.{any_disk}
use Rattle.lvm_status.specs.declared.change.Change.TheVariants as change
use Rattle.lvm_status.specs.Update.{Updates, Stored, seen, is_held, is_owed}
use Rattle.lvm_status.specs.Calls.{IsMarkable, with_wanted}
use Rattle.lvm_status.specs.Runs.{IsSoundStatus}
use Rattle.lvm_path.specs.declared.target.Target.{Target}
use Rattle.lvm_session.specs.Judging.{pps_of}
use Rattle.lvm_session.specs.Marks.{WantsStale, HasSameRows, is_among}
use Rattle.lvm_calls.specs.Due.{is_meant, without_place}
use Rattle.std.specs.Prelude.{All}
use Rattle.std.proofs.lemmas.List.{length-drop, take_all}
use Rattle.std.proofs.lemmas.List.Elements.{All-drop}

-- an update that is sound doesn't end by what is wanted
never_held : (u : Updates) → u.in_flight ≡ None → IsSoundStatus u → is_held u ≡ false
never_held u idle sound = by_test (is_held u) refl
  where
    by_test : (b : Bool) → is_held u ≡ b → b ≡ false
    by_test false is = refl
    by_test true is = absurd (cc (sound.held is, idle))

open_still : (u : Updates) → IsSoundStatus u → (is_held u && not (is_owed u)) ≡ false
open_still u sound = by_flight u.in_flight refl
  where
    none_owed : (a b : Bool) → a ≡ false → (a && not b) ≡ false
    none_owed a b is = ap (λ (x : Bool). x && not b) is

    all_owed : (a b : Bool) → b ≡ true → (a && not b) ≡ false
    all_owed true b is = ap not is
    all_owed false b is = refl

    by_flight : (o : Option Status) → u.in_flight ≡ o → (is_held u && not (is_owed u)) ≡ false
    by_flight None is = none_owed (is_held u) (is_owed u) (never_held u is sound)
    by_flight (Some t) is = ⊎_elim (λ owed. all_owed (is_held u) (is_owed u) owed) (λ held. none_owed (is_held u) (is_owed u) held) (sound.open_still t is)

pub mark_stays : (old : Stored) (pp : Pp) (wanted : Status) → IsSoundStatus (seen old) → with_wanted (seen old) (change.Stale pp) wanted ≡ record (seen old) { wanted = wanted }
mark_stays old pp wanted sound = ap (λ (b : Bool). if b then record (seen old) { wanted = wanted; in_flight = None; unstarted = Rattle.lvm_status.specs.Update.no_disks; started = Rattle.lvm_status.specs.Update.no_disks; written = Rattle.lvm_status.specs.Update.no_disks; failed = Rattle.lvm_status.specs.Update.no_disks } else record (seen old) { wanted = wanted }) (open_still (seen old) sound)

-- nothing is marked where it was so
pub already : (due : Pp → Bool) (old : Stored) → ((p : Pp) → due p ≡ true → calls_stale old.wanted p ≡ true) → WantsStale due old old
already due old all = record { rest = refl; rows = record { id = refl; big = refl; disks = refl }; stale = λ p. sym (by_test (calls_stale old.wanted p) (due p) (all p)); missing = λ d. refl; dirty = refl; same = λ none. refl }
  where
    by_test : (a b : Bool) → (b ≡ true → a ≡ true) → (a || b) ≡ a
    by_test true b its = refl
    by_test false true its = sym (its refl)
    by_test false false its = refl

-- one partition after what was marked before
pub then_marked : (first second : Pp → Bool) (a b c : Stored) → WantsStale first a b → WantsStale second b c → WantsStale (λ p. first p || second p) a c
then_marked first second a b c one two = record {
  rest = two.rest ∙ ap (λ (u : Updates). record u { wanted = c.wanted }) one.rest;
  rows = record { id = two.rows.id ∙ one.rows.id; big = two.rows.big ∙ one.rows.big; disks = two.rows.disks ∙ one.rows.disks };
  stale = λ p. two.stale p ∙ ap (λ x. x || second p) (one.stale p) ∙ grouped (calls_stale a.wanted p) (first p) (second p);
  missing = λ d. two.missing d ∙ one.missing d;
  dirty = two.dirty ∙ one.dirty;
  same = λ all. let b_is : b ≡ a = one.same (λ p is. all p (left (first p) (second p) is)) in
      two.same (λ p is. subst (λ (s : Stored). calls_stale s.wanted p ≡ true) (sym b_is) (all p (right (first p) (second p) is))) ∙ b_is;
}
  where
    grouped : (x y z : Bool) → ((x || y) || z) ≡ (x || (y || z))
    grouped true y z = refl
    grouped false y z = refl

    left : (y z : Bool) → y ≡ true → (y || z) ≡ true
    left y z is = ap (λ t. t || z) is

    right : (y z : Bool) → z ≡ true → (y || z) ≡ true
    right true z is = refl
    right false z is = is

pub same_due : (first second : Pp → Bool) (a b : Stored) → ((p : Pp) → first p ≡ second p) → WantsStale first a b → WantsStale second a b
same_due first second a b same marks = record {
  rest = marks.rest;
  rows = marks.rows;
  stale = λ p. marks.stale p ∙ ap (λ x. calls_stale a.wanted p || x) (same p);
  missing = marks.missing;
  dirty = marks.dirty;
  same = λ all. marks.same (λ p is. all p (sym (same p) ∙ is));
}

-- it is this partition
pub same_pp : (s : Status) (p q : Pp) → is_pp p q ≡ true → calls_stale s q ≡ true → calls_stale s p ≡ true
same_pp s p q is stale = subst (λ (x : Pp). calls_stale s x ≡ true) (sym (pps_are p q is)) stale
  where
    pps_are : (p q : Pp) → is_pp p q ≡ true → p ≡ q
    pps_are p q is = grind (arith, common_steps, is)

-- ---- what marks keep

pub markable_on : (old new : Status) (p : Pp) → HasSameRows old new → IsMarkable old p → IsMarkable new p
markable_on old new p rows may = record {
  row = subst IsTrue (any_disk old.rows p.disk ∙ ap (λ ds. list_any (λ n. n == p.disk) ds) (sym rows.disks) ∙ sym (any_disk new.rows p.disk)) may.row;
  partition = may.partition;
}

pub sound_on : (u : Updates) (wanted : Status) → SameMissing u.wanted wanted → IsSoundStatus u → IsSoundStatus (record u { wanted = wanted })
sound_on u wanted missing sound = record {
  unstarted = λ d is. let it = sound.unstarted d is in (there d ∙ it.0, it.1, it.2, it.3);
  started = sound.started;
  failed = λ d is. missing d ∙ sound.failed d is;
  each = λ t flies d is. sound.each t flies d (sym (there d) ∙ is);
  idle = sound.idle;
  held = sound.held;
  open_still = sound.open_still;
  committed_missing = λ d is. missing d ∙ sound.committed_missing d is;
  in_flight_missing = λ t flies d is. missing d ∙ sound.in_flight_missing t flies d is;
}
  where
    there : (d : ℕ) → (is_member u.group d && not (calls_missing wanted d)) ≡ (is_member u.group d && not (calls_missing u.wanted d))
    there d = ap (λ t. is_member u.group d && not t) (missing d)

pub sound_after : (due : Pp → Bool) (old new : Stored) → WantsStale due old new → IsSoundStatus (seen old) → IsSoundStatus (seen new)
sound_after due old new marks sound = subst IsSoundStatus (sym marks.rest) (sound_on (seen old) new.wanted marks.missing sound)

-- ---- one target more

module _ (f : Target → Bool) (p : Pp) where
  one_front : (t : Target) (more : List Target) → is_among (pps_of (filter f (t ∷ more))) p ≡ (is_among (pps_of (filter f (t ∷ []))) p || is_among (pps_of (filter f more)) p)
  one_front t more = by_test (f t)
    where
      by_test : (b : Bool) → is_among (pps_of (if b then t ∷ filter f more else filter f more)) p ≡ (is_among (pps_of (if b then t ∷ [] else [])) p || is_among (pps_of (filter f more)) p)
      by_test true = group (is_pp p t.pp) (is_among (pps_of (filter f more)) p)
        where
          group : (a b : Bool) → (a || b) ≡ ((a || false) || b)
          group true b = refl
          group false b = refl
      by_test false = refl

  pub one_more_target : (ts : List Target) (i : ℕ) (d : Target) → i < length ts
      → (is_among (pps_of (filter f (take i ts))) p || is_among (pps_of (filter f (get_or ts i d ∷ []))) p) ≡ is_among (pps_of (filter f (take (suc i) ts))) p
  one_more_target [] i d less = absurd (omega (arith, less))
  one_more_target (t ∷ ts) zero d less = sym (one_front t [] ∙ swap (is_among (pps_of (filter f (t ∷ []))) p))
    where
      swap : (a : Bool) → (a || false) ≡ (false || a)
      swap true = refl
      swap false = refl
  one_more_target (t ∷ ts) (suc i) d less =
      ap (λ x. x || is_among (pps_of (filter f (get_or ts i d ∷ []))) p) (one_front t (take i ts))
      ∙ group (is_among (pps_of (filter f (t ∷ []))) p) (is_among (pps_of (filter f (take i ts))) p) (is_among (pps_of (filter f (get_or ts i d ∷ []))) p)
      ∙ ap (λ x. is_among (pps_of (filter f (t ∷ []))) p || x) (one_more_target ts i d (omega (arith, less)))
      ∙ sym (one_front t (take (suc i) ts))
    where
      group : (a b c : Bool) → ((a || b) || c) ≡ (a || (b || c))
      group true b c = refl
      group false b c = refl

-- ---- all but one

all_meant : (ts : List Target) → filter (is_meant true) ts ≡ ts
all_meant [] = refl
all_meant (t ∷ ts) = ap (λ xs. t ∷ xs) (all_meant ts)

among_both : (p : Pp) (xs ys : List Target) → (is_among (pps_of xs) p || is_among (pps_of ys) p) ≡ is_among (pps_of (xs ++ ys)) p
among_both p [] ys = refl
among_both p (x ∷ xs) ys = group (is_pp p x.pp) (is_among (pps_of xs) p) (is_among (pps_of ys) p) ∙ ap (λ t. is_pp p x.pp || t) (among_both p xs ys)
  where
    group : (a b c : Bool) → ((a || b) || c) ≡ (a || (b || c))
    group true b c = refl
    group false b c = refl

pub all_marked : (ts : List Target) (sure : Option ℕ) (old new : Stored) → sure ≡ None → WantsStale (is_among (pps_of (filter (is_meant true) ts))) old new → WantsStale (is_among (pps_of (without_place sure ts))) old new
all_marked ts sure old new none marks = subst (λ (s : Option ℕ). WantsStale (is_among (pps_of (without_place s ts))) old new) (sym none) (subst (λ (xs : List Target). WantsStale (is_among (pps_of xs)) old new) (all_meant ts) marks)

whole_tail : (ts : List Target) (n : ℕ) → take (length ts - n) (drop n ts) ≡ drop n ts
whole_tail ts n = let long = length-drop n ts in take_all (length ts - n) (drop n ts) (omega (arith, long))

pub others_marked : (ts : List Target) (sure : Option ℕ) (k : ℕ) (a b c : Stored) → sure ≡ Some k
    → WantsStale (is_among (pps_of (filter (is_meant true) (take k ts)))) a b → WantsStale (is_among (pps_of (filter (is_meant true) (take (length ts - (k + 1)) (drop (k + 1) ts))))) b c → WantsStale (is_among (pps_of (without_place sure ts))) a c
others_marked ts sure k a b c some one two =
    let next : k + 1 ≡ suc k = omega arith in
    let first = subst (λ (xs : List Target). WantsStale (is_among (pps_of xs)) a b) (all_meant (take k ts)) one in
    let second = subst (λ n. WantsStale (is_among (pps_of (drop n ts))) b c) next (subst (λ (xs : List Target). WantsStale (is_among (pps_of xs)) b c) (all_meant (take (length ts - (k + 1)) (drop (k + 1) ts)) ∙ whole_tail ts (k + 1)) two) in
    subst (λ (s : Option ℕ). WantsStale (is_among (pps_of (without_place s ts))) a c) (sym some)
    (same_due _ _ a c (λ p. among_both p (take k ts) (drop (suc k) ts)) (then_marked _ _ a b c first second))

pub markable_more : (old new : Stored) (due : Pp → Bool) (ts : List Target) (n : ℕ) → WantsStale due old new → All (λ (t : Target). IsMarkable old.wanted t.pp) ts → All (λ (t : Target). IsMarkable new.wanted t.pp) (take (length ts - n) (drop n ts))
markable_more old new due ts n marks all =
    subst (All (λ (t : Target). IsMarkable new.wanted t.pp)) (sym (whole_tail ts n)) (λ k d less. markable_on old.wanted new.wanted _ marks.rows (All-drop (λ (t : Target). IsMarkable old.wanted t.pp) n ts all k d less))
