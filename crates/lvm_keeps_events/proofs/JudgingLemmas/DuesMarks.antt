-- Which targets of a write are due to be stale once its transfers have all ended.
use Rattle.std.proofs.Common.{◌&&◌, ◌<◌, ◌==◌, [], ap, arith, Bool, false, filter, if◌then◌else◌, inl, inr, length, List, nat_le, not, refl, slice_get, Some, suc, sym, true, zero, ◌||◌, ℕ, ◌∙◌, ◌∷◌, ◌≡◌, ◌≢◌, ◌≤◌, ◌⊎◌}
use Rattle.std.proofs.lemmas.Bool.{eq-eqb, le-leb}
use Rattle.std.specs.List.{list_any, AllByRecursion}
use Rattle.std.specs.Prelude.{AllPairs, count_by, slice_index_or}
use Rattle.std.proofs.lemmas.Map.Keys.{any_passes_from_place}
use Rattle.lvm_num.specs.declared.place.Pp.{Pp}
use Rattle.lvm_sched.specs.declared.writes.TargetState.{TargetState}
use Rattle.lvm_sched.specs.declared.writes.TargetState.TheVariants as stage
use Rattle.lvm_num.specs.Descriptor.{is_pp}
use Rattle.lvm_path.specs.Asks.{is_write}
use Rattle.lvm_path.specs.Targets.{are_over, is_done, is_failed, is_over as is_ended}
use Rattle.lvm_path.specs.declared.request.Request.{Request}
use Rattle.lvm_path.specs.declared.target.Target.{Target}
use Rattle.lvm_session.specs.Judging.{all_but_sure, is_kept, is_sure, pps_of, is_sure_at}
use Rattle.lvm_session.specs.State.{Core}
use Rattle.lvm_session.specs.Marks.{due_of, due_targets, is_among}
use Rattle.lvm_session.specs.Requests.{is_failed_and_sure, is_wanted_due, will_be_kept, IsMarkedDestination}
use Rattle.lvm_session.specs.Sound.{count_if}
use Rattle.lvm_keeps.proofs.Lists.{count_cons}
use Rattle.lvm_keeps.proofs.Small.{both}
use Rattle.lvm_keeps_events.proofs.Lists.{all_and, all_true_at, by_places, none_of_zero, or_true}
pub use Rattle.lvm_num.proofs.DescriptorLemmas.Partitions.{one_partition as pp_same}
use Rattle.lvm_num.proofs.Booleans.{not_so}

-- ---- targets of partitions

-- a target on this partition
pub record IsOn (ts : List Target) (p : Pp) : Type 0 where
  pub place : ℕ
  pub target : Target
  pub there : slice_get ts place ≡ Some target
  pub pp_is : p ≡ target.pp

-- one behind it
abbrev later : (x : Target) (ts : List Target) (p : Pp) → IsOn ts p → IsOn (x ∷ ts) p
later x ts p it = record { place = suc it.place; target = it.target; there = it.there; pp_is = it.pp_is }

pub on_one : (ts : List Target) (p : Pp) → is_among (pps_of ts) p ≡ true → IsOn ts p
on_one [] p e = not_so e
on_one (t ∷ ts) p e = by (is_pp p t.pp) refl (λ f. on_one ts p f) e
  where
    by : (b : Bool) → is_pp p t.pp ≡ b → (is_among (pps_of ts) p ≡ true → IsOn ts p) → b || is_among (pps_of ts) p ≡ true → IsOn (t ∷ ts) p
    by true is rest f = record { place = 0; target = t; there = refl; pp_is = pp_same p t.pp is }
    by false is rest f = later t ts p (rest f)

pub own_pp : (p : Pp) → is_pp p p ≡ true
own_pp p = ap (λ b. b && p.pp == p.pp) (eq-eqb p.disk p.disk refl) ∙ eq-eqb p.pp p.pp refl

pub among_at : (ts : List Target) (k : ℕ) (t : Target) → slice_get ts k ≡ Some t → is_among (pps_of ts) t.pp ≡ true
among_at [] k t there = absurd (cc there)
among_at (x ∷ ts) zero t there = let same : x ≡ t = cc there in ap (λ (y : Target). is_pp t.pp y.pp || is_among (pps_of ts) t.pp) same ∙ ap (λ b. b || is_among (pps_of ts) t.pp) (own_pp t.pp)
among_at (x ∷ ts) (suc k) t there = ap (λ b. is_pp t.pp x.pp || b) (among_at ts k t there) ∙ or_true (is_pp t.pp x.pp)

pub among_get : (ps : List Pp) (k : ℕ) (p : Pp) → slice_get ps k ≡ Some p → is_among ps p ≡ true
among_get [] k p there = absurd (cc there)
among_get (q ∷ ps) zero p there = let same : q ≡ p = cc there in ap (λ (y : Pp). is_pp p y || is_among ps p) same ∙ ap (λ b. b || is_among ps p) (own_pp p)
among_get (q ∷ ps) (suc k) p there = ap (λ b. is_pp p q || b) (among_get ps k p there) ∙ or_true (is_pp p q)

-- the first has another partition than those behind it
apart_head : (t : Target) (ts : List Target) → AllPairs (λ (a b : Target). a.pp ≢ b.pp) (t ∷ ts) → is_among (pps_of ts) t.pp ≡ false
apart_head t ts differ = none ts (λ j low e. differ 0 (suc j) t (omega arith) (omega (arith, low)) e)
  where
    none : (us : List Target) → ((j : ℕ) → j < length us → t.pp ≡ (slice_index_or us j t).pp → ⊥) → is_among (pps_of us) t.pp ≡ false
    none [] far = refl
    none (u ∷ us) far = by (is_pp t.pp u.pp) refl (none us (λ j low e. far (suc j) (omega (arith, low)) e))
      where
        by : (b : Bool) → is_pp t.pp u.pp ≡ b → is_among (pps_of us) t.pp ≡ false → b || is_among (pps_of us) t.pp ≡ false
        by true is rest = absurd (far 0 (omega arith) (pp_same t.pp u.pp is))
        by false is rest = rest

behind_head : (t : Target) (ts : List Target) → AllPairs (λ (a b : Target). a.pp ≢ b.pp) (t ∷ ts) → AllPairs (λ (a b : Target). a.pp ≢ b.pp) ts
behind_head t ts differ = λ i j d less high. differ (suc i) (suc j) d (omega (arith, less)) (omega (arith, high))

-- none of a list stands on a partition on which none of a longer one does
none_filtered : (f : Target → Bool) (ts : List Target) (p : Pp) → is_among (pps_of ts) p ≡ false → is_among (pps_of (filter f ts)) p ≡ false
none_filtered f [] p e = refl
none_filtered f (t ∷ ts) p e = by (is_pp p t.pp) (f t) refl (λ g. none_filtered f ts p g) e
  where
    by : (a b : Bool) → is_pp p t.pp ≡ a → (is_among (pps_of ts) p ≡ false → is_among (pps_of (filter f ts)) p ≡ false) → a || is_among (pps_of ts) p ≡ false → is_among (pps_of (if b then t ∷ filter f ts else filter f ts)) p ≡ false
    by true b is rest g = not_so (sym g)
    by false true is rest g = ap (λ c. c || is_among (pps_of (filter f ts)) p) is ∙ rest g
    by false false is rest g = rest g

-- partitions on one of which no target stands are others
other_pp : (ts : List Target) (t u : Target) (k : ℕ) → slice_get ts k ≡ Some u → is_among (pps_of ts) t.pp ≡ false → is_pp u.pp t.pp ≡ false
other_pp ts t u k there none = by (is_pp u.pp t.pp) refl
  where
    by : (b : Bool) → is_pp u.pp t.pp ≡ b → b ≡ false
    by false is = refl
    by true is = absurd (let no : true ≡ false = sym (among_at ts k u there) ∙ ap (is_among (pps_of ts)) (pp_same u.pp t.pp is) ∙ none in cc no)

-- one that is there, as a test asks, and on whose partition no one of a list stands
pub record IsSpared (t : Target → Bool) (ts others : List Target) : Type 0 where
  pub place : ℕ
  pub target : Target
  pub there : slice_get ts place ≡ Some target
  pub passes : t target ≡ true
  pub apart : is_among (pps_of others) target.pp ≡ false

-- ---- those that failed, beside one that succeeded

abbrev pub has_failed : Target → Bool
has_failed t = is_failed t.state

done_not_failed : (st : TargetState) → is_done st ≡ true → is_failed st ≡ false
done_not_failed stage.Waiting e = refl
done_not_failed stage.Flying e = refl
done_not_failed stage.Done e = refl
done_not_failed stage.Failed e = not_so e

module _ (core : Core) where
  abbrev pub is_sure_done : Target → Bool
  is_sure_done t = is_done t.state && is_sure_at core t

  pub kept_spared : (ts : List Target) → AllPairs (λ (a b : Target). a.pp ≢ b.pp) ts → list_any is_sure_done ts ≡ true → IsSpared is_sure_done ts (filter has_failed ts)
  kept_spared [] differ e = not_so e
  kept_spared (t ∷ ts) differ e = by (is_sure_done t) refl (λ f. kept_spared ts (behind_head t ts differ) f) e
    where
      here : is_sure_done t ≡ true → (b : Bool) → is_failed t.state ≡ b → IsSpared is_sure_done (t ∷ ts) (if b then t ∷ filter has_failed ts else filter has_failed ts)
      here is true failed = not_so (sym (done_not_failed t.state (both (is_done t.state) (is_sure_at core t) is).0) ∙ failed)
      here is false failed = record { place = 0; target = t; there = refl; passes = is; apart = none_filtered has_failed ts t.pp (apart_head t ts differ) }

      beside : IsSpared is_sure_done ts (filter has_failed ts) → (b : Bool) → IsSpared is_sure_done (t ∷ ts) (if b then t ∷ filter has_failed ts else filter has_failed ts)
      beside it true = record {
        place = suc it.place;
        target = it.target;
        there = it.there;
        passes = it.passes;
        apart = ap (λ c. c || is_among (pps_of (filter has_failed ts)) it.target.pp) (other_pp ts t it.target it.place it.there (apart_head t ts differ)) ∙ it.apart;
      }
      beside it false = record { place = suc it.place; target = it.target; there = it.there; passes = it.passes; apart = it.apart }

      by : (b : Bool) → is_sure_done t ≡ b → (list_any is_sure_done ts ≡ true → IsSpared is_sure_done ts (filter has_failed ts)) → b || list_any is_sure_done ts ≡ true → IsSpared is_sure_done (t ∷ ts) (filter has_failed (t ∷ ts))
      by true is rest f = here is (is_failed t.state) refl
      by false is rest f = beside (rest f) (is_failed t.state)

  pub failed_one : (ts : List Target) (p : Pp) → is_among (pps_of (filter has_failed ts)) p ≡ true → (it : IsOn ts p) × (is_failed it.target.state ≡ true)
  failed_one [] p e = not_so e
  failed_one (t ∷ ts) p e = by (is_failed t.state) refl (λ f. failed_one ts p f) e
    where
      here : is_failed t.state ≡ true → (b : Bool) → is_pp p t.pp ≡ b → (is_among (pps_of (filter has_failed ts)) p ≡ true → (it : IsOn ts p) × (is_failed it.target.state ≡ true))
          → b || is_among (pps_of (filter has_failed ts)) p ≡ true → (it : IsOn (t ∷ ts) p) × (is_failed it.target.state ≡ true)
      here failed true is rest f = (record { place = 0; target = t; there = refl; pp_is = pp_same p t.pp is }, failed)
      here failed false is rest f = let more = rest f in (later t ts p more.0, more.1)

      by : (b : Bool) → is_failed t.state ≡ b → (is_among (pps_of (filter has_failed ts)) p ≡ true → (it : IsOn ts p) × (is_failed it.target.state ≡ true))
          → is_among (pps_of (if b then t ∷ filter has_failed ts else filter has_failed ts)) p ≡ true → (it : IsOn (t ∷ ts) p) × (is_failed it.target.state ≡ true)
      by true is rest f = here is (is_pp p t.pp) refl rest f
      by false is rest f = let more = rest f in (later t ts p more.0, more.1)

  pub failed_among : (ts : List Target) (k : ℕ) (t : Target) → slice_get ts k ≡ Some t → is_failed t.state ≡ true → is_among (pps_of (filter has_failed ts)) t.pp ≡ true
  failed_among [] k t there e = absurd (cc there)
  failed_among (x ∷ ts) zero t there e =
      let same : x ≡ t = cc there in
      ap (λ b. is_among (pps_of (if b then x ∷ filter has_failed ts else filter has_failed ts)) t.pp) (ap has_failed same ∙ e) ∙ ap (λ (y : Target). is_pp t.pp y.pp || is_among (pps_of (filter has_failed ts)) t.pp) same ∙ ap (λ b. b || is_among (pps_of (filter has_failed ts)) t.pp) (own_pp t.pp)
  failed_among (x ∷ ts) (suc k) t there e = by (is_failed x.state) (failed_among ts k t there e)
    where
      by : (b : Bool) → is_among (pps_of (filter has_failed ts)) t.pp ≡ true → is_among (pps_of (if b then x ∷ filter has_failed ts else filter has_failed ts)) t.pp ≡ true
      by true rest = ap (λ c. is_pp t.pp x.pp || c) rest ∙ or_true (is_pp t.pp x.pp)
      by false rest = rest

  -- ---- all but the first sure one

  abbrev pub is_sure_target : Target → Bool
  is_sure_target t = is_sure_at core t

  pub sure_spared : (ts : List Target) → AllPairs (λ (a b : Target). a.pp ≢ b.pp) ts → list_any is_sure_target ts ≡ true → IsSpared is_sure_target ts (all_but_sure core ts)
  sure_spared [] differ e = not_so e
  sure_spared (t ∷ ts) differ e = by (is_sure_at core t) refl (λ f. sure_spared ts (behind_head t ts differ) f) e
    where
      by : (b : Bool) → is_sure_at core t ≡ b → (list_any is_sure_target ts ≡ true → IsSpared is_sure_target ts (all_but_sure core ts)) → b || list_any is_sure_target ts ≡ true
          → IsSpared is_sure_target (t ∷ ts) (if b then ts else t ∷ all_but_sure core ts)
      by true is rest f = record { place = 0; target = t; there = refl; passes = is; apart = apart_head t ts differ }
      by false is rest f = let it = rest f in record {
        place = suc it.place;
        target = it.target;
        there = it.there;
        passes = it.passes;
        apart = ap (λ c. c || is_among (pps_of (all_but_sure core ts)) it.target.pp) (other_pp ts t it.target it.place it.there (apart_head t ts differ)) ∙ it.apart;
      }

  pub left_one : (ts : List Target) (p : Pp) → is_among (pps_of (all_but_sure core ts)) p ≡ true → IsOn ts p
  left_one [] p e = not_so e
  left_one (t ∷ ts) p e = by (is_sure_at core t) (λ f. left_one ts p f) e
    where
      here : (b : Bool) → is_pp p t.pp ≡ b → (is_among (pps_of (all_but_sure core ts)) p ≡ true → IsOn ts p) → b || is_among (pps_of (all_but_sure core ts)) p ≡ true → IsOn (t ∷ ts) p
      here true is rest f = record { place = 0; target = t; there = refl; pp_is = pp_same p t.pp is }
      here false is rest f = later t ts p (rest f)

      by : (b : Bool) → (is_among (pps_of (all_but_sure core ts)) p ≡ true → IsOn ts p) → is_among (pps_of (if b then ts else t ∷ all_but_sure core ts)) p ≡ true → IsOn (t ∷ ts) p
      by true rest f = later t ts p (on_one ts p f)
      by false rest f = here (is_pp p t.pp) refl rest f

  -- one that isn't sure is among them
  pub unsure_among : (ts : List Target) (k : ℕ) (t : Target) → slice_get ts k ≡ Some t → is_sure_at core t ≡ false → is_among (pps_of (all_but_sure core ts)) t.pp ≡ true
  unsure_among [] k t there e = absurd (cc there)
  unsure_among (x ∷ ts) zero t there e =
      let same : x ≡ t = cc there in
      ap (λ (b : Bool). is_among (pps_of (if b then ts else x ∷ all_but_sure core ts)) t.pp) (ap is_sure_target same ∙ e) ∙ ap (λ (y : Target). is_pp t.pp y.pp || is_among (pps_of (all_but_sure core ts)) t.pp) same ∙ ap (λ b. b || is_among (pps_of (all_but_sure core ts)) t.pp) (own_pp t.pp)
  unsure_among (x ∷ ts) (suc k) t there e = by (is_sure_at core x) (unsure_among ts k t there e)
    where
      by : (b : Bool) → is_among (pps_of (all_but_sure core ts)) t.pp ≡ true → is_among (pps_of (if b then ts else x ∷ all_but_sure core ts)) t.pp ≡ true
      by true rest = among_at ts k t there
      by false rest = ap (λ c. is_pp t.pp x.pp || c) rest ∙ or_true (is_pp t.pp x.pp)

  -- ---- what is left where they aren't sure any more

  module _ (after : Core) where
    never_both : (a b : Bool) → count_if (a && (b && false)) ≡ 0
    never_both true true = refl
    never_both true false = refl
    never_both false b = refl

    none_left : (ts : List Target) → ((p : Pp) → is_among (pps_of ts) p ≡ true → is_sure after p ≡ false) → count_by (is_failed_and_sure after) ts ≡ 0
    none_left [] all = refl
    none_left (t ∷ ts) all =
        let more = count_cons (is_failed_and_sure after) t ts in
        let one : count_if (is_failed_and_sure after t) ≡ 0 = ap (λ b. count_if (is_failed t.state && (not t.moves && b))) (all t.pp (ap (λ b. b || is_among (pps_of ts) t.pp) (own_pp t.pp))) ∙ never_both (is_failed t.state) (not t.moves) in
        let rest = none_left ts (λ p e. all p (ap (λ b. is_pp p t.pp || b) e ∙ or_true (is_pp p t.pp))) in
        omega (arith, more, one, rest)

    at_most_one : (b : Bool) → count_if b ≤ 1
    at_most_one true = omega arith
    at_most_one false = omega arith

    pub one_left : (ts : List Target) → ((p : Pp) → is_among (pps_of (all_but_sure core ts)) p ≡ true → is_sure after p ≡ false) → count_by (is_failed_and_sure after) ts ≤ 1
    one_left [] all = omega arith
    one_left (t ∷ ts) all = by (is_sure_at core t) all (λ more. one_left ts more)
      where
        by : (b : Bool) → ((p : Pp) → is_among (pps_of (if b then ts else t ∷ all_but_sure core ts)) p ≡ true → is_sure after p ≡ false)
            → (((p : Pp) → is_among (pps_of (all_but_sure core ts)) p ≡ true → is_sure after p ≡ false) → count_by (is_failed_and_sure after) ts ≤ 1) → count_by (is_failed_and_sure after) (t ∷ ts) ≤ 1
        by true none rest = let more = count_cons (is_failed_and_sure after) t ts in let one = at_most_one (is_failed_and_sure after t) in let others = none_left ts none in omega (arith, more, one, others)
        by false none rest =
            let more = count_cons (is_failed_and_sure after) t ts in
            let one : count_if (is_failed_and_sure after t) ≡ 0 = ap (λ b. count_if (is_failed t.state && (not t.moves && b))) (none t.pp (ap (λ b. b || is_among (pps_of (all_but_sure core ts)) t.pp) (own_pp t.pp))) ∙ never_both (is_failed t.state) (not t.moves) in
            let others = rest (λ p e. none p (ap (λ b. is_pp p t.pp || b) e ∙ or_true (is_pp p t.pp))) in
            omega (arith, more, one, others)

    pub none_failed : (ts : List Target) → ((p : Pp) → is_among (pps_of (filter has_failed ts)) p ≡ true → is_sure after p ≡ false) → count_by (is_failed_and_sure after) ts ≡ 0
    none_failed [] all = refl
    none_failed (t ∷ ts) all = by (is_failed t.state) refl all (λ more. none_failed ts more)
      where
        by : (b : Bool) → is_failed t.state ≡ b → ((p : Pp) → is_among (pps_of (if b then t ∷ filter has_failed ts else filter has_failed ts)) p ≡ true → is_sure after p ≡ false)
            → (((p : Pp) → is_among (pps_of (filter has_failed ts)) p ≡ true → is_sure after p ≡ false) → count_by (is_failed_and_sure after) ts ≡ 0) → count_by (is_failed_and_sure after) (t ∷ ts) ≡ 0
        by true is none rest =
            let more = count_cons (is_failed_and_sure after) t ts in
            let one : count_if (is_failed_and_sure after t) ≡ 0 = ap (λ b. count_if (is_failed t.state && (not t.moves && b))) (none t.pp (ap (λ b. b || is_among (pps_of (filter has_failed ts)) t.pp) (own_pp t.pp))) ∙ never_both (is_failed t.state) (not t.moves) in
            let others = rest (λ p e. none p (ap (λ b. is_pp p t.pp || b) e ∙ or_true (is_pp p t.pp))) in
            omega (arith, more, one, others)
        by false is none rest =
            let more = count_cons (is_failed_and_sure after) t ts in
            let one : count_if (is_failed_and_sure after t) ≡ 0 = ap (λ b. count_if (b && is_sure_at after t)) is in
            let others = rest none in
            omega (arith, more, one, others)

  -- ---- what is due of a write

  module _ (r : Request) where
    -- a target that is due: it failed, or wasn't sure
    pub record IsDueOne (p : Pp) : Type 0 where
      pub over : is_write r.ask && are_over r.targets.items ≡ true
      pub it : IsOn r.targets.items p
      pub kept : is_kept core r ≡ true → is_failed it.target.state ≡ true
      pub blame : (is_failed it.target.state ≡ true) ⊎ (is_sure_at core it.target ≡ false)

    pub due_one : (p : Pp) → is_among (due_of core r) p ≡ true → IsDueOne p
    due_one p e = by (is_write r.ask && are_over r.targets.items) refl e
      where
        by_kept : is_write r.ask && are_over r.targets.items ≡ true → (b : Bool) → is_kept core r ≡ b → is_among (pps_of (if b then filter has_failed r.targets.items else all_but_sure core r.targets.items)) p ≡ true → IsDueOne p
        by_kept over true is f = let one = failed_one r.targets.items p f in record { over = over; it = one.0; kept = λ k. one.1; blame = inl one.1 }
        by_kept over false is f = record { over = over; it = one; kept = λ k. not_so (sym is ∙ k); blame = blame (is_failed one.target.state) (is_done one.target.state) refl refl ended }
          where
            one : IsOn r.targets.items p
            one = left_one r.targets.items p f

            ended : is_done one.target.state || is_failed one.target.state ≡ true
            ended = all_true_at (λ (t : Target). is_ended t.state) r.targets.items one.place one.target (both (is_write r.ask) (are_over r.targets.items) over).1 one.there

            unsure : is_done one.target.state ≡ true → is_sure_at core one.target ≡ false
            unsure did = of (is_sure_at core one.target) refl
              where
                of : (b : Bool) → is_sure_at core one.target ≡ b → b ≡ false
                of false s = refl
                of true s = not_so (sym is ∙ any_passes_from_place is_sure_done r.targets.items one.place one.target one.there (all_and (is_done one.target.state) (is_sure_at core one.target) did s))

            blame : (a b : Bool) → is_failed one.target.state ≡ a → is_done one.target.state ≡ b → b || a ≡ true → (is_failed one.target.state ≡ true) ⊎ (is_sure_at core one.target ≡ false)
            blame true b i j k = inl i
            blame false true i j k = inr (unsure j)
            blame false false i j k = not_so k

        by : (b : Bool) → (is_write r.ask && are_over r.targets.items) ≡ b → is_among (if b then pps_of (due_targets core r) else []) p ≡ true → IsDueOne p
        by true over f = by_kept over (is_kept core r) refl f
        by false over f = not_so f

    -- of two copies one of which is sure and due another is sure, and isn't; one that is due is no destination of a move
    pub spared : AllPairs (λ (a b : Target). a.pp ≢ b.pp) r.targets.items → (p : Pp) → (e : is_among (due_of core r) p ≡ true) → is_sure_at core (due_one p e).it.target ≡ true → IsSpared is_sure_target r.targets.items (due_targets core r)
    spared differ p e sure = by (is_kept core r) refl
      where
        one : IsDueOne p
        one = due_one p e

        by : (b : Bool) → is_kept core r ≡ b → IsSpared is_sure_target r.targets.items (if b then filter has_failed r.targets.items else all_but_sure core r.targets.items)
        by true is = let it = kept_spared r.targets.items differ is in record { place = it.place; target = it.target; there = it.there; passes = (both (is_done it.target.state) (is_sure_at core it.target) it.passes).1; apart = it.apart }
        by false is = sure_spared r.targets.items differ (any_passes_from_place is_sure_target r.targets.items one.it.place one.it.target one.it.there sure)

    -- where the staleness that is due is wanted nothing is left
    pub left_due : (after : Core) → is_write r.ask && are_over r.targets.items ≡ true → ((p : Pp) → is_among (due_of core r) p ≡ true → is_sure after p ≡ false)
        → (is_kept core r ≡ false → is_kept after r || will_be_kept after r ≡ false) → is_wanted_due after r ≡ true
    left_due after over all none = by (is_kept core r) refl all
      where
        zero_left : (n : ℕ) (b : Bool) → n ≡ 0 → nat_le n (if b then 0 else 1) ≡ true
        zero_left n true is = le-leb n 0 (omega (arith, is))
        zero_left n false is = le-leb n 1 (omega (arith, is))

        is_due : due_of core r ≡ pps_of (due_targets core r)
        is_due = ap (λ (b : Bool). if b then pps_of (due_targets core r) else []) over

        by : (b : Bool) → is_kept core r ≡ b → ((p : Pp) → is_among (due_of core r) p ≡ true → is_sure after p ≡ false) → is_wanted_due after r ≡ true
        by true is gone = zero_left (count_by (is_failed_and_sure after) r.targets.items) (is_kept after r || will_be_kept after r)
            (none_failed after r.targets.items (λ p e. gone p (ap (λ ps. is_among ps p) (is_due ∙ ap (λ (b : Bool). pps_of (if b then filter has_failed r.targets.items else all_but_sure core r.targets.items)) is) ∙ e)))
        by false is gone =
            let few = one_left after r.targets.items (λ p e. gone p (ap (λ ps. is_among ps p) (is_due ∙ ap (λ (b : Bool). pps_of (if b then filter has_failed r.targets.items else all_but_sure core r.targets.items)) is) ∙ e)) in
            ap (λ (b : Bool). nat_le (count_by (is_failed_and_sure after) r.targets.items) (if b then 0 else 1)) (none is) ∙ le-leb (count_by (is_failed_and_sure after) r.targets.items) 1 few

    -- and what the write has missed of the destination of a move
    pub left_missed : (after : Core) → is_write r.ask && are_over r.targets.items ≡ true → ((p : Pp) → is_among (due_of core r) p ≡ true → is_sure after p ≡ false) → AllByRecursion (IsMarkedDestination after r) r.targets.items
    left_missed after over all = by_places (IsMarkedDestination after r) r.targets.items (λ k t there. by k t there (is_kept core r) refl)
      where
        is_due : due_of core r ≡ pps_of (due_targets core r)
        is_due = ap (λ (b : Bool). if b then pps_of (due_targets core r) else []) over

        gone : (b : Bool) → is_kept core r ≡ b → (p : Pp) → is_among (pps_of (if b then filter has_failed r.targets.items else all_but_sure core r.targets.items)) p ≡ true → is_sure after p ≡ false
        gone b is p e = all p (ap (λ ps. is_among ps p) (is_due ∙ ap (λ (c : Bool). pps_of (if c then filter has_failed r.targets.items else all_but_sure core r.targets.items)) is) ∙ e)

        -- of one that is kept it has missed what failed
        kept : (a f l s : Bool) → l ≡ false → (f ≡ true → s ≡ false) → (a && (f || l)) && s ≡ false
        kept a f true s none on = not_so (sym none)
        kept false f false s none on = refl
        kept true true false s none on = on refl
        kept true false false s none on = refl

        -- the place of one that is lost isn't sure
        lost : (a f l s : Bool) → (a ≡ true → s ≡ false) → (a && (f || l)) && s ≡ false
        lost false f l s on = refl
        lost true true l s on = on refl
        lost true false true s on = on refl
        lost true false false s on = refl

        by : (k : ℕ) (t : Target) → slice_get r.targets.items k ≡ Some t → (b : Bool) → is_kept core r ≡ b → IsMarkedDestination after r t
        by k t there true is = kept t.moves (is_failed t.state) (list_any (is_failed_and_sure after) r.targets.items) (is_sure after t.pp)
            (none_of_zero (is_failed_and_sure after) r.targets.items (none_failed after r.targets.items (gone true is))) (λ failed. gone true is t.pp (failed_among r.targets.items k t there failed))
        by k t there false is = lost t.moves (is_failed t.state) (list_any (is_failed_and_sure after) r.targets.items) (is_sure after t.pp)
            (λ moves. gone false is t.pp (unsure_among r.targets.items k t there (ap (λ b. not b && is_sure core t.pp) moves)))
