-- The copies to which a write goes are on the shelf.
use Rattle.std.proofs.Common.{◌+◌, ◌-◌, slice_get, slice_index_or, ◌≡◌, ◌<◌, ◌≤◌, ◌==◌, ◌++◌, ◌∷◌, [], ℕ, zero, suc, List, arith, filter, get_or, map, take, Bool, true, false, not, nat_lt, Option, Some, None, length, refl, sym, ◌∙◌, ap, subst, if◌then◌else◌}
use Rattle.std.specs.Prelude.{◌&&◌, ◌||◌, All}
use Rattle.std.proofs.lemmas.Option.{slice_get_within}
use Rattle.std.specs.Option.{option_map_or}
use Rattle.std.proofs.lemmas.Bool.{eqb-true}
use Rattle.lvm_num.specs.declared.place.Pp.{Pp}
use Rattle.lvm_num.specs.declared.descriptor.PvRow.{PvRow}
use Rattle.lvm_num.specs.Descriptor.{IsPartitionOf, is_pp}
use Rattle.lvm_num.proofs.MarksLemmas.Maps.{find-Some}
use Rattle.lvm_disk.specs.Device.{Device}
use Rattle.lvm_path.specs.declared.ask.Ask.{Ask}
use Rattle.lvm_path.specs.declared.target.Target.{Target}
use Rattle.lvm_session.specs.declared.bringing.OpenCopy.{OpenCopy}
use Rattle.lvm_session.specs.declared.bringing.CopyEnd.{CopyEnd}
use Rattle.lvm_session.specs.declared.bringing.CopyEnd.TheVariants as ending
use Rattle.lvm_session.specs.State.{Core}
use Rattle.lvm_session.specs.Judging.{group_in, is_beside_copy, is_caught, is_missing, is_running, is_stale, is_usable, destination_aims, destinations_if}
use Rattle.lvm_session.specs.Bringing.{end_of, end_by_sources, ends_if, is_cleared, is_whole}
use Rattle.lvm_session.specs.Events.{copy_of}
use Rattle.lvm_session.proofs.MovesLemmas.{move_of, move_partition, open_one}
use Rattle.lvm_due.proofs.passed.Due.{place_of}
use Rattle.lvm_moves.specs.Choosing.{IsCopyThere, IsThere, MayChoose}

index_is : (ps : List Pp) (k : ℕ) (p d : Pp) → slice_get ps k ≡ Some p → slice_index_or ps k d ≡ p
index_is [] k p d there = absurd (cc there)
index_is (q ∷ ps) zero p d there = cc there
index_is (q ∷ ps) (suc k) p d there = index_is ps k p d there

-- what is read within a list is there whatever is put past it
pub index_same : (ps : List Pp) (k : ℕ) (d : Pp) → k < length ps → slice_index_or ps k d ≡ get_or ps k (slice_index_or ps k d)
index_same [] k d within = absurd (omega (arith, within))
index_same (p ∷ ps) zero d within = refl
index_same (p ∷ ps) (suc k) d within = index_same ps k d (omega (arith, within))

module _ (device : Device) (core : Core) (may : MayChoose device core) where
  pub placed_there : (p : Pp) → IsPartitionOf core.descriptor p → is_missing core p.disk ≡ false → IsThere device p
  placed_there p of there =
      let it = find-Some (λ (r : PvRow). r.disk == p.disk) core.descriptor.pvs of.0 of.1 in
      let same : of.0.disk ≡ p.disk = eqb-true of.0.disk p.disk it.0 in
      let placed = may.placed of.0 (it.1.0, it.1.1, it.1.2 of.0) (ap (is_missing core) same ∙ there) in
      record { disk = subst (λ n. n < length device.sizes) same placed.there; partition = (place_of core.descriptor p may.going.fitting.valid of).partition }

  -- the copy that is being brought up isn't missing
  caught_there : (group : ℕ) (p : Pp) → is_caught core group p ≡ true → is_missing core p.disk ≡ false
  caught_there group p caught = by_copy core.copy refl caught
    where
      three : (a b c : Bool) → (a && b && c) ≡ true → (a ≡ true) × (b ≡ true)
      three true true c is = (refl, refl)
      three true false c is = absurd cc
      three false b c is = absurd cc

      same_pps : (q r : Pp) → is_pp q r ≡ true → q.disk ≡ r.disk
      same_pps q r is = eqb-true q.disk r.disk (front (q.disk == r.disk) (q.pp == r.pp) is)
        where
          front : (a b : Bool) → (a && b) ≡ true → a ≡ true
          front true b is = refl
          front false b is = absurd cc

      not_missing : (c : OpenCopy) → is_running c ≡ true → end_of core c ≡ None → is_missing core c.pp.disk ≡ false
      not_missing c running none = by_test (is_missing core c.pp.disk) (sym (ap (λ (b : Bool). if not b then None else by_rest (is_missing core c.pp.disk) c) running) ∙ none)
        where
          by_rest : Bool → OpenCopy → Option CopyEnd
          by_rest b c = if b then Some ending.SyncFailed else if is_whole core c then ends_if (is_cleared core c) ending.Done else end_by_sources core c

          by_test : (b : Bool) → by_rest b c ≡ None → b ≡ false
          by_test true is = absurd cc
          by_test false is = refl

      by_copy : (copy : Option OpenCopy) → core.copy ≡ copy → option_map_or (λ (c : OpenCopy). is_running c && is_pp p c.pp && nat_lt group c.cursor) copy false ≡ true → is_missing core p.disk ≡ false
      by_copy None is none = absurd cc
      by_copy (Some c) is caught =
          let parts = three (is_running c) (is_pp p c.pp) (nat_lt group c.cursor) caught in
          let reviewed : end_of core c ≡ None = sym (ap (λ (o : Option OpenCopy). option_map_or (end_of core) o None) is) ∙ may.going.reviewed in
          ap (is_missing core) (same_pps p c.pp parts.1) ∙ not_missing c parts.0 reviewed

  pub aim_there : (group : ℕ) (p : Pp) → IsPartitionOf core.descriptor p → (is_usable core p || is_caught core group p) ≡ true → IsThere device p
  aim_there group p of aims = placed_there p of (by_test (is_usable core p) refl aims)
    where
      back : (a b : Bool) → (not a && not b) ≡ true → b ≡ false
      back true b is = absurd cc
      back false true is = absurd cc
      back false false is = refl

      by_test : (b : Bool) → is_usable core p ≡ b → (b || is_caught core group p) ≡ true → is_missing core p.disk ≡ false
      by_test true usable is = back (is_stale core p) (is_missing core p.disk) usable
      by_test false usable is = caught_there group p is

  -- so is the destination of a move, where a write goes there
  pub place_there : (ask : Ask) (p : Pp) → destination_aims core ask ≡ p ∷ [] → IsThere device p
  place_there ask p is = by_copy core.copy refl is
    where
      group : ℕ
      group = group_in core ask

      by_copy : (m : Option OpenCopy) → core.copy ≡ m → filter (is_caught core group) (option_map_or (λ (c : OpenCopy). destinations_if (c.moves && is_beside_copy core ask c) c) m []) ≡ p ∷ [] → IsThere device p
      by_copy None at e = absurd (cc e)
      by_copy (Some c) at e = by_tests c.moves (is_beside_copy core ask c) refl e
        where
          by_caught : c.moves ≡ true → (k : Bool) → is_caught core group c.pp ≡ k → (if k then c.pp ∷ [] else []) ≡ p ∷ [] → IsThere device p
          by_caught moves true caught e =
              let same : c.pp ≡ p = cc e in
              let its = move_of core c (open_one core c at may.going.copy) moves in
              subst (IsThere device) same (placed_there c.pp (move_partition core c its) (caught_there group c.pp caught))
          by_caught moves false caught e = absurd (cc e)

          by_tests : (m b : Bool) → c.moves ≡ m → filter (is_caught core group) (destinations_if (m && b) c) ≡ p ∷ [] → IsThere device p
          by_tests true true moves e = by_caught moves (is_caught core group c.pp) refl e
          by_tests true false moves e = absurd (cc e)
          by_tests false b moves e = absurd (cc e)

  -- a usable copy is on the shelf
  pub usable_there : (copies : List Pp) → All (IsPartitionOf core.descriptor) copies → (k : ℕ) (p : Pp) → slice_get copies k ≡ Some p → is_usable core p ≡ true → IsCopyThere device copies (1 + k)
  usable_there copies all k p there usable =
      let within = slice_get_within copies k p there in
      let here : copy_of copies (1 + k) ≡ p = (let same : (1 + k) - 1 ≡ k = omega arith in ap (λ n. slice_index_or copies n (record { disk = 0; pp = 0 })) same) ∙ index_is copies k p (record { disk = 0; pp = 0 }) there in
      let of = subst (IsPartitionOf core.descriptor) (index_is copies k p (record { disk = 0; pp = 0 }) there) (all k (record { disk = 0; pp = 0 }) within) in
      record { some = omega arith; most = omega (arith, within); there = subst (IsThere device) (sym here) (placed_there p of (not_gone (is_stale core p) (is_missing core p.disk) usable)) }
    where
      not_gone : (a b : Bool) → (not a && not b) ≡ true → b ≡ false
      not_gone true b is = absurd cc
      not_gone false true is = absurd cc
      not_gone false false is = refl

-- ---- targets, one after the other

pub aims_more : (f : Pp → Target) (g : Pp → Bool) (ps : List Pp) (i : ℕ) (p : Pp) → i < length ps → p ≡ get_or ps i p → map f (filter g (take (suc i) ps)) ≡ map f (filter g (take i ps)) ++ map f (filter g (p ∷ []))
aims_more f g [] i p within is = absurd (omega (arith, within))
aims_more f g (q ∷ ps) zero p within is = rw (is) refl
aims_more f g (q ∷ ps) (suc i) p within is = by_test (g q) (aims_more f g ps i p (omega (arith, within)) is)
  where
    by_test : (b : Bool) → map f (filter g (take (suc i) ps)) ≡ map f (filter g (take i ps)) ++ map f (filter g (p ∷ []))
        → map f (if b then q ∷ filter g (take (suc i) ps) else filter g (take (suc i) ps)) ≡ map f (if b then q ∷ filter g (take i ps) else filter g (take i ps)) ++ map f (filter g (p ∷ []))
    by_test true rest = ap (λ (ts : List Target). f q ∷ ts) rest
    by_test false rest = rest

pub few_aims : (f : Pp → Target) (g : Pp → Bool) (ps : List Pp) → length (map f (filter g ps)) ≤ length ps
few_aims f g [] = omega arith
few_aims f g (q ∷ ps) = by_test (g q) (few_aims f g ps)
  where
    by_test : (b : Bool) → length (map f (filter g ps)) ≤ length ps → length (map f (if b then q ∷ filter g ps else filter g ps)) ≤ length (q ∷ ps)
    by_test true rest = omega (arith, rest)
    by_test false rest = omega (arith, rest)
