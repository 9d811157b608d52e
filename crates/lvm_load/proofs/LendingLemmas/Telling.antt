-- What a session tells that is lent stays fixed, and its counts never fall.
use Rattle.std.proofs.Common.{◌≡◌, ◌≤◌, ◌⊎◌, ⊎_elim, ℕ, Bool, true, false, List, [], ◌∷◌, length, sym, ap, subst, arith}
use Rattle.std.specs.List.{flat_map, range_with_len}
use Rattle.lvm_num.specs.declared.descriptor.Descriptor.{Descriptor}
use Rattle.lvm_disk.specs.Counts.{Counts, NoneFalls}
use Rattle.lvm_disk.specs.Device.{Orders}
use Rattle.lvm_vol.specs.Fronts.{NoneFell}
use Rattle.lvm_vol.specs.Log.{Log}
use Rattle.lvm_session.specs.declared.open.Power.{Power}
use Rattle.lvm_session.specs.declared.open.Power.TheVariants as power
use Rattle.lvm_session.specs.Causes.{is_over}
use Rattle.lvm_session.specs.Sound.{count_if, is_dark}
use Rattle.lvm_session.specs.State.{State}
use Rattle.lvm_driver.specs.Showing.{counts_of, fixed_by, volumes_of}
use Rattle.lvm_driver.specs.passed.Going.{KeepsShape}
use Rattle.lvm_load.specs.Lending.{counts_in}

shelf_counts : (old new : Counts) → NoneFalls old new → (disks : List ℕ)
    → NoneFell (flat_map (λ (d : ℕ). old.starts d ∷ old.misses d ∷ old.faults d ∷ []) disks) (flat_map (λ (d : ℕ). new.starts d ∷ new.misses d ∷ new.faults d ∷ []) disks)
shelf_counts old new fell [] = tt
shelf_counts old new fell (d ∷ disks) = (fell.starts d, (fell.misses d, (fell.faults d, shelf_counts old new fell disks)))

at_most_one : (b : Bool) → count_if b ≤ 1
at_most_one true = omega arith
at_most_one false = omega arith

module _ (old new : State) (keeps : KeepsShape old new) where
  over_stays : count_if (is_over old.core.power) ≤ count_if (is_over new.core.power)
  over_stays = ⊎_elim
      (λ (same : new.core.power ≡ old.core.power). subst (λ (p : Power). count_if (is_over old.core.power) ≤ count_if (is_over p)) (sym same) (omega arith))
      (λ (ends : (new.core.power ≡ power.Dark) ⊎ ((old.core.power ≡ power.On) × (new.core.power ≡ power.Off))). ⊎_elim
      (λ (dark : new.core.power ≡ power.Dark). subst (λ (p : Power). count_if (is_over old.core.power) ≤ count_if (is_over p)) (sym dark) (at_most_one (is_over old.core.power)))
      (λ (off : (old.core.power ≡ power.On) × (new.core.power ≡ power.Off)). subst (λ (p : Power). count_if (is_over old.core.power) ≤ count_if (is_over p)) (sym off.1) (at_most_one (is_over old.core.power)))
      ends)
      keeps.power

  dark_stays : count_if (is_dark old.core.power) ≤ count_if (is_dark new.core.power)
  dark_stays = ⊎_elim
      (λ (same : new.core.power ≡ old.core.power). subst (λ (p : Power). count_if (is_dark old.core.power) ≤ count_if (is_dark p)) (sym same) (omega arith))
      (λ (ends : (new.core.power ≡ power.Dark) ⊎ ((old.core.power ≡ power.On) × (new.core.power ≡ power.Off))). ⊎_elim
      (λ (dark : new.core.power ≡ power.Dark). subst (λ (p : Power). count_if (is_dark old.core.power) ≤ count_if (is_dark p)) (sym dark) (at_most_one (is_dark old.core.power)))
      (λ (off : (old.core.power ≡ power.On) × (new.core.power ≡ power.Off)). subst (λ (p : Power). count_if (is_dark p) ≤ count_if (is_dark new.core.power)) (sym off.0) (omega arith))
      ends)
      keeps.power

  pub counts_rise : NoneFell (counts_in old) (counts_in new)
  counts_rise = (
    over_stays,
    (
      dark_stays,
      (
        keeps.counts.cuts,
        (
          keeps.counts.waits,
          subst (λ (n : ℕ). NoneFell (counts_of old.device.counts (length old.device.sizes)) (counts_of new.device.counts n)) (sym (ap (λ (l : List ℕ). length l) keeps.sizes))
              (shelf_counts old.device.counts new.device.counts keeps.counts (range_with_len 0 (length old.device.sizes))),
        ),
      ),
    ),
  )

  pub fixed_stays : new.device.orders ≡ old.device.orders → fixed_by new ≡ fixed_by old
  fixed_stays orders =
      let log = keeps.log in
      let run : new.core.history.run ≡ old.core.history.run = ap (λ (l : Log). l.run) log in
      let room : new.core.history.room ≡ old.core.history.room = ap (λ (l : Log). l.room) log in
      let bytes : new.core.history.bytes ≡ old.core.history.bytes = ap (λ (l : Log). l.bytes) log in
      let most : new.core.most ≡ old.core.most = keeps.room.most in
      let pool : length new.core.pool ≡ length old.core.pool = keeps.room.long in
      let made : new.device.orders.made ≡ old.device.orders.made = ap (λ (o : Orders). o.made) orders in
      let volumes : volumes_of new.core ≡ volumes_of old.core = ap (λ (d : Descriptor). volumes_of (record old.core { descriptor = d })) keeps.descriptor in
      λ i. run i ∷ room i ∷ bytes i ∷ most i ∷ pool i ∷ made i ∷ volumes i
