-- Shelves that do nothing but what they are ordered, step by step.
use Rattle.std.specs.Prelude.{option_map, slice_set}
use Rattle.std.proofs.lemmas.Option.{same_Some}
use Rattle.std.proofs.Common.{◌≡◌, ◌⊎◌, inl, inr, ⊎_elim, ◌-◌, ◌^◌, ◌<◌, [], ◌∷◌, ℕ, zero, suc, List, Bool, true, false, Option, Some, None, slice_index_or, IfSome, refl, sym, ◌∙◌, ap, subst, arith}
use Rattle.lvm_disk.specs.Counts.{Counts, next_count}
use Rattle.lvm_disk.specs.Device.{Flight, Ordered, Orders, Device}
use Rattle.lvm_disk.specs.Steps.{Cuts, GoesDark, Arranges, CountsFailure, ordered_by, after_order, with_order}
use Rattle.lvm_disk.specs.Paths.{DeviceStep, Started, WasCut, Ended, Broke, Waited, Freed, Lit, Arranged, Path, Here, Then}
use Rattle.lvm_disk.specs.declared.shelf.Arrange.{Arrange}
use Rattle.lvm_disk.specs.declared.shelf.Arrange.TheVariants as arrange
use Rattle.lvm_disk.proofs.StepsLemmas.{step_orders}
use Rattle.lvm_order_laws.specs.Alone.{HeedsAlone, IsWell, IsUnharmed, AloneLaw, AlwaysLaw, OrdersNoHarm, UnharmedLaw, WellLaw, NothingCounted, NothingFailed}
use Rattle.lvm_order_laws.specs.Worked.{fresh}

-- ---- what is told is so

told_so : (o : Option Ordered) (ordered : Ordered) (P : Ordered → Type 0) → o ≡ Some ordered → IfSome o P → P ordered
told_so o ordered P told is = subst (λ (x : Option Ordered). IfSome x P) told is

told_some : (o : Option Ordered) (ordered : Ordered) → o ≡ Some ordered → o ≡ None → ⊥
told_some o ordered told none = let e : Some ordered ≡ None = sym told ∙ none in cc

-- with these orders and this count of cuts
with_both : (old new : Device) → HeedsAlone old → new.orders ≡ old.orders → new.counts.cuts ≡ old.counts.cuts → HeedsAlone new
with_both old new heeds orders cuts = record { ordered = heeds.ordered; told = ap (λ (o : Orders). o.alone) orders ∙ heeds.told; cuts = cuts ∙ heeds.cuts }

failed_cuts : (f : Flight) (old new : Counts) → CountsFailure f old new → new.cuts ≡ old.cuts
failed_cuts f old new counts = ⊎_elim (λ miss. ap (λ (c : Counts). c.cuts) miss.1.new_is) (λ fault. ap (λ (c : Counts). c.cuts) fault.1.new_is) counts

cut_heeds : (old new : Device) (ordered : Ordered) → old.orders.alone ≡ Some ordered → Cuts old new → HeedsAlone new
cut_heeds old new ordered told cuts = record {
  ordered = ordered;
  told = ap (λ (d : Device). d.orders.alone) cuts.new_is ∙ told;
  cuts = told_so old.orders.alone ordered (λ (o : Ordered). new.counts.cuts ≡ o.cuts) told cuts.ordered;
}

-- ---- arrangements

told_by : (power : Bool) (what : Arrange) (o : Option Ordered) (ordered : Ordered) → o ≡ Some ordered → ordered_by power what o ≡ Some (after_order power what ordered)
told_by power what o ordered told = ap (ordered_by power what) told

order_heeds : (old new : Device) (what : Arrange) (heeds : HeedsAlone old) → new ≡ with_order old what → (after_order old.power what heeds.ordered).cuts ≡ heeds.ordered.cuts → HeedsAlone new
order_heeds old new what heeds is same = record {
  ordered = after_order old.power what heeds.ordered;
  told = ap (λ (d : Device). d.orders.alone) is ∙ told_by old.power what old.orders.alone heeds.ordered heeds.told;
  cuts = ap (λ (d : Device). d.counts.cuts) is ∙ heeds.cuts ∙ sym same;
}

arranged_heeds : (old new : Device) (what : Arrange) → HeedsAlone old → Arranges old new what → HeedsAlone new
arranged_heeds old new (arrange.Fail disk) heeds is = order_heeds old new (arrange.Fail disk) heeds is refl
arranged_heeds old new (arrange.Heal disk) heeds is = order_heeds old new (arrange.Heal disk) heeds is refl
arranged_heeds old new (arrange.Cut word) heeds is = by is.1
  where
    by : GoesDark (with_order old (arrange.Cut word)) new → HeedsAlone new
    by (inl off) = order_heeds old new (arrange.Cut word) heeds off.1 (ap (λ (power : Bool). (after_order power (arrange.Cut word) heeds.ordered).cuts) off.0)
    by (inr cuts) =
        cut_heeds (with_order old (arrange.Cut word)) new (after_order old.power (arrange.Cut word) heeds.ordered) (told_by old.power (arrange.Cut word) old.orders.alone heeds.ordered heeds.told) cuts

pub stays_alone : AloneLaw
stays_alone old new (Started f starts) heeds = with_both old new heeds (ap (λ (d : Device). d.orders) starts.new_is) (ap (λ (d : Device). d.counts.cuts) starts.new_is)
stays_alone old new (WasCut cuts) heeds = cut_heeds old new heeds.ordered heeds.told cuts
stays_alone old new (Ended ticket buf ends) heeds = with_both old new heeds (ap (λ (d : Device). d.orders) ends.new_is) (ap (λ (d : Device). d.counts.cuts) ends.new_is)
stays_alone old new (Broke ticket buf ends) heeds = with_both old new heeds (ap (λ (d : Device). d.orders) ends.new_is) (failed_cuts ends.flight old.counts new.counts ends.counts)
stays_alone old new (Waited waits) heeds = with_both old new heeds (ap (λ (d : Device). d.orders) waits.new_is) (ap (λ (d : Device). d.counts.cuts) waits.new_is)
stays_alone old new (Freed buf freed) heeds = with_both old new heeds (sym (ap (λ (d : Device). d.orders) freed)) (sym (ap (λ (d : Device). d.counts.cuts) freed))
stays_alone old new (Lit flights freed lit) heeds = with_both old new heeds (ap (λ (d : Device). d.orders) lit) (ap (λ (d : Device). d.counts.cuts) lit)
stays_alone old new (Arranged what is) heeds = arranged_heeds old new what heeds is

at_last : (first last : Device) → Path DeviceStep HeedsAlone first last → HeedsAlone last
at_last first last (Here heeds) = heeds
at_last first last (Then path step heeds) = heeds

pub heeds_always : AlwaysLaw
heeds_always first last (Here p) heeds = Here heeds
heeds_always first last (Then {m} path step p) heeds =
    let before = heeds_always first m path heeds in
    Then before step (stays_alone m last step (at_last first m before))

-- ---- no order

same_counts : (old new : Counts) → new ≡ old → NothingFailed old new
same_counts old new same = record { misses = λ d. ap (λ (c : Counts). c.misses d) same; faults = λ d. ap (λ (c : Counts). c.faults d) same; cuts = ap (λ (c : Counts). c.cuts) same; waits = ap (λ (c : Counts). c.waits) same }

counts_on : (a b c : Counts) → NothingFailed a b → NothingFailed b c → NothingFailed a c
counts_on a b c one two = record { misses = λ d. two.misses d ∙ one.misses d; faults = λ d. two.faults d ∙ one.faults d; cuts = two.cuts ∙ one.cuts; waits = two.waits ∙ one.waits }

-- a step that orders nothing
one_step : (old new : Device) → DeviceStep old new → IsWell old → (NothingFailed old.counts new.counts × (new.orders ≡ old.orders)) ⊎ ((what : Arrange) × Arranges old new what)
one_step old new (Started f starts) is = inl (
  record {
    misses = λ d. ap (λ (e : Device). e.counts.misses d) starts.new_is;
    faults = λ d. ap (λ (e : Device). e.counts.faults d) starts.new_is;
    cuts = ap (λ (e : Device). e.counts.cuts) starts.new_is;
    waits = ap (λ (e : Device). e.counts.waits) starts.new_is;
  },
  ap (λ (d : Device). d.orders) starts.new_is,
)
one_step old new (WasCut cuts) is =
    let ordered : new.counts.cuts ≡ is.heeds.ordered.cuts = told_so old.orders.alone is.heeds.ordered (λ (o : Ordered). new.counts.cuts ≡ o.cuts) is.heeds.told cuts.ordered in
    let once : new.counts.cuts ≡ next_count old.counts.cuts = cuts.once in
    let few = is.few_cuts in
    let same = is.heeds.cuts in
    absurd (omega (arith, ordered, once, few, same))
one_step old new (Ended ticket buf ends) is = inl (same_counts old.counts new.counts (ap (λ (d : Device). d.counts) ends.new_is), ap (λ (d : Device). d.orders) ends.new_is)
one_step old new (Broke ticket buf ends) is =
    let fails : slice_index_or is.heeds.ordered.failing ends.flight.disk false ≡ true =
    told_so old.orders.alone is.heeds.ordered (λ (o : Ordered). slice_index_or o.failing ends.flight.disk false ≡ true) is.heeds.told ends.ordered in
    let e : true ≡ false = sym fails ∙ is.well ends.flight.disk in
    absurd (cc)
one_step old new (Waited waits) is = absurd (told_some old.orders.alone is.heeds.ordered is.heeds.told waits.unordered)
one_step old new (Freed buf freed) is = inl (same_counts old.counts new.counts (sym (ap (λ (d : Device). d.counts) freed)), sym (ap (λ (d : Device). d.orders) freed))
one_step old new (Lit flights freed lit) is = inl (same_counts old.counts new.counts (ap (λ (d : Device). d.counts) lit), ap (λ (d : Device). d.orders) lit)
one_step old new (Arranged what is_made) is = inr (what, is_made)

-- ---- what orders count

arranged_told : (old new : Device) (what : Arrange) → Arranges old new what → new.orders.alone ≡ ordered_by old.power what old.orders.alone
arranged_told old new (arrange.Fail disk) is = ap (λ (d : Device). d.orders.alone) is
arranged_told old new (arrange.Heal disk) is = ap (λ (d : Device). d.orders.alone) is
arranged_told old new (arrange.Cut word) is = ⊎_elim (λ off. ap (λ (d : Device). d.orders.alone) off.1) (λ cuts. ap (λ (d : Device). d.orders.alone) cuts.new_is) is.1

-- what is told behind a step that orders nothing, and behind one that does
same_told : (old new : Device) (a : HeedsAlone old) (b : HeedsAlone new) → new.orders ≡ old.orders → b.ordered ≡ a.ordered
same_told old new a b same = same_Some b.ordered a.ordered (sym b.told ∙ ap (λ (o : Orders). o.alone) same ∙ a.told)

order_told : (old new : Device) (a : HeedsAlone old) (b : HeedsAlone new) (what : Arrange) → Arranges old new what → b.ordered ≡ after_order old.power what a.ordered
order_told old new a b what is = same_Some b.ordered (after_order old.power what a.ordered) (sym b.told ∙ arranged_told old new what is ∙ told_by old.power what old.orders.alone a.ordered a.told)

step_told : (old new : Device) (a : HeedsAlone old) (b : HeedsAlone new) → DeviceStep old new → (b.ordered ≡ a.ordered) ⊎ ((what : Arrange) × (b.ordered ≡ after_order old.power what a.ordered))
step_told old new a b step = ⊎_elim
    (λ (same : new.orders ≡ old.orders). inl (same_told old new a b same))
    (λ (order : (what : Arrange) × Arranges old new what). inr (order.0, order_told old new a b order.0 order.1))
    (step_orders old new step)

-- a count that has risen once stays so
risen : (power : Bool) (what : Arrange) (o : Ordered) (n : ℕ) → n < 2 ^ 64 - 1 → (n < o.cuts → n < (after_order power what o).cuts) × (n < o.fails → n < (after_order power what o).fails)
risen power (arrange.Fail disk) o n few = (λ more. more, λ more. omega (arith, more, few))
risen power (arrange.Heal disk) o n few = (λ more. more, λ more. more)
risen true (arrange.Cut word) o n few = (λ more. omega (arith, more, few), λ more. more)
risen false (arrange.Cut word) o n few = (λ more. more, λ more. more)

-- no disk fails where one more is healed
still_healed : (failing : List Bool) (at : ℕ) → ((disk : ℕ) → slice_index_or failing disk false ≡ false) → (disk : ℕ) → slice_index_or (slice_set failing at false) disk false ≡ false
still_healed [] at none disk = none disk
still_healed (x ∷ xs) zero none zero = refl
still_healed (x ∷ xs) zero none (suc disk) = none (suc disk)
still_healed (x ∷ xs) (suc at) none zero = none zero
still_healed (x ∷ xs) (suc at) none (suc disk) = still_healed xs at (λ d. none (suc d)) disk

-- So far a cut was ordered, or a disk to fail; or nothing has failed, and none fails.
record StillWell (first now : Device) (is : IsWell first) (heeds : HeedsAlone now) : Type 0 where
  none : NothingFailed first.counts now.counts
  well : (disk : ℕ) → slice_index_or heeds.ordered.failing disk false ≡ false
  cuts : heeds.ordered.cuts ≡ is.heeds.ordered.cuts
  fails : heeds.ordered.fails ≡ is.heeds.ordered.fails

abbrev SoFar : (first now : Device) → IsWell first → HeedsAlone now → Type 0
SoFar first now is heeds = (is.heeds.ordered.cuts < heeds.ordered.cuts) ⊎ ((is.heeds.ordered.fails < heeds.ordered.fails) ⊎ StillWell first now is heeds)

first_few : (first : Device) (is : IsWell first) → is.heeds.ordered.cuts < 2 ^ 64 - 1
first_few first is = let same = is.heeds.cuts in let few = is.few_cuts in omega (arith, same, few)

now_well : (first now : Device) (is : IsWell first) (heeds : HeedsAlone now) → StillWell first now is heeds → IsWell now
now_well first now is heeds so = record {
  heeds = heeds;
  well = so.well;
  few_cuts = let e = so.none.cuts in let few = is.few_cuts in omega (arith, e, few);
  few_fails = let e = so.fails in let few = is.few_fails in omega (arith, e, few);
}

-- an order that is made of a shelf that is well so far
module _ (first now new : Device) (is : IsWell first) (a : HeedsAlone now) (b : HeedsAlone new) (so : StillWell first now is a) where
  ordered : (what : Arrange) → Arranges now new what → b.ordered ≡ after_order now.power what a.ordered → SoFar first new is b
  ordered (arrange.Fail disk) made told = inr (inl (
      let e : b.ordered.fails ≡ next_count a.ordered.fails = ap (λ (o : Ordered). o.fails) told in
      let was = so.fails in
      let few = is.few_fails in
      omega (arith, e, was, few)))
  ordered (arrange.Heal disk) made told = inr (inr (record {
    none = counts_on first.counts now.counts new.counts so.none (same_counts now.counts new.counts (ap (λ (d : Device). d.counts) made));
    well = λ d. ap (λ (o : Ordered). slice_index_or o.failing d false) told ∙ still_healed a.ordered.failing disk so.well d;
    cuts = ap (λ (o : Ordered). o.cuts) told ∙ so.cuts;
    fails = ap (λ (o : Ordered). o.fails) told ∙ so.fails;
  }))
  ordered (arrange.Cut word) made told = by now.power refl
    where
      by : (on : Bool) → now.power ≡ on → SoFar first new is b
      by true on = inl (
          let e : b.ordered.cuts ≡ next_count a.ordered.cuts = ap (λ (o : Ordered). o.cuts) (told ∙ ap (λ (p : Bool). after_order p (arrange.Cut word) a.ordered) on) in
          let was = so.cuts in
          let few = first_few first is in
          omega (arith, e, was, few))
      by false off =
          let same : b.ordered ≡ a.ordered = told ∙ ap (λ (p : Bool). after_order p (arrange.Cut word) a.ordered) off in
          ⊎_elim
          (λ dark. inr (inr (record {
            none = counts_on first.counts now.counts new.counts so.none (same_counts now.counts new.counts (ap (λ (d : Device). d.counts) dark.1));
            well = λ d. ap (λ (o : Ordered). slice_index_or o.failing d false) same ∙ so.well d;
            cuts = ap (λ (o : Ordered). o.cuts) same ∙ so.cuts;
            fails = ap (λ (o : Ordered). o.fails) same ∙ so.fails;
          })))
          (λ cuts. let e : true ≡ false = sym cuts.power ∙ off in absurd cc)
          made.1

one_more : (first now new : Device) (is : IsWell first) (a : HeedsAlone now) (b : HeedsAlone new) → DeviceStep now new → SoFar first now is a → SoFar first new is b
one_more first now new is a b step (inl more) = ⊎_elim
    (λ same. inl (subst (λ (o : Ordered). is.heeds.ordered.cuts < o.cuts) (sym same) more))
    (λ order. inl (subst (λ (o : Ordered). is.heeds.ordered.cuts < o.cuts) (sym order.1) ((risen now.power order.0 a.ordered is.heeds.ordered.cuts (first_few first is)).0 more)))
    (step_told now new a b step)
one_more first now new is a b step (inr (inl more)) = ⊎_elim
    (λ same. inr (inl (subst (λ (o : Ordered). is.heeds.ordered.fails < o.fails) (sym same) more)))
    (λ order. inr (inl (subst (λ (o : Ordered). is.heeds.ordered.fails < o.fails) (sym order.1) ((risen now.power order.0 a.ordered is.heeds.ordered.fails is.few_fails).1 more))))
    (step_told now new a b step)
one_more first now new is a b step (inr (inr so)) = ⊎_elim
    (λ (still : NothingFailed now.counts new.counts × (new.orders ≡ now.orders)).
    let same = same_told now new a b still.1 in
    inr (inr (record {
      none = counts_on first.counts now.counts new.counts so.none still.0;
      well = λ d. ap (λ (o : Ordered). slice_index_or o.failing d false) same ∙ so.well d;
      cuts = ap (λ (o : Ordered). o.cuts) same ∙ so.cuts;
      fails = ap (λ (o : Ordered). o.fails) same ∙ so.fails;
    })))
    (λ (order : (what : Arrange) × Arranges now new what). ordered first now new is a b so order.0 order.1 (order_told now new a b order.0 order.1))
    (one_step now new step (now_well first now is a so))

all_steps : (first last : Device) → Path DeviceStep (λ d. Unit {0}) first last → (is : IsWell first) → (heeds : HeedsAlone last) × SoFar first last is heeds
all_steps first last (Here p) is = (is.heeds, inr (inr (record { none = same_counts first.counts first.counts refl; well = is.well; cuts = refl; fails = refl })))
all_steps first last (Then {m} path step p) is =
    let so = all_steps first m path is in
    let next = stays_alone m last step so.0 in
    (next, one_more first m last is so.0 next step so.1)

same_count : (count : Ordered → ℕ) (x y : Option Ordered) (a b : Ordered) → x ≡ Some a → y ≡ Some b → option_map count x ≡ option_map count y → count a ≡ count b
same_count count x y a b is was same = same_Some (count a) (count b) (sym (ap (option_map count) is) ∙ same ∙ ap (option_map count) was)

stays_well : (first last : Device) → Path DeviceStep (λ d. Unit {0}) first last → (is : IsWell first) → OrdersNoHarm first last → (heeds : HeedsAlone last) × StillWell first last is heeds
stays_well first last path is harmless =
    let so = all_steps first last path is in (
      so.0,
      ⊎_elim
          (λ more. absurd (let same = same_count (λ (o : Ordered). o.cuts) last.orders.alone first.orders.alone so.0.ordered is.heeds.ordered so.0.told is.heeds.told harmless.cuts in omega (arith, more, same)))
          (λ rest. ⊎_elim
          (λ more. absurd (let same = same_count (λ (o : Ordered). o.fails) last.orders.alone first.orders.alone so.0.ordered is.heeds.ordered so.0.told is.heeds.told harmless.fails in omega (arith, more, same)))
          (λ well. well)
          rest)
          so.1,
    )

pub nothing_by_itself : WellLaw
nothing_by_itself first last path is harmless = (stays_well first last path is harmless).1.none

still_none : (old new : Counts) → NothingFailed old new → NothingCounted old → NothingCounted new
still_none old new same none = record { misses = λ d. same.misses d ∙ none.misses d; faults = λ d. same.faults d ∙ none.faults d; cuts = same.cuts ∙ none.cuts; waits = same.waits ∙ none.waits }

pub stays_unharmed : UnharmedLaw
stays_unharmed first last path is harmless =
    let still = stays_well first last path is.well harmless in
    record { well = now_well first last is.well still.0 still.1; counted = still_none first.counts last.counts still.1.none is.counted }

-- the same orders
pub same_harmless : (old new : Device) → new.orders ≡ old.orders → OrdersNoHarm old new
same_harmless old new same = record { cuts = ap (λ (o : Orders). option_map (λ (x : Ordered). x.cuts) o.alone) same; fails = ap (λ (o : Orders). option_map (λ (x : Ordered). x.fails) o.alone) same }

pub both_harmless : (old mid new : Device) → OrdersNoHarm old mid → OrdersNoHarm mid new → OrdersNoHarm old new
both_harmless old mid new one two = record { cuts = two.cuts ∙ one.cuts; fails = two.fails ∙ one.fails }

-- a disk is healed
healed : (power : Bool) (disk : ℕ) (o : Option Ordered) (count : Ordered → ℕ) → ((ordered : Ordered) → count (after_order power (arrange.Heal disk) ordered) ≡ count ordered) → option_map count (ordered_by power (arrange.Heal disk) o) ≡ option_map count o
healed power disk None count same = refl
healed power disk (Some ordered) count same = ap (λ (n : ℕ). Some n) (same ordered)

pub heal_harmless : (old new : Device) (disk : ℕ) → new.orders ≡ (with_order old (arrange.Heal disk)).orders → OrdersNoHarm old new
heal_harmless old new disk is = record {
  cuts = ap (λ (o : Orders). option_map (λ (x : Ordered). x.cuts) o.alone) is ∙ healed old.power disk old.orders.alone (λ (x : Ordered). x.cuts) (λ o. refl);
  fails = ap (λ (o : Orders). option_map (λ (x : Ordered). x.fails) o.alone) is ∙ healed old.power disk old.orders.alone (λ (x : Ordered). x.fails) (λ o. refl);
}

-- ---- worked

none_fails : (disk : ℕ) → slice_index_or (false ∷ []) disk false ≡ false
none_fails zero = refl
none_fails (suc disk) = refl

fresh_is_well : IsWell fresh
fresh_is_well = record { heeds = record { ordered = record { cuts = 0; fails = 0; failing = false ∷ [] }; told = refl; cuts = refl }; well = none_fails; few_cuts = omega arith; few_fails = omega arith }

pub fresh_is_unharmed : IsUnharmed fresh
fresh_is_unharmed = record { well = fresh_is_well; counted = record { misses = λ d. refl; faults = λ d. refl; cuts = refl; waits = refl } }
