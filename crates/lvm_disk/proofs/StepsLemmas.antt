-- What the calls of a shelf make of it, step by step.
use Rattle.std.proofs.Common.{◌≡◌, ◌⊎◌, inl, inr, ⊎_elim, ◌≤◌, [], ◌∷◌, ◌++◌, ℕ, List, Bool, true, false, Option, Some, None, is_some, refl, sym, ◌∙◌, ap, subst, arith}
use Rattle.std.proofs.lemmas.Bool.{cases_eq}
use Rattle.lvm_num.specs.Buffer.{Buffer}
use Rattle.lvm_disk.specs.Counts.{RoseAt, Counts, NoneFalls}
use Rattle.lvm_disk.specs.Device.{Media, Flight, Device, MayLeave}
use Rattle.lvm_disk.specs.Steps.{BothTold, StartGives, Starts, Cuts, GoesDark, Waits, ReapGives, FreedGives, with_order, Arranges, ArrangeGives, CountsFailure}
use Rattle.lvm_disk.specs.Paths.{DeviceStep, Started, WasCut, Ended, Broke, Waited, Freed, Lit, Arranged}
use Rattle.lvm_disk.specs.Images.{LeavesNoMore}
use Rattle.lvm_disk.specs.declared.shelf.Arrange.{Arrange}
use Rattle.lvm_disk.specs.declared.shelf.Arrange.TheVariants as arrange
use Rattle.lvm_disk.specs.declared.shelf.Started.{Started as StartAnswer}
use Rattle.lvm_disk.specs.declared.shelf.Started.TheVariants as started
use Rattle.lvm_disk.specs.declared.shelf.Reaped.{Reaped}
use Rattle.lvm_disk.specs.declared.shelf.Reaped.TheVariants as reaped
use Rattle.lvm_disk.proofs.DeviceLemmas.{cut_leaves, done_leaves, failed_leaves}
use Rattle.lvm_disk.proofs.CountingLemmas.{none_falls_at_once}

-- ---- each call is one step at most

dark_step : (old new : Device) → GoesDark old new → (new ≡ old) ⊎ DeviceStep old new
dark_step old new dark = ⊎_elim (λ off. inl off.1) (λ cuts. inr (WasCut cuts)) dark

pub start_step :
    (old new : Device) (disk first count : ℕ) (write : Bool) (buf : Buffer) (answer : StartAnswer) → StartGives old new disk first count write buf answer → (new ≡ old) ⊎ DeviceStep old new
start_step old new disk first count write buf (started.Ticket ticket) starts = inr (Started _ starts)
start_step old new disk first count write buf (started.Dark back) dark = dark_step old new dark.2

pub reap_step : (old new : Device) (answer : Reaped) → ReapGives old new answer → (new ≡ old) ⊎ DeviceStep old new
reap_step old new reaped.Empty waits = inr (Waited waits)
reap_step old new (reaped.Done ticket buf) ends = inr (Ended ticket buf ends)
reap_step old new (reaped.Failed ticket buf) ends = inr (Broke ticket buf ends)
reap_step old new (reaped.Dark freed) dark = dark_step old new dark.0

pub freed_step : (old new : Device) (answer : Option Buffer) → FreedGives old new answer → (new ≡ old) ⊎ DeviceStep old new
freed_step old new None none = inl none.1
freed_step old new (Some buf) some = inr (Freed buf some)

pub arrange_step : (old new : Device) (what : Arrange) (answer : Bool) → ArrangeGives old new what answer → (new ≡ old) ⊎ DeviceStep old new
arrange_step old new what true made = inr (Arranged what made.1)
arrange_step old new what false not_made = inl not_made.1

-- ---- counts

at_one : (disk : ℕ) (before now : ℕ → ℕ) → RoseAt disk before now → (d : ℕ) → before d ≤ now d
at_one disk before now rose d = elim (cases_eq d disk) [
  | inl here ↦ subst (λ (e : ℕ). before e ≤ now e) (sym here) rose.here.later
  | inr other ↦ let e = rose.elsewhere d other in omega arith
]

same_counts : (a b : Counts) → b ≡ a → NoneFalls a b
same_counts a b same = subst (NoneFalls a) (sym same) (none_falls_at_once a)

start_counts : (old new : Device) (f : Flight) → Starts old new f → NoneFalls old.counts new.counts
start_counts old new f starts = subst (λ (d : Device). NoneFalls old.counts d.counts) (sym starts.new_is) (record {
  starts = at_one f.disk old.counts.starts new.counts.starts starts.starts;
  misses = λ d. omega arith;
  faults = λ d. omega arith;
  cuts = omega arith;
  waits = omega arith;
})

cut_counts : (old new : Device) → Cuts old new → NoneFalls old.counts new.counts
cut_counts old new cuts = subst (λ (d : Device). NoneFalls old.counts d.counts) (sym cuts.new_is) (record {
  starts = λ d. omega arith;
  misses = λ d. omega arith;
  faults = λ d. omega arith;
  cuts = cuts.cuts.later;
  waits = omega arith;
})

failed_counts : (f : Flight) (old new : Counts) → CountsFailure f old new → NoneFalls old new
failed_counts f old new counts = ⊎_elim
    (λ miss. subst (NoneFalls old) (sym miss.1.new_is) (record {
      starts = λ d. omega arith;
      misses = at_one f.disk old.misses new.misses miss.1.misses;
      faults = λ d. omega arith;
      cuts = omega arith;
      waits = omega arith;
    }))
    (λ fault. subst (NoneFalls old) (sym fault.1.new_is) (record {
      starts = λ d. omega arith;
      misses = λ d. omega arith;
      faults = at_one f.disk old.faults new.faults fault.1.faults;
      cuts = omega arith;
      waits = omega arith;
    }))
    counts

wait_counts : (old new : Device) → Waits old new → NoneFalls old.counts new.counts
wait_counts old new waits = subst (λ (d : Device). NoneFalls old.counts d.counts) (sym waits.new_is) (record {
  starts = λ d. omega arith;
  misses = λ d. omega arith;
  faults = λ d. omega arith;
  cuts = omega arith;
  waits = waits.waits.later;
})

dark_counts : (old new : Device) → GoesDark old new → NoneFalls old.counts new.counts
dark_counts old new dark = ⊎_elim (λ off. same_counts old.counts new.counts (ap (λ (d : Device). d.counts) off.1)) (λ cuts. cut_counts old new cuts) dark

arrange_counts : (old new : Device) (what : Arrange) → Arranges old new what → NoneFalls old.counts new.counts
arrange_counts old new (arrange.Fail disk) is = same_counts old.counts new.counts (ap (λ (d : Device). d.counts) is)
arrange_counts old new (arrange.Heal disk) is = same_counts old.counts new.counts (ap (λ (d : Device). d.counts) is)
arrange_counts old new (arrange.Cut word) is = dark_counts (with_order old (arrange.Cut word)) new is.1

-- no step lets a count fall
pub step_counts : (old new : Device) → DeviceStep old new → NoneFalls old.counts new.counts
step_counts old new (Started f starts) = start_counts old new f starts
step_counts old new (WasCut cuts) = cut_counts old new cuts
step_counts old new (Ended ticket buf ends) = same_counts old.counts new.counts (ap (λ (d : Device). d.counts) ends.new_is)
step_counts old new (Broke ticket buf ends) = failed_counts ends.flight old.counts new.counts ends.counts
step_counts old new (Waited waits) = wait_counts old new waits
step_counts old new (Freed buf freed) = same_counts old.counts new.counts (sym (ap (λ (d : Device). d.counts) freed))
step_counts old new (Lit flights freed lit) = same_counts old.counts new.counts (ap (λ (d : Device). d.counts) lit)
step_counts old new (Arranged what is) = arrange_counts old new what is

-- ---- what stays

-- what no step changes
pub record StaysSame (old new : Device) : Type 0 where
  pub sizes : new.sizes ≡ old.sizes
  pub arranges : new.arranges ≡ old.arranges
  pub told : is_some new.media ≡ is_some old.media

all_same : (old new : Device) → new ≡ old → StaysSame old new
all_same old new is = record { sizes = ap (λ (d : Device). d.sizes) is; arranges = ap (λ (d : Device). d.arranges) is; told = ap (λ (d : Device). is_some d.media) is }

both_told : (R : Media → Media → Type 0) (old new : Option Media) → BothTold old new R → is_some new ≡ is_some old
both_told R None None told = refl
both_told R (Some m) (Some n) told = refl
both_told R None (Some n) told = absurd told
both_told R (Some m) None told = absurd told

cut_same : (old new : Device) → Cuts old new → StaysSame old new
cut_same old new cuts = record { sizes = ap (λ (d : Device). d.sizes) cuts.new_is; arranges = ap (λ (d : Device). d.arranges) cuts.new_is; told = both_told _ old.media new.media cuts.media }

dark_same : (old new : Device) → GoesDark old new → StaysSame old new
dark_same old new dark = ⊎_elim (λ off. all_same old new off.1) (λ cuts. cut_same old new cuts) dark

arrange_same : (old new : Device) (what : Arrange) → Arranges old new what → StaysSame old new
arrange_same old new (arrange.Fail disk) is = record { sizes = ap (λ (d : Device). d.sizes) is; arranges = ap (λ (d : Device). d.arranges) is; told = ap (λ (d : Device). is_some d.media) is }
arrange_same old new (arrange.Heal disk) is = record { sizes = ap (λ (d : Device). d.sizes) is; arranges = ap (λ (d : Device). d.arranges) is; told = ap (λ (d : Device). is_some d.media) is }
arrange_same old new (arrange.Cut word) is = let same = dark_same (with_order old (arrange.Cut word)) new is.1 in record { sizes = same.sizes; arranges = same.arranges; told = same.told }

pub step_same : (old new : Device) → DeviceStep old new → StaysSame old new
step_same old new (Started f starts) =
    record { sizes = ap (λ (d : Device). d.sizes) starts.new_is; arranges = ap (λ (d : Device). d.arranges) starts.new_is; told = ap (λ (d : Device). is_some d.media) starts.new_is }
step_same old new (WasCut cuts) = cut_same old new cuts
step_same old new (Ended ticket buf ends) =
    record { sizes = ap (λ (d : Device). d.sizes) ends.new_is; arranges = ap (λ (d : Device). d.arranges) ends.new_is; told = both_told _ old.media new.media ends.media }
step_same old new (Broke ticket buf ends) =
    record { sizes = ap (λ (d : Device). d.sizes) ends.new_is; arranges = ap (λ (d : Device). d.arranges) ends.new_is; told = both_told _ old.media new.media ends.media }
step_same old new (Waited waits) =
    record { sizes = ap (λ (d : Device). d.sizes) waits.new_is; arranges = ap (λ (d : Device). d.arranges) waits.new_is; told = ap (λ (d : Device). is_some d.media) waits.new_is }
step_same old new (Freed buf freed) =
    record { sizes = sym (ap (λ (d : Device). d.sizes) freed); arranges = sym (ap (λ (d : Device). d.arranges) freed); told = sym (ap (λ (d : Device). is_some d.media) freed) }
step_same old new (Lit flights freed lit) =
    record { sizes = ap (λ (d : Device). d.sizes) lit; arranges = ap (λ (d : Device). d.arranges) lit; told = ap (λ (d : Device). is_some d.media) lit }
step_same old new (Arranged what is) = arrange_same old new what is

-- orders are made by arrangements alone
pub step_orders : (old new : Device) → DeviceStep old new → (new.orders ≡ old.orders) ⊎ ((what : Arrange) × Arranges old new what)
step_orders old new (Started f starts) = inl (ap (λ (d : Device). d.orders) starts.new_is)
step_orders old new (WasCut cuts) = inl (ap (λ (d : Device). d.orders) cuts.new_is)
step_orders old new (Ended ticket buf ends) = inl (ap (λ (d : Device). d.orders) ends.new_is)
step_orders old new (Broke ticket buf ends) = inl (ap (λ (d : Device). d.orders) ends.new_is)
step_orders old new (Waited waits) = inl (ap (λ (d : Device). d.orders) waits.new_is)
step_orders old new (Freed buf freed) = inl (sym (ap (λ (d : Device). d.orders) freed))
step_orders old new (Lit flights freed lit) = inl (ap (λ (d : Device). d.orders) lit)
step_orders old new (Arranged what is) = inr (what, is)

-- ---- crash images

same_leaves : (old new : Device) → new.sizes ≡ old.sizes → new.media ≡ old.media → new.flights ≡ old.flights → LeavesNoMore old new
same_leaves old new sizes media flights image may = subst (λ (d : Device). MayLeave d image) (λ i. record new { sizes = sizes i; media = media i; flights = flights i }) may

dark_leaves : (old new : Device) → GoesDark old new → LeavesNoMore old new
dark_leaves old new dark = ⊎_elim (λ off. λ image may. subst (λ (d : Device). MayLeave d image) off.1 may) (λ cuts. cut_leaves old new cuts) dark

pub arrange_leaves : (old new : Device) (what : Arrange) → Arranges old new what → LeavesNoMore old new
arrange_leaves old new (arrange.Fail disk) is image may = subst (λ (d : Device). MayLeave d image) is may
arrange_leaves old new (arrange.Heal disk) is image may = subst (λ (d : Device). MayLeave d image) is may
arrange_leaves old new (arrange.Cut word) is image may = dark_leaves (with_order old (arrange.Cut word)) new is.1 image may

-- a step that is no start adds no crash image
pub step_leaves : (old new : Device) → DeviceStep old new → LeavesNoMore old new ⊎ ((f : Flight) × Starts old new f)
step_leaves old new (Started f starts) = inr (f, starts)
step_leaves old new (WasCut cuts) = inl (cut_leaves old new cuts)
step_leaves old new (Ended ticket buf ends) = inl (done_leaves old new ticket buf ends)
step_leaves old new (Broke ticket buf ends) = inl (failed_leaves old new ticket buf ends)
step_leaves old new (Waited waits) = inl (λ image may. subst (λ (d : Device). MayLeave d image) waits.new_is may)
step_leaves old new (Freed buf freed) =
    inl (same_leaves old new (sym (ap (λ (d : Device). d.sizes) freed)) (sym (ap (λ (d : Device). d.media) freed)) (sym (ap (λ (d : Device). d.flights) freed)))
step_leaves old new (Lit flights freed lit) = inl (λ image may. subst (λ (d : Device). MayLeave d image) lit may)
step_leaves old new (Arranged what is) = inl (arrange_leaves old new what is)

-- ---- what is ready

-- a flight that a ready device starts is the only one
pub only_flight : (old new : Device) (f : Flight) → old.flights ≡ [] → Starts old new f → new.flights ≡ f ∷ []
only_flight old new f none starts = ap (λ (d : Device). d.flights) starts.new_is ∙ ap (λ (l : List Flight). l ++ f ∷ []) none
