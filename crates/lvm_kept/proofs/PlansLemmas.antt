-- Writes that are under way, step by step.
use Rattle.std.proofs.Common.{◌≡◌, ◌⊎◌, inl, inr, ⊎_elim, ℕ, List, [], ◌∷◌, ◌++◌, Option, Some, refl, sym, ◌∙◌, ap, subst}
use Rattle.std.specs.Prelude.{IsSomeAnd}
use Rattle.lvm_disk.specs.passed.Num.{Sector}
use Rattle.lvm_disk.specs.Device.{Media, Image, Flight, Device, SameDisks, IsInFlight, IsCrashImage, image_of, MayLeave}
use Rattle.lvm_disk.specs.Steps.{Removes, Cuts, with_order, Arranges}
use Rattle.lvm_disk.specs.Paths.{DeviceStep, Started, WasCut, Ended, Broke, Waited, Freed, Lit, Arranged}
use Rattle.lvm_disk.specs.declared.shelf.Arrange.{Arrange}
use Rattle.lvm_disk.specs.declared.shelf.Arrange.TheVariants as arrange
use Rattle.lvm_disk.proofs.DeviceLemmas.{in_old_or_new, done_leaves, failed_leaves, cut_leaves, start_leaves}
use Rattle.lvm_disk.proofs.StepsLemmas.{arrange_leaves}
use Rattle.lvm_kept.specs.Plans.{Plan, ChangesBy, IsUnderWay, StepIsPlanned}

pub then_disks : (a b c : Image) → SameDisks a b → SameDisks b c → SameDisks a c
then_disks a b c p q = record { disks = q.disks ∙ p.disks; size = λ d. q.size d ∙ p.size d }

-- a change by the plan, and then sectors that it brings
pub further : (P : Plan) (old mid new : Image) → ChangesBy P old mid → SameDisks mid new → ((d s : ℕ) → (new.sector d s ≡ mid.sector d s) ⊎ P d s (new.sector d s)) → ChangesBy P old new
further P old mid new by same each = record {
  same = then_disks old mid new by.same same;
  each = λ d s. ⊎_elim
      (λ (is : new.sector d s ≡ mid.sector d s). ⊎_elim
      (λ (was : mid.sector d s ≡ old.sector d s). inl (is ∙ was))
      (λ (p : P d s (mid.sector d s)). inr (subst (P d s) (sym is) p))
      (by.each d s))
      (λ (p : P d s (new.sector d s)). inr p)
      (each d s);
}

-- what no flight writes
no_flight : (flights : List Flight) → flights ≡ [] → (d s : ℕ) (value : Sector) → IsInFlight flights d s value → ⊥
no_flight flights none d s value is = subst (λ (l : List Flight). IsInFlight l d s value) none is

-- a plan begins from what stands on the media, where what is in flight is of it
pub plan_begins : (P : Plan) (device : Device) (media : Media) → device.media ≡ Some media → ((d s : ℕ) (value : Sector) → IsInFlight device.flights d s value → P d s value) → IsUnderWay P (image_of device.sizes media) device
plan_begins P device media told planned = record {
  images = λ image may.
      let crash : IsCrashImage (image_of device.sizes media) device.flights image = subst (λ (o : Option Media). IsSomeAnd o (λ m. IsCrashImage (image_of device.sizes m) device.flights image)) told may in
      record { same = crash.same; each = λ d s. ⊎_elim (λ same. inl same) (λ is. inr (planned d s (image.sector d s) is)) (crash.each d s) };
  flights = planned;
}

-- a flight of those that stay out was out
of_rest : (before after : List Flight) (f : Flight) (d s : ℕ) (x : Sector) → IsInFlight (before ++ after) d s x → IsInFlight (before ++ f ∷ after) d s x
of_rest [] after f d s x is = inr is
of_rest (g ∷ before) after f d s x (inl here) = inl here
of_rest (g ∷ before) after f d s x (inr there) = inr (of_rest before after f d s x there)

pub of_removed : (f : Flight) (old new : List Flight) → Removes f old new → (d s : ℕ) (x : Sector) → IsInFlight new d s x → IsInFlight old d s x
of_removed f old new removes d s x is =
    subst (λ (l : List Flight). IsInFlight l d s x) (sym removes.was) (of_rest removes.before removes.after f d s x (subst (λ (l : List Flight). IsInFlight l d s x) removes.is is))

-- no flight is out that wasn't
abbrev FliesNoMore : Device → Device → Type 0
FliesNoMore old new = (d s : ℕ) (value : Sector) → IsInFlight new.flights d s value → IsInFlight old.flights d s value

same_flights : (old new : Device) → new.flights ≡ old.flights → FliesNoMore old new
same_flights old new same d s value is = subst (λ (l : List Flight). IsInFlight l d s value) same is

cut_flights : (old new : Device) → Cuts old new → FliesNoMore old new
cut_flights old new cuts d s value is = absurd (no_flight new.flights (ap (λ (x : Device). x.flights) cuts.new_is) d s value is)

arranged_flights : (old new : Device) (what : Arrange) → Arranges old new what → FliesNoMore old new
arranged_flights old new (arrange.Fail disk) is d s value flying = same_flights old new (ap (λ (x : Device). x.flights) is) d s value flying
arranged_flights old new (arrange.Heal disk) is d s value flying = same_flights old new (ap (λ (x : Device). x.flights) is) d s value flying
arranged_flights old new (arrange.Cut word) is d s value flying = ⊎_elim
    (λ off. same_flights old new (ap (λ (x : Device). x.flights) off.1) d s value flying)
    (λ cuts. cut_flights (with_order old (arrange.Cut word)) new cuts d s value flying)
    is.1

-- where an image of the device after a step comes from: one of before, but for what the plan brings
pub record ComesFrom (P : Plan) (before : Device) (image : Image) : Type 0 where
  pub was : Image
  pub left : MayLeave before was
  pub same : SameDisks was image
  pub each : (d s : ℕ) → (image.sector d s ≡ was.sector d s) ⊎ P d s (image.sector d s)

as_before : (P : Plan) (before : Device) (image : Image) → MayLeave before image → ComesFrom P before image
as_before P before image may = record { was = image; left = may; same = record { disks = refl; size = λ d. refl }; each = λ d s. inl refl }

pub step_from : (P : Plan) (before after : Device) (step : DeviceStep before after) → StepIsPlanned P step → (image : Image) → MayLeave after image → ComesFrom P before image
step_from P before after (Started f starts) planned image may =
    let from = start_leaves before after f starts image may in
    record { was = from.0; left = from.1; same = from.2.same; each = λ d s. ⊎_elim (λ same. inl same) (λ put. inr (planned d s (image.sector d s) put)) (from.2.each d s) }
step_from P before after (WasCut cuts) planned image may = as_before P before image (cut_leaves before after cuts image may)
step_from P before after (Ended ticket buf ends) planned image may = as_before P before image (done_leaves before after ticket buf ends image may)
step_from P before after (Broke ticket buf ends) planned image may = as_before P before image (failed_leaves before after ticket buf ends image may)
step_from P before after (Waited waits) planned image may = as_before P before image (subst (λ (x : Device). MayLeave x image) waits.new_is may)
step_from P before after (Freed buf frees) planned image may = as_before P before image (subst (λ (x : Device). MayLeave x image) (sym frees) may)
step_from P before after (Lit none freed lights) planned image may = as_before P before image (subst (λ (x : Device). MayLeave x image) lights may)
step_from P before after (Arranged what arranges) planned image may = as_before P before image (arrange_leaves before after what arranges image may)

-- what is in flight after a step was so before, or the plan brings it
step_flies : (P : Plan) (before after : Device) (step : DeviceStep before after) → StepIsPlanned P step → (d s : ℕ) (value : Sector) → IsInFlight after.flights d s value → IsInFlight before.flights d s value ⊎ P d s value
step_flies P before after (Started f starts) planned d s value is = ⊎_elim (λ old. inl old) (λ own. inr (planned d s value own))
    (in_old_or_new before.flights f d s value (subst (λ (x : Device). IsInFlight x.flights d s value) starts.new_is is))
step_flies P before after (WasCut cuts) planned d s value is = inl (cut_flights before after cuts d s value is)
step_flies P before after (Ended ticket buf ends) planned d s value is = inl (of_removed ends.flight before.flights after.flights ends.flights d s value is)
step_flies P before after (Broke ticket buf ends) planned d s value is = inl (of_removed ends.flight before.flights after.flights ends.flights d s value is)
step_flies P before after (Waited waits) planned d s value is = inl (same_flights before after (ap (λ (x : Device). x.flights) waits.new_is) d s value is)
step_flies P before after (Freed buf frees) planned d s value is = inl (same_flights before after (sym (ap (λ (x : Device). x.flights) frees)) d s value is)
step_flies P before after (Lit none freed lights) planned d s value is = inl (same_flights before after (ap (λ (x : Device). x.flights) lights) d s value is)
step_flies P before after (Arranged what arranges) planned d s value is = inl (arranged_flights before after what arranges d s value is)

-- each step that starts no other flight keeps it
pub step_keeps : (P : Plan) (old : Image) (before after : Device) (step : DeviceStep before after) → StepIsPlanned P step → IsUnderWay P old before → IsUnderWay P old after
step_keeps P old before after step planned way = record {
  images = λ image may. let from = step_from P before after step planned image may in further P old from.was image (way.images from.was from.left) from.same from.each;
  flights = λ d s value is. ⊎_elim (way.flights d s value) (λ p. p) (step_flies P before after step planned d s value is);
}

-- what one plan brings, a wider one brings too
pub plan_widens : (P Q : Plan) (old : Image) (device : Device) → ((d s : ℕ) (value : Sector) → P d s value → Q d s value) → IsUnderWay P old device → IsUnderWay Q old device
plan_widens P Q old device more way = record {
  images = λ image may. let by = way.images image may in record { same = by.same; each = λ d s. ⊎_elim (λ same. inl same) (λ p. inr (more d s (image.sector d s) p)) (by.each d s) };
  flights = λ d s value is. more d s value (way.flights d s value is);
}
