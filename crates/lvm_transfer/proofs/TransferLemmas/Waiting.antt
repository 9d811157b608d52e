-- A shelf that is waited for, and one that gives back buffers.
use Rattle.std.proofs.Common.{◌≡◌, ◌+◌, ◌-◌, ◌≤◌, [], ℕ, List, refl, sym, ◌∙◌, ap, subst, arith, true, Some}
use Rattle.lvm_disk.specs.passed.Num.{Buffer}
use Rattle.lvm_disk.specs.Counts.{RoseBy}
use Rattle.lvm_disk.specs.Device.{Device, MayLeave}
use Rattle.lvm_disk.specs.Steps.{Waits, FreedGives, Lights}
use Rattle.lvm_disk.specs.Images.{LeavesNoMore}
use Rattle.lvm_disk.specs.Paths.{DeviceStep, Waited, Freed, Lit, Path, Here, Then}
use Rattle.lvm_transfer.specs.Transfer.{WaitsOnly, Relights, StepsWhile, NoStep, OneStep, Costs, cost_of}

-- so many answers that nothing has ended
pub record WaitsSoFar (old now : Device) (n : ℕ) : Type 0 where
  pub only : WaitsOnly old now
  pub rose : RoseBy n old.counts.waits now.counts.waits
  pub moments : Path DeviceStep (LeavesNoMore old) old now

pub no_waits : (old : Device) → WaitsSoFar old old 0
no_waits old = record { only = record { later = omega arith; now_is = refl }; rose = record { later = omega arith; risen = omega arith }; moments = Here (λ image may. may) }

pub one_wait : (old now new : Device) (n : ℕ) → WaitsSoFar old now n → Waits now new → WaitsSoFar old new (n + 1)
one_wait old now new n so_far waits =
    let is : new ≡ record old { counts = record old.counts { waits = new.counts.waits } } = waits.new_is ∙ ap (λ (d : Device). record d { counts = record d.counts { waits = new.counts.waits } }) so_far.only.now_is in
    let later : old.counts.waits ≤ new.counts.waits = omega (arith, so_far.only.later, waits.waits.later) in
    record {
      only = record { later = later; now_is = is };
      rose = record { later = later; risen = omega (arith, so_far.rose.risen, waits.waits.risen, so_far.rose.later) };
      moments = Then so_far.moments (Waited waits) (λ image may. subst (λ (d : Device). MayLeave d image) is may);
    }

-- and so many that are still borne
pub record Borne (old now : Device) (first left n : ℕ) : Type 0 where
  pub so_far : WaitsSoFar old now n
  pub count : left + n ≡ first
  pub steps : StepsWhile first old left now

-- ---- what it costs

-- steps, and others after them
pub steps_more : {a b : ℕ} {old mid : Device} {c : ℕ} {new : Device} → StepsWhile a old b mid → StepsWhile b mid c new → StepsWhile a old c new
steps_more one NoStep = one
steps_more one (OneStep two step cost) = OneStep (steps_more one two) step cost

-- the waiting costs what was borne
pub borne_costs : (old now : Device) (first left n : ℕ) → Borne old now first left n → Costs first left old now
borne_costs old now first left n borne =
    let count = borne.count in
    let lost : n ≡ first - left = omega (arith, count) in
    record { falls = omega (arith, count); waited = subst (λ (k : ℕ). RoseBy k old.counts.waits now.counts.waits) lost borne.so_far.rose; steps = borne.steps }

-- and a step that isn't a wait costs nothing more
pub costs_then : (before left : ℕ) (old now new : Device) → Costs before left old now → (step : DeviceStep now new) → cost_of step ≡ 0 → new.counts.waits ≡ now.counts.waits → Costs before left old new
costs_then before left old now new costs step none same = record {
  falls = costs.falls;
  waited = subst (λ (k : ℕ). RoseBy (before - left) old.counts.waits k) (sym same) costs.waited;
  steps = OneStep costs.steps step (let e : left ≡ left + cost_of step = omega (arith, none) in e);
}

-- buffers that are given back so far
pub record FreesOnly (old now : Device) : Type 0 where
  pub same : now ≡ record old { freed = now.freed }
  pub moments : Path DeviceStep (LeavesNoMore old) old now

pub none_freed : (old : Device) → FreesOnly old old
none_freed old = record { same = refl; moments = Here (λ image may. may) }

pub one_freed : (old now new : Device) (buf : Buffer) → FreesOnly old now → FreedGives now new (Some buf) → FreesOnly old new
one_freed old now new buf so_far is =
    let same : new ≡ record old { freed = new.freed } = ap (λ (d : Device). record d { freed = new.freed }) (sym is ∙ so_far.same) in
    record { same = same; moments = Then so_far.moments (Freed buf is) (λ image may. subst (λ (d : Device). MayLeave d image) same may) }

pub lit : (old now new : Device) → FreesOnly old now → now.freed ≡ [] → Lights now new → Relights old new
lit old now new so_far none is = is ∙ ap (λ (d : Device). record d { power = true }) so_far.same ∙ ap (λ (l : List Buffer). record old { freed = l; power = true }) none

-- the call that found nothing to free changed nothing
pub lit_after : (old now mid new : Device) → old.flights ≡ [] → FreesOnly old now → now.freed ≡ [] → mid ≡ now → Lights mid new → Relights old new
lit_after old now mid new still so_far none same is = lit old now new so_far none (is ∙ ap (λ (d : Device). record d { power = true }) same)

pub lit_moments : (old now mid new : Device) → old.flights ≡ [] → FreesOnly old now → now.freed ≡ [] → mid ≡ now → Lights mid new → Path DeviceStep (LeavesNoMore old) old new
lit_moments old now mid new still so_far none same is =
    let lights : Lights now new = is ∙ ap (λ (d : Device). record d { power = true }) same in
    Then so_far.moments (Lit (ap (λ (d : Device). d.flights) so_far.same ∙ still) none lights) (λ image may. subst (λ (d : Device). MayLeave d image) (lit old now new so_far none lights) may)
