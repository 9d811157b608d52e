-- A client gives an order to the shelf.
use Rattle.std.proofs.Common.{inl, Bool, true, false, refl, sym, subst}
use Rattle.lvm_session.specs.passed.Disk.{Arrange, Device, ArrangeGives, with_order}
use Rattle.lvm_session.specs.passed.DiskShelfArrange as arrange
use Rattle.lvm_session.specs.State.{Core, State, state}
use Rattle.lvm_session.specs.Dark.{after_arrange}
use Rattle.lvm_session.specs.Sound.{IsSound}
use Rattle.lvm_keeps.specs.Keeps.{OrderKeeps}
use Rattle.lvm_keeps.proofs.KeepsLemmas.Darkening.{darkens}
use Rattle.lvm_keeps.proofs.KeepsLemmas.Wait.{keeps}

-- the order is counted
ordered : (s : State) (what : Arrange) → IsSound s → IsSound (state (with_order s.device what) s.core)
ordered s what sound = keeps s s.device.counts.waits (with_order s.device what).orders sound

by_order : (s : State) (device : Device) (what : Arrange) (done : Bool) → IsSound s → ArrangeGives s.device device what done → IsSound (state device (after_arrange what done s.core))
by_order s device what false sound gives = subst (λ (d : Device). IsSound (state d s.core)) (sym gives.1) sound
by_order s device (arrange.Fail disk) true sound gives = subst (λ (d : Device). IsSound (state d s.core)) (sym gives.1) (ordered s (arrange.Fail disk) sound)
by_order s device (arrange.Heal disk) true sound gives = subst (λ (d : Device). IsSound (state d s.core)) (sym gives.1) (ordered s (arrange.Heal disk) sound)
by_order s device (arrange.Cut word) true sound gives =
    darkens (state (with_order s.device (arrange.Cut word)) s.core) (ordered s (arrange.Cut word) sound) s.core.status (record { group = refl; committed = refl; wanted = refl; in_flight = inl refl; stamp = inl refl }) s.core.cache refl (λ disk. refl) device gives.1.1

pub order_keeps : OrderKeeps
order_keeps old new what done sound event = subst (λ (core : Core). IsSound (state new.device core)) (sym event.is) (by_order old new.device what done sound event.device)
