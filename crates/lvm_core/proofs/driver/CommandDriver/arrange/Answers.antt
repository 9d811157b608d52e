use Rattle.std.proofs.Common.{sym, subst}
use Rattle.lvm_session.specs.State.{Core, state}
use Rattle.lvm_session.specs.Fields.{core_of}
use Rattle.lvm_core.specs.Sound.{IsSoundAtRest}
use Rattle.lvm_core.proofs.SoundLemmas.Arranging.{arranged_sizes, arranged_sound}
use Rattle.lvm_core.proofs.SoundLemmas.Dark.{may_end}
use Rattle.lvm_core.proofs.SoundLemmas.Own.{SameSizes, rooms_stay}
use Rattle.lvm_core.proofs.driver.CommandDriver.arrange.Goals as goal

pub arranged-requires : goal.arranged-requires
arranged-requires g c = may_end (core_of c.self.inside.session) c.self.invariant.1.none

pub invariant_of-self : goal.invariant_of-self
invariant_of-self g c =
    let device = g.S.Shelf.device in
    let session = c.self.inside.session in
    let core = core_of session in
    let after = c.arranged.ensures in (
      rooms_stay session c.arranged.new.session c.self.invariant.0 after.rooms
          (subst (SameSizes core) (sym after.core) (arranged_sizes c.args.what c.arrange-done.result core c.self.invariant.1.none)),
      subst (λ (core : Core). IsSoundAtRest (state (device c.arrange-done.new.self) core)) (sym after.core)
          (arranged_sound (device c.self.inside.shelf) (device c.arrange-done.new.self) core c.args.what c.arrange-done.result c.arrange-done.ensures c.self.invariant.1),
    )
