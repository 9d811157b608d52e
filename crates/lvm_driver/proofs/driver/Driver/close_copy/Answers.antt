use Rattle.std.proofs.Common.{◌≡◌, ℕ, sym, subst}
use Rattle.lvm_session.specs.declared.answers.CopyState.TheVariants as stage
use Rattle.lvm_session.specs.Calls.{copy_state}
use Rattle.lvm_session.specs.State.{Core}
use Rattle.lvm_driver.proofs.FieldsLemmas.{close_on}
use Rattle.lvm_driver.proofs.driver.Driver.close_copy.Goals as goal

pub invariant_of-self : goal.invariant_of-self
invariant_of-self g c =
    let ended = subst (λ (v : g.row.S.Denot × Core). (cursor : ℕ) → copy_state v.1 ≡ stage.Running cursor → ⊥) (sym c.self.view_is) c.requires.ended in
    let sound = (close_on (g.S.Shelf.device c.self.inside.shelf) c.self.inside.session c.close_copy.new.session (c.self.invariant.0, c.self.invariant.1, c.self.invariant.3) c.close_copy.ensures.rooms (record { ended = ended; is = c.close_copy.ensures.closed })).sound in
    (sound.0, sound.1, c.all_due-self-inside.ensures, sound.2)

pub returns-clause-runs : goal.returns-clause-runs
returns-clause-runs g c =
    let ended = subst (λ (v : g.row.S.Denot × Core). (cursor : ℕ) → copy_state v.1 ≡ stage.Running cursor → ⊥) (sym c.self.view_is) c.requires.ended in
    rw (← c.self.view_is)
    (close_on (g.S.Shelf.device c.self.inside.shelf) c.self.inside.session c.close_copy.new.session (c.self.invariant.0, c.self.invariant.1, c.self.invariant.3) c.close_copy.ensures.rooms (record { ended = ended; is = c.close_copy.ensures.closed })).left
