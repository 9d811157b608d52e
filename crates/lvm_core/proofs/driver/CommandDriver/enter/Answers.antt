use Rattle.std.proofs.Common.{List, ℕ, sym, subst}
use Rattle.lvm_vol.specs.Log.{Log, plain_fact, with_fact}
use Rattle.lvm_session.specs.State.{state}
use Rattle.lvm_session.specs.Fields.{core_of}
use Rattle.lvm_core.specs.Sound.{IsSoundAtRest}
use Rattle.lvm_core.proofs.SoundLemmas.Entering.{entered_sound}
use Rattle.lvm_core.proofs.driver.CommandDriver.enter.Goals as goal

pub invariant_of-self : goal.invariant_of-self
invariant_of-self g c =
    let core = core_of c.self.inside.session in
    let device = g.S.Shelf.device c.self.inside.shelf in (
      record { requests = c.self.invariant.0.requests; flying = c.self.invariant.0.flying; bytes = c.self.invariant.0.bytes },
      subst (λ (log : Log). IsSoundAtRest (state device (record core { history = log; last = c.forget_reads.new.last }))) (sym c.push.ensures)
          (subst (λ (last : List ℕ). IsSoundAtRest (state device (record core { history = with_fact core.history (plain_fact c.args.entry); last = last }))) (sym c.forget_reads.ensures)
          (entered_sound device core c.args.entry c.requires.command c.self.invariant.1)),
    )
