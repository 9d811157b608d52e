use Rattle.std.proofs.Common.{◌≡◌, ◌∙◌, length, ap, arith, refl, ℕ}
use Rattle.lvm_memory.specs.Flights.{delays_of}
use Rattle.lvm_memory.proofs.TicketsLemmas.{one_passed, all_lowered, lowered, length-delays}
use Rattle.lvm_memory.proofs.queue.pass_over.Goals as goal

pub loop-flying-preserved : goal.loop-flying-preserved
loop-flying-preserved c = one_passed c.args.flights.now c.loop-flying.flights c.loop-flying.flying-index c.flying-item.result _ c.loop-flying.invariant (omega arith) refl c.saturating_sub-flying.ensures

pub returns-clause-delays : goal.returns-clause-delays
returns-clause-delays c =
    let all : c.loop-flying.flying-index ≡ length (delays_of c.args.flights.now) = omega (arith, length-delays c.args.flights.now) in
    c.loop-flying.invariant.delays ∙ ap (λ (n : ℕ). lowered n (delays_of c.args.flights.now)) all ∙ all_lowered (delays_of c.args.flights.now)
