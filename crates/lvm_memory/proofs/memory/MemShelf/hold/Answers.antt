use Rattle.std.proofs.Common.{List, arith, sym, subst}
use Rattle.lvm_memory.specs.Flights.{delays_of, flights_of}
use Rattle.lvm_memory.specs.Gate.{IsPassedOver}
use Rattle.lvm_memory.specs.declared.flying.Flying.{Flying}
use Rattle.lvm_memory.proofs.GateLemmas.{passed_over, written_back}
use Rattle.lvm_memory.proofs.memory.MemShelf.hold.Goals as goal

pub returns-clause-held : goal.returns-clause-held
returns-clause-held c = λ some.
    let now = written_back c.args.self.now.flights.len c.delay_by_ticket.new.flights c.args.self.now.flights.items (omega arith) (omega arith) in
    subst (λ (l : List Flying). IsPassedOver c.args.ticket (flights_of l) (delays_of l)) (sym now)
    (passed_over c.args.ticket c.args.delay c.deref_mut.result.now c.delay_by_ticket.new.flights c.delay_by_ticket.ensures.flights c.delay_by_ticket.ensures.delays some)
