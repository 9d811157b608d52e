use Rattle.std.proofs.Common.{◌==◌, ◌∙◌, List, sym, ap}
use Rattle.std.specs.List.{position}
use Rattle.lvm_memory.specs.Flights.{delays_of}
use Rattle.lvm_memory.specs.declared.flying.Flying.{Flying}
use Rattle.lvm_memory.proofs.TicketsLemmas.{due-position}
use Rattle.lvm_memory.proofs.memory.MemShelf.reap_now.Goals as goal

pub arrive-requires-clause-first : goal.arrive-requires-clause-first
arrive-requires-clause-first c =
    sym (ap (λ (l : List Flying). position (λ n. n == 0) (delays_of l)) c.deref.ensures.value) ∙ sym (due-position c.deref.result.now) ∙ sym c.first_due.ensures ∙ c.in-Some.is

pub pass-requires-clause-none : goal.pass-requires-clause-none
pass-requires-clause-none c =
    sym (ap (λ (l : List Flying). position (λ n. n == 0) (delays_of l)) c.deref.ensures.value) ∙ sym (due-position c.deref.result.now) ∙ sym c.first_due.ensures ∙ c.in-None.is
