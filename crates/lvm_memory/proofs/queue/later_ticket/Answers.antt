use Rattle.std.proofs.Common.{◌∙◌, sym}
use Rattle.lvm_memory.proofs.TicketsLemmas.{taken_all, fewer, taken_more, least_free}
use Rattle.lvm_memory.proofs.queue.later_ticket.Goals as goal

pub loop-ticket-init : goal.loop-ticket-init
loop-ticket-init c = taken_all c.args.flights.now 64 c.requires.taken

pub loop-ticket-smaller : goal.loop-ticket-smaller
loop-ticket-smaller c = fewer c.args.flights.now c.loop-ticket.ticket (sym c.is_taken.ensures ∙ c.loop-ticket-test.true)

pub loop-ticket-preserved : goal.loop-ticket-preserved
loop-ticket-preserved c = taken_more c.args.flights.now c.loop-ticket.ticket c.loop-ticket.invariant (sym c.is_taken.ensures ∙ c.loop-ticket-test.true)

pub returns-clause-least : goal.returns-clause-least
returns-clause-least c = least_free c.args.flights.now c.loop-ticket.ticket c.loop-ticket.invariant (sym c.is_taken.ensures ∙ c.loop-ticket-test.false)
