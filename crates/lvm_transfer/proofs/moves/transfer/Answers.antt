use Rattle.std.proofs.Common.{ℕ, sym, ap, subst}
use Rattle.lvm_disk.specs.Device.{Device}
use Rattle.lvm_disk.specs.Paths.{DeviceStep, Path}
use Rattle.lvm_kept.specs.Raw.{OnlyAdds}
use Rattle.lvm_transfer.specs.declared.moves.Patience.{Patience}
use Rattle.lvm_transfer.specs.Transfer.{StepsWhile, flight_of}
use Rattle.lvm_transfer.proofs.TransferLemmas.Ending.{started_moments, dark_moments, any_ticket, was_cut, started_costs, dark_costs}
use Rattle.lvm_transfer.proofs.moves.transfer.Goals as goal
use Rattle.lvm_transfer.proofs.moves.transfer.Goals.{in-Ticket, in-Dark}

pub returns-clause-moments : goal.returns-clause-moments
returns-clause-moments g c =
    let old = g.S.Shelf.device c.args.shelf.now in
    let mid = g.S.Shelf.device c.start.new.shelf in
    let last = g.S.Shelf.device c.match-start.shelf in
    let flight = flight_of 0 c.args.write c.args.disk c.args.first c.args.count c.args.buf in
    elim c.match-start.branch [
      | in-Ticket w ↦ subst (λ (d : Device). Path DeviceStep (OnlyAdds flight old) old d) (sym (ap g.S.Shelf.device w.shelf-is))
          (any_ticket w.in-Ticket.field-0 c.args.write c.args.disk c.args.first c.args.count c.args.buf old (g.S.Shelf.device w.finish.new.shelf)
          (started_moments (flight_of w.in-Ticket.field-0 c.args.write c.args.disk c.args.first c.args.count c.args.buf) old mid (g.S.Shelf.device w.finish.new.shelf) w.in-Ticket.ensures w.finish.ensures.moments))
      | in-Dark w ↦ subst (λ (d : Device). Path DeviceStep (OnlyAdds flight old) old d) (sym (ap g.S.Shelf.device w.shelf-is))
          (dark_moments flight old mid (was_cut old mid c.requires.ready.power w.in-Dark.ensures.2))
    ]

pub returns-clause-costs : goal.returns-clause-costs
returns-clause-costs g c =
    let old = g.S.Shelf.device c.args.shelf.now in
    let mid = g.S.Shelf.device c.start.new.shelf in
    let before = c.args.patience.now.left in
    elim c.match-start.branch [
      | in-Ticket w ↦ subst (λ (d : Device). StepsWhile before old c.match-start.patience.left d) (sym (ap g.S.Shelf.device w.shelf-is))
          (subst (λ (n : ℕ). StepsWhile before old n (g.S.Shelf.device w.finish.new.shelf)) (sym (ap (λ (p : Patience). p.left) w.patience-is))
          (started_costs before w.finish.new.patience.left (flight_of w.in-Ticket.field-0 c.args.write c.args.disk c.args.first c.args.count c.args.buf) old mid (g.S.Shelf.device w.finish.new.shelf) w.in-Ticket.ensures w.finish.ensures.costs))
      | in-Dark w ↦ subst (λ (d : Device). StepsWhile before old c.match-start.patience.left d) (sym (ap g.S.Shelf.device w.shelf-is))
          (subst (λ (n : ℕ). StepsWhile before old n mid) (sym (ap (λ (p : Patience). p.left) w.patience-is))
          (dark_costs before old mid (was_cut old mid c.requires.ready.power w.in-Dark.ensures.2)))
    ]
