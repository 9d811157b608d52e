use Rattle.std.proofs.Common.{sym, subst}
use Rattle.lvm_session.specs.Fields.{core_of}
use Rattle.lvm_session.specs.Sound.{IsGoing}
use Rattle.lvm_session.specs.State.{state}
use Rattle.lvm_session.specs.Worked.{faultless}
use Rattle.lvm_moves.proofs.PinningLemmas.{as_long, first_pins, is_destination, none_left, none_pins, rooms_on}
use Rattle.lvm_moves.proofs.pins.pin_first.Goals as goal

pub pin_at-requires-clause-going : goal.pin_at-requires-clause-going
pin_at-requires-clause-going c = subst IsGoing (sym c.loop-due.invariant.same) c.requires.going

pub pin_at-requires-clause-there : goal.pin_at-requires-clause-there
pin_at-requires-clause-there c = is_destination (core_of c.args.session.now) (core_of c.loop-due.session) (core_of c.loop-due.session) c.loop-due.invariant.same c.loop-due.due c.loop-due.invariant.due c.loop-due-test.true

pub pin_at-requires-clause-unfailing : goal.pin_at-requires-clause-unfailing
pin_at-requires-clause-unfailing c = c.loop-due.invariant.due.unfailing

pub pinned-requires : goal.pinned-requires
pinned-requires c =
    let core = core_of c.loop-due.session in
    record { there = as_long core (core_of c.pin_at.new.session) c.loop-due.due.pinning.from c.if-pin_at.ensures.at (is_destination (core_of c.args.session.now) core core c.loop-due.invariant.same c.loop-due.due c.loop-due.invariant.due c.loop-due-test.true) }

pub returns-then-pin_at-clause-gives : goal.returns-then-pin_at-clause-gives
returns-then-pin_at-clause-gives c =
    first_pins (core_of c.args.session.now) (core_of c.loop-due.session) (core_of c.pin_at.new.session) c.loop-due.invariant.same c.loop-due.due c.loop-due.invariant.due c.loop-due-test.true c.if-pin_at.ensures.at

pub returns-then-pin_at-clause-rooms : goal.returns-then-pin_at-clause-rooms
returns-then-pin_at-clause-rooms c = rooms_on c.args.session.now c.loop-due.session c.pin_at.new.session c.loop-due.invariant.rooms c.if-pin_at.ensures.rooms

pub returns-then-pin_at-clause-due : goal.returns-then-pin_at-clause-due
returns-then-pin_at-clause-due c =
    c.pinned.ensures (state faultless (core_of c.loop-due.session)) (subst IsGoing (sym c.loop-due.invariant.same) c.requires.going) (c.if-pin_at.ensures.at faultless) c.loop-due.invariant.due

pub loop-due-preserved : goal.loop-due-preserved
loop-due-preserved c =
    let next = none_pins (core_of c.args.session.now) (core_of c.loop-due.session) (core_of c.pin_at.new.session) c.loop-due.invariant.same c.loop-due.due c.loop-due.invariant.due c.loop-due-test.true c.if-pin_at.ensures.at in
    record { same = next.0; rooms = rooms_on c.args.session.now c.loop-due.session c.pin_at.new.session c.loop-due.invariant.rooms c.if-pin_at.ensures.rooms; due = next.1 }

pub returns-clause-gives : goal.returns-clause-gives
returns-clause-gives c = none_left (core_of c.args.session.now) (core_of c.loop-due.session) c.loop-due.due c.loop-due.invariant.same c.loop-due.invariant.due c.loop-due-test.false
