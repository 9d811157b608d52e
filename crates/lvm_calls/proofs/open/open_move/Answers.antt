use Rattle.std.proofs.Common.{◌≡◌, ◌∙◌, refl, sym, ap, Some}
use Rattle.std.specs.Prelude.{Err, Ok}
use Rattle.lvm_session.specs.Fields.{core_of}
use Rattle.lvm_session.specs.declared.answers.OpenFault.TheVariants as denial
use Rattle.lvm_calls.specs.Opening.{counts_seen}
use Rattle.lvm_calls.proofs.BringingLemmas.{markable}
use Rattle.lvm_calls.proofs.MovingLemmas.{gives_opened, gives_refused, move_taken, never_memory}
use Rattle.lvm_calls.proofs.open.open_move.Goals as goal

pub bring_to-requires-clause-going : goal.bring_to-requires-clause-going
bring_to-requires-clause-going g c = c.requires.awake.going (move_taken (core_of c.args.session.now) c.args.lv c.args.lp c.args.number c.args.to c.requires.awake c.in-None.ensures).on

pub bring_to-requires-clause-none : goal.bring_to-requires-clause-none
bring_to-requires-clause-none g c = (move_taken (core_of c.args.session.now) c.args.lv c.args.lp c.args.number c.args.to c.requires.awake c.in-None.ensures).none

pub bring_to-requires-clause-its : goal.bring_to-requires-clause-its
bring_to-requires-clause-its g c = (move_taken (core_of c.args.session.now) c.args.lv c.args.lp c.args.number c.args.to c.requires.awake c.in-None.ensures).its

pub bring_to-requires-clause-markable : goal.bring_to-requires-clause-markable
bring_to-requires-clause-markable g c =
    let its = move_taken (core_of c.args.session.now) c.args.lv c.args.lp c.args.number c.args.to c.requires.awake c.in-None.ensures in
    markable c.args.session.now.descriptor c.args.session.now.origin.table c.args.to c.requires.awake.fitting.valid c.requires.rows its.fine.unused.inside

pub returns-in-None-clause-gives : goal.returns-in-None-clause-gives
returns-in-None-clause-gives g c =
    gives_opened (counts_seen (g.S.Shelf.device c.args.shelf.now) (core_of c.args.session.now)) (core_of c.args.session.now) (core_of c.bring_to.new.session) c.args.lv c.args.lp c.args.number c.args.to (Ok tt) refl
    c.in-None.ensures c.bring_to.ensures.opens

pub returns-in-Some-clause-gives : goal.returns-in-Some-clause-gives
returns-in-Some-clause-gives g c =
    gives_refused (counts_seen (g.S.Shelf.device c.args.shelf.now) (core_of c.args.session.now)) (core_of c.args.session.now) (core_of c.args.session.now) c.args.lv c.args.lp c.args.number c.args.to (Err c.in-Some.fault)
    c.in-Some.fault refl c.in-Some.ensures refl

pub returns-in-Some-clause-memory : goal.returns-in-Some-clause-memory
returns-in-Some-clause-memory g c e =
    let same : c.in-Some.fault ≡ denial.Memory = cc e in
    never_memory (core_of c.args.session.now) c.args.lv c.args.lp c.args.number c.args.to (sym c.in-Some.ensures ∙ ap Some same)

pub returns-in-None-clause-memory : goal.returns-in-None-clause-memory
returns-in-None-clause-memory g c e = absurd (cc e)
