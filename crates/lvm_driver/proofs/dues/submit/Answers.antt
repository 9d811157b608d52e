use Rattle.std.proofs.Common.{option_copied, sym, subst}
use Rattle.lvm_session.specs.Fields.{core_of}
use Rattle.lvm_session.specs.State.{Core}
use Rattle.lvm_session_turn.specs.passed.Due.{IsDue}
use Rattle.lvm_driver.proofs.CallsLemmas.{begun, refused, some}
use Rattle.lvm_driver.proofs.dues.submit.Goals as goal

pub submitted-requires : goal.submitted-requires
submitted-requires c =
    let old = core_of c.args.session.now in
    let new = core_of c.submit_request.new.session in
    let bytes = option_copied c.args.bytes in
    record { some = some old new c.args.client c.args.ask bytes (begun old new c.args.client c.args.ask bytes c.in-Ok.id c.in-Ok.ensures.gives) }

pub returns-in-Ok-clause-due : goal.returns-in-Ok-clause-due
returns-in-Ok-clause-due c =
    let old = core_of c.args.session.now in
    let bytes = option_copied c.args.bytes in
    c.submitted.ensures old c.args.client c.args.ask bytes c.requires.told (begun old (core_of c.submit_request.new.session) c.args.client c.args.ask bytes c.in-Ok.id c.in-Ok.ensures.gives) c.requires.due

pub returns-in-Err-clause-due : goal.returns-in-Err-clause-due
returns-in-Err-clause-due c =
    let stays = refused (core_of c.args.session.now) (core_of c.submit_request.new.session) c.args.client c.args.ask (option_copied c.args.bytes) c.in-Err.fault c.in-Err.ensures.gives in
    subst (λ (core : Core). IsDue core c.args.due.now) (sym stays) c.requires.due
