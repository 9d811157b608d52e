use Rattle.std.proofs.Common.{◌∙◌, refl}
use Rattle.lvm_due.proofs.passed.Session.{blocked_tells}
use Rattle.lvm_due.specs.passed.Session.{core_of, held_of, place_of}
use Rattle.lvm_due.proofs.held.is_held_back.Goals as goal

pub blocked_by-requires : goal.blocked_by-requires
blocked_by-requires c = record { row = record { id = place_of c.args.request.now.id; ask = held_of c.args.request.now.ask }; among = c.requires.queued.among; its = refl }

pub returns : goal.returns
returns c = c.is_some.ensures ∙ blocked_tells (core_of c.args.session.now).queue.rows (place_of c.args.request.now.id) (held_of c.args.request.now.ask) _ c.requires.queued.ordered c.requires.queued.among c.blocked_by.ensures.blocks c.blocked_by.ensures.least
