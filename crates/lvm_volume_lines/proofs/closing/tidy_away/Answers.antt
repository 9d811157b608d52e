use Rattle.std.proofs.Common.{Ok, Err, sym, ap, subst, ◌∙◌}
use Rattle.lvm_core.specs.State.{state_of}
use Rattle.lvm_range_lines.specs.passed.GroupLines.{Refusal}
use Rattle.lvm_range_lines.specs.passed.ReplyVariants as reply
use Rattle.lvm_volume_lines.specs.Commands.{IsLeftOff}
use Rattle.lvm_volume_lines.proofs.ClosingLemmas.{closes_dark_still, closes_lit_still, tidied_ready}
use Rattle.lvm_volume_lines.proofs.closing.tidy_away.Goals as goal

pub close_lit-requires : goal.close_lit-requires
close_lit-requires g c = record { ready = tidied_ready c.args.patience.now.left (state_of g.S.Shelf.device c.args.driver) (state_of g.S.Shelf.device c.tidy.new.driver) c.requires.ready c.in-Ok.ensures.gives }

pub returns-in-Ok : goal.returns-in-Ok
returns-in-Ok g c = record {
  given = Ok tt;
  left = c.tidy.new.driver;
  after = c.tidy.new.patience.left;
  gives = c.in-Ok.ensures.gives;
  leaves = c.tidy.ensures.leaves;
  is = subst (IsLeftOff g.S.Shelf.device c.tidy.new.driver c.args.posts c.args.bytes) (sym c.answered.ensures.stage) c.close_lit.ensures;
  says = c.answered.ensures.reply;
}

pub close_after-requires-clause-dark : goal.close_after-requires-clause-dark
close_after-requires-clause-dark g c dark =
    closes_dark_still c.args.patience.now.left (state_of g.S.Shelf.device c.args.driver) (state_of g.S.Shelf.device c.tidy.new.driver) c.in-Err.why c.requires.ready c.in-Err.ensures.gives (sym c.from.ensures ∙ dark)

pub close_after-requires-clause-lit : goal.close_after-requires-clause-lit
close_after-requires-clause-lit g c other =
    closes_lit_still c.args.patience.now.left (state_of g.S.Shelf.device c.args.driver) (state_of g.S.Shelf.device c.tidy.new.driver) c.in-Err.why c.requires.ready c.in-Err.ensures.gives (λ is. other (c.from.ensures ∙ is))

pub returns-in-Err : goal.returns-in-Err
returns-in-Err g c = record {
  given = Err c.in-Err.why;
  left = c.tidy.new.driver;
  after = c.tidy.new.patience.left;
  gives = c.in-Err.ensures.gives;
  leaves = c.tidy.ensures.leaves;
  is = subst (IsLeftOff g.S.Shelf.device c.tidy.new.driver c.args.posts c.args.bytes) (sym c.refused.ensures.stage) c.close_after.ensures;
  says = c.refused.ensures.reply ∙ ap (λ (r : Refusal). reply.Refused r) c.drain_refusal.ensures;
}
