use Rattle.std.proofs.Common.{[], refl}
use Rattle.lvm_core.specs.State.{state_of}
use Rattle.lvm_volume_lines.specs.passed.TieCommands.{MayServeWith}
use Rattle.lvm_volume_lines.proofs.passed.Splitting.{split_leaves_serving}
use Rattle.lvm_volume_lines.proofs.Ending.{dark_still, lit_still, rows_stay}
use Rattle.lvm_volume_lines.proofs.OfVolumes.{if_on}
use Rattle.lvm_volume_lines.proofs.SplittingLemmas.Giving.{split_facts, split_shape}
use Rattle.lvm_volume_lines.proofs.split.split_volume.Goals as goal

pub split-done-requires : goal.split-done-requires
split-done-requires g c = record { settled = λ takes. c.requires.settled }

pub after-requires-clause-dark : goal.after-requires-clause-dark
after-requires-clause-dark g c = dark_still _ _ _ c.split-done.result (split_facts _ _ _ _ _ _ c.requires.settled.power c.split-done.result c.split-done.ensures.gives)

pub after-requires-clause-lit : goal.after-requires-clause-lit
after-requires-clause-lit g c = lit_still _ _ _ c.split-done.result (split_facts _ _ _ _ _ _ c.requires.settled.power c.split-done.result c.split-done.ensures.gives)

pub after-requires-clause-rows : goal.after-requires-clause-rows
after-requires-clause-rows g c = λ goes. rows_stay _ _ (split_shape _ _ _ _ _ _ c.split-done.result c.split-done.ensures.gives goes) c.requires.rows

pub after-requires-clause-may : goal.after-requires-clause-may
after-requires-clause-may g c = λ goes.
    let mid = state_of g.S.Shelf.device c.args.driver in
    let left = state_of g.S.Shelf.device c.split-done.new.driver in
    let may : MayServeWith [] left =
    if_on c.split-done.result (MayServeWith [] left)
    (split_leaves_serving c.args.lv c.args.made c.args.copies c.args.patience.now.left c.split-done.new.patience.left mid left c.split-done.result c.requires.sound
    (record {
      began = c.requires.settled;
      on = c.split-done.ensures.settled (record { on = c.requires.settled.power; requests = c.requires.settled.quiet.requests });
      still = c.split-done.ensures.held;
      fresh = c.split-done.ensures.fresh;
      leaves = c.split-done.ensures.leaves;
    }) c.split-done.ensures.gives) goes in
    (may.0, may.1 refl)

pub returns : goal.returns
returns g c = record {
  given = c.split-done.result;
  left = c.split-done.new.driver;
  after = c.split-done.new.patience.left;
  gives = c.split-done.ensures.gives;
  commanded = record {
    began = c.requires.settled;
    on = c.split-done.ensures.settled (record { on = c.requires.settled.power; requests = c.requires.settled.quiet.requests });
    still = c.split-done.ensures.held;
    fresh = c.split-done.ensures.fresh;
    leaves = c.split-done.ensures.leaves;
  };
  is = c.after.ensures.stage;
  says = c.after.ensures.reply;
}
