use Rattle.std.proofs.Common.{◌+◌, ◌*◌, ◌∙◌, ap, refl, arith}
use Rattle.lvm_calls.proofs.Groups.{in_group}
use Rattle.lvm_calls.proofs.enter.step_of.Goals as goal

pub returns-clause-group : goal.returns-clause-group
returns-clause-group c =
    let is = c.block_at.ensures.is in
    let few = c.block_at.ensures.few in
    record {
      some = omega arith;
      end = omega (arith, few);
      group = in_group c.args.session.now.descriptor.mib c.args.copy.now.lp c.args.copy.now.cursor c.block_at.result (is ∙ ap (λ n. n * c.args.copy.now.lp + 256 * c.args.copy.now.cursor) c.partition_blocks-blocks.ensures);
      whole = λ e. refl;
    }
