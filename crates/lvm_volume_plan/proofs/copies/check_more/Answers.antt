use Rattle.std.proofs.Common.{arith}
use Rattle.lvm_volume_plan.proofs.DescriptorLemmas.{found_is}
use Rattle.lvm_volume_plan.proofs.copies.check_more.Goals as goal

pub returns-clause-may : goal.returns-clause-may
returns-clause-may g c = (
  c.in-Some.row.now,
  record {
    found = record {
      takes = c.in_ok-takes_commands.ensures.takes;
      volume = found_is c.args.driver.now.1.descriptor c.descriptor.result.now c.args.lv c.as_slice.result.now c.in-Some.row.now c.in-Some.ensures c.as_slice.ensures c.descriptor.ensures.same;
    };
    are = record { more = omega (arith, c.if-copies-row.false); most = omega (arith, c.if-copies-gt-MOST_COPIES.false) };
  },
)
