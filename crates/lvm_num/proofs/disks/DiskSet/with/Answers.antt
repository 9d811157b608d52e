use Rattle.std.proofs.Common.{◌*◌, ◌%◌, ◌^◌, ◌||◌, ◌==◌, ap, ◌∙◌, arith}
use Rattle.std.proofs.lemmas.Nat.{or_lt}
use Rattle.lvm_num.specs.Disks.{has}
use Rattle.lvm_num.proofs.DisksLemmas.{has-with}
use Rattle.lvm_num.proofs.disks.DiskSet.with.Goals as goal

pub invariant_of-result : goal.invariant_of-result
invariant_of-result c = or_lt 128 c.self.inside.0 (1 * 2 ^ c.args.disk % 2 ^ 128) c.self.invariant (omega arith)

pub returns : goal.returns
returns c = λ other. has-with c.self.inside.0 c.args.disk c.requires other ∙ ap (λ set. has set other || other == c.args.disk) c.self.view_is
