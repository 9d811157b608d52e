use Rattle.std.proofs.Common.{arith}
use Rattle.lvm_num.proofs.VotesLemmas.{total-few, total-even, total-many}
use Rattle.lvm_num.proofs.descriptor.Descriptor.total_votes.Goals as goal
use Rattle.lvm_num.proofs.descriptor.Descriptor.total_votes.Goals.{else-members-lt3-via-then-members-lt3+else-not-self, else-members-lt3-via-else-members-lt3}

pub returns-then-not-self : goal.returns-then-not-self
returns-then-not-self c =
    let total = total-few c.args.self.now c.requires.head.a_member (omega arith) c.if-not-self.true c.requires.members.disks_differ in
    omega (arith, total)

pub returns-else-members-lt3 : goal.returns-else-members-lt3
returns-else-members-lt3 c = elim c.else-members-lt3.branch [
  | else-members-lt3-via-then-members-lt3+else-not-self w ↦
      let even = c.requires.head.even w.if-not-self.false in
      let total = total-even c.args.self.now w.if-not-self.false even c.requires.members.disks_differ in
      omega (arith, total, even)
  | else-members-lt3-via-else-members-lt3 w ↦
      let total = total-many c.args.self.now.even c.args.self.now.pvs (omega arith) in
      omega (arith, total)
]
