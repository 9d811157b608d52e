use Rattle.lvm_path.proofs.TargetsLemmas.{set_is}
use Rattle.lvm_path.proofs.target.set_state.Goals as goal

pub returns : goal.returns
returns c = rw c.from.ensures (set_is c.args.targets.now c.args.place _ c.args.state c.requires)
