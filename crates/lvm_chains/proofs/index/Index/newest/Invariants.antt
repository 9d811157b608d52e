use Rattle.lvm_chains.specs.Linked.{chains_of}
use Rattle.lvm_chains.proofs.LinkLemmas.{IsReached}
use Rattle.lvm_chains.proofs.index.Index.newest.Given as goal

abbrev pub invariant-loop-place : goal.invariant-loop-place
invariant-loop-place l = IsReached (chains_of l.self-inside.links.items) l.chain l.among l.place

abbrev pub decreases-loop-place : goal.decreases-loop-place
decreases-loop-place l = l.place
