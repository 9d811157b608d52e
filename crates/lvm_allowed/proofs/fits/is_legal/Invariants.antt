use Rattle.std.proofs.Common.{ℕ, ◌↔◌, take, drop}
use Rattle.lvm_vol.specs.Legal.{LegalFrom, Legal}
use Rattle.lvm_allowed.specs.Rows.{facts_of}
use Rattle.lvm_allowed.proofs.fits.is_legal.Given as goal

abbrev pub invariant-loop-k : goal.invariant-loop-k
invariant-loop-k l = (run : ℕ) → LegalFrom (facts_of run l.asks l.blocks (take l.k l.rows)) (facts_of run l.asks l.blocks (drop l.k l.rows)) ↔ Legal (facts_of run l.asks l.blocks l.rows)
