use Rattle.std.proofs.Common.{ℕ, ◌+◌, ◌<◌, [], get_or}
use Rattle.lvm_vol.specs.May.{known, May}
use Rattle.lvm_allowed.specs.Rows.{facts_of}
use Rattle.lvm_allowed.proofs.fits.may_get.Given as goal

abbrev pub invariant-loop-k : goal.invariant-loop-k
invariant-loop-k l = (run j : ℕ) → j < l.k → May (known (facts_of run l.asks l.blocks l.before) l.ask.vol (l.ask.at + j)) (get_or l.blocks (l.ask.place + j) [])
