-- The power is cut.
use Rattle.std.specs.Prelude.{ℕ, Bool, List, [], ◌∷◌, ◌++◌}
use Rattle.lvm_vol.specs.Facts.{Cut}
use Rattle.lvm_invariant.specs.Found.{Votes}
use Rattle.lvm_invariant.specs.State.{ModelState}
use Rattle.lvm_invariant.specs.Good.{Good}
use Rattle.lvm_invariant.specs.Over.{AreOpen, landings, IsLegalOver}
use Rattle.lvm_vol.specs.declared.entry.Outcome.TheVariants as outcome

-- Whatever is out, all open requests land as Dark. The cut and each landing are moments: so it is when the first of them have landed, and the rest haven't.
abbrev pub CutKeeps : Type 0
CutKeeps = (votes : Votes) (s : ModelState) (first rest : List ℕ) (started : ℕ → Bool)
    → AreOpen s (first ++ rest) started → Good votes s → IsLegalOver s ((s.facts ++ Cut ∷ []) ++ landings outcome.Dark s.name started first)
