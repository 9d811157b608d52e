-- The group goes off.
use Rattle.std.specs.Prelude.{◌≡◌, ℕ, Bool, not, List, ◌++◌, Some, None, IsFalse}
use Rattle.lvm_num.specs.declared.place.Pp.{Pp}
use Rattle.lvm_invariant.specs.Found.{Votes}
use Rattle.lvm_invariant.specs.State.{Flying, Queued, ModelState}
use Rattle.lvm_invariant.specs.Good.{Good}
use Rattle.lvm_invariant.specs.Over.{AreOpen, landings, IsLegalOver}
use Rattle.lvm_vol.specs.declared.entry.Outcome.TheVariants as outcome

-- The disks that aren't missing have too few votes, and no flight is out.
pub record GoesOff (votes : Votes) (s : ModelState) (places : List ℕ) (started : ℕ → Bool) : Type 0 where
  pub lost : IsFalse (votes.writes (λ d. not (s.missing d)))
  pub no_data : (i : ℕ) (r : Queued) (c : Pp) → s.queue i ≡ Some r → r.targets c ≡ Some Flying → ⊥
  pub no_status : (d : ℕ) → IsFalse (s.status_flying d)
  pub no_note : (d : ℕ) → s.flying_note d ≡ None
  pub no_copy : s.step_write ≡ None
  pub requests : AreOpen s places started

-- All open requests land as Off. Each landing is a moment: so it is when the first of them have landed, and the rest haven't.
abbrev pub OffKeeps : Type 0
OffKeeps = (votes : Votes) (s : ModelState) (first rest : List ℕ) (started : ℕ → Bool)
    → GoesOff votes s (first ++ rest) started → Good votes s → IsLegalOver s (s.facts ++ landings outcome.Off s.name started first)
