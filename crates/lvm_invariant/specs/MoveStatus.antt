-- A write of the update in flight starts or ends.
use Rattle.std.specs.Prelude.{◌≡◌, ◌⊎◌, ℕ, Bool, Option, Some}
use Rattle.lvm_num.specs.Record.{Stamped}
use Rattle.lvm_invariant.specs.Found.{Votes}
use Rattle.lvm_invariant.specs.Updates.{with_status}
use Rattle.lvm_invariant.specs.State.{Marks, ModelState}
use Rattle.lvm_invariant.specs.Good.{Good}

-- disks have the update, or what they had
pub record StatusMoves (s : ModelState) (u : Stamped Marks) (status : ℕ → Option (Stamped Marks)) : Type 0 where
  pub flies : s.in_flight ≡ Some u
  pub each : (d : ℕ) → (status d ≡ s.media.status d) ⊎ (status d ≡ Some u)

abbrev pub moved : ModelState → (ℕ → Option (Stamped Marks)) → (ℕ → Bool) → ModelState
moved s status flying = record s { media = with_status s.media status; status_flying = flying }

abbrev pub MoveStatusKeeps : Type 0
MoveStatusKeeps = (votes : Votes) (s : ModelState) (u : Stamped Marks) (status : ℕ → Option (Stamped Marks)) (flying : ℕ → Bool)
    → StatusMoves s u status → Good votes s → Good votes (moved s status flying)
