-- A transfer that has ended.
use Rattle.std.specs.Prelude.{◌≡◌, ◌≤◌, ◌+◌, ◌==◌, ℕ, false, List, Some, slice_get, slice_index_or}
use Rattle.lvm_session.specs.declared.flown.Flown.{Flown}
use Rattle.lvm_session.specs.declared.flown.Owner.{Owner}
use Rattle.lvm_session.specs.declared.open.Open.{Open}
use Rattle.lvm_session.specs.State.{Core}
use Rattle.lvm_session.specs.Sound.{IsGoing, count_if, hands_with}

-- The transfer at this place of the list is this owner's, and its buffer is out, and in nobody's hand.
pub record TransferHasEnded (core : Core) (at : ℕ) (who : Owner) (number : ℕ) : Type 0 where
  pub going : IsGoing core
  pub row : Flown
  pub there : slice_get core.flying at ≡ Some row
  pub own : row.owner ≡ who
  pub apart : (n : ℕ) → count_if (number == n) + hands_with core n ≤ count_if (slice_index_or core.pool n false)

-- the request at a place has this number
pub record HasId (requests : List Open) (place id : ℕ) : Type 0 where
  pub request : Open
  pub there : slice_get requests place ≡ Some request
  pub own : request.request.id ≡ id
