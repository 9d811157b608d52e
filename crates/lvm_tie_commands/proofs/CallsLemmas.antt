-- The partitions of added copies have their place in the status with which the session began.
use Rattle.std.proofs.Common.{◌≢◌, ℕ, List, [], sym, ap, subst, ◌∙◌}
use Rattle.std.specs.Prelude.{All}
use Rattle.lvm_num.specs.declared.descriptor.Descriptor.{Descriptor}
use Rattle.lvm_num.specs.declared.place.Pp.{Pp}
use Rattle.lvm_num.specs.declared.status.Status.{Status}
use Rattle.lvm_num.specs.Descriptor.{IsValid}
use Rattle.lvm_status.specs.Calls.{IsMarkable}
use Rattle.lvm_status.specs.Members.{HasItsRows}
use Rattle.lvm_session.specs.State.{Core, State, is_there}
use Rattle.lvm_tie_commands.specs.passed.Core.{AreUnused}
use Rattle.lvm_tie_commands.proofs.passed.Core.{unused_markable}
use Rattle.lvm_volumes.specs.passed.VolumePlan.{further_copies, with_copies, with_map}
use Rattle.lvm_volumes.proofs.passed.CopyPlanCopiesLemmasMore as more
use Rattle.lvm_volumes.proofs.passed.VolumePlan.{named}
use Rattle.lvm_volumes.specs.Mirrors.{AreAdded}
use Rattle.lvm_tie_commands.proofs.CopiesLemmas.Adding.{no_volume}

module _ (lv copies : ℕ) (old new : State) (added : List Pp) (it : AreAdded lv copies old new added) where
  abbrev d : Descriptor
  d = old.core.descriptor

  abbrev further : List Pp
  further = further_copies (with_map it.row copies it.pps) it.row.copies

  -- they are of members, so the status has a row for each
  pub added_markable : IsValid d → HasItsRows d old.core.origin.table → All (IsMarkable new.core.origin.table) added
  added_markable valid rows = subst (All (IsMarkable new.core.origin.table)) (sym it.added_is) (subst (λ (t : Status). All (IsMarkable t) further) (sym (ap (λ (c : Core). c.origin.table) it.is)) marked)
    where
      unused : AreUnused d further
      unused k e lt = (
        more.places_of d (is_there old.core) lv copies it.row it.pps valid it.may.places.grows.found.volume it.may.places.grows.are.more it.may.places.placed k e lt,
        more.free_of d (is_there old.core) lv copies it.row it.pps valid it.may.places.grows.found.volume it.may.places.grows.are.more it.may.places.placed k e lt,
      )

      marked : All (IsMarkable old.core.origin.table) further
      marked = unused_markable (record old.core { status = record old.core.status { wanted = old.core.origin.table } }) further valid rows unused

  -- the group has the volume still
  pub has_volumes : new.core.descriptor.lvs ≢ []
  has_volumes none = no_volume (with_copies d lv copies it.pps) lv (with_map it.row copies it.pps) (sym (ap (λ (c : Core). c.descriptor.lvs) it.is) ∙ none) (named lv copies it.pps d.lvs it.row it.may.places.grows.found.volume)
