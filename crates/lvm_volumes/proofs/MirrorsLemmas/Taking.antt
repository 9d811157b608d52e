-- Copies are removed: the descriptor in which the volume keeps its first ones is committed.
use Rattle.std.proofs.Common.{◌==◌, ◌≡◌, inl, ℕ, [], Some, sym, ap, subst, ◌∙◌, arith}
use Rattle.std.specs.Prelude.{List, not, IsFalse}
use Rattle.lvm_num.specs.declared.place.Pp.{Pp}
use Rattle.lvm_num.specs.declared.descriptor.LvRow.{LvRow}
use Rattle.lvm_num.specs.declared.descriptor.Descriptor.{Descriptor}
use Rattle.lvm_num.specs.declared.status.Status.{Status}
use Rattle.lvm_num.specs.Descriptor.{is_member, volume_of}
use Rattle.lvm_num.specs.Status.{calls_stale}
use Rattle.lvm_num.proofs.AmongLemmas.{any_one}
use Rattle.lvm_disk.specs.Device.{image_of}
use Rattle.lvm_kept.specs.Contents.{Contents, contents_of}
use Rattle.lvm_kept.specs.Group.{IsOneOf}
use Rattle.lvm_kept.specs.Moments.{Moment}
use Rattle.lvm_kept.proofs.CommittedLemmas.Finding.{images_within}
use Rattle.lvm_commit.specs.Committed.{IsAlike}
use Rattle.lvm_commit.specs.LawsOfVolumes.{VolumeServes}
use Rattle.lvm_commit.specs.Settling.{NoneIsLeft, MarksLeft}
use Rattle.lvm_session.specs.State.{Core, State, is_there}
use Rattle.lvm_volume_plan.specs.passed.Core.{IsSettled, LetsCommit, HasCommitted, IsHeldSince, Leaves, committing}
use Rattle.lvm_volumes.specs.Endings.{StillHeld, KeepsFresh}
use Rattle.lvm_volumes.proofs.StagesLemmas.Entering.{commit_still}
use Rattle.lvm_volumes.proofs.EndingsLemmas.Fresh.{not_stale}
use Rattle.lvm_volumes.proofs.Leaving.{leaves_wider}
use Rattle.lvm_volume_plan.specs.Copies.{first_copies}
use Rattle.lvm_volume_plan.specs.PlannedCopies.{IsWithFewer}
use Rattle.lvm_volume_plan.proofs.CopiesLemmas.Fewer as fewer
use Rattle.lvm_volume_plan.proofs.CopiesLemmas.Losing.{fresh_stays}
use Rattle.lvm_session.specs.Judging.{copies_in}
use Rattle.lvm_volumes.specs.Mirrors.{to_take, AreTaken}
use Rattle.lvm_volumes.proofs.JudgingLemmas.{copies_by, keeps_with}
use Rattle.lvm_volumes.proofs.MirrorSettlingLemmas.{none_left}
use Rattle.lvm_volumes.proofs.LawsOfVolumesLemmas.{first_serve, lets, removal_is_shown}
use Rattle.lvm_core.proofs.CommittingLemmas.Committing.{lets_one}

pub take_alike : (lv copies : ℕ) (next : Descriptor) (core : Core) → IsWithFewer lv copies core next → IsAlike next core.descriptor
take_alike lv copies next core plan = ap (λ (x : Descriptor). record x { lvs = [] }) plan.is

module _ (lv copies : ℕ) (next : Descriptor) (a : State) (plan : IsWithFewer lv copies a.core next) where
  abbrev d : Descriptor
  d = a.core.descriptor

  abbrev row : LvRow
  row = plan.row

  volume : volume_of d lv ≡ Some row
  volume = plan.may.keeps.shrinks.found.volume

  pub taken : (b : State) → HasCommitted next a b → AreTaken lv copies a b
  taken b done = record {
    row = row;
    may = plan.may;
    is = done.stated.is ∙ ap (λ (x : Descriptor). record a.core { descriptor = x; status = b.core.status; homes = b.core.homes }) plan.is;
    ready = done.stated.ready;
    cuts = done.stated.cuts;
  }

  -- none of the copies is left behind that wasn't
  none_named : NoneIsLeft d a.core.status → NoneIsLeft next a.core.status
  none_named none = subst (λ (x : Descriptor). NoneIsLeft x a.core.status) (sym plan.is)
      (none_left d lv copies row (first_copies row copies) a.core.status plan.group.valid volume (λ lp p one. inl (fewer.old_copies d lv copies row plan.group.valid volume plan.may.keeps.shrinks.are.fewer lp p one)) none)

  pub take_still : (p q : ℕ) (b : State) → Leaves (committing next) p q a b → MarksLeft next a.core.status b.core.status → HasCommitted next a b → StillHeld a b
  take_still p q b leaves left done = commit_still next p q a b leaves left done.stated (ap (λ (x : Descriptor). x.id) plan.is) (λ n. ap (λ (x : Descriptor). is_member x n) plan.is) none_named

  -- each logical partition keeps a fresh one
  pub take_keeps : IsSettled a.core → (b : State) → MarksLeft next a.core.status b.core.status → HasCommitted next a b → KeepsFresh a b
  take_keeps settled b left done = keeps_with lv copies row (first_copies row copies) a b volume next plan.is (ap (λ (x : Core). x.descriptor) done.stated.is) plan.valid left
      (λ lp lt has.
      let committed : Status = a.core.status.committed in
      let p = any_one (λ (p : Pp). not (calls_stale a.core.status.wanted p)) (copies_in d lv lp) has in
      let was : IsFalse (calls_stale committed p.0) = subst (λ (s : Status). IsFalse (calls_stale s p.0)) (sym settled.committed) (not_stale (calls_stale a.core.status.wanted p.0) p.2) in
      let q = fresh_stays committed row copies lp (plan.may.keeps.each lp lt) (λ (q : Pp). Unit {0}) (λ q one fresh found. tt) p.0 (subst (λ (ps : List Pp). IsOneOf ps p.0) (copies_by d lv lp row volume) p.1) was tt in (
        q.0,
        subst (λ (ps : List Pp). IsOneOf ps q.0) (sym (fewer.first_are d lv copies row plan.group.valid volume plan.may.keeps.shrinks.are.fewer lp lt)) q.1,
        subst (λ (s : Status). IsFalse (calls_stale s q.0)) settled.committed q.2,
      ))

  -- the descriptor may be committed
  lets_take : IsSettled a.core → (run : ℕ) (first : Moment) → IsHeldSince run first a → LetsCommit lv next run first a
  lets_take settled = lets a lv next settled.votes (λ m facts told shows kept.
      let c : Contents = contents_of (image_of a.device.sizes m) in
      let within = images_within (image_of a.device.sizes m) in
      subst (λ (x : Descriptor). VolumeServes c facts d lv x) (sym plan.is) (first_serve d lv copies row plan.group.valid volume c a.core.status.committed (is_there a.core) facts within settled.votes shows kept plan.may.keeps.shrinks.are.fewer
      (removal_is_shown c facts lv copies a.core row settled plan.group.valid within shows kept plan.may.keeps)))

  pub take_leaves : IsSettled a.core → (p q : ℕ) (b : State) → Leaves (committing next) p q a b → Leaves (to_take lv copies a.core) p q a b
  take_leaves settled p q b leaves = leaves_wider (committing next) (to_take lv copies a.core) (λ x is. (row, volume, is ∙ plan.is)) (λ pp none. none) (λ pp none. none) (λ pp none. none) (λ lv none. none) (omega arith) p q a b
      (λ run first held only. ((λ n. n == lv), lets_one lv next run first a (lets_take settled run first held))) leaves
