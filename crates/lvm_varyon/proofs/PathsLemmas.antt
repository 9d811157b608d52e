-- The crash images of the reading and of the writes.
use Rattle.std.proofs.Common.{◌≡◌, ◌≢◌, ℕ, false, List, Option, Some, sym, subst, ◌∙◌}
use Rattle.std.specs.Prelude.{IfSome, option_map}
use Rattle.lvm_num.specs.Disks.{Disks, has}
use Rattle.lvm_num.specs.StatusBytes.{status_bytes}
use Rattle.lvm_disk.specs.Device.{Device, image_of, HasSectors}
use Rattle.lvm_disk.specs.Images.{LeavesNoMore}
use Rattle.lvm_disk.specs.Paths.{DeviceStep, Path}
use Rattle.lvm_disk.proofs.PathsLemmas.{map-path}
use Rattle.lvm_vol.specs.Facts.{Fact}
use Rattle.lvm_steps.specs.Moments.{ImagesKept, StaysKept}
use Rattle.lvm_steps.proofs.MomentsLemmas.Spans.{fewer_stay_kept}
use Rattle.lvm_quorum.specs.declared.row.Survey.{Survey}
use Rattle.lvm_varyon.specs.passed.Core.{Room}
use Rattle.lvm_varyon.specs.passed.Recovery.{MayEqualiseBy}
use Rattle.lvm_rec.specs.declared.homes.Homes.{Homes}
use Rattle.lvm_kept.specs.Plans.{ChangesBy}
use Rattle.lvm_write.proofs.WrittenLemmas.Writing.{both_from, if_told}
use Rattle.lvm_write.specs.Beginning.{Beginning, again_beginning, again_order, IsOfParts, MayBeginAgain}
use Rattle.lvm_write.proofs.PathsLemmas.Keeping.{kept_then}
use Rattle.lvm_varyon.specs.declared.plan.Plan.{Plan}
use Rattle.lvm_varyon.specs.Planned.{IsPlan}
use Rattle.lvm_varyon.specs.Parts.{IsSurveyOf}
use Rattle.lvm_varyon.specs.Varied.{IsAheadOfDisks}
use Rattle.lvm_varyon.specs.Copied.{all_copies}
use Rattle.lvm_varyon.specs.Equal.{AllWritesKeep}
use Rattle.lvm_varyon.specs.Writing.{beginning, AllWritten}
use Rattle.lvm_varyon.proofs.FoundLemmas.Seeing.{answered_by}
use Rattle.lvm_varyon.proofs.Beginning.{may_begin}
use Rattle.lvm_varyon.proofs.VariedLemmas.Bringing.{has_written, may_have, targets_are}
use Rattle.lvm_varyon.proofs.Equalled.{may_equalise_by}

pub reading_kept : (old new : Device) → Path DeviceStep (LeavesNoMore old) old new → Path DeviceStep (StaysKept old) old new
reading_kept old new path = map-path (StaysKept old) (λ d leaves. fewer_stay_kept old d leaves) path

module _ (old read : Device) (survey : Survey) (is : IsSurveyOf old read survey) (name : List ℕ) (moment : ℕ) (some : moment ≢ 0) (room : Room) (plan : Plan) (by : IsPlan survey name moment room plan) where
  begun_is : beginning moment by.group by.next (has plan.targets) plan.homes ≡ again_beginning moment plan.descriptor plan.status (has plan.targets) plan.homes
  begun_is = λ i. again_beginning moment (sym by.descriptor i) (sym by.status i) (has plan.targets) plan.homes

  module _ (whole : HasSectors old) (ahead : IsAheadOfDisks moment old) where
    -- once the records stand, the copies may be made
    may_equal : (homes : Homes) (restated : Device) → AllWritten (again_beginning moment plan.descriptor plan.status (has plan.targets) plan.homes) (again_order false) homes read restated
        → IfSome restated.media (λ media. (facts : List Fact) → ImagesKept restated facts → MayEqualiseBy (all_copies plan) plan.second moment (has plan.targets) homes by.group by.next (has plan.targets) restated)
    may_equal homes restated well = if_told restated.media (λ media. (facts : List Fact) → ImagesKept restated facts → MayEqualiseBy (all_copies plan) plan.second moment (has plan.targets) homes by.group by.next (has plan.targets) restated) (λ now told_now facts kept.
        let from = both_from read.media restated.media (λ was is. ChangesBy (IsOfParts (again_beginning moment plan.descriptor plan.status (has plan.targets) plan.homes) (again_order false)) (image_of read.sizes was) (image_of restated.sizes is)) now well.keeps.media told_now in
        let told : old.media ≡ Some from.0 = sym is.unwritten.media ∙ from.1 in
        subst (λ (o : Option (List ℕ)). MayEqualiseBy (all_copies plan) o moment (has plan.targets) homes by.group by.next (has plan.targets) restated) (sym by.second)
        (subst (λ (t : Disks). MayEqualiseBy (all_copies plan) (option_map status_bytes by.clean) moment t homes by.group by.next t restated) (sym (targets_are old read survey is name moment some room plan by))
        (may_equalise_by old restated name moment homes (has_written old read survey is name moment some room plan by restated well.keeps.misses (λ b second copies r. AllWritten b (again_order false) homes r restated) well)
        from.0 now told told_now (may_have old read survey is name moment some room plan by whole ahead from.0 told) by.valid (ahead by.chosen.early) facts kept)))

    pub writing_kept : (new : Device) → AllWritesKeep (again_beginning moment plan.descriptor plan.status (has plan.targets) plan.homes) (all_copies plan) plan.second read new
        → Path DeviceStep (LeavesNoMore old) old read → Path DeviceStep (StaysKept old) old new
    writing_kept new writes reads = kept_then old read new (reading_kept old read reads) (writes by.group by.next (answered_by survey) by.was
        (if_told read.media (λ media. MayBeginAgain (again_beginning moment plan.descriptor plan.status (has plan.targets) plan.homes) false by.group by.next (answered_by survey) by.was (image_of read.sizes media))
        (λ media told.
        subst (λ (b : Beginning). MayBeginAgain b false by.group by.next (answered_by survey) by.was (image_of read.sizes media)) begun_is
        (subst (λ (sizes : List ℕ). MayBeginAgain (beginning moment by.group by.next (has plan.targets) plan.homes) false by.group by.next (answered_by survey) by.was (image_of sizes media)) (sym is.unwritten.sizes)
        (may_begin old read survey is name moment some room plan by media (sym is.unwritten.media ∙ told) whole (ahead by.chosen.early)))))
        may_equal)
