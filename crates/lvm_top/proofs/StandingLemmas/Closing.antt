-- What a `varyoffvg` finds.
use Rattle.std.proofs.Common.{◌≡◌, ⊎_elim, ℕ, List, ap}
use Rattle.std.specs.Prelude.{IfSome}
use Rattle.lvm_kept.specs.Moments.{Moment}
use Rattle.lvm_line.specs.passed.GroupLines.{IsBetween, OfGroup, ScriptState, Reply}
use Rattle.lvm_line.specs.passed.VolumeLines.{BusyVaryoff, NoVaryoff, TidiesOff, UndrainedVaryoff, VariesOff, VaryoffDoes, VaryoffFails}
use Rattle.lvm_top.specs.Standing.{StoodBefore}
use Rattle.lvm_top.proofs.Devices.{NothingNew, same_nothing}
use Rattle.lvm_top.proofs.StandingLemmas.Volumes.{done_finds, undrained_nothing}

module _ (run : ℕ) (old new : ScriptState) (between : IsBetween old.moment old.session old.posts) (named : IfSome old.session (λ core. core.history.run ≡ run)) (stood : StoodBefore run OfGroup old new) (answer : Reply) (name : List ℕ) where
  -- nothing that wasn't found before: no descriptor is committed
  pub varyoff_nothing : VaryoffDoes name old new answer → NothingNew old.moment.device new.moment.device
  varyoff_nothing (NoVaryoff none is) = same_nothing old.moment.device new.moment.device (ap (λ (s : ScriptState). s.moment.device) is.1)
  varyoff_nothing (BusyVaryoff on busy is) = same_nothing old.moment.device new.moment.device (ap (λ (s : ScriptState). s.moment.device) is.1)
  varyoff_nothing (VariesOff core some on none clean ends is) = same_nothing old.moment.device new.moment.device (ap (λ (m : Moment). m.device) ends.same)
  varyoff_nothing (UndrainedVaryoff core why some on dirty un) = undrained_nothing run old new between named stood core why answer some un
  varyoff_nothing (TidiesOff core left mid some on dirty drains done is) = λ id k it. ⊎_elim (λ before. before) (λ next. absurd next.1) (done_finds run old new between named stood core left mid some drains done id k it)
  varyoff_nothing (VaryoffFails core left mid why some on dirty drains done is) = λ id k it. ⊎_elim (λ before. before) (λ next. absurd next.1) (done_finds run old new between named stood core left mid some drains done id k it)
