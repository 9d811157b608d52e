-- What a change of a group's spares answers, and what holds behind it.
use Rattle.std.proofs.Common.{◌≡◌, inl, inr, ℕ, Bool, true, false, ap, sym, subst, ◌∙◌}
use Rattle.std.specs.Prelude.{Result, Ok, Err}
use Rattle.lvm_num.specs.declared.descriptor.Descriptor.{Descriptor}
use Rattle.lvm_core.specs.declared.fault.CommitFault.{CommitFault}
use Rattle.lvm_core.specs.declared.fault.CommitFault.TheVariants as commit
use Rattle.lvm_core.specs.Committing.{HasStated}
use Rattle.lvm_core.specs.Settled.{IsSettled}
use Rattle.lvm_session.specs.State.{Core, State, is_there}
use Rattle.lvm_change.specs.Spare.{with_spare}
use Rattle.lvm_change_laws.specs.Rule.{MayChange, no_member}
use Rattle.lvm_change_laws.proofs.SparesLemmas.{spares_are_change}
use Rattle.lvm_turnover.specs.Changing.{ChangeEnds}
use Rattle.lvm_members.specs.declared.spare.SpareFault.{SpareFault}
use Rattle.lvm_members.specs.declared.spare.SpareFault.TheVariants as fault
use Rattle.lvm_members.specs.Spares.{IfMarkedOn, IsMarkedAs, IsSpareAnswer, MayBeMarked, RefusesSpare, SpareEnds, SpareGives}

-- a settled session's group may turn so
pub marks_change : (next : Descriptor) (core : Core) → IsSettled core → IsMarkedAs next core → MayChange no_member core.descriptor next (is_there core)
marks_change next core settled marked = spares_are_change core.descriptor next (is_there core) (record { valid = marked.group.valid; valid_next = marked.valid; differs = marked.differs; enough = settled.votes })

-- what holds where nothing happens holds where the session goes on
pub refused_on : (why : SpareFault) (P : Type 0) → P → IfMarkedOn (Err why) P
refused_on fault.Dark P is = tt
refused_on (fault.WentOff have total) P is = tt
refused_on fault.Busy P is = is
refused_on (fault.DiskInUse disk) P is = is
refused_on fault.HistoryFull P is = is
refused_on fault.Stuck P is = tt
refused_on fault.Memory P is = is

-- by what its records answer
module _ (next : Descriptor) (p : ℕ) (old new : State) where
  pub spare_ends : (answer : Result (Unit {0}) CommitFault) (result : Result (Unit {0}) SpareFault) → ChangeEnds next p old new answer → IsSpareAnswer answer result → SpareEnds next p old new result
  spare_ends (Ok done) result ends is = subst (SpareEnds next p old new) (sym is) ends
  spare_ends (Err commit.Dark) result ends is = subst (SpareEnds next p old new) (sym is) ends
  spare_ends (Err (commit.WentOff have total)) result ends is = subst (SpareEnds next p old new) (sym is) ends
  spare_ends (Err commit.Stuck) result ends is = subst (SpareEnds next p old new) (sym is) ends
  spare_ends (Err (commit.DiskFailed disk)) result ends is = absurd ends

  -- what holds once it is committed holds where the session goes on
  pub spare_on : (P : Type 0) → (HasStated next old new → P) → (result : Result (Unit {0}) SpareFault) → SpareEnds next p old new result → IfMarkedOn result P
  spare_on P makes (Ok done) ends = makes ends
  spare_on P makes (Err fault.Dark) ends = tt
  spare_on P makes (Err (fault.WentOff have total)) ends = tt
  spare_on P makes (Err fault.Stuck) ends = tt
  spare_on P makes (Err fault.Busy) ends = absurd ends
  spare_on P makes (Err (fault.DiskInUse disk)) ends = absurd ends
  spare_on P makes (Err fault.HistoryFull) ends = absurd ends
  spare_on P makes (Err fault.Memory) ends = absurd ends

pub spare_gives : (disk : ℕ) (on : Bool) (p : ℕ) (old new : State) (result : Result (Unit {0}) SpareFault) → MayBeMarked disk on old.core → SpareEnds (with_spare disk on old.core.descriptor) p old new result → SpareGives disk on p old new result
spare_gives disk on p old new (Ok done) may ends = (may, ends)
spare_gives disk on p old new (Err why) may ends = inr (may, ends)
