-- Runs over disks that hold nothing.
use Rattle.std.proofs.Common.{ℕ, List, []}
use Rattle.lvm_disk.specs.Device.{Device}
use Rattle.lvm_steps.specs.Moments.{ImagesKept, IsEarlier, IsUpheld}
use Rattle.lvm_vol.specs.Facts.{Fact, joined}
use Rattle.lvm_vol.specs.Legal.{Legal}
use Rattle.lvm_top.specs.Run.{Run, WhereAlone}
use Rattle.lvm_top.specs.Script.{facts_of}
use Rattle.lvm_top.specs.Blank.{IsToldBlank}
use Rattle.lvm_top.proofs.MomentsLemmas.{told_earlier, told_behind}
use Rattle.lvm_top.proofs.ScriptLemmas.Concluding.{run_upheld}

-- as if nothing had been told before
upheld_alone : (run : ℕ) (entry exit : Device) (facts : List Fact) → IsEarlier run entry [] → IsUpheld run entry exit facts → Legal (joined [] facts) × ImagesKept exit (joined [] facts)
upheld_alone run entry exit facts earlier upheld = (upheld.legal [] earlier, upheld.kept [] earlier)

-- so it is of a run over disks of zeros
pub first_upheld : (r : Run) → WhereAlone r (IsToldBlank r.entry → Legal (joined [] (facts_of r.history)) × ImagesKept r.exit (joined [] (facts_of r.history)))
first_upheld r = λ ran alone blank. upheld_alone r.named r.entry r.exit (facts_of r.history) (told_earlier r.named r.entry blank) (run_upheld r ran alone (told_behind r.named r.entry blank))
