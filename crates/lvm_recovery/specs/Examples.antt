-- The copying, worked by hand: two disks that mirror a volume and differ in its first block.
use Rattle.std.specs.Prelude.{false, [], ◌∷◌, Some, All}
use Rattle.lvm_num.specs.declared.descriptor.Mode.TheVariants.{Active, Off}
use Rattle.lvm_num.specs.Buffer.{zero_sector}
use Rattle.lvm_kept.specs.Examples.{two}
use Rattle.lvm_recover.specs.passed.Even.{pair_sizes, status_of, shown_by, there_by, device_of, even_pair, torn_pair, naming}
use Rattle.lvm_recovery.specs.declared.copying.Recopy.{Recopy}
use Rattle.lvm_recovery.specs.Copying.{AreApart, MayCopy}
use Rattle.lvm_recovery.specs.Equalising.{MayEqualise}
use Rattle.lvm_recovery.specs.Planned.{ArePlanned}

-- from the beginning of the data of the first disk to that of the second
abbrev pub first_to_second : Recopy
first_to_second = record { from = record { disk = 0; sector = 4096 }; into = record { disk = 1; sector = 4096 } }

-- Where the note names the first track group, just this copy is planned, and it may be made; in mode off none is, and none where no note names anything.
pub record PairsCopy : Type 0 where
  pub named : ArePlanned (shown_by (torn_pair Active false naming)) (two Active) (Some (status_of (torn_pair Active false naming))) (there_by (torn_pair Active false naming)) (first_to_second ∷ [])
  pub ranges : All (MayCopy pair_sizes) (first_to_second ∷ [])
  pub apart : AreApart (first_to_second ∷ [])
  pub may : MayEqualise (first_to_second ∷ []) (there_by (torn_pair Active false naming)) (two Active) (status_of (torn_pair Active false naming)).value (there_by (torn_pair Active false naming)) (device_of (torn_pair Active false naming))
  pub off : ArePlanned (shown_by (torn_pair Off false naming)) (two Off) (Some (status_of (torn_pair Off false naming))) (there_by (torn_pair Off false naming)) []
  pub quiet : ArePlanned (shown_by (even_pair Active false false zero_sector)) (two Active) (Some (status_of (even_pair Active false false zero_sector))) (there_by (even_pair Active false false zero_sector)) []
