-- The mode of a request's volume.
use Rattle.std.proofs.Common.{◌≡◌, true, List, Option, refl, sym, ap, ◌∙◌}
use Rattle.std.specs.Option.{option_map_or}
use Rattle.lvm_num.specs.declared.descriptor.LvRow.{LvRow}
use Rattle.lvm_num.specs.declared.descriptor.Mode.{Mode}
use Rattle.lvm_num.specs.declared.descriptor.Mode.TheVariants as mode
use Rattle.lvm_vol.specs.Facts.{Fact}
use Rattle.lvm_map.proofs.PlacesLemmas.{volume_at}
use Rattle.lvm_kept.proofs.ChangesLemmas.Entries.{volume_is_row}
use Rattle.lvm_path.specs.declared.ask.Ask.{Ask}
use Rattle.lvm_path.specs.Asks.{lv_of}
use Rattle.lvm_session.specs.State.{State}
use Rattle.lvm_session.specs.Judging.{IsWithinVolume, mode_of}
use Rattle.lvm_num.specs.Modes.{is_active, is_passive}
use Rattle.lvm_tie.specs.Tied.{IsTied}

module _ (past : List Fact) (s : State) (tied : IsTied past s) (ask : Ask) (inside : IsWithinVolume s.core.descriptor ask) where
  mode_is : mode_of s.core ask ≡ inside.row.mode
  mode_is = ap (λ (o : Option LvRow). option_map_or (λ (row : LvRow). row.mode) o mode.Off) inside.volume

  row_number : inside.row.number ≡ lv_of ask
  row_number = (volume_at s.core.descriptor (lv_of ask) inside.row inside.volume).its

  pub active_is : tied.view.is_active (lv_of ask) ≡ is_active (mode_of s.core ask)
  active_is = ap tied.view.is_active (sym row_number) ∙ tied.describes.volumes.notes inside.row (volume_is_row s.core.descriptor (lv_of ask) inside.row inside.volume) ∙ ap is_active (sym mode_is)

  pub passive_is : tied.view.is_passive (lv_of ask) ≡ is_passive (mode_of s.core ask)
  passive_is = ap tied.view.is_passive (sym row_number) ∙ tied.describes.volumes.mark inside.row (volume_is_row s.core.descriptor (lv_of ask) inside.row inside.volume) ∙ ap is_passive (sym mode_is)

pub active_mode : (m : Mode) → is_active m ≡ true → m ≡ mode.Active
active_mode mode.Active h = refl
active_mode mode.Passive h = absurd cc
active_mode mode.Off h = absurd cc

pub passive_mode : (m : Mode) → is_passive m ≡ true → m ≡ mode.Passive
passive_mode mode.Active h = absurd cc
passive_mode mode.Passive h = refl
passive_mode mode.Off h = absurd cc
