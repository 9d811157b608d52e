-- Each end of a transfer leaves a tied session tied.
use Rattle.std.proofs.Common.{◌≡◌, ℕ, List, refl, subst}
use Rattle.lvm_disk.specs.Device.{HasSectors}
use Rattle.lvm_vol.specs.Facts.{Fact}
use Rattle.lvm_session.specs.declared.flown.Owner.{Owner}
use Rattle.lvm_session.specs.declared.flown.Owner.TheVariants as owner
use Rattle.lvm_session.specs.State.{State}
use Rattle.lvm_session.specs.Ends.{Ends, Learns}
use Rattle.lvm_session.specs.Sound.{IsSound}
use Rattle.lvm_tie.specs.Tied.{IsTied, Ties}
use Rattle.lvm_tie.proofs.NotesLemmas.NoteTies.{note_end_ties}
use Rattle.lvm_tie.proofs.StatusesLemmas.StatusTies.{status_end_ties}
use Rattle.lvm_tie.proofs.StepsLemmas.CopyEnds.{copy_end_ties}
use Rattle.lvm_tie.proofs.EndsWritesLemmas.{data_end_ties}

module _ (at : ℕ) (past : List Fact) (old new : State) (tied : IsTied past old) (sound : IsSound new) (sectors : HasSectors new.device) (ends : Ends old new at) where
  by_owner : (who : Owner) → ends.row.owner ≡ who → IsTied past new
  by_owner (owner.Data id target) own = data_end_ties at id target past old new tied sound (sectors, record { ends = ends; own = own })
  by_owner (owner.Status disk) own = status_end_ties at disk ends.ok past old new tied sound
      (sectors, record { row = ends.row; buf = ends.buf; own = own; returns = ends.returns; learns = subst (λ (o : Owner). Learns o old.core at ends.ok ends.buf new.core) own ends.learns })
  by_owner (owner.Note disk) own = note_end_ties at disk past old new tied sound (record { ends = ends; own = own })
  by_owner owner.Copy own = copy_end_ties at past old new tied sound (sectors, record { ends = ends; own = own; learns = subst (λ (o : Owner). Learns o old.core at ends.ok ends.buf new.core) own ends.learns })

pub end_ties : (at : ℕ) → Ties (λ old new. HasSectors new.device × Ends old new at)
end_ties at past old new tied sound it = by_owner at past old new tied sound it.0 it.1 it.1.row.owner refl
