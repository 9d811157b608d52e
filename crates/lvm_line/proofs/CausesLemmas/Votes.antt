-- By what the votes of a group are lost in which copies may have moved.
use Rattle.std.proofs.Common.{◌≡◌, true, not, refl, sym, ◌∙◌, ap}
use Rattle.lvm_num.specs.declared.descriptor.Descriptor.{Descriptor}
use Rattle.lvm_num.specs.Votes.{is_enough_to_write, votes_in}
use Rattle.lvm_kept.specs.Group.{IsAlike}
use Rattle.lvm_status.specs.Update.{members_there}
use Rattle.lvm_session.specs.Enabled.{is_lost}
use Rattle.lvm_session.specs.State.{State, state}
use Rattle.lvm_volume_lines.specs.passed.KeepsEvents.{LosesByFaults, LostForFaults}
use Rattle.lvm_volume_lines.proofs.passed.KeepsEvents.{votes_go}

-- the votes are counted over the members, which stay
pub moved_votes_go : (old new : State) → IsAlike new.core.descriptor old.core.descriptor → LosesByFaults old new → is_lost new.core ≡ true → LostForFaults old new
moved_votes_go old new alike loses lost =
    votes_go old (state new.device (record new.core { descriptor = old.core.descriptor })) refl loses
    (sym (ap (λ (k : Descriptor). not (is_enough_to_write k (votes_in k (members_there k new.core.status.wanted)))) alike) ∙ lost)
