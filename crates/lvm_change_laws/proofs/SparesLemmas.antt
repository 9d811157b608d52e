-- A group of which the spares change may turn to its next descriptor.
use Rattle.std.proofs.Common.{◌≡◌, ◌⊎◌, inl, inr, ℕ, ◌*◌, Bool, true, false, List, map, refl, sym, ap, ◌∙◌}
use Rattle.std.specs.Prelude.{IsTrue, if◌then◌else◌, nat_lt}
use Rattle.lvm_num.specs.declared.descriptor.PvRow.{PvRow}
use Rattle.lvm_num.specs.declared.descriptor.Descriptor.{Descriptor}
use Rattle.lvm_num.specs.Descriptor.{is_member}
use Rattle.lvm_num.specs.Disks.{Disks}
use Rattle.lvm_num.specs.Votes.{all_disks, votes_in, CanWrite}
use Rattle.lvm_change_votes.specs.Meeting.{disks_of}
use Rattle.lvm_change_votes.proofs.MeetingLemmas.{same_members_meet}
use Rattle.lvm_change_votes.proofs.Plain.{plain, votes-plain}
use Rattle.lvm_change_votes.proofs.Counting.{votes}
use Rattle.lvm_change_laws.specs.Rule.{unspared}
use Rattle.lvm_change_laws.specs.Spares.{DiffersInSpares, MayChangeSpares, SparesAreChange}
use Rattle.lvm_change_laws.proofs.StayingLemmas.{all_stay}
use Rattle.lvm_change_laws.proofs.UnsparedLemmas.{unspared_disks}

module _ (group next : Descriptor) (differs : DiffersInSpares group next) where
  pub same_disks : disks_of next ≡ disks_of group
  same_disks = sym (unspared_disks next.pvs) ∙ ap (map (λ (row : PvRow). row.disk)) differs.members ∙ unspared_disks group.pvs

  same_even : next.even ≡ group.even
  same_even = ap (λ (g : Descriptor). g.even) differs.alone

  same_big : next.big ≡ group.big
  same_big = ap (λ (g : Descriptor). g.big) differs.alone

  same_quorum : next.quorum ≡ group.quorum
  same_quorum = ap (λ (g : Descriptor). g.quorum) differs.alone

  -- spares vote as others do
  pub same_votes : (set : Disks) → votes_in next set ≡ votes_in group set
  same_votes set =
      votes-plain next.even next.pvs set
      ∙ (λ t. votes (same_even t) (plain (same_disks t)) set)
      ∙ sym (votes-plain group.even group.pvs set)

  pub same_writes : (set : Disks) → CanWrite group set → CanWrite next set
  same_writes set can = (λ t. if same_quorum t then nat_lt (same_votes all_disks t) (2 * same_votes set t) else nat_lt 0 (same_votes set t)) ∙ can

pub spares_are_change : SparesAreChange
spares_are_change group next there may = record {
  valid = may.valid;
  valid_next = may.valid_next;
  differs = may.differs.alone ∙ (λ t. record group { pvs = next.pvs; quorum = sym (same_quorum group next may.differs) t; even = sym (same_even group next may.differs) t; big = sym (same_big group next may.differs) t });
  members = may.differs.members ∙ sym (all_stay (unspared group.pvs));
  near = same_members_meet group next (record { members = sym (same_disks group next may.differs); has = record { some = may.valid.head.a_member; apart = may.valid.members.disks_differ } });
  enough = may.enough;
  enough_too = same_writes group next may.differs there may.enough;
  found = by_quorum group.quorum refl;
}
  where
    by_quorum : (b : Bool) → group.quorum ≡ b → (next.quorum ≡ true) ⊎ (group.quorum ≡ false) ⊎ ((d : ℕ) → IsTrue (is_member next d) → IsTrue (there d))
    by_quorum true is = inl (same_quorum group next may.differs ∙ is)
    by_quorum false is = inr (inl is)
