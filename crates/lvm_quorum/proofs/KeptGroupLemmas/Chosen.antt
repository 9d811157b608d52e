-- What is chosen of a group, and by a name.
use Rattle.std.proofs.Common.{◌≡◌, ℕ, Bool, Option, Some, None, refl, sym, ap, subst, ◌∙◌}
use Rattle.std.specs.Prelude.{IfSome, slice_get, option_and_then, if◌then◌else◌}
use Rattle.lvm_num.specs.declared.descriptor.Descriptor.{Descriptor}
use Rattle.lvm_num.specs.declared.record.Stamp.{Stamp}
use Rattle.lvm_num.specs.Descriptor.{IsValid}
use Rattle.lvm_num.specs.Disks.{Disks}
use Rattle.lvm_num.specs.Record.{Stamped, newest_below}
use Rattle.lvm_num.specs.Votes.{all_disks, votes_in, is_enough_to_read}
use Rattle.lvm_quorum.specs.passed.Transfer.{Contents, if_passes, passes, is_status_of, descriptor_among, is_voter, has_quorum, status_among}
use Rattle.lvm_quorum.specs.Reading.{under}
use Rattle.lvm_quorum.specs.declared.row.SurveyRow.{SurveyRow}
use Rattle.lvm_quorum.specs.declared.row.Survey.{Survey}
use Rattle.lvm_quorum.specs.Surveyed.{surveyed, IsSurveyValid}
use Rattle.lvm_quorum.proofs.RecordLemmas.{newest_none}
use Rattle.lvm_quorum.proofs.KeptGroupLemmas.Voting.{no_voters}
use Rattle.lvm_quorum.proofs.GroupsLemmas.Epochs.{found_on}

-- ---- a group

-- what a row shows under a stamp is valid where all that rows show is
pub row_valid : {X : Type 0} (P : X → Type 0) (value : SurveyRow → Option X) (stamp : SurveyRow → Stamp) (r : Stamped X) (o : Option SurveyRow)
    → option_and_then (λ (row : SurveyRow). under (value row) (stamp row)) o ≡ Some r → ((row : SurveyRow) → o ≡ Some row → IfSome (value row) P) → P r.value
row_valid {X} P value stamp r None at valid = absurd cc
row_valid {X} P value stamp r (Some row) at valid = shown_valid (value row) at (valid row refl)
  where
    shown_valid : (o : Option X) → under o (stamp row) ≡ Some r → IfSome o P → P r.value
    shown_valid None e v = absurd cc
    shown_valid (Some g) e v = let same : g ≡ r.value = cc in subst P same v

-- what is found is valid
pub found_valid : (s : Survey) (id : ℕ) (r : Stamped Descriptor) → IsSurveyValid s → descriptor_among (surveyed s) all_disks id ≡ Some r → IsValid r.value
found_valid s id r valid found =
    let on = found_on (surveyed s) id r found in
    row_valid IsValid (λ row. row.descriptor) (λ row. row.descriptor_stamp) r (slice_get s.rows on.0) on.1 (λ row at. (valid on.0 row at).descriptor)

-- without a descriptor there is no status
pub no_status : (c : Contents) (id : ℕ) → descriptor_among c all_disks id ≡ None → status_among c all_disks id ≡ None
unfolding status_among
no_status c id none = newest_none (λ d. if is_voter c all_disks id d then if_passes (is_status_of id) (c.status d) else None) c.disks
    (λ d. ap (λ (b : Bool). if b then if_passes (is_status_of id) (c.status d) else None) (no_voters c id none d))

-- the newest status of a set of the voters' disks
pub status_is : (c : Contents) (id : ℕ) (set : Disks) → ((d : ℕ) → set d ≡ is_voter c all_disks id d) → newest_below (λ d. if set d then if_passes (is_status_of id) (c.status d) else None) c.disks ≡ status_among c all_disks id
unfolding status_among
status_is c id set same = λ t. newest_below (λ d. if same d t then if_passes (is_status_of id) (c.status d) else None) c.disks

pub votes_are : (c : Contents) (id : ℕ) (g : Descriptor) (set : Disks) → ((d : ℕ) → set d ≡ is_voter c all_disks id d) → votes_in g set ≡ votes_in g (is_voter c all_disks id)
votes_are c id g set same = let sets : set ≡ is_voter c all_disks id = λ t d. same d t in ap (votes_in g) sets

pub quorum_is : (c : Contents) (id have : ℕ) (r : Stamped Descriptor) (enough : Bool) → descriptor_among c all_disks id ≡ Some r → have ≡ votes_in r.value (is_voter c all_disks id) → enough ≡ is_enough_to_read r.value have → enough ≡ has_quorum c all_disks id
unfolding has_quorum
quorum_is c id have r enough found votes is =
    is ∙ ap (is_enough_to_read r.value) votes
    ∙ sym (ap (passes (λ (g : Descriptor). is_enough_to_read g (votes_in g (is_voter c all_disks id)))) found)
