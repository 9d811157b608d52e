-- The group that is found among disks is the group that their records alone tell.
use Rattle.std.proofs.Common.{◌≡◌, ℕ, Bool, true, false, ◌&&◌, Option, None, refl, sym, ap, ◌∙◌}
use Rattle.std.specs.Prelude.{if◌then◌else◌}
use Rattle.lvm_num.specs.declared.descriptor.Descriptor.{Descriptor}
use Rattle.lvm_num.specs.declared.status.Status.{Status}
use Rattle.lvm_num.specs.Disks.{Disks}
use Rattle.lvm_num.specs.Record.{Stamped, newest_below}
use Rattle.lvm_num.specs.Votes.{all_disks, votes_in, is_enough_to_read}
use Rattle.lvm_kept.specs.Contents.{Contents}
use Rattle.lvm_kept.specs.Group.{if_passes, passes, is_of, is_status_of, has_room, descriptor_among, is_voter, has_quorum, status_among, Finds}
use Rattle.lvm_varyon.specs.Found.{records_on}
use Rattle.lvm_varyon.specs.Chosen.{HoldsByName}

module _ (disks : Disks) (c : Contents) (id : ℕ) where
  alone : Contents
  alone = records_on disks c

  passes_alone : {X : Type 0} (of : X → Bool) (on : Bool) (o : Option (Stamped X)) → if_passes of (if on then o else None) ≡ (if on then if_passes of o else None)
  passes_alone of true o = refl
  passes_alone of false o = refl

  pub same_descriptor : descriptor_among (records_on disks c) all_disks id ≡ descriptor_among c disks id
  unfolding descriptor_among
  same_descriptor = λ i. newest_below (λ d. passes_alone (is_of id) (disks d) (c.descriptor d) i) c.disks

  voter_alone : (on : Bool) (o : Option (Stamped Descriptor)) (room : Bool) → passes (is_of id) (if on then o else None) && room ≡ on && passes (is_of id) o && room
  voter_alone true o room = refl
  voter_alone false o room = refl

  pub same_voters : is_voter (records_on disks c) all_disks id ≡ is_voter c disks id
  unfolding is_voter
  same_voters = λ i d. (ap (λ (o : Option (Stamped Descriptor)). passes (is_of id) (if disks d then c.descriptor d else None) && passes (has_room c d) o) same_descriptor
      ∙ voter_alone (disks d) (c.descriptor d) (passes (has_room c d) (descriptor_among c disks id))) i

  pub same_quorum : has_quorum (records_on disks c) all_disks id ≡ has_quorum c disks id
  unfolding has_quorum
  same_quorum = λ i. passes (λ (g : Descriptor). is_enough_to_read g (votes_in g (same_voters i))) (same_descriptor i)

  -- a voter is among the disks
  pub in_disks : (d : ℕ) → is_voter c disks id d ≡ true → disks d ≡ true
  unfolding is_voter
  in_disks d e = first (disks d) (passes (is_of id) (c.descriptor d)) (passes (has_room c d) (descriptor_among c disks id)) e
    where
      first : (a b e : Bool) → a && b && e ≡ true → a ≡ true
      first true b e is = refl
      first false b e is = absurd cc

  pub same_status : status_among (records_on disks c) all_disks id ≡ status_among c disks id
  unfolding status_among
  same_status = λ i. newest_below (λ d. each d i) c.disks
    where
      by_voter : (d : ℕ) (v : Bool) → is_voter c disks id d ≡ v → (if v then if_passes (is_status_of id) (if disks d then c.status d else None) else None) ≡ (if v then if_passes (is_status_of id) (c.status d) else None)
      by_voter d true is = ap (λ (b : Bool). if_passes (is_status_of id) (if b then c.status d else None)) (in_disks d is)
      by_voter d false is = refl

      each : (d : ℕ) → (if is_voter (records_on disks c) all_disks id d then if_passes (is_status_of id) (if disks d then c.status d else None) else None) ≡ (if is_voter c disks id d then if_passes (is_status_of id) (c.status d) else None)
      each d = ap (λ (vs : Disks). if vs d then if_passes (is_status_of id) (if disks d then c.status d else None) else None) same_voters ∙ by_voter d (is_voter c disks id d) refl

-- the group that may come on is found by the disks
pub holds_finds : (disks : Disks) (c : Contents) (name : _) (group : Descriptor) (was : Stamped Status) → HoldsByName (records_on disks c) name group was → Finds c disks group.id group
holds_finds disks c name group was holds = record {
  quorum = sym (same_quorum disks c group.id) ∙ holds.quorum;
  newest = holds.newest;
  found = sym (same_descriptor disks c group.id) ∙ holds.only.newest;
  is = holds.is;
}
