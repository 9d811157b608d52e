-- Disks that show a group, and the members among them.
use Rattle.std.proofs.Common.{◌≡◌, ℕ, ◌&&◌, Bool, true, Option, Some, None, refl, sym, ◌∙◌}
use Rattle.std.specs.Prelude.{IsTrue}
use Rattle.std.proofs.lemmas.Bool.{eqb-true}
use Rattle.lvm_num.specs.declared.descriptor.Descriptor.{Descriptor}
use Rattle.lvm_num.specs.Disks.{Disks}
use Rattle.lvm_num.specs.Record.{Stamped}
use Rattle.lvm_num.specs.Votes.{all_disks}
use Rattle.lvm_kept.specs.Contents.{Contents}
use Rattle.lvm_kept.specs.Group.{passes, is_of, has_room, members_in}
pub use Rattle.lvm_kept.proofs.CommittedLemmas.Alike.{same_id, same_votes, same_room}
use Rattle.lvm_steps.proofs.RecordLemmas.{split, join}

-- a record that is shown passes where the test does
pub shows_of : {X : Type 0} (of : X → Bool) (o : Option (Stamped X)) → passes of o ≡ true → (r : Stamped X) × (o ≡ Some r) × (of r.value ≡ true)
shows_of of None e = absurd cc
shows_of of (Some r) e = (r, refl, e)

-- a disk shows the descriptor of one group
pub one_group : (o : Option (Stamped Descriptor)) (a b : ℕ) → passes (is_of a) o ≡ true → passes (is_of b) o ≡ true → a ≡ b
one_group None a b p q = absurd cc
one_group (Some r) a b p q = sym (eqb-true r.value.id a p) ∙ eqb-true r.value.id b q

module _ (c : Contents) (set : Disks) (id : ℕ) (g : Descriptor) (d : ℕ) where
  -- what a member among the disks is
  pub parts_of : IsTrue (members_in c set id g d) → (set d ≡ true) × (passes (is_of id) (c.descriptor d) ≡ true) × (has_room c d g ≡ true)
  parts_of is =
      let two = split (set d && passes (is_of id) (c.descriptor d)) (has_room c d g) is in
      let in_set = split (set d) (passes (is_of id) (c.descriptor d)) two.0 in
      (in_set.0, in_set.1, two.1)

  pub member_of_parts : set d ≡ true → passes (is_of id) (c.descriptor d) ≡ true → has_room c d g ≡ true → IsTrue (members_in c set id g d)
  member_of_parts in_set shows room = join (set d && passes (is_of id) (c.descriptor d)) (has_room c d g) (join (set d) (passes (is_of id) (c.descriptor d)) in_set shows) room

  -- one among all disks
  pub among_all : IsTrue (members_in c set id g d) → IsTrue (members_in c all_disks id g d)
  among_all is = let parts = parts_of is in join (passes (is_of id) (c.descriptor d)) (has_room c d g) parts.1 parts.2
