-- The next descriptor of a group whose rule of votes or whose size changes, and when it may not be committed.
use Rattle.std.specs.Prelude.{◌≡◌, ◌⊎◌, ℕ, Bool, true, false, IsTrue, IsFalse}
use Rattle.lvm_num.specs.declared.descriptor.Descriptor.{Descriptor}
use Rattle.lvm_num.specs.Disks.{Disks}
use Rattle.lvm_num.specs.Descriptor.{is_member}
use Rattle.lvm_num.specs.Votes.{votes_in, total_votes, is_enough_to_write}
use Rattle.lvm_change.specs.declared.rule.FewVotes.{FewVotes}

-- with quorum checking on or off; two members are even no more
abbrev pub with_quorum : Bool → Descriptor → Descriptor
with_quorum on d = record d { quorum = on; even = false }

abbrev pub as_big : Descriptor → Descriptor
as_big d = record d { big = true }

-- quorum checking is switched off while a member is missing
pub record LosesVotes (was next : Descriptor) (there : Disks) : Type 0 where
  pub on : was.quorum ≡ true
  pub off : next.quorum ≡ false
  pub disk : ℕ
  pub member : IsTrue (is_member next disk)
  pub missing : IsFalse (there disk)

-- it isn't, or none is missing
abbrev pub KeepsVotes : Descriptor → Descriptor → Disks → Type 0
KeepsVotes was next there = (next.quorum ≡ true) ⊎ (was.quorum ≡ false) ⊎ ((disk : ℕ) → IsTrue (is_member next disk) → IsTrue (there disk))

-- these are the votes by the next descriptor; they are too few to write, or all of them would have to be found
pub record IsRefused (was next : Descriptor) (there : Disks) (votes : FewVotes) : Type 0 where
  pub have_is : votes.have ≡ votes_in next there
  pub total_is : votes.total ≡ total_votes next
  pub cause : IsFalse (is_enough_to_write next votes.have) ⊎ LosesVotes was next there
