-- The groups that are worked by hand may change their rule of votes, and become big.
use Rattle.std.proofs.Common.{◌≡◌, inl, inr, ℕ, ◌==◌, Bool, true, false, ◌||◌, refl, subst, arith}
use Rattle.std.specs.Prelude.{IsTrue, IsFalse}
use Rattle.std.proofs.lemmas.Bool.{eqb-true}
use Rattle.lvm_num.specs.declared.descriptor.Descriptor.{Descriptor}
use Rattle.lvm_num.specs.declared.descriptor.Mode.{Mode}
use Rattle.lvm_num.specs.Buffer.{zero_sector}
use Rattle.lvm_num.specs.Descriptor.{IsValid, is_member}
use Rattle.lvm_num.specs.Votes.{CanWrite, votes_by}
use Rattle.lvm_session.specs.State.{Core, is_there}
use Rattle.lvm_tie.specs.passed.Even.{even_pair}
use Rattle.lvm_settled.specs.Examples.{IsSettledPair, core_of}
use Rattle.lvm_settled.proofs.ExamplesLemmas.Examples.{pairs_settle}
use Rattle.lvm_members.specs.passed.Change.{LosesVotes, as_big, with_quorum}
use Rattle.lvm_members.specs.passed.ChangeLaws.{MayChangeRule}
use Rattle.lvm_members.proofs.passed.Change.{big_valid, quorum_valid}
use Rattle.lvm_members.specs.Commands.{MayBeChanged}
use Rattle.lvm_tie_commands.specs.Examples.{PairsMayChange}

module _ (mode : Mode) (dirty lost : Bool) where
  abbrev core : Core
  core = core_of (even_pair mode dirty lost zero_sector)

  abbrev group : Descriptor
  group = core.descriptor

  its : IsSettledPair core (even_pair mode dirty lost zero_sector) mode false
  its = pairs_settle.first mode dirty lost false zero_sector

  valid : IsValid group
  valid = its.known.sound.fitting.valid

  votes : CanWrite group (is_there core)
  votes = its.known.settled.votes

  -- it takes commands, and there is room
  may_be : (next : Descriptor) → MayChangeRule group next (is_there core) → MayBeChanged next core
  may_be next rule = record { takes = record { on = refl; requests = refl }; rule = rule; room = record { entries = omega arith; numbers = omega arith } }

  big : MayBeChanged (as_big group) core
  big = may_be (as_big group) (record { valid = valid; valid_next = big_valid group valid; differs = refl; enough = votes; enough_too = votes; found = inl refl })

  checked : MayBeChanged (with_quorum true group) core
  checked = may_be (with_quorum true group) (record { valid = valid; valid_next = quorum_valid true group valid; differs = refl; enough = votes; enough_too = votes; found = inl refl })

-- with both members all votes are found
module _ (mode : Mode) (dirty : Bool) where
  abbrev both : Core
  both = core_of (even_pair mode dirty false zero_sector)

  each_there : (d : ℕ) → IsTrue (is_member both.descriptor d) → IsTrue (is_there both d)
  each_there d member = by (0 == d) (1 == d) refl refl member
    where
      by : (s t : Bool) → (0 == d) ≡ s → (1 == d) ≡ t → (s || (t || false)) ≡ true → IsTrue (is_there both d)
      by true t is other some = subst (λ (n : ℕ). IsTrue (is_there both n)) (eqb-true 0 d is) refl
      by false true isnt is some = subst (λ (n : ℕ). IsTrue (is_there both n)) (eqb-true 1 d is) refl
      by false false isnt nor some = absurd (cc some)

  some_vote : CanWrite (with_quorum false both.descriptor) (is_there both)
  unfolding votes_by
  some_vote = refl

  unchecked : MayBeChanged (with_quorum false both.descriptor) both
  unchecked = may_be mode dirty false (with_quorum false both.descriptor) (record {
    valid = valid mode dirty false;
    valid_next = quorum_valid false both.descriptor (valid mode dirty false);
    differs = refl;
    enough = votes mode dirty false;
    enough_too = some_vote;
    found = inr (inr each_there);
  })

-- with the second one lost they aren't
one_lost : (mode : Mode) (dirty : Bool) → let core = core_of (even_pair mode dirty true zero_sector) in LosesVotes core.descriptor (with_quorum false core.descriptor) (is_there core)
one_lost mode dirty = record { on = refl; off = refl; disk = 1; member = refl; missing = refl }

pub pairs_may_change : PairsMayChange
pairs_may_change mode dirty lost = record { big = big mode dirty lost; checked = checked mode dirty lost; unchecked = λ none. by_both lost none; refused = λ one. by_one lost one }
  where
    by_both : (l : Bool) → IsFalse l → let core = core_of (even_pair mode dirty l zero_sector) in MayBeChanged (with_quorum false core.descriptor) core
    by_both true none = absurd (cc none)
    by_both false none = unchecked mode dirty

    by_one : (l : Bool) → IsTrue l → let core = core_of (even_pair mode dirty l zero_sector) in LosesVotes core.descriptor (with_quorum false core.descriptor) (is_there core)
    by_one true one = one_lost mode dirty
    by_one false one = absurd (cc one)
