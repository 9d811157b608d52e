-- The worked groups, by computing.
use Rattle.std.proofs.Common.{◌≡◌, inl, inr, refl, ap, arith, ℕ, Option, Some, None}
use Rattle.lvm_disk.specs.passed.Num.{has_bit, votes_by, newest_below}
use Rattle.lvm_vol.specs.Standing.{Shape}
use Rattle.lvm_kept.specs.Group.{descriptor_among, is_voter, has_quorum, status_among}
use Rattle.lvm_kept.specs.Examples.{FreshThree, SecondAway, StaleCopy, NamedDifference, HalfMade}

pub three : FreshThree
unfolding has_quorum is_voter descriptor_among newest_below votes_by
three = record { all = refl; two = refl; one = refl; found = refl; voter = refl; away = refl; stranger = refl; other = refl }

pub away : SecondAway
unfolding has_quorum is_voter descriptor_among status_among newest_below votes_by has_bit
away = record { first = refl; second = refl; copies = refl; all = refl }

pub stale : StaleCopy
unfolding is_voter descriptor_among status_among newest_below has_bit
stale = record { all = refl }

pub named : NamedDifference
named = record {
  kept = record { allowed = (inl refl, (inr (inl refl), tt)); equal = inr (refl, (refl, tt)) };
  named = refl;
  next = refl;
  unnamed = λ m. absurd cc;
}

pub half_made : HalfMade
half_made = record {
  there = refl;
  away = tt;
  settled = λ none. none;
  absent = λ none. none;
  larger = λ is. absurd (other (ap blocks is));
}
  where
    blocks : Option Shape → ℕ
    blocks None = 0
    blocks (Some s) = s.blocks

    other : ◌≡◌ {A = ℕ} 4096 2048 → ⊥
    other is = omega (arith, is)
