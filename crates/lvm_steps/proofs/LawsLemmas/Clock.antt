-- A clock that rises.
use Rattle.std.proofs.Common.{◌≡◌, inl, inr, ℕ, ◌+◌, ◌-◌, ◌^◌, ◌<◌, ◌≤◌, List, map, [], ◌∷◌, subst, arith}
use Rattle.std.proofs.lemmas.Bool.{cases_lt}
use Rattle.lvm_kept.specs.passed.VolEntryVol.{Disk}
use Rattle.lvm_kept.specs.passed.Vol.{On, Removed, Cut, IsLater}
use Rattle.lvm_steps.specs.Behind.{StampsAreEarlier}
use Rattle.lvm_steps.specs.Laws.{LaterStaysAhead, RisenIsAhead, AllIsBehindNext, LaterIsLaterToo, LaterJoins, OnIsEarlier, RemovedStaysLater, JoinedIsLater}
use Rattle.lvm_steps.proofs.LawsLemmas.Stamps.{later_is_ahead_too}
use Rattle.lvm_steps.proofs.LawsLemmas.Records.{all_is_behind_end}

-- ---- the moments of a history

pub later_is_later_too : LaterIsLaterToo
later_is_later_too moment later [] le all = tt
later_is_later_too moment later (On earlier ∷ facts) le all = (let lt = all.0 in omega (arith, lt, le), later_is_later_too moment later facts le all.1)
later_is_later_too moment later (f ∷ facts) le all = later_is_later_too moment later facts le all

pub later_joins : LaterJoins
later_joins moment [] more first second = second
later_joins moment (On earlier ∷ facts) more first second = (first.0, later_joins moment facts more first.1 second)
later_joins moment (f ∷ facts) more first second = later_joins moment facts more first second

pub on_is_earlier : OnIsEarlier
on_is_earlier moment later facts all lt = later_joins later facts (On moment ∷ []) (later_is_later_too moment later facts (omega arith) all) (lt, tt)

-- entries of which none names a moment
removed_name_none : (moment : ℕ) (disks : List ℕ) → IsLater (map (λ d. Removed (Disk d)) disks) moment
removed_name_none moment [] = tt
removed_name_none moment (d ∷ disks) = removed_name_none moment disks

pub removed_stays_later : RemovedStaysLater
removed_stays_later moment facts disks all = later_joins moment facts (map (λ d. Removed (Disk d)) disks) all (removed_name_none moment disks)

pub joined_is_later : JoinedIsLater
joined_is_later run moment past facts le before all = later_joins moment past (Cut ∷ facts) (later_is_later_too run moment past le before) all

-- ---- the clock

pub later_stays_ahead : LaterStaysAhead
later_stays_ahead run moment later device facts le ahead = record {
  run_is = let is = ahead.run_is in omega (arith, is, le);
  later = later_is_later_too moment later facts le ahead.later;
  behind = later_is_ahead_too moment later device le ahead.behind;
}

pub risen_is_ahead : RisenIsAhead
risen_is_ahead run last moment device facts ahead (inl risen) room = later_stays_ahead run (last + 1) moment device facts (omega (arith, risen)) ahead
risen_is_ahead run last moment device facts ahead (inr last_is) room = let is = last_is.1 in absurd (omega (arith, is, room))

pub all_is_behind_next : AllIsBehindNext
all_is_behind_next run moment device facts whole room ahead = elim (cases_lt moment (2 ^ 64 - 1)) [
  | inl less ↦ later_is_ahead_too moment (moment + 1) device (omega arith) (ahead less).behind
  | inr most ↦ subst (λ (m : ℕ). StampsAreEarlier m device) (end moment room most) (all_is_behind_end device whole)
]
  where
    end : (moment : ℕ) → moment < 2 ^ 64 → 2 ^ 64 - 1 ≤ moment → 2 ^ 64 ≡ moment + 1
    end moment room most = omega (arith, room, most)
