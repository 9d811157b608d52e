-- What each event of a session leaves to be shown for its state to go on describing what stands on the disks.
use Rattle.std.specs.Prelude.{◌≡◌, ◌⊎◌, ℕ, true, Option, Some, None, IsTrue, is_some}
use Rattle.lvm_num.specs.declared.descriptor.Descriptor.{Descriptor}
use Rattle.lvm_num.specs.declared.status.Status.{Status}
use Rattle.lvm_num.specs.Descriptor.{volume_of}
use Rattle.lvm_num.specs.Record.{Stamped, stamp_lt}
use Rattle.lvm_kept.specs.Contents.{Contents}
use Rattle.lvm_invariant.specs.State.{ModelState}
use Rattle.lvm_invariant.specs.Found.{Votes}
use Rattle.lvm_invariant.specs.Good.{Good}
use Rattle.lvm_invariant.specs.Events.{Event, Submit, ModelStep}
use Rattle.lvm_crash.specs.Session.{as_marks, HasStatuses, Shows, Describes}
use Rattle.lvm_crash.specs.Left.{KeepsGroup}

-- a request begins only on a volume of the group
abbrev pub AsksOf : Descriptor → Event → Type 0
AsksOf group (Submit i q r) = IsTrue (is_some (volume_of group r.lv))
AsksOf group _ = Unit {0}

-- Each event leaves a state that describes the disks, where they show of blocks, notes and statuses what it says, and nothing else of them has changed.
abbrev pub DescriptionLasts : Type 0
DescriptionLasts =
    (votes : Votes) (event : Event) (s new : ModelState) (group : Descriptor) (in_flight next : Option (Stamped Status)) (old now : Contents)
    → ModelStep votes event s new → Good votes s → AsksOf group event → Describes s s.facts group in_flight old → KeepsGroup old now → Shows new group next now → Describes new new.facts group next now

-- ---- statuses

-- An update begins under a stamp later than each status of its group that stands; its writes bring it to disks, or leave what they had; it ends.
pub record StatusesLast : Type 0 where
  pub begins : (s : ModelState) (group : Descriptor) (c : Contents) (u : Stamped Status) → HasStatuses s group None c → u.value.id ≡ group.id
      → ((d : ℕ) (r : Stamped Status) → c.status d ≡ Some r → r.value.id ≡ u.value.id → stamp_lt r.stamp u.stamp ≡ true) → HasStatuses (record s { in_flight = Some (as_marks s.beside u) }) group (Some u) c
  pub moves : (s new : ModelState) (group : Descriptor) (in_flight : Option (Stamped Status)) (old now : Contents) → HasStatuses s group in_flight old → new.in_flight ≡ s.in_flight → new.beside ≡ s.beside
      → ((d : ℕ) → (now.status d ≡ old.status d) ⊎ ((u : Stamped Status) × (in_flight ≡ Some u) × (now.status d ≡ Some u))) → HasStatuses new group in_flight now
  pub ends : (s : ModelState) (group : Descriptor) (in_flight : Option (Stamped Status)) (c : Contents) → HasStatuses s group in_flight c → HasStatuses (record s { in_flight = None }) group None c
