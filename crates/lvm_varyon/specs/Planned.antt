-- The plan of a varyon by what was read.
use Rattle.std.specs.Prelude.{◌≡◌, ℕ, ◌++◌, nat_lt, if◌then◌else◌, Bool, List, length, Option, None, Some, option_map, Result, Ok, Err, IfSome}
use Rattle.lvm_num.specs.declared.record.Stamp.{Stamp}
use Rattle.lvm_num.specs.declared.descriptor.Descriptor.{Descriptor}
use Rattle.lvm_num.specs.declared.status.Status.{Status}
use Rattle.lvm_num.specs.Descriptor.{IsValid}
use Rattle.lvm_num.specs.DescriptorBytes.{descriptor_bytes}
use Rattle.lvm_num.specs.Disks.{has}
use Rattle.lvm_num.specs.Record.{Stamped}
use Rattle.lvm_num.specs.Status.{IsValidStatus}
use Rattle.lvm_num.specs.StatusBytes.{status_bytes}
use Rattle.lvm_kept.specs.Contents.{Contents}
use Rattle.lvm_quorum.specs.declared.choice.Choice.{Choice}
use Rattle.lvm_quorum.specs.declared.choice.ChooseFault.{ChooseFault}
use Rattle.lvm_quorum.specs.declared.choice.ChooseFault.TheVariants as fault
use Rattle.lvm_rec.specs.declared.homes.Homes.{Homes}
use Rattle.lvm_quorum.specs.Choosing.{HasNoRecord, HasRecord, IsAmbiguous, LacksQuorum}
use Rattle.lvm_core.specs.passed.Write.{SpareNewest}
use Rattle.lvm_quorum.specs.declared.row.Survey.{Survey}
use Rattle.lvm_quorum.specs.Surveyed.{surveyed}
use Rattle.lvm_core.specs.declared.parts.Room.{Room}
use Rattle.lvm_core.specs.declared.refused.Cause.{Cause}
use Rattle.lvm_core.specs.declared.refused.Cause.TheVariants as cause
use Rattle.lvm_core.specs.Starting.{IsReservedFor}
use Rattle.lvm_varyon.specs.declared.plan.Plan.{Plan}
use Rattle.lvm_varyon.specs.declared.plan.Copying.{Copying}
use Rattle.lvm_varyon.specs.declared.plan.Last.{Last}
use Rattle.lvm_write.specs.Next.{IsNextStatus}
use Rattle.lvm_recovery.specs.Clean.{left_dirty}
use Rattle.lvm_recovery.specs.Plan.{ArePlannedInOrder, copies_dirty}
use Rattle.lvm_recovery.specs.Planned.{ArePlanned}
use Rattle.lvm_varyon.specs.Second.{first_stated, IsSecond, status_after}
use Rattle.lvm_varyon.specs.Copied.{all_copies}
use Rattle.lvm_varyon.specs.Chosen.{answering, MayComeOn, IsClockBehindGroup}

-- why no group may come on, by what the survey shows
abbrev pub NotChosen : Contents → List ℕ → ℕ → Cause → Type 0
NotChosen c name moment cause.NoRecord = HasNoRecord c name
NotChosen c name moment cause.Ambiguous = HasRecord c name × IsAmbiguous c name
NotChosen c name moment (cause.NoQuorum have total) = LacksQuorum c name have total
NotChosen c name moment (cause.ClockBack seen) = IsClockBehindGroup c name moment seen
NotChosen c name moment cause.Memory = Unit {0}
NotChosen c name moment _ = ⊥

-- the cause of a refusal of the choice
abbrev pub cause_of : ChooseFault → Cause
cause_of fault.NoRecord = cause.NoRecord
cause_of fault.Ambiguous = cause.Ambiguous
cause_of (fault.NoQuorum have total) = cause.NoQuorum have total
cause_of fault.Memory = cause.Memory

-- what makes the usable copies of the group of a choice equal, by its status and by what the notes of its members that answer name
pub record IsCopyingOf (survey : Survey) (choice : Choice) (copying : Copying) : Type 0 where
  pub table : copying.table ≡ choice.status
  pub planned : (stamp : Stamp) → ArePlanned (surveyed survey) choice.descriptor (Some (record { stamp = stamp; value = choice.status })) (has choice.answering) (copying.copies ++ copies_dirty choice.descriptor choice.status (has choice.answering))
  pub order : ArePlannedInOrder (surveyed survey) choice.descriptor choice.status (has choice.answering) (copying.copies ++ copies_dirty choice.descriptor choice.status (has choice.answering))

-- the choice with the status in which just those volumes are dirty that need it, and whether marks go by that
pub record IsCleanedChoice (choice : Choice) (table : Status) (clean : Choice) (goes : Bool) : Type 0 where
  pub is : clean ≡ record choice { status = left_dirty choice.descriptor table (has choice.answering) choice.status }
  pub goes_is : goes ≡ nat_lt (length clean.status.dirty) (length choice.status.dirty)

-- the parts of the session that begins with that status, and its bytes where it isn't the one of the choice
pub record IsLastOf (choice : Choice) (table : Status) (room : Room) (last : Last) : Type 0 where
  pub clean : Status
  pub is : clean ≡ left_dirty choice.descriptor table (has choice.answering) choice.status
  pub parts : IsReservedFor choice.descriptor clean room last.parts
  pub second : last.second ≡ (if nat_lt (length clean.dirty) (length choice.status.dirty) then Some (status_bytes clean) else None)

-- what is to be written of the group of a choice, to these slots, and the parts of its session
pub record IsPlanFor (survey : Survey) (choice : Choice) (homes : Homes) (room : Room) (plan : Plan) : Type 0 where
  pub next : Status
  pub next_is : (stamp : Stamp) → IsNextStatus choice.descriptor (has choice.answering) (record { stamp = stamp; value = choice.status }) next
  pub clean : Option Status
  pub clean_is : (stamp : Stamp) → IsSecond choice.descriptor (has choice.answering) (record { stamp = stamp; value = next }) clean
  pub clean_valid : IfSome clean IsValidStatus
  pub descriptor : plan.descriptor ≡ descriptor_bytes choice.descriptor
  pub status : plan.status ≡ status_bytes next
  pub second : plan.second ≡ option_map status_bytes clean
  pub targets : plan.targets ≡ choice.answering
  pub copies : (stamp : Stamp) → ArePlanned (surveyed survey) choice.descriptor (Some (record { stamp = stamp; value = choice.status })) (has choice.answering) (all_copies plan)
  pub order : ArePlannedInOrder (surveyed survey) choice.descriptor choice.status (has choice.answering) (all_copies plan)
  pub same_homes : plan.homes ≡ homes
  pub parts : IsReservedFor choice.descriptor (status_after next clean) room plan.parts

-- the same with this copying, where the choice has the status with which the group comes on
pub record IsPlanOfChoice (choice : Choice) (copying : Copying) (homes : Homes) (room : Room) (plan : Plan) : Type 0 where
  pub descriptor : plan.descriptor ≡ descriptor_bytes choice.descriptor
  pub status : plan.status ≡ status_bytes choice.status
  pub targets : plan.targets ≡ choice.answering
  pub same_copying : plan.copying ≡ copying
  pub same_homes : plan.homes ≡ homes
  pub last : IsLastOf choice copying.table room (record { parts = plan.parts; second = plan.second })

-- what is to be written of the group that may come on, and the parts of its session
pub record IsPlan (survey : Survey) (name : List ℕ) (moment : ℕ) (room : Room) (plan : Plan) : Type 0 where
  pub group : Descriptor
  pub was : Stamped Status
  pub next : Status
  pub valid : IsValid group
  pub chosen : MayComeOn (surveyed survey) name moment group was
  pub targets : (d : ℕ) → has plan.targets d ≡ answering (surveyed survey) group d
  pub next_is : IsNextStatus group (has plan.targets) was next
  pub clean : Option Status
  pub clean_is : IsSecond group (has plan.targets) (first_stated moment next) clean
  pub clean_valid : IfSome clean IsValidStatus
  pub descriptor : plan.descriptor ≡ descriptor_bytes group
  pub status : plan.status ≡ status_bytes next
  pub second : plan.second ≡ option_map status_bytes clean
  pub copies : ArePlanned (surveyed survey) group (Some was) (has plan.targets) (all_copies plan)
  pub order : ArePlannedInOrder (surveyed survey) group was.value (has plan.targets) (all_copies plan)
  pub homes : SpareNewest survey plan.homes
  pub parts : IsReservedFor group (status_after next clean) room plan.parts

abbrev pub PlanGives : Survey → List ℕ → ℕ → Room → Result Plan Cause → Type 0
PlanGives survey name moment room (Ok plan) = IsPlan survey name moment room plan
PlanGives survey name moment room (Err why) = NotChosen (surveyed survey) name moment why
