-- Which stamps stand on the disks, torn leftovers included: all of them before some stamp.
use Rattle.std.specs.Prelude.{◌≡◌, ℕ, ◌<◌, ◌≤◌, ◌-◌, ◌^◌, List, true, IfSome}
use Rattle.lvm_num.specs.declared.record.Stamp.{Stamp}
use Rattle.lvm_num.specs.declared.record.Kind.{Kind}
use Rattle.lvm_num.specs.Record.{slot_start}
use Rattle.lvm_num.specs.Torn.{AllBefore}
use Rattle.lvm_kept.specs.passed.Disk.{Device, Image, image_of}
use Rattle.lvm_kept.specs.passed.Vol.{Fact, IsLater}
use Rattle.lvm_kept.specs.Contents.{has_records}

-- Each sector of a slot that carries its kind's magic has a stamp before this one.
abbrev pub StampsBefore : Stamp → Image → Type 0
StampsBefore stamp image = (kind : Kind) (d slot : ℕ) → has_records image d ≡ true → slot < 2 → AllBefore kind stamp (slot_start kind slot) (image.sector d)

-- before each stamp of a session that begins at this moment
abbrev pub beginning_at : ℕ → Stamp
beginning_at moment = record { epoch = moment; seq = 0 }

-- What stands on the media, where that is told, is of sessions from before this moment: a clock whose moments rise answers such a one.
abbrev pub StampsAreEarlier : ℕ → Device → Type 0
StampsAreEarlier moment device = IfSome device.media (λ media. StampsBefore (beginning_at moment) (image_of device.sizes media))

-- A moment that is later than each at which a group was varied on, in this run and before it, and than what stands on the disks.
pub record IsAhead (run moment : ℕ) (device : Device) (facts : List Fact) : Type 0 where
  pub run_is : run ≤ moment
  pub later : IsLater facts moment
  pub behind : StampsAreEarlier moment device

-- What a clock answers whose moments rise is such a moment, unless it is the last one that there is.
abbrev pub ClockIsAhead : ℕ → ℕ → Device → List Fact → Type 0
ClockIsAhead run moment device facts = moment < 2 ^ 64 - 1 → IsAhead run moment device facts
