-- A session with each of its parts in use, written out.
use Rattle.std.specs.Prelude.{◌≡◌, ℕ, true, false, [], ◌∷◌, Some, None, replicate}
use Rattle.lvm_num.specs.Buffer.{Buffer}
use Rattle.lvm_num.specs.declared.place.Pp.{Pp}
use Rattle.lvm_num.specs.declared.descriptor.Descriptor.{Descriptor}
use Rattle.lvm_num.specs.declared.descriptor.LvRow.{LvRow}
use Rattle.lvm_num.specs.declared.descriptor.Mode.TheVariants as mode
use Rattle.lvm_kept.specs.passed.Disk.{Device, Flight}
use Rattle.lvm_kept.specs.passed.Vol.{Begun, Request as Asked}
use Rattle.lvm_kept.specs.passed.VolEntryOutcome as outcome
use Rattle.lvm_kept.specs.passed.VolEntryVol.{Lv}
use Rattle.lvm_kept.specs.Examples.{member, mirror, group_of}
use Rattle.lvm_mwc.specs.Cache.{no_notes}
use Rattle.lvm_path.specs.passed.Sched.{TargetState}
use Rattle.lvm_path.specs.passed.SchedWritesTargetState as stage
use Rattle.lvm_path.specs.declared.ask.Ask.{Ask}
use Rattle.lvm_path.specs.declared.ask.Ask.TheVariants.{Read}
use Rattle.lvm_path.specs.declared.request.Phase.TheVariants as phase
use Rattle.lvm_path.specs.declared.target.Target.{Target}
use Rattle.lvm_session.specs.declared.bringing.OpenCopy.{OpenCopy}
use Rattle.lvm_session.specs.declared.bringing.Step.TheVariants as step
use Rattle.lvm_session.specs.declared.event.Event.TheVariants as event
use Rattle.lvm_session.specs.declared.flown.Owner.TheVariants as owner
use Rattle.lvm_session.specs.declared.open.Open.{Open}
use Rattle.lvm_session.specs.State.{Core, state}
use Rattle.lvm_session.specs.Enabled.{first_event}
use Rattle.lvm_session.specs.Sound.{IsSound}
use Rattle.lvm_session.specs.Worked.{Moment, calm, behind, asking, a_write, row_for, begun_write, naming, second_copy, core_of, faultless}

-- ---- two disks, on which a volume of two logical partitions is mirrored: the first stands on their partitions 1, the second on 0

abbrev pub part : Pp
part = record { disk = 0; pp = 1 }

abbrev pub other_part : Pp
other_part = record { disk = 1; pp = 1 }

abbrev pub wide : LvRow
wide = record (mirror mode.Active) { lps = 2; map = part ∷ other_part ∷ record { disk = 0; pp = 0 } ∷ second_copy ∷ [] }

abbrev pub group_of_three : Descriptor
group_of_three = group_of (member 0 ∷ member 1 ∷ member 2 ∷ []) (wide ∷ [])

-- ---- its requests

-- a target in the first logical partition
abbrev pub target_at : Pp → ℕ → TargetState → Target
target_at p sector how = record { pp = p; sector = sector; usable = true; moves = false; faults = 0; state = how }

-- A write of both copies of its first block: it is out to the first, and done on the second.
abbrev pub half_written : Open
half_written =
    let o = asking 1 a_write phase.Data (target_at part 6144 stage.Flying ∷ target_at other_part 6144 stage.Done ∷ []) in
    record o { request = record o.request { pinned = true } }

abbrev pub another_read : Ask
another_read = Read 1 8 1

abbrev pub begun_read : Asked
begun_read = record { run = 50; id = 2; client = 1; vol = Lv 1; at = 8; count = 1; write = false; blocks = [] }

-- a buffer of this number
abbrev pub buffer : ℕ → Buffer
buffer number = record { number = number; sectors = replicate 256 (replicate 512 0) }

-- A read of another block has got it from the first copy, and is to land.
abbrev pub got_read : Open
got_read = record (asking 2 another_read phase.Data (target_at part 6152 stage.Done ∷ target_at other_part 6152 stage.Waiting ∷ [])) { place = 1; got = Some (buffer 1) }

-- ---- its copy

-- The second copy of the second logical partition: three of its track groups are copied, and the fourth is being written.
abbrev pub writing : OpenCopy
writing = record { lv = 1; lp = 1; copy = 2; pp = second_copy; moves = false; cursor = 3; step = step.Writing; tried = 0; place = 1; faults = 0 ∷ 0 ∷ 0 ∷ 0 ∷ []; end = None }

-- ---- all of it

-- The volume is wanted dirty beside, and the update that says so is written on the first disk.
abbrev pub busy : Moment
busy = record (calm mode.Active) {
  facts = Begun begun_write ∷ Begun begun_read ∷ [];
  committed = behind;
  wanted = record behind { dirty = true };
  flies = Some (record behind { dirty = true });
  writes = record { unstarted = 6; started = 0; written = 1; failed = 0 };
  requests = half_written ∷ got_read ∷ [];
  rows = record { id = 1; ask = record { lv = 1; at = 2816; count = 256; write = false; copy = true } } ∷ row_for 1 a_write ∷ row_for 2 another_read ∷ [];
  copy = Some writing;
  cache = record { entries = record { lv = 1; group = 0; pins = 1 } ∷ []; notes = naming 0 ∷ naming 1 ∷ no_notes 2 ∷ [] };
  pool = true ∷ true ∷ true ∷ false ∷ [];
  flying = record { ticket = 1; disk = 0; owner = owner.Data 1 0 } ∷ record { ticket = 2; disk = 1; owner = owner.Copy } ∷ [];
  origin = behind;
}

abbrev pub busy_core : Core
busy_core = record (core_of busy) { descriptor = group_of_three }

-- what is out: the write's first transfer, and the copy's write
abbrev pub data_flight : Flight
data_flight = record { ticket = 1; disk = 0; first = 6144; count = 1; write = true; buf = buffer 0 }

abbrev pub step_flight : Flight
step_flight = record { ticket = 2; disk = 1; first = 4864; count = 256; write = true; buf = buffer 2 }

abbrev pub busy_device : Device
busy_device = record faultless { flights = data_flight ∷ step_flight ∷ [] }

-- Such a session is sound, and the read lands next.
pub record BusyIsSound : Type 0 where
  pub sound : IsSound (state busy_device busy_core)
  pub next : first_event busy_core ≡ Some (event.Land 1 outcome.Got)
