-- Sessions worked by hand: one that has just begun, over two disks that mirror a volume and hold its records, and what follows. (That what is asked of a tied session can be met.)
use Rattle.std.specs.Prelude.{ℕ, Bool, false, true, ◌==◌, if◌then◌else◌, List, [], ◌∷◌, Option, Some, None, map, replicate}
use Rattle.lvm_num.specs.declared.descriptor.Mode.{Mode}
use Rattle.lvm_num.specs.declared.descriptor.Mode.TheVariants.{Active, Passive, Off}
use Rattle.lvm_num.specs.declared.status.Status.{Status}
use Rattle.lvm_num.specs.declared.descriptor.Policy.TheVariants.{Parallel}
use Rattle.lvm_num.specs.Buffer.{zero_sector}
use Rattle.lvm_num.specs.declared.record.Kind.TheVariants as kind
use Rattle.lvm_num.specs.StatusBytes.{status_bytes}
use Rattle.lvm_num.specs.Record.{frame, slot_start}
use Rattle.lvm_status.specs.declared.writes.Writes.{Writes}
use Rattle.lvm_status.specs.Update.{Stored}
use Rattle.lvm_num.specs.Geometry.{data_start}
use Rattle.lvm_disk.specs.Device.{Device, Flight}
use Rattle.lvm_vol.specs.Facts.{Fact}
use Rattle.lvm_kept.specs.Examples.{two}
use Rattle.lvm_mwc.specs.Cache.{no_notes}
use Rattle.lvm_path.specs.declared.ask.Ask.{Ask}
use Rattle.lvm_path.specs.declared.ask.Ask.TheVariants.{Write}
use Rattle.lvm_path.specs.declared.target.Target.{Target}
use Rattle.lvm_session.specs.declared.flown.Owner.TheVariants as owner
use Rattle.lvm_session.specs.declared.open.Power.TheVariants as power
use Rattle.lvm_session.specs.State.{Core, State, state}
use Rattle.lvm_session.specs.Judging.{aims}
use Rattle.lvm_session.specs.Calls.{new_open, submitted}
use Rattle.lvm_session.specs.Events.{admitted_as, after_admission, begun_as, target_at, with_flight, with_open}
use Rattle.lvm_invariant.specs.First.{at_rest}
use Rattle.lvm_crash.specs.Worked.{Shown, status_shown, device_of}
use Rattle.lvm_tie.specs.Tied.{IsTied}

-- what both disks show: the second copy is stale or not, the volume isn't dirty, and nothing is named
abbrev pub shown : Mode → Bool → Shown
shown mode stale = record { mode = mode; stale = stale; dirty = false; named = false }

abbrev pub table : Mode → Bool → Status
table mode stale = (status_shown (shown mode stale)).value

-- the earlier history: the volume was made
abbrev pub making : Mode → List Fact
making mode = (at_rest mode false).facts

-- The session has come on with this status, and nothing has happened since; there is room for a request, and one buffer.
abbrev pub core_of : Mode → Bool → Core
core_of mode stale = record {
  descriptor = two mode;
  history = record { run = 50; facts = []; room = 65536; bytes = 65536 };
  requests = [];
  most = 1;
  queue = record { room = 2; rows = [] };
  copy = None;
  pool = false ∷ [];
  flying = [];
  status = record {
    group = record (two mode) { lvs = [] };
    committed = table mode stale;
    wanted = table mode stale;
    in_flight = None;
    writes = record { unstarted = 0; started = 0; written = 0; failed = 0 };
    stamp = record { epoch = 50; seq = 2 };
  };
  cache = record { entries = []; notes = no_notes 0 ∷ no_notes 1 ∷ [] };
  -- the next records go to the second slots of both disks
  homes = record { descriptor = 3; status = 3 };
  last = replicate 512 0;
  origin = record { faults = replicate 128 0; table = table mode stale };
  power = power.On;
}

abbrev pub begun : Mode → Bool → State
begun mode stale = state (device_of (shown mode stale) []) (core_of mode stale)

-- It is tied, in each mode, with a stale copy or without.
abbrev pub BeginningsAreTied : Type 0
BeginningsAreTied = (mode : Mode) (stale : Bool) → IsTied (making mode) (begun mode stale)

-- a write of the volume's first block
abbrev pub a_write : Ask
a_write = Write 1 0 1

abbrev pub its_bytes : Option (List ℕ)
its_bytes = Some (replicate 512 1)

-- the session once a client has submitted the write, which waits
abbrev pub waiting : Mode → Bool → State
waiting mode stale = state (begun mode stale).device (submitted (core_of mode stale) 0 a_write its_bytes)

-- So it is where a write waits.
abbrev pub WaitingAreTied : Type 0
WaitingAreTied = (mode : Mode) (stale : Bool) → IsTied (making mode) (waiting mode stale)

-- The write is admitted: its targets are the fresh copies.
abbrev pub targets : Mode → Bool → List Target
targets mode stale = map (target_at (waiting mode stale) a_write) (aims (waiting mode stale).core a_write)

abbrev pub admitted : Mode → Bool → State
admitted mode stale = state (waiting mode stale).device (after_admission (waiting mode stale).core 0 (new_open 1 0 a_write 0) (targets mode stale) [])

-- a passive volume of which two copies are fresh is wanted dirty with it
abbrev pub marked : State
marked = let s = admitted Passive false in state s.device (record s.core { status = record s.core.status { wanted = record (table Passive false) { dirty = 1 ∷ [] } } })

-- So it is then.
pub record AdmittedAreTied : Type 0 where
  pub active : (stale : Bool) → IsTied (making Active) (admitted Active stale)
  pub passive : IsTied (making Passive) (admitted Passive true)
  pub dirty : IsTied (making Passive) marked
  pub off : (stale : Bool) → IsTied (making Off) (admitted Off stale)

-- Of a volume that keeps no record, whose copies are fresh: the transfer to the first one is out, and the one to the second waits for a buffer.
abbrev pub transfer : Flight
transfer = record { ticket = 1; disk = 0; first = data_start; count = 1; write = true; buf = record { number = 0; sectors = replicate 512 1 ∷ replicate 255 zero_sector } }

abbrev pub launched : Device
launched = let old = device_of (shown Off false) [] in record old { flights = transfer ∷ []; counts = record old.counts { starts = λ d. if d == 0 then 1 else 0 } }

abbrev pub writing : State
writing = let core = (admitted Off false).core in
    state launched (record (with_flight (with_open core 0 (begun_as 0 (admitted_as Parallel Off (targets Off false) (new_open 1 0 a_write 0)))) transfer (owner.Data 1 0)) { pool = true ∷ [] })

-- So it is then.
abbrev pub WritingIsTied : Type 0
WritingIsTied = IsTied (making Off) writing

-- Of a passive volume that is wanted dirty: the first write of the status by which it is dirty is out, to the second slot of the first disk.
abbrev pub record_write : Flight
record_write = record {
  ticket = 1;
  disk = 0;
  first = slot_start kind.Status 1;
  count = 1;
  write = true;
  buf = record { number = 0; sectors = frame kind.Status (record { epoch = 50; seq = 3 }) (status_bytes marked.core.status.wanted) 0 ∷ replicate 255 zero_sector };
}

abbrev pub recording : Device
recording = record marked.device { flights = record_write ∷ []; counts = record marked.device.counts { starts = λ d. if d == 0 then 1 else 0 } }

abbrev pub updated : Writes → Stored
updated writes = record marked.core.status { in_flight = Some marked.core.status.wanted; writes = writes; stamp = record { epoch = 50; seq = 3 } }

abbrev pub updating : State
updating = state recording (record (with_flight marked.core record_write (owner.Status 0)) { status = updated (record { unstarted = 2; started = 1; written = 0; failed = 0 }); pool = true ∷ [] })

-- So it is then.
abbrev pub UpdatingIsTied : Type 0
UpdatingIsTied = IsTied (making Passive) updating
