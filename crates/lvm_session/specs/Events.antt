-- The events of a turn that change a request, and those that start a transfer.
use Rattle.std.specs.Prelude.{◌≡◌, ◌⊎◌, ℕ, ◌+◌, ◌-◌, ◌<◌, ◌++◌, Bool, true, false, ◌&&◌, ◌==◌, not, if◌then◌else◌, List, [], ◌∷◌, length, map, take, count_by, Option, Some, None, slice_get, slice_set, slice_index_or, nat_le}
use Rattle.std.specs.Option.{option_map_or}
use Rattle.lvm_num.specs.Buffer.{Buffer, Sector}
use Rattle.lvm_num.specs.Disks.{IsLowest}
use Rattle.lvm_num.specs.declared.place.Pp.{Pp}
use Rattle.lvm_num.specs.declared.record.Kind.TheVariants as kind
use Rattle.lvm_num.specs.declared.descriptor.Mode.{Mode}
use Rattle.lvm_num.specs.Modes.{is_passive}
use Rattle.lvm_num.specs.Status.{calls_dirty}
use Rattle.lvm_num.specs.declared.descriptor.Policy.{Policy}
use Rattle.lvm_num.specs.declared.status.Status.{Status}
use Rattle.lvm_num.specs.Geometry.{sector_of}
use Rattle.lvm_num.specs.Note.{note_bytes}
use Rattle.lvm_num.specs.Record.{frame, record_sectors, slot_start}
use Rattle.lvm_num.specs.StatusBytes.{status_bytes}
use Rattle.lvm_kept.specs.passed.Disk.{Flight, Starts}
use Rattle.lvm_kept.specs.passed.Vol.{Outcome, Landed, with_fact, request_of}
use Rattle.lvm_kept.specs.passed.Rec.{next_slot}
use Rattle.lvm_pbuf.specs.Out.{TakesLowest}
use Rattle.lvm_hold.specs.Waiting.{without}
use Rattle.lvm_path.specs.passed.Sched.{IsReadOrder}
use Rattle.lvm_mwc.specs.Entries.{note_of}
use Rattle.lvm_mwc.specs.Cache.{Cached, after_pin, after_unpin, after_start}
use Rattle.lvm_status.specs.Update.{Stored, seen, MayStartUpdate}
use Rattle.lvm_status.specs.Calls.{with_update, with_start as with_write_start}
use Rattle.lvm_kept.specs.Contents.{note_sector}
use Rattle.lvm_path.specs.declared.facts.Next.TheVariants as next
use Rattle.lvm_path.specs.declared.ask.Ask.{Ask}
use Rattle.lvm_path.specs.declared.request.Request.{Request}
use Rattle.lvm_path.specs.declared.target.Target.{Target}
use Rattle.lvm_path.specs.passed.SchedWritesTargetState as stage
use Rattle.lvm_path.specs.Asks.{lv_of, at_of, count_of, is_write}
use Rattle.lvm_path.specs.Targets.{is_begun}
use Rattle.lvm_path.specs.Next.{admitted, with_pin, with_start, with_landing}
use Rattle.lvm_session.specs.declared.open.Open.{Open}
use Rattle.lvm_session.specs.declared.flown.Flown.{Flown}
use Rattle.lvm_session.specs.declared.flown.Owner.{Owner}
use Rattle.lvm_session.specs.declared.flown.Owner.TheVariants as owner
use Rattle.lvm_session.specs.declared.bringing.OpenCopy.{OpenCopy}
use Rattle.lvm_session.specs.declared.bringing.Step.TheVariants as step
use Rattle.lvm_session.specs.State.{Core, State, state}
use Rattle.lvm_session.specs.Judging.{copies_for, mode_of, policy_of, group_of, is_usable, aims, destination_aims, place_of, next_for}
use Rattle.lvm_session.specs.Bringing.{with_back, next_source, block_at}
use Rattle.lvm_session.specs.Marks.{WantsDirtyIf}
use Rattle.lvm_session.specs.Enabled.{target_due, note_due, may_pin, may_read, may_write, is_status_due}

-- the request of a place is now this one
abbrev pub with_open : Core → ℕ → Open → Core
with_open core place o = record core { requests = slice_set core.requests place o }

-- a pin that it holds is given up
abbrev pub without_pin : Cached → Request → Cached
without_pin cache r = if r.pinned then after_unpin cache (lv_of r.ask) (group_of r.ask) else cache

-- ---- Land

-- the blocks that it has got
abbrev pub got_blocks : ℕ → Option Buffer → List Sector
got_blocks count got = option_map_or (λ (buf : Buffer). take count buf.sectors) got []

-- it has landed so, and gives up what it has in hand
abbrev pub landed_as : Outcome → Open → Open
landed_as how o = record o { request = with_landing o.request; got = None; landed = Some how }

-- The history tells so, with the blocks of a read; its place in the queue, its pin and its buffer are given up.
abbrev pub after_landing : Core → ℕ → Open → Outcome → Core
after_landing core place o how = record (with_open core place (landed_as how o)) {
  history = with_fact core.history (Landed (request_of core.history.facts o.request.id) how (is_begun o.request.targets.items) (got_blocks (count_of o.request.ask) o.got));
  queue = record core.queue { rows = without (place_of o.request.id) core.queue.rows };
  pool = with_back core.pool o.got;
  cache = without_pin core.cache o.request;
}

-- A request lands as it does next.
pub record Lands (old new : State) (place : ℕ) (how : Outcome) : Type 0 where
  pub request : Open
  pub there : slice_get old.core.requests place ≡ Some request
  pub lands : next_for old.core request ≡ next.Land how
  pub is : new ≡ state old.device (after_landing old.core place request how)

-- ---- Admit

-- the copy at this partition as a target, with the faults of its disk
abbrev pub target_at : State → Ask → Pp → Target
target_at s ask p = record { pp = p; sector = sector_of s.core.descriptor.mib p.pp (at_of ask); usable = is_usable s.core p; moves = false; faults = s.device.counts.faults p.disk; state = stage.Waiting }

-- so is the destination of a move
abbrev pub destination_target : State → Ask → Pp → Target
destination_target s ask p = record { pp = p; sector = sector_of s.core.descriptor.mib p.pp (at_of ask); usable = false; moves = true; faults = s.device.counts.faults p.disk; state = stage.Waiting }

-- the numbers, from 1, of the copies that are usable
abbrev pub usable_from : Core → ℕ → List Pp → List ℕ
usable_from core n [] = []
usable_from core n (p ∷ ps) = if is_usable core p then n ∷ usable_from core (n + 1) ps else usable_from core (n + 1) ps

-- how many transfers are out on a disk, and on the disks of three copies
abbrev pub load_on : Core → ℕ → ℕ
load_on core disk = count_by (λ (f : Flown). f.disk == disk) core.flying

abbrev pub loads_of : Core → List Pp → List ℕ
loads_of core copies = take 3 (map (λ (p : Pp). load_on core p.disk) copies ++ 0 ∷ 0 ∷ 0 ∷ [])

-- the copy of a number
abbrev pub copy_of : List Pp → ℕ → Pp
copy_of copies number = slice_index_or copies (number - 1) (record { disk = 0; pp = 0 })

-- the usable copies in the order of the volume's policy
pub record IsReading (s : State) (ask : Ask) (order : List ℕ) (targets : List Target) : Type 0 where
  pub order_is : IsReadOrder (policy_of s.core ask) (usable_from s.core 1 (copies_for s.core ask)) (slice_index_or s.core.last (lv_of ask) 0) (loads_of s.core (copies_for s.core ask)) order
  pub targets_are : targets ≡ map (λ n. target_at s ask (copy_of (copies_for s.core ask) n)) order

-- what a write or a read tries, and for a read the copies' numbers in their order
abbrev pub ChoosesBy : Bool → State → Ask → List Target → List ℕ → Type 0
ChoosesBy true s ask targets order = (targets ≡ map (target_at s ask) (aims s.core ask) ++ map (destination_target s ask) (destination_aims s.core ask)) × (order ≡ [])
ChoosesBy false s ask targets order = IsReading s ask order targets

-- so it chooses, by what it asks for
abbrev pub Chooses : State → Ask → List Target → List ℕ → Type 0
Chooses s ask targets order = ChoosesBy (is_write ask) s ask targets order

-- the volume's last read began at the first of these copies
abbrev pub last_after : List ℕ → ℕ → List ℕ → List ℕ
last_after last lv [] = last
last_after last lv (first ∷ rest) = slice_set last lv first

-- it has its targets
abbrev pub admitted_as : Policy → Mode → List Target → Open → Open
admitted_as how m targets o = record o { request = admitted o.request how m targets; older = false }

-- A write goes to several copies of a passive volume that isn't wanted dirty yet.
abbrev pub makes_dirty : Core → Ask → List Target → Bool
makes_dirty core ask targets = is_passive (mode_of core ask) && is_write ask && nat_le 2 (length targets) && not (calls_dirty core.status.wanted (lv_of ask))

-- it has its targets, a pin that it held is given up, and its volume's last read began at the first copy of the order
abbrev pub after_admission : Core → ℕ → Open → List Target → List ℕ → Core
after_admission core place o targets order = record (with_open core place (admitted_as (policy_of core o.request.ask) (mode_of core o.request.ask) targets o)) {
  cache = without_pin core.cache o.request;
  last = last_after core.last (lv_of o.request.ask) order;
}

-- A request is admitted, or admitted again; its volume is wanted dirty where it is to be.
pub record Admits (old new : State) (place : ℕ) : Type 0 where
  pub request : Open
  pub there : slice_get old.core.requests place ≡ Some request
  pub admits : next_for old.core request ≡ next.Admit
  pub targets : List Target
  pub order : List ℕ
  pub chosen : Chooses old request.request.ask targets order
  pub dirty : WantsDirtyIf (makes_dirty old.core request.request.ask targets) (lv_of request.request.ask) old.core.status new.core.status
  pub is : new ≡ state old.device (record (after_admission old.core place request targets order) { status = new.core.status })

-- ---- Pin

-- Its track group is pinned in the cache.
pub record Pins (old new : State) (place : ℕ) : Type 0 where
  pub request : Open
  pub there : slice_get old.core.requests place ≡ Some request
  pub pins : may_pin old.core request ≡ true
  pub is : new ≡ state old.device (record (with_open old.core place (record request { request = with_pin request.request })) { cache = after_pin old.core.cache (lv_of request.request.ask) (group_of request.request.ask) })

-- ---- starts

-- whose transfer it is
abbrev pub flown : ℕ → ℕ → Owner → Flown
flown ticket disk owner = record { ticket = ticket; disk = disk; owner = owner }

-- A transfer is started, with a buffer of the pool.
pub record Launches (old new : State) (flight : Flight) : Type 0 where
  pub long : length flight.buf.sectors ≡ 256
  pub taken : TakesLowest old.core.pool new.core.pool flight.buf.number
  pub starts : Starts old.device new.device flight

-- with it, what is out
abbrev pub with_flight : Core → Flight → Owner → Core
with_flight core f owner = record core { flying = core.flying ++ flown f.ticket f.disk owner ∷ [] }

-- ---- StartStatus

-- an update is put in flight where none is
abbrev pub PutsInFlight : Stored → Stored → Type 0
PutsInFlight old begun = ((old.in_flight ≡ None → ⊥) × (begun ≡ old)) ⊎ (MayStartUpdate (seen old) × (seen begun ≡ with_update (seen old)))

-- The write of the status in flight to a disk, under its stamp.
pub record IsStatusWrite (core : Core) (status : Status) (disk : ℕ) (f : Flight) : Type 0 where
  pub disk_is : f.disk ≡ disk
  pub first : f.first ≡ slot_start kind.Status (next_slot kind.Status core.homes disk)
  pub count : f.count ≡ record_sectors (length (status_bytes status))
  pub write : f.write ≡ true
  pub carries : (k : ℕ) → k < f.count → slice_get f.buf.sectors k ≡ Some (frame kind.Status core.status.stamp (status_bytes status) k)

-- A write of the status starts: of the one in flight, or of a new one, with what is wanted.
pub record StartsStatus (old new : State) : Type 0 where
  pub due : is_status_due old.core ≡ true
  pub begun : Stored
  pub begins : PutsInFlight old.core.status begun
  pub disk : ℕ
  pub lowest : IsLowest (seen begun).unstarted (Some disk)
  pub started : seen new.core.status ≡ with_write_start (seen begun) (Some disk)
  pub status : Status
  pub flies : new.core.status.in_flight ≡ Some status
  pub flight : Flight
  pub writes : IsStatusWrite new.core status disk flight
  pub launches : Launches old new flight
  pub is : new ≡ state new.device (record (with_flight old.core flight (owner.Status disk)) { status = new.core.status; pool = new.core.pool })

-- ---- StartNote

-- the write of a note that names the whole cache
pub record IsNoteWrite (core : Core) (disk : ℕ) (f : Flight) : Type 0 where
  pub disk_is : f.disk ≡ disk
  pub first : f.first ≡ note_sector
  pub count : f.count ≡ 1
  pub write : f.write ≡ true
  pub carries : slice_get f.buf.sectors 0 ≡ Some (note_bytes (record { stamp = core.status.stamp.epoch; entries = note_of core.cache.entries }))

-- A note starts on the first disk on which the request lacks one.
pub record StartsNote (old new : State) (place disk : ℕ) : Type 0 where
  pub request : Open
  pub there : slice_get old.core.requests place ≡ Some request
  pub due : note_due old.core request ≡ Some disk
  pub flight : Flight
  pub writes : IsNoteWrite old.core disk flight
  pub launches : Launches old new flight
  pub is : new ≡ state new.device (record (with_flight old.core flight (owner.Note disk)) { pool = new.core.pool; cache = after_start old.core.cache disk })

-- ---- StartData

-- The transfer of a request to or from a target; a write carries its blocks.
pub record IsDataTransfer (core : Core) (r : Request) (t : Target) (f : Flight) : Type 0 where
  pub disk_is : f.disk ≡ t.pp.disk
  pub first : f.first ≡ t.sector
  pub count : f.count ≡ count_of r.ask
  pub write : f.write ≡ is_write r.ask
  pub carries : is_write r.ask ≡ true → (k : ℕ) → k < f.count → slice_get f.buf.sectors k ≡ slice_get (request_of core.history.facts r.id).blocks k

-- a target's transfer has started
abbrev pub begun_as : ℕ → Open → Open
begun_as target o = record o { request = with_start o.request target }

-- it is the turn of this target of the request at a place
pub record IsDueAt (core : Core) (place target : ℕ) : Type 0 where
  pub request : Open
  pub there : slice_get core.requests place ≡ Some request
  pub due : target_due core request ≡ Some target
  pub aim : Target
  pub aim_is : slice_get request.request.targets.items target ≡ Some aim

-- The transfer of the target of a request whose turn it is starts.
pub record StartsData (old new : State) (place target : ℕ) : Type 0 where
  pub its : IsDueAt old.core place target
  pub flight : Flight
  pub moves : IsDataTransfer old.core its.request.request its.aim flight
  pub launches : Launches old new flight
  pub is : new ≡ state new.device (record (with_flight (with_open old.core place (begun_as target its.request)) flight (owner.Data its.request.request.id target)) { pool = new.core.pool })

-- ---- the copy that is being brought up

-- the sector of a copy at which the track group at the cursor begins
abbrev pub step_sector : Core → OpenCopy → Pp → ℕ
step_sector core c p = sector_of core.descriptor.mib p.pp (block_at core c)

-- The transfer of a whole track group, between the copy that is brought up and this partition.
pub record IsCopyTransfer (core : Core) (c : OpenCopy) (p : Pp) (write : Bool) (f : Flight) : Type 0 where
  pub disk_is : f.disk ≡ p.disk
  pub first : f.first ≡ step_sector core c p
  pub count : f.count ≡ 256
  pub write_is : f.write ≡ write

-- The track group at the cursor is read from the next source.
pub record ReadsCopy (old new : State) : Type 0 where
  pub copy : OpenCopy
  pub is_open : old.core.copy ≡ Some copy
  pub may : may_read old.core copy ≡ true
  pub source : Pp
  pub source_is : next_source old.core copy ≡ Some source
  pub flight : Flight
  pub reads : IsCopyTransfer old.core copy source false flight
  pub launches : Launches old new flight
  pub is : new ≡ state new.device (record (with_flight old.core flight owner.Copy) { pool = new.core.pool; copy = Some (record copy { step = step.Reading source }) })

-- What was read of it is written; its buffer is the one in hand.
pub record WritesCopy (old new : State) : Type 0 where
  pub copy : OpenCopy
  pub is_open : old.core.copy ≡ Some copy
  pub may : may_write copy ≡ true
  pub buf : Buffer
  pub in_hand : copy.step ≡ step.Read buf
  pub flight : Flight
  pub writes : IsCopyTransfer old.core copy copy.pp true flight
  pub carries : flight.buf ≡ buf
  pub starts : Starts old.device new.device flight
  pub is : new ≡ state new.device (record (with_flight old.core flight owner.Copy) { copy = Some (record copy { step = step.Writing }) })
