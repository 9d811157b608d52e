-- The work that is left: each event of a turn lowers it.
use Rattle.std.specs.Prelude.{ℕ, ◌+◌, ◌*◌, ◌-◌, Bool, true, false, ◌&&◌, not, if◌then◌else◌, List, [], ◌∷◌, length, count_by, sum_by, unwrap_or}
use Rattle.std.specs.List.{list_any}
use Rattle.std.specs.Option.{option_map_or}
use Rattle.lvm_num.specs.declared.place.Pp.{Pp}
use Rattle.lvm_num.specs.declared.descriptor.PvRow.{PvRow}
use Rattle.lvm_num.specs.declared.descriptor.LvRow.{LvRow}
use Rattle.lvm_num.specs.Status.{calls_dirty}
use Rattle.lvm_num.specs.Descriptor.{is_pp}
use Rattle.lvm_num.specs.declared.status.Status.{Status}
use Rattle.lvm_num.specs.Disks.{has}
use Rattle.lvm_path.specs.passed.Sched.{is_waiting as is_unstarted}
use Rattle.lvm_mwc.specs.Cache.{flight_names, is_named}
use Rattle.lvm_path.specs.declared.ask.Ask.{Ask}
use Rattle.lvm_path.specs.declared.request.Phase.{Phase}
use Rattle.lvm_path.specs.declared.request.Phase.TheVariants as phase
use Rattle.lvm_path.specs.declared.request.Request.{Request}
use Rattle.lvm_path.specs.declared.target.Target.{Target}
use Rattle.lvm_path.specs.Asks.{lv_of, is_write}
use Rattle.lvm_path.specs.Targets.{is_done, is_begun, are_over}
use Rattle.lvm_session.specs.declared.open.Open.{Open}
use Rattle.lvm_session.specs.declared.open.Power.{Power}
use Rattle.lvm_session.specs.declared.open.Power.TheVariants as power
use Rattle.lvm_session.specs.declared.bringing.OpenCopy.{OpenCopy}
use Rattle.lvm_session.specs.declared.bringing.Step.{Step}
use Rattle.lvm_session.specs.declared.bringing.Step.TheVariants as step
use Rattle.lvm_session.specs.State.{Core, is_there}
use Rattle.lvm_session.specs.Judging.{is_waiting, copies_in, copies_for, group_of, mode_of, is_usable, is_settled, is_missing, is_changed, is_running, destinations_for}
use Rattle.lvm_session.specs.Bringing.{groups_of, is_whole}
use Rattle.lvm_session.specs.Enabled.{is_lost, same_status}
use Rattle.lvm_num.specs.Modes.{is_passive}

-- an update's writes, each with its start and its end, on at most 128 members
abbrev pub update_work : ℕ
update_work = 256

-- so much, where this is so
abbrev pub if_so : Bool → ℕ → ℕ
if_so is n = if is then n else 0

-- so much, where a request is open
abbrev pub if_open : List Open → ℕ → ℕ
if_open [] n = 0
if_open (o ∷ os) n = n

-- ---- the status

-- the writes of the update that aren't started
abbrev pub unstarted_writes : Core → ℕ
unstarted_writes core = count_by (λ (row : PvRow). has core.status.writes.unstarted row.disk) core.status.group.pvs

-- the update in flight, and the one that will follow
abbrev pub status_left : Core → ℕ
status_left core = option_map_or
    (λ (u : Status). 2 * unstarted_writes core + if_so (not (same_status core.status.wanted u)) update_work)
    core.status.in_flight (if_so (not (same_status core.status.wanted core.status.committed)) update_work)

-- ---- a request

-- the targets whose transfers aren't started
abbrev pub waiting_targets : Request → ℕ
waiting_targets r = count_by (λ (t : Target). is_unstarted t.state) r.targets.items

-- a read, by its phase
abbrev pub read_left : Phase → Request → ℕ
read_left phase.Held r = 8
read_left p r = if list_any (λ (t : Target). is_done t.state) r.targets.items then 1 else 1 + 2 * waiting_targets r

-- a note is to be started on the disk of this target
abbrev pub lacks_note : Core → Request → Target → Bool
lacks_note core r t = r.pinned && not (is_missing core t.pp.disk) && not (is_named core.cache t.pp.disk (lv_of r.ask) (group_of r.ask)) && not (flight_names core.cache t.pp.disk (lv_of r.ask) (group_of r.ask))

-- a write that hasn't started its data, by its phase
abbrev pub phase_left : Phase → Core → Request → ℕ
phase_left phase.Held core r = 19
phase_left phase.WantEntry core r = 18
phase_left phase.WantRecord core r = 9 + 2 * count_by (lacks_note core r) r.targets.items
phase_left phase.Data core r = 9
phase_left phase.WantStatus core r = 9
phase_left phase.Landed core r = 9

-- it isn't admitted yet
abbrev pub is_held : Phase → Bool
is_held phase.Held = true
is_held phase.WantEntry = false
is_held phase.WantRecord = false
is_held phase.Data = false
is_held phase.WantStatus = false
is_held phase.Landed = false

-- the copy on this partition is being brought up
abbrev pub is_brought_up : Core → Pp → Bool
is_brought_up core p = option_map_or (λ (c : OpenCopy). is_running c && is_pp p c.pp) core.copy false

-- What a copy may still make of a write that hasn't started: it may come to be among its targets, and cease to be.
abbrev pub turns_of : Core → Pp → ℕ
turns_of core p =
    if is_missing core p.disk then 0
    else if is_usable core p then (if is_brought_up core p then 34 else 22)
    else if is_brought_up core p then 46
    else if is_settled core p then 0 else 34

-- so may the destination of a move
abbrev pub destination_turns : Core → Pp → ℕ
destination_turns core p = if not (is_missing core p.disk) && is_brought_up core p then 46 else 0

-- its volume is passive, and a mark of it is still to be wanted
abbrev pub lacks_dirty : Core → Ask → Bool
lacks_dirty core ask = is_passive (mode_of core ask) && not (calls_dirty core.status.wanted (lv_of ask))

-- a write that hasn't started its data
abbrev pub unbegun_left : Core → Request → ℕ
unbegun_left core r =
    update_work + sum_by (turns_of core) (copies_for core r.ask) + sum_by (destination_turns core) (destinations_for core r.ask) + if_so (lacks_dirty core r.ask) update_work
    + if_so (not (is_held r.phase) && is_changed core r) 12 + phase_left r.phase core r

-- one that has
abbrev pub begun_left : Request → ℕ
begun_left r = 1 + 2 * waiting_targets r + if_so (not (are_over r.targets.items)) update_work

-- a write
abbrev pub write_left : Core → Request → ℕ
write_left core r = if is_begun r.targets.items then begun_left r else unbegun_left core r

-- a request that hasn't landed
abbrev pub request_left : Core → Open → ℕ
request_left core o = if_so (is_waiting o) (if is_write o.request.ask then write_left core o.request else read_left o.request.phase o.request)

-- ---- the copy that is being brought up

-- how many copies were tried for the track group at its cursor
abbrev pub tried_of : Core → OpenCopy → ℕ
tried_of core c = count_by (λ (p : Pp). has c.tried p.disk) (copies_in core.descriptor c.lv c.lp)

-- the track group at its cursor
abbrev pub step_left : Step → ℕ → ℕ
step_left step.Idle tried = 8 - 2 * tried
step_left (step.Reading source) tried = 6 - 2 * tried
step_left (step.Read buf) tried = 2
step_left step.Writing tried = 0

-- the copy: the updates that it may bring, and its track groups
abbrev pub copy_left : Core → OpenCopy → ℕ
copy_left core c =
    if not (is_running c) then 0
    else if is_whole core c then 2 * update_work
    else 3 * update_work + 16 * (groups_of core - c.cursor - 1) + 8 + step_left c.step (tried_of core c)

-- ---- all of it

-- all that is left while the votes are there
abbrev pub work_left : Core → ℕ
work_left core =
    length core.flying + (update_work + 1) * count_by (λ (row : PvRow). is_there core row.disk) core.descriptor.pvs
    + status_left core + sum_by (request_left core) core.requests + option_map_or (copy_left core) core.copy 0

-- while the votes are lost, transfers end and requests land
abbrev pub left_by : Power → Core → ℕ
left_by power.On core = if is_lost core then length core.flying + count_by is_waiting core.requests else work_left core
left_by power.Off core = 0
left_by power.Dark core = 0
left_by power.Stuck core = 0

-- the work that is left in a session
abbrev pub left_of : Core → ℕ
left_of core = left_by core.power core

-- ---- the numbers of its records

-- the transfers of a write haven't all ended
abbrev pub marks_later : Open → Bool
marks_later o = is_waiting o && is_write o.request.ask && not (is_begun o.request.targets.items && are_over o.request.targets.items)

-- the copy's clearing, and its end; and the descriptor that a move commits
abbrev pub copy_updates : Core → OpenCopy → ℕ
copy_updates core c = if not (is_running c) then 0 else (if is_whole core c then 1 else 2) + if_so c.moves 1

-- the passive volumes that aren't wanted dirty yet
abbrev pub clean_volumes : Core → ℕ
clean_volumes core = count_by (λ (row : LvRow). is_passive row.mode && not (calls_dirty core.status.wanted row.number)) core.descriptor.lvs

-- How many updates may still be begun: one for what is wanted now, and one for each thing by which more may come to be wanted, which are the writes
-- whose transfers haven't all ended, the members that may become missing, the passive volumes that an open request may mark, and the copy's clearing and end.
abbrev pub updates_left : Core → ℕ
updates_left core =
    if_so (not (same_status core.status.wanted (unwrap_or core.status.in_flight core.status.committed))) 1
    + count_by marks_later core.requests + if_open core.requests (clean_volumes core) + count_by (λ (row : PvRow). is_there core row.disk) core.descriptor.pvs + option_map_or (copy_updates core) core.copy 0
