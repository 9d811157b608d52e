-- How the copies stand to which a request goes, and what a request is told of it.
use Rattle.std.specs.Prelude.{◌≡◌, ◌≤◌, ℕ, ◌++◌, ◌+◌, ◌*◌, ◌%◌, ◌<◌, ◌^◌, Bool, true, false, ◌&&◌, ◌||◌, ◌==◌, not, nat_lt, if◌then◌else◌, List, [], ◌∷◌, map, filter, Some, is_none, unwrap_or}
use Rattle.std.specs.List.{list_any, list_all}
use Rattle.std.specs.Option.{option_map_or}
use Rattle.lvm_num.specs.declared.place.Pp.{Pp}
use Rattle.lvm_num.specs.declared.descriptor.LvRow.{LvRow}
use Rattle.lvm_num.specs.declared.descriptor.Mode.{Mode}
use Rattle.lvm_num.specs.declared.descriptor.Mode.TheVariants as mode
use Rattle.lvm_num.specs.declared.descriptor.Policy.{Policy}
use Rattle.lvm_num.specs.declared.descriptor.Policy.TheVariants as policy
use Rattle.lvm_num.specs.declared.descriptor.Descriptor.{Descriptor}
use Rattle.lvm_num.specs.Descriptor.{copies_of, volume_of, is_pp}
use Rattle.lvm_num.specs.Geometry.{partition_blocks, partition_of, track_group_of, volume_blocks}
use Rattle.lvm_num.specs.Status.{calls_stale, calls_missing, calls_dirty}
use Rattle.lvm_hold.specs.declared.queue.Held.{Held}
use Rattle.lvm_hold.specs.Waiting.{is_blocked}
use Rattle.lvm_mwc.specs.Cache.{is_named}
use Rattle.lvm_status.specs.Update.{seen, is_settled_stale}
use Rattle.lvm_path.specs.declared.facts.Facts.{Facts}
use Rattle.lvm_path.specs.declared.facts.Next.{Next}
use Rattle.lvm_path.specs.declared.ask.Ask.{Ask}
use Rattle.lvm_path.specs.declared.request.Request.{Request}
use Rattle.lvm_path.specs.declared.request.Phase.{Phase}
use Rattle.lvm_path.specs.declared.request.Phase.TheVariants as phase
use Rattle.lvm_path.specs.declared.target.Target.{Target}
use Rattle.lvm_path.specs.Asks.{lv_of, at_of, count_of, is_write}
use Rattle.lvm_path.specs.Targets.{is_done, is_failed, is_begun}
use Rattle.lvm_path.specs.Next.{next_of}
use Rattle.lvm_session.specs.declared.open.Open.{Open}
use Rattle.lvm_session.specs.declared.bringing.OpenCopy.{OpenCopy}
use Rattle.lvm_session.specs.State.{Core}

-- ---- where a request lies

-- the copies of a logical partition of a volume
abbrev pub copies_in : Descriptor → ℕ → ℕ → List Pp
copies_in d lv lp = option_map_or (λ (row : LvRow). copies_of row lp) (volume_of d lv) []

-- the logical partition in which a request lies, from 0
abbrev pub lp_of : Core → Ask → ℕ
lp_of core ask = partition_of core.descriptor.mib (at_of ask)

-- the copies of that one
abbrev pub copies_for : Core → Ask → List Pp
copies_for core ask = copies_in core.descriptor (lv_of ask) (lp_of core ask)

-- its track group, counted in its logical partition
abbrev pub group_in : Core → Ask → ℕ
group_in core ask = track_group_of (at_of ask % partition_blocks core.descriptor.mib)

-- and in its volume
abbrev pub group_of : Ask → ℕ
group_of ask = track_group_of (at_of ask)

-- how its volume sees to copies that may differ after a crash
abbrev pub mode_of : Core → Ask → Mode
mode_of core ask = option_map_or (λ (row : LvRow). row.mode) (volume_of core.descriptor (lv_of ask)) mode.Off

-- in which order its volume takes the copies
abbrev pub policy_of : Core → Ask → Policy
policy_of core ask = option_map_or (λ (row : LvRow). row.policy) (volume_of core.descriptor (lv_of ask)) policy.Parallel

-- its blocks are blocks of its volume
pub record IsWithinVolume (d : Descriptor) (ask : Ask) : Type 0 where
  pub row : LvRow
  pub volume : volume_of d (lv_of ask) ≡ Some row
  pub within : at_of ask + count_of ask ≤ volume_blocks d.mib row.lps
  pub some : 1 ≤ count_of ask
  pub fits : at_of ask < 2 ^ 40

-- the request hasn't landed
abbrev pub is_waiting : Open → Bool
is_waiting o = is_none o.landed

-- ---- how a copy stands

-- A disk is missing that didn't answer when the session began, and from the first write of a record on it on that failed.
abbrev pub is_missing : Core → ℕ → Bool
is_missing core disk = calls_missing core.status.wanted disk

-- stale by the committed status
abbrev pub is_stale : Core → Pp → Bool
is_stale core p = calls_stale core.status.committed p

-- or by the one in flight
abbrev pub is_held_stale : Core → Pp → Bool
is_held_stale core p = is_stale core p || calls_stale (unwrap_or core.status.in_flight core.status.committed) p

-- wanted stale
abbrev pub is_wanted_stale : Core → Pp → Bool
is_wanted_stale core p = calls_stale core.status.wanted p

-- fresh by what is committed, what is in flight and what is wanted
abbrev pub stays_fresh : Core → Pp → Bool
stays_fresh core p = not (is_held_stale core p) && not (is_wanted_stale core p)

-- stale by the committed status and by the one in flight
abbrev pub is_settled : Core → Pp → Bool
is_settled core p = is_settled_stale (seen core.status) p

-- fresh by the committed status, on a disk that isn't missing
abbrev pub is_usable : Core → Pp → Bool
is_usable core p = not (is_stale core p) && not (is_missing core p.disk)

-- fresh by the committed status, and not wanted stale
abbrev pub is_sure : Core → Pp → Bool
is_sure core p = not (is_stale core p) && not (is_wanted_stale core p)

-- the copy that is open hasn't ended
abbrev pub is_running : OpenCopy → Bool
is_running c = is_none c.end

-- how many track groups a logical partition has
abbrev pub groups_of : Core → ℕ
groups_of core = track_group_of (partition_blocks core.descriptor.mib)

-- all of them are copied
abbrev pub is_whole : Core → OpenCopy → Bool
is_whole core c = not (nat_lt c.cursor (groups_of core))

-- the copy that is being brought up has passed this track group of its logical partition
abbrev pub is_caught : Core → ℕ → Pp → Bool
is_caught core group p = option_map_or (λ (c : OpenCopy). is_running c && is_pp p c.pp && nat_lt group c.cursor) core.copy false

-- ---- the destination of a move

-- a copy is open that moves to another partition
abbrev pub is_moving : Core → Bool
is_moving core = option_map_or (λ (c : OpenCopy). c.moves) core.copy false

-- the partition is one to which a copy moves, or was to move (until the move is closed)
abbrev pub is_destination : Core → Pp → Bool
is_destination core p = option_map_or (λ (c : OpenCopy). c.moves && is_pp p c.pp) core.copy false

-- the request goes over the logical partition of a copy that is open
abbrev pub is_beside_copy : Core → Ask → OpenCopy → Bool
is_beside_copy core ask c = lv_of ask == c.lv && lp_of core ask == c.lp

-- that partition, where the move is one of the request's logical partition, if this is so of it
abbrev pub destinations_if : Bool → OpenCopy → List Pp
destinations_if is c = if is then c.pp ∷ [] else []

-- of the move that is open, also once it has ended
abbrev pub destinations_for : Core → Ask → List Pp
destinations_for core ask = option_map_or (λ (c : OpenCopy). destinations_if (c.moves && is_beside_copy core ask c) c) core.copy []

-- where it runs and has passed the track group
abbrev pub destination_aims : Core → Ask → List Pp
destination_aims core ask = filter (is_caught core (group_in core ask)) (destinations_for core ask)

-- ---- targets

-- The copies to which a write goes: those that are usable, and the one that is being brought up where it has passed the track group.
abbrev pub aims : Core → Ask → List Pp
aims core ask = filter (λ (p : Pp). is_usable core p || is_caught core (group_in core ask) p) (copies_for core ask)

-- the same partitions in the same order
abbrev pub same_pps : List Pp → List Pp → Bool
same_pps [] [] = true
same_pps [] (q ∷ qs) = false
same_pps (p ∷ ps) [] = false
same_pps (p ∷ ps) (q ∷ qs) = is_pp p q && same_pps ps qs

-- the partitions of targets
abbrev pub pps_of : List Target → List Pp
pps_of targets = map (λ (t : Target). t.pp) targets

-- It is a write, and its targets are no longer the copies to which it goes.
abbrev pub is_changed : Core → Request → Bool
is_changed core r = is_write r.ask && not (same_pps (pps_of r.targets.items) (aims core r.ask ++ destination_aims core r.ask))

-- A target counts as failed where its transfer failed, or where it was usable at the admission and is wanted stale.
abbrev pub counts_failed : Core → Target → Bool
counts_failed core t = is_failed t.state || (t.usable && is_wanted_stale core t.pp)

-- a target that is sure, and no destination of a move
abbrev pub is_sure_at : Core → Target → Bool
is_sure_at core t = not t.moves && is_sure core t.pp

-- a target that is sure has succeeded
abbrev pub is_kept : Core → Request → Bool
is_kept core r = list_any (λ (t : Target). is_done t.state && is_sure_at core t) r.targets.items

-- all but the first target that is sure
abbrev pub all_but_sure : Core → List Target → List Target
all_but_sure core [] = []
all_but_sure core (t ∷ ts) = if is_sure_at core t then ts else t ∷ all_but_sure core ts

-- The staleness that is due is settled: that of each target that counts as failed where a sure one has succeeded, else that of all but the first sure one.
abbrev pub is_marked : Core → Request → Bool
is_marked core r =
    if is_kept core r then list_all (λ (t : Target). not (counts_failed core t) || is_settled core t.pp) r.targets.items
    else list_all (λ (t : Target). is_settled core t.pp) (all_but_sure core r.targets.items)

-- ---- what is pending

-- a write that has started its data, has a target that counts as failed, and hasn't landed
abbrev pub is_failing : Core → Open → Bool
is_failing core o = is_waiting o && is_write o.request.ask && is_begun o.request.targets.items && list_any (counts_failed core) o.request.targets.items

-- two requests lie in one logical partition
abbrev pub is_beside : Core → Ask → Ask → Bool
is_beside core a b = lv_of a == lv_of b && lp_of core a == lp_of core b

-- ---- a move that is done

-- it is admitted and hasn't landed
abbrev pub is_past_held : Phase → Bool
is_past_held phase.Held = false
is_past_held phase.WantEntry = true
is_past_held phase.WantRecord = true
is_past_held phase.Data = true
is_past_held phase.WantStatus = true
is_past_held phase.Landed = false

-- some request that goes over the logical partition of the copy is admitted and hasn't landed
abbrev pub is_under_way : Core → OpenCopy → Bool
is_under_way core c = list_any (λ (o : Open). is_waiting o && is_past_held o.request.phase && is_beside_copy core o.request.ask c) core.requests

-- All of it is copied, its destination is fresh by each status, and nothing is under way on its logical partition; nothing is admitted there while it is so.
abbrev pub is_move_done : Core → OpenCopy → Bool
is_move_done core c = c.moves && is_running c && is_whole core c && stays_fresh core c.pp && not (is_under_way core c)

-- so it is of the move of a copy of the request's logical partition
abbrev pub is_held_by_move : Core → Ask → Bool
is_held_by_move core ask = option_map_or (λ (c : OpenCopy). is_move_done core c && is_beside_copy core ask c) core.copy false

-- Staleness of a copy of its logical partition is wanted and not settled, or another write there is failing, or a move of one is done.
abbrev pub is_pending : Core → Request → Bool
is_pending core r =
    is_held_by_move core r.ask ||
    (list_any (λ (p : Pp). is_wanted_stale core p && not (is_settled core p)) (copies_for core r.ask)
    || list_any (λ (e : Open). not (e.request.id == r.id) && is_beside core e.request.ask r.ask && is_failing core e) core.requests)

-- ---- records

-- the notes of the disks of all its targets name its track group, where its volume keeps notes
abbrev pub has_names : Core → Mode → Request → Bool
has_names core mode.Active r = list_all (λ (t : Target). is_named core.cache t.pp.disk (lv_of r.ask) (group_of r.ask)) r.targets.items
has_names core mode.Passive r = true
has_names core mode.Off r = true

-- its volume is dirty by the committed status and by the one in flight, where it is passive
abbrev pub has_dirty_mark : Core → Mode → Request → Bool
has_dirty_mark core mode.Active r = true
has_dirty_mark core mode.Passive r = calls_dirty core.status.committed (lv_of r.ask) && calls_dirty (unwrap_or core.status.in_flight core.status.committed) (lv_of r.ask)
has_dirty_mark core mode.Off r = true

-- ---- who waits

-- Requests have the even places of the hold queue, by their numbers; a step of a copy has the odd one behind the last request that began.
abbrev pub place_of : ℕ → ℕ
place_of id = 2 * id

-- what it asks of the hold queue
abbrev pub held_of : Ask → Held
held_of ask = record { lv = lv_of ask; at = at_of ask; count = count_of ask; write = is_write ask; copy = false }

-- an earlier request or step that stands in the queue conflicts with it
abbrev pub is_held_back : Core → Request → Bool
is_held_back core r = is_blocked core.queue.rows (place_of r.id) (held_of r.ask)

-- ---- what it is told, and does next

-- the facts that it is told
abbrev pub facts_of : Core → Request → Facts
facts_of core r = record {
  blocked = is_held_back core r;
  pending = is_pending core r;
  pinned = r.pinned;
  named = has_names core (mode_of core r.ask) r;
  dirty = has_dirty_mark core (mode_of core r.ask) r;
  marked = is_marked core r;
  usable = list_any (is_usable core) (copies_for core r.ask);
  changed = is_changed core r;
  kept = is_kept core r;
}

-- what it does next
abbrev pub next_for : Core → Open → Next
next_for core o = next_of o.request (facts_of core o.request)
