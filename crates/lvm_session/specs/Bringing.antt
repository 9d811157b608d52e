-- The copy that is being brought up: its steps, its sources and its end.
use Rattle.std.specs.Prelude.{ℕ, ◌+◌, ◌*◌, ◌-◌, Bool, true, false, ◌&&◌, ◌||◌, ◌==◌, not, if◌then◌else◌, List, length, find, filter, Option, Some, None, is_none, slice_set}
use Rattle.std.specs.Option.{option_map_or}
use Rattle.lvm_num.specs.Buffer.{Buffer}
use Rattle.lvm_num.specs.declared.place.Pp.{Pp}
use Rattle.lvm_num.specs.Disks.{has}
use Rattle.lvm_num.specs.Geometry.{partition_blocks}
use Rattle.lvm_kept.specs.passed.Vol.{next_id}
use Rattle.lvm_num.specs.Descriptor.{is_pp}
use Rattle.lvm_hold.specs.declared.queue.Held.{Held}
use Rattle.lvm_hold.specs.declared.queue.Row.{Row}
use Rattle.lvm_hold.specs.Waiting.{without}
use Rattle.lvm_session.specs.declared.bringing.OpenCopy.{OpenCopy}
use Rattle.lvm_session.specs.declared.bringing.Step.{Step}
use Rattle.lvm_session.specs.declared.bringing.Step.TheVariants as step
use Rattle.lvm_session.specs.declared.bringing.CopyEnd.{CopyEnd}
use Rattle.lvm_session.specs.declared.bringing.CopyEnd.TheVariants as ending
use Rattle.lvm_session.specs.State.{Core}
use Rattle.lvm_session.specs.Judging.{copies_in, is_usable, is_missing, stays_fresh, is_running, place_of}
pub use Rattle.lvm_session.specs.Judging.{groups_of, is_held_stale, is_whole}

-- ---- its track groups

-- the first block, in its volume, of the track group at the cursor
abbrev pub block_at : Core → OpenCopy → ℕ
block_at core c = partition_blocks core.descriptor.mib * c.lp + 256 * c.cursor

-- ---- its steps

-- a transfer of it is out
abbrev pub is_out : Step → Bool
is_out step.Idle = false
is_out (step.Reading source) = true
is_out (step.Read buf) = false
is_out step.Writing = true

-- nothing is read yet
abbrev pub is_idle : Step → Bool
is_idle step.Idle = true
is_idle (step.Reading source) = false
is_idle (step.Read buf) = false
is_idle step.Writing = false

-- the buffer that it has in hand
abbrev pub hand_of : Step → Option Buffer
hand_of step.Idle = None
hand_of (step.Reading source) = None
hand_of (step.Read buf) = Some buf
hand_of step.Writing = None

-- a step of it stands in the hold queue: while it is being brought up and not whole, and while a transfer of it is out
abbrev pub has_row : Core → OpenCopy → Bool
has_row core c = is_out c.step || (is_running c && not (is_whole core c))

-- a step takes its whole track group
abbrev pub step_of : Core → OpenCopy → Held
step_of core c = record { lv = c.lv; at = block_at core c; count = 256; write = false; copy = true }

-- the row of its step in the hold queue
abbrev pub step_row : Core → OpenCopy → Row
step_row core c = record { id = c.place; ask = step_of core c }

-- the place behind the last request that began
abbrev pub step_place : Core → ℕ
step_place core = place_of (next_id core.history) - 1

-- ---- its sources

-- the other copies of its logical partition that are usable
abbrev pub sources_of : Core → OpenCopy → List Pp
sources_of core c = filter (λ (p : Pp). not (is_pp p c.pp) && is_usable core p) (copies_in core.descriptor c.lv c.lp)

-- the first that wasn't read in vain for this track group
abbrev pub next_source : Core → OpenCopy → Option Pp
next_source core c = find (λ (p : Pp). not (has c.tried p.disk)) (sources_of core c)

-- ---- its end

-- its clearing is committed, and nothing wants it stale again; a move isn't cleared, but committed
abbrev pub is_cleared : Core → OpenCopy → Bool
is_cleared core c = not c.moves && stays_fresh core c.pp

-- so it ends, where this is so
abbrev pub ends_if : Bool → CopyEnd → Option CopyEnd
ends_if is how = if is then Some how else None

-- how it ends by what it may read for the track group at its cursor
abbrev pub end_by_sources : Core → OpenCopy → Option CopyEnd
end_by_sources core c = if length (sources_of core c) == 0 then Some ending.NoFresh else ends_if (is_idle c.step && is_none (next_source core c)) ending.SyncFailed

-- How the state as a whole makes it end: its disk is missing; nothing is left to read for its track group; or all is copied and it is cleared. A move that is whole
-- ends so only where its disk becomes missing.
abbrev pub end_of : Core → OpenCopy → Option CopyEnd
end_of core c =
    if not (is_running c) then None
    else if is_missing core c.pp.disk then Some ending.SyncFailed
    else if is_whole core c then ends_if (is_cleared core c) ending.Done
    else end_by_sources core c

-- how the copy that is open ends so, if one is
abbrev pub copy_ends : Core → Option CopyEnd
copy_ends core = option_map_or (end_of core) core.copy None

-- ---- what its end makes

-- a buffer that is in hand comes back to the pool
abbrev pub with_back : List Bool → Option Buffer → List Bool
with_back pool None = pool
with_back pool (Some buf) = slice_set pool buf.number false

-- it has ended, and gives up what it has in hand
abbrev pub with_copy_end : OpenCopy → CopyEnd → OpenCopy
with_copy_end c how = record c { step = if is_out c.step then c.step else step.Idle; end = Some how }

-- its step leaves the queue, where no transfer of it is out
abbrev pub after_copy_end : Core → OpenCopy → CopyEnd → Core
after_copy_end core c how = record core {
  copy = Some (with_copy_end c how);
  queue = if is_out c.step then core.queue else record core.queue { rows = without c.place core.queue.rows };
  pool = with_back core.pool (hand_of c.step);
}

-- the copy that is open ends so, if it does
abbrev pub with_end : Core → Option CopyEnd → Core
with_end core None = core
with_end core (Some how) = option_map_or (λ (c : OpenCopy). after_copy_end core c how) core.copy core

-- it is fresh
abbrev pub is_done_end : CopyEnd → Bool
is_done_end ending.Done = true
is_done_end ending.SyncFailed = false
is_done_end ending.NoFresh = false
is_done_end ending.Ended = false

-- where it ends otherwise once its clearing was wanted, its partition is to be stale again; that of a move only where it was called stale
abbrev pub marked_by_end : Core → Option CopyEnd → Pp → Bool
marked_by_end core None p = false
marked_by_end core (Some how) p = not (is_done_end how) && option_map_or (λ (c : OpenCopy). is_whole core c && is_pp p c.pp && (not c.moves || is_held_stale core c.pp)) core.copy false
