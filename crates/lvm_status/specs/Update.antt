-- The status of a session: what is committed, what is in flight and what is wanted.
use Rattle.std.specs.Prelude.{◌≡◌, ℕ, Bool, false, ◌&&◌, ◌||◌, ◌==◌, not, Option, None, unwrap_or}
use Rattle.std.specs.List.{list_any}
use Rattle.lvm_status.specs.passed.Num.{Pp, Stamp, PvRow, Descriptor, Status, is_member, Disks, has, calls_stale, calls_missing, votes_in, is_enough_to_write}
use Rattle.lvm_status.specs.declared.writes.Writes.{Writes}

-- The group, of which the members and their votes matter; the committed status, the wanted one and the one in
-- flight; the disks whose writes of the one in flight aren't started, are started, ended well and ended badly; and
-- the stamp that was used or set last.
pub record Updates : Type 0 where
  pub group : Descriptor
  pub committed : Status
  pub wanted : Status
  pub in_flight : Option Status
  pub unstarted : Disks
  pub started : Disks
  pub written : Disks
  pub failed : Disks
  pub stamp : Stamp

-- the same with its sets of disks as numbers, as an updater keeps it
pub record Stored : Type 0 where
  pub group : Descriptor
  pub committed : Status
  pub wanted : Status
  pub in_flight : Option Status
  pub writes : Writes
  pub stamp : Stamp

abbrev pub seen : Stored → Updates
seen s = record {
  group = s.group;
  committed = s.committed;
  wanted = s.wanted;
  in_flight = s.in_flight;
  unstarted = has s.writes.unstarted;
  started = has s.writes.started;
  written = has s.writes.written;
  failed = has s.writes.failed;
  stamp = s.stamp;
}

-- ---- sets of disks

abbrev pub no_disks : Disks
no_disks disk = false

abbrev pub with_disk : Disks → ℕ → Disks
with_disk set disk other = set other || other == disk

abbrev pub without_disk : Disks → ℕ → Disks
without_disk set disk other = set other && not (other == disk)

-- ---- what is true of them

-- the members that a status doesn't call missing
abbrev pub members_there : Descriptor → Status → Disks
members_there d s disk = is_member d disk && not (calls_missing s disk)

-- A member is missing from the moment on at which it is wanted missing.
abbrev pub is_there : Updates → Disks
is_there u = members_there u.group u.wanted

-- the votes of the members that aren't missing
abbrev pub votes_there : Updates → ℕ
votes_there u = votes_in u.group (is_there u)

-- the disks that have the update in flight have votes enough to write
abbrev pub is_held : Updates → Bool
is_held u = is_enough_to_write u.group (votes_in u.group u.written)

-- the write of some member is to be started or to end
abbrev pub is_owed : Updates → Bool
is_owed u = list_any (λ (row : PvRow). u.unstarted row.disk || u.started row.disk) u.group.pvs

-- the committed status and the one in flight, if any, both call the partition stale
abbrev pub is_settled_stale : Updates → Pp → Bool
is_settled_stale u p = calls_stale u.committed p && calls_stale (unwrap_or u.in_flight u.committed) p

-- no update is in flight, and what is wanted isn't what is committed
pub record MayStartUpdate (u : Updates) : Type 0 where
  pub none : u.in_flight ≡ None
  pub differs : u.wanted ≡ u.committed → ⊥
