-- What becomes wanted of the status within an event.
use Rattle.std.specs.Prelude.{◌≡◌, ℕ, Bool, true, false, ◌&&◌, ◌||◌, not, if◌then◌else◌, List, [], filter, Option}
use Rattle.std.specs.List.{list_any, range_with_len}
use Rattle.std.specs.Option.{option_map_or}
use Rattle.lvm_num.specs.declared.place.Pp.{Pp}
use Rattle.lvm_num.specs.declared.descriptor.LvRow.{LvRow}
use Rattle.lvm_num.specs.Descriptor.{copies_of, is_pp}
use Rattle.lvm_num.specs.Status.{calls_stale}
use Rattle.lvm_status.specs.passed.Status.{SameMissing}
use Rattle.lvm_status.specs.declared.change.Change.TheVariants as change
pub use Rattle.lvm_status.specs.Members.{HasSameRows}
use Rattle.lvm_status.specs.Calls.{BecomesDirty, BecomesFresh, with_wanted}
use Rattle.lvm_status.specs.Update.{Stored, seen}
use Rattle.lvm_path.specs.declared.request.Request.{Request}
use Rattle.lvm_path.specs.declared.target.Target.{Target}
use Rattle.lvm_path.specs.Asks.{is_write}
use Rattle.lvm_path.specs.Targets.{is_failed, are_over}
use Rattle.lvm_session.specs.declared.open.Open.{Open}
use Rattle.lvm_session.specs.declared.bringing.OpenCopy.{OpenCopy}
use Rattle.lvm_session.specs.declared.bringing.CopyEnd.{CopyEnd}
use Rattle.lvm_session.specs.declared.bringing.CopyEnd.TheVariants as ending
use Rattle.lvm_session.specs.State.{Core}
use Rattle.lvm_session.specs.Judging.{is_stale, is_wanted_stale, is_missing, is_usable, is_kept, all_but_sure, pps_of, is_running}
use Rattle.lvm_session.specs.Bringing.{copy_ends, with_end, marked_by_end, ends_if}

-- ---- what is wanted

-- These partitions become wanted stale, and nothing else changes; nothing at all where they are.
pub record WantsStale (due : Pp → Bool) (old new : Stored) : Type 0 where
  pub rest : seen new ≡ record (seen old) { wanted = new.wanted }
  pub rows : HasSameRows old.wanted new.wanted
  pub stale : (p : Pp) → calls_stale new.wanted p ≡ (calls_stale old.wanted p || due p)
  pub missing : SameMissing old.wanted new.wanted
  pub dirty : new.wanted.dirty ≡ old.wanted.dirty
  pub same : ((p : Pp) → due p ≡ true → calls_stale old.wanted p ≡ true) → new ≡ old

-- it is one of these partitions
abbrev pub is_among : List Pp → Pp → Bool
is_among pps p = list_any (is_pp p) pps

-- the partition is wanted fresh, and nothing else changes
pub record WantsFresh (p : Pp) (old new : Stored) : Type 0 where
  pub wants : BecomesFresh p old.wanted new.wanted
  pub rest : seen new ≡ with_wanted (seen old) (change.Fresh p) new.wanted

-- the volume is wanted dirty, and nothing else changes
pub record WantsDirty (lv : ℕ) (old new : Stored) : Type 0 where
  pub wants : BecomesDirty lv true old.wanted new.wanted
  pub rest : seen new ≡ with_wanted (seen old) (change.Dirty lv) new.wanted

-- it is wanted dirty, where this is so
abbrev pub WantsDirtyIf : Bool → ℕ → Stored → Stored → Type 0
WantsDirtyIf false lv old new = new ≡ old
WantsDirtyIf true lv old new = WantsDirty lv old new

-- ---- what missing disks entail

-- a copy that can be read, and isn't wanted stale
abbrev pub can_replace : Core → Pp → Bool
can_replace core p = is_usable core p && not (is_wanted_stale core p)

-- a fresh one of these copies, which stands on a missing disk, while another can be read
abbrev pub is_left_behind : Core → List Pp → Pp → Bool
is_left_behind core copies p = is_among copies p && not (is_stale core p) && is_missing core p.disk && list_any (can_replace core) copies

-- it is one of a logical partition of this volume
abbrev pub is_entailed_in : Core → LvRow → Pp → Bool
is_entailed_in core row p = list_any (λ (lp : ℕ). is_left_behind core (copies_of row lp) p) (range_with_len 0 row.lps)

-- The staleness of each fresh copy on a missing disk is due whose logical partition has another usable copy that isn't wanted stale.
abbrev pub is_entailed : Core → Pp → Bool
is_entailed core p = list_any (λ (row : LvRow). is_entailed_in core row p) core.descriptor.lvs

-- A change of what is missing or committed makes itself felt: staleness is wanted of what missing disks leave behind, and the copy ends where the state
-- as a whole makes it.
pub record Reviews (old new : Core) : Type 0 where
  pub marks : WantsStale (λ p. is_entailed old p || marked_by_end old (copy_ends old) p) old.status new.status
  pub is : new ≡ record (with_end old (copy_ends old)) { status = new.status }

-- ---- what the end of a write's transfers entails

-- Once all have ended: each target that failed, where a sure one has succeeded; else all but the first sure one.
abbrev pub due_targets : Core → Request → List Target
due_targets core r = if is_kept core r then filter (λ (t : Target). is_failed t.state) r.targets.items else all_but_sure core r.targets.items

-- their partitions, once the transfers of a write have all ended
abbrev pub due_of : Core → Request → List Pp
due_of core r = if is_write r.ask && are_over r.targets.items then pps_of (due_targets core r) else []

-- The copy that is being brought up fails with a write on it that failed, and with a write that has lost all its sure targets, where it was open when that was admitted.
abbrev pub hits_copy : Core → Open → Bool → Pp → OpenCopy → Bool
hits_copy core o ok p c =
    is_write o.request.ask && is_running c
    && (not ok && is_pp p c.pp || (are_over o.request.targets.items && not (is_kept core o.request) && not o.older && is_among (due_of core o.request) c.pp))

-- how the copy ends by the end of this transfer, on this partition
abbrev pub end_by_write : Core → Open → Bool → Pp → Option CopyEnd
end_by_write core o ok p = ends_if (option_map_or (hits_copy core o ok p) core.copy false) ending.SyncFailed

-- The request is as its transfer left it: staleness is wanted of the targets that are due, and the copy fails with them.
pub record Entails (old : Core) (o : Open) (ok : Bool) (p : Pp) (new : Core) : Type 0 where
  pub marks : WantsStale (λ q. is_among (due_of old o.request) q || marked_by_end old (end_by_write old o ok p) q) old.status new.status
  pub is : new ≡ record (with_end old (end_by_write old o ok p)) { status = new.status }
