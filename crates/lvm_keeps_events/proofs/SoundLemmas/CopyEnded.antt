-- A transfer of the copy that is open has ended, and its step with it: what else there is of the session stays as it was.
use Rattle.std.proofs.Common.{◌≡◌, ◌<◌, ◌^◌, ℕ, ◌+◌, Bool, true, false, if◌then◌else◌, List, Option, Some, None, length, slice_get, refl, sym, ◌∙◌, ap, subst, arith}
use Rattle.std.specs.Prelude.{IfSome, count_by, slice_index_or}
use Rattle.std.specs.List.{remove, AllByRecursion}
use Rattle.lvm_num.specs.declared.place.Pp.{Pp}
use Rattle.lvm_num.proofs.Booleans.{not_so}
use Rattle.lvm_num.proofs.Lists.{all_weaker}
use Rattle.lvm_disk.specs.Device.{Device, Media}
use Rattle.lvm_hold.specs.declared.queue.Row.{Row}
use Rattle.lvm_session.specs.declared.bringing.CopyEnd.{CopyEnd}
use Rattle.lvm_session.specs.declared.bringing.OpenCopy.{OpenCopy}
use Rattle.lvm_session.specs.declared.bringing.Step.{Step}
use Rattle.lvm_session.specs.declared.flown.Flown.{Flown}
use Rattle.lvm_session.specs.declared.flown.Owner.{Owner}
use Rattle.lvm_session.specs.declared.flown.Owner.TheVariants as owner
use Rattle.lvm_session.specs.declared.open.Open.{Open}
use Rattle.lvm_session.specs.declared.open.Power.TheVariants as power
use Rattle.lvm_session.specs.State.{Core, State, state}
use Rattle.lvm_session.specs.Judging.{copies_in, is_wanted_stale}
use Rattle.lvm_session.specs.Bringing.{copy_ends, has_row, is_out, step_row}
use Rattle.lvm_session.specs.Left.{updates_left}
use Rattle.lvm_session.specs.Owners.{AreOwned, same_owner}
use Rattle.lvm_session.specs.Requests.{IsOpenOne}
use Rattle.lvm_session.specs.Causes.{AreCaused, IsCaused, IsChosenSince, IsCausedAmong, is_held_stale}
use Rattle.lvm_session.specs.Sound.{IsCopy, IsFitting, IsGoing, IsOn, IsSound, IsTold, count_if, is_clearing, out_with, waiting_rows, with_row}
use Rattle.lvm_keeps.proofs.CausesLemmas.{copy_still, origin_still}
use Rattle.lvm_keeps.proofs.SoundLemmas.Fitting.{still_fits}
use Rattle.lvm_keeps.proofs.OwnersLemmas.Rows.{rows_but_copy}
use Rattle.lvm_keeps.proofs.RequestsLemmas.{changed}
use Rattle.lvm_keeps.proofs.SoundLemmas.Whole.{sound_still, told_still}
use Rattle.lvm_keeps_events.proofs.OwnersLemmas.Removal.{as_many, none_left, others, rows_left, tickets_left}

-- its step is such, these are tried, and it ended so; the queue has these rows, and the pool is so
module _ (s : State) (sound : IsSound s) (on : s.core.power ≡ power.On) (c : OpenCopy) (is : s.core.copy ≡ Some c) (at : ℕ) (row : Flown) (there : slice_get s.core.flying at ≡ Some row) (own : row.owner ≡ owner.Copy)
    (next : Step) (tried : ℕ) (end : Option CopyEnd) (rows : List Row) (pool : List Bool) (media : Option Media) where
  abbrev core : Core
  core = s.core

  abbrev after : OpenCopy
  after = record c { step = next; tried = tried; end = end }

  abbrev device : Device
  device = record s.device { media = media; flights = remove s.device.flights at }

  abbrev now : State
  now = state device (changed core core.history core.requests (record core.queue { rows = rows }) (Some after) pool (remove core.flying at) core.cache.entries core.last)

  going : IsGoing core
  going = (sound.on on).going

  fitting : length pool ≡ length core.pool → IsFitting now.core
  fitting long = let f = sound.fitting in still_fits core now.core f refl f.entries (λ disk. refl) f.table long f.room

  told : IsTold now.core
  told = told_still core now.core refl sound.told

  -- ---- whose the others are

  other_own : (who : Owner) → same_owner who owner.Copy ≡ false → same_owner who row.owner ≡ false
  other_own who other = ap (same_owner who) own ∙ other

  owned : is_out next ≡ false → AreOwned now.core
  owned rests (owner.Data id target) = as_many core going.owned at row there (owner.Data id target) (other_own (owner.Data id target) refl) ∙ going.owned (owner.Data id target)
  owned rests (owner.Status disk) = as_many core going.owned at row there (owner.Status disk) (other_own (owner.Status disk) refl) ∙ going.owned (owner.Status disk)
  owned rests (owner.Note disk) = as_many core going.owned at row there (owner.Note disk) (other_own (owner.Note disk) refl) ∙ going.owned (owner.Note disk)
  owned rests owner.Copy = ap (λ who. count_by (λ (g : Flown). same_owner who g.owner) (remove core.flying at)) (sym own) ∙ none_left core going.owned at row there ∙ sym (ap count_if rests)

  -- ---- all of it

  module _ (rests : is_out next ≡ false) (long : length pool ≡ length core.pool) (one : (o : Open) → IsOpenOne core o → IsOpenOne now.core o) (bring : IsCopy now.core after)
      (queue : rows ≡ (if has_row now.core after then with_row (step_row core c) (waiting_rows core.requests) else waiting_rows core.requests)) (reviewed : copy_ends now.core ≡ None)
      (clearings : (p : Pp) → is_held_stale core p ≡ true → is_wanted_stale core p ≡ false → is_clearing now.core p ≡ true) (numbers : core.status.stamp.seq + updates_left now.core < 2 ^ 32)
      (out : (n : ℕ) → out_with device now.core n ≡ count_if (slice_index_or pool n false)) (why : IsCausedAmong s (copies_in core.descriptor c.lv c.lp) after) where
    keeps_going : IsGoing now.core
    keeps_going = record {
      fitting = fitting long;
      told = told;
      status = going.status;
      owned = owned rests;
      tickets = tickets_left core.flying at going.tickets;
      queue = queue;
      pinned = going.pinned;
      requests = all_weaker (IsOpenOne core) (IsOpenOne now.core) one core.requests going.requests;
      copy = bring;
      hands = λ n. let all = out n in omega (arith, all);
      behind = going.behind;
      reviewed = reviewed;
      fresh = going.fresh;
      clearings = clearings;
      numbers = numbers;
    }

    keeps_on : IsOn now
    keeps_on = let was = sound.on on in record {
      going = keeps_going;
      rows = rows_but_copy core now.core refl (λ who. same_owner row.owner who ≡ false) (λ other. not_so (sym other ∙ ap (λ who. same_owner who owner.Copy) own)) (remove core.flying at) (remove s.device.flights at) (others core going.owned at row there)
          (rows_left core core.flying s.device.flights at was.rows);
      caused = all_weaker (AreCaused s.device core) (AreCaused device now.core) (λ x all waiting. all_weaker (IsCaused s.device core) (IsCaused device now.core) (λ t why. why) x.request.targets.items (all waiting)) core.requests was.caused;
      chosen = all_weaker (IsChosenSince core c) (IsChosenSince now.core after) (λ x all. all) core.requests (subst (λ m. IfSome m (λ (k : OpenCopy). AllByRecursion (IsChosenSince core k) core.requests)) is was.chosen);
    }

    pub session_still : IsSound now
    session_still = sound_still s now refl refl sound on refl (fitting long) told keeps_on out (copy_still s now refl (copies_in core.descriptor c.lv c.lp) after next why) (origin_still s now refl refl sound.origin)
