-- A transfer of the copy has ended in vain, and the copy goes on with the same track group.
use Rattle.std.proofs.Common.{◌≡◌, ◌==◌, ℕ, Bool, true, false, ◌&&◌, ◌||◌, not, if◌then◌else◌, List, Some, None, slice_get, refl, sym, ◌∙◌, ap, subst, arith}
use Rattle.std.specs.Prelude.{IfSome, nat_lt, slice_set}
use Rattle.std.specs.List.{list_any, remove}
use Rattle.std.specs.Option.{option_map_or}
use Rattle.lvm_num.specs.Buffer.{Buffer}
use Rattle.lvm_num.specs.declared.place.Pp.{Pp}
use Rattle.lvm_num.specs.Disks.{has}
use Rattle.lvm_num.specs.Descriptor.{is_pp}
use Rattle.lvm_num.proofs.Booleans.{not_so}
use Rattle.lvm_num.proofs.Lists.{length_set}
use Rattle.lvm_disk.specs.Device.{Device, Flight}
use Rattle.lvm_session.specs.declared.bringing.OpenCopy.{OpenCopy}
use Rattle.lvm_session.specs.declared.bringing.Step.TheVariants as step
use Rattle.lvm_session.specs.declared.flown.Flown.{Flown}
use Rattle.lvm_session.specs.declared.flown.Owner.TheVariants as owner
use Rattle.lvm_session.specs.declared.open.Open.{Open}
use Rattle.lvm_session.specs.declared.open.Power.TheVariants as power
use Rattle.lvm_session.specs.State.{Core, State, state}
use Rattle.lvm_session.specs.Judging.{copies_in, group_in, is_running}
use Rattle.lvm_session.specs.Bringing.{hand_of, end_of, has_row, is_idle, is_out, is_whole, step_row}
use Rattle.lvm_session.specs.Dark.{hand_of_copy}
use Rattle.lvm_session.specs.Left.{copy_updates}
use Rattle.lvm_session.specs.Requests.{IsOpenOne}
use Rattle.lvm_session.specs.Causes.{IsCausedAmong}
use Rattle.lvm_session.specs.Sound.{IsCopy, IsGoing, IsSound, count_if, is_hand, waiting_rows, with_row}
use Rattle.lvm_keeps.proofs.RequestsLemmas.{changed, open_on, copy_stepped, same_next, kind_still}
use Rattle.lvm_keeps_events.proofs.SoundLemmas.CopyEnded.{session_still}
use Rattle.lvm_keeps_events.proofs.OwnersLemmas.Removal.{given_back}
use Rattle.lvm_session.proofs.MovesLemmas.{places_by}

-- These are tried for its track group now, which doesn't end it.
module _ (s : State) (sound : IsSound s) (on : s.core.power ≡ power.On) (c : OpenCopy) (is : s.core.copy ≡ Some c) (runs : is_running c ≡ true) (busy : is_idle c.step ≡ false) (none_in_hand : hand_of c.step ≡ None) (tried : ℕ)
    (still : end_of s.core (record c { step = step.Idle; tried = tried }) ≡ None)
    (tries : (disk : ℕ) → has tried disk ≡ true → list_any (λ (p : Pp). not (is_pp p c.pp) && p.disk == disk) (copies_in s.core.descriptor c.lv c.lp) ≡ true)
    (why : IsCausedAmong s (copies_in s.core.descriptor c.lv c.lp) (record c { step = step.Idle; tried = tried }))
    (at : ℕ) (row : Flown) (there : slice_get s.core.flying at ≡ Some row) (own : row.owner ≡ owner.Copy) (f : Flight) (f_there : slice_get s.device.flights at ≡ Some f) (buf : Buffer) (number : buf.number ≡ f.buf.number) where
  abbrev core : Core
  core = s.core

  abbrev resting : OpenCopy
  resting = record c { step = step.Idle; tried = tried }

  abbrev pool : List Bool
  pool = slice_set core.pool buf.number false

  abbrev device : Device
  device = record s.device { flights = remove s.device.flights at }

  abbrev now : State
  now = state device (changed core core.history core.requests core.queue (Some resting) pool (remove core.flying at) core.cache.entries core.last)

  going : IsGoing core
  going = (sound.on on).going

  its : IsCopy core c
  its = subst (λ m. IfSome m (IsCopy core)) is going.copy

  of_copy : {A : Type 0} (t : OpenCopy → A) (none : A) → option_map_or t core.copy none ≡ t c
  of_copy t none = ap (λ m. option_map_or t m none) is

  short : is_whole core c ≡ false
  short = its.under_way runs busy

  one : (o : Open) → IsOpenOne core o → IsOpenOne now.core o
  one o it = open_on core core.history core.requests core.queue (Some resting) pool (remove core.flying at) core.cache.entries core.last o (λ e. e)
      (λ p e. sym (of_copy (λ (k : OpenCopy). is_running k && is_pp p k.pp && nat_lt (group_in core o.request.ask) k.cursor) false) ∙ e) (λ ask. ap (places_by core ask) is) it

  bring : IsCopy now.core resting
  bring = copy_stepped core now.core c step.Idle tried c.end refl (same_next core) its tt (λ e. absurd (let no : true ≡ false = e in cc)) (λ e. refl)
      tries tt (λ goes still. absurd (let no : true ≡ false = still in cc)) (kind_still core now.core c step.Idle tried c.end refl refl refl refl c.moves its.kind)

  -- ---- its place and its end

  or_not : (a w : Bool) → a ≡ true → w ≡ false → (b : Bool) → b || (a && not w) ≡ true
  or_not true false i j true = refl
  or_not true false i j false = refl
  or_not false w i j b = not_so i
  or_not true true i j b = not_so (sym j)

  queue_is : core.queue.rows ≡ (if has_row now.core resting then with_row (step_row core c) (waiting_rows core.requests) else waiting_rows core.requests)
  queue_is = going.queue ∙ of_copy (λ (k : OpenCopy). if has_row core k then with_row (step_row core k) (waiting_rows core.requests) else waiting_rows core.requests) (waiting_rows core.requests)
      ∙ ap (λ (b : Bool). if b then with_row (step_row core c) (waiting_rows core.requests) else waiting_rows core.requests) (or_not (is_running c) (is_whole core c) runs short (is_out c.step) ∙ sym (or_not (is_running c) (is_whole core c) runs short false))

  was_hand : (n : ℕ) → count_if (is_hand n (hand_of_copy core.copy)) ≡ 0
  was_hand n = ap (λ m. count_if (is_hand n (hand_of_copy m))) is ∙ ap (λ h. count_if (is_hand n h)) none_in_hand

  pub keeps : IsSound now
  keeps = session_still s sound on c is at row there own step.Idle tried c.end core.queue.rows pool s.device.media refl (length_set core.pool buf.number false) one bring queue_is still
      (λ p held clear. sym (of_copy (λ (k : OpenCopy). is_running k && is_whole core k && is_pp p k.pp) false) ∙ going.clearings p held clear)
      (let was = going.numbers in let same = of_copy (copy_updates core) 0 in omega (arith, was, same))
      (given_back s sound on at f f_there buf number s.device.media now.core (λ n. let none = was_hand n in omega (arith, none))) why
