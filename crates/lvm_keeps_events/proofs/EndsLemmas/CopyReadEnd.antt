-- The read of the copy that is open has ended well.
use Rattle.std.proofs.Common.{◌≡◌, ◌==◌, ℕ, Bool, true, false, ◌&&◌, ◌||◌, not, if◌then◌else◌, List, Option, Some, None, length, slice_get, refl, sym, ◌∙◌, ap, subst, arith}
use Rattle.std.specs.Prelude.{IfSome, nat_lt, slice_index_or}
use Rattle.std.specs.List.{remove}
use Rattle.std.specs.Option.{option_map_or}
use Rattle.lvm_num.specs.Buffer.{Buffer}
use Rattle.lvm_num.specs.declared.place.Pp.{Pp}
use Rattle.lvm_num.specs.Descriptor.{is_pp}
use Rattle.lvm_num.proofs.Booleans.{not_so}
use Rattle.lvm_disk.specs.Device.{Device, Flight, Media}
use Rattle.lvm_disk.specs.Steps.{EndsDone}
use Rattle.lvm_session.specs.declared.bringing.OpenCopy.{OpenCopy}
use Rattle.lvm_session.specs.declared.bringing.Step.{Step}
use Rattle.lvm_session.specs.declared.bringing.Step.TheVariants as step
use Rattle.lvm_session.specs.declared.flown.Flown.{Flown}
use Rattle.lvm_session.specs.declared.flown.Owner.TheVariants as owner
use Rattle.lvm_session.specs.declared.open.Open.{Open}
use Rattle.lvm_session.specs.declared.open.Power.TheVariants as power
use Rattle.lvm_session.specs.State.{Core, State, state}
use Rattle.lvm_session.specs.Judging.{copies_in, group_in, is_running}
use Rattle.lvm_session.specs.Bringing.{copy_ends, end_of, has_row, is_idle, is_out, is_whole, step_row}
use Rattle.lvm_session.specs.Dark.{hand_of_copy}
use Rattle.lvm_session.specs.Left.{copy_updates}
use Rattle.lvm_session.specs.Requests.{IsOpenOne}
use Rattle.lvm_session.specs.Causes.{IsCausedAmong}
use Rattle.lvm_session.specs.Sound.{IsCopy, IsGoing, IsSound, count_if, has_number, is_dark, is_hand, out_with, waiting_rows, with_row}
use Rattle.lvm_keeps.proofs.CausesLemmas.{copy_still}
use Rattle.lvm_keeps.proofs.RequestsLemmas.{changed, open_on, copy_stepped, same_next, kind_still}
use Rattle.lvm_keeps_events.specs.Ends.{CopyReadEndKeeps}
use Rattle.lvm_keeps_events.proofs.SoundLemmas.CopyEnded.{session_still}
use Rattle.lvm_keeps_events.proofs.OwnersLemmas.Removal.{IsOut, count_taken, taken_out}
use Rattle.lvm_session.proofs.MovesLemmas.{places_by}

module _ (s : State) (sound : IsSound s) (on : s.core.power ≡ power.On) (c : OpenCopy) (is : s.core.copy ≡ Some c) (runs : is_running c ≡ true) (source : Pp) (reads : c.step ≡ step.Reading source)
    (at : ℕ) (row : Flown) (there : slice_get s.core.flying at ≡ Some row) (own : row.owner ≡ owner.Copy) (f : Flight) (f_there : slice_get s.device.flights at ≡ Some f) (buf : Buffer) (number : buf.number ≡ f.buf.number) (long : length buf.sectors ≡ 256) (media : Option Media) where
  abbrev core : Core
  core = s.core

  abbrev holding : OpenCopy
  holding = record c { step = step.Read buf }

  abbrev device : Device
  device = record s.device { media = media; flights = remove s.device.flights at }

  abbrev now : State
  now = state device (changed core core.history core.requests core.queue (Some holding) core.pool (remove core.flying at) core.cache.entries core.last)

  going : IsGoing core
  going = (sound.on on).going

  its : IsCopy core c
  its = subst (λ m. IfSome m (IsCopy core)) is going.copy

  of_copy : {A : Type 0} (t : OpenCopy → A) (none : A) → option_map_or t core.copy none ≡ t c
  of_copy t none = ap (λ m. option_map_or t m none) is

  short : is_whole core c ≡ false
  short = its.under_way runs (ap is_idle reads)

  one : (o : Open) → IsOpenOne core o → IsOpenOne now.core o
  one o it = open_on core core.history core.requests core.queue (Some holding) core.pool (remove core.flying at) core.cache.entries core.last o (λ e. e)
      (λ p e. sym (of_copy (λ (k : OpenCopy). is_running k && is_pp p k.pp && nat_lt (group_in core o.request.ask) k.cursor) false) ∙ e) (λ ask. ap (places_by core ask) is) it

  bring : IsCopy now.core holding
  bring = copy_stepped core now.core c (step.Read buf) c.tried c.end refl (same_next core) its long (λ e. its.free (ap is_idle reads))
      (λ e. not_so (sym e ∙ runs)) its.tried tt (λ goes busy. short) (kind_still core now.core c (step.Read buf) c.tried c.end refl refl refl refl c.moves its.kind)

  -- ---- its place and its end

  or_not : (a w : Bool) → a ≡ true → w ≡ false → (b : Bool) → b || (a && not w) ≡ true
  or_not true false i j true = refl
  or_not true false i j false = refl
  or_not false w i j b = not_so i
  or_not true true i j b = not_so (sym j)

  queue : core.queue.rows ≡ (if has_row now.core holding then with_row (step_row core c) (waiting_rows core.requests) else waiting_rows core.requests)
  queue = going.queue ∙ of_copy (λ (k : OpenCopy). if has_row core k then with_row (step_row core k) (waiting_rows core.requests) else waiting_rows core.requests) (waiting_rows core.requests)
      ∙ ap (λ (b : Bool). if b then with_row (step_row core c) (waiting_rows core.requests) else waiting_rows core.requests) (or_not (is_running c) (is_whole core c) runs short (is_out c.step) ∙ sym (or_not (is_running c) (is_whole core c) runs short false))

  reviewed : copy_ends now.core ≡ None
  reviewed = sym (ap (λ (x : Step). end_of core (record c { step = x })) reads) ∙ sym (of_copy (end_of core) None) ∙ going.reviewed

  -- ---- its buffer

  was_hand : (n : ℕ) → count_if (is_hand n (hand_of_copy core.copy)) ≡ 0
  was_hand n = ap (λ m. count_if (is_hand n (hand_of_copy m))) is ∙ ap (λ (x : Step). count_if (is_hand n (hand_of_copy (Some (record c { step = x }))))) reads

  is_hand_now : (n : ℕ) → count_if (is_hand n (Some buf)) ≡ count_if (has_number n f.buf)
  is_hand_now n = ap (λ k. count_if (k == n)) number

  out : (n : ℕ) → out_with device now.core n ≡ count_if (slice_index_or core.pool n false)
  out n =
      let was = sound.none_lost (ap is_dark on) n in
      let none = was_hand n in
      let hand = is_hand_now n in
      let less = count_taken (λ (g : Flight). has_number n g.buf) s.device.flights at f f_there in
      omega (arith, was, none, hand, less)

  caused : IsCausedAmong s (copies_in core.descriptor c.lv c.lp) c
  caused = subst (λ m. IfSome m (λ (k : OpenCopy). IsCausedAmong s (copies_in core.descriptor k.lv k.lp) k)) is sound.copy

  pub keeps : IsSound now
  keeps = session_still s sound on c is at row there own (step.Read buf) c.tried c.end core.queue.rows core.pool media refl refl one bring queue reviewed
      (λ p held clear. sym (of_copy (λ (k : OpenCopy). is_running k && is_whole core k && is_pp p k.pp) false) ∙ going.clearings p held clear)
      (let was = going.numbers in let same = of_copy (copy_updates core) 0 in omega (arith, was, same))
      out (copy_still s s refl (copies_in core.descriptor c.lv c.lp) c (step.Read buf) caused)

pub copy_read_end_keeps : CopyReadEndKeeps
copy_read_end_keeps at old new sound on event =
    subst IsSound (sym (ap (λ (d : Device). state d new.core) ended.new_is ∙ ap (λ (k : Core). state (record old.device { media = new.device.media; flights = new.device.flights }) k) event.is
    ∙ ap (λ (fs : List Flight). state (record old.device { media = new.device.media; flights = fs }) made) out.left_is))
    (keeps old sound on event.copy event.is_open event.runs event.source event.reads at event.row event.returns.there event.own ended.flight out.there event.buf ended.rest.number (ended.rest.long ∙ out.own.long) new.device.media)
  where
    ended : EndsDone old.device new.device event.row.ticket event.buf
    ended = event.returns.ends

    out : IsOut old.core old.device.flights new.device.flights at event.row ended.flight
    out = taken_out old.core old.core.flying old.device.flights new.device.flights at event.row ended.flight (sound.on on).rows (sound.on on).going.tickets event.returns.there ended.flights ended.its

    made : Core
    made = record old.core { flying = remove old.core.flying at; copy = Some (record event.copy { step = step.Read event.buf }) }
