-- The write of the copy that is being brought up has ended well.
use Rattle.std.proofs.Common.{◌&&◌, ◌++◌, [], ap, Bool, false, if◌then◌else◌, inl, inr, List, None, not, Option, refl, slice_set, Some, subst, sym, true, ◌||◌, ℕ, ◌∙◌, ◌∷◌, ◌≡◌, ◌⊎◌}
use Rattle.std.specs.List.{remove}
use Rattle.lvm_num.specs.Disks.{has}
use Rattle.lvm_num.specs.Status.{calls_stale}
use Rattle.lvm_num.specs.declared.descriptor.Descriptor.{Descriptor}
use Rattle.lvm_num.specs.declared.place.Pp.{Pp}
use Rattle.lvm_num.specs.declared.record.Stamp.{Stamp}
use Rattle.lvm_num.specs.declared.status.Status.{Status}
use Rattle.lvm_num.proofs.Booleans.{not_so}
use Rattle.lvm_disk.specs.Device.{Device, Flight}
use Rattle.lvm_disk.specs.Steps.{EndsDone}
use Rattle.lvm_hold.specs.Waiting.{Waiting, without}
use Rattle.lvm_status.proofs.RunsLemmas.Sound.{steps_stay_sound}
use Rattle.lvm_status.specs.Calls.{BecomesFresh, closed}
use Rattle.lvm_status.specs.Runs.{IsSoundStatus, Want}
use Rattle.lvm_status.specs.Update.{is_held, is_owed, seen, Stored, Updates}
use Rattle.lvm_status.specs.declared.change.Change.TheVariants as change
use Rattle.lvm_status.specs.declared.writes.Writes.{Writes}
use Rattle.lvm_session.specs.Bringing.{copy_ends, is_whole, marked_by_end, step_row, with_end}
use Rattle.lvm_session.specs.State.{Core, State, state}
use Rattle.lvm_session.specs.declared.bringing.OpenCopy.{OpenCopy}
use Rattle.lvm_session.specs.declared.open.Power.TheVariants as power
use Rattle.lvm_session.specs.Ends.{CopyStepsOn, with_return, without_step}
use Rattle.lvm_session.specs.Marks.{is_entailed, Reviews, WantsFresh}
use Rattle.lvm_session.specs.Sound.{IsGoing, IsSound}
use Rattle.lvm_keeps_events.proofs.Marking.{stays_open}
use Rattle.lvm_keeps_events.proofs.OwnersLemmas.Removal.{IsOut, taken_out}
use Rattle.lvm_keeps_events.proofs.JudgingLemmas.Passing.{IsFresher, keeps, next, queue}
use Rattle.lvm_keeps_events.proofs.JudgingLemmas.Staling.{rows_by}
use Rattle.lvm_keeps_events.specs.GroupEnds.{CopyWriteEndKeeps, EndsGroup}

-- only what is wanted changes, and this partition is wanted fresh
record IsFreshened (p : Pp) (old next : Stored) : Type 0 where
  pub like : IsFresher true p old.wanted next.wanted
  pub is : next ≡ record old { wanted = next.wanted; writes = next.writes }
  pub started : (d : ℕ) → has next.writes.started d ≡ has old.writes.started d
  pub unstarted : (d : ℕ) → has next.writes.unstarted d ≡ has old.writes.unstarted d
  pub sound : IsSoundStatus (seen next)

-- an update in flight stays, since one of its writes is owed, or it isn't committed
stays_so : (u : Updates) (wanted : Status) → IsSoundStatus u → closed (record u { wanted = wanted }) ≡ record u { wanted = wanted }
stays_so u wanted its = of (stays_open u its)
  where
    ended : Updates
    ended = record u { wanted = wanted; in_flight = None; unstarted = λ d. false; started = λ d. false; written = λ d. false; failed = λ d. false }

    unheld : u.in_flight ≡ None → (b : Bool) → is_held u ≡ b → b && not (is_owed u) ≡ false
    unheld none false is = refl
    unheld none true is = absurd (let e : None ≡ Some u.committed = sym none ∙ its.held is in cc e)

    of : u.in_flight ≡ None ⊎ (is_held u && not (is_owed u) ≡ false) → closed (record u { wanted = wanted }) ≡ record u { wanted = wanted }
    of (inr open_so) = ap (λ (b : Bool). if b then ended else record u { wanted = wanted }) open_so
    of (inl none) = ap (λ (b : Bool). if b then ended else record u { wanted = wanted }) (unheld none (is_held u) refl)

freshened : (p : Pp) (old next : Stored) → IsSoundStatus (seen old) → WantsFresh p old next → IsFreshened p old next
freshened p old next its wants = record {
  like = record { id = b.members.id; rows = λ disk. rows_by disk next.wanted.rows old.wanted.rows b.members.disks; stale = b.stale; missing = b.missing; dirty = b.dirty };
  is = ap (λ (g : Descriptor). record next { group = g }) (ap (λ (u : Updates). u.group) all)
      ∙ ap (λ (c : Status). record next { group = old.group; committed = c }) (ap (λ (u : Updates). u.committed) all)
      ∙ ap (λ (m : Option Status). record next { group = old.group; committed = old.committed; in_flight = m }) (ap (λ (u : Updates). u.in_flight) all)
      ∙ ap (λ (x : Stamp). record next { group = old.group; committed = old.committed; in_flight = old.in_flight; stamp = x }) (ap (λ (u : Updates). u.stamp) all);
  started = λ d. ap (λ (u : Updates). u.started d) all;
  unstarted = λ d. ap (λ (u : Updates). u.unstarted d) all;
  sound = steps_stay_sound (Want (change.Fresh p)) (seen old) (seen next) its (b, wants.rest);
}
  where
    b : BecomesFresh p old.wanted next.wanted
    b = wants.wants

    all : seen next ≡ record (seen old) { wanted = next.wanted }
    all = wants.rest ∙ stays_so (seen old) next.wanted its

-- what is wanted is what was
fresher : (p : Pp) (old : Stored) → IsFresher false p old.wanted old.wanted
fresher p old = record { id = refl; rows = λ disk. refl; stale = λ q. sym (and_true (calls_stale old.wanted q)); missing = λ d. refl; dirty = refl }
  where
    and_true : (a : Bool) → a && true ≡ a
    and_true true = refl
    and_true false = refl

module _ (at : ℕ) (old new : State) (sound : IsSound old) (on : old.core.power ≡ power.On) (event : EndsGroup old new at) where
  abbrev pub c : OpenCopy
  c = event.copy

  pub ended : EndsDone old.device new.device event.row.ticket event.buf
  ended = event.returns.ends

  pub out : IsOut old.core old.device.flights new.device.flights at event.row ended.flight
  out = taken_out old.core old.core.flying old.device.flights new.device.flights at event.row ended.flight (sound.on on).rows (sound.on on).going.tickets event.returns.there ended.flights ended.its

  abbrev pub tried : ℕ
  tried = event.passes.next.tried

  abbrev pub next_so : OpenCopy
  next_so = next old sound on c event.is_open event.runs event.writes at event.row event.returns.there event.own ended.flight out.there event.buf ended.rest.number new.device.media tried event.passes.moves.tried

  abbrev pub whole_so : Bool
  whole_so = is_whole old.core next_so

  -- the core before it goes on
  abbrev pub mid : Core
  mid = without_step (with_return old.core at event.buf) c

  goes : CopyStepsOn whole_so mid next_so event.passes.on
  goes = subst (λ (k : OpenCopy). CopyStepsOn (is_whole old.core k) mid k event.passes.on) event.passes.moves.is event.passes.goes

  abbrev pub device : Device
  device = record old.device { media = new.device.media; flights = remove old.device.flights at }

  device_is : new.device ≡ device
  device_is = ended.new_is ∙ ap (λ (fs : List Flight). record old.device { media = new.device.media; flights = fs }) out.left_is

  -- the core as it goes on, with what is wanted then
  abbrev pub gone : Status → Writes → Core
  gone wanted writes = record old.core {
    flying = remove old.core.flying at;
    pool = slice_set old.core.pool event.buf.number false;
    copy = Some next_so;
    queue = queue old sound on c event.is_open event.runs event.writes at event.row event.returns.there event.own ended.flight out.there event.buf ended.rest.number new.device.media tried event.passes.moves.tried;
    status = record old.core.status { wanted = wanted; writes = writes };
  }

  -- The copy has passed its track group: of the status only what is wanted changes, and that only where it is to be cleared.
  pub record IsGone (wanted : Status) (writes : Writes) : Type 0 where
    pub like : IsFresher whole_so c.pp old.core.status.wanted wanted
    pub started : (d : ℕ) → has writes.started d ≡ has old.core.status.writes.started d
    pub unstarted : (d : ℕ) → has writes.unstarted d ≡ has old.core.status.writes.unstarted d
    pub status_sound : IsSoundStatus (seen (record old.core.status { wanted = wanted; writes = writes }))
    pub still : whole_so ≡ false → (wanted ≡ old.core.status.wanted) × (writes ≡ old.core.status.writes)
    pub is : event.passes.on ≡ gone wanted writes

  goes_by : (b : Bool) → whole_so ≡ b → CopyStepsOn b mid next_so event.passes.on → IsGone event.passes.on.status.wanted event.passes.on.status.writes
  goes_by false part is_on = record {
    like = subst (λ b. IsFresher b c.pp old.core.status.wanted event.passes.on.status.wanted) (sym part) (subst (λ (u : Stored). IsFresher false c.pp old.core.status.wanted u.wanted) (sym status_so) (fresher c.pp old.core.status));
    started = λ d. ap (λ (u : Stored). has u.writes.started d) status_so;
    unstarted = λ d. ap (λ (u : Stored). has u.writes.unstarted d) status_so;
    status_sound = subst (λ (u : Stored). IsSoundStatus (seen (record old.core.status { wanted = u.wanted; writes = u.writes }))) (sym status_so) (sound.on on).going.status;
    still = λ e. (ap (λ (u : Stored). u.wanted) status_so, ap (λ (u : Stored). u.writes) status_so);
    is = is_on ∙ ap (λ (q : Waiting). record mid { copy = Some next_so; queue = q }) (sym queue_so) ∙ ap (λ (u : Stored). gone u.wanted u.writes) (sym status_so);
  }
    where
      status_so : event.passes.on.status ≡ old.core.status
      status_so = ap (λ (k : Core). k.status) is_on

      queue_so : (gone old.core.status.wanted old.core.status.writes).queue ≡ record old.core.queue { rows = without c.place old.core.queue.rows ++ step_row old.core next_so ∷ [] }
      queue_so = ap (λ (b : Bool). if b then record old.core.queue { rows = without c.place old.core.queue.rows } else record old.core.queue { rows = without c.place old.core.queue.rows ++ step_row old.core next_so ∷ [] }) part
  goes_by true whole is_on = record {
    like = subst (λ b. IsFresher b c.pp old.core.status.wanted event.passes.on.status.wanted) (sym whole) fresh.like;
    started = fresh.started;
    unstarted = fresh.unstarted;
    status_sound = subst (λ (u : Stored). IsSoundStatus (seen u)) fresh.is fresh.sound;
    still = λ e. absurd (let no : true ≡ false = sym whole ∙ e in cc no);
    is = is_on.1 ∙ ap (λ (u : Stored). record mid { copy = Some next_so; status = u }) fresh.is ∙ ap (λ (q : Waiting). record (gone event.passes.on.status.wanted event.passes.on.status.writes) { queue = q }) (sym queue_so);
  }
    where
      fresh : IsFreshened c.pp old.core.status event.passes.on.status
      fresh = freshened c.pp old.core.status event.passes.on.status (sound.on on).going.status is_on.0

      queue_so : (gone old.core.status.wanted old.core.status.writes).queue ≡ record old.core.queue { rows = without c.place old.core.queue.rows }
      queue_so = ap (λ (b : Bool). if b then record old.core.queue { rows = without c.place old.core.queue.rows } else record old.core.queue { rows = without c.place old.core.queue.rows ++ step_row old.core next_so ∷ [] }) whole

  pub its : IsGone event.passes.on.status.wanted event.passes.on.status.writes
  its = goes_by whole_so refl goes

  abbrev made : Core
  made = gone event.passes.on.status.wanted event.passes.on.status.writes

  pub made_sound : IsSound (state device made)
  made_sound = keeps old sound on c event.is_open event.runs event.writes at event.row event.returns.there event.own ended.flight out.there event.buf ended.rest.number new.device.media tried event.passes.moves.tried
      event.passes.on.status.wanted event.passes.on.status.writes its.like its.started its.status_sound (λ e. (its.still e).0)

  -- nothing follows of the review
  pub core_is : new.core ≡ made
  core_is = reviews.is ∙ ap (λ m. record (with_end made m) { status = new.core.status }) going.reviewed ∙ ap (λ (u : Stored). record made { status = u }) status_is
    where
      going : IsGoing made
      going = (made_sound.on on).going

      reviews : Reviews made new.core
      reviews = subst (λ (j : Core). Reviews j new.core) its.is event.passes.reviews

      status_is : new.core.status ≡ made.status
      status_is = reviews.marks.same (λ p due. going.behind p (by_due (is_entailed made p) (marked_by_end made (copy_ends made) p) (ap (λ m. marked_by_end made m p) going.reviewed) due))
        where
          by_due : (a b : Bool) → b ≡ false → a || b ≡ true → a ≡ true
          by_due true b none e = refl
          by_due false b none e = not_so (sym none ∙ e)

  pub end_sound : IsSound new
  end_sound = subst IsSound (sym (ap (λ (d : Device). state d new.core) device_is ∙ ap (state device) core_is)) made_sound

pub copy_write_end_keeps : CopyWriteEndKeeps
copy_write_end_keeps at old new sound on event = end_sound at old new sound on event
