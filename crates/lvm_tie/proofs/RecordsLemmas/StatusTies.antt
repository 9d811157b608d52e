-- The start of a write of the update, tied.
use Rattle.std.proofs.Common.{◌≡◌, ◌⊎◌, inl, inr, ⊎_elim, ℕ, ◌+◌, ◌^◌, ◌<◌, Bool, true, false, ◌&&◌, ◌||◌, ◌==◌, not, eqb-true, List, [], ◌∷◌, ◌++◌, Option, Some, None, refl, sym, ap, subst, ◌∙◌, arith}
use Rattle.std.specs.Prelude.{IsTrue, ◌≢◌}
use Rattle.std.specs.Option.{option_map}
use Rattle.std.proofs.lemmas.Bool.Decides.{nat_tests}
use Rattle.lvm_num.specs.declared.record.Kind.{Kind}
use Rattle.lvm_num.specs.declared.record.Kind.TheVariants as kind
use Rattle.lvm_num.specs.declared.descriptor.Descriptor.{Descriptor}
use Rattle.lvm_num.specs.declared.status.Status.{Status}
use Rattle.lvm_num.specs.Buffer.{Sector}
use Rattle.lvm_num.specs.Disks.{has}
use Rattle.lvm_num.specs.Note.{IsNote}
use Rattle.lvm_num.specs.Status.{IsValidStatus}
use Rattle.lvm_num.specs.StatusBytes.{status_bytes}
use Rattle.lvm_num.specs.declared.record.Stamp.{Stamp}
use Rattle.lvm_num.specs.Record.{Stamped, slot_start, slot_size, stamp_lt}
use Rattle.lvm_num.proofs.Booleans.{clash_gives}
use Rattle.lvm_vol.specs.Facts.{Fact}
use Rattle.lvm_disk.specs.Device.{Media, Flight, Device, image_of, IsInFlight}
use Rattle.lvm_disk.specs.Paths.{Started}
use Rattle.lvm_kept.specs.Contents.{contents_of}
use Rattle.lvm_kept.specs.Plans.{IsPlanned}
use Rattle.lvm_kept.specs.Torn.{RecordWrite, IsOtherOrRecord}
use Rattle.lvm_kept.proofs.PlansLemmas.{plan_begins}
use Rattle.lvm_steps.specs.Laws.{IsNoLater}
use Rattle.lvm_steps.proofs.LawsLemmas.Stamps.{later_is_after_too}
use Rattle.lvm_commit.specs.Committed.{next_stamp}
use Rattle.lvm_rec.specs.declared.homes.Homes.{Homes}
use Rattle.lvm_status.specs.Update.{Stored, Updates, seen, is_held, MayStartUpdate}
use Rattle.lvm_status.specs.Calls.{with_update, with_start}
use Rattle.lvm_session.specs.declared.flown.Flown.{Flown}
use Rattle.lvm_session.specs.declared.flown.Owner.{Owner}
use Rattle.lvm_session.specs.declared.flown.Owner.TheVariants as owner
use Rattle.lvm_session.specs.State.{Core, State, state, is_there}
use Rattle.lvm_session.specs.Events.{StartsStatus, flown}
use Rattle.lvm_session.specs.Sound.{IsSound}
use Rattle.lvm_invariant.specs.State.{Marks, ModelState}
use Rattle.lvm_invariant.specs.Found.{Votes}
use Rattle.lvm_invariant.specs.Good.{Good}
use Rattle.lvm_invariant.specs.MoveStatus.{moved}
use Rattle.lvm_invariant.specs.Events.{MoveStatus}
use Rattle.lvm_invariant.proofs.EventsLemmas.Each.{each_keeps}
use Rattle.lvm_crash.specs.Session.{marks_of, as_marks, Describes}
use Rattle.lvm_even.specs.Members.{members_showing}
use Rattle.lvm_crash.proofs.DeviceLemmas.{of_one}
use Rattle.lvm_crash.proofs.OwnedLemmas.{What, what, Data, OfStep, OfNote, OfUpdate, in_slots}
use Rattle.lvm_crash.proofs.RecordsLemmas.Quiet.{quiet_lasts, update_goes_on, updates_last}
use Rattle.lvm_crash.specs.Owned.{IsStatusFlight, UpdateSince, OnlyUpdateSince}
use Rattle.lvm_tie.proofs.TiedLemmas.Orderly.{IsStatusOut, IsOut, AreOut, out_of}
use Rattle.lvm_tie.proofs.TiedLemmas.Tied.{tied_owns}
use Rattle.lvm_tie.proofs.TiedLemmas.Recorded.{records_last}
use Rattle.lvm_tie.specs.Out.{AreNotes, CarriesStep, CarryTheirs, IsUpdateWrite, IsWriteOf, MayUpdate, is_owed_on}
use Rattle.lvm_tie.specs.Seen.{update_of, Sees}
use Rattle.lvm_tie.specs.Tied.{IsOrderly, IsTied, ShowsRecords, CommittedIsOne}
use Rattle.lvm_tie.specs.Records.{StatusStartTies}
use Rattle.lvm_tie.proofs.RecordsLemmas.MayBegin.{MayBegin, begins, fresh_update, fresh_write}
use Rattle.lvm_tie.proofs.OutLemmas.Ties.{carry_more}

not_itself : (s : Stamp) → stamp_lt s s ≡ false
not_itself s = grind (arith, nat_tests)

-- the next stamp isn't before one
stamp_no : (s : Stamp) → stamp_lt (next_stamp s) s ≡ false
stamp_no s = grind (arith, nat_tests)

-- the last of those that are out
last_out : (core new : Core) (write w : Option RecordWrite) (fs : List Flight) (rows : List Flown) (f : Flight) (row : Flown) → AreOut core write fs rows → AreOut new w (fs ++ f ∷ []) (rows ++ row ∷ []) → IsOut new w f row.owner
last_out core new write w [] [] f row old out = out.1
last_out core new write w [] (r ∷ rs) f row old out = absurd old
last_out core new write w (g ∷ gs) [] f row old out = absurd old
last_out core new write w (g ∷ gs) (r ∷ rs) f row old out = last_out core new write w gs rs f row old.2 out.2

none_since : (device : Device) (w : Option RecordWrite) (u : Option (Stamped Status)) → OnlyUpdateSince device w u → u ≡ None → w ≡ None
none_since device None u since is = refl
none_since device (Some w) None since is = absurd since
none_since device (Some w) (Some u) since is = absurd cc

-- nothing of the session but an update goes into the slots of statuses
pub nothing_out : (past : List Fact) (old : State) (tied : IsTied past old) (w : RecordWrite) → w.kind ≡ kind.Status → tied.write ≡ None → (d s : ℕ) (x : Sector) → IsInFlight old.device.flights d s x → IsOtherOrRecord w d s x
nothing_out past old tied w is_status none d s x flies =
    let one = of_one old.device.flights d s x (tied_owns past old tied) flies in
    by (what tied.view old.core.descriptor tied.write (update_of old.core.status) old.device tied.since one.0 d s x one.1 one.2)
  where
    start : slot_start w.kind 0 ≡ 64
    start = ap (λ (k : Kind). slot_start k 0) is_status

    end : slot_start w.kind 1 + slot_size w.kind ≡ 192
    end = ap (λ (k : Kind). slot_start k 1 + slot_size k) is_status

    by : {f : Flight} → What tied.view old.core.descriptor tied.write f d s x → IsOtherOrRecord w d s x
    by (Data own low) = inr (inl (let e : slot_start w.kind 1 + slot_size w.kind ≡ 192 = end in omega (arith, e)))
    by (OfStep own low) = inr (inl (let e : slot_start w.kind 1 + slot_size w.kind ≡ 192 = end in omega (arith, e)))
    by (OfNote its) = inl (let at : s ≡ 8 = its.place in let e : slot_start w.kind 0 ≡ 64 = start in omega (arith, at, e))
    by (OfUpdate write is own inside) = absurd (let e : None ≡ Some write = sym none ∙ is in cc)

-- what the update is, begun or going on
pub record IsBegun (v : ModelState) (votes : Votes) (group : Descriptor) (device : Device) (media : Media) (w : RecordWrite) (u : Stamped Status) (old new : Stored) : Type 0 where
  pub good : Good votes (record v { in_flight = Some (as_marks v.beside u) })
  pub describes : Describes (record v { in_flight = Some (as_marks v.beside u) }) v.facts group (Some u) (contents_of (image_of device.sizes media))
  pub since : UpdateSince device w u
  pub committed : new.committed ≡ old.committed
  pub wanted : new.wanted ≡ old.wanted
  pub written : (d : ℕ) → has new.writes.written d ≡ true → v.media.status d ≡ Some (as_marks v.beside u)
  pub held : (x : Stamped Status) → update_of new ≡ Some x → is_held (seen new) ≡ true → v.committed ≡ as_marks v.beside x

module _ (past : List Fact) (old new : State) (starts : StartsStatus old new) (tied : IsTied past old) (write : RecordWrite)
    (may : old.core.status.in_flight ≡ None → MayBegin tied.view old.core.status.group old.core.descriptor (image_of old.device.sizes tied.media) write (record { stamp = new.core.status.stamp; value = starts.status }))
    (same : (old.core.status.in_flight ≡ None → ⊥) → tied.write ≡ Some write) (orderly : IsOrderly new (Some write)) where
  abbrev v : ModelState
  v = tied.view

  abbrev group : Descriptor
  group = old.core.descriptor

  abbrev status : Stored
  status = new.core.status

  abbrev u : Stamped Status
  u = record { stamp = status.stamp; value = starts.status }

  abbrev f : Flight
  f = starts.flight

  update_now : update_of status ≡ Some u
  update_now = ap (option_map (λ (x : Status). let r : Stamped Status = record { stamp = status.stamp; value = x } in r)) starts.flies

  begun : IsBegun v tied.votes group old.device tied.media write u old.core.status status
  begun = ⊎_elim goes_on begins starts.begins
    where
      goes_on : (old.core.status.in_flight ≡ None → ⊥) × (starts.begun ≡ old.core.status) → IsBegun v tied.votes group old.device tied.media write u old.core.status status
      goes_on was =
          let is : seen status ≡ with_start (seen old.core.status) (Some starts.disk) = starts.started ∙ ap (λ (s : Stored). with_start (seen s) (Some starts.disk)) was.1 in
          let update_was : update_of old.core.status ≡ Some u = sym (λ k. option_map (λ (x : Status). let r : Stamped Status = record { stamp = (is k).stamp; value = x } in r) (is k).in_flight) ∙ update_now in
          let flies : v.in_flight ≡ Some (as_marks v.beside u) = tied.sees.status.in_flight ∙ ap (option_map (as_marks v.beside)) update_was in
          record {
            good = subst (λ (o : Option (Stamped Marks)). Good tied.votes (record v { in_flight = o })) flies tied.good;
            describes = subst (λ (o : Option (Stamped Marks)). Describes (record v { in_flight = o }) v.facts group (Some u) (contents_of (image_of old.device.sizes tied.media))) flies
                (subst (λ (o : Option (Stamped Status)). Describes v v.facts group o (contents_of (image_of old.device.sizes tied.media))) update_was tied.describes);
            since = subst (λ (o : Option (Stamped Status)). OnlyUpdateSince old.device (Some write) o) update_was (subst (λ (x : Option RecordWrite). OnlyUpdateSince old.device x (update_of old.core.status)) (same was.0) tied.since);
            committed = ap (λ (x : Updates). x.committed) is;
            wanted = ap (λ (x : Updates). x.wanted) is;
            written = λ d had. tied.sees.status.written d (sym (ap (λ (x : Updates). x.written d) is) ∙ had) ∙ flies;
            held = λ x now enough. tied.sees.status.held x (update_was ∙ sym update_now ∙ now) (sym (ap is_held is) ∙ enough);
          }

      begins : MayStartUpdate (seen old.core.status) × (seen starts.begun ≡ with_update (seen old.core.status)) → IsBegun v tied.votes group old.device tied.media write u old.core.status status
      begins was =
          let is : seen status ≡ with_start (with_update (seen old.core.status)) (Some starts.disk) = starts.started ∙ ap (λ (x : Updates). with_start x (Some starts.disk)) was.1 in
          let none : old.core.status.in_flight ≡ None = was.0.none in
          let its = may none in
          let no_update : update_of old.core.status ≡ None = ap (option_map (λ (x : Status). let r : Stamped Status = record { stamp = old.core.status.stamp; value = x } in r)) none in
          let no_write : tied.write ≡ None = none_since old.device tied.write (update_of old.core.status) tied.since no_update in
          let value : starts.status ≡ old.core.status.wanted = let e : Some starts.status ≡ Some old.core.status.wanted = sym starts.flies ∙ ap (λ (x : Updates). x.in_flight) is in cc in
          let first = updates_last.begins tied.votes v group (contents_of (image_of old.device.sizes tied.media)) u tied.good
          (subst (λ (o : Option (Stamped Status)). Describes v v.facts group o (contents_of (image_of old.device.sizes tied.media))) no_update tied.describes)
          its.own (ap (marks_of v.beside) value ∙ sym tied.sees.status.wanted) its.later its.last in
          record {
            good = first.0;
            describes = first.1;
            since = record { is_status = its.is_status; stamp = its.stamp; began = image_of old.device.sizes tied.media; may = its.may; way = plan_begins (IsOtherOrRecord write) old.device tied.media tied.setting.told (nothing_out past old tied write its.is_status no_write) };
            committed = ap (λ (x : Updates). x.committed) is;
            wanted = ap (λ (x : Updates). x.wanted) is;
            written = λ d had. clash_gives (has status.writes.written d) had (ap (λ (x : Updates). x.written d) is);
            held = λ x now enough. clash_gives (is_held (seen status)) enough (ap is_held is ∙ its.none_has);
          }

  abbrev v0 : ModelState
  v0 = record v { in_flight = Some (as_marks v.beside u) }

  abbrev flying : ℕ → Bool
  flying d = has status.writes.started d

  abbrev w : ModelState
  w = moved v0 v0.media.status flying

  abbrev row : Flown
  row = flown f.ticket f.disk (owner.Status starts.disk)

  abbrev core2 : Core
  core2 = record old.core { flying = old.core.flying ++ row ∷ []; status = status; pool = new.core.pool }

  whole : new ≡ state new.device core2
  whole = starts.is

  orderly2 : IsOrderly (state new.device core2) (Some write)
  orderly2 = subst (λ (x : State). IsOrderly x (Some write)) whole orderly

  -- the stamp is of the same moment
  epoch_is : status.stamp.epoch ≡ old.core.status.stamp.epoch
  epoch_is = ⊎_elim
      (λ (was : (old.core.status.in_flight ≡ None → ⊥) × (starts.begun ≡ old.core.status)). ap (λ (x : Updates). x.stamp.epoch) (starts.started ∙ ap (λ (s : Stored). with_start (seen s) (Some starts.disk)) was.1))
      (λ (was : MayStartUpdate (seen old.core.status) × (seen starts.begun ≡ with_update (seen old.core.status))). ap (λ (x : Updates). x.stamp.epoch) (starts.started ∙ ap (λ (x : Updates). with_start x (Some starts.disk)) was.1))
      starts.begins

  notes2 : AreNotes core2
  notes2 d items flies = subst (λ (n : ℕ). IsNote (record { stamp = n; entries = items.items })) (sym epoch_is) (tied.notes d items flies)

  flights_are : new.device.flights ≡ old.device.flights ++ f ∷ []
  flights_are = ap (λ (d : Device). d.flights) starts.launches.starts.new_is

  sizes_are : new.device.sizes ≡ old.device.sizes
  sizes_are = ap (λ (d : Device). d.sizes) starts.launches.starts.new_is

  out : IsStatusOut core2 write f starts.disk
  out = last_out old.core core2 tied.write (Some write) old.device.flights old.core.flying f row (out_of old tied.write tied.orderly tied.notes)
      (subst (λ (fs : List Flight). AreOut core2 (Some write) fs (old.core.flying ++ row ∷ [])) flights_are (out_of (state new.device core2) (Some write) orderly2 notes2))

  own : IsStatusFlight w write f
  own = record {
    write = out.write;
    flies = ap (has status.writes.started) out.disk_is ∙ out.started;
    target = ap write.targets out.disk_is ∙ out.target;
    first = out.first ∙ ap (λ d. slot_start write.kind (write.slots d)) (sym out.disk_is);
    count = out.count;
    carries = out.carries;
  }

  planned : IsPlanned (IsOtherOrRecord write) f
  planned d s x brings = inr (inr (in_slots w old.device write u f d s x begun.since own brings).its)

  missing_new : (d : ℕ) → is_there core2 d ≡ is_there old.core d
  missing_new d = ap (λ (x : Status). Rattle.lvm_status.specs.Update.members_there group x d) begun.wanted

  sees : Sees past core2 w
  sees = record {
    queue = tied.sees.queue;
    facts = tied.sees.facts;
    status = record {
      committed = tied.sees.status.committed ∙ ap (marks_of v.beside) (sym begun.committed);
      in_flight = ap (option_map (as_marks v.beside)) (sym update_now);
      wanted = tied.sees.status.wanted ∙ ap (marks_of v.beside) (sym begun.wanted);
      started = λ d. refl;
      written = begun.written;
      held = begun.held;
      missing = λ d. tied.sees.status.missing d ∙ ap not (sym (missing_new d));
    };
    notes = record {
      cache = tied.sees.notes.cache;
      home = λ d lv g n there. tied.sees.notes.home d lv g n (sym (missing_new d) ∙ there);
      flying = tied.sees.notes.flying;
    };
    open_copy = tied.sees.open_copy;
    step_write = tied.sees.step_write;
    beside = tied.sees.beside;
  }

  carries : (g : Flight) (o : Owner) → CarriesStep old.core v g o → CarriesStep core2 w g o
  carries g (owner.Data id number) its = its
  carries g (owner.Status disk) its = its
  carries g (owner.Note disk) its = its
  carries g owner.Copy its = its

  -- what stands is before the update after this one, and where nothing is owed the slot is still the other one
  next2 : MayUpdate group status old.core.homes (image_of old.device.sizes tied.media)
  next2 = record {
    some_epoch = subst (λ (n : ℕ). n ≢ 0) (sym epoch_is) tied.recorded.next.some_epoch;
    epoch = subst (λ (n : ℕ). n < 2 ^ 64) (sym epoch_is) tied.recorded.next.epoch;
    whole = tied.recorded.next.whole;
    before = later_is_after_too (next_stamp old.core.status.stamp) (next_stamp status.stamp) (image_of old.device.sizes tied.media) later tied.recorded.next.before;
    spare = λ d there owed. tied.recorded.next.spare d (sym (missing_new d) ∙ there) (was_owed d (sym (missing_new d) ∙ there) owed);
  }
    where
      later : IsNoLater (next_stamp old.core.status.stamp) (next_stamp status.stamp)
      later = ⊎_elim
          (λ (was : (old.core.status.in_flight ≡ None → ⊥) × (starts.begun ≡ old.core.status)).
          ap (λ (x : Updates). stamp_lt (next_stamp x.stamp) (next_stamp old.core.status.stamp)) (starts.started ∙ ap (λ (s : Stored). with_start (seen s) (Some starts.disk)) was.1) ∙ not_itself (next_stamp old.core.status.stamp))
          (λ (was : MayStartUpdate (seen old.core.status) × (seen starts.begun ≡ with_update (seen old.core.status))).
          ap (λ (x : Updates). stamp_lt (next_stamp x.stamp) (next_stamp old.core.status.stamp)) (starts.started ∙ ap (λ (x : Updates). with_start x (Some starts.disk)) was.1) ∙ stamp_no (next_stamp old.core.status.stamp))
          starts.begins

      was_owed : (d : ℕ) → IsTrue (is_there old.core d) → is_owed_on status d ≡ false → is_owed_on old.core.status d ≡ false
      was_owed d there owed = ⊎_elim
          (λ (was : (old.core.status.in_flight ≡ None → ⊥) × (starts.begun ≡ old.core.status)).
          of (has old.core.status.writes.unstarted d) (has old.core.status.writes.started d) (d == starts.disk)
          (sym (ap (λ (x : Updates). x.unstarted d || x.started d) (starts.started ∙ ap (λ (s : Stored). with_start (seen s) (Some starts.disk)) was.1)) ∙ owed))
          (λ (was : MayStartUpdate (seen old.core.status) × (seen starts.begun ≡ with_update (seen old.core.status))).
          let none = was.0.none in let idle = (tied.orderly.sound.on tied.orderly.on).going.status.idle none d in (λ t. idle.0 t || idle.1 t))
          starts.begins
        where
          of : (a b e : Bool) → (a && not e) || (b || e) ≡ false → (a || b) ≡ false
          of true b true h = absurd (by b h)
            where
              by : (x : Bool) → (false || (x || true)) ≡ false → ⊥
              by true k = cc k
              by false k = cc k
          of true b false h = absurd (cc h)
          of false true e h = absurd (cc h)
          of false false e h = refl

  -- the update that begins is later than what is committed
  committed2 : CommittedIsOne v.committed.stamp group status (contents_of (image_of old.device.sizes tied.media))
  committed2 = record { stands = λ d r is own stamp. tied.recorded.committed.stands d r is own stamp ∙ sym begun.committed; flies = flies_so starts.begins }
    where
      flies_so : ((old.core.status.in_flight ≡ None → ⊥) × (starts.begun ≡ old.core.status)) ⊎ (MayStartUpdate (seen old.core.status) × (seen starts.begun ≡ with_update (seen old.core.status)))
          → (x : Stamped Status) → update_of status ≡ Some x → x.stamp ≡ v.committed.stamp → x.value ≡ status.committed
      flies_so (inl was) x is stamp =
          let own_seen : seen status ≡ with_start (seen old.core.status) (Some starts.disk) = starts.started ∙ ap (λ (s : Stored). with_start (seen s) (Some starts.disk)) was.1 in
          let update_was : update_of old.core.status ≡ update_of status = sym (λ k. option_map (λ (y : Status). let r : Stamped Status = record { stamp = (own_seen k).stamp; value = y } in r) (own_seen k).in_flight) in
          tied.recorded.committed.flies x (update_was ∙ is) stamp ∙ sym begun.committed
      flies_so (inr was) x is stamp =
          let it : u ≡ x = (let e : Some u ≡ Some x = sym update_now ∙ is in cc) in
          let later_u : stamp_lt v.committed.stamp u.stamp ≡ true = (may was.0.none).later in
          absurd (let e : true ≡ false = sym later_u ∙ ap (stamp_lt v.committed.stamp) (ap (λ (y : Stamped Status). y.stamp) it ∙ stamp) ∙ not_itself v.committed.stamp in cc)

  pub started : IsTied past new
  started = subst (IsTied past) (sym whole) (record {
    votes = tied.votes;
    media = tied.media;
    setting = record {
      are_votes = tied.setting.are_votes;
      told = ap (λ (d : Device). d.media) starts.launches.starts.new_is ∙ tied.setting.told;
      own = tied.setting.own;
    };
    view = w;
    sees = sees;
    good = each_keeps tied.votes (MoveStatus (as_marks v.beside u) v0.media.status flying) v0 w (record { flies = refl; each = λ d. inl refl }, refl) begun.good;
    describes = subst (λ (sizes : List ℕ). Describes w w.facts group (update_of status) (contents_of (image_of sizes tied.media))) (sym sizes_are)
        (subst (λ (o : Option (Stamped Status)). Describes w w.facts group o (contents_of (image_of old.device.sizes tied.media))) (sym update_now)
        (quiet_lasts tied.votes (MoveStatus (as_marks v.beside u) v0.media.status flying) v0 w group (Some u) (contents_of (image_of old.device.sizes tied.media)) (record { flies = refl; each = λ d. inl refl }, refl) begun.good tt begun.describes refl refl refl));
    write = Some write;
    since = subst (λ (o : Option (Stamped Status)). OnlyUpdateSince new.device (Some write) o) (sym update_now) (update_goes_on write u old.device new.device (Started f starts.launches.starts) planned begun.since);
    recorded = record {
      next = subst (λ (sizes : List ℕ). MayUpdate group status old.core.homes (image_of sizes tied.media)) (sym sizes_are) next2;
      members = λ d member first. subst (λ (sizes : List ℕ). IsTrue (members_showing (contents_of (image_of sizes tied.media)) group d)) (sym sizes_are) (tied.recorded.members d member first);
      records = subst (λ (sizes : List ℕ). ShowsRecords group status (contents_of (image_of sizes tied.media))) (sym sizes_are)
          (records_last group old.core.status status (contents_of (image_of old.device.sizes tied.media)) (contents_of (image_of old.device.sizes tied.media)) tied.recorded.records (λ d there. sym (missing_new d) ∙ there) (λ d. refl)
          (λ none. absurd (let e : None ≡ Some starts.status = sym none ∙ starts.flies in cc)));
      committed = subst (λ (sizes : List ℕ). CommittedIsOne v.committed.stamp group status (contents_of (image_of sizes tied.media))) (sym sizes_are) committed2;
    };
    orderly = orderly2;
    copy_aimed = tied.copy_aimed;
    carry = subst (λ (fs : List Flight). CarryTheirs core2 w fs (old.core.flying ++ row ∷ [])) (sym flights_are)
        (carry_more old.core core2 v w old.device.flights old.core.flying tied.write f row (out_of old tied.write tied.orderly tied.notes) carries tt tied.carry);
    notes = notes2;
  })

-- ---- of a sound session

module _ (past : List Fact) (old new : State) (tied : IsTied past old) (sound : IsSound new) (valid : IsValidStatus old.core.status.wanted) (starts : StartsStatus old new) where
  abbrev now : Stored
  now = new.core.status

  orderly_with : (w : RecordWrite) → IsUpdateWrite now old.core.homes starts.status w → IsOrderly new (Some w)
  orderly_with w update = record {
    sound = sound;
    on = ap (λ (s : State). s.core.power) starts.is ∙ tied.orderly.on;
    update = subst (λ (h : Homes). IsWriteOf now h now.in_flight (Some w)) (sym (ap (λ (s : State). s.core.homes) starts.is)) (subst (λ (m : Option Status). IsWriteOf now old.core.homes m (Some w)) (sym starts.flies) update);
  }

  -- the first write of an update
  first : (none : old.core.status.in_flight ≡ None) → seen now ≡ with_start (with_update (seen old.core.status)) (Some starts.disk) → IsTied past new
  first none is =
      started past old new starts tied (fresh_write past old new tied sound valid starts none is) (λ e. begins past old new tied sound valid starts none is) (λ not. absurd (not none))
      (orderly_with (fresh_write past old new tied sound valid starts none is) (fresh_update past old new tied sound valid starts none is))

  -- a further one
  further : (old.core.status.in_flight ≡ None → ⊥) → seen now ≡ with_start (seen old.core.status) (Some starts.disk) → IsTied past new
  further some is = by old.core.status.in_flight tied.write refl refl tied.orderly.update
    where
      disk_unstarted : has old.core.status.writes.unstarted starts.disk ≡ true
      disk_unstarted = ⊎_elim
          (λ (was : (old.core.status.in_flight ≡ None → ⊥) × (starts.begun ≡ old.core.status)). sym (ap (λ (s : Stored). has s.writes.unstarted starts.disk) was.1) ∙ starts.lowest.0)
          (λ (was : MayStartUpdate (seen old.core.status) × (seen starts.begun ≡ with_update (seen old.core.status))). absurd (some was.0.none))
          starts.begins

      owed_before : (d : ℕ) → is_owed_on now d ≡ true → is_owed_on old.core.status d ≡ true
      owed_before d owed = of (has old.core.status.writes.unstarted d) (has old.core.status.writes.started d) (d == starts.disk) refl refl (sym (ap (λ (x : Updates). x.unstarted d || x.started d) is) ∙ owed)
        where
          of : (a b e : Bool) → has old.core.status.writes.unstarted d ≡ a → (d == starts.disk) ≡ e → (a && not e) || (b || e) ≡ true → (a || b) ≡ true
          of true b e ha he h = refl
          of false true e ha he h = refl
          of false false true ha he h = absurd (let same : d ≡ starts.disk = eqb-true d starts.disk he in let x : true ≡ false = sym disk_unstarted ∙ ap (has old.core.status.writes.unstarted) (sym same) ∙ ha in cc)
          of false false false ha he h = absurd (cc h)

      by : (u : Option Status) (w : Option RecordWrite) → old.core.status.in_flight ≡ u → tied.write ≡ w → IsWriteOf old.core.status old.core.homes u w → IsTied past new
      by None w flies write update = absurd (some flies)
      by (Some u) None flies write update = absurd update
      by (Some u) (Some w) flies write update =
          let own : u ≡ starts.status = (let e : Some u ≡ Some starts.status = sym flies ∙ sym (ap (λ (x : Updates). x.in_flight) is) ∙ starts.flies in cc) in
          started past old new starts tied w (λ none. absurd (some none)) (λ not. write) (orderly_with w (record {
            is_status = update.is_status;
            stamp = update.stamp ∙ sym (ap (λ (x : Updates). x.stamp) is);
            content = update.content ∙ ap status_bytes own;
            targets = λ d owed. update.targets d (owed_before d owed);
            slots = λ d owed. update.slots d (owed_before d owed);
          }))

  pub status_started : IsTied past new
  status_started = ⊎_elim
      (λ (was : (old.core.status.in_flight ≡ None → ⊥) × (starts.begun ≡ old.core.status)). further was.0 (starts.started ∙ ap (λ (s : Stored). with_start (seen s) (Some starts.disk)) was.1))
      (λ (was : MayStartUpdate (seen old.core.status) × (seen starts.begun ≡ with_update (seen old.core.status))). first was.0.none (starts.started ∙ ap (λ (x : Updates). with_start x (Some starts.disk)) was.1))
      starts.begins

pub status_start_ties : StatusStartTies
status_start_ties past old new tied sound valid starts = status_started past old new tied sound valid starts
