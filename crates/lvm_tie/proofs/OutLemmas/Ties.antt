-- The start of a transfer of a request, tied.
use Rattle.std.proofs.Common.{◌≡◌, inl, inr, ℕ, ◌+◌, ◌≤◌, Bool, false, ◌&&◌, ◌||◌, ◌==◌, not, List, [], ◌∷◌, ◌++◌, Option, Some, None, refl, sym, ap, subst, ◌∙◌, arith}
use Rattle.std.specs.Prelude.{IsTrue, if◌then◌else◌, slice_get}
use Rattle.std.proofs.lemmas.Bool.{cases_eq}
use Rattle.std.proofs.lemmas.Bool.Decides.{nat_tests}
use Rattle.lvm_num.specs.declared.record.Kind.{Kind}
use Rattle.lvm_num.specs.declared.status.Status.{Status}
use Rattle.lvm_num.specs.Geometry.{data_start}
use Rattle.lvm_num.specs.Record.{Stamped, slot_start, slot_size}
use Rattle.lvm_vol.specs.Facts.{Fact}
use Rattle.lvm_disk.specs.Device.{Flight, Device, image_of}
use Rattle.lvm_disk.specs.Steps.{Starts}
use Rattle.lvm_disk.specs.Paths.{Started}
use Rattle.lvm_kept.specs.Contents.{contents_of}
use Rattle.lvm_kept.specs.Plans.{IsPlanned}
use Rattle.lvm_kept.specs.Torn.{RecordWrite, IsOtherOrRecord}
use Rattle.lvm_path.specs.declared.target.Target.{Target}
use Rattle.lvm_path.specs.Next.{with_start}
use Rattle.lvm_session.specs.declared.open.Open.{Open}
use Rattle.lvm_session.specs.declared.bringing.OpenCopy.{OpenCopy}
use Rattle.lvm_session.specs.declared.bringing.Step.{Step}
use Rattle.lvm_session.specs.declared.bringing.Step.TheVariants as step
use Rattle.lvm_session.specs.declared.flown.Flown.{Flown}
use Rattle.lvm_session.specs.declared.flown.Owner.{Owner}
use Rattle.lvm_session.specs.declared.flown.Owner.TheVariants as owner
use Rattle.lvm_session.specs.State.{Core, State, state}
use Rattle.lvm_session.specs.Judging.{is_running, place_of}
use Rattle.lvm_session.specs.Bringing.{is_out, is_whole}
use Rattle.lvm_session.specs.Events.{with_open, with_flight, flown}
use Rattle.lvm_invariant.specs.State.{Queued, ModelState}
use Rattle.lvm_invariant.specs.Updates.{put}
use Rattle.lvm_invariant.specs.Events.{Event, ModelStep}
use Rattle.lvm_invariant.proofs.EventsLemmas.Each.{each_keeps}
use Rattle.lvm_even.specs.Members.{members_showing}
use Rattle.lvm_crash.specs.Session.{Describes}
use Rattle.lvm_crash.specs.Lasting.{AsksOf}
use Rattle.lvm_crash.proofs.DeviceLemmas.{writes_at}
use Rattle.lvm_crash.proofs.RecordsLemmas.Quiet.{quiet_lasts, update_goes_on}
use Rattle.lvm_crash.specs.Owned.{UpdateSince, OnlyUpdateSince}
use Rattle.lvm_tie.proofs.SeenLemmas.Changing.{sees_changed, step_apart}
use Rattle.lvm_tie.proofs.TiedLemmas.Orderly.{AreOut, HaveNumbers, out_of}
use Rattle.lvm_tie.specs.Out.{CarriesStep, CarryTheirs, MayUpdate}
use Rattle.lvm_tie.specs.Seen.{SeesRequest, update_of}
use Rattle.lvm_tie.specs.Tied.{IsOrderly, IsTied, ShowsRecords, CommittedIsOne}

-- a transfer of data goes outside the slots of statuses
pub data_planned : (device : Device) (w : RecordWrite) (u : Stamped Status) (f : Flight) → UpdateSince device w u → data_start ≤ f.first → IsPlanned (IsOtherOrRecord w) f
data_planned device w u f since low d at x brings =
    let at_least : f.first ≤ at = (writes_at f d at x brings).low in
    let end : slot_start w.kind 1 + slot_size w.kind ≡ 192 = ap (λ (k : Kind). slot_start k 1 + slot_size k) since.is_status in
    inr (inl (omega arith))

-- the update goes on being written
pub since_start : (old new : Device) (f : Flight) (w : Option RecordWrite) (u : Option (Stamped Status)) → Starts old new f → data_start ≤ f.first → OnlyUpdateSince old w u → OnlyUpdateSince new w u
since_start old new f None None starts low since = tt
since_start old new f (Some w) (Some u) starts low since = update_goes_on w u old new (Started f starts) (data_planned old w u f since low) since
since_start old new f (Some w) None starts low since = absurd since
since_start old new f None (Some u) starts low since = absurd since

-- what steps carry goes on where the rows do
pub carry_on : (core next : Core) (v w : ModelState) (fs : List Flight) (rows : List Flown) → ((g : Flight) (o : Owner) → CarriesStep core v g o → CarriesStep next w g o) → CarryTheirs core v fs rows → CarryTheirs next w fs rows
carry_on core next v w [] rows each carry = tt
carry_on core next v w (f ∷ fs) [] each carry = tt
carry_on core next v w (f ∷ fs) (row ∷ rows) each carry = (each f row.owner carry.0, carry_on core next v w fs rows each carry.1)

-- what steps carry goes on, with one transfer more that isn't a step's
pub carry_more : (core new : Core) (v w : ModelState) (fs : List Flight) (rows : List Flown) (write : Option RecordWrite) (f : Flight) (row : Flown) → AreOut core write fs rows
    → ((g : Flight) (o : Owner) → CarriesStep core v g o → CarriesStep new w g o) → CarriesStep new w f row.owner → CarryTheirs core v fs rows → CarryTheirs new w (fs ++ f ∷ []) (rows ++ row ∷ [])
carry_more core new v w [] [] write f row out each its carry = (its, tt)
carry_more core new v w [] (r ∷ rs) write f row out each its carry = absurd out
carry_more core new v w (g ∷ gs) [] write f row out each its carry = absurd out
carry_more core new v w (g ∷ gs) (r ∷ rs) write f row out each its carry = (each g r.owner carry.0, carry_more core new v w gs rs write f row out.2 each its carry.1)

module _ (past : List Fact) (old : State) (device : Device) (place number : ℕ) (o : Open) (t : Target) (q q2 : Queued) (f : Flight) (pool : List Bool) (tied : IsTied past old)
    (numbers : HaveNumbers old.core) (there : slice_get old.core.requests place ≡ Some o) (aim_is : slice_get o.request.targets.items number ≡ Some t)
    (at : tied.view.queue (place_of o.request.id) ≡ Some q) (starts : Starts old.device device f) (low : data_start ≤ f.first)
    (sees2 : SeesRequest (record o { request = with_start o.request number }) q2) where
  abbrev v : ModelState
  v = tied.view

  abbrev i : ℕ
  i = place_of o.request.id

  abbrev o2 : Open
  o2 = record o { request = with_start o.request number }

  abbrev row : Flown
  row = flown f.ticket f.disk (owner.Data o.request.id number)

  abbrev new : Core
  new = record (with_flight (with_open old.core place o2) f (owner.Data o.request.id number)) { pool = pool }

  abbrev w : ModelState
  w = record v { queue = put v.queue i q2 }

  carries : (g : Flight) (who : Owner) → CarriesStep old.core v g who → CarriesStep new w g who
  carries g (owner.Data id n) its = tt
  carries g (owner.Status disk) its = tt
  carries g (owner.Note disk) its = tt
  carries g owner.Copy its = λ c p is writing here. its c p is writing (sym (elsewhere c is writing) ∙ here)
    where
      elsewhere : (c : OpenCopy) → old.core.copy ≡ Some c → c.step ≡ step.Writing → w.queue c.place ≡ v.queue c.place
      elsewhere c is writing = elim (cases_eq c.place i) [
        | inl e ↦ absurd (step_apart past old.core v place o o2 q2 pool (old.core.flying ++ row ∷ []) old.core.last old.core.queue old.core.cache.entries v.media.block tied.sees numbers there refl sees2 (λ lv g2. refl) c is
            (ap (λ (st : Step). is_out st || (is_running c && not (is_whole old.core c))) writing) e)
        | inr ne ↦ let test : (c.place == i) ≡ false = grind (arith, nat_tests) in ap (λ b. if b then Some q2 else v.queue c.place) test
      ]

  sizes_is : device.sizes ≡ old.device.sizes
  sizes_is = ap (λ (d : Device). d.sizes) starts.new_is

  -- Where the state makes an event that changes this request so, and nothing else, it is tied again.
  pub started_ties : (event : Event) → ModelStep tied.votes event v w → AsksOf old.core.descriptor event → IsOrderly (state device new) tied.write → IsTied past (state device new)
  started_ties event step asks orderly = record {
    votes = tied.votes;
    media = tied.media;
    setting = record {
      are_votes = tied.setting.are_votes;
      told = ap (λ (d : Device). d.media) starts.new_is ∙ tied.setting.told;
      own = tied.setting.own;
    };
    view = w;
    sees = sees_changed past old.core v place o o2 q2 pool (old.core.flying ++ row ∷ []) old.core.last old.core.queue old.core.cache.entries v.media.block tied.sees numbers there refl sees2 (λ lv g. refl);
    good = each_keeps tied.votes event v w step tied.good;
    describes = subst (λ (sizes : List ℕ). Describes w w.facts old.core.descriptor (update_of old.core.status) (contents_of (image_of sizes tied.media))) (sym sizes_is)
        (quiet_lasts tied.votes event v w old.core.descriptor (update_of old.core.status) (contents_of (image_of old.device.sizes tied.media)) step tied.good asks tied.describes refl refl refl);
    write = tied.write;
    since = since_start old.device device f tied.write (update_of old.core.status) starts low tied.since;
    recorded = record {
      next = subst (λ (sizes : List ℕ). MayUpdate old.core.descriptor old.core.status old.core.homes (image_of sizes tied.media)) (sym sizes_is) tied.recorded.next;
      members = λ d member first. subst (λ (sizes : List ℕ). IsTrue (members_showing (contents_of (image_of sizes tied.media)) old.core.descriptor d)) (sym sizes_is) (tied.recorded.members d member first);
      records = subst (λ (sizes : List ℕ). ShowsRecords old.core.descriptor old.core.status (contents_of (image_of sizes tied.media))) (sym sizes_is) tied.recorded.records;
      committed = subst (λ (sizes : List ℕ). CommittedIsOne tied.view.committed.stamp old.core.descriptor old.core.status (contents_of (image_of sizes tied.media))) (sym sizes_is) tied.recorded.committed;
    };
    orderly = orderly;
    copy_aimed = tied.copy_aimed;
    carry = subst (λ (fs : List Flight). CarryTheirs new w fs (old.core.flying ++ row ∷ [])) (sym (ap (λ (d : Device). d.flights) starts.new_is))
        (carry_more old.core new v w old.device.flights old.core.flying tied.write f row (out_of old tied.write tied.orderly tied.notes) carries tt tied.carry);
    notes = tied.notes;
  }
