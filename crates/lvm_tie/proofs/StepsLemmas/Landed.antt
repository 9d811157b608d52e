-- What the end of a transfer of the copy that is being brought up leaves of the shelf, and of a good state.
use Rattle.std.proofs.Common.{◌≡◌, ◌⊎◌, ℕ, zero, suc, ◌+◌, ◌<◌, Bool, true, false, ◌&&◌, ◌||◌, not, List, [], ◌∷◌, ◌++◌, Option, Some, None, refl, sym, ap, subst, ◌∙◌, arith}
use Rattle.std.specs.Prelude.{IsTrue, IfSome, slice_get}
use Rattle.std.proofs.lemmas.Option.{same_Some}
use Rattle.lvm_num.specs.declared.descriptor.Descriptor.{Descriptor}
use Rattle.lvm_num.specs.declared.place.Pp.{Pp}
use Rattle.lvm_num.specs.declared.record.Kind.{Kind}
use Rattle.lvm_num.specs.declared.record.Kind.TheVariants as kind
use Rattle.lvm_num.specs.declared.status.Status.{Status}
use Rattle.lvm_num.specs.Buffer.{Buffer, Sector}
use Rattle.lvm_num.specs.Descriptor.{is_member}
use Rattle.lvm_num.specs.Geometry.{data_start, sector_of}
use Rattle.lvm_num.specs.Record.{Stamped, slot_size, slot_start}
use Rattle.lvm_num.specs.Status.{calls_missing}
use Rattle.lvm_num.specs.StatusBytes.{status_of}
use Rattle.lvm_vol.specs.Facts.{Fact}
use Rattle.lvm_disk.specs.Device.{AreSectors, Flight, HasSectors, Image, Media, image_of, IsWholeImage}
use Rattle.lvm_kept.specs.Contents.{Contents, contents_of}
use Rattle.lvm_kept.specs.Places.{SameRecords}
use Rattle.lvm_kept.specs.Torn.{RecordWrite}
use Rattle.lvm_steps.proofs.LawsLemmas.Writes.{data_keeps_before}
use Rattle.lvm_commit.specs.Committed.{next_stamp}
use Rattle.lvm_rec.proofs.SlotsLemmas.Next.{slot_for_same}
use Rattle.lvm_status.specs.Update.{Stored}
use Rattle.lvm_rec.specs.declared.homes.Homes.{Homes}
use Rattle.lvm_session.specs.declared.bringing.OpenCopy.{OpenCopy}
use Rattle.lvm_session.specs.declared.bringing.Step.{Step}
use Rattle.lvm_session.specs.declared.bringing.Step.TheVariants as step
use Rattle.lvm_session.specs.declared.flown.Flown.{Flown}
use Rattle.lvm_session.specs.declared.flown.Owner.TheVariants as owner
use Rattle.lvm_session.specs.State.{Core, State}
use Rattle.lvm_session.specs.Judging.{is_running}
use Rattle.lvm_session.specs.Bringing.{has_row, is_out, is_whole}
use Rattle.lvm_session.specs.Ends.{Returns}
use Rattle.lvm_session.specs.Events.{IsCopyTransfer}
use Rattle.lvm_invariant.specs.State.{ModelCopy, Queued, ModelState, is_past}
use Rattle.lvm_invariant.specs.CopyWrite.{copied}
use Rattle.lvm_invariant.specs.Events.{CopyWrite}
use Rattle.lvm_invariant.proofs.EventsLemmas.Each.{each_keeps}
use Rattle.lvm_crash.specs.Left.{KeepsGroup}
use Rattle.lvm_crash.specs.Session.{Describes}
use Rattle.lvm_even.specs.Members.{members_showing}
use Rattle.lvm_crash.specs.Bringing.{PassesOver}
use Rattle.lvm_crash.specs.Owned.{IsTransfer, OnlyUpdateSince}
use Rattle.lvm_crash.specs.Writing.{after_write}
use Rattle.lvm_crash.proofs.BringingLemmas.{read_leaves, step_ends}
use Rattle.lvm_crash.proofs.RecordsLemmas.Quiet.{update_goes_on}
use Rattle.lvm_crash.proofs.WritingLemmas.{group_kept, records_same}
use Rattle.lvm_tie.proofs.TiedLemmas.Recorded.{records_kept, one_kept}
use Rattle.lvm_tie.specs.Out.{CarriesStep, CarryTheirs, MayUpdate}
use Rattle.lvm_tie.specs.Seen.{SeesHand, SeesStep, step_write_in, step_write_of, update_of}
use Rattle.lvm_tie.specs.Tied.{IsTied, ShowsRecords, CommittedIsOne}
use Rattle.lvm_tie.proofs.TiedLemmas.Orderly.{AreOut, HaveTickets, IsCopyOut, IsOut, StepIsOut, out_of, tickets_of, valid_of}
use Rattle.lvm_tie.proofs.OutLemmas.Ended.{HasEnded, IsRow, has_ended, is_row, row_of}
use Rattle.lvm_tie.proofs.StepsLemmas.Leaving.{Stands}

-- ---- its row

-- what it carries, if it is a step's
carried : (core : Core) (w : Option RecordWrite) (v : ModelState) (before after : List Flight) (f : Flight) (rows : List Flown) (index : ℕ) (row : Flown)
    → AreOut core w (before ++ f ∷ after) rows → HaveTickets rows → slice_get rows index ≡ Some row → f.ticket ≡ row.ticket → CarryTheirs core v (before ++ f ∷ after) rows → CarriesStep core v f row.owner
carried core w v [] after f [] index row out tickets there same carry = absurd out
carried core w v [] after f (r ∷ rs) zero row out tickets there same carry = subst (λ (x : Flown). CarriesStep core v f x.owner) (same_Some r row there) carry.0
carried core w v [] after f (r ∷ rs) (suc k) row out tickets there same carry = absurd (let e = tickets 0 (suc k) r row refl there (sym out.0 ∙ same) in omega arith)
carried core w v (g ∷ gs) after f [] index row out tickets there same carry = absurd out
carried core w v (g ∷ gs) after f (r ∷ rs) zero row out tickets there same carry =
    let x = row_of core w gs after f rs out.2 in
    absurd (let e = tickets 0 (suc x.0) r x.1 refl x.2 (ap (λ (y : Flown). y.ticket) (same_Some r row there) ∙ sym same ∙ x.3) in omega arith)
carried core w v (g ∷ gs) after f (r ∷ rs) (suc k) row out tickets there same carry =
    carried core w v gs after f rs k row out.2 (λ i j a b at too e. let n = tickets (suc i) (suc j) a b at too e in omega arith) there same carry.1

-- ---- the next update

slot_low : (k : Kind) (slot s : ℕ) → slot < 2 → s < slot_start k slot + slot_size k → s < data_start
slot_low kind.Descriptor slot s two lt = omega (arith, two, lt)
slot_low kind.Status slot s two lt = omega (arith, two, lt)

-- it may be written where nothing below the data has changed
pub next_below : (group : Descriptor) (status : Stored) (homes : Homes) (was is : Image) → SameRecords was is → IsWholeImage is → MayUpdate group status homes was → MayUpdate group status homes is
next_below group status homes was is same whole may = record {
  some_epoch = may.some_epoch;
  epoch = may.epoch;
  whole = whole;
  before = data_keeps_before (next_stamp status.stamp) was is (record { same = same.same; sectors = λ d s room low. same.sectors d s low }) may.before;
  spare = λ d there owed. may.spare d there owed ∙ sym (slot_for_same status_of kind.Status (was.sector d) (is.sector d) (λ slot s two from to. same.sectors d s (slot_low kind.Status slot s two to)));
}

busy : (core : Core) (c : OpenCopy) (st : Step) (f : Flight) → StepIsOut core c st f → is_out st ≡ true
busy core c step.Idle f out = absurd out
busy core c (step.Reading source) f out = refl
busy core c (step.Read buf) f out = absurd out
busy core c step.Writing f out = refl

-- ---- the transfer

module _ (past : List Fact) (old new : State) (at : ℕ) (row : Flown) (ok : Bool) (buf : Buffer) (tied : IsTied past old) (returns : Returns old new at row ok buf) (own : row.owner ≡ owner.Copy)
    (c : OpenCopy) (is_open : old.core.copy ≡ Some c) where
  abbrev core : Core
  core = old.core

  abbrev pub v : ModelState
  v = tied.view

  pub ended : HasEnded old.device new.device row.ticket ok buf tied.media
  ended = has_ended old.device new.device row.ticket ok buf tied.media returns.ends tied.setting.told

  abbrev pub f : Flight
  f = ended.flight

  out_there : AreOut core tied.write (ended.removes.before ++ f ∷ ended.removes.after) core.flying
  out_there = subst (λ (fs : List Flight). AreOut core tied.write fs core.flying) ended.removes.was (out_of old tied.write tied.orderly tied.notes)

  tickets : HaveTickets core.flying
  tickets = tickets_of old tied.write tied.orderly

  its_row : IsRow core core tied.write v v ended.removes.before ended.removes.after f core.flying at row
  its_row = is_row core core tied.write v v ended.removes.before ended.removes.after f core.flying at row out_there tickets returns.there ended.its

  found : IsCopyOut core f
  found = subst (IsOut core tied.write f) own its_row.out

  pub out : StepIsOut core c c.step f
  out = subst (λ (x : OpenCopy). StepIsOut core x x.step f) (same_Some found.copy c (sym found.is_open ∙ is_open)) found.out

  carries : CarriesStep core v f owner.Copy
  carries = subst (CarriesStep core v f) own
      (carried core tied.write v ended.removes.before ended.removes.after f core.flying at row out_there tickets returns.there ended.its
      (subst (λ (fs : List Flight). CarryTheirs core v fs core.flying) ended.removes.was tied.carry))

  pub row_there : has_row core c ≡ true
  row_there = ap (λ b. b || (is_running c && not (is_whole core c))) (busy core c c.step f out)

  -- its step, as it stands in the queue
  abbrev pub q : Queued
  q = (tied.sees.queue.a_step c is_open row_there).0

  pub at_q : v.queue c.place ≡ Some q
  at_q = (tied.sees.queue.a_step c is_open row_there).1

  pub sees : SeesStep core c q
  sees = (tied.sees.queue.a_step c is_open row_there).2

  pub hand : (st : Step) → c.step ≡ st → SeesHand st q
  hand st is = subst (λ (x : Step). SeesHand x q) is sees.hand

  -- its copy is one that the state sees
  pub aimed : IsTrue (v.is_copy q.lv q.first c.pp)
  aimed = (λ t. v.is_copy (sees.lv t) (sees.first t) c.pp) ∙ (tied.copy_aimed c is_open row_there).0

  -- so is that from which it is read
  pub source_aimed : (source : Pp) → c.step ≡ step.Reading source → IsTrue (v.is_copy q.lv q.first source)
  source_aimed source reads = (λ t. v.is_copy (sees.lv t) (sees.first t) source) ∙ (tied.copy_aimed c is_open row_there).1 source reads

  -- ---- what it leaves

  abbrev pub now : Contents
  now = contents_of (image_of new.device.sizes ended.media)

  -- A good state describes what stands then, and the members and the next update go on.
  pub record HasLanded (open_copy : Option ModelCopy) : Type 0 where
    pub block : ℕ → ℕ → Pp → Sector
    pub stands : Stands tied.votes core.descriptor (update_of core.status) now (copied v block open_copy None)
    pub next : MayUpdate core.descriptor core.status core.homes (image_of new.device.sizes ended.media)
    pub members : (d : ℕ) → is_member core.descriptor d ≡ true → calls_missing core.origin.table d ≡ false → IsTrue (members_showing now core.descriptor d)
    pub records : ShowsRecords core.descriptor core.status now
    pub committed : CommittedIsOne v.committed.stamp core.descriptor core.status now

  pub since : (x : Option RecordWrite) (u : Option (Stamped Status)) → OnlyUpdateSince old.device x u → OnlyUpdateSince new.device x u
  since None None was = tt
  since (Some x) (Some u) was = update_goes_on x u old.device new.device ended.step (ended.planned x) was
  since (Some x) None was = absurd was
  since None (Some u) was = absurd was

  -- ---- a read

  module _ (source : Pp) (reads : c.step ≡ step.Reading source) where
    pub its_read : IsCopyTransfer core c source false f
    its_read = subst (λ (st : Step). StepIsOut core c st f) reads out

    pub same_media : ended.media ≡ tied.media
    same_media = read_leaves f ok tied.media ended.media its_read.write_is ended.lands

    same_image : image_of new.device.sizes ended.media ≡ image_of old.device.sizes tied.media
    same_image = λ t. image_of (ended.sizes t) (same_media t)

    no_write : v.step_write ≡ None
    no_write = tied.sees.step_write ∙ ap step_write_in is_open ∙ ap (step_write_of c) reads

    pub read_stands : Stands tied.votes core.descriptor (update_of core.status) now (copied v v.media.block v.open_copy None)
    read_stands = subst (Stands tied.votes core.descriptor (update_of core.status) now) (λ t. record v { step_write = no_write t }) (record {
      good = tied.good;
      describes = subst (λ (i : Image). Describes v v.facts core.descriptor (update_of core.status) (contents_of i)) (sym same_image) tied.describes;
    })

    pub read_next : MayUpdate core.descriptor core.status core.homes (image_of new.device.sizes ended.media)
    read_next = subst (λ (i : Image). MayUpdate core.descriptor core.status core.homes i) (sym same_image) tied.recorded.next

    pub read_members : (d : ℕ) → is_member core.descriptor d ≡ true → calls_missing core.origin.table d ≡ false → IsTrue (members_showing now core.descriptor d)
    read_members d member first = subst (λ (i : Image). IsTrue (members_showing (contents_of i) core.descriptor d)) (sym same_image) (tied.recorded.members d member first)

    pub read_records : ShowsRecords core.descriptor core.status now
    read_records = subst (λ (i : Image). ShowsRecords core.descriptor core.status (contents_of i)) (sym same_image) tied.recorded.records

    pub read_committed : CommittedIsOne v.committed.stamp core.descriptor core.status now
    read_committed = subst (λ (i : Image). CommittedIsOne v.committed.stamp core.descriptor core.status (contents_of i)) (sym same_image) tied.recorded.committed

    abbrev pub landed_read : HasLanded v.open_copy
    landed_read = record { block = v.media.block; stands = read_stands; next = read_next; members = read_members; records = read_records; committed = read_committed }

  -- ---- a write

  module _ (writes : c.step ≡ step.Writing) (sectors : HasSectors new.device) where
    its_write : IsCopyTransfer core c c.pp true f
    its_write = subst (λ (st : Step). StepIsOut core c st f) writes out

    theirs : (value : ℕ → Sector) × (q.got ≡ Some value) × ((k : ℕ) → k < 256 → slice_get f.buf.sectors k ≡ Some (value (q.first + k)))
    theirs = carries c q is_open writes at_q

    abbrev value : ℕ → Sector
    value = theirs.0

    transfer : IsTransfer core.descriptor.mib q value c.pp f
    transfer = record {
      write = its_write.write_is;
      disk = its_write.disk_is;
      first = its_write.first ∙ ap (sector_of core.descriptor.mib c.pp.pp) (sym sees.first);
      count = its_write.count ∙ sym sees.count;
      carries = λ k lt. theirs.2 k (let e : q.count ≡ 256 = sees.count in omega (arith, e, lt));
    }

    past_now : IsTrue (is_past q.phase)
    past_now = ap is_past (hand step.Writing writes).0

    same_below : SameRecords (image_of old.device.sizes tied.media) (image_of old.device.sizes ended.media)
    same_below = records_same tied.votes v c.place q c.pp value core.descriptor (update_of core.status) old.device.sizes tied.media ended.media f ok (valid_of old tied.write tied.orderly) tied.good tied.describes at_q aimed transfer ended.lands

    kept : KeepsGroup (contents_of (image_of old.device.sizes tied.media)) (contents_of (image_of old.device.sizes ended.media))
    kept = group_kept tied.votes v c.place q c.pp value core.descriptor (update_of core.status) old.device.sizes tied.media ended.media f ok (valid_of old tied.write tied.orderly) tied.good tied.describes at_q aimed transfer ended.lands

    whole : AreSectors new.device.sizes ended.media
    whole = subst (λ (m : Option Media). IfSome m (AreSectors new.device.sizes)) ended.told sectors

    pub landed_write : (open_copy : Option ModelCopy) → (open_copy ≡ v.open_copy) ⊎ (IsTrue ok × PassesOver v q c.pp open_copy) → HasLanded open_copy
    landed_write open_copy opened =
        let its = step_ends tied.votes v c.place q value c.pp open_copy None core.descriptor (update_of core.status) old.device.sizes tied.media ended.media f ok (valid_of old tied.write tied.orderly) tied.good tied.describes at_q sees.write past_now theirs.1 aimed transfer ended.lands opened in
        let block : ℕ → ℕ → Pp → Sector = after_write v core.descriptor.mib q c.pp (contents_of (image_of old.device.sizes ended.media)) in
        record {
          block = block;
          stands = record {
            good = each_keeps tied.votes (CopyWrite c.place q value c.pp open_copy None block) v (copied v block open_copy None) (its.may, refl) tied.good;
            describes = subst (λ (sizes : List ℕ). Describes (copied v block open_copy None) v.facts core.descriptor (update_of core.status) (contents_of (image_of sizes ended.media))) (sym ended.sizes) its.describes;
          };
          next = next_below core.descriptor core.status core.homes (image_of old.device.sizes tied.media) (image_of new.device.sizes ended.media)
              (subst (λ (sizes : List ℕ). SameRecords (image_of old.device.sizes tied.media) (image_of sizes ended.media)) (sym ended.sizes) same_below) whole tied.recorded.next;
          members = λ d member first. subst (λ (sizes : List ℕ). IsTrue (members_showing (contents_of (image_of sizes ended.media)) core.descriptor d)) (sym ended.sizes)
              (ap (λ (x : Contents). members_showing x core.descriptor d) kept.rest ∙ tied.recorded.members d member first);
          records = subst (λ (sizes : List ℕ). ShowsRecords core.descriptor core.status (contents_of (image_of sizes ended.media))) (sym ended.sizes)
              (records_kept core.descriptor core.status (image_of old.device.sizes tied.media) (image_of old.device.sizes ended.media) same_below tied.recorded.records);
          committed = subst (λ (sizes : List ℕ). CommittedIsOne v.committed.stamp core.descriptor core.status (contents_of (image_of sizes ended.media))) (sym ended.sizes)
              (one_kept (image_of old.device.sizes tied.media) (image_of old.device.sizes ended.media) same_below tied.recorded.committed);
        }
