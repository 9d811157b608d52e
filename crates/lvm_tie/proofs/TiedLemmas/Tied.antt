-- What follows from the tie.
use Rattle.std.proofs.Common.{◌≡◌, inl, inr, ℕ, zero, suc, ◌+◌, ◌-◌, ◌<◌, Bool, true, false, ◌&&◌, ◌||◌, List, [], ◌∷◌, length, get_or, Option, Some, None, refl, sym, ap, subst, ◌∙◌, arith}
use Rattle.std.specs.Prelude.{IsTrue, not, if◌then◌else◌, slice_get}
use Rattle.std.proofs.lemmas.Option.{slice_get-get_or}
use Rattle.lvm_num.specs.Buffer.{Sector}
use Rattle.lvm_num.specs.Disks.{has}
use Rattle.lvm_num.specs.Geometry.{sector_of}
use Rattle.lvm_num.specs.Record.{slot_start}
use Rattle.lvm_vol.specs.Facts.{Fact, Request as Asked, block_of}
use Rattle.lvm_vol.specs.Legal.{Legal}
use Rattle.lvm_vol.specs.Log.{request_of}
use Rattle.lvm_disk.specs.Device.{Flight}
use Rattle.lvm_disk.specs.Paths.{Then}
use Rattle.lvm_kept.specs.Contents.{contents_of}
use Rattle.lvm_kept.specs.Kept.{Kept}
use Rattle.lvm_kept.specs.Moments.{Moment, Moves, Enters}
use Rattle.lvm_kept.specs.Torn.{RecordWrite}
use Rattle.lvm_steps.specs.Moments.{HistoryHolds, Keeps}
use Rattle.lvm_mwc.specs.Notes.{names_group}
use Rattle.lvm_sched.specs.Writes.{is_waiting}
use Rattle.lvm_sched.specs.declared.writes.TargetState.{TargetState}
use Rattle.lvm_path.specs.declared.request.Phase.{Phase}
use Rattle.lvm_path.specs.declared.request.Phase.TheVariants as phase
use Rattle.lvm_path.specs.declared.target.Target.{Target}
use Rattle.lvm_path.specs.Asks.{at_of, count_of, is_write}
use Rattle.lvm_path.specs.Targets.{is_begun}
use Rattle.lvm_session.specs.declared.open.Open.{Open}
use Rattle.lvm_session.specs.declared.flown.Flown.{Flown}
use Rattle.lvm_session.specs.declared.flown.Owner.{Owner}
use Rattle.lvm_session.specs.declared.flown.Owner.TheVariants as owner
use Rattle.lvm_session.specs.State.{Core, State}
use Rattle.lvm_session.specs.Judging.{place_of, is_running}
use Rattle.lvm_session.specs.Bringing.{has_row, is_out, is_whole}
use Rattle.lvm_session.specs.declared.bringing.OpenCopy.{OpenCopy}
use Rattle.lvm_session.specs.declared.bringing.Step.{Step}
use Rattle.lvm_session.specs.declared.bringing.Step.TheVariants as step
use Rattle.lvm_invariant.specs.State.{Flying, Going, Groups, Queued, ModelState, is_past, Started}
use Rattle.lvm_num.specs.Descriptor.{is_pp}
use Rattle.lvm_crash.specs.Flights.{Matches}
use Rattle.lvm_crash.proofs.LawsLemmas.Images.{images_kept}
use Rattle.lvm_crash.proofs.OwnedLemmas.{owners_have_out, covers_its}
use Rattle.lvm_crash.proofs.WritingLemmas.{pp_same, same_pp}
use Rattle.lvm_crash.specs.Owned.{IsTransfer, IsDataFlight, IsOfUpdate, IsOwned, AllOwned}
use Rattle.lvm_tie.proofs.StateLemmas.{aimed_of}
use Rattle.lvm_tie.proofs.TiedLemmas.Orderly.{AreOut, Differ, HasTargets, IsCopyOut, IsDataOut, IsNoteOut, IsOfUpdateOut, IsOut, StepIsOut, begun_by, out_of, targets_of, valid_of}
use Rattle.lvm_tie.specs.Out.{CarriesStep, CarryTheirs}
use Rattle.lvm_tie.specs.Seen.{stage_seen, stage_at, phase_seen, SeesRequest, SeesNote, SeesHand, step_write_of, step_write_in, update_of}
use Rattle.lvm_tie.specs.Tied.{IsTied, moment_of, TiedOwns, GoodUpholds, GoodGoesOn}

-- ---- targets

pub stage_found : (ts : List Target) (number : ℕ) (t : Target) → Differ ts → slice_get ts number ≡ Some t → stage_at ts t.pp ≡ Some (stage_seen t.state)
stage_found [] number t differ there = absurd cc
stage_found (u ∷ us) zero t differ there =
    let same : u ≡ t = cc in
    let its : is_pp t.pp u.pp ≡ true = same_pp t.pp u.pp (ap (λ (x : Target). x.pp) (sym same)) in
    ap (λ b. if b then Some (stage_seen u.state) else stage_at us t.pp) its ∙ ap (λ (x : Target). Some (stage_seen x.state)) same
stage_found (u ∷ us) (suc number) t differ there = by (is_pp t.pp u.pp) refl (stage_found us number t (λ j k a b at too same. let e = differ (suc j) (suc k) a b at too same in omega arith) there)
  where
    by : (b : Bool) → is_pp t.pp u.pp ≡ b → stage_at us t.pp ≡ Some (stage_seen t.state) → (if is_pp t.pp u.pp then Some (stage_seen u.state) else stage_at us t.pp) ≡ Some (stage_seen t.state)
    by true test rest = absurd (let e = differ (suc number) 0 t u there refl (pp_same t.pp u.pp test) in omega arith)
    by false test rest = ap (λ x. if x then Some (stage_seen u.state) else stage_at us t.pp) test ∙ rest

-- ---- owners

module _ (past : List Fact) (s : State) (tied : IsTied past s) where
  abbrev v : ModelState
  v = tied.view

  abbrev core : Core
  core = s.core

  -- what a write's transfer is to the request as the state sees it
  pub record DataParts (o : Open) (aim : Target) (f : Flight) (q : Queued) : Type 0 where
    pub started : Started v (place_of o.request.id) q
    pub flies : q.targets aim.pp ≡ Some Flying
    pub aimed : IsTrue (v.is_copy q.lv q.first aim.pp)
    pub transfer : IsTransfer core.descriptor.mib q q.value aim.pp f

  pub data_parts : (f : Flight) (id number : ℕ) (out : IsDataOut core f id number) (q : Queued) → is_write out.request.request.ask ≡ true → v.queue (place_of out.request.request.id) ≡ Some q → SeesRequest out.request q → DataParts out.request out.aim f q
  data_parts f id number out q writes there its =
      let o = out.request in
      let i : ℕ = place_of o.request.id in
      let orderly : HasTargets core o = targets_of s tied.write tied.orderly out.place o out.there out.waiting in
      let begun : is_begun o.request.targets.items ≡ true = begun_by o.request.targets.items number out.aim out.aim_is (ap is_waiting out.flies) in
      let going : q.phase ≡ Going = its.phase ∙ ap (λ (p : Phase). phase_seen p (is_begun o.request.targets.items)) out.moving ∙ ap (λ b. phase_seen phase.Data b) begun in
      let asked : Asked = request_of core.history.facts o.request.id in
      let name : v.name i ≡ asked = tied.sees.queue.names out.place o out.there in
      let count : f.count ≡ count_of o.request.ask = out.moves.count in
      let q_count : q.count ≡ count_of o.request.ask = its.count in
      let long : length asked.blocks ≡ count_of o.request.ask = orderly.blocks writes in
      record {
        started = record { there = there; write = its.write ∙ writes; going = going };
        flies = its.targets out.aim.pp ∙ stage_found o.request.targets.items number out.aim orderly.differ out.aim_is ∙ ap (λ (t : TargetState). Some (stage_seen t)) out.flies;
        aimed = (λ t. v.is_copy (its.lv t) (its.first t) out.aim.pp) ∙ aimed_of past s tied out.place number o out.aim out.there out.waiting out.aim_is;
        transfer = record {
          write = out.moves.write ∙ writes;
          disk = out.moves.disk_is;
          first = out.moves.first ∙ orderly.sectors number out.aim out.aim_is ∙ ap (sector_of core.descriptor.mib out.aim.pp.pp) (sym its.first);
          count = count ∙ sym q_count;
          carries = λ k lt.
              let within : k < length asked.blocks = omega arith in
              let back : (q.first + k) - asked.at ≡ k = let e : asked.at ≡ at_of o.request.ask = orderly.first in let e2 : q.first ≡ at_of o.request.ask = its.first in omega arith in
              let value : block_of asked.blocks asked.at (q.first + k) ≡ q.value (q.first + k) =
              ap (λ (r : Asked). block_of r.blocks r.at (q.first + k)) (sym name) ∙ (tied.good.told.same i q there its.step).value q.lv (q.first + k) (its.write ∙ writes) (covers_its q k lt) in
              out.moves.carries writes k (omega arith)
              ∙ slice_get-get_or asked.blocks k [] within
              ∙ ap (λ (n : ℕ). Some (get_or asked.blocks n [])) (sym back)
              ∙ ap (λ (x : Sector). Some x) value;
        };
      }

  data_write : (f : Flight) (id number : ℕ) (out : IsDataOut core f id number) → is_write out.request.request.ask ≡ true → IsDataFlight v core.descriptor.mib f
  data_write f id number out writes =
      let seen = tied.sees.queue.requests out.place out.request out.there in
      let parts = data_parts f id number out seen.0 writes seen.1 seen.2 in
      record { place = place_of out.request.request.id; req = seen.0; started = parts.started; copy = out.aim.pp; flies = parts.flies; aimed = parts.aimed; transfer = parts.transfer }

  data_owned : (f : Flight) (id number : ℕ) → IsDataOut core f id number → IsOwned v core.descriptor.mib tied.write f
  data_owned f id number out = by (is_write out.request.request.ask) refl
    where
      by : (w : Bool) → is_write out.request.request.ask ≡ w → IsOwned v core.descriptor.mib tied.write f
      by false reads = inl (out.moves.write ∙ reads)
      by true writes = inr (inl (data_write f id number out writes))

  note_owned : (f : Flight) (disk : ℕ) → IsNoteOut core f disk → IsOwned v core.descriptor.mib tied.write f
  note_owned f disk out = by (v.flying_note disk) refl (subst (λ o. SeesNote (v.flying_note disk) o) out.flies (tied.sees.notes.flying disk))
    where
      by : (n : Option Groups) → v.flying_note disk ≡ n → SeesNote (v.flying_note disk) (Some out.items) → IsOwned v core.descriptor.mib tied.write f
      by None is sees = absurd (subst (λ n. SeesNote n (Some out.items)) is sees)
      by (Some note) is sees =
          let named : (lv g : ℕ) → note lv g ≡ names_group out.items.items lv g = subst (λ n. SeesNote n (Some out.items)) is sees in
          inr (inr (inr (inl (record {
            write = out.write;
            first = out.first;
            count = out.count;
            note = note;
            flies = ap v.flying_note out.disk_is ∙ is;
            sector = out.sector;
            carries = out.carries;
            names = λ lv g. out.names lv g ∙ sym (named lv g);
          }))))

  status_owned : (f : Flight) (disk : ℕ) → IsOfUpdateOut core tied.write f disk → IsOwned v core.descriptor.mib tied.write f
  status_owned f disk out = inr (inr (inr (inr (by tied.write out))))
    where
      by : (w : Option RecordWrite) → IsOfUpdateOut core w f disk → IsOfUpdate v w f
      by None is = is
      by (Some w) is = record {
        write = is.write;
        flies = tied.sees.status.started f.disk ∙ ap (has core.status.writes.started) is.disk_is ∙ is.started;
        target = ap w.targets is.disk_is ∙ is.target;
        first = is.first ∙ ap (λ d. slot_start w.kind (w.slots d)) (sym is.disk_is);
        count = is.count;
        carries = is.carries;
      }

  copy_owned : (f : Flight) → IsCopyOut core f → CarriesStep core v f owner.Copy → IsOwned v core.descriptor.mib tied.write f
  copy_owned f out carries = by out.copy.step refl out.out
    where
      by : (st : Step) → out.copy.step ≡ st → StepIsOut core out.copy st f → IsOwned v core.descriptor.mib tied.write f
      by step.Idle is none = absurd none
      by (step.Read buf) is none = absurd none
      by (step.Reading source) is reads = inl reads.write_is
      by step.Writing is writes =
          let row : has_row core out.copy ≡ true = ap (λ (st : Step). is_out st || (is_running out.copy && not (is_whole core out.copy))) is in
          let seen = tied.sees.queue.a_step out.copy out.is_open row in
          let q : Queued = seen.0 in
          let hand = subst (λ (st : Step). SeesHand st q) is seen.2.hand in
          let theirs = carries out.copy q out.is_open is seen.1 in
          let past : IsTrue (is_past q.phase) = ap is_past hand.0 in
          inr (inr (inl (record {
            step = record { target = out.copy.pp; place = out.copy.place };
            flies = tied.sees.step_write ∙ ap (λ (c : Option OpenCopy). step_write_in c) out.is_open ∙ ap (step_write_of out.copy) is;
            req = q;
            there = seen.1;
            read = seen.2.write;
            past = past;
            value = theirs.0;
            got = theirs.1;
            aimed = (λ t. v.is_copy (seen.2.lv t) (seen.2.first t) out.copy.pp) ∙ (tied.copy_aimed out.copy out.is_open row).0;
            transfer = record {
              write = writes.write_is;
              disk = writes.disk_is;
              first = writes.first ∙ ap (sector_of core.descriptor.mib out.copy.pp.pp) (sym seen.2.first);
              count = writes.count ∙ sym seen.2.count;
              carries = λ k lt. theirs.2 k (let e : q.count ≡ 256 = seen.2.count in omega arith);
            };
          })))

  one_owned : (f : Flight) (o : Owner) → IsOut core tied.write f o → CarriesStep core v f o → IsOwned v core.descriptor.mib tied.write f
  one_owned f (owner.Data id number) out carries = data_owned f id number out
  one_owned f (owner.Status disk) out carries = status_owned f disk out
  one_owned f (owner.Note disk) out carries = note_owned f disk out
  one_owned f owner.Copy out carries = copy_owned f out carries

  all_owned : (fs : List Flight) (rows : List Flown) → AreOut core tied.write fs rows → CarryTheirs core v fs rows → AllOwned v core.descriptor.mib tied.write fs
  all_owned [] rows out carry = tt
  all_owned (f ∷ fs) [] out carry = absurd out
  all_owned (f ∷ fs) (row ∷ rows) out carry = (one_owned f row.owner out.1 carry.0, all_owned fs rows out.2 carry.1)

pub tied_owns : TiedOwns
tied_owns past s tied = all_owned past s tied s.device.flights s.core.flying (out_of s tied.write tied.orderly tied.notes) tied.carry

-- ---- the moments

pub tied_matches : (past : List Fact) (s : State) (tied : IsTied past s) → Matches tied.view tied.view.facts s.core.descriptor (update_of s.core.status) s.device tied.media
tied_matches past s tied = record {
  told = tied.setting.told;
  describes = tied.describes;
  out = owners_have_out tied.view tied.view.facts s.core.descriptor tied.write (update_of s.core.status) s.device tied.media (valid_of s tied.write tied.orderly) tied.good.sound.tied tied.describes.volumes (tied_owns past s tied) tied.since;
}

tied_holds : (past : List Fact) (s : State) → IsTied past s → HistoryHolds past (moment_of s)
tied_holds past s tied = record {
  legal = subst Legal tied.sees.facts tied.good.told.legal;
  kept = λ image may. subst (Kept (contents_of image)) tied.sees.facts
      (images_kept tied.votes tied.view s.core.descriptor (update_of s.core.status) s.device tied.media image tied.setting.are_votes tied.good (tied_matches past s tied) may);
}

pub good_upholds : GoodUpholds
good_upholds run first s on good past begins = tied_holds past s (good on past begins)

same_moment : (old new : State) → new.device ≡ old.device → new.core.history.facts ≡ old.core.history.facts → moment_of new ≡ moment_of old
same_moment old new device facts = λ t. record { device = device t; facts = facts t }

pub good_goes_on : GoodGoesOn
good_goes_on = record {
  still = λ run first old new device facts keeps. subst (λ (m : Moment). Keeps run first m) (sym (same_moment old new device facts)) keeps;
  steps = λ run first old new on good step facts keeps. Then keeps (Moves step facts) (good_upholds run first new on good);
  enters = λ run first old new f on good device facts keeps. Then keeps (Enters f device facts) (good_upholds run first new on good);
}
