-- The step of the copy that is being brought up goes on, as its transfer starts.
use Rattle.std.proofs.Common.{◌≡◌, inl, inr, ⊎_elim, ℕ, ◌≤◌, Bool, true, false, List, [], ◌∷◌, ◌++◌, Option, Some, refl, sym, ap, subst, ◌∙◌}
use Rattle.std.specs.Prelude.{IsTrue, slice_get}
use Rattle.std.proofs.lemmas.Bool.{cases_eq}
use Rattle.lvm_num.specs.declared.place.Pp.{Pp}
use Rattle.lvm_num.specs.Geometry.{data_start}
use Rattle.lvm_vol.specs.Facts.{Fact}
use Rattle.lvm_num.specs.Record.{Stamped}
use Rattle.lvm_disk.specs.Device.{Device, Flight, image_of}
use Rattle.lvm_disk.specs.Steps.{Starts}
use Rattle.lvm_kept.specs.Contents.{contents_of}
use Rattle.lvm_session.specs.declared.open.Open.{Open}
use Rattle.lvm_session.specs.declared.bringing.OpenCopy.{OpenCopy}
use Rattle.lvm_session.specs.declared.bringing.Step.{Step}
use Rattle.lvm_session.specs.declared.bringing.Step.TheVariants as step
use Rattle.lvm_session.specs.declared.flown.Flown.{Flown}
use Rattle.lvm_session.specs.declared.flown.Owner.{Owner}
use Rattle.lvm_session.specs.declared.flown.Owner.TheVariants as owner
use Rattle.lvm_session.specs.State.{Core, State, state}
use Rattle.lvm_session.specs.Judging.{is_running, place_of}
use Rattle.lvm_session.specs.Bringing.{block_at, groups_of, has_row, is_out}
use Rattle.lvm_session.specs.Events.{flown}
use Rattle.lvm_session.specs.Sound.{IsSound}
use Rattle.lvm_invariant.specs.State.{Marks, ModelCopy, Queued, ModelState}
use Rattle.lvm_invariant.specs.Good.{Good}
use Rattle.lvm_crash.specs.Session.{Describes}
use Rattle.lvm_even.specs.Members.{members_showing}
use Rattle.lvm_tie.specs.Out.{CarriesStep, CarryTheirs, MayUpdate}
use Rattle.lvm_tie.specs.Seen.{IsRequestAt, IsStepAt, Sees, SeesCopy, SeesRunning, SeesStep, step_write_of, update_of}
use Rattle.lvm_tie.specs.Tied.{IsTied, ShowsRecords, CommittedIsOne}
use Rattle.lvm_tie.proofs.TiedLemmas.Orderly.{AreOut, StepIsOut, open_one, orderly_same, out_of}
use Rattle.lvm_tie.proofs.OutLemmas.Ties.{since_start}
use Rattle.lvm_tie.proofs.SeenLemmas.Beside.{open_beside}

-- ---- the step of the copy goes on

running_on : (b : Bool) (groups : ℕ) (c : OpenCopy) (st : Step) (open_copy : Option ModelCopy) → SeesRunning b groups c open_copy → SeesRunning b groups (record c { step = st }) open_copy
running_on true groups c st open_copy sees = record { copy = sees.copy; is_open = sees.is_open; target = sees.target; passed = sees.passed }
running_on false groups c st open_copy sees = sees

module _ (past : List Fact) (core : Core) (v : ModelState) (c : OpenCopy) (st : Step) (pool : List Bool) (flying : List Flown) (queue : ℕ → Option Queued) (q2 : Queued) (sees : Sees past core v) (is : core.copy ≡ Some c)
    (row : has_row core c ≡ true) (row_now : has_row core (record c { step = st }) ≡ true) (here : queue c.place ≡ Some q2) (elsewhere : (j : ℕ) → (j ≡ c.place → ⊥) → queue j ≡ v.queue j) (its : SeesStep core (record c { step = st }) q2) where
  abbrev c2 : OpenCopy
  c2 = record c { step = st }

  abbrev core2 : Core
  core2 = record core { pool = pool; flying = flying; copy = Some c2 }

  abbrev w : ModelState
  w = record v { queue = queue; step_write = step_write_of c2 st }

  apart : (k : ℕ) (p : Open) → slice_get core.requests k ≡ Some p → place_of p.request.id ≡ c.place → ⊥
  apart k p there e =
      let a = sees.queue.a_step c is row in
      let b = sees.queue.requests k p there in
      let same : a.0 ≡ b.0 = (let x : Some a.0 ≡ Some b.0 = sym a.1 ∙ ap v.queue (sym e) ∙ b.1 in cc) in
      let no : ◌≡◌ {A = Bool} true false = sym a.2.step ∙ ap (λ (x : Queued). x.step) same ∙ b.2.step in
      cc

  pub sees_step_on : Sees past core2 w
  sees_step_on = record {
    queue = record {
      requests = λ k p at. let s = sees.queue.requests k p at in (s.0, elsewhere (place_of p.request.id) (apart k p at) ∙ s.1, s.2);
      a_step = λ d at r. let own : c2 ≡ d = (let e : Some c2 ≡ Some d = at in cc) in
          (q2, ap (λ (x : OpenCopy). queue x.place) (sym own) ∙ here, subst (λ (x : OpenCopy). SeesStep core2 x q2) own its);
      only = λ j q at. elim (cases_eq j c.place) [
        | inl e ↦ inr (record { copy = c2; is_open = refl; row = row_now; its = sym e })
        | inr ne ↦ ⊎_elim
            (λ (r : IsRequestAt core j). inl r)
            (λ (r : IsStepAt core j). let own : r.copy ≡ c = (let e : Some r.copy ≡ Some c = sym r.is_open ∙ is in cc) in absurd (ne (sym r.its ∙ ap (λ (x : OpenCopy). x.place) own)))
            (sees.queue.only j q (sym (elsewhere j ne) ∙ at))
      ];
      names = sees.queue.names;
    };
    facts = sees.facts;
    status = sees.status;
    notes = sees.notes;
    open_copy = running_on (is_running c) (groups_of core) c st v.open_copy (subst (λ (m : Option OpenCopy). SeesCopy (groups_of core) m v.open_copy) is sees.open_copy);
    step_write = refl;
    beside = open_beside core c v.beside sees.beside is;
  }

-- what a start of the copy's changes of the shelf and of what is out
module _ (past : List Fact) (old : State) (device : Device) (c : OpenCopy) (st : Step) (pool : List Bool) (f : Flight) (tied : IsTied past old) (is : old.core.copy ≡ Some c) (starts : Starts old.device device f) (low : data_start ≤ f.first)
    (row : has_row old.core c ≡ true) (not_out : is_out c.step ≡ false) where
  abbrev flown_row : Flown
  flown_row = flown f.ticket f.disk owner.Copy

  abbrev new : Core
  new = record old.core { pool = pool; flying = old.core.flying ++ flown_row ∷ []; copy = Some (record c { step = st }) }

  none_out : (g : Flight) (s : Step) → is_out s ≡ false → StepIsOut old.core c s g → ⊥
  none_out g step.Idle h its = its
  none_out g (step.Reading source) h its = cc h
  none_out g (step.Read buf) h its = its
  none_out g step.Writing h its = cc h

  sizes_is : device.sizes ≡ old.device.sizes
  sizes_is = ap (λ (d : Device). d.sizes) starts.new_is

  module _ (w : ModelState) (carries : CarriesStep new w f owner.Copy) where
    carry_on : (fs : List Flight) (rows : List Flown) → AreOut old.core tied.write fs rows → CarryTheirs new w (fs ++ f ∷ []) (rows ++ flown_row ∷ [])
    carry_on [] [] out = (carries, tt)
    carry_on [] (r ∷ rows) out = absurd out
    carry_on (g ∷ fs) [] out = absurd out
    carry_on (g ∷ fs) (r ∷ rows) out = (by r.owner out.1, carry_on fs rows out.2)
      where
        by : (who : Owner) → Rattle.lvm_tie.proofs.TiedLemmas.Orderly.IsOut old.core tied.write g who → CarriesStep new w g who
        by (owner.Data id n) its = tt
        by (owner.Status disk) its = tt
        by (owner.Note disk) its = tt
        by owner.Copy its = absurd (none_out g c.step not_out (subst (λ (x : OpenCopy). StepIsOut old.core x x.step g) (let e : Some its.copy ≡ Some c = sym its.is_open ∙ is in cc) its.out))

    pub copy_started : Sees past new w → Good tied.votes w → Describes w w.facts old.core.descriptor (update_of old.core.status) (contents_of (image_of old.device.sizes tied.media)) → w.is_copy ≡ tied.view.is_copy → w.committed ≡ tied.view.committed
        → ((source : Pp) → st ≡ step.Reading source → IsTrue (w.is_copy c.lv (block_at old.core c) source)) → IsSound (state device new) → IsTied past (state device new)
    copy_started sees good describes same_copies committed source_aimed sound = record {
      votes = tied.votes;
      media = tied.media;
      setting = record {
        are_votes = tied.setting.are_votes;
        told = ap (λ (d : Device). d.media) starts.new_is ∙ tied.setting.told;
        own = tied.setting.own;
      };
      view = w;
      sees = sees;
      good = good;
      describes = subst (λ (sizes : List ℕ). Describes w w.facts old.core.descriptor (update_of old.core.status) (contents_of (image_of sizes tied.media))) (sym sizes_is) describes;
      write = tied.write;
      orderly = orderly_same old (state device new) tied.write tied.orderly sound refl refl refl;
      since = since_start old.device device f tied.write (update_of old.core.status) starts low tied.since;
      recorded = record {
        next = subst (λ (sizes : List ℕ). MayUpdate old.core.descriptor old.core.status old.core.homes (image_of sizes tied.media)) (sym sizes_is) tied.recorded.next;
        members = λ d member first. subst (λ (sizes : List ℕ). IsTrue (members_showing (contents_of (image_of sizes tied.media)) old.core.descriptor d)) (sym sizes_is) (tied.recorded.members d member first);
        records = subst (λ (sizes : List ℕ). ShowsRecords old.core.descriptor old.core.status (contents_of (image_of sizes tied.media))) (sym sizes_is) tied.recorded.records;
        committed = subst (λ (m : Stamped Marks). CommittedIsOne m.stamp old.core.descriptor old.core.status (contents_of (image_of device.sizes tied.media))) (sym committed)
            (subst (λ (sizes : List ℕ). CommittedIsOne tied.view.committed.stamp old.core.descriptor old.core.status (contents_of (image_of sizes tied.media))) (sym sizes_is) tied.recorded.committed);
      };
      notes = tied.notes;
      copy_aimed = λ d at r. let own : record c { step = st } ≡ d = (let e : Some (record c { step = st }) ≡ Some d = at in cc) in
          subst (λ (x : OpenCopy). IsTrue (w.is_copy x.lv (block_at old.core x) x.pp) × ((source : Pp) → x.step ≡ step.Reading source → IsTrue (w.is_copy x.lv (block_at old.core x) source))) own
          ((λ t. same_copies t c.lv (block_at old.core c) c.pp) ∙ (tied.copy_aimed c is row).0, source_aimed);
      carry = subst (λ (fs : List Flight). CarryTheirs new w fs (old.core.flying ++ flown_row ∷ [])) (sym (ap (λ (d : Device). d.flights) starts.new_is)) (carry_on old.device.flights old.core.flying (out_of old tied.write tied.orderly tied.notes));
    }
