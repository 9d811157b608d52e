-- The copy that is being brought up changes as its transfer ends, and a tied session with it.
use Rattle.std.proofs.Common.{◌≡◌, ◌⊎◌, inl, inr, ⊎_elim, ℕ, Bool, true, false, ◌&&◌, ◌||◌, not, List, [], ◌∷◌, Option, Some, None, refl, sym, ap, subst, ◌∙◌}
use Rattle.std.specs.Prelude.{IsTrue, slice_get}
use Rattle.std.specs.List.{remove}
use Rattle.std.proofs.lemmas.Bool.{cases_eq}
use Rattle.lvm_num.specs.declared.place.Pp.{Pp}
use Rattle.lvm_num.specs.Buffer.{Buffer, Sector}
use Rattle.lvm_vol.specs.Facts.{Fact, Request as Asked}
use Rattle.lvm_disk.specs.Device.{Flight}
use Rattle.lvm_hold.specs.Waiting.{Waiting}
use Rattle.lvm_session.specs.declared.open.Open.{Open}
use Rattle.lvm_session.specs.declared.bringing.OpenCopy.{OpenCopy}
use Rattle.lvm_session.specs.declared.bringing.Step.{Step}
use Rattle.lvm_session.specs.declared.bringing.Step.TheVariants as step
use Rattle.lvm_session.specs.declared.flown.Flown.{Flown}
use Rattle.lvm_session.specs.declared.flown.Owner.{Owner}
use Rattle.lvm_session.specs.declared.flown.Owner.TheVariants as owner
use Rattle.lvm_session.specs.State.{Core, State, state}
use Rattle.lvm_session.specs.Judging.{is_running, place_of}
use Rattle.lvm_session.specs.Bringing.{block_at, groups_of, has_row, is_out, is_whole}
use Rattle.lvm_session.specs.Ends.{Returns}
use Rattle.lvm_session.specs.Sound.{IsSound}
use Rattle.lvm_invariant.specs.State.{ModelCopy, Queued, ModelState, has_landed}
use Rattle.lvm_invariant.specs.CopyWrite.{copied}
use Rattle.lvm_invariant.specs.Updates.{put, with_block}
use Rattle.lvm_invariant.proofs.UpdatesLemmas.Requests.{put_same}
use Rattle.lvm_tie.specs.Out.{CarriesStep, CarryTheirs}
use Rattle.lvm_tie.specs.Seen.{beside_if, IsRequestAt, IsStepAt, Sees, SeesCopy, SeesOpen, SeesRunning, SeesStep, update_of}
use Rattle.lvm_tie.specs.Tied.{IsTied}
use Rattle.lvm_tie.proofs.StateLemmas.{part_stale}
use Rattle.lvm_tie.proofs.TiedLemmas.Orderly.{orderly_same}
use Rattle.lvm_tie.proofs.OutLemmas.Ended.{HasEnded}
use Rattle.lvm_tie.proofs.StepsLemmas.Leaving.{Stands, copy_over, gone, gone_here, gone_there, put_there, step_left}
use Rattle.lvm_tie.proofs.StepsLemmas.Landed.{HasLanded, at_q, ended, hand, now, out, q, row_there, sees, since}
use Rattle.lvm_tie.proofs.NearLemmas.{no_write}
use Rattle.lvm_tie.proofs.SeenLemmas.Beside.{open_beside}

-- ---- what is seen

-- one that is of the same logical partition, on the same partition, and moves if the other does
pub record IsSameCopy (d c : OpenCopy) : Type 0 where
  pub moves : d.moves ≡ c.moves
  pub lv : d.lv ≡ c.lv
  pub lp : d.lp ≡ c.lp
  pub pp : d.pp ≡ c.pp

-- where requests stay, this is the step that is left, if one is
pub record IsStepped (core : Core) (v : ModelState) (c d : OpenCopy) (queue : ℕ → Option Queued) (name : ℕ → Asked) (open_copy : Option ModelCopy) : Type 0 where
  pub rests : is_out d.step ≡ false
  pub queue_still : (k : ℕ) (p : Open) → slice_get core.requests k ≡ Some p → queue (place_of p.request.id) ≡ v.queue (place_of p.request.id)
  pub name_still : (k : ℕ) (p : Open) → slice_get core.requests k ≡ Some p → name (place_of p.request.id) ≡ v.name (place_of p.request.id)
  pub a_step : has_row core d ≡ true → (q : Queued) × (queue d.place ≡ Some q) × SeesStep core d q
  pub only : (j : ℕ) (q : Queued) → queue j ≡ Some q → ((j ≡ c.place → ⊥) × (v.queue j ≡ Some q)) ⊎ ((has_row core d ≡ true) × (d.place ≡ j))
  pub open_seen : SeesRunning (is_running d) (groups_of core) d open_copy
  -- it is the same copy
  pub same : IsSameCopy d c

module _ (past : List Fact) (core : Core) (v : ModelState) (c d : OpenCopy) (pool : List Bool) (flying : List Flown) (waiting : Waiting) (queue : ℕ → Option Queued) (name : ℕ → Asked) (block : ℕ → ℕ → Pp → Sector) (open_copy : Option ModelCopy)
    (sees_v : Sees past core v) (is : core.copy ≡ Some c) (its : IsStepped core v c d queue name open_copy) where
  abbrev core2 : Core
  core2 = record core { pool = pool; flying = flying; queue = waiting; copy = Some d }

  abbrev w : ModelState
  w = record v { queue = queue; name = name; media = with_block v.media block; open_copy = open_copy; step_write = None }

  step_of_it : (r : has_row core d ≡ true) → (x : Queued) × (queue d.place ≡ Some x) × SeesStep core2 d x
  step_of_it r = its.a_step r

  step_here : (e : OpenCopy) → d ≡ e → has_row core e ≡ true → (x : Queued) × (queue e.place ≡ Some x) × SeesStep core2 e x
  step_here e same r = subst (λ (y : OpenCopy). (x : Queued) × (queue y.place ≡ Some x) × SeesStep core2 y x) same (step_of_it (subst (λ (y : OpenCopy). has_row core y ≡ true) (sym same) r))

  pub sees_stepped : Sees past core2 w
  sees_stepped = record {
    queue = record {
      requests = λ k p at. let s = sees_v.queue.requests k p at in (s.0, its.queue_still k p at ∙ s.1, s.2);
      a_step = λ e there r. step_here e (let k : Some d ≡ Some e = there in cc) r;
      only = λ j x at. ⊎_elim
          (λ (was : (j ≡ c.place → ⊥) × (v.queue j ≡ Some x)). ⊎_elim
          (λ (r : IsRequestAt core j). inl r)
          (λ (r : IsStepAt core j). let own : r.copy ≡ c = (let e : Some r.copy ≡ Some c = sym r.is_open ∙ is in cc) in absurd (was.0 (sym r.its ∙ ap (λ (y : OpenCopy). y.place) own)))
          (sees_v.queue.only j x was.1))
          (λ (here : (has_row core d ≡ true) × (d.place ≡ j)). inr (record { copy = d; is_open = refl; row = here.0; its = here.1 }))
          (its.only j x at);
      names = λ k p at. its.name_still k p at ∙ sees_v.queue.names k p at;
    };
    facts = sees_v.facts;
    status = sees_v.status;
    notes = sees_v.notes;
    open_copy = its.open_seen;
    step_write = sym (no_write d d.step its.rests);
    beside = open_beside core c v.beside sees_v.beside is ∙ sym (λ t. beside_if (its.same.moves t) core (record c { lv = its.same.lv t; lp = its.same.lp t; pp = its.same.pp t }));
  }

-- the copy goes on with the same track groups behind it
running_on : (b : Bool) (groups : ℕ) (c : OpenCopy) (st : Step) (tried : ℕ) (open_copy : Option ModelCopy) → SeesRunning b groups c open_copy → SeesRunning b groups (record c { step = st; tried = tried }) open_copy
running_on true groups c st tried open_copy sees = record { copy = sees.copy; is_open = sees.is_open; target = sees.target; passed = sees.passed }
running_on false groups c st tried open_copy sees = sees

-- what its transfer carried is carried no more
pub carry_none : (core : Core) (v : ModelState) (d : OpenCopy) (fs : List Flight) (rows : List Flown) → core.copy ≡ Some d → is_out d.step ≡ false → CarryTheirs core v fs rows
carry_none core v d [] rows is rests = tt
carry_none core v d (f ∷ fs) [] is rests = tt
carry_none core v d (f ∷ fs) (row ∷ rows) is rests = (by row.owner, carry_none core v d fs rows is rests)
  where
    by : (who : Owner) → CarriesStep core v f who
    by (owner.Data id n) = tt
    by (owner.Status disk) = tt
    by (owner.Note disk) = tt
    by owner.Copy = λ e x at writing. absurd (let own : d ≡ e = (let k : Some d ≡ Some e = sym is ∙ at in cc) in let no : false ≡ true = sym rests ∙ ap (λ (y : OpenCopy). is_out y.step) own ∙ ap is_out writing in cc)

-- ---- the tie

module _ (past : List Fact) (old new : State) (at : ℕ) (row : Flown) (ok : Bool) (buf : Buffer) (tied : IsTied past old) (returns : Returns old new at row ok buf) (own : row.owner ≡ owner.Copy)
    (c : OpenCopy) (is_open : old.core.copy ≡ Some c) where
  abbrev core : Core
  core = old.core

  abbrev v : ModelState
  v = tied.view

  abbrev i : ℕ
  i = c.place

  abbrev step_q : Queued
  step_q = q past old new at row ok buf tied returns own c is_open

  abbrev sees_q : SeesStep old.core c (q past old new at row ok buf tied returns own c is_open)
  sees_q = sees past old new at row ok buf tied returns own c is_open

  abbrev its_ended : HasEnded old.device new.device row.ticket ok buf tied.media
  its_ended = ended past old new at row ok buf tied returns own c is_open

  -- the places of requests aren't its
  pub apart : (k : ℕ) (p : Open) → slice_get old.core.requests k ≡ Some p → place_of p.request.id ≡ c.place → ⊥
  apart k p there e =
      let b = tied.sees.queue.requests k p there in
      let same : step_q ≡ b.0 = (let x : Some step_q ≡ Some b.0 = sym (at_q past old new at row ok buf tied returns own c is_open) ∙ ap v.queue (sym e) ∙ b.1 in cc) in
      let no : ◌≡◌ {A = Bool} true false = sym sees_q.step ∙ ap (λ (x : Queued). x.step) same ∙ b.2.step in
      cc

  -- it has not landed
  pub going : has_landed (q past old new at row ok buf tied returns own c is_open).phase ≡ false
  going = by c.step refl (out past old new at row ok buf tied returns own c is_open)
    where
      by : (st : Step) → c.step ≡ st → Rattle.lvm_tie.proofs.TiedLemmas.Orderly.StepIsOut old.core c st (ended past old new at row ok buf tied returns own c is_open).flight → has_landed (q past old new at row ok buf tied returns own c is_open).phase ≡ false
      by step.Idle is none = absurd none
      by (step.Reading source) is flies = ap has_landed (hand past old new at row ok buf tied returns own c is_open (step.Reading source) is).0
      by (step.Read b) is none = absurd none
      by step.Writing is flies = ap has_landed (hand past old new at row ok buf tied returns own c is_open step.Writing is).0

  -- the open copy is stale by what is wanted until it is whole
  pub wanted_stale : is_running c ≡ true → is_whole old.core c ≡ false → (o : ModelCopy) → tied.view.open_copy ≡ Some o → IsTrue (tied.view.wanted.stale o.target)
  wanted_stale runs part o opened =
      let seen : SeesOpen (groups_of core) c v.open_copy = subst (λ (b : Bool). SeesRunning b (groups_of core) c v.open_copy) runs (subst (λ (m : Option OpenCopy). SeesCopy (groups_of core) m v.open_copy) is_open tied.sees.open_copy) in
      let same : seen.copy ≡ o = (let x : Some seen.copy ≡ Some o = sym seen.is_open ∙ opened in cc) in
      subst (λ (p : Pp). IsTrue (v.wanted.stale p)) (sym seen.target ∙ ap (λ (x : ModelCopy). x.target) same) (part_stale past old tied c is_open runs part).1

  module _ (d : OpenCopy) (pool : List Bool) (waiting : Waiting) where
    abbrev new_core : Core
    new_core = record old.core { pool = pool; flying = remove old.core.flying at; queue = waiting; copy = Some d }

    -- Where a good state describes what stands that is seen so, the session is tied.
    pub stepped_ties : (oc : Option ModelCopy) (landed : HasLanded past old new at row ok buf tied returns own c is_open oc) (open_copy : Option ModelCopy) (queue : ℕ → Option Queued) (name : ℕ → Asked)
        → IsStepped old.core tied.view c d queue name open_copy
        → Stands tied.votes old.core.descriptor (update_of old.core.status) (now past old new at row ok buf tied returns own c is_open)
        (record (copied tied.view landed.block open_copy None) { queue = queue; name = name })
        → (has_row old.core d ≡ true → IsTrue (tied.view.is_copy d.lv (block_at old.core d) d.pp)) → IsSound (state new.device new_core) → IsTied past (state new.device new_core)
    stepped_ties oc landed open_copy queue name its stands aimed sound = record {
      votes = tied.votes;
      media = its_ended.media;
      setting = record {
        are_votes = tied.setting.are_votes;
        told = its_ended.told;
        own = tied.setting.own;
      };
      view = record (copied v landed.block open_copy None) { queue = queue; name = name };
      sees = sees_stepped past core v c d pool (remove core.flying at) waiting queue name landed.block open_copy tied.sees is_open its;
      good = stands.good;
      describes = stands.describes;
      write = tied.write;
      orderly = orderly_same old (state new.device new_core) tied.write tied.orderly sound refl refl refl;
      since = since past old new at row ok buf tied returns own c is_open tied.write (update_of core.status) tied.since;
      recorded = record {
        next = landed.next;
        members = landed.members;
        records = landed.records;
        committed = landed.committed;
      };
      notes = tied.notes;
      copy_aimed = λ e there r. let same : d ≡ e = (let k : Some d ≡ Some e = there in cc) in
          subst (λ (x : OpenCopy). IsTrue (v.is_copy x.lv (block_at core x) x.pp) × ((source : Pp) → x.step ≡ step.Reading source → IsTrue (v.is_copy x.lv (block_at core x) source))) same
          (aimed ((λ t. has_row core (same t)) ∙ r), λ source reads. absurd (let k : true ≡ false = sym (ap is_out reads) ∙ its.rests in cc));
      carry = carry_none new_core (record (copied v landed.block open_copy None) { queue = queue; name = name }) d new.device.flights (remove core.flying at) refl its.rests;
    }

    -- It has ended, or ends with this: its step leaves the queue.
    pub ended_ties : HasLanded past old new at row ok buf tied returns own c is_open tied.view.open_copy → ((o : ModelCopy) → tied.view.open_copy ≡ Some o → IsTrue (tied.view.wanted.stale o.target))
        → is_running d ≡ false → is_out d.step ≡ false → IsSameCopy d c → IsSound (state new.device new_core) → IsTied past (state new.device new_core)
    ended_ties landed stale over rests same sound =
        stepped_ties v.open_copy landed None (gone v.queue i step_q) v.name
        (record {
          rests = rests;
          queue_still = λ k p there. gone_there v.queue i step_q (place_of p.request.id) (apart k p there);
          name_still = λ k p there. refl;
          a_step = λ r. absurd (let e : true ≡ false = sym r ∙ none in cc);
          only = λ j x there. elim (cases_eq j i) [
            | inl e ↦ absurd (let k : Some x ≡ None = sym there ∙ ap (gone v.queue i step_q) e ∙ gone_here v.queue i step_q in cc)
            | inr ne ↦ inl (ne, sym (gone_there v.queue i step_q j ne) ∙ there)
          ];
          open_seen = subst (λ (b : Bool). SeesRunning b (groups_of core) d None) (sym over) refl;
          same = same;
        })
        (step_left tied.votes core.descriptor (update_of core.status) (now past old new at row ok buf tied returns own c is_open) (copied v landed.block None None) i step_q
        (at_q past old new at row ok buf tied returns own c is_open) sees_q.step going
        (copy_over tied.votes core.descriptor (update_of core.status) (now past old new at row ok buf tied returns own c is_open) (copied v landed.block v.open_copy None) stale landed.stands))
        (λ r. absurd (let e : true ≡ false = sym r ∙ none in cc)) sound
      where
        none : has_row old.core d ≡ false
        none = λ t. rests t || (over t && not (is_whole old.core d))

  module _ (st : Step) (tried : ℕ) (pool : List Bool) where
    abbrev d : OpenCopy
    d = record c { step = st; tried = tried }

    abbrev going_core : Core
    going_core = record old.core { pool = pool; flying = remove old.core.flying at; copy = Some d }

    -- It goes on: its step stays in the queue.
    pub going_ties : (landed : HasLanded past old new at row ok buf tied returns own c is_open tied.view.open_copy) (next : Queued) → is_out st ≡ false → has_row old.core d ≡ true → SeesStep old.core d next
        → Stands tied.votes old.core.descriptor (update_of old.core.status) (now past old new at row ok buf tied returns own c is_open) (record (copied tied.view landed.block tied.view.open_copy None) { queue = put tied.view.queue c.place next })
        → IsSound (state new.device going_core) → IsTied past (state new.device going_core)
    going_ties landed next rests row_now seen_step stands sound =
        stepped_ties d pool old.core.queue v.open_copy landed v.open_copy (put v.queue i next) v.name
        (record {
          rests = rests;
          queue_still = λ k p there. put_there v.queue i next (place_of p.request.id) (apart k p there);
          name_still = λ k p there. refl;
          a_step = λ r. (next, put_same v.queue i next, seen_step);
          only = λ j x there. elim (cases_eq j i) [
            | inl e ↦ inr (row_now, sym e)
            | inr ne ↦ inl (ne, sym (put_there v.queue i next j ne) ∙ there)
          ];
          open_seen = running_on (is_running c) (groups_of core) c st tried v.open_copy (subst (λ (m : Option OpenCopy). SeesCopy (groups_of core) m v.open_copy) is_open tied.sees.open_copy);
          same = record { moves = refl; lv = refl; lp = refl; pp = refl };
        })
        stands (λ r. (tied.copy_aimed c is_open (row_there past old new at row ok buf tied returns own c is_open)).0) sound
