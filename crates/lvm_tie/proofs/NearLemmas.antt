-- The open copy ends: its step leaves the queue, where no transfer of it is out.
use Rattle.std.proofs.Common.{◌≡◌, inl, inr, ⊎_elim, ℕ, Bool, true, false, ◌&&◌, ◌==◌, not, eq-eqb, List, [], ◌∷◌, ◌++◌, Option, Some, None, refl, sym, ap, subst, ◌∙◌, arith}
use Rattle.std.specs.Prelude.{IsTrue, if◌then◌else◌, slice_get}
use Rattle.std.specs.Option.{option_map_or}
use Rattle.std.proofs.lemmas.Bool.{cases_eq}
use Rattle.std.proofs.lemmas.Bool.Decides.{nat_tests}
use Rattle.std.proofs.lemmas.Option.{same_Some}
use Rattle.lvm_num.specs.declared.place.Pp.{Pp}
use Rattle.lvm_num.proofs.Booleans.{clash_gives}
use Rattle.lvm_vol.specs.Facts.{Fact, Taken}
use Rattle.lvm_num.specs.Record.{Stamped}
use Rattle.lvm_disk.specs.Device.{Flight, Device, image_of}
use Rattle.lvm_kept.specs.Contents.{contents_of}
use Rattle.lvm_hold.specs.Waiting.{without}
use Rattle.lvm_status.specs.Update.{Stored}
use Rattle.lvm_session.specs.declared.open.Open.{Open}
use Rattle.lvm_session.specs.declared.bringing.OpenCopy.{OpenCopy}
use Rattle.lvm_session.specs.declared.bringing.Step.{Step}
use Rattle.lvm_session.specs.declared.bringing.Step.TheVariants as step
use Rattle.lvm_session.specs.declared.bringing.CopyEnd.{CopyEnd}
use Rattle.lvm_session.specs.declared.flown.Owner.{Owner}
use Rattle.lvm_session.specs.declared.flown.Owner.TheVariants as owner
use Rattle.lvm_session.specs.State.{Core, state}
use Rattle.lvm_session.specs.Judging.{is_running, place_of, is_missing}
use Rattle.lvm_session.specs.Bringing.{after_copy_end, block_at, copy_ends, end_by_sources, end_of, ends_if, hand_of, has_row, is_cleared, is_out, is_whole, with_back, with_end}
use Rattle.lvm_session.specs.declared.bringing.CopyEnd.TheVariants as ending
use Rattle.lvm_invariant.specs.State.{Marks, ModelCopy, Queued, ModelState, has_landed}
use Rattle.lvm_invariant.specs.Good.{Good}
use Rattle.lvm_invariant.specs.EndStep.{EndsStep}
use Rattle.lvm_invariant.specs.Take.{TakesAnswerOf, taken}
use Rattle.lvm_invariant.specs.Updates.{land, with_req}
use Rattle.lvm_invariant.specs.Events.{EndStep, Take}
use Rattle.lvm_invariant.proofs.EventsLemmas.Each.{each_keeps}
use Rattle.lvm_crash.specs.Session.{Describes}
use Rattle.lvm_crash.proofs.RecordsLemmas.Quiet.{quiet_lasts}
use Rattle.lvm_tie.proofs.OutLemmas.Ties.{carry_on}
use Rattle.lvm_tie.proofs.AmongLemmas.{or_true}
use Rattle.lvm_tie.specs.Out.{CarriesStep}
use Rattle.lvm_tie.specs.Seen.{IsRequestAt, IsStepAt, Sees, SeesHand, SeesStep, step_write_in, step_write_of, update_of}
use Rattle.lvm_tie.specs.Tied.{HoldsRecords, IsOrderly, IsTied}
use Rattle.lvm_tie.specs.Near.{IsNear, IsRunning, NearTies}
use Rattle.lvm_tie.proofs.SeenLemmas.Beside.{open_beside}

-- a copy that the state as a whole makes end runs
pub ends_running : (core : Core) (how : CopyEnd) → copy_ends core ≡ Some how → IsRunning core
ends_running core how is = by core.copy refl is
  where
    runs : (c : OpenCopy) (b : Bool) → is_running c ≡ b
        → (if not b then None else if is_missing core c.pp.disk then Some ending.SyncFailed else if is_whole core c then ends_if (is_cleared core c) ending.Done else end_by_sources core c) ≡ Some how → is_running c ≡ true
    runs c true its h = its
    runs c false its h = absurd (cc h)

    by : (m : Option OpenCopy) → core.copy ≡ m → option_map_or (end_of core) m None ≡ Some how → IsRunning core
    by None there h = absurd (cc h)
    by (Some c) there h = record { copy = c; is_open = there; runs = runs c (is_running c) refl h }

-- its end and the status are apart
pub with_end_status : (core : Core) (how : Option CopyEnd) (status : Stored) → record (with_end core how) { status = status } ≡ with_end (record core { status = status }) how
with_end_status core None status = refl
with_end_status core (Some how) status = by core.copy
  where
    by : (m : Option OpenCopy) → record (option_map_or (λ (c : OpenCopy). after_copy_end core c how) m core) { status = status } ≡ option_map_or (λ (c : OpenCopy). after_copy_end (record core { status = status }) c how) m (record core { status = status })
    by None = refl
    by (Some c) = refl

-- ---- what its step was about

-- what isn't out hasn't landed
unlanded : (s : Step) (q : Queued) → is_out s ≡ false → SeesHand s q → has_landed q.phase ≡ false
unlanded step.Idle q out hand = hand.0
unlanded (step.Reading source) q out hand = absurd (cc out)
unlanded (step.Read buf) q out hand = ap has_landed hand.0
unlanded step.Writing q out hand = absurd (cc out)

pub no_write : (c : OpenCopy) (s : Step) → is_out s ≡ false → step_write_of c s ≡ None
no_write c step.Idle out = refl
no_write c (step.Reading source) out = absurd (cc out)
no_write c (step.Read buf) out = refl
no_write c step.Writing out = absurd (cc out)

same_write : (c d : OpenCopy) (s : Step) → d.pp ≡ c.pp → d.place ≡ c.place → step_write_of d s ≡ step_write_of c s
same_write c d step.Idle pp place = refl
same_write c d (step.Reading source) pp place = refl
same_write c d (step.Read buf) pp place = refl
same_write c d step.Writing pp place = λ t. Some (record { target = pp t; place = place t })

-- ---- its end

module _ (past : List Fact) (device : Device) (core : Core) (how : CopyEnd) (near : IsNear past device core (Some how)) (its : IsRunning core) where
  abbrev c : OpenCopy
  c = its.copy

  abbrev v : ModelState
  v = near.view

  none : v.open_copy ≡ None
  none = near.ended

  own : (d : OpenCopy) → core.copy ≡ Some d → d ≡ c
  own d is = same_Some d c (sym is ∙ its.is_open)

  -- ---- where its transfer is out

  abbrev c_out : OpenCopy
  c_out = record c { end = Some how }

  abbrev core_out : Core
  core_out = record core { copy = Some c_out; pool = with_back core.pool (hand_of c.step) }

  out_is : is_out c.step ≡ true → with_end core (Some how) ≡ core_out
  out_is out =
      ap (λ (m : Option OpenCopy). option_map_or (λ (d : OpenCopy). after_copy_end core d how) m core) its.is_open
      ∙ ap (λ (b : Bool). record core { copy = Some (record c { step = if b then c.step else step.Idle; end = Some how }); queue = if b then core.queue else record core.queue { rows = without c.place core.queue.rows }; pool = with_back core.pool (hand_of c.step) }) out

  row_out : is_out c.step ≡ true → has_row core c ≡ true
  row_out out = or_true (is_out c.step) (is_running c && not (is_whole core c)) (inl out)

  write_out : v.step_write ≡ step_write_of c_out c.step
  write_out = near.sees.step_write ∙ ap step_write_in its.is_open ∙ sym (same_write c c_out c.step refl refl)

  sees_out : is_out c.step ≡ true → Sees past core_out v
  sees_out out = record {
    queue = record {
      requests = near.sees.queue.requests;
      a_step = λ d is row.
          let same : c_out ≡ d = same_Some c_out d is in
          let s = near.sees.queue.a_step c its.is_open (row_out out) in
          subst (λ (x : OpenCopy). (q : Queued) × (v.queue x.place ≡ Some q) × SeesStep core_out x q) same
          (s.0, s.1, record { lv = s.2.lv; first = s.2.first; count = s.2.count; write = s.2.write; step = s.2.step; hand = s.2.hand; failed = s.2.failed });
      only = λ j q at. ⊎_elim
          (λ (r : IsRequestAt core j). inl r)
          (λ (r : IsStepAt core j). inr (record { copy = c_out; is_open = refl; row = or_true (is_out c.step) (is_running c_out && not (is_whole core c)) (inl out); its = ap (λ (x : OpenCopy). x.place) (sym (own r.copy r.is_open)) ∙ r.its }))
          (near.sees.queue.only j q at);
      names = near.sees.queue.names;
    };
    facts = near.sees.facts;
    status = near.sees.status;
    notes = near.sees.notes;
    open_copy = none;
    step_write = write_out;
    beside = open_beside core c v.beside near.sees.beside its.is_open;
  }

  carries_out : (g : Flight) (o : Owner) → CarriesStep core v g o → CarriesStep core_out v g o
  carries_out g (owner.Data id number) carried = carried
  carries_out g (owner.Status disk) carried = carried
  carries_out g (owner.Note disk) carried = carried
  carries_out g owner.Copy carried = λ d q is writing at.
      let same : c_out ≡ d = same_Some c_out d is in
      carried c q its.is_open (ap (λ (x : OpenCopy). x.step) same ∙ writing) (ap (λ (x : OpenCopy). v.queue x.place) same ∙ at)

  tied_out : is_out c.step ≡ true → IsOrderly (state device core_out) near.write → IsTied past (state device core_out)
  tied_out out orderly = record {
    votes = near.votes;
    media = near.media;
    setting = near.setting;
    view = v;
    sees = sees_out out;
    good = near.good;
    describes = near.describes;
    write = near.write;
    orderly = orderly;
    since = near.since;
    recorded = near.recorded;
    notes = near.notes;
    copy_aimed = λ d is row.
        subst (λ (x : OpenCopy). IsTrue (v.is_copy x.lv (block_at core x) x.pp) × ((source : Pp) → x.step ≡ step.Reading source → IsTrue (v.is_copy x.lv (block_at core x) source))) (same_Some c_out d is) (near.copy_aimed c its.is_open (row_out out));
    carry = carry_on core core_out v v device.flights core.flying carries_out near.carry;
  }

  -- ---- where it isn't

  abbrev c_in : OpenCopy
  c_in = record c { step = step.Idle; end = Some how }

  abbrev core_in : Core
  core_in = record core { copy = Some c_in; queue = record core.queue { rows = without c.place core.queue.rows }; pool = with_back core.pool (hand_of c.step) }

  in_is : is_out c.step ≡ false → with_end core (Some how) ≡ core_in
  in_is out =
      ap (λ (m : Option OpenCopy). option_map_or (λ (d : OpenCopy). after_copy_end core d how) m core) its.is_open
      ∙ ap (λ (b : Bool). record core { copy = Some (record c { step = if b then c.step else step.Idle; end = Some how }); queue = if b then core.queue else record core.queue { rows = without c.place core.queue.rows }; pool = with_back core.pool (hand_of c.step) }) out

  no_row : (d : OpenCopy) → core_in.copy ≡ Some d → has_row core_in d ≡ true → ⊥
  no_row d is row = let e : ◌≡◌ {A = Bool} false true = ap (has_row core_in) (same_Some c_in d is) ∙ row in cc

  write_in : is_out c.step ≡ false → v.step_write ≡ None
  write_in out = near.sees.step_write ∙ ap step_write_in its.is_open ∙ no_write c c.step out

  carries_in : (w : ModelState) (g : Flight) (o : Owner) → CarriesStep core v g o → CarriesStep core_in w g o
  carries_in w g (owner.Data id number) carried = carried
  carries_in w g (owner.Status disk) carried = carried
  carries_in w g (owner.Note disk) carried = carried
  carries_in w g owner.Copy carried = λ d q is writing at. absurd (let e : step.Idle ≡ step.Writing = ap (λ (x : OpenCopy). x.step) (same_Some c_in d is) ∙ writing in cc)

  -- so it is tied, if the state sees it so
  tied_in : (w : ModelState) → w.committed ≡ v.committed → Sees past core_in w → Good near.votes w → Describes w w.facts core.descriptor (update_of core.status) (contents_of (image_of device.sizes near.media)) → IsOrderly (state device core_in) near.write → IsTied past (state device core_in)
  tied_in w committed sees good describes orderly = record {
    votes = near.votes;
    media = near.media;
    setting = near.setting;
    view = w;
    sees = sees;
    good = good;
    describes = describes;
    write = near.write;
    orderly = orderly;
    since = near.since;
    recorded = subst (λ (m : Stamped Marks). HoldsRecords m.stamp core.descriptor core.origin.table core.status core.homes (image_of device.sizes near.media)) (sym committed) near.recorded;
    notes = near.notes;
    copy_aimed = λ d is row. absurd (no_row d is row);
    carry = carry_on core core_in v w device.flights core.flying (carries_in w) near.carry;
  }

  -- its step had left the queue, since all is copied
  left_before : is_out c.step ≡ false → has_row core c ≡ false → Sees past core_in v
  left_before out none_there = record {
    queue = record {
      requests = near.sees.queue.requests;
      a_step = λ d is row. absurd (no_row d is row);
      only = λ j q at. ⊎_elim
          (λ (r : IsRequestAt core j). inl r)
          (λ (r : IsStepAt core j). clash_gives (has_row core c) (ap (has_row core) (sym (own r.copy r.is_open)) ∙ r.row) none_there)
          (near.sees.queue.only j q at);
      names = near.sees.queue.names;
    };
    facts = near.sees.facts;
    status = near.sees.status;
    notes = near.sees.notes;
    open_copy = none;
    step_write = write_in out;
    beside = open_beside core c v.beside near.sees.beside its.is_open;
  }

  -- it leaves
  module _ (out : is_out c.step ≡ false) (row : has_row core c ≡ true) where
    abbrev i : ℕ
    i = c.place

    abbrev q : Queued
    q = (near.sees.queue.a_step c its.is_open row).0

    at : v.queue i ≡ Some q
    at = (near.sees.queue.a_step c its.is_open row).1

    sees_q : SeesStep core c q
    sees_q = (near.sees.queue.a_step c its.is_open row).2

    abbrev landed : ModelState
    landed = with_req v i (land q)

    abbrev w : ModelState
    w = taken landed i (land q)

    itself : (i == i) ≡ true
    itself = eq-eqb i i refl

    step_ends : EndsStep v i q
    step_ends = record { there = at; step = sees_q.step; unlanded = unlanded c.step q out sees_q.hand }

    takes : TakesAnswerOf landed i (land q)
    takes = record { there = ap (λ b. if b then Some (land q) else v.queue i) itself; landed = refl }

    good_landed : Good near.votes landed
    good_landed = each_keeps near.votes (EndStep i q) v landed (step_ends, refl) near.good

    good_w : Good near.votes w
    good_w = each_keeps near.votes (Take i (land q)) landed w (takes, refl) good_landed

    describes_w : Describes w w.facts core.descriptor (update_of core.status) (contents_of (image_of device.sizes near.media))
    describes_w =
        quiet_lasts near.votes (Take i (land q)) landed w core.descriptor (update_of core.status) (contents_of (image_of device.sizes near.media)) (takes, refl) good_landed tt
        (quiet_lasts near.votes (EndStep i q) v landed core.descriptor (update_of core.status) (contents_of (image_of device.sizes near.media)) (step_ends, refl) near.good tt near.describes refl refl refl)
        refl refl refl

    -- a request has another place
    apart : (place : ℕ) (o : Open) → slice_get core.requests place ≡ Some o → place_of o.request.id ≡ i → ⊥
    apart place o there e =
        let r = near.sees.queue.requests place o there in
        let same : r.0 ≡ q = same_Some r.0 q (sym r.1 ∙ ap v.queue e ∙ at) in
        let no : ◌≡◌ {A = Bool} true false = sym sees_q.step ∙ ap (λ (x : Queued). x.step) (sym same) ∙ r.2.step in
        cc

    elsewhere : (j : ℕ) → (j ≡ i → ⊥) → w.queue j ≡ v.queue j
    elsewhere j ne = let test : (j == i) ≡ false = grind (arith, nat_tests) in ap (λ b. if b then None else if b then Some (land q) else v.queue j) test

    gone : (j : ℕ) → j ≡ i → w.queue j ≡ None
    gone j e = let test : (j == i) ≡ true = grind (arith, nat_tests) in ap (λ b. if b then None else if b then Some (land q) else v.queue j) test

    sees_w : Sees past core_in w
    sees_w = record {
      queue = record {
        requests = λ place o there. let r = near.sees.queue.requests place o there in (r.0, elsewhere (place_of o.request.id) (apart place o there) ∙ r.1, r.2);
        a_step = λ d is there. absurd (no_row d is there);
        only = λ j p here. elim (cases_eq j i) [
          | inl e ↦ absurd (let no : None ≡ Some p = sym (gone j e) ∙ here in cc)
          | inr ne ↦ ⊎_elim
              (λ (r : IsRequestAt core j). inl r)
              (λ (r : IsStepAt core j). absurd (ne (sym r.its ∙ ap (λ (x : OpenCopy). x.place) (own r.copy r.is_open))))
              (near.sees.queue.only j p (sym (elsewhere j ne) ∙ here))
        ];
        names = near.sees.queue.names;
      };
      facts = ap (λ b. if b then v.facts else v.facts ++ Taken (v.name i) ∷ []) sees_q.step ∙ near.sees.facts;
      status = near.sees.status;
      notes = near.sees.notes;
      open_copy = none;
      step_write = write_in out;
      beside = open_beside core c v.beside near.sees.beside its.is_open;
    }

  pub ended_ties : IsOrderly (state device (with_end core (Some how))) near.write → IsTied past (state device (with_end core (Some how)))
  ended_ties orderly = by (is_out c.step) (has_row core c) refl refl
    where
      by : (b r : Bool) → is_out c.step ≡ b → has_row core c ≡ r → IsTied past (state device (with_end core (Some how)))
      by true r out row = subst (λ (x : Core). IsTied past (state device x)) (sym (out_is out)) (tied_out out (subst (λ (x : Core). IsOrderly (state device x) near.write) (out_is out) orderly))
      by false false out row = subst (λ (x : Core). IsTied past (state device x)) (sym (in_is out)) (tied_in v refl (left_before out row) near.good near.describes (subst (λ (x : Core). IsOrderly (state device x) near.write) (in_is out) orderly))
      by false true out row = subst (λ (x : Core). IsTied past (state device x)) (sym (in_is out)) (tied_in (w out row) refl (sees_w out row) (good_w out row) (describes_w out row) (subst (λ (x : Core). IsOrderly (state device x) near.write) (in_is out) orderly))

-- Where the copy that is open ends so, or doesn't end, the session is tied.
pub near_ties : NearTies
near_ties past device core None near runs orderly = record {
  votes = near.votes;
  media = near.media;
  setting = near.setting;
  view = near.view;
  sees = subst (λ (o : Option ModelCopy). Sees past core (record near.view { open_copy = o })) (sym near.ended) near.sees;
  good = near.good;
  describes = near.describes;
  write = near.write;
  orderly = orderly;
  since = near.since;
  recorded = near.recorded;
  notes = near.notes;
  copy_aimed = near.copy_aimed;
  carry = near.carry;
}
near_ties past device core (Some how) near runs orderly = ended_ties past device core how near (runs how refl) orderly
