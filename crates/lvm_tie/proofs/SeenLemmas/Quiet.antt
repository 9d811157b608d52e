-- At a session to which nothing is out: a good state that has no step of a copy in the queue describes what stands on the media too.
use Rattle.std.proofs.Common.{◌≡◌, ⊎_elim, ℕ, suc, Bool, true, false, ◌&&◌, ◌==◌, if◌then◌else◌, List, [], ◌∷◌, ◌++◌, Option, Some, None, slice_get, refl, sym, ap, subst, ◌∙◌, eq-eqb, eqb-true}
use Rattle.std.specs.Prelude.{count_by}
use Rattle.std.specs.Option.{option_map_or}
use Rattle.std.proofs.lemmas.Map.Keys.{any_passes_from_place}
use Rattle.lvm_num.specs.declared.place.Pp.{Pp}
use Rattle.lvm_num.specs.declared.descriptor.Descriptor.{Descriptor}
use Rattle.lvm_num.specs.declared.status.Status.{Status}
use Rattle.lvm_num.specs.Record.{Stamped}
use Rattle.lvm_vol.specs.Facts.{Fact, Taken}
use Rattle.lvm_disk.specs.Device.{Flight, Device, IsInFlight}
use Rattle.lvm_kept.specs.Contents.{Contents}
use Rattle.lvm_sched.specs.declared.writes.TargetState.{TargetState}
use Rattle.lvm_sched.specs.declared.writes.TargetState.TheVariants as target
use Rattle.lvm_sched.specs.Writes.{is_flying}
use Rattle.lvm_path.specs.declared.target.Target.{Target}
use Rattle.lvm_session.specs.declared.open.Open.{Open}
use Rattle.lvm_session.specs.declared.bringing.OpenCopy.{OpenCopy}
use Rattle.lvm_session.specs.declared.bringing.Step.{Step}
use Rattle.lvm_session.specs.declared.bringing.Step.TheVariants as step
use Rattle.lvm_session.specs.declared.flown.Flown.{Flown}
use Rattle.lvm_session.specs.declared.flown.Owner.{Owner}
use Rattle.lvm_session.specs.declared.flown.Owner.TheVariants as owner
use Rattle.lvm_session.specs.State.{Core, State}
use Rattle.lvm_session.specs.Judging.{place_of}
use Rattle.lvm_session.specs.Bringing.{has_row}
use Rattle.lvm_session.specs.Owners.{AreRows, flies, same_owner, target_flies}
use Rattle.lvm_session.specs.Sound.{IsOn}
use Rattle.lvm_invariant.specs.State.{Flying, Queued, ModelState, has_landed}
use Rattle.lvm_invariant.specs.Updates.{put, without, with_req, land}
use Rattle.lvm_num.specs.Descriptor.{is_pp}
use Rattle.lvm_invariant.specs.Take.{taken}
use Rattle.lvm_invariant.specs.Events.{EndStep, Take}
use Rattle.lvm_invariant.specs.Good.{Good}
use Rattle.lvm_invariant.proofs.EventsLemmas.Each.{each_keeps}
use Rattle.lvm_crash.specs.Session.{Describes}
use Rattle.lvm_crash.specs.Flights.{OnlyUpdateIsOut, Matches}
use Rattle.lvm_tie.specs.Seen.{stage_seen, stage_at, SeesRequest, SeesHand, SeesStep, IsRequestAt, IsStepAt, update_of}
use Rattle.lvm_tie.specs.Tied.{IsTied}
use Rattle.lvm_tie.proofs.TiedLemmas.Tied.{tied_matches}

-- ---- nothing is out

none_out : (core : Core) (rows : List Flown) (flights : List Flight) → AreRows core rows flights → flights ≡ [] → rows ≡ []
none_out core [] fs its none = refl
none_out core (row ∷ rows) [] its none = absurd its
none_out core (row ∷ rows) (f ∷ fs) its none = absurd (cc none)

flying_seen : (x : TargetState) → stage_seen x ≡ Flying → is_flying x ≡ true
flying_seen target.Waiting e = absurd (cc e)
flying_seen target.Flying e = refl
flying_seen target.Done e = absurd (cc e)
flying_seen target.Failed e = absurd (cc e)

flying_at : (ts : List Target) (c : Pp) → stage_at ts c ≡ Some Flying → (n : ℕ) × (t : Target) × (slice_get ts n ≡ Some t) × (is_flying t.state ≡ true)
flying_at [] c e = absurd (cc e)
flying_at (t ∷ ts) c e = by (is_pp c t.pp) e (flying_at ts c)
  where
    by : (b : Bool) → (if b then Some (stage_seen t.state) else stage_at ts c) ≡ Some Flying
        → (stage_at ts c ≡ Some Flying → (n : ℕ) × (u : Target) × (slice_get ts n ≡ Some u) × (is_flying u.state ≡ true)) → (n : ℕ) × (u : Target) × (slice_get (t ∷ ts) n ≡ Some u) × (is_flying u.state ≡ true)
    by true e rest = (0, t, refl, flying_seen t.state (let same : stage_seen t.state ≡ Flying = cc e in same))
    by false e rest = let r = rest e in (suc r.0, r.1, r.2, r.3)

unlanded_hand : (st : Step) (q : Queued) → SeesHand st q → has_landed q.phase ≡ false
unlanded_hand step.Idle q hand = hand.0
unlanded_hand (step.Reading source) q hand = ap has_landed hand.0
unlanded_hand (step.Read buf) q hand = ap has_landed hand.0
unlanded_hand step.Writing q hand = ap has_landed hand.0

module _ (past : List Fact) (s : State) (tied : IsTied past s) where
  abbrev v : ModelState
  v = tied.view

  abbrev core : Core
  core = s.core

  on : IsOn s
  on = tied.orderly.sound.on tied.orderly.on

  same_row : {X : Type 0} (a b : X) → Some a ≡ Some b → a ≡ b
  same_row a b e = cc

  no_one : {X : Type 0} → ◌≡◌ {A = Bool} true false → X
  no_one e = absurd (cc e)

  -- ---- without the step

  -- the state with this queue, in which each is a request of the table
  pub record Quieted : Type 0 where
    pub queue : ℕ → Option Queued
    pub good : Good tied.votes (record v { queue = queue })
    pub sees : (k : ℕ) (o : Open) → slice_get core.requests k ≡ Some o → (q : Queued) × (queue (place_of o.request.id) ≡ Some q) × SeesRequest o q
    pub only : (i : ℕ) (q : Queued) → queue i ≡ Some q → IsRequestAt core i

  -- no step has a row
  as_it_is : ((i : ℕ) → IsStepAt core i → ⊥) → Quieted
  as_it_is none = record {
    queue = v.queue;
    good = tied.good;
    sees = tied.sees.queue.requests;
    only = λ i q at. ⊎_elim (λ (r : IsRequestAt core i). r) (λ (st : IsStepAt core i). absurd (none i st)) (tied.sees.queue.only i q at);
  }

  module _ (c : OpenCopy) (is_open : core.copy ≡ Some c) (row : has_row core c ≡ true) where
    abbrev q : Queued
    q = (tied.sees.queue.a_step c is_open row).0

    there : v.queue c.place ≡ Some q
    there = (tied.sees.queue.a_step c is_open row).1

    its : SeesStep core c q
    its = (tied.sees.queue.a_step c is_open row).2

    abbrev left : ℕ → Option Queued
    left = without (put v.queue c.place (land q)) c.place

    ended : Good tied.votes (with_req v c.place (land q))
    ended = each_keeps tied.votes (EndStep c.place q) v (with_req v c.place (land q)) (record { there = there; step = its.step; unlanded = unlanded_hand c.step q its.hand }, refl) tied.good

    here : put v.queue c.place (land q) c.place ≡ Some (land q)
    here = ap (λ b. if b then Some (land q) else v.queue c.place) (eq-eqb c.place c.place refl)

    gone : Good tied.votes (taken (with_req v c.place (land q)) c.place (land q))
    gone = each_keeps tied.votes (Take c.place (land q)) (with_req v c.place (land q)) (taken (with_req v c.place (land q)) c.place (land q)) (record { there = here; landed = refl }, refl) ended

    good_left : Good tied.votes (record v { queue = left })
    good_left = subst (λ b. Good tied.votes (record v { queue = left; facts = if b then v.facts else v.facts ++ Taken (v.name c.place) ∷ [] })) its.step gone

    elsewhere : (j : ℕ) → (j == c.place) ≡ false → left j ≡ v.queue j
    elsewhere j other = ap (λ b. if b then None else (if b then Some (land q) else v.queue j)) other

    apart : (k : ℕ) (o : Open) → slice_get core.requests k ≡ Some o → (b : Bool) → (place_of o.request.id == c.place) ≡ b → b ≡ false
    apart k o at false is = refl
    apart k o at true is =
        let r = tied.sees.queue.requests k o at in
        let same : r.0 ≡ q = same_row r.0 q (sym r.1 ∙ ap v.queue (eqb-true (place_of o.request.id) c.place is) ∙ there) in
        no_one (sym its.step ∙ ap (λ (x : Queued). x.step) (sym same) ∙ r.2.step)

    without_step : Quieted
    without_step = record {
      queue = left;
      good = good_left;
      sees = λ k o at. let r = tied.sees.queue.requests k o at in (r.0, elsewhere (place_of o.request.id) (apart k o at (place_of o.request.id == c.place) refl) ∙ r.1, r.2);
      only = λ i x at. by i x at (i == c.place) refl;
    }
      where
        by : (i : ℕ) (x : Queued) → left i ≡ Some x → (b : Bool) → (i == c.place) ≡ b → IsRequestAt core i
        by i x at true is = absurd (let e : None ≡ Some x = sym (ap (λ b. if b then None else put v.queue c.place (land q) i) is) ∙ at in cc)
        by i x at false is = ⊎_elim
            (λ (r : IsRequestAt core i). r)
            (λ (st : IsStepAt core i).
            let same : st.copy ≡ c = same_row st.copy c (sym st.is_open ∙ is_open) in
            no_one (sym (eq-eqb i c.place (sym st.its ∙ ap (λ (x : OpenCopy). x.place) same)) ∙ is))
            (tied.sees.queue.only i x (sym (elsewhere i is) ∙ at))

  pub quieted : Quieted
  quieted = by core.copy refl
    where
      of : (c : OpenCopy) → core.copy ≡ Some c → (b : Bool) → has_row core c ≡ b → Quieted
      of c is true row = without_step c is row
      of c is false none = as_it_is (λ i st. let same : st.copy ≡ c = same_row st.copy c (sym st.is_open ∙ is) in no_one (sym st.row ∙ ap (has_row core) same ∙ none))

      by : (m : Option OpenCopy) → core.copy ≡ m → Quieted
      by None is = as_it_is (λ i st. let e : None ≡ Some st.copy = sym is ∙ st.is_open in absurd (cc e))
      by (Some c) is = of c is (has_row core c) refl

  -- ---- it describes what stands

  module _ (queue : ℕ → Option Queued) where
    abbrev w : ModelState
    w = record v { queue = queue }

    same_describes : (facts : List Fact) (group : Descriptor) (in_flight : Option (Stamped Status)) (c : Contents) → Describes v facts group in_flight c → Describes w facts group in_flight c
    same_describes facts group in_flight c d = record {
      stands = d.stands;
      volumes = record { copies = d.volumes.copies; free = d.volumes.free; inside = d.volumes.inside; some = d.volumes.some; notes = d.volumes.notes; mark = d.volumes.mark; modes = d.volumes.modes; history = d.volumes.history };
      shown = record {
        blocks = d.shown.blocks;
        names = d.shown.names;
        status = d.shown.status;
        statuses = record { same = d.shown.statuses.same; own = d.shown.statuses.own; once = d.shown.statuses.once; new = d.shown.statuses.new };
      };
      raw = d.raw;
    }

    same_updates : (device : Device) (u : Option (Stamped Status)) → OnlyUpdateIsOut v device u → OnlyUpdateIsOut w device u
    same_updates device None out = out
    same_updates device (Some u) out = record { write = out.write; is_status = out.is_status; stamp = out.stamp; began = out.began; may = out.may; way = out.way; flying = out.flying }

    pub quiet_matches : s.device.flights ≡ [] → Matches w w.facts core.descriptor (update_of core.status) s.device tied.media
    quiet_matches idle =
        let matches = tied_matches past s tied in
        record {
          told = matches.told;
          describes = same_describes v.facts core.descriptor (update_of core.status) _ matches.describes;
          out = record {
            blocks = λ lv b p value copy is. absurd (none (p.disk) _ value is);
            notes = matches.out.notes;
            statuses = same_updates s.device (update_of core.status) matches.out.statuses;
            descriptors = matches.out.descriptors;
            raw = matches.out.raw;
          };
        }
      where
        none : (d at : ℕ) (value : List ℕ) → IsInFlight s.device.flights d at value → ⊥
        none d at value is = subst (λ (fs : List Flight). IsInFlight fs d at value) idle is

  -- ---- no one has a transfer out

  module _ (idle : s.device.flights ≡ []) where
    pub flies_none : (who : Owner) → flies core who ≡ false
    flies_none who = by (flies core who) refl
      where
        flying : core.flying ≡ []
        flying = none_out core core.flying s.device.flights on.rows idle

        by : (b : Bool) → flies core who ≡ b → b ≡ false
        by false is = refl
        by true is =
            let e : ◌≡◌ {A = ℕ} 0 1 = ap (count_by (λ (f : Flown). same_owner who f.owner)) (sym flying) ∙ on.going.owned who ∙ ap (λ b. if b then 1 else 0) is in
            absurd (cc e)

    pub no_data : (q : Quieted) (i : ℕ) (r : Queued) (c : Pp) → q.queue i ≡ Some r → r.targets c ≡ Some Flying → ⊥
    no_data q i r c there flying =
        let at = q.only i r there in
        let one = q.sees at.place at.request at.there in
        let same : one.0 ≡ r = same_row one.0 r (sym one.1 ∙ ap q.queue at.its ∙ there) in
        let t = flying_at at.request.request.targets.items c (sym (one.2.targets c) ∙ ap (λ (x : Queued). x.targets c) same ∙ flying) in
        let own : target_flies t.0 at.request ≡ true = ap (λ (m : Option Target). option_map_or (λ (u : Target). is_flying u.state) m false) t.2 ∙ t.3 in
        let id = at.request.request.id in
        let has : flies core (owner.Data id t.0) ≡ true =
        any_passes_from_place (λ (o : Open). o.request.id == id && target_flies t.0 o) core.requests at.place at.request at.there (ap (λ b. b && target_flies t.0 at.request) (eq-eqb id id refl) ∙ own) in
        no_one (sym has ∙ flies_none (owner.Data id t.0))
