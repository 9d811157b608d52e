-- What is kept at each moment while the descriptor of a move is written, with the history as it is, and with each with which the session may end then.
use Rattle.std.proofs.Common.{◌≡◌, inl, inr, ⊎_elim, ℕ, suc, ◌+◌, ◌≤◌, Bool, true, false, ◌&&◌, ◌||◌, ◌==◌, not, if◌then◌else◌, List, [], ◌∷◌, ◌++◌, Option, Some, None, Ok, is_some, slice_get, refl, sym, ap, subst, ◌∙◌, append_assoc, arith, eq-eqb}
use Rattle.std.specs.Prelude.{IfSome, IsTrue, IsFalse, nat_le, nat_lt}
use Rattle.std.specs.Option.{option_map_or}
use Rattle.std.proofs.lemmas.Bool.{and_parts, cases_Bool}
use Rattle.std.proofs.lemmas.Bool.Decides.{nat_tests}
use Rattle.std.proofs.lemmas.Map.Keys.{any_passes_from_place}
use Rattle.arrayvec.specs.ArrayVec.{ArrayVec}
use Rattle.lvm_num.specs.declared.place.Pp.{Pp}
use Rattle.lvm_num.specs.declared.record.NoteEntry.{NoteEntry}
use Rattle.lvm_num.specs.declared.descriptor.Descriptor.{Descriptor}
use Rattle.lvm_num.specs.declared.status.Status.{Status}
use Rattle.lvm_num.specs.Buffer.{Sector}
use Rattle.lvm_num.specs.Descriptor.{is_pp}
use Rattle.lvm_num.specs.DescriptorBytes.{descriptor_of}
use Rattle.lvm_num.specs.Record.{Stamped}
use Rattle.lvm_num.specs.Votes.{all_disks}
use Rattle.lvm_num.proofs.Booleans.{clash_gives, not_so}
use Rattle.lvm_vol.specs.declared.entry.Vol.TheVariants.{Lv}
use Rattle.lvm_vol.specs.declared.entry.Outcome.TheVariants as outcome
use Rattle.lvm_vol.specs.Facts.{Request as Asked, Fact, Cut, IsInList}
use Rattle.lvm_vol.specs.Legal.{Legal}
use Rattle.lvm_vol.specs.Log.{is_uncut, request_of}
use Rattle.lvm_vol.specs.May.{known}
use Rattle.lvm_vol.proofs.LogLemmas.{found_of}
use Rattle.lvm_disk.specs.Device.{Device, Flight, Image, IsInFlight, Media, image_of}
use Rattle.lvm_kept.specs.Contents.{Contents, contents_of}
use Rattle.lvm_kept.specs.Group.{members_in}
use Rattle.lvm_kept.specs.Kept.{Kept}
use Rattle.lvm_kept.specs.Moments.{Calm}
use Rattle.lvm_kept.proofs.CommittedLemmas.Finding.{finding_reads, images_within}
use Rattle.lvm_steps.specs.Moments.{HistoryHolds, ImagesKept}
use Rattle.lvm_steps.specs.Requests.{at}
use Rattle.lvm_steps.specs.Committing.{DiffersInVolume}
use Rattle.lvm_commit.specs.LawsOfVolumes.{VolumesServe}
use Rattle.lvm_commit.specs.Settling.{IsOf, SessionIsHeld}
use Rattle.lvm_commit.proofs.LawsOfVolumesLemmas.Volumes.{one_serves}
use Rattle.lvm_mwc.specs.Cache.{flight_on}
use Rattle.lvm_sched.specs.declared.writes.TargetState.{TargetState}
use Rattle.lvm_sched.specs.declared.writes.TargetState.TheVariants as target
use Rattle.lvm_sched.specs.Writes.{is_flying}
use Rattle.lvm_path.specs.declared.target.Target.{Target}
use Rattle.lvm_path.specs.Asks.{count_of}
use Rattle.lvm_session.specs.declared.open.Open.{Open}
use Rattle.lvm_session.specs.declared.bringing.OpenCopy.{OpenCopy}
use Rattle.lvm_session.specs.declared.flown.Owner.TheVariants as owner
use Rattle.lvm_session.specs.State.{Core, State}
use Rattle.lvm_session.specs.Bringing.{has_row}
use Rattle.lvm_session.specs.Dark.{landings as all_landings}
use Rattle.lvm_session.specs.Judging.{is_running, is_waiting, place_of}
use Rattle.lvm_session.specs.Owners.{flies, target_flies}
use Rattle.lvm_invariant.specs.State.{Flying, Groups, ModelCopy, ModelState, Queued, covers, told, write_in}
use Rattle.lvm_invariant.specs.Found.{Found}
use Rattle.lvm_invariant.specs.Good.{Good}
use Rattle.lvm_invariant.specs.Events.{Want}
use Rattle.lvm_invariant.specs.Off.{GoesOff}
use Rattle.lvm_invariant.specs.Over.{AreOpen, landings}
use Rattle.lvm_invariant.specs.Want.{Wants}
use Rattle.lvm_invariant.proofs.CrashLemmas.{core_kept}
use Rattle.lvm_invariant.proofs.EventsLemmas.Each.{each_keeps}
use Rattle.lvm_invariant.proofs.OverLemmas.{cut_keeps, off_keeps}
use Rattle.lvm_crash.specs.Flights.{Matches}
use Rattle.lvm_crash.specs.Laws.{EachViewAgrees}
use Rattle.lvm_crash.specs.Session.{Describes, HasVolumes, Shows}
use Rattle.lvm_crash.proofs.LawsLemmas.Images.{images_kept, last_images_kept}
use Rattle.lvm_even.specs.Members.{members_showing}
use Rattle.lvm_places.proofs.LawsLemmas.{place_is_taken}
use Rattle.lvm_move_laws.specs.Serving.{IsFoundSo}
use Rattle.lvm_move_laws.proofs.MovingLemmas.{moved_is_described}
use Rattle.lvm_move_keeps.specs.Drained.{IsDrainedMoving}
use Rattle.lvm_move_keeps.proofs.IdleLemmas.{rests}
use Rattle.lvm_tie.specs.Seen.{IsRequestAt, IsStepAt, SeesNote, stage_at, stage_seen, step_write_in}
use Rattle.lvm_tie.specs.Tied.{IsTied}
use Rattle.lvm_tie.proofs.MomentsLemmas.{calm_if_uncut}
use Rattle.lvm_tie.proofs.NearLemmas.{no_write as step_none}
use Rattle.lvm_tie.proofs.OverLemmas.Dark.{cut_holds}
use Rattle.lvm_tie.proofs.OverLemmas.Off.{over_of, rises_of, shaped_of}
use Rattle.lvm_tie.proofs.OverLemmas.ReadLandings.{reads_land}
use Rattle.lvm_tie.proofs.OverLemmas.Waiting.{AreNamed, are_named, are_open, named_first, places, places_append, same_landings, started, unlanded_one, waits_at}
use Rattle.lvm_tie.proofs.SeenLemmas.Entered.{sees_entered}
use Rattle.lvm_tie.proofs.SeenLemmas.Quiet.{flies_none}
use Rattle.lvm_tie.proofs.StateLemmas.{beside_is_wanted}
use Rattle.lvm_tie.proofs.SeenLemmas.Beside.{destination_beside}
use Rattle.lvm_tie.proofs.TiedLemmas.Orderly.{asked_one, open_one}
use Rattle.lvm_tie.proofs.TiedLemmas.Tied.{tied_matches}
use Rattle.lvm_move_tie.specs.Taking.{next_group}
use Rattle.lvm_move_tie.proofs.LongerLemmas.{among, cut_more, landings_more}
use Rattle.lvm_move_tie.proofs.MovedLemmas.{differs_in}
use Rattle.lvm_move_tie.proofs.ServingLemmas.{serves}
use Rattle.lvm_move_tie.proofs.TakingLemmas as taking

-- what is kept of a device while the descriptor of these bytes is written over another
abbrev pub KeepsAt : List ℕ → State → Device → Type 0
KeepsAt content s d = (group next : Descriptor) (among : ℕ → Bool) (facts : List Fact) → descriptor_of content ≡ Ok next → IsOf group s.core.status → SessionIsHeld s.device group s.core.status s.core.homes
    → IfSome s.device.media (λ media. VolumesServe (contents_of (image_of s.device.sizes media)) facts group among next) → ImagesKept s.device facts → ImagesKept d facts

none_out : (flights : List Flight) → flights ≡ [] → (d at : ℕ) (value : Sector) → IsInFlight flights d at value → ⊥
none_out flights none d at value is = subst (λ (l : List Flight). IsInFlight l d at value) none is

module _ (past : List Fact) (s : State) (c : OpenCopy) (tied : IsTied past s) (drained : IsDrainedMoving s c) where
  abbrev core : Core
  core = s.core

  abbrev v : ModelState
  v = tied.view

  abbrev group : Descriptor
  group = core.descriptor

  abbrev next : Descriptor
  next = next_group s c

  abbrev image : Image
  image = image_of s.device.sizes tied.media

  abbrev shown : Contents
  shown = contents_of image

  abbrev facts : List Fact
  facts = core.history.facts

  -- the state with the destination in the place of the copy
  abbrev pub w : ModelState
  w = taking.w past s c tied drained

  pub good_w : Good tied.votes w
  good_w = place_is_taken tied.votes v (taking.from past s c tied drained) c.pp (taking.k past s c tied drained) (taking.takes past s c tied drained) tied.good

  found_so : IsFoundSo shown group
  found_so = record { within = images_within image; size = tied.describes.stands.size; only = tied.describes.stands.only }

  -- it describes the disks by the next descriptor
  pub described : (h : List Fact) → Describes v h group None shown → HasVolumes w h next (members_showing shown next) × Shows w next None shown
  described h describes = moved_is_described v (taking.k past s c tied drained) (taking.o past s c tied drained) group next.lvs c.lv c.lp (taking.from past s c tied drained) h shown
      (taking.beside past s c tied drained) (taking.is_for past s c tied drained) (taking.takes past s c tied drained) (taking.may_take past s c tied drained).moves (taking.member past s c tied drained)
      (λ d. refl) refl describes

  -- ---- with any history with which the state describes the disks, and each loss of power agrees

  module _ (content : List ℕ) (reads : descriptor_of content ≡ Ok next) (of : IsOf group core.status) (held : SessionIsHeld s.device group core.status core.homes) where
    module _ (h : List Fact) (missing : ℕ → Bool) (describes : Describes v h group None shown) (agrees : EachViewAgrees (record w { missing = missing }) h) (kept : ImagesKept s.device h) where
      abbrev x : ModelState
      x = record w { missing = missing }

      volumes : HasVolumes x h next (members_showing shown next)
      volumes = let m = (described h describes).0 in record { copies = m.copies; free = m.free; inside = m.inside; some = m.some; notes = m.notes; mark = m.mark; modes = m.modes; history = m.history }

      shows : Shows x next None shown
      shows = let m = (described h describes).1 in record { blocks = m.blocks; names = m.names; status = m.status; statuses = record { same = m.statuses.same; own = m.statuses.own; once = m.statuses.once; new = m.statuses.new } }

      by_quorum : Found tied.votes x
      by_quorum = let f = good_w.found in record { set = f.set; enough = f.enough; have = f.have; only = f.only; newer = f.newer }

      differs : DiffersInVolume c.lv group next
      differs = differs_in c.lv c.lp c.copy c.pp group

      one : VolumesServe shown h group (λ n. n == c.lv) next
      one = one_serves shown h group c.lv next (serves tied.votes x h group next.lvs c.lv shown found_so (record { reads = tied.setting.are_votes.reads; writes = tied.setting.are_votes.writes }) by_quorum agrees volumes shows differs)

      all : IfSome s.device.media (λ media. VolumesServe (contents_of (image_of s.device.sizes media)) h group (λ n. n == c.lv) next)
      all = subst (λ (m : Option Media). IfSome m (λ media. VolumesServe (contents_of (image_of s.device.sizes media)) h group (λ n. n == c.lv) next)) (sym tied.setting.told) one

      pub kept_with : (d : Device) → KeepsAt content s d → ImagesKept d h
      kept_with d keeps = keeps group next (λ n. n == c.lv) h reads of held all kept

    -- ---- while it is on

    pub on_kept : (d : Device) → KeepsAt content s d → ImagesKept d (past ++ facts)
    on_kept d keeps = subst (ImagesKept d) tied.sees.facts (kept_with v.facts w.missing (taking.describes past s c tied drained) (core_kept w good_w.sound)
        (λ left may. images_kept tied.votes v group None s.device tied.media left tied.setting.are_votes tied.good matches may) d keeps)
      where
        matches : Matches v v.facts group None s.device tied.media
        matches = subst (λ (u : Option (Stamped Status)). Matches v v.facts group u s.device tied.media) (taking.no_update past s c tied drained) (tied_matches past s tied)

  -- ---- its requests

  no_row : has_row core c ≡ false
  no_row =
      let still = rests core c (taking.copy past s c tied drained) (taking.whole_is past s c tied drained).runs (taking.whole_is past s c tied drained).whole in
      let all = (taking.whole_is past s c tied drained).whole in
      (λ t. still t || (is_running c && not (all t))) ∙ none_runs (is_running c)
    where
      none_runs : (b : Bool) → b && false ≡ false
      none_runs true = refl
      none_runs false = refl

  -- each place of the queue is one of a request
  pub only : (i : ℕ) (q : Queued) → v.queue i ≡ Some q → IsRequestAt core i
  only i q there = ⊎_elim
      (λ (r : IsRequestAt core i). r)
      (λ (st : IsStepAt core i). clash_gives (has_row core c) (subst (λ (x : OpenCopy). has_row core x ≡ true) (one_open st.copy (sym st.is_open ∙ drained.is_open)) st.row) no_row)
      (tied.sees.queue.only i q there)
    where
      one_open : (x : OpenCopy) → Some x ≡ Some c → x ≡ c
      one_open x e = cc

  abbrev has_started : ℕ → Bool
  has_started = started core v (rises_of past s tied) tied.sees.queue.requests (λ i q there asked. only i q there) (shaped_of past s tied) (over_of past s tied)

  now_open : AreOpen v (places core.requests) has_started
  now_open = are_open core v (rises_of past s tied) tied.sees.queue.requests (λ i q there asked. only i q there) (shaped_of past s tied) (over_of past s tied)

  open_in : (xs ys : List Open) → core.requests ≡ xs ++ ys → AreOpen v (places xs ++ places ys) has_started
  open_in xs ys split = subst (λ (l : List ℕ). AreOpen v l has_started) (ap places split ∙ places_append xs ys) now_open

  named_in : (base : List Fact) → ((k : ℕ) (o : Open) → slice_get core.requests k ≡ Some o → v.name (place_of o.request.id) ≡ request_of base o.request.id)
      → (xs ys : List Open) → core.requests ≡ xs ++ ys → AreNamed base v.name has_started xs
  named_in base names xs ys split = named_first base v.name has_started xs ys (subst (λ (l : List Open). AreNamed base v.name has_started l) split
      (are_named core v (rises_of past s tied) tied.sees.queue.requests (λ i q there asked. only i q there) (shaped_of past s tied) (over_of past s tied) base names))

  -- they are open in any state with this queue
  open_there : (x : ModelState) → x.queue ≡ v.queue → (l : List ℕ) → AreOpen v l has_started → AreOpen x l has_started
  open_there x same l are = record {
    once = are.once;
    each = λ i h. let u = are.each i h in record { req = u.req; there = ap (λ (f : ℕ → Option Queued). f i) same ∙ u.there; request = u.request; unlanded = u.unlanded };
    all = λ i r there request unlanded. are.all i r (ap (λ (f : ℕ → Option Queued). f i) (sym same) ∙ there) request unlanded;
    begun_data = λ i r there write. are.begun_data i r (ap (λ (f : ℕ → Option Queued). f i) (sym same) ∙ there) write;
  }

  -- ---- the votes are lost

  -- with all disks missing, and no copy open
  abbrev y : ModelState
  y = record v { missing = λ d. true; open_copy = None }

  good_y : Good tied.votes y
  good_y = each_keeps tied.votes (Want v.wanted (λ d. true) None) v y (wants, refl) tied.good
    where
      target_is : (o : ModelCopy) → v.open_copy ≡ Some o → o.target ≡ c.pp
      target_is o is = ap (λ (x : ModelCopy). x.target) (same o (taking.sees_open past s c tied drained).copy (sym is ∙ (taking.sees_open past s c tied drained).is_open)) ∙ (taking.sees_open past s c tied drained).target
        where
          same : (a b : ModelCopy) → Some a ≡ Some b → a ≡ b
          same a b e = cc

      wants : Wants v v.wanted (λ d. true) None
      wants = record {
        missing_still = λ d h. refl;
        still = λ p h. h;
        still_dirty = λ lv h. h;
        added = λ p h. inl h;
        open_same = inr (refl, λ o is. subst (λ (p : Pp). IsTrue (v.wanted.stale p)) (sym (target_is o is)) (beside_is_wanted past s tied c.pp (destination_beside core c v.beside tied.sees.beside drained.is_open (taking.whole_is past s c tied drained).moves)));
        open_there = λ o is. absurd (cc is);
        behind = λ lv b p q copy fresh gone other usable kept. not_so (and_parts (not (v.committed.value.stale q)) false usable).1;
      }

  abbrev z : ModelState
  z = record w { missing = λ d. true }

  good_z : Good tied.votes z
  good_z = each_keeps tied.votes (Want w.wanted (λ d. true) None) w z (wants, refl) good_w
    where
      wants : Wants w w.wanted (λ d. true) None
      wants = record {
        missing_still = λ d h. refl;
        still = λ p h. h;
        still_dirty = λ lv h. h;
        added = λ p h. inl h;
        open_same = inl refl;
        open_there = λ o is. absurd (cc is);
        behind = λ lv b p q copy fresh gone other usable kept. not_so (and_parts (not (w.committed.value.stale q)) false usable).1;
      }

  few : IsFalse (tied.votes.writes (λ d. false))
  few = ⊎_elim
      (λ (enough : IsTrue (tied.votes.writes (λ d. false))).
      let reads = finding_reads shown all_disks group.id group tied.describes.stands.found in
      let meets = tied.votes.meet (members_in shown all_disks group.id group) (λ d. false) (tied.setting.are_votes.reads (members_in shown all_disks group.id group) ∙ reads.reads.enough) enough in
      not_so meets.2)
      (λ (off : IsFalse (tied.votes.writes (λ d. false))). off)
      (cases_Bool (tied.votes.writes (λ d. false)))

  no_note : (d : ℕ) → v.flying_note d ≡ None
  no_note d = by (v.flying_note d) (flight_on core.cache d) (flies_none past s tied drained.idle (owner.Note d)) (tied.sees.notes.flying d)
    where
      by : (n : Option Groups) (m : Option (ArrayVec NoteEntry)) → is_some m ≡ false → SeesNote n m → n ≡ None
      by None m none sees = refl
      by (Some n) None none sees = absurd sees
      by (Some n) (Some m) none sees = absurd (cc none)

  pub no_step : v.step_write ≡ None
  no_step = tied.sees.step_write ∙ ap step_write_in drained.is_open ∙ step_none c c.step (rests core c (taking.copy past s c tied drained) (taking.whole_is past s c tied drained).runs (taking.whole_is past s c tied drained).whole)

  flying_at : (i : ℕ) (r : Queued) (p : Pp) → v.queue i ≡ Some r → r.targets p ≡ Some Flying → ⊥
  flying_at i r p there flying =
      let at_ = only i r there in
      let one = tied.sees.queue.requests at_.place at_.request at_.there in
      let same : one.0 ≡ r = same_row one.0 r (sym one.1 ∙ ap v.queue at_.its ∙ there) in
      let t = target_at at_.request.request.targets.items p (sym (one.2.targets p) ∙ ap (λ (q : Queued). q.targets p) same ∙ flying) in
      let own : target_flies t.0 at_.request ≡ true = ap (λ (m : Option Target). option_map_or (λ (u : Target). is_flying u.state) m false) t.2 ∙ t.3 in
      let id = at_.request.request.id in
      let has : flies core (owner.Data id t.0) ≡ true =
      any_passes_from_place (λ (o : Open). o.request.id == id && target_flies t.0 o) core.requests at_.place at_.request at_.there (ap (λ b. b && target_flies t.0 at_.request) (eq-eqb id id refl) ∙ own) in
      clash_gives (flies core (owner.Data id t.0)) has (flies_none past s tied drained.idle (owner.Data id t.0))
    where
      same_row : (a b : Queued) → Some a ≡ Some b → a ≡ b
      same_row a b e = cc

      flying_seen : (x : TargetState) → stage_seen x ≡ Flying → is_flying x ≡ true
      flying_seen target.Waiting e = absurd (cc e)
      flying_seen target.Flying e = refl
      flying_seen target.Done e = absurd (cc e)
      flying_seen target.Failed e = absurd (cc e)

      target_at : (ts : List Target) (q : Pp) → stage_at ts q ≡ Some Flying → (n : ℕ) × (t : Target) × (slice_get ts n ≡ Some t) × (is_flying t.state ≡ true)
      target_at [] q e = absurd (cc e)
      target_at (t ∷ ts) q e = by (is_pp q t.pp) e (target_at ts q)
        where
          by : (b : Bool) → (if b then Some (stage_seen t.state) else stage_at ts q) ≡ Some Flying
              → (stage_at ts q ≡ Some Flying → (n : ℕ) × (u : Target) × (slice_get ts n ≡ Some u) × (is_flying u.state ≡ true))
              → (n : ℕ) × (u : Target) × (slice_get (t ∷ ts) n ≡ Some u) × (is_flying u.state ≡ true)
          by true e rest = (0, t, refl, flying_seen t.state (let same : stage_seen t.state ≡ Flying = cc e in same))
          by false e rest = let r = rest e in (suc r.0, r.1, r.2, r.3)

  goes_off : (x : ModelState) → x.queue ≡ v.queue → x.status_flying ≡ v.status_flying → x.flying_note ≡ v.flying_note → x.step_write ≡ v.step_write → x.missing ≡ (λ d. true) → (l : List ℕ) → AreOpen v l has_started
      → GoesOff tied.votes x l has_started
  goes_off x queue status notes step missing l are = record {
    lost = ap (λ (m : ℕ → Bool). tied.votes.writes (λ d. not (m d))) missing ∙ few;
    no_data = λ i r p there flying. flying_at i r p (ap (λ (f : ℕ → Option Queued). f i) (sym queue) ∙ there) flying;
    no_status = λ d. ap (λ (f : ℕ → Bool). f d) status ∙ tied.sees.status.started d ∙ flies_none past s tied drained.idle (owner.Status d);
    no_note = λ d. ap (λ (f : ℕ → Option Groups). f d) notes ∙ no_note d;
    no_copy = step ∙ no_step;
    requests = open_there x queue l are;
  }

  -- where nothing is out such a state matches the shelf
  matches_y : (h : List Fact) → Describes v h group None shown → Matches y h group None s.device tied.media
  matches_y h d = record {
    told = tied.setting.told;
    describes = record {
      stands = d.stands;
      volumes = let m = d.volumes in record { copies = m.copies; free = m.free; inside = m.inside; some = m.some; notes = m.notes; mark = m.mark; modes = m.modes; history = m.history };
      shown = let m = d.shown in record { blocks = m.blocks; names = m.names; status = m.status; statuses = record { same = m.statuses.same; own = m.statuses.own; once = m.statuses.once; new = m.statuses.new } };
      raw = d.raw;
    };
    out = record {
      blocks = λ l b p value copy is. absurd (none_out s.device.flights drained.idle p.disk _ value is);
      notes = λ i value is. absurd (none_out s.device.flights drained.idle i _ value is);
      statuses = λ i j value is. absurd (none_out s.device.flights drained.idle i j value is);
      descriptors = λ i j value is. absurd (none_out s.device.flights drained.idle i j value is);
      raw = λ i j value none from is. none_out s.device.flights drained.idle i j value is;
    };
  }

  module _ (content : List ℕ) (reads : descriptor_of content ≡ Ok next) (of : IsOf group core.status) (held : SessionIsHeld s.device group core.status core.homes) (device : Device) (keeps : KeepsAt content s device) where
    -- when the first of the requests have landed as Off
    pub off_holds : (xs ys : List Open) → core.requests ≡ xs ++ ys → HistoryHolds past (at device (facts ++ all_landings outcome.Off facts xs))
    off_holds xs ys split =
        let landed : List Fact = landings outcome.Off v.name has_started (places xs) in
        let are = open_in xs ys split in
        let off_y : GoesOff tied.votes y (places xs ++ places ys) has_started = goes_off y refl refl refl refl refl (places xs ++ places ys) are in
        let off_z : GoesOff tied.votes z (places xs ++ places ys) has_started = goes_off z refl refl refl refl refl (places xs ++ places ys) are in
        let legal_y = off_keeps tied.votes y (places xs) (places ys) has_started off_y good_y in
        let legal_z = off_keeps tied.votes z (places xs) (places ys) has_started off_z good_z in
        let describes : Describes v (v.facts ++ landed) group None shown =
        landings_more v group None shown tied.votes outcome.Off has_started tied.good (places xs) (λ i there. are.each i (among (places xs) (places ys) i there)) v.facts (taking.describes past s c tied drained) in
        let same = same_landings outcome.Off refl facts v.name has_started xs (named_in facts tied.sees.queue.names xs ys split) in
        let now : v.facts ++ landed ≡ past ++ (facts ++ all_landings outcome.Off facts xs) =
        ap (λ (l : List Fact). l ++ landed) tied.sees.facts ∙ append_assoc past facts landed ∙ ap (λ (l : List Fact). past ++ (facts ++ l)) (sym same) in
        record {
          legal = subst Legal now legal_y.legal;
          kept = subst (ImagesKept device) now (kept_with content reads of held (v.facts ++ landed) (λ d. true) describes legal_z.kept
              (λ left may. last_images_kept tied.votes y (v.facts ++ landed) group None s.device tied.media left tied.setting.are_votes good_y legal_y (matches_y (v.facts ++ landed) describes) may) device keeps);
        }

    -- when they have landed as Dark, behind a cut
    pub dark_holds : (xs ys : List Open) → core.requests ≡ xs ++ ys → HistoryHolds past (at device ((facts ++ Cut ∷ []) ++ all_landings outcome.Dark (facts ++ Cut ∷ []) xs))
    dark_holds xs ys split =
        let cut : List Fact = facts ++ Cut ∷ [] in
        let landed : List Fact = landings outcome.Dark v.name has_started (places xs) in
        let are = open_in xs ys split in
        let before = cut_holds past s tied s.device (λ left may. may) xs ys split in
        let legal_w = cut_keeps tied.votes w (places xs) (places ys) has_started (open_there w refl (places xs ++ places ys) are) good_w in
        let describes : Describes v ((v.facts ++ Cut ∷ []) ++ landed) group None shown =
        landings_more v group None shown tied.votes outcome.Dark has_started tied.good (places xs) (λ i there. are.each i (among (places xs) (places ys) i there)) (v.facts ++ Cut ∷ [])
        (cut_more v group None shown v.facts (taking.describes past s c tied drained)) in
        let same = same_landings outcome.Dark refl cut v.name has_started xs (named_in cut (sees_entered past core v Cut refl tied.sees).queue.names xs ys split) in
        let now : (v.facts ++ Cut ∷ []) ++ landed ≡ past ++ (cut ++ all_landings outcome.Dark cut xs) =
        ap (λ (l : List Fact). (l ++ Cut ∷ []) ++ landed) tied.sees.facts ∙ ap (λ (l : List Fact). l ++ landed) (append_assoc past facts (Cut ∷ [])) ∙ append_assoc past cut landed
        ∙ ap (λ (l : List Fact). past ++ (cut ++ l)) (sym same) in
        record {
          legal = before.legal;
          kept = subst (ImagesKept device) now (kept_with content reads of held ((v.facts ++ Cut ∷ []) ++ landed) w.missing describes legal_w.kept (subst (ImagesKept s.device) (sym now) before.kept) device keeps);
        }

    -- where there is nothing to cut no write waits, and reads land
    module _ (uncut : is_uncut facts ≡ false) where
      no_write : (k : ℕ) (o : Open) (there : slice_get core.requests k ≡ Some o) → is_waiting o ≡ true → (b : Bool) → (tied.sees.queue.requests k o there).0.write ≡ b → b ≡ false
      no_write k o there waits false is = refl
      no_write k o there waits true is =
          let r = tied.sees.queue.requests k o there in
          let q : Queued = r.0 in
          let asked = asked_one s tied.write tied.orderly k o there in
          let began = (found_of facts o.request.id (ap (λ (m : Option Asked). is_some m) asked.told)).began in
          let calm : Calm (past ++ facts) = calm_if_uncut device past facts (request_of facts o.request.id) began uncut in
          let none : (told v q.lv q.first).open_writes ≡ [] = ap (λ (l : List Fact). (known l (Lv q.lv) q.first).open_writes) tied.sees.facts ∙ calm (Lv q.lv) q.first in
          let own = tied.good.sound.tied.open_writes (place_of o.request.id) q r.1 is
          (unlanded_one core v (rises_of past s tied) tied.sees.queue.requests (λ i x at_ asks. only i x at_) (shaped_of past s tied) (over_of past s tied) k o there waits) q.lv q.first in
          let some : 1 ≤ count_of o.request.ask = (open_one s tied.write tied.orderly k o there).laid.within.some in
          let count : q.count ≡ count_of o.request.ask = r.2.count in
          let high : nat_lt q.first (q.first + q.count) ≡ true = above q.first q.count (subst (λ n. 1 ≤ n) (sym count) some) in
          let over : (q.write && covers q q.lv q.first) ≡ true = all_true q.write (q.lv == q.lv) (nat_le q.first q.first) (nat_lt q.first (q.first + q.count)) is (eq-eqb q.lv q.lv refl) (low q.first) high in
          let e : None ≡ Some (q.value q.first) = sym (ap (λ (ws : List Asked). write_in q.first ws (v.name (place_of o.request.id))) none) ∙ own ∙ ap (λ b. if b then Some (q.value q.first) else None) over in
          absurd (cc e)
        where
          above : (a n : ℕ) → 1 ≤ n → nat_lt a (a + n) ≡ true
          above a n some = grind (arith, nat_tests)

          low : (a : ℕ) → nat_le a a ≡ true
          low a = grind (arith, nat_tests)

          all_true : (a b c d : Bool) → a ≡ true → b ≡ true → c ≡ true → d ≡ true → (a && (b && c && d)) ≡ true
          all_true a b c d p q r t = λ i. p i && (q i && r i && t i)

      are_reads : (i : ℕ) → IsInList i (places core.requests) → (v.name i).write ≡ false
      are_reads i h =
          let r = waits_at core.requests i h in
          let q = tied.sees.queue.requests r.number r.request r.there in
          let no : q.0.write ≡ false = no_write r.number r.request r.there r.waiting q.0.write refl in
          subst (λ j. (v.name j).write ≡ false) r.its ((tied.good.told.same (place_of r.request.request.id) q.0 q.1 q.2.step).write ∙ no)

      held_so : (x : Contents) → Kept x v.facts → Kept x v.facts
      held_so x kept = kept

      pub reads_hold_there : (xs ys : List Open) → core.requests ≡ xs ++ ys → HistoryHolds past (at device (facts ++ all_landings outcome.Dark facts xs))
      reads_hold_there xs ys split =
          let landed : List Fact = landings outcome.Dark v.name has_started (places xs) in
          let are = open_in xs ys split in
          let same = same_landings outcome.Dark refl facts v.name has_started xs (named_in facts tied.sees.queue.names xs ys split) in
          let now : v.facts ++ landed ≡ past ++ (facts ++ all_landings outcome.Dark facts xs) =
          ap (λ (l : List Fact). l ++ landed) tied.sees.facts ∙ append_assoc past facts landed ∙ ap (λ (l : List Fact). past ++ (facts ++ l)) (sym same) in
          let way = reads_land v tied.good.told has_started (λ x. Kept x v.facts) (places xs) (places ys) v.facts are.once are.each
          (λ j there. are_reads j (subst (IsInList j) (sym (ap places split ∙ places_append xs ys)) there))
          (record {
            legal = tied.good.told.legal;
            kept = held_so;
            waits = λ i there. let u = are.each i there in (tied.good.told.began i u.req u.there u.request, tied.good.told.ended i u.req u.there u.request ∙ u.unlanded);
          }) in
          record {
            legal = subst Legal now way.legal;
            kept = λ left may. subst (Kept (contents_of left)) now (way.kept (contents_of left) (subst (Kept (contents_of left)) (sym tied.sees.facts) (on_kept content reads of held device keeps left may)));
          }
