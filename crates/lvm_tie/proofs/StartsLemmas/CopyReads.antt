-- The read by which a copy is brought up, tied as it starts.
use Rattle.std.proofs.Common.{◌≡◌, ◌⊎◌, inl, inr, ⊎_elim, ℕ, ◌+◌, ◌<◌, ◌≤◌, Bool, true, false, ◌&&◌, ◌||◌, ◌==◌, not, if◌then◌else◌, List, [], ◌∷◌, ◌++◌, Option, Some, None, refl, sym, ap, subst, ◌∙◌, arith}
use Rattle.std.specs.Prelude.{IsTrue, IsFalse, filter, find, nat_lt}
use Rattle.std.specs.List.{list_any}
use Rattle.std.proofs.lemmas.Bool.{and_parts}
use Rattle.std.proofs.lemmas.Bool.Decides.{nat_tests}
use Rattle.lvm_num.specs.declared.place.Pp.{Pp}
use Rattle.lvm_num.specs.Descriptor.{is_member, is_pp}
use Rattle.lvm_num.specs.Disks.{has}
use Rattle.lvm_num.specs.Geometry.{sector_of}
use Rattle.lvm_num.proofs.Booleans.{clash_gives}
use Rattle.lvm_vol.specs.Facts.{Fact}
use Rattle.lvm_disk.specs.Device.{image_of}
use Rattle.lvm_kept.specs.Contents.{contents_of}
use Rattle.lvm_kept.specs.Group.{IsOneOf}
use Rattle.lvm_hold.specs.declared.queue.Row.{Row}
use Rattle.lvm_hold.specs.Conflicts.{conflicts, have_common_block}
use Rattle.lvm_path.specs.declared.request.Phase.{Phase}
use Rattle.lvm_path.specs.Asks.{at_of, count_of, is_write, lv_of}
use Rattle.lvm_path.specs.Targets.{is_begun}
use Rattle.lvm_session.specs.declared.bringing.OpenCopy.{OpenCopy}
use Rattle.lvm_session.specs.declared.bringing.Step.{Step}
use Rattle.lvm_session.specs.declared.bringing.Step.TheVariants as step
use Rattle.lvm_session.specs.declared.flown.Owner.TheVariants as owner
use Rattle.lvm_session.specs.State.{Core, State}
use Rattle.lvm_session.specs.Judging.{copies_in, held_of, is_missing, is_running, is_stale, is_usable, is_waiting, place_of}
use Rattle.lvm_session.specs.Bringing.{block_at, groups_of, has_row, is_idle, is_out, is_whole, step_of}
use Rattle.lvm_session.specs.Enabled.{is_free_step}
use Rattle.lvm_session.specs.Events.{ReadsCopy, flown}
use Rattle.lvm_session.specs.Sound.{IsSound}
use Rattle.lvm_invariant.specs.State.{Badly, Flying, Going, Held, Landed, ModelPhase, Queued, Ready, Stage, ModelState, Todo, WantEntry, has_landed, is_past, is_usable as sees_usable}
use Rattle.lvm_invariant.specs.Updates.{put, with_req}
use Rattle.lvm_invariant.specs.Sound.{Conflict}
use Rattle.lvm_invariant.specs.Admit.{admitted}
use Rattle.lvm_invariant.specs.Read.{reading}
use Rattle.lvm_invariant.specs.Events.{Admit, Read, ModelStep}
use Rattle.lvm_invariant.specs.Good.{Good}
use Rattle.lvm_invariant.proofs.EventsLemmas.Each.{each_keeps}
use Rattle.lvm_crash.specs.Session.{Describes}
use Rattle.lvm_crash.proofs.OwnedLemmas.{covered}
use Rattle.lvm_crash.proofs.RecordsLemmas.Quiet.{quiet_lasts}
use Rattle.lvm_crash.proofs.WritingLemmas.{pp_same, same_pp}
use Rattle.lvm_tie.specs.Seen.{IsRequestAt, IsStepAt, Sees, SeesCopy, SeesHand, SeesOpen, SeesRequest, SeesRunning, SeesStep, phase_seen, step_write_of, update_of}
use Rattle.lvm_tie.specs.Tied.{IsTied}
use Rattle.lvm_kept.proofs.ChangesLemmas.Entries.{volume_is_row}
use Rattle.lvm_tie.proofs.SeenLemmas.Beside.{copy_apart}
use Rattle.lvm_tie.proofs.StateLemmas.{IsOfItsPartition, of_its, there_first, usable_seen}
use Rattle.lvm_tie.proofs.TiedLemmas.Orderly.{open_one}
use Rattle.lvm_tie.proofs.JudgingLemmas.Rows.{rows_are}
use Rattle.lvm_tie.proofs.BringingLemmas.{one_is_copy_of, step_member}
use Rattle.lvm_tie.proofs.AmongLemmas.{any_none, not_true, or_true}
use Rattle.lvm_tie.specs.Starts.{CopyReadTies}
use Rattle.lvm_tie.proofs.SeenLemmas.CopySteps.{copy_started, sees_step_on}

found_source : (t u : Pp → Bool) (ps : List Pp) (p : Pp) → find t (filter u ps) ≡ Some p → IsOneOf ps p × (u p ≡ true)
found_source t u [] p is = absurd (cc is)
found_source t u (x ∷ ps) p is = by (u x) refl is (found_source t u ps p)
  where
    here : (b : Bool) → u x ≡ true → (if b then Some x else find t (filter u ps)) ≡ Some p → (find t (filter u ps) ≡ Some p → IsOneOf ps p × (u p ≡ true)) → IsOneOf (x ∷ ps) p × (u p ≡ true)
    here true passes h rest = let e : x ≡ p = cc h in (inl (sym e), ap u (sym e) ∙ passes)
    here false passes h rest = let r = rest h in (inr r.0, r.1)

    by : (b : Bool) → u x ≡ b → find t (if b then x ∷ filter u ps else filter u ps) ≡ Some p → (find t (filter u ps) ≡ Some p → IsOneOf ps p × (u p ≡ true)) → IsOneOf (x ∷ ps) p × (u p ≡ true)
    by true passes h rest = here (t x) passes h rest
    by false passes h rest = let r = rest h in (inr r.0, r.1)

module _ (past : List Fact) (old new : State) (tied : IsTied past old) (sound : IsSound new) (reads : ReadsCopy old new) where
  abbrev core : Core
  core = old.core

  abbrev v : ModelState
  v = tied.view

  abbrev c : OpenCopy
  c = reads.copy

  abbrev i : ℕ
  i = c.place

  abbrev source : Pp
  source = reads.source

  -- it may be read
  pub record MayReadNow : Type 0 where
    pub runs : is_running c ≡ true
    pub part : is_whole core c ≡ false
    pub idle : is_idle c.step ≡ true
    pub free : is_free_step core c ≡ true

  may_now : MayReadNow
  may_now =
      let a = and_parts (is_running c && not (is_whole core c) && is_idle c.step && is_free_step core c) _ reads.may in
      let b = and_parts (is_running c && not (is_whole core c) && is_idle c.step) (is_free_step core c) a.0 in
      let d = and_parts (is_running c && not (is_whole core c)) (is_idle c.step) b.0 in
      let e = and_parts (is_running c) (not (is_whole core c)) d.0 in
      record { runs = e.0; part = not_true (is_whole core c) e.1; idle = d.1; free = b.1 }

  idle_is : (s : Step) → is_idle s ≡ true → s ≡ step.Idle
  idle_is step.Idle h = refl
  idle_is (step.Reading p) h = absurd (cc h)
  idle_is (step.Read buf) h = absurd (cc h)
  idle_is step.Writing h = absurd (cc h)

  at_rest : c.step ≡ step.Idle
  at_rest = idle_is c.step may_now.idle

  row : has_row core c ≡ true
  row = or_true (is_out c.step) (is_running c && not (is_whole core c)) (inr (λ t. may_now.runs t && not (may_now.part t)))

  its : IsOfItsPartition core c
  its = of_its past old tied c reads.is_open

  less : c.cursor < groups_of core
  less = let h : not (nat_lt c.cursor (groups_of core)) ≡ false = may_now.part in let k : nat_lt c.cursor (groups_of core) ≡ true = Rattle.std.proofs.lemmas.Bool.not-false (nat_lt c.cursor (groups_of core)) h in grind (arith, nat_tests)

  abbrev q : Queued
  q = (tied.sees.queue.a_step c reads.is_open row).0

  at : v.queue i ≡ Some q
  at = (tied.sees.queue.a_step c reads.is_open row).1

  sees : SeesStep core c q
  sees = (tied.sees.queue.a_step c reads.is_open row).2

  hand : (has_landed q.phase ≡ false) × (q.got ≡ None)
  hand = subst (λ (s : Step). SeesHand s q) at_rest sees.hand

  found : IsOneOf (copies_in core.descriptor c.lv c.lp) source × ((not (is_pp source c.pp) && is_usable core source) ≡ true)
  found = found_source _ (λ (p : Pp). not (is_pp p c.pp) && is_usable core p) (copies_in core.descriptor c.lv c.lp) source reads.source_is

  usable : is_usable core source ≡ true
  usable = (and_parts (not (is_pp source c.pp)) (is_usable core source) found.1).1

  among : IsOneOf (Rattle.lvm_num.specs.Descriptor.copies_of its.row c.lp) source
  among = subst (λ (ps : List Pp). IsOneOf ps source) (ap (λ m. Rattle.std.specs.Option.option_map_or (λ (r : Rattle.lvm_num.specs.declared.descriptor.LvRow.LvRow). Rattle.lvm_num.specs.Descriptor.copies_of r c.lp) m []) its.volume) found.0

  member : is_member core.descriptor source.disk ≡ true
  member = step_member past old tied c its less source among

  there : is_missing core source.disk ≡ false
  there = not_true (is_missing core source.disk) (and_parts (not (is_stale core source)) (not (is_missing core source.disk)) usable).1

  source_copy : IsTrue (v.is_copy c.lv (block_at core c) source)
  source_copy = one_is_copy_of past old tied c its less source among member (there_first past old tied source.disk there)

  is_copy : IsTrue (v.is_copy q.lv q.first source)
  is_copy = (λ t. v.is_copy (sees.lv t) (sees.first t) source) ∙ source_copy

  abbrev targets : Pp → Option Stage
  targets p = if is_pp p source then Some Todo else None

  abbrev q1 : Queued
  q1 = admitted q Ready false targets

  abbrev q2 : Queued
  q2 = reading q1 source Flying None

  abbrev v1 : ModelState
  v1 = with_req v i q1

  abbrev w : ModelState
  w = with_req v1 i q2

  -- nothing earlier is in its way
  free : (j : ℕ) (e : Queued) → v.queue j ≡ Some e → j < i → Conflict e q → IsTrue (has_landed e.phase)
  free j e here before conflict = ⊎_elim of_request of_step (tied.sees.queue.only j e here)
    where
      of_step : IsStepAt core j → IsTrue (has_landed e.phase)
      of_step r = absurd (let own : r.copy ≡ c = (let x : Some r.copy ≡ Some c = sym r.is_open ∙ reads.is_open in cc) in let k : i ≡ j = ap (λ (x : OpenCopy). x.place) (sym own) ∙ r.its in omega (arith, k, before))

      of_request : IsRequestAt core j → IsTrue (has_landed e.phase)
      of_request r = by (is_waiting r.request) refl
        where
          s : (x : Queued) × (v.queue (place_of r.request.request.id) ≡ Some x) × SeesRequest r.request x
          s = tied.sees.queue.requests r.place r.request r.there

          same : s.0 ≡ e
          same = (let x : Some s.0 ≡ Some e = sym s.1 ∙ ap v.queue r.its ∙ here in cc)

          e_sees : SeesRequest r.request e
          e_sees = subst (SeesRequest r.request) same s.2

          writes : is_write r.request.request.ask ≡ true
          writes = ⊎_elim (λ w2. sym e_sees.write ∙ w2) (λ w2. clash_gives q.write w2 sees.write) conflict.writes

          block : have_common_block (held_of r.request.request.ask) (step_of core c) ≡ true
          block =
              let x = covered e conflict.lv conflict.block conflict.first in
              let y = covered q conflict.lv conflict.block conflict.second in
              let a1 : e.lv ≡ lv_of r.request.request.ask = e_sees.lv in
              let a2 : e.first ≡ at_of r.request.request.ask = e_sees.first in
              let a3 : e.count ≡ count_of r.request.request.ask = e_sees.count in
              let b1 : q.lv ≡ c.lv = sees.lv in
              let b2 : q.first ≡ block_at core c = sees.first in
              let b3 : q.count ≡ 256 = sees.count in
              let volume : lv_of r.request.request.ask ≡ c.lv = sym a1 ∙ x.0 ∙ sym y.0 ∙ b1 in
              let one : (lv_of r.request.request.ask == c.lv) ≡ true = grind (arith, nat_tests) in
              let low1 : e.first ≤ conflict.block = x.1 in
              let high1 : conflict.block < e.first + e.count = x.2 in
              let low2 : q.first ≤ conflict.block = y.1 in
              let high2 : conflict.block < q.first + q.count = y.2 in
              let two : nat_lt (at_of r.request.request.ask) (block_at core c + 256) ≡ true = (let lt : at_of r.request.request.ask < block_at core c + 256 = omega (arith, a2, low1, high2, b2, b3) in grind (arith, nat_tests)) in
              let three : nat_lt (block_at core c) (at_of r.request.request.ask + count_of r.request.request.ask) ≡ true = (let lt : block_at core c < at_of r.request.request.ask + count_of r.request.request.ask = omega (arith, a2, a3, high1, low2, b2) in grind (arith, nat_tests)) in
              λ k. one k && two k && three k

          by : (b : Bool) → is_waiting r.request ≡ b → IsTrue (has_landed e.phase)
          by false over = ap has_landed e_sees.phase ∙ ap (λ (p : Phase). has_landed (phase_seen p (is_begun r.request.request.targets.items))) ((open_one old tied.write tied.orderly r.place r.request r.there).over over).phase_is
          by true waits =
              let row2 : Row = record { id = place_of r.request.request.id; ask = held_of r.request.request.ask } in
              let both : conflicts (held_of r.request.request.ask) (step_of core c) ≡ true = (λ k. block k && ((writes k && true) || false)) in
              let lt : nat_lt (place_of r.request.request.id) i ≡ true = (let k : place_of r.request.request.id ≡ j = r.its in let l : place_of r.request.request.id < i = omega (arith, k, before) in grind (arith, nat_tests)) in
              clash_gives (nat_lt row2.id i && conflicts row2.ask (step_of core c)) (λ k. lt k && both k)
              (any_none (λ (x : Row). nat_lt x.id i && conflicts x.ask (step_of core c)) core.queue.rows row2 (not_true (Rattle.lvm_hold.specs.Waiting.is_blocked core.queue.rows i (step_of core c)) may_now.free)
              ((rows_are old tied.write tied.orderly).requests r.place r.request r.there waits))

  early : (q.phase ≡ Held) ⊎ (q.phase ≡ WantEntry) ⊎ (q.phase ≡ Ready) ⊎ (IsFalse q.write × IsTrue (is_past q.phase) × (q.got ≡ None))
  early = by q.phase refl hand.0
    where
      by : (p : ModelPhase) → q.phase ≡ p → has_landed p ≡ false → (q.phase ≡ Held) ⊎ (q.phase ≡ WantEntry) ⊎ (q.phase ≡ Ready) ⊎ (IsFalse q.write × IsTrue (is_past q.phase) × (q.got ≡ None))
      by Held is h = inl is
      by WantEntry is h = inr (inl is)
      by Ready is h = inr (inr (inl is))
      by Going is h = inr (inr (inr (sees.write, ap is_past is, hand.1)))
      by Landed is h = absurd (cc h)

  admit_step : ModelStep tied.votes (Admit i q Ready false targets) v v1
  admit_step = (
    record {
      there = at;
      early = early;
      phase_now = inr (refl, λ writes. absurd (let e : true ≡ false = sym writes ∙ sees.write in cc));
      free = free;
      usable = λ read p x is. by p (is_pp p source) refl is;
    },
    refl,
  )
    where
      by : (p : Pp) {x : Stage} (b : Bool) → is_pp p source ≡ b → (if b then Some Todo else None) ≡ Some x → IsTrue (v.is_copy q.lv q.first p) × IsTrue (sees_usable v p)
      by p true same h = let own : p ≡ source = pp_same p source same in
          subst (λ (z : Pp). IsTrue (v.is_copy q.lv q.first z) × IsTrue (sees_usable v z)) (sym own) (is_copy, usable_seen past old tied source (copy_apart tied.describes.volumes its.row c.lp source (volume_is_row core.descriptor c.lv its.row its.volume) its.lp among) member ∙ usable)
      by p false same h = absurd (cc h)

  put_here : (f : ℕ → Option Queued) (x : Queued) → put f i x i ≡ Some x
  put_here f x = let test : (i == i) ≡ true = grind (arith, nat_tests) in ap (λ b. if b then Some x else f i) test

  put_there : (f : ℕ → Option Queued) (x : Queued) (j : ℕ) → (j ≡ i → ⊥) → put f i x j ≡ f j
  put_there f x j ne = let test : (j == i) ≡ false = grind (arith, nat_tests) in ap (λ b. if b then Some x else f j) test

  own_source : is_pp source source ≡ true
  own_source = same_pp source source refl

  read_step : ModelStep tied.votes (Read i q1 source Flying None) v1 w
  read_step = (
    record {
      there = put_here v.queue q1;
      read = sees.write;
      past = refl;
      was = (Todo, ap (λ b. if b then Some Todo else None) own_source);
      gets = λ value is. absurd (cc is);
    },
    refl,
  )

  good1 : Good tied.votes v1
  good1 = each_keeps tied.votes (Admit i q Ready false targets) v v1 admit_step tied.good

  describes1 : Describes v1 v1.facts core.descriptor (update_of core.status) (contents_of (image_of old.device.sizes tied.media))
  describes1 = quiet_lasts tied.votes (Admit i q Ready false targets) v v1 core.descriptor (update_of core.status) (contents_of (image_of old.device.sizes tied.media)) admit_step tied.good tt tied.describes refl refl refl

  good2 : Good tied.votes w
  good2 = each_keeps tied.votes (Read i q1 source Flying None) v1 w read_step good1

  describes2 : Describes w w.facts core.descriptor (update_of core.status) (contents_of (image_of old.device.sizes tied.media))
  describes2 = quiet_lasts tied.votes (Read i q1 source Flying None) v1 w core.descriptor (update_of core.status) (contents_of (image_of old.device.sizes tied.media)) read_step good1 tt describes1 refl refl refl

  no_step_write : v.step_write ≡ None
  no_step_write = tied.sees.step_write ∙ ap Rattle.lvm_tie.specs.Seen.step_write_in reads.is_open ∙ ap (step_write_of c) at_rest

  w_is : w ≡ record v { queue = w.queue; step_write = None }
  w_is = λ t. record v { queue = w.queue; step_write = no_step_write t }

  -- it has no target but the source
  none_failed : (p : Pp) → q2.targets p ≡ Some Badly → has c.tried p.disk ≡ true
  none_failed p = by (is_pp p source)
    where
      by : (b : Bool) → (if b then Some Flying else (if b then Some Todo else None)) ≡ Some Badly → has c.tried p.disk ≡ true
      by true bad = absurd (cc bad)
      by false bad = absurd (cc bad)

  sees_w : Sees past (record core { pool = new.core.pool; flying = core.flying ++ flown reads.flight.ticket reads.flight.disk owner.Copy ∷ []; copy = Some (record c { step = step.Reading source }) }) w
  sees_w = subst (λ (x : ModelState). Sees past (record core { pool = new.core.pool; flying = core.flying ++ flown reads.flight.ticket reads.flight.disk owner.Copy ∷ []; copy = Some (record c { step = step.Reading source }) }) x) (sym w_is)
      (sees_step_on past core v c (step.Reading source) new.core.pool (core.flying ++ flown reads.flight.ticket reads.flight.disk owner.Copy ∷ []) w.queue q2 tied.sees reads.is_open row refl
      (put_here v1.queue q2) (λ j ne. put_there v1.queue q2 j ne ∙ put_there v.queue q1 j ne)
      (record { lv = sees.lv; first = sees.first; count = sees.count; write = sees.write; step = sees.step; hand = (refl, ap (λ b. if b then Some Flying else targets source) own_source); failed = none_failed }))

  pub read_started : IsTied past new
  read_started = subst (IsTied past) (sym reads.is)
      (copy_started past old new.device c (step.Reading source) new.core.pool reads.flight tied reads.is_open reads.launches.starts
      (let e : reads.flight.first ≡ sector_of core.descriptor.mib source.pp (block_at core c) = reads.reads.first in omega (arith, e)) row (ap is_out at_rest)
      w (λ d p is writing. absurd (let own : record c { step = step.Reading source } ≡ d = (let e : Some (record c { step = step.Reading source }) ≡ Some d = is in cc) in let e : step.Reading source ≡ step.Writing = ap (λ (x : OpenCopy). x.step) own ∙ writing in cc))
      sees_w good2 describes2 refl refl (λ p is. let own : source ≡ p = (let e : step.Reading source ≡ step.Reading p = is in cc) in subst (λ (z : Pp). IsTrue (v.is_copy c.lv (block_at core c) z)) own source_copy) (subst IsSound reads.is sound))

pub copy_read_ties : CopyReadTies
copy_read_ties past old new tied sound reads = read_started past old new tied sound reads
