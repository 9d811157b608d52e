-- The write by which a copy is brought up, tied as it starts.
use Rattle.std.proofs.Common.{◌≡◌, inl, inr, ℕ, zero, suc, ◌+◌, ◌-◌, ◌<◌, true, false, ◌&&◌, not, List, [], ◌∷◌, ◌++◌, length, Option, Some, refl, sym, ap, subst, ◌∙◌, arith}
use Rattle.std.specs.Prelude.{IfSome, slice_get, slice_index_or}
use Rattle.std.proofs.lemmas.Bool.{and_parts}
use Rattle.lvm_num.specs.Buffer.{Buffer, Sector}
use Rattle.lvm_num.specs.Geometry.{sector_of}
use Rattle.lvm_vol.specs.Facts.{Fact}
use Rattle.lvm_disk.specs.Device.{image_of}
use Rattle.lvm_kept.specs.Contents.{contents_of}
use Rattle.lvm_session.specs.declared.bringing.OpenCopy.{OpenCopy}
use Rattle.lvm_session.specs.declared.bringing.Step.{Step}
use Rattle.lvm_session.specs.declared.bringing.Step.TheVariants as step
use Rattle.lvm_session.specs.declared.flown.Owner.TheVariants as owner
use Rattle.lvm_session.specs.State.{Core, State}
use Rattle.lvm_session.specs.Judging.{is_running}
use Rattle.lvm_session.specs.Bringing.{block_at, hand_of, has_row, is_idle, is_out, is_whole}
use Rattle.lvm_session.specs.Events.{WritesCopy, flown}
use Rattle.lvm_session.specs.Sound.{IsCopy, IsSound}
use Rattle.lvm_invariant.specs.State.{Queued, ModelState, StepWrite, is_past}
use Rattle.lvm_invariant.specs.CopyWrite.{copied}
use Rattle.lvm_invariant.specs.Events.{CopyWrite, ModelStep}
use Rattle.lvm_invariant.proofs.EventsLemmas.Each.{each_keeps}
use Rattle.lvm_crash.proofs.RecordsLemmas.Quiet.{quiet_lasts}
use Rattle.lvm_tie.specs.Out.{CarriesStep}
use Rattle.lvm_tie.specs.Seen.{Sees, SeesHand, SeesStep, update_of}
use Rattle.lvm_tie.specs.Tied.{IsTied}
use Rattle.lvm_tie.proofs.StateLemmas.{copy_is}
use Rattle.lvm_tie.proofs.AmongLemmas.{or_true}
use Rattle.lvm_tie.specs.Starts.{CopyWriteTies}
use Rattle.lvm_tie.proofs.SeenLemmas.CopySteps.{copy_started, sees_step_on}

module _ (past : List Fact) (old new : State) (tied : IsTied past old) (sound : IsSound new) (writes : WritesCopy old new) where
  abbrev core : Core
  core = old.core

  abbrev v : ModelState
  v = tied.view

  abbrev c : OpenCopy
  c = writes.copy

  runs : is_running c ≡ true
  runs = (and_parts (is_running c) _ writes.may).0

  its_copy : IsCopy core c
  its_copy = copy_is past old tied c writes.is_open

  part : is_whole core c ≡ false
  part = its_copy.under_way runs (ap is_idle writes.in_hand)

  row : has_row core c ≡ true
  row = or_true (is_out c.step) (is_running c && not (is_whole core c)) (inr (λ t. runs t && not (part t)))

  abbrev q : Queued
  q = (tied.sees.queue.a_step c writes.is_open row).0

  at : v.queue c.place ≡ Some q
  at = (tied.sees.queue.a_step c writes.is_open row).1

  sees : SeesStep core c q
  sees = (tied.sees.queue.a_step c writes.is_open row).2

  hand : SeesHand (step.Read writes.buf) q
  hand = subst (λ (s : Step). SeesHand s q) writes.in_hand sees.hand

  abbrev value : ℕ → Sector
  value = hand.1

  abbrev step_write : Option StepWrite
  step_write = Some (record { target = c.pp; place = c.place })

  abbrev w : ModelState
  w = copied v v.media.block v.open_copy step_write

  write_step : ModelStep tied.votes (CopyWrite c.place q value c.pp v.open_copy step_write v.media.block) v w
  write_step = (
    record {
      there = at;
      read = sees.write;
      past = ap is_past hand.0;
      got = hand.2;
      media = λ lv b e. inl refl;
      open_now = inl refl;
    },
    refl,
  )

  long : length writes.buf.sectors ≡ 256
  long = subst (λ (s : Step). IfSome (hand_of s) (λ (buf : Buffer). length buf.sectors ≡ 256)) writes.in_hand its_copy.room

  get_index : (xs : List Sector) (k : ℕ) → k < length xs → slice_get xs k ≡ Some (slice_index_or xs k [])
  get_index [] k lt = absurd (omega (arith, lt))
  get_index (x ∷ xs) zero lt = refl
  get_index (x ∷ xs) (suc k) lt = get_index xs k (omega (arith, lt))

  carried : (k : ℕ) → k < 256 → slice_get writes.flight.buf.sectors k ≡ Some (value (q.first + k))
  carried k lt =
      let back : (q.first + k) - q.first ≡ k = omega arith in
      ap (λ (b : Buffer). slice_get b.sectors k) writes.carries ∙ get_index writes.buf.sectors k (omega (arith, lt, long)) ∙ ap (λ n. Some (slice_index_or writes.buf.sectors n [])) (sym back) ∙ ap (λ (x : Sector). Some x) (sym (hand.3 (q.first + k)))

  abbrev new_core : Core
  new_core = record core { pool = core.pool; flying = core.flying ++ flown writes.flight.ticket writes.flight.disk owner.Copy ∷ []; copy = Some (record c { step = step.Writing }) }

  sees_w : Sees past new_core w
  sees_w = sees_step_on past core v c step.Writing core.pool (core.flying ++ flown writes.flight.ticket writes.flight.disk owner.Copy ∷ []) v.queue q tied.sees writes.is_open row refl at (λ j ne. refl)
      (record { lv = sees.lv; first = sees.first; count = sees.count; write = sees.write; step = sees.step; hand = (hand.0, value, hand.2); failed = sees.failed })

  carries : CarriesStep new_core w writes.flight owner.Copy
  carries d p is writing here =
      let own : record c { step = step.Writing } ≡ d = (let e : Some (record c { step = step.Writing }) ≡ Some d = is in cc) in
      let same : q ≡ p = (let e : Some q ≡ Some p = sym at ∙ ap (λ (x : OpenCopy). v.queue x.place) own ∙ here in cc) in
      subst (λ (x : Queued). (f : ℕ → Sector) × (x.got ≡ Some f) × ((k : ℕ) → k < 256 → slice_get writes.flight.buf.sectors k ≡ Some (f (x.first + k)))) same (value, hand.2, carried)

  pub write_started : IsTied past new
  write_started = subst (IsTied past) (sym writes.is)
      (copy_started past old new.device c step.Writing core.pool writes.flight tied writes.is_open writes.starts
      (let e : writes.flight.first ≡ sector_of core.descriptor.mib c.pp.pp (block_at core c) = writes.writes.first in omega (arith, e)) row (ap is_out writes.in_hand)
      w carries sees_w
      (each_keeps tied.votes (CopyWrite c.place q value c.pp v.open_copy step_write v.media.block) v w write_step tied.good)
      (quiet_lasts tied.votes (CopyWrite c.place q value c.pp v.open_copy step_write v.media.block) v w core.descriptor (update_of core.status) (contents_of (image_of old.device.sizes tied.media)) write_step tied.good tt tied.describes refl refl refl)
      refl refl (λ p is. absurd (let e : step.Writing ≡ step.Reading p = is in cc)) (subst IsSound writes.is sound))

pub copy_write_ties : CopyWriteTies
copy_write_ties past old new tied sound writes = write_started past old new tied sound writes
