-- Events that change neither requests nor blocks.
use Rattle.std.proofs.Common.{◌≡◌, inl, inr, ⊎_elim, ℕ, Some, refl, sym, ap, subst, ◌∙◌}
use Rattle.std.specs.Prelude.{IsTrue, IsFalse}
use Rattle.lvm_num.specs.declared.place.Pp.{Pp}
use Rattle.lvm_num.specs.Geometry.{track_group_of}
use Rattle.lvm_vol.specs.May.{Known}
use Rattle.lvm_invariant.specs.State.{write_of, Stage, Queued, ModelState, covers, is_past, has_landed, is_pinning, request_of, Live, Started, told}
use Rattle.lvm_invariant.proofs.Small.{IsIn}
use Rattle.lvm_invariant.specs.Sound.{Behind, Sound, Nearly}
use Rattle.lvm_invariant.proofs.UpdatesLemmas.Requests.{one_req}
use Rattle.lvm_invariant.proofs.StateLemmas.Claims.{Alike, Frame, Calmer, Quiet, Rest, keeping_blocks, keeping_volumes, keeping_requests}
use Rattle.lvm_invariant.proofs.SoundLemmas.Sound.{keeping_notes, named_same}
use Rattle.lvm_invariant.proofs.StateLemmas.Calm.{calm_blocks}
use Rattle.lvm_invariant.proofs.SoundLemmas.Framing.{frame_keeps}

-- with what it asks as it was, and whether it has more than one target
abbrev pub keeping_asked : Queued → Queued → Queued
keeping_asked r n = record n { lv = r.lv; first = r.first; count = r.count; write = r.write; value = r.value; several = r.several }

-- a request that at most goes on or lands
pub alike_by : (r n : Queued) → keeping_asked r n ≡ n → (IsTrue (is_past n.phase) → IsTrue (is_past r.phase)) → (IsFalse (has_landed n.phase) → IsFalse (has_landed r.phase))
    → (IsTrue (has_landed r.phase) → IsTrue (has_landed n.phase)) → ((c : Pp) (x : Stage) → n.targets c ≡ Some x → (y : Stage) × (r.targets c ≡ Some y))
    → ((c : Pp) (x : Stage) → r.targets c ≡ Some x → (y : Stage) × (n.targets c ≡ Some y)) → Alike r n
alike_by r n same past unlanded landed aimed aimed_still = record {
  lv = ap (λ (q : Queued). q.lv) (sym same);
  first = ap (λ (q : Queued). q.first) (sym same);
  over = λ lv b. ap (λ (q : Queued). covers q lv b) (sym same);
  write = ap (λ (q : Queued). q.write) (sym same);
  value = λ b. ap (λ (q : Queued). q.value b) (sym same);
  past = past;
  unlanded = unlanded;
  landed = landed;
  several = λ h. ap (λ (q : Queued). q.several) same ∙ h;
  aimed = aimed;
  aimed_still = aimed_still;
}

pub alike_same : (r : Queued) → Alike r r
alike_same r = alike_by r r refl (λ h. h) (λ h. h) (λ h. h) (λ c x h. (x, h)) (λ c x h. (x, h))

pub nearly : (s : ModelState) → Sound s → Nearly s
nearly s sound = record { blocks = sound.blocks; tied = sound.tied; statuses = sound.statuses; notes = sound.notes; holds = sound.holds }

module _ (old new : ModelState) (quiet : Quiet old new) (was : Nearly old) where
  same_queue : (i : ℕ) → new.queue i ≡ old.queue i
  same_queue i = ap (λ (s : ModelState). s.queue i) (sym quiet.same)

  same_known : (lv b : ℕ) → told new lv b ≡ told old lv b
  same_known lv b = ap (λ (s : ModelState). told s lv b) (sym quiet.same)

  same_block : (lv b : ℕ) (c : Pp) → new.media.block lv b c ≡ old.media.block lv b c
  same_block lv b c = ap (λ (s : ModelState). s.media.block lv b c) (sym quiet.same)

  same_cache : (lv g : ℕ) → new.cache lv g ≡ old.cache lv g
  same_cache lv g = ap (λ (s : ModelState). s.cache lv g) (sym quiet.same)

  same_started : (i : ℕ) (r : Queued) → Started new i r → Started old i r
  same_started i r started = record { there = sym (same_queue i) ∙ started.there; write = started.write; going = started.going }

  still_started : (i : ℕ) (r : Queued) → Started old i r → Started new i r
  still_started i r started = record { there = same_queue i ∙ started.there; write = started.write; going = started.going }

  calmer : Calmer old new
  calmer = record {
    started = same_started;
    started_still = still_started;
    may = λ lv b. ap (λ (k : Known). k.values) (same_known lv b);
    loose = λ lv b h. ap (λ (k : Known). k.loose) (same_known lv b) ∙ h;
    same = subst (λ (s : ModelState). keeping_blocks old s ≡ s) quiet.same refl;
    live = quiet.live;
    dirty = quiet.dirty;
    missing_still = quiet.missing_still;
    named_missing = quiet.named_missing;
    named_started = λ i lv b d r started over on several named.
        let place = was.tied.place i r started.there lv b over in
        let cached = was.notes.pinned i r started.there started.write (ap is_pinning started.going) (subst (λ (v : ℕ). IsTrue (old.is_active v)) place.0 on) several in
        quiet.named_pinned d lv (track_group_of b) ((λ t. old.cache (place.0 t) (place.1 t)) ∙ cached) named;
  }

  frame : Frame old new
  frame = record {
    from = λ i n there. (n, sym (same_queue i) ∙ there, alike_same n);
    writes = λ i n there write unlanded lv b. ap (λ (s : ModelState). write_of b (told s lv b) (request_of s i)) (sym quiet.same);
    same = subst (λ (s : ModelState). keeping_volumes old s ≡ s) quiet.same refl;
    modes = λ lv b. ap (λ (k : Known). k.mode) (same_known lv b);
    tight = λ lv b c copy on. ap (λ (k : Known). k.loose) (same_known lv b) ∙ was.tied.tight lv b c (ap (λ (s : ModelState). s.is_copy lv b c) quiet.same ∙ copy)
        (⊎_elim (λ (a : IsTrue (new.is_active lv)). inl (ap (λ (s : ModelState). s.is_active lv) quiet.same ∙ a)) (λ (a : IsTrue (new.is_passive lv)). inr (ap (λ (s : ModelState). s.is_passive lv) quiet.same ∙ a)) on);
    seen = λ i lv b r n v seen there past. (
      subst (λ (k : Known). IsIn k.values v) (sym (same_known lv b)) seen.allowed,
      ⊎_elim
          (λ (loose : IsTrue (told old lv b).loose). inl (ap (λ (k : Known). k.loose) (same_known lv b) ∙ loose))
          (λ (equal : (e : Pp) → Live old lv b e → old.media.block lv b e ≡ v). inr (λ e live. same_block lv b e ∙ equal e (quiet.live lv b e live)))
          seen.equal,
    );
    still = λ i lv b r n c seen there past. same_block lv b c;
    got = λ i r n value was_r is_n got. inl (ap (λ (q : Queued). q.got) (one_req (sym was_r ∙ sym (same_queue i) ∙ is_n)) ∙ got);
    pinning = λ i r n was_r is_n write pins on several. inl (ap (λ (q : Queued). is_pinning q.phase) (one_req (sym was_r ∙ sym (same_queue i) ∙ is_n)) ∙ pins);
    cache = λ i r there write pinning on several h. same_cache r.lv (track_group_of r.first) ∙ h;
  }

  pub quiet_nearly : Rest new → Nearly new
  quiet_nearly rest =
      let f = frame_keeps old new frame was in
      record { blocks = calm_blocks old new calmer was.blocks; tied = f.0; statuses = rest.statuses; notes = record { home = rest.home; pinned = f.2 }; holds = f.1 }

-- an event that leaves the notes alone too
pub quiet_of : (old new : ModelState) → keeping_requests old new ≡ new → keeping_notes old new ≡ new → ((lv b : ℕ) (c : Pp) → Live new lv b c → Live old lv b c)
    → ((lv : ℕ) → IsTrue (old.committed.value.dirty lv) → IsTrue (new.committed.value.dirty lv)) → ((d : ℕ) → IsTrue (old.missing d) → IsTrue (new.missing d)) → Quiet old new
quiet_of old new same notes live dirty missing = record {
  same = same;
  dirty = dirty;
  live = live;
  missing_still = missing;
  named_missing = λ d lv g gone named. named_same old new notes d lv g named;
  named_pinned = λ d lv g cached named. named_same old new notes d lv g named;
}

-- and what a missing disk entails is shown apart
pub quiet_sound : (old new : ModelState) → Quiet old new → Sound old → Rest new → Behind new → Sound new
quiet_sound old new quiet sound rest behind =
    let n = quiet_nearly old new quiet (nearly old sound) rest in
    record { blocks = n.blocks; tied = n.tied; statuses = n.statuses; behind = behind; notes = n.notes; holds = n.holds }
