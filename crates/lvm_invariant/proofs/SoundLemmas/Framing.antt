-- What an event leaves of the requests and of what reads see.
use Rattle.std.proofs.Common.{◌≡◌, ◌⊎◌, inl, inr, ⊎_elim, ℕ, Bool, ◌&&◌, List, Option, Some, None, sym, ap, subst, ◌∙◌}
use Rattle.std.specs.Prelude.{IsTrue, if◌then◌else◌}
use Rattle.lvm_num.specs.declared.place.Pp.{Pp}
use Rattle.lvm_num.specs.Geometry.{track_group_of}
use Rattle.lvm_vol.specs.May.{is_off}
use Rattle.lvm_invariant.proofs.Small.{IsIn}
use Rattle.lvm_invariant.specs.State.{Stage, Queued, ModelState, covers, is_pinning, Live, told}
use Rattle.lvm_invariant.specs.Sound.{Conflict, Blocks, Tied, ModelHolds, Nearly, Sound}
use Rattle.lvm_invariant.proofs.SoundLemmas.Sound.{keeping_records, same_statuses, same_behind, same_records, same_home}
use Rattle.lvm_invariant.proofs.StateLemmas.Claims.{Alike, Seen, Frame, FrameKeeps}

abbrev some_if : Bool → List ℕ → Option (List ℕ)
some_if test w = if test then Some w else None

same_write : (a b c d : Bool) (v w : List ℕ) → a ≡ b → c ≡ d → v ≡ w → some_if (a && c) v ≡ some_if (b && d) w
same_write a b c d v w p q e = λ t. some_if (p t && q t) (e t)

module _ (old new : ModelState) (frame : Frame old new) (sound : Nearly old) where
  same_active : (lv : ℕ) → new.is_active lv ≡ old.is_active lv
  same_active lv = ap (λ (s : ModelState). s.is_active lv) (sym frame.same)

  same_passive : (lv : ℕ) → new.is_passive lv ≡ old.is_passive lv
  same_passive lv = ap (λ (s : ModelState). s.is_passive lv) (sym frame.same)

  same_copies : (lv b : ℕ) → new.is_copy lv b ≡ old.is_copy lv b
  same_copies lv b = ap (λ (s : ModelState). s.is_copy lv b) (sym frame.same)

  conflict_before : (r n e m : Queued) → Alike r n → Alike e m → Conflict m n → Conflict e r
  conflict_before r n e m a c k = record {
    lv = k.lv;
    block = k.block;
    first = sym (c.over k.lv k.block) ∙ k.first;
    second = sym (a.over k.lv k.block) ∙ k.second;
    writes = ⊎_elim (λ (w : IsTrue m.write). inl (sym c.write ∙ w)) (λ (w : IsTrue n.write). inr (sym a.write ∙ w)) k.writes;
  }

  pub tied : Tied new
  tied = record {
    open_writes = λ i n there write unlanded lv b.
        let f = frame.from i n there in
        frame.writes i n there write unlanded lv b ∙ sound.tied.open_writes i f.0 f.1 (sym f.2.write ∙ write) (f.2.unlanded unlanded) lv b
        ∙ sym (same_write n.write f.0.write (covers n lv b) (covers f.0 lv b) (n.value b) (f.0.value b) f.2.write (f.2.over lv b) (f.2.value b));
    modes = λ lv b c copy off soft. ap is_off (frame.modes lv b) ∙ sound.tied.modes lv b c (ap (λ (f : Pp → Bool). f c) (sym (same_copies lv b)) ∙ copy) (sym (same_active lv) ∙ off) (sym (same_passive lv) ∙ soft);
    tight = frame.tight;
    owner = λ lv b l d c e x y z. ap (λ (f : Pp → Bool). f e) (same_copies lv b) ∙ sound.tied.owner lv b l d c e (ap (λ (f : Pp → Bool). f c) (sym (same_copies lv b)) ∙ x) (ap (λ (f : Pp → Bool). f c) (sym (same_copies l d)) ∙ y) (ap (λ (f : Pp → Bool). f e) (sym (same_copies l d)) ∙ z);
    inside = λ i n there lv b over. let f = frame.from i n there in let k = sound.tied.inside i f.0 f.1 lv b (sym (f.2.over lv b) ∙ over) in (k.0, ap (λ (g : Pp → Bool). g k.0) (same_copies lv b) ∙ k.1);
    place = λ i n there lv b over.
        let f = frame.from i n there in
        let p = sound.tied.place i f.0 f.1 lv b (sym (f.2.over lv b) ∙ over) in (
          p.0 ∙ sym f.2.lv,
          p.1 ∙ ap track_group_of (sym f.2.first),
          ap (λ (v : ℕ). new.is_copy v b) f.2.lv ∙ same_copies f.0.lv b ∙ p.2 ∙ sym (same_copies f.0.lv f.0.first) ∙ sym (λ t. new.is_copy (f.2.lv t) (f.2.first t)),
        );
  }

  pub holds : ModelHolds new
  holds = record {
    order = λ i j n m at_i at_j low conflict past.
        let f = frame.from i n at_i in
        let g = frame.from j m at_j in
        g.2.landed (sound.holds.order i j f.0 g.0 f.1 g.1 low (conflict_before f.0 n g.0 m f.2 g.2 conflict) (f.2.past past));
    reads = λ i lv b n there read past over c x at.
        let f = frame.from i n there in
        let was = f.2.aimed c x at in
        let r_read = sym f.2.write ∙ read in
        let r_past = f.2.past past in
        let r_over = sym (f.2.over lv b) ∙ over in
        let h = sound.holds.reads i lv b f.0 f.1 r_read r_past r_over c was.0 was.1 in
        let seen : Seen old i f.0 lv b (old.media.block lv b c) = record { there = f.1; read = r_read; past = r_past; over = r_over; allowed = h.0; equal = h.1 } in
        let now = frame.seen i lv b f.0 n (old.media.block lv b c) seen there past in
        let same = frame.still i lv b f.0 n c seen there past in
        subst (λ (v : List ℕ). IsIn (told new lv b).values v × (IsTrue (told new lv b).loose ⊎ ((e : Pp) → Live new lv b e → new.media.block lv b e ≡ v))) (sym same) now;
    got = λ i lv b n value there read past got over.
        let f = frame.from i n there in
        let r_read = sym f.2.write ∙ read in
        let r_past = f.2.past past in
        let r_over = sym (f.2.over lv b) ∙ over in
        ⊎_elim
        (λ (was : f.0.got ≡ Some value).
        let h = sound.holds.got i lv b f.0 value f.1 r_read r_past was r_over in
        frame.seen i lv b f.0 n (value b) (record { there = f.1; read = r_read; past = r_past; over = r_over; allowed = h.0; equal = h.1 }) there past)
        (λ (is : (lv b : ℕ) → IsTrue (covers n lv b) → (c : Pp) × (x : Stage) × (f.0.targets c ≡ Some x) × (value b ≡ old.media.block lv b c)).
        let g = is lv b over in
        let h = sound.holds.reads i lv b f.0 f.1 r_read r_past r_over g.0 g.1 g.2 in
        frame.seen i lv b f.0 n (value b) (record {
          there = f.1;
          read = r_read;
          past = r_past;
          over = r_over;
          allowed = subst (IsIn (told old lv b).values) (sym g.3) h.0;
          equal = ⊎_elim (λ (loose : IsTrue (told old lv b).loose). inl loose) (λ (eq : (e : Pp) → Live old lv b e → old.media.block lv b e ≡ old.media.block lv b g.0). inr (λ e live. eq e live ∙ sym g.3)) h.1;
        }) there past)
        (frame.got i f.0 n value f.1 there got);
  }

pub frame_keeps : FrameKeeps
frame_keeps old new frame sound = (
  tied old new frame sound,
  holds old new frame sound,
  λ i n there write pinning on several.
      let f = frame.from i n there in
      let was_on = sym (same_active old new frame sound f.0.lv) ∙ ap new.is_active (sym f.2.lv) ∙ on in
      ⊎_elim
      (λ (pins : IsTrue (is_pinning f.0.phase)).
      let h = frame.cache i f.0 f.1 (sym f.2.write ∙ write) pins was_on (f.2.several several) (sound.notes.pinned i f.0 f.1 (sym f.2.write ∙ write) pins was_on (f.2.several several)) in
      (λ t. new.cache (f.2.lv t) (track_group_of (f.2.first t))) ∙ h)
      (λ (now : IsTrue (new.cache n.lv (track_group_of n.first))). now)
      (frame.pinning i f.0 n f.1 there write pinning on several),
)

-- an event that leaves the records alone, and of which the blocks are shown
pub framed : (old new : ModelState) → Frame old new → keeping_records old new ≡ new → Blocks new → Sound old → Sound new
framed old new frame same blocks sound =
    let f = frame_keeps old new frame (record { blocks = sound.blocks; tied = sound.tied; statuses = sound.statuses; notes = sound.notes; holds = sound.holds }) in
    record {
      blocks = blocks;
      tied = f.0;
      statuses = same_statuses old new (same_records old new same) sound.statuses;
      behind = same_behind old new (same_records old new same) sound.behind;
      notes = record { home = same_home old new same sound.notes.home; pinned = f.2 };
      holds = f.1;
    }
