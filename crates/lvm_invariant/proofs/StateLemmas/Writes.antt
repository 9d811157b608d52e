-- What is true of a session is kept by the events of a write's data.
use Rattle.std.proofs.Common.{◌≡◌, ◌⊎◌, inl, inr, ⊎_elim, ℕ, true, false, List, Some, refl, sym, ap, subst, ◌∙◌}
use Rattle.std.specs.Prelude.{IsTrue, IsFalse, ◌==◌}
use Rattle.std.proofs.lemmas.Bool.{cases_Bool}
use Rattle.lvm_num.specs.declared.place.Pp.{Pp}
use Rattle.lvm_num.proofs.Booleans.{clash_gives}
use Rattle.lvm_vol.specs.May.{Known}
use Rattle.lvm_invariant.proofs.Small.{IsIn}
use Rattle.lvm_invariant.specs.State.{Stage, Todo, Flying, Ready, Going, Landed, Queued, ModelState, covers, is_past, has_landed, is_pinning, Live, Started, told}
use Rattle.lvm_invariant.specs.Sound.{Sound, Blocks}
use Rattle.lvm_invariant.proofs.SoundLemmas.Sound.{live_same}
use Rattle.lvm_invariant.proofs.StateLemmas.Effects.{ClosesOnly}
use Rattle.lvm_invariant.proofs.StateLemmas.Claims.{Alike, Seen, Frame, FirstKeeps, RestagingKeeps, DoneKeeps, LostKeeps}
use Rattle.lvm_invariant.proofs.UpdatesLemmas.Requests.{put_cases, staged_was, staged_is, alone, past_of, one_req}
use Rattle.lvm_invariant.proofs.SoundLemmas.StartFirst.{first_blocks}
use Rattle.lvm_invariant.proofs.SoundLemmas.Restage.{restaged_blocks}
use Rattle.lvm_invariant.proofs.SoundLemmas.Landing.{done_blocks, lost_blocks}
use Rattle.lvm_invariant.proofs.StateLemmas.Quieting.{alike_by, alike_same}
use Rattle.lvm_vol.specs.Facts.{Fact}
use Rattle.lvm_invariant.specs.StartWrite.{MayStartWrite, going}
use Rattle.lvm_invariant.specs.Updates.{put, staged, land, landed}
use Rattle.lvm_invariant.proofs.SoundLemmas.Framing.{framed}

module _ (s : ModelState) (sound : Sound s) (i : ℕ) (r n : Queued) (there : s.queue i ≡ Some r) (alike : Alike r n) where
  -- the requests afterwards, each with what it was
  pub from_put : (j : ℕ) (m : Queued) → put s.queue i n j ≡ Some m → (e : Queued) × (s.queue j ≡ Some e) × Alike e m
  from_put j m h = ⊎_elim
      (λ (is : (j ≡ i) × (n ≡ m)). (r, ap s.queue is.0 ∙ there, subst (λ (q : Queued). Alike r q) is.1 alike))
      (λ (other : IsFalse (j == i) × (s.queue j ≡ Some m)). (m, other.1, alike_same m))
      (put_cases s.queue i j n m h)

  -- what a request got, and whether it pins its entry, is as before if the changed one's is
  pub got_put : ((value : ℕ → List ℕ) → n.got ≡ Some value → r.got ≡ Some value) → (j : ℕ) (e m : Queued) (value : ℕ → List ℕ) → s.queue j ≡ Some e → put s.queue i n j ≡ Some m → m.got ≡ Some value → e.got ≡ Some value
  got_put back j e m value was is got = ⊎_elim
      (λ (k : (j ≡ i) × (n ≡ m)). ap (λ (q : Queued). q.got) (one_req (sym was ∙ ap s.queue k.0 ∙ there)) ∙ back value (ap (λ (q : Queued). q.got) k.1 ∙ got))
      (λ (other : IsFalse (j == i) × (s.queue j ≡ Some m)). ap (λ (q : Queued). q.got) (one_req (sym was ∙ other.1)) ∙ got)
      (put_cases s.queue i j n m is)

  pub pins_put : (IsTrue (is_pinning n.phase) → IsTrue (is_pinning r.phase)) → (j : ℕ) (e m : Queued) → s.queue j ≡ Some e → put s.queue i n j ≡ Some m → IsTrue (is_pinning m.phase) → IsTrue (is_pinning e.phase)
  pins_put back j e m was is pins = ⊎_elim
      (λ (k : (j ≡ i) × (n ≡ m)). ap (λ (q : Queued). is_pinning q.phase) (one_req (sym was ∙ ap s.queue k.0 ∙ there)) ∙ back (ap (λ (q : Queued). is_pinning q.phase) k.1 ∙ pins))
      (λ (other : IsFalse (j == i) × (s.queue j ≡ Some m)). ap (λ (q : Queued). is_pinning q.phase) (one_req (sym was ∙ other.1)) ∙ pins)
      (put_cases s.queue i j n m is)

  -- a write that is past Held and a read don't go over one block
  pub not_read : IsTrue r.write → IsTrue (is_past r.phase) → (j lv b : ℕ) (e : Queued) (v : List ℕ) → Seen s j e lv b v → IsTrue (covers r lv b) → ⊥
  not_read write past j lv b e v seen over =
      let same : i ≡ j = alone s sound i j r e there seen.there past seen.past (record { lv = lv; block = b; first = over; second = seen.over; writes = inl write }) in
      let is : r ≡ e = one_req (sym there ∙ ap s.queue same ∙ seen.there) in
      clash_gives r.write write (ap (λ (q : Queued). q.write) is ∙ seen.read)

-- ---- a transfer starts or ends

staged_alike : (r : Queued) (c : Pp) (stage x : Stage) → r.targets c ≡ Some x → Alike r (record r { targets = staged r.targets c stage })
staged_alike r c stage x was = alike_by r (record r { targets = staged r.targets c stage }) refl (λ h. h) (λ h. h) (λ h. h)
    (λ e y at. staged_was r.targets c e stage y at x was) (λ e y at. staged_is r.targets c e stage y at)

-- the write goes on: where it doesn't go, the blocks are as before
module _ (s : ModelState) (sound : Sound s) (i : ℕ) (r n : Queued) (block : ℕ → ℕ → Pp → List ℕ) (there : s.queue i ≡ Some r) (alike : Alike r n) (write : IsTrue r.write) (past : IsTrue (is_past r.phase))
    (got : n.got ≡ r.got) (pinning : IsTrue (is_pinning r.phase)) (media : (lv b : ℕ) (g : Pp) → (block lv b g ≡ s.media.block lv b g) ⊎ IsTrue (covers r lv b)) where
  abbrev gone_on : ModelState
  gone_on = record s { media = record s.media { block = block }; queue = put s.queue i n }

  unread : (j lv b : ℕ) (e : Queued) (v : List ℕ) → Seen s j e lv b v → (g : Pp) → block lv b g ≡ s.media.block lv b g
  unread j lv b e v seen g = ⊎_elim
      (λ (k : block lv b g ≡ s.media.block lv b g). k)
      (λ (over : IsTrue (covers r lv b)). absurd (not_read s sound i r n there alike write past j lv b e v seen over))
      (media lv b g)

  pub goes_on : Blocks gone_on → Sound gone_on
  goes_on blocks = framed s gone_on (record {
    from = λ j m h. from_put s sound i r n there alike j m h;
    writes = λ j m h write unlanded lv b. refl;
    same = refl;
    modes = λ lv b. refl;
    tight = sound.tied.tight;
    seen = λ j lv b e m v seen h past. (
      seen.allowed,
      ⊎_elim
          (λ (loose : IsTrue (told s lv b).loose). inl loose)
          (λ (equal : (g : Pp) → Live s lv b g → s.media.block lv b g ≡ v). inr (λ g live. unread j lv b e v seen g ∙ equal g (live_same s gone_on refl lv b g live)))
          seen.equal,
    );
    still = λ j lv b e m f seen h past. unread j lv b e (s.media.block lv b f) seen f;
    got = λ j e m value was is h. inl (got_put s sound i r n there alike (λ v k. sym got ∙ k) j e m value was is h);
    pinning = λ j e m was is write pins on several. inl (pins_put s sound i r n there alike (λ h. pinning) j e m was is pins);
    cache = λ j e h write pinning on several cached. cached;
  }) refl blocks sound

pub restaging_keeps : RestagingKeeps
restaging_keeps s i r c stage block step sound =
    goes_on s sound i r (record r { targets = staged r.targets c stage }) block step.started.there (staged_alike r c stage step.was.0 step.was.1) step.started.write (past_of r.phase Going step.started.going refl)
    refl (ap is_pinning step.started.going) (λ lv b g. ⊎_elim (λ (k : block lv b g ≡ s.media.block lv b g). inl k) (λ (k : IsTrue (covers r lv b) × (g ≡ c) × (block lv b g ≡ r.value b)). inr k.0) (step.media lv b g))
    (restaged_blocks s sound i r c stage block step)

going_alike : (s : ModelState) (i : ℕ) (r : Queued) (c : Pp) → MayStartWrite s i r c → Alike r (going r c)
going_alike s i r c may = alike_by r (going r c) refl (λ h. past_of r.phase Ready may.ready refl) (λ h. ap has_landed may.ready) (λ h. clash_gives (has_landed r.phase) h (ap has_landed may.ready))
    (λ e y at. staged_was r.targets c e Flying y at Todo may.target) (λ e y at. staged_is r.targets c e Flying y at)

pub first_keeps : FirstKeeps
first_keeps s i r c may sound = goes_on s sound i r (going r c) s.media.block may.there (going_alike s i r c may) may.write (past_of r.phase Ready may.ready refl)
    refl (ap is_pinning may.ready) (λ lv b g. inl refl) (first_blocks s sound i r c may)

-- ---- landing

pub land_alike : (r : Queued) → IsFalse (has_landed r.phase) → Alike r (land r)
land_alike r un = alike_by r (land r) refl (λ h. off h) (λ h. clash_gives true refl h) (λ h. refl) (λ e y at. (y, at)) (λ e y at. (y, at))
  where
    off : {X : Type 0} → IsTrue (is_past Landed) → X
    off h = absurd cc

module _ (s : ModelState) (sound : Sound s) (i : ℕ) (r : Queued) (facts : List Fact) (started : Started s i r) (closes : ClosesOnly s i r facts) where
  un : IsFalse (has_landed r.phase)
  un = ap has_landed started.going

  land_frame : Frame s (landed s i r facts)
  land_frame = record {
    from = λ j m h. from_put s sound i r (land r) started.there (land_alike r un) j m h;
    writes = λ j m h write unlanded lv b. ⊎_elim
        (λ (is : (j ≡ i) × (land r ≡ m)). clash_gives (has_landed m.phase) (ap (λ (q : Queued). has_landed q.phase) (sym is.1)) unlanded)
        (λ (other : IsFalse (j == i) × (s.queue j ≡ Some m)). closes.others lv b j m other.1 write other.0)
        (put_cases s.queue i j (land r) m h);
    same = refl;
    modes = closes.modes;
    tight = closes.tight;
    seen = λ j lv b e m v seen h past.
        let off : IsFalse (covers r lv b) = ⊎_elim
        (λ (over : IsTrue (covers r lv b)). absurd (not_read s sound i r (land r) started.there (land_alike r un) started.write (past_of r.phase Going started.going refl) j lv b e v seen over))
        (λ (k : IsFalse (covers r lv b)). k)
        (cases_Bool (covers r lv b)) in
        let same = closes.outside lv b off in (
          subst (λ (k : Known). IsIn k.values v) (sym same) seen.allowed,
          ⊎_elim
              (λ (loose : IsTrue (told s lv b).loose). inl (ap (λ (k : Known). k.loose) same ∙ loose))
              (λ (equal : (g : Pp) → Live s lv b g → s.media.block lv b g ≡ v). inr (λ g live. equal g (live_same s (landed s i r facts) refl lv b g live)))
              seen.equal,
        );
    still = λ j lv b e m f seen h past. refl;
    got = λ j e m value was is got. inl (got_put s sound i r (land r) started.there (land_alike r un) (λ v h. h) j e m value was is got);
    pinning = λ j e m was is write pins on several. inl (pins_put s sound i r (land r) started.there (land_alike r un) (λ h. clash_gives false h refl) j e m was is pins);
    cache = λ j e h write pinning on several cached. cached;
  }

pub done_keeps : DoneKeeps
done_keeps s i r facts step sound =
    framed s (landed s i r facts) (land_frame s sound i r facts step.started step.closes) refl (done_blocks s i r facts step sound) sound

pub lost_keeps : LostKeeps
lost_keeps s i r facts step sound =
    framed s (landed s i r facts) (land_frame s sound i r facts step.started step.closes) refl (lost_blocks s i r facts step sound) sound
