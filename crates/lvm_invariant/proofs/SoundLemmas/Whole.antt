-- Each event keeps what is true of a session.
use Rattle.std.proofs.Common.{◌≡◌, inl, inr, ⊎_elim, ℕ, Bool, true, false, Option, Some, None, refl, sym, ap, subst, ◌∙◌, eqb-true}
use Rattle.std.specs.Prelude.{IsTrue, IsFalse, ◌==◌, if◌then◌else◌, List}
use Rattle.std.proofs.lemmas.Bool.{cases_Bool}
use Rattle.lvm_num.specs.declared.place.Pp.{Pp}
use Rattle.lvm_num.specs.Record.{Stamped}
use Rattle.lvm_num.proofs.Booleans.{clash_gives}
use Rattle.lvm_invariant.specs.State.{Marks, Queued, ModelState, has_landed, is_pinning, Live, Started, told, write_of}
use Rattle.lvm_invariant.specs.Sound.{Sound}
use Rattle.lvm_invariant.proofs.SoundLemmas.Sound.{live_same, same_behind, same_statuses}
use Rattle.lvm_invariant.proofs.StateLemmas.Claims.{Frame, Calmer}
use Rattle.lvm_invariant.proofs.Small.{IsIn}
use Rattle.lvm_invariant.proofs.UpdatesLemmas.Requests.{one_req}
use Rattle.lvm_invariant.proofs.StateLemmas.Calm.{calm_blocks, calmer_of}
use Rattle.lvm_invariant.proofs.StateLemmas.Quieting.{alike_same, quiet_of, quiet_sound}
use Rattle.lvm_invariant.specs.Take.{TakesAnswerOf}
use Rattle.lvm_invariant.specs.Updates.{without, with_status}
use Rattle.lvm_vol.specs.declared.entry.Vol.TheVariants.{Lv}
use Rattle.lvm_vol.specs.Facts.{Fact}
use Rattle.lvm_vol.specs.May.{Known, known}
use Rattle.lvm_invariant.proofs.SoundLemmas.Framing.{framed}

-- ---- a status moves

module _ (s : ModelState) (status : ℕ → Option (Stamped Marks)) (flying : ℕ → Bool) (sound : Sound s) where
  abbrev moved : ModelState
  moved = record s { media = with_status s.media status; status_flying = flying }

  pub moved_core : Sound moved
  moved_core = quiet_sound s moved (quiet_of s moved refl refl (live_same s moved refl) (λ lv h. h) (λ d h. h)) sound
      (record { home = sound.notes.home; statuses = same_statuses s moved refl sound.statuses }) (same_behind s moved refl sound.behind)

-- ---- a request is taken

-- Requests leave the queue that are no writes under way, and the history goes on with what changes nothing that is known of blocks.
module _ (s : ModelState) (queue : ℕ → Option Queued) (before : (j : ℕ) (e : Queued) → queue j ≡ Some e → s.queue j ≡ Some e) (stays : (j : ℕ) (e : Queued) → Started s j e → queue j ≡ Some e)
    (sound : Sound s) (facts : List Fact) (same_known : (lv b : ℕ) → known facts (Lv lv) b ≡ told s lv b) where
  abbrev taken : ModelState
  taken = record s { queue = queue; facts = facts }

  pub left_core : Sound taken
  left_core =
      let calmer : Calmer s taken = calmer_of s taken refl (λ j e started. record { there = before j e started.there; write = started.write; going = started.going }) (λ j e started. record { there = stays j e started; write = started.write; going = started.going })
      (λ lv b. ap (λ (k : Known). k.values) (same_known lv b)) (λ lv b. ap (λ (k : Known). k.loose) (same_known lv b)) in
      let frame : Frame s taken = record {
        from = λ j n h. (n, before j n h, alike_same n);
        writes = λ j n h write unlanded lv b. ap (λ (k : Known). write_of b k (s.name j)) (same_known lv b);
        same = refl;
        modes = λ lv b. ap (λ (k : Known). k.mode) (same_known lv b);
        tight = λ lv b c copy on. ap (λ (k : Known). k.loose) (same_known lv b) ∙ sound.tied.tight lv b c copy on;
        seen = λ j lv b e n v seen h past. (
          subst (λ (k : Known). IsIn k.values v) (sym (same_known lv b)) seen.allowed,
          ⊎_elim
              (λ (loose : IsTrue (told s lv b).loose). inl (ap (λ (k : Known). k.loose) (same_known lv b) ∙ loose))
              (λ (equal : (g : Pp) → Live s lv b g → s.media.block lv b g ≡ v). inr (λ g live. equal g (live_same s taken refl lv b g live)))
              seen.equal,
        );
        still = λ j lv b e n c seen h past. refl;
        got = λ j e n v was is got. inl (ap (λ (q : Queued). q.got) (one_req (sym was ∙ before j n is)) ∙ got);
        pinning = λ j e n was is write pins on several. inl (ap (λ (q : Queued). is_pinning q.phase) (one_req (sym was ∙ before j n is)) ∙ pins);
        cache = λ j e h write pinning on several cached. cached;
      } in
      framed s taken frame refl (calm_blocks s taken calmer sound.blocks) sound

-- a request that has landed leaves the queue
module _ (s : ModelState) (i : ℕ) (r : Queued) (step : TakesAnswerOf s i r) where
  before : (j : ℕ) (e : Queued) → without s.queue i j ≡ Some e → s.queue j ≡ Some e
  before j e h = by_test (j == i) h
    where
      by_test : (t : Bool) → (if t then None else s.queue j) ≡ Some e → s.queue j ≡ Some e
      by_test true k = absurd cc
      by_test false k = k

  stays : (j : ℕ) (e : Queued) → Started s j e → without s.queue i j ≡ Some e
  stays j e started = ⊎_elim
      (λ (same : IsTrue (j == i)). clash_gives (has_landed r.phase) step.landed
      (ap (λ (q : Queued). has_landed q.phase) (one_req (sym step.there ∙ ap s.queue (sym (eqb-true _ _ same)) ∙ started.there)) ∙ ap has_landed started.going))
      (λ (other : IsFalse (j == i)). ap (λ (t : Bool). if t then None else s.queue j) other ∙ started.there)
      (cases_Bool (j == i))

  pub taken_core : Sound s → (facts : List Fact) → ((lv b : ℕ) → known facts (Lv lv) b ≡ told s lv b) → Sound (record s { queue = without s.queue i; facts = facts })
  taken_core sound facts same_known = left_core s (without s.queue i) before stays sound facts same_known

-- the history goes on with what changes nothing that is known of blocks
pub told_core : (s : ModelState) → Sound s → (facts : List Fact) → ((lv b : ℕ) → known facts (Lv lv) b ≡ told s lv b) → Sound (record s { facts = facts })
told_core s sound facts same_known = left_core s s.queue (λ j e h. h) (λ j e started. started.there) sound facts same_known
