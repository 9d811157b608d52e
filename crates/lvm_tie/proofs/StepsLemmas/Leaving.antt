-- A step of the copy that is being brought up leaves the queue, or enters it, and the copy ends, as a good state sees it.
use Rattle.std.proofs.Common.{◌≡◌, inl, inr, ℕ, true, false, ◌==◌, if◌then◌else◌, [], ◌∷◌, ◌++◌, Option, Some, None, refl, ap, subst, ◌∙◌, arith}
use Rattle.std.specs.Prelude.{IsTrue}
use Rattle.std.proofs.lemmas.Bool.Decides.{nat_tests}
use Rattle.lvm_num.specs.declared.descriptor.Descriptor.{Descriptor}
use Rattle.lvm_num.specs.declared.status.Status.{Status}
use Rattle.lvm_num.specs.Record.{Stamped}
use Rattle.lvm_vol.specs.Facts.{Taken}
use Rattle.lvm_vol.specs.Log.{no_request}
use Rattle.lvm_kept.specs.Contents.{Contents}
use Rattle.lvm_invariant.specs.State.{ModelCopy, Queued, ModelState, has_landed}
use Rattle.lvm_invariant.specs.Updates.{land, put, with_req, without}
use Rattle.lvm_invariant.specs.EnterStep.{StepEnters, entered}
use Rattle.lvm_invariant.specs.Events.{EndStep, EnterStep, Event, ModelStep, Take, Want}
use Rattle.lvm_invariant.specs.Found.{Votes}
use Rattle.lvm_invariant.specs.Good.{Good}
use Rattle.lvm_invariant.specs.Take.{taken}
use Rattle.lvm_invariant.specs.Want.{Wants}
use Rattle.lvm_invariant.proofs.EventsLemmas.Each.{each_keeps}
use Rattle.lvm_invariant.proofs.UpdatesLemmas.Requests.{put_same}
use Rattle.lvm_crash.specs.Lasting.{AsksOf}
use Rattle.lvm_crash.specs.Session.{Describes}
use Rattle.lvm_crash.proofs.RecordsLemmas.Quiet.{quiet_lasts}

-- ---- the queue

-- a place of the queue whose step has ended and left it
abbrev pub gone : (ℕ → Option Queued) → ℕ → Queued → ℕ → Option Queued
gone queue i q = without (put queue i (land q)) i

pub put_there : (queue : ℕ → Option Queued) (i : ℕ) (q : Queued) (j : ℕ) → (j ≡ i → ⊥) → put queue i q j ≡ queue j
put_there queue i q j ne = let test : (j == i) ≡ false = grind (arith, nat_tests) in ap (λ b. if b then Some q else queue j) test

pub gone_here : (queue : ℕ → Option Queued) (i : ℕ) (q : Queued) → gone queue i q i ≡ None
gone_here queue i q = let test : (i == i) ≡ true = grind (arith, nat_tests) in ap (λ b. if b then None else put queue i (land q) i) test

pub gone_there : (queue : ℕ → Option Queued) (i : ℕ) (q : Queued) (j : ℕ) → (j ≡ i → ⊥) → gone queue i q j ≡ queue j
gone_there queue i q j ne = let test : (j == i) ≡ false = grind (arith, nat_tests) in ap (λ b. if b then None else put queue i (land q) j) test ∙ put_there queue i (land q) j ne

-- ---- a good state that describes what stands

pub record Stands (votes : Votes) (group : Descriptor) (update : Option (Stamped Status)) (c : Contents) (s : ModelState) : Type 0 where
  pub good : Good votes s
  pub describes : Describes s s.facts group update c

module _ (votes : Votes) (group : Descriptor) (update : Option (Stamped Status)) (c : Contents) where
  -- an event by which nothing changes on the media leaves one
  pub quiet : (event : Event) (s new : ModelState) → ModelStep votes event s new → AsksOf group event → new.media ≡ s.media → new.is_copy ≡ s.is_copy → new.in_flight ≡ s.in_flight
      → Stands votes group update c s → Stands votes group update c new
  quiet event s new makes asks media copies flies stands = record {
    good = each_keeps votes event s new makes stands.good;
    describes = quiet_lasts votes event s new group update c makes stands.good asks stands.describes media copies flies;
  }

  -- the step has ended, and leaves the queue
  pub step_left : (s : ModelState) (i : ℕ) (q : Queued) → s.queue i ≡ Some q → q.step ≡ true → has_landed q.phase ≡ false → Stands votes group update c s → Stands votes group update c (record s { queue = gone s.queue i q })
  step_left s i q at is_step going stands =
      let s1 : ModelState = with_req s i (land q) in
      let s2 : ModelState = taken s1 i (land q) in
      let first = quiet (EndStep i q) s s1 (record { there = at; step = is_step; unlanded = going }, refl) tt refl refl refl stands in
      let second = quiet (Take i (land q)) s1 s2 (record { there = put_same s.queue i (land q); landed = refl }, refl) tt refl refl refl first in
      let same : s2 ≡ record s { queue = gone s.queue i q } = λ t. record s { queue = gone s.queue i q; facts = if is_step t then s.facts else s.facts ++ Taken (s.name i) ∷ [] } in
      subst (Stands votes group update c) same second

  -- the copy ends that is open, and stale by what is wanted
  pub copy_over : (s : ModelState) → ((o : ModelCopy) → s.open_copy ≡ Some o → IsTrue (s.wanted.stale o.target)) → Stands votes group update c s → Stands votes group update c (record s { open_copy = None })
  copy_over s stale stands = quiet (Want s.wanted s.missing None) s (record s { open_copy = None }) (may, refl) tt refl refl refl stands
    where
      may : Wants s s.wanted s.missing None
      may = record {
        missing_still = λ d is. is;
        still = λ p is. is;
        still_dirty = λ lv is. is;
        added = λ p is. inl is;
        open_same = inr (refl, stale);
        open_there = λ o none. absurd (cc none);
        behind = λ lv b x e copy fresh missing other usable kept. stands.good.sound.behind.left_behind lv b x e copy fresh missing other usable kept;
      }

  -- the next one enters it
  pub step_entered : (s : ModelState) (i : ℕ) (q : Queued) → StepEnters s i q → Stands votes group update c s → Stands votes group update c (entered s i no_request q)
  step_entered s i q may stands = quiet (EnterStep i no_request q) s (entered s i no_request q) (may, refl) tt refl refl refl stands
