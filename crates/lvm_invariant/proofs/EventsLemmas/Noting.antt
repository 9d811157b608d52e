-- Notes start and end.
use Rattle.std.proofs.Common.{◌≡◌, ◌⊎◌, inl, inr, ⊎_elim, ℕ, Option, Some, None, refl, sym, ap, subst, ◌∙◌}
use Rattle.std.specs.Prelude.{IsTrue, IsFalse}
use Rattle.lvm_num.proofs.Booleans.{clash_gives}
use Rattle.lvm_invariant.specs.State.{Groups, ModelState, Named}
use Rattle.lvm_invariant.specs.Sound.{Sound}
use Rattle.lvm_invariant.proofs.SoundLemmas.Sound.{live_same, same_statuses, same_behind, keeping_live, keeping_statuses}
use Rattle.lvm_invariant.proofs.StateLemmas.Claims.{Quiet, StartNoteKeepsCore, EndNoteKeepsCore, keeping_requests}
use Rattle.lvm_invariant.specs.EndNote.{EndsNote}
use Rattle.lvm_invariant.specs.Updates.{with_names}
use Rattle.lvm_invariant.specs.StartNote.{StartsNote}
use Rattle.lvm_invariant.proofs.StateLemmas.Quieting.{quiet_sound}

same_note : (a b : Groups) → Some a ≡ Some b → a ≡ b
same_note a b e = cc

no_note : {X : Type 0} (o : Option Groups) (n : Groups) → o ≡ None → o ≡ Some n → X
no_note o n a b = absurd cc

-- an event of notes alone: what missing disks noted, and what is in the cache, stays named
noted : (s new : ModelState) → keeping_requests s new ≡ new → keeping_statuses s new ≡ new → ((d lv g : ℕ) → IsTrue (s.missing d) ⊎ IsTrue (s.cache lv g) → Named s d lv g → Named new d lv g)
    → ((d lv g : ℕ) → IsFalse (new.missing d) → new.media.names d lv g ≡ new.home_note d lv g) → Sound s → Sound new
noted s new same statuses named home sound = quiet_sound s new quiet sound (record { statuses = same_statuses s new statuses sound.statuses; home = home }) (same_behind s new statuses sound.behind)
  where
    quiet : Quiet s new
    quiet = record {
      same = same;
      dirty = λ lv h. ap (λ (x : ModelState). x.committed.value.dirty lv) (sym statuses) ∙ h;
      live = live_same s new (subst (λ (x : ModelState). keeping_live s x ≡ x) statuses refl);
      missing_still = λ d h. ap (λ (x : ModelState). x.missing d) (sym statuses) ∙ h;
      named_missing = λ d lv g gone. named d lv g (inl gone);
      named_pinned = λ d lv g cached. named d lv g (inr cached);
    }

module _ (s : ModelState) (flying : ℕ → Option Groups) (step : StartsNote s flying) (sound : Sound s) where
  abbrev new : ModelState
  new = record s { flying_note = flying }

  named_then : (d lv g : ℕ) → (d ≡ step.disk → IsTrue (s.cache lv g)) → Named s d lv g → Named new d lv g
  named_then d lv g in_cache named = record {
    home = named.home;
    flying = λ n is. ⊎_elim
        (λ (same : flying d ≡ s.flying_note d). named.flying n (sym same ∙ is))
        (λ (new : (d ≡ step.disk) × (flying d ≡ Some s.cache)). ap (λ (x : Groups). x lv g) (sym (same_note s.cache n (sym new.1 ∙ is))) ∙ in_cache new.0)
        (step.each d);
  }

  named_now : (d lv g : ℕ) → IsTrue (s.missing d) ⊎ IsTrue (s.cache lv g) → Named s d lv g → Named new d lv g
  named_now d lv g (inl gone) named = named_then d lv g (λ is. clash_gives (s.missing d) gone (subst (λ (e : ℕ). IsFalse (s.missing e)) (sym is) step.there)) named
  named_now d lv g (inr cached) named = named_then d lv g (λ is. cached) named

pub start_note_keeps : StartNoteKeepsCore
start_note_keeps s flying step sound = noted s (record s { flying_note = flying }) refl refl (named_now s flying step sound) sound.notes.home sound

module _ (s : ModelState) (d : ℕ) (names home : ℕ → Groups) (flying : ℕ → Option Groups) (step : EndsNote s d names home flying) (sound : Sound s) where
  abbrev after : ModelState
  after = record s { media = with_names s.media names; home_note = home; flying_note = flying }

  named_end : (e lv g : ℕ) → Named s e lv g → Named after e lv g
  named_end e lv g named = record {
    home = ⊎_elim
        (λ (same : names e ≡ s.media.names e). ap (λ (n : Groups). n lv g) same ∙ named.home)
        (λ (new : (e ≡ d) × (names e ≡ step.note)). ap (λ (n : Groups). n lv g) new.1 ∙ named.flying step.note (ap s.flying_note new.0 ∙ step.was))
        (step.names_now e);
    flying = λ n is. ⊎_elim
        (λ (same : flying e ≡ s.flying_note e). named.flying n (sym same ∙ is))
        (λ (none : (e ≡ d) × (flying e ≡ None)). no_note (flying e) n none.1 is)
        (step.flying_now e);
  }

  home_now : (e lv g : ℕ) → IsFalse (s.missing e) → names e lv g ≡ home e lv g
  home_now e lv g there = ⊎_elim
      (λ (same : (names e ≡ s.media.names e) × (home e ≡ s.home_note e)). ap (λ (x : Groups). x lv g) same.0 ∙ sound.notes.home e lv g there ∙ ap (λ (x : Groups). x lv g) (sym same.1))
      (λ (new : (names e ≡ step.note) × (home e ≡ step.note)). ap (λ (x : Groups). x lv g) (new.0 ∙ sym new.1))
      (step.home_now e there)

pub end_note_keeps : EndNoteKeepsCore
end_note_keeps s d names home flying step sound = noted s (record s { media = with_names s.media names; home_note = home; flying_note = flying }) refl refl
    (λ e lv g why. named_end s d names home flying step sound e lv g) (home_now s d names home flying step sound) sound
