-- What is true of a session stays true where an event changes nothing that it speaks of: each lemma takes the new state with those parts as they were, and that this is the new state.
use Rattle.std.proofs.Common.{◌≡◌, ◌⊎◌, inl, inr, ⊎_elim, ℕ, Bool, true, false, refl, sym, ap, subst, ◌∙◌}
use Rattle.std.specs.Prelude.{IsTrue, IsFalse}
use Rattle.lvm_num.specs.declared.place.Pp.{Pp}
use Rattle.lvm_num.specs.Geometry.{track_group_of}
use Rattle.lvm_invariant.specs.State.{Queued, ModelState, covers, is_settled_stale, HasPassed, Live, Named, Started, told}
use Rattle.lvm_invariant.specs.Sound.{MayDiffer, Agree, Quiescent, Recorded, Blocks, Complete, Statuses, Behind}

-- with the copies, and the one that is brought up, as they were
abbrev pub keeping_open : ModelState → ModelState → ModelState
keeping_open old new = record new { is_copy = old.is_copy; open_copy = old.open_copy }

-- also with the statuses that are committed and under way
abbrev pub keeping_live : ModelState → ModelState → ModelState
keeping_live old new = record new { is_copy = old.is_copy; open_copy = old.open_copy; committed = old.committed; in_flight = old.in_flight }

-- also with what is wanted, and with the missing disks
abbrev pub keeping_statuses : ModelState → ModelState → ModelState
keeping_statuses old new = record new { is_copy = old.is_copy; open_copy = old.open_copy; committed = old.committed; in_flight = old.in_flight; wanted = old.wanted; missing = old.missing }

-- also with what disks note
abbrev pub keeping_records : ModelState → ModelState → ModelState
keeping_records old new = record (keeping_statuses old new) { media = record new.media { names = old.media.names }; home_note = old.home_note }

-- with the notes
abbrev pub keeping_notes : ModelState → ModelState → ModelState
keeping_notes old new = record new { media = record new.media { names = old.media.names }; flying_note = old.flying_note }

-- also with what else says why live copies may differ: missing disks, the committed status, modes
abbrev pub keeping_reasons : ModelState → ModelState → ModelState
keeping_reasons old new = record (keeping_notes old new) { missing = old.missing; committed = old.committed; is_active = old.is_active; is_passive = old.is_passive }

pub complete_same : (old new : ModelState) → keeping_open old new ≡ new → (c : Pp) → Complete old c → Complete new c
complete_same old new same c k = subst (λ (s : ModelState). Complete s c) same (record { copy = k.copy; is_open = k.is_open; target = k.target; passed = k.passed })

pub live_same : (old new : ModelState) → keeping_live old new ≡ new → (lv b : ℕ) (c : Pp) → Live new lv b c → Live old lv b c
live_same old new same lv b c live = as_it_was (subst (λ (s : ModelState). Live s lv b c) (sym same) live)
  where
    as_it_was : Live (keeping_live old new) lv b c → Live old lv b c
    as_it_was h = record {
      copy = h.copy;
      counts = ⊎_elim
          (λ (f : IsFalse (is_settled_stale old c)). inl f)
          (λ (k : HasPassed (keeping_live old new) lv (track_group_of b) c). inr (record { copy = k.copy; is_open = k.is_open; target = k.target; passed = k.passed }))
          h.counts;
    }

pub named_same : (old new : ModelState) → keeping_notes old new ≡ new → (d lv g : ℕ) → Named old d lv g → Named new d lv g
named_same old new same d lv g named = subst (λ (s : ModelState). Named s d lv g) same (record { home = named.home; flying = named.flying })

module _ (old new : ModelState) (same : keeping_reasons old new ≡ new) where
  still_named : (d lv g : ℕ) → Named old d lv g → Named new d lv g
  still_named = named_same old new (subst (λ (s : ModelState). keeping_notes old s ≡ s) same refl)

  -- copies that are live now were, and the block on them is as it was
  pub equal_same : (lv b : ℕ) → (IsTrue (told old lv b).loose → IsTrue (told new lv b).loose) → ((c : Pp) → Live new lv b c → Live old lv b c × (new.media.block lv b c ≡ old.media.block lv b c))
      → (active : Bool) → Agree old lv b ⊎ MayDiffer old lv b active → Agree new lv b ⊎ MayDiffer new lv b active
  equal_same lv b loose was active (inl agree) = inl (agree.0, λ c live. (was c live).1 ∙ agree.1 c (was c live).0)
  equal_same lv b loose was true (inr differ) = inr (λ c live. let d = differ c (was c live).0 in (ap (λ (s : ModelState). s.missing c.disk) (sym same) ∙ d.0, still_named c.disk lv (track_group_of b) d.1))
  equal_same lv b loose was false (inr (inl h)) = inr (inl (loose h))
  equal_same lv b loose was false (inr (inr d)) = inr (inr (record {
    passive = ap (λ (s : ModelState). s.is_passive lv) (sym same) ∙ d.passive;
    missing = λ c live. ap (λ (s : ModelState). s.missing c.disk) (sym same) ∙ d.missing c (was c live).0;
    dirty = ap (λ (s : ModelState). s.committed.value.dirty lv) (sym same) ∙ d.dirty;
  }))

  pub recorded_same : (lv b : ℕ) (r : Queued) → Recorded old r lv b → Recorded new r lv b
  recorded_same lv b r recorded = record {
    named = λ on several c stage at. still_named c.disk lv (track_group_of b) (recorded.named (ap (λ (s : ModelState). s.is_active lv) same ∙ on) several c stage at);
    dirty = λ soft several. ap (λ (s : ModelState). s.committed.value.dirty lv) (sym same) ∙ recorded.dirty (ap (λ (s : ModelState). s.is_passive lv) same ∙ soft) several;
    one = recorded.one;
    single = recorded.single;
  }

-- where each write that had started still has, and each block that was settled still is
pub each_same : (old new : ModelState) → ((i : ℕ) (r : Queued) → Started old i r → Started new i r) → ((lv b : ℕ) → Quiescent old lv b → Quiescent new lv b) → Blocks old
    → (lv b : ℕ) → Quiescent new lv b ⊎ ((i : ℕ) × (r : Queued) × Started new i r × IsTrue (covers r lv b))
each_same old new started settled blocks lv b = ⊎_elim
    (λ (h : Quiescent old lv b). inl (settled lv b h))
    (λ (by : (i : ℕ) × (r : Queued) × Started old i r × IsTrue (covers r lv b)). inr (by.0, by.1, started by.0 by.1 by.2, by.3))
    (blocks.each lv b)

module _ (old new : ModelState) (same : keeping_statuses old new ≡ new) where
  pub same_statuses : Statuses old → Statuses new
  same_statuses st = subst Statuses same was
    where
      still : (c : Pp) → Complete old c → Complete (keeping_statuses old new) c
      still c k = record { copy = k.copy; is_open = k.is_open; target = k.target; passed = k.passed }

      was : Statuses (keeping_statuses old new)
      was = record {
        stale_flies = λ c u f stale fresh. ⊎_elim (λ (w : IsTrue (old.wanted.stale c)). inl w) (λ (k : Complete old c). inr (still c k)) (st.stale_flies c u f stale fresh);
        stale_is_wanted = λ c stale n. still c (st.stale_is_wanted c stale n);
        flying_is_wanted = λ c u f stale n. still c (st.flying_is_wanted c u f stale n);
        kept = λ lv b c copy. let k = st.kept lv b c copy in (k.0, k.1, record { committed = k.2.committed; flying = k.2.flying; wanted = k.2.wanted });
        open_there = st.open_there;
        open_stale = st.open_stale;
        dirty_flies = st.dirty_flies;
        dirty_is_wanted = st.dirty_is_wanted;
        dirty_flying_is_wanted = st.dirty_flying_is_wanted;
      }

  pub same_behind : Behind old → Behind new
  same_behind behind = subst Behind same was
    where
      was : Behind (keeping_statuses old new)
      was = record { left_behind = behind.left_behind }

module _ (old new : ModelState) (same : keeping_records old new ≡ new) where
  pub same_records : keeping_statuses old new ≡ new
  same_records = subst (λ (s : ModelState). keeping_statuses old s ≡ s) same refl

  pub same_home : ((d lv g : ℕ) → IsFalse (old.missing d) → old.media.names d lv g ≡ old.home_note d lv g) → (d lv g : ℕ) → IsFalse (new.missing d) → new.media.names d lv g ≡ new.home_note d lv g
  same_home home = subst (λ (s : ModelState). (d lv g : ℕ) → IsFalse (s.missing d) → s.media.names d lv g ≡ s.home_note d lv g) same home
