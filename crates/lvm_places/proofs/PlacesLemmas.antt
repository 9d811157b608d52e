-- A good state stays good with other copies.
use Rattle.std.proofs.Common.{◌≡◌, ◌⊎◌, inl, inr, ⊎_elim, ℕ, ◌<◌, Bool, true, false, List, Option, Some, None, refl, sym, ap, subst, ◌∙◌}
use Rattle.std.specs.Prelude.{IsTrue, IsFalse, option_map}
use Rattle.lvm_num.specs.declared.place.Pp.{Pp}
use Rattle.lvm_num.specs.Geometry.{track_group_of}
use Rattle.lvm_num.specs.Record.{Stamped, stamp_lt}
use Rattle.lvm_num.proofs.Lists.{some_map}
use Rattle.lvm_vol.specs.May.{IsValue}
use Rattle.lvm_invariant.specs.State.{Marks, Stage, Well, Queued, ModelCopy, Beside, ModelState, covers, is_past, Live, Named, Started, told}
use Rattle.lvm_invariant.specs.Sound.{MayDiffer, Agree, Quiescent, Busy, Recorded, Blocks, Tied, Notes, ModelHolds, Sound}
use Rattle.lvm_invariant.specs.Found.{Votes, HasIt, Found}
use Rattle.lvm_invariant.specs.Good.{Good}
use Rattle.lvm_places.specs.Places.{CopiesOf, BlocksOf, Marking, placed, IsUnaimed, CountsForNothing, MayPlace}
use Rattle.lvm_places.specs.Laws.{PlacingKeeps}

none_some : {X A : Type 0} (o : Option X) (x : X) → o ≡ None → o ≡ Some x → A
none_some o x a b = absurd cc

module _ (s : ModelState) (copies : CopiesOf) (block : BlocksOf) (marking : Marking) (open_copy : Option ModelCopy) (beside : Option Beside) (may : MayPlace s copies block marking open_copy beside) where
  abbrev new : ModelState
  new = placed s copies block marking open_copy beside

  was_started : (i : ℕ) (r : Queued) → Started new i r → Started s i r
  was_started i r k = record { there = k.there; write = k.write; going = k.going }

  is_started : (i : ℕ) (r : Queued) → Started s i r → Started new i r
  is_started i r k = record { there = k.there; write = k.write; going = k.going }

  is_named : (d lv g : ℕ) → Named s d lv g → Named new d lv g
  is_named d lv g k = record { home = k.home; flying = k.flying }

  -- what a live copy holds is what it held
  live_holds : (lv b l d : ℕ) (c : Pp) → Live new l d c → block lv b c ≡ s.media.block lv b c
  live_holds lv b l d c live = ⊎_elim (λ same. same) (λ (apart : CountsForNothing s c). absurd (apart.dead l d (may.live l d c live))) (may.same lv b c)

  -- and so is what a target holds
  aimed_holds : (lv b i : ℕ) (r : Queued) (c : Pp) (x : Stage) → s.queue i ≡ Some r → IsTrue (is_past r.phase) → r.targets c ≡ Some x → block lv b c ≡ s.media.block lv b c
  aimed_holds lv b i r c x there past at = ⊎_elim (λ same. same) (λ (apart : CountsForNothing s c). none_some (r.targets c) x (apart.unaimed i r there past) at) (may.same lv b c)

  differ_now : (lv b : ℕ) (x : Bool) → Agree s lv b ⊎ MayDiffer s lv b x → Agree new lv b ⊎ MayDiffer new lv b x
  differ_now lv b x (inl agree) = inl (agree.0, λ c live. live_holds lv b lv b c live ∙ agree.1 c (may.live lv b c live))
  differ_now lv b true (inr differ) = inr (λ c live. let d = differ c (may.live lv b c live) in (d.0, is_named c.disk lv (track_group_of b) d.1))
  differ_now lv b false (inr (inl loose)) = inr (inl loose)
  differ_now lv b false (inr (inr d)) = inr (inr (record { passive = d.passive; missing = λ c live. d.missing c (may.live lv b c live); dirty = may.dirty lv d.dirty }))

  quiescent_now : (lv b : ℕ) → Quiescent s lv b → Quiescent new lv b
  quiescent_now lv b quiet = record {
    calm = λ i r k over. quiet.calm i r (was_started i r k) over;
    allowed = λ c live. subst (IsValue (told s lv b)) (sym (live_holds lv b lv b c live)) (quiet.allowed c (may.live lv b c live));
    equal = differ_now lv b (s.is_active lv) quiet.equal;
  }

  busy_now : (i lv b : ℕ) (r : Queued) → s.queue i ≡ Some r → IsTrue (is_past r.phase) → Busy s r lv b → Busy new r lv b
  busy_now i lv b r there past busy = record {
    known = busy.known;
    aimed = λ c live. busy.aimed c (may.live lv b c live);
    value = λ c live. ⊎_elim
        (λ (h : IsValue (told s lv b) (s.media.block lv b c)). inl (subst (IsValue (told s lv b)) (sym (live_holds lv b lv b c live)) h))
        (λ (h : s.media.block lv b c ≡ r.value b). inr (live_holds lv b lv b c live ∙ h))
        (busy.value c (may.live lv b c live));
    well = λ c at. aimed_holds lv b i r c Well there past at ∙ busy.well c at;
  }

  recorded_now : (lv b : ℕ) (r : Queued) → Recorded s r lv b → Recorded new r lv b
  recorded_now lv b r k = record {
    named = λ on several c stage at. is_named c.disk lv (track_group_of b) (k.named on several c stage at);
    dirty = λ soft several. may.dirty lv (k.dirty soft several);
    one = k.one;
    single = k.single;
  }

  blocks_now : Blocks s → Blocks new
  blocks_now blocks = record {
    each = λ lv b. ⊎_elim
        (λ (quiet : Quiescent s lv b). inl (quiescent_now lv b quiet))
        (λ (by : (i : ℕ) × (r : Queued) × Started s i r × IsTrue (covers r lv b)). inr (by.0, by.1, is_started by.0 by.1 by.2, by.3))
        (blocks.each lv b);
    busy = λ i lv b r k over. busy_now i lv b r k.there (ap is_past k.going) (blocks.busy i lv b r (was_started i r k) over);
    recorded = λ i lv b r k over. recorded_now lv b r (blocks.recorded i lv b r (was_started i r k) over);
  }

  tied_now : Tied s → Tied new
  tied_now tied = record {
    open_writes = tied.open_writes;
    modes = λ lv b c copy off soft. let e = may.had lv b c copy in tied.modes lv b e.0 e.1 off soft;
    tight = λ lv b c copy on. let e = may.had lv b c copy in tied.tight lv b e.0 e.1 on;
    owner = may.owner;
    inside = λ i r there lv b over. let k = tied.inside i r there lv b over in may.has lv b k.0 k.1;
    place = λ i r there lv b over.
        let p = tied.place i r there lv b over in
        let k = tied.inside i r there lv b over in (
          p.0,
          p.1,
          may.together r.lv b r.lv r.first k.0 (subst (λ (v : ℕ). IsTrue (s.is_copy v b k.0)) p.0 k.1) p.2,
        );
  }

  holds_now : ModelHolds s → ModelHolds new
  holds_now holds = record {
    order = holds.order;
    reads = λ i lv b r there read past over c x at.
        let h = holds.reads i lv b r there read past over c x at in
        let same = aimed_holds lv b i r c x there past at in (
          subst (IsValue (told s lv b)) (sym same) h.0,
          ⊎_elim
              (λ (loose : IsTrue (told s lv b).loose). inl loose)
              (λ (equal : (e : Pp) → Live s lv b e → s.media.block lv b e ≡ s.media.block lv b c). inr (λ e live. live_holds lv b lv b e live ∙ equal e (may.live lv b e live) ∙ sym same))
              h.1,
        );
    got = λ i lv b r value there read past got over.
        let h = holds.got i lv b r value there read past got over in (
          h.0,
          ⊎_elim
              (λ (loose : IsTrue (told s lv b).loose). inl loose)
              (λ (equal : (e : Pp) → Live s lv b e → s.media.block lv b e ≡ value b). inr (λ e live. live_holds lv b lv b e live ∙ equal e (may.live lv b e live)))
              h.1,
        );
  }

  sound_now : Sound s → Sound new
  sound_now sound = record {
    blocks = blocks_now sound.blocks;
    tied = tied_now sound.tied;
    statuses = may.statuses;
    behind = may.behind;
    notes = record { home = sound.notes.home; pinned = sound.notes.pinned };
    holds = holds_now sound.holds;
  }

  found_now : (votes : Votes) → Found votes s → Found votes new
  found_now votes found = record {
    set = found.set;
    enough = found.enough;
    have = λ d inside. may.records.have d (found.have d inside);
    only = may.records.only;
    newer = may.records.newer;
  }

pub placing_keeps : PlacingKeeps
placing_keeps votes s copies block marking open_copy beside may good = record {
  sound = sound_now s copies block marking open_copy beside may good.sound;
  found = found_now s copies block marking open_copy beside may votes good.found;
  told = good.told;
}
