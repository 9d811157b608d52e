-- A good state stays good where its statuses are written anew.
use Rattle.std.proofs.Common.{◌≡◌, ◌⊎◌, inl, inr, ⊎_elim, ℕ, Bool, true, false, ◌&&◌, Some, None}
use Rattle.std.specs.Prelude.{IsTrue, IsFalse}
use Rattle.std.proofs.lemmas.Bool.{cases_Bool}
use Rattle.lvm_num.specs.declared.place.Pp.{Pp}
use Rattle.lvm_num.specs.Geometry.{track_group_of}
use Rattle.lvm_num.proofs.Booleans.{clash_gives}
use Rattle.lvm_invariant.specs.State.{ModelState, Named, HasPassed, Live, Queued, Started, covers, is_settled_stale}
use Rattle.lvm_invariant.specs.Found.{Found, Votes}
use Rattle.lvm_invariant.specs.Sound.{Agree, Blocks, Busy, MayDiffer, ModelHolds, Quiescent, Recorded, Sound, Statuses, Tied}
use Rattle.lvm_move_tie.specs.Restating.{MayRestate, RestatingKeeps, Restatement, restated}

none_is : {X A : Type 0} (a : X) → None ≡ Some a → A
none_is a e = absurd cc

module _ (votes : Votes) (s : ModelState) (r : Restatement) (may : MayRestate votes s r) where
  abbrev new : ModelState
  new = restated s r

  -- a live copy was live
  live : (lv b : ℕ) (c : Pp) → Live new lv b c → Live s lv b c
  live lv b c is = ⊎_elim
      (λ (fresh : IsFalse (is_settled_stale new c)). record {
        copy = is.copy;
        counts = inl (⊎_elim
            (λ (stale : IsTrue (is_settled_stale s c)). clash_gives (is_settled_stale new c) (let now = may.still c stale in λ t. now t && true) fresh)
            (λ (other : IsFalse (is_settled_stale s c)). other)
            (cases_Bool (is_settled_stale s c)));
      })
      (λ (x : HasPassed new lv (track_group_of b) c). none_is x.copy x.is_open)
      is.counts

  was_started : (i : ℕ) (q : Queued) → Started new i q → Started s i q
  was_started i q k = record { there = k.there; write = k.write; going = k.going }

  is_started : (i : ℕ) (q : Queued) → Started s i q → Started new i q
  is_started i q k = record { there = k.there; write = k.write; going = k.going }

  is_named : (d lv g : ℕ) → Named s d lv g → Named new d lv g
  is_named d lv g k = record { home = k.home; flying = k.flying }

  differ : (lv b : ℕ) (x : Bool) → Agree s lv b ⊎ MayDiffer s lv b x → Agree new lv b ⊎ MayDiffer new lv b x
  differ lv b x (inl agree) = inl (agree.0, λ c is. agree.1 c (live lv b c is))
  differ lv b true (inr d) = inr (λ c is. let k = d c (live lv b c is) in (may.gone c.disk k.0, is_named c.disk lv (track_group_of b) k.1))
  differ lv b false (inr (inl loose)) = inr (inl loose)
  differ lv b false (inr (inr d)) = inr (inr (record { passive = d.passive; missing = λ c is. may.gone c.disk (d.missing c (live lv b c is)); dirty = may.dirty lv d.dirty }))

  quiescent : (lv b : ℕ) → Quiescent s lv b → Quiescent new lv b
  quiescent lv b quiet = record {
    calm = λ i q k over. quiet.calm i q (was_started i q k) over;
    allowed = λ c is. quiet.allowed c (live lv b c is);
    equal = differ lv b (s.is_active lv) quiet.equal;
  }

  busy : (lv b : ℕ) (q : Queued) → Busy s q lv b → Busy new q lv b
  busy lv b q k = record {
    known = k.known;
    aimed = λ c is. k.aimed c (live lv b c is);
    value = λ c is. k.value c (live lv b c is);
    well = k.well;
  }

  recorded : (lv b : ℕ) (q : Queued) → Recorded s q lv b → Recorded new q lv b
  recorded lv b q k = record {
    named = λ on several c stage at. is_named c.disk lv (track_group_of b) (k.named on several c stage at);
    dirty = λ soft several. may.dirty lv (k.dirty soft several);
    one = k.one;
    single = k.single;
  }

  blocks : Blocks s → Blocks new
  blocks was = record {
    each = λ lv b. ⊎_elim
        (λ (quiet : Quiescent s lv b). inl (quiescent lv b quiet))
        (λ (by : (i : ℕ) × (q : Queued) × Started s i q × IsTrue (covers q lv b)). inr (by.0, by.1, is_started by.0 by.1 by.2, by.3))
        (was.each lv b);
    busy = λ i lv b q k over. busy lv b q (was.busy i lv b q (was_started i q k) over);
    recorded = λ i lv b q k over. recorded lv b q (was.recorded i lv b q (was_started i q k) over);
  }

  tied : Tied s → Tied new
  tied was = record {
    open_writes = was.open_writes;
    modes = was.modes;
    tight = was.tight;
    owner = was.owner;
    inside = was.inside;
    place = was.place;
  }

  statuses : Statuses new
  statuses = record {
    stale_flies = λ c u flies stale fresh. none_is u flies;
    stale_is_wanted = λ c stale n. clash_gives (r.wanted.stale c) (may.wants c stale) n;
    flying_is_wanted = λ c u flies stale n. none_is u flies;
    kept = λ lv b c copy. let k = may.kept lv b c copy in (k.0, k.1, record { committed = k.2; flying = λ u flies. none_is u flies; wanted = k.3 });
    open_there = λ o is. none_is o is;
    open_stale = λ o is. none_is o is;
    dirty_flies = λ lv u flies h. none_is u flies;
    dirty_is_wanted = may.wants_dirty;
    dirty_flying_is_wanted = λ lv u flies h. none_is u flies;
  }

  there : (d : ℕ) → IsFalse (r.missing d) → IsFalse (s.missing d)
  there d is = ⊎_elim
      (λ (was : IsTrue (s.missing d)). clash_gives (r.missing d) (may.gone d was) is)
      (λ (other : IsFalse (s.missing d)). other)
      (cases_Bool (s.missing d))

  holds : ModelHolds s → ModelHolds new
  holds was = record {
    order = was.order;
    reads = λ i lv b q at read past over c x aim.
        let h = was.reads i lv b q at read past over c x aim in
        (h.0, ⊎_elim (λ loose. inl loose) (λ equal. inr (λ e is. equal e (live lv b e is))) h.1);
    got = λ i lv b q value at read past got over.
        let h = was.got i lv b q value at read past got over in
        (h.0, ⊎_elim (λ loose. inl loose) (λ equal. inr (λ e is. equal e (live lv b e is))) h.1);
  }

  sound : Sound s → Sound new
  sound was = record {
    blocks = blocks was.blocks;
    tied = tied was.tied;
    statuses = statuses;
    behind = record { left_behind = may.behind };
    notes = record { home = λ d lv g is. was.notes.home d lv g (there d is); pinned = was.notes.pinned };
    holds = holds was.holds;
  }

  found : Found votes new
  found = record {
    set = may.set;
    enough = may.enough;
    have = λ d inside. inl (may.have d inside);
    only = λ d m shown. ⊎_elim (λ before. inl before) (λ same. inr (inl same)) (may.only d m shown);
    newer = λ u flies. none_is u flies;
  }

pub restating_keeps : RestatingKeeps
restating_keeps votes s r may good = record { sound = sound votes s r may good.sound; found = found votes s r may; told = good.told }
