-- A partition begins to be brought up, is given up, or takes the place of a copy.
use Rattle.std.proofs.Common.{◌≡◌, ◌⊎◌, inl, inr, ⊎_elim, ℕ, Bool, true, false, ◌&&◌, ◌||◌, List, Option, Some, None, refl, sym, ap, subst, ◌∙◌}
use Rattle.std.specs.Prelude.{IsTrue, IsFalse, option_map, not, if◌then◌else◌}
use Rattle.std.proofs.lemmas.Bool.{cases_Bool}
use Rattle.lvm_num.specs.declared.place.Pp.{Pp}
use Rattle.lvm_num.specs.Descriptor.{is_pp}
use Rattle.lvm_num.specs.Geometry.{track_group_of}
use Rattle.lvm_num.specs.Record.{Stamped, stamp_lt}
use Rattle.lvm_num.proofs.Booleans.{clash_gives, false_by, same_answer}
use Rattle.lvm_num.proofs.Lists.{some_map}
use Rattle.lvm_num.proofs.DescriptorLemmas.Partitions.{one_partition, same_partition}
use Rattle.lvm_invariant.specs.State.{Marks, ModelCopy, Beside, ModelState, stale_in, is_settled_stale, is_usable, HasPassed, Live}
use Rattle.lvm_invariant.specs.Sound.{Complete, StaysFresh, Statuses, Behind, Sound}
use Rattle.lvm_invariant.specs.Good.{Good}
use Rattle.lvm_places.specs.Places.{CopiesOf, BlocksOf, Marking, placed, CountsForNothing, SeesRecords, MayPlace}
use Rattle.lvm_invariant.specs.Found.{Votes, HasIt, Found}
use Rattle.lvm_places.specs.Laws.{PlaceAppears, PlaceGoes, PlaceIsTaken, Appears, appeared, with_place, with_stale, as_stale, stale_marking, copies_without, AgreesBut, Goes, gone, Replaces, replaced}
use Rattle.lvm_places.proofs.PlacesLemmas.{placing_keeps}

none_open : {A : Type 0} (o : Option ModelCopy) (k : ModelCopy) → o ≡ None → o ≡ Some k → A
none_open o k a b = absurd cc

one_open : (o : Option ModelCopy) (k e : ModelCopy) → o ≡ Some k → o ≡ Some e → k ≡ e
one_open o k e a b = cc

-- where it is that partition, what holds of the one holds of the other
there_too : (P : Pp → Type 0) (c to : Pp) → IsTrue (is_pp c to) → P c → P to
there_too P c to at it = subst P (one_partition c to at) it

here_too : (P : Pp → Type 0) (c to : Pp) → IsTrue (is_pp c to) → P to → P c
here_too P c to at it = subst P (sym (one_partition c to at)) it

-- ---- statuses that are seen as before but for one partition

module _ (s : ModelState) (to : Pp) (k : Marking) (agrees : AgreesBut s to k) where
  flight_same : (o : Option (Stamped Marks)) → k.in_flight ≡ o → (c : Pp) → IsFalse (is_pp c to) → stale_in o c ≡ stale_in s.in_flight c
  flight_same None is c off = ap (λ (o : Option (Stamped Marks)). stale_in o c) (sym (agrees.none is))
  flight_same (Some u) is c off = let w = agrees.flying u is in w.2 c off ∙ ap (λ (o : Option (Stamped Marks)). stale_in o c) (sym w.1)

  settled_same : (c : Pp) → IsFalse (is_pp c to) → (k.committed.value.stale c && stale_in k.in_flight c) ≡ is_settled_stale s c
  settled_same c off = λ t. (agrees.committed c off t) && (flight_same k.in_flight refl c off t)

  fresh_alike : (copies : CopiesOf) (block : BlocksOf) (open_copy : Option ModelCopy) (beside : Option Beside) (e : Pp) → IsFalse (is_pp e to) → IsFalse (k.wanted.stale e) → StaysFresh s e
      → StaysFresh (placed s copies block k open_copy beside) e
  fresh_alike copies block open_copy beside e off is was = record {
    committed = agrees.committed e off ∙ was.committed;
    flying = λ u flies. let w = agrees.flying u flies in w.2 e off ∙ was.flying w.0 w.1;
    wanted = is;
  }

  usable_before : (e : Pp) → IsFalse (is_pp e to) → IsTrue (not (k.committed.value.stale e) && not (s.missing e.disk)) → IsTrue (is_usable s e)
  usable_before e off usable = ap (λ (x : Bool). not x && not (s.missing e.disk)) (sym (agrees.committed e off)) ∙ usable

-- ---- one copy more

module _ (s : ModelState) (to : Pp) (its : ℕ → ℕ → Bool) (block : BlocksOf) (may : Appears s to its block) (sound : Sound s) where
  abbrev more : ModelState
  more = appeared s to its block

  abbrev more_copies : CopiesOf
  more_copies = with_place s.is_copy to its

  abbrev k : Marking
  k = stale_marking s to

  stale_off : (m : Marks) (c : Pp) → IsFalse (is_pp c to) → (with_stale to m).stale c ≡ m.stale c
  stale_off m c off = ap (λ (x : Bool). x || m.stale c) off

  agrees_more : AgreesBut s to k
  agrees_more = record {
    committed = stale_off s.committed.value;
    dirty = λ lv. refl;
    flying = λ u flies. let w = some_map (as_stale to) s.in_flight u flies in
        (w.0, w.1, λ c off. ap (λ (x : Stamped Marks). x.value.stale c) (sym w.2) ∙ stale_off w.0.value c off, λ lv. ap (λ (x : Stamped Marks). x.value.dirty lv) (sym w.2));
    none = λ none. no_map s.in_flight none;
  }
    where
      no_map : (o : Option (Stamped Marks)) → option_map (as_stale to) o ≡ None → o ≡ None
      no_map None e = refl
      no_map (Some x) e = absurd cc

  stale_there : (m : Marks) (c : Pp) → IsTrue (is_pp c to) → IsTrue ((with_stale to m).stale c)
  stale_there m c at = ap (λ (x : Bool). x || m.stale c) at

  in_more : (lv b : ℕ) (c : Pp) → IsFalse (is_pp c to) → more_copies lv b c ≡ s.is_copy lv b c
  in_more lv b c off = ap (λ (x : Bool). if x then its lv b else s.is_copy lv b c) off

  at_more : (lv b : ℕ) (c : Pp) → IsTrue (is_pp c to) → more_copies lv b c ≡ its lv b
  at_more lv b c at = ap (λ (x : Bool). if x then its lv b else s.is_copy lv b c) at

  -- a copy is another partition
  is_off : (lv b : ℕ) (c : Pp) → IsTrue (s.is_copy lv b c) → IsFalse (is_pp c to)
  is_off lv b c copy = ⊎_elim
      (λ (at : IsTrue (is_pp c to)). clash_gives (s.is_copy lv b to) (there_too (λ (p : Pp). IsTrue (s.is_copy lv b p)) c to at copy) (may.nowhere lv b))
      (λ (off : IsFalse (is_pp c to)). off)
      (cases_Bool (is_pp c to))

  flight_there : (o : Option (Stamped Marks)) (c : Pp) → IsTrue (is_pp c to) → IsTrue (stale_in (option_map (as_stale to) o) c)
  flight_there None c at = refl
  flight_there (Some u) c at = stale_there u.value c at

  settled_there : (c : Pp) → IsTrue (is_pp c to) → IsTrue (is_settled_stale more c)
  settled_there c at = λ t. (stale_there s.committed.value c at t) && (flight_there s.in_flight c at t)

  more_live : (lv b : ℕ) (c : Pp) → Live more lv b c → Live s lv b c
  more_live lv b c live = ⊎_elim
      (λ (fresh : IsFalse (is_settled_stale more c)). ⊎_elim
      (λ (at : IsTrue (is_pp c to)). clash_gives (is_settled_stale more c) (settled_there c at) fresh)
      (λ (off : IsFalse (is_pp c to)). record { copy = sym (in_more lv b c off) ∙ live.copy; counts = inl (sym (settled_same s to k agrees_more c off) ∙ fresh) })
      (cases_Bool (is_pp c to)))
      (λ (x : HasPassed more lv (track_group_of b) c). none_open s.open_copy x.copy may.closed x.is_open)
      live.counts

  more_kept : (lv b : ℕ) (c : Pp) → IsTrue (s.is_copy lv b c) → (e : Pp) × IsTrue (more_copies lv b e) × StaysFresh more e
  more_kept lv b c copy =
      let e = sound.statuses.kept lv b c copy in
      let off = is_off lv b e.0 e.1 in (
        e.0,
        in_more lv b e.0 off ∙ e.1,
        fresh_alike s to k agrees_more more_copies block s.open_copy (Some (record { place = to; its = its })) e.0 off (stale_off s.wanted e.0 off ∙ e.2.wanted) e.2,
      )

  more_had : (lv b : ℕ) (c : Pp) → IsTrue (more_copies lv b c) → (e : Pp) × IsTrue (s.is_copy lv b e)
  more_had lv b c copy = ⊎_elim
      (λ (at : IsTrue (is_pp c to)). may.some lv b (sym (at_more lv b c at) ∙ copy))
      (λ (off : IsFalse (is_pp c to)). (c, sym (in_more lv b c off) ∙ copy))
      (cases_Bool (is_pp c to))

  more_statuses : Statuses more
  more_statuses = record {
    stale_flies = λ c u flies stale fresh. ⊎_elim
        (λ (at : IsTrue (is_pp c to)). inl (stale_there s.wanted c at))
        (λ (off : IsFalse (is_pp c to)).
        let w = agrees_more.flying u flies in
        ⊎_elim
        (λ (wants : IsTrue (s.wanted.stale c)). inl (stale_off s.wanted c off ∙ wants))
        (λ (x : Complete s c). none_open s.open_copy x.copy may.closed x.is_open)
        (sound.statuses.stale_flies c w.0 w.1 (sym (stale_off s.committed.value c off) ∙ stale) (sym (w.2 c off) ∙ fresh)))
        (cases_Bool (is_pp c to));
    stale_is_wanted = λ c stale n. ⊎_elim
        (λ (at : IsTrue (is_pp c to)). clash_gives ((with_stale to s.wanted).stale c) (stale_there s.wanted c at) n)
        (λ (off : IsFalse (is_pp c to)).
        let x = sound.statuses.stale_is_wanted c (sym (stale_off s.committed.value c off) ∙ stale) (sym (stale_off s.wanted c off) ∙ n) in none_open s.open_copy x.copy may.closed x.is_open)
        (cases_Bool (is_pp c to));
    flying_is_wanted = λ c u flies stale n. ⊎_elim
        (λ (at : IsTrue (is_pp c to)). clash_gives ((with_stale to s.wanted).stale c) (stale_there s.wanted c at) n)
        (λ (off : IsFalse (is_pp c to)).
        let w = agrees_more.flying u flies in
        let x = sound.statuses.flying_is_wanted c w.0 w.1 (sym (w.2 c off) ∙ stale) (sym (stale_off s.wanted c off) ∙ n) in
        none_open s.open_copy x.copy may.closed x.is_open)
        (cases_Bool (is_pp c to));
    kept = λ lv b c copy. let e = more_had lv b c copy in more_kept lv b e.0 e.1;
    open_there = λ o is. none_open s.open_copy o may.closed is;
    open_stale = λ o is. none_open s.open_copy o may.closed is;
    dirty_flies = λ lv u flies h. let w = agrees_more.flying u flies in w.3 lv ∙ sound.statuses.dirty_flies lv w.0 w.1 h;
    dirty_is_wanted = sound.statuses.dirty_is_wanted;
    dirty_flying_is_wanted = λ lv u flies h. let w = agrees_more.flying u flies in sound.statuses.dirty_flying_is_wanted lv w.0 w.1 (sym (w.3 lv) ∙ h);
  }

  more_behind : Behind more
  more_behind = record {
    left_behind = λ lv b c e copy fresh gone other usable kept. ⊎_elim
        (λ (at : IsTrue (is_pp c to)). inl_of c at)
        (λ (off : IsFalse (is_pp c to)). ⊎_elim
        (λ (at : IsTrue (is_pp e to)). clash_gives ((with_stale to s.wanted).stale e) (stale_there s.wanted e at) kept)
        (λ (apart : IsFalse (is_pp e to)).
        stale_off s.wanted c off
        ∙ sound.behind.left_behind lv b c e (sym (in_more lv b c off) ∙ copy) (sym (stale_off s.committed.value c off) ∙ fresh) gone (sym (in_more lv b e apart) ∙ other)
        (usable_before s to k agrees_more e apart usable) (sym (stale_off s.wanted e apart) ∙ kept))
        (cases_Bool (is_pp e to)))
        (cases_Bool (is_pp c to));
  }
    where
      inl_of : (c : Pp) → IsTrue (is_pp c to) → IsTrue ((with_stale to s.wanted).stale c)
      inl_of c at = stale_there s.wanted c at

  more_owner : (lv b l d : ℕ) (c e : Pp) → IsTrue (more_copies lv b c) → IsTrue (more_copies l d c) → IsTrue (more_copies l d e) → IsTrue (more_copies lv b e)
  more_owner lv b l d c e x y z = ⊎_elim
      (λ (c_at : IsTrue (is_pp c to)).
      let its_b = sym (at_more lv b c c_at) ∙ x in
      let its_d = sym (at_more l d c c_at) ∙ y in
      ⊎_elim
      (λ (e_at : IsTrue (is_pp e to)). at_more lv b e e_at ∙ its_b)
      (λ (e_off : IsFalse (is_pp e to)). in_more lv b e e_off ∙ ap (λ (f : Pp → Bool). f e) (may.one lv b l d its_b its_d) ∙ sym (in_more l d e e_off) ∙ z)
      (cases_Bool (is_pp e to)))
      (λ (c_off : IsFalse (is_pp c to)).
      let copy_b = sym (in_more lv b c c_off) ∙ x in
      let copy_d = sym (in_more l d c c_off) ∙ y in
      ⊎_elim
      (λ (e_at : IsTrue (is_pp e to)). at_more lv b e e_at ∙ may.all lv b l d c copy_b copy_d (sym (at_more l d e e_at) ∙ z))
      (λ (e_off : IsFalse (is_pp e to)). in_more lv b e e_off ∙ sound.tied.owner lv b l d c e copy_b copy_d (sym (in_more l d e e_off) ∙ z))
      (cases_Bool (is_pp e to)))
      (cases_Bool (is_pp c to))

  more_together : (lv b l d : ℕ) (c : Pp) → IsTrue (s.is_copy lv b c) → s.is_copy lv b ≡ s.is_copy l d → more_copies lv b ≡ more_copies l d
  more_together lv b l d c copy eq =
      let other = ap (λ (f : Pp → Bool). f c) (sym eq) ∙ copy in
      let same : its lv b ≡ its l d = same_answer (its lv b) (its l d) (may.all l d lv b c other copy) (may.all lv b l d c copy other) in
      λ t e. if is_pp e to then same t else (eq t) e

  has_more : (d : ℕ) → HasIt s d → HasIt more d
  has_more d (inl it) = inl (ap (option_map (as_stale to)) it)
  has_more d (inr it) = inr (as_stale to it.0, ap (option_map (as_stale to)) it.1, ap (option_map (as_stale to)) it.2)

  records_more : (votes : Votes) → Found votes s → SeesRecords s more
  records_more votes found = record {
    have = has_more;
    only = λ d r shown.
        let w = some_map (as_stale to) (s.media.status d) r shown in
        ⊎_elim
        (λ (before : stamp_lt w.0.stamp s.committed.stamp ≡ true). inl (subst (λ (x : Stamped Marks). stamp_lt x.stamp s.committed.stamp ≡ true) w.2 before))
        (⊎_elim
        (λ (same : w.0 ≡ s.committed). inr (inl (sym w.2 ∙ ap (as_stale to) same)))
        (λ (flies : s.in_flight ≡ Some w.0). inr (inr (ap (option_map (as_stale to)) flies ∙ ap Some w.2))))
        (found.only d w.0 w.1);
    newer = λ u flies.
        let w = some_map (as_stale to) s.in_flight u flies in
        ⊎_elim
        (λ (later : stamp_lt s.committed.stamp w.0.stamp ≡ true). inl (subst (λ (x : Stamped Marks). stamp_lt s.committed.stamp x.stamp ≡ true) w.2 later))
        (λ (same : w.0 ≡ s.committed). inr (sym w.2 ∙ ap (as_stale to) same))
        (found.newer w.0 w.1);
  }

  may_appear : (votes : Votes) → Found votes s → MayPlace s more_copies block k s.open_copy (Some (record { place = to; its = its }))
  may_appear votes found = record {
    live = more_live;
    same = λ lv b c. ⊎_elim
        (λ (at : IsTrue (is_pp c to)). inr (here_too (CountsForNothing s) c to at (record { unaimed = may.unaimed; dead = λ l d live. clash_gives (s.is_copy l d to) live.copy (may.nowhere l d) })))
        (λ (off : IsFalse (is_pp c to)). inl (may.same lv b c off))
        (cases_Bool (is_pp c to));
    dirty = λ lv h. h;
    had = more_had;
    has = λ lv b c copy. (c, in_more lv b c (is_off lv b c copy) ∙ copy);
    owner = more_owner;
    together = more_together;
    statuses = more_statuses;
    behind = more_behind;
    records = records_more votes found;
  }

pub place_appears : PlaceAppears
place_appears votes s to its block may good = placing_keeps votes s (with_place s.is_copy to its) block (stale_marking s to) s.open_copy (Some (record { place = to; its = its })) (may_appear s to its block may good.sound votes good.found) good

-- ---- one copy fewer

module _ (s : ModelState) (gone_pp : Pp) where
  abbrev fewer : CopiesOf
  fewer = copies_without s.is_copy gone_pp

  pub in_fewer : (lv b : ℕ) (c : Pp) → IsFalse (is_pp c gone_pp) → fewer lv b c ≡ s.is_copy lv b c
  in_fewer lv b c off = ap (λ (x : Bool). if x then false else s.is_copy lv b c) off

  -- one of those that are left is another partition
  pub left_off : (lv b : ℕ) (c : Pp) → IsTrue (fewer lv b c) → IsFalse (is_pp c gone_pp)
  left_off lv b c copy = ⊎_elim
      (λ (at : IsTrue (is_pp c gone_pp)). clash_gives (fewer lv b c) copy (ap (λ (x : Bool). if x then false else s.is_copy lv b c) at))
      (λ (off : IsFalse (is_pp c gone_pp)). off)
      (cases_Bool (is_pp c gone_pp))

  pub was_copy : (lv b : ℕ) (c : Pp) → IsTrue (fewer lv b c) → IsTrue (s.is_copy lv b c)
  was_copy lv b c copy = sym (in_fewer lv b c (left_off lv b c copy)) ∙ copy

  fewer_owner : Sound s → (lv b l d : ℕ) (c e : Pp) → IsTrue (fewer lv b c) → IsTrue (fewer l d c) → IsTrue (fewer l d e) → IsTrue (fewer lv b e)
  fewer_owner sound lv b l d c e x y z = in_fewer lv b e (left_off l d e z) ∙ sound.tied.owner lv b l d c e (was_copy lv b c x) (was_copy l d c y) (was_copy l d e z)

  fewer_together : (lv b l d : ℕ) → s.is_copy lv b ≡ s.is_copy l d → fewer lv b ≡ fewer l d
  fewer_together lv b l d eq = λ t e. if is_pp e gone_pp then false else (eq t) e

module _ (s : ModelState) (to : Pp) (k : Marking) (may : Goes s to k) (sound : Sound s) where
  abbrev less : ModelState
  less = gone s to k

  fresh_off : (e : Pp) → StaysFresh s e → IsFalse (is_pp e to)
  fresh_off e was = ⊎_elim
      (λ (at : IsTrue (is_pp e to)). clash_gives (s.committed.value.stale to) may.stale (there_too (λ (p : Pp). IsFalse (s.committed.value.stale p)) e to at was.committed))
      (λ (off : IsFalse (is_pp e to)). off)
      (cases_Bool (is_pp e to))

  -- only this one may be complete
  complete_at : (c : Pp) → Complete s c → IsTrue (is_pp c to)
  complete_at c x = subst (λ (p : Pp). IsTrue (is_pp p to)) x.target (may.own x.copy x.is_open)

  less_live : (lv b : ℕ) (c : Pp) → Live less lv b c → Live s lv b c
  less_live lv b c live = ⊎_elim
      (λ (fresh : IsFalse (is_settled_stale less c)). record {
        copy = was_copy s to lv b c live.copy;
        counts = inl (sym (settled_same s to k may.agrees c (left_off s to lv b c live.copy)) ∙ fresh);
      })
      (λ (x : HasPassed less lv (track_group_of b) c). none_open None x.copy refl x.is_open)
      live.counts

  less_kept : (lv b : ℕ) (c : Pp) → IsTrue (s.is_copy lv b c) → (e : Pp) × IsTrue (fewer s to lv b e) × StaysFresh less e
  less_kept lv b c copy =
      let e = sound.statuses.kept lv b c copy in
      let off = fresh_off e.0 e.2 in (
        e.0,
        in_fewer s to lv b e.0 off ∙ e.1,
        fresh_alike s to k may.agrees (fewer s to) s.media.block None None e.0 off (may.wanted e.0 off ∙ e.2.wanted) e.2,
      )

  less_statuses : Statuses less
  less_statuses = record {
    stale_flies = λ c u flies stale fresh. ⊎_elim
        (λ (at : IsTrue (is_pp c to)). inl (here_too (λ (p : Pp). IsTrue (k.wanted.stale p)) c to at (may.stays (there_too (λ (p : Pp). IsTrue (k.committed.value.stale p)) c to at stale))))
        (λ (off : IsFalse (is_pp c to)).
        let w = may.agrees.flying u flies in
        ⊎_elim
        (λ (wants : IsTrue (s.wanted.stale c)). inl (may.wanted c off ∙ wants))
        (λ (x : Complete s c). clash_gives (is_pp c to) (complete_at c x) off)
        (sound.statuses.stale_flies c w.0 w.1 (sym (may.agrees.committed c off) ∙ stale) (sym (w.2 c off) ∙ fresh)))
        (cases_Bool (is_pp c to));
    stale_is_wanted = λ c stale n. ⊎_elim
        (λ (at : IsTrue (is_pp c to)). clash_gives (k.wanted.stale to) (may.stays (there_too (λ (p : Pp). IsTrue (k.committed.value.stale p)) c to at stale)) (there_too (λ (p : Pp). IsFalse (k.wanted.stale p)) c to at n))
        (λ (off : IsFalse (is_pp c to)).
        clash_gives (is_pp c to) (complete_at c (sound.statuses.stale_is_wanted c (sym (may.agrees.committed c off) ∙ stale) (sym (may.wanted c off) ∙ n))) off)
        (cases_Bool (is_pp c to));
    flying_is_wanted = λ c u flies stale n.
        let w = may.agrees.flying u flies in
        ⊎_elim
        (λ (at : IsTrue (is_pp c to)).
        clash_gives (k.wanted.stale to)
        (may.flies u flies (there_too (λ (p : Pp). IsTrue (u.value.stale p)) c to at stale))
        (there_too (λ (p : Pp). IsFalse (k.wanted.stale p)) c to at n))
        (λ (off : IsFalse (is_pp c to)).
        clash_gives (is_pp c to) (complete_at c (sound.statuses.flying_is_wanted c w.0 w.1 (sym (w.2 c off) ∙ stale) (sym (may.wanted c off) ∙ n))) off)
        (cases_Bool (is_pp c to));
    kept = λ lv b c copy. less_kept lv b c (was_copy s to lv b c copy);
    open_there = λ o is. none_open None o refl is;
    open_stale = λ o is. none_open None o refl is;
    dirty_flies = λ lv u flies h.
        let w = may.agrees.flying u flies in w.3 lv ∙ sound.statuses.dirty_flies lv w.0 w.1 (sym (may.agrees.dirty lv) ∙ h);
    dirty_is_wanted = λ lv h. may.wanted_dirty lv ∙ sound.statuses.dirty_is_wanted lv (sym (may.agrees.dirty lv) ∙ h);
    dirty_flying_is_wanted = λ lv u flies h.
        let w = may.agrees.flying u flies in may.wanted_dirty lv ∙ sound.statuses.dirty_flying_is_wanted lv w.0 w.1 (sym (w.3 lv) ∙ h);
  }

  less_behind : Behind less
  less_behind = record {
    left_behind = λ lv b c e copy fresh lost other usable kept.
        let off = left_off s to lv b c copy in
        let apart = left_off s to lv b e other in
        may.wanted c off
        ∙ sound.behind.left_behind lv b c e (was_copy s to lv b c copy) (sym (may.agrees.committed c off) ∙ fresh) lost (was_copy s to lv b e other)
        (usable_before s to k may.agrees e apart usable) (sym (may.wanted e apart) ∙ kept);
  }

  may_go : MayPlace s (copies_without s.is_copy to) s.media.block k None None
  may_go = record {
    live = less_live;
    same = λ lv b c. inl refl;
    dirty = λ lv h. may.agrees.dirty lv ∙ h;
    had = λ lv b c copy. (c, was_copy s to lv b c copy);
    has = λ lv b c copy. let e = less_kept lv b c copy in (e.0, e.1);
    owner = fewer_owner s to sound;
    together = λ lv b l d c copy eq. fewer_together s to lv b l d eq;
    statuses = less_statuses;
    behind = less_behind;
    records = may.records;
  }

pub place_goes : PlaceGoes
place_goes votes s to k may good = placing_keeps votes s (copies_without s.is_copy to) s.media.block k None None (may_go s to k may good.sound) good

-- ---- one in the place of another

module _ (s : ModelState) (from to : Pp) (k : Marking) (may : Replaces s from to k) (sound : Sound s) where
  abbrev next : ModelState
  next = replaced s from k

  complete_there : (c : Pp) → Complete s c → IsTrue (is_pp c to)
  complete_there c x = same_partition c to (sym x.target ∙ ap (λ (o : ModelCopy). o.target) (one_open s.open_copy x.copy may.complete.copy x.is_open may.complete.is_open) ∙ may.complete.target)

  not_wanted : (c : Pp) → IsFalse (is_pp c to) → IsFalse (k.wanted.stale c) → IsFalse (s.wanted.stale c)
  not_wanted c off n = false_by (s.wanted.stale c) (k.wanted.stale c) (may.still c off) n

  next_live : (lv b : ℕ) (c : Pp) → Live next lv b c → Live s lv b c
  next_live lv b c live =
      let copy = was_copy s from lv b c live.copy in
      ⊎_elim
      (λ (fresh : IsFalse (is_settled_stale next c)). ⊎_elim
      (λ (at : IsTrue (is_pp c to)). record {
        copy = copy;
        counts = inr (record {
          copy = may.complete.copy;
          is_open = may.complete.is_open;
          target = may.complete.target ∙ sym (one_partition c to at);
          passed = may.complete.passed lv b (there_too (λ (p : Pp). IsTrue (s.is_copy lv b p)) c to at copy);
        });
      })
      (λ (off : IsFalse (is_pp c to)). record { copy = copy; counts = inl (sym (settled_same s to k may.agrees c off) ∙ fresh) })
      (cases_Bool (is_pp c to)))
      (λ (x : HasPassed next lv (track_group_of b) c). none_open None x.copy refl x.is_open)
      live.counts

  -- it is one of the copies that are left
  there_now : (lv b : ℕ) → IsTrue (s.is_copy lv b to) → IsTrue (fewer s from lv b to)
  there_now lv b copy = in_fewer s from lv b to may.apart ∙ copy

  -- so is each copy of another logical partition
  other_off : (lv b : ℕ) (c : Pp) → IsFalse (s.is_copy lv b to) → IsTrue (s.is_copy lv b c) → IsFalse (is_pp c from)
  other_off lv b c none copy = ⊎_elim
      (λ (at : IsTrue (is_pp c from)). clash_gives (s.is_copy lv b to) (may.alone lv b (there_too (λ (p : Pp). IsTrue (s.is_copy lv b p)) c from at copy)) none)
      (λ (off : IsFalse (is_pp c from)). off)
      (cases_Bool (is_pp c from))

  other_apart : (lv b : ℕ) (c : Pp) → IsFalse (s.is_copy lv b to) → IsTrue (s.is_copy lv b c) → IsFalse (is_pp c to)
  other_apart lv b c none copy = ⊎_elim
      (λ (at : IsTrue (is_pp c to)). clash_gives (s.is_copy lv b to) (there_too (λ (p : Pp). IsTrue (s.is_copy lv b p)) c to at copy) none)
      (λ (off : IsFalse (is_pp c to)). off)
      (cases_Bool (is_pp c to))

  -- of what isn't beside it no more staleness is wanted
  other_kept : (lv b : ℕ) (c : Pp) → IsFalse (s.is_copy lv b to) → IsTrue (s.is_copy lv b c) → IsFalse (s.wanted.stale c) → IsFalse (k.wanted.stale c)
  other_kept lv b c none copy n = ⊎_elim
      (λ (w : IsTrue (k.wanted.stale c)). ⊎_elim
      (λ (before : IsTrue (s.wanted.stale c)). clash_gives (s.wanted.stale c) before n)
      (λ (beside : (l d : ℕ) → IsTrue (s.is_copy l d c) → IsTrue (s.is_copy l d to)). clash_gives (s.is_copy lv b to) (beside lv b copy) none)
      (may.added c (other_apart lv b c none copy) w))
      (λ (is : IsFalse (k.wanted.stale c)). is)
      (cases_Bool (k.wanted.stale c))

  fresh_there : StaysFresh next to
  fresh_there = record {
    committed = may.committed;
    flying = may.flying;
    wanted = may.fresh;
  }

  next_kept : (lv b : ℕ) (c : Pp) → IsTrue (s.is_copy lv b c) → (e : Pp) × IsTrue (fewer s from lv b e) × StaysFresh next e
  next_kept lv b c copy = ⊎_elim
      (λ (its : IsTrue (s.is_copy lv b to)). (to, there_now lv b its, fresh_there))
      (λ (none : IsFalse (s.is_copy lv b to)).
      let e = sound.statuses.kept lv b c copy in (
        e.0,
        in_fewer s from lv b e.0 (other_off lv b e.0 none e.1) ∙ e.1,
        fresh_alike s to k may.agrees (fewer s from) s.media.block None None e.0 (other_apart lv b e.0 none e.1) (other_kept lv b e.0 none e.1 e.2.wanted) e.2,
      ))
      (cases_Bool (s.is_copy lv b to))

  next_statuses : Statuses next
  next_statuses = record {
    stale_flies = λ c u flies stale fresh. ⊎_elim
        (λ (at : IsTrue (is_pp c to)). clash_gives (k.committed.value.stale to) (there_too (λ (p : Pp). IsTrue (k.committed.value.stale p)) c to at stale) may.committed)
        (λ (off : IsFalse (is_pp c to)).
        let w = may.agrees.flying u flies in
        ⊎_elim
        (λ (wants : IsTrue (s.wanted.stale c)). inl (may.still c off wants))
        (λ (x : Complete s c). clash_gives (is_pp c to) (complete_there c x) off)
        (sound.statuses.stale_flies c w.0 w.1 (sym (may.agrees.committed c off) ∙ stale) (sym (w.2 c off) ∙ fresh)))
        (cases_Bool (is_pp c to));
    stale_is_wanted = λ c stale n. ⊎_elim
        (λ (at : IsTrue (is_pp c to)). clash_gives (k.committed.value.stale to) (there_too (λ (p : Pp). IsTrue (k.committed.value.stale p)) c to at stale) may.committed)
        (λ (off : IsFalse (is_pp c to)). clash_gives (is_pp c to) (complete_there c (sound.statuses.stale_is_wanted c (sym (may.agrees.committed c off) ∙ stale) (not_wanted c off n))) off)
        (cases_Bool (is_pp c to));
    flying_is_wanted = λ c u flies stale n.
        let w = may.agrees.flying u flies in
        ⊎_elim
        (λ (at : IsTrue (is_pp c to)).
        clash_gives (u.value.stale to) (there_too (λ (p : Pp). IsTrue (u.value.stale p)) c to at stale) (may.flying u flies))
        (λ (off : IsFalse (is_pp c to)).
        clash_gives (is_pp c to) (complete_there c (sound.statuses.flying_is_wanted c w.0 w.1 (sym (w.2 c off) ∙ stale) (not_wanted c off n))) off)
        (cases_Bool (is_pp c to));
    kept = λ lv b c copy. next_kept lv b c (was_copy s from lv b c copy);
    open_there = λ o is. none_open None o refl is;
    open_stale = λ o is. none_open None o refl is;
    dirty_flies = λ lv u flies h.
        let w = may.agrees.flying u flies in w.3 lv ∙ sound.statuses.dirty_flies lv w.0 w.1 (sym (may.agrees.dirty lv) ∙ h);
    dirty_is_wanted = λ lv h. may.wanted_dirty lv (sound.statuses.dirty_is_wanted lv (sym (may.agrees.dirty lv) ∙ h));
    dirty_flying_is_wanted = λ lv u flies h.
        let w = may.agrees.flying u flies in may.wanted_dirty lv (sound.statuses.dirty_flying_is_wanted lv w.0 w.1 (sym (w.3 lv) ∙ h));
  }

  is_there : IsFalse (s.missing to.disk)
  is_there = subst (λ (p : Pp). IsFalse (s.missing p.disk)) may.complete.target (sound.statuses.open_there may.complete.copy may.complete.is_open)

  next_behind : Behind next
  next_behind = record {
    left_behind = λ lv b c e copy fresh lost other usable kept. ⊎_elim
        (λ (at : IsTrue (is_pp c to)). clash_gives (s.missing to.disk) (there_too (λ (p : Pp). IsTrue (s.missing p.disk)) c to at lost) is_there)
        (λ (off : IsFalse (is_pp c to)). ⊎_elim
        (λ (its : IsTrue (s.is_copy lv b to)). may.behind lv b c its (was_copy s from lv b c copy) off (left_off s from lv b c copy) (sym (may.agrees.committed c off) ∙ fresh) lost)
        (λ (none : IsFalse (s.is_copy lv b to)).
        let apart = other_apart lv b e none (was_copy s from lv b e other) in
        may.still c off (sound.behind.left_behind lv b c e (was_copy s from lv b c copy) (sym (may.agrees.committed c off) ∙ fresh) lost (was_copy s from lv b e other)
        (usable_before s to k may.agrees e apart usable) (not_wanted e apart kept)))
        (cases_Bool (s.is_copy lv b to)))
        (cases_Bool (is_pp c to));
  }

  may_take : MayPlace s (copies_without s.is_copy from) s.media.block k None None
  may_take = record {
    live = next_live;
    same = λ lv b c. inl refl;
    dirty = λ lv h. may.agrees.dirty lv ∙ h;
    had = λ lv b c copy. (c, was_copy s from lv b c copy);
    has = λ lv b c copy. let e = next_kept lv b c copy in (e.0, e.1);
    owner = fewer_owner s from sound;
    together = λ lv b l d c copy eq. fewer_together s from lv b l d eq;
    statuses = next_statuses;
    behind = next_behind;
    records = may.records;
  }

pub place_is_taken : PlaceIsTaken
place_is_taken votes s from to k may good = placing_keeps votes s (copies_without s.is_copy from) s.media.block k None None (may_take s from to k may good.sound) good
