-- Each crash image agrees with the history.
use Rattle.std.proofs.Common.{◌≡◌, ◌⊎◌, inl, inr, ⊎_elim, ℕ, Bool, true, false, ◌&&◌, List, Option, Some, None, refl, sym, ap, subst, ◌∙◌}
use Rattle.std.specs.Prelude.{IsTrue, IsFalse, map, if◌then◌else◌}
use Rattle.std.proofs.lemmas.Bool.{and_left}
use Rattle.lvm_num.specs.declared.place.Pp.{Pp}
use Rattle.lvm_num.specs.Geometry.{track_group_of}
use Rattle.lvm_num.specs.Record.{Stamped}
use Rattle.lvm_num.proofs.Booleans.{clash_gives}
use Rattle.lvm_vol.specs.Facts.{Request, block_of}
use Rattle.lvm_vol.specs.May.{Known, cut, is_off, is_some_open}
use Rattle.lvm_invariant.specs.State.{write_of, Marks, Groups, View, Going, Queued, ModelState, covers, request_of, has_landed, stale_in, Live, Named, Started, told}
use Rattle.lvm_invariant.proofs.Small.{IsIn, and_right_false, or_left, or_right, in_more, in_added, brought_in, some_open}
use Rattle.lvm_invariant.specs.Sound.{MayDiffer, Agree, Quiescent, Busy, Recorded, StaysFresh, Sound}
use Rattle.lvm_invariant.specs.Crash.{CopyBrings, IsCrash, Fresh, MayDifferAfter, BlockKept, IsPossible, Widens, CoreIsKept}

-- a started write is open in the history
pub the_write_is : (write over : Bool) (w : List ℕ) → IsTrue write → IsTrue over → (if write && over then Some w else None) ≡ Some w
the_write_is true true w a b = refl
the_write_is true false w a b = absurd cc
the_write_is false over w a b = absurd cc

pub going_not_landed : (r : Queued) → r.phase ≡ Going → IsFalse (has_landed r.phase)
going_not_landed r e = ap has_landed e

module _ (s : ModelState) (sound : Sound s) where
  pub is_open : (i : ℕ) (r : Queued) (lv b : ℕ) → Started s i r → IsTrue (covers r lv b) → write_of b (told s lv b) (request_of s i) ≡ Some (r.value b)
  is_open i r lv b started over = sound.tied.open_writes i r started.there started.write (going_not_landed r started.going) lv b ∙ the_write_is r.write (covers r lv b) (r.value b) started.write over

  pub new_value_in : (i : ℕ) (r : Queued) (lv b : ℕ) → Started s i r → IsTrue (covers r lv b) → IsIn (cut b (told s lv b)).values (r.value b)
  new_value_in i r lv b started over =
      let busy : Busy s r lv b = sound.blocks.busy i lv b r started over in
      in_added (told s lv b).values (map (λ (w : Request). block_of w.blocks w.at b) (told s lv b).open_writes) busy.known.0 (r.value b) busy.known.1
      (brought_in b (told s lv b).open_writes (request_of s i) (r.value b) (is_open i r lv b started over))

  pub cut_widens : Widens s (λ lv b. cut b (told s lv b))
  cut_widens = record {
    old = λ lv b value h. in_more (told s lv b).values _ value h;
    new = λ i lv b r started over. new_value_in i r lv b started over;
    loose = λ lv b h. or_left (told s lv b).loose _ h;
    started = λ i lv b r started over off soft. or_right (told s lv b).loose (is_off (told s lv b).mode) (is_some_open (told s lv b).open_writes)
        (let at = sound.tied.inside i r started.there lv b over in sound.tied.modes lv b at.0 at.1 off soft)
        (some_open b (told s lv b).open_writes (request_of s i) (r.value b) (is_open i r lv b started over));
  }

  module _ (v : View) (crash : IsCrash s v) (after : ℕ → ℕ → Known) (wide : Widens s after) where
    named_after : (d lv g : ℕ) → Named s d lv g → IsTrue (v.names d lv g)
    named_after d lv g named = elim (crash.names d) [
      | inl same ↦ ap (λ (n : Groups). n lv g) same ∙ named.home
      | inr other ↦ ap (λ (n : Groups). n lv g) other.2 ∙ named.flying other.0 other.1
    ]

    -- what a step brings is allowed, and the live copies hold it
    brought_seen : (lv b : ℕ) (c : Pp) (k : CopyBrings s lv b c (v.block lv b c)) → IsIn (told s lv b).values (k.values b) × (IsTrue (told s lv b).loose ⊎ ((e : Pp) → Live s lv b e → s.media.block lv b e ≡ k.values b))
    brought_seen lv b c k = sound.holds.got k.id lv b k.req k.values k.there k.read k.past k.got k.over

    media_allowed : (lv b : ℕ) (c : Pp) → Live s lv b c → IsIn (after lv b).values (s.media.block lv b c)
    media_allowed lv b c live = ⊎_elim
        (λ (settled : Quiescent s lv b). wide.old lv b (s.media.block lv b c) (settled.allowed c live))
        (λ (by : (i : ℕ) × (r : Queued) × Started s i r × IsTrue (covers r lv b)).
        let busy : Busy s by.1 lv b = sound.blocks.busy by.0 lv b by.1 by.2 by.3 in
        ⊎_elim
        (λ (old : IsIn (told s lv b).values (s.media.block lv b c)). wide.old lv b (s.media.block lv b c) old)
        (λ (new : s.media.block lv b c ≡ by.1.value b). subst (IsIn (after lv b).values) (sym new) (wide.new by.0 lv b by.1 by.2 by.3))
        (busy.value c live))
        (sound.blocks.each lv b)

    allowed_live : (lv b : ℕ) (c : Pp) → Live s lv b c → IsIn (after lv b).values (v.block lv b c)
    allowed_live lv b c live = elim (crash.block lv b c live.copy) [
      | inl same ↦ subst (IsIn (after lv b).values) (sym same) (media_allowed lv b c live)
      | inr rest ↦ elim rest [
        | inl brings ↦ subst (IsIn (after lv b).values) (sym brings.is) (wide.new brings.id lv b brings.req brings.started brings.over)
        | inr k ↦ subst (IsIn (after lv b).values) (sym k.is) (wide.old lv b (k.values b) (brought_seen lv b c k).0)
      ]
    ]

    module _ (marks : Marks) (possible : IsPossible s marks) (lv b : ℕ) where
      is_live : (c : Pp) → Fresh s marks lv b c → Live s lv b c
      is_live c fresh = record {
        copy = fresh.copy;
        counts = inl (elim possible [
          | inl is ↦ and_left (s.committed.value.stale c) (stale_in s.in_flight c) (ap (λ (m : Marks). m.stale c) (sym is) ∙ fresh.fresh)
          | inr flies ↦ and_right_false (s.committed.value.stale c) (stale_in s.in_flight c) (ap (λ (o : Option (Stamped Marks)). stale_in o c) flies.1 ∙ ap (λ (m : Marks). m.stale c) (sym flies.2) ∙ fresh.fresh)
        ]);
      }

      -- without a write, live copies hold after the loss what they hold now, if the block isn't loose
      same_if_calm : Quiescent s lv b → IsFalse (told s lv b).loose → (c : Pp) → Live s lv b c → v.block lv b c ≡ s.media.block lv b c
      same_if_calm settled tight c live = elim (crash.block lv b c live.copy) [
        | inl same ↦ same
        | inr rest ↦ elim rest [
          | inl brings ↦ absurd (settled.calm brings.id brings.req brings.started brings.over)
          | inr k ↦ k.is ∙ ⊎_elim
              (λ (loose : IsTrue (told s lv b).loose). clash_gives (told s lv b).loose loose tight)
              (λ (equal : (e : Pp) → Live s lv b e → s.media.block lv b e ≡ k.values b). sym (equal c live))
              (brought_seen lv b c k).1
        ]
      ]

      marks_dirty : IsTrue (s.committed.value.dirty lv) → IsTrue (marks.dirty lv)
      marks_dirty h = elim possible [
        | inl is ↦ ap (λ (m : Marks). m.dirty lv) is ∙ h
        | inr flies ↦ ap (λ (m : Marks). m.dirty lv) flies.2 ∙ sound.statuses.dirty_flies lv flies.0 flies.1 h
      ]

      tested : (t : Bool) → IsTrue t ⊎ IsFalse t
      tested true = inl refl
      tested false = inr refl

      -- a write with one target goes to the only copy
      one_copy : {X : Type 0} (i : ℕ) (r : Queued) → r.several ≡ false → Started s i r → IsTrue (covers r lv b) → ((value : List ℕ) × ((c : Pp) → Fresh s marks lv b c → v.block lv b c ≡ value)) ⊎ X
      one_copy i r e started over =
          let busy : Busy s r lv b = sound.blocks.busy i lv b r started over in
          let recorded : Recorded s r lv b = sound.blocks.recorded i lv b r started over in
          inl (
            v.block lv b recorded.one.0,
            λ c fresh. let aim = busy.aimed c (is_live c fresh) in
                ap (v.block lv b) (recorded.single e c recorded.one.0 aim.0 recorded.one.1 aim.1 recorded.one.2),
          )

      equal_if_settled : (active loose : Bool) → s.is_active lv ≡ active → (told s lv b).loose ≡ loose → Quiescent s lv b → Agree s lv b ⊎ MayDiffer s lv b active
          → ((value : List ℕ) × ((c : Pp) → Fresh s marks lv b c → v.block lv b c ≡ value)) ⊎ MayDifferAfter s v marks (after lv b) lv b active
      equal_if_settled active false on tight settled (inl agree) = inl (agree.0, λ c fresh. same_if_calm settled tight c (is_live c fresh) ∙ agree.1 c (is_live c fresh))
      equal_if_settled true true on loose settled (inl agree) = inr (λ c fresh. clash_gives (told s lv b).loose loose (sound.tied.tight lv b c fresh.copy (inl on)))
      equal_if_settled false true on loose settled (inl agree) = inr (inl (wide.loose lv b loose))
      equal_if_settled true loose on l settled (inr differ) = inr (λ c fresh. named_after c.disk lv (track_group_of b) (differ c (is_live c fresh)).1)
      equal_if_settled false loose on l settled (inr (inl is)) = inr (inl (wide.loose lv b is))
      equal_if_settled false loose on l settled (inr (inr d)) = inr (inr (d.passive, marks_dirty d.dirty))

      equal_if_busy : (active : Bool) → s.is_active lv ≡ active → (several : Bool) (i : ℕ) (r : Queued) → r.several ≡ several → Started s i r → IsTrue (covers r lv b)
          → ((value : List ℕ) × ((c : Pp) → Fresh s marks lv b c → v.block lv b c ≡ value)) ⊎ MayDifferAfter s v marks (after lv b) lv b active
      equal_if_busy false off true i r e started over = ⊎_elim
          (λ (soft : IsTrue (s.is_passive lv)). inr (inr (soft, marks_dirty ((sound.blocks.recorded i lv b r started over).dirty soft e))))
          (λ (not_soft : IsFalse (s.is_passive lv)). inr (inl (wide.started i lv b r started over off not_soft)))
          (tested (s.is_passive lv))
      equal_if_busy false off false i r e started over = one_copy i r e started over
      equal_if_busy true on true i r e started over =
          let busy : Busy s r lv b = sound.blocks.busy i lv b r started over in
          let recorded : Recorded s r lv b = sound.blocks.recorded i lv b r started over in
          inr (λ c fresh. let aim = busy.aimed c (is_live c fresh) in named_after c.disk lv (track_group_of b) (recorded.named on e c aim.0 aim.1))
      equal_if_busy true on false i r e started over =
          one_copy i r e started over

      not_stale : (e : Pp) → StaysFresh s e → IsFalse (marks.stale e)
      not_stale e kept = elim possible [
        | inl is ↦ ap (λ (m : Marks). m.stale e) is ∙ kept.committed
        | inr flies ↦ ap (λ (m : Marks). m.stale e) flies.2 ∙ kept.flying flies.0 flies.1
      ]

      pub block_kept : BlockKept s v marks (after lv b) lv b
      block_kept = record {
        allowed = λ c fresh. allowed_live lv b c (is_live c fresh);
        equal = elim (sound.blocks.each lv b) [
          | inl settled ↦ equal_if_settled (s.is_active lv) (told s lv b).loose refl refl settled settled.equal
          | inr by ↦ equal_if_busy (s.is_active lv) refl by.1.several by.0 by.1 refl by.2 by.3
        ];
        some = λ c copy. let k = sound.statuses.kept lv b c copy in (k.0, record { copy = k.1; fresh = not_stale k.0 k.2 });
      }

pub core_kept : CoreIsKept
core_kept s sound v marks lv b crash possible = block_kept s sound v crash (λ lv b. cut b (told s lv b)) (cut_widens s sound) marks possible lv b
