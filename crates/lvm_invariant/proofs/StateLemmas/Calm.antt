-- Events that touch no block.
use Rattle.std.proofs.Common.{◌≡◌, ◌⊎◌, inl, inr, ⊎_elim, ℕ, Bool, true, false, List, Option, refl, sym, ap, subst, ◌∙◌}
use Rattle.lvm_num.specs.declared.place.Pp.{Pp}
use Rattle.lvm_num.specs.Geometry.{track_group_of}
use Rattle.lvm_invariant.proofs.Small.{IsIn}
use Rattle.lvm_invariant.specs.State.{Queued, ModelState, Started, told}
use Rattle.lvm_invariant.specs.Sound.{MayDiffer, Agree, Quiescent, Blocks}
use Rattle.lvm_invariant.proofs.StateLemmas.Claims.{Calmer, keeping_blocks, with_requests}
use Rattle.lvm_invariant.proofs.SoundLemmas.Sound.{keeping_live, keeping_notes, live_same, named_same, each_same}

module _ (old new : ModelState) (calmer : Calmer old new) (blocks : Blocks old) where
  same_block : (lv b : ℕ) (c : Pp) → new.media.block lv b c ≡ old.media.block lv b c
  same_block lv b c = ap (λ (s : ModelState). s.media.block lv b c) (sym calmer.same)

  same_active : (lv : ℕ) → new.is_active lv ≡ old.is_active lv
  same_active lv = ap (λ (s : ModelState). s.is_active lv) (sym calmer.same)

  same_passive : (lv : ℕ) → new.is_passive lv ≡ old.is_passive lv
  same_passive lv = ap (λ (s : ModelState). s.is_passive lv) (sym calmer.same)

  allowed_now : (lv b : ℕ) (c : Pp) → IsIn (told old lv b).values (old.media.block lv b c) → IsIn (told new lv b).values (new.media.block lv b c)
  allowed_now lv b c h = subst (IsIn (told new lv b).values) (sym (same_block lv b c)) (subst (λ (m : Option (List (List ℕ))). IsIn m (old.media.block lv b c)) (sym (calmer.may lv b)) h)

  settled_now : (lv b : ℕ) → Quiescent old lv b → Quiescent new lv b
  settled_now lv b settled = record {
    calm = λ i r started over. settled.calm i r (calmer.started i r started) over;
    allowed = λ c live. allowed_now lv b c (settled.allowed c (calmer.live lv b c live));
    equal = by_mode (old.is_active lv) (new.is_active lv) (same_active lv) settled.equal;
  }
    where
      same_mode : (x : Bool) → Agree old lv b ⊎ MayDiffer old lv b x → Agree new lv b ⊎ MayDiffer new lv b x
      same_mode x (inl agree) = inl (agree.0, λ c live. same_block lv b c ∙ agree.1 c (calmer.live lv b c live))
      same_mode true (inr differ) = inr (λ c live. let d = differ c (calmer.live lv b c live) in (calmer.missing_still c.disk d.0, calmer.named_missing c.disk lv (track_group_of b) d.0 d.1))
      same_mode false (inr (inl loose)) = inr (inl (calmer.loose lv b loose))
      same_mode false (inr (inr d)) = inr (inr (record { passive = same_passive lv ∙ d.passive; missing = λ c live. calmer.missing_still c.disk (d.missing c (calmer.live lv b c live)); dirty = calmer.dirty lv d.dirty }))

      by_mode : (x y : Bool) → y ≡ x → Agree old lv b ⊎ MayDiffer old lv b x → Agree new lv b ⊎ MayDiffer new lv b y
      by_mode x y same h = subst (λ (z : Bool). Agree new lv b ⊎ MayDiffer new lv b z) (sym same) (same_mode x h)

  pub calm_blocks : Blocks new
  calm_blocks = record {
    each = each_same old new calmer.started_still settled_now blocks;
    busy = λ i lv b r started over.
        let busy = blocks.busy i lv b r (calmer.started i r started) over in
        record {
          known = (busy.known.0, calmer.may lv b ∙ busy.known.1);
          aimed = λ c live. busy.aimed c (calmer.live lv b c live);
          value = λ c live. ⊎_elim
              (λ (h : IsIn (told old lv b).values (old.media.block lv b c)). inl (allowed_now lv b c h))
              (λ (h : old.media.block lv b c ≡ r.value b). inr (same_block lv b c ∙ h))
              (busy.value c (calmer.live lv b c live));
          well = λ c at. same_block lv b c ∙ busy.well c at;
        };
    recorded = λ i lv b r started over.
        let recorded = blocks.recorded i lv b r (calmer.started i r started) over in
        record {
          named = λ on several c stage at. let was = sym (same_active lv) ∙ on in calmer.named_started i lv b c.disk r (calmer.started i r started) over was several (recorded.named was several c stage at);
          one = recorded.one;
          dirty = λ soft several. calmer.dirty lv (recorded.dirty (sym (same_passive lv) ∙ soft) several);
          single = recorded.single;
        };
  }

-- an event of requests alone, by which no write starts or lands
pub calmer_of : (old new : ModelState) → with_requests old new ≡ new → ((i : ℕ) (r : Queued) → Started new i r → Started old i r) → ((i : ℕ) (r : Queued) → Started old i r → Started new i r)
    → ((lv b : ℕ) → (told new lv b).values ≡ (told old lv b).values) → ((lv b : ℕ) → (told new lv b).loose ≡ (told old lv b).loose) → Calmer old new
calmer_of old new same started still values loose =
    let noted : keeping_notes old new ≡ new = subst (λ (s : ModelState). keeping_notes old s ≡ s) same refl in
    record {
      started = started;
      started_still = still;
      may = values;
      loose = λ lv b h. loose lv b ∙ h;
      same = subst (λ (s : ModelState). keeping_blocks old s ≡ s) same refl;
      live = live_same old new (subst (λ (s : ModelState). keeping_live old s ≡ s) same refl);
      dirty = λ lv h. ap (λ (s : ModelState). s.committed.value.dirty lv) (sym same) ∙ h;
      missing_still = λ d h. ap (λ (s : ModelState). s.missing d) (sym same) ∙ h;
      named_missing = λ d lv g gone named. named_same old new noted d lv g named;
      named_started = λ i lv b d r started over on several named. named_same old new noted d lv (track_group_of b) named;
    }
