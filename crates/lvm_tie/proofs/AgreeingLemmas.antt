-- Live copies hold one value where no write that has started goes over them.
use Rattle.std.proofs.Common.{◌≡◌, inl, inr, ⊎_elim, ℕ, ◌+◌, ◌&&◌, ◌==◌, Bool, true, false, not, List, Option, Some, None, refl, sym, ap, subst, ◌∙◌}
use Rattle.std.specs.Prelude.{IsTrue, IsFalse, nat_le, nat_lt, unwrap_or}
use Rattle.std.specs.Option.{option_map}
use Rattle.std.proofs.lemmas.Option.{same_Some}
use Rattle.std.proofs.lemmas.Bool.{and_parts}
use Rattle.lvm_num.specs.declared.descriptor.Descriptor.{Descriptor}
use Rattle.lvm_num.specs.declared.descriptor.LvRow.{LvRow}
use Rattle.lvm_num.specs.declared.descriptor.Mode.{Mode}
use Rattle.lvm_num.specs.declared.descriptor.Mode.TheVariants.{Active, Passive, Off}
use Rattle.lvm_num.specs.declared.place.Pp.{Pp}
use Rattle.lvm_num.specs.declared.status.Status.{Status}
use Rattle.lvm_num.specs.Descriptor.{is_member}
use Rattle.lvm_num.specs.Record.{Stamped}
use Rattle.lvm_num.specs.Status.{calls_stale}
use Rattle.lvm_vol.specs.declared.entry.Vol.TheVariants.{Lv}
use Rattle.lvm_vol.specs.Facts.{Fact}
use Rattle.lvm_vol.specs.May.{known}
use Rattle.lvm_disk.specs.Device.{image_of}
use Rattle.lvm_kept.specs.Contents.{Contents, contents_of}
use Rattle.lvm_path.specs.declared.request.Phase.{Phase}
use Rattle.lvm_path.specs.declared.request.Phase.TheVariants as phase
use Rattle.lvm_path.specs.Targets.{is_begun}
use Rattle.lvm_session.specs.Judging.{is_missing, is_settled, is_stale}
use Rattle.lvm_session.specs.State.{Core, State}
use Rattle.lvm_invariant.specs.State.{Going, Live, Queued, Started, ModelState, covers, is_settled_stale, stale_in, told}
use Rattle.lvm_invariant.specs.Sound.{Agree, MayDiffer, Quiescent}
use Rattle.lvm_num.specs.Modes.{is_active, is_passive}
use Rattle.lvm_num.proofs.Booleans.{clash_gives}
use Rattle.lvm_crash.specs.Session.{as_marks, is_beside}
use Rattle.lvm_even.specs.Members.{members_showing}
use Rattle.lvm_tie.specs.Seen.{IsRequestAt, IsStepAt, SeesRequest, phase_seen}
use Rattle.lvm_tie.specs.Tied.{IsTied}
use Rattle.lvm_tie.proofs.StateLemmas.{stale_seen, there_first}
use Rattle.lvm_tie.proofs.AmongLemmas.{not_true}
use Rattle.lvm_tie.specs.Agreeing.{IsLiveOn, IsSettledAt, IsUsableOf, LiveAgree, goes_over, has_started, stands_at}
use Rattle.lvm_tie.proofs.SeenLemmas.Beside.{copy_apart, copy_seen, stale_apart}

and_self : (a : Bool) → a && true ≡ a && a
and_self true = refl
and_self false = refl

-- a request that is seen to go has started
going_started : (p : Phase) (begun : Bool) → phase_seen p begun ≡ Going → has_started p begun ≡ true
going_started phase.Held begun e = absurd (cc e)
going_started phase.WantEntry begun e = absurd (cc e)
going_started phase.WantRecord begun e = absurd (cc e)
going_started phase.Data true e = refl
going_started phase.Data false e = absurd (cc e)
going_started phase.WantStatus begun e = refl
going_started phase.Landed begun e = absurd (cc e)

module _ (past : List Fact) (s : State) (tied : IsTied past s) where
  abbrev core : Core
  core = s.core

  abbrev v : ModelState
  v = tied.view

  abbrev group : Descriptor
  group = core.descriptor

  abbrev shown : Contents
  shown = contents_of (image_of s.device.sizes tied.media)

  -- ---- copies

  -- settled as stale is the same in both
  settled_same : (p : Pp) → is_beside v.beside p ≡ false → is_settled_stale v p ≡ is_settled core p
  settled_same p off = (λ t. stale_seen past s tied p off t && stale_in (tied.sees.status.in_flight t) p) ∙ by core.status.in_flight
    where
      by : (u : Option Status) → is_stale core p && stale_in (option_map (as_marks v.beside) (option_map (λ (t : Status). let r : Stamped Status = record { stamp = core.status.stamp; value = t } in r) u)) p
          ≡ is_stale core p && calls_stale (unwrap_or u core.status.committed) p
      by (Some u) = ap (λ b. is_stale core p && b) (stale_apart v.beside u p off)
      by None = and_self (is_stale core p)

  module _ (row : LvRow) (lp b : ℕ) (at : IsSettledAt past core row lp b) where
    live : (p : Pp) → IsLiveOn shown core row lp p → Live v row.number b p
    live p it = record { copy = copy_seen tied.describes.volumes row lp b p at.volume at.inside it.copy it.shows; counts = inl (settled_same p (copy_apart tied.describes.volumes row lp p at.volume at.inside.inside it.copy) ∙ it.fresh) }

    usable_live : (c : Pp) → IsUsableOf core row lp c → IsLiveOn shown core row lp c
    usable_live c it =
        let parts = and_parts (is_member group c.disk) (not (is_missing core c.disk)) it.there in
        record {
          copy = it.copy;
          shows = tied.recorded.members c.disk parts.0 (there_first past s tied c.disk (not_true (is_missing core c.disk) parts.1));
          fresh = ap (λ t. t && calls_stale (unwrap_or core.status.in_flight core.status.committed) c) it.fresh;
        }

    isnt_missing : (c : Pp) → IsUsableOf core row lp c → IsFalse (v.missing c.disk)
    isnt_missing c it = tied.sees.status.missing c.disk ∙ ap not it.there

    shown_at : (p : Pp) → Live v row.number b p → v.media.block row.number b p ≡ stands_at s tied.media p b
    shown_at p it = tied.describes.shown.blocks row.number b p it.copy

    -- ---- the block

    none_goes : (i : ℕ) (r : Queued) → Started v i r → IsTrue (covers r row.number b) → ⊥
    none_goes i r started over = ⊎_elim by_request by_step (tied.sees.queue.only i r started.there)
      where
        by_request : IsRequestAt core i → ⊥
        by_request k =
            let q = tied.sees.queue.requests k.place k.request k.there in
            let same : q.0 ≡ r = same_Some q.0 r (sym q.1 ∙ ap v.queue k.its ∙ started.there) in
            let seen : SeesRequest k.request r = subst (SeesRequest k.request) same q.2 in
            let calm = at.calm k.place k.request k.there (sym seen.write ∙ started.write) (going_started k.request.request.phase (is_begun k.request.request.targets.items) (sym seen.phase ∙ started.going)) in
            clash_gives (goes_over k.request.request.ask row.number b)
            ((λ t. (sym seen.lv t == row.number) && nat_le (sym seen.first t) b && nat_lt b (sym seen.first t + sym seen.count t)) ∙ over) calm

        by_step : IsStepAt core i → ⊥
        by_step k =
            let q = tied.sees.queue.a_step k.copy k.is_open k.row in
            let same : q.0 ≡ r = same_Some q.0 r (sym q.1 ∙ ap v.queue k.its ∙ started.there) in
            clash_gives r.write started.write (ap (λ (x : Queued). x.write) (sym same) ∙ q.2.write)

    module _ (c : Pp) (usable : IsUsableOf core row lp c) (p : Pp) (other : IsLiveOn shown core row lp p) where
      abbrev first : Live v row.number b c
      first = live c (usable_live c usable)

      abbrev second : Live v row.number b p
      second = live p other

      differs : (mode : Mode) → row.mode ≡ mode → (active : Bool) → active ≡ is_active mode → MayDiffer v row.number b active → ⊥
      differs mode is true notes differ = clash_gives (v.missing c.disk) (differ c first).0 (isnt_missing c usable)
      differs Active is false notes differ = absurd (cc notes)
      differs Passive is false notes (inl loose) = clash_gives (told v row.number b).loose loose (tied.good.sound.tied.tight row.number b c first.copy (inr (tied.describes.volumes.mark row at.volume ∙ ap is_passive is)))
      differs mode is false notes (inr dirty) = clash_gives (v.missing c.disk) (dirty.missing c first) (isnt_missing c usable)
      differs Off is false notes (inl loose) = clash_gives (told v row.number b).loose loose (ap (λ (facts : List Fact). (known facts (Lv row.number) b).loose) tied.sees.facts ∙ at.tight is)

      agrees : Quiescent v row.number b → stands_at s tied.media p b ≡ stands_at s tied.media c b
      agrees settled = ⊎_elim
          (λ (agree : Agree v row.number b). sym (shown_at p second) ∙ agree.1 p second ∙ sym (agree.1 c first) ∙ shown_at c first)
          (λ differ. absurd (differs row.mode refl (v.is_active row.number) (tied.describes.volumes.notes row at.volume) differ))
          settled.equal

      agree_here : stands_at s tied.media p b ≡ stands_at s tied.media c b
      agree_here = ⊎_elim agrees (λ busy. absurd (none_goes busy.0 busy.1 busy.2 busy.3)) (tied.good.sound.blocks.each row.number b)

pub live_agree : LiveAgree
live_agree past s tied row lp c usable b at p other = agree_here past s tied row lp b at c usable p other
