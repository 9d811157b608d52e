-- Staleness becomes wanted, and then the copy that is open ends.
use Rattle.std.proofs.Common.{◌≡◌, Bool, Option, Some, None, refl, ◌∙◌, ap}
use Rattle.std.specs.Prelude.{◌&&◌, ◌||◌, not, false, unwrap_or, IfSome}
use Rattle.std.specs.Option.{option_map_or}
use Rattle.lvm_num.specs.declared.place.Pp.{Pp}
use Rattle.lvm_num.specs.Descriptor.{is_pp}
use Rattle.lvm_num.specs.Status.{calls_stale}
use Rattle.lvm_status.specs.Update.{Stored, Updates}
use Rattle.lvm_session.specs.declared.bringing.OpenCopy.{OpenCopy}
use Rattle.lvm_session.specs.declared.bringing.CopyEnd.{CopyEnd}
use Rattle.lvm_session.specs.State.{Core}
use Rattle.lvm_session.specs.Bringing.{after_copy_end, is_held_stale, is_done_end, is_whole, marked_by_end, with_end}
use Rattle.lvm_session.specs.Marks.{WantsStale}
use Rattle.lvm_calls.proofs.MarksLemmas.{markable_on, same_due, sound_after, then_marked}
use Rattle.lvm_calls.specs.Ending.{CanEnd, MayEndCopy}

-- what is called stale is what it was
called_same : (core : Core) (due : Pp → Bool) (status : Stored) → WantsStale due core.status status → (p : Pp) → is_held_stale (record core { status = status }) p ≡ is_held_stale core p
called_same core due status marks p = ap (λ (u : Updates). calls_stale u.committed p || calls_stale (unwrap_or u.in_flight u.committed) p) marks.rest

marks_same : (core : Core) (due : Pp → Bool) (status : Stored) → WantsStale due core.status status → (end : Option CopyEnd) (q : Pp) → marked_by_end (record core { status = status }) end q ≡ marked_by_end core end q
marks_same core due status marks None q = refl
marks_same core due status marks (Some how) q = by core.copy
  where
    by : (copy : Option OpenCopy) → not (is_done_end how) && option_map_or (λ (c : OpenCopy). is_whole core c && is_pp q c.pp && (not c.moves || is_held_stale (record core { status = status }) c.pp)) copy false
        ≡ not (is_done_end how) && option_map_or (λ (c : OpenCopy). is_whole core c && is_pp q c.pp && (not c.moves || is_held_stale core c.pp)) copy false
    by None = refl
    by (Some c) = ap (λ b. not (is_done_end how) && (is_whole core c && is_pp q c.pp && (not c.moves || b))) (called_same core due status marks c.pp)

end_same : (core : Core) (first last : Stored) (end : Option CopyEnd) → ◌≡◌ {A = Core} (record (with_end (record core { status = first }) end) { status = last }) (record (with_end core end) { status = last })
end_same core first last None = refl
end_same core first last (Some how) = by_copy core.copy
  where
    by_copy : (copy : Option OpenCopy) → ◌≡◌ {A = Core} (record (option_map_or (λ (c : OpenCopy). after_copy_end (record core { status = first }) c how) copy (record core { status = first })) { status = last })
        (record (option_map_or (λ (c : OpenCopy). after_copy_end core c how) copy core) { status = last })
    by_copy None = refl
    by_copy (Some c) = refl

-- what was due is wanted stale, and the copy has ended so
pub record MarksAndEnds (old : Core) (due : Pp → Bool) (end : Option CopyEnd) (new : Core) : Type 0 where
  pub marks : WantsStale (λ q. due q || marked_by_end old end q) old.status new.status
  pub is : new ≡ record (with_end old end) { status = new.status }

pub marks_and_ends : (old mid new : Core) (due : Pp → Bool) (end : Option CopyEnd) → mid ≡ record old { status = mid.status } → WantsStale due old.status mid.status
    → new ≡ record (with_end mid end) { status = new.status } → WantsStale (marked_by_end mid end) mid.status new.status → MarksAndEnds old due end new
marks_and_ends old mid new due end mids first is marks = record {
  marks = then_marked due (marked_by_end old end) old.status mid.status new.status first
      (same_due (marked_by_end mid end) (marked_by_end old end) mid.status new.status (λ q. ap (λ (c : Core). marked_by_end c end q) mids ∙ marks_same old due mid.status first end q) marks);
  is = is ∙ ap (λ (c : Core). record (with_end c end) { status = new.status }) mids ∙ end_same old mid.status new.status end;
}

-- once it is wanted the copy can still end
pub may_still : (old : Core) (due : Pp → Bool) (status : Stored) → MayEndCopy old → WantsStale due old.status status → MayEndCopy (record old { status = status })
may_still old due status may marks = record { sound = sound_after due old.status status marks may.sound; copy = by_copy old.copy may.copy }
  where
    by_copy : (copy : Option OpenCopy) → IfSome copy (CanEnd old) → IfSome copy (CanEnd (record old { status = status }))
    by_copy None can = tt
    by_copy (Some c) can = record { hand = can.hand; markable = markable_on old.status.wanted status.wanted c.pp marks.rows can.markable }
