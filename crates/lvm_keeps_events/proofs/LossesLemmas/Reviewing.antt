-- What becomes of marks where missing disks are reviewed, and where the copy ends that is open.
use Rattle.std.proofs.Common.{◌≡◌, ◌⊎◌, inl, inr, ℕ, Bool, true, false, ◌&&◌, ◌||◌, not, List, Option, Some, None, if◌then◌else◌, refl, sym, ap, ◌∙◌}
use Rattle.std.specs.List.{list_any}
use Rattle.std.specs.Option.{option_map_or}
use Rattle.lvm_num.specs.declared.place.Pp.{Pp}
use Rattle.lvm_num.specs.Descriptor.{is_pp}
use Rattle.lvm_num.proofs.Booleans.{not_so}
use Rattle.lvm_status.specs.Update.{Stored}
use Rattle.lvm_session.specs.declared.bringing.CopyEnd.{CopyEnd}
use Rattle.lvm_session.specs.declared.bringing.CopyEnd.TheVariants as ending
use Rattle.lvm_session.specs.declared.bringing.OpenCopy.{OpenCopy}
use Rattle.lvm_session.specs.declared.open.Open.{Open}
use Rattle.lvm_session.specs.Causes.{fails_on}
use Rattle.lvm_session.specs.State.{Core}
use Rattle.lvm_session.specs.Judging.{is_missing, is_running}
use Rattle.lvm_session.specs.Bringing.{after_copy_end, copy_ends, end_by_sources, end_of, ends_if, is_cleared, is_done_end, is_whole, marked_by_end, with_end, is_held_stale}
use Rattle.lvm_session.specs.Marks.{Reviews, is_entailed}
use Rattle.lvm_keeps_events.proofs.passed.Keeps.{both}
use Rattle.lvm_keeps_events.proofs.JudgingLemmas.DuesMarks.{pp_same}
use Rattle.lvm_keeps_events.proofs.JudgingLemmas.Review.{left_behind}
use Rattle.lvm_keeps_events.specs.Losses.{has_failed_on, is_lasting, is_marked}
use Rattle.lvm_keeps_events.proofs.StatusLemmas.{Passes, lasts_on, marked_by, none, stale_passes}

-- ---- the end of the copy

-- where it marks a partition it is that of the copy, which is whole
pub marked_whole : (core : Core) (how : Option CopyEnd) (p : Pp) (c : OpenCopy) → core.copy ≡ Some c → marked_by_end core how p ≡ true → (is_whole core c ≡ true) × (is_pp p c.pp ≡ true)
marked_whole core None p c is e = not_so e
marked_whole core (Some how) p c is e =
    let parts = both (not (is_done_end how)) (option_map_or (λ (k : OpenCopy). is_whole core k && is_pp p k.pp && (not k.moves || is_held_stale core k.pp)) core.copy false) e in
    both (is_whole core c) (is_pp p c.pp) (both (is_whole core c && is_pp p c.pp) (not c.moves || is_held_stale core c.pp) (sym (ap (λ m. option_map_or (λ (k : OpenCopy). is_whole core k && is_pp p k.pp && (not k.moves || is_held_stale core k.pp)) m false) is) ∙ parts.1)).0

-- so there is one
pub marked_open : (core : Core) (how : Option CopyEnd) (p : Pp) → marked_by_end core how p ≡ true → (c : OpenCopy) × (core.copy ≡ Some c)
marked_open core None p e = not_so e
marked_open core (Some how) p e = by core.copy refl (both (not (is_done_end how)) (option_map_or (λ (k : OpenCopy). is_whole core k && is_pp p k.pp && (not k.moves || is_held_stale core k.pp)) core.copy false) e).1
  where
    by : (m : Option OpenCopy) → core.copy ≡ m → option_map_or (λ (k : OpenCopy). is_whole core k && is_pp p k.pp && (not k.moves || is_held_stale core k.pp)) m false ≡ true → (c : OpenCopy) × (core.copy ≡ Some c)
    by None is i = not_so i
    by (Some c) is i = (c, is)

-- what a review marks so stands on a missing disk
marked_missing : (core : Core) (p : Pp) → marked_by_end core (copy_ends core) p ≡ true → is_missing core p.disk ≡ true
marked_missing core p e = by there.0 there.1
  where
    there : (c : OpenCopy) × (core.copy ≡ Some c)
    there = marked_open core (copy_ends core) p e

    by : (c : OpenCopy) → core.copy ≡ Some c → is_missing core p.disk ≡ true
    by c is = of (is_running c) (is_missing core c.pp.disk) (is_whole core c) (is_cleared core c) refl refl (sym (ap (λ m. marked_by_end core (option_map_or (end_of core) m None) p) is) ∙ e)
      where
        its : (how : Option CopyEnd) → marked_by_end core how p ≡ true → (is_whole core c ≡ true) × (is_pp p c.pp ≡ true)
        its how i = marked_whole core how p c is i

        of : (r m w k : Bool) → is_missing core c.pp.disk ≡ m → is_whole core c ≡ w → marked_by_end core (if not r then None else if m then Some ending.SyncFailed else if w then ends_if k ending.Done else end_by_sources core c) p ≡ true
            → is_missing core p.disk ≡ true
        of false m w k gone whole i = not_so i
        of true true w k gone whole i = ap (λ (q : Pp). is_missing core q.disk) (pp_same p c.pp (its (Some ending.SyncFailed) i).1) ∙ gone
        of true false true true gone whole i = not_so i
        of true false true false gone whole i = not_so i
        of true false false k gone whole i = not_so (sym whole ∙ (its (end_by_sources core c) i).0)

-- ---- a review

-- it leaves the requests as they are
requests_same : (core : Core) (how : Option CopyEnd) → (with_end core how).requests ≡ core.requests
requests_same core None = refl
requests_same core (Some how) = by core.copy
  where
    by : (m : Option OpenCopy) → (option_map_or (λ (c : OpenCopy). after_copy_end core c how) m core).requests ≡ core.requests
    by None = refl
    by (Some c) = refl

pub after_end_requests : (core : Core) (how : Option CopyEnd) (status : Stored) (new : Core) → new ≡ record (with_end core how) { status = status } → new.requests ≡ core.requests
after_end_requests core how status new is = ap (λ (k : Core). k.requests) is ∙ requests_same core how

-- What a review marks stands on missing disks.
pub record IsReviewed (old new : Core) : Type 0 where
  pub marked : (p : Pp) → is_marked new p ≡ true → (is_marked old p ≡ true) ⊎ (is_missing new p.disk ≡ true)
  pub failed : (p : Pp) → has_failed_on new p ≡ has_failed_on old p
  pub lasting : (p : Pp) → is_lasting old p ≡ true → is_lasting new p ≡ true
  pub missing : (disk : ℕ) → is_missing old disk ≡ true → is_missing new disk ≡ true

pub reviewed : (old new : Core) → Reviews old new → IsReviewed old new
reviewed old new it = record {
  marked = λ p e. by p (marked_by due none old.status new.status passes p e);
  failed = λ p. ap (λ (os : List Open). list_any (fails_on p) os) (after_end_requests old (copy_ends old) new.status new it.is);
  lasting = λ p e. lasts_on due none old.status new.status passes p refl e;
  missing = passes.missing;
}
  where
    due : Pp → Bool
    due p = is_entailed old p || marked_by_end old (copy_ends old) p

    passes : Passes due none old.status new.status
    passes = stale_passes due none old.status new.status it.marks

    either : (a b : Bool) → a || b ≡ true → (a ≡ true) ⊎ (b ≡ true)
    either true b e = inl refl
    either false b e = inr e

    gone : (p : Pp) → (is_entailed old p ≡ true) ⊎ (marked_by_end old (copy_ends old) p ≡ true) → is_missing old p.disk ≡ true
    gone p (inl left) = (left_behind old p left).gone
    gone p (inr marked) = marked_missing old p marked

    by : (p : Pp) → (is_marked old p ≡ true) ⊎ (due p ≡ true) → (is_marked old p ≡ true) ⊎ (is_missing new p.disk ≡ true)
    by p (inl was) = inl was
    by p (inr is) = inr (passes.missing p.disk (gone p (either (is_entailed old p) (marked_by_end old (copy_ends old) p) is)))
