-- A write to one disk after another.
use Rattle.std.proofs.Common.{◌≡◌, ⊎_elim, ℕ, ◌+◌, ◌<◌, ◌≤◌, Bool, true, false, IsTrue, IsFalse, length, refl, sym, ◌∙◌, ap, subst, arith}
use Rattle.std.specs.Prelude.{◌==◌, ◌&&◌, ◌||◌, nat_lt}
use Rattle.std.proofs.lemmas.Bool.{cases_lt}
use Rattle.std.proofs.lemmas.Bool.Decides.{nat_tests}
use Rattle.std.proofs.lemmas.Option.{slice_get_past}
use Rattle.lvm_num.specs.Buffer.{Buffer}
use Rattle.lvm_num.specs.Disks.{Disks, has}
use Rattle.lvm_disk.specs.Counts.{Rose}
use Rattle.lvm_disk.specs.Device.{Device, IsReady}
use Rattle.lvm_disk.specs.Paths.{Here}
use Rattle.lvm_quorum.specs.passed.Transfer.{Plan, Moved}
use Rattle.lvm_quorum.proofs.passed.Kept.{never}
use Rattle.lvm_quorum.specs.passed.TransferMovesMoved as moved
use Rattle.lvm_quorum.proofs.Passing.{or_itself, or_other}
use Rattle.lvm_write.specs.declared.write.Wrote.TheVariants as wrote
use Rattle.lvm_write.specs.Written.{HasRoom, HaveRoom, KeepsShelf, EndsOn, written_well}
use Rattle.lvm_write.specs.Parts.{DoesPart}
use Rattle.lvm_write.specs.Writes.{DiskWritesLeave, IsCutShort, DiskWritesEnd}
use Rattle.lvm_write.proofs.WrittenLemmas.Writing.{moments_on, writing_here}
use Rattle.lvm_write.proofs.PartsLemmas.Transfers.{keeps_here, keeps_then, spends_none, spends_then, darkened_then, given_up_then}

-- the targets below a disk were written, or tried; the others were left alone so far
pub record TriedDisks (targets : Disks) (P : Plan) (Stands : Device → ℕ → Type 0) (number before after : ℕ) (old now : Device) (failed : ℕ) (buf : Buffer) (n : ℕ) : Type 0 where
  pub leaves : DiskWritesLeave targets P before after old now
  pub ready : IsReady now
  pub cuts : now.counts.cuts ≡ old.counts.cuts
  pub buffer : buf.number ≡ number
  pub tried : (d : ℕ) → d < n → EndsOn targets Stands (has failed) old now d
  pub none : (d : ℕ) → n ≤ d → IsFalse (has failed d)
  pub same : (d : ℕ) → n ≤ d → now.counts.faults d ≡ old.counts.faults d
  pub idle : (d : ℕ) → n ≤ d → now.counts.starts d ≡ old.counts.starts d

-- what one write left and what another left after it, together
pub leaves_then : (targets : Disks) (P : Plan) (p q r : ℕ) (old mid new : Device) → DiskWritesLeave targets P p q old mid → DiskWritesLeave targets P q r mid new → DiskWritesLeave targets P p r old new
leaves_then targets P p q r old mid new one two = record {
  keeps = keeps_then targets P old mid new one.keeps two.keeps;
  spends = spends_then p q r old mid new one.spends two.spends;
  moments = moments_on P old mid one.keeps.media new one.moments two.moments;
}

-- what stands on a disk goes on standing while this is written
module _ (targets : Disks) (P : Plan) (Stands : Device → ℕ → Type 0) (stays : (now new : Device) (d : ℕ) → KeepsShelf targets P now new → Stands now d → Stands new d) where
  pub nothing_tried : (patience : ℕ) (old : Device) (failed : ℕ) (buf : Buffer) → IsReady old → ((d : ℕ) → IsFalse (has failed d)) → TriedDisks targets P Stands buf.number patience patience old old failed buf 0
  nothing_tried patience old failed buf ready empty = record {
    leaves = record { keeps = keeps_here targets P old; spends = spends_none patience old; moments = Here (writing_here P old ready.flights) };
    ready = ready;
    cuts = refl;
    buffer = refl;
    tried = λ d less. absurd (omega (arith, less));
    none = λ d more. empty d;
    same = λ d more. refl;
    idle = λ d more. refl;
  }

  ends_stay :
      (old now new : Device) (failed more : ℕ) (d : ℕ) → KeepsShelf targets P now new → new.counts.faults d ≡ now.counts.faults d → has more d ≡ has failed d → EndsOn targets Stands (has failed) old now d
      → EndsOn targets Stands (has more) old new d
  ends_stay old now new failed more d keeps same as_was ends = record {
    stands = λ target well. stays now new d keeps (ends.stands target (sym as_was ∙ well));
    well = λ well. same ∙ ends.well (sym as_was ∙ well);
    badly = λ bad. subst (λ (n : ℕ). Rose (old.counts.faults d) n) (sym same) (ends.badly (sym as_was ∙ bad));
    target = λ bad. ends.target (sym as_was ∙ bad);
  }

  -- the write to the next disk has ended
  module _ (number p q : ℕ) (old now : Device) (failed : ℕ) (buf : Buffer) (n : ℕ) (so_far : TriedDisks targets P Stands number p q old now failed buf n) where
    disk_ended :
        (r : ℕ) (new : Device) (more : ℕ) (back : Buffer) → DiskWritesLeave targets P q r now new → IsReady new → new.counts.cuts ≡ now.counts.cuts → back.number ≡ buf.number
        → ((d : ℕ) → (d ≡ n → ⊥) → has more d ≡ has failed d) → ((d : ℕ) → (d ≡ n → ⊥) → new.counts.faults d ≡ now.counts.faults d) → ((d : ℕ) → (d ≡ n → ⊥) → new.counts.starts d ≡ now.counts.starts d)
        → EndsOn targets Stands (has more) old new n → TriedDisks targets P Stands number p r old new more back (n + 1)
    disk_ended r new more back leaves ready cuts buffer others elsewhere alone own = record {
      leaves = leaves_then targets P p q r old now new so_far.leaves leaves;
      ready = ready;
      cuts = cuts ∙ so_far.cuts;
      buffer = buffer ∙ so_far.buffer;
      tried = λ d less. ⊎_elim
          (λ (below : d < n). ends_stay old now new failed more d leaves.keeps (elsewhere d (λ e. omega (arith, e, below))) (others d (λ e. omega (arith, e, below))) (so_far.tried d below))
          (λ (above : n ≤ d). let here : n ≡ d = omega (arith, above, less) in subst (EndsOn targets Stands (has more) old new) here own)
          (cases_lt d n);
      none = λ d above. others d (λ e. omega (arith, e, above)) ∙ so_far.none d (omega (arith, above));
      same = λ d above. elsewhere d (λ e. omega (arith, e, above)) ∙ so_far.same d (omega (arith, above));
      idle = λ d above. alone d (λ e. omega (arith, e, above)) ∙ so_far.idle d (omega (arith, above));
    }

    -- it is no target
    pub none_here : IsFalse (targets n) → TriedDisks targets P Stands number p q old now failed buf (n + 1)
    none_here off = disk_ended q now failed buf (record { keeps = keeps_here targets P now; spends = spends_none q now; moments = Here (writing_here P now so_far.ready.flights) }) so_far.ready refl refl (λ d differ. refl) (λ d differ. refl) (λ d differ. refl)
        (record {
          stands = λ target well. absurd (never (targets n) target off);
          well = λ well. so_far.same n (omega arith);
          badly = λ bad. absurd (never (has failed n) bad (so_far.none n (omega arith)));
          target = λ bad. absurd (never (has failed n) bad (so_far.none n (omega arith)));
        })

    part_leaves : (r number : ℕ) (new : Device) (how : Moved) → DoesPart targets P n number q r now new how → DiskWritesLeave targets P q r now new
    part_leaves r number new how part = record { keeps = part.keeps; spends = part.spends; moments = part.moments }

    module _ (r : ℕ) (new : Device) (back : Buffer) (target : IsTrue (targets n)) (alone : (d : ℕ) → (d ≡ n → ⊥) → new.counts.starts d ≡ now.counts.starts d) where
      -- all of it stands there
      pub well_here : DoesPart targets P n buf.number q r now new (moved.Done back) → Stands new n → TriedDisks targets P Stands number p r old new failed back (n + 1)
      well_here part stands = disk_ended r new failed back (part_leaves r buf.number new (moved.Done back) part) part.rests part.counts.1 part.buffer (λ d differ. refl) (λ d differ. ap (λ (h : ℕ → ℕ). h d) part.counts.0) alone
          (record {
            stands = λ t well. stands;
            well = λ well. ap (λ (h : ℕ → ℕ). h n) part.counts.0 ∙ so_far.same n (omega arith);
            badly = λ bad. absurd (never (has failed n) bad (so_far.none n (omega arith)));
            target = λ bad. target;
          })

      -- it failed
      pub badly_here : (more : ℕ) → DoesPart targets P n buf.number q r now new (moved.Failed back) → ((d : ℕ) → has more d ≡ (has failed d || d == n)) → TriedDisks targets P Stands number p r old new more back (n + 1)
      badly_here more part with_it =
          let failed_here : IsTrue (has more n) = with_it n ∙ or_itself (has failed n) n in
          disk_ended r new more back (part_leaves r buf.number new (moved.Failed back) part) part.rests part.counts.1 part.buffer (λ d differ. with_it d ∙ or_other (has failed d) d n differ) part.counts.0.elsewhere alone
          (record {
            stands = λ t well. absurd (never (has more n) failed_here well);
            well = λ well. absurd (never (has more n) failed_here well);
            badly = λ bad. subst (λ (x : ℕ). Rose x (new.counts.faults n)) (so_far.same n (omega arith)) part.counts.0.here;
            target = λ bad. target;
          })

    -- it was broken off
    module _ (r : ℕ) (new : Device) (Next : Disks → Type 0) (target : IsTrue (targets n)) (alone : (d : ℕ) → (d ≡ n → ⊥) → new.counts.starts d ≡ now.counts.starts d) where
      pub leaves_here : (how : Moved) → DoesPart targets P n buf.number q r now new how → DiskWritesLeave targets P p r old new
      leaves_here how part = leaves_then targets P p q r old now new so_far.leaves (part_leaves r buf.number new how part)

      broken_here : KeepsShelf targets P now new → new.counts.faults ≡ now.counts.faults → Next (λ d. nat_lt d n && written_well targets (has failed) d) → IsCutShort targets Stands Next old new
      broken_here keeps faults next = record {
        disk = n;
        failed = has failed;
        target = target;
        below = λ d less. ends_stay old now new failed failed d keeps (ap (λ (h : ℕ → ℕ). h d) faults) refl (so_far.tried d less);
        above = λ d more. alone d (λ e. omega (arith, e, more)) ∙ so_far.idle d (omega (arith, more));
        next = next;
      }

      pub dark_here : (started : Bool) → DoesPart targets P n buf.number q r now new (moved.Dark started) → Next (λ d. nat_lt d n && written_well targets (has failed) d) → DiskWritesEnd targets Stands Next number p old new wrote.Dark
      dark_here started part next = (darkened_then number buf.number old now new so_far.buffer so_far.cuts part.leaves, broken_here part.keeps part.counts.0 next)

      pub stuck_here : DoesPart targets P n buf.number q r now new moved.Stuck → Next (λ d. nat_lt d n && written_well targets (has failed) d) → DiskWritesEnd targets Stands Next number p old new wrote.Stuck
      stuck_here part next = (given_up_then number buf.number p q old now new so_far.buffer so_far.cuts so_far.leaves.spends part.leaves, broken_here part.keeps part.counts.0 next)

-- past the disks that there are is no target
pub no_more : (targets : Disks) (old : Device) (n : ℕ) → HaveRoom old targets → length old.sizes ≤ n → (d : ℕ) → n ≤ d → IsFalse (targets d)
no_more targets old n room all d past = off_or (targets d) (λ on. none_there (room d on))
  where
    none_there : HasRoom old d → ⊥
    none_there there = let gone = slice_get_past old.sizes d (omega (arith, past, all)) in let is = there.1 in cc

    off_or : (b : Bool) → (IsTrue b → ⊥) → IsFalse b
    off_or true none = absurd (none refl)
    off_or false none = refl

-- all disks were tried
all_tried :
    (targets : Disks) (P : Plan) (Stands : Device → ℕ → Type 0) (number p q : ℕ) (old now : Device) (failed : ℕ) (buf : Buffer) (n : ℕ) → TriedDisks targets P Stands number p q old now failed buf n
    → HaveRoom old targets → length old.sizes ≤ n → (d : ℕ) → EndsOn targets Stands (has failed) old now d
all_tried targets P Stands number p q old now failed buf n so_far room all d = ⊎_elim
    (λ (below : d < n). so_far.tried d below)
    (λ (past : n ≤ d). record {
      stands = λ target well. absurd (never (targets d) target (no_more targets old n room all d past));
      well = λ well. so_far.same d past;
      badly = λ bad. absurd (never (has failed d) bad (so_far.none d past));
      target = λ bad. absurd (never (has failed d) bad (so_far.none d past));
    })
    (cases_lt d n)

-- so the write has ended
pub tried_ends :
    (targets : Disks) (P : Plan) (Stands : Device → ℕ → Type 0) (Next : Disks → Type 0) (number p q : ℕ) (old now : Device) (failed : ℕ) (buf : Buffer) (n : ℕ) → TriedDisks targets P Stands number p q old now failed buf n
    → HaveRoom old targets → length old.sizes ≤ n → Next (written_well targets (has failed)) → DiskWritesEnd targets Stands Next number p old now (wrote.Ended failed buf)
tried_ends targets P Stands Next number p q old now failed buf n so_far room all next =
    record { each = all_tried targets P Stands number p q old now failed buf n so_far room all; next = next; back = record { ready = so_far.ready; cuts = so_far.cuts; number_is = so_far.buffer } }

-- the same, by equal disks and buffer
pub as_tried :
    (targets : Disks) (P : Plan) (Stands : Device → ℕ → Type 0) (number p q : ℕ) (old now : Device) (failed more : ℕ) (buf back : Buffer) (n : ℕ) → more ≡ failed → back ≡ buf
    → TriedDisks targets P Stands number p q old now failed buf n → TriedDisks targets P Stands number p q old now more back n
as_tried targets P Stands number p q old now failed more buf back n f b tried =
    subst (λ (x : ℕ). TriedDisks targets P Stands number p q old now x back n) (sym f) (subst (λ (x : Buffer). TriedDisks targets P Stands number p q old now failed x n) (sym b) tried)
