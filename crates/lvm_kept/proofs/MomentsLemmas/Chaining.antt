-- What stays over a span of moments: that the media are told, that no count falls, how large the disks are.
use Rattle.std.proofs.Common.{◌≡◌, arith, IsSome, is_some, refl, sym, ◌∙◌, ap, subst, true}
use Rattle.lvm_disk.specs.Device.{Device}
use Rattle.lvm_disk.specs.Counts.{Counts, NoneFalls}
use Rattle.lvm_disk.specs.Paths.{Path, Here, Then}
use Rattle.lvm_disk.proofs.StepsLemmas.{step_same, step_counts}
use Rattle.lvm_kept.specs.Moments.{Moment, Step, Moves, Enters}

abbrev pub IsTold : Device → Type 0
IsTold device = IsSome device.media

-- a shelf that tells its media goes on telling it
moment_told : (old new : Moment) → Step old new → IsTold old.device → IsTold new.device
moment_told old new (Moves step same) told = let e = (step_same old.device new.device step).told in let f : is_some old.device.media ≡ true = told in e ∙ f
moment_told old new (Enters f same is) told = subst (λ (d : Device). IsTold d) (sym same) told

pub span_told : {P : Moment → Type 0} {first last : Moment} → Path Step P first last → IsTold first.device → IsTold last.device
span_told (Here p) told = told
span_told (Then path step p) told = moment_told _ _ step (span_told path told)

-- no count falls
none_falls_over : (a b c : Counts) → NoneFalls a b → NoneFalls b c → NoneFalls a c
none_falls_over a b c ab bc = record {
  starts = λ d. omega (arith, ab.starts d, bc.starts d);
  misses = λ d. omega (arith, ab.misses d, bc.misses d);
  faults = λ d. omega (arith, ab.faults d, bc.faults d);
  cuts = omega (arith, ab.cuts, bc.cuts);
  waits = omega (arith, ab.waits, bc.waits);
}

none_falls_still : (a b : Counts) → b ≡ a → NoneFalls a b
none_falls_still a b is = subst (NoneFalls a) (sym is) (record { starts = λ d. omega arith; misses = λ d. omega arith; faults = λ d. omega arith; cuts = omega arith; waits = omega arith })

moment_counts : (old new : Moment) → Step old new → NoneFalls old.device.counts new.device.counts
moment_counts old new (Moves step same) = step_counts old.device new.device step
moment_counts old new (Enters f same is) = none_falls_still old.device.counts new.device.counts (ap (λ (d : Device). d.counts) same)

pub span_counts : {P : Moment → Type 0} {first last : Moment} → Path Step P first last → NoneFalls first.device.counts last.device.counts
span_counts (Here p) = none_falls_still _ _ refl
span_counts (Then path step p) = none_falls_over _ _ _ (span_counts path) (moment_counts _ _ step)

-- the disks stay as large
moment_sizes : (old new : Moment) → Step old new → new.device.sizes ≡ old.device.sizes
moment_sizes old new (Moves step same) = (step_same old.device new.device step).sizes
moment_sizes old new (Enters f same is) = ap (λ (d : Device). d.sizes) same

pub span_sizes : {P : Moment → Type 0} {first last : Moment} → Path Step P first last → last.device.sizes ≡ first.device.sizes
span_sizes (Here p) = refl
span_sizes (Then path step p) = moment_sizes _ _ step ∙ span_sizes path
