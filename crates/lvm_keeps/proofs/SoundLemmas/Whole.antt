-- A session that stays on is sound again.
use Rattle.std.proofs.Common.{◌≡◌, ℕ, List, Bool, false, sym, ◌∙◌, ap, subst, arith}
use Rattle.std.specs.Prelude.{IfSome, slice_index_or}
use Rattle.std.specs.List.{AllByRecursion}
use Rattle.lvm_num.specs.Buffer.{Buffer}
use Rattle.lvm_num.proofs.Booleans.{not_so}
use Rattle.lvm_num.proofs.Lists.{all_weaker}
use Rattle.lvm_vol.specs.Log.{Log}
use Rattle.lvm_session.specs.declared.bringing.OpenCopy.{OpenCopy}
use Rattle.lvm_session.specs.declared.open.Open.{Open}
use Rattle.lvm_session.specs.declared.open.Power.TheVariants as power
use Rattle.lvm_session.specs.Judging.{copies_in}
use Rattle.lvm_session.specs.State.{Core, State}
use Rattle.lvm_session.specs.Causes.{AreCounted, IsAnswered, IsCausedAmong, IsTrueToOrigin, is_over}
use Rattle.lvm_session.specs.Placed.{ArePlaced}
use Rattle.lvm_session.specs.Sound.{IsFitting, IsOn, IsSound, IsTold, is_dark, count_if, out_with}
use Rattle.lvm_keeps.proofs.CausesLemmas.{Basis, Grounds, answered_still, basis_of, counted_still, grounds}

-- what the requests are told of by
abbrev pub Told : Type 0
Told = Log × List Open

abbrev pub told_by : Core → Told
told_by core = (core.history, core.requests)

pub told_still : (core now : Core) → told_by core ≡ told_by now → IsTold core → IsTold now
told_still core now same t = subst (λ (p : Told). IsTold (record now { history = p.0; requests = p.1 })) same (record { ordered = t.ordered; table = t.table; each = t.each; requests = t.requests })

-- what a shelf that is lit keeps
abbrev pub Shelf : Type 0
Shelf = List ℕ × Bool × List Buffer

abbrev pub shelf_of : State → Shelf
shelf_of s = (s.device.sizes, s.device.power, s.device.freed)

module _ (s now : State) (same : basis_of s ≡ basis_of now) (shelf : shelf_of s ≡ shelf_of now) (sound : IsSound s) (on : s.core.power ≡ power.On) where
  now_on : now.core.power ≡ power.On
  now_on = sym (ap (λ (b : Basis). b.3) same) ∙ on

  -- what is left to be shown is what has changed
  pub sound_when_on : IsFitting now.core → IsTold now.core → IsOn now → ((n : ℕ) → out_with now.device now.core n ≡ count_if (slice_index_or now.core.pool n false)) → AllByRecursion (AreCounted now) now.core.requests
      → AllByRecursion (IsAnswered now) now.core.requests → IfSome now.core.copy (λ (c : OpenCopy). IsCausedAmong now (copies_in now.core.descriptor c.lv c.lp) c) → IsTrueToOrigin now → IsSound now
  sound_when_on fitting told keeps_on out counted answered copy origin = record {
    fitting = fitting;
    told = told;
    placed = subst (λ (b : Basis). ArePlaced now.device.sizes b.1 b.2.table) same (subst (λ (d : Shelf). ArePlaced d.0 s.core.descriptor s.core.origin.table) shelf sound.placed);
    buffers = λ n. let same_out = out n in omega (arith, same_out);
    none_lost = λ lit n. out n;
    on = λ e. keeps_on;
    lit = λ lit. let was = sound.lit (ap is_dark on) in record { power = sym (ap (λ (d : Shelf). d.1) shelf) ∙ was.power; freed = sym (ap (λ (d : Shelf). d.2) shelf) ∙ was.freed };
    dark = λ e. not_so (sym (ap is_dark now_on) ∙ e);
    off = λ e. absurd (let none : power.On ≡ power.Off = sym now_on ∙ e in cc);
    over = λ e. not_so (sym (ap is_over now_on) ∙ e);
    stuck = λ e. absurd (let none : power.On ≡ power.Stuck = sym now_on ∙ e in cc);
    counted = counted;
    answered = answered;
    copy = copy;
    origin = origin;
  }

-- where its requests are the same, and the statuses
pub sound_still : (s now : State) → grounds s ≡ grounds now → shelf_of s ≡ shelf_of now → IsSound s → s.core.power ≡ power.On → s.core.requests ≡ now.core.requests → IsFitting now.core → IsTold now.core → IsOn now
    → ((n : ℕ) → out_with now.device now.core n ≡ count_if (slice_index_or now.core.pool n false)) → IfSome now.core.copy (λ (c : OpenCopy). IsCausedAmong now (copies_in now.core.descriptor c.lv c.lp) c) → IsTrueToOrigin now → IsSound now
sound_still s now same shelf sound on requests fitting told keeps_on out copy origin = sound_when_on s now (ap (λ (g : Grounds). (g.0, g.1, g.2, g.3)) same) shelf sound on fitting told keeps_on out
    (subst (λ (os : List Open). AllByRecursion (AreCounted now) os) requests (all_weaker (AreCounted s) (AreCounted now) (counted_still s now same) s.core.requests sound.counted))
    (subst (λ (os : List Open). AllByRecursion (IsAnswered now) os) requests (all_weaker (IsAnswered s) (IsAnswered now) (answered_still s now same) s.core.requests sound.answered)) copy origin
