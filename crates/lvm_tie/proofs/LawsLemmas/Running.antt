-- One run behind another.
use Rattle.std.proofs.Common.{◌≡◌, inl, inr, Bool, true, false, refl, sym, ap, subst, ◌∙◌}
use Rattle.lvm_disk.specs.Counts.{NoneFalls, Rose}
use Rattle.lvm_disk.specs.Device.{Device}
use Rattle.lvm_disk.proofs.CountingLemmas.{none_falls_at_once, none_falls_on, rose_after, rose_before}
use Rattle.lvm_vol.specs.Log.{Log}
use Rattle.lvm_num.specs.Status.{calls_missing, calls_stale}
use Rattle.lvm_session.specs.declared.origin.Origin.{Origin}
use Rattle.lvm_session.specs.declared.open.Power.TheVariants as power
use Rattle.lvm_session.specs.State.{Core, State}
use Rattle.lvm_tie.specs.GoingOn.{SessionGoesOn}
use Rattle.lvm_tie.proofs.GoingOnLemmas.Spanning.{goes_same, goes_then}
use Rattle.lvm_tie.specs.Laws.{RunsJoin}
use Rattle.lvm_tie.specs.Running.{GoesOffByCut, GoesOnOrEnds, KeepsOrigin, KeepsShape, LeavesSession, RunsOn}

-- ---- whether it goes on

-- what is on was on,
pub was_on : (old new : Core) → GoesOnOrEnds old new → new.power ≡ power.On → old.power ≡ power.On
was_on old new (inl same) on = sym same ∙ on
was_on old new (inr (inl dark)) on = absurd (let e : power.Dark ≡ power.On = sym dark ∙ on in cc)
was_on old new (inr (inr off)) on = off.0

-- what wasn't stuck isn't,
pub stays_unstuck : (old new : Core) → GoesOnOrEnds old new → (old.power ≡ power.Stuck → ⊥) → new.power ≡ power.Stuck → ⊥
stays_unstuck old new (inl same) unstuck stuck = unstuck (sym same ∙ stuck)
stays_unstuck old new (inr (inl dark)) unstuck stuck = let e : power.Dark ≡ power.Stuck = sym dark ∙ stuck in cc
stays_unstuck old new (inr (inr off)) unstuck stuck = let e : power.Off ≡ power.Stuck = sym off.1 ∙ stuck in cc

-- and what isn't dark wasn't
pub was_lit : (old new : Core) → GoesOnOrEnds old new → (new.power ≡ power.Dark → ⊥) → old.power ≡ power.Dark → ⊥
was_lit old new (inl same) lit dark = lit (same ∙ dark)
was_lit old new (inr (inl now)) lit dark = lit now
was_lit old new (inr (inr off)) lit dark = let e : power.On ≡ power.Dark = sym off.0 ∙ dark in cc

ends_on : (old mid new : Core) → GoesOnOrEnds old mid → GoesOnOrEnds mid new → GoesOnOrEnds old new
ends_on old mid new one (inr (inl dark)) = inr (inl dark)
ends_on old mid new (inl one) (inl two) = inl (two ∙ one)
ends_on old mid new (inl one) (inr (inr two)) = inr (inr (sym one ∙ two.0, two.1))
ends_on old mid new (inr (inl one)) (inl two) = inr (inl (two ∙ one))
ends_on old mid new (inr (inl one)) (inr (inr two)) = absurd (let e : power.Dark ≡ power.On = sym one ∙ two.0 in cc)
ends_on old mid new (inr (inr one)) (inl two) = inr (inr (one.0, two ∙ one.1))
ends_on old mid new (inr (inr one)) (inr (inr two)) = absurd (let e : power.Off ≡ power.On = sym one.1 ∙ two.0 in cc)

-- ---- its power

-- what keeps its power needs no cut,
pub keeps_power : (old new : Device) → new.power ≡ old.power → GoesOffByCut old new
keeps_power old new same lit off = absurd (let e : true ≡ false = sym lit ∙ sym same ∙ off in cc e)

-- and of two moments it goes off in the one or in the other
cut_both : (old mid new : Device) → NoneFalls old.counts mid.counts → NoneFalls mid.counts new.counts → GoesOffByCut old mid → GoesOffByCut mid new → GoesOffByCut old new
cut_both old mid new first last one two lit off = by mid.power refl
  where
    by : (b : Bool) → mid.power ≡ b → Rose old.counts.cuts new.counts.cuts
    by true on = rose_before first.cuts (two on off)
    by false went = rose_after (one lit went) last.cuts

-- ---- its run

pub run_is : (old new : State) → KeepsShape old new → new.core.history.run ≡ old.core.history.run
run_is old new keeps = ap (λ (log : Log). log.run) keeps.log

-- ---- its origin

pub origin_same : {old new : Origin} → new ≡ old → KeepsOrigin old new
origin_same same = record {
  faults = ap (λ (o : Origin). o.faults) same;
  missing = λ disk. ap (λ (o : Origin). calls_missing o.table disk) same;
  stale = λ p was. ap (λ (o : Origin). calls_stale o.table p) same ∙ was;
}

origin_both : {old mid new : Origin} → KeepsOrigin old mid → KeepsOrigin mid new → KeepsOrigin old new
origin_both one two = record { faults = two.faults ∙ one.faults; missing = λ disk. two.missing disk ∙ one.missing disk; stale = λ p was. two.stale p (one.stale p was) }

-- ---- nothing happens

pub leaves_none : (s : State) → LeavesSession s s
leaves_none s = record {
  good = goes_same s.core.history.run s s refl;
  descriptors = λ leaves. record { leaves = leaves; spares = λ spares. spares; finds = λ id k image may found. (image, may, found) };
  before = λ moment was. was;
  epoch = λ lit. record { epoch = refl; stamped = λ is. is };
  later = λ moment was. was;
  causes = λ first has. has;
  keeps = record { sizes = refl; counts = none_falls_at_once s.device.counts; cut = keeps_power s.device s.device refl; log = refl; room = record { most = refl; long = refl }; descriptor = refl; origin = origin_same refl; power = inl refl };
}

pub runs_none : (s : State) → RunsOn s s
runs_none s = record { leaves = leaves_none s; origin = refl; orders = refl; copy = λ none. none }

pub runs_same : (old new : State) → new ≡ old → RunsOn old new
runs_same old new same = subst (RunsOn old) (sym same) (runs_none old)

-- ---- one thing after another

keeps_both : (old mid new : State) → KeepsShape old mid → KeepsShape mid new → KeepsShape old new
keeps_both old mid new one two = record {
  sizes = two.sizes ∙ one.sizes;
  counts = none_falls_on one.counts two.counts;
  cut = cut_both old.device mid.device new.device one.counts two.counts one.cut two.cut;
  log = two.log ∙ one.log;
  room = record { most = two.room.most ∙ one.room.most; long = two.room.long ∙ one.room.long };
  descriptor = two.descriptor ∙ one.descriptor;
  origin = origin_both one.origin two.origin;
  power = ends_on old.core mid.core new.core one.power two.power;
}

pub leaves_both : (old mid new : State) → LeavesSession old mid → LeavesSession mid new → LeavesSession old new
leaves_both old mid new one two = record {
  good = goes_then old.core.history.run old mid new one.good (subst (λ run. SessionGoesOn run mid new) (run_is old mid one.keeps) two.good);
  descriptors = λ leaves.
      let a = one.descriptors leaves in
      let b = two.descriptors a.leaves in
      record {
        leaves = b.leaves;
        spares = λ spares. b.spares (a.spares spares);
        finds = λ id k image may found. let from = b.finds id k image may found in a.finds id k from.0 from.1 from.2;
      };
  before = λ moment was. two.before moment (one.before moment was);
  epoch = λ lit.
      let a = one.epoch (was_lit mid.core new.core two.keeps.power lit) in
      let b = two.epoch lit in
      record { epoch = b.epoch ∙ a.epoch; stamped = λ is. b.stamped (a.stamped is) };
  later = λ moment was. two.later moment (one.later moment was);
  causes = λ first has. two.causes first (one.causes first has);
  keeps = keeps_both old mid new one.keeps two.keeps;
}

pub runs_both : (old mid new : State) → RunsOn old mid → RunsOn mid new → RunsOn old new
runs_both old mid new one two = record {
  leaves = leaves_both old mid new one.leaves two.leaves;
  origin = two.origin ∙ one.origin;
  orders = two.orders ∙ one.orders;
  copy = λ none. two.copy (one.copy none);
}

pub runs_join : RunsJoin
runs_join = record { none = runs_none; both = runs_both; leaves = leaves_both }
