-- What transfers that end leave, and what holds on over them.
use Rattle.std.proofs.Common.{◌≡◌, ⊎_elim, inl, inr, ◌+◌, ◌-◌, ◌<◌, ◌≤◌, ◌∷◌, ◌++◌, [], ℕ, List, Option, Some, None, length, refl, sym, ◌∙◌, ap, subst, arith}
use Rattle.lvm_num.specs.Buffer.{Buffer}
use Rattle.lvm_disk.specs.Counts.{RoseBy, Counts}
use Rattle.lvm_disk.specs.Device.{Media, Flight, Device, IsTorn, MayLeave}
use Rattle.lvm_disk.specs.Images.{LeavesNoMore}
use Rattle.lvm_disk.specs.Paths.{DeviceStep, Ended, Broke, Waited, WasCut, Path, Here, Then}
use Rattle.lvm_disk.specs.Steps.{BothTold, Removes, Puts, PutsSome, Cuts, GoesDark, EndsDone, EndsFailed, CountsFailure, Waits}
use Rattle.lvm_disk.proofs.DeviceLemmas.{done_leaves, failed_leaves, cut_leaves}
use Rattle.lvm_disk.proofs.CountingLemmas.{none_falls_at_once, none_falls_on}
use Rattle.lvm_disk.proofs.StepsLemmas.{step_counts}
use Rattle.lvm_steps.proofs.MomentsLemmas.Spans.{keeps_steps, fewer_stay_kept}
use Rattle.lvm_session.specs.Sound.{HasPower}
use Rattle.lvm_transfer.proofs.TransferLemmas.Ending.{was_cut}
use Rattle.lvm_write.specs.Parts.{Spends}
use Rattle.lvm_write.proofs.PartsLemmas.Transfers.{spends_none, spends_then}
use Rattle.lvm_quiesce.specs.Ends.{EndStep, EndsWell, EndsBadly, NoneEnds, TransfersEnd, QuiesceGives, StartsNothing, OneEnds, OneIsCut, CostsNothing, CostsOne, EndsWhile, NoneYet, OneMore, CutCosts}
use Rattle.lvm_quiesce.specs.Laws.{EndsLeaveNoMore, EndsStayKept, EndsGoOn, EndsStayOne, EndsStartNothing, StillIsAtRest}
use Rattle.lvm_quiesce.specs.declared.ends.Quiesced.{Quiesced}
use Rattle.lvm_quiesce.specs.declared.ends.Quiesced.TheVariants as quiesced

-- ---- crash images

end_leaves : (old new : Device) → EndStep old new → LeavesNoMore old new
end_leaves old new (EndsWell ticket buf ends) = done_leaves old new ticket buf ends
end_leaves old new (EndsBadly ticket buf ends) = failed_leaves old new ticket buf ends
end_leaves old new (NoneEnds waits) = λ image may. subst (λ (d : Device). MayLeave d image) waits.new_is may

end_is_step : (old new : Device) → EndStep old new → DeviceStep old new
end_is_step old new (EndsWell ticket buf ends) = Ended ticket buf ends
end_is_step old new (EndsBadly ticket buf ends) = Broke ticket buf ends
end_is_step old new (NoneEnds waits) = Waited waits

pub ends_leave : {old new : Device} → TransfersEnd old new → LeavesNoMore old new
ends_leave (Here all) = λ image may. may
ends_leave (Then path step all) = λ image may. ends_leave path image (end_leaves _ _ step image may)

pub ends_path : {old new : Device} → TransfersEnd old new → Path DeviceStep (LeavesNoMore old) old new
ends_path (Here all) = Here (λ image may. may)
ends_path (Then path step all) = Then (ends_path path) (end_is_step _ _ step) (λ image may. ends_leave path image (end_leaves _ _ step image may))

pub gives_path : (patience : ℕ) (old new : Device) (how : Quiesced) → QuiesceGives patience old new how → Path DeviceStep (LeavesNoMore old) old new
gives_path patience old new quiesced.Ended gives = ends_path gives.ends
gives_path patience old new quiesced.Dark gives = Then (ends_path gives.ends) (WasCut gives.cuts) (λ image may. ends_leave gives.ends image (cut_leaves gives.now new gives.cuts image may))
gives_path patience old new quiesced.Stuck gives = ends_path gives.ends

pub ends_leave_no_more : EndsLeaveNoMore
ends_leave_no_more patience old new quiesced.Ended gives = ends_leave gives.ends
ends_leave_no_more patience old new quiesced.Dark gives = λ image may. ends_leave gives.ends image (cut_leaves gives.now new gives.cuts image may)
ends_leave_no_more patience old new quiesced.Stuck gives = ends_leave gives.ends

pub ends_stay_kept : EndsStayKept
ends_stay_kept patience old new how gives = fewer_stay_kept old new (ends_leave_no_more patience old new how gives)

pub ends_go_on : EndsGoOn
ends_go_on patience old new how gives run first facts span = keeps_steps run first old new facts span (gives_path patience old new how gives)

pub ends_stay_one : EndsStayOne
ends_stay_one patience old new how gives one image may = one image (ends_leave_no_more patience old new how gives image may)

-- ---- nothing is started

media_still : (o : Option Media) → BothTold o o (λ was is. Unit {0})
media_still None = tt
media_still (Some m) = tt

media_then : (a b c : Option Media) → BothTold a b (λ was is. Unit {0}) → BothTold b c (λ was is. Unit {0}) → BothTold a c (λ was is. Unit {0})
media_then None None None one two = tt
media_then (Some x) (Some y) (Some z) one two = tt
media_then None (Some y) c one two = absurd one
media_then (Some x) None c one two = absurd one
media_then None None (Some z) one two = absurd two
media_then (Some x) (Some y) None one two = absurd two

media_told : (R : Media → Media → Type 0) (a b : Option Media) → BothTold a b R → BothTold a b (λ was is. Unit {0})
media_told R None None told = tt
media_told R (Some x) (Some y) told = tt
media_told R None (Some y) told = absurd told
media_told R (Some x) None told = absurd told

starts_none : (old : Device) → StartsNothing old old
starts_none old = record { sizes = refl; media = media_still old.media; starts = refl; wrote = refl; arranges = refl; orders = refl; counts = none_falls_at_once old.counts }

pub starts_then : (old mid new : Device) → StartsNothing old mid → StartsNothing mid new → StartsNothing old new
starts_then old mid new one two = record {
  sizes = two.sizes ∙ one.sizes;
  media = media_then old.media mid.media new.media one.media two.media;
  starts = two.starts ∙ one.starts;
  wrote = two.wrote ∙ one.wrote;
  arranges = two.arranges ∙ one.arranges;
  orders = two.orders ∙ one.orders;
  counts = none_falls_on one.counts two.counts;
}

-- whichever way its failure is counted
failed_starts : (f : Flight) (old new : Counts) → CountsFailure f old new → new.starts ≡ old.starts
failed_starts f old new counts = ⊎_elim (λ miss. ap (λ (c : Counts). c.starts) miss.1.new_is) (λ fault. ap (λ (c : Counts). c.starts) fault.1.new_is) counts

end_starts_nothing : (old new : Device) → EndStep old new → StartsNothing old new
end_starts_nothing old new (EndsWell ticket buf ends) = record {
  sizes = ap (λ (d : Device). d.sizes) ends.new_is;
  media = media_told (Puts ends.flight) old.media new.media ends.media;
  starts = ap (λ (d : Device). d.counts.starts) ends.new_is;
  wrote = ap (λ (d : Device). d.wrote) ends.new_is;
  arranges = ap (λ (d : Device). d.arranges) ends.new_is;
  orders = ap (λ (d : Device). d.orders) ends.new_is;
  counts = step_counts old new (Ended ticket buf ends);
}
end_starts_nothing old new (EndsBadly ticket buf ends) = record {
  sizes = ap (λ (d : Device). d.sizes) ends.new_is;
  media = media_told (PutsSome ends.flight) old.media new.media ends.media;
  starts = failed_starts ends.flight old.counts new.counts ends.counts;
  wrote = ap (λ (d : Device). d.wrote) ends.new_is;
  arranges = ap (λ (d : Device). d.arranges) ends.new_is;
  orders = ap (λ (d : Device). d.orders) ends.new_is;
  counts = step_counts old new (Broke ticket buf ends);
}
end_starts_nothing old new (NoneEnds waits) = record {
  sizes = ap (λ (d : Device). d.sizes) waits.new_is;
  media = subst (λ (d : Device). BothTold old.media d.media (λ was is. Unit {0})) (sym waits.new_is) (media_still old.media);
  starts = ap (λ (d : Device). d.counts.starts) waits.new_is;
  wrote = ap (λ (d : Device). d.wrote) waits.new_is;
  arranges = ap (λ (d : Device). d.arranges) waits.new_is;
  orders = ap (λ (d : Device). d.orders) waits.new_is;
  counts = step_counts old new (Waited waits);
}

cut_starts_nothing : (old new : Device) → Cuts old new → StartsNothing old new
cut_starts_nothing old new cuts = record {
  sizes = ap (λ (d : Device). d.sizes) cuts.new_is;
  media = media_told (λ m n. IsTorn m old.flights n) old.media new.media cuts.media;
  starts = ap (λ (d : Device). d.counts.starts) cuts.new_is;
  wrote = ap (λ (d : Device). d.wrote) cuts.new_is;
  arranges = ap (λ (d : Device). d.arranges) cuts.new_is;
  orders = ap (λ (d : Device). d.orders) cuts.new_is;
  counts = step_counts old new (WasCut cuts);
}

pub ends_only : {old new : Device} → TransfersEnd old new → StartsNothing old new
ends_only (Here all) = starts_none _
ends_only (Then path step all) = starts_then _ _ _ (ends_only path) (end_starts_nothing _ _ step)

pub ends_start_nothing : EndsStartNothing
ends_start_nothing patience old new quiesced.Ended gives = ends_only gives.ends
ends_start_nothing patience old new quiesced.Dark gives = starts_then old gives.now new (ends_only gives.ends) (cut_starts_nothing gives.now new gives.cuts)
ends_start_nothing patience old new quiesced.Stuck gives = ends_only gives.ends

-- ---- where nothing is out

never : (before after : List Flight) (g : Flight) → [] ≡ before ++ g ∷ after → ⊥
never [] after g e = cc
never (x ∷ before) after g e = cc

none_waits : (device : Device) → device.flights ≡ [] → 0 < length device.flights → ⊥
none_waits device none some = let e : length device.flights ≡ 0 = ap (λ (l : List Flight). length l) none in omega (arith, e, some)

none_ends : (old new : Device) → old.flights ≡ [] → EndStep old new → ⊥
none_ends old new none (EndsWell ticket buf ends) = never ends.flights.before ends.flights.after ends.flight (sym none ∙ ends.flights.was)
none_ends old new none (EndsBadly ticket buf ends) = never ends.flights.before ends.flights.after ends.flight (sym none ∙ ends.flights.was)
none_ends old new none (NoneEnds waits) = none_waits old none waits.out

pub still_ends : {old new : Device} → old.flights ≡ [] → TransfersEnd old new → new ≡ old
still_ends none (Here all) = refl
still_ends none (Then path step all) = absurd (none_ends _ _ (ap (λ (d : Device). d.flights) (still_ends none path) ∙ none) step)

pub still_is_at_rest : StillIsAtRest
still_is_at_rest patience old new quiesced.Ended none gives = (refl, still_ends none gives.ends)
still_is_at_rest patience old new quiesced.Dark none gives = absurd (none_waits gives.now (ap (λ (d : Device). d.flights) (still_ends none gives.ends) ∙ none) gives.out)
still_is_at_rest patience old new quiesced.Stuck none gives = absurd (none_waits new (ap (λ (d : Device). d.flights) (still_ends none gives.ends) ∙ none) gives.out)

-- ---- one of them

spends_on : (left : ℕ) (old new : Device) → new.counts.waits ≡ old.counts.waits → Spends left left old new
spends_on left old new same = record { falls = omega arith; waits = record { later = omega (arith, same); risen = omega (arith, same) } }

failed_waits : (f : Flight) (old new : Counts) → CountsFailure f old new → new.waits ≡ old.waits
failed_waits f old new counts = ⊎_elim (λ miss. ap (λ (c : Counts). c.waits) miss.1.new_is) (λ fault. ap (λ (c : Counts). c.waits) fault.1.new_is) counts

-- one flight less is out
removes_one : (before after : List Flight) (f : Flight) → length (before ++ f ∷ after) ≡ length (before ++ after) + 1
removes_one [] after f = omega arith
removes_one (g ∷ before) after f = let e = removes_one before after f in omega (arith, e)

one_less : (f : Flight) (old new : List Flight) → Removes f old new → length old ≡ length new + 1
one_less f old new removes = ap (λ (l : List Flight). length l) removes.was ∙ removes_one removes.before removes.after f ∙ ap (λ (l : List Flight). length l + 1) (sym removes.is)

pub one_done : (old new : Device) (left ticket : ℕ) (buf : Buffer) → HasPower old → EndsDone old new ticket buf → OneEnds left left old new
one_done old new left ticket buf lit ends = record {
  step = EndsWell ticket buf ends;
  lit = record { power = ap (λ (d : Device). d.power) ends.new_is ∙ lit.power; freed = ap (λ (d : Device). d.freed) ends.new_is ∙ lit.freed };
  less = let e = one_less ends.flight old.flights new.flights ends.flights in omega (arith, e);
  costs = CostsNothing ticket buf (inl ends) refl;
  spends = spends_on left old new (ap (λ (d : Device). d.counts.waits) ends.new_is);
}

pub one_failed : (old new : Device) (left ticket : ℕ) (buf : Buffer) → HasPower old → EndsFailed old new ticket buf → OneEnds left left old new
one_failed old new left ticket buf lit ends = record {
  step = EndsBadly ticket buf ends;
  lit = record { power = ap (λ (d : Device). d.power) ends.new_is ∙ lit.power; freed = ap (λ (d : Device). d.freed) ends.new_is ∙ lit.freed };
  less = let e = one_less ends.flight old.flights new.flights ends.flights in omega (arith, e);
  costs = CostsNothing ticket buf (inr ends) refl;
  spends = spends_on left old new (failed_waits ends.flight old.counts new.counts ends.counts);
}

pub one_wait : (old new : Device) (left : ℕ) → 1 ≤ left → HasPower old → Waits old new → OneEnds left (left - 1) old new
one_wait old new left some lit waits = record {
  step = NoneEnds waits;
  lit = record { power = ap (λ (d : Device). d.power) waits.new_is ∙ lit.power; freed = ap (λ (d : Device). d.freed) waits.new_is ∙ lit.freed };
  less = let e : length new.flights ≡ length old.flights = ap (λ (d : Device). length d.flights) waits.new_is in omega (arith, e, some);
  costs = CostsOne waits (omega (arith, some));
  spends = record { falls = omega arith; waits = let one : left - (left - 1) ≡ 1 = omega (arith, some) in subst (λ (n : ℕ). RoseBy n old.counts.waits new.counts.waits) (sym one) waits.waits };
}

pub one_cut : (old new : Device) (left : ℕ) → HasPower old → GoesDark old new → OneIsCut left left old new
one_cut old new left lit dark =
    let cuts = was_cut old new lit.power dark in
    record { cuts = cuts; same = refl; spends = spends_on left old new (ap (λ (d : Device). d.counts.waits) cuts.new_is) }

-- ---- all that have ended so far

pub record EndedSoFar (before left : ℕ) (old now : Device) : Type 0 where
  pub ends : TransfersEnd old now
  pub lit : HasPower now
  pub spends : Spends before left old now
  pub costs : EndsWhile before old left now

pub none_yet : (left : ℕ) (old : Device) → HasPower old → EndedSoFar left left old old
none_yet left old lit = record { ends = Here tt; lit = lit; spends = spends_none left old; costs = NoneYet }

pub one_more : (before left after : ℕ) (old now new : Device) → EndedSoFar before left old now → 1 ≤ left → OneEnds left after now new → EndedSoFar before after old new
one_more before left after old now new so_far some one = record {
  ends = Then so_far.ends one.step tt;
  lit = one.lit;
  spends = spends_then before left after old now new so_far.spends one.spends;
  costs = OneMore so_far.costs some one.costs;
}

-- and then the power was cut
pub cut_costs : (before left after : ℕ) (old now new : Device) → EndedSoFar before left old now → 1 ≤ left → OneIsCut left after now new → CutCosts before after old new
cut_costs before left after old now new so_far some cut =
    record { now = now; ends = subst (λ (n : ℕ). EndsWhile before old n now) (sym cut.same) so_far.costs; some = let same = cut.same in omega (arith, some, same); cuts = cut.cuts }
