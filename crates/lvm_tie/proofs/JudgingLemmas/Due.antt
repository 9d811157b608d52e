-- What becomes wanted stale at the end of a write's transfers leaves one of its targets, which is sure.
use Rattle.std.proofs.Common.{◌≡◌, inl, inr, ⊎_elim, suc, Bool, true, false, List, [], ◌∷◌, Some, refl, sym, ap, ◌∙◌, arith}
use Rattle.std.specs.Prelude.{filter, if◌then◌else◌}
use Rattle.lvm_num.specs.declared.place.Pp.{Pp}
use Rattle.lvm_kept.specs.Group.{IsOneOf}
use Rattle.lvm_sched.specs.declared.writes.TargetState.{TargetState}
use Rattle.lvm_sched.specs.declared.writes.TargetState.TheVariants as target
use Rattle.lvm_path.specs.declared.target.Target.{Target}
use Rattle.lvm_path.specs.Targets.{is_done, is_failed}
use Rattle.lvm_session.specs.State.{Core}
use Rattle.lvm_session.specs.Judging.{all_but_sure, is_sure_at, pps_of}
use Rattle.lvm_session.specs.Marks.{is_among}
use Rattle.lvm_invariant.specs.State.{Stage}
use Rattle.lvm_num.specs.Descriptor.{is_pp}
use Rattle.lvm_num.proofs.Booleans.{clash_gives}
use Rattle.lvm_num.proofs.AmongLemmas.{filter_one}
use Rattle.lvm_tie.proofs.StateLemmas.{among_one}
use Rattle.lvm_tie.proofs.TiedLemmas.Orderly.{Differ}
use Rattle.lvm_tie.proofs.AmongLemmas.{one_there, target_of}
use Rattle.lvm_tie.specs.Seen.{stage_at, stage_seen}
use Rattle.lvm_crash.proofs.WritingLemmas.{pp_same}

-- ---- targets that differ

-- no other target is at the partition of one
abbrev pub AreApart : List Target → Type 0
AreApart [] = Unit {0}
AreApart (t ∷ ts) = ((u : Target) → IsOneOf ts u → u.pp ≡ t.pp → ⊥) × AreApart ts

pub are_apart : (ts : List Target) → Differ ts → AreApart ts
are_apart [] differ = tt
are_apart (t ∷ ts) differ = (
  λ u one same. let r = one_there ts u one in let e = differ (suc r.0) 0 u t r.1 refl same in absurd (omega arith),
  are_apart ts (λ j k a b at too same. let e = differ (suc j) (suc k) a b at too same in omega arith),
)

same_target : (ts : List Target) (u x : Target) → AreApart ts → IsOneOf ts u → IsOneOf ts x → u.pp ≡ x.pp → u ≡ x
same_target [] u x apart one other same = absurd one
same_target (t ∷ ts) u x apart (inl here) (inl there) same = here ∙ sym there
same_target (t ∷ ts) u x apart (inl here) (inr there) same = absurd (apart.0 x there (sym same ∙ ap (λ (y : Target). y.pp) here))
same_target (t ∷ ts) u x apart (inr here) (inl there) same = absurd (apart.0 u here (same ∙ ap (λ (y : Target). y.pp) there))
same_target (t ∷ ts) u x apart (inr here) (inr there) same = same_target ts u x apart.1 here there same

-- a partition with a stage is a target's
pub stage_one : (ts : List Target) (e : Pp) (stage : Stage) → stage_at ts e ≡ Some stage → (u : Target) × IsOneOf ts u × (u.pp ≡ e)
stage_one [] e stage h = absurd (cc h)
stage_one (t ∷ ts) e stage h = by (is_pp e t.pp) refl h (stage_one ts e stage)
  where
    by : (b : Bool) → is_pp e t.pp ≡ b → (if b then Some (stage_seen t.state) else stage_at ts e) ≡ Some stage → (stage_at ts e ≡ Some stage → (u : Target) × IsOneOf ts u × (u.pp ≡ e)) → (u : Target) × IsOneOf (t ∷ ts) u × (u.pp ≡ e)
    by true test here rest = (t, inl refl, sym (pp_same e t.pp test))
    by false test there rest = let r = rest there in (r.0, inr r.1, r.2)

-- ---- the one that stays

-- a target that is sure, and isn't among these
pub record Stays (core : Core) (ts due : List Target) : Type 0 where
  pub keeper : Target
  pub one : IsOneOf ts keeper
  pub sure : is_sure_at core keeper ≡ true
  pub others : (x : Target) → IsOneOf due x → IsOneOf ts x × (x.pp ≡ keeper.pp → ⊥)

-- all but the first that is sure
pub sure_stays : (core : Core) (ts : List Target) (u : Target) → AreApart ts → IsOneOf ts u → is_sure_at core u ≡ true → Stays core ts (all_but_sure core ts)
sure_stays core [] u apart one sure = absurd one
sure_stays core (t ∷ ts) u apart one sure = by (is_sure_at core t) refl (λ there. sure_stays core ts u apart.1 there sure)
  where
    by : (b : Bool) → is_sure_at core t ≡ b → (IsOneOf ts u → Stays core ts (all_but_sure core ts)) → Stays core (t ∷ ts) (if b then ts else t ∷ all_but_sure core ts)
    by true is after = record { keeper = t; one = inl refl; sure = is; others = λ x here. (inr here, apart.0 x here) }
    by false is after = later one
      where
        later : IsOneOf (t ∷ ts) u → Stays core (t ∷ ts) (t ∷ all_but_sure core ts)
        later (inl here) = clash_gives (is_sure_at core t) (ap (λ (x : Target). is_sure_at core x) (sym here) ∙ sure) is
        later (inr there) = let rest = after there in record {
          keeper = rest.keeper;
          one = inr rest.one;
          sure = rest.sure;
          others = λ x inside. ⊎_elim
              (λ (here : x ≡ t). (inl here, λ same. apart.0 rest.keeper rest.one (sym same ∙ ap (λ (y : Target). y.pp) here)))
              (λ there2. let r = rest.others x there2 in (inr r.0, r.1))
              inside;
        }

done_or_failed : {X : Type 0} (s : TargetState) → is_done s ≡ true → is_failed s ≡ true → X
done_or_failed target.Waiting h k = absurd (cc h)
done_or_failed target.Flying h k = absurd (cc h)
done_or_failed target.Done h k = absurd (cc k)
done_or_failed target.Failed h k = absurd (cc h)

-- all that failed, where one that is sure has succeeded
pub done_stays : (core : Core) (ts : List Target) (u : Target) → AreApart ts → IsOneOf ts u → is_done u.state ≡ true → is_sure_at core u ≡ true → Stays core ts (filter (λ (t : Target). is_failed t.state) ts)
done_stays core ts u apart one succeeded sure = record {
  keeper = u;
  one = one;
  sure = sure;
  others = λ x inside. let f = filter_one (λ (t : Target). is_failed t.state) ts x inside in (f.0, λ same. let e : x ≡ u = same_target ts x u apart f.0 one same in done_or_failed u.state succeeded (ap (λ (t : Target). is_failed t.state) (sym e) ∙ f.1));
}

-- so the one that stays isn't due
pub not_due : (core : Core) (ts due : List Target) (stays : Stays core ts due) → is_among (pps_of due) stays.keeper.pp ≡ false
not_due core ts due stays = by (is_among (pps_of due) stays.keeper.pp) refl
  where
    by : (b : Bool) → is_among (pps_of due) stays.keeper.pp ≡ b → b ≡ false
    by false h = refl
    by true h = let t = target_of due stays.keeper.pp (among_one (pps_of due) stays.keeper.pp h) in absurd ((stays.others t.0 t.1).1 t.2)
