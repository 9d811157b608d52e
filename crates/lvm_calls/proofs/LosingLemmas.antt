-- What the end of a write's transfer entails, put together from its steps.
use Rattle.std.proofs.Common.{◌≡◌, ◌<◌, arith, length, slice_index_or, zero, suc, ℕ, Bool, true, false, not, List, [], ◌∷◌, Option, Some, slice_get, refl, ◌∙◌, ap, subst, if◌then◌else◌}
use Rattle.std.specs.Prelude.{◌&&◌, ◌||◌, filter}
use Rattle.std.specs.List.{list_any}
use Rattle.lvm_num.specs.declared.place.Pp.{Pp}
use Rattle.lvm_num.specs.Descriptor.{is_pp}
use Rattle.lvm_path.specs.declared.target.Target.{Target}
use Rattle.lvm_path.specs.Asks.{is_write}
use Rattle.lvm_path.specs.Targets.{are_over, is_failed}
use Rattle.lvm_session.specs.declared.bringing.OpenCopy.{OpenCopy}
use Rattle.lvm_session.specs.declared.bringing.CopyEnd.{CopyEnd}
use Rattle.lvm_session.specs.declared.open.Open.{Open}
use Rattle.lvm_session.specs.State.{Core}
use Rattle.lvm_session.specs.Judging.{all_but_sure, is_kept, is_running, pps_of}
use Rattle.lvm_session.specs.Bringing.{marked_by_end, with_end}
use Rattle.lvm_session.specs.Marks.{Entails, WantsStale, due_of, end_by_write, hits_copy, is_among}
use Rattle.lvm_calls.proofs.EndingLemmas.{marks_and_ends}
use Rattle.lvm_calls.specs.Losing.{fails_with, is_left}

among_is : (p : Pp) (ts : List Target) → list_any (λ (t : Target). is_pp p t.pp) ts ≡ is_among (pps_of ts) p
among_is p [] = refl
among_is p (t ∷ ts) = ap (λ (b : Bool). is_pp p t.pp || b) (among_is p ts)

-- the two tests say the same
pub hits_is : (core : Core) (o : Open) (ok : Bool) (p : Pp) (c : OpenCopy) → fails_with core o ok p c ≡ hits_copy core o ok p c
hits_is core o ok p c = by_tests (is_write o.request.ask) (are_over o.request.targets.items) (is_kept core o.request)
  where
    by_tests : (w v k : Bool)
        → (w && is_running c && (not ok && is_pp p c.pp || (v && not k && not o.older && is_left core o c.pp)))
        ≡ (w && is_running c && (not ok && is_pp p c.pp || (v && not k && not o.older && is_among (if w && v then pps_of (if k then filter (λ (t : Target). is_failed t.state) o.request.targets.items else all_but_sure core o.request.targets.items) else []) c.pp)))
    by_tests false v k = refl
    by_tests true false k = refl
    by_tests true true true = refl
    by_tests true true false = ap (λ (b : Bool). is_running c && (not ok && is_pp p c.pp || (not o.older && b))) (among_is c.pp (all_but_sure core o.request.targets.items))

pub entails_are : (old mid new : Core) (o : Open) (ok : Bool) (p : Pp) (end : Option CopyEnd) → mid ≡ record old { status = mid.status } → end ≡ end_by_write old o ok p
    → WantsStale (is_among (due_of old o.request)) old.status mid.status → new ≡ record (with_end mid end) { status = new.status } → WantsStale (marked_by_end mid end) mid.status new.status → Entails old o ok p new
entails_are old mid new o ok p end mids ends due is marks =
    let it = marks_and_ends old mid new (is_among (due_of old o.request)) end mids due is marks in
    record {
      marks = subst (λ (e : Option CopyEnd). WantsStale (λ q. is_among (due_of old o.request) q || marked_by_end old e q) old.status new.status) ends it.marks;
      is = it.is ∙ ap (λ (e : Option CopyEnd). record (with_end old e) { status = new.status }) ends;
    }

-- what is read at a place is the request there
pub read_same : (os : List Open) (k : ℕ) (r o : Open) → slice_get os k ≡ Some o → r ≡ slice_index_or os k r → r ≡ o
read_same [] k r o there is = absurd (cc there)
read_same (x ∷ os) zero r o there is = cc (there, is)
read_same (x ∷ os) (suc k) r o there is = read_same os k r o there is

-- a request stands at each place of the table
pub some_there : (os : List Open) (k : ℕ) → k < length os → (o : Open) × (slice_get os k ≡ Some o)
some_there [] k within = absurd (omega (arith, within))
some_there (x ∷ os) zero within = (x, refl)
some_there (x ∷ os) (suc k) within = some_there os k (omega (arith, within))
