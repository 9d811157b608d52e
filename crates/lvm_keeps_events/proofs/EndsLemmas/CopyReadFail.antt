-- The read of the copy that is open has failed.
use Rattle.std.proofs.Common.{◌≡◌, inr, ◌==◌, ◌+◌, ◌-◌, ℕ, zero, suc, Bool, true, false, ◌&&◌, ◌||◌, not, if◌then◌else◌, List, [], ◌∷◌, Option, Some, None, length, slice_get, refl, sym, ◌∙◌, ap, subst, arith}
use Rattle.std.specs.Prelude.{IfSome, filter, slice_set, find, is_none}
use Rattle.std.specs.List.{list_any, remove}
use Rattle.std.proofs.lemmas.Bool.{eq-eqb, eqb-true}
use Rattle.std.specs.Option.{option_map_or}
use Rattle.lvm_num.specs.declared.place.Pp.{Pp}
use Rattle.lvm_num.specs.Descriptor.{is_pp}
use Rattle.lvm_disk.specs.Device.{Device, Flight}
use Rattle.lvm_disk.specs.Counts.{Rose}
use Rattle.lvm_disk.specs.Steps.{EndsFailed}
use Rattle.lvm_session.specs.declared.bringing.OpenCopy.{OpenCopy}
use Rattle.lvm_session.specs.declared.bringing.Step.{Step}
use Rattle.lvm_session.specs.declared.bringing.Step.TheVariants as step
use Rattle.lvm_session.specs.State.{Core, State, state}
use Rattle.lvm_session.specs.Judging.{copies_in, is_missing, is_running, is_stale, is_wanted_stale, is_sure, is_usable}
use Rattle.lvm_session.specs.declared.bringing.CopyEnd.TheVariants as ending
use Rattle.lvm_status.specs.Update.{Stored}
use Rattle.lvm_session.specs.Events.{IsCopyTransfer}
use Rattle.lvm_session.specs.Bringing.{copy_ends, hand_of, is_held_stale, is_done_end, marked_by_end, end_by_sources, end_of, ends_if, is_cleared, is_idle, is_whole, after_copy_end, next_source, sources_of, with_end}
use Rattle.lvm_session.specs.Owners.{IsStepOf}
use Rattle.lvm_session.specs.Causes.{HaveSourcesFailed, IsCausedAmong, faults_at_opening, FailedSinceOpening}
use Rattle.lvm_session.specs.Sound.{IsCopy, IsGoing, IsSound, is_clearing, IsReadFrom}
use Rattle.lvm_keeps.proofs.RequestsLemmas.{never_done}
use Rattle.lvm_keeps.proofs.Small.{both}
use Rattle.lvm_keeps_events.specs.Ends.{CopyReadFailKeeps}
use Rattle.lvm_keeps_events.proofs.EndsLemmas.Counts.{counts_keep, rose_since}
use Rattle.lvm_keeps_events.proofs.EndsLemmas.CopyQuit.{IsBack, is_back}
use Rattle.lvm_keeps_events.proofs.SoundLemmas.Over.{keeps as keeps_over}
use Rattle.lvm_keeps_events.proofs.EndsLemmas.Again.{keeps as keeps_on}
use Rattle.lvm_keeps_events.proofs.EndsLemmas.CopyWriteFail.{faulted, step_out}
use Rattle.lvm_session.specs.declared.bringing.CopyEnd.{CopyEnd}
use Rattle.lvm_num.specs.Disks.{has}
use Rattle.lvm_session.specs.Calls.{copy_at}
use Rattle.lvm_session.specs.Marks.{is_entailed}
use Rattle.lvm_num.proofs.Booleans.{and_false, not_so}
use Rattle.lvm_keeps_events.proofs.OwnersLemmas.Removal.{IsOut, taken_out}
use Rattle.lvm_keeps_events.proofs.OnePlace.{among_at}

-- ---- lists of partitions

pub pp_is : (p q : Pp) → is_pp p q ≡ true → q ≡ p
pp_is p q is = let parts = both (p.disk == q.disk) (p.pp == q.pp) is in let disk = eqb-true p.disk q.disk parts.0 in let pp = eqb-true p.pp q.pp parts.1 in sym (λ i. record { disk = disk i; pp = pp i })

pub some_at : (t : Pp → Bool) (ps : List Pp) (i : ℕ) (p : Pp) → slice_get ps i ≡ Some p → t p ≡ true → list_any t ps ≡ true
some_at t [] i p at is = absurd (cc at)
some_at t (q ∷ ps) zero p at is = let same : q ≡ p = cc at in ap (λ b. b || list_any t ps) (ap t same ∙ is)
some_at t (q ∷ ps) (suc i) p at is = by (t q) (some_at t ps i p at is)
  where
    by : (b : Bool) → list_any t ps ≡ true → b || list_any t ps ≡ true
    by true rest = refl
    by false rest = rest

pub none_found : (t u : Pp → Bool) (ps : List Pp) (i : ℕ) (p : Pp) → is_none (find t (filter u ps)) ≡ true → slice_get ps i ≡ Some p → u p ≡ true → t p ≡ false
none_found t u [] i p none at is = absurd (cc at)
none_found t u (q ∷ ps) i p none at is = by (u q) (t q) refl refl (λ e j there. none_found t u ps j p e there is) none i at
  where
    by : (a b : Bool) → u q ≡ a → t q ≡ b → (is_none (find t (filter u ps)) ≡ true → (j : ℕ) → slice_get ps j ≡ Some p → t p ≡ false)
        → is_none (find t (if a then q ∷ filter u ps else filter u ps)) ≡ true → (j : ℕ) → slice_get (q ∷ ps) j ≡ Some p → t p ≡ false
    by true true kept found more e j there = not_so (ap (λ (x : Bool). is_none (if x then Some q else find t (filter u ps))) (sym found) ∙ e)
    by true false kept found more e zero there = let same : q ≡ p = cc there in sym (ap t same) ∙ found
    by true false kept found more e (suc j) there = more (sym (ap (λ (x : Bool). is_none (if x then Some q else find t (filter u ps))) found) ∙ e) j there
    by false b kept found more e zero there = let same : q ≡ p = cc there in not_so (sym kept ∙ ap u same ∙ is)
    by false b kept found more e (suc j) there = more e j there

pub by_place : (ps : List Pp) (number : ℕ) (p : Pp) → copy_at ps number ≡ Some p → slice_get ps (number - 1) ≡ Some p
by_place ps number p is = by (number == 0) is
  where
    by : (b : Bool) → (if b then None else slice_get ps (number - 1)) ≡ Some p → slice_get ps (number - 1) ≡ Some p
    by true e = absurd (cc e)
    by false e = e

pub of_place : (ps : List Pp) (i : ℕ) (p : Pp) → slice_get ps i ≡ Some p → copy_at ps (i + 1) ≡ Some p
of_place ps i p there = by ((i + 1) == 0) refl ∙ (let same : i + 1 - 1 ≡ i = omega arith in ap (slice_get ps) same) ∙ there
  where
    by : (b : Bool) → ((i + 1) == 0) ≡ b → (if b then None else slice_get ps (i + 1 - 1)) ≡ slice_get ps (i + 1 - 1)
    by false is = refl
    by true is = let same = eqb-true (i + 1) 0 is in absurd (omega (arith, same))

pub usable_of : (other stale wanted gone : Bool) → other && (not stale && not wanted) && not gone ≡ true → other && (not stale && not gone) ≡ true
usable_of true false false false e = refl
usable_of true false true gone e = not_so e
usable_of true true wanted gone e = not_so e
usable_of true false false true e = not_so e
usable_of false stale wanted gone e = not_so e

none_both : (b x : Bool) → b && false && x ≡ false
none_both true x = refl
none_both false x = refl

-- ---- how it ends where its sources are all tried

-- the end by the state as a whole of a copy of a disk that is there, which isn't whole
pub by_sources : (core : Core) (c : OpenCopy) (m : Option CopyEnd) → is_running c ≡ true → is_missing core c.pp.disk ≡ false → is_whole core c ≡ false → end_of core c ≡ m → end_by_sources core c ≡ m
by_sources core c m runs here short is =
    sym (ap (λ (b : Bool). if not b then None else if is_missing core c.pp.disk then Some ending.SyncFailed else if is_whole core c then ends_if (is_cleared core c) ending.Done else end_by_sources core c) runs
    ∙ ap (λ (b : Bool). if b then Some ending.SyncFailed else if is_whole core c then ends_if (is_cleared core c) ending.Done else end_by_sources core c) here
    ∙ ap (λ (b : Bool). if b then ends_if (is_cleared core c) ending.Done else end_by_sources core c) short)
    ∙ is

pub is_here : (core : Core) (c : OpenCopy) → is_running c ≡ true → end_of core c ≡ None → is_missing core c.pp.disk ≡ false
is_here core c runs none = by (is_running c) (is_missing core c.pp.disk) runs none
  where
    by : (a b : Bool) → a ≡ true → (if not a then None else if b then Some ending.SyncFailed else if is_whole core c then ends_if (is_cleared core c) ending.Done else end_by_sources core c) ≡ None → b ≡ false
    by false b goes e = not_so goes
    by true true goes e = absurd (cc e)
    by true false goes e = refl

pub all_tried : (core : Core) (c : OpenCopy) → end_by_sources core c ≡ Some ending.SyncFailed → is_none (next_source core c) ≡ true
all_tried core c is = by (length (sources_of core c) == 0) (is_idle c.step) (is_none (next_source core c)) is
  where
    by : (a i n : Bool) → (if a then Some ending.NoFresh else if i && n then Some ending.SyncFailed else None) ≡ Some ending.SyncFailed → n ≡ true
    by true i n e = absurd (cc e)
    by false true true e = refl
    by false true false e = absurd (cc e)
    by false false n e = absurd (cc e)

pub copy_read_fail_keeps : CopyReadFailKeeps
copy_read_fail_keeps at old new sound on event = by_end (copy_ends mid) refl new_is
  where
    c : OpenCopy
    c = event.copy

    core : Core
    core = old.core

    copies : List Pp
    copies = copies_in old.core.descriptor c.lv c.lp

    tried : ℕ
    tried = event.misses.tried

    failure : EndsFailed old.device new.device event.row.ticket event.buf
    failure = event.returns.ends

    ended : IsBack old.device new.device event.row event.buf
    ended = record { flight = failure.flight; its = failure.its; flights = failure.flights; number = failure.number; more = (is_back old.device new.device event.row event.buf false failure).more; is = failure.new_is }

    between : State
    between = state (record old.device { media = new.device.media; counts = new.device.counts }) old.core

    sound_between : IsSound between
    sound_between = counts_keep old new.device.media new.device.counts sound ended.more

    going : IsGoing old.core
    going = (sound.on on).going

    its : IsCopy old.core c
    its = subst (λ m. IfSome m (IsCopy old.core)) event.is_open going.copy

    busy : is_idle c.step ≡ false
    busy = ap is_idle event.reads

    short : is_whole old.core c ≡ false
    short = its.under_way event.runs busy

    out : IsOut old.core old.device.flights new.device.flights at event.row ended.flight
    out = taken_out old.core old.core.flying old.device.flights new.device.flights at event.row ended.flight (sound.on on).rows (sound.on on).going.tickets event.returns.there ended.flights ended.its

    resting : OpenCopy
    resting = record c { step = step.Idle; tried = tried }

    pool : List Bool
    pool = slice_set old.core.pool event.buf.number false

    mid : Core
    mid = record old.core { flying = remove old.core.flying at; pool = pool; copy = Some resting }

    -- nothing comes to be wanted stale, since it isn't whole
    not_marked : (m : Option CopyEnd) (p : Pp) → marked_by_end mid m p ≡ false
    not_marked None p = refl
    not_marked (Some how) p = ap (λ (b : Bool). not (is_done_end how) && (b && is_pp p c.pp && (not c.moves || is_held_stale mid c.pp))) short ∙ and_false (not (is_done_end how))

    status_is : new.core.status ≡ old.core.status
    status_is = event.misses.reviews.marks.same (λ p due. going.behind p (by (is_entailed old.core p) (marked_by_end mid (copy_ends mid) p) (not_marked (copy_ends mid) p) due))
      where
        by : (a b : Bool) → b ≡ false → a || b ≡ true → a ≡ true
        by true b none e = refl
        by false b none e = not_so (sym none ∙ e)

    new_is : new.core ≡ record (with_end mid (copy_ends mid)) { status = old.core.status }
    new_is = event.misses.reviews.is ∙ ap (λ (u : Stored). record (with_end mid (copy_ends mid)) { status = u }) status_is

    -- ---- its disk has failed

    transfer : IsCopyTransfer old.core c event.source false ended.flight
    transfer = subst (λ (x : Step). IsStepOf x old.core c ended.flight) event.reads (step_out old.core c event.row ended.flight event.is_open event.own out.own)

    rose : Rose (old.device.counts.faults event.source.disk) (new.device.counts.faults event.source.disk)
    rose = faulted old.core c event.source false ended.flight old.device.counts new.device.counts transfer failure.counts

    reading : IsReadFrom (step.Reading event.source) copies c
    reading = subst (λ (x : Step). IsReadFrom x copies c) event.reads its.source

    was : IsCausedAmong between copies c
    was = subst (λ m. IfSome m (λ (k : OpenCopy). IsCausedAmong between (copies_in old.core.descriptor k.lv k.lp) k)) event.is_open sound_between.copy

    before : IsCausedAmong old copies c
    before = subst (λ m. IfSome m (λ (k : OpenCopy). IsCausedAmong old (copies_in old.core.descriptor k.lv k.lp) k)) event.is_open sound.copy

    rose_of : (number : ℕ) (p : Pp) → copy_at copies number ≡ Some p → p.disk ≡ event.source.disk → FailedSinceOpening between.device c number p
    rose_of number p there same = rose_since (faults_at_opening c number) (old.device.counts.faults p.disk) (new.device.counts.faults p.disk) (before.since number p there) (subst (λ d. Rose (old.device.counts.faults d) (new.device.counts.faults d)) (sym same) rose)

    tries : (disk : ℕ) → has tried disk ≡ true → list_any (λ (p : Pp). not (is_pp p c.pp) && p.disk == disk) copies ≡ true
    tries disk is = by (has c.tried disk) refl (sym (event.misses.tries disk) ∙ is)
      where
        by : (b : Bool) → has c.tried disk ≡ b → b || disk == event.source.disk ≡ true → list_any (λ (p : Pp). not (is_pp p c.pp) && p.disk == disk) copies ≡ true
        by true had e = its.tried disk had
        by false new_one e =
            let found = among_at copies event.source reading.0 in
            let same = eqb-true disk event.source.disk e in
            some_at (λ (p : Pp). not (is_pp p c.pp) && p.disk == disk) copies found.0 event.source found.1 (ap (λ (b : Bool). not b && event.source.disk == disk) reading.1 ∙ eq-eqb event.source.disk disk (sym same))

    each_tried : (number : ℕ) (p : Pp) → copy_at copies number ≡ Some p → has tried p.disk ≡ true → FailedSinceOpening between.device c number p
    each_tried number p there is = by (has c.tried p.disk) refl (sym (event.misses.tries p.disk) ∙ is)
      where
        by : (b : Bool) → has c.tried p.disk ≡ b → b || p.disk == event.source.disk ≡ true → FailedSinceOpening between.device c number p
        by true had e = was.tried number p there had
        by false new_one e = rose_of number p there (eqb-true p.disk event.source.disk e)

    -- ---- the copy ends with it, or not

    by_end : (m : Option CopyEnd) → copy_ends mid ≡ m → new.core ≡ record (with_end mid m) { status = old.core.status } → IsSound new
    by_end None still core_is =
        subst IsSound (sym (ap (λ (d : Device). state d new.core) ended.is ∙ ap (λ (k : Core). state (record old.device { media = new.device.media; flights = new.device.flights; counts = new.device.counts }) k) core_is
        ∙ ap (λ (fs : List Flight). state (record old.device { media = new.device.media; flights = fs; counts = new.device.counts }) mid) out.left_is))
        (keeps_on between sound_between on c event.is_open event.runs busy (ap hand_of event.reads) tried still tries why at event.row event.returns.there event.own ended.flight out.there event.buf ended.number)
      where
        why : IsCausedAmong between copies resting
        why = record { began = was.began; since = was.since; tried = each_tried; own_began = was.own_began; own_since = was.own_since; failed = λ e. not_so (sym (ap is_none e) ∙ event.runs) }
    by_end (Some how) ends core_is =
        subst IsSound (sym (ap (λ (d : Device). state d new.core) ended.is ∙ ap (λ (k : Core). state (record old.device { media = new.device.media; flights = new.device.flights; counts = new.device.counts }) k) core_is
        ∙ ap (λ (fs : List Flight). state (record old.device { media = new.device.media; flights = fs; counts = new.device.counts }) (after_copy_end mid resting how)) out.left_is))
        (keeps_over between sound_between on c event.is_open tried (Some how) refl (λ moves move done. never_done mid resting moves (ends ∙ done)) not_clearing tries why at event.row event.returns.there event.own ended.flight out.there event.buf ended.number)
      where
        not_clearing : (p : Pp) → is_clearing old.core p ≡ false
        not_clearing p = ap (λ m. option_map_or (λ (k : OpenCopy). is_running k && is_whole old.core k && is_pp p k.pp) m false) event.is_open ∙ ap (λ b. is_running c && b && is_pp p c.pp) short ∙ none_both (is_running c) (is_pp p c.pp)

        here : is_missing old.core c.pp.disk ≡ false
        here = is_here old.core c event.runs (sym (ap (λ m. option_map_or (end_of old.core) m None) event.is_open) ∙ going.reviewed)

        sources : end_of mid resting ≡ Some ending.SyncFailed → HaveSourcesFailed between copies (record resting { end = Some how })
        sources e = record { each = each; number = found.0 + 1; source = event.source; source_is = of_place copies found.0 event.source found.1; other = reading.1; one = rose_of (found.0 + 1) event.source (of_place copies found.0 event.source found.1) refl }
          where
            found : (i : ℕ) × (slice_get copies i ≡ Some event.source)
            found = among_at copies event.source reading.0

            none : is_none (next_source mid resting) ≡ true
            none = all_tried mid resting (by_sources mid resting (Some ending.SyncFailed) event.runs here short e)

            each : (number : ℕ) (p : Pp) → copy_at copies number ≡ Some p → not (is_pp p c.pp) && is_sure old.core p && not (is_missing old.core p.disk) ≡ true → FailedSinceOpening between.device c number p
            each number p there is = each_tried number p there (to_tried (has tried p.disk) (none_found (λ (q : Pp). not (has tried q.disk)) (λ (q : Pp). not (is_pp q c.pp) && is_usable old.core q) copies (number - 1) p none (by_place copies number p there)
                (usable_of (not (is_pp p c.pp)) (is_stale old.core p) (is_wanted_stale old.core p) (is_missing old.core p.disk) is)))
              where
                to_tried : (b : Bool) → not b ≡ false → b ≡ true
                to_tried true e = refl
                to_tried false e = not_so (sym e)

        why : IsCausedAmong between copies (record resting { end = Some how })
        why = record { began = was.began; since = was.since; tried = each_tried; own_began = was.own_began; own_since = was.own_since; failed = λ e. inr (sources (ends ∙ e)) }
