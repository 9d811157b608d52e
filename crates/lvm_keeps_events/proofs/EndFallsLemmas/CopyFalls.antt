-- The end of a transfer of the copy that is brought up leaves less work, but for a write that ends well.
use Rattle.std.proofs.Common.{◌&&◌, ◌*◌, ◌+◌, ◌-◌, ◌<◌, ◌==◌, [], ap, arith, Bool, false, if◌then◌else◌, length, List, None, not, Option, refl, slice_get, slice_set, Some, subst, suc, sym, true, zero, ◌||◌, ℕ, ◌∙◌, ◌∷◌, ◌≡◌, ◌≤◌}
use Rattle.std.proofs.lemmas.Bool.{eq-eqb}
use Rattle.std.proofs.lemmas.List.Sums.{count_by-le-length}
use Rattle.std.specs.List.{remove}
use Rattle.std.specs.Option.{option_map_or}
use Rattle.std.specs.Prelude.{count_by, IfSome}
use Rattle.lvm_num.specs.Disks.{has}
use Rattle.lvm_num.specs.declared.place.Pp.{Pp}
use Rattle.lvm_hold.specs.Waiting.{Waiting, without}
use Rattle.lvm_num.specs.Descriptor.{is_pp}
use Rattle.lvm_num.proofs.Booleans.{not_so}
use Rattle.lvm_status.specs.Update.{Stored}
use Rattle.lvm_session.specs.Bringing.{after_copy_end, copy_ends, end_of, groups_of, is_done_end, is_idle, is_whole, marked_by_end, with_end, is_held_stale}
use Rattle.lvm_session.specs.Judging.{copies_in, is_missing, is_running}
use Rattle.lvm_session.specs.State.{Core}
use Rattle.lvm_session.specs.declared.bringing.CopyEnd.{CopyEnd}
use Rattle.lvm_session.specs.declared.bringing.CopyEnd.TheVariants as ending
use Rattle.lvm_session.specs.declared.bringing.OpenCopy.{OpenCopy}
use Rattle.lvm_session.specs.declared.bringing.Step.{Step}
use Rattle.lvm_session.specs.declared.bringing.Step.TheVariants as step
use Rattle.lvm_session.specs.declared.flown.Flown.{Flown}
use Rattle.lvm_session.specs.Ends.{after_quit}
use Rattle.lvm_session.specs.Marks.{is_entailed}
use Rattle.lvm_session.specs.Left.{copy_left, left_of, request_left, step_left, tried_of, update_work}
use Rattle.lvm_session.specs.Sound.{count_if, IsCopy, IsGoing, IsReadFrom}
use Rattle.lvm_keeps.proofs.FallsLemmas.CopyRead.{few_copies}
use Rattle.lvm_keeps.proofs.Lists.{count_cons}
use Rattle.lvm_keeps.proofs.FallsLemmas.Pin.{sum_same}
use Rattle.lvm_keeps_events.proofs.EndsLemmas.CopyReadFail.{is_here}
use Rattle.lvm_keeps_events.proofs.Lists.{and_false, count_on, or_true}
use Rattle.lvm_keeps_events.proofs.LeftLemmas.EndedLess.{now, request_less}
use Rattle.lvm_keeps_events.proofs.EndFallsLemmas.Falling.{after, before, each_less, falls, rest_left, step_same, sum_most}
use Rattle.lvm_keeps_events.specs.EndFalls.{CopyQuitFalls, CopyReadEndFalls, CopyReadFailFalls, CopyWriteFailFalls}
use Rattle.lvm_keeps_events.proofs.OnePlace.{among_at}
use Rattle.lvm_keeps_events.proofs.Finding.{length_taken}

-- ---- counts of what was tried

count_less : {A : Type 0} (t : A → Bool) (xs : List A) (k : ℕ) (x : A) → slice_get xs k ≡ Some x → t x ≡ false → count_by t xs + 1 ≤ length xs
count_less t [] k x there none = absurd (cc there)
count_less t (y ∷ xs) zero x there none =
    let same : y ≡ x = cc there in
    let a = count_cons t y xs in
    let one : count_if (t y) ≡ 0 = ap count_if (ap t same ∙ none) in
    let most = count_by-le-length t xs in
    omega (arith, a, one, most)
count_less t (y ∷ xs) (suc k) x there none = let a = count_cons t y xs in let one = at_most (t y) in let rest = count_less t xs k x there none in omega (arith, a, one, rest)
  where
    at_most : (b : Bool) → count_if b ≤ 1
    at_most true = omega arith
    at_most false = omega arith

count_more : {A : Type 0} (t u : A → Bool) → ((x : A) → t x ≡ true → u x ≡ true) → (xs : List A) (k : ℕ) (x : A) → slice_get xs k ≡ Some x → t x ≡ false → u x ≡ true → count_by t xs + 1 ≤ count_by u xs
count_more t u on [] k x there none some = absurd (cc there)
count_more t u on (y ∷ xs) zero x there none some =
    let same : y ≡ x = cc there in
    let a = count_cons t y xs in let b = count_cons u y xs in
    let zero_so : count_if (t y) ≡ 0 = ap count_if (ap t same ∙ none) in
    let one : count_if (u y) ≡ 1 = ap count_if (ap u same ∙ some) in
    let rest = count_on t u on xs in
    omega (arith, a, b, zero_so, one, rest)
count_more t u on (y ∷ xs) (suc k) x there none some =
    let a = count_cons t y xs in let b = count_cons u y xs in
    let one = of (t y) refl in
    let rest = count_more t u on xs k x there none some in
    omega (arith, a, b, one, rest)
  where
    of : (b : Bool) → t y ≡ b → count_if (t y) ≤ count_if (u y)
    of true is = let p : count_if (t y) ≡ 1 = ap count_if is in let q : count_if (u y) ≡ 1 = ap count_if (on y is) in omega (arith, p, q)
    of false is = let p : count_if (t y) ≡ 0 = ap count_if is in omega (arith, p)

-- ---- what is left of a copy

abbrev beside : Core → OpenCopy → ℕ
beside core c = 3 * update_work + 16 * (groups_of core - c.cursor - 1) + 8

left_is : (core : Core) (c : OpenCopy) → is_running c ≡ true → is_whole core c ≡ false → copy_left core c ≡ beside core c + step_left c.step (tried_of core c)
left_is core c runs short = ap (λ b. if not b then 0 else if is_whole core c then 2 * update_work else beside core c + step_left c.step (tried_of core c)) runs ∙ ap (λ b. if b then 2 * update_work else beside core c + step_left c.step (tried_of core c)) short

-- the same requests, and a copy of which no more is left
step_rest : (core : Core) (c : OpenCopy) (to : Step) (tried : ℕ) (queue : Waiting) (pool : List Bool) (flying : List Flown) → core.copy ≡ Some c
    → copy_left core (record c { step = to; tried = tried }) ≤ copy_left core c → rest_left (after core c to tried queue pool flying) ≤ rest_left core
step_rest core c to tried queue pool flying is less = subst (λ m. rest_left (after core c to tried queue pool flying) ≤ rest_left (record core { copy = m })) (sym is) of
  where
    of : rest_left (after core c to tried queue pool flying) ≤ rest_left (before core c to tried queue pool flying)
    of = let same = sum_same (request_left (before core c to tried queue pool flying)) (request_left (after core c to tried queue pool flying)) (step_same core c to tried queue pool flying) core.requests in omega (arith, same, less)

end_rest : (core : Core) (c : OpenCopy) (is : core.copy ≡ Some c) (runs : is_running c ≡ true) (here : is_missing core c.pp.disk ≡ false) (queue : Waiting) (pool : List Bool) (flying : List Flown) (to : Step) (tried : ℕ) (how : CopyEnd)
    → rest_left (now core c is runs here queue pool flying to tried how) ≤ rest_left core
end_rest core c is runs here queue pool flying to tried how =
    let less = sum_most (request_left core) (request_left (now core c is runs here queue pool flying to tried how)) core.requests
    (each_less (request_left core) (request_left (now core c is runs here queue pool flying to tried how)) (request_less core c is runs here queue pool flying to tried how) core.requests) in
    omega (arith, less)

-- ---- the read has ended well

pub copy_read_end_falls : CopyReadEndFalls
copy_read_end_falls at old new sound on event = subst (λ (k : Core). left_of k < left_of old.core) (sym event.is) (falls old.core made (record {
  lit = on;
  still_lit = on;
  lost = refl;
  fewer = length_taken old.core.flying at event.row event.returns.there;
  waiting = refl;
  members = refl;
  rest = step_rest old.core c (step.Read event.buf) c.tried old.core.queue old.core.pool (remove old.core.flying at) event.is_open less;
}))
  where
    c : OpenCopy
    c = event.copy

    made : Core
    made = record old.core { flying = remove old.core.flying at; copy = Some (record c { step = step.Read event.buf }) }

    its : IsCopy old.core c
    its = subst (λ m. IfSome m (IsCopy old.core)) event.is_open (sound.on on).going.copy

    reading : IsReadFrom (step.Reading event.source) (copies_in old.core.descriptor c.lv c.lp) c
    reading = subst (λ (x : Step). IsReadFrom x (copies_in old.core.descriptor c.lv c.lp) c) event.reads its.source

    short : is_whole old.core c ≡ false
    short = its.under_way event.runs (ap is_idle event.reads)

    less : copy_left old.core (record c { step = step.Read event.buf }) ≤ copy_left old.core c
    less =
        let was = left_is old.core c event.runs short in
        let is_now = left_is old.core (record c { step = step.Read event.buf }) event.runs short in
        let step_was : step_left c.step (tried_of old.core c) ≡ 6 - 2 * tried_of old.core c = ap (λ (x : Step). step_left x (tried_of old.core c)) event.reads in
        let found = among_at (copies_in old.core.descriptor c.lv c.lp) event.source reading.0 in
        let low = count_less (λ (p : Pp). has c.tried p.disk) (copies_in old.core.descriptor c.lv c.lp) found.0 event.source found.1 reading.2 in
        let few = few_copies old.core c (sound.on on).going.fitting.valid its in
        omega (arith, was, is_now, step_was, low, few)

-- ---- the copy had ended before

pub copy_quit_falls : CopyQuitFalls
copy_quit_falls at ok old new sound on event = subst (λ (k : Core). left_of k < left_of old.core) (sym event.is) (falls old.core made (record {
  lit = on;
  still_lit = on;
  lost = refl;
  fewer = length_taken old.core.flying at event.row event.returns.there;
  waiting = refl;
  members = refl;
  rest = step_rest old.core c step.Idle c.tried made.queue made.pool (remove old.core.flying at) event.is_open (let none = over in omega (arith, none));
}))
  where
    c : OpenCopy
    c = event.copy

    made : Core
    made = after_quit old.core at c event.buf

    over : copy_left old.core (record c { step = step.Idle }) ≡ 0
    over = ap (λ b. if not b then 0 else if is_whole old.core c then 2 * update_work else 3 * update_work + 16 * (groups_of old.core - c.cursor - 1) + 8 + (8 - 2 * tried_of old.core c)) event.over

-- ---- the write has failed

pub copy_write_fail_falls : CopyWriteFailFalls
copy_write_fail_falls at old new sound on event = subst (λ (k : Core). left_of k < left_of old.core) (sym core_is) (falls old.core made (record {
  lit = on;
  still_lit = on;
  lost = refl;
  fewer = length_taken old.core.flying at event.row event.returns.there;
  waiting = refl;
  members = refl;
  rest = end_rest old.core c event.is_open event.runs here made.queue made.pool (remove old.core.flying at) step.Idle c.tried ending.SyncFailed;
}))
  where
    c : OpenCopy
    c = event.copy

    its : IsCopy old.core c
    its = subst (λ m. IfSome m (IsCopy old.core)) event.is_open (sound.on on).going.copy

    short : is_whole old.core c ≡ false
    short = its.under_way event.runs (ap is_idle event.writes)

    here : is_missing old.core c.pp.disk ≡ false
    here = is_here old.core c event.runs (sym (ap (λ m. option_map_or (end_of old.core) m None) event.is_open) ∙ (sound.on on).going.reviewed)

    made : Core
    made = record old.core { flying = remove old.core.flying at; pool = slice_set old.core.pool event.buf.number false; copy = Some (record c { step = step.Idle; end = Some ending.SyncFailed }); queue = record old.core.queue { rows = without c.place old.core.queue.rows } }

    -- nothing comes to be wanted stale, since it wasn't whole
    status_is : new.core.status ≡ old.core.status
    status_is = event.fails.marks.same (λ p due. not_so (sym (not_marked p) ∙ due))
      where
        not_marked : (p : Pp) → marked_by_end old.core (Some ending.SyncFailed) p ≡ false
        not_marked p = ap (λ m. option_map_or (λ (k : OpenCopy). is_whole old.core k && is_pp p k.pp && (not k.moves || is_held_stale old.core k.pp)) m false) event.is_open ∙ ap (λ b. b && is_pp p c.pp && (not c.moves || is_held_stale old.core c.pp)) short

    core_is : new.core ≡ made
    core_is = event.fails.is ∙ ap (λ (u : Stored). record made { status = u }) status_is

-- ---- the read has failed

pub copy_read_fail_falls : CopyReadFailFalls
copy_read_fail_falls at old new sound on event = by_end (copy_ends mid) refl new_is
  where
    c : OpenCopy
    c = event.copy

    core : Core
    core = old.core

    copies : List Pp
    copies = copies_in old.core.descriptor c.lv c.lp

    tried : ℕ
    tried = event.misses.tried

    going : IsGoing old.core
    going = (sound.on on).going

    its : IsCopy old.core c
    its = subst (λ m. IfSome m (IsCopy old.core)) event.is_open going.copy

    short : is_whole old.core c ≡ false
    short = its.under_way event.runs (ap is_idle event.reads)

    here : is_missing old.core c.pp.disk ≡ false
    here = is_here old.core c event.runs (sym (ap (λ m. option_map_or (end_of old.core) m None) event.is_open) ∙ going.reviewed)

    reading : IsReadFrom (step.Reading event.source) copies c
    reading = subst (λ (x : Step). IsReadFrom x copies c) event.reads its.source

    resting : OpenCopy
    resting = record c { step = step.Idle; tried = tried }

    mid : Core
    mid = record old.core { flying = remove old.core.flying at; pool = slice_set old.core.pool event.buf.number false; copy = Some resting }

    -- nothing comes to be wanted stale, since it isn't whole
    not_marked : (m : Option CopyEnd) (p : Pp) → marked_by_end mid m p ≡ false
    not_marked None p = refl
    not_marked (Some how) p = ap (λ (b : Bool). not (is_done_end how) && (b && is_pp p c.pp && (not c.moves || is_held_stale mid c.pp))) short ∙ and_false (not (is_done_end how))

    status_is : new.core.status ≡ old.core.status
    status_is = event.misses.reviews.marks.same (λ p due. going.behind p (by (is_entailed old.core p) (marked_by_end mid (copy_ends mid) p) (not_marked (copy_ends mid) p) due))
      where
        by : (a b : Bool) → b ≡ false → a || b ≡ true → a ≡ true
        by true b none e = refl
        by false b none e = not_so (sym none ∙ e)

    new_is : new.core ≡ record (with_end mid (copy_ends mid)) { status = old.core.status }
    new_is = event.misses.reviews.is ∙ ap (λ (u : Stored). record (with_end mid (copy_ends mid)) { status = u }) status_is

    one_more : tried_of old.core c + 1 ≤ count_by (λ (p : Pp). has tried p.disk) copies
    one_more =
        let found = among_at copies event.source reading.0 in
        count_more (λ (p : Pp). has c.tried p.disk) (λ (p : Pp). has tried p.disk) (λ p e. event.misses.tries p.disk ∙ ap (λ b. b || p.disk == event.source.disk) e) copies found.0 event.source found.1 reading.2
        (event.misses.tries event.source.disk ∙ ap (λ b. has c.tried event.source.disk || b) (eq-eqb event.source.disk event.source.disk refl) ∙ or_true (has c.tried event.source.disk))

    less : copy_left old.core resting ≤ copy_left old.core c
    less =
        let was = left_is old.core c event.runs short in
        let is_now = left_is old.core resting event.runs short in
        let step_was : step_left c.step (tried_of old.core c) ≡ 6 - 2 * tried_of old.core c = ap (λ (x : Step). step_left x (tried_of old.core c)) event.reads in
        let more = one_more in
        omega (arith, was, is_now, step_was, more)

    by_end : (m : Option CopyEnd) → copy_ends mid ≡ m → new.core ≡ record (with_end mid m) { status = old.core.status } → left_of new.core < left_of old.core
    by_end None still core_is = subst (λ (k : Core). left_of k < left_of old.core) (sym core_is) (falls old.core mid (record {
      lit = on;
      still_lit = on;
      lost = refl;
      fewer = length_taken old.core.flying at event.row event.returns.there;
      waiting = refl;
      members = refl;
      rest = step_rest old.core c step.Idle tried old.core.queue mid.pool (remove old.core.flying at) event.is_open less;
    }))
    by_end (Some how) ends core_is = subst (λ (k : Core). left_of k < left_of old.core) (sym core_is) (falls old.core (after_copy_end mid resting how) (record {
      lit = on;
      still_lit = on;
      lost = refl;
      fewer = length_taken old.core.flying at event.row event.returns.there;
      waiting = refl;
      members = refl;
      rest = end_rest old.core c event.is_open event.runs here (record old.core.queue { rows = without c.place old.core.queue.rows }) mid.pool (remove old.core.flying at) step.Idle tried how;
    }))
