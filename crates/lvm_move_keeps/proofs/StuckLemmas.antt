-- Where the commit of a move isn't heard of the session is sound once its copy is closed and it is stuck.
use Rattle.std.proofs.Common.{◌≡◌, ℕ, zero, suc, ◌≤◌, ◌+◌, Bool, true, false, List, [], ◌∷◌, length, replicate, refl, sym, ap, subst, ◌∙◌, arith}
use Rattle.std.specs.Prelude.{◌==◌, Err, count_by, slice_index_or}
use Rattle.std.specs.List.{AllByRecursion}
use Rattle.std.proofs.lemmas.Bool.{ne_eqb}
use Rattle.lvm_num.specs.Buffer.{Buffer}
use Rattle.lvm_num.specs.declared.descriptor.Descriptor.{Descriptor}
use Rattle.lvm_num.specs.declared.descriptor.Mode.{Mode}
use Rattle.lvm_num.proofs.Booleans.{not_so}
use Rattle.lvm_num.proofs.Lists.{all_weaker, length_set, none_out}
use Rattle.lvm_disk.specs.Device.{Device, Flight}
use Rattle.lvm_vol.specs.declared.entry.Outcome.{Outcome}
use Rattle.lvm_vol.specs.declared.entry.Outcome.TheVariants as outcome
use Rattle.lvm_path.specs.declared.request.Phase.{Phase}
use Rattle.lvm_rec.specs.declared.homes.Homes.{Homes}
use Rattle.lvm_status.specs.Update.{Stored}
use Rattle.lvm_write.specs.Written.{IsGivenUp}
use Rattle.lvm_commit.specs.declared.commit.CommitEnd.{CommitEnd}
use Rattle.lvm_commit.specs.declared.commit.CommitEnd.TheVariants as commit_end
use Rattle.lvm_commit.specs.Settling.{DescriptorEnds}
use Rattle.lvm_core.specs.declared.fault.CommitFault.TheVariants as fault
use Rattle.lvm_core.specs.Committing.{with_one_out}
use Rattle.lvm_core.proofs.CommittingLemmas.Spanning.{path_falls}
use Rattle.lvm_session.specs.declared.bringing.OpenCopy.{OpenCopy}
use Rattle.lvm_session.specs.declared.open.Open.{Open}
use Rattle.lvm_session.specs.declared.open.Power.TheVariants as power
use Rattle.lvm_session.specs.Causes.{AreCounted, IsAnswered, IsCounted, IsLandedFor, IsTrueToOrigin}
use Rattle.lvm_session.specs.Placed.{ArePlaced}
use Rattle.lvm_session.specs.Requests.{IsOpenOne, IsPhase}
use Rattle.lvm_session.specs.Sound.{HasNoneBegun, IsFitting, IsSound, IsTold, IsUnbegun, count_if, has_number, is_hand, out_with}
use Rattle.lvm_session.specs.State.{Core, State, state}
use Rattle.lvm_session.proofs.WorkedLemmas.Whole.{held_writes_are_sound}
use Rattle.lvm_keeps.proofs.Lists.{count_cons}
use Rattle.lvm_keeps.proofs.RequestsLemmas.{if_on}
use Rattle.lvm_move.specs.Moving.{Misses, MoveEnds, Writes}
use Rattle.lvm_move_keeps.specs.Keeping.{IsDoneMoving}
use Rattle.lvm_move_keeps.specs.Stuck.{StuckMoveIsSound, StuckSessionsMayWait, stuck_session, stuck_without_copy}
use Rattle.lvm_move_keeps.specs.Waiting.{IsUnadmitted}
use Rattle.lvm_move_keeps.proofs.DrainedLemmas.{empty_held}
use Rattle.lvm_move_keeps.proofs.EndingLemmas.{IsLeftOver, counts_on, fits, landed_more, origin}
use Rattle.lvm_move_keeps.proofs.KeepingLemmas.{over}

-- what waits for admission, or has landed, hasn't begun
unbegun : (core : Core) (os : List Open) → AllByRecursion (IsOpenOne core) os → AllByRecursion IsUnadmitted os → AllByRecursion IsUnbegun os
unbegun core [] all held = tt
unbegun core (o ∷ os) all held = (one, unbegun core os all.1 held.1)
  where
    one : IsUnbegun o
    one = record {
      hand = empty_held core o all.0 held.0;
      over = all.0.over;
      waits = λ waits. let none = subst (λ (p : Phase). IsPhase p o) (held.0 waits) (all.0.waits waits).shape.phase_is in (held.0 waits, none.0, none.1);
    }

-- nor has it anything in hand
none_in_hands : (n : ℕ) (os : List Open) → AllByRecursion IsUnbegun os → count_by (λ (o : Open). is_hand n o.got) os ≡ 0
none_in_hands n [] all = refl
none_in_hands n (o ∷ os) all =
    let more = count_cons (λ (x : Open). is_hand n x.got) o os in
    let here : count_if (is_hand n o.got) ≡ 0 = ap (λ m. count_if (is_hand n m)) all.0.hand in
    let rest = none_in_hands n os all.1 in
    omega (arith, more, here, rest)

-- of a pool whose buffers are all in the first one is out, and no other
one_counted : (buf : Buffer) (pool : List Bool) (n : ℕ) → buf.number ≡ 0 → 1 ≤ length pool → pool ≡ replicate (length pool) false → count_if (has_number n buf) ≡ count_if (slice_index_or (with_one_out pool) n false)
one_counted buf [] n is some all = absurd (omega (arith, some))
one_counted buf (b ∷ rest) zero is some all = ap (λ (k : ℕ). count_if (k == 0)) is
one_counted buf (b ∷ rest) (suc n) is some all =
    ap (λ (k : ℕ). count_if (k == suc n)) is
    ∙ ap count_if (ne_eqb 0 (suc n) (λ e. absurd (omega (arith, e))))
    ∙ sym (ap count_if (ap (λ (p : List Bool). slice_index_or p (suc n) false) all ∙ none_out (length (b ∷ rest)) (suc n)))

module _ (s : State) (c : OpenCopy) (next : Descriptor) (last : Stored) (homes : Homes) (device : Device) (patience : ℕ) (sound : IsSound s) (may : IsDoneMoving s c) (is : IsLeftOver s next last device) (out : IsGivenUp 0 patience s.device device) where
  abbrev taken : List Bool
  taken = with_one_out s.core.pool

  long : length taken ≡ length s.core.pool
  long = length_set s.core.pool 0 true

  abbrev now : State
  now = state device (stuck_without_copy (record s.core { pool = taken; status = last; homes = homes }))

  fitting : IsFitting now.core
  fitting = let f = fits s c next last homes device taken sound may is long in record {
    valid = f.valid;
    id = f.id;
    rows = f.rows;
    group = f.group;
    entries = f.entries;
    notes = f.notes;
    table = f.table;
    most = f.most;
    queue = f.queue;
    a_buffer = f.a_buffer;
    buffers = f.buffers;
    last = f.last;
    room = f.room;
  }

  told : IsTold now.core
  told = let t = sound.told in record { ordered = t.ordered; table = t.table; each = t.each; requests = t.requests }

  none_begun : HasNoneBegun now.core
  none_begun = record { requests = unbegun s.core s.core.requests (sound.on may.on).going.requests may.requests; copy = tt }

  its_out : (n : ℕ) → out_with device now.core n ≡ count_if (slice_index_or taken n false)
  its_out n =
      let none = none_in_hands n s.core.requests none_begun.requests in
      let flights : count_by (λ (f : Flight). has_number n f.buf) device.flights ≡ count_by (λ (f : Flight). has_number n f.buf) (out.flight ∷ []) = ap (λ fs. count_by (λ (f : Flight). has_number n f.buf) fs) out.flights in
      let cons = count_cons (λ (f : Flight). has_number n f.buf) out.flight [] in
      let freed : count_by (has_number n) device.freed ≡ 0 = ap (λ bs. count_by (has_number n) bs) out.freed in
      let one = one_counted out.flight.buf s.core.pool n out.buffer sound.fitting.a_buffer may.buffers in
      omega (arith, none, flights, cons, freed, one)

  counted : (o : Open) → AreCounted s o → AreCounted now o
  counted o all = all_weaker (IsCounted s) (IsCounted now) (λ t one. let it = counts_on s c next last homes device taken sound may is long t one in record { began = it.began; since = it.since }) o.request.targets.items all

  answered : (o : Open) → IsAnswered s o → IsAnswered now o
  answered o why = if_on (IsLandedFor s o) (IsLandedFor now o) (λ how why_so. landed_more s c next last homes device taken sound may is long now refl refl refl o how (apart how why_so) why_so) o.landed why
    where
      apart : (how : Outcome) → IsLandedFor s o how → how ≡ outcome.Dark → ⊥
      apart how why_so same = let dark : s.core.power ≡ power.Dark = subst (IsLandedFor s o) same why_so in absurd (let no : power.On ≡ power.Dark = sym may.on ∙ dark in cc no)

  its_origin : IsTrueToOrigin now
  its_origin = let o = origin s c next last homes device taken sound may is long in record { since = o.since; votes = o.votes; rows = o.rows; still_missing = o.still_missing; missing = o.missing; stale = o.stale }

  pub stuck_keeps : IsSound now
  stuck_keeps = record {
    fitting = fitting;
    told = told;
    placed = subst (λ (sizes : List ℕ). ArePlaced sizes s.core.descriptor s.core.origin.table) (sym is.sizes) sound.placed;
    buffers = λ n. let same = its_out n in omega (arith, same);
    none_lost = λ lit n. its_out n;
    on = λ e. absurd (let none : power.Stuck ≡ power.On = e in cc none);
    lit = λ e. record { power = out.power; freed = out.freed };
    dark = λ e. not_so e;
    off = λ e. absurd (let none : power.Stuck ≡ power.Off = e in cc none);
    over = λ e. not_so e;
    stuck = λ e. none_begun;
    counted = all_weaker (AreCounted s) (AreCounted now) counted s.core.requests sound.counted;
    answered = all_weaker (IsAnswered s) (IsAnswered now) answered s.core.requests sound.answered;
    copy = tt;
    origin = its_origin;
  }

pub stuck_move_is_sound : StuckMoveIsSound
stuck_move_is_sound s c next content before after new sound may moved (Misses disk missing is same patience) = absurd (let other : Err fault.Stuck ≡ Err (fault.DiskFailed disk) = is in cc other)
stuck_move_is_sound s c next content before after new sound may moved (Writes there w) = by w.how w.ends w.goes
  where
    left : IsLeftOver s next w.last new.device
    left = over s c next content before after new sound may moved w.last w.homes w.leaves w.held (path_falls s.device new.device w.kept)

    by : (how : CommitEnd) → DescriptorEnds content 0 before s.core.status w.last s.core.homes w.homes s.device new.device how → MoveEnds next w.last w.homes s.core new.core how (Err fault.Stuck) → IsSound (state new.device (stuck_without_copy new.core))
    by (commit_end.Done buf) ends goes = absurd (cc goes.0)
    by (commit_end.WentOff have total buf) ends goes = absurd (let other : Err fault.Stuck ≡ Err (fault.WentOff have total) = goes.0 in cc other)
    by commit_end.Dark ends goes = absurd (let other : Err fault.Stuck ≡ Err fault.Dark = goes.0 in cc other)
    by commit_end.Stuck ends goes = subst (λ (core : Core). IsSound (state new.device (stuck_without_copy core))) (sym goes.1) (stuck_keeps s c next w.last w.homes new.device before sound may left ends.0)

-- ---- one that is written out

waiting_is_sound : (m : Mode) → IsSound (stuck_session m)
waiting_is_sound m = let sound = held_writes_are_sound m in record {
  fitting = let f = sound.fitting in record { valid = f.valid; id = f.id; rows = f.rows; group = f.group; entries = f.entries; notes = f.notes; table = f.table; most = f.most; queue = f.queue; a_buffer = omega arith; buffers = omega arith; last = f.last; room = f.room };
  told = let t = sound.told in record { ordered = t.ordered; table = t.table; each = t.each; requests = t.requests };
  placed = sound.placed;
  buffers = λ n. let same = one_out n in omega (arith, same);
  none_lost = λ lit n. one_out n;
  on = λ e. absurd (let none : power.Stuck ≡ power.On = e in cc none);
  lit = λ e. record { power = refl; freed = refl };
  dark = λ e. not_so e;
  off = λ e. absurd (let none : power.Stuck ≡ power.Off = e in cc none);
  over = λ e. not_so e;
  stuck = λ e. record { requests = (record { hand = refl; over = λ landed. not_so (sym landed); waits = λ waits. (refl, refl, refl) }, tt); copy = tt };
  counted = (tt, tt);
  answered = (tt, tt);
  copy = tt;
  origin = let o = sound.origin in record { since = o.since; votes = o.votes; rows = o.rows; still_missing = o.still_missing; missing = o.missing; stale = o.stale };
}
  where
    other : (k : ℕ) → (0 == suc k) ≡ false
    other k = ne_eqb 0 (suc k) (λ e. absurd (omega (arith, e)))

    one_out : (n : ℕ) → out_with (stuck_session m).device (stuck_session m).core n ≡ count_if (slice_index_or (true ∷ []) n false)
    one_out zero = refl
    one_out (suc n) = ap (λ (t : Bool). 0 + count_if t + 0 + 0) (other n)

pub stuck_sessions_may_wait : StuckSessionsMayWait
stuck_sessions_may_wait m = record { sound = waiting_is_sound m; requests = refl; waits = refl }
