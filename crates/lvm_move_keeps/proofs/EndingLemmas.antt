-- Where the commit of a move ends a session, by lost votes or a power cut, it is sound.
use Rattle.std.proofs.Common.{◌≡◌, ◌⊎◌, inl, inr, ⊎_elim, ◌&&◌, ◌||◌, ◌≤◌, ℕ, zero, suc, Bool, true, false, not, if◌then◌else◌, List, [], ◌∷◌, Some, None, length, map, refl, sym, ap, subst, ◌∙◌, arith}
use Rattle.std.specs.Prelude.{◌==◌, is_none, IfSome, IsFalse, count_by, slice_index_or}
use Rattle.std.specs.List.{list_any, AllByRecursion}
use Rattle.std.specs.Option.{option_map}
use Rattle.std.proofs.lemmas.Bool.{ne_eqb, or_right}
use Rattle.std.proofs.lemmas.List.{length-map}
use Rattle.lvm_num.specs.Buffer.{Buffer}
use Rattle.lvm_num.specs.declared.descriptor.Descriptor.{Descriptor}
use Rattle.lvm_num.specs.declared.place.Pp.{Pp}
use Rattle.lvm_num.specs.Descriptor.{IsValid, is_member}
use Rattle.lvm_num.specs.Geometry.{partition_of}
use Rattle.lvm_num.specs.Status.{calls_missing, calls_stale}
use Rattle.lvm_num.specs.Votes.{is_enough_to_write, votes_in}
use Rattle.lvm_num.proofs.Booleans.{not_so, second_with_first}
use Rattle.lvm_num.proofs.Lists.{all_weaker, length_set, none_out}
use Rattle.lvm_disk.specs.Counts.{NoneFalls, Rose}
use Rattle.lvm_disk.specs.Device.{Device, Flight, IsReady}
use Rattle.lvm_disk.proofs.CountingLemmas.{rose_after, rose_before}
use Rattle.lvm_vol.specs.declared.entry.Outcome.{Outcome}
use Rattle.lvm_vol.specs.declared.entry.Outcome.TheVariants as outcome
use Rattle.lvm_vol.specs.Facts.{Request}
use Rattle.lvm_vol.specs.Log.{got_without_bytes}
use Rattle.lvm_vol.specs.Order.{IsGotOf}
use Rattle.lvm_kept.specs.Group.{IsAlike}
use Rattle.lvm_path.specs.declared.target.Target.{Target}
use Rattle.lvm_path.specs.Asks.{at_of, lv_of}
use Rattle.lvm_path.specs.Next.{with_landing}
use Rattle.lvm_path.specs.Targets.{is_failed}
use Rattle.lvm_rec.specs.declared.homes.Homes.{Homes}
use Rattle.lvm_status.specs.Update.{Stored, members_there}
use Rattle.lvm_write.specs.Written.{IsDarkened}
use Rattle.lvm_write.proofs.NextLemmas.{copy_is_placed, is_member_of}
use Rattle.lvm_commit.specs.Settling.{HasLostQuorum, HoldsWithin, IsPassedOver, MarksLeft, OnlyLoses}
use Rattle.lvm_commit.proofs.RoundsLemmas.Wanting.{row_stays}
use Rattle.lvm_core.specs.Committing.{with_one_out}
use Rattle.lvm_session.specs.declared.bringing.OpenCopy.{OpenCopy}
use Rattle.lvm_session.specs.declared.bringing.CopyEnd.TheVariants as ending
use Rattle.lvm_session.specs.declared.flown.Flown.{Flown}
use Rattle.lvm_session.specs.declared.open.Open.{Open}
use Rattle.lvm_session.specs.declared.origin.Origin.{Origin}
use Rattle.lvm_session.specs.declared.open.Power.TheVariants as power
use Rattle.lvm_session.specs.Bringing.{with_back}
use Rattle.lvm_session.specs.Causes.{AreCounted, FailedSince, IsAnswered, IsCausedAmong, IsCounted, IsLandedFor, IsTrueToOrigin, TargetHasFailed, is_held_stale, is_over}
use Rattle.lvm_session.specs.Dark.{all_dark, all_off, ended_as, ended_copy, hand_of_copy}
use Rattle.lvm_session.specs.Enabled.{is_lost}
use Rattle.lvm_session.specs.Judging.{copies_in, is_missing, is_running, is_waiting, is_wanted_stale}
use Rattle.lvm_session.specs.Owners.{AreRows}
use Rattle.lvm_session.specs.Placed.{ArePlaced}
use Rattle.lvm_session.specs.Requests.{IsLanded, IsOpenOne}
use Rattle.lvm_session.specs.Sound.{IsFitting, IsGoing, IsSound, IsTold, count_if, has_number, is_dark, is_hand, out_with}
use Rattle.lvm_session.specs.State.{Core, State, state}
use Rattle.lvm_keeps.proofs.DarkLemmas.Ending.{back_long, copy_over, each_after, failed_before, hands_long, landed_ended, no_copy_hand, none_in_hand, ordered_after, pool_after, requests_after, table_after}
use Rattle.lvm_keeps.proofs.KeepsLemmas.Darkening.{keeps_so}
use Rattle.lvm_keeps.proofs.Lists.{all_mapped, count_cons}
use Rattle.lvm_keeps.proofs.RequestsLemmas.{if_on}
use Rattle.lvm_keeps.proofs.SoundLemmas.Fitting.{still_fits}
use Rattle.lvm_move_keeps.specs.Keeping.{IsDoneMoving}
use Rattle.lvm_move_keeps.proofs.IdleLemmas.{whole_move}

-- where nothing is out no transfer is the session's
pub none_flown : (core : Core) (rows : List Flown) (flights : List Flight) → AreRows core rows flights → flights ≡ [] → rows ≡ []
none_flown core [] flights all none = refl
none_flown core (row ∷ rows) [] all none = absurd all
none_flown core (row ∷ rows) (f ∷ flights) all none = absurd (cc none)

got_none : (r : Request) → IsGotOf r outcome.Off (got_without_bytes r outcome.Off)
got_none r = refl

-- What the records leave of a session that ends: members may be lost, and nothing else of the group changes.
pub record IsLeftOver (s : State) (next : Descriptor) (last : Stored) (device : Device) : Type 0 where
  pub valid : IsValid next
  pub alike : IsAlike next s.core.descriptor
  pub loses : OnlyLoses s.core.status last s.device device
  pub left : MarksLeft next s.core.status last
  pub held : HoldsWithin s.core.status last
  pub sizes : device.sizes ≡ s.device.sizes
  pub falls : NoneFalls s.device.counts device.counts

module _ (s : State) (c : OpenCopy) (next : Descriptor) (last : Stored) (homes : Homes) (device : Device) (pool : List Bool) (sound : IsSound s) (may : IsDoneMoving s c) (is : IsLeftOver s next last device)
    (long : length pool ≡ length s.core.pool) where
  abbrev old : Core
  old = s.core

  -- as the records leave it
  abbrev base : Core
  base = record old { pool = pool; status = last; homes = homes }

  going : IsGoing old
  going = (sound.on may.on).going

  pub fits : IsFitting base
  fits = let f = sound.fitting in record {
    valid = f.valid;
    id = is.loses.rows.id ∙ f.id;
    rows = λ disk. row_stays old.status.wanted last.wanted is.loses.rows disk ∙ f.rows disk;
    group = is.loses.group ∙ f.group;
    entries = f.entries;
    notes = f.notes;
    table = f.table;
    most = f.most;
    queue = f.queue;
    a_buffer = subst (λ n. 1 ≤ n) (sym long) f.a_buffer;
    buffers = subst (λ n. n ≤ 1024) (sym long) f.buffers;
    last = f.last;
    room = f.room;
  }

  landed : (how : Outcome) → AllByRecursion IsLanded (map (ended_as how) old.requests)
  landed how = landed_ended how old.requests (all_weaker (IsOpenOne old) (λ (o : Open). is_waiting o ≡ false → IsLanded o) (λ o it. it.over) old.requests going.requests)

  -- ---- why disks are missing and copies stale

  passed_gone : (p : Pp) → IsPassedOver next old.status last p → calls_missing last.wanted p.disk ≡ true
  passed_gone p passed = second_with_first (is_member next p.disk) (calls_missing last.wanted p.disk)
      (is_member_of next p (copy_is_placed next is.valid passed.its.row passed.its.lp p passed.its.volume passed.its.one))
      (subst (λ (g : Descriptor). IsFalse (members_there g last.wanted p.disk)) (is.loses.group ∙ sound.fitting.group ∙ sym is.alike) passed.absent)

  abbrev Why : Pp → Type 0
  Why p = (calls_stale old.origin.table p ≡ true) ⊎ (is_missing base p.disk ≡ true) ⊎ FailedSince (state device base) p.disk

  pub origin : IsTrueToOrigin (state device base)
  origin = let was = sound.origin in record {
    since = λ disk. let a = was.since disk in let b = is.falls.faults disk in omega (arith, a, b);
    votes = was.votes;
    rows = was.rows;
    still_missing = λ disk gone. is.loses.stays disk (was.still_missing disk gone);
    missing = λ disk gone. by_missing disk (calls_missing old.status.wanted disk) refl gone;
    stale = λ p now. by_stale p (either (is_held_stale base p) (is_wanted_stale base p) now);
  }
    where
      by_missing : (disk : ℕ) (b : Bool) → calls_missing old.status.wanted disk ≡ b → calls_missing last.wanted disk ≡ true → (calls_missing old.origin.table disk ≡ true) ⊎ FailedSince (state device base) disk
      by_missing disk true before gone = ⊎_elim (λ first. inl first) (λ rose. inr (rose_after rose (is.falls.faults disk))) (sound.origin.missing disk before)
      by_missing disk false before gone = inr (rose_before (sound.origin.since disk) (is.loses.lost disk gone before).1)

      either : (a b : Bool) → a || b ≡ true → (a ≡ true) ⊎ (b ≡ true)
      either true b e = inl refl
      either false b e = inr e

      before : (p : Pp) → is_held_stale old p || is_wanted_stale old p ≡ true → Why p
      before p was = ⊎_elim (λ first. inl first)
          (λ (rest : (is_missing old p.disk ≡ true) ⊎ FailedSince s p.disk). ⊎_elim (λ gone. inr (inl (is.loses.stays p.disk gone))) (λ rose. inr (inr (rose_after rose (is.falls.faults p.disk)))) rest)
          (sound.origin.stale p was)

      wanted : (p : Pp) → calls_stale last.wanted p ≡ true → Why p
      wanted p now = ⊎_elim
          (λ (was : calls_stale old.status.wanted p ≡ true). before p (or_right (is_held_stale old p) (is_wanted_stale old p) was))
          (λ (passed : IsPassedOver next old.status last p). inr (inl (passed_gone p passed)))
          (is.left.only p now)

      held_before : (a b : Bool) → a ≡ true → a || b ≡ true
      held_before a b e = ap (λ x. x || b) e

      by_stale : (p : Pp) → (is_held_stale base p ≡ true) ⊎ (is_wanted_stale base p ≡ true) → Why p
      by_stale p (inl held) = ⊎_elim (λ was. before p (held_before (is_held_stale old p) (is_wanted_stale old p) was)) (wanted p) (is.held p held)
      by_stale p (inr now) = wanted p now

  -- ---- why requests landed, and the copy

  target_on : (t : Target) → TargetHasFailed s.device t → TargetHasFailed device t
  target_on t rose = rose_after rose (is.falls.faults t.pp.disk)

  pub counts_on : (t : Target) → IsCounted s t → IsCounted (state device base) t
  counts_on t one = record { began = one.began; since = let a = one.since in let b = is.falls.faults t.pp.disk in omega (arith, a, b) }

  -- the copy hadn't ended
  unended : is_running c ≡ true
  unended = (whole_move old c may.done).runs

  not_failed : {X : Type 0} → c.end ≡ Some ending.SyncFailed → X
  not_failed e = not_so (sym (ap is_none e) ∙ unended)

  its_cause : IsCausedAmong s (copies_in old.descriptor c.lv c.lp) c
  its_cause = subst (λ m. IfSome m (λ (k : OpenCopy). IsCausedAmong s (copies_in old.descriptor k.lv k.lp) k)) may.is_open sound.copy

  cause_on : IsCausedAmong (state device base) (copies_in old.descriptor c.lv c.lp) (ended_copy c)
  cause_on = record {
    began = its_cause.began;
    since = λ number p at. let a = its_cause.since number p at in let b = is.falls.faults p.disk in omega (arith, a, b);
    tried = λ number p at tried. rose_after (its_cause.tried number p at tried) (is.falls.faults p.disk);
    own_began = its_cause.own_began;
    own_since = let a = its_cause.own_since in let b = is.falls.faults c.pp.disk in omega (arith, a, b);
    failed = λ e. not_failed (failed_before c.end e);
  }

  pub landed_more : (now : State) → now.device ≡ device → now.core.descriptor ≡ old.descriptor → now.core.origin ≡ old.origin → (o : Open) (how : Outcome) → (how ≡ outcome.Dark → ⊥) → IsLandedFor s o how → IsLandedFor now o how
  landed_more now at group first o outcome.Done apart why = tt
  landed_more now at group first o outcome.Got apart why = tt
  landed_more now at group first o outcome.Lost apart why = (
    why.0,
    subst (λ (d : Device). AllByRecursion (λ (t : Target). t.usable ≡ true → TargetHasFailed d t) o.request.targets.items) (sym at)
        (all_weaker (λ (t : Target). t.usable ≡ true → TargetHasFailed s.device t) (λ (t : Target). t.usable ≡ true → TargetHasFailed device t) (λ t each usable. target_on t (each usable)) o.request.targets.items why.1),
  )
  landed_more now at group first o outcome.ReadFailed apart why = (
    why.0,
    subst (λ (d : Device). AllByRecursion (λ (t : Target). (is_failed t.state ≡ true) × TargetHasFailed d t) o.request.targets.items) (sym at)
        (all_weaker (λ (t : Target). (is_failed t.state ≡ true) × TargetHasFailed s.device t) (λ (t : Target). (is_failed t.state ≡ true) × TargetHasFailed device t) (λ t each. (each.0, target_on t each.1)) o.request.targets.items why.1),
  )
  landed_more now at group first o outcome.NoFresh apart (inl some) = inl (some.0, subst (λ (g : Origin). Rose (slice_index_or g.faults some.0 0) (now.device.counts.faults some.0)) (sym first) (subst (λ (d : Device). Rose (slice_index_or old.origin.faults some.0 0) (d.counts.faults some.0)) (sym at) (rose_after some.1 (is.falls.faults some.0))))
  landed_more now at group first o outcome.NoFresh apart (inr none) = inr (
      ap (λ (g : Origin). list_any (λ (p : Pp). not (calls_stale g.table p) && not (calls_missing g.table p.disk)) (copies_in now.core.descriptor (lv_of o.request.ask) (partition_of now.core.descriptor.mib (at_of o.request.ask)))) first
      ∙ ap (λ (d : Descriptor). list_any (λ (p : Pp). not (calls_stale old.origin.table p) && not (calls_missing old.origin.table p.disk)) (copies_in d (lv_of o.request.ask) (partition_of d.mib (at_of o.request.ask)))) group ∙ none)
  landed_more now at group first o outcome.Off apart why = not_so (sym (ap is_over may.on) ∙ why.0)
  landed_more now at group first o outcome.Dark apart why = absurd (apart refl)

  -- ---- buffers

  not_dark : is_dark old.power ≡ false
  not_dark = ap is_dark may.on

  module _ (n : ℕ) where
    no_flight_before : count_by (λ (f : Flight). has_number n f.buf) s.device.flights ≡ 0
    no_flight_before = ap (λ (fs : List Flight). count_by (λ (f : Flight). has_number n f.buf) fs) may.idle

    none_freed_before : count_by (has_number n) s.device.freed ≡ 0
    none_freed_before = ap (λ (bs : List Buffer). count_by (has_number n) bs) (sound.lit not_dark).freed

-- ---- the votes are lost

module _ (s : State) (c : OpenCopy) (next : Descriptor) (last : Stored) (homes : Homes) (device : Device) (have total : ℕ) (sound : IsSound s) (may : IsDoneMoving s c) (is : IsLeftOver s next last device)
    (ready : IsReady device) (lost : HasLostQuorum s.core.status last s.device device have total) where
  abbrev of_base : Core
  of_base = record s.core { status = last; homes = homes }

  abbrev off : State
  off = state device (all_off of_base)

  off_fits : IsFitting off.core
  off_fits = let f = fits s c next last homes device s.core.pool sound may is refl in
      still_fits of_base off.core f refl f.entries (λ disk. refl) (subst (λ n. n ≤ s.core.most) (sym (length-map s.core.requests (ended_as outcome.Off))) f.table)
      (hands_long s.core.requests (with_back s.core.pool (hand_of_copy s.core.copy)) ∙ back_long s.core.pool (hand_of_copy s.core.copy)) f.room

  off_told : IsTold off.core
  off_told = let t = sound.told in record {
    ordered = ordered_after outcome.Off s.core.history.run got_none s.core.history.facts s.core.requests t.ordered t.table t.each t.requests;
    table = table_after outcome.Off s.core.history.run got_none s.core.history.facts s.core.requests t.ordered t.table t.each t.requests;
    each = each_after outcome.Off s.core.history.run got_none s.core.history.facts s.core.requests t.ordered t.table t.each t.requests;
    requests = requests_after outcome.Off s.core.history.run got_none s.core.history.facts s.core.requests t.ordered t.table t.each t.requests;
  }

  off_landed : AllByRecursion IsLanded off.core.requests
  off_landed = landed s c next last homes device s.core.pool sound may is refl outcome.Off

  off_out : (n : ℕ) → out_with device off.core n ≡ count_if (slice_index_or off.core.pool n false)
  off_out n =
      let was = sound.none_lost (not_dark s c next last homes device s.core.pool sound may is refl) n in
      let back = pool_after s.core n (omega (arith, was)) in
      let none = none_in_hand off.core.requests n off_landed in
      let hand : count_if (is_hand n (hand_of_copy off.core.copy)) ≡ 0 = ap (λ h. count_if (is_hand n h)) (no_copy_hand s.core.copy) in
      let x = no_flight_before s c next last homes device s.core.pool sound may is refl n in
      let y = none_freed_before s c next last homes device s.core.pool sound may is refl n in
      let a : count_by (λ (f : Flight). has_number n f.buf) device.flights ≡ 0 = ap (λ (fs : List Flight). count_by (λ (f : Flight). has_number n f.buf) fs) ready.flights in
      let b : count_by (has_number n) device.freed ≡ 0 = ap (λ (bs : List Buffer). count_by (has_number n) bs) ready.freed in
      omega (arith, was, back, none, hand, x, y, a, b)

  off_lost : is_lost off.core ≡ true
  off_lost = ap not (subst (λ (g : Descriptor). is_enough_to_write g (votes_in g (members_there g last.wanted)) ≡ false) (is.loses.group ∙ sound.fitting.group) (ap (is_enough_to_write last.group) (sym lost.have_is) ∙ lost.few))

  off_answered : (o : Open) → IsAnswered s o → IsAnswered off (ended_as outcome.Off o)
  off_answered o why = by (is_waiting o)
    where
      apart : (how : Outcome) → IsLandedFor s o how → how ≡ outcome.Dark → ⊥
      apart how why_so same = let dark : s.core.power ≡ power.Dark = subst (IsLandedFor s o) same why_so in absurd (let no : power.On ≡ power.Dark = sym may.on ∙ dark in cc no)

      by : (b : Bool) → IsAnswered off (if b then record o { request = with_landing o.request; got = None; landed = Some outcome.Off } else o)
      by true = (refl, off_lost)
      by false = if_on (IsLandedFor s o) (IsLandedFor off o) (λ how why_so. landed_more s c next last homes device s.core.pool sound may is refl off refl refl refl o how (apart how why_so) why_so) o.landed why

  off_counted : (o : Open) → AreCounted s o → AreCounted off (ended_as outcome.Off o)
  off_counted o all = by (is_waiting o)
    where
      each : AllByRecursion (IsCounted off) o.request.targets.items
      each = all_weaker (IsCounted s) (IsCounted off) (λ t one. let it = counts_on s c next last homes device s.core.pool sound may is refl t one in record { began = it.began; since = it.since }) o.request.targets.items all

      by : (b : Bool) → AreCounted off (if b then record o { request = with_landing o.request; got = None; landed = Some outcome.Off } else o)
      by true = each
      by false = each

  off_copy : IfSome (option_map ended_copy s.core.copy) (λ (k : OpenCopy). IsCausedAmong off (copies_in s.core.descriptor k.lv k.lp) k)
  off_copy = let it = cause_on s c next last homes device s.core.pool sound may is refl in
      subst (λ m. IfSome (option_map ended_copy m) (λ (k : OpenCopy). IsCausedAmong off (copies_in s.core.descriptor k.lv k.lp) k)) (sym may.is_open)
      (record { began = it.began; since = it.since; tried = it.tried; own_began = it.own_began; own_since = it.own_since; failed = λ e. not_failed s c next last homes device s.core.pool sound may is refl (failed_before c.end e) })

  off_origin : IsTrueToOrigin off
  off_origin = let o = origin s c next last homes device s.core.pool sound may is refl in record { since = o.since; votes = o.votes; rows = o.rows; still_missing = o.still_missing; missing = o.missing; stale = o.stale }

  pub off_keeps : IsSound off
  off_keeps = record {
    fitting = off_fits;
    told = off_told;
    placed = subst (λ (sizes : List ℕ). ArePlaced sizes s.core.descriptor s.core.origin.table) (sym is.sizes) sound.placed;
    buffers = λ n. let same = off_out n in omega (arith, same);
    none_lost = λ e n. off_out n;
    on = λ e. absurd (let none : power.Off ≡ power.On = e in cc none);
    lit = λ e. record { power = ready.power; freed = ready.freed };
    dark = λ e. not_so e;
    off = λ e. off_lost;
    over = λ e. record { landed = off_landed; copy = copy_over s.core.copy; flights = ready.flights; flying = none_flown s.core s.core.flying s.device.flights (sound.on may.on).rows may.idle };
    stuck = λ e. absurd (let none : power.Off ≡ power.Stuck = e in cc none);
    counted = all_mapped (AreCounted s) (AreCounted off) (ended_as outcome.Off) off_counted s.core.requests sound.counted;
    answered = all_mapped (IsAnswered s) (IsAnswered off) (ended_as outcome.Off) off_answered s.core.requests sound.answered;
    copy = off_copy;
    origin = off_origin;
  }

-- ---- the power is cut

one_at_most : (x : Bool) → count_if x ≤ 1
one_at_most true = omega arith
one_at_most false = omega arith

-- where nothing is out a buffer may be
one_out : (pool : List Bool) (n : ℕ) (freed : List Buffer) → 1 ≤ length pool → (freed ≡ []) ⊎ ((buf : Buffer) × (freed ≡ buf ∷ []) × (buf.number ≡ 0)) → count_by (has_number n) freed ≤ count_if (slice_index_or (with_one_out pool) n false)
one_out pool n freed some (inl none) = let a : count_by (has_number n) freed ≡ 0 = ap (count_by (has_number n)) none in omega (arith, a)
one_out [] n freed some (inr one) = absurd (omega (arith, some))
one_out (b ∷ pool) zero freed some (inr one) =
    let a : count_by (has_number zero) freed ≡ count_by (has_number zero) (one.0 ∷ []) = ap (count_by (has_number zero)) one.1 in
    let cons = count_cons (has_number zero) one.0 [] in
    let few = one_at_most (one.0.number == zero) in
    let out : count_if (slice_index_or (with_one_out (b ∷ pool)) zero false) ≡ 1 = refl in
    omega (arith, a, cons, few, out)
one_out (b ∷ pool) (suc n) freed some (inr one) =
    let a : count_by (has_number (suc n)) freed ≡ count_by (has_number (suc n)) (one.0 ∷ []) = ap (count_by (has_number (suc n))) one.1 in
    let cons = count_cons (has_number (suc n)) one.0 [] in
    let none : count_if (one.0.number == suc n) ≡ 0 = ap (λ (k : ℕ). count_if (k == suc n)) one.2 ∙ ap count_if (ne_eqb 0 (suc n) (λ e. absurd (omega (arith, e)))) in
    omega (arith, a, cons, none)

module _ (s : State) (c : OpenCopy) (next : Descriptor) (last : Stored) (homes : Homes) (device : Device) (sound : IsSound s) (may : IsDoneMoving s c) (is : IsLeftOver s next last device) (cut : IsDarkened 0 s.device device) where
  abbrev taken : List Bool
  taken = with_one_out s.core.pool

  long : length taken ≡ length s.core.pool
  long = length_set s.core.pool 0 true

  abbrev cut_base : Core
  cut_base = record s.core { pool = taken; status = last; homes = homes }

  abbrev dark : State
  dark = state device (all_dark cut_base)

  -- what the history tells of a session whose power is cut
  as_cut : IsSound (state (record s.device { media = None; flights = []; freed = []; power = false; counts = record s.device.counts { cuts = 0 } }) (all_dark (record s.core { status = s.core.status; cache = s.core.cache })))
  as_cut = keeps_so s sound None [] 0
      (λ n. let x = no_flight_before s c next last homes device s.core.pool sound may is refl n in let y = none_freed_before s c next last homes device s.core.pool sound may is refl n in omega (arith, x, y))
      s.core.status (record { group = refl; committed = refl; wanted = refl; in_flight = inl refl; stamp = inl refl }) s.core.cache refl (λ disk. refl)

  dark_fits : IsFitting dark.core
  dark_fits = let f = fits s c next last homes device taken sound may is long in
      still_fits cut_base dark.core f refl f.entries (λ disk. refl) (subst (λ n. n ≤ s.core.most) (sym (length-map s.core.requests (ended_as outcome.Dark))) f.table)
      (hands_long s.core.requests (with_back taken (hand_of_copy s.core.copy)) ∙ back_long taken (hand_of_copy s.core.copy)) as_cut.fitting.room

  dark_told : IsTold dark.core
  dark_told = let t = as_cut.told in record { ordered = t.ordered; table = t.table; each = t.each; requests = t.requests }

  dark_landed : AllByRecursion IsLanded dark.core.requests
  dark_landed = landed s c next last homes device taken sound may is long outcome.Dark

  dark_out : (n : ℕ) → out_with device dark.core n ≤ count_if (slice_index_or dark.core.pool n false)
  dark_out n =
      let was = sound.none_lost (not_dark s c next last homes device s.core.pool sound may is refl) n in
      let in_pool : count_if (slice_index_or s.core.pool n false) ≡ 0 = ap (λ (p : List Bool). count_if (slice_index_or p n false)) may.buffers ∙ ap count_if (none_out (length s.core.pool) n) in
      let back = pool_after cut_base n (omega (arith, was, in_pool)) in
      let none = none_in_hand dark.core.requests n dark_landed in
      let hand : count_if (is_hand n (hand_of_copy dark.core.copy)) ≡ 0 = ap (λ h. count_if (is_hand n h)) (no_copy_hand s.core.copy) in
      let a : count_by (λ (f : Flight). has_number n f.buf) device.flights ≡ 0 = ap (λ (fs : List Flight). count_by (λ (f : Flight). has_number n f.buf) fs) cut.flights in
      let b = one_out s.core.pool n device.freed sound.fitting.a_buffer cut.freed in
      omega (arith, was, in_pool, back, none, hand, a, b)

  dark_answered : (o : Open) → IsAnswered s o → IsAnswered dark (ended_as outcome.Dark o)
  dark_answered o why = by (is_waiting o)
    where
      apart : (how : Outcome) → IsLandedFor s o how → how ≡ outcome.Dark → ⊥
      apart how why_so same = let is_dark_now : s.core.power ≡ power.Dark = subst (IsLandedFor s o) same why_so in absurd (let no : power.On ≡ power.Dark = sym may.on ∙ is_dark_now in cc no)

      by : (b : Bool) → IsAnswered dark (if b then record o { request = with_landing o.request; got = None; landed = Some outcome.Dark } else o)
      by true = refl
      by false = if_on (IsLandedFor s o) (IsLandedFor dark o) (λ how why_so. landed_more s c next last homes device taken sound may is long dark refl refl refl o how (apart how why_so) why_so) o.landed why

  dark_counted : (o : Open) → AreCounted s o → AreCounted dark (ended_as outcome.Dark o)
  dark_counted o all = by (is_waiting o)
    where
      each : AllByRecursion (IsCounted dark) o.request.targets.items
      each = all_weaker (IsCounted s) (IsCounted dark) (λ t one. let it = counts_on s c next last homes device taken sound may is long t one in record { began = it.began; since = it.since }) o.request.targets.items all

      by : (b : Bool) → AreCounted dark (if b then record o { request = with_landing o.request; got = None; landed = Some outcome.Dark } else o)
      by true = each
      by false = each

  dark_copy : IfSome (option_map ended_copy s.core.copy) (λ (k : OpenCopy). IsCausedAmong dark (copies_in s.core.descriptor k.lv k.lp) k)
  dark_copy = let it = cause_on s c next last homes device taken sound may is long in
      subst (λ m. IfSome (option_map ended_copy m) (λ (k : OpenCopy). IsCausedAmong dark (copies_in s.core.descriptor k.lv k.lp) k)) (sym may.is_open)
      (record { began = it.began; since = it.since; tried = it.tried; own_began = it.own_began; own_since = it.own_since; failed = λ e. not_failed s c next last homes device taken sound may is long (failed_before c.end e) })

  dark_origin : IsTrueToOrigin dark
  dark_origin = let o = origin s c next last homes device taken sound may is long in record { since = o.since; votes = o.votes; rows = o.rows; still_missing = o.still_missing; missing = o.missing; stale = o.stale }

  pub dark_keeps : IsSound dark
  dark_keeps = record {
    fitting = dark_fits;
    told = dark_told;
    placed = subst (λ (sizes : List ℕ). ArePlaced sizes s.core.descriptor s.core.origin.table) (sym is.sizes) sound.placed;
    buffers = dark_out;
    none_lost = λ e. not_so (sym e);
    on = λ e. absurd (let none : power.Dark ≡ power.On = e in cc none);
    lit = λ e. not_so (sym e);
    dark = λ e. record { power = cut.power; flights = cut.flights };
    off = λ e. absurd (let none : power.Dark ≡ power.Off = e in cc none);
    over = λ e. record { landed = dark_landed; copy = copy_over s.core.copy; flights = cut.flights; flying = refl };
    stuck = λ e. absurd (let none : power.Dark ≡ power.Stuck = e in cc none);
    counted = all_mapped (AreCounted s) (AreCounted dark) (ended_as outcome.Dark) dark_counted s.core.requests sound.counted;
    answered = all_mapped (IsAnswered s) (IsAnswered dark) (ended_as outcome.Dark) dark_answered s.core.requests sound.answered;
    copy = dark_copy;
    origin = dark_origin;
  }
