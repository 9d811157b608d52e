-- The review after the end of a write: what missing disks leave behind is wanted stale, and the copy that is open may end.
use Rattle.std.proofs.Common.{◌≡◌, ◌⊎◌, inl, inr, ◌==◌, ℕ, Bool, true, false, ◌&&◌, ◌||◌, not, if◌then◌else◌, List, [], Option, Some, None, slice_get, refl, sym, ◌∙◌, ap, subst}
use Rattle.std.specs.Prelude.{IfSome, unwrap_or}
use Rattle.std.specs.List.{list_any, range_with_len}
use Rattle.std.specs.Option.{option_map_or}
use Rattle.std.proofs.lemmas.Map.Keys.{any_passes_from_place}
use Rattle.std.proofs.lemmas.Bool.{or_left}
use Rattle.lvm_num.specs.declared.descriptor.LvRow.{LvRow}
use Rattle.lvm_num.specs.declared.place.Pp.{Pp}
use Rattle.lvm_num.specs.declared.status.Status.{Status}
use Rattle.lvm_num.specs.Descriptor.{copies_of, is_pp, IsValid}
use Rattle.lvm_num.specs.Status.{calls_missing, calls_stale}
use Rattle.lvm_num.proofs.Booleans.{not_so}
use Rattle.lvm_hold.specs.Waiting.{Waiting}
use Rattle.lvm_mwc.specs.declared.notes.DiskNotes.{DiskNotes}
use Rattle.lvm_status.specs.Update.{Stored, Updates}
use Rattle.lvm_rec.specs.declared.homes.Homes.{Homes}
use Rattle.lvm_session.specs.declared.bringing.CopyEnd.{CopyEnd}
use Rattle.lvm_session.specs.declared.bringing.CopyEnd.TheVariants as ending
use Rattle.lvm_session.specs.declared.bringing.OpenCopy.{OpenCopy}
use Rattle.lvm_session.specs.declared.flown.Flown.{Flown}
use Rattle.lvm_session.specs.State.{Core}
use Rattle.lvm_session.specs.Judging.{copies_in, is_missing, is_running, is_settled, is_stale, is_sure, is_usable, is_wanted_stale, stays_fresh}
use Rattle.lvm_session.specs.Bringing.{copy_ends, end_by_sources, end_of, ends_if, is_cleared, is_done_end, is_whole, marked_by_end}
use Rattle.lvm_session.specs.Marks.{WantsStale, can_replace, is_among, is_entailed, is_entailed_in, is_left_behind}
use Rattle.lvm_session.specs.Causes.{is_held_stale, was_fresh}
use Rattle.lvm_session.specs.Sound.{IsCopy, IsGoing, IsMove, is_clearing, may_be_fresh}
use Rattle.lvm_session.proofs.MovesLemmas.{move_of, stale_of}
use Rattle.lvm_keeps.proofs.CacheLemmas.{no_copy}
use Rattle.lvm_keeps.proofs.KeepsLemmas.Landing.{or_parts}
use Rattle.lvm_keeps.proofs.Small.{both, is_false}
use Rattle.lvm_keeps_events.proofs.EndsLemmas.CopyReadFail.{is_here, pp_is}
use Rattle.lvm_keeps_events.proofs.OnePlace.{one_lp}
use Rattle.lvm_keeps_events.proofs.Finding.{any_on, found, row_found}
use Rattle.lvm_keeps_events.proofs.CallsLemmas.{Follows, Loses, in_flight_of}
use Rattle.lvm_keeps_events.proofs.JudgingLemmas.DuesMarks.{own_pp}
pub use Rattle.std.proofs.lemmas.Bool.{and_from as and_of, or_right}

-- ---- what has ended

-- A session that goes on, and what the end of a write changes of it before the review.
pub record WriteEnd : Type 0 where
  pub core : Core
  pub going : IsGoing core
  pub disk : ℕ
  pub next : Stored
  pub follows : Follows core disk next
  pub flying : List Flown
  pub pool : List Bool
  pub notes : List DiskNotes
  pub homes : Homes

-- the session between the end and its review
abbrev pub mid : WriteEnd → Core
mid e = record e.core { flying = e.flying; pool = e.pool; status = e.next; cache = record e.core.cache { notes = e.notes }; homes = e.homes }

-- what the review wants stale
abbrev pub due : WriteEnd → Pp → Bool
due e p = is_entailed (mid e) p || marked_by_end (mid e) (copy_ends (mid e)) p

-- What the review leaves of the status, the hold queue, the copy and the pool.
pub record Reviewed (e : WriteEnd) : Type 0 where
  pub status : Stored
  pub marks : WantsStale (due e) e.next status
  pub queue : Waiting
  pub copy : Option OpenCopy
  pub pool : List Bool

-- the session after the review
abbrev pub now : (e : WriteEnd) → Reviewed e → Core
now e r = record e.core { flying = e.flying; pool = r.pool; status = r.status; cache = record e.core.cache { notes = e.notes }; homes = e.homes; queue = r.queue; copy = r.copy }

-- ---- tests

or_self : (b : Bool) → b || b ≡ true → b ≡ true
or_self true e = refl
or_self false e = e

three : (a b c : Bool) → a || (b || c) ≡ true → (a ≡ true) ⊎ ((b ≡ true) ⊎ (c ≡ true))
three true b c e = inl refl
three false true c e = inr (inl refl)
three false false c e = inr (inr e)

may_by : (f s w t v : Bool) → (s ≡ true → t ≡ true) → (w ≡ true → v ≡ true) → f || not (t && v) ≡ true → f || not (s && w) ≡ true
may_by true s w t v on more e = refl
may_by false true true t v on more e = not_so (sym (ap not (and_of t v (on refl) (more refl))) ∙ e)
may_by false true false t v on more e = refl
may_by false false w t v on more e = refl

-- ---- the copy that is to be cleared

pub record Clears (core : Core) (p : Pp) : Type 0 where
  pub copy : OpenCopy
  pub is_open : core.copy ≡ Some copy
  pub runs : is_running copy ≡ true
  pub whole : is_whole core copy ≡ true
  pub its : copy.pp ≡ p

clears : (core : Core) (p : Pp) → is_clearing core p ≡ true → Clears core p
clears core p is = by core.copy refl is
  where
    by : (m : Option OpenCopy) → core.copy ≡ m → option_map_or (λ (c : OpenCopy). is_running c && is_whole core c && is_pp p c.pp) m false ≡ true → Clears core p
    by None none e = not_so e
    by (Some c) is_open e =
        let parts = both (is_running c && is_whole core c) (is_pp p c.pp) e in
        let more = both (is_running c) (is_whole core c) parts.0 in
        record { copy = c; is_open = is_open; runs = more.0; whole = more.1; its = pp_is p c.pp parts.1 }

-- one that ends otherwise than as done, though it is whole, is on a missing disk
is_undone : (core : Core) (c : OpenCopy) (how : CopyEnd) → is_whole core c ≡ true → end_of core c ≡ Some how → not (is_done_end how) ≡ true → (is_running c ≡ true) × (is_missing core c.pp.disk ≡ true)
is_undone core c how whole ends undone = by (is_running c) (is_missing core c.pp.disk) (is_whole core c) (is_cleared core c) refl refl whole ends
  where
    by : (a b w d : Bool) → is_running c ≡ a → is_missing core c.pp.disk ≡ b → w ≡ true → (if not a then None else if b then Some ending.SyncFailed else if w then ends_if d ending.Done else end_by_sources core c) ≡ Some how
        → (is_running c ≡ true) × (is_missing core c.pp.disk ≡ true)
    by false b w d i j k e = absurd (cc e)
    by true true w d i j k e = (i, j)
    by true false false d i j k e = not_so k
    by true false true true i j k e = let same : ending.Done ≡ how = cc e in not_so (ap (λ h. not (is_done_end h)) same ∙ undone)
    by true false true false i j k e = absurd (cc e)

-- one that is whole and doesn't end isn't cleared
pub not_cleared : (core : Core) (c : OpenCopy) → is_running c ≡ true → is_whole core c ≡ true → end_of core c ≡ None → is_cleared core c ≡ false
not_cleared core c runs whole still = by (is_running c) (is_missing core c.pp.disk) (is_whole core c) (is_cleared core c) runs whole still
  where
    by : (a b w d : Bool) → a ≡ true → w ≡ true → (if not a then None else if b then Some ending.SyncFailed else if w then ends_if d ending.Done else end_by_sources core c) ≡ None → d ≡ false
    by false b w d i k e = not_so i
    by true true w d i k e = absurd (cc e)
    by true false false d i k e = not_so k
    by true false true true i k e = absurd (cc e)
    by true false true false i k e = refl

-- ---- what missing disks leave behind

pub record IsLeft (core : Core) (p : Pp) : Type 0 where
  pub row : LvRow
  pub place : ℕ
  pub there : slice_get core.descriptor.lvs place ≡ Some row
  pub lp : ℕ
  pub among : is_among (copies_of row lp) p ≡ true
  pub fresh : is_stale core p ≡ false
  pub gone : is_missing core p.disk ≡ true
  pub other : list_any (can_replace core) (copies_of row lp) ≡ true

pub left_behind : (core : Core) (p : Pp) → is_entailed core p ≡ true → IsLeft core p
left_behind core p is =
    let row = found (λ (r : LvRow). is_entailed_in core r p) core.descriptor.lvs is in
    let lp = found (λ (n : ℕ). is_left_behind core (copies_of row.0 n) p) (range_with_len 0 row.0.lps) row.3 in
    let a = both (is_among (copies_of row.0 lp.0) p && not (is_stale core p) && is_missing core p.disk) (list_any (can_replace core) (copies_of row.0 lp.0)) lp.3 in
    let b = both (is_among (copies_of row.0 lp.0) p && not (is_stale core p)) (is_missing core p.disk) a.0 in
    let c = both (is_among (copies_of row.0 lp.0) p) (not (is_stale core p)) b.0 in
    record { row = row.0; place = row.1; there = row.2; lp = lp.0; among = c.0; fresh = is_false (is_stale core p) c.1; gone = b.1; other = a.1 }

-- it is a copy of some logical partition
pub record IsCopyIn (core : Core) (p : Pp) : Type 0 where
  pub lv : ℕ
  pub lp : ℕ
  pub among : is_among (copies_in core.descriptor lv lp) p ≡ true

-- so it is in another session of the same volumes
pub entailed_on : (one two : Core) (p : Pp) → IsValid one.descriptor → one.descriptor ≡ two.descriptor → (is_stale one p ≡ false → is_stale two p ≡ false) → (is_missing one p.disk ≡ true → is_missing two p.disk ≡ true)
    → ((q : Pp) → IsCopyIn one q → can_replace one q ≡ true → can_replace two q ≡ true) → is_entailed one p ≡ true → is_entailed two p ≡ true
entailed_on one two p valid same fresh gone replaces is = subst (λ d. list_any (λ (r : LvRow). is_entailed_in two r p) d.lvs ≡ true) same
    (any_passes_from_place (λ (r : LvRow). is_entailed_in two r p) one.descriptor.lvs in_row.1 in_row.0 in_row.2
    (any_on (λ (lp : ℕ). is_left_behind one (copies_of row lp) p) (λ (lp : ℕ). is_left_behind two (copies_of row lp) p) on (range_with_len 0 row.lps) in_row.3))
  where
    in_row : (r : LvRow) × (k : ℕ) × (slice_get one.descriptor.lvs k ≡ Some r) × (is_entailed_in one r p ≡ true)
    in_row = found (λ (r : LvRow). is_entailed_in one r p) one.descriptor.lvs is

    row : LvRow
    row = in_row.0

    its : (lp : ℕ) → copies_in one.descriptor row.number lp ≡ copies_of row lp
    its lp = ap (λ m. option_map_or (λ (r : LvRow). copies_of r lp) m []) (row_found one.descriptor.lvs in_row.1 row valid.volumes.numbers_rise in_row.2)

    on : (lp : ℕ) → is_left_behind one (copies_of row lp) p ≡ true → is_left_behind two (copies_of row lp) p ≡ true
    on lp e =
        let a = both (is_among (copies_of row lp) p && not (is_stale one p) && is_missing one p.disk) (list_any (can_replace one) (copies_of row lp)) e in
        let b = both (is_among (copies_of row lp) p && not (is_stale one p)) (is_missing one p.disk) a.0 in
        let c = both (is_among (copies_of row lp) p) (not (is_stale one p)) b.0 in
        let other = found (can_replace one) (copies_of row lp) a.1 in
        let copy : IsCopyIn one other.0 = record { lv = row.number; lp = lp; among = ap (λ ps. is_among ps other.0) (its lp) ∙ any_passes_from_place (is_pp other.0) (copies_of row lp) other.1 other.0 other.2 (own_pp other.0) } in
        and_of (is_among (copies_of row lp) p && not (is_stale two p) && is_missing two p.disk) (list_any (can_replace two) (copies_of row lp))
        (and_of (is_among (copies_of row lp) p && not (is_stale two p)) (is_missing two p.disk) (and_of (is_among (copies_of row lp) p) (not (is_stale two p)) c.0 (ap not (fresh (is_false (is_stale one p) c.1)))) (gone b.1))
        (any_passes_from_place (can_replace two) (copies_of row lp) other.1 other.0 other.2 (replaces other.0 copy other.3))

-- ---- before the review

module _ (e : WriteEnd) where
  abbrev core : Core
  core = e.core

  pub its_copy : (c : OpenCopy) → core.copy ≡ Some c → IsCopy core c
  its_copy c is = subst (λ m. IfSome m (IsCopy core)) is e.going.copy

  -- a copy that is brought up is on a disk that is there, and stale
  pub here : (c : OpenCopy) → core.copy ≡ Some c → is_running c ≡ true → is_missing core c.pp.disk ≡ false
  here c is runs = is_here core c runs (sym (ap (λ m. option_map_or (end_of core) m None) is) ∙ e.going.reviewed)

  -- what is open on a copy of a logical partition brings it up, and doesn't move
  pub brings : (c : OpenCopy) → core.copy ≡ Some c → IsCopyIn core c.pp → c.moves ≡ false
  brings c is copy = by c.moves refl
    where
      by : (b : Bool) → c.moves ≡ b → c.moves ≡ false
      by false e = e
      by true e = not_so (sym (no_copy core.descriptor copy.lv copy.lp c.pp (move_of core c (its_copy c is) e).free) ∙ copy.among)

  pub brings_it : (p : Pp) → IsCopyIn core p → (c : Clears core p) → c.copy.moves ≡ false
  brings_it p copy c = brings c.copy c.is_open (record { lv = copy.lv; lp = copy.lp; among = ap (is_among (copies_in core.descriptor copy.lv copy.lp)) c.its ∙ copy.among })

  pub behind : (c : OpenCopy) → core.copy ≡ Some c → c.moves ≡ false → is_running c ≡ true → is_stale core c.pp ≡ true
  behind c is still runs = by (is_whole core c) refl
    where
      by : (b : Bool) → is_whole core c ≡ b → is_stale core c.pp ≡ true
      by true whole = ((stale_of core c (its_copy c is) still).clearing runs whole).0
      by false short = (both (is_stale core c.pp) (calls_stale (in_flight_of core) c.pp) ((stale_of core c (its_copy c is) still).stale runs short).0).0

  pub to_be_cleared : (p : Pp) → is_held_stale core p ≡ true → is_wanted_stale core p ≡ false → Clears core p
  to_be_cleared p held clear = clears core p (e.going.clearings p held clear)

  -- what is stale by what was committed, and not wanted so, is to be cleared
  pub newly : (p : Pp) → is_stale core p ≡ true → is_wanted_stale core p ≡ false → Clears core p
  newly p stale clear = to_be_cleared p (or_left (is_stale core p) (calls_stale (in_flight_of core) p) stale) clear

  -- what holds of what was committed and in flight holds of what is committed
  of_committed : (P : Status → Type 0) → P core.status.committed → (e.next.wanted ≡ core.status.wanted → P (in_flight_of core)) → P e.next.committed
  of_committed P was flew = by e.follows.committed
    where
      by : (e.next.committed ≡ core.status.committed) ⊎ ((e.next.committed ≡ in_flight_of core) × (e.next.wanted ≡ core.status.wanted)) → P e.next.committed
      by (inl same) = subst P (sym same) was
      by (inr flies) = subst P (sym flies.0) (flew flies.1)

  pub missing_on : (d : ℕ) → is_missing core d ≡ true → is_missing (mid e) d ≡ true
  missing_on d gone = by e.follows.lost
    where
      either : (b : Bool) → (if b then true else is_missing core d) ≡ true
      either true = refl
      either false = gone

      by : (e.next.wanted ≡ core.status.wanted) ⊎ Loses core e.disk e.next.wanted → calls_missing e.next.wanted d ≡ true
      by (inl same) = ap (λ (w : Status). calls_missing w d) same ∙ gone
      by (inr loses) = loses.missing d ∙ either (d == e.disk)

  pub was_there : (d : ℕ) → is_missing (mid e) d ≡ false → is_missing core d ≡ false
  was_there d there = by (is_missing core d) refl
    where
      by : (b : Bool) → is_missing core d ≡ b → is_missing core d ≡ false
      by true gone = not_so (sym there ∙ missing_on d gone)
      by false is = is

  -- what is marked by the end of the copy is on a missing disk
  pub undone : (p : Pp) → marked_by_end (mid e) (copy_ends (mid e)) p ≡ true → Clears core p × (is_missing (mid e) p.disk ≡ true)
  undone p marked = by (copy_ends (mid e)) refl marked
    where
      of_copy : (how : CopyEnd) (m : Option OpenCopy) → core.copy ≡ m → copy_ends (mid e) ≡ Some how → not (is_done_end how) ≡ true → option_map_or (λ (c : OpenCopy). is_whole core c && is_pp p c.pp && (not c.moves || is_held_stale (mid e) c.pp)) m false ≡ true
          → Clears core p × (is_missing (mid e) p.disk ≡ true)
      of_copy how None is ends undone its = not_so its
      of_copy how (Some c) is ends undone its =
          let parts = both (is_whole core c) (is_pp p c.pp) (both (is_whole core c && is_pp p c.pp) (not c.moves || is_held_stale (mid e) c.pp) its).0 in
          let its_end : end_of (mid e) c ≡ Some how = sym (ap (λ m. option_map_or (end_of (mid e)) m None) is) ∙ ends in
          let more = is_undone (mid e) c how parts.0 its_end undone in
          let same = pp_is p c.pp parts.1 in
          (record { copy = c; is_open = is; runs = more.0; whole = parts.0; its = same }, sym (ap (λ (q : Pp). is_missing (mid e) q.disk) same) ∙ more.1)

      by : (m : Option CopyEnd) → copy_ends (mid e) ≡ m → marked_by_end (mid e) m p ≡ true → Clears core p × (is_missing (mid e) p.disk ≡ true)
      by None ends is = not_so is
      by (Some how) ends is = let parts = both (not (is_done_end how)) (option_map_or (λ (c : OpenCopy). is_whole core c && is_pp p c.pp && (not c.moves || is_held_stale (mid e) c.pp)) core.copy false) is in of_copy how core.copy refl ends parts.0 parts.1

  -- a copy that is fresh by what is committed isn't marked
  pub unmarked : (p : Pp) → IsCopyIn core p → is_stale (mid e) p ≡ false → marked_by_end (mid e) (copy_ends (mid e)) p ≡ false
  unmarked p copy fresh = by (marked_by_end (mid e) (copy_ends (mid e)) p) refl
    where
      no : Clears core p → is_missing (mid e) p.disk ≡ true → ⊥
      no c gone = of_committed (λ s. calls_stale s p ≡ false → ⊥) (λ is. not_so (sym is ∙ stale)) (λ same is. not_so (sym there ∙ sym (ap (λ (w : Status). calls_missing w p.disk) same) ∙ gone)) fresh
        where
          stale : is_stale core p ≡ true
          stale = ap (is_stale core) (sym c.its) ∙ behind c.copy c.is_open (brings_it p copy c) c.runs

          there : is_missing core p.disk ≡ false
          there = sym (ap (λ (q : Pp). is_missing core q.disk) c.its) ∙ here c.copy c.is_open c.runs

      by : (b : Bool) → marked_by_end (mid e) (copy_ends (mid e)) p ≡ b → marked_by_end (mid e) (copy_ends (mid e)) p ≡ false
      by true is = let c = undone p is in absurd (no c.0 c.1)
      by false is = is

  -- a copy that is to be cleared, and doesn't end, is stale still
  pub uncleared : copy_ends (mid e) ≡ None → (c : OpenCopy) → core.copy ≡ Some c → c.moves ≡ false → is_running c ≡ true → is_whole core c ≡ true → is_stale (mid e) c.pp ≡ true
  uncleared still c is brought runs whole = by (is_stale (mid e) c.pp) refl
    where
      was : (is_stale core c.pp ≡ true) × (is_wanted_stale core c.pp ≡ false)
      was = (stale_of core c (its_copy c is) brought).clearing runs whole

      cleared : is_stale (mid e) c.pp ≡ false → is_cleared (mid e) c ≡ true
      cleared fresh = and_of (not c.moves) (stays_fresh (mid e) c.pp) (ap not brought) (and_of (not (is_held_stale (mid e) c.pp)) (not (is_wanted_stale (mid e) c.pp))
          (ap not (ap (λ b. b || calls_stale (unwrap_or e.next.in_flight e.next.committed) c.pp) fresh
          ∙ (ap (λ (s : Status). calls_stale s c.pp) e.follows.flies ∙ of_committed (λ s. calls_stale s c.pp ≡ false → calls_stale (in_flight_of core) c.pp ≡ false) (λ i. not_so (sym i ∙ was.0)) (λ same i. i) fresh)))
          (ap not (e.follows.stale c.pp ∙ was.1)))

      by : (b : Bool) → is_stale (mid e) c.pp ≡ b → is_stale (mid e) c.pp ≡ true
      by true i = i
      by false i = not_so (sym (not_cleared (mid e) c runs whole (sym (ap (λ m. option_map_or (end_of (mid e)) m None) is) ∙ still)) ∙ cleared i)

  -- the place to which one moves is no copy, and so isn't left behind
  pub place_stays : (c : OpenCopy) → IsMove core c → is_entailed (mid e) c.pp ≡ false
  place_stays c move = by (is_entailed (mid e) c.pp) refl
    where
      by : (b : Bool) → is_entailed (mid e) c.pp ≡ b → is_entailed (mid e) c.pp ≡ false
      by false is = is
      by true is =
          let left = left_behind (mid e) c.pp is in
          let its : copies_in core.descriptor left.row.number left.lp ≡ copies_of left.row left.lp =
          ap (λ m. option_map_or (λ (row : LvRow). copies_of row left.lp) m []) (row_found core.descriptor.lvs left.place left.row e.going.fitting.valid.volumes.numbers_rise left.there) in
          not_so (sym (no_copy core.descriptor left.row.number left.lp c.pp move.free) ∙ ap (λ ps. is_among ps c.pp) its ∙ left.among)

  -- where the copy doesn't end, and no disk is missing that wasn't, what is left behind was wanted stale before
  pub known : copy_ends (mid e) ≡ None → e.next.wanted ≡ core.status.wanted → (p : Pp) → is_entailed (mid e) p ≡ true → is_wanted_stale core p ≡ true
  known still same p is = by (is_wanted_stale core p) refl
    where
      missing_same : (d : ℕ) → is_missing core d ≡ is_missing (mid e) d
      missing_same d = sym (ap (λ (w : Status). calls_missing w d) same)

      replaces : (q : Pp) → IsCopyIn (mid e) q → can_replace (mid e) q ≡ true → can_replace core q ≡ true
      replaces q copy can = of_stale (is_stale core q) refl
        where
          a : (is_usable (mid e) q ≡ true) × (not (is_wanted_stale (mid e) q) ≡ true)
          a = both (is_usable (mid e) q) (not (is_wanted_stale (mid e) q)) can

          b : (not (is_stale (mid e) q) ≡ true) × (not (is_missing (mid e) q.disk) ≡ true)
          b = both (not (is_stale (mid e) q)) (not (is_missing (mid e) q.disk)) a.0

          clear : is_wanted_stale core q ≡ false
          clear = sym (e.follows.stale q) ∙ is_false (is_wanted_stale (mid e) q) a.1

          of_stale : (s : Bool) → is_stale core q ≡ s → can_replace core q ≡ true
          of_stale true stale = let c = newly q stale clear in not_so (sym (is_false (is_stale (mid e) q) b.0) ∙ sym (ap (is_stale (mid e)) c.its) ∙ uncleared still c.copy c.is_open (brings_it q (record { lv = copy.lv; lp = copy.lp; among = copy.among }) c) c.runs c.whole)
          of_stale false fresh = and_of (is_usable core q) (not (is_wanted_stale core q)) (and_of (not (is_stale core q)) (not (is_missing core q.disk)) (ap not fresh) (ap not (missing_same q.disk) ∙ b.1)) (ap not clear)

      by : (b : Bool) → is_wanted_stale core p ≡ b → is_wanted_stale core p ≡ true
      by true wanted = wanted
      by false clear = e.going.behind p (entailed_on (mid e) core p e.going.fitting.valid refl fresh (λ gone. missing_same p.disk ∙ gone) replaces is)
        where
          fresh : is_stale (mid e) p ≡ false → is_stale core p ≡ false
          fresh i = of_stale (is_stale core p) refl
            where
              of_stale : (s : Bool) → is_stale core p ≡ s → is_stale core p ≡ false
              of_stale false j = j
              of_stale true stale = let c = newly p stale clear in not_so (sym (sym (ap (λ (q : Pp). is_missing core q.disk) c.its) ∙ here c.copy c.is_open c.runs) ∙ missing_same p.disk ∙ (left_behind (mid e) p is).gone)

-- ---- after it

module _ (e : WriteEnd) (r : Reviewed e) where
  abbrev old : Core
  old = e.core

  abbrev after : Core
  after = now e r

  committed_is : r.status.committed ≡ e.next.committed
  committed_is = ap (λ (u : Updates). u.committed) r.marks.rest

  pub flies_is : unwrap_or r.status.in_flight r.status.committed ≡ in_flight_of old
  flies_is = ap (λ (u : Updates). unwrap_or u.in_flight u.committed) r.marks.rest ∙ e.follows.flies

  pub stale_is : (p : Pp) → is_stale after p ≡ is_stale (mid e) p
  stale_is p = ap (λ (s : Status). calls_stale s p) committed_is

  pub missing_is : (d : ℕ) → is_missing after d ≡ is_missing (mid e) d
  missing_is d = r.marks.missing d

  pub usable_is : (p : Pp) → is_usable after p ≡ is_usable (mid e) p
  usable_is p = ap (λ b. not b && not (is_missing after p.disk)) (stale_is p) ∙ ap (λ b. not (is_stale (mid e) p) && not b) (missing_is p.disk)

  pub of_now : (P : Status → Type 0) → P old.status.committed → P (in_flight_of old) → P r.status.committed
  of_now P was flew = subst P (sym committed_is) (of_committed e P was (λ same. flew))

  pub settled_on : (p : Pp) → is_settled old p ≡ true → is_settled after p ≡ true
  settled_on p is =
      let parts = both (is_stale old p) (calls_stale (in_flight_of old) p) is in
      ap (λ (s : Status). calls_stale r.status.committed p && calls_stale s p) flies_is
      ∙ of_now (λ s. calls_stale s p && calls_stale (in_flight_of old) p ≡ true) is (and_of (calls_stale (in_flight_of old) p) (calls_stale (in_flight_of old) p) parts.1 parts.1)

  pub held_by : (p : Pp) → is_held_stale after p ≡ true → is_held_stale old p ≡ true
  held_by p held = of_now (λ s. calls_stale s p || calls_stale (in_flight_of old) p ≡ true → is_held_stale old p ≡ true) (λ is. is)
      (λ is. or_right (is_stale old p) (calls_stale (in_flight_of old) p) (or_self (calls_stale (in_flight_of old) p) is))
      (sym (ap (λ (s : Status). calls_stale r.status.committed p || calls_stale s p) flies_is) ∙ held)

  -- what is wanted
  wanted_is : (p : Pp) → is_wanted_stale after p ≡ (is_wanted_stale old p || due e p)
  wanted_is p = r.marks.stale p ∙ ap (λ b. b || due e p) (e.follows.stale p)

  pub wanted_on : (p : Pp) → is_wanted_stale old p ≡ true → is_wanted_stale after p ≡ true
  wanted_on p is = wanted_is p ∙ or_left (is_wanted_stale old p) (due e p) is

  pub not_wanted : (p : Pp) → is_wanted_stale after p ≡ false → (is_wanted_stale old p ≡ false) × (is_entailed (mid e) p ≡ false) × (marked_by_end (mid e) (copy_ends (mid e)) p ≡ false)
  not_wanted p is =
      let parts = or_parts (is_wanted_stale old p) (due e p) (sym (wanted_is p) ∙ is) in
      let more = or_parts (is_entailed (mid e) p) (marked_by_end (mid e) (copy_ends (mid e)) p) parts.1 in
      (parts.0, more.0, more.1)

  pub wanted_by : (p : Pp) → is_wanted_stale after p ≡ true → (is_wanted_stale old p ≡ true) ⊎ ((is_entailed (mid e) p ≡ true) ⊎ (marked_by_end (mid e) (copy_ends (mid e)) p ≡ true))
  wanted_by p is = three (is_wanted_stale old p) (is_entailed (mid e) p) (marked_by_end (mid e) (copy_ends (mid e)) p) (sym (wanted_is p) ∙ is)

  -- what isn't left behind, nor marked, isn't wanted stale by the review
  pub still_clear : (p : Pp) → is_wanted_stale old p ≡ false → is_entailed (mid e) p ≡ false → marked_by_end (mid e) (copy_ends (mid e)) p ≡ false → is_wanted_stale after p ≡ false
  still_clear p clear entailed marked = wanted_is p ∙ ap (λ b. b || due e p) clear ∙ ap (λ b. b || marked_by_end (mid e) (copy_ends (mid e)) p) entailed ∙ marked

  -- a copy that comes to be sure was to be cleared
  pub sure_by : (p : Pp) → is_sure after p ≡ true → (is_sure old p ≡ true) ⊎ Clears old p
  sure_by p sure = by (is_stale old p) refl (not_wanted p (is_false (is_wanted_stale after p) (both (not (is_stale after p)) (not (is_wanted_stale after p)) sure).1)).0
    where
      by : (b : Bool) → is_stale old p ≡ b → is_wanted_stale old p ≡ false → (is_sure old p ≡ true) ⊎ Clears old p
      by true stale clear = inr (newly e p stale clear)
      by false fresh clear = inl (and_of (not (is_stale old p)) (not (is_wanted_stale old p)) (ap not fresh) (ap not clear))

  -- what missing disks leave behind is wanted stale
  pub behind_now : (p : Pp) → is_entailed after p ≡ true → is_wanted_stale after p ≡ true
  behind_now p is = wanted_is p ∙ or_right (is_wanted_stale old p) (due e p) (or_left (is_entailed (mid e) p) (marked_by_end (mid e) (copy_ends (mid e)) p)
      (entailed_on after (mid e) p e.going.fitting.valid refl (λ fresh. sym (stale_is p) ∙ fresh) (λ gone. sym (missing_is p.disk) ∙ gone) replaces is))
    where
      replaces : (q : Pp) → IsCopyIn after q → can_replace after q ≡ true → can_replace (mid e) q ≡ true
      replaces q copy can =
          let a = both (is_usable after q) (not (is_wanted_stale after q)) can in
          and_of (is_usable (mid e) q) (not (is_wanted_stale (mid e) q)) (sym (usable_is q) ∙ a.0) (ap not (e.follows.stale q ∙ (not_wanted q (is_false (is_wanted_stale after q) a.1)).0))

  -- where the copy doesn't end, and no disk is missing that wasn't, the review wants nothing more
  pub nothing_new : copy_ends (mid e) ≡ None → e.next.wanted ≡ old.status.wanted → r.status.wanted ≡ old.status.wanted
  nothing_new still same = ap (λ (u : Stored). u.wanted) (r.marks.same was) ∙ same
    where
      was : (p : Pp) → due e p ≡ true → calls_stale e.next.wanted p ≡ true
      was p is = e.follows.stale p ∙ by (is_entailed (mid e) p) refl is
        where
          by : (b : Bool) → is_entailed (mid e) p ≡ b → b || marked_by_end (mid e) (copy_ends (mid e)) p ≡ true → is_wanted_stale old p ≡ true
          by true left i = known e still same p left
          by false left i = not_so (sym (ap (λ m. marked_by_end (mid e) m p) still) ∙ i)

  -- ---- fresh copies

  -- one that can stand in for another stays fresh
  fresh_other : (q : Pp) → IsCopyIn old q → can_replace (mid e) q ≡ true → stays_fresh after q ≡ true
  fresh_other q copy can = and_of (not (is_held_stale after q)) (not (is_wanted_stale after q)) (ap not held) (ap not (still_clear q clear not_left (unmarked e q copy fresh)))
    where
      a : (is_usable (mid e) q ≡ true) × (not (is_wanted_stale (mid e) q) ≡ true)
      a = both (is_usable (mid e) q) (not (is_wanted_stale (mid e) q)) can

      b : (not (is_stale (mid e) q) ≡ true) × (not (is_missing (mid e) q.disk) ≡ true)
      b = both (not (is_stale (mid e) q)) (not (is_missing (mid e) q.disk)) a.0

      fresh : is_stale (mid e) q ≡ false
      fresh = is_false (is_stale (mid e) q) b.0

      clear : is_wanted_stale old q ≡ false
      clear = sym (e.follows.stale q) ∙ is_false (is_wanted_stale (mid e) q) a.1

      not_left : is_entailed (mid e) q ≡ false
      not_left = by (is_entailed (mid e) q) refl
        where
          by : (s : Bool) → is_entailed (mid e) q ≡ s → is_entailed (mid e) q ≡ false
          by false is = is
          by true is = not_so (sym (is_false (is_missing (mid e) q.disk) b.1) ∙ (left_behind (mid e) q is).gone)

      not_flying : calls_stale (in_flight_of old) q ≡ false
      not_flying = by (calls_stale (in_flight_of old) q) refl
        where
          by : (s : Bool) → calls_stale (in_flight_of old) q ≡ s → calls_stale (in_flight_of old) q ≡ false
          by false is = is
          by true is =
              let c = to_be_cleared e q (or_right (is_stale old q) (calls_stale (in_flight_of old) q) is) clear in
              let stale : is_stale old q ≡ true = ap (is_stale old) (sym c.its) ∙ behind e c.copy c.is_open (brings_it e q copy c) c.runs in
              not_so (sym fresh ∙ of_committed e (λ s. calls_stale s q ≡ true) stale (λ same. is))

      held : is_held_stale after q ≡ false
      held = ap (λ (s : Status). is_stale after q || calls_stale s q) flies_is ∙ ap (λ s. s || calls_stale (in_flight_of old) q) (stale_is q ∙ fresh) ∙ not_flying

  pub fresh_from : (lv lp : ℕ) → list_any (stays_fresh old) (copies_in old.descriptor lv lp) ≡ true → list_any (stays_fresh after) (copies_in old.descriptor lv lp) ≡ true
  fresh_from lv lp was = by (is_entailed (mid e) one.0) refl
    where
      copies : List Pp
      copies = copies_in old.descriptor lv lp

      one : (q : Pp) × (i : ℕ) × (slice_get copies i ≡ Some q) × (stays_fresh old q ≡ true)
      one = found (stays_fresh old) copies was

      parts : (not (is_held_stale old one.0) ≡ true) × (not (is_wanted_stale old one.0) ≡ true)
      parts = both (not (is_held_stale old one.0)) (not (is_wanted_stale old one.0)) one.3

      fresh : (is_stale old one.0 ≡ false) × (calls_stale (in_flight_of old) one.0 ≡ false)
      fresh = or_parts (is_stale old one.0) (calls_stale (in_flight_of old) one.0) (is_false (is_held_stale old one.0) parts.0)

      still_fresh : is_stale (mid e) one.0 ≡ false
      still_fresh = of_committed e (λ s. calls_stale s one.0 ≡ false) fresh.0 (λ same. fresh.1)

      held : is_held_stale after one.0 ≡ false
      held = ap (λ (s : Status). is_stale after one.0 || calls_stale s one.0) flies_is ∙ ap (λ s. s || calls_stale (in_flight_of old) one.0) (stale_is one.0 ∙ still_fresh) ∙ fresh.1

      by : (b : Bool) → is_entailed (mid e) one.0 ≡ b → list_any (stays_fresh after) copies ≡ true
      by false is = any_passes_from_place (stays_fresh after) copies one.1 one.0 one.2 (and_of (not (is_held_stale after one.0)) (not (is_wanted_stale after one.0)) (ap not held)
          (ap not (still_clear one.0 (is_false (is_wanted_stale old one.0) parts.1) is (unmarked e one.0 (record { lv = lv; lp = lp; among = any_passes_from_place (is_pp one.0) copies one.1 one.0 one.2 (own_pp one.0) }) still_fresh))))
      by true is = subst (λ ps. list_any (stays_fresh after) ps ≡ true) (sym same) (any_passes_from_place (stays_fresh after) (copies_of left.row left.lp) other.1 other.0 other.2 (fresh_other other.0 (record { lv = left.row.number; lp = left.lp; among = ap (λ ps. is_among ps other.0) its ∙ any_passes_from_place (is_pp other.0) (copies_of left.row left.lp) other.1 other.0 other.2 (own_pp other.0) }) other.3))
        where
          left : IsLeft (mid e) one.0
          left = left_behind (mid e) one.0 is

          other : (q : Pp) × (i : ℕ) × (slice_get (copies_of left.row left.lp) i ≡ Some q) × (can_replace (mid e) q ≡ true)
          other = found (can_replace (mid e)) (copies_of left.row left.lp) left.other

          its : copies_in old.descriptor left.row.number left.lp ≡ copies_of left.row left.lp
          its = ap (λ m. option_map_or (λ (row : LvRow). copies_of row left.lp) m []) (row_found old.descriptor.lvs left.place left.row e.going.fitting.valid.volumes.numbers_rise left.there)

          same : copies ≡ copies_of left.row left.lp
          same =
              let at = one_lp old.descriptor e.going.fitting.valid lv lp left.row.number left.lp one.0 (any_passes_from_place (is_pp one.0) copies one.1 one.0 one.2 (own_pp one.0)) (ap (λ ps. is_among ps one.0) its ∙ left.among) in
              ap (λ n. copies_in old.descriptor n lp) at.0 ∙ ap (λ n. copies_in old.descriptor left.row.number n) at.1 ∙ its

  pub fresh_now : (lv lp : ℕ) → list_any (may_be_fresh after) (copies_in old.descriptor lv lp) ≡ true → list_any (stays_fresh after) (copies_in old.descriptor lv lp) ≡ true
  fresh_now lv lp may = fresh_from lv lp (e.going.fresh lv lp (any_on (may_be_fresh after) (may_be_fresh old)
      (λ p. may_by (was_fresh old p) (is_settled old p) (is_wanted_stale old p) (is_settled after p) (is_wanted_stale after p) (settled_on p) (wanted_on p)) (copies_in old.descriptor lv lp) may))
