-- To which copies a write goes that starts its data.
use Rattle.std.proofs.Common.{◌≡◌, ◌==◌, ◌≤◌, ◌<◌, ◌+◌, ◌*◌, ◌%◌, ◌/◌, ℕ, zero, suc, Bool, true, false, ◌&&◌, ◌||◌, not, nat_lt, List, [], ◌∷◌, ◌++◌, Option, Some, None, length, slice_get, refl, sym, ◌∙◌, ap, arith, zero-add, if◌then◌else◌}
use Rattle.std.specs.Prelude.{slice_index_or, unwrap_or}
use Rattle.std.specs.List.{list_any, range_with_len}
use Rattle.std.specs.Option.{option_map_or}
use Rattle.std.proofs.lemmas.Bool.{lt-ltb, ltb-false}
use Rattle.std.proofs.lemmas.Nat.{div_below, mod_below}
use Rattle.std.proofs.lemmas.List.Folds.{list_any-append, list_any_at}
use Rattle.lvm_num.specs.declared.place.Pp.{Pp}
use Rattle.lvm_num.specs.declared.descriptor.LvRow.{LvRow}
use Rattle.lvm_num.specs.Descriptor.{copies_of, is_pp}
use Rattle.lvm_num.specs.Geometry.{partition_blocks, volume_blocks}
use Rattle.lvm_num.specs.Status.{calls_stale}
use Rattle.lvm_num.proofs.MarksLemmas.Maps.{find-Some}
use Rattle.lvm_num.proofs.DescriptorLemmas.Partitions.{one_partition}
use Rattle.lvm_num.proofs.Booleans.{not_so}
use Rattle.lvm_num.proofs.Lists.{all_at}
use Rattle.lvm_vol.specs.declared.entry.Outcome.TheVariants as outcome
use Rattle.lvm_path.specs.declared.facts.Facts.{Facts}
use Rattle.lvm_path.specs.declared.facts.Next.{Next}
use Rattle.lvm_path.specs.declared.facts.Next.TheVariants as next
use Rattle.lvm_path.specs.declared.request.Phase.{Phase}
use Rattle.lvm_path.specs.declared.request.Phase.TheVariants as phase
use Rattle.lvm_path.specs.declared.request.Request.{Request}
use Rattle.lvm_path.specs.Asks.{at_of, count_of, is_write, lv_of}
use Rattle.lvm_path.specs.Targets.{is_begun}
use Rattle.lvm_path.specs.Next.{next_chosen, next_data, next_in, next_read, next_write}
use Rattle.lvm_session.specs.declared.bringing.OpenCopy.{OpenCopy}
use Rattle.lvm_session.specs.declared.open.Open.{Open}
use Rattle.lvm_session.specs.declared.open.Power.TheVariants as power
use Rattle.lvm_session.specs.State.{Core, State}
use Rattle.lvm_session.specs.Judging.{aims, copies_for, facts_of, group_in, is_caught, is_held_by_move, is_missing, is_running, is_settled, is_stale, is_usable, is_wanted_stale, lp_of, destination_aims, pps_of, same_pps}
use Rattle.lvm_session.specs.Bringing.{groups_of, is_whole}
use Rattle.lvm_session.specs.Enabled.{target_due, target_next}
use Rattle.lvm_session.specs.Marks.{can_replace, is_among, is_entailed_in, is_left_behind}
use Rattle.lvm_session.specs.Requests.{IsLaid, IsOpenOne, is_left_out}
use Rattle.lvm_session.specs.Causes.{is_held_stale}
use Rattle.lvm_session.specs.Sound.{IsGoing, IsSound, is_clearing}
use Rattle.lvm_session.proofs.MovesLemmas.{among_filter}
use Rattle.lvm_keeps.specs.Keeps.{FirstStartIsWhole}
use Rattle.lvm_keeps.proofs.KeepsLemmas.Landing.{or_parts, witness}
use Rattle.lvm_keeps.proofs.Small.{both, is_false}

-- ---- one that starts its data finds nothing pending, a copy that it can use, and its targets as they should be

pub record IsClear (k : Facts) : Type 0 where
  pub pending : k.pending ≡ false
  pub usable : k.usable ≡ true
  pub changed : k.changed ≡ false

pub not_starting : {X : Type 0} {target : ℕ} → None ≡ Some target → X
not_starting e = absurd cc

by_choice : (k : Facts) (on : Next) (target : ℕ) → (k.pending ≡ true → target_next on ≡ None) → target_next (next_chosen k on) ≡ Some target → IsClear k
by_choice k on target waits starts = by k.pending k.usable k.changed refl refl refl starts
  where
    by : (a b c : Bool) → k.pending ≡ a → k.usable ≡ b → k.changed ≡ c → target_next (if a then on else if not b then next.Land outcome.NoFresh else if c then next.Admit else on) ≡ Some target → IsClear k
    by true b c p q r e = not_starting (sym (waits p) ∙ e)
    by false false c p q r e = not_starting e
    by false true true p q r e = not_starting e
    by false true false p q r e = record { pending = p; usable = q; changed = r }

pub starts_clear : (p : Phase) (k : Facts) (r : Request) (target : ℕ) → is_write r.ask ≡ true → is_begun r.targets.items ≡ false → target_next (next_in p k r) ≡ Some target → IsClear k
starts_clear phase.Held k r target write begun starts = not_starting (sym (by (k.blocked || k.pending) k.usable) ∙ starts)
  where
    by : (a b : Bool) → target_next (if a then next.Wait else if b then next.Admit else next.Land outcome.NoFresh) ≡ None
    by true b = refl
    by false true = refl
    by false false = refl
starts_clear phase.WantEntry k r target write begun starts = by_choice k (if k.pinned then next.Wait else next.Pin) target (λ e. by k.pinned) starts
  where
    by : (a : Bool) → target_next (if a then next.Wait else next.Pin) ≡ None
    by true = refl
    by false = refl
starts_clear phase.WantRecord k r target write begun starts = by_choice k (if k.named && k.dirty && not k.pending then next_write r.policy r.targets.items else next.Wait) target (λ e. ap (λ b. target_next (if k.named && k.dirty && not b then next_write r.policy r.targets.items else next.Wait)) e ∙ by (k.named && k.dirty)) starts
  where
    by : (a : Bool) → target_next (if a && false then next_write r.policy r.targets.items else next.Wait) ≡ None
    by true = refl
    by false = refl
starts_clear phase.Data k r target write begun starts =
    by_choice k (if k.pending then next.Wait else next_write r.policy r.targets.items) target (λ e. ap (λ b. target_next (if b then next.Wait else next_write r.policy r.targets.items)) e)
    (sym (ap (λ b. target_next (if b then next_data k r else next_read r.targets.items)) write ∙ ap (λ b. target_next (if b then next_write r.policy r.targets.items else next_chosen k (if k.pending then next.Wait else next_write r.policy r.targets.items))) begun) ∙ starts)
starts_clear phase.WantStatus k r target write begun starts = not_starting (sym (by k.marked) ∙ starts)
  where
    by : (a : Bool) → target_next (if a then next.Land (if k.kept then outcome.Done else outcome.Lost) else next.Wait) ≡ None
    by true = refl
    by false = refl
starts_clear phase.Landed k r target write begun starts = not_starting starts

-- ---- partitions

among_same : (xs ys : List Pp) (p : Pp) → same_pps xs ys ≡ true → is_among xs p ≡ is_among ys p
among_same [] [] p same = refl
among_same [] (y ∷ ys) p same = not_so same
among_same (x ∷ xs) [] p same = not_so same
among_same (x ∷ xs) (y ∷ ys) p same = let parts = both (is_pp x y) (same_pps xs ys) same in ap (λ z. is_pp p z || is_among xs p) (one_partition x y parts.0) ∙ ap (λ b. is_pp p y || b) (among_same xs ys p parts.1)

-- what fails for each fails for one of them
none_at : (t : Pp → Bool) (xs : List Pp) (p : Pp) → list_any t xs ≡ false → is_among xs p ≡ true → t p ≡ false
none_at t xs p none among = let one = witness (is_pp p) t xs among none in ap t (one_partition p one.0 one.1) ∙ one.2

neither : (t u : Pp → Bool) (xs : List Pp) → list_any t xs ≡ false → list_any u xs ≡ false → list_any (λ (x : Pp). t x || u x) xs ≡ false
neither t u [] a b = refl
neither t u (x ∷ xs) a b =
    let p = or_parts (t x) (list_any t xs) a in
    let q = or_parts (u x) (list_any u xs) b in
    ap (λ c. c || u x || list_any (λ (y : Pp). t y || u y) xs) p.0 ∙ ap (λ c. c || list_any (λ (y : Pp). t y || u y) xs) q.0 ∙ neither t u xs p.1 q.1

-- ---- track groups and logical partitions

some_blocks : (mib lps n : ℕ) → n + 1 ≤ partition_blocks mib * lps → 0 < partition_blocks mib
some_blocks zero lps n within = absurd (omega (arith, within))
some_blocks (suc mib) lps n within = omega arith

groups_below : (n m : ℕ) → n < 2048 * m → n / 256 < 2048 * m / 256
groups_below n m low = omega (arith, low)

in_range : (t : ℕ → Bool) (a n k : ℕ) → k < n → t (a + k) ≡ true → list_any t (range_with_len a n) ≡ true
in_range t a zero k low is = absurd (omega (arith, low))
in_range t a (suc n) zero low is = ap (λ b. b || list_any t (range_with_len (a + 1) n)) (ap t (sum_zero a) ∙ is)
  where
    sum_zero : (x : ℕ) → x ≡ x + 0
    sum_zero x = omega arith
in_range t a (suc n) (suc k) low is = by (t a) (in_range t (a + 1) n k (omega (arith, low)) (ap t (moved a k) ∙ is))
  where
    moved : (x y : ℕ) → x + 1 + y ≡ x + suc y
    moved x y = omega arith

    by : (b : Bool) → list_any t (range_with_len (a + 1) n) ≡ true → b || list_any t (range_with_len (a + 1) n) ≡ true
    by true rest = refl
    by false rest = rest

module _ (s : State) (place target : ℕ) (o : Open) (sound : IsSound s) (on : s.core.power ≡ power.On) (there : slice_get s.core.requests place ≡ Some o) (due : target_due s.core o ≡ Some target)
    (write : is_write o.request.ask ≡ true) (begun : is_begun o.request.targets.items ≡ false) where
  abbrev core : Core
  core = s.core

  abbrev copies : List Pp
  copies = copies_for core o.request.ask

  going : IsGoing core
  going = (sound.on on).going

  laid : IsLaid core o.request
  laid = (all_at (IsOpenOne core) core.requests place o going.requests there).laid

  clear : IsClear (facts_of core o.request)
  clear = starts_clear o.request.phase (facts_of core o.request) o.request target write begun due

  -- its targets are those that it should have
  aimed : (p : Pp) → is_among (pps_of o.request.targets.items) p ≡ is_among (aims core o.request.ask) p || is_among (destination_aims core o.request.ask) p
  aimed p =
      among_same (pps_of o.request.targets.items) all p (same (same_pps (pps_of o.request.targets.items) all) (sym (ap (λ b. b && not (same_pps (pps_of o.request.targets.items) all)) write) ∙ clear.changed))
      ∙ list_any-append (is_pp p) (aims core o.request.ask) (destination_aims core o.request.ask)
    where
      all : List Pp
      all = aims core o.request.ask ++ destination_aims core o.request.ask

      same : (b : Bool) → not b ≡ false → b ≡ true
      same true e = refl
      same false e = not_so (sym e)

  -- also the destination of a move, where that has passed its track group
  pub goes_along : (p : Pp) → is_among (destination_aims core o.request.ask) p ≡ true → is_among (pps_of o.request.targets.items) p ≡ true
  goes_along p along = aimed p ∙ ap (λ b. is_among (aims core o.request.ask) p || b) along ∙ or_true (is_among (aims core o.request.ask) p)
    where
      or_true : (a : Bool) → a || true ≡ true
      or_true true = refl
      or_true false = refl

  -- nothing is pending
  unsettled_none : list_any (λ (q : Pp). is_wanted_stale core q && not (is_settled core q)) copies ≡ false
  unsettled_none = (or_parts (list_any (λ (q : Pp). is_wanted_stale core q && not (is_settled core q)) copies) _ (or_parts (is_held_by_move core o.request.ask) _ clear.pending).1).0

  -- no staleness is wanted that isn't settled
  settled : (p : Pp) → is_among copies p ≡ true → is_wanted_stale core p && not (is_settled core p) ≡ false
  settled p among = none_at (λ (q : Pp). is_wanted_stale core q && not (is_settled core q)) copies p unsettled_none among

  -- a track group of a logical partition is below their number
  group_low : group_in core o.request.ask < groups_of core
  group_low =
      let some = laid.within.some in
      let within = laid.within.within in
      groups_below (at_of o.request.ask % partition_blocks core.descriptor.mib) core.descriptor.mib (mod_below (at_of o.request.ask) (partition_blocks core.descriptor.mib) (some_blocks core.descriptor.mib laid.within.row.lps (at_of o.request.ask) (omega (arith, some, within))))

  module _ (p : Pp) (among : is_among copies p ≡ true) where
    -- a copy that is to be cleared is caught up with
    caught : is_clearing core p ≡ true → is_caught core (group_in core o.request.ask) p ≡ true
    caught clearing = by core.copy clearing
      where
        by_copy : (c : OpenCopy) → is_running c && is_whole core c && is_pp p c.pp ≡ true → is_running c && is_pp p c.pp && nat_lt (group_in core o.request.ask) c.cursor ≡ true
        by_copy c is =
            let parts = both (is_running c && is_whole core c) (is_pp p c.pp) is in
            let more = both (is_running c) (is_whole core c) parts.0 in
            ap (λ b. b && is_pp p c.pp && nat_lt (group_in core o.request.ask) c.cursor) more.0 ∙ ap (λ b. b && nat_lt (group_in core o.request.ask) c.cursor) parts.1
            ∙ lt-ltb (group_in core o.request.ask) c.cursor (past c.cursor (is_false (nat_lt c.cursor (groups_of core)) more.1))
          where
            past : (cursor : ℕ) → nat_lt cursor (groups_of core) ≡ false → group_in core o.request.ask < cursor
            past cursor far = let low = group_low in let high = ltb-false cursor (groups_of core) far in omega (arith, low, high)

        by : (m : Option OpenCopy) → option_map_or (λ (c : OpenCopy). is_running c && is_whole core c && is_pp p c.pp) m false ≡ true → option_map_or (λ (c : OpenCopy). is_running c && is_pp p c.pp && nat_lt (group_in core o.request.ask) c.cursor) m false ≡ true
        by None is = not_so is
        by (Some c) is = by_copy c is

    -- a fresh copy on a missing disk is wanted stale, since another can be used
    entailed : is_stale core p ≡ false → is_missing core p.disk ≡ true → is_wanted_stale core p ≡ true
    entailed fresh gone = going.behind p (ap (λ b. b) (list_any_at (λ (row : LvRow). is_entailed_in core row p) core.descriptor.lvs found.1.0 row found.1.1 (ap (λ r. is_entailed_in core r p) (found.1.2 row) ∙ in_row)))
      where
        row : LvRow
        row = laid.within.row

        found : ((row.number == lv_of o.request.ask) ≡ true) × ((k : ℕ) × (k < length core.descriptor.lvs) × ((d : LvRow) → slice_index_or core.descriptor.lvs k d ≡ row))
        found = find-Some (λ (r : LvRow). r.number == lv_of o.request.ask) core.descriptor.lvs row laid.within.volume

        its : copies ≡ copies_of row (lp_of core o.request.ask)
        its = ap (λ m. option_map_or (λ (r : LvRow). copies_of r (lp_of core o.request.ask)) m []) laid.within.volume

        replaced : list_any (can_replace core) copies ≡ true
        replaced = by (list_any (can_replace core) copies) refl
          where
            wanted_so : (q : Pp) → is_usable core q ≡ true → is_wanted_stale core q && not (is_settled core q) ≡ false → can_replace core q ≡ true
            wanted_so q usable none = by_tests (is_stale core q) (is_missing core q.disk) (is_wanted_stale core q) (calls_stale (unwrap_or core.status.in_flight core.status.committed) q) usable none
              where
                by_tests : (a m w f : Bool) → not a && not m ≡ true → w && not (a && f) ≡ false → not a && not m && not w ≡ true
                by_tests true m w f u n = not_so u
                by_tests false true w f u n = not_so u
                by_tests false false true f u n = not_so (sym n)
                by_tests false false false f u n = refl

            by : (b : Bool) → list_any (can_replace core) copies ≡ b → b ≡ true
            by true is = refl
            by false is =
                let one = witness (is_usable core) (λ (q : Pp). can_replace core q || (is_wanted_stale core q && not (is_settled core q))) copies clear.usable (neither (can_replace core) (λ (q : Pp). is_wanted_stale core q && not (is_settled core q)) copies is unsettled_none) in
                let none = or_parts (can_replace core one.0) (is_wanted_stale core one.0 && not (is_settled core one.0)) one.2 in
                not_so (sym none.0 ∙ wanted_so one.0 one.1 none.1)

        left : is_left_behind core copies p ≡ true
        left = ap (λ b. b && not (is_stale core p) && is_missing core p.disk && list_any (can_replace core) copies) among ∙ ap (λ b. not b && is_missing core p.disk && list_any (can_replace core) copies) fresh ∙ ap (λ b. b && list_any (can_replace core) copies) gone ∙ replaced

        in_row : is_entailed_in core row p ≡ true
        in_row = in_range (λ lp. is_left_behind core (copies_of row lp) p) 0 row.lps (lp_of core o.request.ask) low (ap (λ n. is_left_behind core (copies_of row n) p) (zero-add (lp_of core o.request.ask)) ∙ sym (ap (λ ps. is_left_behind core ps p) its) ∙ left)
          where
            low : lp_of core o.request.ask < row.lps
            low =
                let some = laid.within.some in
                let within = laid.within.within in
                div_below (at_of o.request.ask) (partition_blocks core.descriptor.mib) row.lps (some_blocks core.descriptor.mib row.lps (at_of o.request.ask) (omega (arith, some, within))) (turned within some)
              where
                turned : at_of o.request.ask + count_of o.request.ask ≤ volume_blocks core.descriptor.mib row.lps → 1 ≤ count_of o.request.ask → at_of o.request.ask < row.lps * partition_blocks core.descriptor.mib
                turned within some = let same : partition_blocks core.descriptor.mib * row.lps ≡ row.lps * partition_blocks core.descriptor.mib = omega arith in omega (arith, within, some, same)

    -- what isn't usable nor caught up with is left out
    wanted : is_usable core p ≡ false → is_caught core (group_in core o.request.ask) p ≡ false → is_wanted_stale core p ≡ true
    wanted unusable behind = by (is_wanted_stale core p) refl
      where
        gone : (a m : Bool) → a ≡ false → not a && not m ≡ false → m ≡ true
        gone true m e n = not_so (sym e)
        gone false true e n = refl
        gone false false e n = not_so (sym n)

        held : (b : Bool) → is_held_stale core p ≡ b → is_wanted_stale core p ≡ false → is_wanted_stale core p ≡ true
        held true is clear_so = not_so (sym behind ∙ caught (going.clearings p is clear_so))
        held false is clear_so = let fresh = (or_parts (is_stale core p) _ is).0 in entailed fresh (gone (is_stale core p) (is_missing core p.disk) fresh unusable)

        by : (b : Bool) → is_wanted_stale core p ≡ b → is_wanted_stale core p ≡ true
        by true is = is
        by false is = held (is_held_stale core p) refl is

    pub whole : is_among (pps_of o.request.targets.items) p || is_left_out core o.request.ask p ≡ true
    whole = by (is_usable core p || is_caught core (group_in core o.request.ask) p) refl
      where
        settled_so : (w t : Bool) → w ≡ true → w && not t ≡ false → t ≡ true
        settled_so true true e n = refl
        settled_so true false e n = not_so (sym n)
        settled_so false t e n = not_so e

        or_right : (a b : Bool) → b ≡ true → a || b ≡ true
        or_right true b e = refl
        or_right false b e = e

        by : (b : Bool) → is_usable core p || is_caught core (group_in core o.request.ask) p ≡ b → is_among (pps_of o.request.targets.items) p || is_left_out core o.request.ask p ≡ true
        by true is = ap (λ b. b || is_left_out core o.request.ask p) (aimed p ∙ ap (λ b. b || is_among (destination_aims core o.request.ask) p) (among_filter (λ (q : Pp). is_usable core q || is_caught core (group_in core o.request.ask) q) copies p is among))
        by false is =
            let parts = or_parts (is_usable core p) (is_caught core (group_in core o.request.ask) p) is in
            let stale = wanted parts.0 parts.1 in
            or_right (is_among (pps_of o.request.targets.items) p) (is_left_out core o.request.ask p)
            (ap (λ b. b && is_wanted_stale core p && not (is_caught core (group_in core o.request.ask) p)) (settled_so (is_wanted_stale core p) (is_settled core p) stale (settled p among)) ∙ ap (λ b. b && not (is_caught core (group_in core o.request.ask) p)) stale ∙ ap not parts.1)

pub first_start_is_whole : FirstStartIsWhole
first_start_is_whole s place target o sound on there due write begun p among = whole s place target o sound on there due write begun p among
