-- The first transfer that may be started is one that can.
use Rattle.std.proofs.Common.{◌≡◌, ◌==◌, ◌<◌, ◌≤◌, ◌+◌, ◌-◌, ◌*◌, ◌%◌, ℕ, zero, suc, Bool, true, false, ◌&&◌, ◌||◌, not, cond, nat_lt, List, [], ◌∷◌, filter, Option, Some, None, length, slice_get, is_some, is_none, find, if◌then◌else◌, refl, sym, ◌∙◌, ap, subst, arith}
use Rattle.std.specs.Prelude.{IfSome, position}
use Rattle.std.specs.List.{AllByRecursion, list_any, position_or_len}
use Rattle.std.specs.Option.{option_map, option_map_or}
use Rattle.std.proofs.lemmas.Bool.{ltb-true, and_parts as both, not-true}
use Rattle.lvm_num.specs.declared.place.Pp.{Pp}
use Rattle.lvm_num.specs.declared.descriptor.Policy.{Policy}
use Rattle.lvm_num.specs.declared.descriptor.Policy.TheVariants as policy
use Rattle.lvm_num.specs.declared.descriptor.PvRow.{PvRow}
use Rattle.lvm_num.specs.Descriptor.{IsPartitionOf, is_pp}
use Rattle.lvm_num.specs.Disks.{has}
use Rattle.lvm_num.proofs.Lists.{found_any}
use Rattle.lvm_disk.specs.Device.{Device}
use Rattle.lvm_disk.specs.Steps.{IsRange}
use Rattle.lvm_kept.specs.Contents.{note_sector}
use Rattle.lvm_mwc.specs.Cache.{flight_on, is_named}
use Rattle.lvm_vol.specs.declared.entry.Outcome.TheVariants as outcome
use Rattle.lvm_sched.specs.declared.writes.TargetState.{TargetState}
use Rattle.lvm_sched.specs.Writes.{is_flying, is_waiting, next_target}
use Rattle.lvm_path.specs.declared.facts.Facts.{Facts}
use Rattle.lvm_path.specs.declared.facts.Next.{Next}
use Rattle.lvm_path.specs.declared.facts.Next.TheVariants as next
use Rattle.lvm_path.specs.declared.request.Phase.{Phase}
use Rattle.lvm_path.specs.declared.request.Phase.TheVariants as phase
use Rattle.lvm_path.specs.declared.request.Request.{Request}
use Rattle.lvm_path.specs.declared.target.Target.{Target}
use Rattle.lvm_path.specs.Asks.{at_of, count_of, is_write, lv_of}
use Rattle.lvm_path.specs.Targets.{is_begun, is_done, states_of}
use Rattle.lvm_path.specs.Next.{next_chosen, next_data, next_in, next_marked, next_read, next_write, start_or_wait}
use Rattle.lvm_session.specs.declared.bringing.OpenCopy.{OpenCopy}
use Rattle.lvm_session.specs.declared.event.Event.{Event}
use Rattle.lvm_session.specs.declared.event.Event.TheVariants as event
use Rattle.lvm_session.specs.declared.open.Open.{Open}
use Rattle.lvm_session.specs.State.{Core}
use Rattle.lvm_session.specs.declared.bringing.CopyEnd.TheVariants as ending
use Rattle.lvm_session.specs.Bringing.{block_at, end_by_sources, end_of, ends_if, is_cleared, hand_of, is_whole}
use Rattle.lvm_session.specs.Judging.{copies_in, facts_of, group_of, is_missing, is_running, is_stale, is_usable, lp_of}
use Rattle.lvm_session.specs.Enabled.{copy_read, copy_write, data_at, data_start, first_from, first_of, has_buffer, is_status_due, is_unnamed, may_read, may_write, note_at, note_due, note_start, or_next, parts_to_start, status_start, target_due, target_next, wants_record}
use Rattle.lvm_session.specs.Calls.{copy_at}
use Rattle.lvm_moves.proofs.passed.Due.{at_place}
use Rattle.lvm_session.specs.Requests.{IsAimed, IsOpenOne, IsRequest, IsTarget}
use Rattle.lvm_session.specs.Sound.{IsCopy}
use Rattle.lvm_session.proofs.MovesLemmas.{move_of, move_partition, open_one, place_open, stale_of}
use Rattle.lvm_moves.specs.Launching.{HasNote, MayLaunch, MayNote, MayReadCopy, MayStartData, MayWriteCopy}
use Rattle.lvm_moves.specs.Starts.{CanStart, MayStartTransfer}
use Rattle.lvm_moves.proofs.StartsLemmas.Within.{all_copies, among_copies, at_number, blocks_within, note_within, was_there}

-- ---- one event or the other

by_next : {X : Type 0} (a b : Option Event) (it : Event) → or_next a b ≡ Some it → (a ≡ Some it → X) → (b ≡ Some it → X) → X
by_next (Some e) b it is one two = one is
by_next None b it is one two = two is

buffered : (b : Bool) (o : Option Event) (it : Event) → (if b then o else None) ≡ Some it → (b ≡ true) × (o ≡ Some it)
buffered true o it is = (refl, is)
buffered false o it is = absurd (cc is)

due : (b : Bool) (e it : Event) → (if b then Some e else None) ≡ Some it → (b ≡ true) × (e ≡ it)
due true e it is = (refl, cc is)
due false e it is = absurd (cc is)

-- of some request it is made
record IsMade (make : ℕ → Open → Option Event) (from : ℕ) (os : List Open) (it : Event) : Type 0 where
  pub place : ℕ
  pub request : Open
  pub there : slice_get os place ≡ Some request
  pub made : make (from + place) request ≡ Some it

first_made : (make : ℕ → Open → Option Event) (k : ℕ) (os : List Open) (it : Event) → first_from make k os ≡ Some it → IsMade make k os it
first_made make k [] it is = absurd (cc is)
first_made make k (o ∷ os) it is = by_made (make k o) refl is (first_made make (k + 1) os it)
  where
    by_made : (m : Option Event) → make k o ≡ m → or_next m (first_from make (k + 1) os) ≡ Some it → (first_from make (k + 1) os ≡ Some it → IsMade make (k + 1) os it) → IsMade make k (o ∷ os) it
    by_made (Some e) made is rest = record { place = zero; request = o; there = refl; made = (let same : k + 0 ≡ k = omega arith in ap (λ n. make n o) same) ∙ made ∙ is }
    by_made None made is rest =
        let later = rest is in
        record { place = suc later.place; request = later.request; there = later.there; made = (let same : k + suc later.place ≡ k + 1 + later.place = omega arith in ap (λ n. make n later.request) same) ∙ later.made }

-- the event is made of what is there
of_some : (make : ℕ → ℕ → Event) (n : ℕ) (o : Option ℕ) (it : Event) → option_map (make n) o ≡ Some it → (k : ℕ) × (o ≡ Some k) × (make n k ≡ it)
of_some make n None it is = absurd (cc is)
of_some make n (Some k) it is = (k, refl, cc is)

-- ---- notes

-- what is found passes, and so holds of it what holds of all
found : (P : Target → Type 0) (t : Target → Bool) (xs : List Target) (x : Target) → find t xs ≡ Some x → AllByRecursion P xs → (t x ≡ true) × P x
found P t [] x is all = absurd (cc is)
found P t (y ∷ xs) x is all = by_test (λ e. found P t xs x e all.1) (t y) refl is
  where
    by_test : (find t xs ≡ Some x → (t x ≡ true) × P x) → (b : Bool) → t y ≡ b → (if b then Some y else find t xs) ≡ Some x → (t x ≡ true) × P x
    by_test rest true passes e = let same : y ≡ x = cc e in (sym (ap t same) ∙ passes, subst P same all.0)
    by_test rest false passes e = rest e

-- the target on whose disk a note is due
record IsLacked (core : Core) (o : Open) (disk : ℕ) : Type 0 where
  pub target : Target
  pub phase_is : wants_record o.request.phase ≡ true
  pub found : find (is_unnamed core o.request.ask) o.request.targets.items ≡ Some target
  pub on : target.pp.disk ≡ disk

lacked : (core : Core) (o : Open) (disk : ℕ) → note_due core o ≡ Some disk → IsLacked core o disk
lacked core o disk is = by_test (wants_record o.request.phase) o.request.pinned refl (find (is_unnamed core o.request.ask) o.request.targets.items) refl is
  where
    by_test : (a b : Bool) → wants_record o.request.phase ≡ a → (m : Option Target) → find (is_unnamed core o.request.ask) o.request.targets.items ≡ m → (if a && b then option_map (λ (t : Target). t.pp.disk) m else None) ≡ Some disk → IsLacked core o disk
    by_test true true p None f e = absurd (cc e)
    by_test true true p (Some t) f e = record { target = t; phase_is = p; found = f; on = cc e }
    by_test true false p m f e = absurd (cc e)
    by_test false b p m f e = absurd (cc e)

-- one that has landed waits for no record
not_landed : (core : Core) (o : Open) → IsOpenOne core o → wants_record o.request.phase ≡ true → IsRequest core o
not_landed core o one wants = by_landed (is_none o.landed) refl
  where
    by_landed : (b : Bool) → is_none o.landed ≡ b → IsRequest core o
    by_landed true is = one.waits is
    by_landed false is = absurd (let e : true ≡ false = sym wants ∙ ap wants_record (one.over is).phase_is in cc e)

none_of : {X : Type 0} (o : Option X) → is_none o ≡ true → o ≡ None
none_of None is = refl
none_of (Some x) is = absurd (cc is)

-- ---- transfers of requests

-- a target whose transfer is started is one of the request
abbrev IsBelow : ℕ → Next → Type 0
IsBelow n step = (target : ℕ) → target_next step ≡ Some target → target < n

pick : (P : Next → Type 0) (b : Bool) (x y : Next) → P x → P y → P (if b then x else y)
pick P true x y one two = one
pick P false x y one two = two

below : (n m t : ℕ) (b : Bool) → nat_lt n m ≡ b → ◌≡◌ {A = Option ℕ} (cond b (Some n) None) (Some t) → t < m
below n m t true is e = let same : n ≡ t = cc e in let less = ltb-true n m is in omega (arith, same, less)
below n m t false is e = absurd (cc e)

within : {A : Type 0} (p : A → Bool) (xs : List A) (t : ℕ) → position p xs ≡ Some t → t < length xs
within p xs t is = below (position_or_len p xs) (length xs) t (nat_lt (position_or_len p xs) (length xs)) refl is

states_length : (ts : List Target) → length (states_of ts) ≡ length ts
states_length [] = refl
states_length (t ∷ ts) = ap suc (states_length ts)

place_within : (how : Policy) (states : List TargetState) (t : ℕ) → next_target how states ≡ Some t → t < length states
place_within policy.Sequential states t is = by_test (list_any is_flying states) is
  where
    by_test : (b : Bool) → (if b then None else position is_waiting states) ≡ Some t → t < length states
    by_test true e = absurd (cc e)
    by_test false e = within is_waiting states t e
place_within policy.Parallel states t is = within is_waiting states t is
place_within policy.ParallelWrite states t is = within is_waiting states t is
place_within policy.RoundRobin states t is = within is_waiting states t is

write_below : (how : Policy) (ts : List Target) → IsBelow (length ts) (next_write how ts)
write_below how ts target is = by_place (next_target how (states_of ts)) refl is
  where
    by_place : (o : Option ℕ) → next_target how (states_of ts) ≡ o → target_next (start_or_wait o) ≡ Some target → target < length ts
    by_place None at e = absurd (cc e)
    by_place (Some t) at e = let same : t ≡ target = cc e in let less = place_within how (states_of ts) t at in let long = states_length ts in omega (arith, same, less, long)

no_start : (n : ℕ) (x : Next) → target_next x ≡ None → IsBelow n x
no_start n x none target is = absurd (let e : None ≡ Some target = sym none ∙ is in cc e)

read_below : (ts : List Target) → IsBelow (length ts) (next_read ts)
read_below ts =
    pick (IsBelow (length ts)) (list_any (λ (t : Target). is_done t.state) ts) (next.Land outcome.Got) _ (no_start (length ts) (next.Land outcome.Got) refl)
    (pick (IsBelow (length ts)) (list_any (λ (t : Target). is_flying t.state) ts) next.Wait _ (no_start (length ts) next.Wait refl) (by_place (position (λ (t : Target). is_waiting t.state) ts) refl))
  where
    by_place : (o : Option ℕ) → position (λ (t : Target). is_waiting t.state) ts ≡ o → IsBelow (length ts) (option_map_or next.Start o (next.Land outcome.ReadFailed))
    by_place None at target e = absurd (cc e)
    by_place (Some t) at target e = let same : t ≡ target = cc e in let less = within (λ (x : Target). is_waiting x.state) ts t at in omega (arith, same, less)

chosen_below : (n : ℕ) (k : Facts) (on : Next) → IsBelow n on → IsBelow n (next_chosen k on)
chosen_below n k on less =
    pick (IsBelow n) k.pending on _ less
    (pick (IsBelow n) (not k.usable) (next.Land outcome.NoFresh) _ (no_start n (next.Land outcome.NoFresh) refl) (pick (IsBelow n) k.changed next.Admit on (no_start n next.Admit refl) less))

next_below : (p : Phase) (k : Facts) (r : Request) → IsBelow (length r.targets.items) (next_in p k r)
next_below phase.Held k r =
    let n = length r.targets.items in
    pick (IsBelow n) (k.blocked || k.pending) next.Wait _ (no_start n next.Wait refl) (pick (IsBelow n) k.usable next.Admit (next.Land outcome.NoFresh) (no_start n next.Admit refl) (no_start n (next.Land outcome.NoFresh) refl))
next_below phase.WantEntry k r =
    let n = length r.targets.items in
    chosen_below n k (if k.pinned then next.Wait else next.Pin) (pick (IsBelow n) k.pinned next.Wait next.Pin (no_start n next.Wait refl) (no_start n next.Pin refl))
next_below phase.WantRecord k r =
    let n = length r.targets.items in
    chosen_below n k (if k.named && k.dirty && not k.pending then next_write r.policy r.targets.items else next.Wait)
    (pick (IsBelow n) (k.named && k.dirty && not k.pending) (next_write r.policy r.targets.items) next.Wait (write_below r.policy r.targets.items) (no_start n next.Wait refl))
next_below phase.Data k r =
    let n = length r.targets.items in
    let on = if k.pending then next.Wait else next_write r.policy r.targets.items in
    pick (IsBelow n) (is_write r.ask) (next_data k r) (next_read r.targets.items)
    (pick (IsBelow n) (is_begun r.targets.items) (next_write r.policy r.targets.items) (next_chosen k on) (write_below r.policy r.targets.items)
    (chosen_below n k on (pick (IsBelow n) k.pending next.Wait (next_write r.policy r.targets.items) (no_start n next.Wait refl) (write_below r.policy r.targets.items))))
    (read_below r.targets.items)
next_below phase.WantStatus k r = no_start (length r.targets.items) (next_marked k) (by_test k.marked)
  where
    by_test : (b : Bool) → target_next (if b then next.Land (if k.kept then outcome.Done else outcome.Lost) else next.Wait) ≡ None
    by_test true = refl
    by_test false = refl
next_below phase.Landed k r = no_start (length r.targets.items) next.Wait refl

aim_there : (ts : List Target) (k : ℕ) → k < length ts → (t : Target) × (slice_get ts k ≡ Some t)
aim_there [] k less = absurd (omega (arith, less))
aim_there (t ∷ ts) zero less = (t, refl)
aim_there (t ∷ ts) (suc k) less = aim_there ts k (omega (arith, less))

target_at : (P : Target → Type 0) (ts : List Target) (k : ℕ) (t : Target) → slice_get ts k ≡ Some t → AllByRecursion P ts → P t
target_at P [] k t is all = absurd (cc is)
target_at P (x ∷ ts) zero t is all = let same : x ≡ t = cc is in subst P same all.0
target_at P (x ∷ ts) (suc k) t is all = target_at P ts k t is all.1

-- one that has landed starts nothing
started : (core : Core) (o : Open) (target : ℕ) → IsOpenOne core o → target_due core o ≡ Some target → IsRequest core o
started core o target one is = by_landed (is_none o.landed) refl
  where
    by_landed : (b : Bool) → is_none o.landed ≡ b → IsRequest core o
    by_landed true waits = one.waits waits
    by_landed false over = absurd (let e : None ≡ Some target = ap (λ p. target_next (next_in p (facts_of core o.request) o.request)) (sym (one.over over).phase_is) ∙ is in cc e)

-- ---- the copy

copy_of : (t : OpenCopy → Bool) (o : Option OpenCopy) → option_map_or t o false ≡ true → (c : OpenCopy) × (o ≡ Some c) × (t c ≡ true)
copy_of t None is = absurd (cc is)
copy_of t (Some c) is = (c, refl, is)

sourced : (P : Pp → Type 0) (t f : Pp → Bool) (ps : List Pp) (p : Pp) → find t (filter f ps) ≡ Some p → AllByRecursion P ps → (f p ≡ true) × P p
sourced P t f [] p is all = absurd (cc is)
sourced P t f (q ∷ ps) p is all = by_test (λ e. sourced P t f ps p e all.1) (f q) refl is
  where
    by_test : (find t (filter f ps) ≡ Some p → (f p ≡ true) × P p) → (b : Bool) → f q ≡ b → find t (if b then q ∷ filter f ps else filter f ps) ≡ Some p → (f p ≡ true) × P p
    by_test rest true kept e = by_find rest (t q) e
      where
        by_find : (find t (filter f ps) ≡ Some p → (f p ≡ true) × P p) → (b : Bool) → (if b then Some q else find t (filter f ps)) ≡ Some p → (f p ≡ true) × P p
        by_find more true got = let same : q ≡ p = cc got in (sym (ap f same) ∙ kept, subst P same all.0)
        by_find more false got = more got
    by_test rest false kept e = rest e

its_copy : (P : OpenCopy → Type 0) (o : Option OpenCopy) (c : OpenCopy) → IfSome o P → o ≡ Some c → P c
its_copy P None c it is = absurd (cc is)
its_copy P (Some d) c it is = let same : d ≡ c = cc is in subst P same it

own : (ps : List Pp) (number : ℕ) (p : Pp) → copy_at ps number ≡ Some p → slice_get ps (number - 1) ≡ Some p
own ps number p is = by_test (number == 0) is
  where
    by_test : (b : Bool) → (if b then None else slice_get ps (number - 1)) ≡ Some p → slice_get ps (number - 1) ≡ Some p
    by_test true e = absurd (cc e)
    by_test false e = e

in_group : (mib lp cursor : ℕ) → (2048 * mib * lp + 256 * cursor) % 256 + 256 ≤ 256
in_group mib lp cursor = let same = low (mib * lp) cursor in let turned : 2048 * mib * lp ≡ 2048 * (mib * lp) = grind (arith) in let both = ap (λ n. (n + 256 * cursor) % 256) turned in omega (arith, same, both)
  where
    low : (x k : ℕ) → (2048 * x + 256 * k) % 256 ≡ 0
    low x k = omega arith

not_missing : (core : Core) (c : OpenCopy) → is_running c ≡ true → end_of core c ≡ None → is_missing core c.pp.disk ≡ false
not_missing core c running none = by_test (is_running c) (is_missing core c.pp.disk) running none
  where
    by_test : (a b : Bool) → a ≡ true → (if not a then None else if b then Some ending.SyncFailed else if is_whole core c then ends_if (is_cleared core c) ending.Done else end_by_sources core c) ≡ None → b ≡ false
    by_test true true r e = absurd (cc e)
    by_test true false r e = refl
    by_test false b r e = absurd (cc r)

module _ (device : Device) (core : Core) (may : MayStartTransfer device core) where
  its_one : (place : ℕ) (o : Open) → slice_get core.requests place ≡ Some o → IsOpenOne core o
  its_one place o there = at_place (IsOpenOne core) core.requests place o may.flight.going.requests there

  target_of_member : (o : Open) (t : Target) → IsTarget core o.request.ask t → IsPartitionOf core.descriptor t.pp
  target_of_member o t its = aimed t.moves its.copy
    where
      aimed : (b : Bool) → IsAimed b core o.request.ask t → IsPartitionOf core.descriptor t.pp
      aimed false among = among_copies core (lv_of o.request.ask) (lp_of core o.request.ask) device t.pp may among
      aimed true place =
          let at = place_open core o.request.ask t.pp place.0 in
          subst (IsPartitionOf core.descriptor) (sym at.is) (move_partition core at.copy (move_of core at.copy (open_one core at.copy at.is_open may.flight.going.copy) at.moves))

  may_note : (place : ℕ) (o : Open) (disk : ℕ) → slice_get core.requests place ≡ Some o → note_due core o ≡ Some disk → MayNote device core place disk
  may_note place o disk there is =
      let lack = lacked core o disk is in
      let its = not_landed core o (its_one place o there) lack.phase_is in
      let passes = found (IsTarget core o.request.ask) (is_unnamed core o.request.ask) o.request.targets.items lack.target lack.found its.shape.targets in
      let target = lack.target in
      let front = (both (not (is_missing core target.pp.disk) && is_none (flight_on core.cache target.pp.disk)) (not (is_named core.cache target.pp.disk (lv_of o.request.ask) (group_of o.request.ask))) passes.0).0 in
      let parts = both (not (is_missing core target.pp.disk)) (is_none (flight_on core.cache target.pp.disk)) front in
      let of = target_of_member o target passes.1 in
      record {
        request = o;
        there = there;
        due = is;
        note = subst (HasNote core.cache) lack.on (record { its = may.flight.going.fitting.notes target.pp.disk ∙ found_any (λ (row : PvRow). row.disk == target.pp.disk) core.descriptor.pvs of.0 of.1; none = none_of (flight_on core.cache target.pp.disk) parts.1 });
        range = subst (λ d. IsRange device d note_sector 1) lack.on (note_within device core may target.pp of passes.1.there);
      }

  may_start_data : (place : ℕ) (o : Open) (target : ℕ) → slice_get core.requests place ≡ Some o → target_due core o ≡ Some target → MayStartData device core place target
  may_start_data place o target there is =
      let aim = aim_there o.request.targets.items target (next_below o.request.phase (facts_of core o.request) o.request target is) in
      let one = its_one place o there in
      let its = started core o target one is in
      let at = target_at (IsTarget core o.request.ask) o.request.targets.items target aim.0 aim.1 its.shape.targets in
      record {
        due = record { request = o; there = there; due = is; aim = aim.0; aim_is = aim.1 };
        range = subst (λ n. IsRange device aim.0.pp.disk n (count_of o.request.ask)) (sym at.sector) (blocks_within device core may aim.0.pp (at_of o.request.ask) (count_of o.request.ask) (target_of_member o aim.0 at) at.there one.laid.blocks.some one.laid.blocks.group);
      }

  may_read_copy : (c : OpenCopy) → core.copy ≡ Some c → may_read core c ≡ true → MayReadCopy device core
  may_read_copy c is_open reads = record {
    copy = c;
    is_open = is_open;
    may = reads;
    range = λ source is.
        let it = sourced (IsPartitionOf core.descriptor) (λ (p : Pp). not (has c.tried p.disk)) (λ (p : Pp). not (is_pp p c.pp) && is_usable core p) (copies_in core.descriptor c.lv c.lp) source is (all_copies core c.lv c.lp device may) in
        let usable = (both (not (is_pp source c.pp)) (is_usable core source) it.0).1 in
        let there = not-true (is_missing core source.disk) (both (not (is_stale core source)) (not (is_missing core source.disk)) usable).1 in
        blocks_within device core may source (block_at core c) 256 it.1 (was_there device core may source.disk there) (omega arith) (in_group core.descriptor.mib c.lp c.cursor);
  }

  -- a copy that is open stands on a member, or moves there
  of_kind : (c : OpenCopy) → IsCopy core c → (b : Bool) → c.moves ≡ b → IsPartitionOf core.descriptor c.pp
  of_kind c its false stays =
      at_number (IsPartitionOf core.descriptor) (copies_in core.descriptor c.lv c.lp) (c.copy - 1) c.pp (own (copies_in core.descriptor c.lv c.lp) c.copy c.pp (stale_of core c its stays).its) (all_copies core c.lv c.lp device may)
  of_kind c its true moves = move_partition core c (move_of core c its moves)

  may_write_copy : (c : OpenCopy) → core.copy ≡ Some c → may_write c ≡ true → MayWriteCopy device core
  may_write_copy c is_open writes =
      let of = of_kind c (its_copy (IsCopy core) core.copy c may.flight.going.copy is_open) c.moves refl in
      let running = (both (is_running c) (is_some (hand_of c.step)) writes).0 in
      let stays = ap (λ (o : Option OpenCopy). option_map_or (end_of core) o None) (sym is_open) ∙ may.flight.going.reviewed in
      record {
        copy = c;
        is_open = is_open;
        may = writes;
        range = blocks_within device core may c.pp (block_at core c) 256 of (was_there device core may c.pp.disk (not_missing core c running stays)) (omega arith) (in_group core.descriptor.mib c.lp c.cursor);
      }

  launch : has_buffer core ≡ true → MayLaunch device core
  launch buffer = record { flight = may.flight; buffer = buffer }

  can_status : (it : Event) → status_start core ≡ Some it → CanStart it device core
  can_status it is =
      let there = buffered (has_buffer core) (if is_status_due core then Some event.StartStatus else None) it is in
      let wants = due (is_status_due core) event.StartStatus it there.1 in
      subst (λ (e : Event). CanStart e device core) wants.1 (launch there.0, record { due = wants.0; votes = may.votes; placed = λ row among here. may.placed row among (was_there device core may row.disk here) })

  can_note : (it : Event) → note_start core ≡ Some it → CanStart it device core
  can_note it is =
      let there = buffered (has_buffer core) (first_from (note_at core) 0 core.requests) it is in
      let made = first_made (note_at core) 0 core.requests it there.1 in
      let own = of_some event.StartNote (0 + made.place) (note_due core made.request) it made.made in
      subst (λ (e : Event). CanStart e device core) own.2 (launch there.0, may_note (0 + made.place) made.request own.0 ((let same : 0 + made.place ≡ made.place = omega arith in ap (slice_get core.requests) same) ∙ made.there) own.1)

  can_data : (it : Event) → data_start core ≡ Some it → CanStart it device core
  can_data it is =
      let there = buffered (has_buffer core) (first_from (data_at core) 0 core.requests) it is in
      let made = first_made (data_at core) 0 core.requests it there.1 in
      let own = of_some event.StartData (0 + made.place) (target_due core made.request) it made.made in
      subst (λ (e : Event). CanStart e device core) own.2 (launch there.0, may_start_data (0 + made.place) made.request own.0 ((let same : 0 + made.place ≡ made.place = omega arith in ap (slice_get core.requests) same) ∙ made.there) own.1)

  can_read : (it : Event) → copy_read core ≡ Some it → CanStart it device core
  can_read it is =
      let there = buffered (has_buffer core) (if option_map_or (may_read core) core.copy false then Some event.ReadCopy else None) it is in
      let wants = due (option_map_or (may_read core) core.copy false) event.ReadCopy it there.1 in
      let c = copy_of (may_read core) core.copy wants.0 in
      subst (λ (e : Event). CanStart e device core) wants.1 (launch there.0, may_read_copy c.0 c.1 c.2)

  can_write : (it : Event) → copy_write core ≡ Some it → CanStart it device core
  can_write it is =
      let wants = due (option_map_or may_write core.copy false) event.WriteCopy it is in
      let c = copy_of may_write core.copy wants.0 in
      subst (λ (e : Event). CanStart e device core) wants.1 (may.flight, may_write_copy c.0 c.1 c.2)

  -- the first transfer that may be started can be
  pub first_can : (it : Event) → first_of parts_to_start core ≡ Some it → CanStart it device core
  first_can it is =
      by_next (status_start core) _ it is (can_status it) (λ past_status.
      by_next (note_start core) _ it past_status (can_note it) (λ past_notes.
      by_next (data_start core) _ it past_notes (can_data it) (λ past_data.
      by_next (copy_read core) _ it past_data (can_read it) (λ past_read.
      by_next (copy_write core) None it past_read (can_write it) (λ none. absurd (cc none))))))
