-- The end of a write and its review leave less work.
use Rattle.std.proofs.Common.{◌≡◌, ◌⊎◌, inl, inr, ◌≤◌, ◌<◌, ◌+◌, ◌++◌, ◌*◌, ℕ, Bool, true, false, ◌&&◌, ◌||◌, not, nat_lt, if◌then◌else◌, List, [], ◌∷◌, Option, Some, None, filter, length, refl, sym, ◌∙◌, ap, subst, arith}
use Rattle.std.specs.Prelude.{IfSome, count_by, option_and_then, sum_by, unwrap_or}
use Rattle.std.specs.Option.{option_map_or}
use Rattle.std.proofs.lemmas.List.Sums.{sum_by-cons}
use Rattle.arrayvec.specs.ArrayVec.{ArrayVec}
use Rattle.lvm_num.specs.declared.descriptor.Descriptor.{Descriptor}
use Rattle.lvm_num.specs.declared.descriptor.PvRow.{PvRow}
use Rattle.lvm_num.specs.declared.place.Pp.{Pp}
use Rattle.lvm_num.specs.declared.record.NoteEntry.{NoteEntry}
use Rattle.lvm_num.specs.declared.status.Status.{Status}
use Rattle.lvm_num.specs.Descriptor.{is_member, is_pp}
use Rattle.lvm_num.specs.Disks.{has}
use Rattle.lvm_num.specs.Status.{calls_stale}
use Rattle.lvm_num.specs.Votes.{is_enough_to_write}
use Rattle.lvm_num.proofs.VotesLemmas.{more_have_more, more_is_enough}
use Rattle.lvm_mwc.specs.Cache.{flight_names, is_named, notes_on}
use Rattle.lvm_mwc.specs.Notes.{both_name, names_group}
use Rattle.lvm_mwc.specs.declared.notes.DiskNotes.{DiskNotes}
use Rattle.lvm_path.specs.declared.ask.Ask.{Ask}
use Rattle.lvm_path.specs.declared.request.Phase.{Phase}
use Rattle.lvm_path.specs.declared.request.Phase.TheVariants as phase
use Rattle.lvm_path.specs.declared.request.Request.{Request}
use Rattle.lvm_path.specs.declared.target.Target.{Target}
use Rattle.lvm_path.specs.Asks.{is_write, lv_of}
use Rattle.lvm_path.specs.Targets.{is_begun}
use Rattle.lvm_status.specs.Update.{Updates}
use Rattle.lvm_session.specs.declared.bringing.OpenCopy.{OpenCopy}
use Rattle.lvm_session.specs.declared.open.Open.{Open}
use Rattle.lvm_session.specs.declared.open.Power.TheVariants as power
use Rattle.lvm_session.specs.State.{Core, is_there, votes_there}
use Rattle.lvm_session.specs.Judging.{aims, copies_for, copies_in, group_in, group_of, is_caught, is_changed, is_missing, is_running, is_settled, is_stale, is_usable, is_waiting, lp_of, mode_of, destination_aims, destinations_for, pps_of, same_pps}
use Rattle.lvm_session.specs.Bringing.{copy_ends, end_of, is_whole}
use Rattle.lvm_session.specs.Enabled.{is_lost, same_status}
use Rattle.lvm_num.specs.Modes.{is_passive}
use Rattle.lvm_num.proofs.Booleans.{not_so, not_either}
use Rattle.lvm_session.specs.Left.{begun_left, copy_left, if_so, is_brought_up, is_held, lacks_dirty, lacks_note, left_by, left_of, phase_left, destination_turns, read_left, request_left, status_left, turns_of, unbegun_left, unstarted_writes, update_work, work_left, write_left}
use Rattle.lvm_session.specs.Marks.{is_among}
use Rattle.lvm_session.specs.Sound.{IsCopy, IsStaleCopy, count_if}
use Rattle.lvm_session.proofs.MovesLemmas.{move_of, stale_of}
use Rattle.lvm_keeps.proofs.CacheLemmas.{no_copy}
use Rattle.lvm_keeps.proofs.Small.{both, is_false}
use Rattle.lvm_keeps.proofs.FallsLemmas.Landing.{left_some}
use Rattle.lvm_keeps_events.proofs.EndsLemmas.CopyReadFail.{is_here, pp_is}
use Rattle.lvm_keeps_events.proofs.JudgingLemmas.DuesMarks.{own_pp}
use Rattle.lvm_keeps_events.proofs.Lists.{or_true}
use Rattle.lvm_keeps_events.proofs.SoundLemmas.Copies.{Brings, Fewer}
use Rattle.lvm_keeps_events.proofs.Finding.{any_known, count_with, sum_on}
use Rattle.lvm_keeps_events.proofs.CallsLemmas.{in_flight_of}
use Rattle.lvm_keeps_events.proofs.Keeping.{dirty_same, there_by}
use Rattle.lvm_keeps_events.proofs.JudgingLemmas.Review.{WriteEnd, Reviewed, and_of, flies_is, mid, missing_is, missing_on, nothing_new, now, of_now, settled_on, was_there}

-- ---- what a copy may still make of a write

-- what is brought up is on a disk that is there
up_there : (core : Core) → copy_ends core ≡ None → (p : Pp) → is_brought_up core p ≡ true → is_missing core p.disk ≡ false
up_there core still p is = by core.copy still is
  where
    by : (m : Option OpenCopy) → option_map_or (end_of core) m None ≡ None → option_map_or (λ (c : OpenCopy). is_running c && is_pp p c.pp) m false ≡ true → is_missing core p.disk ≡ false
    by None i j = not_so j
    by (Some c) i j = let parts = both (is_running c) (is_pp p c.pp) j in ap (λ (q : Pp). is_missing core q.disk) (sym (pp_is p c.pp parts.1)) ∙ is_here core c parts.0 i

-- where it is a copy it is stale
up_stale : (core : Core) → IfSome core.copy (IsCopy core) → (lv lp : ℕ) (p : Pp) → is_among (copies_in core.descriptor lv lp) p ≡ true → is_brought_up core p ≡ true → is_stale core p ≡ true
up_stale core its lv lp p among is = by core.copy its is
  where
    by : (m : Option OpenCopy) → IfSome m (IsCopy core) → option_map_or (λ (c : OpenCopy). is_running c && is_pp p c.pp) m false ≡ true → is_stale core p ≡ true
    by None k j = not_so j
    by (Some c) k j = ap (is_stale core) (sym same) ∙ of_kind c.moves refl
      where
        parts : (is_running c ≡ true) × (is_pp p c.pp ≡ true)
        parts = both (is_running c) (is_pp p c.pp) j

        same : c.pp ≡ p
        same = pp_is p c.pp parts.1

        stale : IsStaleCopy core c → (b : Bool) → is_whole core c ≡ b → is_stale core c.pp ≡ true
        stale it true whole = (it.clearing parts.0 whole).0
        stale it false short = (both (is_stale core c.pp) (calls_stale (in_flight_of core) c.pp) (it.stale parts.0 short).0).0

        of_kind : (b : Bool) → c.moves ≡ b → is_stale core c.pp ≡ true
        of_kind false stays = stale (stale_of core c k stays) (is_whole core c) refl
        of_kind true moves = not_so (sym (no_copy core.descriptor lv lp c.pp (move_of core c k moves).free) ∙ ap (is_among (copies_in core.descriptor lv lp)) same ∙ among)

caught_up : (core : Core) (group : ℕ) (p : Pp) → is_caught core group p ≡ true → is_brought_up core p ≡ true
caught_up core group p is = by core.copy is
  where
    by : (m : Option OpenCopy) → option_map_or (λ (c : OpenCopy). is_running c && is_pp p c.pp && nat_lt group c.cursor) m false ≡ true → option_map_or (λ (c : OpenCopy). is_running c && is_pp p c.pp) m false ≡ true
    by None i = i
    by (Some c) i = (both (is_running c && is_pp p c.pp) (nat_lt group c.cursor) i).0

abbrev turns_by : Bool → Bool → Bool → Bool → ℕ
turns_by m u b s = if m then 0 else if u then (if b then 34 else 22) else if b then 46 else if s then 0 else 34

-- what is so before and after, for one copy: missing, usable, brought up, settled as stale and caught up with
record AreTurns (m n u v b d s t c k : Bool) : Type 0 where
  gone : m ≡ true → n ≡ true
  up : d ≡ true → b ≡ true
  settled : s ≡ true → t ≡ true
  unusable : b ≡ true → u ≡ false
  there : b ≡ true → m ≡ false
  unusable_now : d ≡ true → v ≡ false
  there_now : d ≡ true → n ≡ false
  gone_unusable : m ≡ true → u ≡ false
  gone_unusable_now : n ≡ true → v ≡ false
  caught : c ≡ true → b ≡ true
  caught_now : k ≡ true → d ≡ true
  carried : d ≡ true → k ≡ c
  became : u ≡ true → v ≡ false → n ≡ false → t ≡ true
  stale_now : t ≡ true → v ≡ false

-- its turns are no more, and fewer where a write would go there and doesn't any more, or the other way round
turns_drop : (m n u v b d s t c k : Bool) → AreTurns m n u v b d s t c k → ((v || k ≡ u || c) × (turns_by n v d t ≤ turns_by m u b s)) ⊎ (turns_by n v d t + 12 ≤ turns_by m u b s)
turns_drop true false u v b d s t c k its = not_so (its.gone refl)
turns_drop true true true v b d s t c k its = not_either (its.gone_unusable refl)
turns_drop true true false true b d s t c k its = not_either (its.gone_unusable_now refl)
turns_drop true true false false true d s t c k its = not_either (its.there refl)
turns_drop true true false false false true s t c k its = not_either (its.there_now refl)
turns_drop true true false false false false s t true k its = not_so (its.caught refl)
turns_drop true true false false false false s t false true its = not_so (its.caught_now refl)
turns_drop true true false false false false s t false false its = inl (refl, omega arith)
turns_drop false true u true b d s t c k its = not_either (its.gone_unusable_now refl)
turns_drop false true u false b true s t c k its = not_either (its.there_now refl)
turns_drop false true u false b false s t c true its = not_so (its.caught_now refl)
turns_drop false true true false true false s t c false its = inr (omega arith)
turns_drop false true true false false false s t c false its = inr (omega arith)
turns_drop false true false false true false s t c false its = inr (omega arith)
turns_drop false true false false false false s t true false its = not_so (its.caught refl)
turns_drop false true false false false false s t false false its = inl (refl, omega arith)
turns_drop false false true v true d s t c k its = not_either (its.unusable refl)
turns_drop false false true v false true s t c k its = not_so (its.up refl)
turns_drop false false true v false false s t true k its = not_so (its.caught refl)
turns_drop false false true v false false s t false true its = not_so (its.caught_now refl)
turns_drop false false true true false false s t false false its = inl (refl, omega arith)
turns_drop false false true false false false s true false false its = inr (omega arith)
turns_drop false false true false false false s false false false its = not_so (its.became refl refl refl)
turns_drop false false false true true true s t c k its = not_either (its.unusable_now refl)
turns_drop false false false false true true s t c k its = inl (its.carried refl, omega arith)
turns_drop false false false v true false s t c true its = not_so (its.caught_now refl)
turns_drop false false false true true false s t c false its = inr (omega arith)
turns_drop false false false false true false s true c false its = inr (omega arith)
turns_drop false false false false true false s false c false its = inr (omega arith)
turns_drop false false false v false true s t c k its = not_so (its.up refl)
turns_drop false false false v false false s t true k its = not_so (its.caught refl)
turns_drop false false false v false false s t false true its = not_so (its.caught_now refl)
turns_drop false false false v false false true false false false its = not_so (its.settled refl)
turns_drop false false false true false false true true false false its = not_either (its.stale_now refl)
turns_drop false false false false false false true true false false its = inl (refl, omega arith)
turns_drop false false false true false false false t false false its = inr (omega arith)
turns_drop false false false false false false false true false false its = inl (refl, omega arith)
turns_drop false false false false false false false false false false its = inl (refl, omega arith)

-- ---- a request

-- something is left of one that waits
pub waiting_low : (core : Core) (os : List Open) → count_by is_waiting os ≤ sum_by (request_left core) os
waiting_low core os = sum_on (request_left core) (λ (o : Open). count_if (is_waiting o)) one os
  where
    one : (o : Open) → count_if (is_waiting o) ≤ request_left core o
    one o = by (is_waiting o) (left_some core o)
      where
        by : (b : Bool) → 1 ≤ (if is_write o.request.ask then write_left core o.request else read_left o.request.phase o.request) → count_if b ≤ if_so b (if is_write o.request.ask then write_left core o.request else read_left o.request.phase o.request)
        by true some = some
        by false some = omega arith

-- no note is to be started for it that wasn't
pub phase_less : (core after : Core) (r : Request) → ((t : Target) → lacks_note after r t ≡ true → lacks_note core r t ≡ true) → (p : Phase) → phase_left p after r ≤ phase_left p core r
phase_less core after r less phase.Held = omega arith
phase_less core after r less phase.WantEntry = omega arith
phase_less core after r less phase.WantRecord = let few = count_with (λ (t : Target). Unit {0}) (lacks_note core r) (lacks_note after r) (λ t known. less t) r.targets.items (any_known r.targets.items) in omega (arith, few)
phase_less core after r less phase.Data = omega arith
phase_less core after r less phase.WantStatus = omega arith
phase_less core after r less phase.Landed = omega arith

pub request_by : (w k b : Bool) (n m y z : ℕ) → n ≤ m → if_so w (if k then (if b then y else n) else z) ≤ if_so w (if k then (if b then y else m) else z)
request_by false k b n m y z less = omega arith
request_by true false b n m y z less = omega arith
request_by true true true n m y z less = omega arith
request_by true true false n m y z less = less

-- ---- all of it

pub left_is : (c : Core) (b : Bool) → c.power ≡ power.On → is_lost c ≡ b → left_of c ≡ (if b then length c.flying + count_by is_waiting c.requests else work_left c)
left_is c b lit lost = ap (λ p. left_by p c) lit ∙ ap (λ t. if t then length c.flying + count_by is_waiting c.requests else work_left c) lost

abbrev flight_left : Core → ℕ
flight_left core = option_map_or (λ (u : Status). 2 * unstarted_writes core) core.status.in_flight 0

status_is : (core : Core) → status_left core ≡ flight_left core + if_so (not (same_status core.status.wanted (in_flight_of core))) update_work
status_is core = by core.status.in_flight
  where
    by : (m : Option Status) → option_map_or (λ (u : Status). 2 * unstarted_writes core + if_so (not (same_status core.status.wanted u)) update_work) m (if_so (not (same_status core.status.wanted core.status.committed)) update_work)
        ≡ option_map_or (λ (u : Status). 2 * unstarted_writes core) m 0 + if_so (not (same_status core.status.wanted (unwrap_or m core.status.committed))) update_work
    by None = omega arith
    by (Some u) = refl

pub at_most_update : (b : Bool) → if_so b update_work ≤ 256
at_most_update true = omega arith
at_most_update false = omega arith

module _ (e : WriteEnd) (r : Reviewed e) (brings : Brings e r) (noted : (d : ℕ) → is_missing (mid e) d ≡ false → notes_on (mid e).cache d ≡ notes_on e.core.cache d) (shorter : length e.flying + 1 ≡ length e.core.flying) where
  abbrev core : Core
  core = e.core

  abbrev after : Core
  after = now e r

  still_there : (d : ℕ) → is_missing after d ≡ false → (is_missing (mid e) d ≡ false) × (is_missing core d ≡ false)
  still_there d there = let so = sym (missing_is e r d) ∙ there in (so, was_there e d so)

  -- ---- the copies of a request

  settled_stale : (k : Core) (p : Pp) → is_settled k p ≡ true → is_usable k p ≡ false
  settled_stale k p is = ap (λ b. not b && not (is_missing k p.disk)) (both (is_stale k p) (calls_stale (in_flight_of k) p) is).0

  stale_unusable : (k : Core) (p : Pp) → is_stale k p ≡ true → is_usable k p ≡ false
  stale_unusable k p is = ap (λ b. not b && not (is_missing k p.disk)) is

  gone_unusable : (k : Core) (p : Pp) → is_missing k p.disk ≡ true → is_usable k p ≡ false
  gone_unusable k p is = ap (λ b. not (is_stale k p) && not b) is ∙ and_false (not (is_stale k p))
    where
      and_false : (a : Bool) → a && false ≡ false
      and_false true = refl
      and_false false = refl

  turns : (ask : Ask) (group : ℕ) (p : Pp) → is_among (copies_for core ask) p ≡ true → AreTurns (is_missing core p.disk) (is_missing after p.disk) (is_usable core p) (is_usable after p) (is_brought_up core p) (is_brought_up after p) (is_settled core p) (is_settled after p) (is_caught core group p) (is_caught after group p)
  turns ask group p among = record {
    gone = λ is. missing_is e r p.disk ∙ missing_on e p.disk is;
    up = brings.brought p;
    settled = settled_on e r p;
    unusable = λ is. stale_unusable core p (up_stale core e.going.copy (lv_of ask) (lp_of core ask) p among is);
    there = up_there core e.going.reviewed p;
    unusable_now = λ is. stale_unusable after p (up_stale after brings.copy (lv_of ask) (lp_of core ask) p among is);
    there_now = up_there after brings.reviewed p;
    gone_unusable = gone_unusable core p;
    gone_unusable_now = gone_unusable after p;
    caught = caught_up core group p;
    caught_now = caught_up after group p;
    carried = brings.carried group p;
    became = λ was is there. became was is there;
    stale_now = settled_stale after p;
  }
    where
      became : is_usable core p ≡ true → is_usable after p ≡ false → is_missing after p.disk ≡ false → is_settled after p ≡ true
      became was is there =
          ap (λ (s : Status). calls_stale r.status.committed p && calls_stale s p) (flies_is e r)
          ∙ of_now e r (λ s. calls_stale s p ≡ true → calls_stale s p && calls_stale (in_flight_of core) p ≡ true) (λ stale. not_so (sym (is_false (is_stale core p) (both (not (is_stale core p)) (not (is_missing core p.disk)) was).0) ∙ stale))
          (λ stale. and_of (calls_stale (in_flight_of core) p) (calls_stale (in_flight_of core) p) stale stale) (stale_so (is_stale after p) (is_missing after p.disk) there is)
        where
          stale_so : (a m : Bool) → m ≡ false → not a && not m ≡ false → a ≡ true
          stale_so true m i j = refl
          stale_so false true i j = not_so (sym i)
          stale_so false false i j = not_so (sym j)

  one_drop : (ask : Ask) (group : ℕ) (p : Pp) → is_among (copies_for core ask) p ≡ true → ((is_usable after p || is_caught after group p ≡ is_usable core p || is_caught core group p) × (turns_of after p ≤ turns_of core p)) ⊎ (turns_of after p + 12 ≤ turns_of core p)
  one_drop ask group p among = turns_drop (is_missing core p.disk) (is_missing after p.disk) (is_usable core p) (is_usable after p) (is_brought_up core p) (is_brought_up after p) (is_settled core p) (is_settled after p) (is_caught core group p) (is_caught after group p) (turns ask group p among)

  all_drop : (ask : Ask) (group : ℕ) (ps : List Pp) → ((p : Pp) → is_among ps p ≡ true → is_among (copies_for core ask) p ≡ true) → ((filter (λ (p : Pp). is_usable after p || is_caught after group p) ps ≡ filter (λ (p : Pp). is_usable core p || is_caught core group p) ps) × (sum_by (turns_of after) ps ≤ sum_by (turns_of core) ps))
      ⊎ (sum_by (turns_of after) ps + 12 ≤ sum_by (turns_of core) ps)
  all_drop ask group [] inside = inl (refl, omega arith)
  all_drop ask group (p ∷ ps) inside = by (one_drop ask group p (inside p (ap (λ b. b || is_among ps p) (own_pp p)))) (all_drop ask group ps (λ q e. inside q (ap (λ b. is_pp q p || b) e ∙ or_true (is_pp q p))))
    where
      by : ((is_usable after p || is_caught after group p ≡ is_usable core p || is_caught core group p) × (turns_of after p ≤ turns_of core p)) ⊎ (turns_of after p + 12 ≤ turns_of core p)
          → ((filter (λ (q : Pp). is_usable after q || is_caught after group q) ps ≡ filter (λ (q : Pp). is_usable core q || is_caught core group q) ps) × (sum_by (turns_of after) ps ≤ sum_by (turns_of core) ps)) ⊎ (sum_by (turns_of after) ps + 12 ≤ sum_by (turns_of core) ps)
          → ((filter (λ (q : Pp). is_usable after q || is_caught after group q) (p ∷ ps) ≡ filter (λ (q : Pp). is_usable core q || is_caught core group q) (p ∷ ps)) × (sum_by (turns_of after) (p ∷ ps) ≤ sum_by (turns_of core) (p ∷ ps)))
          ⊎ (sum_by (turns_of after) (p ∷ ps) + 12 ≤ sum_by (turns_of core) (p ∷ ps))
      by (inl one) (inl rest) = inl (
        ap (λ (b : Bool). if b then p ∷ filter (λ (q : Pp). is_usable after q || is_caught after group q) ps else filter (λ (q : Pp). is_usable after q || is_caught after group q) ps) one.0
            ∙ ap (λ (qs : List Pp). if is_usable core p || is_caught core group p then p ∷ qs else qs) rest.0,
        let a = sum_by-cons (turns_of after) p ps in let b = sum_by-cons (turns_of core) p ps in let x = one.1 in let y = rest.1 in omega (arith, a, b, x, y),
      )
      by (inl one) (inr rest) = let a = sum_by-cons (turns_of after) p ps in let b = sum_by-cons (turns_of core) p ps in let x = one.1 in inr (omega (arith, a, b, x, rest))
      by (inr one) (inl rest) = let a = sum_by-cons (turns_of after) p ps in let b = sum_by-cons (turns_of core) p ps in let y = rest.1 in inr (omega (arith, a, b, one, y))
      by (inr one) (inr rest) = let a = sum_by-cons (turns_of after) p ps in let b = sum_by-cons (turns_of core) p ps in inr (omega (arith, a, b, one, rest))

  -- ---- the destination of a move

  place_one : (group : ℕ) (p : Pp) → ((is_caught after group p ≡ is_caught core group p) × (destination_turns after p ≤ destination_turns core p)) ⊎ (destination_turns after p + 12 ≤ destination_turns core p)
  place_one group p = by (is_brought_up after p) (is_brought_up core p) (is_missing after p.disk) (is_missing core p.disk) (is_caught after group p) (is_caught core group p)
      (brings.brought p) (up_there core e.going.reviewed p) (up_there after brings.reviewed p) (caught_up core group p) (caught_up after group p) (brings.carried group p)
    where
      by : (d b n m k c : Bool) → (d ≡ true → b ≡ true) → (b ≡ true → m ≡ false) → (d ≡ true → n ≡ false) → (c ≡ true → b ≡ true) → (k ≡ true → d ≡ true) → (d ≡ true → k ≡ c)
          → ((k ≡ c) × ((if not n && d then 46 else 0) ≤ (if not m && b then 46 else 0))) ⊎ ((if not n && d then 46 else 0) + 12 ≤ (if not m && b then 46 else 0))
      by true false n m k c up there there_now caught caught_now carried = not_so (up refl)
      by true true true m k c up there there_now caught caught_now carried = not_either (there_now refl)
      by true true false true k c up there there_now caught caught_now carried = not_either (there refl)
      by true true false false k c up there there_now caught caught_now carried = inl (carried refl, omega arith)
      by false b n m true c up there there_now caught caught_now carried = not_so (caught_now refl)
      by false true n true false c up there there_now caught caught_now carried = not_either (there refl)
      by false true true false false c up there there_now caught caught_now carried = inr (omega arith)
      by false true false false false c up there there_now caught caught_now carried = inr (omega arith)
      by false false n m false true up there there_now caught caught_now carried = not_so (caught refl)
      by false false true true false false up there there_now caught caught_now carried = inl (refl, omega arith)
      by false false true false false false up there there_now caught caught_now carried = inl (refl, omega arith)
      by false false false true false false up there there_now caught caught_now carried = inl (refl, omega arith)
      by false false false false false false up there there_now caught caught_now carried = inl (refl, omega arith)

  place_drop : (group : ℕ) (ps : List Pp) → ((filter (is_caught after group) ps ≡ filter (is_caught core group) ps) × (sum_by (destination_turns after) ps ≤ sum_by (destination_turns core) ps)) ⊎ (sum_by (destination_turns after) ps + 12 ≤ sum_by (destination_turns core) ps)
  place_drop group [] = inl (refl, omega arith)
  place_drop group (p ∷ ps) = by (place_one group p) (place_drop group ps)
    where
      by : ((is_caught after group p ≡ is_caught core group p) × (destination_turns after p ≤ destination_turns core p)) ⊎ (destination_turns after p + 12 ≤ destination_turns core p)
          → ((filter (is_caught after group) ps ≡ filter (is_caught core group) ps) × (sum_by (destination_turns after) ps ≤ sum_by (destination_turns core) ps)) ⊎ (sum_by (destination_turns after) ps + 12 ≤ sum_by (destination_turns core) ps)
          → ((filter (is_caught after group) (p ∷ ps) ≡ filter (is_caught core group) (p ∷ ps)) × (sum_by (destination_turns after) (p ∷ ps) ≤ sum_by (destination_turns core) (p ∷ ps))) ⊎ (sum_by (destination_turns after) (p ∷ ps) + 12 ≤ sum_by (destination_turns core) (p ∷ ps))
      by (inl one) (inl rest) = inl (
        ap (λ (b : Bool). if b then p ∷ filter (is_caught after group) ps else filter (is_caught after group) ps) one.0 ∙ ap (λ (qs : List Pp). if is_caught core group p then p ∷ qs else qs) rest.0,
        let a = sum_by-cons (destination_turns after) p ps in let b = sum_by-cons (destination_turns core) p ps in let x = one.1 in let y = rest.1 in omega (arith, a, b, x, y),
      )
      by (inl one) (inr rest) = let a = sum_by-cons (destination_turns after) p ps in let b = sum_by-cons (destination_turns core) p ps in let x = one.1 in inr (omega (arith, a, b, x, rest))
      by (inr one) (inl rest) = let a = sum_by-cons (destination_turns after) p ps in let b = sum_by-cons (destination_turns core) p ps in let y = rest.1 in inr (omega (arith, a, b, one, y))
      by (inr one) (inr rest) = let a = sum_by-cons (destination_turns after) p ps in let b = sum_by-cons (destination_turns core) p ps in inr (omega (arith, a, b, one, rest))

  -- a request has the same
  places_drop : (ask : Ask) → ((destination_aims after ask ≡ destination_aims core ask) × (sum_by (destination_turns after) (destinations_for after ask) ≤ sum_by (destination_turns core) (destinations_for core ask)))
      ⊎ (sum_by (destination_turns after) (destinations_for after ask) + 12 ≤ sum_by (destination_turns core) (destinations_for core ask))
  places_drop ask = subst (λ (ps : List Pp). ((filter (is_caught after (group_in core ask)) ps ≡ destination_aims core ask) × (sum_by (destination_turns after) ps ≤ sum_by (destination_turns core) (destinations_for core ask))) ⊎ (sum_by (destination_turns after) ps + 12 ≤ sum_by (destination_turns core) (destinations_for core ask)))
      (brings.places ask) (place_drop (group_in core ask) (destinations_for core ask))

  -- ---- its phase

  lacks_on : (x : Request) (t : Target) → lacks_note after x t ≡ true → lacks_note core x t ≡ true
  lacks_on x t is =
      let a = both (x.pinned && not (is_missing after t.pp.disk) && not (is_named after.cache t.pp.disk (lv_of x.ask) (group_of x.ask))) (not (flight_names after.cache t.pp.disk (lv_of x.ask) (group_of x.ask))) is in
      let b = both (x.pinned && not (is_missing after t.pp.disk)) (not (is_named after.cache t.pp.disk (lv_of x.ask) (group_of x.ask))) a.0 in
      let c = both x.pinned (not (is_missing after t.pp.disk)) b.0 in
      let there = still_there t.pp.disk (is_false (is_missing after t.pp.disk) c.1) in
      let same = noted t.pp.disk there.0 in
      and_of (x.pinned && not (is_missing core t.pp.disk) && not (is_named core.cache t.pp.disk (lv_of x.ask) (group_of x.ask))) (not (flight_names core.cache t.pp.disk (lv_of x.ask) (group_of x.ask)))
      (and_of (x.pinned && not (is_missing core t.pp.disk)) (not (is_named core.cache t.pp.disk (lv_of x.ask) (group_of x.ask))) (and_of x.pinned (not (is_missing core t.pp.disk)) c.0 (ap not there.1))
      (sym (ap (λ m. not (option_map_or (both_name (lv_of x.ask) (group_of x.ask)) m false)) same) ∙ b.1))
      (sym (ap (λ m. not (option_map_or (λ (note : ArrayVec NoteEntry). names_group note.items (lv_of x.ask) (group_of x.ask)) (option_and_then (λ (n : DiskNotes). n.flight) m) false)) same) ∙ a.1)

  -- ---- requests

  unbegun_less : (x : Request) → unbegun_left after x ≤ unbegun_left core x
  unbegun_less x = by (all_drop x.ask (group_in core x.ask) (copies_for core x.ask) (λ p among. among)) (places_drop x.ask)
    where
      same_dirty : if_so (lacks_dirty after x.ask) update_work ≡ if_so (lacks_dirty core x.ask) update_work
      same_dirty = ap (λ b. if_so (is_passive (mode_of core x.ask) && not b) update_work) (dirty_same e r brings (lv_of x.ask))

      most : (b : Bool) → if_so b 12 ≤ 12
      most true = omega arith
      most false = omega arith

      copies_were : ℕ
      copies_were = sum_by (turns_of core) (copies_for core x.ask)

      copies_are : ℕ
      copies_are = sum_by (turns_of after) (copies_for core x.ask)

      places_were : ℕ
      places_were = sum_by (destination_turns core) (destinations_for core x.ask)

      places_are : ℕ
      places_are = sum_by (destination_turns after) (destinations_for after x.ask)

      add : (s t y z d f c g p q : ℕ) → t ≤ s → z ≤ y → f ≡ d → g ≡ c → q ≤ p → 256 + t + z + f + g + q ≤ 256 + s + y + d + c + p
      add s t y z d f c g p q h i j k l = omega (arith, h, i, j, k, l)

      pay : (s t y z d f c g p q : ℕ) → t + z + 12 ≤ s + y → f ≡ d → g ≤ 12 → q ≤ p → 256 + t + z + f + g + q ≤ 256 + s + y + d + c + p
      pay s t y z d f c g p q i j k l = omega (arith, i, j, k, l)

      paid : copies_are + places_are + 12 ≤ copies_were + places_were → unbegun_left after x ≤ unbegun_left core x
      paid less = pay copies_were copies_are places_were places_are (if_so (lacks_dirty core x.ask) update_work) (if_so (lacks_dirty after x.ask) update_work)
          (if_so (not (is_held x.phase) && is_changed core x) 12) (if_so (not (is_held x.phase) && is_changed after x) 12) (phase_left x.phase core x) (phase_left x.phase after x) less same_dirty
          (most (not (is_held x.phase) && is_changed after x)) (phase_less core after x (lacks_on x) x.phase)

      by : ((aims after x.ask ≡ aims core x.ask) × (copies_are ≤ copies_were)) ⊎ (copies_are + 12 ≤ copies_were) → ((destination_aims after x.ask ≡ destination_aims core x.ask) × (places_are ≤ places_were)) ⊎ (places_are + 12 ≤ places_were)
          → unbegun_left after x ≤ unbegun_left core x
      by (inl same) (inl place) = add copies_were copies_are places_were places_are (if_so (lacks_dirty core x.ask) update_work) (if_so (lacks_dirty after x.ask) update_work)
          (if_so (not (is_held x.phase) && is_changed core x) 12) (if_so (not (is_held x.phase) && is_changed after x) 12) (phase_left x.phase core x) (phase_left x.phase after x) same.1 place.1 same_dirty
          (ap (λ (ps : List Pp). if_so (not (is_held x.phase) && (is_write x.ask && not (same_pps (pps_of x.targets.items) (ps ++ destination_aims after x.ask)))) 12) same.0
          ∙ ap (λ (ps : List Pp). if_so (not (is_held x.phase) && (is_write x.ask && not (same_pps (pps_of x.targets.items) (aims core x.ask ++ ps)))) 12) place.0) (phase_less core after x (lacks_on x) x.phase)
      by (inl same) (inr less) = let a = same.1 in paid (omega (arith, a, less))
      by (inr less) (inl place) = let b = place.1 in paid (omega (arith, less, b))
      by (inr less) (inr fewer) = paid (omega (arith, less, fewer))

  request_less : (x : Open) → request_left after x ≤ request_left core x
  request_less x = request_by (is_waiting x) (is_write x.request.ask) (is_begun x.request.targets.items) (unbegun_left after x.request) (unbegun_left core x.request) (begun_left x.request) (read_left x.request.phase x.request) (unbegun_less x.request)

  -- ---- the status

  flight_less : flight_left after ≤ flight_left core
  flight_less = by e.follows.in_flight
    where
      flight_is : r.status.in_flight ≡ e.next.in_flight
      flight_is = ap (λ (u : Updates). u.in_flight) r.marks.rest

      group_is : r.status.group ≡ core.status.group
      group_is = ap (λ (u : Updates). u.group) r.marks.rest ∙ e.follows.group

      fewer : unstarted_writes after ≤ unstarted_writes core
      fewer =
          let same : unstarted_writes after ≡ count_by (λ (row : PvRow). has r.status.writes.unstarted row.disk) core.status.group.pvs = ap (λ (g : Descriptor). count_by (λ (row : PvRow). has r.status.writes.unstarted row.disk) g.pvs) group_is in
          let less = count_with (λ (row : PvRow). Unit {0}) (λ (row : PvRow). has core.status.writes.unstarted row.disk) (λ (row : PvRow). has r.status.writes.unstarted row.disk)
          (λ row known is. e.follows.unstarted row.disk (sym (ap (λ (u : Updates). u.unstarted row.disk) r.marks.rest) ∙ is)) core.status.group.pvs (any_known core.status.group.pvs) in
          omega (arith, same, less)

      on_both : (m : Option Status) → option_map_or (λ (u : Status). 2 * unstarted_writes after) m 0 ≤ option_map_or (λ (u : Status). 2 * unstarted_writes core) m 0
      on_both None = omega arith
      on_both (Some u) = let low = fewer in omega (arith, low)

      by : (e.next.in_flight ≡ core.status.in_flight) ⊎ (e.next.in_flight ≡ None) → option_map_or (λ (u : Status). 2 * unstarted_writes after) r.status.in_flight 0 ≤ option_map_or (λ (u : Status). 2 * unstarted_writes core) core.status.in_flight 0
      by (inl same) = subst (λ m. option_map_or (λ (u : Status). 2 * unstarted_writes after) m 0 ≤ option_map_or (λ (u : Status). 2 * unstarted_writes core) core.status.in_flight 0) (sym (flight_is ∙ same)) (on_both core.status.in_flight)
      by (inr none) = subst (λ m. option_map_or (λ (u : Status). 2 * unstarted_writes after) m 0 ≤ option_map_or (λ (u : Status). 2 * unstarted_writes core) core.status.in_flight 0) (sym (flight_is ∙ none)) (omega arith)

  differs_same : copy_ends (mid e) ≡ None → e.next.wanted ≡ core.status.wanted → if_so (not (same_status r.status.wanted (in_flight_of after))) update_work ≡ if_so (not (same_status core.status.wanted (in_flight_of core))) update_work
  differs_same still same = ap (λ (w : Status). if_so (not (same_status w (in_flight_of after))) update_work) (nothing_new e r still same) ∙ ap (λ (s : Status). if_so (not (same_status core.status.wanted s)) update_work) (flies_is e r)

  status_most : status_left after ≤ status_left core + 256
  status_most = let a = status_is after in let b = status_is core in let c = flight_less in let d = at_most_update (not (same_status r.status.wanted (in_flight_of after))) in omega (arith, a, b, c, d)

  status_less : copy_ends (mid e) ≡ None → e.next.wanted ≡ core.status.wanted → status_left after ≤ status_left core
  status_less still same = let a = status_is after in let b = status_is core in let c = flight_less in let d = differs_same still same in omega (arith, a, b, c, d)

  -- ---- all of it

  total : (f g n m s t q p k l : ℕ) → g + 1 ≡ f → p ≤ q → ((m ≡ n) × ((t ≤ s) × (l ≡ k))) ⊎ (((m ≤ n) × ((t ≤ s + 256) × (l + 256 ≤ k))) ⊎ ((m + 1 ≤ n) × ((t ≤ s + 256) × (l ≤ k)))) → g + 257 * m + t + p + l < f + 257 * n + s + q + k
  total f g n m s t q p k l short less (inl all) = let a = all.0 in let b = all.1.0 in let c = all.1.1 in omega (arith, short, less, a, b, c)
  total f g n m s t q p k l short less (inr (inl all)) = let a = all.0 in let b = all.1.0 in let c = all.1.1 in omega (arith, short, less, a, b, c)
  total f g n m s t q p k l short less (inr (inr all)) = let a = all.0 in let b = all.1.0 in let c = all.1.1 in omega (arith, short, less, a, b, c)

  work_falls : work_left after < work_left core
  work_falls = total (length core.flying) (length e.flying) (count_by (λ (row : PvRow). is_there core row.disk) core.descriptor.pvs) (count_by (λ (row : PvRow). is_there after row.disk) core.descriptor.pvs) (status_left core) (status_left after)
      (sum_by (request_left core) core.requests) (sum_by (request_left after) core.requests) (option_map_or (copy_left core) core.copy 0) (option_map_or (copy_left after) r.copy 0) shorter (sum_on (request_left core) (request_left after) request_less core.requests)
      (by (there_by e r brings) brings.fewer)
    where
      by : ((e.next.wanted ≡ core.status.wanted) × (count_by (λ (row : PvRow). is_there after row.disk) core.descriptor.pvs ≡ count_by (λ (row : PvRow). is_there core row.disk) core.descriptor.pvs))
          ⊎ (count_by (λ (row : PvRow). is_there after row.disk) core.descriptor.pvs + 1 ≤ count_by (λ (row : PvRow). is_there core row.disk) core.descriptor.pvs)
          → Fewer e r
          → ((count_by (λ (row : PvRow). is_there after row.disk) core.descriptor.pvs ≡ count_by (λ (row : PvRow). is_there core row.disk) core.descriptor.pvs) × ((status_left after ≤ status_left core) × (option_map_or (copy_left after) r.copy 0 ≡ option_map_or (copy_left core) core.copy 0)))
          ⊎ (((count_by (λ (row : PvRow). is_there after row.disk) core.descriptor.pvs ≤ count_by (λ (row : PvRow). is_there core row.disk) core.descriptor.pvs) × ((status_left after ≤ status_left core + 256) × (option_map_or (copy_left after) r.copy 0 + 256 ≤ option_map_or (copy_left core) core.copy 0)))
          ⊎ ((count_by (λ (row : PvRow). is_there after row.disk) core.descriptor.pvs + 1 ≤ count_by (λ (row : PvRow). is_there core row.disk) core.descriptor.pvs) × ((status_left after ≤ status_left core + 256) × (option_map_or (copy_left after) r.copy 0 ≤ option_map_or (copy_left core) core.copy 0))))
      by (inl there) (inl on) = inl (there.1, (status_less on.0 there.0, on.2))
      by (inl there) (inr over) = let a = there.1 in inr (inl (omega (arith, a), (status_most, over.1)))
      by (inr less) (inl on) = let c = on.2 in inr (inr (less, (status_most, omega (arith, c))))
      by (inr less) (inr over) = let c = over.1 in inr (inr (less, (status_most, omega (arith, c))))

  -- lost votes stay lost
  lost_on : is_lost after ≡ false → is_lost core ≡ false
  lost_on is = ap not (more_is_enough.write core.descriptor (votes_there after) (votes_there core) (more_have_more core.descriptor (is_there after) (is_there core) there) (enough (is_enough_to_write core.descriptor (votes_there after)) is))
    where
      enough : (b : Bool) → not b ≡ false → b ≡ true
      enough true i = refl
      enough false i = not_so (sym i)

      there : (d : ℕ) → is_member core.descriptor d ≡ true → is_there after d ≡ true → is_there core d ≡ true
      there d member is_so =
          let parts = both (is_member core.descriptor d) (not (is_missing after d)) is_so in
          and_of (is_member core.descriptor d) (not (is_missing core d)) parts.0 (ap not (still_there d (is_false (is_missing after d) parts.1)).1)

  pub falls : core.power ≡ power.On → left_of after < left_of core
  falls on = by (is_lost core) (is_lost after) refl refl
    where
      few : (f g w n s q k : ℕ) → g + 1 ≡ f → w ≤ q → g + w < f + 257 * n + s + q + k
      few f g w n s q k short low = omega (arith, short, low)

      by : (a b : Bool) → is_lost core ≡ a → is_lost after ≡ b → left_of after < left_of core
      by true false i j = not_either (sym i ∙ lost_on j)
      by true true i j = subst (λ n. n < left_of core) (sym (left_is after true on j)) (subst (λ n. length e.flying + count_by is_waiting core.requests < n) (sym (left_is core true on i)) (let short = shorter in omega (arith, short)))
      by false true i j = subst (λ n. n < left_of core) (sym (left_is after true on j)) (subst (λ n. length e.flying + count_by is_waiting core.requests < n) (sym (left_is core false on i))
          (few (length core.flying) (length e.flying) (count_by is_waiting core.requests) (count_by (λ (row : PvRow). is_there core row.disk) core.descriptor.pvs) (status_left core) (sum_by (request_left core) core.requests) (option_map_or (copy_left core) core.copy 0) shorter (waiting_low core core.requests)))
      by false false i j = subst (λ n. n < left_of core) (sym (left_is after false on j)) (subst (λ n. work_left after < n) (sym (left_is core false on i)) work_falls)
