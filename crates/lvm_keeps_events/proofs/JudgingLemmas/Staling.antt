-- More partitions come to be wanted stale.
use Rattle.std.proofs.Common.{◌&&◌, ◌==◌, [], ap, Bool, false, find, if◌then◌else◌, inl, inr, length, List, map, None, not, Option, refl, Some, subst, sym, true, ◌||◌, ℕ, ◌∙◌, ◌∷◌, ◌≡◌, ◌≤◌, ◌⊎◌}
use Rattle.std.specs.List.{list_any, range_with_len}
use Rattle.std.specs.Prelude.{count_by, is_none, unwrap_or}
use Rattle.lvm_num.specs.Descriptor.{copies_of, is_member, is_pp}
use Rattle.lvm_num.specs.Disks.{has}
use Rattle.lvm_num.specs.Status.{calls_dirty, calls_stale}
use Rattle.lvm_num.specs.declared.descriptor.Descriptor.{Descriptor}
use Rattle.lvm_num.specs.declared.descriptor.LvRow.{LvRow}
use Rattle.lvm_num.specs.declared.descriptor.Mode.{Mode}
use Rattle.lvm_num.specs.declared.descriptor.Mode.TheVariants as mode
use Rattle.lvm_num.specs.declared.descriptor.PvRow.{PvRow}
use Rattle.lvm_num.specs.declared.place.Pp.{Pp}
use Rattle.lvm_num.specs.declared.record.Stamp.{Stamp}
use Rattle.lvm_num.specs.declared.status.Status.{Status}
use Rattle.lvm_num.specs.declared.status.StatusRow.{StatusRow}
use Rattle.lvm_disk.specs.Device.{Flight}
use Rattle.lvm_status.specs.Table.{has_row, SameMissing}
use Rattle.lvm_path.specs.Asks.{lv_of}
use Rattle.lvm_path.specs.Targets.{is_done, is_failed}
use Rattle.lvm_path.specs.declared.ask.Ask.{Ask}
use Rattle.lvm_path.specs.declared.request.Request.{Request}
use Rattle.lvm_path.specs.declared.target.Target.{Target}
use Rattle.lvm_status.specs.Runs.{IsSoundStatus}
use Rattle.lvm_status.specs.Update.{members_there, seen, Stored, Updates}
use Rattle.lvm_status.specs.declared.writes.Writes.{Writes}
use Rattle.lvm_session.specs.Bringing.{end_by_sources, end_of, ends_if, is_cleared, is_idle, is_whole, sources_of}
use Rattle.lvm_session.specs.Judging.{copies_in, group_in, has_dirty_mark, has_names, is_caught, is_kept, is_missing, is_running, is_settled, is_stale, is_sure, is_usable, is_wanted_stale, pps_of, is_sure_at}
use Rattle.lvm_session.specs.State.{Core, is_there}
use Rattle.lvm_session.specs.declared.bringing.CopyEnd.TheVariants as ending
use Rattle.lvm_session.specs.declared.bringing.OpenCopy.{OpenCopy}
use Rattle.lvm_session.specs.declared.flown.Flown.{Flown}
use Rattle.lvm_session.specs.declared.flown.Owner.{Owner}
use Rattle.lvm_session.specs.declared.flown.Owner.TheVariants as owner
use Rattle.lvm_session.specs.declared.open.Open.{Open}
use Rattle.lvm_num.specs.Modes.{is_passive}
use Rattle.lvm_num.proofs.Booleans.{not_so}
use Rattle.lvm_session.specs.Marks.{can_replace, is_among, is_entailed, is_entailed_in, is_left_behind, WantsStale}
use Rattle.lvm_session.specs.Causes.{fails_on, is_blamed, is_held_stale, was_fresh}
use Rattle.lvm_session.specs.Left.{clean_volumes}
use Rattle.lvm_session.specs.Owners.{AreRows, IsTransferOf}
use Rattle.lvm_session.specs.Requests.{is_failed_and_sure, is_left_out, is_wanted_dirty, is_wanted_due, IsOpenOne, MayBeServed, IsShaped, mode_for, will_be_kept}
use Rattle.lvm_session.specs.Sound.{IsCopy, may_be_fresh, stays_fresh}
use Rattle.lvm_keeps.proofs.KeepsLemmas.Landing.{or_parts}
use Rattle.lvm_keeps.proofs.OwnersLemmas.Rows.{data_still, status_still, step_still}
use Rattle.lvm_keeps.proofs.Small.{both, is_false}
use Rattle.lvm_keeps.proofs.RequestsLemmas.{shape_still, copy_marked, same_next, kind_by}
use Rattle.lvm_keeps.proofs.DarkLemmas.Tables.{apart}
use Rattle.lvm_keeps_events.proofs.Marking.{count_alike, filter_alike}
use Rattle.lvm_keeps_events.proofs.Lists.{all_and, any_on, count_on, or_false, or_true}
use Rattle.lvm_keeps_events.proofs.OwnersLemmas.Rows.{rows_each}
use Rattle.lvm_keeps_events.proofs.MissedLemmas.{missed_less}
use Rattle.lvm_keeps_events.proofs.JudgingLemmas.Requests.{fewer_due}

-- ---- the status

-- of a status more is stale, and nothing else has changed
pub record IsStaler (due : Pp → Bool) (old new : Status) : Type 0 where
  pub id : new.id ≡ old.id
  pub rows : (disk : ℕ) → has_row new disk ≡ has_row old disk
  pub stale : (p : Pp) → calls_stale new p ≡ (calls_stale old p || due p)
  pub missing : SameMissing old new
  pub dirty : new.dirty ≡ old.dirty

-- only what is wanted changes, and what is stale of it
pub record IsStaled (due : Pp → Bool) (old next : Stored) : Type 0 where
  pub like : IsStaler due old.wanted next.wanted
  pub is : next ≡ record old { wanted = next.wanted; writes = next.writes }
  pub started : (d : ℕ) → has next.writes.started d ≡ has old.writes.started d
  pub unstarted : (d : ℕ) → has next.writes.unstarted d ≡ has old.writes.unstarted d
  pub sound : IsSoundStatus (seen next)

-- updates stay sound where the same is wanted missing
wanted_on : (u : Updates) (wanted : Status) → SameMissing u.wanted wanted → IsSoundStatus u → IsSoundStatus (record u { wanted = wanted })
wanted_on u wanted same its = record {
  unstarted = λ disk is. let was = its.unstarted disk is in (there disk ∙ was.0, was.1, was.2, was.3);
  started = its.started;
  failed = λ disk is. same disk ∙ its.failed disk is;
  each = λ t flies disk is. its.each t flies disk (sym (there disk) ∙ is);
  idle = its.idle;
  held = its.held;
  open_still = its.open_still;
  committed_missing = λ disk is. same disk ∙ its.committed_missing disk is;
  in_flight_missing = λ t flies disk is. same disk ∙ its.in_flight_missing t flies disk is;
}
  where
    there : (disk : ℕ) → members_there u.group wanted disk ≡ members_there u.group u.wanted disk
    there disk = ap (λ b. is_member u.group disk && not b) (same disk)

-- the same disks have rows
pub rows_by : (disk : ℕ) (xs ys : List StatusRow) → map (λ (r : StatusRow). r.disk) xs ≡ map (λ (r : StatusRow). r.disk) ys → list_any (λ (r : StatusRow). r.disk == disk) xs ≡ list_any (λ (r : StatusRow). r.disk == disk) ys
rows_by disk xs ys same = sym (mapped xs) ∙ ap (λ (ns : List ℕ). list_any (λ n. n == disk) ns) same ∙ mapped ys
  where
    mapped : (zs : List StatusRow) → list_any (λ n. n == disk) (map (λ (r : StatusRow). r.disk) zs) ≡ list_any (λ (r : StatusRow). r.disk == disk) zs
    mapped [] = refl
    mapped (z ∷ zs) = ap (λ c. z.disk == disk || c) (mapped zs)

pub staled : (due : Pp → Bool) (old next : Stored) → IsSoundStatus (seen old) → WantsStale due old next → IsStaled due old next
staled due old next its wants = record {
  like = record { id = wants.rows.id; rows = λ disk. rows_by disk next.wanted.rows old.wanted.rows wants.rows.disks; stale = wants.stale; missing = wants.missing; dirty = wants.dirty };
  is = ap (λ (g : Descriptor). record next { group = g }) (ap (λ (u : Updates). u.group) wants.rest)
      ∙ ap (λ (c : Status). record next { group = old.group; committed = c }) (ap (λ (u : Updates). u.committed) wants.rest)
      ∙ ap (λ (m : Option Status). record next { group = old.group; committed = old.committed; in_flight = m }) (ap (λ (u : Updates). u.in_flight) wants.rest)
      ∙ ap (λ (x : Stamp). record next { group = old.group; committed = old.committed; in_flight = old.in_flight; stamp = x }) (ap (λ (u : Updates). u.stamp) wants.rest);
  started = λ d. ap (λ (u : Updates). u.started d) wants.rest;
  unstarted = λ d. ap (λ (u : Updates). u.unstarted d) wants.rest;
  sound = subst IsSoundStatus (sym wants.rest) (wanted_on (seen old) next.wanted wants.missing its);
}

-- ---- what is judged by it

module _ (core : Core) (due : Pp → Bool) (wanted : Status) (writes : Writes) (like : IsStaler due core.status.wanted wanted) where
  abbrev pub staler : Core
  staler = record core { status = record core.status { wanted = wanted; writes = writes } }

  pub missing_same : (d : ℕ) → is_missing staler d ≡ is_missing core d
  missing_same d = like.missing d

  pub there_same : (d : ℕ) → is_there staler d ≡ is_there core d
  there_same d = ap (λ b. is_member core.descriptor d && not b) (missing_same d)

  pub usable_same : (p : Pp) → is_usable staler p ≡ is_usable core p
  usable_same p = ap (λ b. not (is_stale core p) && not b) (missing_same p.disk)

  pub wanted_more : (p : Pp) → is_wanted_stale core p ≡ true → is_wanted_stale staler p ≡ true
  wanted_more p e = like.stale p ∙ ap (λ b. b || due p) e

  pub due_wanted : (p : Pp) → due p ≡ true → is_wanted_stale staler p ≡ true
  due_wanted p e = like.stale p ∙ ap (λ b. is_wanted_stale core p || b) e ∙ or_true (is_wanted_stale core p)

  pub wanted_less : (p : Pp) → is_wanted_stale staler p ≡ false → (is_wanted_stale core p ≡ false) × (due p ≡ false)
  wanted_less p e = or_parts (is_wanted_stale core p) (due p) (sym (like.stale p) ∙ e)

  pub sure_less : (p : Pp) → is_sure staler p ≡ true → is_sure core p ≡ true
  sure_less p e = by (is_stale core p) (is_wanted_stale core p) (due p) (sym (ap (λ b. not (is_stale core p) && not b) (like.stale p)) ∙ e)
    where
      by : (a w d : Bool) → not a && not (w || d) ≡ true → not a && not w ≡ true
      by false false d f = refl
      by false true d f = not_so f
      by true w d f = not_so f

  sure_at_less : (t : Target) → is_sure_at staler t ≡ true → is_sure_at core t ≡ true
  sure_at_less t e = let parts = both (not t.moves) (is_sure staler t.pp) e in all_and (not t.moves) (is_sure core t.pp) parts.0 (sure_less t.pp parts.1)

  -- a sure one stays so that isn't due
  pub sure_on : (p : Pp) → is_sure core p ≡ true → due p ≡ false → is_sure staler p ≡ true
  sure_on p e none = ap (λ b. not (is_stale core p) && not b) (like.stale p ∙ ap (λ d. is_wanted_stale core p || d) none ∙ or_false (is_wanted_stale core p)) ∙ e

  pub kept_less : (r : Request) → is_kept staler r ≡ true → is_kept core r ≡ true
  kept_less r e = any_on (λ (t : Target). is_done t.state && is_sure_at staler t) (λ (t : Target). is_done t.state && is_sure_at core t)
      (λ t f. let parts = both (is_done t.state) (is_sure_at staler t) f in all_and (is_done t.state) (is_sure_at core t) parts.0 (sure_at_less t parts.1)) r.targets.items e

  pub fewer_left : (ts : List Target) → count_by (is_failed_and_sure staler) ts ≤ count_by (is_failed_and_sure core) ts
  fewer_left ts = count_on (is_failed_and_sure staler) (is_failed_and_sure core)
      (λ t f. let parts = both (is_failed t.state) (is_sure_at staler t) f in all_and (is_failed t.state) (is_sure_at core t) parts.0 (sure_at_less t parts.1)) ts

  due_on : (r : Request) → is_wanted_due core r ≡ true → is_wanted_due staler r ≡ true
  due_on r e = fewer_due (count_by (is_failed_and_sure core) r.targets.items) (count_by (is_failed_and_sure staler) r.targets.items) (is_kept core r || will_be_kept core r) (is_kept staler r || will_be_kept core r) (fewer_left r.targets.items)
      (λ f. by (is_kept core r) (is_kept staler r) (will_be_kept core r) (λ g. kept_less r g) f) e
    where
      by : (a b c : Bool) → (b ≡ true → a ≡ true) → b || c ≡ true → a || c ≡ true
      by true b c on f = refl
      by false true c on f = not_so (on refl)
      by false false c on f = f

  out_on : (ask : Ask) (p : Pp) → is_left_out core ask p ≡ true → is_left_out staler ask p ≡ true
  out_on ask p e = ap (λ b. is_settled core p && b && not (is_caught core (group_in core ask) p)) (like.stale p) ∙ by (is_settled core p) (is_wanted_stale core p) (due p) (not (is_caught core (group_in core ask) p)) e
    where
      by : (s w d n : Bool) → s && w && n ≡ true → s && (w || d) && n ≡ true
      by true true d n f = f
      by true false d n f = not_so f
      by false w d n f = not_so f

  -- ---- a request

  pub dirty_same : (number : ℕ) → calls_dirty wanted number ≡ calls_dirty core.status.wanted number
  dirty_same number = ap (λ (ns : List ℕ). list_any (λ n. n == number) ns) like.dirty

  mark_on : (m : Mode) (ask : Ask) → is_wanted_dirty core m ask ≡ true → is_wanted_dirty staler m ask ≡ true
  mark_on mode.Active ask e = refl
  mark_on mode.Passive ask e = dirty_same (lv_of ask) ∙ e
  mark_on mode.Off ask e = refl

  names_on : (m : Mode) (r : Request) → has_names core m r ≡ true → has_names staler m r ≡ true
  names_on mode.Active r e = e
  names_on mode.Passive r e = refl
  names_on mode.Off r e = refl

  settled_on : (m : Mode) (r : Request) → has_dirty_mark core m r ≡ true → has_dirty_mark staler m r ≡ true
  settled_on mode.Active r e = refl
  settled_on mode.Passive r e = e
  settled_on mode.Off r e = refl

  pub ready_on : (r : Request) → MayBeServed core r → MayBeServed staler r
  ready_on r b = record {
    free = b.free;
    recorded = b.recorded;
    wanted = λ past two. mark_on (mode_for core r.ask) r.ask (b.wanted past two);
    named = λ has_it two. names_on (mode_for core r.ask) r (b.named has_it two);
    dirty = λ has_it two. settled_on (mode_for core r.ask) r (b.dirty has_it two);
  }

  pub shape_on : (x : Open) → IsShaped core x → IsShaped staler x
  shape_on x a = shape_still core staler refl (λ ask. refl) x a

  pub left_on : (x : Open) (p : Pp) → is_among (pps_of x.request.targets.items) p || is_left_out core x.request.ask p ≡ true → is_among (pps_of x.request.targets.items) p || is_left_out staler x.request.ask p ≡ true
  left_on x p e = by (is_among (pps_of x.request.targets.items) p) (is_left_out core x.request.ask p) (is_left_out staler x.request.ask p) (λ f. out_on x.request.ask p f) e
    where
      by : (a b c : Bool) → (b ≡ true → c ≡ true) → a || b ≡ true → a || c ≡ true
      by true b c on f = refl
      by false b c on f = on f

  pub one_on : (x : Open) → IsOpenOne core x → IsOpenOne staler x
  one_on x it = record {
    laid = let l = it.laid in record { within = l.within; blocks = l.blocks; most = l.most; id = l.id };
    waits = λ w. let r = it.waits w in record {
      shape = shape_on x r.shape;
      ready = ready_on x.request r.ready;
      judged = λ write. let j = r.judged write in record { uncaught = j.uncaught; due = λ status. due_on x.request (j.due status); missed = λ status. missed_less core staler x.request sure_less (j.missed status); all = λ begun p among. left_on x p (j.all begun p among); place = j.place };
    };
    over = it.over;
    still = it.still;
  }

  -- ---- the copy that is open

  -- what stays fresh may be fresh still
  may_still : (p : Pp) → stays_fresh core p ≡ true → may_be_fresh staler p ≡ true
  may_still p e = by (was_fresh core p) (is_stale core p) (calls_stale (unwrap_or core.status.in_flight core.status.committed) p) (is_wanted_stale core p) (is_wanted_stale staler p) e
    where
      by : (f a b w v : Bool) → not (a || b) && not w ≡ true → f || not (a && b && v) ≡ true
      by true a b w v g = refl
      by false true b w v g = not_so g
      by false false b w v g = refl

  -- so a logical partition keeps a fresh copy where one that may be fresh is enough
  pub keeps_fresh : (copies : List Pp) → (list_any (may_be_fresh staler) copies ≡ true → list_any (stays_fresh staler) copies ≡ true) → list_any (stays_fresh core) copies ≡ true → list_any (stays_fresh staler) copies ≡ true
  keeps_fresh copies on some = on (any_on (stays_fresh core) (may_be_fresh staler) may_still copies some)

  pub bring_on : ((lv lp : ℕ) → list_any (may_be_fresh staler) (copies_in core.descriptor lv lp) ≡ true → list_any (stays_fresh staler) (copies_in core.descriptor lv lp) ≡ true) → (c : OpenCopy)
      → (is_running c ≡ true → is_whole core c ≡ true → due c.pp ≡ false) → IsCopy core c → IsCopy staler c
  bring_on fresh c apart k = copy_marked core staler c refl (same_next core) k (λ free. free) (kind_by core staler c c.step c.tried c.end refl refl
      (λ is. (
        λ runs short. let was = is.stale runs short in (was.0, wanted_more c.pp was.1),
        λ runs whole. let was = is.clearing runs whole in (was.0, like.stale c.pp ∙ ap (λ b. b || due c.pp) was.1 ∙ apart runs whole),
      ))
      (λ is. (λ runs whole. like.stale c.pp ∙ ap (λ b. b || due c.pp) (is.clear runs whole) ∙ apart runs whole, keeps_fresh (copies_in core.descriptor c.lv c.lp) (fresh c.lv c.lp) is.fresh)) c.moves (λ moves move. move.ends) k.kind)

  sources_same : (c : OpenCopy) → sources_of staler c ≡ sources_of core c
  sources_same c = filter_alike (λ (p : Pp). not (is_pp p c.pp) && is_usable staler p) (λ (p : Pp). not (is_pp p c.pp) && is_usable core p) (λ p. ap (λ b. not (is_pp p c.pp) && b) (usable_same p)) (copies_in core.descriptor c.lv c.lp)

  cleared_less : (c : OpenCopy) → is_cleared core c ≡ false → is_cleared staler c ≡ false
  cleared_less c e = ap (λ b. not c.moves && (not (is_held_stale core c.pp) && not b)) (like.stale c.pp) ∙ by c.moves (is_held_stale core c.pp) (is_wanted_stale core c.pp) (due c.pp) e
    where
      by : (m h w d : Bool) → not m && (not h && not w) ≡ false → not m && (not h && not (w || d)) ≡ false
      by true h w d g = refl
      by false true w d g = refl
      by false false true d g = refl
      by false false false d g = not_so (sym g)

  pub end_on : (c : OpenCopy) → end_of core c ≡ None → end_of staler c ≡ None
  end_on c e =
      ap (λ b. if not (is_running c) then None else if b then Some ending.SyncFailed else if is_whole core c then ends_if (is_cleared staler c) ending.Done else end_by_sources staler c) (missing_same c.pp.disk)
      ∙ ap (λ (ps : List Pp). if not (is_running c) then None else if is_missing core c.pp.disk then Some ending.SyncFailed else if is_whole core c then ends_if (is_cleared staler c) ending.Done
      else if length ps == 0 then Some ending.NoFresh else ends_if (is_idle c.step && is_none (find (λ (p : Pp). not (has c.tried p.disk)) ps)) ending.SyncFailed) (sources_same c)
      ∙ by (is_running c) (is_missing core c.pp.disk) (is_whole core c) (is_cleared core c) (is_cleared staler c) (λ f. cleared_less c f) e
    where
      by : (r m w a b : Bool) → (a ≡ false → b ≡ false)
          → (if not r then None else if m then Some ending.SyncFailed else if w then ends_if a ending.Done else end_by_sources core c) ≡ None
          → (if not r then None else if m then Some ending.SyncFailed else if w then ends_if b ending.Done else end_by_sources core c) ≡ None
      by false m w a b on f = refl
      by true true w a b on f = f
      by true false false a b on f = f
      by true false true true b on f = absurd (cc f)
      by true false true false b on f = ap (λ x. ends_if x ending.Done) (on refl)

  -- ---- what missing disks entail

  replace_less : (p : Pp) → can_replace staler p ≡ true → can_replace core p ≡ true
  replace_less p e =
      let parts = both (is_usable staler p) (not (is_wanted_stale staler p)) e in
      let clear = (wanted_less p (is_false (is_wanted_stale staler p) parts.1)).0 in
      all_and (is_usable core p) (not (is_wanted_stale core p)) (sym (usable_same p) ∙ parts.0) (ap not clear)

  behind_less : (copies : List Pp) (p : Pp) → is_left_behind staler copies p ≡ true → is_left_behind core copies p ≡ true
  behind_less copies p e =
      let parts = both (is_among copies p && not (is_stale core p) && is_missing staler p.disk) (list_any (can_replace staler) copies) e in
      all_and (is_among copies p && not (is_stale core p) && is_missing core p.disk) (list_any (can_replace core) copies) (ap (λ b. is_among copies p && not (is_stale core p) && b) (sym (missing_same p.disk)) ∙ parts.0)
      (any_on (can_replace staler) (can_replace core) replace_less copies parts.1)

  pub entailed_less : (p : Pp) → is_entailed staler p ≡ true → is_entailed core p ≡ true
  entailed_less p e = any_on (λ (r : LvRow). is_entailed_in staler r p) (λ (r : LvRow). is_entailed_in core r p)
      (λ r f. any_on (λ (lp : ℕ). is_left_behind staler (copies_of r lp) p) (λ (lp : ℕ). is_left_behind core (copies_of r lp) p) (λ lp g. behind_less (copies_of r lp) p g) (range_with_len 0 r.lps) f) core.descriptor.lvs e

  -- ---- what stays fresh, and why it is blamed

  pub stays_on : (p : Pp) → stays_fresh core p ≡ true → due p ≡ false → stays_fresh staler p ≡ true
  stays_on p e none = ap (λ b. not (is_held_stale core p) && not b) (like.stale p ∙ ap (λ d. is_wanted_stale core p || d) none ∙ or_false (is_wanted_stale core p)) ∙ e

  pub may_less : (p : Pp) → may_be_fresh staler p ≡ true → may_be_fresh core p ≡ true
  may_less p e = by (was_fresh core p) (is_settled core p) (is_wanted_stale core p) (due p) (sym (ap (λ b. was_fresh core p || not (is_settled core p && b)) (like.stale p)) ∙ e)
    where
      by : (f s w d : Bool) → f || not (s && (w || d)) ≡ true → f || not (s && w) ≡ true
      by true s w d g = refl
      by false false w d g = refl
      by false true false d g = refl
      by false true true d g = not_so g

  pub blamed_by : (p : Pp) → is_blamed staler p ≡ true → (is_blamed core p ≡ true) ⊎ (due p ≡ true)
  blamed_by p e = by (is_missing core p.disk) (is_wanted_stale core p) (due p) (is_held_stale core p) (list_any (fails_on p) core.requests)
      (sym (ap (λ b. b || is_wanted_stale staler p || is_held_stale core p || list_any (fails_on p) core.requests) (missing_same p.disk) ∙ ap (λ b. is_missing core p.disk || b || is_held_stale core p || list_any (fails_on p) core.requests) (like.stale p)) ∙ e)
    where
      by : (m w d h x : Bool) → m || (w || d) || h || x ≡ true → (m || w || h || x ≡ true) ⊎ (d ≡ true)
      by true w d h x f = inl refl
      by false true d h x f = inl refl
      by false false true h x f = inr refl
      by false false false h x f = inl f

  pub held_by : (p : Pp) → is_held_stale staler p || is_wanted_stale staler p ≡ true → (is_held_stale core p || is_wanted_stale core p ≡ true) ⊎ (due p ≡ true)
  held_by p e = by (is_held_stale core p) (is_wanted_stale core p) (due p) (sym (ap (λ b. is_held_stale core p || b) (like.stale p)) ∙ e)
    where
      by : (h w d : Bool) → h || (w || d) ≡ true → (h || w ≡ true) ⊎ (d ≡ true)
      by true w d f = inl refl
      by false true d f = inl refl
      by false false d f = inr f

  -- ---- the transfers that are out, and the numbers

  transfer_on : (who : Owner) (g : Flight) → IsTransferOf core who g → IsTransferOf staler who g
  transfer_on (owner.Data id target) g of = data_still core staler refl id target g of
  transfer_on (owner.Status d) g of = status_still core staler refl d g of
  transfer_on (owner.Note d) g of = record { note = of.note; flies = of.flies; disk_is = of.disk_is; first = of.first; count = of.count; write = of.write; carries = of.carries }
  transfer_on owner.Copy g of = (of.0, of.1, step_still core staler refl of.0.step of.0 g of.2)

  pub rows_on : (rows : List Flown) (flights : List Flight) → AreRows core rows flights → AreRows staler rows flights
  rows_on rows flights all = rows_each core staler transfer_on rows flights all

  pub clean_same : clean_volumes staler ≡ clean_volumes core
  clean_same = count_alike (λ (r : LvRow). is_passive r.mode && not (calls_dirty wanted r.number)) (λ (r : LvRow). is_passive r.mode && not (calls_dirty core.status.wanted r.number)) (λ r. ap (λ b. is_passive r.mode && not b) (dirty_same r.number)) core.descriptor.lvs

  pub members_same : count_by (λ (r : PvRow). is_there staler r.disk) core.descriptor.pvs ≡ count_by (λ (r : PvRow). is_there core r.disk) core.descriptor.pvs
  members_same = count_alike (λ (r : PvRow). is_there staler r.disk) (λ (r : PvRow). is_there core r.disk) (λ r. there_same r.disk) core.descriptor.pvs
