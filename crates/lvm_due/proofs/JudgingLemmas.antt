-- What a request is told where the group, the status and the copy are as they were.
use Rattle.std.proofs.Common.{◌≡◌, ◌==◌, ◌&&◌, ◌||◌, not, cond, Bool, false, List, [], ◌∷◌, Option, Some, None, refl, sym, ◌∙◌, ap, true}
use Rattle.std.specs.Prelude.{find, if◌then◌else◌}
use Rattle.std.specs.List.{list_all, list_any}
use Rattle.std.specs.Option.{option_map, option_map_or}
use Rattle.std.proofs.lemmas.Bool.{and_right}
use Rattle.lvm_num.specs.declared.place.Pp.{Pp}
use Rattle.lvm_num.specs.declared.descriptor.Mode.{Mode}
use Rattle.lvm_num.specs.declared.descriptor.Mode.TheVariants as mode
use Rattle.lvm_mwc.specs.declared.notes.DiskNotes.{DiskNotes}
use Rattle.lvm_path.specs.declared.ask.Ask.{Ask}
use Rattle.lvm_path.specs.declared.facts.Facts.{Facts}
use Rattle.lvm_path.specs.declared.request.Request.{Request}
use Rattle.lvm_path.specs.declared.target.Target.{Target}
use Rattle.lvm_path.specs.Asks.{is_write}
use Rattle.lvm_path.specs.Targets.{is_begun}
use Rattle.lvm_session.specs.declared.bringing.OpenCopy.{OpenCopy}
use Rattle.lvm_session.specs.declared.open.Open.{Open}
use Rattle.lvm_session.specs.State.{Core}
use Rattle.lvm_session.specs.Enabled.{is_unnamed, note_due, wants_record}
use Rattle.lvm_session.specs.Judging.{all_but_sure, copies_for, counts_failed, facts_of, has_dirty_mark, has_names, is_beside, is_beside_copy, stays_fresh, is_failing, is_held_back, is_held_by_move, is_kept, is_marked, is_move_done, is_past_held, is_pending, is_running, is_settled, is_sure_at, is_under_way, is_usable, is_waiting, is_wanted_stale, is_whole, mode_of}
use Rattle.lvm_due.specs.Due.{any_fails, ReadsSame}

-- another request fails in the logical partition of this one
abbrev pub fails_beside : Core → Request → Open → Bool
fails_beside core r = λ (e : Open). not (e.request.id == r.id) && is_beside core e.request.ask r.ask && is_failing core e

-- staleness is wanted there and not settled
abbrev pub is_unsettled : Core → Request → Bool
is_unsettled core r = list_any (λ (p : Pp). is_wanted_stale core p && not (is_settled core p)) (copies_for core r.ask)

-- it is admitted and hasn't landed, in the logical partition of the copy
abbrev pub goes_beside : Core → OpenCopy → Open → Bool
goes_beside core c = λ (o : Open). is_waiting o && is_past_held o.request.phase && is_beside_copy core o.request.ask c

-- where none is failing none is beside it
pub none_beside : (core : Core) (r : Request) (os : List Open) → list_any (is_failing core) os ≡ false → list_any (fails_beside core r) os ≡ false
none_beside core r [] none = refl
none_beside core r (e ∷ os) none =
    let parts = none_parts (is_failing core e) (list_any (is_failing core) os) none in
    ap (λ (b : Bool). b || list_any (fails_beside core r) os) (and_right (not (e.request.id == r.id) && is_beside core e.request.ask r.ask) (is_failing core e) parts.0)
    ∙ none_beside core r os parts.1
  where
    none_parts : (a b : Bool) → (a || b) ≡ false → (a ≡ false) × (b ≡ false)
    none_parts true b none = absurd (cc none)
    none_parts false b none = (refl, none)

module _ (old new : Core) (same : ReadsSame old new) where
  -- the old one, with what is read of the new one
  abbrev mid : Core
  mid = record old {
    descriptor = new.descriptor;
    status = record old.status { committed = new.status.committed; wanted = new.status.wanted; in_flight = new.status.in_flight };
    copy = new.copy;
  }

  mid_is : mid ≡ old
  mid_is = λ i. record old {
    descriptor = same.descriptor i;
    status = record old.status { committed = same.committed i; wanted = same.wanted i; in_flight = same.in_flight i };
    copy = same.copy i;
  }

  dirty_read : (m : Mode) (r : Request) → has_dirty_mark new m r ≡ has_dirty_mark mid m r
  dirty_read mode.Active r = refl
  dirty_read mode.Passive r = refl
  dirty_read mode.Off r = refl

  sure_read : (ts : List Target) → all_but_sure new ts ≡ all_but_sure mid ts
  sure_read [] = refl
  sure_read (t ∷ ts) = ap (λ (rest : List Target). if is_sure_at new t then ts else t ∷ rest) (sure_read ts)

  marked_read : (r : Request) → is_marked new r ≡ is_marked mid r
  marked_read r =
      ap (λ (ts : List Target). if is_kept new r then list_all (λ (t : Target). not (counts_failed new t) || is_settled new t.pp) r.targets.items else list_all (λ (t : Target). is_settled new t.pp) ts)
      (sure_read r.targets.items)

  usable_read : (ps : List Pp) → list_any (is_usable new) ps ≡ list_any (is_usable mid) ps
  usable_read [] = refl
  usable_read (p ∷ ps) = ap (λ (b : Bool). is_usable new p || b) (usable_read ps)

  -- only who is in the way, what is pending and what is named may be told otherwise
  pub facts_read : (r : Request) → facts_of new r ≡ record (facts_of old r) { blocked = is_held_back new r; pending = is_pending new r; named = has_names new (mode_of new r.ask) r }
  facts_read r = told ∙ ap (λ (core : Core). let k : Facts = record (facts_of core r) { blocked = is_held_back new r; pending = is_pending new r; named = has_names new (mode_of new r.ask) r } in k) mid_is
    where
      told : facts_of new r ≡ record (facts_of mid r) { blocked = is_held_back new r; pending = is_pending new r; named = has_names new (mode_of new r.ask) r }
      told = λ i. record (facts_of mid r) {
        blocked = is_held_back new r;
        pending = is_pending new r;
        named = has_names new (mode_of new r.ask) r;
        dirty = dirty_read (mode_of new r.ask) r i;
        marked = marked_read r i;
        usable = usable_read (copies_for new r.ask) i;
      }

  -- ---- what counts as failed, and what is pending by it

  failed_read : (ts : List Target) → list_any (counts_failed new) ts ≡ list_any (counts_failed mid) ts
  failed_read [] = refl
  failed_read (t ∷ ts) = ap (λ (b : Bool). counts_failed new t || b) (failed_read ts)

  pub fails_read : (e : Open) → any_fails new e ≡ any_fails old e
  fails_read e = failed_read e.request.targets.items ∙ ap (λ (core : Core). any_fails core e) mid_is

  failing_mid : (e : Open) → is_failing new e ≡ is_failing mid e
  failing_mid e = ap (λ (b : Bool). is_waiting e && is_write e.request.ask && is_begun e.request.targets.items && b) (failed_read e.request.targets.items)

  pub failing_read : (e : Open) → is_failing new e ≡ is_failing old e
  failing_read e = failing_mid e ∙ ap (λ (core : Core). is_failing core e) mid_is

  pub none_read : (os : List Open) → list_any (is_failing new) os ≡ list_any (is_failing old) os
  none_read [] = refl
  none_read (e ∷ os) = ap (λ (b : Bool). b || list_any (is_failing new) os) (failing_read e) ∙ ap (λ (b : Bool). is_failing old e || b) (none_read os)

  beside_read : (r : Request) (os : List Open) → list_any (fails_beside new r) os ≡ list_any (fails_beside mid r) os
  beside_read r [] = refl
  beside_read r (e ∷ os) =
      ap (λ (b : Bool). (not (e.request.id == r.id) && is_beside new e.request.ask r.ask && b) || list_any (fails_beside new r) os) (failing_mid e)
      ∙ ap (λ (b : Bool). fails_beside mid r e || b) (beside_read r os)

  -- ---- and whether a move is done

  under_mid : (c : OpenCopy) (os : List Open) → list_any (goes_beside new c) os ≡ list_any (goes_beside mid c) os
  under_mid c [] = refl
  under_mid c (o ∷ os) = ap (λ (b : Bool). goes_beside new c o || b) (under_mid c os)

  -- so it is where the same of the requests go beside the copy
  pub moved_read : (ask : Ask) → ((c : OpenCopy) → old.copy ≡ Some c → list_any (goes_beside old c) new.requests ≡ list_any (goes_beside old c) old.requests) → is_held_by_move new ask ≡ is_held_by_move old ask
  moved_read ask going = by new.copy refl ∙ ap (λ (core : Core). is_held_by_move core ask) mid_is
    where
      under : (c : OpenCopy) → new.copy ≡ Some c → is_under_way new c ≡ is_under_way mid c
      under c is =
          under_mid c new.requests ∙ ap (λ (core : Core). list_any (goes_beside core c) new.requests) mid_is ∙ going c (sym same.copy ∙ is)
          ∙ sym (ap (λ (core : Core). list_any (goes_beside core c) old.requests) mid_is)

      by : (m : Option OpenCopy) → new.copy ≡ m → option_map_or (λ (c : OpenCopy). is_move_done new c && is_beside_copy new ask c) m false ≡ option_map_or (λ (c : OpenCopy). is_move_done mid c && is_beside_copy mid ask c) m false
      by None is = refl
      by (Some c) is = ap (λ (b : Bool). c.moves && is_running c && is_whole new c && stays_fresh new c.pp && not b && is_beside_copy new ask c) (under c is)

  -- what is pending is told by the same test of the requests that there are
  pub pending_read : (r : Request) → is_held_by_move new r.ask ≡ is_held_by_move old r.ask → is_pending new r ≡ (is_held_by_move old r.ask || (is_unsettled old r || list_any (fails_beside old r) new.requests))
  pending_read r moved =
      ap (λ (b : Bool). is_held_by_move new r.ask || (is_unsettled new r || b)) (beside_read r new.requests)
      ∙ ap (λ (b : Bool). b || (is_unsettled new r || list_any (fails_beside mid r) new.requests)) moved
      ∙ ap (λ (core : Core). is_held_by_move old r.ask || (is_unsettled core r || list_any (fails_beside core r) new.requests)) mid_is

  -- ---- where the notes are as they were too

  module _ (notes : new.cache.notes ≡ old.cache.notes) where
    abbrev noted : Core
    noted = record mid { cache = record old.cache { notes = new.cache.notes } }

    noted_is : noted ≡ old
    noted_is = ap (λ (core : Core). let c : Core = record core { cache = record old.cache { notes = new.cache.notes } } in c) mid_is ∙ ap (λ (ns : List DiskNotes). let c : Core = record old { cache = record old.cache { notes = ns } } in c) notes

    names_read : (m : Mode) (r : Request) → has_names new m r ≡ has_names noted m r
    names_read mode.Active r = refl
    names_read mode.Passive r = refl
    names_read mode.Off r = refl

    pub names_same : (r : Request) → has_names new (mode_of new r.ask) r ≡ has_names old (mode_of old r.ask) r
    names_same r = names_read (mode_of new r.ask) r ∙ ap (λ (core : Core). has_names core (mode_of core r.ask) r) noted_is

    unnamed_read : (ask : Ask) (ts : List Target) → find (is_unnamed new ask) ts ≡ find (is_unnamed noted ask) ts
    unnamed_read ask [] = refl
    unnamed_read ask (t ∷ ts) = ap (λ (m : Option Target). cond (is_unnamed new ask t) (Some t) m) (unnamed_read ask ts)

    pub note_same : (o : Open) → note_due new o ≡ note_due old o
    note_same o =
        ap (λ (m : Option Target). if wants_record o.request.phase && o.request.pinned then option_map (λ (t : Target). t.pp.disk) m else None) (unnamed_read o.request.ask o.request.targets.items)
        ∙ ap (λ (core : Core). note_due core o) noted_is

    -- all but who is in the way
    pub facts_but : (r : Request) → is_pending new r ≡ is_pending old r → facts_of new r ≡ record (facts_of old r) { blocked = is_held_back new r }
    facts_but r pending = facts_read r ∙ (λ i. record (facts_of old r) { blocked = is_held_back new r; pending = pending i; named = names_same r i })
