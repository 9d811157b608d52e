-- What is committed and wanted once a write of a record on a disk has ended.
use Rattle.std.proofs.Common.{◌≡◌, ◌⊎◌, inl, inr, ◌==◌, ℕ, Bool, true, false, ◌&&◌, ◌||◌, not, if◌then◌else◌, List, [], ◌∷◌, Option, Some, None, map, refl, sym, ◌∙◌, ap, subst}
use Rattle.std.specs.Prelude.{unwrap_or}
use Rattle.std.specs.List.{list_any}
use Rattle.std.proofs.lemmas.Map.Keys.{any_passes_from_place}
use Rattle.std.proofs.lemmas.Bool.{eqb-true}
use Rattle.lvm_num.specs.declared.descriptor.PvRow.{PvRow}
use Rattle.lvm_num.specs.declared.place.Pp.{Pp}
use Rattle.lvm_num.specs.declared.status.Status.{Status}
use Rattle.lvm_num.specs.declared.status.StatusRow.{StatusRow}
use Rattle.lvm_num.specs.Descriptor.{is_member}
use Rattle.lvm_num.specs.Disks.{has}
use Rattle.lvm_num.specs.Status.{calls_missing, calls_stale}
use Rattle.lvm_num.proofs.Booleans.{not_so}
use Rattle.lvm_status.specs.Table.{has_row}
use Rattle.lvm_status.specs.Calls.{BecomesMissing, closed}
use Rattle.lvm_status.specs.Runs.{IsSoundStatus}
use Rattle.lvm_status.specs.Update.{Stored, Updates, is_held, is_owed, no_disks, seen}
use Rattle.lvm_session.specs.State.{Core}
use Rattle.lvm_session.specs.Judging.{is_missing, is_wanted_stale}
use Rattle.lvm_keeps.proofs.Small.{both, is_false}
use Rattle.lvm_keeps_events.proofs.Finding.{found}

-- the status in flight, or else the committed one
abbrev pub in_flight_of : Core → Status
in_flight_of core = unwrap_or core.status.in_flight core.status.committed

-- one member more is missing
pub record Loses (core : Core) (disk : ℕ) (wanted : Status) : Type 0 where
  pub member : is_member core.descriptor disk ≡ true
  pub there : is_missing core disk ≡ false
  pub missing : (d : ℕ) → calls_missing wanted d ≡ (if d == disk then true else is_missing core d)

-- The update may be committed, and may have ended; or the disk is missing. All else is as it was.
pub record Follows (core : Core) (disk : ℕ) (next : Stored) : Type 0 where
  pub group : next.group ≡ core.status.group
  pub stamp : next.stamp ≡ core.status.stamp
  pub flies : unwrap_or next.in_flight next.committed ≡ in_flight_of core
  pub in_flight : (next.in_flight ≡ core.status.in_flight) ⊎ (next.in_flight ≡ None)
  pub committed : (next.committed ≡ core.status.committed) ⊎ ((next.committed ≡ in_flight_of core) × (next.wanted ≡ core.status.wanted))
  pub id : next.wanted.id ≡ core.status.wanted.id
  pub rows : (d : ℕ) → has_row next.wanted d ≡ has_row core.status.wanted d
  pub stale : (p : Pp) → calls_stale next.wanted p ≡ is_wanted_stale core p
  pub dirty : next.wanted.dirty ≡ core.status.wanted.dirty
  pub lost : (next.wanted ≡ core.status.wanted) ⊎ Loses core disk next.wanted
  pub unstarted : (d : ℕ) → has next.writes.unstarted d ≡ true → has core.status.writes.unstarted d ≡ true
  pub sound : IsSoundStatus (seen next)

-- ---- an update that may have ended

-- it has
abbrev over : Updates → Updates
over x = record x { in_flight = None; unstarted = no_disks; started = no_disks; written = no_disks; failed = no_disks }

module _ (x : Updates) where
  by_end : (P : Updates → Type 0) → (is_held x && not (is_owed x) ≡ true → P (over x)) → P x → P (closed x)
  by_end P ended still = by (is_held x && not (is_owed x)) refl
    where
      by : (b : Bool) → is_held x && not (is_owed x) ≡ b → P (if b then over x else x)
      by true is = ended is
      by false is = still

  -- a write to a member that is started is owed
  owed : (d : ℕ) → is_member x.group d ≡ true → x.started d ≡ true → is_owed x ≡ true
  owed d member started =
      let one = found (λ (row : PvRow). row.disk == d) x.group.pvs member in
      any_passes_from_place (λ (row : PvRow). x.unstarted row.disk || x.started row.disk) x.group.pvs one.1 one.0 one.2 (right (x.unstarted one.0.disk) (ap x.started (eqb-true one.0.disk d one.3) ∙ started))
    where
      right : (a : Bool) {b : Bool} → b ≡ true → a || b ≡ true
      right true e = refl
      right false e = e

  pub started_end : ((d : ℕ) → x.started d ≡ true → is_member x.group d ≡ true) → (d : ℕ) → (closed x).started d ≡ x.started d
  started_end members d = by_end (λ y. y.started d ≡ x.started d) (λ ended. none ended (x.started d) refl) refl
    where
      none : is_held x && not (is_owed x) ≡ true → (b : Bool) → x.started d ≡ b → false ≡ b
      none ended false is = refl
      none ended true is = not_so (sym (is_false (is_owed x) (both (is_held x) (not (is_owed x)) ended).1) ∙ owed d (members d is) is)

  -- a disk is missing by it, or nothing is new
  pub lost_follows : (core : Core) (disk : ℕ) (next : Stored) → seen next ≡ closed x → x.group ≡ core.status.group → x.stamp ≡ core.status.stamp → x.in_flight ≡ core.status.in_flight → x.committed ≡ core.status.committed
      → is_held x ≡ is_held (seen core.status) → ((d : ℕ) → x.unstarted d ≡ true → has core.status.writes.unstarted d ≡ true) → BecomesMissing disk core.status.wanted next.wanted → is_member core.descriptor disk ≡ true
      → IsSoundStatus (seen core.status) → IsSoundStatus (seen next) → Follows core disk next
  lost_follows core disk next is group stamp flight committed held fewer wants member was sound = record {
    group = ap (λ (y : Updates). y.group) is ∙ by_end (λ y. y.group ≡ x.group) (λ e. refl) refl ∙ group;
    stamp = ap (λ (y : Updates). y.stamp) is ∙ by_end (λ y. y.stamp ≡ x.stamp) (λ e. refl) refl ∙ stamp;
    flies = ap (λ (y : Updates). unwrap_or y.in_flight y.committed) is ∙ by_end (λ y. unwrap_or y.in_flight y.committed ≡ in_flight_of core) (λ e. committed ∙ sym (ap (λ m. unwrap_or m core.status.committed) (was.held (sym held ∙ (both (is_held x) (not (is_owed x)) e).0)))) (ap (λ m. unwrap_or m x.committed) flight ∙ ap (λ c. unwrap_or core.status.in_flight c) committed);
    in_flight = subst (λ (y : Updates). (y.in_flight ≡ core.status.in_flight) ⊎ (y.in_flight ≡ None)) (sym is) (by_end (λ y. (y.in_flight ≡ core.status.in_flight) ⊎ (y.in_flight ≡ None)) (λ e. inr refl) (inl flight));
    committed = inl (ap (λ (y : Updates). y.committed) is ∙ by_end (λ y. y.committed ≡ x.committed) (λ e. refl) refl ∙ committed);
    id = wants.members.id;
    rows = λ d. row_same d next.wanted.rows core.status.wanted.rows wants.members.disks;
    stale = wants.stale;
    dirty = wants.dirty;
    lost = by_missing (is_missing core disk) refl;
    unstarted = λ d e. fewer d (by_end (λ y. y.unstarted d ≡ true → x.unstarted d ≡ true) (λ ended none. not_so none) (λ same. same) (sym (ap (λ (y : Updates). y.unstarted d) is) ∙ e));
    sound = sound;
  }
    where
      row_same : (d : ℕ) (xs ys : List StatusRow) → map (λ (r : StatusRow). r.disk) xs ≡ map (λ (r : StatusRow). r.disk) ys → list_any (λ (r : StatusRow). r.disk == d) xs ≡ list_any (λ (r : StatusRow). r.disk == d) ys
      row_same d xs ys same = sym (mapped xs) ∙ ap (λ (ns : List ℕ). list_any (λ n. n == d) ns) same ∙ mapped ys
        where
          mapped : (zs : List StatusRow) → list_any (λ n. n == d) (map (λ (r : StatusRow). r.disk) zs) ≡ list_any (λ (r : StatusRow). r.disk == d) zs
          mapped [] = refl
          mapped (z ∷ zs) = ap (λ c. z.disk == d || c) (mapped zs)

      by_missing : (b : Bool) → is_missing core disk ≡ b → (next.wanted ≡ core.status.wanted) ⊎ Loses core disk next.wanted
      by_missing true gone = inl (wants.same gone)
      by_missing false there = inr (record { member = member; there = there; missing = wants.missing })

  -- it is committed by it, or isn't yet
  abbrev pub Commits : Core → Type 0
  Commits core = (x.committed ≡ in_flight_of core) ⊎ ((x.committed ≡ core.status.committed) × (is_held x ≡ true → core.status.in_flight ≡ Some core.status.committed))

  pub kept_follows : (core : Core) (disk : ℕ) (next : Stored) → seen next ≡ closed x → x.group ≡ core.status.group → x.stamp ≡ core.status.stamp → x.in_flight ≡ core.status.in_flight
      → Commits core → ((d : ℕ) → x.unstarted d ≡ true → has core.status.writes.unstarted d ≡ true) → next.wanted ≡ core.status.wanted → IsSoundStatus (seen next) → Follows core disk next
  kept_follows core disk next is group stamp flight commits fewer same sound = record {
    group = ap (λ (y : Updates). y.group) is ∙ by_end (λ y. y.group ≡ x.group) (λ e. refl) refl ∙ group;
    stamp = ap (λ (y : Updates). y.stamp) is ∙ by_end (λ y. y.stamp ≡ x.stamp) (λ e. refl) refl ∙ stamp;
    flies = ap (λ (y : Updates). unwrap_or y.in_flight y.committed) is ∙ by_end (λ y. unwrap_or y.in_flight y.committed ≡ in_flight_of core) (ended commits) (ap (λ m. unwrap_or m x.committed) flight ∙ still commits);
    in_flight = subst (λ (y : Updates). (y.in_flight ≡ core.status.in_flight) ⊎ (y.in_flight ≡ None)) (sym is) (by_end (λ y. (y.in_flight ≡ core.status.in_flight) ⊎ (y.in_flight ≡ None)) (λ e. inr refl) (inl flight));
    committed = by_commit commits;
    id = ap (λ (w : Status). w.id) same;
    rows = λ d. ap (λ (w : Status). has_row w d) same;
    stale = λ p. ap (λ (w : Status). calls_stale w p) same;
    dirty = ap (λ (w : Status). w.dirty) same;
    lost = inl same;
    unstarted = λ d e. fewer d (by_end (λ y. y.unstarted d ≡ true → x.unstarted d ≡ true) (λ over none. not_so none) (λ left. left) (sym (ap (λ (y : Updates). y.unstarted d) is) ∙ e));
    sound = sound;
  }
    where
      committed_is : next.committed ≡ x.committed
      committed_is = ap (λ (y : Updates). y.committed) is ∙ by_end (λ y. y.committed ≡ x.committed) (λ e. refl) refl

      by_commit : Commits core → (next.committed ≡ core.status.committed) ⊎ ((next.committed ≡ in_flight_of core) × (next.wanted ≡ core.status.wanted))
      by_commit (inl now) = inr (committed_is ∙ now, same)
      by_commit (inr yet) = inl (committed_is ∙ yet.0)

      ended : Commits core → is_held x && not (is_owed x) ≡ true → x.committed ≡ in_flight_of core
      ended (inl now) e = now
      ended (inr yet) e = yet.0 ∙ sym (ap (λ m. unwrap_or m core.status.committed) (yet.1 (both (is_held x) (not (is_owed x)) e).0))

      twice : (m : Option Status) (c : Status) → unwrap_or m (unwrap_or m c) ≡ unwrap_or m c
      twice None c = refl
      twice (Some t) c = refl

      still : Commits core → unwrap_or core.status.in_flight x.committed ≡ in_flight_of core
      still (inl now) = ap (λ c. unwrap_or core.status.in_flight c) now ∙ twice core.status.in_flight core.status.committed
      still (inr yet) = ap (λ c. unwrap_or core.status.in_flight c) yet.0
