-- Members are wanted missing while nothing is in flight.
use Rattle.std.proofs.Common.{◌≡◌, ℕ, ◌+◌, ◌<◌, Bool, true, false, ◌&&◌, ◌||◌, not, List, [], length, take, get_or, None, refl, sym, ◌∙◌, ap, subst}
use Rattle.std.specs.Prelude.{◌==◌, if◌then◌else◌}
use Rattle.std.specs.List.{list_any}
use Rattle.std.proofs.lemmas.Bool.{eq-eqb, eqb-true, false≢true}
use Rattle.std.proofs.lemmas.List.Folds.{list_any_more}
use Rattle.lvm_num.specs.declared.descriptor.PvRow.{PvRow}
use Rattle.lvm_num.specs.declared.status.Status.{Status}
use Rattle.lvm_num.specs.Disks.{Disks}
use Rattle.lvm_num.specs.Status.{calls_missing}
use Rattle.lvm_status.specs.passed.Status.{has_row}
use Rattle.lvm_status.proofs.passed.Status.{any_disk}
use Rattle.lvm_status.specs.declared.change.Change.TheVariants as change
use Rattle.lvm_status.specs.Update.{Stored, Updates, seen}
use Rattle.lvm_status.specs.Calls.{BecomesMissing, with_wanted, given_up}
use Rattle.lvm_status.proofs.Disks.{swap}
use Rattle.lvm_commit.specs.Settling.{HasSameRows, IsForgotten}
use Rattle.lvm_commit.specs.Rounds.{Misses}
use Rattle.lvm_status.proofs.RunsLemmas.Sessions.{closed_cases}
use Rattle.lvm_commit.proofs.RoundsLemmas.Losing.{misses_none, misses_same, misses_more}

-- ---- rows

pub row_stays : (old new : Status) → HasSameRows old new → (disk : ℕ) → has_row new disk ≡ has_row old disk
row_stays old new same disk = any_disk new.rows disk ∙ ap (λ disks. list_any (λ n. n == disk) disks) same.disks ∙ sym (any_disk old.rows disk)

-- ---- one want

-- the disk has no write of an update
abbrev HasNone : Updates → ℕ → Type 0
HasNone u disk = (u.unstarted disk ≡ false) × (u.started disk ≡ false) × (u.written disk ≡ false) × (u.failed disk ≡ false)

record KeepsRest (u : Updates) (x : Updates) : Type 0 where
  group : x.group ≡ u.group
  stamp : x.stamp ≡ u.stamp
  committed : x.committed ≡ u.committed
  idle : x.in_flight ≡ None
  none : ((disk : ℕ) → HasNone u disk) → (disk : ℕ) → HasNone x disk

want_keeps : (u : Updates) (disk : ℕ) (w : Status) → u.in_flight ≡ None → KeepsRest u (with_wanted u (change.Missing disk) w)
want_keeps u disk w idle =
    closed_cases (KeepsRest u) (record u { wanted = w; unstarted = given_up (change.Missing disk) u.unstarted })
    (λ held none. record { group = refl; stamp = refl; committed = refl; idle = refl; none = λ all d. (refl, refl, refl, refl) })
    (record { group = refl; stamp = refl; committed = refl; idle = idle; none = λ all d. (ap (λ b. b && not (d == disk)) (all d).0, (all d).1, (all d).2, (all d).3) })

-- ---- row by row

abbrev among : List PvRow → Disks
among rows disk = list_any (λ (row : PvRow). row.disk == disk) rows

-- those that are among these rows are wanted missing
pub record IsLosing (failed : Disks) (rows : List PvRow) (first u : Stored) : Type 0 where
  pub group : u.group ≡ first.group
  pub stamp : u.stamp ≡ first.stamp
  pub committed : u.committed ≡ first.committed
  pub idle : u.in_flight ≡ None
  pub wanted : Misses (λ d. failed d && among rows d) first.wanted u.wanted
  pub forgotten : IsForgotten first → IsForgotten u

pub losing_none : (failed : Disks) (first : Stored) → first.in_flight ≡ None → IsLosing failed [] first first
losing_none failed first idle = record { group = refl; stamp = refl; committed = refl; idle = idle; wanted = misses_none (λ d. failed d && false) first.wanted (λ d. never (failed d)); forgotten = λ is. is }
  where
    never : (b : Bool) → b && false ≡ false
    never true = refl
    never false = refl

module _ (failed : Disks) (rows : List PvRow) (i : ℕ) (e : PvRow) (less : i < length rows) (first u : Stored) (losing : IsLosing failed (take i rows) first u) where
  abbrev disk : ℕ
  disk = (get_or rows i e).disk

  more : (d : ℕ) → among (take (i + 1) rows) d ≡ among (take i rows) d || (d == disk)
  more d = list_any_more (λ (row : PvRow). row.disk == d) rows i e less ∙ ap (λ b. among (take i rows) d || b) (swap disk d)

  pub losing_more : (x : Stored) → failed disk ≡ true → BecomesMissing disk u.wanted x.wanted → seen x ≡ with_wanted (seen u) (change.Missing disk) x.wanted → IsLosing failed (take (i + 1) rows) first x
  losing_more x is misses rest =
      let keeps : KeepsRest (seen u) (seen x) = subst (KeepsRest (seen u)) (sym rest) (want_keeps (seen u) disk x.wanted losing.idle) in
      record {
        group = keeps.group ∙ losing.group;
        stamp = keeps.stamp ∙ losing.stamp;
        committed = keeps.committed ∙ losing.committed;
        idle = keeps.idle;
        forgotten = λ is none. keeps.none (losing.forgotten is losing.idle);
        wanted = misses_more (λ d. failed d && among (take i rows) d) (λ d. failed d && among (take (i + 1) rows) d) disk first.wanted u.wanted x.wanted losing.wanted misses
            (λ d. ap (λ b. calls_missing first.wanted d || (failed d && b)) (more d) ∙ grows (calls_missing first.wanted d) (failed d) (among (take i rows) d) (d == disk) (λ same. ap failed (eqb-true d disk same) ∙ is))
            (ap (λ b. failed disk && b) (more disk) ∙ ap (λ b. b && (among (take i rows) disk || (disk == disk))) is ∙ ap (λ b. among (take i rows) disk || b) (eq-eqb disk disk refl) ∙ always (among (take i rows) disk));
      }
    where
      always : (b : Bool) → b || true ≡ true
      always true = refl
      always false = refl

      grows : (m fails before same : Bool) → (same ≡ true → fails ≡ true) → m || (fails && (before || same)) ≡ (if same then true else m || (fails && before))
      grows true fails before true its = refl
      grows false true true true its = refl
      grows false true false true its = refl
      grows false false before true its = absurd (false≢true (its refl))
      grows m fails true false its = refl
      grows m fails false false its = refl

  pub losing_same : failed disk ≡ false → IsLosing failed (take (i + 1) rows) first u
  losing_same well = record {
    group = losing.group;
    stamp = losing.stamp;
    committed = losing.committed;
    idle = losing.idle;
    forgotten = losing.forgotten;
    wanted = misses_same (λ d. failed d && among (take i rows) d) (λ d. failed d && among (take (i + 1) rows) d) first.wanted u.wanted u.wanted losing.wanted refl
        (λ d. ap (λ b. failed d && b) (more d) ∙ stays (failed d) (among (take i rows) d) (d == disk) (λ same. ap failed (eqb-true d disk same) ∙ well));
  }
    where
      stays : (fails before same : Bool) → (same ≡ true → fails ≡ false) → fails && (before || same) ≡ fails && before
      stays false before same its = refl
      stays true before true its = absurd (false≢true (sym (its refl)))
      stays true true false its = refl
      stays true false false its = refl
