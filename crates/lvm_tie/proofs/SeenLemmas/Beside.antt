-- The partition beside the group's copies is no copy of the group, and counts as stale.
use Rattle.std.proofs.Common.{◌≡◌, inl, inr, ⊎_elim, ℕ, ◌<◌, Bool, true, false, ◌&&◌, ◌||◌, ◌==◌, List, Option, Some, None, refl, sym, ap, subst, ◌∙◌}
use Rattle.std.specs.Prelude.{IsTrue, IsFalse}
use Rattle.std.specs.Option.{option_map_or}
use Rattle.lvm_num.specs.declared.place.Pp.{Pp}
use Rattle.lvm_num.specs.declared.descriptor.LvRow.{LvRow}
use Rattle.lvm_num.specs.declared.descriptor.Descriptor.{Descriptor}
use Rattle.lvm_num.specs.declared.status.Status.{Status}
use Rattle.lvm_num.specs.Descriptor.{copies_of, is_pp}
use Rattle.lvm_num.specs.Disks.{Disks}
use Rattle.lvm_num.specs.Geometry.{partition_of}
use Rattle.lvm_num.specs.Status.{calls_stale}
use Rattle.lvm_num.proofs.Booleans.{same_meaning}
use Rattle.lvm_vol.specs.Facts.{Fact}
use Rattle.lvm_kept.specs.Group.{IsOneOf, IsBlockOf}
use Rattle.lvm_invariant.specs.State.{Beside, ModelState}
use Rattle.lvm_crash.specs.Copies.{IsCopyOf}
use Rattle.lvm_crash.specs.Session.{HasVolumes, IsPlaceOf, is_beside, marks_of}
use Rattle.lvm_crash.proofs.WritingLemmas.{pp_same, same_pp}
use Rattle.lvm_session.specs.declared.bringing.OpenCopy.{OpenCopy}
use Rattle.lvm_session.specs.State.{Core}
use Rattle.lvm_tie.specs.Seen.{beside_if, beside_of, its_blocks}

-- ---- marks

-- what a status calls stale is seen so
pub stale_so : (o : Option Beside) (status : Status) (p : Pp) → calls_stale status p ≡ true → IsTrue ((marks_of o status).stale p)
stale_so o status p stale = by (is_beside o p)
  where
    by : (b : Bool) → b || calls_stale status p ≡ true
    by true = refl
    by false = stale

-- so is the partition beside
pub beside_stale : (o : Option Beside) (status : Status) (p : Pp) → IsTrue (is_beside o p) → IsTrue ((marks_of o status).stale p)
beside_stale o status p is = ap (λ b. b || calls_stale status p) is

-- any other is seen as the status calls it
pub stale_apart : (o : Option Beside) (status : Status) (p : Pp) → is_beside o p ≡ false → (marks_of o status).stale p ≡ calls_stale status p
stale_apart o status p off = ap (λ b. b || calls_stale status p) off

-- what is seen as fresh isn't the partition beside, and the status calls it fresh
pub fresh_so : (o : Option Beside) (status : Status) (p : Pp) → IsFalse ((marks_of o status).stale p) → (is_beside o p ≡ false) × (calls_stale status p ≡ false)
fresh_so o status p = by (is_beside o p)
  where
    by : (b : Bool) → b || calls_stale status p ≡ false → (b ≡ false) × (calls_stale status p ≡ false)
    by true h = absurd (cc h)
    by false h = (refl, h)

-- ---- copies

module _ {v : ModelState} {facts : List Fact} {group : Descriptor} {members : Disks} (volumes : HasVolumes v facts group members) where
  -- a copy of the group isn't the partition beside
  pub copy_apart : (row : LvRow) (lp : ℕ) (p : Pp) → IsOneOf group.lvs row → lp < row.lps → IsOneOf (copies_of row lp) p → is_beside v.beside p ≡ false
  copy_apart row lp p one low copy = by v.beside refl
    where
      by : (o : Option Beside) → v.beside ≡ o → is_beside o p ≡ false
      by None is = refl
      by (Some o) is = at (is_pp p o.place) refl
        where
          at : (b : Bool) → is_pp p o.place ≡ b → b ≡ false
          at false e = refl
          at true e = absurd ((volumes.free o is).free row lp one low (subst (IsOneOf (copies_of row lp)) (pp_same p o.place e) copy))

  -- on a member that shows the group it is one of the state
  pub copy_seen : (row : LvRow) (lp b : ℕ) (p : Pp) → IsOneOf group.lvs row → IsBlockOf group.mib row lp b → IsOneOf (copies_of row lp) p → IsTrue (members p.disk) → IsTrue (v.is_copy row.number b p)
  copy_seen row lp b p one inside copy shown = (volumes.copies row lp b p one inside).1 (by v.beside, shown)
    where
      by : (o : Option Beside) → IsPlaceOf o row lp b p
      by None = copy
      by (Some o) = inl copy

  -- one of the state is on such a member
  pub copy_shown : (row : LvRow) (lp b : ℕ) (p : Pp) → IsOneOf group.lvs row → IsBlockOf group.mib row lp b → IsTrue (v.is_copy row.number b p) → IsTrue (members p.disk)
  copy_shown row lp b p one inside copy = ((volumes.copies row lp b p one inside).0 copy).1

  -- and one of the group, where it isn't the partition beside
  pub copy_its : (row : LvRow) (lp b : ℕ) (p : Pp) → IsOneOf group.lvs row → IsBlockOf group.mib row lp b → is_beside v.beside p ≡ false → IsTrue (v.is_copy row.number b p) → IsOneOf (copies_of row lp) p
  copy_its row lp b p one inside off copy = by v.beside off ((volumes.copies row lp b p one inside).0 copy).0
    where
      by : (o : Option Beside) → is_beside o p ≡ false → IsPlaceOf o row lp b p → IsOneOf (copies_of row lp) p
      by None e its = its
      by (Some o) e its = ⊎_elim (λ here. here) (λ (at : (p ≡ o.place) × IsTrue (o.its row.number b)). absurd (let x : true ≡ false = sym (same_pp p o.place at.0) ∙ e in cc)) its

  -- blocks of one logical partition have the same copies, where the partition beside stands for both or for none of them
  pub same_copies : (row : LvRow) (lp a b : ℕ) (p : Pp) → IsOneOf group.lvs row → IsBlockOf group.mib row lp a → IsBlockOf group.mib row lp b
      → ((o : Beside) → v.beside ≡ Some o → o.its row.number a ≡ o.its row.number b) → v.is_copy row.number a p ≡ v.is_copy row.number b p
  same_copies row lp a b p one at_a at_b alike =
      let here = volumes.copies row lp a p one at_a in
      let there = volumes.copies row lp b p one at_b in
      same_meaning (v.is_copy row.number a p) (v.is_copy row.number b p)
      here.0 here.1
      (λ is. let k = there.0 is in (by v.beside (λ o e. sym (alike o e)) k.0, k.1))
      (λ k. there.1 (by v.beside alike k.0, k.1))
    where
      by : {c d : ℕ} (m : Option Beside) → ((o : Beside) → m ≡ Some o → o.its row.number c ≡ o.its row.number d) → IsPlaceOf m row lp c p → IsPlaceOf m row lp d p
      by None same its = its
      by (Some o) same its = ⊎_elim (λ one_of. inl one_of) (λ (at : (p ≡ o.place) × IsTrue (o.its row.number _)). inr (at.0, sym (same o refl) ∙ at.1)) its

  -- so it is one of the group's block
  pub copy_plain : (lv b : ℕ) (p : Pp) → is_beside v.beside p ≡ false → IsTrue (v.is_copy lv b p) → IsCopyOf group lv b p
  copy_plain lv b p off copy =
      let inside = volumes.inside lv b p copy in
      record {
        row = inside.row;
        lp = inside.lp;
        volume = inside.volume;
        number = inside.number;
        inside = inside.inside;
        copy = copy_its inside.row inside.lp b p inside.volume inside.inside off (subst (λ (n : ℕ). IsTrue (v.is_copy n b p)) (sym inside.number) copy);
      }

-- ---- a copy that moves, or doesn't

-- what is beside stands for all blocks of a logical partition or for none of them
pub beside_alike : (core : Core) (o : Option Beside) → o ≡ beside_of core → (lv a b : ℕ) → partition_of core.descriptor.mib a ≡ partition_of core.descriptor.mib b → (x : Beside) → o ≡ Some x → x.its lv a ≡ x.its lv b
beside_alike core o seen lv a b same x is = by core.copy (sym seen ∙ is)
  where
    of : (c : OpenCopy) (m : Bool) → beside_if m core c ≡ Some x → x.its lv a ≡ x.its lv b
    of c true e = let own : record { place = c.pp; its = its_blocks core c } ≡ x = (let k : Some (record { place = c.pp; its = its_blocks core c }) ≡ Some x = e in cc) in
        subst (λ (y : Beside). y.its lv a ≡ y.its lv b) own (ap (λ n. (lv == c.lv) && (n == c.lp)) same)
    of c false e = absurd (cc e)

    by : (m : Option OpenCopy) → option_map_or (λ (d : OpenCopy). beside_if d.moves core d) m None ≡ Some x → x.its lv a ≡ x.its lv b
    by None e = absurd (cc e)
    by (Some c) e = of c c.moves e

-- what is beside is by the copy that is open
pub open_beside : (core : Core) (c : OpenCopy) (o : Option Beside) → o ≡ beside_of core → core.copy ≡ Some c → o ≡ beside_if c.moves core c
open_beside core c o seen is = seen ∙ ap (λ (m : Option OpenCopy). option_map_or (λ (d : OpenCopy). beside_if d.moves core d) m None) is

-- where none is open nothing is
pub closed_beside : (core : Core) → core.copy ≡ None → beside_of core ≡ None
closed_beside core is = ap (λ (m : Option OpenCopy). option_map_or (λ (d : OpenCopy). beside_if d.moves core d) m None) is

-- where that doesn't move nothing is
pub none_beside : (core : Core) (c : OpenCopy) (o : Option Beside) → o ≡ beside_of core → core.copy ≡ Some c → c.moves ≡ false → o ≡ None
none_beside core c o seen is stays =
    open_beside core c o seen is ∙ ap (λ b. beside_if b core c) stays

-- where it does its destination is
pub moving_beside : (core : Core) (c : OpenCopy) (o : Option Beside) → o ≡ beside_of core → core.copy ≡ Some c → c.moves ≡ true → o ≡ Some (record { place = c.pp; its = its_blocks core c })
moving_beside core c o seen is moves = open_beside core c o seen is ∙ ap (λ b. beside_if b core c) moves

pub destination_beside : (core : Core) (c : OpenCopy) (o : Option Beside) → o ≡ beside_of core → core.copy ≡ Some c → c.moves ≡ true → IsTrue (is_beside o c.pp)
destination_beside core c o seen is moves =
    ap (λ (x : Option Beside). is_beside x c.pp) (moving_beside core c o seen is moves) ∙ same_pp c.pp c.pp refl

-- The partition beside is the destination of the copy that is open, which moves.
pub record IsDestinationOf (core : Core) (p : Pp) : Type 0 where
  pub copy : OpenCopy
  pub is_open : core.copy ≡ Some copy
  pub moves : copy.moves ≡ true
  pub is : p ≡ copy.pp

pub beside_destination : (core : Core) (o : Option Beside) (p : Pp) → o ≡ beside_of core → IsTrue (is_beside o p) → IsDestinationOf core p
beside_destination core o p seen is = by core.copy refl (sym (ap (λ (x : Option Beside). is_beside x p) seen) ∙ is)
  where
    of : (c : OpenCopy) → core.copy ≡ Some c → (b : Bool) → c.moves ≡ b → IsTrue (is_beside (beside_if b core c) p) → IsDestinationOf core p
    of c at true moves h = record { copy = c; is_open = at; moves = moves; is = pp_same p c.pp h }
    of c at false moves h = absurd (cc h)

    by : (m : Option OpenCopy) → core.copy ≡ m → IsTrue (is_beside (option_map_or (λ (d : OpenCopy). beside_if d.moves core d) m None) p) → IsDestinationOf core p
    by None at h = absurd (cc h)
    by (Some c) at h = of c at c.moves refl h
