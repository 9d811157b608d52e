-- A consistency record written to a disk.
use Rattle.std.proofs.Common.{◌≡◌, ⊎_elim, ℕ, ◌-◌, Bool, true, false, Some, None, IsTrue, List, [], ◌∷◌, length, slice_get, refl, sym, ◌∙◌, ap, subst, arith, eq-eqb}
use Rattle.std.specs.Prelude.{slice_set, ◌==◌, ◌&&◌, nat_le, nat_lt, if◌then◌else◌}
use Rattle.std.proofs.lemmas.Bool.{eqb-true, ltb-true, leb-true, ne_eqb}
use Rattle.std.proofs.lemmas.Bool.Decides.{nat_tests}
use Rattle.lvm_num.specs.Buffer.{Buffer, Sector}
use Rattle.lvm_num.specs.Disks.{Disks}
use Rattle.lvm_disk.specs.Device.{Device, image_of}
use Rattle.lvm_quorum.specs.passed.Transfer.{note_sector, ChangesBy, IsPlanned, IsOfNote, flight_of, Moved}
use Rattle.lvm_write.specs.Notes.{NoteTold}
use Rattle.lvm_write.specs.Parts.{DoesPart}
use Rattle.lvm_write.specs.Written.{KeepsShelf}
use Rattle.lvm_write.proofs.WrittenLemmas.Writing.{if_told, told_at, both_from}

-- what stands goes on standing
pub note_stays : (targets : Disks) (sector : Sector) (now new : Device) (d : ℕ) → KeepsShelf targets (IsOfNote targets sector) now new → NoteTold sector now d → NoteTold sector new d
note_stays targets sector now new d keeps stands = if_told new.media (λ media. media d note_sector ≡ sector)
    (λ n is.
    let back = both_from now.media new.media (λ was is. ChangesBy (IsOfNote targets sector) (image_of now.sizes was) (image_of new.sizes is)) n keeps.media is in
    ⊎_elim
    (λ (same : n d note_sector ≡ back.0 d note_sector). same ∙ told_at now.media (λ media. media d note_sector ≡ sector) back.0 back.1 stands)
    (λ (p : IsOfNote targets sector d note_sector (n d note_sector)). p.is)
    (back.2.each d note_sector))

-- what is put into the first place stands there
pub first_put : (sectors : List Sector) (sector : Sector) → length sectors ≡ 256 → slice_get (slice_set sectors 0 sector) 0 ≡ Some sector
first_put [] sector long = absurd (cc (long))
first_put (x ∷ rest) sector long = refl

module _ (disk : ℕ) (buf : Buffer) (sector : Sector) (carries : slice_get buf.sectors 0 ≡ Some sector) where
  -- the transfer writes nothing else
  pub note_planned : (targets : Disks) → IsTrue (targets disk) → IsPlanned (IsOfNote targets sector) (flight_of 0 true disk 8 1 buf)
  note_planned targets target d s value is = go (disk == d) (nat_le 8 s) (nat_lt s 9) refl refl refl is
    where
      go : (p q r : Bool) → (disk == d) ≡ p → nat_le 8 s ≡ q → nat_lt s 9 ≡ r → (if p && q && r then slice_get buf.sectors (s - 8) else None) ≡ Some value → IsOfNote targets sector d s value
      go true true true p q r is =
          let low = leb-true 8 s q in
          let high = ltb-true s 9 r in
          let here : s ≡ 8 = omega (arith, low, high) in
          let at : s - 8 ≡ 0 = omega (arith, here) in
          let got : Some value ≡ Some sector = sym is ∙ ap (slice_get buf.sectors) at ∙ carries in
          record {
            target = subst (λ (x : ℕ). IsTrue (targets x)) (eqb-true disk d p) target;
            place = here;
            is = cc;
          }
      go true true false p q r is = absurd (cc)
      go true false u p q r is = absurd (cc)
      go false t u p q r is = absurd (cc)

-- ---- the write of one disk

module _ (a b : Sector) (disk number p q : ℕ) (old new : Device) (how : Moved) (same : a ≡ b)
    (part : (targets : Disks) → IsTrue (targets disk) → DoesPart targets (IsOfNote targets a) disk number p q old new how) where
  pub note_part : (targets : Disks) → IsTrue (targets disk) → DoesPart targets (IsOfNote targets b) disk number p q old new how
  note_part targets target = subst (λ (s : Sector). DoesPart targets (IsOfNote targets s) disk number p q old new how) same (part targets target)

  -- nothing starts on another disk
  pub note_alone : (d : ℕ) → (d ≡ disk → ⊥) → new.counts.starts d ≡ old.counts.starts d
  note_alone d differ = (part (λ x. x == disk) (eq-eqb disk disk refl)).keeps.starts d (ne_eqb d disk differ)
