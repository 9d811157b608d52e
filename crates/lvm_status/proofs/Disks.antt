-- Sets of disks, and the disks of members.
use Rattle.std.proofs.Common.{◌≡◌, inl, inr, ℕ, ◌+◌, ◌<◌, Bool, true, false, ◌&&◌, ◌||◌, not, List, length, get_or, take, refl, sym, ap, ◌∙◌, arith}
use Rattle.std.specs.Prelude.{◌==◌}
use Rattle.std.specs.List.{list_any}
use Rattle.std.proofs.lemmas.Bool.{eq-eqb, eqb-true, false_from_ne_true}
use Rattle.std.proofs.lemmas.Bool.Decides.{eqb_tells}
use Rattle.std.proofs.lemmas.List.Folds.{Any-from_list_any, list_any_more}
use Rattle.lvm_status.specs.passed.Num.{PvRow, Descriptor, IsValid, is_member, Disks}
pub use Rattle.std.proofs.lemmas.Bool.{cases_Bool as bool_tells}

-- sets with the same disks
pub same_disks : (a b : Disks) → ((disk : ℕ) → a disk ≡ b disk) → a ≡ b
same_disks a b each = λ t disk. each disk t

-- a member's disk is one of 128
pub member-below : (d : Descriptor) → IsValid d → (disk : ℕ) → is_member d disk ≡ true → disk < 128
member-below d valid disk is =
    let found = Any-from_list_any (λ (row : PvRow). row.disk == disk) d.pvs is in
    let member = valid.members.each found.0 found.1 found.2 in
    omega (arith, member.disk, ap (λ (row : PvRow). row.disk) found.3, eqb-true found.1.disk disk found.4)

-- one more row, which is the disk's or another's
its_row : (among gone : Bool) → (among && not gone) || not gone ≡ (among || true) && not gone
its_row true true = refl
its_row true false = refl
its_row false true = refl
its_row false false = refl

other_row : (among gone : Bool) → (among && not gone) || false ≡ (among || false) && not gone
other_row true true = refl
other_row true false = refl
other_row false gone = refl

-- the members of the first rows that aren't gone, with one more row
pub there_more : (rows : List PvRow) (gone : Disks) (k disk : ℕ) (e : PvRow) → k < length rows
    → list_any (λ (row : PvRow). row.disk == disk) (take (k + 1) rows) && not (gone disk)
    ≡ (list_any (λ (row : PvRow). row.disk == disk) (take k rows) && not (gone disk)) || ((get_or rows k e).disk == disk && not (gone (get_or rows k e).disk))
there_more rows gone k disk e lt =
    let among = list_any (λ (row : PvRow). row.disk == disk) (take k rows) in
    ap (λ b. b && not (gone disk)) (list_any_more (λ (row : PvRow). row.disk == disk) rows k e lt)
    ∙ sym (elim (eqb_tells (get_or rows k e).disk disk) [
      | inl same ↦
          ap (λ b. (among && not (gone disk)) || (b && not (gone (get_or rows k e).disk))) same.0
          ∙ ap (λ n. (among && not (gone disk)) || not (gone n)) same.1
          ∙ its_row among (gone disk) ∙ ap (λ b. (among || b) && not (gone disk)) (sym same.0)
      | inr apart ↦
          ap (λ b. (among && not (gone disk)) || (b && not (gone (get_or rows k e).disk))) apart.0
          ∙ other_row among (gone disk) ∙ ap (λ b. (among || b) && not (gone disk)) (sym apart.0)
    ])

-- a set gets a disk that isn't gone, and stays where it is
pub adds : (is gone : Bool) → gone ≡ false → (old now : Bool) → now ≡ old || is → now ≡ old || (is && not gone)
adds is gone not_gone old now e = e ∙ ap (λ b. old || b) (sym (ap (λ b. is && not b) not_gone ∙ with_all is))
  where
    with_all : (b : Bool) → b && true ≡ b
    with_all true = refl
    with_all false = refl

pub leaves : (is gone : Bool) → gone ≡ true → (old now : Bool) → now ≡ old → now ≡ old || (is && not gone)
leaves is gone has_gone old now e = e ∙ sym (ap (λ b. old || (is && not b)) has_gone ∙ without is old)
  where
    without : (b old : Bool) → old || (b && false) ≡ old
    without true true = refl
    without true false = refl
    without false true = refl
    without false false = refl

-- a test for equal numbers, either way round
pub swap : (m n : ℕ) → m == n ≡ n == m
swap m n = elim (eqb_tells m n) [
  | inl same ↦ same.0 ∙ sym (eq-eqb n m (sym same.1))
  | inr apart ↦ apart.0 ∙ sym (false_from_ne_true (n == m) (λ is. apart.1 (sym (eqb-true n m is))))
]
