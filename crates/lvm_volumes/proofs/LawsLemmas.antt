-- A group stays even where a volume has other copies.
use Rattle.std.proofs.Common.{◌≡◌, inl, ⊎_elim, ℕ, true, false, List, Option, Some, refl, sym, subst, ◌∙◌}
use Rattle.std.specs.Prelude.{◌==◌, Contains}
use Rattle.std.proofs.lemmas.Bool.{eqb-true, false≢true, eq-eqb}
use Rattle.lvm_num.specs.declared.place.Pp.{Pp}
use Rattle.lvm_num.specs.declared.descriptor.LvRow.{LvRow}
use Rattle.lvm_num.specs.declared.descriptor.Descriptor.{Descriptor}
use Rattle.lvm_num.specs.Descriptor.{IsValid, copies_of, volume_of}
use Rattle.lvm_num.specs.Disks.{Disks}
use Rattle.lvm_num.specs.Record.{Stamped}
use Rattle.lvm_num.specs.declared.status.Status.{Status}
use Rattle.lvm_num.specs.Status.{calls_stale}
use Rattle.lvm_kept.specs.Contents.{Contents}
use Rattle.lvm_kept.specs.Group.{IsOneOf}
use Rattle.lvm_steps.proofs.RecordLemmas.{either, clash}
use Rattle.lvm_session.specs.State.{is_there}
use Rattle.lvm_even.specs.Even.{IsEven}
use Rattle.lvm_even.specs.Commands.{IsUsable, KeepsCopies}
use Rattle.lvm_even.proofs.CommandsLemmas.{even_stays}
use Rattle.lvm_volume_plan.specs.Copies.{with_map, with_copies, first_copies, further_copies}
use Rattle.lvm_volume_plan.proofs.CopiesLemmas.Rows.{one_found, one_other, own_row}
use Rattle.lvm_volume_plan.proofs.CopiesLemmas.More as more
use Rattle.lvm_volume_plan.proofs.CopiesLemmas.Fewer as fewer
use Rattle.lvm_volumes.specs.Laws.{MoreAreEven, FirstAreEven}

-- where each usable copy is an old one
stays : (c : Contents) (d : Descriptor) (lv copies : ℕ) (row : LvRow) (pps : List Pp) (status : Option (Stamped Status)) (there : Disks) → IsValid d → volume_of d lv ≡ Some row
    → ((lp : ℕ) (p : Pp) → IsOneOf (copies_of (with_map row copies pps) lp) p → IsUsable status there p → IsOneOf (copies_of row lp) p)
    → IsEven c d status there → IsEven c (with_copies d lv copies pps) status there
stays c d lv copies row pps status there valid volume old even = even_stays c c d (with_copies d lv copies pps) status status there there refl
    (λ r one on. inl (by_number r one)) even
  where
    its : KeepsCopies c c d status status there there (with_map row copies pps)
    its = record { from = row; volume = one_found lv d.lvs row volume; mode = refl; lps = refl; copies = λ lp p one usable. (old lp p one usable, usable); held = λ lp b p inside one usable. refl }

    by_number : (r : LvRow) → IsOneOf (with_copies d lv copies pps).lvs r → KeepsCopies c c d status status there there r
    by_number r one = ⊎_elim
        (λ (same : (r.number == lv) ≡ true). subst (λ (x : LvRow). KeepsCopies c c d status status there there x) (sym (own_row lv copies pps d.lvs row r valid.volumes.numbers_rise volume one (eqb-true r.number lv same))) its)
        (λ (apart : (r.number == lv) ≡ false). record {
          from = r;
          volume = one_other lv copies pps d.lvs r one (λ same. false≢true (sym apart ∙ eq-eqb r.number lv same));
          mode = refl;
          lps = refl;
          copies = λ lp p copy usable. (copy, usable);
          held = λ lp b p inside copy usable. refl;
        })
        (either (r.number == lv))

pub more_are_even : MoreAreEven
more_are_even c s lv copies row pps status there valid may stale even = stays c s.core.descriptor lv copies row pps (Some status) there valid may.places.grows.found.volume
    (λ lp p one usable. ⊎_elim
    (λ (old : IsOneOf (copies_of row lp) p). old)
    (λ (further : Contains (further_copies (with_map row copies pps) row.copies) p). absurd (clash (calls_stale status.value p) (stale p (row, (pps, may.places, further))) usable.fresh))
    (more.old_or_further s.core.descriptor (is_there s.core) lv copies row pps valid may.places.grows.found.volume may.places.grows.are.more may.places.placed lp p one)) even

pub first_are_even : FirstAreEven
first_are_even c s lv copies row status there valid may even = stays c s.core.descriptor lv copies row (first_copies row copies) (Some status) there valid may.keeps.shrinks.found.volume
    (λ lp p one usable. fewer.old_copies s.core.descriptor lv copies row valid may.keeps.shrinks.found.volume may.keeps.shrinks.are.fewer lp p one) even
