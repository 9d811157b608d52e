-- Runs over disks in memory.
use Rattle.std.proofs.Common.{◌≡◌, ◌*◌, ◌<◌, ◌≤◌, zero, suc, ◌∷◌, [], length, refl, ℕ, List, false, replicate, subst, sym, arith}
use Rattle.std.proofs.lemmas.List.{get_or-replicate, length-replicate}
use Rattle.std.specs.Prelude.{slice_index_or}
use Rattle.lvm_num.specs.Buffer.{Sector, zero_sector}
use Rattle.lvm_disk.specs.Device.{Device, image_of}
use Rattle.lvm_order_laws.specs.Alone.{IsUnharmed}
use Rattle.lvm_memory.specs.Media.{media_of, sizes_of, blank_disks_of}
use Rattle.lvm_kept.specs.Changes.{IsBlank}
use Rattle.lvm_core.specs.declared.parts.Room.{Room}
use Rattle.lvm_steps.specs.Moments.{IsEarlier, IsUpheld}
use Rattle.lvm_steps.proofs.MomentsLemmas.Zeros.{blank_is_earlier}
use Rattle.lvm_steps.specs.Behind.{StampsAreEarlier}
use Rattle.lvm_steps.proofs.LawsLemmas.Records.{blank_is_behind}
use Rattle.lvm_top.specs.Blank.{IsToldBlank}
use Rattle.lvm_top.specs.Standing.{HasFewDisks}
use Rattle.lvm_top.specs.Plain.{HoldsOneGroup}
use Rattle.lvm_program.proofs.HeedingLemmas.{runs_heed_alone, harmless_runs_go_well}
use Rattle.lvm_top.proofs.OneGroupLemmas.{unforced_runs_alone}
use Rattle.lvm_top.proofs.PlainLemmas.{blank_holds_one_group}
use Rattle.lvm_top.specs.Clock.{Clocked}
use Rattle.lvm_top.specs.Run.{Run, Promises, WhereAlone}
use Rattle.lvm_top.specs.Script.{facts_of}
use Rattle.lvm_program.specs.Program.{PromisesBlank}
use Rattle.lvm_program.specs.Sim.{full_room, sim_device}

-- ---- the disks

-- each sector of them is one of zeros
blank_sector : (sizes : List ℕ) (d s : ℕ) → d < length (sizes_of (blank_disks_of sizes)) → s < slice_index_or (sizes_of (blank_disks_of sizes)) d 0 → media_of (blank_disks_of sizes) d s ≡ zero_sector
blank_sector [] d s there within = absurd (omega (arith, there))
blank_sector (size ∷ sizes) zero s there within = get_or-replicate size s zero_sector [] (let e = length-replicate {A = Sector} size zero_sector in omega (arith, within, e))
blank_sector (size ∷ sizes) (suc d) s there within = blank_sector sizes d s (omega (arith, there)) within

pub sim_is_blank : (disks mib : ℕ) → IsBlank (image_of (sim_device disks mib).sizes (media_of (blank_disks_of (replicate disks (2048 * mib)))))
sim_is_blank disks mib d s there within = blank_sector (replicate disks (2048 * mib)) d s there within

-- nothing was told before a run over them, and no stamp stands there
pub sim_earlier : (run disks mib : ℕ) → IsEarlier run (sim_device disks mib) []
sim_earlier run disks mib = blank_is_earlier run (sim_device disks mib) (media_of (blank_disks_of (replicate disks (2048 * mib)))) refl refl (sim_is_blank disks mib)

pub sim_behind : (run disks mib : ℕ) → StampsAreEarlier run (sim_device disks mib)
sim_behind run disks mib = blank_is_behind run (sim_device disks mib) (sim_is_blank disks mib)

pub sim_told : (disks mib : ℕ) → IsToldBlank (sim_device disks mib)
sim_told disks mib = record { media = media_of (blank_disks_of (replicate disks (2048 * mib))); told = refl; still = refl; blank = sim_is_blank disks mib }

sizes_of_zeros : (disks count : ℕ) → length (sizes_of (blank_disks_of (replicate disks count))) ≡ disks
sizes_of_zeros zero count = refl
sizes_of_zeros (suc disks) count = let rest = sizes_of_zeros disks count in omega (arith, rest)

pub sim_few : (disks mib : ℕ) → disks ≤ 32 → HasFewDisks (sim_device disks mib)
sim_few disks mib few = let is = sizes_of_zeros disks (2048 * mib) in omega (arith, is, few)

-- a list of one value has it everywhere, and past its end
all_at : {A : Type 0} (count : ℕ) (a : A) (k : ℕ) → slice_index_or (replicate count a) k a ≡ a
all_at zero a k = refl
all_at (suc count) a zero = refl
all_at (suc count) a (suc k) = all_at count a k

-- they do nothing by themselves, and nothing has happened to them
pub sim_unharmed : (disks mib : ℕ) → IsUnharmed (sim_device disks mib)
sim_unharmed disks mib = record {
  well = record { heeds = record { ordered = record { cuts = 0; fails = 0; failing = replicate (length (blank_disks_of (replicate disks (2048 * mib)))) false }; told = refl; cuts = refl }; well = all_at _ false; few_cuts = omega arith; few_fails = omega arith };
  counted = record { misses = all_at _ 0; faults = all_at _ 0; cuts = refl; waits = refl };
}

-- ---- a script over them

module _ (asked : Clocked) (r : Run) (disks mib : ℕ) (few : disks ≤ 32) (is : r.entry ≡ sim_device disks mib) (promises : Promises asked r) where
  upheld : WhereAlone r (IsUpheld r.named r.entry r.exit (facts_of r.history))
  upheld = λ ran alone. promises.upheld ran alone (subst (StampsAreEarlier r.named) (sym is) (sim_behind r.named disks mib))

  earlier : IsEarlier r.named r.entry []
  earlier = subst (λ (d : Device). IsEarlier r.named d []) (sym is) (sim_earlier r.named disks mib)

  holds : HoldsOneGroup r.named r.entry
  holds = subst (λ (d : Device). HoldsOneGroup r.named d) (sym is) (blank_holds_one_group r.named (sim_device disks mib) (sim_few disks mib few) (sim_told disks mib)).0

  behind : StampsAreEarlier r.named r.entry
  behind = subst (StampsAreEarlier r.named) (sym is) (sim_behind r.named disks mib)

  unharmed : IsUnharmed r.entry
  unharmed = subst IsUnharmed (sym is) (sim_unharmed disks mib)

  blank_promises : PromisesBlank asked r
  blank_promises = record {
    promises = promises;
    plain = λ bytes told nowhere. promises.plain bytes told nowhere holds [] earlier;
    upheld = upheld;
    first = λ ran alone. ((upheld ran alone).legal [] earlier, (upheld ran alone).kept [] earlier);
    alone = λ ran unforced. unforced_runs_alone r ran [] holds.few ran.ready behind earlier holds.one unforced;
    heeds = λ ran alone. runs_heed_alone r ran alone behind unharmed.well.heeds;
    well = λ ran alone harmless. harmless_runs_go_well r ran behind alone unharmed harmless;
  }

  pub sim_promises : r.room ≡ full_room → PromisesBlank asked (record r { entry = sim_device disks mib; room = full_room })
  sim_promises room_is =
      subst (λ (d : Device). PromisesBlank asked (record r { entry = d; room = full_room })) is
      (subst (λ (room : Room). PromisesBlank asked (record r { room = room })) room_is blank_promises)
