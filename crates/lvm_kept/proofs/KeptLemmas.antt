-- What is kept of blocks is kept under other descriptors and other statuses, over the same data and notes.
use Rattle.std.proofs.Common.{inl, inr, ⊎_elim, ℕ, List, [], ◌∷◌, ◌++◌, Option}
use Rattle.lvm_disk.specs.passed.Num.{Pp, Mode, LvRow, Descriptor, Status, Disks, Stamped}
use Rattle.lvm_disk.specs.passed.NumDescriptorMode.{Active, Passive, Off}
use Rattle.lvm_vol.specs.declared.entry.Vol.TheVariants.{Lv}
use Rattle.lvm_vol.specs.Facts.{Fact, Cut}
use Rattle.lvm_vol.specs.May.{Known, known}
use Rattle.lvm_kept.specs.Contents.{Contents}
use Rattle.lvm_kept.specs.Group.{fresh_on}
use Rattle.lvm_kept.specs.Kept.{MayDiffer, IsBlockKept, BlocksKept}

module _ (old : Contents) (descriptor : ℕ → Option (Stamped Descriptor)) (status : ℕ → Option (Stamped Status)) where
  abbrev told : Contents
  told = record old { descriptor = descriptor; status = status }

  differ : (s : Option (Stamped Status)) (lv : ℕ) (mode : Mode) (copies : List Pp) (k : Known) (b : ℕ) → MayDiffer old s lv mode copies k b → MayDiffer told s lv mode copies k b
  differ s lv Active copies k b m = m
  differ s lv Passive copies k b m = m
  differ s lv Off copies k b m = m

  pub same_block : (mib : ℕ) (s : Option (Stamped Status)) (row : LvRow) (copies : List Pp) (k : Known) (b : ℕ) → IsBlockKept old mib s row copies k b → IsBlockKept told mib s row copies k b
  same_block mib s row copies k b kept = record {
    allowed = kept.allowed;
    equal = ⊎_elim (λ one. inl one) (λ (m : MayDiffer old s row.number row.mode copies k b). inr (differ s row.number row.mode copies k b m)) kept.equal;
  }

  pub same_blocks : (facts : List Fact) (group : Descriptor) (disks : Disks) (s : Option (Stamped Status)) → BlocksKept old facts group disks s → BlocksKept told facts group disks s
  same_blocks facts group disks s blocks row lp b is inside = same_block group.mib s row (fresh_on disks s row lp) (known (facts ++ Cut ∷ []) (Lv row.number) b) b (blocks row lp b is inside)
