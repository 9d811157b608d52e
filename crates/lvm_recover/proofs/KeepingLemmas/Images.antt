-- What transfers of recovery leave on disks.
use Rattle.std.proofs.Common.{◌≡◌, ◌⊎◌, inl, inr, ⊎_elim, ℕ, Bool, true, false, refl, sym, ap, subst, ◌∙◌, arith}
use Rattle.std.specs.Prelude.{if◌then◌else◌, nat_lt, []}
use Rattle.lvm_num.specs.Geometry.{data_start, sector_of}
use Rattle.lvm_disk.specs.Device.{Image}
use Rattle.lvm_kept.specs.Contents.{data_at, contents_of}
use Rattle.lvm_kept.proofs.PlacesLemmas.{data_writes}
use Rattle.lvm_recover.specs.Recopied.{IsFromFirst}
use Rattle.lvm_recover.specs.Keeping.{ImagesAreRecopied}

pub images_are_recopied : ImagesAreRecopied
images_are_recopied group status there old new change = record {
  rest = data_writes old new (record {
    same = change.same;
    sectors = λ d s low. ⊎_elim (λ same. same) (λ (from : IsFromFirst (contents_of old) group status there d s (new.sector d s)).
        absurd (let at : sector_of group.mib from.copy.pp from.block ≡ s = from.sector in omega (arith, at, low))) (change.each d s);
  });
  each = λ d s. by d s (nat_lt s data_start) refl;
}
  where
    below : (d s : ℕ) (image : Image) → nat_lt s data_start ≡ true → data_at image d s ≡ []
    below d s image low = ap (λ (t : Bool). if t then [] else image.sector d s) low

    above : (d s : ℕ) (image : Image) → nat_lt s data_start ≡ false → data_at image d s ≡ image.sector d s
    above d s image high = ap (λ (t : Bool). if t then [] else image.sector d s) high

    by : (d s : ℕ) (t : Bool) → nat_lt s data_start ≡ t → (data_at new d s ≡ data_at old d s) ⊎ IsFromFirst (contents_of old) group status there d s (data_at new d s)
    by d s true low = inl (below d s new low ∙ sym (below d s old low))
    by d s false high = ⊎_elim
        (λ same. inl (above d s new high ∙ same ∙ sym (above d s old high)))
        (λ from. inr (subst (IsFromFirst (contents_of old) group status there d s) (sym (above d s new high)) from))
        (change.each d s)
