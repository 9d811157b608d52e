-- What a transfer on a shelf at rest does to the media.
use Rattle.std.proofs.Common.{◌≡◌, ℕ, ◌∷◌, ◌++◌, [], List, Option, IfSome, false, ◌∙◌, ap, subst}
use Rattle.lvm_disk.specs.passed.Num.{Buffer}
use Rattle.lvm_disk.specs.Device.{Media, Flight, Device}
use Rattle.lvm_disk.specs.Steps.{BothTold, Puts, PutsSome, ReadsRange, ChangedAtMost}
use Rattle.lvm_kept.specs.Raw.{HasNothingOut}
use Rattle.lvm_transfer.specs.Transfer.{IsOut, TransferGives}
use Rattle.lvm_transfer.specs.declared.moves.Moved.TheVariants as moved
use Rattle.lvm_transfer.proofs.TransferLemmas.Ending.{one_left}

-- what it did to a shelf on which nothing else was out
pub record DoneEffect (old new : Device) (f : Flight) (back : Buffer) : Type 0 where
  pub still : HasNothingOut old new
  pub puts : BothTold old.media new.media (Puts f)
  pub reads : f.write ≡ false → IfSome old.media (λ m. ReadsRange m f back)
  pub rest : ChangedAtMost f.count f.buf back

pub record FailedEffect (old new : Device) (f : Flight) : Type 0 where
  pub still : HasNothingOut old new
  pub puts : BothTold old.media new.media (PutsSome f)

module _ (old now : Device) (f : Flight) (out : IsOut old now f) (none : old.flights ≡ []) where
  pub out_flights : now.flights ≡ f ∷ []
  out_flights = ap (λ (d : Device). d.flights) out.waits.now_is ∙ ap (λ (d : Device). d.flights) out.starts.new_is ∙ ap (λ (l : List Flight). l ++ f ∷ []) none

  pub out_media : now.media ≡ old.media
  out_media = ap (λ (d : Device). d.media) out.waits.now_is ∙ ap (λ (d : Device). d.media) out.starts.new_is

  pub out_sizes : now.sizes ≡ old.sizes
  out_sizes = ap (λ (d : Device). d.sizes) out.waits.now_is ∙ ap (λ (d : Device). d.sizes) out.starts.new_is

pub done_effect : (patience : ℕ) → (old new : Device) (f : Flight) (back : Buffer) → old.flights ≡ [] → TransferGives patience old new f (moved.Done back) → DoneEffect old new f back
done_effect patience old new f back none (now, out, ends) =
    let one = one_left f now.flights new.flights ends.flight (out_flights old now f out none) ends.flights in
    let media = out_media old now f out none in
    record {
      still = record { flights = one.1; sizes = ap (λ (d : Device). d.sizes) ends.new_is ∙ out_sizes old now f out none };
      puts = subst (λ (m : Option Media). BothTold m new.media (Puts f)) media (subst (λ (g : Flight). BothTold now.media new.media (Puts g)) one.0 ends.media);
      reads = λ read. subst (λ (m : Option Media). IfSome m (λ m. ReadsRange m f back)) media (subst (λ (g : Flight). IfSome now.media (λ m. ReadsRange m g back)) one.0 (ends.read (ap (λ (g : Flight). g.write) one.0 ∙ read)));
      rest = subst (λ (g : Flight). ChangedAtMost g.count g.buf back) one.0 ends.rest;
    }

pub failed_effect : (patience : ℕ) → (old new : Device) (f : Flight) (back : Buffer) → old.flights ≡ [] → TransferGives patience old new f (moved.Failed back) → FailedEffect old new f
failed_effect patience old new f back none (now, out, ends) =
    let one = one_left f now.flights new.flights ends.flight (out_flights old now f out none) ends.flights in
    record {
      still = record { flights = one.1; sizes = ap (λ (d : Device). d.sizes) ends.new_is ∙ out_sizes old now f out none };
      puts = subst (λ (m : Option Media). BothTold m new.media (PutsSome f)) (out_media old now f out none) (subst (λ (g : Flight). BothTold now.media new.media (PutsSome g)) one.0 ends.media);
    }
