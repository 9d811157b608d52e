-- The transfer that has ended, its row and what it leaves of the shelf.
use Rattle.std.proofs.Common.{◌≡◌, ℕ, zero, suc, Bool, true, false, List, [], ◌∷◌, ◌++◌, Option, Some, refl, sym, ap, subst, ◌∙◌, arith}
use Rattle.std.specs.Prelude.{IsTrue, IfSome, slice_get}
use Rattle.std.specs.List.{remove}
use Rattle.std.proofs.lemmas.Option.{same_Some}
use Rattle.lvm_num.specs.Buffer.{Buffer}
use Rattle.lvm_disk.specs.Device.{Media, Flight, Device}
use Rattle.lvm_disk.specs.Steps.{Removes, ReadsRange}
use Rattle.lvm_disk.specs.Paths.{DeviceStep, Ended as FlightEnded, Broke}
use Rattle.lvm_kept.specs.Plans.{StepIsPlanned}
use Rattle.lvm_kept.specs.Torn.{RecordWrite, IsOtherOrRecord}
use Rattle.lvm_session.specs.declared.flown.Flown.{Flown}
use Rattle.lvm_session.specs.declared.flown.Owner.{Owner}
use Rattle.lvm_session.specs.State.{Core}
use Rattle.lvm_invariant.specs.State.{ModelState}
use Rattle.lvm_crash.proofs.WritingLemmas.{ends_land}
use Rattle.lvm_crash.specs.Writing.{Lands}
use Rattle.lvm_tie.proofs.TiedLemmas.Orderly.{IsOut, AreOut, HaveTickets}
use Rattle.lvm_tie.specs.Out.{CarriesStep, CarryTheirs}
use Rattle.lvm_session.specs.Ends.{EndsAs}

-- ---- the transfer that has ended

pub record HasEnded (old new : Device) (ticket : ℕ) (ok : Bool) (buf : Buffer) (m : Media) : Type 0 where
  pub flight : Flight
  pub its : flight.ticket ≡ ticket
  pub removes : Removes flight old.flights new.flights
  pub media : Media
  pub told : new.media ≡ Some media
  pub lands : Lands flight ok m media
  pub step : DeviceStep old new
  pub planned : (w : RecordWrite) → StepIsPlanned (IsOtherOrRecord w) step
  pub sizes : new.sizes ≡ old.sizes
  pub reads : IsTrue ok → flight.write ≡ false → ReadsRange m flight buf

pub has_ended : (old new : Device) (ticket : ℕ) (ok : Bool) (buf : Buffer) (m : Media) → EndsAs ok old new ticket buf → old.media ≡ Some m → HasEnded old new ticket ok buf m
has_ended old new ticket true buf m ends told = let l = ends_land.done old new ticket buf m ends told in record {
  flight = ends.flight;
  its = ends.its;
  removes = ends.flights;
  media = l.0;
  told = l.1;
  lands = l.2;
  step = FlightEnded ticket buf ends;
  planned = λ w. tt;
  sizes = ap (λ (d : Device). d.sizes) ends.new_is;
  reads = λ well reads. subst (λ (o : Option Media). IfSome o (λ n. ReadsRange n ends.flight buf)) told (ends.read reads);
}
has_ended old new ticket false buf m ends told = let l = ends_land.failed old new ticket buf m ends told in record {
  flight = ends.flight;
  its = ends.its;
  removes = ends.flights;
  media = l.0;
  told = l.1;
  lands = l.2;
  step = Broke ticket buf ends;
  planned = λ w. tt;
  sizes = ap (λ (d : Device). d.sizes) ends.new_is;
  reads = λ well. absurd (let e : ◌≡◌ {A = Bool} false true = well in cc);
}

-- ---- its row

pub row_of : (core : Core) (w : Option RecordWrite) (gs after : List Flight) (f : Flight) (rs : List Flown) → AreOut core w (gs ++ f ∷ after) rs → (k : ℕ) × (r : Flown) × (slice_get rs k ≡ Some r) × (f.ticket ≡ r.ticket)
row_of core w [] after f [] out = absurd out
row_of core w [] after f (r ∷ rs) out = (0, r, refl, out.0)
row_of core w (g ∷ gs) after f [] out = absurd out
row_of core w (g ∷ gs) after f (r ∷ rs) out = let x = row_of core w gs after f rs out.2 in (suc x.0, x.1, x.2, x.3)

-- The transfer is the owner's, and what steps carry goes on without it.
pub record IsRow (core next : Core) (w : Option RecordWrite) (v u : ModelState) (before after : List Flight) (f : Flight) (rows : List Flown) (index : ℕ) (row : Flown) : Type 0 where
  pub out : IsOut core w f row.owner
  pub carry : ((g : Flight) (o : Owner) → CarriesStep core v g o → CarriesStep next u g o) → CarryTheirs core v (before ++ f ∷ after) rows → CarryTheirs next u (before ++ after) (remove rows index)

carry_all : (core next : Core) (w : Option RecordWrite) (v u : ModelState) (fs : List Flight) (rows : List Flown) → AreOut core w fs rows → ((g : Flight) (o : Owner) → CarriesStep core v g o → CarriesStep next u g o) → CarryTheirs core v fs rows → CarryTheirs next u fs rows
carry_all core next w v u [] rows out each carry = tt
carry_all core next w v u (f ∷ fs) [] out each carry = absurd out
carry_all core next w v u (f ∷ fs) (r ∷ rs) out each carry = (each f r.owner carry.0, carry_all core next w v u fs rs out.2 each carry.1)

pub is_row : (core next : Core) (w : Option RecordWrite) (v u : ModelState) (before after : List Flight) (f : Flight) (rows : List Flown) (index : ℕ) (row : Flown)
    → AreOut core w (before ++ f ∷ after) rows → HaveTickets rows → slice_get rows index ≡ Some row → f.ticket ≡ row.ticket → IsRow core next w v u before after f rows index row
is_row core next w v u [] after f [] index row out tickets there same = absurd out
is_row core next w v u [] after f (r ∷ rs) zero row out tickets there same = record {
  out = subst (λ (x : Flown). IsOut core w f x.owner) (same_Some r row there) out.1;
  carry = λ each carry. carry_all core next w v u after rs out.2 each carry.1;
}
is_row core next w v u [] after f (r ∷ rs) (suc k) row out tickets there same = absurd (let e = tickets 0 (suc k) r row refl there (sym out.0 ∙ same) in omega arith)
is_row core next w v u (g ∷ gs) after f [] index row out tickets there same = absurd out
is_row core next w v u (g ∷ gs) after f (r ∷ rs) zero row out tickets there same =
    let x = row_of core w gs after f rs out.2 in
    absurd (let e = tickets 0 (suc x.0) r x.1 refl x.2 (ap (λ (y : Flown). y.ticket) (same_Some r row there) ∙ sym same ∙ x.3) in omega arith)
is_row core next w v u (g ∷ gs) after f (r ∷ rs) (suc k) row out tickets there same =
    let rest = is_row core next w v u gs after f rs k row out.2 (λ i j a b at too e. let n = tickets (suc i) (suc j) a b at too e in omega arith) there same in
    record { out = rest.out; carry = λ each carry. (each g r.owner carry.0, rest.carry each carry.1) }
