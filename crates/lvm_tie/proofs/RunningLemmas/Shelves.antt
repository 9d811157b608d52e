-- What a turn starts goes to no slot of descriptors, so none becomes found.
use Rattle.std.proofs.Common.{◌≡◌, inl, inr, ⊎_elim, ℕ, ◌+◌, ◌<◌, ◌≤◌, Bool, true, false, List, [], ◌∷◌, ◌++◌, length, Some, None, sym, ap, subst, ◌∙◌, arith}
use Rattle.std.specs.Prelude.{if◌then◌else◌, slice_get}
use Rattle.lvm_num.specs.declared.descriptor.Descriptor.{Descriptor}
use Rattle.lvm_num.specs.declared.record.Kind.TheVariants as kind
use Rattle.lvm_num.specs.Buffer.{Buffer, Sector}
use Rattle.lvm_num.specs.DescriptorBytes.{descriptor_of}
use Rattle.lvm_num.specs.Geometry.{data_start, sector_of}
use Rattle.lvm_num.specs.Record.{record_sectors, slot_size, slot_start}
use Rattle.lvm_num.specs.Status.{IsValidStatus}
use Rattle.lvm_num.specs.StatusBytes.{status_bytes}
use Rattle.lvm_num.proofs.TornLemmas.Torn.{sectors-fit}
use Rattle.lvm_num.proofs.Lists.{all_at}
use Rattle.lvm_disk.specs.Device.{Device, Flight, Image, IsInFlight, MayLeave, written}
use Rattle.lvm_disk.specs.Images.{LeavesNoMore}
use Rattle.lvm_disk.specs.Steps.{Cuts, GoesDark, Starts, Waits}
use Rattle.lvm_disk.proofs.DeviceLemmas.{cut_leaves, done_leaves, failed_leaves, in_old_or_new, start_leaves}
use Rattle.lvm_kept.specs.Contents.{contents_of, data_at, descriptor_on, note_on, note_sector, status_on}
use Rattle.lvm_kept.specs.Plans.{ChangesBy}
use Rattle.lvm_kept.specs.Torn.{IsOutsideSlots}
use Rattle.lvm_kept.proofs.TornLemmas.Records.{newest_stays}
use Rattle.lvm_kept.proofs.PlansLemmas.{of_removed}
use Rattle.lvm_tie.specs.passed.Commit.{FindsNothingNew}
use Rattle.lvm_tie.proofs.passed.Commit.{rest_finds_nothing_new, status_fits}
use Rattle.lvm_tie.proofs.passed.Crash.{writes_at, reads_none}
use Rattle.lvm_rec.specs.Homes.{next_slot, second_slots}
use Rattle.lvm_path.specs.declared.target.Target.{Target}
use Rattle.lvm_path.specs.Asks.{at_of}
use Rattle.lvm_session.specs.declared.answers.Turned.{Turned}
use Rattle.lvm_session.specs.declared.answers.Turned.TheVariants as turned
use Rattle.lvm_session.specs.declared.event.Event.{Event}
use Rattle.lvm_session.specs.declared.event.Event.TheVariants as event
use Rattle.lvm_session.specs.declared.open.Open.{Open}
use Rattle.lvm_session.specs.declared.open.Power.TheVariants as power
use Rattle.lvm_session.specs.Enabled.{target_next}
use Rattle.lvm_session.specs.Ends.{EndsAs}
use Rattle.lvm_session.specs.Events.{StartsStatus}
use Rattle.lvm_session.specs.Judging.{is_waiting}
use Rattle.lvm_session.specs.Requests.{IsOpenOne, IsTarget}
use Rattle.lvm_session.specs.State.{State}
use Rattle.lvm_session.specs.Turns.{FinishMakes, Finishes, Makes, Moves, NoStart, OnMakes, TurnMakes, WasDark, WasOff, WasOn}
use Rattle.lvm_session.specs.Sound.{IsSound}
use Rattle.lvm_tie.specs.Spares.{LeavesDescriptors}
use Rattle.lvm_tie.specs.Stamps.{AreValid}
use Rattle.lvm_tie.proofs.LandingsLemmas.Causes.{waits_unless}
use Rattle.lvm_tie.proofs.StampsLemmas.{valid_started}
use Rattle.lvm_tie.specs.Running.{GoesOffByCut, MayFindNoMore}
use Rattle.lvm_tie.proofs.LawsLemmas.Running.{keeps_power}

-- ---- what is found

module _ (old new : Image) (by : ChangesBy (IsOutsideSlots kind.Descriptor) old new) where
  same_descriptor : (d : ℕ) → descriptor_on new d ≡ descriptor_on old d
  unfolding descriptor_on
  same_descriptor d = newest_stays Descriptor descriptor_of kind.Descriptor old new d by

  -- what is written outside the slots of descriptors makes none found
  found_before : FindsNothingNew (contents_of old) (contents_of new)
  found_before = rest_finds_nothing_new (contents_of old) (contents_of new) shown
    where
      shown : contents_of new ≡ record (contents_of old) { status = status_on new; note = note_on new; block = data_at new }
      shown =
          let disks : new.disks ≡ old.disks = by.same.disks in
          let size : (d : ℕ) → new.size d ≡ old.size d = by.same.size in
          λ t. record { disks = disks t; size = λ d. size d t; descriptor = λ d. same_descriptor d t; status = status_on new; note = note_on new; block = data_at new }

-- ---- a step of the shelf

-- no transfer goes to a slot of descriptors then, and no descriptor becomes found
abbrev LeavesFound : Device → Device → Type 0
LeavesFound old new = LeavesDescriptors old → LeavesDescriptors new × MayFindNoMore old new

-- a shelf as large, to which no order was given, and whose power goes off by a cut alone
pub record Steps (old new : Device) : Type 0 where
  pub sizes : new.sizes ≡ old.sizes
  pub orders : new.orders ≡ old.orders
  pub cut : GoesOffByCut old new
  pub leaves : LeavesDescriptors old → LeavesDescriptors new × MayFindNoMore old new

-- where what is out was out, and no crash image is new
pub fewer_leaves : (old new : Device) → ((d s : ℕ) (value : Sector) → IsInFlight new.flights d s value → IsInFlight old.flights d s value) → LeavesNoMore old new
    → LeavesDescriptors old → LeavesDescriptors new × MayFindNoMore old new
fewer_leaves old new fewer no_more leaves = (λ d at value flies. leaves d at value (fewer d at value flies), λ id k image may found. (image, no_more image may, found))

same_steps : (old new : Device) → new ≡ old → Steps old new
same_steps old new same = record {
  sizes = ap (λ (d : Device). d.sizes) same;
  orders = ap (λ (d : Device). d.orders) same;
  cut = keeps_power old new (ap (λ (d : Device). d.power) same);
  leaves = fewer_leaves old new (λ d s value flies. subst (λ (x : Device). IsInFlight x.flights d s value) same flies) (λ image may. subst (λ (x : Device). MayLeave x image) same may);
}

-- what the flight writes is outside the slots of descriptors
abbrev Outside : Flight → Type 0
Outside f = (d s : ℕ) (value : Sector) → written f d s ≡ Some value → IsOutsideSlots kind.Descriptor d s value

start_steps : (old new : Device) (f : Flight) → Starts old new f → Outside f → Steps old new
start_steps old new f starts outside = record {
  sizes = ap (λ (d : Device). d.sizes) starts.new_is;
  orders = ap (λ (d : Device). d.orders) starts.new_is;
  cut = keeps_power old new (ap (λ (d : Device). d.power) starts.new_is);
  leaves = λ leaves. (
    λ d at value flies. ⊎_elim (leaves d at value) (outside d at value) (in_old_or_new old.flights f d at value (subst (λ (x : Device). IsInFlight x.flights d at value) starts.new_is flies)),
    λ id k image may found.
        let from = start_leaves old new f starts image may in
        let by : ChangesBy (IsOutsideSlots kind.Descriptor) from.0 image = record { same = from.2.same; each = λ d s. ⊎_elim (λ same. inl same) (λ put. inr (outside d s (image.sector d s) put)) (from.2.each d s) } in
        (from.0, from.1, found_before from.0 image by id k found),
  );
}

-- a transfer that isn't out any more was out
still_out : (before after : List Flight) (f : Flight) (d s : ℕ) (x : Sector) → IsInFlight (before ++ after) d s x → IsInFlight (before ++ f ∷ after) d s x
still_out [] after f d s x is = inr is
still_out (g ∷ before) after f d s x (inl here) = inl here
still_out (g ∷ before) after f d s x (inr there) = inr (still_out before after f d s x there)

end_steps : (ok : Bool) (old new : Device) (ticket : ℕ) (buf : Buffer) → EndsAs ok old new ticket buf → Steps old new
end_steps true old new ticket buf ends = record {
  sizes = ap (λ (d : Device). d.sizes) ends.new_is;
  orders = ap (λ (d : Device). d.orders) ends.new_is;
  cut = keeps_power old new (ap (λ (d : Device). d.power) ends.new_is);
  leaves = fewer_leaves old new (of_removed ends.flight old.flights new.flights ends.flights) (done_leaves old new ticket buf ends);
}
end_steps false old new ticket buf ends = record {
  sizes = ap (λ (d : Device). d.sizes) ends.new_is;
  orders = ap (λ (d : Device). d.orders) ends.new_is;
  cut = keeps_power old new (ap (λ (d : Device). d.power) ends.new_is);
  leaves = fewer_leaves old new (of_removed ends.flight old.flights new.flights ends.flights) (failed_leaves old new ticket buf ends);
}

wait_steps : (old new : Device) → Waits old new → Steps old new
wait_steps old new waits = record {
  sizes = ap (λ (d : Device). d.sizes) waits.new_is;
  orders = ap (λ (d : Device). d.orders) waits.new_is;
  cut = keeps_power old new (ap (λ (d : Device). d.power) waits.new_is);
  leaves = fewer_leaves old new (λ d s value flies. subst (λ (x : Device). IsInFlight x.flights d s value) waits.new_is flies) (λ image may. subst (λ (x : Device). MayLeave x image) waits.new_is may);
}

cut_steps : (old new : Device) → Cuts old new → Steps old new
cut_steps old new cuts = record {
  sizes = ap (λ (d : Device). d.sizes) cuts.new_is;
  orders = ap (λ (d : Device). d.orders) cuts.new_is;
  cut = λ lit off. cuts.cuts;
  leaves = fewer_leaves old new (λ d s value flies. absurd (subst (λ (x : Device). IsInFlight x.flights d s value) cuts.new_is flies)) (cut_leaves old new cuts);
}

pub dark_steps : (old new : Device) → GoesDark old new → Steps old new
dark_steps old new (inl off) = same_steps old new off.1
dark_steps old new (inr cuts) = cut_steps old new cuts

-- ---- what a turn starts

data_outside : (f : Flight) → data_start ≤ f.first → Outside f
data_outside f low d s value brings = inr (let from : f.first ≤ s = (writes_at f d s value brings).low in omega (arith, from, low))

note_outside : (f : Flight) → f.first ≡ note_sector → f.count ≡ 1 → Outside f
note_outside f first count d s value brings = inl (let high : s < f.first + f.count = (writes_at f d s value brings).high in omega (arith, high, first, count))

low_slot : (second : Bool) → (if second then 1 else 0) ≤ 1
low_slot true = omega arith
low_slot false = omega arith

module _ (old new : State) (made : StartsStatus old new) (valid : AreValid old.core.status) where
  valid_now : IsValidStatus made.status
  valid_now = valid_started old new made valid

  status_outside : Outside made.flight
  status_outside d s value brings =
      let high : s < made.flight.first + made.flight.count = (writes_at made.flight d s value brings).high in
      let slot : next_slot kind.Status new.core.homes made.disk ≤ 1 = low_slot (second_slots kind.Status new.core.homes made.disk) in
      let first : made.flight.first ≡ slot_start kind.Status (next_slot kind.Status new.core.homes made.disk) = made.writes.first in
      let count : made.flight.count ≡ record_sectors (length (status_bytes made.status)) = made.writes.count in
      let fits : record_sectors (length (status_bytes made.status)) ≤ slot_size kind.Status = sectors-fit kind.Status (length (status_bytes made.status)) (status_fits made.status valid_now) in
      inl (omega (arith, high, slot, first, count, fits))

-- ---- a turn

module _ (old new : State) (sound : IsSound old) (valid : AreValid old.core.status) where
  -- the transfer of a request goes to data
  data_low : old.core.power ≡ power.On → (place target : ℕ) (o : Open) → slice_get old.core.requests place ≡ Some o → is_waiting o ≡ true → (aim : Target) → slice_get o.request.targets.items target ≡ Some aim → data_start ≤ aim.sector
  data_low on place target o there waits aim aim_is =
      let its = all_at (IsOpenOne old.core) old.core.requests place o (sound.on on).going.requests there in
      let one = all_at (IsTarget old.core o.request.ask) o.request.targets.items target aim (its.waits waits).shape.targets aim_is in
      let sector : aim.sector ≡ sector_of old.core.descriptor.mib aim.pp.pp (at_of o.request.ask) = one.sector in
      omega (arith, sector)

  event_steps : old.core.power ≡ power.On → (it : Event) → Makes it old new → Steps old.device new.device
  event_steps on (event.Land place how) made = same_steps old.device new.device (ap (λ (s : State). s.device) made.is)
  event_steps on (event.Admit place) made = same_steps old.device new.device (ap (λ (s : State). s.device) made.is)
  event_steps on (event.Pin place) made = same_steps old.device new.device (ap (λ (s : State). s.device) made.is)
  event_steps on event.StartStatus made = start_steps old.device new.device made.flight made.launches.starts (status_outside old new made valid)
  event_steps on (event.StartNote place disk) made = start_steps old.device new.device made.flight made.launches.starts (note_outside made.flight made.writes.first made.writes.count)
  event_steps on (event.StartData place target) made = start_steps old.device new.device made.flight made.launches.starts
      (data_outside made.flight (subst (λ n. data_start ≤ n) (sym made.moves.first) (data_low on place target made.its.request made.its.there waits made.its.aim made.its.aim_is)))
    where
      waits : is_waiting made.its.request ≡ true
      waits = waits_unless old sound on place made.its.request made.its.there (λ e. let no : Some target ≡ None = sym made.its.due ∙ ap target_next e in cc)
  event_steps on event.ReadCopy made = start_steps old.device new.device made.flight made.launches.starts (λ d s value brings. absurd (reads_none made.flight d s value made.reads.write_is brings))
  event_steps on event.WriteCopy made = start_steps old.device new.device made.flight made.starts (data_outside made.flight (subst (λ n. data_start ≤ n) (sym made.writes.first) (omega arith)))

  finish_steps : (answer : Turned) → FinishMakes old new answer → Steps old.device new.device
  finish_steps turned.Moved made = end_steps made.1.ok old.device new.device made.1.row.ticket made.1.buf made.1.returns.ends
  finish_steps turned.Idle (inl finds) = wait_steps old.device new.device finds.waits
  finish_steps turned.Idle (inr nothing) = same_steps old.device new.device (ap (λ (s : State). s.device) nothing.is)
  finish_steps turned.Dark made = dark_steps old.device new.device made.1.device
  finish_steps turned.Off made = same_steps old.device new.device (ap (λ (s : State). s.device) made.is)

  on_steps : old.core.power ≡ power.On → (answer : Turned) → OnMakes old new answer → Steps old.device new.device
  on_steps on answer (Moves it first made is) = event_steps on it made
  on_steps on answer (NoStart it first start dark is) = dark_steps old.device new.device dark.device
  on_steps on answer (Finishes none made) = finish_steps answer made

  pub turn_steps : (answer : Turned) → TurnMakes old new answer → Steps old.device new.device
  turn_steps answer (WasDark dark is same) = same_steps old.device new.device (ap (λ (s : State). s.device) same)
  turn_steps answer (WasOff off is same) = same_steps old.device new.device (ap (λ (s : State). s.device) same)
  turn_steps answer (WasOn on made) = on_steps on answer made
