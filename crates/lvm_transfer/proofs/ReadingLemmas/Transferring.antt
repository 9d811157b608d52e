-- One read of a disk's records on a shelf at rest.
use Rattle.std.proofs.Common.{◌≡◌, ◌⊎◌, inl, inr, ⊎_elim, ◌-◌, ◌<◌, ◌≤◌, ◌++◌, [], ◌∷◌, ℕ, List, Bool, Option, true, false, Some, None, IfSome, Result, Ok, Err, slice_index_or, refl, sym, ◌∙◌, ap, subst, arith}
use Rattle.lvm_disk.specs.passed.Num.{Buffer, Sector, joined}
use Rattle.lvm_disk.specs.Counts.{Rose, RoseBy, Counts}
use Rattle.lvm_disk.specs.Device.{Media, Image, Flight, Device, IsReady, IsInFlight, IsTorn, MayLeave}
use Rattle.lvm_disk.specs.Steps.{BothTold, Puts, PutsSome, ReadsRange, Cuts, IsMiss, CountsFailure}
use Rattle.lvm_disk.specs.Images.{LeavesNoMore, DiffersBy}
use Rattle.lvm_disk.specs.Paths.{DeviceStep, Path}
use Rattle.lvm_disk.proofs.PathsLemmas.{map-path}
use Rattle.lvm_kept.specs.Raw.{OnlyAdds}
use Rattle.lvm_transfer.specs.declared.moves.Moved.{Moved}
use Rattle.lvm_transfer.specs.declared.moves.Moved.TheVariants as moved
use Rattle.lvm_transfer.specs.Transfer.{IsOut, StepsWhile, TransferGives, Rests, flight_of}
use Rattle.lvm_transfer.proofs.StepsLemmas.{DoneEffect, done_effect, out_flights}
use Rattle.lvm_transfer.proofs.TransferLemmas.Ending.{one_left}
use Rattle.lvm_transfer.specs.declared.reading.Stop.TheVariants as stop
use Rattle.lvm_transfer.specs.declared.reading.Unread.{Unread}
use Rattle.lvm_transfer.specs.declared.reading.Unread.TheVariants as unread
use Rattle.lvm_transfer.specs.Reading.{IsUnwritten, IsUntouched, IsCutOff, IsReadStuck, AllWereRead, OneReadFailed, OneWasRead, ReadsAnswer, ReadsEnd}
use Rattle.lvm_transfer.proofs.RecordLemmas.{joined-read}

-- media of which each sector is the same are the same
same_media : (m n : Media) → ((d s : ℕ) → n d s ≡ m d s) → n ≡ m
same_media m n same = λ t d s. same d s t

-- told or not, the media is what it was
told_same : (R : Media → Media → Type 0) (m n : Option Media) → BothTold m n R → ((a b : Media) → R a b → (d s : ℕ) → b d s ≡ a d s) → n ≡ m
told_same R None None told same = refl
told_same R (Some a) (Some b) told same = ap Some (same_media a b (same a b told))
told_same R None (Some b) told same = absurd told
told_same R (Some a) None told same = absurd told

pub unwritten_more : (old mid new : Device) → IsUnwritten old mid → IsUnwritten mid new → IsUnwritten old new
unwritten_more old mid new a b = record {
  sizes = b.sizes ∙ a.sizes;
  media = b.media ∙ a.media;
  wrote = b.wrote ∙ a.wrote;
  arranges = b.arranges ∙ a.arranges;
  orders = b.orders ∙ a.orders;
  faults = b.faults ∙ a.faults;
}

-- ---- images

-- where nothing is brought, nothing is added
adds_nothing : (disk first count : ℕ) (buf : Buffer) (old new : Device) → OnlyAdds (flight_of 0 false disk first count buf) old new → LeavesNoMore old new
adds_nothing disk first count buf old new adds image may =
    let from = adds image may in
    as_before old.media from.0 image from.1 from.2
  where
    brings_none : (before image : Image) → DiffersBy (flight_of 0 false disk first count buf) before image → (d s : ℕ) → image.sector d s ≡ before.sector d s
    brings_none before image differs d s = ⊎_elim (λ same. same) (λ put. absurd (cc (put))) (differs.each d s)

    as_before : (m : Option Media) (before image : Image) → MayLeave (record old { media = m }) before → DiffersBy (flight_of 0 false disk first count buf) before image → MayLeave (record old { media = m }) image
    as_before None before image may differs = absurd may
    as_before (Some m) before image may differs = record {
      same = record { disks = differs.same.disks ∙ may.same.disks; size = λ d. differs.same.size d ∙ may.same.size d };
      each = let same : image.sector ≡ before.sector = same_media before.sector image.sector (brings_none before image differs) in subst (λ (x : Media). IsTorn m old.flights x) (sym same) may.each;
    }

read_moments : (disk first count : ℕ) (buf : Buffer) (old new : Device) → Path DeviceStep (OnlyAdds (flight_of 0 false disk first count buf) old) old new → Path DeviceStep (LeavesNoMore old) old new
read_moments disk first count buf old new path = map-path (LeavesNoMore old) (λ d adds. adds_nothing disk first count buf old d adds) path

-- ---- how it ends

-- the end of a read, as it is answered
abbrev pub answer_of : Moved → Result Buffer Unread
answer_of (moved.Done back) = Ok back
answer_of (moved.Failed back) = Err (unread.Failed back)
answer_of (moved.Dark started) = Err (unread.Stopped stop.Dark)
answer_of moved.Stuck = Err (unread.Stopped stop.Stuck)

module _ (patience ticket disk first count : ℕ) (buf : Buffer) (old : Device) (ready : IsReady old) where
  abbrev f : Flight
  f = flight_of ticket false disk first count buf

  -- while it is out
  module _ (now : Device) (out : IsOut old now f) where
    of_begun : {X : Type 0} (field : Device → X) → field (record out.begun { counts = record out.begun.counts { waits = now.counts.waits } }) ≡ field (record old { flights = old.flights ++ f ∷ []; counts = record old.counts { starts = out.begun.counts.starts; waits = now.counts.waits }; wrote = out.begun.wrote })
    of_begun field = ap (λ (d : Device). field (record d { counts = record d.counts { waits = now.counts.waits } })) out.starts.new_is

    now_is : {X : Type 0} (field : Device → X) → field now ≡ field (record old { flights = old.flights ++ f ∷ []; counts = record old.counts { starts = out.begun.counts.starts; waits = now.counts.waits }; wrote = out.begun.wrote })
    now_is field = ap field out.waits.now_is ∙ of_begun field

    out_unwritten : IsUnwritten old now
    out_unwritten = record {
      sizes = now_is (λ d. d.sizes);
      media = now_is (λ d. d.media);
      wrote = now_is (λ d. d.wrote) ∙ out.starts.wrote;
      arranges = now_is (λ d. d.arranges);
      orders = now_is (λ d. d.orders);
      faults = now_is (λ d. d.counts.faults);
    }

    out_untouched : (d : ℕ) → (d ≡ disk → ⊥) → IsUntouched d old now
    out_untouched d other = record {
      starts = now_is (λ x. x.counts.starts d) ∙ out.starts.starts.elsewhere d other;
      misses = now_is (λ x. x.counts.misses d);
    }

    out_misses : (d : ℕ) → now.counts.misses d ≡ old.counts.misses d
    out_misses d = now_is (λ x. x.counts.misses d)

    out_cuts : now.counts.cuts ≡ old.counts.cuts
    out_cuts = now_is (λ x. x.counts.cuts)

    flights_are : now.flights ≡ f ∷ []
    flights_are = out_flights old now f out ready.flights

  -- ---- it succeeded
  module _ (new : Device) (back : Buffer) (gives : TransferGives patience old new f (moved.Done back)) where
    done_flight : (gives.2.flight ≡ f) × (new.flights ≡ [])
    done_flight = one_left f gives.0.flights new.flights gives.2.flight (flights_are gives.0 gives.1) gives.2.flights

    done_media : new.media ≡ gives.0.media
    done_media = told_same (Puts f) gives.0.media new.media (subst (λ (g : Flight). BothTold gives.0.media new.media (Puts g)) done_flight.0 gives.2.media) (λ a b puts d s. puts d s)

    done_is : {X : Type 0} (field : Device → X) → field new ≡ field (record gives.0 { media = new.media; flights = new.flights })
    done_is field = ap field gives.2.new_is

    done_unwritten : IsUnwritten old new
    done_unwritten = unwritten_more old gives.0 new (out_unwritten gives.0 gives.1) (record {
      sizes = done_is (λ d. d.sizes);
      media = done_media;
      wrote = done_is (λ d. d.wrote);
      arranges = done_is (λ d. d.arranges);
      orders = done_is (λ d. d.orders);
      faults = done_is (λ d. d.counts.faults);
    })

    done_untouched : (d : ℕ) → (d ≡ disk → ⊥) → IsUntouched d old new
    done_untouched d other = let so_far = out_untouched gives.0 gives.1 d other in record {
      starts = done_is (λ x. x.counts.starts d) ∙ so_far.starts;
      misses = done_is (λ x. x.counts.misses d) ∙ so_far.misses;
    }

    done_all : IsReady new → AllWereRead disk old new
    done_all rests = record {
      rested = record { ready = rests; cuts = done_is (λ x. x.counts.cuts) ∙ out_cuts gives.0 gives.1 };
      misses = done_is (λ x. x.counts.misses disk) ∙ out_misses gives.0 gives.1 disk;
    }

    done_effects : DoneEffect old new f back
    done_effects = done_effect patience old new f back ready.flights gives

    done_number : back.number ≡ buf.number
    done_number = done_effects.rest.number

    pub done_bytes : (keep : ℕ) → keep ≤ count → IfSome old.media (λ m. joined (λ i. slice_index_or back.sectors i []) 0 keep ≡ joined (m disk) first keep)
    done_bytes keep most = told old.media (done_effects.reads refl)
      where
        told : (media : Option Media) → IfSome media (λ m. ReadsRange m f back) → IfSome media (λ m. joined (λ i. slice_index_or back.sectors i []) 0 keep ≡ joined (m disk) first keep)
        told None reads = tt
        told (Some m) reads = joined-read back.sectors (m disk) first keep (λ i lt. reads i (omega (arith, lt, most)))

  -- ---- it failed
  module _ (new : Device) (back : Buffer) (gives : TransferGives patience old new f (moved.Failed back)) where
    failed_flight : (gives.2.flight ≡ f) × (new.flights ≡ [])
    failed_flight = one_left f gives.0.flights new.flights gives.2.flight (flights_are gives.0 gives.1) gives.2.flights

    failed_media : new.media ≡ gives.0.media
    failed_media = told_same (PutsSome f) gives.0.media new.media (subst (λ (g : Flight). BothTold gives.0.media new.media (PutsSome g)) failed_flight.0 gives.2.media)
        (λ a b puts d s. ⊎_elim (λ same. same) (λ put. absurd (cc (put))) (puts d s))

    failed_is : {X : Type 0} (field : Device → X) → field new ≡ field (record gives.0 { media = new.media; flights = new.flights; counts = new.counts })
    failed_is field = ap field gives.2.new_is

    failed_number : back.number ≡ buf.number
    failed_number = gives.2.number ∙ ap (λ (g : Flight). g.buf.number) failed_flight.0

    counted : first < 4096 → IsMiss disk gives.0.counts new.counts
    counted below =
        let fails : CountsFailure f gives.0.counts new.counts = subst (λ (g : Flight). CountsFailure g gives.0.counts new.counts) failed_flight.0 gives.2.counts in
        ⊎_elim (λ miss. miss.1) (λ other. absurd (other.0 (refl, below))) fails

    failed_unwritten : first < 4096 → IsUnwritten old new
    failed_unwritten below = unwritten_more old gives.0 new (out_unwritten gives.0 gives.1) (record {
      sizes = failed_is (λ d. d.sizes);
      media = failed_media;
      wrote = failed_is (λ d. d.wrote);
      arranges = failed_is (λ d. d.arranges);
      orders = failed_is (λ d. d.orders);
      faults = ap (λ (c : Counts). c.faults) (counted below).new_is;
    })

    failed_untouched : first < 4096 → (d : ℕ) → (d ≡ disk → ⊥) → IsUntouched d old new
    failed_untouched below d other = let so_far = out_untouched gives.0 gives.1 d other in record {
      starts = ap (λ (c : Counts). c.starts d) (counted below).new_is ∙ so_far.starts;
      misses = (counted below).misses.elsewhere d other ∙ so_far.misses;
    }

    failed_one : first < 4096 → IsReady new → OneReadFailed disk old new
    failed_one below rests = record {
      rested = record { ready = rests; cuts = ap (λ (c : Counts). c.cuts) (counted below).new_is ∙ out_cuts gives.0 gives.1 };
      misses = subst (λ n. Rose n (new.counts.misses disk)) (out_misses gives.0 gives.1 disk) (counted below).misses.here;
    }

  -- ---- the power was cut
  read_brings_none : (d s : ℕ) (x : Sector) → IsInFlight (f ∷ []) d s x → ⊥
  read_brings_none d s x (inl put) = cc
  read_brings_none d s x (inr none) = none

  none_flying : (flights : List Flight) → (flights ≡ f ∷ []) ⊎ (flights ≡ []) → (d s : ℕ) (x : Sector) → IsInFlight flights d s x → ⊥
  none_flying flights (inl one) d s x flying = read_brings_none d s x (subst (λ (l : List Flight). IsInFlight l d s x) one flying)
  none_flying flights (inr none) d s x flying = subst (λ (l : List Flight). IsInFlight l d s x) none flying

  cut_unwritten : (now new : Device) → (now.flights ≡ f ∷ []) ⊎ (now.flights ≡ []) → IsUnwritten old now → Cuts now new → IsUnwritten old new
  cut_unwritten now new one so_far cuts = unwritten_more old now new so_far (record {
    sizes = ap (λ (d : Device). d.sizes) cuts.new_is;
    media = told_same (λ a b. IsTorn a now.flights b) now.media new.media cuts.media (λ a b torn d s. ⊎_elim (λ same. same) (λ flying. absurd (none_flying now.flights one d s (b d s) flying)) (torn d s));
    wrote = ap (λ (d : Device). d.wrote) cuts.new_is;
    arranges = ap (λ (d : Device). d.arranges) cuts.new_is;
    orders = ap (λ (d : Device). d.orders) cuts.new_is;
    faults = ap (λ (d : Device). d.counts.faults) cuts.new_is;
  })

  cut_untouched : (now new : Device) (d : ℕ) → IsUntouched d old now → Cuts now new → IsUntouched d old new
  cut_untouched now new d so_far cuts = record {
    starts = ap (λ (x : Device). x.counts.starts d) cuts.new_is ∙ so_far.starts;
    misses = ap (λ (x : Device). x.counts.misses d) cuts.new_is ∙ so_far.misses;
  }

  cut_off : (now new : Device) → now.counts.cuts ≡ old.counts.cuts → Cuts now new → IsCutOff old new
  cut_off now new same cuts = record {
    power = ap (λ (d : Device). d.power) cuts.new_is;
    flights = ap (λ (d : Device). d.flights) cuts.new_is;
    cuts = subst (λ n. Rose n new.counts.cuts) same cuts.cuts;
  }

  unwritten_none : IsUnwritten old old
  unwritten_none = record { sizes = refl; media = refl; wrote = refl; arranges = refl; orders = refl; faults = refl }

  -- ---- however it ends

  read_unwritten : (new : Device) (how : Moved) → first < 4096 → TransferGives patience old new f how → IsUnwritten old new
  read_unwritten new (moved.Done back) below gives = done_unwritten new back gives
  read_unwritten new (moved.Failed back) below gives = failed_unwritten new back gives below
  read_unwritten new (moved.Dark true) below gives = cut_unwritten gives.0 new (inl (flights_are gives.0 gives.1)) (out_unwritten gives.0 gives.1) gives.2
  read_unwritten new (moved.Dark false) below gives = cut_unwritten old new (inr ready.flights) unwritten_none gives
  read_unwritten new moved.Stuck below gives = out_unwritten new gives.0

  read_untouched : (new : Device) (how : Moved) → first < 4096 → TransferGives patience old new f how → (d : ℕ) → (d ≡ disk → ⊥) → IsUntouched d old new
  read_untouched new (moved.Done back) below gives d other = done_untouched new back gives d other
  read_untouched new (moved.Failed back) below gives d other = failed_untouched new back gives below d other
  read_untouched new (moved.Dark true) below gives d other = cut_untouched gives.0 new d (out_untouched gives.0 gives.1 d other) gives.2
  read_untouched new (moved.Dark false) below gives d other = cut_untouched old new d (record { starts = refl; misses = refl }) gives
  read_untouched new moved.Stuck below gives d other = out_untouched new gives.0 d other

  read_cut_off : (new : Device) (started : Bool) → TransferGives patience old new f (moved.Dark started) → IsCutOff old new
  read_cut_off new true gives = cut_off gives.0 new (out_cuts gives.0 gives.1) gives.2
  read_cut_off new false gives = cut_off old new refl gives

  read_stuck : (new : Device) → TransferGives patience old new f moved.Stuck → IsReadStuck buf.number patience old new
  read_stuck new gives = record {
    flight = f;
    flights = flights_are new gives.0;
    write = refl;
    buffer = refl;
    freed = now_is new gives.0 (λ d. d.freed) ∙ ready.freed;
    power = now_is new gives.0 (λ d. d.power) ∙ ready.power;
    cuts = out_cuts new gives.0;
    waits = gives.1;
  }

  -- ---- as a call tells it

  pub was_read : (new : Device) (back : Buffer) → TransferGives patience old new f (moved.Done back) → OneWasRead disk first count old new
  was_read new back gives = record { ticket = ticket; buf = buf; back = back; now = gives.0; out = gives.1; ends = gives.2 }

  read_gives : (new : Device) (how : Moved) → first < 4096 → TransferGives patience old new f how → Rests new how → ReadsAnswer disk buf.number patience old new (answer_of how)
  read_gives new (moved.Done back) below gives rests = (done_all new back gives rests, done_number new back gives)
  read_gives new (moved.Failed back) below gives rests = (failed_one new back gives below rests, failed_number new back gives)
  read_gives new (moved.Dark started) below gives rests = (read_cut_off new started gives)
  read_gives new moved.Stuck below gives rests = (read_stuck new gives)

  pub read_ends : (after : ℕ) (new : Device) (how : Moved) → first < 4096 → TransferGives patience old new f how → Rests new how
      → after ≤ patience → RoseBy (patience - after) old.counts.waits new.counts.waits → StepsWhile patience old after new → Path DeviceStep (OnlyAdds (flight_of 0 false disk first count buf) old) old new → ReadsEnd disk buf.number patience after old new (answer_of how)
  read_ends after new how below gives rests falls waited steps moments = record {
    only = record {
      unwritten = read_unwritten new how below gives;
      falls = falls;
      waited = waited;
      steps = steps;
      moments = read_moments disk first count buf old new moments;
    };
    elsewhere = read_untouched new how below gives;
    gives = read_gives new how below gives rests;
  }
