-- The parts of a beginning, one after another.
use Rattle.std.proofs.Common.{◌≡◌, inl, inr, ⊎_elim, ℕ, List, [], ◌∷◌, ◌++◌, append_assoc, IsTrue, refl, ◌∙◌, ap, subst}
use Rattle.lvm_num.specs.Buffer.{Buffer, Sector}
use Rattle.lvm_disk.specs.Counts.{Rose}
use Rattle.lvm_disk.specs.Device.{Device, image_of}
use Rattle.lvm_disk.specs.Paths.{DeviceStep, Path}
use Rattle.lvm_kept.specs.Plans.{Plan, ChangesBy}
use Rattle.lvm_num.specs.Disks.{Disks}
use Rattle.lvm_write.specs.Written.{KeepsShelf, IsWriting, FreesAtMost}
use Rattle.lvm_write.proofs.WrittenLemmas.Writing.{logs_wider, both_map, changes_more, moments_wider}
use Rattle.lvm_write.specs.Writes.{DiskWritesLeave}
use Rattle.lvm_write.proofs.PartsLemmas.Transfers.{spent_then}
use Rattle.lvm_write.proofs.WritesLemmas.{leaves_then}
use Rattle.lvm_write.specs.declared.begin.Begun.{Begun}
use Rattle.lvm_write.specs.declared.begin.Begun.TheVariants as begun
use Rattle.lvm_write.specs.Beginning.{Beginning, Part, brought, IsOfParts, PartIsWritten, AllStand}
use Rattle.lvm_write.specs.Ends.{StopsAt, WasTriedOnTargets}
use Rattle.lvm_write.specs.Runs.{OneGives, OneWell, HowOne, IsStage, AreWritten, AreBegun, HowMany, ManyGives}

-- ---- plans

in_front : (b : Beginning) (ps qs : List Part) (d s : ℕ) (value : Sector) → IsOfParts b ps d s value → IsOfParts b (ps ++ qs) d s value
in_front b [] qs d s value is = absurd is
in_front b (p ∷ ps) qs d s value (inl here) = inl here
in_front b (p ∷ ps) qs d s value (inr there) = inr (in_front b ps qs d s value there)

at_end : (b : Beginning) (ps : List Part) (p : Part) (d s : ℕ) (value : Sector) → brought b p d s value → IsOfParts b (ps ++ p ∷ []) d s value
at_end b [] p d s value is = inl is
at_end b (q ∷ ps) p d s value is = inr (at_end b ps p d s value is)

wider_keeps : (targets : Disks) (P Q : Plan) (old new : Device) → ((d s : ℕ) (value : Sector) → P d s value → Q d s value) → KeepsShelf targets P old new → KeepsShelf targets Q old new
wider_keeps targets P Q old new more keeps = record {
  sizes = keeps.sizes;
  arranges = keeps.arranges;
  orders = keeps.orders;
  misses = keeps.misses;
  starts = keeps.starts;
  faults = keeps.faults;
  media = both_map old.media new.media (λ was is. ChangesBy P (image_of old.sizes was) (image_of new.sizes is)) (λ was is. ChangesBy Q (image_of old.sizes was) (image_of new.sizes is)) keeps.media
      (λ m n was is by. changes_more P Q (image_of old.sizes m) (image_of new.sizes n) more by);
  wrote = logs_wider P Q old.wrote new.wrote more keeps.wrote;
}

wider : (targets : Disks) (P Q : Plan) (before after : ℕ) (old new : Device) → ((d s : ℕ) (value : Sector) → P d s value → Q d s value) → DiskWritesLeave targets P before after old new → DiskWritesLeave targets Q before after old new
wider targets P Q before after old new more does = record {
  keeps = wider_keeps targets P Q old new more does.keeps;
  spends = does.spends;
  moments = moments_wider P Q more old new does.moments;
}

-- ---- what stands

stand_more : (b : Beginning) (ps : List Part) (p : Part) (device : Device) → AllStand b ps device → ((d : ℕ) → IsTrue (b.targets d) → PartIsWritten b p device d) → AllStand b (ps ++ p ∷ []) device
stand_more b [] p device all one = (one, tt)
stand_more b (q ∷ ps) p device all one = (all.0, stand_more b ps p device all.1 one)

-- ---- stage by stage

done_more : (b : Beginning) (ps : List Part) (p : Part) (old mid new : Device) → AreWritten b ps old mid → IsStage b p mid new → AreWritten b (ps ++ p ∷ []) old new
done_more b [] p old mid new done stage = (new, subst (λ (d : Device). IsStage b p d new) done stage, refl)
done_more b (q ∷ ps) p old mid new done stage = (done.0, done.1, done_more b ps p done.0 mid new done.2 stage)

begun_more : (b : Beginning) (ps : List Part) (p : Part) (old mid new : Device) → AreWritten b ps old mid → Path DeviceStep (IsWriting (brought b p) mid) mid new → AreBegun b (ps ++ p ∷ []) old new
begun_more b [] p old mid new done path = inl (subst (λ (d : Device). Path DeviceStep (IsWriting (brought b p) d) d new) done path)
begun_more b (q ∷ ps) p old mid new done path = inr (done.0, done.1, begun_more b ps p done.0 mid new done.2 path)

begun_in_front : (b : Beginning) (ps qs : List Part) (old new : Device) → AreBegun b ps old new → AreBegun b (ps ++ qs) old new
begun_in_front b [] qs old new begun = absurd begun
begun_in_front b (p ∷ ps) qs old new (inl path) = inl path
begun_in_front b (p ∷ ps) qs old new (inr stage) = inr (stage.0, stage.1, begun_in_front b ps qs stage.0 new stage.2)

stage_of : (b : Beginning) (p : Part) (number before after : ℕ) (old new : Device) (buf : Buffer) → DiskWritesLeave b.targets (brought b p) before after old new → OneWell b.targets (PartIsWritten b p) number old new buf → IsStage b p old new
stage_of b p number before after old new buf does one = record { still = one.back.ready.flights; keeps = does.keeps; path = does.moments; stands = one.stands }

-- ---- the first part

pub first_gives : (b : Beginning) (p : Part) (number before after : ℕ) (old new : Device) (result : Begun) → OneGives b.targets (brought b p) (PartIsWritten b p) number before after old new result → ManyGives b (p ∷ []) number before after old new result
first_gives b p number before after old new result gives =
    let does = wider b.targets (brought b p) (IsOfParts b (p ∷ [])) before after old new (λ d s value is. inl is) gives.does in
    record { does = does; begun = inl gives.does.moments; how = how result does.keeps gives.how }
  where
    stops : (AtHand : Part → Type 0) → KeepsShelf b.targets (IsOfParts b (p ∷ [])) old new → AtHand p → StopsAt b (p ∷ []) old new AtHand
    stops AtHand keeps hand = record { before = []; hand = p; behind = []; is = refl; stand = tt; only = keeps; at_hand = hand }

    how : (result : Begun) → KeepsShelf b.targets (IsOfParts b (p ∷ [])) old new → HowOne b.targets (PartIsWritten b p) number before old new result → HowMany b (p ∷ []) number before old new result
    how (begun.Ended buf) keeps one = record { back = one.back; well = one.well; stand = (one.stands, tt); done = (new, stage_of b p number before after old new buf gives.does one, refl) }
    how (begun.DiskFailed disk buf) keeps one = record { back = one.back; first = one.first; stop = stops (WasTriedOnTargets b old new) keeps one.tried }
    how begun.Dark keeps one = (one, stops (λ hand. Unit {0}) keeps tt)
    how begun.Stuck keeps one = (one, stops (λ hand. Unit {0}) keeps tt)

-- ---- one part more

pub more_gives :
    (b : Beginning) (ps : List Part) (p : Part) (number before mid_left after : ℕ) (old mid new : Device) (buf : Buffer) (result : Begun)
    → ManyGives b ps number before mid_left old mid (begun.Ended buf) → OneGives b.targets (brought b p) (PartIsWritten b p) buf.number mid_left after mid new result → AllStand b ps new
    → ManyGives b (ps ++ p ∷ []) number before after old new result
more_gives b ps p number before mid_left after old mid new buf result many one stay =
    let P : Plan = IsOfParts b (ps ++ p ∷ []) in
    let does = leaves_then b.targets P before mid_left after old mid new
    (wider b.targets (IsOfParts b ps) P before mid_left old mid (in_front b ps (p ∷ [])) many.does)
    (wider b.targets (brought b p) P mid_left after mid new (at_end b ps p) one.does) in
    record { does = does; begun = begun_more b ps p old mid new many.how.done one.does.moments; how = how result does.keeps one.how }
  where
    stops : (AtHand : Part → Type 0) → KeepsShelf b.targets (IsOfParts b (ps ++ p ∷ [])) old new → AtHand p → StopsAt b (ps ++ p ∷ []) old new AtHand
    stops AtHand keeps hand = record { before = ps; hand = p; behind = []; is = refl; stand = stay; only = keeps; at_hand = hand }

    how : (result : Begun) → KeepsShelf b.targets (IsOfParts b (ps ++ p ∷ [])) old new → HowOne b.targets (PartIsWritten b p) buf.number mid_left mid new result → HowMany b (ps ++ p ∷ []) number before old new result
    how (begun.Ended back) keeps o = record {
      back = record { ready = o.back.ready; cuts = o.back.cuts ∙ many.how.back.cuts; number_is = o.back.number_is ∙ many.how.back.number_is };
      well = λ d. o.well d ∙ many.how.well d;
      stand = stand_more b ps p new stay o.stands;
      done = done_more b ps p old mid new many.how.done (stage_of b p buf.number mid_left after mid new back one.does o);
    }
    how (begun.DiskFailed disk back) keeps o = record {
      back = record { ready = o.back.ready; cuts = o.back.cuts ∙ many.how.back.cuts; number_is = o.back.number_is ∙ many.how.back.number_is };
      first = record { target = o.first.target; rose = subst (λ (n : ℕ). Rose n (new.counts.faults disk)) (many.how.well disk) o.first.rose; lowest = λ d less. o.first.lowest d less ∙ many.how.well d };
      stop = stops (WasTriedOnTargets b old new) keeps (λ d target. ⊎_elim (λ stands. inl stands) (λ rose. inr (subst (λ (n : ℕ). Rose n (new.counts.faults d)) (many.how.well d) rose)) (o.tried d target));
    }
    how begun.Dark keeps o = (record { flights = o.flights; power = o.power; cuts = subst (λ (n : ℕ). Rose n new.counts.cuts) many.how.back.cuts o.cuts; freed = subst (λ (n : ℕ). FreesAtMost n new) many.how.back.number_is o.freed }, stops (λ hand. Unit {0}) keeps tt)
    how begun.Stuck keeps o = (record { flight = o.flight; flights = o.flights; write = o.write; buffer = o.buffer ∙ many.how.back.number_is; freed = o.freed; power = o.power; cuts = o.cuts ∙ many.how.back.cuts; waits = spent_then before mid_left old mid new many.does.spends o.waits }, stops (λ hand. Unit {0}) keeps tt)

-- ---- it stopped before the others

pub stopped_gives :
    (b : Beginning) (ps qs : List Part) (number before after : ℕ) (old new : Device) (result : Begun) → ((buf : Buffer) → result ≡ begun.Ended buf → ⊥) → ManyGives b ps number before after old new result
    → ManyGives b (ps ++ qs) number before after old new result
stopped_gives b ps qs number before after old new result stopped many = record {
  does = wider b.targets (IsOfParts b ps) (IsOfParts b (ps ++ qs)) before after old new (in_front b ps qs) many.does;
  begun = begun_in_front b ps qs old new many.begun;
  how = how result stopped many.how;
}
  where
    further : (AtHand : Part → Type 0) → StopsAt b ps old new AtHand → StopsAt b (ps ++ qs) old new AtHand
    further AtHand stop = record {
      before = stop.before;
      hand = stop.hand;
      behind = stop.behind ++ qs;
      is = ap (λ (l : List Part). l ++ qs) stop.is ∙ append_assoc stop.before (stop.hand ∷ stop.behind) qs;
      stand = stop.stand;
      only = stop.only;
      at_hand = stop.at_hand;
    }

    how : (result : Begun) → ((buf : Buffer) → result ≡ begun.Ended buf → ⊥) → HowMany b ps number before old new result → HowMany b (ps ++ qs) number before old new result
    how (begun.Ended buf) not_so many = absurd (not_so buf refl)
    how (begun.DiskFailed disk buf) not_so many = record { back = many.back; first = many.first; stop = further (WasTriedOnTargets b old new) many.stop }
    how begun.Dark not_so many = (many.0, further (λ hand. Unit {0}) many.1)
    how begun.Stuck not_so many = (many.0, further (λ hand. Unit {0}) many.1)
