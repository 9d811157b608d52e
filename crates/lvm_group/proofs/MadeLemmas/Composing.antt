-- From what was found on the disks and what was then written, to what the making of a group answers.
use Rattle.std.proofs.Common.{◌≡◌, inl, inr, ⊎_elim, ℕ, ◌≤◌, List, [], ◌∷◌, ◌++◌, Option, refl, sym, ap, subst, ◌∙◌}
use Rattle.std.specs.Prelude.{if◌then◌else◌}
use Rattle.lvm_num.specs.Disks.{Disks, has}
use Rattle.lvm_disk.specs.Counts.{Rose}
use Rattle.lvm_disk.specs.Device.{Media, Range, Device, IsReady, image_of}
use Rattle.lvm_disk.specs.Steps.{BothTold}
use Rattle.lvm_vol.specs.Log.{Log, cut_log, spare_entries}
use Rattle.lvm_kept.specs.Plans.{Plan as Bringing, ChangesBy}
use Rattle.lvm_rec.specs.declared.homes.Homes.{Homes}
use Rattle.lvm_write.specs.Parts.{Spends}
use Rattle.lvm_write.specs.Written.{LogsPlan, KeepsShelf, IsDarkened, IsGivenUp}
use Rattle.lvm_write.proofs.PartsLemmas.Transfers.{darkened_then, given_up_then}
use Rattle.lvm_transfer.specs.Reading.{IsUnwritten, IsRested}
use Rattle.lvm_write.specs.Beginning.{Beginning, Part, new_beginning, new_order, IsOfParts, PartIsWritten as PartStands}
use Rattle.lvm_write.specs.Ends.{BothFlip, HasNoFault, StopsAt, IsLowestFailed, WasTriedOnTargets}
use Rattle.lvm_group.specs.passed.Core.{Room, Cause}
use Rattle.lvm_group.specs.passed.CoreRefusedCause as cause
use Rattle.lvm_group.specs.NewGroup.{NewGroup, among, size_for, given_up, MayMakeGroup, RefusesFirst}
use Rattle.lvm_group.specs.Shown.{IsClear}
use Rattle.lvm_group.specs.Planned.{IsPlanned, RefusesPlan}
use Rattle.lvm_group.specs.Made.{beginning_for, IsAsBefore, StopsAtWrite, Breaks, HasRead, MkvgRefuses}
use Rattle.lvm_group.specs.Steps.{HasOnlyRead, LetsMake, RefusesFound, AreWritten, WritingFails, RecordsStand, cuts_power}
use Rattle.lvm_group.specs.declared.look.Free.{Free}
use Rattle.lvm_group.specs.declared.plan.Plan.{Plan}

-- ---- refusals before the first write

-- the history with a cut where the cause is one
abbrev pub cut_where : Cause → Log → Log
cut_where why log = if cuts_power why then cut_log log else log

has_read : (was : Log) (old new : Device) → HasOnlyRead old new → HasRead was was old new
has_read was old new reads = record { unwritten = reads.unwritten; rested = reads.rested; history = refl }

refuses_first : (w : NewGroup) (patience : ℕ) (log : Log) (device : Device) (why : Cause) → RefusesFirst device.sizes (spare_entries log) w.disks w.mib why → MkvgRefuses w patience log log device device why
refuses_first w patience log device (cause.NoDisk disk) refuses = (record { shelf = refl; history = refl }, refuses)
refuses_first w patience log device (cause.TooMany limit) refuses = (record { shelf = refl; history = refl }, refuses)
refuses_first w patience log device (cause.TooSmall disk) refuses = (record { shelf = refl; history = refl }, refuses)
refuses_first w patience log device cause.HistoryFull refuses = (record { shelf = refl; history = refl }, refuses)
refuses_first w patience log device cause.NoRecord refuses = refuses
refuses_first w patience log device cause.Ambiguous refuses = refuses
refuses_first w patience log device (cause.NoQuorum have total) refuses = refuses
refuses_first w patience log device _ refuses = absurd refuses

pub refuses_plan : (w : NewGroup) (patience : ℕ) (log : Log) (device : Device) (why : Cause) → IsReady device → RefusesPlan w (spare_entries log) device.sizes why → MkvgRefuses w patience log log device device why
refuses_plan w patience log device why ready (inl memory) = subst (MkvgRefuses w patience log log device device) (sym memory.0) (record {
  may = memory.1;
  unwritten = record { sizes = refl; media = refl; wrote = refl; arranges = refl; orders = refl; faults = refl };
  rested = record { ready = ready; cuts = refl };
  history = refl;
})
refuses_plan w patience log device why ready (inr refuses) = refuses_first w patience log device why refuses

pub refuses_reading : (w : NewGroup) (patience : ℕ) (was : Log) (old new : Device) (why : Cause) → MayMakeGroup old.sizes (spare_entries was) w.disks w.mib → RefusesFound w.force w.moment patience old new why
    → MkvgRefuses w patience was (cut_where why was) old new why
refuses_reading w patience was old new (cause.DiskFailed disk) may refuses = inl (record { may = may; read = has_read was old new refuses.0; unread = refuses.1 })
refuses_reading w patience was old new cause.GroupExists may refuses = (has_read was old new refuses.0, may, refuses.1, refuses.2)
refuses_reading w patience was old new (cause.ClockBack seen) may refuses = (has_read was old new refuses.0, record { may = may; read = refuses.1; free = refuses.2 }, refuses.3)
refuses_reading w patience was old new cause.Dark may refuses = inl (record { may = may; unwritten = refuses.0; cut = refuses.1; entered = refl })
refuses_reading w patience was old new cause.Stuck may refuses = inl (record { may = may; unwritten = refuses.0; stuck = refuses.1; entered = refl })
refuses_reading w patience was old new cause.Memory may refuses = record { may = may; unwritten = refuses.unwritten; rested = refuses.rested; history = refl }
refuses_reading w patience was old new _ may refuses = absurd refuses

-- ---- the writes, from where they began to where the call did

-- the beginning of the plan is that of the group
pub same_beginning : (w : NewGroup) (room : Room) (sizes : List ℕ) (plan : Plan) (homes : Homes) → IsPlanned sizes w.name (size_for sizes w.disks w.mib) w.disks w.moment room plan
    → new_beginning w.moment plan.descriptor plan.status (has plan.targets) homes ≡ beginning_for sizes w homes
same_beginning w room sizes plan homes planned = λ t. new_beginning w.moment (planned.descriptor t) (planned.status t) (λ d. planned.targets d t) homes

module _ (w : NewGroup) (old mid new : Device) (un : IsUnwritten old mid) where
  pub as_before : (P : Bringing) → KeepsShelf (among w.disks) P mid new → IsAsBefore w P old new
  as_before P keeps = record {
    sizes = keeps.sizes ∙ un.sizes;
    arranges = keeps.arranges ∙ un.arranges;
    orders = keeps.orders ∙ un.orders;
    faults = λ d off. keeps.faults d off ∙ ap (λ (f : ℕ → ℕ). f d) un.faults;
    wrote = subst (λ (o : Option (List Range)). LogsPlan P o new.wrote) un.wrote keeps.wrote;
    media = subst (λ (l : List ℕ). BothTold old.media new.media (λ was is. ChangesBy P (image_of l was) (image_of new.sizes is))) un.sizes
        (subst (λ (o : Option Media). BothTold o new.media (λ was is. ChangesBy P (image_of mid.sizes was) (image_of new.sizes is))) un.media keeps.media);
  }

  pub stops_as : (b : Beginning) (A B : Part → Type 0) → b.targets ≡ among w.disks → ((part : Part) → A part → B part) → StopsAt b new_order mid new A → StopsAtWrite w b old new B
  stops_as b A B targets carries stops = record {
    before = stops.before;
    hand = stops.hand;
    behind = stops.behind;
    is = stops.is;
    stand = stops.stand;
    only = as_before (IsOfParts b (stops.before ++ stops.hand ∷ [])) (subst (λ (t : Disks). KeepsShelf t (IsOfParts b (stops.before ++ stops.hand ∷ [])) mid new) targets stops.only);
    at_hand = carries stops.hand stops.at_hand;
  }

  pub well_before : HasNoFault mid new → HasNoFault old new
  well_before well d = well d ∙ ap (λ (f : ℕ → ℕ). f d) un.faults

  pub tried_before : (b : Beginning) (part : Part) → WasTriedOnTargets b mid new part → WasTriedOnTargets b old new part
  tried_before b part tried d target = ⊎_elim (λ (stands : PartStands b part new d). inl stands)
      (λ (rose : Rose (mid.counts.faults d) (new.counts.faults d)). inr (subst (λ (f : ℕ → ℕ). Rose (f d) (new.counts.faults d)) un.faults rose)) (tried d target)

  pub failed_before : (disk : ℕ) → IsLowestFailed (among w.disks) mid new disk → IsLowestFailed (among w.disks) old new disk
  failed_before disk first = record {
    target = first.target;
    rose = subst (λ (f : ℕ → ℕ). Rose (f disk) (new.counts.faults disk)) un.faults first.rose;
    lowest = λ d lt. first.lowest d lt ∙ ap (λ (f : ℕ → ℕ). f d) un.faults;
  }

  module _ (rest : IsRested old mid) where
    pub rested_before : IsRested mid new → IsRested old new
    rested_before rested = record { ready = rested.ready; cuts = rested.cuts ∙ rest.cuts }

    pub dark_before : IsDarkened 0 mid new → IsDarkened 0 old new
    dark_before dark = darkened_then 0 0 old mid new refl rest.cuts dark

    pub stuck_before : (before left : ℕ) → Spends before left old mid → IsGivenUp 0 left mid new → IsGivenUp 0 before old new
    stuck_before before left spends stuck = given_up_then 0 0 before left old mid new refl rest.cuts spends stuck

-- ---- what the call answers

module _ (w : NewGroup) (was : Log) (old mid new : Device) (free : Free) (may : MayMakeGroup old.sizes (spare_entries was) w.disks w.mib) (found : LetsMake w.force w.moment old mid free)
    (keeps : KeepsShelf (among w.disks) (IsOfParts (beginning_for old.sizes w free.homes) new_order) mid new) where
  abbrev pub writes : Beginning
  writes = beginning_for old.sizes w free.homes

  un : IsUnwritten old mid
  un = found.reads.unwritten

  pub clear : IsClear w was old new
  clear = record {
    free = record { may = may; read = λ d. ap (λ (f : ℕ → ℕ). f d) keeps.misses ∙ found.read d; free = found.no_group };
    moment = found.first;
    later = found.later;
  }

  pub stands : 1 ≤ size_for old.sizes w.disks w.mib → (room : Room) (plan : Plan) (next : Homes) → IsPlanned old.sizes w.name (size_for old.sizes w.disks w.mib) w.disks w.moment room plan → AreWritten writes mid new → BothFlip (among w.disks) free.homes next
      → (is : Log) → is ≡ given_up was w.disks → RecordsStand w room was is old new (record { parts = plan.parts; homes = next })
  stands size room plan next planned written flips is same = record {
    clear = clear;
    homes = free.homes;
    spares = found.spares;
    size = size;
    valid = planned.valid;
    stand = written.stand;
    only = as_before w old mid new un (IsOfParts writes new_order) keeps;
    well = well_before w old mid new un written.well;
    rested = rested_before w old mid new un found.reads.rested written.rested;
    parts = planned.parts;
    flips = flips;
    entered = same;
  }

  breaks : (A B : Beginning → Part → Type 0) → ((part : Part) → A writes part → B writes part) → StopsAt writes new_order mid new (A writes) → Breaks w was (given_up was w.disks) old new B
  breaks A B carries stops = record {
    clear = clear;
    homes = free.homes;
    spares = found.spares;
    stops = stops_as w old mid new un writes (A writes) (B writes) refl carries stops;
    entered = refl;
  }

  pub refuses_writing : (before left : ℕ) (why : Cause) → Spends before left old mid → WritingFails writes left mid new why
      → MkvgRefuses w before was (cut_where why (given_up was w.disks)) old new why
  refuses_writing before left (cause.DiskFailed disk) spends off = inr (record {
    breaks = breaks (λ b. WasTriedOnTargets b mid new) (λ b. WasTriedOnTargets b old new) (λ part tried. tried_before w old mid new un writes part tried) off.stops;
    failed = failed_before w old mid new un disk off.first;
    rested = rested_before w old mid new un found.reads.rested off.rested;
  })
  refuses_writing before left cause.Dark spends off = inr (record {
    begun = given_up was w.disks;
    breaks = breaks (λ b part. Unit {0}) (λ b part. Unit {0}) (λ part any. any) off.1;
    cut = dark_before w old mid new un found.reads.rested off.0;
    entered = refl;
  })
  refuses_writing before left cause.Stuck spends off = inr (record {
    breaks = breaks (λ b part. Unit {0}) (λ b part. Unit {0}) (λ part any. any) off.1;
    stuck = stuck_before w old mid new un found.reads.rested before left spends off.0;
  })
  refuses_writing before left _ spends off = absurd off
