-- What is found after the making of a group, whatever became of it: what was found before, or the new group.
use Rattle.std.proofs.Common.{◌≡◌, ◌≢◌, ◌⊎◌, inl, inr, ⊎_elim, ℕ, ◌-◌, ◌/◌, ◌^◌, ◌<◌, ◌≤◌, Bool, true, false, List, [], ◌∷◌, ◌++◌, length, Option, Some, None, refl, arith}
use Rattle.std.specs.Prelude.{IsTrue, AllPairs, find, unwrap_or, nat_le, if◌then◌else◌}
use Rattle.std.specs.List.{list_all}
use Rattle.std.specs.Option.{ForSome}
use Rattle.std.proofs.lemmas.Bool.{and_parts}
use Rattle.lvm_num.specs.declared.descriptor.Descriptor.{Descriptor}
use Rattle.lvm_num.specs.Descriptor.{is_size}
use Rattle.lvm_num.specs.Geometry.{data_start, partition_blocks}
use Rattle.lvm_num.specs.Name.{is_name}
use Rattle.lvm_disk.specs.Device.{Media, Flight, Device, IsReady, image_of}
use Rattle.lvm_vol.specs.Log.{Log}
use Rattle.lvm_steps.specs.Behind.{StampsAreEarlier}
use Rattle.lvm_rec.specs.declared.homes.Homes.{Homes}
use Rattle.lvm_write.specs.Beginning.{Part, IsOfParts}
use Rattle.lvm_core.specs.declared.refused.Cause.{Cause}
use Rattle.lvm_core.specs.declared.refused.Cause.TheVariants as cause
use Rattle.lvm_core.specs.Leaves.{MayBeFound}
use Rattle.lvm_line.specs.passed.Group.{NewGroup, sizes_in_order, least_size, most_sectors, size_for, new_group, new_status, beginning_for, IsAsBefore, Breaks, MkvgRefuses, IsClear, SparesTold}
use Rattle.lvm_line.proofs.passed.Group.{is_there, are_members, valid_group, valid_status, size_positive, IsBeginning, may_begin}
use Rattle.lvm_line.specs.passed.GroupLines.{refusal_of, IsBrokenOff}
use Rattle.lvm_line.specs.passed.ReplyVariants as reply
use Rattle.lvm_top.proofs.Begun.{MayDescribe, IsIts, begun_finds}
use Rattle.lvm_top.proofs.Devices.{IsShelf, same_nothing, unwritten_nothing}

-- nothing is out, so no flight is
pub none_out : (flights : List Flight) (f : Flight) → flights ≡ [] → flights ≡ f ∷ [] → ⊥
none_out flights f none one = cc

-- ---- the size of its partitions

found_is : (p : ℕ → Bool) (xs : List ℕ) → list_all is_size xs ≡ true → is_size (unwrap_or (find p xs) 1024) ≡ true
found_is p [] all = refl
found_is p (x ∷ xs) all = let parts = and_parts (is_size x) (list_all is_size xs) all in go (p x) parts.0 (found_is p xs parts.1)
  where
    go : (t : Bool) → is_size x ≡ true → is_size (unwrap_or (find p xs) 1024) ≡ true → is_size (unwrap_or (if t then Some x else find p xs) 1024) ≡ true
    go true here rest = here
    go false here rest = rest

least_is : (sectors : ℕ) → is_size (least_size sectors) ≡ true
least_is sectors = found_is (λ mib. nat_le ((sectors - data_start) / partition_blocks mib) 1016) sizes_in_order refl

size_is : (sizes disks : List ℕ) (given : Option ℕ) → ForSome given (λ mib. IsTrue (is_size mib)) → is_size (size_for sizes disks given) ≡ true
size_is sizes disks (Some mib) sized = sized mib refl
size_is sizes disks None sized = least_is (most_sectors sizes disks)

-- ---- what is asked

-- what is known of a new group when the clock has answered
pub record IsAskedFor (w : NewGroup) (old : Device) : Type 0 where
  pub shelf : IsShelf old
  pub ready : IsReady old
  pub moment : w.moment ≢ 0
  pub named : IsTrue (is_name w.name)
  pub a_disk : 1 ≤ length w.disks
  pub differ : AllPairs (λ a b. a ≢ b) w.disks
  pub sized : ForSome w.mib (λ mib. IsTrue (is_size mib))
  pub clock : w.moment < 2 ^ 64 - 1 → StampsAreEarlier w.moment old

module _ (w : NewGroup) (old : Device) (asked : IsAskedFor w old) where
  abbrev group : Descriptor
  group = new_group old.sizes w

  module _ (was : Log) (new : Device) (clear : IsClear w was old new) (homes : Homes) (spares : SparesTold homes old) where
    beginning_is : IsBeginning w old homes
    beginning_is =
        let fit = clear.free.may.disks_fit in
        let early = clear.moment in
        let small : w.moment < 2 ^ 64 = omega (arith, early) in
        let size = size_is old.sizes w.disks w.mib asked.sized in
        let few = asked.shelf.few in
        record {
          valid = valid_group old.sizes w.name (size_for old.sizes w.disks w.mib) w.disks w.moment asked.moment small asked.named size asked.a_disk fit.few
              (are_members old.sizes (size_for old.sizes w.disks w.mib) w.disks few fit.there fit.fit asked.differ);
          stated = valid_status w.disks w.moment asked.moment small asked.a_disk fit.few (λ k lt. let there = is_there old.sizes w.disks fit.there k 0 lt in omega (arith, there, few));
          few = fit.few;
          small = small;
          size = size_positive (size_for old.sizes w.disks w.mib) size;
          there = fit.there;
          fit = fit.fit;
          free = clear.free.free;
          later = clear.later;
          spares = spares;
          whole = asked.shelf.whole;
          behind = asked.clock early;
        }

    may_describe : (media : Media) → old.media ≡ Some media → MayDescribe (beginning_for old.sizes w homes) (new_group old.sizes w) (new_status w) (image_of old.sizes media)
    may_describe media told =
        let may = may_begin w old homes beginning_is media told in
        record { describe = may.describe; state = may.state; later = λ d r shows own. absurd (may.make.new_id d r shows own) }

    pub parts_find : (parts : List Part) → IsAsBefore w (IsOfParts (beginning_for old.sizes w homes) parts) old new → new.flights ≡ [] → (id : ℕ) (k : Descriptor) → MayBeFound new id k → MayBeFound old id k ⊎ IsIts (new_group old.sizes w) id k
    parts_find parts only still = begun_finds (beginning_for old.sizes w homes) (new_group old.sizes w) (new_status w) parts old new may_describe only.media still

  -- ---- a refusal

  -- what is found thereafter: where the group is, the line was broken off
  abbrev FoundBy : Device → Cause → Type 0
  FoundBy left why = (id : ℕ) (k : Descriptor) → MayBeFound left id k → MayBeFound old id k ⊎ (IsBrokenOff (reply.Refused (refusal_of why)) × IsIts (new_group old.sizes w) id k)

  module _ (patience : ℕ) (was is : Log) (left : Device) where
    breaks_find : {AtHand : _} (begun : Log) → Breaks w was begun old left AtHand → left.flights ≡ [] → (why : Cause) → IsBrokenOff (reply.Refused (refusal_of why)) → FoundBy left why
    breaks_find begun breaks still why broken id k it =
        ⊎_elim (λ before. inl before) (λ its. inr (broken, its)) (parts_find was left breaks.clear breaks.homes breaks.spares (breaks.stops.before ++ breaks.stops.hand ∷ []) breaks.stops.only still id k it)

    pub refused_finds : (why : Cause) → (why ≡ cause.Stuck → left.flights ≡ []) → MkvgRefuses w patience was is old left why → FoundBy left why
    refused_finds (cause.NoDisk disk) rests refuses id k it = inl (same_nothing old left refuses.0.shelf id k it)
    refused_finds (cause.TooMany limit) rests refuses id k it = inl (same_nothing old left refuses.0.shelf id k it)
    refused_finds (cause.TooSmall disk) rests refuses id k it = inl (same_nothing old left refuses.0.shelf id k it)
    refused_finds cause.HistoryFull rests refuses id k it = inl (same_nothing old left refuses.0.shelf id k it)
    refused_finds (cause.DiskFailed disk) rests (inl unread) id k it = inl (unwritten_nothing old left unread.read.unwritten unread.read.rested.ready.flights id k it)
    refused_finds (cause.DiskFailed disk) rests (inr unwritten) id k it = breaks_find is unwritten.breaks unwritten.rested.ready.flights (cause.DiskFailed disk) tt id k it
    refused_finds cause.GroupExists rests refuses id k it = inl (unwritten_nothing old left refuses.0.unwritten refuses.0.rested.ready.flights id k it)
    refused_finds (cause.ClockBack seen) rests refuses id k it = inl (unwritten_nothing old left refuses.0.unwritten refuses.0.rested.ready.flights id k it)
    refused_finds cause.Dark rests (inl reading) id k it = inl (unwritten_nothing old left reading.unwritten reading.cut.flights id k it)
    refused_finds cause.Dark rests (inr writing) id k it = breaks_find writing.begun writing.breaks writing.cut.flights cause.Dark tt id k it
    refused_finds cause.Stuck rests (inl reading) id k it = absurd (none_out left.flights reading.stuck.flight (rests refl) reading.stuck.flights)
    refused_finds cause.Stuck rests (inr writing) id k it = absurd (none_out left.flights writing.stuck.flight (rests refl) writing.stuck.flights)
    refused_finds cause.Memory rests refuses id k it = inl (unwritten_nothing old left refuses.unwritten refuses.rested.ready.flights id k it)
    refused_finds _ rests refuses id k it = absurd refuses
