-- Copies that are made one after another.
use Rattle.std.proofs.Common.{◌≡◌, inl, inr, ⊎_elim, ℕ, zero, suc, ◌+◌, ◌<◌, ◌≤◌, Some, length, slice_get, slice_index_or, IsTrue, refl, sym, ◌∙◌, ap, subst, arith, add-one}
use Rattle.std.specs.Prelude.{List, [], ◌∷◌, ◌++◌, take, drop}
use Rattle.std.proofs.lemmas.Bool.{cases_lt}
use Rattle.std.proofs.lemmas.List.{append-nil, map-append, take_all}
use Rattle.lvm_num.specs.Buffer.{Buffer, Sector}
use Rattle.lvm_num.proofs.Fronts.{suc_front}
use Rattle.lvm_num.proofs.AmongLemmas.{one_at}
use Rattle.lvm_disk.specs.Device.{Media, Range, Device, IsReady, image_of}
use Rattle.lvm_disk.specs.Paths.{Here}
use Rattle.lvm_kept.specs.Plans.{ChangesBy}
use Rattle.lvm_kept.specs.Group.{IsOneOf}
use Rattle.lvm_write.proofs.WrittenLemmas.Writing.{if_told, told_at, both_at, both_map, writing_here}
use Rattle.lvm_write.proofs.PartsLemmas.Transfers.{keeps_here, spends_none}
use Rattle.lvm_write.specs.declared.begin.Begun.{Begun}
use Rattle.lvm_write.specs.declared.begin.Begun.TheVariants as begun
use Rattle.lvm_write.specs.Ends.{HasNoFault}
use Rattle.lvm_write.specs.Writes.{DiskWritesLeave, IsBack}
use Rattle.lvm_write.proofs.WritesLemmas.{leaves_then}
use Rattle.lvm_recovery.specs.declared.copying.Recopy.{Recopy}
use Rattle.lvm_recovery.proofs.CopyingLemmas.Logged.{just_none, just_then, only_none, only_then, only_wider}
use Rattle.lvm_recovery.specs.Copying.{IsInRun, IsInOneRun, LogsJust, LogsOnly, StopsAtOne, StopsInCopy, run_at, runs_into, IsFull, is_of_copy, IsOfCopy, IsCopied, CopyGives, sources_and_targets, IsOfCopies, AreApart, AllGive}
use Rattle.lvm_recovery.proofs.CopyingLemmas.Copied.{does_wider, back_then, well_then, failed_then, cut_then, left_then, or_first, or_second}

-- ---- the list

pub place_of_one : {X : Type 0} (l : List X) (x : X) → IsOneOf l x → (k : ℕ) × (k < length l) × (slice_get l k ≡ Some x)
place_of_one [] x one = absurd one
place_of_one (y ∷ l) x (inl same) = (0, omega arith, ap Some (sym same))
place_of_one (y ∷ l) x (inr one) = let it = place_of_one l x one in let low = it.1 in (suc it.0, omega (arith, low), it.2)

pub at_index : {X : Type 0} (l : List X) (k : ℕ) (d : X) → k < length l → slice_get l k ≡ Some (slice_index_or l k d)
at_index [] k d low = absurd (omega (arith, low))
at_index (x ∷ l) zero d low = refl
at_index (x ∷ l) (suc k) d low = at_index l k d (omega (arith, low))

-- the front, one, and those behind it
split_at_one : {X : Type 0} (l : List X) (k : ℕ) (x : X) → slice_get l k ≡ Some x → l ≡ take k l ++ x ∷ drop (suc k) l
split_at_one {X = X} [] k x is = absurd (cc (is))
split_at_one {X = X} (y ∷ l) zero x is = let e : y ≡ x = cc (is) in ap (λ (z : X). z ∷ l) e
split_at_one {X = X} (y ∷ l) (suc k) x is = ap (λ (m : List X). y ∷ m) (split_at_one l k x is)

-- where one of the front stands
place_in_front : {X : Type 0} (l : List X) (k : ℕ) (x : X) → IsOneOf (take k l) x → (i : ℕ) × (i < k) × (slice_get l i ≡ Some x)
place_in_front l zero x one = absurd one
place_in_front [] (suc k) x one = absurd one
place_in_front (y ∷ l) (suc k) x (inl same) = (0, omega arith, ap Some (sym same))
place_in_front (y ∷ l) (suc k) x (inr one) = let it = place_in_front l k x one in let low = it.1 in (suc it.0, omega (arith, low), it.2)

disks_among : (copies : List Recopy) (one : Recopy) (d : ℕ) → IsOneOf copies one → IsTrue (is_of_copy one d) → IsTrue (sources_and_targets copies d)
disks_among [] one d among is = absurd among
disks_among (c ∷ copies) one d (inl same) is = or_first (is_of_copy c d) (sources_and_targets copies d) (subst (λ (x : Recopy). IsTrue (is_of_copy x d)) same is)
disks_among (c ∷ copies) one d (inr among) is = or_second (is_of_copy c d) (sources_and_targets copies d) (disks_among copies one d among is)

-- ---- so far

pub record SoFar (copies : List Recopy) (number p q : ℕ) (old now : Device) (buf : Buffer) (k : ℕ) : Type 0 where
  pub does : DiskWritesLeave (sources_and_targets copies) (IsOfCopies old copies) p q old now
  pub writes : LogsJust (runs_into (take k copies)) old.wrote now.wrote
  pub ranges : LogsOnly (IsInOneRun copies) old.wrote now.wrote
  pub back : IsBack number old now buf
  pub full : IsFull buf
  pub well : HasNoFault old now
  pub copied : (i : ℕ) (one : Recopy) → i < k → slice_get copies i ≡ Some one → IsCopied old now one

pub none_so_far : (copies : List Recopy) (p : ℕ) (old : Device) (buf : Buffer) → IsReady old → IsFull buf → SoFar copies buf.number p p old old buf 0
none_so_far copies p old buf ready full = record {
  does = record { keeps = keeps_here (sources_and_targets copies) (IsOfCopies old copies) old; spends = spends_none p old; moments = Here (writing_here (IsOfCopies old copies) old ready.flights) };
  writes = just_none old.wrote old.wrote refl;
  ranges = only_none (IsInOneRun copies) old.wrote;
  back = record { ready = ready; cuts = refl; number_is = refl };
  full = full;
  well = λ d. refl;
  copied = λ i one below is. absurd (omega (arith, below));
}

-- the media in between is the old one, but for what copies brought
module _ (copies : List Recopy) (apart : AreApart copies) (old : Device) (m k : Media) (sizes : List ℕ) (told : old.media ≡ Some m) (by : ChangesBy (IsOfCopies old copies) (image_of old.sizes m) (image_of sizes k)) where
  -- what copies are made of stands as it did
  source_stays : (one : Recopy) (i : ℕ) → IsOneOf copies one → i < 256 → k one.from.disk (one.from.sector + i) ≡ m one.from.disk (one.from.sector + i)
  source_stays one i among inside = ⊎_elim (λ same. same)
      (λ (brought : IsOfCopies old copies one.from.disk (one.from.sector + i) (k one.from.disk (one.from.sector + i))).
      absurd (apart.sources_stay one brought.one i brought.its.i one.from.disk (one.from.sector + i) among brought.among (record { disk = refl; inside = inside; sector = refl }) brought.its.at))
      (by.each one.from.disk (one.from.sector + i))

  -- what is brought to a place is what belongs there
  brought_is : (one : Recopy) (i : ℕ) (value : Sector) → IsOneOf copies one → i < 256 → IsOfCopies old copies one.into.disk (one.into.sector + i) value → value ≡ m one.from.disk (one.from.sector + i)
  brought_is one i value among inside brought =
      let same = apart.one_source one brought.one i brought.its.i one.into.disk (one.into.sector + i) among brought.among (record { disk = refl; inside = inside; sector = refl }) brought.its.at in
      let at = brought.its.at.sector in
      let starts : one.into.sector ≡ brought.one.into.sector = ap (λ (c : Recopy). c.into.sector) same in
      let which : brought.its.i ≡ i = omega (arith, at, starts) in
      told_at old.media (λ media. value ≡ media brought.one.from.disk (brought.one.from.sector + brought.its.i)) m told brought.its.is
      ∙ ap (λ (c : Recopy). m c.from.disk (c.from.sector + brought.its.i)) (sym same)
      ∙ ap (λ (n : ℕ). m one.from.disk (one.from.sector + n)) which

module _ (copies : List Recopy) (apart : AreApart copies) (number p q : ℕ) (old now : Device) (buf : Buffer) (k : ℕ) (so_far : SoFar copies number p q old now buf k) (one : Recopy) (at : slice_get copies k ≡ Some one) where
  among : IsOneOf copies one
  among = one_at copies k one at

  -- the next copy brings what belongs there
  brings : (d s : ℕ) (value : Sector) → IsOfCopy now one d s value → IsOfCopies old copies d s value
  brings d s value its = record {
    one = one;
    among = among;
    its = record {
      i = its.i;
      at = its.at;
      is = if_told old.media (λ media. value ≡ media one.from.disk (one.from.sector + its.i))
          (λ m told.
          let mid = both_at old.media now.media (λ was is. ChangesBy (IsOfCopies old copies) (image_of old.sizes was) (image_of now.sizes is)) m so_far.does.keeps.media told in
          told_at now.media (λ media. value ≡ media one.from.disk (one.from.sector + its.i)) mid.0 mid.1 its.is ∙ source_stays copies apart old m mid.0 now.sizes told mid.2 one its.i among its.at.inside);
    };
  }

  module _ (r : ℕ) (new : Device) where
    next_does : DiskWritesLeave (is_of_copy one) (IsOfCopy now one) q r now new → DiskWritesLeave (sources_and_targets copies) (IsOfCopies old copies) q r now new
    next_does does = does_wider (is_of_copy one) (sources_and_targets copies) (IsOfCopy now one) (IsOfCopies old copies) (λ d is. disks_among copies one d among is) brings q r now new does

    all_do : DiskWritesLeave (is_of_copy one) (IsOfCopy now one) q r now new → DiskWritesLeave (sources_and_targets copies) (IsOfCopies old copies) p r old new
    all_do does = leaves_then (sources_and_targets copies) (IsOfCopies old copies) p q r old now new so_far.does (next_does does)

    all_log : LogsOnly (IsInRun one.into) now.wrote new.wrote → LogsOnly (IsInOneRun copies) old.wrote new.wrote
    all_log logs = only_then (IsInOneRun copies) old.wrote now.wrote new.wrote so_far.ranges (only_wider (IsInRun one.into) (IsInOneRun copies) now.wrote new.wrote (λ range inside. (one, among, inside)) logs)

    -- what was copied stays so
    stays : DiskWritesLeave (is_of_copy one) (IsOfCopy now one) q r now new → (other : Recopy) → IsOneOf copies other → IsCopied old now other → IsCopied old new other
    stays does other is_one copied =
        both_map old.media new.media (λ was is. ChangesBy (IsOfCopies old copies) (image_of old.sizes was) (image_of new.sizes is))
        (λ was is. (i : ℕ) → i < 256 → is other.into.disk (other.into.sector + i) ≡ was other.from.disk (other.from.sector + i)) (all_do does).keeps.media
        (λ m n was is by i inside.
        let mid = both_at old.media now.media (λ was is. (i : ℕ) → i < 256 → is other.into.disk (other.into.sector + i) ≡ was other.from.disk (other.from.sector + i)) m copied was in
        let last = both_at now.media new.media (λ was is. ChangesBy (IsOfCopies old copies) (image_of now.sizes was) (image_of new.sizes is)) mid.0 (next_does does).keeps.media mid.1 in
        let same : n ≡ last.0 = let e : Some n ≡ Some last.0 = sym is ∙ last.1 in cc in
        subst (λ (x : Media). x other.into.disk (other.into.sector + i) ≡ m other.from.disk (other.from.sector + i)) (sym same)
        (⊎_elim (λ kept. kept ∙ mid.2 i inside)
        (λ (brought : IsOfCopies old copies other.into.disk (other.into.sector + i) (last.0 other.into.disk (other.into.sector + i))).
        brought_is copies apart old m last.0 new.sizes was (subst (λ (x : Media). ChangesBy (IsOfCopies old copies) (image_of old.sizes m) (image_of new.sizes x)) same by) other i (last.0 other.into.disk (other.into.sector + i)) is_one inside brought)
        (last.2.each other.into.disk (other.into.sector + i))))

    -- and the next one is a copy of what stood there at first
    is_copied : DiskWritesLeave (is_of_copy one) (IsOfCopy now one) q r now new → IsCopied now new one → IsCopied old new one
    is_copied does copied =
        both_map old.media new.media (λ was is. ChangesBy (IsOfCopies old copies) (image_of old.sizes was) (image_of new.sizes is))
        (λ was is. (i : ℕ) → i < 256 → is one.into.disk (one.into.sector + i) ≡ was one.from.disk (one.from.sector + i)) (all_do does).keeps.media
        (λ m n was is by i inside.
        let mid = both_at old.media now.media (λ was is. ChangesBy (IsOfCopies old copies) (image_of old.sizes was) (image_of now.sizes is)) m so_far.does.keeps.media was in
        let last = both_at now.media new.media (λ was is. (i : ℕ) → i < 256 → is one.into.disk (one.into.sector + i) ≡ was one.from.disk (one.from.sector + i)) mid.0 copied mid.1 in
        let same : n ≡ last.0 = let e : Some n ≡ Some last.0 = sym is ∙ last.1 in cc in
        subst (λ (x : Media). x one.into.disk (one.into.sector + i) ≡ m one.from.disk (one.from.sector + i)) (sym same)
        (last.2 i inside ∙ source_stays copies apart old m mid.0 now.sizes was mid.2 one i among inside))

    -- their second runs were written in their order
    runs_more : runs_into (take k copies) ++ run_at one.into ∷ [] ≡ runs_into (take (k + 1) copies)
    runs_more = sym (ap runs_into (ap (λ (n : ℕ). take n copies) (add-one k) ∙ suc_front copies k one at) ∙ map-append (λ (c : Recopy). run_at c.into) (take k copies) (one ∷ []))

    more_write : LogsJust (run_at one.into ∷ []) now.wrote new.wrote → LogsJust (runs_into (take (k + 1) copies)) old.wrote new.wrote
    more_write told = subst (λ (l : List Range). LogsJust l old.wrote new.wrote) runs_more (just_then (runs_into (take k copies)) (run_at one.into ∷ []) old.wrote now.wrote new.wrote so_far.writes told)

    stops_in : (At : ℕ → Type 0) → StopsInCopy [] one now.wrote new.wrote At → StopsInCopy (runs_into (take k copies)) one old.wrote new.wrote At
    stops_in At (inl first) = inl (subst (λ (l : List Range). LogsJust l old.wrote new.wrote) (append-nil (runs_into (take k copies))) (just_then (runs_into (take k copies)) [] old.wrote now.wrote new.wrote so_far.writes first.0), first.1)
    stops_in At (inr last) = inr (just_then (runs_into (take k copies)) (run_at one.into ∷ []) old.wrote now.wrote new.wrote so_far.writes last.0, last.1)

    stops_at : DiskWritesLeave (is_of_copy one) (IsOfCopy now one) q r now new → (At : ℕ → Type 0) → StopsInCopy [] one now.wrote new.wrote At → StopsAtOne copies old new At
    stops_at does At stops = record {
      made = take k copies;
      one = one;
      left = drop (suc k) copies;
      order = split_at_one copies k one at;
      copied = λ other front. let it = place_in_front copies k other front in stays does other (one_at copies it.0 other it.2) (so_far.copied it.0 other it.1 it.2);
      writes = stops_in At stops;
    }

    pub one_more : (last : Buffer) → CopyGives one buf.number q r now new (begun.Ended last) → SoFar copies number p r old new last (k + 1)
    one_more last gives = record {
      does = all_do gives.does;
      writes = more_write gives.writes;
      ranges = all_log gives.ranges;
      back = back_then number old now buf so_far.back so_far.well new last gives.how.back;
      full = gives.how.full;
      well = well_then number old now buf so_far.back so_far.well new gives.how.well;
      copied = λ i other below is. ⊎_elim
          (λ (less : i < k). stays gives.does other (one_at copies i other is) (so_far.copied i other less is))
          (λ (more : k ≤ i).
          let here : i ≡ k = omega (arith, below, more) in
          let same : one ≡ other = let e : Some one ≡ Some other = sym at ∙ ap (λ (n : ℕ). slice_get copies n) (sym here) ∙ is in cc in
          subst (IsCopied old new) same (is_copied gives.does gives.how.copied))
          (cases_lt i k);
    }

    pub stopped_here : (how : Begun) → ((b : Buffer) → how ≡ begun.Ended b → ⊥) → CopyGives one buf.number q r now new how → AllGive copies number p r old new how
    stopped_here (begun.Ended b) never gives = absurd (never b refl)
    stopped_here (begun.DiskFailed disk b) never gives = record {
      does = all_do gives.does;
      writes = stops_at gives.does (λ d. disk ≡ d) gives.writes;
      ranges = all_log gives.ranges;
      how = (disks_among copies one disk among gives.how.0, failed_then number old now buf so_far.back so_far.well new disk b gives.how.1);
    }
    stopped_here begun.Dark never gives = record { does = all_do gives.does; writes = stops_at gives.does (λ d. Unit {0}) gives.writes; ranges = all_log gives.ranges; how = cut_then number old now buf so_far.back so_far.well new gives.how }
    stopped_here begun.Stuck never gives = record { does = all_do gives.does; writes = stops_at gives.does (λ d. Unit {0}) gives.writes; ranges = all_log gives.ranges; how = left_then number old now buf so_far.back so_far.well p q new so_far.does.spends gives.how }

pub all_so_far : (copies : List Recopy) (number p q : ℕ) (old now : Device) (buf : Buffer) (k : ℕ) → length copies ≤ k → SoFar copies number p q old now buf k → AllGive copies number p q old now (begun.Ended buf)
all_so_far copies number p q old now buf k all so_far = record {
  does = so_far.does;
  writes = subst (λ (l : List Recopy). LogsJust (runs_into l) old.wrote now.wrote) (take_all k copies all) so_far.writes;
  ranges = so_far.ranges;
  how = record {
    back = so_far.back;
    full = so_far.full;
    well = so_far.well;
    copied = λ one among. let it = place_of_one copies one among in let low = it.1 in so_far.copied it.0 one (omega (arith, low, all)) it.2;
  };
}
