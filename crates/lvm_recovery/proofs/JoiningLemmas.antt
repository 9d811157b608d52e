-- Copies that are made in parts.
use Rattle.std.proofs.Common.{◌≡◌, inl, inr, ⊎_elim, ℕ, ◌+◌, ◌<◌, ◌≤◌, ◌++◌, length, take, drop, flat_map, slice_index_or, All, ◌||◌, Bool, true, false, List, [], ◌∷◌, Some, IsTrue, refl, sym, ◌∙◌, ap, subst, arith, append_assoc}
use Rattle.std.proofs.lemmas.List.{map-append, take_all, take_more, take-append-drop}
use Rattle.std.proofs.lemmas.Grind.{flat_map-append}
use Rattle.lvm_num.specs.Buffer.{Buffer, Sector}
use Rattle.lvm_num.proofs.AmongLemmas.{all_one, one_at, one_of_left, one_of_right, one_of_either}
use Rattle.lvm_disk.specs.Device.{Media, Range, Device, IsReady, image_of}
use Rattle.lvm_kept.specs.Plans.{ChangesBy}
use Rattle.lvm_kept.specs.Group.{IsOneOf}
use Rattle.lvm_write.proofs.WrittenLemmas.Writing.{if_told, told_at, both_at, both_map}
use Rattle.lvm_write.specs.declared.begin.Begun.{Begun}
use Rattle.lvm_write.specs.declared.begin.Begun.TheVariants as begun
use Rattle.lvm_write.specs.Writes.{DiskWritesLeave}
use Rattle.lvm_write.proofs.WritesLemmas.{leaves_then}
use Rattle.lvm_recovery.specs.declared.copying.Recopy.{Recopy}
use Rattle.lvm_recovery.proofs.CopyingLemmas.Logged.{just_then, only_then, only_wider}
use Rattle.lvm_recovery.specs.Copying.{IsInOneRun, LogsJust, LogsOnly, StopsAtOne, StopsInCopy, run_at, runs_into, is_of_copy, IsCopied, sources_and_targets, IsFull, IsOfCopies, MayCopy, AreApart, AllGive}
use Rattle.lvm_recovery.proofs.CopyingLemmas.AllCopied.{at_index, none_so_far, all_so_far}
use Rattle.lvm_recovery.proofs.PlanLemmas.Planning.{flat_map_one}
use Rattle.lvm_recovery.proofs.CopyingLemmas.Copied.{does_wider, back_then, well_then, failed_then, cut_then, left_then, or_first, or_second}
use Rattle.lvm_recovery.specs.Copying.{CopiesGoOn}

-- ---- disks

disks_left : (xs ys : List Recopy) (d : ℕ) → IsTrue (sources_and_targets xs d) → IsTrue (sources_and_targets (xs ++ ys) d)
disks_left [] ys d is = absurd cc
disks_left (x ∷ xs) ys d is = by (is_of_copy x d) refl (disks_left xs ys d) is
  where
    by : (t : Bool) → is_of_copy x d ≡ t → (IsTrue (sources_and_targets xs d) → IsTrue (sources_and_targets (xs ++ ys) d)) → IsTrue (t || sources_and_targets xs d) → IsTrue (is_of_copy x d || sources_and_targets (xs ++ ys) d)
    by true here rest is = or_first (is_of_copy x d) (sources_and_targets (xs ++ ys) d) here
    by false here rest is = or_second (is_of_copy x d) (sources_and_targets (xs ++ ys) d) (rest is)

disks_right : (xs ys : List Recopy) (d : ℕ) → IsTrue (sources_and_targets ys d) → IsTrue (sources_and_targets (xs ++ ys) d)
disks_right [] ys d is = is
disks_right (x ∷ xs) ys d is = or_second (is_of_copy x d) (sources_and_targets (xs ++ ys) d) (disks_right xs ys d is)

-- ---- what is brought

-- the media in between is the old one, but for what copies brought
module _ (copies : List Recopy) (apart : AreApart copies) (old : Device) (m k : Media) (sizes : List ℕ) (told : old.media ≡ Some m) (by : ChangesBy (IsOfCopies old copies) (image_of old.sizes m) (image_of sizes k)) where
  -- what copies are made of stands as it did
  source_stays : (one : Recopy) (i : ℕ) → IsOneOf copies one → i < 256 → k one.from.disk (one.from.sector + i) ≡ m one.from.disk (one.from.sector + i)
  source_stays one i among inside = ⊎_elim (λ same. same)
      (λ (brought : IsOfCopies old copies one.from.disk (one.from.sector + i) (k one.from.disk (one.from.sector + i))).
      absurd (apart.sources_stay one brought.one i brought.its.i one.from.disk (one.from.sector + i) among brought.among (record { disk = refl; inside = inside; sector = refl }) brought.its.at))
      (by.each one.from.disk (one.from.sector + i))

  -- what is brought to a place is what belongs there
  brought_is : (one : Recopy) (i : ℕ) (value : Sector) → IsOneOf copies one → i < 256 → IsOfCopies old copies one.into.disk (one.into.sector + i) value → value ≡ m one.from.disk (one.from.sector + i)
  brought_is one i value among inside brought =
      let same = apart.one_source one brought.one i brought.its.i one.into.disk (one.into.sector + i) among brought.among (record { disk = refl; inside = inside; sector = refl }) brought.its.at in
      let at = brought.its.at.sector in
      let starts : one.into.sector ≡ brought.one.into.sector = ap (λ (c : Recopy). c.into.sector) same in
      let which : brought.its.i ≡ i = omega (arith, at, starts) in
      told_at old.media (λ media. value ≡ media brought.one.from.disk (brought.one.from.sector + brought.its.i)) m told brought.its.is
      ∙ ap (λ (c : Recopy). m c.from.disk (c.from.sector + brought.its.i)) (sym same)
      ∙ ap (λ (n : ℕ). m one.from.disk (one.from.sector + n)) which

module _ (xs ys : List Recopy) (number p q r : ℕ) (old mid new : Device) (buf : Buffer) (apart : AreApart (xs ++ ys)) (first : AllGive xs number p q old mid (begun.Ended buf)) where
  abbrev all : List Recopy
  all = xs ++ ys

  brings_first : (d s : ℕ) (value : Sector) → IsOfCopies old xs d s value → IsOfCopies old all d s value
  brings_first d s value its = record { one = its.one; among = one_of_left xs ys its.one its.among; its = its.its }

  first_does : DiskWritesLeave (sources_and_targets all) (IsOfCopies old all) p q old mid
  first_does = does_wider (sources_and_targets xs) (sources_and_targets all) (IsOfCopies old xs) (IsOfCopies old all) (disks_left xs ys) brings_first p q old mid first.does

  -- what the others bring is what stood there at first
  brings_last : (d s : ℕ) (value : Sector) → IsOfCopies mid ys d s value → IsOfCopies old all d s value
  brings_last d s value its = record {
    one = its.one;
    among = one_of_right xs ys its.one its.among;
    its = record {
      i = its.its.i;
      at = its.its.at;
      is = if_told old.media (λ media. value ≡ media its.one.from.disk (its.one.from.sector + its.its.i))
          (λ m told.
          let between = both_at old.media mid.media (λ was is. ChangesBy (IsOfCopies old all) (image_of old.sizes was) (image_of mid.sizes is)) m first_does.keeps.media told in
          told_at mid.media (λ media. value ≡ media its.one.from.disk (its.one.from.sector + its.its.i)) between.0 between.1 its.its.is
          ∙ source_stays all apart old m between.0 mid.sizes told between.2 its.one its.its.i (one_of_right xs ys its.one its.among) its.its.at.inside);
    };
  }

  module _ (last : DiskWritesLeave (sources_and_targets ys) (IsOfCopies mid ys) q r mid new) where
    last_does : DiskWritesLeave (sources_and_targets all) (IsOfCopies old all) q r mid new
    last_does = does_wider (sources_and_targets ys) (sources_and_targets all) (IsOfCopies mid ys) (IsOfCopies old all) (disks_right xs ys) brings_last q r mid new last

    all_do : DiskWritesLeave (sources_and_targets all) (IsOfCopies old all) p r old new
    all_do = leaves_then (sources_and_targets all) (IsOfCopies old all) p q r old mid new first_does last_does

    -- what was copied stays so
    stays : (other : Recopy) → IsOneOf all other → IsCopied old mid other → IsCopied old new other
    stays other is_one copied =
        both_map old.media new.media (λ was is. ChangesBy (IsOfCopies old all) (image_of old.sizes was) (image_of new.sizes is))
        (λ was is. (i : ℕ) → i < 256 → is other.into.disk (other.into.sector + i) ≡ was other.from.disk (other.from.sector + i)) all_do.keeps.media
        (λ m n was is by i inside.
        let between = both_at old.media mid.media (λ was is. (i : ℕ) → i < 256 → is other.into.disk (other.into.sector + i) ≡ was other.from.disk (other.from.sector + i)) m copied was in
        let then = both_at mid.media new.media (λ was is. ChangesBy (IsOfCopies old all) (image_of mid.sizes was) (image_of new.sizes is)) between.0 last_does.keeps.media between.1 in
        let same : n ≡ then.0 = let e : Some n ≡ Some then.0 = sym is ∙ then.1 in cc in
        subst (λ (x : Media). x other.into.disk (other.into.sector + i) ≡ m other.from.disk (other.from.sector + i)) (sym same)
        (⊎_elim (λ kept. kept ∙ between.2 i inside)
        (λ (brought : IsOfCopies old all other.into.disk (other.into.sector + i) (then.0 other.into.disk (other.into.sector + i))).
        brought_is all apart old m then.0 new.sizes was (subst (λ (x : Media). ChangesBy (IsOfCopies old all) (image_of old.sizes m) (image_of new.sizes x)) same by) other i (then.0 other.into.disk (other.into.sector + i)) is_one inside brought)
        (then.2.each other.into.disk (other.into.sector + i))))

    -- and one of the others is a copy of what stood there at first
    is_copied : (one : Recopy) → IsOneOf ys one → IsCopied mid new one → IsCopied old new one
    is_copied one among copied =
        both_map old.media new.media (λ was is. ChangesBy (IsOfCopies old all) (image_of old.sizes was) (image_of new.sizes is))
        (λ was is. (i : ℕ) → i < 256 → is one.into.disk (one.into.sector + i) ≡ was one.from.disk (one.from.sector + i)) all_do.keeps.media
        (λ m n was is by i inside.
        let between = both_at old.media mid.media (λ was is. ChangesBy (IsOfCopies old all) (image_of old.sizes was) (image_of mid.sizes is)) m first_does.keeps.media was in
        let then = both_at mid.media new.media (λ was is. (i : ℕ) → i < 256 → is one.into.disk (one.into.sector + i) ≡ was one.from.disk (one.from.sector + i)) between.0 copied between.1 in
        let same : n ≡ then.0 = let e : Some n ≡ Some then.0 = sym is ∙ then.1 in cc in
        subst (λ (x : Media). x one.into.disk (one.into.sector + i) ≡ m one.from.disk (one.from.sector + i)) (sym same)
        (then.2 i inside ∙ source_stays all apart old m between.0 mid.sizes was between.2 one i (one_of_right xs ys one among) inside))

    all_log : LogsOnly (IsInOneRun ys) mid.wrote new.wrote → LogsOnly (IsInOneRun all) old.wrote new.wrote
    all_log logs = only_then (IsInOneRun all) old.wrote mid.wrote new.wrote
        (only_wider (IsInOneRun xs) (IsInOneRun all) old.wrote mid.wrote (λ range inside. (inside.0, one_of_left xs ys inside.0 inside.1, inside.2)) first.ranges)
        (only_wider (IsInOneRun ys) (IsInOneRun all) mid.wrote new.wrote (λ range inside. (inside.0, one_of_right xs ys inside.0 inside.1, inside.2)) logs)

    -- they were written in their order
    told_then : (more : List Recopy) (runs : List Range) → LogsJust (runs_into more ++ runs) mid.wrote new.wrote → LogsJust (runs_into (xs ++ more) ++ runs) old.wrote new.wrote
    told_then more runs told = subst (λ (l : List Range). LogsJust l old.wrote new.wrote)
        (sym (ap (λ (l : List Range). l ++ runs) (map-append (λ (c : Recopy). run_at c.into) xs more) ∙ append_assoc (runs_into xs) (runs_into more) runs))
        (just_then (runs_into xs) (runs_into more ++ runs) old.wrote mid.wrote new.wrote first.writes told)

    told_plain : (more : List Recopy) → LogsJust (runs_into more) mid.wrote new.wrote → LogsJust (runs_into (xs ++ more)) old.wrote new.wrote
    told_plain more told = subst (λ (l : List Range). LogsJust l old.wrote new.wrote) (sym (map-append (λ (c : Recopy). run_at c.into) xs more))
        (just_then (runs_into xs) (runs_into more) old.wrote mid.wrote new.wrote first.writes told)

    stops_in : (At : ℕ → Type 0) (made : List Recopy) (one : Recopy) → StopsInCopy (runs_into made) one mid.wrote new.wrote At → StopsInCopy (runs_into (xs ++ made)) one old.wrote new.wrote At
    stops_in At made one (inl here) = inl (told_plain made here.0, here.1)
    stops_in At made one (inr here) = inr (told_then made (run_at one.into ∷ []) here.0, here.1)

    stops_at : (At : ℕ → Type 0) → StopsAtOne ys mid new At → StopsAtOne all old new At
    stops_at At stops = record {
      made = xs ++ stops.made;
      one = stops.one;
      left = stops.left;
      order = ap (λ (l : List Recopy). xs ++ l) stops.order ∙ sym (append_assoc xs stops.made (stops.one ∷ stops.left));
      copied = λ other front. ⊎_elim
          (λ (here : IsOneOf xs other). stays other (one_of_left xs ys other here) (first.how.copied other here))
          (λ (there : IsOneOf stops.made other). is_copied other (subst (λ (l : List Recopy). IsOneOf l other) (sym stops.order) (one_of_left stops.made (stops.one ∷ stops.left) other there)) (stops.copied other there))
          (one_of_either xs stops.made other front);
      writes = stops_in At stops.made stops.one stops.writes;
    }

  goes_on : (how : Begun) → AllGive ys buf.number q r mid new how → AllGive all number p r old new how
  goes_on (begun.Ended end) gives = record {
    does = all_do gives.does;
    writes = told_plain gives.does ys gives.writes;
    ranges = all_log gives.does gives.ranges;
    how = record {
      back = back_then number old mid buf first.how.back first.how.well new end gives.how.back;
      full = gives.how.full;
      well = well_then number old mid buf first.how.back first.how.well new gives.how.well;
      copied = λ one among. ⊎_elim
          (λ (here : IsOneOf xs one). stays gives.does one (one_of_left xs ys one here) (first.how.copied one here))
          (λ (there : IsOneOf ys one). is_copied gives.does one there (gives.how.copied one there))
          (one_of_either xs ys one among);
    };
  }
  goes_on (begun.DiskFailed disk end) gives = record {
    does = all_do gives.does;
    writes = stops_at gives.does (λ d. disk ≡ d) gives.writes;
    ranges = all_log gives.does gives.ranges;
    how = (disks_right xs ys disk gives.how.0, failed_then number old mid buf first.how.back first.how.well new disk end gives.how.1);
  }
  goes_on begun.Dark gives = record { does = all_do gives.does; writes = stops_at gives.does (λ d. Unit {0}) gives.writes; ranges = all_log gives.does gives.ranges; how = cut_then number old mid buf first.how.back first.how.well new gives.how }
  goes_on begun.Stuck gives = record { does = all_do gives.does; writes = stops_at gives.does (λ d. Unit {0}) gives.writes; ranges = all_log gives.does gives.ranges; how = left_then number old mid buf first.how.back first.how.well p q new first.does.spends gives.how }

-- ---- further ones that weren't begun

module _ (xs zs : List Recopy) (number p r : ℕ) (old new : Device) where
  brings_more : (d s : ℕ) (value : Sector) → IsOfCopies old xs d s value → IsOfCopies old (xs ++ zs) d s value
  brings_more d s value its = record { one = its.one; among = one_of_left xs zs its.one its.among; its = its.its }

  more_do : DiskWritesLeave (sources_and_targets xs) (IsOfCopies old xs) p r old new → DiskWritesLeave (sources_and_targets (xs ++ zs)) (IsOfCopies old (xs ++ zs)) p r old new
  more_do does = does_wider (sources_and_targets xs) (sources_and_targets (xs ++ zs)) (IsOfCopies old xs) (IsOfCopies old (xs ++ zs)) (disks_left xs zs) brings_more p r old new does

  more_log : LogsOnly (IsInOneRun xs) old.wrote new.wrote → LogsOnly (IsInOneRun (xs ++ zs)) old.wrote new.wrote
  more_log logs = only_wider (IsInOneRun xs) (IsInOneRun (xs ++ zs)) old.wrote new.wrote (λ range inside. (inside.0, one_of_left xs zs inside.0 inside.1, inside.2)) logs

  more_stops : (At : ℕ → Type 0) → StopsAtOne xs old new At → StopsAtOne (xs ++ zs) old new At
  more_stops At stops = record {
    made = stops.made;
    one = stops.one;
    left = stops.left ++ zs;
    order = ap (λ (l : List Recopy). l ++ zs) stops.order ∙ append_assoc stops.made (stops.one ∷ stops.left) zs;
    copied = stops.copied;
    writes = stops.writes;
  }

  pub stops_early : (how : Begun) → ((b : Buffer) → how ≡ begun.Ended b → ⊥) → AllGive xs number p r old new how → AllGive (xs ++ zs) number p r old new how
  stops_early (begun.Ended b) never gives = absurd (never b refl)
  stops_early (begun.DiskFailed disk b) never gives = record { does = more_do gives.does; writes = more_stops (λ d. disk ≡ d) gives.writes; ranges = more_log gives.ranges; how = (disks_left xs zs disk gives.how.0, gives.how.1) }
  stops_early begun.Dark never gives = record { does = more_do gives.does; writes = more_stops (λ d. Unit {0}) gives.writes; ranges = more_log gives.ranges; how = gives.how }
  stops_early begun.Stuck never gives = record { does = more_do gives.does; writes = more_stops (λ d. Unit {0}) gives.writes; ranges = more_log gives.ranges; how = gives.how }

-- ---- parts of a list

pub apart_less : (xs ys : List Recopy) → ((one : Recopy) → IsOneOf ys one → IsOneOf xs one) → AreApart xs → AreApart ys
apart_less xs ys less apart = record {
  sources_stay = λ a b i j d s one two. apart.sources_stay a b i j d s (less a one) (less b two);
  one_source = λ a b i j d s one two. apart.one_source a b i j d s (less a one) (less b two);
}

pub all_less : (P : Recopy → Type 0) (xs ys : List Recopy) → ((one : Recopy) → IsOneOf ys one → IsOneOf xs one) → All P xs → All P ys
all_less P xs ys less all = λ k d low. all_one P xs (slice_index_or ys k d) all (less (slice_index_or ys k d) (one_at ys k (slice_index_or ys k d) (at_index ys k d low)))

pub copies_go_on : CopiesGoOn
copies_go_on xs ys number p q r old mid new buf how apart first gives = goes_on xs ys number p q r old mid new buf apart first how gives

-- ---- part by part

module _ {X : Type 0} (f : X → List Recopy) (xs : List X) (number p q : ℕ) (old now : Device) (buf : Buffer) where
  -- the parts before this one were made
  pub record PartsMade (i : ℕ) : Type 0 where
    pub made : AllGive (flat_map f (take i xs)) number p q old now (begun.Ended buf)

pub nothing_made : (p : ℕ) (old : Device) (buf : Buffer) → IsReady old → IsFull buf → AllGive [] buf.number p p old old (begun.Ended buf)
nothing_made p old buf ready full = all_so_far [] buf.number p p old old buf 0 (omega arith) (none_so_far [] p old buf ready full)

pub no_part_made : {X : Type 0} (f : X → List Recopy) (xs : List X) (p : ℕ) (old : Device) (buf : Buffer) → IsReady old → IsFull buf → PartsMade f xs buf.number p p old old buf 0
no_part_made f xs p old buf ready full = record { made = nothing_made p old buf ready full }

module _ {X : Type 0} (f : X → List Recopy) (xs : List X) (i : ℕ) (d x : X) (low : i < length xs) (is : x ≡ slice_index_or xs i d) where
  one_more_part : flat_map f (take (i + 1) xs) ≡ flat_map f (take i xs) ++ f x
  one_more_part = ap (λ l. flat_map f l) (take_more xs i d low) ∙ flat_map_one f (take i xs) (slice_index_or xs i d) ∙ ap (λ (y : X). flat_map f (take i xs) ++ f y) (sym is)

  parts_split : flat_map f xs ≡ flat_map f (take (i + 1) xs) ++ flat_map f (drop (i + 1) xs)
  parts_split = ap (λ l. flat_map f l) (sym (take-append-drop (i + 1) xs)) ∙ flat_map-append f (take (i + 1) xs) (drop (i + 1) xs)

  among_parts : (one : Recopy) → IsOneOf (flat_map f (take i xs) ++ f x) one → IsOneOf (flat_map f xs) one
  among_parts one among = subst (λ (l : List Recopy). IsOneOf l one) (sym parts_split) (one_of_left (flat_map f (take (i + 1) xs)) (flat_map f (drop (i + 1) xs)) one (subst (λ (l : List Recopy). IsOneOf l one) (sym one_more_part) among))

  pub part_among : (one : Recopy) → IsOneOf (f x) one → IsOneOf (flat_map f xs) one
  part_among one among = among_parts one (one_of_right (flat_map f (take i xs)) (f x) one among)

  module _ (apart : AreApart (flat_map f xs)) (number p q r : ℕ) (old now new : Device) (buf : Buffer) (so_far : PartsMade f xs number p q old now buf i) where
    joined : (how : Begun) → AllGive (f x) buf.number q r now new how → AllGive (flat_map f (take (i + 1) xs)) number p r old new how
    joined how gives = subst (λ (l : List Recopy). AllGive l number p r old new how) (sym one_more_part)
        (copies_go_on (flat_map f (take i xs)) (f x) number p q r old now new buf how (apart_less (flat_map f xs) (flat_map f (take i xs) ++ f x) among_parts apart) so_far.made gives)

    pub next_part : (back : Buffer) → AllGive (f x) buf.number q r now new (begun.Ended back) → PartsMade f xs number p r old new back (i + 1)
    next_part back gives = record { made = joined (begun.Ended back) gives }

    pub stopped_part : (how : Begun) → ((b : Buffer) → how ≡ begun.Ended b → ⊥) → AllGive (f x) buf.number q r now new how → AllGive (flat_map f xs) number p r old new how
    stopped_part how never gives = subst (λ (l : List Recopy). AllGive l number p r old new how) (sym parts_split)
        (stops_early (flat_map f (take (i + 1) xs)) (flat_map f (drop (i + 1) xs)) number p r old new how never (joined how gives))

  module _ (number p q : ℕ) (old now : Device) (buf : Buffer) (so_far : PartsMade f xs number p q old now buf i) where
    pub part_ready : IsReady now
    part_ready = so_far.made.how.back.ready

    pub part_full : IsFull buf
    part_full = so_far.made.how.full

    pub part_ranges : All (MayCopy old.sizes) (flat_map f xs) → All (MayCopy now.sizes) (f x)
    part_ranges all = subst (λ (sizes : List ℕ). All (MayCopy sizes) (f x)) (sym so_far.made.does.keeps.sizes) (all_less (MayCopy old.sizes) (flat_map f xs) (f x) part_among all)

  pub part_apart : AreApart (flat_map f xs) → AreApart (f x)
  part_apart apart = apart_less (flat_map f xs) (f x) part_among apart

pub all_parts : {X : Type 0} (f : X → List Recopy) (xs : List X) (number p q : ℕ) (old now : Device) (buf : Buffer) (i : ℕ) → length xs ≤ i → PartsMade f xs number p q old now buf i → AllGive (flat_map f xs) number p q old now (begun.Ended buf)
all_parts f xs number p q old now buf i all so_far = subst (λ l. AllGive (flat_map f l) number p q old now (begun.Ended buf)) (take_all i xs all) so_far.made
