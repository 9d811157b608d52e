-- Copies that are planned.
use Rattle.std.proofs.Common.{◌≡◌, ◌⊎◌, inl, inr, ⊎_elim, ℕ, suc, ◌+◌, ◌-◌, ◌*◌, ◌/◌, ◌%◌, ◌<◌, ◌&&◌, not, List, [], ◌∷◌, Option, Some, refl, sym, ap, subst, ◌∙◌, arith, AllPairs}
use Rattle.std.specs.List.{AllByRecursion}
use Rattle.std.proofs.lemmas.Nat.{div-mul-add}
use Rattle.std.proofs.lemmas.List.Kept.{AllPairs-filter}
use Rattle.std.proofs.Math.Nat.{mod-lt}
use Rattle.lvm_num.specs.declared.place.Place.{Place}
use Rattle.lvm_num.specs.declared.place.Pp.{Pp}
use Rattle.lvm_num.specs.declared.descriptor.Mode.{Mode}
use Rattle.lvm_num.specs.declared.descriptor.Mode.TheVariants.{Active, Passive, Off}
use Rattle.lvm_num.specs.declared.descriptor.LvRow.{LvRow}
use Rattle.lvm_num.specs.declared.descriptor.Descriptor.{Descriptor}
use Rattle.lvm_num.specs.declared.status.Status.{Status}
use Rattle.lvm_num.specs.Disks.{Disks}
use Rattle.lvm_num.specs.Geometry.{partition_of, track_group_of, sector_of}
use Rattle.lvm_num.specs.Descriptor.{IsValid, IsLaidOut, copies_of}
use Rattle.lvm_num.specs.Record.{Stamped}
use Rattle.lvm_num.proofs.Lists.{index_is}
use Rattle.lvm_num.proofs.AmongLemmas.{all_one}
use Rattle.lvm_disk.specs.Device.{Media, Device, image_of}
use Rattle.lvm_disk.specs.Steps.{BothTold}
use Rattle.lvm_kept.specs.Contents.{Contents, contents_of}
use Rattle.lvm_kept.specs.Plans.{ChangesBy}
use Rattle.lvm_kept.proofs.PlacesLemmas.{blocks_are_sectors}
use Rattle.lvm_kept.specs.Group.{is_stale_by, is_named, fresh_on, block_at, IsBlockOf, IsOneOf}
use Rattle.lvm_write.proofs.WrittenLemmas.Writing.{told_at, both_at, changes_more}
use Rattle.lvm_recover.proofs.passed.Even.{mib_positive}
use Rattle.lvm_recover.specs.Recopied.{IsToEqual, IsFromFirst, IsRecopied, HoldFirst}
use Rattle.lvm_recover.proofs.GeometryLemmas.{IsSame, one_block}
use Rattle.lvm_recover.proofs.KeepingLemmas.Copying.{left_passes, cons_same, equal_stays}
use Rattle.lvm_recover.proofs.KeepingLemmas.Images.{images_are_recopied}
use Rattle.lvm_recover.proofs.BeginningLemmas.{is_at}
use Rattle.lvm_recovery.specs.declared.copying.Recopy.{Recopy}
use Rattle.lvm_recovery.specs.Copying.{IsAt, IsOfCopies, IsCopied}
use Rattle.lvm_recovery.specs.Planned.{IsPlannedCopy, ArePlanned, PlannedAreApart, PlannedAreFromFirst, PlannedAreEqualled}
use Rattle.lvm_map.specs.Places.{place_on}
use Rattle.lvm_recovery.proofs.CopyingLemmas.AllCopied.{place_of_one}

-- ---- lists

first_to_other : {X : Type 0} (R : X → X → Type 0) (l : List X) (first x : X) (others : List X) → AllPairs R l → l ≡ first ∷ others → IsOneOf others x → R first x
first_to_other R l first x others pairs is one =
    let it = place_of_one others x one in
    let low = it.1 in
    let whole : AllPairs R (first ∷ others) = subst (AllPairs R) is pairs in
    subst (R first) (index_is others it.0 x x it.2) (whole 0 (suc it.0) x (omega arith) (omega (arith, low)))

-- ---- blocks of a track group

pub group_of_start : (g : ℕ) → track_group_of (g * 256) ≡ g
group_of_start g = ap (λ (k : ℕ). k / 256) (omega arith) ∙ div-mul-add g 256 0 (omega arith)

module _ (group : Descriptor) (valid : IsValid group) (status : Option (Stamped Status)) (there : Disks) where
  -- a usable copy is one, and the first isn't among the others
  usable_one : (row : LvRow) (lp : ℕ) (usable : List Pp) (p : Pp) → fresh_on there status row lp ≡ usable → IsOneOf usable p → IsOneOf (copies_of row lp) p
  usable_one row lp usable p is one = (left_passes (λ (q : Pp). there q.disk && not (is_stale_by status q)) (copies_of row lp) usable is p one).0

  first_is_no_other : (row : LvRow) (lp : ℕ) (first : Pp) (others : List Pp) → IsOneOf group.lvs row → lp < row.lps → fresh_on there status row lp ≡ first ∷ others → IsOneOf others first → ⊥
  first_is_no_other row lp first others volume low is one =
      let laid : IsLaidOut row = all_one IsLaidOut group.lvs row valid.maps.laid_out volume in
      first_to_other (λ (a b : Pp). a.disk ≡ b.disk → ⊥) (fresh_on there status row lp) first first others
      (AllPairs-filter (λ (a b : Pp). a.disk ≡ b.disk → ⊥) (λ (q : Pp). there q.disk && not (is_stale_by status q)) (copies_of row lp) (laid.strict lp low)) is one refl

  -- the block of a planned copy at sector i of its run
  pub block_inside : (c : Contents) (one : Recopy) (p : IsPlannedCopy c group status there one) (i : ℕ) → i < 256 → IsBlockOf group.mib p.row p.lp (p.g * 256 + i)
  block_inside c one p i low = record { inside = p.inside.inside; partition = (is_at group.mib p.g i (mib_positive group valid) low).partition ∙ p.inside.partition }

  pub sector_is : (pp g i : ℕ) → i < 256 → sector_of group.mib pp (g * 256 + i) ≡ sector_of group.mib pp (g * 256) + i
  sector_is pp g i low = let rest = (is_at group.mib g i (mib_positive group valid) low).rest in omega (arith, rest)

  module _ (c : Contents) (a b : Recopy) (p : IsPlannedCopy c group status there a) (q : IsPlannedCopy c group status there b) (i j d s : ℕ) where
    -- two usable copies that have a sector in common
    meet : (one two : Pp) → IsOneOf (p.first ∷ p.others) one → IsOneOf (q.first ∷ q.others) two → i < 256 → j < 256 → d ≡ one.disk → d ≡ two.disk → s ≡ sector_of group.mib one.pp (p.g * 256) + i
        → s ≡ sector_of group.mib two.pp (q.g * 256) + j → IsSame one two p.row q.row p.lp q.lp (p.g * 256 + i) (q.g * 256 + j)
    meet one two is_one is_two low_i low_j disk_one disk_two sector_one sector_two =
        one_block group p.row q.row p.lp q.lp (p.g * 256 + i) (q.g * 256 + j) one two valid p.volume q.volume (block_inside c a p i low_i) (block_inside c b q j low_j)
        (usable_one p.row p.lp (p.first ∷ p.others) one p.usable is_one) (usable_one q.row q.lp (q.first ∷ q.others) two q.usable is_two)
        (sym disk_two ∙ disk_one) (sector_is two.pp q.g j low_j ∙ sym sector_two ∙ sector_one ∙ sym (sector_is one.pp p.g i low_i))

    -- both have the same usable copies then
    same_usable : (one two : Pp) → IsSame one two p.row q.row p.lp q.lp (p.g * 256 + i) (q.g * 256 + j) → q.first ∷ q.others ≡ p.first ∷ p.others
    same_usable one two same = sym q.usable ∙ ap (λ (r : LvRow). fresh_on there status r q.lp) (sym same.row_is) ∙ ap (λ (n : ℕ). fresh_on there status p.row n) (sym same.lp_is) ∙ p.usable

    from_is_no_into : IsAt a.from d s i → IsAt b.into d s j → ⊥
    from_is_no_into at_from at_into =
        let same = meet p.first q.copy (inl refl) (inr q.further) at_from.inside at_into.inside (at_from.disk ∙ ap (λ (x : Place). x.disk) p.from) (at_into.disk ∙ ap (λ (x : Place). x.disk) q.into)
        (at_from.sector ∙ ap (λ (x : Place). x.sector + i) p.from) (at_into.sector ∙ ap (λ (x : Place). x.sector + j) q.into) in
        let lists = same_usable p.first q.copy same in
        let firsts : q.first ≡ p.first = cons_same q.first p.first q.others p.others lists in
        first_is_no_other q.row q.lp q.first q.others q.volume q.inside.inside q.usable (subst (IsOneOf q.others) (sym same.copy_is ∙ sym firsts) q.further)

    into_is_one : IsAt a.into d s i → IsAt b.into d s j → a ≡ b
    into_is_one at_a at_b =
        let same = meet p.copy q.copy (inr p.further) (inr q.further) at_a.inside at_b.inside (at_a.disk ∙ ap (λ (x : Place). x.disk) p.into) (at_b.disk ∙ ap (λ (x : Place). x.disk) q.into)
        (at_a.sector ∙ ap (λ (x : Place). x.sector + i) p.into) (at_b.sector ∙ ap (λ (x : Place). x.sector + j) q.into) in
        let firsts : q.first ≡ p.first = cons_same q.first p.first q.others p.others (same_usable p.copy q.copy same) in
        let blocks = same.block_is in
        let low_i = at_a.inside in
        let low_j = at_b.inside in
        let groups : p.g ≡ q.g = omega (arith, blocks, low_i, low_j) in
        let froms : a.from ≡ b.from = p.from ∙ ap (λ (x : Pp). place_on group.mib x (p.g * 256)) (sym firsts) ∙ ap (λ (n : ℕ). place_on group.mib q.first (n * 256)) groups ∙ sym q.from in
        let intos : a.into ≡ b.into = p.into ∙ ap (λ (x : Pp). place_on group.mib x (p.g * 256)) same.copy_is ∙ ap (λ (n : ℕ). place_on group.mib q.copy (n * 256)) groups ∙ sym q.into in
        ap (λ (x : Place). record { from = x; into = a.into }) froms ∙ ap (λ (x : Place). record { from = b.from; into = x }) intos

pub planned_are_apart : PlannedAreApart
planned_are_apart c group status there copies valid each = record {
  sources_stay = λ a b i j d s one two. from_is_no_into group valid status there c a b (each a one) (each b two) i j d s;
  one_source = λ a b i j d s one two. into_is_one group valid status there c a b (each a one) (each b two) i j d s;
}

-- a block of a track group is to be made equal where its first one is, in each mode
pub made_equal : (c : Contents) (there : Disks) (mode : Mode) (status : Option (Stamped Status)) (lv a b : ℕ) → track_group_of b ≡ track_group_of a → IsToEqual c status there mode lv a → IsToEqual c status there mode lv b
made_equal c there Active status lv a b same made = (made.0, made.1, ap (λ (t : ℕ). is_named c made.0 lv t) same ∙ made.2)
made_equal c there Passive status lv a b same made = made
made_equal c there Off status lv a b same made = absurd made

pub planned_are_from_first : PlannedAreFromFirst
planned_are_from_first group status there copies old media valid told each d s value its =
    let c : Contents = contents_of (image_of old.sizes media) in
    let p = each its.one its.among in
    let i : ℕ = its.its.i in
    let low = its.its.at.inside in
    let is = told_at old.media (λ m. value ≡ m its.one.from.disk (its.one.from.sector + i)) media told its.its.is in
    record {
      row = p.row;
      lp = p.lp;
      block = p.g * 256 + i;
      volume = p.volume;
      made = made_equal c there p.row.mode status p.row.number (p.g * 256) (p.g * 256 + i) (is_at group.mib p.g i (mib_positive group valid) low).track_group p.made;
      inside = block_inside group valid status there c its.one p i low;
      first = p.first;
      others = p.others;
      usable = p.usable;
      copy = p.copy;
      one = p.further;
      disk = sym (its.its.at.disk ∙ ap (λ (x : Place). x.disk) p.into);
      sector = sector_is group valid status there p.copy.pp p.g i low ∙ sym (its.its.at.sector ∙ ap (λ (x : Place). x.sector + i) p.into);
      value_is = is ∙ ap (λ (x : Place). media x.disk (x.sector + i)) p.from ∙ ap (λ (n : ℕ). media p.first.disk n) (sym (sector_is group valid status there p.first.pp p.g i low))
          ∙ sym (blocks_are_sectors (image_of old.sizes media) group.mib (p.g * 256 + i) p.first);
    }

all_of : {X : Type 0} (P : X → Type 0) (l : List X) → ((x : X) → IsOneOf l x → P x) → AllByRecursion P l
all_of P [] f = tt
all_of P (x ∷ l) f = (f x (inl refl), all_of P l (λ y one. f y (inr one)))

told_both : (o n : Option Media) (R : Media → Media → Type 0) (a b : Media) → o ≡ Some a → n ≡ Some b → BothTold o n R → R a b
told_both o n R a b one two both =
    let it = both_at o n R a both one in
    let same : it.0 ≡ b = let e : Some it.0 ≡ Some b = sym it.1 ∙ two in cc in
    subst (R a) same it.2

module _ (group : Descriptor) (status : Option (Stamped Status)) (there : Disks) (copies : List Recopy) (old new : Device) (was is : Media) (valid : IsValid group) (told_old : old.media ≡ Some was) (told_new : new.media ≡ Some is)
    (planned : ArePlanned (contents_of (image_of old.sizes was)) group status there copies) (by : ChangesBy (IsOfCopies old copies) (image_of old.sizes was) (image_of new.sizes is)) (copied : (one : Recopy) → IsOneOf copies one → IsCopied old new one) where
  abbrev before : Contents
  before = contents_of (image_of old.sizes was)

  abbrev after : Contents
  after = contents_of (image_of new.sizes is)

  recopied : IsRecopied before group status there after
  recopied = images_are_recopied group status there (image_of old.sizes was) (image_of new.sizes is)
      (changes_more (IsOfCopies old copies) (IsFromFirst before group status there) (image_of old.sizes was) (image_of new.sizes is) (planned_are_from_first group status there copies old was valid told_old planned.each) by)

  module _ (row : LvRow) (lp b g : ℕ) (volume : IsOneOf group.lvs row) (inside : IsBlockOf group.mib row lp b) (same : track_group_of b ≡ g) (made : IsToEqual before status there row.mode row.number b) where
    other_holds : (first p : Pp) (others : List Pp) → fresh_on there status row lp ≡ first ∷ others → IsOneOf others p → block_at after group.mib p b ≡ block_at before group.mib first b
    other_holds first p others usable one =
        let i : ℕ = b % 256 in
        let low : i < 256 = mod-lt b (omega arith) in
        let whole : g * 256 + i ≡ b = grind (arith, same) in
        let place = is_at group.mib g i (mib_positive group valid) low in
        let it : Recopy = record { from = place_on group.mib first (g * 256); into = place_on group.mib p (g * 256) } in
        let plan : IsPlannedCopy before group status there it = record {
          row = row;
          lp = lp;
          g = g;
          volume = volume;
          inside = record { inside = inside.inside; partition = sym place.partition ∙ ap (λ (n : ℕ). partition_of group.mib n) whole ∙ inside.partition };
          made = made_equal before there row.mode status row.number b (g * 256) (group_of_start g ∙ sym same) made;
          first = first;
          others = others;
          usable = usable;
          copy = p;
          further = one;
          from = refl;
          into = refl;
        } in
        let stands = told_both old.media new.media (λ was is. (i : ℕ) → i < 256 → is it.into.disk (it.into.sector + i) ≡ was it.from.disk (it.from.sector + i)) was is told_old told_new (copied it (planned.all it plan)) i low in
        subst (λ (n : ℕ). block_at after group.mib p n ≡ block_at before group.mib first n) whole
        (blocks_are_sectors (image_of new.sizes is) group.mib (g * 256 + i) p
        ∙ ap (λ (n : ℕ). is p.disk n) (sector_is group valid status there p.pp g i low)
        ∙ stands
        ∙ ap (λ (n : ℕ). was first.disk n) (sym (sector_is group valid status there first.pp g i low))
        ∙ sym (blocks_are_sectors (image_of old.sizes was) group.mib (g * 256 + i) first))

    hold : (usable : List Pp) → fresh_on there status row lp ≡ usable → HoldFirst before after group.mib usable b
    hold [] none = tt
    hold (first ∷ others) usable = all_of (λ (p : Pp). block_at after group.mib p b ≡ block_at before group.mib first b) (first ∷ others)
        (λ p one. ⊎_elim
        (λ (own : p ≡ first). ap (λ (x : Pp). block_at after group.mib x b) own ∙ equal_stays group status there before before after row lp b first first others valid recopied.each volume inside usable (inl refl) refl)
        (λ (further : IsOneOf others p). other_holds first p others usable further)
        one)

pub planned_are_equalled : PlannedAreEqualled
planned_are_equalled group status there copies old new was is valid told_old told_new planned by copied row lp b volume inside made =
    hold group status there copies old new was is valid told_old told_new planned by copied row lp b (track_group_of b) volume inside refl made (fresh_on there status row lp) refl
