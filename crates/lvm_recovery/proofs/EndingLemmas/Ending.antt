-- What planned copies need, and what they leave.
use Rattle.std.proofs.Common.{◌≡◌, inl, inr, ⊎_elim, ℕ, ◌+◌, ◌*◌, ◌%◌, ◌<◌, ◌≤◌, ◌&&◌, not, List, ◌∷◌, Option, Some, slice_get, slice_index_or, refl, sym, subst, ◌∙◌, arith}
use Rattle.std.specs.Prelude.{IsTrue}
use Rattle.std.proofs.Math.Nat.{mod-lt}
use Rattle.lvm_num.specs.declared.place.Place.{Place}
use Rattle.lvm_num.specs.declared.place.Pp.{Pp}
use Rattle.lvm_num.specs.declared.descriptor.Mode.{Mode}
use Rattle.lvm_num.specs.declared.descriptor.Mode.TheVariants.{Active, Passive, Off}
use Rattle.lvm_num.specs.declared.descriptor.LvRow.{LvRow}
use Rattle.lvm_num.specs.declared.descriptor.Descriptor.{Descriptor}
use Rattle.lvm_num.specs.declared.status.Status.{Status}
use Rattle.lvm_num.specs.Disks.{Disks}
use Rattle.lvm_num.specs.Geometry.{data_start, partition_blocks, sectors_needed, track_group_of}
use Rattle.lvm_num.specs.Descriptor.{IsValid, IsPartitionOf, copies_of, partitions_used}
use Rattle.lvm_num.specs.Record.{Stamped}
use Rattle.lvm_num.proofs.Booleans.{first_holds, clash_gives}
use Rattle.lvm_num.proofs.AmongLemmas.{all_one, one_at}
use Rattle.lvm_disk.specs.Device.{image_of}
use Rattle.lvm_kept.specs.Contents.{Contents, contents_of}
use Rattle.lvm_kept.specs.Group.{IsOneOf, is_named, is_stale_by, fresh_on}
use Rattle.lvm_kept.proofs.TornLemmas.Standing.{note_shows}
use Rattle.lvm_write.proofs.WrittenLemmas.Writing.{changes_more}
use Rattle.lvm_recover.proofs.passed.Commit.{of_map, of_rows}
use Rattle.lvm_recover.proofs.passed.Even.{mib_positive}
use Rattle.lvm_num.specs.Status.{calls_dirty}
use Rattle.lvm_write.specs.Next.{has_passive}
use Rattle.lvm_recover.specs.Recopied.{IsToEqual, IsFromFirst}
use Rattle.lvm_tidying.proofs.passed.Steps.{split, join}
use Rattle.lvm_tidying.proofs.RecoveredLemmas.{one_passive}
use Rattle.lvm_recover.proofs.KeepingLemmas.Copying.{left_passes}
use Rattle.lvm_recover.proofs.KeepingLemmas.Images.{images_are_recopied}
use Rattle.lvm_recovery.specs.declared.copying.Recopy.{Recopy}
use Rattle.lvm_recovery.specs.Copying.{MayTransfer, IsOfCopies}
use Rattle.lvm_recovery.specs.Planned.{IsPlannedCopy}
use Rattle.lvm_map.specs.Places.{place_on}
use Rattle.lvm_recover.proofs.BeginningLemmas.{usable_stay, next_leaves_none, is_at}
use Rattle.lvm_recovery.specs.Ending.{NextSamePlan, RestatedMayEqualise, SameNotesSamePlan, HaveSectors, PlannedMayBeMade, CopiedEnds, EmptiedEnds}
use Rattle.lvm_recovery.proofs.CopyingLemmas.AllCopied.{at_index}
use Rattle.lvm_recovery.proofs.PlannedLemmas.{planned_are_from_first, planned_are_equalled}

other_plan : (a b : Contents) (group : Descriptor) (status : Option (Stamped Status)) (there : Disks) (one : Recopy) → ((d lv g : ℕ) → IsTrue (there d) → is_named a d lv g ≡ is_named b d lv g)
    → IsPlannedCopy a group status there one → IsPlannedCopy b group status there one
other_plan a b group status there one same p = record {
  row = p.row;
  lp = p.lp;
  g = p.g;
  volume = p.volume;
  inside = p.inside;
  made = other_made p.row.mode p.made;
  first = p.first;
  others = p.others;
  usable = p.usable;
  copy = p.copy;
  further = p.further;
  from = p.from;
  into = p.into;
}
  where
    other_made : (m : Mode) → IsToEqual a status there m p.row.number (p.g * 256) → IsToEqual b status there m p.row.number (p.g * 256)
    other_made Active made = (made.0, made.1, sym (same made.0 p.row.number (track_group_of (p.g * 256)) made.1) ∙ made.2)
    other_made Passive made = made
    other_made Off made = made

pub same_notes_same_plan : SameNotesSamePlan
same_notes_same_plan a b group status there copies same are = record {
  each = λ one among. other_plan a b group status there one same (are.each one among);
  all = λ one p. are.all one (other_plan b a group status there one (λ d lv g on. sym (same d lv g on)) p);
}

-- ---- room

inside_disk : (mib pp pps r size : ℕ) → pp < pps → r + 256 ≤ partition_blocks mib → sectors_needed mib pps ≤ size → data_start + partition_blocks mib * pp + r + 256 ≤ size
inside_disk mib pp pps r size low room needed =
    let part : partition_blocks mib * pp + partition_blocks mib ≤ partition_blocks mib * pps = grind (arith, low) in
    omega (arith, part, room, needed)

room_of : (group : Descriptor) (status : Option (Stamped Status)) (there : Disks) (sizes : List ℕ) (row : LvRow) (lp g : ℕ) (usable : List Pp) (p : Pp) (place : Place) → IsValid group → HaveSectors sizes group there → IsOneOf group.lvs row
    → fresh_on there status row lp ≡ usable → IsOneOf usable p → place ≡ place_on group.mib p (g * 256) → MayTransfer sizes place
room_of group status there sizes row lp g usable p place valid have volume is one at =
    let passed = left_passes (λ (q : Pp). there q.disk && not (is_stale_by status q)) (copies_of row lp) usable is p one in
    let of = all_one (IsPartitionOf group) (partitions_used group) p valid.maps.places (of_rows group.lvs row p volume (of_map row lp p passed.0)) in
    let large = have p.disk of.0 (first_holds (there p.disk) (not (is_stale_by status p)) passed.1) of.1 in
    let some = mib_positive group valid in
    let positive : 0 < partition_blocks group.mib = omega (arith, some) in
    let last = (is_at group.mib g 255 some (omega arith)).rest in
    let bound = mod-lt (g * 256 + 255) positive in
    let room : (g * 256) % partition_blocks group.mib + 256 ≤ partition_blocks group.mib = omega (arith, last, bound) in
    let within = inside_disk group.mib p.pp of.0.pps ((g * 256) % partition_blocks group.mib) large.0 of.2 room large.2 in
    let there_is : slice_get sizes p.disk ≡ Some large.0 = large.1 in
    subst (MayTransfer sizes) (sym at) (record {
      there = Rattle.std.proofs.lemmas.Option.slice_get_within sizes p.disk large.0 there_is;
      data_there = omega arith;
      within = λ size here. let same : size ≡ large.0 = let e : Some size ≡ Some large.0 = sym here ∙ there_is in cc in omega (arith, within, same);
    })

pub planned_may_be_made : PlannedMayBeMade
planned_may_be_made c group status there sizes copies valid have are k d low =
    let one = slice_index_or copies k d in
    let p = are.each one (one_at copies k one (at_index copies k d low)) in
    record {
      from = room_of group status there sizes p.row p.lp p.g (p.first ∷ p.others) p.first one.from valid have p.volume p.usable (inl refl) p.from;
      into = room_of group status there sizes p.row p.lp p.g (p.first ∷ p.others) p.copy one.into valid have p.volume p.usable (inr p.further) p.into;
    }

-- ---- the end

pub copied_ends : CopiedEnds
copied_ends copies old mid group status there was between valid told_old told_mid planned by copied = record {
  recopied = images_are_recopied group status there (image_of old.sizes was) (image_of mid.sizes between)
      (changes_more (IsOfCopies old copies) (IsFromFirst (contents_of (image_of old.sizes was)) group status there) (image_of old.sizes was) (image_of mid.sizes between)
      (planned_are_from_first group status there copies old was valid told_old planned.each) by);
  equalled = planned_are_equalled group status there copies old mid was between valid told_old told_mid planned by copied;
}

pub emptied_ends : EmptiedEnds
emptied_ends targets there sector old new inside by =
    let notes = note_shows targets sector old new by in
    record {
      rest = notes.rest;
      others = λ d isnt. ⊎_elim (λ same. same) (λ own. clash_gives (there d) (inside d own.0) isnt) (notes.own d);
    }

-- ---- the next status

next_plan : (c : Contents) (group : Descriptor) (there : Disks) (a b : Stamped Status) (one : Recopy) → ((row : LvRow) (lp : ℕ) → IsOneOf group.lvs row → fresh_on there (Some b) row lp ≡ fresh_on there (Some a) row lp)
    → ((row : LvRow) → IsOneOf group.lvs row → row.mode ≡ Passive → IsTrue (calls_dirty a.value row.number) → IsTrue (calls_dirty b.value row.number))
    → IsPlannedCopy c group (Some a) there one → IsPlannedCopy c group (Some b) there one
next_plan c group there a b one same dirty p = record {
  row = p.row;
  lp = p.lp;
  g = p.g;
  volume = p.volume;
  inside = p.inside;
  made = next_made p.row.mode refl p.made;
  first = p.first;
  others = p.others;
  usable = same p.row p.lp p.volume ∙ p.usable;
  copy = p.copy;
  further = p.further;
  from = p.from;
  into = p.into;
}
  where
    next_made : (m : Mode) → p.row.mode ≡ m → IsToEqual c (Some a) there m p.row.number (p.g * 256) → IsToEqual c (Some b) there m p.row.number (p.g * 256)
    next_made Active is made = made
    next_made Passive is made = dirty p.row p.volume is made
    next_made Off is made = made

pub next_same_plan : NextSamePlan
next_same_plan c group there was next copies valid is are = record {
  each = λ one among. next_plan c group there was next one (λ row lp on. usable_stay group there was next row lp valid is on)
      (λ row volume soft marked. is.dirty row.number ∙ join (calls_dirty was.value row.number) (has_passive group row.number) marked (one_passive group.lvs row volume soft)) (are.each one among);
  all = λ one p. are.all one (next_plan c group there next was one (λ row lp on. sym (usable_stay group there was next row lp valid is on))
      (λ row volume soft marked. (split (calls_dirty was.value row.number) (has_passive group row.number) (sym (is.dirty row.number) ∙ marked)).0) p);
}

pub restated_may_equalise : RestatedMayEqualise
restated_may_equalise found group status there targets was copies device media told valid enough shows is planned same inside = record {
  may = record {
    media = media;
    told = told;
    valid = valid;
    enough = enough;
    shows = shows;
    none_behind = next_leaves_none (contents_of (image_of device.sizes media)) group there was shows.stands valid is;
  };
  planned = same_notes_same_plan found (contents_of (image_of device.sizes media)) group (Some shows.stands) there copies same (next_same_plan found group there was shows.stands copies valid is planned);
  targets_there = inside;
}
