-- What is kept while a group is made, and what its session then holds.
use Rattle.std.proofs.Common.{◌≡◌, ◌⊎◌, inl, inr, ⊎_elim, ℕ, ◌+◌, ◌*◌, ◌^◌, ◌<◌, ◌≤◌, Bool, true, false, ◌&&◌, not, List, [], ◌∷◌, ◌++◌, length, get_or, replicate, Option, Some, None, refl, sym, ap, subst, ◌∙◌, arith, length-append}
use Rattle.std.specs.Prelude.{nat_lt, nat_le, flat_map, IsTrue, IsFalse}
use Rattle.std.specs.Int.{w16, w64, to_be_bytes}
use Rattle.std.proofs.lemmas.Option.{same_Some}
use Rattle.std.proofs.lemmas.Bool.{eqb-true, eq-eqb, and_from, lt-ltb, le-leb}
use Rattle.std.proofs.lemmas.Bool.Decides.{nat_tests}
use Rattle.std.proofs.lemmas.List.{length-map}
use Rattle.lvm_num.specs.declared.record.Kind.{Kind}
use Rattle.lvm_num.specs.declared.record.Kind.TheVariants as kind
use Rattle.lvm_num.specs.declared.record.Stamp.{Stamp}
use Rattle.lvm_num.specs.declared.descriptor.Descriptor.{Descriptor}
use Rattle.lvm_num.specs.declared.descriptor.PvRow.{PvRow}
use Rattle.lvm_num.specs.declared.descriptor.LvRow.{LvRow}
use Rattle.lvm_num.specs.declared.status.Status.{Status}
use Rattle.lvm_num.specs.Descriptor.{IsValid, is_member}
use Rattle.lvm_num.specs.DescriptorBytes.{flag, descriptor_magic, descriptor_bytes, member_bytes, volume_bytes, partition_bytes}
use Rattle.lvm_num.specs.Geometry.{data_start}
use Rattle.lvm_num.specs.Name.{padded}
use Rattle.lvm_num.specs.Record.{Frames, Stamped, longest_content, stamp_lt}
use Rattle.lvm_num.specs.Status.{IsValidStatus, calls_missing}
use Rattle.lvm_num.specs.StatusBytes.{dirty_bytes, status_bytes}
use Rattle.lvm_num.proofs.NameLemmas.{length-name, length-padded}
use Rattle.lvm_vgda.proofs.DescriptorBytesLemmas.Whole.{spelled_is_read}
use Rattle.lvm_vgsa.proofs.StatusBytesLemmas.RoundTrip.{is_read_again}
use Rattle.lvm_vgsa.proofs.StatusBytesLemmas.Sizes.{length-status}
use Rattle.lvm_disk.specs.Device.{Media, Image, Device, image_of, HasSectors}
use Rattle.lvm_kept.specs.Contents.{Contents, contents_of, has_records}
use Rattle.lvm_disk.specs.Steps.{BothTold}
use Rattle.lvm_disk.specs.Paths.{DeviceStep, Path}
use Rattle.lvm_kept.specs.Plans.{ChangesBy}
use Rattle.lvm_steps.specs.Moments.{StaysKept}
use Rattle.lvm_steps.specs.Behind.{StampsBefore, beginning_at, StampsAreEarlier}
use Rattle.lvm_steps.proofs.LawsLemmas.Records.{session_may_go}
use Rattle.lvm_steps.proofs.LawsLemmas.Stamps.{before_is_behind}
use Rattle.lvm_rec.specs.declared.homes.Homes.{Homes}
use Rattle.lvm_write.specs.Homes.{SparesNewest}
use Rattle.lvm_write.specs.Written.{write_of, KeepsShelf}
use Rattle.lvm_write.proofs.ShowsLemmas.{descriptor_may_be_written, status_may_be_written}
use Rattle.lvm_write.specs.Beginning.{Beginning, describes, states, new_order, IsOfParts, AllStand, MayBeginNew}
use Rattle.lvm_write.specs.Ends.{BothFlip}
use Rattle.lvm_write.specs.Kept.{NewStaysKept}
use Rattle.lvm_write.specs.Newest.{FindsBeginning}
use Rattle.lvm_write.specs.Shown.{HasBegun}
use Rattle.lvm_write.proofs.ShownLemmas.Following.{stamps_are_of_beginning, targets_spare_newest}
use Rattle.lvm_write.proofs.NewestLemmas.{only_one, new_is_found, status_is_last}
use Rattle.lvm_write.proofs.ShownLemmas.Shown.{media_by, new_is_shown}
use Rattle.lvm_vol.specs.Log.{Log}
use Rattle.lvm_kept.specs.Torn.{written as as_read}
use Rattle.lvm_kept.specs.Group.{passes, is_of, has_room, descriptor_among, members_in, Finds}
use Rattle.lvm_kept.proofs.CommittedLemmas.Finding.{finding_reads, finds_from}
use Rattle.lvm_num.specs.Votes.{all_disks, votes_in}
use Rattle.lvm_num.proofs.VotesLemmas.{more_have_more, more_is_enough}
use Rattle.lvm_status.specs.Update.{Updates}
use Rattle.lvm_group.specs.passed.Core.{Room, NotesAreHome, StartsHeld, IsReservedFor}
use Rattle.lvm_group.specs.passed.Commit.{ShowsCommitted, HoldsCommitted}
use Rattle.lvm_group.specs.passed.SessionStart.{Parts, first_core}
use Rattle.lvm_group.specs.passed.Session.{Core, is_there}
use Rattle.lvm_group.proofs.passed.Commit.{shown_is_only}
use Rattle.lvm_group.proofs.passed.Core.{empty_names_none}
use Rattle.lvm_group.specs.NewGroup.{NewGroup, among, sectors_on, size_for, member_for, new_group, new_status, first_absent, first_too_small}
use Rattle.lvm_group.specs.Shown.{IfShown, HasGroup, ShowsEarlier, SparesTold}
use Rattle.lvm_group.specs.Made.{beginning_for}
use Rattle.lvm_group.proofs.NewGroupLemmas.Groups.{room_among, placed_among, member_among, nothing_missing, there_among, first_among}
use Rattle.lvm_group.proofs.ShownLemmas.{told_by, if_told}

-- a shelf that tells its media now told it before
was_told : (a b : Option Media) (R : Media → Media → Type 0) (is : Media) → BothTold a b R → b ≡ Some is → (was : Media) × (a ≡ Some was)
was_told None None R is both told = absurd cc
was_told None (Some n) R is both told = absurd both
was_told (Some m) b R is both told = (m, refl)

-- ---- the lengths of the records

rows_long : (rows : List PvRow) → length (flat_map member_bytes rows) ≡ 8 * length rows
rows_long [] = refl
rows_long (row ∷ rows) = let rest = rows_long rows in let both = length-append (member_bytes row) (flat_map member_bytes rows) in let one : length (member_bytes row) ≡ 8 = refl in omega (arith, rest, both, one)

joined_long : (a b c d e f g h i : List ℕ) → length ((((((((a ++ b) ++ c) ++ d) ++ e) ++ f) ++ g) ++ h) ++ i) ≡ length a + length b + length c + length d + length e + length f + length g + length h + length i
joined_long a b c d e f g h i =
    let one = length-append a b in
    let two = length-append (a ++ b) c in
    let three = length-append ((a ++ b) ++ c) d in
    let four = length-append (((a ++ b) ++ c) ++ d) e in
    let five = length-append ((((a ++ b) ++ c) ++ d) ++ e) f in
    let six = length-append (((((a ++ b) ++ c) ++ d) ++ e) ++ f) g in
    let seven = length-append ((((((a ++ b) ++ c) ++ d) ++ e) ++ f) ++ g) h in
    let eight = length-append (((((((a ++ b) ++ c) ++ d) ++ e) ++ f) ++ g) ++ h) i in
    omega (arith, one, two, three, four, five, six, seven, eight)

pub descriptor_fits : (g : Descriptor) → IsValid g → g.lvs ≡ [] → length g.pvs ≤ 32 → length (descriptor_bytes g) ≤ longest_content kind.Descriptor
descriptor_fits g valid none few =
    let head : List ℕ = descriptor_magic g.big ++ to_be_bytes w64 g.id in
    let flags : List ℕ = flag g.quorum ∷ (flag g.even ∷ []) in
    let volumes : List ℕ = flat_map volume_bytes g.lvs in
    let maps : List ℕ = flat_map (λ (row : LvRow). flat_map partition_bytes row.map) g.lvs in
    let all : length (descriptor_bytes g) ≡ 12 + length (padded g.name) + length (to_be_bytes w16 g.mib) + length flags + length (to_be_bytes w16 (length g.pvs)) + length (to_be_bytes w16 (length g.lvs)) + length (replicate {A = ℕ} 12 0) + length (flat_map member_bytes g.pvs) + length volumes + length maps =
    let joined = joined_long (padded g.name) (to_be_bytes w16 g.mib) flags (to_be_bytes w16 (length g.pvs)) (to_be_bytes w16 (length g.lvs)) (replicate {A = ℕ} 12 0) (flat_map member_bytes g.pvs) volumes maps in omega (arith, joined) in
    let rows = rows_long g.pvs in
    let name : length (padded g.name) ≡ 16 = length-padded g.name (let n = length-name g.name valid.head.name in omega (arith, n)) in
    let no_volumes : length volumes ≡ 0 = ap (λ (l : List LvRow). length (flat_map volume_bytes l)) none in
    let no_maps : length maps ≡ 0 = ap (λ (l : List LvRow). length (flat_map (λ (row : LvRow). flat_map partition_bytes row.map) l)) none in
    omega (arith, all, name, rows, no_volumes, no_maps, few)

pub status_fits : (s : Status) → IsValidStatus s → s.dirty ≡ [] → length s.rows ≤ 32 → length (status_bytes s) ≤ longest_content kind.Status
status_fits s valid none few = let long = length-status s valid in let dirty : length (dirty_bytes s.dirty) ≡ 0 = ap (λ (l : List ℕ). length (dirty_bytes l)) none in omega (arith, long, dirty, few)

-- ---- what the survey and the clock give

lt_stamp : (a : Stamp) (epoch seq : ℕ) → a.epoch < epoch → stamp_lt a (record { epoch = epoch; seq = seq }) ≡ true
lt_stamp a epoch seq lt = grind (arith, nat_tests)

no_volume : (rows : List LvRow) → ((rows ≡ [] → ⊥) → ⊥) → rows ≡ []
no_volume [] never = refl
no_volume (row ∷ rows) never = absurd (never (λ e. cc))

-- what is known of a new group before it is written to the disks of a shelf
pub record IsBeginning (w : NewGroup) (device : Device) (homes : Homes) : Type 0 where
  pub valid : IsValid (new_group device.sizes w)
  pub stated : IsValidStatus (new_status w)
  pub few : length w.disks ≤ 32
  pub small : w.moment < 2 ^ 64
  pub size : 1 ≤ size_for device.sizes w.disks w.mib
  pub there : first_absent device.sizes w.disks ≡ None
  pub fit : first_too_small device.sizes (size_for device.sizes w.disks w.mib) w.disks ≡ None
  pub free : IfShown device (λ c. HasGroup c w.force → ⊥)
  pub later : IfShown device (λ c. ShowsEarlier c w.moment)
  pub spares : SparesTold homes device
  pub whole : HasSectors device
  pub behind : StampsAreEarlier w.moment device

module _ (w : NewGroup) (device : Device) (homes : Homes) (its : IsBeginning w device homes) where
  abbrev pub b : Beginning
  b = beginning_for device.sizes w homes

  abbrev pub group : Descriptor
  group = new_group device.sizes w

  abbrev pub status : Status
  status = new_status w

  rows_few : length status.rows ≤ 32
  rows_few = its.stated.rows_fit

  -- a record of the group's beginning, under the moment at which it is made
  frames_at : (k : Kind) (seq : ℕ) (content : List ℕ) → 1 ≤ seq → seq < 2 ^ 32 → length content ≤ longest_content k → Frames k (record { stamp = record { epoch = w.moment; seq = seq }; content = content })
  frames_at k seq content some small fits = record { some_epoch = its.valid.head.some_id; epoch = its.small; some_seq = λ e. absurd (omega (arith, some, e)); seq = small; content = fits }

  pub describes_frames : Frames kind.Descriptor b.descriptor
  describes_frames = frames_at kind.Descriptor 2 b.descriptor.content (omega arith) (omega arith) (descriptor_fits group its.valid refl its.valid.head.members)

  pub states_frames : Frames kind.Status b.status
  states_frames = frames_at kind.Status 1 b.status.content (omega arith) (omega arith) (status_fits status its.stated refl rows_few)

  -- where the media is told
  module _ (media : Media) (told : device.media ≡ Some media) where
    abbrev pub image : Image
    image = image_of device.sizes media

    pub has_room_for : (d : ℕ) → among w.disks d ≡ true → has_records image d ≡ true
    has_room_for d target = let room = room_among device.sizes (size_for device.sizes w.disks w.mib) w.disks its.there its.fit d target in and_from (nat_lt d (length device.sizes)) (nat_le data_start (sectors_on device.sizes d)) (lt-ltb d (length device.sizes) room.0) (le-leb data_start (sectors_on device.sizes d) room.1)

    shown_before : ShowsEarlier (contents_of image) w.moment
    shown_before = told_by device.media (λ m. ShowsEarlier (contents_of (image_of device.sizes m)) w.moment) media told its.later

    none_in_group : HasGroup (contents_of image) w.force → ⊥
    none_in_group = told_by device.media (λ m. HasGroup (contents_of (image_of device.sizes m)) w.force → ⊥) media told its.free

    spared : (d : ℕ) → has_records image d ≡ true → SparesNewest homes image d
    spared = told_by device.media (λ m. (d : ℕ) → has_records (image_of device.sizes m) d ≡ true → SparesNewest homes (image_of device.sizes m) d) media told its.spares

    pub earlier_status : (d : ℕ) (r : Stamped Status) → (contents_of image).status d ≡ Some r → r.value.id ≡ group.id → stamp_lt r.stamp b.status.stamp ≡ true
    earlier_status d r on own = lt_stamp r.stamp w.moment 1 (shown_before r.stamp.epoch (inr (inr (d, r, on, refl))))

    pub may_begin : MayBeginNew b group status image
    may_begin = record {
      make = record {
        empty = λ d r on. no_volume r.value.lvs (λ some. none_in_group (record { disk = d; newest = r; on = on; with_force = λ force. some }));
        new_id = λ d r on same. let lt = shown_before r.value.id (inr (inl (d, r, on, refl))) in absurd (omega (arith, lt, same));
        no_volume = refl;
        a_member = its.valid.head.a_member;
      };
      describe = descriptor_may_be_written b.descriptor group (among w.disks) homes image describes_frames (spelled_is_read group its.valid) (λ d target.
          let room = has_room_for d target in
          (room, spared d room, session_may_go (write_of kind.Descriptor b.descriptor (among w.disks) homes) w.moment device media d told its.whole its.behind (omega arith) room));
      state = status_may_be_written b.status status (among w.disks) homes image states_frames (is_read_again status its.stated) (λ d target.
          let room = has_room_for d target in
          (room, spared d room, session_may_go (write_of kind.Status b.status (among w.disks) homes) w.moment device media d told its.whole its.behind (omega arith) room));
      unused = λ d r on own same. let lt = shown_before r.stamp.epoch (inr (inr (d, r, on, refl))) in let e = ap (λ (s : Stamp). s.epoch) same in absurd (omega (arith, lt, e));
    }

  -- at each moment of the writes what was kept is kept
  pub path_kept : (new : Device) → NewStaysKept b device new → Path DeviceStep (StaysKept device) device new
  path_kept new kept = kept group status (if_told device.media (λ media. MayBeginNew b group status (image_of device.sizes media)) (λ media told. may_begin media told))

  pub stamps_then : (new : Device) → KeepsShelf (among w.disks) (IsOfParts b new_order) device new → (is : Media) → new.media ≡ Some is → StampsBefore (record { epoch = w.moment; seq = 3 }) (image_of new.sizes is)
  stamps_then new keeps is told_new =
      let was = was_told device.media new.media (λ m n. ChangesBy (IsOfParts b new_order) (image_of device.sizes m) (image_of new.sizes n)) is keeps.media told_new in
      stamps_are_of_beginning b new_order (image_of device.sizes was.0) (image_of new.sizes is) describes_frames states_frames (refl, omega arith) (refl, omega arith) (media_by b new_order device new was.0 is was.1 told_new keeps)
      (told_by device.media (λ m. StampsBefore (beginning_at w.moment) (image_of device.sizes m)) was.0 was.1 its.behind)

  -- whatever became of them, what stands there is of this session or of earlier ones
  pub then_behind : (new : Device) → KeepsShelf (among w.disks) (IsOfParts b new_order) device new → StampsAreEarlier (w.moment + 1) new
  then_behind new keeps = before_is_behind (record { epoch = w.moment; seq = 3 }) (w.moment + 1) new (omega arith)
      (if_told new.media (λ is. StampsBefore (record { epoch = w.moment; seq = 3 }) (image_of new.sizes is)) (λ is told_new. stamps_then new keeps is told_new))

-- ---- what its session holds

module _ (w : NewGroup) (device : Device) (homes : Homes) (its : IsBeginning w device homes) (new : Device)
    (keeps : KeepsShelf (among w.disks) (IsOfParts (beginning_for device.sizes w homes) new_order) device new)
    (stand : AllStand (beginning_for device.sizes w homes) new_order new) (room : Room) (r : Parts) (parts : IsReservedFor (new_group device.sizes w) (new_status w) room r)
    (next : Homes) (flips : BothFlip (among w.disks) homes next) (log : Log) where
  abbrev pub core : Core
  core = first_core r log (record { epoch = w.moment; seq = 2 }) next []

  wanted_is : r.updater.wanted ≡ new_status w
  wanted_is = ap (λ (u : Updates). u.wanted) parts.status

  there_is : (d : ℕ) → is_there core d ≡ among w.disks d
  there_is d =
      ap (λ (g : Descriptor). is_member g d && not (calls_missing r.updater.wanted d)) parts.descriptor
      ∙ ap (λ (s : Status). is_member (new_group device.sizes w) d && not (calls_missing s d)) wanted_is
      ∙ ap (λ b. is_member (new_group device.sizes w) d && not b) (nothing_missing w.disks w.moment d)
      ∙ and_true (is_member (new_group device.sizes w) d)
      ∙ member_among device.sizes w.name (size_for device.sizes w.disks w.mib) w.disks w.moment d
    where
      and_true : (b : Bool) → (b && true) ≡ b
      and_true true = refl
      and_true false = refl

  module _ (media is : Media) (told : device.media ≡ Some media) (told_new : new.media ≡ Some is) where
    abbrev shown : Contents
    shown = contents_of (image_of new.sizes is)

    abbrev started : Beginning
    started = beginning_for device.sizes w homes

    may : MayBeginNew started (new_group device.sizes w) (new_status w) (image_of device.sizes media)
    may = may_begin w device homes its media told

    begun : HasBegun started true (new_group device.sizes w) (new_status w) (contents_of (image_of device.sizes media)) shown
    begun = new_is_shown started (new_group device.sizes w) (new_status w) device new media is its.small told told_new may keeps stand

    finds : FindsBeginning started (new_group device.sizes w) (new_status w) (among w.disks) shown
    finds = new_is_found started (new_group device.sizes w) (new_status w) (image_of device.sizes media) shown may begun refl
        (λ d member. sym (member_among device.sizes w.name (size_for device.sizes w.disks w.mib) w.disks w.moment d) ∙ member)
        (λ d target. placed_among device.sizes w.name (size_for device.sizes w.disks w.mib) w.disks w.moment its.size its.there its.fit d target)

    target : (d : ℕ) → IsTrue (is_there core d) → IsTrue (among w.disks d)
    target d on = sym (there_is d) ∙ on

    abbrev newest : Stamped Descriptor
    newest = as_read (describes started) (new_group device.sizes w)

    -- no other descriptor of the group is shown
    only_new : (d : ℕ) (found : Stamped Descriptor) → shown.descriptor d ≡ Some found → found.value.id ≡ w.moment → found ≡ newest
    only_new d found on own = ⊎_elim
        (λ (named : IsTrue (among w.disks d)). same_Some found newest (sym on ∙ begun.described d named))
        (λ (other : IsFalse (among w.disks d)). absurd (may.make.new_id d found (sym (begun.others d other).0 ∙ on) own))
        (on_or_off (among w.disks d))
      where
        on_or_off : (t : Bool) → IsTrue t ⊎ IsFalse t
        on_or_off true = inl refl
        on_or_off false = inr refl

    first_there : among w.disks (get_or w.disks 0 0) ≡ true
    first_there = first_among w.disks (let one = its.valid.head.a_member in omega (arith, one, length-map w.disks (member_for device.sizes (size_for device.sizes w.disks w.mib))))

    all_find_it : descriptor_among shown all_disks w.moment ≡ Some newest
    unfolding descriptor_among
    all_find_it =
        let d : ℕ = get_or w.disks 0 0 in
        let lt : d < length device.sizes = there_among device.sizes w.disks its.there d first_there in
        let same = ap (λ (l : List ℕ). length l) keeps.sizes in
        only_one (is_of w.moment) shown.descriptor all_disks newest shown.disks d (omega (arith, lt, same)) refl (begun.described d first_there) (eq-eqb w.moment w.moment refl)
        (λ e found is shows its_id. only_new e found shows (eqb-true found.value.id w.moment its_id))

    found_by_all : Finds shown all_disks w.moment (new_group device.sizes w)
    found_by_all =
        let reads = finding_reads shown (among w.disks) w.moment (new_group device.sizes w) finds.newest.found in
        finds_from shown all_disks w.moment newest all_find_it
        (more_is_enough.read (new_group device.sizes w) (votes_in (new_group device.sizes w) (members_in shown (among w.disks) w.moment (new_group device.sizes w))) (votes_in (new_group device.sizes w) (members_in shown all_disks w.moment (new_group device.sizes w)))
        (more_have_more (new_group device.sizes w) (members_in shown (among w.disks) w.moment (new_group device.sizes w)) (members_in shown all_disks w.moment (new_group device.sizes w))
        (λ e member is_in. among_all (among w.disks e) (passes (is_of w.moment) (shown.descriptor e)) (has_room shown e (new_group device.sizes w)) is_in)) reads.reads.enough)
      where
        among_all : (a b c : Bool) → IsTrue ((a && b) && c) → IsTrue ((true && b) && c)
        among_all true b c is = is
        among_all false b c is = absurd cc

    room_for_parts : (d : ℕ) → IsTrue (among w.disks d) → IsTrue (has_room shown d (new_group device.sizes w))
    room_for_parts d named = subst (λ (l : List ℕ). IsTrue (has_room (contents_of (image_of l is)) d (new_group device.sizes w))) (sym keeps.sizes)
        (placed_among device.sizes w.name (size_for device.sizes w.disks w.mib) w.disks w.moment its.size its.there its.fit d named)

    shows : ShowsCommitted shown core.descriptor core.status.committed (is_there core)
    shows = record {
      found = subst (λ (g : Descriptor). Finds shown all_disks g.id g) (sym parts.descriptor) found_by_all;
      only = shown_is_only shown core.descriptor (λ d found on own. ap (λ (r : Stamped Descriptor). r.value) (only_new d found on (own ∙ ap (λ (g : Descriptor). g.id) parts.descriptor)) ∙ sym parts.descriptor);
      descriptor = newest;
      value = sym parts.descriptor;
      latest = λ d found on own. inr (only_new d found on (own ∙ ap (λ (g : Descriptor). g.id) parts.descriptor));
      described = λ d on. begun.described d (target d on);
      room = λ d on. subst (λ (g : Descriptor). IsTrue (has_room shown d g)) (sym parts.descriptor) (room_for_parts d (target d on));
      own = ap (λ (u : Updates). u.committed.id) parts.status ∙ sym (ap (λ (g : Descriptor). g.id) parts.descriptor);
      stands = as_read (states started) (new_status w);
      committed = sym (ap (λ (u : Updates). u.committed) parts.status);
      stated = λ d on. begun.stated d (target d on);
      last = λ d found on own. status_is_last started true (new_group device.sizes w) (new_status w) (contents_of (image_of device.sizes media)) shown begun (earlier_status w device homes its media told) d found on
          (own ∙ ap (λ (g : Descriptor). g.id) parts.descriptor);
    }

    -- the notes are emptied, and the cache is empty
    pub forgotten : NotesAreHome core (image_of new.sizes is)
    forgotten d lv track_group on = begun.forgotten refl d (target d on) lv track_group ∙ sym (empty_names_none (new_group device.sizes w) r.cache parts.cache d lv track_group)

    pub holds : HoldsCommitted (image_of new.sizes is) core.descriptor core.status.committed (is_there core) core.status.stamp core.homes
    holds = record {
      shows = shows;
      stamps = stamps_then w device homes its new keeps is told_new;
      there = λ d on. subst (λ (l : List ℕ). has_records (image_of l is) d ≡ true) (sym keeps.sizes) (has_room_for w device homes its media told d (target d on));
      homes = λ d on. targets_spare_newest started (new_group device.sizes w) (new_status w) new_order next device new media is told told_new may.describe may.state keeps flips d (target d on) (stand.1.1.0 d (target d on)) (stand.1.0 d (target d on));
    }

  pub starts_held : StartsHeld new core
  starts_held = record {
    held = if_told new.media (λ is. HoldsCommitted (image_of new.sizes is) core.descriptor core.status.committed (is_there core) core.status.stamp core.homes) (λ is told_new.
        let was = before is told_new in
        holds was.0 is was.1 told_new);
    notes = if_told new.media (λ is. NotesAreHome core (image_of new.sizes is)) (λ is told_new.
        let was = before is told_new in
        forgotten was.0 is was.1 told_new);
  }
    where
      before : (is : Media) → new.media ≡ Some is → (m : Media) × (device.media ≡ Some m)
      before is told_new = was_told device.media new.media (λ m n. ChangesBy (IsOfParts (beginning_for device.sizes w homes) new_order) (image_of device.sizes m) (image_of new.sizes n)) is keeps.media told_new
