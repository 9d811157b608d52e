-- What the choice and the clock say of the writes of a varyon: they may be made.
use Rattle.std.proofs.Common.{◌≡◌, ◌≢◌, ◌⊎◌, inl, inr, ⊎_elim, ℕ, ◌<◌, ◌≤◌, Bool, true, false, ◌&&◌, ◌==◌, List, length, Option, Some, None, refl, sym, ap, subst, ◌∙◌, arith, ◌||◌, ◌∷◌, [], eq-eqb}
use Rattle.std.specs.Prelude.{IsTrue, ◌^◌, nat_lt, nat_le, slice_get, slice_index_or, option_and_then, option_map, unwrap_or, IfSome}
use Rattle.std.specs.List.{list_any}
use Rattle.std.proofs.lemmas.Bool.Decides.{nat_tests}
use Rattle.std.proofs.lemmas.Option.{slice_get_within, get_or_from_slice_get}
use Rattle.std.proofs.lemmas.Bool.{and_from, lt-ltb}
use Rattle.lvm_num.specs.declared.record.Kind.TheVariants as kind
use Rattle.lvm_num.specs.declared.record.Framed.{Framed}
use Rattle.lvm_num.specs.declared.descriptor.Mode.TheVariants.{Passive}
use Rattle.lvm_num.specs.declared.descriptor.PvRow.{PvRow}
use Rattle.lvm_num.specs.declared.descriptor.LvRow.{LvRow}
use Rattle.lvm_num.specs.declared.descriptor.Descriptor.{Descriptor}
use Rattle.lvm_num.specs.declared.status.Status.{Status}
use Rattle.lvm_num.specs.Disks.{Disks, has}
use Rattle.lvm_num.specs.Descriptor.{IsValid}
use Rattle.lvm_num.specs.DescriptorBytes.{descriptor_of, descriptor_bytes}
use Rattle.lvm_num.specs.Geometry.{data_start, sectors_needed}
use Rattle.lvm_num.specs.StatusBytes.{status_of, status_bytes}
use Rattle.lvm_num.specs.Record.{Stamped}
use Rattle.lvm_num.specs.Status.{calls_dirty}
use Rattle.lvm_num.specs.Votes.{all_disks}
use Rattle.lvm_num.proofs.Booleans.{clash}
use Rattle.lvm_disk.specs.Device.{Media, Image, Device, image_of, HasSectors, IsWholeImage}
use Rattle.lvm_kept.specs.Contents.{Contents, contents_of, has_records}
use Rattle.lvm_kept.specs.Group.{passes, is_of, has_room, descriptor_among, is_voter, status_among, Finds, fresh_on, IsOneOf, IsSome}
use Rattle.lvm_kept.specs.Torn.{MayWriteAll}
use Rattle.lvm_steps.specs.VaryingOn.{CarriesMarks}
use Rattle.lvm_steps.specs.Behind.{StampsBefore, StampsAreEarlier}
use Rattle.lvm_steps.specs.Laws.{ShowsBefore}
use Rattle.lvm_steps.proofs.LawsLemmas.Stamps.{behind_is_before}
use Rattle.lvm_steps.proofs.LawsLemmas.Records.{shown_is_before, session_may_go}
use Rattle.lvm_vgda.proofs.DescriptorBytesLemmas.Whole.{spelled_is_read}
use Rattle.lvm_vgsa.proofs.StatusBytesLemmas.RoundTrip.{is_read_again}
use Rattle.lvm_write.specs.Homes.{SparesNewest}
use Rattle.lvm_write.specs.Written.{write_of, HaveRoom}
use Rattle.lvm_write.proofs.ShowsLemmas.{descriptor_may_be_written, status_may_be_written}
use Rattle.lvm_quorum.specs.declared.row.SurveyRow.{SurveyRow}
use Rattle.lvm_quorum.specs.declared.row.Survey.{Survey}
use Rattle.lvm_quorum.specs.Surveyed.{surveyed}
use Rattle.lvm_quorum.specs.Reading.{under}
use Rattle.lvm_varyon.specs.passed.Core.{Room}
use Rattle.lvm_write.specs.Beginning.{Beginning, describes, states, MayBeginAgain}
use Rattle.lvm_write.specs.Next.{IsNextStatus, has_passive}
use Rattle.lvm_num.specs.Modes.{is_passive}
use Rattle.lvm_write.proofs.NextLemmas.{copy_is_placed, is_member_of}
use Rattle.lvm_varyon.specs.declared.plan.Plan.{Plan}
use Rattle.lvm_varyon.specs.Found.{records_on}
use Rattle.lvm_varyon.specs.Chosen.{MayComeOn}
use Rattle.lvm_varyon.specs.Planned.{IsPlan}
use Rattle.lvm_varyon.specs.Parts.{IsSurveyOf}
use Rattle.lvm_varyon.specs.Writing.{beginning}
use Rattle.lvm_varyon.proofs.FoundLemmas.Seeing.{answered_by, read_row, shows_records, row_answers, enough_is}
use Rattle.lvm_varyon.proofs.GroupLemmas.{same_voters, same_status, holds_finds}
use Rattle.lvm_varyon.proofs.DescriptorLemmas.{one_place}
use Rattle.lvm_varyon.proofs.passed.Core.{descriptor_fits}
use Rattle.lvm_varyon.proofs.RecordLemmas.{status_fits}

-- a voter shows the group's descriptor, and has the room that it needs
pub voter_shows : (c : Contents) (disks : Disks) (id d : ℕ) → IsTrue (is_voter c disks id d) → IsTrue (passes (is_of id) (c.descriptor d))
unfolding is_voter
voter_shows c disks id d e = second (disks d) (passes (is_of id) (c.descriptor d)) (passes (has_room c d) (descriptor_among c disks id)) e
  where
    second : (a b e : Bool) → a && b && e ≡ true → b ≡ true
    second true true e is = refl
    second true false e is = absurd cc
    second false b e is = absurd cc

voter_room : (c : Contents) (id : ℕ) (newest : Stamped Descriptor) (group : Descriptor) → descriptor_among c all_disks id ≡ Some newest → newest.value ≡ group → (d : ℕ) → IsTrue (is_voter c all_disks id d) → IsTrue (has_room c d group)
unfolding is_voter
voter_room c id newest group found same d e =
    subst (λ (g : Descriptor). IsTrue (has_room c d g)) same
    (subst (λ (o : Option (Stamped Descriptor)). IsTrue (passes (has_room c d) o)) found (third (passes (is_of id) (c.descriptor d)) (passes (has_room c d) (descriptor_among c all_disks id)) e))
  where
    third : (a b : Bool) → a && b ≡ true → b ≡ true
    third true b is = is
    third false b is = absurd cc

-- room for partitions is room for records
room_enough : (mib : ℕ) (rows : List PvRow) (d size : ℕ) → list_any (λ (row : PvRow). row.disk == d && nat_le (sectors_needed mib row.pps) size) rows ≡ true → data_start ≤ size
room_enough mib [] d size e = absurd cc
room_enough mib (row ∷ rows) d size e = by_test (row.disk == d) (nat_le (sectors_needed mib row.pps) size) refl e (room_enough mib rows d size)
  where
    large : nat_le (sectors_needed mib row.pps) size ≡ true → data_start ≤ size
    large le = let n : sectors_needed mib row.pps ≤ size = grind (arith, nat_tests) in omega (arith, n)

    by_test : (a b : Bool) → nat_le (sectors_needed mib row.pps) size ≡ b → (a && b) || list_any (λ (r : PvRow). r.disk == d && nat_le (sectors_needed mib r.pps) size) rows ≡ true
        → (list_any (λ (r : PvRow). r.disk == d && nat_le (sectors_needed mib r.pps) size) rows ≡ true → data_start ≤ size) → data_start ≤ size
    by_test true true is e rest = large is
    by_test true false is e rest = rest e
    by_test false b is e rest = rest e

passive_row : (rows : List LvRow) (row : LvRow) → IsOneOf rows row → row.mode ≡ Passive → list_any (λ (r : LvRow). r.number == row.number && is_passive r.mode) rows ≡ true
passive_row [] row is passive = absurd is
passive_row (r ∷ rs) row (inl same) passive = or_left (r.number == row.number && is_passive r.mode) (list_any (λ (x : LvRow). x.number == row.number && is_passive x.mode) rs)
    (subst (λ (x : LvRow). (x.number == row.number && is_passive x.mode) ≡ true) same (ap (λ (b : Bool). b && is_passive row.mode) (eq-eqb row.number row.number refl) ∙ ap is_passive passive))
  where
    or_left : (a b : Bool) → a ≡ true → (a || b) ≡ true
    or_left true b e = refl
    or_left false b e = absurd cc
passive_row (r ∷ rs) row (inr there) passive = or_right (r.number == row.number && is_passive r.mode) (list_any (λ (x : LvRow). x.number == row.number && is_passive x.mode) rs) (passive_row rs row there passive)
  where
    or_right : (a b : Bool) → b ≡ true → (a || b) ≡ true
    or_right true b e = refl
    or_right false b e = e

-- the next status carries the marks that it must, and no more than it may
pub carries : (c : Contents) (group : Descriptor) (disks : Disks) (was : Stamped Status) (next : Status) → IsValid group → IsNextStatus group (is_voter c disks group.id) was next
    → status_among c disks group.id ≡ Some was → CarriesMarks c group disks was.value next
carries c group disks was next valid is found = record {
  stale = λ row lp p volume one marked. (is.stale p (is_member_of group p (copy_is_placed group valid row lp p volume one))).1 (inl marked);
  dirty = λ row volume passive marked. is.dirty row.number ∙ and_from (calls_dirty was.value row.number) (has_passive group row.number) marked (passive_row group.lvs row volume passive);
  only = λ row lp p volume one marked. ⊎_elim
      (λ was_so. inl was_so)
      (λ left. inr (
        left.absent,
        let same = one_place group valid left.row row left.lp lp p left.volume volume left.one one in
            subst (λ (o : Option (Stamped Status)). IsSome (fresh_on (is_voter c disks group.id) o row lp)) (sym found)
            (subst (λ (r : LvRow). IsSome (fresh_on (is_voter c disks group.id) (Some was) r lp)) same.0
            (subst (λ (n : ℕ). IsSome (fresh_on (is_voter c disks group.id) (Some was) left.row n)) same.1 left.other)),
      ))
      ((is.stale p (is_member_of group p (copy_is_placed group valid row lp p volume one))).0 marked);
}

-- ---- by the survey and the plan

module _ (old read : Device) (survey : Survey) (is : IsSurveyOf old read survey) (name : List ℕ) (moment : ℕ) (some : moment ≢ 0) (room : Room) (plan : Plan) (by : IsPlan survey name moment room plan) where
  group : Descriptor
  group = by.group

  newest_is : descriptor_among (surveyed survey) all_disks by.group.id ≡ Some by.chosen.holds.newest
  newest_is = by.chosen.holds.only.newest

  pub target_is : (d : ℕ) → IsTrue (has plan.targets d) → IsTrue (is_voter (surveyed survey) all_disks by.group.id d)
  target_is d target = sym (by.targets d) ∙ target

  -- a target has the sectors that its partitions need
  pub target_room : (d : ℕ) → IsTrue (has plan.targets d) → IsTrue (has_room (surveyed survey) d by.group)
  target_room d target = voter_room (surveyed survey) by.group.id by.chosen.holds.newest by.group newest_is by.chosen.holds.is d (target_is d target)

  pub target_row : (d : ℕ) → IsTrue (has plan.targets d) → (row : SurveyRow) × (slice_get survey.rows d ≡ Some row) × (row.failed ≡ false) × (data_start ≤ row.sectors)
  target_row d target = by_row (slice_get survey.rows d) refl (voter_shows (surveyed survey) all_disks by.group.id d (target_is d target)) (target_room d target)
    where
      shows : Option SurveyRow → Option (Stamped Descriptor)
      shows o = option_and_then (λ (row : SurveyRow). under row.descriptor row.descriptor_stamp) o

      size : Option SurveyRow → ℕ
      size o = unwrap_or (option_map (λ (row : SurveyRow). row.sectors) o) 0

      by_row : (o : Option SurveyRow) → slice_get survey.rows d ≡ o → IsTrue (passes (is_of by.group.id) (option_and_then (λ (row : SurveyRow). under row.descriptor row.descriptor_stamp) o))
          → IsTrue (list_any (λ (row : PvRow). row.disk == d && nat_le (sectors_needed by.group.mib row.pps) (unwrap_or (option_map (λ (row : SurveyRow). row.sectors) o) 0)) by.group.pvs)
          → (row : SurveyRow) × (slice_get survey.rows d ≡ Some row) × (row.failed ≡ false) × (data_start ≤ row.sectors)
      by_row None at shown room = absurd cc
      by_row (Some row) at shown room = (row, at, by_failed row.failed refl, room_enough by.group.mib by.group.pvs d row.sectors room)
        where
          by_failed : (t : Bool) → row.failed ≡ t → t ≡ false
          by_failed false e = refl
          by_failed true e = absurd (let none = ((is.each d row at).empty e).descriptor in
              let gone : passes (is_of by.group.id) (under row.descriptor row.descriptor_stamp) ≡ false = ap (λ (o : Option Descriptor). passes (is_of by.group.id) (under o row.descriptor_stamp)) none in
              clash (passes (is_of by.group.id) (under row.descriptor row.descriptor_stamp)) shown gone)

  pub target_answers : (d : ℕ) → IsTrue (has plan.targets d) → IsTrue (answered_by survey d)
  target_answers d target = let r = target_row d target in row_answers survey d r.0 r.1 r.2 r.3

  pub targets_have_room : HaveRoom read (has plan.targets)
  targets_have_room d target =
      let r = target_row d target in
      (r.0.sectors, ap (λ (sizes : List ℕ). slice_get sizes d) is.unwritten.sizes ∙ (is.each d r.0 r.1).sectors, r.3)

  module _ (media : Media) (told : old.media ≡ Some media) where
    shown : surveyed survey ≡ records_on (answered_by survey) (contents_of (image_of old.sizes media))
    shown = shows_records old read survey is media told

    pub voters_are : has plan.targets ≡ is_voter (contents_of (image_of old.sizes media)) (answered_by survey) by.group.id
    voters_are = (λ i d. by.targets d i) ∙ ap (λ (c : Contents). is_voter c all_disks by.group.id) shown ∙ same_voters (answered_by survey) (contents_of (image_of old.sizes media)) by.group.id

    pub chosen : MayComeOn (records_on (answered_by survey) (contents_of (image_of old.sizes media))) name moment by.group by.was
    chosen = subst (λ (c : Contents). MayComeOn c name moment by.group by.was) shown by.chosen

    pub finds : Finds (contents_of (image_of old.sizes media)) (answered_by survey) by.group.id by.group
    finds = holds_finds (answered_by survey) (contents_of (image_of old.sizes media)) name by.group by.was chosen.holds

    pub was_found : status_among (contents_of (image_of old.sizes media)) (answered_by survey) by.group.id ≡ Some by.was
    was_found = sym (same_status (answered_by survey) (contents_of (image_of old.sizes media)) by.group.id) ∙ chosen.holds.only.found

    image : Image
    image = image_of old.sizes media

    there : (d : ℕ) → IsTrue (has plan.targets d) → has_records (image_of old.sizes media) d ≡ true
    there d target =
        let r = target_row d target in
        and_from (nat_lt d (length old.sizes)) (nat_le data_start (slice_index_or old.sizes d 0))
        (lt-ltb d (length old.sizes) (slice_get_within old.sizes d r.0.sectors (is.each d r.0 r.1).sectors))
        (ap (nat_le data_start) (get_or_from_slice_get old.sizes d r.0.sectors 0 (is.each d r.0 r.1).sectors) ∙ enough_is r.0.sectors r.3)

    pub spared : (d : ℕ) → IsTrue (has plan.targets d) → SparesNewest plan.homes (image_of old.sizes media) d
    spared d target =
        let r = target_row d target in
        by.homes (image_of old.sizes media) d r.0 r.1 (read_row old read survey is media told d r.0 r.1 r.2) (there d target)

    module _ (whole : HasSectors old) (behind : StampsAreEarlier moment old) where
      b : Beginning
      b = beginning moment by.group by.next (has plan.targets) plan.homes

      all_whole : IsWholeImage (image_of old.sizes media)
      all_whole = subst (λ (o : Option Media). IfSome o (λ m. IsWholeImage (image_of old.sizes m))) told whole

      low : moment < 2 ^ 64
      low = let early = by.chosen.early in omega (arith, early)

      before : (seq : ℕ) → StampsBefore (record { epoch = moment; seq = seq }) (image_of old.sizes media)
      before seq = subst (λ (o : Option Media). IfSome o (λ m. StampsBefore (record { epoch = moment; seq = seq }) (image_of old.sizes m))) told (behind_is_before (record { epoch = moment; seq = seq }) old behind)

      shown_before : (seq : ℕ) → ShowsBefore (record { epoch = moment; seq = seq }) (contents_of (image_of old.sizes media))
      shown_before seq = shown_is_before (record { epoch = moment; seq = seq }) (image_of old.sizes media) all_whole (before seq)

      descriptor_may : MayWriteAll Descriptor descriptor_of (describes (beginning moment by.group by.next (has plan.targets) plan.homes)) by.group (image_of old.sizes media)
      descriptor_may =
          let framed : Framed = record { stamp = record { epoch = moment; seq = 1 }; content = descriptor_bytes by.group } in
          descriptor_may_be_written framed by.group (has plan.targets) plan.homes (image_of old.sizes media)
          (record { some_epoch = some; epoch = low; some_seq = λ e. absurd (omega (arith, e)); seq = omega arith; content = descriptor_fits by.group by.valid })
          (spelled_is_read by.group by.valid)
          (λ d target. (there d target, spared d target, session_may_go (write_of kind.Descriptor framed (has plan.targets) plan.homes) moment old media d told whole behind (omega arith) (there d target)))

      status_may : MayWriteAll Status status_of (states (beginning moment by.group by.next (has plan.targets) plan.homes)) by.next (image_of old.sizes media)
      status_may =
          let framed : Framed = record { stamp = record { epoch = moment; seq = 2 }; content = status_bytes by.next } in
          status_may_be_written framed by.next (has plan.targets) plan.homes (image_of old.sizes media)
          (record { some_epoch = some; epoch = low; some_seq = λ e. absurd (omega (arith, e)); seq = omega arith; content = status_fits by.next by.next_is.valid })
          (is_read_again by.next by.next_is.valid)
          (λ d target. (there d target, spared d target, session_may_go (write_of kind.Status framed (has plan.targets) plan.homes) moment old media d told whole behind (omega arith) (there d target)))

      pub may_begin : MayBeginAgain (beginning moment by.group by.next (has plan.targets) plan.homes) false by.group by.next (answered_by survey) by.was (image_of old.sizes media)
      may_begin = record {
        members = by.valid.head.a_member;
        found = finds;
        was_found = was_found;
        voters = λ d voter. ap (λ (vs : Disks). vs d) voters_are ∙ voter;
        restamp = record {
          value = refl;
          found = (answered_by survey, finds);
          showing = λ d target. voter_shows (contents_of (image_of old.sizes media)) (answered_by survey) by.group.id d (sym (ap (λ (vs : Disks). vs d) voters_are) ∙ target);
          later = λ d r shows its. (shown_before 1).descriptors d r shows;
        };
        describe = descriptor_may;
        own = by.next_is.id;
        marks = carries (contents_of (image_of old.sizes media)) by.group (answered_by survey) by.was by.next by.valid (subst (λ (vs : Disks). IsNextStatus by.group vs by.was by.next) voters_are by.next_is) was_found;
        state = status_may;
        later = λ d r shows its. (shown_before 2).statuses d r shows;
        quiet = λ e. absurd cc;
      }
