-- Small groups in the making.
use Rattle.std.proofs.Common.{◌≡◌, ◌⊎◌, inl, inr, ℕ, Bool, true, false, [], Some, None, refl, sym, ap, ◌∙◌, arith}
use Rattle.std.specs.Prelude.{IsTrue, ◌==◌, ◌&&◌, if◌then◌else◌}
use Rattle.std.proofs.lemmas.Option.{same_Some, none-some}
use Rattle.std.proofs.lemmas.Bool.{eqb-true}
use Rattle.lvm_num.specs.declared.descriptor.Descriptor.{Descriptor}
use Rattle.lvm_num.specs.Disks.{Disks}
use Rattle.lvm_num.specs.Record.{Stamped, newest_below}
use Rattle.lvm_num.specs.Votes.{all_disks, votes_by}
use Rattle.lvm_num.proofs.RecordLemmas.Newest.{is_one}
use Rattle.lvm_kept.specs.Group.{passes, is_of, has_room, descriptor_among, is_voter, has_quorum, Finds, ReadsGroup}
use Rattle.lvm_kept.specs.Kept.{Kept}
use Rattle.lvm_kept.specs.Examples.{stamped, three, only}
use Rattle.lvm_kept.proofs.CommittedLemmas.Finding.{offered, is_offered}
use Rattle.lvm_steps.specs.Making.{MayMake}
use Rattle.lvm_steps.specs.WorkedMaking.{four_blank, status_of_three, half_stated, half_described, other_two, overwritten, left_over, with_left_over, newcomer, of_one_id, WorkedMaking}
use Rattle.lvm_steps.proofs.MakingLemmas.NoVolumes.{empty_kept, statuses_may_change, descriptors_may_change}
use Rattle.lvm_steps.proofs.RecordLemmas.{first}

-- ---- nothing is shown

finds_nothing : (disks : Disks) (id : ℕ) (g : Descriptor) → Finds four_blank disks id g → ⊥
unfolding descriptor_among
finds_nothing disks id g f =
    let one = is_one Descriptor (offered (is_of id) four_blank.descriptor disks) four_blank.disks f.newest f.found in
    none-some f.newest (is_offered (is_of id) four_blank.descriptor disks one.0 f.newest one.2).0

pub blank : Kept four_blank []
blank = empty_kept four_blank [] (λ d r shows. absurd (none-some r shows)) (record {
  unsettled = λ lv settled. absurd cc;
  raw = λ d b there none low high. tt;
  common = λ a b id g h r s. absurd (finds_nothing r.found.0 id g r.found.1);
  size = λ id g h f k. absurd (finds_nothing f.0 id g f.1);
  partitions = λ id g h f k. absurd (finds_nothing f.0 id g f.1);
  descriptors = λ d e r s shows. absurd (none-some r shows);
  statuses = λ d e r s shows. absurd (none-some r shows);
})

-- ---- a status, and a descriptor

may_three : MayMake half_stated three
may_three = record { empty = λ d r shows. absurd (none-some r shows); new_id = λ d r shows. absurd (none-some r shows); no_volume = refl; a_member = omega arith }

stated : Kept half_stated []
stated = statuses_may_change three all_disks status_of_three four_blank half_stated []
    (record { empty = λ d r shows. absurd (none-some r shows); new_id = λ d r shows. absurd (none-some r shows); no_volume = refl; a_member = omega arith })
    (λ d r shows. absurd (none-some r shows))
    (record { own = λ d. by_tests (d == 2) (d == 3); rest = refl })
    blank
  where
    by_tests : (s t : Bool) → ((if s then None else (if t then None else Some status_of_three)) ≡ None) ⊎ (IsTrue true × ((if s then None else (if t then None else Some status_of_three)) ≡ Some status_of_three))
    by_tests true t = inl refl
    by_tests false true = inl refl
    by_tests false false = inr (refl, refl)

described : Kept half_described []
described = descriptors_may_change three all_disks (stamped 2 three) half_stated half_described [] may_three refl (record { own = λ d. by_test (d == 2); rest = refl }) stated
  where
    by_test : (t : Bool) → ((if t then Some (stamped 2 three) else None) ≡ None) ⊎ (IsTrue true × ((if t then Some (stamped 2 three) else None) ≡ Some (stamped 2 three)))
    by_test true = inr (refl, refl)
    by_test false = inl refl

-- ---- by force

-- what the third disk shows is group 50 without a volume
pub shows_three : (t : Bool) (r : Stamped Descriptor) → (if t then Some (stamped 2 three) else None) ≡ Some r → r ≡ stamped 2 three
shows_three true r shows = sym (same_Some (stamped 2 three) r shows)
shows_three false r shows = absurd (none-some r shows)

forced : Kept overwritten []
forced = descriptors_may_change other_two all_disks (stamped 4 other_two) half_described overwritten []
    (record {
      empty = λ d r shows. ap (λ (x : Stamped Descriptor). x.value.lvs) (shows_three (d == 2) r shows);
      new_id = λ d r shows same. let e : 50 ≡ 51 = sym (ap (λ (x : Stamped Descriptor). x.value.id) (shows_three (d == 2) r shows)) ∙ same in absurd (omega (arith, e));
      no_volume = refl;
      a_member = omega arith;
    })
    refl (record { own = λ d. by_test (d == 2); rest = refl }) described
  where
    by_test : (t : Bool) → ((if t then Some (stamped 4 other_two) else None) ≡ (if t then Some (stamped 2 three) else None)) ⊎ (IsTrue true × ((if t then Some (stamped 4 other_two) else None) ≡ Some (stamped 4 other_two)))
    by_test true = inr (refl, refl)
    by_test false = inl refl

-- ---- two groups of one id

alone : Kept with_left_over []
alone = descriptors_may_change left_over all_disks (stamped 2 left_over) four_blank with_left_over []
    (record { empty = λ d r shows. absurd (none-some r shows); new_id = λ d r shows. absurd (none-some r shows); no_volume = refl; a_member = omega arith })
    refl (record { own = λ d. by_test (d == 3); rest = refl }) blank
  where
    by_test : (t : Bool) → ((if t then Some (stamped 2 left_over) else None) ≡ None) ⊎ (IsTrue true × ((if t then Some (stamped 2 left_over) else None) ≡ Some (stamped 2 left_over)))
    by_test true = inr (refl, refl)
    by_test false = inl refl

new_reads : ReadsGroup of_one_id (only 0) 60 newcomer
unfolding has_quorum is_voter descriptor_among newest_below votes_by
new_reads = record { found = (only 0, record { quorum = refl; newest = record { stamp = record { epoch = 60; seq = 2 }; value = newcomer }; found = refl; is = refl }); enough = refl }

old_reads : ReadsGroup of_one_id (only 3) 60 left_over
unfolding has_quorum is_voter descriptor_among newest_below votes_by
old_reads = record { found = (only 3, record { quorum = refl; newest = stamped 2 left_over; found = refl; is = refl }); enough = refl }

-- each of them can read, and no disk is in both
same_id : Kept of_one_id [] → ⊥
same_id kept =
    let both = kept.lasting.common (only 0) (only 3) 60 newcomer left_over new_reads old_reads in
    let d : ℕ = both.0 in
    let here : d ≡ 0 = eqb-true d 0 (first (only 0 d) (passes (is_of 60) (of_one_id.descriptor d)) (first (only 0 d && passes (is_of 60) (of_one_id.descriptor d)) (has_room of_one_id d newcomer) both.1)) in
    let there : d ≡ 3 = eqb-true d 3 (first (only 3 d) (passes (is_of 60) (of_one_id.descriptor d)) (first (only 3 d && passes (is_of 60) (of_one_id.descriptor d)) (has_room of_one_id d left_over) both.2)) in
    absurd (omega (arith, here, there))

pub worked_making : WorkedMaking
worked_making = record { blank = blank; stated = stated; described = described; forced = forced; alone = alone; same_id = same_id }
