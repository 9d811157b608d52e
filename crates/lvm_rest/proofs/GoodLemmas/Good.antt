-- A session at rest is in a good state, and describes its disks.
use Rattle.std.proofs.Common.{◌≡◌, ◌⊎◌, ◌↔◌, inl, inr, ⊎_elim, ℕ, ◌<◌, ◌≤◌, Bool, true, false, ◌&&◌, not, List, [], Option, Some, None, refl, sym, ap, subst, ◌∙◌, arith}
use Rattle.std.specs.Prelude.{IsTrue, IsFalse, ◌==◌, if◌then◌else◌, option_map}
use Rattle.std.proofs.lemmas.Option.{same_Some}
use Rattle.std.proofs.lemmas.Bool.{eq-eqb, eqb-true, cases_Bool, not_from_false}
use Rattle.lvm_num.specs.declared.place.Pp.{Pp}
use Rattle.lvm_num.specs.declared.descriptor.Mode.{Mode}
use Rattle.lvm_num.specs.declared.descriptor.Mode.TheVariants.{Active, Passive, Off}
use Rattle.lvm_num.specs.declared.descriptor.LvRow.{LvRow}
use Rattle.lvm_num.specs.declared.descriptor.Descriptor.{Descriptor}
use Rattle.lvm_num.specs.declared.status.Status.{Status}
use Rattle.lvm_num.specs.Disks.{Disks}
use Rattle.lvm_num.specs.Buffer.{Sector}
use Rattle.lvm_num.specs.Descriptor.{IsValid, copies_of}
use Rattle.lvm_num.specs.Geometry.{track_group_of, partition_of, volume_blocks}
use Rattle.lvm_num.specs.Record.{Stamped, stamp_lt}
use Rattle.lvm_num.specs.Votes.{all_disks, CanWrite}
use Rattle.lvm_disk.specs.Device.{Flight, IsInFlight, image_of}
use Rattle.lvm_vol.specs.declared.entry.Vol.TheVariants.{Lv}
use Rattle.lvm_vol.specs.May.{Known, known, cut, is_off, IsValue}
use Rattle.lvm_vol.specs.Standing.{Standing, Absent, Open, Settled, Shape, volumes_in}
use Rattle.lvm_kept.specs.Contents.{Contents, contents_of}
use Rattle.lvm_kept.specs.Group.{status_among, ReadsBy, status_by, is_stale_by, fresh_on, block_at, IsBlockOf, is_named, IsOneOf, IsSome, HoldOne}
use Rattle.lvm_kept.specs.Kept.{StandsAs, MayDiffer as MayDifferOn, IsBlockKept, BlocksKept}
use Rattle.lvm_kept.specs.Committed.{IsWithinDisks}
use Rattle.lvm_kept.proofs.CommittedLemmas.Finding.{finding_reads, images_within}
use Rattle.lvm_commit.specs.Committed.{ShowsCommitted}
use Rattle.lvm_commit.proofs.LawsLemmas.Found.{only_found, status_read}
use Rattle.lvm_invariant.specs.State.{Marks, Queued, ModelCopy, Beside, ModelState, Live, stale_in, told}
use Rattle.lvm_invariant.specs.Sound.{MayDiffer, Agree, Quiescent, Sound}
use Rattle.lvm_num.specs.Modes.{is_active, is_passive}
use Rattle.lvm_num.proofs.Booleans.{clash_gives}
use Rattle.lvm_invariant.specs.Found.{Votes, Found}
use Rattle.lvm_invariant.specs.Good.{Good}
use Rattle.lvm_invariant.proofs.FirstLemmas.{nothing}
use Rattle.lvm_crash.specs.Session.{as_marks, marks_shown, AreVotesOf, IsPlaceOf, GroupStands, HasVolumes, Describes}
use Rattle.lvm_even.specs.Members.{members_showing}
use Rattle.lvm_crash.proofs.MayLemmas.{loose_is_off}
use Rattle.lvm_even.proofs.Lists.{left_of, right_of, both_of, not_so}
use Rattle.lvm_rest.specs.Rest.{IsModelAtRest, SeesThat}
use Rattle.lvm_even.specs.Even.{AreClosed, HoldsAtRest}
use Rattle.lvm_rest.specs.Good.{RestIsGood, StillMatches, RestMatches}
use Rattle.lvm_commit.proofs.AmongLemmas.{one_place}
use Rattle.lvm_even.proofs.Rows.{at_passing, some_passing, none_passing, passes_none, row_is_volume, mib_positive}
use Rattle.lvm_rest.proofs.Rows.{block_in}
use Rattle.lvm_rest.proofs.GoodLemmas.Shapes.{shape_mode}
use Rattle.lvm_rest.proofs.MayLemmas.{value_uncut, loose_uncut, known_cut}

-- ---- small things

without_true : (t : Bool) → IsFalse (t && true) → IsFalse t
without_true true h = h
without_true false h = refl

mode_off : (mode : Mode) → IsFalse (is_active mode) → IsFalse (is_passive mode) → IsTrue (is_off mode)
mode_off Active n m = absurd cc
mode_off Passive n m = absurd cc
mode_off Off n m = refl

mode_on : (mode : Mode) → IsTrue (is_active mode) ⊎ IsTrue (is_passive mode) → IsFalse (is_off mode)
mode_on Active on = refl
mode_on Passive on = refl
mode_on Off (inl on) = absurd cc
mode_on Off (inr on) = absurd cc

not_off : (mode : Mode) → IsFalse (is_off mode) → mode ≡ Off → ⊥
not_off mode on is = clash_gives (is_off mode) (ap is_off is) on

block_below : (mib lps block : ℕ) → 1 ≤ mib → partition_of mib block < lps → block < volume_blocks mib lps
block_below mib lps block some lt = grind (arith)

pub its_own : (id : ℕ) (u : Stamped Status) → u.value.id ≡ id → marks_shown None id (Some u) ≡ Some (as_marks None u)
its_own id u own = ap (λ (t : Bool). option_map (as_marks None) (if t then Some u else None)) (eq-eqb u.value.id id own)

-- marks that are shown are those of a status of the group
pub record IsShown (id : ℕ) (o : Option (Stamped Status)) (r : Stamped Marks) : Type 0 where
  pub status : Stamped Status
  pub is : o ≡ Some status
  pub own : status.value.id ≡ id
  pub marks : as_marks None status ≡ r

pub shown_parts : (id : ℕ) (o : Option (Stamped Status)) (r : Stamped Marks) → marks_shown None id o ≡ Some r → IsShown id o r
shown_parts id None r is = nothing r is
shown_parts id (Some t) r is = by (t.value.id == id) refl is
  where
    by : (b : Bool) → (t.value.id == id) ≡ b → option_map (as_marks None) (if b then Some t else None) ≡ Some r → IsShown id (Some t) r
    by true own is = record { status = t; is = refl; own = eqb-true t.value.id id own; marks = same_Some (as_marks None t) r is }
    by false own is = nothing r is

-- a volume that is found has its shape
its_shape : (mib : ℕ) (standing : Standing) (shape : Option Shape) (row : LvRow) → StandsAs mib standing shape (Some row) → shape ≡ Some (record { blocks = volume_blocks mib row.lps; mode = row.mode })
its_shape mib Settled shape row stands = stands
its_shape mib Open shape row stands = stands
its_shape mib Absent shape row stands = absurd stands

module _ (votes : Votes) (s : ModelState) (group : Descriptor) (status : Status) (there : Disks) (c : Contents) (are : AreVotesOf group votes) (valid : IsValid group) (within : IsWithinDisks c)
    (enough : CanWrite group there) (shows : ShowsCommitted c group status there) (idle : IsModelAtRest s) (sees : SeesThat s group shows.stands there c) (closed : AreClosed s.facts group)
    (rest : HoldsAtRest c s.facts group (Some shows.stands) there) where
  abbrev stands : Stamped Status
  stands = shows.stands

  abbrev members : Disks
  members = members_showing c group

  abbrev usable : Disks → Pp → Bool
  usable set p = set p.disk && not (is_stale_by (Some stands) p)

  -- ---- what is found

  by_all : ReadsBy c all_disks group.id group
  by_all = finding_reads c all_disks group.id group shows.found

  read : status_by c all_disks group.id group ≡ Some stands
  read = status_read c group status there shows s.facts within enough rest.kept all_disks group by_all.reads

  blocks : BlocksKept c s.facts group members (Some stands)
  blocks = subst (λ (o : Option (Stamped Status)). BlocksKept c s.facts group members o) (by_all.status ∙ read)
      (subst (λ (d : Disks). BlocksKept c s.facts group d (status_among c all_disks group.id)) by_all.voters (rest.kept.agrees.copies all_disks group.id group shows.found))

  block : (row : LvRow) (lp b : ℕ) → IsOneOf group.lvs row → IsBlockOf group.mib row lp b
      → IsBlockKept c group.mib (Some stands) row (fresh_on members (Some stands) row lp) (cut b (known s.facts (Lv row.number) b)) b
  block row lp b one inside = subst (λ (k : Known). IsBlockKept c group.mib (Some stands) row (fresh_on members (Some stands) row lp) k b) (known_cut s.facts (Lv row.number) b) (blocks row lp b one inside)

  -- ---- volumes

  volume_stands : (row : LvRow) → IsOneOf group.lvs row → StandsAs group.mib (volumes_in s.facts row.number).standing (volumes_in s.facts row.number).shape (Some row)
  volume_stands row one = subst (StandsAs group.mib (volumes_in s.facts row.number).standing (volumes_in s.facts row.number).shape) (row_is_volume group row valid one)
      (rest.kept.agrees.volumes all_disks group.id group shows.found row.number)

  pub mode_is : (row : LvRow) (lp b : ℕ) → IsOneOf group.lvs row → IsBlockOf group.mib row lp b → (known s.facts (Lv row.number) b).mode ≡ row.mode
  mode_is row lp b one inside = shape_mode s.facts row.number b (record { blocks = volume_blocks group.mib row.lps; mode = row.mode })
      (its_shape group.mib (volumes_in s.facts row.number).standing (volumes_in s.facts row.number).shape row (volume_stands row one))
      (block_below group.mib row.lps b (mib_positive group valid) (subst (λ (n : ℕ). n < row.lps) (sym inside.partition) inside.inside))

  -- each logical partition has a fresh copy on a member
  fresh_one : (row : LvRow) (lp : ℕ) → IsOneOf group.lvs row → lp < row.lps → (p : Pp) × IsOneOf (copies_of row lp) p × IsTrue (usable members p)
  fresh_one row lp one low = some_passing (usable members) (copies_of row lp)
      (subst (λ (o : Option (Stamped Status)). IsSome (fresh_on members o row lp)) read (rest.kept.lasting.some all_disks group.id group group by_all.reads (all_disks, shows.found) row lp one low))

  -- ---- what is committed

  committed_stale : (p : Pp) → s.committed.value.stale p ≡ is_stale_by (Some stands) p
  committed_stale p = ap (λ (m : Stamped Marks). m.value.stale p) sees.committed

  wanted_stale : (p : Pp) → s.wanted.stale p ≡ s.committed.value.stale p
  wanted_stale p = ap (λ (m : Marks). m.stale p) idle.wanted

  gone : (d : ℕ) → IsTrue (s.missing d) → IsFalse (there d)
  gone d is = not_so (there d) (sym (sees.missing d) ∙ is)

  here : (d : ℕ) → IsFalse (s.missing d) → IsTrue (there d)
  here d isnt = by (there d) (sym (sees.missing d) ∙ isnt)
    where
      by : (t : Bool) → IsFalse (not t) → IsTrue t
      by true h = refl
      by false h = absurd cc

  is_gone : (d : ℕ) → IsFalse (there d) → IsTrue (s.missing d)
  is_gone d isnt = sees.missing d ∙ not_from_false (there d) isnt

  no_flight : {X : Type 0} (u : Stamped Marks) → s.in_flight ≡ Some u → X
  no_flight u is = nothing u (sym idle.in_flight ∙ is)

  no_request : {X : Type 0} (i : ℕ) (r : Queued) → s.queue i ≡ Some r → X
  no_request i r is = nothing r (sym (idle.queue i) ∙ is)

  no_open : {X : Type 0} (o : ModelCopy) → s.open_copy ≡ Some o → X
  no_open o is = nothing o (sym idle.no_copy ∙ is)

  -- ---- live copies

  record IsOfBlock (row : LvRow) (lp : ℕ) (p : Pp) : Type 0 where
    copy : IsOneOf (copies_of row lp) p
    member : IsTrue (members p.disk)
    fresh : IsFalse (is_stale_by (Some stands) p)

  live_of : (row : LvRow) (lp b : ℕ) (p : Pp) → IsOneOf group.lvs row → IsBlockOf group.mib row lp b → Live s row.number b p → IsOfBlock row lp p
  live_of row lp b p one inside live =
      let at = (sees.copies.copies row lp b p one inside).0 live.copy in
      record {
        copy = at.0;
        member = at.1;
        fresh = sym (committed_stale p) ∙ ⊎_elim
            (λ h. without_true (s.committed.value.stale p) (subst (λ (o : Option (Stamped Marks)). IsFalse (s.committed.value.stale p && stale_in o p)) idle.in_flight h))
            (λ passed. no_open passed.copy passed.is_open)
            live.counts;
      }

  passes : (row : LvRow) (lp : ℕ) (p : Pp) (set : Disks) → IsOfBlock row lp p → IsTrue (set p.disk) → IsTrue (usable set p)
  passes row lp p set of in_set = both_of (set p.disk) (not (is_stale_by (Some stands) p)) in_set (not_from_false (is_stale_by (Some stands) p) of.fresh)

  module _ (row : LvRow) (lp b : ℕ) (one : IsOneOf group.lvs row) (inside : IsBlockOf group.mib row lp b) where
    agree_on : (set : Disks) → HoldOne c group.mib (fresh_on set (Some stands) row lp) b → ((p : Pp) → Live s row.number b p → IsTrue (set p.disk)) → Agree s row.number b
    agree_on set holds in_set = (
      holds.0,
      λ p live. let of = live_of row lp b p one inside live in
          sees.blocks row.number b p live.copy
          ∙ at_passing (λ (q : Pp). block_at c group.mib q b ≡ holds.0) (usable set) (copies_of row lp) holds.1 p of.copy (passes row lp p set of (in_set p live)),
    )

    allowed : (p : Pp) → Live s row.number b p → IsValue (told s row.number b) (s.media.block row.number b p)
    allowed p live =
        let of = live_of row lp b p one inside live in
        subst (IsValue (told s row.number b)) (sym (sees.blocks row.number b p live.copy))
        (value_uncut b (told s row.number b) (block_at c group.mib p b) (closed row lp b one inside)
        (at_passing (λ (q : Pp). IsValue (cut b (known s.facts (Lv row.number) b)) (block_at c group.mib q b)) (usable members) (copies_of row lp) (block row lp b one inside).allowed p of.copy (passes row lp p members of of.member)))

    -- where one copy is usable each live one is; else all are on missing disks
    with_consistency : (row.mode ≡ Off → ⊥) → Agree s row.number b ⊎ ((p : Pp) → Live s row.number b p → IsTrue (s.missing p.disk))
    with_consistency on = elim (none_passing (usable there) (copies_of row lp)) [
      | inl none ↦ inr (λ p live. ⊎_elim
          (λ (is : IsTrue (there p.disk)). let of = live_of row lp b p one inside live in absurd (passes_none (usable there) (copies_of row lp) p none of.copy (passes row lp p there of is)))
          (λ (isnt : IsFalse (there p.disk)). is_gone p.disk isnt)
          (cases_Bool (there p.disk)))
      | inr some ↦ inl (agree_on there (rest.even row lp b one on inside) (λ p live. ⊎_elim
          (λ (is : IsTrue (there p.disk)). is)
          (λ (isnt : IsFalse (there p.disk)). let of = live_of row lp b p one inside live in
          absurd (passes_none (usable there) (copies_of row lp) some.0 (rest.behind row lp p one inside.inside of.copy of.member isnt of.fresh) some.1 some.2))
          (cases_Bool (there p.disk))))
    ]

    all_members : Agree s row.number b ⊎ MayDifferOn c (Some stands) row.number row.mode (fresh_on members (Some stands) row lp) (cut b (known s.facts (Lv row.number) b)) b
    all_members = ⊎_elim
        (λ (holds : HoldOne c group.mib (fresh_on members (Some stands) row lp) b). inl (agree_on members holds (λ p live. (live_of row lp b p one inside live).member)))
        (λ differ. inr differ)
        (block row lp b one inside).equal

    equal_by : (mode : Mode) → row.mode ≡ mode → Agree s row.number b ⊎ MayDifferOn c (Some stands) row.number mode (fresh_on members (Some stands) row lp) (cut b (known s.facts (Lv row.number) b)) b
        → Agree s row.number b ⊎ MayDiffer s row.number b (is_active mode)
    equal_by mode is (inl agree) = inl agree
    equal_by Active is (inr named) = elim (with_consistency (not_off row.mode (ap is_off is))) [
      | inl agree ↦ inl agree
      | inr missing ↦ inr (λ p live. (
        missing p live,
        record {
          home = sees.names p.disk row.number (track_group_of b)
              ∙ (let of = live_of row lp b p one inside live in
              at_passing (λ (q : Pp). IsTrue (is_named c q.disk row.number (track_group_of b))) (usable members) (copies_of row lp) named p of.copy (passes row lp p members of of.member));
          flying = λ n flies. nothing n (sym (idle.no_note p.disk) ∙ flies);
        },
      ))
    ]
    equal_by Passive is (inr dirty) = elim (with_consistency (not_off row.mode (ap is_off is))) [
      | inl agree ↦ inl agree
      | inr missing ↦ inr (inr (record {
        passive = sees.copies.mark row one ∙ ap is_passive is;
        missing = missing;
        dirty = ap (λ (m : Stamped Marks). m.value.dirty row.number) sees.committed ∙ dirty;
      }))
    ]
    equal_by Off is (inr loose) = inr (inl (loose_uncut b (told s row.number b) (closed row lp b one inside) loose))

    settled_at : Quiescent s row.number b
    settled_at = record {
      calm = λ i r started over. no_request i r started.there;
      allowed = allowed;
      equal = subst (λ (x : Bool). Agree s row.number b ⊎ MayDiffer s row.number b x) (sym (sees.copies.notes row one)) (equal_by row.mode refl all_members);
    }

  settled : (lv b : ℕ) → Quiescent s lv b
  settled lv b = elim (block_in group lv b) [
    | inl at ↦ subst (λ (n : ℕ). Quiescent s n b) at.number (settled_at at.row at.lp b at.volume at.inside)
    | inr none ↦ record {
      calm = λ i r started over. no_request i r started.there;
      allowed = λ p live. absurd (none (sees.copies.inside lv b p live.copy));
      equal = inl ([], λ p live. absurd (none (sees.copies.inside lv b p live.copy)));
    }
  ]

  -- ---- the rest of it

  -- at a block that has a copy
  at_copy : (P : ℕ → ℕ → Type 0) (lv b : ℕ) (p : Pp) → IsTrue (s.is_copy lv b p) → ((row : LvRow) (lp : ℕ) → IsOneOf group.lvs row → IsBlockOf group.mib row lp b → P row.number b) → P lv b
  at_copy P lv b p copy each = let at = sees.copies.inside lv b p copy in subst (λ (n : ℕ). P n b) at.number (each at.row at.lp at.volume at.inside)

  modes : (lv b : ℕ) (p : Pp) → IsTrue (s.is_copy lv b p) → IsFalse (s.is_active lv) → IsFalse (s.is_passive lv) → IsTrue (is_off (told s lv b).mode)
  modes lv b p copy = at_copy (λ n b. IsFalse (s.is_active n) → IsFalse (s.is_passive n) → IsTrue (is_off (told s n b).mode)) lv b p copy
      (λ row lp one inside off soft. ap is_off (mode_is row lp b one inside) ∙ mode_off row.mode (sym (sees.copies.notes row one) ∙ off) (sym (sees.copies.mark row one) ∙ soft))

  tight : (lv b : ℕ) (p : Pp) → IsTrue (s.is_copy lv b p) → IsTrue (s.is_active lv) ⊎ IsTrue (s.is_passive lv) → IsFalse (told s lv b).loose
  tight lv b p copy = at_copy (λ n b. IsTrue (s.is_active n) ⊎ IsTrue (s.is_passive n) → IsFalse (told s n b).loose) lv b p copy
      (λ row lp one inside on. ⊎_elim
      (λ (is : IsTrue (told s row.number b).loose). clash_gives (is_off row.mode)
      (ap is_off (sym (mode_is row lp b one inside)) ∙ loose_is_off s.facts (Lv row.number) b is)
      (mode_on row.mode (⊎_elim (λ (a : IsTrue (s.is_active row.number)). inl (sym (sees.copies.notes row one) ∙ a)) (λ (a : IsTrue (s.is_passive row.number)). inr (sym (sees.copies.mark row one) ∙ a)) on)))
      (λ isnt. isnt)
      (cases_Bool (told s row.number b).loose))

  owner : (lv b l d : ℕ) (p q : Pp) → IsTrue (s.is_copy lv b p) → IsTrue (s.is_copy l d p) → IsTrue (s.is_copy l d q) → IsTrue (s.is_copy lv b q)
  owner lv b l d p q one two three =
      let a = sees.copies.inside lv b p one in
      let e = sees.copies.inside l d p two in
      let p_a = (sees.copies.copies a.row a.lp b p a.volume a.inside).0 (subst (λ (n : ℕ). IsTrue (s.is_copy n b p)) (sym a.number) one) in
      let p_e = (sees.copies.copies e.row e.lp d p e.volume e.inside).0 (subst (λ (n : ℕ). IsTrue (s.is_copy n d p)) (sym e.number) two) in
      let q_e = (sees.copies.copies e.row e.lp d q e.volume e.inside).0 (subst (λ (n : ℕ). IsTrue (s.is_copy n d q)) (sym e.number) three) in
      let same = one_place group a.row e.row a.lp e.lp p valid a.volume e.volume p_a.0 p_e.0 in
      subst (λ (n : ℕ). IsTrue (s.is_copy n b q)) a.number
      ((sees.copies.copies a.row a.lp b q a.volume a.inside).1 (subst (λ (r : LvRow). IsOneOf (copies_of r a.lp) q) (sym same.row_is) (subst (λ (n : ℕ). IsOneOf (copies_of e.row n) q) (sym same.lp_is) q_e.0), q_e.1))

  kept : (lv b : ℕ) (p : Pp) → IsTrue (s.is_copy lv b p) → (q : Pp) × IsTrue (s.is_copy lv b q) × IsFalse (is_stale_by (Some stands) q)
  kept lv b p copy = at_copy (λ n b. (q : Pp) × IsTrue (s.is_copy n b q) × IsFalse (is_stale_by (Some stands) q)) lv b p copy
      (λ row lp one inside. let q = fresh_one row lp one inside.inside in (
        q.0,
        (sees.copies.copies row lp b q.0 one inside).1 (q.1, left_of (members q.0.disk) (not (is_stale_by (Some stands) q.0)) q.2),
        not_so (is_stale_by (Some stands) q.0) (right_of (members q.0.disk) (not (is_stale_by (Some stands) q.0)) q.2),
      ))

  behind : (lv b : ℕ) (p q : Pp) → IsTrue (s.is_copy lv b p) → IsFalse (s.committed.value.stale p) → IsTrue (s.missing p.disk) → IsTrue (s.is_copy lv b q)
      → IsFalse (s.committed.value.stale q) → IsFalse (s.missing q.disk) → ⊥
  behind lv b p q copy fresh missing other also there_is =
      let at = sees.copies.inside lv b p copy in
      let p_at = (sees.copies.copies at.row at.lp b p at.volume at.inside).0 (subst (λ (n : ℕ). IsTrue (s.is_copy n b p)) (sym at.number) copy) in
      let q_at = (sees.copies.copies at.row at.lp b q at.volume at.inside).0 (subst (λ (n : ℕ). IsTrue (s.is_copy n b q)) (sym at.number) other) in
      passes_none (usable there) (copies_of at.row at.lp) q
      (rest.behind at.row at.lp p at.volume at.inside.inside p_at.0 p_at.1 (gone p.disk missing) (sym (committed_stale p) ∙ fresh)) q_at.0
      (both_of (there q.disk) (not (is_stale_by (Some stands) q)) (here q.disk there_is) (not_from_false (is_stale_by (Some stands) q) (sym (committed_stale q) ∙ also)))

  sound : Sound s
  sound = record {
    blocks = record {
      each = λ lv b. inl (settled lv b);
      busy = λ i lv b r started over. no_request i r started.there;
      recorded = λ i lv b r started over. no_request i r started.there;
    };
    tied = record {
      open_writes = λ i r is write un lv b. no_request i r is;
      modes = modes;
      tight = tight;
      owner = owner;
      inside = λ i r is lv b over. no_request i r is;
      place = λ i r is lv b over. no_request i r is;
    };
    statuses = record {
      stale_flies = λ p u flies stale fresh. no_flight u flies;
      stale_is_wanted = λ p stale fresh. clash_gives (s.committed.value.stale p) stale (sym (wanted_stale p) ∙ fresh);
      flying_is_wanted = λ p u flies stale fresh. no_flight u flies;
      kept = λ lv b p copy. let q = kept lv b p copy in (
        q.0,
        q.1,
        record { committed = committed_stale q.0 ∙ q.2; flying = λ u flies. no_flight u flies; wanted = wanted_stale q.0 ∙ committed_stale q.0 ∙ q.2 },
      );
      open_there = λ o is. no_open o is;
      open_stale = λ o is. no_open o is;
      dirty_flies = λ lv u flies h. no_flight u flies;
      dirty_is_wanted = λ lv h. ap (λ (m : Marks). m.dirty lv) idle.wanted ∙ h;
      dirty_flying_is_wanted = λ lv u flies h. no_flight u flies;
    };
    behind = record {
      left_behind = λ lv b p q copy fresh missing other is_usable fresh_too.
          absurd (behind lv b p q copy fresh missing other
          (not_so (s.committed.value.stale q) (left_of (not (s.committed.value.stale q)) (not (s.missing q.disk)) is_usable))
          (not_so (s.missing q.disk) (right_of (not (s.committed.value.stale q)) (not (s.missing q.disk)) is_usable)));
    };
    notes = record {
      home = λ d lv g isnt. sees.names d lv g ∙ sym (sees.notes d lv g (here d isnt));
      pinned = λ i r is write pins on several. no_request i r is;
    };
    holds = record {
      order = λ i j r e at_i at_j low conflict past. no_request i r at_i;
      reads = λ i lv b r is read past over p x at. no_request i r is;
      got = λ i lv b r value is read past got over. no_request i r is;
    };
  }

  own : stands.value.id ≡ group.id
  own = ap (λ (x : Status). x.id) shows.committed ∙ shows.own

  found : Found votes s
  found = record {
    set = there;
    enough = are.writes there ∙ enough;
    have = λ d is. inl (sees.status d ∙ ap (marks_shown None group.id) (shows.stated d is) ∙ its_own group.id stands own ∙ ap (λ (m : Stamped Marks). Some m) (sym sees.committed));
    only = λ d r is.
        let at = shown_parts group.id (c.status d) r (sym (sees.status d) ∙ is) in
        ⊎_elim
        (λ (low : stamp_lt at.status.stamp stands.stamp ≡ true). inl (subst (λ (m : Stamped Marks). stamp_lt m.stamp s.committed.stamp ≡ true) at.marks
        (subst (λ (m : Stamped Marks). stamp_lt at.status.stamp m.stamp ≡ true) (sym sees.committed) low)))
        (λ (same : at.status ≡ stands). inr (inl (sym at.marks ∙ ap (as_marks None) same ∙ sym sees.committed)))
        (shows.last d at.status at.is at.own);
    newer = λ u flies. no_flight u flies;
  }

  good : Good votes s
  good = record {
    sound = sound;
    found = found;
    told = record {
      legal = rest.legal;
      same = λ i r is asked. no_request i r is;
      began = λ i r is asked. no_request i r is;
      ended = λ i r is asked. no_request i r is;
      untaken = λ i r is asked. no_request i r is;
      apart = λ i j r e is also a b other. no_request i r is;
      steps_read = λ i r is step. no_request i r is;
    };
  }

  -- ---- the disks

  group_stands : GroupStands c group
  group_stands = record {
    a_member = valid.head.a_member;
    size = mib_positive group valid;
    found = shows.found;
    alone = rest.alone;
    only = λ disks g f. only_found c group status there shows s.facts within enough rest.kept g (disks, f);
    others = record {
      common = λ a b other g h apart r t. rest.kept.lasting.common a b other g h r t;
      size = λ other g h apart is also. rest.kept.lasting.size other g h is also;
      partitions = λ other g h apart is also. rest.kept.lasting.partitions other g h is also;
    };
    once = rest.kept.lasting.descriptors;
  }

  volumes : HasVolumes s s.facts group members
  volumes = record {
    copies = λ row lp b p one inside. subst (λ (o : Option Beside). IsTrue (s.is_copy row.number b p) ↔ (IsPlaceOf o row lp b p × IsTrue (members p.disk))) (sym sees.beside) (sees.copies.copies row lp b p one inside);
    free = λ o is. absurd (let e : None ≡ Some o = sym sees.beside ∙ is in cc);
    inside = sees.copies.inside;
    some = λ row lp one low. let p = fresh_one row lp one low in (p.0, p.1, left_of (members p.0.disk) (not (is_stale_by (Some stands) p.0)) p.2);
    notes = sees.copies.notes;
    mark = sees.copies.mark;
    modes = mode_is;
    history = rest.kept.agrees.volumes all_disks group.id group shows.found;
  }

  describes : Describes s s.facts group None c
  describes = record {
    stands = group_stands;
    volumes = volumes;
    shown = record {
      blocks = sees.blocks;
      names = sees.names;
      status = λ d. sees.status d ∙ ap (λ (o : Option Beside). marks_shown o group.id (c.status d)) (sym sees.beside);
      statuses = record {
        same = idle.in_flight;
        own = λ u is. nothing u is;
        once = rest.kept.lasting.statuses;
        new = λ u d r is. nothing u is;
      };
    };
    raw = rest.kept.agrees.raw;
  }

pub rest_is_good : RestIsGood
rest_is_good votes s group status there c are valid within enough shows idle sees closed rest = (
  good votes s group status there c are valid within enough shows idle sees closed rest,
  describes votes s group status there c are valid within enough shows idle sees closed rest,
)

-- ---- on a still shelf

none_flies : {X : Type 0} (flights : List Flight) → flights ≡ [] → (d s : ℕ) (value : Sector) → IsInFlight flights d s value → X
none_flies flights none d s value flies = absurd (subst (λ (fs : List Flight). IsInFlight fs d s value) none flies)

pub still_matches : StillMatches
still_matches s facts group device media told still describes = record {
  told = told;
  describes = describes;
  out = record {
    blocks = λ lv b p value copy flies. none_flies device.flights still _ _ value flies;
    notes = λ d value flies. none_flies device.flights still d _ value flies;
    statuses = λ d at value flies. none_flies device.flights still d at value flies;
    descriptors = λ d at value flies. none_flies device.flights still d at value flies;
    raw = λ d at value none high flies. none_flies device.flights still d at value flies;
  };
}

pub rest_matches : RestMatches
rest_matches votes s group status there device media told still are valid enough shows idle sees closed rest =
    let both = rest_is_good votes s group status there (contents_of (image_of device.sizes media)) are valid (images_within (image_of device.sizes media)) enough shows idle sees closed rest in
    (both.0, still_matches s s.facts group device media told still both.1)
