-- The varying on of a group, by what the disks show.
use Rattle.std.proofs.Common.{◌≡◌, inl, inr, ⊎_elim, ℕ, ◌<◌, Bool, true, false, ◌&&◌, List, [], ◌∷◌, ◌++◌, Option, Some, refl, sym, ap, subst, ◌∙◌, eq-eqb}
use Rattle.std.specs.Prelude.{IsTrue, IsFalse, not, if◌then◌else◌, filter}
use Rattle.std.specs.List.{AllByRecursion}
use Rattle.std.proofs.lemmas.Option.{same_Some}
use Rattle.std.proofs.lemmas.Bool.{eqb-true, not-true, not_from_false}
use Rattle.lvm_num.specs.declared.place.Pp.{Pp}
use Rattle.lvm_num.specs.declared.descriptor.Mode.{Mode}
use Rattle.lvm_num.specs.declared.descriptor.Mode.TheVariants.{Active, Passive, Off}
use Rattle.lvm_num.specs.declared.descriptor.LvRow.{LvRow}
use Rattle.lvm_num.specs.declared.descriptor.Descriptor.{Descriptor}
use Rattle.lvm_num.specs.declared.status.Status.{Status}
use Rattle.lvm_num.specs.Disks.{Disks}
use Rattle.lvm_num.specs.Geometry.{track_group_of}
use Rattle.lvm_num.specs.Descriptor.{copies_of}
use Rattle.lvm_num.specs.Votes.{all_disks}
use Rattle.lvm_num.specs.Record.{Stamped, stamp_lt}
use Rattle.lvm_num.specs.Note.{Noted}
use Rattle.lvm_num.specs.Status.{calls_stale, calls_dirty}
use Rattle.lvm_num.proofs.RecordLemmas.Newest.{is_one, is_last}
use Rattle.lvm_num.proofs.AmongLemmas.{filter_one}
use Rattle.lvm_vol.specs.declared.entry.Vol.TheVariants.{Lv}
use Rattle.lvm_vol.specs.Facts.{Fact, Cut}
use Rattle.lvm_vol.specs.May.{Known, known, IsValue}
use Rattle.lvm_kept.specs.Contents.{Contents}
use Rattle.lvm_kept.specs.Group.{passes, is_of, has_room, descriptor_among, is_voter, status_among, Finds, IsFound, members_in, status_by, ReadsBy, is_stale_by, fresh_on, fresh, block_at, is_named, names_if, IsOneOf, IsSome, HoldOne}
use Rattle.lvm_kept.specs.Committed.{IsWithinDisks}
use Rattle.lvm_kept.specs.Kept.{MayDiffer, BlocksKept, Kept}
use Rattle.lvm_kept.specs.Changes.{Serves, StayExcused}
use Rattle.lvm_kept.proofs.CommittedLemmas.Finding.{offered, is_offered, offers, finding_reads}
use Rattle.lvm_kept.proofs.ChangesLemmas.Restamping.{restamping_keeps, narrower_on}
use Rattle.lvm_kept.proofs.ChangesLemmas.Changing.{notes_keep}
use Rattle.lvm_steps.specs.VaryingOn.{AreShowing, RestampKeeps, HasNewest, OnlyNewestIsFound, MayRestate, RestateKeeps, HasNoActive, NotesOf, ForgettingKeeps}
use Rattle.lvm_steps.proofs.RecordLemmas.{split, join, either, clash}
use Rattle.lvm_steps.proofs.GroupLemmas.Members.{shows_of, one_group, among_all}
use Rattle.lvm_steps.proofs.ChangesLemmas.{serving, put_keeps}
pub use Rattle.lvm_steps.proofs.GroupLemmas.Passing.{one_passes as goes_in}

-- ---- the descriptor

pub restamp_keeps : RestampKeeps
restamp_keeps group targets next old new facts within may change kept =
    let id_is : next.value.id ≡ group.id = ap (λ (g : Descriptor). g.id) may.value in
    restamping_keeps old new facts next within
    (record {
      rest = change.rest;
      own = λ d. ⊎_elim
          (λ same. inl same)
          (λ (is : IsTrue (targets d) × (new.descriptor d ≡ Some next)).
          let shows = shows_of (is_of group.id) (old.descriptor d) (may.showing d is.0) in
          inr (is.1, (shows.0, shows.1, eqb-true shows.0.value.id group.id shows.2 ∙ sym id_is)))
          (change.own d);
      later = λ d r shows same. may.later d r shows (same ∙ id_is);
      found = subst (λ (g : Descriptor). IsFound old g.id g) (sym may.value) may.found;
    })
    kept

module _ (c : Contents) (group : Descriptor) (disks : Disks) (newest : Stamped Descriptor) (facts : List Fact) (within : IsWithinDisks c) (has : HasNewest c group disks newest) (kept : Kept c facts) where
  reads : ReadsBy c disks group.id group
  reads = finding_reads c disks group.id group has.found

  pub only_found : (k : Descriptor) → IsFound c group.id k → k ≡ group
  unfolding descriptor_among
  only_found k is =
      let id : ℕ = group.id in
      let b : Disks = is.0 in
      let f : Finds c b id k = is.1 in
      let both = kept.lasting.common disks b id group k reads.reads (finding_reads c b id k f).reads in
      let d : ℕ = both.0 in
      let shows : c.descriptor d ≡ Some newest = has.have d both.1 in
      let in_b = split (b d && passes (is_of id) (c.descriptor d)) (has_room c d k) both.2 in
      let in_set : b d ≡ true = (split (b d) (passes (is_of id) (c.descriptor d)) in_b.0).0 in
      let own : is_of id newest.value ≡ true = eq-eqb newest.value.id id (ap (λ (g : Descriptor). g.id) has.value) in
      let last = is_last Descriptor (offered (is_of id) c.descriptor b) c.disks d newest (within.descriptors d newest shows) (offers (is_of id) c.descriptor b d newest in_set shows own) in
      let one = is_one Descriptor (offered (is_of id) c.descriptor b) c.disks f.newest f.found in
      let from = is_offered (is_of id) c.descriptor b one.0 f.newest one.2 in
      let same : f.newest ≡ last.0 = same_Some f.newest last.0 (sym f.found ∙ last.1) in
      ⊎_elim
      (λ (low : stamp_lt f.newest.stamp newest.stamp ≡ true). absurd (clash (stamp_lt f.newest.stamp newest.stamp) low (ap (λ (r : Stamped Descriptor). stamp_lt r.stamp newest.stamp) same ∙ last.2)))
      (λ (it : f.newest ≡ newest). sym f.is ∙ ap (λ (r : Stamped Descriptor). r.value) it ∙ has.value)
      (has.last one.0 f.newest from.0 (eqb-true f.newest.value.id id from.1))

pub only_newest_is_found : OnlyNewestIsFound
only_newest_is_found c group disks newest facts within has kept k is = only_found c group disks newest facts within has kept k is

-- ---- the status

one_of_some : {X : Type 0} (xs : List X) → IsSome xs → (x : X) × IsOneOf xs x
one_of_some [] some = absurd some
one_of_some (x ∷ xs) some = (x, inl refl)

-- a status that calls more copies of the group stale, and as many of its volumes in mode passive dirty
module _ (c : Contents) (group : Descriptor) (was next : Stamped Status)
    (stale : (row : LvRow) (lp : ℕ) (p : Pp) → IsOneOf group.lvs row → IsOneOf (copies_of row lp) p → IsTrue (calls_stale was.value p) → IsTrue (calls_stale next.value p))
    (dirty : (row : LvRow) → IsOneOf group.lvs row → row.mode ≡ Passive → IsTrue (calls_dirty was.value row.number) → IsTrue (calls_dirty next.value row.number)) where
  module _ (row : LvRow) (volume : IsOneOf group.lvs row) (lp : ℕ) where
    staler : (p : Pp) → IsOneOf (copies_of row lp) p → not (calls_stale next.value p) ≡ true → not (calls_stale was.value p) ≡ true
    staler p one e = by_test (calls_stale was.value p) refl
      where
        by_test : (t : Bool) → calls_stale was.value p ≡ t → not t ≡ true
        by_test true is = absurd (clash (calls_stale next.value p) (stale row lp p volume one is) (not-true (calls_stale next.value p) e))
        by_test false is = refl

    fewer : (P : Pp → Type 0) (set : Disks) → AllByRecursion P (fresh_on set (Some was) row lp) → AllByRecursion P (fresh_on set (Some next) row lp)
    fewer P set all = narrower_on P (λ (p : Pp). set p.disk && not (is_stale_by (Some was) p)) (λ (p : Pp). set p.disk && not (is_stale_by (Some next) p)) (copies_of row lp)
        (λ p one e. let parts = split (set p.disk) (not (is_stale_by (Some next) p)) e in join (set p.disk) (not (is_stale_by (Some was) p)) parts.0 (staler p one parts.1))
        all

    differ : (set : Disks) (mode : Mode) (k : Known) (b : ℕ) → row.mode ≡ mode → MayDiffer c (Some was) row.number mode (fresh_on set (Some was) row lp) k b → MayDiffer c (Some next) row.number mode (fresh_on set (Some next) row lp) k b
    differ set Active k b mode_is m = fewer (λ (p : Pp). IsTrue (is_named c p.disk row.number (track_group_of b))) set m
    differ set Passive k b mode_is m = dirty row volume mode_is m
    differ set Off k b mode_is m = m

  staler_blocks : (facts : List Fact) (set : Disks) → BlocksKept c facts group set (Some was) → BlocksKept c facts group set (Some next)
  staler_blocks facts set blocks row lp b one inside =
      let kept = blocks row lp b one inside in
      let k : Known = known (facts ++ Cut ∷ []) (Lv row.number) b in
      record {
        allowed = fewer row one lp (λ (p : Pp). IsValue k (block_at c group.mib p b)) set kept.allowed;
        equal = ⊎_elim
            (λ (held : HoldOne c group.mib (fresh_on set (Some was) row lp) b). inl (held.0, fewer row one lp (λ (p : Pp). block_at c group.mib p b ≡ held.0) set held.1))
            (λ (m : MayDiffer c (Some was) row.number row.mode (fresh_on set (Some was) row lp) k b). inr (differ row one lp set row.mode k b refl m))
            kept.equal;
      }

module _ (c : Contents) (group : Descriptor) (disks targets : Disks) (newest : Stamped Descriptor) (was next : Stamped Status) (facts : List Fact) (within : IsWithinDisks c) (may : MayRestate c group disks targets newest was next) (kept : Kept c facts) where
  abbrev id : ℕ
  id = group.id

  by_found : ReadsBy c disks id group
  by_found = finding_reads c disks id group may.newest_is.found

  was_read : status_by c disks id group ≡ Some was
  was_read = sym by_found.status ∙ may.status

  across : (k : Descriptor) → IsFound c id k → BlocksKept c facts k (members_in c all_disks id k) (Some next)
  across k is = subst (λ (g : Descriptor). BlocksKept c facts g (members_in c all_disks id g) (Some next)) (sym (only_found c group disks newest facts within may.newest_is kept k is))
      (staler_blocks c group was next may.marks.stale may.marks.dirty facts (members_in c all_disks id group)
      (subst (λ (s : Option (Stamped Status)). BlocksKept c facts group (members_in c all_disks id group) s) was_read (kept.lasting.across disks id group group by_found.reads (disks, may.newest_is.found))))

  abbrev tests : Disks → Stamped Status → Pp → Bool
  tests set s p = set p.disk && not (is_stale_by (Some s) p)

  -- a copy on a voter that the old status doesn't call stale, the next one doesn't either
  voter_stays : (row : LvRow) (lp : ℕ) (p : Pp) → IsOneOf group.lvs row → IsOneOf (copies_of row lp) p → tests (members_in c disks id group) was p ≡ true → tests (members_in c all_disks id group) next p ≡ true
  voter_stays row lp p volume one passed =
      let parts = split (members_in c disks id group p.disk) (not (is_stale_by (Some was) p)) passed in
      join (members_in c all_disks id group p.disk) (not (is_stale_by (Some next) p)) (among_all c disks id group p.disk parts.0) (not_from_false (calls_stale next.value p) (⊎_elim
      (λ (called : calls_stale next.value p ≡ true). absurd (⊎_elim
      (λ (before : IsTrue (calls_stale was.value p)). clash (calls_stale was.value p) before (not-true (calls_stale was.value p) parts.1))
      (λ (left : IsFalse (is_voter c disks id p.disk) × IsSome (fresh c disks id row lp)). clash (is_voter c disks id p.disk) (ap (λ (v : Disks). v p.disk) by_found.voters ∙ parts.0) left.0)
      (may.marks.only row lp p volume one called)))
      (λ (free : calls_stale next.value p ≡ false). free)
      (either (calls_stale next.value p))))

  -- so each logical partition keeps a fresh copy
  still_fresh : (row : LvRow) (lp : ℕ) (p : Pp) → IsOneOf group.lvs row → IsOneOf (copies_of row lp) p × (tests (members_in c all_disks id group) was p ≡ true) → IsSome (fresh_on (members_in c all_disks id group) (Some next) row lp)
  still_fresh row lp p volume is =
      let parts = split (members_in c all_disks id group p.disk) (not (is_stale_by (Some was) p)) is.1 in
      ⊎_elim
      (λ (called : calls_stale next.value p ≡ true). ⊎_elim
      (λ (before : IsTrue (calls_stale was.value p)). absurd (clash (calls_stale was.value p) before (not-true (calls_stale was.value p) parts.1)))
      (λ (left : IsFalse (is_voter c disks id p.disk) × IsSome (fresh c disks id row lp)). from_voter left.1)
      (may.marks.only row lp p volume is.0 called))
      (λ (free : calls_stale next.value p ≡ false). goes_in (tests (members_in c all_disks id group) next) (copies_of row lp) p is.0
      (join (members_in c all_disks id group p.disk) (not (is_stale_by (Some next) p)) parts.0 (not_from_false (calls_stale next.value p) free)))
      (either (calls_stale next.value p))
    where
      from_voter : IsSome (fresh c disks id row lp) → IsSome (fresh_on (members_in c all_disks id group) (Some next) row lp)
      from_voter some =
          let found : IsSome (fresh_on (members_in c disks id group) (Some was) row lp) =
          subst (λ (s : Option (Stamped Status)). IsSome (fresh_on (members_in c disks id group) s row lp)) may.status (subst (λ (v : Disks). IsSome (fresh_on v (status_among c disks id) row lp)) by_found.voters some) in
          let q = one_of_some (fresh_on (members_in c disks id group) (Some was) row lp) found in
          let is = filter_one (tests (members_in c disks id group) was) (copies_of row lp) q.0 q.1 in
          goes_in (tests (members_in c all_disks id group) next) (copies_of row lp) q.0 is.0 (voter_stays row lp q.0 volume is.0 is.1)

  some_of_group : (row : LvRow) (lp : ℕ) → IsOneOf group.lvs row → lp < row.lps → IsSome (fresh_on (members_in c all_disks id group) (Some next) row lp)
  some_of_group row lp volume inside =
      let found : IsSome (fresh_on (members_in c all_disks id group) (Some was) row lp) =
      subst (λ (s : Option (Stamped Status)). IsSome (fresh_on (members_in c all_disks id group) s row lp)) was_read (kept.lasting.some disks id group group by_found.reads (disks, may.newest_is.found) row lp volume inside) in
      let p = one_of_some (fresh_on (members_in c all_disks id group) (Some was) row lp) found in
      still_fresh row lp p.0 volume (filter_one (tests (members_in c all_disks id group) was) (copies_of row lp) p.0 p.1)

  serves : Serves c facts id next
  serves = serving c id next facts group (only_found c group disks newest facts within may.newest_is kept) across some_of_group

pub restate_keeps : RestateKeeps
restate_keeps group disks targets newest was next old new facts within may change kept =
    put_keeps old group.id next facts targets new change may.own may.showing may.later (serves old group disks targets newest was next facts within may kept) kept

-- ---- the notes

-- what holds of those that pass, and more by the test
refined : {X : Type 0} (P R : X → Type 0) (q : X → Bool) → ((x : X) → q x ≡ true → P x → R x) → (xs : List X) → AllByRecursion P (filter q xs) → AllByRecursion R (filter q xs)
refined P R q each [] all = tt
refined P R q each (x ∷ xs) all = by_test (q x) refl (refined P R q each xs) all
  where
    by_test : (t : Bool) → q x ≡ t → (AllByRecursion P (filter q xs) → AllByRecursion R (filter q xs)) → AllByRecursion P (if t then x ∷ filter q xs else filter q xs) → AllByRecursion R (if t then x ∷ filter q xs else filter q xs)
    by_test true passed rest all = (each x passed all.0, rest all.1)
    by_test false passed rest all = rest all

module _ (old new : Contents) (group : Descriptor) (disks targets : Disks) (newest : Stamped Descriptor) (facts : List Fact) (within : IsWithinDisks old) (has : HasNewest old group disks newest) (quiet : HasNoActive group)
    (showing : AreShowing old group.id targets) (change : NotesOf targets old new) (kept : Kept old facts) where
  -- the disks of a set show a group
  abbrev Show : Disks → ℕ → Type 0
  Show set other = (d : ℕ) → IsTrue (set d) → passes (is_of other) (old.descriptor d) ≡ true

  module _ (other : ℕ) (k : Descriptor) (is : IsFound old other k) (set : Disks) (show : Show set other) (status : Option (Stamped Status)) where
    excuse : (row : LvRow) (lp b : ℕ) (known_now : Known) (mode : Mode) → row.mode ≡ mode → IsOneOf k.lvs row → MayDiffer old status row.number mode (fresh_on set status row lp) known_now b → MayDiffer new status row.number mode (fresh_on set status row lp) known_now b
    excuse row lp b known_now Passive mode_is volume m = m
    excuse row lp b known_now Off mode_is volume m = m
    excuse row lp b known_now Active mode_is volume m = refined (λ (p : Pp). IsTrue (is_named old p.disk row.number (track_group_of b))) (λ (p : Pp). IsTrue (is_named new p.disk row.number (track_group_of b))) (λ (p : Pp). set p.disk && not (is_stale_by status p))
        (λ p passed named. ⊎_elim
        (λ (same : new.note p.disk ≡ old.note p.disk). ap (λ (n : Option Noted). names_if n row.number (track_group_of b)) same ∙ named)
        (λ (target : IsTrue (targets p.disk)).
        let its : other ≡ group.id = one_group (old.descriptor p.disk) other group.id (show p.disk (split (set p.disk) (not (is_stale_by status p)) passed).0) (showing p.disk target) in
        absurd (quiet row (subst (λ (g : Descriptor). IsOneOf g.lvs row) (only_found old group disks newest facts within has kept k (subst (λ (n : ℕ). IsFound old n k) its is)) volume) mode_is))
        (change.own p.disk))
        (copies_of row lp) m

    excused : BlocksKept old facts k set status → StayExcused old new facts k set status
    excused blocks row lp b volume inside = ⊎_elim
        (λ held. inl held)
        (λ (m : MayDiffer old status row.number row.mode (fresh_on set status row lp) (known (facts ++ Cut ∷ []) (Lv row.number) b) b). inr (excuse row lp b (known (facts ++ Cut ∷ []) (Lv row.number) b) row.mode refl volume m))
        (blocks row lp b volume inside).equal

  voters_show : (set : Disks) (other : ℕ) (k : Descriptor) → Finds old set other k → Show (is_voter old set other) other
  voters_show set other k f d is =
      let reads : ReadsBy old set other k = finding_reads old set other k f in
      members_show set other k d (subst (λ (v : Disks). IsTrue (v d)) reads.voters is)
    where
      members_show : (set : Disks) (other : ℕ) (k : Descriptor) (d : ℕ) → IsTrue (members_in old set other k d) → passes (is_of other) (old.descriptor d) ≡ true
      members_show set other k d is = (split (set d) (passes (is_of other) (old.descriptor d)) (split (set d && passes (is_of other) (old.descriptor d)) (has_room old d k) is).0).1

  pub forgotten : Kept new facts
  forgotten = notes_keep old new facts (record {
    rest = change.rest;
    copies = λ set other k f. excused other k (set, f) (is_voter old set other) (voters_show set other k f) (status_among old set other) (kept.agrees.copies set other k f);
    across = λ b other h k reads is. excused other k is (members_in old all_disks other k) (λ d member. (split (passes (is_of other) (old.descriptor d)) (has_room old d k) member).0) (status_by old b other h) (kept.lasting.across b other h k reads is);
  }) kept

pub forgetting_keeps : ForgettingKeeps
forgetting_keeps group disks targets newest old new facts within has quiet showing change kept = forgotten old new group disks targets newest facts within has quiet showing change kept
