-- What a session is after the records of a move were written, by how that ended.
use Rattle.std.proofs.Common.{◌≡◌, ℕ, Bool, true, false, List, [], ◌∷◌, Option, Some, None, length, replicate, if◌then◌else◌, nat_lt, refl, sym, ◌∙◌, ap, subst, arith}
use Rattle.std.specs.Prelude.{Result, Ok, Err, slice_set}
use Rattle.std.specs.List.{sum_by, AllByRecursion}
use Rattle.std.proofs.lemmas.List.Sums.{sum_by-cons}
use Rattle.std.proofs.lemmas.Bool.Decides.{nat_tests}
use Rattle.lvm_num.specs.declared.descriptor.Descriptor.{Descriptor}
use Rattle.lvm_num.specs.declared.descriptor.PvRow.{PvRow}
use Rattle.lvm_num.specs.declared.status.Status.{Status}
use Rattle.lvm_num.specs.Descriptor.{is_member}
use Rattle.lvm_num.specs.Disks.{has}
use Rattle.lvm_num.specs.Status.{calls_missing}
use Rattle.lvm_num.specs.Votes.{is_enough_to_write, total_votes, votes_of}
use Rattle.lvm_status.specs.Runs.{IsSoundStatus}
use Rattle.lvm_status.specs.Update.{is_held, seen}
use Rattle.lvm_session.proofs.WorkedLemmas.Parts.{idle_is_sound}
use Rattle.lvm_calls.specs.Reviewing.{MayReview}
use Rattle.lvm_commit.proofs.RoundsLemmas.Wanting.{row_stays}
use Rattle.lvm_disk.specs.Device.{Device}
use Rattle.lvm_rec.specs.declared.homes.Homes.{Homes}
use Rattle.lvm_status.specs.Update.{Stored}
use Rattle.lvm_commit.specs.declared.commit.CommitEnd.{CommitEnd}
use Rattle.lvm_commit.specs.declared.commit.CommitEnd.TheVariants as commit_end
use Rattle.lvm_commit.specs.Settling.{CommitFindsNoMore, CommitLeaves, DescriptorEnds, DescriptorStaysKept, HoldsWithin, IfBack, IsCommitted, IsForgotten, IsOfCommit, MayCommit}
use Rattle.lvm_core.specs.declared.fault.CommitFault.{CommitFault}
use Rattle.lvm_core.specs.Committing.{with_one_out}
use Rattle.lvm_core.proofs.CommittingLemmas.Buffers.{back_again}
use Rattle.lvm_session.specs.declared.open.Open.{Open}
use Rattle.lvm_session.specs.State.{Core, State}
use Rattle.lvm_session.specs.Bringing.{with_back}
use Rattle.lvm_session.specs.Dark.{all_dark, all_off, hand_of_copy}
use Rattle.lvm_session.specs.Hands.{AreInHand, IsOutIf, MayEnd}
use Rattle.lvm_session.specs.Marks.{Reviews}
use Rattle.lvm_move.specs.Moving.{CanBreakOff, GoesOnMoved, IfDone, MoveEnds, MoveEndsAs, MoveEndsWith, WritesMove}

-- ---- with nothing in hand it may end

none_in_hand : (pool : List Bool) (os : List Open) → AllByRecursion (λ (o : Open). o.got ≡ None) os → AreInHand pool os
none_in_hand pool [] none = tt
none_in_hand pool (o ∷ os) none = (
  record { out = subst (IsOutIf pool) (sym none.0) tt; none = λ landed. none.0 },
  none_in_hand (with_back pool o.got) os none.1,
)

pub may_end : (core : Core) → CanBreakOff core → MayEnd core
may_end core can = record {
  told = can.told;
  copy = subst (IsOutIf core.pool) (sym can.copy) tt;
  requests = none_in_hand (with_back core.pool (hand_of_copy core.copy)) core.requests can.requests;
}

-- whatever buffers are out
pub may_end_with : (core : Core) (pool : List Bool) → CanBreakOff core → MayEnd (record core { pool = pool })
may_end_with core pool can = may_end (record core { pool = pool }) (record { told = can.told; copy = can.copy; requests = can.requests })

pub can_with : (core : Core) (pool : List Bool) (status : Stored) (homes : Homes) → CanBreakOff core → CanBreakOff (record core { pool = pool; status = status; homes = homes })
can_with core pool status homes can = record { told = can.told; copy = can.copy; requests = can.requests }

-- ---- with the next descriptor where it is committed

pub well_with : (next : Descriptor) (old mid new : Core) (how : CommitEnd) → MoveEndsAs old mid how (Ok tt) → GoesOnMoved next mid new → MoveEndsWith next old new how (Ok tt)
well_with next old mid new (commit_end.Done buf) ends goes = (refl, subst (λ (c : Core). GoesOnMoved next c new) ends.1 goes)
well_with next old mid new (commit_end.WentOff have total buf) ends goes = absurd (cc (ends.0))
well_with next old mid new commit_end.Dark ends goes = absurd (cc (ends.0))
well_with next old mid new commit_end.Stuck ends goes = absurd (cc (ends.0))

pub badly_with : (next : Descriptor) (old new : Core) (fault : CommitFault) (how : CommitEnd) → MoveEndsAs old new how (Err fault) → MoveEndsWith next old new how (Err fault)
badly_with next old new fault (commit_end.Done buf) ends = absurd (cc (ends.0))
badly_with next old new fault (commit_end.WentOff have total buf) ends = ends
badly_with next old new fault commit_end.Dark ends = ends
badly_with next old new fault commit_end.Stuck ends = ends

-- what the session needs to go on with it is there, whatever buffer is back
pub may_go_on : (next : Descriptor) (old mid : Core) (how : CommitEnd) → MoveEndsAs old mid how (Ok tt) → IfDone how (MayReview (record old { descriptor = next; copy = None })) → MayReview (record mid { descriptor = next; copy = None })
may_go_on next old mid (commit_end.Done buf) ends may =
    let given : MayReview (record old { descriptor = next; copy = None; pool = slice_set old.pool buf.number false }) = record { valid = may.valid; rows = may.rows; copy = record { sound = may.copy.sound; copy = tt }; located = tt } in
    subst (λ (c : Core). MayReview (record c { descriptor = next; copy = None })) (sym ends.1) given
may_go_on next old mid (commit_end.WentOff have total buf) ends may = absurd (cc (ends.0))
may_go_on next old mid commit_end.Dark ends may = absurd (cc (ends.0))
may_go_on next old mid commit_end.Stuck ends may = absurd (cc (ends.0))

-- ---- all of it

module _ (old mid new : Core) (mid_is : mid ≡ record old { pool = with_one_out old.pool; status = mid.status; homes = mid.homes }) (all : old.pool ≡ replicate (length old.pool) false) where
  pub move_ends : (next : Descriptor) (how : CommitEnd) (answer : Result (Unit {0}) CommitFault) → IfBack how (λ back. back.number ≡ 0) → MoveEndsWith next mid new how answer → MoveEnds next mid.status mid.homes old new how answer
  move_ends next (commit_end.Done buf) answer number ends =
      let is : record mid { pool = slice_set mid.pool buf.number false } ≡ record old { status = mid.status; homes = mid.homes } =
      ap (λ (c : Core). record c { pool = slice_set c.pool buf.number false }) mid_is
      ∙ ap (λ (p : List Bool). record old { pool = p; status = mid.status; homes = mid.homes }) (back_again old.pool buf.number number all)
      in
      (ends.0, subst (λ (c : Core). GoesOnMoved next c new) is ends.1)
  move_ends next (commit_end.WentOff have total buf) answer number ends = (
    ends.0,
    ends.1
        ∙ ap (λ (c : Core). all_off (record c { pool = slice_set c.pool buf.number false })) mid_is
        ∙ ap (λ (p : List Bool). all_off (record old { pool = p; status = mid.status; homes = mid.homes })) (back_again old.pool buf.number number all),
  )
  move_ends next commit_end.Dark answer number ends = (ends.0, ends.1 ∙ ap all_dark mid_is)
  move_ends next commit_end.Stuck answer number ends = (ends.0, ends.1 ∙ mid_is)

-- what a commit of the descriptor promises
pub record MovePromises (next : Descriptor) (content : List ℕ) (first last : Stored) (old_homes homes : Homes) (number before after : ℕ) (old new : Device) (how : CommitEnd) : Type 0 where
  pub ends : DescriptorEnds content number before first last old_homes homes old new how
  pub leaves : CommitLeaves next (IsOfCommit content first last) before after first last old new
  pub finds : CommitFindsNoMore content first old_homes old new
  pub kept : DescriptorStaysKept content first old_homes old new
  pub held : HoldsWithin first last

pub writes_move :
    (next : Descriptor) (content : List ℕ) (first last : Stored) (old_homes homes : Homes) (number before after : ℕ) (old new : State) (how : CommitEnd) (answer : Result (Unit {0}) CommitFault)
    → first ≡ old.core.status → old_homes ≡ old.core.homes → number ≡ 0
    → MovePromises next content first last old_homes homes number before after old.device new.device how → MoveEnds next last homes old.core new.core how answer → WritesMove next content before after old new answer
writes_move next content first last old_homes homes number before after old new how answer is at none promises goes =
    let b = subst (λ (u : Stored). MovePromises next content u last old_homes homes number before after old.device new.device how) is promises in
    let d = subst (λ (h : Homes). MovePromises next content old.core.status last h homes number before after old.device new.device how) at b in
    let p = subst (λ (n : ℕ). MovePromises next content old.core.status last old.core.homes homes n before after old.device new.device how) none d in
    record { how = how; last = last; homes = homes; ends = p.ends; leaves = p.leaves; finds = p.finds; kept = p.kept; held = p.held; goes = goes }

-- ---- what the records leave lets the session go on

-- nobody's votes
no_votes : (f : PvRow → ℕ) (rows : List PvRow) → ((row : PvRow) → f row ≡ 0) → sum_by f rows ≡ 0
no_votes f [] none = refl
no_votes f (row ∷ rows) none = let more = sum_by-cons f row rows in let here = none row in let rest = no_votes f rows none in omega (arith, more, here, rest)

-- they are too few to write
too_few : (quorum : Bool) (total : ℕ) → (if quorum then nat_lt total 0 else nat_lt 0 0) ≡ false
too_few true total = grind (arith, nat_tests)
too_few false total = refl

-- with the status that a commit leaves nothing is under way
pub settled_sound : (u : Stored) → IsCommitted u → IsForgotten u → IsSoundStatus (seen u)
settled_sound u is forgotten =
    let none = forgotten is.idle in
    idle_is_sound (seen u) is.idle none (unheld none) (λ disk gone. sym (ap (λ (x : Status). calls_missing x disk) is.same) ∙ gone)
  where
    unheld : ((disk : ℕ) → (has u.writes.unstarted disk ≡ false) × (has u.writes.started disk ≡ false) × (has u.writes.written disk ≡ false) × (has u.writes.failed disk ≡ false)) → is_held (seen u) ≡ false
    unheld none = ap (is_enough_to_write u.group) (no_votes (λ (row : PvRow). if has u.writes.written row.disk then votes_of u.group row.disk else 0) u.group.pvs (λ row. ap (λ (b : Bool). if b then votes_of u.group row.disk else 0) (none row.disk).2))
        ∙ too_few u.group.quorum (total_votes u.group)

-- so it may be reviewed
pub may_review : (content : List ℕ) (number before after : ℕ) (first last : Stored) (old_homes homes : Homes) (old new : Device) (how : CommitEnd) (next : Descriptor) (mid : Core)
    → mid.status ≡ last → IsForgotten first → MayCommit 2 next first old → DescriptorEnds content number before first last old_homes homes old new how
    → CommitLeaves next (IsOfCommit content first last) before after first last old new → IfDone how (MayReview (record mid { descriptor = next; copy = None }))
may_review content number before after first last old_homes homes old new (commit_end.Done buf) next mid is forgotten may ends leaves =
    let settle = may.settle in
    subst (λ (u : Stored). MayReview (record mid { descriptor = next; copy = None; status = u })) (sym is) (record {
      valid = settle.valid;
      rows = λ disk. row_stays first.wanted last.wanted leaves.loses.rows disk ∙ settle.rows disk ∙ sym (ap (λ (g : Descriptor). is_member g disk) settle.own);
      copy = record { sound = settled_sound last ends.committed (leaves.forgotten forgotten); copy = tt };
      located = tt;
    })
may_review content number before after first last old_homes homes old new (commit_end.WentOff have total buf) next mid is forgotten may ends leaves = tt
may_review content number before after first last old_homes homes old new commit_end.Dark next mid is forgotten may ends leaves = tt
may_review content number before after first last old_homes homes old new commit_end.Stuck next mid is forgotten may ends leaves = tt
