-- What a session is after records were written, by how that ended.
use Rattle.std.proofs.Common.{◌≡◌, ℕ, ◌≤◌, Bool, false, List, length, replicate, refl, sym, ◌∙◌, ap, subst}
use Rattle.std.specs.Prelude.{Result, Ok, Err, slice_set}
use Rattle.lvm_num.specs.declared.descriptor.Descriptor.{Descriptor}
use Rattle.lvm_num.specs.Descriptor.{IsValid}
use Rattle.lvm_num.specs.DescriptorBytes.{descriptor_bytes}
use Rattle.lvm_disk.specs.Device.{Device}
use Rattle.lvm_session.specs.passed.Pbuf.{IsOut}
use Rattle.lvm_session.specs.State.{Core, State}
use Rattle.lvm_session.specs.Dark.{all_dark}
use Rattle.lvm_status.specs.Update.{Stored}
use Rattle.lvm_rec.specs.declared.homes.Homes.{Homes}
use Rattle.lvm_commit.specs.declared.commit.CommitEnd.{CommitEnd}
use Rattle.lvm_commit.specs.declared.commit.CommitEnd.TheVariants as commit_end
use Rattle.lvm_commit.specs.Settling.{IfBack, EndsAtOnce, IsOfStatus, IsOfCommit, StatusStaysKept, DescriptorStaysKept, StatusFindsNothingNew, CommitFindsNoMore, CommitLeaves, SettleEnds, StatusEnds, DescriptorEnds}
use Rattle.lvm_core.specs.declared.fault.CommitFault.{CommitFault}
use Rattle.lvm_session.specs.declared.open.Power.TheVariants as power
use Rattle.lvm_core.specs.Committing.{with_one_out}
use Rattle.lvm_core.specs.Steps.{WantsMarksAtMost, EndsAs, CoreEnds, CommitsDescriptor, CommitsStatus, EndsWith}
use Rattle.lvm_core.proofs.CommittingLemmas.Buffers.{one_is_out, back_again}

-- ---- the buffer

back_of : (Held Plain : Type 0) (n before : ℕ) (first last : Stored) (old new : Device) (how : CommitEnd) → n ≡ 0 → SettleEnds Held Plain n before first last old new how → IfBack how (λ back. back.number ≡ 0)
back_of Held Plain n before first last old new (commit_end.Done buf) is ends = ends.back.number_is ∙ is
back_of Held Plain n before first last old new (commit_end.WentOff have total buf) is ends = ends.back.number_is ∙ is
back_of Held Plain n before first last old new commit_end.Dark is ends = tt
back_of Held Plain n before first last old new commit_end.Stuck is ends = tt

pub status_numbered :
    (n before : ℕ) (first last : Stored) (homes next : Homes) (old new : Device) (how : CommitEnd) → n ≡ 0 → StatusEnds n before first last homes next old new how → IfBack how (λ back. back.number ≡ 0)
status_numbered n before first last homes next old new how is ends = back_of _ _ n before first last old new how is ends

pub descriptor_numbered :
    (content : List ℕ) (n before : ℕ) (first last : Stored) (homes next : Homes) (old new : Device) (how : CommitEnd) → n ≡ 0 → DescriptorEnds content n before first last homes next old new how
    → IfBack how (λ back. back.number ≡ 0)
descriptor_numbered content n before first last homes next old new how is ends = back_of _ _ n before first last old new how is ends

-- it is out until it is taken back
pub is_out : (how : CommitEnd) (pool taken : List Bool) → taken ≡ with_one_out pool → 1 ≤ length pool → IfBack how (λ back. back.number ≡ 0) → IfBack how (λ back. IsOut taken back.number)
is_out (commit_end.Done buf) pool taken is some back = subst (λ (p : List Bool). IsOut p buf.number) (sym is) (one_is_out pool buf.number back some)
is_out (commit_end.WentOff have total buf) pool taken is some back = subst (λ (p : List Bool). IsOut p buf.number) (sym is) (one_is_out pool buf.number back some)
is_out commit_end.Dark pool taken is some back = tt
is_out commit_end.Stuck pool taken is some back = tt

-- ---- the session

module _ (old mid new : Core) (mid_is : mid ≡ record old { pool = with_one_out old.pool; status = mid.status; homes = mid.homes }) (all : old.pool ≡ replicate (length old.pool) false) where
  pub core_ends_with : (next : Descriptor) (how : CommitEnd) (answer : Result (Unit {0}) CommitFault) → IfBack how (λ back. back.number ≡ 0) → EndsWith next mid new how answer → CoreEnds next old new how answer
  core_ends_with next (commit_end.Done buf) answer number ends =
      let is : new ≡ record old { descriptor = next; status = mid.status; homes = mid.homes } =
      ends.1
      ∙ ap (λ (c : Core). record c { descriptor = next; pool = slice_set c.pool buf.number false }) mid_is
      ∙ ap (λ (p : List Bool). record old { descriptor = next; pool = p; status = mid.status; homes = mid.homes }) (back_again old.pool buf.number number all)
      in
      (ends.0, is ∙ ap (λ (c : Core). record old { descriptor = next; status = c.status; homes = c.homes }) (sym is))
  core_ends_with next (commit_end.WentOff have total buf) answer number ends =
      let is : new ≡ record old { status = mid.status; homes = mid.homes; power = power.Off } =
      ends.1
      ∙ ap (λ (c : Core). record c { pool = slice_set c.pool buf.number false; power = power.Off }) mid_is
      ∙ ap (λ (p : List Bool). record old { pool = p; status = mid.status; homes = mid.homes; power = power.Off }) (back_again old.pool buf.number number all)
      in
      (ends.0, is ∙ ap (λ (c : Core). record old { status = c.status; homes = c.homes; power = power.Off }) (sym is))
  core_ends_with next commit_end.Dark answer number ends =
      let is : new ≡ all_dark (record old { pool = with_one_out old.pool; status = mid.status; homes = mid.homes }) = ends.1 ∙ ap all_dark mid_is in
      (ends.0, is ∙ ap (λ (c : Core). all_dark (record old { pool = with_one_out old.pool; status = c.status; homes = c.homes })) (sym is))
  core_ends_with next commit_end.Stuck answer number ends =
      let is : new ≡ record old { pool = with_one_out old.pool; status = mid.status; homes = mid.homes } = ends.1 ∙ mid_is in
      (ends.0, is ∙ ap (λ (c : Core). record old { pool = with_one_out old.pool; status = c.status; homes = c.homes }) (sym is))

  pub core_ends : (how : CommitEnd) (answer : Result (Unit {0}) CommitFault) → IfBack how (λ back. back.number ≡ 0) → EndsAs mid new how answer → CoreEnds old.descriptor old new how answer
  core_ends how answer number ends = core_ends_with old.descriptor how answer number (subst (λ (d : Descriptor). EndsWith d mid new how answer) (ap (λ (c : Core). c.descriptor) mid_is) ends)

-- where it went well the next descriptor is put in
pub well_with : (next : Descriptor) (old new : Core) (how : CommitEnd) → EndsAs old new how (Ok tt) → EndsWith next old (record new { descriptor = next }) how (Ok tt)
well_with next old new (commit_end.Done buf) ends = (refl, ap (λ (c : Core). record c { descriptor = next }) ends.1)
well_with next old new (commit_end.WentOff have total buf) ends = absurd (cc (ends.0))
well_with next old new commit_end.Dark ends = absurd (cc (ends.0))
well_with next old new commit_end.Stuck ends = absurd (cc (ends.0))

-- and else it stays
pub badly_with : (next : Descriptor) (old new : Core) (fault : CommitFault) (how : CommitEnd) → EndsAs old new how (Err fault) → EndsWith next old new how (Err fault)
badly_with next old new fault (commit_end.Done buf) ends = absurd (cc (ends.0))
badly_with next old new fault (commit_end.WentOff have total buf) ends = ends
badly_with next old new fault commit_end.Dark ends = ends
badly_with next old new fault commit_end.Stuck ends = ends

-- what is wanted and the slots stay as they were written
pub status_ends : (next : Descriptor) (mid new : Core) (how : CommitEnd) (answer : Result (Unit {0}) CommitFault) → EndsWith next mid new how answer → (new.status ≡ mid.status) × (new.homes ≡ mid.homes)
status_ends next mid new (commit_end.Done buf) answer ends = (ap (λ (c : Core). c.status) ends.1, ap (λ (c : Core). c.homes) ends.1)
status_ends next mid new _ answer ends = (ap (λ (c : Core). c.status) ends.1, ap (λ (c : Core). c.homes) ends.1)

-- ---- a descriptor

pub record DescriptorPromises (next : Descriptor) (content : List ℕ) (first last : Stored) (homes next_homes : Homes) (number before after : ℕ) (old new : Device) (how : CommitEnd) : Type 0 where
  pub ends : DescriptorEnds content number before first last homes next_homes old new how
  pub leaves : CommitLeaves next (IsOfCommit content first last) before after first last old new
  pub finds : CommitFindsNoMore content first homes old new
  pub kept : DescriptorStaysKept content first homes old new

pub commits_descriptor :
    (next : Descriptor) (content : List ℕ) (first last : Stored) (homes next_homes : Homes) (number before after : ℕ) (old new : State) (how : CommitEnd) (answer : Result (Unit {0}) CommitFault)
    → IsValid next → content ≡ descriptor_bytes next → first ≡ old.core.status → homes ≡ old.core.homes → number ≡ 0 → new.core.status ≡ last → new.core.homes ≡ next_homes
    → DescriptorPromises next content first last homes next_homes number before after old.device new.device how → CoreEnds next old.core new.core how answer → CommitsDescriptor next before after old new answer
commits_descriptor next content first last homes next_homes number before after old new how answer valid bytes is at none then at_then promises goes =
    let a = subst (λ (l : List ℕ). DescriptorPromises next l first last homes next_homes number before after old.device new.device how) bytes promises in
    let b = subst (λ (u : Stored). DescriptorPromises next (descriptor_bytes next) u last homes next_homes number before after old.device new.device how) is a in
    let d = subst (λ (h : Homes). DescriptorPromises next (descriptor_bytes next) old.core.status last h next_homes number before after old.device new.device how) at b in
    let e = subst (λ (n : ℕ). DescriptorPromises next (descriptor_bytes next) old.core.status last old.core.homes next_homes n before after old.device new.device how) none d in
    let f = subst (λ (h : Homes). DescriptorPromises next (descriptor_bytes next) old.core.status last old.core.homes h 0 before after old.device new.device how) (sym at_then) e in
    let p = subst (λ (u : Stored). DescriptorPromises next (descriptor_bytes next) old.core.status u old.core.homes new.core.homes 0 before after old.device new.device how) (sym then) f in
    record { how = how; valid = valid; settles = record { ends = p.ends; leaves = p.leaves; goes = goes }; finds = p.finds; kept = p.kept }

-- ---- a status

pub record StatusPromises (group : Descriptor) (first last : Stored) (homes next_homes : Homes) (number before after : ℕ) (old new : Device) (how : CommitEnd) : Type 0 where
  pub ends : StatusEnds number before first last homes next_homes old new how
  pub leaves : CommitLeaves group (IsOfStatus first last) before after first last old new
  pub finds : StatusFindsNothingNew first homes old new
  pub kept : StatusStaysKept group first homes old new

pub commits_status :
    (Wants : Stored → Stored → Type 0) (first last : Stored) (homes next_homes : Homes) (number before after : ℕ) (old new : State) (how : CommitEnd) (answer : Result (Unit {0}) CommitFault)
    → Wants old.core.status first → WantsMarksAtMost old.core.status first → homes ≡ old.core.homes → number ≡ 0 → new.core.status ≡ last → new.core.homes ≡ next_homes
    → StatusPromises old.core.descriptor first last homes next_homes number before after old.device new.device how → CoreEnds old.core.descriptor old.core new.core how answer
    → (first.wanted ≡ first.committed → (answer ≡ Ok tt) × (new.device ≡ old.device) × (new.core ≡ record old.core { status = first })) → CommitsStatus Wants before after old new answer
commits_status Wants first last homes next_homes number before after old new how answer wants rest at none then at_then promises goes same =
    let a = subst (λ (h : Homes). StatusPromises old.core.descriptor first last h next_homes number before after old.device new.device how) at promises in
    let b = subst (λ (n : ℕ). StatusPromises old.core.descriptor first last old.core.homes next_homes n before after old.device new.device how) none a in
    let d = subst (λ (h : Homes). StatusPromises old.core.descriptor first last old.core.homes h 0 before after old.device new.device how) (sym at_then) b in
    let p = subst (λ (u : Stored). StatusPromises old.core.descriptor first u old.core.homes new.core.homes 0 before after old.device new.device how) (sym then) d in
    record { first = first; wants = wants; rest = rest; how = how; settles = record { ends = p.ends; leaves = p.leaves; goes = goes }; finds = p.finds; kept = p.kept; same = same }

-- where it ended at once
pub at_once : (Same : Type 0) (old mid new : Core) (mid_is : mid ≡ record old { pool = with_one_out old.pool; status = mid.status; homes = mid.homes }) (all : old.pool ≡ replicate (length old.pool) false) (how : CommitEnd) (answer : Result (Unit {0}) CommitFault)
    → IfBack how (λ back. back.number ≡ 0) → EndsAs mid new how answer → EndsAtOnce how Same → (Same → mid.homes ≡ old.homes) → Same × (answer ≡ Ok tt) × (new ≡ record old { status = mid.status })
at_once Same old mid new mid_is all (commit_end.Done buf) answer number ends same homes =
    let its = core_ends old mid new mid_is all (commit_end.Done buf) answer number ends in
    let is = status_ends mid.descriptor mid new (commit_end.Done buf) answer ends in
    (same, its.0, its.1 ∙ ap (λ (u : Stored). record old { status = u; homes = new.homes }) is.0 ∙ ap (λ (h : Homes). record old { status = mid.status; homes = h }) (is.1 ∙ homes same))
at_once Same old mid new mid_is all (commit_end.WentOff have total buf) answer number ends same homes = absurd same
at_once Same old mid new mid_is all commit_end.Dark answer number ends same homes = absurd same
at_once Same old mid new mid_is all commit_end.Stuck answer number ends same homes = absurd same
