-- What a session and its shelf are after a status was committed that was wanted with further marks.
use Rattle.std.proofs.Common.{◌≡◌, ◌⊎◌, ℕ, ◌<◌, ◌==◌, ◌++◌, Bool, true, false, List, refl, sym, ◌∙◌, ap, subst, ⊎_elim, inl, inr}
use Rattle.std.specs.Prelude.{◌&&◌, ◌||◌, not, IsTrue, Result, IsOk, Contains}
use Rattle.std.specs.List.{list_any}
use Rattle.std.proofs.lemmas.Bool.{false≢true, false_from_ne_true as isnt}
use Rattle.std.proofs.lemmas.List.Elements.{Contains-append_left, Contains-append_right}
use Rattle.lvm_num.specs.declared.place.Pp.{Pp}
use Rattle.lvm_num.specs.declared.record.Stamp.{Stamp}
use Rattle.lvm_num.specs.declared.descriptor.Mode.TheVariants.{Passive}
use Rattle.lvm_num.specs.declared.descriptor.LvRow.{LvRow}
use Rattle.lvm_num.specs.declared.descriptor.Descriptor.{Descriptor}
use Rattle.lvm_num.specs.Disks.{Disks}
use Rattle.lvm_num.specs.Status.{calls_stale, calls_dirty}
use Rattle.lvm_disk.specs.Counts.{NoneFalls}
use Rattle.lvm_vol.specs.Facts.{Fact}
use Rattle.lvm_kept.specs.Moments.{Moment, StaysCalm}
use Rattle.lvm_kept.specs.Plans.{Plan}
use Rattle.lvm_kept.specs.Group.{IsOneOf}
use Rattle.lvm_commit.specs.passed.Steps.{RunBegins, StaysKept, SpanGoesOn}
use Rattle.lvm_status.specs.Update.{Stored}
use Rattle.lvm_write.specs.Written.{KeepsShelf}
use Rattle.lvm_commit.specs.Committed.{IsAlike, AreOne, MayMark}
use Rattle.lvm_kept.specs.Contents.{contents_of}
use Rattle.lvm_disk.specs.Device.{image_of}
use Rattle.lvm_write.proofs.WrittenLemmas.Writing.{if_told, told_at}
use Rattle.lvm_commit.specs.LawsOfFinding.{FindsNothingNewOn}
use Rattle.lvm_commit.specs.Settling.{IsPassedOver, there, IsOf, IsOfStatus, IsPlainStatus, SessionIsHeld, SpendsNumbers, StaysHeld, WantsMarks}
use Rattle.lvm_commit.proofs.SettlingLemmas.Chaining.{keeps_wider}
use Rattle.lvm_commit.proofs.RoundsLemmas.Leaving.{passed_before}
use Rattle.lvm_core.specs.declared.fault.CommitFault.{CommitFault}
use Rattle.lvm_session.specs.State.{State, is_there}
use Rattle.lvm_session.specs.Marks.{is_among}
use Rattle.lvm_core.specs.Sound.{IsSoundAtRest}
use Rattle.lvm_core.specs.Held.{IsHeld}
use Rattle.lvm_core.specs.Settled.{IsSettled}
use Rattle.lvm_core.specs.Committing.{MarkEnds, HasStated, FailsCommitted, AreUnused, AreMarked, Restates, AreDirtied, Redirties, MayGoClean, is_in, moment_of, StaysBehind}
use Rattle.lvm_core.specs.Leaves.{IsOfCommand, NoDescriptor, NoPartition, NoVolume, Always, KeepsStatus, IsHeldSince, Leaves, marking, dirtying}
use Rattle.lvm_core.specs.Steps.{CommitsStatus, CommitsMarks, CommitsDirt, IsMarked, IsDirtied}
use Rattle.lvm_core.proofs.LeavesLemmas.{finds_nothing, passed_behind}
use Rattle.lvm_core.proofs.SoundLemmas.Own.{SameSizes}
use Rattle.lvm_core.proofs.CommittingLemmas.Spanning.{path_falls}
use Rattle.lvm_core.proofs.CommittingLemmas.Settled.{IsBegun, there_is, there_first, group_is, settles_sound, settles_numbers, records_end, fails_committed, sizes_stay, settles_history, settles_keep, settles_calm, settles_behind}
use Rattle.lvm_core.proofs.SettlingLemmas.{among_at, in_at, holds_session, first_is_of, begun, first_held, none_by, wants_marks, none_first, first_none, wants_dirt, no_dirt}

-- ---- the call

module _ (Wants : Stored → Stored → Type 0) (before after : ℕ) (old new : State) (answer : Result (Unit {0}) CommitFault) (w : CommitsStatus Wants before after old new answer) (settled_is : IsSettled old.core) (sound : IsSoundAtRest old) where
  abbrev plan : Plan
  plan = IsOfStatus w.first new.core.status

  abbrev Held : Type 0
  Held = StaysHeld w.first new.core.status old.core.homes new.core.homes old.device new.device

  abbrev Plain : Type 0
  Plain = IsPlainStatus w.first new.core.status old.core.homes old.device new.device

  own : IsOf old.core.descriptor w.first
  own = first_is_of old.core w.first w.rest sound.fitting.group

  begins : IsBegun old.core w.first
  begins = begun old.core w.first w.rest sound.fitting.group

  same : IsAlike old.core.descriptor old.core.descriptor
  same = refl

  held_first : IsHeld old.device old.core → SessionIsHeld old.device old.core.descriptor w.first old.core.homes
  held_first = first_held old.core w.first w.rest sound.fitting.group old.device

  pub status_sound : IsSoundAtRest new
  status_sound = settles_sound Held Plain old.core.descriptor plan w.first before after old new w.how answer w.settles begins settled_is sound sound.fitting.valid same

  pub status_sizes : SameSizes old.core new.core
  status_sizes = sizes_stay Held Plain old.core.descriptor plan w.first before after old new w.how answer w.settles begins settled_is sound sound.fitting.valid same

  -- where it is committed
  status_held : new.core ≡ record old.core { descriptor = old.core.descriptor; status = new.core.status; homes = new.core.homes } → Held → IsHeld old.device old.core → IsHeld new.device new.core
  status_held is stays held =
      let group = group_is Held Plain old.core.descriptor plan w.first before after old new w.how answer w.settles begins settled_is sound sound.fitting.valid same in
      subst (IsHeld new.device) (sym is) (holds_session new.device old.core old.core.descriptor new.core.status new.core.homes group (stays old.core.descriptor own (held_first held)).0)

  -- where nothing else is wanted than is committed
  pub nothing_done : w.first ≡ old.core.status → IsOk answer × (new.device ≡ old.device) × (new.core ≡ old.core)
  nothing_done none =
      let unwritten = w.same (ap (λ (u : Stored). u.wanted) none ∙ sym settled_is.committed ∙ sym (ap (λ (u : Stored). u.committed) none)) in
      (subst (λ (a : Result (Unit {0}) CommitFault). IsOk a) (sym unwritten.0) refl, unwritten.1, unwritten.2 ∙ ap (λ (u : Stored). record old.core { status = u }) none)

  status_finds : IsHeld old.device old.core → FindsNothingNewOn old.device new.device
  status_finds held = w.finds old.core.descriptor own (held_first held)

  status_falls : NoneFalls old.device.counts new.device.counts
  status_falls = path_falls old.device new.device w.kept

  pub there_is_so : there w.first ≡ is_there old.core
  there_is_so = there_first Held Plain old.core.descriptor plan w.first before after old new w.how answer w.settles begins settled_is sound sound.fitting.valid same

  pub passed_so : (p : Pp) → IsPassedOver old.core.descriptor w.first new.core.status p → IsPassedOver old.core.descriptor old.core.status new.core.status p
  passed_so p is = passed_before old.core.descriptor old.core.status w.first new.core.status p (λ d. subst (λ (set : Disks). IsTrue (set d)) (there_is_so ∙ sym (there_is old.core.descriptor old.core.status sound.fitting.group))) is

  -- what is wanted afterwards, by what is said of the marks
  pub kept_by : (S F : Pp → Type 0) (D : ℕ → Type 0)
      → ((p : Pp) → (F p → ⊥) → IsTrue (calls_stale old.core.status.wanted p) → IsTrue (calls_stale new.core.status.wanted p))
      → ((p : Pp) → IsTrue (calls_stale w.first.wanted p) → IsTrue (calls_stale old.core.status.wanted p) ⊎ S p)
      → ((lv : ℕ) → (D lv → ⊥) → calls_dirty w.first.wanted lv ≡ calls_dirty old.core.status.wanted lv) → KeepsStatus NoDescriptor S F D old new
  kept_by S F D stays more dirt =
      let loses = w.settles.leaves.loses in
      let rest = w.rest in
      record {
        group = loses.group ∙ rest.group;
        rows = record { id = loses.rows.id ∙ rest.rows.id; big = loses.rows.big ∙ rest.rows.big; disks = loses.rows.disks ∙ rest.rows.disks };
        stale = stays;
        further = λ p is. ⊎_elim
            (λ was. ⊎_elim (λ old. inl old) (λ new. inr (inl new)) (more p was))
            (λ (passed : IsPassedOver old.core.descriptor w.first new.core.status p). inr (inr (passed_behind NoDescriptor F old new old.core.descriptor (inl refl) stays p is (passed_so p passed))))
            (w.settles.leaves.left.only p is);
        dirty = λ lv out. ap (λ (numbers : List ℕ). list_any (λ n. n == lv) numbers) loses.dirty ∙ dirt lv out;
        stays = λ d is. loses.stays d (rest.missing d ∙ is);
        lost = λ d is isnt.
            let its = loses.lost d is (rest.missing d ∙ isnt) in
            (subst (λ (set : Disks). IsTrue (set d)) there_is_so its.0, its.1);
      }

  status_numbers : SpendsNumbers 1 old.core.status new.core.status
  status_numbers = settles_numbers Held Plain old.core.descriptor plan w.first before after old new w.how answer w.settles begins settled_is sound sound.fitting.valid same 1 w.settles.leaves.numbers

  status_writes : KeepsShelf (is_there old.core) (IsOfStatus old.core.status new.core.status) old.device new.device
  status_writes = keeps_wider (there w.first) (is_there old.core) plan (IsOfStatus old.core.status new.core.status) old.device new.device
      (λ d off. ap (λ (set : Disks). set d) there_is_so ∙ off)
      (λ d s value it. (
        it.0,
        record { kind = it.1.kind; status = it.1.status; own = it.1.own ∙ ap (λ (g : Descriptor). g.id) w.rest.group; content = it.1.content },
        record {
          frames = it.2.frames;
          slots = it.2.slots;
          targets = λ disk is. subst (λ (set : Disks). IsTrue (set disk)) (there_is_so ∙ sym (there_is old.core.descriptor old.core.status sound.fitting.group)) (it.2.targets disk is);
          epoch = it.2.epoch ∙ ap (λ (t : Stamp). t.epoch) w.rest.stamp;
          later = subst (λ (t : Stamp). t.seq < it.0.framed.stamp.seq) w.rest.stamp it.2.later;
          latest = it.2.latest;
          its = it.2.its;
        },
      ))
      w.settles.leaves.keeps

  status_keeps : (run : ℕ) (first : Moment) → ((past : List Fact) → RunBegins run past first → WantsMarks old.device old.core.descriptor w.first) → IsHeldSince run first old → SpanGoesOn run first (moment_of old) (moment_of new)
  status_keeps run first wants held span =
      settles_keep Held Plain old.core.descriptor plan w.first before after old new w.how answer w.settles begins settled_is sound sound.fitting.valid same
      (λ d. WantsMarks old.device old.core.descriptor w.first → SessionIsHeld old.device old.core.descriptor w.first old.core.homes → StaysKept old.device d)
      w.kept run first span
      (λ past begins holds d its. its (wants past begins) (held_first (held past begins)) (past ++ old.core.history.facts) holds.kept)

  status_calm : StaysCalm (moment_of old) (moment_of new)
  status_calm = settles_calm Held Plain old.core.descriptor plan w.first before after old new w.how answer w.settles begins settled_is sound sound.fitting.valid same

  status_behind : StaysBehind old new
  status_behind = settles_behind Held Plain old.core.descriptor plan w.first before after old new w.how answer w.settles begins settled_is sound sound.fitting.valid same (λ d n value it. (it.0, it.2))

  -- ---- all of it

  pub status_ends_so : MarkEnds before old new answer
  status_ends_so = records_end Held Plain old.core.descriptor plan w.first before after old new w.how answer w.settles begins settled_is sound sound.fitting.valid same (HasStated old.core.descriptor old new)
      (λ ok stays plain its is well ready cuts. record { settled = its; is = is; well = well; ready = ready; cuts = cuts; held = status_held is stays })

  pub status_fails : FailsCommitted old new answer
  status_fails = fails_committed Held Plain old.core.descriptor plan w.first before after old new w.how answer w.settles begins settled_is sound sound.fitting.valid same

  pub leaves_by : (S F : Pp → Type 0) (D : ℕ → Type 0) (lets : State → State → ℕ → Moment → Type 0) → KeepsStatus NoDescriptor S F D old new
      → ((run : ℕ) (first : Moment) (past : List Fact) → RunBegins run past first → lets old new run first → WantsMarks old.device old.core.descriptor w.first)
      → Leaves (record { next = NoDescriptor; zeros = NoPartition; stale = S; fresh = F; marks = D; numbers = 1; lets = lets }) before after old new
  leaves_by S F D lets keeps wants = record {
    writes = keeps_wider (is_there old.core) (is_there old.core) (IsOfStatus old.core.status new.core.status) (IsOfCommand NoDescriptor NoPartition old new) old.device new.device (λ d off. off) (λ d s value is. inl is) status_writes;
    status = keeps;
    numbers = status_numbers;
    history = settles_history Held Plain old.core.descriptor plan w.first before after old new w.how answer w.settles begins settled_is sound sound.fitting.valid same;
    spans = λ run first held let_be. status_keeps run first (λ past begins. wants run first past begins let_be) held;
    finds = λ held id k is. finds_nothing NoDescriptor old new _ status_writes.media (status_finds held) held id k is;
    calm = status_calm;
    behind = status_behind;
    falls = status_falls;
    spends = w.settles.leaves.spends;
  }

-- ---- marks of partitions

not_among : (pps : List Pp) (p : Pp) → (Contains pps p → ⊥) → is_among pps p ≡ false
not_among pps p out = isnt (is_among pps p) (λ is. out (among_at pps p is))

-- what isn't made fresh stays stale
stays_marked : (a b c : Bool) → c ≡ false → IsTrue a → IsTrue ((a || b) && not c)
stays_marked true b c fresh is = ap not fresh
stays_marked false b c fresh is = absurd (false≢true is)

-- and what is stale was so or is made so
was_marked : (a b c : Bool) → IsTrue ((a || b) && not c) → IsTrue a ⊎ IsTrue b
was_marked true b c is = inl refl
was_marked false true c is = inr refl
was_marked false false c is = absurd (false≢true is)

module _ (stale fresh : List Pp) (before after : ℕ) (old new : State) (answer : Result (Unit {0}) CommitFault) (w : CommitsMarks stale fresh before after old new answer) (settled_is : IsSettled old.core) (sound : IsSoundAtRest old) where
  wants : AreUnused old.core.descriptor (stale ++ fresh) → WantsMarks old.device old.core.descriptor w.first
  wants unused = if_told old.device.media (λ media. MayMark (contents_of (image_of old.device.sizes media)) old.core.descriptor w.first.committed w.first.wanted)
      (λ media told. wants_marks old.core stale fresh w.first w.wants settled_is sound.fitting.group sound.fitting.valid unused (contents_of (image_of old.device.sizes media)))

  -- where all marks are as they are to be
  pub none_marked : AreMarked stale fresh old.core.status.committed → IsOk answer × (new.device ≡ old.device) × (new.core ≡ old.core)
  none_marked marks = nothing_done (IsMarked stale fresh) before after old new answer w settled_is sound (none_first old.core stale fresh w.first w.wants settled_is sound.fitting.group marks)

  pub restates : AreUnused old.core.descriptor (stale ++ fresh) → Restates stale fresh old new
  restates unused = record {
    kept = λ p is. w.settles.leaves.loses.stale p (w.wants.marks p ∙ is);
    only = λ p stale_is. ⊎_elim (λ was. inl (sym (w.wants.marks p) ∙ was)) (λ (is : IsPassedOver old.core.descriptor w.first new.core.status p). inr (passed_so (IsMarked stale fresh) before after old new answer w settled_is sound p is)) (w.settles.leaves.left.only p stale_is);
    none = λ none. w.settles.leaves.left.none (first_none old.core stale fresh w.first w.wants settled_is sound.fitting.group sound.fitting.valid unused none);
  }

  stale_stays : (p : Pp) → (Contains fresh p → ⊥) → IsTrue (calls_stale old.core.status.wanted p) → IsTrue (calls_stale new.core.status.wanted p)
  stale_stays p out is =
      w.settles.leaves.loses.stale p (w.wants.marks p ∙ stays_marked (calls_stale old.core.status.wanted p) (is_among stale p) (is_among fresh p) (not_among fresh p out) is)

  marks_kept : KeepsStatus NoDescriptor (Contains stale) (Contains fresh) NoVolume old new
  marks_kept = kept_by (IsMarked stale fresh) before after old new answer w settled_is sound (Contains stale) (Contains fresh) NoVolume stale_stays
      (λ p is. ⊎_elim (λ was. inl was) (λ among. inr (among_at stale p among)) (was_marked (calls_stale old.core.status.wanted p) (is_among stale p) (is_among fresh p) (sym (w.wants.marks p) ∙ is)))
      (λ lv out. ap (λ (numbers : List ℕ). list_any (λ n. n == lv) numbers) w.wants.dirty)

  pub marks_leave : AreUnused old.core.descriptor (stale ++ fresh) → Leaves (marking stale fresh) before after old new
  marks_leave unused = leaves_by (IsMarked stale fresh) before after old new answer w settled_is sound (Contains stale) (Contains fresh) NoVolume Always marks_kept (λ run first past begins always. wants unused)

-- ---- marks of volumes

not_in : (numbers : List ℕ) (lv : ℕ) → (Contains numbers lv → ⊥) → is_in numbers lv ≡ false
not_in numbers lv out = isnt (is_in numbers lv) (λ is. out (in_at numbers lv is))

module _ (dirty clean : List ℕ) (before after : ℕ) (old new : State) (answer : Result (Unit {0}) CommitFault) (w : CommitsDirt dirty clean before after old new answer) (settled_is : IsSettled old.core) (sound : IsSoundAtRest old) where
  wants_so : MayGoClean clean old → WantsMarks old.device old.core.descriptor w.first
  wants_so may = if_told old.device.media (λ media. MayMark (contents_of (image_of old.device.sizes media)) old.core.descriptor w.first.committed w.first.wanted)
      (λ media told. wants_dirt old.core dirty clean w.first w.wants settled_is (contents_of (image_of old.device.sizes media))
      (told_at old.device.media (λ m. (row : LvRow) → IsOneOf old.core.descriptor.lvs row → row.mode ≡ Passive → Contains clean row.number → AreOne (contents_of (image_of old.device.sizes m)) old.core.descriptor old.core.status.committed row) media told may))

  -- where all marks are as they are to be
  pub none_dirtied : AreDirtied dirty clean old.core.status.committed → IsOk answer × (new.device ≡ old.device) × (new.core ≡ old.core)
  none_dirtied marks = nothing_done (IsDirtied dirty clean) before after old new answer w settled_is sound (no_dirt old.core dirty clean w.first w.wants settled_is marks)

  as_before : (a : Bool) → (a || false) && not false ≡ a
  as_before true = refl
  as_before false = refl

  pub redirties : Redirties dirty clean old new
  redirties = record {
    marks = λ lv. ap (λ (numbers : List ℕ). list_any (λ n. n == lv) numbers) w.settles.leaves.loses.dirty ∙ w.wants.marks lv;
    kept = λ p is. w.settles.leaves.loses.stale p (w.wants.stale p ∙ is);
    only = λ p stale_is. ⊎_elim (λ was. inl (sym (w.wants.stale p) ∙ was)) (λ (is : IsPassedOver old.core.descriptor w.first new.core.status p). inr (passed_so (IsDirtied dirty clean) before after old new answer w settled_is sound p is)) (w.settles.leaves.left.only p stale_is);
    none = λ none. w.settles.leaves.left.none (none_by old.core w.first w.rest sound.fitting.group (λ row lp p volume one. w.wants.stale p) none);
  }

  dirt_kept : KeepsStatus NoDescriptor NoPartition NoPartition (Contains (dirty ++ clean)) old new
  dirt_kept = kept_by (IsDirtied dirty clean) before after old new answer w settled_is sound NoPartition NoPartition (Contains (dirty ++ clean))
      (λ p out is. w.settles.leaves.loses.stale p (w.wants.stale p ∙ is))
      (λ p is. inl (sym (w.wants.stale p) ∙ is))
      (λ lv out.
      w.wants.marks lv
      ∙ ap (λ (t : Bool). (calls_dirty old.core.status.wanted lv || t) && not (is_in clean lv)) (not_in dirty lv (λ among. out (Contains-append_left dirty clean lv among)))
      ∙ ap (λ (t : Bool). (calls_dirty old.core.status.wanted lv || false) && not t) (not_in clean lv (λ among. out (Contains-append_right dirty clean lv among)))
      ∙ as_before (calls_dirty old.core.status.wanted lv))

  pub dirt_leaves : Leaves (dirtying dirty clean) before after old new
  dirt_leaves = leaves_by (IsDirtied dirty clean) before after old new answer w settled_is sound NoPartition NoPartition (Contains (dirty ++ clean)) (λ old new run first. (past : List Fact) → RunBegins run past first → MayGoClean clean old) dirt_kept (λ run first past begins may. wants_so (may past begins))
