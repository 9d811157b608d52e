-- A session that a command on its group leaves settled is sound with requests too.
use Rattle.std.proofs.Common.{◌≡◌, ◌==◌, ◌⊎◌, inl, inr, ⊎_elim, ℕ, ◌+◌, ◌≤◌, ◌<◌, ◌^◌, Bool, true, false, ◌&&◌, ◌||◌, not, List, [], ◌∷◌, Option, None, length, if◌then◌else◌, refl, sym, ◌∙◌, ap, subst, arith}
use Rattle.std.specs.Prelude.{Contains, IsTrue, count_by, is_some, slice_index_or, unwrap_or}
use Rattle.std.specs.List.{list_any, AllByRecursion}
use Rattle.std.specs.Option.{option_map_or}
use Rattle.std.proofs.lemmas.Bool.{eq-eqb}
use Rattle.lvm_num.specs.declared.descriptor.Descriptor.{Descriptor}
use Rattle.lvm_num.specs.declared.descriptor.PvRow.{PvRow}
use Rattle.lvm_num.specs.declared.place.Pp.{Pp}
use Rattle.lvm_num.specs.declared.status.Status.{Status}
use Rattle.lvm_num.specs.Descriptor.{is_member}
use Rattle.lvm_num.specs.Disks.{has}
use Rattle.lvm_num.specs.Status.{calls_stale, calls_missing}
use Rattle.lvm_num.specs.Votes.{is_enough_to_write, votes_in}
use Rattle.lvm_num.proofs.Booleans.{clash_gives}
use Rattle.lvm_num.proofs.Lists.{all_of_none, if_none, any_as}
use Rattle.lvm_num.proofs.AmongLemmas.{one_any}
use Rattle.lvm_disk.specs.Counts.{Rose}
use Rattle.lvm_disk.proofs.CountingLemmas.{rose_after, rose_before}
use Rattle.lvm_kept.specs.Group.{IsOneOf}
use Rattle.lvm_mwc.specs.declared.entries.CacheEntry.{CacheEntry}
use Rattle.lvm_mwc.specs.Cache.{Cached, flight_on}
use Rattle.lvm_mwc.specs.Entries.{pins_of}
use Rattle.lvm_status.specs.Runs.{IsSoundStatus}
use Rattle.lvm_status.specs.Table.{has_row}
use Rattle.lvm_status.specs.Update.{is_held, members_there, seen}
use Rattle.lvm_session.specs.declared.bringing.OpenCopy.{OpenCopy}
use Rattle.lvm_session.specs.declared.flown.Flown.{Flown}
use Rattle.lvm_session.specs.declared.flown.Owner.{Owner}
use Rattle.lvm_session.specs.declared.flown.Owner.TheVariants as owner
use Rattle.lvm_session.specs.declared.open.Open.{Open}
use Rattle.lvm_session.specs.declared.open.Power.TheVariants as power
use Rattle.lvm_session.specs.declared.origin.Origin.{Origin}
use Rattle.lvm_session.specs.State.{Core, State, is_there, state}
use Rattle.lvm_session.specs.Judging.{copies_in, is_missing, is_settled, is_stale, is_wanted_stale}
use Rattle.lvm_session.specs.Bringing.{end_of, has_row as has_step_row, is_out, step_row}
use Rattle.lvm_session.specs.Causes.{AreCaused, AreCounted, FailedSince, IsAnswered, IsChosenSince, IsCausedAmong, IsTrueToOrigin, faults_at_first, is_held_stale, is_over}
use Rattle.lvm_session.specs.Dark.{AreTold, hand_of_copy}
use Rattle.lvm_session.specs.Marks.{is_among, is_entailed}
use Rattle.lvm_session.specs.Owners.{AreOwned, AreRows, HaveTickets, flies, same_owner, target_flies}
use Rattle.lvm_session.specs.Placed.{ArePlaced, IsPlaced}
use Rattle.lvm_session.specs.Requests.{IsOpenOne}
use Rattle.lvm_session.specs.Sound.{IsAsked, IsCopy, IsFitting, IsGoing, IsOn, IsSound, IsTold, count_if, hands_with, is_hand, may_be_fresh, pins, stays_fresh, waiting_rows, waits, with_row}
use Rattle.lvm_session.proofs.WorkedLemmas.Parts.{idle_is_sound}
use Rattle.lvm_handover.specs.passed.Core.{IsSettled, IsSoundAtRest}
use Rattle.lvm_keeps.proofs.Lists.{count_cons}
use Rattle.lvm_num.proofs.AmongLemmas.{any_one}
use Rattle.std.proofs.lemmas.Bool.{or_left, or_right}
use Rattle.lvm_volumes.specs.Endings.{HasFresh}
use Rattle.lvm_handover.specs.Serving.{CommandsServe, GoesOnFrom, GoesOnWith, OriginIsMarked, OtherMembersServe, is_gone}
use Rattle.lvm_handover.proofs.MarksLemmas.{not_entailed}
use Rattle.lvm_keeps.proofs.VotesLemmas.{enough_more, more_votes}
use Rattle.lvm_handover.proofs.VotesLemmas.{each_row, no_votes, not_enough}

-- ---- what holds of nothing

its_own : (who : Owner) → same_owner who who ≡ true
its_own (owner.Data id target) = ap (λ (b : Bool). b && target == target) (eq-eqb id id refl) ∙ eq-eqb target target refl
its_own (owner.Status disk) = eq-eqb disk disk refl
its_own (owner.Note disk) = eq-eqb disk disk refl
its_own owner.Copy = refl

-- where nobody has a transfer out, none is the session's
pub none_flying : (core : Core) → AreOwned core → ((who : Owner) → flies core who ≡ false) → core.flying ≡ []
none_flying core owned none = by core.flying (λ who. owned who ∙ ap count_if (none who))
  where
    by : (rows : List Flown) → ((who : Owner) → count_by (λ (f : Flown). same_owner who f.owner) rows ≡ 0) → rows ≡ []
    by [] all = refl
    by (row ∷ rows) all =
        let one = all row.owner in
        let more = count_cons (λ (f : Flown). same_owner row.owner f.owner) row rows in
        let its : count_if (same_owner row.owner row.owner) ≡ 1 = ap count_if (its_own row.owner) in
        absurd (omega (arith, one, more, its))

pub nobody_flies : (core : Core) → core.requests ≡ [] → core.copy ≡ None → ((disk : ℕ) → has core.status.writes.started disk ≡ false) → ((disk : ℕ) → flight_on core.cache disk ≡ None) → (who : Owner) → flies core who ≡ false
nobody_flies core requests copy started notes (owner.Data id target) = ap (λ (os : List Open). list_any (λ (o : Open). o.request.id == id && target_flies target o) os) requests
nobody_flies core requests copy started notes (owner.Status disk) = started disk
nobody_flies core requests copy started notes (owner.Note disk) = ap is_some (notes disk)
nobody_flies core requests copy started notes owner.Copy = ap (λ (m : Option OpenCopy). option_map_or (λ (c : OpenCopy). is_out c.step) m false) copy

-- a command has left it sound between commands, and settled
pub record IsLeftSettled (new : State) : Type 0 where
  pub sound : IsSoundAtRest new
  pub settled : IsSettled new.core

module _ (added : List Pp) (old new : State) (sound : IsSound old) (began : IsSettled old.core) (is : IsLeftSettled new) (goes : GoesOnFrom added old new) where
  -- ---- what is as it was

  old_going : IsGoing old.core
  old_going = (sound.on began.power).going

  old_flying : old.core.flying ≡ []
  old_flying = none_flying old.core old_going.owned (nobody_flies old.core began.quiet.requests began.quiet.copy (λ disk. (old_going.status.idle began.quiet.status disk).1) began.quiet.notes)

  flying : new.core.flying ≡ []
  flying = ap (λ (c : Core). c.flying) goes.is ∙ old_flying

  requests : new.core.requests ≡ []
  requests = is.settled.quiet.requests

  copy : new.core.copy ≡ None
  copy = is.settled.quiet.copy

  idle : new.device.flights ≡ []
  idle = is.sound.quiet is.settled.quiet

  writes : (disk : ℕ) → (has new.core.status.writes.unstarted disk ≡ false) × (has new.core.status.writes.started disk ≡ false) × (has new.core.status.writes.written disk ≡ false) × (has new.core.status.writes.failed disk ≡ false)
  writes = is.sound.fitting.forgotten is.settled.quiet.status

  rows : new.core.queue.rows ≡ []
  rows = ap (λ (c : Core). c.queue.rows) goes.is ∙ old_going.queue
      ∙ ap (λ (m : Option OpenCopy). option_map_or (λ (c : OpenCopy). if has_step_row old.core c then with_row (step_row old.core c) (waiting_rows old.core.requests) else waiting_rows old.core.requests) m (waiting_rows old.core.requests)) began.quiet.copy
      ∙ ap waiting_rows began.quiet.requests

  -- ---- where each mark is committed

  wanted : (p : Pp) → is_stale new.core p ≡ is_wanted_stale new.core p
  wanted p = ap (λ (t : Status). calls_stale t p) is.settled.committed

  flies_as : (p : Pp) → calls_stale (unwrap_or new.core.status.in_flight new.core.status.committed) p ≡ is_wanted_stale new.core p
  flies_as p = ap (λ (m : Option Status). calls_stale (unwrap_or m new.core.status.committed) p) is.settled.quiet.status ∙ wanted p

  held_as : (p : Pp) → is_held_stale new.core p ≡ is_wanted_stale new.core p
  held_as p = ap (λ (b : Bool). b || calls_stale (unwrap_or new.core.status.in_flight new.core.status.committed) p) (wanted p) ∙ ap (λ (b : Bool). is_wanted_stale new.core p || b) (flies_as p) ∙ twice (is_wanted_stale new.core p)
    where
      twice : (b : Bool) → b || b ≡ b
      twice true = refl
      twice false = refl

  stays_as : (p : Pp) → stays_fresh new.core p ≡ not (is_wanted_stale new.core p)
  stays_as p = ap (λ (b : Bool). not b && not (is_wanted_stale new.core p)) (held_as p) ∙ twice (is_wanted_stale new.core p)
    where
      twice : (b : Bool) → not b && not b ≡ not b
      twice true = refl
      twice false = refl

  settled_as : (p : Pp) → is_settled new.core p && is_wanted_stale new.core p ≡ is_wanted_stale new.core p
  settled_as p =
      ap (λ (b : Bool). (b && calls_stale (unwrap_or new.core.status.in_flight new.core.status.committed) p) && is_wanted_stale new.core p) (wanted p)
      ∙ ap (λ (b : Bool). (is_wanted_stale new.core p && b) && is_wanted_stale new.core p) (flies_as p) ∙ thrice (is_wanted_stale new.core p)
    where
      thrice : (b : Bool) → (b && b) && b ≡ b
      thrice true = refl
      thrice false = refl

  -- ---- the served session, of which only the table of its beginning differs

  module _ (t : Status) (stale : (p : Pp) → calls_stale t p ≡ (calls_stale new.core.origin.table p || is_among added p))
      (was : (disk : ℕ) → calls_missing new.core.origin.table disk ≡ true → calls_missing t disk ≡ true)
      (so : (disk : ℕ) → calls_missing t disk ≡ true → (calls_missing new.core.origin.table disk ≡ true) ⊎ (is_missing new.core disk ≡ true))
      (same_rows : (disk : ℕ) → has_row t disk ≡ has_row new.core.origin.table disk) where
    abbrev core : Core
    core = record new.core { origin = record new.core.origin { table = t } }

    abbrev s : State
    s = state new.device core

    was_there : (disk : ℕ) → calls_missing t disk ≡ false → calls_missing new.core.origin.table disk ≡ false
    was_there disk there = by (calls_missing new.core.origin.table disk) refl
      where
        by : (b : Bool) → calls_missing new.core.origin.table disk ≡ b → b ≡ false
        by true gone = absurd (let no : true ≡ false = sym (was disk gone) ∙ there in cc no)
        by false here = refl

    missing_now : (disk : ℕ) → calls_missing t disk ≡ true → is_missing core disk ≡ true
    missing_now disk gone = ⊎_elim (λ (at : calls_missing new.core.origin.table disk ≡ true). goes.still_missing disk at) (λ (now : is_missing new.core disk ≡ true). now) (so disk gone)

    fitting : IsFitting core
    fitting = record {
      valid = is.sound.fitting.valid;
      id = is.sound.fitting.id;
      rows = is.sound.fitting.rows;
      group = is.sound.fitting.group;
      entries = is.sound.fitting.entries;
      notes = is.sound.fitting.notes;
      table = subst (λ (os : List Open). length os ≤ new.core.most) (sym requests) (omega arith);
      most = is.sound.fitting.most;
      queue = is.sound.fitting.queue;
      a_buffer = is.sound.fitting.a_buffer;
      buffers = is.sound.fitting.buffers;
      last = is.sound.fitting.last;
      room = subst (λ (n : ℕ). n < 2 ^ 32) (sym goes.room) sound.fitting.room;
    }

    told : IsTold core
    told = record {
      ordered = goes.ordered;
      table = subst (AreTold core.history.facts) (sym requests) (record { ascending = tt; still = tt });
      each = λ id. is.sound.landed id ∙ sym (ap (λ (os : List Open). waits os id) requests);
      requests = all_of_none (IsAsked core.history.facts) core.requests requests;
    }

    of_copy : {A : Type 0} (f : OpenCopy → A) (none : A) → option_map_or f core.copy none ≡ none
    of_copy f none = ap (λ (m : Option OpenCopy). option_map_or f m none) copy

    owned : AreOwned core
    owned who = ap (λ (fs : List Flown). count_by (λ (f : Flown). same_owner who f.owner) fs) flying
        ∙ sym (ap count_if (nobody_flies core requests copy (λ disk. (writes disk).1) is.settled.quiet.notes who))

    unheld : is_held (seen core.status) ≡ false
    unheld = ap (is_enough_to_write core.status.group) (no_votes core.status.group (has core.status.writes.written) (λ disk. (writes disk).2) core.status.group.pvs) ∙ not_enough core.status.group

    status : IsSoundStatus (seen core.status)
    status = idle_is_sound (seen core.status) is.settled.quiet.status writes unheld (λ disk gone. sym (ap (λ (x : Status). calls_missing x disk) is.settled.committed) ∙ gone)

    hands : (n : ℕ) → hands_with core n ≡ 0
    hands n = ap (λ (os : List Open). count_by (λ (o : Open). is_hand n o.got) os + count_if (is_hand n (hand_of_copy core.copy))) requests ∙ ap (λ (m : Option OpenCopy). 0 + count_if (is_hand n (hand_of_copy m))) copy

    -- ---- a fresh copy stays

    fresh : (lv lp : ℕ) → list_any (may_be_fresh core) (copies_in core.descriptor lv lp) ≡ true → list_any (stays_fresh core) (copies_in core.descriptor lv lp) ≡ true
    fresh lv lp some =
        let one = any_one (may_be_fresh core) (copies_in core.descriptor lv lp) some in
        any_as (stays_fresh core) (λ (p : Pp). not (is_wanted_stale new.core p)) stays_as (copies_in core.descriptor lv lp) ∙ by one.0 one.1 (calls_stale t one.0) (is_wanted_stale new.core one.0) refl refl one.2
      where
        apart : (a b c : Bool) → a ≡ (b || c) → a ≡ false → (b ≡ false) × (c ≡ false)
        apart a true c is none = absurd (let no : true ≡ false = sym is ∙ none in cc no)
        apart a false c is none = (refl, sym is ∙ none)

        by : (p : Pp) → IsOneOf (copies_in core.descriptor lv lp) p → (a b : Bool) → calls_stale t p ≡ a → is_wanted_stale new.core p ≡ b → may_be_fresh core p ≡ true → HasFresh new.core lv lp
        by p of_it false b was now may = let both = apart (calls_stale t p) (calls_stale new.core.origin.table p) (is_among added p) (stale p) was in goes.fresh lv lp p of_it both.0 both.1
        by p of_it true false was now may = one_any (λ (q : Pp). not (is_wanted_stale new.core q)) (copies_in core.descriptor lv lp) p of_it (ap not now)
        by p of_it true true was now may =
            absurd (let no : false ≡ true = sym (ap (λ (b : Bool). not b || not (is_settled new.core p && is_wanted_stale new.core p)) was ∙ ap not (settled_as p) ∙ ap not now) ∙ may in cc no)

    going : IsGoing core
    going = record {
      fitting = fitting;
      told = told;
      status = status;
      owned = owned;
      tickets = subst HaveTickets (sym flying) tt;
      queue = rows ∙ sym (of_copy (λ (c : OpenCopy). if has_step_row core c then with_row (step_row core c) (waiting_rows core.requests) else waiting_rows core.requests) (waiting_rows core.requests) ∙ ap waiting_rows requests);
      pinned = λ lv group. ap (λ (es : List CacheEntry). pins_of es lv group) goes.entries ∙ old_going.pinned lv group ∙ ap (count_by (pins lv group)) began.quiet.requests ∙ sym (ap (count_by (pins lv group)) requests);
      requests = all_of_none (IsOpenOne core) core.requests requests;
      copy = if_none (IsCopy core) core.copy copy;
      hands = λ n. let none = hands n in omega (arith, none);
      behind = λ p entailed. clash_gives (is_entailed core p) entailed (not_entailed core fitting.valid fitting.group is.settled.committed goes.left p);
      reviewed = of_copy (end_of core) None;
      fresh = fresh;
      clearings = λ p held clear. clash_gives (is_wanted_stale new.core p) (sym (held_as p) ∙ held) clear;
      numbers = goes.numbers;
    }

    on : IsOn s
    on = record {
      going = going;
      rows = subst (λ (fs : List Flown). AreRows core fs new.device.flights) (sym flying) (subst (AreRows core []) (sym idle) tt);
      caused = all_of_none (AreCaused new.device core) core.requests requests;
      chosen = if_none (λ (c : OpenCopy). AllByRecursion (IsChosenSince core c) core.requests) core.copy copy;
    }

    -- ---- its members

    placed : ArePlaced new.device.sizes core.descriptor t
    placed row among there = goes.placed row among (was_there row.disk there)

    votes : is_enough_to_write core.descriptor (votes_in core.descriptor (members_there core.descriptor t)) ≡ true
    votes = enough_more core.descriptor (votes_in core.descriptor (is_there new.core)) (votes_in core.descriptor (members_there core.descriptor t))
        (more_votes core.descriptor (is_there new.core) (members_there core.descriptor t) core.descriptor.pvs
        (each_row (λ (r : PvRow). is_there new.core r.disk ≡ true → members_there core.descriptor t r.disk ≡ true) (λ r there. there_by r.disk there) core.descriptor.pvs))
        is.settled.votes
      where
        there_by : (disk : ℕ) → is_there new.core disk ≡ true → members_there core.descriptor t disk ≡ true
        there_by disk there = by (calls_missing t disk) (is_member core.descriptor disk) (is_missing core disk) refl refl refl there
          where
            by : (a m b : Bool) → calls_missing t disk ≡ a → is_member core.descriptor disk ≡ m → is_missing core disk ≡ b → m && not b ≡ true → m && not a ≡ true
            by true m b gone member now is = absurd (let no : m && not true ≡ true = ap (λ (x : Bool). m && not x) (sym (missing_now disk gone) ∙ now) ∙ is in none m no)
              where
                none : (m : Bool) → m && false ≡ true → ⊥
                none true e = cc e
                none false e = cc e
            by false true b gone member now is = refl
            by false false b gone member now is = absurd (cc is)

    -- ---- why they are missing, and copies stale

    lost : (disk : ℕ) → is_missing core disk ≡ true → (calls_missing t disk ≡ true) ⊎ FailedSince s disk
    lost disk gone = ⊎_elim (λ (at : IsTrue (calls_missing new.core.origin.table disk)). inl (was disk at)) (λ (failed : FailedSince new disk). inr failed) (goes.missing disk gone)

    why_stale : (p : Pp) → is_wanted_stale new.core p ≡ true → (calls_stale t p ≡ true) ⊎ (is_missing core p.disk ≡ true) ⊎ FailedSince s p.disk
    why_stale p now = ⊎_elim
        (λ (at : IsTrue (calls_stale new.core.origin.table p)). inl (stale p ∙ or_left (calls_stale new.core.origin.table p) (is_among added p) at))
        (λ (rest : IsTrue (is_among added p) ⊎ IsTrue (is_missing new.core p.disk) ⊎ FailedSince new p.disk). ⊎_elim
        (λ (one : IsTrue (is_among added p)). inl (stale p ∙ or_right (calls_stale new.core.origin.table p) (is_among added p) one))
        (λ (why : IsTrue (is_missing new.core p.disk) ⊎ FailedSince new p.disk). inr why) rest)
        (goes.stale p now)

    true_to_origin : IsTrueToOrigin s
    true_to_origin = record {
      since = goes.since;
      votes = votes;
      rows = λ disk. same_rows disk ∙ goes.rows disk;
      still_missing = missing_now;
      missing = lost;
      stale = λ p held. why_stale p (by (is_held_stale new.core p) (is_wanted_stale new.core p) (held_as p) held);
    }
      where
        by : (a b : Bool) → a ≡ b → a || b ≡ true → b ≡ true
        by true b same either = sym same
        by false b same either = either

    pub is_sound : IsSound s
    is_sound = record {
      fitting = fitting;
      told = told;
      placed = placed;
      buffers = is.sound.buffers;
      none_lost = is.sound.none_lost;
      on = λ e. on;
      lit = is.sound.lit;
      dark = is.sound.dark;
      off = λ e. absurd (let no : power.On ≡ power.Off = sym is.settled.power ∙ e in cc no);
      over = λ e. absurd (let no : false ≡ true = sym (ap is_over is.settled.power) ∙ e in cc no);
      stuck = λ e. absurd (let no : power.On ≡ power.Stuck = sym is.settled.power ∙ e in cc no);
      counted = all_of_none (AreCounted s) core.requests requests;
      answered = all_of_none (IsAnswered s) core.requests requests;
      copy = if_none (λ (c : OpenCopy). IsCausedAmong s (copies_in core.descriptor c.lv c.lp) c) core.copy copy;
      origin = true_to_origin;
    }

  pub served_is_sound : (core : Core) → OriginIsMarked added new.core core → IsSound (state new.device core)
  served_is_sound core served = subst (λ (c : Core). IsSound (state new.device c)) (sym served.is)
      (is_sound core.origin.table served.marks.stale
      (λ disk gone. served.marks.missing disk ∙ or_left (calls_missing new.core.origin.table disk) (is_gone new.core disk) gone)
      (λ disk gone. by (calls_missing new.core.origin.table disk) (is_member new.core.descriptor disk) (is_missing new.core disk) (sym (served.marks.missing disk) ∙ gone))
      served.marks.rows)
    where
      by : (a m n : Bool) → a || (m && n) ≡ true → (a ≡ true) ⊎ (n ≡ true)
      by true m n either = inl refl
      by false true n either = inr either
      by false false n either = absurd (cc either)

  pub stays_sound : added ≡ [] → IsSound new
  stays_sound nothing = is_sound new.core.origin.table (λ p. or_none (calls_stale new.core.origin.table p) ∙ ap (λ (ps : List Pp). calls_stale new.core.origin.table p || is_among ps p) (sym nothing)) (λ disk gone. gone) (λ disk gone. inl gone) (λ disk. refl)
    where
      or_none : (b : Bool) → b ≡ (b || false)
      or_none true = refl
      or_none false = refl

pub other_members_serve : OtherMembersServe
other_members_serve added old new sound began settled goes = (
  (λ between. served_is_sound added old new sound began (record { sound = between; settled = settled }) goes),
  (λ nothing between. stays_sound added old new sound began (record { sound = between; settled = settled }) goes nothing),
)

-- ---- with its members as they were

module _ (added : List Pp) (old new : State) (sound : IsSound old) (goes : GoesOnWith added old new) where
  origin : new.core.origin ≡ old.core.origin
  origin = ap (λ (c : Core). c.origin) goes.is

  at_first : (disk : ℕ) → faults_at_first new.core disk ≡ faults_at_first old.core disk
  at_first disk = ap (λ (o : Origin). slice_index_or o.faults disk 0) origin

  stale_first : (p : Pp) → calls_stale new.core.origin.table p ≡ calls_stale old.core.origin.table p
  stale_first p = ap (λ (o : Origin). calls_stale o.table p) origin

  same_first : (disk : ℕ) → calls_missing new.core.origin.table disk ≡ calls_missing old.core.origin.table disk
  same_first disk = ap (λ (o : Origin). calls_missing o.table disk) origin

  since : (disk : ℕ) → FailedSince old disk → FailedSince new disk
  since disk failed = subst (λ (n : ℕ). Rose n (new.device.counts.faults disk)) (sym (at_first disk)) (rose_after failed (goes.falls.faults disk))

  lost_since : (disk : ℕ) → IsTrue (is_missing new.core disk) → IsTrue (calls_missing new.core.origin.table disk) ⊎ FailedSince new disk
  lost_since disk gone = by (is_missing old.core disk) refl
    where
      by : (b : Bool) → is_missing old.core disk ≡ b → (calls_missing new.core.origin.table disk ≡ true) ⊎ FailedSince new disk
      by true was = ⊎_elim (λ (at : calls_missing old.core.origin.table disk ≡ true). inl (same_first disk ∙ at)) (λ (failed : FailedSince old disk). inr (since disk failed)) (sound.origin.missing disk was)
      by false was = inr (subst (λ (n : ℕ). Rose n (new.device.counts.faults disk)) (sym (at_first disk)) (rose_before (sound.origin.since disk) (goes.lost disk gone was)))

  abbrev Why : Pp → Type 0
  Why p = IsTrue (calls_stale new.core.origin.table p) ⊎ IsTrue (is_among added p) ⊎ IsTrue (is_missing new.core p.disk) ⊎ FailedSince new p.disk

  stale_since : (p : Pp) → IsTrue (is_wanted_stale new.core p) → Why p
  stale_since p now = ⊎_elim by_old (λ (rest : IsTrue (is_among added p) ⊎ IsTrue (is_missing new.core p.disk)). inr (⊎_elim (λ (one : IsTrue (is_among added p)). inl one) (λ (gone : IsTrue (is_missing new.core p.disk)). inr (inl gone)) rest)) (goes.further p now)
    where
      by_old : IsTrue (is_wanted_stale old.core p) → Why p
      by_old was = ⊎_elim
          (λ (at : calls_stale old.core.origin.table p ≡ true). inl (stale_first p ∙ at))
          (λ (rest : (is_missing old.core p.disk ≡ true) ⊎ FailedSince old p.disk). inr (inr (⊎_elim (λ (gone : is_missing old.core p.disk ≡ true). inl (goes.stays p.disk gone)) (λ (failed : FailedSince old p.disk). inr (since p.disk failed)) rest)))
          (sound.origin.stale p (or_right (is_held_stale old.core p) (is_wanted_stale old.core p) was))

  placed_as : ArePlaced new.device.sizes new.core.descriptor new.core.origin.table
  placed_as row among there =
      subst (λ (sizes : List ℕ). IsPlaced sizes new.core.descriptor.mib row) (sym goes.sizes) (subst (λ (n : ℕ). IsPlaced old.device.sizes n row) (sym goes.partitions)
      (sound.placed row (subst (λ (rs : List PvRow). Contains rs row) goes.members among) (sym (same_first row.disk) ∙ there)))

  pub goes_on_from : GoesOnFrom added old new
  goes_on_from = record {
    is = goes.is ∙ ap (λ (c : Core). record old.core { descriptor = new.core.descriptor; cache = c.cache; origin = c.origin; history = new.core.history; last = new.core.last; status = new.core.status; homes = new.core.homes }) (sym goes.is);
    entries = ap (λ (c : Core). c.cache.entries) goes.is;
    placed = placed_as;
    rows = λ disk. ap (λ (o : Origin). has_row o.table disk) origin ∙ sound.origin.rows disk ∙ sym (ap (λ (rows : List PvRow). list_any (λ (row : PvRow). row.disk == disk) rows) goes.members);
    ordered = goes.ordered;
    room = goes.room;
    numbers = goes.numbers;
    left = goes.left;
    since = λ disk.
        let was : faults_at_first old.core disk ≤ old.device.counts.faults disk = sound.origin.since disk in
        let later : old.device.counts.faults disk ≤ new.device.counts.faults disk = goes.falls.faults disk in
        subst (λ (n : ℕ). n ≤ new.device.counts.faults disk) (sym (at_first disk)) (omega (arith, was, later));
    still_missing = λ disk gone. goes.stays disk (sound.origin.still_missing disk (sym (same_first disk) ∙ gone));
    missing = lost_since;
    stale = stale_since;
    fresh = λ lv lp p one first apart. goes.fresh lv lp p one (sym (stale_first p) ∙ first) apart;
  }

pub commands_serve : CommandsServe
commands_serve added old new sound began settled goes = other_members_serve added old new sound began settled (goes_on_from added old new sound goes)
