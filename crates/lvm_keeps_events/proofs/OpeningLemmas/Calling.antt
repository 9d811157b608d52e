-- A partition counts as stale since the session began.
use Rattle.std.proofs.Common.{◌≡◌, ◌⊎◌, inl, inr, ℕ, Bool, true, false, ◌&&◌, ◌||◌, not, Option, Some, None, refl, sym, ◌∙◌, ap, subst}
use Rattle.std.specs.Prelude.{IfSome}
use Rattle.std.specs.List.{AllByRecursion}
use Rattle.lvm_num.specs.declared.place.Pp.{Pp}
use Rattle.lvm_num.specs.declared.status.Status.{Status}
use Rattle.lvm_num.specs.Descriptor.{is_member, is_pp}
use Rattle.lvm_num.specs.Status.{calls_missing, calls_stale}
use Rattle.lvm_num.specs.Votes.{is_enough_to_write, votes_in}
use Rattle.lvm_num.proofs.Booleans.{or_left}
use Rattle.lvm_num.proofs.Lists.{all_weaker}
use Rattle.lvm_disk.specs.Device.{Flight}
use Rattle.lvm_vol.specs.declared.entry.Outcome.{Outcome}
use Rattle.lvm_vol.specs.declared.entry.Outcome.TheVariants as outcome
use Rattle.lvm_status.specs.Calls.{BecomesStale}
use Rattle.lvm_status.proofs.MarkingLemmas.{has_row-same}
use Rattle.lvm_path.specs.declared.ask.Ask.{Ask}
use Rattle.lvm_path.specs.declared.target.Target.{Target}
use Rattle.lvm_session.specs.declared.bringing.OpenCopy.{OpenCopy}
use Rattle.lvm_session.specs.declared.flown.Owner.{Owner}
use Rattle.lvm_session.specs.declared.flown.Owner.TheVariants as owner
use Rattle.lvm_session.specs.declared.open.Open.{Open}
use Rattle.lvm_session.specs.declared.open.Power.TheVariants as power
use Rattle.lvm_session.specs.declared.origin.Origin.{Origin}
use Rattle.lvm_session.specs.State.{Core, State, state}
use Rattle.lvm_session.specs.Judging.{copies_for, copies_in, is_settled, is_wanted_stale}
use Rattle.lvm_session.specs.Calls.{CallsStale}
use Rattle.lvm_session.specs.Causes.{AreCounted, IsAnswered, IsCausedAmong, IsChosenSince, IsCounted, IsLandedFor, IsTrueToOrigin, was_fresh, was_usable}
use Rattle.lvm_session.specs.Owners.{AreOwned, IsTransferOf, flies}
use Rattle.lvm_session.specs.Requests.{IsAimed, IsOpenOne, IsTarget}
use Rattle.lvm_session.specs.Sound.{IsCopy, IsFitting, IsGoing, IsOn, IsSound, IsTold, may_be_fresh}
use Rattle.lvm_keeps.proofs.OwnersLemmas.Rows.{all_fly, rows_by, status_still}
use Rattle.lvm_keeps.proofs.RequestsLemmas.{if_on}
use Rattle.lvm_keeps.proofs.Small.{none_on}
use Rattle.lvm_keeps_events.proofs.Lists.{any_on}

module _ (s : State) (sound : IsSound s) (on : s.core.power ≡ power.On) (none : s.core.copy ≡ None) (to : Pp) (table : Status) (calls : BecomesStale to s.core.origin.table table) where
  abbrev core : Core
  core = s.core

  abbrev now : State
  now = state s.device (record core { origin = record core.origin { table = table } })

  fitting : IsFitting now.core
  fitting = let f = sound.fitting in record { valid = f.valid; id = f.id; rows = f.rows; group = f.group; entries = f.entries; notes = f.notes; table = f.table; most = f.most; queue = f.queue; a_buffer = f.a_buffer; buffers = f.buffers; last = f.last; room = f.room }

  told : IsTold now.core
  told = let t = sound.told in record { ordered = t.ordered; table = t.table; each = t.each; requests = t.requests }

  -- ---- what was fresh

  called : (p : Pp) → calls_stale core.origin.table p ≡ true → calls_stale table p ≡ true
  called p was = calls.stale p ∙ or_left (is_pp p to) was

  fewer : (p : Pp) → was_fresh core p ≡ false → was_fresh now.core p ≡ false
  fewer p none = ap not (called p (stale (calls_stale core.origin.table p) none))
    where
      stale : (b : Bool) → not b ≡ false → b ≡ true
      stale true e = refl
      stale false e = absurd (cc e)

  may_before : (p : Pp) → may_be_fresh now.core p ≡ true → may_be_fresh core p ≡ true
  may_before p may = by (was_fresh core p) refl may
    where
      by : (b : Bool) → was_fresh core p ≡ b → was_fresh now.core p || not (is_settled core p && is_wanted_stale core p) ≡ true → b || not (is_settled core p && is_wanted_stale core p) ≡ true
      by true was e = refl
      by false was e = sym (ap (λ b. b || not (is_settled core p && is_wanted_stale core p)) (fewer p was)) ∙ e

  unusable : (p : Pp) → was_usable core p ≡ false → was_usable now.core p ≡ false
  unusable p none = by (was_fresh core p) refl none
    where
      neither : (a b : Bool) → b ≡ false → a && b ≡ false
      neither true b e = e
      neither false b e = refl

      by : (b : Bool) → was_fresh core p ≡ b → b && not (calls_missing core.origin.table p.disk) ≡ false → was_fresh now.core p && not (calls_missing table p.disk) ≡ false
      by true was e = ap (λ m. was_fresh now.core p && not m) (calls.missing p.disk) ∙ neither (was_fresh now.core p) (not (calls_missing core.origin.table p.disk)) e
      by false was e = ap (λ b. b && not (calls_missing table p.disk)) (fewer p was)

  -- ---- requests

  target_on : (ask : Ask) (t : Target) → IsTarget core ask t → IsTarget now.core ask t
  target_on ask t its = record { copy = aimed t.moves its.copy; sector = its.sector; there = calls.missing t.pp.disk ∙ its.there }
    where
      aimed : (b : Bool) → IsAimed b core ask t → IsAimed b now.core ask t
      aimed false among = among
      aimed true place = place

  one : (o : Open) → IsOpenOne core o → IsOpenOne now.core o
  one o it = record {
    laid = let l = it.laid in record { within = l.within; blocks = l.blocks; most = l.most; id = l.id };
    waits = λ waiting. let r = it.waits waiting in let a = r.shape in let y = r.ready in record {
      shape = record {
        targets = all_weaker (IsTarget core o.request.ask) (IsTarget now.core o.request.ask) (target_on o.request.ask) o.request.targets.items a.targets;
        phase_is = a.phase_is;
        hand = a.hand;
        room = a.room;
        differ = a.differ;
        usable = a.usable;
        one = a.one;
      };
      ready = record { free = y.free; recorded = y.recorded; wanted = y.wanted; named = y.named; dirty = y.dirty };
      judged = λ write. let j = r.judged write in record { uncaught = j.uncaught; due = j.due; missed = j.missed; all = j.all; place = j.place };
    };
    over = it.over;
    still = it.still;
  }

  -- ---- while it is on

  was_on : IsOn s
  was_on = sound.on on

  going : IsGoing core
  going = was_on.going

  owned : AreOwned now.core
  owned (owner.Data id target) = going.owned (owner.Data id target)
  owned (owner.Status disk) = going.owned (owner.Status disk)
  owned (owner.Note disk) = going.owned (owner.Note disk)
  owned owner.Copy = going.owned owner.Copy

  transfer_on : (who : Owner) (f : Flight) → IsTransferOf core who f → IsTransferOf now.core who f
  transfer_on (owner.Data id target) f of = let m = of.moves in record {
    place = of.place;
    request = of.request;
    there = of.there;
    own = of.own;
    aim = of.aim;
    aim_is = of.aim_is;
    moves = record { disk_is = m.disk_is; first = m.first; count = m.count; write = m.write; carries = m.carries };
  }
  transfer_on (owner.Status disk) f of = status_still core now.core refl disk f of
  transfer_on (owner.Note disk) f of = record { note = of.note; flies = of.flies; disk_is = of.disk_is; first = of.first; count = of.count; write = of.write; carries = of.carries }
  transfer_on owner.Copy f of = absurd (let gone : None ≡ Some of.0 = sym none ∙ of.1 in cc gone)

  keeps_going : IsGoing now.core
  keeps_going = record {
    fitting = fitting;
    told = told;
    status = going.status;
    owned = owned;
    tickets = going.tickets;
    queue = going.queue;
    pinned = going.pinned;
    requests = all_weaker (IsOpenOne core) (IsOpenOne now.core) one core.requests going.requests;
    copy = subst (λ (m : Option OpenCopy). IfSome m (IsCopy now.core)) (sym none) tt;
    hands = going.hands;
    behind = going.behind;
    reviewed = going.reviewed;
    fresh = λ lv lp may. going.fresh lv lp (any_on (may_be_fresh now.core) (may_be_fresh core) may_before (copies_in core.descriptor lv lp) may);
    clearings = going.clearings;
    numbers = going.numbers;
  }

  keeps_on : IsOn now
  keeps_on = record {
    going = keeps_going;
    rows = rows_by core now.core (λ who. flies core who ≡ true) (λ who f is of. transfer_on who f of) core.flying s.device.flights (all_fly core going.owned) was_on.rows;
    caused = was_on.caused;
    chosen = subst (λ (m : Option OpenCopy). IfSome m (λ (c : OpenCopy). AllByRecursion (IsChosenSince now.core c) core.requests)) (sym none) tt;
  }

  -- ---- causes

  landed_for : (o : Open) (how : Outcome) → IsLandedFor s o how → IsLandedFor now o how
  landed_for o outcome.Done why = why
  landed_for o outcome.Got why = why
  landed_for o outcome.Lost why = why
  landed_for o outcome.ReadFailed why = why
  landed_for o outcome.NoFresh (inl failed) = inl failed
  landed_for o outcome.NoFresh (inr none) = inr (none_on (was_usable core) (was_usable now.core) unusable (copies_for core o.request.ask) none)
  landed_for o outcome.Off why = why
  landed_for o outcome.Dark why = why

  origin : IsTrueToOrigin now
  origin = let was = sound.origin in record {
    since = was.since;
    votes = ap (λ (missing : ℕ → Bool). is_enough_to_write core.descriptor (votes_in core.descriptor (λ (disk : ℕ). is_member core.descriptor disk && not (missing disk)))) same_missing ∙ was.votes;
    rows = λ disk. has_row-same core.origin.table table calls.members disk ∙ was.rows disk;
    still_missing = λ disk e. was.still_missing disk (sym (calls.missing disk) ∙ e);
    missing = λ disk e. missing_by disk (was.missing disk e);
    stale = λ p e. stale_by p (was.stale p e);
  }
    where
      same_missing : calls_missing table ≡ calls_missing core.origin.table
      same_missing = λ i disk. calls.missing disk i

      missing_by : {X : Type 0} (disk : ℕ) → (calls_missing core.origin.table disk ≡ true) ⊎ X → (calls_missing table disk ≡ true) ⊎ X
      missing_by disk (inl was) = inl (calls.missing disk ∙ was)
      missing_by disk (inr since) = inr since

      stale_by : {X : Type 0} (p : Pp) → (calls_stale core.origin.table p ≡ true) ⊎ X → (calls_stale table p ≡ true) ⊎ X
      stale_by p (inl was) = inl (called p was)
      stale_by p (inr why) = inr why

  keeps : IsSound now
  keeps = record {
    fitting = fitting;
    told = told;
    placed = λ row member there. sound.placed row member (sym (calls.missing row.disk) ∙ there);
    buffers = sound.buffers;
    none_lost = sound.none_lost;
    on = λ e. keeps_on;
    lit = sound.lit;
    dark = sound.dark;
    off = sound.off;
    over = λ e. let was = sound.over e in record { landed = was.landed; copy = was.copy; flights = was.flights; flying = was.flying };
    stuck = λ e. let was = sound.stuck e in record { requests = was.requests; copy = was.copy };
    counted = all_weaker (AreCounted s) (AreCounted now) (λ o all. all_weaker (IsCounted s) (IsCounted now) (λ t its. record { began = its.began; since = its.since }) o.request.targets.items all) core.requests sound.counted;
    answered = all_weaker (IsAnswered s) (IsAnswered now) (λ o why. if_on (IsLandedFor s o) (IsLandedFor now o) (landed_for o) o.landed why) core.requests sound.answered;
    copy = subst (λ (m : Option OpenCopy). IfSome m (λ (c : OpenCopy). IsCausedAmong now (copies_in core.descriptor c.lv c.lp) c)) (sym none) tt;
    origin = origin;
  }

-- While no copy is open a sound session stays sound where one more partition counts as stale since it began.
pub called_sound : (s : State) → IsSound s → s.core.power ≡ power.On → s.core.copy ≡ None → (to : Pp) (o : Origin) → CallsStale to s.core.origin o → IsSound (state s.device (record s.core { origin = o }))
called_sound s sound on none to o its = subst (λ (x : Origin). IsSound (state s.device (record s.core { origin = x }))) (sym same) (keeps s sound on none to o.table its.table)
  where
    same : o ≡ record s.core.origin { table = o.table }
    same = λ i. record { faults = its.faults i; table = o.table }
