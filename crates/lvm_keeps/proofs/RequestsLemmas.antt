-- What one request is judged by stays where other parts of a session change.
use Rattle.std.proofs.Common.{◌≡◌, ◌≤◌, ◌⊎◌, ◌==◌, inl, inr, ℕ, Bool, true, false, ◌&&◌, not, List, Option, Some, None, length, refl, sym, ap, subst, ◌∙◌, arith}
use Rattle.std.specs.Prelude.{IfSome, count_by, if◌then◌else◌, is_none}
use Rattle.std.specs.List.{list_any}
use Rattle.lvm_num.specs.declared.descriptor.Descriptor.{Descriptor}
use Rattle.lvm_num.specs.declared.place.Pp.{Pp}
use Rattle.lvm_num.specs.declared.status.Status.{Status}
use Rattle.lvm_num.specs.Buffer.{Buffer}
use Rattle.lvm_num.specs.Descriptor.{is_pp, member_of, partitions_used, volume_of}
use Rattle.lvm_num.specs.Status.{calls_missing, calls_stale}
use Rattle.lvm_session.specs.Calls.{copy_at}
use Rattle.lvm_num.specs.Disks.{has}
use Rattle.lvm_num.proofs.Lists.{all_weaker}
use Rattle.lvm_vol.specs.declared.entry.Outcome.{Outcome}
use Rattle.lvm_vol.specs.declared.entry.Outcome.TheVariants as outcome
use Rattle.lvm_vol.specs.Log.{Log, next_id}
use Rattle.lvm_session.specs.passed.Hold.{Waiting}
use Rattle.lvm_mwc.specs.declared.entries.CacheEntry.{CacheEntry}
use Rattle.lvm_status.specs.Update.{Stored}
use Rattle.lvm_path.specs.declared.ask.Ask.{Ask}
use Rattle.lvm_path.specs.declared.request.Request.{Request}
use Rattle.lvm_path.specs.declared.target.Target.{Target}
use Rattle.lvm_path.specs.Targets.{is_done}
use Rattle.lvm_session.specs.declared.bringing.OpenCopy.{OpenCopy}
use Rattle.lvm_session.specs.declared.bringing.CopyEnd.{CopyEnd}
use Rattle.lvm_session.specs.declared.bringing.CopyEnd.TheVariants as ending
use Rattle.lvm_session.specs.declared.bringing.Step.{Step}
use Rattle.lvm_session.specs.declared.flown.Flown.{Flown}
use Rattle.lvm_session.specs.declared.open.Open.{Open}
use Rattle.lvm_session.specs.State.{Core, State, state}
use Rattle.lvm_session.specs.Judging.{copies_in, is_caught, is_held_back, is_kept, is_missing, is_running, is_stale, group_in, is_settled, is_wanted_stale, destinations_for, pps_of}
use Rattle.lvm_session.specs.Bringing.{end_by_sources, end_of, ends_if, groups_of, hand_of, is_cleared, is_idle, is_whole, next_source, sources_of}
use Rattle.lvm_session.specs.Enabled.{is_free_step}
use Rattle.lvm_session.specs.Marks.{is_among}
use Rattle.lvm_session.specs.Requests.{IsAimed, IsTarget, IsShaped, MayBeServed, IsJudged, IsLaid, IsOpenOne, is_failed_and_sure, may_lack, will_be_kept}
use Rattle.lvm_session.specs.Causes.{IsCounted, IsLandedFor, IsCausedAmong, IsTrueToOrigin, HaveSourcesFailed}
use Rattle.lvm_session.specs.Sound.{IsCopy, IsMove, IsOfKind, IsReadFrom, IsStaleCopy, stays_fresh}
use Rattle.lvm_session.proofs.MovesLemmas.{among_filter, among_filtered}
use Rattle.lvm_keeps.proofs.Small.{and_on, left_on, most_on, none_on}

-- the places to which a copy moves are the same, for each request
abbrev pub SamePlaces : Core → Core → Type 0
SamePlaces core now = (ask : Ask) → destinations_for core ask ≡ destinations_for now ask

-- what else the targets of a request are read off
abbrev pub Placing : Type 0
Placing = Descriptor × Status

abbrev pub placing : Core → Placing
placing core = (core.descriptor, core.origin.table)

-- where that stays, so does the shape of each request
pub target_still : (core now : Core) → placing core ≡ placing now → SamePlaces core now → (ask : Ask) (t : Target) → IsTarget core ask t → IsTarget now ask t
target_still core now same places ask t its = subst (λ (p : Placing). IsTarget (with_placing p) ask t) same (record { copy = aimed t.moves its.copy; sector = its.sector; there = its.there })
  where
    with_placing : Placing → Core
    with_placing p = record now { descriptor = p.0; origin = record now.origin { table = p.1 } }

    aimed : (b : Bool) → IsAimed b core ask t → IsAimed b (with_placing (placing core)) ask t
    aimed false among = among
    aimed true place = (ap (λ (ps : List Pp). is_among ps t.pp) (sym (places ask ∙ sym (ap (λ (p : Placing). destinations_for (with_placing p) ask) same))) ∙ place.0, place.1, place.2)

pub shape_still : (core now : Core) → placing core ≡ placing now → SamePlaces core now → (o : Open) → IsShaped core o → IsShaped now o
shape_still core now same places o s = record {
  targets = all_weaker (IsTarget core o.request.ask) (IsTarget now o.request.ask) (target_still core now same places o.request.ask) o.request.targets.items s.targets;
  phase_is = s.phase_is;
  hand = s.hand;
  room = s.room;
  differ = s.differ;
  usable = s.usable;
  one = s.one;
}

-- ---- the copy that is open

pub same_next : (core : Core) → next_id core.history ≤ next_id core.history
same_next core = omega arith

module _ (core now : Core) (c : OpenCopy) (st : Step) (tried : ℕ) (end : Option CopyEnd) where
  abbrev stepped : OpenCopy
  stepped = record c { step = st; tried = tried; end = end }

  -- Which copy it is, how far it has come and where its step stands is as it was; the rest is asked in the order of IsCopy.
  pub copy_stepped : now.descriptor ≡ core.descriptor → next_id core.history ≤ next_id now.history → IsCopy core c → IfSome (hand_of st) (λ (buf : Buffer). length buf.sectors ≡ 256)
      → (is_idle st ≡ false → is_free_step now stepped ≡ true) → (is_running stepped ≡ false → hand_of st ≡ None)
      → ((disk : ℕ) → has tried disk ≡ true → list_any (λ (p : Pp). not (is_pp p c.pp) && p.disk == disk) (copies_in now.descriptor c.lv c.lp) ≡ true) → IsReadFrom st (copies_in now.descriptor c.lv c.lp) stepped
      → (is_running stepped ≡ true → is_idle st ≡ false → is_whole now stepped ≡ false) → IsOfKind c.moves now stepped → IsCopy now stepped
  copy_stepped same later its room free hand tries source under_way kind = let low = its.place.1 in record {
    row = its.row;
    volume = ap (λ (d : Descriptor). volume_of d c.lv) same ∙ its.volume;
    lp = its.lp;
    kind = kind;
    cursor = subst (λ (d : Descriptor). c.cursor ≤ groups_of (record core { descriptor = d })) (sym same) its.cursor;
    faults = its.faults;
    place = (its.place.0, omega (arith, low, later), its.place.2);
    room = room;
    free = free;
    hand = hand;
    tried = tries;
    source = source;
    under_way = under_way;
  }

  -- What it is stays, where its marks are such, and some copy beside a move stays fresh.
  pub kind_by : now.descriptor ≡ core.descriptor → now.origin.table ≡ core.origin.table
      → (IsStaleCopy core c → (is_running stepped ≡ true → is_whole now stepped ≡ false → (is_settled now c.pp ≡ true) × (is_wanted_stale now c.pp ≡ true)) × (is_running stepped ≡ true → is_whole now stepped ≡ true → (is_stale now c.pp ≡ true) × (is_wanted_stale now c.pp ≡ false)))
      → (IsMove core c → (is_running stepped ≡ true → is_whole now stepped ≡ true → is_wanted_stale now c.pp ≡ false) × (list_any (stays_fresh now) (copies_in now.descriptor c.lv c.lp) ≡ true))
      → (b : Bool) → (b ≡ true → IsMove core c → end ≡ Some ending.Done → ⊥) → IsOfKind b core c → IsOfKind b now stepped
  kind_by same origin stale clear false ends k = record { its = ap (λ (d : Descriptor). copy_at (copies_in d c.lv c.lp) c.copy) same ∙ k.its; stale = (stale k).0; clearing = (stale k).1 }
  kind_by same origin stale clear true ends k = record {
    from = k.from;
    its = ap (λ (d : Descriptor). copy_at (copies_in d c.lv c.lp) c.copy) same ∙ k.its;
    free = ap (λ (d : Descriptor). is_among (partitions_used d) c.pp) same ∙ k.free;
    member = k.member;
    member_is = ap (λ (d : Descriptor). member_of d c.pp.disk) same ∙ k.member_is;
    inside = k.inside;
    apart = ap (λ (d : Descriptor). list_any (λ (p : Pp). not (is_pp p k.from) && p.disk == c.pp.disk) (copies_in d c.lv c.lp)) same ∙ k.apart;
    there = ap (λ (s : Status). calls_missing s c.pp.disk) origin ∙ k.there;
    called = ap (λ (s : Status). calls_stale s c.pp) origin ∙ k.called;
    clear = (clear k).0;
    fresh = (clear k).1;
    ends = ends refl k;
  }

  -- what has ended claims no more of a status than that some copy beside a move stays fresh
  pub kind_over : now.descriptor ≡ core.descriptor → now.origin.table ≡ core.origin.table → is_running stepped ≡ false
      → (list_any (stays_fresh core) (copies_in core.descriptor c.lv c.lp) ≡ true → list_any (stays_fresh now) (copies_in now.descriptor c.lv c.lp) ≡ true) → (b : Bool) → (b ≡ true → IsMove core c → end ≡ Some ending.Done → ⊥)
      → IsOfKind b core c → IsOfKind b now stepped
  kind_over same origin over fresh = kind_by same origin (λ k. (λ goes e. no goes, λ goes e. no goes)) (λ k. (λ goes e. no goes, fresh k.fresh))
    where
      no : {X : Type 0} → is_running stepped ≡ true → X
      no goes = absurd (let e : true ≡ false = sym goes ∙ over in cc e)

  -- So it is where the statuses and its end stay.
  pub kind_still : now.descriptor ≡ core.descriptor → now.origin.table ≡ core.origin.table → now.status ≡ core.status → end ≡ c.end → (b : Bool) → IsOfKind b core c → IsOfKind b now stepped
  kind_still same origin status ended b k = subst (λ (g : Descriptor × Stored × Status). IsOfKind b (of g) stepped) (λ i. (sym same i, sym status i, sym origin i)) (by b k)
    where
      of : Descriptor × Stored × Status → Core
      of g = record now { descriptor = g.0; status = g.1; origin = record now.origin { table = g.2 } }

      runs : is_running stepped ≡ true → is_running c ≡ true
      runs goes = sym (ap (λ (e : Option CopyEnd). is_none e) ended) ∙ goes

      by : (b : Bool) → IsOfKind b core c → IsOfKind b (of (core.descriptor, core.status, core.origin.table)) stepped
      by false k = record { its = k.its; stale = λ goes part. k.stale (runs goes) part; clearing = λ goes all. k.clearing (runs goes) all }
      by true k = record {
        from = k.from;
        its = k.its;
        free = k.free;
        member = k.member;
        member_is = k.member_is;
        inside = k.inside;
        apart = k.apart;
        there = k.there;
        called = k.called;
        clear = λ goes all. k.clear (runs goes) all;
        fresh = k.fresh;
        ends = λ e. k.ends (sym ended ∙ e);
      }

-- the state as a whole never makes a move end as done
pub never_done : (core : Core) (c : OpenCopy) → c.moves ≡ true → end_of core c ≡ Some ending.Done → ⊥
never_done core c moves e = by (is_running c) (is_missing core c.pp.disk) (is_whole core c) (is_cleared core c) (ap (λ b. not b && stays_fresh core c.pp) moves) e
  where
    none : None ≡ Some ending.Done → ⊥
    none same = cc

    failed : Some ending.SyncFailed ≡ Some ending.Done → ⊥
    failed same = cc

    sources : (a b : Bool) → (if a then Some ending.NoFresh else ends_if b ending.SyncFailed) ≡ Some ending.Done → ⊥
    sources true b same = cc
    sources false true same = failed same
    sources false false same = none same

    by : (a b w d : Bool) → d ≡ false → (if not a then None else if b then Some ending.SyncFailed else if w then ends_if d ending.Done else end_by_sources core c) ≡ Some ending.Done → ⊥
    by false b w d clear i = none i
    by true true w d clear i = failed i
    by true false true true clear i = absurd cc
    by true false true false clear i = none i
    by true false false d clear i = sources (length (sources_of core c) == 0) (is_idle c.step && is_none (next_source core c)) i

-- it goes on by the same step, where nothing is in its way and its marks hold
pub copy_marked : (core now : Core) (c : OpenCopy) → now.descriptor ≡ core.descriptor → next_id core.history ≤ next_id now.history → IsCopy core c → (is_free_step core c ≡ true → is_free_step now c ≡ true)
    → IsOfKind c.moves now c → IsCopy now c
copy_marked core now c same later its free kind = copy_stepped core now c c.step c.tried c.end same later its its.room (λ idle. free (its.free idle)) its.hand
    (subst (λ (d : Descriptor). (disk : ℕ) → has c.tried disk ≡ true → list_any (λ (p : Pp). not (is_pp p c.pp) && p.disk == disk) (copies_in d c.lv c.lp) ≡ true) (sym same) its.tried)
    (subst (λ (d : Descriptor). IsReadFrom c.step (copies_in d c.lv c.lp) c) (sym same) its.source)
    (subst (λ (d : Descriptor). is_running c ≡ true → is_idle c.step ≡ false → is_whole (record core { descriptor = d }) c ≡ false) (sym same) its.under_way)
    kind

-- A core in which these parts have changed: the statuses, the notes, the descriptor and the origin stay.
module _ (core : Core) (history : Log) (requests : List Open) (queue : Waiting) (copy : Option OpenCopy) (pool : List Bool) (flying : List Flown) (entries : List CacheEntry) (last : List ℕ) where
  abbrev pub changed : Core
  changed = record core { history = history; requests = requests; queue = queue; copy = copy; pool = pool; flying = flying; cache = record core.cache { entries = entries }; last = last }

  pub shape_on : SamePlaces core changed → (o : Open) → IsShaped core o → IsShaped changed o
  shape_on places o s = shape_still core changed refl places o s

  pub laid_on : (r : Request) → IsLaid core r → IsLaid changed r
  laid_on r l = record { within = l.within; blocks = l.blocks; most = l.most; id = l.id }

  module _ (o : Open) (free : is_held_back core o.request ≡ false → is_held_back changed o.request ≡ false) (caught : (p : Pp) → is_caught core (group_in core o.request.ask) p ≡ false → is_caught changed (group_in core o.request.ask) p ≡ false) where
    pub ready_on : MayBeServed core o.request → MayBeServed changed o.request
    ready_on r = record { free = λ past. free (r.free past); recorded = r.recorded; wanted = r.wanted; named = r.named; dirty = r.dirty }

    caught_before : (p : Pp) → is_caught changed (group_in core o.request.ask) p ≡ true → is_caught core (group_in core o.request.ask) p ≡ true
    caught_before p is = by (is_caught core (group_in core o.request.ask) p) refl
      where
        by : (b : Bool) → is_caught core (group_in core o.request.ask) p ≡ b → is_caught core (group_in core o.request.ask) p ≡ true
        by true before = before
        by false none = absurd (let e : true ≡ false = sym is ∙ caught p none in cc e)

    pub judged_on : ((p : Pp) → is_among (destinations_for changed o.request.ask) p ≡ true → is_among (destinations_for core o.request.ask) p ≡ true) → IsJudged core o → IsJudged changed o
    judged_on before j = record {
      uncaught = all_weaker (λ (t : Target). may_lack o t && is_caught core (group_in core o.request.ask) t.pp ≡ false) (λ (t : Target). may_lack o t && is_caught changed (group_in core o.request.ask) t.pp ≡ false)
          (λ t is. and_on (may_lack o t) (is_caught core (group_in core o.request.ask) t.pp) (is_caught changed (group_in core o.request.ask) t.pp) (caught t.pp) is) o.request.targets.items j.uncaught;
      due = λ status. most_on (count_by (is_failed_and_sure core) o.request.targets.items) (is_kept core o.request) (will_be_kept core o.request) (will_be_kept changed o.request)
          (none_on (λ (t : Target). is_done t.state && is_caught core (group_in core o.request.ask) t.pp) (λ (t : Target). is_done t.state && is_caught changed (group_in core o.request.ask) t.pp)
          (λ t. and_on (is_done t.state) (is_caught core (group_in core o.request.ask) t.pp) (is_caught changed (group_in core o.request.ask) t.pp) (caught t.pp)) o.request.targets.items) (j.due status);
      missed = j.missed;
      all = λ begun p among. left_on (is_among (pps_of o.request.targets.items) p) (is_settled core p) (is_wanted_stale core p) (is_caught core (group_in core o.request.ask) p) (is_caught changed (group_in core o.request.ask) p) (caught p) (j.all begun p among);
      place = λ begun p among.
          let its = among_filtered (is_caught changed (group_in core o.request.ask)) (destinations_for changed o.request.ask) p among in
          j.place begun p (among_filter (is_caught core (group_in core o.request.ask)) (destinations_for core o.request.ask) p (caught_before p its.1) (before p its.0));
    }

    pub open_on : SamePlaces core changed → IsOpenOne core o → IsOpenOne changed o
    open_on places it = record {
      laid = laid_on o.request it.laid;
      waits = λ waits. let r = it.waits waits in record { shape = shape_on places o r.shape; ready = ready_on r.ready; judged = λ write. judged_on (λ p among. ap (λ (ps : List Pp). is_among ps p) (places o.request.ask) ∙ among) (r.judged write) };
      over = it.over;
      still = it.still;
    }

  -- the copy that is open
  pub bring_on : (c : OpenCopy) → next_id core.history ≤ next_id history → (is_free_step core c ≡ true → is_free_step changed c ≡ true) → IsCopy core c → IsCopy changed c
  bring_on c later free its = copy_marked core changed c refl later its free (kind_still core changed c c.step c.tried c.end refl refl refl refl c.moves its.kind)

-- ---- causes

module _ (s : State) (history : Log) (requests : List Open) (queue : Waiting) (copy : Option OpenCopy) (pool : List Bool) (flying : List Flown) (entries : List CacheEntry) (last : List ℕ) where
  abbrev pub moved : State
  moved = state s.device (changed s.core history requests queue copy pool flying entries last)

  pub landed_on : (o : Open) (how : Outcome) → IsLandedFor s o how → IsLandedFor moved o how
  landed_on o outcome.Done its = its
  landed_on o outcome.Got its = its
  landed_on o outcome.Lost its = its
  landed_on o outcome.ReadFailed its = its
  landed_on o outcome.NoFresh its = its
  landed_on o outcome.Off its = its
  landed_on o outcome.Dark its = its

  pub counted_on : (t : Target) → IsCounted s t → IsCounted moved t
  counted_on t its = record { began = its.began; since = its.since }

  pub origin_on : IsTrueToOrigin s → IsTrueToOrigin moved
  origin_on its = record { since = its.since; votes = its.votes; rows = its.rows; still_missing = its.still_missing; missing = its.missing; stale = its.stale }

  pub copy_on : (copies : List Pp) (c : OpenCopy) → IsCausedAmong s copies c → IsCausedAmong moved copies c
  copy_on copies c its = record { began = its.began; since = its.since; tried = its.tried; own_began = its.own_began; own_since = its.own_since; failed = λ e. sources_on (its.failed e) }
    where
      sources_on : {own : Type 0} → own ⊎ HaveSourcesFailed s copies c → own ⊎ HaveSourcesFailed moved copies c
      sources_on (inl own) = inl own
      sources_on (inr all) = inr (record { each = all.each; number = all.number; source = all.source; source_is = all.source_is; other = all.other; one = all.one })

-- ---- where one is

pub if_on : {A : Type 0} (P Q : A → Type 0) → ((x : A) → P x → Q x) → (m : Option A) → IfSome m P → IfSome m Q
if_on P Q on None its = tt
if_on P Q on (Some x) its = on x its

-- one that hasn't landed needs no cause
pub no_cause : {A : Type 0} (P : A → Type 0) (m : Option A) → is_none m ≡ true → IfSome m P
no_cause P None none = tt
no_cause P (Some x) none = absurd cc
