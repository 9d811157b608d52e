-- Marks that are wanted one after another.
use Rattle.std.proofs.Common.{◌≡◌, inl, inr, ⊎_elim, ℕ, ◌+◌, ◌<◌, Bool, true, false, ◌&&◌, ◌||◌, not, List, [], length, take, get_or, Option, None, refl, sym, ◌∙◌, ap, subst, arith}
use Rattle.std.specs.Prelude.{◌^◌, All, count_by, if◌then◌else◌, unwrap_or}
use Rattle.std.proofs.lemmas.List.Folds.{list_any_more}
use Rattle.lvm_num.specs.declared.place.Pp.{Pp}
use Rattle.lvm_num.specs.declared.descriptor.Descriptor.{Descriptor}
use Rattle.lvm_num.specs.declared.descriptor.PvRow.{PvRow}
use Rattle.lvm_num.specs.declared.record.Stamp.{Stamp}
use Rattle.lvm_num.specs.declared.status.Status.{Status}
use Rattle.lvm_num.specs.Disks.{Disks}
use Rattle.lvm_num.specs.Descriptor.{is_member, is_pp}
use Rattle.lvm_num.specs.Votes.{CanWrite}
use Rattle.lvm_disk.specs.Device.{Device}
use Rattle.lvm_num.specs.Status.{calls_stale}
use Rattle.lvm_status.specs.Table.{SameMembers, SameMissing}
use Rattle.lvm_status.specs.declared.change.Change.{Change}
use Rattle.lvm_status.specs.declared.change.Change.TheVariants as change
use Rattle.lvm_status.specs.Update.{Updates, Stored, seen, is_held, is_owed, no_disks}
use Rattle.lvm_status.specs.Calls.{BecomesStale, BecomesFresh, IsMarkable, closed, with_wanted, given_up}
use Rattle.lvm_write.specs.Written.{HaveRoom}
use Rattle.lvm_commit.specs.Settling.{HasSameRows, HoldsWithin, IsForgotten, MayCommit, MaySettle, is_held_so, many_there, there}
use Rattle.lvm_commit.proofs.RoundsLemmas.Wanting.{row_stays}
use Rattle.lvm_session.specs.Marks.{is_among}
use Rattle.lvm_core.specs.Committing.{MarksCopies}
use Rattle.lvm_core.specs.Steps.{IsMarked, WantsMarksAtMost}
pub use Rattle.lvm_num.proofs.DescriptorLemmas.Partitions.{one_partition as pp_is}

-- ---- so far

-- These marks were made, and nothing where none was to be.
pub record SoFar (to_stale to_fresh : List Pp) (none : Type 0) (old now : Stored) : Type 0 where
  pub rest : WantsMarksAtMost old now
  pub dirty : now.wanted.dirty ≡ old.wanted.dirty
  pub marks : MarksCopies to_stale to_fresh old.wanted now.wanted
  pub same : none → now ≡ old

-- nothing has changed
pub at_most_none : (old : Stored) → old.in_flight ≡ None → WantsMarksAtMost old old
at_most_none old idle = record { group = refl; committed = refl; idle = idle; stamp = refl; rows = record { id = refl; big = refl; disks = refl }; missing = λ d. refl; forgotten = λ was. was }

pub none_marked : (none : Type 0) (old : Stored) → old.in_flight ≡ None → SoFar [] [] none old old
none_marked none old idle = record {
  rest = at_most_none old idle;
  dirty = refl;
  marks = λ p. all_as_before (calls_stale old.wanted p);
  same = λ none. refl;
}
  where
    all_as_before : (a : Bool) → a ≡ (a || false) && not false
    all_as_before true = refl
    all_as_before false = refl

pub markable_still : (old now : Status) (p : Pp) → HasSameRows old now → IsMarkable old p → IsMarkable now p
markable_still old now p rows may = record { row = row_stays old now rows p.disk ∙ may.row; partition = may.partition }

-- ---- one more

more_among : (pps : List Pp) (i : ℕ) (p q : Pp) → i < length pps → p ≡ get_or pps i p → is_among (take (i + 1) pps) q ≡ (is_among (take i pps) q || is_pp q p)
more_among pps i p q within is = list_any_more (λ (r : Pp). is_pp q r) pps i p within ∙ ap (λ (r : Pp). is_among (take i pps) q || is_pp q r) (sym is)

-- what a change that wants a mark keeps
record Wanted (old new : Stored) : Type 0 where
  group : new.group ≡ old.group
  committed : new.committed ≡ old.committed
  idle : new.in_flight ≡ None
  stamp : new.stamp ≡ old.stamp
  forgotten : IsForgotten old → IsForgotten new

wanted_keeps : (old new : Stored) (u : Updates) → u ≡ record (seen old) { wanted = new.wanted } → old.in_flight ≡ None → seen new ≡ closed u → Wanted old new
wanted_keeps old new u is idle rest = by_test (is_held u && not (is_owed u)) rest
  where
    by_test : (b : Bool) → seen new ≡ (if b then record u { in_flight = None; unstarted = no_disks; started = no_disks; written = no_disks; failed = no_disks } else u) → Wanted old new
    by_test true e = record {
      group = ap (λ (x : Updates). x.group) e ∙ ap (λ (x : Updates). x.group) is;
      committed = ap (λ (x : Updates). x.committed) e ∙ ap (λ (x : Updates). x.committed) is;
      idle = ap (λ (x : Updates). x.in_flight) e;
      forgotten = λ was none d. (ap (λ (x : Updates). x.unstarted d) e, ap (λ (x : Updates). x.started d) e, ap (λ (x : Updates). x.written d) e, ap (λ (x : Updates). x.failed d) e);
      stamp = ap (λ (x : Updates). x.stamp) e ∙ ap (λ (x : Updates). x.stamp) is;
    }
    by_test false e = record {
      group = ap (λ (x : Updates). x.group) e ∙ ap (λ (x : Updates). x.group) is;
      committed = ap (λ (x : Updates). x.committed) e ∙ ap (λ (x : Updates). x.committed) is;
      idle = ap (λ (x : Updates). x.in_flight) e ∙ ap (λ (x : Updates). x.in_flight) is ∙ idle;
      forgotten = λ was none d. let all = was idle d in (
        ap (λ (x : Updates). x.unstarted d) (e ∙ is) ∙ all.0,
        ap (λ (x : Updates). x.started d) (e ∙ is) ∙ all.1,
        ap (λ (x : Updates). x.written d) (e ∙ is) ∙ all.2,
        ap (λ (x : Updates). x.failed d) (e ∙ is) ∙ all.3,
      );
      stamp = ap (λ (x : Updates). x.stamp) e ∙ ap (λ (x : Updates). x.stamp) is;
    }

-- a change that wants a mark changes marks at most
wants_mark : (old new : Stored) → Wanted old new → SameMembers old.wanted new.wanted → SameMissing old.wanted new.wanted → WantsMarksAtMost old new
wants_mark old new kept members missing =
    let rows : HasSameRows old.wanted new.wanted = record { id = members.id; big = members.big; disks = members.disks } in
    record { group = kept.group; committed = kept.committed; idle = kept.idle; stamp = kept.stamp; rows = rows; missing = missing; forgotten = kept.forgotten }

-- the same marks, said of other lists
remarked : (stale fresh more fresher : List Pp) (none : Type 0) (old now : Stored) → SoFar stale fresh none old now → MarksCopies more fresher old.wanted now.wanted → SoFar more fresher none old now
remarked stale fresh more fresher none old now so_far marks = record { rest = so_far.rest; dirty = so_far.dirty; marks = marks; same = so_far.same }

-- first marks, and then more
pub rest_then : (old mid new : Stored) → WantsMarksAtMost old mid → WantsMarksAtMost mid new → WantsMarksAtMost old new
rest_then old mid new one two = record {
  group = two.group ∙ one.group;
  committed = two.committed ∙ one.committed;
  idle = two.idle;
  stamp = two.stamp ∙ one.stamp;
  rows = record { id = two.rows.id ∙ one.rows.id; big = two.rows.big ∙ one.rows.big; disks = two.rows.disks ∙ one.rows.disks };
  missing = λ d. two.missing d ∙ one.missing d;
  forgotten = λ was. two.forgotten (one.forgotten was);
}

-- what one that is marked leaves as it was
pub rest_marked : (old now new : Stored) (mark : Change) → given_up mark (seen now).unstarted ≡ (seen now).unstarted → WantsMarksAtMost old now → SameMembers now.wanted new.wanted → SameMissing now.wanted new.wanted
    → seen new ≡ with_wanted (seen now) mark new.wanted → WantsMarksAtMost old new
rest_marked old now new mark none so_far members missing rest =
    let as_wanted = ap (λ (unstarted : Disks). record (seen now) { wanted = new.wanted; unstarted = unstarted }) none in
    let kept = wanted_keeps now new (record (seen now) { wanted = new.wanted; unstarted = given_up mark (seen now).unstarted }) as_wanted so_far.idle rest in
    rest_then old now new so_far (wants_mark now new kept members missing)

module _ (pps : List Pp) (none : Type 0) (i : ℕ) (p : Pp) (within : i < length pps) (its : p ≡ get_or pps i p) (old now : Stored) where
  -- a partition that is stale already
  pub stale_passed : SoFar (take i pps) [] none old now → calls_stale now.wanted p ≡ true → SoFar (take (i + 1) pps) [] none old now
  stale_passed so_far is = remarked (take i pps) [] (take (i + 1) pps) [] none old now so_far (λ q. by_test q (is_pp q p) refl)
    where
      simple : (a b : Bool) → (a || b) && not false ≡ (a || (b || false)) && not false
      simple true b = refl
      simple false true = refl
      simple false false = refl

      full : (a b : Bool) → true ≡ (a || (b || true)) && not false
      full true b = refl
      full false true = refl
      full false false = refl

      by_test : (q : Pp) (t : Bool) → is_pp q p ≡ t → calls_stale now.wanted q ≡ (calls_stale old.wanted q || is_among (take (i + 1) pps) q) && not (is_among [] q)
      by_test q true e =
          ap (calls_stale now.wanted) (pp_is q p e) ∙ is ∙ full (calls_stale old.wanted q) (is_among (take i pps) q)
          ∙ ap (λ (b : Bool). (calls_stale old.wanted q || (is_among (take i pps) q || b)) && not false) (sym e)
          ∙ ap (λ (b : Bool). (calls_stale old.wanted q || b) && not false) (sym (more_among pps i p q within its))
      by_test q false e =
          so_far.marks q ∙ simple (calls_stale old.wanted q) (is_among (take i pps) q)
          ∙ ap (λ (b : Bool). (calls_stale old.wanted q || (is_among (take i pps) q || b)) && not false) (sym e)
          ∙ ap (λ (b : Bool). (calls_stale old.wanted q || b) && not false) (sym (more_among pps i p q within its))

  -- and one that is fresh
  pub fresh_passed : SoFar [] (take i pps) none old now → calls_stale now.wanted p ≡ false → SoFar [] (take (i + 1) pps) none old now
  fresh_passed so_far is = remarked [] (take i pps) [] (take (i + 1) pps) none old now so_far (λ q. by_test q (is_pp q p) refl)
    where
      simple : (a b : Bool) → a && not b ≡ a && not (b || false)
      simple a true = refl
      simple a false = refl

      empty : (a b : Bool) → false ≡ a && not (b || true)
      empty true true = refl
      empty true false = refl
      empty false b = refl

      by_test : (q : Pp) (t : Bool) → is_pp q p ≡ t → calls_stale now.wanted q ≡ (calls_stale old.wanted q || is_among [] q) && not (is_among (take (i + 1) pps) q)
      by_test q true e =
          ap (calls_stale now.wanted) (pp_is q p e) ∙ is ∙ empty (calls_stale old.wanted q || false) (is_among (take i pps) q)
          ∙ ap (λ (b : Bool). (calls_stale old.wanted q || false) && not (is_among (take i pps) q || b)) (sym e)
          ∙ ap (λ (b : Bool). (calls_stale old.wanted q || false) && not b) (sym (more_among pps i p q within its))
      by_test q false e =
          so_far.marks q ∙ simple (calls_stale old.wanted q || false) (is_among (take i pps) q)
          ∙ ap (λ (b : Bool). (calls_stale old.wanted q || false) && not (is_among (take i pps) q || b)) (sym e)
          ∙ ap (λ (b : Bool). (calls_stale old.wanted q || false) && not b) (sym (more_among pps i p q within its))

  module _ (new : Stored) where
    -- one that becomes stale
    pub stale_wanted : SoFar (take i pps) [] none old now → calls_stale now.wanted p ≡ false → (none → calls_stale old.wanted p ≡ true) → BecomesStale p now.wanted new.wanted → seen new ≡ with_wanted (seen now) (change.Stale p) new.wanted
        → SoFar (take (i + 1) pps) [] none old new
    stale_wanted so_far isnt clash becomes rest =
        record {
          rest = rest_marked old now new (change.Stale p) refl so_far.rest becomes.members becomes.missing rest;
          dirty = becomes.dirty ∙ so_far.dirty;
          marks = λ q.
              becomes.stale q
              ∙ ap (λ (b : Bool). b || is_pp q p) (so_far.marks q)
              ∙ both (calls_stale old.wanted q) (is_among (take i pps) q) (is_pp q p)
              ∙ ap (λ (b : Bool). (calls_stale old.wanted q || b) && not false) (sym (more_among pps i p q within its));
          same = λ no. absurd (let e = ap (λ (u : Stored). calls_stale u.wanted p) (so_far.same no) in let f = clash no in cc (e, f, isnt));
        }
      where
        both : (a b c : Bool) → ((a || b) && not false) || c ≡ (a || (b || c)) && not false
        both true b c = refl
        both false true c = refl
        both false false true = refl
        both false false false = refl

    -- one that becomes fresh
    pub fresh_wanted : SoFar [] (take i pps) none old now → calls_stale now.wanted p ≡ true → (none → calls_stale old.wanted p ≡ false) → BecomesFresh p now.wanted new.wanted → seen new ≡ with_wanted (seen now) (change.Fresh p) new.wanted
        → SoFar [] (take (i + 1) pps) none old new
    fresh_wanted so_far is clash becomes rest =
        record {
          rest = rest_marked old now new (change.Fresh p) refl so_far.rest becomes.members becomes.missing rest;
          dirty = becomes.dirty ∙ so_far.dirty;
          marks = λ q.
              becomes.stale q
              ∙ ap (λ (b : Bool). b && not (is_pp q p)) (so_far.marks q)
              ∙ both (calls_stale old.wanted q || false) (is_among (take i pps) q) (is_pp q p)
              ∙ ap (λ (b : Bool). (calls_stale old.wanted q || false) && not b) (sym (more_among pps i p q within its));
          same = λ no. absurd (let e = ap (λ (u : Stored). calls_stale u.wanted p) (so_far.same no) in let f = clash no in cc (e, f, is));
        }
      where
        both : (a b c : Bool) → (a && not b) && not c ≡ a && not (b || c)
        both true true c = refl
        both true false c = refl
        both false b c = refl

-- ---- all of them

pub marked_both : (to_stale to_fresh : List Pp) (old mid new : Stored) → IsMarked to_stale [] old mid → IsMarked [] to_fresh mid new → IsMarked to_stale to_fresh old new
marked_both to_stale to_fresh old mid new one two = record {
  rest = rest_then old mid new one.rest two.rest;
  dirty = two.dirty ∙ one.dirty;
  marks = λ p.
      two.marks p
      ∙ ap (λ (b : Bool). (b || false) && not (is_among to_fresh p)) (one.marks p)
      ∙ both (calls_stale old.wanted p) (is_among to_stale p) (is_among to_fresh p);
  same = λ are.
      let first : mid ≡ old = one.same (record { stale = are.stale; fresh = λ k d lt. absurd (omega (arith, lt)) }) in
      two.same (record { stale = λ k d lt. absurd (omega (arith, lt)); fresh = subst (λ (u : Stored). All (λ (p : Pp). calls_stale u.wanted p ≡ false) to_fresh) (sym first) are.fresh }) ∙ first;
}
  where
    both : (a b c : Bool) → (((a || b) && not false) || false) && not c ≡ (a || b) && not c
    both true b c = refl
    both false true c = refl
    both false false c = refl

-- ---- then it may be written

pub there_same : (old new : Stored) → WantsMarksAtMost old new → there new ≡ there old
there_same old new rest = λ t d. is_member (rest.group t) d && not (rest.missing d t)

may_settle : (d : Descriptor) (device : Device) (old new : Stored) → WantsMarksAtMost old new → MaySettle d old device → MaySettle d new device
may_settle d device old new rest may = record {
  valid = may.valid;
  own = may.own ∙ sym rest.group;
  idle = rest.idle;
  id = rest.rows.id ∙ may.id ∙ ap (λ (g : Descriptor). g.id) (sym rest.group);
  rows = λ disk. row_stays old.wanted new.wanted rest.rows disk ∙ may.rows disk ∙ ap (λ (g : Descriptor). is_member g disk) (sym rest.group);
  epoch = λ none. may.epoch (ap (λ (s : Stamp). s.epoch) (sym rest.stamp) ∙ none);
  room = subst (λ (set : Disks). HaveRoom device set) (sym (there_same old new rest)) may.room;
  votes = subst (λ (g : Descriptor). CanWrite g (there new)) (sym rest.group) (subst (λ (set : Disks). CanWrite old.group set) (sym (there_same old new rest)) may.votes);
}

pub may_commit : (records : ℕ) (d : Descriptor) (device : Device) (old new : Stored) → WantsMarksAtMost old new → MayCommit records d old device → MayCommit records d new device
may_commit records d device old new rest may = record {
  ready = may.ready;
  settle = may_settle d device old new rest may.settle;
  numbers = subst (λ (n : ℕ). new.stamp.seq + records + n < 2 ^ 32) (sym many) (subst (λ (t : Stamp). t.seq + records + many_there old < 2 ^ 32) (sym rest.stamp) may.numbers);
}
  where
    many : many_there new ≡ many_there old
    many = λ t. count_by (λ (row : PvRow). not (rest.missing row.disk t)) (rest.group t).pvs

twice : (a b : Bool) → a || a ≡ true → a || b ≡ true
twice true b is = refl
twice false b is = absurd (cc is)

-- the marks change neither what is committed nor what is in flight
pub marks_within : (old marked last : Stored) → WantsMarksAtMost old marked → HoldsWithin marked last → HoldsWithin old last
marks_within old marked last rest within p is = ⊎_elim
    (λ held. inl (twice (calls_stale old.committed p) (calls_stale (unwrap_or old.in_flight old.committed) p) (sym (same p) ∙ held)))
    (λ wanted. inr wanted)
    (within p is)
  where
    same : (p : Pp) → is_held_so marked p ≡ (calls_stale old.committed p || calls_stale old.committed p)
    same p = ap (λ (o : Option Status). calls_stale marked.committed p || calls_stale (unwrap_or o marked.committed) p) rest.idle ∙ ap (λ (s : Status). calls_stale s p || calls_stale s p) rest.committed
