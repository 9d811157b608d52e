-- The mark of a volume that is gone goes.
use Rattle.std.proofs.Common.{◌≡◌, inr, ℕ, zero, suc, ◌<◌, ◌≤◌, Bool, true, false, ◌&&◌, ◌||◌, List, [], ◌∷◌, Option, Some, None, Result, Ok, Err, get_or, if◌then◌else◌, length, refl, sym, ap, subst, ◌∙◌, eq-eqb, arith}
use Rattle.std.specs.Prelude.{◌==◌, All, Contains, IfSome, IsFalse, IsSome, find, not}
use Rattle.std.proofs.lemmas.Bool.{eqb-true}
use Rattle.lvm_num.specs.declared.descriptor.Descriptor.{Descriptor}
use Rattle.lvm_num.specs.declared.descriptor.LvRow.{LvRow}
use Rattle.lvm_num.specs.declared.status.Status.{Status}
use Rattle.lvm_num.specs.Descriptor.{IsValid, IsVolume, is_member, volume_of}
use Rattle.lvm_num.specs.Status.{IsVolumeNumber, calls_dirty}
use Rattle.lvm_num.proofs.DescriptorLemmas.Bounds.{few_volumes}
use Rattle.lvm_vol.specs.Log.{Log}
use Rattle.lvm_kept.specs.Group.{IsOneOf}
use Rattle.lvm_core.specs.Committing.{MayGoClean, Redirties}
use Rattle.lvm_even.proofs.Rows.{row_is_volume}
use Rattle.lvm_volume_plan.proofs.passed.Commit.{one_place}
use Rattle.lvm_volume_plan.specs.passed.Core.{Always, CommitFault, HasSpareNumbers, HasStated, IsSettled, Leaves, MarkEnds, NoPartition, dirtying}
use Rattle.lvm_volume_plan.specs.passed.Commit.{NoneIsLeft, many_there}
use Rattle.lvm_session.specs.State.{Core, State}
use Rattle.lvm_volume_plan.specs.Faults.{IfOn, command_answer}
use Rattle.lvm_volume_plan.specs.PlannedVolume.{IsWithout}
use Rattle.lvm_volume_plan.proofs.NewVolumeLemmas.OldDescriptor.{valid_without, unnamed_without}
use Rattle.lvm_volumes.specs.Endings.{IfAlone, StillHeld, KeepsFresh, commanding, removing_by}
use Rattle.lvm_volumes.specs.Stages.{CommandBroke, IsGoneFrom, IsUnnamed, RemoveEnds, unmarking}
use Rattle.lvm_volumes.specs.Volumes.{removed}
use Rattle.lvm_volumes.proofs.StagesLemmas.Breaking.{broken, broken_behind, stopped}
use Rattle.lvm_volumes.proofs.StagesLemmas.Entering.{many_bound}
use Rattle.lvm_volumes.proofs.EndingsLemmas.Fresh.{keeps_all, keeps_behind}
use Rattle.lvm_volumes.proofs.EndingsLemmas.Holding.{still_by, still_then}
use Rattle.lvm_volumes.proofs.Leaving.{leaves_joined, leaves_wider, scoped}

-- ---- the number of a volume

number_of_some : (big : Bool) (rows : List LvRow) (lv : ℕ) → All (IsVolume big) rows → IsSome (find (λ (r : LvRow). r.number == lv) rows) → IsVolumeNumber lv
number_of_some big [] lv all is = absurd (cc is)
number_of_some big (r ∷ rows) lv all is = by_test (r.number == lv) refl (number_of_some big rows lv (λ k e lt. all (suc k) e (omega (arith, lt)))) is
  where
    its : IsVolume big r
    its = all 0 r (omega arith)

    by_test : (t : Bool) → (r.number == lv) ≡ t → (IsSome (find (λ (x : LvRow). x.number == lv) rows) → IsVolumeNumber lv) → IsSome (if t then Some r else find (λ (x : LvRow). x.number == lv) rows) → IsVolumeNumber lv
    by_test true test rest is =
        let few = few_volumes big in
        subst IsVolumeNumber (eqb-true r.number lv test) (record { least = its.a_number; most = omega (arith, its.number, few) })
    by_test false test rest is = rest is

-- once the descriptor without it is committed, the group has none of it
pub gone_from : (lv : ℕ) (next : Descriptor) (core : Core) (d : Descriptor) → IsWithout lv core next → d ≡ next → IsGoneFrom lv d
gone_from lv next core d without same = record {
  number = number_of_some core.descriptor.big core.descriptor.lvs lv without.group.valid.volumes.each without.may.there;
  valid = subst IsValid (sym (same ∙ without.is)) (valid_without core.descriptor lv without.group.valid);
  none = ap (λ (g : Descriptor). volume_of g lv) (same ∙ without.is) ∙ unnamed_without core.descriptor lv;
}

-- ---- its mark

one_number : (lv n : ℕ) → Contains (lv ∷ []) n → n ≡ lv
one_number lv n has = by has.0 has.1 has.2
  where
    by : (i : ℕ) → i < length (lv ∷ []) → get_or (lv ∷ []) i n ≡ n → n ≡ lv
    by zero lt is = sym is
    by (suc i) lt is = absurd (omega (arith, lt))

no_mark : (was : Bool) (lv : ℕ) → (was || false) && not ((lv == lv) || false) ≡ false
no_mark was lv = by (lv == lv) (eq-eqb lv lv refl) was
  where
    by : (t : Bool) → t ≡ true → (b : Bool) → (b || false) && not (t || false) ≡ false
    by true is true = refl
    by true is false = refl
    by false is b = cc is

module _ (lv : ℕ) (a b : State) (settled : IsSettled a.core) (gone : IsGoneFrom lv a.core.descriptor) (p q : ℕ) (leaves : Leaves (dirtying [] (lv ∷ [])) p q a b) (marks : Redirties [] (lv ∷ []) a b) where
  -- no volume of the group has it
  not_row : (row : LvRow) → IsOneOf a.core.descriptor.lvs row → row.number ≡ lv → ⊥
  not_row row volume same = let found : volume_of a.core.descriptor lv ≡ Some row = subst (λ (n : ℕ). volume_of a.core.descriptor n ≡ Some row) same (row_is_volume a.core.descriptor row gone.valid volume) in cc (found, gone.none)

  may_go : MayGoClean (lv ∷ []) a
  may_go = each a.device.media _ (λ m row volume passive has. absurd (not_row row volume (one_number lv row.number has)))
    where
      each : {X : Type 0} (o : Option X) (P : X → Type 0) → ((x : X) → P x) → IfSome o P
      each None P all = tt
      each (Some x) P all = all x

  pub unmark_leaves : Leaves (unmarking lv) p q a b
  unmark_leaves = leaves_wider (dirtying [] (lv ∷ [])) (unmarking lv) (λ d none. absurd none) (λ pp none. none) (λ pp none. none) (λ pp none. none) (λ n has. one_number lv n has) (omega arith) p q a b (λ run first held only past begins. may_go) leaves

  pub unmark_clean : IsFalse (calls_dirty b.core.status.wanted lv)
  unmark_clean = marks.marks lv ∙ no_mark (calls_dirty a.core.status.wanted lv) lv

  still_marked : HasStated a.core.descriptor a b → StillHeld a b
  still_marked done =
      let same : b.core.descriptor ≡ a.core.descriptor = ap (λ (x : Core). x.descriptor) done.is in
      still_by (dirtying [] (lv ∷ [])) p q a b leaves (λ k none. absurd none) (ap (λ (x : Descriptor). x.id) same) (λ n. ap (λ (g : Descriptor). is_member g n) same) (ap (λ (x : Core). x.cache) done.is)
      done.held (λ none. subst (λ (x : Descriptor). NoneIsLeft x b.core.status) (sym same) (marks.none none))

  keeps_marked : HasStated a.core.descriptor a b → KeepsFresh a b
  keeps_marked done =
      let same : b.core.descriptor ≡ a.core.descriptor = ap (λ (x : Core). x.descriptor) done.is in
      keeps_all a.core.descriptor a b same (λ row other lp at x. one_place a.core.descriptor row other lp at x gone.valid) (λ row lp x volume copy stale. marks.only x stale) refl

  pub unmark_still : (x : Result (Unit {0}) CommitFault) → MarkEnds p a b x → IfOn (command_answer x) (StillHeld a b)
  unmark_still (Ok _) ends = still_marked ends
  unmark_still (Err why) ends = stopped (HasStated a.core.descriptor a b) (StillHeld a b) p a b why ends

  pub unmark_keeps : (x : Result (Unit {0}) CommitFault) → MarkEnds p a b x → IfOn (command_answer x) (KeepsFresh a b)
  unmark_keeps (Ok _) ends = keeps_marked ends
  unmark_keeps (Err why) ends = stopped (HasStated a.core.descriptor a b) (KeepsFresh a b) p a b why ends

-- ---- the whole removal

module _ (lv : ℕ) (next : Descriptor) (a : State) (without : IsWithout lv a.core next) (p q : ℕ) (b : State) where
  abbrev N : Descriptor → Type 0
  N d = d ≡ next

  abbrev D : ℕ → Type 0
  D n = n ≡ lv

  module _ (leaves : Leaves (commanding N NoPartition 1) p q a b) where
    among : (m : ℕ) → 1 ≤ m → Leaves (scoped N NoPartition NoPartition D IfAlone m) p q a b
    among m le = leaves_wider (commanding N NoPartition 1) (scoped N NoPartition NoPartition D IfAlone m) (λ d is. is) (λ pp none. none) (λ pp none. none) (λ pp none. none) (λ n none. absurd none) le p q a b (λ run first held only. only) leaves

    -- it broke off before
    pub unnamed_leaves : Leaves (removing_by N lv) p q a b
    unnamed_leaves = among 2 (omega arith)

    module _ (unnamed : IsUnnamed lv next a b) (still : StillHeld a b) where
      named : b.core.descriptor ≡ next
      named = ap (λ (x : Core). x.descriptor) unnamed.is

      pub gone : IsGoneFrom lv b.core.descriptor
      gone = gone_from lv next a.core b.core.descriptor without named

      pub spare : HasSpareNumbers b.core
      spare =
          let status = leaves.status.group ∙ without.group.status in
          let first = many_bound a.core without.group.valid without.group.status in
          let last : many_there b.core.status ≤ 128 = many_bound (record b.core { descriptor = a.core.descriptor }) without.group.valid status in
          omega (arith, leaves.numbers.most, first, last, without.may.room.numbers)

      module _ (r : ℕ) (c : State) (marked : Leaves (unmarking lv) q r b c) where
        pub gone_leaves : Leaves (removing_by N lv) p r a c
        gone_leaves = leaves_joined N NoPartition NoPartition D IfAlone Always IfAlone 1 1 p q r a b c (inr named) (ap (λ (x : Descriptor). x.mib) (named ∙ without.is)) (λ n. ap (λ (x : Descriptor). is_member x n) (named ∙ without.is))
            (among 1 (omega arith)) still.held
            (leaves_wider (unmarking lv) (scoped N NoPartition NoPartition D Always 1) (λ d none. absurd none) (λ pp none. none) (λ pp none. none) (λ pp none. none) (λ n is. is) (omega arith) q r b c (λ run first held only. tt) marked)
            (λ run first held only span.
            let behind = marked.history.volumes in
            marked.spans run first (λ past begins. still.held (held past begins)) tt (leaves.spans run first held (λ enters. only (omega (arith, behind, enters))) span))

        pub gone_ends : (x : Result (Unit {0}) CommitFault) → MarkEnds q b c x → IsFalse (calls_dirty c.core.status.wanted lv) → RemoveEnds lv next p a c x
        gone_ends (Ok _) ends clean = record {
          unnamed = record {
            settled = ends.settled;
            is = ends.is ∙ (λ t. record (unnamed.is t) { descriptor = named t; status = c.core.status; homes = c.core.homes });
            ready = ends.ready;
            cuts = ends.cuts ∙ unnamed.cuts;
          };
          clean = ap (λ (s : Status). calls_dirty s lv) ends.settled.committed ∙ clean;
        }
        gone_ends (Err why) ends clean = inr (broken_behind (commanding N NoPartition 1) p q (removed lv a) (removed lv a) next a b c leaves unnamed.is unnamed.cuts why
            (subst (λ (l : Log). CommandBroke l q b c why) (ap (λ (x : Core). x.history) unnamed.is) (broken (HasStated b.core.descriptor b c) q b c unnamed.settled why ends)))

        pub gone_still : (x : Result (Unit {0}) CommitFault) → IfOn (command_answer x) (StillHeld b c) → MarkEnds q b c x → IfOn (command_answer x) (StillHeld a c)
        gone_still (Ok _) ends marks = still_then a b c still ends
        gone_still (Err why) ends marks = stopped (HasStated b.core.descriptor b c) (StillHeld a c) q b c why marks

        pub gone_keeps : (x : Result (Unit {0}) CommitFault) → KeepsFresh a b → IfOn (command_answer x) (KeepsFresh b c) → MarkEnds q b c x → IfOn (command_answer x) (KeepsFresh a c)
        gone_keeps (Ok _) one two marks = keeps_behind a b c (ap (λ (x : Core). x.descriptor) marks.is) one two
        gone_keeps (Err why) one two marks = stopped (HasStated b.core.descriptor b c) (KeepsFresh a c) q b c why marks
