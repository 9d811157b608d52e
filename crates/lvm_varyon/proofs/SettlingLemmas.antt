-- With its next status a group comes on with no copy left behind.
use Rattle.std.proofs.Common.{◌≡◌, inl, inr, ⊎_elim, ℕ, Bool, true, false, ◌&&◌, ◌||◌, List, [], ◌∷◌, refl, sym, ap, ◌∙◌}
use Rattle.std.specs.Prelude.{not, IsTrue, IsFalse, filter, if◌then◌else◌}
use Rattle.std.specs.List.{list_any}
use Rattle.lvm_num.specs.declared.place.Pp.{Pp}
use Rattle.lvm_num.specs.declared.descriptor.Descriptor.{Descriptor}
use Rattle.lvm_num.specs.declared.status.Status.{Status}
use Rattle.lvm_num.specs.Disks.{Disks}
use Rattle.lvm_num.specs.Descriptor.{IsValid, is_member, copies_of}
use Rattle.lvm_num.specs.Record.{Stamped}
use Rattle.lvm_num.specs.Status.{calls_stale, calls_missing}
use Rattle.lvm_kept.specs.Group.{IsOneOf, IsSome}
use Rattle.lvm_steps.proofs.RecordLemmas.{either, clash, first, second, join}
use Rattle.lvm_status.specs.Update.{Stored}
use Rattle.lvm_varyon.specs.passed.Commit.{there, NoneIsLeft}
use Rattle.lvm_write.specs.Next.{IsLeftBehind, IsNextStatus}
use Rattle.lvm_write.proofs.NextLemmas.{is_member_of, copy_is_placed}

-- one of a list that passes one test passes another
some_passes : (f h : Pp → Bool) (xs : List Pp) → ((x : Pp) → IsOneOf xs x → IsTrue (f x) → IsTrue (h x)) → IsTrue (list_any f xs) → IsSome (filter h xs)
some_passes f h [] more is = absurd cc
some_passes f h (x ∷ xs) more is = by_test (f x) (h x) (more x (inl refl)) (some_passes f h xs (λ y one. more y (inr one))) is
  where
    by_test : (s t : Bool) → (IsTrue s → IsTrue t) → (IsTrue (list_any f xs) → IsSome (filter h xs)) → IsTrue (s || list_any f xs) → IsSome (if t then x ∷ filter h xs else filter h xs)
    by_test true true so rest is = tt
    by_test true false so rest is = absurd (clash false (so refl) refl)
    by_test false true so rest is = tt
    by_test false false so rest is = rest is

answers : (m a : Bool) → m && not (m && not a) ≡ m && a
answers true true = refl
answers true false = refl
answers false a = refl

isnt : (m a : Bool) → IsTrue m → IsFalse (m && a) → IsFalse a
isnt true a member none = none
isnt false a member none = absurd cc

module _ (group : Descriptor) (answering : Disks) (was : Stamped Status) (next : Status) (u : Stored) (valid : IsValid group) (is : IsNextStatus group answering was next)
    (of : u.group ≡ record group { lvs = [] }) (same_stale : (p : Pp) → calls_stale u.wanted p ≡ calls_stale next p) (same_missing : (d : ℕ) → calls_missing u.wanted d ≡ calls_missing next d) where
  here : (d : ℕ) → there u d ≡ is_member group d && answering d
  here d = (λ t. is_member (of t) d && not (same_missing d t)) ∙ ap (λ (b : Bool). is_member group d && not b) (is.missing d) ∙ answers (is_member group d) (answering d)

  -- a copy that serves now served by the status that was found
  served_then : (q : Pp) → IsTrue (is_member group q.disk) → IsTrue (there u q.disk && not (calls_stale u.wanted q)) → IsTrue (answering q.disk && not (calls_stale was.value q))
  served_then q member serves =
      let on : IsTrue (is_member group q.disk && answering q.disk) = sym (here q.disk) ∙ first (there u q.disk) (not (calls_stale u.wanted q)) serves in
      let fresh : IsTrue (not (calls_stale next q)) = ap not (sym (same_stale q)) ∙ second (there u q.disk) (not (calls_stale u.wanted q)) serves in
      join (answering q.disk) (not (calls_stale was.value q)) (second (is_member group q.disk) (answering q.disk) on) (⊎_elim
      (λ (stale : IsTrue (calls_stale was.value q)). absurd (clash (not (calls_stale next q)) fresh (ap not ((is.stale q member).1 (inl stale)))))
      (λ (still : IsFalse (calls_stale was.value q)). ap not still)
      (either (calls_stale was.value q)))

  pub next_leaves_none : NoneIsLeft group u
  next_leaves_none p left =
      let member : IsTrue (is_member group p.disk) = is_member_of group p (copy_is_placed group valid left.row left.left.lp p left.volume left.left.left.one) in
      let behind : IsLeftBehind group answering was p = record {
        row = left.row;
        lp = left.left.lp;
        volume = left.volume;
        inside = left.left.below;
        one = left.left.left.one;
        absent = isnt (is_member group p.disk) (answering p.disk) member (sym (here p.disk) ∙ left.left.left.absent);
        other = some_passes (λ (q : Pp). there u q.disk && not (calls_stale u.wanted q)) (λ (q : Pp). answering q.disk && not (calls_stale was.value q)) (copies_of left.row left.left.lp)
            (λ q one. served_then q (is_member_of group q (copy_is_placed group valid left.row left.left.lp q left.volume one))) left.left.left.served;
      } in
      same_stale p ∙ (is.stale p member).1 (inr behind)
