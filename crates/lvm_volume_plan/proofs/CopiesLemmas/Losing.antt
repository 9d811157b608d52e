-- What stays of a logical partition that isn't lost with the copies behind the first ones.
use Rattle.std.proofs.Common.{◌≡◌, ⊎_elim, ℕ, ◌&&◌, Bool, true, false, List, take, drop, sym, subst}
use Rattle.std.specs.Prelude.{not, IsTrue, IsFalse}
use Rattle.std.proofs.lemmas.Bool.{and_from, and_parts, false≢true, not-false, not-true, not_from_false}
use Rattle.std.proofs.lemmas.List.{take-append-drop}
use Rattle.lvm_num.specs.declared.place.Pp.{Pp}
use Rattle.lvm_num.specs.declared.descriptor.LvRow.{LvRow}
use Rattle.lvm_num.specs.declared.descriptor.Descriptor.{Descriptor}
use Rattle.lvm_num.specs.declared.status.Status.{Status}
use Rattle.lvm_num.specs.Descriptor.{IsValid, copies_of, is_member}
use Rattle.lvm_num.specs.Status.{calls_stale, calls_missing}
use Rattle.lvm_num.proofs.AmongLemmas.{any_one, one_any, one_of_either, one_of_take}
use Rattle.lvm_kept.specs.Group.{IsOneOf}
use Rattle.lvm_status.specs.Update.{members_there}
use Rattle.lvm_write.proofs.NextLemmas.{copy_is_placed, is_member_of}
use Rattle.lvm_volume_plan.specs.CopiesFaults.{has_fresh, has_usable, is_loss}

not_lost : (goes stays : Bool) → goes ≡ true → goes && not stays ≡ false → stays ≡ true
not_lost true stays fresh none = not-false stays none
not_lost false stays fresh none = absurd (false≢true fresh)

module _ (s : Status) (row : LvRow) (copies lp : ℕ) (none : IsFalse (is_loss s row copies lp)) where
  abbrev stay : List Pp
  stay = take copies (copies_of row lp)

  abbrev go : List Pp
  go = drop copies (copies_of row lp)

  -- where a copy is fresh and something holds of it, a fresh one of which it holds stays, if it holds of each that stays and can be used
  pub fresh_stays : (Holds : Pp → Type 0) → ((q : Pp) → IsOneOf stay q → IsFalse (calls_stale s q) → IsFalse (calls_missing s q.disk) → Holds q)
      → (p : Pp) → IsOneOf (copies_of row lp) p → IsFalse (calls_stale s p) → Holds p → (q : Pp) × IsOneOf stay q × IsFalse (calls_stale s q) × Holds q
  fresh_stays Holds usable p one fresh holds = ⊎_elim
      (λ (stays : IsOneOf stay p). (p, stays, fresh, holds))
      (λ (goes : IsOneOf go p).
      let some : has_usable s stay ≡ true = not_lost (has_fresh s go) (has_usable s stay) (one_any (λ (q : Pp). not (calls_stale s q)) go p goes (not_from_false (calls_stale s p) fresh)) none in
      let it = any_one (λ (q : Pp). not (calls_stale s q) && not (calls_missing s q.disk)) stay some in
      let both = and_parts (not (calls_stale s it.0)) (not (calls_missing s it.0.disk)) it.2 in
      let still : IsFalse (calls_stale s it.0) = not-true (calls_stale s it.0) both.0 in
      (it.0, it.1, still, usable it.0 it.1 still (not-true (calls_missing s it.0.disk) both.1)))
      (one_of_either stay go p (subst (λ (xs : List Pp). IsOneOf xs p) (sym (take-append-drop copies (copies_of row lp))) one))

-- a copy that stays, whose disk isn't missing, is on a member that isn't
pub stays_there : (d : Descriptor) (s : Status) (row : LvRow) (copies lp : ℕ) (p : Pp) → IsValid d → IsOneOf d.lvs row → IsOneOf (take copies (copies_of row lp)) p → IsFalse (calls_missing s p.disk) → IsTrue (members_there d s p.disk)
stays_there d s row copies lp p valid volume one found =
    and_from (is_member d p.disk) (not (calls_missing s p.disk)) (is_member_of d p (copy_is_placed d valid row lp p volume (one_of_take copies (copies_of row lp) p one))) (not_from_false (calls_missing s p.disk) found)
