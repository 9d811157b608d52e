-- What goes to the partition of the copy that is open is of its logical partition.
use Rattle.std.proofs.Common.{◌≡◌, ◌==◌, ◌-◌, Bool, true, false, Some, refl, sym, ◌∙◌, ap, subst}
use Rattle.std.proofs.lemmas.Bool.{eqb-true}
use Rattle.lvm_num.specs.declared.place.Pp.{Pp}
use Rattle.lvm_num.proofs.Booleans.{not_so}
use Rattle.lvm_path.specs.declared.ask.Ask.{Ask}
use Rattle.lvm_path.specs.declared.target.Target.{Target}
use Rattle.lvm_path.specs.Asks.{lv_of}
use Rattle.lvm_session.specs.declared.bringing.OpenCopy.{OpenCopy}
use Rattle.lvm_session.specs.State.{Core}
use Rattle.lvm_session.specs.Judging.{copies_for, copies_in, is_beside_copy, lp_of}
use Rattle.lvm_session.specs.Calls.{copy_at}
use Rattle.lvm_session.specs.Marks.{is_among}
use Rattle.lvm_session.specs.Requests.{IsAimed, IsTarget}
use Rattle.lvm_session.specs.Sound.{IsCopy, IsGoing, IsOfKind}
use Rattle.lvm_session.proofs.MovesLemmas.{IsOpenPlace, move_of, open_one, place_open, stale_of}
use Rattle.lvm_keeps.proofs.CacheLemmas.{no_copy}
use Rattle.lvm_keeps.proofs.Small.{both}
use Rattle.lvm_keeps_events.proofs.EndsLemmas.CopyReadFail.{by_place}
use Rattle.lvm_keeps_events.proofs.JudgingLemmas.DuesMarks.{among_get}
use Rattle.lvm_keeps_events.proofs.OnePlace.{one_lp}

-- the copy of its number is there, which is the one that is brought up, or the one that moves
pub numbered : (core : Core) (c : OpenCopy) → IsCopy core c → (p : Pp) × (copy_at (copies_in core.descriptor c.lv c.lp) c.copy ≡ Some p)
numbered core c its = by c.moves its.kind
  where
    by : (b : Bool) → IsOfKind b core c → (p : Pp) × (copy_at (copies_in core.descriptor c.lv c.lp) c.copy ≡ Some p)
    by false it = (c.pp, it.its)
    by true it = (it.from, it.its)

module _ (core : Core) (going : IsGoing core) (c : OpenCopy) (is_open : core.copy ≡ Some c) (ask : Ask) (t : Target) (its : IsTarget core ask t) (same : t.pp ≡ c.pp) where
  bring : IsCopy core c
  bring = open_one core c is_open going.copy

  lp_by : (b k : Bool) → c.moves ≡ b → IsAimed k core ask t → (lv_of ask ≡ c.lv) × (lp_of core ask ≡ c.lp)
  lp_by b true kind place = (eqb-true (lv_of ask) c.lv parts.0, eqb-true (lp_of core ask) c.lp parts.1)
    where
      at : IsOpenPlace core ask t.pp
      at = place_open core ask t.pp place.0

      one_of : (x y : OpenCopy) → Some x ≡ Some y → x ≡ y
      one_of x y e = cc e

      parts : ((lv_of ask == c.lv) ≡ true) × ((lp_of core ask == c.lp) ≡ true)
      parts = both (lv_of ask == c.lv) (lp_of core ask == c.lp) (subst (λ (d : OpenCopy). is_beside_copy core ask d ≡ true) (one_of at.copy c (sym at.is_open ∙ is_open)) at.beside)
  lp_by false false kind among =
      one_lp core.descriptor going.fitting.valid (lv_of ask) (lp_of core ask) c.lv c.lp t.pp among
      (ap (is_among (copies_in core.descriptor c.lv c.lp)) same
      ∙ among_get (copies_in core.descriptor c.lv c.lp) (c.copy - 1) c.pp (by_place (copies_in core.descriptor c.lv c.lp) c.copy c.pp (stale_of core c bring kind).its))
  lp_by true false kind among =
      not_so (sym (no_copy core.descriptor (lv_of ask) (lp_of core ask) c.pp (move_of core c bring kind).free) ∙ ap (is_among (copies_for core ask)) (sym same) ∙ among)

  pub target_lp : (lv_of ask ≡ c.lv) × (lp_of core ask ≡ c.lp)
  target_lp = lp_by c.moves t.moves refl its.copy
