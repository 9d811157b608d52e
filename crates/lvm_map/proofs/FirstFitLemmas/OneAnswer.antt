-- First fit has one answer.
use Rattle.std.proofs.Common.{◌≡◌, ℕ, zero, suc, ◌+◌, ◌<◌, ◌≤◌, List, [], ◌∷◌, ◌++◌, length, get_or, take, Some, None, refl, sym, ap, subst, ◌∙◌, arith, add-one}
use Rattle.std.specs.Prelude.{slice_get}
use Rattle.std.proofs.lemmas.Option.{slice_get-get_or}
use Rattle.std.proofs.lemmas.List.{take_more, take_all}
use Rattle.lvm_num.specs.declared.place.Pp.{Pp}
use Rattle.lvm_num.specs.declared.descriptor.Descriptor.{Descriptor}
use Rattle.lvm_num.specs.Disks.{Disks}
use Rattle.lvm_map.specs.FirstFit.{Asked, IsFirstFit, IsAllocated, HasNoPlace, next_fit}

pub no_pp : Pp
no_pp = record { disk = 0; pp = 0 }

module _ (d : Descriptor) (usable : Disks) (asked : Asked) where
  -- lists by first fit agree as far as both go
  agree : (one other : List Pp) → IsFirstFit d usable asked one → IsFirstFit d usable asked other
      → (k : ℕ) → k ≤ length one → k ≤ length other → take k one ≡ take k other
  agree one other first second zero one-le other-le = refl
  agree one other first second (suc k) one-le other-le =
      let before : take k one ≡ take k other = agree one other first second k (omega arith) (omega arith) in
      let same : slice_get one k ≡ slice_get other k = sym (first k (omega arith)) ∙ ap (next_fit d usable asked) before ∙ second k (omega arith) in
      let at : Some (get_or one k no_pp) ≡ Some (get_or other k no_pp) = sym (slice_get-get_or one k no_pp (omega arith)) ∙ same ∙ slice_get-get_or other k no_pp (omega arith) in
      let here : get_or one k no_pp ≡ get_or other k no_pp = cc in
      let step : take (k + 1) one ≡ take (k + 1) other =
      take_more one k no_pp (omega arith) ∙ (λ t. before t ++ here t ∷ []) ∙ sym (take_more other k no_pp (omega arith)) in
      subst (λ n. take n one ≡ take n other) (add-one k) step

  pub map_is_one : (one other : List Pp) → IsAllocated d usable asked one → IsAllocated d usable asked other → one ≡ other
  map_is_one one other first second =
      let size : length one ≡ length other = first.whole ∙ sym second.whole in
      sym (take_all (length one) one (omega arith)) ∙ agree one other first.fits second.fits (length one) (omega arith) (omega arith) ∙ take_all (length one) other (omega arith)

  pub no_place_no_map : (pps : List Pp) → HasNoPlace d usable asked → IsAllocated d usable asked pps → ⊥
  no_place_no_map pps none all =
      let k = length none.front in
      let lt : k < length pps = omega (arith, none.short, all.whole) in
      let front : none.front ≡ take k pps =
      sym (take_all k none.front (omega arith)) ∙ agree none.front pps none.fits all.fits k (omega arith) (omega arith) in
      let found : None ≡ Some (get_or pps k no_pp) = sym none.none ∙ ap (next_fit d usable asked) front ∙ all.fits k lt ∙ slice_get-get_or pps k no_pp lt in
      absurd cc
