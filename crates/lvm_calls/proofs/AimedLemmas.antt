-- A partition is among the targets of a request.
use Rattle.std.proofs.Common.{◌≡◌, ◌&&◌, ◌||◌, Bool, List, [], ◌∷◌, refl, sym, ◌∙◌, ap}
use Rattle.std.specs.Prelude.{is_none}
use Rattle.std.specs.List.{list_any}
use Rattle.lvm_num.specs.declared.place.Pp.{Pp}
use Rattle.lvm_num.specs.Descriptor.{is_pp}
use Rattle.lvm_num.proofs.Lists.{any_map}
use Rattle.lvm_path.specs.declared.target.Target.{Target}
use Rattle.lvm_session.specs.declared.open.Open.{Open}
use Rattle.lvm_session.specs.Judging.{pps_of}
use Rattle.lvm_session.specs.Marks.{is_among}

pub aimed_same : (os : List Open) (p : Pp) → list_any (λ (o : Open). is_none o.landed && list_any (λ (t : Target). is_pp p t.pp) o.request.targets.items) os ≡ list_any (λ (o : Open). is_none o.landed && is_among (pps_of o.request.targets.items) p) os
aimed_same [] p = refl
aimed_same (o ∷ os) p =
    ap (λ (b : Bool). (is_none o.landed && b) || list_any (λ (x : Open). is_none x.landed && list_any (λ (t : Target). is_pp p t.pp) x.request.targets.items) os) (sym_map o)
    ∙ ap (λ (b : Bool). (is_none o.landed && is_among (pps_of o.request.targets.items) p) || b) (aimed_same os p)
  where
    sym_map : (x : Open) → list_any (λ (t : Target). is_pp p t.pp) x.request.targets.items ≡ is_among (pps_of x.request.targets.items) p
    sym_map x = sym (any_map (is_pp p) (λ (t : Target). t.pp) x.request.targets.items)
