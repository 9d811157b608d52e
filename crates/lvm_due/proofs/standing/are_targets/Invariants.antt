use Rattle.std.proofs.Common.{◌≡◌, ◌||◌, ◌++◌, [], ◌∷◌, filter, drop}
use Rattle.std.specs.Option.{option_map_or}
use Rattle.lvm_num.specs.declared.place.Pp.{Pp}
use Rattle.lvm_session.specs.Fields.{core_of}
use Rattle.lvm_session.specs.Judging.{pps_of, same_pps, is_usable, is_caught}
use Rattle.lvm_due.proofs.standing.are_targets.Given as goal

abbrev pub invariant-loop-pp : goal.invariant-loop-pp
invariant-loop-pp l =
    same_pps (pps_of l.rest) (filter (λ (p : Pp). is_usable (core_of l.session) p || is_caught (core_of l.session) l.group p) (drop l.pp-index l.pps) ++ option_map_or (λ (p : Pp). p ∷ []) l.place [])
    ≡ same_pps (pps_of l.targets) (filter (λ (p : Pp). is_usable (core_of l.session) p || is_caught (core_of l.session) l.group p) l.pps ++ option_map_or (λ (p : Pp). p ∷ []) l.place [])
