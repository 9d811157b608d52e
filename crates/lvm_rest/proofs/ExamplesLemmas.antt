-- A session may begin at the groups that are worked by hand.
use Rattle.std.proofs.Common.{List, Some, None, refl, sym, subst}
use Rattle.lvm_vol.specs.Facts.{Fact}
use Rattle.lvm_kept.specs.Contents.{Contents}
use Rattle.lvm_kept.specs.Examples.{two}
use Rattle.lvm_even.specs.Even.{AreClosed, HoldsAtRest}
use Rattle.lvm_even.specs.Examples.{device_of, media_of, shown_by, status_of, there_by}
use Rattle.lvm_even.proofs.ExamplesLemmas.Examples.{within}
use Rattle.lvm_crash.specs.Session.{Describes}
use Rattle.lvm_rest.specs.Examples.{PairsAreGood}
use Rattle.lvm_rest.proofs.GoodLemmas.Good.{rest_is_good, still_matches}
use Rattle.lvm_rest.proofs.GoodLemmas.Seen.{rest_is_seen}

pub pairs_are_good : PairsAreGood
pairs_are_good x facts rests votes are =
    let seen = rest_is_seen facts (two x.mode) rests.shows.stands (there_by x) (shown_by x) rests.valid in
    let both = rest_is_good votes seen.0 (two x.mode) (status_of x).value (there_by x) (shown_by x) are rests.valid (within x) rests.enough rests.shows seen.2 seen.3
    (subst (λ (f : List Fact). AreClosed f (two x.mode)) (sym seen.1) rests.closed)
    (subst (λ (f : List Fact). HoldsAtRest (shown_by x) f (two x.mode) (Some rests.shows.stands) (there_by x)) (sym seen.1) rests.at_rest) in (
      seen.0,
      seen.1,
      both.0,
      still_matches seen.0 seen.0.facts (two x.mode) (device_of x) (media_of x) refl refl
          (subst (λ (c : Contents). Describes seen.0 seen.0.facts (two x.mode) None c) (sym rests.told) both.1),
    )
