-- The rows of a session whose transfers all stay what they were.
use Rattle.std.proofs.Common.{List, [], ◌∷◌}
use Rattle.std.specs.List.{AllByRecursion}
use Rattle.lvm_disk.specs.Device.{Flight}
use Rattle.lvm_session.specs.declared.flown.Flown.{Flown}
use Rattle.lvm_session.specs.declared.flown.Owner.{Owner}
use Rattle.lvm_session.specs.State.{Core}
use Rattle.lvm_session.specs.Owners.{AreRows, IsTransferOf}
use Rattle.lvm_keeps.proofs.OwnersLemmas.Rows.{rows_by}

pub rows_each : (core now : Core) → ((who : Owner) (f : Flight) → IsTransferOf core who f → IsTransferOf now who f) → (rows : List Flown) (flights : List Flight) → AreRows core rows flights → AreRows now rows flights
rows_each core now on rows flights all = rows_by core now (λ who. Unit {0}) (λ who f is its. on who f its) rows flights (each rows) all
  where
    each : (xs : List Flown) → AllByRecursion (λ (x : Flown). Unit {0}) xs
    each [] = tt
    each (x ∷ xs) = (tt, each xs)
