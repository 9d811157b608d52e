-- A shelf that meets what the laws ask.
use Rattle.std.specs.Prelude.{[], ◌∷◌, true, false, Some, None}
use Rattle.lvm_disk.specs.Device.{Device}

-- one disk of a mebibyte, as it was just made
abbrev pub fresh : Device
fresh = record {
  sizes = 2048 ∷ [];
  media = None;
  flights = [];
  freed = [];
  power = true;
  counts = record { starts = λ d. 0; misses = λ d. 0; faults = λ d. 0; cuts = 0; waits = 0 };
  arranges = true;
  orders = record { made = 0; last = None; alone = Some (record { cuts = 0; fails = 0; failing = false ∷ [] }) };
  wrote = None;
}
