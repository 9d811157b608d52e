-- What a shelf in memory stands for.
use Rattle.std.specs.Prelude.{List, Some, true}
use Rattle.lvm_num.specs.Buffer.{Sector}
use Rattle.lvm_disk.specs.Device.{Device}
use Rattle.lvm_memory.specs.Media.{media_of, sizes_of}
use Rattle.lvm_memory.specs.Tally.{counts_of}
use Rattle.lvm_memory.specs.Flights.{flights_of, delays_of}
use Rattle.lvm_memory.specs.Bench.{Bench, ordered_of}
use Rattle.lvm_memory.specs.declared.memory.MemShelf.{MemShelf}

-- the sectors of its disks
abbrev pub disks_of : MemShelf → List (List Sector)
disks_of s = s.disks.items

-- what every shelf is
abbrev pub device_of : MemShelf → Device
device_of s = record {
  sizes = sizes_of s.disks.items;
  media = Some (media_of s.disks.items);
  flights = flights_of s.flights.items;
  freed = s.freed.items;
  power = s.power;
  counts = counts_of s.tally;
  arranges = true;
  orders = record { made = s.orders; last = s.last; alone = ordered_of s.heeds s.tally.cuts s.fails s.injector.failing };
  wrote = s.log.wrote;
}

-- and with it what is injected
abbrev pub bench_of : MemShelf → Bench
bench_of s = record { device = device_of s; injection = s.injector; delays = delays_of s.flights.items; room = s.log.room }
