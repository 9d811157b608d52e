-- The run over disks in memory that the words of the command line ask for.
use Rattle.std.specs.Prelude.{◌*◌, ℕ, [], replicate}
use Rattle.lvm_disk.specs.Device.{Device}
use Rattle.lvm_memory.specs.Media.{blank_disks_of}
use Rattle.lvm_memory.specs.Bench.{Bench, fresh_bench}
use Rattle.lvm_core.specs.declared.parts.Room.{Room}

-- the room that a run from the command line is given
abbrev pub full_room : Room
full_room = record { table = 1024; pool = 64; entries = 1048576; bytes = 268435456 }

-- so many disks of zeros, each of so many MiB, without a plan, with a log of 65,536 writes
abbrev pub sim_bench : ℕ → ℕ → Bench
sim_bench disks mib = fresh_bench (blank_disks_of (replicate disks (2048 * mib))) [] 65536

abbrev pub sim_device : ℕ → ℕ → Device
sim_device disks mib = (sim_bench disks mib).device
