-- The refusals of a script's lines, by their numbers and what they carry.
use Rattle.lvm_show.specs.declared.refusal.Carried.TheVariants as carried
use Rattle.lvm_show.specs.declared.refusal.Refusal.{Refusal as Shown}
use Rattle.lvm_group_lines.specs.declared.reply.Refusal.{Refusal}
use Rattle.lvm_group_lines.specs.declared.reply.Refusal.TheVariants as refusal

abbrev pub shown : Refusal → Shown
shown (refusal.BadLine column) = record { number = 1; carried = carried.Number column }
shown refusal.NoGroup = record { number = 2; carried = carried.Nothing }
shown refusal.GroupOn = record { number = 3; carried = carried.Nothing }
shown refusal.GroupExists = record { number = 4; carried = carried.Nothing }
shown (refusal.NoDisk disk) = record { number = 5; carried = carried.Disk disk }
shown (refusal.TooSmall disk) = record { number = 6; carried = carried.Disk disk }
shown (refusal.NoQuorum have total) = record { number = 7; carried = carried.Votes have total }
shown (refusal.ClockBack seen) = record { number = 8; carried = carried.Number seen }
shown (refusal.DiskFailed disk) = record { number = 9; carried = carried.Disk disk }
shown refusal.Ambiguous = record { number = 10; carried = carried.Nothing }
shown refusal.NoRecord = record { number = 11; carried = carried.Nothing }
shown refusal.NoVolume = record { number = 12; carried = carried.Nothing }
shown refusal.VolumeExists = record { number = 13; carried = carried.Nothing }
shown (refusal.TooMany limit) = record { number = 14; carried = carried.Number limit }
shown (refusal.NoRoom free) = record { number = 15; carried = carried.Number free }
shown (refusal.CopyLimit now) = record { number = 16; carried = carried.Number now }
shown (refusal.LastFresh lp) = record { number = 17; carried = carried.Lp lp }
shown (refusal.OutOfRange blocks) = record { number = 18; carried = carried.Number blocks }
shown refusal.Lost = record { number = 19; carried = carried.Nothing }
shown refusal.ReadFailed = record { number = 20; carried = carried.Nothing }
shown (refusal.NoFresh lp) = record { number = 21; carried = carried.Lp lp }
shown (refusal.WentOff have total) = record { number = 22; carried = carried.Votes have total }
shown refusal.Dark = record { number = 23; carried = carried.Nothing }
shown refusal.Stuck = record { number = 24; carried = carried.Nothing }
shown refusal.HistoryFull = record { number = 25; carried = carried.Nothing }
shown (refusal.InGroup disk) = record { number = 26; carried = carried.Disk disk }
shown refusal.NoPlan = record { number = 27; carried = carried.Nothing }
shown (refusal.SyncFailed disk) = record { number = 28; carried = carried.Disk disk }
shown refusal.Memory = record { number = 29; carried = carried.Nothing }
shown refusal.Busy = record { number = 30; carried = carried.Nothing }
shown (refusal.Missing disk) = record { number = 31; carried = carried.Disk disk }
shown (refusal.TableFull held) = record { number = 32; carried = carried.Number held }
shown (refusal.DiskInUse disk) = record { number = 33; carried = carried.Disk disk }
shown refusal.LastDisk = record { number = 34; carried = carried.Nothing }
shown (refusal.Strict lp) = record { number = 35; carried = carried.Lp lp }
shown (refusal.StaleCopy lp) = record { number = 36; carried = carried.Lp lp }
