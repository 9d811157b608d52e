-- What the program does by the words of its command line.
use Rattle.std.specs.Prelude.{◌≡◌, ◌⊎◌, ◌++◌, ℕ, Bool, List, [], Option, Some, None, Result, Ok, Err, codes}
use Rattle.lvm_disk.specs.Paths.{DeviceStep, Path}
use Rattle.lvm_order_laws.specs.Alone.{HeedsAlone, IsUnharmed}
use Rattle.lvm_io.specs.Count.{Rose, next_count}
use Rattle.lvm_io.specs.Stream.{WhereTold, WritesFront}
use Rattle.lvm_load.specs.Script.{script_text}
use Rattle.lvm_program.specs.Blank.{blank_image}
use Rattle.lvm_steps.specs.Moments.{ImagesKept, IsUpheld}
use Rattle.lvm_vol.specs.Facts.{joined}
use Rattle.lvm_vol.specs.Legal.{Legal}
use Rattle.lvm_load.specs.declared.workload.Workload.{Workload}
use Rattle.lvm_parse.specs.Forced.{HasNowhere}
use Rattle.lvm_program.specs.Heeding.{GoesWell, IsTroubled, RanHarmless}
use Rattle.lvm_program.specs.Landing.{EndsLandedWell}
use Rattle.lvm_top.specs.OneGroup.{RanUnforced}
use Rattle.lvm_top.specs.Run.{Run, IsRun, Promises, RanAlone, WhereAlone}
use Rattle.lvm_top.specs.Clock.{Clocked}
use Rattle.lvm_top.specs.Script.{Passage, facts_of}
use Rattle.lvm_program.specs.Woven.{GoesWoven, PromisesWoven}
use Rattle.lvm_program.specs.declared.load.LoadWords.{LoadWords}
use Rattle.lvm_top.specs.declared.run.Ended.{Ended}
use Rattle.lvm_top.specs.declared.status.ExitStatus.{ExitStatus}
use Rattle.lvm_top.specs.declared.status.ExitStatus.TheVariants as ended
use Rattle.lvm_words.specs.declared.job.Job.{Job}
use Rattle.lvm_words.specs.declared.job.Job.TheVariants.{Script, Sim, Gen, Weave, Load, Image, Help, Version}
use Rattle.lvm_words.specs.declared.fault.WordsFault.{WordsFault}

-- what holds where the words ask for a script over the files
abbrev pub OnScript : Result Job WordsFault → Type 0 → Type 0
OnScript (Ok Script) P = P
OnScript (Ok (Sim disks mib)) P = Unit {0}
OnScript (Ok (Gen seed count)) P = Unit {0}
OnScript (Ok (Weave disks mib clients requests seed)) P = Unit {0}
OnScript (Ok (Load own sync group volume threads requests seed)) P = Unit {0}
OnScript (Ok (Image disk mib)) P = Unit {0}
OnScript (Ok Help) P = Unit {0}
OnScript (Ok Version) P = Unit {0}
OnScript (Err why) P = Unit {0}

-- what holds where they ask for a script over so many disks in memory, each of so many MiB
abbrev pub OnSim : Result Job WordsFault → (ℕ → ℕ → Type 0) → Type 0
OnSim (Ok Script) P = Unit {0}
OnSim (Ok (Sim disks mib)) P = P disks mib
OnSim (Ok (Gen seed count)) P = Unit {0}
OnSim (Ok (Weave disks mib clients requests seed)) P = Unit {0}
OnSim (Ok (Load own sync group volume threads requests seed)) P = Unit {0}
OnSim (Ok (Image disk mib)) P = Unit {0}
OnSim (Ok Help) P = Unit {0}
OnSim (Ok Version) P = Unit {0}
OnSim (Err why) P = Unit {0}

-- what holds where they ask for what is drawn from a seed: a script of so many requests, or a workload over so many disks in memory
abbrev pub OnDrawn : Result Job WordsFault → (ℕ → ℕ → Type 0) → (ℕ → ℕ → Workload → Type 0) → Type 0
OnDrawn (Ok Script) P Q = Unit {0}
OnDrawn (Ok (Sim disks mib)) P Q = Unit {0}
OnDrawn (Ok (Gen seed count)) P Q = P seed count
OnDrawn (Ok (Weave disks mib clients requests seed)) P Q = Q disks mib (record { clients = clients; requests = requests; seed = seed })
OnDrawn (Ok (Load own sync group volume threads requests seed)) P Q = Unit {0}
OnDrawn (Ok (Image disk mib)) P Q = Unit {0}
OnDrawn (Ok Help) P Q = Unit {0}
OnDrawn (Ok Version) P Q = Unit {0}
OnDrawn (Err why) P Q = Unit {0}

-- the load that these words ask for
abbrev pub load_words : (own sync : Bool) → (group volume : List ℕ) → (threads requests seed : ℕ) → LoadWords
load_words own sync group volume threads requests seed = record { group = group; volume = volume; load = record { threads = threads; requests = requests; seed = seed; apart = own; sync = sync } }

-- what holds where they ask for a load over the files
abbrev pub OnLoad : Result Job WordsFault → (LoadWords → Type 0) → Type 0
OnLoad (Ok Script) P = Unit {0}
OnLoad (Ok (Sim disks mib)) P = Unit {0}
OnLoad (Ok (Gen seed count)) P = Unit {0}
OnLoad (Ok (Weave disks mib clients requests seed)) P = Unit {0}
OnLoad (Ok (Load own sync group volume threads requests seed)) P = P (load_words own sync group volume threads requests seed)
OnLoad (Ok (Image disk mib)) P = Unit {0}
OnLoad (Ok Help) P = Unit {0}
OnLoad (Ok Version) P = Unit {0}
OnLoad (Err why) P = Unit {0}

-- what holds where they ask for a new image of a disk, of so many MiB
abbrev pub OnImage : Result Job WordsFault → (ℕ → ℕ → Type 0) → Type 0
OnImage (Ok Script) P = Unit {0}
OnImage (Ok (Sim disks mib)) P = Unit {0}
OnImage (Ok (Gen seed count)) P = Unit {0}
OnImage (Ok (Weave disks mib clients requests seed)) P = Unit {0}
OnImage (Ok (Load own sync group volume threads requests seed)) P = Unit {0}
OnImage (Ok (Image disk mib)) P = P disk mib
OnImage (Ok Help) P = Unit {0}
OnImage (Ok Version) P = Unit {0}
OnImage (Err why) P = Unit {0}

-- how the words go, and which program this is
abbrev pub help_text : List ℕ
help_text = codes "usage: lvm script | lvm sim DISKS MIB | lvm weave DISKS MIB CLIENTS REQUESTS SEED | lvm load [--own] [--sync] GROUP VOLUME THREADS REQUESTS SEED | lvm gen SEED COUNT | lvm image N MIB\n  script          does the lines of standard input over hdisk0.img to hdisk127.img of this folder\n  sim DISKS MIB   does them over 1 to 32 disks of zeros in memory, each of 1 to 64 MiB\n  weave DISKS MIB CLIENTS REQUESTS SEED\n                  tells how up to 50,000 reads and writes of 1 to 64 clients end, drawn from the seed, over 1 to 8 such disks of 8 to 64 MiB\n  load [--own] [--sync] GROUP VOLUME THREADS REQUESTS SEED\n                  tells how up to 50,000 reads and writes of 1 to 128 threads end, drawn from the seed, over a volume of a group on the images; with --own each only writes, to blocks of its own; with --sync one thread more brings up the volume's stale copies\n  gen SEED COUNT  writes a script of up to 100,000 reads and writes that are drawn from the seed\n  image N MIB     makes hdiskN.img, N from 0 to 127, of 1 to 4,096 MiB of zeros\n"

abbrev pub version_line : List ℕ
version_line = codes "lvm 0.1.0\n"

-- what holds of the text that the words ask to be told
abbrev pub OnText : Result Job WordsFault → (List ℕ → Type 0) → Type 0
OnText (Ok Script) P = Unit {0}
OnText (Ok (Sim disks mib)) P = Unit {0}
OnText (Ok (Gen seed count)) P = Unit {0}
OnText (Ok (Weave disks mib clients requests seed)) P = Unit {0}
OnText (Ok (Load own sync group volume threads requests seed)) P = Unit {0}
OnText (Ok (Image disk mib)) P = Unit {0}
OnText (Ok Help) P = P help_text
OnText (Ok Version) P = P version_line
OnText (Err why) P = Unit {0}

-- The text was written whole, or the sink failed and a front of it was.
pub record IsTold (text : List ℕ) (status : ExitStatus) (out : Passage) : Type 0 where
  pub status_is : (status ≡ ended.Well) ⊎ (status ≡ ended.SinkFault)
  pub whole : status ≡ ended.Well → WhereTold out.before.content out.after.content (λ a b. b ≡ a ++ text)
  pub front : status ≡ ended.SinkFault → WhereTold out.before.content out.after.content (λ a b. WritesFront text a b)
  pub cause : status ≡ ended.SinkFault → Rose out.before.faults out.after.faults
  pub well : status ≡ ended.Well → out.after.faults ≡ out.before.faults

-- the line for words that are not in the language
abbrev pub usage_line : List ℕ
usage_line = codes "usage: lvm script | lvm sim DISKS MIB | lvm weave DISKS MIB CLIENTS REQUESTS SEED | lvm load [--own] [--sync] GROUP VOLUME THREADS REQUESTS SEED | lvm gen SEED COUNT | lvm image N MIB\n"

-- the text was written whole, or the sink failed and a front of it was
abbrev pub IsSaid : List ℕ → Passage → Type 0
IsSaid text out = ((out.after.faults ≡ out.before.faults) × WhereTold out.before.content out.after.content (λ a b. b ≡ a ++ text)) ⊎ (Rose out.before.faults out.after.faults × WhereTold out.before.content out.after.content (λ a b. WritesFront text a b))

-- nothing was run: no history, no line refused, and no disks made in memory
pub record IsUnrun {S : Type 0} (end : Ended S) (status : ExitStatus) : Type 0 where
  pub status_is : end.status ≡ status
  pub refused_is : end.refused ≡ 0
  pub history_is : end.history ≡ None
  pub sim_is : end.sim ≡ None

-- The words are not in the language: nothing was run, and a line of usage was written, or no memory was found to read them.
pub record IsUsage {S : Type 0} (end : Ended S) (err : Passage) : Type 0 where
  pub status_is : (end.status ≡ ended.Usage) ⊎ (end.status ≡ ended.Memory)
  pub unrun : IsUnrun end end.status
  pub line : end.status ≡ ended.Usage → IsSaid usage_line err

-- Each job leaves alone what isn't its: a script standard error and the images, one over disks in memory the files too, and a workload or a load the input besides; a text and a script that is
-- drawn all but the output, an image all but the images, and words that are not in the language all but standard error.
abbrev pub LeavesAlone : Result Job WordsFault → (files input out err clock images : Type 0) → Type 0
LeavesAlone (Ok Script) files input out err clock images = err × images
LeavesAlone (Ok (Sim disks mib)) files input out err clock images = files × err × images
LeavesAlone (Ok (Gen seed count)) files input out err clock images = files × input × err × clock × images
LeavesAlone (Ok (Weave disks mib clients requests seed)) files input out err clock images = files × input × err × images
LeavesAlone (Ok (Load own sync group volume threads requests seed)) files input out err clock images = input × err × images
LeavesAlone (Ok (Image disk mib)) files input out err clock images = files × input × out × err × clock
LeavesAlone (Ok Help) files input out err clock images = files × input × err × clock × images
LeavesAlone (Ok Version) files input out err clock images = files × input × err × clock × images
LeavesAlone (Err why) files input out err clock images = files × input × out × clock × images

-- What a run over disks that hold nothing promises beside: no moment can be earlier than the run's, and nothing was told before. If its script has nowhere `-f`,
-- then its history is legal, and each crash image that the disks may leave is kept with it. Where no line is a `mkvg -f` it finds no other group. At each moment
-- a transfer fails only on a disk that is ordered to fail, and the power is cut only by order; so a run that orders neither goes well.
pub record PromisesBlank (asked : Clocked) (r : Run) : Type 0 where
  pub promises : Promises asked r
  pub plain : (bytes : List ℕ) → r.input.before.content ≡ Some bytes → HasNowhere (codes "-f") bytes → Legal (joined [] (facts_of r.history)) × ImagesKept r.exit (joined [] (facts_of r.history))
  pub upheld : WhereAlone r (IsUpheld r.named r.entry r.exit (facts_of r.history))
  pub first : WhereAlone r (Legal (joined [] (facts_of r.history)) × ImagesKept r.exit (joined [] (facts_of r.history)))
  pub alone : (ran : IsRun r) → RanUnforced ran → RanAlone ran
  pub heeds : WhereAlone r (Path DeviceStep HeedsAlone r.entry r.exit)
  pub well : (ran : IsRun r) → RanAlone ran → RanHarmless ran → GoesWell ran

-- and what one of a workload does so, which orders nothing at all: its requests land well
pub record PromisesWovenBlank (disks mib : ℕ) (load : Workload) (asked : ℕ) (r : Run) : Type 0 where
  pub promises : PromisesWoven disks mib load asked r
  pub upheld : GoesWoven disks mib load r → IsUpheld r.named r.entry r.exit (facts_of r.history)
  pub first : GoesWoven disks mib load r → Legal (joined [] (facts_of r.history)) × ImagesKept r.exit (joined [] (facts_of r.history))
  pub heeds : GoesWoven disks mib load r → Path DeviceStep HeedsAlone r.entry r.exit
  pub unharmed : GoesWoven disks mib load r → IsUnharmed r.exit
  pub untroubled : (goes : GoesWoven disks mib load r) → IsTroubled goes.answer → ⊥
  pub lands : (goes : GoesWoven disks mib load r) → EndsLandedWell goes.ends

-- The script was written whole, or else a front of it was, and the sink failed or memory ran out.
pub record IsGenerated (seed count : ℕ) (status : ExitStatus) (out : Passage) : Type 0 where
  pub status_is : (status ≡ ended.Well) ⊎ ((status ≡ ended.SinkFault) ⊎ (status ≡ ended.Memory))
  pub whole : status ≡ ended.Well → WhereTold out.before.content out.after.content (λ a b. b ≡ a ++ script_text seed count)
  pub front : (status ≡ ended.Well → ⊥) → WhereTold out.before.content out.after.content (λ a b. WritesFront (script_text seed count) a b)
  pub cause : status ≡ ended.SinkFault → Rose out.before.faults out.after.faults
  pub memory : status ≡ ended.Memory → out.after.faults ≡ out.before.faults
  pub well : status ≡ ended.Well → out.after.faults ≡ out.before.faults

-- That disk alone was chosen, and its new image has so many MiB of zeros, or the sink failed and it has a front of them.
pub record IsImaged (disk mib : ℕ) (status : ExitStatus) (chosen : Option ℕ) (earlier choices : ℕ) (image : Passage) : Type 0 where
  pub status_is : (status ≡ ended.Well) ⊎ (status ≡ ended.SinkFault)
  pub chosen_is : chosen ≡ Some disk
  pub once : choices ≡ next_count earlier
  pub whole : status ≡ ended.Well → WhereTold image.before.content image.after.content (λ a b. b ≡ blank_image mib)
  pub front : status ≡ ended.SinkFault → WhereTold image.before.content image.after.content (λ a b. WritesFront (blank_image mib) [] b)
  pub cause : status ≡ ended.SinkFault → Rose image.before.faults image.after.faults
  pub well : status ≡ ended.Well → image.after.faults ≡ image.before.faults
