-- The language of the command line.
use Rattle.std.specs.Prelude.{ℕ, ◌≤◌, nat_le, ◌&&◌, if◌then◌else◌, Bool, true, false, List, [], ◌∷◌, Option, Some, None, Result, Ok, Err, codes, bytes_eq, ok_or}
use Rattle.lvm_parse.specs.Words.{name_in, number_in}
use Rattle.lvm_words.specs.declared.job.Job.{Job}
use Rattle.lvm_words.specs.declared.job.Job.TheVariants.{Script, Sim, Gen, Weave, Load, Image, Help, Version}
use Rattle.lvm_words.specs.declared.fault.WordsFault.{WordsFault}
use Rattle.lvm_words.specs.declared.fault.WordsFault.TheVariants.{Usage}

-- 1 to 32 disks of 1 to 64 MiB
abbrev pub sim_of : Option ℕ → Option ℕ → Result Job WordsFault
sim_of (Some disks) (Some mib) = if nat_le 1 disks && nat_le disks 32 && nat_le 1 mib && nat_le mib 64 then Ok (Sim disks mib) else Err Usage
sim_of disks mib = Err Usage

-- a seed, and at most 100,000 requests
abbrev pub gen_of : Option ℕ → Option ℕ → Result Job WordsFault
gen_of (Some seed) (Some count) = if nat_le count 100000 then Ok (Gen seed count) else Err Usage
gen_of seed count = Err Usage

-- the number of a word, where it lies within these bounds
abbrev pub bounded : ℕ → ℕ → Option ℕ → Option ℕ
bounded low high None = None
bounded low high (Some n) = if nat_le low n && nat_le n high then Some n else None

abbrev pub weave_by : Option ℕ → Option ℕ → Option ℕ → Option ℕ → Option ℕ → Result Job WordsFault
weave_by (Some disks) (Some mib) (Some clients) (Some requests) (Some seed) = Ok (Weave disks mib clients requests seed)
weave_by disks mib clients requests seed = Err Usage

-- 1 to 8 disks of 8 to 64 MiB, 1 to 64 clients, at most 50,000 requests, and a seed
abbrev pub weave_of : Option ℕ → Option ℕ → Option ℕ → Option ℕ → Option ℕ → Result Job WordsFault
weave_of disks mib clients requests seed = weave_by (bounded 1 8 disks) (bounded 8 64 mib) (bounded 1 64 clients) (bounded 0 50000 requests) seed

-- a disk from 0 to 127, of 1 to 4,096 MiB
abbrev pub image_of : Option ℕ → Option ℕ → Result Job WordsFault
image_of (Some disk) (Some mib) = if nat_le disk 127 && nat_le 1 mib && nat_le mib 4096 then Ok (Image disk mib) else Err Usage
image_of disk mib = Err Usage

-- `script`
abbrev pub alone : List ℕ → Result Job WordsFault
alone name = if bytes_eq name (codes "script") then Ok Script else Err Usage

-- `sim DISKS MIB`, `gen SEED COUNT` or `image N MIB`
abbrev pub with_two : List ℕ → List ℕ → List ℕ → Result Job WordsFault
with_two name first second = if bytes_eq name (codes "sim") then sim_of (number_in first) (number_in second)
    else (if bytes_eq name (codes "gen") then gen_of (number_in first) (number_in second)
    else (if bytes_eq name (codes "image") then image_of (number_in first) (number_in second) else Err Usage))

-- `weave DISKS MIB CLIENTS REQUESTS SEED`
abbrev pub with_five : List ℕ → List ℕ → List ℕ → List ℕ → List ℕ → List ℕ → Result Job WordsFault
with_five name disks mib clients requests seed = if bytes_eq name (codes "weave") then weave_of (number_in disks) (number_in mib) (number_in clients) (number_in requests) (number_in seed) else Err Usage

-- what the words ask to be done, where that isn't a load
abbrev pub work_of : List (List ℕ) → Result Job WordsFault
work_of (name ∷ []) = alone name
work_of (name ∷ first ∷ second ∷ []) = with_two name first second
work_of (name ∷ first ∷ second ∷ third ∷ fourth ∷ fifth ∷ []) = with_five name first second third fourth fifth
work_of words = Err Usage

-- ---- a load

-- by the one option each thread writes apart, by the other copies are brought up beside them
abbrev pub own_option : List ℕ
own_option = codes "--own"

abbrev pub sync_option : List ℕ
sync_option = codes "--sync"

abbrev pub load_with : (own sync : Bool) (group volume : Option (List ℕ)) → (threads requests seed : Option ℕ) → Option Job
load_with own sync (Some group) (Some volume) (Some threads) (Some requests) (Some seed) = Some (Load own sync group volume threads requests seed)
load_with own sync group volume threads requests seed = None

-- two names, 1 to 128 threads, at most 50,000 requests, and a seed
abbrev pub load_by : (own sync : Bool) (group volume threads requests seed : List ℕ) → Option Job
load_by own sync group volume threads requests seed = load_with own sync (name_in group) (name_in volume) (bounded 1 128 (number_in threads)) (bounded 0 50000 (number_in requests)) (number_in seed)

-- one of six words is this option, before, among or behind the operands
abbrev pub load_among : (option : List ℕ) (own sync : Bool) (a b c d e f : List ℕ) → Option Job
load_among option own sync a b c d e f = if bytes_eq a option then load_by own sync b c d e f
    else (if bytes_eq b option then load_by own sync a c d e f
    else (if bytes_eq c option then load_by own sync a b d e f
    else (if bytes_eq d option then load_by own sync a b c e f
    else (if bytes_eq e option then load_by own sync a b c d f
    else (if bytes_eq f option then load_by own sync a b c d e else None)))))

-- one of seven is the one option, and one of the six others the other
abbrev pub load_with_both : (a b c d e f g : List ℕ) → Option Job
load_with_both a b c d e f g = if bytes_eq a sync_option then load_among own_option true true b c d e f g
    else (if bytes_eq b sync_option then load_among own_option true true a c d e f g
    else (if bytes_eq c sync_option then load_among own_option true true a b d e f g
    else (if bytes_eq d sync_option then load_among own_option true true a b c e f g
    else (if bytes_eq e sync_option then load_among own_option true true a b c d f g
    else (if bytes_eq f sync_option then load_among own_option true true a b c d e g
    else (if bytes_eq g sync_option then load_among own_option true true a b c d e f else None))))))

abbrev pub or_job : Option Job → Option Job → Option Job
or_job (Some job) other = Some job
or_job None other = other

-- each option stands once, if it does
abbrev pub load_of : List (List ℕ) → Option Job
load_of (a ∷ b ∷ c ∷ d ∷ e ∷ []) = load_by false false a b c d e
load_of (a ∷ b ∷ c ∷ d ∷ e ∷ f ∷ []) = or_job (load_among own_option true false a b c d e f) (load_among sync_option false true a b c d e f)
load_of (a ∷ b ∷ c ∷ d ∷ e ∷ f ∷ g ∷ []) = load_with_both a b c d e f g
load_of words = None

-- the words are those of a load, of the language or not
abbrev pub is_load : List (List ℕ) → Bool
is_load [] = false
is_load (name ∷ words) = bytes_eq name (codes "load")

-- what the words ask to be done
abbrev pub asked_of : List (List ℕ) → Result Job WordsFault
asked_of [] = Err Usage
asked_of (name ∷ words) = if bytes_eq name (codes "load") then ok_or (load_of words) Usage else work_of (name ∷ words)

-- `--help` or `--version`
abbrev pub told_by : List ℕ → Option Job
told_by word = if bytes_eq word (codes "--help") then Some Help else (if bytes_eq word (codes "--version") then Some Version else None)

-- what the words ask to be told of the program
abbrev pub told_of : List (List ℕ) → Option Job
told_of (word ∷ []) = told_by word
told_of words = None

abbrev pub told_or : Option Job → Result Job WordsFault → Result Job WordsFault
told_or (Some job) asked = Ok job
told_or None asked = asked

-- what the words behind the program's name ask for
abbrev pub job_of : List (List ℕ) → Result Job WordsFault
job_of words = told_or (told_of words) (asked_of words)

-- what is asked for is as large as it may be
abbrev pub IsJobWithinLimits : Job → Type 0
IsJobWithinLimits Script = Unit {0}
IsJobWithinLimits (Sim disks mib) = (1 ≤ disks) × (disks ≤ 32) × (1 ≤ mib) × (mib ≤ 64)
IsJobWithinLimits (Gen seed count) = count ≤ 100000
IsJobWithinLimits (Weave disks mib clients requests seed) = (1 ≤ disks) × (disks ≤ 8) × (8 ≤ mib) × (mib ≤ 64) × (1 ≤ clients) × (clients ≤ 64) × (requests ≤ 50000)
IsJobWithinLimits (Load own sync group volume threads requests seed) = (1 ≤ threads) × (threads ≤ 128) × (requests ≤ 50000)
IsJobWithinLimits (Image disk mib) = (disk ≤ 127) × (1 ≤ mib) × (mib ≤ 4096)
IsJobWithinLimits Help = Unit {0}
IsJobWithinLimits Version = Unit {0}
