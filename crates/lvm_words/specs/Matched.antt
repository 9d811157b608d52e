-- The job that `clap` found.
use Rattle.std.specs.Prelude.{ℕ, ◌-◌, ◌^◌, false, if◌then◌else◌, List, Option, Some, None, codes, option_and_then}
use Rattle.std.specs.Str.{bytes_eq}
use Rattle.std.specs.Str.Parse.{digits_value, without_leading_plus}
use Rattle.clap.specs.ValueTests.{accepts}
use Rattle.clap.specs.Words.{Row, Text, one_of}
use Rattle.clap.specs.declared.builder.value_parser.ValueParser.TheVariants as parser
use Rattle.lvm_words.specs.declared.job.Job.{Job}
use Rattle.lvm_words.specs.declared.job.Job.TheVariants.{Script, Sim, Gen, Weave, Image}

-- a number of so many bits, which may have a plus in front
abbrev pub unsigned_in : ℕ → Text → Option ℕ
unsigned_in bits text = if accepts false (parser.Unsigned 0 (2 ^ bits - 1)) text then Some (digits_value 10 (without_leading_plus text)) else None

-- the number that was given under this name
abbrev pub number_at : ℕ → Text → List Row → Option ℕ
number_at bits id rows = option_and_then (unsigned_in bits) (one_of id rows)

abbrev pub with_both : (ℕ → ℕ → Job) → Option ℕ → Option ℕ → Option Job
with_both job (Some first) (Some second) = Some (job first second)
with_both job first second = None

-- a workload, where each of its numbers was given
abbrev pub with_all : Option ℕ → Option ℕ → Option ℕ → Option ℕ → Option ℕ → Option Job
with_all (Some disks) (Some mib) (Some clients) (Some requests) (Some seed) = Some (Weave disks mib clients requests seed)
with_all disks mib clients requests seed = None

abbrev pub weave_in : List Row → Option Job
weave_in rows = with_all (number_at 16 (codes "DISKS") rows) (number_at 32 (codes "MIB") rows) (number_at 32 (codes "CLIENTS") rows) (number_at 32 (codes "REQUESTS") rows) (number_at 64 (codes "SEED") rows)

-- the job of this name, with the numbers that were given
abbrev pub job_named : Text → List Row → Option Job
job_named name rows = if bytes_eq name (codes "script") then Some Script
    else (if bytes_eq name (codes "sim") then with_both Sim (number_at 16 (codes "DISKS") rows) (number_at 32 (codes "MIB") rows)
    else (if bytes_eq name (codes "gen") then with_both Gen (number_at 64 (codes "SEED") rows) (number_at 32 (codes "COUNT") rows)
    else (if bytes_eq name (codes "weave") then weave_in rows
    else (if bytes_eq name (codes "image") then with_both Image (number_at 16 (codes "N") rows) (number_at 32 (codes "MIB") rows) else None))))

abbrev pub job_matched : Option (Text × List Row) → Option Job
job_matched = option_and_then (λ found. job_named found.0 found.1)
