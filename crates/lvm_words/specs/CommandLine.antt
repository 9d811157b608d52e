-- The command line as `clap` is told it, and what is kept from it.
use Rattle.std.specs.Prelude.{ℕ, ◌-◌, ◌^◌, ◌==◌, nat_le, ◌&&◌, ◌||◌, not, Bool, true, false, List, [], ◌∷◌, length, Some, Result, Ok, Err, codes}
use Rattle.clap.specs.Words.{App, Rule, Shape, new_app, new_rule, with_rule, with_subcommand, kind_of}
use Rattle.clap.specs.Simple.{on_top}
use Rattle.clap.specs.declared.builder.value_parser.ValueParser.TheVariants as parser
use Rattle.clap.specs.declared.error.Error.{Error}
use Rattle.clap.specs.declared.error.kind.ErrorKind.{ErrorKind}
use Rattle.clap.specs.declared.error.kind.ErrorKind.TheVariants as kind
use Rattle.lvm_words.specs.declared.fault.WordsFault.{WordsFault}
use Rattle.lvm_words.specs.declared.fault.WordsFault.TheVariants as fault

-- a `+` or a `-` stands in front
abbrev pub is_signed : List ℕ → Bool
is_signed [] = false
is_signed (b ∷ word) = b == 43 || b == 45

-- the word may be one of the language: no sign in front, and at most 20 bytes
abbrev pub is_plain : List ℕ → Bool
is_plain word = not (is_signed word) && nat_le (length word) 20

-- a number that has to be given, within these bounds
abbrev pub number_rule : List ℕ → ℕ → ℕ → Rule
number_rule id low high = record (new_rule id) { required = true; parser = Some (parser.Unsigned low high) }

-- a job that has two numbers behind its name
abbrev pub with_numbers : List ℕ → Rule → Rule → App
with_numbers name first second = with_rule (with_rule (new_app name) first) second

abbrev pub script_app : App
script_app = new_app (codes "script")

abbrev pub sim_app : App
sim_app = with_numbers (codes "sim") (number_rule (codes "DISKS") 1 32) (number_rule (codes "MIB") 1 64)

abbrev pub gen_app : App
gen_app = with_numbers (codes "gen") (number_rule (codes "SEED") 0 (2 ^ 64 - 1)) (number_rule (codes "COUNT") 0 100000)

-- a job that has five numbers behind its name
abbrev pub with_five : List ℕ → Rule → Rule → Rule → Rule → Rule → App
with_five name first second third fourth fifth = with_rule (with_rule (with_rule (with_numbers name first second) third) fourth) fifth

abbrev pub weave_app : App
weave_app = with_five (codes "weave") (number_rule (codes "DISKS") 1 8) (number_rule (codes "MIB") 8 64) (number_rule (codes "CLIENTS") 1 64) (number_rule (codes "REQUESTS") 0 50000) (number_rule (codes "SEED") 0 (2 ^ 64 - 1))

abbrev pub image_app : App
image_app = with_numbers (codes "image") (number_rule (codes "N") 0 127) (number_rule (codes "MIB") 1 4096)

-- the words begin with the name of a job, and nothing is answered by help
abbrev pub lvm_settings : Shape → Shape
lvm_settings s = record s { no_binary_name = true; disable_help_flag = true; disable_help_subcommand = true; subcommand_required = true }

abbrev pub lvm_app : App
lvm_app = with_subcommand (with_subcommand (with_subcommand (with_subcommand
    (with_subcommand (on_top lvm_settings (new_app (codes "lvm"))) script_app.top) sim_app.top) gen_app.top) weave_app.top) image_app.top

-- ---- what `clap` answers

-- each kind of error is a fault in the words, but for want of memory
abbrev pub fault_by : ErrorKind → WordsFault
fault_by kind.OutOfMemory = fault.Memory
fault_by other = fault.Usage

-- its answer, with the fault in place of its error
abbrev pub with_fault : {X : Type 0} → Result X Error → Result X WordsFault
with_fault (Ok x) = Ok x
with_fault (Err error) = Err (fault_by (kind_of error))
