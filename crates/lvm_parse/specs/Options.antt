-- The options of a line, each at most once.
use Rattle.std.specs.Prelude.{ℕ, true, false, if◌then◌else◌, List, Some, None, is_some, codes}
use Rattle.std.specs.Option.{option_map}
use Rattle.lvm_parse.specs.Words.{copy_count_in, size_in, name_in, mode_in, policy_in}
use Rattle.lvm_parse.specs.Reading.{Choice, NoOption, Alone, Valued, is_new}
use Rattle.lvm_parse.specs.declared.chosen.MkvgOptions.{MkvgOptions}
use Rattle.lvm_parse.specs.declared.chosen.MklvOptions.{MklvOptions}

-- the options of `mkvg`, of which `-y NAME` must stand
abbrev pub mkvg_choice : MkvgOptions → List ℕ → Choice MkvgOptions
mkvg_choice o word =
    if is_new word (codes "-f") o.force then Alone (record o { force = true })
    else (if is_new word (codes "-y") (is_some o.name) then Valued (λ value. option_map (λ name. record o { name = Some name }) (name_in value))
    else (if is_new word (codes "-s") (is_some o.mib) then Valued (λ value. option_map (λ mib. record o { mib = Some mib }) (size_in value))
    else NoOption))

abbrev pub no_mkvg_options : MkvgOptions
no_mkvg_options = record { force = false; name = None; mib = None }

-- the options of `mklv`, of which `-y NAME` must stand
abbrev pub mklv_choice : MklvOptions → List ℕ → Choice MklvOptions
mklv_choice o word =
    if is_new word (codes "-y") (is_some o.name) then Valued (λ value. option_map (λ name. record o { name = Some name }) (name_in value))
    else (if is_new word (codes "-c") (is_some o.copies) then Valued (λ value. option_map (λ copies. record o { copies = Some copies }) (copy_count_in value))
    else (if is_new word (codes "-w") (is_some o.mode) then Valued (λ value. option_map (λ mode. record o { mode = Some mode }) (mode_in value))
    else (if is_new word (codes "-d") (is_some o.policy) then Valued (λ value. option_map (λ policy. record o { policy = Some policy }) (policy_in value))
    else NoOption)))

abbrev pub no_mklv_options : MklvOptions
no_mklv_options = record { name = None; copies = None; mode = None; policy = None }
