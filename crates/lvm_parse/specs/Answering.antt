-- What is answered of a line.
use Rattle.std.specs.Prelude.{◌≡◌, ⊤, Option, Some, Result, Ok, Err}
use Rattle.lvm_parse.specs.declared.command.Command.{Command}
use Rattle.lvm_parse.specs.declared.command.Command.TheVariants as command
use Rattle.lvm_parse.specs.declared.command.ParseFault.{ParseFault}
use Rattle.lvm_parse.specs.declared.command.ParseFault.TheVariants as fault
use Rattle.lvm_parse.specs.declared.rest.Misfit.{Misfit}

-- a `mkvg` that is in the language
abbrev pub IsMkvg : Result Command Misfit → Type 0
IsMkvg (Ok (command.Mkvg force name mib disks)) = ⊤
IsMkvg read = ⊥

-- so a `reducevg`
abbrev pub IsReducevg : Result Command Misfit → Type 0
IsReducevg (Ok (command.Reducevg name disks)) = ⊤
IsReducevg read = ⊥

-- what the definition says is answered; or want of memory, which only the disks of a `mkvg` and of a `reducevg` take
abbrev pub Answers : Result Command Misfit → Result Command ParseFault → Type 0
Answers read (Ok c) = read ≡ Ok c
Answers read (Err (fault.BadLine column)) = read ≡ Err (record { column = column })
Answers read (Err fault.MkvgMemory) = IsMkvg read
Answers read (Err fault.ReducevgMemory) = IsReducevg read

abbrev pub IsMkvgLine : Result (Option Command) Misfit → Type 0
IsMkvgLine (Ok (Some (command.Mkvg force name mib disks))) = ⊤
IsMkvgLine read = ⊥

abbrev pub IsReducevgLine : Result (Option Command) Misfit → Type 0
IsReducevgLine (Ok (Some (command.Reducevg name disks))) = ⊤
IsReducevgLine read = ⊥

abbrev pub AnswersLine : Result (Option Command) Misfit → Result (Option Command) ParseFault → Type 0
AnswersLine read (Ok c) = read ≡ Ok c
AnswersLine read (Err (fault.BadLine column)) = read ≡ Err (record { column = column })
AnswersLine read (Err fault.MkvgMemory) = IsMkvgLine read
AnswersLine read (Err fault.ReducevgMemory) = IsReducevgLine read
