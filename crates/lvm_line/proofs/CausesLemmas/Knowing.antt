-- What is known where a line is refused.
use Rattle.std.proofs.Common.{◌≡◌, ℕ, Option, Some, None, Result, Ok, subst}
use Rattle.lvm_parse.specs.declared.command.Command.{Command}
use Rattle.lvm_parse.specs.declared.command.Command.TheVariants as command
use Rattle.lvm_parse.specs.declared.rest.Misfit.{Misfit}
use Rattle.lvm_line.specs.Causes.{CauseOf, HasCause, WritesNothing}
use Rattle.lvm_volume_lines.specs.passed.GroupLines.{ScriptState, Refusal}
use Rattle.lvm_volume_lines.specs.passed.RefusalVariants as refusal
use Rattle.lvm_volume_lines.specs.passed.ReplyVariants as reply

-- its cause, and that what quorums lack is told before a write of it
pub record Known (read : Result (Option Command) Misfit) (why : Refusal) (old new : ScriptState) : Type 0 where
  pub cause : HasCause read why old new
  pub off : why ≡ refusal.Stuck → new.session ≡ None
  pub unwritten : (have total : ℕ) → why ≡ refusal.NoQuorum have total → WritesNothing read old new

-- of a refusal for which nothing has to have happened
pub by_reply : (read : Result (Option Command) Misfit) (why other : Refusal) (old new : ScriptState) → reply.Refused why ≡ reply.Refused other → Known read other old new → Known read why old new
by_reply read why other old new is known = subst (λ (r : Refusal). Known read r old new) (cc (is)) known

-- nothing has to have happened
pub easy : (read : Result (Option Command) Misfit) (why : Refusal) (old new : ScriptState) → HasCause read why old new → (why ≡ refusal.Stuck → ⊥) → ((have total : ℕ) → why ≡ refusal.NoQuorum have total → ⊥) → Known read why old new
easy read why old new holds stuck quorum = record { cause = holds; off = λ is. absurd (stuck is); unwritten = λ have total is. absurd (quorum have total is) }

-- a line that makes neither requests nor turns of itself
abbrev pub IsOther : Result (Option Command) Misfit → Type 0
IsOther (Ok (Some (command.Rd name at count))) = ⊥
IsOther (Ok (Some (command.Wr name at count word))) = ⊥
IsOther (Ok (Some (command.Post name at count word))) = ⊥
IsOther (Ok (Some command.Wait)) = ⊥
IsOther (Ok (Some (command.SyncVolume name))) = ⊥
IsOther (Ok (Some (command.SyncGroup name))) = ⊥
IsOther (Ok (Some (command.Migratepv volume from to))) = ⊥
IsOther (Ok (Some (command.Step turns))) = ⊥
IsOther read = Unit {0}

-- has its cause so
pub has_by : (read : Result (Option Command) Misfit) (why : Refusal) (old new : ScriptState) → IsOther read → CauseOf read why old new → HasCause read why old new
has_by (Ok (Some (command.Rd name at count))) why old new other holds = absurd other
has_by (Ok (Some (command.Wr name at count word))) why old new other holds = absurd other
has_by (Ok (Some (command.Post name at count word))) why old new other holds = absurd other
has_by (Ok (Some command.Wait)) why old new other holds = absurd other
has_by (Ok (Some (command.SyncVolume name))) why old new other holds = absurd other
has_by (Ok (Some (command.SyncGroup name))) why old new other holds = absurd other
has_by (Ok (Some (command.Migratepv volume from to))) why old new other holds = absurd other
has_by (Ok (Some (command.Step turns))) why old new other holds = absurd other
has_by read why old new other holds = holds
