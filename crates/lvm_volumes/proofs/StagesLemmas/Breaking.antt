-- How a command breaks off, by how one of its stages did.
use Rattle.std.proofs.Common.{◌≡◌, ℕ, Err, refl, ap, subst, ◌∙◌}
use Rattle.std.specs.Prelude.{IsTrue}
use Rattle.lvm_num.specs.declared.descriptor.Descriptor.{Descriptor}
use Rattle.lvm_vol.specs.Log.{Log, cut_log}
use Rattle.lvm_status.specs.Update.{members_there}
use Rattle.lvm_volume_plan.proofs.passed.Write.{darkened_then, given_up_then}
use Rattle.lvm_volume_plan.proofs.passed.Core.{cut_core, dark_is}
use Rattle.lvm_volume_plan.specs.passed.Core.{CommitFault, IsSettled, HasGoneDark, RecordsEnd, with_one_out, Scope, Leaves}
use Rattle.lvm_volume_plan.specs.passed.CoreFaultCommitFault as commit
use Rattle.lvm_session.specs.declared.open.Power.TheVariants as power
use Rattle.lvm_session.specs.Dark.{all_dark}
use Rattle.lvm_session.specs.State.{Core, State}
use Rattle.lvm_volume_plan.specs.Faults.{IfOn, fault_of}
use Rattle.lvm_volumes.specs.Endings.{with_descriptor}
use Rattle.lvm_volumes.specs.Stages.{CommandBroke}
use Rattle.lvm_volumes.proofs.Leaving.{rose_from, there_before}

-- the session after a power cut
dark_core : (a b : State) → IsSettled a.core → HasGoneDark a b → b.core ≡ cut_core (record a.core { pool = with_one_out a.core.pool; status = b.core.status; homes = b.core.homes })
dark_core a b settled dark = dark.is ∙ dark_is (record a.core { pool = with_one_out a.core.pool; status = b.core.status; homes = b.core.homes }) (record { requests = settled.quiet.requests; copy = settled.quiet.copy })

pub dark_history : (a b : State) → IsSettled a.core → HasGoneDark a b → b.core.history ≡ cut_log a.core.history
dark_history a b settled dark = ap (λ (c : Core). c.history) (dark_core a b settled dark)

-- a commit that broke off
pub broken : (Done : Type 0) (patience : ℕ) (a b : State) → IsSettled a.core → (why : CommitFault) → RecordsEnd Done patience a b (Err why) → CommandBroke a.core.history patience a b why
broken Done patience a b settled (commit.WentOff have total) ends = record {
  lost = ends.lost;
  power = ap (λ (c : Core). c.power) ends.is;
  history = ap (λ (c : Core). c.history) ends.is;
  descriptor = ap (λ (c : Core). c.descriptor) ends.is;
  requests = ap (λ (c : Core). c.requests) ends.is ∙ settled.quiet.requests;
  is = ends.is;
  ready = ends.ready;
  cuts = ends.cuts;
}
broken Done patience a b settled commit.Dark ends = record {
  cut = ends.cut;
  power = ap (λ (c : Core). c.power) ends.is;
  history = dark_history a b settled ends;
  descriptor = ap (λ (c : Core). c.descriptor) ends.is;
  requests = ap (λ (c : Core). c.requests) (dark_core a b settled ends);
  is = ends.is;
}
broken Done patience a b settled commit.Stuck ends = record {
  out = ends.out;
  history = ap (λ (c : Core). c.history) ends.is;
  descriptor = ap (λ (c : Core). c.descriptor) ends.is;
  requests = ap (λ (c : Core). c.requests) ends.is ∙ settled.quiet.requests;
  is = ends.is;
}
broken Done patience a b settled (commit.DiskFailed disk) ends = ends

-- and a command whose later stage did, with the descriptor that it had then,
pub broken_behind : (W : Scope) (p q : ℕ) (log was : Log) (d : Descriptor) (a b c : State) → Leaves W p q a b → b.core ≡ record a.core { descriptor = d; history = was; status = b.core.status; homes = b.core.homes }
    → b.device.counts.cuts ≡ a.device.counts.cuts → (why : CommitFault) → CommandBroke log q b c why → CommandBroke log p (with_descriptor d a) c why
broken_behind W p q log was d a b c leaves same cuts (commit.WentOff have total) ends = record {
  lost = record {
    have_is = ends.lost.have_is;
    total_is = ends.lost.total_is;
    few = ends.lost.few;
    disk = ends.lost.disk;
    was = there_before a.core.status.group a.core.status.wanted b.core.status.wanted ends.lost.disk (leaves.status.stays ends.lost.disk)
        (subst (λ (g : Descriptor). IsTrue (members_there g b.core.status.wanted ends.lost.disk)) leaves.status.group ends.lost.was);
    failed = rose_from (a.device.counts.faults ends.lost.disk) (b.device.counts.faults ends.lost.disk) (c.device.counts.faults ends.lost.disk) (leaves.falls.faults ends.lost.disk) ends.lost.failed;
  };
  power = ends.power;
  history = ends.history;
  descriptor = ends.descriptor ∙ ap (λ (x : Core). x.descriptor) same;
  requests = ends.requests;
  is = ends.is ∙ ap (λ (x : Core). record x { history = log; status = c.core.status; homes = c.core.homes; power = power.Off }) same;
  ready = ends.ready;
  cuts = ends.cuts ∙ cuts;
}
broken_behind W p q log was d a b c leaves same cuts commit.Dark ends = record {
  cut = darkened_then 0 0 a.device b.device c.device refl cuts ends.cut;
  power = ends.power;
  history = ends.history;
  descriptor = ends.descriptor ∙ ap (λ (x : Core). x.descriptor) same;
  requests = ends.requests;
  is = ends.is ∙ ap (λ (x : Core). all_dark (record x { history = log; pool = with_one_out x.pool; status = c.core.status; homes = c.core.homes })) same;
}
broken_behind W p q log was d a b c leaves same cuts commit.Stuck ends = record {
  out = given_up_then 0 0 p q a.device b.device c.device refl cuts leaves.spends ends.out;
  history = ends.history;
  descriptor = ends.descriptor ∙ ap (λ (x : Core). x.descriptor) same;
  requests = ends.requests;
  is = ends.is ∙ ap (λ (x : Core). record x { history = log; pool = with_one_out x.pool; status = c.core.status; homes = c.core.homes }) same;
}
broken_behind W p q log was d a b c leaves same cuts (commit.DiskFailed disk) ends = ends

-- or with that of its beginning
pub broken_since : (W : Scope) (p q : ℕ) (log was : Log) (a b c : State) → Leaves W p q a b → b.core ≡ record a.core { history = was; status = b.core.status; homes = b.core.homes }
    → b.device.counts.cuts ≡ a.device.counts.cuts → (why : CommitFault) → CommandBroke log q b c why → CommandBroke log p a c why
broken_since W p q log was a b c leaves same cuts why ends = broken_behind W p q log was a.core.descriptor a b c leaves same cuts why ends

-- nothing is said of a session at which a commit broke off
pub stopped : (Done P : Type 0) (patience : ℕ) (a b : State) (why : CommitFault) → RecordsEnd Done patience a b (Err why) → IfOn {A = Unit {0}} (Err (fault_of why)) P
stopped Done P patience a b commit.Dark ends = tt
stopped Done P patience a b (commit.WentOff have total) ends = tt
stopped Done P patience a b commit.Stuck ends = tt
stopped Done P patience a b (commit.DiskFailed disk) ends = absurd ends
