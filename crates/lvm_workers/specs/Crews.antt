-- A crew of workers, before and after its work.
use Rattle.std.specs.Prelude.{◌≡◌, ◌⊎◌, ◌≤◌, ◌<◌, ◌+◌, ◌-◌, ◌/◌, ◌%◌, ◌^◌, ℕ, zero, suc, nat_le, if◌then◌else◌, ◌||◌, Bool, false, List, [], ◌∷◌, length, slice_index_or}
use Rattle.atomic_table.specs.Seated.{TableId}
use Rattle.crossbeam_utils.specs.Padded.{padded_value}
use Rattle.lvm_vol.specs.Facts.{Request, Fact, begun}
use Rattle.lvm_turn.specs.Calls.{IsIdlePass}
use Rattle.lvm_turn.specs.Views.{Client, HoldsAll, Owns, Standing, View}
use Rattle.lvm_workers.specs.declared.crew.Crew.{Crew}
use Rattle.lvm_workers.specs.declared.crew.Worker.{Worker}
use Rattle.lvm_workers.specs.declared.work.Job.{Job}
use Rattle.lvm_workers.specs.declared.work.Tally.{Tally}
use Rattle.lvm_workers.specs.declared.service.Asked.{Asked}
use Rattle.lvm_workers.specs.declared.words.Draw.{Draw}
use Rattle.lvm_workers.specs.Knowing.{TallyHasCause, Knows, MayEnd, first_own}
use Rattle.lvm_workers.specs.Making.{HasMade}

-- ---- jobs

-- one more request for each of the first clients, where they don't come out even
abbrev pub extra : Crew → ℕ → ℕ
extra crew client = if nat_le client (crew.requests % crew.threads) then 1 else 0

-- how many requests a client makes
abbrev pub share : Crew → ℕ → ℕ
share crew client = crew.requests / crew.threads + extra crew client

abbrev pub job_of : Crew → ℕ → Job
job_of crew client = record { client = client; requests = share crew client; seed = (crew.seed + client) % 2 ^ 64 }

-- so many do the clients 1 to n
abbrev pub shares : Crew → ℕ → ℕ
shares crew zero = 0
shares crew (suc n) = shares crew n + share crew (suc n)

-- how many clients there are: one more where copies are brought up
abbrev pub seats : Bool → ℕ → ℕ
seats brings threads = if brings then threads + 1 else threads

-- ---- tallies

abbrev pub no_tally : Tally
no_tally = record { begun = 0; unbegun = 0; unheard = false }

-- one tally with another
abbrev pub added : Tally → Tally → Tally
added t u = record { begun = t.begun + u.begun; unbegun = t.unbegun + u.unbegun; unheard = t.unheard || u.unheard }

-- how many requests these clients began
abbrev pub begun_over : List Client → ℕ
begun_over [] = 0
begun_over (x ∷ xs) = length (begun x.own) + begun_over xs

-- ---- workers

-- a pass at this turn that is outside and holds each client from 1 to n
pub record HoldsAllClients (table : TableId) (n : ℕ) (p : Standing) : Type 0 where
  pub at : p.table ≡ table
  pub outside : p.knows.inside ≡ false
  pub all : HoldsAll n p.knows.clients

-- the pass has seen what is fixed, and the counts, as this one did
abbrev pub SeenAs : View → View → Type 0
SeenAs first v = (v.fixed ≡ first.fixed) × (v.counts ≡ first.counts)

-- the worker has made nothing yet
pub record HasMadeNothing (table : TableId) (clients : ℕ) (w : Worker) : Type 0 where
  pub idle : IsIdlePass table (w.job.client ∷ []) w.pass
  pub client : (1 ≤ w.job.client) × (w.job.client ≤ clients)
  pub fresh : first_own w.pass.knows.clients ≡ []

module _ (asks : ℕ → ℕ → Draw → Request → Type 0) (WasRefused : Asked → View → Type 0) (waits : List ℕ → ℕ) (table : TableId) where
  -- the worker v has become w
  pub record HasWorked (v w : Worker) : Type 0 where
    pub job : w.job ≡ v.job
    pub idle : IsIdlePass table (v.job.client ∷ []) w.pass
    pub knows : Knows v.pass.knows w.pass.knows
    pub made : HasMade (asks v.job.client) (MayEnd WasRefused waits v.pass.knows w.pass.knows) v.job.seed v.job.requests (padded_value w.tally).begun (first_own w.pass.knows.clients)
    pub all : (padded_value w.tally).begun + (padded_value w.tally).unbegun ≡ v.job.requests
    pub cause : TallyHasCause (λ u. (said : Asked) × WasRefused said u) waits v.pass.knows w.pass.knows (padded_value w.tally)

  abbrev pub AllWorked : List Worker → List Worker → Type 0
  AllWorked vs ws = (i : ℕ) (d : Worker) → i < length vs → HasWorked (slice_index_or vs i d) (slice_index_or ws i d)

  -- it has done this job, and its pass goes on from what the first one knew
  pub record IsDone (first : View) (job : Job) (w : Worker) : Type 0 where
    pub idle : IsIdlePass table (job.client ∷ []) w.pass
    pub fixed : w.pass.knows.fixed ≡ first.fixed
    pub made : HasMade (asks job.client) (MayEnd WasRefused waits first w.pass.knows) job.seed job.requests (padded_value w.tally).begun (first_own w.pass.knows.clients)
    pub all : (padded_value w.tally).begun + (padded_value w.tally).unbegun ≡ job.requests
    pub cause : TallyHasCause (λ u. (said : Asked) × WasRefused said u) waits first w.pass.knows (padded_value w.tally)

  abbrev pub AllDone : View → Crew → List Worker → Type 0
  AllDone first crew ws = (i : ℕ) (d : Worker) → i < length ws → (i < crew.threads) × IsDone first (job_of crew (crew.threads - i)) (slice_index_or ws i d)

-- each of the workers has made nothing yet
abbrev pub AllIdle : TableId → ℕ → List Worker → Type 0
AllIdle table clients ws = (i : ℕ) (d : Worker) → i < length ws → HasMadeNothing table clients (slice_index_or ws i d)

-- the workers of the clients n, n - 1, and so on, before their work
abbrev pub AllReady : TableId → ℕ → View → Crew → List Worker → Type 0
AllReady table clients first crew ws = (i : ℕ) (d : Worker) → i < length ws
    → let w = slice_index_or ws i d in (i < crew.threads) × HasMadeNothing table clients w × (w.job ≡ job_of crew (crew.threads - i)) × SeenAs first w.pass.knows

-- each of these clients has made its requests, as many as are its share, or fewer where it may end early or isn't one of the crew
abbrev pub AllMade : (ℕ → ℕ → Draw → Request → Type 0) → Type 0 → Crew → List Client → Type 0
AllMade asks Ended crew clients = (c : ℕ) (own : List Fact) → Owns clients c own → HasMade (asks c) ((crew.threads < c) ⊎ Ended) (job_of crew c).seed (job_of crew c).requests (length (begun own)) own
