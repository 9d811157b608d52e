-- Runs that the words of the command line ask for.
use Rattle.std.proofs.Common.{◌≡◌, ℕ, List, [], ◌∷◌, Bool, true, false, if◌then◌else◌, Option, Some, None, Result, Ok, Err, inl, inr, refl, sym, ap, subst}
use Rattle.std.specs.Prelude.{IfNone, IfSome, bytes_eq, codes, ok_or}
use Rattle.lvm_disk.specs.Device.{Device, IsReady}
use Rattle.lvm_core.specs.declared.parts.Room.{Room}
use Rattle.lvm_load.specs.declared.workload.Workload.{Workload}
use Rattle.lvm_memory.specs.declared.memory.MemShelf.{MemShelf}
use Rattle.lvm_program.specs.Program.{OnDrawn, OnLoad, OnScript, OnSim, OnText, IsGenerated, IsUnrun, load_words}
use Rattle.lvm_program.specs.declared.load.LoadWords.{LoadWords}
use Rattle.lvm_top.specs.Run.{Promises, ran}
use Rattle.lvm_top.specs.Script.{Stream}
use Rattle.lvm_load.proofs.ScriptLemmas.Growing.{front_at_first}
use Rattle.lvm_top.specs.declared.run.Ended.{Ended}
use Rattle.lvm_top.specs.declared.status.ExitStatus.{ExitStatus}
use Rattle.lvm_top.specs.declared.status.ExitStatus.TheVariants as ended
use Rattle.lvm_top.proofs.RunLemmas.Stopping.{nothing_promised}
use Rattle.lvm_words.specs.declared.job.Job.{Job}
use Rattle.lvm_words.specs.declared.job.Job.TheVariants.{Script, Sim, Gen, Weave, Load, Image, Help, Version}
use Rattle.lvm_words.specs.Words.{asked_of, bounded, gen_of, image_of, is_load, job_of, load_of, sim_of, told_of, told_or, weave_by, weave_of, with_five, with_two, work_of}
use Rattle.lvm_parse.specs.Words.{number_in}
use Rattle.lvm_words.specs.declared.fault.WordsFault.{WordsFault}
use Rattle.lvm_words.specs.declared.fault.WordsFault.TheVariants.{Usage}

-- what always holds, holds where the words ask for a script over the files
pub on_script : (asked : Result Job WordsFault) (P : Type 0) → P → OnScript asked P
on_script (Ok Script) P p = p
on_script (Ok (Sim disks mib)) P p = tt
on_script (Ok (Gen seed count)) P p = tt
on_script (Ok (Weave disks mib clients requests seed)) P p = tt
on_script (Ok (Load own sync group volume threads requests seed)) P p = tt
on_script (Ok (Image disk mib)) P p = tt
on_script (Ok Help) P p = tt
on_script (Ok Version) P p = tt
on_script (Err why) P p = tt

-- and where they ask for one over disks in memory
pub on_sim : (asked : Result Job WordsFault) (P : ℕ → ℕ → Type 0) → ((disks mib : ℕ) → P disks mib) → OnSim asked P
on_sim (Ok Script) P p = tt
on_sim (Ok (Sim disks mib)) P p = p disks mib
on_sim (Ok (Gen seed count)) P p = tt
on_sim (Ok (Weave disks mib clients requests seed)) P p = tt
on_sim (Ok (Load own sync group volume threads requests seed)) P p = tt
on_sim (Ok (Image disk mib)) P p = tt
on_sim (Ok Help) P p = tt
on_sim (Ok Version) P p = tt
on_sim (Err why) P p = tt

-- and where they ask for what is drawn
pub on_drawn : (asked : Result Job WordsFault) (P : ℕ → ℕ → Type 0) (Q : ℕ → ℕ → Workload → Type 0) → ((seed count : ℕ) → P seed count) → ((disks mib : ℕ) (load : Workload) → Q disks mib load) → OnDrawn asked P Q
on_drawn (Ok Script) P Q p q = tt
on_drawn (Ok (Sim disks mib)) P Q p q = tt
on_drawn (Ok (Gen seed count)) P Q p q = p seed count
on_drawn (Ok (Weave disks mib clients requests seed)) P Q p q = q disks mib (record { clients = clients; requests = requests; seed = seed })
on_drawn (Ok (Load own sync group volume threads requests seed)) P Q p q = tt
on_drawn (Ok (Image disk mib)) P Q p q = tt
on_drawn (Ok Help) P Q p q = tt
on_drawn (Ok Version) P Q p q = tt
on_drawn (Err why) P Q p q = tt

-- where so many disks are asked for, what holds of these
pub on_sim_at : (asked : Result Job WordsFault) (disks mib : ℕ) → asked ≡ Ok (Sim disks mib) → (P : ℕ → ℕ → Type 0) → P disks mib → OnSim asked P
on_sim_at asked disks mib is P p = subst (λ (a : Result Job WordsFault). OnSim a P) (sym is) p

pub on_weave_at : (asked : Result Job WordsFault) (disks mib clients requests seed : ℕ) → asked ≡ Ok (Weave disks mib clients requests seed) → (P : ℕ → ℕ → Type 0) (Q : ℕ → ℕ → Workload → Type 0)
    → Q disks mib (record { clients = clients; requests = requests; seed = seed }) → OnDrawn asked P Q
on_weave_at asked disks mib clients requests seed is P Q q = subst (λ (a : Result Job WordsFault). OnDrawn a P Q) (sym is) q

-- no memory was found for the words, so that nothing was run
pub unread_promises : {S : Type 0} (asked : Result Job WordsFault) (clock count : ℕ) (entry exit : Device) (same : exit ≡ entry) (ready : IsReady entry) (room : Room) (input output : Stream) (end : Ended S) → IsUnrun end ended.Memory
    → OnScript asked ((end.sim ≡ None) × Promises (record { last = clock; before = count; behind = count }) (ran room entry exit (record { before = input; after = input }) (record { before = output; after = output }) clock end.history end.status end.refused))
unread_promises asked clock count entry exit same ready room input output end unrun =
    on_script asked _ (unrun.sim_is, rw (same, unrun.history_is, unrun.status_is, unrun.refused_is) (nothing_promised (record { last = clock; before = count; behind = count }) clock room entry input output ready (inl refl)))

-- no memory was found for it, so that no disks were made
pub no_sim : (sim : Option MemShelf) (P : MemShelf → Type 0) (Q : Type 0) → sim ≡ None → Q → IfSome sim P × IfNone sim Q
no_sim sim P Q none q = (subst (λ (o : Option MemShelf). IfSome o P) (sym none) tt, subst (λ (o : Option MemShelf). IfNone o Q) (sym none) q)

-- and nothing that is drawn was written
pub unread_generates : {S : Type 0} (seed count : ℕ) (output : Stream) (end : Ended S) → IsUnrun end ended.Memory → IsUnrun end end.status × IsGenerated seed count end.status (record { before = output; after = output })
unread_generates seed count output end unrun = (
  record { status_is = refl; refused_is = unrun.refused_is; history_is = unrun.history_is; sim_is = unrun.sim_is },
  subst (λ (s : ExitStatus). IsGenerated seed count s (record { before = output; after = output })) (sym unrun.status_is) none,
)
  where
    none : IsGenerated seed count ended.Memory (record { before = output; after = output })
    none = record { status_is = inr (inr refl); whole = λ is. absurd (cc); front = λ _. front_at_first seed count output.content; cause = λ is. absurd (cc); memory = λ is. refl; well = λ is. absurd (cc) }

-- where a load is asked for, what holds of it
pub on_load_at : (asked : Result Job WordsFault) (own sync : Bool) (group volume : List ℕ) (threads requests seed : ℕ) → asked ≡ Ok (Load own sync group volume threads requests seed) → (P : LoadWords → Type 0)
    → P (load_words own sync group volume threads requests seed) → OnLoad asked P
on_load_at asked own sync group volume threads requests seed is P p = subst (λ (a : Result Job WordsFault). OnLoad a P) (sym is) p

-- ---- words that ask for work, but for a load, are told nothing

abbrev IsWork : Result Job WordsFault → Type 0
IsWork (Ok Help) = ⊥
IsWork (Ok Version) = ⊥
IsWork (Ok (Load own sync group volume threads requests seed)) = ⊥
IsWork other = Unit {0}

work_if : (b : Bool) (x y : Result Job WordsFault) → IsWork x → IsWork y → IsWork (if b then x else y)
work_if true x y one other = one
work_if false x y one other = other

sim_works : (disks mib : Option ℕ) → IsWork (sim_of disks mib)
sim_works (Some disks) (Some mib) = work_if _ (Ok (Sim disks mib)) (Err Usage) tt tt
sim_works (Some disks) None = tt
sim_works None mib = tt

gen_works : (seed count : Option ℕ) → IsWork (gen_of seed count)
gen_works (Some seed) (Some count) = work_if _ (Ok (Gen seed count)) (Err Usage) tt tt
gen_works (Some seed) None = tt
gen_works None count = tt

image_works : (disk mib : Option ℕ) → IsWork (image_of disk mib)
image_works (Some disk) (Some mib) = work_if _ (Ok (Image disk mib)) (Err Usage) tt tt
image_works (Some disk) None = tt
image_works None mib = tt

weave_works : (disks mib clients requests seed : Option ℕ) → IsWork (weave_by disks mib clients requests seed)
weave_works (Some disks) (Some mib) (Some clients) (Some requests) (Some seed) = tt
weave_works (Some disks) (Some mib) (Some clients) (Some requests) None = tt
weave_works (Some disks) (Some mib) (Some clients) None seed = tt
weave_works (Some disks) (Some mib) None requests seed = tt
weave_works (Some disks) None clients requests seed = tt
weave_works None mib clients requests seed = tt

abbrev else_image : List ℕ → List ℕ → List ℕ → Result Job WordsFault
else_image name first second = if bytes_eq name (codes "image") then image_of (number_in first) (number_in second) else Err Usage

abbrev else_gen : List ℕ → List ℕ → List ℕ → Result Job WordsFault
else_gen name first second = if bytes_eq name (codes "gen") then gen_of (number_in first) (number_in second) else else_image name first second

two_work : (name first second : List ℕ) → IsWork (with_two name first second)
two_work name first second =
    work_if (bytes_eq name (codes "sim")) (sim_of (number_in first) (number_in second)) (else_gen name first second) (sim_works (number_in first) (number_in second))
    (work_if (bytes_eq name (codes "gen")) (gen_of (number_in first) (number_in second)) (else_image name first second) (gen_works (number_in first) (number_in second))
    (work_if (bytes_eq name (codes "image")) (image_of (number_in first) (number_in second)) (Err Usage) (image_works (number_in first) (number_in second)) tt))

five_work : (name disks mib clients requests seed : List ℕ) → IsWork (with_five name disks mib clients requests seed)
five_work name disks mib clients requests seed =
    work_if _ (weave_of (number_in disks) (number_in mib) (number_in clients) (number_in requests) (number_in seed)) (Err Usage)
    (weave_works (bounded 1 8 (number_in disks)) (bounded 8 64 (number_in mib)) (bounded 1 64 (number_in clients)) (bounded 0 50000 (number_in requests)) (number_in seed)) tt

words_work : (words : List (List ℕ)) → IsWork (work_of words)
words_work [] = tt
words_work (name ∷ []) = work_if _ (Ok Script) (Err Usage) tt tt
words_work (name ∷ a ∷ []) = tt
words_work (name ∷ a ∷ b ∷ []) = two_work name a b
words_work (name ∷ a ∷ b ∷ c ∷ []) = tt
words_work (name ∷ a ∷ b ∷ c ∷ d ∷ []) = tt
words_work (name ∷ a ∷ b ∷ c ∷ d ∷ e ∷ []) = five_work name a b c d e
words_work (name ∷ a ∷ b ∷ c ∷ d ∷ e ∷ f ∷ more) = tt

work_tells : (asked : Result Job WordsFault) → IsWork asked → (P : List ℕ → Type 0) → OnText asked P
work_tells (Ok Script) works P = tt
work_tells (Ok (Sim disks mib)) works P = tt
work_tells (Ok (Gen seed count)) works P = tt
work_tells (Ok (Weave disks mib clients requests seed)) works P = tt
work_tells (Ok (Load own sync group volume threads requests seed)) works P = absurd works
work_tells (Ok (Image disk mib)) works P = tt
work_tells (Ok Help) works P = absurd works
work_tells (Ok Version) works P = absurd works
work_tells (Err why) works P = tt

work_loads : (asked : Result Job WordsFault) → IsWork asked → (P : LoadWords → Type 0) → OnLoad asked P
work_loads (Ok Script) works P = tt
work_loads (Ok (Sim disks mib)) works P = tt
work_loads (Ok (Gen seed count)) works P = tt
work_loads (Ok (Weave disks mib clients requests seed)) works P = tt
work_loads (Ok (Load own sync group volume threads requests seed)) works P = absurd works
work_loads (Ok (Image disk mib)) works P = tt
work_loads (Ok Help) works P = absurd works
work_loads (Ok Version) works P = absurd works
work_loads (Err why) works P = tt

-- no memory was found for words, which those that ask to be told something, or for a load, don't need
module _ (words : List (List ℕ)) (why : WordsFault) (told : IfSome (told_of words) (λ (job : Job). ◌≡◌ {A = Result Job WordsFault} (Err why) (Ok job))) (loads : is_load words ≡ true → Err why ≡ asked_of words) where
  abbrev Unread : (Result Job WordsFault → Type 0) → Type 0
  Unread P = ((asked : Result Job WordsFault) → IsWork asked → P asked) → P (Err why) → P (job_of words)

  unread : (P : Result Job WordsFault → Type 0) → Unread P
  unread P work none = by (told_of words) told
    where
      by_name : (ws : List (List ℕ)) → (is_load ws ≡ true → Err why ≡ asked_of ws) → P (asked_of ws)
      by_name [] loads = work (Err Usage) tt
      by_name (name ∷ rest) loads = go (bytes_eq name (codes "load")) refl
        where
          go : (t : Bool) → bytes_eq name (codes "load") ≡ t → P (asked_of (name ∷ rest))
          go true is = subst P (loads is) none
          go false is = subst P (sym (ap (λ (t : Bool). if t then ok_or (load_of rest) Usage else work_of (name ∷ rest)) is)) (work (work_of (name ∷ rest)) (words_work (name ∷ rest)))

      by : (o : Option Job) → IfSome o (λ (job : Job). ◌≡◌ {A = Result Job WordsFault} (Err why) (Ok job)) → P (told_or o (asked_of words))
      by None told = by_name words loads
      by (Some job) told = absurd (cc told)

  pub unread_tells : (P : List ℕ → Type 0) → OnText (job_of words) P
  unread_tells P = unread (λ asked. OnText asked P) (λ asked works. work_tells asked works P) tt

  pub unread_loads : (P : LoadWords → Type 0) → OnLoad (job_of words) P
  unread_loads P = unread (λ asked. OnLoad asked P) (λ asked works. work_loads asked works P) tt
