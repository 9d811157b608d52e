-- What the lines ask for that make the volume of a workload.
use Rattle.std.proofs.Common.{◌≡◌, ◌⊎◌, inl, inr, ⊎_elim, ◌≤◌, ◌<◌, ◌-◌, ◌+◌, ◌++◌, ◌==◌, if◌then◌else◌, ℕ, zero, suc, List, [], ◌∷◌, take, Bool, true, false, Option, Some, Result, Ok, refl, sym, ◌∙◌, ap, subst, arith}
use Rattle.std.specs.Prelude.{codes}
use Rattle.std.specs.Fmt.{decimal, digits}
use Rattle.std.proofs.lemmas.Bool.{cases_lt}
use Rattle.lvm_num.specs.Name.{is_name}
use Rattle.lvm_num.specs.declared.descriptor.Mode.TheVariants as mode
use Rattle.lvm_num.specs.declared.descriptor.Policy.TheVariants as policy
use Rattle.lvm_parse.specs.declared.command.Command.{Command}
use Rattle.lvm_parse.specs.declared.command.Command.TheVariants as command
use Rattle.lvm_parse.specs.declared.rest.Misfit.{Misfit}
use Rattle.lvm_parse.specs.Reading.{operand, ends, options, is_new, disks}
use Rattle.lvm_parse.specs.Grammar.{line_of}
use Rattle.lvm_top.specs.OneGroup.{IsUnforced}
use Rattle.lvm_program.specs.Woven.{IsSized, copy_count, mklv_line, mkvg_line}

-- what a function says of each number below this
abbrev to_each : {A : Type 0} → (ℕ → A) → ℕ → List A
to_each f zero = []
to_each f (suc n) = f n ∷ to_each f n

-- two that say the same of all say the same of each
same_at : {A : Type 0} (f g : ℕ → A) (n m : ℕ) → to_each f n ≡ to_each g n → m < n → f m ≡ g m
same_at f g zero m same less = absurd (omega (arith, less))
same_at f g (suc n) m same less = ⊎_elim
    (λ is. let top : f n ≡ g n = cc same in ap f is ∙ top ∙ ap g (sym is))
    (λ below. let rest : to_each f n ≡ to_each g n = cc same in same_at f g n m rest below)
    (by_order m n less)
  where
    by_order : (a b : ℕ) → a < suc b → (a ≡ b) ⊎ (a < b)
    by_order a b less = ⊎_elim (λ below. inr below) (λ more. inl (omega (arith, less, more))) (cases_lt a b)

-- ---- what they ask for

abbrev Read : Type 0
Read = Result (Option Command) Misfit

-- the group of so many disks
abbrev new_group : ℕ → Read
new_group disks = Ok (Some (command.Mkvg false (codes "weavevg") (Some 1) (take disks (0 ∷ 1 ∷ 2 ∷ 3 ∷ 4 ∷ 5 ∷ 6 ∷ 7 ∷ []))))

-- the volume of so many copies and logical partitions
abbrev new_volume : ℕ → ℕ → Read
new_volume copies lps = Ok (Some (command.Mklv (codes "weavelv") copies mode.Active policy.Parallel (codes "weavevg") lps))

abbrev volume_line : ℕ → ℕ → List ℕ
volume_line copies lps = codes "mklv -y weavelv -c " ++ (decimal copies ++ (codes " -w a weavevg " ++ decimal lps))

groups_read : to_each (λ d. line_of (mkvg_line (d + 1))) 8 ≡ to_each (λ d. new_group (d + 1)) 8
unfolding options is_new disks is_name
groups_read = refl

single_read : to_each (λ n. line_of (volume_line 1 (n + 6))) 57 ≡ to_each (λ n. new_volume 1 (n + 6)) 57
unfolding operand ends options is_new digits is_name
single_read = refl

mirrors_read : to_each (λ n. line_of (volume_line 2 (n + 6))) 57 ≡ to_each (λ n. new_volume 2 (n + 6)) 57
unfolding operand ends options is_new digits is_name
mirrors_read = refl

pub group_reads : (disks : ℕ) → 1 ≤ disks → disks ≤ 8 → line_of (mkvg_line disks) ≡ new_group disks
group_reads disks some few =
    let is : (disks - 1) + 1 ≡ disks = omega (arith, some) in
    subst (λ (d : ℕ). line_of (mkvg_line d) ≡ new_group d) is (same_at (λ d. line_of (mkvg_line (d + 1))) (λ d. new_group (d + 1)) 8 (disks - 1) groups_read (omega (arith, some, few)))

lps_read : (copies mib : ℕ) → to_each (λ n. line_of (volume_line copies (n + 6))) 57 ≡ to_each (λ n. new_volume copies (n + 6)) 57 → 8 ≤ mib → mib ≤ 64 → line_of (volume_line copies (mib - 2)) ≡ new_volume copies (mib - 2)
lps_read copies mib all low high =
    let is : (mib - 8) + 6 ≡ mib - 2 = omega (arith, low) in
    subst (λ (n : ℕ). line_of (volume_line copies n) ≡ new_volume copies n) is (same_at (λ n. line_of (volume_line copies (n + 6))) (λ n. new_volume copies (n + 6)) 57 (mib - 8) all (omega (arith, low, high)))

pub volume_reads : (disks mib : ℕ) → IsSized disks mib → line_of (mklv_line disks mib) ≡ new_volume (copy_count disks) (mib - 2)
volume_reads disks mib sized = by (disks == 1)
  where
    by : (single : Bool) → line_of (volume_line (if single then 1 else 2) (mib - 2)) ≡ new_volume (if single then 1 else 2) (mib - 2)
    by true = lps_read 1 mib single_read sized.2 sized.3
    by false = lps_read 2 mib mirrors_read sized.2 sized.3

-- ---- neither is a `mkvg -f`

module _ (disks mib : ℕ) (sized : IsSized disks mib) where
  pub group_unforced : IsUnforced (mkvg_line disks)
  group_unforced name size members is = let e = sym (group_reads disks sized.0 sized.1) ∙ is in cc e

  pub volume_unforced : IsUnforced (mklv_line disks mib)
  volume_unforced name size members is = let e = sym (volume_reads disks mib sized) ∙ is in cc e
