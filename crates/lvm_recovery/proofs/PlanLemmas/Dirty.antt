-- The copies of what is named, and those of what is dirty, are exactly the planned ones.
use Rattle.std.proofs.Common.{◌≡◌, ◌⊎◌, inl, inr, ⊎_elim, ℕ, zero, suc, ◌+◌, ◌*◌, ◌<◌, ◌≤◌, ◌&&◌, ◌++◌, Bool, true, false, List, [], ◌∷◌, Some, filter, flat_map, refl, sym, ap, subst, ◌∙◌, arith, div-lt_iff_lt-mul}
use Rattle.std.specs.Prelude.{if◌then◌else◌, IsTrue}
use Rattle.std.specs.List.{range_with_len}
use Rattle.std.proofs.lemmas.Bool.{cases_lt}
use Rattle.lvm_num.specs.declared.place.Pp.{Pp}
use Rattle.lvm_num.specs.declared.descriptor.Mode.{Mode}
use Rattle.lvm_num.specs.declared.descriptor.Mode.TheVariants.{Active, Passive, Off}
use Rattle.lvm_num.specs.declared.descriptor.LvRow.{LvRow}
use Rattle.lvm_num.specs.declared.descriptor.Descriptor.{Descriptor}
use Rattle.lvm_num.specs.declared.status.Status.{Status}
use Rattle.lvm_num.specs.Disks.{Disks}
use Rattle.lvm_num.specs.Geometry.{partition_blocks, partition_of}
use Rattle.lvm_num.specs.Descriptor.{IsValid, copies_of}
use Rattle.lvm_num.specs.Modes.{is_passive}
use Rattle.lvm_num.specs.Record.{Stamped}
use Rattle.lvm_num.specs.Status.{calls_dirty}
use Rattle.lvm_num.proofs.AmongLemmas.{one_of_left, one_of_right, one_of_either}
use Rattle.lvm_kept.specs.Contents.{Contents}
use Rattle.lvm_kept.specs.Group.{IsOneOf, fresh_on}
use Rattle.lvm_map.specs.Places.{place_on}
use Rattle.lvm_recover.proofs.passed.Even.{mib_positive}
use Rattle.lvm_recover.specs.Recopied.{IsToEqual}
use Rattle.lvm_recovery.specs.declared.copying.Recopy.{Recopy}
use Rattle.lvm_recovery.specs.Planned.{IsPlannedCopy}
use Rattle.lvm_recovery.specs.Plan.{usable_by, copies_from, copies_named, copies_at, copies_whole, copies_if_dirty, copies_dirty, NamedArePlanned}
use Rattle.lvm_recovery.proofs.PlanLemmas.Naming.{both, of_flat, to_flat, of_map, to_map, named_each, named_all}

-- ---- lists

below_of : (a n k : ℕ) → IsOneOf (range_with_len a n) k → k < a + n
below_of a zero k one = absurd one
below_of a (suc n) k (inl same) = omega (arith, same)
below_of a (suc n) k (inr one) = let it = below_of (a + 1) n k one in omega (arith, it)

of_below : (a n k : ℕ) → a ≤ k → k < a + n → IsOneOf (range_with_len a n) k
of_below a zero k from low = absurd (omega (arith, from, low))
of_below a (suc n) k from low = ⊎_elim (λ (more : a < k). inr (of_below (a + 1) n k (omega (arith, more)) (omega (arith, low)))) (λ (here : k ≤ a). inl (omega (arith, from, here))) (cases_lt a k)

-- ---- track groups

module _ (mib : ℕ) (some : 1 ≤ mib) (lps g : ℕ) where
  blocks_some : 0 < partition_blocks mib
  blocks_some = omega (arith, some)

  -- the track groups of a volume are those that begin in one of its logical partitions
  pub is_within : g < 8 * mib * lps → partition_of mib (g * 256) < lps
  is_within low = (div-lt_iff_lt-mul {k = partition_blocks mib} {x = g * 256} {y = lps} blocks_some).1 (grind (arith, low))

  pub is_below : partition_of mib (g * 256) < lps → g < 8 * mib * lps
  is_below inside = let upto = (div-lt_iff_lt-mul {k = partition_blocks mib} {x = g * 256} {y = lps} blocks_some).0 inside in grind (arith, upto)

passive_is : (mode : Mode) → is_passive mode ≡ true → mode ≡ Passive
passive_is Active is = absurd cc
passive_is Passive is = refl
passive_is Off is = absurd cc

module _ (c : Contents) (group : Descriptor) (status : Stamped Status) (there : Disks) (valid : IsValid group) where
  -- ---- each is to be copied

  of_usable : (row : LvRow) (g : ℕ) (one : Recopy) → IsOneOf group.lvs row → row.mode ≡ Passive → IsTrue (calls_dirty status.value row.number) → partition_of group.mib (g * 256) < row.lps
      → (usable : List Pp) → fresh_on there (Some status) row (partition_of group.mib (g * 256)) ≡ usable → IsOneOf (copies_from group.mib (g * 256) usable) one → IsPlannedCopy c group (Some status) there one
  of_usable row g one volume soft dirty low [] is among = absurd among
  of_usable row g one volume soft dirty low (first ∷ others) is among =
      let it = of_map (λ (p : Pp). record { from = place_on group.mib first (g * 256); into = place_on group.mib p (g * 256) }) others one among in
      record {
        row = row;
        lp = partition_of group.mib (g * 256);
        g = g;
        volume = volume;
        inside = record { inside = low; partition = refl };
        made = subst (λ (m : Mode). IsToEqual c (Some status) there m row.number (g * 256)) (sym soft) dirty;
        first = first;
        others = others;
        usable = is;
        copy = it.0;
        further = it.1;
        from = ap (λ (x : Recopy). x.from) it.2;
        into = ap (λ (x : Recopy). x.into) it.2;
      }

  of_dirty : (row : LvRow) (one : Recopy) → IsOneOf group.lvs row → (t : Bool) → (is_passive row.mode && calls_dirty status.value row.number) ≡ t
      → IsOneOf (if t then copies_whole group.mib status.value there row else []) one → IsPlannedCopy c group (Some status) there one
  of_dirty row one volume true tests among =
      let parts = both (is_passive row.mode) (calls_dirty status.value row.number) tests in
      let it = of_flat (copies_at group.mib status.value there row) (range_with_len 0 (8 * group.mib * row.lps)) one among in
      let low = below_of 0 (8 * group.mib * row.lps) it.0 it.1 in
      of_usable row it.0 one volume (passive_is row.mode parts.0) parts.1 (is_within group.mib (mib_positive group valid) row.lps it.0 (omega (arith, low)))
      (fresh_on there (Some status) row (partition_of group.mib (it.0 * 256))) refl it.2
  of_dirty row one volume false tests among = absurd among

  -- ---- each such one is there

  to_dirty : (one : Recopy) (p : IsPlannedCopy c group (Some status) there one) → p.row.mode ≡ Passive → IsOneOf (copies_dirty group status.value there) one
  to_dirty one p soft =
      let dirty : IsTrue (calls_dirty status.value p.row.number) = subst (λ (m : Mode). IsToEqual c (Some status) there m p.row.number (p.g * 256)) soft p.made in
      let partition = p.inside.partition in
      let low : p.g < 8 * group.mib * p.row.lps = is_below group.mib (mib_positive group valid) p.row.lps p.g (subst (λ (n : ℕ). n < p.row.lps) (sym partition) p.inside.inside) in
      let usable : filter (usable_by status.value there) (copies_of p.row (partition_of group.mib (p.g * 256))) ≡ p.first ∷ p.others = ap (λ (n : ℕ). filter (usable_by status.value there) (copies_of p.row n)) partition ∙ p.usable in
      let same : one ≡ record { from = place_on group.mib p.first (p.g * 256); into = place_on group.mib p.copy (p.g * 256) } = ap (λ x. record { from = x; into = one.into }) p.from ∙ ap (λ x. record { from = place_on group.mib p.first (p.g * 256); into = x }) p.into in
      let here : IsOneOf (copies_at group.mib status.value there p.row p.g) one = subst (λ (l : List Pp). IsOneOf (copies_from group.mib (p.g * 256) l) one) (sym usable)
      (subst (IsOneOf (copies_from group.mib (p.g * 256) (p.first ∷ p.others))) (sym same)
      (to_map (λ (x : Pp). record { from = place_on group.mib p.first (p.g * 256); into = place_on group.mib x (p.g * 256) }) p.others p.copy p.further)) in
      let whole : IsOneOf (copies_whole group.mib status.value there p.row) one = to_flat (copies_at group.mib status.value there p.row) (range_with_len 0 (8 * group.mib * p.row.lps)) p.g one (of_below 0 (8 * group.mib * p.row.lps) p.g (omega arith) (omega (arith, low))) here in
      let tests : (is_passive p.row.mode && calls_dirty status.value p.row.number) ≡ true = ap (λ (m : Mode). is_passive m && calls_dirty status.value p.row.number) soft ∙ dirty in
      to_flat (copies_if_dirty group.mib status.value there) group.lvs p.row one p.volume
      (subst (λ (t : Bool). IsOneOf (if t then copies_whole group.mib status.value there p.row else []) one) (sym tests) whole)

pub named_are_planned : NamedArePlanned
named_are_planned c group status there named valid are = record {
  each = λ one among. ⊎_elim
      (λ (first : IsOneOf (flat_map (copies_named group status.value there) named) one). named_each c group status there valid named are one first)
      (λ (last : IsOneOf (copies_dirty group status.value there) one).
      let it = of_flat (copies_if_dirty group.mib status.value there) group.lvs one last in
      of_dirty c group status there valid it.0 one it.1 (is_passive it.0.mode && calls_dirty status.value it.0.number) refl it.2)
      (one_of_either (flat_map (copies_named group status.value there) named) (copies_dirty group status.value there) one among);
  all = λ one p. by one p p.row.mode refl;
}
  where
    by : (one : Recopy) (p : IsPlannedCopy c group (Some status) there one) → (m : Mode) → p.row.mode ≡ m → IsOneOf (flat_map (copies_named group status.value there) named ++ copies_dirty group status.value there) one
    by one p Active is = one_of_left (flat_map (copies_named group status.value there) named) (copies_dirty group status.value there) one (named_all c group status there valid named are one p is)
    by one p Passive is = one_of_right (flat_map (copies_named group status.value there) named) (copies_dirty group status.value there) one (to_dirty c group status there valid one p is)
    by one p Off is = absurd (subst (λ (m : Mode). IsToEqual c (Some status) there m p.row.number (p.g * 256)) is p.made)
