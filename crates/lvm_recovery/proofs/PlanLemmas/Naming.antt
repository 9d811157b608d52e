-- The copies of what is named are exactly the planned ones in mode active.
use Rattle.std.proofs.Common.{◌≡◌, inl, inr, ⊎_elim, ℕ, ◌*◌, ◌==◌, ◌&&◌, Bool, true, false, List, [], ◌∷◌, Option, Some, None, find, flat_map, map, filter, refl, sym, ap, subst, ◌∙◌, arith}
use Rattle.std.specs.Prelude.{if◌then◌else◌, nat_lt}
use Rattle.std.proofs.lemmas.Bool.{eqb-true, ltb-true}
use Rattle.std.proofs.lemmas.Bool.Decides.{nat_tests}
use Rattle.lvm_num.specs.declared.place.Pp.{Pp}
use Rattle.lvm_num.specs.declared.descriptor.Mode.{Mode}
use Rattle.lvm_num.specs.declared.descriptor.Mode.TheVariants.{Active, Passive, Off}
use Rattle.lvm_num.specs.declared.descriptor.LvRow.{LvRow}
use Rattle.lvm_num.specs.declared.descriptor.Descriptor.{Descriptor}
use Rattle.lvm_num.specs.declared.status.Status.{Status}
use Rattle.lvm_num.specs.Disks.{Disks}
use Rattle.lvm_num.specs.Geometry.{partition_of}
use Rattle.lvm_num.specs.Descriptor.{IsValid, copies_of, volume_of}
use Rattle.lvm_num.specs.Record.{Stamped}
use Rattle.lvm_kept.specs.Contents.{Contents}
use Rattle.lvm_kept.specs.Group.{IsOneOf, fresh_on, is_named}
use Rattle.lvm_kept.proofs.ChangesLemmas.Entries.{volume_is_row}
use Rattle.lvm_num.specs.Modes.{is_active}
use Rattle.lvm_num.proofs.AmongLemmas.{one_of_left, one_of_right, one_of_either}
use Rattle.lvm_recover.proofs.passed.Even.{row_is_volume}
use Rattle.lvm_recover.specs.Recopied.{IsToEqual}
use Rattle.lvm_recovery.proofs.PlannedLemmas.{group_of_start}
use Rattle.lvm_recovery.specs.declared.copying.Recopy.{Recopy}
use Rattle.lvm_recovery.specs.declared.plan.TrackGroup.{TrackGroup}
use Rattle.lvm_recovery.specs.Planned.{IsNamedByOne, IsPlannedCopy}
use Rattle.lvm_map.specs.Places.{place_on}
use Rattle.lvm_recovery.specs.Plan.{usable_by, copies_from, copies_of_group, copies_of_found, copies_named, AreNamed}
pub use Rattle.std.proofs.lemmas.Bool.{and_parts as both}

-- ---- lists

pub of_flat : {X Y : Type 0} (f : X → List Y) (l : List X) (y : Y) → IsOneOf (flat_map f l) y → (x : X) × IsOneOf l x × IsOneOf (f x) y
of_flat f [] y one = absurd one
of_flat f (x ∷ l) y one = ⊎_elim (λ here. (x, inl refl, here)) (λ rest. let it = of_flat f l y rest in (it.0, inr it.1, it.2)) (one_of_either (f x) (flat_map f l) y one)

pub to_flat : {X Y : Type 0} (f : X → List Y) (l : List X) (x : X) (y : Y) → IsOneOf l x → IsOneOf (f x) y → IsOneOf (flat_map f l) y
to_flat f [] x y among one = absurd among
to_flat f (z ∷ l) x y (inl same) one = one_of_left (f z) (flat_map f l) y (subst (λ w. IsOneOf (f w) y) same one)
to_flat f (z ∷ l) x y (inr among) one = one_of_right (f z) (flat_map f l) y (to_flat f l x y among one)

pub of_map : {X Y : Type 0} (f : X → Y) (l : List X) (y : Y) → IsOneOf (map f l) y → (x : X) × IsOneOf l x × (y ≡ f x)
of_map f [] y one = absurd one
of_map f (x ∷ l) y (inl same) = (x, inl refl, same)
of_map f (x ∷ l) y (inr one) = let it = of_map f l y one in (it.0, inr it.1, it.2)

pub to_map : {X Y : Type 0} (f : X → Y) (l : List X) (x : X) → IsOneOf l x → IsOneOf (map f l) (f x)
to_map f [] x one = absurd one
to_map f (z ∷ l) x (inl same) = inl (ap f same)
to_map f (z ∷ l) x (inr one) = inr (to_map f l x one)

-- ---- the row

has_number : (rows : List LvRow) (number : ℕ) (row : LvRow) → find (λ (r : LvRow). r.number == number) rows ≡ Some row → row.number ≡ number
has_number [] number row found = absurd cc
has_number (r ∷ rows) number row found = by_test (r.number == number) refl (has_number rows number row) found
  where
    by_test : (t : Bool) → (r.number == number) ≡ t → (find (λ (x : LvRow). x.number == number) rows ≡ Some row → row.number ≡ number) → (if t then Some r else find (λ (x : LvRow). x.number == number) rows) ≡ Some row → row.number ≡ number
    by_test true here rest is = let same : r ≡ row = cc in sym (ap (λ (x : LvRow). x.number) same) ∙ eqb-true r.number number here
    by_test false here rest is = rest is

active_is : (mode : Mode) → is_active mode ≡ true → mode ≡ Active
active_is Active is = refl
active_is Passive is = absurd cc
active_is Off is = absurd cc

module _ (c : Contents) (group : Descriptor) (status : Stamped Status) (there : Disks) (valid : IsValid group) where
  -- ---- each is planned

  of_usable : (row : LvRow) (g : ℕ) (one : Recopy) → IsOneOf group.lvs row → is_active row.mode ≡ true → nat_lt (partition_of group.mib (g * 256)) row.lps ≡ true → IsNamedByOne c there row.number g
      → (usable : List Pp) → fresh_on there (Some status) row (partition_of group.mib (g * 256)) ≡ usable → IsOneOf (copies_from group.mib (g * 256) usable) one → IsPlannedCopy c group (Some status) there one
  of_usable row g one volume active low named [] is among = absurd among
  of_usable row g one volume active low named (first ∷ others) is among =
      let it = of_map (λ (p : Pp). record { from = place_on group.mib first (g * 256); into = place_on group.mib p (g * 256) }) others one among in
      record {
        row = row;
        lp = partition_of group.mib (g * 256);
        g = g;
        volume = volume;
        inside = record { inside = ltb-true (partition_of group.mib (g * 256)) row.lps low; partition = refl };
        made = subst (λ (m : Mode). IsToEqual c (Some status) there m row.number (g * 256)) (sym (active_is row.mode active)) (named.0, named.1, ap (λ (t : ℕ). is_named c named.0 row.number t) (group_of_start g) ∙ named.2);
        first = first;
        others = others;
        usable = is;
        copy = it.0;
        further = it.1;
        from = ap (λ (x : Recopy). x.from) it.2;
        into = ap (λ (x : Recopy). x.into) it.2;
      }

  of_group : (row : LvRow) (g : ℕ) (one : Recopy) → IsOneOf group.lvs row → IsNamedByOne c there row.number g → (t : Bool) → (is_active row.mode && nat_lt (partition_of group.mib (g * 256)) row.lps) ≡ t
      → IsOneOf (if t then copies_from group.mib (g * 256) (fresh_on there (Some status) row (partition_of group.mib (g * 256))) else []) one → IsPlannedCopy c group (Some status) there one
  of_group row g one volume named true tests among =
      let parts = both (is_active row.mode) (nat_lt (partition_of group.mib (g * 256)) row.lps) tests in
      of_usable row g one volume parts.0 parts.1 named (fresh_on there (Some status) row (partition_of group.mib (g * 256))) refl among
  of_group row g one volume named false tests among = absurd among

  of_named : (e : TrackGroup) (one : Recopy) → IsNamedByOne c there e.volume e.group → (o : Option LvRow) → volume_of group e.volume ≡ o → IsOneOf (copies_of_found group.mib status.value there e.group o) one → IsPlannedCopy c group (Some status) there one
  of_named e one named None found among = absurd among
  of_named e one named (Some row) found among =
      of_group row e.group one (volume_is_row group e.volume row found) (subst (λ (n : ℕ). IsNamedByOne c there n e.group) (sym (has_number group.lvs e.volume row found)) named)
      (is_active row.mode && nat_lt (partition_of group.mib (e.group * 256)) row.lps) refl among

  -- ---- each planned one is there

  to_group : (one : Recopy) (p : IsPlannedCopy c group (Some status) there one) → p.row.mode ≡ Active → IsOneOf (copies_of_group group.mib status.value there p.row p.g) one
  to_group one p is =
      let active : is_active p.row.mode ≡ true = ap is_active is in
      let partition = p.inside.partition in
      let inside = p.inside.inside in
      let low : nat_lt (partition_of group.mib (p.g * 256)) p.row.lps ≡ true = ap (λ (n : ℕ). nat_lt n p.row.lps) partition ∙ grind (arith, nat_tests, inside) in
      let usable : filter (usable_by status.value there) (copies_of p.row (partition_of group.mib (p.g * 256))) ≡ p.first ∷ p.others = ap (λ (n : ℕ). filter (usable_by status.value there) (copies_of p.row n)) partition ∙ p.usable in
      let same : one ≡ record { from = place_on group.mib p.first (p.g * 256); into = place_on group.mib p.copy (p.g * 256) } = ap (λ x. record { from = x; into = one.into }) p.from ∙ ap (λ x. record { from = place_on group.mib p.first (p.g * 256); into = x }) p.into in
      let whole : copies_of_group group.mib status.value there p.row p.g ≡ copies_from group.mib (p.g * 256) (p.first ∷ p.others) =
      ap (λ (t : Bool). if t && nat_lt (partition_of group.mib (p.g * 256)) p.row.lps then copies_from group.mib (p.g * 256) (filter (usable_by status.value there) (copies_of p.row (partition_of group.mib (p.g * 256)))) else []) active
      ∙ ap (λ (t : Bool). if t then copies_from group.mib (p.g * 256) (filter (usable_by status.value there) (copies_of p.row (partition_of group.mib (p.g * 256)))) else []) low
      ∙ ap (λ (l : List Pp). copies_from group.mib (p.g * 256) l) usable in
      subst (λ (l : List Recopy). IsOneOf l one) (sym whole)
      (subst (IsOneOf (copies_from group.mib (p.g * 256) (p.first ∷ p.others))) (sym same)
      (to_map (λ (x : Pp). record { from = place_on group.mib p.first (p.g * 256); into = place_on group.mib x (p.g * 256) }) p.others p.copy p.further))

  to_named : (one : Recopy) (p : IsPlannedCopy c group (Some status) there one) → p.row.mode ≡ Active → IsOneOf (copies_named group status.value there (record { volume = p.row.number; group = p.g })) one
  to_named one p is = subst (λ (o : Option LvRow). IsOneOf (copies_of_found group.mib status.value there p.g o) one) (sym (row_is_volume group p.row valid p.volume)) (to_group one p is)

  module _ (named : List TrackGroup) (are : AreNamed c there named) where
    pub named_each : (one : Recopy) → IsOneOf (flat_map (copies_named group status.value there) named) one → IsPlannedCopy c group (Some status) there one
    named_each one among =
        let it = of_flat (copies_named group status.value there) named one among in
        of_named it.0 one ((are.exactly it.0).0 it.1) (volume_of group it.0.volume) refl it.2

    pub named_all : (one : Recopy) (p : IsPlannedCopy c group (Some status) there one) → p.row.mode ≡ Active → IsOneOf (flat_map (copies_named group status.value there) named) one
    named_all one p is =
        let e : TrackGroup = record { volume = p.row.number; group = p.g } in
        let made : IsToEqual c (Some status) there Active p.row.number (p.g * 256) = subst (λ (m : Mode). IsToEqual c (Some status) there m p.row.number (p.g * 256)) is p.made in
        to_flat (copies_named group status.value there) named e one
        ((are.exactly e).1 (made.0, made.1, ap (λ (t : ℕ). is_named c made.0 p.row.number t) (sym (group_of_start p.g)) ∙ made.2)) (to_named one p is)
