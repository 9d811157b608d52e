-- What the tests of rows say of the rows that are read.
use Rattle.std.proofs.Common.{◌≡◌, ℕ, zero, suc, ◌≤◌, Bool, ◌&&◌, List, [], ◌∷◌, ◌++◌, Ok, subst}
use Rattle.std.specs.Prelude.{◌==◌, not, nat_le, nat_lt, bytes_eq, All}
use Rattle.std.specs.List.{list_any, list_all}
use Rattle.std.specs.Int.{w8, w16, w32}
use Rattle.std.proofs.lemmas.Bool.{ltb-true, leb-true}
use Rattle.std.proofs.lemmas.List.Elements.{All-nil, All-push}
use Rattle.lvm_num.specs.declared.descriptor.PvRow.{PvRow}
use Rattle.lvm_num.specs.declared.descriptor.LvRow.{LvRow}
use Rattle.lvm_num.specs.Descriptor.{IsMember, most_volumes}
use Rattle.lvm_num.specs.DescriptorBytes.{is_flag, member_at, members_at, name_at, volume_at, volumes_at}
use Rattle.lvm_num.specs.Reading.{Rest, number_at, zeros_at}
use Rattle.lvm_vgda.proofs.passed.Fields.{bind_ok, ok_is, both, number_passes}

member_passes : (earlier : List PvRow) (r : Rest) (x : PvRow × Rest) → member_at earlier r ≡ Ok x → IsMember x.0
unfolding member_at
member_passes earlier r x e =
    let a = bind_ok (number_at w16 (λ n. nat_lt n 128 && not (list_any (λ (row : PvRow). row.disk == n) earlier)) r) _ x e in
    let b = bind_ok (number_at w16 (λ n. nat_le 1 n && nat_le n 1016) a.0.1) _ x a.2 in
    let c = bind_ok (number_at w8 is_flag b.0.1) _ x b.2 in
    let d = bind_ok (zeros_at 3 c.0.1) _ x c.2 in
    let disk = both (nat_lt a.0.0 128) (not (list_any (λ (row : PvRow). row.disk == a.0.0) earlier)) (number_passes w16 (λ n. nat_lt n 128 && not (list_any (λ (row : PvRow). row.disk == n) earlier)) r a.0 a.1) in
    let pps = both (nat_le 1 b.0.0) (nat_le b.0.0 1016) (number_passes w16 (λ n. nat_le 1 n && nat_le n 1016) a.0.1 b.0 b.1) in
    let made : PvRow × Rest = (record { disk = a.0.0; pps = b.0.0; spare = c.0.0 == 1 }, d.0) in
    subst (λ (y : PvRow × Rest). IsMember y.0) (ok_is made x d.2) (record { disk = ltb-true a.0.0 128 disk.0; a_partition = leb-true 1 b.0.0 pps.0; partitions = leb-true b.0.0 1016 pps.1 })

more_members : (n : ℕ) (earlier : List PvRow) (r : Rest) (x : List PvRow × Rest) → All IsMember earlier → members_at n earlier r ≡ Ok x → All IsMember x.0
unfolding members_at
more_members zero earlier r x all e = subst (λ (y : List PvRow × Rest). All IsMember y.0) (ok_is (earlier, r) x e) all
more_members (suc n) earlier r x all e =
    let a = bind_ok (member_at earlier r) (λ row. members_at n (earlier ++ row.0 ∷ []) row.1) x e in
    more_members n (earlier ++ a.0.0 ∷ []) a.0.1 x (All-push IsMember earlier a.0.0 all (member_passes earlier r a.0 a.1)) a.2

pub members_pass : (n : ℕ) (r : Rest) (x : List PvRow × Rest) → members_at n [] r ≡ Ok x → All IsMember x.0
members_pass n r x e = more_members n [] r x (All-nil IsMember) e

abbrev pub HasCopies : LvRow → Type 0
HasCopies row = 1 ≤ row.copies

volume_passes : (big : Bool) (earlier : List LvRow) (r : Rest) (x : LvRow × Rest) → volume_at big earlier r ≡ Ok x → HasCopies x.0
unfolding volume_at
volume_passes big earlier r x e =
    let a = bind_ok (number_at w16 (λ n. nat_le 1 n && nat_le n (most_volumes big) && list_all (λ (row : LvRow). nat_lt row.number n) earlier) r) _ x e in
    let b = bind_ok (number_at w8 (λ n. nat_le 1 n && nat_le n 3) a.0.1) _ x a.2 in
    let c = bind_ok (number_at w8 (λ n. nat_le n 2) b.0.1) _ x b.2 in
    let d = bind_ok (number_at w8 (λ n. nat_le n 3) c.0.1) _ x c.2 in
    let f = bind_ok (zeros_at 3 d.0.1) _ x d.2 in
    let g = bind_ok (number_at w32 (λ n. nat_le 1 n) f.0) _ x f.2 in
    let h = bind_ok (name_at (λ bytes. not (list_any (λ (row : LvRow). bytes_eq row.name bytes) earlier)) g.0.1) _ x g.2 in
    let i = bind_ok (zeros_at 4 h.0.1) _ x h.2 in
    let copies = both (nat_le 1 b.0.0) (nat_le b.0.0 3) (number_passes w8 (λ n. nat_le 1 n && nat_le n 3) a.0.1 b.0 b.1) in
    subst (λ (y : LvRow × Rest). HasCopies y.0) (ok_is _ x i.2) (leb-true 1 b.0.0 copies.0)

more_volumes : (big : Bool) (n : ℕ) (earlier : List LvRow) (r : Rest) (x : List LvRow × Rest) → All HasCopies earlier → volumes_at big n earlier r ≡ Ok x → All HasCopies x.0
unfolding volumes_at
more_volumes big zero earlier r x all e = subst (λ (y : List LvRow × Rest). All HasCopies y.0) (ok_is (earlier, r) x e) all
more_volumes big (suc n) earlier r x all e =
    let a = bind_ok (volume_at big earlier r) (λ row. volumes_at big n (earlier ++ row.0 ∷ []) row.1) x e in
    more_volumes big n (earlier ++ a.0.0 ∷ []) a.0.1 x (All-push HasCopies earlier a.0.0 all (volume_passes big earlier r a.0 a.1)) a.2

pub volumes_pass : (big : Bool) (n : ℕ) (r : Rest) (x : List LvRow × Rest) → volumes_at big n [] r ≡ Ok x → All HasCopies x.0
volumes_pass big n r x e = more_volumes big n [] r x (All-nil HasCopies) e
