-- What is read of a status is spelled so, and what is spelled so is read.
use Rattle.std.proofs.Common.{◌≡◌, ◌⊎◌, inl, inr, ℕ, zero, suc, ◌+◌, ◌%◌, ◌^◌, ◌<◌, ◌≤◌, Bool, true, false, List, [], ◌∷◌, ◌++◌, length, Result, Ok, Err, refl, sym, ap, subst, ◌∙◌, append-nil, arith}
use Rattle.std.specs.Prelude.{◌==◌, ◌&&◌, ◌||◌, not, nat_le, slice_index, if◌then◌else◌, flat_map, bytes_eq, IfOk}
use Rattle.std.specs.Int.{w16, w64, to_be_bytes}
use Rattle.std.proofs.lemmas.Bool.{and_parts, and_from, or_cases, eqb-true, leb-true, le-leb}
use Rattle.std.proofs.lemmas.Bool.Decides.{nat_tests}
use Rattle.std.proofs.lemmas.Slice.Eq.{bytes_eq-Decides}
use Rattle.lvm_num.specs.declared.status.StatusRow.{StatusRow}
use Rattle.lvm_num.specs.declared.status.Status.{Status}
use Rattle.lvm_num.specs.Descriptor.{most_members}
use Rattle.lvm_num.specs.Status.{AreDirty, IsValidStatus}
use Rattle.lvm_num.specs.DescriptorBytes.{flag}
use Rattle.lvm_num.specs.Reading.{◌>>=◌, Rest, bytes_at, number_at, end_at}
use Rattle.lvm_num.specs.StatusBytes.{version_of, status_magic, status_row_bytes, dirty_bytes, status_bytes, IsStatus, status_version_at, rows_and_size_at, status_rows_at, numbers_at, dirty_at, status_of}
use Rattle.lvm_num.proofs.DescriptorLemmas.Bounds.{few_dirty}
use Rattle.lvm_fields.specs.declared.fault.Fault.{Fault}
use Rattle.lvm_fields.specs.Reading.{Gives}
use Rattle.lvm_fields.proofs.NumReadingLemmas.{IsBytes, bind_ok, ok_is, Takes, Takes-then, bytes_takes, bytes_again, wide16, wide64, number_takes, number_again, end_takes}
use Rattle.lvm_vgsa.proofs.StatusBytesLemmas.Rows.{rows_take, rows_again, numbers_take, numbers_again}
use Rattle.lvm_vgsa.proofs.StatusBytesLemmas.Sizes.{dirty_some, few_rows}

-- ---- the version

abbrev IsVersion : ℕ → Type 0
IsVersion v = (v ≡ 1) ⊎ ((v ≡ 2) ⊎ (v ≡ 3))

abbrev magic_test : List ℕ → Bool
magic_test bytes = bytes_eq bytes (status_magic 1) || bytes_eq bytes (status_magic 2) || bytes_eq bytes (status_magic 3)

named : (v : ℕ) (rest : Rest) (field : List ℕ × Rest) (x : ℕ × Rest) → Takes rest field.0 field.1 → bytes_eq field.0 (status_magic v) ≡ true → (48 + v) % 48 ≡ v
    → (slice_index field.0 3 % 48, field.1) ≡ x → Takes rest (status_magic v) x.1 × (x.0 ≡ v)
named v rest field x t same back made =
    let is : field.0 ≡ status_magic v = (bytes_eq-Decides field.0 (status_magic v)).0 same in (
      subst (λ (after : Rest). Takes rest (status_magic v) after) (ap (λ (y : ℕ × Rest). y.1) made) (subst (λ (l : List ℕ). Takes rest l field.1) is t),
      ap (λ (y : ℕ × Rest). y.0) (sym made) ∙ ap (λ (l : List ℕ). slice_index l 3 % 48) is ∙ back,
    )

version_takes : (rest : Rest) (x : ℕ × Rest) → IsBytes rest.1 → status_version_at rest ≡ Ok x → Takes rest (status_magic x.0) x.1 × IsVersion x.0
unfolding status_version_at
version_takes rest x fits e =
    let a = bind_ok (bytes_at 4 magic_test rest) (λ field. Ok (slice_index field.0 3 % 48, field.1)) x e in
    let t = bytes_takes 4 magic_test rest a.0 fits a.1 in
    let made : (slice_index a.0.0 3 % 48, a.0.1) ≡ x = ok_is (slice_index a.0.0 3 % 48, a.0.1) x a.2 in
    let front = bytes_eq a.0.0 (status_magic 1) || bytes_eq a.0.0 (status_magic 2) in
    elim (or_cases (bytes_eq a.0.0 (status_magic 1) || bytes_eq a.0.0 (status_magic 2)) (bytes_eq a.0.0 (status_magic 3)) t.2) [
      | inl early ↦
          elim (or_cases (bytes_eq a.0.0 (status_magic 1)) (bytes_eq a.0.0 (status_magic 2)) early) [
            | inl one ↦ let n = named 1 rest a.0 x t.0 one refl made in (subst (λ v. Takes rest (status_magic v) x.1) (sym n.1) n.0, inl n.1)
            | inr two ↦ let n = named 2 rest a.0 x t.0 two refl made in (subst (λ v. Takes rest (status_magic v) x.1) (sym n.1) n.0, inr (inl n.1))
          ]
      | inr three ↦ let n = named 3 rest a.0 x t.0 three refl made in (subst (λ v. Takes rest (status_magic v) x.1) (sym n.1) n.0, inr (inr n.1))
    ]

version_again : (v place : ℕ) (bytes : List ℕ) → IsVersion v → status_version_at (place, status_magic v ++ bytes) ≡ Ok (v, (place + 4, bytes))
unfolding status_version_at
version_again v place bytes is =
    elim is [
      | inl one ↦ subst (λ k. status_version_at (place, status_magic k ++ bytes) ≡ Ok (k, (place + 4, bytes))) (sym one) (rw (bytes_again 4 magic_test place (status_magic 1) bytes refl refl) refl)
      | inr more ↦
          elim more [
            | inl two ↦ subst (λ k. status_version_at (place, status_magic k ++ bytes) ≡ Ok (k, (place + 4, bytes))) (sym two) (rw (bytes_again 4 magic_test place (status_magic 2) bytes refl refl) refl)
            | inr three ↦ subst (λ k. status_version_at (place, status_magic k ++ bytes) ≡ Ok (k, (place + 4, bytes))) (sym three) (rw (bytes_again 4 magic_test place (status_magic 3) bytes refl refl) refl)
          ]
    ]

-- ---- the number of rows, and whether the group is big

abbrev count_test : ℕ → ℕ → Bool
count_test v n = nat_le 1 n && nat_le n (most_members (nat_le 2 v))

abbrev size_test : ℕ → ℕ → ℕ → Bool
size_test v count n = if v == 3 then nat_le n 1 && (n == 1 || nat_le count 32) else n == 0

record HeadTakes (v : ℕ) (rest : Rest) (x : (ℕ × Bool) × Rest) : Type 0 where
  pub number : ℕ
  pub text : Takes rest (to_be_bytes w16 x.0.0 ++ to_be_bytes w16 number) x.1
  pub count : count_test v x.0.0 ≡ true
  pub size : size_test v x.0.0 number ≡ true
  pub big : x.0.1 ≡ (v == 2 || number == 1)

head_takes : (v : ℕ) (rest : Rest) (x : (ℕ × Bool) × Rest) → IsBytes rest.1 → rows_and_size_at v rest ≡ Ok x → HeadTakes v rest x
unfolding rows_and_size_at
head_takes v rest x fits e =
    let a = bind_ok (number_at w16 (count_test v) rest) (λ count. number_at w16 (size_test v count.0) count.1 >>= λ size. Ok ((count.0, v == 2 || size.0 == 1), size.1)) x e in
    let count = number_takes w16 (2 ^ 16) wide16 (count_test v) rest a.0 fits a.1 in
    let b = bind_ok (number_at w16 (size_test v a.0.0) a.0.1) (λ size. Ok ((a.0.0, v == 2 || size.0 == 1), size.1)) x a.2 in
    let size = number_takes w16 (2 ^ 16) wide16 (size_test v a.0.0) a.0.1 b.0 count.0.fits b.1 in
    let made : (ℕ × Bool) × Rest = ((a.0.0, v == 2 || b.0.0 == 1), b.0.1) in
    let all : HeadTakes v rest made = record {
      number = b.0.0;
      text = Takes-then rest (to_be_bytes w16 a.0.0) a.0.1 (to_be_bytes w16 b.0.0) b.0.1 count.0 size.0;
      count = count.1;
      size = size.1;
      big = refl;
    } in
    subst (λ (y : (ℕ × Bool) × Rest). HeadTakes v rest y) (ok_is made x b.2) all

head_again : (v place count number : ℕ) (bytes : List ℕ) → count < 2 ^ 16 → number < 2 ^ 16 → count_test v count ≡ true → size_test v count number ≡ true
    → rows_and_size_at v (place, to_be_bytes w16 count ++ (to_be_bytes w16 number ++ bytes)) ≡ Ok ((count, v == 2 || number == 1), (place + 2 + 2, bytes))
unfolding rows_and_size_at
head_again v place count number bytes few small count-fits size-fits =
    rw (
      number_again w16 (2 ^ 16) wide16 (count_test v) place count (to_be_bytes w16 number ++ bytes) few count-fits,
      number_again w16 (2 ^ 16) wide16 (size_test v count) (place + 2) number bytes small size-fits,
    ) refl

-- ---- the dirty volumes

abbrev dirty_count_test : ℕ → Bool
dirty_count_test n = nat_le 1 n && nat_le n 511

-- which dirty volumes a version may have
record MayBeDirty (v : ℕ) (dirty : List ℕ) : Type 0 where
  pub some : v ≡ 3 → 0 < length dirty
  pub none : (v == 3) ≡ false → dirty ≡ []

record DirtyTakes (v : ℕ) (rest : Rest) (x : List ℕ × Rest) : Type 0 where
  pub text : Takes rest (dirty_bytes x.0) x.1
  pub may : MayBeDirty v x.0
  pub good : AreDirty x.0

no_dirty : AreDirty []
no_dirty = record { each = λ k d lt. absurd (omega (arith, lt)); numbers_rise = λ i j d less lt. absurd (omega (arith, lt)) }

none_take : (v : ℕ) (rest : Rest) (x : List ℕ × Rest) → IsBytes rest.1 → (v ≡ 3 → ⊥) → ([], rest) ≡ x → DirtyTakes v rest x
none_take v rest x fits other made =
    let none : DirtyTakes v rest ([], rest) = record { text = record { parts = refl; fits = fits }; may = record { some = λ is. absurd (other is); none = λ is. refl }; good = no_dirty } in
    subst (λ (y : List ℕ × Rest). DirtyTakes v rest y) made none

some_take : (rest : Rest) (x : List ℕ × Rest) → IsBytes rest.1 → dirty_at 3 rest ≡ Ok x → DirtyTakes 3 rest x
unfolding dirty_at
some_take rest x fits e =
    let a = bind_ok (number_at w16 dirty_count_test rest) (λ count. numbers_at count.0 [] count.1) x e in
    let count = number_takes w16 (2 ^ 16) wide16 dirty_count_test rest a.0 fits a.1 in
    let numbers = numbers_take a.0.0 a.0.1 x count.0.fits a.2 in
    let least : 1 ≤ a.0.0 = leb-true 1 a.0.0 (and_parts (nat_le 1 a.0.0) (nat_le a.0.0 511) count.1).0 in
    let some : 0 < length x.0 = omega (arith, least, numbers.1) in
    let both : Takes rest (to_be_bytes w16 a.0.0 ++ flat_map (to_be_bytes w16) x.0) x.1 = Takes-then rest (to_be_bytes w16 a.0.0) a.0.1 (flat_map (to_be_bytes w16) x.0) x.1 count.0 numbers.0 in
    let spelled : to_be_bytes w16 a.0.0 ++ flat_map (to_be_bytes w16) x.0 ≡ dirty_bytes x.0 =
    ap (λ (n : ℕ). to_be_bytes w16 n ++ flat_map (to_be_bytes w16) x.0) (sym numbers.1) ∙ sym (dirty_some x.0 some) in
    record { text = subst (λ (l : List ℕ). Takes rest l x.1) spelled both; may = record { some = λ is. some; none = λ is. absurd cc }; good = numbers.2 }

dirty_takes : (v : ℕ) (rest : Rest) (x : List ℕ × Rest) → IsVersion v → IsBytes rest.1 → dirty_at v rest ≡ Ok x → DirtyTakes v rest x
unfolding dirty_at
dirty_takes v rest x is fits e =
    elim is [
      | inl one ↦ none_take v rest x fits (λ three. absurd (omega (arith, one, three))) (ok_is ([], rest) x (subst (λ k. dirty_at k rest ≡ Ok x) one e))
      | inr more ↦
          elim more [
            | inl two ↦ none_take v rest x fits (λ three. absurd (omega (arith, two, three))) (ok_is ([], rest) x (subst (λ k. dirty_at k rest ≡ Ok x) two e))
            | inr three ↦ subst (λ k. DirtyTakes k rest x) (sym three) (some_take rest x fits (subst (λ k. dirty_at k rest ≡ Ok x) three e))
          ]
    ]

-- ---- what the version says

abbrev number_of : Bool → List ℕ → ℕ
number_of big dirty = if version_of big dirty == 3 then flag big else 0

-- the version and the number are those of this status, which may have so many rows
record Agrees (v count number : ℕ) (big : Bool) (dirty : List ℕ) : Type 0 where
  pub version : version_of big dirty ≡ v
  pub says : number_of big dirty ≡ number
  pub fit : count ≤ most_members big

at_one : (count number : ℕ) (big : Bool) (dirty : List ℕ) → count ≤ 32 → number ≡ 0 → big ≡ false → dirty ≡ [] → Agrees 1 count number big dirty
at_one count number big dirty few zero-is big-is none =
    let base : Agrees 1 count 0 false [] = record { version = refl; says = refl; fit = few } in
    subst (λ k. Agrees 1 count k big dirty) (sym zero-is) (subst (λ (l : List ℕ). Agrees 1 count 0 big l) (sym none) (subst (λ (b : Bool). Agrees 1 count 0 b []) (sym big-is) base))

at_two : (count number : ℕ) (big : Bool) (dirty : List ℕ) → count ≤ 128 → number ≡ 0 → big ≡ true → dirty ≡ [] → Agrees 2 count number big dirty
at_two count number big dirty few zero-is big-is none =
    let base : Agrees 2 count 0 true [] = record { version = refl; says = refl; fit = few } in
    subst (λ k. Agrees 2 count k big dirty) (sym zero-is) (subst (λ (l : List ℕ). Agrees 2 count 0 big l) (sym none) (subst (λ (b : Bool). Agrees 2 count 0 b []) (sym big-is) base))

at_three : (count number : ℕ) (big : Bool) (dirty : List ℕ) → 0 < length dirty → count ≤ most_members big → flag big ≡ number → Agrees 3 count number big dirty
at_three count number big [] some few is = absurd (omega (arith, some))
at_three count number big (n ∷ dirty) some few is = record { version = refl; says = is; fit = few }

three_is : (count number : ℕ) (big : Bool) (dirty : List ℕ) → count ≤ 128 → 0 < length dirty → size_test 3 count number ≡ true → big ≡ (number == 1) → Agrees 3 count number big dirty
three_is count zero big dirty few some size is =
    let small : count ≤ 32 = leb-true count 32 (and_parts (nat_le 0 1) (0 == 1 || nat_le count 32) size).1 in
    at_three count 0 big dirty some (subst (λ (b : Bool). count ≤ most_members b) (sym is) small) (ap flag is)
three_is count (suc zero) big dirty few some size is = at_three count 1 big dirty some (subst (λ (b : Bool). count ≤ most_members b) (sym is) few) (ap flag is)
three_is count (suc (suc k)) big dirty few some size is =
    let small : suc (suc k) ≤ 1 = leb-true (suc (suc k)) 1 (and_parts (nat_le (suc (suc k)) 1) (suc (suc k) == 1 || nat_le count 32) size).0 in absurd (omega (arith, small))

abbrev Agreeing : ℕ → ℕ → Bool → List ℕ → ℕ → Type 0
Agreeing count number big dirty v = count_test v count ≡ true → size_test v count number ≡ true → big ≡ (v == 2 || number == 1) → MayBeDirty v dirty → Agrees v count number big dirty

agree : (v count number : ℕ) (big : Bool) (dirty : List ℕ) → IsVersion v → Agreeing count number big dirty v
agree v count number big dirty is =
    elim is [
      | inl one ↦ subst (Agreeing count number big dirty) (sym one) (λ c s b m.
          let none : number ≡ 0 = eqb-true number 0 s in
          at_one count number big dirty (leb-true count 32 (and_parts (nat_le 1 count) (nat_le count 32) c).1) none (b ∙ ap (λ k. 1 == 2 || k == 1) none) (m.none refl))
      | inr more ↦
          elim more [
            | inl two ↦ subst (Agreeing count number big dirty) (sym two) (λ c s b m.
                at_two count number big dirty (leb-true count 128 (and_parts (nat_le 1 count) (nat_le count 128) c).1) (eqb-true number 0 s) b (m.none refl))
            | inr three ↦ subst (Agreeing count number big dirty) (sym three) (λ c s b m.
                three_is count number big dirty (leb-true count 128 (and_parts (nat_le 1 count) (nat_le count 128) c).1) (m.some refl) s b)
          ]
    ]

-- ---- a status

abbrev made : ℕ → Bool → List StatusRow → List ℕ → Status
made id big rows dirty = record { id = id; big = big; dirty = dirty; rows = rows }

abbrev id_test : ℕ → Bool
id_test n = not (n == 0)

abbrev after_dirty : ℕ → Bool → List StatusRow → List ℕ × Rest → Result Status ℕ
after_dirty id big rows dirty = end_at (made id big rows dirty.0) dirty.1

abbrev after_rows : ℕ → ℕ → Bool → List StatusRow × Rest → Result Status ℕ
after_rows v id big rows = dirty_at v rows.1 >>= after_dirty id big rows.0

abbrev after_head : ℕ → ℕ → (ℕ × Bool) × Rest → Result Status ℕ
after_head v id head = status_rows_at head.0.0 [] head.1 >>= after_rows v id head.0.1

abbrev after_id : ℕ → ℕ × Rest → Result Status ℕ
after_id v id = rows_and_size_at v id.1 >>= after_head v id.0

abbrev after_version : ℕ × Rest → Result Status ℕ
after_version version = number_at w64 id_test version.1 >>= after_id version.0

-- the bytes of a status, grouped as they are read
abbrev grouped : ℕ → ℕ → ℕ → List StatusRow → List ℕ → List ℕ → List ℕ
grouped v id number rows dirty rest =
    status_magic v ++ (to_be_bytes w64 id ++ (to_be_bytes w16 (length rows) ++ (to_be_bytes w16 number ++ (flat_map status_row_bytes rows ++ (dirty_bytes dirty ++ rest)))))

group_is : (v id number : ℕ) (big : Bool) (rows : List StatusRow) (dirty : List ℕ) → version_of big dirty ≡ v → number_of big dirty ≡ number → status_bytes (made id big rows dirty) ≡ grouped v id number rows dirty []
group_is v id number big rows dirty version-is number-is =
    ap (λ (l : List ℕ). status_magic (version_of big dirty) ++ (to_be_bytes w64 id ++ (to_be_bytes w16 (length rows) ++ (to_be_bytes w16 (number_of big dirty) ++ (flat_map status_row_bytes rows ++ l))))) (sym (append-nil (dirty_bytes dirty)))
    ∙ ap (λ (k : ℕ). grouped k id (number_of big dirty) rows dirty []) version-is
    ∙ ap (λ (k : ℕ). grouped v id k rows dirty []) number-is

pub is_read : (bytes : List ℕ) (s : Status) → IsBytes bytes → status_of bytes ≡ Ok s → IsStatus bytes s
unfolding status_of
is_read bytes s fits e =
    let a = bind_ok (status_version_at (0, bytes)) after_version s e in
    let version = version_takes (0, bytes) a.0 fits a.1 in
    let b = bind_ok (number_at w64 id_test a.0.1) (after_id a.0.0) s a.2 in
    let id = number_takes w64 (2 ^ 64) wide64 id_test a.0.1 b.0 version.0.fits b.1 in
    let c = bind_ok (rows_and_size_at a.0.0 b.0.1) (after_head a.0.0 b.0.0) s b.2 in
    let head = head_takes a.0.0 b.0.1 c.0 id.0.fits c.1 in
    let d = bind_ok (status_rows_at c.0.0.0 [] c.0.1) (after_rows a.0.0 b.0.0 c.0.0.1) s c.2 in
    let rows = rows_take c.0.0.0 c.0.1 d.0 head.text.fits d.1 in
    let f = bind_ok (dirty_at a.0.0 d.0.1) (after_dirty b.0.0 c.0.0.1 d.0.0) s d.2 in
    let dirty = dirty_takes a.0.0 d.0.1 f.0 version.1 rows.0.fits f.1 in
    let end = end_takes (made b.0.0 c.0.0.1 d.0.0 f.0.0) f.0.1.0 f.0.1.1 s f.2 in
    let agrees = agree a.0.0 c.0.0.0 head.number c.0.0.1 f.0.0 version.1 head.count head.size head.big dirty.may in
    let least : 1 ≤ c.0.0.0 = leb-true 1 c.0.0.0 (and_parts (nat_le 1 c.0.0.0) (nat_le c.0.0.0 (most_members (nat_le 2 a.0.0))) head.count).0 in
    let many : length d.0.0 ≡ c.0.0.0 = rows.1 in
    let valid : IsValidStatus (made b.0.0 c.0.0.1 d.0.0 f.0.0) = record {
      some_id = not_zero b.0.0 id.1;
      id = id.2;
      a_row = omega (arith, least, many);
      rows_fit = subst (λ k. k ≤ most_members c.0.0.1) (sym many) agrees.fit;
      rows = rows.2;
      dirty = dirty.good;
    } in
    let text : bytes ≡ grouped a.0.0 b.0.0 head.number d.0.0 f.0.0 f.0.1.1 =
    version.0.parts
    ∙ ap (λ (l : List ℕ). status_magic a.0.0 ++ l) (id.0.parts
    ∙ ap (λ (l : List ℕ). to_be_bytes w64 b.0.0 ++ l) (head.text.parts
    ∙ ap (λ (k : ℕ). to_be_bytes w16 k ++ (to_be_bytes w16 head.number ++ c.0.1.1)) (sym many)
    ∙ ap (λ (l : List ℕ). to_be_bytes w16 (length d.0.0) ++ (to_be_bytes w16 head.number ++ l)) (rows.0.parts
    ∙ ap (λ (l : List ℕ). flat_map status_row_bytes d.0.0 ++ l) dirty.text.parts))) in
    let spelled : status_bytes (made b.0.0 c.0.0.1 d.0.0 f.0.0) ≡ bytes =
    group_is a.0.0 b.0.0 head.number c.0.0.1 d.0.0 f.0.0 agrees.version agrees.says
    ∙ ap (grouped a.0.0 b.0.0 head.number d.0.0 f.0.0) (sym end.0)
    ∙ sym text in
    subst (λ (y : Status). IsStatus bytes y) end.1 (record { valid = valid; spelled = spelled })
  where
    not_zero : (n : ℕ) → id_test n ≡ true → n ≡ 0 → ⊥
    not_zero n some none = absurd (let e : id_test 0 ≡ true = subst (λ k. id_test k ≡ true) none some in cc)

-- ---- back

-- how a status with so many rows is written
record Writes (v count : ℕ) (big : Bool) (dirty : List ℕ) : Type 0 where
  pub is : IsVersion v
  pub version : version_of big dirty ≡ v
  pub rows : count_test v count ≡ true
  pub size : size_test v count (number_of big dirty) ≡ true
  pub told : (v == 2 || number_of big dirty == 1) ≡ big
  pub small : number_of big dirty ≤ 1

count_to : (count most : ℕ) → 1 ≤ count → count ≤ most → nat_le 1 count && nat_le count most ≡ true
count_to count most some few = and_from (nat_le 1 count) (nat_le count most) (le-leb 1 count some) (le-leb count most few)

writes : (count : ℕ) (big : Bool) (dirty : List ℕ) → 1 ≤ count → count ≤ most_members big → (v : ℕ) × Writes v count big dirty
writes count true [] some few = (2, record { is = inr (inl refl); version = refl; rows = count_to count 128 some few; size = refl; told = refl; small = omega arith })
writes count false [] some few = (1, record { is = inl refl; version = refl; rows = count_to count 32 some few; size = refl; told = refl; small = omega arith })
writes count true (n ∷ dirty) some few = (3, record { is = inr (inr refl); version = refl; rows = count_to count 128 some few; size = refl; told = refl; small = omega arith })
writes count false (n ∷ dirty) some few =
    (3, record { is = inr (inr refl); version = refl; rows = count_to count 128 some (omega (arith, few)); size = le-leb count 32 few; told = refl; small = omega arith })

dirty_again : (big : Bool) (dirty : List ℕ) (p : ℕ) (bytes : List ℕ) → AreDirty dirty → (q : ℕ) × (dirty_at (version_of big dirty) (p, dirty_bytes dirty ++ bytes) ≡ Ok (dirty, (q, bytes)))
unfolding dirty_at
dirty_again true [] p bytes good = (p, refl)
dirty_again false [] p bytes good = (p, refl)
dirty_again big (n ∷ dirty) p bytes good =
    let few = few_dirty (n ∷ dirty) good in
    let count-read =
    number_again w16 (2 ^ 16) wide16 dirty_count_test p (length (n ∷ dirty)) (flat_map (to_be_bytes w16) (n ∷ dirty) ++ bytes) (omega (arith, few))
    (count_to (length (n ∷ dirty)) 511 (omega arith) few) in
    let numbers = numbers_again (n ∷ dirty) (p + 2) bytes good in
    (numbers.0, rw (count-read, numbers.1) refl)

pub is_read_again : (s : Status) → IsValidStatus s → status_of (status_bytes s) ≡ Ok s
unfolding status_of
is_read_again s valid =
    let w = writes (length s.rows) s.big s.dirty valid.a_row valid.rows_fit in
    let number = number_of s.big s.dirty in
    let dirty-text = dirty_bytes s.dirty ++ [] in
    let rows-text = flat_map status_row_bytes s.rows ++ (dirty_bytes s.dirty ++ []) in
    let head-text = to_be_bytes w16 (length s.rows) ++ (to_be_bytes w16 (number_of s.big s.dirty) ++ (flat_map status_row_bytes s.rows ++ (dirty_bytes s.dirty ++ []))) in
    let version-read = version_again w.0 0 (to_be_bytes w64 s.id ++ head-text) w.1.is in
    let id-read = number_again w64 (2 ^ 64) wide64 id_test 4 s.id head-text valid.id (some s.id valid.some_id) in
    let head-read = head_again w.0 12 (length s.rows) (number_of s.big s.dirty) rows-text (omega (arith, few_rows s valid)) (omega (arith, w.1.small)) w.1.rows w.1.size in
    let rows-read = rows_again s.rows 16 dirty-text valid.rows in
    let dirty-read = dirty_again s.big s.dirty rows-read.0 [] valid.dirty in
    let dirty-at : dirty_at w.0 (rows-read.0, dirty_bytes s.dirty ++ []) ≡ Ok (s.dirty, (dirty-read.0, [])) =
    subst (λ k. dirty_at k (rows-read.0, dirty_bytes s.dirty ++ []) ≡ Ok (s.dirty, (dirty-read.0, []))) w.1.version dirty-read.1 in
    let read : status_of (grouped w.0 s.id (number_of s.big s.dirty) s.rows s.dirty []) ≡ Ok (made s.id (w.0 == 2 || number_of s.big s.dirty == 1) s.rows s.dirty) =
    rw (version-read, id-read, head-read, rows-read.1, dirty-at) refl in
    ap status_of (group_is w.0 s.id number s.big s.rows s.dirty w.1.version refl) ∙ read
    ∙ ap (λ (b : Bool). let r : Result Status ℕ = Ok (made s.id b s.rows s.dirty) in r) w.1.told
  where
    some : (n : ℕ) → (n ≡ 0 → ⊥) → id_test n ≡ true
    some n not-zero = grind (arith, nat_tests)

-- ---- what a call answers

pub is_found : (bytes : List ℕ) (r : Result Status Fault) → IsBytes bytes → Gives (λ x. x) r (status_of bytes) → IfOk r (IsStatus bytes)
is_found bytes (Ok s) fits given = is_read bytes s fits given
is_found bytes (Err e) fits given = tt
