-- A torn write of a record.
use Rattle.std.proofs.Common.{◌≡◌, ◌≢◌, ◌⊎◌, inl, inr, ⊎_elim, ℕ, zero, suc, ◌+◌, ◌-◌, ◌*◌, ◌^◌, ◌<◌, ◌≤◌, true, ◌&&◌, not, List, [], ◌∷◌, ◌++◌, length, get_or, take, drop, Option, Some, None, refl, sym, ap, subst, ◌∙◌, arith}
use Rattle.std.specs.Prelude.{◌==◌, nat_le, bytes_eq}
use Rattle.std.specs.Int.{w32, to_be_bytes, from_be_bytes}
use Rattle.std.proofs.lemmas.Bool.{cases_lt}
use Rattle.std.proofs.lemmas.Bool.Decides.{nat_tests}
use Rattle.std.proofs.lemmas.List.{take_at, drop_at, take-append-le, drop-append-le, length-drop}
use Rattle.std.proofs.lemmas.Nat.{from_be_bytes-to_be_bytes_4}
use Rattle.std.proofs.lemmas.Slice.Eq.{bytes_eq-Decides}
use Rattle.lvm_num.specs.declared.record.Stamp.{Stamp}
use Rattle.lvm_num.specs.declared.record.Kind.{Kind}
use Rattle.lvm_num.specs.declared.record.Kind.TheVariants.{Descriptor, Status}
use Rattle.lvm_num.specs.declared.record.Framed.{Framed}
use Rattle.lvm_num.specs.Record.{slot_size, record_sectors, longest_content, frame, joined, record_bytes, Frames, announced, may_be, record_in}
use Rattle.lvm_num.specs.Torn.{Sectors, CarriesStamp, slot_at, AreSectors, OwnSectorsStand, IsTorn, HasAllSectors, TornIsOldOrNoneOrNew, WholeIsRead}
use Rattle.lvm_num.proofs.RecordLemmas.Records.{held_is_read, then_is, both_true, enough, length-frame, below32, below64, bytes-take, bytes-drop}

-- ---- pieces of equal size

-- the pieces at the same places are the same
joined-like : (f g : ℕ → List ℕ) (i j n : ℕ) → ((k : ℕ) → k < n → f (i + k) ≡ g (j + k)) → joined f i n ≡ joined g j n
unfolding joined
joined-like f g i j zero same = refl
joined-like f g i j (suc n) same =
    let here : f i ≡ g j = ap f (omega arith) ∙ same 0 (omega arith) ∙ ap g (omega arith) in
    let rest : joined f (suc i) n ≡ joined g (suc j) n = joined-like f g (suc i) (suc j) n (λ k lt. ap f (omega arith) ∙ same (suc k) (omega arith) ∙ ap g (omega arith)) in
    λ t. here t ++ rest t

-- the first m pieces
joined-front : (f : ℕ → List ℕ) (i m n : ℕ) → m ≤ n → ((k : ℕ) → k < m → length (f (i + k)) ≡ 512) → take (512 * m) (joined f i n) ≡ joined f i m
unfolding joined
joined-front f i zero n le size = refl
joined-front f i (suc m) zero le size = absurd (omega arith)
joined-front f i (suc m) (suc n) le size =
    let here : length (f i) ≡ 512 = ap (λ k. length (f k)) (omega arith) ∙ size 0 (omega arith) in
    let rest : take (512 * m) (joined f (suc i) n) ≡ joined f (suc i) m = joined-front f (suc i) m n (omega arith) (λ k lt. ap (λ j. length (f j)) (omega arith) ∙ size (suc k) (omega arith)) in
    ap (λ k. take k (f i ++ joined f (suc i) n)) (omega (arith, here))
    ∙ take_more (f i) (joined f (suc i) n) (512 * m)
    ∙ ap (λ (x : List ℕ). f i ++ x) rest
  where
    take_more : (a b : List ℕ) (m : ℕ) → take (length a + m) (a ++ b) ≡ a ++ take m b
    take_more [] b m = ap (λ k. take k b) (omega arith)
    take_more (x ∷ a) b m =
        let next : suc (length a) + m ≡ suc (length a + m) = omega arith in
        ap (λ k. take k ((x ∷ a) ++ b)) next ∙ ap (λ (l : List ℕ). x ∷ l) (take_more a b m)

-- equal joined pieces are equal one by one
joined-each : (f g : ℕ → List ℕ) (i j n k : ℕ) → ((k : ℕ) → k < n → length (f (i + k)) ≡ 512) → ((k : ℕ) → k < n → length (g (j + k)) ≡ 512) → joined f i n ≡ joined g j n → k < n → f (i + k) ≡ g (j + k)
unfolding joined
joined-each f g i j zero k a b e lt = absurd (omega arith)
joined-each f g i j (suc n) zero a b e lt =
    let here : length (f i) ≡ 512 = ap (λ k. length (f k)) (omega arith) ∙ a 0 (omega arith) in
    let there : length (g j) ≡ 512 = ap (λ k. length (g k)) (omega arith) ∙ b 0 (omega arith) in
    ap f (omega arith) ∙ sym (take_at (f i) (joined f (suc i) n) 512 here) ∙ ap (take 512) e ∙ take_at (g j) (joined g (suc j) n) 512 there ∙ ap g (omega arith)
joined-each f g i j (suc n) (suc k) a b e lt =
    let here : length (f i) ≡ 512 = ap (λ k. length (f k)) (omega arith) ∙ a 0 (omega arith) in
    let there : length (g j) ≡ 512 = ap (λ k. length (g k)) (omega arith) ∙ b 0 (omega arith) in
    let rest : joined f (suc i) n ≡ joined g (suc j) n = sym (drop_at (f i) (joined f (suc i) n) 512 here) ∙ ap (drop 512) e ∙ drop_at (g j) (joined g (suc j) n) 512 there in
    ap f (omega arith)
    ∙ joined-each f g (suc i) (suc j) n k (λ k lt. ap (λ m. length (f m)) (omega arith) ∙ a (suc k) (omega arith)) (λ k lt. ap (λ m. length (g m)) (omega arith) ∙ b (suc k) (omega arith)) rest (omega arith)
    ∙ ap g (omega arith)

-- ---- sizes

pub sectors-fit : (kind : Kind) (len : ℕ) → len ≤ longest_content kind → record_sectors len ≤ slot_size kind
sectors-fit Descriptor len le = omega arith
sectors-fit Status len le = omega arith

len-fits : (kind : Kind) (len : ℕ) → len ≤ longest_content kind → len < 2 ^ 32
len-fits Descriptor len le = omega arith
len-fits Status len le = omega arith

-- a slot begins with its first sector
pub begins : (f : ℕ → List ℕ) (i n : ℕ) → 0 < n → joined f i n ≡ f (i + 0) ++ joined f (suc i) (n - 1)
unfolding joined
begins f i zero lt = absurd (omega arith)
begins f i (suc n) lt = ap (λ j. f j ++ joined f (suc i) n) (omega arith) ∙ ap (λ m. f (i + 0) ++ joined f (suc i) m) (omega arith)

pub slot-some : (kind : Kind) → 0 < slot_size kind
slot-some Descriptor = omega arith
slot-some Status = omega arith

-- ---- what a frame carries

pub frame-carries : (kind : Kind) (stamp : Stamp) (content : List ℕ) (k : ℕ) → CarriesStamp kind stamp (frame kind stamp content k)
frame-carries Descriptor stamp content k = record { magic = refl; seq = refl; epoch = refl }
frame-carries Status stamp content k = record { magic = refl; seq = refl; epoch = refl }

frame-len : (kind : Kind) (stamp : Stamp) (content : List ℕ) → take 4 (drop 16 (frame kind stamp content 0)) ≡ to_be_bytes w32 (length content)
frame-len Descriptor stamp content = refl
frame-len Status stamp content = refl

-- two frames that are equal have one stamp, and what carries one carries the other
carries-other : (kind : Kind) (a b : Stamp) (c d : List ℕ) (i j : ℕ) (sector : List ℕ) → frame kind a c i ≡ frame kind b d j → CarriesStamp kind a sector → CarriesStamp kind b sector
carries-other kind a b c d i j sector e has = record {
  magic = has.magic;
  seq = has.seq ∙ sym ((frame-carries kind a c i).seq) ∙ ap (λ (x : List ℕ). take 4 (drop 4 x)) e ∙ (frame-carries kind b d j).seq;
  epoch = has.epoch ∙ sym ((frame-carries kind a c i).epoch) ∙ ap (λ (x : List ℕ). take 8 (drop 8 x)) e ∙ (frame-carries kind b d j).epoch;
}

carries-same : (kind : Kind) (stamp : Stamp) (x y : List ℕ) → x ≡ y → CarriesStamp kind stamp y → CarriesStamp kind stamp x
carries-same kind stamp x y e has = subst (CarriesStamp kind stamp) (sym e) has

-- ---- a whole record is read

pub whole_is_read : WholeIsRead
whole_is_read kind r first new frames whole =
    held_is_read kind (slot_at kind first new) r (record {
      frames = frames;
      front =
          joined-front new first (record_sectors (length r.content)) (slot_size kind) (sectors-fit kind (length r.content) frames.content) (λ k lt. ap length (whole k lt) ∙ length-frame kind r.stamp r.content k lt)
          ∙ joined-like new (frame kind r.stamp r.content) first 0 (record_sectors (length r.content)) (λ k lt. whole k lt ∙ ap (frame kind r.stamp r.content) (omega arith));
    })

-- ---- what is read of a slot

-- what the tests on a record tell
pub record Reads (kind : Kind) (slot : List ℕ) (r : Framed) : Type 0 where
  pub some_epoch : r.stamp.epoch ≢ 0
  pub some_seq : r.stamp.seq ≢ 0
  pub content : length r.content ≤ longest_content kind
  pub front : take (512 * record_sectors (length r.content)) slot ≡ record_bytes kind r
  pub announces : announced slot ≡ r

pub reads : (kind : Kind) (slot : List ℕ) (r : Framed) → record_in kind slot ≡ Some r → Reads kind slot r
unfolding record_in
reads kind slot r e =
    let t = then_is (may_be kind slot (announced slot)) (announced slot) r e in
    let may : may_be kind slot r ≡ true = subst (λ (x : Framed). may_be kind slot x ≡ true) t.1 t.0 in
    let a = both_true (not (r.stamp.epoch == 0) && not (r.stamp.seq == 0) && nat_le (length r.content) (longest_content kind)) (bytes_eq (take (512 * record_sectors (length r.content)) slot) (record_bytes kind r)) may in
    let b = both_true (not (r.stamp.epoch == 0) && not (r.stamp.seq == 0)) (nat_le (length r.content) (longest_content kind)) a.0 in
    let d = both_true (not (r.stamp.epoch == 0)) (not (r.stamp.seq == 0)) b.0 in
    record {
      some_epoch = some r.stamp.epoch d.0;
      some_seq = some r.stamp.seq d.1;
      content = le (length r.content) (longest_content kind) b.1;
      front = (bytes_eq-Decides (take (512 * record_sectors (length r.content)) slot) (record_bytes kind r)).0 a.1;
      announces = t.1;
    }
  where
    some : (n : ℕ) → not (n == 0) ≡ true → n ≢ 0
    some n h is = grind (arith, nat_tests)

    le : (m n : ℕ) → nat_le m n ≡ true → m ≤ n
    le m n h = grind (arith, nat_tests)

-- the sectors of what is read
front-of : (kind : Kind) (first : ℕ) (new : Sectors) → ((k : ℕ) → k < slot_size kind → length (new (first + k)) ≡ 512) → (s : Framed) → Reads kind (slot_at kind first new) s → (k : ℕ) → k < record_sectors (length s.content) → new (first + k) ≡ frame kind s.stamp s.content k
front-of kind first new size s is k lt =
    let le : record_sectors (length s.content) ≤ slot_size kind = sectors-fit kind (length s.content) is.content in
    joined-each new (frame kind s.stamp s.content) first 0 (record_sectors (length s.content)) k
    (λ j low. size j (omega (arith, le))) (λ j low. ap (λ m. length (frame kind s.stamp s.content m)) (omega arith) ∙ length-frame kind s.stamp s.content j low)
    (sym (joined-front new first (record_sectors (length s.content)) (slot_size kind) le (λ j low. size j (omega (arith, le)))) ∙ is.front) lt
    ∙ ap (frame kind s.stamp s.content) (omega arith)

pub front-length : (kind : Kind) (first : ℕ) (new : Sectors) → AreSectors kind first new → (s : Framed) → Reads kind (slot_at kind first new) s → (k : ℕ) → k < record_sectors (length s.content) → new (first + k) ≡ frame kind s.stamp s.content k
front-length kind first new are s is k lt = front-of kind first new (λ j low. (are j low).long) s is k lt

-- the option is empty, or holds something
empty_or : {X : Type 0} (o : Option X) → (o ≡ None) ⊎ ((x : X) × (o ≡ Some x))
empty_or None = inl refl
empty_or (Some x) = inr (x, refl)

-- all of the first m sectors are old, or one of them is the record's
search : (kind : Kind) (r : Framed) (first : ℕ) (old new : Sectors) → IsTorn kind r first old new → (m : ℕ) → m ≤ slot_size kind
    → ((k : ℕ) → k < m → new (first + k) ≡ old (first + k)) ⊎ ((k : ℕ) × (k < m) × (k < record_sectors (length r.content)) × (new (first + k) ≡ frame kind r.stamp r.content k))
search kind r first old new torn zero le = inl (λ k lt. absurd (omega arith))
search kind r first old new torn (suc m) le = ⊎_elim
    (λ (all : (k : ℕ) → k < m → new (first + k) ≡ old (first + k)). ⊎_elim
    (λ (here : new (first + m) ≡ old (first + m)). inl (λ k lt. elim (cases_lt k m) [ inl less ↦ all k less | inr most ↦ subst (λ j. new (first + j) ≡ old (first + j)) (omega arith) here ]))
    (λ (one : (m < record_sectors (length r.content)) × (new (first + m) ≡ frame kind r.stamp r.content m)). inr (m, omega arith, one.0, one.1))
    at_m)
    (λ (one : (k : ℕ) × (k < m) × (k < record_sectors (length r.content)) × (new (first + k) ≡ frame kind r.stamp r.content k)). inr (one.0, omega (arith, one.1), one.2, one.3))
    (search kind r first old new torn m (omega arith))
  where
    at_m : (new (first + m) ≡ old (first + m)) ⊎ ((m < record_sectors (length r.content)) × (new (first + m) ≡ frame kind r.stamp r.content m))
    at_m = elim (cases_lt m (record_sectors (length r.content))) [
      | inl less ↦ ⊎_elim (λ (h : new (first + m) ≡ old (first + m)). inl h) (λ (h : new (first + m) ≡ frame kind r.stamp r.content m). inr (less, h)) (torn.within m less)
      | inr most ↦ inl (torn.behind m most (omega arith))
    ]

module _ (kind : Kind) (r : Framed) (first : ℕ) (old new : Sectors) (frames : Frames kind r) (are : AreSectors kind first old) (fresh : OwnSectorsStand kind r first old) (torn : IsTorn kind r first old new) where
  -- the new sectors have 512 bytes each
  new-length : (k : ℕ) → k < slot_size kind → length (new (first + k)) ≡ 512
  new-length k lt = elim (cases_lt k (record_sectors (length r.content))) [
    | inl less ↦ ⊎_elim (λ (h : new (first + k) ≡ old (first + k)). ap length h ∙ (are k lt).long) (λ (h : new (first + k) ≡ frame kind r.stamp r.content k). ap length h ∙ length-frame kind r.stamp r.content k less) (torn.within k less)
    | inr most ↦ ap length (torn.behind k most lt) ∙ (are k lt).long
  ]

  module _ (s : Framed) (is : Reads kind (slot_at kind first new) s) where
    -- the sectors of what is read
    each : (k : ℕ) → k < record_sectors (length s.content) → new (first + k) ≡ frame kind s.stamp s.content k
    each k lt = front-of kind first new new-length s is k lt

    -- the first sector is the record's: then all are
    if_first : new (first + 0) ≡ frame kind r.stamp r.content 0 → (record_in kind (slot_at kind first new) ≡ Some r) × HasAllSectors kind r first new
    if_first h = (whole_is_read kind r first new frames whole, whole)
      where
        both : frame kind s.stamp s.content 0 ≡ frame kind r.stamp r.content 0
        both = sym (each 0 (omega (arith, enough (length s.content)))) ∙ h

        len : length s.content ≡ length r.content
        len =
            sym (from_be_bytes-to_be_bytes_4 (length s.content) (len-fits kind (length s.content) is.content))
            ∙ ap (from_be_bytes w32) (sym (frame-len kind s.stamp s.content) ∙ ap (λ (x : List ℕ). take 4 (drop 16 x)) both ∙ frame-len kind r.stamp r.content)
            ∙ from_be_bytes-to_be_bytes_4 (length r.content) (len-fits kind (length r.content) frames.content)

        whole : HasAllSectors kind r first new
        whole k lt = ⊎_elim
            (λ (is_old : new (first + k) ≡ old (first + k)).
            is_old ∙ fresh k lt (carries-same kind r.stamp (old (first + k)) (frame kind s.stamp s.content k) (sym is_old ∙ each k (subst (λ n. k < record_sectors n) (sym len) lt))
            (carries-other kind s.stamp r.stamp s.content r.content 0 0 (frame kind s.stamp s.content k) both (frame-carries kind s.stamp s.content k))))
            (λ (is_new : new (first + k) ≡ frame kind r.stamp r.content k). is_new)
            (torn.within k lt)

    -- one of the sectors of what is read is the record's: then all are
    if_any : (k : ℕ) → k < record_sectors (length s.content) → k < record_sectors (length r.content) → new (first + k) ≡ frame kind r.stamp r.content k → (record_in kind (slot_at kind first new) ≡ Some r) × HasAllSectors kind r first new
    if_any k lt less h = if_first (⊎_elim
        (λ (is_old : new (first + 0) ≡ old (first + 0)).
        is_old ∙ fresh 0 (omega (arith, enough (length r.content))) (carries-same kind r.stamp (old (first + 0)) (frame kind s.stamp s.content 0) (sym is_old ∙ each 0 (omega (arith, enough (length s.content))))
        (carries-other kind s.stamp r.stamp s.content r.content k k (frame kind s.stamp s.content 0) (sym (each k lt) ∙ h) (frame-carries kind s.stamp s.content 0))))
        (λ (is_new : new (first + 0) ≡ frame kind r.stamp r.content 0). is_new)
        (torn.within 0 (omega (arith, enough (length r.content)))))

    -- all of the sectors of what is read are old: then the old slot has it
    if_none : ((k : ℕ) → k < record_sectors (length s.content) → new (first + k) ≡ old (first + k)) → record_in kind (slot_at kind first old) ≡ Some s
    if_none all =
        let le : record_sectors (length s.content) ≤ slot_size kind = sectors-fit kind (length s.content) is.content in
        let some : 0 < record_sectors (length s.content) = omega (arith, enough (length s.content)) in
        held_is_read kind (slot_at kind first old) s (record {
          frames = record {
            some_epoch = is.some_epoch;
            epoch = subst (λ n. n < 2 ^ 64) (ap (λ (x : Framed). x.stamp.epoch) is.announces) (below64 (take 8 (drop 8 (slot_at kind first new))) (early 8 8 (omega arith)));
            some_seq = is.some_seq;
            seq = subst (λ n. n < 2 ^ 32) (ap (λ (x : Framed). x.stamp.seq) is.announces) (below32 (take 4 (drop 4 (slot_at kind first new))) (early 4 4 (omega arith)));
            content = is.content;
          };
          front =
              joined-front old first (record_sectors (length s.content)) (slot_size kind) le (λ j low. (are j (omega (arith, le))).long)
              ∙ joined-like old (frame kind s.stamp s.content) first 0 (record_sectors (length s.content)) (λ k lt. sym (all k lt) ∙ each k lt ∙ ap (frame kind s.stamp s.content) (omega arith));
        })
      where
        -- the bytes of the first sector are bytes
        early : (n m : ℕ) → m + n ≤ 512 → (i : ℕ) → get_or (take n (drop m (slot_at kind first new))) i 0 < 256
        early n m fits i =
            let size : length (old (first + 0)) ≡ 512 = (are 0 (slot-some kind)).long in
            let now : slot_at kind first new ≡ old (first + 0) ++ joined new (suc first) (slot_size kind - 1) =
            begins new first (slot_size kind) (slot-some kind) ∙ ap (λ (x : List ℕ). x ++ joined new (suc first) (slot_size kind - 1)) (all 0 (omega (arith, enough (length s.content)))) in
            let cut : take n (drop m (slot_at kind first new)) ≡ take n (drop m (old (first + 0))) =
            ap (λ (x : List ℕ). take n (drop m x)) now
            ∙ ap (take n) (drop-append-le m (old (first + 0)) (joined new (suc first) (slot_size kind - 1)) (omega (arith, size)))
            ∙ take-append-le n (drop m (old (first + 0))) (joined new (suc first) (slot_size kind - 1)) (omega (arith, size, length-drop m (old (first + 0)))) in
            subst (λ (x : List ℕ). get_or x i 0 < 256) (sym cut) (bytes-take n (drop m (old (first + 0))) (bytes-drop m (old (first + 0)) (are 0 (slot-some kind)).bytes) i)

pub torn_is : TornIsOldOrNoneOrNew
torn_is kind r first old new frames are fresh torn = ⊎_elim
    (λ (none : record_in kind (slot_at kind first new) ≡ None). inr (inl none))
    (λ (some : (s : Framed) × (record_in kind (slot_at kind first new) ≡ Some s)).
    let s = some.0 in
    let is : Reads kind (slot_at kind first new) some.0 = reads kind (slot_at kind first new) some.0 some.1 in
    ⊎_elim
    (λ (all : (k : ℕ) → k < record_sectors (length some.0.content) → new (first + k) ≡ old (first + k)).
    inl (some.1 ∙ sym (if_none kind r first old new frames are fresh torn some.0 is all)))
    (λ (one : (k : ℕ) × (k < record_sectors (length some.0.content)) × (k < record_sectors (length r.content)) × (new (first + k) ≡ frame kind r.stamp r.content k)).
    inr (inr (if_any kind r first old new frames are fresh torn some.0 is one.0 one.1 one.2 one.3)))
    (search kind r first old new torn (record_sectors (length some.0.content)) (sectors-fit kind (length some.0.content) is.content)))
    (empty_or (record_in kind (slot_at kind first new)))
