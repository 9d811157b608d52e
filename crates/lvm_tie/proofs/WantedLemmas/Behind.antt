-- What missing disks and the end of the open copy entail is wanted, and the state wants it.
use Rattle.std.proofs.Common.{◌≡◌, ◌≢◌, ◌⊎◌, inl, inr, ⊎_elim, ℕ, ◌+◌, ◌*◌, ◌<◌, ◌≤◌, Bool, true, false, ◌&&◌, ◌||◌, ◌==◌, not, List, Option, Some, None, refl, sym, ap, subst, ◌∙◌, arith}
use Rattle.std.specs.Prelude.{IsTrue, IsFalse}
use Rattle.std.specs.List.{list_any, range_with_len}
use Rattle.std.proofs.lemmas.Bool.Decides.{nat_tests}
use Rattle.std.proofs.lemmas.Bool.{cases_Bool, and_parts, not-false}
use Rattle.lvm_num.specs.declared.place.Pp.{Pp}
use Rattle.lvm_num.specs.declared.descriptor.LvRow.{LvRow}
use Rattle.lvm_num.specs.declared.descriptor.Descriptor.{Descriptor}
use Rattle.lvm_num.specs.Disks.{Disks}
use Rattle.lvm_num.specs.Descriptor.{IsValid, copies_of, is_member, is_pp}
use Rattle.lvm_num.specs.Geometry.{partition_blocks}
use Rattle.lvm_num.proofs.Booleans.{clash_gives}
use Rattle.lvm_num.proofs.AmongLemmas.{in_range, one_any, of_range}
use Rattle.lvm_vol.specs.Facts.{Fact}
use Rattle.lvm_kept.specs.Group.{IsBlockOf, IsOneOf}
use Rattle.lvm_map.proofs.Parts.{parts}
use Rattle.lvm_map.proofs.PlacesLemmas.{mib_positive}
use Rattle.lvm_map.proofs.LawsLemmas.OneToOne.{is_data}
use Rattle.lvm_map.specs.Places.{place_on}
use Rattle.lvm_status.specs.Update.{Stored}
use Rattle.lvm_session.specs.declared.bringing.CopyEnd.{CopyEnd}
use Rattle.lvm_session.specs.State.{Core, is_there}
use Rattle.lvm_session.specs.Judging.{is_usable, is_stale, is_missing, is_wanted_stale}
use Rattle.lvm_session.specs.Bringing.{marked_by_end}
use Rattle.lvm_session.specs.Marks.{WantsStale, can_replace, is_among, is_left_behind, is_entailed_in, is_entailed}
use Rattle.lvm_invariant.specs.State.{Marks, ModelCopy, ModelState}
use Rattle.lvm_invariant.specs.Want.{Replaced, Wants}
use Rattle.lvm_crash.specs.Session.{HasVolumes, is_beside, marks_of}
use Rattle.lvm_crash.proofs.CopiesLemmas.{copy_placed}
use Rattle.lvm_crash.proofs.WritingLemmas.{same_pp}
use Rattle.lvm_crash.specs.Copies.{IsCopyOf}
use Rattle.lvm_tie.proofs.StateLemmas.{among_one, found_any}
use Rattle.lvm_tie.specs.Wanted.{HasOwners, KeepsFresh, SeesMarks}
use Rattle.lvm_tie.proofs.AmongLemmas.{or_left, or_either, or_true, any_one, not_true, and_not}
use Rattle.lvm_tie.proofs.SeenLemmas.Beside.{copy_apart, copy_its, copy_seen, copy_shown, fresh_so, stale_apart}

-- it counts as stale, and is a copy that the state sees
abbrev pub IsMarked : ModelState → Pp → Type 0
IsMarked v p = IsTrue (v.committed.value.stale p) × ((lv : ℕ) × (b : ℕ) × IsTrue (v.is_copy lv b p))

-- ---- lists

from_on : (a k : ℕ) → a ≤ k → (k ≡ a) ⊎ (a + 1 ≤ k)
from_on a k low = by (k == a) refl
  where
    by : (b : Bool) → (k == a) ≡ b → (k ≡ a) ⊎ (a + 1 ≤ k)
    by true is = inl (grind (arith, nat_tests))
    by false is = inr (let ne : k ≢ a = grind (arith, nat_tests) in grind (arith, nat_tests))

-- the first block of a logical partition of a volume
pub first_block : (group : Descriptor) → IsValid group → (row : LvRow) (lp : ℕ) → lp < row.lps → (b : ℕ) × IsBlockOf group.mib row lp b
first_block group valid row lp low =
    let size = partition_blocks group.mib in
    let some = mib_positive group valid in
    let is = parts size (lp * size + 0) lp 0 (omega arith) refl in
    (lp * size + 0, record { inside = low; partition = is.0 })

-- ---- copies that are left behind

module _ (core : Core) (v : ModelState) (missing : ℕ → Bool) (how : Option CopyEnd) (status : Stored) (facts : List Fact) (members : Disks) (valid : IsValid core.descriptor) (volumes : HasVolumes v facts core.descriptor members)
    (shows : (d : ℕ) → IsTrue (is_there core d) → IsTrue (members d)) (sees : SeesMarks core v missing) (keeps : KeepsFresh v) (owners : HasOwners v)
    (marked : (p : Pp) → marked_by_end core how p ≡ true → IsMarked v p) (wants : WantsStale (λ p. is_entailed core p || marked_by_end core how p) core.status status) where
  abbrev group : Descriptor
  group = core.descriptor

  abbrev marks : Marks
  marks = marks_of v.beside status.wanted

  abbrev due : Pp → Bool
  due p = is_entailed core p || marked_by_end core how p

  stale_seen : (p : Pp) → is_beside v.beside p ≡ false → v.committed.value.stale p ≡ is_stale core p
  stale_seen p off = ap (λ (m : Marks). m.stale p) sees.committed ∙ stale_apart v.beside core.status.committed p off

  -- what counts as fresh isn't beside, and is fresh
  fresh_seen : (p : Pp) → IsFalse (v.committed.value.stale p) → (is_beside v.beside p ≡ false) × (is_stale core p ≡ false)
  fresh_seen p fresh = fresh_so v.beside core.status.committed p (sym (ap (λ (m : Marks). m.stale p) sees.committed) ∙ fresh)

  kept_seen : (p : Pp) → IsFalse (v.wanted.stale p) → (is_beside v.beside p ≡ false) × (is_wanted_stale core p ≡ false)
  kept_seen p kept = fresh_so v.beside core.status.wanted p (sym (ap (λ (m : Marks). m.stale p) sees.wanted) ∙ kept)

  -- the marks that are wanted then
  marks_are : (p : Pp) → marks.stale p ≡ is_beside v.beside p || (is_wanted_stale core p || due p)
  marks_are p = ap (λ b. is_beside v.beside p || b) (wants.stale p)

  marks_were : (p : Pp) → v.wanted.stale p ≡ is_beside v.beside p || is_wanted_stale core p
  marks_were p = ap (λ (m : Marks). m.stale p) sees.wanted

  -- a copy of a volume is on a member
  on_member : (row : LvRow) (lp b : ℕ) (p : Pp) → IsOneOf group.lvs row → IsBlockOf group.mib row lp b → IsOneOf (copies_of row lp) p → is_member group p.disk ≡ true
  on_member row lp b p one block copy =
      let of : IsCopyOf group row.number b p = record { row = row; lp = lp; volume = one; number = refl; inside = block; copy = copy } in
      let place = copy_placed group row.number b p valid of in
      let its = is_data group valid row.number place.0 b (place_on group.mib p b) place.1 in
      found_any group.pvs p.disk its.row its.member

  -- one that is left behind has another that can be read
  pub record IsBehind (p : Pp) : Type 0 where
    pub row : LvRow
    pub one : IsOneOf group.lvs row
    pub lp : ℕ
    pub low : lp < row.lps
    pub copy : IsOneOf (copies_of row lp) p
    pub gone : is_missing core p.disk ≡ true
    pub other : Pp
    pub its : IsOneOf (copies_of row lp) other
    pub fresh : is_stale core other ≡ false
    pub there : is_missing core other.disk ≡ false
    pub kept : is_wanted_stale core other ≡ false

  left : (p : Pp) → is_entailed core p ≡ true → IsBehind p
  left p is =
      let row = any_one (λ (r : LvRow). is_entailed_in core r p) group.lvs is in
      let lp = any_one (λ (n : ℕ). is_left_behind core (copies_of row.0 n) p) (range_with_len 0 row.0.lps) row.2 in
      let copies = copies_of row.0 lp.0 in
      let a = and_parts (is_among copies p && not (is_stale core p) && is_missing core p.disk) (list_any (can_replace core) copies) lp.2 in
      let c = and_parts (is_among copies p && not (is_stale core p)) (is_missing core p.disk) a.0 in
      let b = and_parts (is_among copies p) (not (is_stale core p)) c.0 in
      let e = any_one (can_replace core) copies a.1 in
      let f = and_parts (is_usable core e.0) (not (is_wanted_stale core e.0)) e.2 in
      let g = and_parts (not (is_stale core e.0)) (not (is_missing core e.0.disk)) f.0 in
      record {
        row = row.0;
        one = row.1;
        lp = lp.0;
        low = let r = of_range 0 row.0.lps lp.0 lp.1 in omega arith;
        copy = among_one copies p b.0;
        gone = c.1;
        other = e.0;
        its = e.1;
        fresh = not_true (is_stale core e.0) g.0;
        there = not_true (is_missing core e.0.disk) g.1;
        kept = not_true (is_wanted_stale core e.0) f.1;
      }

  -- one that can be read isn't left behind
  stays : (p : Pp) → is_missing core p.disk ≡ false → is_entailed core p ≡ false
  stays p there = by (is_entailed core p) refl
    where
      by : (b : Bool) → is_entailed core p ≡ b → b ≡ false
      by false is = refl
      by true is = clash_gives (is_missing core p.disk) (left p is).gone there

  -- one that counts as fresh by what is committed isn't the one that is marked
  unmarked : (p : Pp) → IsFalse (v.committed.value.stale p) → marked_by_end core how p ≡ false
  unmarked p fresh = by (marked_by_end core how p) refl
    where
      by : (b : Bool) → marked_by_end core how p ≡ b → b ≡ false
      by false is = refl
      by true is = clash_gives (v.committed.value.stale p) (marked p is).0 fresh

  -- one that is sure and can be read isn't due
  stays_sure : (p : Pp) → IsFalse (v.committed.value.stale p) → is_missing core p.disk ≡ false → is_wanted_stale core p ≡ false → IsFalse (marks.stale p)
  stays_sure p fresh there kept = let off = (fresh_seen p fresh).0 in let a = stays p there in let b = unmarked p fresh in marks_are p ∙ (λ k. off k || (kept k || (a k || b k)))

  -- the copy of its logical partition that can be read, where one that the state sees is left behind
  replaces : (lv b : ℕ) (p : Pp) → IsTrue (v.is_copy lv b p) → is_entailed core p ≡ true → (q : Pp) × IsTrue (v.is_copy lv b q) × IsFalse (v.committed.value.stale q) × IsFalse (marks.stale q)
  replaces lv b p copy is =
      let at = left p is in
      let l = first_block group valid at.row at.lp at.low in
      let inside = volumes.inside lv b p copy in
      let shown = copy_shown volumes inside.row inside.lp b p inside.volume inside.inside (subst (λ n. IsTrue (v.is_copy n b p)) (sym inside.number) copy) in
      let member = on_member at.row at.lp l.0 at.other at.one l.1 at.its in
      let there : IsTrue (is_there core at.other.disk) = λ k. member k && not (at.there k) in
      let other : IsTrue (v.is_copy at.row.number l.0 at.other) = copy_seen volumes at.row at.lp l.0 at.other at.one l.1 at.its (shows at.other.disk there) in
      let fresh : IsFalse (v.committed.value.stale at.other) = stale_seen at.other (copy_apart volumes at.row at.lp at.other at.one at.low at.its) ∙ at.fresh in
      (at.other, owners lv b at.row.number l.0 p at.other copy (copy_seen volumes at.row at.lp l.0 p at.one l.1 at.copy shown) other, fresh, stays_sure at.other fresh at.there at.kept)

  replaced_left : (p : Pp) → is_entailed core p ≡ true → Replaced v marks p ⊎ ((lv b : ℕ) → IsTrue (v.is_copy lv b p) → ⊥)
  replaced_left p is =
      let at = left p is in
      let l = first_block group valid at.row at.lp at.low in
      ⊎_elim
      (λ shown.
      let copy = copy_seen volumes at.row at.lp l.0 p at.one l.1 at.copy shown in
      let r = replaces at.row.number l.0 p copy is in
      inl (record { lv = at.row.number; block = l.0; other = r.0; copy = copy; other_copy = r.1; fresh = r.2; kept = r.3 }))
      (λ hidden. inr (λ lv b copy.
      let inside = volumes.inside lv b p copy in
      clash_gives (members p.disk) (copy_shown volumes inside.row inside.lp b p inside.volume inside.inside (subst (λ n. IsTrue (v.is_copy n b p)) (sym inside.number) copy)) hidden))
      (cases_Bool (members p.disk))

  replaced_marked : (p : Pp) → marked_by_end core how p ≡ true → Replaced v marks p
  replaced_marked p is =
      let its = marked p is in
      let lv = its.1.0 in
      let b = its.1.1 in
      let k = keeps lv b p its.1.2 in
      by lv b k its.1.2 (is_entailed core k.0) refl
    where
      by : (lv b : ℕ) (k : (q : Pp) × IsTrue (v.is_copy lv b q) × IsFalse (v.committed.value.stale q) × IsFalse (v.wanted.stale q)) → IsTrue (v.is_copy lv b p) → (t : Bool) → is_entailed core k.0 ≡ t → Replaced v marks p
      by lv b k copy true left_too = let r = replaces lv b k.0 k.1 left_too in record { lv = lv; block = b; other = r.0; copy = copy; other_copy = r.1; fresh = r.2; kept = r.3 }
      by lv b k copy false stays_here =
          let off = (fresh_seen k.0 k.2).0 in
          let w = (kept_seen k.0 k.3).1 in
          let m = unmarked k.0 k.2 in
          record { lv = lv; block = b; other = k.0; copy = copy; other_copy = k.1; fresh = k.2; kept = marks_are k.0 ∙ (λ t. off t || (w t || (stays_here t || m t))) }

  replaced : (p : Pp) → due p ≡ true → Replaced v marks p ⊎ ((lv b : ℕ) → IsTrue (v.is_copy lv b p) → ⊥)
  replaced p is = ⊎_elim (λ entailed. replaced_left p entailed) (λ ended. inl (replaced_marked p ended)) (or_either (is_entailed core p) (marked_by_end core how p) is)

  behind : (lv b : ℕ) (c q : Pp) → IsTrue (v.is_copy lv b c) → IsFalse (v.committed.value.stale c) → IsTrue (missing c.disk)
      → IsTrue (v.is_copy lv b q) → IsTrue (not (v.committed.value.stale q) && not (missing q.disk)) → IsFalse (marks.stale q) → IsTrue (marks.stale c)
  behind lv b c q copy fresh gone other usable kept =
      let inside = volumes.inside lv b c copy in
      let row = inside.row in
      let lp = inside.lp in
      let c_fresh = fresh_seen c fresh in
      let its = copy_its volumes row lp b c inside.volume inside.inside c_fresh.0 (subst (λ n. IsTrue (v.is_copy n b c)) (sym inside.number) copy) in
      let member = on_member row lp b c inside.volume inside.inside its in
      let use_ = and_parts (not (v.committed.value.stale q)) (not (missing q.disk)) usable in
      let q_seen = fresh_seen q (not_true (v.committed.value.stale q) use_.0) in
      let q_fresh : is_stale core q ≡ false = q_seen.1 in
      let others = copy_its volumes row lp b q inside.volume inside.inside q_seen.0 (subst (λ n. IsTrue (v.is_copy n b q)) (sym inside.number) other) in
      let q_shown : is_there core q.disk ≡ true = not-false (is_there core q.disk) (sym (sees.missing_is q.disk) ∙ not_true (missing q.disk) use_.1) in
      let q_there : is_missing core q.disk ≡ false = not_true (is_missing core q.disk) (and_parts (is_member group q.disk) (not (is_missing core q.disk)) q_shown).1 in
      let q_kept : is_wanted_stale core q ≡ false = (or_left (is_wanted_stale core q) (due q) (or_left (is_beside v.beside q) (is_wanted_stale core q || due q) (sym (marks_are q) ∙ kept)).1).0 in
      let can : can_replace core q ≡ true = λ k. (not (q_fresh k) && not (q_there k)) && not (q_kept k) in
      let c_gone : is_missing core c.disk ≡ true = and_not (is_member group c.disk) (is_missing core c.disk) (not_true (is_there core c.disk) (sym (sees.missing_is c.disk) ∙ gone)) member in
      let any = one_any (can_replace core) (copies_of row lp) q others can in
      let among : is_among (copies_of row lp) c ≡ true = one_any (is_pp c) (copies_of row lp) c its (same_pp c c refl) in
      let here : is_left_behind core (copies_of row lp) c ≡ true = (let stays_so = c_fresh.1 in λ k. among k && not (stays_so k) && c_gone k && any k) in
      let low : lp < row.lps = inside.inside.inside in
      let in_row : is_entailed_in core row c ≡ true = one_any (λ (n : ℕ). is_left_behind core (copies_of row n) c) (range_with_len 0 row.lps) lp (in_range 0 row.lps lp (omega arith) (omega arith)) here in
      let all : is_entailed core c ≡ true = one_any (λ (r : LvRow). is_entailed_in core r c) group.lvs row inside.volume in_row in
      marks_are c ∙ or_true (is_beside v.beside c) (is_wanted_stale core c || due c) (inr (or_true (is_wanted_stale core c) (due c) (inr (or_true (is_entailed core c) (marked_by_end core how c) (inl all)))))

  -- The state wants them; the open copy stays, or it ends and is stale by what is wanted.
  pub review_wants : (open_copy : Option ModelCopy) → ((open_copy ≡ v.open_copy) ⊎ ((open_copy ≡ None) × ((o : ModelCopy) → v.open_copy ≡ Some o → IsTrue (marks.stale o.target))))
      → ((o : ModelCopy) → open_copy ≡ Some o → IsFalse (missing o.target.disk)) → Wants v marks missing open_copy
  review_wants open_copy same there = record {
    missing_still = sees.still;
    still = λ p is. marks_are p ∙ wider (is_beside v.beside p) (is_wanted_stale core p) (due p) (sym (marks_were p) ∙ is);
    still_dirty = λ lv is. ap (λ (ns : List ℕ). list_any (λ n. n == lv) ns) wants.dirty ∙ sym (ap (λ (m : Marks). m.dirty lv) sees.wanted) ∙ is;
    added = λ p is. ⊎_elim (λ old. inl (marks_were p ∙ old)) (λ its. inr (replaced p its)) (parted (is_beside v.beside p) (is_wanted_stale core p) (due p) (sym (marks_are p) ∙ is));
    open_same = same;
    open_there = there;
    behind = behind;
  }
    where
      wider : (x y z : Bool) → x || y ≡ true → x || (y || z) ≡ true
      wider true y z h = refl
      wider false true z h = refl
      wider false false z h = absurd (cc h)

      parted : (x y z : Bool) → x || (y || z) ≡ true → (x || y ≡ true) ⊎ (z ≡ true)
      parted true y z h = inl refl
      parted false true z h = inl refl
      parted false false z h = inr h
