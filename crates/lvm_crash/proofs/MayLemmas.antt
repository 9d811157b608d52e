-- Only blocks of volumes in mode off are loose.
use Rattle.std.proofs.Common.{ℕ, Bool, true, false, ◌&&◌, ◌||◌, List, [], ◌∷◌, refl}
use Rattle.std.specs.Prelude.{IsTrue, nat_lt, if◌then◌else◌}
use Rattle.lvm_num.specs.Buffer.{Sector}
use Rattle.lvm_num.proofs.Booleans.{not_so}
use Rattle.lvm_vol.specs.declared.entry.Vol.{Vol}
use Rattle.lvm_vol.specs.declared.entry.Vol.TheVariants.{Lv}
use Rattle.lvm_vol.specs.declared.entry.Outcome.{Outcome}
use Rattle.lvm_vol.specs.declared.entry.Outcome.TheVariants as outcome
use Rattle.lvm_vol.specs.Facts.{Request, Fact, Making, Split, Removed, Begun, Landed, Cut, same_vol, is_over, block_of}
use Rattle.lvm_vol.specs.May.{Known, Knowledge, nothing_known, is_open_in, is_off, is_some_open, ended, read, cut, source, change, after_fact, after, known}

-- if the block is loose, its volume is off
abbrev pub IsOffIfLoose : Known → Type 0
IsOffIfLoose k = IsTrue k.loose → IsTrue (is_off k.mode)

by_either : (loose off : Bool) → (IsTrue loose → IsTrue off) → IsTrue (loose || off) → IsTrue off
by_either true off h is = h refl
by_either false off h is = is

by_both : (loose off some : Bool) → (IsTrue loose → IsTrue off) → IsTrue (loose || (off && some)) → IsTrue off
by_both true off some h is = h refl
by_both false true some h is = refl
by_both false false some h is = absurd cc

pub off_by : (b : ℕ) (k : Known) → IsOffIfLoose k → IsOffIfLoose (cut b k)
off_by b k h = by_both k.loose (is_off k.mode) (is_some_open k.open_writes) h

either : (t : Bool) (x y : Known) → IsOffIfLoose x → IsOffIfLoose y → IsOffIfLoose (if t then x else y)
either true x y h k = h
either false x y h k = k

ended_off : (r : Request) (how : Outcome) (started : Bool) (x : Sector) (k : Known) → IsOffIfLoose k → IsOffIfLoose (ended r how started x k)
ended_off r outcome.Done started x k h = λ is. not_so is
ended_off r outcome.Off true x k h = by_either k.loose (is_off k.mode) h
ended_off r outcome.Off false x k h = h
ended_off r outcome.Dark true x k h = by_either k.loose (is_off k.mode) h
ended_off r outcome.Dark false x k h = h
ended_off r _ started x k h = h

read_off : (how : Outcome) (x : Sector) (k : Known) → IsOffIfLoose k → IsOffIfLoose (read how x k)
read_off outcome.Got x k h = either k.loose k (record k { values = _ }) h h
read_off _ x k h = h

changed_off : (f : Fact) (vol : Vol) (b : ℕ) (k : Known) → IsOffIfLoose k → IsOffIfLoose (change f vol b k)
changed_off (Making lv blocks m) vol b k h = either (same_vol (Lv lv) vol && nat_lt b blocks) _ k (λ is. not_so is) h
changed_off (Split from lv) vol b k h = either (same_vol (Lv lv) vol) (record k { open_writes = [] }) k h h
changed_off (Begun r) vol b k h = either (r.write && is_over r vol b) (record k { open_writes = r ∷ k.open_writes }) k h h
changed_off (Landed r how started got) vol b k h = either (is_over r vol b) _ k
    (either r.write _ (read how (block_of got r.at b) k) (either (is_open_in r k.open_writes) _ k (ended_off r how started (block_of r.blocks r.at b) k h) h) (read_off how (block_of got r.at b) k h)) h
changed_off Cut vol b k h = off_by b k h
changed_off (Removed gone) vol b k h = either (same_vol gone vol) _ k (λ is. not_so is) h
changed_off _ vol b k h = h

after_off : (k : Knowledge) (facts : List Fact) → ((vol : Vol) (b : ℕ) → IsOffIfLoose (k vol b)) → (vol : Vol) (b : ℕ) → IsOffIfLoose (after k facts vol b)
after_off k [] h vol b = h vol b
after_off k (f ∷ facts) h vol b = after_off (after_fact f k) facts (λ v n. changed_off f v n (k (source f v) n) (h (source f v) n)) vol b

pub loose_is_off : (facts : List Fact) (vol : Vol) (b : ℕ) → IsOffIfLoose (known facts vol b)
loose_is_off facts vol b = after_off nothing_known facts (λ v n is. not_so is) vol b
