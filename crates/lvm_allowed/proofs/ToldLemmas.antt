-- What rows tell from behind is what is known of the block.
use Rattle.std.proofs.Common.{◌≡◌, ◌+◌, ◌-◌, ◌<◌, ◌≤◌, ◌&&◌, ◌||◌, ◌∙◌, not, Bool, true, false, cond, ℕ, List, [], ◌∷◌, Option, Some, None, refl, sym, ap, subst, arith, inl, inr, length, take, get_or}
use Rattle.std.specs.Prelude.{nat_lt}
use Rattle.std.specs.Option.{unwrap_or}
use Rattle.std.specs.Str.{bytes_eq}
use Rattle.std.proofs.lemmas.Bool.{or_cases, and_parts}
use Rattle.std.proofs.lemmas.List.{take_all}
use Rattle.lvm_vol.specs.passed.Num.{Sector, zero_sector}
use Rattle.lvm_vol.proofs.passed.Num.{or_false}
use Rattle.lvm_vol.specs.declared.entry.Vol.{Vol}
use Rattle.lvm_vol.specs.declared.entry.Vol.TheVariants.{Lv}
use Rattle.lvm_vol.specs.declared.entry.Outcome.{Outcome}
use Rattle.lvm_vol.specs.declared.entry.Outcome.TheVariants as outcome
use Rattle.lvm_allowed.specs.declared.row.Ask.{Ask}
use Rattle.lvm_allowed.specs.declared.row.Row.{Row}
use Rattle.lvm_allowed.specs.declared.row.Row.TheVariants as row
use Rattle.lvm_allowed.specs.declared.values.Seen.{Seen}
use Rattle.lvm_allowed.specs.declared.values.Sought.TheVariants as sought
use Rattle.lvm_allowed.specs.declared.recent.Told.{Told}
use Rattle.lvm_allowed.specs.declared.recent.Told.TheVariants.{Fixed, Also}
use Rattle.lvm_vol.specs.Facts.{Request, Fact, Making, Split, Removed, Begun, Landed, Cut, same_vol, block_of, is_over}
use Rattle.lvm_vol.specs.May.{Known, Knowledge, nothing_known, is_open_in, is_off, is_some_open, ended, read, landed, change, source, after_fact, after, known}
use Rattle.lvm_allowed.specs.Rows.{ask_of, blocks_at, facts_of}
use Rattle.lvm_allowed.specs.Seen.{is_over_ask, is_any_open, seen_of, seen_ended, seen_read, seen_step, row_source}
use Rattle.lvm_allowed.specs.Told.{allows, with_told, told_end, told_read, told_row, off_told}
use Rattle.lvm_allowed.proofs.SeenLemmas.{seen_more}

-- ---- one row

added_tells : (k a v : Bool) → (not k || (a || (k && v))) ≡ ((not k || a) || v)
added_tells true true v = refl
added_tells true false v = refl
added_tells false a v = refl

started_tells : (t k a v : Bool) → (not k || (a || ((t && k) && v))) ≡ ((not k || a) || (t && v))
started_tells true k a v = added_tells k a v
started_tells false true true v = refl
started_tells false true false v = refl
started_tells false false a v = refl

end_tells : (s : Seen) (how : Outcome) (started same : Bool) → allows (seen_ended s how started same) ≡ with_told (told_end how started same) (allows s)
end_tells s outcome.Done started same = refl
end_tells s outcome.Lost started same = added_tells s.known s.allowed same
end_tells s outcome.Off started same = started_tells started s.known s.allowed same
end_tells s outcome.Dark started same = started_tells started s.known s.allowed same
end_tells s outcome.Got started same = sym (or_false (allows s))
end_tells s outcome.ReadFailed started same = sym (or_false (allows s))
end_tells s outcome.NoFresh started same = sym (or_false (allows s))

choice : (t : Bool) (a b : Seen) (p q : Told) (s : Bool) → allows a ≡ with_told p s → allows b ≡ with_told q s → allows (cond t a b) ≡ with_told (cond t p q) s
choice true a b p q s left right = left
choice false a b p q s left right = right

stays : (s : Seen) → allows s ≡ with_told (Also false) (allows s)
stays s = sym (or_false (allows s))

read_tells : (s : Seen) (how : Outcome) (same : Bool) → allows (seen_read s how same) ≡ with_told (told_read s.loose how same) (allows s)
read_tells s outcome.Got same = choice s.loose s (record s { known = true; allowed = same }) (Also false) (Fixed same) (allows s) (stays s) refl
read_tells s _ same = stays s

row_tells : (s : Seen) (before : List Row) (asks : List Ask) (blocks : List (List ℕ)) (vol : Vol) (b : ℕ) (x : Sector) (r : Row)
    → allows (seen_step s before asks blocks vol b x r) ≡ with_told (told_row s.loose before asks blocks vol b x r) (allows s)
row_tells s before asks blocks vol b x (row.Making lv size m) =
    choice (same_vol (Lv lv) vol && nat_lt b size) (record { known = true; allowed = bytes_eq zero_sector x; loose = false; off = is_off m }) s (Fixed (bytes_eq zero_sector x)) (Also false) (allows s) refl (stays s)
row_tells s before asks blocks vol b x (row.Removed gone) = choice (same_vol gone vol) (record s { known = false; allowed = false; loose = false }) s (Fixed true) (Also false) (allows s) refl (stays s)
row_tells s before asks blocks vol b x (row.Landed id how started) =
    let ask = ask_of asks id in
    let same = bytes_eq (block_of (blocks_at blocks (ask_of asks id)) (ask_of asks id).at b) x in
    let at = is_any_open (sought.Request id) asks blocks vol b x before in
    let written = choice (is_any_open (sought.Request id) asks blocks vol b x before) (seen_ended s how started same) s (told_end how started same) (Also false) (allows s) (end_tells s how started same) (stays s) in
    choice (is_over_ask (ask_of asks id) vol b) (cond (ask_of asks id).write (cond at (seen_ended s how started same) s) (seen_read s how same)) s
    (cond (ask_of asks id).write (cond at (told_end how started same) (Also false)) (told_read s.loose how same)) (Also false) (allows s)
    (choice (ask_of asks id).write (cond at (seen_ended s how started same) s) (seen_read s how same) (cond at (told_end how started same) (Also false)) (told_read s.loose how same) (allows s) written (read_tells s how same))
    (stays s)
row_tells s before asks blocks vol b x row.Cut = added_tells s.known s.allowed (is_any_open sought.Value asks blocks vol b x before)
row_tells s before asks blocks vol b x (row.Split from lv) = stays s
row_tells s before asks blocks vol b x (row.Made lv) = stays s
row_tells s before asks blocks vol b x (row.Removing gone) = stays s
row_tells s before asks blocks vol b x (row.Begun id) = stays s
row_tells s before asks blocks vol b x (row.Taken client id) = stays s
row_tells s before asks blocks vol b x (row.On moment) = stays s

-- whether the block is loose counts only where the row leaves it with its volume
loose_counts : (l m : Bool) (before : List Row) (asks : List Ask) (blocks : List (List ℕ)) (vol : Vol) (b : ℕ) (x : Sector) (r : Row) → (row_source r vol ≡ vol → l ≡ m) → told_row l before asks blocks vol b x r ≡ told_row m before asks blocks vol b x r
loose_counts l m before asks blocks vol b x (row.Landed id how started) same = ap (λ t. told_row t before asks blocks vol b x (row.Landed id how started)) (same refl)
loose_counts l m before asks blocks vol b x (row.Making lv size mode) same = refl
loose_counts l m before asks blocks vol b x (row.Removed gone) same = refl
loose_counts l m before asks blocks vol b x row.Cut same = refl
loose_counts l m before asks blocks vol b x (row.Split from lv) same = refl
loose_counts l m before asks blocks vol b x (row.Made lv) same = refl
loose_counts l m before asks blocks vol b x (row.Removing gone) same = refl
loose_counts l m before asks blocks vol b x (row.Begun id) same = refl
loose_counts l m before asks blocks vol b x (row.Taken client id) same = refl
loose_counts l m before asks blocks vol b x (row.On moment) same = refl

-- ---- the mode

pub off_choice : (t : Bool) (a b : Seen) (off : Bool) → a.off ≡ off → b.off ≡ off → (cond t a b).off ≡ off
off_choice true a b off left right = left
off_choice false a b off left right = right

pub end_keeps_off : (s : Seen) (how : Outcome) (started same : Bool) → (seen_ended s how started same).off ≡ s.off
end_keeps_off s outcome.Done started same = refl
end_keeps_off s outcome.Lost started same = refl
end_keeps_off s outcome.Off started same = refl
end_keeps_off s outcome.Dark started same = refl
end_keeps_off s outcome.Got started same = refl
end_keeps_off s outcome.ReadFailed started same = refl
end_keeps_off s outcome.NoFresh started same = refl

pub read_keeps_off : (s : Seen) (how : Outcome) (same : Bool) → (seen_read s how same).off ≡ s.off
read_keeps_off s outcome.Got same = off_choice s.loose s (record s { known = true; allowed = same }) s.off refl refl
read_keeps_off s _ same = refl

made_off : (t : Bool) (s made : Seen) (off : Bool) → made.off ≡ off → (cond t made s).off ≡ unwrap_or (cond t (Some off) None) s.off
made_off true s made off is = is
made_off false s made off is = refl

row_off : (s : Seen) (before : List Row) (asks : List Ask) (blocks : List (List ℕ)) (vol : Vol) (b : ℕ) (x : Sector) (r : Row) → (seen_step s before asks blocks vol b x r).off ≡ unwrap_or (off_told vol b r) s.off
row_off s before asks blocks vol b x (row.Making lv size m) = made_off (same_vol (Lv lv) vol && nat_lt b size) s (record { known = true; allowed = bytes_eq zero_sector x; loose = false; off = is_off m }) (is_off m) refl
row_off s before asks blocks vol b x (row.Removed gone) = off_choice (same_vol gone vol) (record s { known = false; allowed = false; loose = false }) s s.off refl refl
row_off s before asks blocks vol b x (row.Landed id how started) =
    let same = bytes_eq (block_of (blocks_at blocks (ask_of asks id)) (ask_of asks id).at b) x in
    let at = is_any_open (sought.Request id) asks blocks vol b x before in
    off_choice (is_over_ask (ask_of asks id) vol b) (cond (ask_of asks id).write (cond at (seen_ended s how started same) s) (seen_read s how same)) s s.off
    (off_choice (ask_of asks id).write (cond at (seen_ended s how started same) s) (seen_read s how same) s.off (off_choice at (seen_ended s how started same) s s.off (end_keeps_off s how started same) refl) (read_keeps_off s how same)) refl
row_off s before asks blocks vol b x row.Cut = refl
row_off s before asks blocks vol b x (row.Split from lv) = refl
row_off s before asks blocks vol b x (row.Made lv) = refl
row_off s before asks blocks vol b x (row.Removing gone) = refl
row_off s before asks blocks vol b x (row.Begun id) = refl
row_off s before asks blocks vol b x (row.Taken client id) = refl
row_off s before asks blocks vol b x (row.On moment) = refl

-- a block is loose in mode off alone
pub record IsTight (k : Known) : Type 0 where
  pub off : k.loose ≡ true → is_off k.mode ≡ true

tight_choice : (t : Bool) (a b : Known) → IsTight a → IsTight b → IsTight (cond t a b)
tight_choice true a b left right = left
tight_choice false a b left right = right

loosened : (k : Known) → IsTight k → (k.loose || is_off k.mode) ≡ true → is_off k.mode ≡ true
loosened k tight is = elim (or_cases k.loose (is_off k.mode) is) [
  | inl loose ↦ tight.off loose
  | inr off ↦ off
]

ended_tight : (r : Request) (how : Outcome) (started : Bool) (x : Sector) (k : Known) → IsTight k → IsTight (ended r how started x k)
ended_tight r outcome.Done started x k tight = record { off = λ is. cc }
ended_tight r outcome.Lost started x k tight = record { off = tight.off }
ended_tight r outcome.Off true x k tight = record { off = loosened k tight }
ended_tight r outcome.Dark true x k tight = record { off = loosened k tight }
ended_tight r outcome.Off false x k tight = record { off = tight.off }
ended_tight r outcome.Dark false x k tight = record { off = tight.off }
ended_tight r outcome.Got started x k tight = record { off = tight.off }
ended_tight r outcome.ReadFailed started x k tight = record { off = tight.off }
ended_tight r outcome.NoFresh started x k tight = record { off = tight.off }

read_tight : (how : Outcome) (x : Sector) (k : Known) → IsTight k → IsTight (read how x k)
read_tight outcome.Got x k tight = tight_choice k.loose k (record k { values = Some (x ∷ []) }) tight (record { off = tight.off })
read_tight _ x k tight = tight

change_tight : (f : Fact) (vol : Vol) (b : ℕ) (k : Known) → IsTight k → IsTight (change f vol b k)
change_tight (Making lv size m) vol b k tight = tight_choice (same_vol (Lv lv) vol && nat_lt b size) _ k (record { off = λ is. cc }) tight
change_tight (Split from lv) vol b k tight = tight_choice (same_vol (Lv lv) vol) _ k (record { off = tight.off }) tight
change_tight (Begun r) vol b k tight = tight_choice (r.write && is_over r vol b) _ k (record { off = tight.off }) tight
change_tight (Landed r how started got) vol b k tight =
    tight_choice (is_over r vol b) _ k
    (tight_choice r.write _ _ (tight_choice (is_open_in r k.open_writes) _ k (ended_tight r how started (block_of r.blocks r.at b) k tight) tight) (read_tight how (block_of got r.at b) k tight)) tight
change_tight Cut vol b k tight = record {
  off = λ is. elim (or_cases k.loose (is_off k.mode && is_some_open k.open_writes) is) [
    | inl loose ↦ tight.off loose
    | inr off ↦ (and_parts (is_off k.mode) (is_some_open k.open_writes) off).0
  ];
}
change_tight (Removed gone) vol b k tight = tight_choice (same_vol gone vol) _ k (record { off = λ is. cc }) tight
change_tight _ vol b k tight = tight

after_tight : (facts : List Fact) (s : Knowledge) → ((vol : Vol) (b : ℕ) → IsTight (s vol b)) → (vol : Vol) (b : ℕ) → IsTight (after s facts vol b)
after_tight [] s all vol b = all vol b
after_tight (f ∷ facts) s all vol b = after_tight facts (after_fact f s) (λ v c. change_tight f v c (s (source f v) c) (all (source f v) c)) vol b

pub known_tight : (facts : List Fact) (vol : Vol) (b : ℕ) → IsTight (known facts vol b)
known_tight facts vol b = after_tight facts nothing_known (λ v c. record { off = λ is. cc }) vol b

pub not_loose : (k : Known) → IsTight k → is_off k.mode ≡ false → false ≡ k.loose
not_loose k tight off = by_cases k.loose refl
  where
    by_cases : (t : Bool) → k.loose ≡ t → false ≡ t
    by_cases false is = refl
    by_cases true is = let yes_off = tight.off is in cc

-- ---- from behind

module _ (run : ℕ) (asks : List Ask) (blocks : List (List ℕ)) (rows : List Row) (b : ℕ) (x : Sector) where
  -- what is seen after the first so many rows
  abbrev pub seen_at : ℕ → Vol → Seen
  seen_at k vol = seen_of (known (facts_of run asks blocks (take k rows)) vol b) x

  pub step_back : (k : ℕ) (d : Row) (there : Vol) → 0 < k → k ≤ length rows
      → seen_at k there ≡ seen_step (seen_at (k - 1) (row_source (get_or rows (k - 1) d) there)) (take (k - 1) rows) asks blocks there b x (get_or rows (k - 1) d)
  step_back k d there some within =
      let again : k ≡ (k - 1) + 1 = omega arith in
      ap (λ n. seen_at n there) again
      ∙ sym (seen_more run asks blocks rows (k - 1) d (row_source (get_or rows (k - 1) d) there) there b x (seen_at (k - 1) (row_source (get_or rows (k - 1) d) there)) (omega arith) refl refl)

  pub told_back : (k : ℕ) (d : Row) (there : Vol) (told : Told) → 0 < k → k ≤ length rows
      → told ≡ told_row (known (facts_of run asks blocks (take (k - 1) rows)) there b).loose (take (k - 1) rows) asks blocks there b x (get_or rows (k - 1) d)
      → allows (seen_at k there) ≡ with_told told (allows (seen_at (k - 1) (row_source (get_or rows (k - 1) d) there)))
  told_back k d there told some within is =
      let before = seen_at (k - 1) (row_source (get_or rows (k - 1) d) there) in
      ap allows (step_back k d there some within)
      ∙ row_tells before (take (k - 1) rows) asks blocks there b x (get_or rows (k - 1) d)
      ∙ ap (λ (t : Told). with_told t (allows before))
      (loose_counts before.loose (known (facts_of run asks blocks (take (k - 1) rows)) there b).loose (take (k - 1) rows) asks blocks there b x (get_or rows (k - 1) d) (λ same. ap (λ (v : Vol). (seen_at (k - 1) v).loose) same) ∙ sym is)

  pub off_back : (k : ℕ) (d : Row) (there : Vol) → 0 < k → k ≤ length rows
      → (seen_at k there).off ≡ unwrap_or (off_told there b (get_or rows (k - 1) d)) (seen_at (k - 1) (row_source (get_or rows (k - 1) d) there)).off
  off_back k d there some within =
      ap (λ (s : Seen). s.off) (step_back k d there some within) ∙ row_off (seen_at (k - 1) (row_source (get_or rows (k - 1) d) there)) (take (k - 1) rows) asks blocks there b x (get_or rows (k - 1) d)

  pub seen_all : (vol : Vol) → seen_of (known (facts_of run asks blocks rows) vol b) x ≡ seen_at (length rows) vol
  seen_all vol = ap (λ (l : List Row). seen_of (known (facts_of run asks blocks l) vol b) x) (sym (take_all (length rows) rows (omega arith)))

pub or_again : (a b c d : Bool) → d ≡ (b || c) → ((a || b) || c) ≡ (a || d)
or_again true b c d is = refl
or_again false b c d is = sym is

-- the end of a read over the block
pub told_of_read : (l : Bool) (before : List Row) (asks : List Ask) (blocks : List (List ℕ)) (vol : Vol) (b : ℕ) (x : Sector) (r : Row) (id : ℕ) (how : Outcome) (started : Bool) (ask : Ask) (same : Bool)
    → r ≡ row.Landed id how started → ask ≡ ask_of asks id → is_over_ask ask vol b ≡ true → ask.write ≡ false → same ≡ bytes_eq (block_of (blocks_at blocks ask) ask.at b) x
    → told_read l how same ≡ told_row l before asks blocks vol b x r
told_of_read l before asks blocks vol b x r id how started ask same row_is ask_is over is_read same_is =
    let its = bytes_eq (block_of (blocks_at blocks (ask_of asks id)) (ask_of asks id).at b) x in
    let written = cond (is_any_open (sought.Request id) asks blocks vol b x before) (told_end how started its) (Also false) in
    ap (told_read l how) (same_is ∙ ap (λ (a : Ask). bytes_eq (block_of (blocks_at blocks a) a.at b) x) ask_is)
    ∙ sym (ap (λ (q : Row). told_row l before asks blocks vol b x q) row_is
    ∙ ap (λ (t : Bool). cond t (cond (ask_of asks id).write written (told_read l how its)) (Also false)) (ap (λ (a : Ask). is_over_ask a vol b) (sym ask_is) ∙ over)
    ∙ ap (λ (t : Bool). cond t written (told_read l how its)) (ap (λ (a : Ask). a.write) (sym ask_is) ∙ is_read))
