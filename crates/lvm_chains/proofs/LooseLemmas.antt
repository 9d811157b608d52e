-- Whether a block is loose, found on the way back along two chains where its volume's mode is off.
use Rattle.std.proofs.Common.{◌≡◌, ◌+◌, ◌-◌, ◌<◌, ◌≤◌, ◌&&◌, ◌||◌, ◌∙◌, ℕ, Bool, true, false, cond, List, Option, Some, None, refl, sym, ap, subst, length, take, get_or}
use Rattle.std.specs.Prelude.{nat_lt}
use Rattle.std.specs.Str.{bytes_eq}
use Rattle.lvm_vol.specs.passed.Num.{Sector, zero_sector}
use Rattle.lvm_vol.proofs.passed.Num.{or_false, and_false}
use Rattle.lvm_vol.specs.declared.entry.Vol.{Vol}
use Rattle.lvm_vol.specs.declared.entry.Vol.TheVariants.{Lv}
use Rattle.lvm_vol.specs.declared.entry.Outcome.{Outcome}
use Rattle.lvm_vol.specs.declared.entry.Outcome.TheVariants as outcome
use Rattle.lvm_vol.specs.Facts.{same_vol, block_of}
use Rattle.lvm_vol.specs.May.{is_off}
use Rattle.lvm_allowed.specs.declared.row.Ask.{Ask}
use Rattle.lvm_allowed.specs.declared.row.Row.{Row}
use Rattle.lvm_allowed.specs.declared.row.Row.TheVariants as row
use Rattle.lvm_allowed.specs.declared.values.Seen.{Seen}
use Rattle.lvm_allowed.specs.declared.values.Sought.TheVariants as sought
use Rattle.lvm_allowed.specs.Rows.{ask_of, blocks_at}
use Rattle.lvm_allowed.specs.Seen.{is_over_ask, is_any_open, seen_ended, seen_read, seen_step, row_source}
use Rattle.lvm_chains.specs.Along.{loose_end, loose_told}
use Rattle.lvm_allowed.proofs.ToldLemmas.{seen_at, step_back}

-- what was told makes the second of the first, where the mode is off after it
abbrev pub IsLooseBy : Option Bool → Seen → Seen → Type 0
IsLooseBy (Some loose) s t = t.loose ≡ loose
IsLooseBy None s t = (s.off ≡ true) × (t.loose ≡ s.loose)

by_choice : (t : Bool) (a b s : Seen) (p q : Option Bool) → (a.off ≡ true → IsLooseBy p s a) → (b.off ≡ true → IsLooseBy q s b) → (cond t a b).off ≡ true → IsLooseBy (cond t p q) s (cond t a b)
by_choice true a b s p q left right off = left off
by_choice false a b s p q left right off = right off

stays : (s : Seen) → s.off ≡ true → IsLooseBy None s s
stays s off = (off, refl)

or_true : (a b : Bool) → b ≡ true → (a || b) ≡ true
or_true true b is = refl
or_true false b is = is

by_end : (s : Seen) (how : Outcome) (started same : Bool) → (seen_ended s how started same).off ≡ true → IsLooseBy (loose_end how started) s (seen_ended s how started same)
by_end s outcome.Done started same off = refl
by_end s outcome.Lost started same off = (off, refl)
by_end s outcome.Off true same off = or_true s.loose s.off off
by_end s outcome.Off false same off = (off, or_false s.loose)
by_end s outcome.Dark true same off = or_true s.loose s.off off
by_end s outcome.Dark false same off = (off, or_false s.loose)
by_end s outcome.Got started same off = (off, refl)
by_end s outcome.ReadFailed started same off = (off, refl)
by_end s outcome.NoFresh started same off = (off, refl)

by_read : (s : Seen) (how : Outcome) (same : Bool) → (seen_read s how same).off ≡ true → IsLooseBy None s (seen_read s how same)
by_read s outcome.Got same off = by_loose s.loose off
  where
    by_loose : (t : Bool) → (cond t s (record s { known = true; allowed = same })).off ≡ true → (s.off ≡ true) × ((cond t s (record s { known = true; allowed = same })).loose ≡ s.loose)
    by_loose true off = (off, refl)
    by_loose false off = (off, refl)
by_read s _ same off = (off, refl)

by_cut : (s : Seen) (allowed any : Bool) → s.off ≡ true → IsLooseBy (cond any (Some true) None) s (record s { allowed = allowed; loose = s.loose || (s.off && any) })
by_cut s allowed true off = or_true s.loose (s.off && true) (ap (λ (t : Bool). t && true) off)
by_cut s allowed false off = (off, ap (λ (t : Bool). s.loose || t) (and_false s.off) ∙ or_false s.loose)

row_loosens : (s : Seen) (before : List Row) (asks : List Ask) (blocks : List (List ℕ)) (vol : Vol) (b : ℕ) (x : Sector) (r : Row)
    → (seen_step s before asks blocks vol b x r).off ≡ true → IsLooseBy (loose_told before asks blocks vol b x r) s (seen_step s before asks blocks vol b x r)
row_loosens s before asks blocks vol b x (row.Making lv size m) off =
    by_choice (same_vol (Lv lv) vol && nat_lt b size) (record { known = true; allowed = bytes_eq zero_sector x; loose = false; off = is_off m }) s s (Some false) None (λ e. refl) (stays s) off
row_loosens s before asks blocks vol b x (row.Removed gone) off =
    by_choice (same_vol gone vol) (record s { known = false; allowed = false; loose = false }) s s (Some false) None (λ e. refl) (stays s) off
row_loosens s before asks blocks vol b x (row.Landed id how started) off =
    let same = bytes_eq (block_of (blocks_at blocks (ask_of asks id)) (ask_of asks id).at b) x in
    let at = is_any_open (sought.Request id) asks blocks vol b x before in
    by_choice (is_over_ask (ask_of asks id) vol b) (cond (ask_of asks id).write (cond at (seen_ended s how started same) s) (seen_read s how same)) s s
    (cond (ask_of asks id).write (cond at (loose_end how started) None) None) None
    (by_choice (ask_of asks id).write (cond at (seen_ended s how started same) s) (seen_read s how same) s (cond at (loose_end how started) None) None
    (by_choice at (seen_ended s how started same) s s (loose_end how started) None (by_end s how started same) (stays s)) (by_read s how same))
    (stays s) off
row_loosens s before asks blocks vol b x row.Cut off =
    by_cut s (s.allowed || (s.known && is_any_open sought.Value asks blocks vol b x before)) (is_any_open sought.Any asks blocks vol b x before) off
row_loosens s before asks blocks vol b x (row.Split from lv) off = stays s off
row_loosens s before asks blocks vol b x (row.Made lv) off = stays s off
row_loosens s before asks blocks vol b x (row.Removing gone) off = stays s off
row_loosens s before asks blocks vol b x (row.Begun id) off = stays s off
row_loosens s before asks blocks vol b x (row.Taken client id) off = stays s off
row_loosens s before asks blocks vol b x (row.On moment) off = stays s off

module _ (run : ℕ) (asks : List Ask) (blocks : List (List ℕ)) (rows : List Row) (b : ℕ) (x : Sector) where
  loosened : (k : ℕ) (d : Row) (there : Vol) (o : Option Bool) → 0 < k → k ≤ length rows → o ≡ loose_told (take (k - 1) rows) asks blocks there b x (get_or rows (k - 1) d) → (seen_at run asks blocks rows b x k there).off ≡ true
      → IsLooseBy o (seen_at run asks blocks rows b x (k - 1) (row_source (get_or rows (k - 1) d) there)) (seen_at run asks blocks rows b x k there)
  loosened k d there o some within is off =
      let back = step_back run asks blocks rows b x k d there some within in
      let s = seen_at run asks blocks rows b x (k - 1) (row_source (get_or rows (k - 1) d) there) in
      subst (λ (p : Option Bool). IsLooseBy p (seen_at run asks blocks rows b x (k - 1) (row_source (get_or rows (k - 1) d) there)) (seen_at run asks blocks rows b x k there)) (sym is)
      (subst (λ (t : Seen). IsLooseBy (loose_told (take (k - 1) rows) asks blocks there b x (get_or rows (k - 1) d)) (seen_at run asks blocks rows b x (k - 1) (row_source (get_or rows (k - 1) d) there)) t) (sym back)
      (row_loosens s (take (k - 1) rows) asks blocks there b x (get_or rows (k - 1) d) (sym (ap (λ (t : Seen). t.off) back) ∙ off)))

  -- a row that leaves it as it was, and one that doesn't
  pub loose_back : (k : ℕ) (d : Row) (there : Vol) → 0 < k → k ≤ length rows → None ≡ loose_told (take (k - 1) rows) asks blocks there b x (get_or rows (k - 1) d)
      → (seen_at run asks blocks rows b x k there).off ≡ true
      → ((seen_at run asks blocks rows b x (k - 1) (row_source (get_or rows (k - 1) d) there)).off ≡ true)
      × ((seen_at run asks blocks rows b x k there).loose ≡ (seen_at run asks blocks rows b x (k - 1) (row_source (get_or rows (k - 1) d) there)).loose)
  loose_back k d there some within is off = loosened k d there None some within is off

  pub loose_by : (k : ℕ) (d : Row) (there : Vol) (loose : Bool) → 0 < k → k ≤ length rows → Some loose ≡ loose_told (take (k - 1) rows) asks blocks there b x (get_or rows (k - 1) d)
      → (seen_at run asks blocks rows b x k there).off ≡ true → (seen_at run asks blocks rows b x k there).loose ≡ loose
  loose_by k d there loose some within is off = loosened k d there (Some loose) some within is off
