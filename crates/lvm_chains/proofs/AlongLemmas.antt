-- Rows of other chains tell nothing: along two chains nothing is missed.
use Rattle.std.proofs.Common.{◌≡◌, ◌==◌, ◌≢◌, ◌+◌, ◌-◌, ◌*◌, ◌/◌, ◌%◌, ◌<◌, ◌≤◌, ◌&&◌, ◌||◌, ◌∙◌, ℕ, zero, suc, Bool, true, false, max, List, [], ◌∷◌, Option, None, refl, sym, ap, inl, inr, arith, length, take, get_or, nat_lt}
use Rattle.std.specs.Prelude.{nat_le}
use Rattle.std.specs.Option.{unwrap_or}
use Rattle.std.proofs.lemmas.Bool.{and_parts, eqb-true, eqb-false, ltb-true, leb-true, cases_eq}
use Rattle.std.proofs.lemmas.List.{get_or-map, length-map}
use Rattle.lvm_vol.specs.declared.entry.Vol.{Vol}
use Rattle.lvm_vol.specs.declared.entry.Vol.TheVariants.{Disk, Lv}
use Rattle.lvm_vol.specs.Facts.{same_vol}
use Rattle.lvm_allowed.specs.declared.row.Ask.{Ask}
use Rattle.lvm_allowed.specs.declared.row.Row.{Row}
use Rattle.lvm_allowed.specs.declared.row.Row.TheVariants as row
use Rattle.lvm_chains.specs.declared.along.Places.{Places}
use Rattle.lvm_allowed.specs.declared.values.Seen.{Seen}
use Rattle.lvm_allowed.specs.Rows.{ask_of}
use Rattle.lvm_allowed.specs.Seen.{is_over_ask, seen_step, row_source}
use Rattle.lvm_allowed.specs.Told.{off_told}
use Rattle.lvm_chains.specs.Places.{Indexed, IsIndexOf, AreInGroups, number_of, chain_of, chain_in, newest}
use Rattle.lvm_chains.specs.Along.{ArePlaces}
use Rattle.lvm_allowed.proofs.ToldLemmas.{seen_at, step_back, off_back}
use Rattle.lvm_chains.proofs.NewestLemmas.{newest_le, none_behind, newest_fewer}

same_number : (v w : Vol) → same_vol v w ≡ true → number_of v ≡ number_of w
same_number (Disk a) (Disk b) is = ap (λ n. 512 + n) (eqb-true a b is)
same_number (Lv a) (Lv b) is = eqb-true a b is
same_number (Disk a) (Lv b) is = cc
same_number (Lv a) (Disk b) is = cc

same_group : (at count b : ℕ) → at % 256 + count ≤ 256 → at ≤ b → b < at + count → at / 256 ≡ b / 256
same_group at count b fits from to = omega arith

pub over_test : (t : Bool) (a : Ask) (vol : Vol) (b : ℕ) → is_over_ask a vol b ≡ t → a.at % 256 + a.count ≤ 256 → (chain_of a.vol (a.at / 256) == chain_of vol (b / 256)) ≡ false → t ≡ false
over_test false a vol b over fits apart = refl
over_test true a vol b over fits apart =
    let one = and_parts (same_vol a.vol vol && nat_le a.at b) (nat_lt b (a.at + a.count)) over in
    let two = and_parts (same_vol a.vol vol) (nat_le a.at b) one.0 in
    let group : a.at / 256 ≡ b / 256 = same_group a.at a.count b fits (leb-true a.at b two.1) (ltb-true b (a.at + a.count) one.1) in
    let chain : chain_of a.vol (a.at / 256) ≡ chain_of vol (b / 256) = ap (λ n. (31 * n + a.at / 256) % 4096) (same_number a.vol vol two.0) ∙ ap (λ n. (31 * number_of vol + n) % 4096) group in
    absurd (eqb-false (chain_of a.vol (a.at / 256)) (chain_of vol (b / 256)) apart chain)

-- it stands in neither chain
pub record IsQuiet (asks : List Ask) (vol : Vol) (b : ℕ) (r : Row) : Type 0 where
  pub calm : (chain_in asks r == 4096) ≡ false
  pub elsewhere : (chain_in asks r == chain_of vol (b / 256)) ≡ false

quiet_step : (s : Seen) (before : List Row) (asks : List Ask) (blocks : List (List ℕ)) (vol : Vol) (b : ℕ) (x : List ℕ) (r : Row) → AreInGroups asks → IsQuiet asks vol b r → seen_step s before asks blocks vol b x r ≡ s
quiet_step s before asks blocks vol b x (row.Landed id how started) groups quiet =
    let over : is_over_ask (ask_of asks id) vol b ≡ false = over_test (is_over_ask (ask_of asks id) vol b) (ask_of asks id) vol b refl (groups id) quiet.elsewhere in
    rw over refl
quiet_step s before asks blocks vol b x (row.Making lv size mode) groups quiet = let e = quiet.calm in cc
quiet_step s before asks blocks vol b x (row.Removed vol') groups quiet = let e = quiet.calm in cc
quiet_step s before asks blocks vol b x (row.Split from lv) groups quiet = let e = quiet.calm in cc
quiet_step s before asks blocks vol b x row.Cut groups quiet = let e = quiet.calm in cc
quiet_step s before asks blocks vol b x (row.Made lv) groups quiet = refl
quiet_step s before asks blocks vol b x (row.Removing vol') groups quiet = refl
quiet_step s before asks blocks vol b x (row.Begun id) groups quiet = refl
quiet_step s before asks blocks vol b x (row.Taken client id) groups quiet = refl
quiet_step s before asks blocks vol b x (row.On moment) groups quiet = refl

-- a row that shapes no volume leaves each with its own blocks and its mode
calm_source : (asks : List Ask) (r : Row) (vol : Vol) → (chain_in asks r == 4096) ≡ false → row_source r vol ≡ vol
calm_source asks (row.Split from lv) vol calm = cc
calm_source asks (row.Landed id how started) vol calm = refl
calm_source asks (row.Making lv size mode) vol calm = refl
calm_source asks (row.Removed gone) vol calm = refl
calm_source asks row.Cut vol calm = refl
calm_source asks (row.Made lv) vol calm = refl
calm_source asks (row.Removing gone) vol calm = refl
calm_source asks (row.Begun id) vol calm = refl
calm_source asks (row.Taken client id) vol calm = refl
calm_source asks (row.On moment) vol calm = refl

calm_off : (asks : List Ask) (vol : Vol) (b : ℕ) (r : Row) → (chain_in asks r == 4096) ≡ false → off_told vol b r ≡ None
calm_off asks vol b (row.Making lv size mode) calm = cc
calm_off asks vol b (row.Landed id how started) calm = refl
calm_off asks vol b (row.Split from lv) calm = refl
calm_off asks vol b (row.Removed gone) calm = refl
calm_off asks vol b row.Cut calm = refl
calm_off asks vol b (row.Made lv) calm = refl
calm_off asks vol b (row.Removing gone) calm = refl
calm_off asks vol b (row.Begun id) calm = refl
calm_off asks vol b (row.Taken client id) calm = refl
calm_off asks vol b (row.On moment) calm = refl

-- ---- from a place back to the newest of the two chains

module _ (asks : List Ask) (rows : List Row) (vol : Vol) (b : ℕ) (index : Indexed) (indexed : IsIndexOf index asks rows) where
  its_chain : (i : ℕ) → i < length rows → get_or index.chains i 0 ≡ chain_in asks (get_or rows i row.Cut)
  its_chain i less = ap (λ (l : List ℕ). get_or l i 0) indexed.its_chains ∙ get_or-map (chain_in asks) rows i row.Cut 0 less

  -- none that shapes volumes stands behind the newest
  pub calm_between : (k place i : ℕ) → k ≤ length rows → place ≡ newest 4096 index.chains k → place ≤ i → i < k → (chain_in asks (get_or rows i row.Cut) == 4096) ≡ false
  calm_between k place i within is from to =
      ap (λ (n : ℕ). n == 4096) (sym (its_chain i (omega (arith, to, within)))) ∙ none_behind (λ c. c == 4096) 0 index.chains k i (omega (arith, from, is)) to

  -- and none of either chain behind the newer of the two
  pub quiet_between : (k place : ℕ) (places : Places) → k ≤ length rows → ArePlaces index vol (b / 256) k places → place ≡ max places.own places.shaping
      → (i : ℕ) → place ≤ i → i < k → IsQuiet asks vol b (get_or rows i row.Cut)
  quiet_between k place places within are is i from to =
      let own = are.its_own in let shaping = are.its_shaping in
      record {
        calm = calm_between k places.shaping i within are.its_shaping (omega (arith, from, is)) to;
        elsewhere = ap (λ (n : ℕ). n == chain_of vol (b / 256)) (sym (its_chain i (omega (arith, to, within)))) ∙ none_behind (λ c. c == chain_of vol (b / 256)) 0 index.chains k i (omega (arith, from, is, own)) to;
      }

  pub newer_places : (k place : ℕ) (places : Places) → ArePlaces index vol (b / 256) k places → place ≡ max places.own places.shaping → (place ≤ k) × ArePlaces index vol (b / 256) place places
  newer_places k place places are is =
      let own = are.its_own in let shaping = are.its_shaping in
      let le_own = newest_le (λ c. c == chain_of vol (b / 256)) 0 index.chains k in
      let le_shaping = newest_le (λ c. c == 4096) 0 index.chains k in
      let few : place ≤ k = omega (arith, is, own, shaping, le_own, le_shaping) in (
        few,
        record {
          its_own = own ∙ sym (newest_fewer (λ c. c == chain_of vol (b / 256)) 0 index.chains place k few (omega (arith, is, own)));
          its_shaping = shaping ∙ sym (newest_fewer (λ c. c == 4096) 0 index.chains place k few (omega (arith, is, shaping)));
        },
      )

-- the newest that shapes volumes is so of as many as it is itself
pub shaping_newest : (chains : List ℕ) (k place : ℕ) → place ≡ newest 4096 chains k → (place ≤ k) × (place ≡ newest 4096 chains place)
shaping_newest chains k place is =
    let le = newest_le (λ c. c == 4096) 0 chains k in
    let few : place ≤ k = omega (arith, is, le) in
    (few, is ∙ sym (newest_fewer (λ c. c == 4096) 0 chains place k few (omega (arith, is))))

-- ---- nothing is seen between

module _ (run : ℕ) (asks : List Ask) (blocks : List (List ℕ)) (rows : List Row) (vol : Vol) (b : ℕ) (x : List ℕ) where
  one_back : AreInGroups asks → (k : ℕ) → k < length rows → IsQuiet asks vol b (get_or rows k row.Cut) → seen_at run asks blocks rows b x (suc k) vol ≡ seen_at run asks blocks rows b x k vol
  one_back groups k lt quiet =
      let before : suc k - 1 ≡ k = omega arith in
      step_back run asks blocks rows b x (suc k) row.Cut vol (omega arith) (omega arith)
      ∙ ap (λ (n : ℕ). seen_step (seen_at run asks blocks rows b x n (row_source (get_or rows n row.Cut) vol)) (take n rows) asks blocks vol b x (get_or rows n row.Cut)) before
      ∙ quiet_step (seen_at run asks blocks rows b x k (row_source (get_or rows k row.Cut) vol)) (take k rows) asks blocks vol b x (get_or rows k row.Cut) groups quiet
      ∙ ap (λ (v : Vol). seen_at run asks blocks rows b x k v) (calm_source asks (get_or rows k row.Cut) vol quiet.calm)

  pub still : AreInGroups asks → (k j : ℕ) → j ≤ k → k ≤ length rows → ((i : ℕ) → j ≤ i → i < k → IsQuiet asks vol b (get_or rows i row.Cut)) → seen_at run asks blocks rows b x k vol ≡ seen_at run asks blocks rows b x j vol
  still groups zero j le within quiet = ap (λ n. seen_at run asks blocks rows b x n vol) (let e : zero ≡ j = omega arith in e)
  still groups (suc k) j le within quiet = elim (cases_eq j (suc k)) [
    | inl same ↦ ap (λ n. seen_at run asks blocks rows b x n vol) (sym same)
    | inr apart ↦ one_back groups k (omega arith) (quiet k (omega arith) (omega arith)) ∙ still groups k j (omega arith) (omega arith) (λ i from to. quiet i from (omega arith))
  ]

  one_off : (k : ℕ) → k < length rows → (chain_in asks (get_or rows k row.Cut) == 4096) ≡ false → (seen_at run asks blocks rows b x (suc k) vol).off ≡ (seen_at run asks blocks rows b x k vol).off
  one_off k lt calm =
      let before : suc k - 1 ≡ k = omega arith in
      off_back run asks blocks rows b x (suc k) row.Cut vol (omega arith) (omega arith)
      ∙ ap (λ (n : ℕ). unwrap_or (off_told vol b (get_or rows n row.Cut)) (seen_at run asks blocks rows b x n (row_source (get_or rows n row.Cut) vol)).off) before
      ∙ ap (λ (o : Option Bool). unwrap_or o (seen_at run asks blocks rows b x k (row_source (get_or rows k row.Cut) vol)).off) (calm_off asks vol b (get_or rows k row.Cut) calm)
      ∙ ap (λ (v : Vol). (seen_at run asks blocks rows b x k v).off) (calm_source asks (get_or rows k row.Cut) vol calm)

  -- nor does the mode change
  pub off_still : (k j : ℕ) → j ≤ k → k ≤ length rows → ((i : ℕ) → j ≤ i → i < k → (chain_in asks (get_or rows i row.Cut) == 4096) ≡ false) → (seen_at run asks blocks rows b x k vol).off ≡ (seen_at run asks blocks rows b x j vol).off
  off_still zero j le within calm = ap (λ n. (seen_at run asks blocks rows b x n vol).off) (let e : zero ≡ j = omega arith in e)
  off_still (suc k) j le within calm = elim (cases_eq j (suc k)) [
    | inl same ↦ ap (λ n. (seen_at run asks blocks rows b x n vol).off) (sym same)
    | inr apart ↦ one_off k (omega arith) (calm k (omega arith) (omega arith)) ∙ off_still k j (omega arith) (omega arith) (λ i from to. calm i from (omega arith))
  ]

  -- from so many rows back to the newest of the two chains
  pub nothing_between : (index : Indexed) (k place : ℕ) (places : Places) → IsIndexOf index asks rows → k ≤ length rows → ArePlaces index vol (b / 256) k places → place ≡ max places.own places.shaping
      → seen_at run asks blocks rows b x k vol ≡ seen_at run asks blocks rows b x place vol
  nothing_between index k place places indexed within are is =
      still indexed.groups k place (newer_places asks rows vol b index indexed k place places are is).0 within (quiet_between asks rows vol b index indexed k place places within are is)

pub chains_count : (index : Indexed) (asks : List Ask) (rows : List Row) → IsIndexOf index asks rows → length index.chains ≡ length rows
chains_count index asks rows was = ap length was.its_chains ∙ length-map rows (chain_in asks)
