-- What is seen of one value, row by row, is what is known of the block.
use Rattle.std.proofs.Common.{◌≡◌, ◌↔◌, IsTrue, inl, inr, ℕ, ◌+◌, ◌≤◌, ◌<◌, ◌&&◌, ◌||◌, ◌==◌, not, nat_lt, Bool, true, false, cond, List, [], ◌∷◌, length, take, drop, get_or, map, filter, reverse, Option, Some, None, is_some, IfSome, refl, sym, ◌∙◌, ap, subst}
use Rattle.std.specs.List.{list_any, fold}
use Rattle.std.specs.Str.{bytes_eq}
use Rattle.std.proofs.lemmas.List.{reverse-append, map_more, at_drop_more, take_all, drop_all}
use Rattle.std.proofs.lemmas.List.Sums.{fold_push}
use Rattle.std.proofs.lemmas.List.Folds.{list_any-append}
use Rattle.std.proofs.lemmas.Slice.Eq.{bytes_eq-Decides}
use Rattle.std.proofs.lemmas.Bool.{eqb-true, or_parts}
use Rattle.lvm_vol.specs.passed.Num.{Sector, zero_sector}
use Rattle.lvm_vol.proofs.passed.Num.{and_true, and_false, or_false, same_itself, same_turned, any_map}
use Rattle.lvm_vol.specs.declared.entry.Vol.{Vol}
use Rattle.lvm_vol.specs.declared.entry.Vol.TheVariants.{Lv}
use Rattle.lvm_vol.specs.declared.entry.Outcome.{Outcome}
use Rattle.lvm_vol.specs.declared.entry.Outcome.TheVariants as outcome
use Rattle.lvm_allowed.specs.declared.row.Ask.{Ask}
use Rattle.lvm_allowed.specs.declared.row.Row.{Row}
use Rattle.lvm_allowed.specs.declared.row.Row.TheVariants as row
use Rattle.lvm_allowed.specs.declared.values.Seen.{Seen}
use Rattle.lvm_allowed.specs.declared.values.Sought.{Sought}
use Rattle.lvm_allowed.specs.declared.values.Sought.TheVariants as sought
use Rattle.lvm_vol.specs.Facts.{Request, Fact, Making, Split, Removed, Begun, Landed, Cut, IsInList, same_vol, same_request, is_over, block_of}
use Rattle.lvm_vol.specs.May.{Known, Knowledge, nothing_known, is_open_in, without, is_off, is_some_open, also, ended, read, landed, cut, source, change, after_fact, after, known, May}
use Rattle.lvm_vol.specs.Log.{is_got}
use Rattle.lvm_allowed.specs.Rows.{ask_of, blocks_at, request_in, fact_of, facts_of}
use Rattle.lvm_allowed.specs.Seen.{is_over_ask, is_value, seen_of, seen_ended, seen_read, is_sought, is_ending, is_any_open, row_source, origin_of, seen_step}
use Rattle.lvm_vol.proofs.LawsLemmas.Knowing.{known-push, ended_open, read_open}

-- tests over lists

any_ext : {X : Type 0} (p q : X → Bool) (xs : List X) → ((x : X) → p x ≡ q x) → list_any p xs ≡ list_any q xs
any_ext p q [] same = refl
any_ext p q (x ∷ xs) same = ap (λ (t : Bool). t || list_any p xs) (same x) ∙ ap (λ (t : Bool). q x || t) (any_ext p q xs same)

any_filter : {X : Type 0} (p t : X → Bool) (xs : List X) → list_any p (filter t xs) ≡ list_any (λ x. p x && t x) xs
any_filter p t [] = refl
any_filter p t (x ∷ xs) = by_test (t x) ∙ ap (λ (b : Bool). (p x && t x) || b) (any_filter p t xs)
  where
    by_test : (b : Bool) → list_any p (cond b (x ∷ filter t xs) (filter t xs)) ≡ ((p x && b) || list_any p (filter t xs))
    by_test true = ap (λ (c : Bool). c || list_any p (filter t xs)) (and_true (p x))
      where
        and_true : (a : Bool) → a ≡ (a && true)
        and_true true = refl
        and_true false = refl
    by_test false = ap (λ (c : Bool). c || list_any p (filter t xs)) (and_false (p x))
      where
        and_false : (a : Bool) → false ≡ (a && false)
        and_false true = refl
        and_false false = refl

any_none : {X : Type 0} (p : X → Bool) (xs : List X) → ((x : X) → p x ≡ false) → list_any p xs ≡ false
any_none p [] none = refl
any_none p (x ∷ xs) none = ap (λ (t : Bool). t || list_any p xs) (none x) ∙ any_none p xs none

or_comm : (a b : Bool) → (a || b) ≡ (b || a)
or_comm true true = refl
or_comm true false = refl
or_comm false true = refl
or_comm false false = refl

or_assoc : (a b c : Bool) → ((a || b) || c) ≡ (a || (b || c))
or_assoc true b c = refl
or_assoc false b c = refl

and_assoc : (a b c : Bool) → ((a && b) && c) ≡ (a && (b && c))
and_assoc true b c = refl
and_assoc false b c = refl

not_or : (a b : Bool) → not (a || b) ≡ (not a && not b)
not_or true b = refl
not_or false b = refl

-- which writes are open, told from the front

-- the fact closes the write r of block b
abbrev pub closes : Vol → ℕ → Request → Fact → Bool
closes vol b r (Landed s how started got) = is_over s vol b && s.write && same_request s r
closes vol b r Cut = true
closes vol b r (Making lv blocks m) = same_vol (Lv lv) vol && nat_lt b blocks
closes vol b r (Split from lv) = same_vol (Lv lv) vol
closes vol b r (Removed gone) = same_vol gone vol
closes vol b r _ = false

-- the fact opens a write of block b that passes the test
abbrev pub opens : (Request → Bool) → Vol → ℕ → Fact → Bool
opens p vol b (Begun r) = r.write && is_over r vol b && p r
opens p vol b _ = false

abbrev pub any_open : (Request → Bool) → Vol → ℕ → List Fact → Bool
any_open p vol b [] = false
any_open p vol b (f ∷ facts) = opens (λ r. p r && not (list_any (closes vol b r) facts)) vol b f || any_open p vol b facts

without_absent : (s : Request) (ws : List Request) → is_open_in s ws ≡ false → without s ws ≡ ws
without_absent s [] none = refl
without_absent s (w ∷ ws) none = by_test (same_request s w) refl (without_absent s ws (or_parts (same_request s w) (is_open_in s ws) none).1)
  where
    by_test : (t : Bool) → same_request s w ≡ t → without s ws ≡ ws → without s (w ∷ ws) ≡ w ∷ ws
    by_test false is rest = ap (λ (t : Bool). cond (not t) (w ∷ without s ws) (without s ws)) is ∙ ap (λ (l : List Request). w ∷ l) rest
    by_test true is rest = let e = (or_parts (same_request s w) (is_open_in s ws) none).0 in absurd (cc)

landed_open : (r : Request) (how : Outcome) (started : Bool) (x y : Sector) (k : Known) → (landed r how started x y k).open_writes ≡ cond r.write (without r k.open_writes) k.open_writes
landed_open r how started x y k = by_tests r.write (is_open_in r k.open_writes) refl
  where
    by_tests : (w o : Bool) → is_open_in r k.open_writes ≡ o → (cond w (cond o (ended r how started x k) k) (read how y k)).open_writes ≡ cond w (without r k.open_writes) k.open_writes
    by_tests true true is = ended_open r how started x k
    by_tests true false is = sym (without_absent r k.open_writes is)
    by_tests false o is = read_open how y k

-- one entry more: those that it doesn't close, and the one that it opens
open_step : (q : Request → Bool) (f : Fact) (vol : Vol) (b : ℕ) (s : Knowledge)
    → list_any q (after_fact f s vol b).open_writes ≡ (list_any (λ r. q r && not (closes vol b r f)) (s vol b).open_writes || opens q vol b f)
open_step q (Begun r) vol b s = by_test (r.write && is_over r vol b)
  where
    by_test : (t : Bool) → list_any q (cond t (record (s vol b) { open_writes = r ∷ (s vol b).open_writes }) (s vol b)).open_writes ≡ (list_any (λ w. q w && true) (s vol b).open_writes || (t && q r))
    by_test true = or_comm (q r) (list_any q (s vol b).open_writes) ∙ ap (λ (t : Bool). t || q r) (any_ext q (λ w. q w && true) (s vol b).open_writes (λ w. sym (and_true (q w))))
    by_test false = any_ext q (λ w. q w && true) (s vol b).open_writes (λ w. sym (and_true (q w))) ∙ sym (or_false (list_any (λ w. q w && true) (s vol b).open_writes))
open_step q (Landed r how started got) vol b s = by_tests (is_over r vol b) r.write refl
  where
    by_tests : (o w : Bool) → r.write ≡ w
        → list_any q (cond o (landed r how started (block_of r.blocks r.at b) (block_of got r.at b) (s vol b)) (s vol b)).open_writes
        ≡ (list_any (λ v. q v && not (o && r.write && same_request r v)) (s vol b).open_writes || false)
    by_tests true true write =
        ap (λ (l : List Request). list_any q l) (landed_open r how started (block_of r.blocks r.at b) (block_of got r.at b) (s vol b) ∙ ap (λ (t : Bool). cond t (without r (s vol b).open_writes) (s vol b).open_writes) write)
        ∙ any_filter q (λ v. not (same_request r v)) (s vol b).open_writes
        ∙ any_ext (λ v. q v && not (same_request r v)) (λ v. q v && not (r.write && same_request r v)) (s vol b).open_writes (λ v. ap (λ (t : Bool). q v && not (t && same_request r v)) (sym write))
        ∙ sym (or_false (list_any (λ v. q v && not (r.write && same_request r v)) (s vol b).open_writes))
    by_tests true false is_read =
        ap (λ (l : List Request). list_any q l) (landed_open r how started (block_of r.blocks r.at b) (block_of got r.at b) (s vol b) ∙ ap (λ (t : Bool). cond t (without r (s vol b).open_writes) (s vol b).open_writes) is_read)
        ∙ any_ext q (λ v. q v && not (r.write && same_request r v)) (s vol b).open_writes (λ v. sym (ap (λ (t : Bool). q v && not (t && same_request r v)) is_read ∙ and_true (q v)))
        ∙ sym (or_false (list_any (λ v. q v && not (r.write && same_request r v)) (s vol b).open_writes))
    by_tests false w is =
        any_ext q (λ v. q v && true) (s vol b).open_writes (λ v. sym (and_true (q v)))
        ∙ sym (or_false (list_any (λ v. q v && true) (s vol b).open_writes))
open_step q Cut vol b s = sym (or_false (list_any (λ v. q v && false) (s vol b).open_writes) ∙ any_none (λ v. q v && false) (s vol b).open_writes (λ v. and_false (q v)))
open_step q (Making lv blocks m) vol b s = by_test (same_vol (Lv lv) vol && nat_lt b blocks)
  where
    by_test : (t : Bool) → list_any q (cond t (record { values = Some (zero_sector ∷ []); open_writes = []; loose = false; mode = m }) (s vol b)).open_writes ≡ (list_any (λ v. q v && not t) (s vol b).open_writes || false)
    by_test true = sym (or_false (list_any (λ v. q v && false) (s vol b).open_writes) ∙ any_none (λ v. q v && false) (s vol b).open_writes (λ v. and_false (q v)))
    by_test false = any_ext q (λ v. q v && true) (s vol b).open_writes (λ v. sym (and_true (q v))) ∙ sym (or_false (list_any (λ v. q v && true) (s vol b).open_writes))
open_step q (Split from lv) vol b s = by_test (same_vol (Lv lv) vol)
  where
    by_test : (t : Bool) → list_any q (cond t (record (s (cond t (Lv from) vol) b) { open_writes = [] }) (s (cond t (Lv from) vol) b)).open_writes ≡ (list_any (λ v. q v && not t) (s vol b).open_writes || false)
    by_test true = sym (or_false (list_any (λ v. q v && false) (s vol b).open_writes) ∙ any_none (λ v. q v && false) (s vol b).open_writes (λ v. and_false (q v)))
    by_test false = any_ext q (λ v. q v && true) (s vol b).open_writes (λ v. sym (and_true (q v))) ∙ sym (or_false (list_any (λ v. q v && true) (s vol b).open_writes))
open_step q (Removed gone) vol b s = by_test (same_vol gone vol)
  where
    by_test : (t : Bool) → list_any q (cond t (record (s vol b) { values = None; open_writes = []; loose = false }) (s vol b)).open_writes ≡ (list_any (λ v. q v && not t) (s vol b).open_writes || false)
    by_test true = sym (or_false (list_any (λ v. q v && false) (s vol b).open_writes) ∙ any_none (λ v. q v && false) (s vol b).open_writes (λ v. and_false (q v)))
    by_test false = any_ext q (λ v. q v && true) (s vol b).open_writes (λ v. sym (and_true (q v))) ∙ sym (or_false (list_any (λ v. q v && true) (s vol b).open_writes))
open_step q _ vol b s = any_ext q (λ v. q v && true) (s vol b).open_writes (λ v. sym (and_true (q v))) ∙ sym (or_false (list_any (λ v. q v && true) (s vol b).open_writes))

open_after : (p : Request → Bool) (facts : List Fact) (vol : Vol) (b : ℕ) (s : Knowledge)
    → list_any p (after s facts vol b).open_writes ≡ (list_any (λ r. p r && not (list_any (closes vol b r) facts)) (s vol b).open_writes || any_open p vol b facts)
open_after p [] vol b s = any_ext p (λ r. p r && true) (s vol b).open_writes (λ r. sym (and_true (p r))) ∙ sym (or_false (list_any (λ r. p r && true) (s vol b).open_writes))
open_after p (f ∷ facts) vol b s =
    open_after p facts vol b (after_fact f s)
    ∙ ap (λ (t : Bool). t || any_open p vol b facts) (open_step (λ r. p r && not (list_any (closes vol b r) facts)) f vol b s)
    ∙ or_assoc (list_any (λ r. (p r && not (list_any (closes vol b r) facts)) && not (closes vol b r f)) (s vol b).open_writes) (opens (λ r. p r && not (list_any (closes vol b r) facts)) vol b f) (any_open p vol b facts)
    ∙ ap (λ (t : Bool). t || (opens (λ r. p r && not (list_any (closes vol b r) facts)) vol b f || any_open p vol b facts))
    (any_ext (λ r. (p r && not (list_any (closes vol b r) facts)) && not (closes vol b r f)) (λ r. p r && not (list_any (closes vol b r) (f ∷ facts))) (s vol b).open_writes
    (λ r. and_assoc (p r) (not (list_any (closes vol b r) facts)) (not (closes vol b r f)) ∙ ap (λ (t : Bool). p r && t) (and_swap (list_any (closes vol b r) facts) (closes vol b r f))))
  where
    and_swap : (a c : Bool) → (not a && not c) ≡ not (c || a)
    and_swap true true = refl
    and_swap true false = refl
    and_swap false true = refl
    and_swap false false = refl

pub open_known : (p : Request → Bool) (facts : List Fact) (vol : Vol) (b : ℕ) → list_any p (known facts vol b).open_writes ≡ any_open p vol b facts
open_known p facts vol b = open_after p facts vol b nothing_known

-- and of rows

module _ (run : ℕ) (asks : List Ask) (blocks : List (List ℕ)) (vol : Vol) (b : ℕ) where
  ending_is : (id : ℕ) → (ask_of asks id).write ≡ true → is_over_ask (ask_of asks id) vol b ≡ true → (r : Row) → closes vol b (request_in run asks blocks id) (fact_of run asks blocks r) ≡ is_ending id vol b r
  ending_is id write over (row.Landed other how started) = by_test (other == id) refl
    where
      by_test : (t : Bool) → (other == id) ≡ t → (is_over_ask (ask_of asks other) vol b && (ask_of asks other).write && ((run == run) && (other == id))) ≡ t
      by_test true is =
          let same = eqb-true other id is in
          ap (λ (n : ℕ). is_over_ask (ask_of asks n) vol b && (ask_of asks n).write && ((run == run) && (n == id))) same
          ∙ ap (λ (t : Bool). t && (ask_of asks id).write && ((run == run) && (id == id))) over
          ∙ ap (λ (t : Bool). t && ((run == run) && (id == id))) write
          ∙ ap (λ (t : Bool). t && (id == id)) (same_itself run) ∙ same_itself id
      by_test false is =
          ap (λ (t : Bool). is_over_ask (ask_of asks other) vol b && (ask_of asks other).write && ((run == run) && t)) is
          ∙ ap (λ (t : Bool). is_over_ask (ask_of asks other) vol b && (ask_of asks other).write && t) (and_false (run == run))
          ∙ and_false (is_over_ask (ask_of asks other) vol b && (ask_of asks other).write)
  ending_is id write over _ = refl

  endings_are : (id : ℕ) → (ask_of asks id).write ≡ true → is_over_ask (ask_of asks id) vol b ≡ true → (rows : List Row) → list_any (closes vol b (request_in run asks blocks id)) (facts_of run asks blocks rows) ≡ list_any (is_ending id vol b) rows
  endings_are id write over [] = refl
  endings_are id write over (r ∷ rows) =
      ap (λ (t : Bool). t || list_any (closes vol b (request_in run asks blocks id)) (facts_of run asks blocks rows)) (ending_is id write over r)
      ∙ ap (λ (t : Bool). is_ending id vol b r || t) (endings_are id write over rows)

  open_rows : (s : Sought) (x : Sector) (p : Request → Bool)
      → ((id : ℕ) → (ask_of asks id).write ≡ true → p (request_in run asks blocks id) ≡ is_sought s id (ask_of asks id) blocks b x)
      → (rows : List Row) → any_open p vol b (facts_of run asks blocks rows) ≡ is_any_open s asks blocks vol b x rows
  open_rows s x p meets [] = refl
  open_rows s x p meets (r ∷ rows) = by_row r (open_rows s x p meets rows)
    where
      same_rest : (t : Bool) → any_open p vol b (facts_of run asks blocks rows) ≡ is_any_open s asks blocks vol b x rows → (t || any_open p vol b (facts_of run asks blocks rows)) ≡ (t || is_any_open s asks blocks vol b x rows)
      same_rest t rest = ap (λ (u : Bool). t || u) rest

      begun : (id : ℕ) (w o : Bool) → (ask_of asks id).write ≡ w → is_over_ask (ask_of asks id) vol b ≡ o
          → (w && o && (p (request_in run asks blocks id) && not (list_any (closes vol b (request_in run asks blocks id)) (facts_of run asks blocks rows))))
          ≡ ((w && o && is_sought s id (ask_of asks id) blocks b x) && not (list_any (is_ending id vol b) rows))
      begun id true true write over =
          ap (λ (t : Bool). t && not (list_any (closes vol b (request_in run asks blocks id)) (facts_of run asks blocks rows))) (meets id write)
          ∙ ap (λ (t : Bool). is_sought s id (ask_of asks id) blocks b x && not t) (endings_are id write over rows)
      begun id true false write over = refl
      begun id false o write over = refl

      by_row : (g : Row) → any_open p vol b (facts_of run asks blocks rows) ≡ is_any_open s asks blocks vol b x rows → any_open p vol b (facts_of run asks blocks (g ∷ rows)) ≡ is_any_open s asks blocks vol b x (g ∷ rows)
      by_row (row.Begun id) rest =
          ap (λ (t : Bool). t || any_open p vol b (facts_of run asks blocks rows)) (begun id (ask_of asks id).write (is_over_ask (ask_of asks id) vol b) refl refl)
          ∙ same_rest ((((ask_of asks id).write && is_over_ask (ask_of asks id) vol b) && is_sought s id (ask_of asks id) blocks b x) && not (list_any (is_ending id vol b) rows)) rest
      by_row (row.Landed id how started) rest = rest
      by_row row.Cut rest = rest
      by_row (row.Making lv size mode) rest = rest
      by_row (row.Made lv) rest = rest
      by_row (row.Split from lv) rest = rest
      by_row (row.Removing gone) rest = rest
      by_row (row.Removed gone) rest = rest
      by_row (row.Taken client id) rest = rest
      by_row (row.On moment) rest = rest

  pub request_open : (n : ℕ) (x : Sector) (rows : List Row) → is_open_in (request_in run asks blocks n) (known (facts_of run asks blocks rows) vol b).open_writes ≡ is_any_open (sought.Request n) asks blocks vol b x rows
  request_open n x rows =
      open_known (same_request (request_in run asks blocks n)) (facts_of run asks blocks rows) vol b
      ∙ open_rows (sought.Request n) x (same_request (request_in run asks blocks n)) (λ id write. ap (λ (t : Bool). t && (n == id)) (same_itself run) ∙ same_turned n id) rows

  pub some_open : (x : Sector) (rows : List Row) → list_any (λ r. true) (known (facts_of run asks blocks rows) vol b).open_writes ≡ is_any_open sought.Any asks blocks vol b x rows
  some_open x rows = open_known (λ r. true) (facts_of run asks blocks rows) vol b ∙ open_rows sought.Any x (λ r. true) (λ id write. refl) rows

  pub value_open : (x : Sector) (rows : List Row) → list_any (λ r. bytes_eq (block_of r.blocks r.at b) x) (known (facts_of run asks blocks rows) vol b).open_writes ≡ is_any_open sought.Value asks blocks vol b x rows
  value_open x rows =
      open_known (λ r. bytes_eq (block_of r.blocks r.at b) x) (facts_of run asks blocks rows) vol b
      ∙ open_rows sought.Value x (λ r. bytes_eq (block_of r.blocks r.at b) x)
      (λ id write. ap (λ (t : Bool). bytes_eq (block_of (cond t (blocks_at blocks (ask_of asks id)) []) (ask_of asks id).at b) x) write) rows

-- what is seen of one value

value_also : (more : List (List ℕ)) (values : Option (List (List ℕ))) (x : Sector) → is_value (also more values) x ≡ (is_value values x || (is_some values && list_any (λ v. bytes_eq v x) more))
value_also more None x = refl
value_also more (Some values) x = list_any-append (λ v. bytes_eq v x) values more

some_also : (more : List (List ℕ)) (values : Option (List (List ℕ))) → is_some (also more values) ≡ is_some values
some_also more None = refl
some_also more (Some values) = refl

with_parts : (k : Known) (x : Sector) (a b c d : Bool) → is_some k.values ≡ a → is_value k.values x ≡ b → k.loose ≡ c → is_off k.mode ≡ d → seen_of k x ≡ record { known = a; allowed = b; loose = c; off = d }
with_parts k x a b c d pa pb pc pd =
    ap (λ (t : Bool). record { known = t; allowed = is_value k.values x; loose = k.loose; off = is_off k.mode }) pa
    ∙ ap (λ (t : Bool). record { known = a; allowed = t; loose = k.loose; off = is_off k.mode }) pb
    ∙ ap (λ (t : Bool). record { known = a; allowed = b; loose = t; off = is_off k.mode }) pc
    ∙ ap (λ (t : Bool). record { known = a; allowed = b; loose = c; off = t }) pd

one_value : (v x : Sector) → list_any (λ w. bytes_eq w x) (v ∷ []) ≡ bytes_eq v x
one_value v x = or_false (bytes_eq v x)

added : (k : Known) (v x : Sector) → is_value (also (v ∷ []) k.values) x ≡ (is_value k.values x || (is_some k.values && bytes_eq v x))
added k v x = value_also (v ∷ []) k.values x ∙ ap (λ (t : Bool). is_value k.values x || (is_some k.values && t)) (one_value v x)

ended_seen : (r : Request) (how : Outcome) (started : Bool) (v x : Sector) (k : Known) → seen_of (ended r how started v k) x ≡ seen_ended (seen_of k x) how started (bytes_eq v x)
ended_seen r outcome.Done started v x k = with_parts (ended r outcome.Done started v k) x true (bytes_eq v x) false (is_off k.mode) refl (one_value v x) refl refl
ended_seen r outcome.Lost started v x k = with_parts (ended r outcome.Lost started v k) x (is_some k.values) (is_value k.values x || (is_some k.values && bytes_eq v x)) k.loose (is_off k.mode) (some_also (v ∷ []) k.values) (added k v x) refl refl
ended_seen r outcome.Off true v x k = with_parts (ended r outcome.Off true v k) x (is_some k.values) (is_value k.values x || (is_some k.values && bytes_eq v x)) (k.loose || is_off k.mode) (is_off k.mode) (some_also (v ∷ []) k.values) (added k v x) refl refl
ended_seen r outcome.Dark true v x k = with_parts (ended r outcome.Dark true v k) x (is_some k.values) (is_value k.values x || (is_some k.values && bytes_eq v x)) (k.loose || is_off k.mode) (is_off k.mode) (some_also (v ∷ []) k.values) (added k v x) refl refl
ended_seen r outcome.Off false v x k = with_parts (ended r outcome.Off false v k) x (is_some k.values) (is_value k.values x || false) (k.loose || false) (is_off k.mode) refl (sym (or_false (is_value k.values x))) (sym (or_false k.loose)) refl
ended_seen r outcome.Dark false v x k = with_parts (ended r outcome.Dark false v k) x (is_some k.values) (is_value k.values x || false) (k.loose || false) (is_off k.mode) refl (sym (or_false (is_value k.values x))) (sym (or_false k.loose)) refl
ended_seen r outcome.Got started v x k = refl
ended_seen r outcome.ReadFailed started v x k = refl
ended_seen r outcome.NoFresh started v x k = refl

read_seen : (how : Outcome) (v x : Sector) (k : Known) → seen_of (read how v k) x ≡ seen_read (seen_of k x) how (bytes_eq v x)
read_seen outcome.Got v x k = by_loose k.loose
  where
    by_loose : (t : Bool) → seen_of (cond t k (record k { values = Some (v ∷ []) })) x ≡ cond t (seen_of k x) (record (seen_of k x) { known = true; allowed = bytes_eq v x })
    by_loose true = refl
    by_loose false = with_parts (record k { values = Some (v ∷ []) }) x true (bytes_eq v x) k.loose (is_off k.mode) refl (one_value v x) refl refl
read_seen _ v x k = refl

seen_choice : (t : Bool) (a b : Known) (c d : Seen) (x : Sector) → seen_of a x ≡ c → seen_of b x ≡ d → seen_of (cond t a b) x ≡ cond t c d
seen_choice true a b c d x left right = left
seen_choice false a b c d x left right = right

some_open_is : (ws : List Request) → is_some_open ws ≡ list_any (λ r. true) ws
some_open_is [] = refl
some_open_is (w ∷ ws) = refl

-- a row makes of what is seen what its entry makes of what is known
seen_row : (run : ℕ) (asks : List Ask) (blocks : List (List ℕ)) (vol : Vol) (b : ℕ) (x : Sector) (before : List Row) (k : Known) (r : Row)
    → (source (fact_of run asks blocks r) vol ≡ vol → k.open_writes ≡ (known (facts_of run asks blocks before) vol b).open_writes)
    → seen_of (change (fact_of run asks blocks r) vol b k) x ≡ seen_step (seen_of k x) before asks blocks vol b x r
seen_row run asks blocks vol b x before k (row.Making lv size m) opened =
    seen_choice (same_vol (Lv lv) vol && nat_lt b size) _ k _ (seen_of k x) x
    (with_parts (record { values = Some (zero_sector ∷ []); open_writes = []; loose = false; mode = m }) x true (bytes_eq zero_sector x) false (is_off m) refl (one_value zero_sector x) refl refl) refl
seen_row run asks blocks vol b x before k (row.Removed gone) opened = seen_choice (same_vol gone vol) _ k _ (seen_of k x) x refl refl
seen_row run asks blocks vol b x before k (row.Split from lv) opened = by_test (same_vol (Lv lv) vol)
  where
    by_test : (t : Bool) → seen_of (cond t (record k { open_writes = [] }) k) x ≡ seen_of k x
    by_test true = refl
    by_test false = refl
seen_row run asks blocks vol b x before k (row.Begun id) opened = by_test ((ask_of asks id).write && is_over_ask (ask_of asks id) vol b)
  where
    by_test : (t : Bool) → seen_of (cond t (record k { open_writes = request_in run asks blocks id ∷ k.open_writes }) k) x ≡ seen_of k x
    by_test true = refl
    by_test false = refl
seen_row run asks blocks vol b x before k (row.Landed id how started) opened =
    seen_choice (is_over_ask (ask_of asks id) vol b) _ k _ (seen_of k x) x (by_write (ask_of asks id).write refl) refl
  where
    still : is_open_in (request_in run asks blocks id) k.open_writes ≡ is_any_open (sought.Request id) asks blocks vol b x before
    still = ap (λ (l : List Request). is_open_in (request_in run asks blocks id) l) (opened refl) ∙ request_open run asks blocks vol b id x before

    got_is : (o : Outcome) → seen_read (seen_of k x) o (bytes_eq (block_of (cond (is_got o) (blocks_at blocks (ask_of asks id)) []) (ask_of asks id).at b) x) ≡ seen_read (seen_of k x) o (bytes_eq (block_of (blocks_at blocks (ask_of asks id)) (ask_of asks id).at b) x)
    got_is outcome.Got = refl
    got_is _ = refl

    by_write : (w : Bool) → (ask_of asks id).write ≡ w
        → seen_of (cond w (cond (is_open_in (request_in run asks blocks id) k.open_writes) (ended (request_in run asks blocks id) how started (block_of (cond (ask_of asks id).write (blocks_at blocks (ask_of asks id)) []) (ask_of asks id).at b) k) k)
        (read how (block_of (cond (is_got how) (blocks_at blocks (ask_of asks id)) []) (ask_of asks id).at b) k)) x
        ≡ cond w (cond (is_any_open (sought.Request id) asks blocks vol b x before) (seen_ended (seen_of k x) how started (bytes_eq (block_of (blocks_at blocks (ask_of asks id)) (ask_of asks id).at b) x)) (seen_of k x))
        (seen_read (seen_of k x) how (bytes_eq (block_of (blocks_at blocks (ask_of asks id)) (ask_of asks id).at b) x))
    by_write true write =
        seen_choice (is_open_in (request_in run asks blocks id) k.open_writes) _ k _ (seen_of k x) x
        (ended_seen (request_in run asks blocks id) how started _ x k ∙ ap (λ (t : Bool). seen_ended (seen_of k x) how started (bytes_eq (block_of (cond t (blocks_at blocks (ask_of asks id)) []) (ask_of asks id).at b) x)) write) refl
        ∙ ap (λ (t : Bool). cond t (seen_ended (seen_of k x) how started (bytes_eq (block_of (blocks_at blocks (ask_of asks id)) (ask_of asks id).at b) x)) (seen_of k x)) still
    by_write false is_read = read_seen how _ x k ∙ got_is how
seen_row run asks blocks vol b x before k row.Cut opened =
    with_parts (cut b k) x (is_some k.values) (is_value k.values x || (is_some k.values && is_any_open sought.Value asks blocks vol b x before))
    (k.loose || (is_off k.mode && is_any_open sought.Any asks blocks vol b x before)) (is_off k.mode)
    (some_also (map (λ r. block_of r.blocks r.at b) k.open_writes) k.values)
    (value_also (map (λ r. block_of r.blocks r.at b) k.open_writes) k.values x
    ∙ ap (λ (t : Bool). is_value k.values x || (is_some k.values && t))
    (any_map (λ v. bytes_eq v x) (λ (r : Request). block_of r.blocks r.at b) k.open_writes
    ∙ ap (λ (l : List Request). list_any (λ r. bytes_eq (block_of r.blocks r.at b) x) l) (opened refl)
    ∙ value_open run asks blocks vol b x before))
    (ap (λ (t : Bool). k.loose || (is_off k.mode && t))
    (some_open_is k.open_writes ∙ ap (λ (l : List Request). list_any (λ r. true) l) (opened refl) ∙ some_open run asks blocks vol b x before))
    refl
seen_row run asks blocks vol b x before k (row.Made lv) opened = refl
seen_row run asks blocks vol b x before k (row.Removing gone) opened = refl
seen_row run asks blocks vol b x before k (row.Taken client id) opened = refl
seen_row run asks blocks vol b x before k (row.On moment) opened = refl

pub source_row : (run : ℕ) (asks : List Ask) (blocks : List (List ℕ)) (r : Row) (vol : Vol) → source (fact_of run asks blocks r) vol ≡ row_source r vol
source_row run asks blocks (row.Making lv size m) vol = refl
source_row run asks blocks _ vol = refl

pub origin-cons : (r : Row) (rows : List Row) (vol : Vol) → origin_of (r ∷ rows) vol ≡ row_source r (origin_of rows vol)
origin-cons r rows vol = ap (λ (l : List Row). fold (λ v q. row_source q v) vol l) (reverse-append (r ∷ []) rows) ∙ fold_push (λ v q. row_source q v) vol (reverse rows) r

-- the step of the loop, for whatever run the rows are of
pub seen_more : (run : ℕ) (asks : List Ask) (blocks : List (List ℕ)) (rows : List Row) (k : ℕ) (d : Row) (here there : Vol) (b : ℕ) (x : Sector) (s : Seen)
    → k < length rows → here ≡ row_source (get_or rows k d) there → s ≡ seen_of (known (facts_of run asks blocks (take k rows)) here b) x
    → seen_step s (take k rows) asks blocks there b x (get_or rows k d) ≡ seen_of (known (facts_of run asks blocks (take (k + 1) rows)) there b) x
seen_more run asks blocks rows k d here there b x s within follows was =
    let from : source (fact_of run asks blocks (get_or rows k d)) there ≡ here = source_row run asks blocks (get_or rows k d) there ∙ sym follows in
    let seen_old : s ≡ seen_of (known (facts_of run asks blocks (take k rows)) (source (fact_of run asks blocks (get_or rows k d)) there) b) x = was ∙ ap (λ (v : Vol). seen_of (known (facts_of run asks blocks (take k rows)) v b) x) (sym from) in
    ap (λ (t : Seen). seen_step t (take k rows) asks blocks there b x (get_or rows k d)) seen_old
    ∙ sym (seen_row run asks blocks there b x (take k rows) (known (facts_of run asks blocks (take k rows)) (source (fact_of run asks blocks (get_or rows k d)) there) b) (get_or rows k d)
    (λ same. ap (λ (v : Vol). (known (facts_of run asks blocks (take k rows)) v b).open_writes) same))
    ∙ ap (λ (q : Known). seen_of q x) (sym (known-push (facts_of run asks blocks (take k rows)) (fact_of run asks blocks (get_or rows k d)) there b) ∙ ap (λ (l : List Fact). known l there b) (sym (map_more (fact_of run asks blocks) rows k d within)))

-- the volume that is followed is the source of the one that is followed next
pub followed_from : (rows : List Row) (k : ℕ) (d : Row) (here there vol : Vol) → k < length rows → here ≡ origin_of (drop k rows) vol → there ≡ origin_of (drop (k + 1) rows) vol → here ≡ row_source (get_or rows k d) there
followed_from rows k d here there vol within was is =
    was ∙ at_drop_more (λ (l : List Row). origin_of l vol) rows k d within ∙ origin-cons (get_or rows k d) (drop (k + 1) rows) vol ∙ ap (λ (v : Vol). row_source (get_or rows k d) v) (sym is)

-- what is seen at the end says whether the value is allowed
pub allowed_is : (k : Known) (x : Sector) → IsTrue (not (seen_of k x).known || (seen_of k x).allowed) ↔ May k x
allowed_is k x = by_values k.values
  where
    to : (values : List (List ℕ)) → list_any (λ v. bytes_eq v x) values ≡ true → IsInList x values
    to [] none = absurd (let e : ◌≡◌ {A = Bool} false true = none in cc)
    to (v ∷ values) some = by_first (bytes_eq v x) refl (to values) some
      where
        by_first : (t : Bool) → bytes_eq v x ≡ t → (list_any (λ w. bytes_eq w x) values ≡ true → IsInList x values) → (bytes_eq v x || list_any (λ w. bytes_eq w x) values) ≡ true → IsInList x (v ∷ values)
        by_first true is later some = inl ((bytes_eq-Decides v x).0 is)
        by_first false is later some = inr (later (sym (ap (λ (u : Bool). u || list_any (λ w. bytes_eq w x) values) is) ∙ some))

    from : (values : List (List ℕ)) → IsInList x values → list_any (λ v. bytes_eq v x) values ≡ true
    from [] none = absurd none
    from (v ∷ values) (inl is) = ap (λ (u : Bool). u || list_any (λ w. bytes_eq w x) values) ((bytes_eq-Decides v x).1 is)
    from (v ∷ values) (inr there) = or_true (bytes_eq v x) (list_any (λ w. bytes_eq w x) values) (from values there)
      where
        or_true : (a c : Bool) → c ≡ true → (a || c) ≡ true
        or_true true c is = refl
        or_true false c is = is

    by_values : (o : Option (List (List ℕ))) → IsTrue (not (is_some o) || is_value o x) ↔ IfSome o (λ values. IsInList x values)
    by_values None = (λ is. tt, λ is. refl)
    by_values (Some values) = (λ is. to values is, λ there. from values there)

-- at the end nothing is left to follow
pub looked_through : (run : ℕ) (asks : List Ask) (blocks : List (List ℕ)) (rows : List Row) (k : ℕ) (here vol : Vol) (b : ℕ) (x : Sector) (s : Seen) → length rows ≤ k
    → here ≡ origin_of (drop k rows) vol → s ≡ seen_of (known (facts_of run asks blocks (take k rows)) here b) x → s ≡ seen_of (known (facts_of run asks blocks rows) vol b) x
looked_through run asks blocks rows k here vol b x s all followed was =
    was ∙ ap (λ (l : List Row). seen_of (known (facts_of run asks blocks l) here b) x) (take_all k rows all)
    ∙ ap (λ (v : Vol). seen_of (known (facts_of run asks blocks rows) v b) x) (followed ∙ ap (λ (l : List Row). origin_of l vol) (drop_all k rows all))

pub tells : (k : Known) (x : Sector) (s : Seen) (t : Bool) → s ≡ seen_of k x → t ≡ (not s.known || s.allowed) → IsTrue t ↔ May k x
tells k x s t is says =
    let e : t ≡ (not (seen_of k x).known || (seen_of k x).allowed) = says ∙ ap (λ (q : Seen). not q.known || q.allowed) is in
    let its = allowed_is k x in
    (λ yes_it_is. its.0 (subst IsTrue e yes_it_is), λ may. subst IsTrue (sym e) (its.1 may))
