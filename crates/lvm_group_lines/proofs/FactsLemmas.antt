-- Entries that begin nothing and land nothing: a cut, contents that are given up, and the varying on of a group.
use Rattle.std.proofs.Common.{◌≡◌, ◌∷◌, ◌++◌, [], ℕ, List, Bool, Option, None, true, false, not, is_some, if◌then◌else◌, ◌&&◌, ◌||◌, refl, sym, ◌∙◌, ap, subst, append_assoc, map}
use Rattle.std.specs.List.{list_any, find, cons_option}
use Rattle.std.proofs.lemmas.List.{append-nil}
use Rattle.std.proofs.lemmas.List.Elements.{filter_map-append}
use Rattle.std.proofs.lemmas.List.Folds.{list_any-append}
use Rattle.lvm_vol.specs.declared.entry.Vol.TheVariants.{Disk}
use Rattle.lvm_vol.specs.Facts.{Fact, Request, Removed, Cut, begun, begun_by}
use Rattle.lvm_vol.specs.Log.{Log, asked, has_id, is_open, lands_id, is_uncut, cut_log}
use Rattle.lvm_vol.specs.Legal.{IsLater}
use Rattle.lvm_steps.proofs.LawsLemmas.Clock.{later_joins}
use Rattle.lvm_quiesce.specs.passed.Core.{HaveAllLanded}
use Rattle.lvm_group_lines.specs.State.{log_with}

-- no request is open that wasn't
pub open_more : (facts : List Fact) (f : Fact) (id : ℕ) → begun_by f ≡ None → lands_id id f ≡ false → is_open (facts ++ f ∷ []) id ≡ is_open facts id
open_more facts f id none lands =
    let begins : begun (facts ++ f ∷ []) ≡ begun facts = filter_map-append begun_by facts (f ∷ []) ∙ ap (λ (o : Option Request). begun facts ++ cons_option o []) none ∙ append-nil (begun facts) in
    let landed : list_any (lands_id id) (facts ++ f ∷ []) ≡ list_any (lands_id id) facts = list_any-append (lands_id id) facts (f ∷ []) ∙ ap (λ (b : Bool). list_any (lands_id id) facts || (b || false)) lands ∙ or_false (list_any (lands_id id) facts) in
    ap (λ (l : List Request). is_some (find (has_id id) l) && not (list_any (lands_id id) (facts ++ f ∷ []))) begins ∙ ap (λ (b : Bool). is_some (asked facts id) && not b) landed
  where
    or_false : (b : Bool) → (b || false) ≡ b
    or_false true = refl
    or_false false = refl

-- what such entries leave true
pub record Bears (P : List Fact → Type 0) : Type 0 where
  pub removed : (facts : List Fact) (disk : ℕ) → P facts → P (facts ++ Removed (Disk disk) ∷ [])
  pub cut : (facts : List Fact) → P facts → P (facts ++ Cut ∷ [])

pub landed_bears : Bears HaveAllLanded
landed_bears = record {
  removed = λ facts disk landed id. open_more facts (Removed (Disk disk)) id refl refl ∙ landed id;
  cut = λ facts landed id. open_more facts Cut id refl refl ∙ landed id;
}

pub later_bears : (moment : ℕ) → Bears (λ facts. IsLater facts moment)
later_bears moment = record {
  removed = λ facts disk later. later_joins moment facts (Removed (Disk disk) ∷ []) later tt;
  cut = λ facts later. later_joins moment facts (Cut ∷ []) later tt;
}

pub bears_cut : (P : List Fact → Type 0) → Bears P → (log : Log) → P log.facts → P (cut_log log).facts
bears_cut P bears log holds = go (is_uncut log.facts) refl
  where
    go : (b : Bool) → is_uncut log.facts ≡ b → P (cut_log log).facts
    go true is = subst (λ (b : Bool). P (if b then log_with log (log.facts ++ Cut ∷ []) else log).facts) (sym is) (bears.cut log.facts holds)
    go false is = subst (λ (b : Bool). P (if b then log_with log (log.facts ++ Cut ∷ []) else log).facts) (sym is) holds

pub bears_given_up : (P : List Fact → Type 0) → Bears P → (facts : List Fact) (disks : List ℕ) → P facts → P (facts ++ map (λ disk. Removed (Disk disk)) disks)
bears_given_up P bears facts [] holds = subst P (sym (append-nil facts)) holds
bears_given_up P bears facts (disk ∷ disks) holds = subst P (append_assoc facts (Removed (Disk disk) ∷ []) (map (λ d. Removed (Disk d)) disks)) (bears_given_up P bears (facts ++ Removed (Disk disk) ∷ []) disks (bears.removed facts disk holds))
