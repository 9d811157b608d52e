-- How the clients of a pass that is outside go from call to call.
use Rattle.std.proofs.Common.{◌≡◌, ℕ, ◌≤◌, ◌==◌, not, Option, List, ◌++◌, sym, ap, ◌∙◌, subst}
use Rattle.std.specs.Prelude.{filter}
use Rattle.atomic_table.specs.Seated.{TableId}
use Rattle.lvm_num.specs.Buffer.{Sector}
use Rattle.lvm_vol.specs.Facts.{IsInList}
use Rattle.lvm_vol.specs.Fronts.{Told}
use Rattle.lvm_turn.specs.Views.{View, Standing, HoldsClient, HoldsAll, numbers, counted, up_to, without_client, with_client_alone, joined, leaves}
use Rattle.lvm_turn.specs.Calls.{IsIdlePass, HasEntered, WasMissed, first_view}
use Rattle.lvm_turn.proofs.ViewsLemmas.Clients.{numbers-renewed, numbers-append, numbers-without, numbers-only, numbers-holds, stands_counted}

module _ (table : TableId) (ns : List ℕ) (p : Standing) (idle : IsIdlePass table ns p) where
  -- it holds each of its clients
  pub idle_holds : (c : ℕ) → IsInList c ns → HoldsClient p.knows.clients c
  idle_holds c there = numbers-holds p.knows.clients c (subst (IsInList c) (sym idle.holds) there)

  pub idle_all : (n m : ℕ) → m ≡ n → ns ≡ counted n → HoldsAll m p.knows.clients
  idle_all n m same all c low high = idle_holds c (subst (IsInList c) (sym all) (stands_counted n c low (subst (λ k. c ≤ k) same high)))

  pub idle_without : (c : ℕ) (q : Standing) → q ≡ record p { knows = without_client c p.knows } → IsIdlePass table (filter (λ n. not (n == c)) ns) q
  idle_without c q is = record {
    at = ap (λ (s : Standing). s.table) is ∙ idle.at;
    outside = ap (λ (s : Standing). s.knows.inside) is ∙ idle.outside;
    holds = ap (λ (s : Standing). numbers s.knows.clients) is ∙ numbers-without c p.knows.clients ∙ ap (filter (λ n. not (n == c))) idle.holds;
  }

  pub idle_alone : (c : ℕ) (q : Standing) → q ≡ record p { knows = with_client_alone c p.knows } → IsIdlePass table (filter (λ n. n == c) ns) q
  idle_alone c q is = record {
    at = ap (λ (s : Standing). s.table) is ∙ idle.at;
    outside = ap (λ (s : Standing). s.knows.inside) is ∙ idle.outside;
    holds = ap (λ (s : Standing). numbers s.knows.clients) is ∙ numbers-only c p.knows.clients ∙ ap (filter (λ n. n == c)) idle.holds;
  }

  pub idle_joined : (ms : List ℕ) (other q : Standing) → IsIdlePass table ms other → q ≡ record p { knows = joined p.knows other.knows } → IsIdlePass table (ns ++ ms) q
  idle_joined ms other q idle_other is = record {
    at = ap (λ (s : Standing). s.table) is ∙ idle.at;
    outside = ap (λ (s : Standing). s.knows.inside) is ∙ idle.outside;
    holds = ap (λ (s : Standing). numbers s.knows.clients) is ∙ numbers-append p.knows.clients other.knows.clients ∙ (λ i. idle.holds i ++ idle_other.holds i);
  }

  -- after a try that gave nothing
  pub idle_missed : (q : Standing) → q.table ≡ p.table → WasMissed p.knows q.knows → IsIdlePass table ns q
  idle_missed q at missed = record {
    at = at ∙ idle.at;
    outside = ap (λ (v : View). v.inside) missed.view ∙ idle.outside;
    holds = ap (λ (v : View). numbers v.clients) missed.view ∙ idle.holds;
  }

  -- after it entered and left
  pub idle_left : (q r : Standing) (found left : Told) → q.table ≡ p.table → HasEntered p.knows found q.knows → r ≡ record q { knows = leaves left q.knows } → IsIdlePass table ns r
  idle_left q r found left at entered is = record {
    at = ap (λ (s : Standing). s.table) is ∙ at ∙ idle.at;
    outside = ap (λ (s : Standing). s.knows.inside) is;
    holds = ap (λ (s : Standing). numbers s.knows.clients) is ∙ numbers-renewed left.entries q.knows.clients ∙ ap (λ (v : View). numbers v.clients) entered.view ∙ idle.holds;
  }

module _ {V : Type 0} (tells : V → Told) (past : V → Option (List (List Sector))) where
  -- the first pass
  pub idle_first : (table : TableId) (n : ℕ) (y : V) (p : Standing) → p.table ≡ table → p.knows ≡ first_view tells past n y → IsIdlePass table (numbers (up_to n)) p
  idle_first table n y p at is = record {
    at = at;
    outside = ap (λ (v : View). v.inside) is;
    holds = ap (λ (v : View). numbers v.clients) is ∙ numbers-renewed (tells y).entries (up_to n);
  }
