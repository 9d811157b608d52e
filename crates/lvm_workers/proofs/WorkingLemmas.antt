-- What a step of a worker leaves to its pass.
use Rattle.std.proofs.Common.{◌≡◌, ◌≤◌, ℕ, cond, Option, List, [], ◌∷◌, ◌++◌, refl, sym, ap, ◌∙◌, subst, inl, eq-eqb}
use Rattle.std.proofs.lemmas.List.{append-nil}
use Rattle.atomic_table.specs.Seated.{TableId}
use Rattle.lvm_num.specs.Buffer.{Sector}
use Rattle.lvm_num.specs.Counting.{RoseBy}
use Rattle.lvm_vol.specs.Facts.{Request, Fact, Begun}
use Rattle.lvm_vol.specs.Fronts.{Told, own, IsPrefixOf, NoneFell}
use Rattle.lvm_vol.proofs.FrontsLemmas.{begins_further, begins_itself, none_fell, none_fell_further}
use Rattle.lvm_turn.specs.Calls.{Continues, HasEntered, IsIdlePass, MayLeave}
use Rattle.lvm_turn.specs.Rules.{fixed_of}
use Rattle.lvm_turn.specs.Views.{Client, HoldsClient, HoldsSome, Owns, Standing, View, leaves, numbers, renewed}
use Rattle.lvm_turn.proofs.CallsLemmas.Idle.{idle_holds, idle_left}
use Rattle.lvm_turn.proofs.CallsLemmas.Leaving.{may_leave, own_left}
use Rattle.lvm_workers.specs.declared.service.Asked.{Asked}
use Rattle.lvm_workers.specs.declared.service.Seen.{Seen}
use Rattle.lvm_workers.specs.declared.words.Draw.{Draw}
use Rattle.lvm_workers.specs.Knowing.{Knows, RefusedAs, WasMade, first_own}
use Rattle.lvm_workers.specs.Serving.{AskEnters, AskGives, Grows, HasBegun, IsNotYet as EntersNotYet, IsTaken as EntersTaken, LookEnters, NoOthers, WasRefused}
use Rattle.lvm_workers.specs.Working.{AskTells, IsNotYet, IsTaken, LookTells, own_of}
use Rattle.lvm_workers.proofs.KnowingLemmas.{rose_before}

-- ---- the pass of one client

nil_cons : (x : ℕ) (xs : List ℕ) → [] ≡ x ∷ xs → ⊥
nil_cons x xs e = cc

abbrev head_of : List ℕ → ℕ
head_of [] = 0
head_of (x ∷ xs) = x

-- the client owns what the pass says
pub owns_one : (c : ℕ) (xs : List Client) → numbers xs ≡ c ∷ [] → Owns xs c (first_own xs)
owns_one c [] is = absurd (nil_cons c [] is)
owns_one c (x ∷ xs) is = inl (ap head_of is, refl)

renewed_one : (c : ℕ) (history : List Fact) (xs : List Client) → numbers xs ≡ c ∷ [] → first_own (renewed history xs) ≡ own c history
renewed_one c history [] is = absurd (nil_cons c [] is)
renewed_one c history (x ∷ xs) is = ap (λ n. own n history) (ap head_of is)

module _ (table : TableId) (c : ℕ) (p : Standing) (idle : IsIdlePass table (c ∷ []) p) where
  pub its_own : Owns p.knows.clients c (own_of p.knows)
  its_own = owns_one c p.knows.clients idle.holds

  abbrev pub it_holds : HoldsSome p.knows.clients
  it_holds = (c, idle_holds table (c ∷ []) p idle c (inl refl))

-- ---- a value that was lent and left

module _ {V : Type 0} (tells : V → Told) (past : V → Option (List (List Sector))) (always : V → Type 0) where
  -- the pass of the client knows the value that it left, and what was added of its own
  pub record HasLeft (table : TableId) (c : ℕ) (p r : Standing) (z : V) (more : List Fact) : Type 0 where
    pub idle : IsIdlePass table (c ∷ []) r
    pub knows : Knows p.knows r.knows
    pub own_more : own_of r.knows ≡ own_of p.knows ++ own c more
    pub front_is : r.knows.front ≡ (tells z).entries
    pub counts_are : r.knows.counts ≡ (tells z).counts
    pub fixed_are : fixed_of tells past z ≡ r.knows.fixed

  module _ (table : TableId) (c : ℕ) (p q : Standing) (y z : V) (more : List Fact) (idle : IsIdlePass table (c ∷ []) p) (entered : HasEntered p.knows (tells y) q.knows)
      (lent : Continues tells past always p.knows y) (grows : Grows tells past always y more z) where
    pub may : NoOthers c more → MayLeave tells past always q.knows z
    may others =
        may_leave tells past always p.knows q.knows y z more entered lent grows.entries_are
        (λ k absent. others k (λ same. absent (subst (HoldsClient p.knows.clients) (sym same) (it_holds table c p idle).1)))
        grows.fixed_same grows.none_fell grows.always_holds

    pub has_left : (r : Standing) → q.table ≡ p.table → r ≡ record q { knows = leaves (tells z) q.knows } → HasLeft table c p r z more
    has_left r at is =
        let known : r.knows ≡ leaves (tells z) q.knows = ap (λ (s : Standing). s.knows) is in
        let front_is : r.knows.front ≡ (tells z).entries = ap (λ (v : View). v.front) known in
        let counts_are : r.knows.counts ≡ (tells z).counts = ap (λ (v : View). v.counts) known in
        let fixed_same : r.knows.fixed ≡ p.knows.fixed = ap (λ (v : View). v.fixed) known ∙ ap (λ (v : View). v.fixed) entered.view in
        let clients : q.knows.clients ≡ p.knows.clients = ap (λ (v : View). v.clients) entered.view in
        record {
          idle = idle_left table (c ∷ []) p idle q r (tells y) (tells z) at entered is;
          knows = record {
            fixed = fixed_same;
            front = subst (λ f. IsPrefixOf p.knows.front f) (sym front_is) (begins_further p.knows.front (tells y).entries (tells z).entries lent.front (more, grows.entries_are));
            counts = subst (λ k. NoneFell p.knows.counts k) (sym counts_are) (none_fell_further p.knows.counts (tells y).counts (tells z).counts lent.none_fell grows.none_fell);
          };
          own_more =
              ap (λ (v : View). first_own v.clients) known ∙ ap (λ (xs : List Client). first_own (renewed (tells z).entries xs)) clients
              ∙ renewed_one c (tells z).entries p.knows.clients idle.holds
              ∙ own_left tells past always p.knows y z more c (own_of p.knows) lent grows.entries_are (its_own table c p idle);
          front_is = front_is;
          counts_are = counts_are;
          fixed_are = grows.fixed_same ∙ lent.fixed_same ∙ sym fixed_same;
        }

  -- ---- what it has asked for

  module _ (refuses : V → ℕ → ℕ → Draw → Asked → Type 0) (Asks : Request → Type 0) (table : TableId) (client number : ℕ) (drawn : Draw) (p r : Standing) (y z : V) (answer : Asked)
      (gave : AskGives tells past always Asks (λ v said. refuses v client number drawn said) client y answer z) (holds : always y) (left : HasLeft table client p r z gave.more) where
    -- what isn't taken of the value y
    was_refused : refuses y client number drawn answer → RefusedAs tells past always refuses answer r.knows
    was_refused why = record {
      value = y;
      client = client;
      number = number;
      drawn = drawn;
      why = why;
      holds = holds;
      fixed = sym gave.grows.fixed_same ∙ left.fixed_are;
      front = subst (λ f. IsPrefixOf (tells y).entries f) (sym left.front_is) (gave.more, gave.grows.entries_are);
      counts = subst (λ k. NoneFell (tells y).counts k) (sym left.counts_are) gave.grows.none_fell;
    }

    pub ask_tells : AskTells Asks (RefusedAs tells past always refuses) client p.knows answer r.knows
    ask_tells = by gave.enters
      where
        own_begun : (x : Request) → x.client ≡ client → own client (Begun x ∷ []) ≡ Begun x ∷ []
        own_begun x same = ap (λ b. cond b (Begun x ∷ []) []) (eq-eqb x.client client same)

        by : AskEnters Asks (refuses y client number drawn) client answer gave.more → AskTells Asks (RefusedAs tells past always refuses) client p.knows answer r.knows
        by (HasBegun x asks same is entered) = record {
          more = Begun x ∷ [];
          own = left.own_more ∙ ap (λ (m : List Fact). own_of p.knows ++ own client m) entered ∙ ap (λ (m : List Fact). own_of p.knows ++ m) (own_begun x same);
          enters = HasBegun x asks same is refl;
        }
        by (WasRefused why not entered) = record {
          more = [];
          own = left.own_more ∙ ap (λ (m : List Fact). own_of p.knows ++ own client m) entered;
          enters = WasRefused (was_refused why) not refl;
        }

  -- ---- what was made of it

  pub left_made : (Makes : V → V → Type 0) (table : TableId) (client : ℕ) (p r : Standing) (y z : V) (more : List Fact) → Continues tells past always p.knows y → Makes y z → Grows tells past always y more z → HasLeft table client p r z more
      → WasMade tells past always Makes p.knows r.knows
  left_made Makes table client p r y z more lent makes grows left = record {
    from = y;
    to = z;
    makes = makes;
    holds = lent.always_holds;
    fixed = sym grows.fixed_same ∙ left.fixed_are;
    since = lent.front;
    risen = lent.none_fell;
    until = subst (λ f. IsPrefixOf (tells z).entries f) (sym left.front_is) (begins_itself (tells z).entries);
    rises = subst (λ k. NoneFell (tells z).counts k) (sym left.counts_are) (none_fell (tells z).counts);
  }

  -- ---- what it has seen

  pub look_tells : (table : TableId) (client id : ℕ) (p r : Standing) (z : V) (more : List Fact) (answer : Seen) → LookEnters client id answer more → HasLeft table client p r z more → LookTells id p.knows answer r.knows
  look_tells table client id p r z more answer (EntersTaken t same is entered) left = IsTaken t same is (left.own_more ∙ ap (λ (m : List Fact). own_of p.knows ++ m) entered)
  look_tells table client id p r z more answer (EntersNotYet not entered) left = IsNotYet not (left.own_more ∙ ap (λ (m : List Fact). own_of p.knows ++ m) entered ∙ append-nil (own_of p.knows))

  pub look_waited : (waits : List ℕ → ℕ) → ((old new : List ℕ) → NoneFell old new → waits old ≤ waits new) → (table : TableId) (client : ℕ) (p r : Standing) (y z : V) (more : List Fact)
      → NoneFell p.knows.counts (tells y).counts → RoseBy 1 (waits (tells y).counts) (waits (tells z).counts) → HasLeft table client p r z more → RoseBy 1 (waits p.knows.counts) (waits r.knows.counts)
  look_waited waits grow table client p r y z more before rose left =
      subst (λ (k : List ℕ). RoseBy 1 (waits p.knows.counts) (waits k)) (sym left.counts_are)
      (rose_before 1 (waits p.knows.counts) (waits (tells y).counts) (waits (tells z).counts) (grow p.knows.counts (tells y).counts before) rose)
