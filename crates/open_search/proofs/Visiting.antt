-- A visit: it is decided, or the node is open and branches on the variable of the next place.
use Prim.Native.Nat.{ℕ, suc, ◌+◌, ◌-◌, ◌≤◌, ◌<◌}
use native.Mathlib.Numerals.{add-one}
use native.Mathlib.Omega.{arith}
use mathlib.Core.Path.{◌≡◌, refl, sym, ap, ◌∙◌, subst}
use mathlib.Core.Logic.{◌⊎◌, inl, inr}
use mathlib.Core.Bool.{Bool, true, false}
use mathlib.Core.List.{List, ◌∷◌}
use mathlib.Core.Option.{Option, none, some}
use lib.Dec.{eqb}
use lib.ListN.{length, get_or, drop, length-map, drop_of_length-le}
use Rattle.qbf.specs.Formula.{highest, Quantifier, free, Prefix, Clause, Node, ◌▹◌, quantifiers, quantifier_at, any, all, dead, satisfied}
use Rattle.qbf.specs.Plain.{plain_branch}
use Rattle.qbf.specs.Open.{Reading, enter, open_search}
use Rattle.theory.proofs.Basics.{le_or_lt}
use Rattle.theory.proofs.Rest.{drop_cons}
use Rattle.theory.proofs.WellFormed.{numbers_ok}
use Rattle.theory.proofs.Widths.{prefix_width}
use Rattle.tables.specs.Views.{quantifier_code, value_code}
use Rattle.node.specs.Node.{NextKind}
use Rattle.node.specs.declared.Verdict.{Verdict}
use Rattle.node.specs.declared.Verdict.TheVariants.{Yes, No}
use Rattle.node.proofs.NextPlace.{one_code, code_small, code_known, next_inside, kind_here}
use Rattle.inner.proofs.Frees.{free_place}
use Rattle.inner.proofs.Stepping.{facts}
use Rattle.open_search.specs.Searching.{Left, Task, Opened, Found, Visited, Branched, Entered, search_at}
use Rattle.open_search.specs.declared.verdicts.Finding.{Finding}
use Rattle.open_search.proofs.Plain.{step_of, decided_at, visit_dead, visit_satisfied, visit_some, open_step, open_end}
use Rattle.open_search.proofs.Budgets.{finding, found_as, found_stopped, found_decided, found_recorded}

-- ---- a visit that does not branch
module _ (D : Prefix) (R : List Clause) (os : Reading) (k : ℕ) (t : Node) (n : ℕ) where
  pub visit_stopped : (v : Verdict) → n ≤ 1 → Found (search_at D R os k t) n (finding v 0)
  visit_stopped v few = found_stopped (search_at D R os k t) n v (visit_some D R (drop k os) (drop k (quantifiers D)) t) few

  pub visit_no : any (dead D t) R ≡ true → Found (search_at D R os k t) n (finding No (n - 1))
  visit_no e = found_as (visit_dead D R (drop k os) (drop k (quantifiers D)) t e) (found_decided false n)

  pub visit_yes : any (dead D t) R ≡ false → all (satisfied D t) R ≡ true → Found (search_at D R os k t) n (finding Yes (n - 1))
  visit_yes e q = found_as (visit_satisfied D R (drop k os) (drop k (quantifiers D)) t e q) (found_decided true n)

-- ---- an open node
module _ {D : Prefix} {R : List Clause} {os : Reading} {wc : ℕ} {sets kd rec : List ℕ} (task : Task D R os wc sets kd rec) {s : Node} {sat : List ℕ} {k : ℕ} (opened : Opened D s R wc sat k) where
  -- a prefix has no more variables than there are numbers
  short : length D ≤ highest.numbers
  short = omega (arith, prefix_width highest D (numbers_ok _ (facts task.formed)), length-map D (λ d. d.quantifier))

  -- ---- what follows at an open node
  pub step_at_lem : (κ : Quantifier) → k < length D → quantifier_at D (suc k) ≡ κ → search_at D R os k s ≡ step_of κ (get_or os k none) (search_at D R os (k + 1)) s
  step_at_lem κ in_d is =
      ap (λ (ks : List Quantifier). open_search D R (drop k os) ks s) here
      ∙ open_step D R κ os k (drop (suc k) (quantifiers D)) s (by (le_or_lt (length os) k)) opened.alive opened.unsatisfied
      ∙ ap (λ (n : ℕ). step_of κ (get_or os k none) (search_at D R os n) s) (sym (add-one k))
    where
      here : drop k (quantifiers D) ≡ κ ∷ drop (suc k) (quantifiers D)
      here =
          drop_cons (quantifiers D) k (omega (arith, in_d, length-map D (λ d. d.quantifier)))
          ∙ ap {B = List Quantifier} (λ (q : Quantifier). q ∷ drop (suc k) (quantifiers D)) is

      by : (length os ≤ k) ⊎ (k < length os) → (length os ≤ k) ⊎ ((k < length os) × (κ ≡ free))
      by (inl le) = inl le
      by (inr lt) = inr (lt, sym is ∙ task.frees k lt)

  module _ (kind : ℕ) (next : NextKind kd k kind) where
    at_kind : k < length D → kind ≡ quantifier_code (quantifier_at D (suc k))
    at_kind in_d = kind_here D kd task.quantified k kind next in_d short

    -- the kind of the next place says which branch is taken
    pub next_is : (κ : Quantifier) → kind ≡ quantifier_code κ → k < length D → quantifier_at D (suc k) ≡ κ
    next_is κ e in_d = one_code (quantifier_at D (suc k)) κ (sym (at_kind in_d) ∙ e)

    pub next_in : (κ : Quantifier) → kind ≡ quantifier_code κ → k < length D
    next_in κ e = next_inside D kd task.quantified k kind next (omega (arith, opened.long, opened.within)) (subst (λ (n : ℕ). n < 3) (sym e) (code_small κ))

    pub kind_found : (κ : Quantifier) (n : ℕ) (r : Finding) → kind ≡ quantifier_code κ → Found (step_of κ (get_or os k none) (search_at D R os (k + 1)) s) n r → Found (search_at D R os k s) n r
    kind_found κ n r e h =
        let in_d : k < length D = next_in κ e in
        found_as (step_at_lem κ in_d (next_is κ e in_d)) h

    -- no place is left
    pub end_found : (n : ℕ) (r : Finding) → (kind ≡ 1 → ⊥) → (kind ≡ 2 → ⊥) → (kind ≡ 0 → ⊥) → Found (decided_at false) n r → Found (search_at D R os k s) n r
    end_found n r x y z h = by (le_or_lt (length D) k)
      where
        by : (length D ≤ k) ⊎ (k < length D) → Found (search_at D R os k s) n r
        by (inr in_d) = absurd (code_known (quantifier_at D (suc k)) kind (at_kind in_d) x y z)
        by (inl le) =
            found_as
            (ap (λ (ks : List Quantifier). open_search D R (drop k os) ks s) (drop_of_length-le (quantifiers D) {i = k} (omega (arith, le, length-map D (λ d. d.quantifier))))
            ∙ open_end D R (drop k os) s opened.alive opened.unsatisfied) h

  -- ---- a free variable, by what is recorded of it
  recorded : (v : ℕ) → k < length D → quantifier_at D (suc k) ≡ free → v ≡ get_or rec (suc k) 0 → v ≡ value_code (get_or os k none)
  recorded v in_d is e = e ∙ task.reads.at (suc k) (free_place task.formed k in_d is)

  pub enter_open : (n : ℕ) (r : Finding) (v : ℕ) → k < length D → quantifier_at D (suc k) ≡ free → v ≡ get_or rec (suc k) 0 → v ≡ 0 → Found (plain_branch free (search_at D R os (k + 1)) s) n r
      → Found (enter (get_or os k none) (search_at D R os (k + 1)) s) n r
  enter_open n r v in_d is e none_given h = found_as (ap (λ (o : Option Bool). enter o (search_at D R os (k + 1)) s) (by (get_or os k none) (recorded v in_d is e))) h
    where
      by : (o : Option Bool) → v ≡ value_code o → o ≡ none
      by none q = refl
      by (some true) q = absurd (omega (arith, q, none_given))
      by (some false) q = absurd (omega (arith, q, none_given))

  pub enter_recorded : (n : ℕ) (r : Finding) (v : ℕ) → k < length D → quantifier_at D (suc k) ≡ free → v ≡ get_or rec (suc k) 0 → (v ≡ 0 → ⊥) → Found (search_at D R os (k + 1) (s ▹ eqb v 2)) (n - 1) r
      → Found (enter (get_or os k none) (search_at D R os (k + 1)) s) n r
  enter_recorded n r v in_d is e given h =
      found_as (ap (λ (o : Option Bool). enter o (search_at D R os (k + 1)) s) (by (get_or os k none) (recorded v in_d is e)))
      (found_recorded (search_at D R os (k + 1) (s ▹ eqb v 2)) n r h)
    where
      by : (o : Option Bool) → v ≡ value_code o → o ≡ some (eqb v 2)
      by none q = absurd (given q)
      by (some true) q = rw q refl
      by (some false) q = rw q refl

-- ---- what is left, and what is said, of the same place
module _ {k k' wc wc' n n' : ℕ} (at : k ≡ k') (words : wc ≡ wc') (budget : n ≡ n') {r : Finding} where
  pub left_as : {sat sat' : List ℕ} → Left k wc n r sat sat' → Left k' wc' n' r sat sat'
  left_as {sat} {sat'} h = subst (λ (T : Type 0). T) (λ i. Left (at i) (words i) (budget i) r sat sat') h

  module _ {sets kd rec sat : List ℕ} where
    pub visited_as : {b : Bool} → Visited k wc n b r sets kd rec sat → Visited k' wc' n' b r sets kd rec sat
    visited_as {b} h = subst (λ (T : Type 0). T) (λ i. Visited (at i) (words i) (budget i) b r sets kd rec sat) h

    pub branched_as : {kind : ℕ} → Branched kind k wc n r sets kd rec sat → Branched kind k' wc' n' r sets kd rec sat
    branched_as {kind} h = subst (λ (T : Type 0). T) (λ i. Branched kind (at i) (words i) (budget i) r sets kd rec sat) h

    pub entered_as : Entered k wc n r sets kd rec sat → Entered k' wc' n' r sets kd rec sat
    entered_as h = subst (λ (T : Type 0). T) (λ i. Entered (at i) (words i) (budget i) r sets kd rec sat) h
