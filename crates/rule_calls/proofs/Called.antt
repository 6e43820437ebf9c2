-- The calls rule and one, where their fault was found: refused, or with room for their clauses.
use Prim.Native.Nat.{ℕ, ◌≤◌}
use native.Mathlib.Omega.{arith}
use mathlib.Core.Path.{◌≡◌, refl, sym, ap, subst}
use mathlib.Core.List.{List, [], ◌∷◌}
use mathlib.Core.Option.{Option, none, some}
use lib.IntN.{ℤ}
use lib.ListN.{length}
use Rattle.qbf.specs.Formula.{Limits, paper, Literal}
use Rattle.qbf.specs.One.{one_forms, one_count}
use Rattle.qbf.specs.Calls.{State as Read, rule, one, rule_fault, one_fault, with_rule, with_one, store_after_rule}
use Rattle.tables.proofs.Laws.{rows_length}
use Rattle.state.specs.State.{State}
use Rattle.state.specs.Reading.{own, prefix_in, formula_under, store_under}
use Rattle.serving.specs.Serves.{said}
use Rattle.rule_faults.specs.Faults.{fault_under, one_fault_under}
use Rattle.rule_faults.proofs.Faultless.{fine_room, fine_length, one_fine_room, one_fine_length, one_fine_named}
use Rattle.rule_rows.specs.Accepted.{Named}
use Rattle.state_parts.specs.Parts.{limits_of, state_at}
use Rattle.rule_calls.specs.ServesAt.{ServesAt}
use Rattle.rule_calls.specs.AddedAt.{Room, AddedAt}
use Rattle.rule_calls.proofs.Calls.{capped}
use Rattle.rule_calls.proofs.Adds.{after, Adds, Fault, standing, Found, found_refused, found_fine, found_room, found_accepted}

-- ---- the faults as they are found: the clauses that stand are as many as the table counts
abbrev pub rule_found : List Literal → Fault
rule_found ls L count D = fault_under L count D ls

abbrev pub one_found : List Literal → Fault
one_found ls L count D = one_fault_under L count D ls

module _ (cells : List ℕ) (literals : List ℤ) (ls : List Literal) where
  abbrev L : Limits
  L = limits_of cells

  abbrev x : State
  x = state_at cells literals

  counts : standing cells literals ≡ length (formula_under L x).clauses
  counts = sym (rows_length paper.literals x.clauses x.clause_sizes (standing cells literals))

  rule_adds : Adds cells literals (rule ls) (ls ∷ []) (fault_under L (standing cells literals) (prefix_in x) ls)
  rule_adds =
      subst (Adds cells literals (rule ls) (ls ∷ [])) (sym (ap (λ (n : ℕ). fault_under L n (prefix_in x) ls) counts))
      (record { state = by (rule_fault (formula_under L x) ls); out = refl })
    where
      by : (o : Option ℕ) → ◌≡◌ {A = Read} (record { formula = with_rule o (formula_under L x) ls; store = store_after_rule o (store_under L x) }) (after cells literals (rule ls) (ls ∷ []) o)
      by none = refl
      by (some n) = refl

  one_adds : Adds cells literals (one ls) (one_forms ls) (one_fault_under L (standing cells literals) (prefix_in x) ls)
  one_adds =
      subst (Adds cells literals (one ls) (one_forms ls)) (sym (ap (λ (n : ℕ). one_fault_under L n (prefix_in x) ls) counts))
      (record { state = by (one_fault (formula_under L x) ls); out = refl })
    where
      by : (o : Option ℕ) → ◌≡◌ {A = Read} (record { formula = with_one o (formula_under L x) ls; store = store_after_rule o (store_under L x) }) (after cells literals (one ls) (one_forms ls) o)
      by none = refl
      by (some n) = refl

-- ---- a rule
module _ {cells : List ℕ} {literals : List ℤ} {n m : ℕ} {shown : List ℕ} {p : Option ℕ} (ls : List Literal) (f : Found cells literals (rule_found ls) n m shown p) where
  pub rule_refused : (r : ℕ) → p ≡ some r → ServesAt cells literals (rule ls) (said (some r) 0 0 0 []) cells literals
  rule_refused = found_refused f (rule ls) (ls ∷ []) (rule_adds cells literals ls)

  module _ (e : p ≡ none) where
    fine : none ≡ fault_under (limits_of cells) (standing cells literals) (prefix_in (state_at cells literals)) ls
    fine = found_fine f (rule ls) (ls ∷ []) (rule_adds cells literals ls) e

    pub rule_short : length ls ≤ paper.literals
    rule_short = fine_length (limits_of cells) (standing cells literals) (prefix_in (state_at cells literals)) ls fine

    pub rule_room : Room (own n m) cells literals 1
    rule_room = found_room f (rule ls) (ls ∷ []) (rule_adds cells literals ls) e 1 (omega (arith, fine_room (limits_of cells) (standing cells literals) (prefix_in (state_at cells literals)) ls fine))

    pub rule_accepted : {cells' : List ℕ} {literals' : List ℤ} → AddedAt (own n m) cells literals (ls ∷ []) shown cells' literals' → ServesAt cells literals (rule ls) (said none 0 0 0 []) cells' literals'
    rule_accepted = found_accepted f (rule ls) (ls ∷ []) (rule_adds cells literals ls) e

-- ---- an exactly-one form
module _ {cells : List ℕ} {literals : List ℤ} {n m : ℕ} {shown : List ℕ} {p : Option ℕ} (ls : List Literal) (f : Found cells literals (one_found ls) n m shown p) where
  pub one_refused : (r : ℕ) → p ≡ some r → ServesAt cells literals (one ls) (said (some r) 0 0 0 []) cells literals
  one_refused = found_refused f (one ls) (one_forms ls) (one_adds cells literals ls)

  module _ (e : p ≡ none) where
    one_fine : none ≡ one_fault_under (limits_of cells) (standing cells literals) (prefix_in (state_at cells literals)) ls
    one_fine = found_fine f (one ls) (one_forms ls) (one_adds cells literals ls) e

    pub one_short : length ls ≤ paper.literals
    one_short = one_fine_length (limits_of cells) (standing cells literals) (prefix_in (state_at cells literals)) ls one_fine

    pub one_named : Named ls
    one_named k h = omega (arith, one_fine_named (limits_of cells) (standing cells literals) (prefix_in (state_at cells literals)) ls one_fine k h, (capped cells literals (one ls) f.valid).0)

    pub one_room : Room (own n m) cells literals (one_count (length ls))
    one_room = found_room f (one ls) (one_forms ls) (one_adds cells literals ls) e (one_count (length ls)) (one_fine_room (limits_of cells) (standing cells literals) (prefix_in (state_at cells literals)) ls one_fine)

    pub one_accepted : {cells' : List ℕ} {literals' : List ℤ} → AddedAt (own n m) cells literals (one_forms ls) shown cells' literals' → ServesAt cells literals (one ls) (said none 0 0 0 []) cells' literals'
    one_accepted = found_accepted f (one ls) (one_forms ls) (one_adds cells literals ls) e
