-- An accepted exactly-one form is a list of accepted rules: its forms as rules, one after the other.
use Prim.Native.Nat.{ℕ, ◌+◌, ◌≤◌, ◌<◌}
use native.Mathlib.Omega.{arith}
use mathlib.Core.Path.{◌≡◌, refl, sym, ap, ◌∙◌, subst}
use mathlib.Core.Logic.{◌⊎◌, inl, inr}
use mathlib.Core.Bool.{Bool, true, false, ◌||◌, true≢false}
use mathlib.Core.List.{List, [], ◌∷◌, ◌++◌, map, append-nil, append_assoc}
use mathlib.Core.Option.{Option, none, some}
use lib.ListN.{length, length-append}
use lib.IntN.{neg_ℤ}
use lib.Dec.{eqb, ltb, leb}
use borrow.Author.Tests.{ltb-false, le-ltb, lt-leb, ne_eqb}
use Rattle.qbf.specs.Formula.{Prefix, Limits, Literal, Formula, Clause, number_of, place_of, place, any}
use Rattle.qbf.specs.Card.{Mem}
use Rattle.qbf.specs.Calls.{◌or_else◌, given, literal_fault, rule_fault, with_rule, clause_of, one_fault, with_one}
use Rattle.theory.proofs.Basics.{or_false, or_false_left, or_false_right}
use Rattle.theory.proofs.Stores.{mem_append}
use Rattle.theory.proofs.AcceptedRule.{given_none, rule_formula}
use Rattle.theory.proofs.WellFormed.{FormulaFacts}
use Rattle.qbf.specs.One.{both_negated, pairs_with, pairs, one_forms, one_count}
use Rattle.qbf.specs.OneAdds.{after_rules, AllAccepted}
use Rattle.theory.proofs.OneCount.{forms_count}
use Rattle.theory.proofs.OneTruth.{negation_number}
use Rattle.theory.proofs.OneHeld.{Fresh, fresh_first, fresh}

-- ---- literals without a fault
none_given : (x : Bool) (n : ℕ) (o : Option ℕ) → x ≡ false → o ≡ none → (given x n or_else o) ≡ none
none_given true n o e q = absurd (true≢false e)
none_given false n o e q = q

module _ (L : Limits) (D : Prefix) where
  more_fresh : (seen : List ℕ) (l : Literal) (ls : List Literal) → Fresh L D seen l → literal_fault L D (number_of l ∷ seen) ls ≡ none → literal_fault L D seen (l ∷ ls) ≡ none
  more_fresh seen l ls f e =
      none_given (eqb (number_of l) 0 || ltb L.numbers (number_of l)) 3 (given (eqb (place D l) 0) 5 or_else given (any (eqb (number_of l)) seen) 6 or_else literal_fault L D (number_of l ∷ seen) ls) f.range
      (none_given (eqb (place D l) 0) 5 (given (any (eqb (number_of l)) seen) 6 or_else literal_fault L D (number_of l ∷ seen) ls) f.declared
      (none_given (any (eqb (number_of l)) seen) 6 (literal_fault L D (number_of l ∷ seen) ls) f.new e))

  -- a fault is judged on the number alone
  fresh_negℤ : (seen : List ℕ) (l : Literal) → Fresh L D seen l → Fresh L D seen (neg_ℤ l)
  fresh_negℤ seen l f =
      let n : number_of l ≡ number_of (neg_ℤ l) = sym (negation_number l) in
      record {
        range = subst (λ (k : ℕ). (eqb k 0 || ltb L.numbers k) ≡ false) n f.range;
        declared = subst (λ (k : ℕ). eqb (place_of D k) 0 ≡ false) n f.declared;
        new = subst (λ (k : ℕ). any (eqb k) seen ≡ false) n f.new;
      }

  pair_free : (l m : Literal) → Fresh L D [] l → Fresh L D (number_of l ∷ []) m → literal_fault L D [] (both_negated l m) ≡ none
  pair_free l m f g =
      more_fresh [] (neg_ℤ l) (neg_ℤ m ∷ []) (fresh_negℤ [] l f)
      (more_fresh (number_of (neg_ℤ l) ∷ []) (neg_ℤ m) [] (subst (λ (k : ℕ). Fresh L D (k ∷ []) (neg_ℤ m)) (sym (negation_number l)) (fresh_negℤ (number_of l ∷ []) m g)) refl)

  -- what is new after more numbers is new after fewer
  fewer_seen : (seen : List ℕ) (l m : Literal) → Fresh L D (number_of l ∷ seen) m → Fresh L D (number_of l ∷ []) m
  fewer_seen seen l m f =
      record { range = f.range; declared = f.declared; new = or_false (eqb (number_of m) (number_of l)) false (or_false_left (eqb (number_of m) (number_of l)) (any (eqb (number_of m)) seen) f.new) refl }

  with_free : (seen : List ℕ) (l : Literal) (ms : List Literal) → Fresh L D seen l → ((m : Literal) → Mem m ms → Fresh L D (number_of l ∷ seen) m)
      → (c : List Literal) → Mem c (pairs_with l ms) → (length c ≡ 2) × (literal_fault L D [] c ≡ none)
  with_free seen l [] f h c n = absurd n
  with_free seen l (m ∷ ms) f h c (inl p) =
      (ap length p, ap (literal_fault L D []) p ∙ pair_free l m (record { range = f.range; declared = f.declared; new = refl }) (fewer_seen seen l m (h m (inl refl))))
  with_free seen l (m ∷ ms) f h c (inr n) = with_free seen l ms f (λ x k. h x (inr k)) c n

  pairs_free : (seen : List ℕ) (ls : List Literal) → literal_fault L D seen ls ≡ none → (c : List Literal) → Mem c (pairs ls) → (length c ≡ 2) × (literal_fault L D [] c ≡ none)
  pairs_free seen [] e c n = absurd n
  pairs_free seen (l ∷ ls) e c n = pick (mem_append (pairs_with l ls) (pairs ls) c n) (pairs_free (number_of l ∷ seen) ls (fresh_first L D seen l ls e).1 c)
    where
      pick : Mem c (pairs_with l ls) ⊎ Mem c (pairs ls) → (Mem c (pairs ls) → (length c ≡ 2) × (literal_fault L D [] c ≡ none)) → (length c ≡ 2) × (literal_fault L D [] c ≡ none)
      pick (inl m) ih = with_free seen l ls (fresh_first L D seen l ls e).0 (λ x k. fresh L D (number_of l ∷ seen) ls (fresh_first L D seen l ls e).1 x k) c m
      pick (inr m) ih = ih m

-- ---- one rule after the other
pub record Fine (L : Limits) (D : Prefix) (c : List Literal) : Type 0 where
  pub some_literal : 1 ≤ length c
  pub few : length c ≤ L.literals
  pub free : literal_fault L D [] c ≡ none

rule_accepted : (b : Formula) (c : List Literal) → Fine b.limits b.prefix c → length b.clauses < b.limits.clauses → rule_fault b c ≡ none
rule_accepted b c f h =
    none_given (leb b.limits.clauses (length b.clauses)) 20 (given (eqb (length c) 0 || ltb b.limits.literals (length c)) 7 or_else literal_fault b.limits b.prefix [] c)
    (lt-leb b.limits.clauses (length b.clauses) h)
    (none_given (eqb (length c) 0 || ltb b.limits.literals (length c)) 7 (literal_fault b.limits b.prefix [] c)
    (or_false (eqb (length c) 0) (ltb b.limits.literals (length c)) (ne_eqb (length c) 0 (λ z. absurd (omega (arith, z, f.some_literal)))) (le-ltb b.limits.literals (length c) f.few))
    f.free)

abbrev with_clauses : Formula → List Clause → Formula
with_clauses b rs = record { limits = b.limits; prefix = b.prefix; clauses = b.clauses ++ rs }

rules_added : (b : Formula) (cs : List (List Literal)) → ((c : List Literal) → Mem c cs → Fine b.limits b.prefix c) → length b.clauses + length cs ≤ b.limits.clauses
    → AllAccepted b cs × (after_rules b cs ≡ with_clauses b (map (clause_of b.prefix) cs))
rules_added b [] f h = (tt, λ i. record { limits = b.limits; prefix = b.prefix; clauses = sym (append-nil b.clauses) i })
rules_added b (c ∷ cs) f h =
    let e : rule_fault b c ≡ none = rule_accepted b c (f c (inl refl)) (omega arith) in
    let one : Formula = with_clauses b (clause_of b.prefix c ∷ []) in
    let next : with_rule (rule_fault b c) b c ≡ one = ap (λ (o : Option ℕ). with_rule o b c) e in
    let r = rules_added one cs (λ x m. f x (inr m)) (omega (arith, length-append b.clauses (clause_of b.prefix c ∷ []))) in (
      (e, subst (λ (x : Formula). AllAccepted x cs) (sym next) r.0),
      ap (λ (x : Formula). after_rules x cs) next
          ∙ r.1
          ∙ ap (λ (rs : List Clause). record { limits = b.limits; prefix = b.prefix; clauses = rs }) (append_assoc b.clauses (clause_of b.prefix c ∷ []) (map (clause_of b.prefix) cs)),
    )

module _ (b : Formula) (ls : List Literal) (e : one_fault b ls ≡ none) where
  seven : ((ltb (length ls) 2 || ltb b.limits.literals (length ls)) ≡ false) × ((given (ltb b.limits.clauses (length b.clauses + one_count (length ls))) 20 or_else literal_fault b.limits b.prefix [] ls) ≡ none)
  seven = given_none (ltb (length ls) 2 || ltb b.limits.literals (length ls)) 7 (given (ltb b.limits.clauses (length b.clauses + one_count (length ls))) 20 or_else literal_fault b.limits b.prefix [] ls) e

  pub twenty : (ltb b.limits.clauses (length b.clauses + one_count (length ls)) ≡ false) × (literal_fault b.limits b.prefix [] ls ≡ none)
  twenty = given_none (ltb b.limits.clauses (length b.clauses + one_count (length ls))) 20 (literal_fault b.limits b.prefix [] ls) seven.1

  two : 2 ≤ length ls
  two = ltb-false (length ls) 2 (or_false_left (ltb (length ls) 2) (ltb b.limits.literals (length ls)) seven.0)

  within : length ls ≤ b.limits.literals
  within = ltb-false b.limits.literals (length ls) (or_false_right (ltb (length ls) 2) (ltb b.limits.literals (length ls)) seven.0)

  each_fine : (c : List Literal) → Mem c (one_forms ls) → Fine b.limits b.prefix c
  each_fine c (inl p) = subst (Fine b.limits b.prefix) (sym p) (record { some_literal = omega (arith, two); few = within; free = twenty.1 })
  each_fine c (inr m) =
      let w = pairs_free b.limits b.prefix [] ls twenty.1 c m in
      record { some_literal = omega (arith, w.0); few = omega (arith, w.0, two, within); free = w.1 }

  -- "It stands for the rule of all its literals, then one rule for each pair": each is accepted as a rule of its own, and together they
  -- give the formula of the form
  pub one_as_rules : AllAccepted b (one_forms ls) × (after_rules b (one_forms ls) ≡ with_one none b ls)
  one_as_rules = rules_added b (one_forms ls) each_fine (omega (arith, forms_count ls, ltb-false b.limits.clauses (length b.clauses + one_count (length ls)) twenty.0))

rules_formed : (b : Formula) → FormulaFacts b → (cs : List (List Literal)) → FormulaFacts (after_rules b cs)
rules_formed b h [] = h
rules_formed b h (c ∷ cs) = rules_formed (with_rule (rule_fault b c) b c) (rule_formula b c h (rule_fault b c) refl) cs

-- a well-formed formula stays well formed, the form accepted or refused
pub one_formed : (b : Formula) → FormulaFacts b → (ls : List Literal) → FormulaFacts (with_one (one_fault b ls) b ls)
one_formed b h ls = by (one_fault b ls) refl
  where
    by : (o : Option ℕ) → one_fault b ls ≡ o → FormulaFacts (with_one o b ls)
    by none e = subst FormulaFacts (one_as_rules b ls e).1 (rules_formed b h (one_forms ls))
    by (some n) e = h
