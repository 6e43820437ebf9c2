-- The names of a state in two tables, from the parts that its limits give.
use Prim.Native.Nat.{ℕ, ◌≤◌}
use native.Mathlib.Omega.{arith}
use mathlib.Core.Path.{◌≡◌, sym, ap, subst, ◌∙◌}
use mathlib.Core.Bool.{true, false, false≢true}
use mathlib.Core.List.{List, []}
use mathlib.Core.Option.{some}
use lib.IntN.{ℤ}
use lib.ListN.{length, get_or, length-map}
use Rattle.qbf.specs.Formula.{Limits, Prefix, quantifiers}
use Rattle.qbf.specs.Truth.{free_variables}
use Rattle.qbf.specs.Calls.{State as Read, well_formed, limits_are_ok}
use Rattle.theory.proofs.Starting.{free_fit}
use Rattle.theory.proofs.WellFormed.{FormulaFacts, state_facts, free_few}
use Rattle.tables.specs.Views.{Numbers}
use Rattle.state.specs.State.{State}
use Rattle.state.specs.Reading.{own, prefix_in, state_under, well_formed_read}
use Rattle.state.specs.Derived.{Quantified}
use Rattle.state_parts.specs.declared.limits.Layout.{Layout}
use Rattle.state_parts.specs.Layout.{limits_in}
use Rattle.state_parts.specs.Parts.{limits_of, parts_under, state_at, read_at, valid_at}
use Rattle.state_parts.proofs.Accepted.{AcceptedState, valid_read, valid_state}
use Rattle.card_answers.specs.Names.{NamesOf}

some_same : (y z : Read) → some y ≡ some z → y ≡ z
some_same y z e = cc

module _ (cells : List ℕ) (literals : List ℤ) (y : Read) (i : read_at cells literals ≡ some y) (g : well_formed y ≡ true) where
  abbrev L : Limits
  L = limits_of cells

  abbrev x : State
  x = state_at cells literals

  v : valid_at cells literals ≡ true
  unfolding valid_at
  v = ap well_formed_read i ∙ g

  y_is : state_under L x ≡ y
  y_is = some_same (state_under L x) y (sym (valid_read cells literals v) ∙ i)

  facts : FormulaFacts y.formula
  facts = (state_facts y g).formula_ok

  -- limits that are too high are no valid state's
  pub low_limits : {A : Type 0} → limits_are_ok L ≡ false → A
  low_limits e = absurd (false≢true (sym e ∙ ap (λ (z : Read). limits_are_ok z.formula.limits) y_is ∙ facts.limits_ok))

  abbrev FreeIn : State → ℕ → Type 0
  FreeIn z free = (D : Prefix) → Numbers D z.numbers → Quantified D z.levels z.kinds → free ≡ free_variables D

  -- the parts of the prefix do not lie in the table of the literals
  named_by : {free : ℕ} → FreeIn (parts_under L cells []) free → NamesOf y.formula.prefix x.numbers free
  named_by {free} counted = subst (λ (D : Prefix). NamesOf D x.numbers free) (ap (λ (z : Read). z.formula.prefix) y_is) names
    where
      s : AcceptedState L x
      s = valid_state cells literals v

      frees : free ≡ free_variables (prefix_in x)
      frees = counted (prefix_in x) s.numbers_shown s.quantified

      fit : free ≤ length (prefix_in x)
      fit = omega (arith, frees, free_fit (quantifiers (prefix_in x)), length-map (prefix_in x) (λ d. d.quantifier))

      names : NamesOf (prefix_in x) x.numbers free
      names =
          record {
            shown = s.numbers_shown;
            frees = frees;
            within = fit;
            named = omega (arith, fit, s.few, s.exact.numbers_room);
            few = omega (arith, frees, free_few y.formula facts, ap (λ (z : Read). free_variables z.formula.prefix) y_is);
          }

  pub names_read : (l : Layout) → l.numbers ≡ get_or cells 0 0 → l.clauses ≡ get_or cells 1 0 → (p : State) → p ≡ parts_under (limits_in l) cells [] → {free : ℕ} → FreeIn p free
      → NamesOf y.formula.prefix p.numbers free
  names_read l e f p laid {free} counted =
      subst (λ (z : State). FreeIn z free → NamesOf y.formula.prefix z.numbers free) (sym (laid ∙ (λ k. parts_under (own (e k) (f k)) cells []))) named_by counted
