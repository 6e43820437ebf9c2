-- The formula after a call is well formed.
use mathlib.Core.Path.{refl}
use Rattle.qbf.specs.Formula.{Formula}
use Rattle.qbf.specs.Calls.{Call, card, closest, forget, keep_card, next_formula, one, query, rule, rule_fault, withdraw, withdraw_fault}
use Rattle.theory.proofs.WellFormed.{FormulaFacts}
use Rattle.theory.proofs.AcceptedRule.{rule_formula}
use Rattle.theory.proofs.OneAdded.{one_formed}
use Rattle.theory.proofs.Withdrawn.{withdraw_formula}

pub next_formula_lem : (b : Formula) → FormulaFacts b → (c : Call) → FormulaFacts (next_formula b c)
next_formula_lem b h (rule ls) = rule_formula b ls h (rule_fault b ls) refl
next_formula_lem b h (query ceiling on off) = h
next_formula_lem b h (card ceiling size) = h
next_formula_lem b h forget = h
next_formula_lem b h (keep_card ceiling size) = h
next_formula_lem b h withdraw = withdraw_formula b h (withdraw_fault b)
next_formula_lem b h (one ls) = one_formed b h ls
next_formula_lem b h (closest ceiling size on off) = h
