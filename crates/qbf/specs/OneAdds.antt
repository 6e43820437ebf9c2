-- An exactly-one form and the rules that it stands for: the statement of the theorem in theory's proofs/OneAdds. Paper 02, wish 10.
use Rattle.std.specs.Prelude.{◌+◌, ◌≤◌, ◌≡◌, ◌↔◌, true, List, [], ◌∷◌, ◌++◌, length}
use Rattle.std.proofs.Math.Option.{none}
use Rattle.qbf.specs.Formula.{Literal, Node, Formula, all, satisfied}
use Rattle.qbf.specs.One.{OneTrue, one_forms, one_count}
use Rattle.qbf.specs.Calls.{rule_fault, with_rule, one_rules}

-- the formula after these forms, each added as a rule
abbrev pub after_rules : Formula → List (List Literal) → Formula
after_rules b [] = b
after_rules b (c ∷ cs) = after_rules (with_rule (rule_fault b c) b c) cs

-- each of them accepted
abbrev pub AllAccepted : Formula → List (List Literal) → Type 0
AllAccepted b [] = Unit {0}
AllAccepted b (c ∷ cs) = (rule_fault b c ≡ none) × AllAccepted (with_rule (rule_fault b c) b c) cs

-- an exactly-one form that is accepted: b before it, b' after it
pub record OneAdds (b b' : Formula) (ls : List Literal) : Type 0 where
  pub same_prefix : b'.prefix ≡ b.prefix
  pub added : b'.clauses ≡ b.clauses ++ one_rules b.prefix ls
  -- "20 counts them together"
  pub count : length b'.clauses ≡ length b.clauses + one_count (length ls)
  pub fits : length b'.clauses ≤ b.limits.clauses
  -- "It stands for the rule of all its literals, then one rule for each pair": one after the other these are all accepted, and give b'
  pub as_rules : AllAccepted b (one_forms ls) × (after_rules b (one_forms ls) ≡ b')
  -- "For all values given, the rules so added are all true exactly when one of the literals is true and every other is false"
  pub exactly : (s : Node) → length b.prefix ≤ length s → (all (satisfied b.prefix s) (one_rules b.prefix ls) ≡ true) ↔ OneTrue b.prefix s ls
  -- so b' has all of its clauses true where b has, and one of the literals is true and every other is false
  pub narrowed : (s : Node) → length b.prefix ≤ length s
      → (all (satisfied b.prefix s) b'.clauses ≡ true) ↔ ((all (satisfied b.prefix s) b.clauses ≡ true) × OneTrue b.prefix s ls)
