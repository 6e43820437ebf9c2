-- The plain search (the paper's plain walk), which learns nothing. Paper 01, "Plain walk".
use Rattle.std.specs.Prelude.{ℕ, suc, ◌+◌, Bool, true, false, List, [], ◌∷◌, ◌++◌}
use Rattle.qbf.specs.Formula.{Quantifier, free, exists, forall, is_exists, is_forall, Prefix, Clause, Node, ◌▹◌, any, all, satisfied, dead}
use Rattle.qbf.specs.Truth.{Verdict, Outcome, decided, mixed, decided_nodes}

pub record PlainResult : Type 0 where
  pub outcome : Outcome (Unit {0})
  pub visits : ℕ

-- Where one side is enough: "An exists node visits the off side and stops on Yes", "A forall node visits the off side and stops on No".
abbrev pub decides : Verdict → Quantifier → Bool
decides true κ = is_exists κ
decides false κ = is_forall κ

abbrev pub stops : Quantifier → Outcome (Unit {0}) → Bool
stops κ (decided v x) = decides v κ
stops κ (mixed ds) = false

-- "A flag node visits both: two Yes give Yes, two No give No, anything else Mixed."
abbrev pub both : Node → Outcome (Unit {0}) → Outcome (Unit {0}) → Outcome (Unit {0})
both s (decided true x) (decided true y) = decided true tt
both s (decided true x) (decided false y) = mixed (decided_nodes (s ▹ false) (decided true x) ++ decided_nodes (s ▹ true) (decided false y))
both s (decided true x) (mixed ds) = mixed (decided_nodes (s ▹ false) (decided true x) ++ ds)
both s (decided false x) (decided true y) = mixed (decided_nodes (s ▹ false) (decided false x) ++ decided_nodes (s ▹ true) (decided true y))
both s (decided false x) (decided false y) = decided false tt
both s (decided false x) (mixed ds) = mixed (decided_nodes (s ▹ false) (decided false x) ++ ds)
both s (mixed ds) o = mixed (ds ++ decided_nodes (s ▹ true) o)

-- what the two sides give: both at a free variable; elsewhere "the on side decides"
abbrev pub by_sides : Quantifier → Node → Outcome (Unit {0}) → Outcome (Unit {0}) → Outcome (Unit {0})
by_sides free s a b = both s a b
by_sides exists s a b = b
by_sides forall s a b = b

-- the off side gave the outcome o in n visits; it decides alone (true), or the on side is visited
abbrev pub plain_after_off : Bool → Quantifier → (Node → PlainResult) → Node → Outcome (Unit {0}) → ℕ → PlainResult
plain_after_off true κ f s o n = record { outcome = o; visits = suc n }
plain_after_off false κ f s o n =
    let q = f (s ▹ true) in
    record { outcome = by_sides κ s o q.outcome; visits = suc (n + q.visits) }

-- "Else the next place decides, off first."
abbrev pub plain_branch : Quantifier → (Node → PlainResult) → Node → PlainResult
plain_branch κ f s =
    let r = f (s ▹ false) in
    plain_after_off (stops κ r.outcome) κ f s r.outcome r.visits

-- "A visit counts one. If a rule is dead: No. Else if every rule is satisfied: Yes."
abbrev pub plain_settle : Bool → Bool → (Node → PlainResult) → Node → PlainResult
plain_settle true satisfied next s = record { outcome = decided false tt; visits = 1 }
plain_settle false true next s = record { outcome = decided true tt; visits = 1 }
plain_settle false false next s = next s

module _ (D : Prefix) (R : List Clause) where
  abbrev pub plain_visit : (Node → PlainResult) → Node → PlainResult
  plain_visit next s = plain_settle (any (dead D s) R) (all (satisfied D s) R) next s

  -- The search from a node with the places of the list left. With none left a clause is dead or all are satisfied, so that
  -- what the first line goes on to is never reached.
  abbrev pub plain_search : List Quantifier → Node → PlainResult
  plain_search [] = plain_visit (λ s. record { outcome = decided false tt; visits = 1 })
  plain_search (κ ∷ ks) = plain_visit (plain_branch κ (plain_search ks))
