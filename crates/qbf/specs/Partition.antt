-- Both cards of a formula together: each reading on exactly one line, and the readings counted. Paper 02, wish 7.
use Rattle.std.specs.Prelude.{ℕ, zero, suc, ◌+◌, ◌-◌, ◌^◌, ◌≡◌, ◌⊎◌, Bool, true, false, cond, List, [], ◌∷◌, ◌++◌, map, length}
use Rattle.std.proofs.Math.Option.{Option, none, some}
use Rattle.qbf.specs.Formula.{Formula, Node}
use Rattle.qbf.specs.Card.{Mem, lies_on}
use Rattle.qbf.specs.Calls.{Call, rule, query, card, forget, withdraw, keep_card, one, closest, rule_fault, withdraw_fault, one_fault}

-- all full readings of f free variables
abbrev pub readings : ℕ → List Node
readings zero = [] ∷ []
readings (suc f) = map (λ t. false ∷ t) (readings f) ++ map (λ t. true ∷ t) (readings f)

-- how many of them lie on a line
abbrev pub count_on : Node → List Node → ℕ
count_on s [] = 0
count_on s (t ∷ ts) = cond (lies_on s t) (suc (count_on s ts)) (count_on s ts)

-- "The readings covered by a line number 2 to the power of its open flags": added over the lines
abbrev pub covered : ℕ → List Node → ℕ
covered f [] = 0
covered f (s ∷ ls) = 2 ^ (f - length s) + covered f ls

-- a line of one of the two cards
abbrev pub OnEither : Node → List Node → List Node → Type 0
OnEither s ls ks = Mem s ls ⊎ Mem s ks

-- "each reading lies on exactly one line of one of the two. The readings covered by a line number 2 to the power of its open flags. Added
-- over both cards these give 2 to the power f."
pub record Partition (f : ℕ) (ls ks : List Node) : Type 0 where
  pub some_line : (t : Node) → length t ≡ f → (s : Node) × OnEither s ls ks × (lies_on s t ≡ true)
  pub one_line : (t s u : Node) → OnEither s ls ks → OnEither u ls ks → lies_on s t ≡ true → lies_on u t ≡ true → s ≡ u
  pub one_card : (t s u : Node) → length t ≡ f → Mem s ls → Mem u ks → lies_on s t ≡ true → lies_on u t ≡ true → ⊥
  pub line_count : (s : Node) → OnEither s ls ks → count_on s (readings f) ≡ 2 ^ (f - length s)
  pub sum : covered f ls + covered f ks ≡ 2 ^ f

-- "with queries, but no added or withdrawn rule, between them": what leaves the clauses of b, a refused rule or withdrawal too
abbrev pub is_refused : Option ℕ → Bool
is_refused none = false
is_refused (some n) = true

abbrev pub keeps_clauses : Formula → Call → Bool
keeps_clauses b (rule ls) = is_refused (rule_fault b ls)
keeps_clauses b (query ceiling on off) = true
keeps_clauses b (card ceiling size) = true
keeps_clauses b forget = true
keeps_clauses b withdraw = is_refused (withdraw_fault b)
keeps_clauses b (keep_card ceiling size) = true
keeps_clauses b (one ls) = is_refused (one_fault b ls)
keeps_clauses b (closest ceiling size on off) = true
