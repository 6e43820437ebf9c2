-- Steps 1 to 4 at the start node, by the answers of the finders.
use mathlib.Core.Path.{◌≡◌, refl, sym, ◌∙◌}
use mathlib.Core.Bool.{Bool, true, false, cond, ◌||◌, true≢false, false≢true}
use mathlib.Core.List.{List, [], ◌∷◌}
use mathlib.Core.Option.{Option, none, some}
use lib.Dec.{leb}
use Rattle.qbf.specs.Formula.{Prefix, Clause, Node, any, all, dead, satisfied}
use Rattle.qbf.specs.Truth.{Outcome}
use Rattle.qbf.specs.Learning.{Constraint, first, lowest_dead, reduced_found, reduce, implicant, eligible_match, conclude_by}
use Rattle.theory.proofs.Basics.{→any}
use Rattle.theory.proofs.Sets.{Found}
use Rattle.theory.proofs.Lowest.{lowest_found}
use Rattle.search_start.specs.Match.{matching}
use Rattle.search_start.specs.Start.{is_no, is_yes, Starts, Concludes}
use Rattle.search_start.specs.declared.Start.TheVariants.{No, Yes, Open}

-- whether something was found
abbrev is_some : {A : Type 0} → Option A → Bool
is_some none = false
is_some (some x) = true

first_any : {A : Type 0} (f : A → Bool) (xs : List A) → is_some (first f xs) ≡ any f xs
first_any f [] = refl
first_any f (x ∷ xs) = by (f x) (first_any f xs)
  where
    by : (b : Bool) → is_some (first f xs) ≡ any f xs → is_some (cond b (some x) (first f xs)) ≡ (b || any f xs)
    by true e = refl
    by false e = e

found_any : {A : Type 0} (f : A → Bool) (xs : List A) (o : Option A) → Found f xs o → is_some o ≡ any f xs
found_any f xs none w = sym w
found_any f xs (some x) w = sym (→any f xs x w.0 w.1)

-- ---- the outcome, without its constraint
abbrev outcome_of : Option Constraint → Option Constraint → Option Constraint → Option Constraint → Option (Outcome Constraint)
outcome_of a b c d = conclude_by false a (conclude_by false b (conclude_by true c (conclude_by true d none)))

no_of : (a b c d : Option Constraint) → (is_some a || is_some b) ≡ true → Starts No (outcome_of a b c d)
no_of none none c d h = absurd (false≢true h)
no_of none (some e) c d h = (e, refl)
no_of (some e) b c d h = (e, refl)

yes_of : (a b c d : Option Constraint) → (is_some a || is_some b) ≡ false → (is_some c || is_some d) ≡ true → Starts Yes (outcome_of a b c d)
yes_of (some e) b c d g h = absurd (true≢false g)
yes_of none (some e) c d g h = absurd (true≢false g)
yes_of none none none none g h = absurd (false≢true h)
yes_of none none none (some e) g h = (e, refl)
yes_of none none (some e) d g h = (e, refl)

open_of : (a b c d : Option Constraint) → (is_some a || is_some b) ≡ false → (is_some c || is_some d) ≡ false → Starts Open (outcome_of a b c d)
open_of (some e) b c d g h = absurd (true≢false g)
open_of none (some e) c d g h = absurd (true≢false g)
open_of none none (some e) d g h = absurd (true≢false h)
open_of none none none (some e) g h = absurd (true≢false h)
open_of none none none none g h = refl

module _ (D : Prefix) (s : Node) (R : List Clause) (cs qs : List Constraint) where
  abbrev dead_one : Option Constraint
  dead_one = reduced_found D false (lowest_dead D s R)

  abbrev clause : Option Constraint
  clause = eligible_match D leb false s cs

  abbrev made : Option Constraint
  made = cond (all (satisfied D s) R) (some (reduce D true (implicant D s R []))) none

  abbrev cube : Option Constraint
  cube = eligible_match D leb true s qs

  reduced_some : (o : Option Constraint) → is_some (reduced_found D false o) ≡ is_some o
  reduced_some none = refl
  reduced_some (some e) = refl

  made_some : (b : Bool) → is_some (cond b (some (reduce D true (implicant D s R []))) none) ≡ b
  made_some true = refl
  made_some false = refl

  no_is : (is_some dead_one || is_some clause) ≡ is_no D s R cs
  no_is = λ i. (reduced_some (lowest_dead D s R) ∙ found_any (dead D s) R (lowest_dead D s R) (lowest_found D s R)) i || first_any (matching D false s) cs i

  yes_is : (is_some made || is_some cube) ≡ is_yes D s R qs
  yes_is = λ i. made_some (all (satisfied D s) R) i || first_any (matching D true s) qs i

  pub concludes_no : is_no D s R cs ≡ true → Concludes D s R cs qs No
  concludes_no h = no_of dead_one clause made cube (no_is ∙ h)

  module _ (g : is_no D s R cs ≡ false) where
    pub concludes_yes : is_yes D s R qs ≡ true → Concludes D s R cs qs Yes
    concludes_yes h = yes_of dead_one clause made cube (no_is ∙ g) (yes_is ∙ h)

    pub concludes_open : is_yes D s R qs ≡ false → Concludes D s R cs qs Open
    concludes_open h = open_of dead_one clause made cube (no_is ∙ g) (yes_is ∙ h)
