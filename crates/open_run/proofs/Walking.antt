-- The search on the tables of a formula: what its parts show, and the empty node by its tests.
use Prim.Native.Nat.{ℕ, zero, suc, ◌-◌, ◌≤◌}
use native.Mathlib.Omega.{arith}
use mathlib.Core.Path.{◌≡◌, refl, sym, ap, ◌∙◌, subst}
use mathlib.Core.Bool.{true}
use mathlib.Core.List.{List, []}
use lib.ListN.{length, get_or, replicate}
use lib.IntN.{ℤ}
use lib.Dec.{leb}
use Rattle.qbf.specs.Formula.{paper, highest, Prefix, quantifiers, any, all, dead, satisfied, place_of, value_at}
use Rattle.qbf.specs.Calls.{numbers_are_ok, free_first}
use Rattle.qbf.specs.Open.{Reading}
use Rattle.theory.proofs.Basics.{and_left}
use Rattle.theory.proofs.Starting.{free_kind}
use Rattle.tables.specs.Views.{Numbers, Places, Kinds, Values, value_code}
use Rattle.tables.specs.Codes.{Quantified}
use Rattle.tables.specs.Formed.{clauses_of}
use Rattle.tables.specs.Matrices.{MatrixShown, words_of}
use Rattle.tables.specs.Sets.{ClauseSets}
use Rattle.tables.proofs.Laws.{rows_length}
use Rattle.clause_sets.proofs.Descending.{rows_start}
use Rattle.coding.proofs.Placewise.{zeros}
use Rattle.loading_start.specs.Started.{FirstRow}
use Rattle.reading.specs.Placed.{Placed}
use Rattle.reading.proofs.Placing.{placed_reading}
use Rattle.node.specs.declared.Verdict.TheVariants.{Yes, No, Mixed}
use Rattle.search_start.specs.declared.Start.{Start}
use Rattle.search_start.specs.declared.Start.TheVariants as start
use Rattle.open_search.specs.Searching.{Task, Followed}
use Rattle.open_search.specs.declared.verdicts.Finding.{Finding}
use Rattle.open_search.proofs.Budgets.{finding, answer_as}
use Rattle.open_search.proofs.Visiting.{visit_stopped, visit_no, visit_yes}
use Rattle.open_run.specs.OpenRun.{Tested, AtEmpty, Below, Shown, Searched, Walked}

-- ---- the empty node
-- a table of open marks shows it
pub open_values : (D : Prefix) (n : ℕ) → Values D [] (replicate n 0)
open_values D n = record { at = λ i. zeros n i ∙ sym (nothing (place_of D i)) }
  where
    nothing : (p : ℕ) → ◌≡◌ {A = ℕ} (value_code (value_at [] p)) 0
    nothing zero = refl
    nothing (suc i) = refl

-- ---- below it
pub below_found : {sets kinds recorded sat sat' : List ℕ} (count budget : ℕ) {words : ℕ} (r : Finding) → words ≡ words_of count → FirstRow count words sat sat'
    → Followed 0 words budget r sets kinds recorded sat' → Below sets count kinds recorded budget r
below_found {sets} {kinds} {recorded} {sat} {sat'} count budget {words} r is row follow = record {
  found = λ D R os task counted alive unsatisfied.
      follow.result D R os []
      (subst (λ (w : ℕ). Task D R os w sets kinds recorded) (sym is) task)
      (record {
        long = refl;
        within = omega arith;
        alive = alive;
        unsatisfied = unsatisfied;
        known = rows_start [] sat' (λ i m. row.row i m ∙ ap (λ (n : ℕ). leb n i) (sym counted));
      });
}

-- ---- the reading is one of free variables
module _ {numbers : List ℕ} {clauses : List ℤ} {sizes places kinds values : List ℕ} {count : ℕ} where
  -- ---- the tables that are derived
  module _ {qs rows sets recorded : List ℕ} (cells last n : ℕ)
      (coded : (D : Prefix) → Numbers D numbers → Kinds D kinds → numbers_are_ok highest [] D ≡ true → Quantified D qs)
      (loaded : (D : Prefix) → Places D places → Quantified D qs → length D ≤ last → MatrixShown D (clauses_of clauses sizes) (words_of (get_or sizes 0 0)) rows sets)
      (all_places : last ≡ get_or numbers 0 0) (put : Placed values numbers count (replicate cells 0) recorded) (all_clauses : n ≡ get_or sizes 0 0) where
    task : (D : Prefix) (os : Reading) → Shown D os numbers clauses sizes places kinds values count → Task D (clauses_of clauses sizes) os (words_of n) sets qs recorded
    task D os shown =
        let q = coded D shown.numbered shown.kinded (and_left (numbers_are_ok highest [] D) (free_first (quantifiers D)) shown.formed.prefix_ok) in
        let m = loaded D shown.placed q (omega (arith, all_places, shown.numbered.count)) in
        record {
          formed = shown.formed;
          quantified = q;
          by_code = subst (λ (k : ℕ). ClauseSets D (clauses_of clauses sizes) (words_of k) sets) (sym all_clauses) m.by_code;
          reads = record {
            at = λ p h.
                placed_reading highest D shown.formed.prefix_ok numbers shown.numbered os (shown.long ∙ shown.counted) values shown.recorded (replicate cells 0) recorded (zeros cells)
                (subst (λ (k : ℕ). Placed values numbers k (replicate cells 0) recorded) shown.counted put) p;
          };
          frees = λ i h. free_kind (quantifiers D) i (omega (arith, h, shown.long, shown.counted));
        }

    pub searched_found : {budget : ℕ} (r : Finding) → Below sets n qs recorded budget r → Searched numbers clauses sizes places kinds values count budget r
    searched_found {budget} r below = record {
      found = λ D os shown alive unsatisfied.
          below.found D (clauses_of clauses sizes) os (task D os shown) (rows_length paper.literals clauses sizes (get_or sizes 0 0) ∙ sym all_clauses) alive unsatisfied;
    }

-- what the tests say of the empty node
by_tests : {clauses : List ℤ} {sizes kinds : List ℕ} {t : Start} → AtEmpty clauses sizes kinds t → (l : Start) → t ≡ l → (D : Prefix) → Kinds D kinds
    → Tested l (any (dead D []) (clauses_of clauses sizes)) (all (satisfied D []) (clauses_of clauses sizes))
by_tests {clauses} {sizes} {kinds} tests l e D k = subst (λ (x : Start). Tested x (any (dead D []) (clauses_of clauses sizes)) (all (satisfied D []) (clauses_of clauses sizes))) e (tests.tests D k)

module _ {numbers : List ℕ} {clauses : List ℤ} {sizes places kinds values : List ℕ} {count budget : ℕ} where
  -- ---- the empty node's own visit
  pub walked_stopped : (r : Finding) → budget ≤ 1 → r ≡ finding Mixed 0 → Walked numbers clauses sizes places kinds values count budget r
  walked_stopped r few e = record { found = λ D os shown. answer_as e refl (visit_stopped D (clauses_of clauses sizes) os 0 [] budget Mixed few) }

  module _ {t : Start} (tests : AtEmpty clauses sizes kinds t) where
    pub walked_no : t ≡ start.No → (r : Finding) {m : ℕ} → r ≡ finding No m → m ≡ budget - 1 → Walked numbers clauses sizes places kinds values count budget r
    walked_no is r e q = record { found = λ D os shown. answer_as e q (visit_no D (clauses_of clauses sizes) os 0 [] budget (by_tests tests start.No is D shown.kinded)) }

    pub walked_yes : t ≡ start.Yes → (r : Finding) {m : ℕ} → r ≡ finding Yes m → m ≡ budget - 1 → Walked numbers clauses sizes places kinds values count budget r
    walked_yes is r e q = record {
      found = λ D os shown.
          let w = by_tests tests start.Yes is D shown.kinded in
          answer_as e q (visit_yes D (clauses_of clauses sizes) os 0 [] budget w.0 w.1);
    }

    pub walked_open : t ≡ start.Open → (r : Finding) → Searched numbers clauses sizes places kinds values count budget r → Walked numbers clauses sizes places kinds values count budget r
    walked_open is r below = record {
      found = λ D os shown.
          let w = by_tests tests start.Open is D shown.kinded in
          below.found D os shown w.0 w.1;
    }
