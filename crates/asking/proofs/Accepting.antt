-- A state that was checked: what a search asks of its tables, and what it is as the definitions have it.
use Prim.Native.Nat.{ℕ, suc, ◌+◌, ◌*◌, ◌≤◌, ◌<◌}
use native.Mathlib.Omega.{arith}
use mathlib.Core.Path.{◌≡◌, sym, ap, ◌∙◌}
use mathlib.Core.Bool.{true}
use mathlib.Core.List.{List, []}
use lib.ListN.{length, get_or, length-map}
use lib.Dec.{leb}
use lib.IntN.{ℤ}
use borrow.Author.Tests.{le-leb, leb-true}
use Rattle.qbf.specs.Formula.{Limits, paper, highest, most_free, Prefix, Clause, quantifiers, all}
use Rattle.qbf.specs.Truth.{free_variables}
use Rattle.qbf.specs.Calls.{numbers_are_ok, free_first, clause_ok}
use Rattle.theory.proofs.Basics.{and_left, and_right, and_both}
use Rattle.theory.proofs.Starting.{free_fit}
use Rattle.theory.proofs.WellFormed.{StateFacts, state_facts, shaped_store, free_few}
use Rattle.tables.specs.Views.{Numbers}
use Rattle.inner.specs.Formed.{Formed}
use Rattle.lent_rows.specs.Held.{Held}
use Rattle.tables.proofs.Laws.{before}
use Rattle.state.specs.State.{State}
use Rattle.state.specs.Reading.{own, at_most, entry_at, entries, rows_fit, prefix_in, formula_under, store_under, state_under, valid_under, roomy, accepted}
use Rattle.state.specs.Derived.{Quantified, Roomy}
use Rattle.state.proofs.Listing.{listing_all}
use Rattle.state.proofs.Rooms.{room_facts}
use Rattle.state.proofs.Valid.{FactsUnder, facts_under, prefix_numbers, prefix_quantified}
use Rattle.state_parts.proofs.Accepted.{numbers_wider}

-- rows that fit, in a table with room for them
pub fit_held : (w cap most : ℕ) (flat : List ℤ) (sizes : List ℕ) → rows_fit w cap sizes ≡ true → cap ≤ most → cap * w ≤ length flat → suc cap ≤ length sizes → Held w most flat sizes
fit_held w cap most flat sizes e h room counted =
    record {
      counted = omega (arith, few, counted);
      few = omega (arith, few, h);
      short = short;
      inside = λ k low. omega (arith, short k low, before w k cap (omega (arith, low, few)), room);
    }
  where
    few : get_or sizes 0 0 ≤ cap
    few = leb-true (get_or sizes 0 0) cap (and_left (leb (get_or sizes 0 0) cap) (at_most w (entries sizes)) e)

    short : (k : ℕ) → k < get_or sizes 0 0 → get_or sizes (suc k) 0 ≤ w
    short k low =
        let q : 0 + k ≡ k = omega arith in
        leb-true (entry_at sizes k) w
        (ap (λ (i : ℕ). leb (entry_at sizes i) w) (sym q) ∙ listing_all (λ i. leb i w) (entry_at sizes) 0 (get_or sizes 0 0) (and_right (leb (get_or sizes 0 0) cap) (at_most w (entries sizes)) e) k low)

module _ (n m : ℕ) (x : State) (e : accepted (own n m) x ≡ true) (low : n ≤ highest.numbers) (few_clauses : m ≤ highest.clauses) where
  abbrev L : Limits
  L = own n m

  abbrev D : Prefix
  D = prefix_in x

  abbrev R : List Clause
  R = (formula_under L x).clauses

  pub room : Roomy L x
  room = room_facts L x (and_left (roomy L x) (valid_under L x) e)

  pub facts : FactsUnder L x
  facts = facts_under n m x (and_right (roomy L x) (valid_under L x) e)

  pub good : StateFacts (state_under L x)
  good = state_facts (state_under L x) facts.formed

  pub numbers_shown : Numbers D x.numbers
  numbers_shown = prefix_numbers x.numbers x.levels x.kinds

  pub quantified : Quantified D x.levels x.kinds
  quantified = prefix_quantified x.numbers x.levels x.kinds L facts.prefix_fits_lem

  pub few_numbers : get_or x.numbers 0 0 ≤ n
  few_numbers = leb-true (get_or x.numbers 0 0) n (and_left (leb (get_or x.numbers 0 0) n) _ facts.prefix_fits_lem)

  pub numbers_low : get_or x.numbers 0 0 ≤ highest.numbers
  numbers_low = omega (arith, few_numbers, low)

  pub clauses_held : Held paper.literals highest.clauses x.clauses x.clause_sizes
  clauses_held = fit_held paper.literals m highest.clauses x.clauses x.clause_sizes facts.clauses_fit few_clauses room.clauses_room room.clause_sizes_room

  pub learned_held : Held n paper.constraints x.learned_clauses x.learned_clause_sizes
  learned_held =
      fit_held n paper.constraints paper.constraints x.learned_clauses x.learned_clause_sizes facts.learned_clauses_fit (omega arith) room.learned_clauses_room
      (omega (arith, room.learned_clause_sizes_room))

  pub cubes_held : Held n paper.constraints x.learned_cubes x.learned_cube_sizes
  cubes_held = fit_held n paper.constraints paper.constraints x.learned_cubes x.learned_cube_sizes facts.learned_cubes_fit (omega arith) room.learned_cubes_room room.learned_cube_sizes_room

  -- well formed under the search's limits
  pub formed : Formed D R (store_under L x)
  formed =
      let f = good.formula_ok in
      record {
        prefix_ok =
            and_both (numbers_are_ok highest [] D) (free_first (quantifiers D)) (numbers_wider L highest low [] D (and_left (numbers_are_ok L [] D) (free_first (quantifiers D)) f.prefix_ok))
            (and_right (numbers_are_ok L [] D) (free_first (quantifiers D)) f.prefix_ok);
        free_ok = f.free_ok;
        clauses_ok =
            and_both (leb (length R) highest.clauses) (all (clause_ok highest D) R)
            (le-leb (length R) highest.clauses (omega (arith, few_clauses, leb-true (length R) m (and_left (leb (length R) m) (all (clause_ok L D) R) f.clauses_ok))))
            (and_right (leb (length R) m) (all (clause_ok L D) R) f.clauses_ok);
        store_ok = shaped_store L D (store_under L x) good.store_ok;
      }

  -- ---- the free variables
  module _ {free : ℕ} (frees : free ≡ free_variables D) where
    pub free_small : free ≤ most_free
    free_small = omega (arith, frees, free_few (state_under L x).formula good.formula_ok)

    pub free_within : free ≤ get_or x.numbers 0 0
    free_within = omega (arith, frees, numbers_shown.count, free_fit (quantifiers D), length-map D (λ d. d.quantifier))
