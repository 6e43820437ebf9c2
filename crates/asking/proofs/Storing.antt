-- What is learned, written back from the shelves: the tables hold the store that the shelves have.
use Prim.Native.Nat.{ℕ, ◌≤◌}
use native.Mathlib.Omega.{arith}
use mathlib.Core.Path.{◌≡◌, sym, ap, ◌∙◌, subst}
use mathlib.Core.Bool.{Bool, true, false, cond, ◌&&◌}
use mathlib.Core.List.{List, []}
use mathlib.Core.Option.{some, none}
use lib.ListN.{length, get_or}
use lib.Dec.{leb}
use lib.IntN.{ℤ}
use borrow.Author.Tests.{le-leb, leb-true}
use Rattle.qbf.specs.Formula.{Limits, paper, highest, Prefix, Literal, place}
use Rattle.qbf.specs.Learning.{Constraint, Store, constraints}
use Rattle.qbf.specs.Card.{Mem}
use Rattle.qbf.specs.Calls.{numbers_are_ok}
use Rattle.theory.proofs.Basics.{and_left, and_both}
use Rattle.theory.proofs.Game.{rising_above}
use Rattle.theory.proofs.Stores.{ShapedStore}
use Rattle.theory.proofs.WellFormed.{store_shaped}
use Rattle.tables.proofs.Laws.{rows_length}
use Rattle.lent_rows.specs.Held.{Held}
use Rattle.state.specs.State.{State}
use Rattle.state.specs.Reading.{own, at_most, entry_at, entries, rows_fit, prefix_fits, fits_under, records_of, prefix_in, formula_under, store_from, state_under, read_under, accepted}
use Rattle.state.proofs.Listing.{listing_most}
use Rattle.shelf.specs.Standing.{newest}
use Rattle.search_entry.specs.declared.Learned.{Learned}
use Rattle.unloading.specs.Written.{Narrow, Recorded}
use Rattle.unloading.proofs.Unloading.{constraints_narrow}
use Rattle.asking.specs.Answered.{Shelved}
use Rattle.asking.specs.Stored.{with_learned, ClausesStored, CubesStored}
use Rattle.asking.proofs.Accepting.{facts, good, numbers_shown, formed}
use Rattle.asking.proofs.Records.{records_length, records_back}

module _ (n m : ℕ) (x : State) (acc : accepted (own n m) x ≡ true) (low : n ≤ highest.numbers) (few_clauses : m ≤ highest.clauses) (z : Store) (l : Learned) (s : Shelved (own n m) x z l) where
  abbrev L : Limits
  L = own n m

  abbrev D : Prefix
  D = prefix_in x

  shaped : ShapedStore L D z
  shaped = store_shaped L D z s.formed

  own_numbers : numbers_are_ok L [] D ≡ true
  own_numbers = and_left (numbers_are_ok L [] D) _ (good n m x acc low few_clauses).formula_ok.prefix_ok

  high_numbers : numbers_are_ok highest [] D ≡ true
  high_numbers = and_left (numbers_are_ok highest [] D) _ (formed n m x acc low few_clauses).prefix_ok

  -- no row that stands on a shelf has more codes than the state has numbers
  pub clauses_narrow : Narrow n l.clauses.cells.now l.clauses.links.now
  clauses_narrow = constraints_narrow l.clauses.cells.now l.clauses.links.now L D z.clauses s.kept.shown.clauses own_numbers (λ e i. (shaped.each false e i).rising)

  pub cubes_narrow : Narrow n l.cubes.cells.now l.cubes.links.now
  cubes_narrow = constraints_narrow l.cubes.cells.now l.cubes.links.now L D z.cubes s.kept.shown.cubes own_numbers (λ e i. (shaped.each true e i).rising)

  declared : (v : Bool) (e : Constraint) → Mem e (constraints v z) → (k : Literal) → Mem k e → 1 ≤ place D k
  declared v e i k h = rising_above D 0 e (shaped.each v e i).rising k h

  -- what was written
  module _ {lc : List ℤ} {lcs : List ℕ} {lq : List ℤ} {lqs : List ℕ} {count : ℕ} (counted : count ≡ get_or x.clause_sizes 0 0)
      (c : ClausesStored n l.clauses x.numbers count x.learned_clauses x.learned_clause_sizes lc lcs) (q : CubesStored n l.cubes x.numbers x.learned_cubes x.learned_cube_sizes lq lqs)
    where
      stand : length (formula_under L x).clauses ≡ get_or x.clause_sizes 0 0
      stand = rows_length paper.literals x.clauses x.clause_sizes (get_or x.clause_sizes 0 0)

      few_learned : get_or x.learned_clause_sizes 0 0 ≤ paper.constraints
      few_learned =
          leb-true (get_or x.learned_clause_sizes 0 0) paper.constraints
          (and_left (leb (get_or x.learned_clause_sizes 0 0) paper.constraints) (at_most n (entries x.learned_clause_sizes)) (facts n m x acc low few_clauses).learned_clauses_fit)

      written : records_of lcs ≡ z.records
      written =
          records_back x.learned_clause_sizes lcs (newest l.clauses) (length (formula_under L x).clauses) few_learned
          (omega (arith, s.kept.since, records_length x.learned_clause_sizes))
          (subst (λ (i : ℕ). Recorded x.learned_clause_sizes (newest l.clauses) i lcs) (counted ∙ sym stand) c.recorded)
          ∙ sym s.kept.records

      same : store_from n lc lcs lq lqs ≡ z
      same i =
          record {
            clauses = c.stored.rows_are D z.clauses (numbers_shown n m x acc low few_clauses) high_numbers s.kept.shown.clauses (declared false) i;
            records = written i;
            cubes = q.rows_are D z.cubes (numbers_shown n m x acc low few_clauses) high_numbers s.kept.shown.cubes (declared true) i;
          }

      rows_fit_by : {f : List ℤ} {g : List ℕ} → Held n paper.constraints f g → rows_fit n paper.constraints g ≡ true
      rows_fit_by {f} {g} h =
          and_both (leb (get_or g 0 0) paper.constraints) (at_most n (entries g)) (le-leb (get_or g 0 0) paper.constraints h.few)
          (listing_most n (entry_at g) 0 (get_or g 0 0) (λ j a b. h.short j (omega (arith, b))))

      abbrev p : Bool
      p = prefix_fits L x.numbers x.levels x.kinds

      abbrev a : Bool
      a = rows_fit paper.literals m x.clause_sizes

      fits : fits_under L (with_learned x lc lcs lq lqs) ≡ true
      fits =
          let f = facts n m x acc low few_clauses in
          and_both (p && a && rows_fit n paper.constraints lcs) (rows_fit n paper.constraints lqs)
          (and_both (p && a) (rows_fit n paper.constraints lcs) (and_both p a f.prefix_fits_lem f.clauses_fit) (rows_fit_by c.stored.held)) (rows_fit_by q.held)

      -- the state then reads as the definitions' with that store
      pub stored_back : read_under L (with_learned x lc lcs lq lqs) ≡ some (record { formula = formula_under L x; store = z })
      unfolding read_under
      stored_back =
          ap (λ (b : Bool). cond b (some (state_under L (with_learned x lc lcs lq lqs))) none) fits
          ∙ ap (λ (y : Store). some (record { formula = formula_under L x; store = y })) same
