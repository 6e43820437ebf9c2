-- What a call may write of a state in two lent tables, whatever it answers. Every other cell stays as it was, also those outside the counts, on which no answer depends.
use Rattle.std.specs.Prelude.{ℕ, ◌≡◌, List, ℤ, drop}
use Rattle.qbf.specs.Formula.{Limits}
use Rattle.state.specs.State.{State}
use Rattle.state_parts.specs.Parts.{limits_of, cell_count, literal_count, state_at}

-- how much of a part: no cell of it; its count, which is the first cell; or any cell
pub data Extent : Type 0 where
  nothing count all : Extent

abbrev pub Stays : {A : Type 0} → Extent → List A → List A → Type 0
Stays nothing t t' = t' ≡ t
Stays count t t' = drop 1 t' ≡ drop 1 t
Stays all t t' = Unit {0}

-- how much of each part a call may write; no call writes the other three, which are the prefix
pub record Writes : Type 0 where
  pub clauses : Extent
  pub clause_sizes : Extent
  pub learned_clauses : Extent
  pub learned_clause_sizes : Extent
  pub learned_cubes : Extent
  pub learned_cube_sizes : Extent

-- ---- the calls, as the header has them (include/bullacetop.h, "What a call may write")
-- "rule and one, the rules with their count and lengths, and the count of the passes": "if accepted, all passes go and bars remain"
abbrev pub rule_writes : Writes
rule_writes =
    record { clauses = all; clause_sizes = all; learned_clauses = nothing; learned_clause_sizes = nothing; learned_cubes = nothing; learned_cube_sizes = count }

-- "withdraw, the count of the rules, and the bars with their count, lengths and records": "Passes remain valid and are kept."
abbrev pub withdraw_writes : Writes
withdraw_writes =
    record { clauses = nothing; clause_sizes = count; learned_clauses = all; learned_clause_sizes = all; learned_cubes = nothing; learned_cube_sizes = nothing }

-- "forget, the counts of bars and passes": "Forget empties the store."
abbrev pub forget_writes : Writes
forget_writes =
    record { clauses = nothing; clause_sizes = nothing; learned_clauses = nothing; learned_clause_sizes = count; learned_cubes = nothing; learned_cube_sizes = count }

-- "a search, bars and passes with their counts, lengths and records": "The store .. goes from call to call, changed only by that walk"
abbrev pub search_writes : Writes
search_writes =
    record { clauses = nothing; clause_sizes = nothing; learned_clauses = all; learned_clause_sizes = all; learned_cubes = all; learned_cube_sizes = all }

-- ---- what stays
-- the parts of the state, x as they were and x' as they are left
pub record StaysIn (w : Writes) (x x' : State) : Type 0 where
  pub numbers : x'.numbers ≡ x.numbers
  pub levels : x'.levels ≡ x.levels
  pub kinds : x'.kinds ≡ x.kinds
  pub clauses : Stays w.clauses x.clauses x'.clauses
  pub clause_sizes : Stays w.clause_sizes x.clause_sizes x'.clause_sizes
  pub learned_clauses : Stays w.learned_clauses x.learned_clauses x'.learned_clauses
  pub learned_clause_sizes : Stays w.learned_clause_sizes x.learned_clause_sizes x'.learned_clause_sizes
  pub learned_cubes : Stays w.learned_cubes x.learned_cubes x'.learned_cubes
  pub learned_cube_sizes : Stays w.learned_cube_sizes x.learned_cube_sizes x'.learned_cube_sizes

-- "cells behind the parts of a book are neither read nor written"
pub record BehindAt (L : Limits) (cells : List ℕ) (literals : List ℤ) (cells' : List ℕ) (literals' : List ℤ) : Type 0 where
  pub cells_behind : drop (cell_count L) cells' ≡ drop (cell_count L) cells
  pub literals_behind : drop (literal_count L) literals' ≡ drop (literal_count L) literals

-- a call that may write so much was made on two tables, and left them as given last: with the limits, the parts and what lies behind them this is every cell
pub record StaysAt (w : Writes) (cells : List ℕ) (literals : List ℤ) (cells' : List ℕ) (literals' : List ℤ) : Type 0 where
  pub limits : limits_of cells' ≡ limits_of cells
  pub parts : StaysIn w (state_at cells literals) (state_at cells' literals')
  pub behind : BehindAt (limits_of cells) cells literals cells' literals'
