-- What the check of two lent tables that passes says of their state.
use Prim.Native.Nat.{ℕ, suc, ◌≤◌}
use native.Mathlib.Omega.{arith}
use mathlib.Core.Path.{◌≡◌, refl, sym, ap, subst, ◌∙◌}
use mathlib.Core.Bool.{Bool, true, false, cond, not, ◌&&◌}
use mathlib.Core.List.{List, [], ◌∷◌, ◌++◌}
use mathlib.Core.Option.{none, some}
use lib.Dec.{leb, eqb}
use lib.IntN.{ℤ}
use lib.ListN.{length, get_or}
use lib.Seq.{take_at}
use borrow.Author.Tests.{le-leb, leb-true}
use Rattle.qbf.specs.Formula.{Limits, Prefix, any}
use Rattle.qbf.specs.Calls.{numbers_are_ok, limits_are_ok}
use Rattle.theory.proofs.Basics.{and_left, and_right, and_both}
use Rattle.tables.specs.Views.{Numbers, Table}
use Rattle.state.specs.State.{State}
use Rattle.state.specs.Reading.{own, prefix_in, state_under, read_under, well_formed_read, roomy, valid_under, accepted}
use Rattle.state.specs.Derived.{Quantified, CheckedUnder}
use Rattle.state.proofs.Valid.{FactsUnder, checked_high, facts_under, valid_parts, rows_table, prefix_numbers, prefix_quantified}
use Rattle.state_parts.specs.Parts.{part, limits_of, by_number, parts_under, state_at, read_at, valid_at, CheckedAt, Whole, Exact}
use Rattle.state_parts.proofs.Written.{roomy_whole, whole_exact}

-- numbers within a limit are within a larger one
pub numbers_wider : (L M : Limits) → L.numbers ≤ M.numbers → (seen : List ℕ) (D : Prefix) → numbers_are_ok L seen D ≡ true → numbers_are_ok M seen D ≡ true
numbers_wider L M h seen [] e = e
numbers_wider L M h seen (d ∷ D) e =
    and_both (leb 1 n && leb n M.numbers && fresh) (numbers_are_ok M (n ∷ seen) D)
    (and_both (leb 1 n && leb n M.numbers) fresh (and_both (leb 1 n) (leb n M.numbers) (and_left (leb 1 n) (leb n L.numbers) low) (le-leb n M.numbers (omega (arith, leb-true n L.numbers (and_right (leb 1 n) (leb n L.numbers) low), h))))
    (and_right (leb 1 n && leb n L.numbers) fresh first))
    (numbers_wider L M h (n ∷ seen) D (and_right (leb 1 n && leb n L.numbers && fresh) (numbers_are_ok L (n ∷ seen) D) e))
  where
    n : ℕ
    n = d.number

    fresh : Bool
    fresh = not (any (eqb n) seen)

    first : (leb 1 n && leb n L.numbers && fresh) ≡ true
    first = and_left (leb 1 n && leb n L.numbers && fresh) (numbers_are_ok L (n ∷ seen) D) e

    low : (leb 1 n && leb n L.numbers) ≡ true
    low = and_left (leb 1 n && leb n L.numbers) fresh first

pub record AcceptedState (L : Limits) (x : State) : Type 0 where
  pub exact : Exact L x
  pub facts : FactsUnder L x
  pub numbers_shown : Numbers (prefix_in x) x.numbers
  pub quantified : Quantified (prefix_in x) x.levels x.kinds
  pub numbers_ok : numbers_are_ok L [] (prefix_in x) ≡ true
  pub few : length (prefix_in x) ≤ L.numbers
  pub clauses : Table L.literals L.clauses x.clauses x.clause_sizes
  pub learned_clauses : Table L.numbers L.constraints x.learned_clauses x.learned_clause_sizes
  pub learned_cubes : Table L.numbers L.constraints x.learned_cubes x.learned_cube_sizes

module _ (n m : ℕ) (cells : List ℕ) (literals : List ℤ) (e : accepted (own n m) (parts_under (own n m) cells literals) ≡ true) where
  abbrev L : Limits
  L = own n m

  abbrev x : State
  x = parts_under (own n m) cells literals

  valid : valid_under L x ≡ true
  valid = and_right (roomy L x) (valid_under L x) e

  pub accepted_whole : Whole L cells literals
  accepted_whole = roomy_whole L cells literals (and_left (roomy L x) (valid_under L x) e)

  pub accepted_state : AcceptedState L x
  accepted_state =
      let s : Exact L x = whole_exact L cells literals accepted_whole in
      let f : FactsUnder L x = facts_under n m x valid in
      let numbers = (valid_parts n m x valid).numbers_ok in
      record {
        exact = s;
        facts = f;
        numbers_shown = prefix_numbers x.numbers x.levels x.kinds;
        quantified = prefix_quantified x.numbers x.levels x.kinds L f.prefix_fits_lem;
        numbers_ok = and_right (leb (length (prefix_in x)) n) (numbers_are_ok L [] (prefix_in x)) numbers;
        few = leb-true (length (prefix_in x)) n (and_left (leb (length (prefix_in x)) n) (numbers_are_ok L [] (prefix_in x)) numbers);
        clauses = rows_table L.literals m x.clauses x.clause_sizes f.clauses_fit s.clauses_room (omega (arith, s.clause_sizes_room));
        learned_clauses =
            rows_table n L.constraints x.learned_clauses x.learned_clause_sizes f.learned_clauses_fit s.learned_clauses_room (omega (arith, s.learned_clause_sizes_room));
        learned_cubes =
            rows_table n L.constraints x.learned_cubes x.learned_cube_sizes f.learned_cubes_fit s.learned_cubes_room (omega (arith, s.learned_cube_sizes_room));
      }

-- ---- under its own limits
module _ (cells : List ℕ) (literals : List ℤ) where
  abbrev own_limits : Limits
  own_limits = limits_of cells

  abbrev state : State
  state = state_at cells literals

  pub read_roomy : roomy own_limits state ≡ true → read_at cells literals ≡ read_under own_limits state
  unfolding read_at
  read_roomy e = ap (λ (q : Bool). cond q (read_under own_limits state) none) e

  pub valid_at_lem : valid_at cells literals ≡ accepted own_limits state
  unfolding valid_at read_at valid_under
  valid_at_lem = by (roomy own_limits state)
    where
      by : (q : Bool) → well_formed_read (cond q (read_under own_limits state) none) ≡ (q && well_formed_read (read_under own_limits state))
      by true = refl
      by false = refl

  module _ (v : valid_at cells literals ≡ true) where
    pub valid_accepted : accepted own_limits state ≡ true
    valid_accepted = sym valid_at_lem ∙ v

    pub valid_whole : Whole own_limits cells literals
    valid_whole = accepted_whole (get_or cells 0 0) (get_or cells 1 0) cells literals valid_accepted

    pub valid_state : AcceptedState own_limits state
    valid_state = accepted_state (get_or cells 0 0) (get_or cells 1 0) cells literals valid_accepted

    pub valid_read : read_at cells literals ≡ some (state_under own_limits state)
    valid_read = read_roomy (and_left (roomy own_limits state) (valid_under own_limits state) valid_accepted) ∙ valid_state.facts.read

  -- ---- its check
  pub checked_at : {n m : ℕ} → n ≡ get_or cells 0 0 → m ≡ get_or cells 1 0 → {ok : Bool} {places kinds : List ℕ}
      → CheckedUnder (own n m) (parts_under (own n m) cells literals) ok (part 0 (suc n) places) (part 0 (suc n) kinds) → CheckedAt cells literals ok places kinds
  checked_at {n} {m} e f {ok} {places} {kinds} k =
      let c : CheckedUnder own_limits state ok (part 0 (by_number own_limits) places) (part 0 (by_number own_limits) kinds) =
      subst (λ (i : ℕ). CheckedUnder (own i (get_or cells 1 0)) (parts_under (own i (get_or cells 1 0)) cells literals) ok (part 0 (suc i) places) (part 0 (suc i) kinds)) e
      (subst (λ (j : ℕ). CheckedUnder (own n j) (parts_under (own n j) cells literals) ok (part 0 (suc n) places) (part 0 (suc n) kinds)) f k) in
      record { said = c.said ∙ sym valid_at_lem; placed = c.placed; kinded = c.kinded }

  -- the tables by number were the first cells of longer ones
  pub checked_cut : {n m : ℕ} → n ≡ get_or cells 0 0 → m ≡ get_or cells 1 0 → {ok : Bool} {ys zs : List ℕ} → CheckedUnder (own n m) (parts_under (own n m) cells literals) ok ys zs
      → length ys ≡ suc n → length zs ≡ suc n → (after rest : List ℕ) → CheckedAt cells literals ok (ys ++ after) (zs ++ rest)
  checked_cut {n} {m} e f {ok} {ys} {zs} k g h after rest =
      checked_at e f
      (subst (λ (ps : List ℕ). CheckedUnder (own n m) (parts_under (own n m) cells literals) ok ps (part 0 (suc n) (zs ++ rest))) (sym (take_at ys after (suc n) g))
      (subst (λ (qs : List ℕ). CheckedUnder (own n m) (parts_under (own n m) cells literals) ok ys qs) (sym (take_at zs rest (suc n) h)) k))

  -- "a state with higher ones is 22"
  pub checked_at_high : limits_are_ok own_limits ≡ false → (places kinds : List ℕ) → CheckedAt cells literals false places kinds
  checked_at_high e places kinds =
      let c = checked_high (get_or cells 0 0) (get_or cells 1 0) state e (part 0 (by_number own_limits) places) (part 0 (by_number own_limits) kinds) in
      record { said = c.said ∙ sym valid_at_lem; placed = c.placed; kinded = c.kinded }
