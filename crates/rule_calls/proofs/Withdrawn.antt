-- What a withdrawal owes on a state of two tables that is valid.
use Prim.Native.Nat.{ℕ, suc, ◌+◌, ◌-◌}
use native.Mathlib.Omega.{arith}
use mathlib.Core.Path.{◌≡◌, sym, ap, subst, ◌∙◌}
use mathlib.Core.Bool.{Bool, true, ◌&&◌}
use mathlib.Core.List.{List, []}
use mathlib.Core.Option.{Option, none, some}
use lib.IntN.{ℤ}
use lib.Dec.{eqb}
use lib.ListN.{length, get_or, set}
use borrow.Author.Tests.{eq-eqb, ne_eqb}
use Rattle.qbf.specs.Formula.{Limits}
use Rattle.qbf.specs.Calls.{State as Read, withdraw, answer, rule_reply, given, withdraw_fault, without_last, standing, store_after_withdraw}
use Rattle.qbf.specs.Demands.{refusal_of}
use Rattle.theory.proofs.Basics.{and_both}
use Rattle.tables.specs.Views.{rows_of}
use Rattle.tables.proofs.Laws.{rows_length}
use Rattle.state.specs.State.{State}
use Rattle.state.specs.Reading.{own, rows_fit, prefix_fits, fits_under, records_of, prefix_in, formula_under, store_under, state_under}
use Rattle.state.proofs.Valid.{table_rows}
use Rattle.serving.specs.Serves.{Said, said, said_of}
use Rattle.state_parts.specs.Parts.{limits_of, clause_sizes_at, clause_count, state_at, valid_at}
use Rattle.state_parts.proofs.Cutting.{part_at}
use Rattle.state_parts.proofs.Accepted.{valid_whole, valid_state}
use Rattle.withdrawal.proofs.Shorter.{shorter_table, shorter_rows}
use Rattle.rule_calls.specs.ServesAt.{ServesAt}
use Rattle.rule_calls.specs.WithdrawnAt.{Learned, with_learned, WithdrawnAt}
use Rattle.rule_calls.proofs.Calls.{placed, served, unchanged}
use Rattle.rule_calls.proofs.Reading.{parts_read}

module _ (cells : List ℕ) (literals : List ℤ) (v : valid_at cells literals ≡ true) where
  abbrev L : Limits
  L = limits_of cells

  abbrev x : State
  x = state_at cells literals

  -- how many clauses stand
  abbrev pub stand : ℕ
  stand = get_or x.clause_sizes 0 0

  -- they are as many as the table counts
  fault_is : withdraw_fault (formula_under L x) ≡ given (eqb stand 0) 32
  fault_is = ap (λ (n : ℕ). given (eqb n 0) 32) (rows_length L.literals x.clauses x.clause_sizes stand)

  abbrev after : Option ℕ → Read
  after o = record { formula = without_last o (formula_under L x); store = store_after_withdraw o (length (formula_under L x).clauses - 1) (store_under L x) }

  -- "Withdrawing from a book without rules is 32 and changes nothing."
  none_to_withdraw : stand ≡ 0 → ServesAt cells literals withdraw (said (some 32) 0 0 0 []) cells literals
  none_to_withdraw e =
      let q : withdraw_fault (formula_under L x) ≡ some 32 = fault_is ∙ ap (λ (b : Bool). given b 32) (eq-eqb stand 0 e) in
      subst (λ (a : Said). ServesAt cells literals withdraw a cells literals) (ap (λ (o : Option ℕ). said_of (answer (rule_reply o) 0)) q) (unchanged cells literals withdraw v (ap after q))

  learned : Learned L cells literals
  learned = let z = valid_state cells literals v in record {
    whole = valid_whole cells literals v;
    room = record { table = z.learned_clauses; behind = omega (arith, z.exact.learned_clause_sizes_room) };
  }

  -- n remain
  module _ {n : ℕ} (is : stand ≡ suc n) {cells' : List ℕ} {literals' : List ℤ} (a : WithdrawnAt L cells literals n cells' literals') where
    abbrev y : State
    y = with_learned x n a.clauses a.sizes

    q : withdraw_fault (formula_under L x) ≡ none
    q = fault_is ∙ ap (λ (b : Bool). given b 32) (ne_eqb stand 0 (λ e. omega (arith, e, is)))

    still_fits : fits_under L y ≡ true
    still_fits =
        and_both (p && c && b) (rows_fit L.numbers L.constraints x.learned_cube_sizes)
        (and_both (p && c) b
        (and_both p c (valid_state cells literals v).facts.prefix_fits_lem (table_rows L.literals L.clauses x.clauses (set x.clause_sizes 0 n) (shorter_table L.literals L.clauses x.clauses x.clause_sizes (valid_state cells literals v).clauses n is)))
        (table_rows L.numbers L.constraints a.clauses a.sizes a.kept.room.table))
        (valid_state cells literals v).facts.learned_cubes_fit
      where
        p : Bool
        p = prefix_fits L x.numbers x.levels x.kinds

        c : Bool
        c = rows_fit L.literals L.clauses (set x.clause_sizes 0 n)

        b : Bool
        b = rows_fit L.numbers L.constraints a.sizes

    remain : n ≡ length (formula_under L x).clauses - 1
    remain = omega (arith, rows_length L.literals x.clauses x.clause_sizes stand, is)

    rows_left : rows_of L.literals x.clauses (set x.clause_sizes 0 n) ≡ (without_last none (formula_under L x)).clauses
    rows_left = shorter_rows L.literals L.clauses x.clauses x.clause_sizes (valid_state cells literals v).clauses n is

    clauses_left : rows_of L.numbers a.clauses a.sizes ≡ standing (length (formula_under L x).clauses - 1) (store_under L x).records (store_under L x).clauses
    clauses_left = a.kept.rows ∙ ap (λ (m : ℕ). standing m (store_under L x).records (store_under L x).clauses) remain

    records_left : records_of a.sizes ≡ standing (length (formula_under L x).clauses - 1) (store_under L x).records (store_under L x).records
    records_left = a.kept.records ∙ ap (λ (m : ℕ). standing m (store_under L x).records (store_under L x).records) remain

    reads : state_under L y ≡ after none
    reads = λ i. record {
      formula = record { limits = L; prefix = prefix_in x; clauses = rows_left i };
      store = record { clauses = clauses_left i; records = records_left i; cubes = (store_under L x).cubes };
    }

    withdrawn : ServesAt cells literals withdraw (said none 0 0 0 []) cells' literals'
    withdrawn =
        subst (λ (r : Said). ServesAt cells literals withdraw r cells' literals') (ap (λ (o : Option ℕ). said_of (answer (rule_reply o) 0)) q)
        (served cells literals withdraw v cells' literals'
        (parts_read L cells' literals' a.limits a.whole a.parts still_fits ∙ ap some (reads ∙ ap after (sym q)))
        (ap (λ (o : Option ℕ). refusal_of (rule_reply o)) q))

-- ---- as the limits and the count were read
module _ (cells : List ℕ) (literals : List ℤ) (v : valid_at cells literals ≡ true) {n m at count : ℕ} (is_n : n ≡ get_or cells 0 0) (is_m : m ≡ get_or cells 1 0) (is_at : at ≡ clause_sizes_at (own n m)) (is_count : count ≡ get_or cells at 0) where
  plain : clause_sizes_at (limits_of cells) ≡ clause_sizes_at (limits_of cells) + 0
  plain = omega arith

  count_is : count ≡ stand cells literals v
  count_is =
      is_count
      ∙ ap (λ (k : ℕ). get_or cells k 0) (placed cells clause_sizes_at is_n is_m is_at ∙ plain)
      ∙ sym (part_at (clause_sizes_at (limits_of cells)) (clause_count (limits_of cells)) cells 0 0 (omega arith))

  limits_are : own n m ≡ limits_of cells
  limits_are = λ i. own (is_n i) (is_m i)

  pub none_read : count ≡ 0 → ServesAt cells literals withdraw (said (some 32) 0 0 0 []) cells literals
  none_read e = none_to_withdraw cells literals v (sym count_is ∙ e)

  pub learned_read : Learned (own n m) cells literals
  learned_read = subst (λ (M : Limits). Learned M cells literals) (sym limits_are) (learned cells literals v)

  pub withdrawn_read : {r : ℕ} → count ≡ suc r → {cells' : List ℕ} {literals' : List ℤ} → WithdrawnAt (own n m) cells literals r cells' literals' → ServesAt cells literals withdraw (said none 0 0 0 []) cells' literals'
  withdrawn_read {r} e {cells'} {literals'} a =
      withdrawn cells literals v (sym count_is ∙ e) (subst (λ (M : Limits). WithdrawnAt M cells literals r cells' literals') limits_are a)
