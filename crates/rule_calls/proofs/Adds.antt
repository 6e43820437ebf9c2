-- What a call owes that adds the clauses of a rule or of an exactly-one form, on a state of two tables that is valid.
use Prim.Native.Nat.{ℕ, ◌+◌, ◌≤◌}
use native.Mathlib.Omega.{arith}
use mathlib.Core.Path.{◌≡◌, refl, sym, ap, subst, ◌∙◌}
use mathlib.Core.Bool.{Bool, true, ◌&&◌}
use mathlib.Core.List.{List, [], ◌++◌, map}
use mathlib.Core.Option.{Option, none, some}
use lib.IntN.{ℤ}
use lib.ListN.{get_or, set}
use lib.Seq.{get_or-set_same}
use Rattle.qbf.specs.Formula.{Limits, Prefix, Literal}
use Rattle.qbf.specs.Calls.{Call, State as Read, Answer, answer, rule_reply, clause_of, store_after_rule, guarded}
use Rattle.qbf.specs.Demands.{refusal_of}
use Rattle.theory.proofs.Basics.{and_both}
use Rattle.tables.specs.Views.{Places}
use Rattle.state.specs.State.{State}
use Rattle.state.specs.Reading.{own, rows_fit, prefix_fits, fits_under, prefix_in, formula_under, store_under, state_under}
use Rattle.state.proofs.Valid.{table_rows}
use Rattle.serving.specs.Serves.{Said, said, said_of}
use Rattle.state_parts.specs.Parts.{part, limits_of, by_number, clause_sizes_at, clause_count, state_at, valid_at, CheckedAt}
use Rattle.state_parts.proofs.Cutting.{part_at}
use Rattle.state_parts.proofs.Accepted.{valid_whole, valid_state}
use Rattle.rule_calls.specs.ServesAt.{ServesAt}
use Rattle.rule_calls.specs.AddedAt.{Room, with_clauses, AddedAt}
use Rattle.rule_calls.proofs.Calls.{placed, served, unchanged}
use Rattle.rule_calls.proofs.Emptied.{none_fit, none_stand}
use Rattle.rule_calls.proofs.Reading.{parts_read}

-- ---- a call with the fault o, or else the clauses of these forms more and no cube
module _ (cells : List ℕ) (literals : List ℤ) (c : Call) (cs : List (List Literal)) where
  abbrev L : Limits
  L = limits_of cells

  abbrev x : State
  x = state_at cells literals

  abbrev pub after : Option ℕ → Read
  after none =
      record {
        formula = record { limits = L; prefix = prefix_in x; clauses = (formula_under L x).clauses ++ map (clause_of (prefix_in x)) cs };
        store = store_after_rule none (store_under L x);
      }
  after (some n) = state_under L x

  pub record Adds (o : Option ℕ) : Type 0 where
    pub state : (guarded true (state_under L x) c).state ≡ after o
    pub out : (guarded true (state_under L x) c).out ≡ answer (rule_reply o) 0

  module _ {o : Option ℕ} (adds : Adds o) (v : valid_at cells literals ≡ true) where
    said_is : (p : Option ℕ) → o ≡ p → said_of (guarded true (state_under L x) c).out ≡ said_of (answer (rule_reply p) 0)
    said_is p q = ap said_of adds.out ∙ ap (λ (k : Option ℕ). said_of (answer (rule_reply k) 0)) q

    pub adds_refused : (r : ℕ) → o ≡ some r → ServesAt cells literals c (said (some r) 0 0 0 []) cells literals
    adds_refused r q = subst (λ (a : Said). ServesAt cells literals c a cells literals) (said_is (some r) q) (unchanged cells literals c v (adds.state ∙ ap after q))

    module _ (q : o ≡ none) {places : List ℕ} (shown : Places (prefix_in x) places) {cells' : List ℕ} {literals' : List ℤ} (a : AddedAt L cells literals cs places cells' literals') where
      abbrev x' : State
      x' = with_clauses x a.clauses a.sizes

      abbrev cubes : List ℕ
      cubes = set x.learned_cube_sizes 0 0

      no_cubes : get_or cubes 0 0 ≡ 0
      no_cubes = get_or-set_same x.learned_cube_sizes 0 0 0 (omega (arith, (valid_state cells literals v).exact.learned_cube_sizes_room))

      still_fits : fits_under L x' ≡ true
      still_fits =
          and_both (p && d && b) (rows_fit L.numbers L.constraints cubes)
          (and_both (p && d) b
          (and_both p d (valid_state cells literals v).facts.prefix_fits_lem (table_rows L.literals L.clauses a.clauses a.sizes a.added.table))
          (valid_state cells literals v).facts.learned_clauses_fit)
          (none_fit L.numbers L.constraints cubes no_cubes)
        where
          p : Bool
          p = prefix_fits L x.numbers x.levels x.kinds

          d : Bool
          d = rows_fit L.literals L.clauses a.sizes

          b : Bool
          b = rows_fit L.numbers L.constraints x.learned_clause_sizes

      reads : state_under L x' ≡ after none
      reads = λ i. record {
        formula = record { limits = L; prefix = prefix_in x; clauses = a.added.rows (prefix_in x) shown i };
        store = record {
          clauses = (store_under L x).clauses;
          records = (store_under L x).records;
          cubes = none_stand L.numbers L.constraints cubes no_cubes x.learned_cubes i;
        };
      }

      pub adds_accepted : ServesAt cells literals c (said none 0 0 0 []) cells' literals'
      adds_accepted =
          subst (λ (s : Said). ServesAt cells literals c s cells' literals') (said_is none q)
          (served cells literals c v cells' literals'
          (parts_read L cells' literals' a.limits a.whole a.parts still_fits ∙ ap some (reads ∙ sym (adds.state ∙ ap after q)))
          (ap (λ (w : Answer). refusal_of w.reply) adds.out ∙ ap (λ (k : Option ℕ). refusal_of (rule_reply k)) q))

-- ---- p is the fault that was found, by limits and a count that were read
abbrev pub Fault : Type 0
Fault = Limits → ℕ → Prefix → Option ℕ

-- how many clauses stand
abbrev pub standing : List ℕ → List ℤ → ℕ
standing cells literals = get_or (state_at cells literals).clause_sizes 0 0

pub record Found (cells : List ℕ) (literals : List ℤ) (fault : Fault) (n m : ℕ) (shown : List ℕ) (p : Option ℕ) : Type 0 where
  pub valid : valid_at cells literals ≡ true
  pub limits : own n m ≡ limits_of cells
  pub placed : Places (prefix_in (state_at cells literals)) shown
  pub judged : p ≡ fault (limits_of cells) (standing cells literals) (prefix_in (state_at cells literals))

pub found_at : (cells : List ℕ) (literals : List ℤ) (fault : Fault) {n m at count : ℕ} → n ≡ get_or cells 0 0 → m ≡ get_or cells 1 0 → at ≡ clause_sizes_at (own n m) → count ≡ get_or cells at 0
    → {places kinds : List ℕ} → CheckedAt cells literals true places kinds → {end : ℕ} → end ≡ n + 1
    → {p : Option ℕ} → ((D : Prefix) → Places D (part 0 end places) → p ≡ fault (own n m) count D) → Found cells literals fault n m (part 0 end places) p
found_at cells literals fault {n} {m} {at} {count} is_n is_m is_at is_count {places} {kinds} checked {end} is_end {p} found =
    record {
      valid = sym checked.said;
      limits = limits_are;
      placed = shown;
      judged = found (prefix_in (state_at cells literals)) shown ∙ (λ i. fault (limits_are i) (count_is i) (prefix_in (state_at cells literals)));
    }
  where
    limits_are : own n m ≡ limits_of cells
    limits_are = λ i. own (is_n i) (is_m i)

    cut : by_number (limits_of cells) ≡ end
    cut = omega (arith, is_n, is_end)

    shown : Places (prefix_in (state_at cells literals)) (part 0 end places)
    shown = subst (λ (k : ℕ). Places (prefix_in (state_at cells literals)) (part 0 k places)) cut (checked.placed refl)

    plain : clause_sizes_at (limits_of cells) ≡ clause_sizes_at (limits_of cells) + 0
    plain = omega arith

    count_is : count ≡ standing cells literals
    count_is =
        is_count
        ∙ ap (λ (k : ℕ). get_or cells k 0) (placed cells clause_sizes_at is_n is_m is_at ∙ plain)
        ∙ sym (part_at (clause_sizes_at (limits_of cells)) (clause_count (limits_of cells)) cells 0 0 (omega arith))

module _ {cells : List ℕ} {literals : List ℤ} {fault : Fault} {n m : ℕ} {shown : List ℕ} {p : Option ℕ} (f : Found cells literals fault n m shown p) (c : Call) (cs : List (List Literal))
    (adds : Adds cells literals c cs (fault (limits_of cells) (standing cells literals) (prefix_in (state_at cells literals)))) where
  pub found_refused : (r : ℕ) → p ≡ some r → ServesAt cells literals c (said (some r) 0 0 0 []) cells literals
  found_refused r e = adds_refused cells literals c cs adds f.valid r (sym f.judged ∙ e)

  module _ (e : p ≡ none) where
    pub found_fine : none ≡ fault (limits_of cells) (standing cells literals) (prefix_in (state_at cells literals))
    found_fine = sym e ∙ f.judged

    pub found_room : (k : ℕ) → standing cells literals + k ≤ (limits_of cells).clauses → Room (own n m) cells literals k
    found_room k free =
        subst (λ (M : Limits). Room M cells literals k) (sym f.limits)
        (record {
          whole = valid_whole cells literals f.valid;
          table = (valid_state cells literals f.valid).clauses;
          free = free;
        })

    pub found_accepted : {cells' : List ℕ} {literals' : List ℤ} → AddedAt (own n m) cells literals cs shown cells' literals' → ServesAt cells literals c (said none 0 0 0 []) cells' literals'
    found_accepted {cells'} {literals'} a =
        adds_accepted cells literals c cs adds f.valid (sym found_fine) f.placed
        (subst (λ (M : Limits). AddedAt M cells literals cs shown cells' literals') f.limits a)
