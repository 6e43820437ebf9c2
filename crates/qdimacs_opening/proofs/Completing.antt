-- The completed formula: flags, then groups, and no clause yet.
use Prim.Native.Nat.{ℕ, ◌+◌, ◌≤◌, ◌<◌, zero-le}
use native.Mathlib.Omega.{arith}
use mathlib.Core.Path.{◌≡◌, refl, sym, ap, subst, ◌∙◌}
use mathlib.Core.Bool.{Bool, true, false, cond}
use mathlib.Core.List.{List, [], ◌++◌, map}
use mathlib.Core.Option.{some}
use borrow.Author.Tests.{le-leb}
use lib.Dec.{leb, ltb}
use lib.IntN.{ℤ}
use lib.ListN.{length, take, drop}
use lib.Seq.{take-take}
use Rattle.std.proofs.lemmas.List.{drop-take}
use Rattle.qbf.specs.Formula.{Limits, most_free, free, Prefix, quantifiers, Clause, Formula}
use Rattle.qbf.specs.Calls.{free_first, free_is_ok, numbers_are_ok, prefix_is_ok, clauses_are_ok}
use Rattle.qbf.specs.Runs.{fresh}
use Rattle.theory.proofs.Basics.{and_right, and_both}
use Rattle.theory.proofs.WellFormed.{FormulaFacts}
use Rattle.tables.specs.Views.{Numbers}
use Rattle.state.specs.State.{State}
use Rattle.state.specs.declared.parts.Parts.{Parts}
use Rattle.state.specs.Reading.{quantifier_of, prefix_fits}
use Rattle.state.specs.Derived.{Quantified, Placing}
use Rattle.state.specs.Lent.{parts_state}
use Rattle.state_parts.specs.Parts.{part, limits_of, by_number, numbers_at, levels_at, kinds_at, clause_sizes_at, parts_under, state_at, read_at, valid_at}
use Rattle.state_parts.proofs.Accepted.{AcceptedState, valid_state, valid_whole}
use Rattle.declaring.specs.Declaring.{numbers_in, levels_in, kinds_in, prefix_at}
use Rattle.layout.specs.Opening.{variable}
use Rattle.opening.specs.Standing.{formula_at, Standing}
use Rattle.opening.proofs.Laws.{formula_is, standing_valid, stands_by}
use Rattle.opening.proofs.Blocks.{grown_read}
use Rattle.qdimacs_form.specs.Opening.{flags_up_to, flag_variables}
use Rattle.qdimacs_opening.specs.Built.{Built, crowd_for, kind_for, Regroupable, Regrouped}
use Rattle.qdimacs_opening.specs.Stands.{freed, with_freed, Grouped, CompletedAt}
use Rattle.qdimacs_opening.proofs.Freed.{freed_flags, flags_counted}

-- ---- a part of a table that was cut off behind it
pub part_cut : (from len end : ℕ) (t : List ℕ) → from + len ≤ end → part from len (take end t) ≡ part from len t
part_cut from len end t h = sym (drop-take from len (take end t)) ∙ ap (drop from) (take-take (from + len) end t h) ∙ drop-take from len t

module _ (L : Limits) (cells : List ℕ) {end : ℕ} (is : end ≡ clause_sizes_at L) {t : List ℕ} (after : t ≡ take end cells) where
  cut : (from : ℕ) → from + by_number L ≤ clause_sizes_at L → part from (by_number L) t ≡ part from (by_number L) cells
  cut from h = ap (part from (by_number L)) (after ∙ ap (λ (n : ℕ). take n cells) is) ∙ part_cut from (by_number L) (clause_sizes_at L) cells h

  pub aside : (r : Parts) → parts_state r ≡ parts_under L t [] → (r.variables.numbers.now ≡ numbers_in L cells) × (r.variables.levels.now ≡ levels_in L cells) × (r.variables.kinds.now ≡ kinds_in L cells)
  aside r parts = (
    ap (λ (x : State). x.numbers) parts ∙ cut numbers_at (omega arith),
    ap (λ (x : State). x.levels) parts ∙ cut (levels_at L) (omega arith),
    ap (λ (x : State). x.kinds) parts ∙ cut (kinds_at L) (omega arith),
  )

-- ---- flags again
pub crowd_freed : (ns : List ℕ) (D : Prefix) → freed (crowd_for (length ns)) (map (variable (quantifier_of (kind_for (crowd_for (length ns))))) ns ++ D) ≡ map (variable free) ns ++ D
crowd_freed ns D = by (ltb most_free (length ns))
  where
    by : (b : Bool) → freed (cond b (length ns) 0) (map (variable (quantifier_of (kind_for (cond b (length ns) 0)))) ns ++ D) ≡ map (variable free) ns ++ D
    by true = freed_flags (quantifier_of (kind_for (length ns))) ns D
    by false = refl

pub crowd_told : (n : ℕ) → 0 < crowd_for n → ltb most_free n ≡ true
crowd_told n = by (ltb most_free n)
  where
    by : (b : Bool) → 0 < cond b n 0 → b ≡ true
    by true h = refl
    by false h = absurd (omega (arith, h))

-- ---- the groups of a state
module _ {L : Limits} {cells : List ℕ} {literals : List ℤ} (g : Grouped L cells literals) where
  abbrev M : Limits
  M = limits_of cells

  abbrev b : Formula
  b = formula_at cells literals

  abbrev D : Prefix
  D = b.prefix

  valid : valid_at cells literals ≡ true
  valid = standing_valid cells literals g.stands

  a : AcceptedState M (state_at cells literals)
  a = valid_state cells literals valid

  pub grouped_room : clause_sizes_at L ≤ length cells
  grouped_room = subst (λ (N : Limits). clause_sizes_at N ≤ length cells) g.stands.limits (omega (arith, (valid_whole cells literals valid).cells_room))

  numbers_ok : numbers_are_ok L [] D ≡ true
  numbers_ok = subst (λ (N : Limits). numbers_are_ok N [] D ≡ true) g.stands.limits a.numbers_ok

  few_numbers : length D ≤ L.numbers
  few_numbers = subst (λ (N : Limits). length D ≤ N.numbers) g.stands.limits a.few

  module _ {v : ℕ} (few : v ≤ L.numbers) {ms mls mks : List ℕ} (e : ms ≡ numbers_in L cells) (f : mls ≡ levels_in L cells) (h : mks ≡ kinds_in L cells) where
    numbers : Numbers D ms
    numbers = subst (Numbers D) (ap (λ (N : Limits). numbers_in N cells) g.stands.limits ∙ sym e) a.numbers_shown

    quantified : Quantified D mls mks
    quantified =
        subst (λ (t : List ℕ). Quantified D t mks) (ap (λ (N : Limits). levels_in N cells) g.stands.limits ∙ sym f)
        (subst (λ (t : List ℕ). Quantified D (levels_in M cells) t) (ap (λ (N : Limits). kinds_in N cells) g.stands.limits ∙ sym h) a.quantified)

    pub regroupable : {ok : Bool} {places : List ℕ} → Placing L ms ok places → Regroupable L D cells ms mls mks places v
    regroupable {ok} {places} p =
        record {
          room = grouped_room;
          numbers = numbers;
          quantified = quantified;
          shown = p.shown (p.said D numbers ∙ and_both (leb (length D) L.numbers) (numbers_are_ok L [] D) (le-leb (length D) L.numbers few_numbers) numbers_ok) D numbers;
          numbers_ok = numbers_ok;
          none_free = g.none_free;
          few = few;
        }

  module _ {v k : ℕ} {cells' : List ℕ} (r : Regrouped L D cells v k cells') where
    abbrev W : Prefix
    W = map (variable (quantifier_of (kind_for k))) (flags_up_to D v) ++ D

    abbrev F : Formula
    F = record { limits = M; prefix = W; clauses = b.clauses }

    built : Built M cells W cells'
    built = subst (λ (N : Limits). Built N cells W cells') (sym g.stands.limits) r.built

    no_clauses : b.clauses ≡ []
    no_clauses = g.stands.reached.no_clauses (omega arith)

    reads : read_at cells' literals ≡ some (fresh F)
    reads =
        grown_read g.stands no_clauses built.beside built.sound built.few
        ∙ ap (λ (E : Prefix). some (fresh (record { limits = M; prefix = E; clauses = b.clauses }))) built.prefix

    facts : FormulaFacts F
    facts =
        record {
          limits_ok = g.stands.reached.facts.limits_ok;
          free_ok = subst (λ (E : Prefix). free_is_ok E ≡ true) built.prefix built.few;
          prefix_ok =
              subst (λ (E : Prefix). prefix_is_ok M E ≡ true) built.prefix
              (and_both (numbers_are_ok M [] (prefix_at M cells')) (free_first (quantifiers (prefix_at M cells'))) built.sound.numbers_ok
              (and_right (prefix_fits M (numbers_in M cells') (levels_in M cells') (kinds_in M cells')) (free_first (quantifiers (prefix_at M cells'))) built.sound.levels_ok));
          clauses_ok = subst (λ (cs : List Clause). clauses_are_ok M W cs ≡ true) (sym no_clauses) (and_both (leb 0 M.clauses) true (le-leb 0 M.clauses zero-le) refl);
        }

    pub completed_at : CompletedAt L v b k cells' literals
    completed_at =
        record {
          formula =
              ap (with_freed k) (formula_is cells' literals F reads)
              ∙ ap (λ (E : Prefix). record { limits = M; prefix = E; clauses = b.clauses }) again;
          stands =
              subst (λ (N : Limits). Standing N 3 cells' literals) g.stands.limits
              (stands_by cells' literals F 3 reads (record { facts = facts; no_variables = λ h. absurd (omega (arith, h)); no_clauses = λ h. absurd (omega (arith, h)) }));
          crowded = λ h.
              ap (ltb most_free) (flags_counted (flags_up_to D v) D g.none_free) ∙ crowd_told (length (flags_up_to D v)) (subst (λ (j : ℕ). 0 < j) r.count h);
        }
      where
        again : freed k W ≡ flag_variables D v ++ D
        again = ap (λ (j : ℕ). freed j (map (variable (quantifier_of (kind_for j))) (flags_up_to D v) ++ D)) r.count ∙ crowd_freed (flags_up_to D v) D
