-- The two tables of a state while a text is read: they read as their formula with an empty store.
use Prim.Native.Nat.{ℕ}
use native.Mathlib.Omega.{arith}
use mathlib.Core.Path.{◌≡◌, refl, sym, ap, subst, ◌∙◌}
use mathlib.Core.Bool.{Bool, true, false, cond, not}
use mathlib.Core.List.{List}
use mathlib.Core.Option.{Option, none, some}
use lib.IntN.{ℤ}
use Rattle.std.specs.Prelude.{Ok, Err}
use Rattle.qbf.specs.Formula.{Limits, Formula}
use Rattle.qbf.specs.Learning.{Store, empty_store}
use Rattle.qbf.specs.Calls.{given, State as Read, ◌or_else◌}
use Rattle.qbf.specs.Runs.{fresh}
use Rattle.refusal.specs.declared.Refusal.{Refusal}
use Rattle.refusal.specs.Refusal.{number_of, fault_in}
use Rattle.state.specs.State.{State}
use Rattle.state.specs.Reading.{fits_under, state_under, store_under, read_under, roomy, well_formed_read}
use Rattle.state_parts.specs.Layout.{limits_in}
use Rattle.state_parts.specs.Parts.{limits_of, state_at, read_at, valid_at}
use Rattle.state_parts.proofs.Accepted.{valid_read}
use Rattle.layout.specs.Forms.{Form}
use Rattle.layout.specs.Opening.{rank, allowed, stage_after, form_fault, line_fault, with_form}
use Rattle.layout_laws.proofs.Opened.{Reached, line_reached, fresh_formed, same_limits}
use Rattle.opening.specs.Stages.{rank_of, placed}
use Rattle.opening.specs.declared.book.Book.{Book}
use Rattle.opening.specs.Standing.{formula_at, Standing}
use Rattle.opening.specs.Forms.{TookFormAt}

module _ (cells : List ℕ) (literals : List ℤ) where
  abbrev own_limits : Limits
  own_limits = limits_of cells

  abbrev x : State
  x = state_at cells literals

  -- what is read is what stands there
  pub read_is_at : (y : Read) → read_at cells literals ≡ some y → state_under own_limits x ≡ y
  unfolding read_at read_under
  read_is_at y e = by (roomy own_limits x) (fits_under own_limits x) e
    where
      inner : Option Read → Read
      inner none = state_under own_limits x
      inner (some z) = z

      by : (r f : Bool) → cond r (cond f (some (state_under own_limits x)) none) none ≡ some y → state_under own_limits x ≡ y
      by true true q = ap inner q
      by true false q = absurd (let z : ◌≡◌ {A = ℕ} 0 1 = cc in omega (arith, z))
      by false f q = absurd (let z : ◌≡◌ {A = ℕ} 0 1 = cc in omega (arith, z))

  pub formula_is : (b : Formula) → read_at cells literals ≡ some (fresh b) → formula_at cells literals ≡ b
  formula_is b e = ap (λ (y : Read). y.formula) (read_is_at (fresh b) e)

  -- a formula of lines up to a stage, opened
  pub stands_by : (b : Formula) (stage : ℕ) → read_at cells literals ≡ some (fresh b) → Reached stage b → Standing b.limits stage cells literals
  stands_by b stage e i =
      record {
        limits = ap (λ (c : Formula). c.limits) (formula_is b e);
        read = e ∙ ap (λ (c : Formula). some (fresh c)) (sym (formula_is b e));
        reached = subst (Reached stage) (sym (formula_is b e)) i;
      }

  -- a valid state that stores nothing reads as its formula opened
  pub fresh_read_at : valid_at cells literals ≡ true → store_under own_limits x ≡ empty_store → read_at cells literals ≡ some (fresh (formula_at cells literals))
  fresh_read_at v e = valid_read cells literals v ∙ ap (λ (st : Store). some (record { formula = formula_at cells literals; store = st })) e

  module _ {L : Limits} {stage : ℕ} (s : Standing L stage cells literals) where
    pub standing_valid : valid_at cells literals ≡ true
    unfolding valid_at
    standing_valid = ap well_formed_read s.read ∙ fresh_formed (formula_at cells literals) s.reached.facts

    pub nothing_stored : store_under own_limits x ≡ empty_store
    nothing_stored = ap (λ (y : Read). y.store) (read_is_at (fresh (formula_at cells literals)) s.read)

-- ---- a form at a stage
module _ (stage : ℕ) (b : Formula) (f : Form) where
  -- a form that may not stand here
  pub misplaced : {q : Refusal} (cells : List ℕ) (literals : List ℤ) → Err q ≡ placed (allowed stage (rank f)) → TookFormAt stage b f (Err q) cells literals
  misplaced {q} cells literals e = by (allowed stage (rank f)) refl e
    where
      by : (t : Bool) → t ≡ allowed stage (rank f) → Err q ≡ placed t → TookFormAt stage b f (Err q) cells literals
      by true a e = cc
      by false a e = record { fault = ap (λ (t : Bool). given (not t) 1 or_else form_fault b f) (sym a) ∙ sym (ap fault_in e); advanced = tt }

  -- one that may, judged by its own faults
  module _ {u : Unit {0}} (p : Ok u ≡ placed (allowed stage (rank f))) where
    pub standing_fault : line_fault stage b f ≡ form_fault b f
    standing_fault = by (allowed stage (rank f)) refl p
      where
        by : (t : Bool) → t ≡ allowed stage (rank f) → Ok u ≡ placed t → line_fault stage b f ≡ form_fault b f
        by true a e = ap (λ (t : Bool). given (not t) 1 or_else form_fault b f) (sym a)
        by false a e = cc

    pub refused_form : {q : Refusal} (cells : List ℕ) (literals : List ℤ) → form_fault b f ≡ some (number_of q) → TookFormAt stage b f (Err q) cells literals
    refused_form cells literals k = record { fault = standing_fault ∙ k; advanced = tt }

    -- what stands with the form is opened as before
    pub taken_form : Reached stage b → form_fault b f ≡ none → (y : Book) → limits_in y.layout ≡ b.limits → rank_of y.stage ≡ stage_after (rank f)
        → (cells : List ℕ) (literals : List ℤ) → read_at cells literals ≡ some (fresh (with_form b f)) → TookFormAt stage b f (Ok y) cells literals
    taken_form i k y under at cells literals e =
        record {
          fault = standing_fault ∙ k;
          advanced = record {
            formula = formula_is cells literals (with_form b f) e;
            stage = at;
            stands =
                subst (λ (L : Limits). Standing L (rank_of y.stage) cells literals) (same_limits b f ∙ sym under)
                (subst (λ (n : ℕ). Standing (with_form b f).limits n cells literals) (sym at)
                (stands_by cells literals (with_form b f) (stage_after (rank f)) e (line_reached stage b f i (standing_fault ∙ k))));
          };
        }
