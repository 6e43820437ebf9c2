-- What a call owes on a state of two tables that is not valid, and on one that is.
use Prim.Native.Nat.{ℕ, ◌≤◌}
use mathlib.Core.Path.{◌≡◌, refl, sym, ap, subst, ◌∙◌}
use mathlib.Core.Bool.{true, false}
use mathlib.Core.List.{List}
use mathlib.Core.Option.{none, some}
use lib.IntN.{ℤ}
use lib.ListN.{get_or}
use Rattle.std.specs.Prelude.{Result, Ok, Err}
use Rattle.refusal.specs.declared.Refusal.{Refusal}
use Rattle.state_parts.specs.declared.limits.Layout.{Layout}
use Rattle.state_parts.specs.Layout.{CheckedIn}
use Rattle.qbf.specs.Formula.{Limits, highest}
use Rattle.qbf.specs.Calls.{Call, answer, refusal, guarded, State as Read}
use Rattle.qbf.specs.Demands.{refusal_of}
use Rattle.theory.proofs.WellFormed.{state_facts, numbers_capped, clauses_capped}
use Rattle.state.specs.Reading.{own, state_under}
use Rattle.serving.specs.Serves.{said_of}
use Rattle.state_parts.specs.Parts.{limits_of, state_at, read_at, valid_at}
use Rattle.state_parts.proofs.Accepted.{valid_read, valid_state}
use Rattle.serving.proofs.Calls.{Passes, malformed_read, moved_on_read, unchanged_read}
use Rattle.rule_calls.specs.ServesAt.{ServesAt}
use Rattle.rule_calls.specs.Served.{lists, read_lists}
use Rattle.rule_calls.proofs.Lists.{serves_at}

-- what is computed from limits that were read is computed from the state's
pub placed : (cells : List ℕ) (f : Limits → ℕ) {n m a : ℕ} → n ≡ get_or cells 0 0 → m ≡ get_or cells 1 0 → a ≡ f (own n m) → a ≡ f (limits_of cells)
placed cells f {n} {m} p q e = e ∙ ap (λ (i : ℕ). f (own i m)) p ∙ ap (λ (j : ℕ). f (own (get_or cells 0 0) j)) q

-- a state that was not checked is malformed
pub malformed_by : (cells : List ℕ) (literals : List ℤ) (r : Result Layout Refusal) (places kinds : List ℕ) → CheckedIn cells literals r places kinds → ((l : Layout) → r ≡ Ok l → ⊥) → valid_at cells literals ≡ false
malformed_by cells literals (Ok l) places kinds k h = absurd (h l refl)
malformed_by cells literals (Err e) places kinds k h = sym k.1.said

module _ (cells : List ℕ) (literals : List ℤ) (c : Call) where
  -- "22 the state is malformed"
  pub malformed : valid_at cells literals ≡ false → ServesAt cells literals c (said_of (answer (refusal 22 c) 0)) cells literals
  unfolding valid_at
  malformed e = serves_at (malformed_read read_lists (lists cells literals) c e)

  -- as it is read
  abbrev y : Read
  y = state_under (limits_of cells) (state_at cells literals)

  module _ (v : valid_at cells literals ≡ true) where
    -- its limits are not above the highest
    pub capped : ((limits_of cells).numbers ≤ highest.numbers) × ((limits_of cells).clauses ≤ highest.clauses)
    capped = let f = (state_facts y (valid_state cells literals v).facts.formed).formula_ok in (numbers_capped y.formula f, clauses_capped y.formula f)

    -- the tables after the call read as the definitions' next state, and the call is not refused, or after a search
    pub moved_on : (cells' : List ℕ) (literals' : List ℤ) → read_at cells' literals' ≡ some (guarded true y c).state → Passes (refusal_of (guarded true y c).out.reply)
        → ServesAt cells literals c (said_of (guarded true y c).out) cells' literals'
    moved_on cells' literals' r h = serves_at (moved_on_read read_lists (lists cells literals) c (valid_read cells literals v) (valid_state cells literals v).facts.formed (lists cells' literals') r h)

    pub served : (cells' : List ℕ) (literals' : List ℤ) → read_at cells' literals' ≡ some (guarded true y c).state → refusal_of (guarded true y c).out.reply ≡ none
        → ServesAt cells literals c (said_of (guarded true y c).out) cells' literals'
    served cells' literals' r h = moved_on cells' literals' r (subst Passes (sym h) tt)

    -- refused: the tables are as given, and so is the state in the definitions
    pub unchanged : (guarded true y c).state ≡ y → ServesAt cells literals c (said_of (guarded true y c).out) cells literals
    unchanged e = serves_at (unchanged_read read_lists (lists cells literals) c (valid_read cells literals v) (valid_state cells literals v).facts.formed e)
