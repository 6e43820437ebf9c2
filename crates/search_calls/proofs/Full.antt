-- The reading of the arguments on a state as it was checked: refused, or the start node's bytes.
use Prim.Native.Nat.{ℕ, suc, ◌+◌, ◌-◌, ◌≤◌, ◌<◌}
use native.Mathlib.Omega.{arith}
use mathlib.Core.Path.{◌≡◌, refl, sym, ap, subst, ◌∙◌}
use mathlib.Core.Bool.{Bool, true, false, not}
use mathlib.Core.List.{List, ◌++◌, map}
use mathlib.Core.Option.{Option, none, some}
use lib.ListN.{length, take, drop}
use Rattle.std.specs.Prelude.{Some, None}
use Rattle.qbf.specs.Formula.{most_free, Prefix, Literal, Formula}
use Rattle.qbf.specs.Truth.{free_variables}
use Rattle.qbf.specs.Open.{reading_of, is_full}
use Rattle.qbf.specs.Card.{byte_of}
use Rattle.qbf.specs.Calls.{closest_fault, start_node, given, ◌or_else◌, prefix_is_ok}
use Rattle.theory.proofs.Starting.{start_length}
use Rattle.tables.specs.Views.{Numbers}
use Rattle.reading.specs.Reading.{QueryRead}
use Rattle.reading.specs.Placed.{Placed}
use Rattle.state.specs.Reading.{own, prefix_in}
use Rattle.closest_call.proofs.Given.{given_part}
use Rattle.asking.specs.declared.checked.Checked.{Checked}
use Rattle.asking.specs.Answered.{state_of}
use Rattle.asking.proofs.Accepting.{good, numbers_shown}
use Rattle.search_calls.specs.Full.{FullAs}

module _ (D : Prefix) {on off : List Literal} {ok full : Bool} {values : List ℕ} (read : QueryRead D on off ok full values) where
  -- "8 a query names a non-flag, or a flag twice"
  pub fault_named : ok ≡ false → (g : List ℕ) → FullAs D on off None g
  fault_named bad g = λ b p. ap (λ (o : Option ℕ). o or_else given (not (is_full (reading_of on off b.prefix))) 8) (read.fault b p bad)

  fault_by : ok ≡ true → (b : Formula) → b.prefix ≡ D → closest_fault b on off ≡ given (not full) 8
  fault_by fine b p =
      ap (λ (o : Option ℕ). o or_else given (not (is_full (reading_of on off b.prefix))) 8) (read.fine b p fine)
      ∙ ap (λ (E : Prefix). given (not (is_full (reading_of on off E))) 8) p
      ∙ ap (λ (g : Bool). given (not g) 8) (sym (read.told fine))

  -- "Here a flag left open is 8 too"
  pub fault_open : ok ≡ true → full ≡ false → (g : List ℕ) → FullAs D on off None g
  fault_open fine partly g = λ b p. fault_by fine b p ∙ ap (λ (g : Bool). given (not g) 8) partly

  pub no_fault : ok ≡ true → full ≡ true → (b : Formula) → b.prefix ≡ D → closest_fault b on off ≡ none
  no_fault fine whole b p = fault_by fine b p ∙ ap (λ (g : Bool). given (not g) 8) whole

-- all flags are given
pub full_as : (k : Checked) {on off : List Literal} {ok full : Bool} {values : List ℕ} → QueryRead (prefix_in (state_of k)) on off ok full values → ok ≡ true → full ≡ true → {free : ℕ} → free ≡ free_variables (prefix_in (state_of k)) → free ≤ most_free
    → {start after : List ℕ} → free < length after → Placed values k.parts.variables.numbers.now free start after → FullAs (prefix_in (state_of k)) on off (Some free) after
full_as k {on} {off} {ok} {full} {values} read fine whole {free} frees small {start} {after} wide placed = (
  no_fault (prefix_in (state_of k)) read fine whole,
  frees,
  small,
  given_part (own k.numbers k.clauses) (prefix_in (state_of k)) (good k.numbers k.clauses (state_of k) k.accepted k.few_numbers k.few_clauses).formula_ok.prefix_ok k.parts.variables.numbers.now values
      (numbers_shown k.numbers k.clauses (state_of k) k.accepted k.few_numbers k.few_clauses) (start_node on (prefix_in (state_of k))) (read.shown fine whole) (start_length on (prefix_in (state_of k))) free (free + 1) start after frees refl wide placed,
)
