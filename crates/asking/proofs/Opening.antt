-- The answer to a query with an open variable, from what the plain search found within its budget.
use Prim.Native.Nat.{ℕ, suc, ◌+◌, ◌≤◌}
use native.Mathlib.Omega.{arith}
use mathlib.Core.Path.{◌≡◌, refl, sym, ap, ◌∙◌}
use mathlib.Core.Bool.{Bool, true, false}
use mathlib.Core.List.{List, []}
use mathlib.Core.Option.{some}
use lib.IntN.{ℤ}
use lib.Dec.{leb}
use borrow.Author.Tests.{le-leb, lt-leb}
use Rattle.qbf.specs.Truth.{Outcome, decided, mixed}
use Rattle.qbf.specs.Plain.{PlainResult}
use Rattle.qbf.specs.Learning.{empty_store}
use Rattle.qbf.specs.Calls.{query_reply, open_answer}
use Rattle.open_search.specs.Verdicts.{verdict_of}
use Rattle.open_search.specs.Searching.{Found}
use Rattle.open_search.specs.declared.verdicts.Finding.{Finding}
use Rattle.open_run.specs.OpenRun.{Walked}
use Rattle.serving.specs.Serves.{Said, said, said_reply, said_of}
use Rattle.replies.specs.Replies.{ruling_said, ruling_for}
use Rattle.std.specs.Prelude.{Ok}
use Rattle.asking.specs.OpenRun.{OpenRuled, open_said}

-- swap, keep or unsettled, by the verdict
ruled_so : (o : Outcome (Unit {0})) (k : ℕ) → ruling_said (Ok (ruling_for (verdict_of o))) k ≡ said_reply (query_reply o) k
ruled_so (decided true u) k = refl
ruled_so (decided false u) k = refl
ruled_so (mixed ds) k = refl

-- the search w within that budget
module _ {w : PlainResult} {budget top : ℕ} {r : Finding} (f : Found w budget r) (allowed : budget ≡ suc top) where
  over : r.budget ≡ 0 → leb w.visits top ≡ false
  over none_left = lt-leb w.visits top (omega (arith, f.rest, none_left, allowed))

  within : (r.budget ≡ 0 → ⊥) → w.visits ≤ top
  within some_left = omega (arith, f.rest, some_left, allowed)

  stopped_is : r.budget ≡ 0 → said (some 34) 0 0 top [] ≡ open_said top w
  stopped_is none_left = sym (ap (λ (fit : Bool). said_of (open_answer fit empty_store top w).out) (over none_left))

  ruled_is : (r.budget ≡ 0 → ⊥) → (k : ℕ) → k + r.budget ≡ suc top → ruling_said (Ok (ruling_for r.verdict)) k ≡ open_said top w
  ruled_is some_left k counted =
      (λ i. ruling_said (Ok (ruling_for (verdict_is i))) (k_is i))
      ∙ ruled_so w.outcome w.visits
      ∙ sym (ap (λ (fit : Bool). said_of (open_answer fit empty_store top w).out) (le-leb w.visits top (within some_left)))
    where
      verdict_is : r.verdict ≡ verdict_of w.outcome
      verdict_is = f.verdict (omega (arith, within some_left, allowed))

      k_is : k ≡ w.visits
      k_is = omega (arith, f.rest, counted, allowed, within some_left)

module _ {numbers : List ℕ} {clauses : List ℤ} {sizes places kinds values : List ℕ} {free budget top : ℕ} {r : Finding}
    (f : Walked numbers clauses sizes places kinds values free budget r) (allowed : budget ≡ suc top) where
  pub open_stopped : r.budget ≡ 0 → {a : Said} → a ≡ said (some 34) 0 0 top [] → OpenRuled numbers clauses sizes places kinds values free top a
  open_stopped none_left e = record { ruled = λ D os h. e ∙ stopped_is (f.found D os h) allowed none_left }

  pub open_ruled : (r.budget ≡ 0 → ⊥) → (k : ℕ) → k + r.budget ≡ suc top → {a : Said} → a ≡ ruling_said (Ok (ruling_for r.verdict)) k → OpenRuled numbers clauses sizes places kinds values free top a
  open_ruled some_left k counted {a} is = record { ruled = λ D os h. is ∙ ruled_is (f.found D os h) allowed some_left k counted }
