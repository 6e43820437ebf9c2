-- How a budget splits over a visit and the sides of a branch.
use Prim.Native.Nat.{ℕ, suc, ◌-◌, ◌≤◌, ◌<◌}
use native.Mathlib.Omega.{arith}
use mathlib.Core.Path.{◌≡◌, refl, sym, ap, ◌∙◌, subst}
use mathlib.Core.Logic.{◌⊎◌, inl, inr}
use mathlib.Core.Bool.{Bool, true, false}
use Rattle.qbf.specs.Formula.{Quantifier, free, exists, forall, Node, ◌▹◌}
use Rattle.qbf.specs.Truth.{Outcome, decided, mixed}
use Rattle.qbf.specs.Plain.{PlainResult, stops, by_sides, both, plain_branch}
use Rattle.theory.proofs.Basics.{le_or_lt}
use Rattle.node.specs.Step.{alone}
use Rattle.node.specs.declared.Verdict.{Verdict}
use Rattle.open_search.specs.Verdicts.{verdict_of, joined_of}
use Rattle.open_search.specs.Searching.{Found}
use Rattle.open_search.specs.declared.verdicts.Finding.{Finding}
use Rattle.open_search.proofs.Plain.{decided_at, branch_up, branch_both, branch_off}

abbrev pub finding : Verdict → ℕ → Finding
finding v n = record { verdict = v; budget = n }

pub found_as : {w w' : PlainResult} {n : ℕ} {r : Finding} → w' ≡ w → Found w n r → Found w' n r
found_as {w} {w'} {n} {r} e h = subst (λ (x : PlainResult). Found x n r) (sym e) h

-- an answer, and a budget, as the code makes them
pub answer_as : {w : PlainResult} {n : ℕ} {r : Finding} {v : Verdict} {m m' : ℕ} → r ≡ finding v m → m ≡ m' → Found w n (finding v m') → Found w n r
answer_as {w} {n} {r} {v} e q h = subst (Found w n) (sym (e ∙ ap (finding v) q)) h

pub verdict_as : {w : PlainResult} {n : ℕ} {r : Finding} {v v' : Verdict} {m : ℕ} → r ≡ finding v m → v ≡ v' → Found w n (finding v' m) → Found w n r
verdict_as {w} {n} {r} {v} {v'} {m} e q h = subst (Found w n) (sym (e ∙ ap (λ (x : Verdict). finding x m) q)) h

pub found_with : {w : PlainResult} {n m : ℕ} {r : Finding} → m ≡ n → Found w m r → Found w n r
found_with {w} {n} {m} {r} e h = subst (λ (k : ℕ). Found w k r) e h

pub fewer_as : {r : Finding} {v : Verdict} {m n : ℕ} → r ≡ finding v m → m ≤ n → r.budget ≤ n
fewer_as {r} {v} {m} {n} e h = omega (arith, ap (λ (x : Finding). x.budget) e, h)

-- ---- a visit
-- it is not made
pub found_stopped : (w : PlainResult) (n : ℕ) (v : Verdict) → 1 ≤ w.visits → n ≤ 1 → Found w n (finding v 0)
found_stopped w n v more few = record { rest = omega (arith, more, few); verdict = λ h. absurd (omega (arith, more, few, h)) }

-- it decides the node
pub found_decided : (v : Bool) (n : ℕ) → Found (decided_at v) n (finding (verdict_of (decided v tt)) (n - 1))
found_decided v n = record { rest = refl; verdict = λ h. refl }

-- it is that of a recorded variable: the side's verdict is the node's
pub found_recorded : (w : PlainResult) (n : ℕ) (r : Finding) → Found w (n - 1) r → Found (record { outcome = w.outcome; visits = suc w.visits }) n r
found_recorded w n r h = record { rest = omega (arith, h.rest); verdict = λ l. h.verdict (omega (arith, l)) }

-- ---- the verdicts of the sides
alone_stops : (κ : Quantifier) (o : Outcome (Unit {0})) → alone (verdict_of o) κ ≡ stops κ o
alone_stops κ (decided true x) = refl
alone_stops κ (decided false x) = refl
alone_stops κ (mixed ds) = refl

joined_both : (s : Node) (a b : Outcome (Unit {0})) → verdict_of (both s a b) ≡ joined_of free (verdict_of a) (verdict_of b)
joined_both s (decided true x) (decided true y) = refl
joined_both s (decided true x) (decided false y) = refl
joined_both s (decided true x) (mixed ds) = refl
joined_both s (decided false x) (decided true y) = refl
joined_both s (decided false x) (decided false y) = refl
joined_both s (decided false x) (mixed ds) = refl
joined_both s (mixed ds) o = refl

joined_sides : (κ : Quantifier) (s : Node) (a b : Outcome (Unit {0})) → verdict_of (by_sides κ s a b) ≡ joined_of κ (verdict_of a) (verdict_of b)
joined_sides free s a b = joined_both s a b
joined_sides exists s a b = refl
joined_sides forall s a b = refl

-- ---- a branch: the off side has what the visit leaves of the budget, and the on side what the off side leaves
module _ (κ : Quantifier) (f : Node → PlainResult) (s : Node) (n : ℕ) (off : Finding) (h : Found (f (s ▹ false)) (n - 1) off) where
  abbrev whole : PlainResult
  whole = plain_branch κ f s

  -- where the off side was stopped the branch is
  spent : (r : Finding) → n - 1 ≤ (f (s ▹ false)).visits → r.budget ≡ 0 → Found whole n r
  spent r le e =
      let more : (f (s ▹ false)).visits < whole.visits = branch_off κ f s in
      record { rest = omega (arith, le, e, more); verdict = λ l. absurd (omega (arith, l, le, more)) }

  -- whether the off side is enough, by its verdict
  ended : (f (s ▹ false)).visits < n - 1 → (x : Bool) → alone off.verdict κ ≡ x → stops κ (f (s ▹ false)).outcome ≡ x
  ended lt x e = sym (alone_stops κ (f (s ▹ false)).outcome) ∙ ap (λ (v : Verdict). alone v κ) (sym (h.verdict lt)) ∙ e

  pub found_up : alone off.verdict κ ≡ true → Found whole n (finding off.verdict off.budget)
  found_up e = by (le_or_lt (n - 1) (f (s ▹ false)).visits)
    where
      by : (n - 1 ≤ (f (s ▹ false)).visits) ⊎ ((f (s ▹ false)).visits < n - 1) → Found whole n (finding off.verdict off.budget)
      by (inl le) = spent (finding off.verdict off.budget) le (omega (arith, h.rest, le))
      by (inr lt) =
          found_as (branch_up κ f s (ended lt true e)) (record { rest = omega (arith, h.rest, lt); verdict = λ l. h.verdict lt })

  pub found_both : alone off.verdict κ ≡ false → (on : Finding) → Found (f (s ▹ true)) off.budget on
      → Found whole n (finding (joined_of κ off.verdict on.verdict) on.budget)
  found_both e on g = by (le_or_lt (n - 1) (f (s ▹ false)).visits)
    where
      by : (n - 1 ≤ (f (s ▹ false)).visits) ⊎ ((f (s ▹ false)).visits < n - 1) → Found whole n (finding (joined_of κ off.verdict on.verdict) on.budget)
      by (inl le) = spent (finding (joined_of κ off.verdict on.verdict) on.budget) le (omega (arith, h.rest, g.rest, le))
      by (inr lt) =
          found_as (branch_both κ f s (ended lt false e)) (record {
            rest = omega (arith, h.rest, g.rest, lt);
            verdict = λ l.
                (λ i. joined_of κ (h.verdict lt i) (g.verdict (omega (arith, l, h.rest)) i))
                ∙ sym (joined_sides κ s (f (s ▹ false)).outcome (f (s ▹ true)).outcome);
          })
