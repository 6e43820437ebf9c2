-- Room and counts of the visitors, without a prefix: n places are left below the node, n + 1 at it.
use Prim.Native.Nat.{ℕ, ◌+◌, ◌-◌, ◌^◌, ◌≤◌, ◌<◌}
use native.Mathlib.Omega.{arith}
use mathlib.Core.Path.{◌≡◌, sym, ap, ◌∙◌, subst}
use mathlib.Core.Bool.{Bool, true, false, cond, true≢false}
use mathlib.Core.List.{List}
use Rattle.qbf.specs.Formula.{highest, Prefix, Node}
use Rattle.qbf.specs.Ceiling.{Attempt}
use Rattle.tables.specs.Shelves.{newest_of}
use Rattle.tables.specs.Records.{Ledger}
use Rattle.search_entry.specs.declared.bounds.Bounds.{Bounds}
use Rattle.node.specs.Node.{bounds_of, Finished, Grown, settled_lines}
use Rattle.inner.specs.declared.Leaf.{Leaf}
use Rattle.inner.specs.declared.Leaf.TheVariants as found
use Rattle.search.specs.Search.{side_at, AskedOpen, AskedBelow, Counts, Result, is_open, concluded_of}
use Rattle.node.specs.declared.Verdict.{Verdict}
use Rattle.node.specs.declared.Verdict.TheVariants.{Yes, No}
use Rattle.node.specs.declared.position.Position.{Position}
use Rattle.node.specs.declared.answer.Answer.{Answer}

-- the positions of the sides, and an answer, as the code makes them
abbrev pub below : Position → ℕ → ℕ → Position
below p v l = side_at p v l

abbrev pub answered : Verdict → Bounds → ℕ → ℕ → Answer
answered v b k l = record { verdict = v; source = b.source; start = b.start; len = b.len; budget = k; lines = l; inside = b.inside }

-- the off side's line is one more at most
pub off_lines : (v : Bool) (n l : ℕ) → l ≡ cond v (n + 1) n → (n ≤ l) × (l ≤ n + 1)
off_lines true n l e = (omega arith, omega arith)
off_lines false n l e = (omega arith, omega arith)

settle_high : (v w : Bool) (n : ℕ) → settled_lines v w n ≤ n + 1
settle_high true true n = omega arith
settle_high false true n = omega arith
settle_high v false n = omega arith

settle_low : (v w : Bool) (m l n : ℕ) → l ≡ cond v (m + 1) m → l ≤ n → m ≤ settled_lines v w n
settle_low true true m l n e h = omega arith
settle_low false true m l n e h = omega arith
settle_low true false m l n e h = omega arith
settle_low false false m l n e h = omega arith

module _ (p : Position) where
  pub counts_settled : {cl ql : List ℕ} (r : Answer) (v : Verdict) (b : Bounds) → r ≡ answered v b (p.budget - 1) p.lines → Counts cl ql p r cl ql
  counts_settled {cl} {ql} r v b e =
      subst (λ (x : Answer). Counts cl ql p x cl ql) (sym e)
      (record { lines_more = omega arith; lines_fewer = omega arith; clauses = omega arith; cubes = omega arith })

  -- a step decided the node
  pub counts_concluded : {cl ql : List ℕ} (l : Leaf) → is_open l ≡ false → (r : Answer) → r ≡ concluded_of l p → Counts cl ql p r cl ql
  counts_concluded (found.No b) h r e = counts_settled r No b e
  counts_concluded (found.Yes b) h r e = counts_settled r Yes b e
  counts_concluded found.Open h r e = absurd (true≢false h)

  module _ (more : p.at < highest.numbers) where
    -- what a side asks
    side_asked : {cl ql cl' ql' : List ℕ} (v l : ℕ) → AskedOpen cl ql p
        → l + (v + v) ≤ 2 ^ 62 → newest_of cl' + v ≤ 2 ^ 62 → newest_of ql' + v ≤ 2 ^ 62
        → AskedBelow cl' ql' (below p v l)
    side_asked v l a hl hc hq = record { room = record { within = omega arith; lines = hl; clauses = hc; cubes = hq }; inner = omega arith }

    module _ {cl ql cl₁ ql₁ : List ℕ} (q : Position) (eq : q ≡ below p (p.budget - 1) p.lines) (off : Answer) (counts : Counts cl ql q off cl₁ ql₁) where
      c : Counts cl ql (below p (p.budget - 1) p.lines) off cl₁ ql₁
      c = subst (λ (x : Position). Counts cl ql x off cl₁ ql₁) eq counts

      pub counts_up : Counts cl ql p off cl₁ ql₁
      counts_up =
          record {
            lines_more = c.lines_more;
            lines_fewer = omega (arith, c.lines_fewer);
            clauses = omega (arith, c.clauses);
            cubes = omega (arith, c.cubes);
          }

      module _ {cl₂ ql₂ : List ℕ} (l : ℕ) (q' : Position) (e : q' ≡ below p off.budget l) (on : Answer) (d' : Counts cl₁ ql₁ q' on cl₂ ql₂) where
        d : Counts cl₁ ql₁ (below p off.budget l) on cl₂ ql₂
        d = subst (λ (x : Position). Counts cl₁ ql₁ x on cl₂ ql₂) e d'

        -- this visit itself counts for the row that is stored last
        counts_both : {cl₃ ql₃ : List ℕ} (r : Answer) → 2 ≤ p.budget → l ≤ off.lines + 1 → r.budget ≡ on.budget → p.lines ≤ r.lines → r.lines ≤ on.lines + 1
            → Grown cl₂ ql₂ cl₃ ql₃ → Counts cl ql p r cl₃ ql₃
        counts_both r made hl hv hm hf g =
            record {
              lines_more = hm;
              lines_fewer = omega (arith, c.lines_fewer, d.lines_fewer, hl, hf, hv, made);
              clauses = omega (arith, c.clauses, d.clauses, g.clauses, hv, made);
              cubes = omega (arith, c.cubes, d.cubes, g.cubes, hv, made);
            }

        -- the off side's line, then what both sides settle to, by whether each is a line
        module _ (v w : Bool) (lined : l ≡ cond v (off.lines + 1) off.lines) where
          pub on_lines_one : v ≡ true → w ≡ true → 1 ≤ on.lines
          on_lines_one y z =
              let e : l ≡ off.lines + 1 = lined ∙ ap (λ (b : Bool). cond b (off.lines + 1) off.lines) y in
              omega (arith, d.lines_more)

          pub counts_sides : {cl₃ ql₃ : List ℕ} (r : Answer) → 2 ≤ p.budget → Finished on r → Grown cl₂ ql₂ cl₃ ql₃ → (n : ℕ) → n ≡ settled_lines v w on.lines
              → (r' : Answer) → r' ≡ answered r.verdict (bounds_of r) r.budget n → Counts cl ql p r' cl₃ ql₃
          counts_sides {cl₃} {ql₃} r made f g n settled r' e =
              subst (λ (x : Answer). Counts cl ql p x cl₃ ql₃) (sym e)
              (counts_both (answered r.verdict (bounds_of r) r.budget n) made (off_lines v off.lines l lined).1 f.budget
              (omega (arith, low, c.lines_more)) (omega (arith, settle_high v w on.lines, settled)) g)
            where
              low : off.lines ≤ n
              low = subst (λ (x : ℕ). off.lines ≤ x) (sym settled) (settle_low v w off.lines l on.lines lined d.lines_more)

-- an answer by its fields
pub counts_as : {cl ql cl' ql' : List ℕ} {p : Position} {r r' : Answer} → r ≡ r' → Counts cl ql p r cl' ql' → Counts cl ql p r' cl' ql'
counts_as {cl} {ql} {cl'} {ql'} {p} {r} {r'} e w = subst (λ (x : Answer). Counts cl ql p x cl' ql') e w

pub result_as : {D : Prefix} {g : Ledger} {ls : List Node} {o : Attempt} {p : Position} {r r' : Answer} {cls up cs cl qs ql tb : List ℕ} → r ≡ r'
    → Result D g ls o p r cls up cs cl qs ql tb → Result D g ls o p r' cls up cs cl qs ql tb
result_as {D} {g} {ls} {o} {p} {r} {r'} {cls} {up} {cs} {cl} {qs} {ql} {tb} e w = subst (λ (x : Answer). Result D g ls o p x cls up cs cl qs ql tb) e w
