-- The lines of a card after a side, and after both.
use Prim.Native.Nat.{ℕ, zero, suc, ◌+◌, ◌-◌}
use native.Mathlib.Omega.{arith}
use mathlib.Core.Path.{◌≡◌, refl, ap}
use mathlib.Core.Bool.{Bool, true, false, cond, true≢false, false≢true}
use mathlib.Core.List.{List, [], ◌∷◌, ◌++◌, append-nil}
use lib.ListN.{length, length-append}
use Rattle.qbf.specs.Formula.{Node, ◌▹◌}
use Rattle.cover.specs.Cover.{Covers}
use Rattle.node.specs.declared.Verdict.{Verdict}
use Rattle.node.specs.Node.{is_of, LineTask, lined_of, settled_lines, SettledTo}

-- ---- whether a side is a line
pub lined_free : (k : ℕ) (p : Bool) (v : Verdict) {r : Bool} → k ≡ 0 → r ≡ is_of p v → r ≡ lined_of k p v
lined_free zero p v e h = h
lined_free (suc k) p v e h = absurd (omega arith)

-- ---- after a side
pub line_none : (b : Bool) (n : ℕ) → b ≡ false → n ≡ cond b (n + 1) n
line_none true n e = absurd (true≢false e)
line_none false n e = refl

pub line_one : (b : Bool) (n : ℕ) → b ≡ true → n + 1 ≡ cond b (n + 1) n
line_one true n e = refl
line_one false n e = absurd (false≢true e)

pub covers_none : (b : Bool) (f : ℕ) (table : List ℕ) (ls ms : List Node) → b ≡ false → Covers f table ls → Covers f table (ls ++ cond b ms [])
covers_none true f table ls ms e h = absurd (true≢false e)
covers_none false f table ls ms e h = rw append-nil h

-- ---- after both: the on side is no line, and nothing changes
pub count_same : (a b : Bool) (n : ℕ) → b ≡ false → n ≡ settled_lines a b n
count_same a true n e = absurd (true≢false e)
count_same a false n e = refl

module _ {s : Node} {ls : List Node} {statuses before after : List ℕ} {at free lines : ℕ} (task : LineTask s ls statuses before at free lines) (popped : (ms : List Node) (x : Node) → length ms + 1 ≡ lines → Covers free before (ms ++ (x ∷ [])) → Covers free after ms) where
  back : (ms : List Node) (x : Node) → ls ≡ ms ++ (x ∷ []) → Covers free after ms
  back ms x e = popped ms x (omega (arith, ap length e, length-append ms (x ∷ []), task.counted)) (rw e at task.covers)

-- only the on side is a line: it is added, as `line_if` does it
pub count_more : (a b : Bool) (n : ℕ) {r : ℕ} → a ≡ false → b ≡ true → r ≡ cond b (n + 1) n → r ≡ settled_lines a b n
count_more a false n h g e = absurd (false≢true g)
count_more true true n h g e = absurd (true≢false h)
count_more false true n h g e = e
