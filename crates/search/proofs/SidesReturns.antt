-- What both sides give at a variable of any quantifier: lines at a free variable, none at the others.
use Prim.Native.Nat.{ℕ, suc, ◌+◌, ◌-◌, ◌<◌}
use mathlib.Core.Path.{◌≡◌, sym, ap, ◌∙◌}
use mathlib.Core.Bool.{Bool, false, cond}
use mathlib.Core.List.{List, [], ◌∷◌, ◌++◌}
use lib.ListN.{length}
use Rattle.qbf.specs.Formula.{Quantifier, free, exists, forall, Prefix, Clause, Node, ◌▹◌, quantifier_at}
use Rattle.qbf.specs.Learning.{Store}
use Rattle.qbf.specs.Card.{byte_of}
use Rattle.theory.proofs.Verdict.{NoFree}
use Rattle.theory.proofs.Search.{Below}
use Rattle.tables.specs.Views.{quantifier_code}
use Rattle.tables.specs.Records.{Ledger}
use Rattle.cover.specs.Cover.{Covers}
use Rattle.node.specs.Node.{bounds_of, entry_of, LineTask, lined_of, settled_lines, SettledTo}
use Rattle.node.specs.declared.Verdict.{Verdict}
use Rattle.node.specs.declared.position.Position.{Position}
use Rattle.node.specs.declared.answer.Answer.{Answer}
use Rattle.both_sides.specs.Step.{OnwardIn}
use Rattle.search.specs.Search.{Kept, Task, Opened, Result, SideVisited, branch_of}
use Rattle.search.proofs.Counts as counts
use Rattle.search.proofs.Returns.{UpSays, both_result}
use Rattle.search.proofs.FreeReturns.{free_result}

module _ {cls sets kd ss cs cl qs ql tb sat mk : List ℕ} (kind : ℕ) (p q : Position) (eq : q ≡ counts.below p (p.budget - 1) p.lines)
    (off : Answer) {up₁ cs₁ cl₁ qs₁ ql₁ tb₁ : List ℕ} (offs : SideVisited 1 q off cls sets kd ss cs cl qs ql tb sat mk up₁ cs₁ cl₁ qs₁ ql₁ tb₁) (t : Bool)
    (ups : UpSays off kind (entry_of off cls cs₁ qs₁ up₁) p.at t)
    {ss₁ sat₁ mk₁ : List ℕ} (kept : Kept q.at q.words ss ss₁ tb tb₁ sat sat₁ mk mk₁)
    (one : Bool) (one_is : one ≡ lined_of kind p.yes off.verdict) {tbₐ : List ℕ} (l : ℕ) (counted : l ≡ cond one (off.lines + 1) off.lines) (same : one ≡ false → tbₐ ≡ tb₁)
    (lined : (s : Node) (b : Bool) (ls : List Node) → LineTask s ls ss₁ tb₁ p.at p.free off.lines → 1 ≡ byte_of b → Covers p.free tbₐ (ls ++ cond one ((s ▹ b) ∷ []) []))
    (q' : Position) (eq' : q' ≡ counts.below p off.budget l) (on : Answer) {up₂ cs₂ cl₂ qs₂ ql₂ tb₂ : List ℕ}
    (ons : SideVisited 2 q' on cls sets kd ss₁ cs₁ cl₁ qs₁ ql₁ tbₐ sat₁ mk₁ up₂ cs₂ cl₂ qs₂ ql₂ tb₂)
    (saved : List ℕ) (aside : saved ≡ entry_of off cls cs₁ qs₁ up₁) (r : Answer) {cs₃ cl₃ qs₃ ql₃ : List ℕ}
    (fins : OnwardIn off.verdict kind p.at saved on kd cls up₂ cs₂ cl₂ qs₂ ql₂ r cs₃ cl₃ qs₃ ql₃) (unup : t ≡ false) (visits : r.budget ≡ on.budget)
    {ss₂ : List ℕ} (same₂ : ss₂ ≡ ss₁) (two : Bool) (two_is : two ≡ lined_of kind p.yes on.verdict) {tb₃ : List ℕ} (n : ℕ) (settled : n ≡ settled_lines one two on.lines) (same₃ : two ≡ false → tb₃ ≡ tb₂)
    (settling : (s : Node) (ls : List Node) → LineTask s ls ss₂ tb₂ p.at p.free on.lines → SettledTo one two s ls p.free tb₃) where
  -- whether a side is a line, where the code is that of the quantifier
  lines_by : (κ : Quantifier) → quantifier_code κ ≡ kind → (b : Bool) (v : Verdict) → b ≡ lined_of kind p.yes v → b ≡ lined_of (quantifier_code κ) p.yes v
  lines_by κ code b v e = e ∙ ap (λ (k : ℕ). lined_of k p.yes v) (sym code)

  -- no line is added or taken back
  module _ (κ : Quantifier) (code : quantifier_code κ ≡ kind) (one_no : one ≡ false) (two_no : two ≡ false)
      (nofree : (qs : List Quantifier) → Below κ qs → NoFree (κ ∷ qs)) (nobelow : (qs : List Quantifier) → NoFree (κ ∷ qs) → NoFree qs) where
    quantified_result : (D : Prefix) (s : Node) (ls : List Node) (R : List Clause) (g : Ledger) (st : Store) → Task D s ls R g st cls sets kd ss cs cl qs ql tb p.at p
        → Opened D s R p sat mk → p.at < length D → quantifier_at D (suc p.at) ≡ κ
        → Result D g ls (branch_of D R κ p s st) p (counts.answered r.verdict (bounds_of r) r.budget n) cls up₂ cs₃ cl₃ qs₃ ql₃ tb₃
    quantified_result =
        both_result κ kind code p q eq off offs t ups nofree nobelow kept (same one_no) l (counted ∙ ap (λ (b : Bool). cond b (off.lines + 1) off.lines) one_no)
        q' eq' on ons saved aside r fins unup visits (same₃ two_no) n (settled ∙ (λ i. settled_lines (one_no i) (two_no i) on.lines))

  -- lines at a free variable
  module _ (code : quantifier_code free ≡ kind) where
    free_lines : (D : Prefix) (s : Node) (ls : List Node) (R : List Clause) (g : Ledger) (st : Store) → Task D s ls R g st cls sets kd ss cs cl qs ql tb p.at p
        → Opened D s R p sat mk → p.at < length D → quantifier_at D (suc p.at) ≡ free
        → Result D g ls (branch_of D R free p s st) p (counts.answered r.verdict (bounds_of r) r.budget n) cls up₂ cs₃ cl₃ qs₃ ql₃ tb₃
    free_lines =
        free_result kind code p q eq off offs t ups kept one (lines_by free code one off.verdict one_is) l counted lined
        q' eq' on ons saved aside r fins unup visits same₂ two (lines_by free code two on.verdict two_is) tb₃ n settled settling

  pub sides_result : (D : Prefix) (s : Node) (ls : List Node) (R : List Clause) (g : Ledger) (st : Store) (κ : Quantifier) → Task D s ls R g st cls sets kd ss cs cl qs ql tb p.at p
      → Opened D s R p sat mk → p.at < length D → quantifier_at D (suc p.at) ≡ κ → quantifier_code κ ≡ kind
      → Result D g ls (branch_of D R κ p s st) p (counts.answered r.verdict (bounds_of r) r.budget n) cls up₂ cs₃ cl₃ qs₃ ql₃ tb₃
  sides_result D s ls R g st free task opened inside is code = free_lines code D s ls R g st task opened inside is
  sides_result D s ls R g st exists task opened inside is code =
      quantified_result exists code (lines_by exists code one off.verdict one_is) (lines_by exists code two on.verdict two_is) (λ qs h. h) (λ qs h. h) D s ls R g st task opened inside is
  sides_result D s ls R g st forall task opened inside is code =
      quantified_result forall code (lines_by forall code one off.verdict one_is) (lines_by forall code two on.verdict two_is) (λ qs h. h) (λ qs h. h) D s ls R g st task opened inside is
