-- What a text of either edition opens is well formed.
use Prim.Native.Nat.{ℕ, suc}
use mathlib.Core.Path.{◌≡◌, refl, ◌∙◌, subst}
use mathlib.Core.Bool.{Bool, true, false, cond, not, ◌||◌}
use mathlib.Core.List.{List, [], ◌∷◌}
use mathlib.Core.Option.{Option, none, some}
use native.Mathlib.Omega.{arith}
use lib.ListN.{length}
use lib.Dec.{eqb, leb, ltb}
use Rattle.qbf.specs.Formula.{Limits, Formula}
use Rattle.qbf.specs.Calls.{given, rule_fault, with_one, ◌or_else◌, limits_are_ok, formula_is_ok, well_formed}
use Rattle.qbf.specs.Runs.{fresh}
use Rattle.theory.proofs.AcceptedRule.{given_none}
use Rattle.theory.proofs.OneAdded.{one_formed}
use Rattle.theory.proofs.WellFormed.{FormulaFacts, facts_formula}
use Rattle.layout.specs.Words.{Bytes, newline, split}
use Rattle.layout.specs.Forms.{Form, book, block, clause, end}
use Rattle.layout.specs.Opening.{allowed, stage_after, Opened, opened, at_end, empty_formula}
use Rattle.layout.specs.Opening as own
use Rattle.layout_laws.proofs.Opened.{Reached, line_reached, reached_none, fresh_formed, never_opened, went, at_end_lem}
use Rattle.editions.specs.Lines.{Line, says, tagged, one, line_of}
use Rattle.editions.specs.Opening.{Editions, rank_of, tags_fit, said_fault, line_fault, with_line, edition_after, is_end, read_line, read_lines, open_editions}
use Rattle.editions_laws.proofs.Tags.{line_grows}
use Rattle.editions_laws.proofs.Converting.{fits_text}

-- ---- a line
pub line_formed : (a : Editions) (e stage : ℕ) (b : Formula) (f : Line) → Reached stage b → line_fault a e stage b f ≡ none → Reached (stage_after (rank_of f)) (with_line b f)
line_formed a e stage b f i z = by f z
  where
    order : (f : Line) → line_fault a e stage b f ≡ none → (not (allowed stage (rank_of f)) ≡ false) × (said_fault a b f ≡ none)
    order f z =
        let w = given_none (not (allowed stage (rank_of f))) 1 (given (not (tags_fit e f)) 1 or_else said_fault a b f) z in
        (w.0, (given_none (not (tags_fit e f)) 1 (said_fault a b f) w.1).1)

    -- as the first edition's form g
    as_form : (g : Form) → not (allowed stage (own.rank g)) ≡ false → own.form_fault b g ≡ none → Reached (stage_after (own.rank g)) (own.with_form b g)
    as_form g x y = line_reached stage b g i (rw x y)

    by : (f : Line) → line_fault a e stage b f ≡ none → Reached (stage_after (rank_of f)) (with_line b f)
    by (says (book x)) z = as_form (book 1) (order (says (book x)) z).0 refl
    by (says (block κ ns)) z = as_form (block κ ns) (order (says (block κ ns)) z).0 (order (says (block κ ns)) z).1
    by (says (clause ls)) z = as_form (clause ls) (order (says (clause ls)) z).0 (order (says (clause ls)) z).1
    by (says end) z = as_form end (order (says end) z).0 refl
    by (tagged k ls) z =
        let w = order (tagged k ls) z in
        let t = given_none (leb b.limits.clauses (length b.clauses)) 20 (given (eqb k 0 || ltb 65535 k) 39 or_else rule_fault b ls) w.1 in
        as_form (clause ls) w.0 (given_none (eqb k 0 || ltb 65535 k) 39 (rule_fault b ls) t.1).1
    by (one ls) z = record { facts = subst (λ (o : Option ℕ). FormulaFacts (with_one o b ls)) (order (one ls) z).1 (one_formed b i.facts ls); no_variables = λ h. absurd (omega arith); no_clauses = λ h. absurd (omega arith) }

-- ---- the text
lines_formed : (a : Editions) (n e stage : ℕ) (b : Formula) (ps : List Bytes) (c : Formula) → Reached stage b → read_lines a n e stage b ps ≡ opened c → FormulaFacts c × (c.limits ≡ b.limits)
unfolding read_lines
lines_formed a n e stage b [] c i z = absurd (never_opened 1 n c z)
lines_formed a n e stage b (l ∷ []) c i z = absurd (never_opened 1 n c z)
lines_formed a n e stage b (l ∷ m ∷ ls) c i z = by (line_of l) z (λ x s y. lines_formed a (suc n) x s y (m ∷ ls) c)
  where
    Next : Type 0
    Next = (x s : ℕ) (y : Formula) → Reached s y → read_lines a (suc n) x s y (m ∷ ls) ≡ opened c → FormulaFacts c × (c.limits ≡ y.limits)

    onward : Line → Formula → Opened
    onward f x = cond (is_end f) (at_end (suc n) x (m ∷ ls)) (read_lines a (suc n) (edition_after e f) (stage_after (rank_of f)) x (m ∷ ls))

    last : (f : Line) (t : Bool) → Reached (stage_after (rank_of f)) (with_line b f)
        → cond t (at_end (suc n) (with_line b f) (m ∷ ls)) (read_lines a (suc n) (edition_after e f) (stage_after (rank_of f)) (with_line b f) (m ∷ ls)) ≡ opened c → Next → FormulaFacts c × (c.limits ≡ (with_line b f).limits)
    last f true j y ih = subst (λ (x : Formula). FormulaFacts x × (x.limits ≡ (with_line b f).limits)) (at_end_lem (suc n) (with_line b f) (m ∷ ls) c y) (j.facts, refl)
    last f false j y ih = ih (edition_after e f) (stage_after (rank_of f)) (with_line b f) j y

    by : (o : Option Line) → read_line a n e stage b o onward ≡ opened c → Next → FormulaFacts c × (c.limits ≡ b.limits)
    by none y ih = absurd (never_opened 1 n c y)
    by (some f) y ih =
        let w = went n (line_fault a e stage b f) (onward f (with_line b f)) c y in
        let r = last f (is_end f) (line_formed a e stage b f i w.0) w.1 ih in
        (r.0, r.1 ∙ (line_grows b f).1)

module _ (a : Editions) (L : Limits) (room : limits_are_ok L ≡ true) (s : Bytes) (b : Formula) (e : open_editions a L s ≡ opened b) where
  facts : FormulaFacts b × (b.limits ≡ L)
  facts = lines_formed a 1 0 0 (empty_formula L) (split newline s) b (reached_none L room) (fits_text a L s b e).1

  -- a text that opens gives a well-formed formula
  pub opened_formula : formula_is_ok b ≡ true
  opened_formula = facts_formula b facts.0

  pub opened_limits : b.limits ≡ L
  opened_limits = facts.1

  -- and, with an empty store, a well-formed state
  pub opened_state : well_formed (fresh b) ≡ true
  opened_state = fresh_formed b facts.0
