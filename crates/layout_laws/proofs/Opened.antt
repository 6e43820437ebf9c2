-- What a text opens is well formed.
use Prim.Native.Nat.{ℕ, suc, ◌≤◌, ◌<◌, zero-le}
use mathlib.Core.Path.{◌≡◌, refl, sym, ◌∙◌, subst}
use mathlib.Core.Bool.{Bool, true, false, cond, not, ◌&&◌}
use mathlib.Core.List.{List, [], ◌∷◌, ◌++◌, map}
use mathlib.Core.Option.{Option, none, some}
use native.Mathlib.Omega.{arith}
use borrow.Author.Tests.{eqb-true, ltb-false, leb-true, le-leb}
use lib.ListN.{length}
use lib.Dec.{eqb, leb, ltb}
use Rattle.qbf.specs.Formula.{Limits, Quantifier, free, exists, forall, Prefix, quantifiers, Clause, Formula}
use Rattle.qbf.specs.Learning.{empty_store}
use Rattle.qbf.specs.Calls.{limits_are_ok, clauses_are_ok, formula_is_ok, store_is_ok, records_are_ok, well_formed}
use Rattle.qbf.specs.Runs.{fresh}
use Rattle.theory.proofs.Basics.{and_both, not_false}
use Rattle.theory.proofs.WellFormed.{FormulaFacts, facts_formula}
use Rattle.theory.proofs.AcceptedRule.{given_none, rule_formula}
use Rattle.layout.specs.Words.{Bytes, split, newline}
use Rattle.layout.specs.Forms.{Form, book, block, clause, end, form_of}
use Rattle.layout.specs.Opening.{rank, allowed, stage_after, variable, declare_fault, with_block, form_fault, line_fault, with_form, Opened, refused, opened, refused_or, read_line, at_end, is_end, read_lines, empty_formula, open_text, text_bytes}
use Rattle.layout_laws.proofs.Blocks.{Before, block_prefix, block_free}

-- ---- lines
-- what is known at a stage: before the flags' line no variable, before the first rule no clause
pub record Reached (stage : ℕ) (b : Formula) : Type 0 where
  pub facts : FormulaFacts b
  pub no_variables : stage ≤ 1 → b.prefix ≡ []
  pub no_clauses : stage ≤ 2 → b.clauses ≡ []

none_ok : (L : Limits) (D : Prefix) (R : List Clause) → R ≡ [] → clauses_are_ok L D R ≡ true
none_ok L D R e = subst (λ (R : List Clause). clauses_are_ok L D R ≡ true) (sym e) (and_both (leb 0 L.clauses) true (le-leb 0 L.clauses zero-le) refl)

block_facts : (b : Formula) (κ : Quantifier) (ns : List ℕ) → FormulaFacts b → b.clauses ≡ [] → Before κ (quantifiers b.prefix) → declare_fault b.limits κ b.prefix ns ≡ none
    → FormulaFacts (with_block κ b ns)
block_facts b κ ns h r g e =
    record {
      limits_ok = h.limits_ok;
      free_ok = block_free b.limits κ b.prefix ns h.free_ok e;
      prefix_ok = block_prefix b.limits κ b.prefix ns h.prefix_ok g e;
      clauses_ok = none_ok b.limits (b.prefix ++ map (variable κ) ns) b.clauses r;
    }

pub allowed_is : (stage r : ℕ) → allowed stage r ≡ true → (stage ≤ r) × (r < 2 → stage ≡ r)
allowed_is stage r e = by (ltb stage 2) refl e
  where
    by : (t : Bool) → ltb stage 2 ≡ t → cond t (eqb r stage) (leb stage r) ≡ true → (stage ≤ r) × (r < 2 → stage ≡ r)
    by true q z = let y : r ≡ stage = eqb-true r stage z in (omega arith, λ h. omega arith)
    by false q z = let y : stage ≤ r = leb-true stage r z in let x : 2 ≤ stage = ltb-false stage 2 q in (omega arith, λ h. omega arith)

form_reached : (stage : ℕ) (b : Formula) (f : Form) → Reached stage b → (stage ≤ rank f) × (rank f < 2 → stage ≡ rank f) → form_fault b f ≡ none → Reached (stage_after (rank f)) (with_form b f)
unfolding Before
form_reached stage b (book e) i a q =
    record { facts = i.facts; no_variables = λ h. i.no_variables (omega (arith, a.0)); no_clauses = λ h. i.no_clauses (omega (arith, a.0)) }
form_reached stage b (block free ns) i a q =
    record {
      facts = block_facts b free ns i.facts (i.no_clauses (omega (arith, a.0))) (rw (i.no_variables a.0)) q;
      no_variables = λ h. absurd (omega arith);
      no_clauses = λ h. i.no_clauses (omega (arith, a.0));
    }
form_reached stage b (block exists ns) i a q =
    record { facts = block_facts b exists ns i.facts (i.no_clauses a.0) tt q; no_variables = λ h. absurd (omega arith); no_clauses = λ h. i.no_clauses a.0 }
form_reached stage b (block forall ns) i a q =
    record { facts = block_facts b forall ns i.facts (i.no_clauses a.0) tt q; no_variables = λ h. absurd (omega arith); no_clauses = λ h. i.no_clauses a.0 }
form_reached stage b (clause ls) i a q =
    record { facts = rule_formula b ls i.facts none q; no_variables = λ h. absurd (omega arith); no_clauses = λ h. absurd (omega arith) }
form_reached stage b end i a q = record { facts = i.facts; no_variables = λ h. absurd (omega arith); no_clauses = λ h. absurd (omega arith) }

pub line_reached : (stage : ℕ) (b : Formula) (f : Form) → Reached stage b → line_fault stage b f ≡ none → Reached (stage_after (rank f)) (with_form b f)
line_reached stage b f i e =
    let q = given_none (not (allowed stage (rank f))) 1 (form_fault b f) e in
    form_reached stage b f i (allowed_is stage (rank f) (not_false (allowed stage (rank f)) q.0)) q.1

-- before the first line
pub reached_none : (L : Limits) → limits_are_ok L ≡ true → Reached 0 (empty_formula L)
reached_none L room =
    record {
      facts = record { limits_ok = room; free_ok = refl; prefix_ok = refl; clauses_ok = none_ok L [] [] refl };
      no_variables = λ h. refl;
      no_clauses = λ h. refl;
    }

-- a well-formed formula with an empty store is a well-formed state
pub fresh_formed : (b : Formula) → FormulaFacts b → well_formed (fresh b) ≡ true
fresh_formed b h =
    and_both (formula_is_ok b) (store_is_ok b.limits b.prefix empty_store && records_are_ok (length b.clauses) empty_store) (facts_formula b h)
    (and_both (store_is_ok b.limits b.prefix empty_store) (records_are_ok (length b.clauses) empty_store) none_stored refl)
  where
    none_stored : store_is_ok b.limits b.prefix empty_store ≡ true
    none_stored = rw (le-leb 0 b.limits.constraints zero-le)

-- ---- the text
pub never_opened : (k n : ℕ) (b : Formula) → refused k n ≡ opened b → ⊥
never_opened k n b e = let z : ◌≡◌ {A = ℕ} 0 1 = cc in omega arith

-- what opened was not refused
pub went : (n : ℕ) (o : Option ℕ) (x : Opened) (b : Formula) → refused_or n o x ≡ opened b → (o ≡ none) × (x ≡ opened b)
went n none x b e = (refl, e)
went n (some k) x b e = absurd (never_opened k n b e)

pub at_end_lem : (n : ℕ) (b : Formula) (ls : List Bytes) (b' : Formula) → at_end n b ls ≡ opened b' → b ≡ b'
at_end_lem n b [] b' e = absurd (never_opened 1 n b' e)
at_end_lem n b ([] ∷ []) b' e = cc
at_end_lem n b ([] ∷ l ∷ ls) b' e = absurd (never_opened 1 n b' e)
at_end_lem n b ((c ∷ l) ∷ ls) b' e = absurd (never_opened 1 n b' e)

pub same_limits : (b : Formula) (f : Form) → (with_form b f).limits ≡ b.limits
same_limits b (book x) = refl
same_limits b (block κ ns) = refl
same_limits b (clause r) = refl
same_limits b end = refl

pub lines_facts : (n stage : ℕ) (b : Formula) (ls : List Bytes) (b' : Formula) → Reached stage b → read_lines n stage b ls ≡ opened b' → FormulaFacts b' × (b'.limits ≡ b.limits)
unfolding read_lines
lines_facts n stage b [] b' i e = absurd (never_opened 1 n b' e)
lines_facts n stage b (l ∷ []) b' i e = absurd (never_opened 1 n b' e)
lines_facts n stage b (l ∷ m ∷ ls) b' i e = by (form_of l) e (λ s x. lines_facts (suc n) s x (m ∷ ls) b')
  where
    Next : Type 0
    Next = (s : ℕ) (x : Formula) → Reached s x → read_lines (suc n) s x (m ∷ ls) ≡ opened b' → FormulaFacts b' × (b'.limits ≡ x.limits)

    onward : Form → Formula → Opened
    onward f x = cond (is_end f) (at_end (suc n) x (m ∷ ls)) (read_lines (suc n) (stage_after (rank f)) x (m ∷ ls))

    last : (f : Form) (t : Bool) → Reached (stage_after (rank f)) (with_form b f)
        → cond t (at_end (suc n) (with_form b f) (m ∷ ls)) (read_lines (suc n) (stage_after (rank f)) (with_form b f) (m ∷ ls)) ≡ opened b' → Next → FormulaFacts b' × (b'.limits ≡ (with_form b f).limits)
    last f true j z ih = subst (λ (x : Formula). FormulaFacts x × (x.limits ≡ (with_form b f).limits)) (at_end_lem (suc n) (with_form b f) (m ∷ ls) b' z) (j.facts, refl)
    last f false j z ih = ih (stage_after (rank f)) (with_form b f) j z

    go : (f : Form) (o : Option ℕ) → line_fault stage b f ≡ o → refused_or n o (onward f (with_form b f)) ≡ opened b' → Next → FormulaFacts b' × (b'.limits ≡ b.limits)
    go f none q z ih = let r = last f (is_end f) (line_reached stage b f i q) z ih in (r.0, r.1 ∙ same_limits b f)
    go f (some k) q z ih = absurd (never_opened k n b' z)

    by : (o : Option Form) → read_line n stage b o onward ≡ opened b' → Next → FormulaFacts b' × (b'.limits ≡ b.limits)
    by none z ih = absurd (never_opened 1 n b' z)
    by (some f) z ih = go f (line_fault stage b f) refl z ih

module _ (L : Limits) (room : limits_are_ok L ≡ true) (s : Bytes) (b : Formula) (e : open_text L s ≡ opened b) where
  facts : FormulaFacts b × (b.limits ≡ L)
  unfolding open_text
  facts = by (ltb text_bytes (length s)) e
    where
      by : (t : Bool) → cond t (refused 9 0) (read_lines 1 0 (empty_formula L) (split newline s)) ≡ opened b → FormulaFacts b × (b.limits ≡ L)
      by true z = absurd (never_opened 9 0 b z)
      by false z =
          lines_facts 1 0 (empty_formula L) (split newline s) b (reached_none L room) z

  -- a text that opens gives a well-formed formula
  pub opened_formula : formula_is_ok b ≡ true
  opened_formula = facts_formula b facts.0

  pub opened_limits : b.limits ≡ L
  opened_limits = facts.1

  -- and, with an empty store, a well-formed state
  pub opened_state : well_formed (fresh b) ≡ true
  opened_state = fresh_formed b facts.0
