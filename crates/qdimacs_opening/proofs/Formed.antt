-- What a QDIMACS text opens is well formed, under any limits that are. A text with too many flags is read as one in which they stand as variables of exists,
-- which is well formed.
use Prim.Native.Nat.{ℕ, suc, ◌≤◌, ◌<◌, zero-le}
use native.Mathlib.Omega.{arith}
use mathlib.Core.Path.{◌≡◌, refl, sym, ap, subst, ◌∙◌}
use mathlib.Core.Bool.{Bool, true, false, cond, not, ◌||◌, true≢false}
use mathlib.Core.List.{List, [], ◌∷◌, ◌++◌, map, append_assoc, append-nil}
use mathlib.Core.Option.{Option, none, some}
use native.Mathlib.Decide.{dec_lt}
use borrow.Author.Tests.{eqb-true, eqb-false, ltb-false, le-leb}
use lib.Dec.{eqb, leb, ltb}
use lib.ListN.{length}
use Rattle.qbf.specs.Formula.{Limits, most_free, Quantifier, Prefix, quantifiers, Formula, place_of}
use Rattle.qbf.specs.Truth.{free_variables}
use Rattle.qbf.specs.Calls.{given, no_free, free_first, limits_are_ok, numbers_are_ok, formula_is_ok, well_formed, rule_fault, with_rule, ◌or_else◌}
use Rattle.qbf.specs.Runs.{fresh}
use Rattle.theory.proofs.Basics.{and_both, not_false}
use Rattle.theory.proofs.AcceptedRule.{given_none, rule_formula}
use Rattle.theory.proofs.WellFormed.{FormulaFacts, facts_formula}
use Rattle.state.specs.Reading.{quantifier_of}
use Rattle.layout.specs.Words.{Bytes, newline, split}
use Rattle.layout.specs.Opening.{text_bytes, variable, refused, opened, refused_or}
use Rattle.layout_laws.proofs.Blocks.{number_declared, in_range}
use Rattle.layout_laws.proofs.Opened.{never_opened, fresh_formed}
use Rattle.qdimacs_form.specs.Lines.{Line, comment, header, group, clause, line_of}
use Rattle.qdimacs_form.specs.Opening.{flags_up_to, completed, Reading, group_fault, whole, line_fault, after, read_line, crowded, end_fault, at_end, read_lines, start, read_qdimacs, open_qdimacs}
use Rattle.qdimacs_laws.proofs.Spoken.{line_spoken}
use Rattle.qdimacs_opening.specs.Built.{Formed, crowd_for, kind_for}
use Rattle.qdimacs_opening.specs.Stands.{with_freed}
use Rattle.qdimacs_opening.proofs.Freed.{rule_freed, rule_added, flags_counted}
use Rattle.qdimacs_opening.proofs.Forming.{formed_whole}
use Rattle.qdimacs_opening.proofs.Completing.{crowd_freed, crowd_told}
use Rattle.qdimacs_opening.proofs.Taking.{none_free_more}

-- ---- what is known of what was read
-- a formula that is well formed where its first variables stand as they may
record Standing (b : Formula) : Type 0 where
  count : ℕ
  under : Formula
  facts : FormulaFacts under
  same : with_freed count under ≡ b
  crowd : 0 < count → ltb most_free (free_variables b.prefix) ≡ true

record Early (L : Limits) (r : Reading) : Type 0 where
  few : r.variables ≤ L.numbers
  clauses : r.formula.clauses ≡ []
  numbers_ok : numbers_are_ok L [] r.formula.prefix ≡ true
  none_free : no_free (quantifiers r.formula.prefix) ≡ true

record Known (L : Limits) (r : Reading) : Type 0 where
  limits : r.formula.limits ≡ L
  early : r.stage ≤ 1 → Early L r
  later : 2 ≤ r.stage → Standing r.formula

-- ---- the whole formula
completed_stands : (L : Limits) → limits_are_ok L ≡ true → (v : ℕ) (D : Prefix) → v ≤ L.numbers → numbers_are_ok L [] D ≡ true → no_free (quantifiers D) ≡ true → Standing (completed v (record { limits = L; prefix = D; clauses = [] }))
completed_stands L low v D few numbers_ok none_free =
    record {
      count = k;
      under = record { limits = L; prefix = W; clauses = [] };
      facts = record {
        limits_ok = low;
        free_ok = f.few;
        prefix_ok = and_both (numbers_are_ok L [] W) (free_first (quantifiers W)) f.numbers_ok f.first;
        clauses_ok = and_both (leb 0 L.clauses) true (le-leb 0 L.clauses zero-le) refl;
      };
      same = ap (λ (E : Prefix). record { limits = L; prefix = E; clauses = [] }) (crowd_freed ns D);
      crowd = λ h. ap (ltb most_free) (flags_counted ns D none_free) ∙ crowd_told (length ns) h;
    }
  where
    ns : List ℕ
    ns = flags_up_to D v

    k : ℕ
    k = crowd_for (length ns)

    W : Prefix
    W = map (variable (quantifier_of (kind_for k))) ns ++ D

    f : Formed L W
    f = formed_whole L D v few numbers_ok none_free

module _ (L : Limits) (low : limits_are_ok L ≡ true) where
  whole_stands : (r : Reading) → Known L r → (r.stage ≡ 0 → ⊥) → Standing (whole r)
  whole_stands r i started = by (eqb r.stage 1) refl
    where
      by : (t : Bool) → eqb r.stage 1 ≡ t → Standing (cond t (completed r.variables r.formula) r.formula)
      by true e =
          let h : r.stage ≡ 1 = eqb-true r.stage 1 e in
          let a = i.early (omega (arith, h)) in
          subst (λ (b : Formula). Standing (completed r.variables b)) (sym (λ j. record { limits = i.limits j; prefix = r.formula.prefix; clauses = a.clauses j }))
          (completed_stands L low r.variables r.formula.prefix a.few a.numbers_ok a.none_free)
      by false e = let h : r.stage ≡ 1 → ⊥ = eqb-false r.stage 1 e in i.later (omega (arith, h, started))

  whole_limits : (r : Reading) → (whole r).limits ≡ r.formula.limits
  whole_limits r = by (eqb r.stage 1)
    where
      by : (t : Bool) → (cond t (completed r.variables r.formula) r.formula).limits ≡ r.formula.limits
      by true = refl
      by false = refl

  -- ---- a line
  group_numbers : (v : ℕ) (κ : Quantifier) (D : Prefix) (ns : List ℕ) → numbers_are_ok L [] D ≡ true → group_fault L v κ D ns ≡ none → numbers_are_ok L [] (D ++ map (variable κ) ns) ≡ true
  group_numbers v κ D [] h e = ap (numbers_are_ok L []) (append-nil D) ∙ h
  group_numbers v κ D (n ∷ ns) h e =
      subst (λ (E : Prefix). numbers_are_ok L [] E ≡ true) (append_assoc D (variable κ n ∷ []) (map (variable κ) ns))
      (group_numbers v κ (D ++ (variable κ n ∷ [])) ns (number_declared L κ D n h (in_range L D n a.0 c.0)) c.1)
    where
      rest : Option ℕ
      rest = group_fault L v κ (D ++ (variable κ n ∷ [])) ns

      a : ((eqb n 0 || ltb L.numbers n) ≡ false) × ((given (ltb v n) 5 or_else given (not (eqb (place_of D n) 0)) 4 or_else rest) ≡ none)
      a = given_none (eqb n 0 || ltb L.numbers n) 3 (given (ltb v n) 5 or_else given (not (eqb (place_of D n) 0)) 4 or_else rest) e

      c : (not (eqb (place_of D n) 0) ≡ false) × (rest ≡ none)
      c = given_none (not (eqb (place_of D n) 0)) 4 rest (given_none (ltb v n) 5 (given (not (eqb (place_of D n) 0)) 4 or_else rest) a.1).1

  line_known : (r : Reading) (l : Bytes) (f : Line) → line_of l ≡ some f → Known L r → line_fault r f ≡ none → Known L (after r f)
  line_known r l comment s i e = i
  line_known r l (header v c) s i e =
      record {
        limits = i.limits;
        early = λ h. record { few = few; clauses = a.clauses; numbers_ok = a.numbers_ok; none_free = a.none_free };
        later = λ h. absurd (omega (arith, h));
      }
    where
      g : (not (eqb r.stage 0) ≡ false) × (given (ltb r.formula.limits.numbers v) 3 ≡ none)
      g = given_none (not (eqb r.stage 0)) 1 (given (ltb r.formula.limits.numbers v) 3) e

      first : r.stage ≡ 0
      first = eqb-true r.stage 0 (not_false (eqb r.stage 0) g.0)

      a : Early L r
      a = i.early (omega (arith, first))

      no_fault : (t : Bool) → given t 3 ≡ none → t ≡ false
      no_fault t z = (given_none t 3 none (by t z)).0
        where
          by : (t : Bool) → given t 3 ≡ none → (given t 3 or_else none) ≡ none
          by true z = z
          by false z = refl

      few : v ≤ L.numbers
      few = subst (λ (M : Limits). v ≤ M.numbers) i.limits (ltb-false r.formula.limits.numbers v (no_fault (ltb r.formula.limits.numbers v) g.1))
  line_known r l (group κ ns) s i e =
      record {
        limits = i.limits;
        early = λ h. record {
          few = a.few;
          clauses = a.clauses;
          numbers_ok = group_numbers r.variables κ r.formula.prefix ns a.numbers_ok (subst (λ (M : Limits). group_fault M r.variables κ r.formula.prefix ns ≡ none) i.limits g.1);
          none_free = none_free_more κ (line_spoken l (group κ ns) s).0 r.formula.prefix ns a.none_free;
        };
        later = λ h. absurd (omega (arith, h));
      }
    where
      g : (not (eqb r.stage 1) ≡ false) × (group_fault r.formula.limits r.variables κ r.formula.prefix ns ≡ none)
      g = given_none (not (eqb r.stage 1)) 1 (group_fault r.formula.limits r.variables κ r.formula.prefix ns) e

      a : Early L r
      a = let h : r.stage ≡ 1 = eqb-true r.stage 1 (not_false (eqb r.stage 1) g.0) in i.early (omega (arith, h))
  line_known r l (clause ls) s i e =
      record {
        limits = whole_limits r ∙ i.limits;
        early = λ h. absurd (omega (arith, h));
        later = λ h. record {
          count = w.count;
          under = with_rule none w.under ls;
          facts = rule_formula w.under ls w.facts none (sym (rule_freed w.count w.under ls) ∙ ap (λ (b : Formula). rule_fault b ls) w.same ∙ g.1);
          same = sym (rule_added w.count w.under ls) ∙ ap (λ (b : Formula). with_rule none b ls) w.same;
          crowd = w.crowd;
        };
      }
    where
      g : (eqb r.stage 0 ≡ false) × (rule_fault (whole r) ls ≡ none)
      g = given_none (eqb r.stage 0) 1 (rule_fault (whole r) ls) e

      w : Standing (whole r)
      w = whole_stands r i (eqb-false r.stage 0 g.0)

  -- ---- the text
  end_known : (n : ℕ) (r : Reading) (b : Formula) → Known L r → at_end n r ≡ opened b → FormulaFacts b
  end_known n r b i e = by (end_fault r) refl e
    where
      fine : end_fault r ≡ none → FormulaFacts (whole r)
      fine z = subst FormulaFacts (ap (λ (k : ℕ). with_freed k w.under) (sym none_crowd) ∙ w.same) w.facts
        where
          g : (eqb r.stage 0 ≡ false) × ((given (crowded r) 33 or_else given (not (eqb (length r.formula.clauses) r.clauses)) 30) ≡ none)
          g = given_none (eqb r.stage 0) 1 (given (crowded r) 33 or_else given (not (eqb (length r.formula.clauses) r.clauses)) 30) z

          w : Standing (whole r)
          w = whole_stands r i (eqb-false r.stage 0 g.0)

          none_crowd : w.count ≡ 0
          none_crowd = few (dec_lt 0 w.count)
            where
              few : Dec (0 < w.count) → w.count ≡ 0
              few (yes q) = absurd (true≢false (sym (w.crowd q) ∙ (given_none (crowded r) 33 (given (not (eqb (length r.formula.clauses) r.clauses)) 30) g.1).0))
              few (no q) = omega (arith, q)

      by : (o : Option ℕ) → end_fault r ≡ o → refused_or n o (opened (whole r)) ≡ opened b → FormulaFacts b
      by none z q = subst FormulaFacts (let u : whole r ≡ b = cc in u) (fine z)
      by (some k) z q = absurd (never_opened k n b q)

  lines_known : (n : ℕ) (r : Reading) (ls : List Bytes) (b : Formula) → Known L r → read_lines n r ls ≡ opened b → FormulaFacts b
  unfolding read_lines
  lines_known n r [] b i e = absurd (never_opened 1 n b e)
  lines_known n r ([] ∷ []) b i e = end_known n r b i e
  lines_known n r ((c ∷ l) ∷ []) b i e = absurd (never_opened 1 n b e)
  lines_known n r (l ∷ m ∷ ls) b i e = by l refl (line_of l) refl (λ q. lines_known (suc n) q (m ∷ ls) b) (first l ∙ e)
    where
      first : (l : Bytes) → read_line n r (line_of l) (λ q. read_lines (suc n) q (m ∷ ls)) ≡ read_lines n r (l ∷ m ∷ ls)
      first [] = refl
      first (c ∷ l) = refl

      go : (x : Bytes) (f : Line) → line_of x ≡ some f → (o : Option ℕ) → line_fault r f ≡ o → refused_or n o (read_lines (suc n) (after r f) (m ∷ ls)) ≡ opened b
          → ((q : Reading) → Known L q → read_lines (suc n) q (m ∷ ls) ≡ opened b → FormulaFacts b) → FormulaFacts b
      go x f s none z q ih = ih (after r f) (line_known r x f s i z) q
      go x f s (some k) z q ih = absurd (never_opened k n b q)

      by : (x : Bytes) → x ≡ l → (o : Option Line) → line_of x ≡ o → ((q : Reading) → Known L q → read_lines (suc n) q (m ∷ ls) ≡ opened b → FormulaFacts b)
          → read_line n r (line_of x) (λ q. read_lines (suc n) q (m ∷ ls)) ≡ opened b → FormulaFacts b
      by x y none s ih z = absurd (never_opened 1 n b (ap (λ (o : Option Line). read_line n r o (λ q. read_lines (suc n) q (m ∷ ls))) (sym s) ∙ z))
      by x y (some f) s ih z = go x f s (line_fault r f) refl (ap (λ (o : Option Line). read_line n r o (λ q. read_lines (suc n) q (m ∷ ls))) (sym s) ∙ z) ih

  opened_facts : (s : Bytes) (b : Formula) → open_qdimacs L s ≡ opened b → FormulaFacts b
  unfolding open_qdimacs read_qdimacs
  opened_facts s b e = by (ltb text_bytes (length s)) e
    where
      by : (t : Bool) → cond t (refused 9 0) (read_lines 1 (start L) (split newline s)) ≡ opened b → FormulaFacts b
      by true z = absurd (never_opened 9 0 b z)
      by false z =
          lines_known 1 (start L) (split newline s) b
          (record { limits = refl; early = λ h. record { few = zero-le; clauses = refl; numbers_ok = refl; none_free = refl }; later = λ h. absurd (omega (arith, h)) }) z

  pub opened_formula : (s : Bytes) (b : Formula) → open_qdimacs L s ≡ opened b → formula_is_ok b ≡ true
  opened_formula s b e = facts_formula b (opened_facts s b e)

  -- with an empty store it is a well-formed state
  pub opened_state : (s : Bytes) (b : Formula) → open_qdimacs L s ≡ opened b → well_formed (fresh b) ≡ true
  opened_state s b e = fresh_formed b (opened_facts s b e)
