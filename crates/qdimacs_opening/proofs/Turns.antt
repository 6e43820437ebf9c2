-- A QDIMACS text's lines: each leaves what the lines after it open.
use Prim.Native.Nat.{zero, zero-le, ℕ, suc, ◌+◌, ◌≤◌}
use mathlib.Core.Path.{◌≡◌, refl, sym, ap, subst, ◌∙◌}
use mathlib.Core.Bool.{Bool, true, false, cond, not}
use mathlib.Core.List.{List, [], ◌∷◌}
use mathlib.Core.Option.{Option, none, some}
use native.Mathlib.Omega.{arith}
use borrow.Author.Tests.{eq-eqb, ne_eqb, le-ltb, lt-ltb, leb-true, ltb-false}
use denote.Enum.Bare.{sameb}
use lib.Dec.{eqb, ltb}
use lib.IntN.{ℤ}
use lib.ListN.{length, get_or}
use Rattle.std.specs.Prelude.{Result, Ok, Err}
use Rattle.qbf.specs.Formula.{Limits, Formula, most_free, quantifiers}
use Rattle.qbf.specs.Truth.{free_variables}
use Rattle.qbf.specs.Calls.{given, no_free, limits_are_ok, ◌or_else◌}
use Rattle.qbf.specs.Runs.{fresh}
use Rattle.theory.proofs.AcceptedRule.{given_none}
use Rattle.tables.proofs.Laws.{rows_length}
use Rattle.state_parts.specs.Layout.{limits_in}
use Rattle.state_parts.specs.Initial.{empty_under}
use Rattle.state_parts.specs.Parts.{limits_of, clause_count, clause_sizes_at, state_at, read_at}
use Rattle.state_parts.proofs.Cutting.{part_at}
use Rattle.refusal.specs.declared.Refusal.{Refusal}
use Rattle.refusal.specs.declared.Refusal.TheVariants.{NotInLayout}
use Rattle.refusal.specs.Refusal.{number_of, fault_in}
use Rattle.layout.specs.Words.{Bytes, newline, split}
use Rattle.layout.specs.Opening.{text_bytes, Opened, refused, opened, refused_or, empty_formula}
use Rattle.layout_laws.proofs.Opened.{reached_none}
use Rattle.opening.specs.declared.text.RefusedAt.{RefusedAt}
use Rattle.opening.specs.Lines.{within_text, at_line, TakesAt, EndsAt, ReadAt}
use Rattle.opening.specs.Standing.{formula_at, Standing}
use Rattle.opening.proofs.Laws.{formula_is, stands_by}
use Rattle.opening.proofs.Reading.{Rest}
use Rattle.qdimacs_form.specs.Lines.{Line, line_of}
use Rattle.qdimacs_form.specs.Opening.{Reading, completed, whole, after, read_line, crowded, at_end, read_lines, read_qdimacs, open_qdimacs}
use Rattle.qdimacs_opening.specs.contracts.head.Part.{the_type}
use Rattle.qdimacs_opening.specs.declared.head.Part.{Part}
use Rattle.qdimacs_opening.specs.declared.head.Part.TheVariants.{Start, Groups, Clauses}
use Rattle.qdimacs_opening.specs.declared.problem.Problem.{Problem}
use Rattle.qdimacs_opening.specs.Stands.{part_of, own_stage, with_freed, reading_at, problem_stands}
use Rattle.qdimacs_opening.specs.Lines.{WholeAt, TookAt, problem_opens}

-- ---- before the first line
module _ (p : Problem) (first : (part_of p.head.part ≡ 0) × (p.head.variables ≡ 0) × (p.head.clauses ≡ 0) × (p.head.crowd ≡ 0)) {L : Limits} (under : limits_in p.layout ≡ L) (low : limits_are_ok L ≡ true) (cells : List ℕ) (literals : List ℤ) (e : read_at cells literals ≡ some (empty_under L)) where
  empty : formula_at cells literals ≡ empty_formula L
  empty = formula_is cells literals (empty_formula L) e

  pub first_stands : problem_stands p cells literals
  first_stands =
      record {
        stands =
            subst (λ (M : Limits). Standing M (own_stage (part_of p.head.part)) cells literals) (sym under)
            (subst (λ (k : ℕ). Standing L (own_stage k) cells literals) (sym first.0) (stands_by cells literals (empty_formula L) 0 e (reached_none L low)));
        few = omega (arith, first.1);
        none_free = λ h. ap (λ (b : Formula). no_free (quantifiers b.prefix)) empty;
        early = λ h. first.3;
        crowded = λ h. absurd (omega (arith, h, first.3));
      }

  pub first_opens : (s : Bytes) → within_text s (problem_opens p cells literals 1 (split newline s)) ≡ open_qdimacs L s
  unfolding open_qdimacs read_qdimacs
  first_opens s =
      ap (λ (r : Reading). within_text s (read_lines 1 r (split newline s)))
      ((λ i. record { stage = first.0 i; variables = first.1 i; clauses = first.2 i; formula = with_freed (first.3 i) (formula_at cells literals) })
      ∙ ap (λ (b : Formula). record { stage = 0; variables = 0; clauses = 0; formula = b }) empty)

-- ---- one line
lines_first : (n : ℕ) (r : Reading) (l m : Bytes) (ws : List Bytes) → read_lines n r (l ∷ m ∷ ws) ≡ read_line n r (line_of l) (λ q. read_lines (suc n) q (m ∷ ws))
unfolding read_lines
lines_first n r [] m ws = refl
lines_first n r (b ∷ l) m ws = refl

pub line_takes : (p : Problem) (cells : List ℕ) (literals : List ℤ) (l : Bytes) (r : Result Problem Refusal) (cells' : List ℕ) (literals' : List ℤ) → TookAt (reading_at p cells literals) (line_of l) r cells' literals' → TakesAt problem_stands problem_opens p cells literals l r cells' literals'
line_takes p cells literals l r cells' literals' w = by (line_of l) refl r w
  where
    s : Reading
    s = reading_at p cells literals

    by : (o : Option Line) → line_of l ≡ o → (r : Result Problem Refusal) → TookAt s o r cells' literals' → TakesAt problem_stands problem_opens p cells literals l r cells' literals'
    by none i (Ok y) w = cc
    by none i (Err q) w = λ n m ls.
        lines_first n s l m ls ∙ ap (λ (o : Option Line). read_line n s o (λ q. read_lines (suc n) q (m ∷ ls))) i ∙ ap (λ (k : Refusal). refused (number_of k) n) (let v : NotInLayout ≡ q = cc in v)
    by (some f) i (Err q) w = λ n m ls.
        lines_first n s l m ls ∙ ap (λ (o : Option Line). read_line n s o (λ q. read_lines (suc n) q (m ∷ ls))) i
        ∙ ap (λ (o : Option ℕ). refused_or n o (read_lines (suc n) (after s f) (m ∷ ls))) w.fault
    by (some f) i (Ok y) w = (
      w.advanced.stands,
      λ n m ls.
          lines_first n s l m ls ∙ ap (λ (o : Option Line). read_line n s o (λ q. read_lines (suc n) q (m ∷ ls))) i
          ∙ ap (λ (o : Option ℕ). refused_or n o (read_lines (suc n) (after s f) (m ∷ ls))) w.fault
          ∙ ap (λ (t : Reading). read_lines (suc n) t (m ∷ ls)) (sym w.advanced.reading),
    )

-- ---- the end
last : (n : ℕ) (s : Reading) → read_lines n s ([] ∷ []) ≡ at_end n s
unfolding read_lines
last n s = refl

whole_clauses : (s : Reading) → (whole s).clauses ≡ s.formula.clauses
whole_clauses s = by (eqb s.stage 1)
  where
    by : (t : Bool) → (cond t (completed s.variables s.formula) s.formula).clauses ≡ s.formula.clauses
    by true = refl
    by false = refl

pub end_started : (s : Reading) → s.stage ≡ 0 → (cells : List ℕ) (literals : List ℤ) → EndsAt (λ n ls. read_lines n s ls) cells literals (Err NotInLayout)
end_started s e cells literals = λ n. last n s ∙ rw (eq-eqb s.stage 0 e) refl

module _ {s : Reading} (started : s.stage ≡ 0 → ⊥) {y : Problem} {cells : List ℕ} {literals : List ℤ} (w : WholeAt s y cells literals) where
  abbrev c : Formula
  c = formula_at cells literals

  is_whole : with_freed y.head.crowd c ≡ whole s
  is_whole = ap (λ (q : Reading). q.formula) w.reading

  -- the flags are too many where they stand as variables of exists
  crowd_told : crowded s ≡ ltb 0 y.head.crowd
  crowd_told = by y.head.crowd refl
    where
      by : (k : ℕ) → y.head.crowd ≡ k → crowded s ≡ ltb 0 k
      by zero e =
          ap (λ (b : Formula). ltb most_free (free_variables b.prefix)) (sym (ap (λ (j : ℕ). with_freed j c) (sym e) ∙ is_whole))
          ∙ le-ltb most_free (free_variables c.prefix) (leb-true (free_variables c.prefix) most_free w.stands.stands.reached.facts.free_ok)
          ∙ sym (le-ltb 0 0 zero-le)
      by (suc k) e =
          ap (λ (b : Formula). ltb most_free (free_variables b.prefix)) (sym is_whole) ∙ w.stands.crowded (omega (arith, e))
          ∙ sym (lt-ltb 0 (suc k) (omega arith))

  module _ {count : ℕ} (is : count ≡ get_or cells (clause_sizes_at (limits_in y.layout)) 0) where
    counted : length s.formula.clauses ≡ count
    counted =
        ap length (sym (whole_clauses s)) ∙ ap (λ (b : Formula). length b.clauses) (sym is_whole)
        ∙ rows_length (limits_of cells).literals (state_at cells literals).clauses (state_at cells literals).clause_sizes (get_or (state_at cells literals).clause_sizes 0 0)
        ∙ part_at (clause_sizes_at (limits_of cells)) (clause_count (limits_of cells)) cells 0 0 (omega arith)
        ∙ ap (λ (L : Limits). get_or cells (clause_sizes_at L + 0) 0) w.stands.stands.limits
        ∙ ap (λ (i : ℕ). get_or cells i 0) (let z : clause_sizes_at (limits_in y.layout) + 0 ≡ clause_sizes_at (limits_in y.layout) = omega arith in z)
        ∙ sym is

    at_end_is : (n : ℕ) → at_end n s ≡ refused_or n (given (ltb 0 y.head.crowd) 33 or_else given (not (eqb count y.head.clauses)) 30) (opened (whole s))
    at_end_is n = rw (ne_eqb s.stage 0 started, crowd_told, counted, sym (ap (λ (q : Reading). q.clauses) w.reading)) refl

    pub end_judged : (r : Result (Unit {0}) Refusal) → fault_in r ≡ (given (ltb 0 y.head.crowd) 33 or_else given (not (eqb count y.head.clauses)) 30) → EndsAt (λ n ls. read_lines n s ls) cells literals r
    end_judged (Err q) e = λ n. last n s ∙ at_end_is n ∙ ap (λ (o : Option ℕ). refused_or n o (opened (whole s))) (sym e)
    end_judged (Ok u) e = λ n.
        subst (λ (o : Opened). ReadAt o (Ok u) cells literals) (sym (last n s ∙ at_end_is n ∙ ap (λ (o : Option ℕ). refused_or n o (opened (whole s))) (sym e)))
        (w.stands.stands.read ∙ ap (λ (b : Formula). some (fresh b)) (ap (λ (k : ℕ). with_freed k c) (sym few) ∙ is_whole))
      where
        few : y.head.crowd ≡ 0
        few =
            let z : y.head.crowd ≤ 0 = ltb-false 0 y.head.crowd (given_none (ltb 0 y.head.crowd) 33 (given (not (eqb count y.head.clauses)) 30) (sym e)).0 in
            omega (arith, z)

-- ---- by the parts
pub is_part : (s t : Part) {b : Bool} → b ≡ sameb the_type s t → b ≡ true → part_of s ≡ part_of t
is_part Start Start p q = refl
is_part Start Groups p q = cc
is_part Start Clauses p q = cc
is_part Groups Start p q = cc
is_part Groups Groups p q = refl
is_part Groups Clauses p q = cc
is_part Clauses Start p q = cc
is_part Clauses Groups p q = cc
is_part Clauses Clauses p q = refl

pub not_part : (s t : Part) {b : Bool} → b ≡ sameb the_type s t → b ≡ false → part_of s ≡ part_of t → ⊥
not_part Start Start p q e = cc
not_part Start Groups p q e = omega (arith, e)
not_part Start Clauses p q e = omega (arith, e)
not_part Groups Start p q e = omega (arith, e)
not_part Groups Groups p q e = cc
not_part Groups Clauses p q e = omega (arith, e)
not_part Clauses Start p q e = omega (arith, e)
not_part Clauses Groups p q e = omega (arith, e)
not_part Clauses Clauses p q e = cc

pub same_part : (s t : Part) {b : Bool} → b ≡ not (sameb the_type s t) → b ≡ false → part_of s ≡ part_of t
same_part s t p q = by (sameb the_type s t) refl p q
  where
    by : (x : Bool) → sameb the_type s t ≡ x → {b : Bool} → b ≡ not x → b ≡ false → part_of s ≡ part_of t
    by true i p q = is_part s t refl i
    by false i p q = cc

pub other_part : (s t : Part) {b : Bool} → b ≡ not (sameb the_type s t) → b ≡ true → part_of s ≡ part_of t → ⊥
other_part s t p q = by (sameb the_type s t) refl p q
  where
    by : (x : Bool) → sameb the_type s t ≡ x → {b : Bool} → b ≡ not x → b ≡ true → part_of s ≡ part_of t → ⊥
    by true i p q = cc
    by false i p q = not_part s t refl i

pub last_part : (s : Part) → (part_of s ≡ 0 → ⊥) → (part_of s ≡ 1 → ⊥) → part_of s ≡ 2
last_part Start a b = absurd (a refl)
last_part Groups a b = absurd (b refl)
last_part Clauses a b = refl

-- ---- the end of the loop over the lines
module _ {start : Problem} {cells₀ : List ℕ} {literals₀ : List ℤ} {s : Bytes} (short : length s ≤ text_bytes) {x : Problem} {cells : List ℕ} {literals : List ℤ} {number : ℕ} {rest : Bytes}
    (l : Rest problem_stands problem_opens start cells₀ literals₀ s x cells literals number rest) where
  answered : (r : Result (Unit {0}) RefusedAt) (cells' : List ℕ) → ReadAt (problem_opens x cells literals number (split newline rest)) r cells' literals → ReadAt (within_text s (problem_opens start cells₀ literals₀ 1 (split newline s))) r cells' literals
  answered r cells' a = rw (le-ltb text_bytes (length s) short) (subst (λ (o : Opened). ReadAt o r cells' literals) l.same a)

  pub text_ended : rest ≡ [] → (k : Result (Unit {0}) Refusal) (cells' : List ℕ) → EndsAt (problem_opens x cells literals) cells' literals k → ReadAt (within_text s (problem_opens start cells₀ literals₀ 1 (split newline s))) (at_line number k) cells' literals
  unfolding split
  text_ended over k cells' e = by k e
    where
      nothing : problem_opens x cells literals number (split newline rest) ≡ problem_opens x cells literals number ([] ∷ [])
      nothing = ap (λ (r : Bytes). problem_opens x cells literals number (split newline r)) over

      by : (k : Result (Unit {0}) Refusal) → EndsAt (problem_opens x cells literals) cells' literals k → ReadAt (within_text s (problem_opens start cells₀ literals₀ 1 (split newline s))) (at_line number k) cells' literals
      by (Ok u) e = answered (Ok u) cells' (subst (λ (o : Opened). ReadAt o (Ok u) cells' literals) (sym nothing) (e number))
      by (Err q) e =
          answered (Err (record { refusal = q; line = number })) cells'
          (subst (λ (o : Opened). ReadAt o (Err (record { refusal = q; line = number })) cells' literals) (sym (nothing ∙ e number)) (refl, refl))
