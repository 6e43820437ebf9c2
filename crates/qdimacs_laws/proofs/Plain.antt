-- A QDIMACS text that opens has its lines in order, the header's counts hold, and it has no more flags than there may be.
use Prim.Native.Nat.{ℕ, suc, ◌+◌, ◌≤◌, zero-le}
use mathlib.Core.Path.{◌≡◌, refl, sym, ap, ◌∙◌}
use mathlib.Core.Logic.{◌⊎◌, inl, inr}
use mathlib.Core.Bool.{Bool, true, false, cond, not, ◌||◌, true≢false}
use mathlib.Core.List.{List, [], ◌∷◌, ◌++◌, map, append_assoc, append-nil}
use mathlib.Core.Option.{Option, none, some}
use native.Mathlib.Omega.{arith}
use borrow.Author.Tests.{eqb-true, ltb-false}
use lib.ListN.{length, length-append}
use lib.Dec.{eqb, ltb}
use Rattle.qbf.specs.Formula.{Limits, most_free, Quantifier, free, Prefix, Formula, place_of}
use Rattle.qbf.specs.Truth.{free_variables}
use Rattle.qbf.specs.Card.{Mem}
use Rattle.qbf.specs.Calls.{given, rule_fault, clause_of, with_rule, ◌or_else◌}
use Rattle.theory.proofs.Basics.{and_both, not_false}
use Rattle.theory.proofs.AcceptedRule.{given_none}
use Rattle.theory.proofs.Prefixes.{numbers}
use Rattle.layout.specs.Words.{Bytes}
use Rattle.layout.specs.Forms.{consed}
use Rattle.layout.specs.Opening.{variable, opened, refused_or}
use Rattle.layout_laws.proofs.Opened.{never_opened, went}
use Rattle.qdimacs_form.specs.Lines.{Line, comment, header, group, clause, line_of}
use Rattle.qdimacs_form.specs.Opening.{flags_up_to, flag_variables, completed, Reading, group_fault, whole, line_fault, after, crowded, end_fault, read_line, read_lines, start}
use Rattle.qdimacs_form.specs.Translation.{parsed, quantified, in_the_form, clauses_inside, Plain}
use Rattle.qdimacs_laws.proofs.Translated.{read_parsed, formula, reading, late_groups, FewFlags}

-- ---- the lines are in the form
pub opened_parsed : (n : ℕ) (r : Reading) (ps : List Bytes) (b : Formula) → read_lines n r ps ≡ opened b → (ls : List Line) × (parsed ps ≡ some ls)
unfolding read_lines parsed consed
opened_parsed n r [] b e = absurd (never_opened 1 n b e)
opened_parsed n r ([] ∷ []) b e = ([], refl)
opened_parsed n r ((c ∷ l) ∷ []) b e = absurd (never_opened 1 n b e)
opened_parsed n r (l ∷ m ∷ ps) b e = by (line_of l) refl e (λ s. opened_parsed (suc n) s (m ∷ ps) b)
  where
    by : (o : Option Line) → line_of l ≡ o → read_line n r o (λ s. read_lines (suc n) s (m ∷ ps)) ≡ opened b → ((s : Reading) → read_lines (suc n) s (m ∷ ps) ≡ opened b → (ls : List Line) × (parsed (m ∷ ps) ≡ some ls))
        → (ls : List Line) × (consed (λ f. f) o (parsed (m ∷ ps)) ≡ some ls)
    by none q z ih = absurd (never_opened 1 n b z)
    by (some f) q z ih =
        let w = ih (after r f) (went n (line_fault r f) (read_lines (suc n) (after r f) (m ∷ ps)) b z).1 in
        (f ∷ w.0, ap (consed (λ x. x) (some f)) w.1)

-- and are read one by one
pub parsed_read : (n : ℕ) (r : Reading) (ps : List Bytes) (ls : List Line) → parsed ps ≡ some ls → read_lines n r ps ≡ read_parsed n r ls
unfolding read_lines parsed consed read_parsed
parsed_read n r [] ls e = absurd (let z : ◌≡◌ {A = ℕ} 0 1 = cc in omega arith)
parsed_read n r ([] ∷ []) ls e = ap (read_parsed n r) (some_lines [] ls e)
  where
    some_lines : (x y : List Line) → some x ≡ some y → x ≡ y
    some_lines x y q = cc
parsed_read n r ((c ∷ l) ∷ []) ls e = absurd (let z : ◌≡◌ {A = ℕ} 0 1 = cc in omega arith)
parsed_read n r (l ∷ m ∷ ps) ls e = by (line_of l) refl (parsed (m ∷ ps)) refl e (λ s. parsed_read (suc n) s (m ∷ ps))
  where
    some_lines : (x y : List Line) → some x ≡ some y → x ≡ y
    some_lines x y q = cc

    by : (o : Option Line) → line_of l ≡ o → (p : Option (List Line)) → parsed (m ∷ ps) ≡ p → consed (λ f. f) o p ≡ some ls
        → ((s : Reading) (fs : List Line) → parsed (m ∷ ps) ≡ some fs → read_lines (suc n) s (m ∷ ps) ≡ read_parsed (suc n) s fs)
        → read_line n r o (λ s. read_lines (suc n) s (m ∷ ps)) ≡ read_parsed n r ls
    by none q p t z ih = absurd (let y : ◌≡◌ {A = ℕ} 0 1 = cc in omega arith)
    by (some f) q none t z ih = absurd (let y : ◌≡◌ {A = ℕ} 0 1 = cc in omega arith)
    by (some f) q (some fs) t z ih = ap (refused_or n (line_fault r f)) (ih (after r f) fs t) ∙ ap (read_parsed n r) (some_lines (f ∷ fs) ls z)

-- ---- their order
module _ (b : Formula) where
  order : (n : ℕ) (r : Reading) (ls : List Line) → read_parsed n r ls ≡ opened b → in_the_form r.stage ls ≡ true
  unfolding read_parsed
  order n r [] e = ap not (given_none (eqb r.stage 0) 1 (given (crowded r) 33 or_else given (not (eqb (length r.formula.clauses) r.clauses)) 30) (went n (end_fault r) (opened (whole r)) b e).0).0
  order n r (comment ∷ ls) e = order (suc n) r ls e
  order n r (header v c ∷ ls) e =
      let w = went n (line_fault r (header v c)) (read_parsed (suc n) (after r (header v c)) ls) b e in
      and_both (eqb r.stage 0) (in_the_form 1 ls) (not_false (eqb r.stage 0) (given_none (not (eqb r.stage 0)) 1 (given (ltb r.formula.limits.numbers v) 3) w.0).0) (order (suc n) (after r (header v c)) ls w.1)
  order n r (group κ ns ∷ ls) e =
      let w = went n (line_fault r (group κ ns)) (read_parsed (suc n) (after r (group κ ns)) ls) b e in
      and_both (eqb r.stage 1) (in_the_form 1 ls)
      (not_false (eqb r.stage 1) (given_none (not (eqb r.stage 1)) 1 (group_fault r.formula.limits r.variables κ r.formula.prefix ns) w.0).0) (order (suc n) (after r (group κ ns)) ls w.1)
  order n r (clause l ∷ ls) e =
      let w = went n (line_fault r (clause l)) (read_parsed (suc n) (after r (clause l)) ls) b e in
      and_both (not (eqb r.stage 0)) (in_the_form 2 ls) (ap not (given_none (eqb r.stage 0) 1 (rule_fault (whole r) l) w.0).0) (order (suc n) (after r (clause l)) ls w.1)

  -- ---- the header's counts
  group_bounded : (L : Limits) (v : ℕ) (κ : Quantifier) (D : Prefix) (ns : List ℕ) → group_fault L v κ D ns ≡ none → (m : ℕ) → Mem m ns → m ≤ v
  group_bounded L v κ D [] e m q = absurd q
  group_bounded L v κ D (n ∷ ns) e m q = by q (group_bounded L v κ (D ++ (variable κ n ∷ [])) ns four.1 m)
    where
      rest : Option ℕ
      rest = group_fault L v κ (D ++ (variable κ n ∷ [])) ns

      three : (given (ltb v n) 5 or_else given (not (eqb (place_of D n) 0)) 4 or_else rest) ≡ none
      three = (given_none (eqb n 0 || ltb L.numbers n) 3 (given (ltb v n) 5 or_else given (not (eqb (place_of D n) 0)) 4 or_else rest) e).1

      five : (ltb v n ≡ false) × ((given (not (eqb (place_of D n) 0)) 4 or_else rest) ≡ none)
      five = given_none (ltb v n) 5 (given (not (eqb (place_of D n) 0)) 4 or_else rest) three

      four : (not (eqb (place_of D n) 0) ≡ false) × (rest ≡ none)
      four = given_none (not (eqb (place_of D n) 0)) 4 rest five.1

      by : Mem m (n ∷ ns) → (Mem m ns → m ≤ v) → m ≤ v
      by (inl p) ih = omega (arith, p, ltb-false v n five.0)
      by (inr k) ih = ih k

  mem_either : (κ : Quantifier) (ns : List ℕ) (E : Prefix) (m : ℕ) → Mem m (numbers (map (variable κ) ns ++ E)) → Mem m ns ⊎ Mem m (numbers E)
  mem_either κ [] E m q = inr q
  mem_either κ (n ∷ ns) E m (inl p) = inl (inl p)
  mem_either κ (n ∷ ns) E m (inr q) = by (mem_either κ ns E m q)
    where
      by : Mem m ns ⊎ Mem m (numbers E) → Mem m (n ∷ ns) ⊎ Mem m (numbers E)
      by (inl k) = inl (inr k)
      by (inr k) = inr k

  whole_clauses : (r : Reading) → (whole r).clauses ≡ r.formula.clauses
  whole_clauses r = by (eqb r.stage 1)
    where
      by : (t : Bool) → (cond t (completed r.variables r.formula) r.formula).clauses ≡ r.formula.clauses
      by true = refl
      by false = refl

  -- once the header is read
  counts : (n : ℕ) (r : Reading) (ls : List Line) → eqb r.stage 0 ≡ false → read_parsed n r ls ≡ opened b
      → ((m : ℕ) → Mem m (numbers (quantified ls)) → m ≤ r.variables) × (length r.formula.clauses + clauses_inside ls ≡ r.clauses)
  unfolding read_parsed
  counts n r [] s e = (
    λ m q. absurd q,
    let g = given_none (eqb r.stage 0) 1 (given (crowded r) 33 or_else given (not (eqb (length r.formula.clauses) r.clauses)) 30) (went n (end_fault r) (opened (whole r)) b e).0 in
        let f = given_none (not (eqb (length r.formula.clauses) r.clauses)) 30 none (thirty (not (eqb (length r.formula.clauses) r.clauses)) (given_none (crowded r) 33 (given (not (eqb (length r.formula.clauses) r.clauses)) 30) g.1).1) in
        omega (arith, eqb-true (length r.formula.clauses) r.clauses (not_false (eqb (length r.formula.clauses) r.clauses) f.0)),
  )
    where
      thirty : (t : Bool) → given t 30 ≡ none → (given t 30 or_else none) ≡ none
      thirty true z = z
      thirty false z = refl
  counts n r (comment ∷ ls) s e = counts (suc n) r ls s e
  counts n r (header v c ∷ ls) s e =
      absurd (true≢false (sym (not_false (eqb r.stage 0) (given_none (not (eqb r.stage 0)) 1 (given (ltb r.formula.limits.numbers v) 3) (went n (line_fault r (header v c)) (read_parsed (suc n) (after r (header v c)) ls) b e).0).0) ∙ s))
  counts n r (group κ ns ∷ ls) s e =
      let w = went n (line_fault r (group κ ns)) (read_parsed (suc n) (after r (group κ ns)) ls) b e in
      let ih = counts (suc n) (after r (group κ ns)) ls refl w.1 in (
        λ m q. by m (mem_either κ ns (quantified ls) m q) (ih.0 m)
            (group_bounded r.formula.limits r.variables κ r.formula.prefix ns (given_none (not (eqb r.stage 1)) 1 (group_fault r.formula.limits r.variables κ r.formula.prefix ns) w.0).1 m),
        ih.1,
      )
    where
      by : (m : ℕ) → Mem m ns ⊎ Mem m (numbers (quantified ls)) → (Mem m (numbers (quantified ls)) → m ≤ r.variables) → (Mem m ns → m ≤ r.variables) → m ≤ r.variables
      by m (inl k) f g = g k
      by m (inr k) f g = f k
  counts n r (clause l ∷ ls) s e =
      let w = went n (line_fault r (clause l)) (read_parsed (suc n) (after r (clause l)) ls) b e in
      let ih = counts (suc n) (after r (clause l)) ls refl w.1 in
      (ih.0, omega (arith, ih.1, ap length (whole_clauses r), length-append (whole r).clauses (clause_of (whole r).prefix l ∷ [])))

  pub opened_plain : (L : Limits) (n : ℕ) (ls : List Line) → read_parsed n (start L) ls ≡ opened b → Plain L ls
  unfolding read_parsed
  opened_plain L n [] e = absurd (never_opened 1 n b e)
  opened_plain L n (comment ∷ ls) e = let p = opened_plain L (suc n) ls e in record { in_form = p.in_form; few = p.few; bounded = p.bounded; counted = p.counted }
  opened_plain L n (header v c ∷ ls) e =
      let w = went n (line_fault (start L) (header v c)) (read_parsed (suc n) (after (start L) (header v c)) ls) b e in
      let k = counts (suc n) (after (start L) (header v c)) ls refl w.1 in
      record { in_form = order (suc n) (after (start L) (header v c)) ls w.1; few = ltb-false L.numbers v (fits (ltb L.numbers v) w.0); bounded = k.0; counted = omega (arith, k.1) }
    where
      fits : (t : Bool) → given t 3 ≡ none → t ≡ false
      fits true z = absurd (let y : ◌≡◌ {A = ℕ} 0 1 = cc in omega arith)
      fits false z = refl
  opened_plain L n (group κ ns ∷ ls) e = absurd (never_opened 1 n b e)
  opened_plain L n (clause l ∷ ls) e = absurd (never_opened 1 n b e)

  -- ---- no more flags than there may be
  late_few : (n v c : ℕ) (x : Formula) (ls : List Line) → read_parsed n (reading 2 v c x) ls ≡ opened b → ltb most_free (free_variables x.prefix) ≡ false
  unfolding read_parsed
  late_few n v c x [] e = (given_none (ltb most_free (free_variables x.prefix)) 33 (given (not (eqb (length x.clauses) c)) 30) (went n (end_fault (reading 2 v c x)) (opened x) b e).0).0
  late_few n v c x (comment ∷ ls) e = late_few (suc n) v c x ls e
  late_few n v c x (header y z ∷ ls) e = absurd (never_opened 1 n b e)
  late_few n v c x (group κ ns ∷ ls) e = absurd (never_opened 1 n b e)
  late_few n v c x (clause l ∷ ls) e =
      late_few (suc n) v c (with_rule none x l) ls (went n (line_fault (reading 2 v c x) (clause l)) (read_parsed (suc n) (reading 2 v c (with_rule none x l)) ls) b e).1

  -- whether the flags and the groups of a prefix have too many flags
  abbrev many : ℕ → Prefix → Bool
  many v D = ltb most_free (free_variables (flag_variables D v ++ D))

  early_few : (n v c : ℕ) (L : Limits) (D : Prefix) (ls : List Line) → read_parsed n (reading 1 v c (formula L D [])) ls ≡ opened b → many v (D ++ quantified ls) ≡ false
  unfolding read_parsed
  early_few n v c L D [] e =
      ap (many v) (append-nil D)
      ∙ (given_none (many v D) 33 (given (not (eqb 0 c)) 30) (went n (end_fault (reading 1 v c (formula L D []))) (opened (whole (reading 1 v c (formula L D [])))) b e).0).0
  early_few n v c L D (comment ∷ ls) e = early_few (suc n) v c L D ls e
  early_few n v c L D (header x y ∷ ls) e = absurd (never_opened 1 n b e)
  early_few n v c L D (group κ ns ∷ ls) e =
      ap (many v) (sym (append_assoc D (map (variable κ) ns) (quantified ls)))
      ∙ early_few (suc n) v c L (D ++ map (variable κ) ns) ls
      (went n (line_fault (reading 1 v c (formula L D [])) (group κ ns)) (read_parsed (suc n) (reading 1 v c (formula L (D ++ map (variable κ) ns) [])) ls) b e).1
  early_few n v c L D (clause l ∷ ls) e =
      ap (λ (X : Prefix). many v (D ++ X)) (late_groups ls (order (suc n) r ls w.1)) ∙ ap (many v) (append-nil D) ∙ late_few (suc n) v c r.formula ls w.1
    where
      r : Reading
      r = after (reading 1 v c (formula L D [])) (clause l)

      w : (line_fault (reading 1 v c (formula L D [])) (clause l) ≡ none) × (read_parsed (suc n) r ls ≡ opened b)
      w = went n (line_fault (reading 1 v c (formula L D [])) (clause l)) (read_parsed (suc n) r ls) b e

  -- flags stand before all else
  pub flags_first : (ns : List ℕ) (D : Prefix) → length ns ≤ free_variables (map (variable free) ns ++ D)
  flags_first [] D = zero-le
  flags_first (n ∷ ns) D = omega (arith, flags_first ns D)

  pub opened_few : (L : Limits) (n : ℕ) (ls : List Line) → read_parsed n (start L) ls ≡ opened b → FewFlags ls
  unfolding read_parsed
  opened_few L n [] e = absurd (never_opened 1 n b e)
  opened_few L n (comment ∷ ls) e = opened_few L (suc n) ls e
  opened_few L n (header v c ∷ ls) e =
      let w = went n (line_fault (start L) (header v c)) (read_parsed (suc n) (after (start L) (header v c)) ls) b e in
      omega (
        arith,
        ltb-false most_free (free_variables (flag_variables (quantified ls) v ++ quantified ls)) (early_few (suc n) v c L [] ls w.1),
        flags_first (flags_up_to (quantified ls) v) (quantified ls),
      )
  opened_few L n (group κ ns ∷ ls) e = absurd (never_opened 1 n b e)
  opened_few L n (clause l ∷ ls) e = absurd (never_opened 1 n b e)
