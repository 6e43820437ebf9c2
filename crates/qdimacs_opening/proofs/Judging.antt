-- A line by what was read of it: it is judged by the items that the table keeps.
use Prim.Native.Nat.{ℕ, zero, suc, ◌≤◌, ◌<◌, min}
use mathlib.Core.Path.{◌≡◌, refl, sym, ap, subst, ◌∙◌}
use mathlib.Core.Bool.{Bool, true, false, cond, not, ◌&&◌}
use mathlib.Core.List.{List, [], ◌∷◌, map}
use mathlib.Core.Option.{Option, none}
use native.Mathlib.Omega.{arith}
use lib.Dec.{eqb, leb}
use lib.IntN.{ℤ, pos, negsuc}
use lib.ListN.{length, take}
use lib.Seq.{take_all, take-take}
use Rattle.std.specs.Prelude.{Result}
use Rattle.refusal.specs.declared.Refusal.{Refusal}
use Rattle.qbf.specs.Formula.{Limits, highest, Quantifier, Prefix, any, Literal, number_of}
use Rattle.qbf.specs.Calls.{numbers_are_ok}
use Rattle.theory.proofs.WellFormed.{numbers_ok, numbers_capped}
use Rattle.state.specs.Reading.{quantifier_of}
use Rattle.reader.specs.Items.{narrow, narrowed, Kept}
use Rattle.reader.proofs.Judged.{cut_same, rule_cut_under, rule_cut_same_under}
use Rattle.opening.specs.Standing.{formula_at}
use Rattle.opening.proofs.Judging.{code_back}
use Rattle.qdimacs_form.specs.Lines.{Line, group}
use Rattle.qdimacs_form.specs.Opening.{completed, Reading, group_fault, whole}
use Rattle.qdimacs_laws.proofs.Judged.{Narrows, group_width, group_narrowed, group_numbers, group_first}
use Rattle.qdimacs_reader.specs.Lines.{LineIs}
use Rattle.qdimacs_reader.specs.declared.line.Line.TheVariants as line
use Rattle.qdimacs_opening.specs.declared.problem.Problem.{Problem}
use Rattle.qdimacs_opening.specs.Stands.{freed, reading_at, problem_stands}
use Rattle.qdimacs_opening.specs.Lines.{TookLineAt, GroupTookAt, ClauseTookAt, TookAt}

-- ---- numbers of a quantifier line
number_narrowed : (l : Literal) → number_of (narrowed l) ≡ narrow (number_of l)
number_narrowed (pos n) = refl
number_narrowed (negsuc n) = let z : suc (min n highest.numbers) ≡ narrow (suc n) = omega arith in z

first_numbers : (k : ℕ) (ls : List Literal) → map number_of (take k (map narrowed ls)) ≡ map narrow (take k (map number_of ls))
first_numbers zero ls = refl
first_numbers (suc k) [] = refl
first_numbers (suc k) (l ∷ ls) = (λ i. number_narrowed l i ∷ first_numbers k ls i)

module _ (L : Limits) (low : L.numbers ≤ highest.numbers) (v : ℕ) (κ : Quantifier) (D : Prefix) (n : ℕ) (out : List ℤ) (ls : List Literal) (fine : numbers_are_ok L [] D ≡ true) (room : length out ≡ suc highest.numbers) (k : Kept n out ls) where
  narrows : Narrows L narrow
  narrows = record { in_range = λ m h. (let z : narrow m ≡ m = omega (arith, h, low) in z); beyond = λ m h. (let z : L.numbers < narrow m = omega (arith, h, low) in z) }

  -- the numbers that stand in the table are the first of the line's, narrowed
  standing : map number_of (take (min n (length out)) out) ≡ map narrow (take (suc highest.numbers) (map number_of ls))
  standing =
      ap (map number_of) (cut_same n (length out) out refl ∙ k.first ∙ ap (λ (m : ℕ). take m (map narrowed ls)) room)
      ∙ first_numbers (suc highest.numbers) ls

  group_judged : group_fault L v κ D (map number_of (take (min n (length out)) out)) ≡ group_fault L v κ D (map number_of ls)
  group_judged =
      ap (group_fault L v κ D) standing
      ∙ group_narrowed L narrow narrows v κ D (take (suc highest.numbers) (map number_of ls))
      ∙ sym (group_first L v κ D (take (suc highest.numbers) (map number_of ls)) fine)
      ∙ ap (group_fault L v κ D) (take-take (suc L.numbers) (suc highest.numbers) (map number_of ls) (omega (arith, low)))
      ∙ group_first L v κ D (map number_of ls) fine

  -- where it is not refused they are its numbers
  group_same : group_fault L v κ D (map number_of ls) ≡ none → map number_of (take (min n (length out)) out) ≡ map number_of ls
  group_same e =
      let w = group_width L v κ D (map number_of ls) fine e in
      standing ∙ ap (map narrow) (take_all (suc highest.numbers) (map number_of ls) (omega (arith, w, low))) ∙ group_numbers L narrow narrows v κ D (map number_of ls) e

-- ---- lines
numbers_freed : (k : ℕ) (L : Limits) (seen : List ℕ) (D : Prefix) → numbers_are_ok L seen (freed k D) ≡ numbers_are_ok L seen D
numbers_freed zero L seen D = refl
numbers_freed (suc k) L seen [] = refl
numbers_freed (suc k) L seen (d ∷ D) = ap (λ (b : Bool). leb 1 d.number && leb d.number L.numbers && not (any (eqb d.number) seen) && b) (numbers_freed k L (d.number ∷ seen) D)

pub whole_limits : (s : Reading) → (whole s).limits ≡ s.formula.limits
whole_limits s = by (eqb s.stage 1)
  where
    by : (t : Bool) → (cond t (completed s.variables s.formula) s.formula).limits ≡ s.formula.limits
    by true = refl
    by false = refl

module _ (p : Problem) {cells : List ℕ} {literals : List ℤ} (s : problem_stands p cells literals) where
  abbrev q : Reading
  q = reading_at p cells literals

  low : (formula_at cells literals).limits.numbers ≤ highest.numbers
  low = numbers_capped (formula_at cells literals) s.stands.reached.facts

  module _ {o : Option Line} {out : List ℤ} {r : Result Problem Refusal} {cells' : List ℕ} {literals' : List ℤ} (room : length out ≡ suc highest.numbers) where
    pub line_clause : (n : ℕ) {lits : List ℤ} → lits ≡ take (min n (length out)) out → LineIs o (line.Clause n) out → ClauseTookAt q lits r cells' literals' → TookAt q o r cells' literals'
    line_clause n {lits} e h w =
        subst (λ (f : Option Line). TookAt q f r cells' literals') (sym h.1)
        (subst (λ (l : List ℤ). ClauseTookAt q l r cells' literals') e w h.0
        (rule_cut_under (whole q) few n out h.0 h.2 refl wide) (rule_cut_same_under (whole q) few n out h.0 h.2 refl wide))
      where
        few : (whole q).limits.numbers ≤ highest.numbers
        few = subst (λ (L : Limits). L.numbers ≤ highest.numbers) (sym (whole_limits q)) low

        wide : (whole q).limits.literals < length out
        wide = subst (λ (L : Limits). L.literals < length out) (sym (whole_limits q)) (omega (arith, room))

    pub line_group : (κ n : ℕ) {lits : List ℤ} → lits ≡ take (min n (length out)) out → LineIs o (line.Group κ n) out → GroupTookAt q κ lits r cells' literals' → TookAt q o r cells' literals'
    line_group κ n {lits} e (u, c, f, (ls, g, k)) w =
        subst (λ (t : Option Line). TookAt q t r cells' literals') (sym g)
        (subst (λ (u : Quantifier). TookLineAt q (group u (map number_of ls)) r cells' literals') (ap quantifier_of c ∙ code_back u)
        (subst (λ (l : List ℤ). GroupTookAt q κ l r cells' literals') e w (map number_of ls)
        (group_judged q.formula.limits low p.head.variables (quantifier_of κ) q.formula.prefix n out ls fine room k)
        (group_same q.formula.limits low p.head.variables (quantifier_of κ) q.formula.prefix n out ls fine room k)))
      where
        fine : numbers_are_ok q.formula.limits [] q.formula.prefix ≡ true
        fine = numbers_freed p.head.crowd q.formula.limits [] (formula_at cells literals).prefix ∙ numbers_ok (formula_at cells literals) s.stands.reached.facts
