-- What stands in the table is judged as the items of the text are: narrowing changes no refusal, and what is not refused is the same.
use Prim.Native.Nat.{ℕ, zero, suc, ◌<◌, ◌≤◌, min}
use mathlib.Core.Path.{◌≡◌, refl, sym, ap, subst, ◌∙◌}
use mathlib.Core.Bool.{Bool, true, false, not, ◌||◌}
use mathlib.Core.List.{List, [], ◌∷◌, ◌++◌, map}
use mathlib.Core.Option.{Option, none, some}
use native.Mathlib.Omega.{arith}
use native.Mathlib.Decide.{dec_lt}
use borrow.Author.Tests.{lt-ltb, ltb-false}
use lib.Dec.{eqb, leb, ltb}
use lib.IntN.{ℤ, pos, negsuc}
use lib.ListN.{length, take, length-map, length-take}
use lib.Seq.{take_all}
use Rattle.qbf.specs.Formula.{Limits, paper, highest, Quantifier, Prefix, Literal, Formula, number_of, any, place_of}
use Rattle.qbf.specs.Calls.{given, literal_fault, rule_fault, numbers_are_ok, ◌or_else◌}
use Rattle.theory.proofs.Basics.{or_false_right}
use Rattle.theory.proofs.AcceptedRule.{given_none}
use Rattle.layout.specs.Opening.{variable, crowded, declare_fault}
use Rattle.layout_laws.proofs.Blocks.{declarable, first_decide_of, block_width}
use Rattle.reader.specs.Items.{narrow, narrowed, Kept}

-- ---- one number
-- a number out of range is refused first, whatever follows
out_of_range_lem : (L : Limits) (n : ℕ) (o : Option ℕ) → L.numbers < n → (given (eqb n 0 || ltb L.numbers n) 3 or_else o) ≡ some 3
out_of_range_lem L n o h = rw (lt-ltb L.numbers n h) (by (eqb n 0))
  where
    by : (t : Bool) → (given (t || true) 3 or_else o) ≡ some 3
    by true = refl
    by false = refl

narrow_same : (n : ℕ) → n ≤ highest.numbers → narrow n ≡ n
narrow_same n h = omega arith

-- ---- literals, under limits that are not above the highest
module _ (L : Limits) (low : L.numbers ≤ highest.numbers) where
  pub narrowed_same_under : (l : Literal) → number_of l ≤ L.numbers → narrowed l ≡ l
  narrowed_same_under (pos n) h = ap pos (narrow_same n (omega (arith, h, low)))
  narrowed_same_under (negsuc n) h = let e : min n highest.numbers ≡ n = omega (arith, h, low) in ap negsuc e

  pub narrowed_out_under : (l : Literal) → L.numbers < number_of l → L.numbers < number_of (narrowed l)
  narrowed_out_under (pos n) h = omega (arith, h, low)
  narrowed_out_under (negsuc n) h = omega (arith, h, low)

  pub literals_judged_under : (D : Prefix) (seen : List ℕ) (ls : List Literal) → literal_fault L D seen (map narrowed ls) ≡ literal_fault L D seen ls
  literals_judged_under D seen [] = refl
  literals_judged_under D seen (l ∷ ls) = by (dec_lt L.numbers (number_of l)) (literals_judged_under D (number_of l ∷ seen) ls)
    where
      by : Dec (L.numbers < number_of l) → literal_fault L D (number_of l ∷ seen) (map narrowed ls) ≡ literal_fault L D (number_of l ∷ seen) ls
          → literal_fault L D seen (narrowed l ∷ map narrowed ls) ≡ literal_fault L D seen (l ∷ ls)
      by (yes h) ih = out_of_range_lem L (number_of (narrowed l)) _ (narrowed_out_under l h) ∙ sym (out_of_range_lem L (number_of l) _ h)
      by (no h) ih =
          ap (λ (x : Literal). literal_fault L D seen (x ∷ map narrowed ls)) (narrowed_same_under l (omega (arith, h)))
          ∙ ap (λ (o : Option ℕ). given (eqb (number_of l) 0 || ltb L.numbers (number_of l)) 3 or_else given (eqb (place_of D (number_of l)) 0) 5 or_else given (any (eqb (number_of l)) seen) 6 or_else o) ih

  pub literals_same_under : (D : Prefix) (seen : List ℕ) (ls : List Literal) → literal_fault L D seen ls ≡ none → map narrowed ls ≡ ls
  literals_same_under D seen [] e = refl
  literals_same_under D seen (l ∷ ls) e =
      ap (λ (x : Literal). x ∷ map narrowed ls) (narrowed_same_under l (ltb-false L.numbers (number_of l) (or_false_right (eqb (number_of l) 0) (ltb L.numbers (number_of l)) three.0)))
      ∙ ap (λ (xs : List Literal). l ∷ xs) (literals_same_under D (number_of l ∷ seen) ls six.1)
    where
      rest : Option ℕ
      rest = literal_fault L D (number_of l ∷ seen) ls

      three : ((eqb (number_of l) 0 || ltb L.numbers (number_of l)) ≡ false) × ((given (eqb (place_of D (number_of l)) 0) 5 or_else given (any (eqb (number_of l)) seen) 6 or_else rest) ≡ none)
      three = given_none (eqb (number_of l) 0 || ltb L.numbers (number_of l)) 3 (given (eqb (place_of D (number_of l)) 0) 5 or_else given (any (eqb (number_of l)) seen) 6 or_else rest) e

      five : (eqb (place_of D (number_of l)) 0 ≡ false) × ((given (any (eqb (number_of l)) seen) 6 or_else rest) ≡ none)
      five = given_none (eqb (place_of D (number_of l)) 0) 5 (given (any (eqb (number_of l)) seen) 6 or_else rest) three.1

      six : (any (eqb (number_of l)) seen ≡ false) × (rest ≡ none)
      six = given_none (any (eqb (number_of l)) seen) 6 rest five.1

-- ---- under the paper's
pub narrowed_same : (l : Literal) → number_of l ≤ paper.numbers → narrowed l ≡ l
narrowed_same l h = narrowed_same_under paper (omega arith) l h

pub narrowed_out : (l : Literal) → paper.numbers < number_of l → paper.numbers < number_of (narrowed l)
narrowed_out l h = narrowed_out_under paper (omega arith) l h

pub literals_judged : (D : Prefix) (seen : List ℕ) (ls : List Literal) → literal_fault paper D seen (map narrowed ls) ≡ literal_fault paper D seen ls
literals_judged D seen ls = literals_judged_under paper (omega arith) D seen ls

pub literals_same : (D : Prefix) (seen : List ℕ) (ls : List Literal) → literal_fault paper D seen ls ≡ none → map narrowed ls ≡ ls
literals_same D seen ls e = literals_same_under paper (omega arith) D seen ls e

-- ---- a rule
pub kept_all : (n : ℕ) (out : List ℤ) (ls : List Literal) → Kept n out ls → n ≤ length out → take n out ≡ map narrowed ls
kept_all n out ls k h = k.first ∙ take_all (length out) (map narrowed ls) (omega (arith, k.count, length-map ls narrowed))

-- a rule with too many literals, of which not all may stand in the table
pub rule_long : (b : Formula) (ls : List Literal) → b.limits.literals < length ls → rule_fault b ls ≡ (given (leb b.limits.clauses (length b.clauses)) 20 or_else some 7)
rule_long b ls h = rw (lt-ltb b.limits.literals (length ls) h) (by (leb b.limits.clauses (length b.clauses)) (eqb (length ls) 0))
  where
    by : (x y : Bool) → (given x 20 or_else given (y || true) 7 or_else literal_fault b.limits b.prefix [] ls) ≡ (given x 20 or_else some 7)
    by true y = refl
    by false true = refl
    by false false = refl

-- where the count of items is cut to the table's length, the same ones stand
pub cut_same : (n m : ℕ) (out : List ℤ) → length out ≡ m → take (min n m) out ≡ take n out
cut_same n m out room = by (dec_lt m n)
  where
    by : Dec (m < n) → take (min n m) out ≡ take n out
    by (no h) = ap (λ (k : ℕ). take k out) (let e : min n m ≡ n = omega (arith, h) in e)
    by (yes h) = take_all (min n m) out (omega (arith, h, room)) ∙ sym (take_all n out (omega (arith, h, room)))

-- A rule whose literals all stand in the table is judged by them; where it is not refused they are its literals.
module _ (b : Formula) (low : b.limits.numbers ≤ highest.numbers) (n : ℕ) (out : List ℤ) (ls : List Literal) (k : Kept n out ls) where
  module _ (h : n ≤ length out) where
    pub rule_judged_under : rule_fault b (take n out) ≡ rule_fault b ls
    rule_judged_under =
        ap (rule_fault b) (kept_all n out ls k h)
        ∙ ap (λ (m : ℕ). given (leb b.limits.clauses (length b.clauses)) 20 or_else given (eqb m 0 || ltb b.limits.literals m) 7 or_else literal_fault b.limits b.prefix [] (map narrowed ls)) (length-map ls narrowed)
        ∙ ap (λ (o : Option ℕ). given (leb b.limits.clauses (length b.clauses)) 20 or_else given (eqb (length ls) 0 || ltb b.limits.literals (length ls)) 7 or_else o) (literals_judged_under b.limits low b.prefix [] ls)

    pub rule_same_under : rule_fault b ls ≡ none → take n out ≡ ls
    rule_same_under e = kept_all n out ls k h ∙ literals_same_under b.limits low b.prefix [] ls seven.1
      where
        bad : Bool
        bad = eqb (length ls) 0 || ltb b.limits.literals (length ls)

        twenty : (leb b.limits.clauses (length b.clauses) ≡ false) × ((given bad 7 or_else literal_fault b.limits b.prefix [] ls) ≡ none)
        twenty = given_none (leb b.limits.clauses (length b.clauses)) 20 (given bad 7 or_else literal_fault b.limits b.prefix [] ls) e

        seven : (bad ≡ false) × (literal_fault b.limits b.prefix [] ls ≡ none)
        seven = given_none bad 7 (literal_fault b.limits b.prefix [] ls) twenty.1

  -- It is judged by the items that stand in a table with more cells than a rule may have literals.
  module _ {m : ℕ} (room : length out ≡ m) (wide : b.limits.literals < m) where
    pub rule_cut_under : rule_fault b (take (min n m) out) ≡ rule_fault b ls
    rule_cut_under = by (dec_lt m n)
      where
        by : Dec (m < n) → rule_fault b (take (min n m) out) ≡ rule_fault b ls
        by (no h) = ap (rule_fault b) (cut_same n m out room) ∙ rule_judged_under (omega (arith, h, room))
        by (yes h) =
            rule_long b (take (min n m) out) (omega (arith, h, room, wide, length-take (min n m) out))
            ∙ sym (rule_long b ls (omega (arith, h, wide, k.count)))

    pub rule_cut_same_under : rule_fault b ls ≡ none → take (min n m) out ≡ ls
    rule_cut_same_under e = by (dec_lt m n)
      where
        by : Dec (m < n) → take (min n m) out ≡ ls
        by (no h) = cut_same n m out room ∙ rule_same_under (omega (arith, h, room)) e
        by (yes h) = absurd (never (leb b.limits.clauses (length b.clauses)) (sym (rule_long b ls (omega (arith, h, wide, k.count))) ∙ e))
          where
            never : (x : Bool) → (given x 20 or_else some 7) ≡ none → ⊥
            never true q = let z : ◌≡◌ {A = ℕ} 0 1 = cc in omega (arith, z)
            never false q = let z : ◌≡◌ {A = ℕ} 0 1 = cc in omega (arith, z)

-- .. and so by those in one with one cell more than there are numbers under the paper's limits
module _ (b : Formula) (is_paper : b.limits ≡ paper) (n : ℕ) (out : List ℤ) (ls : List Literal) (room : length out ≡ suc paper.numbers) (k : Kept n out ls) where
  few : b.limits.numbers ≤ highest.numbers
  few = subst (λ (L : Limits). L.numbers ≤ highest.numbers) (sym is_paper) (omega arith)

  more : b.limits.literals < suc paper.numbers
  more = subst (λ (L : Limits). L.literals < suc paper.numbers) (sym is_paper) (omega arith)

  pub rule_cut : rule_fault b (take (min n (suc paper.numbers)) out) ≡ rule_fault b ls
  rule_cut = rule_cut_under b few n out ls k room more

  pub rule_cut_same : rule_fault b ls ≡ none → take (min n (suc paper.numbers)) out ≡ ls
  rule_cut_same e = rule_cut_same_under b few n out ls k room more e

-- ---- numbers of a block
module _ (L : Limits) (low : L.numbers ≤ highest.numbers) where
  numbers_judged : (κ : Quantifier) (D : Prefix) (ns : List ℕ) → declare_fault L κ D (map narrow ns) ≡ declare_fault L κ D ns
  numbers_judged κ D [] = refl
  numbers_judged κ D (n ∷ ns) = by (dec_lt L.numbers n) (numbers_judged κ (D ++ (variable κ n ∷ [])) ns)
    where
      by : Dec (L.numbers < n) → declare_fault L κ (D ++ (variable κ n ∷ [])) (map narrow ns) ≡ declare_fault L κ (D ++ (variable κ n ∷ [])) ns
          → declare_fault L κ D (narrow n ∷ map narrow ns) ≡ declare_fault L κ D (n ∷ ns)
      by (yes h) ih = out_of_range_lem L (narrow n) _ (omega (arith, h, low)) ∙ sym (out_of_range_lem L n _ h)
      by (no h) ih =
          ap (λ (m : ℕ). declare_fault L κ D (m ∷ map narrow ns)) (narrow_same n (omega (arith, h, low)))
          ∙ ap (λ (o : Option ℕ). given (eqb n 0 || ltb L.numbers n) 3 or_else given (not (eqb (place_of D n) 0)) 4 or_else given (crowded κ D) 33 or_else o) ih

  numbers_same : (κ : Quantifier) (D : Prefix) (ns : List ℕ) → declare_fault L κ D ns ≡ none → map narrow ns ≡ ns
  numbers_same κ D [] e = refl
  numbers_same κ D (n ∷ ns) e =
      let d = declarable L κ D n ns e in
      ap (λ (m : ℕ). m ∷ map narrow ns) (narrow_same n (omega (arith, d.0.high, low))) ∙ ap (λ (ms : List ℕ). n ∷ ms) (numbers_same κ (D ++ (variable κ n ∷ [])) ns d.1)

-- the numbers that stand in the table are the first of the block's, narrowed
first_numbers : (k : ℕ) (ns : List ℕ) → map number_of (take k (map narrowed (map pos ns))) ≡ map narrow (take k ns)
first_numbers zero ns = refl
first_numbers (suc k) [] = refl
first_numbers (suc k) (n ∷ ns) = ap (λ (ms : List ℕ). narrow n ∷ ms) (first_numbers k ns)

module _ (L : Limits) (low : L.numbers ≤ highest.numbers) (κ : Quantifier) (D : Prefix) (n : ℕ) (out : List ℤ) (ns : List ℕ) (fine : numbers_are_ok L [] D ≡ true) {m : ℕ} (room : length out ≡ m) (wide : L.numbers < m) (k : Kept n out (map pos ns)) where
  standing : map number_of (take n out) ≡ map narrow (take m ns)
  standing = ap (map number_of) (k.first ∙ ap (λ (j : ℕ). take j (map narrowed (map pos ns))) room) ∙ first_numbers m ns

  -- A block is judged by the numbers that stand in a table with more cells than there are numbers.
  pub block_judged_under : declare_fault L κ D (map number_of (take n out)) ≡ declare_fault L κ D ns
  block_judged_under = ap (declare_fault L κ D) standing ∙ numbers_judged L low κ D (take m ns) ∙ first_decide_of L κ m D ns wide fine

  -- Where it is not refused they are its numbers.
  pub block_same_under : declare_fault L κ D ns ≡ none → map number_of (take n out) ≡ ns
  block_same_under e =
      let w = block_width L κ D ns fine e in
      standing ∙ ap (map narrow) (take_all m ns (omega (arith, w, wide))) ∙ numbers_same L low κ D ns e

module _ (κ : Quantifier) (D : Prefix) (n : ℕ) (out : List ℤ) (ns : List ℕ) (fine : numbers_are_ok paper [] D ≡ true) (room : length out ≡ suc paper.numbers) (k : Kept n out (map pos ns)) where
  pub block_judged : declare_fault paper κ D (map number_of (take n out)) ≡ declare_fault paper κ D ns
  block_judged = block_judged_under paper (omega arith) κ D n out ns fine room (omega arith) k

  pub block_same : declare_fault paper κ D ns ≡ none → map number_of (take n out) ≡ ns
  block_same e = block_same_under paper (omega arith) κ D n out ns fine room (omega arith) k e
