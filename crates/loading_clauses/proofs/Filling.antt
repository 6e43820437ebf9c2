-- A clause's number put into the sets by its codes, and the sets of one clause more.
use Prim.Native.Nat.{ℕ, suc, ◌+◌, ◌*◌, ◌≤◌, ◌<◌}
use native.Mathlib.Nat.{mul-le-mul_right, suc-mul}
use native.Mathlib.Numerals.{add-one}
use native.Mathlib.Omega.{arith}
use mathlib.Core.Path.{◌≡◌, refl, sym, ap, ap₂, ◌∙◌}
use mathlib.Core.Bool.{Bool, true, false, not, ◌&&◌, ◌||◌, and_comm}
use mathlib.Core.List.{List, [], ◌∷◌, ◌++◌}
use lib.Dec.{eqb}
use lib.ListN.{length, get_or, take}
use lib.Seq.{take-suc}
use Rattle.bitset.specs.Rows.{Cleared, Inserted, member, width}
use Rattle.bitset.proofs.Members.{member_counted}
use Rattle.qbf.specs.Formula.{Clause, Prefix, any}
use Rattle.qbf.specs.Learning.{reduce}
use Rattle.theory.proofs.Stepwise.{same_bool}
use Rattle.theory.proofs.Basics.{eqb_true}
use borrow.Author.Tests.{eq-eqb}
use Rattle.tables.specs.Codes.{code_at, code_of, codes, last_code}
use Rattle.tables.specs.Sets.{ClauseSets, dying_row, has_code, satisfying_row}
use Rattle.tables.specs.Shelves.{code_count, ends_in}
use Rattle.clause_sets.proofs.Filling.{dying_apart, inserted_dying, inserted_satisfying, satisfying_apart, sets_more, sets_none}
use Rattle.loading_clauses.specs.Coded.{Added, Opposite, Satisfying}

-- ---- the code of the opposite literal
opposite_same : (c d p : ℕ) (b : Bool) → (code_at p b ≡ d → c ≡ code_at p (not b)) → (c ≡ code_at p (not b) → code_at p b ≡ d)
    → eqb (code_at p b) d ≡ eqb c (code_at p (not b))
opposite_same c d p b there back =
    same_bool (eqb (code_at p b) d) (eqb c (code_at p (not b)))
    (λ e. eq-eqb c (code_at p (not b)) (there (eqb_true (code_at p b) d e)))
    (λ e. eq-eqb (code_at p b) d (back (eqb_true c (code_at p (not b)) e)))

pub opposed : {c d : ℕ} → d < code_count → ((p : ℕ) (b : Bool) → c ≡ code_at p b → d ≡ code_at p (not b)) → ((p : ℕ) (b : Bool) → d ≡ code_at p b → c ≡ code_at p (not b)) → Opposite c d
opposed {c} {d} low there back =
    record {
      low = low;
      is = λ p b. opposite_same c d p b (λ q. back p b (sym q)) (λ q. sym (there p (not b) q ∙ ap (code_at p) (twice b)));
    }
  where
    twice : (b : Bool) → not (not b) ≡ b
    twice true = refl
    twice false = refl

-- ---- a clause's number into one row after the other
any_last : {A : Type 0} (f : A → Bool) (xs : List A) (x : A) → any f (xs ++ (x ∷ [])) ≡ (any f xs || f x)
any_last f [] x = by (f x)
  where
    by : (a : Bool) → (a || false) ≡ (false || a)
    by true = refl
    by false = refl
any_last f (y ∷ xs) x = ap (λ (a : Bool). f y || a) (any_last f xs x) ∙ by (f y) (any f xs) (f x)
  where
    by : (a b d : Bool) → (a || (b || d)) ≡ ((a || b) || d)
    by true b d = refl
    by false b d = refl

-- one code more
pub satisfying_more : {wc : ℕ} (row : List ℕ) {k : ℕ} (i : ℕ) {t u after : List ℕ} → Satisfying wc (take i row) k t u → k < wc * width → i < length row
    → Inserted (satisfying_row wc (get_or row i 0)) k u after → Satisfying wc (take (i + 1) row) k t after
satisfying_more {wc} row {k} i {t} {u} {after} s small low put = record {
  long = put.long ∙ s.long;
  members = λ c j h.
      inserted_satisfying wc k small (get_or row i 0) put c j h
      ∙ ap (λ (x : Bool). x || (eqb c (get_or row i 0) && eqb j k)) (s.members c j h)
      ∙ merge (member t (satisfying_row wc c) j) (eqb j k) (any (λ d. eqb d c) (take i row)) (eqb c (get_or row i 0)) (eqb (get_or row i 0) c)
      (turned c (get_or row i 0))
      ∙ ap (λ (x : Bool). member t (satisfying_row wc c) j || (eqb j k && x)) (sym (next c));
  others = λ c j h. satisfying_apart wc k small (get_or row i 0) put c j h ∙ s.others c j h;
}
  where
    turned : (m n : ℕ) → eqb m n ≡ eqb n m
    turned m n = same_bool (eqb m n) (eqb n m) (λ e. eq-eqb n m (sym (eqb_true m n e))) (λ e. eq-eqb m n (sym (eqb_true n m e)))

    next : (c : ℕ) → any (λ d. eqb d c) (take (i + 1) row) ≡ (any (λ d. eqb d c) (take i row) || eqb (get_or row i 0) c)
    next c =
        ap (λ (n : ℕ). any (λ d. eqb d c) (take n row)) (add-one i)
        ∙ ap (any (λ d. eqb d c)) (take-suc row i 0 low)
        ∙ any_last (λ d. eqb d c) (take i row) (get_or row i 0)

    merge : (m a b x y : Bool) → x ≡ y → ((m || (a && b)) || (x && a)) ≡ (m || (a && (b || y)))
    merge true a b x y e = refl
    merge false true true x y e = refl
    merge false true false true y e = e
    merge false true false false y e = e
    merge false false b true y e = refl
    merge false false b false y e = refl

-- all codes, and the last of those that are left
pub added : {wc : ℕ} {row left : List ℕ} {k d : ℕ} {t u after : List ℕ} → Satisfying wc row k t u → k < wc * width → Opposite (last_code left) d
    → Inserted (dying_row wc d) k u after → Added wc row left k t after
added {wc} {row} {left} {k} {d} {t} {u} {after} s small o put = record {
  long = put.long ∙ s.long;
  satisfying = λ c i h. dying_apart wc k small d put c i h ∙ s.members c i h;
  dying = λ p b i h.
      inserted_dying wc k small d put (code_at p b) i h
      ∙ ap (λ (x : Bool). x || (eqb (code_at p b) d && eqb i k)) (s.others (code_at p b) i h)
      ∙ ap (λ (x : Bool). member t (dying_row wc (code_at p b)) i || x)
      (ap (λ (x : Bool). x && eqb i k) (o.is p b) ∙ and_comm (eqb (last_code left) (code_at p (not b))) (eqb i k));
}

-- ---- the sets of one clause more
any_codes : (D : Prefix) (c : ℕ) (r : Clause) → any (λ d. eqb d c) (codes D r) ≡ has_code D c r
any_codes D c [] = refl
any_codes D c (l ∷ r) = ap (λ (x : Bool). eqb (code_of D l) c || x) (any_codes D c r)

pub sets_next : {D : Prefix} {R : List Clause} {wc k : ℕ} {row left sets after : List ℕ} → ClauseSets D R wc sets → length R ≡ k → k < wc * width
    → (r : Clause) → row ≡ codes D r → left ≡ codes D (reduce D false r) → Added wc row left k sets after → ClauseSets D (R ++ (r ∷ [])) wc after
sets_next {D} {R} {wc} {k} {row} {left} {sets} {after} g long small r whole reduced a =
    sets_more g (omega arith) r
    (λ p b z l i h.
    a.satisfying (code_at p b) i h
    ∙ ap₂ (λ (n : ℕ) (x : Bool). member sets (satisfying_row wc (code_at p b)) i || (eqb i n && x)) (sym long)
    (ap (any (λ d. eqb d (code_at p b))) whole ∙ any_codes D (code_at p b) r))
    (λ p b z l i h.
    a.dying p b i h
    ∙ ap₂ (λ (n : ℕ) (cs : List ℕ). member sets (dying_row wc (code_at p b)) i || (eqb i n && ends_in (code_at p (not b)) cs)) (sym long) reduced)

-- ---- no clause yet: the rows of the codes up to a place are cleared
pub sets_cleared : (D : Prefix) {last wc : ℕ} {t after : List ℕ} → Cleared 0 ((last + 1) * 2 * 2 * wc) t after → length D ≤ last → ClauseSets D [] wc after
sets_cleared D {last} {wc} {t} {after} c few =
    sets_none
    (λ p b l i h. clear (code_at p b * 2) (omega (arith, low p b (omega arith))) i h)
    (λ p b l i h. ap (λ (f : ℕ). member after f i) (sym (suc-mul (code_at p b * 2) wc)) ∙ clear (suc (code_at p b * 2)) (omega (arith, low p b (omega arith))) i h)
  where
    low : (p : ℕ) (b : Bool) → p ≤ last → code_at p b < (last + 1) * 2
    low p true h = omega arith
    low p false h = omega arith

    clear : (f : ℕ) → f < (last + 1) * 2 * 2 → (i : ℕ) → i < wc * width → member after (f * wc) i ≡ false
    clear f h i small =
        member_counted after (f * wc) i
        ∙ c.empty (f * wc * width + i)
        (omega (arith, small, mul-le-mul_right width (mul-le-mul_right {m = suc f} {n = (last + 1) * 2 * 2} wc h), ap (λ (x : ℕ). x * width) (suc-mul f wc)))
