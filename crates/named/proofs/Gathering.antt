-- The numbers of one sign: those read stand in the table, and those of the literals left follow them.
use Prim.Native.Nat.{ℕ, ◌+◌, ◌<◌, ◌≤◌, zero-le}
use native.Mathlib.Omega.{arith}
use native.Mathlib.Numerals.{add-one}
use mathlib.Core.Path.{◌≡◌, refl, sym, ap, subst, ◌∙◌}
use mathlib.Core.Bool.{Bool, true, false, cond, beq}
use mathlib.Core.List.{List, ◌∷◌}
use mathlib.Core.Option.{Option, some}
use lib.IntN.{ℤ, pos}
use lib.ListN.{length, get_or, set, drop, drop_of_length-le}
use lib.Seq.{drop-cons}
use Rattle.qbf.specs.Formula.{Literal, number_of, positive}
use Rattle.layout.specs.Forms.{consed}
use Rattle.layout.specs.Session.{named}
use Rattle.reader.specs.Items.{narrow, all_narrowed, Kept}
use Rattle.reader.proofs.Literals.{Gathered, gathered_none, gathered_more, gathered_all}

abbrev left : Bool → List Literal → Option (List Literal)
left v ls = some (named v ls)

-- i literals are looked at, and n of them have the sign
pub record Naming (v : Bool) (lits : List Literal) (out₀ out : List ℤ) (n i : ℕ) : Type 0 where
  pub low : n ≤ i
  pub high : i ≤ length lits
  pub gathered : Gathered (left v lits) (left v (drop i lits)) out₀ out n

pub naming_none : (v : Bool) (lits : List Literal) (out : List ℤ) → Naming v lits out out 0 0
naming_none v lits out = record { low = zero-le; high = zero-le; gathered = gathered_none (left v lits) out }

narrowed_more : (k : ℕ) (ls : List Literal) → all_narrowed (some (pos k ∷ ls)) ≡ consed (λ x. x) (some (pos (narrow k))) (all_narrowed (some ls))
unfolding all_narrowed consed
narrowed_more k ls = refl

module _ {v : Bool} {lits : List Literal} {out₀ out : List ℤ} {n i : ℕ} (p : Naming v lits out₀ out n i) where
  module _ (inside : i < length lits) {l : Literal} (is : l ≡ get_or lits i (pos 0)) where
    here : drop i lits ≡ l ∷ drop (i + 1) lits
    here = drop-cons lits i (pos 0) inside ∙ ap (λ (k : ℕ). get_or lits i (pos 0) ∷ drop k lits) (sym (add-one i)) ∙ ap (λ (x : Literal). x ∷ drop (i + 1) lits) (sym is)

    -- a literal of the sign, whose number is stored
    pub naming_more : {t : Bool} → t ≡ beq v (positive l) → t ≡ true → {new : List ℤ} → new ≡ set out n (pos (narrow (number_of l))) → Naming v lits out₀ new (n + 1) (i + 1)
    naming_more {t} s e {new} w =
        record {
          low = omega (arith, p.low);
          high = omega (arith, inside);
          gathered =
              gathered_more p.gathered (pos (narrow (number_of l)))
              (ap (λ (ls : List Literal). all_narrowed (left v ls)) here ∙ ap (λ (t : Bool). all_narrowed (some (cond t (pos (number_of l) ∷ named v (drop (i + 1) lits)) (named v (drop (i + 1) lits))))) (sym s ∙ e)
              ∙ narrowed_more (number_of l) (named v (drop (i + 1) lits)))
              w;
        }

    -- one of the other
    pub naming_past : {t : Bool} → t ≡ beq v (positive l) → t ≡ false → Naming v lits out₀ out n (i + 1)
    naming_past {t} s e =
        record {
          low = omega (arith, p.low);
          high = omega (arith, inside);
          gathered =
              subst (λ (o : Option (List Literal)). Gathered (left v lits) o out₀ out n)
              (ap (left v) here ∙ ap (λ (t : Bool). some (cond t (pos (number_of l) ∷ named v (drop (i + 1) lits)) (named v (drop (i + 1) lits)))) (sym s ∙ e)) p.gathered;
        }

  pub naming_end : length lits ≤ i → Kept n out (named v lits)
  naming_end h =
      let r = gathered_all p.gathered (ap (left v) (drop_of_length-le lits h)) in
      let e : named v lits ≡ r.0 = cc r.1 in
      subst (Kept n out) (sym e) r.2
