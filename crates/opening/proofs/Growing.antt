-- The variables of a block, declared from the left in the cells of a state.
use Prim.Native.Nat.{ℕ, ◌+◌, ◌<◌}
use mathlib.Core.Path.{◌≡◌, sym, ap, subst, ◌∙◌}
use mathlib.Core.Bool.{Bool, true, false, not, ◌||◌}
use mathlib.Core.List.{List, [], ◌∷◌, ◌++◌, map, append_assoc}
use mathlib.Core.Option.{Option, none, some}
use native.Mathlib.Omega.{arith}
use lib.Dec.{eqb, ltb}
use lib.IntN.{ℤ, pos}
use lib.ListN.{length, get_or, drop}
use Rattle.qbf.specs.Formula.{Limits, Quantifier, Prefix, quantifiers, number_of, place_of}
use Rattle.qbf.specs.Calls.{given, numbers_are_ok, free_first, prefix_is_ok, ◌or_else◌}
use Rattle.theory.proofs.Basics.{and_right, and_both}
use Rattle.std.proofs.lemmas.List.{drop_more}
use Rattle.state.specs.Reading.{quantifier_of, prefix_fits}
use Rattle.state.specs.Declare.{with_variable}
use Rattle.declaring.specs.Declaring.{numbers_in, levels_in, kinds_in, prefix_at, DeclarableAt, Beside, DeclaredAt}
use Rattle.std.specs.Prelude.{Err}
use Rattle.refusal.specs.declared.Refusal.{Refusal}
use Rattle.refusal.specs.Refusal.{number_of as refusal_number}
use Rattle.layout.specs.Opening.{variable, crowded, declare_fault}
use Rattle.layout_laws.proofs.Blocks.{Before, before_more, declarable, prefix_more}
use Rattle.opening.specs.Blocks.{with_variables, GrowableAt, GrownAt}

pub beside_more : {L : Limits} {a b c : List ℕ} → Beside L a b → Beside L b c → Beside L a c
beside_more f g = record { long = g.long ∙ f.long; limits = g.limits ∙ f.limits; behind = g.behind ∙ f.behind }

-- the first number of a block decides, or the rest do
decided : (a b c : Bool) (rest o : Option ℕ) → ((given a 3 or_else given b 4) or_else given c 33) ≡ o → (given a 3 or_else given b 4 or_else given c 33 or_else rest) ≡ (o or_else rest)
decided true b c rest o e = ap (λ (p : Option ℕ). p or_else rest) e
decided false true c rest o e = ap (λ (p : Option ℕ). p or_else rest) e
decided false false true rest o e = ap (λ (p : Option ℕ). p or_else rest) e
decided false false false rest o e = ap (λ (p : Option ℕ). p or_else rest) e

-- ---- one variable
module _ {L : Limits} {cells : List ℕ} {kind : ℕ} (g : GrowableAt L cells kind) where
  abbrev κ : Quantifier
  κ = quantifier_of kind

  abbrev D : Prefix
  D = prefix_at L cells

  first : free_first (quantifiers D) ≡ true
  first = and_right (prefix_fits L (numbers_in L cells) (levels_in L cells) (kinds_in L cells)) (free_first (quantifiers D)) g.sound.levels_ok

  pub declarable_at : DeclarableAt L cells kind
  declarable_at = record { room = g.room; may = record { sound = g.sound; code = g.code; next = (before_more κ (quantifiers D) g.before first).0 }; few = g.few }

  prefix_ok : prefix_is_ok L D ≡ true
  prefix_ok = and_both (numbers_are_ok L [] D) (free_first (quantifiers D)) g.sound.numbers_ok first

  module _ (n : ℕ) {o : Option ℕ} {cells' : List ℕ} (d : DeclaredAt L cells n kind o cells') where
    pub first_decides : (rest : List ℕ) → declare_fault L κ D (n ∷ rest) ≡ (o or_else declare_fault L κ (D ++ (variable κ n ∷ [])) rest)
    first_decides rest = decided (eqb n 0 || ltb L.numbers n) (not (eqb (place_of D n) 0)) (crowded κ D) (declare_fault L κ (D ++ (variable κ n ∷ [])) rest) o d.refusal

    -- declared: the rest of the block stands on one variable more
    module _ (e : o ≡ none) where
      pub one_more : prefix_at L cells' ≡ D ++ (variable κ n ∷ [])
      one_more = d.prefix ∙ ap (λ (p : Option ℕ). with_variable p D κ n) e

      pub rest_decides : (rest : List ℕ) → declare_fault L κ D (n ∷ rest) ≡ declare_fault L κ (prefix_at L cells') rest
      rest_decides rest =
          first_decides rest ∙ ap (λ (p : Option ℕ). p or_else declare_fault L κ (D ++ (variable κ n ∷ [])) rest) e
          ∙ ap (λ (E : Prefix). declare_fault L κ E rest) (sym one_more)

      pub growable_more : GrowableAt L cells' kind
      growable_more =
          record {
            room = omega (arith, g.room, d.beside.long);
            sound = d.sound;
            few = d.few;
            code = g.code;
            before =
                subst (λ (E : Prefix). Before κ (quantifiers E)) (sym one_more)
                (prefix_more L κ D n prefix_ok g.before (declarable L κ D n [] (first_decides [] ∙ ap (λ (p : Option ℕ). p or_else none) e)).0).1;
          }

-- ---- the loop: what the cells at its start have to do, those of now have with the literals left
pub record LeftAt (L : Limits) (cells₀ : List ℕ) (lits : List ℤ) (kind : ℕ) (cells : List ℕ) (i : ℕ) : Type 0 where
  pub growable : GrowableAt L cells kind
  pub same_fault : declare_fault L (quantifier_of kind) (prefix_at L cells₀) (map number_of lits) ≡ declare_fault L (quantifier_of kind) (prefix_at L cells) (map number_of (drop i lits))
  pub same_prefix : with_variables (prefix_at L cells₀) (quantifier_of kind) lits ≡ with_variables (prefix_at L cells) (quantifier_of kind) (drop i lits)
  pub beside : Beside L cells₀ cells

module _ {L : Limits} {cells₀ : List ℕ} {lits : List ℤ} {kind : ℕ} {cells : List ℕ} {i : ℕ} (h : LeftAt L cells₀ lits kind cells i) where
  module _ (inside : i < length lits) {l : ℤ} (at : l ≡ get_or lits i (pos 0)) {n : ℕ} (is : n ≡ number_of l) {o : Option ℕ} {cells' : List ℕ} (d : DeclaredAt L cells n kind o cells') where
    first_left : map number_of (drop i lits) ≡ n ∷ map number_of (drop (i + 1) lits)
    first_left = ap (map number_of) (drop_more lits i (pos 0) inside) ∙ ap (λ (m : ℕ). m ∷ map number_of (drop (i + 1) lits)) (sym (is ∙ ap number_of at))

    pub left_refused : {q : Refusal} → o ≡ some (refusal_number q) → GrownAt L cells₀ lits kind (Err q) cells'
    left_refused {q} z =
        record {
          fault =
              h.same_fault ∙ ap (declare_fault L (quantifier_of kind) (prefix_at L cells)) first_left ∙ first_decides h.growable n d (map number_of (drop (i + 1) lits))
              ∙ ap (λ (p : Option ℕ). p or_else declare_fault L (quantifier_of kind) (prefix_at L cells ++ (variable (quantifier_of kind) n ∷ [])) (map number_of (drop (i + 1) lits))) z;
          prefix = tt;
          sound = tt;
          few = tt;
          beside = beside_more h.beside d.beside;
        }

    pub left_more : o ≡ none → LeftAt L cells₀ lits kind cells' (i + 1)
    left_more z =
        record {
          growable = growable_more h.growable n d z;
          same_fault = h.same_fault ∙ ap (declare_fault L (quantifier_of kind) (prefix_at L cells)) first_left ∙ rest_decides h.growable n d z (map number_of (drop (i + 1) lits));
          same_prefix =
              h.same_prefix
              ∙ ap (λ (m : List ℕ). prefix_at L cells ++ map (variable (quantifier_of kind)) m) first_left
              ∙ sym (append_assoc (prefix_at L cells) (variable (quantifier_of kind) n ∷ []) (map (variable (quantifier_of kind)) (map number_of (drop (i + 1) lits))))
              ∙ ap (λ (E : Prefix). with_variables E (quantifier_of kind) (drop (i + 1) lits)) (sym (one_more h.growable n d z));
          beside = beside_more h.beside d.beside;
        }
