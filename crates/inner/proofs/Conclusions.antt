-- The steps one after the other, as `leaf` of qbf has them, with the constraint as codes.
use Prim.Native.Nat.{ℕ}
use mathlib.Core.Path.{◌≡◌, refl, sym, ap, ◌∙◌, subst}
use mathlib.Core.Bool.{Bool, true, false, cond}
use mathlib.Core.List.{List, []}
use mathlib.Core.Option.{Option, none, some}
use lib.Dec.{eqb}
use lib.ListN.{length}
use Rattle.qbf.specs.Formula.{Prefix, Clause, Node, all, satisfied}
use Rattle.qbf.specs.Truth.{Verdict, Outcome}
use Rattle.qbf.specs.Learning.{Constraint, Store, conclude_by, reduce, lowest_dead, reduced_found, eligible_match, implicant, leaf}
use Rattle.tables.specs.Codes.{codes}
use Rattle.tables.specs.Sets.{Descended}
use Rattle.inner.specs.Steps.{first_of, matched, satisfied_or}
use Rattle.search_entry.specs.Entry.{entry_at}
use Rattle.search_entry.specs.declared.bounds.Bounds.{Bounds}
use Rattle.inner.specs.declared.Leaf.{Leaf}
use Rattle.inner.specs.declared.Leaf.TheVariants.{No, Yes, Open}
use Rattle.inner.specs.Inner.{FoundCoded, LeafCoded, OpenKnown}
use Rattle.std.specs.Prelude.{Some, None}
use Rattle.std.specs.Prelude as code

-- ---- steps 1 and 2: what was found first, then what else is asked for
module _ (D : Prefix) (first next : Option Constraint) {x : code.Option Bounds} (cls cs area : List ℕ) (f : FoundCoded D x cls cs area first) where
  pub dying_found : {b : Bounds} → x ≡ Some b → FoundCoded D (Some b) cls cs area (first_of first next)
  dying_found q =
      let g = subst (λ (y : code.Option Bounds). FoundCoded D y cls cs area first) q f in
      (g.0, ap (λ (o : Option Constraint). first_of o next) g.1, g.2)

-- ---- step 4
module _ (D : Prefix) (s : Node) (cubes : List Constraint) {x : code.Option Bounds} (cls cs qs area : List ℕ) (f : FoundCoded D x cls qs area (eligible_match D eqb true s cubes)) where
  pub stored_yes : {b : Bounds} → x ≡ Some b → LeafCoded D (Yes b) cls cs qs area (matched D eqb s cubes)
  stored_yes q =
      let g = subst (λ (y : code.Option Bounds). FoundCoded D y cls qs area (eligible_match D eqb true s cubes)) q f in
      (g.0, ap (λ (o : Option Constraint). conclude_by true o none) g.1, g.2)

  pub stored_open : x ≡ None → LeafCoded D Open cls cs qs area (matched D eqb s cubes)
  stored_open q =
      let g = subst (λ (y : code.Option Bounds). FoundCoded D y cls qs area (eligible_match D eqb true s cubes)) q f in
      ap (λ (o : Option Constraint). conclude_by true o none) g

-- ---- step 3: every clause is satisfied, or not
module _ (D : Prefix) (R : List Clause) (s : Node) (next : Option (Outcome Constraint)) {b : Bool} (is : b ≡ all (satisfied D s) R) (cls cs qs area : List ℕ) where
  tested : (c : Bool) → b ≡ c → satisfied_or D R s next ≡ conclude_by true (cond c (some (reduce D true (implicant D s R []))) none) next
  tested c e = ap (λ (a : Bool). conclude_by true (cond a (some (reduce D true (implicant D s R []))) none) next) (sym is ∙ e)

  pub reached_all : b ≡ true → (at : Bounds) → entry_at at cls qs area ≡ codes D (reduce D true (implicant D s R []))
      → LeafCoded D (Yes at) cls cs qs area (satisfied_or D R s next)
  reached_all e at h = (reduce D true (implicant D s R []), tested true e, h)

-- ---- the steps in order
first_then : (v : Verdict) (a b : Option Constraint) (next : Option (Outcome Constraint)) → conclude_by v (first_of a b) next ≡ conclude_by v a (conclude_by v b next)
first_then v none b next = refl
first_then v (some e) b next = refl

module _ (D : Prefix) (R : List Clause) (s : Node) (st : Store) where
  abbrev conflict_of : Option Constraint
  conflict_of = first_of (reduced_found D false (lowest_dead D s R)) (eligible_match D eqb false s st.clauses)

  abbrev after : Option (Outcome Constraint)
  after = satisfied_or D R s (matched D eqb s st.cubes)

  in_order_lem : (o : Option Constraint) → conflict_of ≡ o → leaf D R eqb s st ≡ conclude_by false o after
  in_order_lem o e =
      sym (first_then false (reduced_found D false (lowest_dead D s R)) (eligible_match D eqb false s st.clauses) after)
      ∙ ap (λ (c : Option Constraint). conclude_by false c after) e

  module _ {x : code.Option Bounds} (cls cs qs area : List ℕ) (f : FoundCoded D x cls cs area conflict_of) where
    pub conflict_no : {b : Bounds} → x ≡ Some b → LeafCoded D (No b) cls cs qs area (leaf D R eqb s st)
    conflict_no q =
        let g = subst (λ (y : code.Option Bounds). FoundCoded D y cls cs area conflict_of) q f in
        (g.0, in_order_lem (some g.0) g.1, g.2)

    pub conflict_none : x ≡ None → (y : Leaf) → LeafCoded D y cls cs qs area after → LeafCoded D y cls cs qs area (leaf D R eqb s st)
    conflict_none q y h =
        let g = subst (λ (z : code.Option Bounds). FoundCoded D z cls cs area conflict_of) q f in
        subst (LeafCoded D y cls cs qs area) (sym (in_order_lem none g)) h

-- ---- where the node is open its row and mark are known
pub open_known : (x : Leaf) {D : Prefix} {s : Node} {R : List Clause} {wc k : ℕ} {sat marks : List ℕ} → length s ≡ k → Descended D s R wc sat marks k
    → OpenKnown x D s R wc sat marks (length s)
open_known (No b) e h = tt
open_known (Yes b) e h = tt
open_known Open {D} {s} {R} {wc} {k} {sat} {marks} e h = subst (Descended D s R wc sat marks) (sym e) h
