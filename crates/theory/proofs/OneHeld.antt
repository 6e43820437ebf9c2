-- The rules as they are held, in place order, are true where their forms are; an accepted form's literals have one place each.
use Prim.Native.Nat.{ℕ, zero, suc, ◌≤◌}
use native.Mathlib.Omega.{arith}
use mathlib.Core.Path.{◌≡◌, refl, sym, ap, ◌∙◌, subst}
use mathlib.Core.Logic.{◌⊎◌, inl, inr}
use mathlib.Core.Bool.{true, false, ◌||◌, true≢false}
use mathlib.Core.List.{List, [], ◌∷◌, map}
use mathlib.Core.Option.{none}
use lib.ListN.{length}
use lib.IntN.{neg_ℤ}
use lib.Dec.{eqb, ltb}
use Rattle.qbf.specs.Formula.{Prefix, Limits, Literal, Node, number_of, place_of, place, value_at, is_open, has, any, all, satisfied}
use Rattle.qbf.specs.Card.{Mem}
use Rattle.qbf.specs.Calls.{◌or_else◌, given, literal_fault, clause_of, one_rules}
use Rattle.theory.proofs.Basics.{dichotomy, any→, →any, or_false_left, or_false_right, false_eqb, true_eqb, value_some}
use Rattle.theory.proofs.Prefixes.{number_at}
use Rattle.theory.proofs.Sets.{union_sub, union_left}
use Rattle.theory.proofs.Stores.{mem_append}
use Rattle.theory.proofs.AcceptedRule.{given_none}
use Rattle.qbf.specs.One.{both_negated, pairs_with, pairs, one_forms}
use Rattle.theory.proofs.OneTruth.{AllGiven, negation_number}

-- a place has one literal
abbrev pub Single : Prefix → List Literal → Type 0
Single D ls = (x y : Literal) → Mem x ls → Mem y ls → place D x ≡ place D y → x ≡ y

-- ---- the rules as held
pub held_same : (D : Prefix) (s : Node) (c : List Literal) → Single D c → satisfied D s (clause_of D c) ≡ satisfied D s c
held_same D s c one = by (dichotomy (satisfied D s c)) (dichotomy (satisfied D s (clause_of D c)))
  where
    member : (x : Literal) → Mem x (clause_of D c) ⊎ (Mem x c ⊎ Mem x []) → Mem x c
    member x (inl m) = pick (union_sub D c [] x m)
      where
        pick : Mem x c ⊎ Mem x [] → Mem x c
        pick (inl n) = n
        pick (inr n) = absurd n
    member x (inr (inl n)) = n
    member x (inr (inr n)) = absurd n

    up : satisfied D s c ≡ true → satisfied D s (clause_of D c) ≡ true
    up e =
        let w = any→ (has D true s) c e in
        let v = union_left D c [] w.0 w.1 in
        →any (has D true s) (clause_of D c) v.0 v.1 (ap (has D true s) (one v.0 w.0 (member v.0 (inl v.1)) w.1 v.2) ∙ w.2)

    down : satisfied D s (clause_of D c) ≡ true → satisfied D s c ≡ true
    down e = let w = any→ (has D true s) (clause_of D c) e in →any (has D true s) c w.0 (member w.0 (inl w.1)) w.2

    by : (satisfied D s c ≡ true) ⊎ (satisfied D s c ≡ false) → (satisfied D s (clause_of D c) ≡ true) ⊎ (satisfied D s (clause_of D c) ≡ false) → satisfied D s (clause_of D c) ≡ satisfied D s c
    by (inl a) q = up a ∙ sym a
    by (inr a) (inl b) = absurd (true≢false (sym (down b) ∙ a))
    by (inr a) (inr b) = b ∙ sym a

module _ (D : Prefix) where
  pair_single : (l m : Literal) → (place D l ≡ place D m → l ≡ m) → Single D (both_negated l m)
  pair_single l m one x y (inl p) (inl q) e = p ∙ sym q
  pair_single l m one x y (inl p) (inr (inl q)) e = p ∙ ap neg_ℤ (one (same l x p ∙ e ∙ sym (same m y q))) ∙ sym q
    where
      same : (k z : Literal) → z ≡ neg_ℤ k → place D k ≡ place D z
      same k z r = ap (place_of D) (sym (negation_number k)) ∙ ap (place D) (sym r)
  pair_single l m one x y (inr (inl p)) (inl q) e = p ∙ ap neg_ℤ (sym (one (same l y q ∙ sym e ∙ sym (same m x p)))) ∙ sym q
    where
      same : (k z : Literal) → z ≡ neg_ℤ k → place D k ≡ place D z
      same k z r = ap (place_of D) (sym (negation_number k)) ∙ ap (place D) (sym r)
  pair_single l m one x y (inr (inl p)) (inr (inl q)) e = p ∙ sym q
  pair_single l m one x y (inl p) (inr (inr q)) e = absurd q
  pair_single l m one x y (inr (inl p)) (inr (inr q)) e = absurd q
  pair_single l m one x y (inr (inr p)) q e = absurd p

  -- rules as held, all of a list
  all_held : (s : Node) (cs : List (List Literal)) → ((c : List Literal) → Mem c cs → Single D c) → all (satisfied D s) (map (clause_of D) cs) ≡ all (satisfied D s) cs
  all_held s [] h = refl
  all_held s (c ∷ cs) h = cc (held_same D s c (h c (inl refl)), all_held s cs (λ x n. h x (inr n)))

  with_single : (l : Literal) (ms : List Literal) → Single D (l ∷ ms) → (c : List Literal) → Mem c (pairs_with l ms) → Single D c
  with_single l [] one c m = absurd m
  with_single l (k ∷ ms) one c (inl p) = subst (Single D) (sym p) (pair_single l k (one l k (inl refl) (inr (inl refl))))
  with_single l (k ∷ ms) one c (inr n) = with_single l ms (λ x y a b. one x y (skip x a) (skip y b)) c n
    where
      skip : (x : Literal) → Mem x (l ∷ ms) → Mem x (l ∷ k ∷ ms)
      skip x (inl p) = inl p
      skip x (inr q) = inr (inr q)

  pairs_single : (ls : List Literal) → Single D ls → (c : List Literal) → Mem c (pairs ls) → Single D c
  pairs_single [] one c m = absurd m
  pairs_single (l ∷ ls) one c m = pick (mem_append (pairs_with l ls) (pairs ls) c m) (pairs_single ls (λ x y a b. one x y (inr a) (inr b)) c)
    where
      pick : Mem c (pairs_with l ls) ⊎ Mem c (pairs ls) → (Mem c (pairs ls) → Single D c) → Single D c
      pick (inl n) ih = with_single l ls one c n
      pick (inr n) ih = ih n

  pub rules_forms : (s : Node) (ls : List Literal) → Single D ls → all (satisfied D s) (one_rules D ls) ≡ all (satisfied D s) (one_forms ls)
  rules_forms s ls one = all_held s (one_forms ls) each
    where
      each : (c : List Literal) → Mem c (one_forms ls) → Single D c
      each c (inl p) = subst (Single D) (sym p) one
      each c (inr n) = pairs_single ls one c n

-- ---- an accepted form's literals
module _ (L : Limits) (D : Prefix) where
  -- a literal without a fault, after those whose numbers are in `seen`
  pub record Fresh (seen : List ℕ) (l : Literal) : Type 0 where
    pub range : (eqb (number_of l) 0 || ltb L.numbers (number_of l)) ≡ false
    pub declared : eqb (place D l) 0 ≡ false
    pub new : any (eqb (number_of l)) seen ≡ false

  pub fresh_first : (seen : List ℕ) (l : Literal) (ls : List Literal) → literal_fault L D seen (l ∷ ls) ≡ none → Fresh seen l × (literal_fault L D (number_of l ∷ seen) ls ≡ none)
  fresh_first seen l ls e =
      let three = given_none (eqb (number_of l) 0 || ltb L.numbers (number_of l)) 3 (given (eqb (place D l) 0) 5 or_else given (any (eqb (number_of l)) seen) 6 or_else literal_fault L D (number_of l ∷ seen) ls) e in
      let five = given_none (eqb (place D l) 0) 5 (given (any (eqb (number_of l)) seen) 6 or_else literal_fault L D (number_of l ∷ seen) ls) three.1 in
      let six = given_none (any (eqb (number_of l)) seen) 6 (literal_fault L D (number_of l ∷ seen) ls) five.1 in
      (record { range = three.0; declared = five.0; new = six.0 }, six.1)

  pub fresh : (seen : List ℕ) (ls : List Literal) → literal_fault L D seen ls ≡ none → (l : Literal) → Mem l ls → Fresh seen l
  fresh seen [] e l m = absurd m
  fresh seen (k ∷ ls) e l m = by m (λ n. fresh (number_of k ∷ seen) ls (fresh_first seen k ls e).1 l n)
    where
      by : Mem l (k ∷ ls) → (Mem l ls → Fresh (number_of k ∷ seen) l) → Fresh seen l
      by (inl p) ih = subst (Fresh seen) (sym p) (fresh_first seen k ls e).0
      by (inr n) ih = let g = ih n in record { range = g.range; declared = g.declared; new = or_false_right (eqb (number_of l) (number_of k)) (any (eqb (number_of l)) seen) g.new }

  -- a declared place has one number
  same_number : (x y : Literal) → (place D x ≡ 0 → ⊥) → place D x ≡ place D y → number_of x ≡ number_of y
  same_number x y h e = by (place D x) refl
    where
      by : (p : ℕ) → place D x ≡ p → number_of x ≡ number_of y
      by zero q = absurd (h q)
      by (suc i) q = sym (number_at D (number_of x) i q).1 ∙ (number_at D (number_of y) i (sym e ∙ q)).1

  pub single : (seen : List ℕ) (ls : List Literal) → literal_fault L D seen ls ≡ none → Single D ls
  single seen [] e x y a b q = absurd a
  single seen (k ∷ ls) e x y a b q = by a b (single (number_of k ∷ seen) ls (fresh_first seen k ls e).1 x y)
    where
      tail : (z : Literal) → Mem z ls → Fresh (number_of k ∷ seen) z
      tail z m = fresh (number_of k ∷ seen) ls (fresh_first seen k ls e).1 z m

      apart : (z : Literal) → Mem z ls → place D z ≡ place D k → ⊥
      apart z m r = true≢false (sym (true_eqb (number_of z) (number_of k) (same_number z k (false_eqb (place D z) 0 (tail z m).declared) r)) ∙ or_false_left (eqb (number_of z) (number_of k)) (any (eqb (number_of z)) seen) (tail z m).new)

      by : Mem x (k ∷ ls) → Mem y (k ∷ ls) → (Mem x ls → Mem y ls → place D x ≡ place D y → x ≡ y) → x ≡ y
      by (inl p) (inl r) ih = p ∙ sym r
      by (inl p) (inr n) ih = absurd (apart y n (sym q ∙ ap (place D) p))
      by (inr m) (inl r) ih = absurd (apart x m (q ∙ ap (place D) r))
      by (inr m) (inr n) ih = ih m n q

  -- at a node of all places its literals have values
  pub all_given : (s : Node) → length D ≤ length s → (ls : List Literal) → literal_fault L D [] ls ≡ none → AllGiven D s ls
  all_given s h ls e l m = let g = fresh [] ls e l m in record { number = false_eqb (number_of l) 0 (or_false_left (eqb (number_of l) 0) (ltb L.numbers (number_of l)) g.range); value = by (place D l) refl (false_eqb (place D l) 0 g.declared) }
    where
      by : (p : ℕ) → place D l ≡ p → (place D l ≡ 0 → ⊥) → is_open (value_at s (place D l)) ≡ false
      by zero q z = absurd (z q)
      by (suc i) q z =
          let n = (number_at D (number_of l) i q).0 in
          ap (λ (p : ℕ). is_open (value_at s p)) q ∙ ap is_open (value_some s i (omega arith))
