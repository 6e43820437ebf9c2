-- A node is won for Yes (true) if all completions of its free variables are true, and for No (false) if none is.
use Prim.Native.Nat.{ℕ, zero, suc, ◌≤◌, ◌<◌}
use native.Mathlib.Nat.{le_of_suc-le-suc, not-suc-le-zero}
use native.Mathlib.Omega.{arith}
use mathlib.Core.Path.{◌≡◌, refl, sym, ap, ◌∙◌, subst}
use mathlib.Core.Logic.{◌⊎◌, inl, inr}
use mathlib.Core.Bool.{Bool, true, false, not, ◌&&◌, ◌||◌, beq, true≢false, false≢true}
use mathlib.Core.List.{List, [], ◌∷◌}
use mathlib.Core.Option.{Option, none, some}
use lib.ListN.{length}
use Rattle.qbf.specs.Formula.{Clause, Literal, Node, Prefix, Quantifier, ◌▹◌, all, dead, equals, exists, forall, free, has, is_open, place, positive, quantifier_at, quantifiers, satisfied, value_at}
use Rattle.qbf.specs.Truth.{completions}
use Rattle.qbf.specs.Learning.{dropped}
use Rattle.qbf.specs.Card.{Mem}
use Rattle.theory.proofs.Basics.{dichotomy, or_cases, or_left, or_right, or_false, or_false_left, or_false_right, and_left, and_right, and_both, and_false_left, and_false_right, all→, →all, any→, →any, →any_false, all_false, length-▹, value_top, value_some, le_or_lt, has_le, has_up, beq_refl}
use Rattle.theory.proofs.Rest.{Rest, drop_end, rest_up, rest_kind}

-- the places of a clause or constraint rise from above d
abbrev pub Rising : Prefix → ℕ → List Literal → Type 0
Rising D d [] = Unit {0}
Rising D d (l ∷ ls) = (d < place D l) × Rising D (place D l) ls

pub rising_above : (D : Prefix) (d : ℕ) (ls : List Literal) → Rising D d ls → (l : Literal) → Mem l ls → d < place D l
rising_above D d [] h l m = absurd m
rising_above D d (k ∷ ls) h l (inl p) = subst (λ (x : Literal). d < place D x) (sym p) h.0
rising_above D d (k ∷ ls) h l (inr m) = omega (arith, h.0, rising_above D (place D k) ls h.1 l m)

module _ (D : Prefix) (R : List Clause) where
  abbrev pub Win : Bool → List Quantifier → Node → Type 0
  Win v ks s = completions (not v) D R ks s ≡ v

  -- one side is enough where the place is the winner's own
  pub win_one : (v : Bool) (κ : Quantifier) (ks : List Quantifier) (s : Node) (b : Bool) → dropped v κ ≡ true → Win v ks (s ▹ b) → Win v (κ ∷ ks) s
  win_one true free ks s b o w = absurd (false≢true o)
  win_one true exists ks s false o w = or_left (completions false D R ks (s ▹ false)) (completions false D R ks (s ▹ true)) w
  win_one true exists ks s true o w = or_right (completions false D R ks (s ▹ false)) (completions false D R ks (s ▹ true)) w
  win_one true forall ks s b o w = absurd (false≢true o)
  win_one false free ks s b o w = absurd (false≢true o)
  win_one false exists ks s b o w = absurd (false≢true o)
  win_one false forall ks s false o w = and_false_left (completions true D R ks (s ▹ false)) (completions true D R ks (s ▹ true)) w
  win_one false forall ks s true o w = and_false_right (completions true D R ks (s ▹ false)) (completions true D R ks (s ▹ true)) w

  -- elsewhere both are needed
  pub win_both : (v : Bool) (κ : Quantifier) (ks : List Quantifier) (s : Node) → dropped v κ ≡ false → ((b : Bool) → Win v ks (s ▹ b)) → Win v (κ ∷ ks) s
  win_both true free ks s o w = and_both (completions false D R ks (s ▹ false)) (completions false D R ks (s ▹ true)) (w false) (w true)
  win_both true exists ks s o w = absurd (true≢false o)
  win_both true forall ks s o w = and_both (completions false D R ks (s ▹ false)) (completions false D R ks (s ▹ true)) (w false) (w true)
  win_both false free ks s o w = or_false (completions true D R ks (s ▹ false)) (completions true D R ks (s ▹ true)) (w false) (w true)
  win_both false exists ks s o w = or_false (completions true D R ks (s ▹ false)) (completions true D R ks (s ▹ true)) (w false) (w true)
  win_both false forall ks s o w = absurd (true≢false o)

  -- at a free variable the verdict of a node is that of both sides
  pub win_down : (v : Bool) (ks : List Quantifier) (s : Node) (b : Bool) → Win v (free ∷ ks) s → Win v ks (s ▹ b)
  win_down true ks s false w = and_left (completions false D R ks (s ▹ false)) (completions false D R ks (s ▹ true)) w
  win_down true ks s true w = and_right (completions false D R ks (s ▹ false)) (completions false D R ks (s ▹ true)) w
  win_down false ks s false w = or_false_left (completions true D R ks (s ▹ false)) (completions true D R ks (s ▹ true)) w
  win_down false ks s true w = or_false_right (completions true D R ks (s ▹ false)) (completions true D R ks (s ▹ true)) w

  -- clauses that are satisfied stay so at a longer node
  pub satisfied_up : (s : Node) (b : Bool) → all (satisfied D s) R ≡ true → all (satisfied D (s ▹ b)) R ≡ true
  satisfied_up s b e = →all (satisfied D (s ▹ b)) R (λ r m. one r (all→ (satisfied D s) R e r m))
    where
      one : (r : Clause) → satisfied D s r ≡ true → satisfied D (s ▹ b) r ≡ true
      one r h = let w = any→ (has D true s) r h in →any (has D true (s ▹ b)) r w.0 w.1 (has_up D true s b w.0 w.2)

  -- every clause satisfied: Yes
  pub win_satisfied : (ks : List Quantifier) (s : Node) → all (satisfied D s) R ≡ true → Win true ks s
  win_satisfied [] s e = e
  win_satisfied (κ ∷ ks) s e = by (dichotomy (dropped true κ)) (λ b. win_satisfied ks (s ▹ b) (satisfied_up s b e))
    where
      by : (dropped true κ ≡ true) ⊎ (dropped true κ ≡ false) → ((b : Bool) → Win true ks (s ▹ b)) → Win true (κ ∷ ks) s
      by (inl o) w = win_one true κ ks s false o (w false)
      by (inr o) w = win_both true κ ks s o w

  -- each literal false, or beyond the node and forall: what dead says, by places
  pub record Dead (s : Node) (r : Clause) : Type 0 where
    pub low : (l : Literal) → Mem l r → place D l ≤ length s → has D false s l ≡ true
    pub high : (l : Literal) → Mem l r → length s < place D l → dropped false (quantifier_at D (place D l)) ≡ true

  pub dead→Dead : (s : Node) (r : Clause) → Rising D 0 r → dead D s r ≡ true → Dead s r
  dead→Dead s r up e = record { low = λ l m h. lows l m h (at l m); high = λ l m h. highs l h (at l m) }
    where
      at : (l : Literal) → Mem l r → (has D false s l ≡ true) ⊎ ((is_open (value_at s (place D l)) && dropped false (quantifier_at D (place D l))) ≡ true)
      at l m = or_cases (has D false s l) (is_open (value_at s (place D l)) && dropped false (quantifier_at D (place D l))) (all→ (λ x. has D false s x || (is_open (value_at s (place D x)) && dropped false (quantifier_at D (place D x)))) r e l m)

      closed : (p : ℕ) → 0 < p → p ≤ length s → is_open (value_at s p) ≡ true → ⊥
      closed zero q h o = not-suc-le-zero q
      closed (suc i) q h o = false≢true (sym (ap is_open (value_some s i h)) ∙ o)

      lows : (l : Literal) → Mem l r → place D l ≤ length s → (has D false s l ≡ true) ⊎ ((is_open (value_at s (place D l)) && dropped false (quantifier_at D (place D l))) ≡ true) → has D false s l ≡ true
      lows l m h (inl q) = q
      lows l m h (inr q) = absurd (closed (place D l) (rising_above D 0 r up l m) h (and_left (is_open (value_at s (place D l))) (dropped false (quantifier_at D (place D l))) q))

      highs : (l : Literal) → length s < place D l → (has D false s l ≡ true) ⊎ ((is_open (value_at s (place D l)) && dropped false (quantifier_at D (place D l))) ≡ true) → dropped false (quantifier_at D (place D l)) ≡ true
      highs l h (inl q) = absurd (omega (arith, h, has_le D false s l q))
      highs l h (inr q) = and_right (is_open (value_at s (place D l))) (dropped false (quantifier_at D (place D l))) q

  -- the value that makes the literals of one place false, where there is at most one
  choice : (p d : ℕ) (r : Clause) → Rising D d r → (b : Bool) × ((l : Literal) → Mem l r → place D l ≡ p → beq false (positive l) ≡ b)
  choice p d [] up = (false, λ l m e. absurd m)
  choice p d (k ∷ r) up = by (le_or_lt (place D k) p) (le_or_lt p (place D k)) (choice p (place D k) r up.1)
    where
      by : (place D k ≤ p) ⊎ (p < place D k) → (p ≤ place D k) ⊎ (place D k < p)
          → (b : Bool) × ((l : Literal) → Mem l r → place D l ≡ p → beq false (positive l) ≡ b)
          → (b : Bool) × ((l : Literal) → Mem l (k ∷ r) → place D l ≡ p → beq false (positive l) ≡ b)
      by (inl h) (inl g) ih = (beq false (positive k), this)
        where
          this : (l : Literal) → Mem l (k ∷ r) → place D l ≡ p → beq false (positive l) ≡ beq false (positive k)
          this l (inl q) e = ap (λ (x : Literal). beq false (positive x)) q
          this l (inr m) e = absurd (omega (arith, h, g, e, rising_above D (place D k) r up.1 l m))
      by (inl h) (inr g) ih = (ih.0, that)
        where
          that : (l : Literal) → Mem l (k ∷ r) → place D l ≡ p → beq false (positive l) ≡ ih.0
          that l (inl q) e = absurd (omega (arith, g, sym e, ap (place D) q))
          that l (inr m) e = ih.1 l m e
      by (inr h) g ih = (ih.0, that)
        where
          that : (l : Literal) → Mem l (k ∷ r) → place D l ≡ p → beq false (positive l) ≡ ih.0
          that l (inl q) e = absurd (omega (arith, h, sym e, ap (place D) q))
          that l (inr m) e = ih.1 l m e

  -- a literal of the next place
  pub has_top : (v : Bool) (s : Node) (b : Bool) (l : Literal) → place D l ≡ suc (length s) → beq v (positive l) ≡ b → has D v (s ▹ b) l ≡ true
  has_top v s b l e q = ap (λ (p : ℕ). equals (value_at (s ▹ b) p) (beq v (positive l))) e ∙ ap (λ o. equals o (beq v (positive l))) (value_top s b) ∙ ap (beq b) q ∙ beq_refl b

  -- a dead clause stays dead at a side that makes its literals there false
  dead_up : (s : Node) (r : Clause) (b : Bool) → Dead s r
      → ((l : Literal) → Mem l r → place D l ≡ suc (length s) → beq false (positive l) ≡ b) → Dead (s ▹ b) r
  dead_up s r b d c = record { low = λ l m h. lows l m (le_or_lt (place D l) (length s)) h; high = λ l m h. d.high l m (omega (arith, h, length-▹ s b)) }
    where
      lows : (l : Literal) → Mem l r → (place D l ≤ length s) ⊎ (length s < place D l) → place D l ≤ length (s ▹ b) → has D false (s ▹ b) l ≡ true
      lows l m (inl g) h = has_up D false s b l (d.low l m g)
      lows l m (inr g) h = let e : place D l ≡ suc (length s) = omega (arith, g, h, length-▹ s b) in has_top false s b l e (c l m e)

  pub win_dead : (ks : List Quantifier) (s : Node) (r : Clause) → Rest D s ks → Mem r R → Rising D 0 r → Dead s r → Win false ks s
  win_dead [] s r e m up d = all_false (satisfied D s) R r m (→any_false (has D true s) r (λ l n. gone l n (le_or_lt (place D l) (length s))))
    where
      flip : (o : Option Bool) (c : Bool) → equals o (beq false c) ≡ true → equals o (beq true c) ≡ false
      flip none c q = refl
      flip (some true) true q = absurd (false≢true q)
      flip (some true) false q = refl
      flip (some false) true q = refl
      flip (some false) false q = absurd (false≢true q)

      beyond : (p : ℕ) → length s < p → dropped false (quantifier_at D p) ≡ true → ⊥
      beyond zero h o = not-suc-le-zero h
      beyond (suc i) h o = false≢true (sym (ap (dropped false) (drop_end (quantifiers D) (length s) e i (le_of_suc-le-suc h))) ∙ o)

      gone : (l : Literal) → Mem l r → (place D l ≤ length s) ⊎ (length s < place D l) → has D true s l ≡ false
      gone l n (inl h) = flip (value_at s (place D l)) (positive l) (d.low l n h)
      gone l n (inr h) = absurd (beyond (place D l) h (d.high l n h))
  win_dead (κ ∷ ks) s r e m up d =
      by (dichotomy (dropped false κ)) (λ b t. win_dead ks (s ▹ b) r (rest_up D s b κ ks e) m up t)
    where
      by : (dropped false κ ≡ true) ⊎ (dropped false κ ≡ false) → ((b : Bool) → Dead (s ▹ b) r → Win false ks (s ▹ b)) → Win false (κ ∷ ks) s
      by (inl o) w = let c = choice (suc (length s)) 0 r up in win_one false κ ks s c.0 o (w c.0 (dead_up s r c.0 d c.1))
      by (inr o) w = win_both false κ ks s o (λ b. w b (dead_up s r b d (λ l n q. absurd (true≢false (sym (d.high l n (omega (arith, q))) ∙ ap (dropped false) (ap (quantifier_at D) q ∙ rest_kind D s κ ks e) ∙ o)))))
