-- Taking a line apart: words and numbers are the bytes that they were read from.
use Prim.Native.Nat.{ℕ, suc, ◌+◌, ◌*◌, ◌-◌, ◌/◌, ◌%◌, ◌≤◌}
use mathlib.Core.Path.{◌≡◌, refl, sym, ap, ◌∙◌, subst}
use mathlib.Core.Logic.{◌⊎◌, inl, inr}
use mathlib.Core.Bool.{Bool, true, false, cond, not, ◌&&◌, ◌||◌, false≢true}
use mathlib.Core.List.{List, [], ◌∷◌, ◌++◌, append_assoc, append-nil}
use mathlib.Core.Option.{Option, none, some}
use native.Mathlib.Omega.{arith}
use borrow.Author.Tests.{eqb-true, eqb-false, eq-eqb, leb-true}
use lib.ListN.{length, get_or, take}
use lib.Seq.{take_all, take-suc}
use lib.Dec.{eqb, leb}
use Rattle.theory.proofs.Basics.{and_left, and_right, and_both}
use Rattle.layout.specs.Words.{Bytes, newline, opening, closing, on_first, split, same, is_digit, digits, number, closed, inside}
use Rattle.layout.specs.Output.{decimal}
use Rattle.layout_laws.proofs.Decimal.{decimal_one, decimal_more}
use Rattle.booktext_laws.proofs.Lines.{lacks, split_first, split_only}
use Rattle.editions.specs.Converting.{joined}

-- ---- options
pub none_some : {A : Type 0} (a : A) → ◌≡◌ {A = Option A} none (some a) → ⊥
none_some a e = let z : ◌≡◌ {A = ℕ} 0 1 = cc in omega arith

pub some_same : {A : Type 0} (a b : A) → some a ≡ some b → a ≡ b
some_same a b e = cc

-- ---- words
pub same_true : (w v : Bytes) → same w v ≡ true → w ≡ v
unfolding same
same_true [] [] e = refl
same_true [] (b ∷ v) e = absurd (false≢true e)
same_true (a ∷ w) [] e = absurd (false≢true e)
same_true (a ∷ w) (b ∷ v) e =
    ap (λ (x : ℕ). x ∷ w) (eqb-true a b (and_left (eqb a b) (same w v) e)) ∙ ap (λ (t : Bytes). b ∷ t) (same_true w v (and_right (eqb a b) (same w v) e))

pub true_same : (w : Bytes) → same w w ≡ true
unfolding same
true_same [] = refl
true_same (a ∷ w) = and_both (eqb a a) (same w w) (eq-eqb a a refl) (true_same w)

-- what follows a line's first word: nothing, or a space and the other words
abbrev pub Tail : ℕ → Bytes → List Bytes → Type 0
Tail c x ws = ((x ≡ []) × (ws ≡ [])) ⊎ ((y : Bytes) × (x ≡ c ∷ y) × (split c y ≡ ws))

pub tail_split : (c : ℕ) (w x : Bytes) (ws : List Bytes) → lacks c w ≡ true → Tail c x ws → split c (w ++ x) ≡ w ∷ ws
tail_split c w x ws h (inl p) = ap (λ (z : Bytes). split c (w ++ z)) p.0 ∙ ap (split c) (append-nil w) ∙ split_only c w h ∙ ap (λ (z : List Bytes). w ∷ z) (sym p.1)
tail_split c w x ws h (inr p) = ap (λ (z : Bytes). split c (w ++ z)) p.1 ∙ split_first c w p.0 h ∙ ap (λ (z : List Bytes). w ∷ z) p.2

-- the first piece of a text, and what follows it
pub record Parts (c : ℕ) (s w : Bytes) (ws : List Bytes) : Type 0 where
  pub rest : Bytes
  pub is : s ≡ w ++ rest
  pub free_of : lacks c w ≡ true
  pub tail : Tail c rest ws

pub pieces : (c : ℕ) (s : Bytes) → (w : Bytes) × (ws : List Bytes) × (split c s ≡ w ∷ ws) × Parts c s w ws
unfolding split
pieces c [] = ([], [], refl, record { rest = []; is = refl; free_of = refl; tail = inl (refl, refl) })
pieces c (b ∷ s) = by (eqb b c) refl (pieces c s)
  where
    by : (t : Bool) → eqb b c ≡ t → (w : Bytes) × (ws : List Bytes) × (split c s ≡ w ∷ ws) × Parts c s w ws
        → (w : Bytes) × (ws : List Bytes) × (cond t ([] ∷ split c s) (on_first b (split c s)) ≡ w ∷ ws) × Parts c (b ∷ s) w ws
    by true q ih = ([], split c s, refl, record { rest = b ∷ s; is = refl; free_of = refl; tail = inr (s, ap (λ (x : ℕ). x ∷ s) (eqb-true b c q), refl) })
    by false q ih =
        let p = ih.3 in
        (b ∷ ih.0, ih.1, ap (on_first b) ih.2, record { rest = p.rest; is = ap (λ (t : Bytes). b ∷ t) p.is; free_of = and_both (not (eqb b c)) (lacks c ih.0) (ap not q) p.free_of; tail = p.tail })

pub cons_same : (w v : Bytes) (ws vs : List Bytes) → w ∷ ws ≡ v ∷ vs → (w ≡ v) × (ws ≡ vs)
cons_same w v ws vs e = (cc, cc)

pub parts : (c : ℕ) (s w : Bytes) (ws : List Bytes) → split c s ≡ w ∷ ws → Parts c s w ws
parts c s w ws e =
    let p = pieces c s in
    let q = cons_same p.0 w p.1 ws (sym p.2 ∙ e) in
    subst (λ (v : Bytes). Parts c s v ws) q.0 (subst (Parts c s p.0) q.1 p.3)

-- ---- lines put together
-- each piece lacks the byte
abbrev pub AllLack : ℕ → List Bytes → Type 0
AllLack c [] = Unit {0}
AllLack c (w ∷ ws) = (lacks c w ≡ true) × AllLack c ws

first_lacks : (c b : ℕ) (ws : List Bytes) → not (eqb b c) ≡ true → AllLack c ws → AllLack c (on_first b ws)
first_lacks c b [] n h = (and_both (not (eqb b c)) true n refl, tt)
first_lacks c b (w ∷ ws) n h = (and_both (not (eqb b c)) (lacks c w) n h.0, h.1)

pub split_lacks : (c : ℕ) (s : Bytes) → AllLack c (split c s)
unfolding split
split_lacks c [] = (refl, tt)
split_lacks c (b ∷ s) = by (eqb b c) refl (split_lacks c s)
  where
    by : (t : Bool) → eqb b c ≡ t → AllLack c (split c s) → AllLack c (cond t ([] ∷ split c s) (on_first b (split c s)))
    by true q h = (refl, h)
    by false q h = first_lacks c b (split c s) (ap not q) h

pub joined_split : (s : Bytes) → joined (split newline s) ≡ s
unfolding split joined
joined_split [] = refl
joined_split (b ∷ s) = by (eqb b newline) refl (pieces newline s) (joined_split s)
  where
    by : (t : Bool) → eqb b newline ≡ t → (w : Bytes) × (ws : List Bytes) × (split newline s ≡ w ∷ ws) × Parts newline s w ws → joined (split newline s) ≡ s
        → joined (cond t ([] ∷ split newline s) (on_first b (split newline s))) ≡ b ∷ s
    by true q p h = ap (λ (v : List Bytes). joined ([] ∷ v)) p.2 ∙ ap (λ (v : List Bytes). newline ∷ joined v) (sym p.2) ∙ ap (λ (t : Bytes). newline ∷ t) h ∙ ap (λ (x : ℕ). x ∷ s) (sym (eqb-true b newline q))
    by false q p h = ap (λ (v : List Bytes). joined (on_first b v)) p.2 ∙ first p.1 ∙ ap (λ (v : List Bytes). b ∷ joined v) (sym p.2) ∙ ap (λ (t : Bytes). b ∷ t) h
      where
        first : (vs : List Bytes) → joined ((b ∷ p.0) ∷ vs) ≡ b ∷ joined (p.0 ∷ vs)
        first [] = refl
        first (v ∷ vs) = refl

pub split_joined : (w : Bytes) (ws : List Bytes) → AllLack newline (w ∷ ws) → split newline (joined (w ∷ ws)) ≡ w ∷ ws
unfolding joined
split_joined w [] h = split_only newline w h.0
split_joined w (v ∷ ws) h = split_first newline w (joined (v ∷ ws)) h.0 ∙ ap (λ (x : List Bytes). w ∷ x) (split_joined v ws h.1)

-- ---- brackets
pub closed_is : (w v : Bytes) → closed w ≡ some v → w ≡ v ++ (closing ∷ [])
unfolding closed
closed_is [] v e = absurd (none_some v e)
closed_is (a ∷ w) v e = by (eqb (get_or (a ∷ w) j 0) closing) refl e
  where
    j : ℕ
    j = length (a ∷ w) - 1

    by : (t : Bool) → eqb (get_or (a ∷ w) j 0) closing ≡ t → cond t (some (take j (a ∷ w))) none ≡ some v → a ∷ w ≡ v ++ (closing ∷ [])
    by true q z =
        sym (take_all (suc j) (a ∷ w) (omega arith)) ∙ take-suc (a ∷ w) j 0 (omega arith) ∙ ap (λ (x : ℕ). take j (a ∷ w) ++ (x ∷ [])) (eqb-true (get_or (a ∷ w) j 0) closing q)
        ∙ ap (λ (t : Bytes). t ++ (closing ∷ [])) (some_same (take j (a ∷ w)) v z)
    by false q z = absurd (none_some v z)

pub inside_is : (l s : Bytes) → inside l ≡ some s → l ≡ opening ∷ (s ++ (closing ∷ []))
unfolding inside
inside_is [] s e = absurd (none_some s e)
inside_is (a ∷ l) s e = by (eqb a opening) refl e
  where
    by : (t : Bool) → eqb a opening ≡ t → cond t (closed l) none ≡ some s → a ∷ l ≡ opening ∷ (s ++ (closing ∷ []))
    by true q z = ap (λ (x : ℕ). x ∷ l) (eqb-true a opening q) ∙ ap (λ (t : Bytes). opening ∷ t) (closed_is l s z)
    by false q z = absurd (none_some s z)

-- ---- numbers
digit_range : (b : ℕ) → is_digit b ≡ true → (48 ≤ b) × (b ≤ 57)
digit_range b e = (leb-true 48 b (and_left (leb 48 b) (leb b 57) e), leb-true b 57 (and_right (leb 48 b) (leb b 57) e))

digits_text : (v : ℕ) (w : Bytes) (n : ℕ) → 1 ≤ v → digits v w ≡ some n → decimal n ≡ decimal v ++ w
unfolding digits
digits_text v [] n h e = ap decimal (sym (some_same v n e)) ∙ sym (append-nil (decimal v))
digits_text v (b ∷ w) n h e = by (is_digit b) refl e (digits_text m w n)
  where
    m : ℕ
    m = v * 10 + (b - 48)

    by : (t : Bool) → is_digit b ≡ t → cond t (digits m w) none ≡ some n → (1 ≤ m → digits m w ≡ some n → decimal n ≡ decimal m ++ w) → decimal n ≡ decimal v ++ (b ∷ w)
    by true q z ih =
        let r = digit_range b q in
        let x : m / 10 ≡ v = omega (arith, r) in
        let y : 48 + m % 10 ≡ b = omega (arith, r) in
        ih (omega (arith, r)) z
        ∙ ap (λ (t : Bytes). t ++ w) (decimal_more m (omega (arith, r)) ∙ ap (λ (k : ℕ). decimal k ++ ((48 + m % 10) ∷ [])) x ∙ ap (λ (k : ℕ). decimal v ++ (k ∷ [])) y)
        ∙ append_assoc (decimal v) (b ∷ []) w
    by false q z ih = absurd (none_some n z)

pub number_text : (w : Bytes) (n : ℕ) → number w ≡ some n → w ≡ decimal n
unfolding number digits
number_text [] n e = absurd (none_some n e)
number_text (a ∷ w) n e = by (leb 1 (length (a ∷ w)) && leb (length (a ∷ w)) 5) (eqb (length (a ∷ w)) 1) refl (not (eqb a 48)) refl e
  where
    v : ℕ
    v = 0 * 10 + (a - 48)

    one_digit : is_digit a ≡ true → decimal v ≡ a ∷ []
    one_digit d =
        let r = digit_range a d in
        let x : 48 + v ≡ a = omega (arith, r) in
        decimal_one v (omega (arith, r)) ∙ ap (λ (k : ℕ). k ∷ []) x

    alone : (t : Bool) → is_digit a ≡ t → (u : Bytes) → length (a ∷ u) ≡ 1 → cond t (digits v u) none ≡ some n → a ∷ u ≡ decimal n
    alone false q u l z = absurd (none_some n z)
    alone true q [] l z = sym (one_digit q) ∙ ap decimal (some_same v n z)
    alone true q (b ∷ u) l z = absurd (omega (arith, l))

    more : (t : Bool) → is_digit a ≡ t → (a ≡ 48 → ⊥) → cond t (digits v w) none ≡ some n → a ∷ w ≡ decimal n
    more false q x z = absurd (none_some n z)
    more true q x z =
        let r = digit_range a q in
        sym (digits_text v w n (omega (arith, r, x)) z ∙ ap (λ (t : Bytes). t ++ w) (one_digit q))

    by : (f g : Bool) → eqb (length (a ∷ w)) 1 ≡ g → (h : Bool) → not (eqb a 48) ≡ h → cond (f && (g || h)) (cond (is_digit a) (digits v w) none) none ≡ some n → a ∷ w ≡ decimal n
    by false g q h r z = absurd (none_some n z)
    by true true q h r z = alone (is_digit a) refl w (eqb-true (length (a ∷ w)) 1 q) z
    by true false q true r z = more (is_digit a) refl (eqb-false a 48 (not_true_is (eqb a 48) r)) z
      where
        not_true_is : (t : Bool) → not t ≡ true → t ≡ false
        not_true_is true k = absurd (false≢true k)
        not_true_is false k = refl
    by true false q false r z = absurd (none_some n z)
