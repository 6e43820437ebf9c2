-- The code that is looked up at an inner node, and what the lookup found.
use Prim.Native.Nat.{ℕ, zero, suc, ◌+◌, ◌*◌, ◌/◌, ◌%◌, ◌≤◌}
use native.Mathlib.Omega.{arith}
use native.Mathlib.Numerals.{add-one}
use mathlib.Core.Path.{◌≡◌, refl, sym, ap, ap₂, subst, ◌∙◌}
use mathlib.Core.Bool.{Bool, true, false, not, beq, true≢false, false≢true}
use mathlib.Core.List.{List, [], ◌∷◌, map}
use mathlib.Core.Option.{Option, none, some}
use lib.Dec.{eqb}
use lib.Bits.{bit_and}
use lib.ListN.{length, get_or, take, drop}
use Rattle.qbf.specs.Formula.{highest, Prefix, Node, value_at}
use Rattle.qbf.specs.Learning.{Constraint, eligible_match}
use Rattle.tables.specs.Codes.{code_at, codes, wanted, status_of, Statuses}
use Rattle.tables.specs.Shelves.{length_at, row_at, first_match}
use Rattle.shelf.specs.Masks.{bit, Noted}
use Rattle.inner.specs.Inner.{LastGiven, Worded}
use Rattle.inner.proofs.LastLiteral.{coded, last_literal}

-- ---- the code of a literal and of its opposite
pub opposite_up : (code : ℕ) → code % 2 ≡ 0 → (p : ℕ) (b : Bool) → code ≡ code_at p b → code + 1 ≡ code_at p (not b)
opposite_up code e p true is = absurd (omega (arith, e, is))
opposite_up code e p false is = omega (arith, is)

pub fails_in : (p : ℕ) (b cube : Bool) → cube ≡ false → {code : ℕ} → code ≡ code_at p (not b) → code ≡ code_at p (beq b cube)
fails_in p true false e is = is
fails_in p false false e is = is
fails_in p b true e is = absurd (true≢false e)

-- ---- the word of the codes that have a status, by that of the literals that have a truth value
-- a code is its place's and its sign's
code_is : (c : ℕ) → (b : Bool) × (c ≡ code_at (c / 2) b)
code_is c = by (c % 2) refl
  where
    by : (m : ℕ) → c % 2 ≡ m → (b : Bool) × (c ≡ code_at (c / 2) b)
    by zero e = (false, omega (arith, e))
    by (suc m) e = (true, omega (arith, e))

-- the sign of a literal that has the status
status_sign : (v b : Bool) (o : Option Bool) → eqb (status_of b o) (wanted v) ≡ true → (a : Bool) × (o ≡ some a) × (b ≡ beq a v)
status_sign true b none e = absurd (false≢true e)
status_sign false b none e = absurd (false≢true e)
status_sign true true (some true) e = (true, refl, refl)
status_sign true true (some false) e = absurd (false≢true e)
status_sign true false (some true) e = absurd (false≢true e)
status_sign true false (some false) e = (false, refl, refl)
status_sign false true (some true) e = absurd (false≢true e)
status_sign false true (some false) e = (false, refl, refl)
status_sign false false (some true) e = (true, refl, refl)
status_sign false false (some false) e = absurd (false≢true e)

pub noted_word : {s : Node} {t : List ℕ} → Statuses s t → {v : Bool} {word : ℕ} → Worded s v word → {want : ℕ} → want ≡ wanted v → Noted t want word
noted_word {s} {t} shown {v} {word} w {want} is = record { has = λ c e. by c (code_is c) e }
  where
    by : (c : ℕ) → (b : Bool) × (c ≡ code_at (c / 2) b) → eqb (get_or t c 0) want ≡ true → bit_and (bit c) word ≡ bit c
    by c (b, same) e =
        let status : get_or t c 0 ≡ status_of b (value_at s (c / 2)) = ap (λ (k : ℕ). get_or t k 0) same ∙ shown.at (c / 2) b in
        let x = status_sign v b (value_at s (c / 2)) (sym (ap₂ eqb status is) ∙ e) in
        let code : c ≡ code_at (c / 2) (beq x.0 v) = same ∙ ap (code_at (c / 2)) x.2 in
        subst (λ (k : ℕ). bit_and (bit k) word ≡ bit k) (sym code) (w.has (c / 2) x.0 x.1)

-- ---- the constraint of the codes that were found
uncoded : (D : Prefix) (o : Option Constraint) {row : List ℕ} → some row ≡ coded D o → (e : Constraint) × (o ≡ some e) × (row ≡ codes D e)
uncoded D none h = absurd (let z : ◌≡◌ {A = ℕ} 0 1 = cc in omega arith)
uncoded D (some e) h = (e, refl, cc)

uncoded_none : (D : Prefix) (o : Option Constraint) → none ≡ coded D o → o ≡ none
uncoded_none D none h = refl
uncoded_none D (some e) h = absurd (let z : ◌≡◌ {A = ℕ} 0 1 = cc in omega arith)

-- what was found among the rows of the constraints is what is eligible
module _ {t : List ℕ} (v : Bool) {at code last want : ℕ} (last_is : (p : ℕ) (b : Bool) → code ≡ code_at p b → last ≡ code_at p (beq b v)) (want_is : want ≡ wanted v)
    {rows : List (List ℕ)} {result : Option (List ℕ)} (found : result ≡ first_match last t want rows)
    (D : Prefix) (s : Node) (es : List Constraint) (shown : Statuses s t) (given : LastGiven s at code) (inner : 1 ≤ at)
    (same : rows ≡ map (codes D) es) where
  looked_up : result ≡ coded D (eligible_match D eqb v s es)
  looked_up =
      let is : last ≡ code_at (length s) (beq given.value v) =
      last_is at given.value given.coded ∙ ap (λ (p : ℕ). code_at p (beq given.value v)) (sym given.long) in
      found
      ∙ ap (first_match last t want) same
      ∙ ap (λ (w : ℕ). first_match last t w (map (codes D) es)) want_is
      ∙ ap (λ (c : ℕ). first_match c t (wanted v) (map (codes D) es)) is
      ∙ last_literal D s v given.value (ap (value_at s) given.long ∙ given.last) (omega (arith, given.long, inner)) t shown es

  pub found_row : {row : List ℕ} → result ≡ some row → (e : Constraint) × (eligible_match D eqb v s es ≡ some e) × (row ≡ codes D e)
  found_row is = uncoded D (eligible_match D eqb v s es) (sym is ∙ looked_up)

  pub found_nothing : result ≡ none → eligible_match D eqb v s es ≡ none
  found_nothing is = uncoded_none D (eligible_match D eqb v s es) (sym is ∙ looked_up)

-- ---- by its bounds
-- as many cells as the first n have
pub take_again : (n : ℕ) (xs : List ℕ) → take (length (take n xs)) xs ≡ take n xs
take_again zero xs = refl
take_again (suc n) [] = refl
take_again (suc n) (x ∷ xs) = ap {B = List ℕ} (λ ys. x ∷ ys) (take_again n xs)

-- the row of a slot
pub row_part : (cells : List ℕ) (slot : ℕ) (row : List ℕ) → row ≡ row_at highest.numbers cells slot
    → take (length row) (drop (slot * suc highest.numbers + 1) cells) ≡ row
row_part cells slot row is =
    ap (λ (x : List ℕ). take (length x) (drop (slot * suc highest.numbers + 1) cells)) is
    ∙ ap (λ (j : ℕ). take (length (row_at highest.numbers cells slot)) (drop j cells)) (add-one (slot * suc highest.numbers))
    ∙ take_again (length_at highest.numbers cells slot) (drop (suc (slot * suc highest.numbers)) cells)
    ∙ sym is
