-- The lines and readings that bytes hold: the bytes of a card hold its lines; a row taken apart at a place; a reading written.
use Prim.Native.Nat.{ℕ, zero, suc, ◌+◌, ◌*◌, ◌-◌, ◌≤◌, ◌<◌}
use native.Mathlib.Numerals.{add-one}
use native.Mathlib.Omega.{arith}
use mathlib.Core.Path.{◌≡◌, refl, sym, ap, ◌∙◌}
use mathlib.Core.Logic.{inl, inr}
use mathlib.Core.Bool.{Bool, true, false, cond}
use mathlib.Core.List.{List, [], ◌∷◌, ◌++◌, map, append_assoc, append-nil, map-append}
use lib.ListN.{length, get_or, set, take, drop, replicate, length-map, drop_of_length-le}
use lib.Seq.{drop-cons, take_at, drop_at, set_at, take_all, length-take-le}
use Rattle.std.proofs.lemmas.List.{get_or-append_right, map_more, drop-map}
use lib.Dec.{eqb}
use borrow.Author.Tests.{eq-eqb, ne_eqb}
use Rattle.qbf.specs.Formula.{Node}
use Rattle.qbf.specs.Card.{Mem, byte_of, line_bytes, bytes_of, table_of}
use Rattle.theory.proofs.Cards.{line_length}
use Rattle.qbf.specs.Closest.{differs, distance, nearest}
use Rattle.closest.specs.Table.{value_in, values_in, line_in, lines_in}

-- ---- what the bytes of a card hold
value_shown : (b : Bool) → value_in (byte_of b) ≡ b
value_shown true = refl
value_shown false = refl

pub values_shown : (t : Node) → values_in (map byte_of t) ≡ t
unfolding values_in
values_shown [] = refl
values_shown (b ∷ t) = cc (value_shown b, values_shown t)

line_shown : (s : Node) (n : ℕ) → line_in (map byte_of s ++ replicate n 0) ≡ s
unfolding line_in
line_shown [] zero = refl
line_shown [] (suc n) = refl
line_shown (true ∷ s) n = ap {B = Node} (λ l. true ∷ l) (line_shown s n)
line_shown (false ∷ s) n = ap {B = Node} (λ l. false ∷ l) (line_shown s n)

-- the lines of a table that begins with the bytes of lines
lines_then : (f : ℕ) (ls : List Node) (rest : List ℕ) → ((s : Node) → Mem s ls → length s ≤ f) → lines_in f (length ls) (bytes_of f ls ++ rest) ≡ ls
unfolding lines_in
lines_then f [] rest short = refl
lines_then f (s ∷ ls) rest short =
    let n : length (line_bytes f s) ≡ f = line_length f s (short s (inl refl)) in
    let e : (line_bytes f s ++ bytes_of f ls) ++ rest ≡ line_bytes f s ++ (bytes_of f ls ++ rest) = append_assoc (line_bytes f s) (bytes_of f ls) rest in
    ap (λ (l : List ℕ). line_in (take f l) ∷ lines_in f (length ls) (drop f l)) e
    ∙ ap (λ (l : List ℕ). line_in l ∷ lines_in f (length ls) (drop f (line_bytes f s ++ (bytes_of f ls ++ rest)))) (take_at (line_bytes f s) (bytes_of f ls ++ rest) f n)
    ∙ ap (λ (l : List ℕ). line_in (line_bytes f s) ∷ lines_in f (length ls) l) (drop_at (line_bytes f s) (bytes_of f ls ++ rest) f n)
    ∙ cc (line_shown s (f - length s), lines_then f ls rest (λ t m. short t (inr m)))

-- a card's table holds the card's lines
pub lines_shown : (f size : ℕ) (ls : List Node) → ((s : Node) → Mem s ls → length s ≤ f) → lines_in f (length ls) (table_of f size ls) ≡ ls
lines_shown f size ls short = lines_then f ls (replicate (size - length ls * f) 0) short

-- ---- a row taken apart at a place
module _ (row : List ℕ) (i : ℕ) (h : i < length row) where
  pub line_open : get_or row i 0 ≡ 0 → line_in (drop i row) ≡ []
  unfolding line_in
  line_open e = ap line_in (drop-cons row i 0 h) ∙ ap (λ (x : Bool). cond x [] (value_in (get_or row i 0) ∷ line_in (drop (suc i) row))) (eq-eqb (get_or row i 0) 0 e)

  pub line_set : (get_or row i 0 ≡ 0 → ⊥) → line_in (drop i row) ≡ value_in (get_or row i 0) ∷ line_in (drop (i + 1) row)
  unfolding line_in
  line_set e =
      ap line_in (drop-cons row i 0 h)
      ∙ ap (λ (x : Bool). cond x [] (value_in (get_or row i 0) ∷ line_in (drop (suc i) row))) (ne_eqb (get_or row i 0) 0 e)
      ∙ ap (λ (n : ℕ). value_in (get_or row i 0) ∷ line_in (drop n row)) (sym (add-one i))

  pub values_at : values_in (drop i row) ≡ value_in (get_or row i 0) ∷ values_in (drop (i + 1) row)
  unfolding values_in
  values_at = ap (map value_in) (drop-cons row i 0 h) ∙ ap (λ (n : ℕ). value_in (get_or row i 0) ∷ map value_in (drop n row)) (sym (add-one i))

pub line_end : (row : List ℕ) (i : ℕ) → length row ≤ i → line_in (drop i row) ≡ []
unfolding line_in
line_end row i h = ap line_in (drop_of_length-le row h)

-- ---- the number of a line, counted from its front
module _ (row given : List ℕ) where
  abbrev pub Passed : ℕ → ℕ → Type 0
  Passed i n = n + distance (line_in (drop i row)) (values_in (drop i given)) ≡ distance (line_in row) (values_in given)

  pub distance_more : (i n d : ℕ) → i < length row → length row ≡ length given → (get_or row i 0 ≡ 0 → ⊥) → d ≡ differs (value_in (get_or row i 0)) (value_in (get_or given i 0)) → Passed i n → Passed (i + 1) (n + d)
  distance_more i n d h k e w p =
      let at : distance (line_in (drop i row)) (values_in (drop i given)) ≡ differs (value_in (get_or row i 0)) (value_in (get_or given i 0)) + distance (line_in (drop (i + 1) row)) (values_in (drop (i + 1) given)) =
      cc (line_set row i h e, values_at given i (omega arith)) in
      omega arith

  pub distance_stop : (i n : ℕ) → i < length row → get_or row i 0 ≡ 0 → Passed i n → n ≡ distance (line_in row) (values_in given)
  distance_stop i n h e p = let at : distance (line_in (drop i row)) (values_in (drop i given)) ≡ 0 = cc (line_open row i h e) in omega arith

  pub distance_end : (i n : ℕ) → length row ≤ i → Passed i n → n ≡ distance (line_in row) (values_in given)
  distance_end i n h p = let at : distance (line_in (drop i row)) (values_in (drop i given)) ≡ 0 = cc (line_end row i h) in omega arith

-- ---- the flags that a line sets
pub none_set : length (line_in []) ≡ 0
unfolding line_in
none_set = refl

pub one_open : (b : ℕ) (row : List ℕ) → b ≡ 0 → length (line_in (b ∷ row)) ≡ 0
unfolding line_in
one_open b row e = ap (λ (x : Bool). length (cond x [] (value_in b ∷ line_in row))) (eq-eqb b 0 e)

pub one_set : (b : ℕ) (row : List ℕ) → (b ≡ 0 → ⊥) → length (line_in (b ∷ row)) ≡ length (line_in row) + 1
unfolding line_in
one_set b row e = ap (λ (x : Bool). length (cond x [] (value_in b ∷ line_in row))) (ne_eqb b 0 e) ∙ sym (add-one (length (line_in row)))

pub line_within : (row : List ℕ) → length (line_in row) ≤ length row
unfolding line_in
line_within [] = omega arith
line_within (b ∷ row) = by (eqb b 0) (line_within row)
  where
    by : (x : Bool) → length (line_in row) ≤ length row → length (cond x [] (value_in b ∷ line_in row)) ≤ length (b ∷ row)
    by true h = omega arith
    by false h = omega (arith, h)

-- ---- a reading written
-- a list changed in place by g, in its first i elements
module _ (g : ℕ → ℕ) (xs : List ℕ) where
  abbrev pub Changed : ℕ → List ℕ → Type 0
  Changed i ys = ys ≡ map g (take i xs) ++ drop i xs

  pub changed_none : Changed 0 xs
  changed_none = refl

  changed_length : (i : ℕ) → i ≤ length xs → length (map g (take i xs)) ≡ i
  changed_length i h = length-map (take i xs) g ∙ length-take-le i xs h

  left_is : (i : ℕ) (ys : List ℕ) → i < length xs → Changed i ys → get_or ys i 0 ≡ get_or xs i 0
  left_is i ys h e =
      ap (λ (l : List ℕ). get_or l i 0) e
      ∙ get_or-append_right (map g (take i xs)) (drop i xs) i i 0 (changed_length i (omega arith)) (omega arith)
      ∙ ap (λ (l : List ℕ). get_or l (i - i) 0) (drop-cons xs i 0 h)
      ∙ (let z : i - i ≡ 0 = omega arith in rw z refl)

  pub changed_more : (i v : ℕ) (ys : List ℕ) → i < length xs → Changed i ys → v ≡ g (get_or ys i 0) → Changed (i + 1) (set ys i v)
  changed_more i v ys h e w =
      ap (λ (l : List ℕ). set l i v) (e ∙ ap (λ (l : List ℕ). map g (take i xs) ++ l) (drop-cons xs i 0 h))
      ∙ set_at (map g (take i xs)) (get_or xs i 0) (drop (suc i) xs) v i (changed_length i (omega arith))
      ∙ sym (append_assoc (map g (take i xs)) (v ∷ []) (drop (suc i) xs))
      ∙ ap (λ (x : ℕ). (map g (take i xs) ++ (x ∷ [])) ++ drop (suc i) xs) (w ∙ ap g (left_is i ys h e))
      ∙ ap (λ (l : List ℕ). l ++ drop (suc i) xs) (sym (map_more g xs i 0 h))
      ∙ ap (λ (n : ℕ). map g (take (i + 1) xs) ++ drop n xs) (sym (add-one i))

  pub changed_all : (i : ℕ) (ys : List ℕ) → length xs ≤ i → Changed i ys → ys ≡ map g xs
  changed_all i ys h e =
      e
      ∙ ap (λ (l : List ℕ). map g (take i xs) ++ l) (drop_of_length-le xs h)
      ∙ append-nil (map g (take i xs))
      ∙ ap (map g) (take_all i xs h)

abbrev pub shown : ℕ → ℕ
shown b = byte_of (value_in b)

pub shown_all : (xs : List ℕ) → map shown xs ≡ map byte_of (values_in xs)
unfolding values_in
shown_all [] = refl
shown_all (b ∷ xs) = ap {B = List ℕ} (λ l. byte_of (value_in b) ∷ l) (shown_all xs)

-- a line's values are those of its first bytes
line_values : (row : List ℕ) → line_in row ≡ values_in (take (length (line_in row)) row)
unfolding line_in values_in
line_values [] = refl
line_values (b ∷ row) = by (eqb b 0) (line_values row)
  where
    by : (x : Bool) → line_in row ≡ values_in (take (length (line_in row)) row) → cond x [] (value_in b ∷ line_in row) ≡ values_in (take (length (cond x [] (value_in b ∷ line_in row))) (b ∷ row))
    by true e = refl
    by false e = ap {B = Node} (λ l. value_in b ∷ l) e

-- the given values, and over them the line's
pub nearest_written : (row given : List ℕ) (k : ℕ) → k ≡ length (line_in row) → values_in (take k row ++ drop k given) ≡ nearest (line_in row) (values_in given)
unfolding values_in
nearest_written row given k w =
    map-append value_in (take k row) (drop k given)
    ∙ ap (λ (n : ℕ). map value_in (take n row) ++ map value_in (drop n given)) w
    ∙ ap (λ (s : Node). s ++ map value_in (drop (length (line_in row)) given)) (sym (line_values row))
    ∙ ap (λ (s : Node). line_in row ++ s) (sym (drop-map value_in (length (line_in row)) given))

-- ---- a flag's two values by their bytes
pub differs_byte : (a b : Bool) → byte_of a ≡ byte_of b → 0 ≡ differs a b
differs_byte true true e = refl
differs_byte true false e = absurd (omega arith)
differs_byte false true e = absurd (omega arith)
differs_byte false false e = refl

pub differs_bytes : (a b : Bool) → (byte_of a ≡ byte_of b → ⊥) → 1 ≡ differs a b
differs_bytes true true e = absurd (e refl)
differs_bytes true false e = refl
differs_bytes false true e = refl
differs_bytes false false e = absurd (e refl)
