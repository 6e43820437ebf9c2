-- Items of a line: one at a place, then all of them into a table.
use Prim.Native.Nat.{ℕ, ◌+◌, ◌<◌, ◌≤◌}
use mathlib.Core.Path.{◌≡◌, refl, sym, ap, ◌∙◌}
use mathlib.Core.Bool.{Bool, true, false, ◌&&◌}
use mathlib.Core.List.{List, [], ◌∷◌, ◌++◌, map, append_assoc, append-nil}
use mathlib.Core.Option.{Option, none, some}
use native.Mathlib.Omega.{arith}
use native.Mathlib.Numerals.{add-one}
use native.Mathlib.Decide.{dec_lt}
use lib.IntN.{ℤ, pos}
use lib.Signed.{mag}
use mir.Syntax.{w16}
use mir.Val.{to_z, of_z}
use mir.Facts.{to_z-of_z}
use lib.ListN.{length, take, set, length-set, length-append, length-map}
use lib.Seq.{take_all, take-nil, take-suc-set, take-append-le, set_out}
use Rattle.qbf.specs.Formula.{Literal}
use Rattle.theory.proofs.Basics.{and_right}
use Rattle.layout.specs.Words.{Bytes, space, split, same, digits, number, closed}
use Rattle.layout.specs.Forms.{then, consed, items, no_word, off}
use Rattle.std.specs.Prelude.{Option as Answer, Some, None}
use Rattle.std.specs.Borrow.{Bor}
use Rattle.reader.specs.Pieces.{pieces, cut_bytes, size_left, Cut}
use Rattle.reader.specs.Items.{narrowed, all_narrowed, Kept}
use Rattle.reader.proofs.Words.{same_true}

-- ---- items
no_number : number no_word ≡ none
unfolding number digits
no_number = refl

pub items_on : (g : Bool) (w : Bytes) (ws : List Bytes) → (g && same w no_word) ≡ false → items g (w ∷ ws) ≡ consed pos (number w) (items g ws)
unfolding items
items_on g w [] e = refl
items_on g w (v ∷ ws) e = rw e

items_off : (g : Bool) (w v : Bytes) (ws : List Bytes) → (g && same w no_word) ≡ true → items g (w ∷ v ∷ ws) ≡ consed off (then (closed v) number) (items g ws)
unfolding items
items_off g w v ws e = rw e

pub narrowed_consed : {A : Type 0} (f : A → Literal) (a : A) (o : Option (List Literal)) → all_narrowed (consed f (some a) o) ≡ consed (λ x. x) (some (narrowed (f a))) (all_narrowed o)
unfolding consed all_narrowed
narrowed_consed f a none = refl
narrowed_consed f a (some ls) = refl

-- ---- the first item of some words
module _ {s w : Bytes} {left : Answer (Bor Bytes)} (p : Cut space s w left) (g : Bool) where
  pub literal_alone : left ≡ None → (g && same w no_word) ≡ true → items g (split space s) ≡ none
  unfolding items consed
  literal_alone h q = ap (items g) (p.is ∙ ap (λ (l : Answer (Bor Bytes)). w ∷ pieces space l) h)
      ∙ ap (λ (o : Option ℕ). consed pos o (some [])) (ap number (same_true w no_word (and_right g (same w no_word) q)) ∙ no_number)

  pub literal_on : (g && same w no_word) ≡ false → {o : Option ℕ} → o ≡ number w → items g (split space s) ≡ consed pos o (items g (pieces space left))
  literal_on q {o} k = ap (items g) p.is ∙ items_on g w (pieces space left) q ∙ ap (λ (o : Option ℕ). consed pos o (items g (pieces space left))) (sym k)

  pub literal_off : {t : Bor Bytes} → left ≡ Some t → {v : Bytes} {more : Answer (Bor Bytes)} → Cut space t.now v more → (g && same w no_word) ≡ true → {o : Option ℕ} → o ≡ then (closed v) number
      → items g (split space s) ≡ consed off o (items g (pieces space more))
  literal_off {t} h {v} {more} r q {o} k =
      ap (items g) (p.is ∙ ap (λ (l : Answer (Bor Bytes)). w ∷ pieces space l) h ∙ ap (λ (ws : List Bytes). w ∷ ws) r.is)
      ∙ items_off g w v (pieces space more) q
      ∙ ap (λ (o : Option ℕ). consed off o (items g (pieces space more))) (sym k)

-- what is left behind a word, or behind two
pub behind_one : {s w : Bytes} {left : Answer (Bor Bytes)} → Cut space s w left → (u : Bytes) × (s ≡ cut_bytes space u left)
behind_one {s} {w} p = (w, p.bytes)

pub behind_two : {s w : Bytes} {left : Answer (Bor Bytes)} → Cut space s w left → {t : Bor Bytes} → left ≡ Some t → {v : Bytes} {more : Answer (Bor Bytes)} → Cut space t.now v more
    → (u : Bytes) × (s ≡ cut_bytes space u more)
behind_two {s} {w} p h {v} {more} q = (w ++ (space ∷ v), p.bytes ∙ ap (cut_bytes space w) h ∙ ap (λ (u : Bytes). w ++ (space ∷ u)) q.bytes ∙ by more)
  where
    by : (m : Answer (Bor Bytes)) → w ++ (space ∷ cut_bytes space v m) ≡ cut_bytes space (w ++ (space ∷ v)) m
    by None = refl
    by (Some r) = sym (append_assoc w (space ∷ v) (space ∷ r.now))

pub consed_none : (f : ℕ → Literal) (o : Option (List Literal)) → consed f none o ≡ none
unfolding consed
consed_none f o = refl

pub item_read : (f : ℕ → Literal) (v : ℕ) (y : Option (List Literal)) {r : ℤ} {x : Option (List Literal)} → mag r < 32768 → r ≡ narrowed (f v) → x ≡ consed f (some v) y
    → all_narrowed x ≡ consed (λ l. l) (some (to_z w16 (of_z w16 r))) (all_narrowed y)
item_read f v y {r} {x} h e q =
    ap all_narrowed q ∙ narrowed_consed f v y ∙ ap (λ (l : Literal). consed (λ l. l) (some l) (all_narrowed y)) (sym (to_z-of_z {w = w16} (record { sfits = h }) ∙ e))

-- ---- a line's literals
unfoldable pub followed : List Literal → Option (List Literal) → Option (List Literal)
followed ds none = none
followed ds (some ls) = some (ds ++ ls)

followed_more : (ds : List Literal) (l : Literal) (o : Option (List Literal)) → followed ds (consed (λ x. x) (some l) o) ≡ followed (ds ++ (l ∷ [])) o
unfolding followed consed
followed_more ds l none = refl
followed_more ds l (some ls) = ap some (sym (append_assoc ds (l ∷ []) ls))

followed_nil : (o : Option (List Literal)) → o ≡ followed [] o
unfolding followed
followed_nil none = refl
followed_nil (some ls) = refl

some_not_none : (ls : List Literal) → ◌≡◌ {A = Option (List Literal)} (some ls) none → ⊥
some_not_none ls e = let z : ◌≡◌ {A = ℕ} 0 1 = cc in omega arith

all_narrowed_none : (o : Option (List Literal)) → all_narrowed o ≡ none → o ≡ none
unfolding all_narrowed
all_narrowed_none none e = refl
all_narrowed_none (some ls) e = absurd (some_not_none (map narrowed ls) e)

all_narrowed_some : (o : Option (List Literal)) (ds : List Literal) → all_narrowed o ≡ some ds → (ls : List Literal) × (o ≡ some ls) × (map narrowed ls ≡ ds)
unfolding all_narrowed
all_narrowed_some none ds e = absurd (some_not_none ds (sym e))
all_narrowed_some (some ls) ds e = (ls, refl, cc)

fill_more : (out ds : List Literal) (l : Literal) → take (length ds) out ≡ take (length out) ds
    → take (length ds + 1) (set out (length ds) l) ≡ take (length out) (ds ++ (l ∷ []))
fill_more out ds l e = by (dec_lt (length ds) (length out))
  where
    by : Dec (length ds < length out) → take (length ds + 1) (set out (length ds) l) ≡ take (length out) (ds ++ (l ∷ []))
    by (yes h) =
        ap (λ (k : ℕ). take k (set out (length ds) l)) (add-one (length ds))
        ∙ take-suc-set out (length ds) l h
        ∙ ap (λ (x : List Literal). x ++ (l ∷ [])) (e ∙ take_all (length out) ds (omega arith))
        ∙ sym (take_all (length out) (ds ++ (l ∷ [])) (simp length-append (omega arith)))
    by (no h) =
        let k : length out ≤ length ds = omega (arith, h) in
        ap (take (length ds + 1)) (set_out out (length ds) l k)
        ∙ take_all (length ds + 1) out (omega arith)
        ∙ sym (take_all (length ds) out k)
        ∙ e
        ∙ sym (take-append-le (length out) ds (l ∷ []) k)

-- Of the literals of a whole line n are read and stand in the table, and those that are left follow them.
pub record Gathered (whole left : Option (List Literal)) (out₀ out : List Literal) (n : ℕ) : Type 0 where
  pub done : List Literal
  pub count : n ≡ length done
  pub is : all_narrowed whole ≡ followed done (all_narrowed left)
  pub size : length out ≡ length out₀
  pub filled : take n out ≡ take (length out) done

pub gathered_none : (o : Option (List Literal)) (out : List Literal) → Gathered o o out out 0
gathered_none o out = record { done = []; count = refl; is = followed_nil (all_narrowed o); size = refl; filled = sym (take-nil (length out)) }

module _ {whole left : Option (List Literal)} {out₀ out : List Literal} {n : ℕ} (p : Gathered whole left out₀ out n) where
  pub gathered_bad : left ≡ none → whole ≡ none
  unfolding all_narrowed followed
  gathered_bad e = all_narrowed_none whole (p.is ∙ ap (λ (o : Option (List Literal)). followed p.done (all_narrowed o)) e)

  pub gathered_more : (l : Literal) {next : Option (List Literal)} → all_narrowed left ≡ consed (λ x. x) (some l) (all_narrowed next)
      → {new : List Literal} → new ≡ set out n l → Gathered whole next out₀ new (n + 1)
  gathered_more l {next} e {new} w =
      record {
        done = p.done ++ (l ∷ []);
        count = omega (arith, p.count, length-append p.done (l ∷ []));
        is = p.is ∙ ap (followed p.done) e ∙ followed_more p.done l (all_narrowed next);
        size = long ∙ p.size;
        filled =
            ap (take (n + 1)) w
            ∙ ap (λ (m : ℕ). take (m + 1) (set out m l)) p.count
            ∙ fill_more out p.done l (ap (λ (m : ℕ). take m out) (sym p.count) ∙ p.filled)
            ∙ ap (λ (m : ℕ). take m (p.done ++ (l ∷ []))) (sym long);
      }
    where
      long : length new ≡ length out
      long = ap length w ∙ length-set out n l

  pub gathered_all : left ≡ some [] → (ls : List Literal) × (whole ≡ some ls) × Kept n out ls
  unfolding all_narrowed followed
  gathered_all e =
      let r = all_narrowed_some whole p.done (p.is ∙ ap (λ (o : Option (List Literal)). followed p.done (all_narrowed o)) e ∙ ap some (append-nil p.done)) in
      (r.0, r.1, record { count = p.count ∙ ap length (sym r.2) ∙ length-map r.0 narrowed; first = p.filled ∙ ap (take (length out)) (sym r.2) })

-- n literals are read, and some words are left
pub record Reading (g : Bool) (words : Answer (Bor Bytes)) (out₀ out : List Literal) (left : Answer (Bor Bytes)) (n : ℕ) : Type 0 where
  pub few : n + size_left left ≤ size_left words
  pub gathered : Gathered (items g (pieces space words)) (items g (pieces space left)) out₀ out n

pub read_none : (g : Bool) (words : Answer (Bor Bytes)) (out : List Literal) → Reading g words out out words 0
read_none g words out = record { few = omega arith; gathered = gathered_none (items g (pieces space words)) out }

module _ {g : Bool} {words : Answer (Bor Bytes)} {out₀ out : List Literal} {left : Answer (Bor Bytes)} {n : ℕ} (p : Reading g words out₀ out left n) where
  pub read_bad : {t : Bor Bytes} → left ≡ Some t → items g (split space t.now) ≡ none → items g (pieces space words) ≡ none
  read_bad {t} h e = gathered_bad p.gathered (ap (λ (l : Answer (Bor Bytes)). items g (pieces space l)) h ∙ e)

  pub read_more : {t : Bor Bytes} → left ≡ Some t → (l : Literal) {next : Answer (Bor Bytes)} → size_left next ≤ length t.now
      → all_narrowed (items g (split space t.now)) ≡ consed (λ x. x) (some l) (all_narrowed (items g (pieces space next)))
      → {new : List Literal} → new ≡ set out n l → Reading g words out₀ new next (n + 1)
  read_more {t} h l {next} k e w =
      record {
        few = omega (arith, p.few, k, ap size_left h);
        gathered = gathered_more p.gathered l (ap (λ (l : Answer (Bor Bytes)). all_narrowed (items g (pieces space l))) h ∙ e) w;
      }

  pub read_end : left ≡ None → (ls : List Literal) × (items g (pieces space words) ≡ some ls) × Kept n out ls
  unfolding items
  read_end h = gathered_all p.gathered (ap (λ (l : Answer (Bor Bytes)). items g (pieces space l)) h)
