-- The lines of a day, by their brackets, their word and what is left behind it.
use Prim.Native.Nat.{ℕ, ◌<◌, ◌≤◌}
use mathlib.Core.Path.{◌≡◌, refl, sym, ap, ◌∙◌}
use mathlib.Core.Bool.{Bool, true, false, cond, not, ◌&&◌}
use mathlib.Core.List.{List, [], ◌∷◌}
use mathlib.Core.Option.{Option, none, some}
use native.Mathlib.Omega.{arith}
use lib.Dec.{eqb}
use lib.ListN.{length, get_or, take, drop}
use Rattle.std.specs.Cmp.Lexicographic.{pointwise}
use Rattle.std.specs.Prelude.{Option as Answer, Some, None}
use Rattle.std.specs.Borrow.{Bor}
use Rattle.layout.specs.Words.{Bytes, space, same, split, number, inside}
use Rattle.layout.specs.Forms.{then}
use Rattle.reader.specs.Pieces.{pieces, Cut}
use Rattle.reader.proofs.Texts.{split_some}
use Rattle.day_text.specs.Lines.{behind, of_keyword, keyword_ends, place_start, is_place, day_word, total_item, total_from, total_of, place_word, place_items, place_from, place_of, at_word, at_place, at_from, at_of}
use Rattle.day_reader.specs.Limits.{limit_items}
use Rattle.day_reader.specs.Placed.{at_items}
use Rattle.day_reader.proofs.Cuts.{cut_answer, cut_is}

-- ---- without brackets
module _ (l : Bytes) (h : inside l ≡ none) where
  pub total_out : total_of l ≡ none
  unfolding total_of
  total_out = rw h refl

  pub place_out : place_of l ≡ none
  unfolding place_of
  place_out = rw h refl

  pub at_out : at_of l ≡ none
  unfolding at_of
  at_out = rw h refl

-- ---- between them a word, and what is left behind it
module _ (l : Bytes) {s w : Bytes} {left : Answer (Bor Bytes)} (h : inside l ≡ some s) (p : Cut space s w left) where
  total_in : total_of l ≡ total_from (w ∷ pieces space left)
  unfolding total_of
  total_in = rw h (ap total_from p.is)

  pub total_day : same w day_word ≡ true → total_of l ≡ total_item (pieces space left)
  total_day e = total_in ∙ ap (λ (t : Bool). cond t (total_item (pieces space left)) none) e

  pub total_other : same w day_word ≡ false → total_of l ≡ none
  total_other e = total_in ∙ ap (λ (t : Bool). cond t (total_item (pieces space left)) none) e

  place_in : place_of l ≡ place_from (w ∷ pieces space left)
  unfolding place_of
  place_in = rw h (ap place_from p.is)

  pub place_said : same w place_word ≡ true → place_of l ≡ place_items (pieces space left)
  place_said e = place_in ∙ ap (λ (t : Bool). cond t (place_items (pieces space left)) none) e

  pub place_other : same w place_word ≡ false → place_of l ≡ none
  place_other e = place_in ∙ ap (λ (t : Bool). cond t (place_items (pieces space left)) none) e

  at_in : at_of l ≡ then (cut_answer w left) at_from
  unfolding at_of
  at_in = rw h (ap (λ (o : Option _). then o at_from) (cut_is p))

  pub at_other : same w at_word ≡ false → at_of l ≡ none
  at_other e = at_in ∙ by left
    where
      by : (r : Answer (Bor Bytes)) → then (cut_answer w r) at_from ≡ none
      by None = refl
      by (Some t) = ap (λ (u : Bool). cond u (at_items t.now) none) e

  pub at_alone : left ≡ None → at_of l ≡ none
  at_alone e = at_in ∙ ap (λ (r : Answer (Bor Bytes)). then (cut_answer w r) at_from) e

  pub at_said : (t : Bor Bytes) → left ≡ Some t → same w at_word ≡ true → at_of l ≡ at_items t.now
  at_said t e k = at_in ∙ ap (λ (r : Answer (Bor Bytes)). then (cut_answer w r) at_from) e ∙ ap (λ (u : Bool). cond u (at_items t.now) none) k

-- ---- numbers behind a word
-- a further word behind the number of a total
pub total_more : {s w : Bytes} {left : Answer (Bor Bytes)} → Cut space s w left → (t : Bor Bytes) → left ≡ Some t → total_item (split space s) ≡ none
total_more {w} p t e = ap total_item (p.is ∙ ap (λ (r : Answer (Bor Bytes)). w ∷ pieces space r) e) ∙ some_word (split_some space t.now)
  where
    some_word : ((v : Bytes) × (vs : List Bytes) × (split space t.now ≡ v ∷ vs)) → total_item (w ∷ split space t.now) ≡ none
    some_word (v, vs, g) = ap (λ (us : List Bytes). total_item (w ∷ us)) g

-- a third word behind the two limits
pub limits_more : {s w v : Bytes} {left more : Answer (Bor Bytes)} → Cut space s w left → (t : Bor Bytes) → left ≡ Some t → Cut space t.now v more → (r : Bor Bytes) → more ≡ Some r
    → limit_items (split space s) ≡ none
limits_more {w} {v} p t e q r k =
    ap limit_items (p.is ∙ ap (λ (a : Answer (Bor Bytes)). w ∷ pieces space a) e ∙ ap (λ (us : List Bytes). w ∷ us) (q.is ∙ ap (λ (a : Answer (Bor Bytes)). v ∷ pieces space a) k))
    ∙ some_word (split_some space r.now)
  where
    some_word : ((x : Bytes) × (xs : List Bytes) × (split space r.now ≡ x ∷ xs)) → limit_items (w ∷ v ∷ split space r.now) ≡ none
    some_word (x, xs, g) = ap (λ (us : List Bytes). limit_items (w ∷ v ∷ us)) g

-- ---- a place, and the line behind it
module _ {s w : Bytes} {left : Answer (Bor Bytes)} (p : Cut space s w left) where
  items_in : at_items s ≡ then (cut_answer w left) at_place
  items_in = ap (λ (o : Option _). then o at_place) (cut_is p)

  pub unplaced : none ≡ number w → at_items s ≡ none
  unplaced e = items_in ∙ by left
    where
      by : (r : Answer (Bor Bytes)) → then (cut_answer w r) at_place ≡ none
      by None = refl
      by (Some t) = ap (λ (o : Option ℕ). then o (λ k. some (record { place = k; call = t.now }))) (sym e)

  pub uncalled : left ≡ None → at_items s ≡ none
  uncalled e = items_in ∙ ap (λ (r : Answer (Bor Bytes)). then (cut_answer w r) at_place) e

  pub placed_call : (k : ℕ) (t : Bor Bytes) → some k ≡ number w → left ≡ Some t → at_items s ≡ some (record { place = k; call = t.now })
  placed_call k t n e =
      items_in ∙ ap (λ (r : Answer (Bor Bytes)). then (cut_answer w r) at_place) e
      ∙ ap (λ (o : Option ℕ). then o (λ j. some (record { place = j; call = t.now }))) (sym n)

-- ---- the keyword of a place line
strip : (w l : Bytes) → behind w l ≡ cond (pointwise eqb (take (length w) l) w) (some (drop (length w) l)) none
unfolding behind
strip [] l = refl
strip (a ∷ w) [] = refl
strip (a ∷ w) (b ∷ l) = by (eqb b a) (strip w l)
  where
    by : (t : Bool) → behind w l ≡ cond (pointwise eqb (take (length w) l) w) (some (drop (length w) l)) none → cond t (behind w l) none ≡ cond (t && pointwise eqb (take (length w) l) w) (some (drop (length w) l)) none
    by true go = go
    by false go = refl

pub other_keyword : (l : Bytes) → pointwise eqb (take 6 l) place_start ≡ false → is_place l ≡ false
unfolding is_place
other_keyword l e = ap keyword_ends (strip place_start l ∙ ap (λ (t : Bool). cond t (some (drop 6 l)) none) e)

module _ (l s : Bytes) (e : pointwise eqb (take 6 l) place_start ≡ true) (left : s ≡ drop 6 l) where
  keyword_in : is_place l ≡ keyword_ends (some s)
  unfolding is_place
  keyword_in = ap keyword_ends (strip place_start l ∙ ap (λ (t : Bool). cond t (some (drop 6 l)) none) e ∙ ap some (sym left))

  pub keyword_alone : length s < 1 → is_place l ≡ true
  keyword_alone h = keyword_in ∙ by s h
    where
      by : (t : Bytes) → length t < 1 → keyword_ends (some t) ≡ true
      by [] h = refl
      by (b ∷ t) h = absurd (omega (arith, h))

  pub keyword_more : 1 ≤ length s → is_place l ≡ not (of_keyword (get_or s 0 0))
  keyword_more h = keyword_in ∙ by s h
    where
      by : (t : Bytes) → 1 ≤ length t → keyword_ends (some t) ≡ not (of_keyword (get_or t 0 0))
      by [] h = absurd (omega (arith, h))
      by (b ∷ t) h = refl
