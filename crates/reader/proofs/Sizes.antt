-- The size of a table that a call's line gives: no more bytes than the table has.
use Prim.Native.Nat.{ℕ, ◌≤◌}
use native.Mathlib.Omega.{arith}
use mathlib.Core.Path.{◌≡◌, refl}
use mathlib.Core.Bool.{Bool, true, false, cond}
use mathlib.Core.List.{List, [], ◌∷◌}
use mathlib.Core.Option.{Option, none, some}
use borrow.Author.Tests.{leb-true}
use lib.ListN.{length}
use lib.Dec.{leb, ltb}
use Rattle.qbf.specs.Formula.{Literal, number_of}
use Rattle.qbf.specs.Ceiling.{highest_ceiling}
use Rattle.qbf.specs.Calls.{Call, rule, query, card, keep_card, card_of, forget, withdraw, one, closest}
use Rattle.layout.specs.Words.{Bytes, space, split, same, number_within, closed, inside}
use Rattle.layout.specs.Forms.{then, items, rule_word, one_word}
use Rattle.layout.specs.Opening as opening
use Rattle.layout.specs.Program.{table_bytes}
use Rattle.layout.specs.Endings.{within, number_up_to, last_item, Ended, item, after, ended, ceiling_word, ceiling_number, bytes_word, bytes_number}
use Rattle.layout.specs.Session.{query_word, card_word, keep_card_word, forget_word, withdraw_word, closest_word, rule_call, one_call, query_call, closest_call, card_call, alone, call_from, under, into, takes_given, sized_call, ceiled_call, call_of}

-- ---- an item's number is no higher than the highest
abbrev LowNumber : ℕ → Option ℕ → Type 0
LowNumber top none = Unit {0}
LowNumber top (some n) = n ≤ top

abbrev Low : ℕ → Option Ended → Type 0
Low top none = Unit {0}
Low top (some z) = LowNumber top z.last

module _ (most top : ℕ) where
  low_within : (o : Option ℕ) → LowNumber top (then o (within top))
  low_within none = tt
  low_within (some n) = by (leb n top) refl
    where
      by : (t : Bool) → leb n top ≡ t → LowNumber top (cond t (some n) none)
      by true e = leb-true n top e
      by false e = tt

  low_number : (w : Bytes) → LowNumber top (number_up_to most top w)
  unfolding number_up_to
  low_number w = low_within (number_within most w)

  low_last : (ws : List Bytes) → LowNumber top (last_item (number_up_to most top) ws)
  low_last [] = tt
  low_last (w ∷ []) = by (closed w)
    where
      by : (o : Option Bytes) → LowNumber top (then o (number_up_to most top))
      by none = tt
      by (some v) = low_number v
  low_last (w ∷ v ∷ ws) = tt

  low_item : (o : Option ℕ) → LowNumber top o → Low top (then o item)
  low_item none h = tt
  low_item (some n) h = h

  low_after : (w : Bytes) (o : Option Ended) → Low top o → Low top (then o (after w))
  low_after w none h = tt
  low_after w (some z) h = h

  low_cond : (t : Bool) (a c : Option Ended) → Low top a → Low top c → Low top (cond t a c)
  low_cond true a c h k = h
  low_cond false a c h k = k

  low_ended : (word : Bytes) (ws : List Bytes) → Low top (ended word (number_up_to most top) ws)
  unfolding ended
  low_ended word [] = tt
  low_ended word (w ∷ ws) =
      low_cond (same w word) (then (last_item (number_up_to most top) ws) item) (then (ended word (number_up_to most top) ws) (after w))
      (low_item (last_item (number_up_to most top) ws) (low_last ws))
      (low_after w (ended word (number_up_to most top) ws) (low_ended word ws))

-- ---- a card, or a closest reading, asks for no more than the table has
abbrev pub Fits : Option Call → Type 0
Fits none = Unit {0}
Fits (some (rule ls)) = Unit {0}
Fits (some (query top on off)) = Unit {0}
Fits (some (card top size)) = size ≤ table_bytes
Fits (some (keep_card top size)) = size ≤ table_bytes
Fits (some forget) = Unit {0}
Fits (some withdraw) = Unit {0}
Fits (some (one ls)) = Unit {0}
Fits (some (closest top size on off)) = size ≤ table_bytes

fits_then : {A : Type 0} (o : Option A) (f : A → Option Call) → ((a : A) → Fits (f a)) → Fits (then o f)
fits_then none f h = tt
fits_then (some a) f h = h a

fits_cond : (t : Bool) (a c : Option Call) → Fits a → Fits c → Fits (cond t a c)
fits_cond true a c h k = h
fits_cond false a c h k = k

fits_size : (top : ℕ) (p : Bool) (size : ℕ) → size ≤ table_bytes → Fits (some (card_of p top size))
fits_size top true size h = h
fits_size top false size h = h

fits_card : (p : Bool) (ls : List Literal) → Fits (card_call p ls)
fits_card p [] = fits_size highest_ceiling p table_bytes (omega arith)
fits_card p (l ∷ []) = by (leb (number_of l) table_bytes) refl
  where
    by : (t : Bool) → leb (number_of l) table_bytes ≡ t → Fits (cond t (some (card_of p highest_ceiling (number_of l))) none)
    by true e = fits_size highest_ceiling p (number_of l) (leb-true (number_of l) table_bytes e)
    by false e = tt
fits_card p (l ∷ m ∷ ls) = tt

fits_alone : (c : Call) → Fits (some c) → (ls : List Literal) → Fits (alone c ls)
fits_alone c h [] = h
fits_alone c h (l ∷ ls) = tt

fits_from : (ws : List Bytes) → Fits (call_from ws)
unfolding call_from
fits_from [] = tt
fits_from (w ∷ ws) =
    fits_cond (same w rule_word) _ _ (fits_then (items true ws) rule_call (λ ls. tt))
    (fits_cond (same w query_word) _ _ (fits_then (items true ws) query_call (λ ls. tt))
    (fits_cond (same w card_word) _ _ (fits_then (items false ws) (card_call true) (fits_card true))
    (fits_cond (same w keep_card_word) _ _ (fits_then (items false ws) (card_call false) (fits_card false))
    (fits_cond (same w forget_word) _ _ (fits_then (items false ws) (alone forget) (fits_alone forget tt))
    (fits_cond (same w withdraw_word) _ _ (fits_then (items false ws) (alone withdraw) (fits_alone withdraw tt))
    (fits_cond (same w one_word) _ _ (fits_then (items true ws) one_call (λ ls. tt))
    (fits_cond (same w closest_word) _ none (fits_then (items true ws) closest_call (λ ls. omega arith)) tt)))))))

-- under any ceiling
fits_under_lem : (n : ℕ) (o : Option Call) → Fits o → Fits (then o (under n))
fits_under_lem n none h = tt
fits_under_lem n (some (rule ls)) h = tt
fits_under_lem n (some (query m on off)) h = tt
fits_under_lem n (some (card m size)) h = h
fits_under_lem n (some (keep_card m size)) h = h
fits_under_lem n (some forget) h = tt
fits_under_lem n (some withdraw) h = tt
fits_under_lem n (some (one ls)) h = tt
fits_under_lem n (some (closest m size on off)) h = h

fits_given : (g : Option ℕ) (o : Option Call) → Fits o → Fits (takes_given under g o)
fits_given none o h = h
fits_given (some n) o h = fits_under_lem n o h

-- with any size that the item may give
fits_into : (n : ℕ) (o : Option Call) → n ≤ table_bytes → Fits (then o (into n))
fits_into n none h = tt
fits_into n (some (rule ls)) h = tt
fits_into n (some (query m on off)) h = tt
fits_into n (some (card m size)) h = tt
fits_into n (some (keep_card m size)) h = tt
fits_into n (some forget) h = tt
fits_into n (some withdraw) h = tt
fits_into n (some (one ls)) h = tt
fits_into n (some (closest m size on off)) h = h

fits_size_given : (g : Option ℕ) (o : Option Call) → LowNumber table_bytes g → Fits o → Fits (takes_given into g o)
fits_size_given none o low h = h
fits_size_given (some n) o low h = fits_into n o low

fits_sized : (ws : List Bytes) → Fits (sized_call ws)
unfolding sized_call
fits_sized ws = by (ended bytes_word bytes_number ws) (low_ended 5 table_bytes bytes_word ws)
  where
    by : (o : Option Ended) → Low table_bytes o → Fits (then o (λ z. takes_given into z.last (call_from z.words)))
    by none low = tt
    by (some z) low = fits_size_given z.last (call_from z.words) low (fits_from z.words)

fits_ceiled : (ws : List Bytes) → Fits (ceiled_call ws)
unfolding ceiled_call
fits_ceiled ws = fits_then (ended ceiling_word ceiling_number ws) (λ z. takes_given under z.last (sized_call z.words)) (λ z. fits_given z.last (sized_call z.words) (fits_sized z.words))

pub fits_call : (l : Bytes) → Fits (call_of l)
unfolding call_of
fits_call l = fits_cond (ltb opening.text_bytes (length l)) none _ tt (fits_then (inside l) (λ s. ceiled_call (split space s)) (λ s. fits_ceiled (split space s)))
