-- A line that asks for the book's text or for a page, or that is a call.
use Prim.Native.Nat.{ℕ, ◌<◌, ◌≤◌}
use mathlib.Core.Path.{◌≡◌, refl, sym, ap, subst, ◌∙◌}
use mathlib.Core.Bool.{Bool, true, false, cond}
use mathlib.Core.List.{List, [], ◌∷◌}
use mathlib.Core.Option.{Option, none, some}
use native.Mathlib.Omega.{arith}
use borrow.Author.Tests.{le-ltb, lt-ltb, leb-true}
use lib.Dec.{leb}
use lib.ListN.{length}
use Rattle.std.specs.Prelude.{Option as Answer, Some, None}
use Rattle.qbf.specs.Formula.{Literal}
use Rattle.layout.specs.Words.{Bytes, same, split, space, number, inside}
use Rattle.layout.specs.Forms.{then, items}
use Rattle.layout.specs.Opening.{text_bytes}
use Rattle.layout.specs.Endings.{within, number_up_to}
use Rattle.layout.specs.Program.{table_bytes}
use Rattle.layout.specs.Session.{call_from, ceiled_call, call_of}
use Rattle.sessions.specs.Session.{Request, write, page, write_word, page_word, write_request, page_request, call_request, request_from, request_of}
use Rattle.std.specs.Borrow.{Bor}
use Rattle.reader.specs.Pieces.{pieces, Cut}
use Rattle.reader.specs.Calls.{card_size}
use Rattle.reader.specs.Requests.{Asked, from_items, from_words, from_line, RequestRead}
use Rattle.reader.specs.declared.request.RequestLine.{RequestLine}
use Rattle.reader.specs.declared.request.RequestLine.TheVariants as line
use Rattle.reader.proofs.Words.{same_true}
use Rattle.reader.proofs.Texts.{split_some}
use Rattle.reader.proofs.Ceilings.{word_none}
use Rattle.reader.proofs.Calls.{sized, sized_within, one_item, size_is, size_text, size_read}

-- ---- the word
module _ (w : Bytes) (ws : List Bytes) where
  -- the word `write` makes no call
  write_uncalled : ceiled_call (write_word ∷ ws) ≡ none
  unfolding call_from same
  write_uncalled = word_none write_word ws refl refl (λ vs. refl)

  pub write_word_lem : same w write_word ≡ true → from_words (w ∷ ws) ≡ from_items write_request ws
  unfolding request_from same
  write_word_lem e = rw (same_true w write_word e, write_uncalled)

  -- and `page` makes none, and no writing
  page_none_called : ceiled_call (page_word ∷ ws) ≡ none
  unfolding call_from same
  page_none_called = word_none page_word ws refl refl (λ vs. refl)

  pub page_word_lem : same w page_word ≡ true → from_words (w ∷ ws) ≡ from_items page_request ws
  unfolding request_from same
  page_word_lem e = rw (same_true w page_word e, page_none_called)

  -- another word asks for neither
  pub other_word : same w write_word ≡ false → same w page_word ≡ false → request_from (w ∷ ws) ≡ then (ceiled_call (w ∷ ws)) call_request
  unfolding request_from
  other_word e d = rw (e, d)

module _ {s w : Bytes} {left : Answer (Bor Bytes)} (p : Cut space s w left) where
  as_words : (r : Answer RequestLine) → RequestRead (from_words (w ∷ pieces space left)) r → RequestRead (from_words (split space s)) r
  as_words r h = subst (λ (ws : List Bytes). RequestRead (from_words ws) r) (sym p.is) h

  pub read_other : same w write_word ≡ false → same w page_word ≡ false → RequestRead (from_words (split space s)) None
  read_other h k = as_words None (other_word w (pieces space left) h k)

  pub read_write : (r : Answer RequestLine) → same w write_word ≡ true → RequestRead (from_items write_request (pieces space left)) r → RequestRead (from_words (split space s)) r
  read_write r h q = as_words r (subst (λ (a : Asked). RequestRead a r) (sym (write_word_lem w (pieces space left) h)) q)

  pub read_page : (r : Answer RequestLine) → same w page_word ≡ true → RequestRead (from_items page_request (pieces space left)) r → RequestRead (from_words (split space s)) r
  read_page r h q = as_words r (subst (λ (a : Asked). RequestRead a r) (sym (page_word_lem w (pieces space left) h)) q)

-- ---- the items
-- a number that is within the largest table
low : (n : ℕ) (o : Option ℕ) → some n ≡ then o (within table_bytes) → n ≤ table_bytes
low n none q = absurd (let z : ◌≡◌ {A = ℕ} 0 1 = cc in omega (arith, z))
low n (some m) q = by (leb m table_bytes) refl q
  where
    by : (t : Bool) → leb m table_bytes ≡ t → some n ≡ cond t (some m) none → n ≤ table_bytes
    by true k q = let same : n ≡ m = cc in omega (arith, same, leb-true m table_bytes k)
    by false k q = absurd (let z : ◌≡◌ {A = ℕ} 0 1 = cc in omega (arith, z))

-- no item
pub write_whole : RequestRead (from_items write_request []) (Some line.Whole)
unfolding items
write_whole = refl

pub page_none : RequestRead (from_items page_request []) None
unfolding items
page_none = refl

-- the number that the bytes after the word are
module _ (t : Bytes) where
  numbered : (says : List Literal → Option Request) (told : ℕ → Option Request) → ((w : Bytes) (ws : List Bytes) → then (items false (w ∷ ws)) says ≡ then (card_size (w ∷ ws)) told)
      → then (items false (split space t)) says ≡ then (card_size (split space t)) told
  numbered says told one = some_word (split_some space t)
    where
      some_word : ((w : Bytes) × (vs : List Bytes) × (split space t ≡ w ∷ vs)) → then (items false (split space t)) says ≡ then (card_size (split space t)) told
      some_word (w, vs, g) =
          ap (λ (us : List Bytes). then (items false us) says) g ∙ one w vs ∙ ap (λ (us : List Bytes). then (card_size us) told) (sym g)

  -- .. as the size of a table
  write_is : (o : Option ℕ) → o ≡ number_up_to 5 table_bytes t → then (items false (split space t)) write_request ≡ then o (λ n. some (write (some n)))
  write_is o is =
      numbered write_request (sized (λ n. write (some n))) (size_is (write none) (λ n. write (some n)))
      ∙ sized_within (λ n. write (some n)) (card_size (split space t))
      ∙ ap (λ (p : Option ℕ). then p (λ n. some (write (some n)))) (sym (is ∙ size_read t))

  pub write_size : (n : ℕ) → some n ≡ number_up_to 5 table_bytes t → RequestRead (from_items write_request (split space t)) (Some (line.Into n))
  write_size n is = (write_is (some n) is, low n (card_size (split space t)) (is ∙ size_read t))

  pub write_none : none ≡ number_up_to 5 table_bytes t → RequestRead (from_items write_request (split space t)) None
  write_none is = write_is none is

  page_is : (o : Option ℕ) → o ≡ number t → then (items false (split space t)) page_request ≡ then o (λ n. some (page n))
  page_is o is =
      numbered page_request (λ n. some (page n)) (one_item page_request (λ n. some (page n)) (λ n. refl) (λ l m ls. refl))
      ∙ ap (λ (p : Option ℕ). then p (λ n. some (page n))) (sym (size_text t) ∙ sym is)

  pub page_number_lem : (n : ℕ) → some n ≡ number t → RequestRead (from_items page_request (split space t)) (Some (line.Page n))
  page_number_lem n is = page_is (some n) is

  pub page_other : none ≡ number t → RequestRead (from_items page_request (split space t)) None
  page_other is = page_is none is

-- ---- the line
module _ (l : Bytes) where
  pub line_long : text_bytes < length l → RequestRead (from_line l) None
  unfolding request_of call_of
  line_long h = rw (lt-ltb text_bytes (length l) h)

  module _ (short : length l ≤ text_bytes) where
    pub line_out : inside l ≡ none → RequestRead (from_line l) None
    unfolding request_of call_of
    line_out h = rw (le-ltb text_bytes (length l) short, h)

    pub line_in_lem : {s : Bytes} (r : Answer RequestLine) → inside l ≡ some s → RequestRead (from_words (split space s)) r → RequestRead (from_line l) r
    unfolding request_of call_of
    line_in_lem {s} r h w = subst (λ (a : Asked). RequestRead a r) (sym is) w
      where
        is : from_line l ≡ from_words (split space s)
        is = rw (le-ltb text_bytes (length l) short, h)
