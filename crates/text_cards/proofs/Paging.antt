-- All that is printed, from the card that was made and its pages, is what the program's definition says; and no page of it is refused.
use Prim.Native.Nat.{ℕ, zero, suc, ◌*◌, ◌-◌, ◌≤◌}
use native.Mathlib.Nat.{le-mul_of_pos_right}
use native.Mathlib.Omega.{arith}
use mathlib.Core.Path.{◌≡◌, refl, sym, ap, subst, ◌∙◌}
use mathlib.Core.Logic.{◌⊎◌, inl, inr}
use mathlib.Core.Bool.{Bool, true, false, cond}
use mathlib.Core.List.{List, [], ◌∷◌, ◌++◌, append-nil}
use lib.ListN.{length}
use lib.Dec.{eqb, ltb}
use lib.IntN.{ℤ}
use borrow.Author.Tests.{le-ltb}
use Rattle.qbf.specs.Formula.{Limits, Node, Prefix, Formula}
use Rattle.qbf.specs.Truth.{free_variables}
use Rattle.qbf.specs.Learning.{empty_store}
use Rattle.qbf.specs.Card.{table_of, zero_table}
use Rattle.qbf.specs.Ceiling.{highest_ceiling}
use Rattle.qbf.specs.Calls.{Reply, lines, learning_card, formula_is_ok, limits_are_ok, well_formed}
use Rattle.qbf.specs.Runs.{fresh}
use Rattle.layout.specs.Words.{Bytes, joined}
use Rattle.layout.specs.Output.{refusal_text}
use Rattle.layout.specs.Page.{page_bytes, most_lines, pages, page_of, no_card, no_page, zero_page, printed}
use Rattle.layout.specs.Program.{table_bytes, pages_from, pages_text, pages_printed, opened_pages}
use Rattle.editions.specs.Opening.{both, open_editions}
use Rattle.editions.specs.Program.{pages_program}
use Rattle.layout.specs.Opening.{Opened, refused, opened}
use Rattle.editions_laws.proofs.Formed.{opened_formula}
use Rattle.std.specs.Prelude.{Result, Ok, Err}
use Rattle.opening.specs.declared.text.RefusedAt.{RefusedAt}
use Rattle.state_parts.specs.Parts.{Whole}
use Rattle.serving.specs.Serves.{Said, said_reply, number}
use Rattle.card_answers.proofs.FreeLines.{card_lines, lines_within, one_line}
use Rattle.card_answers.proofs.CardTexts.{Listed, Refused, formed_cases}
use Rattle.page.specs.Lent.{PageLent}
use Rattle.page.proofs.Cards.{table_printable}
use Rattle.cover.specs.declared.CardLines.{CardLines}
use Rattle.text_cards.specs.Making.{ListsMade, RefusalMade, ReplyMade, CardMade, MakesCard, PagesWritten, printed_by, PagesOf}
use Rattle.text_cards.proofs.Cards.{opened_formed}

-- ---- pages
-- a table of a page's bytes holds the page, refused or not
lent_printed : (table : Bytes) (count f n : ℕ) (d₀ : Bytes) (r : ℕ) (d : Bytes) → PageLent table count f n d₀ r d → length d₀ ≡ page_bytes → d ≡ joined (printed table count f n)
lent_printed table count f n d₀ r d w e = by (no_page table count f n) refl
  where
    said : ℕ → Bytes
    said k = cond (eqb k 0) (joined (printed table count f n) ++ zero_table (length d₀ - page_bytes)) (zero_table (length d₀))

    no_rest : zero_table (length d₀ - page_bytes) ≡ []
    no_rest = let z : length d₀ - page_bytes ≡ 0 = omega (arith, e) in ap zero_table z

    by : (b : Bool) → no_page table count f n ≡ b → d ≡ joined (printed table count f n)
    by true q =
        w.bytes
        ∙ ap said (w.refusal ∙ ap (λ (b : Bool). cond b 36 (cond (ltb (length d₀) page_bytes) 31 0)) q)
        ∙ ap zero_table e
        ∙ ap (λ (b : Bool). joined (cond b zero_page (page_of table count f n))) (sym q)
    by false q =
        w.bytes
        ∙ ap said (w.refusal ∙ ap (λ (b : Bool). cond b 36 (cond (ltb (length d₀) page_bytes) 31 0)) q ∙ ap (λ (b : Bool). cond b 31 0) (le-ltb (length d₀) page_bytes (omega (arith, e))))
        ∙ ap (λ (l : Bytes). joined (printed table count f n) ++ l) no_rest
        ∙ append-nil (joined (printed table count f n))

pages_joined : (table : Bytes) (count f k n : ℕ) (ds : List Bytes) → PagesWritten table count f k n ds → joined ds ≡ pages_from table count f k n
unfolding pages_from
pages_joined table count f zero n [] h = refl
pages_joined table count f zero n (d ∷ ds) h = absurd h
pages_joined table count f (suc k) n [] h = absurd h
pages_joined table count f (suc k) n (d ∷ ds) ((d₀, r, e, w), h) =
    ap (λ (l : Bytes). l ++ joined ds) (lent_printed table count f n d₀ r d w e)
    ∙ ap (λ (l : Bytes). joined (printed table count f n) ++ l) (pages_joined table count f k (suc n) ds h)

-- ---- the program
module _ (size : ℕ) (t : Bytes) (ds : List Bytes) where
  -- a number and a line
  told : (r : Result CardLines RefusedAt) (n k : ℕ) (table : Bytes) → RefusalMade n k table r t → printed_by r ds ≡ refusal_text n k
  told (Ok m) n k table w = absurd w
  told (Err q) n k table w = λ i. refusal_text (w.0 i) (w.1 i)

  -- or lines
  listed : (r : Result CardLines RefusedAt) → PagesOf r t ds → (D : Prefix) (n : ℕ) (table : Bytes) → ListsMade D n table r t → printed_by r ds ≡ pages_text table n (free_variables D)
  listed (Ok m) p D n table (c, g, q) = pages_joined t m.count m.free (pages m.count) 1 ds p ∙ (λ i. pages_text (q i) (c i) (g i))
  listed (Err k) p D n table w = absurd w

  of_reply : (r : Result CardLines RefusedAt) → PagesOf r t ds → (b : Formula) → formula_is_ok b ≡ true → CardMade size (opened b) r t → printed_by r ds ≡ opened_pages size (opened b)
  of_reply r p b ok h = by (formed_cases highest_ceiling true size (fresh b))
    where
      a : Reply
      a = (learning_card true b empty_store highest_ceiling size).out.reply

      D : Prefix
      D = b.prefix

      by : Refused a ⊎ Listed highest_ceiling true size (fresh b) a → printed_by r ds ≡ pages_printed D a
      by (inl (m, tb, z)) = told r (suc m) 0 tb (subst (λ (q : Reply). ReplyMade D q r t) z h) ∙ ap (pages_printed D) (sym z)
      by (inr (z, fits)) =
          listed r p D (length (card_lines (fresh b) true)) (table_of (free_variables D) size (card_lines (fresh b) true)) (subst (λ (q : Reply). ReplyMade D q r t) z h) ∙ ap (pages_printed D) (sym z)

-- Whatever makes the card of a text in whole tables and writes each of its pages as their contracts say: all that is printed is what the program `pages` prints.
pub printed_pages : (L : Limits) → limits_are_ok L ≡ true → (cells : List ℕ) (literals : List ℤ) → Whole L cells literals → (s : Bytes) (size : ℕ) (r : Result CardLines RefusedAt) (t : Bytes) (ds : List Bytes) → MakesCard L cells literals s size r t → PagesOf r t ds
    → printed_by r ds ≡ pages_program L size s
unfolding pages_program
printed_pages L fine cells literals whole s size r t ds h p = by (open_editions both L s) refl (h.whole whole)
  where
    by : (o : Opened) → open_editions both L s ≡ o → CardMade size o r t → printed_by r ds ≡ opened_pages size o
    by (refused n k) i w = told size t ds r n k (zero_table size) w
    by (opened b) i w = of_reply size t ds r p b (opened_formula both L fine s b i) w

-- ---- no page is refused
few_lines : (n f : ℕ) → n * f ≤ table_bytes → (f ≡ 0 → n ≤ 1) → n ≤ most_lines
few_lines n zero h one = omega (arith, one refl)
few_lines n (suc f) h one = let k : n ≤ n * suc f = le-mul_of_pos_right n (omega arith) in omega (arith, h, k)

-- The card that the program makes can be printed whatever its book: its lines are few, stand in the table, and have no byte above 2.
pub program_printable : (L : Limits) → limits_are_ok L ≡ true → (s : Bytes) (b : Formula) → open_editions both L s ≡ opened b → (ls : List Node) (tb : Bytes) → (learning_card true b empty_store highest_ceiling table_bytes).out.reply ≡ lines ls tb
    → no_card tb (length ls) (free_variables b.prefix) ≡ false
program_printable L fine s b i ls tb e = by (formed_cases highest_ceiling true table_bytes (fresh b))
  where
    a : Reply
    a = (learning_card true b empty_store highest_ceiling table_bytes).out.reply

    formed : well_formed (fresh b) ≡ true
    formed = opened_formed b (opened_formula both L fine s b i)

    f : ℕ
    f = free_variables b.prefix

    by : Refused a ⊎ Listed highest_ceiling true table_bytes (fresh b) a → no_card tb (length ls) f ≡ false
    by (inl (m, tb', z)) = absurd (omega (arith, ap (λ (q : Said). number q.refusal) (ap (λ (q : Reply). said_reply q 0) (sym e ∙ z))))
    by (inr (z, fits)) =
        ap (λ (q : Said). no_card q.table q.lines f) (ap (λ (q : Reply). said_reply q 0) (sym e ∙ z))
        ∙ table_printable f table_bytes (card_lines (fresh b) true) (lines_within (fresh b) formed true) fits (few_lines (length (card_lines (fresh b) true)) f fits (one_line (fresh b) formed true))
