-- On two tables of the programs' sizes, whatever stands in them and whatever limits the arguments give, a text's card owes the program's text, and nothing is asked of the tables any more.
use Prim.Native.Nat.{ℕ, ◌≤◌}
use mathlib.Core.Path.{◌≡◌, refl, ◌∙◌}
use mathlib.Core.Bool.{true, false}
use mathlib.Core.List.{List}
use native.Mathlib.Omega.{arith}
use lib.IntN.{ℤ}
use lib.ListN.{length, take}
use Rattle.std.specs.Prelude.{Result, Ok}
use Rattle.qbf.specs.Formula.{Limits, capped, Formula}
use Rattle.qbf.specs.Learning.{empty_store}
use Rattle.qbf.specs.Ceiling.{highest_ceiling}
use Rattle.qbf.specs.Calls.{Reply, done, refused, swap, keep, unsettled, lines, card_refused, found, learning_card}
use Rattle.theory.proofs.Widths.{capped_ok}
use Rattle.layout.specs.Words.{Bytes}
use Rattle.layout.specs.Page.{no_card}
use Rattle.layout.specs.Program.{table_bytes}
use Rattle.layout.specs.Opening as opening
use Rattle.editions.specs.Opening.{both, open_editions}
use Rattle.editions.specs.Program.{card_program, pages_program}
use Rattle.opening.specs.declared.text.RefusedAt.{RefusedAt}
use Rattle.cover.specs.declared.CardLines.{CardLines}
use Rattle.book_writer.specs.declared.Written.{Written}
use Rattle.answer_text.specs.declared.TheConstants.{ANSWER}
use Rattle.answer_text.specs.Books.{Prints}
use Rattle.lent_texts.specs.declared.TheConstants.{CELLS, LITERALS}
use Rattle.lent_texts.proofs.Ample.{ample, ample_told}
use Rattle.text_cards.specs.Printed.{PrintsCard}
use Rattle.text_cards.specs.Making.{ReplyMade, CardMade, MakesCard, printed_by, PagesOf}
use Rattle.text_cards.proofs.Paging.{printed_pages, program_printable}

module _ (n k : ℕ) (cells : List ℕ) (literals : List ℤ) (h : length cells ≡ CELLS) (g : length literals ≡ LITERALS) (s : Bytes) where
  abbrev L : Limits
  L = capped n k

  -- ---- the program `card`
  -- In every table: the program's text, or that table is too short.
  pub card_ample : {d₀ d : Bytes} {r : Written} → PrintsCard L cells literals s d₀ r d → Prints (card_program L table_bytes s) d₀ r d
  card_ample w = ample_told n k cells literals h g w

  -- In one of the program's size: its text.
  pub card_ample_printed : {d₀ d : Bytes} {r : Written} → length d₀ ≡ ANSWER → PrintsCard L cells literals s d₀ r d → (r.refusal ≡ 0) × (r.length ≤ length d) × (take r.length d ≡ card_program L table_bytes s)
  card_ample_printed {d₀} e w = (card_ample w).printed (omega (arith, e))

  -- ---- the program `pages`
  -- The card of every text that opens, and the refusal of every other.
  pub pages_ample : (size : ℕ) (r : Result CardLines RefusedAt) (t : Bytes) → MakesCard L cells literals s size r t → CardMade size (open_editions both L s) r t
  pages_ample size r t w = ample_told n k cells literals h g w

  -- All that is printed: the refusal, or the pages put together.
  pub pages_ample_printed : (size : ℕ) (r : Result CardLines RefusedAt) (t : Bytes) (ds : List Bytes) → MakesCard L cells literals s size r t → PagesOf r t ds → printed_by r ds ≡ pages_program L size s
  pages_ample_printed size r t ds w p = printed_pages L (capped_ok n k) cells literals (ample n k cells literals h g) s size r t ds w p

  -- No page of a card that was made is refused.
  pub pages_ample_printable : (made : CardLines) (t : Bytes) → MakesCard L cells literals s table_bytes (Ok made) t → no_card t made.count made.free ≡ false
  pages_ample_printable made t w = by (open_editions both L s) refl (pages_ample table_bytes (Ok made) t w)
    where
      of_reply : (b : Formula) → open_editions both L s ≡ opening.opened b → (a : Reply) → (learning_card true b empty_store highest_ceiling table_bytes).out.reply ≡ a → ReplyMade b.prefix a (Ok made) t → no_card t made.count made.free ≡ false
      of_reply b i (lines ls tb) e (count, free, table) = (λ j. no_card (table j) (count j) (free j)) ∙ program_printable L (capped_ok n k) s b i ls tb e
      of_reply b i (card_refused j tb) e v = absurd v
      of_reply b i done e v = absurd v
      of_reply b i (refused j) e v = absurd v
      of_reply b i swap e v = absurd v
      of_reply b i keep e v = absurd v
      of_reply b i unsettled e v = absurd v
      of_reply b i (found ls tb z) e v = absurd v

      by : (o : opening.Opened) → open_editions both L s ≡ o → CardMade table_bytes o (Ok made) t → no_card t made.count made.free ≡ false
      by (opening.refused j l) i v = absurd v
      by (opening.opened b) i v = of_reply b i (learning_card true b empty_store highest_ceiling table_bytes).out.reply refl v
