-- Texts that give the same book, as the exports open them (`OpenedIn`): neither is refused, and what the two leave reads as the same state.
use Prim.Native.Nat.{ℕ, ◌≤◌}
use mathlib.Core.Path.{◌≡◌, refl, ◌∙◌}
use mathlib.Core.Bool.{true}
use mathlib.Core.List.{List}
use lib.IntN.{ℤ}
use lib.ListN.{length, take}
use Rattle.std.specs.Prelude.{Result, Ok}
use Rattle.qbf.specs.Formula.{Limits, Formula}
use Rattle.layout.specs.Words.{Bytes}
use Rattle.layout.specs.Opening.{text_bytes, open_text}
use Rattle.layout.specs.Opening as text
use Rattle.booktext.specs.Texts.{forms_text}
use Rattle.editions.specs.Opening.{Editions, both, open_editions}
use Rattle.editions.specs.Converting.{converted, to_tagged, to_untagged}
use Rattle.editions_laws.proofs.Converting.{same_tagged, same_untagged}
use Rattle.editions_laws.proofs.Readers.{opens_as_before, equal_tagged, equal_untagged}
use Rattle.edition_conversion.specs.declared.Converted.{Converted as Answer}
use Rattle.edition_conversion.specs.Converting.{TaggedUnder, UntaggedUnder}
use Rattle.edition_conversion.proofs.Undone.{made, tag_numbered, untag_numbered}
use Rattle.qdimacs_form.specs.Opening.{open_qdimacs}
use Rattle.qdimacs_form.specs.Translation.{translated}
use Rattle.qdimacs_laws.proofs.Books.{Translates, own_fits}
use Rattle.state_parts.specs.Parts.{read_at, Whole}
use Rattle.opening.specs.declared.text.RefusedAt.{RefusedAt}
use Rattle.opening.specs.Opened.{OpenedAt}
use Rattle.opening.proofs.Closed.{opened_alike}
use Rattle.edition_opening.proofs.Served.{opened_as_before_at}
use Rattle.book_calls.specs.declared.text.Opened.{Opened}
use Rattle.book_calls.specs.Opened.{OpenedIn}
use Rattle.book_calls.proofs.Served.{told_opened}

module _ (L : Limits) {r q : Opened} {cells cells' tables tables' : List ℕ} {literals literals' cubes cubes' : List ℤ} (w : Whole L cells literals) (v : Whole L tables cubes) where
  -- two texts that open one formula, each by either export
  alike : {o p : text.Opened} (b : Formula) → o ≡ text.opened b → p ≡ text.opened b → OpenedIn L o cells literals r cells' literals' → OpenedIn L p tables cubes q tables' cubes'
      → (r.refusal ≡ 0) × (q.refusal ≡ 0) × (read_at cells' literals' ≡ read_at tables' cubes')
  alike b e f x y =
      let a = told_opened x b e w in
      let c = told_opened y b f v in
      (a.0, c.0, (opened_alike b e f w a.2 v c.2).2)

  -- WISH 1: "give the same book that our own text would give", where that text is no longer than a text may be
  pub own_book_in : (s : Bytes) (b : Formula) → open_qdimacs L s ≡ text.opened b → (t : Translates L s b) → length (forms_text (translated t.lines)) ≤ text_bytes
      → OpenedIn L (open_qdimacs L s) cells literals r cells' literals' → OpenedIn L (open_editions both L (forms_text (translated t.lines))) tables cubes q tables' cubes'
      → (r.refusal ≡ 0) × (q.refusal ≡ 0) × (read_at cells' literals' ≡ read_at tables' cubes')
  own_book_in s b is t fits = alike b is (opens_as_before both refl L (forms_text (translated t.lines)) b (own_fits L s b is t fits))

  -- WISH 13: "reads both and finds equal rules, so cards agree whether or not a book is tagged"
  module _ (few : L.clauses ≤ 65535) (size : ℕ) (s t : Bytes) (was : OpenedIn L (open_editions both L s) cells literals r cells' literals') (is : OpenedIn L (open_editions both L t) tables cubes q tables' cubes') where
    pub tagged_alike_in : to_tagged L size s ≡ converted t → (r.refusal ≡ 0) × (q.refusal ≡ 0) × (read_at cells' literals' ≡ read_at tables' cubes')
    tagged_alike_in e =
        let x = same_tagged L few size s t e in
        alike x.0 (equal_tagged L few size s t e ∙ x.2) x.2 was is

    pub untagged_alike_in : to_untagged L size s ≡ converted t → (r.refusal ≡ 0) × (q.refusal ≡ 0) × (read_at cells' literals' ≡ read_at tables' cubes')
    untagged_alike_in e =
        let x = same_untagged L few size s t e in
        alike x.0 (equal_untagged L few size s t e ∙ x.2) x.2 was is

  -- .. of what the exports answer: the text and the converted one, opened
  module _ (few : L.clauses ≤ 65535) (size : ℕ) (s : Bytes) (a : Answer) (d : Bytes) {lent : List ℕ} {lits : List ℤ} (u : Whole L lent lits) (was : OpenedIn L (open_editions both L s) cells literals r cells' literals') (is : OpenedIn L (open_editions both L (take a.length d)) tables cubes q tables' cubes') where
    pub tag_alike_in : TaggedUnder L lent lits s size a d → a.refusal ≡ 0 → (r.refusal ≡ 0) × (q.refusal ≡ 0) × (read_at cells' literals' ≡ read_at tables' cubes')
    tag_alike_in told z = tagged_alike_in few size s (take a.length d) was is (made (told.whole u) (tag_numbered L size s) z)

    pub untag_alike_in : UntaggedUnder L lent lits s size a d → a.refusal ≡ 0 → (r.refusal ≡ 0) × (q.refusal ≡ 0) × (read_at cells' literals' ≡ read_at tables' cubes')
    untag_alike_in told z = untagged_alike_in few size s (take a.length d) was is (made (told.whole u) (untag_numbered L size s) z)

-- WISH 13: what a reader of edition 1 alone opens, is opened still
module _ (L : Limits) {r : Opened} {q : Result (Unit {0}) RefusedAt} {cells cells' tables tables' : List ℕ} {literals literals' cubes cubes' : List ℤ} (w : Whole L cells literals) (v : Whole L tables cubes) where
  pub opened_as_before_in : (a : Editions) → a 1 ≡ true → (s : Bytes) (b : Formula) → open_text L s ≡ text.opened b → OpenedIn L (open_editions a L s) cells literals r cells' literals' → OpenedAt L (open_text L s) tables cubes q tables' cubes'
      → (r.refusal ≡ 0) × (q ≡ Ok tt) × (read_at cells' literals' ≡ read_at tables' cubes')
  opened_as_before_in a h s b is x y =
      let z = told_opened x b (opens_as_before a h L s b is) w in
      (z.0, (opened_as_before_at a h L s b is w z.2 v y).1, (opened_as_before_at a h L s b is w z.2 v y).2)
