-- What the exports leave of a text: `OpenedIn` is the `ensures` of `bullacetop_book_open` and `bullacetop_book_open_qdimacs`. It says as much as what the readers
-- of texts ensure (`OpenedAt`): all three demands hold for any list of calls on what they open, and a refused text opens no book.
use Prim.Native.Nat.{ℕ, zero, suc}
use native.Mathlib.Omega.{arith}
use mathlib.Core.Path.{◌≡◌, sym, subst, ◌∙◌}
use mathlib.Core.Logic.{◌⊎◌, inl, inr}
use mathlib.Core.Bool.{false}
use mathlib.Core.List.{List, map}
use lib.IntN.{ℤ}
use Rattle.std.specs.Prelude.{Result, Ok, Err}
use Rattle.qbf.specs.Formula.{Limits, Formula, capped}
use Rattle.qbf.specs.Calls.{Call}
use Rattle.refusal.specs.declared.Refusal.TheVariants.{Malformed}
use Rattle.refusal.proofs.Apart.{number_apart, number_some}
use Rattle.layout.specs.Words.{Bytes}
use Rattle.layout.specs.Opening as text
use Rattle.editions.specs.Opening.{Editions, open_editions}
use Rattle.qdimacs_form.specs.Opening.{open_qdimacs}
use Rattle.state_parts.specs.Parts.{valid_at, Whole}
use Rattle.serving.specs.Serves.{Said}
use Rattle.rule_calls.specs.Served.{lists, ServedAt, DemandsAt}
use Rattle.rule_calls.proofs.Served.{served_by}
use Rattle.opening.specs.declared.text.RefusedAt.{RefusedAt}
use Rattle.opening.specs.Opened.{AnsweredAt, OpenedAt}
use Rattle.opening.proofs.Apart.{NumberedText, whole_or}
use Rattle.opening.proofs.Closed.{said_malformed, closed_served_at}
use Rattle.edition_opening.proofs.Served.{edition_served_at}
use Rattle.qdimacs_opening.proofs.Served.{qdimacs_served_at}
use Rattle.book_calls.specs.declared.text.Opened.{Opened}
use Rattle.book_calls.specs.Opened.{ToldOf, ToldAt, OpenedIn}

module _ {L : Limits} {o : text.Opened} {cells cells' : List ℕ} {literals literals' : List ℤ} {r : Opened} (in_numbers : OpenedIn L o cells literals r cells' literals') where
  -- ---- from the numbers to the result that they tell
  -- whatever that is; no refusal of the text is 0
  pub told_at : NumberedText o → (q : Result (Unit {0}) RefusedAt) → ToldOf q r → OpenedAt L o cells literals q cells' literals'
  told_at n q t = record { whole = λ w. whole o q n (in_numbers.whole w) t; short = λ s. (too_short q t s, (in_numbers.short s).2) }
    where
      whole : (x : text.Opened) (q : Result (Unit {0}) RefusedAt) → NumberedText x → ToldAt x r cells' literals' → ToldOf q r → AnsweredAt x q cells' literals'
      whole (text.refused zero k) q n a t = absurd n
      whole (text.refused (suc j) k) (Ok u) n a t = absurd (omega (arith, a.0, t.0))
      whole (text.refused (suc j) k) (Err e) n a t = (sym t.0 ∙ a.0, sym t.1 ∙ a.1, a.2)
      whole (text.opened b) (Ok u) n a t = a.2
      whole (text.opened b) (Err e) n a t = absurd (number_some e.refusal (sym t.0 ∙ a.0))

      too_short : (q : Result (Unit {0}) RefusedAt) → ToldOf q r → (Whole L cells literals → ⊥) → q ≡ Err (record { refusal = Malformed; line = 0 })
      too_short (Ok u) t s = absurd (omega (arith, t.0, (in_numbers.short s).0))
      too_short (Err e) t s =
          let p : e.refusal ≡ Malformed = number_apart e.refusal Malformed (sym t.0 ∙ (in_numbers.short s).0) in
          let k : e.line ≡ 0 = sym t.1 ∙ (in_numbers.short s).1 in
          λ i. Err (record { refusal = p i; line = k i })

  -- of an opened text no refusal is told
  pub told_opened : (b : Formula) → o ≡ text.opened b → Whole L cells literals → (r.refusal ≡ 0) × (r.line ≡ 0) × OpenedAt L o cells literals (Ok tt) cells' literals'
  told_opened b e w =
      let a : ToldAt (text.opened b) r cells' literals' = subst (λ (x : text.Opened). ToldAt x r cells' literals') e (in_numbers.whole w) in
      (a.0, a.1, record { whole = λ h. subst (λ (x : text.Opened). AnsweredAt x (Ok tt) cells' literals') (sym e) a.2; short = λ s. absurd (s w) })

  -- ---- a refused text opens no book
  -- what is refused, for the text or for a table that is too short, leaves what is malformed
  closed : (r.refusal ≡ 0 → ⊥) → valid_at cells' literals' ≡ false
  closed not_zero = by (whole_or L cells literals)
    where
      of : (x : text.Opened) → ToldAt x r cells' literals' → valid_at cells' literals' ≡ false
      of (text.refused k n) a = a.2
      of (text.opened b) a = absurd (not_zero a.0)

      by : Whole L cells literals ⊎ (Whole L cells literals → ⊥) → valid_at cells' literals' ≡ false
      by (inl w) = of o (in_numbers.whole w)
      by (inr s) = (in_numbers.short s).2

  -- "A refused text opens no book": whatever serves the calls refuses each with 22
  pub refused_number_in : (r.refusal ≡ 0 → ⊥) → (cs : List Call) (qs : List Said) → ServedAt (lists cells' literals') cs qs → qs ≡ map said_malformed cs
  refused_number_in not_zero = closed_served_at (lists cells' literals') (closed not_zero)

  pub refused_text_in : (n k : ℕ) → o ≡ text.refused n k → (cs : List Call) (qs : List Said) → ServedAt (lists cells' literals') cs qs → qs ≡ map said_malformed cs
  refused_text_in n k e = closed_served_at (lists cells' literals') (by (whole_or L cells literals))
    where
      by : Whole L cells literals ⊎ (Whole L cells literals → ⊥) → valid_at cells' literals' ≡ false
      by (inl w) = (subst (λ (x : text.Opened). ToldAt x r cells' literals') e (in_numbers.whole w)).2
      by (inr s) = (in_numbers.short s).2

-- ---- the demands on what is opened
module _ (n m : ℕ) (s : Bytes) (b : Formula) {cells cells' : List ℕ} {literals literals' : List ℤ} {r : Opened} (w : Whole (capped n m) cells literals) where
  -- all three, for a text of the editions that are taken: both, by the export
  pub edition_served_in : (a : Editions) → open_editions a (capped n m) s ≡ text.opened b → OpenedIn (capped n m) (open_editions a (capped n m) s) cells literals r cells' literals'
      → (cs : List Call) (qs : List Said) (served : ServedAt (lists cells' literals') cs qs) → DemandsAt b (lists cells' literals') cs qs (served_by (lists cells' literals') cs qs served)
  edition_served_in a e v = edition_served_at a n m s b e cells literals w cells' literals' (told_opened v b e w).2

  -- and for one in QDIMACS
  pub qdimacs_served_in : open_qdimacs (capped n m) s ≡ text.opened b → OpenedIn (capped n m) (open_qdimacs (capped n m) s) cells literals r cells' literals'
      → (cs : List Call) (qs : List Said) (served : ServedAt (lists cells' literals') cs qs) → DemandsAt b (lists cells' literals') cs qs (served_by (lists cells' literals') cs qs served)
  qdimacs_served_in e v = qdimacs_served_at n m s b e cells literals w cells' literals' (told_opened v b e w).2
