-- The number that an export answers for a text tells whether the text opens: no refusal is 0.
use Prim.Native.Nat.{ℕ, zero, suc}
use native.Mathlib.Omega.{arith}
use mathlib.Core.Path.{◌≡◌, refl}
use mathlib.Core.Logic.{◌⊎◌, inl, inr}
use mathlib.Core.List.{List}
use mathlib.Core.Option.{some}
use lib.IntN.{ℤ}
use Rattle.qbf.specs.Formula.{Limits, Formula}
use Rattle.qbf.specs.Runs.{fresh}
use Rattle.layout.specs.Words.{Bytes}
use Rattle.layout.specs.Opening as text
use Rattle.editions.specs.Opening.{Editions, open_editions}
use Rattle.qdimacs_form.specs.Opening.{open_qdimacs}
use Rattle.state_parts.specs.Parts.{read_at, Whole}
use Rattle.opening.proofs.Apart.{NumberedText, whole_or}
use Rattle.edition_opening.proofs.Apart.{edition_numbered}
use Rattle.qdimacs_opening.proofs.Apart.{qdimacs_numbered}
use Rattle.book_calls.specs.declared.text.Opened.{Opened}
use Rattle.book_calls.specs.Opened.{ToldAt, OpenedIn}

module _ {L : Limits} {cells cells' : List ℕ} {literals literals' : List ℤ} {r : Opened} where
  -- a refusal of 0 is told of an opened text alone, and then the tables are read as its formula with an empty store
  told_apart : (o : text.Opened) → NumberedText o → OpenedIn L o cells literals r cells' literals' → r.refusal ≡ 0 → (b : Formula) × (o ≡ text.opened b) × (read_at cells' literals' ≡ some (fresh b))
  told_apart o n told z = by (whole_or L cells literals)
    where
      of : (x : text.Opened) → o ≡ x → NumberedText x → ToldAt x r cells' literals' → (b : Formula) × (o ≡ text.opened b) × (read_at cells' literals' ≡ some (fresh b))
      of (text.refused zero k) i m t = absurd m
      of (text.refused (suc j) k) i m t = absurd (omega (arith, z, t.0))
      of (text.opened b) i m t = (b, i, t.2)

      by : Whole L cells literals ⊎ (Whole L cells literals → ⊥) → (b : Formula) × (o ≡ text.opened b) × (read_at cells' literals' ≡ some (fresh b))
      by (inl w) = of o refl n (told.whole w)
      by (inr short) = absurd (omega (arith, z, (told.short short).0))

  -- a text of the editions that are taken: both, by the export
  pub edition_apart : (a : Editions) (s : Bytes) → OpenedIn L (open_editions a L s) cells literals r cells' literals' → r.refusal ≡ 0 → (b : Formula) × (open_editions a L s ≡ text.opened b) × (read_at cells' literals' ≡ some (fresh b))
  edition_apart a s = told_apart (open_editions a L s) (edition_numbered a L s)

  -- and one in QDIMACS
  pub qdimacs_apart : (s : Bytes) → OpenedIn L (open_qdimacs L s) cells literals r cells' literals' → r.refusal ≡ 0 → (b : Formula) × (open_qdimacs L s ≡ text.opened b) × (read_at cells' literals' ≡ some (fresh b))
  qdimacs_apart s = told_apart (open_qdimacs L s) (qdimacs_numbered L s)
