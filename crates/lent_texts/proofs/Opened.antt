-- What follows from opening a text, for tables that are whole and for others: those are answered as a text that is refused with 22 at no line.
use Prim.Native.Nat.{ℕ}
use mathlib.Core.Path.{refl, sym, subst}
use mathlib.Core.List.{List}
use lib.IntN.{ℤ}
use Rattle.std.specs.Prelude.{Result}
use Rattle.qbf.specs.Formula.{Limits}
use Rattle.layout.specs.Opening.{Opened, refused}
use Rattle.state_parts.specs.Parts.{Whole}
use Rattle.opening.specs.declared.text.RefusedAt.{RefusedAt}
use Rattle.opening.specs.Opened.{AnsweredAt, OpenedAt}
use Rattle.lent_texts.specs.Whole.{IfWhole}

module _ {L : Limits} {o : Opened} {cells : List ℕ} {literals : List ℤ} {r : Result (Unit {0}) RefusedAt} {cells' : List ℕ} {literals' : List ℤ} (a : OpenedAt L o cells literals r cells' literals') where
  short_answered : (Whole L cells literals → ⊥) → AnsweredAt (refused 22 0) r cells' literals'
  short_answered w =
      subst (λ (q : Result (Unit {0}) RefusedAt). AnsweredAt (refused 22 0) q cells' literals') (sym (a.short w).0) (refl, refl, (a.short w).1)

  pub if_whole : {A B : Type 0} → (AnsweredAt o r cells' literals' → A) → (AnsweredAt (refused 22 0) r cells' literals' → B) → IfWhole L cells literals A B
  if_whole {A} {B} f g = record { whole = λ w. f (a.whole w); short = λ w. g (short_answered w) }
