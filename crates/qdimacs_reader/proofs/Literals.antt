-- Items of a line: a word as a literal, then all of them into a table.
use Prim.Native.Nat.{ℕ, ◌+◌, ◌≤◌, ◌-◌}
use mathlib.Core.Path.{◌≡◌, sym, ap, subst, ◌∙◌}
use mathlib.Core.Bool.{Bool, true, false, cond, ◌&&◌, false≢true}
use mathlib.Core.List.{List, [], ◌∷◌}
use mathlib.Core.Option.{Option, none, some}
use native.Mathlib.Omega.{arith}
use lib.IntN.{ℤ, pos}
use lib.ListN.{length, get_or, take, drop, set, length-drop}
use lib.Seq.{take_all}
use lib.Dec.{eqb}
use Rattle.std.specs.Prelude.{Option as Answer, Some}
use Rattle.std.specs.Bool.{then_some}
use Rattle.qbf.specs.Formula.{Literal}
use Rattle.theory.proofs.Basics.{and_right}
use Rattle.layout.specs.Words.{Bytes, same, number}
use Rattle.layout.specs.Forms.{consed, off}
use Rattle.reader.specs.Items.{all_narrowed, Filled}
use Rattle.reader.proofs.Literals.{narrowed_consed, Gathered, gathered_none, gathered_bad, gathered_more, gathered_all}
use Rattle.qdimacs_form.specs.Lines.{minus, zero_word, literal_of, literal, literals}
use Rattle.std.specs.Borrow.{Bor}
use Rattle.reader.specs.Pieces.{size_left}
use Rattle.qdimacs_reader.specs.Words.{words, First}
use Rattle.qdimacs_reader.specs.declared.word.Word.{Word}
use Rattle.qdimacs_reader.specs.Items.{LiteralRead}

-- ---- a word
module _ (g : Bool) (w : Bytes) where
  pub literal_zero : same w zero_word ≡ true → literal g w ≡ none
  unfolding literal
  literal_zero z = rw z

  module _ (z : same w zero_word ≡ false) where
    pub literal_on : (g && eqb (get_or w 0 0) minus) ≡ false → {o : Option ℕ} → o ≡ number w → literal g w ≡ literal_of pos o
    unfolding literal
    literal_on m e = rw (z, m, e)

    module _ (m : (g && eqb (get_or w 0 0) minus) ≡ true) where
      pub literal_some : 1 ≤ length w
      literal_some = by w (and_right g (eqb (get_or w 0 0) minus) m)
        where
          by : (v : Bytes) → eqb (get_or v 0 0) minus ≡ true → 1 ≤ length v
          by [] e = absurd (false≢true e)
          by (b ∷ v) e = omega arith

      pub literal_off : {o : Option ℕ} → o ≡ number (take (length w - 1) (drop 1 w)) → literal g w ≡ literal_of off o
      unfolding literal
      literal_off e = rw (z, m) (ap (literal_of off) (ap number (sym all) ∙ sym e))
        where
          all : take (length w - 1) (drop 1 w) ≡ drop 1 w
          all = take_all (length w - 1) (drop 1 w) (simp length-drop (omega arith))

-- ---- all of them
-- n items are read, and the next word is here
pub record Gathering (g : Bool) (line : Answer (Bor Bytes)) (out₀ out : List Literal) (n : ℕ) (here : Word) : Type 0 where
  pub few : n + size_left here.left ≤ size_left line
  pub gathered : Gathered (literals g (words line)) (literals g (here.word.now ∷ words here.left)) out₀ out n

pub gather_none : (g : Bool) {line : Answer (Bor Bytes)} {here : Word} (out : List Literal) → First line here → Gathering g line out out 0 here
gather_none g {line} {here} out k =
    record {
      few = omega (arith, k.shorter);
      gathered = subst (λ (ws : List Bytes). Gathered (literals g (words line)) (literals g ws) out out 0) k.is (gathered_none (literals g (words line)) out);
    }

-- a line with no word has no items
pub gather_over : (g : Bool) (line : Answer (Bor Bytes)) → words line ≡ [] → literals g (words line) ≡ none
unfolding literals
gather_over g line h = ap (literals g) h

module _ {g : Bool} {line : Answer (Bor Bytes)} {out₀ out : List Literal} {n : ℕ} {here : Word} (p : Gathering g line out₀ out n here) where
  -- no word follows: it is the terminator, or the line has none
  pub gather_last : words here.left ≡ [] → {r : Answer ℕ} → r ≡ then_some (same here.word.now zero_word) n → Filled (literals g (words line)) r out
  unfolding literals
  gather_last q {r} c = subst (λ (x : Answer ℕ). Filled (literals g (words line)) x out) (sym c) (by (same here.word.now zero_word) last)
    where
      last : literals g (here.word.now ∷ words here.left) ≡ cond (same here.word.now zero_word) (some []) none
      last = ap (λ (ws : List Bytes). literals g (here.word.now ∷ ws)) q

      by : (z : Bool) → literals g (here.word.now ∷ words here.left) ≡ cond z (some []) none → Filled (literals g (words line)) (then_some z n) out
      by true z = gathered_all p.gathered z
      by false z = gathered_bad p.gathered z

  -- one follows
  module _ {next : Word} (k : First here.left next) where
    abbrev after : List Bytes
    after = next.word.now ∷ words next.left

    onward : literals g (here.word.now ∷ words here.left) ≡ consed (λ x. x) (literal g here.word.now) (literals g after)
    unfolding literals
    onward = ap (λ (ws : List Bytes). literals g (here.word.now ∷ ws)) k.is

    pub gather_bad : literal g here.word.now ≡ none → literals g (words line) ≡ none
    unfolding consed
    gather_bad z = gathered_bad p.gathered (onward ∙ ap (λ (o : Option Literal). consed (λ x. x) o (literals g after)) z)

    pub gather_more : (x : ℤ) → LiteralRead (literal g here.word.now) (Some x) → {new : List Literal} → new ≡ set out n x → Gathering g line out₀ new (n + 1) next
    gather_more x r w = record { few = omega (arith, p.few, k.shorter); gathered = gathered_more p.gathered x step w }
      where
        step : all_narrowed (literals g (here.word.now ∷ words here.left)) ≡ consed (λ y. y) (some x) (all_narrowed (literals g after))
        step =
            ap all_narrowed (onward ∙ ap (λ (o : Option Literal). consed (λ y. y) o (literals g after)) r.1)
            ∙ narrowed_consed (λ y. y) r.0 (literals g after)
            ∙ ap (λ (y : Literal). consed (λ z. z) (some y) (all_narrowed (literals g after))) (sym r.2)
