-- The loop over a text's lines: what is left of the text, read on what stands, opens what the whole opens.
use Prim.Native.Nat.{ℕ, suc, ◌+◌, ◌≤◌, ◌<◌}
use mathlib.Core.Path.{◌≡◌, refl, sym, ap, subst, ◌∙◌}
use mathlib.Core.List.{List, [], ◌∷◌}
use native.Mathlib.Omega.{arith}
use native.Mathlib.Numerals.{add-one}
use borrow.Author.Tests.{le-ltb}
use lib.IntN.{ℤ}
use lib.ListN.{length}
use Rattle.std.specs.Prelude.{Some, None, Result, Ok, Err}
use Rattle.std.specs.Borrow.{Bor}
use Rattle.refusal.specs.declared.Refusal.{Refusal}
use Rattle.refusal.specs.Refusal.{number_of}
use Rattle.layout.specs.Words.{Bytes, newline, split}
use Rattle.layout.specs.Opening.{text_bytes, Opened, refused}
use Rattle.reader.specs.Pieces.{Cut}
use Rattle.reader.proofs.Texts.{split_some}
use Rattle.opening.specs.declared.text.RefusedAt.{RefusedAt}
use Rattle.opening.specs.Lines.{within_text, NextLine, at_line, OpensAt, StandsAt, TakesAt, EndsAt, ReadAt}

-- ---- the next line
module _ {s w : Bytes} where
  -- no byte 10 follows
  pub next_missing : Cut newline s w None → (length s ≡ 0 → ⊥) → (b : ℕ) × (l : Bytes) × (split newline s ≡ (b ∷ l) ∷ [])
  next_missing p z = by s z (p.is ∙ ap (λ (l : Bytes). l ∷ []) (sym p.bytes))
    where
      by : (l : Bytes) → (length l ≡ 0 → ⊥) → split newline s ≡ l ∷ [] → (b : ℕ) × (l : Bytes) × (split newline s ≡ (b ∷ l) ∷ [])
      by [] z q = absurd (z refl)
      by (b ∷ l) z q = (b, l, q)

-- ---- the loop
pub record Rest {R : Type 0} (stands : StandsAt R) (opens : OpensAt R) (start : R) (cells₀ : List ℕ) (literals₀ : List ℤ) (s : Bytes) (x : R) (cells : List ℕ) (literals : List ℤ) (number : ℕ) (rest : Bytes) : Type 0 where
  pub counted : number + length rest ≤ length s + 1
  pub holds : stands x cells literals
  pub same : opens x cells literals number (split newline rest) ≡ opens start cells₀ literals₀ 1 (split newline s)

module _ {R : Type 0} {stands : StandsAt R} {opens : OpensAt R} {start : R} {cells₀ : List ℕ} {literals₀ : List ℤ} {s : Bytes} where
  module _ (short : length s ≤ text_bytes) {x : R} {cells : List ℕ} {literals : List ℤ} {number : ℕ} {rest : Bytes} (l : Rest stands opens start cells₀ literals₀ s x cells literals number rest) where
    abbrev whole_text : Opened
    whole_text = within_text s (opens start cells₀ literals₀ 1 (split newline s))

    answered : (r : Result (Unit {0}) RefusedAt) (cells' : List ℕ) (literals' : List ℤ) → ReadAt (opens x cells literals number (split newline rest)) r cells' literals' → ReadAt whole_text r cells' literals'
    answered r cells' literals' a = rw (le-ltb text_bytes (length s) short) (subst (λ (o : Opened). ReadAt o r cells' literals') l.same a)

    refused_here : (q : Refusal) (cells' : List ℕ) (literals' : List ℤ) → opens x cells literals number (split newline rest) ≡ refused (number_of q) number → ReadAt whole_text (Err (record { refusal = q; line = number })) cells' literals'
    refused_here q cells' literals' e = answered (Err (record { refusal = q; line = number })) cells' literals' (subst (λ (o : Opened). ReadAt o (Err (record { refusal = q; line = number })) cells' literals') (sym e) (refl, refl))

    module _ (j : Result (Bor Bytes) Refusal) (t : Bytes) (n : NextLine rest (Some j) t) where
      pub line_missing : ((x : R) (cells : List ℕ) (literals : List ℤ) (n b : ℕ) (l : Bytes) → opens x cells literals n ((b ∷ l) ∷ []) ≡ refused 1 n) → (e : RefusedAt) → Err e ≡ at_line number j → ReadAt whole_text (Err e) cells literals
      line_missing law e is = by j n is
        where
          by : (j : Result (Bor Bytes) Refusal) → NextLine rest (Some j) t → Err e ≡ at_line number j → ReadAt whole_text (Err e) cells literals
          by (Ok line) n is = cc
          by (Err q) (z, b, w, p) is =
              subst (λ (a : RefusedAt). ReadAt whole_text (Err a) cells literals) (let z : ◌≡◌ {A = RefusedAt} (record { refusal = q; line = number }) e = cc in z)
              (refused_here q cells literals (ap (opens x cells literals number) p ∙ law x cells literals number b w ∙ ap (λ (k : Refusal). refused (number_of k) number) (sym z)))

      module _ (line : Bor Bytes) (is : Ok line ≡ at_line number j) where
        whole : (split newline rest ≡ line.now ∷ split newline t) × (length t < length rest)
        whole = by j n is
          where
            by : (j : Result (Bor Bytes) Refusal) → NextLine rest (Some j) t → Ok line ≡ at_line number j → (split newline rest ≡ line.now ∷ split newline t) × (length t < length rest)
            by (Ok l) n is = let z : l ≡ line = cc in (n.0 ∙ ap (λ (b : Bor Bytes). b.now ∷ split newline t) z, n.1)
            by (Err q) n is = cc

        module _ (k : Result R Refusal) (cells' : List ℕ) (literals' : List ℤ) (took : TakesAt stands opens x cells literals line.now k cells' literals') where
          pub line_refused : (e : RefusedAt) → Err e ≡ at_line number k → ReadAt whole_text (Err e) cells' literals'
          line_refused e is = by k took is
            where
              by : (k : Result R Refusal) → TakesAt stands opens x cells literals line.now k cells' literals' → Err e ≡ at_line number k → ReadAt whole_text (Err e) cells' literals'
              by (Ok y) w is = cc
              by (Err q) w is =
                  let m = split_some newline t in
                  subst (λ (a : RefusedAt). ReadAt whole_text (Err a) cells' literals') (let z : ◌≡◌ {A = RefusedAt} (record { refusal = q; line = number }) e = cc in z)
                  (refused_here q cells' literals' (ap (opens x cells literals number) (whole.0 ∙ ap (λ (ws : List Bytes). line.now ∷ ws) m.2) ∙ w number m.0 m.1))

          pub line_taken : (y : R) → Ok y ≡ at_line number k → Rest stands opens start cells₀ literals₀ s y cells' literals' (number + 1) t
          line_taken y is = by k took is
            where
              by : (k : Result R Refusal) → TakesAt stands opens x cells literals line.now k cells' literals' → Ok y ≡ at_line number k → Rest stands opens start cells₀ literals₀ s y cells' literals' (number + 1) t
              by (Err q) w is = cc
              by (Ok z) w is =
                  let m = split_some newline t in
                  subst (λ (v : R). Rest stands opens start cells₀ literals₀ s v cells' literals' (number + 1) t) (let v : z ≡ y = cc in v)
                  (record {
                    counted = omega (arith, l.counted, whole.1);
                    holds = w.0;
                    same =
                        ap (λ (i : ℕ). opens z cells' literals' i (split newline t)) (add-one number) ∙ ap (opens z cells' literals' (suc number)) m.2 ∙ sym (w.1 number m.0 m.1)
                        ∙ ap (opens x cells literals number) (sym (whole.0 ∙ ap (λ (ws : List Bytes). line.now ∷ ws) m.2)) ∙ l.same;
                  })

    pub text_ended : rest ≡ [] → (k : Result (Unit {0}) Refusal) → EndsAt (opens x cells literals) cells literals k → ReadAt whole_text (at_line number k) cells literals
    unfolding split
    text_ended over k e = by k e
      where
        nothing : opens x cells literals number (split newline rest) ≡ opens x cells literals number ([] ∷ [])
        nothing = ap (λ (r : Bytes). opens x cells literals number (split newline r)) over

        by : (k : Result (Unit {0}) Refusal) → EndsAt (opens x cells literals) cells literals k → ReadAt whole_text (at_line number k) cells literals
        by (Ok u) e = answered (Ok u) cells literals (subst (λ (o : Opened). ReadAt o (Ok u) cells literals) (sym nothing) (e number))
        by (Err q) e = refused_here q cells literals (nothing ∙ e number)
