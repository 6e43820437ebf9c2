-- An item that may end a call's line: the words before the item's, and what its line says.
use Prim.Native.Nat.{ℕ, suc, ◌≤◌, ◌-◌}
use mathlib.Core.Path.{◌≡◌, refl, sym, ap, subst, ◌∙◌}
use mathlib.Core.Bool.{Bool, true, false, cond}
use mathlib.Core.List.{List, [], ◌∷◌, ◌++◌, append_assoc}
use mathlib.Core.Logic.{◌⊎◌, inl, inr}
use mathlib.Core.Option.{Option, none, some}
use native.Mathlib.Omega.{arith}
use borrow.Author.Tests.{eq-eqb}
use lib.Dec.{eqb}
use lib.ListN.{length, take, length-append}
use lib.Seq.{take-append_seam}
use Rattle.std.specs.Prelude.{Option as Answer, Some, None}
use Rattle.std.specs.Borrow.{Bor}
use Rattle.qbf.specs.Calls.{Call}
use Rattle.layout.specs.Words.{Bytes, space, on_first, split, same}
use Rattle.layout.specs.Forms.{then}
use Rattle.layout.specs.Endings.{last_item, Ended, item, after, ended}
use Rattle.layout.specs.Session.{takes_given, ended_call}
use Rattle.reader.specs.Pieces.{pieces, cut_bytes, size_left, Cut}
use Rattle.reader.specs.Numbers.{num_of}
use Rattle.reader.specs.Endings.{behind, Before, BegunRead, EndedRead}
use Rattle.reader.specs.declared.ending.Begun.{Begun}
use Rattle.reader.specs.declared.ending.Ending.{Ending}
use Rattle.reader.proofs.Texts.{split_some}

-- ---- a text of two with a byte c between them: the pieces of the one, and those of the other
split_join : (c : ℕ) (s t : Bytes) → split c (s ++ (c ∷ t)) ≡ split c s ++ split c t
unfolding split
split_join c [] t = rw (eq-eqb c c refl) refl
split_join c (b ∷ s) t = by (eqb b c) (split_join c s t) (split_some c s)
  where
    by : (x : Bool) → split c (s ++ (c ∷ t)) ≡ split c s ++ split c t → ((w : Bytes) × (ws : List Bytes) × (split c s ≡ w ∷ ws))
        → cond x ([] ∷ split c (s ++ (c ∷ t))) (on_first b (split c (s ++ (c ∷ t)))) ≡ cond x ([] ∷ split c s) (on_first b (split c s)) ++ split c t
    by true i p = ap (λ (ws : List Bytes). [] ∷ ws) i
    by false i (w, ws, p) =
        ap (on_first b) (i ∙ ap (λ (us : List Bytes). us ++ split c t) p)
        ∙ ap (λ (us : List Bytes). on_first b us ++ split c t) (sym p)

append_nil : (us : List Bytes) → us ++ [] ≡ us
append_nil [] = refl
append_nil (a ∷ us) = ap (λ (xs : List Bytes). a ∷ xs) (append_nil us)

append_one : (us : List Bytes) (w : Bytes) (ps : List Bytes) → us ++ (w ∷ ps) ≡ (us ++ (w ∷ [])) ++ ps
append_one [] w ps = refl
append_one (a ∷ us) w ps = ap (λ (xs : List Bytes). a ∷ xs) (append_one us w ps)

-- words that begin no item
behind_one : (ws : List Bytes) (w : Bytes) (o : Option Ended) → behind (ws ++ (w ∷ [])) o ≡ behind ws (then o (after w))
behind_one [] w o = refl
behind_one (v ∷ ws) w o = ap (λ (p : Option Ended). then p (after v)) (behind_one ws w o)

behind_some : (ws : List Bytes) (z : Ended) → behind ws (some z) ≡ some (record { words = ws ++ z.words; last = z.last })
behind_some [] z = refl
behind_some (w ∷ ws) z = ap (λ (p : Option Ended). then p (after w)) (behind_some ws z)

behind_none : (ws : List Bytes) → behind ws none ≡ none
behind_none [] = refl
behind_none (w ∷ ws) = ap (λ (p : Option Ended). then p (after w)) (behind_none ws)

module _ (word : Bytes) (number : Bytes → Option ℕ) where
  pub other_word : (w : Bytes) (ws : List Bytes) → same w word ≡ false → ended word number (w ∷ ws) ≡ then (ended word number ws) (after w)
  unfolding ended
  other_word w ws h = rw h

  its_word : (w : Bytes) (ws : List Bytes) → same w word ≡ true → ended word number (w ∷ ws) ≡ then (last_item number ws) item
  unfolding ended
  its_word w ws h = rw h

  no_words : ended word number [] ≡ some (record { words = []; last = none })
  unfolding ended
  no_words = refl

-- ---- the scan: no word before those that are left is the item's
-- the words passed are those of the bytes before what is left
abbrev Passed : Bytes → List Bytes → Answer (Bor Bytes) → Type 0
Passed s ws None = Unit {0}
Passed s ws (Some t) = ((ws ≡ []) × (s ≡ t.now)) ⊎ ((b : Bytes) × (s ≡ b ++ (space ∷ t.now)) × (split space b ≡ ws))

pub record Scanned (word s : Bytes) (left : Answer (Bor Bytes)) : Type 0 where
  pub words : List Bytes
  pub begins : split space s ≡ words ++ pieces space left
  pub is : (number : Bytes → Option ℕ) → ended word number (split space s) ≡ behind words (ended word number (pieces space left))
  pub passed : Passed s words left
  pub few : size_left left ≤ suc (length s)

pub scan_none : (word : Bytes) (s : Bor Bytes) → Scanned word s.now (Some s)
scan_none word s = record { words = []; begins = refl; is = λ number. refl; passed = inl (refl, refl); few = omega arith }

-- what stands before the words that are left
before_left : (s : Bytes) (ws : List Bytes) (t : Bor Bytes) → Passed s ws (Some t) → (b : Answer (Bor Bytes)) → Before s (length t.now) b → pieces space b ≡ ws
before_left s ws t (inl (e, q)) None h = sym e
before_left s ws t (inl (e, q)) (Some b) h = let n : length s ≡ length t.now = ap length q in absurd (omega (arith, n, h.0))
before_left s ws t (inr (u, q, e)) None h = let n : length s ≡ length (u ++ (space ∷ t.now)) = ap length q in absurd (omega (arith, n, h, length-append u (space ∷ t.now)))
before_left s ws t (inr (u, q, e)) (Some b) h =
    let n : length s ≡ length (u ++ (space ∷ t.now)) = ap length q in
    let k : length s - length t.now - 1 ≡ length u = omega (arith, n, length-append u (space ∷ t.now)) in
    ap (split space) (h.1 ∙ ap (λ (k : ℕ). take k s) k ∙ ap (take (length u)) q ∙ take-append_seam u (space ∷ t.now)) ∙ e

module _ {word s : Bytes} {left : Answer (Bor Bytes)} (p : Scanned word s left) where
  module _ {t : Bor Bytes} (here : left ≡ Some t) {w : Bytes} {more : Answer (Bor Bytes)} (q : Cut space t.now w more) where
    words_here : pieces space left ≡ w ∷ pieces space more
    words_here = ap (pieces space) here ∙ q.is

    passed_more : (more : Answer (Bor Bytes)) → t.now ≡ cut_bytes space w more → Passed s p.words (Some t) → Passed s (p.words ++ (w ∷ [])) more
    passed_more None e h = tt
    passed_more (Some r) e (inl (n, z)) = inr (w, z ∙ e, q.alone ∙ ap (λ (ws : List Bytes). ws ++ (w ∷ [])) (sym n))
    passed_more (Some r) e (inr (b, z, n)) =
        inr (
          b ++ (space ∷ w),
          z ∙ ap (λ (u : Bytes). b ++ (space ∷ u)) e ∙ sym (append_assoc b (space ∷ w) (space ∷ r.now)),
          split_join space b w ∙ ap (λ (ws : List Bytes). split space b ++ ws) q.alone ∙ ap (λ (ws : List Bytes). ws ++ (w ∷ [])) n,
        )

    pub scan_more : same w word ≡ false → Scanned word s more
    scan_more h =
        record {
          words = p.words ++ (w ∷ []);
          begins = p.begins ∙ ap (λ (ws : List Bytes). p.words ++ ws) words_here ∙ append_one p.words w (pieces space more);
          is = λ number.
              p.is number ∙ ap (behind p.words) (ap (ended word number) words_here ∙ other_word word number w (pieces space more) h)
              ∙ sym (behind_one p.words w (ended word number (pieces space more)));
          passed = passed_more more q.bytes (subst (Passed s p.words) here p.passed);
          few = omega (arith, p.few, ap size_left here, q.shorter);
        }

    pub scan_found : same w word ≡ true → (b : Begun) → Before s (length t.now) b.before → b.left ≡ more → BegunRead word s (Some b)
    scan_found h b k e = λ number.
        p.is number ∙ ap (behind p.words) (ap (ended word number) words_here ∙ its_word word number w (pieces space more) h)
        ∙ ap (λ (ws : List Bytes). behind ws (then (last_item number (pieces space more)) item)) (sym (before_left s p.words t (subst (Passed s p.words) here p.passed) b.before k))
        ∙ ap (λ (l : Answer (Bor Bytes)). behind (pieces space b.before) (then (last_item number (pieces space l)) item)) (sym e)

  -- no item is given
  pub scan_end : left ≡ None → BegunRead word s None
  scan_end h = λ number.
      p.is number ∙ ap (λ (l : Answer (Bor Bytes)). behind p.words (ended word number (pieces space l))) h
      ∙ ap (behind p.words) (no_words word number)
      ∙ behind_some p.words (record { words = []; last = none })
      ∙ ap (λ (ws : List Bytes). some (record { words = ws; last = none })) (sym (p.begins ∙ ap (λ (l : Answer (Bor Bytes)). p.words ++ pieces space l) h))

-- ---- the item
module _ (number : Bytes → Option ℕ) {s w : Bytes} where
  pub item_more : {t : Bor Bytes} → Cut space s w (Some t) → none ≡ last_item number (split space s)
  item_more {t} p = sym (ap (last_item number) p.is ∙ two (split_some space t.now))
    where
      two : ((v : Bytes) × (ws : List Bytes) × (split space t.now ≡ v ∷ ws)) → last_item number (w ∷ split space t.now) ≡ none
      two (v, ws, e) = ap (λ (vs : List Bytes). last_item number (w ∷ vs)) e

-- ---- the answer
module _ (word s : Bytes) (b : Begun) (number : Bytes → Option ℕ) (p : BegunRead word s (Some b)) where
  -- what follows its word is no item
  pub no_number : none ≡ last_item number (pieces space b.left) → EndedRead (ended word number (split space s)) None
  no_number i = inl (p number ∙ ap (λ (o : Option ℕ). behind (pieces space b.before) (then o item)) (sym i) ∙ behind_none (pieces space b.before))

  module _ {n : ℕ} (i : some n ≡ last_item number (pieces space b.left)) where
    given : ended word number (split space s) ≡ some (record { words = pieces space b.before; last = some n })
    given =
        p number ∙ ap (λ (o : Option ℕ). behind (pieces space b.before) (then o item)) (sym i)
        ∙ behind_some (pieces space b.before) (record { words = []; last = some n })
        ∙ ap (λ (ws : List Bytes). some (record { words = ws; last = some n })) (append_nil (pieces space b.before))

    pub item_given : {t : Bor Bytes} → b.before ≡ Some t → ended word number (split space s) ≡ some (record { words = split space t.now; last = some n })
    item_given k = given ∙ ap (λ (l : Answer (Bor Bytes)). some (record { words = pieces space l; last = some n })) k

-- ---- the call
-- the call of a line's words, by the answer of its item
module _ (word s : Bytes) (number : Bytes → Option ℕ) (takes : ℕ → Call → Option Call) (call : List Bytes → Option Call) where
  called : (o : Option Ended) → ended word number (split space s) ≡ o → ended_call word number takes call (split space s) ≡ then o (λ z. takes_given takes z.last (call z.words))
  called o e = rw e

  pub ended_is : (z : Ending) → EndedRead (ended word number (split space s)) (Some z) → ended_call word number takes call (split space s) ≡ takes_given takes (num_of z.number) (call (split space z.words.now))
  ended_is z e = called (some (record { words = split space z.words.now; last = num_of z.number })) e

  pub outside_form : call [] ≡ none → EndedRead (ended word number (split space s)) None → ended_call word number takes call (split space s) ≡ none
  outside_form nothing (inl e) = called none e
  outside_form nothing (inr (n, e)) = called (some (record { words = []; last = some n })) e ∙ ap (λ (o : Option Call). then o (takes n)) nothing

-- a word that makes no call with any words makes none with such an item
pub word_none : (word : Bytes) (number : Bytes → Option ℕ) (takes : ℕ → Call → Option Call) (call : List Bytes → Option Call) (w : Bytes) (ws : List Bytes)
    → same w word ≡ false → ((vs : List Bytes) → call (w ∷ vs) ≡ none) → ended_call word number takes call (w ∷ ws) ≡ none
word_none word number takes call w ws h f =
    ap (λ (o : Option Ended). then o (λ z. takes_given takes z.last (call z.words))) (other_word word number w ws h) ∙ by (ended word number ws)
  where
    given_none : (c : Option ℕ) (vs : List Bytes) → takes_given takes c (call (w ∷ vs)) ≡ none
    given_none none vs = f vs
    given_none (some n) vs = ap (λ (o : Option Call). then o (takes n)) (f vs)

    by : (o : Option Ended) → then (then o (after w)) (λ z. takes_given takes z.last (call z.words)) ≡ none
    by none = refl
    by (some z) = given_none z.last z.words
