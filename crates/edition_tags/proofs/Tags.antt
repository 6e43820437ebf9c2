-- A tag, and a line with it or without it.
use Prim.Native.Nat.{ℕ, suc, ◌+◌, ◌≤◌}
use mathlib.Core.Path.{◌≡◌, sym, ap, ◌∙◌}
use mathlib.Core.Bool.{Bool, true, false, cond, not, ◌&&◌, false≢true}
use mathlib.Core.List.{◌++◌}
use Rattle.std.proofs.lemmas.List.{drop-drop}
use native.Mathlib.Omega.{arith}
use lib.ListN.{length, take, drop, length-append, length-take, length-drop}
use Rattle.layout.specs.Words.{Bytes, ascii, same}
use Rattle.layout.specs.Output.{decimal}
use Rattle.layout_laws.proofs.Decimal.{decimal_length}
use Rattle.editions.specs.Converting.{rule_head, is_rule, tag_text, insert_tag, remove_tag, has_tag, next}
use Rattle.editions_laws.proofs.Words.{same_true}
use Rattle.writer.specs.Wrote.{Wrote}
use Rattle.edition_reader.specs.declared.Edition.{Edition}
use Rattle.edition_reader.specs.declared.Edition.TheVariants.{First, Second}
use Rattle.edition_tags.specs.Tagged.{Tagged, most_tag, most_number}
use Rattle.edition_tags.specs.Appended.{RuleRest, rule_to, line_to}
use Rattle.std.specs.Prelude.{Option as Answer, Some, None, MatchOption}
use Rattle.std.specs.Option.{is_some}
use Rattle.std.specs.Borrow.{Bor}
use lib.Pointwise.{pointwise}
use Rattle.reader.proofs.Words.{pointwise_same}
use lib.Dec.{eqb}

-- ---- the text of a tag
pub tag_length : (k : ℕ) → length (tag_text k) ≡ 7 + length (decimal k)
unfolding tag_text
tag_length k = length-append (ascii " (tag " ++ decimal k) (ascii ")") ∙ omega (arith, length-append (ascii " (tag ") (decimal k))

pub tag_short : (k : ℕ) → k ≤ most_number → length (tag_text k) ≤ most_tag
tag_short k h = omega (arith, tag_length k, decimal_length 4 k (omega (arith, h)))

pub tagged_as : {d₀ d : Bytes} {r : ℕ} (k : ℕ) → k ≤ most_number → Wrote d₀ 0 (ascii " (tag " ++ decimal k ++ ascii ")") d r → Tagged k d r
unfolding tag_text
tagged_as k h w = record { count = omega (arith, w.next); few = omega (arith, w.next, tag_short k h); is = w.is }

-- ---- a rule form
head_is : (l : Bytes) → is_rule l ≡ true → take 5 l ≡ rule_head
unfolding is_rule
head_is l e = same_true (take 5 l) rule_head e

begins_rule : (l : Bytes) {x : Bool} → pointwise eqb (take 5 l) rule_head ≡ x → is_rule l ≡ x
unfolding is_rule
begins_rule l e = sym (pointwise_same (take 5 l) rule_head) ∙ e

-- what is left of a line without `(rule` before it
pub rest_is : (l : Bytes) (r : Answer (Bor Bytes))
    → MatchOption r (pointwise eqb (take 5 l) rule_head ≡ false) (λ x. (pointwise eqb (take 5 l) rule_head ≡ true) × (x.now ≡ drop 5 l) × (length x.now + 5 ≡ length l))
    → RuleRest l r
rest_is l None h = begins_rule l h
rest_is l (Some x) (e, q, n) = (begins_rule l e, q, n)

-- a rule form has a tag to lose
module _ (k : ℕ) (l : Bytes) (rule : is_rule l ≡ true) {r t : Bytes} (e : r ≡ drop 5 l) (q : t ≡ tag_text k) where
  begins_tag : {x : Bool} → pointwise eqb (take (length t) r) t ≡ x → has_tag k l ≡ x
  unfolding has_tag
  begins_tag h =
      ap (λ (u : Bytes). same (take (length (tag_text k)) u) (tag_text k)) (sym e)
      ∙ ap (λ (u : Bytes). same (take (length u) r) u) (sym q)
      ∙ sym (pointwise_same (take (length t) r) t) ∙ h

  pub lost_as : (o : Answer (Bor Bytes))
      → MatchOption o (pointwise eqb (take (length t) r) t ≡ false) (λ x. (pointwise eqb (take (length t) r) t ≡ true) × (x.now ≡ drop (length t) r) × (length x.now + length t ≡ length r))
      → (x : Bool) → is_some o ≡ not x → x ≡ (is_rule l && not (has_tag k l))
  lost_as None h true z = rw (rule, begins_tag h)
  lost_as None h false z = absurd (false≢true z)
  lost_as (Some v) h true z = absurd (false≢true (sym z))
  lost_as (Some v) h false z = rw (rule, begins_tag h.0)

-- what is written of one
module _ (to : Edition) (k : ℕ) (l : Bytes) where
  pub rule_line_lem : is_rule l ≡ true → {r : Bytes} → r ≡ drop 5 l → rule_to to k r ≡ line_to to k l
  unfolding insert_tag remove_tag
  rule_line_lem e {r} q = by to
    where
      more : (n : ℕ) → drop n (drop 5 l) ≡ drop (5 + n) l
      more n = drop-drop n 5 l

      by : (to : Edition) → rule_to to k r ≡ line_to to k l
      by First = rw e (ap (λ (h : Bytes). h ++ drop (length (tag_text k)) r) (sym (head_is l e)) ∙ ap (λ (u : Bytes). take 5 l ++ u) (ap (drop (length (tag_text k))) q ∙ more (length (tag_text k))))
      by Second = rw e (ap (λ (h : Bytes). h ++ (tag_text k ++ r)) (sym (head_is l e)) ∙ ap (λ (u : Bytes). take 5 l ++ (tag_text k ++ u)) q)

-- ---- a line
module _ (to : Edition) (k : ℕ) (l : Bytes) where
  -- a line grows by a tag at most
  pub line_most : k ≤ most_number → length (line_to to k l) ≤ length l + most_tag
  unfolding insert_tag remove_tag
  line_most h = by to
    where
      inserted : length (take 5 l ++ (tag_text k ++ drop 5 l)) ≤ length l + most_tag
      inserted = omega (arith, length-append (take 5 l) (tag_text k ++ drop 5 l), length-append (tag_text k) (drop 5 l), length-take 5 l, length-drop 5 l, tag_short k h)

      removed : length (take 5 l ++ drop (5 + length (tag_text k)) l) ≤ length l + most_tag
      removed = omega (arith, length-append (take 5 l) (drop (5 + length (tag_text k)) l), length-take 5 l, length-drop (5 + length (tag_text k)) l)

      each : (t : Bool) (x : Bytes) → length x ≤ length l + most_tag → length (cond t x l) ≤ length l + most_tag
      each true x q = q
      each false x q = omega arith

      by : (to : Edition) → length (line_to to k l) ≤ length l + most_tag
      by First = each (is_rule l) (remove_tag k l) removed
      by Second = each (is_rule l) (insert_tag k l) inserted

-- ---- the number of the next rule form
pub next_most : (k : ℕ) (l : Bytes) → next k l ≤ suc k
next_most k l = by (is_rule l)
  where
    by : (t : Bool) → cond t (suc k) k ≤ suc k
    by true = omega arith
    by false = omega arith
