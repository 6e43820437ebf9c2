-- A tag put in or taken out: the line says the same rule.
use Prim.Native.Nat.{ℕ, suc, ◌≤◌, ◌<◌}
use mathlib.Core.Path.{◌≡◌, refl, sym, ap, ◌∙◌, subst}
use mathlib.Core.Bool.{Bool, true, false, cond, not, ◌&&◌, ◌||◌, true≢false}
use mathlib.Core.List.{List, [], ◌∷◌, ◌++◌, append_assoc, append_cancel_left}
use mathlib.Core.Option.{none, some}
use native.Mathlib.Omega.{arith}
use borrow.Author.Tests.{eqb-true, eqb-false, ne_eqb, le-ltb, leb-false, ltb-false}
use lib.ListN.{length, take, drop, length-append, take-append-drop}
use lib.Seq.{take-append_seam, drop-append_seam, drop-append-add}
use lib.Dec.{eqb, leb, ltb}
use Rattle.qbf.specs.Formula.{Literal, Formula}
use Rattle.qbf.specs.Calls.{given, literal_fault, rule_fault, with_rule, clause_of, one_rules, ◌or_else◌}
use Rattle.theory.proofs.Basics.{not_false, or_false, or_false_right}
use Rattle.theory.proofs.AcceptedRule.{given_none}
use Rattle.layout.specs.Words.{Bytes, ascii, newline, closing, split, same, number}
use Rattle.layout.specs.Forms.{book, block, clause, end}
use Rattle.layout.specs.Output.{decimal}
use Rattle.layout.specs.Opening.{allowed}
use Rattle.layout_laws.proofs.Decimal.{number_decimal}
use Rattle.layout_laws.proofs.Opened.{allowed_is}
use Rattle.booktext_laws.proofs.Lines.{lacks, split_first, split_only, digits_lack}
use Rattle.editions.specs.Lines.{Line, says, tagged, one, line_of}
use Rattle.editions.specs.Opening.{Editions, rank_of, tags_fit, tagged_fault, said_fault, line_fault, with_line, edition_after}
use Rattle.editions.specs.Converting.{joined, rule_head, is_rule, tag_text, insert_tag, remove_tag, has_tag, tag_line, untag_line, next, each_line, lost_from}
use Rattle.editions_laws.proofs.Words.{some_same, pieces, cons_same, same_true, true_same}
use Rattle.editions_laws.proofs.Lines.{is_plain, RuleShape, plain_line, clause_shape, clause_line_lem, tagged_shape, tagged_line_lem}
use Rattle.editions_laws.proofs.Reading.{Same, AllFit}

-- ---- the bytes
head_rule : (x : Bytes) → is_rule (rule_head ++ x) ≡ true
unfolding is_rule same
head_rule x = refl

pub rule_head_lem : (l : Bytes) → is_rule l ≡ true → l ≡ rule_head ++ drop 5 l
unfolding is_rule
rule_head_lem l e = sym (take-append-drop 5 l) ∙ ap (λ (x : Bytes). x ++ drop 5 l) (same_true (take 5 l) rule_head e)

head_insert : (k : ℕ) (x : Bytes) → insert_tag k (rule_head ++ x) ≡ rule_head ++ (tag_text k ++ x)
unfolding insert_tag
head_insert k x = refl

head_remove : (k : ℕ) (x : Bytes) → remove_tag k (rule_head ++ (tag_text k ++ x)) ≡ rule_head ++ x
unfolding remove_tag
head_remove k x = ap (λ (y : Bytes). rule_head ++ y) (drop-append-add rule_head (tag_text k ++ x) (length (tag_text k)) ∙ drop-append_seam (tag_text k) x)

head_has : (k : ℕ) (x : Bytes) → has_tag k (rule_head ++ (tag_text k ++ x)) ≡ true
unfolding has_tag
head_has k x = ap (λ (y : Bytes). same y (tag_text k)) (take-append_seam (tag_text k) x) ∙ true_same (tag_text k)

has_head : (k : ℕ) (x : Bytes) → has_tag k (rule_head ++ x) ≡ true → x ≡ tag_text k ++ drop (length (tag_text k)) x
unfolding has_tag
has_head k x e = sym (take-append-drop (length (tag_text k)) x) ∙ ap (λ (y : Bytes). y ++ drop (length (tag_text k)) x) (same_true (take (length (tag_text k)) x) (tag_text k) e)

-- a line has one tag
tag_same : (j k : ℕ) (x y : Bytes) → j < 100000 → k < 100000 → tag_text j ++ x ≡ tag_text k ++ y → j ≡ k
unfolding tag_text
tag_same j k x y h g e = some_same j k (sym (number_decimal j h) ∙ ap number decimals ∙ number_decimal k g)
  where
    after : decimal j ++ (closing ∷ x) ≡ decimal k ++ (closing ∷ y)
    after = sym (append_assoc (decimal j) (closing ∷ []) x) ∙ append_cancel_left (ascii " (tag ") ((decimal j ++ (closing ∷ [])) ++ x) ((decimal k ++ (closing ∷ [])) ++ y) e ∙ append_assoc (decimal k) (closing ∷ []) y

    decimals : decimal j ≡ decimal k
    decimals =
        (cons_same (decimal j) (decimal k) (split closing x) (split closing y)
        (sym (split_first closing (decimal j) x (digits_lack closing (omega arith) j)) ∙ ap (split closing) after ∙ split_first closing (decimal k) y (digits_lack closing (omega arith) k))).0

-- the tag that a line has, by its number
pub has_number : (l : Bytes) (j k : ℕ) (ls : List Literal) → j < 100000 → k < 100000 → line_of l ≡ some (tagged j ls) → has_tag k l ≡ eqb j k
has_number l j k ls h g q = by (has_tag k l) refl (eqb j k) refl
  where
    r : RuleShape l (tag_text j) ls
    r = tagged_shape l j ls q

    rest : Bytes
    rest = r.rest ++ (closing ∷ [])

    by : (t : Bool) → has_tag k l ≡ t → (u : Bool) → eqb j k ≡ u → t ≡ u
    by true x true y = refl
    by false x false y = refl
    by true x false y = absurd (eqb-false j k y (tag_same j k rest (drop (length (tag_text k)) (tag_text j ++ rest)) h g (has_head k (tag_text j ++ rest) (ap (has_tag k) (sym r.is) ∙ x))))
    by false x true y = sym x ∙ ap (has_tag k) (r.is ∙ ap (λ (i : ℕ). rule_head ++ (tag_text i ++ rest)) (eqb-true j k y)) ∙ head_has k rest

-- ---- line by line, as code converts them
-- a line that is ended, and the last piece
pub each_step : (g : ℕ → Bytes → Bytes) (k : ℕ) (l s : Bytes) → lacks newline l ≡ true → joined (each_line g k (split newline (l ++ (newline ∷ s)))) ≡ g k l ++ (newline ∷ joined (each_line g (next k l) (split newline s)))
unfolding each_line joined
each_step g k l s h =
    let p = pieces newline s in
    ap (λ (x : List Bytes). joined (each_line g k x)) (split_first newline l s h ∙ ap (λ (x : List Bytes). l ∷ x) p.2) ∙ ap (λ (x : List Bytes). g k l ++ (newline ∷ joined (each_line g (next k l) x))) (sym p.2)

pub each_last : (g : ℕ → Bytes → Bytes) (k : ℕ) (l : Bytes) → lacks newline l ≡ true → joined (each_line g k (split newline l)) ≡ g k l
unfolding each_line joined
each_last g k l h = ap (λ (x : List Bytes). joined (each_line g k x)) (split_only newline l h)

-- ---- the lines of a text: tags in and out undo each other
pub untag_tag : (k : ℕ) (ps : List Bytes) → each_line untag_line k (each_line tag_line k ps) ≡ ps
unfolding each_line
untag_tag k [] = refl
untag_tag k (l ∷ ls) = by (is_rule l) refl (untag_tag (suc k) ls) (untag_tag k ls)
  where
    tags : is_rule l ≡ true → (is_rule (insert_tag k l) ≡ true) × (remove_tag k (insert_tag k l) ≡ l)
    tags q = subst (λ (x : Bytes). (is_rule (insert_tag k x) ≡ true) × (remove_tag k (insert_tag k x) ≡ x)) (sym (rule_head_lem l q))
        (ap is_rule (head_insert k (drop 5 l)) ∙ head_rule (tag_text k ++ drop 5 l), ap (remove_tag k) (head_insert k (drop 5 l)) ∙ head_remove k (drop 5 l))

    by : (t : Bool) → is_rule l ≡ t → each_line untag_line (suc k) (each_line tag_line (suc k) ls) ≡ ls → each_line untag_line k (each_line tag_line k ls) ≡ ls
        → each_line untag_line k (cond t (insert_tag k l) l ∷ each_line tag_line (cond t (suc k) k) ls) ≡ l ∷ ls
    by true q a b = rw ((tags q).0, (tags q).1, a)
    by false q a b = rw (q, b)

pub lost_tag : (n k : ℕ) (ps : List Bytes) → lost_from n k (each_line tag_line k ps) ≡ none
unfolding each_line lost_from
lost_tag n k [] = refl
lost_tag n k (l ∷ ls) = by (is_rule l) refl (lost_tag (suc n) (suc k) ls) (lost_tag (suc n) k ls)
  where
    tags : is_rule l ≡ true → (is_rule (insert_tag k l) ≡ true) × (has_tag k (insert_tag k l) ≡ true)
    tags q = subst (λ (x : Bytes). (is_rule (insert_tag k x) ≡ true) × (has_tag k (insert_tag k x) ≡ true)) (sym (rule_head_lem l q))
        (ap is_rule (head_insert k (drop 5 l)) ∙ head_rule (tag_text k ++ drop 5 l), ap (has_tag k) (head_insert k (drop 5 l)) ∙ head_has k (drop 5 l))

    by : (t : Bool) → is_rule l ≡ t → lost_from (suc n) (suc k) (each_line tag_line (suc k) ls) ≡ none → lost_from (suc n) k (each_line tag_line k ls) ≡ none
        → lost_from n k (cond t (insert_tag k l) l ∷ each_line tag_line (cond t (suc k) k) ls) ≡ none
    by true q a b = rw ((tags q).0, (tags q).1, a)
    by false q a b = rw (q, b)

pub tag_untag : (n k : ℕ) (ps : List Bytes) → lost_from n k ps ≡ none → each_line tag_line k (each_line untag_line k ps) ≡ ps
unfolding each_line lost_from
tag_untag n k [] e = refl
tag_untag n k (l ∷ ls) e = by (is_rule l) refl (has_tag k l) refl e (tag_untag (suc n) (suc k) ls) (tag_untag (suc n) k ls)
  where
    Back : Bytes → Type 0
    Back x = (is_rule (remove_tag k x) ≡ true) × (insert_tag k (remove_tag k x) ≡ x)

    tags : is_rule l ≡ true → has_tag k l ≡ true → Back l
    tags q h = subst Back (sym (rule_head_lem l q ∙ ap (λ (x : Bytes). rule_head ++ x) y))
        (ap is_rule (head_remove k z) ∙ head_rule z, ap (insert_tag k) (head_remove k z) ∙ head_insert k z)
      where
        z : Bytes
        z = drop (length (tag_text k)) (drop 5 l)

        y : drop 5 l ≡ tag_text k ++ z
        y = has_head k (drop 5 l) (ap (has_tag k) (sym (rule_head_lem l q)) ∙ h)

    by : (t : Bool) → is_rule l ≡ t → (u : Bool) → has_tag k l ≡ u → cond (t && not u) (some n) (lost_from (suc n) (cond t (suc k) k) ls) ≡ none
        → (lost_from (suc n) (suc k) ls ≡ none → each_line tag_line (suc k) (each_line untag_line (suc k) ls) ≡ ls) → (lost_from (suc n) k ls ≡ none → each_line tag_line k (each_line untag_line k ls) ≡ ls)
        → each_line tag_line k (cond t (remove_tag k l) l ∷ each_line untag_line (cond t (suc k) k) ls) ≡ l ∷ ls
    by true q true h z a b = rw ((tags q h).0, (tags q h).1, a z)
    by true q false h z a b = absurd (let x : ◌≡◌ {A = ℕ} 0 1 = cc in omega arith)
    by false q u h z a b = rw (q, b z)

-- no tag of these lines would be lost
abbrev pub Kept : ℕ → Bytes → Type 0
Kept k l = (is_rule l && not (has_tag k l)) ≡ false

pub kept_all : (n k : ℕ) (ps : List Bytes) → lost_from n k ps ≡ none → AllFit Kept k ps
unfolding lost_from
kept_all n k [] e = tt
kept_all n k (l ∷ ls) e = by (is_rule l && not (has_tag k l)) refl e (kept_all (suc n) (next k l) ls)
  where
    by : (t : Bool) → (is_rule l && not (has_tag k l)) ≡ t → cond t (some n) (lost_from (suc n) (next k l) ls) ≡ none → (lost_from (suc n) (next k l) ls ≡ none → AllFit Kept (next k l) ls)
        → ((is_rule l && not (has_tag k l)) ≡ false) × AllFit Kept (next k l) ls
    by true q z ih = absurd (let x : ◌≡◌ {A = ℕ} 0 1 = cc in omega arith)
    by false q z ih = (q, ih z)

-- ---- the number of the next rule form is at most one more than the clauses that stand
pub record Counted (k : ℕ) (b : Formula) : Type 0 where
  pub low : 1 ≤ k
  pub high : k ≤ suc (length b.clauses)
  pub few : b.limits.clauses ≤ 65535

pub line_grows : (b : Formula) (f : Line) → (length b.clauses ≤ length (with_line b f).clauses) × ((with_line b f).limits ≡ b.limits)
line_grows b (says (book e)) = (omega arith, refl)
line_grows b (says (block κ ns)) = (omega arith, refl)
line_grows b (says (clause ls)) = (omega (arith, length-append b.clauses (clause_of b.prefix ls ∷ [])), refl)
line_grows b (says end) = (omega arith, refl)
line_grows b (tagged k ls) = (omega (arith, length-append b.clauses (clause_of b.prefix ls ∷ [])), refl)
line_grows b (one ls) = (omega (arith, length-append b.clauses (one_rules b.prefix ls)), refl)

counted_keep : (k : ℕ) (b : Formula) (f : Line) → Counted k b → Counted k (with_line b f)
counted_keep k b f c =
    let w = line_grows b f in
    record { low = c.low; high = omega (arith, c.high, w.0); few = subst (λ (x : ℕ). x ≤ 65535) (sym (ap (λ L. L.clauses) w.1)) c.few }

counted_next : (k : ℕ) (b : Formula) (ls : List Literal) → Counted k b → Counted (suc k) (with_rule none b ls)
counted_next k b ls c = record { low = omega (arith, c.low); high = omega (arith, c.high, length-append b.clauses (clause_of b.prefix ls ∷ [])); few = c.few }

-- a rule without a fault has room
rule_room : (b : Formula) (ls : List Literal) → rule_fault b ls ≡ none → leb b.limits.clauses (length b.clauses) ≡ false
rule_room b ls e =
    (given_none (leb b.limits.clauses (length b.clauses)) 20 (given (eqb (length ls) 0 || ltb b.limits.literals (length ls)) 7 or_else literal_fault b.limits b.prefix [] ls) e).0

-- ---- one line
module _ (a a' : Editions) (k stage : ℕ) (b : Formula) (l : Bytes) (later : 1 ≤ stage) (c : Counted k b) where
  -- the book's line stands first
  no_book : (e x : ℕ) → line_fault a e stage b (says (book x)) ≡ none → ⊥
  no_book e x z = omega (arith, later, (allowed_is stage 0 (not_false (allowed stage 0) (given_none (not (allowed stage 0)) 1 (given (not (tags_fit e (says (book x)))) 1 or_else said_fault a b (says (book x))) z).0)).0)

  -- a rule has its tag in edition 2 and none in edition 1
  misfit : (e : ℕ) (f : Line) → tags_fit e f ≡ false → line_fault a e stage b f ≡ none → ⊥
  misfit e f t z =
      true≢false
      (ap not (sym t) ∙ (given_none (not (tags_fit e f)) 1 (said_fault a b f) (given_none (not (allowed stage (rank_of f))) 1 (given (not (tags_fit e f)) 1 or_else said_fault a b f) z).1).0)

  kept_line : (e e' : ℕ) (change : Bytes) (f : Line) → line_of l ≡ some f → is_plain f ≡ true → line_fault a' e' stage b f ≡ none → edition_after e f ≡ e → edition_after e' f ≡ e'
      → Same a' e e' stage b (cond (is_rule l) change l) f × Counted (next k l) (with_line b f)
  kept_line e e' change f q p z x y =
      let r = plain_line l f q p in (
        subst (λ (t : Bool). Same a' e e' stage b (cond t change l) f) (sym r) (record { line = f; is = q; fault = z; formula = refl; rank = refl; edition = x; edition' = y }),
        subst (λ (t : Bool). Counted (cond t (suc k) k) (with_line b f)) (sym r) (counted_keep k b f c),
      )

  -- the tag goes in
  pub tag_line_lem : (f : Line) → line_of l ≡ some f → line_fault a 1 stage b f ≡ none → Same a' 1 2 stage b (tag_line k l) f × Counted (next k l) (with_line b f)
  tag_line_lem (says (book x)) q z = absurd (no_book 1 x z)
  tag_line_lem (says (block κ ns)) q z = kept_line 1 2 (insert_tag k l) (says (block κ ns)) q refl z refl refl
  tag_line_lem (says end) q z = kept_line 1 2 (insert_tag k l) (says end) q refl z refl refl
  tag_line_lem (one ls) q z = kept_line 1 2 (insert_tag k l) (one ls) q refl z refl refl
  tag_line_lem (tagged j ls) q z = absurd (misfit 1 (tagged j ls) refl z)
  tag_line_lem (says (clause ls)) q z = (
    subst (λ (t : Bool). Same a' 1 2 stage b (cond t (insert_tag k l) l) (says (clause ls))) (sym is_rule_lem) (record { line = tagged k ls; is = new; fault = fine; formula = refl; rank = refl; edition = refl; edition' = refl }),
    subst (λ (t : Bool). Counted (cond t (suc k) k) (with_rule none b ls)) (sym is_rule_lem) (counted_next k b ls c),
  )
    where
      r : RuleShape l [] ls
      r = clause_shape l ls q

      is_rule_lem : is_rule l ≡ true
      is_rule_lem = ap is_rule r.is ∙ head_rule (r.rest ++ (closing ∷ []))

      w : (not (allowed stage 3) ≡ false) × (rule_fault b ls ≡ none)
      w = given_none (not (allowed stage 3)) 1 (rule_fault b ls) z

      room : leb b.limits.clauses (length b.clauses) ≡ false
      room = rule_room b ls w.1

      small : k ≤ 65535
      small = omega (arith, c.high, c.few, leb-false b.limits.clauses (length b.clauses) room)

      new : line_of (insert_tag k l) ≡ some (tagged k ls)
      new = tagged_line_lem (insert_tag k l) k ls (omega (arith, small)) (record { rest = r.rest; words = r.words; is = ap (insert_tag k) r.is ∙ head_insert k (r.rest ++ (closing ∷ [])); tail = r.tail; literals_are = r.literals_are })

      fine : line_fault a' 2 stage b (tagged k ls) ≡ none
      fine = rw (w.0, room, or_false (eqb k 0) (ltb 65535 k) (ne_eqb k 0 (λ e. omega (arith, e, c.low))) (le-ltb 65535 k small)) (rw room at w.1)

  -- the tag goes out
  pub untag_line_lem : (f : Line) → Kept k l → line_of l ≡ some f → line_fault a 2 stage b f ≡ none → Same a' 2 1 stage b (untag_line k l) f × Counted (next k l) (with_line b f)
  untag_line_lem (says (book x)) h q z = absurd (no_book 2 x z)
  untag_line_lem (says (block κ ns)) h q z = kept_line 2 1 (remove_tag k l) (says (block κ ns)) q refl z refl refl
  untag_line_lem (says end) h q z = kept_line 2 1 (remove_tag k l) (says end) q refl z refl refl
  untag_line_lem (one ls) h q z = kept_line 2 1 (remove_tag k l) (one ls) q refl z refl refl
  untag_line_lem (says (clause ls)) h q z = absurd (misfit 2 (says (clause ls)) refl z)
  untag_line_lem (tagged j ls) h q z = (
    subst (λ (t : Bool). Same a' 2 1 stage b (cond t (remove_tag k l) l) (tagged j ls)) (sym is_rule_lem) (record { line = says (clause ls); is = new; fault = fine; formula = refl; rank = refl; edition = refl; edition' = refl }),
    subst (λ (t : Bool). Counted (cond t (suc k) k) (with_rule none b ls)) (sym is_rule_lem) (counted_next k b ls c),
  )
    where
      r : RuleShape l (tag_text j) ls
      r = tagged_shape l j ls q

      rest : Bytes
      rest = r.rest ++ (closing ∷ [])

      is_rule_lem : is_rule l ≡ true
      is_rule_lem = ap is_rule r.is ∙ head_rule (tag_text j ++ rest)

      w : (not (allowed stage 3) ≡ false) × (tagged_fault b j ls ≡ none)
      w = given_none (not (allowed stage 3)) 1 (tagged_fault b j ls) z

      full : (leb b.limits.clauses (length b.clauses) ≡ false) × ((given (eqb j 0 || ltb 65535 j) 39 or_else rule_fault b ls) ≡ none)
      full = given_none (leb b.limits.clauses (length b.clauses)) 20 (given (eqb j 0 || ltb 65535 j) 39 or_else rule_fault b ls) w.1

      range : ((eqb j 0 || ltb 65535 j) ≡ false) × (rule_fault b ls ≡ none)
      range = given_none (eqb j 0 || ltb 65535 j) 39 (rule_fault b ls) full.1

      has : has_tag k (rule_head ++ (tag_text j ++ rest)) ≡ true
      has = ap (has_tag k) (sym r.is) ∙ not_false (has_tag k l) (ap (λ (t : Bool). t && not (has_tag k l)) (sym is_rule_lem) ∙ h)

      tag_is : j ≡ k
      tag_is =
          tag_same j k rest (drop (length (tag_text k)) (tag_text j ++ rest)) (omega (arith, ltb-false 65535 j (or_false_right (eqb j 0) (ltb 65535 j) range.0)))
          (omega (arith, c.high, c.few, leb-false b.limits.clauses (length b.clauses) full.0)) (has_head k (tag_text j ++ rest) has)

      new : line_of (remove_tag k l) ≡ some (says (clause ls))
      new =
          clause_line_lem (remove_tag k l) ls
          (record {
            rest = r.rest;
            words = r.words;
            is = ap (remove_tag k) (r.is ∙ ap (λ (i : ℕ). rule_head ++ (tag_text i ++ rest)) tag_is) ∙ head_remove k rest;
            tail = r.tail;
            literals_are = r.literals_are;
          })

      fine : line_fault a' 1 stage b (says (clause ls)) ≡ none
      fine = rw w.0 range.1
