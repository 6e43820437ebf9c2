-- A book that is written is read back, and two books have equal texts exactly if they are equal. Paper 02, wish 2.
use Prim.Native.Nat.{ℕ, suc, ◌<◌, ◌≤◌, max}
use mathlib.Core.Path.{◌≡◌, refl, sym, ap, ◌∙◌, subst}
use mathlib.Core.Logic.{◌⊎◌, ◌↔◌, inl, inr}
use mathlib.Core.Bool.{Bool, true, false, cond, not, ◌&&◌, true≢false, false≢true}
use mathlib.Core.List.{List, [], ◌∷◌, ◌++◌, map, append_assoc, map-append, append-nil}
use mathlib.Core.Option.{none}
use native.Mathlib.Omega.{arith}
use borrow.Author.Tests.{le-leb, leb-true}
use lib.IntN.{pos}
use lib.ListN.{length, length-append}
use lib.Dec.{eqb, leb}
use Rattle.qbf.specs.Formula.{Limits, highest, Quantifier, free, exists, forall, is_free, same_quantifier, Prefix, quantifiers, number_of, Clause, Formula, any, all, place}
use Rattle.qbf.specs.Card.{Mem}
use Rattle.qbf.specs.Calls.{rule_fault, clause_of, clause_ok, in_order, numbers_are_ok, no_free, free_first, formula_is_ok}
use Rattle.theory.proofs.Basics.{and_left, and_right, and_both, all→, →all}
use Rattle.theory.proofs.Game.{Rising}
use Rattle.theory.proofs.WellFormed.{FormulaFacts, formula_facts, facts_formula, capacity, numbers_capped, clauses_capped, numbers_ok, clause_count_lem, each_clause, clauses_rising}
use Rattle.theory.proofs.Prefixes.{numbers, fine}
use Rattle.layout.specs.Forms.{Form, book, block, clause, end}
use Rattle.layout.specs.Opening.{text_bytes, variable, declare_fault, line_fault, Opened, opened, empty_formula, open_text}
use Rattle.booktext.specs.Texts.{read_text, read_forms}
use Rattle.booktext.specs.Books.{blocks_from, blocks, rule_forms, book_forms, book_text}
use Rattle.booktext_laws.proofs.Lines.{Short, Legible}
use Rattle.booktext_laws.proofs.Texts.{AllLegible, legible_append, forms_read, form_read, text_fits}
use Rattle.booktext_laws.proofs.Declared.{Roomy, declare_none, formed_roomy, declared_range, rule_none}

abbrev formula : Limits → Prefix → List Clause → Formula
formula L D R = record { limits = L; prefix = D; clauses = R }

-- ---- groups
pub same_is : (κ λ' : Quantifier) → same_quantifier κ λ' ≡ true → κ ≡ λ'
same_is free free e = refl
same_is free exists e = absurd (false≢true e)
same_is free forall e = absurd (false≢true e)
same_is exists free e = absurd (false≢true e)
same_is exists exists e = refl
same_is exists forall e = absurd (false≢true e)
same_is forall free e = absurd (false≢true e)
same_is forall exists e = absurd (false≢true e)
same_is forall forall e = refl

-- what may follow a group: after flags, flags first; after another, no flag
abbrev Follows : Quantifier → List Quantifier → Type 0
Follows free ks = free_first ks ≡ true
Follows exists ks = no_free ks ≡ true
Follows forall ks = no_free ks ≡ true

follows_same : (κ : Quantifier) (ks : List Quantifier) → Follows κ (κ ∷ ks) → Follows κ ks
follows_same free ks h = h
follows_same exists ks h = h
follows_same forall ks h = h

-- another kind follows: it is no flag, and no flag comes after it
follows_other : (κ μ : Quantifier) (ks : List Quantifier) → same_quantifier κ μ ≡ false → Follows κ (μ ∷ ks) → (is_free μ ≡ false) × Follows μ ks
follows_other free free ks e h = absurd (true≢false e)
follows_other free exists ks e h = (refl, h)
follows_other free forall ks e h = (refl, h)
follows_other exists free ks e h = absurd (false≢true h)
follows_other exists exists ks e h = absurd (true≢false e)
follows_other exists forall ks e h = (refl, h)
follows_other forall free ks e h = absurd (false≢true h)
follows_other forall exists ks e h = (refl, h)
follows_other forall forall ks e h = absurd (true≢false e)

-- the stage at which a group may stand
abbrev stage_of : Quantifier → ℕ
stage_of free = 1
stage_of exists = 2
stage_of forall = 2

stage_other : (μ : Quantifier) → is_free μ ≡ false → stage_of μ ≡ 2
stage_other free e = absurd (true≢false e)
stage_other exists e = refl
stage_other forall e = refl

block_read : (n : ℕ) (κ : Quantifier) (L : Limits) (D : Prefix) (ns : List ℕ) (fs : List Form) → declare_fault L κ D ns ≡ none
    → read_forms n (stage_of κ) (formula L D []) (block κ ns ∷ fs) ≡ read_forms (suc n) 2 (formula L (D ++ map (variable κ) ns) []) fs
block_read n free L D ns fs q = form_read n 1 (formula L D []) (block free ns) fs q refl
block_read n exists L D ns fs q = form_read n 2 (formula L D []) (block exists ns) fs q refl
block_read n forall L D ns fs q = form_read n 2 (formula L D []) (block forall ns) fs q refl

-- The groups are read as the prefix W that they were written from: what follows them is read with all of it, whatever its lines' numbers.
module _ (L : Limits) (W : Prefix) (ok : numbers_are_ok L [] W ≡ true) (room : (κ : Quantifier) → Roomy κ W) (fs : List Form) (o : Opened) (k : (m : ℕ) → read_forms m 2 (formula L W []) fs ≡ o) where
  blocks_read : (κ : Quantifier) (D : Prefix) (ns : List ℕ) (E : Prefix) → D ++ (map (variable κ) ns ++ E) ≡ W → Follows κ (quantifiers E)
      → (n : ℕ) → read_forms n (stage_of κ) (formula L D []) (blocks_from κ ns E ++ fs) ≡ o
  blocks_read κ D ns [] e g n =
      block_read n κ L D ns fs (declare_none L κ D ns [] (rw e ok) (λ D' m E' q. room κ D' m E' (q ∙ e)))
      ∙ ap (λ (l : Prefix). read_forms (suc n) 2 (formula L l []) fs) (ap (λ (l : Prefix). D ++ l) (sym (append-nil (map (variable κ) ns))) ∙ e)
      ∙ k (suc n)
  blocks_read κ D ns (d ∷ E) e g n =
      by (same_quantifier κ d.quantifier) refl
      (λ a b. blocks_read κ D (ns ++ (d.number ∷ [])) E a b n)
      (λ a b. blocks_read d.quantifier (D ++ map (variable κ) ns) (d.number ∷ []) E a b (suc n))
    where
      onward : Prefix
      onward = map (variable κ) ns

      by : (t : Bool) → same_quantifier κ d.quantifier ≡ t
          → (D ++ (map (variable κ) (ns ++ (d.number ∷ [])) ++ E) ≡ W → Follows κ (quantifiers E) → read_forms n (stage_of κ) (formula L D []) (blocks_from κ (ns ++ (d.number ∷ [])) E ++ fs) ≡ o)
          → ((D ++ onward) ++ (d ∷ E) ≡ W → Follows d.quantifier (quantifiers E) → read_forms (suc n) (stage_of d.quantifier) (formula L (D ++ onward) []) (blocks_from d.quantifier (d.number ∷ []) E ++ fs) ≡ o)
          → read_forms n (stage_of κ) (formula L D []) (cond t (blocks_from κ (ns ++ (d.number ∷ [])) E) (block κ ns ∷ blocks_from d.quantifier (d.number ∷ []) E) ++ fs) ≡ o
      by true q same other = same (ap (λ (l : Prefix). D ++ l) longer ∙ e) (follows_same κ (quantifiers E) (subst (λ (x : Quantifier). Follows κ (x ∷ quantifiers E)) (sym q_is) g))
        where
          q_is : κ ≡ d.quantifier
          q_is = same_is κ d.quantifier q

          longer : map (variable κ) (ns ++ (d.number ∷ [])) ++ E ≡ onward ++ (d ∷ E)
          longer =
              ap (λ (l : Prefix). l ++ E) (map-append (variable κ) ns (d.number ∷ [])) ∙ append_assoc onward (variable κ d.number ∷ []) E
              ∙ ap (λ (x : Quantifier). onward ++ (variable x d.number ∷ E)) q_is
      by false q same other =
          let f = follows_other κ d.quantifier (quantifiers E) q g in
          block_read n κ L D ns (blocks_from d.quantifier (d.number ∷ []) E ++ fs) (declare_none L κ D ns (d ∷ E) (rw e ok) (λ D' m E' q. room κ D' m E' (q ∙ e)))
          ∙ ap (λ (s : ℕ). read_forms (suc n) s (formula L (D ++ onward) []) (blocks_from d.quantifier (d.number ∷ []) E ++ fs)) (sym (stage_other d.quantifier f.0))
          ∙ other (append_assoc D onward (d ∷ E) ∙ e) f.1

-- ---- rules
rules_read : (L : Limits) (D : Prefix) → numbers_are_ok L [] D ≡ true → (R S : List Clause) → all (clause_ok L D) S ≡ true → length (R ++ S) ≤ L.clauses
    → (stage : ℕ) → (stage ≡ 2) ⊎ (stage ≡ 3) → (n : ℕ) → read_forms n stage (formula L D R) (rule_forms S ++ (end ∷ [])) ≡ opened (formula L D (R ++ S))
unfolding read_forms
rules_read L D ok R [] h few stage (inl p) n = rw (p, append-nil R)
rules_read L D ok R [] h few stage (inr p) n = rw (p, append-nil R)
rules_read L D ok R (r ∷ S) h few stage t n =
    form_read n stage (formula L D R) (clause r) (rule_forms S ++ (end ∷ [])) (here t) refl
    ∙ ap (λ (c : Clause). read_forms (suc n) 3 (formula L D (R ++ (c ∷ []))) (rule_forms S ++ (end ∷ []))) w.1
    ∙ rules_read L D ok (R ++ (r ∷ [])) S (and_right (clause_ok L D r) (all (clause_ok L D) S) h) (rw (append_assoc R (r ∷ []) S) few) 3 (inr refl) (suc n)
    ∙ ap (λ (l : List Clause). opened (formula L D l)) (append_assoc R (r ∷ []) S)
  where
    w : (rule_fault (formula L D R) r ≡ none) × (clause_of D r ≡ r)
    w = rule_none (formula L D R) r ok (and_left (clause_ok L D r) (all (clause_ok L D) S) h) (omega (arith, few, length-append R (r ∷ S)))

    here : (stage ≡ 2) ⊎ (stage ≡ 3) → line_fault stage (formula L D R) (clause r) ≡ none
    here (inl p) = subst (λ (s : ℕ). line_fault s (formula L D R) (clause r) ≡ none) (sym p) w.0
    here (inr p) = subst (λ (s : ℕ). line_fault s (formula L D R) (clause r) ≡ none) (sym p) w.0

-- ---- legible
-- numbers have at most 5 digits, as in the paper's texts
abbrev pub ShortNumbers : Limits → Type 0
ShortNumbers L = L.numbers < 100000

short_append : (ns : List ℕ) (n : ℕ) → Short (map pos ns) → n < 100000 → Short (map pos (ns ++ (n ∷ [])))
short_append [] n h g = (g, tt)
short_append (m ∷ ns) n h g = (h.0, short_append ns n h.1 g)

group_more : (κ : Quantifier) (ns : List ℕ) (n : ℕ) → Legible (block κ ns) → n < 100000 → Legible (block κ (ns ++ (n ∷ [])))
group_more free ns n h g = short_append ns n h g
group_more exists ns n h g = (short_append ns n h.0 g, omega (arith, length-append ns (n ∷ [])))
group_more forall ns n h g = (short_append ns n h.0 g, omega (arith, length-append ns (n ∷ [])))

group_new : (κ : Quantifier) (n : ℕ) → n < 100000 → Legible (block κ (n ∷ []))
group_new free n g = (g, tt)
group_new exists n g = ((g, tt), omega arith)
group_new forall n g = ((g, tt), omega arith)

blocks_legible : (κ : Quantifier) (ns : List ℕ) (E : Prefix) → Legible (block κ ns) → ((n : ℕ) → Mem n (numbers E) → n < 100000) → AllLegible (blocks_from κ ns E)
blocks_legible κ ns [] h g = (h, tt)
blocks_legible κ ns (d ∷ E) h g =
    by (same_quantifier κ d.quantifier) (blocks_legible κ (ns ++ (d.number ∷ [])) E (group_more κ ns d.number h (g d.number (inl refl))) (λ n m. g n (inr m)))
    (blocks_legible d.quantifier (d.number ∷ []) E (group_new d.quantifier d.number (g d.number (inl refl))) (λ n m. g n (inr m)))
  where
    by : (t : Bool) → AllLegible (blocks_from κ (ns ++ (d.number ∷ [])) E) → AllLegible (blocks_from d.quantifier (d.number ∷ []) E)
        → AllLegible (cond t (blocks_from κ (ns ++ (d.number ∷ [])) E) (block κ ns ∷ blocks_from d.quantifier (d.number ∷ []) E))
    by true a c = a
    by false a c = (h, c)

module _ (L : Limits) (D : Prefix) (ok : numbers_are_ok L [] D ≡ true) (short : ShortNumbers L) where
  clause_short : (d : ℕ) (r : Clause) → Rising D d r → Short r
  clause_short d [] up = tt
  clause_short d (l ∷ r) up = (omega (arith, short, (declared_range L D ok (number_of l) (omega (arith, up.0))).1), clause_short (place D l) r up.1)

  rules_legible : (R : List Clause) → ((r : Clause) → Mem r R → Rising D 0 r) → AllLegible (rule_forms R ++ (end ∷ []))
  rules_legible [] h = (tt, tt)
  rules_legible (r ∷ R) h = (clause_short 0 r (h r (inl refl)), rules_legible R (λ s m. h s (inr m)))

-- ---- the book
module _ (b : Formula) (ok : formula_is_ok b ≡ true) (short : ShortNumbers b.limits) where
  abbrev ready : FormulaFacts b
  ready = formula_facts b ok

  pub book_legible : AllLegible (book_forms b)
  unfolding book_forms
  book_legible = (
    omega arith,
    legible_append (blocks b.prefix) (rule_forms b.clauses ++ (end ∷ []))
        (blocks_legible free [] b.prefix tt (λ n m. omega (arith, short, ((fine b.limits [] b.prefix (numbers_ok b ready)).ranged n m).1)))
        (rules_legible b.limits b.prefix (numbers_ok b ready) short b.clauses (clauses_rising b ready)),
  )

  book_forms_lem : read_forms 1 0 (empty_formula b.limits) (book_forms b) ≡ opened b
  unfolding book_forms
  book_forms_lem =
      form_read 1 0 (empty_formula b.limits) (book 1) (blocks b.prefix ++ (rule_forms b.clauses ++ (end ∷ []))) refl refl
      ∙ blocks_read b.limits b.prefix (numbers_ok b ready)
      (λ κ. formed_roomy κ b.prefix (and_right (numbers_are_ok b.limits [] b.prefix) (free_first (quantifiers b.prefix)) ready.prefix_ok) ready.free_ok) (rule_forms b.clauses ++ (end ∷ [])) (opened b)
      (λ m. rules_read b.limits b.prefix (numbers_ok b ready) [] b.clauses (each_clause b ready) (clause_count_lem b ready) 2 (inl refl) m)
      free [] [] b.prefix refl (and_right (numbers_are_ok b.limits [] b.prefix) (free_first (quantifiers b.prefix)) ready.prefix_ok) 2

  -- "Reading the text gives the same variables, places, kinds and rules": over a reader without 9
  pub read_back : read_text b.limits (book_text b) ≡ opened b
  unfolding read_text book_text
  read_back = forms_read 1 0 (empty_formula b.limits) (book_forms b) book_legible ∙ book_forms_lem

  -- and of a text that fits
  pub open_back : length (book_text b) ≤ text_bytes → open_text b.limits (book_text b) ≡ opened b
  open_back h = text_fits b.limits (book_text b) h ∙ read_back

-- ---- equal texts
-- a text says nothing of the limits: of two books each may have its own
pub record SameBook (b c : Formula) : Type 0 where
  -- "the same flags in order, the same kinds and places"
  pub prefix : b.prefix ≡ c.prefix
  -- "and the same rules in order"
  pub clauses : b.clauses ≡ c.clauses

-- the same book under higher limits
abbrev under : Limits → Formula → Formula
under M b = formula M b.prefix b.clauses

record Within (L M : Limits) : Type 0 where
  numbers_within : L.numbers ≤ M.numbers
  clauses_within : L.clauses ≤ M.clauses
  literals_within : L.literals ≤ M.literals
  constraints_within : L.constraints ≤ M.constraints
  numbers_capped_within : M.numbers ≤ highest.numbers
  clauses_capped_within : M.clauses ≤ highest.clauses

module _ (L M : Limits) (w : Within L M) where
  within_numbers : (seen : List ℕ) (D : Prefix) → numbers_are_ok L seen D ≡ true → numbers_are_ok M seen D ≡ true
  within_numbers seen [] h = refl
  within_numbers seen (d ∷ D) h =
      and_both (leb 1 d.number && leb d.number M.numbers && new) (numbers_are_ok M (d.number ∷ seen) D)
      (and_both (leb 1 d.number && leb d.number M.numbers) new
      (and_both (leb 1 d.number) (leb d.number M.numbers) (and_left (leb 1 d.number) (leb d.number L.numbers) range)
      (le-leb d.number M.numbers (omega (arith, w.numbers_within, leb-true d.number L.numbers (and_right (leb 1 d.number) (leb d.number L.numbers) range)))))
      (and_right (leb 1 d.number && leb d.number L.numbers) new own))
      (within_numbers (d.number ∷ seen) D (and_right (leb 1 d.number && leb d.number L.numbers && new) (numbers_are_ok L (d.number ∷ seen) D) h))
    where
      new : Bool
      new = not (any (eqb d.number) seen)

      own : (leb 1 d.number && leb d.number L.numbers && new) ≡ true
      own = and_left (leb 1 d.number && leb d.number L.numbers && new) (numbers_are_ok L (d.number ∷ seen) D) h

      range : (leb 1 d.number && leb d.number L.numbers) ≡ true
      range = and_left (leb 1 d.number && leb d.number L.numbers) new own

  within_clause : (D : Prefix) (r : Clause) → clause_ok L D r ≡ true → clause_ok M D r ≡ true
  within_clause D r h =
      and_both (leb 1 (length r) && leb (length r) M.literals) (in_order D 0 r)
      (and_both (leb 1 (length r)) (leb (length r) M.literals) (and_left (leb 1 (length r)) (leb (length r) L.literals) sized)
      (le-leb (length r) M.literals (omega (arith, w.literals_within, leb-true (length r) L.literals (and_right (leb 1 (length r)) (leb (length r) L.literals) sized)))))
      (and_right (leb 1 (length r) && leb (length r) L.literals) (in_order D 0 r) h)
    where
      sized : (leb 1 (length r) && leb (length r) L.literals) ≡ true
      sized = and_left (leb 1 (length r) && leb (length r) L.literals) (in_order D 0 r) h

  within_formula : (D : Prefix) (R : List Clause) → FormulaFacts (formula L D R) → FormulaFacts (formula M D R)
  within_formula D R h =
      record {
        limits_ok =
            and_both (leb 1 M.constraints) (leb M.numbers highest.numbers && leb M.clauses highest.clauses)
            (le-leb 1 M.constraints (omega (arith, w.constraints_within, capacity (formula L D R) h)))
            (and_both (leb M.numbers highest.numbers) (leb M.clauses highest.clauses) (le-leb M.numbers highest.numbers w.numbers_capped_within) (le-leb M.clauses highest.clauses w.clauses_capped_within));
        free_ok = h.free_ok;
        prefix_ok = and_both (numbers_are_ok M [] D) (free_first (quantifiers D)) (within_numbers [] D (and_left (numbers_are_ok L [] D) (free_first (quantifiers D)) h.prefix_ok)) (and_right (numbers_are_ok L [] D) (free_first (quantifiers D)) h.prefix_ok);
        clauses_ok =
            and_both (leb (length R) M.clauses) (all (clause_ok M D) R)
            (le-leb (length R) M.clauses (omega (arith, w.clauses_within, leb-true (length R) L.clauses (and_left (leb (length R) L.clauses) (all (clause_ok L D) R) h.clauses_ok))))
            (→all (clause_ok M D) R (λ r m. within_clause D r (all→ (clause_ok L D) R (and_right (leb (length R) L.clauses) (all (clause_ok L D) R) h.clauses_ok) r m)));
      }

abbrev higher : Limits → Limits → Limits
higher L M = record { numbers = max L.numbers M.numbers; clauses = max L.clauses M.clauses; literals = max L.literals M.literals; constraints = max L.constraints M.constraints }

under_read : (M : Limits) (b : Formula) → formula_is_ok b ≡ true → Within b.limits M → ShortNumbers M → read_text M (book_text b) ≡ opened (under M b)
unfolding book_text book_forms
under_read M b ok w short = read_back (under M b) (facts_formula (under M b) (within_formula b.limits M w b.prefix b.clauses (formula_facts b ok))) short

opened_same : (b c : Formula) → opened b ≡ opened c → b ≡ c
opened_same b c e = cc

module _ (b c : Formula) (b_ok : formula_is_ok b ≡ true) (c_ok : formula_is_ok c ≡ true) (b_short : ShortNumbers b.limits) (c_short : ShortNumbers c.limits) where
  text_same : book_text b ≡ book_text c → SameBook b c
  text_same e = record { prefix = ap (λ (x : Formula). x.prefix) (opened_same (under M b) (under M c) both); clauses = ap (λ (x : Formula). x.clauses) (opened_same (under M b) (under M c) both) }
    where
      M : Limits
      M = higher b.limits c.limits

      numbers_most : M.numbers ≤ highest.numbers
      numbers_most = omega (arith, numbers_capped b (formula_facts b b_ok), numbers_capped c (formula_facts c c_ok))

      clauses_most : M.clauses ≤ highest.clauses
      clauses_most = omega (arith, clauses_capped b (formula_facts b b_ok), clauses_capped c (formula_facts c c_ok))

      both : opened (under M b) ≡ opened (under M c)
      both =
          sym (under_read M b b_ok (record { numbers_within = omega arith; clauses_within = omega arith; literals_within = omega arith; constraints_within = omega arith; numbers_capped_within = numbers_most; clauses_capped_within = clauses_most }) (omega (arith, b_short, c_short)))
          ∙ ap (read_text M) e
          ∙ under_read M c c_ok (record { numbers_within = omega arith; clauses_within = omega arith; literals_within = omega arith; constraints_within = omega arith; numbers_capped_within = numbers_most; clauses_capped_within = clauses_most }) (omega (arith, b_short, c_short))

  same_text : SameBook b c → book_text b ≡ book_text c
  unfolding book_text book_forms
  same_text s = rw (s.prefix, s.clauses)

  -- "Two books that are not refused give equal texts exactly when they have the same flags in order, the same kinds and places, and the
  -- same rules in order."
  pub equal_texts : (book_text b ≡ book_text c) ↔ SameBook b c
  equal_texts = (text_same, same_text)
