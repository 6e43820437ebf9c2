-- WISH 1: what a QDIMACS text opens is what our own reader gives for the translated text.
use Prim.Native.Nat.{ℕ, suc, ◌+◌, ◌≤◌, ◌<◌, zero-le}
use mathlib.Core.Path.{◌≡◌, refl, sym, ap, ◌∙◌, subst}
use mathlib.Core.Logic.{inl, inr}
use mathlib.Core.Bool.{Bool, true, false, cond, true≢false, false≢true}
use mathlib.Core.List.{List, [], ◌∷◌, ◌++◌, map, append_assoc, append-nil, map-append}
use mathlib.Core.Option.{Option, none, some}
use native.Mathlib.Omega.{arith}
use borrow.Author.Tests.{eq-eqb, le-ltb}
use lib.ListN.{length, length-append, length-map}
use lib.Dec.{eqb, ltb}
use Rattle.qbf.specs.Formula.{Limits, most_free, Quantifier, free, exists, forall, is_free, Prefix, quantifiers, Clause, Formula, any}
use Rattle.qbf.specs.Truth.{free_count, free_variables}
use Rattle.qbf.specs.Card.{Mem}
use Rattle.qbf.specs.Calls.{rule_fault, with_rule, clause_of}
use Rattle.theory.proofs.Prefixes.{numbers}
use Rattle.layout.specs.Forms.{Form, book, block, end}
use Rattle.layout.specs.Forms as own
use Rattle.layout.specs.Opening.{rank, stage_after, is_end, variable, with_block, declare_fault, with_form, Opened, refused, opened, refused_or, empty_formula}
use Rattle.layout.specs.Opening as ours
use Rattle.booktext.specs.Texts.{read_forms, at_end_forms}
use Rattle.booktext_laws.proofs.Lines.{Legible}
use Rattle.qdimacs_form.specs.Lines.{Line, comment, header, group, clause}
use Rattle.qdimacs_form.specs.Opening.{flags_up_to, flag_variables, Reading, whole, line_fault, after, at_end, start}
use Rattle.qdimacs_form.specs.Translation.{count_of, quantified, forms_of, translated, unnumbered, in_the_form, promised_of, clauses_inside, Plain}
use Rattle.qdimacs_laws.proofs.Flags.{flags_most, flags_none, group_lacks, group_same}

abbrev pub formula : Limits → Prefix → List Clause → Formula
formula L D R = record { limits = L; prefix = D; clauses = R }

-- ---- line by line
unfoldable pub read_parsed : ℕ → Reading → List Line → Opened
read_parsed n r [] = at_end n r
read_parsed n r (f ∷ fs) = refused_or n (line_fault r f) (read_parsed (suc n) (after r f) fs)

-- ---- our own forms, each with the number of the line that it comes from
pub record Numbered : Type 0 where
  pub line : ℕ
  pub form : Form

abbrev at : ℕ → Form → Numbered
at n f = record { line = n; form = f }

abbrev pub at_end_numbered : Formula → List Numbered → Opened
at_end_numbered b [] = opened b
at_end_numbered b (x ∷ xs) = refused 1 x.line

unfoldable pub read_numbered : ℕ → Formula → List Numbered → Opened
read_numbered stage b [] = refused 1 0
read_numbered stage b (x ∷ xs) =
    ours.read_line x.line stage b (some x.form) (λ g b'. cond (is_end g) (at_end_numbered b' xs) (read_numbered (stage_after (rank g)) b' xs))

-- the lines from number n on, and the end
abbrev numbered_from : ℕ → List Line → List Numbered
numbered_from n [] = at n end ∷ []
numbered_from n (comment ∷ ls) = numbered_from (suc n) ls
numbered_from n (header v c ∷ ls) = numbered_from (suc n) ls
numbered_from n (group κ ns ∷ ls) = at n (block κ ns) ∷ numbered_from (suc n) ls
numbered_from n (clause l ∷ ls) = at n (own.clause l) ∷ numbered_from (suc n) ls

forms_numbered : (n : ℕ) (ls : List Line) → map (λ x. x.form) (numbered_from n ls) ≡ forms_of ls ++ (end ∷ [])
forms_numbered n [] = refl
forms_numbered n (comment ∷ ls) = forms_numbered (suc n) ls
forms_numbered n (header v c ∷ ls) = forms_numbered (suc n) ls
forms_numbered n (group κ ns ∷ ls) = ap (λ (l : List Form). block κ ns ∷ l) (forms_numbered (suc n) ls)
forms_numbered n (clause l ∷ ls) = ap (λ (fs : List Form). own.clause l ∷ fs) (forms_numbered (suc n) ls)

-- our own reader gives the same but for the numbers of the lines
numbered_read : (n stage : ℕ) (b : Formula) (xs : List Numbered) → unnumbered (read_numbered stage b xs) ≡ unnumbered (read_forms n stage b (map (λ x. x.form) xs))
unfolding read_numbered read_forms
numbered_read n stage b [] = refl
numbered_read n stage b (x ∷ xs) = by (ours.line_fault stage b x.form) (is_end x.form) (numbered_read (suc n) (stage_after (rank x.form)) (with_form b x.form) xs)
  where
    b' : Formula
    b' = with_form b x.form

    fs : List Form
    fs = map (λ y. y.form) xs

    ends : (ys : List Numbered) → unnumbered (at_end_numbered b' ys) ≡ unnumbered (at_end_forms (suc n) b' (map (λ y. y.form) ys))
    ends [] = refl
    ends (y ∷ ys) = refl

    s : ℕ
    s = stage_after (rank x.form)

    by : (o : Option ℕ) (t : Bool) → unnumbered (read_numbered s b' xs) ≡ unnumbered (read_forms (suc n) s b' fs)
        → unnumbered (refused_or x.line o (cond t (at_end_numbered b' xs) (read_numbered s b' xs))) ≡ unnumbered (refused_or n o (cond t (at_end_forms (suc n) b' fs) (read_forms (suc n) s b' fs)))
    by (some k) t h = refl
    by none true h = ends xs
    by none false h = h

-- ---- after the first clause
abbrev pub reading : ℕ → ℕ → ℕ → Formula → Reading
reading s v c b = record { stage = s; variables = v; clauses = c; formula = b }

module _ (v c : ℕ) where
  late_read : (n : ℕ) (b : Formula) (ls : List Line) → ltb most_free (free_variables b.prefix) ≡ false → in_the_form 2 ls ≡ true → length b.clauses + clauses_inside ls ≡ c → read_parsed n (reading 2 v c b) ls ≡ read_numbered 3 b (numbered_from n ls)
  unfolding read_parsed read_numbered
  late_read n b [] room h e = rw (room, eq-eqb (length b.clauses) c (omega (arith, e)))
  late_read n b (comment ∷ ls) room h e = late_read (suc n) b ls room h e
  late_read n b (header x y ∷ ls) room h e = absurd (false≢true h)
  late_read n b (group κ ns ∷ ls) room h e = absurd (false≢true h)
  late_read n b (clause l ∷ ls) room h e =
      ap (refused_or n (rule_fault b l)) (late_read (suc n) (with_rule none b l) ls room h (omega (arith, e, length-append b.clauses (clause_of b.prefix l ∷ []))))

-- ---- what a line that is read can say
-- a group is of exists or forall and has a number, and numbers have at most 5 digits
abbrev pub Spoken : Line → Type 0
Spoken comment = Unit {0}
Spoken (header v c) = v < 100000
Spoken (group κ ns) = (is_free κ ≡ false) × Legible (block κ ns)
Spoken (clause l) = Legible (own.clause l)

abbrev pub AllSpoken : List Line → Type 0
AllSpoken [] = Unit {0}
AllSpoken (f ∷ fs) = Spoken f × AllSpoken fs

-- ---- from the header to the first clause
mem_right : (X E : Prefix) (m : ℕ) → Mem m (numbers E) → Mem m (numbers (X ++ E))
mem_right [] E m q = q
mem_right (x ∷ X) E m q = inr (mem_right X E m q)

mem_group : (κ : Quantifier) (ns : List ℕ) (E : Prefix) (m : ℕ) → Mem m ns → Mem m (numbers (map (variable κ) ns ++ E))
mem_group κ [] E m q = absurd q
mem_group κ (n ∷ ns) E m (inl p) = inl p
mem_group κ (n ∷ ns) E m (inr q) = inr (mem_group κ ns E m q)

group_read : (n : ℕ) (b : Formula) (κ : Quantifier) (ns : List ℕ) (xs : List Numbered) → is_free κ ≡ false
    → read_numbered 2 b (at n (block κ ns) ∷ xs) ≡ refused_or n (declare_fault b.limits κ b.prefix ns) (read_numbered 2 (with_block κ b ns) xs)
unfolding read_numbered
group_read n b free ns xs e = absurd (true≢false e)
group_read n b exists ns xs e = refl
group_read n b forall ns xs e = refl

pub late_groups : (ls : List Line) → in_the_form 2 ls ≡ true → quantified ls ≡ []
late_groups [] h = refl
late_groups (comment ∷ ls) h = late_groups ls h
late_groups (header x y ∷ ls) h = absurd (false≢true h)
late_groups (group κ ns ∷ ls) h = absurd (false≢true h)
late_groups (clause l ∷ ls) h = late_groups ls h

-- Q are the variables of all the groups, D those of the groups before
module _ (L : Limits) (v c : ℕ) (Q : Prefix) (room : ltb most_free (free_variables (flag_variables Q v ++ Q)) ≡ false) where
  abbrev F : Prefix
  F = flag_variables Q v

  -- all groups are read: what a clause is judged on is what our own reader has
  whole_is : (D : Prefix) → D ≡ Q → whole (reading 1 v c (formula L D [])) ≡ formula L (F ++ D) []
  whole_is D e = ap (λ (X : Prefix). formula L (flag_variables X v ++ D) []) e

  -- and there are no more flags than there may be
  room_is : (D : Prefix) → D ≡ Q → ltb most_free (free_variables (F ++ D)) ≡ false
  room_is D e = ap (λ (X : Prefix). ltb most_free (free_variables (F ++ X))) e ∙ room

  early_read : (n : ℕ) (D : Prefix) (ls : List Line) → D ++ quantified ls ≡ Q → in_the_form 1 ls ≡ true → AllSpoken ls → ((m : ℕ) → Mem m (numbers (quantified ls)) → m ≤ v) → clauses_inside ls ≡ c
      → read_parsed n (reading 1 v c (formula L D [])) ls ≡ read_numbered 2 (formula L (F ++ D) []) (numbered_from n ls)
  unfolding read_parsed read_numbered
  early_read n D [] q h sp low e =
      rw (ap (λ (b : Formula). ltb most_free (free_variables b.prefix)) (whole_is D (sym (append-nil D) ∙ q)) ∙ room_is D (sym (append-nil D) ∙ q), eq-eqb 0 c e)
      (ap opened (whole_is D (sym (append-nil D) ∙ q)))
  early_read n D (comment ∷ ls) q h sp low e = early_read (suc n) D ls q h sp.1 low e
  early_read n D (header x y ∷ ls) q h sp low e = absurd (false≢true h)
  early_read n D (group κ ns ∷ ls) q h sp low e =
      ap (λ (o : Option ℕ). refused_or n o (read_parsed (suc n) (reading 1 v c (with_block κ (formula L D []) ns)) ls)) (group_same L v κ sp.0.0 F D ns known)
      ∙ ap (refused_or n (declare_fault L κ (F ++ D) ns))
      (early_read (suc n) (D ++ map (variable κ) ns) ls (append_assoc D (map (variable κ) ns) (quantified ls) ∙ q) h sp.1 (λ m w. low m (mem_right (map (variable κ) ns) (quantified ls) m w)) e
      ∙ ap (λ (X : Prefix). read_numbered 2 (formula L X []) (numbered_from (suc n) ls)) (sym (append_assoc F D (map (variable κ) ns))))
      ∙ sym (group_read n (formula L (F ++ D) []) κ ns (numbered_from (suc n) ls) sp.0.0)
    where
      known : (m : ℕ) → Mem m ns → (m ≤ v) × (any (λ d. eqb m d.number) F ≡ false)
      known m w =
          let g = mem_group κ ns (quantified ls) m w in
          (low m g, group_lacks Q v m (subst (λ (X : Prefix). Mem m (numbers X)) q (mem_right D (map (variable κ) ns ++ quantified ls) m g)))
  early_read n D (clause l ∷ ls) q h sp low e =
      ap (λ (b : Formula). refused_or n (rule_fault b l) (read_parsed (suc n) (reading 2 v c (with_rule none b l)) ls)) (whole_is D (sym (append-nil D) ∙ ap (λ (X : Prefix). D ++ X) (sym (late_groups ls h)) ∙ q))
      ∙ ap (refused_or n (rule_fault (formula L (F ++ D) []) l)) (late_read v c (suc n) (with_rule none (formula L (F ++ D) []) l) ls (room_is D (sym (append-nil D) ∙ ap (λ (X : Prefix). D ++ X) (sym (late_groups ls h)) ∙ q)) h (omega (arith, e)))

-- ---- the header
-- the translated text, each form with the number of the line that it comes from
abbrev numbered_text : ℕ → List Line → List Numbered
numbered_text n ls = at 0 (book 1) ∷ at 0 (block free (flags_up_to (quantified ls) (count_of ls))) ∷ numbered_from n ls

text_forms : (n : ℕ) (ls : List Line) → map (λ x. x.form) (numbered_text n ls) ≡ translated ls
unfolding translated
text_forms n ls = ap (λ (fs : List Form). book 1 ∷ block free (flags_up_to (quantified ls) (count_of ls)) ∷ fs) (forms_numbered n ls)

-- "flags stay at most 40": there are no more of them
abbrev pub FewFlags : List Line → Type 0
FewFlags ls = length (flags_up_to (quantified ls) (count_of ls)) ≤ most_free

-- Under limits of no more numbers than there may be flags that is so of every text.
pub few_under : (L : Limits) → L.numbers ≤ most_free → (ls : List Line) → Plain L ls → FewFlags ls
few_under L low ls p = omega (arith, low, p.few, flags_most (quantified ls) (count_of ls))

-- the flags' line is without a fault
flags_read : (L : Limits) (ls : List Line) → FewFlags ls → (xs : List Numbered) → count_of ls ≤ L.numbers
    → read_numbered 0 (empty_formula L) (at 0 (book 1) ∷ at 0 (block free (flags_up_to (quantified ls) (count_of ls))) ∷ xs) ≡ read_numbered 2 (formula L (flag_variables (quantified ls) (count_of ls)) []) xs
unfolding read_numbered
flags_read L ls most xs few = rw (flags_none L (quantified ls) (count_of ls) most few)

-- groups have no flag
bound_count : (κ : Quantifier) → is_free κ ≡ false → (ns : List ℕ) (E : Prefix) → free_count (quantifiers E) ≡ 0 → free_count (quantifiers (map (variable κ) ns ++ E)) ≡ 0
bound_count κ f [] E e = e
bound_count free f (n ∷ ns) E e = absurd (true≢false f)
bound_count exists f (n ∷ ns) E e = refl
bound_count forall f (n ∷ ns) E e = refl

none_counted : (ls : List Line) → AllSpoken ls → free_count (quantifiers (quantified ls)) ≡ 0
none_counted [] h = refl
none_counted (comment ∷ ls) h = none_counted ls h.1
none_counted (header v c ∷ ls) h = none_counted ls h.1
none_counted (group κ ns ∷ ls) h = bound_count κ h.0.0 ns (quantified ls) (none_counted ls h.1)
none_counted (clause l ∷ ls) h = none_counted ls h.1

count_after : (ks ms : List Quantifier) → free_count (ks ++ ms) ≤ length ks + free_count ms
count_after [] ms = omega arith
count_after (free ∷ ks) ms = omega (arith, count_after ks ms)
count_after (exists ∷ ks) ms = zero-le
count_after (forall ∷ ks) ms = zero-le

few_flags : (Q : Prefix) (v : ℕ) → length (flags_up_to Q v) ≤ most_free → free_count (quantifiers Q) ≡ 0 → ltb most_free (free_variables (flag_variables Q v ++ Q)) ≡ false
few_flags Q v h e =
    le-ltb most_free (free_variables (flag_variables Q v ++ Q))
    (omega (
      arith,
      h,
      e,
      length-map (flags_up_to Q v) (variable free),
      length-map (flag_variables Q v) (λ d. d.quantifier),
      count_after (quantifiers (flag_variables Q v)) (quantifiers Q),
      ap free_count (map-append (λ d. d.quantifier) (flag_variables Q v) Q),
    ))

header_read : (L : Limits) (n : ℕ) (ls : List Line) → FewFlags ls → in_the_form 0 ls ≡ true → AllSpoken ls → count_of ls ≤ L.numbers → ((m : ℕ) → Mem m (numbers (quantified ls)) → m ≤ count_of ls) → clauses_inside ls ≡ promised_of ls
    → read_parsed n (start L) ls ≡ read_numbered 2 (formula L (flag_variables (quantified ls) (count_of ls)) []) (numbered_from n ls)
unfolding read_parsed
header_read L n [] most h sp few low e = absurd (false≢true h)
header_read L n (comment ∷ ls) most h sp few low e = header_read L (suc n) ls most h sp.1 few low e
header_read L n (header v c ∷ ls) most h sp few low e =
    rw (le-ltb L.numbers v few)
    (early_read L v c (quantified ls) (few_flags (quantified ls) v most (none_counted ls sp.1)) (suc n) [] ls refl h sp.1 low e ∙ ap (λ (X : Prefix). read_numbered 2 (formula L X []) (numbered_from (suc n) ls)) (append-nil (flag_variables (quantified ls) v)))
header_read L n (group κ ns ∷ ls) most h sp few low e = absurd (false≢true h)
header_read L n (clause l ∷ ls) most h sp few low e = absurd (false≢true h)

-- Line by line, with the numbers of the QDIMACS lines: the same result, the same refusal at the line that it comes from. With a flag too many a QDIMACS text is
-- refused at its end, and our own at the flags' line.
pub plain_read : (L : Limits) (n : ℕ) (ls : List Line) → AllSpoken ls → Plain L ls → FewFlags ls → read_parsed n (start L) ls ≡ read_numbered 0 (empty_formula L) (numbered_text n ls)
plain_read L n ls sp p most = header_read L n ls most p.in_form sp p.few p.bounded p.counted ∙ sym (flags_read L ls most (numbered_from n ls) p.few)

pub plain_forms : (L : Limits) (n : ℕ) (ls : List Line) → AllSpoken ls → Plain L ls → FewFlags ls → unnumbered (read_parsed n (start L) ls) ≡ unnumbered (read_forms 1 0 (empty_formula L) (translated ls))
plain_forms L n ls sp p most =
    ap unnumbered (plain_read L n ls sp p most) ∙ numbered_read 1 0 (empty_formula L) (numbered_text n ls) ∙ ap (λ (fs : List Form). unnumbered (read_forms 1 0 (empty_formula L) fs)) (text_forms n ls)
