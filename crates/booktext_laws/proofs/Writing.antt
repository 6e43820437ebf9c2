-- The text of a book as code writes it, from left to right.
use Prim.Native.Nat.{ℕ}
use mathlib.Core.Path.{◌≡◌, refl, sym, ap, ◌∙◌}
use mathlib.Core.Bool.{Bool, true, false, cond}
use mathlib.Core.List.{List, [], ◌∷◌, ◌++◌, map, append_assoc, append-nil, map-append}
use lib.IntN.{pos}
use Rattle.qbf.specs.Formula.{Quantifier, free, same_quantifier, Prefix, Literal, Clause, Formula}
use Rattle.layout.specs.Words.{Bytes, ascii, space, opening}
use Rattle.layout.specs.Forms.{Form, book, block, clause, end}
use Rattle.layout.specs.Output.{last_digits, decimal, literal_text, items_text}
use Rattle.booktext.specs.Texts.{block_word, body_text, line_of, form_text, forms_text}
use Rattle.booktext.specs.Books.{blocks_from, blocks, rule_forms, book_forms, book_text, heading_text, variable_text, rest_text, rule_text, rules_text, written_text}
use Rattle.booktext_laws.proofs.Texts.{forms_append}
use Rattle.booktext_laws.proofs.Books.{same_is}

items_append : (ls ms : List Literal) → items_text (ls ++ ms) ≡ items_text ls ++ items_text ms
unfolding items_text
items_append [] ms = refl
items_append (l ∷ ls) ms = ap (λ (t : Bytes). (space ∷ literal_text l) ++ t) (items_append ls ms) ∙ sym (append_assoc (space ∷ literal_text l) (items_text ls) (items_text ms))

-- a line of the kind κ with its first numbers
abbrev open_line : Quantifier → List ℕ → Bytes
open_line κ ns = (opening ∷ block_word κ) ++ items_text (map pos ns)

one_more : (κ : Quantifier) (ns : List ℕ) (n : ℕ) → open_line κ (ns ++ (n ∷ [])) ≡ open_line κ ns ++ (space ∷ decimal n)
unfolding items_text literal_text
one_more κ ns n = simp (map-append, items_append, append_assoc, append-nil)

no_number : (κ : Quantifier) → open_line κ [] ≡ opening ∷ block_word κ
unfolding items_text
no_number κ = append-nil (opening ∷ block_word κ)

-- a whole line
form_closed : (f : Form) → form_text f ≡ (opening ∷ body_text f) ++ ascii ")\n"
unfolding form_text line_of
form_closed f = simp append_assoc

block_closed : (κ : Quantifier) (ns : List ℕ) → form_text (block κ ns) ≡ open_line κ ns ++ ascii ")\n"
unfolding body_text
block_closed κ ns = form_closed (block κ ns)

blocks_text : (κ : Quantifier) (ns : List ℕ) (E : Prefix) → forms_text (blocks_from κ ns E) ≡ open_line κ ns ++ rest_text κ E
unfolding forms_text rest_text variable_text heading_text
blocks_text κ ns [] = append-nil (form_text (block κ ns)) ∙ block_closed κ ns
blocks_text κ ns (d ∷ E) =
    by (same_quantifier κ d.quantifier) refl (blocks_text κ (ns ++ (d.number ∷ [])) E) (blocks_text d.quantifier (d.number ∷ []) E)
  where
    more : Bytes
    more = space ∷ decimal d.number

    heading : Bytes
    heading = ascii ")\n(" ++ block_word d.quantifier

    after : Bytes
    after = rest_text d.quantifier E

    first : open_line d.quantifier (d.number ∷ []) ≡ (opening ∷ block_word d.quantifier) ++ more
    first = one_more d.quantifier [] d.number ∙ ap (λ (t : Bytes). t ++ more) (no_number d.quantifier)

    by : (t : Bool) → same_quantifier κ d.quantifier ≡ t
        → forms_text (blocks_from κ (ns ++ (d.number ∷ [])) E) ≡ open_line κ (ns ++ (d.number ∷ [])) ++ rest_text κ E
        → forms_text (blocks_from d.quantifier (d.number ∷ []) E) ≡ open_line d.quantifier (d.number ∷ []) ++ after
        → forms_text (cond t (blocks_from κ (ns ++ (d.number ∷ [])) E) (block κ ns ∷ blocks_from d.quantifier (d.number ∷ []) E))
        ≡ open_line κ ns ++ (cond t more (heading ++ more) ++ after)
    by true q same other =
        same ∙ ap (λ (t : Bytes). t ++ rest_text κ E) (one_more κ ns d.number) ∙ append_assoc (open_line κ ns) more (rest_text κ E)
        ∙ ap (λ (μ : Quantifier). open_line κ ns ++ (more ++ rest_text μ E)) (same_is κ d.quantifier q)
    by false q same other =
        ap (λ (t : Bytes). form_text (block κ ns) ++ t) (other ∙ ap (λ (t : Bytes). t ++ after) first)
        ∙ ap (λ (t : Bytes). t ++ (((opening ∷ block_word d.quantifier) ++ more) ++ after)) (block_closed κ ns)
        ∙ append_assoc (open_line κ ns) (ascii ")\n") (((opening ∷ block_word d.quantifier) ++ more) ++ after)

rule_is : (r : Clause) → form_text (clause r) ≡ rule_text r
unfolding body_text rule_text
rule_is r = form_closed (clause r)

end_is : form_text end ++ [] ≡ ascii "(end)\n"
unfolding form_text line_of body_text
end_is = refl

rules_text_lem : (R : List Clause) → forms_text (rule_forms R ++ (end ∷ [])) ≡ rules_text R ++ ascii "(end)\n"
unfolding forms_text rules_text
rules_text_lem [] = end_is
rules_text_lem (r ∷ R) = ap (λ (t : Bytes). form_text (clause r) ++ t) (rules_text_lem R) ∙ ap (λ (t : Bytes). t ++ (rules_text R ++ ascii "(end)\n")) (rule_is r) ∙ sym (append_assoc (rule_text r) (rules_text R) (ascii "(end)\n"))

head_is : (s t : Bytes) → form_text (book 1) ++ ((open_line free [] ++ s) ++ t) ≡ ascii "(book 1)\n(flags" ++ (s ++ t)
unfolding form_text line_of body_text items_text literal_text decimal last_digits
head_is s t = refl

-- what code writes is the text of the book
pub written_as : (b : Formula) → book_text b ≡ written_text b
unfolding book_text book_forms written_text forms_text
written_as b =
    ap (λ (t : Bytes). form_text (book 1) ++ t) (forms_append (blocks b.prefix) (rule_forms b.clauses ++ (end ∷ [])))
    ∙ ap (λ (t : Bytes). form_text (book 1) ++ (t ++ forms_text (rule_forms b.clauses ++ (end ∷ [])))) (blocks_text free [] b.prefix)
    ∙ ap (λ (t : Bytes). form_text (book 1) ++ ((open_line free [] ++ rest_text free b.prefix) ++ t)) (rules_text_lem b.clauses)
    ∙ head_is (rest_text free b.prefix) (rules_text b.clauses ++ ascii "(end)\n")
