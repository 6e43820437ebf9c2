-- The lines of both editions. Paper 02, wishes 10 and 13.
use Rattle.std.specs.Prelude.{ℕ, true, cond, List, [], ◌∷◌}
use Rattle.std.proofs.Math.Option.{Option, none, some}
use Rattle.qbf.specs.Formula.{Literal}
use Rattle.layout.specs.Words.{Bytes, ascii, space, split, same, number, closed, inside}
use Rattle.layout.specs.Forms.{then, items, Form, clause, rule_word, one_word, form_from}

-- what a line says: a form of the first edition, a rule with its tag, or exactly one of some literals
pub data Line : Type 0 where
  says : Form → Line
  tagged : ℕ → List Literal → Line
  one : List Literal → Line

abbrev pub tag_word : Bytes
tag_word = ascii "(tag"

abbrev pub said : Form → Option Line
said f = some (says f)

abbrev pub exactly_one_line : List Literal → Option Line
exactly_one_line ls = some (one ls)

abbrev pub rule_line : List Literal → Option Line
rule_line ls = some (says (clause ls))

abbrev pub tagged_line : Option ℕ → Option (List Literal) → Option Line
tagged_line none o = none
tagged_line (some k) none = none
tagged_line (some k) (some ls) = some (tagged k ls)

-- "every rule form has a tag in front of its literals, as `(rule (tag 17) 3 4)`": the words after the keyword
unfoldable pub rule_from : List Bytes → Option Line
rule_from [] = rule_line []
rule_from (w ∷ []) = then (items true (w ∷ [])) rule_line
rule_from (w ∷ v ∷ ws) = cond (same w tag_word) (tagged_line (then (closed v) number) (items true ws)) (then (items true (w ∷ v ∷ ws)) rule_line)

-- "Accept the form `(one 1 2 3)`"; a literal may be `(no N)`
unfoldable pub line_from : List Bytes → Option Line
line_from [] = none
line_from (w ∷ ws) = cond (same w rule_word) (rule_from ws) (cond (same w one_word) (then (items true ws) exactly_one_line) (then (form_from (w ∷ ws)) said))

unfoldable pub line_of : Bytes → Option Line
line_of l = then (inside l) (λ s. line_from (split space s))
