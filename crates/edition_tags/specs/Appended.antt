-- What is written of a converted text, whether it fits or not.
use Rattle.std.specs.Prelude.{ℕ, ◌+◌, ◌≤◌, ◌≡◌, true, false, ◌++◌, length, take, drop}
use Rattle.std.specs.Prelude.{Option as Answer, Some, None}
use Rattle.std.specs.Borrow.{Bor}
use Rattle.layout.specs.Words.{Bytes, ascii}
use Rattle.editions.specs.Converting.{is_rule, tag_text, tag_line, untag_line, tagged_text, untagged_text}
use Rattle.edition_reader.specs.declared.Edition.{Edition}
use Rattle.edition_reader.specs.declared.Edition.TheVariants.{First, Second}

-- no conversion of a text of 65,536 bytes has more bytes
abbrev pub most_bytes : ℕ
most_bytes = 1048576

-- the text t goes behind the first `at` bytes of the table, where it fits; r counts its bytes in any case
pub record Appended (d₀ : Bytes) (at : ℕ) (t : Bytes) (d : Bytes) (r : ℕ) : Type 0 where
  pub size : length d ≡ length d₀
  pub next : r ≡ at + length t
  pub is : r ≤ length d₀ → take r d ≡ take at d₀ ++ t

-- what stands behind `(rule`, where a line begins so
abbrev pub RuleRest : Bytes → Answer (Bor Bytes) → Type 0
RuleRest l None = is_rule l ≡ false
RuleRest l (Some r) = (is_rule l ≡ true) × (r.now ≡ drop 5 l) × (length r.now + 5 ≡ length l)

-- ---- by the edition that a text is converted to
-- a rule form by what stands behind its `(rule`
abbrev pub rule_to : Edition → ℕ → Bytes → Bytes
rule_to First k r = ascii "(rule" ++ drop (length (tag_text k)) r
rule_to Second k r = ascii "(rule" ++ (tag_text k ++ r)

abbrev pub line_to : Edition → ℕ → Bytes → Bytes
line_to First k l = untag_line k l
line_to Second k l = tag_line k l

abbrev pub heading_to : Edition → Bytes
heading_to First = ascii "(book 1)"
heading_to Second = ascii "(book 2)"

abbrev pub text_to : Edition → Bytes → Bytes
text_to First s = untagged_text s
text_to Second s = tagged_text s
