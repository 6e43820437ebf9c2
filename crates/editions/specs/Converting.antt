-- Converting a text from one edition into the other. Paper 02, wish 13.
use Rattle.std.specs.Prelude.{ℕ, suc, ◌+◌, ◌-◌, Bool, cond, not, ◌&&◌, ◌||◌, List, [], ◌∷◌, ◌++◌, length, take, drop, replicate, ltb}
use Rattle.std.proofs.Math.Option.{Option, none, some}
use Rattle.qbf.specs.Formula.{Limits}
use Rattle.qbf.specs.Card.{zero_table}
use Rattle.layout.specs.Words.{Bytes, ascii, newline, split, same}
use Rattle.layout.specs.Output.{decimal}
use Rattle.layout.specs.Opening.{text_bytes, Opened, opened}
use Rattle.layout.specs.Opening as opening
use Rattle.editions.specs.Opening.{only, open_editions}

-- lines put together again, the inverse of splitting
unfoldable pub joined : List Bytes → Bytes
joined [] = []
joined (l ∷ []) = l
joined (l ∷ m ∷ ls) = l ++ (newline ∷ joined (m ∷ ls))

-- ---- a line
-- a line of a readable text that begins so is a rule form
abbrev pub rule_head : Bytes
rule_head = ascii "(rule"

unfoldable pub is_rule : Bytes → Bool
is_rule l = same (take 5 l) rule_head

-- what goes in, or out, right after `(rule`
unfoldable pub tag_text : ℕ → Bytes
tag_text k = ascii " (tag " ++ decimal k ++ ascii ")"

unfoldable pub insert_tag : ℕ → Bytes → Bytes
insert_tag k l = take 5 l ++ (tag_text k ++ drop 5 l)

unfoldable pub remove_tag : ℕ → Bytes → Bytes
remove_tag k l = take 5 l ++ drop (5 + length (tag_text k)) l

unfoldable pub has_tag : ℕ → Bytes → Bool
has_tag k l = same (take (length (tag_text k)) (drop 5 l)) (tag_text k)

-- ---- the lines after the first, the next rule form being the k-th
abbrev pub tag_line : ℕ → Bytes → Bytes
tag_line k l = cond (is_rule l) (insert_tag k l) l

abbrev pub untag_line : ℕ → Bytes → Bytes
untag_line k l = cond (is_rule l) (remove_tag k l) l

abbrev pub next : ℕ → Bytes → ℕ
next k l = cond (is_rule l) (suc k) k

-- "the rule forms 1, 2, 3 and so on, exactly-one forms not counted": each line by what it is with the number of the next rule form
unfoldable pub each_line : (ℕ → Bytes → Bytes) → ℕ → List Bytes → List Bytes
each_line g k [] = []
each_line g k (l ∷ ls) = g k l ∷ each_line g (next k l) ls

-- "Convert from 2 to 1 only where the tags are those": the first line, from number n on, whose tag would be lost
unfoldable pub lost_from : ℕ → ℕ → List Bytes → Option ℕ
lost_from n k [] = none
lost_from n k (l ∷ ls) = cond (is_rule l && not (has_tag k l)) (some n) (lost_from (suc n) (next k l) ls)

-- ---- the text
-- "apart from the tags and the edition number every byte is copied"
abbrev pub tagged_lines : List Bytes → List Bytes
tagged_lines [] = []
tagged_lines (l ∷ ls) = ascii "(book 2)" ∷ each_line tag_line 1 ls

abbrev pub untagged_lines : List Bytes → List Bytes
untagged_lines [] = []
untagged_lines (l ∷ ls) = ascii "(book 1)" ∷ each_line untag_line 1 ls

abbrev pub lost_line : List Bytes → Option ℕ
lost_line [] = none
lost_line (l ∷ ls) = lost_from 2 1 ls

unfoldable pub tagged_text : Bytes → Bytes
tagged_text s = joined (tagged_lines (split newline s))

unfoldable pub untagged_text : Bytes → Bytes
untagged_text s = joined (untagged_lines (split newline s))

-- ---- the conversions
pub data Converted : Type 0 where
  converted : Bytes → Converted
  refused : ℕ → ℕ → Converted

-- "and last a converted text over its table or 65,536 bytes is 31 at line 0"
abbrev pub fitted : ℕ → Bytes → Converted
fitted size t = cond (ltb size (length t) || ltb text_bytes (length t)) (refused 31 0) (converted t)

-- "a tag that would be lost in conversion is 40 at the first such line, after the rest of the text"
abbrev pub unlost : Option ℕ → Converted → Converted
unlost none c = c
unlost (some n) c = refused 40 n

abbrev pub after_opening : Opened → Converted → Converted
after_opening (opening.refused k n) c = refused k n
after_opening (opened b) c = c

-- "A conversion reads under limits as opening does"
unfoldable pub to_tagged : Limits → ℕ → Bytes → Converted
to_tagged L size s = after_opening (open_editions (only 1) L s) (fitted size (tagged_text s))

unfoldable pub to_untagged : Limits → ℕ → Bytes → Converted
to_untagged L size s = after_opening (open_editions (only 2) L s) (unlost (lost_line (split newline s)) (fitted size (untagged_text s)))

-- "returns the length and zeroes the rest of its table, all of it when refused"
abbrev pub length_of : Converted → ℕ
length_of (converted t) = length t
length_of (refused k n) = 0

abbrev pub table_of : ℕ → Converted → Bytes
table_of size (converted t) = t ++ replicate (size - length t) 0
table_of size (refused k n) = zero_table size
