-- What a conversion answers.
use Rattle.std.specs.Prelude.{ℕ, zero, suc, ◌≤◌, ◌≡◌, length, take, Result, Ok, Err}
use Rattle.refusal.specs.Refusal.{number_of}
use Rattle.opening.specs.declared.text.RefusedAt.{RefusedAt}
use Rattle.layout.specs.Words.{Bytes}
use Rattle.qbf.specs.Formula.{Limits}
use Rattle.editions.specs.Converting.{Converted, converted, refused, length_of, table_of, to_tagged, to_untagged}
use Rattle.edition_reader.specs.declared.Edition.{Edition}
use Rattle.edition_reader.specs.declared.Edition.TheVariants.{First, Second}
use Rattle.edition_conversion.specs.declared.Converted.{Converted as Answer}

-- by the edition that a text is converted to
abbrev pub conversion : Edition → Limits → ℕ → Bytes → Converted
conversion First = to_untagged
conversion Second = to_tagged

-- 0 is no refusal
abbrev pub refusal_of : Converted → ℕ
refusal_of (converted t) = 0
refusal_of (refused k n) = k

abbrev pub line_of : Converted → ℕ
line_of (converted t) = 0
line_of (refused k n) = n

-- "returns the length and zeroes the rest of its table, all of it when refused"
pub record ConvertedAs (size : ℕ) (c : Converted) (r : Answer) (table : Bytes) : Type 0 where
  pub refusal : r.refusal ≡ refusal_of c
  pub line : r.line ≡ line_of c
  pub count : r.length ≡ length_of c
  pub stands : table ≡ table_of size c

-- the text in the first bytes of its table, and their count; or the refusal with its line
abbrev pub WrittenAs : Converted → Result ℕ RefusedAt → Bytes → Type 0
WrittenAs (converted t) (Ok n) d = (n ≡ length t) × (n ≤ length d) × (take n d ≡ t)
WrittenAs (converted t) (Err r) d = ⊥
WrittenAs (refused k l) (Ok n) d = ⊥
WrittenAs (refused k l) (Err r) d = (number_of r.refusal ≡ k) × (r.line ≡ l)

-- no refusal is 0, so that the number tells whether the text was converted
abbrev pub Numbered : Converted → Type 0
Numbered (converted t) = Unit {0}
Numbered (refused zero n) = ⊥
Numbered (refused (suc k) n) = Unit {0}
