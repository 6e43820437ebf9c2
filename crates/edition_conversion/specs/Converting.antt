-- What a conversion answers under limits, where its text is judged onto two tables for a state: 22 at no line where they are too short for it.
use Rattle.std.specs.Prelude.{ℕ, List, ℤ, Result}
use Rattle.qbf.specs.Formula.{Limits}
use Rattle.layout.specs.Words.{Bytes}
use Rattle.opening.specs.declared.text.RefusedAt.{RefusedAt}
use Rattle.editions.specs.Converting.{refused, to_tagged, to_untagged}
use Rattle.edition_reader.specs.declared.Edition.{Edition}
use Rattle.edition_conversion.specs.declared.Converted.{Converted as Answer}
use Rattle.edition_conversion.specs.Converted.{conversion, ConvertedAs, WrittenAs}
use Rattle.lent_texts.specs.Whole.{IfWhole}

-- the text in the first bytes of its table, and their count; or the refusal with its line
abbrev pub WrittenUnder : Edition → Limits → List ℕ → List ℤ → Bytes → ℕ → Result ℕ RefusedAt → Bytes → Type 0
WrittenUnder e L cells literals s size r d = IfWhole L cells literals (WrittenAs (conversion e L size s) r d) (WrittenAs (refused 22 0) r d)

-- "returns the length and zeroes the rest of its table, all of it when refused"
abbrev pub ConvertedUnder : Edition → Limits → List ℕ → List ℤ → Bytes → ℕ → Answer → Bytes → Type 0
ConvertedUnder e L cells literals s size r d = IfWhole L cells literals (ConvertedAs size (conversion e L size s) r d) (ConvertedAs size (refused 22 0) r d)

-- .. each conversion by its name
abbrev pub TaggedUnder : Limits → List ℕ → List ℤ → Bytes → ℕ → Answer → Bytes → Type 0
TaggedUnder L cells literals s size r d = IfWhole L cells literals (ConvertedAs size (to_tagged L size s) r d) (ConvertedAs size (refused 22 0) r d)

abbrev pub UntaggedUnder : Limits → List ℕ → List ℤ → Bytes → ℕ → Answer → Bytes → Type 0
UntaggedUnder L cells literals s size r d = IfWhole L cells literals (ConvertedAs size (to_untagged L size s) r d) (ConvertedAs size (refused 22 0) r d)
