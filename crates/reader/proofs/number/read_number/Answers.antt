use mathlib.Core.Path.{◌∙◌}
use Rattle.reader.proofs.Digits.{number_fits}
use Rattle.reader.proofs.number.read_number.Goals as goal

pub returns : goal.returns
returns c = c.read_within.ensures ∙ number_fits _
