-- What the verdict of one side says by itself.
use Rattle.std.specs.Prelude.{Bool, true, false}
use Rattle.qbf.specs.Formula.{Quantifier}
use Rattle.qbf.specs.Plain.{decides}
use Rattle.node.specs.declared.Verdict.{Verdict}
use Rattle.node.specs.declared.Verdict.TheVariants.{Yes, No, Mixed}

-- one side of that verdict is enough
abbrev pub alone : Verdict → Quantifier → Bool
alone Yes κ = decides true κ
alone No κ = decides false κ
alone Mixed κ = false
