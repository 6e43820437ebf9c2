-- The verdicts of a plain search as the code has them.
use Rattle.std.specs.Prelude.{true, false}
use Rattle.qbf.specs.Formula.{Quantifier, free, exists, forall}
use Rattle.qbf.specs.Truth.{Outcome, decided, mixed}
use Rattle.node.specs.declared.Verdict.{Verdict}
use Rattle.node.specs.declared.Verdict.TheVariants.{Yes, No, Mixed}

-- of an outcome
abbrev pub verdict_of : Outcome (Unit {0}) → Verdict
verdict_of (decided true x) = Yes
verdict_of (decided false x) = No
verdict_of (mixed ds) = Mixed

-- ---- of two sides: "two Yes give Yes, two No give No, anything else Mixed"
abbrev pub after_yes : Verdict → Verdict
after_yes Yes = Yes
after_yes No = Mixed
after_yes Mixed = Mixed

abbrev pub after_no : Verdict → Verdict
after_no Yes = Mixed
after_no No = No
after_no Mixed = Mixed

abbrev pub agreed : Verdict → Verdict → Verdict
agreed Yes w = after_yes w
agreed No w = after_no w
agreed Mixed w = Mixed

-- both at a free variable; elsewhere "the on side decides"
abbrev pub joined_of : Quantifier → Verdict → Verdict → Verdict
joined_of free v w = agreed v w
joined_of exists v w = w
joined_of forall v w = w
