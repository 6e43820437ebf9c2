-- No refusal of a text in QDIMACS has the number 0, so that a number tells whether the text opens.
use Prim.Native.Nat.{ℕ, suc}
use mathlib.Core.Bool.{Bool, true, false, cond, not, ◌||◌}
use mathlib.Core.List.{List, [], ◌∷◌, ◌++◌}
use mathlib.Core.Option.{Option, none, some}
use lib.ListN.{length}
use lib.Dec.{eqb, ltb}
use Rattle.qbf.specs.Formula.{Limits, Quantifier, Prefix, place_of}
use Rattle.qbf.specs.Calls.{given}
use Rattle.layout.specs.Words.{Bytes, newline, split}
use Rattle.layout.specs.Opening.{text_bytes, variable, refused, opened}
use Rattle.serving.proofs.Numbered.{Numbered}
use Rattle.opening.proofs.Numbered.{numbered_given, rule_numbered}
use Rattle.opening.proofs.Apart.{NumberedText, fault_numbered}
use Rattle.qdimacs_form.specs.Lines.{Line, comment, header, group, clause, line_of}
use Rattle.qdimacs_form.specs.Opening.{Reading, group_fault, whole, line_fault, after, crowded, end_fault, read_line, read_lines, start, read_qdimacs, open_qdimacs}

group_numbered : (L : Limits) (v : ℕ) (κ : Quantifier) (D : Prefix) (ns : List ℕ) → Numbered (group_fault L v κ D ns)
group_numbered L v κ D [] = tt
group_numbered L v κ D (n ∷ ns) =
    numbered_given (eqb n 0 || ltb L.numbers n) 2 _
    (numbered_given (ltb v n) 4 _ (numbered_given (not (eqb (place_of D n) 0)) 3 _ (group_numbered L v κ (D ++ (variable κ n ∷ [])) ns)))

given_numbered : (t : Bool) (n : ℕ) → Numbered (given t (suc n))
given_numbered true n = tt
given_numbered false n = tt

line_numbered : (r : Reading) (f : Line) → Numbered (line_fault r f)
line_numbered r comment = tt
line_numbered r (header v c) = numbered_given (not (eqb r.stage 0)) 0 _ (given_numbered (ltb r.formula.limits.numbers v) 2)
line_numbered r (group κ ns) = numbered_given (not (eqb r.stage 1)) 0 _ (group_numbered r.formula.limits r.variables κ r.formula.prefix ns)
line_numbered r (clause ls) = numbered_given (eqb r.stage 0) 0 _ (rule_numbered (whole r) ls)

end_numbered : (r : Reading) → Numbered (end_fault r)
end_numbered r = numbered_given (eqb r.stage 0) 0 _ (numbered_given (crowded r) 32 _ (given_numbered (not (eqb (length r.formula.clauses) r.clauses)) 29))

lines_numbered : (n : ℕ) (r : Reading) (ls : List Bytes) → NumberedText (read_lines n r ls)
unfolding read_lines
lines_numbered n r [] = tt
lines_numbered n r ([] ∷ []) = fault_numbered n (end_fault r) (opened (whole r)) (end_numbered r) tt
lines_numbered n r ((b ∷ l) ∷ []) = tt
lines_numbered n r (l ∷ m ∷ ls) = by (line_of l) (λ q. lines_numbered (suc n) q (m ∷ ls))
  where
    by : (o : Option Line) → ((q : Reading) → NumberedText (read_lines (suc n) q (m ∷ ls))) → NumberedText (read_line n r o (λ q. read_lines (suc n) q (m ∷ ls)))
    by none ih = tt
    by (some f) ih = fault_numbered n (line_fault r f) (read_lines (suc n) (after r f) (m ∷ ls)) (line_numbered r f) (ih (after r f))

pub qdimacs_numbered : (L : Limits) (s : Bytes) → NumberedText (open_qdimacs L s)
unfolding open_qdimacs read_qdimacs
qdimacs_numbered L s = by (ltb text_bytes (length s))
  where
    by : (t : Bool) → NumberedText (cond t (refused 9 0) (read_lines 1 (start L) (split newline s)))
    by true = tt
    by false = lines_numbered 1 (start L) (split newline s)
