-- A line by what was read of it: it is judged by the items that the table keeps.
use Prim.Native.Nat.{ℕ, suc, ◌<◌, min}
use mathlib.Core.Path.{◌≡◌, refl, sym, ap, subst, ◌∙◌}
use mathlib.Core.List.{List}
use mathlib.Core.Option.{Option, some}
use native.Mathlib.Omega.{arith}
use lib.IntN.{ℤ, pos}
use lib.ListN.{length, get_or, take}
use Rattle.std.specs.Prelude.{Result}
use Rattle.refusal.specs.declared.Refusal.{Refusal}
use Rattle.qbf.specs.Formula.{highest, Formula, number_of}
use Rattle.layout.specs.Forms.{book, block, clause}
use Rattle.reader.specs.Items.{narrow}
use Rattle.reader.proofs.Judged.{rule_cut_under, rule_cut_same_under}
use Rattle.editions.specs.Lines.{says}
use Rattle.editions.specs.Lines as form
use Rattle.edition_reader.specs.Lines.{LineIs}
use Rattle.edition_reader.proofs.OneCut.{one_cut, one_cut_same}
use Rattle.edition_reader.specs.declared.line.Line.TheVariants as line
use Rattle.opening.specs.Stages.{rank_of}
use Rattle.opening.specs.declared.book.Book.{Book}
use Rattle.opening.specs.Standing.{formula_at}
use Rattle.opening.specs.Forms.{BlockTookAt}
use Rattle.opening.proofs.Judging as first
use Rattle.edition_opening.specs.Editions.{accepted, edition_of}
use Rattle.edition_opening.specs.declared.book.EditionBook.{EditionBook}
use Rattle.edition_opening.specs.Lines.{kept_with, TookOnAt, TookAt, PlainTookAt, TaggedTookAt, OneTookAt, edition_stands}
use Rattle.edition_opening.proofs.Taking.{form_kept}

-- ---- lines
module _ (z : EditionBook) {cells : List ℕ} {literals : List ℤ} (s : edition_stands z cells literals) (o : Option form.Line) where
  abbrev b : Formula
  b = formula_at cells literals

  abbrev TookHere : Option form.Line → Result EditionBook Refusal → List ℕ → List ℤ → Type 0
  TookHere p r cells' literals' = TookAt (accepted z.accepts) (edition_of z.edition) (rank_of z.book.stage) b p r cells' literals'

  line_some : (r : Result EditionBook Refusal) (f : form.Line) (cells' : List ℕ) (literals' : List ℤ) → o ≡ some f → TookOnAt z b f r cells' literals' → TookHere o r cells' literals'
  line_some r f cells' literals' q h = subst (λ (p : Option form.Line). TookHere p r cells' literals') (sym q) h

  module _ (out : List ℤ) (room : length out ≡ suc highest.numbers) where
    wide : b.limits.literals < length out
    wide = omega (arith, room)

    pub line_book : (r : Result EditionBook Refusal) (cells' : List ℕ) (literals' : List ℤ) → LineIs o line.Book out → {i : ℤ} → i ≡ get_or out 0 (pos 0) → {m : ℕ} → m ≡ number_of i → ((n : ℕ) → m ≡ narrow n → TookOnAt z b (says (book n)) r cells' literals') → TookHere o r cells' literals'
    line_book r cells' literals' (n, h, k) p q w = line_some r (says (book n)) cells' literals' h (w n (q ∙ ap number_of (p ∙ first.first_kept out n room k)))

    pub line_block : (t : Result Book Refusal) (κ n : ℕ) (cells' : List ℕ) (literals' : List ℤ) {lits : List ℤ} → lits ≡ take (min n (length out)) out → LineIs o (line.Block κ n) out → BlockTookAt (rank_of z.book.stage) b κ lits t cells' literals' → TookHere o (kept_with z t) cells' literals'
    line_block t κ n cells' literals' p (q, c, (ns, h, k)) w =
        line_some (kept_with z t) (says (block q ns)) cells' literals' h
        (form_kept z b (block q ns) t cells' literals' (first.line_block s {o = some (block q ns)} {out = out} {r = t} room κ n p (q, c, (ns, refl, k)) w) refl refl)

    pub line_rule : (r : Result EditionBook Refusal) (n : ℕ) (cells' : List ℕ) (literals' : List ℤ) {lits : List ℤ} → lits ≡ take (min n (length out)) out → LineIs o (line.Rule n) out → PlainTookAt z b lits r cells' literals' → TookHere o r cells' literals'
    line_rule r n cells' literals' p (ls, h, k) w =
        line_some r (says (clause ls)) cells' literals' h
        (subst (λ (l : List ℤ). PlainTookAt z b l r cells' literals') p w ls (rule_cut_under b (first.few_numbers s) n out ls k refl wide) (rule_cut_same_under b (first.few_numbers s) n out ls k refl wide))

    pub line_tagged : (r : Result EditionBook Refusal) (j n : ℕ) (cells' : List ℕ) (literals' : List ℤ) {lits : List ℤ} → lits ≡ take (min n (length out)) out → LineIs o (line.Tagged j n) out → TaggedTookAt z b j lits r cells' literals' → TookHere o r cells' literals'
    line_tagged r j n cells' literals' p (ls, h, k) w =
        line_some r (form.tagged j ls) cells' literals' h
        (subst (λ (l : List ℤ). TaggedTookAt z b j l r cells' literals') p w ls (rule_cut_under b (first.few_numbers s) n out ls k refl wide) (rule_cut_same_under b (first.few_numbers s) n out ls k refl wide))

    pub line_one : (r : Result EditionBook Refusal) (n : ℕ) (cells' : List ℕ) (literals' : List ℤ) {lits : List ℤ} → lits ≡ take (min n (length out)) out → LineIs o (line.One n) out → OneTookAt z b lits r cells' literals' → TookHere o r cells' literals'
    line_one r n cells' literals' p (ls, h, k) w =
        line_some r (form.one ls) cells' literals' h
        (subst (λ (l : List ℤ). OneTookAt z b l r cells' literals') p w ls (one_cut b (first.few_numbers s) n out ls k refl wide) (one_cut_same b (first.few_numbers s) n out ls k refl wide))
