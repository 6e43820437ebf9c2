-- A row of literals' codes made where it goes: the part that was lent for the codes is put back behind the length.
use Prim.Native.Nat.{ℕ, suc, ◌+◌, ◌*◌, ◌%◌, ◌≤◌, ◌<◌}
use native.Mathlib.Omega.{arith}
use native.Mathlib.Nat.{le_refl}
use native.Mathlib.Numerals.{add-one}
use mathlib.Core.Path.{◌≡◌, refl, sym, ap, subst, ◌∙◌}
use mathlib.Core.List.{List}
use borrow.Rule.Slice.PartMut.{mid_of, put_mid}
use lib.IntN.{ℤ}
use lib.ListN.{length, take, drop, set, length-set, length-drop}
use lib.Seq.{paste, take-length, length-take-le}
use Rattle.std.proofs.lemmas.Slice.{put_mid-paste}
use Rattle.qbf.specs.Formula.{highest, Prefix}
use Rattle.tables.specs.Views.{Places}
use Rattle.tables.specs.Codes.{codes, last_code}
use Rattle.tables.specs.Shelves.{code_count, mark_of, newest_of, Shelf}
use Rattle.shelf.specs.Coded.{row_behind, RowCoded}
use Rattle.shelf.proofs.Linking.{relinked}
use Rattle.shelf.proofs.Pushing.{Pushed, pushing}
use Rattle.shelf.proofs.Writing.{part_copy}

-- the codes ys are put back into the m cells behind the length
module _ (lits : List ℤ) (places : List ℕ) (at m : ℕ) (cells ys : List ℕ) (within : at + suc (length lits) ≤ length cells) (is : m ≡ length lits)
    (kept : length ys ≡ length (mid_of (at + 1) m (set cells at (length lits)))) where
  abbrev sized : List ℕ
  sized = set cells at (length lits)

  holds : at + 1 + m ≤ length sized
  holds = simp length-set (omega arith)

  long : length ys ≡ length lits
  long = kept ∙ length-take-le m (drop (at + 1) sized) (omega (arith, holds, length-drop (at + 1) sized)) ∙ is

  pasted : put_mid (at + 1) m sized ys ≡ paste sized (suc at) ys (length lits)
  pasted =
      put_mid-paste (at + 1) m sized ys ys (length lits) refl (sym is) (sym long)
      ∙ ap (λ (a : ℕ). paste sized a ys (length lits)) (add-one at)

  behind : row_behind lits at (put_mid (at + 1) m sized ys) ≡ ys
  behind =
      ap (λ (t : List ℕ). take (length lits) (drop (suc at) t)) pasted
      ∙ ap (λ (n : ℕ). take n (drop (suc at) (paste sized (suc at) ys n))) (sym long)
      ∙ part_copy sized (suc at) ys (simp length-set (omega (arith, long)))

  pub row_coded : ((n : ℕ) → n ≤ length lits → last_code (take n ys) < code_count)
      → ((D : Prefix) → Places D places → length D ≤ highest.numbers → take (length lits) ys ≡ codes D lits)
      → RowCoded lits places at cells (put_mid (at + 1) m sized ys)
  row_coded low whole = record {
    long = ap length behind ∙ long;
    written = pasted ∙ ap (λ (r : List ℕ). paste sized (suc at) r (length lits)) (sym behind);
    low = rw behind (subst (λ (r : List ℕ). last_code r < code_count) all (low (length lits) (le_refl (length lits))));
    coded = λ D p few. behind ∙ sym all ∙ whole D p few;
  }
    where
      all : take (length lits) ys ≡ ys
      all = ap (λ (n : ℕ). take n ys) (sym long) ∙ take-length ys

-- the part that the code takes is the row
pub row_taken : (lits : List ℤ) (at m : ℕ) (cells : List ℕ) → m ≡ length lits → take m (drop (at + 1) cells) ≡ row_behind lits at cells
row_taken lits at m cells is =
    ap (λ (n : ℕ). take n (drop (at + 1) cells)) is ∙ ap (λ (a : ℕ). take (length lits) (drop a cells)) (add-one at)

-- the row in the slot of its number is put behind the others
module _ {stride slots : ℕ} {cells links : List ℕ} (shelf : Shelf stride slots cells links) (some : 0 < slots) (lits : List ℤ) (places : List ℕ) (s m : ℕ) (cells₁ links₁ : List ℕ)
    (slot_is : s ≡ newest_of links % slots) (fits : length lits ≤ stride) (new : RowCoded lits places (s * (stride + 1)) cells cells₁) (is : m ≡ length lits) where
  abbrev at : ℕ
  at = s * (stride + 1)

  abbrev made : List ℕ
  made = row_behind lits at cells₁

  pub coded_pushed : {code : ℕ} → code ≡ last_code (take m (drop (at + 1) cells₁)) → code < mark_of links → links₁ ≡ relinked links code s (newest_of links) → Pushed shelf some made s cells₁ links₁
  coded_pushed {code} code_is above links_are =
      let last : code ≡ last_code made =
      code_is ∙ ap last_code (row_taken lits at m cells₁ is)
      in
      pushing shelf some made s code cells₁ links₁ slot_is last (omega (arith, last, new.low)) above (omega (arith, new.long))
      (new.written ∙ ap (λ (n : ℕ). paste (set cells at n) (suc at) made n) (sym new.long)) links_are
