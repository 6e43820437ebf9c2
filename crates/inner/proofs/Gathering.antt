-- The true literals of the marked places, place after place.
use Prim.Native.Nat.{ℕ, suc, ◌+◌, ◌-◌, ◌*◌, ◌≤◌, ◌<◌}
use native.Mathlib.Omega.{arith}
use native.Mathlib.Numerals.{add-one}
use mathlib.Core.Path.{◌≡◌, refl, sym, ap, ◌∙◌}
use mathlib.Core.Bool.{Bool, true, false, cond}
use mathlib.Core.List.{List, [], ◌∷◌, ◌++◌, append-nil}
use mathlib.Core.Option.{some}
use lib.ListN.{length, get_or, take, drop, set}
use lib.Seq.{take-suc, take-suc-set, length-take-le, take_all}
use lib.Dec.{eqb}
use mir.Val.{bool_byte}
use Rattle.std.proofs.lemmas.List.{take-set-le, get_or-drop, get_or-take, length-drop}
use Rattle.qbf.specs.Formula.{Node, ◌▹◌, value_at}
use Rattle.theory.proofs.Basics.{value_some}
use Rattle.tables.specs.Codes.{code_at, Statuses, status_of}
use Rattle.tables.specs.Sets.{marked_from}

-- ---- the code of the true literal of a place
module _ (p : ℕ) {t : List ℕ} (s : Node) (b : Bool) (shown : Statuses s t) (value : value_at s p ≡ some b) where
  status_is : get_or t (p * 2 + 1) 0 ≡ status_of true (some b)
  status_is = shown.at p true ∙ ap (status_of true) value

  -- the positive one where its status is 2
  pub true_on : get_or t (p * 2 + 1) 0 ≡ 2 → p * 2 + 1 ≡ code_at p b
  true_on h = by b (sym status_is ∙ h)
    where
      by : (x : Bool) → status_of true (some x) ≡ 2 → p * 2 + 1 ≡ code_at p x
      by true e = refl
      by false e = absurd (omega arith)

-- ---- one place more
marked_snoc : (p : ℕ) (s : Node) (b : Bool) (marks : List ℕ)
    → marked_from p (s ▹ b) marks ≡ marked_from p s marks ++ cond (eqb (get_or marks (p + length s) 0) 1) (code_at (p + length s) b ∷ []) []
marked_snoc p [] b marks = let z : p ≡ p + 0 = omega arith in ap (λ (q : ℕ). cond (eqb (get_or marks q 0) 1) (code_at q b ∷ []) []) z
marked_snoc p (x ∷ s) b marks =
    let z : suc p + length s ≡ p + suc (length s) = omega arith in
    by (eqb (get_or marks p 0) 1) _ (rw z at (marked_snoc (suc p) s b marks))
  where
    by : (o : Bool) (end : List ℕ) → marked_from (suc p) (s ▹ b) marks ≡ marked_from (suc p) s marks ++ end
        → cond o (code_at p x ∷ marked_from (suc p) (s ▹ b) marks) (marked_from (suc p) (s ▹ b) marks) ≡ cond o (code_at p x ∷ marked_from (suc p) s marks) (marked_from (suc p) s marks) ++ end
    by true end e = ap (λ (cs : List ℕ). code_at p x ∷ cs) e
    by false end e = e

-- ---- a code put behind the others, and counted where its place is marked
module _ (up : List ℕ) (n code : ℕ) (room : n < length up) where
  pub put_by : (b : Bool) → take (n + bool_byte b) (set up n code) ≡ take n up ++ cond b (code ∷ []) []
  put_by true = rw add-one (take-suc-set up n code room)
  put_by false = let z : n + 0 ≡ n = omega arith in ap (λ (k : ℕ). take k (set up n code)) z ∙ take-set-le n up n code (omega arith) ∙ sym (append-nil (take n up))

pub put_few : (n : ℕ) (b : Bool) → n + bool_byte b ≤ n + 1
put_few n true = omega arith
put_few n false = omega arith

-- the marks from place 1 on, of `at` places
pub mark_of : (marks : List ℕ) (at i : ℕ) → i < at → get_or (take (at + 1 - 1) (drop 1 marks)) i 0 ≡ get_or marks (i + 1) 0
mark_of marks at i h =
    let z : 1 + i ≡ i + 1 = omega arith in
    get_or-take (at + 1 - 1) (drop 1 marks) i 0 (omega (arith, h)) ∙ get_or-drop 1 marks i 0 ∙ ap (λ (k : ℕ). get_or marks k 0) z

pub marks_long : (marks : List ℕ) (at : ℕ) → at < length marks → length (take (at + 1 - 1) (drop 1 marks)) ≡ at
marks_long marks at h =
    let z : at + 1 - 1 ≤ length (drop 1 marks) = omega (arith, h, length-drop 1 marks) in
    length-take-le (at + 1 - 1) (drop 1 marks) z ∙ omega arith

-- ---- the first i places are gathered in the first n cells
pub record Gathered (marks statuses : List ℕ) (at n i : ℕ) (up : List ℕ) : Type 0 where
  pub within : i ≤ at
  pub few : n ≤ i
  pub is : (s : Node) → Statuses s statuses → length s ≡ at → take n up ≡ marked_from 1 (take i s) marks

-- no place yet
pub gathered_none : (marks statuses : List ℕ) (at : ℕ) (up : List ℕ) → Gathered marks statuses at 0 0 up
gathered_none marks statuses at up = record { within = omega arith; few = omega arith; is = λ s shown long. refl }

module _ {marks statuses : List ℕ} {at n i : ℕ} {up : List ℕ} (g : Gathered marks statuses at n i up) where
  -- the place after them
  pub gathered_more : i < at → {r code mark : ℕ} {after : List ℕ} → mark ≡ get_or marks (i + 1) 0
      → ((s : Node) (b : Bool) → Statuses s statuses → value_at s (i + 1) ≡ some b → code ≡ code_at (i + 1) b)
      → r ≤ n + 1 → take r after ≡ take n up ++ cond (eqb mark 1) (code ∷ []) []
      → Gathered marks statuses at r (i + 1) after
  gathered_more low {r} {code} {mark} {after} read right small put = record {
    within = omega arith;
    few = omega (arith, g.few);
    is = λ s shown long.
        let here : i < length s = omega arith in
        let b : Bool = get_or s i false in
        let code_is : code ≡ code_at (i + 1) b = right s b shown (ap (value_at s) (add-one i) ∙ value_some s i here) in
        let z : i + 1 ≡ 1 + length (take i s) = omega (arith, length-take-le i s (omega arith)) in
        let split : take (i + 1) s ≡ take i s ++ (b ∷ []) = ap (λ (k : ℕ). take k s) (add-one i) ∙ take-suc s i false here in
        put
        ∙ ap (λ (cs : List ℕ). cs ++ cond (eqb mark 1) (code ∷ []) []) (g.is s shown long)
        ∙ ap (λ (m : ℕ). marked_from 1 (take i s) marks ++ cond (eqb m 1) (code ∷ []) []) read
        ∙ ap (λ (c : ℕ). marked_from 1 (take i s) marks ++ cond (eqb (get_or marks (i + 1) 0) 1) (c ∷ []) []) code_is
        ∙ ap (λ (k : ℕ). marked_from 1 (take i s) marks ++ cond (eqb (get_or marks k 0) 1) (code_at k b ∷ []) []) z
        ∙ sym (marked_snoc 1 (take i s) b marks)
        ∙ sym (ap (λ (vs : Node). marked_from 1 vs marks) split);
  }

  -- all of them
  pub gathered_all : at ≤ i → (s : Node) → Statuses s statuses → length s ≡ at → take n up ≡ marked_from 1 s marks
  gathered_all h s shown long = g.is s shown long ∙ ap (λ (vs : Node). marked_from 1 vs marks) (take_all i s (omega arith))
