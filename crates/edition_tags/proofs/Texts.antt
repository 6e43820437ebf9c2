-- A text line by line: what is written of its conversion, and the first tag that would be lost.
use Prim.Native.Nat.{ℕ, suc, ◌+◌, ◌-◌, ◌*◌, ◌≤◌}
use mathlib.Core.Path.{◌≡◌, refl, sym, ap, ◌∙◌}
use mathlib.Core.Bool.{Bool, true, false, cond, not, ◌&&◌}
use mathlib.Core.List.{List, [], ◌∷◌, ◌++◌, append_assoc, append-nil}
use mathlib.Core.Logic.{◌⊎◌, inl, inr}
use mathlib.Core.Option.{none, some}
use native.Mathlib.Omega.{arith}
use native.Mathlib.Numerals.{add-one}
use lib.ListN.{length}
use Rattle.std.specs.Prelude.{Option as Answer, Some, None}
use Rattle.std.specs.Borrow.{Bor}
use Rattle.layout.specs.Words.{Bytes, newline, split}
use Rattle.layout.specs.Opening.{text_bytes}
use Rattle.editions.specs.Converting.{joined, is_rule, has_tag, next, each_line, lost_from, lost_line, tagged_lines, untagged_lines, tagged_text, untagged_text}
use Rattle.reader.specs.Pieces.{pieces, size_left, Cut}
use Rattle.edition_reader.specs.declared.Edition.{Edition}
use Rattle.edition_reader.specs.declared.Edition.TheVariants.{First, Second}
use Rattle.edition_tags.specs.Tagged.{most_number}
use Rattle.edition_tags.specs.Appended.{Appended, line_to, heading_to, text_to}
use Rattle.edition_tags.proofs.Appending.{appended_none, appended_then, appended_as}
use Rattle.edition_tags.proofs.Tags.{line_most, next_most}

-- ---- lines, each behind a byte 10
unfoldable pub behind : List Bytes → Bytes
behind [] = []
behind (l ∷ ls) = newline ∷ (l ++ behind ls)

joined_behind : (l : Bytes) (ls : List Bytes) → joined (l ∷ ls) ≡ l ++ behind ls
unfolding joined behind
joined_behind l [] = sym (append-nil l)
joined_behind l (m ∷ ls) = ap (λ (x : Bytes). l ++ (newline ∷ x)) (joined_behind m ls)

module _ {s w : Bytes} {left : Answer (Bor Bytes)} (p : Cut newline s w left) where
  -- ---- what is written
  text_is : (to : Edition) → text_to to s ≡ heading_to to ++ behind (each_line (line_to to) 1 (pieces newline left))
  unfolding tagged_text untagged_text
  text_is First = ap (λ (ls : List Bytes). joined (untagged_lines ls)) p.is ∙ joined_behind (heading_to First) (each_line (line_to First) 1 (pieces newline left))
  text_is Second = ap (λ (ls : List Bytes). joined (tagged_lines ls)) p.is ∙ joined_behind (heading_to Second) (each_line (line_to Second) 1 (pieces newline left))

-- the loop: the first lines of those left at first are written into the table d₀ behind its first n₀ bytes
pub record Putting (to : Edition) (s d₀ : Bytes) (n₀ : ℕ) (first left : Answer (Bor Bytes)) (n k : ℕ) (d : Bytes) : Type 0 where
  pub done : Bytes
  pub few : k + size_left left ≤ suc (length s)
  pub room : n + 13 * size_left left ≤ 13 * suc (length s)
  pub wrote : Appended d₀ n₀ done d n
  pub is : behind (each_line (line_to to) 1 (pieces newline first)) ≡ done ++ behind (each_line (line_to to) k (pieces newline left))

heading_length : (to : Edition) → length (heading_to to) ≡ 8
heading_length First = refl
heading_length Second = refl

pub put_first : {s w : Bytes} {left : Answer (Bor Bytes)} → Cut newline s w left → (to : Edition) {d d₀ : Bytes} {n : ℕ} → Appended d 0 (heading_to to) d₀ n → Putting to s d₀ n left left n 1 d₀
put_first {s} {w} {left} p to {d} {d₀} {n} a =
    record {
      done = [];
      few = omega (arith, p.shorter);
      room = omega (arith, p.shorter, a.next, heading_length to);
      wrote = appended_none d₀ n;
      is = refl;
    }

module _ {to : Edition} {s d₀ : Bytes} {n₀ : ℕ} {first left : Answer (Bor Bytes)} {n k : ℕ} {d : Bytes} (i : Putting to s d₀ n₀ first left n k d) where
  -- no line is left
  pub put_end : left ≡ None → {d₁ w : Bytes} {at : Answer (Bor Bytes)} → first ≡ at → Cut newline s w at → Appended d₁ 0 (heading_to to) d₀ n₀ → Appended d₁ 0 (text_to to s) d n
  unfolding each_line behind
  put_end h same p a =
      appended_as (sym (text_is p to ∙ ap (λ (l : Answer (Bor Bytes)). heading_to to ++ behind (each_line (line_to to) 1 (pieces newline l))) (sym same) ∙ ap (λ (x : Bytes). heading_to to ++ x) (i.is ∙ ap (λ (l : Answer (Bor Bytes)). i.done ++ behind (each_line (line_to to) k (pieces newline l))) h ∙ append-nil i.done)))
      (appended_then a i.wrote)

  module _ {l : Bytes} {more : Answer (Bor Bytes)} (line : (m : Bor Bytes) × (left ≡ Some m) × Cut newline m.now l more) where
    sizes : size_left left ≡ suc (length l + size_left more)
    sizes = ap size_left line.1 ∙ ap suc (sym line.2.shorter)

    words : pieces newline left ≡ l ∷ pieces newline more
    words = ap (pieces newline) line.1 ∙ line.2.is

    module _ (short : length s ≤ text_bytes) where
      pub put_number : k ≤ most_number
      put_number = omega (arith, i.few, sizes, short)

      pub put_more : {d₁ : Bytes} {r j t : ℕ} → t ≡ k → Appended d n (newline ∷ line_to to t l) d₁ r → j ≡ next t l → Putting to s d₀ n₀ first more r j d₁
      unfolding each_line behind
      put_more {d₁} {r} {j} {t} same w q =
          record {
            done = i.done ++ (newline ∷ line_to to t l);
            few = omega (arith, q, next_most t l, same, i.few, sizes);
            room = omega (arith, w.next, i.room, line_most to t l (omega (arith, same, put_number)), sizes);
            wrote = appended_then i.wrote w;
            is =
                i.is
                ∙ ap (λ (ls : List Bytes). i.done ++ behind (each_line (line_to to) k ls)) words
                ∙ ap (λ (x : ℕ). i.done ++ behind (each_line (line_to to) x (l ∷ pieces newline more))) (sym same)
                ∙ sym (append_assoc i.done (newline ∷ line_to to t l) (behind (each_line (line_to to) (next t l) (pieces newline more))))
                ∙ ap (λ (x : ℕ). (i.done ++ (newline ∷ line_to to t l)) ++ behind (each_line (line_to to) x (pieces newline more))) (sym q);
          }

-- ---- the first tag that would be lost
pub record Losing (s : Bytes) (left : Answer (Bor Bytes)) (k number : ℕ) : Type 0 where
  pub few : k + size_left left ≤ suc (length s)
  pub numbered : number + size_left left ≤ suc (suc (length s))
  pub is : lost_line (split newline s) ≡ lost_from number k (pieces newline left)

module _ {s : Bytes} {left : Answer (Bor Bytes)} {k number : ℕ} (i : Losing s left k number) where
  -- no line is left: the numbers do not end before
  pub lose_end : length s ≤ text_bytes → {A B : Type 0} {P : A → Type 0} → ((u : A) × ((18446744073709551615 - number ≡ 0) × P u)) ⊎ (B × (left ≡ None)) → none ≡ lost_line (split newline s)
  unfolding lost_from
  lose_end short (inl e) = absurd (omega (arith, short, i.numbered, e.1.0))
  lose_end short (inr e) = sym (i.is ∙ ap (λ (l : Answer (Bor Bytes)). lost_from number k (pieces newline l)) e.1)

  module _ {l : Bytes} {more : Answer (Bor Bytes)} (line : (m : Bor Bytes) × (left ≡ Some m) × Cut newline m.now l more) where
    lose_sizes : size_left left ≡ suc (length l + size_left more)
    lose_sizes = ap size_left line.1 ∙ ap suc (sym line.2.shorter)

    module _ {t : ℕ} (same : t ≡ k) {x : Bool} (q : x ≡ (is_rule l && not (has_tag t l))) {this : ℕ} (at : this ≡ number) where
      onward : lost_line (split newline s) ≡ cond x (some this) (lost_from (suc this) (next t l) (pieces newline more))
      unfolding lost_from
      onward =
          i.is ∙ ap (λ (m : Answer (Bor Bytes)). lost_from number k (pieces newline m)) line.1 ∙ ap (lost_from number k) line.2.is
          ∙ ap (λ (y : ℕ). lost_from number y (l ∷ pieces newline more)) (sym same)
          ∙ ap (λ (y : ℕ). lost_from y t (l ∷ pieces newline more)) (sym at)
          ∙ ap (λ (b : Bool). cond b (some this) (lost_from (suc this) (next t l) (pieces newline more))) (sym q)

      pub lose_found : x ≡ true → some this ≡ lost_line (split newline s)
      lose_found y = sym (onward ∙ ap (λ (b : Bool). cond b (some this) (lost_from (suc this) (next t l) (pieces newline more))) y)

      pub lose_more : x ≡ false → {after : ℕ} → after ≡ this + 1 → {j : ℕ} → j ≡ next t l → Losing s more j after
      lose_more y {after} then {j} z =
          record {
            few = omega (arith, z, next_most t l, same, i.few, lose_sizes);
            numbered = omega (arith, then, at, i.numbered, lose_sizes);
            is =
                onward
                ∙ ap (λ (b : Bool). cond b (some this) (lost_from (suc this) (next t l) (pieces newline more))) y
                ∙ ap (λ (x : ℕ). lost_from x (next t l) (pieces newline more)) (sym (then ∙ add-one this))
                ∙ ap (λ (x : ℕ). lost_from after x (pieces newline more)) (sym z);
          }
