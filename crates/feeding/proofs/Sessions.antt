-- The program `session` by steps prints what is defined for its whole input, whatever the pieces are in which the input comes.
use Prim.Native.Nat.{ℕ, suc, ◌+◌, ◌≤◌, ◌<◌}
use mathlib.Core.Path.{◌≡◌, refl, sym, ap, subst, ◌∙◌}
use mathlib.Core.Bool.{Bool, true, false, cond}
use mathlib.Core.List.{List, [], ◌∷◌, ◌++◌, append_assoc, append-nil}
use mathlib.Core.Option.{Option, none, some}
use native.Mathlib.Omega.{arith}
use native.Mathlib.Decide.{dec_lt}
use borrow.Author.Tests.{le-ltb, lt-ltb}
use lib.Dec.{eqb}
use lib.ListN.{length, length-append}
use Rattle.qbf.specs.Formula.{Limits}
use Rattle.qbf.specs.Calls.{State}
use Rattle.qbf.specs.Runs.{fresh}
use Rattle.layout.specs.Words.{Bytes, newline, on_first, split, same, joined}
use Rattle.layout.specs.Forms.{then}
use Rattle.layout.specs.Output.{refusal_text}
use Rattle.layout.specs.Opening.{text_bytes, Opened, refused, opened}
use Rattle.editions.specs.Opening.{both, open_editions}
use Rattle.layout.specs.Session.{end_line, Parted, onto, parted}
use Rattle.sessions.specs.Session.{Request, request_of, Card, turn_of, serve_lines, opened_session, session_program}
use Rattle.feeding.specs.Lines.{Step, after, fed, Serving, at_line, on_line_byte, as_line, lines_text}
use Rattle.feeding.specs.Sessions.{Left, serve_call, Begun, Held, book, calls, over, start, behind, in_book, opening, unended_book, on_byte, at_end}
use Rattle.feeding.proofs.Lines.{fed_pieces, every_cut, split_some, line_steps, fed_lines, lines_printed}

-- ---- the lines of calls
long_request : (l : Bytes) → text_bytes < length l → request_of l ≡ none
unfolding request_of
long_request l h = rw (lt-ltb text_bytes (length l) h)

pub same_request : (l : Bytes) → then (as_line l) request_of ≡ request_of l
same_request l = by (dec_lt text_bytes (length l))
  where
    asked : Bool → Option Request
    asked t = then (cond t none (some l)) request_of

    by : Dec (text_bytes < length l) → then (as_line l) request_of ≡ request_of l
    by (yes h) = ap asked (lt-ltb text_bytes (length l) h) ∙ sym (long_request l h)
    by (no h) = ap asked (le-ltb text_bytes (length l) (omega (arith, h)))

pub lines_session : (ls : List Bytes) (n : ℕ) (x : State) (z : Option Card) → lines_text serve_call n (record { state = x; shown = z }) ls ≡ serve_lines n x z ls
unfolding lines_text serve_lines
lines_session [] n x z = refl
lines_session ([] ∷ []) n x z = refl
lines_session ((b ∷ l) ∷ []) n x z = refl
lines_session (l ∷ m ∷ ls) n x z =
    ap (λ (q : Option Request). (turn_of x z n q).text ++ lines_text serve_call (suc n) (record { state = (turn_of x z n q).state; shown = (turn_of x z n q).shown }) (m ∷ ls)) (same_request l)
    ∙ ap (λ (t : Bytes). (turn_of x z n (request_of l)).text ++ t) (lines_session (m ∷ ls) (suc n) (turn_of x z n (request_of l)).state (turn_of x z n (request_of l)).shown)

module _ (L : Limits) where
  abbrev pub feed : Held → Bytes → Step Held
  feed h s = fed (on_byte L) h s

  -- ---- the phases behind the book
  pub fed_over : (s : Bytes) → feed over s ≡ record { text = []; held = over }
  unfolding fed
  fed_over [] = refl
  fed_over (b ∷ s) = ap (after []) (fed_over s)

  fed_serving : (h : Serving Left) (s : Bytes) → feed (calls h) s ≡ behind (fed (on_line_byte serve_call) h s)
  unfolding fed
  fed_serving h [] = refl
  fed_serving h (b ∷ s) = ap (after (on_line_byte serve_call h b).text) (fed_serving (on_line_byte serve_call h b).held s)

  pub fed_calls : (h : Serving Left) (s : Bytes) → feed (calls h) s ≡ behind (line_steps serve_call h (split newline s))
  fed_calls h s = fed_serving h s ∙ ap behind (fed_lines serve_call h s)

  -- ---- the book
  -- the pieces, the first with these bytes in front
  abbrev with_first : Bytes → List Bytes → List Bytes
  with_first l [] = l ∷ []
  with_first l (w ∷ ws) = (l ++ w) ∷ ws

  abbrev part : Bytes → Bytes → Parted
  part l s = parted (with_first l (split newline s))

  part_line : (l s : Bytes) (t : Bool) → same l end_line ≡ t → parted ((l ++ []) ∷ split newline s) ≡ cond t (record { book = l ++ (newline ∷ []); count = 1; rest = split newline s }) (onto l (parted (split newline s)))
  unfolding parted
  part_line l s t e = by (split newline s) (split_some newline s)
    where
      by : (vs : List Bytes) → (w : Bytes) × (ws : List Bytes) × (vs ≡ w ∷ ws) → parted ((l ++ []) ∷ vs) ≡ cond t (record { book = l ++ (newline ∷ []); count = 1; rest = vs }) (onto l (parted vs))
      by [] r = absurd (let z : ◌≡◌ {A = ℕ} 0 1 = cc in omega (arith, z))
      by (v ∷ vs) r = ap (λ (k : Bytes). parted (k ∷ v ∷ vs)) (append-nil l) ∙ ap (λ (u : Bool). cond u (record { book = l ++ (newline ∷ []); count = 1; rest = v ∷ vs }) (onto l (parted (v ∷ vs)))) e

  part_byte : (l : Bytes) (b : ℕ) (ws : List Bytes) → (w : Bytes) × (vs : List Bytes) × (ws ≡ w ∷ vs) → with_first l (on_first b ws) ≡ with_first (l ++ (b ∷ [])) ws
  part_byte l b [] r = refl
  part_byte l b (w ∷ ws) r = ap (λ (k : Bytes). k ∷ ws) (sym (append_assoc l (b ∷ []) w))

  no_first : (s : Bytes) → part [] s ≡ parted (split newline s)
  no_first s = by (split newline s) (split_some newline s)
    where
      by : (vs : List Bytes) → (w : Bytes) × (ws : List Bytes) × (vs ≡ w ∷ ws) → parted (with_first [] vs) ≡ parted vs
      by [] r = absurd (let z : ◌≡◌ {A = ℕ} 0 1 = cc in omega (arith, z))
      by (v ∷ vs) r = refl

  pub open_long : (s : Bytes) → text_bytes < length s → open_editions both L s ≡ refused 9 0
  unfolding open_editions
  open_long s h = rw (lt-ltb text_bytes (length s) h)

  -- what comes of an opened book of n lines, and the lines behind it
  abbrev pub opened_then : ℕ → Opened → List Bytes → Step Held
  opened_then n (refused k line) ls = record { text = refusal_text k line; held = over }
  opened_then n (opened b) ls = behind (line_steps serve_call (at_line (suc n) (record { state = fresh b; shown = none })) ls)

  -- An input whose book is p: it is longer than a text may be; or it has not ended; or lines follow.
  pub record BookFed (text : Bytes) (count : ℕ) (ls : List Bytes) (r : Step Held) : Type 0 where
    pub long : text_bytes < length text → r ≡ record { text = refusal_text 9 0; held = over }
    pub begun : length text ≤ text_bytes → ls ≡ [] → (d : Begun) × (d.text ≡ text) × (r ≡ record { text = []; held = book d })
    pub ended : length text ≤ text_bytes → (l : Bytes) (ms : List Bytes) → ls ≡ l ∷ ms → r ≡ opened_then count (open_editions both L text) ls

  -- nothing more is read behind 9
  over_long : (text : Bytes) (count : ℕ) (ls : List Bytes) (s : Bytes) → text_bytes < length text → BookFed text count ls (after (refusal_text 9 0) (feed over s))
  over_long text count ls s h =
      record {
        long = λ q. ap (after (refusal_text 9 0)) (fed_over s) ∙ ap (λ (t : Bytes). record { text = t; held = over }) (append-nil (refusal_text 9 0));
        begun = λ q e. absurd (omega (arith, h, q));
        ended = λ q l ms e. absurd (omega (arith, h, q));
      }

  opened_then_lem : (n : ℕ) (o : Opened) (s : Bytes) → after (opening n o).text (feed (opening n o).held s) ≡ opened_then n o (split newline s)
  opened_then_lem n (refused k line) s = ap (after (refusal_text k line)) (fed_over s) ∙ ap (λ (t : Bytes). record { text = t; held = over }) (append-nil (refusal_text k line))
  opened_then_lem n (opened b) s = fed_calls (at_line (suc n) (record { state = fresh b; shown = none })) s

  -- a line `(end)` was read
  book_ended : (text : Bytes) (count : ℕ) (s : Bytes) → BookFed text count (split newline s) (after (opening count (open_editions both L text)).text (feed (opening count (open_editions both L text)).held s))
  book_ended text count s =
      record {
        long = λ h. opened_then_lem count (open_editions both L text) s ∙ ap (λ (o : Opened). opened_then count o (split newline s)) (open_long text h);
        begun = λ h e. absurd (none_left (split newline s) (split_some newline s) e);
        ended = λ h l ms e. opened_then_lem count (open_editions both L text) s;
      }
    where
      none_left : (vs : List Bytes) → (w : Bytes) × (ws : List Bytes) × (vs ≡ w ∷ ws) → vs ≡ [] → ⊥
      none_left [] r e = let z : ◌≡◌ {A = ℕ} 0 1 = cc in omega (arith, z)
      none_left (v ∷ vs) r e = let z : ◌≡◌ {A = ℕ} 0 1 = cc in omega (arith, z)

  -- another byte of the book
  book_more : (d : Begun) (text : Bytes) (count : ℕ) (ls : List Bytes) (s : Bytes) → length d.text ≤ length text → (length d.text ≤ text_bytes → BookFed text count ls (feed (book d) s))
      → BookFed text count ls (after (in_book d).text (feed (in_book d).held s))
  book_more d text count ls s h go = by (dec_lt text_bytes (length d.text))
    where
      is : Bool → Step Held
      is t = cond t (record { text = refusal_text 9 0; held = over }) (record { text = []; held = book d })

      by : Dec (text_bytes < length d.text) → BookFed text count ls (after (in_book d).text (feed (in_book d).held s))
      by (yes q) = subst (λ (t : Bool). BookFed text count ls (after (is t).text (feed (is t).held s))) (sym (lt-ltb text_bytes (length d.text) q)) (over_long text count ls s (omega (arith, h, q)))
      by (no q) = subst (λ (t : Bool). BookFed text count ls (after (is t).text (feed (is t).held s))) (sym (le-ltb text_bytes (length d.text) (omega (arith, q)))) (go (omega (arith, q)))

  -- the book has at least the bytes of the line that is being read
  part_long : (l s : Bytes) → length l ≤ length (part l s).book
  unfolding split parted
  part_long l [] = omega (arith, ap length (append-nil l))
  part_long l (b ∷ s) = by (eqb b newline) (part_long (l ++ (b ∷ [])) s)
    where
      ended : (t : Bool) → length l ≤ length (cond t (record { book = l ++ (newline ∷ []); count = 1; rest = split newline s }) (onto l (parted (split newline s)))).book
      ended true = omega (arith, length-append l (newline ∷ []))
      ended false = omega (arith, length-append l (newline ∷ (parted (split newline s)).book))

      by : (t : Bool) → length (l ++ (b ∷ [])) ≤ length (part (l ++ (b ∷ [])) s).book → length l ≤ length (parted (with_first l (cond t ([] ∷ split newline s) (on_first b (split newline s))))).book
      by true go = subst (λ (p : Parted). length l ≤ length p.book) (sym (part_line l s (same l end_line) refl)) (ended (same l end_line))
      by false go = subst (λ (ws : List Bytes). length l ≤ length (parted ws).book) (sym (part_byte l b (split newline s) (split_some newline s))) (omega (arith, go, length-append l (b ∷ [])))

  abbrev Goal : Bytes → ℕ → Parted → Step Held → Type 0
  Goal d n p r = BookFed (d ++ p.book) (n + p.count) p.rest r

  -- the lines before this one are d, its bytes so far l, and n lines came before it
  book_fed : (d l : Bytes) (n : ℕ) (t : Bytes) → t ≡ d ++ l → (s : Bytes) → length t ≤ text_bytes → Goal d n (part l s) (feed (book (record { text = t; line = l; count = n })) s)
  unfolding fed split parted
  book_fed d l n t e [] h =
      record {
        long = λ q. absurd (omega (arith, h, q, ap length is));
        begun = λ q u. (record { text = t; line = l; count = n }, is, refl);
        ended = λ q k ms u. absurd (let z : ◌≡◌ {A = ℕ} 0 1 = cc in omega (arith, z));
      }
    where
      is : t ≡ d ++ (l ++ [])
      is = e ∙ ap (λ (k : Bytes). d ++ k) (sym (append-nil l))
  book_fed d l n t e (b ∷ s) h =
      by (eqb b newline) (book_fed (t ++ (newline ∷ [])) [] (suc n) (t ++ (newline ∷ [])) (sym (append-nil (t ++ (newline ∷ [])))) s)
      (book_fed d (l ++ (b ∷ [])) n (t ++ (b ∷ [])) (ap (λ (k : Bytes). k ++ (b ∷ [])) e ∙ append_assoc d l (b ∷ [])) s)
    where
      line : Begun
      line = record { text = t ++ (newline ∷ []); line = []; count = suc n }

      byte : Begun
      byte = record { text = t ++ (b ∷ []); line = l ++ (b ∷ []); count = n }

      ends : Bool → Step Held
      ends u = cond u (opening (suc n) (open_editions both L (t ++ (newline ∷ [])))) (in_book line)

      step : Bool → Step Held
      step u = cond u (ends (same l end_line)) (in_book byte)

      -- the text and its count, with the line and its byte 10
      one : t ++ (newline ∷ []) ≡ d ++ (l ++ (newline ∷ []))
      one = ap (λ (k : Bytes). k ++ (newline ∷ [])) e ∙ append_assoc d l (newline ∷ [])

      two : (u : Bytes) → t ++ (newline ∷ []) ++ u ≡ d ++ (l ++ (newline ∷ u))
      two u = ap (λ (k : Bytes). k ++ u) one ∙ append_assoc d (l ++ (newline ∷ [])) u ∙ ap (λ (k : Bytes). d ++ k) (append_assoc l (newline ∷ []) u)

      p : Parted
      p = parted (split newline s)

      ended : (length (t ++ (newline ∷ [])) ≤ text_bytes → Goal (t ++ (newline ∷ [])) (suc n) (part [] s) (feed (book line) s)) → (u : Bool)
          → Goal d n (cond u (record { book = l ++ (newline ∷ []); count = 1; rest = split newline s }) (onto l p)) (after (ends u).text (feed (ends u).held s))
      ended go true =
          let k : suc n ≡ n + 1 = omega arith in
          subst (λ (m : ℕ). BookFed (d ++ (l ++ (newline ∷ []))) m (split newline s) (after (ends true).text (feed (ends true).held s))) k
          (subst (λ (x : Bytes). BookFed x (suc n) (split newline s) (after (ends true).text (feed (ends true).held s))) one (book_ended (t ++ (newline ∷ [])) (suc n) s))
      ended go false = book_more line (d ++ (l ++ (newline ∷ p.book))) (n + suc p.count) p.rest s (omega (arith, ap length (two p.book), length-append (t ++ (newline ∷ [])) p.book)) more
        where
          more : length line.text ≤ text_bytes → BookFed (d ++ (l ++ (newline ∷ p.book))) (n + suc p.count) p.rest (feed (book line) s)
          more q =
              let k : suc n + p.count ≡ n + suc p.count = omega arith in
              subst (λ (m : ℕ). BookFed (d ++ (l ++ (newline ∷ p.book))) m p.rest (feed (book line) s)) k
              (subst (λ (x : Bytes). BookFed x (suc n + p.count) p.rest (feed (book line) s)) (two p.book)
              (subst (λ (x : Parted). Goal (t ++ (newline ∷ [])) (suc n) x (feed (book line) s)) (no_first s) (go q)))

      by : (u : Bool) → (length (t ++ (newline ∷ [])) ≤ text_bytes → Goal (t ++ (newline ∷ [])) (suc n) (part [] s) (feed (book line) s))
          → (length (t ++ (b ∷ [])) ≤ text_bytes → Goal d n (part (l ++ (b ∷ [])) s) (feed (book byte) s))
          → Goal d n (parted (with_first l (cond u ([] ∷ split newline s) (on_first b (split newline s))))) (after (step u).text (feed (step u).held s))
      by true go on = subst (λ (x : Parted). Goal d n x (after (ends (same l end_line)).text (feed (ends (same l end_line)).held s))) (sym (part_line l s (same l end_line) refl)) (ended go (same l end_line))
      by false go on =
          subst (λ (ws : List Bytes). Goal d n (parted ws) (after (in_book byte).text (feed (in_book byte).held s))) (sym (part_byte l b (split newline s) (split_some newline s)))
          (book_more byte (d ++ (part (l ++ (b ∷ [])) s).book) (n + (part (l ++ (b ∷ [])) s).count) (part (l ++ (b ∷ [])) s).rest s
          (omega (arith, ap length e, length-append t (b ∷ []), length-append l (b ∷ []), length-append d l, length-append d (part (l ++ (b ∷ [])) s).book, part_long (l ++ (b ∷ [])) s)) on)

  -- from the first byte of the input on
  pub fed_book : (s : Bytes) → BookFed (parted (split newline s)).book (parted (split newline s)).count (parted (split newline s)).rest (feed start s)
  fed_book s =
      let e : (k : ℕ) → 0 + k ≡ k = λ k. omega arith in
      subst (λ (m : ℕ). BookFed (parted (split newline s)).book m (parted (split newline s)).rest (feed start s)) (e (parted (split newline s)).count)
      (subst (λ (p : Parted). Goal [] 0 p (feed start s)) (no_first s) (book_fed [] [] 0 [] refl s (omega arith)))

  -- ---- the theorem
  abbrev pub whole : Step Held → Bytes
  whole r = r.text ++ at_end L r.held

  unended_session : (p : Parted) (o : Opened) → p.rest ≡ [] → unended_book o ≡ opened_session p o
  unfolding serve_lines
  unended_session p (refused k line) e = refl
  unended_session p (opened b) e = sym (ap (serve_lines (suc p.count) (fresh b) none) e)

  opened_session_lem : (p : Parted) (o : Opened) → whole (opened_then p.count o p.rest) ≡ opened_session p o
  opened_session_lem p (refused k line) = append-nil (refusal_text k line)
  opened_session_lem p (opened b) = lines_printed serve_call p.rest (suc p.count) (record { state = fresh b; shown = none }) ∙ lines_session p.rest (suc p.count) (fresh b) none

  -- what is printed at the bytes of an input, and then at its end, is what the session prints
  pub by_steps : (s : Bytes) → whole (feed start s) ≡ session_program L s
  unfolding session_program
  by_steps s = by (dec_lt text_bytes (length p.book)) p.rest refl
    where
      p : Parted
      p = parted (split newline s)

      r : Step Held
      r = feed start s

      by : Dec (text_bytes < length p.book) → (ls : List Bytes) → p.rest ≡ ls → whole r ≡ opened_session p (open_editions both L p.book)
      by (yes h) ls e = ap whole ((fed_book s).long h) ∙ append-nil (refusal_text 9 0) ∙ sym (ap (opened_session p) (open_long p.book h))
      by (no h) [] e =
          let w = (fed_book s).begun (omega (arith, h)) e in
          ap whole w.2 ∙ ap (λ (t : Bytes). unended_book (open_editions both L t)) w.1 ∙ unended_session p (open_editions both L p.book) e
      by (no h) (l ∷ ms) e = ap whole ((fed_book s).ended (omega (arith, h)) l ms e) ∙ opened_session_lem p (open_editions both L p.book)

  -- Whatever the pieces are in which the input comes, one after another: what is printed at each, and then at the end, is what the session prints.
  pub session_by_pieces : (ps : List Bytes) → whole (fed_pieces (on_byte L) start ps) ≡ session_program L (joined ps)
  session_by_pieces ps = ap whole (every_cut (on_byte L) start ps) ∙ by_steps (joined ps)
