-- The lines that a small text passes over are rows.
use Rattle.std.proofs.Common.{◌≡◌, refl, sym, ap, ◌∙◌, ℕ, suc, ◌+◌, Bool, true, false, ◌&&◌, cond, ◌==◌, List, [], ◌∷◌, drop, append-nil, one-add, IsTrue, eqb-true}
use Rattle.std.specs.List.{list_all, prefix_len}
use Rattle.std.proofs.lemmas.Bool.{and_parts}
use Rattle.small_text.specs.TextLines.{is_printable, is_comment, is_skipped}
use Rattle.small_text.proofs.LineBits.{Row, blank, remark, head, says, row_text}
use Rattle.small_text.proofs.SmallRows.{IsPassed}

pub record PassedRow (line : List ℕ) : Type 0 where
  pub row : Row
  pub fine : IsPassed row
  pub text : line ≡ row_text row

abbrev is_space : ℕ → Bool
is_space b = b == 32

over_space : (b : ℕ) (bytes : List ℕ) → is_space b ≡ true → is_skipped (b ∷ bytes) ≡ is_skipped bytes
unfolding is_skipped
over_space b bytes h =
    ap (λ t. is_comment (drop (cond t (1 + prefix_len is_space bytes) 0) (b ∷ bytes))) h
    ∙ ap (λ n. is_comment (drop n (b ∷ bytes))) (one-add (prefix_len is_space bytes))

at_comment : (b : ℕ) (bytes : List ℕ) → is_space b ≡ false → is_skipped (b ∷ bytes) ≡ ((b == 35) && list_all is_printable bytes)
unfolding is_skipped
at_comment b bytes h = ap (λ t. is_comment (drop (cond t (1 + prefix_len is_space bytes) 0) (b ∷ bytes))) h

-- a space more in front
spaced : (b : ℕ) (bytes : List ℕ) (r : Row) → IsPassed r → bytes ≡ row_text r → b ≡ 32 → PassedRow (b ∷ bytes)
spaced b bytes (blank n) fine text is = record { row = blank (suc n); fine = fine; text = ap (λ t. b ∷ t) text ∙ ap (λ t. t ∷ row_text (blank n)) is }
spaced b bytes (remark n rest) fine text is = record { row = remark (suc n) rest; fine = fine; text = ap (λ t. b ∷ t) text ∙ ap (λ t. t ∷ row_text (remark n rest)) is }
spaced b bytes head fine text is = absurd fine
spaced b bytes (says s) fine text is = absurd fine

-- a line by its first character, where the rest of it is a row if it is passed over
first_is : (b : ℕ) (bytes : List ℕ) (t : Bool) → is_space b ≡ t → (IsTrue (is_skipped bytes) → PassedRow bytes) → IsTrue (is_skipped (b ∷ bytes)) → PassedRow (b ∷ bytes)
first_is b bytes true is rest h =
    let r = rest (sym (over_space b bytes is) ∙ h) in
    spaced b bytes r.row r.fine r.text (eqb-true b 32 is)
first_is b bytes false is rest h =
    let comment : ((b == 35) && list_all is_printable bytes) ≡ true = sym (at_comment b bytes is) ∙ h in
    record {
      row = remark 0 bytes;
      fine = (and_parts (b == 35) (list_all is_printable bytes) comment).1;
      text = ap (λ t. t ∷ bytes) (eqb-true b 35 ((and_parts (b == 35) (list_all is_printable bytes) comment).0)) ∙ ap (λ t. 35 ∷ t) (sym (append-nil bytes));
    }

pub passed_row : (line : List ℕ) → IsTrue (is_skipped line) → PassedRow line
passed_row [] h = record { row = blank 0; fine = tt; text = refl }
passed_row (b ∷ bytes) h = first_is b bytes (is_space b) refl (passed_row bytes) h
