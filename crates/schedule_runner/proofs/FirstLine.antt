-- The first line of a text, and the lines behind it.
use Rattle.std.proofs.Common.{ℕ, ◌≡◌, ◌<◌, ◌≤◌, List, [], ◌∷◌, length, Bool, true, false, cond, Option, Some, None, refl, sym, ap, subst, ◌∙◌, arith, ◌==◌, nat_lt, not, take, drop}
use Rattle.std.specs.List.{slice_split, onto_first, position_or_len, before_first, after_first}
use Rattle.std.specs.Str.Lines.{strip_carriage_return, lines_of_parts}
use Rattle.std.proofs.lemmas.Grind.{common_steps}
use Rattle.std.proofs.lemmas.List.Splits.{slice_split_first, length-slice_split}
use Rattle.std.proofs.lemmas.Option.{cond_some, some_pair_parts}
use Rattle.schedule_runner.specs.ScheduleText.{lines_of}
use Rattle.schedule_runner.specs.Reading.{cut_at}

abbrev pub is_lf : ℕ → Bool
is_lf b = b == 10

lines_more : (x : List ℕ) (parts : List (List ℕ)) → 0 < length parts → lines_of_parts (x ∷ parts) ≡ strip_carriage_return x ∷ lines_of_parts parts
lines_more x [] some = let no : ⊥ = omega (arith, some) in absurd no
lines_more x (y ∷ more) some = refl

some_parts : (text : List ℕ) → 0 < length (slice_split is_lf text)
some_parts text = omega (arith, length-slice_split is_lf text)

pub lines_first : (text line rest : List ℕ) → Some (line, rest) ≡ cut_at 10 text → lines_of text ≡ strip_carriage_return line ∷ lines_of rest
lines_first text line rest e =
    let g = cond_some _ _ _ (sym e) in
    let within : position_or_len is_lf text < length text = grind (arith, g.0) in
    let parts : slice_split is_lf text ≡ before_first is_lf text ∷ slice_split is_lf (after_first is_lf text) = slice_split_first is_lf text 0 within in
    let known : lines_of text ≡ strip_carriage_return (before_first is_lf text) ∷ lines_of (after_first is_lf text) = ap lines_of_parts parts ∙ lines_more (before_first is_lf text) (slice_split is_lf (after_first is_lf text)) (some_parts (after_first is_lf text)) in
    known ∙ ap (λ (p : List ℕ × List ℕ). strip_carriage_return p.0 ∷ lines_of p.1) g.1

-- a text without LF is one part
one_part : (text : List ℕ) → length text ≤ position_or_len is_lf text → slice_split is_lf text ≡ text ∷ []
one_part [] all = refl
one_part (b ∷ bytes) all = by (is_lf b) refl (λ h. one_part bytes h) where
  by : (t : Bool) → is_lf b ≡ t → (length bytes ≤ position_or_len is_lf bytes → slice_split is_lf bytes ≡ bytes ∷ []) → cond (is_lf b) ([] ∷ slice_split is_lf bytes) (onto_first b (slice_split is_lf bytes)) ≡ (b ∷ bytes) ∷ []
  by true is more = let none : ⊥ = grind (arith, is, all) in absurd none
  by false is more = rw is (ap (onto_first b) (more (grind (arith, is, all))))

pub lines_last : (text : List ℕ) → None ≡ cut_at 10 text → 0 < length text → lines_of text ≡ text ∷ []
lines_last text e some =
    let all : length text ≤ position_or_len is_lf text = grind (arith, common_steps, e) in
    let other : (length text == 0) ≡ false = grind (arith, some) in
    ap lines_of_parts (one_part text all) ∙ ap (λ t. cond t [] (text ∷ [])) other
