-- What a line says, and what it is read as.
use Rattle.std.proofs.Common.{ℕ, ◌≡◌, ◌≢◌, ◌<◌, ◌≤◌, ◌+◌, ◌^◌, List, [], ◌∷◌, ◌++◌, length, get_or, take, drop, Bool, true, false, cond, not, Option, Some, None, refl, sym, ap, subst, ◌∙◌, arith, rules, ◌==◌, codes, bytes_eq, append_assoc, ◌⊎◌, inl, inr, nat_lt, length-append}
use Rattle.std.specs.List.{list_all, position_or_len, before_first, after_first}
use Rattle.std.specs.Str.{IsUtf8, is_utf8}
use Rattle.std.proofs.lemmas.Str.{is_utf8-from_IsUtf8, IsUtf8-from_is_utf8}
use Rattle.std.proofs.lemmas.List.{take-append-drop, get_or_append_left}
use Rattle.std.proofs.Math.Seq.{take-append_seam, drop-append_seam, drop-append-add}
use Rattle.std.proofs.lemmas.Option.{cond_some, same_Some, none-some, some_pair_parts}
use Rattle.std.proofs.lemmas.Slice.Eq.{bytes_eq-Decides}
use Rattle.std.proofs.lemmas.Grind.{common_steps}
use Rattle.schedule_runner.specs.declared.schedule.ScheduleLine.{ScheduleLine}
use Rattle.schedule_runner.specs.declared.schedule.ScheduleLine.TheVariants.{Give, Fair}
use Rattle.schedule_runner.specs.ScheduleText.{IsNumber, IsCount, IsGive, IsFair, IsComment, IsLine, empty, comment, give, fair}
use Rattle.schedule_runner.specs.Reading.{◌>>=◌, is_digit, is_number, number_of, count_of, behind, cut_at, give_of, line_of, is_silent}
use Rattle.schedule_runner.proofs.Digits.{number_is, number_found, count_is, count_found, digits_of, some_digit}

abbrev is_space : ℕ → Bool
is_space b = b == 32

bind_some : {A B : Type 0} (o : Option A) (f : A → Option B) (y : B) → (o >>= f) ≡ Some y → (x : A) × (o ≡ Some x) × (f x ≡ Some y)
bind_some None f y e = absurd (none-some y e)
bind_some (Some x) f y e = (x, refl, e)

-- digits have no space
before_space : (t c : List ℕ) → list_all is_digit t ≡ true → position_or_len is_space (t ++ 32 ∷ c) ≡ length t
before_space [] c digits = refl
before_space (b ∷ t) c digits = grind (arith, common_steps, digits, before_space t c (grind (arith, common_steps, digits)))

parted : (t c : List ℕ) → cond {A = Option (List ℕ × List ℕ)} (nat_lt (length t) (length (t ++ 32 ∷ c))) (Some (take (length t) (t ++ 32 ∷ c), drop (length t + 1) (t ++ 32 ∷ c))) None ≡ Some (t, c)
parted t c =
    let within : length t < length (t ++ 32 ∷ c) = simp length-append (grind arith) in
    let front : take (length t) (t ++ 32 ∷ c) ≡ t = take-append_seam t (32 ∷ c) in
    let back : drop (length t + 1) (t ++ 32 ∷ c) ≡ c = drop-append-add t (32 ∷ c) 1 in
    grind (arith, common_steps, within, front, back)

cut_is : (t c : List ℕ) → list_all is_digit t ≡ true → cut_at 32 (t ++ 32 ∷ c) ≡ Some (t, c)
cut_is t c digits =
    let line : List ℕ = t ++ 32 ∷ c in
    ap (λ n. cond {A = Option (List ℕ × List ℕ)} (nat_lt n (length line)) (Some (take n line, drop (n + 1) line)) None) (before_space t c digits) ∙ parted t c

whole_at : (line : List ℕ) → position_or_len is_space line < length line → line ≡ before_first is_space line ++ 32 ∷ after_first is_space line
whole_at [] within = let none : ⊥ = omega (arith, within) in absurd none
whole_at (b ∷ bytes) within = by (is_space b) refl (λ h. whole_at bytes h) where
  by : (t : Bool) → is_space b ≡ t → (position_or_len is_space bytes < length bytes → bytes ≡ before_first is_space bytes ++ 32 ∷ after_first is_space bytes) → b ∷ bytes ≡ before_first is_space (b ∷ bytes) ++ 32 ∷ after_first is_space (b ∷ bytes)
  by true is more = grind (arith, common_steps, is)
  by false is more = grind (arith, common_steps, is, more (grind (arith, common_steps, is, within)))

cut_found : (line : List ℕ) (parts : List ℕ × List ℕ) → cut_at 32 line ≡ Some parts → line ≡ parts.0 ++ 32 ∷ parts.1
cut_found line parts e =
    let g = cond_some _ _ _ e in
    whole_at line (grind (arith, g.0)) ∙ ap (λ (p : List ℕ × List ℕ). p.0 ++ 32 ∷ p.1) g.1

pub give_is : (line : List ℕ) (n k : ℕ) → IsGive line n k → give_of line ≡ Some (Give n k)
unfolding give_of
give_is line n k is =
    let whole : line ≡ is.thread ++ 32 ∷ is.count = is.whole ∙ append_assoc is.thread (codes " ") is.count in
    let cut : cut_at 32 line ≡ Some (is.thread, is.count) = ap (cut_at 32) whole ∙ cut_is is.thread is.count (digits_of is.thread n is.is_thread) in
    let second : ℕ → List ℕ → Option ScheduleLine = λ n rest. count_of rest >>= λ k. Some (Give n k) in
    let first : List ℕ × List ℕ → Option ScheduleLine = λ parts. number_of parts.0 >>= λ n. second n parts.1 in
    ap (λ o. o >>= first) cut ∙ ap (λ o. o >>= λ n. second n is.count) (number_is is.thread n is.is_thread) ∙ ap (λ o. o >>= λ k. Some (Give n k)) (count_is is.count k is.is_count)

pub give_found : (line : List ℕ) (says : ScheduleLine) → give_of line ≡ Some says → IsLine line (Some says)
unfolding give_of
give_found line says e =
    let second : ℕ → List ℕ → Option ScheduleLine = λ n rest. count_of rest >>= λ k. Some (Give n k) in
    let first : List ℕ × List ℕ → Option ScheduleLine = λ parts. number_of parts.0 >>= λ n. second n parts.1 in
    let parts = bind_some (cut_at 32 line) first says e in
    let n = bind_some (number_of parts.0.0) (λ n. second n parts.0.1) says parts.2 in
    let k = bind_some (count_of parts.0.1) (λ k. Some (Give n.0 k)) says n.2 in
    give n.0 k.0 (record {
      thread = parts.0.0;
      count = parts.0.1;
      whole = cut_found line parts.0 parts.1 ∙ sym (append_assoc parts.0.0 (codes " ") parts.0.1);
      is_thread = number_found parts.0.0 n.0 n.1;
      is_count = count_found parts.0.1 k.0 k.1;
    }) (sym k.2)

behind_is : (front rest : List ℕ) → behind front (front ++ rest) ≡ Some rest
behind_is front rest =
    let same : bytes_eq (take (length front) (front ++ rest)) front ≡ true = (bytes_eq-Decides _ _).1 (take-append_seam front rest) in
    ap (λ t. cond t (Some (drop (length front) (front ++ rest))) None) same ∙ ap (λ x. Some x) (drop-append_seam front rest)

behind_found : (front line rest : List ℕ) → behind front line ≡ Some rest → line ≡ front ++ rest
behind_found front line rest e =
    let g = cond_some _ _ _ e in
    sym (take-append-drop (length front) line) ∙ ap (λ x. x ++ drop (length front) line) ((bytes_eq-Decides _ _).0 g.0) ∙ ap (λ x. front ++ x) g.1

-- a number stands in front of no `fair `
first_of_number : (t rest : List ℕ) (n : ℕ) → IsNumber t n → (0 < length (t ++ rest)) × (48 ≤ get_or (t ++ rest) 0 0) × (get_or (t ++ rest) 0 0 ≤ 57)
first_of_number t rest n is =
    let digit = some_digit t n is in
    let same : get_or (t ++ rest) 0 0 ≡ get_or t 0 0 = get_or_append_left t rest 0 0 digit.0 in
    (simp length-append (omega (arith, digit.0)), omega (arith, digit, same), omega (arith, digit, same))

no_fair : (line : List ℕ) → get_or line 0 0 ≤ 57 → behind (codes "fair ") line ≡ None
no_fair line low = by (behind (codes "fair ") line) refl where
  by : (o : Option (List ℕ)) → behind (codes "fair ") line ≡ o → o ≡ None
  by None is = refl
  by (Some rest) is =
      let first : get_or line 0 0 ≡ 102 = ap (λ x. get_or x 0 0) (behind_found (codes "fair ") line rest is) in
      let none : ⊥ = omega (arith, first, low) in
      absurd none

abbrev line_from : Option (List ℕ) → List ℕ → Option ScheduleLine
line_from (Some count) line = count_of count >>= λ k. Some (Fair k)
line_from None line = give_of line

line_is_from : (line : List ℕ) → line_of line ≡ line_from (behind (codes "fair ") line) line
unfolding line_of
line_is_from line = by (behind (codes "fair ") line) where
  by : (o : Option (List ℕ)) → (elim o as (λ _. Option ScheduleLine) [ Some count ↦ count_of count >>= λ k. Some (Fair k) | None ↦ give_of line ]) ≡ line_from o line
  by None = refl
  by (Some count) = refl

no_fair_line : (line rest : List ℕ) (n : ℕ) (t : List ℕ) → IsNumber t n → line ≡ t ++ rest → behind (codes "fair ") line ≡ None
no_fair_line line rest n t is whole =
    let first = first_of_number t rest n is in
    ap (behind (codes "fair ")) whole ∙ no_fair (t ++ rest) first.2

pub line_is : (line : List ℕ) (says : ScheduleLine) → IsLine line (Some says) → line_of line ≡ Some says
line_is line says (empty e n) = absurd (none-some says (sym n))
line_is line says (comment e n) = absurd (none-some says (sym n))
line_is line says (give n k is s) =
    line_is_from line ∙ ap (λ o. line_from o line) (no_fair_line line (codes " " ++ is.count) n is.thread is.is_thread (is.whole ∙ append_assoc is.thread (codes " ") is.count)) ∙ give_is line n k is ∙ sym s
line_is line says (fair k is s) =
    line_is_from line ∙ ap (λ o. line_from o line) (ap (behind (codes "fair ")) is.whole ∙ behind_is (codes "fair ") is.count) ∙ ap (λ o. o >>= λ k. Some (Fair k)) (count_is is.count k is.is_count) ∙ sym s

pub line_found : (line : List ℕ) (says : ScheduleLine) → line_of line ≡ Some says → IsLine line (Some says)
line_found line says e = by (behind (codes "fair ") line) refl where
  by : (o : Option (List ℕ)) → behind (codes "fair ") line ≡ o → IsLine line (Some says)
  by None is = give_found line says (sym (ap (λ o. line_from o line) is) ∙ sym (line_is_from line) ∙ e)
  by (Some count) is =
      let k = bind_some (count_of count) (λ k. Some (Fair k)) says (sym (ap (λ o. line_from o line) is) ∙ sym (line_is_from line) ∙ e) in
      fair k.0 (record { count = count; whole = behind_found (codes "fair ") line count is; is_count = count_found count k.0 k.1 }) (sym k.2)

pub silent_found : (line : List ℕ) → is_silent line ≡ true → IsLine line None
unfolding is_silent
silent_found [] is = empty refl refl
silent_found (b ∷ bytes) is =
    let first : b ≡ 35 = grind (arith, common_steps, is) in
    let text : is_utf8 (b ∷ bytes) ≡ true = grind (arith, common_steps, is) in
    comment (record { text = bytes; whole = ap (λ x. x ∷ bytes) first; utf8 = IsUtf8-from_is_utf8 (b ∷ bytes) text }) refl

pub silent_is : (line : List ℕ) → IsLine line None → is_silent line ≡ true
unfolding is_silent
silent_is line (empty e n) = grind (arith, common_steps, e)
silent_is line (comment is n) =
    let text : is_utf8 line ≡ true = is_utf8-from_IsUtf8 line is.utf8 in
    let first : get_or line 0 0 ≡ 35 = ap (λ x. get_or x 0 0) is.whole in
    grind (arith, common_steps, text, first)
silent_is line (give n k is s) = absurd (none-some _ s)
silent_is line (fair k is s) = absurd (none-some _ s)

loud_from : (line : List ℕ) → 0 < length line → get_or line 0 0 ≢ 35 → is_silent line ≡ false
unfolding is_silent
loud_from line some other = grind (arith, common_steps)

pub says_is_loud : (line : List ℕ) (says : ScheduleLine) → IsLine line (Some says) → is_silent line ≡ false
says_is_loud line says (empty e n) = absurd (none-some says (sym n))
says_is_loud line says (comment e n) = absurd (none-some says (sym n))
says_is_loud line says (give n k is s) =
    let whole : line ≡ is.thread ++ (codes " " ++ is.count) = is.whole ∙ append_assoc is.thread (codes " ") is.count in
    let first = first_of_number is.thread (codes " " ++ is.count) n is.is_thread in
    ap is_silent whole ∙ loud_from (is.thread ++ (codes " " ++ is.count)) first.0 (omega (arith, first))
says_is_loud line says (fair k is s) =
    let first : get_or line 0 0 ≡ 102 = ap (λ x. get_or x 0 0) is.whole in
    let long : length line ≡ length (codes "fair " ++ is.count) = ap length is.whole in
    loud_from line (grind (arith, common_steps, long)) (omega (arith, first))
