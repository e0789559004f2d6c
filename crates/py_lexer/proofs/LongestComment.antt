-- What is read of a comment is the longest front that is one.
use Rattle.std.proofs.Common.{ℕ, suc, ◌≡◌, ◌≤◌, ◌+◌, length, get_or, true, arith, refl, sym, ap, ◌∙◌, subst, List, [], ◌∷◌, ◌++◌, take, drop}
use Rattle.std.specs.List.{list_all, prefix_len}
use Rattle.py_tokens.specs.TextPieces.{Longest, IsComment}
use Rattle.py_lexer.specs.LongestForms.{is_in_line}
use Rattle.py_lexer.proofs.LongestWord.{passes, stops, second_passes}

comment_goes_on : (text front rest : List ℕ) → front ≡ take (prefix_len is_in_line text) text → rest ≡ drop (prefix_len is_in_line text) text → Longest IsComment (35 ∷ front) rest
comment_goes_on text front rest f r = (
  (front, refl, ap (list_all is_in_line) f ∙ passes is_in_line text),
  λ more behind e (all, h, t). stops is_in_line text more behind (sym r ∙ e) (second_passes is_in_line front more (let k : all ≡ front ++ more = cc in subst (λ (x : List ℕ). list_all is_in_line x ≡ true) k t)),
)

comment_longest : (c : ℕ) (text front rest : List ℕ) → c ≡ 35 → front ≡ take (1 + prefix_len is_in_line text) (c ∷ text) → rest ≡ drop (1 + prefix_len is_in_line text) (c ∷ text) → Longest IsComment front rest
comment_longest c text front rest h f r =
    let e : 1 + prefix_len is_in_line text ≡ suc (prefix_len is_in_line text) = omega arith in
    let k : front ≡ 35 ∷ take (prefix_len is_in_line text) text = f ∙ ap (λ n. take n (c ∷ text)) e ∙ ap (λ d. d ∷ take (prefix_len is_in_line text) text) h in
    let l : rest ≡ drop (prefix_len is_in_line text) text = r ∙ ap (λ n. drop n (c ∷ text)) e in
    subst (λ (x : List ℕ). Longest IsComment x rest) (sym k) (comment_goes_on text (take (prefix_len is_in_line text) text) rest refl l)

pub comment_in_front : (cs front rest : List ℕ) (n d : ℕ) → 1 ≤ length cs → get_or cs 0 d ≡ 35 → n ≡ prefix_len is_in_line (drop 1 cs) → front ≡ take (1 + n) cs → rest ≡ drop (1 + n) cs → Longest IsComment front rest
comment_in_front [] front rest n d w h e f r = absurd (omega arith)
comment_in_front (c ∷ text) front rest n d w h e f r = comment_longest c text front rest h (f ∙ ap (λ k. take (1 + k) (c ∷ text)) e) (r ∙ ap (λ k. drop (1 + k) (c ∷ text)) e)
