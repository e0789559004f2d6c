use Rattle.std.proofs.Common.{◌+◌, ◌-◌, List, ℕ, refl, subst, sym, ap, ◌∙◌, drop, length, ◌++◌, string_bytes, Vec, Global}
use Rattle.py_tokens.specs.declared.TokenForm.TheVariants as forms
use Rattle.py_tokens.specs.declared.Shape.TheVariants as shapes
use Rattle.py_tokens.specs.PlacedText.{after}
use Rattle.py_tokens.specs.StringForms.{Part, GoesOn, quote_text}
use Rattle.py_lexer.specs.declared.strings.Reading.{Reading}
use Rattle.py_lexer.specs.declared.strings.Reading.TheVariants as readings
use Rattle.py_lexer.specs.StringReading.{quotes_of, StandsNext, NeverCloses}
use Rattle.py_lexer.specs.PieceForms.{StandsAt}
use Rattle.py_lexer.proofs.StringWhole.{inner_is, left_shorter, behind_shorter, string_piece, bad_piece, open_piece, never_behind_read, never_behind_lone}
use Rattle.py_lexer.proofs.string_pieces.read_string.Goals as goal

pub overflow_sub-read : goal.overflow_sub-read
overflow_sub-read c = left_shorter (quotes_of c.args.opening) c.args.codes.now c.split_at.result.1.now (string_bytes c.in_ok-text.text) c.in_ok-text.rest.now (inner_is (quotes_of c.args.opening) c.args.codes.now c.split_at.result.1.now c.quotes_len.result c.requires.opens c.quotes_len.ensures c.split_at.ensures.back) c.in_ok-text.ensures.read

pub returns-in-Closing : goal.returns-in-Closing
returns-in-Closing c =
    let q = quotes_of c.args.opening in
    let e = inner_is q c.args.codes.now c.split_at.result.1.now c.quotes_len.result c.requires.opens c.quotes_len.ensures c.split_at.ensures.back in
    let n = length c.args.codes.now - length c.in_ok-text.rest.now + c.quotes_len-in-Closing.result in
    let h : StandsAt c.args.place c.args.codes.now n (shapes.Whole (forms.Str (string_bytes c.in_ok-text.text))) = string_piece q c.args.place c.args.codes.now c.split_at.result.1.now (string_bytes c.in_ok-text.text) c.in_ok-text.rest.now n c.requires.opens e c.in_ok-text.ensures.read (subst (λ (r : Reading). StandsNext q c.in_ok-text.rest.now r) (ap (λ s. readings.Stop s) c.in-Closing.is) c.in_ok-text.ensures.stop) (ap (λ k. length c.args.codes.now - length c.in_ok-text.rest.now + k) c.quotes_len-in-Closing.ensures) in
    subst (λ (b : List ℕ). StandsAt c.args.place c.args.codes.now n (shapes.Whole (forms.Str b))) (sym (c.of-text.ensures ∙ ap (λ (v : Vec ℕ Global). v.items) c.into_bytes.ensures.value)) h

pub returns-in-Unclosed : goal.returns-in-Unclosed
returns-in-Unclosed c =
    let q = quotes_of c.args.opening in
    let e = inner_is q c.args.codes.now c.split_at.result.1.now c.quotes_len.result c.requires.opens c.quotes_len.ensures c.split_at.ensures.back in
    open_piece q c.args.place c.args.codes.now c.split_at.result.1.now c.requires.opens e (never_behind_read q c.split_at.result.1.now (string_bytes c.in_ok-text.text) c.in_ok-text.rest.now c.in_ok-text.ensures.read (subst (λ (r : Reading). StandsNext q c.in_ok-text.rest.now r) (ap (λ s. readings.Stop s) c.in-Unclosed.is) c.in_ok-text.ensures.stop))

pub returns-in-None : goal.returns-in-None
returns-in-None c =
    let q = quotes_of c.args.opening in
    let e = inner_is q c.args.codes.now c.split_at.result.1.now c.quotes_len.result c.requires.opens c.quotes_len.ensures c.split_at.ensures.back in
    let k : NeverCloses q (drop 1 c.in_ok-text.rest.now) = subst (λ (x : List ℕ). NeverCloses q x) c.split_at-in-LoneBackslash.ensures.back (rw c.in-None.is at c.behind_closing.ensures) in
    open_piece q c.args.place c.args.codes.now c.split_at.result.1.now c.requires.opens e (never_behind_lone q c.split_at.result.1.now (string_bytes c.in_ok-text.text) c.in_ok-text.rest.now c.in_ok-text.ensures.read (subst (λ (r : Reading). StandsNext q c.in_ok-text.rest.now r) (ap (λ s. readings.Stop s) c.in-LoneBackslash.is) c.in_ok-text.ensures.stop) k)

pub overflow_sub-result : goal.overflow_sub-result
overflow_sub-result c =
    let q = quotes_of c.args.opening in
    let e = inner_is q c.args.codes.now c.split_at.result.1.now c.quotes_len.result c.requires.opens c.quotes_len.ensures c.split_at.ensures.back in
    let g : (parts : List Part) × GoesOn q c.split_at-in-LoneBackslash.result.1.now parts (quote_text q ++ c.in-Some.behind.now) = c.in-Some.ensures in
    behind_shorter q c.args.codes.now c.split_at.result.1.now (string_bytes c.in_ok-text.text) c.in_ok-text.rest.now c.in-Some.behind.now g.0 e c.in_ok-text.ensures.read (subst (λ (x : List ℕ). GoesOn q x g.0 (quote_text q ++ c.in-Some.behind.now)) c.split_at-in-LoneBackslash.ensures.back g.1)

pub returns : goal.returns
returns c =
    let q = quotes_of c.args.opening in
    let e = inner_is q c.args.codes.now c.split_at.result.1.now c.quotes_len.result c.requires.opens c.quotes_len.ensures c.split_at.ensures.back in
    let g : (parts : List Part) × GoesOn q c.split_at-in-LoneBackslash.result.1.now parts (quote_text q ++ c.in-Some.behind.now) = c.in-Some.ensures in
    bad_piece q c.args.place c.place_after-backslash.result c.args.codes.now c.split_at.result.1.now (string_bytes c.in_ok-text.text) c.in_ok-text.rest.now c.in-Some.behind.now g.0 (length c.args.codes.now - length c.in-Some.behind.now) c.requires.opens e c.in_ok-text.ensures.read (subst (λ (r : Reading). StandsNext q c.in_ok-text.rest.now r) (ap (λ s. readings.Stop s) c.in-LoneBackslash.is) c.in_ok-text.ensures.stop) (subst (λ (x : List ℕ). GoesOn q x g.0 (quote_text q ++ c.in-Some.behind.now)) c.split_at-in-LoneBackslash.ensures.back g.1) (c.place_after-backslash.ensures ∙ ap (λ x. after c.args.place x) c.split_at-in-Some.ensures.front) refl
