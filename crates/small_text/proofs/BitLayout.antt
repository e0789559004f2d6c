-- The bits of a line are laid out as its tokens.
use Rattle.std.proofs.Common.{ℕ, zero, suc, ◌≡◌, ◌+◌, ◌-◌, inl, inr, arith, Bool, true, false, ◌&&◌, IsTrue, refl, sym, ap, ◌∙◌, subst, List, [], ◌∷◌, ◌++◌, append_assoc, length, length-append, replicate, nat_lt, nat_le}
use Rattle.std.specs.List.{list_all}
use Rattle.py_base.specs.declared.Place.{Place}
use Rattle.py_tokens.specs.declared.piece.Piece.{Piece}
use Rattle.py_tokens.specs.declared.piece.Shape.{Shape}
use Rattle.py_tokens.specs.declared.piece.Shape.TheVariants as shapes
use Rattle.py_tokens.specs.declared.token.Token.{Token}
use Rattle.py_tokens.specs.declared.token.TokenForm.{TokenForm}
use Rattle.py_tokens.specs.declared.token.TokenForm.TheVariants as forms
use Rattle.py_tokens.specs.LineLayout.{Line, Fresh, Behind, Between, brackets_behind, Turns, Lays, separates, begins_line, goes_on, LaidOut}
use Rattle.small_text.proofs.LineBits.{Bit, bit, space, bits_text, at, bits_pieces, shape_tokens, bits_tokens}

abbrev pub between : Line → ℕ → List ℕ → Between
between line n ws = record { line = line; brackets = n; widths = ws }

-- a name of at most 255 ASCII characters
abbrev pub is_plain : List ℕ → Bool
is_plain name = list_all (λ c. nat_lt c 128) name && nat_le (length name) 255

-- a name, a keyword or a number
abbrev pub is_wordlike : Shape → Bool
is_wordlike (shapes.Whole (forms.Name name)) = true
is_wordlike (shapes.Whole (forms.Key k)) = true
is_wordlike (shapes.Whole (forms.Number n)) = true
is_wordlike s = false

-- The shape may stand in a line, behind a word or behind none.
abbrev pub Fits : Bool → Shape → Type 0
Fits w (shapes.Whole (forms.Name name)) = (w ≡ false) × IsTrue (is_plain name)
Fits w (shapes.Whole (forms.Key k)) = w ≡ false
Fits w (shapes.Whole (forms.Number n)) = w ≡ false
Fits w (shapes.Whole (forms.Mark m)) = Unit {0}
Fits w shapes.Space = Unit {0}
Fits w shapes.Comment = Unit {0}
Fits w s = ⊥

abbrev pub is_whole : Shape → Bool
is_whole (shapes.Whole form) = true
is_whole s = false

abbrev pub brackets_past : Shape → ℕ → ℕ
brackets_past (shapes.Whole form) n = brackets_behind form n
brackets_past s n = n

-- Behind a word or not, a token or not, and so many open brackets, these bits fit, and the last is a token with no bracket open behind it.
abbrev pub Goes : Bool → Bool → ℕ → List Bit → Type 0
Goes w whole n [] = (whole ≡ true) × (n ≡ 0)
Goes w whole n (b ∷ bs) = Fits w b.shape × Goes (is_wordlike b.shape) (is_whole b.shape) (brackets_past b.shape n) bs

-- the end of the last token
abbrev end_past : Shape → Place → Place → Place
end_past (shapes.Whole form) q e = q
end_past s q e = e

end_is : (s : Shape) (q e : Place) → is_whole s ≡ true → end_past s q e ≡ q
end_is (shapes.Whole form) q e h = refl
end_is shapes.LargeNumber q e h = cc
end_is shapes.Space q e h = cc
end_is shapes.Tab q e h = cc
end_is shapes.Comment q e h = cc
end_is shapes.LineEnd q e h = cc
end_is (shapes.BadEscape p) q e h = cc
end_is shapes.Unclosed q e h = cc
end_is shapes.Stray q e h = cc

abbrev piece_of : Place → Place → Shape → Piece
piece_of p q s = record { place = p; «end» = q; shape = s }

bit_lays : (w : Bool) (s : Shape) (p q e : Place) (n : ℕ) (ws : List ℕ) → Fits w s → Lays (between (Behind e) n ws) (piece_of p q s) (shape_tokens p q s) (between (Behind (end_past s q e)) (brackets_past s n) ws)
bit_lays w (shapes.Whole form) p q e n ws h = goes_on form e refl refl refl refl
bit_lays w shapes.Space p q e n ws h = separates (inl refl) refl refl
bit_lays w shapes.Comment p q e n ws h = separates (inr (inr refl)) refl refl
bit_lays w shapes.LargeNumber p q e n ws h = absurd h
bit_lays w shapes.Tab p q e n ws h = absurd h
bit_lays w shapes.LineEnd p q e n ws h = absurd h
bit_lays w (shapes.BadEscape r) p q e n ws h = absurd h
bit_lays w shapes.Unclosed p q e n ws h = absurd h
bit_lays w shapes.Stray p q e n ws h = absurd h

same_between : (p e : Place) (n : ℕ) (ws : List ℕ) → e ≡ p → n ≡ 0 → between (Behind p) 0 ws ≡ between (Behind e) n ws
same_between p e n ws h k = ap (λ (q : Place). between (Behind q) 0 ws) (sym h) ∙ ap (λ (m : ℕ). between (Behind e) m ws) (sym k)

-- where a line ends
pub line_end : (line col : ℕ) (text more : List ℕ) → at line (col + length text + length more) ≡ at line (col + length (text ++ more))
line_end line col text more = let k : col + length text + length more ≡ col + length (text ++ more) = omega (arith, length-append text more) in ap (at line) k

-- behind a token
pub bits_laid : (w whole : Bool) (n : ℕ) (bs : List Bit) (line col : ℕ) (e : Place) (ws : List ℕ) → Goes w whole n bs → (whole ≡ true → e ≡ at line col)
    → LaidOut (between (Behind e) n ws) (bits_pieces line col bs) (bits_tokens line col bs) (between (Behind (at line (col + length (bits_text bs)))) 0 ws)
bits_laid w whole n [] line col e ws h k =
    let same : col ≡ col + length (bits_text []) = omega arith in
    (refl, same_between (at line (col + length (bits_text []))) e n ws (k h.0 ∙ ap (at line) same) h.1)
bits_laid w whole n (b ∷ bs) line col e ws h k =
    let p : Place = at line col in
    let q : Place = at line (col + length b.text) in
    let next : Between = between (Behind (end_past b.shape q e)) (brackets_past b.shape n) ws in
    let on = bits_laid (is_wordlike b.shape) (is_whole b.shape) (brackets_past b.shape n) bs line (col + length b.text) (end_past b.shape q e) ws h.1 (end_is b.shape q e) in
    let on' = subst (λ (r : Place). LaidOut next (bits_pieces line (col + length b.text) bs) (bits_tokens line (col + length b.text) bs) (between (Behind r) 0 ws)) (line_end line col b.text (bits_text bs)) on in
    (shape_tokens p q b.shape, bits_tokens line (col + length b.text) bs, next, refl, bit_lays w b.shape p q e n ws h.0, on')

-- bits that begin with a token
pub record IsSpoken (bs : List Bit) : Type 0 where
  pub form : TokenForm
  pub text : List ℕ
  pub more : List Bit
  pub is : bs ≡ bit (shapes.Whole form) text ∷ more
  pub goes : Goes false false 0 (bit (shapes.Whole form) text ∷ more)

begin_laid : (form : TokenForm) (text : List ℕ) (more : List Bit) (line col : ℕ) (ws left : List ℕ) (turn : List Token) → Goes false false 0 (bit (shapes.Whole form) text ∷ more) → Turns (at line col) (col - 1) ws turn left
    → LaidOut (between Fresh 0 ws) (bits_pieces line col (bit (shapes.Whole form) text ∷ more)) (turn ++ bits_tokens line col (bit (shapes.Whole form) text ∷ more)) (between (Behind (at line (col + length (text ++ bits_text more)))) 0 left)
begin_laid form text more line col ws left turn h t =
    let p : Place = at line col in
    let q : Place = at line (col + length text) in
    let token : Token = record { place = p; «end» = q; form = form } in
    let rest : List Token = bits_tokens line (col + length text) more in
    let next : Between = between (Behind q) (brackets_behind form 0) left in
    let on = bits_laid (is_wordlike (shapes.Whole form)) true (brackets_behind form 0) more line (col + length text) q left h.1 (λ _. refl) in
    let on' = subst (λ (r : Place). LaidOut next (bits_pieces line (col + length text) more) rest (between (Behind r) 0 left)) (line_end line col text (bits_text more)) on in
    (turn ++ token ∷ [], rest, next, sym (append_assoc turn (token ∷ []) rest), begins_line form turn left refl refl t refl refl, on')

-- at the beginning of a line
pub spoken_laid : (bs : List Bit) (line col : ℕ) (ws left : List ℕ) (turn : List Token) → IsSpoken bs → Turns (at line col) (col - 1) ws turn left
    → LaidOut (between Fresh 0 ws) (bits_pieces line col bs) (turn ++ bits_tokens line col bs) (between (Behind (at line (col + length (bits_text bs)))) 0 left)
spoken_laid bs line col ws left turn s t =
    subst (λ (xs : List Bit). LaidOut (between Fresh 0 ws) (bits_pieces line col xs) (turn ++ bits_tokens line col xs) (between (Behind (at line (col + length (bits_text xs)))) 0 left)) (sym s.is) (begin_laid s.form s.text s.more line col ws left turn s.goes t)

-- A space brings nothing.
pub space_laid : (b last : Between) (line col : ℕ) (bs : List Bit) (ts : List Token) → LaidOut b (bits_pieces line (col + 1) bs) ts last → LaidOut b (bits_pieces line col (space ∷ bs)) ts last
space_laid b last line col bs ts h = ([], ts, b, refl, separates (inl refl) refl refl, h)

pub spaces_laid : (n : ℕ) (b : Between) (line col : ℕ) (bs : List Bit) → ((c : ℕ) → LaidOut b (bits_pieces line c bs) [] b) → LaidOut b (bits_pieces line col (replicate n space ++ bs)) [] b
spaces_laid zero b line col bs h = h col
spaces_laid (suc n) b line col bs h = space_laid b b line col (replicate n space ++ bs) [] (spaces_laid n b line (col + 1) bs h)

pub comment_laid : (b : Between) (line col : ℕ) (text : List ℕ) → LaidOut b (bits_pieces line col (bit shapes.Comment text ∷ [])) [] b
comment_laid b line col text = ([], [], b, refl, separates (inr (inr refl)) refl refl, (refl, refl))
