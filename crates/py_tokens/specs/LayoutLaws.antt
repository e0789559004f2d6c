-- Pieces are laid out in one way only.
use Rattle.std.proofs.Common.{ℕ, ◌≡◌, ◌<◌, ◌⊎◌, inl, inr, arith, refl, sym, ap, ◌∙◌, subst, List, [], ◌∷◌, ◌++◌, append_assoc}
use Rattle.py_base.specs.declared.Place.{Place}
use Rattle.py_tokens.specs.declared.piece.Piece.{Piece}
use Rattle.py_tokens.specs.declared.piece.Shape.{Shape}
use Rattle.py_tokens.specs.declared.piece.Shape.TheVariants as shapes
use Rattle.py_tokens.specs.declared.token.Token.{Token}
use Rattle.py_tokens.specs.declared.token.TokenForm.TheVariants as forms
use Rattle.py_tokens.specs.LineLayout.{Line, Fresh, Behind, Between, token_of, token_at, Closes, is_open, closes_one, Turns, deeper, not_deeper, width_at, behind, Lays, separates, begins_line, goes_on, ends_line, ends_blank_line, ends_within_brackets, LaidOut, last_newline, end_place, EndsWith}

-- the widths that are closed, by the newest of them
abbrev Closing : Place → ℕ → List ℕ → List Token → List ℕ → Type 0
Closing p width [] ts left = ⊥
Closing p width (w ∷ ws) ts left = ((width ≡ w) × (ts ≡ []) × (left ≡ w ∷ ws)) ⊎ ((more : List Token) × (width < w) × (ts ≡ token_at p forms.Dedent ∷ more) × Closing p width ws more left)

closing : (p : Place) (width : ℕ) (ws : List ℕ) (ts : List Token) (left : List ℕ) → Closes p width ws ts left → Closing p width ws ts left
closing p width ws ts left (is_open vs) = inl (refl, refl, refl)
closing p width ws ts left (closes_one v vs over us h c) = inr (us, h, refl, closing p width vs us over c)

same_closing : (p : Place) (width : ℕ) (ws : List ℕ) (ts us : List Token) (left over : List ℕ) → Closing p width ws ts left → Closing p width ws us over → (ts ≡ us) × (left ≡ over)
same_closing p width [] ts us left over h i = absurd h
same_closing p width (w ∷ ws) ts us left over (inl h) (inl i) = (h.1 ∙ sym i.1, h.2 ∙ sym i.2)
same_closing p width (w ∷ ws) ts us left over (inl h) (inr i) = let (more, l, e, c) = i in absurd (omega (arith, h.0, l))
same_closing p width (w ∷ ws) ts us left over (inr h) (inl i) = let (more, l, e, c) = h in absurd (omega (arith, i.0, l))
same_closing p width (w ∷ ws) ts us left over (inr h) (inr i) =
    let (more, l, e, c) = h in
    let (others, m, f, d) = i in
    let (k, n) = same_closing p width ws more others left over c d in
    (e ∙ ap (λ (t : List Token). token_at p forms.Dedent ∷ t) k ∙ sym f, n)

-- A width closes some widths in one way.
pub same_closes : (p : Place) (width : ℕ) (ws : List ℕ) (ts us : List Token) (left over : List ℕ) → Closes p width ws ts left → Closes p width ws us over → (ts ≡ us) × (left ≡ over)
same_closes p width ws ts us left over h i = same_closing p width ws ts us left over (closing p width ws ts left h) (closing p width ws us over i)

-- A width above the newest one closes none and isn't open.
not_above : (p : Place) (width w : ℕ) (vs ws : List ℕ) (ts : List Token) (left : List ℕ) → ws ≡ w ∷ vs → w < width → Closing p width ws ts left → ⊥
not_above p width w vs [] ts left e l h = h
not_above p width w vs (v ∷ us) ts left e l (inl h) = let k : v ≡ w = cc in omega (arith, k, l, h.0)
not_above p width w vs (v ∷ us) ts left e l (inr h) =
    let (more, m, f, c) = h in
    let k : v ≡ w = cc in omega (arith, k, l, m)

-- A line turns to its width in one way.
pub same_turns : (p : Place) (width : ℕ) (ws : List ℕ) (ts us : List Token) (left over : List ℕ) → Turns p width ws ts left → Turns p width ws us over → (ts ≡ us) × (left ≡ over)
same_turns p width ws ts us left over (deeper w vs e l f k) (deeper v xs d m g n) = (f ∙ sym g, k ∙ sym n)
same_turns p width ws ts us left over (deeper w vs e l f k) (not_deeper c) = absurd (not_above p width w vs ws us over e l (closing p width ws us over c))
same_turns p width ws ts us left over (not_deeper c) (deeper w vs e l f k) = absurd (not_above p width w vs ws ts left e l (closing p width ws ts left c))
same_turns p width ws ts us left over (not_deeper c) (not_deeper d) = same_closes p width ws ts us left over c d

-- what a piece brings, by its shape and the line so far
abbrev Laying : Between → Piece → Shape → Line → List Token → Between → Type 0
Laying b piece (shapes.Whole form) Fresh ts next = (turn : List Token) × (widths : List ℕ) × Turns piece.place (width_at piece.place) b.widths turn widths × (ts ≡ turn ++ token_of piece form ∷ []) × (next ≡ behind b piece form widths)
Laying b piece (shapes.Whole form) (Behind e) ts next = (ts ≡ token_of piece form ∷ []) × (next ≡ behind b piece form b.widths)
Laying b piece shapes.LineEnd Fresh ts next = (ts ≡ []) × (next ≡ b)
Laying b piece shapes.LineEnd (Behind e) ts next = ((b.brackets ≡ 0) × (ts ≡ token_at e forms.Newline ∷ []) × (next ≡ record { line = Fresh; brackets = 0; widths = b.widths })) ⊎ ((0 < b.brackets) × (ts ≡ []) × (next ≡ b))
Laying b piece shape line ts next = (ts ≡ []) × (next ≡ b)

abbrev At : Between → Piece → List Token → Between → Shape → Type 0
At b piece ts next shape = Laying b piece shape b.line ts next

separated : (b : Between) (piece : Piece) (ts : List Token) (next : Between) (line : Line) → (piece.shape ≡ shapes.Space) ⊎ ((piece.shape ≡ shapes.Tab) ⊎ (piece.shape ≡ shapes.Comment)) → ts ≡ [] → next ≡ b → Laying b piece piece.shape line ts next
separated b piece ts next line (inl e) f g = subst (λ (s : Shape). Laying b piece s line ts next) (sym e) (f, g)
separated b piece ts next line (inr (inl e)) f g = subst (λ (s : Shape). Laying b piece s line ts next) (sym e) (f, g)
separated b piece ts next line (inr (inr e)) f g = subst (λ (s : Shape). Laying b piece s line ts next) (sym e) (f, g)

moved : (b : Between) (piece : Piece) (ts : List Token) (next : Between) (shape : Shape) (line : Line) → piece.shape ≡ shape → b.line ≡ line → Laying b piece shape line ts next → Laying b piece piece.shape b.line ts next
moved b piece ts next shape line e f h = subst (λ (s : Shape). Laying b piece s b.line ts next) (sym e) (subst (λ (l : Line). Laying b piece shape l ts next) (sym f) h)

laying : (b : Between) (piece : Piece) (ts : List Token) (next : Between) → Lays b piece ts next → Laying b piece piece.shape b.line ts next
laying b piece ts next (separates k e f) = separated b piece ts next b.line k e f
laying b piece ts next (begins_line form turn widths k l t e f) = moved b piece ts next (shapes.Whole form) Fresh k l (turn, widths, t, e, f)
laying b piece ts next (goes_on form p k l e f) = moved b piece ts next (shapes.Whole form) (Behind p) k l (e, f)
laying b piece ts next (ends_line p k l z e f) = moved b piece ts next shapes.LineEnd (Behind p) k l (inl (z, e, f))
laying b piece ts next (ends_blank_line k l e f) = moved b piece ts next shapes.LineEnd Fresh k l (e, f)
laying b piece ts next (ends_within_brackets p k l z e f) = moved b piece ts next shapes.LineEnd (Behind p) k l (inr (z, e, f))

same_none : (b : Between) (ts us : List Token) (next other : Between) → (ts ≡ []) × (next ≡ b) → (us ≡ []) × (other ≡ b) → (ts ≡ us) × (next ≡ other)
same_none b ts us next other h i = (h.0 ∙ sym i.0, h.1 ∙ sym i.1)

same_laying : (shape : Shape) (line : Line) (b : Between) (piece : Piece) (ts us : List Token) (next other : Between) → Laying b piece shape line ts next → Laying b piece shape line us other → (ts ≡ us) × (next ≡ other)
same_laying (shapes.Whole form) Fresh b piece ts us next other h i =
    let (turn, widths, t, e, f) = h in
    let (bend, over, u, g, k) = i in
    let (m, n) = same_turns piece.place (width_at piece.place) b.widths turn bend widths over t u in
    (e ∙ ap (λ (x : List Token). x ++ token_of piece form ∷ []) m ∙ sym g, f ∙ ap (λ (x : List ℕ). behind b piece form x) n ∙ sym k)
same_laying (shapes.Whole form) (Behind p) b piece ts us next other h i = (h.0 ∙ sym i.0, h.1 ∙ sym i.1)
same_laying shapes.LineEnd Fresh b piece ts us next other h i = same_none b ts us next other h i
same_laying shapes.LineEnd (Behind p) b piece ts us next other (inl h) (inl i) = (h.1 ∙ sym i.1, h.2 ∙ sym i.2)
same_laying shapes.LineEnd (Behind p) b piece ts us next other (inl h) (inr i) = absurd (omega (arith, h.0, i.0))
same_laying shapes.LineEnd (Behind p) b piece ts us next other (inr h) (inl i) = absurd (omega (arith, h.0, i.0))
same_laying shapes.LineEnd (Behind p) b piece ts us next other (inr h) (inr i) = (h.1 ∙ sym i.1, h.2 ∙ sym i.2)
same_laying shapes.LargeNumber line b piece ts us next other h i = same_none b ts us next other h i
same_laying shapes.Space line b piece ts us next other h i = same_none b ts us next other h i
same_laying shapes.Tab line b piece ts us next other h i = same_none b ts us next other h i
same_laying shapes.Comment line b piece ts us next other h i = same_none b ts us next other h i
same_laying (shapes.BadEscape q) line b piece ts us next other h i = same_none b ts us next other h i
same_laying shapes.Unclosed line b piece ts us next other h i = same_none b ts us next other h i
same_laying shapes.Stray line b piece ts us next other h i = same_none b ts us next other h i

-- A piece brings one list of tokens, and one state is behind it.
pub same_lays : (b : Between) (piece : Piece) (ts us : List Token) (next other : Between) → Lays b piece ts next → Lays b piece us other → (ts ≡ us) × (next ≡ other)
same_lays b piece ts us next other h i = same_laying piece.shape b.line b piece ts us next other (laying b piece ts next h) (laying b piece us other i)

-- Pieces bring one list of tokens, and one state is behind them.
pub same_laid : (pieces : List Piece) (b : Between) (ts us : List Token) (last other : Between) → LaidOut b pieces ts last → LaidOut b pieces us other → (ts ≡ us) × (last ≡ other)
same_laid [] b ts us last other h i = same_none b ts us last other h i
same_laid (piece ∷ pieces) b ts us last other h i =
    let (front, more, next, e, lays, on) = h in
    let (fore, rest, then, f, brings, go) = i in
    let (k, l) = same_lays b piece front fore next then lays brings in
    let go' : LaidOut next pieces rest other = subst (λ (n : Between). LaidOut n pieces rest other) (sym l) go in
    let (m, n) = same_laid pieces next more rest last other on go' in
    (e ∙ ap (λ (x : List Token). x ++ more) k ∙ ap (λ (x : List Token). fore ++ x) m ∙ sym f, n)

-- A front of pieces is laid out, and then the rest.
pub laid_apart : (before rest : List Piece) (b : Between) (ts : List Token) (last : Between) → LaidOut b (before ++ rest) ts last → (front : List Token) × (more : List Token) × (next : Between) × (ts ≡ front ++ more) × LaidOut b before front next × LaidOut next rest more last
laid_apart [] rest b ts last h = ([], ts, b, refl, (refl, refl), h)
laid_apart (piece ∷ before) rest b ts last h =
    let (front, more, next, e, lays, on) = h in
    let (f, m, n, k, fore, behind) = laid_apart before rest next more last on in
    (front ++ f, m, n, e ∙ ap (λ (x : List Token). front ++ x) k ∙ sym (append_assoc front f m), (front, f, next, refl, lays, fore), behind)

pub laid_together : (before rest : List Piece) (b next last : Between) (front more : List Token) → LaidOut b before front next → LaidOut next rest more last → LaidOut b (before ++ rest) (front ++ more) last
laid_together [] rest b next last front more h i =
    let whole : more ≡ front ++ more = ap (λ (x : List Token). x ++ more) (sym h.0) in
    subst (λ (x : List Token). LaidOut b rest x last) whole (subst (λ (n : Between). LaidOut n rest more last) h.1 i)
laid_together (piece ∷ before) rest b next last front more h i =
    let (f, m, n, e, lays, on) = h in
    let whole : front ++ more ≡ f ++ (m ++ more) = ap (λ (x : List Token). x ++ more) e ∙ append_assoc f m more in
    (f, m ++ more, n, whole, lays, laid_together before rest n next last m more on i)

-- A text ends with one list of tokens.
pub same_ends : (b : Between) (p : Place) (ts us : List Token) → EndsWith b p ts → EndsWith b p us → ts ≡ us
same_ends b p ts us h i =
    let (dedents, left, c, e) = h in
    let (others, over, d, f) = i in
    let (k, l) = same_closes (end_place p) 0 b.widths dedents others left over c d in
    e ∙ ap (λ (x : List Token). last_newline b ++ x ++ token_at (end_place p) forms.End ∷ []) k ∙ sym f
