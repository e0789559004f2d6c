-- The faults of a piece by the pieces in front of it are those by what stands in front on its line.
use Rattle.std.specs.Prelude.{All, length}
use Rattle.std.proofs.Common.{ℕ, pos, ◌≡◌, ◌≤◌, ◌+◌, ◌==◌, ◌⊎◌, inl, inr, Bool, true, false, List, [], ◌∷◌, ◌++◌, refl, sym, ap, ◌∙◌, subst, arith, append_assoc}
use Rattle.std.proofs.lemmas.List.Elements.{All-nil, All-cons, All-append, All-head, All-tail}
use Rattle.py_base.specs.declared.Place.{Place}
use Rattle.py_tokens.specs.declared.Token.{Token}
use Rattle.py_tokens.specs.declared.TokenForm.TheVariants as forms
use Rattle.py_tokens.specs.declared.Piece.{Piece}
use Rattle.py_tokens.specs.declared.Shape.{Shape}
use Rattle.py_tokens.specs.declared.Shape.TheVariants as shapes
use Rattle.py_tokens.specs.declared.LexFault.{LexFault}
use Rattle.py_tokens.specs.declared.LexFault.TheVariants as faults
use Rattle.py_tokens.specs.PlacedText.{after, text_start}
use Rattle.py_tokens.specs.TextPieces.{IsPiece, CutInto}
use Rattle.py_tokens.specs.LineLayout.{Between, Fresh, Behind, before_all, LaidOut, Lays, separates, begins_line, goes_on, ends_line, ends_blank_line, ends_within_brackets, width_at}
use Rattle.py_tokens.specs.TextTokens.{IsSpace, IsBlank, IsNumeral, fits, is_large, BeginsToken, FreshAfter, IsNewBelow}
use Rattle.py_tokens.specs.CutLaws.{cut_behind, pieces_touch}
use Rattle.py_tokens.specs.LayoutLaws.{same_laid, laid_apart}
use Rattle.py_lexer.specs.declared.layout.Layout.{Layout}
use Rattle.py_lexer.specs.declared.layout.LineFront.{LineFront}
use Rattle.py_lexer.specs.declared.layout.LineFront.TheVariants as fronts
use Rattle.py_lexer.specs.Walk.{line_of, between_of, layout_past, next_layout, first_layout, past_number, past_tab, past_line_end}
use Rattle.py_lexer.proofs.Laying.{number_line, tab_line, form_line}
use Rattle.py_lexer.proofs.PieceEnds.{not_at_start, from_one, past_spaces}
use Rattle.py_lexer.proofs.Splits.{with_last}
use Rattle.py_lexer.proofs.LineFronts.{Shows, shows_spaces, shows_tab, shows_comment, shows_number, shows_behind}
use Rattle.py_lexer.proofs.OpenTests.{token_begins, begins_is, name_begins, as_name_is, new_is_below, below_is_new}
use Rattle.py_lexer.proofs.OwnFaults.{OwnFault, own_stray, own_number, own_escape, own_tab, own_dedent, own_unclosed, own_large, own_other_form, own_long}
use Rattle.py_lexer.proofs.FirstOfPiece.{NowFault, FrontNow, ShapeNow, now_number, now_tab, now_dedent, now_stray, now_escape, now_unclosed, now_large, now_long, now_other_form}

-- from what stands in front to the pieces

shown_number : (done : List Piece) (place : Place) (line : LineFront) (e : Place) → Shows done place line → line ≡ fronts.Number e → (front : List Piece) × (number : Piece) × (done ≡ front ++ number ∷ []) × IsNumeral number.shape
shown_number done place _ e (shows_spaces front spaces b d fresh all col) h = absurd cc
shown_number done place _ e (shows_tab front spaces blanks tab b d fresh all col shape blank) h = absurd cc
shown_number done place _ e shows_comment h = absurd cc
shown_number done place _ e (shows_number front number q d numeral) h = (front, number, d, numeral)
shown_number done place _ e (shows_behind q) h = absurd cc

shown_tab : (done : List Piece) (place : Place) (line : LineFront) (e : Place) (piece : Piece) → Shows done place line → line ≡ fronts.Tab e → BeginsToken piece.shape → OwnFault done piece (faults.TabInIndent e)
shown_tab done place _ e piece (shows_spaces front spaces b d fresh all col) h begins = absurd cc
shown_tab done place _ e piece (shows_tab front spaces blanks tab b d fresh all col shape blank) h begins =
    let k : tab.place ≡ e = cc in subst (λ (q : Place). OwnFault done piece (faults.TabInIndent q)) k (own_tab front spaces blanks tab b d fresh all col shape blank begins)
shown_tab done place _ e piece shows_comment h begins = absurd cc
shown_tab done place _ e piece (shows_number front number q d numeral) h begins = absurd cc
shown_tab done place _ e piece (shows_behind q) h begins = absurd cc

front_own : (done : List Piece) (place : Place) (layout : Layout) (piece : Piece) (front rest : List ℕ) (g : LexFault) → Shows done place layout.line → IsPiece place front rest piece.shape
    → (line_of layout.line ≡ Fresh → FreshAfter done (between_of layout)) → FrontNow layout.line layout.widths piece.place piece.shape g → OwnFault done piece g
front_own done place layout piece front rest _ shows is fresh (now_number e l b) =
    let (f, number, d, numeral) = shown_number done place layout.line e shows l in own_number f number d numeral (name_begins place front rest piece.shape is b)
front_own done place layout piece front rest _ shows is fresh (now_tab q l b) = shown_tab done place layout.line q piece shows l (token_begins piece.shape b)
front_own done place layout piece front rest _ shows is fresh (now_dedent l b n) = own_dedent (between_of layout) (fresh l) (token_begins piece.shape b) (new_is_below (width_at piece.place) layout.widths n)

shape_own : (done : List Piece) (piece : Piece) (g : LexFault) → ShapeNow piece.place piece.shape g → OwnFault done piece g
shape_own done piece _ (now_stray e) = own_stray e
shape_own done piece _ (now_escape q e) = own_escape q e
shape_own done piece _ (now_unclosed e) = own_unclosed e
shape_own done piece _ (now_large e) = own_large e
shape_own done piece _ (now_long name e l) = own_long name e l
shape_own done piece _ (now_other_form name e l) = own_other_form name e l

pub now_own : (done : List Piece) (place : Place) (layout : Layout) (piece : Piece) (front rest : List ℕ) (g : LexFault) → Shows done place layout.line → IsPiece place front rest piece.shape
    → (line_of layout.line ≡ Fresh → FreshAfter done (between_of layout)) → NowFault layout.line layout.widths piece.place piece.shape g → OwnFault done piece g
now_own done place layout piece front rest g shows is fresh (inl now) = front_own done place layout piece front rest g shows is fresh now
now_own done place layout piece front rest g shows is fresh (inr now) = shape_own done piece g now

-- from the pieces to what stands in front

abbrev pub layout_after : Layout → List Piece → Layout
layout_after layout [] = layout
layout_after layout (piece ∷ pieces) = layout_after (next_layout layout piece) pieces

pub after_append : (front rest : List Piece) (layout : Layout) → layout_after layout (front ++ rest) ≡ layout_after (layout_after layout front) rest
after_append [] rest layout = refl
after_append (piece ∷ front) rest layout = after_append front rest (next_layout layout piece)

next_by : (layout : Layout) (piece : Piece) (shape : Shape) → piece.shape ≡ shape → (next_layout layout piece).line ≡ (layout_past layout piece shape).line
next_by layout piece shape e = ap (λ s. (layout_past layout piece s).line) e

numeral_next : (layout : Layout) (piece : Piece) (shape : Shape) → piece.shape ≡ shape → IsNumeral shape → (next_layout layout piece).line ≡ fronts.Number piece.end
numeral_next layout piece _ e (fits n) = next_by layout piece (shapes.Whole (forms.Number (pos n))) e
numeral_next layout piece _ e is_large = next_by layout piece shapes.LargeNumber e

blank_line : (layout : Layout) (piece : Piece) → IsBlank piece → line_of (next_layout layout piece).line ≡ line_of layout.line
blank_line layout piece (inl e) = ap line_of (next_by layout piece shapes.Space e) ∙ number_line layout.line
blank_line layout piece (inr e) = ap line_of (next_by layout piece shapes.Tab e) ∙ tab_line layout.line piece.place

blanks_line : (blanks : List Piece) (layout : Layout) → All IsBlank blanks → line_of (layout_after layout blanks).line ≡ line_of layout.line
blanks_line [] layout all = refl
blanks_line (piece ∷ blanks) layout all = blanks_line blanks (next_layout layout piece) (All-tail IsBlank piece blanks all) ∙ blank_line layout piece (All-head IsBlank piece blanks all)

spaces_stay : (spaces : List Piece) (layout : Layout) → All IsSpace spaces → layout.line ≡ fronts.Spaces → (layout_after layout spaces).line ≡ fronts.Spaces
spaces_stay [] layout all h = h
spaces_stay (piece ∷ spaces) layout all h = spaces_stay spaces (next_layout layout piece) (All-tail IsSpace piece spaces all) (next_by layout piece shapes.Space (All-head IsSpace piece spaces all) ∙ ap past_number h)

tab_stays_one : (layout : Layout) (piece : Piece) (q : Place) → IsBlank piece → layout.line ≡ fronts.Tab q → (next_layout layout piece).line ≡ fronts.Tab q
tab_stays_one layout piece q (inl e) h = next_by layout piece shapes.Space e ∙ ap past_number h
tab_stays_one layout piece q (inr e) h = next_by layout piece shapes.Tab e ∙ ap (λ l. past_tab l piece.place) h

tab_stays : (blanks : List Piece) (layout : Layout) (q : Place) → All IsBlank blanks → layout.line ≡ fronts.Tab q → (layout_after layout blanks).line ≡ fronts.Tab q
tab_stays [] layout q all h = h
tab_stays (piece ∷ blanks) layout q all h = tab_stays blanks (next_layout layout piece) q (All-tail IsBlank piece blanks all) (tab_stays_one layout piece q (All-head IsBlank piece blanks all) h)

-- the layout doesn't change over blanks
lays_blank : (b next : Between) (piece : Piece) (ts : List Token) → IsBlank piece → Lays b piece ts next → next ≡ b
lays_blank b next piece ts blank (separates s t n) = n
lays_blank b next piece ts (inl e) (begins_line form turn widths s l t u n) = absurd cc
lays_blank b next piece ts (inr e) (begins_line form turn widths s l t u n) = absurd cc
lays_blank b next piece ts (inl e) (goes_on form q s l t n) = absurd cc
lays_blank b next piece ts (inr e) (goes_on form q s l t n) = absurd cc
lays_blank b next piece ts (inl e) (ends_line q s l k t n) = absurd cc
lays_blank b next piece ts (inr e) (ends_line q s l k t n) = absurd cc
lays_blank b next piece ts blank (ends_blank_line s l t n) = n
lays_blank b next piece ts blank (ends_within_brackets q s l k t n) = n

laid_blanks : (blanks : List Piece) (b last : Between) (ts : List Token) → All IsBlank blanks → LaidOut b blanks ts last → last ≡ b
laid_blanks [] b last ts all h = h.1
laid_blanks (piece ∷ blanks) b last ts all (front, more, next, t, lays, on) =
    laid_blanks blanks next last more (All-tail IsBlank piece blanks all) on ∙ lays_blank b next piece front (All-head IsBlank piece blanks all) lays

spaces_blank : (spaces : List Piece) → All IsSpace spaces → All IsBlank spaces
spaces_blank [] all = All-nil IsBlank
spaces_blank (piece ∷ spaces) all = All-cons IsBlank piece spaces (inl (All-head IsSpace piece spaces all)) (spaces_blank spaces (All-tail IsSpace piece spaces all))

-- what leaves a line without a token: nothing but spaces, or a piece that ends within its line
abbrev pub LeavesFresh : LineFront → Shape → Type 0
LeavesFresh line shape = (line ≡ fronts.Spaces) ⊎ ((shape ≡ shapes.Space) ⊎ ((shape ≡ shapes.Tab) ⊎ (shape ≡ shapes.Comment)))

left_by : (t : Bool) (q : Place) (brackets : ℕ) → (brackets == 0) ≡ t → line_of (past_line_end (fronts.Behind q) brackets) ≡ Fresh → LeavesFresh (past_line_end (fronts.Behind q) brackets) shapes.LineEnd
left_by true q brackets e h = inl (rw e refl)
left_by false q brackets e h = let k : past_line_end (fronts.Behind q) brackets ≡ fronts.Behind q = rw e refl in let l : Behind q ≡ Fresh = sym (ap line_of k) ∙ h in absurd cc

left_end : (line : LineFront) (brackets : ℕ) → line_of (past_line_end line brackets) ≡ Fresh → LeavesFresh (past_line_end line brackets) shapes.LineEnd
left_end fronts.Spaces brackets h = inl refl
left_end (fronts.Tab q) brackets h = inl refl
left_end fronts.Comment brackets h = inl refl
left_end (fronts.Number q) brackets h = left_by (brackets == 0) q brackets refl h
left_end (fronts.Behind q) brackets h = left_by (brackets == 0) q brackets refl h

leaves_fresh : (shape : Shape) (layout : Layout) (piece : Piece) → line_of (layout_past layout piece shape).line ≡ Fresh → LeavesFresh (layout_past layout piece shape).line shape
leaves_fresh (shapes.Whole form) layout piece h = let k : Behind piece.end ≡ Fresh = form_line form piece.end ∙ h in absurd cc
leaves_fresh shapes.LargeNumber layout piece h = absurd cc
leaves_fresh shapes.Space layout piece h = inr (inl refl)
leaves_fresh shapes.Tab layout piece h = inr (inr (inl refl))
leaves_fresh shapes.Comment layout piece h = inr (inr (inr refl))
leaves_fresh shapes.LineEnd layout piece h = left_end layout.line layout.brackets h
leaves_fresh (shapes.BadEscape q) layout piece h = absurd cc
leaves_fresh shapes.Unclosed layout piece h = absurd cc
leaves_fresh shapes.Stray layout piece h = absurd cc

-- the piece that ends in column 1
ends_at_start : (front rest : List Piece) (piece : Piece) (cs : List ℕ) → CutInto text_start cs (front ++ piece ∷ rest) → piece.end.col ≡ 1 → (piece.shape ≡ shapes.Space) ⊎ ((piece.shape ≡ shapes.Tab) ⊎ (piece.shape ≡ shapes.Comment)) → ⊥
ends_at_start front rest piece cs cut col kind =
    let (f, m, e, behind) = cut_behind front (piece ∷ rest) text_start cs cut in
    let (chars, more, split, is, at, ends, on) = behind in
    let k : 2 ≤ (after (after text_start f) chars).col = not_at_start (after text_start f) chars more piece.shape (from_one f text_start (omega arith)) is kind in
    let l : piece.end.col ≡ (after (after text_start f) chars).col = ap (λ q. q.col) ends in
    omega (arith, k, l, col)

begins_by : (line : LineFront) (front rest : List Piece) (piece : Piece) (cs : List ℕ) → CutInto text_start cs (front ++ piece ∷ rest) → piece.end.col ≡ 1 → LeavesFresh line piece.shape → line ≡ fronts.Spaces
begins_by line front rest piece cs cut col (inl h) = h
begins_by line front rest piece cs cut col (inr kind) = absurd (ends_at_start front rest piece cs cut col kind)

-- where a line begins, only spaces stand in front, and none so far
at_start : (front rest : List Piece) (next : Piece) (cs : List ℕ) → CutInto text_start cs (front ++ next ∷ rest) → next.place.col ≡ 1 → line_of (layout_after first_layout front).line ≡ Fresh → (front ≡ []) ⊎ ((init : List Piece) × (last : Piece) × (front ≡ init ++ last ∷ [])) → (layout_after first_layout front).line ≡ fronts.Spaces
at_start front rest next cs cut col fresh (inl e) = ap (λ f. (layout_after first_layout f).line) e
at_start front rest next cs cut col fresh (inr (init, last, e)) =
    let before : Layout = layout_after first_layout init in
    let run : layout_after first_layout front ≡ next_layout before last = ap (layout_after first_layout) e ∙ after_append init (last ∷ []) first_layout in
    let whole : CutInto text_start cs (init ++ last ∷ next ∷ rest) = subst (CutInto text_start cs) (ap (λ f. f ++ next ∷ rest) e ∙ append_assoc init (last ∷ []) (next ∷ rest)) cut in
    let touch : next.place ≡ last.end = pieces_touch text_start cs init rest last next whole in
    let one : last.end.col ≡ 1 = sym (ap (λ q. q.col) touch) ∙ col in
    let free : line_of (next_layout before last).line ≡ Fresh = sym (ap (λ l. line_of l.line) run) ∙ fresh in
    ap (λ l. l.line) run ∙ begins_by (next_layout before last).line init (next ∷ rest) last cs whole one (leaves_fresh last.shape before last free)

start_spaces : (spaces front rest : List Piece) (tab : Piece) (cs : List ℕ) → CutInto text_start cs (front ++ (spaces ++ tab ∷ rest)) → All IsSpace spaces → length spaces + 1 ≡ tab.place.col → line_of (layout_after first_layout front).line ≡ Fresh → (layout_after first_layout front).line ≡ fronts.Spaces
start_spaces [] front rest tab cs cut all col fresh = at_start front rest tab cs cut (omega (arith, col)) fresh (with_last front)
start_spaces (space ∷ spaces) front rest tab cs cut all col fresh =
    let (f, m, e, behind) = cut_behind front (space ∷ (spaces ++ tab ∷ rest)) text_start cs cut in
    let at : space.place ≡ after text_start f = behind.4 in
    let k : tab.place.col ≡ (after text_start f).col + length (space ∷ spaces) = past_spaces (space ∷ spaces) rest tab (after text_start f) m behind all in
    let l : space.place.col ≡ (after text_start f).col = ap (λ q. q.col) at in
    at_start front (spaces ++ tab ∷ rest) space cs cut (omega (arith, k, l, col)) fresh (with_last front)

-- the first tab in front of a line's first token is what the pass keeps
tab_line_is : (done rest front spaces blanks : List Piece) (tab : Piece) (b : Between) (layout : Layout) (out : List Token) (cs : List ℕ)
    → CutInto text_start cs (done ++ rest) → LaidOut before_all done out (between_of layout) → layout ≡ layout_after first_layout done
    → done ≡ front ++ spaces ++ tab ∷ blanks → FreshAfter front b → All IsSpace spaces → length spaces + 1 ≡ tab.place.col → tab.shape ≡ shapes.Tab → All IsBlank blanks → layout.line ≡ fronts.Tab tab.place
tab_line_is done rest front spaces blanks tab b layout out cs cut laid ran e (ts, laid_front, fresh) all col shape blank =
    let run : List Piece = spaces ++ tab ∷ blanks in
    let d : done ≡ front ++ run = e ∙ append_assoc front spaces (tab ∷ blanks) in
    let blanks_all : All IsBlank run = All-append IsBlank spaces (tab ∷ blanks) (spaces_blank spaces all) (All-cons IsBlank tab blanks (inr shape) blank) in
    let laid_run : LaidOut before_all (front ++ run) out (between_of layout) = subst (λ (x : List Piece). LaidOut before_all x out (between_of layout)) d laid in
    let (first, more, next, t, one, two) = laid_apart front run before_all out (between_of layout) laid_run in
    let same : next ≡ b = (same_laid front before_all first ts next b one laid_front).1 in
    let kept : between_of layout ≡ next = laid_blanks run next (between_of layout) more blanks_all two in
    let free : line_of layout.line ≡ Fresh = ap (λ x. x.line) (kept ∙ same) ∙ fresh in
    let start : Layout = layout_after first_layout front in
    let whole : layout ≡ layout_after start run = ran ∙ ap (layout_after first_layout) d ∙ after_append front run first_layout in
    let free_start : line_of start.line ≡ Fresh = sym (blanks_line run start blanks_all) ∙ sym (ap (λ l. line_of l.line) whole) ∙ free in
    let cut_run : CutInto text_start cs (front ++ (spaces ++ tab ∷ (blanks ++ rest))) =
    subst (CutInto text_start cs) (ap (λ x. x ++ rest) d ∙ append_assoc front run rest ∙ ap (λ x. front ++ x) (append_assoc spaces (tab ∷ blanks) rest)) cut in
    let clear : start.line ≡ fronts.Spaces = start_spaces spaces front (blanks ++ rest) tab cs cut_run all col free_start in
    let spaced : Layout = layout_after start spaces in
    let at_tab : (next_layout spaced tab).line ≡ fronts.Tab tab.place = next_by spaced tab shapes.Tab shape ∙ ap (λ l. past_tab l tab.place) (spaces_stay spaces start all clear) in
    ap (λ l. l.line) (whole ∙ after_append spaces (tab ∷ blanks) start) ∙ tab_stays blanks (next_layout spaced tab) tab.place blank at_tab

-- what the pass has gone past
pub record Passed (cs : List ℕ) (done rest : List Piece) (out : List Token) (layout : Layout) : Type 0 where
  pub cut : CutInto text_start cs (done ++ rest)
  pub laid : LaidOut before_all done out (between_of layout)
  pub ran : layout ≡ layout_after first_layout done

pub own_now : (cs : List ℕ) (done rest : List Piece) (out : List Token) (layout : Layout) (piece : Piece) (g : LexFault) → Passed cs done rest out layout → OwnFault done piece g → NowFault layout.line layout.widths piece.place piece.shape g
own_now cs done rest out layout piece _ passed (own_stray e) = inr (now_stray e)
own_now cs done rest out layout piece _ passed (own_number front number e numeral begins) =
    let run : layout ≡ next_layout (layout_after first_layout front) number = passed.ran ∙ ap (layout_after first_layout) e ∙ after_append front (number ∷ []) first_layout in
    inl (now_number number.end (ap (λ l. l.line) run ∙ numeral_next (layout_after first_layout front) number number.shape refl numeral) (as_name_is piece.shape begins))
own_now cs done rest out layout piece _ passed (own_escape q e) = inr (now_escape q e)
own_now cs done rest out layout piece _ passed (own_tab front spaces blanks tab b e fresh all col shape blank begins) =
    inl (now_tab tab.place (tab_line_is done rest front spaces blanks tab b layout out cs passed.cut passed.laid passed.ran e fresh all col shape blank) (begins_is piece.shape begins))
own_now cs done rest out layout piece _ passed (own_dedent b (ts, laid, fresh) begins new) =
    let same : between_of layout ≡ b = (same_laid done before_all out ts (between_of layout) b passed.laid laid).1 in
    inl (now_dedent (ap (λ x. x.line) same ∙ fresh) (begins_is piece.shape begins) (below_is_new (width_at piece.place) layout.widths (subst (λ (x : Between). IsNewBelow (width_at piece.place) x.widths) (sym same) new)))
own_now cs done rest out layout piece _ passed (own_unclosed e) = inr (now_unclosed e)
own_now cs done rest out layout piece _ passed (own_large e) = inr (now_large e)
own_now cs done rest out layout piece _ passed (own_other_form name e l) = inr (now_other_form name e l)
own_now cs done rest out layout piece _ passed (own_long name e l) = inr (now_long name e l)
