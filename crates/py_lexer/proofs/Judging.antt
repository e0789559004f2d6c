-- The pass over the pieces of a text gives its tokens or its first fault.
use Rattle.std.specs.Prelude.{All}
use Rattle.std.proofs.Common.{ℕ, ◌≡◌, ◌⊎◌, inl, inr, true, false, List, [], ◌∷◌, ◌++◌, refl, sym, ap, ◌∙◌, subst, append_assoc, append-nil, Option, Some, None, Result, Ok, Err}
use Rattle.std.proofs.lemmas.List.Elements.{All-nil, All-head, All-tail}
use Rattle.py_base.specs.declared.Place.{Place}
use Rattle.py_tokens.specs.declared.Token.{Token}
use Rattle.py_tokens.specs.declared.Piece.{Piece}
use Rattle.py_tokens.specs.declared.Shape.{Shape}
use Rattle.py_tokens.specs.declared.Shape.TheVariants as shapes
use Rattle.py_tokens.specs.declared.LexFault.{LexFault}
use Rattle.py_tokens.specs.declared.LexFault.TheVariants as faults
use Rattle.py_tokens.specs.PlacedText.{after, text_start, text_characters, IsBadByteAt}
use Rattle.py_tokens.specs.TextPieces.{IsPiece, CutInto}
use Rattle.py_tokens.specs.LineLayout.{Between, before_all, LaidOut, Lays, EndsWith, end_place}
use Rattle.py_tokens.specs.TextTokens.{PiecesOf, IsSpace, IsBlank, HasFault, bad_utf8, begins_no_token, after_number, bad_escape, tab_in_indent, bad_dedent, open_string, literal_too_large, name_not_nfkc, name_too_long, place_of, IsNotAfter, IsFirstFault, Tokens}
use Rattle.py_tokens.specs.PlaceLaws.{Precedes, precedes_trans}
use Rattle.py_tokens.specs.CutLaws.{cut_behind, piece_spans, escape_within}
use Rattle.py_tokens.specs.LayoutLaws.{laid_together}
use Rattle.py_tokens.specs.TokenLaws.{no_text_with_bad_byte, same_bad_byte}
use Rattle.py_lexer.specs.declared.layout.Layout.{Layout}
use Rattle.py_lexer.specs.declared.layout.LineFront.{LineFront}
use Rattle.py_lexer.specs.declared.layout.LineFront.TheVariants as fronts
use Rattle.py_lexer.specs.Walk.{between_of, next_layout, first_layout, fault_of, tokens_of, walked, unless_fault, closing_of, dedents_of, left_of, begins_token, begins_as_name}
use Rattle.py_lexer.proofs.Turning.{Stands, closes_all}
use Rattle.py_lexer.proofs.Laying.{is_laid}
use Rattle.py_lexer.proofs.Splits.{apart, Apart}
use Rattle.py_lexer.proofs.LineFronts.{Shows, shows_spaces, shows_tab, shows_comment, shows_number, shows_behind, shows_next}
use Rattle.py_lexer.proofs.OwnFaults.{OwnFault, own_stray, own_number, own_escape, own_tab, own_dedent, own_unclosed, own_large, own_other_form, own_long, owned, has_own}
use Rattle.py_lexer.proofs.Contexts.{now_own, own_now, layout_after, after_append, Passed}
use Rattle.py_lexer.proofs.FirstOfPiece.{NowFault, InOrder, is_one, is_first, has_none, before_not_after, same_not_after, now_number, now_tab, now_dedent, now_stray, now_escape, now_unclosed, now_large, now_long, now_other_form}

-- the pass has gone past these pieces, and none of them has a fault
pub record Clean (bytes : List ℕ) (done rest : List Piece) (out : List Token) (layout : Layout) (place : Place) (left : List ℕ) : Type 0 where
  pub whole : PiecesOf bytes (done ++ rest)
  pub cut : CutInto place left rest
  pub laid : LaidOut before_all done out (between_of layout)
  pub ran : layout ≡ layout_after first_layout done
  pub stands : Stands layout.widths
  pub shows : Shows done place layout.line
  pub none : (before more : List Piece) (piece : Piece) (g : LexFault) → done ≡ before ++ piece ∷ more → OwnFault before piece g → ⊥

passed_of : (bytes : List ℕ) (done rest : List Piece) (out : List Token) (layout : Layout) (place : Place) (left : List ℕ) → Clean bytes done rest out layout place left → Passed (text_characters bytes) done rest out layout
passed_of bytes done rest out layout place left clean = record { cut = clean.whole.1; laid = clean.laid; ran = clean.ran }

-- a place that isn't in front of another
abbrev pub IsFrom : Place → Place → Type 0
IsFrom p q = (p ≡ q) ⊎ Precedes p q

from_behind : (p q r : Place) → Precedes p q → IsFrom q r → Precedes p r
from_behind p q r h (inl e) = subst (Precedes p) e h
from_behind p q r h (inr k) = precedes_trans p q r h k

-- a later piece stands at the end of an earlier one or behind it
later_place : (m rest : List Piece) (x : Piece) (e : Place) (cs : List ℕ) → CutInto e cs (m ++ x ∷ rest) → IsFrom e x.place
later_place [] rest x e cs (front, behind, split, is, at, ends, on) = inl (sym at)
later_place (y ∷ m) rest x e cs cut =
    let (front, behind, split, is, at, ends, on) = cut in
    let spans : Precedes y.place y.end = piece_spans e cs [] (m ++ x ∷ rest) y cut in
    inr (from_behind e y.end x.place (subst (λ (p : Place). Precedes p y.end) at spans) (later_place m rest x y.end behind on))

-- the first tab in front precedes the piece
tab_precedes : (cs : List ℕ) (done rest : List Piece) (place : Place) (line : LineFront) (piece : Piece) (q : Place) → CutInto text_start cs (done ++ piece ∷ rest) → Shows done place line → line ≡ fronts.Tab q → Precedes q piece.place
tab_precedes cs done rest place _ piece q cut (shows_spaces front spaces b d fresh all col) h = absurd cc
tab_precedes cs done rest place _ piece q cut (shows_tab front spaces blanks tab b d fresh all col shape blank) h =
    let same : tab.place ≡ q = cc in
    let whole : CutInto text_start cs ((front ++ spaces) ++ tab ∷ (blanks ++ piece ∷ rest)) = subst (CutInto text_start cs) (ap (λ x. x ++ piece ∷ rest) d ∙ append_assoc (front ++ spaces) (tab ∷ blanks) (piece ∷ rest)) cut in
    let (f, m, e, behind) = cut_behind (front ++ spaces) (tab ∷ (blanks ++ piece ∷ rest)) text_start cs whole in
    let spans : Precedes tab.place tab.end = piece_spans text_start cs (front ++ spaces) (blanks ++ piece ∷ rest) tab whole in
    let on : IsFrom tab.end piece.place = later_place blanks rest piece tab.end behind.1 behind.6 in
    subst (λ (p : Place). Precedes p piece.place) same (from_behind tab.place tab.end piece.place spans on)
tab_precedes cs done rest place _ piece q cut shows_comment h = absurd cc
tab_precedes cs done rest place _ piece q cut (shows_number front number r d numeral) h = absurd cc
tab_precedes cs done rest place _ piece q cut (shows_behind r) h = absurd cc

in_order : (bytes : List ℕ) (done rest : List Piece) (piece : Piece) (out : List Token) (layout : Layout) (place : Place) (left : List ℕ) → Clean bytes done (piece ∷ rest) out layout place left → InOrder layout.line piece.place piece.shape
in_order bytes done rest piece out layout place left clean = record {
  tab_in_front = λ q h. tab_precedes (text_characters bytes) done rest place layout.line piece q clean.whole.1 clean.shows h;
  escape_behind = λ q h. (escape_within text_start (text_characters bytes) done rest piece q clean.whole.1 h).0;
}

-- a fault that is found at a piece stands in front of its end
found_ends : (bytes : List ℕ) (done rest : List Piece) (piece : Piece) (out : List Token) (layout : Layout) (place : Place) (left : List ℕ) (f : LexFault) → Clean bytes done (piece ∷ rest) out layout place left → NowFault layout.line layout.widths piece.place piece.shape f → Precedes (place_of f) piece.end
found_ends bytes done rest piece out layout place left _ clean (inl (now_number e l b)) = piece_spans text_start (text_characters bytes) done rest piece clean.whole.1
found_ends bytes done rest piece out layout place left _ clean (inl (now_tab q l b)) =
    precedes_trans q piece.place piece.end (tab_precedes (text_characters bytes) done rest place layout.line piece q clean.whole.1 clean.shows l) (piece_spans text_start (text_characters bytes) done rest piece clean.whole.1)
found_ends bytes done rest piece out layout place left _ clean (inl (now_dedent l b n)) = piece_spans text_start (text_characters bytes) done rest piece clean.whole.1
found_ends bytes done rest piece out layout place left _ clean (inr (now_stray e)) = piece_spans text_start (text_characters bytes) done rest piece clean.whole.1
found_ends bytes done rest piece out layout place left _ clean (inr (now_escape q e)) = (escape_within text_start (text_characters bytes) done rest piece q clean.whole.1 e).1
found_ends bytes done rest piece out layout place left _ clean (inr (now_unclosed e)) = piece_spans text_start (text_characters bytes) done rest piece clean.whole.1
found_ends bytes done rest piece out layout place left _ clean (inr (now_large e)) = piece_spans text_start (text_characters bytes) done rest piece clean.whole.1
found_ends bytes done rest piece out layout place left _ clean (inr (now_long name e l)) = piece_spans text_start (text_characters bytes) done rest piece clean.whole.1
found_ends bytes done rest piece out layout place left _ clean (inr (now_other_form name e l)) = piece_spans text_start (text_characters bytes) done rest piece clean.whole.1

-- A piece with a fault is no space and no tab.
not_blank : (line : LineFront) (ws : List ℕ) (p : Place) (shape : Shape) (f : LexFault) → NowFault line ws p shape f → (shape ≡ shapes.Space) ⊎ (shape ≡ shapes.Tab) → ⊥
not_blank line ws p shape _ (inl (now_number e l b)) (inl s) = let k : false ≡ true = sym (ap begins_as_name s) ∙ b in cc
not_blank line ws p shape _ (inl (now_number e l b)) (inr s) = let k : false ≡ true = sym (ap begins_as_name s) ∙ b in cc
not_blank line ws p shape _ (inl (now_tab q l b)) (inl s) = let k : false ≡ true = sym (ap begins_token s) ∙ b in cc
not_blank line ws p shape _ (inl (now_tab q l b)) (inr s) = let k : false ≡ true = sym (ap begins_token s) ∙ b in cc
not_blank line ws p shape _ (inl (now_dedent l b n)) (inl s) = let k : false ≡ true = sym (ap begins_token s) ∙ b in cc
not_blank line ws p shape _ (inl (now_dedent l b n)) (inr s) = let k : false ≡ true = sym (ap begins_token s) ∙ b in cc
not_blank line ws p shape _ (inr (now_stray e)) (inl s) = cc
not_blank line ws p shape _ (inr (now_stray e)) (inr s) = cc
not_blank line ws p shape _ (inr (now_escape q e)) (inl s) = cc
not_blank line ws p shape _ (inr (now_escape q e)) (inr s) = cc
not_blank line ws p shape _ (inr (now_unclosed e)) (inl s) = cc
not_blank line ws p shape _ (inr (now_unclosed e)) (inr s) = cc
not_blank line ws p shape _ (inr (now_large e)) (inl s) = cc
not_blank line ws p shape _ (inr (now_large e)) (inr s) = cc
not_blank line ws p shape _ (inr (now_long name e l)) (inl s) = cc
not_blank line ws p shape _ (inr (now_long name e l)) (inr s) = cc
not_blank line ws p shape _ (inr (now_other_form name e l)) (inl s) = cc
not_blank line ws p shape _ (inr (now_other_form name e l)) (inr s) = cc

member_blank : (k m : List Piece) (piece : Piece) → All IsBlank (k ++ piece ∷ m) → IsBlank piece
member_blank [] m piece all = All-head IsBlank piece m all
member_blank (x ∷ k) m piece all = member_blank k m piece (All-tail IsBlank x (k ++ piece ∷ m) all)

-- a tab in front of a later piece, with only blanks between, stands behind this piece
later_tab : (done m blanks rest tail front : List Piece) (tab piece x : Piece) (e : Place) (cs : List ℕ) → CutInto e cs tail → tail ≡ m ++ x ∷ rest → All IsBlank blanks → tab.shape ≡ shapes.Tab → ¬ IsBlank piece
    → Apart front tab blanks done piece m → IsFrom e tab.place
later_tab done m blanks rest tail front tab piece x e cs cut t all shape other (inl (k, c, b)) = absurd (other (member_blank k m piece (subst (All IsBlank) b all)))
later_tab done m blanks rest tail front tab piece x e cs cut t all shape other (inr (inl (a, same, b))) = absurd (other (inr (sym (ap (λ p. p.shape) same) ∙ shape)))
later_tab done m blanks rest tail front tab piece x e cs cut t all shape other (inr (inr (k, a, d))) =
    later_place k (blanks ++ x ∷ rest) tab e cs (subst (CutInto e cs) (t ∙ ap (λ y. y ++ x ∷ rest) d ∙ append_assoc k (tab ∷ blanks) (x ∷ rest)) cut)

-- a fault of a later piece stands at the end of this one or behind it
later_fault : (whole : List ℕ) (done m rest tail before : List Piece) (piece x : Piece) (e : Place) (cs : List ℕ) (g : LexFault) → CutInto text_start whole (before ++ x ∷ rest) → CutInto e cs tail → tail ≡ m ++ x ∷ rest → before ≡ done ++ piece ∷ m → ¬ IsBlank piece → OwnFault before x g → IsFrom e (place_of g)
later_fault whole done m rest tail before piece x e cs _ all cut t d other (own_stray s) = later_place m rest x e cs (subst (CutInto e cs) t cut)
later_fault whole done m rest tail before piece x e cs _ all cut t d other (own_number front number n numeral begins) = later_place m rest x e cs (subst (CutInto e cs) t cut)
later_fault whole done m rest tail before piece x e cs _ all cut t d other (own_escape q s) =
    inr (before_it e x.place q (later_place m rest x e cs (subst (CutInto e cs) t cut)) (escape_within text_start whole before rest x q all s).0)
  where
    before_it : (e p q : Place) → IsFrom e p → Precedes p q → Precedes e q
    before_it e p q (inl h) k = subst (λ (r : Place). Precedes r q) (sym h) k
    before_it e p q (inr h) k = precedes_trans e p q h k
later_fault whole done m rest tail before piece x e cs _ all cut t d other (own_tab front spaces blanks tab b n fresh spaced col shape blank begins) =
    later_tab done m blanks rest tail (front ++ spaces) tab piece x e cs cut t blank shape other (apart (front ++ spaces) tab blanks done piece m (sym n ∙ d))
later_fault whole done m rest tail before piece x e cs _ all cut t d other (own_dedent b fresh begins new) = later_place m rest x e cs (subst (CutInto e cs) t cut)
later_fault whole done m rest tail before piece x e cs _ all cut t d other (own_unclosed s) = later_place m rest x e cs (subst (CutInto e cs) t cut)
later_fault whole done m rest tail before piece x e cs _ all cut t d other (own_large s) = later_place m rest x e cs (subst (CutInto e cs) t cut)
later_fault whole done m rest tail before piece x e cs _ all cut t d other (own_other_form name s l) = later_place m rest x e cs (subst (CutInto e cs) t cut)
later_fault whole done m rest tail before piece x e cs _ all cut t d other (own_long name s l) = later_place m rest x e cs (subst (CutInto e cs) t cut)

first_by : (bytes : List ℕ) (done rest : List Piece) (piece : Piece) (out : List Token) (layout : Layout) (place : Place) (left : List ℕ) (f g : LexFault) → Clean bytes done (piece ∷ rest) out layout place left → fault_of layout.line layout.widths piece ≡ Some f
    → (before behind : List Piece) (x : Piece) → done ++ piece ∷ rest ≡ before ++ x ∷ behind → OwnFault before x g → Apart before x behind done piece rest → IsNotAfter f g
first_by bytes done rest piece out layout place left f g clean found before behind x e own (inl (k, c, b)) = absurd (clean.none before k x g c own)
first_by bytes done rest piece out layout place left f g clean found before behind x e own (inr (inl (a, same, b))) =
    let there : OwnFault done piece g = subst (λ (y : Piece). OwnFault done y g) same (subst (λ (ps : List Piece). OwnFault ps x g) a own) in
    let now : NowFault layout.line layout.widths piece.place piece.shape g = own_now (text_characters bytes) done (piece ∷ rest) out layout piece g (passed_of bytes done (piece ∷ rest) out layout place left clean) there in
    is_first layout.line layout.widths piece.place piece.end piece.shape f g (in_order bytes done rest piece out layout place left clean) found now
first_by bytes done rest piece out layout place left f g clean found before behind x e own (inr (inr (k, a, d))) =
    let (front, after_it, split, is, at, ends, on) = clean.cut in
    let now : NowFault layout.line layout.widths piece.place piece.shape f = is_one layout.line layout.widths piece.place piece.end piece.shape f found in
    let all : CutInto text_start (text_characters bytes) (before ++ x ∷ behind) = subst (CutInto text_start (text_characters bytes)) e clean.whole.1 in
    let later : IsFrom piece.end (place_of g) = later_fault (text_characters bytes) done k behind rest before piece x piece.end after_it g all on d a (not_blank layout.line layout.widths piece.place piece.shape f now) own in
    before_not_after f g (from_behind (place_of f) piece.end (place_of g) (found_ends bytes done rest piece out layout place left f clean now) later)

first_found : (bytes : List ℕ) (done rest : List Piece) (piece : Piece) (out : List Token) (layout : Layout) (place : Place) (left : List ℕ) (f : LexFault) → Clean bytes done (piece ∷ rest) out layout place left → fault_of layout.line layout.widths piece ≡ Some f → IsFirstFault bytes f
first_found bytes done rest piece out layout place left f clean found =
    let (front, behind, split, is, at, ends, on) = clean.cut in
    let now : NowFault layout.line layout.widths piece.place piece.shape f = is_one layout.line layout.widths piece.place piece.end piece.shape f found in
    let own : OwnFault done piece f = now_own done place layout piece front behind f clean.shows is (λ h. (out, clean.laid, h)) now in (
      has_own bytes done rest piece f clean.whole own,
      λ g h.
          let (before, more, x, e, at_x) = owned bytes (done ++ piece ∷ rest) g clean.whole h in
          first_by bytes done rest piece out layout place left f g clean found before more x e at_x (apart before x more done piece rest (sym e)),
    )

nothing_left : (k more : List Piece) (x : Piece) → [] ≡ k ++ x ∷ more → ⊥
nothing_left [] more x e = cc
nothing_left (y ∷ k) more x e = cc

none_by : (bytes : List ℕ) (done rest : List Piece) (piece : Piece) (out : List Token) (layout : Layout) (place : Place) (left : List ℕ) → Clean bytes done (piece ∷ rest) out layout place left → fault_of layout.line layout.widths piece ≡ None
    → (before more : List Piece) (x : Piece) (g : LexFault) → OwnFault before x g → Apart before x more done piece [] → ⊥
none_by bytes done rest piece out layout place left clean none before more x g own (inl (k, c, b)) = clean.none before k x g c own
none_by bytes done rest piece out layout place left clean none before more x g own (inr (inl (a, same, b))) =
    let there : OwnFault done piece g = subst (λ (y : Piece). OwnFault done y g) same (subst (λ (ps : List Piece). OwnFault ps x g) a own) in
    has_none layout.line layout.widths piece.place piece.end piece.shape g none (own_now (text_characters bytes) done (piece ∷ rest) out layout piece g (passed_of bytes done (piece ∷ rest) out layout place left clean) there)
none_by bytes done rest piece out layout place left clean none before more x g own (inr (inr (k, a, d))) = nothing_left k more x d

laid_one : (bytes : List ℕ) (done rest : List Piece) (piece : Piece) (out : List Token) (layout : Layout) (place : Place) (left : List ℕ) → Clean bytes done (piece ∷ rest) out layout place left → fault_of layout.line layout.widths piece ≡ None
    → LaidOut before_all (done ++ piece ∷ []) (out ++ tokens_of layout piece piece.shape) (between_of (next_layout layout piece))
laid_one bytes done rest piece out layout place left clean none =
    let ts : List Token = tokens_of layout piece piece.shape in
    let next : Between = between_of (next_layout layout piece) in
    let lays : Lays (between_of layout) piece ts next = (is_laid layout piece clean.stands none).0 in
    let one : LaidOut (between_of layout) (piece ∷ []) ts next = (ts, [], next, sym (append-nil ts), lays, (refl, refl)) in
    laid_together done (piece ∷ []) before_all (between_of layout) next out ts clean.laid one

goes_on_clean : (bytes : List ℕ) (done rest : List Piece) (piece : Piece) (out : List Token) (layout : Layout) (place : Place) (left front behind : List ℕ) → Clean bytes done (piece ∷ rest) out layout place left → fault_of layout.line layout.widths piece ≡ None
    → IsPiece place front behind piece.shape → piece.place ≡ place → piece.end ≡ after place front → CutInto piece.end behind rest
    → Clean bytes (done ++ piece ∷ []) rest (out ++ tokens_of layout piece piece.shape) (next_layout layout piece) piece.end behind
goes_on_clean bytes done rest piece out layout place left front behind clean none is at ends on =
    let laid : LaidOut before_all (done ++ piece ∷ []) (out ++ tokens_of layout piece piece.shape) (between_of (next_layout layout piece)) = laid_one bytes done rest piece out layout place left clean none in
    record {
      whole = subst (PiecesOf bytes) (sym (append_assoc done (piece ∷ []) rest)) clean.whole;
      cut = on;
      laid = laid;
      ran = ap (λ l. next_layout l piece) clean.ran ∙ sym (after_append done (piece ∷ []) first_layout);
      stands = (is_laid layout piece clean.stands none).1;
      shows = shows_next piece.shape done place layout piece front behind refl at is ends (λ h. (between_of (next_layout layout piece), (out ++ tokens_of layout piece piece.shape, laid, h))) clean.shows;
      none = λ before more x g e own. none_by bytes done rest piece out layout place left clean none before more x g own (apart before x more done piece [] (sym e));
    }

-- what the pass says of a text
abbrev pub Judges : List ℕ → Result (List Token) LexFault → Type 0
Judges bytes (Ok ts) = Tokens bytes ts
Judges bytes (Err f) = IsFirstFault bytes f

no_fault_at_end : (bytes : List ℕ) (done : List Piece) (out : List Token) (layout : Layout) (place : Place) (left : List ℕ) → Clean bytes done [] out layout place left → (f : LexFault) → HasFault bytes f → ⊥
no_fault_at_end bytes done out layout place left clean f h =
    let (before, more, x, e, own) = owned bytes (done ++ []) f clean.whole h in
    clean.none before more x f (sym (append-nil done) ∙ e) own

judged_end : (bytes : List ℕ) (done : List Piece) (out : List Token) (layout : Layout) (place p : Place) (left : List ℕ) → Clean bytes done [] out layout place left → p ≡ after text_start (text_characters bytes) → Tokens bytes (out ++ closing_of layout p)
judged_end bytes done out layout place p left clean at = record {
  pieces = done;
  laid = out;
  last = between_of layout;
  closing = closing_of layout p;
  no_fault = no_fault_at_end bytes done out layout place left clean;
  cut = subst (PiecesOf bytes) (append-nil done) clean.whole;
  layout = clean.laid;
  ends = subst (λ (q : Place). EndsWith (between_of layout) q (closing_of layout p)) at (dedents_of (end_place p) 0 layout.widths, left_of 0 layout.widths, closes_all (end_place p) layout.widths clean.stands, refl);
  all = refl;
}

judged_one : (bytes : List ℕ) (o : Option LexFault) (r : Result (List Token) LexFault) → ((f : LexFault) → o ≡ Some f → IsFirstFault bytes f) → (o ≡ None → Judges bytes r) → Judges bytes (unless_fault o r)
judged_one bytes (Some f) r found none = found f refl
judged_one bytes None r found none = none refl

judged : (rest : List Piece) (bytes : List ℕ) (done : List Piece) (out : List Token) (layout : Layout) (place p : Place) (left : List ℕ) → Clean bytes done rest out layout place left → p ≡ after text_start (text_characters bytes) → Judges bytes (walked p layout out rest)
judged [] bytes done out layout place p left clean at = judged_end bytes done out layout place p left clean at
judged (piece ∷ rest) bytes done out layout place p left clean at =
    let (front, behind, split, is, begins, ends, on) = clean.cut in
    judged_one bytes (fault_of layout.line layout.widths piece) (walked p (next_layout layout piece) (out ++ tokens_of layout piece piece.shape) rest)
    (λ f h. first_found bytes done rest piece out layout place left f clean h)
    (λ h. judged rest bytes (done ++ piece ∷ []) (out ++ tokens_of layout piece piece.shape) (next_layout layout piece) piece.end p behind (goes_on_clean bytes done rest piece out layout place left front behind clean h is begins ends on) at)

clean_first : (bytes : List ℕ) (pieces : List Piece) → PiecesOf bytes pieces → Clean bytes [] pieces [] first_layout text_start (text_characters bytes)
clean_first bytes pieces whole = record {
  whole = whole;
  cut = whole.1;
  laid = (refl, refl);
  ran = refl;
  stands = refl;
  shows = shows_spaces [] [] before_all refl ([], (refl, refl), refl) (All-nil IsSpace) refl;
  none = λ before more x g e own. nothing_left before more x e;
}

-- The pass over the pieces of a text gives its tokens, or its first fault.
pub walk_judges : (bytes : List ℕ) (pieces : List Piece) (p : Place) → PiecesOf bytes pieces → p ≡ after text_start (text_characters bytes) → Judges bytes (walked p first_layout [] pieces)
walk_judges bytes pieces p whole at = judged pieces bytes [] [] first_layout text_start p (text_characters bytes) (clean_first bytes pieces whole) at

pub tokens_judged : (bytes : List ℕ) (pieces : List Piece) (p : Place) (ts : List Token) → PiecesOf bytes pieces → p ≡ after text_start (text_characters bytes) → walked p first_layout [] pieces ≡ Ok ts → Tokens bytes ts
tokens_judged bytes pieces p ts whole at h = subst (Judges bytes) h (walk_judges bytes pieces p whole at)

pub fault_judged : (bytes : List ℕ) (pieces : List Piece) (p : Place) (f : LexFault) → PiecesOf bytes pieces → p ≡ after text_start (text_characters bytes) → walked p first_layout [] pieces ≡ Err f → IsFirstFault bytes f
fault_judged bytes pieces p f whole at h = subst (Judges bytes) h (walk_judges bytes pieces p whole at)

not_text : (bytes : List ℕ) (p : Place) (pieces : List Piece) → IsBadByteAt bytes p → PiecesOf bytes pieces → ⊥
not_text bytes p pieces bad whole = no_text_with_bad_byte bytes p bad whole.0

only_bad_byte : (bytes : List ℕ) (p : Place) (g : LexFault) → IsBadByteAt bytes p → HasFault bytes g → IsNotAfter (faults.BadUtf8 p) g
only_bad_byte bytes p _ bad (bad_utf8 q other) = same_not_after _ _ (ap (λ r. faults.BadUtf8 r) (same_bad_byte bytes p q bad other))
only_bad_byte bytes p _ bad (begins_no_token before rest piece cut shape) = absurd (not_text bytes p _ bad cut)
only_bad_byte bytes p _ bad (after_number before rest number piece cut numeral begins) = absurd (not_text bytes p _ bad cut)
only_bad_byte bytes p _ bad (bad_escape before rest piece q cut shape) = absurd (not_text bytes p _ bad cut)
only_bad_byte bytes p _ bad (tab_in_indent before spaces blanks rest tab first b cut fresh all col shape blank begins) = absurd (not_text bytes p _ bad cut)
only_bad_byte bytes p _ bad (bad_dedent before rest first b cut fresh begins new) = absurd (not_text bytes p _ bad cut)
only_bad_byte bytes p _ bad (open_string before rest piece cut shape) = absurd (not_text bytes p _ bad cut)
only_bad_byte bytes p _ bad (literal_too_large before rest piece cut shape) = absurd (not_text bytes p _ bad cut)
only_bad_byte bytes p _ bad (name_not_nfkc before rest piece name cut shape other) = absurd (not_text bytes p _ bad cut)
only_bad_byte bytes p _ bad (name_too_long before rest piece name cut shape long) = absurd (not_text bytes p _ bad cut)

first_bad_byte : (bytes : List ℕ) (p : Place) → IsBadByteAt bytes p → IsFirstFault bytes (faults.BadUtf8 p)
first_bad_byte bytes p bad = (bad_utf8 p bad, λ g h. only_bad_byte bytes p g bad h)

pub bad_byte_first : (bytes : List ℕ) (f : LexFault) → (p : Place) × (f ≡ faults.BadUtf8 p) × IsBadByteAt bytes p → IsFirstFault bytes f
bad_byte_first bytes f (p, e, bad) = subst (IsFirstFault bytes) (sym e) (first_bad_byte bytes p bad)
