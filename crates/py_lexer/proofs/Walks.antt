-- One step of the pass over the pieces.
use Rattle.std.proofs.Common.{◌≡◌, ◌∙◌, ap, sym, subst, List, ◌∷◌, ◌++◌, Some, None, Result, Err}
use Rattle.py_base.specs.declared.Place.{Place}
use Rattle.py_tokens.specs.declared.Token.{Token}
use Rattle.py_tokens.specs.declared.Piece.{Piece}
use Rattle.py_tokens.specs.declared.LexFault.{LexFault}
use Rattle.py_lexer.specs.declared.layout.Layout.{Layout}
use Rattle.py_lexer.specs.Walk.{walked, unless_fault, fault_of, next_layout, tokens_of, IsTextName, AreTextNames}

pub goes_past : (p : Place) (layout : Layout) (ts : List Token) (piece : Piece) (pieces : List Piece) → fault_of layout.line layout.widths piece ≡ None
    → walked p layout ts (piece ∷ pieces) ≡ walked p (next_layout layout piece) (ts ++ tokens_of layout piece piece.shape) pieces
goes_past p layout ts piece pieces h = ap (λ f. unless_fault f (walked p (next_layout layout piece) (ts ++ tokens_of layout piece piece.shape) pieces)) h

pub stops_at : (p : Place) (layout : Layout) (ts : List Token) (piece : Piece) (pieces : List Piece) (f : LexFault) → fault_of layout.line layout.widths piece ≡ Some f
    → walked p layout ts (piece ∷ pieces) ≡ Err f
stops_at p layout ts piece pieces f h = ap (λ g. unless_fault g (walked p (next_layout layout piece) (ts ++ tokens_of layout piece piece.shape) pieces)) h

pub names_rest : (pieces more : List Piece) (piece : Piece) → AreTextNames pieces → pieces ≡ piece ∷ more → IsTextName piece × AreTextNames more
names_rest pieces more piece names e = subst AreTextNames e names

pub walks_on : (p : Place) (layout next : Layout) (ts us : List Token) (piece : Piece) (pieces more : List Piece) (all : Result (List Token) LexFault) → pieces ≡ piece ∷ more → fault_of layout.line layout.widths piece ≡ None
    → next ≡ next_layout layout piece → us ≡ ts ++ tokens_of layout piece piece.shape → walked p layout ts pieces ≡ all → walked p next us more ≡ all
walks_on p layout next ts us piece pieces more all e h n u w =
    ap (λ l. walked p l us more) n
    ∙ ap (λ t. walked p (next_layout layout piece) t more) u
    ∙ sym (goes_past p layout ts piece more h)
    ∙ ap (walked p layout ts) (sym e)
    ∙ w

pub walk_stops : (p : Place) (layout : Layout) (ts : List Token) (piece : Piece) (pieces more : List Piece) (all : Result (List Token) LexFault) (f : LexFault) → pieces ≡ piece ∷ more → fault_of layout.line layout.widths piece ≡ Some f
    → walked p layout ts pieces ≡ all → all ≡ Err f
walk_stops p layout ts piece pieces more all f e h w = sym w ∙ ap (walked p layout ts) e ∙ stops_at p layout ts piece more f h
