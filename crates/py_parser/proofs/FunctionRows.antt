-- What the machine does at the symbols of functions.
use Rattle.std.proofs.Common.{ℕ, ◌≡◌, refl, ◌∙◌, List, [], ◌∷◌, ◌++◌, Some, None, ap}
use Rattle.py_base.specs.declared.Place.{Place}
use Rattle.py_tokens.specs.declared.Token.{Token}
use Rattle.py_tokens.specs.declared.TokenForm.{TokenForm}
use Rattle.py_tokens.specs.declared.TokenForm.TheVariants as forms
use Rattle.py_tokens.specs.declared.Mark.TheVariants as marks
use Rattle.raw_syntax.specs.declared.RawTy.{RawTy}
use Rattle.raw_syntax.specs.declared.RawParam.{RawParam}
use Rattle.py_grammar.specs.ModuleGrammar.{parameter}
use Rattle.py_grammar.specs.Symbols.{Value, vname, vty, vparams, vmarks, newline, Sym, fixed, make, want_name, ty_atom, ty_tail, params, param_tail, params_tail, decorators, skip, stop}
use Rattle.py_grammar.specs.Makers.{make_typed_param, make_mark}
use Rattle.py_grammar.specs.Moves.{next_args_tail, next_param_tail, next_params_tail, next_decorators}
use Rattle.py_grammar.specs.Machine.{bad, short, run}
use Rattle.py_grammar.specs.MachineRows.{taken, passed_by, stopped, ended, row_make}
use Rattle.expr_parser.specs.declared.fixed.Word.{Word}
use Rattle.expr_parser.specs.declared.start.Follow.TheVariants as follows
use Rattle.expr_parser.specs.Leads.{Follows}
use Rattle.py_parser.specs.declared.front.ParamsFront.TheVariants as fronts
use Rattle.py_parser.specs.FunctionFronts.{OpensParams}

-- a parameter
pub row_typed : (r : List Token) (k : Token) (S : List Sym) (V : List Value) → k.form ≡ forms.Mark marks.Colon → run (k ∷ r) (param_tail ∷ S) V ≡ run r (ty_atom ∷ ty_tail ∷ make make_typed_param ∷ S) V
row_typed r k S V f = taken r k param_tail S V (ty_atom ∷ ty_tail ∷ make make_typed_param ∷ []) [] (rw f refl)

pub row_untyped : (r : List Token) (k : Token) (S : List Sym) (V : List Value) (p : Place) (n : List ℕ) (ps : List RawParam) → next_param_tail k.form ≡ skip → run (k ∷ r) (param_tail ∷ S) (vname p n ∷ vparams ps ∷ V) ≡ run (k ∷ r) S (vparams (ps ++ parameter p n None ∷ []) ∷ V)
row_untyped r k S V p n ps f = passed_by r k param_tail S (vname p n ∷ vparams ps ∷ V) f

pub made_typed : (ts : List Token) (S : List Sym) (V : List Value) (p : Place) (n : List ℕ) (t : RawTy) (ps : List RawParam) → run ts (make make_typed_param ∷ S) (vty t ∷ vname p n ∷ vparams ps ∷ V) ≡ run ts S (vparams (ps ++ parameter p n (Some t) ∷ []) ∷ V)
made_typed ts S V p n t ps = row_make make_typed_param S (vty t ∷ vname p n ∷ vparams ps ∷ V) ts

pub short_param : (S : List Sym) (V : List Value) → run [] (param_tail ∷ S) V ≡ short
short_param S V = ended param_tail S V refl

-- parameters
pub row_no_param : (r : List Token) (k : Token) (S : List Sym) (V : List Value) → k.form ≡ forms.Mark marks.CloseParen → run (k ∷ r) (params ∷ S) V ≡ run r S V
row_no_param r k S V f = taken r k params S V [] [] (rw f refl)

pub row_param : (r : List Token) (k : Token) (S : List Sym) (V : List Value) (w : Word) → OpensParams (fronts.Name w) k.place k.form → run (k ∷ r) (params ∷ S) V ≡ run r (param_tail ∷ params_tail ∷ S) (vname w.place w.text ∷ V)
row_param r k S V w f = taken r k params S V (param_tail ∷ params_tail ∷ []) (vname w.place w.text ∷ []) f

pub row_params_stop : (r : List Token) (k : Token) (S : List Sym) (V : List Value) → OpensParams fronts.Other k.place k.form → run (k ∷ r) (params ∷ S) V ≡ bad k.place
row_params_stop r k S V f = stopped r k params S V f

pub short_params : (S : List Sym) (V : List Value) → run [] (params ∷ S) V ≡ short
short_params S V = ended params S V refl

pub row_last_param : (r : List Token) (k : Token) (S : List Sym) (V : List Value) → k.form ≡ forms.Mark marks.CloseParen → run (k ∷ r) (params_tail ∷ S) V ≡ run r S V
row_last_param r k S V f = taken r k params_tail S V [] [] (rw f refl)

pub row_comma : (r : List Token) (k : Token) (S : List Sym) (V : List Value) → k.form ≡ forms.Mark marks.Comma → run (k ∷ r) (params_tail ∷ S) V ≡ run r (params ∷ S) V
row_comma r k S V f = taken r k params_tail S V (params ∷ []) [] (rw f refl)

-- What stops behind an argument stops behind a parameter.
stops_alike : (f : TokenForm) → next_args_tail f ≡ stop → next_params_tail f ≡ stop
stops_alike (forms.Mark marks.CloseParen) h = cc
stops_alike (forms.Mark marks.Comma) h = cc
stops_alike _ h = refl

pub row_tail_stop : (r : List Token) (k : Token) (S : List Sym) (V : List Value) → Follows follows.Other k.form → run (k ∷ r) (params_tail ∷ S) V ≡ bad k.place
row_tail_stop r k S V f = stopped r k params_tail S V (stops_alike k.form (f k.place).0)

pub short_tail : (S : List Sym) (V : List Value) → run [] (params_tail ∷ S) V ≡ short
short_tail S V = ended params_tail S V refl

-- what the machine does up to a parameter whose name is read
pub to_param : (ts rest after : List Token) (k : Token) (w : Word) (list : List RawParam)
    → ((S : List Sym) (V : List Value) → run ts (params ∷ S) (vparams [] ∷ V) ≡ run rest (params ∷ S) (vparams list ∷ V))
    → rest ≡ k ∷ after
    → OpensParams (fronts.Name w) k.place k.form
    → (S : List Sym) (V : List Value) → run ts (params ∷ S) (vparams [] ∷ V) ≡ run after (param_tail ∷ params_tail ∷ S) (vname w.place w.text ∷ vparams list ∷ V)
to_param ts rest after k w list leads is opens S V =
    leads S V
    ∙ ap (λ us. run us (params ∷ S) (vparams list ∷ V)) is
    ∙ row_param after k S (vparams list ∷ V) w opens

-- decorators
pub row_mark : (r : List Token) (k : Token) (S : List Sym) (V : List Value) → k.form ≡ forms.Mark marks.At → run (k ∷ r) (decorators ∷ S) V ≡ run r (want_name ∷ make make_mark ∷ fixed newline ∷ decorators ∷ S) V
row_mark r k S V f = taken r k decorators S V (want_name ∷ make make_mark ∷ fixed newline ∷ decorators ∷ []) [] (rw f refl)

pub row_no_mark : (r : List Token) (k : Token) (S : List Sym) (V : List Value) → next_decorators k.form ≡ skip → run (k ∷ r) (decorators ∷ S) V ≡ run (k ∷ r) S V
row_no_mark r k S V f = passed_by r k decorators S V f

pub made_mark : (ts : List Token) (S : List Sym) (V : List Value) (p : Place) (n : List ℕ) (ns : List (List ℕ)) → run ts (make make_mark ∷ S) (vname p n ∷ vmarks ns ∷ V) ≡ run ts S (vmarks (ns ++ n ∷ []) ∷ V)
made_mark ts S V p n ns = row_make make_mark S (vname p n ∷ vmarks ns ∷ V) ts

pub short_marks : (S : List Sym) (V : List Value) → run [] (decorators ∷ S) V ≡ short
short_marks S V = ended decorators S V refl

-- what each function needs
pub ruleset param_rows = (row_typed, row_untyped, made_typed, short_param)

pub ruleset params_rows = (row_no_param, row_params_stop, short_params)

pub ruleset mark_rows = (row_no_mark, short_marks)

pub ruleset made_mark_rows = (made_mark)
