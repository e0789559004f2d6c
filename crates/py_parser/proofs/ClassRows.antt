-- What the machine does at the symbols of classes.
use Rattle.std.proofs.Common.{ℕ, ◌≡◌, refl, ◌∙◌, List, [], ◌∷◌, ◌++◌, None, Result, Ok, Err, ap, append_assoc}
use Rattle.py_tokens.specs.declared.Token.{Token}
use Rattle.py_tokens.specs.declared.TokenForm.TheVariants as forms
use Rattle.py_tokens.specs.declared.Keyword.TheVariants as keys
use Rattle.py_tokens.specs.declared.Mark.TheVariants as marks
use Rattle.raw_syntax.specs.declared.RawFunc.{RawFunc}
use Rattle.py_grammar.specs.Symbols.{Value, vname, vbase, vfunc, vfuncs, vmarks, newline, indent, close_bracket, close_paren, Sym, fixed, make, ty_atom, doc, base, in_base, base_tail, members, class_body, skip, stop}
use Rattle.py_grammar.specs.Makers.{make_base, make_base_of, make_member}
use Rattle.py_grammar.specs.Moves.{next_base, next_in_base, next_base_tail, next_class_body}
use Rattle.py_grammar.specs.Machine.{bad, short, run}
use Rattle.py_grammar.specs.MachineRows.{taken, passed_by, stopped, ended, row_make}
use Rattle.expr_parser.specs.declared.fault.Refused.{Refused}
use Rattle.expr_parser.specs.Leads.{LeadsFrom}
use Rattle.py_parser.specs.declared.opening.FuncStart.{FuncStart}
use Rattle.py_parser.specs.declared.opening.MemberStart.TheVariants as starts
use Rattle.py_parser.specs.Openings.{func_symbols, MemberBy}

-- A call behind a step leads from where the step began.
pub led : {T : Type 0} (result : Result T Refused) (X Y : List Sym) (U W : List Value) (ts after : List Token) (value : T → Value) (rest : T → List Token) → ((S : List Sym) (V : List Value) → run ts (X ++ S) (U ++ V) ≡ run after (Y ++ S) (W ++ V)) → LeadsFrom Y W after value rest result → LeadsFrom X U ts value rest result
led (Ok x) X Y U W ts after value rest step on = λ S V. step S V ∙ on S V
led (Err f) X Y U W ts after value rest step on = λ n S V. step S V ∙ on n S V

-- bases
pub row_base : (r : List Token) (k : Token) (S : List Sym) (V : List Value) → k.form ≡ forms.Mark marks.OpenParen → run (k ∷ r) (base ∷ S) V ≡ run r (in_base ∷ S) V
row_base r k S V f = taken r k base S V (in_base ∷ []) [] (rw f refl)

pub row_no_base : (r : List Token) (k : Token) (S : List Sym) (V : List Value) → next_base k.form ≡ skip → run (k ∷ r) (base ∷ S) V ≡ run (k ∷ r) S (vbase None ∷ V)
row_no_base r k S V f = passed_by r k base S V f

pub short_base : (S : List Sym) (V : List Value) → run [] (base ∷ S) V ≡ short
short_base S V = ended base S V refl

pub row_empty_base : (r : List Token) (k : Token) (S : List Sym) (V : List Value) → k.form ≡ forms.Mark marks.CloseParen → run (k ∷ r) (in_base ∷ S) V ≡ run r S (vbase None ∷ V)
row_empty_base r k S V f = taken r k in_base S V [] (vbase None ∷ []) (rw f refl)

pub row_base_name : (r : List Token) (k : Token) (S : List Sym) (V : List Value) (n : List ℕ) → k.form ≡ forms.Name n → run (k ∷ r) (in_base ∷ S) V ≡ run r (base_tail ∷ S) (vname k.place n ∷ V)
row_base_name r k S V n f = taken r k in_base S V (base_tail ∷ []) (vname k.place n ∷ []) (rw f refl)

pub row_in_base_stop : (r : List Token) (k : Token) (S : List Sym) (V : List Value) → next_in_base k.place k.form ≡ stop → run (k ∷ r) (in_base ∷ S) V ≡ bad k.place
row_in_base_stop r k S V f = stopped r k in_base S V f

pub short_in_base : (S : List Sym) (V : List Value) → run [] (in_base ∷ S) V ≡ short
short_in_base S V = ended in_base S V refl

pub row_base_alone : (r : List Token) (k : Token) (S : List Sym) (V : List Value) → k.form ≡ forms.Mark marks.CloseParen → run (k ∷ r) (base_tail ∷ S) V ≡ run r (make make_base ∷ S) V
row_base_alone r k S V f = taken r k base_tail S V (make make_base ∷ []) [] (rw f refl)

pub row_base_of : (r : List Token) (k : Token) (S : List Sym) (V : List Value) → k.form ≡ forms.Mark marks.OpenBracket → run (k ∷ r) (base_tail ∷ S) V ≡ run r (ty_atom ∷ fixed close_bracket ∷ fixed close_paren ∷ make make_base_of ∷ S) V
row_base_of r k S V f = taken r k base_tail S V (ty_atom ∷ fixed close_bracket ∷ fixed close_paren ∷ make make_base_of ∷ []) [] (rw f refl)

pub row_base_stop : (r : List Token) (k : Token) (S : List Sym) (V : List Value) → next_base_tail k.form ≡ stop → run (k ∷ r) (base_tail ∷ S) V ≡ bad k.place
row_base_stop r k S V f = stopped r k base_tail S V f

pub short_base_tail : (S : List Sym) (V : List Value) → run [] (base_tail ∷ S) V ≡ short
short_base_tail S V = ended base_tail S V refl

-- members
pub row_members_end : (r : List Token) (k : Token) (S : List Sym) (V : List Value) → MemberBy starts.End k.form → run (k ∷ r) (members ∷ S) V ≡ run r S V
row_members_end r k S V f = taken r k members S V [] [] f

pub row_pass_member : (r : List Token) (k : Token) (S : List Sym) (V : List Value) → MemberBy starts.Pass k.form → run (k ∷ r) (members ∷ S) V ≡ run r (fixed newline ∷ members ∷ S) V
row_pass_member r k S V f = taken r k members S V (fixed newline ∷ members ∷ []) [] f

pub row_func_member : (r : List Token) (k : Token) (S : List Sym) (V : List Value) (s : FuncStart) → MemberBy (starts.Func s) k.form → run (k ∷ r) (members ∷ S) V ≡ run r (func_symbols s ++ make make_member ∷ members ∷ S) (vmarks [] ∷ V)
row_func_member r k S V s f =
    taken r k members S V (func_symbols s ++ make make_member ∷ members ∷ []) (vmarks [] ∷ []) f
    ∙ ap (λ (T : List Sym). run r T (vmarks [] ∷ V)) (append_assoc (func_symbols s) (make make_member ∷ members ∷ []) S)

pub row_members_stop : (r : List Token) (k : Token) (S : List Sym) (V : List Value) → MemberBy starts.Other k.form → run (k ∷ r) (members ∷ S) V ≡ bad k.place
row_members_stop r k S V f = stopped r k members S V f

pub made_member : (ts : List Token) (S : List Sym) (V : List Value) (fs : List RawFunc) (f : RawFunc) → run ts (make make_member ∷ S) (vfunc f ∷ vfuncs fs ∷ V) ≡ run ts S (vfuncs (fs ++ f ∷ []) ∷ V)
made_member ts S V fs f = row_make make_member S (vfunc f ∷ vfuncs fs ∷ V) ts

pub short_members : (S : List Sym) (V : List Value) → run [] (members ∷ S) V ≡ short
short_members S V = ended members S V refl

-- bodies
pub row_pass_body : (r : List Token) (k : Token) (S : List Sym) (V : List Value) → k.form ≡ forms.Key keys.Pass → run (k ∷ r) (class_body ∷ S) V ≡ run r (fixed newline ∷ S) (vfuncs [] ∷ V)
row_pass_body r k S V f = taken r k class_body S V (fixed newline ∷ []) (vfuncs [] ∷ []) (rw f refl)

pub row_member_lines : (r : List Token) (k : Token) (S : List Sym) (V : List Value) → k.form ≡ forms.Newline → run (k ∷ r) (class_body ∷ S) V ≡ run r (fixed indent ∷ doc ∷ members ∷ S) (vfuncs [] ∷ V)
row_member_lines r k S V f = taken r k class_body S V (fixed indent ∷ doc ∷ members ∷ []) (vfuncs [] ∷ []) (rw f refl)

pub row_body_stop : (r : List Token) (k : Token) (S : List Sym) (V : List Value) → next_class_body k.form ≡ stop → run (k ∷ r) (class_body ∷ S) V ≡ bad k.place
row_body_stop r k S V f = stopped r k class_body S V f

pub short_body : (S : List Sym) (V : List Value) → run [] (class_body ∷ S) V ≡ short
short_body S V = ended class_body S V refl

-- what each function needs
pub ruleset make_rows = (row_make)

pub ruleset base_rows = (row_base, row_no_base, short_base)

pub ruleset in_base_rows = (row_empty_base, row_base_name, row_in_base_stop, short_in_base)

pub ruleset tail_rows = (row_base_alone, row_base_of, row_base_stop, row_make, short_base_tail)

pub ruleset member_rows = (row_members_end, row_pass_member, row_func_member, row_members_stop, made_member, short_members)

pub ruleset body_rows = (row_pass_body, row_member_lines, row_body_stop, short_body)
