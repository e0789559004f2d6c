-- What the machine does at a symbol, by what its table says of the next token.
use Rattle.std.proofs.Common.{ℕ, true, false, ◌≡◌, refl, List, [], ◌∷◌, ◌++◌, Some, None, ap, codes}
use Rattle.py_tokens.specs.declared.Token.{Token}
use Rattle.py_tokens.specs.declared.TokenForm.TheVariants as forms
use Rattle.py_tokens.specs.declared.Keyword.TheVariants as keys
use Rattle.py_tokens.specs.declared.Mark.TheVariants as marks
use Rattle.py_grammar.specs.Symbols.{Value, vname, close_bracket, Sym, fixed, make, want_name, ty_atom, ty_tail, Move, take, skip, stop}
use Rattle.py_grammar.specs.Makers.{make_head, make_inner}
use Rattle.py_grammar.specs.Moves.{next_ty_atom, next_ty_tail}
use Rattle.py_grammar.specs.Machine.{bad, short, run}
use Rattle.py_grammar.specs.MachineRows.{taken, passed_by, stopped, ended, row_make, row_fixed, row_fixed_stop, short_fixed, row_name, row_no_name, short_name}

pub ruleset fixed_rows = (row_fixed, row_fixed_stop, short_fixed)

pub ruleset name_rows = (row_name, row_no_name, short_name)

-- types
pub row_atom_name : (r : List Token) (k : Token) (S : List Sym) (V : List Value) (n : List ℕ) → k.form ≡ forms.Name n → run (k ∷ r) (ty_atom ∷ S) V ≡ run r S (vname k.place n ∷ V)
row_atom_name r k S V n f = taken r k ty_atom S V [] (vname k.place n ∷ []) (rw f refl)

pub row_atom_string : (r : List Token) (k : Token) (S : List Sym) (V : List Value) (n : List ℕ) → k.form ≡ forms.Str n → run (k ∷ r) (ty_atom ∷ S) V ≡ run r S (vname k.place n ∷ V)
row_atom_string r k S V n f = taken r k ty_atom S V [] (vname k.place n ∷ []) (rw f refl)

pub row_atom_none : (r : List Token) (k : Token) (S : List Sym) (V : List Value) → k.form ≡ forms.Key keys.None → run (k ∷ r) (ty_atom ∷ S) V ≡ run r S (vname k.place (codes "None") ∷ V)
row_atom_none r k S V f = taken r k ty_atom S V [] (vname k.place (codes "None") ∷ []) (rw f refl)

pub row_no_atom : (r : List Token) (k : Token) (S : List Sym) (V : List Value) → next_ty_atom k.place k.form ≡ stop → run (k ∷ r) (ty_atom ∷ S) V ≡ bad k.place
row_no_atom r k S V f = stopped r k ty_atom S V f

pub short_atom : (S : List Sym) (V : List Value) → run [] (ty_atom ∷ S) V ≡ short
short_atom S V = ended ty_atom S V refl

pub ruleset atom_rows = (row_atom_name, row_atom_string, row_atom_none, row_no_atom, short_atom)

pub row_inner : (r : List Token) (k : Token) (S : List Sym) (V : List Value) → k.form ≡ forms.Mark marks.OpenBracket → run (k ∷ r) (ty_tail ∷ S) V ≡ run r (ty_atom ∷ fixed close_bracket ∷ make make_inner ∷ S) V
row_inner r k S V f = taken r k ty_tail S V (ty_atom ∷ fixed close_bracket ∷ make make_inner ∷ []) [] (rw f refl)

pub row_no_inner : (r : List Token) (k : Token) (S : List Sym) (V : List Value) → next_ty_tail k.form ≡ skip → run (k ∷ r) (ty_tail ∷ S) V ≡ run (k ∷ r) S (make_head V)
row_no_inner r k S V f = passed_by r k ty_tail S V f

pub short_ty_tail : (S : List Sym) (V : List Value) → run [] (ty_tail ∷ S) V ≡ short
short_ty_tail S V = ended ty_tail S V refl

pub ruleset type_rows = (row_inner, row_no_inner, row_make, short_ty_tail)
