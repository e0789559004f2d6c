-- What the machine does at the symbols of statements of one line.
use Rattle.std.proofs.Common.{true, false, ◌≡◌, refl, ◌∙◌, List, [], ◌∷◌, ◌++◌, None, Result, Ok, Err}
use Rattle.py_base.specs.declared.Place.{Place}
use Rattle.py_tokens.specs.declared.Token.{Token}
use Rattle.py_tokens.specs.declared.TokenForm.{TokenForm}
use Rattle.py_tokens.specs.declared.TokenForm.TheVariants as forms
use Rattle.py_tokens.specs.declared.Keyword.TheVariants as keys
use Rattle.py_tokens.specs.declared.Mark.TheVariants as marks
use Rattle.raw_syntax.specs.declared.RawExpr.{RawExpr}
use Rattle.raw_syntax.specs.declared.RawStmtForm.TheVariants as states
use Rattle.raw_syntax.specs.declared.Arithmetic.{Arithmetic}
use Rattle.py_grammar.specs.StmtGrammar.{statement}
use Rattle.py_grammar.specs.Symbols.{Value, vexpr, vstmt, assign, open_paren, close_paren, Sym, fixed, make, want_name, neg, tail_prod, tail_sum, tail_cmp, tail_and, tail_or, ty_atom, ty_tail, simple, return_tail, simple_tail, Move, take, skip, stop}
use Rattle.py_grammar.specs.Makers.{make_value_return, make_raise, make_assert, make_declare, make_assign, make_augment}
use Rattle.py_grammar.specs.Moves.{and_then, next_un, next_neg, starts_expr}
use Rattle.py_grammar.specs.Machine.{short, run}
use Rattle.py_grammar.specs.MachineRows.{taken, passed_by, ended, expand_by, row_make}
use Rattle.expr_parser.specs.declared.fault.Refused.{Refused}
use Rattle.expr_parser.specs.Leads.{LeadsFrom}
use Rattle.py_parser.specs.declared.front.Front.TheVariants as fronts
use Rattle.py_parser.specs.declared.front.Behind.TheVariants as behinds
use Rattle.py_parser.specs.SimpleFronts.{OpensSimple, Continues}

-- A step of the machine, and then what leads on from there.
pub led : {T : Type 0} (X Y : List Sym) (U W : List Value) (ts us : List Token) (val : T → Value) (rest : T → List Token) (result : Result T Refused) → ((S : List Sym) (V : List Value) → run ts (X ++ S) (U ++ V) ≡ run us (Y ++ S) (W ++ V)) → LeadsFrom Y W us val rest result → LeadsFrom X U ts val rest result
led X Y U W ts us val rest (Ok x) step h = λ S V. step S V ∙ h S V
led X Y U W ts us val rest (Err f) step h = λ n S V. step S V ∙ h n S V

un_never_skips : (p : Place) (f : TokenForm) → next_un p f ≡ skip → ⊥
un_never_skips p (forms.Name n) h = cc
un_never_skips p (forms.Number n) h = cc
un_never_skips p (forms.Str n) h = cc
un_never_skips p (forms.Key keys.True) h = cc
un_never_skips p (forms.Key keys.False) h = cc
un_never_skips p (forms.Key keys.None) h = cc
un_never_skips p (forms.Mark marks.OpenParen) h = cc
un_never_skips p (forms.Mark marks.Minus) h = cc
un_never_skips p _ h = cc

then_never_skips : (m : Move) (zs : List Sym) → (m ≡ skip → ⊥) → and_then m zs ≡ skip → ⊥
then_never_skips (take ys vs) zs n h = cc
then_never_skips skip zs n h = n refl
then_never_skips stop zs n h = cc

-- Each token is taken where an expression is wanted, or nothing goes on with it.
pub neg_never_skips : (p : Place) (f : TokenForm) → next_neg p f ≡ skip → ⊥
neg_never_skips p (forms.Key keys.Not) h = cc
neg_never_skips p f h = then_never_skips (next_un p f) (tail_prod ∷ tail_sum ∷ tail_cmp ∷ []) (un_never_skips p f) h

-- the first token
pub row_pass : (r : List Token) (k : Token) (S : List Sym) (V : List Value) → k.form ≡ forms.Key keys.Pass → run (k ∷ r) (simple ∷ S) V ≡ run r S (vstmt (statement k.place states.Pass) ∷ V)
row_pass r k S V f = taken r k simple S V [] (vstmt (statement k.place states.Pass) ∷ []) (rw f refl)

pub row_break : (r : List Token) (k : Token) (S : List Sym) (V : List Value) → k.form ≡ forms.Key keys.Break → run (k ∷ r) (simple ∷ S) V ≡ run r S (vstmt (statement k.place states.Break) ∷ V)
row_break r k S V f = taken r k simple S V [] (vstmt (statement k.place states.Break) ∷ []) (rw f refl)

pub row_continue : (r : List Token) (k : Token) (S : List Sym) (V : List Value) → k.form ≡ forms.Key keys.Continue → run (k ∷ r) (simple ∷ S) V ≡ run r S (vstmt (statement k.place states.Continue) ∷ V)
row_continue r k S V f = taken r k simple S V [] (vstmt (statement k.place states.Continue) ∷ []) (rw f refl)

pub row_return : (r : List Token) (k : Token) (S : List Sym) (V : List Value) → k.form ≡ forms.Key keys.Return → run (k ∷ r) (simple ∷ S) V ≡ run r (return_tail k.place ∷ S) V
row_return r k S V f = taken r k simple S V (return_tail k.place ∷ []) [] (rw f refl)

pub row_raise : (r : List Token) (k : Token) (S : List Sym) (V : List Value) → k.form ≡ forms.Key keys.Raise → run (k ∷ r) (simple ∷ S) V ≡ run r (want_name ∷ fixed open_paren ∷ fixed close_paren ∷ make (make_raise k.place) ∷ S) V
row_raise r k S V f = taken r k simple S V (want_name ∷ fixed open_paren ∷ fixed close_paren ∷ make (make_raise k.place) ∷ []) [] (rw f refl)

pub row_assert : (r : List Token) (k : Token) (S : List Sym) (V : List Value) → k.form ≡ forms.Key keys.Assert → run (k ∷ r) (simple ∷ S) V ≡ run r (neg ∷ tail_and ∷ tail_or ∷ make (make_assert k.place) ∷ S) V
row_assert r k S V f = taken r k simple S V (neg ∷ tail_and ∷ tail_or ∷ make (make_assert k.place) ∷ []) [] (rw f refl)

pub row_plain : (r : List Token) (k : Token) (S : List Sym) (V : List Value) → OpensSimple fronts.Other k.place k.form → run (k ∷ r) (simple ∷ S) V ≡ run (k ∷ r) (neg ∷ tail_and ∷ tail_or ∷ simple_tail k.place ∷ S) V
row_plain r k S V f = expand_by (next_neg k.place k.form) simple neg (tail_and ∷ tail_or ∷ simple_tail k.place ∷ []) r k S V refl f (neg_never_skips k.place k.form)

pub short_simple : (S : List Sym) (V : List Value) → run [] (simple ∷ S) V ≡ short
short_simple S V = ended simple S V refl

-- behind `return`
pub row_return_value : (r : List Token) (k : Token) (S : List Sym) (V : List Value) (q : Place) → starts_expr k.form ≡ true → run (k ∷ r) (return_tail q ∷ S) V ≡ run (k ∷ r) (neg ∷ tail_and ∷ tail_or ∷ make (make_value_return q) ∷ S) V
row_return_value r k S V q f = expand_by (next_neg k.place k.form) (return_tail q) neg (tail_and ∷ tail_or ∷ make (make_value_return q) ∷ []) r k S V refl (rw f refl) (neg_never_skips k.place k.form)

pub row_return_alone : (r : List Token) (k : Token) (S : List Sym) (V : List Value) (q : Place) → starts_expr k.form ≡ false → run (k ∷ r) (return_tail q ∷ S) V ≡ run (k ∷ r) S (vstmt (statement q (states.Return None)) ∷ V)
row_return_alone r k S V q f = passed_by r k (return_tail q) S V (rw f refl)

pub short_return : (S : List Sym) (V : List Value) (q : Place) → run [] (return_tail q ∷ S) V ≡ short
short_return S V q = ended (return_tail q) S V refl

-- behind the first expression
pub row_declare : (r : List Token) (k : Token) (S : List Sym) (V : List Value) (q : Place) → k.form ≡ forms.Mark marks.Colon → run (k ∷ r) (simple_tail q ∷ S) V ≡ run r (ty_atom ∷ ty_tail ∷ fixed assign ∷ neg ∷ tail_and ∷ tail_or ∷ make (make_declare q) ∷ S) V
row_declare r k S V q f = taken r k (simple_tail q) S V (ty_atom ∷ ty_tail ∷ fixed assign ∷ neg ∷ tail_and ∷ tail_or ∷ make (make_declare q) ∷ []) [] (rw f refl)

pub row_assign : (r : List Token) (k : Token) (S : List Sym) (V : List Value) (q : Place) → k.form ≡ forms.Mark marks.Assign → run (k ∷ r) (simple_tail q ∷ S) V ≡ run r (neg ∷ tail_and ∷ tail_or ∷ make (make_assign q) ∷ S) V
row_assign r k S V q f = taken r k (simple_tail q) S V (neg ∷ tail_and ∷ tail_or ∷ make (make_assign q) ∷ []) [] (rw f refl)

pub row_augment : (r : List Token) (k : Token) (S : List Sym) (V : List Value) (q : Place) (o : Arithmetic) → Continues (behinds.Augment o) k.place k.form → run (k ∷ r) (simple_tail q ∷ S) V ≡ run r (neg ∷ tail_and ∷ tail_or ∷ make (make_augment q k.place o) ∷ S) V
row_augment r k S V q o f = taken r k (simple_tail q) S V (neg ∷ tail_and ∷ tail_or ∷ make (make_augment q k.place o) ∷ []) [] (f q)

pub row_eval : (r : List Token) (k : Token) (S : List Sym) (V : List Value) (q : Place) (e : RawExpr) → Continues behinds.Nothing k.place k.form → run (k ∷ r) (simple_tail q ∷ S) (vexpr e ∷ V) ≡ run (k ∷ r) S (vstmt (statement q (states.Eval e)) ∷ V)
row_eval r k S V q e f = passed_by r k (simple_tail q) S (vexpr e ∷ V) (f q)

pub short_tail : (S : List Sym) (V : List Value) (q : Place) → run [] (simple_tail q ∷ S) V ≡ short
short_tail S V q = ended (simple_tail q) S V refl

-- what each function needs
pub ruleset made_rows = (row_make)

pub ruleset return_rows = (row_return_value, row_return_alone, short_return)

pub ruleset tail_rows = (row_declare, row_assign, row_augment, row_eval, short_tail)

pub ruleset simple_rows = (row_pass, row_break, row_continue, short_simple)
