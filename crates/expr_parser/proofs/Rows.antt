-- What the machine does at the symbols of expressions.
use Rattle.std.proofs.Common.{ℕ, ◌≡◌, refl, sym, ◌∙◌, List, [], ◌∷◌, ◌++◌, Some, None, ap, append_assoc}
use Rattle.py_base.specs.declared.Place.{Place}
use Rattle.py_tokens.specs.declared.Token.{Token}
use Rattle.py_tokens.specs.declared.TokenForm.{TokenForm}
use Rattle.py_tokens.specs.declared.TokenForm.TheVariants as forms
use Rattle.py_tokens.specs.declared.Keyword.TheVariants as keys
use Rattle.py_tokens.specs.declared.Mark.TheVariants as marks
use Rattle.raw_syntax.specs.declared.RawExpr.{RawExpr}
use Rattle.raw_syntax.specs.declared.RawExprForm.TheVariants as exprs
use Rattle.raw_syntax.specs.declared.RawArgument.{RawArgument}
use Rattle.raw_syntax.specs.declared.RawArgument.TheVariants as arguments
use Rattle.raw_syntax.specs.declared.RawComparison.{RawComparison}
use Rattle.raw_syntax.specs.declared.Arithmetic.{Arithmetic}
use Rattle.raw_syntax.specs.declared.Comparison.{Comparison}
use Rattle.raw_syntax.specs.declared.Comparison.TheVariants as compares
use Rattle.py_grammar.specs.ExprGrammar.{node, link, place_of}
use Rattle.py_grammar.specs.Symbols.{Value, vexpr, vexprs, vargs, vlinks, vname, Sym, make, want_name, neg, un, tail_post, tail_prod, tail_sum, tail_cmp, is_tail, links, tail_and, tail_or, in_bracket, bracket_tail, elements, elements_tail, args, arg_tail, args_tail, Move, take, skip, stop}
use Rattle.py_grammar.specs.Makers.{make_or, make_and, make_not, make_link, make_binary, make_negate, make_field, make_call, make_named, make_bracket, make_first, make_element, make_tuple}
use Rattle.py_grammar.specs.Moves.{next, made, and_then, next_un, next_neg, next_post, next_prod, next_sum, next_is, next_and, next_or, next_in_bracket, next_bracket, next_elements, next_element, next_args, next_arg_tail, next_args_tail, next_name}
use Rattle.py_grammar.specs.Machine.{Out, bad, short, run}
use Rattle.py_grammar.specs.MachineRows.{taken, passed_by, stopped, row_make, expand_by, row_name, row_no_name, short_name}
use Rattle.expr_parser.specs.declared.start.Start.TheVariants as starts
use Rattle.expr_parser.specs.declared.start.LinkStart.{LinkStart}
use Rattle.expr_parser.specs.declared.start.Follow.TheVariants as follows
use Rattle.expr_parser.specs.Leads.{StartsWith, LinksBy, link_symbols, BeginsWith, Follows}

un_never_skips : (p : Place) (f : TokenForm) → next_un p f ≡ skip → ⊥
un_never_skips p (forms.Name n) h = cc
un_never_skips p (forms.Number n) h = cc
un_never_skips p (forms.Str n) h = cc
un_never_skips p (forms.Key keys.True) h = cc
un_never_skips p (forms.Key keys.False) h = cc
un_never_skips p (forms.Key keys.None) h = cc
un_never_skips p (forms.Mark marks.OpenParen) h = cc
un_never_skips p (forms.Mark marks.Minus) h = cc
un_never_skips p _ h = cc

then_never_skips : (m : Move) (zs : List Sym) → (m ≡ skip → ⊥) → and_then m zs ≡ skip → ⊥
then_never_skips (take ys vs) zs n h = cc
then_never_skips skip zs n h = n refl
then_never_skips stop zs n h = cc

neg_never_skips : (p : Place) (f : TokenForm) → next_neg p f ≡ skip → ⊥
neg_never_skips p (forms.Key keys.Not) h = cc
neg_never_skips p f h = then_never_skips (next_un p f) (tail_prod ∷ tail_sum ∷ tail_cmp ∷ []) (un_never_skips p f) h

-- operands
pub row_minus : (r : List Token) (k : Token) (S : List Sym) (V : List Value) → StartsWith starts.Minus k.place k.form → run (k ∷ r) (un ∷ S) V ≡ run r (un ∷ make (make_negate k.place) ∷ S) V
row_minus r k S V f = taken r k un S V (un ∷ make (make_negate k.place) ∷ []) [] f

pub row_open : (r : List Token) (k : Token) (S : List Sym) (V : List Value) → StartsWith starts.Open k.place k.form → run (k ∷ r) (un ∷ S) V ≡ run r (in_bracket k.place ∷ tail_post ∷ S) V
row_open r k S V f = taken r k un S V (in_bracket k.place ∷ tail_post ∷ []) [] f

pub row_leaf : (r : List Token) (k : Token) (S : List Sym) (V : List Value) (e : RawExpr) → StartsWith (starts.Leaf e) k.place k.form → run (k ∷ r) (un ∷ S) V ≡ run r (tail_post ∷ S) (vexpr e ∷ V)
row_leaf r k S V e f = taken r k un S V (tail_post ∷ []) (vexpr e ∷ []) f

pub row_other : (r : List Token) (k : Token) (S : List Sym) (V : List Value) → StartsWith starts.Other k.place k.form → run (k ∷ r) (un ∷ S) V ≡ bad k.place
row_other r k S V f = stopped r k un S V f

pub made_negate : (ts : List Token) (S : List Sym) (V : List Value) (p : Place) (e : RawExpr) → run ts (make (make_negate p) ∷ S) (vexpr e ∷ V) ≡ run ts S (vexpr (node p (exprs.Negate e)) ∷ V)
made_negate ts S V p e = row_make (make_negate p) S (vexpr e ∷ V) ts

pub short_un : (S : List Sym) (V : List Value) → run [] (un ∷ S) V ≡ short
unfolding run
short_un S V = refl

-- fields and calls
pub row_dot : (r : List Token) (k : Token) (S : List Sym) (V : List Value) → k.form ≡ forms.Mark marks.Dot → run (k ∷ r) (tail_post ∷ S) V ≡ run r (want_name ∷ make make_field ∷ tail_post ∷ S) V
unfolding run
row_dot r k S V f = rw f refl

pub row_call : (r : List Token) (k : Token) (S : List Sym) (V : List Value) → k.form ≡ forms.Mark marks.OpenParen → run (k ∷ r) (tail_post ∷ S) V ≡ run r (args ∷ tail_post ∷ S) (vargs [] ∷ V)
unfolding run
row_call r k S V f = rw f refl

pub row_post_skip : (r : List Token) (k : Token) (S : List Sym) (V : List Value) → next_post k.place k.form ≡ skip → run (k ∷ r) (tail_post ∷ S) V ≡ run (k ∷ r) S V
row_post_skip r k S V f = passed_by r k tail_post S V f

pub short_post : (S : List Sym) (V : List Value) → run [] (tail_post ∷ S) V ≡ short
unfolding run
short_post S V = refl

pub made_field : (ts : List Token) (S : List Sym) (V : List Value) (p : Place) (n : List ℕ) (e : RawExpr) → run ts (make make_field ∷ S) (vname p n ∷ vexpr e ∷ V) ≡ run ts S (vexpr (node p (exprs.Field e n)) ∷ V)
made_field ts S V p n e = row_make make_field S (vname p n ∷ vexpr e ∷ V) ts

-- arithmetic
pub row_prod : (r : List Token) (k : Token) (S : List Sym) (V : List Value) (o : Arithmetic) → next_prod k.place k.form ≡ take (un ∷ make (make_binary k.place o) ∷ tail_prod ∷ []) [] → run (k ∷ r) (tail_prod ∷ S) V ≡ run r (un ∷ make (make_binary k.place o) ∷ tail_prod ∷ S) V
row_prod r k S V o f = taken r k tail_prod S V (un ∷ make (make_binary k.place o) ∷ tail_prod ∷ []) [] f

pub row_prod_skip : (r : List Token) (k : Token) (S : List Sym) (V : List Value) → next_prod k.place k.form ≡ skip → run (k ∷ r) (tail_prod ∷ S) V ≡ run (k ∷ r) S V
row_prod_skip r k S V f = passed_by r k tail_prod S V f

pub short_prod : (S : List Sym) (V : List Value) → run [] (tail_prod ∷ S) V ≡ short
unfolding run
short_prod S V = refl

pub row_sum : (r : List Token) (k : Token) (S : List Sym) (V : List Value) (o : Arithmetic) → next_sum k.place k.form ≡ take (un ∷ tail_prod ∷ make (make_binary k.place o) ∷ tail_sum ∷ []) [] → run (k ∷ r) (tail_sum ∷ S) V ≡ run r (un ∷ tail_prod ∷ make (make_binary k.place o) ∷ tail_sum ∷ S) V
row_sum r k S V o f = taken r k tail_sum S V (un ∷ tail_prod ∷ make (make_binary k.place o) ∷ tail_sum ∷ []) [] f

pub row_sum_skip : (r : List Token) (k : Token) (S : List Sym) (V : List Value) → next_sum k.place k.form ≡ skip → run (k ∷ r) (tail_sum ∷ S) V ≡ run (k ∷ r) S V
row_sum_skip r k S V f = passed_by r k tail_sum S V f

pub short_sum : (S : List Sym) (V : List Value) → run [] (tail_sum ∷ S) V ≡ short
unfolding run
short_sum S V = refl

pub made_binary : (ts : List Token) (S : List Sym) (V : List Value) (p : Place) (o : Arithmetic) (a b : RawExpr) → run ts (make (make_binary p o) ∷ S) (vexpr b ∷ vexpr a ∷ V) ≡ run ts S (vexpr (node p (exprs.Binary o a b)) ∷ V)
made_binary ts S V p o a b = row_make (make_binary p o) S (vexpr b ∷ vexpr a ∷ V) ts

-- `not`, `and` and `or`
pub row_not : (r : List Token) (k : Token) (S : List Sym) (V : List Value) → k.form ≡ forms.Key keys.Not → run (k ∷ r) (neg ∷ S) V ≡ run r (neg ∷ make (make_not k.place) ∷ S) V
unfolding run
row_not r k S V f = rw f refl

pub row_neg : (r : List Token) (k : Token) (S : List Sym) (V : List Value) → next_neg k.place k.form ≡ and_then (next_un k.place k.form) (tail_prod ∷ tail_sum ∷ tail_cmp ∷ []) → run (k ∷ r) (neg ∷ S) V ≡ run (k ∷ r) (un ∷ tail_prod ∷ tail_sum ∷ tail_cmp ∷ S) V
row_neg r k S V f = expand_by (next_un k.place k.form) neg un (tail_prod ∷ tail_sum ∷ tail_cmp ∷ []) r k S V refl f (un_never_skips k.place k.form)

pub made_not : (ts : List Token) (S : List Sym) (V : List Value) (p : Place) (e : RawExpr) → run ts (make (make_not p) ∷ S) (vexpr e ∷ V) ≡ run ts S (vexpr (node p (exprs.Not e)) ∷ V)
made_not ts S V p e = row_make (make_not p) S (vexpr e ∷ V) ts

pub short_neg : (S : List Sym) (V : List Value) → run [] (neg ∷ S) V ≡ short
unfolding run
short_neg S V = refl

pub row_and : (r : List Token) (k : Token) (S : List Sym) (V : List Value) → k.form ≡ forms.Key keys.And → run (k ∷ r) (tail_and ∷ S) V ≡ run r (neg ∷ make (make_and k.place) ∷ tail_and ∷ S) V
unfolding run
row_and r k S V f = rw f refl

pub row_and_skip : (r : List Token) (k : Token) (S : List Sym) (V : List Value) → next_and k.place k.form ≡ skip → run (k ∷ r) (tail_and ∷ S) V ≡ run (k ∷ r) S V
row_and_skip r k S V f = passed_by r k tail_and S V f

pub made_and : (ts : List Token) (S : List Sym) (V : List Value) (p : Place) (a b : RawExpr) → run ts (make (make_and p) ∷ S) (vexpr b ∷ vexpr a ∷ V) ≡ run ts S (vexpr (node p (exprs.And a b)) ∷ V)
made_and ts S V p a b = row_make (make_and p) S (vexpr b ∷ vexpr a ∷ V) ts

pub short_and : (S : List Sym) (V : List Value) → run [] (tail_and ∷ S) V ≡ short
unfolding run
short_and S V = refl

pub row_or : (r : List Token) (k : Token) (S : List Sym) (V : List Value) → k.form ≡ forms.Key keys.Or → run (k ∷ r) (tail_or ∷ S) V ≡ run r (neg ∷ tail_and ∷ make (make_or k.place) ∷ tail_or ∷ S) V
unfolding run
row_or r k S V f = rw f refl

pub row_or_skip : (r : List Token) (k : Token) (S : List Sym) (V : List Value) → next_or k.place k.form ≡ skip → run (k ∷ r) (tail_or ∷ S) V ≡ run (k ∷ r) S V
row_or_skip r k S V f = passed_by r k tail_or S V f

pub made_or : (ts : List Token) (S : List Sym) (V : List Value) (p : Place) (a b : RawExpr) → run ts (make (make_or p) ∷ S) (vexpr b ∷ vexpr a ∷ V) ≡ run ts S (vexpr (node p (exprs.Or a b)) ∷ V)
made_or ts S V p a b = row_make (make_or p) S (vexpr b ∷ vexpr a ∷ V) ts

pub short_or : (S : List Sym) (V : List Value) → run [] (tail_or ∷ S) V ≡ short
unfolding run
short_or S V = refl

-- arguments
pub row_no_arg : (r : List Token) (k : Token) (S : List Sym) (V : List Value) (us : List RawArgument) (e : RawExpr) → k.form ≡ forms.Mark marks.CloseParen → run (k ∷ r) (args ∷ S) (vargs us ∷ vexpr e ∷ V) ≡ run r S (vexpr (node (place_of e) (exprs.Call e us)) ∷ V)
row_no_arg r k S V us e f = taken r k args S (vargs us ∷ vexpr e ∷ V) (make make_call ∷ []) [] (no_arg_move k.place k.form f) ∙ row_make make_call S (vargs us ∷ vexpr e ∷ V) r
  where
    no_arg_move : (p : Place) (f : TokenForm) → f ≡ forms.Mark marks.CloseParen → next_args p f ≡ take (make make_call ∷ []) []
    no_arg_move p f h = rw h refl

pub row_arg : (r : List Token) (k : Token) (S : List Sym) (V : List Value) → next_args k.place k.form ≡ and_then (next_neg k.place k.form) (tail_and ∷ tail_or ∷ arg_tail ∷ args_tail ∷ []) → run (k ∷ r) (args ∷ S) V ≡ run (k ∷ r) (neg ∷ tail_and ∷ tail_or ∷ arg_tail ∷ args_tail ∷ S) V
row_arg r k S V f = expand_by (next_neg k.place k.form) args neg (tail_and ∷ tail_or ∷ arg_tail ∷ args_tail ∷ []) r k S V refl f (neg_never_skips k.place k.form)

pub row_last_arg : (r : List Token) (k : Token) (S : List Sym) (V : List Value) (us : List RawArgument) (e : RawExpr) → k.form ≡ forms.Mark marks.CloseParen → run (k ∷ r) (args_tail ∷ S) (vargs us ∷ vexpr e ∷ V) ≡ run r S (vexpr (node (place_of e) (exprs.Call e us)) ∷ V)
row_last_arg r k S V us e f = taken r k args_tail S (vargs us ∷ vexpr e ∷ V) (make make_call ∷ []) [] (last_move k.form f) ∙ row_make make_call S (vargs us ∷ vexpr e ∷ V) r
  where
    last_move : (f : TokenForm) → f ≡ forms.Mark marks.CloseParen → next_args_tail f ≡ take (make make_call ∷ []) []
    last_move f h = rw h refl

pub row_comma : (r : List Token) (k : Token) (S : List Sym) (V : List Value) → k.form ≡ forms.Mark marks.Comma → run (k ∷ r) (args_tail ∷ S) V ≡ run r (args ∷ S) V
unfolding run
row_comma r k S V f = rw f refl

pub row_args_stop : (r : List Token) (k : Token) (S : List Sym) (V : List Value) → Follows follows.Other k.form → run (k ∷ r) (args_tail ∷ S) V ≡ bad k.place
row_args_stop r k S V f = stopped r k args_tail S V (f k.place).0

pub short_args : (S : List Sym) (V : List Value) → run [] (args ∷ S) V ≡ short
unfolding run
short_args S V = refl

pub short_args_tail : (S : List Sym) (V : List Value) → run [] (args_tail ∷ S) V ≡ short
unfolding run
short_args_tail S V = refl

pub row_assign : (r : List Token) (k : Token) (S : List Sym) (V : List Value) → k.form ≡ forms.Mark marks.Assign → run (k ∷ r) (arg_tail ∷ S) V ≡ run r (neg ∷ tail_and ∷ tail_or ∷ make make_named ∷ S) V
unfolding run
row_assign r k S V f = rw f refl

pub row_value : (r : List Token) (k : Token) (S : List Sym) (V : List Value) (us : List RawArgument) (e : RawExpr) → next_arg_tail k.form ≡ skip → run (k ∷ r) (arg_tail ∷ S) (vexpr e ∷ vargs us ∷ V) ≡ run (k ∷ r) S (vargs (us ++ arguments.Value e ∷ []) ∷ V)
row_value r k S V us e f = passed_by r k arg_tail S (vexpr e ∷ vargs us ∷ V) f

pub made_named : (ts : List Token) (S : List Sym) (V : List Value) (us : List RawArgument) (a b : RawExpr) → run ts (make make_named ∷ S) (vexpr b ∷ vexpr a ∷ vargs us ∷ V) ≡ run ts S (vargs (us ++ arguments.Named a b ∷ []) ∷ V)
made_named ts S V us a b = row_make make_named S (vexpr b ∷ vexpr a ∷ vargs us ∷ V) ts

pub short_arg : (S : List Sym) (V : List Value) → run [] (arg_tail ∷ S) V ≡ short
unfolding run
short_arg S V = refl

-- brackets
pub row_unit : (r : List Token) (k : Token) (S : List Sym) (V : List Value) (q : Place) → k.form ≡ forms.Mark marks.CloseParen → run (k ∷ r) (in_bracket q ∷ S) V ≡ run r S (vexpr (node q (exprs.Tuple [])) ∷ V)
unfolding run
row_unit r k S V q f = rw f refl

pub row_inner : (r : List Token) (k : Token) (S : List Sym) (V : List Value) (q : Place) → next_in_bracket q k.place k.form ≡ and_then (next_neg k.place k.form) (tail_and ∷ tail_or ∷ bracket_tail q ∷ []) → run (k ∷ r) (in_bracket q ∷ S) V ≡ run (k ∷ r) (neg ∷ tail_and ∷ tail_or ∷ bracket_tail q ∷ S) V
row_inner r k S V q f = expand_by (next_neg k.place k.form) (in_bracket q) neg (tail_and ∷ tail_or ∷ bracket_tail q ∷ []) r k S V refl f (neg_never_skips k.place k.form)

pub row_bracket : (r : List Token) (k : Token) (S : List Sym) (V : List Value) (q : Place) (e : RawExpr) → k.form ≡ forms.Mark marks.CloseParen → run (k ∷ r) (bracket_tail q ∷ S) (vexpr e ∷ V) ≡ run r S (vexpr (node q (exprs.Bracket e)) ∷ V)
row_bracket r k S V q e f = taken r k (bracket_tail q) S (vexpr e ∷ V) (make (make_bracket q) ∷ []) [] (bracket_move k.form f) ∙ row_make (make_bracket q) S (vexpr e ∷ V) r
  where
    bracket_move : (f : TokenForm) → f ≡ forms.Mark marks.CloseParen → next_bracket q f ≡ take (make (make_bracket q) ∷ []) []
    bracket_move f h = rw h refl

pub row_first : (r : List Token) (k : Token) (S : List Sym) (V : List Value) (q : Place) (e : RawExpr) → k.form ≡ forms.Mark marks.Comma → run (k ∷ r) (bracket_tail q ∷ S) (vexpr e ∷ V) ≡ run r (elements q ∷ S) (vexprs (e ∷ []) ∷ V)
row_first r k S V q e f = taken r k (bracket_tail q) S (vexpr e ∷ V) (make make_first ∷ elements q ∷ []) [] (first_move k.form f) ∙ row_make make_first (elements q ∷ S) (vexpr e ∷ V) r
  where
    first_move : (f : TokenForm) → f ≡ forms.Mark marks.Comma → next_bracket q f ≡ take (make make_first ∷ elements q ∷ []) []
    first_move f h = rw h refl

pub row_bracket_stop : (r : List Token) (k : Token) (S : List Sym) (V : List Value) (q : Place) → Follows follows.Other k.form → run (k ∷ r) (bracket_tail q ∷ S) V ≡ bad k.place
row_bracket_stop r k S V q f = stopped r k (bracket_tail q) S V (f q).1

pub short_in_bracket : (S : List Sym) (V : List Value) (q : Place) → run [] (in_bracket q ∷ S) V ≡ short
unfolding run
short_in_bracket S V q = refl

pub short_bracket : (S : List Sym) (V : List Value) (q : Place) → run [] (bracket_tail q ∷ S) V ≡ short
unfolding run
short_bracket S V q = refl

pub row_no_element : (r : List Token) (k : Token) (S : List Sym) (V : List Value) (q : Place) (us : List RawExpr) → k.form ≡ forms.Mark marks.CloseParen → run (k ∷ r) (elements q ∷ S) (vexprs us ∷ V) ≡ run r S (vexpr (node q (exprs.Tuple us)) ∷ V)
row_no_element r k S V q us f = taken r k (elements q) S (vexprs us ∷ V) (make (make_tuple q) ∷ []) [] (close_move k.place k.form f) ∙ row_make (make_tuple q) S (vexprs us ∷ V) r
  where
    close_move : (p : Place) (f : TokenForm) → f ≡ forms.Mark marks.CloseParen → next_elements q p f ≡ take (make (make_tuple q) ∷ []) []
    close_move p f h = rw h refl

pub row_element : (r : List Token) (k : Token) (S : List Sym) (V : List Value) (q : Place) → next_elements q k.place k.form ≡ and_then (next_neg k.place k.form) (tail_and ∷ tail_or ∷ make make_element ∷ elements_tail q ∷ []) → run (k ∷ r) (elements q ∷ S) V ≡ run (k ∷ r) (neg ∷ tail_and ∷ tail_or ∷ make make_element ∷ elements_tail q ∷ S) V
row_element r k S V q f = expand_by (next_neg k.place k.form) (elements q) neg (tail_and ∷ tail_or ∷ make make_element ∷ elements_tail q ∷ []) r k S V refl f (neg_never_skips k.place k.form)

pub made_element : (ts : List Token) (S : List Sym) (V : List Value) (us : List RawExpr) (e : RawExpr) → run ts (make make_element ∷ S) (vexpr e ∷ vexprs us ∷ V) ≡ run ts S (vexprs (us ++ e ∷ []) ∷ V)
made_element ts S V us e = row_make make_element S (vexpr e ∷ vexprs us ∷ V) ts

pub row_last_element : (r : List Token) (k : Token) (S : List Sym) (V : List Value) (q : Place) (us : List RawExpr) → k.form ≡ forms.Mark marks.CloseParen → run (k ∷ r) (elements_tail q ∷ S) (vexprs us ∷ V) ≡ run r S (vexpr (node q (exprs.Tuple us)) ∷ V)
row_last_element r k S V q us f = taken r k (elements_tail q) S (vexprs us ∷ V) (make (make_tuple q) ∷ []) [] (end_move k.form f) ∙ row_make (make_tuple q) S (vexprs us ∷ V) r
  where
    end_move : (f : TokenForm) → f ≡ forms.Mark marks.CloseParen → next_element q f ≡ take (make (make_tuple q) ∷ []) []
    end_move f h = rw h refl

pub row_element_comma : (r : List Token) (k : Token) (S : List Sym) (V : List Value) (q : Place) → k.form ≡ forms.Mark marks.Comma → run (k ∷ r) (elements_tail q ∷ S) V ≡ run r (elements q ∷ S) V
unfolding run
row_element_comma r k S V q f = rw f refl

pub row_element_stop : (r : List Token) (k : Token) (S : List Sym) (V : List Value) (q : Place) → Follows follows.Other k.form → run (k ∷ r) (elements_tail q ∷ S) V ≡ bad k.place
row_element_stop r k S V q f = stopped r k (elements_tail q) S V (f q).2

pub short_elements : (S : List Sym) (V : List Value) (q : Place) → run [] (elements q ∷ S) V ≡ short
unfolding run
short_elements S V q = refl

pub short_element : (S : List Sym) (V : List Value) (q : Place) → run [] (elements_tail q ∷ S) V ≡ short
unfolding run
short_element S V q = refl

-- chains
pub row_cmp : (r : List Token) (k : Token) (S : List Sym) (V : List Value) (c : LinkStart) → LinksBy (Some c) k.place k.form → run (k ∷ r) (tail_cmp ∷ S) V ≡ run r (link_symbols k.place c ++ S) (vlinks [] ∷ V)
row_cmp r k S V c f = taken r k tail_cmp S V (link_symbols k.place c) (vlinks [] ∷ []) (f (vlinks [] ∷ []))

pub row_cmp_skip : (r : List Token) (k : Token) (S : List Sym) (V : List Value) → LinksBy None k.place k.form → run (k ∷ r) (tail_cmp ∷ S) V ≡ run (k ∷ r) S V
row_cmp_skip r k S V f = passed_by r k tail_cmp S V (f (vlinks [] ∷ []))

pub short_cmp : (S : List Sym) (V : List Value) → run [] (tail_cmp ∷ S) V ≡ short
unfolding run
short_cmp S V = refl

pub row_link : (r : List Token) (k : Token) (S : List Sym) (V : List Value) (c : LinkStart) → LinksBy (Some c) k.place k.form → run (k ∷ r) (links ∷ S) V ≡ run r (link_symbols k.place c ++ S) V
row_link r k S V c f = taken r k links S V (link_symbols k.place c) [] (f [])

chain_made : (p : Place) (ls : List RawComparison) (e : RawExpr) (V : List Value) → BeginsWith p ls → made links (vlinks ls ∷ vexpr e ∷ V) ≡ vexpr (node p (exprs.Chain e ls)) ∷ V
chain_made p [] e V h = absurd h
chain_made p (l ∷ ls) e V h = ap (λ (q : Place). vexpr (node q (exprs.Chain e (l ∷ ls))) ∷ V) h

pub row_chain : (r : List Token) (k : Token) (S : List Sym) (V : List Value) (p : Place) (ls : List RawComparison) (e : RawExpr) → LinksBy None k.place k.form → BeginsWith p ls → run (k ∷ r) (links ∷ S) (vlinks ls ∷ vexpr e ∷ V) ≡ run (k ∷ r) S (vexpr (node p (exprs.Chain e ls)) ∷ V)
row_chain r k S V p ls e f h = passed_by r k links S (vlinks ls ∷ vexpr e ∷ V) (f []) ∙ ap (λ (W : List Value). run (k ∷ r) S W) (chain_made p ls e V h)

pub short_links : (S : List Sym) (V : List Value) → run [] (links ∷ S) V ≡ short
unfolding run
short_links S V = refl

pub row_is_not : (r : List Token) (k : Token) (S : List Sym) (V : List Value) (q : Place) → k.form ≡ forms.Key keys.Not → run (k ∷ r) (is_tail q ∷ S) V ≡ run r (un ∷ tail_prod ∷ tail_sum ∷ make (make_link q compares.IsNot) ∷ links ∷ S) V
unfolding run
row_is_not r k S V q f = rw f refl

pub row_is : (r : List Token) (k : Token) (S : List Sym) (V : List Value) (q : Place) → next_is q k.place k.form ≡ and_then (next_un k.place k.form) (tail_prod ∷ tail_sum ∷ make (make_link q compares.Is) ∷ links ∷ []) → run (k ∷ r) (is_tail q ∷ S) V ≡ run (k ∷ r) (un ∷ tail_prod ∷ tail_sum ∷ make (make_link q compares.Is) ∷ links ∷ S) V
row_is r k S V q f = expand_by (next_un k.place k.form) (is_tail q) un (tail_prod ∷ tail_sum ∷ make (make_link q compares.Is) ∷ links ∷ []) r k S V refl f (un_never_skips k.place k.form)

pub short_is : (S : List Sym) (V : List Value) (q : Place) → run [] (is_tail q ∷ S) V ≡ short
unfolding run
short_is S V q = refl

pub made_link : (ts : List Token) (S : List Sym) (V : List Value) (p : Place) (c : Comparison) (us : List RawComparison) (e : RawExpr) → run ts (make (make_link p c) ∷ S) (vexpr e ∷ vlinks us ∷ V) ≡ run ts S (vlinks (us ++ link p c e ∷ []) ∷ V)
made_link ts S V p c us e = row_make (make_link p c) S (vexpr e ∷ vlinks us ∷ V) ts

-- a link more behind the others
pub begins_first : (p : Place) (c : Comparison) (e : RawExpr) → BeginsWith p (link p c e ∷ [])
begins_first p c e = refl

pub begins_more : (p : Place) (ls ms : List RawComparison) → BeginsWith p ls → BeginsWith p (ls ++ ms)
begins_more p [] ms h = absurd h
begins_more p (l ∷ ls) ms h = h

-- what each function needs
pub ruleset or_rows = (row_or, row_or_skip, made_or, short_or)

pub ruleset and_rows = (row_and, row_and_skip, made_and, short_and)

pub ruleset neg_rows = (row_not, row_neg, made_not, short_neg)

pub ruleset sum_rows = (row_sum, row_sum_skip, made_binary, short_sum)

pub ruleset prod_rows = (row_prod, row_prod_skip, made_binary, short_prod)

pub ruleset un_rows = (row_minus, row_open, row_leaf, row_other, made_negate, short_un)

pub ruleset post_rows = (row_dot, row_call, row_post_skip, short_post)

pub ruleset name_rows = (row_name, row_no_name, short_name, made_field)

pub ruleset call_rows = (row_no_arg, row_arg, row_last_arg, row_comma, row_args_stop, short_args, short_args_tail)

pub ruleset arg_rows = (row_assign, row_value, made_named, short_arg)

pub ruleset bracket_rows = (row_unit, row_inner, row_bracket, row_first, row_bracket_stop, short_in_bracket, short_bracket)

pub ruleset element_rows = (row_no_element, row_element, made_element, row_last_element, row_element_comma, row_element_stop, short_elements, short_element)

pub ruleset cmp_rows = (row_cmp, row_cmp_skip, short_cmp, row_link, row_chain, short_links)

pub ruleset link_rows = (made_link, begins_first, begins_more)

pub ruleset is_rows = (row_is_not, row_is, short_is)
