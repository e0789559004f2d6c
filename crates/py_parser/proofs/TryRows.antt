-- What the machine does at the symbols of `try`.
use Rattle.std.proofs.Common.{ℕ, ◌≡◌, refl, List, [], ◌∷◌, ◌++◌}
use Rattle.py_base.specs.declared.Place.{Place}
use Rattle.py_tokens.specs.declared.Token.{Token}
use Rattle.py_tokens.specs.declared.TokenForm.TheVariants as forms
use Rattle.py_tokens.specs.declared.Keyword.TheVariants as keys
use Rattle.raw_syntax.specs.declared.RawStmt.{RawStmt}
use Rattle.raw_syntax.specs.declared.RawHandler.{RawHandler}
use Rattle.raw_syntax.specs.declared.RawStmtForm.TheVariants as states
use Rattle.py_grammar.specs.StmtGrammar.{statement, handler}
use Rattle.py_grammar.specs.Symbols.{Value, vname, vstmt, vstmts, vhandlers, colon, Sym, fixed, make, want_name, block, else_part, finally_part, try_tail, handlers, skip}
use Rattle.py_grammar.specs.Makers.{make_try, make_try_finally, make_handler}
use Rattle.py_grammar.specs.Moves.{next_finally, next_handlers}
use Rattle.py_grammar.specs.Machine.{bad, short, run}
use Rattle.py_grammar.specs.MachineRows.{taken, passed_by, stopped, ended, row_make}
use Rattle.py_parser.specs.declared.lead.TailStart.TheVariants as tails
use Rattle.py_parser.specs.Begins.{TailBegins}

pub row_finally : (r : List Token) (k : Token) (S : List Sym) (V : List Value) → k.form ≡ forms.Key keys.Finally → run (k ∷ r) (finally_part ∷ S) V ≡ run r (fixed colon ∷ block ∷ S) V
row_finally r k S V f = taken r k finally_part S V (fixed colon ∷ block ∷ []) [] (rw f refl)

pub row_no_finally : (r : List Token) (k : Token) (S : List Sym) (V : List Value) → next_finally k.form ≡ skip → run (k ∷ r) (finally_part ∷ S) V ≡ run (k ∷ r) S (vstmts [] ∷ V)
row_no_finally r k S V f = passed_by r k finally_part S V f

pub short_finally : (S : List Sym) (V : List Value) → run [] (finally_part ∷ S) V ≡ short
short_finally S V = ended finally_part S V refl

-- handlers
pub made_handler : (ts : List Token) (S : List Sym) (V : List Value) (p : Place) (n : List ℕ) (ss : List RawStmt) (hs : List RawHandler) → run ts (make make_handler ∷ S) (vstmts ss ∷ vname p n ∷ vhandlers hs ∷ V) ≡ run ts S (vhandlers (hs ++ handler p n ss ∷ []) ∷ V)
made_handler ts S V p n ss hs = row_make make_handler S (vstmts ss ∷ vname p n ∷ vhandlers hs ∷ V) ts

pub row_except : (r : List Token) (k : Token) (S : List Sym) (V : List Value) → k.form ≡ forms.Key keys.Except → run (k ∷ r) (handlers ∷ S) V ≡ run r (want_name ∷ fixed colon ∷ block ∷ make make_handler ∷ handlers ∷ S) V
row_except r k S V f = taken r k handlers S V (want_name ∷ fixed colon ∷ block ∷ make make_handler ∷ handlers ∷ []) [] (rw f refl)

pub row_no_except : (r : List Token) (k : Token) (S : List Sym) (V : List Value) → next_handlers k.form ≡ skip → run (k ∷ r) (handlers ∷ S) V ≡ run (k ∷ r) S V
row_no_except r k S V f = passed_by r k handlers S V f

pub short_handlers : (S : List Sym) (V : List Value) → run [] (handlers ∷ S) V ≡ short
short_handlers S V = ended handlers S V refl

-- behind the block of `try`
pub row_caught : (r : List Token) (k : Token) (S : List Sym) (V : List Value) (q : Place) → k.form ≡ forms.Key keys.Except → run (k ∷ r) (try_tail q ∷ S) V ≡ run r (want_name ∷ fixed colon ∷ block ∷ make make_handler ∷ handlers ∷ else_part ∷ finally_part ∷ make (make_try q) ∷ S) (vhandlers [] ∷ V)
row_caught r k S V q f = taken r k (try_tail q) S V (want_name ∷ fixed colon ∷ block ∷ make make_handler ∷ handlers ∷ else_part ∷ finally_part ∷ make (make_try q) ∷ []) (vhandlers [] ∷ []) (rw f refl)

pub row_uncaught : (r : List Token) (k : Token) (S : List Sym) (V : List Value) (q : Place) → k.form ≡ forms.Key keys.Finally → run (k ∷ r) (try_tail q ∷ S) V ≡ run r (fixed colon ∷ block ∷ make (make_try_finally q) ∷ S) V
row_uncaught r k S V q f = taken r k (try_tail q) S V (fixed colon ∷ block ∷ make (make_try_finally q) ∷ []) [] (rw f refl)

pub row_no_tail : (r : List Token) (k : Token) (S : List Sym) (V : List Value) (q : Place) → TailBegins tails.Other k.form → run (k ∷ r) (try_tail q ∷ S) V ≡ bad k.place
row_no_tail r k S V q f = stopped r k (try_tail q) S V (f q)

pub short_tail : (S : List Sym) (V : List Value) (q : Place) → run [] (try_tail q ∷ S) V ≡ short
short_tail S V q = ended (try_tail q) S V refl

pub made_try : (ts : List Token) (S : List Sym) (V : List Value) (p : Place) (ss other last : List RawStmt) (hs : List RawHandler) → run ts (make (make_try p) ∷ S) (vstmts last ∷ vstmts other ∷ vhandlers hs ∷ vstmts ss ∷ V) ≡ run ts S (vstmt (statement p (states.Try ss hs other last)) ∷ V)
made_try ts S V p ss other last hs = row_make (make_try p) S (vstmts last ∷ vstmts other ∷ vhandlers hs ∷ vstmts ss ∷ V) ts

pub made_try_finally : (ts : List Token) (S : List Sym) (V : List Value) (p : Place) (ss last : List RawStmt) → run ts (make (make_try_finally p) ∷ S) (vstmts last ∷ vstmts ss ∷ V) ≡ run ts S (vstmt (statement p (states.Try ss [] [] last)) ∷ V)
made_try_finally ts S V p ss last = row_make (make_try_finally p) S (vstmts last ∷ vstmts ss ∷ V) ts

-- what each function needs
pub ruleset finally_rows = (row_finally, row_no_finally, short_finally)

pub ruleset handler_rows = (made_handler)

pub ruleset handlers_rows = (row_except, row_no_except, short_handlers)

pub ruleset caught_rows = (made_try)

pub ruleset uncaught_rows = (made_try_finally)

pub ruleset tail_rows = (row_caught, row_uncaught, row_no_tail, short_tail)
