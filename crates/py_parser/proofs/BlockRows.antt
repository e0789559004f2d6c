-- What the machine does at the symbols of blocks, lists of statements, choices and loops.
use Rattle.std.proofs.Common.{◌≡◌, refl, List, [], ◌∷◌, ◌++◌}
use Rattle.py_base.specs.declared.Place.{Place}
use Rattle.py_tokens.specs.declared.Token.{Token}
use Rattle.py_tokens.specs.declared.TokenForm.TheVariants as forms
use Rattle.py_tokens.specs.declared.Keyword.TheVariants as keys
use Rattle.raw_syntax.specs.declared.RawExpr.{RawExpr}
use Rattle.raw_syntax.specs.declared.RawStmt.{RawStmt}
use Rattle.raw_syntax.specs.declared.RawElif.{RawElif}
use Rattle.raw_syntax.specs.declared.RawStmtForm.TheVariants as states
use Rattle.py_grammar.specs.StmtGrammar.{statement, elif_part}
use Rattle.py_grammar.specs.Symbols.{Value, vexpr, vstmt, vstmts, velifs, newline, indent, colon, Sym, fixed, make, neg, tail_and, tail_or, simple, stmt, block, stmts, elifs, else_part, try_tail, skip}
use Rattle.py_grammar.specs.Makers.{push, make_only, make_next, make_if, make_elif, make_while, make_with}
use Rattle.py_grammar.specs.Moves.{next_simple, next_stmt, next_elifs, next_else}
use Rattle.py_grammar.specs.Machine.{short, run}
use Rattle.py_grammar.specs.MachineRows.{taken, passed_by, ended, row_make, expand_by}
use Rattle.py_parser.specs.declared.lead.BlockStart.TheVariants as blocks
use Rattle.py_parser.specs.declared.lead.ListStart.TheVariants as lists
use Rattle.py_parser.specs.declared.lead.StmtStart.TheVariants as starts
use Rattle.py_parser.specs.Begins.{BlockBegins, ListBegins, StmtBegins}
use Rattle.py_parser.proofs.Skips.{simple_never_skips, stmt_never_skips}

-- blocks
pub row_lines : (r : List Token) (k : Token) (S : List Sym) (V : List Value) → k.form ≡ forms.Newline → run (k ∷ r) (block ∷ S) V ≡ run r (fixed indent ∷ stmt ∷ make make_only ∷ stmts ∷ S) V
row_lines r k S V f = taken r k block S V (fixed indent ∷ stmt ∷ make make_only ∷ stmts ∷ []) [] (rw f refl)

pub row_line : (r : List Token) (k : Token) (S : List Sym) (V : List Value) → BlockBegins blocks.Line k.place k.form → run (k ∷ r) (block ∷ S) V ≡ run (k ∷ r) (simple ∷ fixed newline ∷ make make_only ∷ S) V
row_line r k S V f = expand_by (next_simple k.place k.form) block simple (fixed newline ∷ make make_only ∷ []) r k S V refl f (simple_never_skips k.place k.form)

pub short_block : (S : List Sym) (V : List Value) → run [] (block ∷ S) V ≡ short
short_block S V = ended block S V refl

pub made_only : (ts : List Token) (S : List Sym) (V : List Value) (s : RawStmt) → run ts (make make_only ∷ S) (vstmt s ∷ V) ≡ run ts S (vstmts (s ∷ []) ∷ V)
made_only ts S V s = row_make make_only S (vstmt s ∷ V) ts

-- lists of statements
pub row_dedent : (r : List Token) (k : Token) (S : List Sym) (V : List Value) → k.form ≡ forms.Dedent → run (k ∷ r) (stmts ∷ S) V ≡ run r S V
row_dedent r k S V f = taken r k stmts S V [] [] (rw f refl)

pub row_more : (r : List Token) (k : Token) (S : List Sym) (V : List Value) → ListBegins lists.More k.place k.form → run (k ∷ r) (stmts ∷ S) V ≡ run (k ∷ r) (stmt ∷ make make_next ∷ stmts ∷ S) V
row_more r k S V f = expand_by (next_stmt k.place k.form) stmts stmt (make make_next ∷ stmts ∷ []) r k S V refl f (stmt_never_skips k.place k.form)

pub made_next : (ts : List Token) (S : List Sym) (V : List Value) (ss : List RawStmt) (s : RawStmt) → run ts (make make_next ∷ S) (vstmt s ∷ vstmts ss ∷ V) ≡ run ts S (vstmts (ss ++ s ∷ []) ∷ V)
made_next ts S V ss s = row_make make_next S (vstmt s ∷ vstmts ss ∷ V) ts

pub short_stmts : (S : List Sym) (V : List Value) → run [] (stmts ∷ S) V ≡ short
short_stmts S V = ended stmts S V refl

-- statements
pub row_if : (r : List Token) (k : Token) (S : List Sym) (V : List Value) → k.form ≡ forms.Key keys.If → run (k ∷ r) (stmt ∷ S) V ≡ run r (neg ∷ tail_and ∷ tail_or ∷ fixed colon ∷ block ∷ make (push (velifs [])) ∷ elifs ∷ else_part ∷ make (make_if k.place) ∷ S) V
row_if r k S V f = taken r k stmt S V (neg ∷ tail_and ∷ tail_or ∷ fixed colon ∷ block ∷ make (push (velifs [])) ∷ elifs ∷ else_part ∷ make (make_if k.place) ∷ []) [] (rw f refl)

pub row_while : (r : List Token) (k : Token) (S : List Sym) (V : List Value) → k.form ≡ forms.Key keys.While → run (k ∷ r) (stmt ∷ S) V ≡ run r (neg ∷ tail_and ∷ tail_or ∷ fixed colon ∷ block ∷ make (make_while k.place) ∷ S) V
row_while r k S V f = taken r k stmt S V (neg ∷ tail_and ∷ tail_or ∷ fixed colon ∷ block ∷ make (make_while k.place) ∷ []) [] (rw f refl)

pub row_try : (r : List Token) (k : Token) (S : List Sym) (V : List Value) → k.form ≡ forms.Key keys.Try → run (k ∷ r) (stmt ∷ S) V ≡ run r (fixed colon ∷ block ∷ try_tail k.place ∷ S) V
row_try r k S V f = taken r k stmt S V (fixed colon ∷ block ∷ try_tail k.place ∷ []) [] (rw f refl)

pub row_with : (r : List Token) (k : Token) (S : List Sym) (V : List Value) → k.form ≡ forms.Key keys.With → run (k ∷ r) (stmt ∷ S) V ≡ run r (neg ∷ tail_and ∷ tail_or ∷ fixed colon ∷ block ∷ make (make_with k.place) ∷ S) V
row_with r k S V f = taken r k stmt S V (neg ∷ tail_and ∷ tail_or ∷ fixed colon ∷ block ∷ make (make_with k.place) ∷ []) [] (rw f refl)

pub row_stmt_line : (r : List Token) (k : Token) (S : List Sym) (V : List Value) → StmtBegins starts.Line k.place k.form → run (k ∷ r) (stmt ∷ S) V ≡ run (k ∷ r) (simple ∷ fixed newline ∷ S) V
row_stmt_line r k S V f = expand_by (next_simple k.place k.form) stmt simple (fixed newline ∷ []) r k S V refl f (simple_never_skips k.place k.form)

pub short_stmt : (S : List Sym) (V : List Value) → run [] (stmt ∷ S) V ≡ short
short_stmt S V = ended stmt S V refl

-- loops and locks
pub made_while : (ts : List Token) (S : List Sym) (V : List Value) (p : Place) (e : RawExpr) (ss : List RawStmt) → run ts (make (make_while p) ∷ S) (vstmts ss ∷ vexpr e ∷ V) ≡ run ts S (vstmt (statement p (states.While e ss)) ∷ V)
made_while ts S V p e ss = row_make (make_while p) S (vstmts ss ∷ vexpr e ∷ V) ts

pub made_with : (ts : List Token) (S : List Sym) (V : List Value) (p : Place) (e : RawExpr) (ss : List RawStmt) → run ts (make (make_with p) ∷ S) (vstmts ss ∷ vexpr e ∷ V) ≡ run ts S (vstmt (statement p (states.With e ss)) ∷ V)
made_with ts S V p e ss = row_make (make_with p) S (vstmts ss ∷ vexpr e ∷ V) ts

-- choices
pub made_none : (ts : List Token) (S : List Sym) (V : List Value) → run ts (make (push (velifs [])) ∷ S) V ≡ run ts S (velifs [] ∷ V)
made_none ts S V = row_make (push (velifs [])) S V ts

pub made_if : (ts : List Token) (S : List Sym) (V : List Value) (p : Place) (e : RawExpr) (ss other : List RawStmt) (es : List RawElif) → run ts (make (make_if p) ∷ S) (vstmts other ∷ velifs es ∷ vstmts ss ∷ vexpr e ∷ V) ≡ run ts S (vstmt (statement p (states.If e ss es other)) ∷ V)
made_if ts S V p e ss other es = row_make (make_if p) S (vstmts other ∷ velifs es ∷ vstmts ss ∷ vexpr e ∷ V) ts

pub row_elif : (r : List Token) (k : Token) (S : List Sym) (V : List Value) → k.form ≡ forms.Key keys.Elif → run (k ∷ r) (elifs ∷ S) V ≡ run r (neg ∷ tail_and ∷ tail_or ∷ fixed colon ∷ block ∷ make (make_elif k.place) ∷ elifs ∷ S) V
row_elif r k S V f = taken r k elifs S V (neg ∷ tail_and ∷ tail_or ∷ fixed colon ∷ block ∷ make (make_elif k.place) ∷ elifs ∷ []) [] (rw f refl)

pub row_no_elif : (r : List Token) (k : Token) (S : List Sym) (V : List Value) → next_elifs k.place k.form ≡ skip → run (k ∷ r) (elifs ∷ S) V ≡ run (k ∷ r) S V
row_no_elif r k S V f = passed_by r k elifs S V f

pub made_elif : (ts : List Token) (S : List Sym) (V : List Value) (p : Place) (e : RawExpr) (ss : List RawStmt) (es : List RawElif) → run ts (make (make_elif p) ∷ S) (vstmts ss ∷ vexpr e ∷ velifs es ∷ V) ≡ run ts S (velifs (es ++ elif_part p e ss ∷ []) ∷ V)
made_elif ts S V p e ss es = row_make (make_elif p) S (vstmts ss ∷ vexpr e ∷ velifs es ∷ V) ts

pub short_elifs : (S : List Sym) (V : List Value) → run [] (elifs ∷ S) V ≡ short
short_elifs S V = ended elifs S V refl

pub row_else : (r : List Token) (k : Token) (S : List Sym) (V : List Value) → k.form ≡ forms.Key keys.Else → run (k ∷ r) (else_part ∷ S) V ≡ run r (fixed colon ∷ block ∷ S) V
row_else r k S V f = taken r k else_part S V (fixed colon ∷ block ∷ []) [] (rw f refl)

pub row_no_else : (r : List Token) (k : Token) (S : List Sym) (V : List Value) → next_else k.form ≡ skip → run (k ∷ r) (else_part ∷ S) V ≡ run (k ∷ r) S (vstmts [] ∷ V)
row_no_else r k S V f = passed_by r k else_part S V f

pub short_else : (S : List Sym) (V : List Value) → run [] (else_part ∷ S) V ≡ short
short_else S V = ended else_part S V refl

-- what each function needs
pub ruleset block_rows = (row_lines, row_line, short_block, made_only)

pub ruleset suite_rows = (made_only)

pub ruleset list_rows = (row_dedent, row_more, made_next, short_stmts)

pub ruleset stmt_rows = (row_if, row_while, row_try, row_with, row_stmt_line, short_stmt)

pub ruleset while_rows = (made_while)

pub ruleset with_rows = (made_with)

pub ruleset if_rows = (made_none, made_if)

pub ruleset elif_rows = (made_elif)

pub ruleset elifs_rows = (row_elif, row_no_elif, short_elifs)

pub ruleset else_rows = (row_else, row_no_else, short_else)
