-- What spells a type, a statement or a block is read by the machine.
use Rattle.std.proofs.Common.{ℕ, ◌≡◌, arith, refl, sym, List, [], ◌∷◌, ◌++◌, ap, append_assoc}
use Rattle.std.proofs.lemmas.List.{append-nil}
use Rattle.py_base.specs.declared.Place.{Place}
use Rattle.py_tokens.specs.declared.Token.{Token}
use Rattle.py_tokens.specs.declared.TokenForm.TheVariants as forms
use Rattle.py_tokens.specs.declared.Keyword.TheVariants as keys
use Rattle.raw_syntax.specs.declared.Arithmetic.{Arithmetic}
use Rattle.raw_syntax.specs.declared.RawTy.{RawTy}
use Rattle.raw_syntax.specs.declared.RawStmt.{RawStmt}
use Rattle.raw_syntax.specs.declared.RawElif.{RawElif}
use Rattle.raw_syntax.specs.declared.RawHandler.{RawHandler}
use Rattle.py_grammar.specs.TokenFronts.{Past}
use Rattle.py_grammar.specs.StmtGrammar.{elif_part, ReadsTyAtom, type_name, type_string, type_none, ReadsTy, only_head, head_of, ReadsAug, plus_assign, minus_assign, times_assign, floor_assign, modulo_assign, ReadsSimple, pass, break, continue, return, return_value, raise, assert, eval, declare, assign, augment, ReadsStmt, simple as simple_line, if_of, while_of, try_of, finally_of, with_of, ReadsBlock, one_line, lines, ReadsStmts, stmts_end, stmt_more, ReadsElifs, no_elif, elif_more, ReadsElse, no_else, else_of, ReadsFinally, no_finally, finally_block, ReadsHandler, except_of, ReadsHandlers, no_handler, handler_more}
use Rattle.py_grammar.specs.Symbols.{Value, vname, vty, vstmt, vstmts, velifs, vhandlers, Sym, make, neg, tail_and, tail_or, ty_atom, ty_tail, simple, return_tail, simple_tail, stmt, block, stmts, elifs, else_part, finally_part, try_tail, handlers, take}
use Rattle.py_grammar.specs.Makers.{make_augment, make_try}
use Rattle.py_grammar.specs.Moves.{next, handler_with}
use Rattle.py_grammar.proofs.Rows.{To, ◌⊳◌, took, makes, stays}
use Rattle.py_grammar.proofs.Follows.{Stops, stops}
use Rattle.py_grammar.proofs.Starts.{expr_starts}
use Rattle.py_grammar.proofs.WholeExpr.{expr_to}
use Rattle.py_grammar.proofs.StmtStarts.{Skips, skips, skip_at, simple_starts, stmt_starts, simple_as, return_as, stmt_as, block_as, stmts_as, Ends, ends_elifs, ends_else, ends_finally, ends_handlers, before_else, before_finally, stmts_ends}

pub ty_atom_read : {p : Place} {n : List ℕ} {ts rest : List Token} → ReadsTyAtom p n ts rest → {S : List Sym} {V : List Value} → To ts (ty_atom ∷ S) V rest S (vname p n ∷ V)
ty_atom_read (type_name h) = took h refl
ty_atom_read (type_string h) = took h refl
ty_atom_read (type_none h) = took h refl

pub ty_read : {t : RawTy} {ts rest : List Token} → ReadsTy t ts rest → {S : List Sym} {V : List Value} → Skips ty_tail rest → To ts (ty_atom ∷ ty_tail ∷ S) V rest S (vty t ∷ V)
ty_read (only_head a) s = ty_atom_read a ⊳ skip_at ty_tail s
ty_read (head_of a (q, h) b (r, k)) s = ty_atom_read a ⊳ took h refl ⊳ ty_atom_read b ⊳ took k refl ⊳ makes

aug_stops : {o : Arithmetic} {q : Place} {ts rest : List Token} → ReadsAug o q ts rest → Stops 0 ts
aug_stops (plus_assign h) = stops h (omega arith)
aug_stops (minus_assign h) = stops h (omega arith)
aug_stops (times_assign h) = stops h (omega arith)
aug_stops (floor_assign h) = stops h (omega arith)
aug_stops (modulo_assign h) = stops h (omega arith)

aug_read : {o : Arithmetic} {q : Place} {ts rest : List Token} → ReadsAug o q ts rest → {S : List Sym} {V : List Value} (p : Place) → To ts (simple_tail p ∷ S) V rest (neg ∷ tail_and ∷ tail_or ∷ make (make_augment p q o) ∷ S) V
aug_read (plus_assign h) p = took h refl
aug_read (minus_assign h) p = took h refl
aug_read (times_assign h) p = took h refl
aug_read (floor_assign h) p = took h refl
aug_read (modulo_assign h) p = took h refl

pub simple_read : {s : RawStmt} {ts rest r : List Token} → ReadsSimple s ts rest → {S : List Sym} {V : List Value} → Past forms.Newline rest r → To ts (simple ∷ S) V rest S (vstmt s ∷ V)
simple_read (pass h) n = took h refl
simple_read (break h) n = took h refl
simple_read (continue h) n = took h refl
simple_read (return {p = p} h) (q, n) = took h refl ⊳ skip_at (return_tail p) (skips (return_tail p) n refl)
simple_read (return_value {p = p} h e) (q, n) = took h refl ⊳ return_as p (expr_starts e) ⊳ expr_to e (stops n (omega arith)) ⊳ makes
simple_read (raise h m (q, a) (r, b)) n = took h refl ⊳ took m refl ⊳ took a refl ⊳ took b refl ⊳ makes
simple_read (assert h e) (q, n) = took h refl ⊳ expr_to e (stops n (omega arith)) ⊳ makes
simple_read (eval {p = p} b e) (q, n) = simple_as p b (expr_starts e) ⊳ expr_to e (stops n (omega arith)) ⊳ skip_at (simple_tail p) (skips (simple_tail p) n refl)
simple_read (declare {p = p} b e (r, c) t (s, a) f) (q, n) = simple_as p b (expr_starts e) ⊳ expr_to e (stops c (omega arith)) ⊳ took c refl ⊳ ty_read t (skips ty_tail a refl) ⊳ took a refl ⊳ expr_to f (stops n (omega arith)) ⊳ makes
simple_read (assign {p = p} b e (r, a) f) (q, n) = simple_as p b (expr_starts e) ⊳ expr_to e (stops a (omega arith)) ⊳ took a refl ⊳ expr_to f (stops n (omega arith)) ⊳ makes
simple_read (augment {p = p} b e a f) (q, n) = simple_as p b (expr_starts e) ⊳ expr_to e (aug_stops a) ⊳ aug_read a p ⊳ expr_to f (stops n (omega arith)) ⊳ makes

mutual
  pub whole_stmt : {s : RawStmt} {ts rest : List Token} → ReadsStmt s ts rest → {S : List Sym} {V : List Value} → Ends rest → To ts (stmt ∷ S) V rest S (vstmt s ∷ V)
  whole_stmt (simple_line r (q, n)) z = stmt_as (simple_starts r) ⊳ simple_read r (q, n) ⊳ took n refl
  whole_stmt (if_of h e (q, c) b es o) z =
      took h refl ⊳ expr_to e (stops c (omega arith)) ⊳ took c refl ⊳ whole_block b ⊳ makes
      ⊳ whole_elifs es [] (before_else elifs (λ p. refl) o (ends_elifs z))
      ⊳ whole_else o (ends_else z)
      ⊳ makes
  whole_stmt (while_of h e (q, c) b) z = took h refl ⊳ expr_to e (stops c (omega arith)) ⊳ took c refl ⊳ whole_block b ⊳ makes
  whole_stmt (try_of {p = p} {h = x} h (q, c) b y ys o l) {V = V} z =
      took h refl ⊳ took c refl ⊳ whole_block b
      ⊳ whole_handler y (try_tail p) (else_part ∷ finally_part ∷ make (make_try p) ∷ []) (vhandlers [] ∷ []) [] (λ r. refl) refl
      ⊳ whole_handlers ys (x ∷ []) (before_else handlers (λ r. refl) o (before_finally handlers (λ r. refl) l (ends_handlers z)))
      ⊳ whole_else o (before_finally else_part (λ r. refl) l (ends_else z))
      ⊳ whole_finally l (ends_finally z)
      ⊳ makes
  whole_stmt (finally_of h (q, c) b (r, k) (s, d) l) z = took h refl ⊳ took c refl ⊳ whole_block b ⊳ took k refl ⊳ took d refl ⊳ whole_block l ⊳ makes
  whole_stmt (with_of h e (q, c) b) z = took h refl ⊳ expr_to e (stops c (omega arith)) ⊳ took c refl ⊳ whole_block b ⊳ makes

  pub whole_block : {ss : List RawStmt} {ts rest : List Token} → ReadsBlock ss ts rest → {S : List Sym} {V : List Value} → To ts (block ∷ S) V rest S (vstmts ss ∷ V)
  whole_block (one_line r (q, n)) = block_as (simple_starts r) ⊳ simple_read r (q, n) ⊳ took n refl ⊳ makes
  whole_block (lines {s = s} (q, n) (p, i) r more) = took n refl ⊳ took i refl ⊳ whole_stmt r (stmts_ends more) ⊳ makes ⊳ whole_stmts more (s ∷ [])

  whole_stmts : {ss : List RawStmt} {ts rest : List Token} → ReadsStmts ss ts rest → {S : List Sym} {V : List Value} (us : List RawStmt) → To ts (stmts ∷ S) (vstmts us ∷ V) rest S (vstmts (us ++ ss) ∷ V)
  whole_stmts (stmts_end (q, h)) {V = V} us = took h refl ⊳ stays (ap (λ (x : List RawStmt). vstmts x ∷ V) (sym (append-nil us)))
  whole_stmts (stmt_more {s = s} {ss = ss} r more) {V = V} us =
      stmts_as (stmt_starts r) ⊳ whole_stmt r (stmts_ends more) ⊳ makes ⊳ whole_stmts more (us ++ s ∷ [])
      ⊳ stays (ap (λ (x : List RawStmt). vstmts x ∷ V) (append_assoc us (s ∷ []) ss))

  whole_elifs : {es : List RawElif} {ts rest : List Token} → ReadsElifs es ts rest → {S : List Sym} {V : List Value} (us : List RawElif) → Skips elifs rest → To ts (elifs ∷ S) (velifs us ∷ V) rest S (velifs (us ++ es) ∷ V)
  whole_elifs no_elif {V = V} us z = skip_at elifs z ⊳ stays (ap (λ (x : List RawElif). velifs x ∷ V) (sym (append-nil us)))
  whole_elifs (elif_more {p = p} {e = e} {ss = ss} {elifs = es} h r (q, c) b more) {V = V} us z =
      took h refl ⊳ expr_to r (stops c (omega arith)) ⊳ took c refl ⊳ whole_block b ⊳ makes
      ⊳ whole_elifs more (us ++ elif_part p e ss ∷ []) z
      ⊳ stays (ap (λ (x : List RawElif). velifs x ∷ V) (append_assoc us (elif_part p e ss ∷ []) es))

  whole_else : {ss : List RawStmt} {ts rest : List Token} → ReadsElse ss ts rest → {S : List Sym} {V : List Value} → Skips else_part rest → To ts (else_part ∷ S) V rest S (vstmts ss ∷ V)
  whole_else no_else z = skip_at else_part z
  whole_else (else_of (q, h) (r, c) b) z = took h refl ⊳ took c refl ⊳ whole_block b

  whole_finally : {ss : List RawStmt} {ts rest : List Token} → ReadsFinally ss ts rest → {S : List Sym} {V : List Value} → Skips finally_part rest → To ts (finally_part ∷ S) V rest S (vstmts ss ∷ V)
  whole_finally no_finally z = skip_at finally_part z
  whole_finally (finally_block (q, h) (r, c) b) z = took h refl ⊳ took c refl ⊳ whole_block b

  whole_handler : {h : RawHandler} {ts rest : List Token} → ReadsHandler h ts rest → {S : List Sym} {V W : List Value} (X : Sym) (zs : List Sym) (vs : List Value) (hs : List RawHandler) → ((p : Place) → next X p (forms.Key keys.Except) ≡ take (handler_with zs) vs) → vs ++ V ≡ vhandlers hs ∷ W → To ts (X ∷ S) V rest (handlers ∷ zs ++ S) (vhandlers (hs ++ h ∷ []) ∷ W)
  whole_handler (except_of (q, h) m (r, c) b) X zs vs hs n e = took h (n q) ⊳ stays e ⊳ took m refl ⊳ took c refl ⊳ whole_block b ⊳ makes

  whole_handlers : {hs : List RawHandler} {ts rest : List Token} → ReadsHandlers hs ts rest → {S : List Sym} {V : List Value} (us : List RawHandler) → Skips handlers rest → To ts (handlers ∷ S) (vhandlers us ∷ V) rest S (vhandlers (us ++ hs) ∷ V)
  whole_handlers no_handler {V = V} us z = skip_at handlers z ⊳ stays (ap (λ (x : List RawHandler). vhandlers x ∷ V) (sym (append-nil us)))
  whole_handlers (handler_more {h = h} {hs = hs} r more) {V = V} us z =
      whole_handler r handlers [] [] us (λ p. refl) refl
      ⊳ whole_handlers more (us ++ h ∷ []) z
      ⊳ stays (ap (λ (x : List RawHandler). vhandlers x ∷ V) (append_assoc us (h ∷ []) hs))
