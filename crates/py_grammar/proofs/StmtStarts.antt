-- The first token of a statement, and what the machine does where one begins.
use Rattle.std.proofs.Common.{Bool, true, false, ◌≡◌, refl, sym, ◌∙◌, List, [], ◌∷◌, ap, subst, if◌then◌else◌}
use Rattle.py_base.specs.declared.Place.{Place}
use Rattle.py_tokens.specs.declared.Token.{Token}
use Rattle.py_tokens.specs.declared.TokenForm.{TokenForm}
use Rattle.py_tokens.specs.declared.TokenForm.TheVariants as forms
use Rattle.py_tokens.specs.declared.Keyword.TheVariants as keys
use Rattle.raw_syntax.specs.declared.RawStmt.{RawStmt}
use Rattle.py_grammar.specs.TokenFronts.{Has, BeginsAt}
use Rattle.py_grammar.specs.StmtGrammar.{ReadsSimple, pass, break, continue, return, return_value, raise, assert, eval, declare, assign, augment, ReadsStmt, simple as simple_line, if_of, while_of, try_of, finally_of, with_of, ReadsStmts, stmts_end, stmt_more, ReadsElse, no_else, else_of, ReadsFinally, no_finally, finally_block}
use Rattle.py_grammar.specs.Symbols.{Value, Sym, fixed, newline, make, neg, tail_and, tail_or, simple, simple_tail, return_tail, stmt, block, stmts, elifs, else_part, finally_part, handlers, skip}
use Rattle.py_grammar.specs.Makers.{make_only, make_next, make_value_return}
use Rattle.py_grammar.specs.Moves.{next, made, and_then, starts_expr, next_neg, next_expr, next_simple, next_return, next_stmt, next_block, next_stmts, next_elifs, next_else, next_finally, next_handlers}
use Rattle.py_grammar.proofs.Rows.{To, skipped, expands}
use Rattle.py_grammar.proofs.Follows.{StartsExpr, neg_never_skips, then_never_skips, impossible}
use Rattle.py_grammar.proofs.Starts.{expr_starts}

-- The first token isn't wanted at the symbol.
abbrev pub Skips : Sym → List Token → Type 0
Skips X ts = (p : Place) × (f : TokenForm) × (r : List Token) × Has p f ts r × (next X p f ≡ skip)

pub skips : (X : Sym) {p : Place} {f : TokenForm} {ts r : List Token} → Has p f ts r → next X p f ≡ skip → Skips X ts
skips X {p} {f} {ts} {r} h n = (p, f, r, h, n)

pub skip_at : (X : Sym) {S : List Sym} {V : List Value} {ts : List Token} → Skips X ts → To ts (X ∷ S) V ts S (made X V)
skip_at X (p, f, r, h, n) = skipped h n

-- Some statement in a line begins with this token.
abbrev pub starts_simple : TokenForm → Bool
starts_simple (forms.Key keys.Pass) = true
starts_simple (forms.Key keys.Break) = true
starts_simple (forms.Key keys.Continue) = true
starts_simple (forms.Key keys.Return) = true
starts_simple (forms.Key keys.Raise) = true
starts_simple (forms.Key keys.Assert) = true
starts_simple f = starts_expr f

-- Some statement begins with this token.
abbrev pub starts_stmt : TokenForm → Bool
starts_stmt (forms.Key keys.If) = true
starts_stmt (forms.Key keys.While) = true
starts_stmt (forms.Key keys.Try) = true
starts_stmt (forms.Key keys.With) = true
starts_stmt f = starts_simple f

abbrev pub StartsSimple : List Token → Type 0
StartsSimple ts = (p : Place) × (f : TokenForm) × (r : List Token) × Has p f ts r × (starts_simple f ≡ true)

abbrev pub StartsStmt : List Token → Type 0
StartsStmt ts = (p : Place) × (f : TokenForm) × (r : List Token) × Has p f ts r × (starts_stmt f ≡ true)

simple_at : {p : Place} {f : TokenForm} {ts r : List Token} → Has p f ts r → starts_simple f ≡ true → StartsSimple ts
simple_at {p} {f} {ts} {r} h b = (p, f, r, h, b)

expr_is_simple : (f : TokenForm) → starts_expr f ≡ true → starts_simple f ≡ true
expr_is_simple (forms.Key keys.Pass) h = refl
expr_is_simple (forms.Key keys.Break) h = refl
expr_is_simple (forms.Key keys.Continue) h = refl
expr_is_simple (forms.Key keys.Return) h = refl
expr_is_simple (forms.Key keys.Raise) h = refl
expr_is_simple (forms.Key keys.Assert) h = refl
expr_is_simple f h = h

simple_is_stmt : (f : TokenForm) → starts_simple f ≡ true → starts_stmt f ≡ true
simple_is_stmt (forms.Key keys.If) h = refl
simple_is_stmt (forms.Key keys.While) h = refl
simple_is_stmt (forms.Key keys.Try) h = refl
simple_is_stmt (forms.Key keys.With) h = refl
simple_is_stmt f h = h

from_expr : {ts : List Token} → StartsExpr ts → StartsSimple ts
from_expr (p, f, r, h, b) = (p, f, r, h, expr_is_simple f b)

pub simple_starts : {s : RawStmt} {ts rest : List Token} → ReadsSimple s ts rest → StartsSimple ts
simple_starts (pass h) = simple_at h refl
simple_starts (break h) = simple_at h refl
simple_starts (continue h) = simple_at h refl
simple_starts (return h) = simple_at h refl
simple_starts (return_value h e) = simple_at h refl
simple_starts (raise h n a b) = simple_at h refl
simple_starts (assert h e) = simple_at h refl
simple_starts (eval b e) = from_expr (expr_starts e)
simple_starts (declare b e c t a f) = from_expr (expr_starts e)
simple_starts (assign b e a f) = from_expr (expr_starts e)
simple_starts (augment b e a f) = from_expr (expr_starts e)

stmt_at : {p : Place} {f : TokenForm} {ts r : List Token} → Has p f ts r → starts_stmt f ≡ true → StartsStmt ts
stmt_at {p} {f} {ts} {r} h b = (p, f, r, h, b)

from_simple : {ts : List Token} → StartsSimple ts → StartsStmt ts
from_simple (p, f, r, h, b) = (p, f, r, h, simple_is_stmt f b)

pub stmt_starts : {s : RawStmt} {ts rest : List Token} → ReadsStmt s ts rest → StartsStmt ts
stmt_starts (simple_line r h) = from_simple (simple_starts r)
stmt_starts (if_of h e c b es o) = stmt_at h refl
stmt_starts (while_of h e c b) = stmt_at h refl
stmt_starts (try_of h c b x xs o l) = stmt_at h refl
stmt_starts (finally_of h c b k d l) = stmt_at h refl
stmt_starts (with_of h e c b) = stmt_at h refl

pub simple_never_skips : (p : Place) (f : TokenForm) → next_simple p f ≡ skip → ⊥
simple_never_skips p (forms.Key keys.Pass) h = cc
simple_never_skips p (forms.Key keys.Break) h = cc
simple_never_skips p (forms.Key keys.Continue) h = cc
simple_never_skips p (forms.Key keys.Return) h = cc
simple_never_skips p (forms.Key keys.Raise) h = cc
simple_never_skips p (forms.Key keys.Assert) h = cc
simple_never_skips p f h = then_never_skips (next_neg p f) (tail_and ∷ tail_or ∷ simple_tail p ∷ []) (neg_never_skips p f) h

pub stmt_never_skips : (p : Place) (f : TokenForm) → next_stmt p f ≡ skip → ⊥
stmt_never_skips p (forms.Key keys.If) h = cc
stmt_never_skips p (forms.Key keys.While) h = cc
stmt_never_skips p (forms.Key keys.Try) h = cc
stmt_never_skips p (forms.Key keys.With) h = cc
stmt_never_skips p f h = then_never_skips (next_simple p f) (fixed newline ∷ []) (simple_never_skips p f) h

simple_opens : (p : Place) (f : TokenForm) → starts_expr f ≡ true → next_simple p f ≡ and_then (next_neg p f) (tail_and ∷ tail_or ∷ simple_tail p ∷ [])
simple_opens p (forms.Key keys.Pass) h = absurd (impossible h)
simple_opens p (forms.Key keys.Break) h = absurd (impossible h)
simple_opens p (forms.Key keys.Continue) h = absurd (impossible h)
simple_opens p (forms.Key keys.Return) h = absurd (impossible h)
simple_opens p (forms.Key keys.Raise) h = absurd (impossible h)
simple_opens p (forms.Key keys.Assert) h = absurd (impossible h)
simple_opens p f h = refl

return_opens : (q p : Place) (f : TokenForm) → starts_expr f ≡ true → next_return q p f ≡ and_then (next_neg p f) (tail_and ∷ tail_or ∷ make (make_value_return q) ∷ [])
return_opens q p f h = ap (λ (b : Bool). if b then next_expr p f (make (make_value_return q) ∷ []) else skip) h

stmt_opens : (p : Place) (f : TokenForm) → starts_simple f ≡ true → next_stmt p f ≡ and_then (next_simple p f) (fixed newline ∷ [])
stmt_opens p (forms.Key keys.If) h = absurd (impossible h)
stmt_opens p (forms.Key keys.While) h = absurd (impossible h)
stmt_opens p (forms.Key keys.Try) h = absurd (impossible h)
stmt_opens p (forms.Key keys.With) h = absurd (impossible h)
stmt_opens p f h = refl

block_opens : (p : Place) (f : TokenForm) → starts_simple f ≡ true → next_block p f ≡ and_then (next_simple p f) (fixed newline ∷ make make_only ∷ [])
block_opens p forms.Newline h = absurd (impossible h)
block_opens p f h = refl

stmts_open : (p : Place) (f : TokenForm) → starts_stmt f ≡ true → next_stmts p f ≡ and_then (next_stmt p f) (make make_next ∷ stmts ∷ [])
stmts_open p forms.Dedent h = absurd (impossible h)
stmts_open p f h = refl

-- the first token's place is one
same_place : (p q e : Place) (f : TokenForm) (ts r s : List Token) (k : Token) → ts ≡ record { place = q; «end» = e; form = f } ∷ r → ts ≡ k ∷ s → k.place ≡ p → q ≡ p
same_place p q e f ts r s k a b c =
    let j : Token = record { place = q; «end» = e; form = f } in
    let heads : j ≡ k = same_head (j ∷ r) (k ∷ s) (sym a ∙ b) in
    ap (λ (x : Token). x.place) heads ∙ c
  where
    head_or : Token → List Token → Token
    head_or d [] = d
    head_or d (x ∷ xs) = x

    same_head : (xs ys : List Token) → xs ≡ ys → head_or (record { place = q; «end» = e; form = f }) xs ≡ head_or (record { place = q; «end» = e; form = f }) ys
    same_head xs ys h = ap (head_or (record { place = q; «end» = e; form = f })) h

pub simple_as : {S : List Sym} {V : List Value} {ts : List Token} (p : Place) → BeginsAt p ts → StartsExpr ts → To ts (simple ∷ S) V ts (neg ∷ tail_and ∷ tail_or ∷ simple_tail p ∷ S) V
simple_as {S} {V} {ts} p (k, s, e1, e2) (q, f, r, (e, h), b) =
    subst (λ (x : Place). To ts (simple ∷ S) V ts (neg ∷ tail_and ∷ tail_or ∷ simple_tail x ∷ S) V) (same_place p q e f ts r s k h e1 e2)
    (expands neg (tail_and ∷ tail_or ∷ simple_tail q ∷ []) (e, h) (simple_opens q f b) (neg_never_skips q f))

pub return_as : {S : List Sym} {V : List Value} {ts : List Token} (q : Place) → StartsExpr ts → To ts (return_tail q ∷ S) V ts (neg ∷ tail_and ∷ tail_or ∷ make (make_value_return q) ∷ S) V
return_as q (p, f, r, h, b) = expands neg (tail_and ∷ tail_or ∷ make (make_value_return q) ∷ []) h (return_opens q p f b) (neg_never_skips p f)

pub stmt_as : {S : List Sym} {V : List Value} {ts : List Token} → StartsSimple ts → To ts (stmt ∷ S) V ts (simple ∷ fixed newline ∷ S) V
stmt_as (p, f, r, h, b) = expands simple (fixed newline ∷ []) h (stmt_opens p f b) (simple_never_skips p f)

pub block_as : {S : List Sym} {V : List Value} {ts : List Token} → StartsSimple ts → To ts (block ∷ S) V ts (simple ∷ fixed newline ∷ make make_only ∷ S) V
block_as (p, f, r, h, b) = expands simple (fixed newline ∷ make make_only ∷ []) h (block_opens p f b) (simple_never_skips p f)

pub stmts_as : {S : List Sym} {V : List Value} {ts : List Token} → StartsStmt ts → To ts (stmts ∷ S) V ts (stmt ∷ make make_next ∷ stmts ∷ S) V
stmts_as (p, f, r, h, b) = expands stmt (make make_next ∷ stmts ∷ []) h (stmts_open p f b) (stmt_never_skips p f)

-- The token goes on with a statement of many blocks.
abbrev pub goes_on : TokenForm → Bool
goes_on (forms.Key keys.Elif) = true
goes_on (forms.Key keys.Else) = true
goes_on (forms.Key keys.Except) = true
goes_on (forms.Key keys.Finally) = true
goes_on f = false

-- The first token goes on with no statement before it.
abbrev pub Ends : List Token → Type 0
Ends ts = (p : Place) × (f : TokenForm) × (r : List Token) × Has p f ts r × (goes_on f ≡ false)

pub ends_at : {p : Place} {f : TokenForm} {ts r : List Token} → Has p f ts r → goes_on f ≡ false → Ends ts
ends_at {p} {f} {ts} {r} h b = (p, f, r, h, b)

possible : true ≡ false → ⊥
possible h = cc

elifs_skip : (p : Place) (f : TokenForm) → goes_on f ≡ false → next_elifs p f ≡ skip
elifs_skip p (forms.Key keys.Elif) h = absurd (possible h)
elifs_skip p f h = refl

else_skips : (f : TokenForm) → goes_on f ≡ false → next_else f ≡ skip
else_skips (forms.Key keys.Else) h = absurd (possible h)
else_skips f h = refl

finally_skips : (f : TokenForm) → goes_on f ≡ false → next_finally f ≡ skip
finally_skips (forms.Key keys.Finally) h = absurd (possible h)
finally_skips f h = refl

handlers_skip : (f : TokenForm) → goes_on f ≡ false → next_handlers f ≡ skip
handlers_skip (forms.Key keys.Except) h = absurd (possible h)
handlers_skip f h = refl

pub ends_elifs : {ts : List Token} → Ends ts → Skips elifs ts
ends_elifs (p, f, r, h, b) = (p, f, r, h, elifs_skip p f b)

pub ends_else : {ts : List Token} → Ends ts → Skips else_part ts
ends_else (p, f, r, h, b) = (p, f, r, h, else_skips f b)

pub ends_finally : {ts : List Token} → Ends ts → Skips finally_part ts
ends_finally (p, f, r, h, b) = (p, f, r, h, finally_skips f b)

pub ends_handlers : {ts : List Token} → Ends ts → Skips handlers ts
ends_handlers (p, f, r, h, b) = (p, f, r, h, handlers_skip f b)

-- before an `else` part or a `finally` part that may be there
pub before_else : (X : Sym) {ss : List RawStmt} {ts rest : List Token} → ((p : Place) → next X p (forms.Key keys.Else) ≡ skip) → ReadsElse ss ts rest → Skips X rest → Skips X ts
before_else X n no_else s = s
before_else X n (else_of (q, h) c b) s = skips X h (n q)

pub before_finally : (X : Sym) {ss : List RawStmt} {ts rest : List Token} → ((p : Place) → next X p (forms.Key keys.Finally) ≡ skip) → ReadsFinally ss ts rest → Skips X rest → Skips X ts
before_finally X n no_finally s = s
before_finally X n (finally_block (q, h) c b) s = skips X h (n q)

stmt_ends : (f : TokenForm) → starts_stmt f ≡ true → goes_on f ≡ false
stmt_ends (forms.Key keys.Elif) h = absurd (impossible h)
stmt_ends (forms.Key keys.Else) h = absurd (impossible h)
stmt_ends (forms.Key keys.Except) h = absurd (impossible h)
stmt_ends (forms.Key keys.Finally) h = absurd (impossible h)
stmt_ends f h = refl

from_stmt : {ts : List Token} → StartsStmt ts → Ends ts
from_stmt (p, f, r, h, b) = (p, f, r, h, stmt_ends f b)

pub stmts_ends : {ss : List RawStmt} {ts rest : List Token} → ReadsStmts ss ts rest → Ends ts
stmts_ends (stmts_end (q, h)) = ends_at h refl
stmts_ends (stmt_more s ss) = from_stmt (stmt_starts s)
