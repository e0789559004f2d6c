-- Small statements have no contracts, and so no breach of the rules on them.
use Rattle.std.proofs.Common.{◌≡◌, refl, sym, ap, subst, ◌∙◌, ℕ, pos, List, [], ◌∷◌, ◌++◌, map, Option, Some, None, codes}
use Rattle.std.specs.Prelude.{Bool, false, ◌&&◌, flat_map, if◌then◌else◌}
use Rattle.py_base.specs.declared.Place.{Place}
use Rattle.raw_syntax.specs.declared.RawExpr.{RawExpr}
use Rattle.raw_syntax.specs.declared.RawExprForm.{RawExprForm, RawExprForm-F, out-RawExprForm, fold-RawExprForm, map-RawExprForm}
use Rattle.raw_syntax.specs.declared.RawComparison.{RawComparison}
use Rattle.raw_syntax.specs.declared.RawArgument.{RawArgument, RawArgument-F, out-RawArgument}
use Rattle.raw_syntax.specs.declared.RawStmt.{RawStmt}
use Rattle.raw_syntax.specs.declared.RawStmtForm.{RawStmtForm, RawStmtForm-F, out-RawStmtForm, fold-RawStmtForm, map-RawStmtForm}
use Rattle.raw_syntax.specs.declared.RawElif.{RawElif}
use Rattle.raw_syntax.specs.declared.RawHandler.{RawHandler}
use Rattle.contract_kinds.specs.declared.Breach.{Breach}
use Rattle.contract_kinds.specs.declared.Contract.{Contract}
use Rattle.contract_kinds.specs.declared.Spot.{Spot}
use Rattle.contract_kinds.specs.declared.Spot.TheVariants as spots
use Rattle.contract_kinds.specs.Words.{contract_of}
use Rattle.contract_kinds.specs.Kinds.{inner, is_statement}
use Rattle.contract_forms.specs.Readings.{Scope, Reading, Argument, alone, Link, argument_form, form_reading, reading, argument_of, link_of, contract_breaches, lone_join_breaches, arguments_breaches, left_spot, link_breaches}
use Rattle.contract_forms.specs.Heads.{Block, Line, method_head, after, block_breaches, lone_breaches, in_code, part_breaches, line_form, line, part_block, handler_block}
use Rattle.small_trees.proofs.Opened.{ExprLayer, StmtLayer, opened, opened_stmt, opened_link, opened_argument}
use Rattle.small_trees.proofs.Trees.{Bare, is_itself, is_within, IsOperand, is_number, is_local, IsSum, is_alone, is_two, IsTarget, IsEquation, IsPrinting, IsStmt, is_pass, is_store, is_check, is_printed, IsBody, is_done, is_more}

-- One level.
read : (e : RawExpr) (f : ExprLayer) → out-RawExprForm e.form ≡ f → reading e ≡ form_reading (map-RawExprForm RawArgument RawExprForm RawComparison RawExpr Argument (Place → Reading) Link Reading argument_of (fold-RawExprForm Argument (Place → Reading) Link Reading argument_form form_reading (λ l. record { operator = l.operator; operand = l.operand }) (λ e. e.form e.place)) link_of reading f) e.place
read e f is = opened Argument (Place → Reading) Link Reading argument_form form_reading (λ l. record { operator = l.operator; operand = l.operand }) (λ e. e.form e.place) e f is

link_read : (l : RawComparison) → link_of l ≡ record { operator = l.operator; operand = reading l.operand }
link_read l = opened_link Argument (Place → Reading) Link Reading argument_form form_reading (λ l. record { operator = l.operator; operand = l.operand }) (λ e. e.form e.place) l

argument_read : (x : RawArgument) (v : RawExpr) → out-RawArgument x ≡ RawArgument-F.Value v → argument_of x ≡ alone (reading v)
argument_read x v is = opened_argument Argument (Place → Reading) Link Reading argument_form form_reading (λ l. record { operator = l.operator; operand = l.operand }) (λ e. e.form e.place) x v is

-- what brackets leave as it is
pub record Alike (r t : Reading) : Type 0 where
  pub word : r.word ≡ t.word
  pub called : r.called ≡ t.called
  pub joins : r.joins ≡ t.joins
  pub breaches : (sc : Scope) (at : Spot) → r.breaches sc at ≡ t.breaches sc at

bare_read : (e b : RawExpr) → Bare e b → Alike (reading e) (reading b)
bare_read e b (is_itself _) = record { word = refl; called = refl; joins = refl; breaches = λ sc at. refl }
bare_read e b (is_within _ i _ is more) =
    let rest = bare_read i b more in
    let first = read e (RawExprForm-F.Bracket i) is in
    record {
      word = ap (λ (r : Reading). r.word) first ∙ rest.word;
      called = ap (λ (r : Reading). r.called) first ∙ rest.called;
      joins = ap (λ (r : Reading). r.joins) first ∙ rest.joins;
      breaches = λ sc at. ap (λ (r : Reading). r.breaches sc at) first ∙ rest.breaches sc at;
    }

-- Expressions have no breach.
operand_breaches : (names : List (List ℕ)) (e : RawExpr) (sc : Scope) (at : Spot) → IsOperand names e → (reading e).breaches sc at ≡ []
operand_breaches names e sc at (is_number b n bare is) = (bare_read e b bare).breaches sc at ∙ ap (λ (r : Reading). r.breaches sc at) (read b (RawExprForm-F.Number (pos n)) is)
operand_breaches names e sc at (is_local b n bare is known) = (bare_read e b bare).breaches sc at ∙ ap (λ (r : Reading). r.breaches sc at) (read b (RawExprForm-F.Name n) is)

sum_breaches : (names : List (List ℕ)) (e : RawExpr) (sc : Scope) (at : Spot) → IsSum names e → (reading e).breaches sc at ≡ []
sum_breaches names e sc at (is_alone o) = operand_breaches names e sc at o
sum_breaches names e sc at (is_two b x y o bare is sign left right) =
    (bare_read e b bare).breaches sc at ∙ ap (λ (r : Reading). r.breaches sc at) (read b (RawExprForm-F.Binary o x y) is)
    ∙ ap (λ (bs : List Breach). bs ++ (reading y).breaches sc (inner at)) (operand_breaches names x sc (inner at) left)
    ∙ operand_breaches names y sc (inner at) right

target_breaches : (e : RawExpr) (n : List ℕ) (sc : Scope) (at : Spot) → IsTarget e n → (reading e).breaches sc at ≡ []
target_breaches e n sc at h = (bare_read e h.b h.bare).breaches sc at ∙ ap (λ (r : Reading). r.breaches sc at) (read h.b (RawExprForm-F.Name n) h.is)

equation_breaches : (names : List (List ℕ)) (e : RawExpr) (sc : Scope) (at : Spot) → IsEquation names e → (reading e).breaches sc at ≡ []
equation_breaches names e sc at h =
    (bare_read e h.b h.bare).breaches sc at ∙ ap (λ (r : Reading). r.breaches sc at) (read h.b (RawExprForm-F.Chain h.x (h.l ∷ [])) h.is)
    ∙ ap (λ (bs : List Breach). bs ++ flat_map (link_breaches sc (inner at)) (link_of h.l ∷ [])) (sum_breaches names h.x sc (left_spot (link_of h.l ∷ []) at) h.left)
    ∙ ap (λ (k : Link). k.operand.breaches sc (inner at) ++ []) (link_read h.l)
    ∙ ap (λ (bs : List Breach). bs ++ []) (sum_breaches names h.l.operand sc (inner at) h.right)

-- a call of `print`, which is no contract and no thread
print_breaches : (names : List (List ℕ)) (e : RawExpr) (sc : Scope) (at : Spot) → IsPrinting names e → (reading e).breaches sc at ≡ []
print_breaches names e sc at h =
    let f : Reading = reading h.f in
    let word : f.word ≡ Some (codes "print") = (bare_read h.f h.printed.b h.printed.bare).word ∙ ap (λ (r : Reading). r.word) (read h.printed.b (RawExprForm-F.Name (codes "print")) h.printed.is) in
    let joins : f.joins ≡ false = (bare_read h.f h.printed.b h.printed.bare).joins ∙ ap (λ (r : Reading). r.joins) (read h.printed.b (RawExprForm-F.Name (codes "print")) h.printed.is) in
    (bare_read e h.b h.bare).breaches sc at ∙ ap (λ (r : Reading). r.breaches sc at) (read h.b (RawExprForm-F.Call h.f (h.x ∷ [])) h.is)
    ∙ ap (λ (w : Option (List ℕ)). (contract_breaches sc at f.place w (contract_of w) (argument_of h.x ∷ []) ++ (if f.joins && is_statement at then lone_join_breaches sc (argument_of h.x ∷ []) else [])) ++ (f.breaches sc (inner at) ++ arguments_breaches sc (contract_of w) at 0 (argument_of h.x ∷ []))) word
    ∙ ap (λ (b : Bool). (if b && is_statement at then lone_join_breaches sc (argument_of h.x ∷ []) else []) ++ (f.breaches sc (inner at) ++ arguments_breaches sc None at 0 (argument_of h.x ∷ []))) joins
    ∙ ap (λ (bs : List Breach). bs ++ arguments_breaches sc None at 0 (argument_of h.x ∷ [])) (target_breaches h.f (codes "print") sc (inner at) h.printed)
    ∙ ap (λ (a : Argument). arguments_breaches sc None at 0 (a ∷ [])) (argument_read h.x h.v h.value)
    ∙ ap (λ (bs : List Breach). bs ++ []) (sum_breaches names h.v sc (inner at) h.sum)

print_calls : (names : List (List ℕ)) (e : RawExpr) → IsPrinting names e → contract_of (reading e).called ≡ None
print_calls names e h =
    let word : (reading h.f).word ≡ Some (codes "print") = (bare_read h.f h.printed.b h.printed.bare).word ∙ ap (λ (r : Reading). r.word) (read h.printed.b (RawExprForm-F.Name (codes "print")) h.printed.is) in
    ap contract_of ((bare_read e h.b h.bare).called ∙ ap (λ (r : Reading). r.called) (read h.b (RawExprForm-F.Call h.f (h.x ∷ [])) h.is) ∙ word)

-- Statements.
lined : (s : RawStmt) (f : StmtLayer) → out-RawStmtForm s.form ≡ f → line s ≡ line_form (map-RawStmtForm RawStmtForm RawElif RawHandler RawStmt Line Block Block Line (fold-RawStmtForm Line Block Block Line line_form (λ e. part_breaches e.condition e.body) (λ h. lone_breaches h.body) (λ s. s.form)) part_block handler_block line f)
lined s f is = opened_stmt Line Block Block Line line_form (λ e. part_breaches e.condition e.body) (λ h. lone_breaches h.body) (λ s. s.form) s f is

-- a line without a contract and a breach
pub record IsClear (sc : Scope) (l : Line) : Type 0 where
  pub no_contract : l.contract ≡ None
  pub no_breach : (at : Spot) → l.breaches sc spots.Value at ≡ []

cleared : (sc : Scope) (l m : Line) → l ≡ m → IsClear sc m → IsClear sc l
cleared sc l m is h = subst (λ (x : Line). IsClear sc x) (sym is) h

stored : (names : List (List ℕ)) (t v : RawExpr) (n : List ℕ) (sc : Scope) → IsTarget t n → IsSum names v → in_code sc t ++ in_code sc v ≡ []
unfolding in_code
stored names t v n sc h sum = ap (λ (bs : List Breach). bs ++ (reading v).breaches sc spots.Value) (target_breaches t n sc spots.Value h) ∙ sum_breaches names v sc spots.Value sum

tested : (names : List (List ℕ)) (e : RawExpr) (sc : Scope) → IsEquation names e → in_code sc e ≡ []
unfolding in_code
tested names e sc h = equation_breaches names e sc spots.Value h

stmt_clear : (names after : List (List ℕ)) (s : RawStmt) (sc : Scope) → IsStmt names s after → IsClear sc (line s)
stmt_clear names _ s sc (is_pass is) = cleared sc (line s) _ (lined s RawStmtForm-F.Pass is) (record { no_contract = refl; no_breach = λ at. refl })
stmt_clear names _ s sc (is_store t v n is h free sum) = cleared sc (line s) _ (lined s (RawStmtForm-F.Assign t v) is) (record { no_contract = refl; no_breach = λ at. stored names t v n sc h sum })
stmt_clear names _ s sc (is_check e is h) = cleared sc (line s) _ (lined s (RawStmtForm-F.Assert e) is) (record { no_contract = refl; no_breach = λ at. tested names e sc h })
stmt_clear names _ s sc (is_printed e is h) = cleared sc (line s) _ (lined s (RawStmtForm-F.Eval e) is) (record { no_contract = print_calls names e h; no_breach = λ at. print_breaches names e sc at h })

-- where statements of a body without contracts stand
pub data IsInCode : Spot → Type 0 where
  at_head : IsInCode (spots.MethodHead false)
  in_body : IsInCode spots.Alone

behind_clear : (at : Spot) (sc : Scope) (l : Line) → IsInCode at → IsClear sc l → IsInCode (after at l)
behind_clear _ sc l at_head clear = subst (λ (c : Option Contract). IsInCode (method_head false l.states c)) (sym clear.no_contract) in_body
behind_clear _ sc l in_body clear = in_body

pub body_contracts : (sc : Scope) (names after : List (List ℕ)) (ss : List RawStmt) (at : Spot) → IsInCode at → IsBody names ss after → block_breaches (map line ss) sc spots.Value at ≡ []
body_contracts sc names _ _ at here (is_done _) = refl
body_contracts sc names all _ at here (is_more _ mid _ s ss first more) =
    let clear = stmt_clear names mid s sc first in
    ap (λ (bs : List Breach). bs ++ block_breaches (map line ss) sc spots.Value (after at (line s))) (clear.no_breach at)
    ∙ body_contracts sc mid all ss (after at (line s)) (behind_clear at sc (line s) here clear) more
