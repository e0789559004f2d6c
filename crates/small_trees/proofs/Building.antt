-- A tree of which a module is built is small.
use Rattle.std.proofs.Common.{◌≡◌, refl, sym, ap, subst, ◌∙◌, ℕ, List, [], ◌∷◌, ◌++◌, length, map, Option, Some, None, Result, Ok, Err, codes}
use Rattle.std.specs.Prelude.{Bool, true, false, ◌&&◌, nat_lt, bytes_eq, if◌then◌else◌}
use Rattle.std.proofs.lemmas.Slice.Eq.{bytes_eq-Decides}
use Rattle.py_base.specs.declared.Place.{Place}
use Rattle.raw_syntax.specs.declared.RawExpr.{RawExpr}
use Rattle.raw_syntax.specs.declared.RawExprForm.{RawExprForm, RawExprForm-F, out-RawExprForm, fold-RawExprForm}
use Rattle.raw_syntax.specs.declared.RawComparison.{RawComparison, fold_out-RawComparison}
use Rattle.raw_syntax.specs.declared.RawArgument.{RawArgument, RawArgument-F, out-RawArgument, fold_out-RawArgument, map-RawArgument}
use Rattle.raw_syntax.specs.declared.RawStmt.{RawStmt}
use Rattle.raw_syntax.specs.declared.RawStmtForm.{RawStmtForm-F, out-RawStmtForm}
use Rattle.raw_syntax.specs.declared.RawTy.{RawTy}
use Rattle.raw_syntax.specs.declared.RawParam.{RawParam}
use Rattle.raw_syntax.specs.declared.RawFunc.{RawFunc}
use Rattle.raw_syntax.specs.declared.RawItem.{RawItem}
use Rattle.raw_syntax.specs.declared.RawItem.TheVariants as items
use Rattle.raw_syntax.specs.declared.Raw.{Raw}
use Rattle.py_syntax.specs.declared.PrintArg.TheVariants.{Value}
use Rattle.py_syntax.specs.declared.Expr.{Expr}
use Rattle.py_syntax.specs.declared.Stmt.{Stmt}
use Rattle.py_syntax.specs.declared.StmtForm.TheVariants.{Store, Check, Print}
use Rattle.py_syntax.specs.declared.Module.{Module}
use Rattle.small_module.specs.SmallTree.{Link, Argument, Shape, name, chain, call, field, plain, View, local_number, with_name, is_reserved, equation_at, ◌>>=◌, sum_of, form_view, argument_view, link_view, view, link_of, argument_of}
use Rattle.small_module.specs.SmallModule.{statement, store_in, last_link, is_equal, equation_of, check_of, last_argument, is_print, arguments_of, print_of, keeping, form_of, stmt_of, body_of, with_count, main_module, is_empty, is_none, parameters_fault, head_fault, main_of, last_item, items_module, module_of}
use Rattle.small_module.specs.declared.piece.Piece.{Piece}
use Rattle.small_module.proofs.SumShapes.{Gives, bind}
use Rattle.small_trees.proofs.Opened.{StmtLayer}
use Rattle.small_trees.proofs.Trees.{Bare, IsSum, IsTarget, IsEquation, IsPrinting, IsStmt, is_pass, is_store, is_check, is_printed, IsBody, is_done, is_more, main_with, IsSmall}
use Rattle.small_trees.proofs.Sums.{Needs}
use Rattle.small_trees.proofs.Readings.{ChainOf, CallOf, ShapeOf, reads}

-- the same bytes
pub same_bytes : (xs ys : List ℕ) → bytes_eq xs ys ≡ true → xs ≡ ys
same_bytes xs ys h = (bytes_eq-Decides xs ys).0 h

link_seen : (names : List (List ℕ)) (l : RawComparison) → link_of names l ≡ record { place = l.place; operator = l.operator; parts = (view names l.operand).parts }
link_seen names l = fold_out-RawComparison Argument (Place → View) Link View argument_view (form_view names) link_view (λ e. e.form e.place) l

argument_seen : (names : List (List ℕ)) (x : RawArgument) (y : RawArgument-F RawArgument RawExprForm RawComparison RawExpr) → out-RawArgument x ≡ y
    → argument_of names x ≡ argument_view (map-RawArgument RawArgument RawExprForm RawComparison RawExpr Argument (Place → View) Link View (argument_of names) (fold-RawExprForm Argument (Place → View) Link View argument_view (form_view names) link_view (λ e. e.form e.place)) (link_of names) (view names) y)
argument_seen names x y is =
    fold_out-RawArgument Argument (Place → View) Link View argument_view (form_view names) link_view (λ e. e.form e.place) x
    ∙ ap (λ (z : RawArgument-F RawArgument RawExprForm RawComparison RawExpr). argument_view (map-RawArgument RawArgument RawExprForm RawComparison RawExpr Argument (Place → View) Link View (argument_of names) (fold-RawExprForm Argument (Place → View) Link View argument_view (form_view names) link_view (λ e. e.form e.place)) (link_of names) (view names) z)) is

-- An equation.
last_small : (names : List (List ℕ)) (e b x : RawExpr) (l : RawComparison) (ls : List RawComparison) (s : Stmt) → Bare e b → out-RawExprForm b.form ≡ RawExprForm-F.Chain x (l ∷ ls) → is_equal l.operator ≡ true → IsSum names x → IsSum names l.operand → Needs (IsEquation names e) (last_link (map (link_of names) ls) s)
last_small names e b x l [] s bare is equal left right = record { b = b; x = x; l = l; bare = bare; is = is; equal = equal; left = left; right = right }
last_small names e b x l (m ∷ ls) s bare is equal left right = tt

equation_small : (names : List (List ℕ)) (e b x : RawExpr) (p : Place) (ls : List RawComparison) → Bare e b → out-RawExprForm b.form ≡ RawExprForm-F.Chain x ls → Needs (IsEquation names e) (equation_of p (view names x).parts (map (link_of names) ls))
equation_small names e b x p [] bare is = tt
equation_small names e b x p (l ∷ ls) bare is =
    subst (λ (k : Link). Needs (IsEquation names e) (equation_of p (view names x).parts (k ∷ map (link_of names) ls))) (sym (link_seen names l)) (by_test (is_equal l.operator) refl)
  where
    by_test : (t : Bool) → is_equal l.operator ≡ t → Needs (IsEquation names e) (if t then (sum_of p (view names x).parts >>= λ a. sum_of l.place (view names l.operand).parts >>= λ b. last_link (map (link_of names) ls) (statement p (Check (equation_at l.place a b)))) else Err p)
    by_test false equal = tt
    by_test true equal =
        bind (λ (a : Expr). IsSum names x) (λ (s : Stmt). IsEquation names e) (sum_of p (view names x).parts) (λ a. sum_of l.place (view names l.operand).parts >>= λ b. last_link (map (link_of names) ls) (statement p (Check (equation_at l.place a b)))) ((reads names x).sum p)
        (λ a left. bind (λ (b : Expr). IsSum names l.operand) (λ (s : Stmt). IsEquation names e) (sum_of l.place (view names l.operand).parts) (λ b. last_link (map (link_of names) ls) (statement p (Check (equation_at l.place a b)))) ((reads names l.operand).sum l.place)
        (λ c right. last_small names e b x l ls (statement p (Check (equation_at l.place a c))) bare is equal left right))

chain_small : (names : List (List ℕ)) (e : RawExpr) (p : Place) (first : List Piece) (links : List Link) → ChainOf names e first links → Needs (IsEquation names e) (equation_of p first links)
chain_small names e p first links h =
    subst (λ (k : List Link). Needs (IsEquation names e) (equation_of p first k)) (sym h.links_are)
    (subst (λ (k : List Piece). Needs (IsEquation names e) (equation_of p k (map (link_of names) h.ls))) (sym h.first_is) (equation_small names e h.b h.x p h.ls h.bare h.is))

check_small : (names : List (List ℕ)) (e : RawExpr) (p : Place) (s : Shape) → ShapeOf names e s → Needs (IsEquation names e) (check_of p s)
check_small names e p (chain first links) h = chain_small names e p first links h
check_small names e p (name n) h = tt
check_small names e p (call s xs) h = tt
check_small names e p field h = tt
check_small names e p plain h = tt

-- A call of `print`.
one_argument : (names : List (List ℕ)) (e b f v : RawExpr) (x : RawArgument) (xs : List RawArgument) (s : Stmt) → Bare e b → out-RawExprForm b.form ≡ RawExprForm-F.Call f (x ∷ xs) → IsTarget f (codes "print") → out-RawArgument x ≡ RawArgument-F.Value v → IsSum names v → Needs (IsPrinting names e) (last_argument (map (argument_of names) xs) s)
one_argument names e b f v x [] s bare is printed held sum = record { b = b; f = f; x = x; v = v; bare = bare; is = is; printed = printed; value = held; sum = sum }
one_argument names e b f v x (y ∷ xs) s bare is printed held sum = tt

arguments_small : (names : List (List ℕ)) (e b f : RawExpr) (p q : Place) (xs : List RawArgument) → Bare e b → out-RawExprForm b.form ≡ RawExprForm-F.Call f xs → IsTarget f (codes "print") → Needs (IsPrinting names e) (arguments_of p q (map (argument_of names) xs))
arguments_small names e b f p q [] bare is printed = tt
arguments_small names e b f p q (x ∷ xs) bare is printed = by_form (out-RawArgument x) refl
  where
    by_form : (y : RawArgument-F RawArgument RawExprForm RawComparison RawExpr) → out-RawArgument x ≡ y → Needs (IsPrinting names e) (arguments_of p q (argument_of names x ∷ map (argument_of names) xs))
    by_form (RawArgument-F.Value v) held =
        subst (λ (k : Argument). Needs (IsPrinting names e) (arguments_of p q (k ∷ map (argument_of names) xs))) (sym (argument_seen names x (RawArgument-F.Value v) held))
        (bind (λ (a : Expr). IsSum names v) (λ (s : Stmt). IsPrinting names e) (sum_of (view names v).place (view names v).parts) (λ a. last_argument (map (argument_of names) xs) (statement p (Print (Value a ∷ [])))) ((reads names v).sum (view names v).place)
        (λ a sum. one_argument names e b f v x xs (statement p (Print (Value a ∷ []))) bare is printed held sum))
    by_form (RawArgument-F.Named n v) held =
        subst (λ (k : Argument). Needs (IsPrinting names e) (arguments_of p q (k ∷ map (argument_of names) xs))) (sym (argument_seen names x (RawArgument-F.Named n v) held)) tt

-- what is called is the name `print`
is_the_name : (names : List (List ℕ)) (f : RawExpr) (s : Shape) → ShapeOf names f s → is_print s ≡ true → IsTarget f (codes "print")
is_the_name names f (name n) h is = subst (λ (w : List ℕ). IsTarget f w) (same_bytes n (codes "print") is) h
is_the_name names f (chain first links) h is = cc
is_the_name names f (call s xs) h is = cc
is_the_name names f field h is = cc
is_the_name names f plain h is = cc

call_small : (names : List (List ℕ)) (e b f : RawExpr) (p q : Place) (xs : List RawArgument) → Bare e b → out-RawExprForm b.form ≡ RawExprForm-F.Call f xs → Needs (IsPrinting names e) (print_of p q (call (view names f).shape (map (argument_of names) xs)))
call_small names e b f p q xs bare is = by_test (is_print (view names f).shape) refl
  where
    by_test : (t : Bool) → is_print (view names f).shape ≡ t → Needs (IsPrinting names e) (if t then arguments_of p q (map (argument_of names) xs) else Err p)
    by_test true h = arguments_small names e b f p q xs bare is (is_the_name names f (view names f).shape (reads names f).shape h)
    by_test false h = tt

seen_call_small : (names : List (List ℕ)) (e : RawExpr) (p q : Place) (s : Shape) (xs : List Argument) → CallOf names e s xs → Needs (IsPrinting names e) (print_of p q (call s xs))
seen_call_small names e p q s xs h =
    subst (λ (k : Shape). Needs (IsPrinting names e) (print_of p q (call k xs))) (sym h.called_is)
    (subst (λ (k : List Argument). Needs (IsPrinting names e) (print_of p q (call (view names h.f).shape k))) (sym h.args_are) (call_small names e h.b h.f p q h.xs h.bare h.is))

print_small : (names : List (List ℕ)) (e : RawExpr) (p q : Place) (s : Shape) → ShapeOf names e s → Needs (IsPrinting names e) (print_of p q s)
print_small names e p q (call s xs) h = seen_call_small names e p q s xs h
print_small names e p q (name n) h = tt
print_small names e p q (chain first links) h = tt
print_small names e p q field h = tt
print_small names e p q plain h = tt

-- Statements, with the names behind them.
abbrev Behind : Type 0
Behind = Stmt × List (List ℕ)

store_small : (names : List (List ℕ)) (s : RawStmt) (t v : RawExpr) (p q : Place) (sh : Shape) → out-RawStmtForm s.form ≡ RawStmtForm-F.Assign t v → ShapeOf names t sh → Gives (λ (r : Behind). IsStmt names s r.1) (store_in names p q sh (view names v))
store_small names s t v p q (name n) is h = by_test (is_reserved n) refl
  where
    by_test : (b : Bool) → is_reserved n ≡ b → Gives (λ (r : Behind). IsStmt names s r.1) (if b then Err p else (sum_of (view names v).place (view names v).parts >>= λ e. Ok (statement p (Store (local_number names n) e), with_name names n)))
    by_test true free = tt
    by_test false free = bind (λ (e : Expr). IsSum names v) (λ (r : Behind). IsStmt names s r.1) (sum_of (view names v).place (view names v).parts) (λ e. Ok (statement p (Store (local_number names n) e), with_name names n)) ((reads names v).sum (view names v).place) (λ e sum. is_store t v n is h free sum)
store_small names s t v p q (chain first links) is h = tt
store_small names s t v p q (call n xs) is h = tt
store_small names s t v p q field is h = tt
store_small names s t v p q plain is h = tt

kept_small : (names : List (List ℕ)) (s : RawStmt) (P : Type 0) (r : Result Stmt Place) → Needs P r → (P → IsStmt names s names) → Gives (λ (r : Behind). IsStmt names s r.1) (keeping names r)
kept_small names s P r given h = bind (λ (x : Stmt). P) (λ (r : Behind). IsStmt names s r.1) r (λ x. Ok (x, names)) given (λ x k. h k)

form_small : (names : List (List ℕ)) (s : RawStmt) (p : Place) (f : StmtLayer) → out-RawStmtForm s.form ≡ f → Gives (λ (r : Behind). IsStmt names s r.1) (form_of names p f)
form_small names s p RawStmtForm-F.Pass is = is_pass is
form_small names s p (RawStmtForm-F.Assign t v) is = store_small names s t v p (view names t).place (view names t).shape is (reads names t).shape
form_small names s p (RawStmtForm-F.Assert e) is = kept_small names s (IsEquation names e) (check_of p (view names e).shape) (check_small names e p (view names e).shape (reads names e).shape) (is_check e is)
form_small names s p (RawStmtForm-F.Eval e) is = kept_small names s (IsPrinting names e) (print_of p (view names e).place (view names e).shape) (print_small names e p (view names e).place (view names e).shape (reads names e).shape) (is_printed e is)
form_small names s p f is = tt

stmt_small : (names : List (List ℕ)) (s : RawStmt) → Gives (λ (r : Behind). IsStmt names s r.1) (stmt_of names s)
stmt_small names s = form_small names s s.place (out-RawStmtForm s.form) refl

abbrev Whole : Type 0
Whole = List Stmt × List (List ℕ)

gives_more : {A : Type 0} (P Q : A → Type 0) (r : Result A Place) → Gives P r → ((x : A) → P x → Q x) → Gives Q r
gives_more P Q (Ok x) p h = h x p
gives_more P Q (Err q) p h = tt

body_step : (before : List Stmt) (names : List (List ℕ)) (s : RawStmt) (ss : List RawStmt) → ((b : List Stmt) (ns : List (List ℕ)) → Gives (λ (r : Whole). IsBody ns ss r.1) (body_of b ns ss)) → (t : Bool) → Gives (λ (r : Whole). IsBody names (s ∷ ss) r.1) (if t then (stmt_of names s >>= λ r. body_of (before ++ r.0 ∷ []) r.1 ss) else Err s.place)
body_step before names s ss again false = tt
body_step before names s ss again true = bind (λ (r : Behind). IsStmt names s r.1) (λ (r : Whole). IsBody names (s ∷ ss) r.1) (stmt_of names s) (λ r. body_of (before ++ r.0 ∷ []) r.1 ss) (stmt_small names s)
    (λ r first. gives_more (λ (w : Whole). IsBody r.1 ss w.1) (λ (w : Whole). IsBody names (s ∷ ss) w.1) (body_of (before ++ r.0 ∷ []) r.1 ss) (again (before ++ r.0 ∷ []) r.1) (λ w more. is_more names r.1 w.1 s ss first more))

body_small : (ss : List RawStmt) (before : List Stmt) (names : List (List ℕ)) → Gives (λ (r : Whole). IsBody names ss r.1) (body_of before names ss)
body_small [] before names = is_done names
body_small (s ∷ ss) before names = body_step before names s ss (body_small ss) (nat_lt (length before) 60)

-- The head.
record IsHead (n : List ℕ) (marks : List (List ℕ)) (params : List RawParam) (t : RawTy) : Type 0 where
  name_is : n ≡ codes "main"
  marks_are : marks ≡ []
  params_are : params ≡ []
  head_is : t.head ≡ codes "None"
  inner_is : t.inner ≡ None

some_is_not_none : (p : Place) → Some p ≡ None → ⊥
some_is_not_none p e = cc

head_parts : (n : List ℕ) (marks : List (List ℕ)) (params : List RawParam) (t : RawTy) (p : Place) (a b : Bool) (inner : Option (List ℕ)) → bytes_eq n (codes "main") ≡ a → bytes_eq t.head (codes "None") ≡ b → t.inner ≡ inner
    → (if a && is_empty marks then elim params as (λ _. Option Place) [ [] ↦ (if b && is_none inner then None else Some t.place) | q ∷ qs ↦ Some q.place ] else Some p) ≡ None → IsHead n marks params t
head_parts n marks params t p false b inner called head inside e = absurd (some_is_not_none p e)
head_parts n (m ∷ ms) params t p true b inner called head inside e = absurd (some_is_not_none p e)
head_parts n [] (q ∷ qs) t p true b inner called head inside e = absurd (some_is_not_none q.place e)
head_parts n [] [] t p true false inner called head inside e = absurd (some_is_not_none t.place e)
head_parts n [] [] t p true true (Some w) called head inside e = absurd (some_is_not_none t.place e)
head_parts n [] [] t p true true None called head inside e = record { name_is = same_bytes n (codes "main") called; marks_are = refl; params_are = refl; head_is = same_bytes t.head (codes "None") head; inner_is = inside }

parameters_are : (params : List RawParam) (t : RawTy) → parameters_fault params t ≡ elim params as (λ _. Option Place) [ [] ↦ (if bytes_eq t.head (codes "None") && is_none t.inner then None else Some t.place) | q ∷ qs ↦ Some q.place ]
parameters_are [] t = refl
parameters_are (q ∷ qs) t = refl

head_of : (f : RawFunc) → head_fault f ≡ None → IsHead f.name f.marks f.params f.ret
head_of f e =
    head_parts f.name f.marks f.params f.ret f.place (bytes_eq f.name (codes "main")) (bytes_eq f.ret.head (codes "None")) f.ret.inner refl refl refl
    (sym (ap (λ (o : Option Place). if bytes_eq f.name (codes "main") && is_empty f.marks then o else Some f.place) (parameters_are f.params f.ret)) ∙ e)

whole_head : (f : RawFunc) → IsHead f.name f.marks f.params f.ret → f ≡ main_with f.place f.ret.place f.body
whole_head f h =
    ap (λ (n : List ℕ). record { place = f.place; marks = f.marks; name = n; params = f.params; ret = f.ret; body = f.body }) h.name_is
    ∙ ap (λ (m : List (List ℕ)). record { place = f.place; marks = m; name = codes "main"; params = f.params; ret = f.ret; body = f.body }) h.marks_are
    ∙ ap (λ (ps : List RawParam). record { place = f.place; marks = []; name = codes "main"; params = ps; ret = f.ret; body = f.body }) h.params_are
    ∙ ap (λ (w : List ℕ). record { place = f.place; marks = []; name = codes "main"; params = []; ret = record { place = f.ret.place; head = w; inner = f.ret.inner }; body = f.body }) h.head_is
    ∙ ap (λ (o : Option (List ℕ)). record { place = f.place; marks = []; name = codes "main"; params = []; ret = record { place = f.ret.place; head = codes "None"; inner = o }; body = f.body }) h.inner_is

record IsMain (f : RawFunc) : Type 0 where
  after : List (List ℕ)
  is : f ≡ main_with f.place f.ret.place f.body
  small : IsBody [] f.body after

counted : (f : RawFunc) (last : Place) (body : Result Whole Place) → f ≡ main_with f.place f.ret.place f.body → Gives (λ (r : Whole). IsBody [] f.body r.1) body → Needs (IsMain f) (with_count body >>= λ r. Ok (main_module f.place r.1 r.0 last))
counted f last (Ok r) is small = record { after = r.1; is = is; small = small }
counted f last (Err q) is small = tt

main_small : (f : RawFunc) (last : Place) → Needs (IsMain f) (main_of f last)
main_small f last = by_head (head_fault f) refl
  where
    by_head : (h : Option Place) → head_fault f ≡ h → Needs (IsMain f) (elim h as (λ _. Result Module Place) [ Some p ↦ Err p | None ↦ with_count (body_of [] [] f.body) >>= λ r. Ok (main_module f.place r.1 r.0 last) ])
    by_head (Some p) e = tt
    by_head None e = counted f last (body_of [] [] f.body) (whole_head f (head_of f e)) (body_small f.body [] [])

alone_small : (f : RawFunc) (xs : List RawItem) (last : Place) (m : Module) → IsMain f → Needs (IsSmall (record { items = items.Func f ∷ xs; «end» = last })) (last_item xs m)
alone_small f [] last m h = record { place = f.place; result = f.ret.place; body = f.body; last = last; after = h.after; is = ap (λ (g : RawFunc). record { items = items.Func g ∷ []; «end» = last }) h.is; small = h.small }
alone_small f (x ∷ xs) last m h = tt

items_small : (xs : List RawItem) (last : Place) → Needs (IsSmall (record { items = xs; «end» = last })) (items_module xs last)
items_small [] last = tt
items_small (items.Class c ∷ xs) last = tt
items_small (items.Func f ∷ xs) last = bind (λ (m : Module). IsMain f) (λ (m : Module). IsSmall (record { items = items.Func f ∷ xs; «end» = last })) (main_of f last) (last_item xs) (main_small f last) (λ m h. alone_small f xs last m h)

given : (P : Type 0) (r : Result Module Place) (m : Module) → Needs P r → r ≡ Ok m → P
given P r m h is = subst (λ (x : Result Module Place). Needs P x) is h

pub tree_is_small : (tree : Raw) (m : Module) → module_of tree ≡ Ok m → IsSmall tree
tree_is_small tree m is = given (IsSmall tree) (module_of tree) m (items_small tree.items tree.«end») is
